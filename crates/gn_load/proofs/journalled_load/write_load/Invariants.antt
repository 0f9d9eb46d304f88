use Rattle.std.proofs.Common.{Some}
use Rattle.gn_journal.specs.Rings.{name_of}
use Rattle.gn_load.proofs.journalled_load.write_load.Given as goal

abbrev pub ghosts-load_named-N-Naming : goal.ghosts-load_named-N-Naming
ghosts-load_named-N-Naming g a = record { ring = Some (name_of a.fresh.producer.end) }

abbrev pub ghosts-load_named-N-Configuring : goal.ghosts-load_named-N-Configuring
ghosts-load_named-N-Configuring g a = record { config = Some a.load.asked.config.now }
