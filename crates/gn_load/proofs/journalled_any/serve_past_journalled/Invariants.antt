use Rattle.std.proofs.Common.{Some}
use Rattle.gn_journal.specs.Rings.{name_of}
use Rattle.gn_load.proofs.journalled_any.serve_past_journalled.Given as goal

abbrev pub ghosts-serve_past_named-N-Naming : goal.ghosts-serve_past_named-N-Naming
ghosts-serve_past_named-N-Naming g a = record { ring = Some (name_of a.fresh.producer.end) }

abbrev pub ghosts-serve_past_named-N-Configuring : goal.ghosts-serve_past_named-N-Configuring
ghosts-serve_past_named-N-Configuring g a = record { config = Some a.serve.now.config.now }
