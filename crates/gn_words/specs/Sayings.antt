-- What the code says of an option, as the definitions see it.
use Rattle.std.specs.Borrow.{Bor}
use Rattle.clap.specs.Words.{Text}
use Rattle.gn_words.specs.ConfigTexts.{Saying, Number, Limit, Callers, Ip, Who, Again, Flag, Each}
use Rattle.gn_words.specs.declared.said.Said.{Said}
use Rattle.gn_words.specs.declared.said.Said.TheVariants as code

-- what stands behind an option, by what the code says
abbrev pub seen : Said → Saying
seen (code.Number number) = Number number
seen (code.Limit limit) = Limit limit
seen (code.Port port) = Limit port
seen (code.Callers accept) = Callers accept
seen (code.Ip ip) = Ip ip
seen (code.Who servent) = Who servent
seen (code.Again retry) = Again retry
seen (code.Flag is_set) = Flag is_set
seen (code.Each peers) = Each peers.now.items

-- an option's name, and what stands behind it
abbrev pub row_seen : Bor Text × Said → Text × Saying
row_seen row = (row.0.now, seen row.1)
