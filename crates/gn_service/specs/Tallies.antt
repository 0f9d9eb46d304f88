-- What the bodies of each link did.
use Rattle.std.specs.Prelude.{List, map}
use Rattle.gn_report.specs.declared.account.LinkAccount.{LinkAccount}
use Rattle.gn_report.specs.declared.account.LinkTally.{LinkTally}

-- what the receipts of each of these links count, in order
abbrev pub tallies_of : {Rd W A : Type 0} → List (LinkAccount Rd W A) → List LinkTally
tallies_of links = map (λ link. record { read = link.read; written = link.written }) links
