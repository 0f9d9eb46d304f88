-- The accounts of links that have one.
use Rattle.std.specs.Prelude.{List, Some}
use Rattle.std.specs.List.{filter_map}
use Rattle.gn_report.specs.Accounts.{account_in}
use Rattle.gn_report.specs.declared.account.LinkAccount.{LinkAccount}
use Rattle.gn_report.specs.declared.account.LinkEnd.{LinkEnd}

-- the accounts of links that ended so, in order
abbrev pub accounts_of : {Rd W A : Type 0} → List (LinkEnd Rd W A) → List (LinkAccount Rd W A)
accounts_of ends = filter_map (λ end. account_in (Some end)) ends
