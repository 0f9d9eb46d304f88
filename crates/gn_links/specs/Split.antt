-- What a fault of links that are taken apart says.
use Rattle.std.specs.Prelude.{◌≡◌, Bool, true, List, Some, ⊤}
use Rattle.std.specs.List.{slice_get}
use Rattle.gn_links.specs.declared.split.SplitFault.{SplitFault}
use Rattle.gn_links.specs.declared.split.SplitFault.TheVariants.{Link, NoMemory}

-- what it may be, where it is known of each link, in order, whether its split may fail: the link that it names is one of those whose
-- split may
abbrev pub IsSplitFault : List Bool → SplitFault → Type 0
IsSplitFault may_not_split (Link k) = slice_get may_not_split k ≡ Some true
IsSplitFault may_not_split NoMemory = ⊤
