use Rattle.std.proofs.Common.{◌≡◌, ◌≤◌, take, reverse}
use Rattle.std.specs.Map.{lookup}
use Rattle.gn_wire.specs.Keys.{is_same_key}
use Rattle.gn_rules.specs.SeenEntries.{seen_entries}
use Rattle.gn_search.specs.Place.{place}
use Rattle.gn_search.proofs.seen_entries.last_entry.Given as goal

abbrev pub invariant-loop-i : goal.invariant-loop-i
invariant-loop-i g l =
    record {
      bound : l.later ≤ l.i;
      source : l.source ≡ lookup (is_same_key l.key) (seen_entries (reverse (take l.i l.history)));
      later : l.later ≡ place (is_same_key l.key) (seen_entries (reverse (take l.i l.history)));
    }
