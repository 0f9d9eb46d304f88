-- Two counts of readers, by which a run knows that it waits for none, with no look at each link.
use Rattle.std.specs.Prelude.{ℕ, Bool, ◌==◌, ◌&&◌, ◌||◌, not, if◌then◌else◌}
use Rattle.gn_shake.specs.Greeting.{is_calling}
use Rattle.gn_hub.specs.declared.mark.Mark.{Mark}

-- whether a link has a reader that isn't done, and doesn't call
abbrev pub reads_uncalled : Mark → Bool
reads_uncalled mark = not mark.is_done && not (is_calling mark.role)

-- whether a link has a reader that isn't done, and calls
abbrev pub reads_called : Mark → Bool
reads_called mark = not mark.is_done && is_calling mark.role

-- one where it is so, else none
abbrev pub one_if : Bool → ℕ
one_if is = if is then 1 else 0

-- whether a run waits for no reader, by how many aren't done of links that don't call, and of those that do
abbrev pub waits_for_none : Bool → ℕ → ℕ → Bool
waits_for_none all_call uncalled called = (uncalled == 0) && (not all_call || (called == 0))
