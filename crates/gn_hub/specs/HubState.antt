-- What the threads of a run share, as contracts see it.
use Rattle.std.specs.Prelude.{ℕ, Bool, true, false, ◌==◌, ◌&&◌, ◌||◌, not, List, [], ◌∷◌, ◌++◌, length, map, replicate, reverse, set, slice_index_or, Option, Some, None}
use Rattle.std.specs.List.{list_all}
use Rattle.gn_rules.specs.declared.config.Config.{Config}
use Rattle.gn_rules.specs.declared.event.Event.{Event}
use Rattle.gn_rules.specs.declared.receipt.Step.{Step}
use Rattle.gn_rules.specs.declared.reply.Reply.{Reply}
use Rattle.gn_rules.specs.declared.reply.Reply.TheVariants.{Connected}
use Rattle.gn_rules.specs.Flight.{flying}
use Rattle.gn_shake.specs.declared.role.Role.{Role}
use Rattle.gn_shake.specs.declared.role.Role.TheVariants.{Calling, Plain}
use Rattle.gn_shake.specs.Greeting.{is_awaited, is_calling}
use Rattle.gn_hub.specs.declared.mark.Door.{Door}
use Rattle.gn_hub.specs.declared.mark.Door.TheVariants.{Unmet, Met, Shut}
use Rattle.gn_hub.specs.declared.mark.Mark.{Mark}

-- the router's configuration and its steps in order, what is known of the links, each at its slot, whether more links may come, whether
-- all that came call, and whether the run has failed
pub record HubState (A : Type 0) : Type 0 where
  pub settings : Config
  pub steps : List (Step A)
  pub links : List Mark
  pub is_open : Bool
  pub all_call : Bool
  pub failed : Bool

-- the steps, the newest first
abbrev pub past_of : {A : Type 0} → HubState A → List (Step A)
past_of h = reverse h.steps

-- a link whose reader has neither connected nor ended
abbrev pub new_mark : Role → Mark
new_mark role = record { role = role; door = Unmet; is_done = false }

-- a free slot: the reader of its last link, if it had one, is done
abbrev pub free_mark : Mark
free_mark = record { role = Calling; door = Shut; is_done = true }

-- a run of known links begins: no steps, link k is at slot k with its door unmet, no further link may come, not failed
abbrev pub opening : {A : Type 0} → Config → List Role → HubState A
opening s roles = record {
  settings = s;
  steps = [];
  links = map new_mark roles;
  is_open = false;
  all_call = list_all is_calling roles;
  failed = false;
}

-- a run begins whose links come one after another, at most so many at once: no steps, each slot free, not failed
abbrev pub opening_for : {A : Type 0} → Config → ℕ → HubState A
opening_for s slots = record {
  settings = s;
  steps = [];
  links = replicate slots free_mark;
  is_open = true;
  all_call = true;
  failed = false;
}

-- one step more
abbrev pub with_step : {A : Type 0} → HubState A → ℕ → Event A → Reply A → HubState A
with_step h actor event reply =
    record h { steps = h.steps ++ record { actor = actor; event = event; reply = reply } ∷ [] }

-- what is known of the link at a slot
abbrev pub mark_at : {A : Type 0} → HubState A → ℕ → Mark
mark_at h link = slice_index_or h.links link (new_mark Plain)

-- the door of a link; shut where the run has no such link
abbrev pub door_of : Option Mark → Door
door_of None = Shut
door_of (Some mark) = mark.door

-- with the door of a link set; unchanged where the run has no such link
abbrev pub with_door : {A : Type 0} → HubState A → ℕ → Door → HubState A
with_door h link door = record h { links = set h.links link (record (mark_at h link) { door = door }) }

-- with the reader of a link marked as done; unchanged where the run has no such link
abbrev pub with_reader_done : {A : Type 0} → HubState A → ℕ → HubState A
with_reader_done h link = record h { links = set h.links link (record (mark_at h link) { is_done = true }) }

-- the door that the reply to a Connect opens or shuts
abbrev pub door_by : {A : Type 0} → Reply A → Door
door_by (Connected c) = Met c
door_by reply = Shut

-- whether a run waits for this link's reader no more: it is done, or isn't one that the run waits for
abbrev pub is_awaited_no_more : Bool → Mark → Bool
is_awaited_no_more all_call mark = mark.is_done || not (is_awaited all_call mark.role)

-- the run waits for none of these readers any more, where all links that came call or not
abbrev pub are_read : Bool → List Mark → Bool
are_read all_call links = list_all (is_awaited_no_more all_call) links

-- closing: no more links may come, nothing is in flight, and the readers that the run waits for are done: those of the links that don't
-- call, or all, where all links that came call
abbrev pub is_closing : {A : Type 0} → HubState A → Bool
is_closing h = not h.is_open && (length (flying (past_of h)) == 0) && are_read h.all_call h.links

-- whether a link that comes may take this slot: more links may come, and the slot is free
abbrev pub may_take : {A : Type 0} → HubState A → ℕ → Bool
may_take h slot = h.is_open && (mark_at h slot).is_done

-- with a link of this role at a slot
abbrev pub with_slot : {A : Type 0} → HubState A → ℕ → Role → HubState A
with_slot h slot role =
    record h { links = set h.links slot (new_mark role); all_call = h.all_call && is_calling role }
