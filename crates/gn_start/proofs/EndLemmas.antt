-- The table of links, once all have ended.
use Rattle.std.proofs.Common.{◌≡◌, ◌<◌, ℕ, Bool, true, false, List, [], ◌∷◌, Option, Some, None, length, map, get_or, suc, zero, refl, sym, ap, ◌∙◌, arith}
use Rattle.std.specs.List.{filter_map, slice_get}
use Rattle.std.proofs.lemmas.Option.{slice_get-get_or}
use Rattle.gn_rules.specs.declared.receipt.Receipt.{Receipt}
use Rattle.gn_actors.specs.Registry.{RegistryState}
use Rattle.gn_actors.specs.declared.who.Numbering.{Numbering}
use Rattle.gn_report.specs.declared.account.LinkAccount.{LinkAccount}
use Rattle.gn_report.specs.declared.account.LinkEnd.{LinkEnd}
use Rattle.gn_report.specs.declared.account.LinkEnd.TheVariants.{Whole, Cut}
use Rattle.gn_start.specs.Seats.{Seat}
use Rattle.gn_start.specs.Table.{AreFree, IsLinkTable, MayBe, ends_of, ends_so_far, seat_for}
use Rattle.gn_start.specs.declared.incoming.NewLink.{NewLink}
use Rattle.gn_start.specs.declared.states.LinkState.{LinkState}
use Rattle.gn_start.specs.declared.states.LinkState.TheVariants.{At, Ended, Lost}

-- each of these links has ended
abbrev pub AllEnded : {Rd W A : Type 0} → List (LinkState Rd W A) → Type 0
AllEnded {Rd} {W} {A} states = (k : ℕ) → k < length states → (c : NewLink Rd W) × (e : LinkEnd Rd W A) × (slice_get states k ≡ Some (Ended c e))

-- they have, where all slots are free and nothing is lost
pub all_ended : {Rd W A : Type 0} (kept : NewLink Rd W → LinkEnd Rd W A → List (Receipt A) → List (Receipt A) → Type 0) (one : NewLink Rd W → Type 0) (m : Numbering) (came : ℕ) (faulty : Bool) (live : List (Option (Seat Rd W)))
    (states : List (LinkState Rd W A)) (r : RegistryState A) → IsLinkTable kept one m came false faulty live states r → AreFree live → AllEnded states
all_ended {Rd} {W} {A} kept one m came faulty live states r t free k below =
    let at : (s : LinkState Rd W A) → slice_get states k ≡ Some s → (c : NewLink Rd W) × (e : LinkEnd Rd W A) × (slice_get states k ≡ Some (Ended c e)) =
    elim [
      | At i c ↦ λ e. let no : None ≡ Some (seat_for m k c) = sym (free i) ∙ t.there k i c e in absurd (cc no)
      | Ended c g ↦ λ e. (c, g, e)
      | Lost c ↦ λ e. let no : false ≡ true = t.may k (Lost c) e in absurd (cc no)
    ] in
    let some : (xs : List (LinkState Rd W A)) → k < length xs → LinkState Rd W A = elim [
      | [] ↦ λ low. absurd (omega (arith, low))
      | x ∷ xs ↦ λ low. x
    ] in
    let d = some states below in
    at (get_or states k d) (slice_get-get_or states k d below)

-- then what each left stands at its place
pub ends_long : {Rd W A : Type 0} (states : List (LinkState Rd W A)) → AllEnded states → length (ends_of states) ≡ length states
ends_long [] all = refl
ends_long (At i c ∷ states) all = let first = all 0 (omega arith) in let no = first.2 in absurd (cc no)
ends_long (Lost c ∷ states) all = let first = all 0 (omega arith) in let no = first.2 in absurd (cc no)
ends_long (Ended c g ∷ states) all = ap suc (ends_long states (λ k below. all (suc k) (omega (arith, below))))

pub ends_at : {Rd W A : Type 0} (states : List (LinkState Rd W A)) → AllEnded states → (k : ℕ) (e : LinkEnd Rd W A) → slice_get (ends_of states) k ≡ Some e → (c : NewLink Rd W) × (slice_get states k ≡ Some (Ended c e))
ends_at [] all k e h = absurd (cc h)
ends_at (At i c ∷ states) all k e h = let first = all 0 (omega arith) in let no = first.2 in absurd (cc no)
ends_at (Lost c ∷ states) all k e h = let first = all 0 (omega arith) in let no = first.2 in absurd (cc no)
ends_at {Rd} {W} {A} (Ended c g ∷ states) all zero e h = let same : g ≡ e = (cc h) in (c, ap (λ (x : LinkEnd Rd W A). Some (Ended c x)) same)
ends_at (Ended c g ∷ states) all (suc k) e h = ends_at states (λ j below. all (suc j) (omega (arith, below))) k e h

pub ends_some : {Rd W A : Type 0} (states : List (LinkState Rd W A)) → AllEnded states → ends_so_far states ≡ map (λ e. Some e) (ends_of states)
ends_some [] all = refl
ends_some (At i c ∷ states) all = let first = all 0 (omega arith) in let no = first.2 in absurd (cc no)
ends_some (Lost c ∷ states) all = let first = all 0 (omega arith) in let no = first.2 in absurd (cc no)
ends_some {Rd} {W} {A} (Ended c g ∷ states) all = ap (λ (w : List (Option (LinkEnd Rd W A))). Some g ∷ w) (ends_some states (λ k below. all (suc k) (omega (arith, below))))

-- the account of a link that has one
abbrev pub account_in : {Rd W A : Type 0} → LinkEnd Rd W A → Option (LinkAccount Rd W A)
account_in (Whole link) = Some link
account_in (Cut tally) = None

abbrev pub accounts_of : {Rd W A : Type 0} → List (LinkEnd Rd W A) → List (LinkAccount Rd W A)
accounts_of ends = filter_map account_in ends

-- each of these ends is an account
abbrev pub AllWhole : {Rd W A : Type 0} → List (LinkEnd Rd W A) → Type 0
AllWhole {Rd} {W} {A} ends = (k : ℕ) (e : LinkEnd Rd W A) → slice_get ends k ≡ Some e → (link : LinkAccount Rd W A) × (e ≡ Whole link)

pub all_whole : {Rd W A : Type 0} (ends : List (LinkEnd Rd W A)) → AllWhole ends → ends ≡ map (λ link. Whole link) (accounts_of ends)
all_whole [] all = refl
all_whole (Cut tally ∷ ends) all = let first = all 0 (Cut tally) refl in let no = first.1 in absurd (cc no)
all_whole {Rd} {W} {A} (Whole link ∷ ends) all = ap (λ (w : List (LinkEnd Rd W A)). Whole link ∷ w) (all_whole ends (λ k e h. all (suc k) e h))

-- so it is in a run without a fault
pub whole_without_fault : {Rd W A : Type 0} (kept : NewLink Rd W → LinkEnd Rd W A → List (Receipt A) → List (Receipt A) → Type 0) (one : NewLink Rd W → Type 0) (m : Numbering) (came : ℕ) (live : List (Option (Seat Rd W)))
    (states : List (LinkState Rd W A)) (r : RegistryState A) → IsLinkTable kept one m came false false live states r → AllEnded states → AllWhole (ends_of states)
whole_without_fault {Rd} {W} {A} kept one m came live states r t all k e h =
    let at = ends_at states all k e h in
    let of : (g : LinkEnd Rd W A) → MayBe false false (Ended at.0 g) → (link : LinkAccount Rd W A) × (g ≡ Whole link) =
    elim [
      | Whole link ↦ λ may. (link, refl)
      | Cut tally ↦ λ may. let no : false ≡ true = may in absurd (cc no)
    ] in
    of e (t.may k (Ended at.0 e) at.1)
