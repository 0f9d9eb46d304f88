-- What follows of a reader's receipts, whatever its bytes were.
use Rattle.std.proofs.Common.{◌≡◌, inl, inr, ◌&&◌, ℕ, Bool, true, false, not, cond, List, [], ◌∷◌, map, is_some, Option, Some, None, refl, sym, ap, ◌∙◌}
use Rattle.std.specs.List.{list_all}
use Rattle.std.proofs.lemmas.Bool.{eq-eqb}
use Rattle.std.proofs.lemmas.List.Folds.{list_all-append}
use Rattle.gn_wire.specs.Packet.{Packet}
use Rattle.gn_rules.specs.declared.event.Event.{Event}
use Rattle.gn_rules.specs.declared.event.Event.TheVariants.{Connect, Close, Admit, Route}
use Rattle.gn_rules.specs.declared.receipt.Receipt.{Receipt}
use Rattle.gn_rules.specs.History.{is_close, ticket_of}
use Rattle.gn_laws.specs.Owners.{is_readers}
use Rattle.gn_bodies.specs.declared.ends.ReaderEnd.{ReaderEnd}
use Rattle.gn_bodies.specs.declared.ends.ReaderEnd.TheVariants.{Bytes, Fault, NotLive}
use Rattle.gn_bodies.specs.Events.{link_events_in}
use Rattle.gn_bodies.specs.ReaderRows.{ClosesMaybe, ReaderDid, WithClose, closes}

-- what all routes pass and all other events, all receipts do
all_by_link : {A : Type 0} (f : Event A → Bool) → ((t : ℕ) → f (Route t) ≡ true) → (own : List (Receipt A)) → list_all f (link_events_in own) ≡ true → list_all (λ r. f r.event) own ≡ true
all_by_link f routes [] all = refl
all_by_link {A} f routes (r ∷ own) all = by_event r.event all (all_by_link f routes own)
  where
    others : List (Event A)
    others = link_events_in own

    rest : Bool
    rest = list_all (λ (x : Receipt A). f x.event) own

    both : (b : Bool) → (b && list_all f others) ≡ true → (list_all f others ≡ true → rest ≡ true) → (b && rest) ≡ true
    both true here later = later here
    both false here later = absurd (cc)

    by_event : (event : Event A) → list_all f (cond (not (is_some (ticket_of event))) (event ∷ others) others) ≡ true → (list_all f others ≡ true → rest ≡ true) → (f event && rest) ≡ true
    by_event (Route t) here later = rw (routes t) (later here)
    by_event event here later = both (f event) here later

all_admits : {A : Type 0} (f : Event A → Bool) (c : ℕ) → ((d : Packet) → f (Admit c d) ≡ true) → (ds : List Packet) → list_all f (map (Admit c) ds) ≡ true
all_admits f c admits [] = refl
all_admits f c admits (d ∷ ds) = rw (admits d) (all_admits f c admits ds)

-- a test that a Connect, Admits on c and Routes pass, and, where its end closes, a Close of c
joined_all : {A : Type 0} (f : Event A → Bool) (end : ReaderEnd) (c : ℕ) (own : List (Receipt A)) → f Connect ≡ true → ((d : Packet) → f (Admit c d) ≡ true) → ((t : ℕ) → f (Route t) ≡ true) → (closes end ≡ true → f (Close c) ≡ true)
    → ReaderDid end (Some c) own → list_all (λ r. f r.event) own ≡ true
joined_all {A} f end c own connects admits routes close (joined, ds, events) =
    let before : list_all f (Connect ∷ map (Admit c) ds) ≡ true = rw connects (all_admits f c admits ds) in
    all_by_link f routes own (at (closes end) refl events before)
  where
    shut : (es before : List (Event A)) → f (Close c) ≡ true → WithClose c es before → list_all f before ≡ true → list_all f es ≡ true
    shut es before is (inl same) all = ap (list_all f) same ∙ all
    shut es before is (inr more) all = ap (list_all f) more ∙ list_all-append f before (Close c ∷ []) ∙ ap (λ b. b && (f (Close c) && true)) all ∙ ap (λ b. b && true) is

    at : (b : Bool) → closes end ≡ b → ClosesMaybe b c (link_events_in own) (Connect ∷ map (Admit c) ds) → list_all f (Connect ∷ map (Admit c) ds) ≡ true → list_all f (link_events_in own) ≡ true
    at true is did all = shut (link_events_in own) (Connect ∷ map (Admit c) ds) (close is) did all
    at false is did all = ap (list_all f) did ∙ all

-- its events are a reader's
pub readers_alone : {A : Type 0} (end : ReaderEnd) (conn : Option ℕ) (own : List (Receipt A)) → ReaderDid end conn own → list_all (λ r. is_readers conn r.event) own ≡ true
readers_alone end (Some c) own did = joined_all (is_readers (Some c)) end c own refl (λ d. eq-eqb c c refl) (λ t. refl) (λ is. eq-eqb c c refl) did
readers_alone {A} Bytes None own did = let other = did.0 in absurd (cc)
readers_alone {A} (Fault f) None own did = let other = did.0 in absurd (cc)
readers_alone {A} NotLive None own did = let other = did.0 in absurd (cc)
readers_alone {A} end None own did = ap (λ (rs : List (Receipt A)). list_all (λ r. is_readers None r.event) rs) did.1

-- where its end closes nothing, it closed nothing
pub closed_nothing : {A : Type 0} (end : ReaderEnd) (c : ℕ) (own : List (Receipt A)) → closes end ≡ false → ReaderDid end (Some c) own → list_all (λ r. not (is_close c r.event)) own ≡ true
closed_nothing end c own none did = joined_all (λ event. not (is_close c event)) end c own refl (λ d. refl) (λ t. refl) (λ is. let other : true ≡ false = sym is ∙ none in absurd (cc)) did
