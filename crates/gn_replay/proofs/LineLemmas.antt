-- Lines of a capture, one by one.
use Rattle.std.proofs.Common.{◌≡◌, ◌≤◌, ◌<◌, ◌+◌, ℕ, zero, suc, List, [], ◌∷◌, ◌++◌, length, get_or, refl, sym, ap, ◌∙◌, subst, arith}
use Rattle.std.proofs.Math.ListN.{set}
use Rattle.gn_text.specs.Links.{ended_text}
use Rattle.gn_replay.specs.declared.link.Link.{Link}
use Rattle.gn_replay.specs.declared.link.Link.TheVariants as keep
use Rattle.gn_replay.specs.Events.{Played, prints}
use Rattle.gn_replay.specs.Links.{LinkState, ended, IsLink, AreLinks}
use Rattle.gn_shake.specs.declared.role.Role.TheVariants.{Accepting}
use Rattle.gn_inbound.specs.declared.inbound.Inbound.{Inbound}
use Rattle.gn_inbound.specs.Inbound.{IsAt}
use Rattle.gn_replay.specs.Pieces.{Linked, awaits, feeds_link}
use Rattle.gn_replay.proofs.AdmitLemmas.{after_playing_nothing}
use Rattle.gn_replay.specs.Playing.{Playing, HasLinked, HasPlayed, after_playing, with_links}
use Rattle.gn_replay.specs.ReplayText.{After, event_plays, link_added, link_given, piece_plays, state_of, with_state}

-- as many links are kept as there are
same_length : {A : Type 0} (kept : List (Link A)) (states : List LinkState) → AreLinks kept states → length kept ≡ length states
same_length [] [] are = refl
same_length [] (y ∷ ys) are = absurd are
same_length (x ∷ xs) [] are = absurd are
same_length (x ∷ xs) (y ∷ ys) are = ap suc (same_length xs ys are.1)

-- one link more
links_more : {A : Type 0} (kept : List (Link A)) (states : List LinkState) (link : Link A) (state : LinkState) → AreLinks kept states → IsLink link state
    → AreLinks (kept ++ link ∷ []) (states ++ state ∷ [])
links_more [] [] link state are is = (is, tt)
links_more [] (y ∷ ys) link state are is = absurd are
links_more (x ∷ xs) [] link state are is = absurd are
links_more (x ∷ xs) (y ∷ ys) link state are is = (are.0, links_more xs ys link state are.1 is)

-- the link at a place
link_at : {A : Type 0} (kept : List (Link A)) (states : List LinkState) (i : ℕ) (link : Link A) → AreLinks kept states → i < length kept → link ≡ get_or kept i link
    → IsLink link (get_or states i ended)
link_at [] ys i link are inside there = absurd (omega arith)
link_at (x ∷ xs) [] i link are inside there = absurd are
link_at (x ∷ xs) (y ∷ ys) zero link are inside there = rw there are.0
link_at (x ∷ xs) (y ∷ ys) (suc i) link are inside there = link_at xs ys i link are.1 (omega (arith, inside)) there

-- the link at a place, written anew
links_set : {A : Type 0} (kept : List (Link A)) (states : List LinkState) (i : ℕ) (link : Link A) (state : LinkState) → AreLinks kept states → IsLink link state
    → AreLinks (set kept i link) (set states i state)
links_set [] [] i link state are is = tt
links_set [] (y ∷ ys) i link state are is = absurd are
links_set (x ∷ xs) [] i link state are is = absurd are
links_set (x ∷ xs) (y ∷ ys) zero link state are is = (is, are.1)
links_set (x ∷ xs) (y ∷ ys) (suc i) link state are is = (are.0, links_set xs ys i link state are.1 is)

-- a place written twice
set_again : {X : Type 0} (xs : List X) (i : ℕ) (x y : X) → set (set xs i x) i y ≡ set xs i y
set_again [] i x y = refl
set_again (z ∷ zs) zero x y = refl
set_again (z ∷ zs) (suc i) x y = ap (λ ys. z ∷ ys) (set_again zs i x y)

-- a place after the last
set_past : {X : Type 0} (xs : List X) (i : ℕ) (x : X) → length xs ≤ i → set xs i x ≡ xs
set_past [] i x beyond = refl
set_past (z ∷ zs) zero x beyond = absurd (omega (arith, beyond))
set_past (z ∷ zs) (suc i) x beyond = ap (λ ys. z ∷ ys) (set_past zs i x (omega (arith, beyond)))

get_or_past : {X : Type 0} (xs : List X) (i : ℕ) (d : X) → length xs ≤ i → get_or xs i d ≡ d
get_or_past [] i d beyond = refl
get_or_past (z ∷ zs) zero d beyond = absurd (omega (arith, beyond))
get_or_past (z ∷ zs) (suc i) d beyond = get_or_past zs i d (omega (arith, beyond))

-- an event, or a text: the links stay
pub played_event : {A : Type 0} (v after : Playing A) (p : Played A) (states : List LinkState) → after ≡ after_playing v p → AreLinks v.links states → HasPlayed v after (event_plays states p)
played_event v after p states done are =
    let same : after.links ≡ v.links = ap (λ (w : Playing _). w.links) done in
    record { played = done ∙ ap (with_links (after_playing v p)) (sym same); links = rw same are }

-- a new link
pub played_link : {A : Type 0} (v between after : Playing A) (link : Link A) (linked : Linked A) (states : List LinkState) → HasLinked link v between linked
    → after ≡ with_links between (between.links ++ link ∷ []) → AreLinks v.links states → HasPlayed v after (link_added states linked)
played_link v between after link linked states done added are =
    let same : between.links ≡ v.links = ap (λ (w : Playing _). w.links) done.played in
    let now : after.links ≡ v.links ++ link ∷ [] = ap (λ (w : Playing _). w.links) added ∙ ap (λ (ls : List (Link _)). ls ++ link ∷ []) same in
    record {
      played = added ∙ ap (λ (w : Playing _). with_links w (between.links ++ link ∷ [])) done.played ∙ ap (with_links (after_playing v linked.played)) (sym (ap (λ (w : Playing _). w.links) added));
      links = rw now (links_more v.links states link linked.state are done.state);
    }

-- what a piece of link i does, with the link at place n
abbrev link_at_given : {A : Type 0} → Playing A → ℕ → ℕ → List ℕ → List LinkState → After A
link_at_given v i n piece states = link_given states n (feeds_link v.settings v.past i piece (state_of states n))

-- a piece of a link that is there
pub played_piece : {A : Type 0} (v taken fed after : Playing A) (i at : ℕ) (piece : List ℕ) (link kept : Link A) (states : List LinkState)
    → i ≡ at + 1 → at < length v.links → link ≡ get_or v.links at link → taken ≡ with_links v (set v.links at keep.Ended)
    → ((state : LinkState) → IsLink link state → HasLinked kept taken fed (feeds_link taken.settings taken.past i piece state))
    → after ≡ with_links fed (set fed.links at kept) → AreLinks v.links states
    → HasPlayed v after (piece_plays v.settings v.past states i piece)
played_piece {A} v taken fed after i at piece link kept states place inside there out fed_is put are =
    let state = get_or states at ended in
    let found : IsLink link state = link_at v.links states at link are inside there in
    let linked : Linked A = feeds_link v.settings v.past i piece state in
    let done : HasLinked kept (with_links v (set v.links at keep.Ended)) fed linked =
    subst (λ (w : Playing A). HasLinked kept w fed (feeds_link w.settings w.past i piece state)) out (fed_is state found) in
    let left : fed.links ≡ set v.links at keep.Ended = ap (λ (w : Playing A). w.links) done.played in
    let there_now : after.links ≡ set fed.links at kept = ap (λ (w : Playing A). w.links) put in
    let now : after.links ≡ set v.links at kept =
    there_now ∙ ap (λ (ls : List (Link A)). set ls at kept) left ∙ set_again v.links at keep.Ended kept in
    let all : HasPlayed v after (record { played = linked.played; links = set states at linked.state }) =
    record {
      played = put ∙ ap (λ (w : Playing A). with_links w (set fed.links at kept)) done.played ∙ ap (with_links (after_playing v linked.played)) (sym there_now);
      links = subst (λ (ls : List (Link A)). AreLinks ls (set states at linked.state)) (sym now) (links_set v.links states at kept linked.state are done.state);
    } in
    let next : i ≡ suc at = omega (arith, place) in
    subst (λ (n : ℕ). HasPlayed v after (link_at_given v i n piece states)) (sym next) all

-- no link is at a place after the last, nor at 0
none_at : (states : List LinkState) (i : ℕ) → (1 ≤ i → length states < i) → (state_of states i ≡ ended) × (with_state states i ended ≡ states)
none_at states zero outside = (refl, refl)
none_at states (suc at) outside =
    let beyond : length states ≤ at = omega (arith, outside (omega arith)) in
    (get_or_past states at ended beyond, set_past states at ended beyond)

-- a piece of a link that isn't there
pub played_none : {A : Type 0} (v after : Playing A) (i : ℕ) (piece : List ℕ) (states : List LinkState) → (1 ≤ i → length v.links < i)
    → after ≡ after_playing v (prints v.past (ended_text i)) → AreLinks v.links states → HasPlayed v after (piece_plays v.settings v.past states i piece)
played_none {A} v after i piece states outside printed are =
    let none = none_at states i (λ one. omega (arith, outside one, same_length v.links states are)) in
    let linked : Linked A = record { played = prints v.past (ended_text i); state = ended } in
    let all : HasPlayed v after (record { played = linked.played; links = with_state states i ended }) =
    subst (λ (ys : List LinkState). HasPlayed v after (record { played = linked.played; links = ys })) (sym none.1) (played_event v after linked.played states printed are) in
    subst (λ (state : LinkState). HasPlayed v after (link_given states i (feeds_link v.settings v.past i piece state))) (sym none.0) all

pub ruleset lines = (played_event, played_link)

-- a link that awaits its greeting has no bytes yet
pub awaiting : {A : Type 0} (v : Playing A) (inbound : Inbound A) → IsAt Accepting [] inbound → HasLinked (keep.Greeting inbound) v v (awaits v.past)
awaiting v inbound new = record { played = sym (after_playing_nothing v); state = (new, refl) }
