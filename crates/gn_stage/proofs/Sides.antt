-- What the desk has of the intakes, or of the outlets, through each kind of step.
use Rattle.std.proofs.Common.{◌≡◌, ◌≢◌, ◌==◌, ◌⊎◌, ℕ, ◌<◌, List, [], ◌∷◌, ◌++◌, sym, refl, ap, ◌∙◌, inl, inr, ⊎_elim, arith, cond, eq-eqb, ne_eqb, lt_of_not-le}
use Rattle.std.proofs.lemmas.List.Elements.{All-push}
use Rattle.std.proofs.lemmas.List.Quantifiers.{all_pairs_push}
use mathlib.Core.Option.{Option, some, none, some-injective, some-ne-none}
use native.Mathlib.Decide.{dec_le}
use Rattle.gn_stage.specs.Ends.{End}
use Rattle.gn_stage.specs.Rule.{Owned, owned, owned_by, Gathered, FitsSide, IsHome, AreHome, none_made, one_made, one_home}
use Rattle.gn_stage.proofs.Owners.{owned_by-other}

abbrev pub Seats : Type 0
Seats = ℕ → Option ℕ

pub free_apart : (s : Seats) (a b port : ℕ) → s a ≡ some port → s b ≡ none → a ≢ b
free_apart s a b port here free e = some-ne-none port (sym here ∙ ap s e ∙ free)

pub seats_apart : (s : Seats) (a b i j : ℕ) → s a ≡ some i → s b ≡ some j → j ≢ i → a ≢ b
seats_apart s a b i j at_i at_j other e = other (some-injective j i (sym at_j ∙ ap s (sym e) ∙ at_i))

abbrev pub seat_set : Seats → ℕ → Option ℕ → Seats
seat_set s a o k = cond (k == a) o (s k)

pub seat_here : (s : Seats) (a : ℕ) (o : Option ℕ) → seat_set s a o a ≡ o
seat_here s a o = rw (eq-eqb a a refl) refl

pub seat_else : (s : Seats) (a : ℕ) (o : Option ℕ) (k : ℕ) → k ≢ a → seat_set s a o k ≡ s k
seat_else s a o k n = rw (ne_eqb k a n) refl

pub same_or_not : (a b : ℕ) → (a ≡ b) ⊎ (a ≢ b)
same_or_not a b = elim (dec_le a b) [ yes le ↦ elim (dec_le b a) [ yes ge ↦ inl (omega arith) | no n ↦ inr (λ e. n (omega arith)) ] | no n ↦ inr (λ e. n (omega arith)) ]

-- a seat stays free
still_free : (s : Seats) (me k : ℕ) → s k ≡ none → seat_set s me none k ≡ none
still_free s me k free = ⊎_elim (λ (here : k ≡ me). ap (seat_set s me none) here ∙ seat_here s me none) (λ (off : k ≢ me). seat_else s me none k off ∙ free) (same_or_not k me)

-- a seat that was given up isn't one of those still held
pub still_held : (s : Seats) (me k j : ℕ) → seat_set s me none k ≡ some j → s k ≡ some j
still_held s me k j e =
    ⊎_elim (λ (here : k ≡ me). absurd (some-ne-none j (sym e ∙ ap (seat_set s me none) here ∙ seat_here s me none)))
    (λ (off : k ≢ me). sym (seat_else s me none k off) ∙ e) (same_or_not k me)

module _ {J : Type 0} where
  -- after one more job of an end that is out
  pub side_more : (g : Gathered J) (s : Seats) (all : List (Owned J)) (me : ℕ) (x : J) (port : ℕ) → s me ≡ some port → FitsSide g s all → FitsSide g s (all ++ owned me x ∷ [])
  side_more g s all me x port at h = record {
    later = λ k le. let l = h.later k le in (l.0, owned_by-other me k x all (free_apart s me k port at l.0) ∙ l.1);
    home = λ k d lt. let e = h.home k d lt in record { below = e.below; free = e.free; whole = e.whole ∙ sym (owned_by-other me _ x all (free_apart s me _ port at e.free)) };
    apart = h.apart;
  }

  -- after one more end was made
  pub side_made : (g : Gathered J) (s : Seats) (all : List (Owned J)) (port : ℕ) → FitsSide g s all → FitsSide (one_made g) (seat_set s g.made (some port)) all
  side_made g s all port h = record {
    later = λ k le. let l = h.later k (omega arith) in (seat_else s g.made (some port) k (λ e. omega arith) ∙ l.0, l.1);
    home = λ k d lt. let e = h.home k d lt in let below = e.below in record { below = omega arith; free = seat_else s g.made (some port) _ (λ same. omega arith) ∙ e.free; whole = e.whole };
    apart = h.apart;
  }

  -- after an end that is out came home
  pub side_home : (g : Gathered J) (s : Seats) (all : List (Owned J)) (e : End J) (port : ℕ) → s e.number ≡ some port → e.jobs ≡ owned_by e.number all → FitsSide g s all → FitsSide (one_home g e) (seat_set s e.number none) all
  side_home g s all e port at is h =
      let below : e.number < g.made = elim (dec_le g.made e.number) [ yes le ↦ absurd (some-ne-none port (sym at ∙ (h.later e.number le).0)) | no n ↦ lt_of_not-le n ] in
      let now = seat_set s e.number none in
      record {
        later = λ k le. let l = h.later k le in (still_free s e.number k l.0, l.1);
        home = All-push (IsHome g.made now all) g.home e
            (λ k d lt. let was = h.home k d lt in record { below = was.below; free = still_free s e.number _ was.free; whole = was.whole })
            (record { below = below; free = seat_here s e.number none; whole = is });
        apart = all_pairs_push (λ a b. a.number ≢ b.number) g.home e h.apart (λ k d lt same. free_apart s _ _ port at (h.home k d lt).free (sym same));
      }

  pub side_begins : FitsSide {J = J} none_made (λ k. none) []
  side_begins = record { later = λ k le. (refl, refl); home = λ k d lt. absurd (omega arith); apart = λ i j d lt below. absurd (omega arith) }

  -- with every end home no seat is held
  pub side_free : (g : Gathered J) (s : Seats) (all : List (Owned J)) → FitsSide g s all → FitsSide g (λ k. none) all
  side_free g s all h = record {
    later = λ k le. (refl, (h.later k le).1);
    home = λ k d lt. let e = h.home k d lt in record { below = e.below; free = refl; whole = e.whole };
    apart = h.apart;
  }

  pub all_free : (g : Gathered J) (s : Seats) (all : List (Owned J)) → AreHome g → FitsSide g s all → (k : ℕ) → s k ≡ none
  all_free g s all home h k = elim (dec_le g.made k) [
    | yes le ↦ (h.later k le).0
    | no n ↦ let e = home k (lt_of_not-le n) in let there = h.home e.0 e.1 e.2 in ap s (sym (ap (λ (y : End J). y.number) e.3 ∙ e.4)) ∙ there.free
  ]
