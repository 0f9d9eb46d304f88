-- What is compared of an actor, but that its receipts are its own steps, is what is compared of the reader, the writer, the worker or the house at its place.
use Rattle.std.proofs.Common.{◌≡◌, ◌≤◌, ◌<◌, ◌+◌, ◌-◌, ℕ, Bool, true, false, nat_lt, List, length, get_or, Vec, sym, ◌∙◌, subst, arith}
use Rattle.std.specs.Bool.{MatchBool}
use Rattle.std.specs.List.{list_all}
use Rattle.std.proofs.lemmas.Bool.{le-ltb, lt-ltb}
use Rattle.std.proofs.lemmas.List.{get_or_default}
use Rattle.gn_rules.specs.declared.receipt.Receipt.{Receipt}
use Rattle.gn_rules.specs.declared.receipt.Step.{Step}
use Rattle.gn_shake.specs.declared.role.Role.{Role}
use Rattle.gn_shake.specs.Greeting.{is_calling}
use Rattle.gn_report.specs.declared.report.LinkReport.{LinkReport}
use Rattle.gn_report.specs.declared.report.Report.{Report}
use Rattle.gn_report.specs.BodyEnds.{is_settled}
use Rattle.gn_report.specs.Flaw.{AreRoutes, HouseConfirmed, IsFitting, ReaderConfirmed, WriterConfirmed}
use Rattle.gn_report.proofs.ConfirmedLemmas.{match_false, match_true}

to_true : {P : Type 0} (Q : Type 0) (b : Bool) → b ≡ true → P → MatchBool b P Q
to_true Q true e h = h
to_true Q false e h = cc

to_false : {Q : Type 0} (P : Type 0) (b : Bool) → b ≡ false → Q → MatchBool b P Q
to_false P true e h = cc
to_false P false e h = h

pub reader_is : {Rd W A : Type 0} (settled : ℕ → Bool) (roles : List Role) (report : Report Rd W A) (P : Type 0) (a w : ℕ) (all : Bool) (steps : List (Step A)) (role e : Role) (link : LinkReport Rd W A)
    → (P → ReaderConfirmed steps all w role link) × (ReaderConfirmed steps all w role link → P)
    → steps ≡ report.history.items → all ≡ list_all is_calling roles → w ≡ length report.links.items + a
    → role ≡ get_or roles a e → link ≡ get_or report.links.items a link → a < length report.links.items → length roles ≡ length report.links.items
    → (P → IsFitting settled roles report a) × (IsFitting settled roles report a → P)
reader_is {Rd} {W} {A} settled roles report P a w all steps role e link both these calls writer at there below long =
    let n = length report.links.items in (
      (λ p. to_true _ (nat_lt a n) (lt-ltb a n below) (on (both.0 p))),
      (λ h. both.1 (back (match_true _ (nat_lt a n) (lt-ltb a n below) h e link))),
    )
  where
    on : ReaderConfirmed steps all w role link → (q : Role) (d : LinkReport Rd W A)
        → ReaderConfirmed report.history.items (list_all is_calling roles) (length report.links.items + a) (get_or roles a q) (get_or report.links.items a d)
    on h q d =
        subst (λ x. ReaderConfirmed report.history.items (list_all is_calling roles) (length report.links.items + a) (get_or roles a q) x) (there ∙ get_or_default report.links.items a link d below)
        (subst (λ x. ReaderConfirmed report.history.items (list_all is_calling roles) (length report.links.items + a) x link) (at ∙ get_or_default roles a e q (omega (arith, below, long)))
        (subst (λ x. ReaderConfirmed report.history.items (list_all is_calling roles) x role link) writer
        (subst (λ x. ReaderConfirmed report.history.items x w role link) calls (subst (λ x. ReaderConfirmed x all w role link) these h))))

    back : ReaderConfirmed report.history.items (list_all is_calling roles) (length report.links.items + a) (get_or roles a e) (get_or report.links.items a link) → ReaderConfirmed steps all w role link
    back h =
        subst (λ x. ReaderConfirmed x all w role link) (sym these)
        (subst (λ x. ReaderConfirmed report.history.items x w role link) (sym calls)
        (subst (λ x. ReaderConfirmed report.history.items (list_all is_calling roles) x role link) (sym writer)
        (subst (λ x. ReaderConfirmed report.history.items (list_all is_calling roles) (length report.links.items + a) x link) (sym at)
        (subst (λ x. ReaderConfirmed report.history.items (list_all is_calling roles) (length report.links.items + a) (get_or roles a e) x) (sym there) h))))

pub writer_is : {Rd W A : Type 0} (settled : ℕ → Bool) (roles : List Role) (report : Report Rd W A) (P : Type 0) (a i : ℕ) (role e : Role) (link : LinkReport Rd W A)
    → (P → WriterConfirmed settled roles report.history.items a role link) × (WriterConfirmed settled roles report.history.items a role link → P)
    → role ≡ get_or roles i e → link ≡ get_or report.links.items i link → i ≡ a - length report.links.items
    → length report.links.items ≤ a → a < length report.links.items + length report.links.items → length roles ≡ length report.links.items
    → (P → IsFitting settled roles report a) × (IsFitting settled roles report a → P)
writer_is {Rd} {W} {A} settled roles report P a i role e link both at there index high low long =
    let n = length report.links.items in (
      (λ p. to_false _ (nat_lt a n) (le-ltb a n high) (to_true _ (nat_lt a (n + n)) (lt-ltb a (n + n) low) (on (both.0 p)))),
      (λ h. both.1 (back (match_true _ (nat_lt a (n + n)) (lt-ltb a (n + n) low) (match_false _ (nat_lt a n) (le-ltb a n high) h) e link))),
    )
  where
    on : WriterConfirmed settled roles report.history.items a role link → (q : Role) (d : LinkReport Rd W A)
        → WriterConfirmed settled roles report.history.items a (get_or roles (a - length report.links.items) q) (get_or report.links.items (a - length report.links.items) d)
    on h q d =
        subst (λ j. WriterConfirmed settled roles report.history.items a (get_or roles j q) (get_or report.links.items j d)) index
        (subst (λ x. WriterConfirmed settled roles report.history.items a (get_or roles i q) x) (there ∙ get_or_default report.links.items i link d (omega (arith, index, high, low)))
        (subst (λ x. WriterConfirmed settled roles report.history.items a x link) (at ∙ get_or_default roles i e q (omega (arith, index, high, low, long))) h))

    back : WriterConfirmed settled roles report.history.items a (get_or roles (a - length report.links.items) e) (get_or report.links.items (a - length report.links.items) link)
        → WriterConfirmed settled roles report.history.items a role link
    back h =
        subst (λ x. WriterConfirmed settled roles report.history.items a x link) (sym at)
        (subst (λ x. WriterConfirmed settled roles report.history.items a (get_or roles i e) x) (sym there)
        (subst (λ j. WriterConfirmed settled roles report.history.items a (get_or roles j e) (get_or report.links.items j link)) (sym index) h))

pub worker_is : {Rd W A : Type 0} (settled : ℕ → Bool) (roles : List Role) (report : Report Rd W A) (P : Type 0) (a i : ℕ) (receipts : List (Receipt A)) (worker : Vec (Receipt A) A)
    → (P → AreRoutes receipts) × (AreRoutes receipts → P)
    → receipts ≡ worker.items → worker ≡ get_or report.workers.items i worker → i ≡ a - (length report.links.items + length report.links.items)
    → length report.links.items + length report.links.items ≤ a → a < length report.links.items + length report.links.items + length report.workers.items
    → (P → IsFitting settled roles report a) × (IsFitting settled roles report a → P)
worker_is {Rd} {W} {A} settled roles report P a i receipts worker both all there index high low =
    let n = length report.links.items in
    let m = n + n + length report.workers.items in (
      (λ p. to_false _ (nat_lt a n) (le-ltb a n (omega (arith, high)))
          (to_false _ (nat_lt a (n + n)) (le-ltb a (n + n) high) (to_true _ (nat_lt a m) (lt-ltb a m low) (on (both.0 p))))),
      (λ h. both.1 (back (match_true _ (nat_lt a m) (lt-ltb a m low)
          (match_false _ (nat_lt a (n + n)) (le-ltb a (n + n) high) (match_false _ (nat_lt a n) (le-ltb a n (omega (arith, high))) h)) worker))),
    )
  where
    on : AreRoutes receipts → (d : Vec (Receipt A) A) → AreRoutes (get_or report.workers.items (a - (length report.links.items + length report.links.items)) d).items
    on h d =
        subst (λ j. AreRoutes (get_or report.workers.items j d).items) index
        (subst (λ (x : Vec (Receipt A) A). AreRoutes x.items) (there ∙ get_or_default report.workers.items i worker d (omega (arith, index, high, low)))
        (subst (λ x. AreRoutes x) all h))

    back : AreRoutes (get_or report.workers.items (a - (length report.links.items + length report.links.items)) worker).items → AreRoutes receipts
    back h =
        subst (λ x. AreRoutes x) (sym all)
        (subst (λ (x : Vec (Receipt A) A). AreRoutes x.items) (sym there)
        (subst (λ j. AreRoutes (get_or report.workers.items j worker).items) (sym index) h))

pub house_is : {Rd W A : Type 0} (roles : List Role) (report : Report Rd W A) (P : Type 0) (a : ℕ) (steps : List (Step A)) (receipts : List (Receipt A))
    → (P → HouseConfirmed (is_settled steps) steps a receipts) × (HouseConfirmed (is_settled steps) steps a receipts → P)
    → steps ≡ report.history.items → receipts ≡ report.house.items → length report.links.items + length report.links.items + length report.workers.items ≤ a
    → (P → IsFitting (is_settled report.history.items) roles report a) × (IsFitting (is_settled report.history.items) roles report a → P)
house_is {Rd} {W} {A} roles report P a steps receipts both these all high =
    let n = length report.links.items in
    let m = n + n + length report.workers.items in (
      (λ p. to_false _ (nat_lt a n) (le-ltb a n (omega (arith, high)))
          (to_false _ (nat_lt a (n + n)) (le-ltb a (n + n) (omega (arith, high))) (to_false _ (nat_lt a m) (le-ltb a m high) (on (both.0 p))))),
      (λ h. both.1 (back (match_false _ (nat_lt a m) (le-ltb a m high)
          (match_false _ (nat_lt a (n + n)) (le-ltb a (n + n) (omega (arith, high))) (match_false _ (nat_lt a n) (le-ltb a n (omega (arith, high))) h))))),
    )
  where
    on : HouseConfirmed (is_settled steps) steps a receipts → HouseConfirmed (is_settled report.history.items) report.history.items a report.house.items
    on h = subst (λ x. HouseConfirmed (is_settled report.history.items) report.history.items a x) all (subst (λ x. HouseConfirmed (is_settled x) x a receipts) these h)

    back : HouseConfirmed (is_settled report.history.items) report.history.items a report.house.items → HouseConfirmed (is_settled steps) steps a receipts
    back h = subst (λ x. HouseConfirmed (is_settled x) x a receipts) (sym these) (subst (λ x. HouseConfirmed (is_settled report.history.items) report.history.items a x) (sym all) h)
