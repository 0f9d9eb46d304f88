-- A reader, a writer, a worker or the house is confirmed where each test of it holds.
use Rattle.std.proofs.Common.{◌≡◌, ◌≤◌, ◌<◌, ◌+◌, ◌&&◌, ◌||◌, ◌∙◌, ℕ, Bool, true, false, not, List, ◌∷◌, drop, get_or, length, sym, ap, subst}
use Rattle.std.specs.List.{count_by, list_all, list_any}
use Rattle.std.specs.Option.{option_or}
use Rattle.std.proofs.lemmas.List.{at_drop_more}
use Rattle.gn_rules.specs.declared.receipt.Receipt.{Receipt}
use Rattle.gn_rules.specs.declared.receipt.Step.{Step}
use Rattle.gn_rules.specs.History.{closed_of, is_at, is_close}
use Rattle.gn_shake.specs.declared.role.Role.{Role}
use Rattle.gn_laws.specs.Owners.{is_readers, is_writers}
use Rattle.gn_report.specs.declared.report.LinkReport.{LinkReport}
use Rattle.gn_report.specs.Actors.{is_awaited_reader}
use Rattle.gn_report.specs.BodyEnds.{is_connect, is_reader_end, is_writer_end, may_close_first}
use Rattle.gn_report.proofs.ConnLemmas.{conn_made, conn_more, made_by}
use Rattle.gn_report.specs.Flaw.{ReaderConfirmed, WriterConfirmed}

-- a reader whose other tests hold is confirmed exactly where its end is
pub reader_by_end : {Rd W A : Type 0} (steps : List (Step A)) (all : Bool) (w : ℕ) (role : Role) (link : LinkReport Rd W A) (own : List (Receipt A)) (end : Bool)
    → own ≡ link.reader_receipts.items → link.conn ≡ conn_made own → list_all (λ r. is_readers link.conn r.event) own ≡ true
    → count_by (λ r. is_connect r.event) own ≤ 1
    → end ≡ is_reader_end steps w (may_close_first all role link.writer_end) link.reader_receipts.items link.reader_end link.conn
    → (end ≡ true → ReaderConfirmed steps all w role link) × (ReaderConfirmed steps all w role link → end ≡ true)
reader_by_end {A} steps all w role link own end same conn events once is = (
  (λ e. record {
    conn = conn ∙ ap conn_made same;
    events = subst (λ (rs : List (Receipt A)). list_all (λ r. is_readers link.conn r.event) rs ≡ true) same events;
    once = subst (λ (rs : List (Receipt A)). count_by (λ r. is_connect r.event) rs ≤ 1) same once;
    end = sym is ∙ e;
  }),
  (λ h. is ∙ h.end),
)

-- a writer whose other tests hold is confirmed exactly where its end is
pub writer_by_end : {Rd W A : Type 0} (settled : ℕ → Bool) (roles : List Role) (steps : List (Step A)) (a : ℕ) (role : Role) (link : LinkReport Rd W A) (own : List (Receipt A)) (end : Bool)
    → own ≡ link.writer_receipts.items → list_all (λ r. is_writers link.conn r.event) own ≡ true
    → end ≡ is_writer_end settled roles steps a role link.writer_receipts.items link.writer_end link.conn
    → (end ≡ true → WriterConfirmed settled roles steps a role link) × (WriterConfirmed settled roles steps a role link → end ≡ true)
writer_by_end {A} settled roles steps a role link own end same events is = (
  (λ e. record {
    events = subst (λ (rs : List (Receipt A)). list_all (λ r. is_writers link.conn r.event) rs ≡ true) same events;
    end = sym is ∙ e;
  }),
  (λ h. is ∙ h.end),
)

-- a chain of tests goes on where the tests so far hold, and ends where one of them doesn't
pub and_on : (v t r a b : Bool) → t ≡ true → t ≡ a → v ≡ r → r ≡ b → v ≡ (a && b)
and_on v t r true b on same is last = is ∙ last
and_on v t r false b on same is last = cc

pub and_off : (v t a b : Bool) → t ≡ false → t ≡ a → v ≡ false → v ≡ (a && b)
and_off v t true b off same is = cc
and_off v t false b off same is = is

-- two tests of which one is enough
pub or_on : (r a b : Bool) → r ≡ true → r ≡ a → r ≡ (a || b)
or_on r true b on same = on
or_on r false b on same = cc

pub or_off : (r t a b : Bool) → t ≡ false → t ≡ a → r ≡ b → r ≡ (a || b)
or_off r t true b off same is = cc
or_off r t false b off same is = is

-- a receipt of a writer is of the Close(c) of a drained connection
abbrev pub is_last_close : {A : Type 0} → (ℕ → Bool) → List Role → List (Step A) → ℕ → Receipt A → Bool
is_last_close settled roles steps c r =
    is_close c r.event && is_at 0 (closed_of r.reply) && settled r.index && list_all (λ step. not (is_awaited_reader roles step.actor)) (drop r.index steps)

-- a look at one item more
pub any_here : {X : Type 0} (p : X → Bool) (xs : List X) (i : ℕ) (x : X) → i < length xs → x ≡ get_or xs i x → list_any p (drop i xs) ≡ (p x || list_any p (drop (i + 1) xs))
any_here p xs i x below is = at_drop_more (list_any p) xs i x below ∙ ap (λ y. p y || list_any p (drop (i + 1) xs)) (sym is)

-- the connection of the receipts from one place on
pub made_here : {A : Type 0} (rs : List (Receipt A)) (i : ℕ) (r : Receipt A) → i < length rs → r ≡ get_or rs i r
    → conn_made (drop i rs) ≡ option_or (made_by r.event r.reply) (conn_made (drop (i + 1) rs))
made_here {A} rs i r below is =
    at_drop_more conn_made rs i r below ∙ ap (λ (x : Receipt A). conn_made (x ∷ drop (i + 1) rs)) (sym is) ∙ conn_more r (drop (i + 1) rs)

-- a test has one answer
pub clash : {P : Type 0} (b : Bool) → b ≡ true → b ≡ false → P
clash b e f = cc
