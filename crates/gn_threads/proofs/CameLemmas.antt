-- The links of a run that came in order are those that were to come.
use Rattle.std.proofs.Common.{◌≡◌, ◌+◌, ◌≤◌, ◌∙◌, ◌∷◌, ℕ, Bool, true, false, zero, suc, List, [], length, map, take, Option, Some, None, Result, Ok, Err, vec_len, refl, sym, ap, subst, arith}
use Rattle.std.specs.List.{slice_get}
use Rattle.std.specs.Prelude.{IfOk, IfSome}
use Rattle.std.proofs.lemmas.List.{length-map}
use Rattle.gn_shake.specs.declared.role.Role.{Role}
use Rattle.gn_report.specs.Ended.{LinkViews}
use Rattle.gn_report.specs.declared.account.LinkAccount.{LinkAccount}
use Rattle.gn_report.specs.declared.account.LinkEnd.{LinkEnd}
use Rattle.gn_report.specs.declared.account.LinkEnd.TheVariants.{Whole}
use Rattle.gn_report.specs.Accounts.{report_of}
use Rattle.gn_report.specs.declared.account.Account.{Account}
use Rattle.gn_report.specs.declared.kept.Kept.{Kept}
use Rattle.gn_rules.specs.declared.config.Config.{Config}
use Rattle.gn_rules.specs.Limits.{IsCrew, most_links}
use Rattle.gn_actors.specs.Registry.{registry_state}
use Rattle.gn_actors.specs.declared.who.Numbering.{Numbering}
use Rattle.gn_actors.specs.declared.who.Numbering.TheVariants.{Known, Open}
use Rattle.gn_start.specs.Numbers.{workers_of}
use Rattle.gn_start.specs.Over.{AllEnded, HaveCome}
use Rattle.gn_start.specs.declared.fault.RunFault.{RunFault}
use Rattle.gn_start.specs.declared.opening.Opened.{Opened}
use Rattle.gn_threads.specs.Answers.{AreArrived}
use Rattle.gn_threads.specs.Headline.{AreMadeOf, Holds}
use Rattle.gn_start.specs.Faults.{IsArrivingFault}
use Rattle.gn_threads.specs.OpenRuns.{IsOpenAnswer, IsOpenEnded, IsOpenFault, IsOpenHistory, IsRecalledAnswer}
use Rattle.gn_threads.specs.declared.open_account.OpenAccount.{OpenAccount}
use Rattle.std.proofs.lemmas.Simd.{map-map}
use Rattle.gn_threads.specs.Left.{IsFaultAt, IsOpenedFor, ends_in, may_in}
use Rattle.gn_start.proofs.FinishLemmas.{get_mapped}
use Rattle.gn_threads.proofs.HoldsLemmas.{are_arrived, are_made}
use Rattle.gn_start.specs.declared.over.Over.{Over}
use Rattle.gn_threads.proofs.ListLemmas.{all_of, first_of}

-- nothing stands past the end
pub get_past : {X : Type 0} (xs : List X) → slice_get xs (length xs) ≡ None
get_past [] = refl
get_past (x ∷ xs) = get_past xs

-- what stands in a list of images is the image of what stands there
from_map : {X Y : Type 0} (f : X → Y) (xs : List X) (k : ℕ) (y : Y) → slice_get (map f xs) k ≡ Some y → (x : X) × (slice_get xs k ≡ Some x) × (f x ≡ y)
from_map f [] k y is = absurd (cc)
from_map f (x ∷ xs) zero y is = (x, refl, cc)
from_map f (x ∷ xs) (suc k) y is = from_map f xs k y is

module _ {Rd W K B A O F : Type 0} (views : LinkViews Rd W O) (foreknown : O → F) (roles : List Role) (coming : List F) (over : Over Rd W K B A)
    (came : HaveCome views foreknown true (may_in roles coming) (ends_in roles) over) (here : over.is_lost ≡ false) (well : over.fault ≡ None) (accounts : List (LinkAccount Rd W A))
    (are : over.links.items ≡ map (λ link. Whole link) accounts) where
  -- the end of a link that has an account
  abbrev ended_whole : LinkAccount Rd W A → LinkEnd Rd W A
  ended_whole link = Whole link

  -- the account of a link
  ended_so : (k : ℕ) (link : LinkAccount Rd W A) → slice_get accounts k ≡ Some link → slice_get over.links.items k ≡ Some (Whole link)
  ended_so k link is =
      let whole : LinkAccount Rd W A → LinkEnd Rd W A = λ a. Whole a in
      ap (λ (es : List (LinkEnd Rd W A)). slice_get es k) are ∙ get_mapped whole accounts k link is

  -- they came in these roles, all of them
  pub roles_came : map (λ (link : LinkAccount Rd W A). link.role) accounts ≡ roles
  roles_came =
      let role : LinkAccount Rd W A → Role = λ link. link.role in
      let whole : LinkAccount Rd W A → LinkEnd Rd W A = λ a. Whole a in
      let many : length over.links.items ≡ length (map role accounts) = omega (arith, ap length are, length-map accounts whole, length-map accounts role) in
      all_of (map role accounts) roles
      (λ k r there.
      let one = from_map role accounts k r there in
      (came.may_come here k one.0 (ended_so k one.0 one.1)).0 ∙ ap (λ x. Some x) one.2)
      (ap (λ n. slice_get roles n) (sym many) ∙ came.no_more well refl)

  pub many_came : length over.links.items ≡ length roles
  many_came = omega (arith, ap length are, length-map accounts ended_whole, length-map accounts (λ (link : LinkAccount Rd W A). link.role), ap length roles_came)

  -- and of the links that were to come
  pub made_came : map (λ (link : LinkAccount Rd W A). foreknown (views.reader_of link.reader)) accounts ≡ take (length roles) coming
  made_came =
      let known : LinkAccount Rd W A → F = λ link. foreknown (views.reader_of link.reader) in
      let many : length (map known accounts) ≡ length roles = omega (arith, length-map accounts known, length-map accounts (λ (link : LinkAccount Rd W A). link.role), ap length roles_came) in
      first_of (map known accounts) coming
      (λ k f there.
      let one = from_map known accounts k f there in
      (came.may_come here k one.0 (ended_so k one.0 one.1)).1 ∙ ap (λ x. Some x) one.2)
      ∙ ap (λ n. take n coming) many

-- a run of so many links, which come in these roles, is opened for them
pub opened_for : {B A : Type 0} (roles : List Role) (n workers : ℕ) (opened : Opened B A) → opened.registry ≡ registry_state [] 0 [] → (opened.reception.made.intakes ≡ 0) × (opened.reception.is_open ≡ true)
    → vec_len opened.outlets ≡ workers → opened.numbering ≡ Known n workers → n ≡ length roles → IsCrew workers → length roles ≤ most_links → IsOpenedFor true (ends_in roles) opened
opened_for roles n workers opened registry reception working numbering many crew few = record {
  registry = registry;
  reception = reception;
  crew = (working ∙ ap workers_of (sym numbering), subst (λ w. IsCrew w) (sym working) crew);
  known = λ links w is.
      let same : Known n workers ≡ Known links w = sym numbering ∙ is in
      let here : n ≡ links = cc in
      (omega (arith, few, many, here), ap (λ k. slice_get roles k) (sym here ∙ many) ∙ get_past roles);
  unknown = λ w is. let no : Known n workers ≡ Open w = sym numbering ∙ is in absurd (cc);
}

module _ {Rd W B A O F : Type 0} (turns batch : ℕ) (views : LinkViews Rd W O) (foreknown : O → F) (s : Config) (roles : List Role) (coming : List F) (workers : ℕ) (over : Over Rd W (Kept Rd W A) B A)
    (came : HaveCome views foreknown true (may_in roles coming) (ends_in roles) over) (fault : Option RunFault) (stopped : fault ≡ None → over.fault ≡ None) (lost : over.fault ≡ None → over.is_lost ≡ false) where
  -- the headline holds of these roles
  pub holds_came : {E : Type 0} (answer : Result (Account Rd W A) E) → IfOk answer (λ account. (fault ≡ None) × (over.links.items ≡ map (λ link. Whole link) account.links.items))
      → IfOk answer (λ account. Holds batch views.reads views.writes s (map (λ link. link.role) account.links.items) workers (report_of account))
      → IfOk answer (λ account. Holds batch views.reads views.writes s roles workers (report_of account))
  holds_came (Ok account) links holds =
      subst (λ rs. Holds batch views.reads views.writes s rs workers (report_of account)) (roles_came views foreknown roles coming over came (lost (stopped links.0)) (stopped links.0) account.links.items links.1) holds
  holds_came (Err e) links holds = tt

  -- its links were made of those that were to come
  pub made_of_came : {E : Type 0} (answer : Result (Account Rd W A) E) → IfOk answer (λ account. (fault ≡ None) × (over.links.items ≡ map (λ link. Whole link) account.links.items))
      → IfOk answer (λ account. AllEnded turns batch views account.history.items account.links.items)
      → IfOk answer (λ account. AreMadeOf (λ reader. foreknown (views.reader_of reader)) (λ writer. foreknown (views.writer_of writer)) (take (length roles) coming) (report_of account))
  made_of_came (Ok account) links ended =
      are_made turns batch views account ended foreknown (take (length roles) coming) (made_came views foreknown roles coming over came (lost (stopped links.0)) (stopped links.0) account.links.items links.1)
  made_of_came (Err e) links ended = tt

  -- and each of its readers read its own
  pub arrived_came : {E : Type 0} (answer : Result (Account Rd W A) E) → IfOk answer (λ account. AllEnded turns batch views account.history.items account.links.items)
      → IfOk answer (λ account. AreArrived views.reads views.gives views.reader_of views.writer_of (report_of account))
  arrived_came (Ok account) ended = are_arrived turns batch views account ended
  arrived_came (Err e) ended = tt

-- the fault of a run of which nobody knew how many links come
some_fault : (has_peers : Bool) (came workers : ℕ) (fault : Option RunFault) → IfSome fault (λ f. IsArrivingFault has_peers (came + 1) workers f) → IfSome fault (λ f. IsOpenFault has_peers workers f)
some_fault has_peers came workers None may = tt
some_fault has_peers came workers (Some f) may = (came + 1, may)

pub open_fault : {Rd W K B A : Type 0} (has_peers : Bool) (m : Numbering) (over : Over Rd W K B A) (workers : ℕ) (fault : Option RunFault) → m ≡ Open workers → IsFaultAt has_peers m over fault
    → IfSome fault (λ f. IsOpenFault has_peers workers f)
open_fault has_peers m over workers fault is at = some_fault has_peers over.came workers fault (subst (λ n. IsFaultAt has_peers n over fault) is at).may

-- and of one of so many links that are known
pub known_fault : {Rd W K B A : Type 0} (has_peers : Bool) (m : Numbering) (over : Over Rd W K B A) (links workers : ℕ) (fault : Option RunFault) → m ≡ Known links workers → IsFaultAt has_peers m over fault
    → IfSome fault (λ f. IsArrivingFault has_peers links workers f)
known_fault has_peers m over links workers fault is at = (subst (λ n. IsFaultAt has_peers n over fault) is at).may

module _ {Rd W K B A O F : Type 0} (turns batch : ℕ) (views : LinkViews Rd W O) (foreknown : O → F) (s : Config) (workers : ℕ) (over : Over Rd W K B A) (is_known : Bool) (may : ℕ → Role → F → Type 0) (ends : ℕ → Type 0)
    (came : HaveCome views foreknown is_known may ends over) (fault : Option RunFault) (stopped : fault ≡ None → over.fault ≡ None) (lost : over.fault ≡ None → over.is_lost ≡ false) where
  each_came : (account : OpenAccount Rd W A) → (fault ≡ None) × (over.links.items ≡ map (λ link. Whole link) account.links.items)
      → (k : ℕ) (link : LinkAccount Rd W A) → slice_get account.links.items k ≡ Some link → may k link.role (foreknown (views.reader_of link.reader))
  each_came account links k link is =
      let whole : LinkAccount Rd W A → LinkEnd Rd W A = λ a. Whole a in
      let at : slice_get over.links.items k ≡ Some (whole link) =
      ap (λ (es : List (LinkEnd Rd W A)). slice_get es k) links.1 ∙ get_mapped whole account.links.items k link is in
      came.may_come (lost (stopped links.0)) k link at

  -- its links are the first of those that were to come
  pub open_answered : {E : Type 0} (originates : Bool) (answer : Result (OpenAccount Rd W A) E) → IfOk answer (λ account. (fault ≡ None) × (over.links.items ≡ map (λ link. Whole link) account.links.items))
      → IfOk answer (λ account. IsOpenEnded originates views batch s workers account) → IfOk answer (λ account. IsOpenAnswer originates views foreknown batch s workers may account)
  open_answered originates (Ok account) links ended = record { ended = ended; may_come = each_came account links }
  open_answered originates (Err e) links ended = tt

  -- whatever its house did
  pub open_recalled : {E : Type 0} (answer : Result (OpenAccount Rd W A) E) → IfOk answer (λ account. (fault ≡ None) × (over.links.items ≡ map (λ link. Whole link) account.links.items))
      → IfOk answer (λ account. IsOpenHistory views s workers account) → IfOk answer (λ account. IsRecalledAnswer views foreknown s workers may account)
  open_recalled (Ok account) links kept = record { kept = kept; may_come = each_came account links }
  open_recalled (Err e) links kept = tt

  -- who keeps what its links did keeps the accounts of all of them
  pub open_kept : {E : Type 0} (keeps : K → List (Option (LinkEnd Rd W A)) → Type 0) (keeper : K) (answer : Result (OpenAccount Rd W A) E) → keeper ≡ over.keeper
      → (over.is_lost ≡ false → keeps over.keeper (map (λ end. Some end) over.links.items)) → IfOk answer (λ account. (fault ≡ None) × (over.links.items ≡ map (λ link. Whole link) account.links.items))
      → IfOk answer (λ account. keeps keeper (map (λ link. Some (Whole link)) account.links.items))
  open_kept keeps keeper (Ok account) same kept links =
      let some : LinkEnd Rd W A → Option (LinkEnd Rd W A) = λ end. Some end in
      let whole : LinkAccount Rd W A → LinkEnd Rd W A = λ a. Whole a in
      let all = ap (map some) links.1 ∙ map-map some whole account.links.items in
      subst (λ k. keeps k (map (λ link. Some (Whole link)) account.links.items)) (sym same) (subst (λ ends. keeps over.keeper ends) all (kept (lost (stopped links.0))))
  open_kept keeps keeper (Err e) same kept links = tt
