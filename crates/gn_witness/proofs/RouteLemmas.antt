-- What the laws of one router say of a step that routes.
use Rattle.std.proofs.Common.{◌≡◌, ◌≢◌, ◌==◌, ℕ, Bool, true, false, List, [], ◌∷◌, length, Option, Some, None, Ok, ◌⊎◌, inl, inr, option_map, refl, sym, ap, subst, ◌∙◌}
use Rattle.std.proofs.lemmas.Bool.{true≢false}
use Rattle.gn_wire.specs.declared.kind.Kind.{Kind}
use Rattle.gn_wire.specs.declared.kind.Kind.TheVariants.{Push}
use Rattle.gn_rules.specs.declared.config.Config.{Config}
use Rattle.gn_rules.specs.declared.event.Event.TheVariants.{Route}
use Rattle.gn_rules.specs.declared.receipt.Step.{Step}
use Rattle.gn_rules.specs.Answer.{answer, is_request, IsLegal}
use Rattle.gn_rules.specs.Flight.{Admission, admission, in_flight, is_routed}
use Rattle.gn_rules.specs.History.{sends_of}
use Rattle.gn_paths.specs.Paths.{answered_kind, AnswersGoBack, PushesGoBack}
use Rattle.gn_paths.specs.Sends.{LifeFalls, RequestsSpread}
use Rattle.gn_paths.proofs.PathLemmas.{in_flight_is}
use Rattle.gn_witness.specs.Route.{Routes}

-- an admission that is found has the kind that is found
of_kind : (found : Option Admission) (kind : Kind) → option_map (λ (a : Admission). a.packet.kind) found ≡ Some kind
    → (a : Admission) × (found ≡ Some a) × (a.packet.kind ≡ kind)
of_kind None kind e = absurd (cc)
of_kind (Some a) kind e = (a, refl, cc)

-- what sends something, or else has this, has this
or_else : {X : Type 0} {P : Type 0} (xs : List X) → xs ≢ [] → (xs ≡ []) ⊎ P → P
or_else xs some (inl none) = absurd (some none)
or_else xs some (inr has) = has

-- what isn't found to be empty sends something
pub not_none : {X : Type 0} (found xs : List X) (empty : Bool) → empty ≡ false → empty ≡ (length found == 0) → found ≡ xs → xs ≢ []
not_none {X} found xs empty full is same none = true≢false (sym (is ∙ ap (λ (ys : List X). length ys == 0) (same ∙ none)) ∙ full)

module _ {A : Type 0} (back : AnswersGoBack A) (pushes : PushesGoBack A) (spread : RequestsSpread A) (falls : LifeFalls A) where
  pub routes_as : (s : Config) (past : List (Step A)) (step : Step A) (t : ℕ) (kind : Kind) → IsLegal s (step ∷ past) → sends_of step.reply ≢ []
      → step.event ≡ Route t → option_map (λ (a : Admission). a.packet.kind) (in_flight past t) ≡ Some kind → Routes s past step kind
  routes_as s past step t kind legal some is of =
      let answered : answer s past (Route t) ≡ Ok step.reply = subst (λ e. answer s past e ≡ Ok step.reply) is legal.0 in
      let found = of_kind (in_flight past t) kind of in
      let admitted : admission past t ≡ Some found.0 = in_flight_is (is_routed past t) (admission past t) found.0 found.1 in
      record {
        legal = legal;
        ticket = t;
        routed = found.0;
        routes = is;
        admitted = admitted;
        is_kind = found.2;
        some = some;
        answer = λ asked answers. or_else (sends_of step.reply) some (back s past t step.reply found.0 asked answered admitted (subst (λ k. answered_kind k ≡ Some asked) (sym found.2) answers));
        push = λ is_push. or_else (sends_of step.reply) some (pushes s past t step.reply found.0 answered admitted (subst (λ k. k ≡ Push) (sym found.2) is_push));
        request = λ asks c. spread s past t step.reply found.0 c legal.1 answered admitted (subst (λ k. is_request k ≡ true) (sym found.2) asks);
        life = falls s past t step.reply found.0 answered admitted;
      }
