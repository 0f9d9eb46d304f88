-- A Query Hit that a step admitted.
use Rattle.std.proofs.Common.{◌≡◌, ℕ, List, ◌∷◌, Some, sym, ap, subst}
use Rattle.std.specs.List.{Contains}
use Rattle.std.specs.Option.{option_to_list}
use Rattle.std.proofs.lemmas.List.Elements.{Contains-append_right}
use Rattle.gn_wire.specs.declared.kind.Kind.TheVariants.{Query}
use Rattle.gn_rules.specs.declared.config.Config.{Config}
use Rattle.gn_rules.specs.declared.receipt.Step.{Step}
use Rattle.gn_paths.specs.Networks.{AnswersCameBack, AnswersCrossBack, AnswersFollow, CarriesInTime, IsNetwork}
use Rattle.gn_paths.specs.Paths.{answered_kind}
use Rattle.gn_paths.specs.Sends.{admitted_by, admitted_on}
use Rattle.gn_paths.proofs.OriginLemmas.{admitted_later}
use Rattle.gn_witness.specs.Pair.{CameOver, HitAdmitted, pair}
use Rattle.gn_witness.proofs.LinkLemmas.{given_in}
use Rattle.gn_witness.proofs.PairLemmas.{itself}

-- what a step admitted is among all that was admitted
hit_among : {A : Type 0} (past : List (Step A)) (c : ℕ) (came : HitAdmitted past c) → Contains (admitted_on past c) came.hit
hit_among {A} past c came =
    subst (λ (steps : List (Step A)). Contains (admitted_on steps c) came.hit) (sym came.stands)
    (admitted_later came.later (came.step ∷ came.earlier) c came.hit
    (Contains-append_right (admitted_on came.earlier c) (option_to_list (admitted_by c came.step.event came.step.reply)) came.hit
    (given_in (admitted_by c came.step.event came.step.reply) came.hit came.admitted)))

-- what the laws say of a Query Hit that came over a link
module _ {A : Type 0} (back : AnswersCameBack A) (cross : AnswersCrossBack A) (follow : AnswersFollow A) (s : Config) (first second : List (Step A)) (c d : ℕ) where
  pub over : (came : HitAdmitted first c) → CarriesInTime second d first c → IsNetwork (pair s first c second d) → CameOver s first c second d
  over came timely net =
      let has = hit_among first c came in
      let answers : answered_kind came.hit.kind ≡ Some Query = ap answered_kind came.is_hit in
      record {
        joined = net;
        timely = timely;
        came = came;
        crossed = cross.answers s second first d c came.hit Query (net.legal 1) (net.carries 1 d 0 c (itself d (0, c))) (net.carries 0 c 1 d (itself c (1, d))) has answers;
        followed =
            follow s second came.later came.step came.earlier d c came.hit Query (net.legal 1) (subst (λ steps. CarriesInTime second d steps c) came.stands timely)
            came.admitted answers;
        back = back.hits (pair s first c second d) 0 c came.hit net has came.is_hit;
      }
