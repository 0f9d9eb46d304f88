-- `named` hands out the list by its name, and shows its beginning. Assumes `Logic`.
use Rattle.std.proofs.Common.{ℕ, List, [], ◌∷◌, ◌++◌, refl}
use mir.Syntax.{a_type, dcons, dnil}
use mir.Val.{Val, vstruct, vcons, vnil, of_list}
use mir.MapTy.{inst_fn}
use base.Logic.{SProp, emp}
use base.Fml.{Fml, ftrue, fsep, feq, flft}
use types.Kit.{‵, raw, ◌⊛◌, given, ◌$◌, ◌∵◌, !, qed, by, move, keep, drop, split, fsplit, fjoin, fjoin3, fpack, learn, use0, use1, rewrite, feq_i}
use types.Run.{no_more, and_then, returns, enter}
use types.ByLocal.{alloc_all, pass_all, free_all, look_at, get, sets}
use types.Part.{agg}
use contract.Monad.{fact, fact_i}
use contract.Running.{tables}
use denote.Exit.{no}
use denote.RattleType.{RattleType, owns, Valss}
use denote.Signature.{types_at, plain}
use denote.Steps.{nothing}
use denote.Param.{param, bounded}
use denote.Struct.Tuple.{Tuple}
use denote.Triple.Walked.{Stays, stay_dropped, walk_of, Goes-dropped}
use Rattle.atomic_table.proofs.Walks.{proved}
use Rattle.logbook.proofs.Fields.{token, Token, token_told, token_made, ends}
use Rattle.gn_actors.specs.Growing.{growing_owns, beginning_owns}
use Rattle.gn_actors.specs.contracts.growing.Unnamed as Unnamed
use Rattle.gn_actors.specs.contracts.growing.Growing as Growing
use Rattle.gn_actors.specs.contracts.growing.Beginning as Beginning
use Rattle.gn_actors.proofs.Steps as steps
use Rattle.gn_actors.specs.contracts.growing.Unnamed.named.{ended, clauses}
use Rattle.gn_actors.specs.contracts.growing.Unnamed.named.Key.{name as #self}
use Rattle.gn_actors.proofs.growing.Unnamed.named.Statement.{statement}
use Rattle.gn_actors.proofs.growing.Unnamed.named.Code as code

pub named_spec : {M : Type 1} → statement M
named_spec 𝓤 𝓛 𝓜 𝓡 wired T N _ _ gn dn _ =
    let H = 𝓛.H in let 𝓣 = tables 𝓤 H 𝓜 𝓡 𝓡.env in let T' : RattleType = param 0 T in let N' : RattleType = param 1 N in let En = ended T N gn dn in
    let inst = bounded (a_type ∷ a_type ∷ []) (T, (N, tt)) (dcons dn dnil) in let fn = inst_fn inst code.function in let c = clauses T N gn dn 𝓛 𝓜.mem 𝓡.returns in
    let cv = T'.coded in let All : RattleType = Tuple (T' ∷ N' ∷ []) in let G : RattleType = Growing.the_row T' N' gn in let B : RattleType = Beginning.the_row T' N' gn in let U : RattleType = Unnamed.the_row T' in
    let hs : Stays En.signature.params En.kept = (stay_dropped (plain (λ _. U)) no, tt) in
    proved 𝓛 En hs c 𝓜 𝓡 (Goes-dropped 𝓛 2 (plain (λ _. U)) no (λ κs x f. refl), tt) (#self inst) fn (code.unfolded 𝓤 H 𝓜 𝓡 wired (T, (N, tt)) dn)
    (λ κs. ((λ x. token ∷ []), tt)) (λ κs. ((λ x vs is. token_told T' vs is.0), tt)) (λ κs qs bounds a gh are.
    let u : U.Denot = a.0 in let g₀ : G.Denot = record { of = record {}; items = [] } in let b₀ : B.Denot = record { of = record {}; items = [] } in let v : Val = vstruct (vcons token (vcons token vnil)) in
    let y : (walk_of 𝓛 En hs c).Ghost = ((κs, qs, bounds, a, (token ∷ [], tt)), gh) in let Post : Val → SProp 𝓤 = (walk_of 𝓛 En hs c).post y in let toks : Fml = fsep (flft κs.0 qs.0) (fsep (flft κs.1.0 qs.1.0) (ftrue)) in
    qed 𝓛 ((‵ toks ⊛ ‵ (owns (types_at En.signature.params κs) a y.0.4)) ∷ raw (fact 𝓤 _) ∷ raw (fact 𝓤 _) ∷ given _ (‵ ftrue) ∷ []) ∵ keep ! (3 ∷ 0 ∷ []) $ learn ! (λ asked. drop ! $ split ! $
    move ! (1 ∷ []) $ fsplit ! $ fsplit ! $ keep ! (1 ∷ 3 ∷ []) $ rewrite ! 0 (λ (n : ℕ). ‵ (growing_owns cv.code n [])) asked refl $
    use1 𝓛 (‵ (growing_owns cv.code gn.growing []) ⊛ ‵ (beginning_owns cv.code gn.growing [])) (steps.shows 𝓛 cv gn.growing []) $ split ! $
    enter ! 𝓣.C 𝓣.Λ fn (token ∷ []) Post $ alloc_all ! (λ l. pass_all ! refl ((tt, (tt, tt)), tt) $
    sets ! (agg ! (no_more !)) refl (tt, tt) $ sets ! (agg ! (and_then ! (get ! refl) (no_more !))) refl (tt, (tt, tt)) $ sets ! (agg ! (no_more !)) refl (tt, tt) $ sets ! (agg ! (and_then ! (get ! refl) (no_more !))) refl (tt, (tt, tt)) $
    sets ! (agg ! (and_then ! (get ! refl) (and_then ! (get ! refl) (no_more !)))) refl (tt, ((tt, tt), ((tt, tt), tt))) $
    use0 𝓛 (‵ ((Token All).own_val (record {}, tt) (token ∷ []))) (token_made All 𝓛) $ fjoin ! $ move ! (1 ∷ []) $ use0 𝓛 (‵ ((Token All).own_val (record {}, tt) (token ∷ []))) (token_made All 𝓛) $ fjoin ! $ nothing ! $ move ! (2 ∷ 1 ∷ 0 ∷ []) $ fjoin3 ! $
    feq_i ! (List Val) (v ∷ []) (v ∷ []) refl $ fjoin ! $ fpack ! (Valss (G ∷ B ∷ [])) (λ vss. fsep (feq (List Val) (v ∷ []) (vstruct (of_list (vss.0 ++ (vss.1.0 ++ []))) ∷ [])) (owns (G ∷ B ∷ []) (g₀, (b₀, tt)) vss)) (token ∷ [], (token ∷ [], tt)) $
    nothing ! $ nothing ! $ fjoin ! $ returns ! (look_at ! 0 refl) $ free_all ! refl $ keep ! (2 ∷ 0 ∷ 1 ∷ []) $ by ! (ends 𝓛 En hs c y v (g₀, b₀) (tt, tt) (tt, tt) (fact_i 𝓤 _ (emp 𝓤) (refl, refl))))))
