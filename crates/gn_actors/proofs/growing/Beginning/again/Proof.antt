-- `again` copies what was seen. Assumes `Logic`.
use Rattle.std.proofs.Common.{List, [], ◌∷◌, refl}
use mir.Syntax.{a_type, dcons, dnil, named}
use mir.Val.{Val, vptr}
use mir.MapTy.{inst_fn}
use base.Logic.{SProp, emp}
use base.Fml.{Fml, ftrue, fsep, flft}
use types.Kit.{‵, raw, ◌⊛◌, ◌$◌, ◌∵◌, !, qed, by, move, keep, split, fsplit, fsplit3, fjoin, fjoin3, use0, use1, feq_i}
use types.Run.{no_more, and_then, returns, enter}
use types.ByLocal.{alloc_all, pass_all, free_all, look_at, get, sets}
use types.Part.{agg}
use contract.Monad.{fact_i}
use contract.Running.{tables}
use denote.RattleType.{RattleType, owns}
use denote.Signature.{types_at, plain}
use denote.Ref.{mut_vals, mut_Tells}
use denote.Steps.{nothing, opens, closes}
use denote.Param.{param, bounded}
use denote.Struct.Tuple.{Tuple}
use denote.Triple.Walked.{Stays, stay_ref, walk_of, Goes-ref}
use Rattle.atomic_table.proofs.Walks.{proved}
use Rattle.logbook.proofs.Fields.{token, Token, token_made, ends}
use Rattle.gn_actors.specs.Growing.{beginning_owns}
use Rattle.gn_actors.specs.contracts.growing.Beginning as Beginning
use Rattle.gn_actors.proofs.Steps as steps
use Rattle.gn_actors.specs.contracts.growing.Beginning.again.{ended, clauses}
use Rattle.gn_actors.specs.contracts.growing.Beginning.again.Key.{name as #self}
use Rattle.gn_actors.proofs.growing.Beginning.again.Statement.{statement}
use Rattle.gn_actors.proofs.growing.Beginning.again.Code as code

pub again_spec : {M : Type 1} → statement M
again_spec 𝓤 𝓛 𝓜 𝓡 wired T N _ _ gn dn _ =
    let H = 𝓛.H in let 𝓣 = tables 𝓤 H 𝓜 𝓡 𝓡.env in let T' : RattleType = param 0 T in let N' : RattleType = param 1 N in let En = ended T N gn dn in
    let inst = bounded (a_type ∷ a_type ∷ []) (T, (N, tt)) (dcons dn dnil) in let fn = inst_fn inst code.function in let c = clauses T N gn dn 𝓛 𝓜.mem 𝓡.returns in
    let cv = T'.coded in let All : RattleType = Tuple (T' ∷ N' ∷ []) in let B : RattleType = Beginning.the_row T' N' gn in
    let hs : Stays En.signature.params En.kept = (stay_ref (0 ∷ []) tt (plain (λ _. B)), tt) in
    proved 𝓛 En hs c 𝓜 𝓡 (Goes-ref 𝓛 3 0 tt (plain (λ _. B)), tt) (#self inst) fn (code.unfolded 𝓤 H 𝓜 𝓡 wired (T, (N, tt)) dn)
    (λ κs. (mut_vals, tt)) (λ κs. (mut_Tells (named 0) κs.0 B, tt)) (λ κs qs bounds a gh are.
    let r = a.0 in let me : B.Denot = r.now in let rp = vptr r.ref_ptr.0 r.ref_ptr.1 in let K : Fml = beginning_owns cv.code gn.growing me.items in
    let y : (walk_of 𝓛 En hs c).Ghost = ((κs, qs, bounds, a, (rp ∷ [], tt)), gh) in let Post : Val → SProp 𝓤 = (walk_of 𝓛 En hs c).post y in let toks : Fml = fsep (flft κs.0 qs.0) (fsep (flft κs.1.0 qs.1.0) (fsep (flft κs.1.1.0 qs.1.1.0) (ftrue))) in
    qed 𝓛 ((‵ toks ⊛ ‵ (owns (types_at En.signature.params κs) a y.0.4)) ∷ raw ((c κs a).requires gh) ∷ []) ∵ keep ! (0 ∷ []) $ split ! $
    fsplit ! $ move ! (2 ∷ []) $ fsplit ! $ fsplit3 ! $ keep ! (1 ∷ 2 ∷ 4 ∷ 5 ∷ []) $
    enter ! 𝓣.C 𝓣.Λ fn (rp ∷ []) Post $ alloc_all ! (λ l. pass_all ! refl ((tt, tt), tt) $ opens ! tt B r.ref_ptr.0 r.ref_ptr.1 (λ cs. move ! (1 ∷ []) $ fsplit ! $ move ! (1 ∷ []) $
    use1 𝓛 (‵ K ⊛ ‵ K) (steps.twice 𝓛 cv gn.growing me.items) $ split ! $ move ! (2 ∷ 0 ∷ []) $ fjoin ! $ move ! (2 ∷ 0 ∷ 3 ∷ 4 ∷ 5 ∷ []) $ closes ! tt B me cs r.ref_ptr.0 r.ref_ptr.1 $
    use0 𝓛 (‵ ((Token All).own_val (record {}, tt) (token ∷ []))) (token_made All 𝓛) $ sets ! (agg ! (no_more !)) refl (tt, tt) $ sets ! (agg ! (and_then ! (get ! refl) (no_more !))) refl (tt, (tt, tt)) $
    move ! (0 ∷ 4 ∷ []) $ fjoin ! $ move ! (3 ∷ 4 ∷ []) $ fjoin ! $ nothing ! $ feq_i ! (List Val) (rp ∷ []) (rp ∷ []) refl $ move ! (0 ∷ 4 ∷ 5 ∷ []) $ fjoin3 ! $ fjoin ! $
    returns ! (look_at ! 0 refl) $ free_all ! refl $ keep ! (1 ∷ 0 ∷ 2 ∷ []) $ by ! (ends 𝓛 En hs c y token (record { of = record {}; items = me.items }) (me, tt) (tt, tt) (fact_i 𝓤 _ (emp 𝓤) (refl, refl))))))
