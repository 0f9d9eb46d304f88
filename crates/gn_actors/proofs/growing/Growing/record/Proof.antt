-- `record` compares what was seen with the list, and lets the list grow. Assumes `Logic`.
use Rattle.std.proofs.Common.{List, [], ◌∷◌, refl}
use mathlib.Core.List.{IsPrefix}
use mir.Syntax.{a_type, dcons, dnil, named}
use mir.Val.{Val, vunit, vptr}
use mir.MapTy.{inst_fn}
use base.Logic.{SProp, emp}
use base.Fml.{Fml, ftrue, fsep, flft}
use types.Kit.{‵, raw, ◌⊛◌, given, later, ◌$◌, ◌∵◌, !, qed, by, move, keep, drop, split, fsplit, fsplit3, fjoin, fjoin3, learn, use2, await, feq_i}
use types.Run.{unit_lit, of_opd, returns, enter}
use types.ByLocal.{alloc_all, pass_all, free_all, look_at, sets}
use contract.Monad.{fact, fact_i}
use contract.Running.{tables}
use denote.Exit.{yes}
use denote.RattleType.{RattleType, owns}
use denote.Signature.{types_at, plain}
use denote.Builtin.{RefOf}
use denote.Ref.{mut_vals, mut_Tells, shr_vals, shr_Tells}
use denote.Steps.{nothing, opens, closes}
use denote.Param.{param, bounded}
use denote.Struct.Tuple.{Tuple}
use denote.Triple.Walked.{Stays, stay_dropped, stay_ref, walk_of, Goes-dropped, Goes-ref}
use Rattle.atomic_table.proofs.Walks.{proved}
use Rattle.logbook.proofs.Fields.{ends}
use Rattle.gn_actors.specs.Growing.{growing_owns, beginning_owns}
use Rattle.gn_actors.specs.contracts.growing.Growing as Growing
use Rattle.gn_actors.specs.contracts.growing.Beginning as Beginning
use Rattle.gn_actors.proofs.Steps as steps
use Rattle.gn_actors.specs.contracts.growing.Growing.record.{ended, clauses}
use Rattle.gn_actors.specs.contracts.growing.Growing.record.Key.{name as #self}
use Rattle.gn_actors.proofs.growing.Growing.record.Statement.{statement}
use Rattle.gn_actors.proofs.growing.Growing.record.Code as code

pub record_spec : {M : Type 1} → statement M
record_spec 𝓤 𝓛 𝓜 𝓡 wired T N X W _ _ _ _ gn dn gw dw _ _ =
    let H = 𝓛.H in let 𝓣 = tables 𝓤 H 𝓜 𝓡 𝓡.env in let T' : RattleType = param 0 T in let N' : RattleType = param 1 N in let X' : RattleType = param 2 X in let En = ended T N X W gn dn gw dw in
    let inst = bounded (a_type ∷ a_type ∷ a_type ∷ a_type ∷ []) (T, (N, (X, (W, tt)))) (dcons dn (dcons dw dnil)) in let fn = inst_fn inst code.function in let c = clauses T N X W gn dn gw dw 𝓛 𝓜.mem 𝓡.returns in
    let cv = T'.coded in let All : RattleType = Tuple (T' ∷ N' ∷ []) in let G : RattleType = Growing.the_row T' N' gn in let B : RattleType = Beginning.the_row T' N' gn in
    let hs : Stays En.signature.params En.kept = (stay_ref (0 ∷ []) tt (plain (λ _. G)), (stay_ref (1 ∷ []) tt (plain (λ _. B)), (stay_dropped (RefOf (2 ∷ []) tt (plain (λ _. X')) (λ _. tt)) yes, tt))) in
    proved 𝓛 En hs c 𝓜 𝓡 (Goes-ref 𝓛 7 0 tt (plain (λ _. G)), (Goes-ref 𝓛 7 1 tt (plain (λ _. B)), (Goes-dropped 𝓛 7 (RefOf (2 ∷ []) tt (plain (λ _. X')) (λ _. tt)) yes (λ κs x f. refl), tt))) (#self inst) fn (code.unfolded 𝓤 H 𝓜 𝓡 wired (T, (N, (X, (W, tt)))) dn dw)
    (λ κs. (mut_vals, (mut_vals, (shr_vals, tt)))) (λ κs. (mut_Tells (named 0) κs.0 G, (mut_Tells (named 1) κs.1.0 B, (shr_Tells (named 2) κs.1.1.0 X', tt)))) (λ κs qs bounds a gh are.
    let r = a.0 in let s = a.1.0 in let more : List T.Denot = gw.list a.1.1.0.now in let g' : G.Denot = record { of = record {}; items = more } in let b' : B.Denot = record { of = record {}; items = more } in
    let rp = vptr r.ref_ptr.0 r.ref_ptr.1 in let sp = vptr s.ref_ptr.0 s.ref_ptr.1 in let xp = vptr a.1.1.0.ref_ptr.0 a.1.1.0.ref_ptr.1 in
    let y : (walk_of 𝓛 En hs c).Ghost = ((κs, qs, bounds, a, (rp ∷ [], (sp ∷ [], (xp ∷ [], tt)))), gh) in let Post : Val → SProp 𝓤 = (walk_of 𝓛 En hs c).post y in let toks : Fml = fsep (flft κs.0 qs.0) (fsep (flft κs.1.0 qs.1.0) (fsep (flft κs.1.1.0 qs.1.1.0) (fsep (flft κs.1.1.1.0 qs.1.1.1.0) (fsep (flft κs.1.1.1.1.0 qs.1.1.1.1.0) (fsep (flft κs.1.1.1.1.1.0 qs.1.1.1.1.1.0) (fsep (flft κs.1.1.1.1.1.1.0 qs.1.1.1.1.1.1.0) (ftrue))))))) in
    qed 𝓛 ((‵ toks ⊛ ‵ (owns (types_at En.signature.params κs) a y.0.4)) ∷ raw (fact 𝓤 _) ∷ raw (fact 𝓤 _) ∷ raw (fact 𝓤 _) ∷ raw (fact 𝓤 _) ∷ given _ (‵ ftrue) ∷ []) ∵ keep ! (5 ∷ 0 ∷ []) $ learn ! (λ grown. drop ! $ split ! $
    fsplit ! $ move ! (1 ∷ []) $ fsplit ! $ move ! (3 ∷ []) $ fsplit ! $ fsplit3 ! $ drop ! $ move ! (2 ∷ []) $ fsplit ! $ fsplit3 ! $ drop ! $ keep ! (3 ∷ 4 ∷ 7 ∷ 0 ∷ 1 ∷ 5 ∷ 6 ∷ []) $
    enter ! 𝓣.C 𝓣.Λ fn (rp ∷ sp ∷ xp ∷ []) Post $ alloc_all ! (λ l. pass_all ! refl ((tt, tt), ((tt, tt), ((tt, tt), tt))) $
    opens ! tt G r.ref_ptr.0 r.ref_ptr.1 (λ cs. move ! (5 ∷ 6 ∷ 7 ∷ []) $ opens ! tt B s.ref_ptr.0 s.ref_ptr.1 (λ ds. move ! (1 ∷ []) $ fsplit ! $ move ! (7 ∷ []) $ fsplit ! $ move ! (1 ∷ 3 ∷ []) $
    use2 𝓛 (later (given (IsPrefix s.now.items r.now.items) (‵ (growing_owns cv.code gn.growing more) ⊛ ‵ (beginning_owns cv.code gn.growing more)))) (steps.records 𝓛 cv gn.growing r.now.items s.now.items more grown) $ await ! tt $ learn ! (λ began. split ! $
    move ! (2 ∷ 0 ∷ []) $ fjoin ! $ move ! (2 ∷ 1 ∷ []) $ fjoin ! $ move ! (2 ∷ 0 ∷ 3 ∷ 4 ∷ 5 ∷ []) $ closes ! tt B b' ds s.ref_ptr.0 s.ref_ptr.1 $ move ! (4 ∷ 3 ∷ 5 ∷ 6 ∷ 7 ∷ []) $ closes ! tt G g' cs r.ref_ptr.0 r.ref_ptr.1 $ sets ! (of_opd ! (unit_lit !)) refl (tt, tt) $
    feq_i ! (List Val) (vunit ∷ []) (vunit ∷ []) refl $ move ! (6 ∷ 7 ∷ []) $ fjoin ! $ move ! (4 ∷ 0 ∷ []) $ fjoin ! $ nothing ! $ nothing ! $ fjoin ! $
    feq_i ! (List Val) (sp ∷ []) (sp ∷ []) refl $ move ! (0 ∷ 6 ∷ 7 ∷ []) $ fjoin3 ! $ fjoin ! $ feq_i ! (List Val) (rp ∷ []) (rp ∷ []) refl $ move ! (0 ∷ 4 ∷ 5 ∷ []) $ fjoin3 ! $ fjoin ! $
    returns ! (look_at ! 0 refl) $ free_all ! refl $ keep ! (1 ∷ 0 ∷ 2 ∷ []) $ by ! (ends 𝓛 En hs c y vunit tt (g', (b', (tt, tt))) (tt, (tt, (tt, tt))) (fact_i 𝓤 _ (emp 𝓤) (began, refl, refl)))))))))
