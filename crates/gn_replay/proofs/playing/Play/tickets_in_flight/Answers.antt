use Rattle.std.proofs.Common.{◌≡◌, ◌-◌, ◌++◌, ◌∷◌, ◌∙◌, [], Bool, ap, append-nil, arith, cond, length, reverse, subst, sym}
use Rattle.gn_rules.specs.Answer.{IsLegal}
use Rattle.gn_rules.specs.Flight.{flying}
use Rattle.gn_rules.specs.declared.statistics.Counter.TheVariants.{Admitted}
use Rattle.gn_rules.specs.Statistics.{count_in}
use Rattle.gn_replay.specs.Playing.{Playing}
use Rattle.gn_replay.proofs.RouteLemmas.{admitted_counted, finding_all, finding_more, finding_none, finding_start}
use Rattle.gn_replay.proofs.playing.Play.tickets_in_flight.Goals as goal
use Rattle.gn_replay.proofs.playing.Play.tickets_in_flight.Goals.{then-loop-next-test+else-next-gt0, else-loop-next-test}

pub loop-next-init : goal.loop-next-init
loop-next-init g c =
    let past = reverse (g.C.RouterCore.steps c.self.inside.core) in
    rw (← c.self.view_is)
    (finding_start (g.C.RouterCore.settings c.self.inside.core) past _ _ c.is_legal.ensures (c.get-next.ensures ∙ ap (count_in Admitted) c.stats.ensures ∙ admitted_counted past) c.new-tickets.ensures.items)

pub loop-next-preserved-then-not-flies : goal.loop-next-preserved-then-not-flies
loop-next-preserved-then-not-flies g c =
    let v = c.args.self.now in
    let legal : IsLegal v.settings v.past = subst (λ (v : Playing _). IsLegal v.settings v.past) c.self.view_is c.is_legal.ensures in
    let t = c.loop-next.next - 1 in
    let found = c.loop-next.tickets.items in
    finding_more v.settings v.past c.loop-next.next t found found legal c.loop-next.invariant (omega arith)
    (subst (λ (b : Bool). found ≡ found ++ cond b (t ∷ []) []) (sym c.if-not-flies.true ∙ c.in_ok-flies.ensures) (sym (append-nil found)))

pub loop-next-preserved : goal.loop-next-preserved
loop-next-preserved g c =
    let v = c.args.self.now in
    let legal : IsLegal v.settings v.past = subst (λ (v : Playing _). IsLegal v.settings v.past) c.self.view_is c.is_legal.ensures in
    let t = c.loop-next.next - 1 in
    let found = c.loop-next.tickets.items in
    finding_more v.settings v.past c.loop-next.next t found c.push.new.self.items legal c.loop-next.invariant (omega arith)
    (subst (λ (b : Bool). c.push.new.self.items ≡ found ++ cond b (t ∷ []) []) (sym c.if-not-flies.false ∙ c.in_ok-flies.ensures) c.in_ok-push.ensures.items)

pub returns : goal.returns
returns g c =
    let past = c.args.self.now.past in
    let found = c.loop-next.tickets.items in
    let counted : c.flights-count.result ≡ length (flying past) = subst (λ (v : Playing _). c.flights-count.result ≡ length (flying v.past)) c.self.view_is c.flights-count.ensures in
    elim c.loop-next-test.branch [
      | then-loop-next-test+else-next-gt0 w ↦ c.reverse.ensures.items ∙ finding_none past c.loop-next.next found c.loop-next.invariant (omega arith)
      | else-loop-next-test w ↦ c.reverse.ensures.items ∙ finding_all past c.loop-next.next found c.loop-next.invariant (first_of (omega arith, omega (arith, c.loop-next.tickets.ok.0)))
    ]
