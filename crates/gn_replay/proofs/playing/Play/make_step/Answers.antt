use Rattle.std.proofs.Common.{◌≡◌, Ok, refl, reverse, subst, sym}
use Rattle.gn_rules.specs.Answer.{answer}
use Rattle.gn_replay.specs.Playing.{Playing}
use Rattle.gn_replay.proofs.EventLemmas.{step_made}
use Rattle.gn_replay.proofs.playing.Play.make_step.Goals as goal

pub add-requires : goal.add-requires
add-requires g c = subst (λ (v : Playing _). answer v.settings v.past c.args.event ≡ Ok c.args.reply) (sym c.self.view_is) c.requires

pub returns-clause-after : goal.returns-clause-after
returns-clause-after g c =
    let play = c.self.inside in
    let v : Playing _ =
    record { form = play.form; settings = g.C.RouterCore.settings play.core; past = reverse (g.C.RouterCore.steps play.core); links = play.links.items; out = play.out.items; refusals = play.refusals } in
    rw (← c.self.view_is)
    (step_made v (g.C.RouterCore.settings c.add.new.core) (g.C.RouterCore.steps play.core) (g.C.RouterCore.steps c.add.new.core) c.push_step.new.out.items c.args.event c.args.reply refl
    c.in_ok-add.ensures.settings c.in_ok-add.ensures.step c.in_ok-push_step.ensures.ok)
