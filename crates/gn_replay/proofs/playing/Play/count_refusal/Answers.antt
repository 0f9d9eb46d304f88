use Rattle.std.proofs.Common.{◌≡◌, ℕ, ap, reverse, rules}
use Rattle.gn_replay.specs.Playing.{Playing, refused_more}
use Rattle.gn_replay.proofs.EventLemmas.{refusal_counted}
use Rattle.gn_replay.proofs.playing.Play.count_refusal.Goals as goal

pub returns-clause-after : goal.returns-clause-after
returns-clause-after g c =
    let play = c.self.inside in
    let v : Playing _ =
    record { form = play.form; settings = g.C.RouterCore.settings play.core; past = reverse (g.C.RouterCore.steps play.core); links = play.links.items; out = play.out.items; refusals = play.refusals } in
    let count = c.saturating_add-self-inside.result in
    let more : count ≡ refused_more 1 play.refusals = search rules in
    rw (← c.self.view_is)
    (refusal_counted v (record v { refusals = count }) c.say.new.self c.args.refusal (ap (λ (n : ℕ). record v { refusals = n }) more) c.in_ok-say.ensures)
