use Rattle.std.proofs.Common.{◌≡◌, ◌==◌, Err, false, length, reverse, subst, true}
use Rattle.std.specs.Prelude.{is_some}
use Rattle.gn_rules.specs.Flight.{in_flight}
use Rattle.gn_rules.specs.Answer.{Finds, answer}
use Rattle.gn_rules.specs.declared.event.Event.TheVariants.{Route}
use Rattle.gn_rules.specs.declared.refusal.Refusal.{Refusal}
use Rattle.gn_rules.specs.declared.refusal.Refusal.TheVariants.{NoTicket}
use Rattle.gn_replay.specs.Playing.{Playing}
use Rattle.gn_replay.proofs.RouteLemmas.{answered_flies, refused_is_gone}
use Rattle.gn_replay.proofs.playing.Play.has_flight.Goals as goal

pub returns-in-Ok : goal.returns-in-Ok
returns-in-Ok g c =
    let core = c.self.inside.core in
    subst (λ (v : Playing _). true ≡ is_some (in_flight v.past c.args.ticket)) c.self.view_is
    (answered_flies (g.C.RouterCore.settings core) (reverse (g.C.RouterCore.steps core)) c.args.ticket c.in-Ok.reply c.in-Ok.ensures)

pub returns-in-Err-NoTicket : goal.returns-in-Err-NoTicket
returns-in-Err-NoTicket g c =
    let s = g.C.RouterCore.settings c.self.inside.core in
    let past = reverse (g.C.RouterCore.steps c.self.inside.core) in
    let none : answer s past (Route c.args.ticket) ≡ Err NoTicket =
    subst (λ (refusal : Refusal). Finds (Err refusal) (answer s past (Route c.args.ticket))) c.in-Err-NoTicket.field-0-is c.in-Err-NoTicket.ensures in
    subst (λ (v : Playing _). (length v.past == v.settings.numbers.steps) ≡ false → false ≡ is_some (in_flight v.past c.args.ticket)) c.self.view_is
    (λ room. refused_is_gone s past c.args.ticket NoTicket room none) c.requires
