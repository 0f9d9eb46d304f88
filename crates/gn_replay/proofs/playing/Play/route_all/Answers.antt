use Rattle.std.proofs.Common.{◌≡◌, subst}
use Rattle.std.specs.Prelude.{OnOk}
use Rattle.gn_replay.specs.Events.{Played}
use Rattle.gn_replay.specs.Playing.{after_playing}
use Rattle.gn_replay.proofs.playing.Play.route_all.Goals as goal

pub returns : goal.returns
returns g c =
    subst (λ (p : Played _). OnOk c.route_each.result (c.route_each.new.self ≡ after_playing c.args.self.now p)) c.in_ok-tickets.ensures c.route_each.ensures
