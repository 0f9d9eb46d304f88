use Rattle.std.proofs.Common.{◌∙◌, ap}
use Rattle.gn_rules.specs.declared.event.Event.TheVariants.{Close}
use Rattle.gn_text.specs.Links.{frame_fault_text}
use Rattle.gn_replay.specs.Events.{happens, prints}
use Rattle.gn_replay.specs.Playing.{Playing, after_playing}
use Rattle.gn_replay.proofs.AdmitLemmas.{after_playing_both}
use Rattle.gn_replay.proofs.SayLemmas.{then_so}
use Rattle.gn_replay.proofs.playing.Play.end_by.Goals as goal

pub returns : goal.returns
returns g c =
    let v : Playing _ = c.args.self.now in
    then_so c.play_event.result
    (λ closed. closed ∙ ap (λ (w : Playing _). after_playing w (happens w.settings w.past (Close c.args.connection))) c.in_ok-say.ensures
    ∙ after_playing_both v (prints v.past (frame_fault_text c.args.i c.args.fault)) (happens v.settings v.past (Close c.args.connection)))
    c.play_event.ensures
