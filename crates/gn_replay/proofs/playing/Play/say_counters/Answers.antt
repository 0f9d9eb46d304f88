use Rattle.gn_replay.proofs.SayLemmas.{all_said, counted}
use Rattle.gn_replay.proofs.playing.Play.say_counters.Goals as goal

pub returns-in-Whole : goal.returns-in-Whole
returns-in-Whole g c =
    rw (← c.self.view_is)
    (all_said c.push_stats.result _ c.push_stats.new.out.items _ c.in-Whole.is (counted c.push_stats.result _ c.push_stats.new.out.items c.stats.result _ c.stats.ensures c.push_stats.ensures.ok))
