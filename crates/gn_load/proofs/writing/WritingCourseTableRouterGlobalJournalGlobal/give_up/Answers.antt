use Rattle.std.proofs.Common.{Ok, refl}
use Rattle.gn_scribe.proofs.WrittenLemmas.{written_none}
use Rattle.gn_load.proofs.WritingLemmas.{given_up}
use Rattle.gn_load.proofs.writing.WritingCourseTableRouterGlobalJournalGlobal.give_up.Goals as goal

pub returns : goal.returns
returns g c =
    let state = g.W.Sink.state c.args.self.sink.now in (
      record { scribe = c.args.self.scribe; sink = c.args.self.sink; written = Ok tt; of = c.args.self.of; here = c.args.self.here },
      (refl, written_none c.args.self.scribe state),
      ((refl, given_up c.args.self.scribe state c.give_up.result tt c.args.self.fresh c.give_up.ensures.block c.give_up.ensures.begun), λ s is. tt),
    )
