use Rattle.gn_comments.proofs.SinkLemmas.{all_written, asked_bare, asked_place, asked_within, counted_on, grown_more, moved, waiting_all, waiting_within}
use Rattle.std.proofs.Common.{ap, drop, length, take, ◌∙◌, ◌+◌, ◌-◌, ℕ, List}
use Rattle.gn_comments.specs.Comments.{bare, place_behind}
use Rattle.gn_comments.specs.Comments.Place.{start}
use Rattle.gn_comments.proofs.commented.Commented.put_comments.Goals as goal

pub invariant_of-self : goal.invariant_of-self
invariant_of-self g c =
    let old = c.args.self.now in
    let asked = c.ask.new in
    let begun = g.B.Naming.begun in
    let is = ap (λ (all : List ℕ). take (length all - asked.done) (drop asked.done all)) c.as_bytes.ensures in
    let gone = moved old.both.items asked.comments.bytes.items c.note.new.text.items _ asked.done c.put-put.new.count is c.note.ensures in
    let within = asked_within old.begins old.comments.bytes.items asked.comments.bytes.items old.done asked.done c.ask.ensures old.within in
    record {
      here = old.here;
      within = waiting_within asked.comments.bytes.items _ asked.done c.put-put.new.count is within c.put-put.ensures.within;
      line = old.line;
      place = ap (λ (xs : List ℕ). place_behind start xs) gone ∙ asked_place old.begins old.text.items old.both.items old.comments.bytes.items asked.comments.bytes.items old.done asked.done c.ask.ensures old.line old.place asked.comments.whole;
      same = ap (λ (xs : List ℕ). bare start xs) gone ∙ asked_bare old.begins old.text.items old.both.items old.comments.bytes.items asked.comments.bytes.items old.done asked.done c.ask.ensures old.line old.place old.same asked.comments.bare;
      written = grown_more begun.written (g.W.Sink.state old.sink.now).written (g.W.Sink.state c.put-put.new.sink).written old.both.items _ c.note.new.text.items old.written c.put-put.ensures.written c.note.ensures;
      failures = counted_on _ begun.failures (g.W.Sink.state old.sink.now).failures (g.W.Sink.state c.put-put.new.sink).failures old.failures c.put-put.ensures.failures;
      stalls = counted_on _ begun.stalls (g.W.Sink.state old.sink.now).stalls (g.W.Sink.state c.put-put.new.sink).stalls old.stalls c.put-put.ensures.stalls;
      whole = all_written begun (g.W.Sink.state old.sink.now) (g.W.Sink.state c.put-put.new.sink) c.put-put.result (asked.done + c.put-put.new.count) (length asked.comments.bytes.items) old.failures old.stalls c.put-put.ensures.failures c.put-put.ensures.stalls
          (λ all. waiting_all asked.comments.bytes.items _ asked.done c.put-put.new.count is within (c.put-put.ensures.all all));
    }
