use Rattle.std.proofs.Common.{rules, refl, ◌∙◌, arith}
use Rattle.gn_bodies.proofs.ReadingLemmas.{nothing_read, pieces_ended, pieces_more, pieces_taken}
use Rattle.gn_bodies.proofs.handler.ReaderHandler.read_all.Goals as goal

pub loop-init : goal.loop-init
loop-init g c = record {
  same = ((refl, refl), λ jobs is. is);
  own = (refl, nothing_read (g.Rd.LinkReader.gives (g.Rd.LinkReader.made_of c.args.reader.now)) _ c.requires.new.0);
  read = pieces_taken c.args.turns c.args.role c.begin-piece.result c.args.self.now c.begin-piece.new.self (g.Rd.LinkReader.state c.args.reader.now) _ 0 c.begin-piece.ensures.piece
      (λ _. rw c.requires.new.0.none c.begin-piece.ensures.taken) c.requires.new.0.unread c.requires.new.0.unfailed;
}

pub read_piece-requires : goal.read_piece-requires
read_piece-requires g c = record {
  connection = (pieces_more c.args.turns c.args.role c.loop.piece c.in-More.reading c.loop.self.actor (g.Rd.LinkReader.state c.loop.reader) _ c.loop.counter c.in-More.is c.loop.invariant.read).has;
}

pub loop-preserved : goal.loop-preserved
loop-preserved g c =
    let was = c.loop.invariant in
    let did = c.read_piece.ensures in
    record {
      same = ((did.same.0.0 ∙ was.same.0.0, did.same.0.1 ∙ was.same.0.1), λ jobs is. did.same.1 jobs (was.same.1 jobs is));
      own = (did.own.0 ∙ was.own.0, did.own.1);
      read = did.read c.args.turns c.args.role c.loop.counter (omega arith)
          (pieces_more c.args.turns c.args.role c.loop.piece c.in-More.reading c.loop.self.actor (g.Rd.LinkReader.state c.loop.reader) _ c.loop.counter c.in-More.is was.read);
    }

pub returns-in_default-clause-same : goal.returns-in_default-clause-same
returns-in_default-clause-same g c = ((c.loop.invariant.same.0.0 ∙ c.begin-piece.ensures.piece.numbers.0, c.loop.invariant.same.0.1 ∙ c.begin-piece.ensures.piece.numbers.1), λ jobs is. c.loop.invariant.same.1 jobs (c.begin-piece.ensures.piece.settled jobs is))

pub returns-in_default-clause-own : goal.returns-in_default-clause-own
returns-in_default-clause-own g c = (c.loop.invariant.own.0, c.loop.invariant.own.1)

pub returns-in_default-clause-read : goal.returns-in_default-clause-read
returns-in_default-clause-read g c =
    rw c.into_end.ensures (pieces_ended c.args.turns c.args.role c.loop.piece c.loop.self.actor (g.Rd.LinkReader.state c.loop.reader) _ c.loop.counter c.greeting_is_known.ensures (λ r is. absurd (c.in_default.not-More r is)) c.loop.invariant.read)

pub returns-clause-same : goal.returns-clause-same
returns-clause-same g c = ((c.loop.invariant.same.0.0 ∙ c.begin-piece.ensures.piece.numbers.0, c.loop.invariant.same.0.1 ∙ c.begin-piece.ensures.piece.numbers.1), λ jobs is. c.loop.invariant.same.1 jobs (c.begin-piece.ensures.piece.settled jobs is))

pub returns-clause-own : goal.returns-clause-own
returns-clause-own g c = (c.loop.invariant.own.0, c.loop.invariant.own.1)

pub returns-clause-read : goal.returns-clause-read
returns-clause-read g c =
    rw c.into_end-2.ensures (pieces_ended c.args.turns c.args.role c.loop.piece c.loop.self.actor (g.Rd.LinkReader.state c.loop.reader) _ c.loop.counter c.greeting_is_known.ensures (λ r is. search rules) c.loop.invariant.read)
