use Rattle.std.proofs.Common.{rules, ◌≡◌, ◌+◌, ◌∙◌, ◌++◌, ap, sym, take, true, append-nil}
use Rattle.gn_bodies.proofs.ReadingLemmas.{alone_of_reading, conn_of_reading, end_not_failed, ended_did, ended_row, failed_did, failed_row, pieces_taken, read_greeting, read_joined}
use Rattle.gn_bodies.proofs.handler.ReaderHandler.read_piece.Goals as goal

pub returns-in-Err-clause-read : goal.returns-in-Err-clause-read
returns-in-Err-clause-read g c turns role count below was =
    let before = g.Rd.LinkReader.state c.args.reader.now in
    let did = c.in-Err.ensures.state in
    record {
      connection = conn_of_reading c.args.reading c.args.self.now.actor was.has ∙ sym c.into_connection.ensures;
      did = rw c.into_connection.ensures (failed_did c.args.reading c.args.self.now.actor was.has);
      alone = λ none. alone_of_reading c.args.reading c.args.self.now.actor was.has (sym c.into_connection.ensures ∙ none);
      row = λ known.
          let is_known : before.is_known ≡ true = sym did.known ∙ known in
          let same : (g.Rd.LinkReader.state c.read.new.self).bytes ≡ before.bytes = did.bytes is_known ∙ append-nil before.bytes in
          rw (c.into_connection.ensures, same) (failed_row c.greeting_is_known.ensures role c.args.reading before.bytes c.args.self.now.actor (was.is is_known) was.has);
      counts = search rules;
      failed = λ _. c.in-Err.ensures.allowed;
    }

pub returns-in-Ok-eq0-clause-read : goal.returns-in-Ok-eq0-clause-read
returns-in-Ok-eq0-clause-read g c turns role count below was =
    let before = g.Rd.LinkReader.state c.args.reader.now in
    let did = c.in-Ok-eq0.ensures.state in
    let zero : c.in-Ok-eq0.field-0 ≡ 0 = search rules in
    record {
      connection = conn_of_reading c.args.reading c.args.self.now.actor was.has ∙ sym c.into_connection-in-Ok-eq0.ensures;
      did = rw (c.end_of_bytes-end.ensures, c.into_connection-in-Ok-eq0.ensures) (ended_did c.args.reading c.args.self.now.actor was.has);
      alone = λ none. alone_of_reading c.args.reading c.args.self.now.actor was.has (sym c.into_connection-in-Ok-eq0.ensures ∙ none);
      row = λ known.
          let is_known : before.is_known ≡ true = sym did.known ∙ known in
          let same : (g.Rd.LinkReader.state c.read.new.self).bytes ≡ before.bytes = did.bytes is_known ∙ ap (λ n. before.bytes ++ take n c.read.new.buffer) zero ∙ append-nil before.bytes in
          rw (c.end_of_bytes-end.ensures, c.into_connection-in-Ok-eq0.ensures, same) (ended_row c.greeting_is_known.ensures role c.args.reading before.bytes c.args.self.now.actor (was.is is_known) was.has);
      counts = search rules;
      failed = end_not_failed c.args.reading _ c.end_of_bytes-end.ensures;
    }

pub returns-in-Greeting-clause-read : goal.returns-in-Greeting-clause-read
returns-in-Greeting-clause-read g c turns role count below was =
    let before = g.Rd.LinkReader.state c.args.reader.now in
    let did = c.in-Ok.ensures.state in
    let taken = c.greet.ensures in
    let pieces : (g.Rd.LinkReader.state c.read.new.self).pieces ≡ count + 1 = search rules in
    pieces_taken turns role c.greet.result c.args.self.now c.greet.new.self (g.Rd.LinkReader.state c.read.new.self) _ (count + 1) taken.piece
    (λ known.
    let is_known : before.is_known ≡ true = sym did.known ∙ known in
    let is = read_greeting role c.args.reading c.in-Greeting.shake before.bytes c.args.self.now.actor c.in-Greeting.is (was.is is_known) in
    rw (did.bytes is_known) (taken.taken role before.bytes is))
    pieces (did.failures ∙ was.unfailed)

pub returns-in-Joined-clause-read : goal.returns-in-Joined-clause-read
returns-in-Joined-clause-read g c turns role count below was =
    let before = g.Rd.LinkReader.state c.args.reader.now in
    let did = c.in-Ok.ensures.state in
    let taken = c.deliver_on.ensures in
    let pieces : (g.Rd.LinkReader.state c.read.new.self).pieces ≡ count + 1 = search rules in
    pieces_taken turns role c.deliver_on.result c.args.self.now c.deliver_on.new.self (g.Rd.LinkReader.state c.read.new.self) _ (count + 1) taken.piece
    (λ known.
    let is_known : before.is_known ≡ true = sym did.known ∙ known in
    let is = read_joined role c.args.reading c.in-Joined.connection c.in-Joined.frames before.bytes c.args.self.now.actor c.in-Joined.is (was.is is_known) in
    rw (did.bytes is_known) (taken.taken role before.bytes is.stream is.whole is.offering))
    pieces (did.failures ∙ was.unfailed)
