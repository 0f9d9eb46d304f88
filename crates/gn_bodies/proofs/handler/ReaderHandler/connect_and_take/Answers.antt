use Rattle.std.proofs.Common.{rules, List, [], ℕ, Option, Some, None, refl, sym, subst, append-nil}
use Rattle.gn_shake.specs.Greeting.{greeting_of}
use Rattle.gn_bodies.specs.declared.ends.BodyFault.TheVariants.{NoMemory}
use Rattle.gn_bodies.specs.declared.ends.ReaderEnd.TheVariants.{TooMany}
use Rattle.gn_bodies.specs.declared.piece.Piece.TheVariants as piece
use Rattle.gn_bodies.specs.Admitting.{Admitting, HasOnlyConnected}
use Rattle.gn_bodies.specs.Reading.{IsTaken}
use Rattle.gn_bodies.proofs.ReadingLemmas.{accepted, just_joined, piece_connected, piece_refused}
use Rattle.gn_bodies.proofs.handler.ReaderHandler.connect_and_take.Goals as goal

pub returns-in-Err-clause-piece : goal.returns-in-Err-clause-piece
returns-in-Err-clause-piece g c =
    let before : Admitting _ = record { actor = c.self.inside.caller; intake = c.self.inside.intake; is_refused = c.self.inside.is_refused } in
    let us : Admitting _ = record before { actor = c.connect.new.self } in
    piece_refused _ c.args.self.now before us c.self.view_is c.in-Err.ensures.err refl refl

pub returns-in-Ok-None-clause-piece : goal.returns-in-Ok-None-clause-piece
returns-in-Ok-None-clause-piece g c =
    let before : Admitting _ = record { actor = c.self.inside.caller; intake = c.self.inside.intake; is_refused = c.self.inside.is_refused } in
    let us : Admitting _ = record before { actor = c.connect.new.self } in
    let did = subst (λ (made : Option ℕ). HasOnlyConnected made c.connect.new.self) c.in-Ok-None.field-0-is c.in-Ok-None.ensures.connected in
    piece_connected None (piece.End None TooMany) c.args.self.now before us us c.self.view_is c.requires.none c.connect.ensures.number did refl refl (record { numbers = (refl, refl); settled = λ jobs is. is; connection = (did.connection, did.turned refl); ends = refl; alone = λ _. did.alone })

pub deliver_on-requires : goal.deliver_on-requires
deliver_on-requires g c =
    let did = subst (λ (made : Option ℕ). HasOnlyConnected made c.connect.new.self) c.in-Ok-Some.field-0-is c.in-Ok-Some.ensures.connected in
    record { connection = record { connection = did.connection; offered = ([], did.events) } }

pub returns-in-Err-new-clause-piece : goal.returns-in-Err-new-clause-piece
returns-in-Err-new-clause-piece g c =
    let before : Admitting _ = record { actor = c.self.inside.caller; intake = c.self.inside.intake; is_refused = c.self.inside.is_refused } in
    let us : Admitting _ = record before { actor = c.connect.new.self } in
    let did = subst (λ (made : Option ℕ). HasOnlyConnected made c.connect.new.self) c.in-Ok-Some.field-0-is c.in-Ok-Some.ensures.connected in
    piece_connected (Some c.in-Ok-Some.c) (piece.Stop NoMemory) c.args.self.now before us us c.self.view_is c.requires.none c.connect.ensures.number did refl refl (record { numbers = (refl, refl); settled = λ jobs is. is; connection = tt; ends = tt; alone = tt })

pub returns-in-Ok-clause-piece : goal.returns-in-Ok-clause-piece
returns-in-Ok-clause-piece g c =
    let before : Admitting _ = record { actor = c.self.inside.caller; intake = c.self.inside.intake; is_refused = c.self.inside.is_refused } in
    let us : Admitting _ = record before { actor = c.connect.new.self } in
    let did = subst (λ (made : Option ℕ). HasOnlyConnected made c.connect.new.self) c.in-Ok-Some.field-0-is c.in-Ok-Some.ensures.connected in
    piece_connected (Some c.in-Ok-Some.c) c.deliver_on.result c.args.self.now before us c.deliver_on.new.self c.self.view_is c.requires.none c.connect.ensures.number did refl refl c.deliver_on.ensures.piece

pub returns-in-Ok-clause-taken : goal.returns-in-Ok-clause-taken
returns-in-Ok-clause-taken g c role b whole =
    let did = subst (λ (made : Option ℕ). HasOnlyConnected made c.connect.new.self) c.in-Ok-Some.field-0-is c.in-Ok-Some.ensures.connected in
    let joined = just_joined c.in-Ok-Some.c c.in-Ok.frames c.connect.new.self c.in-Ok.ensures did.events in
    subst (λ (w : List ℕ). IsTaken role c.deliver_on.result w c.deliver_on.new.self.actor) (sym whole)
    (c.deliver_on.ensures.taken role (greeting_of role) [] (sym (append-nil (greeting_of role))) joined)

pub returns-in-Ok-None-clause-taken : goal.returns-in-Ok-None-clause-taken
returns-in-Ok-None-clause-taken g c role b whole =
    (accepted c.greeting_is_known.ensures role b c.args.piece.now whole, search rules)
