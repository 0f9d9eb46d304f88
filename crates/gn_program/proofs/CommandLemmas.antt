-- What is known where words were read as a request, and no request came of it.
use Rattle.std.proofs.Common.{◌≡◌, ◌∙◌, ◌⊎◌, inl, inr, refl, sym, ℕ, List, [], ◌∷◌, Option, None, Some, Result, Ok, Err, IfOk, IfSome, OnOk}
use Rattle.clap.specs.Kinds.{HasKind, IsAmong, Kinds}
use Rattle.clap.specs.Words.{Row, Text, kind_of}
use Rattle.clap.specs.declared.error.Error.{Error}
use Rattle.clap.specs.declared.error.kind.ErrorKind.{ErrorKind}
use Rattle.clap.specs.declared.error.kind.ErrorKind.TheVariants.{DisplayHelp, DisplayVersion, OutOfMemory}
use Rattle.gn_program.specs.Commands.{Does, HasDone, IsTurnedAway, IsUnread, kinds_of, request_by, request_of}
use Rattle.gn_io.specs.Streams.{Streams}
use Rattle.gn_service.specs.Ran.{Remembered}
use Rattle.std.specs.declared.alloc.Global.{Global}
use Rattle.gn_program.specs.declared.request.Request.{Request}

memory_by : (kinds : Kinds) (o : Option (Text × List Row)) (r : Request) (k : ErrorKind) → request_by kinds o ≡ Some r
    → (k ≡ OutOfMemory) ⊎ IsAmong k kinds → k ≡ OutOfMemory
memory_by [] o r k asked (inl e) = e
memory_by [] o r k asked (inr e) = absurd e
memory_by (f ∷ fs) o r k asked h = cc

unread_by : {S W : Type 0} (k : ErrorKind) (r : S) (w v : W) (status : ℕ) → IsTurnedAway k w v status → k ≡ OutOfMemory → IsUnread r r w v status
unread_by k r w v status t e = (
  refl,
  t.unwritten (λ h. let bad : DisplayHelp ≡ OutOfMemory = sym h ∙ e in cc) (λ h. let bad : DisplayVersion ≡ OutOfMemory = sym h ∙ e in cc),
  t.memory e,
)

-- only memory can have run out
pub unread : {S W : Type 0} (words : List Text) (r : Request) (error : Error) (reader : S) (w v : W) (status : ℕ) → request_of words ≡ Some r
    → HasKind (kinds_of words) error → IsTurnedAway (kind_of error) w v status → IsUnread reader reader w v status
unread words r error reader w v status asked has t = unread_by (kind_of error) reader w v status t (memory_by _ _ r (kind_of error) asked has)

-- what was done of a run that is remembered was done, whether it is or not
pub forgotten : {U : Type 0} (request : Request) (s : Streams) (status : ℕ) (remembered : Option (Remembered Global))
    → U ⊎ Does request s status remembered → U ⊎ HasDone request s status
forgotten request s status remembered (inl unread) = inl unread
forgotten request s status remembered (inr done) = inr (remembered, done)

-- where a text was written and counted, both were done
pub both : {T E : Type 0} (P : List ℕ → Type 0) (Q : T → List ℕ → Type 0) (answer : Result T E) (text : Option (List ℕ)) → OnOk answer (IfSome text P)
    → IfOk answer (λ value. IfSome text (Q value)) → IfOk answer (λ value. IfSome text (λ t. P t × Q value t))
both P Q (Ok value) (Some t) p q = (p, q)
both P Q (Ok value) None p q = tt
both P Q (Err fault) text p q = tt
