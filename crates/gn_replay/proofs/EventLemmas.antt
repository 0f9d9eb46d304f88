-- Events that are played.
use Rattle.std.proofs.Common.{◌≡◌, ◌∙◌, ℕ, List, [], ◌∷◌, ◌++◌, reverse, Result, Ok, Err, ap, refl, sym}
use Rattle.std.specs.Prelude.{OnOk}
use Rattle.std.specs.declared.alloc.AllocError.{AllocError}
use Rattle.std.proofs.lemmas.List.{reverse-append}
use Rattle.gn_rules.specs.declared.config.Config.{Config}
use Rattle.gn_rules.specs.declared.event.Event.{Event}
use Rattle.gn_rules.specs.declared.receipt.Step.{Step}
use Rattle.gn_rules.specs.declared.reply.Reply.{Reply}
use Rattle.gn_rules.specs.declared.refusal.Refusal.{Refusal}
use Rattle.gn_rules.specs.declared.refusal.Refusal.TheVariants.{HistoryFull, NotLive, NoTicket, Strange, NothingWaiting, BadOrigin, Remembered, NoMemory}
use Rattle.gn_rules.specs.Answer.{Finds, answer}
use Rattle.gn_text.specs.Refusals.{refusal_text}
use Rattle.gn_text.specs.Steps.{step_text}
use Rattle.gn_replay.specs.declared.outcome.Outcome.{Outcome}
use Rattle.gn_replay.specs.declared.form.Form.{Form}
use Rattle.gn_replay.specs.declared.form.Form.TheVariants.{Steps, Whole}
use Rattle.gn_replay.specs.Events.{answered, happens, made, prints, refuses}
use Rattle.gn_replay.specs.Playing.{Playing, after_playing, refused_more, said}

-- unless memory ran out, what was found is the rules' answer
pub found : {A : Type 0} (r rules : Result (Reply A) Refusal) → Finds r rules → (r ≡ Err NoMemory → ⊥) → rules ≡ r
found (Ok reply) rules h n = h
found (Err HistoryFull) rules h n = h
found (Err NotLive) rules h n = h
found (Err NoTicket) rules h n = h
found (Err Strange) rules h n = h
found (Err NothingWaiting) rules h n = h
found (Err BadOrigin) rules h n = h
found (Err Remembered) rules h n = h
found (Err NoMemory) rules h n = absurd (n refl)

-- the newest step comes first
pub past_push : {X : Type 0} (xs : List X) (x : X) → reverse (xs ++ x ∷ []) ≡ x ∷ reverse xs
past_push xs x = reverse-append xs (x ∷ [])

-- a step is made of an event and printed
pub step_made : {A : Type 0} (v : Playing A) (settings : Config) (before steps : List (Step A)) (out : List ℕ) (event : Event A) (reply : Reply A) → v.past ≡ reverse before
    → settings ≡ v.settings → steps ≡ before ++ made event reply ∷ [] → out ≡ v.out ++ step_text (made event reply)
    → record v { settings = settings; past = reverse steps; out = out } ≡ record v { past = made event reply ∷ v.past; out = v.out ++ step_text (made event reply) }
step_made v settings before steps out event reply past same more text =
    let is : reverse steps ≡ made event reply ∷ v.past = ap reverse more ∙ past_push before (made event reply) ∙ ap (λ (steps : List (Step _)). made event reply ∷ steps) (sym past) in
    rw (same, is, text) refl

-- a step is printed alike, whatever is printed
said_step : {A : Type 0} (form : Form) (past : List (Step A)) (event : Event A) (reply : Reply A) → step_text (made event reply) ≡ said form (answered past event (Ok reply))
said_step Whole past event reply = refl
said_step Steps past event reply = refl

-- a reply was given, and its step was made and printed
pub played_then : {A : Type 0} (r : Result Outcome AllocError) (old new : Playing A) (event : Event A) (reply : Reply A) → answer old.settings old.past event ≡ Ok reply
    → OnOk r (new ≡ record old { past = made event reply ∷ old.past; out = old.out ++ step_text (made event reply) })
    → OnOk r (new ≡ after_playing old (happens old.settings old.past event))
played_then (Ok o) old new event reply rules h =
    h ∙ ap (λ (out : List ℕ). record old { past = made event reply ∷ old.past; out = old.out ++ out }) (said_step old.form old.past event reply)
    ∙ ap (λ (a : Result (Reply _) Refusal). after_playing old (answered old.past event a)) (sym rules)
played_then (Err e) old new event reply rules h = h

-- a refusal is counted, and then said
said_refusal : {A : Type 0} (form : Form) (past : List (Step A)) (refusal : Refusal) → said form (prints past (refusal_text refusal)) ≡ said form (refuses past refusal)
said_refusal Whole past refusal = refl
said_refusal Steps past refusal = refl

pub refusal_counted : {A : Type 0} (old counted new : Playing A) (refusal : Refusal) → counted ≡ record old { refusals = refused_more 1 old.refusals }
    → new ≡ after_playing counted (prints counted.past (refusal_text refusal)) → new ≡ after_playing old (refuses old.past refusal)
refusal_counted old counted new refusal is said_it =
    said_it ∙ ap (λ (v : Playing _). after_playing v (prints v.past (refusal_text refusal))) is
    ∙ ap (λ (out : List ℕ). record old { out = old.out ++ out; refusals = refused_more 1 old.refusals }) (said_refusal old.form old.past refusal)
