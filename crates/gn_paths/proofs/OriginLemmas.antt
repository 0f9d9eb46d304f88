-- Where each packet comes from that was queued to a connection.
use Rattle.std.proofs.Common.{◌≡◌, ◌==◌, ℕ, true, false, ◌&&◌, cond, if◌then◌else◌, List, [], ◌∷◌, ◌++◌, filter, map, Some, None, Ok, ◌⊎◌, inl, inr, refl, sym, ap, subst, ◌∙◌, arith}
use Rattle.std.specs.List.{AllByRecursion, Contains}
use Rattle.std.specs.Option.{option_to_list}
use Rattle.std.proofs.lemmas.Bool.{and_parts}
use Rattle.std.proofs.lemmas.List.Elements.{Contains-append_left, Contains-append_cases, Contains-push, Contains-push_cases}
use Rattle.std.proofs.lemmas.Map.Views.{exact_unsigned_eq}
use Rattle.std.proofs.lemmas.Option.{same_Some}
use Rattle.gn_wire.specs.declared.key.Key.{Key}
use Rattle.gn_wire.specs.declared.kind.Kind.{Kind}
use Rattle.gn_wire.specs.declared.kind.Kind.TheVariants.{Ping}
use Rattle.gn_wire.specs.Packet.{forward_of, Packet}
use Rattle.gn_rules.specs.declared.config.Config.{Config}
use Rattle.gn_rules.specs.declared.event.Event.{Event}
use Rattle.gn_rules.specs.declared.event.Event.TheVariants.{Connect, Close, Admit, Route, Take, Originate}
use Rattle.gn_rules.specs.declared.receipt.Step.{Step}
use Rattle.gn_rules.specs.declared.reply.Reply.{Reply}
use Rattle.gn_rules.specs.declared.reply.Reply.TheVariants.{Admitted, Sent}
use Rattle.gn_rules.specs.declared.sends.Sending.{Sending}
use Rattle.gn_rules.specs.Answer.{answer, IsLegal}
use Rattle.gn_rules.specs.Decision.{decide}
use Rattle.gn_rules.specs.Flight.{Admission, admission, admission_of}
use Rattle.gn_rules.specs.History.{admitted_of, is_at, sends_of}
use Rattle.gn_rules.specs.Output.{out, queued, queued_to, taken}
use Rattle.gn_rules.specs.Routings.{routing_of}
use Rattle.gn_rules.specs.Sending.{fanout, own_pong, send}
use Rattle.gn_rules.proofs.AnswerLemmas.{answered, routed_reply}
use Rattle.gn_rules.proofs.StepLemmas.{is_itself}
use Rattle.gn_paths.specs.Networks.{HasKey}
use Rattle.gn_paths.specs.Paths.{answered_kind, CameFrom, RoutedFrom}
use Rattle.gn_paths.specs.Sends.{admitted_by, admitted_on, originated, originated_by, IsForward, IsOwnOrOn, IsOwnPong, IsPassedOn, NothingFromNowhere}
use Rattle.gn_laws.proofs.PacketLemmas.{queued_is_taken_and_waiting}
use Rattle.gn_paths.proofs.PathLemmas.{came_from, decision_all, fanout_all, life_falls, not_asking, rests, routed_as, way_back, in_flight_is, Passes}
use Rattle.gn_paths.proofs.RequestLemmas.{originate_parts}

-- nothing is in no list
pub none_in : {X : Type 0} (x : X) → Contains [] x → ⊥
none_in x has = omega (arith, has.1)

-- what is in a list is its head or in its tail
pub in_cons : {X : Type 0} (y : X) (ys : List X) (x : X) → Contains (y ∷ ys) x → (y ≡ x) ⊎ Contains ys x
in_cons y ys x has =
    elim (Contains-append_cases (y ∷ []) ys x has) as (λ w. (y ≡ x) ⊎ Contains ys x) [
      | inl one ↦ elim (Contains-push_cases [] y x one) as (λ w. (y ≡ x) ⊎ Contains ys x) [
        | inl none ↦ absurd (none_in x none)
        | inr is ↦ inl is
      ]
      | inr rest ↦ inr rest
    ]

-- what these sends queued to c was sent to c, and has what each send has
pub queued_sent : {A : Type 0} (P : Sending A → Type 0) (c : ℕ) (sends : List (Sending A)) (p : Packet) → AllByRecursion P sends → Contains (queued_to c sends) p
    → (x : Sending A) × P x × (x.to ≡ c) × (x.packet ≡ p)
queued_sent P c [] p all has = absurd (none_in p has)
queued_sent {A} P c (x ∷ sends) p all has =
    let rest : Contains (queued_to c sends) p → (x : Sending A) × P x × (x.to ≡ c) × (x.packet ≡ p) = λ h. queued_sent P c sends p all.1 h in
    elim ((x.to == c) && x.queued) as (λ b. ((x.to == c) && x.queued) ≡ b → Contains (map (λ x. x.packet) (cond b (x ∷ filter (λ x. (x.to == c) && x.queued) sends) (filter (λ x. (x.to == c) && x.queued) sends))) p → (x : Sending A) × P x × (x.to ≡ c) × (x.packet ≡ p)) [
      | false ↦ λ e h. rest h
      | true ↦ λ e h. elim (in_cons x.packet (queued_to c sends) p h) as (λ w. (x : Sending A) × P x × (x.to ≡ c) × (x.packet ≡ p)) [
        | inl is ↦ (x, all.0, exact_unsigned_eq x.to c (and_parts (x.to == c) x.queued e).0, is)
        | inr later ↦ rest later
      ]
    ] refl has

-- a step that admits stands for its connection
admits_here : {A : Type 0} (t : ℕ) (event : Event A) (reply : Reply A) (a : Admission) → is_at t (admitted_of reply) ≡ true → admission_of event ≡ Some a → admitted_by a.origin event reply ≡ Some a.packet
admits_here {A} t (Admit d packet) (Admitted u) a at e =
    let is : record { origin = d; packet = packet } ≡ a = same_Some _ a e in
    subst (λ (b : Admission). admitted_by {A = A} b.origin (Admit d packet) (Admitted u) ≡ Some b.packet) is (here d packet)
  where
    here : (c : ℕ) (p : Packet) → (if c == c then Some p else None) ≡ Some p
    here c p = rw (is_itself c) refl
admits_here t (Admit d packet) reply a at e = absurd (cc)
admits_here t event reply a at e = absurd (cc)

-- what was admitted under a ticket is among what its connection admitted
pub admitted_among : {A : Type 0} (past : List (Step A)) (t : ℕ) (a : Admission) → admission past t ≡ Some a → Contains (admitted_on past a.origin) a.packet
admitted_among [] t a e = absurd (cc)
admitted_among {A} (step ∷ past) t a e =
    elim (is_at t (admitted_of step.reply)) as (λ b. is_at t (admitted_of step.reply) ≡ b → cond b (admission_of step.event) (admission past t) ≡ Some a → Contains (admitted_on (step ∷ past) a.origin) a.packet) [
      | true ↦ λ h f.
          let is : admitted_by a.origin step.event step.reply ≡ Some a.packet = admits_here t step.event step.reply a h f in
          subst (λ o. Contains (admitted_on past a.origin ++ option_to_list o) a.packet) (sym is) (Contains-push (admitted_on past a.origin) a.packet)
      | false ↦ λ h f. Contains-append_left (admitted_on past a.origin) (option_to_list (admitted_by a.origin step.event step.reply)) a.packet (admitted_among past t a f)
    ] refl e

-- what was admitted stays so
pub admitted_later : {A : Type 0} (later earlier : List (Step A)) (c : ℕ) (p : Packet) → Contains (admitted_on earlier c) p → Contains (admitted_on (later ++ earlier) c) p
admitted_later [] earlier c p has = has
admitted_later (step ∷ later) earlier c p has =
    Contains-append_left (admitted_on (later ++ earlier) c) (option_to_list (admitted_by c step.event step.reply)) p (admitted_later later earlier c p has)

-- the ways that a packet may have come
abbrev ComesFrom : {A : Type 0} → Config → List (Step A) → ℕ → Packet → Type 0
ComesFrom s past c p = IsOwnPong s past c p ⊎ (Contains (originated past) p ⊎ IsPassedOn s past c p)

-- what has come stays so
comes_later : {A : Type 0} (s : Config) (step : Step A) (past : List (Step A)) (c : ℕ) (p : Packet) → ComesFrom s past c p → ComesFrom s (step ∷ past) c p
comes_later s step past c p (inl own) = inl (own.0, admitted_later (step ∷ []) past c own.0 own.1, own.2, own.3)
comes_later s step past c p (inr (inl own)) = inr (inl (Contains-append_left (originated past) (option_to_list (originated_by step.event step.reply)) p own))
comes_later s step past c p (inr (inr on)) = inr (inr (on.0, on.1, admitted_later (step ∷ []) past on.0 on.1 on.2, on.3, on.4))

-- what a Route queues comes from what was admitted
route_comes : {A : Type 0} (s : Config) (step : Step A) (past : List (Step A)) (t c : ℕ) (a : Admission) (x : Sending A) (p : Packet) → admission past t ≡ Some a → IsOwnOrOn s a x → x.to ≡ c → x.packet ≡ p
    → ComesFrom s (step ∷ past) c p
route_comes s step past t c a x p found (inl own) to is =
    let among = admitted_later (step ∷ []) past a.origin a.packet (admitted_among past t a found) in
    inl (a.packet, subst (λ d. Contains (admitted_on (step ∷ past) d) a.packet) (sym own.1 ∙ to) among, own.0, sym is ∙ own.2)
route_comes s step past t c a x p found (inr on) to is =
    let among = admitted_later (step ∷ []) past a.origin a.packet (admitted_among past t a found) in
    inr (inr (a.origin, a.packet, among, λ h. on.0 (to ∙ sym h), subst (λ q. IsForward s.numbers.life a.packet q) is on.1))

-- each packet of a fan-out is the one that is fanned out
fanout_is : {A : Type 0} (s : Config) (past : List (Step A)) (from : ℕ) (d : Packet) → AllByRecursion (λ (x : Sending A). x.packet ≡ d) (fanout s past from d)
fanout_is {A} s past from d = fanout_all (λ (x : Sending A). x.packet ≡ d) s past from d (λ c other. refl)

-- an event that sends nothing queues nothing
none_sent : {A : Type 0} (c : ℕ) (reply : Reply A) (p : Packet) → sends_of reply ≡ [] → Contains (queued_to c (sends_of reply)) p → ⊥
none_sent c reply p none has = none_in p (subst (λ sends. Contains (queued_to c sends) p) none has)

-- events that send nothing
abbrev pub IsQuiet : {A : Type 0} → Event A → Type 0
IsQuiet (Route t) = ⊥
IsQuiet (Originate d) = ⊥
IsQuiet event = Unit {0}

pub quiet_sends : {A : Type 0} (s : Config) (past : List (Step A)) (event : Event A) (reply : Reply A) → answer s past event ≡ Ok reply → IsQuiet event → sends_of reply ≡ []
quiet_sends s past Connect reply e quiet =
    elim (answered s past Connect reply e) as (λ x. sends_of reply ≡ []) [
      | inl is ↦ ap sends_of is
      | inr is ↦ ap sends_of is
    ]
quiet_sends s past (Close d) reply e quiet = ap sends_of (answered s past (Close d) reply e).1
quiet_sends s past (Admit d packet) reply e quiet =
    elim ((answered s past (Admit d packet) reply e).1) as (λ x. sends_of reply ≡ []) [
      | inl is ↦ ap sends_of is
      | inr (inl is) ↦ ap sends_of is
      | inr (inr is) ↦ ap sends_of is
    ]
quiet_sends s past (Take d) reply e quiet = ap sends_of (answered s past (Take d) reply e).1.reply_is
quiet_sends s past event reply e quiet = absurd quiet

-- what was admitted under the ticket of an answered Route
pub record WasAdmitted {A : Type 0} (past : List (Step A)) (t : ℕ) : Type 0 where
  pub admitted : Admission
  pub found : admission past t ≡ Some admitted

pub was_admitted : {A : Type 0} (s : Config) (past : List (Step A)) (t : ℕ) (reply : Reply A) → answer s past (Route t) ≡ Ok reply → WasAdmitted past t
was_admitted s past t reply e =
    let routed = routed_reply s past reply t e in
    record { admitted = routed.admitted; found = in_flight_is _ (admission past t) routed.admitted routed.found_is }

step_comes : {A : Type 0} (s : Config) (past : List (Step A)) (actor c : ℕ) (event : Event A) (reply : Reply A) (p : Packet) → answer s past event ≡ Ok reply → Contains (queued_to c (sends_of reply)) p
    → ComesFrom s (record { actor = actor; event = event; reply = reply } ∷ past) c p
step_comes {A} s past actor c (Route t) reply p e has =
    let step : Step A = record { actor = actor; event = Route t; reply = reply } in
    let was = was_admitted s past t reply e in
    let sent = queued_sent (λ x. IsOwnOrOn s was.admitted x) c (sends_of reply) p (life_falls A s past t reply was.admitted e was.found) has in
    route_comes s step past t c was.admitted sent.0 p was.found sent.1 sent.2 sent.3
step_comes {A} s past actor c (Originate d) reply p e has =
    let is : reply ≡ Sent (fanout s past 0 d) = answered s past (Originate d) reply e in
    let all : AllByRecursion (λ (x : Sending A). x.packet ≡ d) (sends_of reply) = subst (λ (r : Reply A). AllByRecursion (λ (x : Sending A). x.packet ≡ d) (sends_of r)) (sym is) (fanout_is s past 0 d) in
    let sent = queued_sent (λ (x : Sending A). x.packet ≡ d) c (sends_of reply) p all has in
    let made : originated_by (Originate d) reply ≡ Some d = ap (λ (r : Reply A). originated_by (Originate d) r) is in
    let same : d ≡ p = sym sent.1 ∙ sent.3 in
    inr (inl (subst (λ (q : Packet). Contains (originated past ++ option_to_list (originated_by (Originate d) reply)) q) same
    (subst (λ o. Contains (originated past ++ option_to_list o) d) (sym made) (Contains-push (originated past) d))))
step_comes s past actor c Connect reply p e has = absurd (none_sent c reply p (quiet_sends s past Connect reply e tt) has)
step_comes s past actor c (Close d) reply p e has = absurd (none_sent c reply p (quiet_sends s past (Close d) reply e tt) has)
step_comes s past actor c (Admit d packet) reply p e has = absurd (none_sent c reply p (quiet_sends s past (Admit d packet) reply e tt) has)
step_comes s past actor c (Take d) reply p e has = absurd (none_sent c reply p (quiet_sends s past (Take d) reply e tt) has)

pub nothing_from_nowhere : (A : Type 0) → NothingFromNowhere A
nothing_from_nowhere A s [] c p legal has = absurd (none_in p has)
nothing_from_nowhere A s (step ∷ past) c p legal has =
    elim (Contains-append_cases (queued past c) (queued_to c (sends_of step.reply)) p has) as (λ w. ComesFrom s (step ∷ past) c p) [
      | inl before ↦ comes_later s step past c p (nothing_from_nowhere A s past c p legal.1 before)
      | inr now ↦ step_comes s past step.actor c step.event step.reply p legal.0 now
    ]

-- the connection that a send goes to admitted the request of an answer
abbrev WasAsked : {A : Type 0} → List (Step A) → Sending A → Type 0
WasAsked past x = (kind : Kind) → answered_kind x.packet.kind ≡ Some kind → HasKey (admitted_on past x.to) (record { kind = kind; id = x.packet.id })

-- what a connection had brought was admitted on it
pub routed_admitted : {A : Type 0} (past : List (Step A)) (c : ℕ) (from : RoutedFrom past c) → Contains (admitted_on past c) from.packet
routed_admitted past c from =
    let among = admitted_among from.earlier from.ticket (record { origin = c; packet = from.packet }) from.admitted in
    subst (λ xs. Contains (admitted_on xs c) from.packet) (sym from.stands)
    (admitted_later from.later (from.step ∷ from.earlier) c from.packet (admitted_later (from.step ∷ []) from.earlier c from.packet among))

-- where a request came from it was admitted
came_admitted : {A : Type 0} (n : ℕ) (past : List (Step A)) (key : Key) (c : ℕ) → CameFrom n past key c → HasKey (admitted_on past c) key
came_admitted n past key c came = (came.request.packet, routed_admitted past c came.request, came.same)

pong_asked : {A : Type 0} (s : Config) (past : List (Step A)) (t : ℕ) (a : Admission) → admission past t ≡ Some a → a.packet.kind ≡ Ping → WasAsked past (send s past (own_pong s.own a.packet) a.origin)
pong_asked s past t a found ping kind answers =
    let is : Ping ≡ kind = same_Some Ping kind answers in
    (a.packet, admitted_among past t a found, ap (λ (k : Kind). record { kind = k; id = a.packet.id }) (ping ∙ is))

on_asked : {A : Type 0} (s : Config) (past : List (Step A)) (a : Admission) (r : ℕ) → Passes s past a (routing_of a.packet.kind) r → WasAsked past (send s past (forward_of s.numbers.life a.packet) r)
on_asked s past a r passes kind answers =
    let way = way_back s past a (routing_of a.packet.kind) kind r answers passes.way in
    came_admitted s.numbers.seen past (record { kind = kind; id = a.packet.id }) r (came_from s.numbers.seen past (record { kind = kind; id = a.packet.id }) r way.0 way.1)

-- each send of a Route that answers was asked for
route_asked : {A : Type 0} (s : Config) (past : List (Step A)) (t : ℕ) (reply : Reply A) (a : Admission) → answer s past (Route t) ≡ Ok reply → admission past t ≡ Some a
    → AllByRecursion (λ x. WasAsked past x) (sends_of reply)
route_asked {A} s past t reply a e found =
    subst (λ (r : Reply A). AllByRecursion (λ x. WasAsked past x) (sends_of r)) (sym (routed_as s past t reply a e found))
    (decision_all (λ x. WasAsked past x) s past a (decide s past a) (rests s past a)
    (λ ping. pong_asked s past t a found ping)
    (λ c asks other unexpired kind answers. absurd (not_asking (routing_of a.packet.kind) kind asks answers))
    (λ r passes. on_asked s past a r passes))

step_asked : {A : Type 0} (s : Config) (past : List (Step A)) (event : Event A) (reply : Reply A) → answer s past event ≡ Ok reply → AllByRecursion (λ x. WasAsked past x) (sends_of reply)
step_asked {A} s past (Route t) reply e =
    let was = was_admitted s past t reply e in
    route_asked s past t reply was.admitted e was.found
step_asked {A} s past (Originate d) reply e =
    let asks = (originate_parts s past d reply e).0 in
    subst (λ (r : Reply A). AllByRecursion (λ x. WasAsked past x) (sends_of r)) (sym (answered s past (Originate d) reply e))
    (fanout_all (λ x. WasAsked past x) s past 0 d (λ c other kind answers. absurd (not_asking (routing_of d.kind) kind asks answers)))
step_asked {A} s past Connect reply e = subst (λ sends. AllByRecursion (λ x. WasAsked past x) sends) (sym (quiet_sends s past Connect reply e tt)) tt
step_asked {A} s past (Close d) reply e = subst (λ sends. AllByRecursion (λ x. WasAsked past x) sends) (sym (quiet_sends s past (Close d) reply e tt)) tt
step_asked {A} s past (Admit d packet) reply e = subst (λ sends. AllByRecursion (λ x. WasAsked past x) sends) (sym (quiet_sends s past (Admit d packet) reply e tt)) tt
step_asked {A} s past (Take d) reply e = subst (λ sends. AllByRecursion (λ x. WasAsked past x) sends) (sym (quiet_sends s past (Take d) reply e tt)) tt

-- a key that was admitted stays so
has_later : {A : Type 0} (step : Step A) (past : List (Step A)) (c : ℕ) (key : Key) → HasKey (admitted_on past c) key → HasKey (admitted_on (step ∷ past) c) key
has_later step past c key has = (has.0, admitted_later (step ∷ []) past c has.0 has.1, has.2)

-- in a legal history c admitted the request of each answer that was ever queued to c
pub answers_were_asked : (A : Type 0) (s : Config) (past : List (Step A)) (c : ℕ) (p : Packet) (kind : Kind) → IsLegal s past → Contains (queued past c) p → answered_kind p.kind ≡ Some kind
    → HasKey (admitted_on past c) (record { kind = kind; id = p.id })
answers_were_asked A s [] c p kind legal has answers = absurd (none_in p has)
answers_were_asked A s (step ∷ past) c p kind legal has answers =
    has_later step past c (record { kind = kind; id = p.id })
    (elim (Contains-append_cases (queued past c) (queued_to c (sends_of step.reply)) p has) as (λ w. HasKey (admitted_on past c) (record { kind = kind; id = p.id })) [
      | inl before ↦ answers_were_asked A s past c p kind legal.1 before answers
      | inr now ↦
          let sent = queued_sent (λ x. WasAsked past x) c (sends_of step.reply) p (step_asked s past step.event step.reply legal.0) now in
          let asked = sent.1 kind (ap (λ (q : Packet). answered_kind q.kind) sent.3 ∙ answers) in
          subst (λ (q : Packet). HasKey (admitted_on past c) (record { kind = kind; id = q.id })) sent.3
          (subst (λ d. HasKey (admitted_on past d) (record { kind = kind; id = sent.0.packet.id })) sent.2 asked)
    ])

-- what was taken was queued
pub taken_queued : {A : Type 0} (s : Config) (past : List (Step A)) (c : ℕ) (p : Packet) → IsLegal s past → Contains (taken past c) p → Contains (queued past c) p
taken_queued {A} s past c p legal has =
    subst (λ ps. Contains ps p) (sym (queued_is_taken_and_waiting A s past c legal)) (Contains-append_left (taken past c) (out past c) p has)
