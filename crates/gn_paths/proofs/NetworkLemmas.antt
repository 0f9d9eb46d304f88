-- How an answer came over a link and through a network.
use Rattle.std.proofs.Common.{◌≡◌, ◌+◌, ℕ, zero, suc, true, if◌then◌else◌, List, [], ◌∷◌, ◌++◌, Some, None, Ok, ◌⊎◌, inl, inr, refl, sym, ap, subst, ◌∙◌, arith}
use Rattle.std.specs.List.{Contains}
use Rattle.std.specs.Option.{option_to_list}
use Rattle.std.proofs.lemmas.List.Elements.{Contains-append_cases, Contains-push, Contains-push_cases}
use Rattle.std.proofs.lemmas.Option.{same_Some}
use Rattle.gn_wire.specs.declared.kind.Kind.{Kind}
use Rattle.gn_wire.specs.declared.kind.Kind.TheVariants.{Ping, Pong, Push, Query}
use Rattle.gn_wire.specs.Packet.{Packet}
use Rattle.gn_payload.specs.Fields.{push_servent}
use Rattle.gn_rules.specs.declared.config.Config.{Config}
use Rattle.gn_rules.specs.declared.event.Event.{Event}
use Rattle.gn_rules.specs.declared.event.Event.TheVariants.{Originate, Take}
use Rattle.gn_rules.specs.declared.receipt.Step.{Step}
use Rattle.gn_rules.specs.declared.reply.Reply.{Reply}
use Rattle.gn_rules.specs.declared.reply.Reply.TheVariants.{Sent}
use Rattle.gn_rules.specs.Answer.{answer, is_request, IsLegal}
use Rattle.gn_rules.specs.History.{is_take, taken_of}
use Rattle.gn_rules.specs.Output.{queued, taken}
use Rattle.gn_rules.specs.Routings.{routing_of}
use Rattle.gn_rules.specs.Sending.{own_pong}
use Rattle.gn_rules.proofs.LegalLemmas.{legal_before}
use Rattle.gn_paths.specs.Networks.{AnswersCameBack, AnswersCrossBack, AnswersFollow, Asked, CameBy, Carries, HasHit, HasKey, IsNetwork, Network}
use Rattle.gn_paths.specs.Paths.{answered_kind}
use Rattle.gn_paths.specs.Sends.{admitted_by, admitted_on, originated, originated_by, IsForward, IsOwnPong, IsPassedOn}
use Rattle.gn_paths.proofs.OriginLemmas.{answers_were_asked, none_in, nothing_from_nowhere, taken_queued}
use Rattle.gn_paths.proofs.PathLemmas.{not_asking}
use Rattle.gn_paths.proofs.RequestLemmas.{originate_parts}
use Rattle.gn_paths.proofs.ToldLemmas.{pushes_were_told}

answer_crosses : {A : Type 0} (s : Config) (first second : List (Step A)) (c d : ℕ) (p : Packet) (kind : Kind) → IsLegal s first → Carries first c second d → Carries second d first c
    → Contains (admitted_on second d) p → answered_kind p.kind ≡ Some kind → HasKey (taken second d) (record { kind = kind; id = p.id })
answer_crosses {A} s first second c d p kind legal there back has answers =
    let asked = answers_were_asked A s first c p kind legal (taken_queued s first c p legal (there p has)) answers in
    (asked.0, back asked.0 asked.1, asked.2)

push_crosses : {A : Type 0} (s : Config) (first second : List (Step A)) (c d : ℕ) (push : Packet) → IsLegal s first → Carries first c second d → Carries second d first c
    → Contains (admitted_on second d) push → push.kind ≡ Push → HasHit (taken second d) (push_servent push.payload)
push_crosses {A} s first second c d push legal there back has is =
    let told = pushes_were_told A s first c push legal (taken_queued s first c push legal (there push has)) is in
    (told.0, back told.0 told.1, told.2, told.3)

pub answers_cross_back : (A : Type 0) → AnswersCrossBack A
answers_cross_back A = record {
  answers = λ s first second c d p kind legal there back has answers. answer_crosses s first second c d p kind legal there back has answers;
  pushes = λ s first second c d push legal there back has is. push_crosses s first second c d push legal there back has is;
}

-- what a step sends of the local servent's own is a request
own_step : {A : Type 0} (s : Config) (past : List (Step A)) (event : Event A) (reply : Reply A) (p : Packet) → answer s past event ≡ Ok reply → Contains (option_to_list (originated_by event reply)) p → is_request p.kind ≡ true
own_step s past (Originate d) (Sent sends) p e has =
    elim (Contains-push_cases [] d p has) as (λ w. is_request p.kind ≡ true) [
      | inl none ↦ absurd (none_in p none)
      | inr is ↦ subst (λ (q : Packet). is_request q.kind ≡ true) is (originate_parts s past d (Sent sends) e).0
    ]
own_step s past (Originate d) reply p e has = absurd (none_in p has)
own_step s past event reply p e has = absurd (none_in p has)

-- the local servent's own descriptors are requests
own_requests : {A : Type 0} (s : Config) (past : List (Step A)) (p : Packet) → IsLegal s past → Contains (originated past) p → is_request p.kind ≡ true
own_requests s [] p legal has = absurd (none_in p has)
own_requests s (step ∷ past) p legal has =
    elim (Contains-append_cases (originated past) (option_to_list (originated_by step.event step.reply)) p has) as (λ w. is_request p.kind ≡ true) [
      | inl before ↦ own_requests s past p legal.1 before
      | inr now ↦ own_step s past step.event step.reply p legal.0 now
    ]

-- an answer that was queued is the own Pong, or was passed on
answer_passed : {A : Type 0} (s : Config) (past : List (Step A)) (c : ℕ) (p : Packet) (kind : Kind) → IsLegal s past → Contains (queued past c) p → answered_kind p.kind ≡ Some kind → IsOwnPong s past c p ⊎ IsPassedOn s past c p
answer_passed {A} s past c p kind legal has answers =
    elim (nothing_from_nowhere A s past c p legal has) as (λ w. IsOwnPong s past c p ⊎ IsPassedOn s past c p) [
      | inl own ↦ inl own
      | inr (inl own) ↦ absurd (not_asking (routing_of p.kind) kind (own_requests s past p legal own) answers)
      | inr (inr on) ↦ inr on
    ]

-- what answers a Query is no Pong
no_own_pong : (p q : Packet) → answered_kind p.kind ≡ Some Query → p ≡ q → q.kind ≡ Pong → ⊥
no_own_pong p q answers same pong =
    let other : Query ≡ Ping = same_Some Query Ping (sym answers ∙ ap (λ (r : Packet). answered_kind r.kind) same ∙ ap answered_kind pong) in cc

-- so it was passed on
hit_passed : {A : Type 0} (s : Config) (past : List (Step A)) (c : ℕ) (hit : Packet) → IsLegal s past → Contains (queued past c) hit → answered_kind hit.kind ≡ Some Query → IsPassedOn s past c hit
hit_passed s past c hit legal has answers =
    elim (answer_passed s past c hit Query legal has answers) as (λ w. IsPassedOn s past c hit) [
      | inl own ↦ absurd (no_own_pong hit (own_pong s.own own.0) answers own.3 refl)
      | inr on ↦ on
    ]

-- the request of an answer that came over a link went over it the other way
request_went : {A : Type 0} (net : Network A) (i c j d : ℕ) (p : Packet) (kind : Kind) → IsNetwork net → net.joined i c ≡ Some (j, d) → Contains (admitted_on (net.history i) c) p → answered_kind p.kind ≡ Some kind
    → Asked net (record { kind = kind; id = p.id }) i c j d
request_went {A} net i c j d p kind is link has answers =
    let there = is.carries j d i c (is.both i c j d link) in
    let back = is.carries i c j d link in
    record {
      link = link;
      took = answer_crosses (net.settings j) (net.history j) (net.history i) d c p kind (is.legal j) there back has answers;
      admitted = answers_were_asked A (net.settings j) (net.history j) d p kind (is.legal j) (taken_queued (net.settings j) (net.history j) d p (is.legal j) (there p has)) answers;
    }

-- what came over a link was queued at its other end
queued_there : {A : Type 0} (net : Network A) → IsNetwork net → (i c j d : ℕ) (p : Packet) → net.joined i c ≡ Some (j, d) → Contains (admitted_on (net.history i) c) p → Contains (queued (net.history j) d) p
queued_there net is i c j d p link has = taken_queued (net.settings j) (net.history j) d p (is.legal j) (is.carries j d i c (is.both i c j d link) p has)

same_answers : (life : ℕ) (d p : Packet) (kind : Kind) → IsForward life d p → answered_kind p.kind ≡ Some kind → answered_kind d.kind ≡ Some kind
same_answers life d p kind on answers = ap answered_kind (sym on.kind) ∙ answers

-- by the number of Hops
answer_came : {A : Type 0} (net : Network A) → IsNetwork net → (n i c : ℕ) (p : Packet) (kind : Kind) → Contains (admitted_on (net.history i) c) p → answered_kind p.kind ≡ Some kind → p.hops ≡ n → CameBy net kind p (suc n) i c
answer_came {A} net is zero i c p kind has answers hops =
    elim (net.joined i c) as (λ o. net.joined i c ≡ o → CameBy net kind p (suc zero) i c) [
      | None ↦ λ link. inl link
      | Some end ↦ λ link. elim (answer_passed (net.settings end.0) (net.history end.0) end.1 p kind (is.legal end.0) (queued_there net is i c end.0 end.1 p link has) answers) as (λ w. CameBy net kind p (suc zero) i c) [
        | inl own ↦ inr (end.0, end.1, request_went net i c end.0 end.1 p kind is link has answers, inl own)
        | inr on ↦ absurd (omega (arith, hops, on.4.hops))
      ]
    ] refl
answer_came {A} net is (suc n) i c p kind has answers hops =
    elim (net.joined i c) as (λ o. net.joined i c ≡ o → CameBy net kind p (suc (suc n)) i c) [
      | None ↦ λ link. inl link
      | Some end ↦ λ link. elim (answer_passed (net.settings end.0) (net.history end.0) end.1 p kind (is.legal end.0) (queued_there net is i c end.0 end.1 p link has) answers) as (λ w. CameBy net kind p (suc (suc n)) i c) [
        | inl own ↦ inr (end.0, end.1, request_went net i c end.0 end.1 p kind is link has answers, inl own)
        | inr on ↦ inr (
          end.0,
          end.1,
          request_went net i c end.0 end.1 p kind is link has answers,
          inr (on.0, on.1, on.2, on.3, on.4, answer_came net is n end.0 on.0 on.1 kind on.2 (same_answers (net.settings end.0).numbers.life on.1 p kind on.4 answers) (omega (arith, hops, on.4.hops))),
        )
      ]
    ] refl

-- the same of what answers a Query, which is no Pong
hit_came : {A : Type 0} (net : Network A) → IsNetwork net → (n i c : ℕ) (hit : Packet) → Contains (admitted_on (net.history i) c) hit → answered_kind hit.kind ≡ Some Query → hit.hops ≡ n → CameBy net Query hit n i c
hit_came {A} net is zero i c hit has answers hops =
    elim (net.joined i c) as (λ o. net.joined i c ≡ o → o ≡ None) [
      | None ↦ λ link. refl
      | Some end ↦ λ link.
          let on = hit_passed (net.settings end.0) (net.history end.0) end.1 hit (is.legal end.0) (queued_there net is i c end.0 end.1 hit link has) answers in
          absurd (omega (arith, hops, on.4.hops))
    ] refl
hit_came {A} net is (suc n) i c hit has answers hops =
    elim (net.joined i c) as (λ o. net.joined i c ≡ o → CameBy net Query hit (suc n) i c) [
      | None ↦ λ link. inl link
      | Some end ↦ λ link.
          let on = hit_passed (net.settings end.0) (net.history end.0) end.1 hit (is.legal end.0) (queued_there net is i c end.0 end.1 hit link has) answers in
          let before = hit_came net is n end.0 on.0 on.1 on.2 (same_answers (net.settings end.0).numbers.life on.1 hit Query on.4 answers) (omega (arith, hops, on.4.hops)) in
          inr (end.0, end.1, request_went net i c end.0 end.1 hit Query is link has answers, inr (on.0, on.1, on.2, on.3, on.4, before))
    ] refl

one_more : (n : ℕ) → suc n ≡ n + 1
one_more n = omega arith

pub answers_came_back : (A : Type 0) → AnswersCameBack A
answers_came_back A = record {
  answers = λ net i c p kind is has answers. subst (λ n. CameBy net kind p n i c) (one_more p.hops) (answer_came net is p.hops i c p kind has answers refl);
  hits = λ net i c hit is has kind. hit_came net is hit.hops i c hit has (ap answered_kind kind) refl;
}

-- what a step admits on d takes nothing
admit_takes : {A : Type 0} (step : Step A) (past : List (Step A)) (d : ℕ) (p q : Packet) → admitted_by d step.event step.reply ≡ Some p → Contains (taken (step ∷ past) d) q → Contains (taken past d) q
admit_takes {A} step past d p q admits has =
    elim (Contains-append_cases (taken past d) (option_to_list (if is_take d step.event then taken_of step.reply else None)) q has) as (λ w. Contains (taken past d) q) [
      | inl before ↦ before
      | inr now ↦ absurd (none_in q (subst (λ o. Contains (option_to_list o) q) (takes_none step.event step.reply admits) now))
    ]
  where
    takes_none : (event : Event A) (reply : Reply A) → admitted_by d event reply ≡ Some p → (if is_take d event then taken_of reply else None) ≡ None
    takes_none (Take c) reply e = absurd (cc)
    takes_none event reply e = refl

pub answers_follow : (A : Type 0) → AnswersFollow A
answers_follow A s first later step earlier c d p kind legal in_time admits answers =
    let cut = in_time later (step ∷ earlier) refl in
    let before : IsLegal s cut.1 = legal_before s cut.0 cut.1 (subst (λ xs. IsLegal s xs) cut.2 legal) in
    let here : Contains (admitted_on (step ∷ earlier) d) p = subst (λ o. Contains (admitted_on earlier d ++ option_to_list o) p) (sym admits) (Contains-push (admitted_on earlier d) p) in
    let asked = answer_crosses s cut.1 (step ∷ earlier) c d p kind before cut.3 cut.4 here answers in
    (asked.0, admit_takes step earlier d p asked.0 admits asked.1, asked.2)
