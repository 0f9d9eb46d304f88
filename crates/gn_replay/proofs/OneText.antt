-- An input has exactly one replay text.
use Rattle.std.proofs.Common.{◌≡◌, ◌∙◌, ℕ, List, [], Result, Ok, Err, refl, sym, ap}
use Rattle.std.specs.Prelude.{IfOk}
use Rattle.gn_rules.specs.declared.config.Config.{Config}
use Rattle.gn_rules.specs.declared.config.Own.{Own}
use Rattle.gn_rules.proofs.ConfigLemmas.{config_is_one}
use Rattle.gn_text.specs.declared.fault.CaptureFault.{CaptureFault}
use Rattle.gn_rules.specs.declared.limits.Numbers.{Numbers}
use Rattle.gn_text.specs.Settings.{settings_of}
use Rattle.gn_capture.specs.Captures.{Parsed, capture_of}
use Rattle.gn_capture.proofs.ConfigLemmas.{HasConfig, capture_configured}
use Rattle.gn_replay.specs.Events.{Played, nothing}
use Rattle.gn_replay.specs.ReplayText.{IsReplayOf, IsReplayText, ReplayTextIsOne, capture_plays}

-- settings make one configuration
config_is : (s t : Config) → settings_of s ≡ settings_of t → s ≡ t
config_is s t same = config_is_one s t (ap (λ (x : Numbers × Own). x.0) same) (ap (λ (x : Numbers × Own). x.1) same)

-- what is done with what was read is one thing
played_is : {A : Type 0} (read : Result (Parsed A) CaptureFault) (one other : Played A) → IsReplayOf A read one → IsReplayOf A read other → one ≡ other
played_is (Err fault) one other h k = h ∙ sym k
played_is (Ok parsed) one other h k =
    h.2 ∙ ap (λ (s : Config). capture_plays s parsed.lines) (config_is h.0 k.0 (h.1 ∙ sym k.1)) ∙ sym k.2

-- no two texts are the replay text of an input
no_two : (A : Type 0) (input one other : List ℕ) → IsReplayText A input one → IsReplayText A input other → one ≡ other
no_two A input one other h k =
    h.2 ∙ ap (λ (p : Played A). p.text) (played_is (capture_of {A = A} input) h.0 k.0 h.1 k.1) ∙ sym k.2

-- something is done with what was read, where its settings are those of a configuration
is_played : {A : Type 0} (read : Result (Parsed A) CaptureFault) → IfOk read (λ (parsed : Parsed A). HasConfig parsed)
    → (played : Played A) × IsReplayOf A read played
is_played (Err fault) h = (nothing [], refl)
is_played (Ok parsed) h = (capture_plays h.0 parsed.lines, (h.0, h.1, refl))

there_is : (A : Type 0) (input : List ℕ) → (text : List ℕ) × IsReplayText A input text
there_is A input =
    let done = is_played (capture_of {A = A} input) (capture_configured A input) in (done.0.text, (done.0, done.1, refl))

pub text_is_one : (A : Type 0) → ReplayTextIsOne A
text_is_one A = record { there_is = there_is A; no_two = no_two A; one_play = λ input. played_is (capture_of {A = A} input) }
