use Rattle.std.proofs.Common.{◌∙◌, sym, ap, subst, List, [], Option, Some, Bor, map}
use Rattle.std.specs.Prelude.{option_map, unwrap_or}
use Rattle.clap.specs.Words.{Text, found_of}
use Rattle.gn_words.specs.declared.peers.Peer.{Peer}
use Rattle.gn_words.specs.Options.{IsReadAs, peers_in}
use Rattle.gn_words.proofs.WordLemmas.{peers_read}
use Rattle.gn_words.proofs.peers.peers_of.Goals as goal

pub returns-in-Some-clause-read : goal.returns-in-Some-clause-read
returns-in-Some-clause-read c =
    let P : Option (List Peer) → Type 0 = λ o. IsReadAs (λ v. v.items) o c.peers_in.result in
    let all : Option (Bor (List (Bor Text))) → List Text = λ o. unwrap_or (option_map (λ s. map (λ v. v.now) s.now) o) [] in
    subst P (sym (peers_read c.args.far c.get_raw.result (found_of c.args.options.now) c.get_raw.ensures ∙ ap (λ o. peers_in c.args.far (all o)) c.in-Some.is)) c.peers_in.ensures.read

pub returns-in-None-clause-read : goal.returns-in-None-clause-read
returns-in-None-clause-read c =
    let all : Option (Bor (List (Bor Text))) → List Text = λ o. unwrap_or (option_map (λ s. map (λ v. v.now) s.now) o) [] in
    peers_read c.args.far c.get_raw.result (found_of c.args.options.now) c.get_raw.ensures ∙ ap (λ o. peers_in c.args.far (all o)) c.in-None.is ∙ ap (λ (v : List Peer). Some v) (sym c.new.ensures.items)
