use Rattle.std.proofs.Common.{◌≡◌, Ok, [], subst}
use Rattle.gn_text.specs.Faults.{IsRead, IsRefused}
use Rattle.gn_text.specs.Settings.{settings_of}
use Rattle.gn_load.specs.Links.{links_from}
use Rattle.gn_load.specs.Loads.{load_of}
use Rattle.gn_load.proofs.FewLemmas.{few_links}
use Rattle.gn_load.proofs.LineLemmas.{handed_on}
use Rattle.gn_load.proofs.LoadLemmas.{loaded, made_of, refused_capture, refused_links}
use Rattle.gn_load.proofs.loads.read_load.Goals as goal

pub returns-in_err-capture-clause-read : goal.returns-in_err-capture-clause-read
returns-in_err-capture-clause-read g c =
    subst (λ text. IsRead (λ loaded. (settings_of loaded.0, loaded.1.items)) c.from_residual.result (load_of g.row.A.Denot text)) c.deref.ensures.value
    (handed_on (λ loaded. (settings_of loaded.0, loaded.1.items)) c.from_residual.result c.in_err-capture.field-0.0 (load_of g.row.A.Denot c.deref.result.now) c.from_residual.ensures.1
    (refused_capture g.row.A.Denot c.deref.result.now c.in_err-capture.field-0.0 c.in_err-capture.ensures.read))

pub returns-in_err-links-clause-read : goal.returns-in_err-links-clause-read
returns-in_err-links-clause-read g c =
    subst (λ text. IsRead (λ loaded. (settings_of loaded.0, loaded.1.items)) c.from_residual-in_err-links.result (load_of g.row.A.Denot text)) c.deref.ensures.value
    (handed_on (λ loaded. (settings_of loaded.0, loaded.1.items)) c.from_residual-in_err-links.result c.in_err-links.field-0.0 (load_of g.row.A.Denot c.deref.result.now)
    c.from_residual-in_err-links.ensures.1
    (refused_links c.deref.result.now c.in_ok-capture.capture c.in_err-links.field-0.0 c.in_ok-capture.ensures.read
    (subst (λ lines. IsRefused c.in_err-links.field-0.0 (links_from [] lines)) c.deref-2.ensures.value c.in_err-links.ensures)))

pub returns-clause-read : goal.returns-clause-read
returns-clause-read g c =
    subst (λ text. load_of g.row.A.Denot text ≡ Ok (settings_of c.in_ok-capture.capture.config, c.in_ok-links.links.items)) c.deref.ensures.value
    (loaded c.deref.result.now c.in_ok-capture.capture c.in_ok-links.links.items c.in_ok-capture.ensures.read
    (made_of c.deref-2.result.now c.in_ok-capture.capture.lines.items _ c.deref-2.ensures.value c.in_ok-links.ensures))

pub returns-clause-few : goal.returns-clause-few
returns-clause-few g c =
    few_links c.deref.result.now c.in_ok-capture.capture c.in_ok-links.links.items c.in_ok-capture.ensures.read
    (made_of c.deref-2.result.now c.in_ok-capture.capture.lines.items _ c.deref-2.ensures.value c.in_ok-links.ensures)
