use Rattle.std.proofs.Common.{◌≡◌, ◌∙◌, ap, sym, Ok}
use Rattle.gn_rules.specs.declared.event.Event.TheVariants.{Connect}
use Rattle.gn_hub.specs.HubState.{door_by, with_door, with_step}
use Rattle.gn_hub.proofs.hub.Hub.connect.Goals as goal

pub returns-clause-made : goal.returns-clause-made
returns-clause-made g c =
    let (reply, is, made, got) = c.in_ok-receipt.ensures.made in
    let replied : Ok reply ≡ Ok c.in_ok-receipt.receipt.reply = sym is ∙ c.in_ok-receipt.ensures.receipt.0 in
    let last : c.in_ok-receipt.receipt.reply ≡ reply = cc in
    let opened = ap (λ h. with_door h c.args.link c.door_after-door.result) made in
    let door = ap (λ d. with_door (with_step c.args.self.now c.args.me.now.number Connect reply) c.args.link d) (c.door_after-door.ensures ∙ ap door_by last) in
    (reply, is, c.set_door.ensures ∙ opened ∙ door, got)
