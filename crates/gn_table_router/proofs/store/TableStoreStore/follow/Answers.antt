use Rattle.std.proofs.Common.{◌≡◌, Ok, reverse, subst, sym}
use Rattle.gn_rules.specs.Answer.{answer}
use Rattle.gn_rules.proofs.PastLemmas.{past_push}
use Rattle.gn_table_router.proofs.CanLemmas.{can_follow}
use Rattle.gn_table_router.proofs.FollowLemmas.{follows}
use Rattle.gn_table_router.proofs.store.TableStoreStore.follow.Goals as goal

pub follow-requires : goal.follow-requires
follow-requires g c =
    let answered : answer c.self.inside.config (reverse (g.K.Keeper.kept c.self.inside.history)) c.args.event.now ≡ Ok c.args.reply.now =
    subst (λ v. answer v.settings (reverse v.steps) c.args.event.now ≡ Ok c.args.reply.now) (sym c.self.view_is) c.requires in
    can_follow c.self.inside.config (reverse (g.K.Keeper.kept c.self.inside.history)) c.self.inside.tables c.self.invariant c.args.event.now c.args.reply.now answered

pub queue-requires : goal.queue-requires
queue-requires g c =
    let answered : answer c.self.inside.config (reverse (g.K.Keeper.kept c.self.inside.history)) c.args.event.now ≡ Ok c.args.reply.now =
    subst (λ v. answer v.settings (reverse v.steps) c.args.event.now ≡ Ok c.args.reply.now) (sym c.self.view_is) c.requires in
    let can = can_follow c.self.inside.config (reverse (g.K.Keeper.kept c.self.inside.history)) c.self.inside.tables c.self.invariant c.args.event.now c.args.reply.now answered in
    rw (c.keep-sends.ensures.sends, c.in_ok-follow.ensures.ok) can.sends

pub invariant_of-self-2 : goal.invariant_of-self-2
invariant_of-self-2 g c =
    let answered : answer c.self.inside.config (reverse (g.K.Keeper.kept c.self.inside.history)) c.args.event.now ≡ Ok c.args.reply.now =
    subst (λ v. answer v.settings (reverse v.steps) c.args.event.now ≡ Ok c.args.reply.now) (sym c.self.view_is) c.requires in
    rw (c.keep-sends.ensures.step, c.in_ok-make_room.ensures.kept, past_push (g.K.Keeper.kept c.self.inside.history) _, c.queue.ensures, c.keep-sends.ensures.sends, c.in_ok-follow.ensures.ok)
    (follows c.self.inside.config (reverse (g.K.Keeper.kept c.self.inside.history)) c.self.inside.tables c.self.invariant c.args.actor c.args.event.now c.args.reply.now answered)
