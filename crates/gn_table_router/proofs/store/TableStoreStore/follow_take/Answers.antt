use Rattle.std.proofs.Common.{◌≡◌, Ok, reverse, subst, sym}
use Rattle.gn_rules.specs.Answer.{answer}
use Rattle.gn_rules.specs.declared.event.Event.TheVariants.{Take}
use Rattle.gn_rules.specs.declared.reply.Reply.TheVariants.{Taken}
use Rattle.gn_rules.proofs.PastLemmas.{past_push}
use Rattle.gn_table_router.proofs.CanLemmas.{can_follow}
use Rattle.gn_table_router.proofs.FollowLemmas.{first_taken, follows_take}
use Rattle.gn_table_router.proofs.store.TableStoreStore.follow_take.Goals as goal

pub take-taken-requires-clause-first : goal.take-taken-requires-clause-first
take-taken-requires-clause-first g c =
    let answered : answer c.self.inside.config (reverse (g.K.Keeper.kept c.self.inside.history)) (Take c.args.c) ≡ Ok (Taken c.args.packet.now) =
    subst (λ v. answer v.settings (reverse v.steps) (Take c.args.c) ≡ Ok (Taken c.args.packet.now)) (sym c.self.view_is) c.requires in
    first_taken c.self.inside.config (reverse (g.K.Keeper.kept c.self.inside.history)) c.self.inside.tables c.self.invariant c.args.c c.args.packet.now answered

pub take-taken-requires-clause-can : goal.take-taken-requires-clause-can
take-taken-requires-clause-can g c =
    let answered : answer c.self.inside.config (reverse (g.K.Keeper.kept c.self.inside.history)) (Take c.args.c) ≡ Ok (Taken c.args.packet.now) =
    subst (λ v. answer v.settings (reverse v.steps) (Take c.args.c) ≡ Ok (Taken c.args.packet.now)) (sym c.self.view_is) c.requires in
    can_follow c.self.inside.config (reverse (g.K.Keeper.kept c.self.inside.history)) c.self.inside.tables c.self.invariant (Take c.args.c) (Taken c.args.packet.now) answered

pub invariant_of-self-2 : goal.invariant_of-self-2
invariant_of-self-2 g c =
    let answered : answer c.self.inside.config (reverse (g.K.Keeper.kept c.self.inside.history)) (Take c.args.c) ≡ Ok (Taken c.args.packet.now) =
    subst (λ v. answer v.settings (reverse v.steps) (Take c.args.c) ≡ Ok (Taken c.args.packet.now)) (sym c.self.view_is) c.requires in
    rw (c.keep.ensures.step, c.in_ok-make_room.ensures.kept, past_push (g.K.Keeper.kept c.self.inside.history) _, c.take-taken.ensures.tables, c.take-taken.ensures.packet)
    (follows_take c.self.inside.config (reverse (g.K.Keeper.kept c.self.inside.history)) c.self.inside.tables c.self.invariant c.args.actor c.args.c c.args.packet.now answered)
