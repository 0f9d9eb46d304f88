use Rattle.std.proofs.Common.{◌≡◌, List, ap, arith, length, refl, subst, sym, true}
use Rattle.std.proofs.lemmas.List.{length-map}
use Rattle.gn_actors.specs.Registry.{AreWhole}
use Rattle.gn_report.specs.Accounts.{is_routing, unkept_list}
use Rattle.gn_rules.specs.declared.receipt.Receipt.{Receipt}
use Rattle.gn_threads.specs.Homecoming.{receipts_in}
use Rattle.gn_threads.proofs.LeftLemmas.{all_gathered, known_out, links_kept}
use Rattle.gn_threads.proofs.finishing.gather.Goals as goal

pub come_home-requires : goal.come_home-requires
come_home-requires g c = known_out _ _ _ _ _ c.args.over c.args.house c.requires.left (c.requires.left.ended.whole c.requires.well).0

pub returns-clause-gathered : goal.returns-clause-gathered
returns-clause-gathered g c =
    let home = c.in_ok-workers in
    all_gathered _ _ _ _ _ c.args.over c.args.house c.requires.left c.requires.well _ _ _ _ refl c.in_ok-links.ensures home.ensures.workers home.ensures.house home.ensures.began
    (subst (AreWhole c.come_home.new.hub.steps) home.ensures.lists home.ensures.whole)

pub returns-clause-links : goal.returns-clause-links
returns-clause-links g c = links_kept _ _ _ _ _ c.args.over c.args.house c.requires.left c.requires.well _ c.in_ok-links.ensures

pub returns-clause-workers : goal.returns-clause-workers
returns-clause-workers g c =
    let home = c.in_ok-workers in
    omega (arith, ap length home.ensures.workers, length-map home.field-0.workers.items unkept_list, length-map c.args.over.workers.items receipts_in, home.field-0.workers.ok, c.args.over.workers.ok)

pub returns-clause-house : goal.returns-clause-house
returns-clause-house g c = subst (λ (rs : List (Receipt g.row.A.Denot)). is_routing rs ≡ true) (sym c.in_ok-workers.ensures.house) c.requires.left.routed
