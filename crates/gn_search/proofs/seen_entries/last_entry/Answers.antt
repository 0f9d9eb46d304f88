use Rattle.std.proofs.Common.{◌∙◌, ap, arith, reverse}
use Rattle.std.specs.Map.{lookup}
use Rattle.std.proofs.lemmas.List.{take_all}
use Rattle.gn_wire.specs.Keys.{is_same_key}
use Rattle.gn_rules.specs.SeenEntries.{seen_entries}
use Rattle.gn_search.specs.Place.{place}
use Rattle.gn_search.proofs.PlaceLemmas.{later_more, source_more}
use Rattle.gn_search.proofs.seen_entries.last_entry.Goals as goal

pub loop-i-preserved : goal.loop-i-preserved
loop-i-preserved g c =
    let steps = c.args.history.now in
    record {
      bound = omega (arith, c.later_with-later.ensures.bound, c.loop-i.invariant.bound);
      source =
          source_more steps c.loop-i.i c.index-history-i.result c.loop-i-test.true c.index-history-i.is c.args.key.now c.entry_in-entry.result c.loop-i.source c.source_with-source.result
          c.entry_in-entry.ensures c.loop-i.invariant.source c.source_with-source.ensures;
      later =
          later_more steps c.loop-i.i c.index-history-i.result c.loop-i-test.true c.index-history-i.is c.args.key.now c.entry_in-entry.result c.loop-i.later c.later_with-later.result
          c.entry_in-entry.ensures c.loop-i.invariant.later c.later_with-later.ensures.value;
    }

pub returns : goal.returns
returns g c =
    let whole = take_all c.loop-i.i c.args.history.now c.loop-i-test.false in
    record {
      source = c.loop-i.invariant.source ∙ ap (λ steps. lookup (is_same_key c.args.key.now) (seen_entries (reverse steps))) whole;
      later = c.loop-i.invariant.later ∙ ap (λ steps. place (is_same_key c.args.key.now) (seen_entries (reverse steps))) whole;
    }
