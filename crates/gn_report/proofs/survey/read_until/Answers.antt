use Rattle.std.proofs.Common.{◌∙◌, ◌-◌, arith, sym}
use Rattle.gn_report.proofs.SurveyLemmas.{last_at, none_back}
use Rattle.gn_report.proofs.survey.read_until.Goals as goal

pub loop-read-init : goal.loop-read-init
loop-read-init g c = record { within = omega arith; none = λ k d from below. absurd (omega (arith, from, below)) }

pub returns-then-is_awaited_reader : goal.returns-then-is_awaited_reader
returns-then-is_awaited_reader g c = record {
  within = c.loop-read.invariant.within;
  none = c.loop-read.invariant.none;
  last = last_at c.args.roles.now c.args.steps.now (c.loop-read.read - 1) c.loop-read.read c.index-steps-read.result (omega arith) (omega arith) (sym c.is_awaited_reader.ensures ∙ c.if-is_awaited_reader.true);
}

pub loop-read-preserved : goal.loop-read-preserved
loop-read-preserved g c = record {
  within = omega arith;
  none = none_back c.args.roles.now c.args.steps.now (c.loop-read.read - 1) c.loop-read.read c.index-steps-read.result (omega arith) (omega arith) (sym c.is_awaited_reader.ensures ∙ c.if-is_awaited_reader.false) c.loop-read.invariant.none;
}

pub returns : goal.returns
returns g c = record {
  within = omega arith;
  none = λ k d from below. c.loop-read.invariant.none k d (omega arith) below;
  last = λ k d at. absurd (omega (arith, at));
}
