use Rattle.std.proofs.Common.{rules}
use Rattle.runs.proofs.Listed.{ran_more}
use Rattle.runs.proofs.calls.run.Goals as goal

pub loop-call-preserved : goal.loop-call-preserved
loop-call-preserved g c = record {
  run = ran_more _ c.loop-call.sheet c.give.new.sheet c.args.calls.now _ _ _ c.loop-call.call-index c.call-item.result c.in_ok-answer.answer (search rules) c.loop-call-test.true c.call-item.is c.push_reserved.ensures.items c.in_ok-answer.ensures c.loop-call.invariant.run;
  count = search rules;
  room = search rules;
}
