use Rattle.std.proofs.Common.{◌≡◌, ◌+◌, ◌≤◌, length, vec_items, vec_len, vec_capacity}
use Rattle.runs.specs.Runs.{RanMore}
use Rattle.runs.proofs.calls.run.Given as goal

abbrev pub invariant-loop-call : goal.invariant-loop-call
invariant-loop-call g l = record {
  run : RanMore l.fn.sheet l.calls (vec_items l.fn.given) (vec_items l.given) l.sheet;
  count : vec_len l.given ≡ vec_len l.fn.given + l.call-index;
  room : vec_len l.fn.given + length l.calls ≤ vec_capacity l.given;
}
