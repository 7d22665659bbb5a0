use Rattle.std.proofs.Common.{◌≡◌, ◌+◌, ◌<◌, ◌∷◌, inl, inr, subst, arith, below_more, rules}
use Rattle.std.specs.Iterator.Adapters.{zip_first, zip_second}
use Rattle.std.specs.Slice.Iter.{iter_rest}
use Rattle.axis.specs.Meaning.{lines}
use Rattle.list_axis.specs.Rows.{RangeKept, RangesKept}
use Rattle.list_axis.specs.Passing.{Passed}
use Rattle.list_axis.proofs.Steps.{passed_weaker, passed_both}
use Rattle.list_axis.proofs.Ahead.{Ahead, ahead_more, ahead_none}
use Rattle.list_axis.proofs.lengths.Lengths.pass_ranges.Goals as goal

pub loop-line-preserved : goal.loop-line-preserved
loop-line-preserved c =
    let m = c.args.self.now.ledger.now in
    let before = c.loop-line.invariant in
    let line : c.in-Some.line ≡ (zip_first c.loop-line.line-iterator).start = search rules in
    let next : (zip_first c.next.new.self).start ≡ c.in-Some.line + 1 = search rules in
    let ahead : Ahead m c.in-Some.line (c.in-Some.range.now ∷ iter_rest (zip_second c.next.new.self)) = rw line (subst (Ahead m _) c.in-Some.ensures.steps.1 before.ahead) in
    let passed : Passed (λ m. RangesKept m c.in-Some.line) c.args.self.now c.loop-line.self c.loop-line.changed = rw line before.passed in
    record {
      ahead = rw next (ahead_more m c.in-Some.line c.in-Some.range.now _ ahead);
      passed = rw next
          (passed_weaker _ (λ row k. below_more (λ r. RangeKept m r row) c.in-Some.line k.0 k.1)
          (passed_both _ _ _ passed c.pass_range-changed.ensures));
    }

pub returns : goal.returns
returns c =
    let m = c.args.self.now.ledger.now in
    let before = c.loop-line.invariant in
    let paired = c.args.self.now.standing.0.paired in
    let all : lines m < (zip_first c.loop-line.line-iterator).start = elim c.in-None.ensures.steps [
      | inl x ↦ (let few = before.ahead.few in omega (arith, x.1.0))
      | inr x ↦ ahead_none m _ _ before.ahead x.1.0
    ] in
    passed_weaker _ (λ row k r h. k r (omega (arith, all))) before.passed
