use Rattle.std.proofs.Common.{◌+◌, refl, arith}
use Rattle.page.proofs.Put.{each_more}
use Rattle.text.specs.Texts.{stay_line, stay_lines}
use Rattle.text.proofs.lines.put_stays.Goals as goal

pub loop-i-preserved : goal.loop-i-preserved
loop-i-preserved c =
    each_more (λ i. stay_line (i + 1)) (λ i. stay_lines (i + 1)) _ _ _ c.args.places.now _ _ _ (λ y ys. refl) (omega arith) c.loop-i.invariant refl c.put_stay.ensures
