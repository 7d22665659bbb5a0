use Rattle.std.proofs.Common.{◌+◌}
use Rattle.page.specs.Pages.{put}
use Rattle.page.proofs.Put.{Left}
use Rattle.text.specs.Texts.{stay_lines}
use Rattle.text.proofs.lines.put_stays.Given as goal

abbrev pub invariant-loop-i : goal.invariant-loop-i
invariant-loop-i l = Left (λ i. stay_lines (i + 1)) (put l.initial.page (stay_lines 1 l.places)) l.page l.places l.i
