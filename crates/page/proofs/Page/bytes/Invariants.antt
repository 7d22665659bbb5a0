use Rattle.page.specs.Pages.{put}
use Rattle.page.proofs.Put.{Left}
use Rattle.page.proofs.Page.bytes.Given as goal

abbrev pub invariant-loop-b : goal.invariant-loop-b
invariant-loop-b l = Left (λ i bytes. bytes) (put l.initial.self l.bytes) l.self l.bytes l.b-index
