use Rattle.std.proofs.Common.{flat_map}
use Rattle.page.specs.Pages.{put}
use Rattle.page.proofs.Put.{Left}
use Rattle.image.proofs.fields.put_list.Given as goal

abbrev pub invariant-loop-item : goal.invariant-loop-item
invariant-loop-item g l = Left (λ i. flat_map g.T.Field.bytes) (put l.initial.page (flat_map g.T.Field.bytes l.items)) l.page l.items l.item-index
