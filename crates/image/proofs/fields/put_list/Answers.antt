use Rattle.std.proofs.Common.{refl, flat_map}
use Rattle.page.proofs.Put.{each_more}
use Rattle.image.proofs.fields.put_list.Goals as goal

pub loop-item-preserved : goal.loop-item-preserved
loop-item-preserved g c =
    each_more (λ i. g.T.Field.bytes) (λ i. flat_map g.T.Field.bytes) _ _ _ c.args.items.now _ _ _ (λ y ys. refl) c.loop-item-test.true c.loop-item.invariant c.item-item.is c.put_on.ensures
