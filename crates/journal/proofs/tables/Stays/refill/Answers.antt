use Rattle.std.proofs.Common.{◌≡◌, map, rules, refl}
use Rattle.std.proofs.lemmas.Iterator.{YieldsList-from_slice, YieldsList-from_map}
use Rattle.held.proofs.Drained.{drained}
use Rattle.journal.specs.Stays.{size_of}
use Rattle.journal.proofs.Lined.{all_sized}
use Rattle.journal.proofs.tables.Stays.refill.Goals as goal

pub invariant_of-self : goal.invariant_of-self
invariant_of-self c =
    let stays = c.args.loading.now.stays.now in
    let sizes : c.refill_from.new.self ≡ map size_of stays = drained _ c.refill_from.ensures.ran (YieldsList-from_map _ size_of (YieldsList-from_slice stays cc) refl (λ x r q k. search rules)) in
    record { measured = rw c.refill.ensures sizes; sized = all_sized _ _ c.args.loading.now.extents.good _ c.args.loading.now.good _ sizes }
