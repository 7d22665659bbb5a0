use Rattle.std.proofs.Common.{rules, refl}
use Rattle.std.proofs.lemmas.Iterator.{YieldsList-from_slice, YieldsList-from_map}
use Rattle.held.proofs.Drained.{drained}
use Rattle.journal.specs.Journal.{low_on, high_on}
use Rattle.journal.proofs.Lined.{lined}
use Rattle.journal.proofs.tables.Ranges.line_up.Goals as goal

pub returns : goal.returns
returns c =
    let l = c.args.loading.now in
    let lows = drained _ c.refill_from.ensures.ran (YieldsList-from_map _ (low_on c.args.direction) (YieldsList-from_slice l.stays.now cc) refl (λ x r q k. search rules)) in
    let highs = drained _ c.refill_from-2.ensures.ran (YieldsList-from_map _ (high_on c.args.direction l.extents.span l.extents.platform) (YieldsList-from_slice l.stays.now cc) refl (λ x r q k. search rules)) in
    lined _ _ l.extents.good _ l.good c.args.direction _ l.few lows highs
