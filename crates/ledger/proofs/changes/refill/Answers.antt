use Rattle.std.proofs.Common.{rules, sym, refl, ◌∙◌}
use Rattle.std.proofs.lemmas.Iterator.{YieldsList-from_slice, YieldsList-from_zip, YieldsList-from_map_by}
use Rattle.std.proofs.lemmas.Slice.Zip.{firsts-zip, seconds-zip}
use Rattle.held.proofs.Drained.{drained_by}
use Rattle.ledger.proofs.changes.refill.Goals as goal

pub returns-clause-least : goal.returns-clause-least
returns-clause-least c =
    drained_by _ c.refill_from.ensures.ran (YieldsList-from_map_by _ (λ r. r.low) (λ p. p.0) (YieldsList-from_zip (YieldsList-from_slice _ cc) (YieldsList-from_slice _ cc)) refl (λ x r q k. search rules))
    ∙ firsts-zip c.args.lows.now c.args.highs.now (sym c.requires.0)

pub returns-clause-greatest : goal.returns-clause-greatest
returns-clause-greatest c =
    drained_by _ c.refill_from.ensures.ran (YieldsList-from_map_by _ (λ r. r.high) (λ p. p.1) (YieldsList-from_zip (YieldsList-from_slice _ cc) (YieldsList-from_slice _ cc)) refl (λ x r q k. search rules))
    ∙ seconds-zip c.args.lows.now c.args.highs.now (sym c.requires.0)
