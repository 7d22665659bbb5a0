-- What a matrix axis knows from its own fields.
use Rattle.std.proofs.Common.{◌≡◌, ℕ, List, [], ℤ, pos, replicate, sym, ap, ◌∙◌, subst, arith}
use Rattle.std.proofs.lemmas.List.{get_or-replicate}
use Rattle.axis.specs.Meaning.{Meaning, new, lines}
use Rattle.axis.specs.Asks.{Named, Tightest}
use Rattle.axis.specs.Distance.{distance, Right}
use Rattle.axis.proofs.Tables.{base_self}
use Rattle.axis.proofs.Distances.{right_near, right_tightest}
use Rattle.ledger.specs.Lengths.{Near, entry}
use Rattle.ledger.proofs.Open.{ledger_right}
use Rattle.matrix_axis.specs.declared.MatrixAxis.{MatrixAxis}
use Rattle.matrix_axis.specs.Cells.{cell, Kept, Closed}
use Rattle.matrix_axis.proofs.Kept.{right_closed}

module _ (a : MatrixAxis) where
  right : Right a.ledger (distance a.ledger)
  right = ledger_right a.ledger a.standing

  pub axis_closed : Closed (lines a.ledger) (cell a.table.rows)
  axis_closed = right_closed a.ledger (distance a.ledger) a.table.rows right a.standing.0.paired a.standing.0.ordered a.kept

  pub axis_near : (p q : ℕ) (t : ℤ) → Named (lines a.ledger) p q → t ≡ distance a.ledger p q → Near t
  axis_near p q t h e = subst Near (sym e) (right_near a.ledger (distance a.ledger) right a.standing.0.paired a.standing.0.ordered p q h.0 h.1)

  pub axis_tightest : (p q : ℕ) (t : ℤ) → Named (lines a.ledger) p q → t ≡ distance a.ledger p q → Tightest a.ledger p q t
  axis_tightest p q t h e = subst (Tightest a.ledger p q) (sym e) (right_tightest a.ledger (distance a.ledger) right p q h)

-- the table of no lines
pub kept_new : (m : Meaning) (rows : List (List ℤ)) → m ≡ new → rows ≡ replicate 13 (replicate 13 (pos 0)) → Kept rows m
kept_new m rows e zeros =
    subst (Kept rows) (sym e)
    (λ i j h.
    let hi : i ≡ 0 = omega (arith, h.0) in
    let hj : j ≡ 0 = omega (arith, h.1) in
    ap (λ t. cell t i j) zeros
    ∙ ap (λ xs. entry xs j) (get_or-replicate 13 i (replicate 13 (pos 0)) [] (omega arith))
    ∙ get_or-replicate 13 j (pos 0) (pos 0) (omega arith)
    ∙ sym (base_self new.lows new.highs i j (hi ∙ sym hj)))
