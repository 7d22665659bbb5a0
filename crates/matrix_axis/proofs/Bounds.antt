-- The ways over a bound, read off a table, and what the worklists leave out.
use Rattle.std.proofs.Common.{◌≡◌, ℕ, ◌<◌, ◌≤◌, List, ℤ, ◌+ℤ◌, ◌≤ℤ◌, sym, ap, ◌∙◌, inl, inr, arith}
use Rattle.std.specs.Int.{int_min}
use Rattle.std.proofs.lemmas.Int.{ints}
use Rattle.axis.specs.declared.model.Bound.{Bound}
use Rattle.axis.specs.Asks.{Within}
use Rattle.axis.specs.Distance.{Table, mend}
use Rattle.ledger.specs.Lengths.{entry}
use Rattle.matrix_axis.specs.Cells.{cell, Same, Closed}
use Rattle.matrix_axis.specs.Lists.{Listed}
use Rattle.matrix_axis.specs.Mending.{Pending}
use Rattle.matrix_axis.specs.declared.over.Over.{Over}

-- the ways from each line to the bound's start, its length, and the ways from its end to each line are those of the table
pub record Reads (t : Table) (b : Bound) (starts : List ℤ) (d : ℤ) (ends : List ℤ) : Type 0 where
  pub to_start : (i : ℕ) → i < 13 → entry starts i ≡ t i b.p
  pub length : d ≡ b.d
  pub from_end : (j : ℕ) → j < 13 → entry ends j ≡ t b.q j

module _ (t : Table) (b : Bound) (starts : List ℤ) (d : ℤ) (ends : List ℤ) (reads : Reads t b starts d ends) where
  way_is : (i j : ℕ) → i < 13 → j < 13 → entry starts i +ℤ (d +ℤ entry ends j) ≡ t i b.p +ℤ (b.d +ℤ t b.q j)
  way_is i j hi hj = let x = reads.to_start i hi in let y = reads.from_end j hj in let z = reads.length in omega (arith, ints)

  pub reads_mended : (n : ℕ) (before after : List (List ℤ)) → n ≤ 12 → t ≡ cell before → Same n after (λ i j. int_min (cell before i j) (entry starts i +ℤ (d +ℤ entry ends j))) → Same n after (mend t b)
  unfolding mend
  reads_mended n before after few e m i j h =
      m i j h
      ∙ ap (int_min (cell before i j)) (way_is i j (omega (arith, h.0)) (omega (arith, h.1)))
      ∙ ap (λ (u : Table). int_min (u i j) (t i b.p +ℤ (b.d +ℤ t b.q j))) (sym e)

-- by the triangle law
pub reads_pending : (t : Table) (b : Bound) (o : Over) (rows columns : List ℕ) → Within o.last b → Closed o.last t → Reads t b o.starts o.d o.ends
    → Listed o.last (λ i. t i b.q ≤ℤ (entry o.starts i +ℤ o.d)) rows → Listed o.last (λ j. t b.p j ≤ℤ (o.d +ℤ entry o.ends j)) columns → Pending t o rows columns
reads_pending t b o rows columns within closed reads lr lc = record {
  row = λ i hi. elim (lr.all i hi) [
    | inl x ↦ inl x
    | inr x ↦ inr (λ j hj.
        let w = way_is t b o.starts o.d o.ends reads i j (omega arith) (omega arith) in
        let r = closed.round i b.q j hi within.0.1 hj in
        let v = reads.to_start i (omega arith) in
        let z = reads.length in
        omega (arith, ints))
  ];
  column = λ j hj. elim (lc.all j hj) [
    | inl x ↦ inl x
    | inr x ↦ inr (λ i hi.
        let w = way_is t b o.starts o.d o.ends reads i j (omega arith) (omega arith) in
        let r = closed.round i b.p j hi within.0.0 hj in
        let v = reads.from_end j (omega arith) in
        let z = reads.length in
        omega (arith, ints))
  ];
  row_within = lr.within;
  column_within = lc.within;
}
