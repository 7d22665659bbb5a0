-- The lengths begin as those of the ways over line 0, and end as the shortest.
use Rattle.std.proofs.Common.{◌≡◌, ℕ, ◌≤◌, List, ℤ, ◌+ℤ◌, ◌-ℤ◌, ◌≤ℤ◌, sym, refl, subst, inl, inr, arith}
use Rattle.std.proofs.lemmas.Int.{ints}
use Rattle.std.proofs.lemmas.Bool.{cases_eq}
use Rattle.axis.specs.Meaning.{Meaning, lines, Placement, down, up, Walk}
use Rattle.axis.specs.Distance.{base, distance}
use Rattle.axis.proofs.Walks.{walk_kept}
use Rattle.axis.proofs.Tables.{base_self, base_over}
use Rattle.axis.proofs.Distances.{in_order}
use Rattle.ledger.specs.Lengths.{Near, entry}
use Rattle.ledger.specs.Means.{Standing}
use Rattle.ledger.proofs.Open.{ledger_right}
use Rattle.list_axis.specs.declared.lengths.Lengths.{Lengths}
use Rattle.list_axis.specs.Rows.{Found, EdgesKept, Complete}
use Rattle.list_axis.proofs.Told.{shortest_length}

module _ (m : Meaning) (s : Standing m) where
  base_near : (i j : ℕ) → i ≤ lines m → j ≤ lines m → Near (base m.lows m.highs i j)
  base_near i j hi hj =
      let a = in_order _ _ s.0.paired s.0.ordered i hi in
      let b = in_order _ _ s.0.paired s.0.ordered j hj in
      elim (cases_eq i j) [
        | inl e ↦ (let z = base_self m.lows m.highs i j e in (omega (arith, ints), omega (arith, ints)))
        | inr n ↦ (let z = base_over m.lows m.highs i j n in (omega (arith, ints), omega (arith, ints)))
      ]

  -- no bound makes a length longer
  base_far : (i j : ℕ) → i ≤ lines m → j ≤ lines m → distance m i j ≤ℤ base m.lows m.highs i j
  base_far i j hi hj =
      let r = ledger_right m s in
      let a = r.tight i 0 _ (down i hi) in
      let b = r.tight 0 j _ (up j hj) in
      let c = r.round i 0 j hi (omega arith) hj in
      elim (cases_eq i j) [
        | inl e ↦ (let z = base_self m.lows m.highs i j e in let s = r.self i hi in let t : distance m i j ≡ distance m i i = cc in omega (arith, ints))
        | inr n ↦ (let z = base_over m.lows m.highs i j n in omega (arith, ints))
      ]

  pub base_found : (i : ℕ) → i ≤ lines m → (row : List ℤ) → ((j : ℕ) → j ≤ lines m → entry row j ≡ base m.lows m.highs i j) → Found m i row
  base_found i h row is = record {
    home = omega (arith, ints, is i h, base_self m.lows m.highs i i refl);
    far = λ j hj. let b = base_far i j h hj in omega (arith, ints, is j hj);
    near = λ j hj. let b = base_near i j h hj in let e = is j hj in (omega (arith, ints), omega (arith, ints));
  }

module _ (m : Meaning) (row : List ℤ) (k : EdgesKept m row) where
  -- how far each line is before line 0
  settled : Placement m (λ r. entry row 0 -ℤ entry row r)
  settled = record {
    above = λ r h. let e = (k.1 r (omega arith)).1 in omega (arith, ints);
    below = λ r h. let e = (k.1 r (omega arith)).0 in omega (arith, ints);
    keeps = λ b h. let e = k.0 b h in omega (arith, ints);
  }

  settled_least : (p q : ℕ) (x : ℤ) → Walk m p q x → entry row q ≤ℤ (entry row p +ℤ x)
  settled_least p q x w = let a = walk_kept m _ settled p q x w in omega (arith, ints)

-- a row that no edge shortens
row_complete : (l : Lengths) → EdgesKept l.ledger.now l.row → Complete l.ledger.now l.start l.row
row_complete l k q h =
    let m = l.ledger.now in
    let w = (ledger_right l.ledger.now l.standing).walk l.start q l.line h in
    let a = settled_least m l.row k l.start q _ w in
    let b = l.found.far q h in
    let s = l.found.home in
    let e : entry l.row q ≡ distance m l.start q = omega (arith, ints) in
    shortest_length l.ledger.now l.standing l.start q (entry l.row q) l.line h e

pub kept_complete : (l : Lengths) (ledger : Meaning) (start : ℕ) → l.ledger.now ≡ ledger → l.start ≡ start → EdgesKept ledger l.row → Complete ledger start l.row
kept_complete l ledger start e s k =
    subst (λ x. Complete ledger x l.row) s
    (subst (λ m. Complete m l.start l.row) e (row_complete l (subst (λ m. EdgesKept m l.row) (sym e) k)))
