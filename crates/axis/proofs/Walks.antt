-- Walks of the distance graph: joined, kept by every placement, and kept when a bound is added.
use Rattle.std.proofs.Common.{◌≡◌, ℕ, [], ◌∷◌, ℤ, pos, ◌+ℤ◌, ◌-ℤ◌, ◌≤ℤ◌, subst, arith}
use Rattle.std.proofs.ByRecursion.{has_append_left}
use Rattle.std.proofs.lemmas.Int.{ints}
use Rattle.axis.specs.declared.model.Bound.{Bound}
use Rattle.axis.specs.Meaning.{Meaning, with_bound, Placement, Remains, Edge, bound, down, up, Walk, none, step, NegativeRing}

pub walk_join : (m : Meaning) (p r q : ℕ) (d e : ℤ) → Walk m p r d → Walk m r q e → Walk m p q (d +ℤ e)
walk_join m p r q d e (none _ _) w = subst (λ l. Walk m p q l) (let z : e ≡ pos 0 +ℤ e = omega (arith, ints) in z) w
walk_join m p r q d e (step _ s _ a b x y) w = subst (λ l. Walk m p q l) (let z : a +ℤ (b +ℤ e) ≡ (a +ℤ b) +ℤ e = omega (arith, ints) in z) (step p s q a (b +ℤ e) x (walk_join m s r q b e y w))

pub edge_kept : (m : Meaning) (v : ℕ → ℤ) → Placement m v → (p q : ℕ) (d : ℤ) → Edge m p q d → (v p -ℤ v q) ≤ℤ d
edge_kept m v h p q d (bound b x) = h.keeps b x
edge_kept m v h p q d (down _ x) = let a = h.above 0 (omega arith) in let z = h.below p x in omega (arith, ints)
edge_kept m v h p q d (up _ x) = let a = h.below 0 (omega arith) in let z = h.above q x in omega (arith, ints)

pub walk_kept : (m : Meaning) (v : ℕ → ℤ) → Placement m v → (p q : ℕ) (l : ℤ) → Walk m p q l → (v p -ℤ v q) ≤ℤ l
walk_kept m v h p q l (none _ x) = omega (arith, ints)
walk_kept m v h p q l (step _ s _ d e x y) = let a = edge_kept m v h p s d x in let b = walk_kept m v h s q e y in omega (arith, ints)

pub ring_refutes : (m : Meaning) → NegativeRing m → ¬ (Remains m)
ring_refutes m (p, (l, (w, h))) (v, k) = let a = walk_kept m v k p p l w in omega (arith, ints)

-- what stands before a bound is added stands after
edge_more : (m : Meaning) (b : Bound) (p q : ℕ) (d : ℤ) → Edge m p q d → Edge (with_bound m b) p q d
edge_more m b p q d (bound c x) = bound c (has_append_left m.bounds (b ∷ []) c x)
edge_more m b p q d (down _ x) = down p x
edge_more m b p q d (up _ x) = up q x

pub walk_more : (m : Meaning) (b : Bound) (p q : ℕ) (l : ℤ) → Walk m p q l → Walk (with_bound m b) p q l
walk_more m b p q l (none _ h) = none p h
walk_more m b p q l (step _ s _ d e x y) = step p s q d e (edge_more m b p s d x) (walk_more m b s q e y)
