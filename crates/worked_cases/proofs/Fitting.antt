-- The computed lengths of the worked sheets are right.
use Rattle.std.proofs.Common.{ℕ, zero, suc, ◌≤◌, [], ◌∷◌, ℤ, pos, neg_ℤ, refl, arith}
use Rattle.std.proofs.lemmas.Int.{ints}
use Rattle.axis.specs.Meaning.{Meaning}
use Rattle.axis.specs.Asks.{InOrder, Ordered}
use Rattle.axis.specs.Distance.{base, mend, distance, Right}
use Rattle.axis.proofs.Tables.{right_mend}
use Rattle.axis.proofs.Distances.{distance_right}
use Rattle.boxes.specs.declared.model.Entry.{Entry}
use Rattle.boxes.specs.declared.model.Direction.TheVariants.{Time, Platform}
use Rattle.journal.specs.Journal.{Journal, axis_of}
use Rattle.worked_cases.specs.Cases.{bound, three, ones, turned, holding}
use Rattle.worked_cases.proofs.Calls.{Fits}

ordered_three : (l1 l2 l3 h1 h2 h3 : ℤ) → InOrder l1 h1 → InOrder l2 h2 → InOrder l3 h3 → Ordered (l1 ∷ l2 ∷ l3 ∷ []) (h1 ∷ h2 ∷ h3 ∷ [])
ordered_three l1 l2 l3 h1 h2 h3 a b c zero h = a
ordered_three l1 l2 l3 h1 h2 h3 a b c (suc zero) h = b
ordered_three l1 l2 l3 h1 h2 h3 a b c (suc (suc zero)) h = c
ordered_three l1 l2 l3 h1 h2 h3 a b c (suc (suc (suc k))) h = absurd (omega arith)

in_order : (h : ℕ) → h ≤ 2880 → InOrder (pos 0) (pos h)
in_order h less = (omega (arith, ints), (omega (arith, ints), omega (arith, ints)))

-- three lines from 0 on, and no bound
abbrev bare : ℕ → ℕ → ℕ → Meaning
bare x y z = record { lows = pos 0 ∷ pos 0 ∷ pos 0 ∷ []; highs = pos x ∷ pos y ∷ pos z ∷ []; bounds = [] }

right_bare : (x y z : ℕ) → x ≤ 2880 → y ≤ 2880 → z ≤ 2880 → Right (bare x y z) (distance (bare x y z))
right_bare x y z a b c =
    distance_right (bare x y z) (refl, omega arith) (ordered_three (pos 0) (pos 0) (pos 0) (pos x) (pos y) (pos z) (in_order x a) (in_order y b) (in_order z c))
    (λ e h. let less = h.1 in absurd (omega arith)) refl

abbrev pub loaded_three : Journal
loaded_three = holding 7 three []

pub fits_three : Fits loaded_three Time
fits_three = right_bare 4 3 0 (omega arith) (omega arith) (omega arith)

-- the first gone when the second comes
abbrev pub before : Entry
before = record { direction = Time; bound = bound 1 2 (neg_ℤ (pos 3)) }

abbrev pub with_before : Journal
with_before = holding 7 three (before ∷ [])

pub fits_before : Fits with_before Time
unfolding base mend
fits_before = right_mend (axis_of Time loaded_three) (distance (axis_of Time loaded_three)) fits_three before.bound (omega arith) (omega arith) (omega (arith, ints))

pub fits_platform : Fits with_before Platform
fits_platform = right_bare 40 40 60 (omega arith) (omega arith) (omega arith)

abbrev pub with_turned : Journal
with_turned = holding 7 three (turned ∷ [])

pub fits_turned : Fits with_turned Time
unfolding base mend
fits_turned = right_mend (axis_of Time loaded_three) (distance (axis_of Time loaded_three)) fits_three turned.bound (omega arith) (omega arith) (omega (arith, ints))

-- three stays of one step
abbrev pub one_two : Entry
one_two = record { direction = Time; bound = bound 1 2 (neg_ℤ (pos 3)) }

abbrev pub two_three : Entry
two_three = record { direction = Time; bound = bound 2 3 (neg_ℤ (pos 3)) }

pub fits_ones : Fits (holding 20 ones []) Time
fits_ones = right_bare 19 19 19 (omega arith) (omega arith) (omega arith)

pub fits_one_two : Fits (holding 20 ones (one_two ∷ [])) Time
unfolding base mend
fits_one_two = right_mend (axis_of Time (holding 20 ones [])) (distance (axis_of Time (holding 20 ones []))) fits_ones one_two.bound (omega arith) (omega arith) (omega (arith, ints))

pub fits_chain : Fits (holding 20 ones (one_two ∷ two_three ∷ [])) Time
unfolding base mend
fits_chain = right_mend (axis_of Time (holding 20 ones (one_two ∷ []))) (distance (axis_of Time (holding 20 ones (one_two ∷ [])))) fits_one_two two_three.bound (omega arith) (omega arith) (omega (arith, ints))
