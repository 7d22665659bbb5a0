-- Two boxes are free of overlap exactly when a word holds of them, and the bound of a word says the same.
use Rattle.std.proofs.Common.{◌≡◌, ℕ, ◌-◌, ◌≤◌, List, length, ℤ, pos, ◌+ℤ◌, neg_ℤ, ◌≤ℤ◌, ◌<ℤ◌, refl, arith}
use Rattle.std.proofs.lemmas.Int.{ints, by_lt_z}
use Rattle.stack.specs.declared.elements.Word.{Word}
use Rattle.stack.specs.declared.elements.Word.TheVariants.{Before, After, Nearer, Farther}
use Rattle.boxes.specs.declared.model.Size.{Size}
use Rattle.boxes.specs.Overlaps.{Holds, Sized, wide, long, ruled, side, Overlap, HoldsWord, Keeps, WordsTell}

-- two spans of which neither ends before the other begins hold a common place: the later beginning
common : (a b : ℤ) (v w : ℕ) → 1 ≤ v → 1 ≤ w → b <ℤ (a +ℤ pos v) → a <ℤ (b +ℤ pos w) → (s : ℤ) × (Holds a v s × Holds b w s)
common a b v w hv hw h k =
    by_lt_z a b
    (λ o. (b, ((omega (arith, ints), h), (omega (arith, ints), omega (arith, ints)))))
    (λ o. (a, ((omega (arith, ints), omega (arith, ints)), (o, k))))

-- no place is in both of two spans where one ends before the other begins
apart : (a b : ℤ) (v w : ℕ) → (a +ℤ pos v) ≤ℤ b → (s : ℤ) → Holds a v s → Holds b w s → ⊥
apart a b v w h s k l = omega (arith, ints)

module _ (sizes : List Size) where
  wide_near : Sized sizes → (i : ℕ) → (1 ≤ i) × (i ≤ length sizes) → (1 ≤ wide sizes i) × (wide sizes i ≤ 2880)
  wide_near z i h = (z (i - 1) (omega arith)).0

  long_near : Sized sizes → (i : ℕ) → (1 ≤ i) × (i ≤ length sizes) → (1 ≤ long sizes i) × (long sizes i ≤ 2880)
  long_near z i h = (z (i - 1) (omega arith)).1

  pub free_word : Sized sizes → (x y : ℕ → ℤ) (i j : ℕ) → (1 ≤ i) × (i ≤ length sizes) → (1 ≤ j) × (j ≤ length sizes)
      → ¬ (Overlap sizes x y i j) → (w : Word) × HoldsWord sizes x y w i j
  free_word z x y i j hi hj free =
      by_lt_z (x j) (x i +ℤ pos (wide sizes i))
      (λ b. by_lt_z (x i) (x j +ℤ pos (wide sizes j))
      (λ a. by_lt_z (y j) (y i +ℤ pos (long sizes i))
      (λ n. by_lt_z (y i) (y j +ℤ pos (long sizes j))
      (λ f. absurd (free (
        common (x i) (x j) (wide sizes i) (wide sizes j) (wide_near z i hi).0 (wide_near z j hj).0 b a,
        common (y i) (y j) (long sizes i) (long sizes j) (long_near z i hi).0 (long_near z j hj).0 n f,
      )))
      (λ o. (Farther, o)))
      (λ o. (Nearer, o)))
      (λ o. (After, o)))
      (λ o. (Before, o))

  pub word_free : (x y : ℕ → ℤ) (i j : ℕ) (w : Word) → HoldsWord sizes x y w i j → ¬ (Overlap sizes x y i j)
  word_free x y i j Before h ((s, (k, l)), _) = apart (x i) (x j) (wide sizes i) (wide sizes j) h s k l
  word_free x y i j After h ((s, (k, l)), _) = apart (x j) (x i) (wide sizes j) (wide sizes i) h s l k
  word_free x y i j Nearer h (_, (s, (k, l))) = apart (y i) (y j) (long sizes i) (long sizes j) h s k l
  word_free x y i j Farther h (_, (s, (k, l))) = apart (y j) (y i) (long sizes j) (long sizes i) h s l k

  pub word_keeps : (x y : ℕ → ℤ) (i j : ℕ) (w : Word) → HoldsWord sizes x y w i j → Keeps x y (ruled sizes i j w)
  word_keeps x y i j Before h = omega (arith, ints)
  word_keeps x y i j After h = omega (arith, ints)
  word_keeps x y i j Nearer h = omega (arith, ints)
  word_keeps x y i j Farther h = omega (arith, ints)

  pub keeps_word : (x y : ℕ → ℤ) (i j : ℕ) (w : Word) → Keeps x y (ruled sizes i j w) → HoldsWord sizes x y w i j
  keeps_word x y i j Before h = omega (arith, ints)
  keeps_word x y i j After h = omega (arith, ints)
  keeps_word x y i j Nearer h = omega (arith, ints)
  keeps_word x y i j Farther h = omega (arith, ints)

  pub ruled_side : (i j : ℕ) (w : Word) → side w ≡ (ruled sizes i j w).direction
  ruled_side i j Before = refl
  ruled_side i j After = refl
  ruled_side i j Nearer = refl
  ruled_side i j Farther = refl

  -- lines 0 to n, and a length that an axis takes
  pub ruled_named : (i j n : ℕ) (w : Word) → i ≤ n → j ≤ n → ((ruled sizes i j w).bound.p ≤ n) × ((ruled sizes i j w).bound.q ≤ n)
  ruled_named i j n Before hi hj = (hi, hj)
  ruled_named i j n After hi hj = (hj, hi)
  ruled_named i j n Nearer hi hj = (hi, hj)
  ruled_named i j n Farther hi hj = (hj, hi)

  pub ruled_near : Sized sizes → (i j : ℕ) → (1 ≤ i) × (i ≤ length sizes) → (1 ≤ j) × (j ≤ length sizes) → (w : Word)
      → (neg_ℤ (pos 4000) ≤ℤ (ruled sizes i j w).bound.d) × ((ruled sizes i j w).bound.d ≤ℤ pos 4000)
  ruled_near z i j hi hj Before = let h = wide_near z i hi in (omega (arith, ints), omega (arith, ints))
  ruled_near z i j hi hj After = let h = wide_near z j hj in (omega (arith, ints), omega (arith, ints))
  ruled_near z i j hi hj Nearer = let h = long_near z i hi in (omega (arith, ints), omega (arith, ints))
  ruled_near z i j hi hj Farther = let h = long_near z j hj in (omega (arith, ints), omega (arith, ints))

pub words_tell_lem : WordsTell
words_tell_lem sizes z x y i j hi hj = (free_word sizes z x y i j hi hj, word_free sizes x y i j)
