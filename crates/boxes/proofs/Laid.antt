-- The list of trials as it is laid out, pair by pair and row by row.
use Rattle.std.proofs.Common.{◌≡◌, ℕ, suc, ◌+◌, ◌-◌, ◌<◌, List, [], ◌∷◌, ◌++◌, map, length, take, set, sym, refl, ap, ◌∙◌, arith}
use Rattle.std.proofs.lemmas.List.{length-append, map-append, map_push, take_more_set}
use Rattle.std.proofs.lemmas.List.FromFn.{length-map-range_with_len, map-range_with_len_more}
use Rattle.stack.specs.declared.elements.Trial.{Trial}
use Rattle.boxes.specs.Order.{Pair, row, pairs_from, untried}

abbrev with : ℕ → ℕ → Pair
with i j = record { first = i; second = j }

-- one pair more in a row
pub pair_more : (ts : List Trial) (i k : ℕ) → k < length ts → take k ts ≡ map untried (row i k) → take (k + 1) (set ts k (untried (with i (i + 1 + k)))) ≡ map untried (row i (k + 1))
pair_more ts i k h e =
    let pushed : map untried (row i (k + 1)) ≡ map untried (row i k) ++ untried (with i (i + 1 + k)) ∷ [] =
    ap (map untried) (map-range_with_len_more (with i) (i + 1) k (i + 1 + k) refl) ∙ map_push untried (row i k) (with i (i + 1 + k)) in
    take_more_set ts k _ h ∙ ap (λ l. l ++ untried (with i (i + 1 + k)) ∷ []) e ∙ sym pushed

-- the row of i, and then the rest
row_first : (i n : ℕ) → i < n → pairs_from i (n - i) ≡ row i (n - i) ++ pairs_from (i + 1) (n - (i + 1))
row_first i n h = let e : n - i ≡ suc (n - (i + 1)) = omega arith in rw e refl

pub row_length : (i n : ℕ) → i < n → length (pairs_from i (n - i)) ≡ (n - i) + length (pairs_from (i + 1) (n - (i + 1)))
row_length i n h =
    ap length (row_first i n h)
    ∙ length-append (row i (n - i)) (pairs_from (i + 1) (n - (i + 1)))
    ∙ ap (λ k. k + length (pairs_from (i + 1) (n - (i + 1)))) (length-map-range_with_len (with i) (i + 1) (n - i))

-- one row more
pub row_more : (first later : List Trial) (i n : ℕ) → i < n → length first ≡ n - i → first ≡ map untried (row i (length first)) → later ≡ map untried (pairs_from (i + 1) (n - (i + 1)))
    → first ++ later ≡ map untried (pairs_from i (n - i))
row_more first later i n h size f l =
    ap (λ k. k ++ later) (f ∙ ap (λ c. map untried (row i c)) size)
    ∙ ap (λ k. map untried (row i (n - i)) ++ k) l
    ∙ sym (map-append untried (row i (n - i)) (pairs_from (i + 1) (n - (i + 1))))
    ∙ ap (map untried) (sym (row_first i n h))
