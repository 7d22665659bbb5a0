-- Where a descent starts: no pair has its word.
use Rattle.std.proofs.Common.{◌≡◌, ℕ, ◌≤◌, List, [], ◌∷◌, map, length, sym, refl, ap, ◌∙◌, subst, arith}
use Rattle.std.specs.List.{AllByRecursion}
use Rattle.stack.specs.declared.elements.Trial.{Trial}
use Rattle.axis.specs.Meaning.{lines}
use Rattle.boxes.specs.declared.model.Size.{Size}
use Rattle.boxes.specs.declared.order.TheConstants.{MOST_PAIRS}
use Rattle.boxes.specs.Overlaps.{Sized}
use Rattle.boxes.specs.Order.{Pair, pairs, trial_order, pair_of, untried}
use Rattle.boxes.proofs.Ordered.{length_order, pairs_few}
use Rattle.moves.specs.Meanings.{Meanings}
use Rattle.trials.specs.declared.board.Board.{Board}
use Rattle.trials.specs.Boards.{Fits, NoWords, Ready}
use Rattle.trials.specs.Trials.{open_count, Stands, Node, Room}

pairs_laid : (xs : List Pair) → map pair_of (map untried xs) ≡ xs
pairs_laid [] = refl
pairs_laid (x ∷ xs) = ap (λ ys. x ∷ ys) (pairs_laid xs)

open_laid : (xs : List Pair) → open_count (map untried xs) ≡ length xs
open_laid [] = refl
open_laid (x ∷ xs) = let e = open_laid xs in omega arith

stands_laid : (m : Meanings) (sizes : List Size) (xs : List Pair) → AllByRecursion (Stands m sizes) (map untried xs)
stands_laid m sizes [] = tt
stands_laid m sizes (x ∷ xs) = (tt, stands_laid m sizes xs)

module _ (m : Meanings) (sizes : List Size) (ts : List Trial) (laid : ts ≡ map untried (trial_order (length sizes))) where
  pub node_start : Sized sizes → lines m.time ≡ length sizes → lines m.platform ≡ length sizes → Node m sizes ts
  node_start sized et ep = record {
    sized = sized;
    timed = et;
    placed = ep;
    in_order = ap (map pair_of) laid ∙ pairs_laid (trial_order (length sizes));
    standing = subst (AllByRecursion (Stands m sizes)) (sym laid) (stands_laid m sizes (trial_order (length sizes)));
  }

  pub room_start : (ht hp used space : ℕ) → length sizes ≤ 12 → 90 ≤ ht → 90 ≤ hp → length m.time.bounds ≤ 24 → length m.platform.bounds ≤ 24 → used ≡ 0 → space ≡ MOST_PAIRS → Room ht hp m used space ts
  room_start ht hp used space few rt rp ft fp none full =
      let n : open_count ts ≡ pairs (length sizes) = ap open_count laid ∙ open_laid (trial_order (length sizes)) ∙ length_order (length sizes) in
      let p = pairs_few (length sizes) few in
      record { in_time = omega arith; on_platform = omega arith; on_trail = omega arith }

pub ready_start : {T P : Type 0} (ht hp : ℕ) (b : Board T P) (trials : List Trial) (n : ℕ) → 90 ≤ ht → 90 ≤ hp → Fits b.axes.now b.sizes.now b.places.now trials
    → n ≡ length b.sizes.now → n ≤ 12 → b.trials.now ≡ map untried (trial_order n) → NoWords b.trail.now → Ready ht hp b
ready_start ht hp b trials n rt rp fits count few laid blank =
    let less : length b.sizes.now ≤ 12 = omega arith in
    let l : b.trials.now ≡ map untried (trial_order (length b.sizes.now)) = laid ∙ ap (λ n. map untried (trial_order n)) count in
    record {
      node = node_start b.axes.now b.sizes.now b.trials.now l fits.sized fits.timed fits.placed;
      room = room_start b.axes.now b.sizes.now b.trials.now l ht hp _ _ less rt rp fits.few.0 fits.few.1 (ap length blank.0) blank.1;
      few = less;
      for_each = fits.for_each;
    }
