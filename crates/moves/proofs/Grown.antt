-- The two axes with one entry more, and with it gone again.
use Rattle.std.proofs.Common.{◌≡◌, ℕ, ◌+◌, ◌<◌, ◌≤◌, [], ◌∷◌, ◌++◌, length, ℤ, Ok, Err, Result, sym, refl, ap, ◌∙◌, subst, inl, inr, arith}
use Rattle.std.proofs.lemmas.List.{length_push, same_from_push}
use Rattle.std.proofs.ByRecursion.{has_append_left, has_push_cases}
use Rattle.axis.specs.declared.model.Bound.{Bound}
use Rattle.axis.specs.declared.model.AxisFault.{AxisFault}
use Rattle.axis.specs.Meaning.{Meaning, lines, with_bound, Placement, Remains}
use Rattle.axis.specs.Questions.{AllYes, FirstNo}
use Rattle.axis.specs.Asks.{Within, first_asks, put_asks, Back}
use Rattle.boxes.specs.declared.model.Entry.{Entry}
use Rattle.boxes.specs.declared.model.Direction.{Direction}
use Rattle.boxes.specs.declared.model.Direction.TheVariants.{Time, Platform}
use Rattle.boxes.specs.Overlaps.{Keeps}
use Rattle.moves.specs.declared.moves.Standing.TheVariants.{Implied, Impossible}
use Rattle.moves.specs.Meanings.{Meanings, along, grown}
use Rattle.moves.specs.Moves.{PutOn, BackOn, KeptBy, Told}

pub placed_more : (m : Meaning) (b : Bound) (v : ℕ → ℤ) → Placement m v → KeptBy b v → Placement (with_bound m b) v
placed_more m b v p k = record {
  above = p.above;
  below = p.below;
  keeps = λ c h. elim (has_push_cases m.bounds b c h) [ inl x ↦ p.keeps c x | inr e ↦ subst (λ c. KeptBy c v) e k ];
}

pub placed_less : (m : Meaning) (b : Bound) (v : ℕ → ℤ) → Placement (with_bound m b) v → Placement m v
placed_less m b v p = record { above = p.above; below = p.below; keeps = λ c h. p.keeps c (has_append_left m.bounds (b ∷ []) c h) }

-- the last question is the only one that can be answered no
pub put_none : (most : ℕ) (m : Meaning) (b : Bound) (f : AxisFault) → AllYes (first_asks most m b) → FirstNo (put_asks most m b) f → ¬ (Remains (with_bound m b))
put_none most m b f y (inl n) = absurd (n.0 y.0)
put_none most m b f y (inr (_, inl n)) = absurd (n.0 y.1.0)
put_none most m b f y (inr (_, inr (_, inl n))) = absurd (n.0 y.1.1.0)
put_none most m b f y (inr (_, inr (_, inr (_, inl n)))) = n.0
put_none most m b f y (inr (_, inr (_, inr (_, inr n)))) = absurd n.1

pub undone : (m k after : Meaning) (b : Bound) (r : Result Unit AxisFault) → k ≡ with_bound m b → Back k r after → after ≡ m
undone m k after b (Ok u) e (c, h) =
    let z : with_bound after c ≡ with_bound m b = sym h ∙ e in
    let l : after.lows ≡ m.lows = ap (λ (x : Meaning). x.lows) z in
    let g : after.highs ≡ m.highs = ap (λ (x : Meaning). x.highs) z in
    let s : after.bounds ≡ m.bounds = (same_from_push after.bounds m.bounds c b (ap (λ (x : Meaning). x.bounds) z)).0 in
    ap (λ x. record { lows = x; highs = after.highs; bounds = after.bounds }) l
    ∙ ap (λ x. record { lows = m.lows; highs = x; bounds = after.bounds }) g
    ∙ ap (λ x. record { lows = m.lows; highs = m.highs; bounds = x }) s
undone m k after b (Err f) e h =
    let z : m.bounds ++ b ∷ [] ≡ [] = sym (ap (λ (x : Meaning). x.bounds) e) ∙ h.0 in
    let n = length_push m.bounds b in
    let q : length (m.bounds ++ b ∷ []) ≡ 0 = ap length z in
    absurd (omega arith)

-- two axes mean the same where each does
pub both_same : (m n : Meanings) → m.time ≡ n.time → m.platform ≡ n.platform → m ≡ n
both_same m n t p = ap (λ x. record { time = x; platform = m.platform }) t ∙ ap (λ x. record { time = n.time; platform = x }) p

-- an entry, by its direction and its bound
module _ (m : Meanings) (b : Bound) where
  abbrev on : Direction → Entry
  on d = record { direction = d; bound = b }

  pub placed_grown : (d : Direction) (x y : ℕ → ℤ) → Placement m.time x → Placement m.platform y → Keeps x y (on d) → Placement (grown m (on d)).time x × Placement (grown m (on d)).platform y
  placed_grown Time x y s t k = (placed_more m.time b x s k, t)
  placed_grown Platform x y s t k = (s, placed_more m.platform b y t k)

  pub placed_before : (d : Direction) (x y : ℕ → ℤ) → Placement (grown m (on d)).time x → Placement (grown m (on d)).platform y → Placement m.time x × Placement m.platform y
  placed_before Time x y s t = (placed_less m.time b x s, t)
  placed_before Platform x y s t = (s, placed_less m.platform b y t)

  -- a bound that is refused for want of a placement is kept by no two
  pub put_refutes : (d : Direction) (ht hp : ℕ) (m' : Meanings) (f : AxisFault) → Within (lines (along d m)) b → length m.time.bounds < ht → length m.platform.bounds < hp
      → PutOn d ht hp m b (Err f) m' → ((x y : ℕ → ℤ) → Placement m.time x → Placement m.platform y → ¬ (Keeps x y (on d))) × (m' ≡ m)
  put_refutes Time ht hp m' f w rt rp h = ((λ x y i j k. put_none ht m.time b f (w.0, (w.1, (rt, tt))) h.0.0 (x, placed_more m.time b x i k)), both_same m' m h.0.1 h.1)
  put_refutes Platform ht hp m' f w rt rp h = ((λ x y i j k. put_none hp m.platform b f (w.0, (w.1, (rp, tt))) h.0.0 (y, placed_more m.platform b y j k)), both_same m' m h.1 h.0.1)

  pub put_grows : (d : Direction) (ht hp : ℕ) (m' : Meanings) (u : Unit) → PutOn d ht hp m b (Ok u) m' → m' ≡ grown m (on d)
  put_grows Time ht hp m' u h = both_same m' (grown m (on Time)) h.0.1 h.1
  put_grows Platform ht hp m' u h = both_same m' (grown m (on Platform)) h.1 h.0.1

  pub told_refutes : (d : Direction) (x y : ℕ → ℤ) → Told (along d m) b Impossible → Placement m.time x → Placement m.platform y → ¬ (Keeps x y (on d))
  told_refutes Time x y h i j = h x i
  told_refutes Platform x y h i j = h y j

  pub told_kept : (d : Direction) (x y : ℕ → ℤ) → Told (along d m) b Implied → Placement m.time x → Placement m.platform y → Keeps x y (on d)
  told_kept Time x y h i j = h x i
  told_kept Platform x y h i j = h y j

  pub back_grown : (d : Direction) (k m' : Meanings) (r : Result Unit AxisFault) → k ≡ grown m (on d) → BackOn d k r m' → m' ≡ m
  back_grown Time k m' r e h = both_same m' m (undone m.time k.time m'.time b r (ap (λ (x : Meanings). x.time) e) h.0) (h.1 ∙ ap (λ (x : Meanings). x.platform) e)
  back_grown Platform k m' r e h = both_same m' m (h.1 ∙ ap (λ (x : Meanings). x.time) e) (undone m.platform k.platform m'.platform b r (ap (λ (x : Meanings). x.platform) e) h.0)

  -- the lines stay, and there is one bound more on one axis
  pub grown_lines : (d : Direction) → (lines (grown m (on d)).time ≡ lines m.time) × (lines (grown m (on d)).platform ≡ lines m.platform)
  grown_lines Time = (refl, refl)
  grown_lines Platform = (refl, refl)

  pub grown_length : (d : Direction) → (length (grown m (on d)).time.bounds ≤ length m.time.bounds + 1) × (length (grown m (on d)).platform.bounds ≤ length m.platform.bounds + 1)
  grown_length Time = (let n = length_push m.time.bounds b in omega arith, omega arith)
  grown_length Platform = (omega arith, let n = length_push m.platform.bounds b in omega arith)
