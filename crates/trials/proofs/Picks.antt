-- The pair picked is open, and where none is picked, none is.
use Rattle.std.proofs.Common.{◌≡◌, ℕ, ◌+◌, ◌<◌, true, false, cond, not, List, length, get_or, is_some, IfSome, Some, None, Option, sym, refl, arith}
use Rattle.std.specs.List.{count_by}
use Rattle.std.proofs.lemmas.List.Recursion.{is_count_by}
use Rattle.std.proofs.lemmas.Bool.{false≢true}
use Rattle.stack.specs.declared.elements.Word.{Word}
use Rattle.stack.specs.declared.elements.Trial.{Trial}
use Rattle.boxes.specs.Order.{no_trial}
use Rattle.trials.specs.Trials.{open_one, open_count, PickedBelow}
use Rattle.trials.proofs.Nodes.{open_some}

no_word : (o : Option Word) → is_some o ≡ false → o ≡ None
no_word None e = refl
no_word (Some w) e = absurd (false≢true (sym e))

one : (o : Option Word) (n : ℕ) → open_one o + n ≡ cond (not (is_some o)) (1 + n) n
one None n = refl
one (Some w) n = omega arith

counted : (ts : List Trial) → open_count ts ≡ count_by (λ t. not (is_some t.word)) ts
counted = is_count_by open_count (λ t. not (is_some t.word)) refl (λ t ts. one t.word (open_count ts))

worded : (o : Option Word) → ¬ (o ≡ None) → is_some o ≡ true
worded None n = absurd (n refl)
worded (Some w) n = refl

none_open : (ts : List Trial) → count_by (λ t. not (is_some t.word)) ts ≡ 0 → (k : ℕ) → k < length ts → is_some (get_or ts k no_trial).word ≡ true
none_open ts e k h = worded (get_or ts k no_trial).word (λ o. let some = open_some ts k h o in omega (arith, e, counted ts))

pub picked : (ts : List Trial) (at : Option ℕ) → IfSome at (λ k. (k < length ts) × (is_some (get_or ts k no_trial).word ≡ false)) → (is_some at ≡ false → count_by (λ t. not (is_some t.word)) ts ≡ 0) → PickedBelow (length ts) ts at
picked ts None some none = none_open ts (none refl)
picked ts (Some k) some none = (some.0, no_word _ some.1)
