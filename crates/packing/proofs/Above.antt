-- What the answer from the node below says of a descent's node.
use Rattle.std.proofs.Common.{◌≡◌, ℕ, ◌<◌, ◌≤◌, true, List, length, get_or, set, ℤ, is_some, Some, None, Option, sym, refl, ap, ◌∙◌, subst, inl, inr, arith}
use Rattle.std.specs.List.{ContainsAt}
use Rattle.std.proofs.lemmas.List.{length-set, length-map, get_or-set_same, get_or-set_other, set-set, set-get_or}
use Rattle.std.proofs.lemmas.Bool.{cases_eq, false≢true}
use Rattle.std.proofs.ByRecursion.{All-get_or, All-from_get_or}
use Rattle.stack.specs.declared.elements.Word.{Word}
use Rattle.stack.specs.declared.elements.Word.TheVariants.{Before, After, Nearer, Farther}
use Rattle.stack.specs.declared.elements.Trial.{Trial}
use Rattle.axis.specs.declared.model.Bound.{Bound}
use Rattle.axis.specs.Meaning.{Placement, Earliest}
use Rattle.boxes.specs.declared.model.Size.{Size}
use Rattle.boxes.specs.declared.model.Place.{Place}
use Rattle.boxes.specs.declared.model.Direction.{Direction}
use Rattle.boxes.specs.declared.model.Direction.TheVariants.{Time, Platform}
use Rattle.boxes.specs.Overlaps.{ruled, HoldsWord, Keeps}
use Rattle.boxes.specs.Order.{pair_of, no_trial}
use Rattle.boxes.specs.Arranged.{step_of, metre_of, NoArrangement, HoldsTrial}
use Rattle.boxes.proofs.Lie.{free_word, keeps_word}
use Rattle.moves.specs.Meanings.{Meanings, along, grown}
use Rattle.moves.proofs.Grown.{placed_grown, placed_before}
use Rattle.trials.specs.Trials.{StandsWord, Stands, Node, Refuted, PickedBelow, nth_word, worded, unworded, entry_of}
use Rattle.trials.proofs.Nodes.{in_trial_order, pair_within, kept, pairs_same}
use Rattle.packing.specs.Descent.{Reached}

module _ (m : Meanings) (sizes : List Size) (ts : List Trial) (node : Node m sizes ts) (k : ℕ) (h : k < length ts) where
  module _ (w : Word) (n : Meanings) (g : n ≡ grown m (entry_of sizes ts k w)) (us : List Trial) (e : us ≡ set ts k (worded ts k w)) where
    -- who has the word has its bound too
    grow : (x y : ℕ → ℤ) → Placement m.time x → Placement m.platform y → HoldsWord sizes x y w (get_or ts k no_trial).i (get_or ts k no_trial).j → Placement n.time x × Placement n.platform y
    grow x y a b word = rw g (placed_grown m (entry_of sizes ts k w).bound (entry_of sizes ts k w).direction x y a b (kept m sizes ts node k h w x y word))

    shrink : (x y : ℕ → ℤ) → Placement n.time x → Placement n.platform y → Placement m.time x × Placement m.platform y
    shrink x y = rw g (placed_before m (entry_of sizes ts k w).bound (entry_of sizes ts k w).direction x y)

    -- nothing below
    pub none_up : NoArrangement n.time n.platform sizes → Refuted m sizes (get_or ts k no_trial).i (get_or ts k no_trial).j w
    none_up none x y a word = let p = grow x y a.timely a.placed word in none x y (record { timely = p.0; placed = p.1; free = a.free })

    pub set_back : (get_or ts k no_trial).word ≡ None → (after : List Trial) → after ≡ us → set after k (unworded after k) ≡ ts
    set_back o after f =
        let own : unworded (set ts k (worded ts k w)) k ≡ get_or ts k no_trial =
        ap (λ (t : Trial). record { i = t.i; j = t.j; word = None }) (get_or-set_same ts k (worded ts k w) no_trial h)
        ∙ ap (λ v. record { i = (get_or ts k no_trial).i; j = (get_or ts k no_trial).j; word = v }) (sym o) in
        ap (λ xs. set xs k (unworded xs k)) (f ∙ e) ∙ ap (set (set ts k (worded ts k w)) k) own ∙ set-set ts k (worded ts k w) (get_or ts k no_trial) ∙ set-get_or ts k no_trial

    -- the answer from below
    pub reached_up : (get_or ts k no_trial).word ≡ None → (after : List Trial) (places : List Place) → Reached n sizes us after places → Reached m sizes ts after places
    reached_up o after places r =
        let below = subst (λ xs. Reached n sizes xs after places) e r in
        let old = shrink _ _ below.timely below.placed in
        record {
          kept = λ i l v f. elim (cases_eq i k) [
            | inl z ↦ absurd (none_some (sym o ∙ ap (λ u. (get_or ts u no_trial).word) (sym z) ∙ f))
            | inr z ↦ (let s = get_or-set_other ts k i (worded ts k w) no_trial z in below.kept i (omega (arith, length-set ts k (worded ts k w))) v (ap (λ (x : Trial). x.word) s ∙ f) ∙ s)
          ];
          pairs = below.pairs ∙ pairs_same m sizes ts node k h w;
          for_each = below.for_each;
          timely = old.0;
          placed = old.1;
          words = below.words;
          least = λ x y a b words.
              let s = get_or-set_same ts k (worded ts k w) no_trial h in
              let at : get_or after k no_trial ≡ worded ts k w = below.kept k (omega (arith, length-set ts k (worded ts k w))) w (ap (λ (x : Trial). x.word) s) ∙ s in
              let l : k < length after = omega (arith, length-map after pair_of, length-map ts pair_of, ap length (below.pairs ∙ pairs_same m sizes ts node k h w)) in
              let holds = subst (λ (u : Trial). HoldsTrial sizes x y u.i u.j u.word) at (All-get_or (λ u. HoldsTrial sizes x y u.i u.j u.word) after k no_trial l words) in
              let p = grow x y a b holds in
              below.least x y p.0 p.1 words;
        } where
          none_some : {v : Word} → None ≡ Some v → ⊥
          none_some e = let z : ◌≡◌ {A = ℕ} 0 1 = cc in omega arith

  -- every word refuted
  all_refuted : ((w : Word) → Refuted m sizes (get_or ts k no_trial).i (get_or ts k no_trial).j w) → NoArrangement m.time m.platform sizes
  all_refuted refuted x y a =
      let b = pair_within m sizes ts node k h in
      let f = free_word sizes node.sized x y _ _ b.0 b.1 (a.free _ _ b.0.0 (in_trial_order m sizes ts node k h).1 b.1.1) in
      refuted f.0 x y a f.1

  pub four_refuted : (n : ℕ) → 4 ≤ n → ((i : ℕ) → i < n → Refuted m sizes (get_or ts k no_trial).i (get_or ts k no_trial).j (nth_word i)) → NoArrangement m.time m.platform sizes
  four_refuted n h r = all_refuted each where
    each : (w : Word) → Refuted m sizes (get_or ts k no_trial).i (get_or ts k no_trial).j w
    each Before = r 0 (omega arith)
    each After = r 1 (omega arith)
    each Nearer = r 2 (omega arith)
    each Farther = r 3 (omega arith)

-- all pairs have their words
pub reached_all : (m : Meanings) (sizes : List Size) (ts : List Trial) (places : List Place) → Node m sizes ts → PickedBelow (length ts) ts None → length places ≡ length sizes
    → Earliest m.time (step_of places) → Earliest m.platform (metre_of places) → Reached m sizes ts ts places
reached_all m sizes ts places node all size et ep = record {
  kept = λ k h w e. refl;
  pairs = refl;
  for_each = size;
  timely = et.placed;
  placed = ep.placed;
  words = All-from_get_or (λ u. HoldsTrial sizes (step_of places) (metre_of places) u.i u.j u.word) ts no_trial
      (λ k h. holds (get_or ts k no_trial).i (get_or ts k no_trial).j (get_or ts k no_trial).word (all k h) (All-get_or (Stands m sizes) ts k no_trial h node.standing));
  least = λ x y a b words i h. (et.least x a i (omega (arith, node.timed)), ep.least y b i (omega (arith, node.placed)));
} where
  keeps : (d : Direction) (b : Bound) → ContainsAt (along d m).bounds b → Keeps (step_of places) (metre_of places) (record { direction = d; bound = b })
  keeps Time b h = et.placed.keeps b h
  keeps Platform b h = ep.placed.keeps b h

  holds : (i j : ℕ) (o : Option Word) → is_some o ≡ true → StandsWord m sizes i j o → HoldsTrial sizes (step_of places) (metre_of places) i j o
  holds i j None some s = absurd (false≢true some)
  holds i j (Some w) some s = keeps_word sizes (step_of places) (metre_of places) i j w (keeps (ruled sizes i j w).direction (ruled sizes i j w).bound s)
