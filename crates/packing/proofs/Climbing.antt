-- From the board below back up to the board where the word was put.
use Rattle.std.proofs.Common.{◌≡◌, ◌∙◌, ℕ, ◌+◌, ◌<◌, Bool, true, false, List, length, get_or, Some, Ok, Err, Result, sym, refl, subst, arith, below_more}
use Rattle.std.proofs.lemmas.List.{get_or_default}
use Rattle.stack.specs.declared.elements.Word.{Word}
use Rattle.stack.specs.declared.elements.Word.TheVariants.{Before}
use Rattle.stack.specs.declared.elements.Trial.{Trial}
use Rattle.stack.specs.declared.fault.StackFault.{StackFault}
use Rattle.stack.specs.Stacks.{contents}
use Rattle.boxes.specs.declared.model.Place.{Place}
use Rattle.moves.specs.Meanings.{Meanings}
use Rattle.trials.specs.declared.board.Board.{Board}
use Rattle.trials.specs.Trials.{nth_word}
use Rattle.trials.specs.Boards.{Open, RefutedAt, ImpliedAt, Ready, Becomes, Unchanged, Below, NewestGone, BackedUp, Reopened}
use Rattle.trials.proofs.Nodes.{backed}
use Rattle.packing.specs.Descent.{Reached, Unarranged, Reaches, Explored}
use Rattle.packing.proofs.Above.{none_up, set_back, reached_up}

module _ {T P : Type 0} where
  -- one change after another
  both : {b b₁ b₂ : Board T P} {m n : Meanings} {ts us : List Trial} {ps qs : List Place} {old new : List Trial} → Becomes b b₁ m ts ps old → Becomes b₁ b₂ n us qs new → Becomes b b₂ n us qs new
  both first next = record {
    axes = next.axes;
    trials = next.trials;
    places = next.places;
    trail = next.trail;
    sizes = next.sizes ∙ first.sizes;
    space = next.space ∙ first.space;
    loans = (next.loans.0 ∙ first.loans.0, next.loans.1 ∙ first.loans.1, next.loans.2 ∙ first.loans.2, next.loans.3 ∙ first.loans.3);
  }

  -- b, and b₁ with the word put
  module _ (ht hp : ℕ) (b : Board T P) (ready : Ready ht hp b) (k : ℕ) (open_at : Open b k) (w : Word) (b₁ : Board T P) (below : Below ht hp k w b b₁) where
    -- the newest record is that of the word, so its bound is the one that goes
    gone : (b₂ b₃ : Board T P) (r : Result Unit StackFault) → b₂.axes.now ≡ b₁.axes.now → contents b₂.trail.now ≡ contents b₁.trail.now → NewestGone b₂ b₃ r
        → (b₃.axes.now ≡ b.axes.now) × (contents b₃.trail.now ≡ contents b.trail.now)
    gone b₂ b₃ (Ok u) axes trail newest = backed b.axes.now b.sizes.now b.trials.now ready.node k open_at.0 w _ _ _ _ _ (axes ∙ below.put.axes) (trail ∙ below.put.trail) true newest
    gone b₂ b₃ (Err f) axes trail none = backed b.axes.now b.sizes.now b.trials.now ready.node k open_at.0 w _ _ (contents b₃.trail.now) _ _ (axes ∙ below.put.axes) (trail ∙ below.put.trail) false none

    -- b₂ has the axes and the trail of b₁, and b₃ is backed up
    up : (b₂ b₃ : Board T P) (m : Meanings) (ts us : List Trial) (ps qs : List Place) (noted : List Trial) (r : Result Unit StackFault) → Becomes b₁ b₂ m ts ps noted → m ≡ b₁.axes.now → noted ≡ contents b₁.trail.now → BackedUp b₂ b₃ r
        → b₃.trials.now ≡ us → b₃.places.now ≡ qs → Becomes b b₃ b.axes.now us qs (contents b.trail.now)
    up b₂ b₃ m ts us ps qs noted r went axes trail back trials places =
        let old = gone b₂ b₃ r (went.axes ∙ axes) (went.trail ∙ trail) back.newest in
        let all = both (both below.put went) back.rest in
        record { axes = old.0; trials = trials; places = places; trail = old.1; sizes = all.sizes; space = all.space; loans = all.loans }

    pub found_above : (b₂ b₃ : Board T P) (r : Result Unit StackFault) → Reaches b₁ b₂ → BackedUp b₂ b₃ r → Reaches b b₃
    found_above b₂ b₃ r below_found back = record {
      found =
          rw (back.rest.trials, back.rest.places) (reached_up b.axes.now b.sizes.now b.trials.now ready.node k open_at.0 w b₁.axes.now below.put.axes b₁.trials.now below.put.trials open_at.1 b₂.trials.now b₂.places.now
          (subst (λ s. Reached b₁.axes.now s b₁.trials.now b₂.trials.now b₂.places.now) below.put.sizes below_found.found));
      rest = up b₂ b₃ _ _ _ _ _ _ r below_found.rest refl refl back refl refl;
    }

    -- b₃ with trial k reopened, and b₄ backed up
    pub none_above : (b₂ b₃ b₄ : Board T P) (r : Result Unit StackFault) → Unarranged b₁ × Unchanged b₁ b₂ → Reopened k b₂ b₃ → BackedUp b₃ b₄ r → RefutedAt b k w × Unchanged b b₄
    none_above b₂ b₃ b₄ r (none, same) again back =
        let node = ready.node in (
          none_up b.axes.now b.sizes.now b.trials.now node k open_at.0 w b₁.axes.now below.put.axes b₁.trials.now below.put.trials (rw (sym below.put.sizes) none),
          up b₃ b₄ _ _ _ _ _ _ r (both same again) same.axes same.trail back
              (back.rest.trials ∙ again.trials ∙ set_back b.axes.now b.sizes.now b.trials.now node k open_at.0 w b₁.axes.now below.put.axes b₁.trials.now below.put.trials open_at.1 b₂.trials.now same.trials)
              (back.rest.places ∙ again.places ∙ same.places ∙ below.put.places),
        )

  -- an implied word that no arrangement has leaves none
  pub implied_only : (b b' : Board T P) (k : ℕ) (w : Word) (r : Bool) → ImpliedAt b k (Some w) → Explored (RefutedAt b k w) b b' r → Explored (Unarranged b) b b' r
  implied_only b b' k w true implied e = e
  implied_only b b' k w false implied e = ((λ x y a. e.0 x y a (implied x y a.timely a.placed)), e.1)

  -- one word more is refuted
  pub refuted_more : (b b' : Board T P) (k n : ℕ) (ws : List Word) (d : Word) → length ws ≡ 4 → ((m : ℕ) → m < 4 → get_or ws m Before ≡ nth_word m) → n < 4
      → Unchanged b b' → RefutedAt b' k (get_or ws n d) → ((m : ℕ) → m < n → RefutedAt b k (nth_word m)) → (m : ℕ) → m < n + 1 → RefutedAt b k (nth_word m)
  refuted_more b b' k n ws d count nth four same refuted below =
      below_more (λ m. RefutedAt b k (nth_word m)) n below
      (rw (← nth n four, get_or_default ws n Before d (omega arith), sym same.axes, sym same.sizes, sym same.trials) refuted)
