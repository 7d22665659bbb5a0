-- What a packing answers, and every record of both buffers afterwards.
use Rattle.std.specs.Prelude.{◌≡◌, ℕ, ◌≤◌, List, ◌++◌, length, take, drop, replicate, Ok, Err, Result}
use Rattle.stack.specs.declared.elements.Trial.{Trial}
use Rattle.axis.specs.Meaning.{lines}
use Rattle.boxes.specs.declared.model.Size.{Size}
use Rattle.boxes.specs.declared.model.Place.{Place}
use Rattle.boxes.specs.Overlaps.{Sized}
use Rattle.boxes.specs.Order.{pairs, no_trial}
use Rattle.boxes.specs.Arranged.{Arranged, NoArrangement}
use Rattle.moves.specs.Meanings.{Meanings}

-- what a packing asks: axes with a line for each box and at most 24 bounds, and buffers that are long enough
pub record Asked (axes : Meanings) (sizes : List Size) (places : List Place) (trials : List Trial) : Type 0 where
  pub sized : Sized sizes
  pub timed : lines axes.time ≡ length sizes
  pub placed : lines axes.platform ≡ length sizes
  pub few : (length axes.time.bounds ≤ 24) × (length axes.platform.bounds ≤ 24)
  pub buffers : (length sizes ≤ length places) × (pairs (length sizes) ≤ length trials)

module _ (axes : Meanings) (sizes : List Size) where
  -- with buffers of just the length
  abbrev pub Filled : {N : Type 0} → List Place → List Place → List Trial → Result ℕ N → Type 0
  Filled old places trials (Ok _) = Arranged axes.time axes.platform sizes places trials
  Filled old places trials (Err _) = NoArrangement axes.time axes.platform sizes × (places ≡ old) × (trials ≡ replicate (length trials) no_trial)

  -- found: an arrangement at the front of both buffers, the rest as it was
  pub record Found (old new : List Place) (before after : List Trial) : Type 0 where
    pub arranged : Arranged axes.time axes.platform sizes (take (length sizes) new) (take (pairs (length sizes)) after)
    pub later_places : drop (length sizes) new ≡ drop (length sizes) old
    pub later_trials : drop (pairs (length sizes)) after ≡ drop (pairs (length sizes)) before

  -- not found: there is none, the places are as they were, and a blank record stands for each pair
  pub record NotFound (old new : List Place) (before after : List Trial) : Type 0 where
    pub none : NoArrangement axes.time axes.platform sizes
    pub places : new ≡ old
    pub blank : after ≡ replicate (pairs (length sizes)) no_trial ++ drop (pairs (length sizes)) before

  abbrev pub Packed : {N : Type 0} → List Place → List Place → List Trial → List Trial → Result ℕ N → Type 0
  Packed old new before after (Ok _) = Found old new before after
  Packed old new before after (Err _) = NotFound old new before after
