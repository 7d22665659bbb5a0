-- A node and the one below it: a word more stands, and it can be taken back.
use Rattle.std.proofs.Common.{◌≡◌, ℕ, zero, suc, ◌+◌, ◌<◌, ◌≤◌, Bool, true, false, List, [], ◌∷◌, ◌++◌, map, length, get_or, set, ℤ, Some, None, Ok, Err, Option, Result, sym, refl, ap, ◌∙◌, subst, arith}
use Rattle.std.specs.List.{ContainsAt}
use Rattle.std.proofs.lemmas.List.{length-map, get_or-map, set-get_or, map-set, length_push, same_from_push}
use Rattle.std.proofs.ByRecursion.{has_get_or, has_push, has_append_left, All-set, All-weaker}
use Rattle.stack.specs.declared.elements.Word.{Word}
use Rattle.stack.specs.declared.elements.Trial.{Trial}
use Rattle.axis.specs.declared.model.Bound.{Bound}
use Rattle.axis.specs.declared.model.AxisFault.{AxisFault}
use Rattle.axis.specs.Meaning.{lines}
use Rattle.axis.specs.Asks.{Within}
use Rattle.boxes.specs.declared.model.Size.{Size}
use Rattle.boxes.specs.declared.model.Entry.{Entry}
use Rattle.boxes.specs.declared.model.Direction.{Direction}
use Rattle.boxes.specs.declared.model.Direction.TheVariants.{Time, Platform}
use Rattle.boxes.specs.Overlaps.{ruled, HoldsWord, Keeps}
use Rattle.boxes.specs.Order.{pair_of, no_trial}
use Rattle.boxes.proofs.Lie.{word_keeps, keeps_word, ruled_named, ruled_near, ruled_side}
use Rattle.boxes.proofs.Ordered.{order_within}
use Rattle.moves.specs.Meanings.{Meanings, along, grown}
use Rattle.moves.specs.declared.moves.Standing.TheVariants.{Implied, Possible, Impossible}
use Rattle.moves.specs.declared.moves.Standing.{Standing}
use Rattle.moves.specs.Moves.{PutOn, BackOn, Told}
use Rattle.moves.proofs.Grown.{put_refutes, put_grows, told_refutes, told_kept, back_grown, grown_lines, grown_length}
use Rattle.trials.specs.Trials.{open_one, open_count, StandsWord, Stands, Node, Room, Refuted, ToldWord, noted_side, TakenBack, WordPut, worded, entry_of}

-- one trial has its word
open_set : (ts : List Trial) (k : ℕ) (x : Trial) (w : Word) → k < length ts → (get_or ts k no_trial).word ≡ None → x.word ≡ Some w → open_count (set ts k x) + 1 ≡ open_count ts
open_set [] k x w h o e = absurd (omega arith)
open_set (t ∷ ts) zero x w h o e = let a : open_one x.word ≡ 0 = ap open_one e in let b : open_one t.word ≡ 1 = ap open_one o in omega arith
open_set (t ∷ ts) (suc k) x w h o e = let a = open_set ts k x w (omega arith) o e in omega arith

pub open_some : (ts : List Trial) (k : ℕ) → k < length ts → (get_or ts k no_trial).word ≡ None → 0 < open_count ts
open_some [] k h o = absurd (omega arith)
open_some (t ∷ ts) zero h o = let b : open_one t.word ≡ 1 = ap open_one o in omega arith
open_some (t ∷ ts) (suc k) h o = let a = open_some ts k (omega arith) o in omega arith

-- there is room for one word more
pub spaces : (ht hp : ℕ) (m : Meanings) (used space : ℕ) (ts : List Trial) (k : ℕ) → Room ht hp m used space ts → (k < length ts) × ((get_or ts k no_trial).word ≡ None)
    → (length m.time.bounds < ht) × (length m.platform.bounds < hp) × (used < space)
spaces ht hp m used space ts k r open_at =
    let some = open_some ts k open_at.0 open_at.1 in
    (omega (arith, r.in_time), omega (arith, r.on_platform), omega (arith, r.on_trail))

module _ (m : Meanings) (sizes : List Size) (ts : List Trial) (node : Node m sizes ts) (k : ℕ) (h : k < length ts) where
  pub in_trial_order : (1 ≤ (get_or ts k no_trial).i) × ((get_or ts k no_trial).i < (get_or ts k no_trial).j) × ((get_or ts k no_trial).j ≤ length sizes)
  in_trial_order =
      let e = get_or-map pair_of ts k no_trial (pair_of no_trial) h in
      let l : k < length (map pair_of ts) = omega (arith, length-map ts pair_of) in
      let x = has_get_or (map pair_of ts) k (pair_of no_trial) l in
      order_within (length sizes) _ (subst (λ q. ContainsAt q (pair_of (get_or ts k no_trial))) node.in_order (subst (ContainsAt (map pair_of ts)) e x))

  pub pair_within : ((1 ≤ (get_or ts k no_trial).i) × ((get_or ts k no_trial).i ≤ length sizes)) × ((1 ≤ (get_or ts k no_trial).j) × ((get_or ts k no_trial).j ≤ length sizes))
  pair_within = let y = in_trial_order in ((y.0, omega (arith, y.1, y.2)), (omega (arith, y.0, y.1), y.2))

  pub entry_within : (w : Word) → Within (lines (along (entry_of sizes ts k w).direction m)) (entry_of sizes ts k w).bound
  entry_within w =
      let a = pair_within in
      let n : lines (along (entry_of sizes ts k w).direction m) ≡ length sizes = both (entry_of sizes ts k w).direction in
      let q = ruled_named sizes (get_or ts k no_trial).i (get_or ts k no_trial).j (length sizes) w a.0.1 a.1.1 in
      ((subst (λ m. (entry_of sizes ts k w).bound.p ≤ m) (sym n) q.0, subst (λ m. (entry_of sizes ts k w).bound.q ≤ m) (sym n) q.1), ruled_near sizes node.sized _ _ a.0 a.1 w) where
        both : (d : Direction) → lines (along d m) ≡ length sizes
        both Time = node.timed
        both Platform = node.placed

  module _ (w : Word) where
    abbrev entry : Entry
    entry = entry_of sizes ts k w

    pub kept : (x y : ℕ → ℤ) → HoldsWord sizes x y w (get_or ts k no_trial).i (get_or ts k no_trial).j → Keeps x y (entry_of sizes ts k w)
    kept x y = word_keeps sizes x y _ _ w

    pub told_word : (e : Entry) (s : Standing) → e ≡ entry_of sizes ts k w → Told (along e.direction m) e.bound s → ToldWord m sizes (get_or ts k no_trial).i (get_or ts k no_trial).j w s
    told_word e s q told = word s (subst (λ (e : Entry). Told (along e.direction m) e.bound s) q told) where
      word : (s : Standing) → Told (along entry.direction m) entry.bound s → ToldWord m sizes (get_or ts k no_trial).i (get_or ts k no_trial).j w s
      word Implied told = λ x y a b. keeps_word sizes x y _ _ w (told_kept m entry.bound entry.direction x y told a b)
      word Possible told = tt
      word Impossible told = λ x y a holds. told_refutes m entry.bound entry.direction x y told a.timely a.placed (kept x y holds)

    module _ (e : Entry) (is : e ≡ entry_of sizes ts k w) (ht hp : ℕ) (m' : Meanings) where
      on_entry : (r : Result Unit AxisFault) → PutOn e.direction ht hp m e.bound r m' → PutOn entry.direction ht hp m entry.bound r m'
      on_entry r put = subst (λ (e : Entry). PutOn e.direction ht hp m e.bound r m') is put

      pub put_refuted : (f : AxisFault) → length m.time.bounds < ht → length m.platform.bounds < hp → PutOn e.direction ht hp m e.bound (Err f) m' → Refuted m sizes (get_or ts k no_trial).i (get_or ts k no_trial).j w × (m' ≡ m)
      put_refuted f rt rp put =
          let r = put_refutes m entry.bound entry.direction ht hp m' f (entry_within w) rt rp (on_entry (Err f) put) in
          ((λ x y a word. r.0 x y a.timely a.placed (kept x y word)), r.1)

      pub put_grown : (u : Unit) → PutOn e.direction ht hp m e.bound (Ok u) m' → m' ≡ grown m (entry_of sizes ts k w)
      put_grown u put = put_grows m entry.bound entry.direction ht hp m' u (on_entry (Ok u) put)

    -- what stood stands, and the bound of the word too
    has_grown : (d e : Direction) (c b : Bound) → ContainsAt (along d m).bounds c → ContainsAt (along d (grown m (record { direction = e; bound = b }))).bounds c
    has_grown Time Time c b x = has_append_left m.time.bounds (b ∷ []) c x
    has_grown Time Platform c b x = x
    has_grown Platform Time c b x = x
    has_grown Platform Platform c b x = has_append_left m.platform.bounds (b ∷ []) c x

    has_new : (e : Direction) (b : Bound) → ContainsAt (along e (grown m (record { direction = e; bound = b }))).bounds b
    has_new Time b = has_push m.time.bounds b
    has_new Platform b = has_push m.platform.bounds b

    stands_grown : (x : Trial) → Stands m sizes x → Stands (grown m entry) sizes x
    stands_grown x = stands x.i x.j x.word where
      stands : (a b : ℕ) (o : Option Word) → StandsWord m sizes a b o → StandsWord (grown m entry) sizes a b o
      stands a b None s = tt
      stands a b (Some v) s = has_grown (ruled sizes a b v).direction entry.direction (ruled sizes a b v).bound entry.bound s

    pub pairs_same : map pair_of (set ts k (worded ts k w)) ≡ map pair_of ts
    pairs_same = map-set pair_of ts k (worded ts k w) ∙ ap (set (map pair_of ts) k) (sym (get_or-map pair_of ts k no_trial (pair_of no_trial) h)) ∙ set-get_or (map pair_of ts) k (pair_of no_trial)

    pub node_below : Node (grown m (entry_of sizes ts k w)) sizes (set ts k (worded ts k w))
    node_below = record {
      sized = node.sized;
      timed = (grown_lines m entry.bound entry.direction).0 ∙ node.timed;
      placed = (grown_lines m entry.bound entry.direction).1 ∙ node.placed;
      in_order = pairs_same ∙ node.in_order;
      standing = All-set _ ts k (worded ts k w) (has_new entry.direction entry.bound) (All-weaker _ _ stands_grown ts node.standing);
    }

    pub open_falls : (get_or ts k no_trial).word ≡ None → open_count (set ts k (worded ts k w)) + 1 ≡ open_count ts
    open_falls o = open_set ts k (worded ts k w) w h o refl

    pub room_below : (ht hp used space : ℕ) → (get_or ts k no_trial).word ≡ None → Room ht hp m used space ts → Room ht hp (grown m (entry_of sizes ts k w)) (used + 1) space (set ts k (worded ts k w))
    room_below ht hp used space o r =
        let n = open_falls o in
        let g = grown_length m entry.bound entry.direction in
        record {
          in_time = let a = r.in_time in omega (arith, g.0);
          on_platform = let a = r.on_platform in omega (arith, g.1);
          on_trail = let a = r.on_trail in omega arith;
        }

    -- all that holds below
    pub entered : (get_or ts k no_trial).word ≡ None → (ht hp : ℕ) (ts' : List Trial) (m' : Meanings) (trail trail' : List Trial) (space space' : ℕ) → Room ht hp m (length trail) space ts
        → m' ≡ grown m (entry_of sizes ts k w) → ts' ≡ set ts k (worded ts k w) → trail' ≡ trail ++ worded ts k w ∷ [] → space' ≡ space
        → WordPut ht hp sizes ts ts' k w m m' trail trail' space'
    entered o ht hp ts' m' trail trail' space space' r grows tried noted same = record {
      axes = grows;
      tried = tried;
      noted = noted;
      node = rw (grows, tried) node_below;
      room =
          let used : length trail' ≡ length trail + 1 = ap length noted ∙ length_push trail (worded ts k w) in
          rw (grows, tried, used, same) (room_below ht hp (length trail) space o r);
      falls = ap (λ xs. open_count xs + 1) tried ∙ open_falls o;
    }

    -- backing up from below
    pub backed : (trail below above : List Trial) (m₁ m' : Meanings) → m₁ ≡ grown m (entry_of sizes ts k w) → below ≡ trail ++ worded ts k w ∷ []
        → (r : Bool) → TakenBack below above m₁ m' r → (m' ≡ m) × (above ≡ trail)
    backed trail below above m₁ m' grows noted true (x, (items, (r, back))) =
        let top = same_from_push above trail x (worded ts k w) (sym items ∙ noted) in
        let side : noted_side x.word ≡ entry.direction = ap (λ (t : Trial). noted_side t.word) top.1 ∙ ruled_side sizes _ _ w in
        (back_grown m entry.bound entry.direction m₁ m' r grows (subst (λ d. BackOn d m₁ r m') side back), top.0)
    backed trail below above m₁ m' grows noted false none =
        let n = length_push trail (worded ts k w) in
        let z : length (trail ++ worded ts k w ∷ []) ≡ 0 = ap length (sym noted ∙ none) in
        absurd (omega arith)
