-- The axes of a journal: with one entry more, with the newest gone, and what their largest differences tell.
use Rattle.std.proofs.Common.{◌≡◌, ℕ, List, [], ◌∷◌, ◌++◌, length, ℤ, Some, Ok, Err, sym, refl, ap, ◌∙◌, subst, arith}
use Rattle.std.proofs.lemmas.List.{append-nil, length-map, length_push}
use Rattle.axis.specs.Meaning.{Meaning, lines, Largest}
use Rattle.axis.specs.Asks.{Named, Tight}
use Rattle.axis.specs.declared.model.Bound.{Bound}
use Rattle.axis.specs.declared.model.AxisFault.{AxisFault}
use Rattle.boxes.specs.declared.model.Entry.{Entry}
use Rattle.boxes.specs.declared.model.Direction.{Direction}
use Rattle.boxes.specs.declared.model.Direction.TheVariants.{Time, Platform}
use Rattle.boxes.specs.Letters.{direction_of}
use Rattle.moves.specs.Meanings.{Meanings, along, grown}
use Rattle.moves.specs.Moves.{PutOn, BackOn}
use Rattle.moves.proofs.Grown.{both_same, put_grows, back_grown}
use Rattle.journal.specs.Journal.{Journal, with_entry, without_newest, low_on, axis_of}
use Rattle.journal.specs.Tables.{Newest}
use Rattle.journal.specs.Steps.{ask, difference, Step}
use Rattle.journal.proofs.Entered.{bounds_push}
use Rattle.sheet.specs.Standing.{axes_of}

abbrev with_bounds : Direction → Journal → List Bound → Meaning
with_bounds d k bs = record { lows = (axis_of d k).lows; highs = (axis_of d k).highs; bounds = bs }

module _ (k : Journal) (b : Bound) where
  abbrev entry : Direction → Entry
  entry d = record { direction = d; bound = b }

  -- one entry more is one bound more, on the axis of its direction
  axes_grown : (d : Direction) → axes_of (with_entry k (entry d)) ≡ grown (axes_of k) (entry d)
  axes_grown Time = both_same _ _ (ap (with_bounds Time k) (bounds_push Time k.entries (entry Time))) (ap (with_bounds Platform k) (bounds_push Platform k.entries (entry Time) ∙ append-nil _))
  axes_grown Platform = both_same _ _ (ap (with_bounds Time k) (bounds_push Time k.entries (entry Platform) ∙ append-nil _)) (ap (with_bounds Platform k) (bounds_push Platform k.entries (entry Platform)))

pub put_held : (k : Journal) (e : Entry) (ht hp : ℕ) (m m' : Meanings) → m ≡ axes_of k → PutOn e.direction ht hp m e.bound (Ok tt) m' → m' ≡ axes_of (with_entry k e)
put_held k e ht hp m m' held put = put_grows m e.bound e.direction ht hp m' tt put ∙ ap (λ x. grown x e) held ∙ sym (axes_grown k e.bound e.direction)

bound_left : (d : Direction) (b : Bound) (f : AxisFault) (m n m' : Meanings) → m ≡ grown n (record { direction = d; bound = b }) → ¬ (BackOn d m (Err f) m')
bound_left Time b f m n m' e h = let z : length (n.time.bounds ++ b ∷ []) ≡ 0 = ap (λ (x : Meanings). length x.time.bounds) (sym e) ∙ ap length h.0.0 in omega (arith, length_push n.time.bounds b)
bound_left Platform b f m n m' e h = let z : length (n.platform.bounds ++ b ∷ []) ≡ 0 = ap (λ (x : Meanings). length x.platform.bounds) (sym e) ∙ ap length h.0.0 in omega (arith, length_push n.platform.bounds b)

module _ (k : Journal) (e : Entry) (newest : Newest k.entries (Some e)) (m m' : Meanings) (held : m ≡ axes_of k) where
  -- the axes are those of the journal without its newest entry, and the bound of that entry
  bound_more : m ≡ grown (axes_of (without_newest k)) e
  bound_more = held ∙ ap (λ es. axes_of (record { span = k.span; platform = k.platform; stays = k.stays; entries = es })) newest ∙ axes_grown (without_newest k) e.bound e.direction

  pub back_held : BackOn e.direction m (Ok tt) m' → m' ≡ axes_of (without_newest k)
  back_held back = back_grown (axes_of (without_newest k)) e.bound e.direction m m' (Ok tt) bound_more back

  -- so there is one to take back
  pub back_gives : (f : AxisFault) → ¬ (BackOn e.direction m (Err f) m')
  back_gives f back = bound_left e.direction e.bound f m (axes_of (without_newest k)) m' bound_more back

axis_along : (d : Direction) (k : Journal) (m : Meanings) → m ≡ axes_of k → along d m ≡ axis_of d k
axis_along Time k m held = ap (λ (x : Meanings). x.time) held
axis_along Platform k m held = ap (λ (x : Meanings). x.platform) held

-- the largest difference of an axis is that of the journal's
pub ask_held : (k : Journal) (letter p q : ℕ) (d : Direction) (t : ℤ) (m : Meanings) → direction_of letter ≡ Some d → m ≡ axes_of k → Tight (along d m) p q (Ok t) → Step k (ask letter p q) (difference t) k
ask_held k letter p q d t m letters held tight =
    let e = axis_along d k m held in
    let named : Named (length k.stays) p q = subst (λ n. Named n p q) (ap lines e ∙ length-map k.stays (low_on d)) tight.0 in
    (rw letters (named, tt), ((d, (letters, (t, (refl, subst (λ (x : Meaning). Largest x p q t) e tight.1.largest)))), refl))
