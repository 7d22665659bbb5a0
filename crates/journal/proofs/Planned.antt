-- Placements of a journal's axes, said of its stays and entries.
use Rattle.std.proofs.Common.{◌≡◌, ℕ, zero, suc, ◌<◌, ◌≤◌, List, [], ◌∷◌, map, length, get_or, ℤ, pos, ◌-ℤ◌, ◌≤ℤ◌, sym, subst, arith}
use Rattle.std.specs.List.{ContainsAt, AllByRecursion}
use Rattle.std.proofs.lemmas.List.{length-map, get_or-map}
use Rattle.std.proofs.ByRecursion.{all-has, all_has_itself, All-weaker}
use Rattle.std.proofs.lemmas.Int.{ints}
use Rattle.axis.specs.Meaning.{Placement, lines}
use Rattle.axis.specs.declared.model.Bound.{Bound}
use Rattle.boxes.specs.declared.model.Entry.{Entry}
use Rattle.boxes.specs.declared.model.Direction.{Direction}
use Rattle.boxes.specs.declared.model.Direction.TheVariants.{Time, Platform}
use Rattle.boxes.specs.Overlaps.{Keeps}
use Rattle.journal.specs.Stays.{no_stay}
use Rattle.journal.specs.Journal.{Journal, kept, bounds_on, low_on, high_on, axis_of}
use Rattle.journal.specs.Asks.{Plan}
use Rattle.journal.specs.Plans.{Kept, PlansTell}

abbrev KeepsBound : (ℕ → ℤ) → Bound → Type 0
KeepsBound v b = (v b.p -ℤ v b.q) ≤ℤ b.d

-- a placement of one axis, stay by stay
record Lines (d : Direction) (k : Journal) (v : ℕ → ℤ) : Type 0 where
  start : v 0 ≡ pos 0
  within : (i : ℕ) → i < length k.stays → (low_on d (get_or k.stays i no_stay) ≤ℤ v (suc i)) × (v (suc i) ≤ℤ high_on d k.span k.platform (get_or k.stays i no_stay))
  keeps : AllByRecursion (KeepsBound v) (bounds_on d k.entries)

module _ (d : Direction) (k : Journal) (v : ℕ → ℤ) where
  low_at : (i : ℕ) → i < length k.stays → get_or (map (low_on d) k.stays) i (pos 0) ≡ low_on d (get_or k.stays i no_stay)
  low_at i less = get_or-map (low_on d) k.stays i no_stay (pos 0) less

  high_at : (i : ℕ) → i < length k.stays → get_or (map (high_on d k.span k.platform) k.stays) i (pos 0) ≡ high_on d k.span k.platform (get_or k.stays i no_stay)
  high_at i less = get_or-map (high_on d k.span k.platform) k.stays i no_stay (pos 0) less

  count : lines (axis_of d k) ≡ length k.stays
  count = length-map k.stays (low_on d)

  placed_lines : Placement (axis_of d k) v → Lines d k v
  placed_lines p = record {
    start = let a = p.above 0 (omega arith) in let b = p.below 0 (omega arith) in omega (arith, ints);
    within = λ i less.
        let r : suc i ≤ lines (axis_of d k) = omega (arith, count) in
        (subst (λ (z : ℤ). z ≤ℤ v (suc i)) (low_at i less) (p.above (suc i) r), subst (λ (z : ℤ). v (suc i) ≤ℤ z) (high_at i less) (p.below (suc i) r));
    keeps = All-weaker (ContainsAt (bounds_on d k.entries)) (KeepsBound v) (λ b h. p.keeps b h) (bounds_on d k.entries) (all_has_itself (bounds_on d k.entries));
  }

  module _ (l : Lines d k v) where
    above : (r : ℕ) → r ≤ lines (axis_of d k) → get_or (pos 0 ∷ map (low_on d) k.stays) r (pos 0) ≤ℤ v r
    above zero h = let e = l.start in omega (arith, ints)
    above (suc i) h = let less : i < length k.stays = omega (arith, count) in subst (λ (z : ℤ). z ≤ℤ v (suc i)) (sym (low_at i less)) (l.within i less).0

    below : (r : ℕ) → r ≤ lines (axis_of d k) → v r ≤ℤ get_or (pos 0 ∷ map (high_on d k.span k.platform) k.stays) r (pos 0)
    below zero h = let e = l.start in omega (arith, ints)
    below (suc i) h = let less : i < length k.stays = omega (arith, count) in subst (λ (z : ℤ). v (suc i) ≤ℤ z) (sym (high_at i less)) (l.within i less).1

    lines_placed : Placement (axis_of d k) v
    lines_placed = record { above = above; below = below; keeps = λ b h. all-has (KeepsBound v) (bounds_on d k.entries) b l.keeps h }

module _ (x y : ℕ → ℤ) where
  split : (d : Direction) (b : Bound) (ts ps : List Bound) → AllByRecursion (KeepsBound x) (kept Time d b ts) → AllByRecursion (KeepsBound y) (kept Platform d b ps)
      → Keeps x y (record { direction = d; bound = b }) × (AllByRecursion (KeepsBound x) ts × AllByRecursion (KeepsBound y) ps)
  split Time b ts ps t p = (t.0, (t.1, p))
  split Platform b ts ps t p = (p.0, (t, p.1))

  joined : (d : Direction) (b : Bound) (ts ps : List Bound) → Keeps x y (record { direction = d; bound = b }) → AllByRecursion (KeepsBound x) ts → AllByRecursion (KeepsBound y) ps
      → AllByRecursion (KeepsBound x) (kept Time d b ts) × AllByRecursion (KeepsBound y) (kept Platform d b ps)
  joined Time b ts ps e t p = ((e, t), p)
  joined Platform b ts ps e t p = (t, (e, p))

  -- the entries are kept when the bounds of both directions are
  entries_kept : (es : List Entry) → AllByRecursion (KeepsBound x) (bounds_on Time es) → AllByRecursion (KeepsBound y) (bounds_on Platform es) → AllByRecursion (Keeps x y) es
  entries_kept [] t p = tt
  entries_kept (e ∷ es) t p = let s = split e.direction e.bound (bounds_on Time es) (bounds_on Platform es) t p in (s.0, entries_kept es s.1.0 s.1.1)

  bounds_kept : (es : List Entry) → AllByRecursion (Keeps x y) es → AllByRecursion (KeepsBound x) (bounds_on Time es) × AllByRecursion (KeepsBound y) (bounds_on Platform es)
  bounds_kept [] h = (tt, tt)
  bounds_kept (e ∷ es) h = let r = bounds_kept es h.1 in joined e.direction e.bound (bounds_on Time es) (bounds_on Platform es) h.0 r.0 r.1

  plan_kept : (k : Journal) → Plan k x y → Kept k x y
  plan_kept k p =
      let t = placed_lines Time k x p.timely in
      let m = placed_lines Platform k y p.placed in
      record {
        start = (t.start, m.start);
        windows = λ i less. let w = t.within i less in (w.0, omega (arith, ints));
        platform = λ i less. let w = m.within i less in (w.0, omega (arith, ints));
        entries = entries_kept k.entries t.keeps m.keeps;
        free = p.free;
      }

  kept_plan : (k : Journal) → Kept k x y → Plan k x y
  kept_plan k h =
      let e = bounds_kept k.entries h.entries in
      record {
        timely = lines_placed Time k x (record { start = h.start.0; within = λ i less. let w = h.windows i less in (w.0, omega (arith, ints)); keeps = e.0 });
        placed = lines_placed Platform k y (record { start = h.start.1; within = λ i less. let w = h.platform i less in (w.0, omega (arith, ints)); keeps = e.1 });
        free = h.free;
      }

pub plans_tell_lem : PlansTell
plans_tell_lem k x y = (plan_kept x y k, kept_plan x y k)
