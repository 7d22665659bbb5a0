-- Each worked call has its worked reply.
use Rattle.std.proofs.Common.{ℕ, zero, suc, ◌≤◌, [], ◌∷◌, ℤ, pos, neg_ℤ, ◌≤ℤ◌, inl, inr, refl, rules, arith}
use Rattle.std.proofs.lemmas.Int.{ints}
use Rattle.axis.specs.Distance.{base, mend}
use Rattle.axis.specs.Questions.{AllYes}
use Rattle.boxes.specs.declared.model.Direction.TheVariants.{Time, Platform}
use Rattle.journal.specs.Journal.{Journal, new, axis_of, sizes_of}
use Rattle.journal.specs.Asks.{load_asks}
use Rattle.journal.specs.Asks.{Plan}
use Rattle.journal.specs.Steps.{Step, Settled, load, ask, rule, bind, withdraw, settle, done, refused, plan, difference}
use Rattle.stack.specs.declared.elements.Word.{Word}
use Rattle.stack.specs.declared.elements.Word.TheVariants.{Before, After, Nearer, Farther}
use Rattle.axis.specs.Meaning.{Placement, at_line}
use Rattle.boxes.specs.Overlaps.{Sized, HoldsWord}
use Rattle.boxes.proofs.Lie.{words_tell_lem}
use Rattle.faults.specs.declared.model.SheetFault.TheVariants as refuse
use Rattle.worked_cases.specs.Cases.{Lead, WorkedCases, T, B, N, three, first, second, ones, windowed, three_stays, with_itself, crowded, chain, windows, turned, itself, bound, too_tight, holding}
use Rattle.worked_cases.proofs.Calls.{entry_yes, entry_no, ask_told}
use Rattle.worked_cases.proofs.Fitting.{loaded_three, with_before, with_turned, before, one_two, two_three, fits_three, fits_before, fits_platform, fits_turned, fits_ones, fits_one_two, fits_chain}

three_good : AllYes (load_asks 7 100 three)
three_good = search (rules, arith)

load_three : Step new (load 7 100 three) done loaded_three
load_three = (three_good, (refl, refl))

ask_1_0 : Step loaded_three (ask T 1 0) (difference (pos 4)) loaded_three
unfolding base mend
ask_1_0 = ask_told loaded_three 1 0 (pos 4) fits_three (omega arith, omega arith) (omega arith, omega arith) refl

ask_0_1 : Step loaded_three (ask T 0 1) (difference (pos 0)) loaded_three
unfolding base mend
ask_0_1 = ask_told loaded_three 0 1 (pos 0) fits_three (omega arith, omega arith) (omega arith, omega arith) refl

rule_before : Step loaded_three (rule 1 2 B) done with_before
unfolding base mend
rule_before = ((((omega arith, omega arith), (omega arith, omega arith), omega arith), entry_yes loaded_three Time fits_three before.bound (omega arith) (omega arith, omega arith) (omega arith, omega arith) (omega (arith, ints), omega (arith, ints)) (omega (arith, ints))), (refl, refl))

before_1_0 : Step with_before (ask T 1 0) (difference (pos 0)) with_before
unfolding base mend
before_1_0 = ask_told with_before 1 0 (pos 0) fits_before (omega arith, omega arith) (omega arith, omega arith) refl

before_0_2 : Step with_before (ask T 0 2) (difference (neg_ℤ (pos 3))) with_before
unfolding base mend
before_0_2 = ask_told with_before 0 2 (neg_ℤ (pos 3)) fits_before (omega arith, omega arith) (omega arith, omega arith) refl

before_2_1 : Step with_before (ask T 2 1) (difference (pos 3)) with_before
unfolding base mend
before_2_1 = ask_told with_before 2 1 (pos 3) fits_before (omega arith, omega arith) (omega arith, omega arith) refl

turned_refused : Step with_before (rule 2 1 B) too_tight with_before
unfolding base mend
turned_refused = (inr (((omega arith, omega arith), (omega arith, omega arith), omega arith), entry_no with_before Time fits_before turned.bound (omega arith) (omega arith, omega arith) (omega arith, omega arith) (omega (arith, ints), omega (arith, ints)) (omega (arith, ints))), refl)

nearer_refused : Step with_before (rule 1 2 N) too_tight with_before
unfolding base mend
nearer_refused = (inr (((omega arith, omega arith), (omega arith, omega arith), omega arith), entry_no with_before Platform fits_platform (bound 1 2 (neg_ℤ (pos 60))) (omega arith) (omega arith, omega arith) (omega arith, omega arith) (omega (arith, ints), omega (arith, ints)) (omega (arith, ints))), refl)

withdrawn : Step with_before withdraw done loaded_three
withdrawn = ((omega arith, tt), (refl, refl))

rule_turned : Step loaded_three (rule 2 1 B) done with_turned
unfolding base mend
rule_turned = ((((omega arith, omega arith), (omega arith, omega arith), omega arith), entry_yes loaded_three Time fits_three turned.bound (omega arith) (omega arith, omega arith) (omega arith, omega arith) (omega (arith, ints), omega (arith, ints)) (omega (arith, ints))), (refl, refl))

turned_0_1 : Step with_turned (ask T 0 1) (difference (neg_ℤ (pos 4))) with_turned
unfolding base mend
turned_0_1 = ask_told with_turned 0 1 (neg_ℤ (pos 4)) fits_turned (omega arith, omega arith) (omega arith, omega arith) refl

three_lead : Lead three_stays with_turned
three_lead = (
  loaded_three,
  (
    load_three,
    (
      loaded_three,
      (
        ask_1_0,
        (
          loaded_three,
          (
            ask_0_1,
            (
              with_before,
              (
                rule_before,
                (
                  with_before,
                  (
                    before_1_0,
                    (
                      with_before,
                      (
                        before_0_2,
                        (
                          with_before,
                          (
                            before_2_1,
                            (with_before, (turned_refused, (with_before, (nearer_refused, (loaded_three, (withdrawn, (with_turned, (rule_turned, (with_turned, (turned_0_1, refl)))))))))),
                          ),
                        ),
                      ),
                    ),
                  ),
                ),
              ),
            ),
          ),
        ),
      ),
    ),
  ),
)

-- a bound of a line with itself
itself_refused : Step loaded_three (bind T (bound 1 1 (neg_ℤ (pos 1)))) too_tight loaded_three
unfolding base mend
itself_refused = (entry_no loaded_three Time fits_three (bound 1 1 (neg_ℤ (pos 1))) (omega arith) (omega arith, omega arith) (omega arith, omega arith) (omega (arith, ints), omega (arith, ints)) (omega (arith, ints)), refl)

itself_bound : Step loaded_three (bind T itself.bound) done (holding 7 three (itself ∷ []))
unfolding base mend
itself_bound = (entry_yes loaded_three Time fits_three itself.bound (omega arith) (omega arith, omega arith) (omega arith, omega arith) (omega (arith, ints), omega (arith, ints)) (omega (arith, ints)), (refl, refl))

itself_leads : Lead with_itself (holding 7 three (itself ∷ []))
itself_leads = (loaded_three, (load_three, (loaded_three, (itself_refused, (holding 7 three (itself ∷ []), (itself_bound, refl))))))

-- bounds one after the other
abbrev bare_ones : Journal
bare_ones = holding 20 ones []

abbrev first_bound : Journal
first_bound = holding 20 ones (one_two ∷ [])

abbrev both_bounds : Journal
both_bounds = holding 20 ones (one_two ∷ two_three ∷ [])

abbrev all_bounds : Journal
all_bounds = holding 20 ones (one_two ∷ two_three ∷ record { direction = Time; bound = bound 3 1 (pos 6) } ∷ [])

load_ones : Step new (load 20 100 ones) done bare_ones
load_ones = (search (rules, arith), (refl, refl))

bind_first : Step bare_ones (bind T one_two.bound) done first_bound
unfolding base mend
bind_first = (entry_yes bare_ones Time fits_ones one_two.bound (omega arith) (omega arith, omega arith) (omega arith, omega arith) (omega (arith, ints), omega (arith, ints)) (omega (arith, ints)), (refl, refl))

bind_second : Step first_bound (bind T two_three.bound) done both_bounds
unfolding base mend
bind_second = (entry_yes first_bound Time fits_one_two two_three.bound (omega arith) (omega arith, omega arith) (omega arith, omega arith) (omega (arith, ints), omega (arith, ints)) (omega (arith, ints)), (refl, refl))

five_refused : Step both_bounds (bind T (bound 3 1 (pos 5))) too_tight both_bounds
unfolding base mend
five_refused = (entry_no both_bounds Time fits_chain (bound 3 1 (pos 5)) (omega arith) (omega arith, omega arith) (omega arith, omega arith) (omega (arith, ints), omega (arith, ints)) (omega (arith, ints)), refl)

six_bound : Step both_bounds (bind T (bound 3 1 (pos 6))) done all_bounds
unfolding base mend
six_bound = (entry_yes both_bounds Time fits_chain (bound 3 1 (pos 6)) (omega arith) (omega arith, omega arith) (omega arith, omega arith) (omega (arith, ints), omega (arith, ints)) (omega (arith, ints)), (refl, refl))

chain_lead : Lead chain all_bounds
chain_lead = (bare_ones, (load_ones, (first_bound, (bind_first, (both_bounds, (bind_second, (both_bounds, (five_refused, (all_bounds, (six_bound, refl))))))))))

-- windows of just the steps, and of one less
abbrev one_window : Journal
one_window = holding 7 (windowed 1 3 ∷ []) []

load_window : Step new (load 7 100 (windowed 1 3 ∷ [])) done one_window
load_window = (search (rules, arith), (refl, refl))

window_refused : Step one_window (load 7 100 (windowed 1 3 ∷ windowed 2 3 ∷ [])) (refused (refuse.Window 2)) one_window
window_refused = (
  inr (
    ((omega arith, omega arith), (omega arith, omega arith)),
    inr (
      omega arith,
      inr (
        (omega arith, omega arith),
        inr (
          omega arith,
          inr (
            (omega arith, omega arith),
            inr (
              (omega arith, omega arith),
              inr ((omega arith, omega arith), inr (omega arith, inr ((omega arith, omega arith), inl (λ h. let late = h.0 in omega arith, refl)))),
            ),
          ),
        ),
      ),
    ),
  ),
  refl,
)

windows_lead : Lead windows one_window
windows_lead = (one_window, (load_window, (one_window, (window_refused, refl))))

-- two stays in a span that is one step too short
abbrev two : Journal
two = holding 6 (first ∷ second ∷ []) []

load_two : Step new (load 6 100 (first ∷ second ∷ [])) done two
load_two = (search (rules, arith), (refl, refl))

sized_two : Sized (sizes_of two)
sized_two zero h = search (rules, arith)
sized_two (suc zero) h = search (rules, arith)
sized_two (suc (suc k)) h = absurd (omega arith)

module _ (x y : ℕ → ℤ) (p : Plan two x y) where
  no_word : (w : Word) → ¬ (HoldsWord (sizes_of two) x y w 1 2)
  no_word Before h = let a = p.timely.above 1 (omega arith) in let b = p.timely.below 2 (omega arith) in omega (arith, ints)
  no_word After h = let a = p.timely.above 2 (omega arith) in let b = p.timely.below 1 (omega arith) in omega (arith, ints)
  no_word Nearer h = let a = p.placed.above 1 (omega arith) in let b = p.placed.below 2 (omega arith) in omega (arith, ints)
  no_word Farther h = let a = p.placed.above 2 (omega arith) in let b = p.placed.below 1 (omega arith) in omega (arith, ints)

  no_plan : ⊥
  no_plan =
      let word = (words_tell_lem (sizes_of two) sized_two x y 1 2 (omega arith, omega arith) (omega arith, omega arith)).0 (p.free 1 2 (omega arith) (omega arith) (omega arith)) in
      no_word word.0 word.1

settle_refused : Step two (settle 2 1) (refused refuse.NoPlan) two
settle_refused = (inr (omega arith, inr (omega arith, inl (λ e. no_plan e.0 e.1.0 e.1.1, refl))), refl)

crowded_lead : Lead crowded two
crowded_lead = (two, (load_two, (two, (settle_refused, refl))))

-- no stays
abbrev nowhere : ℕ → ℤ
nowhere i = pos 0

above_empty : (r : ℕ) → r ≤ 0 → at_line [] r ≤ℤ pos 0
above_empty zero h = search (rules, ints)
above_empty (suc r) h = absurd (omega arith)

below_empty : (r : ℕ) → r ≤ 0 → pos 0 ≤ℤ at_line [] r
below_empty zero h = search (rules, ints)
below_empty (suc r) h = absurd (omega arith)

empty_placed : Placement (axis_of Time new) nowhere
empty_placed = record { above = above_empty; below = below_empty; keeps = λ b h. let less = h.1 in absurd (omega arith) }

empty_plan : Plan new nowhere nowhere
empty_plan = record { timely = empty_placed; placed = empty_placed; free = λ i j first less last. absurd (omega arith) }

none_least : (x : ℕ → ℤ) → Placement (axis_of Time new) x → (i : ℕ) → i ≤ 0 → at_line [] i ≤ℤ x i
none_least x p i h = p.above i h

settled_empty : Settled new [] []
settled_empty = record {
  for_each = refl;
  arrangement = record { timely = record { above = λ r h. search (rules, ints); below = λ r h. search (rules, ints); keeps = λ b h. let less = h.1 in absurd (omega arith) }; placed = record { above = λ r h. search (rules, ints); below = λ r h. search (rules, ints); keeps = λ b h. let less = h.1 in absurd (omega arith) }; free = λ i j first less last. absurd (omega arith) };
  in_order = refl;
  words = search rules;
  least = λ x y p q w i h. (none_least x p i h, none_least y q i h);
}

settle_nothing : Step new (settle 0 0) (plan [] []) new
settle_nothing = ((omega arith, (omega arith, ((nowhere, (nowhere, empty_plan)), tt))), (([], ([], (refl, settled_empty))), refl))

pub worked_cases_hold : WorkedCases
worked_cases_hold = record {
  one_step = refl;
  two_steps = refl;
  no_stays = (new, (settle_nothing, refl));
  three_stays_lead = three_lead;
  with_itself_leads = itself_leads;
  crowded_leads = crowded_lead;
  chain_leads = chain_lead;
  windows_lead = windows_lead;
}
