-- Questions in a row: a no among the first is the first no of all.
use Rattle.std.proofs.Common.{List, [], ◌∷◌, ◌++◌, inl, inr}
use Rattle.axis.specs.Questions.{Question, AllYes, FirstNo}

module _ {F : Type 0} where
  pub first_no_append : (qs more : List {1} (Question F)) (f : F) → FirstNo qs f → FirstNo (qs ++ more) f
  first_no_append [] more f h = absurd h
  first_no_append (q ∷ qs) more f (inl x) = inl x
  first_no_append (q ∷ qs) more f (inr x) = inr (x.0, first_no_append qs more f x.1)

  pub first_no_after : (qs more : List {1} (Question F)) (f : F) → AllYes qs → FirstNo more f → FirstNo (qs ++ more) f
  first_no_after [] more f y h = h
  first_no_after (q ∷ qs) more f y h = inr (y.0, first_no_after qs more f y.1 h)

  pub all_yes_append : (qs more : List {1} (Question F)) → AllYes qs → AllYes more → AllYes (qs ++ more)
  all_yes_append [] more y h = h
  all_yes_append (q ∷ qs) more y h = (y.0, all_yes_append qs more y.1 h)
