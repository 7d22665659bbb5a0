-- The letters that name the words.
use Rattle.std.specs.Prelude.{◌≡◌, ℕ, cond, ◌==◌, Some, None, Option, Ok, Err, Result}
use Rattle.stack.specs.declared.elements.Word.{Word}
use Rattle.stack.specs.declared.elements.Word.TheVariants.{Before, After, Nearer, Farther}
use Rattle.stack.specs.declared.letters.NoWord.{NoWord}

-- the letters B, A, N and F, by their codes
abbrev pub word_of : ℕ → Option Word
word_of letter = cond (letter == 66) (Some Before) (cond (letter == 65) (Some After) (cond (letter == 78) (Some Nearer) (cond (letter == 70) (Some Farther) None)))

-- the word that the letter names, or that it names none
abbrev pub Names : ℕ → Result Word NoWord → Type 0
Names letter (Ok word) = word_of letter ≡ Some word
Names letter (Err e) = word_of letter ≡ None
