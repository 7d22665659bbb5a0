use Rattle.std.proofs.Common.{ℕ, ◌+◌, ◌*◌, ◌<◌}
use Rattle.trials.specs.Trials.{open_count, nth_word}
use Rattle.trials.specs.Boards.{RefutedAt, Unchanged}
use Rattle.packing.proofs.descent.+attempt_descend_try_words.Given as goal

abbrev pub decreases-attempt : goal.decreases-attempt
decreases-attempt g l = 3 * open_count l.board.now.trials.now

abbrev pub decreases-try_words : goal.decreases-try_words
decreases-try_words g l = 3 * open_count l.board.now.trials.now + 1

abbrev pub decreases-descend : goal.decreases-descend
decreases-descend g l = 3 * open_count l.board.now.trials.now + 2

abbrev pub invariant-try_words-loop-word : goal.invariant-try_words-loop-word
invariant-try_words-loop-word g l =
    Unchanged l.initial.board l.board × ((m : ℕ) → m < l.word-index → RefutedAt l.initial.board l.k (nth_word m))
