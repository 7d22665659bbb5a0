use Rattle.std.proofs.Common.{rules}
use Rattle.packing.proofs.Above.{reached_all, four_refuted}
use Rattle.packing.proofs.Climbing.{found_above, none_above, implied_only, refuted_more}
use Rattle.packing.proofs.descent.+attempt_descend_try_words.Goals as goal

pub attempt-returns-then-descend : goal.attempt-returns-then-descend
attempt-returns-then-descend g t c =
    found_above _ _ c.args.board.now c.requires.ready c.args.k c.requires.open c.args.word c.enter.new.self c.if-not-enter.ensures c.descend.new.board c.back_up.new.self c.back_up.result c.if-descend.ensures c.back_up.ensures

pub attempt-returns : goal.attempt-returns
attempt-returns g t c =
    none_above _ _ c.args.board.now c.requires.ready c.args.k c.requires.open c.args.word c.enter.new.self c.if-not-enter.ensures c.descend.new.board c.reopen.new.self c.back_up-2.new.self c.back_up-2.result c.if-descend.ensures c.reopen.ensures c.back_up-2.ensures

pub descend-returns-in_default : goal.descend-returns-in_default
descend-returns-in_default g t c =
    let placed = c.place_all.ensures in
    record { found = rw placed.rest.trials (reached_all _ _ _ c.place_all.new.self.places.now c.requires.ready.node c.in_default.ensures placed.for_each placed.timely placed.nearest); rest = search rules }

pub descend-returns-in-Some-implied : goal.descend-returns-in-Some-implied
descend-returns-in-Some-implied g t c = implied_only c.args.board.now c.attempt.new.board _ _ c.attempt.result c.in-Some-implied.ensures c.attempt.ensures

pub try_words-loop-word-preserved : goal.try_words-loop-word-preserved
try_words-loop-word-preserved g t c =
    let so = c.loop-word.invariant in
    let none = c.if-attempt.ensures in
    (search rules, refuted_more c.args.board.now c.loop-word.board c.args.k c.loop-word.word-index c.words-word-items.result _ (search rules) c.words-word-items.ensures (search rules) so.0 none.0 so.1)

pub try_words-returns : goal.try_words-returns
try_words-returns g t c =
    (four_refuted _ _ _ c.requires.ready.node c.args.k c.requires.open.0 c.loop-word.word-index (search rules) c.loop-word.invariant.1, c.loop-word.invariant.0)
