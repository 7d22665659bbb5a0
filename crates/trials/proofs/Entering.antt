-- A board and the one below it.
use Rattle.std.proofs.Common.{ℕ, [], ◌∷◌, ◌++◌, set}
use Rattle.stack.specs.declared.elements.Word.{Word}
use Rattle.stack.specs.Stacks.{contents}
use Rattle.moves.specs.Meanings.{grown}
use Rattle.trials.specs.declared.board.Board.{Board}
use Rattle.trials.specs.Trials.{worded, entry_of}
use Rattle.trials.specs.Boards.{Open, Ready, Becomes, Below}
use Rattle.trials.proofs.Nodes.{entered}

module _ {T P : Type 0} (ht hp : ℕ) (b : Board T P) (ready : Ready ht hp b) (k : ℕ) (open_at : Open b k) where
  pub below : (w : Word) (b' : Board T P)
      → Becomes b b' (grown b.axes.now (entry_of b.sizes.now b.trials.now k w)) (set b.trials.now k (worded b.trials.now k w)) b.places.now (contents b.trail.now ++ worded b.trials.now k w ∷ [])
      → Below ht hp k w b b'
  below w b' put =
      let e = entered b.axes.now b.sizes.now b.trials.now ready.node k open_at.0 w open_at.1 ht hp b'.trials.now b'.axes.now (contents b.trail.now) (contents b'.trail.now) _ _ ready.room put.axes put.trials put.trail put.space in
      record {
        put = put;
        ready = record {
          node = rw put.sizes e.node;
          room = e.room;
          few = rw put.sizes ready.few;
          for_each = rw (put.places, put.sizes) ready.for_each;
        };
        falls = e.falls;
      }
