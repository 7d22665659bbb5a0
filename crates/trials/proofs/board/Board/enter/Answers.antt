use Rattle.std.proofs.Common.{rules}
use Rattle.trials.proofs.Nodes.{spaces, put_refuted, put_grown}
use Rattle.trials.proofs.Entering.{below}
use Rattle.trials.proofs.board.Board.enter.Goals as goal

pub returns-in-Err : goal.returns-in-Err
returns-in-Err g c =
    let s = spaces _ _ _ _ _ _ c.args.k c.requires.ready.room c.requires.open in
    let r = put_refuted _ _ _ c.requires.ready.node c.args.k c.requires.open.0 c.args.word _ c.weigh-standing.ensures.entry _ _ _ c.in-Err.field-0 s.0 s.1 c.in-Err.ensures in
    (r.0, search (rules, r.1))

pub note-requires : goal.note-requires
note-requires g c =
    let s = spaces _ _ _ _ _ _ c.args.k c.requires.ready.room c.requires.open in
    record { within = c.requires.open.0; space = s.2 }

pub returns : goal.returns
returns g c =
    let grown = put_grown _ _ _ c.requires.ready.node c.args.k c.requires.open.0 c.args.word _ c.weigh-standing.ensures.entry _ _ _ _ c.in_default.ensures in
    below _ _ c.args.self.now c.requires.ready c.args.k c.requires.open c.args.word _ (search (rules, grown, c.note.ensures))
