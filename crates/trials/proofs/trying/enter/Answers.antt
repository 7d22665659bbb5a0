use Rattle.std.proofs.Common.{refl}
use Rattle.trials.proofs.Nodes.{spaces, put_refuted, put_grown, entered}
use Rattle.trials.proofs.trying.enter.Goals as goal

pub returns-in-Err : goal.returns-in-Err
returns-in-Err g c =
    let s = spaces _ _ _ _ _ _ c.args.k c.requires.room c.requires.open in
    let r = put_refuted _ _ _ c.requires.node c.args.k c.requires.open.0 c.args.word _ c.weigh-standing.ensures.entry _ _ _ c.in-Err.field-0 s.0 s.1 c.in-Err.ensures in
    record { after = (r.0, r.1, refl, refl); size = refl }

pub note-requires : goal.note-requires
note-requires g c =
    let s = spaces _ _ _ _ _ _ c.args.k c.requires.room c.requires.open in
    record { within = c.requires.open.0; space = s.2 }

pub returns : goal.returns
returns g c =
    let grown = put_grown _ _ _ c.requires.node c.args.k c.requires.open.0 c.args.word _ c.weigh-standing.ensures.entry _ _ _ _ c.in_default.ensures in
    record {
      after = entered _ _ _ c.requires.node c.args.k c.requires.open.0 c.args.word c.requires.open.1 _ _ _ _ _ _ _ _ c.requires.room grown c.note.ensures.tried c.note.ensures.noted c.note.ensures.size;
      size = c.note.ensures.size;
    }
