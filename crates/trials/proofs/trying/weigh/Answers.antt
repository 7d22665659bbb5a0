use Rattle.std.proofs.Common.{sym, subst}
use Rattle.boxes.specs.declared.model.Entry.{Entry}
use Rattle.boxes.specs.Overlaps.{in_direction}
use Rattle.axis.specs.Meaning.{lines}
use Rattle.axis.specs.Asks.{Within}
use Rattle.trials.proofs.Nodes.{pair_within, entry_within, told_word}
use Rattle.trials.proofs.trying.weigh.Goals as goal

pub ruling-entry-requires : goal.ruling-entry-requires
ruling-entry-requires g c =
    let w = pair_within _ _ _ c.requires.node c.args.k c.requires.within in
    record { sized = c.requires.node.sized; first = w.0; second = w.1 }

pub judge_on-requires : goal.judge_on-requires
judge_on-requires g c =
    subst (λ (e : Entry). Within (lines (in_direction (g.T.Axis.means c.args.time.now) (g.P.Axis.means c.args.platform.now) e.direction)) e.bound)
    (sym c.ruling-entry.ensures) (entry_within _ _ _ c.requires.node c.args.k c.requires.within c.args.word)

pub returns-clause-told : goal.returns-clause-told
returns-clause-told g c = told_word _ _ _ c.requires.node c.args.k c.requires.within c.args.word _ _ c.ruling-entry.ensures c.judge_on.ensures
