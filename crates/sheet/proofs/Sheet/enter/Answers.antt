use Rattle.std.proofs.Common.{◌<◌, length, rules}
use Rattle.journal.specs.Journal.{bounds_on}
use Rattle.journal.specs.Tables.{told}
use Rattle.sheet.proofs.Holding.{put_held}
use Rattle.sheet.proofs.Making.{made_more, put_asked}
use Rattle.sheet.proofs.Sheet.enter.Goals as goal

pub invariant_of-self-2 : goal.invariant_of-self-2
invariant_of-self-2 g c =
    let k = told c.self.inside.stays c.self.inside.entries in
    let few : length (bounds_on c.args.entry.direction k.entries) < 24 = search rules in
    rw c.push.ensures (put_held k c.args.entry _ _ _ _ c.self.invariant.0 c.in_ok-put.ensures, made_more k c.args.entry c.self.invariant.1 (put_asked c.args.entry.direction k c.args.entry.bound _ _ _ _ c.self.invariant.0 c.in_ok-put.ensures few))
