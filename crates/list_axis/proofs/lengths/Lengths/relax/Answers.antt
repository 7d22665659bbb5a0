use Rattle.std.proofs.Common.{ap, refl, arith}
use Rattle.std.proofs.lemmas.Int.{ints}
use Rattle.std.proofs.lemmas.Bool.{true≢false, false≢true}
use Rattle.ledger.specs.Lengths.{entry}
use Rattle.list_axis.proofs.Steps.{shortened_found, shortened_falls}
use Rattle.list_axis.proofs.lengths.Lengths.relax.Goals as goal

pub invariant_of-self-clause-found : goal.invariant_of-self-clause-found
invariant_of-self-clause-found c =
    let l = c.args.self.now in
    let n = l.found.near c.args.edge.p c.requires.1.0.0 in
    let p = ap (entry l.row) c.from-p.ensures in
    let q = ap (entry l.row) c.from-q.ensures in
    rw c.from-q.ensures (shortened_found l c.args.edge c.requires _ (omega (arith, ints)) (omega (arith, ints)))

pub returns-then-length-self : goal.returns-then-length-self
returns-then-length-self c =
    let l = c.args.self.now in
    let n = l.found.near c.args.edge.p c.requires.1.0.0 in
    let p = ap (entry l.row) c.from-p.ensures in
    let q = ap (entry l.row) c.from-q.ensures in
    record {
      ledger = refl;
      start = refl;
      fell = λ _. rw c.from-q.ensures (shortened_falls l c.args.edge c.requires _ (omega (arith, ints)) (omega (arith, ints)));
      still = λ z. absurd (true≢false z);
      kept = λ z. absurd (true≢false z);
    }

pub returns : goal.returns
returns c =
    let l = c.args.self.now in
    let n = l.found.near c.args.edge.p c.requires.1.0.0 in
    let p = ap (entry l.row) c.from-p.ensures in
    let q = ap (entry l.row) c.from-q.ensures in
    record {
      ledger = refl;
      start = refl;
      fell = λ z. absurd (false≢true z);
      still = λ _. refl;
      kept = λ _. omega (arith, ints);
    }
