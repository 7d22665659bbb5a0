use Rattle.std.proofs.Common.{◌≡◌, length, refl, arith}
use Rattle.moves.proofs.Least.{settled_more, settled_all}
use Rattle.moves.proofs.sides.place_all.Goals as goal

pub loop-k-preserved : goal.loop-k-preserved
loop-k-preserved g c = settled_more _ c.loop-k.places c.loop-k.k _ (omega arith) c.loop-k.invariant c.place_of.ensures

pub returns : goal.returns
returns g c =
    let size : length c.args.places.now ≡ length c.loop-k.places = omega arith in
    let e = settled_all _ _ _ _ c.loop-k.places c.loop-k.k refl (g.met.T.Axis.valid c.args.time.now) (g.met.P.Axis.valid c.args.platform.now) c.loop-k.invariant (omega arith) (omega arith) (omega arith) in
    record { timely = e.0; nearest = e.1 }
