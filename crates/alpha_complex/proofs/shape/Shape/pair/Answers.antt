use Rattle.std.proofs.Common.{ap, length, arith}
use Rattle.alpha_complex.proofs.SlotLaws.{pair_count, pairs_as_seen}
use Rattle.alpha_complex.proofs.shape.Shape.pair.Goals as goal

pub face_at-requires-clause-faces : goal.face_at-requires-clause-faces
face_at-requires-clause-faces c =
    let n = pairs_as_seen c.self.inside c.args.self.now c.self.invariant c.self.view_is in
    let m = pair_count c.self.inside c.self.invariant in
    let k = ap length c.pairs.ensures in
    omega (arith, c.requires, n, m, k)

pub face_at-requires-clause-kinds : goal.face_at-requires-clause-kinds
face_at-requires-clause-kinds c =
    let n = pairs_as_seen c.self.inside c.args.self.now c.self.invariant c.self.view_is in
    let k = ap length c.deref.ensures.value in
    omega (arith, c.requires, n, k)
