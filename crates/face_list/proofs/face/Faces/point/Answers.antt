use Rattle.std.proofs.Common.{◌≡◌, ℕ, List, ap, subst, ◌<◌, length, get_or, arith}
use Rattle.point_order.specs.declared.cell.Cell.{Cell}
use Rattle.face_list.specs.Tables.{cells_numbered}
use Rattle.face_list.proofs.Stretches.{seen_length, face_seen, numbers_seen}
use Rattle.face_list.proofs.face.Faces.point.Goals as goal

pub face-requires-clause-index : goal.face-requires-clause-index
face-requires-clause-index c =
    let e = seen_length c.self.inside.cells.now c.self.inside.points c.self.invariant.0 in
    let l = ap (λ v. length v.points) c.self.view_is in
    omega (arith, c.requires, e, l)

pub returns-clause-face : goal.returns-clause-face
returns-clause-face c =
    let t = c.self.inside.points in
    let e = seen_length c.self.inside.cells.now c.self.inside.points c.self.invariant.0 in
    let l = ap (λ v. length v.points) c.self.view_is in
    let h : c.args.index < length c.self.inside.points.keys.items = omega (arith, c.requires, e, l) in
    subst (λ v. ◌≡◌ {A = ℕ × List Cell} (c.face.result.0, cells_numbered v.cells c.face.result.1.now)
    (get_or v.points c.args.index (c.face.result.0, cells_numbered v.cells c.face.result.1.now))) c.self.view_is
    (face_seen c.self.inside.cells.now t c.self.invariant.0 c.args.index c.face.result.0 c.face.result.1.now h
    c.face.ensures.key c.face.ensures.numbers)

pub returns-clause-numbers : goal.returns-clause-numbers
returns-clause-numbers c =
    let t = c.self.inside.points in
    let e = seen_length c.self.inside.cells.now c.self.inside.points c.self.invariant.0 in
    let l = ap (λ v. length v.points) c.self.view_is in
    let h : c.args.index < length c.self.inside.points.keys.items = omega (arith, c.requires, e, l) in
    let k = ap (λ v. length v.cells) c.self.view_is in
    numbers_seen (length c.args.self.now.cells) c.self.inside.cells.now t c.self.invariant.0 c.args.index
    c.face.result.1.now h c.face.ensures.numbers k
