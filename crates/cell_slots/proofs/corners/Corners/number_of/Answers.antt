use Rattle.std.proofs.Common.{refl, arith, subst, sym}
use Rattle.point_order.specs.declared.cell.Facet.{Facet}
use Rattle.point_order.specs.declared.cell.Cell.{Cell}
use Rattle.point_order.specs.Facets.{facets_of}
use Rattle.point_order.specs.Sets.{IsIn}
use Rattle.cell_slots.specs.Corners.{cell_of}
use Rattle.cell_slots.proofs.FacetNumbers.{stay}
use Rattle.cell_slots.proofs.corners.Corners.number_of.Goals as goal
use Rattle.cell_slots.proofs.corners.Corners.number_of.Goals.{else-x-face-via-then-x-face+then-y-face+else-z-face}
use Rattle.cell_slots.proofs.corners.Corners.number_of.Goals.{else-x-face-via-then-x-face+else-y-face}
use Rattle.cell_slots.proofs.corners.Corners.number_of.Goals.{else-x-face-via-else-x-face}

pub returns-else-x-face : goal.returns-else-x-face
returns-else-x-face c =
    let k = c.self.inside in
    let f = c.face.inside in
    let same = λ (m : IsIn c.args.face.now (facets_of c.args.self.now)).
    stay k.a k.b k.c k.d f.x f.y f.z c.one_of-x.result c.one_of-y.result c.one_of-z.result c.self.invariant
    c.face.invariant (subst (λ (x : Facet). IsIn x (facets_of (cell_of k.a k.b k.c k.d))) (sym c.face.view_is)
    (subst (λ (q : Cell). IsIn c.args.face.now (facets_of q)) (sym c.self.view_is) m)) _ refl c.one_of-x.ensures.first
    c.one_of-x.ensures.second c.one_of-y.ensures.first c.one_of-y.ensures.second c.one_of-z.ensures.first
    c.one_of-z.ensures.second in (
      (λ l. absurd (omega (arith, l))),
      (λ m. elim c.else-x-face.branch [
        | else-x-face-via-then-x-face+then-y-face+else-z-face u ↦ absurd (u.if-z-face.false (same m).2)
        | else-x-face-via-then-x-face+else-y-face u ↦ absurd (u.if-y-face.false (same m).1)
        | else-x-face-via-else-x-face u ↦ absurd (u.if-x-face.false (same m).0)
      ]),
    )
