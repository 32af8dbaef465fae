use Rattle.std.proofs.Common.{ap, subst}
use Rattle.std.specs.List.{filter}
use Rattle.point_order.specs.declared.cell.Cell.{Cell}
use Rattle.point_order.specs.Facets.{points_of}
use Rattle.point_order.specs.Sets.{IsIn, is_among}
use Rattle.cell_stars.specs.Places.{Placed, cells_of}
use Rattle.cell_stars.specs.Stars.{cells_around}
use Rattle.cell_store.proofs.StarLaws.{around_all}
use Rattle.cell_store.proofs.bucket.Bucket.other_at.Goals as goal

pub returns : goal.returns
returns c' =
    let around = cells_around c'.cells_around.result in
    around_all (λ x. x.cell.now) (cells_of c'.args.self.now.cells.slots) around c'.args.p c'.args.cell.now
    c'.args.facet.now c'.other_among.result c'.requires.among
    (subst (λ (b : Placed). (c : Cell) → (IsIn c around →
    IsIn c (filter (λ c. is_among c'.args.p (points_of c)) (cells_of b.slots)))
    × (IsIn c (filter (λ c. is_among c'.args.p (points_of c)) (cells_of b.slots)) → IsIn c around))
    (ap (λ v. v.cells) c'.self.view_is) c'.cells_around.ensures)
    c'.other_among.ensures
