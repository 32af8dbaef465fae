use Rattle.std.proofs.Common.{subst, sym, ◌∙◌, inl, refl, List}
use Rattle.list_laws.proofs.Cited.{filtered_from}
use Rattle.point_order.specs.declared.cell.Cell.{Cell}
use Rattle.point_order.specs.Complex.{complex}
use Rattle.point_order.specs.Facets.{points_of}
use Rattle.point_order.specs.Sets.{IsIn, is_among}
use Rattle.edit_history.specs.Histories.{replay}
use Rattle.cell_store.proofs.Cited.{stands_shows}
use Rattle.worked_cases.proofs.buckets.put_first.Goals as goal

pub put_beyond-requires : goal.put_beyond-requires
put_beyond-requires c =
    let r = c.requires.stands in
    let i = subst (λ (l : List Cell). IsIn c.in-Some.cell.now l)
    (sym c.in-Some.ensures.steps ∙ c.cells_at-star.ensures.in_complex (replay r.0)
    (stands_shows c.args.hold.now r.0 r.1)) (inl refl) in (
      replay r.0,
      stands_shows c.args.hold.now r.0 r.1,
      (filtered_from (λ q. is_among c.args.p (points_of q)) (complex (replay r.0)) c.in-Some.cell.now i).0,
    )
