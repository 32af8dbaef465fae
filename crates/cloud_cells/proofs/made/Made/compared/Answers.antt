use Rattle.std.proofs.Common.{[], slice_index_or, subst, List, Option}
use Rattle.point_order.specs.declared.cell.Cell.TheVariants.{Full, Open}
use Rattle.point_order.specs.declared.cell.Cell.{Cell}
use Rattle.point_order.specs.Sets.{IsIn}
use Rattle.cell_slots.specs.Nets.{AreAllIn, cells_of_slots}
use Rattle.net_digs.proofs.Cited.{all_listed}
use Rattle.cloud_cells.proofs.made.Made.compared.Goals as goal

pub returns-then-are_all : goal.returns-then-are_all
returns-then-are_all c =
    rw (← c.self.view_is)
    (all_listed c.self.inside.points.items c.self.inside.packed.items c.args.cells.now c.args.hull.now
    c.self.invariant.ascending c.self.invariant.cells c.requires.order
    (subst (λ (v : List (Option Cell)). AreAllIn v c.args.cells.now c.args.hull.now) c.deref.ensures.value
    (c.are_all.ensures c.if-are_all.true)))

pub returns : goal.returns
returns c =
    let of = c.self.invariant.cells.members in
    let known = c.in_ok-known_in.ensures in
    let there = c.deref-2.ensures.value in
    rw (← c.self.view_is) (
      λ i e. (of (Full (slice_index_or c.args.cells.now i []))).0
          (subst (λ (v : List (Option Cell)). IsIn (Full (slice_index_or c.args.cells.now i [])) (cells_of_slots v))
          there
          (known.cells i e)),
      λ i e. (of (Open (slice_index_or c.args.hull.now i []))).0
          (subst (λ (v : List (Option Cell)). IsIn (Open (slice_index_or c.args.hull.now i [])) (cells_of_slots v))
          there
          (known.hull i e)),
    )
