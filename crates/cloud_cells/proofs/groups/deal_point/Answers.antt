use Rattle.std.proofs.Common.{◌++◌, ◌∷◌, [], ap, subst, sym, List, ℕ}
use Rattle.cell_slots.specs.Nets.{AreMoved, cells_of_slots}
use Rattle.cloud_cells.specs.declared.groups.Group.{Group}
use Rattle.cell_slots.proofs.Cited.{flat_more, flat_same, moved_none}
use Rattle.cloud_cells.proofs.groups.deal_point.Goals as goal

pub returns-clause-cells : goal.returns-clause-cells
returns-clause-cells c =
    flat_same (λ (x : Group). cells_of_slots x.net) c.args.groups.now.items c.args.g c.index_mut.result.now
    c.let_wait.new.self c.requires c.index_mut.ensures.value (ap cells_of_slots c.in_ok-let_wait.ensures.cells)

pub returns-clause-points : goal.returns-clause-points
returns-clause-points c =
    let o = c.index_mut.result.now in
    flat_more (λ (x : Group). x.waiting.items) c.args.groups.now.items c.args.g o c.let_wait.new.self
    (c.args.turn ∷ []) c.requires c.index_mut.ensures.value
    (subst (λ (v : List ℕ). AreMoved (o.waiting.items ++ c.args.turn ∷ []) v) (sym c.in_ok-let_wait.ensures.points)
    (moved_none (o.waiting.items ++ c.args.turn ∷ [])))
