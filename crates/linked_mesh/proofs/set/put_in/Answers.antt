use Rattle.std.proofs.Common.{◌≡◌, ◌∙◌, ap, sym, subst, List, ℕ}
use Rattle.list_laws.proofs.Cited.{not_among}
use Rattle.point_order.specs.Sets.{IsAscending, without_point}
use Rattle.point_order.proofs.Cited.{ascending_with}
use Rattle.point_history.proofs.Cited.{key_put}
use Rattle.cell_slots.specs.Clouds.{AreCellsOf}
use Rattle.cell_slots.proofs.Cited.{moved_cells}
use Rattle.linked_mesh.proofs.Keys.{out_again}
use Rattle.linked_mesh.proofs.set.put_in.Goals as goal

pub returns-in_err-insert-clause-cells : goal.returns-in_err-insert-clause-cells
returns-in_err-insert-clause-cells c =
    subst (λ (k : List ℕ). AreCellsOf k c.args.linked.now.cells) (sym c.in_err-insert.ensures.err) c.requires.cells

pub add_point-requires : goal.add_point-requires
add_point-requires c =
    let s = c.args.points.now.keys in
    (s, c.requires.cells, record { key = c.key.ensures.bound; absent = not_among s c.args.p c.requires.absent })

pub returns-in-Ok-clause-points : goal.returns-in-Ok-clause-points
returns-in-Ok-clause-points c = c.in_ok-insert.ensures.keys ∙ key_put c.args.p c.args.points.now.keys

pub returns-in-Ok-clause-cells : goal.returns-in-Ok-clause-cells
returns-in-Ok-clause-cells c =
    let s = c.args.points.now.keys in
    subst (λ (k : List ℕ). AreCellsOf k c.add_point.new.self.cells)
    (sym (c.in_ok-insert.ensures.keys ∙ key_put c.args.p s))
    (c.in-Ok.ensures.added s c.requires.cells
    (record { key = c.key.ensures.bound; absent = not_among s c.args.p c.requires.absent }))

pub remove_from-requires : goal.remove_from-requires
remove_from-requires c =
    let s = c.args.points.now.keys in
    subst IsAscending (sym (c.in_ok-insert.ensures.keys ∙ key_put c.args.p s))
    (ascending_with c.args.p s c.requires.cells.solid.set.ascending)

pub returns-in-Err-clause-refused : goal.returns-in-Err-clause-refused
returns-in-Err-clause-refused c =
    let s = c.args.points.now.keys in
    c.remove_from.ensures ∙ ap (without_point c.args.p) (c.in_ok-insert.ensures.keys ∙ key_put c.args.p s)
    ∙ out_again c.args.p s c.requires.cells.solid.set.ascending c.requires.absent

pub returns-in-Err-clause-cells : goal.returns-in-Err-clause-cells
returns-in-Err-clause-cells c =
    let s = c.args.points.now.keys in
    let back : c.remove_from.new.points.keys ≡ s = c.remove_from.ensures ∙ ap (without_point c.args.p)
    (c.in_ok-insert.ensures.keys ∙ key_put c.args.p s)
    ∙ out_again c.args.p s c.requires.cells.solid.set.ascending c.requires.absent in
    subst (λ (k : List ℕ). AreCellsOf k c.add_point.new.self.cells) (sym back)
    (moved_cells s c.args.linked.now.cells c.add_point.new.self.cells c.in-Err.ensures.refused c.requires.cells)
