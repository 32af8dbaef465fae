use Rattle.std.proofs.Common.{◌≡◌, ◌∙◌, ap, sym, subst, List, ℕ}
use Rattle.list_laws.proofs.Cited.{among_from, not_among}
use Rattle.point_order.specs.Sets.{IsAscending, without_point}
use Rattle.point_order.proofs.Cited.{ascending_with}
use Rattle.point_history.proofs.Cited.{key_put}
use Rattle.cell_slots.specs.Clouds.{AreCellsOf}
use Rattle.linked_mesh.proofs.Keys.{out_again}
use Rattle.linked_mesh.proofs.set.move_over.Goals as goal

pub returns-in_err-insert-clause-cells : goal.returns-in_err-insert-clause-cells
returns-in_err-insert-clause-cells c =
    subst (λ (k : List ℕ). AreCellsOf k c.args.linked.now.cells) (sym c.in_err-insert.ensures.err) c.requires.cells

pub move_point-requires : goal.move_point-requires
move_point-requires c =
    let s = c.args.points.now.keys in (
      s,
      c.requires.cells,
      among_from c.args.a s c.requires.there,
      record { key = c.key.ensures.bound; absent = not_among s c.args.b c.requires.free },
    )

pub remove_from-requires : goal.remove_from-requires
remove_from-requires c =
    let s = c.args.points.now.keys in
    subst IsAscending (sym (c.in_ok-insert.ensures.keys ∙ key_put c.args.b s))
    (ascending_with c.args.b s c.requires.cells.solid.set.ascending)

pub remove_from-requires-in-Ok : goal.remove_from-requires-in-Ok
remove_from-requires-in-Ok c =
    let s = c.args.points.now.keys in
    subst IsAscending (sym (c.in_ok-insert.ensures.keys ∙ key_put c.args.b s))
    (ascending_with c.args.b s c.requires.cells.solid.set.ascending)

pub remove_from-requires-in-Err : goal.remove_from-requires-in-Err
remove_from-requires-in-Err c =
    let s = c.args.points.now.keys in
    subst IsAscending (sym (c.in_ok-insert.ensures.keys ∙ key_put c.args.b s))
    (ascending_with c.args.b s c.requires.cells.solid.set.ascending)

-- it has moved
pub returns-then-is_moved-clause-solid : goal.returns-then-is_moved-clause-solid
returns-then-is_moved-clause-solid c =
    let s = c.args.points.now.keys in
    let moved = rw c.if-is_moved.true at (c.in-Ok.ensures.moved s c.requires.cells
    (among_from c.args.a s c.requires.there)
    (record { key = c.key.ensures.bound; absent = not_among s c.args.b c.requires.free })) in
    sym moved.0

pub returns-then-is_moved-clause-points : goal.returns-then-is_moved-clause-points
returns-then-is_moved-clause-points c =
    c.remove_from.ensures
    ∙ ap (without_point c.args.a) (c.in_ok-insert.ensures.keys ∙ key_put c.args.b c.args.points.now.keys)

pub returns-then-is_moved-clause-cells : goal.returns-then-is_moved-clause-cells
returns-then-is_moved-clause-cells c =
    let s = c.args.points.now.keys in
    let moved = rw c.if-is_moved.true at (c.in-Ok.ensures.moved s c.requires.cells
    (among_from c.args.a s c.requires.there)
    (record { key = c.key.ensures.bound; absent = not_among s c.args.b c.requires.free })) in
    subst (λ (k : List ℕ). AreCellsOf k c.move_point.new.linked.cells) (sym (c.remove_from.ensures
    ∙ ap (without_point c.args.a) (c.in_ok-insert.ensures.keys ∙ key_put c.args.b s))) moved.1

-- or the set is as before
pub returns-else-is_moved-clause-solid : goal.returns-else-is_moved-clause-solid
returns-else-is_moved-clause-solid c =
    let s = c.args.points.now.keys in
    let flat = rw c.if-is_moved.false at (c.in-Ok.ensures.moved s c.requires.cells
    (among_from c.args.a s c.requires.there)
    (record { key = c.key.ensures.bound; absent = not_among s c.args.b c.requires.free })) in
    sym flat.0

pub returns-else-is_moved-clause-points : goal.returns-else-is_moved-clause-points
returns-else-is_moved-clause-points c =
    let s = c.args.points.now.keys in
    c.remove_from-in-Ok.ensures
    ∙ ap (without_point c.args.b) (c.in_ok-insert.ensures.keys ∙ key_put c.args.b s)
    ∙ out_again c.args.b s c.requires.cells.solid.set.ascending c.requires.free

pub returns-else-is_moved-clause-cells : goal.returns-else-is_moved-clause-cells
returns-else-is_moved-clause-cells c =
    let s = c.args.points.now.keys in
    let flat = rw c.if-is_moved.false at (c.in-Ok.ensures.moved s c.requires.cells
    (among_from c.args.a s c.requires.there)
    (record { key = c.key.ensures.bound; absent = not_among s c.args.b c.requires.free })) in
    let back : c.remove_from-in-Ok.new.points.keys ≡ s = c.remove_from-in-Ok.ensures
    ∙ ap (without_point c.args.b) (c.in_ok-insert.ensures.keys ∙ key_put c.args.b s)
    ∙ out_again c.args.b s c.requires.cells.solid.set.ascending c.requires.free in
    subst (λ (k : List ℕ). AreCellsOf k c.move_point.new.linked.cells) (sym back) flat.1

pub returns-in-Err-clause-refused : goal.returns-in-Err-clause-refused
returns-in-Err-clause-refused c =
    let s = c.args.points.now.keys in
    c.remove_from-in-Err.ensures
    ∙ ap (without_point c.args.b) (c.in_ok-insert.ensures.keys ∙ key_put c.args.b s)
    ∙ out_again c.args.b s c.requires.cells.solid.set.ascending c.requires.free

pub returns-in-Err-clause-cells : goal.returns-in-Err-clause-cells
returns-in-Err-clause-cells c =
    let s = c.args.points.now.keys in
    let back : c.remove_from-in-Err.new.points.keys ≡ s = c.remove_from-in-Err.ensures
    ∙ ap (without_point c.args.b) (c.in_ok-insert.ensures.keys ∙ key_put c.args.b s)
    ∙ out_again c.args.b s c.requires.cells.solid.set.ascending c.requires.free in
    subst (λ (k : List ℕ). AreCellsOf k c.move_point.new.linked.cells) (sym back)
    (c.in-Err.ensures.refused s c.requires.cells (among_from c.args.a s c.requires.there)
    (record { key = c.key.ensures.bound; absent = not_among s c.args.b c.requires.free }))
