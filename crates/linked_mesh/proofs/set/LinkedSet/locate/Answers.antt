use Rattle.std.proofs.Common.{sym, ◌∙◌, ap, subst, List, ℕ}
use Rattle.list_laws.proofs.Cited.{not_among}
use Rattle.point_order.specs.Sets.{is_among}
use Rattle.hole_laws.specs.Edits.{GoesFrom, IsNew}
use Rattle.linked_mesh.proofs.set.LinkedSet.locate.Goals as goal

pub returns-then-has : goal.returns-then-has
returns-then-has c = ap (is_among c.args.p) (sym c.self.view_is) ∙ sym c.has.ensures ∙ c.if-has.true

pub cell_in_conflict-requires : goal.cell_in_conflict-requires
cell_in_conflict-requires c =
    let s = c.self.inside.points.keys in (
      s,
      c.self.invariant,
      record { key = c.key.ensures.bound; absent = not_among s c.args.p (sym c.has.ensures ∙ c.if-has.false) },
    )

pub returns : goal.returns
returns c =
    let s = c.self.inside.points.keys in
    let new : IsNew s c.args.p =
    record { key = c.key.ensures.bound; absent = not_among s c.args.p (sym c.has.ensures ∙ c.if-has.false) } in (
      ap (is_among c.args.p) (sym c.self.view_is) ∙ sym c.has.ensures ∙ c.if-has.false,
      subst (λ (l : List ℕ). GoesFrom l c.args.p c.cell_in_conflict.result) c.self.view_is
          (c.cell_in_conflict.ensures s c.self.invariant new),
    )
