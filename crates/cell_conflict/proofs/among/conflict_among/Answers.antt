use Rattle.std.proofs.Common.{refl, inl, inr, ap, sym, subst, List, length}
use Rattle.point_order.specs.declared.cell.Cell.{Cell}
use Rattle.point_order.specs.Complex.{complex}
use Rattle.point_order.specs.Sets.{IsIn, with_point}
use Rattle.cell_store.specs.Buckets.{content_of}
use Rattle.cell_store.specs.Stars.{cells_to_come}
use Rattle.cell_conflict.proofs.Searching.{in_complex, not_none, in_items, of_items, none_in}
use Rattle.cell_conflict.proofs.among.conflict_among.Goals as goal

pub loop-cell-init : goal.loop-cell-init
loop-cell-init c = (
  (λ x i. of_items c.args.hold.now c.args.b (content_of c.bucket.result.now)
      (cells_to_come c.into_iter-cell-iterator.result) x c.bucket.ensures.bucket
      (rw c.into_iter-cell-iterator.ensures.into_iter_gives c.cells-cell-items.ensures) i),
  (λ x i. inl (in_items c.args.hold.now c.args.b (content_of c.bucket.result.now)
      (cells_to_come c.into_iter-cell-iterator.result) x c.bucket.ensures.bucket
      (rw c.into_iter-cell-iterator.ensures.into_iter_gives c.cells-cell-items.ensures) i)),
)

pub is_in_conflict-requires-clause-shown : goal.is_in_conflict-requires-clause-shown
is_in_conflict-requires-clause-shown c =
    let r = c.requires.shown in
    let i = c.loop-cell.invariant.0 c.in-Some.cell.now (subst (λ (l : List Cell). IsIn c.in-Some.cell.now l)
    (sym c.in-Some.ensures.steps) (inl refl)) in
    (r.0, r.1, (in_complex c.args.hold.now r.0 c.args.b c.in-Some.cell.now r.1 c.requires.held i).0, r.2)

pub is_in_conflict-requires-clause-held : goal.is_in_conflict-requires-clause-held
is_in_conflict-requires-clause-held c none =
    let r = c.requires.shown in
    let i = c.loop-cell.invariant.0 c.in-Some.cell.now (subst (λ (l : List Cell). IsIn c.in-Some.cell.now l)
    (sym c.in-Some.ensures.steps) (inl refl)) in
    not_none c.args.hold.now r.0 c.args.b c.in-Some.cell.now r.1 c.requires.held i none

pub returns-then-is_in_conflict-clause-among : goal.returns-then-is_in_conflict-clause-among
returns-then-is_in_conflict-clause-among c =
    c.loop-cell.invariant.0 c.in-Some.cell.now (subst (λ (l : List Cell). IsIn c.in-Some.cell.now l)
    (sym c.in-Some.ensures.steps) (inl refl))

pub returns-then-is_in_conflict-clause-goes : goal.returns-then-is_in_conflict-clause-goes
returns-then-is_in_conflict-clause-goes c h st new =
    let i = c.loop-cell.invariant.0 c.in-Some.cell.now (subst (λ (l : List Cell). IsIn c.in-Some.cell.now l)
    (sym c.in-Some.ensures.steps) (inl refl)) in
    c.if-is_in_conflict.ensures h st new (in_complex c.args.hold.now h c.args.b c.in-Some.cell.now st c.requires.held
    i).0

-- one cell more stays, or it is the first that goes
pub loop-cell-preserved : goal.loop-cell-preserved
loop-cell-preserved c = (
  (λ x i. c.loop-cell.invariant.0 x (subst (λ (l : List Cell). IsIn x l) (sym c.in-Some.ensures.steps) (inr i))),
  (λ x i. elim (c.loop-cell.invariant.1 x i) [
    | inl k ↦ elim (subst (λ (l : List Cell). IsIn x l) c.in-Some.ensures.steps k) [
      | inl e ↦ inr (λ h st new g.
          let i = c.loop-cell.invariant.0 c.in-Some.cell.now (subst (λ (l : List Cell). IsIn c.in-Some.cell.now l)
          (sym c.in-Some.ensures.steps) (inl refl)) in
          let s = c.if-is_in_conflict.ensures h st new (in_complex c.args.hold.now h c.args.b c.in-Some.cell.now st
          c.requires.held i).0 in
          g.after (subst (λ (y : Cell). IsIn y (complex (with_point c.args.p h))) e s.after))
      | inr j ↦ inl j
    ]
    | inr stays ↦ inr stays
  ]),
)

pub returns-clause-goes : goal.returns-clause-goes
returns-clause-goes c h st new x i g = elim (c.loop-cell.invariant.1 x i) [
  | inl k ↦ absurd (none_in (cells_to_come c.loop-cell.cell-iterator) x (ap length c.in-None.ensures.steps.0) k)
  | inr stays ↦ stays h st new g
]
