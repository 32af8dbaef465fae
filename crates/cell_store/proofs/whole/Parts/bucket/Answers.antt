use Rattle.std.proofs.Common.{◌∙◌, refl, sym, ap, subst, List, ℕ}
use Rattle.std.specs.List.Sorted.{IsStrictlySortedBy}
use Rattle.point_order.specs.CellOrder.{cell_cmp}
use Rattle.point_order.specs.declared.cell.Cell.{Cell}
use Rattle.point_order.specs.Sets.{IsIn, IsAscending}
use Rattle.cell_store.specs.Buckets.{BucketContent}
use Rattle.cell_store.specs.Shares.{cells_share}
use Rattle.cell_store.specs.Wholes.{AreAt}
use Rattle.cell_store.proofs.WholeLaws.{as_at, at_is, at_within, part_cells, part_entries, part_points, parts_next}
use Rattle.cell_store.proofs.WholeLaws.{share_ascends, share_sorted, share_touches}
use Rattle.cell_store.proofs.whole.Parts.bucket.Goals as goal

pub cells_at-requires : goal.cells_at-requires
cells_at-requires c i m =
    let p = c.requires.parts in
    let v = c.replace-places.result in
    let at = as_at c.args.self.now.cells.items c.args.b c.index_mut-3.result.now v c.replace-places.ensures.value
    c.index_mut-3.ensures.value in
    at_within c.args.cells.now v.items (cells_share c.args.grid c.args.b p.0)
    (part_cells c.args.grid c.args.b p.0 c.args.cells.now c.args.self.now v c.requires.below at p.2) i
    (subst (λ (l : List ℕ). IsIn i l) c.deref.ensures.value m)

pub bucket_of_lists-requires-clause-points : goal.bucket_of_lists-requires-clause-points
bucket_of_lists-requires-clause-points c =
    let p = c.requires.parts in
    let v = c.replace-points.result in
    let at = as_at c.args.self.now.points.items c.args.b c.index_mut.result.now v c.replace-points.ensures.value
    c.index_mut.ensures.value in
    subst IsAscending (sym (part_points c.args.grid c.args.b p.0 c.args.cells.now c.args.self.now v c.requires.below at
    p.2))
    (share_ascends c.args.grid c.args.b p.0 p.1)

pub bucket_of_lists-requires-clause-order : goal.bucket_of_lists-requires-clause-order
bucket_of_lists-requires-clause-order c =
    let p = c.requires.parts in
    let v = c.replace-places.result in
    let at = as_at c.args.self.now.cells.items c.args.b c.index_mut-3.result.now v c.replace-places.ensures.value
    c.index_mut-3.ensures.value in
    let part = part_cells c.args.grid c.args.b p.0 c.args.cells.now c.args.self.now v c.requires.below at p.2 in
    let list = c.in_ok-cells.cells.items in
    let found = subst (λ (l : List ℕ). AreAt c.args.cells.now l list) c.deref.ensures.value c.in_ok-cells.ensures in
    let is = c.deref-2.ensures.value ∙ at_is c.args.cells.now v.items list (cells_share c.args.grid c.args.b p.0) found
    part in
    subst (IsStrictlySortedBy cell_cmp) (sym is) (share_sorted c.args.grid c.args.b p.0 p.1)

pub bucket_of_lists-requires-clause-touching : goal.bucket_of_lists-requires-clause-touching
bucket_of_lists-requires-clause-touching c x m =
    let p = c.requires.parts in
    let v = c.replace-places.result in
    let at = as_at c.args.self.now.cells.items c.args.b c.index_mut-3.result.now v c.replace-places.ensures.value
    c.index_mut-3.ensures.value in
    let part = part_cells c.args.grid c.args.b p.0 c.args.cells.now c.args.self.now v c.requires.below at p.2 in
    let list = c.in_ok-cells.cells.items in
    let found = subst (λ (l : List ℕ). AreAt c.args.cells.now l list) c.deref.ensures.value c.in_ok-cells.ensures in
    let is = c.deref-2.ensures.value ∙ at_is c.args.cells.now v.items list (cells_share c.args.grid c.args.b p.0) found
    part in
    share_touches c.args.grid c.args.b p.0 x (subst (λ (l : List Cell). IsIn x l) is m)

pub returns-clause-parts : goal.returns-clause-parts
returns-clause-parts c h q =
    parts_next c.args.grid c.args.b h c.args.cells.now c.args.self.now c.replace-points.new.dest
    c.replace-entries.new.dest
    c.replace-places.new.dest _ refl refl refl q

-- a bucket made of its parts is its share
pub returns-clause-share : goal.returns-clause-share
returns-clause-share c h q =
    let g = c.args.grid in
    let b = c.args.b in
    let cells = c.args.cells.now in
    let self = c.args.self.now in
    let v = c.replace-points.result in
    let w = c.replace-entries.result in
    let u = c.replace-places.result in
    let v_at = as_at self.points.items b c.index_mut.result.now v c.replace-points.ensures.value
    c.index_mut.ensures.value in
    let w_at = as_at self.entries.items b c.index_mut-2.result.now w c.replace-entries.ensures.value
    c.index_mut-2.ensures.value in
    let u_at = as_at self.cells.items b c.index_mut-3.result.now u c.replace-places.ensures.value
    c.index_mut-3.ensures.value in
    let list = c.in_ok-cells.cells.items in
    let found = subst (λ (l : List ℕ). AreAt cells l list) c.deref.ensures.value c.in_ok-cells.ensures in
    let made = c.in_ok-bucket.ensures in
    record {
      points = ap (λ (x : BucketContent). x.points) made ∙ part_points g b h cells self v c.requires.below v_at q;
      cells = ap (λ (x : BucketContent). x.cells) made ∙ c.deref-2.ensures.value
          ∙ at_is cells u.items list (cells_share g b h) found (part_cells g b h cells self u c.requires.below u_at q);
      entries = ap (λ (x : BucketContent). x.entries) made ∙ part_entries g b h cells self w c.requires.below w_at q;
    }

pub returns-clause-place : goal.returns-clause-place
returns-clause-place c = ap (λ (x : BucketContent). x.place) c.in_ok-bucket.ensures
