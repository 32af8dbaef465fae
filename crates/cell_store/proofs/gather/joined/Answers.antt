use Rattle.std.proofs.Common.{◌≡◌, ◌∷◌, ◌∙◌, [], ap, sym, append_assoc, append-nil, arith, length, Vec, Global}
use Rattle.std.specs.List.{flat_map}
use Rattle.std.specs.Vec.Iter.{into_iter_items}
use Rattle.point_order.specs.declared.cell.Cell.{Cell}
use Rattle.cell_store.proofs.Gathering.{list_joined, none_left}
use Rattle.cell_store.proofs.gather.joined.Goals as goal

pub loop-list-preserved : goal.loop-list-preserved
loop-list-preserved c =
    let at = c.loop-list in
    let x = c.in-Some.list in
    let steps : into_iter_items at.list-iterator ≡ x ∷ into_iter_items c.next.new.self = c.in-Some.ensures.steps.0 in (
      append_assoc at.yielded (x ∷ []) _ ∙ rw (← steps) at.invariant.0,
      list_joined (λ (list : Vec Cell Global). list.items) at.yielded x at.cells.items c.deref.result.now
          c.extend_from_slice.new.self.items at.invariant.1 c.deref.ensures.value
          c.in_ok-extend_from_slice.ensures.items,
      let was = at.invariant.2 in
          let gone = c.in-Some.ensures.steps.1 in
          let short = ap length steps in
          omega arith,
    )

pub returns : goal.returns
returns c =
    let at = c.loop-list in
    let empty : into_iter_items at.list-iterator ≡ [] = none_left _ (sym at.invariant.2 ∙ c.in-None.ensures.steps.0) in
    let all = sym (append-nil at.yielded) ∙ rw empty at at.invariant.0
    ∙ c.into_iter-list-iterator.ensures.into_iter_gives.0 in
    at.invariant.1 ∙ ap (flat_map (λ list. list.items)) all
