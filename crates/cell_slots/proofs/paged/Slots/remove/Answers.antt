use Rattle.std.proofs.Common.{◌≡◌, ◌∙◌, ◌++◌, ◌∷◌, [], ap, append-nil, arith, length, subst, sym, List, Option}
use Rattle.std.proofs.lemmas.List.{length-append}
use Rattle.point_order.specs.declared.cell.Cell.{Cell}
use Rattle.cell_slots.specs.Nets.{AreMoved, cells_of_slots}
use Rattle.cell_slots.specs.Pages.{slots_of}
use Rattle.cell_slots.proofs.Moving.{moved_none}
use Rattle.cell_slots.proofs.Nets.{live_append}
use Rattle.cell_slots.proofs.WholePages.{popped}
use Rattle.cell_slots.proofs.paged.Slots.remove.Goals as goal

pub overflow_sub-self : goal.overflow_sub-self
overflow_sub-self c =
    let p = popped c.self.inside.list.items c.self.inside.pages.items c.pop_page.new.pages.items c.in-Some.page
    c.self.inside.count c.in-Some.ensures c.self.invariant.0 c.self.invariant.1 in
    let count = p.count in
    omega (arith, count)

pub invariant_of-self : goal.invariant_of-self
invariant_of-self c =
    let p = popped c.self.inside.list.items c.self.inside.pages.items c.pop_page.new.pages.items c.in-Some.page
    c.self.inside.count c.in-Some.ensures c.self.invariant.0 c.self.invariant.1 in
    let count = p.count in
    (p.whole, omega (arith, count))

pub returns-in-Some : goal.returns-in-Some
returns-in-Some c =
    let p = popped c.self.inside.list.items c.self.inside.pages.items c.pop_page.new.pages.items c.in-Some.page
    c.self.inside.count c.in-Some.ensures c.self.invariant.0 c.self.invariant.1 in
    let rest = c.self.inside.list.items ++ slots_of c.pop_page.new.pages.items in
    let page = c.in-Some.page in
    let all = cells_of_slots c.args.self.now in
    let e : c.args.self.now ≡ rest ++ page = sym c.self.view_is ∙ p.parts in
    let l = ap length e ∙ length-append rest page in
    let size = p.size in (
      size,
      omega (arith, l, size),
      subst (λ (v : List Cell). AreMoved all v) (ap cells_of_slots e ∙ live_append rest page) (moved_none all),
    )

pub returns-in_ok-page-in-Some-pop_slot : goal.returns-in_ok-page-in-Some-pop_slot
returns-in_ok-page-in-Some-pop_slot c =
    let front = c.pop_slot.new.list.items in
    let slot = c.in-Some-pop_slot.slot ∷ [] in
    let page = c.in_ok-page-in-Some-pop_slot.page in
    let all = cells_of_slots c.args.self.now in
    let rest = front ++ slots_of c.pop_page.new.pages.items in
    let none : slots_of c.pop_page.new.pages.items ≡ [] = ap slots_of c.in-None.ensures.1 in
    let old : c.args.self.now ≡ front ++ slot =
    sym c.self.view_is ∙ ap (λ v. c.self.inside.list.items ++ slots_of v) c.in-None.ensures.0
    ∙ append-nil c.self.inside.list.items ∙ c.in-Some-pop_slot.ensures in
    let new : rest ≡ front = ap (λ v. front ++ v) none ∙ append-nil front in
    let n = ap length old ∙ length-append front slot in
    let m = ap length new in
    let size = c.in_ok-page-in-Some-pop_slot.ensures.size in (
      size,
      omega (arith, n, m),
      subst (λ (v : List Cell). AreMoved all v) (ap cells_of_slots old ∙ live_append front slot
          ∙ ap (λ (v : List Cell). cells_of_slots front ++ v) (sym c.in_ok-page-in-Some-pop_slot.ensures.cells)
          ∙ ap (λ (v : List (Option Cell)). cells_of_slots v ++ cells_of_slots page) (sym new)) (moved_none all),
    )
