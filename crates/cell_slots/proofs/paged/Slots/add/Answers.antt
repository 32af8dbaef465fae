use Rattle.std.proofs.Common.{◌∙◌, ◌++◌, ap, arith, length}
use Rattle.std.proofs.lemmas.List.{length-append}
use Rattle.cell_slots.specs.Pages.{slots_of}
use Rattle.cell_slots.proofs.WholePages.{page_behind, whole_push}
use Rattle.cell_slots.proofs.paged.Slots.add.Goals as goal

pub invariant_of-self-2 : goal.invariant_of-self-2
invariant_of-self-2 c =
    let list = c.self.inside.list.items in
    let pages = c.self.inside.pages.items in
    let page = c.args.page in
    let a = ap length (page_behind list pages page) ∙ length-append (list ++ slots_of pages) page in
    let count = c.self.invariant.1 in
    let size = c.requires in
    rw c.in_ok-push.ensures.items (whole_push pages page c.self.invariant.0 size, omega (arith, a, count, size))
