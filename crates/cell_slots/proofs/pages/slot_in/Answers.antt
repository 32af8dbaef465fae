use Rattle.std.proofs.Common.{◌≡◌, ◌<◌, ◌≤◌, ◌%◌, arith, length, subst, List, Option}
use Rattle.std.specs.Prelude.{MatchOption}
use Rattle.point_order.specs.declared.cell.Cell.{Cell}
use Rattle.cell_slots.specs.Nets.{slot_at}
use Rattle.cell_slots.proofs.WholePages.{found_there, whole_len}
use Rattle.cell_slots.proofs.pages.slot_in.Goals as goal

pub returns-then-page-pages : goal.returns-then-page-pages
returns-then-page-pages c =
    let at = c.args.place % 128 in
    found_there c.args.pages.now c.args.place c.index-pages-page.result c.requires c.at.result (λ s. s.now)
    c.if-page-pages.true
    (subst (λ (p : List (Option Cell)). MatchOption c.at.result (length p ≤ at)
    (λ s. (at < length p) × (slot_at p at ≡ s.now))) c.index-pages-page.is c.at.ensures)

pub returns : goal.returns
returns c =
    let e = whole_len c.args.pages.now c.requires in
    let h = c.if-page-pages.false in
    omega (arith, e, h)
