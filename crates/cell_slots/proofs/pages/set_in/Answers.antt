use Rattle.std.proofs.Common.{◌∙◌, ◌/◌, ◌%◌, [], ap, length, List, Option}
use Rattle.std.proofs.lemmas.List.{length-set}
use Rattle.point_order.specs.declared.cell.Cell.{Cell}
use Rattle.cell_slots.specs.Pages.{slots_of}
use Rattle.std.proofs.Common.{slice_index_or, slice_set}
use Rattle.cell_slots.proofs.WholePages.{becomes, in_page, page_below, whole_at, whole_set}
use Rattle.cell_slots.proofs.pages.set_in.Goals as goal

pub bounds-pages-place : goal.bounds-pages-place
bounds-pages-place c = page_below c.args.pages.now c.args.place [] c.requires.whole c.requires.within

pub set-requires : goal.set-requires
set-requires c =
    let r = c.requires in
    in_page c.args.pages.now c.args.place c.index-pages-place.result r.whole
    (page_below c.args.pages.now c.args.place [] r.whole r.within)

pub returns-clause-slots : goal.returns-clause-slots
returns-clause-slots c =
    let r = c.requires in
    ap (λ (v : List (Option Cell)). slots_of (slice_set c.args.pages.now (c.args.place / 128) v)) c.set.ensures
    ∙ becomes c.args.pages.now c.args.place c.index-pages-place.result r.whole c.args.packed
    (page_below c.args.pages.now c.args.place [] r.whole r.within)

pub returns-clause-whole : goal.returns-clause-whole
returns-clause-whole c =
    let r = c.requires in
    let pages = c.args.pages.now in
    let b = c.args.place / 128 in
    let old = slice_index_or pages b c.index-pages-place.result in
    whole_set pages b c.set.new.self r.whole
    (ap length c.set.ensures ∙ length-set old (c.args.place % 128) c.args.packed
    ∙ whole_at pages b c.index-pages-place.result r.whole (page_below pages c.args.place [] r.whole r.within))
