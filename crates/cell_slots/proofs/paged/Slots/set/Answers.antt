use Rattle.std.proofs.Common.{◌≡◌, ◌∙◌, ◌<◌, ◌≤◌, ◌-◌, ◌++◌, ap, arith, length, sym, List, Option, slice_set}
use Rattle.std.proofs.lemmas.List.{set-append_left, set-append_right}
use Rattle.point_order.specs.declared.cell.Cell.{Cell}
use Rattle.cell_slots.specs.Pages.{slots_of}
use Rattle.cell_slots.proofs.Beside.{written_back}
use Rattle.cell_slots.proofs.paged.Slots.set.Goals as goal

pub returns-then-place-len : goal.returns-then-place-len
returns-then-place-len c =
    let list = c.self.inside.list.items in
    let rest = slots_of c.self.inside.pages.items in
    let a = c.if-place-len.true in
    let b = c.len.ensures in
    let below : c.args.place < length list = omega (arith, a, b) in
    ap (λ (x : Option Cell). slice_set list c.args.place x ++ rest) c.set.ensures
    ∙ sym (set-append_left list rest c.args.place c.args.packed below)
    ∙ ap (λ (v : List (Option Cell)). slice_set v c.args.place c.args.packed) c.self.view_is

pub returns-else-place-len : goal.returns-else-place-len
returns-else-place-len c =
    let list = c.self.inside.list.items in
    let pages = c.self.inside.pages.items in
    let n = c.len-else-place-len.result in
    let a = c.if-place-len.false in
    let b = c.len.ensures in
    let d = c.len-else-place-len.ensures in
    let least : n ≤ c.args.place = omega (arith, a, b, d) in
    let size : length list ≡ n = omega (arith, d) in
    let back = written_back _ pages c.set_in.new.pages (sym (ap length c.deref_mut.ensures.value)
    ∙ c.deref_mut.ensures.len) (c.set_in.ensures.len ∙ c.deref_mut.ensures.len) in
    ap (λ (v : List (List (Option Cell))). list ++ slots_of v) back
    ∙ ap (λ (v : List (Option Cell)). list ++ v) (c.set_in.ensures.slots
    ∙ ap (λ (v : List (List (Option Cell))). slice_set (slots_of v) (c.args.place - n) c.args.packed)
    c.deref_mut.ensures.value)
    ∙ sym (set-append_right list (slots_of pages) n c.args.place c.args.packed size least)
    ∙ ap (λ (v : List (Option Cell)). slice_set v c.args.place c.args.packed) c.self.view_is
