use Rattle.std.proofs.Common.{sym, ◌∙◌, ap, drop, length}
use Rattle.std.specs.Option.{option_map}
use Rattle.list_laws.proofs.Cited.{front_is}
use Rattle.cell_stars.specs.Plans.{or_else}
use Rattle.cell_stars.specs.Turns.{replaced}
use Rattle.cell_stars.proofs.Turned.{part_back, part_below}
use Rattle.cell_stars.proofs.turns.turn_back_part.Goals as goal

pub turn_back_all-requires : goal.turn_back_all-requires
turn_back_all-requires g c =
    let r = c.requires in
    rw (c.deref_mut.ensures.value, c.deref_mut-2.ensures.value) (part_below r.longer _ r.before _ r.was _ r.part)

-- a part that is turned back is as before, and so is the list
pub returns : goal.returns
returns g c =
    let b = c.turn_back_all in
    let r = c.requires in
    let changes = c.args.changes.now in
    let list = c.args.list.now in
    let e = front_is b.new.changes (drop (length b.new.changes) changes.items) changes.len
    (changes.ok.0 ∙ sym (ap length c.deref_mut-2.ensures.value) ∙ sym b.auto.changes) in
    let f = front_is b.new.list (drop (length b.new.list) list.items) list.len
    (list.ok.0 ∙ sym (ap length c.deref_mut.ensures.value) ∙ sym b.auto.list) in
    let other = option_map (λ v. v.items) c.args.grown.now in
    rw e (part_back r.longer _ other r.before b.new.changes changes.items r.was b.new.list list.items _ r.part
    (b.auto.list ∙ ap length c.deref_mut.ensures.value) (b.ensures.list ∙ c.deref_mut.ensures.value)
    (b.ensures.changes ∙ c.deref_mut-2.ensures.value)
    (c.turn_list.ensures.other ∙ ap (replaced other) f) (c.turn_list.ensures.list ∙ ap (or_else other) f))
