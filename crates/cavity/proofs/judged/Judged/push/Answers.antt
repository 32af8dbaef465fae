use Rattle.std.proofs.Common.{sym, ◌∙◌, ap, ◌≡◌, subst, length, ℕ, List}
use Rattle.point_order.specs.declared.cell.Cell.{Cell}
use Rattle.cavity.specs.declared.cell_table.Mark.TheVariants.{Gone}
use Rattle.cavity.specs.Tables.{IsMarked, IsReachedFrom, cell_home, home_under}
use Rattle.cavity.proofs.Tables.{goes_pushed, has_room, home_within, marked_more, marked_still}
use Rattle.list_laws.proofs.Cited.{on_err}
use Rattle.cavity.proofs.judged.Judged.push.Goals as goal

pub put-requires-clause-home : goal.put-requires-clause-home
put-requires-clause-home c = home_within c.home_of-home.result c.self.inside.mask (length c.self.inside.marks.items)
    c.home_of-home.ensures.below c.self.invariant.homes

pub put-requires-clause-mark : goal.put-requires-clause-mark
put-requires-clause-mark c = λ e. (cc)

pub invariant_of-self : goal.invariant_of-self
invariant_of-self c =
    subst (λ (l : List Cell). IsMarked c.self.inside.mask c.self.inside.marks.items l) (sym c.reserve.ensures.items)
    c.self.invariant

pub invariant_of-self-in_err-put : goal.invariant_of-self-in_err-put
invariant_of-self-in_err-put c =
    subst (λ (l : List Cell). IsMarked c.self.inside.mask c.put.new.marks.items l) (sym c.reserve.ensures.items)
    (marked_still c.self.inside.mask c.self.inside.marks.items c.put.new.marks.items c.self.inside.goes.items
    c.self.invariant c.put.ensures.kept c.put.ensures.longer)

pub returns-in_err-put-clause-refused : goal.returns-in_err-put-clause-refused
returns-in_err-put-clause-refused c =
    on_err c.from_residual-in_err-put.result (c.reserve.ensures.items ∙ c.self.view_is ∙ c.make_room.ensures)

pub invariant_of-self-2 : goal.invariant_of-self-2
invariant_of-self-2 c =
    let n : c.len.result ≡ length c.self.inside.goes.items =
    c.len.ensures ∙ c.reserve.new.self.ok.0 ∙ ap length c.reserve.ensures.items in
    rw (c.in-Ok.ensures.items, c.reserve.ensures.items)
    (marked_more c.self.inside.mask c.self.inside.marks.items c.put.new.marks.items c.self.inside.goes.items c.args.cell
    c.self.invariant c.put.ensures.kept c.put.ensures.longer
    (subst (λ (i : ℕ). IsReachedFrom c.put.new.marks.items (cell_home c.self.inside.mask c.args.cell) (Gone i)) n
    (subst (λ (h : ℕ). IsReachedFrom c.put.new.marks.items h (Gone c.len.result))
    (c.home_of-home.ensures.home ∙ ap (home_under c.self.inside.mask) c.requires) c.in_ok-put.ensures.reached)))

pub returns-clause-pushed : goal.returns-clause-pushed
returns-clause-pushed c =
    goes_pushed c.args.self.now c.self.inside.goes.items c.reserve.new.self.items c.push.new.self.items c.args.cell
    (c.self.view_is ∙ c.make_room.ensures) c.reserve.ensures.items c.in-Ok.ensures.items

pub unreachable-requires : goal.unreachable-requires
unreachable-requires c = has_room c.reserve.new.self.len c.reserve.new.self.cap c.in_ok-reserve.ensures.ok
    c.in-Err.ensures.full
