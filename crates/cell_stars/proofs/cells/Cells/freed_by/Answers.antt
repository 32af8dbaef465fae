use Rattle.std.proofs.Common.{subst}
use Rattle.cell_stars.specs.Places.{AreStars}
use Rattle.cell_stars.proofs.HomeLaws.{homes_at}
use Rattle.cell_stars.proofs.MoveLaws.{freed_none, freed_more, freed_same, freed_all}
use Rattle.cell_stars.proofs.cells.Cells.freed_by.Goals as goal
use Rattle.cell_stars.proofs.cells.Cells.freed_by.Goals.{in-Some+in_ok-push, in_default}

pub loop-number-init : goal.loop-number-init
loop-number-init c = freed_none c.args.self.now c.args.gone.now c.in_ok-freed.freed.items c.in_ok-freed.ensures.items

pub loop-number-preserved : goal.loop-number-preserved
loop-number-preserved c =
    let b = c.args.self.now in
    let x = c.index-gone-number.result in
    elim c.match-place.branch [
      | in-Some+in_ok-push w ↦ rw w.freed-is
          (freed_more b c.args.gone.now c.loop-number.number c.loop-number.freed.items
          w.push.new.self.items x w.in-Some.i (subst AreStars c.self.view_is c.self.invariant) c.loop-number-test.true
          c.index-gone-number.is w.in-Some.ensures w.in_ok-push.ensures.items c.loop-number.invariant)
      | in_default w ↦ rw w.freed-is (freed_same b c.args.gone.now c.loop-number.number c.loop-number.freed.items x
          c.loop-number-test.true c.index-gone-number.is w.in_default.ensures c.loop-number.invariant)
    ]

pub returns-clause-freed : goal.returns-clause-freed
returns-clause-freed c = freed_all c.args.self.now c.args.gone.now c.loop-number.number c.loop-number.freed.items
    c.numbers_in_order.result.items c.loop-number-test.false c.numbers_in_order.ensures.same c.loop-number.invariant

pub place_by-place-requires : goal.place_by-place-requires
place_by-place-requires c = homes_at c.args.matched.now.gone c.args.gone.now c.loop-number.number
    c.index-gone-number.result
    c.requires c.loop-number-test.true c.index-gone-number.is
