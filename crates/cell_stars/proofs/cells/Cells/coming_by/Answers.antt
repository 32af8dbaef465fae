use Rattle.std.proofs.Common.{◌∙◌, subst, sym}
use Rattle.list_laws.proofs.Cited.{at_place}
use Rattle.cell_stars.specs.Homes.{AreHomes}
use Rattle.cell_stars.specs.Plans.{Once}
use Rattle.cell_stars.proofs.HomeLaws.{homes_at}
use Rattle.cell_stars.proofs.MoveLaws.{coming_none, coming_more, coming_same, coming_all, single_none, single_more}
use Rattle.cell_stars.proofs.MoveLaws.{single_same}
use Rattle.cell_stars.proofs.cells.Cells.coming_by.Goals as goal
use Rattle.cell_stars.proofs.cells.Cells.coming_by.Goals.{then-comes+in_ok-push, else-comes}

pub loop-number-init : goal.loop-number-init
loop-number-init c = record {
  coming = coming_none c.args.self.now c.args.freed.now c.args.fresh.now c.in_ok-coming.coming.items
      c.in_ok-coming.ensures.items;
  single = λ t. single_none c.args.fresh.now c.in_ok-coming.coming.items c.in_ok-coming.ensures.items;
}

pub comes-requires-clause-found : goal.comes-requires-clause-found
comes-requires-clause-found c t = c.requires.found t c.index-fresh-number.result
    (at_place c.args.fresh.now c.loop-number.number c.index-fresh-number.result c.index-fresh-number.result
    c.loop-number-test.true c.index-fresh-number.is)

-- the next cell comes, or stands there already or touches another bucket
pub loop-number-preserved : goal.loop-number-preserved
loop-number-preserved c =
    let b = c.args.self.now in
    let freed = c.args.freed.now in
    let fresh = c.args.fresh.now in
    let n = c.loop-number.number in
    let x = c.index-fresh-number.result in
    let i = c.loop-number.invariant in
    elim c.if-comes.branch [
      | then-comes+in_ok-push w ↦ rw w.coming-is (record {
        coming = coming_more b freed fresh n c.loop-number.coming.items w.push.new.self.items x c.loop-number-test.true
            c.index-fresh-number.is (rw w.if-comes.true at c.comes.ensures) w.in_ok-push.ensures.items
            i.coming;
        single = λ t. single_more fresh n c.loop-number.coming.items w.push.new.self.items x
            (c.requires.single t) c.loop-number-test.true c.index-fresh-number.is w.in_ok-push.ensures.items
            (i.single t);
      })
      | else-comes w ↦ rw w.coming-is (record {
        coming = coming_same b freed fresh n c.loop-number.coming.items x c.loop-number-test.true
            c.index-fresh-number.is
            (rw w.if-comes.false at c.comes.ensures) i.coming;
        single = λ t. single_same fresh n c.loop-number.coming.items (i.single t);
      })
    ]

pub returns-then-is_single-clause-once : goal.returns-then-is_single-clause-once
returns-then-is_single-clause-once c = (c.loop-number.invariant.single
    (sym c.is_single.ensures ∙ c.if-is_single.true)).differ

pub returns-then-is_single-clause-coming : goal.returns-then-is_single-clause-coming
returns-then-is_single-clause-coming c = coming_all c.args.self.now c.args.freed.now c.args.fresh.now
    c.loop-number.number
    c.loop-number.coming.items c.loop-number.coming.items c.loop-number-test.false (λ x m. m, λ x m. m)
    c.loop-number.invariant.coming

pub returns-clause-coming : goal.returns-clause-coming
returns-clause-coming c = coming_all c.args.self.now c.args.freed.now c.args.fresh.now c.loop-number.number
    c.loop-number.coming.items c.cells_once.result.items c.loop-number-test.false c.cells_once.ensures.cells
    c.loop-number.invariant.coming

pub is_touched_by-touches-requires : goal.is_touched_by-touches-requires
is_touched_by-touches-requires c =
    let fresh = c.args.fresh.now in
    let homes = c.matched.inside.fresh in
    homes_at (homes.grid, homes.list.items) fresh c.loop-number.number c.index-fresh-number.result
    (subst (λ (m : Once). AreHomes m.fresh fresh) (sym c.matched.view_is) c.requires.homes) c.loop-number-test.true
    c.index-fresh-number.is
