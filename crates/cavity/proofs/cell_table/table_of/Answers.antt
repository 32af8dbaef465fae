use Rattle.std.proofs.Common.{ap, subst, ◌∙◌, arith}
use Rattle.cavity.specs.Tables.{IsReachedFrom, cell_number, home_under}
use Rattle.cavity.specs.declared.cell_table.Mark.TheVariants.{Gone}
use Rattle.cavity.proofs.Tables.{marked_all, marked_next, marked_none}
use Rattle.cavity.proofs.cell_table.table_of.Goals as goal

pub loop-i-init : goal.loop-i-init
loop-i-init c = marked_none c.args.mask c.resize.new.self.items (omega (arith, c.in_ok-resize.ensures.len))

pub loop-i-preserved : goal.loop-i-preserved
loop-i-preserved c =
    marked_next c.args.mask c.loop-i.marks.items c.put.new.marks.items c.args.goes.now c.loop-i.i c.index-goes-i.result
    c.loop-i-test.true c.index-goes-i.is
    c.loop-i.invariant c.put.ensures.kept c.put.ensures.longer
    (subst (λ home. IsReachedFrom c.put.new.marks.items home (Gone c.loop-i.i))
    (c.home_of-home.ensures.home ∙ ap (home_under c.args.mask) (c.hash_of.ensures ∙ ap cell_number c.cell.ensures))
    c.in_ok-put.ensures.reached)

pub returns : goal.returns
returns c = marked_all c.args.mask c.loop-i.marks.items c.args.goes.now c.loop-i.i c.loop-i-test.false
    c.loop-i.invariant
