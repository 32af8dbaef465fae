use Rattle.std.proofs.Common.{◌∙◌, sym}
use Rattle.part_edits.proofs.Changed.{made_flat, made_removed, part_with}
use Rattle.part_edits.proofs.work.take_known.Goals as goal

pub take_here-requires : goal.take_here-requires
take_here-requires c =
    part_with c.args.known.now.keys c.args.p c.args.linked.now.cells c.requires.part
    (sym c.has.ensures ∙ c.if-not-has.false)

pub returns-then-is_removed-clause-made : goal.returns-then-is_removed-clause-made
returns-then-is_removed-clause-made c =
    made_removed c.args.known.now.keys c.args.p c.args.linked.now.cells c.take_here.new.linked.cells
    (sym c.has.ensures ∙ c.if-not-has.false) (rw (c.in-Some.is, c.if-is_removed.true) at c.in-Ok.ensures.taken)

pub returns-else-is_removed-clause-made : goal.returns-else-is_removed-clause-made
returns-else-is_removed-clause-made c =
    made_flat c.args.known.now.keys c.args.p c.args.linked.now.cells c.take_here.new.linked.cells
    (sym c.has.ensures ∙ c.if-not-has.false) (rw (c.in-Some.is, c.if-is_removed.false) at c.in-Ok.ensures.taken)
