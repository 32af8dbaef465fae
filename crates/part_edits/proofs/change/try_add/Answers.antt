use Rattle.std.proofs.Common.{◌∙◌, sym}
use Rattle.std.proofs.lemmas.Bool.{MatchBool-at_true}
use Rattle.part_edits.proofs.Changed.{made_duplicate, made_inserted, part_lacking}
use Rattle.part_edits.proofs.change.try_add.Goals as goal

pub add_here-requires : goal.add_here-requires
add_here-requires c =
    part_lacking c.args.known.now.keys c.args.p c.args.linked.now.cells c.requires c.key.ensures.bound
    (sym c.has.ensures ∙ c.if-has.false)

pub returns-then-has-clause-made : goal.returns-then-has-clause-made
returns-then-has-clause-made c =
    made_duplicate c.args.known.now.keys c.args.p c.args.linked.now.cells (sym c.has.ensures ∙ c.if-has.true)

pub returns-then-could-clause-made : goal.returns-then-could-clause-made
returns-then-could-clause-made c =
    made_inserted c.args.known.now.keys c.args.p c.args.linked.now.cells c.add_here.new.linked.cells c.key.ensures.bound
    (sym c.has.ensures ∙ c.if-has.false) (MatchBool-at_true _ _ c.if-could.true c.in_ok-could.ensures.added)
