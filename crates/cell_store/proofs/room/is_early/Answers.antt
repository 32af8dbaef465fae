use Rattle.std.proofs.Common.{sym, ◌∙◌, take}
use Rattle.list_laws.proofs.Cited.{among_from, in_take}
use Rattle.cell_store.proofs.room.is_early.Goals as goal

pub returns : goal.returns
returns c t = in_take c.min.result c.args.numbers.now c.args.b
    (among_from c.args.b (take c.min.result c.args.numbers.now) (sym c.contains.ensures.value ∙ t))
