use Rattle.cell_stars.specs.Plans.{set_all}
use Rattle.cell_stars.proofs.PartLaws.{filed_same}
use Rattle.cell_stars.proofs.cells.Cells.change_key.Goals as goal

pub returns-then-is_keyed-clause-keys : goal.returns-then-is_keyed-clause-keys
returns-then-is_keyed-clause-keys c =
    let k = c.requires.there (c.is_keyed.ensures c.if-is_keyed.true) in
    filed_same (set_all c.args.changes.now.items c.args.base.now) c.args.n c.args.around.now c.requires.filed k.key
    (k.place, k.filled)
