use Rattle.std.proofs.Common.{subst, sym}
use Rattle.cell_stars.specs.Plans.{set_all}
use Rattle.cell_stars.specs.Moves.{AreKeysAfter}
use Rattle.cell_stars.proofs.KeyLaws.{keys_stay}
use Rattle.cell_stars.proofs.PartLaws.{filed_in}
use Rattle.cell_stars.proofs.cells.Cells.keys_after.Goals as goal

pub returns-then-are_keyed-clause-keys : goal.returns-then-are_keyed-clause-keys
returns-then-are_keyed-clause-keys c =
    let b = c.args.self.now in
    subst (λ v. AreKeysAfter b.keys c.args.writes.now (set_all v b.keys)) (sym c.new.ensures.items)
    (keys_stay b.keys c.args.writes.now (filed_in _ _ c.self.view_is c.self.invariant)
    (c.are_keyed.ensures c.if-are_keyed.true))
