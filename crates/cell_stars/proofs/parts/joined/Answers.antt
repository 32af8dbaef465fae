use Rattle.std.proofs.Common.{List, ℕ, ◌++◌, ◌∙◌, ap}
use Rattle.cell_stars.proofs.PartLaws.{joined_more, joined_none}
use Rattle.cell_stars.proofs.parts.joined.Goals as goal

pub loop-part-init : goal.loop-part-init
loop-part-init c = joined_none c.args.parts.now c.new-list.result.items c.new-list.ensures.items

pub loop-part-preserved : goal.loop-part-preserved
loop-part-preserved c =
    joined_more c.args.parts.now c.loop-part.part-index c.part-item.result c.loop-part.list.items
    c.extend_from_slice.new.self.items c.loop-part-test.true c.part-item.is c.loop-part.invariant
    (c.in_ok-extend_from_slice.ensures.items ∙ ap (λ (l : List (ℕ × ℕ)). c.loop-part.list.items ++ l) c.keys.ensures)
