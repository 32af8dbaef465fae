use Rattle.std.proofs.Common.{◌∙◌}
use Rattle.alpha_complex.proofs.SlotLaws.{pairs_as_seen}
use Rattle.alpha_complex.proofs.shape.Shape.pair_slots.Goals as goal

pub returns : goal.returns
returns c = c.len.ensures ∙ c.self.inside.pairs.ok.0
    ∙ pairs_as_seen c.self.inside c.args.self.now c.self.invariant c.self.view_is
