use Rattle.std.proofs.Common.{◌∙◌}
use Rattle.alpha_complex.proofs.SlotLaws.{triples_as_seen}
use Rattle.alpha_complex.proofs.shape.Shape.triple_slots.Goals as goal

pub returns : goal.returns
returns c = c.len.ensures ∙ c.self.inside.triples.ok.0
    ∙ triples_as_seen c.self.inside c.args.self.now c.self.invariant c.self.view_is
