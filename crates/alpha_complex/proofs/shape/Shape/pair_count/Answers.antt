use Rattle.std.proofs.Common.{◌∙◌, ap, List}
use Rattle.std.specs.Prelude.{Option, count_by, is_some}
use Rattle.alpha_complex.specs.declared.shape.Kind.{Kind}
use Rattle.alpha_complex.proofs.SlotLaws.{pairs_held}
use Rattle.alpha_complex.proofs.shape.Shape.pair_count.Goals as goal

pub returns : goal.returns
returns c = c.kind_count.ensures ∙ ap (λ (v : List (Option Kind)). count_by is_some v) c.deref.ensures.value
    ∙ pairs_held c.self.inside c.args.self.now c.self.invariant c.self.view_is
