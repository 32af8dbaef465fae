use Rattle.std.proofs.Common.{◌∙◌, sym}
use Rattle.std.specs.Prelude.{None}
use Rattle.alpha_complex.proofs.SlotLaws.{count_of_all, count_on, count_past}
use Rattle.alpha_complex.proofs.shape.kind_count.Goals.{then-is_some, else-is_some}
use Rattle.alpha_complex.proofs.shape.kind_count.Goals as goal

pub loop-kind-preserved : goal.loop-kind-preserved
loop-kind-preserved c =
    let kinds = c.args.kinds.now in
    let i = c.loop-kind.kind-index in
    elim c.if-is_some.branch [
      | then-is_some w ↦ w.count-is ∙ count_on kinds i None _ c.loop-kind-test.true
          (sym c.is_some.ensures ∙ w.if-is_some.true) c.loop-kind.invariant
      | else-is_some w ↦ w.count-is ∙ count_past kinds i None _ c.loop-kind-test.true
          (sym c.is_some.ensures ∙ w.if-is_some.false) c.loop-kind.invariant
    ]

pub returns : goal.returns
returns c = count_of_all c.args.kinds.now c.loop-kind.kind-index _ c.loop-kind-test.false c.loop-kind.invariant
