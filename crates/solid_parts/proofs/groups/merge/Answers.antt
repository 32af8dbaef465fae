use Rattle.std.proofs.Common.{◌≡◌, ◌<◌, subst, sym, false, ℕ, length, arith}
use Rattle.std.specs.Prelude.{not, ◌==◌}
use Rattle.std.proofs.lemmas.Bool.Decides.{nat_tests}
use Rattle.solid_parts.specs.Groups.{IsMerged}
use Rattle.solid_parts.proofs.Leading.{merged_into_first, merged_into_second}
use Rattle.solid_parts.proofs.groups.merge.Goals.{then-a-b, else-a-b}
use Rattle.solid_parts.proofs.groups.merge.Goals as goal

equal : (a b : ℕ) → not (a == b) ≡ false → a ≡ b
equal a b e = grind (arith, nat_tests)

-- the greater label goes over into the lesser, or they are one
pub returns-clause-merged : goal.returns-clause-merged
returns-clause-merged c labels t =
    let a = c.find-a in
    let b = c.find-b in
    let one = a.ensures.kept labels t in
    let two = b.ensures.kept labels one in
    let within : a.result < length b.new.leads = omega (arith, a.ensures.within, b.auto.leads) in
    elim c.if-a-b.branch [
      | then-a-b w ↦ subst (IsMerged c.args.i c.args.j labels (not (a.result == b.result))) (sym w.leads-is)
          (merged_into_first b.new.leads labels c.args.i c.args.j a.result b.result _ b.ensures.down two within
          b.ensures.within
          (a.ensures.label labels t) (b.ensures.label labels one) (a.ensures.least labels t)
          (b.ensures.least labels one) (equal a.result b.result))
      | else-a-b w ↦ subst (IsMerged c.args.i c.args.j labels (not (a.result == b.result))) (sym w.leads-is)
          (merged_into_second b.new.leads labels c.args.i c.args.j a.result b.result _ b.ensures.down two within
          b.ensures.within
          (a.ensures.label labels t) (b.ensures.label labels one) (a.ensures.least labels t)
          (b.ensures.least labels one) (equal a.result b.result))
    ]
