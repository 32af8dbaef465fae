use Rattle.std.proofs.Common.{subst, sym, ℕ, List, arith}
use Rattle.std.specs.Prelude.{[]}
use Rattle.point_order.specs.Sets.{IsIn}
use Rattle.cell_stars.proofs.KeyLaws.{none_there}
use Rattle.cell_stars.proofs.writes.is_spare.Goals as goal

pub returns-in-Some-clause-spare : goal.returns-in-Some-clause-spare
returns-in-Some-clause-spare c t i m =
    none_there c.in-Some.around.now c.has_places.result t c.has_places.ensures i
    (subst (λ (s : ℕ × List ℕ). IsIn i s.1) (sym (c.in-Some.ensures.lookup.4 (omega arith) (0, []))) m)
