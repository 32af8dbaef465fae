use Rattle.std.proofs.Common.{Some, subst, sym, ap, arith, length}
use Rattle.std.specs.Iterator.{YieldsFirstRef}
use Rattle.cell_stars.specs.Stars.{cells_left}
use Rattle.cell_stars.proofs.Least.{least_first, none_left}
use Rattle.cell_stars.proofs.star.StarIterator.next.Goals as goal

pub returns-in-Some-clause-steps : goal.returns-in-Some-clause-steps
returns-in-Some-clause-steps c =
    let s = c.args.self.now in
    subst (λ r. YieldsFirstRef cells_left s r (record s { bound = Some c.in-Some.cell.now })) (sym c.in-Some.is)
    (least_first s.slots.now s.star.now s.bound c.in-Some.cell.now c.in-Some.ensures)

pub returns-in-Some-clause-goes : goal.returns-in-Some-clause-goes
returns-in-Some-clause-goes c =
    let s = c.args.self.now in
    rw c.in-Some.is (record {
      on = λ _. (
        tt,
        tt,
        omega (arith, ap length (least_first s.slots.now s.star.now s.bound c.in-Some.cell.now c.in-Some.ensures)),
      );
      keeps =
          tt;
      rests = λ _. tt;
    })

pub returns-in_default-clause-steps : goal.returns-in_default-clause-steps
returns-in_default-clause-steps c =
    let s = c.args.self.now in
    let none = none_left s.slots.now s.star.now s.bound c.in_default.ensures in
    subst (λ r. YieldsFirstRef cells_left s r s) (sym c.in_default.is) (none, none)
