use Rattle.std.proofs.Common.{ap, subst}
use Rattle.list_laws.proofs.Cited.{not_both}
use Rattle.point_order.specs.Sets.{IsIn}
use Rattle.cell_stars.specs.Places.{Placed, cells_of}
use Rattle.cell_store.proofs.bucket.Bucket.other_here.Goals as goal

pub returns-then-not-is_same : goal.returns-then-not-is_same
returns-then-not-is_same c =
    record {
      listed = subst (λ (b : Placed). IsIn c.in-Some.other.now (cells_of b.slots)) (ap (λ v. v.cells) c.self.view_is)
          c.in-Some.ensures;
      has = c.is_on.ensures.0 c.if-is_on.true;
      differs = λ e. not_both c.is_same.result (c.is_same.ensures.1 e) c.if-not-is_same.true;
    }
