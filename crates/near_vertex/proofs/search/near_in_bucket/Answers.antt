use Rattle.std.proofs.Common.{subst, ℕ, List}
use Rattle.std.specs.Prelude.{Option, None, Some, IfSome}
use Rattle.point_order.specs.Sets.{IsIn}
use Rattle.cell_store.specs.Buckets.{content_of}
use Rattle.near_vertex.proofs.Starts.{from_bucket}
use Rattle.near_vertex.proofs.search.near_in_bucket.Goals as goal

pub returns : goal.returns
returns c s st = by c.near_in.result c.near_in.ensures
  where
    by : (o : Option ℕ) → IfSome o (λ p. IsIn p c.points.result.now) → IfSome o (λ p. IsIn p s)
    by None m = tt
    by (Some p) m =
        from_bucket c.args.hold.now s c.args.b p (content_of c.bucket.result.now) st c.bucket.ensures.bucket
        (subst (λ (l : List ℕ). IsIn p l) c.points.ensures.points m)
