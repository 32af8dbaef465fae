use Rattle.std.proofs.Common.{rules, ℕ, nat_le}
use Rattle.std.proofs.lemmas.List.Sorted.{IsPartitionPoint-from_clause, IsPartitionedBy-leb}
use Rattle.solid_parts.proofs.Climbing.{counted_to}
use Rattle.solid_parts.proofs.climb.count_to.Goals as goal

pub returns : goal.returns
returns c =
    let numbers = c.args.numbers.now in
    let alpha = c.args.alpha in
    counted_to numbers alpha c.partition_point.result c.partition_point.ensures.bound
    (IsPartitionPoint-from_clause (λ (n : ℕ). nat_le n alpha) numbers c.partition_point.result
    c.partition_point.ensures.partitioned
    (IsPartitionedBy-leb (λ n. n) numbers alpha c.requires) (λ x b f k. search rules))
