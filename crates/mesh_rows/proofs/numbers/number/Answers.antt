use Rattle.std.proofs.Common.{◌∙◌, sym, ℕ, ◌≡◌, arith, rules}
use Rattle.std.specs.Prelude.{nat_lt}
use Rattle.std.proofs.lemmas.List.Sorted.{IsPartitionPoint-from_clause}
use Rattle.list_laws.proofs.Cited.{prefix_is, below_front}
use Rattle.mesh_rows.proofs.RankAt.{rank_at}
use Rattle.mesh_rows.proofs.numbers.number.Goals as goal

-- the hint is right: the point stands there
pub returns-then-key : goal.returns-then-key
returns-then-key c =
    let p = c.index-points-likely.result in
    let same : p ≡ c.args.point =
    omega (arith, c.key.ensures.value, c.key-key.ensures.value, c.if-key.true) in
    sym (rank_at c.args.points.now c.place-likely.result p c.args.point c.requires.ascending
    c.if-likely-points.true (sym c.index-points-likely.is ∙ same))

pub returns : goal.returns
returns c =
    let below = λ (q : ℕ). nat_lt q c.key-key.result in
    let h =
    IsPartitionPoint-from_clause below c.args.points.now c.partition_point.result c.partition_point.ensures.partitioned
    (below_front c.args.points.now c.key-key.result c.requires.ascending) (λ x b f k. search rules) in
    let same : c.key-key.result ≡ c.args.point = c.key-key.ensures.value in
    rw (← same)
    (sym (prefix_is below c.args.points.now c.partition_point.result c.partition_point.ensures.bound h.0 h.1))
