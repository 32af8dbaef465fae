-- A split, as contracts see it.
use Rattle.std.specs.Prelude.{◌≡◌, ℕ, ◌≤◌}
use Rattle.claim_table.specs.declared.hands.Hands.{Hands}
use Rattle.claim_table.specs.Plays.{splits, without_child, child_of}
use Rattle.grid_claims.specs.Passes.{standing}
use Rattle.grid_claims.specs.Tries.{IsSplit}

-- what a split makes of both passes
pub split_tells : (w w' o : Hands) (parts left found : ℕ) → w'.place.table_id ≡ w.place.table_id →
    o.place.table_id ≡ w.place.table_id → w'.place.me.0 ≡ without_child (splits w.place.me.0 parts left found) →
    o.place.me.0 ≡ child_of (splits w.place.me.0 parts left found)
    → w.place.me.0.seen ≤ found → IsSplit parts left (standing w.place.table_id w.place.me.0)
    (standing w'.place.table_id w'.place.me.0) (standing o.place.table_id o.place.me.0)
split_tells w w' o parts left found table table' view view' later = record {
  found = found;
  later = later;
  new_is = λ i. standing (table i) (view i);
  other_is = λ i. standing (table' i) (view' i);
}
