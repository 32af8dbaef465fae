-- Workers of a round.
use Rattle.std.specs.Prelude.{◌≡◌, ℕ, List, map, length, All}
use Rattle.std.specs.List.{flat_map}
use Rattle.round_table.specs.declared.worker.Worker.{Worker}
use Rattle.round_table.specs.Rounds.{Opened, Standing}

-- the passes and the states of workers
abbrev pub passes_of : {T S : Type 0} → List (Worker T S) → List (Standing T)
passes_of workers = map (λ w. w.pass) workers

abbrev pub states_of : {T S : Type 0} → List (Worker T S) → List S
states_of workers = map (λ w. w.state) workers

-- they have passes of the table, as many as it has
pub record AreAll {T S : Type 0} (t : Opened T) (workers : List (Worker T S)) : Type 0 where
  pub count : length workers ≡ t.workers
  pub of_table : All (λ w. w.pass.table ≡ t) workers

-- what all of them have claimed
abbrev pub all_claims : {T S : Type 0} → List (Worker T S) → List ℕ
all_claims workers = flat_map (λ w. w.pass.claims) workers
