-- What jobs make of a round.
use Rattle.std.specs.Prelude.{◌≡◌, ℕ, ◌<◌, ◌++◌, List, length, All, Option, slice_index_or}
use Rattle.std.specs.List.{flat_map}
use Rattle.round_table.specs.declared.worker.Worker.{Worker}
use Rattle.round_table.specs.Rounds.{Opened, Standing, fresh, AreParted}

-- The pass is of the same table and has the same number, and has claimed more buckets.
pub record HasMore {T : Type 0} (old new : Standing T) : Type 0 where
  pub more : List ℕ
  pub new_is : new ≡ record old { claims = old.claims ++ more }

-- passes of the table that have claimed nothing
abbrev pub AreFresh : {T S : Type 0} → Opened T → List (Worker T S) → Type 0
AreFresh t workers = All (λ w. w.pass ≡ fresh t w.pass.number) workers

-- what a worker was made of another
pub record IsWorked {T S : Type 0} (makes : List T → ℕ → List ℕ → S → S →
    Type 0) (t : Opened T) (old new : Worker T S) :
    Type 0 where
  pub table : new.pass.table ≡ t
  pub number : new.pass.number ≡ old.pass.number
  pub made : makes t.contents new.pass.number new.pass.claims old.state new.state

-- each worker worked
pub record AreWorked {T S : Type 0} (makes : List T → ℕ → List ℕ → S → S → Type 0) (t : Opened T)
    (old new : List (Worker T S)) : Type 0 where
  pub count : length new ≡ length old
  pub each : (i : ℕ) (d : Worker T S) → i < length old →
      IsWorked makes t (slice_index_or old i d) (slice_index_or new i d)

-- A round: there are buckets for each worker, which with those that are left are all, each once; the worker with the
-- number i made of state i what the job makes with its buckets, and what is left is as it was.
pub record IsRound {T S : Type 0} (makes : List T → ℕ → List ℕ → S → S → Type 0) (contents : List T) (old new : List S)
    (rest : List (Option T)) : Type 0 where
  pub claims : List (List ℕ)
  pub count : (length new ≡ length old) × (length claims ≡ length old)
  pub parted : AreParted contents (flat_map (λ c. c) claims) rest
  pub each : (i : ℕ) (c : List ℕ) (d : S) → i < length old →
      makes contents i (slice_index_or claims i c) (slice_index_or old i d) (slice_index_or new i d)
