-- A table and its passes, as contracts see them.
use Rattle.std.specs.Prelude.{◌≡◌, ℕ, ◌+◌, ◌<◌, ◌↔◌, List, [], ◌∷◌, ◌++◌, map, length, Option, None, Some}
use Rattle.std.specs.Prelude.{IsPermutation, slice_get}
use Rattle.std.specs.List.{range_with_len}
use Rattle.atomic_table.specs.Seated.{TableId}
use Rattle.round_table.specs.declared.view.Hand.{Hand}
use Rattle.round_table.specs.declared.view.View.{View}
use Rattle.round_table.specs.Counts.{times}

-- A table: which it is, how many passes it has, and the contents with which it was opened, by bucket.
pub record Opened (T : Type 0) : Type 0 where
  pub id : TableId
  pub workers : ℕ
  pub contents : List T

-- A pass: the table of which it is one, its number, and the buckets that it has claimed, in the order of its claims.
pub record Standing (T : Type 0) : Type 0 where
  pub table : Opened T
  pub number : ℕ
  pub claims : List ℕ

-- the claims of the first hand
abbrev pub claims_of : List Hand → List ℕ
claims_of [] = []
claims_of (h ∷ hands) = h.claims

-- a seat of a table with this view, as a pass
abbrev pub standing : {T : Type 0} → TableId → View T → ℕ → Standing T
standing id v number = record {
  table = record { id = id; workers = v.workers; contents = v.contents };
  number = number;
  claims = claims_of v.hands;
}

-- The bucket was claimed: this is the content with which the table was opened there, and the pass, which had not
-- claimed it before, has it now.
pub record IsClaimed {T : Type 0} (b : ℕ) (content : T) (old new : Standing T) : Type 0 where
  pub content_is : slice_get old.table.contents b ≡ Some content
  pub not_before : times b old.claims ≡ 0
  pub new_is : new ≡ record old { claims = old.claims ++ b ∷ [] }

-- The bucket is in the hands of the pass of this number, which is the pass's own just where it has claimed it before;
-- the pass is as before.
pub record IsBusy {T : Type 0} (b whose : ℕ) (old new : Standing T) : Type 0 where
  pub of_table : whose < old.table.workers
  pub own : (whose ≡ old.number) ↔ (0 < times b old.claims)
  pub as_before : new ≡ old

-- the passes with which a table is opened: one of each number, which has claimed nothing
abbrev pub fresh : {T : Type 0} → Opened T → ℕ → Standing T
fresh t m = record { table = t; number = m; claims = [] }

abbrev pub fresh_passes : {T : Type 0} → Opened T → List (Standing T)
fresh_passes t = map (fresh t) (range_with_len 0 t.workers)

-- the buckets with something in them, where the first has this number
abbrev pub buckets_left : {T : Type 0} → ℕ → List (Option T) → List ℕ
buckets_left b [] = []
buckets_left b (None ∷ rest) = buckets_left (b + 1) rest
buckets_left b (Some c ∷ rest) = b ∷ buckets_left (b + 1) rest

-- what is left in them
abbrev pub held : {T : Type 0} → List (Option T) → List T
held [] = []
held (None ∷ rest) = held rest
held (Some c ∷ rest) = c ∷ held rest

-- What was claimed and what is left: together they are all buckets, each once; and what is left is what the bucket was
-- opened with.
pub record AreParted {T : Type 0} (contents : List T) (claims : List ℕ) (rest : List (Option T)) : Type 0 where
  pub count : length rest ≡ length contents
  pub buckets : IsPermutation (range_with_len 0 (length contents)) (claims ++ buckets_left 0 rest)
  pub left : (b : ℕ) (c : T) → slice_get rest b ≡ Some (Some c) → slice_get contents b ≡ Some c
