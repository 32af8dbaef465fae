-- When a board is good.
use Rattle.std.specs.Prelude.{◌≡◌, ◌≢◌, ℕ, ◌+◌, ◌*◌, ◌^◌, ◌<◌, ◌≤◌, ◌↔◌, true, List, ◌++◌, length, drop, Option, Some}
use Rattle.std.specs.Prelude.{IsSome, All}
use Rattle.point_order.specs.Solid.{is_solid}
use Rattle.edit_history.specs.declared.history.Entry.{Entry}
use Rattle.edit_history.specs.Histories.{replay, IsLegal}
use Rattle.del_laws.specs.Keys.{AreKeys}
use Rattle.bucket_grid.specs.Grids.{is_grid_size}
use Rattle.cell_store.specs.Buckets.{BucketContent, bucket_at}
use Rattle.cell_store.specs.Shares.{share_at}
use Rattle.claim_rule.specs.Boards.{View, BoardState, word_of, view_at, IsLive, Owns, left_in, made_by}

-- each of these buckets is its share of the history
abbrev pub AreSharesOf : ℕ → List Entry → List (Option BucketContent) → Type 0
AreSharesOf g h places = (b : ℕ) (c : BucketContent) → bucket_at places b ≡ Some c → c ≡ share_at g b h

-- the history begins with these entries
abbrev pub StartsWith : List Entry → List Entry → Type 0
StartsWith h front = (rest : List Entry) × (h ≡ front ++ rest)

-- The lists have their lengths, the numbers are within their limits, and each live pass stands at its number.
pub record HasShape (s : BoardState) : Type 0 where
  pub size : is_grid_size s.grid ≡ true
  pub words : length s.words ≡ s.grid * s.grid * s.grid
  pub homes : length s.homes ≡ length s.words
  pub views : length s.views ≡ s.parts
  pub some_part : 0 < s.parts
  pub few_parts : s.parts ≤ 64
  pub most : s.most ≤ 2 ^ 32
  pub named : (n : ℕ) (v : View) → view_at s n ≡ Some v → v.first ≡ n

-- some live pass holds the bucket
pub record HasHolder (s : BoardState) (b : ℕ) : Type 0 where
  pub view : View
  pub live : IsLive s view
  pub holds : IsSome (bucket_at view.held b)

-- Just one live pass owns the part.
pub record HasOneOwner (s : BoardState) (p : ℕ) : Type 0 where
  pub view : View
  pub live : IsLive s view
  pub owns : Owns view p
  pub only : (w : View) → IsLive s w → Owns w p → w ≡ view

-- What holds of each live pass. All its own entries have numbers below what it has seen.
pub record IsViewInOrder (s : BoardState) (h : List Entry) (v : View) : Type 0 where
  pub some_part : 0 < v.parts
  pub inside : v.first + v.parts ≤ s.parts
  pub places : length v.held ≡ length s.words
  pub shares : AreSharesOf s.grid h v.held
  pub words : (b : ℕ) → IsSome (bucket_at v.held b) → word_of s b ≡ v.first + 1
  pub since : v.since ≤ v.seen
  pub seen : v.seen ≤ length h
  pub made : All (λ e. e.number < v.seen) (made_by v.first v.parts (length s.opening) h)

-- The board is good, with this history: the history is legal and begins with the opening entries, the ticket counts it,
-- and it leaves a solid set; every bucket is its share of the history, wherever it is; a word is 0 exactly where its
-- bucket is at home, and else names the pass that holds it; and the live passes share the parts and the allowance.
pub record IsGood (s : BoardState) (h : List Entry) : Type 0 where
  pub shape : HasShape s
  pub legal : IsLegal h
  pub starts : StartsWith h s.opening
  pub ticket : s.ticket ≡ length h
  pub keys : AreKeys (replay h)
  pub solid : is_solid (replay h) ≡ true
  pub shares : AreSharesOf s.grid h s.homes
  pub home : (b : ℕ) → b < length s.words → (word_of s b ≡ 0) ↔ IsSome (bucket_at s.homes b)
  pub away : (b : ℕ) → b < length s.words → word_of s b ≢ 0 → HasHolder s b
  pub passes : (v : View) → IsLive s v → IsViewInOrder s h v
  pub owners : (p : ℕ) → p < s.parts → HasOneOwner s p
  pub makers : All (λ e. e.by < s.parts) (drop (length s.opening) h)
  pub room : length h + left_in s.views ≤ s.most

-- with some history; a law says that there is just one
abbrev pub Good : BoardState → Type 0
Good s = (h : List Entry) × IsGood s h
