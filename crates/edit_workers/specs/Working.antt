-- What the work on a list leaves.
use Rattle.std.specs.Prelude.{◌≡◌, ℕ, ◌+◌, ◌-◌, ◌*◌, ◌<◌, ◌≤◌, Bool, true, false, not, List, [], ◌∷◌, ◌++◌, map, length}
use Rattle.std.specs.Prelude.{All, AllPairs, if◌then◌else◌}
use Rattle.std.specs.List.{filter, flat_map}
use Rattle.edit_history.specs.declared.history.Entry.{Entry}
use Rattle.edit_history.specs.Edits.{share_point}
use Rattle.edit_history.specs.OneThread.{line_of}
use Rattle.claim_table.specs.declared.view.Act.{Act}
use Rattle.claim_table.specs.Trails.{misses}
use Rattle.grid_claims.specs.Passes.{Standing}
use Rattle.plain_laws.specs.Running.{Pair}
use Rattle.edit_workers.specs.Trying.{shares_with}

-- a pair, and whether it is left over
abbrev pub Marked : Type 0
Marked = Bool × Pair

-- the pairs that are left over, and the others, each in their order
abbrev pub left_over : List Marked → List Pair
left_over l = map (λ x. x.1) (filter (λ x. x.0) l)

abbrev pub pairs_done : List Marked → List Pair
pairs_done l = map (λ x. x.1) (filter (λ x. not x.0) l)

-- what shares a point with an earlier pair that is left over is left over too
abbrev pub LeavesLater : List Marked → Type 0
LeavesLater l = AllPairs (λ x y. x.0 ≡ true → share_point x.1.1 y.1.1 ≡ true → y.0 ≡ true) l

-- how many pairs of a list share no point with an earlier one, nor with these
abbrev pub first_ones : List Pair → List Pair → ℕ
first_ones seen [] = 0
first_ones seen (p ∷ l) = if shares_with p.1 seen then first_ones (p ∷ seen) l else first_ones (p ∷ seen) l + 1

-- a pair of the list and its mark, with the steps that were taken for it
abbrev pub Stretch : Type 0
Stretch = Marked × List Act

-- For no pair more than 64 claims failed, and for each that is left over by itself just so many, but where it shares
-- a point with one of these or with an earlier one that is left over.
abbrev pub AreTried : List Pair → List Stretch → Type 0
AreTried over [] = Unit {0}
AreTried over (s ∷ l) =
    (s.0.0 ≡ true → shares_with s.0.1.1 over ≡ false → misses s.1 ≡ 64)
    × (misses s.1 ≤ 64)
    × AreTried (if s.0.0 then s.0.1 ∷ over else over) l

-- Entries of these pairs, in this order: by the pass, with ascending numbers, none below what it had seen.
pub record AreEntriesOf (old : Standing) (pairs : List Pair) (entries : List Entry) : Type 0 where
  pub pairs_are : map line_of entries ≡ pairs
  pub by_pass : All (λ e. e.by ≡ old.first) entries
  pub ascending : AllPairs (λ d e. d.number < e.number) entries
  pub later : All (λ e. old.seen ≤ e.number) entries

-- The pass made these entries, took these steps, and saw what it saw; else it is as before.
pub record HasMade (old new : Standing) (entries : List Entry) (steps : List Act) : Type 0 where
  pub new_is : new ≡ record old {
    left = old.left - length entries;
    seen = new.seen;
    made = old.made ++ entries;
    trail = old.trail ++ steps;
  }
  pub later : old.seen ≤ new.seen
  pub seen_all : All (λ e. e.number < new.seen) entries

-- The work is done: each pair of the list was made or is left over, once; what shares a point with an earlier one left
-- over is left over. The steps are those of the pairs one after another, and for each that is left over and shares no
-- point with an earlier such one 64 claims failed, so that all in all as many failed. A pass that owns all parts leaves
-- nothing over.
pub record IsWorked (list left : List Pair) (old new : Standing) : Type 0 where
  pub marked : List Marked
  pub parted : map (λ x. x.1) marked ≡ list
  pub left_is : left ≡ left_over marked
  pub later : LeavesLater marked
  pub entries : List Entry
  pub made : AreEntriesOf old (pairs_done marked) entries
  pub steps : List Act
  pub pass : HasMade old new entries steps
  pub stretches : List Stretch
  pub pairs_are : map (λ s. s.0) stretches ≡ marked
  pub steps_are : steps ≡ flat_map (λ s. s.1) stretches
  pub tried : AreTried [] stretches
  pub tries : 64 * first_ones [] left ≤ misses steps
  pub alone : old.first ≡ 0 → old.parts ≡ old.table.parts → left ≡ []

-- The work broke off: some pairs of the list were made, each once, in their order.
pub record IsBroken (list : List Pair) (old new : Standing) : Type 0 where
  pub marked : List Marked
  pub parted : map (λ x. x.1) marked ≡ list
  pub entries : List Entry
  pub made : AreEntriesOf old (pairs_done marked) entries
  pub steps : List Act
  pub pass : HasMade old new entries steps
