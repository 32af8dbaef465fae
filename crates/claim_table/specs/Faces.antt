-- The running table seen as a board.
use Rattle.std.specs.Prelude.{ℕ, ◌*◌, ◌==◌, ltb, List, [], ◌∷◌, ◌++◌, map, replicate, drop, slice_index_or, Option}
use Rattle.std.specs.Prelude.{None, Some, if◌then◌else◌}
use Rattle.std.specs.List.{range_with_len}
use Rattle.std.specs.Option.{option_map_or}
use mathlib.Core.Option as maybe
use mathlib.Core.Option.{none, some}
use Rattle.atomic_table.specs.Table.{State}
use Rattle.edit_history.specs.declared.history.Entry.{Entry}
use Rattle.cell_store.specs.Buckets.{BucketContent}
use Rattle.claim_rule.specs.Boards.{BoardState}
use Rattle.claim_rule.specs.Boards as board
use Rattle.claim_table.specs.declared.view.Key.{Key}
use Rattle.claim_table.specs.declared.view.View.{View}
use Rattle.claim_table.specs.declared.view.Child.{Child}

-- how many buckets the table has
abbrev pub buckets_of : Key → ℕ
buckets_of k = k.grid * k.grid * k.grid

-- the entries with which it began
abbrev pub opening_of : Key → List Entry
opening_of k = k.mesh.value.history

-- a pass, as a board has it
abbrev pub plain : View → board.View
plain v = record { first = v.first; parts = v.parts; left = v.left; seen = v.seen; since = v.since; held = v.held }

-- and one that has no seat yet: it was made at what it has seen, and holds nothing
abbrev pub plain_child : ℕ → Child → board.View
plain_child count c = record {
  first = c.first;
  parts = c.parts;
  left = c.left;
  seen = c.seen;
  since = c.seen;
  held = replicate count None;
}

-- the live passes of a seat: its own, where it has a part, and the one that was split off from it and has no seat
abbrev pub passes_of : ℕ → View → List board.View
passes_of count v =
    (if ltb 0 v.parts then plain v ∷ [] else []) ++ option_map_or (λ c. plain_child count c ∷ []) v.child []

-- those of all seats
abbrev pub passes_in : ℕ → List View → List board.View
passes_in count [] = []
passes_in count (v ∷ views) = passes_of count v ++ passes_in count views

-- the one with a number, if there is one
abbrev pub view_numbered : ℕ → List board.View → Option board.View
view_numbered n [] = None
view_numbered n (v ∷ views) = if v.first == n then Some v else view_numbered n views

-- what a slot at home has
abbrev pub at_home : maybe.Option (Option BucketContent) → Option BucketContent
at_home none = None
at_home (some o) = o

-- the table as a board
abbrev pub board_of : Key → State (Option BucketContent) View → BoardState
board_of k s = record {
  grid = k.grid;
  parts = k.parts;
  most = k.most;
  opening = opening_of k;
  ticket = slice_index_or s.words 0 0;
  words = drop 1 s.words;
  homes = map at_home s.homes;
  views = map (λ n. view_numbered n (passes_in (buckets_of k) s.views)) (range_with_len 0 k.parts);
}
