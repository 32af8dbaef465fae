-- Lines that are cut into segments as they come.
use Rattle.std.specs.Prelude.{◌≡◌, ℕ, ◌==◌, ◌&&◌, Bool, true, List, [], ◌∷◌, ◌++◌, map}
use Rattle.std.specs.List.{list_any}
use Rattle.std.specs.HashSet.{HashSet, contains}
use Rattle.point_order.specs.Sets.{is_among}
use Rattle.edit_history.specs.Edits.{edit_points, is_move}
use Rattle.plain_laws.specs.Running.{Pair, dealt_out, segments}
use Rattle.edit_lists.specs.declared.cutting.Marks.{Marks}
use Rattle.edit_lists.specs.declared.cutting.Cutter.{Cutter}
use Rattle.edit_lists.specs.Dealing.{lists_of}

-- a set of keys has a point
abbrev pub has_key : {S : Type 0} → HashSet ℕ S → ℕ → Bool
has_key keys p = contains (λ a b. a == b) keys p

-- the line has the point, as one of its places
abbrev pub has_place : ℕ → Pair → Bool
has_place p line = is_among p (edit_points line.1)

-- One set has the points of the lines of a segment that move, the other one, where it says so, those of all its lines.
pub record AreMarks (lines : List Pair) (marks : Marks) : Type 0 where
  pub moved : (p : ℕ) → has_key marks.moved p ≡ list_any (λ line. is_move line.1 && has_place p line) lines
  pub seen : marks.are_seen ≡ true → (p : ℕ) → has_key marks.seen p ≡ list_any (has_place p) lines

-- They are, and the other set says so.
pub record HasSeen (lines : List Pair) (marks : Marks) : Type 0 where
  pub are_marks : AreMarks lines marks
  pub are_seen : marks.are_seen ≡ true

-- The lines are cut and dealt to n workers: the segments in front of the present one, and the present one, with its
-- marks.
pub record AreCut (n : ℕ) (lines : List Pair) (cutter : Cutter) : Type 0 where
  pub front : List (List Pair)
  pub present : List Pair
  pub segments_are : segments lines ≡ front ++ present ∷ []
  pub front_is : map lists_of cutter.finished.items ≡ map (dealt_out n) front
  pub present_is : lists_of cutter.present ≡ dealt_out n present
  pub marks : AreMarks present cutter.marks
