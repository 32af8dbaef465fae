-- The laws of edits that are made in parts of a complex.
use Rattle.std.specs.Prelude.{◌≡◌, ℕ, ◌<◌, true, List, ◌++◌, length, map, AllPairs, Option}
use Rattle.point_order.specs.declared.cell.Cell.{Cell}
use Rattle.point_order.specs.Sets.{IsAscending, IsIn}
use Rattle.edit_history.specs.declared.history.Entry.{Entry}
use Rattle.edit_history.specs.declared.history.Reply.{Reply}
use Rattle.edit_history.specs.Edits.{share_point}
use Rattle.edit_history.specs.Histories.{IsLegal, replay}
use Rattle.part_edits.specs.Lists.{KeepOrder, left_in, made_in}
use Rattle.cell_slots.specs.Clouds.{AreCellsOf}
use Rattle.part_edits.specs.Made.{AreAnswered, AreMade, Line, Made, ShareNone, known_after, set_after}
use Rattle.part_edits.specs.Rounds.{AreApart, AreInOrder, AreNumberedFrom, AreWitnesses, AreWorks, SharingAreInOrder}
use Rattle.part_edits.specs.Rounds.{Work, all_made, all_new, all_old, made_of}

-- in one part some lines are made, and then others
abbrev pub MadeOneAfterAnother : Type 0
MadeOneAfterAnother =
    (known : List ℕ) (a b : List Made) (old mid new : List Cell) → AreMade known a old mid →
    AreMade (known_after known a) b mid new → AreMade known (a ++ b) old new

-- in two parts lines that share no point are made side by side
abbrev pub MadeSideBySide : Type 0
MadeSideBySide =
    (known : List ℕ) (a b : List Made) (old new old' new' : List Cell) → AreMade known a old new →
    AreMade known b old' new' → ShareNone a b → AreMade known (a ++ b) (old ++ old') (new ++ new')

-- The parts of several workers and a rest are the cells of a set. Where no point stands in the lines of two workers,
-- each line has the reply of the set that those before it leave, one worker's lines behind the other's, and the parts
-- after them and the rest are the cells of the set that all leave.
abbrev pub WorkersCompose : Type 0
WorkersCompose =
    (s : List ℕ) (works : List Work) (rest : List Cell) → AreCellsOf s (all_old works ++ rest) → AreWorks s works →
    AreApart works →
    AreAnswered s (all_made works) × AreCellsOf (set_after s (all_made works)) (all_new works ++ rest)

-- Lines of which those that share a point stand in the order of their tags have the same replies in the order of their
-- tags, and leave the same set, where four independent points stay.
abbrev pub OrderedByTags : Type 0
OrderedByTags =
    (s : List ℕ) (made sorted : List Made) (four : List ℕ) → IsAscending s → AreWitnesses s made four →
    SharingAreInOrder made → AreInOrder made sorted → AreAnswered s made →
    AreAnswered s sorted × (set_after s sorted ≡ set_after s made)

-- So after a round the history may go on with the lines of all workers in the order of their tags, with the replies
-- that the workers gave, and the parts and the rest are the cells of the points that it leaves.
abbrev pub RoundIsLegal : Type 0
RoundIsLegal =
    (h entries : List Entry) (works : List Work) (rest : List Cell) (four : List ℕ) → IsLegal h →
    AreCellsOf (replay h) (all_old works ++ rest) → AreWorks (replay h) works → AreApart works →
    ((w : Work) → IsIn w works → SharingAreInOrder w.made) → AreWitnesses (replay h) (all_made works) four →
    AreInOrder (all_made works) (map made_of entries) → AreNumberedFrom (length h) entries →
    IsLegal (h ++ entries) × AreCellsOf (replay (h ++ entries)) (all_new works ++ rest)

-- Lines in the order of their tags are worked off: those that were made are in that order, and one that was set aside
-- has a greater tag than each that was made and shares a point with it. So it may be made in a later round.
abbrev pub LeftIsLater : Type 0
LeftIsLater =
    (lines : List Line) (answers : List (Option Reply)) → length answers ≡ length lines →
    AllPairs (λ x y. x.0 < y.0) lines → KeepOrder lines answers →
    SharingAreInOrder (made_in lines answers)
    × ((x : Made) (y : Line) → IsIn x (made_in lines answers) → IsIn y (left_in lines answers) →
    share_point y.1 x.0.1 ≡ true → x.0.0 < y.0)
