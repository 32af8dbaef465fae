-- A round: several workers make lines side by side, each in a part of its own.
use Rattle.std.specs.Prelude.{◌≡◌, ◌≢◌, ◌↔◌, ℕ, ◌+◌, ◌<◌, true, false, List, [], ◌∷◌, AllPairs}
use Rattle.std.specs.List.{flat_map}
use Rattle.point_order.specs.declared.cell.Cell.{Cell}
use Rattle.point_order.specs.Orientation.{is_flat}
use Rattle.point_order.specs.Sets.{IsIn}
use Rattle.edit_history.specs.declared.history.Edit.TheVariants.{Move, Take}
use Rattle.edit_history.specs.declared.history.Entry.{Entry}
use Rattle.edit_history.specs.Edits.{share_point}
use Rattle.part_edits.specs.Made.{AgreeOn, AreMade, Made, ShareNone}

-- what one worker made: the lines, with what was known to it, and the cells of its part before and after
pub record Work : Type 0 where
  pub known : List ℕ
  pub made : List Made
  pub old : List Cell
  pub new : List Cell

-- all lines that were made, one worker's behind the other's
abbrev pub all_made : List Work → List Made
all_made works = flat_map (λ w. w.made) works

-- the cells of all parts before
abbrev pub all_old : List Work → List Cell
all_old works = flat_map (λ w. w.old) works

-- and after
abbrev pub all_new : List Work → List Cell
all_new works = flat_map (λ w. w.new) works

-- each worker made its lines in its part, knowing of s what it has to
abbrev pub AreWorks : List ℕ → List Work → Type 0
AreWorks s works = (w : Work) → IsIn w works → AreMade w.known w.made w.old w.new × AgreeOn w.known s w.made

-- no point stands in the lines of two workers
abbrev pub AreApart : List Work → Type 0
AreApart works = AllPairs (λ v w. ShareNone v.made w.made) works

-- ---- points that stay, so that nothing is flat

-- four independent points of the set, of which no line takes one, or moves it elsewhere
pub record AreWitnesses (s : List ℕ) (made : List Made) (four : List ℕ) : Type 0 where
  pub a : ℕ
  pub b : ℕ
  pub c : ℕ
  pub d : ℕ
  pub four_are : four ≡ a ∷ b ∷ c ∷ d ∷ []
  pub independent : is_flat a b c d ≡ false
  pub there : (q : ℕ) → IsIn q four → IsIn q s
  pub untaken : (m : Made) (q : ℕ) → IsIn m made → IsIn q four → m.0.1 ≢ Take q
  pub unmoved : (m : Made) (q b : ℕ) → IsIn m made → IsIn q four → m.0.1 ≢ Move q b

-- ---- in the order of the tags

-- the same lines with the same replies, each of another tag, in the order of their tags
pub record AreInOrder (made sorted : List Made) : Type 0 where
  pub same : (m : Made) → IsIn m made ↔ IsIn m sorted
  pub order : AllPairs (λ x y. x.0.0 < y.0.0) sorted

-- those that share a point stand in the order of their tags
abbrev pub SharingAreInOrder : List Made → Type 0
SharingAreInOrder made = AllPairs (λ x y. share_point x.0.1 y.0.1 ≡ true → x.0.0 < y.0.0) made

-- ---- as entries of a history

-- the line and the reply of an entry
abbrev pub made_of : Entry → Made
made_of e = ((e.tag, e.edit), e.reply)

-- the entries are numbered from n on
abbrev pub AreNumberedFrom : ℕ → List Entry → Type 0
AreNumberedFrom n [] = Unit {0}
AreNumberedFrom n (e ∷ entries) = (e.number ≡ n) × AreNumberedFrom (n + 1) entries
