-- Laws of the opening four and of histories.
use Rattle.std.specs.Prelude.{◌≡◌, ◌≢◌, ℕ, ◌<◌, false, List, [], ◌∷◌, ◌++◌, length, IfSome, is_some, All, slice_index}
use Rattle.point_order.specs.Coordinates.{IsKey}
use Rattle.point_order.specs.Orientation.{is_flat}
use Rattle.point_order.specs.Solid.{is_solid}
use Rattle.point_order.specs.Sets.{IsAscending, ascending}
use Rattle.edit_history.specs.declared.history.Edit.{Edit}
use Rattle.edit_history.specs.declared.history.Entry.{Entry}
use Rattle.edit_history.specs.Edits.{reply_to, after}
use Rattle.edit_history.specs.Opening.{opening_four, FourPlaces}
use Rattle.edit_history.specs.Histories.{IsLegal, replay}
use Rattle.edit_history.specs.OneThread.{one_thread, Keeps}

-- points have an opening four exactly where they are solid
abbrev pub OpeningLaw : Type 0
OpeningLaw = (points : List ℕ) → All IsKey points → is_some (opening_four points) ≡ is_solid points

-- no earlier place has the same point
abbrev pub IsFirstPlace : List ℕ → ℕ → Type 0
IsFirstPlace points i = (m : ℕ) → m < i → slice_index points m ≢ slice_index points i

-- the four are independent points of the list, each at its first place
pub record AreIndependent (points : List ℕ) (four : FourPlaces) : Type 0 where
  pub ascending : (four.first < four.second) × (four.second < four.third) × (four.third < four.fourth)
  pub within : four.fourth < length points
  pub independent :
      is_flat (slice_index points four.first) (slice_index points four.second)
      (slice_index points four.third) (slice_index points four.fourth) ≡ false
  pub first_places :
      IsFirstPlace points four.first × IsFirstPlace points four.second
      × IsFirstPlace points four.third × IsFirstPlace points four.fourth

-- so is an opening four
abbrev pub FourLaw : Type 0
FourLaw = (points : List ℕ) → IfSome (opening_four points) (AreIndependent points)

-- solidity is of the set: order and repetition do not matter
abbrev pub SetLaw : Type 0
SetLaw = (points : List ℕ) → is_solid (ascending points) ≡ is_solid points

-- a history with one entry more leaves what its edit makes of the points before
abbrev pub MoreLeaves : Type 0
MoreLeaves = (h : List Entry) (e : Entry) → replay (h ++ e ∷ []) ≡ after (replay h) e.edit

-- it is legal where the entry has the next number, and the reply of the points before
abbrev pub MoreIsLegal : Type 0
MoreIsLegal =
    (h : List Entry) (e : Entry) → IsLegal h → e.number ≡ length h → e.reply ≡ reply_to (replay h) e.edit →
    IsLegal (h ++ e ∷ [])

-- the history of one thread is legal
abbrev pub LegalLaw : Type 0
LegalLaw = (points : List ℕ) (edits : List Edit) → IsLegal (one_thread points edits)

-- of point lines alone it leaves their set
abbrev pub ReplayLaw : Type 0
ReplayLaw = (points : List ℕ) → IfSome (opening_four points) (λ _. replay (one_thread points []) ≡ ascending points)

-- it keeps the file, for one worker
abbrev pub KeepsLaw : Type 0
KeepsLaw =
    (points : List ℕ) (edits : List Edit) →
    IfSome (opening_four points) (λ _. Keeps points edits 1 (one_thread points edits))

-- a history leaves an ascending list, so a set
abbrev pub LeavesSet : Type 0
LeavesSet = (h : List Entry) → IsAscending (replay h)
