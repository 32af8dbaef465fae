-- Commits of two passes commute.
use Rattle.std.specs.Prelude.{◌≡◌, ◌≢◌, ℕ, ◌+◌, List, [], ◌∷◌, ◌++◌, map, Option}
use Rattle.std.specs.Option.{option_map}
use Rattle.point_order.specs.declared.cell.Cell.{Cell}
use Rattle.edit_history.specs.declared.history.Edit.{Edit}
use Rattle.edit_history.specs.declared.history.Entry.{Entry}
use Rattle.edit_history.specs.Edits.{HasKeys}
use Rattle.cell_store.specs.Buckets.{BucketContent}
use Rattle.claim_rule.specs.declared.event.Event.TheVariants.{Commit}
use Rattle.claim_rule.specs.declared.event.Played.TheVariants.{Done}
use Rattle.claim_rule.specs.Boards.{View, BoardState}
use Rattle.claim_rule.specs.Good.{IsGood}
use Rattle.claim_rule.specs.Events.{Next, entry_after}

-- the points and the cells of a content
abbrev pub Figure : Type 0
Figure = List ℕ × List Cell

abbrev pub figure : BucketContent → Figure
figure c = (c.points, c.cells)

-- those of each bucket, if it is there
abbrev pub figures : List (Option BucketContent) → List (Option Figure)
figures places = map (option_map figure) places

-- a pass's number, and those of what it holds
abbrev pub figures_of : View → ℕ × List (Option Figure)
figures_of v = (v.first, figures v.held)

-- The two boards have the same points and cells in every bucket, at home and in each pass's hands.
pub record AreAlike (s t : BoardState) : Type 0 where
  pub homes : figures s.homes ≡ figures t.homes
  pub words : s.words ≡ t.words
  pub held : map (option_map figures_of) s.views ≡ map (option_map figures_of) t.views

-- Two commits, the first by n and the second by m, come in the other order too: both are done, each with the reply that
-- it had, the numbers of their entries are exchanged, and the boards are alike.
pub record ComeSwapped (h : List Entry) (s : BoardState) (n m tag tag' : ℕ) (edit edit' : Edit)
    (last : BoardState) : Type 0 where
  pub middle' : BoardState
  pub last' : BoardState
  pub first' : Next h s (Commit m tag' edit') Done middle'
  pub second' : Next (h ++ entry_after h s.ticket m tag' edit' ∷ []) middle' (Commit n tag edit) Done last'
  pub reply :
      (entry_after h s.ticket n tag edit).reply
      ≡ (entry_after (h ++ entry_after h s.ticket m tag' edit' ∷ []) middle'.ticket n tag edit).reply
  pub reply' :
      (entry_after (h ++ entry_after h s.ticket n tag edit ∷ []) (s.ticket + 1) m tag' edit').reply
      ≡ (entry_after h s.ticket m tag' edit').reply
  pub ticket : middle'.ticket ≡ s.ticket + 1
  pub alike : AreAlike last last'

-- In a good board, where two commits of two passes are done one after the other, they come in the other order too.
abbrev pub BoardCommitsCommute : Type 0
BoardCommitsCommute =
    (h : List Entry) (s : BoardState) (n m tag tag' : ℕ) (edit edit' : Edit) (middle last : BoardState) →
    IsGood s h → HasKeys edit → HasKeys edit' → n ≢ m →
    Next h s (Commit n tag edit) Done middle →
    Next (h ++ entry_after h s.ticket n tag edit ∷ []) middle (Commit m tag' edit') Done last →
    ComeSwapped h s n m tag tag' edit edit' last
