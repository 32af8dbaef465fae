-- The laws of the board, as the functions of the crate promise them.
use Rattle.std.specs.Prelude.{◌≡◌, ℕ, ◌+◌, ◌^◌, ◌<◌, ◌≤◌, true, List, [], ◌∷◌, length}
use Rattle.point_order.specs.Solid.{is_solid}
use Rattle.edit_history.specs.declared.history.Entry.{Entry}
use Rattle.edit_history.specs.Histories.{replay, IsLegal}
use Rattle.del_laws.specs.Keys.{AreKeys}
use Rattle.bucket_grid.specs.Grids.{is_grid_size}
use Rattle.claim_rule.specs.declared.event.Event.{Event}
use Rattle.claim_rule.specs.declared.event.Played.{Played}
use Rattle.claim_rule.specs.Boards.{BoardState}
use Rattle.claim_rule.specs.Opening.{opening_board}
use Rattle.claim_rule.specs.Good.{StartsWith, IsGood}
use Rattle.claim_rule.specs.Events.{Next, history_after, HasKey}

-- ---- the beginning

-- The opening board of a legal history that leaves a solid set is good.
abbrev pub OpeningIsGood : Type 0
OpeningIsGood =
    (g parts allowance : ℕ) (h : List Entry) →
    is_grid_size g ≡ true → 0 < parts → parts ≤ 64 → length h + allowance ≤ 2 ^ 32 →
    IsLegal h → AreKeys (replay h) → is_solid (replay h) ≡ true → IsGood (opening_board g parts allowance h) h

-- ---- events

-- Every event keeps the board good, and the history is as before, or has the entry of the commit besides.
abbrev pub EventsKeepGood : Type 0
EventsKeepGood =
    (h : List Entry) (s : BoardState) (event : Event) (answer : Played) (s' : BoardState) →
    IsGood s h → HasKey event → Next h s event answer s' → IsGood s' (history_after h s event answer)

-- An event answers one thing, and leaves one board.
abbrev pub NextIsOne : Type 0
NextIsOne =
    (h : List Entry) (s : BoardState) (event : Event) (a a' : Played) (s' s'' : BoardState) →
    Next h s event a s' → Next h s event a' s'' → (a ≡ a') × (s' ≡ s'')

-- A board is good with one history.
abbrev pub OneHistory : Type 0
OneHistory = (s : BoardState) (h k : List Entry) → IsGood s h → IsGood s k → h ≡ k

-- ---- runs

-- the board after some events, each with its answer
abbrev pub Runs : BoardState → List Event → BoardState → Type 0
Runs s [] s' = s' ≡ s
Runs s (event ∷ events) s' =
    HasKey event
    × ((answer : Played) × (m : BoardState)
    × ((h : List Entry) → IsGood s h → Next h s event answer m) × Runs m events s')

-- In any run of a good board the history before is the front of the history after.
abbrev pub HistoryGrows : Type 0
HistoryGrows =
    (s s' : BoardState) (events : List Event) (h : List Entry) → IsGood s h → Runs s events s' →
    (k : List Entry) × IsGood s' k × StartsWith k h
