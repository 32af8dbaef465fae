-- The points of a reading are those of the mesh, once no more are due.
use Rattle.std.proofs.Common.{◌≡◌, ℕ, zero, suc, List, [], ◌∷◌, ◌++◌, true, Ok, refl, sym, ap, subst, ◌∙◌}
use Rattle.std.specs.Prelude.{Option, IfSome}
use Rattle.std.specs.Borrow.{Bor}
use Rattle.text_readings.specs.Readings.{lines_of, AllLead}
use Rattle.list_laws.specs.Lists.{IsAscending}
use Rattle.list_laws.proofs.Cited.{ascend_more, if_some}
use Rattle.mesh_reader.specs.declared.counted.Counted.{Counted}
use Rattle.mesh_reader.specs.declared.place.Part.{Part}
use Rattle.mesh_reader.specs.declared.place.Part.TheVariants.{Replies, Points, Cells, Hull}
use Rattle.mesh_reader.specs.declared.place.Due.{Due}
use Rattle.mesh_reader.specs.declared.place.Due.TheVariants.{Title, Head, Body, Last, Nothing}
use Rattle.mesh_reader.specs.declared.pieces.State.{State}
use Rattle.mesh_reader.specs.declared.pieces.State.TheVariants.{Right}
use Rattle.mesh_reader.specs.Grammar.{IsMeshText, IsTaken, Leads, LeadsOn, MeshParts, Reached, at_end, lines_due}
use Rattle.mesh_reader.specs.LinesLeft.{HasAllPoints, IsBehindPoints}
use Rattle.mesh_reader.specs.Judging.{ascends, reached, transition}
use Rattle.mesh_reader.specs.Pieces.{HasTaken, comes_to}
use Rattle.mesh_reader.proofs.Corners.{ascends_says, says_ascends}
use Rattle.mesh_reader.proofs.Decided.{step_sound}
use Rattle.mesh_reader.proofs.Judged.{leads_all, mesh_judged}
use Rattle.mesh_reader.proofs.Order.{all_below}

-- none are due behind a list that stands behind them
due_behind : (p : Part) (n : ℕ) → IsBehindPoints p → HasAllPoints (lines_due p n)
due_behind Replies n h = absurd h
due_behind Points n h = absurd h
due_behind Cells zero h = tt
due_behind Cells (suc n) h = tt
due_behind Hull zero h = tt
due_behind Hull (suc n) h = tt

-- and none are taken there
taken_points : (p : Part) (f : MeshParts) (line : List ℕ) (g : MeshParts) → IsBehindPoints p → IsTaken p f line g
    → g.points ≡ f.points
taken_points Replies f line g b h = absurd b
taken_points Points f line g b h = absurd b
taken_points Cells f line g b h = ap (λ (m : MeshParts). m.points) h.3
taken_points Hull f line g b h = ap (λ (m : MeshParts). m.points) h.3

-- where a reading has all points
pub record HasThem (f : MeshParts) (r : Reached) : Type 0 where
  pub due : HasAllPoints r.due
  pub same : r.taken.points ≡ f.points

-- a line that leads on from there leaves them
lead_points : (due : Due) (f : MeshParts) (line : List ℕ) (next : Reached) → HasAllPoints due
    → Leads due f line next → HasThem f next
lead_points Title f line next a h = absurd a
lead_points (Head p) f line next a h =
    subst (λ (r : Reached). HasThem f r) (sym h.2) (record { due = due_behind p h.0 a; same = refl })
lead_points (Body p n) f line next a h =
    subst (λ (r : Reached). HasThem f r) (sym h.2)
    (record { due = due_behind p n a; same = taken_points p f line h.0 a h.1 })
lead_points Last f line next a h =
    subst (λ (r : Reached). HasThem f r) (sym h.1) (record { due = tt; same = refl })
lead_points Nothing f line next a h = absurd h

-- and so do lines
all_points : (lines : List (List ℕ)) (a b : Reached) → HasAllPoints a.due → AllLead LeadsOn lines a b
    → b.taken.points ≡ a.taken.points
all_points [] a b d h = ap (λ (r : Reached). r.taken.points) (sym h)
all_points (line ∷ lines) a b d h =
    let k = lead_points a.due a.taken line h.0 d h.1 in all_points lines h.0 b k.due h.2 ∙ k.same

-- ---- in order

-- points that are taken ascend
taken_ascend : (p : Part) (f : MeshParts) (line : List ℕ) (g : MeshParts) → IsTaken p f line g → IsAscending f.points
    → IsAscending g.points
taken_ascend Replies f line g h o = subst (λ (m : MeshParts). IsAscending m.points) (sym h.2) o
taken_ascend Points f line g h o =
    subst (λ (m : MeshParts). IsAscending m.points) (sym h.3)
    (ascend_more f.points (f.points ++ h.0 ∷ []) h.0 refl o (all_below f.points h.0 o h.2))
taken_ascend Cells f line g h o = subst (λ (m : MeshParts). IsAscending m.points) (sym h.3) o
taken_ascend Hull f line g h o = subst (λ (m : MeshParts). IsAscending m.points) (sym h.3) o

-- so they do behind a line that leads on
lead_ascends : (due : Due) (f : MeshParts) (line : List ℕ) (b : Reached) → Leads due f line b → IsAscending f.points
    → IsAscending b.taken.points
lead_ascends Title f line b h o = subst (λ (r : Reached). IsAscending r.taken.points) (sym h.1) o
lead_ascends (Head p) f line b h o = subst (λ (r : Reached). IsAscending r.taken.points) (sym h.2) o
lead_ascends (Body p n) f line b h o =
    subst (λ (r : Reached). IsAscending r.taken.points) (sym h.2) (taken_ascend p f line h.0 h.1 o)
lead_ascends Last f line b h o = subst (λ (r : Reached). IsAscending r.taken.points) (sym h.1) o
lead_ascends Nothing f line b h o = absurd h

-- and behind one that is judged
pub step_ascends : (a : Reached) (line : List ℕ) (b : Reached) → transition a line ≡ Ok b
    → ascends a.taken.points ≡ true
    → ascends b.taken.points ≡ true
step_ascends a line b h o =
    says_ascends b.taken.points
    (lead_ascends a.due a.taken line b (step_sound a line b h) (ascends_says a.taken.points o))

-- ---- what a reader gives

-- what the reader of lines gives
abbrev pub AreThose : Counted → Option (Bor (List ℕ)) → Type 0
AreThose counted given = IfSome given (λ x. (x.now ≡ counted.reader.file.points.items)
    × HasAllPoints counted.reader.due)

-- it ascends
pub given_ascend : (counted : Counted) (given : Option (Bor (List ℕ))) → AreThose counted given
    → IfSome given (λ x. IsAscending x.now)
given_ascend counted given h =
    if_some (λ x. (x.now ≡ counted.reader.file.points.items) × HasAllPoints counted.reader.due)
    (λ x. IsAscending x.now) given
    (λ x k. subst IsAscending (sym k.0) (ascends_says counted.reader.file.points.items counted.ascending)) h

-- the points of a reader that has them all are those of each mesh whose text goes on from what it has taken
those_points : (state : State) (begun bytes : List ℕ) (counted : Counted) → HasTaken state begun bytes
    → state ≡ Right counted → HasAllPoints counted.reader.due → (more : List ℕ) (mesh : MeshParts)
    → IsMeshText (bytes ++ more) mesh → mesh.points ≡ counted.reader.file.points.items
those_points state begun bytes counted h s d more mesh t =
    let lines = lines_of (begun ++ more) in
    let here = ap (λ (v : State). comes_to v lines) (sym s) in
    all_points lines (reached counted.reader) (at_end mesh) d
    (leads_all counted.number (reached counted.reader) (at_end mesh) lines
    (here ∙ h.same more ∙ mesh_judged (bytes ++ more) mesh t))

-- and those are given
pub given_points : (state : State) (begun bytes : List ℕ) (counted : Counted) → HasTaken state begun bytes
    → state ≡ Right counted → (given : Option (Bor (List ℕ))) → AreThose counted given
    → IfSome given (λ x. (more : List ℕ) (mesh : MeshParts) → IsMeshText (bytes ++ more) mesh → mesh.points ≡ x.now)
given_points state begun bytes counted h s given g =
    if_some (λ x. (x.now ≡ counted.reader.file.points.items) × HasAllPoints counted.reader.due)
    (λ x. (more : List ℕ) (mesh : MeshParts) → IsMeshText (bytes ++ more) mesh → mesh.points ≡ x.now) given
    (λ x k more mesh text. those_points state begun bytes counted h s k.1 more mesh text ∙ sym k.0) g
