-- What goes and comes in an exchange, and where.
use Rattle.std.specs.Prelude.{◌≡◌, ◌⊎◌, ◌↔◌, ◌%◌, ◌<◌, ◌≤◌, ℕ, Bool, true, false, List, [], ◌∷◌, ◌++◌, length, Option}
use Rattle.std.specs.Prelude.{Some, slice_index_or}
use Rattle.point_order.specs.declared.cell.Cell.{Cell}
use Rattle.point_order.specs.Facets.{points_of}
use Rattle.point_order.specs.Sets.{IsIn}
use Rattle.cell_stars.specs.Places.{Placed, AreFiled, IsStarred, lies_in, part_of, touches_in, star_at, at_slot}
use Rattle.cell_stars.specs.Plans.{StarsAfter}
use Rattle.cell_stars.specs.Swaps.{cell_rest}

-- a list is the star of some vertex of the cell in the bucket
pub record IsStarFor (b : Placed) (c : Cell) (star : List ℕ) : Type 0 where
  pub vertex : ℕ
  pub has : IsIn vertex (points_of c)
  pub inside : lies_in b.place vertex ≡ true
  pub places : (i : ℕ) → (IsIn i star → IsStarred b.keys b.stars vertex i)
      × (IsStarred b.keys b.stars vertex i → IsIn i star)

-- a place that is freed has a gone cell that touches the bucket
pub record IsFreed (b : Placed) (gone : List Cell) (i : ℕ) : Type 0 where
  pub cell : Cell
  pub there : at_slot b.slots i ≡ Some cell
  pub goes : IsIn cell gone
  pub touches : touches_in b.place cell ≡ true

-- the places of all gone cells
pub record AreFreed (b : Placed) (gone : List Cell) (freed : List ℕ) : Type 0 where
  pub each : (i : ℕ) → IsIn i freed → IsFreed b gone i
  pub all : (i : ℕ) (c : Cell) → at_slot b.slots i ≡ Some c → IsIn c gone → touches_in b.place c ≡ true → IsIn i freed

-- the cell stands at a place that is not freed
pub record StandsYet (b : Placed) (freed : List ℕ) (c : Cell) : Type 0 where
  pub place : ℕ
  pub there : at_slot b.slots place ≡ Some c
  pub kept : IsIn place freed → ⊥

-- a fresh cell that touches the bucket and does not stay there
pub record IsComing (b : Placed) (freed : List ℕ) (fresh : List Cell) (c : Cell) : Type 0 where
  pub comes : IsIn c fresh
  pub touches : touches_in b.place c ≡ true
  pub new : (i : ℕ) → at_slot b.slots i ≡ Some c → IsIn i freed

-- all of them
pub record AreComing (b : Placed) (freed : List ℕ) (fresh coming : List Cell) : Type 0 where
  pub each : (c : Cell) → IsIn c coming → IsComing b freed fresh c
  pub all : (c : Cell) → IsIn c fresh → touches_in b.place c ≡ true → IsIn c coming ⊎ StandsYet b freed c

-- no fresh cell that touches the bucket stands there
abbrev pub AreNew : Placed → List Cell → Type 0
AreNew b fresh = (c : Cell) → IsIn c fresh → touches_in b.place c ≡ true → (i : ℕ) → at_slot b.slots i ≡ Some c → ⊥

-- a place for a cell: one that is freed, or has none
abbrev pub IsVacant : List (Option Cell) → List ℕ → ℕ → Type 0
IsVacant slots freed i = (c : Cell) → at_slot slots i ≡ Some c → IsIn i freed

-- a vertex in the bucket of a cell that goes or comes
pub record AreVerticesAt (b : Placed) (freed : List ℕ) (placed : List (ℕ × Cell)) (vertices : List ℕ) : Type 0 where
  pub inside : (p : ℕ) → IsIn p vertices → lies_in b.place p ≡ true
  pub gone : (i p : ℕ) (c : Cell) → IsIn i freed → at_slot b.slots i ≡ Some c → IsIn p (points_of c) →
      lies_in b.place p ≡ true → IsIn p vertices
  pub fresh : (i p : ℕ) (c : Cell) → IsIn (i, c) placed → IsIn p (points_of c) → lies_in b.place p ≡ true →
      IsIn p vertices

-- the number stands beside the vertex, and the star with it is the vertex's own and has a place
pub record IsOwnNumber (b : Placed) (p n : ℕ) : Type 0 where
  pub key : IsIn (p, n) (part_of b.keys p)
  pub owned : (star_at b.stars n).0 ≡ p
  pub place : ℕ
  pub filled : IsIn place (star_at b.stars n).1

-- no place is in the star with the number
abbrev pub IsSpare : List (ℕ × List ℕ) → ℕ → Type 0
IsSpare stars n = (i : ℕ) → IsIn i (star_at stars n).1 → ⊥

-- it is the vertex's own, or spare where the vertex has no star
abbrev pub IsNumberFor : Placed → ℕ → ℕ → Type 0
IsNumberFor b p n = IsOwnNumber b p n ⊎ (IsSpare b.stars n × ((i : ℕ) → IsStarred b.keys b.stars p i → ⊥))

-- One more vertex has a number: its own; or, where it has no star, a spare one that is not before the least, and is
-- before the least then.
pub record IsTurnAdded (b : Placed) (p least more : ℕ) (old new : List (ℕ × ℕ)) : Type 0 where
  pub number : ℕ
  pub added : new ≡ old ++ (number, p) ∷ []
  pub rises : least ≤ more
  pub held : IsOwnNumber b p number ⊎ ((least ≤ number) × (number < more) × IsSpare b.stars number
      × ((i : ℕ) → IsStarred b.keys b.stars p i → ⊥))

-- The numbers of the stars of these vertices after an exchange: one for each, which had its star or none.
pub record AreTurnsFor (b : Placed) (vertices : List ℕ) (turns : List (ℕ × ℕ)) : Type 0 where
  pub each : (n p : ℕ) → IsIn (n, p) turns → IsIn p vertices
  pub all : (p : ℕ) → IsIn p vertices → (n : ℕ) × IsIn (n, p) turns
  pub apart : (n p q : ℕ) → IsIn (n, p) turns → IsIn (n, q) turns → p ≡ q
  pub single : (n m p : ℕ) → IsIn (n, p) turns → IsIn (m, p) turns → n ≡ m
  pub vacant : (n p q i : ℕ) → IsIn (n, p) turns → (star_at b.stars n).0 ≡ q → IsIn i (star_at b.stars n).1 → q ≡ p
  pub held : (n p : ℕ) → IsIn (n, p) turns → IsNumberFor b p n

-- the stars of the vertices after an exchange, at their numbers
pub record AreStarsAfter (b : Placed) (freed : List ℕ) (placed : List (ℕ × Cell)) (turns : List (ℕ × ℕ))
    (writes : List (ℕ × (ℕ × List ℕ))) : Type 0 where
  pub each : (n : ℕ) (s : ℕ × List ℕ) → IsIn (n, s) writes → IsIn (n, s.0) turns
  pub all : (n p : ℕ) → IsIn (n, p) turns → (s : List ℕ) × IsIn (n, (p, s)) writes
  pub places : (n i : ℕ) (s : ℕ × List ℕ) → IsIn (n, s) writes →
      (IsIn i s.1 → StarsAfter freed placed b s.0 i) × (StarsAfter freed placed b s.0 i → IsIn i s.1)

-- the star that was written for the vertex has a place
pub record IsWritten (writes : List (ℕ × (ℕ × List ℕ))) (p n : ℕ) : Type 0 where
  pub places : List ℕ
  pub listed : IsIn (n, (p, places)) writes
  pub place : ℕ
  pub filled : IsIn place places

-- the vertices with stars after them
pub record AreKeysAfter (old : List (List (ℕ × ℕ))) (writes : List (ℕ × (ℕ × List ℕ)))
    (new : List (List (ℕ × ℕ))) : Type 0 where
  pub order : AreFiled new
  pub from : (p n : ℕ) → IsIn (p, n) (part_of new p) →
      IsWritten writes p n ⊎ (IsIn (p, n) (part_of old p) × ((m : ℕ) (s : List ℕ) → IsIn (m, (p, s)) writes → ⊥))
  pub kept : (p n : ℕ) → IsIn (p, n) (part_of old p) → ((m : ℕ) (s : List ℕ) → IsIn (m, (p, s)) writes → ⊥) →
      IsIn (p, n) (part_of new p)
  pub written : (p n : ℕ) → IsWritten writes p n → IsIn (p, n) (part_of new p)

-- the stars of all vertices of an exchange after it, at their numbers
pub record IsRewriting (b : Placed) (freed : List ℕ) (placed : List (ℕ × Cell))
    (writes : List (ℕ × (ℕ × List ℕ))) : Type 0 where
  pub vertices : List ℕ
  pub turns : List (ℕ × ℕ)
  pub touched : AreVerticesAt b freed placed vertices
  pub numbered : AreTurnsFor b vertices turns
  pub after : AreStarsAfter b freed placed turns writes

-- two stars that were written for one vertex have one number, and if one has a place, so has the other
abbrev pub AreAgreed : List (ℕ × (ℕ × List ℕ)) → Type 0
AreAgreed writes =
    (n m p : ℕ) (s t : List ℕ) → IsIn (n, (p, s)) writes → IsIn (m, (p, t)) writes →
    (n ≡ m) × ((i : ℕ) → IsIn i s → IsIn i t)

-- the star has a place, and its number stands beside its vertex
pub record IsKeyed (keys : List (ℕ × ℕ)) (n : ℕ) (s : ℕ × List ℕ) : Type 0 where
  pub key : IsIn (s.0, n) keys
  pub place : ℕ
  pub filled : IsIn place s.1

-- the vertex of the star, which has a place, with its number; or another vertex that was there
abbrev pub IsKeyAfter : List (ℕ × ℕ) → ℕ → ℕ × List ℕ → ℕ × ℕ → Type 0
IsKeyAfter old n s k = (((s.0, n) ≡ k) × ((i : ℕ) × IsIn i s.1)) ⊎ (IsIn k old × ¬ (k.0 ≡ s.0))

-- the keys are in parts as they are in the list
abbrev pub AreKeysOf : List (ℕ × ℕ) → List (List (ℕ × ℕ)) → Type 0
AreKeysOf l keys = (k : ℕ × ℕ) → IsIn k (part_of keys k.0) ↔ IsIn k l

-- each vertex has one number at most
abbrev pub HaveOneKey : List (ℕ × ℕ) → Type 0
HaveOneKey l = (k m : ℕ × ℕ) → IsIn k l → IsIn m l → k.0 ≡ m.0 → k ≡ m

-- the same keys are there
abbrev pub HasSameKeys : List (List (ℕ × ℕ)) → List (List (ℕ × ℕ)) → Type 0
HasSameKeys old new = (k : ℕ × ℕ) → IsIn k (part_of new k.0) ↔ IsIn k (part_of old k.0)

-- the keys of all parts are those after the star was written
abbrev pub AreKeysWith : List (List (ℕ × ℕ)) → ℕ → ℕ × List ℕ → List (List (ℕ × ℕ)) → Type 0
AreKeysWith old n s new = (k : ℕ × ℕ) → IsIn k (part_of new k.0) ↔ IsKeyAfter (part_of old k.0) n s k

-- the same cells stand at the same places
abbrev pub HasSameCells : List (Option Cell) → List (Option Cell) → Type 0
HasSameCells old new = (i : ℕ) → at_slot new i ≡ at_slot old i

-- the same places are in the stars of the same vertices
pub record HasSameStars (old new : List (ℕ × List ℕ)) : Type 0 where
  pub there : (n i : ℕ) → IsIn i (star_at old n).1 → star_at new n ≡ star_at old n
  pub back : (n i : ℕ) → IsIn i (star_at new n).1 → star_at new n ≡ star_at old n

-- each cell of the list has a mark at its rest
pub record AreCellsMarked (marks : List Bool) (list : List Cell) : Type 0 where
  pub count : length marks ≡ 509
  pub each : (c : Cell) → IsIn c list → slice_index_or marks (cell_rest c) false ≡ true

-- each number of the list has a mark other than 0
pub record AreMarked (marks list : List ℕ) : Type 0 where
  pub count : length marks ≡ 2048
  pub each : (i : ℕ) → IsIn i list → 0 < slice_index_or marks (i % 2048) 0
