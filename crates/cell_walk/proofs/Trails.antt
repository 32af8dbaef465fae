-- Walks as wholes: what starts is a walk, more buckets leave it one, and no cell is visited twice.
use Rattle.std.specs.Prelude.{◌≡◌, refl, ℕ, true, List, [], ◌∷◌, ◌⊎◌, Option, None, Some}
use Rattle.std.proofs.Common.{inl, inr, sym, subst, ◌∙◌}
use Rattle.std.proofs.lemmas.Bool.{false≢true}
use Rattle.list_laws.proofs.Cited.{filtered_from}
use Rattle.point_order.specs.declared.cell.Cell.{Cell}
use Rattle.point_order.specs.Complex.{complex}
use Rattle.point_order.specs.Sets.{IsIn}
use Rattle.del_laws.specs.Walks.{is_before}
use Rattle.del_laws.specs.Nearness.{rank}
use Rattle.del_laws.proofs.Cited.{before_chain, before_not}
use Rattle.hole_laws.specs.Edits.{IsNew}
use Rattle.cell_store.specs.Buckets.{BucketContent, InHand, bucket_at}
use Rattle.cell_store.specs.Meshes.{all_cells}
use Rattle.cell_store.specs.Shares.{Shows}
use Rattle.cell_store.specs.Swaps.{touches}
use Rattle.cell_store.proofs.Cited.{cells_of, flat_from}
use Rattle.cell_walk.specs.Paths.{ComesNearer}
use Rattle.cell_walk.specs.Turns.{IsLeastInside, IsLeastHeld}
use Rattle.cell_walk.specs.Laws.{StartIsWalk, WalkStays, NoCellTwice}
use Rattle.cell_walk.proofs.Counting.{in_all}

-- the bucket of a cell of those in hand
record IsKept (places : List (Option BucketContent)) (c : Cell) : Type 0 where
  pub number : ℕ
  pub content : BucketContent
  pub held : bucket_at places number ≡ Some content
  pub has : IsIn c content.cells

-- a cell of all buckets in hand is one of some bucket in hand
kept : (places : List (Option BucketContent)) (c : Cell) → IsIn c (all_cells places) → IsKept places c
kept places c i = let r = flat_from cells_of places None c i in by r.0 (bucket_at places r.0) refl r.1
  where
    by : (b : ℕ) (o : Option BucketContent) → bucket_at places b ≡ o → IsIn c (cells_of o) → IsKept places c
    by b None e j = absurd j
    by b (Some x) e j = record { number = b; content = x; held = e; has = j }

-- it is one of the complex
all_listed : (hold : InHand) (s : List ℕ) (c : Cell) → Shows hold s → IsIn c (all_cells hold.places) →
    IsIn c (complex s)
all_listed hold s c st i =
    let k = kept hold.places c i in
    (filtered_from (touches hold.grid k.number) (complex s) c
    (subst (λ (l : List Cell). IsIn c l) (st.sights k.number k.content k.held).cells k.has)).0

-- what starts is a walk
pub start_is_walk : StartIsWalk
start_is_walk hold s p w st n g =
    let held = by g.1 in
    record { new = subst (λ v. IsNew s v) (sym g.0) n; listed = all_listed hold s w.cell st held; held = held }
  where
    by : IsLeastInside hold w.cell ⊎ IsLeastHeld hold w.cell → IsIn w.cell (all_cells hold.places)
    by (inl l) = l.is.held
    by (inr l) = l.held

-- more buckets leave it one
pub walk_stays : WalkStays
walk_stays few many s w a k =
    let b = kept few.places w.cell k.held in
    record {
      new = k.new;
      listed = k.listed;
      held =
          in_all many.places b.number b.content w.cell (a.buckets b.number b.content b.held) b.has;
    }

-- each later cell is nearer than the first
later_nearer : (s : List ℕ) (p : ℕ) (c : Cell) (l : List Cell) → ComesNearer s p (c ∷ l) → (x : Cell) → IsIn x l →
    is_before (rank s p x) (rank s p c) ≡ true
later_nearer s p c [] k x i = absurd i
later_nearer s p c (d ∷ l) k x (inl e) = subst (λ (v : Cell). is_before (rank s p v) (rank s p c) ≡ true) e k.0
later_nearer s p c (d ∷ l) k x (inr i) = before_chain (rank s p x) (rank s p d) (rank s p c)
    (later_nearer s p d l k.1 x i) k.0

-- so none is the first
pub no_cell_twice : NoCellTwice
no_cell_twice s p [] k = tt
no_cell_twice s p (c ∷ l) k = (
  (λ i. false≢true (sym (before_not (rank s p c)) ∙ later_nearer s p c l k c i)),
  no_cell_twice s p l (others l k),
)
  where
    others : (l : List Cell) → ComesNearer s p (c ∷ l) → ComesNearer s p l
    others [] k = tt
    others (d ∷ l) k = k.1
