-- The other cell on a facet, among those around a point.
use Rattle.std.specs.Prelude.{◌≡◌, ℕ, true, List, [], ◌∷◌, Option, None, Some, MatchOption}
use Rattle.std.specs.List.{filter}
use Rattle.std.proofs.Common.{refl, sym, ◌∙◌, ap, subst, inl, inr}
use Rattle.std.proofs.lemmas.Bool.{eq-eqb}
use Rattle.list_laws.proofs.Cited.{among_true, filtered_from, filtered_true}
use Rattle.point_order.specs.declared.cell.Cell.{Cell}
use Rattle.point_order.specs.declared.cell.Facet.{Facet}
use Rattle.point_order.specs.Facets.{points_of, facets_of}
use Rattle.point_order.specs.Sets.{IsIn, is_among}
use Rattle.bucket_grid.specs.Grids.{bucket_of}
use Rattle.cell_stars.specs.Places.{lies_in}
use Rattle.hole_laws.specs.Others.{IsOtherOf, HaveNoOther}
use Rattle.cell_store.specs.Shares.{points_on}
use Rattle.cell_store.proofs.ShareLaws.{facet_inside}

-- the cells still to come are some of all, and every other cell on the facet is among them
pub record StillToCome (cell : Cell) (facet : Facet) (all left : List Cell) : Type 0 where
  pub some : (c : Cell) → IsIn c left → IsIn c all
  pub others : (c : Cell) → IsOtherOf all cell facet c → IsIn c left

-- at first all are still to come
pub all_come : (cell : Cell) (facet : Facet) (all : List Cell) → StillToCome cell facet all all
all_come cell facet all = record { some = λ c m. m; others = λ c o. o.listed }

-- a cell that is not another one on the facet is passed over
pub passed_cell : (cell : Cell) (facet : Facet) (all left rest : List Cell) (c : Cell) → left ≡ c ∷ rest →
    ((IsIn facet (facets_of c)) → ¬ (c ≡ cell) → ⊥) → StillToCome cell facet all left → StillToCome cell facet all rest
passed_cell cell facet all left rest c e n s = record {
  some = λ d m. s.some d (subst (IsIn d) (sym e) (inr m));
  others = λ d o. elim (subst (IsIn d) e (s.others d o)) [
    | inl q ↦ absurd (n (subst (λ (x : Cell). IsIn facet (facets_of x)) (sym q) o.has) (λ f. o.differs (sym q ∙ f)))
    | inr k ↦ k
  ];
}

-- where none is left there is no other cell on the facet
pub none_left : (cell : Cell) (facet : Facet) (all left : List Cell) → left ≡ [] → StillToCome cell facet all left →
    HaveNoOther all cell facet
none_left cell facet all left e s d o = subst (IsIn d) e (s.others d o)

-- a cell that has the facet and is not this one is the other
pub other_found : (cell : Cell) (facet : Facet) (all left rest : List Cell) (c : Cell) → left ≡ c ∷ rest →
    IsIn facet (facets_of c) → ¬ (c ≡ cell) → StillToCome cell facet all left → IsOtherOf all cell facet c
other_found cell facet all left rest c e h n s =
    record { listed = s.some c (subst (IsIn c) (sym e) (inl refl)); has = h; differs = n }

-- around a point of the facet are all other cells on it
pub around_all : {X : Type 0} (f : X → Cell) (cells around : List Cell) (p : ℕ) (cell : Cell) (facet : Facet)
    (o : Option X) → IsIn p (points_on facet) →
    ((c : Cell) → (IsIn c around → IsIn c (filter (λ c. is_among p (points_of c)) cells))
    × (IsIn c (filter (λ c. is_among p (points_of c)) cells) → IsIn c around)) →
    MatchOption o (HaveNoOther around cell facet) (λ x. IsOtherOf around cell facet (f x)) →
    MatchOption o (HaveNoOther cells cell facet) (λ x. IsOtherOf cells cell facet (f x))
around_all f cells around p cell facet None m a n =
    λ d o. n d (record {
      listed = (a d).1 (filtered_true (λ c. is_among p (points_of c)) cells d o.listed
          (among_true p (points_of d) (facet_inside d facet p o.has m)));
      has = o.has;
      differs = o.differs;
    })
around_all f cells around p cell facet (Some x) m a o =
    record {
      listed = (filtered_from (λ c. is_among p (points_of c)) cells (f x) ((a (f x)).0 o.listed)).0;
      has =
          o.has;
      differs = o.differs;
    }

-- a point of the bucket lies in it
pub lies_at : (place : Option (ℕ × ℕ)) (g h b p : ℕ) → place ≡ Some (g, b) → h ≡ g → b ≡ bucket_of h p →
    lies_in place p ≡ true
lies_at place g h b p e f q = ap (λ o. lies_in o p) e
    ∙ eq-eqb (bucket_of g p) b (ap (λ k. bucket_of k p) (sym f) ∙ sym q)
