-- The other cell on a facet of a cell of a complex, and what is told of it.
use Rattle.std.proofs.Common.{◌≡◌, ◌≢◌, ◌∙◌, ℕ, ◌<◌, refl, sym, ap, subst, inl, inr, List, [], ◌∷◌, length}
use Rattle.std.proofs.lemmas.List.{get_or_default}
use Rattle.list_laws.proofs.Cited.{at_in, contains_in}
use Rattle.point_order.specs.declared.cell.Cell.{Cell}
use Rattle.point_order.specs.declared.cell.Cell.TheVariants.{Full, Open}
use Rattle.point_order.specs.declared.cell.Facet.{Facet}
use Rattle.point_order.specs.declared.cell.Facet.TheVariants.{Three}
use Rattle.point_order.specs.Facets.{facets_of, full_facets, open_facets}
use Rattle.point_order.specs.Sets.{IsIn}
use Rattle.del_laws.proofs.Cited.{listed_facets}
use Rattle.face_list.specs.Tables.{cell_at}
use Rattle.mesh_rows.specs.declared.rows.CellRow.{CellRow}
use Rattle.mesh_rows.specs.Rows.{open_cells}
use Rattle.mesh_rows.specs.Across.{AreAcross, IsToldAcross}
use Rattle.mesh_rows.specs.Linked.{AreOfComplex, AreSides, HasAnotherCell, IsOther, told}
use Rattle.mesh_rows.proofs.FullFirst.{full_number, open_listed}

-- each facet of a cell of a complex has another cell
pub some_other : (cells : List Cell) → AreOfComplex cells → (n : ℕ) → n < length cells → (f : Facet) →
    IsIn f (facets_of (cell_at cells n)) → HasAnotherCell cells n f
some_other cells k n h f i =
    let o = listed_facets k.0 (cell_at cells n) f k.1.ascending k.1.keys
    (subst (λ (l : List Cell). IsIn (cell_at cells n) l) k.2 (at_in cells n (Full []) h)) i in
    let c = contains_in cells o.other (subst (λ (l : List Cell). IsIn o.other l) (sym k.2) o.listed) in
    let e : cell_at cells c.0 ≡ o.other = get_or_default cells c.0 (Full []) o.other c.1 ∙ c.2 in
    let differs : c.0 ≢ n = λ d. o.differs (sym e ∙ ap (cell_at cells) d) in
    (c.0, (c.1, differs, subst (λ (x : Cell). IsIn f (facets_of x)) (sym e) o.has))

-- the only triple among the facets of an Open cell is its own
open_on : (u t : List ℕ) → IsIn (Three t) (open_facets u) → u ≡ t
open_on [] t i = absurd i
open_on (a ∷ []) t i = absurd i
open_on (a ∷ b ∷ []) t i = absurd i
open_on (a ∷ b ∷ c ∷ []) t (inl e) = cc e
open_on (a ∷ b ∷ c ∷ []) t (inr (inl e)) = cc e
open_on (a ∷ b ∷ c ∷ []) t (inr (inr (inl e))) = cc e
open_on (a ∷ b ∷ c ∷ []) t (inr (inr (inr (inl e)))) = cc e
open_on (a ∷ b ∷ c ∷ []) t (inr (inr (inr (inr e)))) = absurd e
open_on (a ∷ b ∷ c ∷ d ∷ r) t i = absurd i

-- what is told of the other cell is told of the facet
pub told_across : (cells : List Cell) → AreOfComplex cells → (n : ℕ) (t : List ℕ) (m : ℕ) →
    IsOther cells n (Three t) m →
    IsToldAcross cells n t (told (cell_at cells m) m)
told_across cells k n t m o = by (cell_at cells m) refl
  where
    by : (c : Cell) → cell_at cells m ≡ c → IsToldAcross cells n t (told c m)
    by (Full q) e =
        let r = full_number cells k m q o.0 e in
        inl (record {
          listed = r.0;
          differs = o.1;
          has = subst (λ (v : List ℕ). IsIn (Three t) (full_facets v)) (sym r.1)
              (subst (λ (c : Cell). IsIn (Three t) (facets_of c)) e o.2);
        })
    by (Open u) e =
        let u_is_t = open_on u t (subst (λ (c : Cell). IsIn (Three t) (facets_of c)) e o.2) in
        inr (refl, subst (λ (v : List ℕ). IsIn v (open_cells cells)) u_is_t (open_listed cells k m u o.0 e))

module _ (cells : List Cell) (n : ℕ) where
  -- each side of a Full cell is a facet of it
  pub sides_listed : (q t u v w : List ℕ) → AreSides q t u v w →
      IsIn (Three t) (full_facets q) × IsIn (Three u) (full_facets q) × IsIn (Three v) (full_facets q)
      × IsIn (Three w) (full_facets q)
  sides_listed [] t u v w s = absurd s
  sides_listed (a ∷ []) t u v w s = absurd s
  sides_listed (a ∷ b ∷ []) t u v w s = absurd s
  sides_listed (a ∷ b ∷ c ∷ []) t u v w s = absurd s
  sides_listed (a ∷ b ∷ c ∷ d ∷ []) t u v w s = (
    inl (ap Three (sym s.0)),
    inr (inl (ap Three (sym s.1))),
    inr (inr (inl (ap Three (sym s.2)))),
    inr (inr (inr (inl (ap Three (sym s.3))))),
  )
  sides_listed (a ∷ b ∷ c ∷ d ∷ e ∷ r) t u v w s = absurd s

  -- and there another cell has it
  pub others_at : AreOfComplex cells → n < length cells → (q t : List ℕ) → cell_at cells n ≡ Full q →
      IsIn (Three t) (full_facets q) → HasAnotherCell cells n (Three t)
  others_at k h q t e i =
      some_other cells k n h (Three t) (subst (λ (c : Cell). IsIn (Three t) (facets_of c)) (sym e) i)

  -- what is told of its sides is told of the cell
  pub sides_told : (q t u v w : List ℕ) (r : CellRow) → AreSides q t u v w → IsToldAcross cells n t r.a →
      IsToldAcross cells n u r.b → IsToldAcross cells n v r.c → IsToldAcross cells n w r.d → AreAcross cells n q r
  sides_told [] t u v w r s x y z o = absurd s
  sides_told (a ∷ []) t u v w r s x y z o = absurd s
  sides_told (a ∷ b ∷ []) t u v w r s x y z o = absurd s
  sides_told (a ∷ b ∷ c ∷ []) t u v w r s x y z o = absurd s
  sides_told (a ∷ b ∷ c ∷ d ∷ []) t u v w r s x y z o = (
    subst (λ (l : List ℕ). IsToldAcross cells n l r.a) s.0 x,
    subst (λ (l : List ℕ). IsToldAcross cells n l r.b) s.1 y,
    subst (λ (l : List ℕ). IsToldAcross cells n l r.c) s.2 z,
    subst (λ (l : List ℕ). IsToldAcross cells n l r.d) s.3 o,
  )
  sides_told (a ∷ b ∷ c ∷ d ∷ e ∷ f) t u v w r s x y z o = absurd s
