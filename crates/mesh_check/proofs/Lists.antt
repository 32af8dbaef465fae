-- The first flaw of a list of cells, cell by cell.
use Rattle.std.specs.Prelude.{◌≡◌, refl, ℕ, ◌+◌, ◌<◌, ◌≤◌, List, [], ◌∷◌, None, Some, map, length, drop, slice_index_or}
use Rattle.std.specs.Prelude.{zero, suc}
use Rattle.std.proofs.Common.{arith, ap, sym, ◌∙◌}
use Rattle.point_order.specs.declared.cell.Cell.{Cell}
use Rattle.point_order.specs.declared.cell.Cell.TheVariants.{Full, Open}
use Rattle.mesh_check.specs.declared.flaw.Flaw.{Flaw}
use Rattle.mesh_check.specs.Flaws.{first_flaw, first_flaw_of, flaw_of, as_cells}

-- what is left of a list begins with its next element
front : {X : Type 0} (l : List X) (i : ℕ) (x : X) → i < length l → x ≡ slice_index_or l i x →
    drop i l ≡ x ∷ drop (i + 1) l
front [] i x h e = absurd (let g : ⊥ = omega (arith, h) in g)
front (y ∷ l) zero x h e = ap (λ v. v ∷ l) (sym e)
front (y ∷ l) (suc i) x h e = front l i x (omega (arith, h)) e ∙ ap (λ n. x ∷ drop n (y ∷ l)) (one i)
  where
    -- one more in front
    one : (i : ℕ) → suc (i + 1) ≡ suc i + 1
    one i = omega arith

-- within a list what stands for elements past its end does not count
pub own : {X : Type 0} (l : List X) (i : ℕ) (x d : X) → i < length l → x ≡ slice_index_or l i d →
    x ≡ slice_index_or l i x
own [] i x d h e = absurd (let g : ⊥ = omega (arith, h) in g)
own (y ∷ l) zero x d h e = e
own (y ∷ l) (suc i) x d h e = own l i x d (omega (arith, h)) e

-- a cell with a flaw
pub with_flaw : (s : List ℕ) (l : List Cell) (c : Cell) (flaw : Flaw) → flaw_of s c ≡ Some flaw →
    first_flaw s (c ∷ l) ≡ Some flaw
unfolding first_flaw
with_flaw s l c flaw e = ap (λ o. first_flaw_of o (first_flaw s l)) e

-- and one without
pub without_flaw : (s : List ℕ) (l : List Cell) (c : Cell) → flaw_of s c ≡ None → first_flaw s (c ∷ l) ≡ first_flaw s l
unfolding first_flaw
without_flaw s l c e = ap (λ o. first_flaw_of o (first_flaw s l)) e

-- the triples that are left
pub triples_front : (s : List ℕ) (hull : List (List ℕ)) (i : ℕ) (t : List ℕ) → i < length hull →
    t ≡ slice_index_or hull i t → first_flaw s (map Open (drop i hull)) ≡ first_flaw s
    (Open t ∷ map Open (drop (i + 1) hull))
triples_front s hull i t h e = ap (λ (l : List (List ℕ)). first_flaw s (map Open l)) (front hull i t h e)

-- the cells that are left
pub cells_front : (s : List ℕ) (cells hull : List (List ℕ)) (i : ℕ) (q : List ℕ) → i < length cells →
    q ≡ slice_index_or cells i q → first_flaw s (as_cells (drop i cells) hull) ≡ first_flaw s
    (Full q ∷ as_cells (drop (i + 1) cells) hull)
cells_front s cells hull i q h e = ap (λ (l : List (List ℕ)). first_flaw s (as_cells l hull)) (front cells i q h e)

-- no triples are left
pub none_left : (s : List ℕ) (hull : List (List ℕ)) (i : ℕ) → length hull ≤ i →
    first_flaw s (map Open (drop i hull)) ≡ None
unfolding first_flaw
none_left s [] zero h = refl
none_left s [] (suc i) h = refl
none_left s (t ∷ hull) zero h = absurd (let g : ⊥ = omega (arith, h) in g)
none_left s (t ∷ hull) (suc i) h = none_left s hull i (omega (arith, h))

-- no cells are left, only the triples
pub triples_left : (s : List ℕ) (cells hull : List (List ℕ)) (i : ℕ) → length cells ≤ i →
    first_flaw s (as_cells (drop i cells) hull) ≡ first_flaw s (map Open hull)
triples_left s [] hull zero h = refl
triples_left s [] hull (suc i) h = refl
triples_left s (q ∷ cells) hull zero h = absurd (let g : ⊥ = omega (arith, h) in g)
triples_left s (q ∷ cells) hull (suc i) h = triples_left s cells hull i (omega (arith, h))
