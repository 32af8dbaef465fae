-- The faces that are Gabriel and within alpha, as they are judged by their links and searched in lists.
use Rattle.std.proofs.Common.{◌≡◌, refl, sym, subst, ap, ◌∙◌, ℕ, inl, inr, Bool, true, false, List, [], ◌∷◌, map}
use Rattle.std.specs.Prelude.{◌&&◌}
use Rattle.std.specs.List.{filter, list_all, list_any}
use Rattle.std.specs.Ordering.{nat_cmp, is_eq}
use Rattle.std.specs.Cmp.Lexicographic.{slice_cmp}
use Rattle.std.proofs.lemmas.Map.Text.{is_eq-slice_cmp}
use Rattle.std.proofs.lemmas.Slice.Eq.{bytes_eq-Decides}
use Rattle.list_laws.proofs.Cited.{any_from, any_true}
use Rattle.point_order.specs.declared.cell.Cell.{Cell}
use Rattle.point_order.specs.Complex.{complex}
use Rattle.point_order.specs.Sets.{IsIn, IsAscending}
use Rattle.del_laws.specs.Keys.{AreKeys}
use Rattle.face_list.specs.Faces.{parts_in, cells_with, with_cells_around}
use Rattle.gabriel_faces.specs.Links.{link_of}
use Rattle.gabriel_faces.proofs.Cited.{judged_by_link, link_is_link, listed_is_face}
use Rattle.alpha_complex.specs.Admitted.{is_within, is_small}
use Rattle.alpha_complex.specs.Judged.{admitted_triples, is_admitted_triple, is_listed, is_small_by}

-- ---- lists

-- tests that answer alike at the members of a list pass all alike
pub all_same : {X : Type 0} (p q : X → Bool) (xs : List X) → ((x : X) → IsIn x xs → p x ≡ q x) →
    list_all p xs ≡ list_all q xs
all_same p q [] f = refl
all_same p q (x ∷ xs) f = (
    let e : p x ≡ q x = f x (inl refl) in
    let r : list_all p xs ≡ list_all q xs = all_same p q xs (λ y i. f y (inr i)) in
    rw (e, r) refl)

-- and some
pub any_same : {X : Type 0} (p q : X → Bool) (xs : List X) → ((x : X) → IsIn x xs → p x ≡ q x) →
    list_any p xs ≡ list_any q xs
any_same p q [] f = refl
any_same p q (x ∷ xs) f = (
    let e : p x ≡ q x = f x (inl refl) in
    let r : list_any p xs ≡ list_any q xs = any_same p q xs (λ y i. f y (inr i)) in
    rw (e, r) refl)

-- what is kept of a list is put beside its cells alike
firsts_kept : (t : List ℕ × List Cell → Bool) (g : List ℕ → List Cell) (ps : List (List ℕ)) →
    map (λ f. f.0) (filter t (map (λ p. (p, g p)) ps)) ≡ filter (λ p. t (p, g p)) ps
firsts_kept t g [] = refl
firsts_kept t g (p ∷ ps) = by_test (t (p, g p)) refl (firsts_kept t g ps)
  where
    -- kept or not
    by_test : (b : Bool) → t (p, g p) ≡ b → map (λ f. f.0) (filter t (map (λ p. (p, g p)) ps)) ≡ filter
        (λ p. t (p, g p)) ps → map (λ f. f.0) (filter t (map (λ p. (p, g p)) (p ∷ ps))) ≡ filter (λ p. t (p, g p))
        (p ∷ ps)
    by_test true e r = rw e (ap (λ l. p ∷ l) r)
    by_test false e r = rw e r

-- ---- searches

-- points that are told to be listed are
pub listed_from : (list : List (List ℕ)) (p : List ℕ) → is_listed list p ≡ true → IsIn p list
listed_from list p t = (
    let r = any_from (λ q. is_eq (slice_cmp nat_cmp q p)) list t in
    let e : r.0 ≡ p = (bytes_eq-Decides r.0 p).0 (sym (is_eq-slice_cmp r.0 p) ∙ r.2) in
    subst (λ (v : List ℕ). IsIn v list) e r.1)

-- and back
pub listed_true : (list : List (List ℕ)) (p : List ℕ) → IsIn p list → is_listed list p ≡ true
listed_true list p i = any_true (λ q. is_eq (slice_cmp nat_cmp q p)) list p i
    (is_eq-slice_cmp p p ∙ (bytes_eq-Decides p p).1 refl)

-- ---- faces beside their cells

-- the admitted ones among triples beside their cells
pub admitted_are : (alpha : ℕ) (faces : List (List ℕ)) (cells : List Cell) →
    admitted_triples alpha (with_cells_around faces cells)
    ≡ filter (λ p. is_admitted_triple alpha (p, cells_with p cells))
    faces
admitted_are alpha faces cells = firsts_kept (is_admitted_triple alpha) (λ p. cells_with p cells) faces

-- faces beside their cells are in order where the faces are
pub firsts_are : (faces : List (List ℕ)) (cells : List Cell) → map (λ f. f.0) (with_cells_around faces cells) ≡ faces
firsts_are [] cells = refl
firsts_are (p ∷ faces) cells = ap (λ l. p ∷ l) (firsts_are faces cells)

-- a listed face is small by its link where it is in the set
pub small_by_link : (s : List ℕ) (alpha k : ℕ) (p : List ℕ) → IsAscending s → AreKeys s →
    IsIn p (parts_in k (complex s)) → is_small_by alpha (p, cells_with p (complex s)) ≡ is_small s alpha p
small_by_link s alpha k p a keys i =
    ap (λ b. b && is_within alpha p) (judged_by_link s p (link_of p (cells_with p (complex s))) a keys
    (listed_is_face s k p a i) (link_is_link s p))
