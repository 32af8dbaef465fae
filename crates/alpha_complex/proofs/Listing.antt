-- The triple that a search finds among faces in order.
use Rattle.std.proofs.Common.{◌≡◌, sym, subst, ap, ◌∙◌, ℕ, ◌<◌, inl, inr, true, false, List, [], ◌∷◌, map, length}
use Rattle.std.proofs.Common.{get_or, arith}
use Rattle.std.specs.List.{filter, list_any}
use Rattle.std.specs.List.Sorted.{IsStrictlySortedBy}
use Rattle.std.specs.Ordering.{nat_cmp, is_eq}
use Rattle.std.specs.Cmp.Lexicographic.{slice_cmp}
use Rattle.std.specs.declared.cmp.Ordering.TheVariants.{Less, Equal}
use Rattle.std.proofs.lemmas.Cmp.{nat_list_cmp_total}
use Rattle.std.proofs.lemmas.Map.Text.{is_eq-slice_cmp}
use Rattle.std.proofs.lemmas.Slice.Eq.{bytes_eq-Decides}
use Rattle.point_order.specs.declared.cell.Cell.{Cell}
use Rattle.point_order.specs.Sets.{IsIn}
use Rattle.alpha_complex.specs.Judged.{admitted_triples, is_admitted_triple, is_listed}
use Rattle.alpha_complex.specs.Leasts.{AreOrdered}
use Rattle.std.proofs.lemmas.List.{get_or-map, length-map}
use Rattle.list_laws.proofs.Cited.{any_true, at_in, each_by, filtered_from, filtered_true, itself, mapped_from}
use Rattle.list_laws.proofs.Cited.{mapped_true, same_list, same_test, true_or_false}
use Rattle.alpha_complex.proofs.SmallFaces.{listed_from, listed_true}

-- of faces in order no two have the same points
same_points : (faces : List (List ℕ × List Cell)) (f g : List ℕ × List Cell) → AreOrdered faces → IsIn f faces →
    IsIn g faces → f.0 ≡ g.0 → f ≡ g
unfolding IsStrictlySortedBy
same_points [] f g s i j e = absurd i
same_points (x ∷ faces) f g s i j e = elim i [
  | inl a ↦ elim j [ inl b ↦ sym a ∙ b | inr k ↦ absurd (twice g k (ap (λ (v : List ℕ × List Cell). v.0) a ∙ e)) ]
  | inr k ↦ elim j [
    | inl b ↦ absurd (twice f k (ap (λ (v : List ℕ × List Cell). v.0) b ∙ sym e))
    | inr m ↦ same_points
        faces f g s.1 k m e
  ]
]
  where
    -- the first has not the points of another
    twice : (h : List ℕ × List Cell) → IsIn h faces → x.0 ≡ h.0 → ⊥
    twice h m q = itself (slice_cmp nat_cmp) nat_list_cmp_total h.0
        (subst (λ v. slice_cmp nat_cmp v h.0 ≡ Less) q
        (each_by (λ z. slice_cmp nat_cmp x.0 z ≡ Less) (map (λ (v : List ℕ × List Cell). v.0) faces) s.0 h.0
        (mapped_true (λ (v : List ℕ × List Cell). v.0) h faces m)))

-- what is listed among the admitted triples is an admitted one of the triples
listed_admitted : (a : ℕ) (faces : List (List ℕ × List Cell)) (t : List ℕ) →
    is_listed (admitted_triples a faces) t ≡ true →
    (f : List ℕ × List Cell) × IsIn f faces × (f.0 ≡ t) × (is_admitted_triple a f ≡ true)
listed_admitted a faces t e = (
    let k = mapped_from (λ (v : List ℕ × List Cell). v.0) t (filter (is_admitted_triple a) faces)
    (listed_from (admitted_triples a faces) t e) in
    let m = filtered_from (is_admitted_triple a) faces k.0 k.1 in
    (k.0, m.0, k.2, m.1))

-- the face that a search finds
pub found_at : (faces : List (List ℕ × List Cell)) (keys : List (List ℕ)) (t : List ℕ) (i : ℕ) →
    keys ≡ map (λ f. f.0) faces → i < length keys → slice_cmp nat_cmp (get_or keys i t) t ≡ Equal →
    (i < length faces) × ((get_or faces i ([], [])).0 ≡ t)
found_at faces keys t i e h c = (
    let m = ap length e ∙ length-map faces (λ (f : List ℕ × List Cell). f.0) in
    let n : i < length faces = omega (arith, h, m) in (
      n,
      sym (get_or-map (λ (f : List ℕ × List Cell). f.0) faces i ([], []) t n)
          ∙ ap (λ (v : List (List ℕ)). get_or v i t) (sym e) ∙ same_list (get_or keys i t) t c,
    ))

-- the face that has the points tells whether they are listed
pub listed_found : (a : ℕ) (faces : List (List ℕ × List Cell)) (t : List ℕ) (i : ℕ) (d : List ℕ × List Cell) →
    AreOrdered faces → i < length faces → (get_or faces i d).0 ≡ t →
    is_listed (admitted_triples a faces) t ≡ is_admitted_triple a (get_or faces i d)
listed_found a faces t i d s h e = same_test (is_listed (admitted_triples a faces) t)
    (is_admitted_triple a (get_or faces i d)) there back
  where
    there : is_listed (admitted_triples a faces) t ≡ true → is_admitted_triple a (get_or faces i d) ≡ true
    there q = (
        let k = listed_admitted a faces t q in
        let same : k.0 ≡ get_or faces i d = same_points faces k.0 (get_or faces i d) s k.1 (at_in faces i d h)
        (k.2 ∙ sym e) in
        subst (λ (v : List ℕ × List Cell). is_admitted_triple a v ≡ true) same k.3)

    back : is_admitted_triple a (get_or faces i d) ≡ true → is_listed (admitted_triples a faces) t ≡ true
    back q = listed_true (admitted_triples a faces) t
        (subst (λ v. IsIn v (admitted_triples a faces)) e
        (mapped_true (λ (v : List ℕ × List Cell). v.0) (get_or faces i d) (filter (is_admitted_triple a) faces)
        (filtered_true (is_admitted_triple a) faces (get_or faces i d) (at_in faces i d h) q)))

-- where no face has them they are not
pub listed_none : (a : ℕ) (faces : List (List ℕ × List Cell)) (t : List ℕ) →
    list_any (λ y. is_eq (slice_cmp nat_cmp y t)) (map (λ f. f.0) faces) ≡ false →
    is_listed (admitted_triples a faces) t ≡ false
listed_none a faces t e = elim (true_or_false (is_listed (admitted_triples a faces) t)) [
  | inl q ↦ (
      let k = listed_admitted a faces t q in
      let m : list_any (λ y. is_eq (slice_cmp nat_cmp y t)) (map (λ (f : List ℕ × List Cell). f.0) faces) ≡ true =
      any_true (λ y. is_eq (slice_cmp nat_cmp y t)) (map (λ (f : List ℕ × List Cell). f.0) faces) k.0.0
      (mapped_true (λ (v : List ℕ × List Cell). v.0) k.0 faces k.1)
      (is_eq-slice_cmp k.0.0 t ∙ (bytes_eq-Decides k.0.0 t).1 k.2) in
      let n : true ≡ false = sym m ∙ e in
      cc)
  | inr q ↦ q
]
