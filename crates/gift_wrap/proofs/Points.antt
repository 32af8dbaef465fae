-- The points of cells, ascending, each once.
use Rattle.std.specs.Prelude.{◌≡◌, ℕ, ◌+◌, ◌<◌, not, ◌==◌, ◌↔◌, ◌⊎◌, List, [], ◌∷◌, ◌++◌, length, slice_index_or, take}
use Rattle.std.specs.List.{filter, flat_map}
use Rattle.std.proofs.Common.{sym, ◌∙◌, ap, subst, inl, inr}
use Rattle.std.proofs.lemmas.List.{flat_map_more}
use Rattle.list_laws.proofs.Cited.{false_if, filtered_from, filtered_true, flat_from, from_append, in_flat, in_left}
use Rattle.list_laws.proofs.Cited.{in_right, not_both, not_from, not_true, same_from, same_true, take_next}
use Rattle.point_order.specs.declared.cell.Cell.{Cell}
use Rattle.point_order.specs.Facets.{points_of}
use Rattle.point_order.specs.Sets.{IsIn, IsAscending, AreSamePoints}
use Rattle.gift_wrap.specs.Near.{ArePointsBut}

-- the points of the cells but one, in order
pub points_are : (cells : List Cell) (v : ℕ) (all kept points : List ℕ) → all ≡ flat_map points_of cells →
    kept ≡ filter (λ p. not (p == v)) all → AreSamePoints kept points → IsAscending points → ArePointsBut cells v points
points_are cells v all kept points a k same o = record {
  order = o;
  points_are = λ e. (
    λ i. (
        let m = filtered_from (λ p. not (p == v)) all e (subst (λ (l : List ℕ). IsIn e l) k ((same e).1 i)) in
        let r = flat_from points_of cells e (subst (λ (l : List ℕ). IsIn e l) a m.0) in (
          record { cell = r.0; among = r.1; has = r.2 },
          λ q. not_both (e == v) (same_true e v q)
              (not_from (e == v) m.1),
        )),
    λ r. (same e).0 (subst (λ (l : List ℕ). IsIn e l) (sym k)
        (filtered_true (λ p. not (p == v)) all e (subst (λ (l : List ℕ). IsIn e l) (sym a)
        (in_flat points_of cells r.0.cell e r.0.among r.0.has))
        (not_true (e == v) (false_if (e == v) (λ h. r.1 (same_from e v h)))))),
  );
}

-- the points of the first cells and of the next
pub points_more : (cells : List Cell) (i : ℕ) (at : Cell) (ps before after : List ℕ) → i < length cells →
    at ≡ slice_index_or cells i at → ps ≡ points_of at → before ≡ flat_map points_of (take i cells) →
    after ≡ before ++ ps → after ≡ flat_map points_of (take (i + 1) cells)
points_more cells i at ps before after h e q b a =
    a ∙ ap (λ l. l ++ ps) b ∙ ap (λ l. flat_map points_of (take i cells) ++ l) q
    ∙ flat_map_more points_of [] (take i cells) at ∙ ap (flat_map points_of) (sym (take_next cells i at h e))

-- where a list has the points of the first elements, it has those of one more with that one
pub same_more : (points : List ℕ) (n x : ℕ) (old new : List ℕ) → n < length points → x ≡ slice_index_or points n x →
    ((q : ℕ) → IsIn q new ↔ (IsIn q old ⊎ (x ≡ q))) → AreSamePoints (take n points) old →
    AreSamePoints (take (n + 1) points) new
same_more points n x old new h e a s q = (
  λ m. elim (from_append q (take n points) (x ∷ []) (subst (λ (l : List ℕ). IsIn q l) next m)) [
    | inl k ↦ (a q).1 (inl ((s q).0 k))
    | inr k ↦ elim k [ inl f ↦ (a q).1 (inr f) | inr none ↦ absurd none ]
  ],
  λ m. subst (λ (l : List ℕ). IsIn q l) (sym next) (elim ((a q).0 m) [
    | inl k ↦ in_left q (take n points) (x ∷ []) ((s q).1 k)
    | inr f ↦ in_right q (take n points) (x ∷ []) (inl f)
  ]),
)
  where
    next : take (n + 1) points ≡ take n points ++ x ∷ []
    next = take_next points n x h e

-- lists that have the points of one list
pub same_both : (l m n : List ℕ) → AreSamePoints l m → AreSamePoints m n → AreSamePoints l n
same_both l m n s t e = (λ i. (t e).0 ((s e).0 i), λ i. (s e).1 ((t e).1 i))
