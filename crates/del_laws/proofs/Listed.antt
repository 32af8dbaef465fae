-- Which cells the sorted list of a complex has.
use Rattle.std.specs.Prelude.{◌≡◌, refl, ℕ, zero, suc, ◌<◌, Bool, true, false, not, ◌&&◌, ◌||◌, List, [], ◌∷◌, ◌⊎◌, map}
use Rattle.std.specs.Prelude.{length}
use Rattle.std.specs.List.{filter, list_all}
use Rattle.std.proofs.Common.{arith, inl, inr, sym, subst}
use Rattle.list_laws.proofs.Cited.{all_from, all_true, among_from, among_true, below_each, both_true, filtered_from}
use Rattle.list_laws.proofs.Cited.{filtered_true, first_below, first_true, from_append, in_left, in_right, less_chain}
use Rattle.list_laws.proofs.Cited.{mapped_from, mapped_true, not_from, second_true}
use Rattle.point_order.specs.declared.cell.Cell.{Cell}
use Rattle.point_order.specs.declared.cell.Cell.TheVariants.{Full, Open}
use Rattle.point_order.specs.Orientation.{is_flat}
use Rattle.point_order.specs.Spheres.{is_outside}
use Rattle.point_order.specs.Facets.{points_of}
use Rattle.point_order.specs.Sets.{IsIn, IsAscending, is_among}
use Rattle.point_order.specs.Subsets.{subsets}
use Rattle.point_order.specs.Complex.{complex, is_full, is_open}
use Rattle.del_laws.specs.Vertices.{are_among, is_full_cell, is_open_cell}
use Rattle.del_laws.specs.Listed.{IsListedFull, IsListedOpen, IsListed, DefinitionIsCell, ListedIsCell, CellIsListed}

-- ---- parts of a list

-- a part has members of the list
pub part_inside : (k : ℕ) (s q : List ℕ) → IsIn q (subsets k s) → (p : ℕ) → IsIn p q → IsIn p s
part_inside zero s q m p i = elim m [
  | inl e ↦ absurd (subst (λ (l : List ℕ). IsIn p l) (sym e) i)
  | inr none ↦ absurd none
]
part_inside (suc k) [] q m p i = absurd m
part_inside (suc k) (x ∷ s) q m p i = elim (from_append q (map (λ r. x ∷ r) (subsets k s)) (subsets (suc k) s) m) [
  | inl l ↦ (
      let r = mapped_from (λ r. x ∷ r) q (subsets k s) l in
      elim (first_or_later r.0 r.2) [ inl e ↦ inl e | inr j ↦ inr (part_inside k s r.0 r.1 p j) ])
  | inr l ↦ inr (part_inside (suc k) s q l p i)
]
  where
    -- it is the first, or later
    first_or_later : (r : List ℕ) → x ∷ r ≡ q → (x ≡ p) ⊎ IsIn p r
    first_or_later r e = subst (λ (l : List ℕ). IsIn p l) (sym e) i

-- a part of an ascending list is ascending
pub part_ascending : (k : ℕ) (s q : List ℕ) → IsAscending s → IsIn q (subsets k s) → IsAscending q
part_ascending zero s q a m = elim m [ inl e ↦ subst IsAscending e tt | inr none ↦ absurd none ]
part_ascending (suc k) [] q a m = absurd m
part_ascending (suc k) (x ∷ s) q a m = elim (from_append q (map (λ r. x ∷ r) (subsets k s)) (subsets (suc k) s) m) [
  | inl l ↦ (
      let r = mapped_from (λ r. x ∷ r) q (subsets k s) l in
      subst IsAscending r.2 (
        first_below x r.0 (λ y i. below_each x s a.0 a.1 y (part_inside k s r.0 r.1 y i)),
        part_ascending k s r.0 a.1 r.1,
      ))
  | inr l ↦ part_ascending (suc k) s q a.1 l
]

-- no number is below itself
not_less : (n : ℕ) → n < n → ⊥
not_less n e = omega arith

-- an ascending list of members is a part
pub part_true : (s q : List ℕ) → IsAscending s → IsAscending q → ((p : ℕ) → IsIn p q → IsIn p s) →
    IsIn q (subsets (length q) s)
part_true s [] a b f = inl refl
part_true [] (x ∷ q) a b f = absurd (f x (inl refl))
part_true (y ∷ s) (x ∷ q) a b f = elim (f x (inl refl)) [
  | inl e ↦ in_left (x ∷ q) (map (λ r. y ∷ r) (subsets (length q) s)) (subsets (suc (length q)) s)
      (subst (λ v. IsIn (v ∷ q) (map (λ r. y ∷ r) (subsets (length q) s))) e
      (mapped_true (λ r. y ∷ r) q (subsets (length q) s) (part_true s q a.1 b.1
      (λ p i. later p (less_at e (below_each x q b.0 b.1 p i)) (f p (inr i))))))
  | inr r ↦ in_right (x ∷ q) (map (λ r. y ∷ r) (subsets (length q) s)) (subsets (suc (length q)) s)
      (part_true s (x ∷ q) a.1 b (λ p i. later p (elim i [
        | inl e ↦ subst (λ v. y < v) e (below_each y s a.0 a.1 x r)
        | inr j ↦ less_chain y x p (below_each y s a.0 a.1 x r) (below_each x q b.0 b.1 p j)
      ]) (f p i)))
]
  where
    -- above the first, so later
    later : (p : ℕ) → y < p → IsIn p (y ∷ s) → IsIn p s
    later p l m = elim m [ inl e ↦ absurd (not_less y (subst (λ v. y < v) (sym e) l)) | inr r ↦ r ]

    -- of equal numbers
    less_at : {p : ℕ} → y ≡ x → x < p → y < p
    less_at {p} e l = subst (λ v. v < p) (sym e) l

-- ---- members

-- four points, ascending, that pass the definition
of_four : (s q : List ℕ) → IsAscending q → ((p : ℕ) → IsIn p q → IsIn p s) → is_full s q ≡ true → IsListedFull s q
of_four s [] a f t = cc
of_four s (x ∷ []) a f t = cc
of_four s (x ∷ y ∷ []) a f t = cc
of_four s (x ∷ y ∷ z ∷ []) a f t = cc
of_four s (a ∷ b ∷ c ∷ d ∷ []) l f t = record {
  a = a;
  b = b;
  c = c;
  d = d;
  is = refl;
  first = l.0;
  second = l.1.0;
  third = l.1.1.0;
  test = both_true (are_among (a ∷ b ∷ c ∷ d ∷ []) s) (is_full s (a ∷ b ∷ c ∷ d ∷ []))
      (all_true (λ p. is_among p s) (a ∷ b ∷ c ∷ d ∷ []) (λ e m. among_true e s (f e m))) t;
}
of_four s (a ∷ b ∷ c ∷ d ∷ e ∷ q) l f t = cc

-- three points, ascending, that pass the definition
of_three : (s t : List ℕ) → IsAscending t → ((p : ℕ) → IsIn p t → IsIn p s) → is_open s t ≡ true → IsListedOpen s t
of_three s [] a f t = cc
of_three s (x ∷ []) a f t = cc
of_three s (x ∷ y ∷ []) a f t = cc
of_three s (a ∷ b ∷ c ∷ []) l f t = record {
  a = a;
  b = b;
  c = c;
  is = refl;
  first = l.0;
  second = l.1.0;
  test = both_true (are_among (a ∷ b ∷ c ∷ []) s) (is_open s (a ∷ b ∷ c ∷ []))
      (all_true (λ p. is_among p s) (a ∷ b ∷ c ∷ []) (λ e m. among_true e s (f e m))) t;
}
of_three s (a ∷ b ∷ c ∷ d ∷ t) l f e = cc

-- what passes the definition of its kind is a cell
pub definition_is_cell : DefinitionIsCell
definition_is_cell s (Full q) a f t = of_four s q a f t
definition_is_cell s (Open q) a f t = of_three s q a f t

-- a cell of its kind
pub same_full : (q r : List ℕ) → Full q ≡ Full r → q ≡ r
same_full q r e = cc

-- a cell of its kind
pub same_open : (q r : List ℕ) → Open q ≡ Open r → q ≡ r
same_open q r e = cc

-- no cell is of both kinds
pub not_both_kinds : (q r : List ℕ) → Full q ≡ Open r → ⊥
not_both_kinds q r e = cc

-- what is listed
pub listed_is_cell : ListedIsCell
unfolding complex
listed_is_cell s (Full q) a m =
    elim (from_append (Full q) (map Full (filter (is_full s) (subsets 4 s)))
    (map Open (filter (is_open s) (subsets 3 s))) m) [
      | inl l ↦ (
          let r = mapped_from Full (Full q) (filter (is_full s) (subsets 4 s)) l in
          let i = filtered_from (is_full s) (subsets 4 s) r.0 r.1 in
          subst (λ (v : List ℕ). IsListedFull s v) (same_full r.0 q r.2)
          (of_four s r.0 (part_ascending 4 s r.0 a i.0) (part_inside 4 s r.0 i.0) i.1))
      | inr l ↦ (
          let r = mapped_from Open (Full q) (filter (is_open s) (subsets 3 s)) l in
          absurd (not_both_kinds q r.0 (sym r.2)))
    ]
listed_is_cell s (Open q) a m =
    elim (from_append (Open q) (map Full (filter (is_full s) (subsets 4 s)))
    (map Open (filter (is_open s) (subsets 3 s))) m) [
      | inl l ↦ (
          let r = mapped_from Full (Open q) (filter (is_full s) (subsets 4 s)) l in
          absurd (not_both_kinds r.0 q r.2))
      | inr l ↦ (
          let r = mapped_from Open (Open q) (filter (is_open s) (subsets 3 s)) l in
          let i = filtered_from (is_open s) (subsets 3 s) r.0 r.1 in
          subst (λ (v : List ℕ). IsListedOpen s v) (same_open r.0 q r.2)
          (of_three s r.0 (part_ascending 3 s r.0 a i.0) (part_inside 3 s r.0 i.0) i.1))
    ]

-- the points of a cell that passes are in the set
points_in : (s q : List ℕ) (b : Bool) → (are_among q s && b) ≡ true → (p : ℕ) → IsIn p q → IsIn p s
points_in s q b t p m = among_from p s (all_from (λ p. is_among p s) q (first_true (are_among q s) b t) p m)

-- four points that pass are listed
four_listed : (s : List ℕ) (a b c d : ℕ) → IsAscending s → a < b → b < c → c < d → is_full_cell s a b c d ≡ true →
    IsIn (Full (a ∷ b ∷ c ∷ d ∷ [])) (complex s)
unfolding complex
four_listed s a b c d l f g h t =
    in_left (Full (a ∷ b ∷ c ∷ d ∷ [])) (map Full (filter (is_full s) (subsets 4 s)))
    (map Open (filter (is_open s) (subsets 3 s)))
    (mapped_true Full (a ∷ b ∷ c ∷ d ∷ []) (filter (is_full s) (subsets 4 s))
    (filtered_true (is_full s) (subsets 4 s) (a ∷ b ∷ c ∷ d ∷ [])
    (part_true s (a ∷ b ∷ c ∷ d ∷ []) l (f, (g, (h, (tt, tt))))
    (points_in s (a ∷ b ∷ c ∷ d ∷ []) (is_full s (a ∷ b ∷ c ∷ d ∷ [])) t))
    (second_true (are_among (a ∷ b ∷ c ∷ d ∷ []) s) (is_full s (a ∷ b ∷ c ∷ d ∷ [])) t)))

-- three points that pass are listed
three_listed : (s : List ℕ) (a b c : ℕ) → IsAscending s → a < b → b < c → is_open_cell s a b c ≡ true →
    IsIn (Open (a ∷ b ∷ c ∷ [])) (complex s)
unfolding complex
three_listed s a b c l f g t =
    in_right (Open (a ∷ b ∷ c ∷ [])) (map Full (filter (is_full s) (subsets 4 s)))
    (map Open (filter (is_open s) (subsets 3 s)))
    (mapped_true Open (a ∷ b ∷ c ∷ []) (filter (is_open s) (subsets 3 s))
    (filtered_true (is_open s) (subsets 3 s) (a ∷ b ∷ c ∷ [])
    (part_true s (a ∷ b ∷ c ∷ []) l (f, (g, (tt, tt))) (points_in s (a ∷ b ∷ c ∷ []) (is_open s (a ∷ b ∷ c ∷ [])) t))
    (second_true (are_among (a ∷ b ∷ c ∷ []) s) (is_open s (a ∷ b ∷ c ∷ [])) t)))

-- each cell is listed
pub cell_is_listed : CellIsListed
cell_is_listed s (Full q) a l =
    subst (λ (v : List ℕ). IsIn (Full v) (complex s)) (sym l.is)
    (four_listed s l.a l.b l.c l.d a l.first l.second l.third l.test)
cell_is_listed s (Open q) a l =
    subst (λ (v : List ℕ). IsIn (Open v) (complex s)) (sym l.is) (three_listed s l.a l.b l.c a l.first l.second l.test)

-- ---- what a listed cell shows

-- its points are in the set
pub listed_inside : (s : List ℕ) (c : Cell) → IsListed s c → (p : ℕ) → IsIn p (points_of c) → IsIn p s
listed_inside s (Full q) l p m =
    points_in s (l.a ∷ l.b ∷ l.c ∷ l.d ∷ []) (is_full s (l.a ∷ l.b ∷ l.c ∷ l.d ∷ [])) l.test p
    (subst (λ (v : List ℕ). IsIn p v) l.is m)
listed_inside s (Open q) l p m =
    points_in s (l.a ∷ l.b ∷ l.c ∷ []) (is_open s (l.a ∷ l.b ∷ l.c ∷ [])) l.test p
    (subst (λ (v : List ℕ). IsIn p v) l.is m)

-- the points of a Full cell are independent
pub full_not_flat : (s : List ℕ) (a b c d : ℕ) → is_full_cell s a b c d ≡ true → is_flat a b c d ≡ false
full_not_flat s a b c d t =
    let each = list_all (λ e. is_among e (a ∷ b ∷ c ∷ d ∷ []) || is_outside a b c d e) s in
    not_from (is_flat a b c d) (first_true (not (is_flat a b c d)) each
    (second_true (are_among (a ∷ b ∷ c ∷ d ∷ []) s) (is_full s (a ∷ b ∷ c ∷ d ∷ [])) t))

-- whether four points in a list are a Full cell
abbrev four_pass : List ℕ → List ℕ → Bool
four_pass s (a ∷ b ∷ c ∷ d ∷ []) = is_full_cell s a b c d
four_pass s _ = false

-- four points that are listed pass the test
pub listed_full : (s : List ℕ) (a b c d : ℕ) → IsListedFull s (a ∷ b ∷ c ∷ d ∷ []) → is_full_cell s a b c d ≡ true
listed_full s a b c d l = subst (λ (v : List ℕ). four_pass s v ≡ true) (sym l.is) l.test

-- whether three points in a list are an Open cell
abbrev three_pass : List ℕ → List ℕ → Bool
three_pass s (a ∷ b ∷ c ∷ []) = is_open_cell s a b c
three_pass s _ = false

-- three points that are listed pass the test
pub listed_open : (s : List ℕ) (a b c : ℕ) → IsListedOpen s (a ∷ b ∷ c ∷ []) → is_open_cell s a b c ≡ true
listed_open s a b c l = subst (λ (v : List ℕ). three_pass s v ≡ true) (sym l.is) l.test
