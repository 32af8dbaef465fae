-- When there are few parts, and at which alphas that can come.
use Rattle.std.proofs.Common.{◌≡◌, refl, sym, subst, ap, ◌∙◌, ℕ, zero, suc, ◌<◌, ◌≤◌, ◌+◌, ◌^◌, inl, inr, Bool, true}
use Rattle.std.proofs.Common.{false, List, [], ◌∷◌, map, take, length, get_or, arith, nat_le}
use Rattle.std.specs.Prelude.{◌⊎◌, ◌↔◌, IsTrue}
use Rattle.std.specs.List.{AllZip, list_all, list_any}
use Rattle.std.specs.List.Sorted.{IsStrictlySortedBy}
use Rattle.std.specs.Ordering.{nat_cmp}
use Rattle.std.specs.Cmp.Lexicographic.{slice_cmp}
use Rattle.std.specs.declared.cmp.Ordering.TheVariants.{Less}
use Rattle.std.proofs.lemmas.Bool.{cases_lt}
use Rattle.std.proofs.lemmas.Bool.Decides.{nat_tests}
use Rattle.std.proofs.lemmas.List.{length-map, take_all}
use Rattle.list_laws.specs.Lists.{IsAscending, IsIn}
use Rattle.list_laws.proofs.Cited.{all_from, all_true, among_from, among_true, any_from, any_true, both_true, each_by}
use Rattle.list_laws.proofs.Cited.{filtered_from, filtered_true, first_true, flat_from, in_flat, in_take_more}
use Rattle.list_laws.proofs.Cited.{mapped_from, mapped_true, rises, same_filter, second_true, sorted_map}
use Rattle.point_order.specs.declared.cell.Cell.{Cell}
use Rattle.point_order.specs.declared.cell.Cell.TheVariants.{Full}
use Rattle.point_order.specs.CellOrder.{cell_cmp}
use Rattle.point_order.specs.Complex.{complex}
use Rattle.point_order.specs.Facets.{points_of}
use Rattle.point_order.specs.Sets.{is_among}
use Rattle.point_order.specs.Solid.{is_solid}
use Rattle.del_laws.proofs.Cited.{same_members}
use Rattle.face_list.specs.Faces.{cells_with, full_cells, points_with_cells}
use Rattle.face_list.specs.Seen.{FaceLists}
use Rattle.face_list.proofs.Cited.{full_cell_is_listed, listed_is_full_cell, points_of_complex}
use Rattle.alpha_complex.specs.Admitted.{is_admitted, is_admitted_cell, is_within}
use Rattle.alpha_complex.specs.Condition.{AreFacesOf}
use Rattle.alpha_complex.specs.Judged.{is_small_cell}
use Rattle.alpha_complex.specs.Leasts.{IsLeastOf}
use Rattle.alpha_complex.specs.Shapes.{shape_of}
use Rattle.alpha_complex.proofs.Cited.{cells_are}
use Rattle.solid_parts.specs.LeastAlpha.{IsCompact, IsCovered, IsStart}
use Rattle.solid_parts.specs.Levels.{AreLevels}
use Rattle.solid_parts.specs.Parts.{AreSolidParts, InOrder, first_of}
use Rattle.solid_parts.proofs.Gathered.{place_of}
use Rattle.solid_parts.proofs.Solid.{small_full}
use Rattle.alpha_complex.proofs.Cited.{le_true, le_false}
use Rattle.list_laws.proofs.Cited.{list_against as not_both_before}
use Rattle.solid_parts.proofs.Merging.{own_value}
use Rattle.solid_parts.proofs.Gathered.{has_first}

-- ---- the parts are determined

-- the first cell of a list in order is the least
first_least : (part : List (List ℕ)) (r : List ℕ) → InOrder part → IsIn r part → (first_of part ≡ r) ⊎
    (slice_cmp nat_cmp (first_of part) r ≡ Less)
unfolding IsStrictlySortedBy
first_least [] r s i = absurd i
first_least (q ∷ part) r s (inl e) = inl e
first_least (q ∷ part) r s (inr i) = inr (each_by (λ y. slice_cmp nat_cmp q y ≡ Less) part s.0 r i)

-- the first cell of a part is that of one in any other such list
first_again : (cells : List (List ℕ)) (ps qs : List (List (List ℕ))) → AreSolidParts cells ps → AreSolidParts cells qs →
    (x : List ℕ) → IsIn x (map first_of ps) → IsIn x (map first_of qs)
first_again cells ps qs a b x i =
    let p = mapped_from first_of x ps i in
    let there = subst (λ (v : List ℕ). IsIn v p.0) p.2 (has_first p.0 (a.filled p.0 p.1)) in
    let member = (a.all x).0 (in_flat (λ v. v) ps p.0 x p.1 there) in
    let q = flat_from (λ v. v) qs x ((b.all x).1 member) in
    let y = first_of q.0 in
    let first = has_first q.0 (b.filled q.0 q.1) in
    let in_cells = (b.all y).0 (in_flat (λ v. v) qs q.0 y q.1 first) in
    let joined = (b.joined q.0 x y q.1 q.2 in_cells).0 first in
    let here = (a.joined p.0 x y p.1 there in_cells).1 joined in
    let same : y ≡ x = elim (first_least q.0 x (b.ordered q.0 q.1) q.2) [
      | inl e ↦ e
      | inr e ↦ elim (first_least p.0 y (a.ordered p.0 p.1) here) [
        | inl f ↦ sym f ∙ p.2
        | inr f ↦ absurd (not_both_before y x e (subst (λ (v : List ℕ). slice_cmp nat_cmp v y ≡ Less) p.2 f))
      ]
    ] in
    subst (λ (v : List ℕ). IsIn v (map first_of qs)) same (mapped_true first_of q.0 qs q.1)

-- what is in a list of Full cells is Full
full_only : (xs : List (List ℕ)) (c : Cell) → IsIn c (map Full xs) → (q : List ℕ) × IsIn q xs × (Full q ≡ c)
full_only xs c i = mapped_from Full c xs i

-- lists with the same Full cells are equally long
unmapped : (xs ys : List (List ℕ)) → map Full xs ≡ map Full ys → length xs ≡ length ys
unmapped xs ys e = sym (length-map xs Full) ∙ ap length e ∙ length-map ys Full

-- so any two such lists are equally long
pub same_count : (cells : List (List ℕ)) (ps qs : List (List (List ℕ))) → AreSolidParts cells ps →
    AreSolidParts cells qs →
    length ps ≡ length qs
same_count cells ps qs a b =
    let order = λ (xs : List (List ℕ)) (s : InOrder xs). sorted_map (slice_cmp nat_cmp) cell_cmp Full xs s (λ q r e. e)
    in
    let one = same_members (map Full (map first_of ps)) (map Full (map first_of qs)) (order (map first_of ps) a.order)
    (order (map first_of qs) b.order)
    (λ c i. let r = full_only (map first_of ps) c i in subst (λ (v : Cell). IsIn v (map Full (map first_of qs))) r.2
    (mapped_true Full r.0 (map first_of qs) (first_again cells ps qs a b r.0 r.1)))
    (λ c i. let r = full_only (map first_of qs) c i in subst (λ (v : Cell). IsIn v (map Full (map first_of ps))) r.2
    (mapped_true Full r.0 (map first_of ps) (first_again cells qs ps b a r.0 r.1))) in
    sym (length-map ps first_of) ∙ unmapped (map first_of ps) (map first_of qs) one ∙ length-map qs first_of

-- ---- the test

-- and what is found so is
pub le_from : (m n : ℕ) → nat_le m n ≡ true → m ≤ n
le_from m n e = grind (arith, nat_tests)

-- where every point is covered, few parts are few enough exactly where the test says so
pub compact_test :
    (s : List ℕ) (k alpha start n : ℕ) (parts : List (List (List ℕ))) → alpha < 2 ^ 34 → start ≤ alpha →
    IsStart s alpha start → AreSolidParts (shape_of s alpha).cells parts → n ≡ length parts →
    IsTrue (nat_le n k) ↔ ((alpha < 2 ^ 34) × IsCompact s k alpha)
compact_test s k alpha start n parts small from at a e = (
  λ t. (
    small,
    record {
      covered = at.0 from;
      parts = parts;
      are_parts = a;
      few =
          subst (λ m. m ≤ k) e (le_from n k t);
    },
  ),
  λ c. le_true n k (subst (λ m. m ≤ k) (sym (e ∙ same_count (shape_of s alpha).cells parts c.1.parts a c.1.are_parts))
      c.1.few),
)

-- ---- where every point is covered

module _ (s : List ℕ) (faces : FaceLists) (alpha : ℕ) (h : AreFacesOf s faces) where
  -- an admitted cell is Full and within alpha
  covered_from : (p : ℕ) → list_any (is_small_cell alpha) (cells_with (p ∷ []) (complex s)) ≡ true → IsCovered s alpha p
  covered_from p t =
      let c = any_from (is_small_cell alpha) (cells_with (p ∷ []) (complex s)) t in
      let f = small_full alpha c.0 c.2 in
      let m = filtered_from (λ c. list_all (λ q. is_among q (points_of c)) (p ∷ [])) (complex s) c.0 c.1 in
      let listed = subst (λ (v : Cell). IsIn v (complex s)) f.1 m.0 in
      let there = subst (λ (v : Cell). list_all (λ q. is_among q (points_of v)) (p ∷ []) ≡ true) f.1 m.1 in (
        f.0,
        subst (λ (v : List (List ℕ)). IsIn f.0 v) (cells_are s faces alpha h)
            (filtered_true (is_within alpha) (full_cells faces.cells) f.0
            (subst (λ (v : List Cell). IsIn f.0 (full_cells v)) (sym h.cells)
            (full_cell_is_listed (complex s) f.0 listed)) f.2),
        among_from p f.0 (all_from (λ q. is_among q f.0) (p ∷ []) there p (inl refl)),
      )

  -- and a point that is in such a cell is found to be
  covered_true : (p : ℕ) → IsCovered s alpha p → list_any (is_small_cell alpha) (cells_with (p ∷ []) (complex s)) ≡ true
  covered_true p c =
      let f = filtered_from (is_within alpha) (full_cells faces.cells) c.0
      (subst (λ (v : List (List ℕ)). IsIn c.0 v) (sym (cells_are s faces alpha h)) c.1) in
      let listed = listed_is_full_cell (complex s) c.0 (subst (λ (v : List Cell). IsIn c.0 (full_cells v)) h.cells f.0)
      in
      any_true (is_small_cell alpha) (cells_with (p ∷ []) (complex s)) (Full c.0)
      (filtered_true (λ c. list_all (λ q. is_among q (points_of c)) (p ∷ [])) (complex s) (Full c.0) listed
      (all_true (λ q. is_among q c.0) (p ∷ []) (λ q i. among_true q c.0
      (elim i [ inl e ↦ subst (λ n. IsIn n c.0) e c.2 | inr none ↦ absurd none ]))))
      f.1

  -- so the cells around the points tell whether all are
  all_covered : (ps : List ℕ) →
      (list_all (list_any (is_small_cell alpha)) (map (λ f. f.1) (points_with_cells ps (complex s))) ≡ true)
      ↔ ((p : ℕ) → IsIn p ps → IsCovered s alpha p)
  all_covered [] = (λ t p i. absurd i, λ f. refl)
  all_covered (p ∷ ps) =
      let first = list_any (is_small_cell alpha) (cells_with (p ∷ []) (complex s)) in
      let rest = list_all (list_any (is_small_cell alpha)) (map (λ f. f.1) (points_with_cells ps (complex s))) in (
        λ t q i. elim i [
          | inl e ↦ subst (IsCovered s alpha) e (covered_from p (first_true first rest t))
          | inr j ↦ (all_covered ps).0 (second_true first rest t) q j
        ],
        λ f. both_true first rest (covered_true p (f p (inl refl))) ((all_covered ps).1 (λ q m. f q (inr m))),
      )

-- the greatest number of a point is where all come to be covered
pub start_is :
    (s : List ℕ) (faces : FaceLists) (start alpha : ℕ) → AreFacesOf s faces →
    IsLeastOf (λ a. list_all (list_any (is_small_cell a)) (map (λ f. f.1) faces.points)) start →
    alpha < 2 ^ 34 → IsStart s alpha start
start_is s faces start alpha h e l =
    let p = h.points ∙ ap (λ (v : List ℕ). points_with_cells v (complex s))
    (points_of_complex s h.ascending h.keys h.solid) in
    let c = all_covered s faces alpha h s in
    let told = subst (λ (v : List (ℕ × List Cell)). list_all (list_any (is_small_cell alpha)) (map (λ f. f.1) v)
    ≡ nat_le start alpha) p (e alpha l) in
    (λ m. c.0 (told ∙ le_true start alpha m), λ f. le_from start alpha (sym told ∙ c.1 f))

-- ---- only the numbers of cells matter

-- the greatest of some numbers that is at most b
greatest : (ns : List ℕ) (b : ℕ) → ((n : ℕ) → IsIn n ns → n ≤ b → ⊥) ⊎
    ((a : ℕ) × IsIn a ns × (a ≤ b) × ((n : ℕ) → IsIn n ns → n ≤ b → n ≤ a))
greatest [] b = inl (λ n i. absurd i)
greatest (m ∷ ns) b = elim (greatest ns b) [
  | inl none ↦ elim (cases_lt b m) [
    | inl over ↦ inl (λ n i l. elim i [ inl e ↦ high n e over l | inr j ↦ none n j l ])
    | inr l ↦ inr (m, inl refl, l, λ n i k. elim i [ inl e ↦ omega (arith, e) | inr j ↦ absurd (none n j k) ])
  ]
  | inr r ↦ elim (cases_lt b m) [
    | inl over ↦ inr (r.0, inr r.1, r.2, λ n i k. elim i [ inl e ↦ absurd (high n e over k) | inr j ↦ r.3 n j k ])
    | inr l ↦ elim (cases_lt r.0 m) [
      | inl up ↦ inr (
        m,
        inl refl,
        l,
        λ n i k. elim i [
          | inl e ↦ omega (arith, e)
          | inr j ↦
              (let t = r.3 n j k in omega (arith, t, up))
        ],
      )
      | inr down ↦ inr (r.0, inr r.1, r.2, λ n i k. elim i [ inl e ↦ omega (arith, e, down) | inr j ↦ r.3 n j k ])
    ]
  ]
]
  where
    high : (n : ℕ) → m ≡ n → b < m → n ≤ b → ⊥
    high n e o l = omega (arith, e, o, l)

-- the number of a Full cell
number_for : (s : List ℕ) (cells : List Cell) (ns : List ℕ) → AllZip
    (λ c n. IsLeastOf (λ alpha. is_admitted_cell s alpha c) n) cells ns → (q : List ℕ) → IsIn (Full q) cells
    → (n : ℕ) × IsIn n ns × IsLeastOf (λ alpha. is_admitted s alpha q) n
number_for s [] ns z q i = absurd i
number_for s (c ∷ cells) [] z q i = absurd z
number_for s (c ∷ cells) (n ∷ ns) z q (inl e) = (
  n,
  inl refl,
  subst
      (λ (v : Cell). IsLeastOf (λ alpha. is_admitted_cell s alpha v) n) e z.0,
)
number_for s (c ∷ cells) (n ∷ ns) z q (inr i) = let r = number_for s cells ns z.1 q i in (r.0, inr r.1, r.2)

-- a solid set has a point
not_empty : (s : List ℕ) → is_solid s ≡ true → (p : ℕ) × IsIn p s
not_empty [] e = cc
not_empty (p ∷ s) e = (p, inl refl)

-- at an alpha and at the greatest number of a cell that is at most it the same holds
pub from_number :
    (s : List ℕ) (ns : List ℕ) (k b : ℕ) → is_solid s ≡ true → AllZip
    (λ c n. IsLeastOf (λ alpha. is_admitted_cell s alpha c) n) (complex s) ns → b < 2 ^ 34 → IsCompact s k b →
    (a : ℕ) × IsIn a ns × (a ≤ b) × IsCompact s k a
from_number s ns k b solid z l c = elim (greatest ns b) [
  | inl none ↦
      let p = not_empty s solid in
      let q = c.covered p.0 p.1 in
      let f = filtered_from (is_admitted s b) (full_cells (complex s)) q.0 q.1 in
      let n = number_for s (complex s) ns z q.0 (listed_is_full_cell (complex s) q.0 f.0) in
      absurd (none n.0 n.1 (le_from n.0 b (sym (n.2 b l) ∙ f.1)))
  | inr r ↦ (r.0, r.1, r.2, moved r.0 r.2 r.3)
]
  where
    alike : (a : ℕ) → a ≤ b → ((n : ℕ) → IsIn n ns → n ≤ b → n ≤ a) → (n : ℕ) → IsIn n ns → nat_le n a ≡ nat_le n b
    alike a below best n i = elim (cases_lt b n) [
      | inl over ↦ le_false n a (omega (arith, over, below)) ∙ sym (le_false n b over)
      | inr under ↦ le_true n a (best n i under) ∙ sym (le_true n b under)
    ]

    one : (a : ℕ) → a ≤ b → ((n : ℕ) → IsIn n ns → n ≤ b → n ≤ a) → (q : List ℕ) → IsIn q (full_cells (complex s)) →
        is_admitted s b q ≡ is_admitted s a q
    one a below best q i =
        let n = number_for s (complex s) ns z q (listed_is_full_cell (complex s) q i) in
        n.2 b l ∙ sym (alike a below best n.0 n.1) ∙ sym (n.2 a (omega (arith, below, l)))

    cells : (a : ℕ) → a ≤ b → ((n : ℕ) → IsIn n ns → n ≤ b → n ≤ a) → (shape_of s b).cells ≡ (shape_of s a).cells
    cells a below best = same_filter (is_admitted s b) (is_admitted s a) (full_cells (complex s)) (one a below best)

    moved : (a : ℕ) → a ≤ b → ((n : ℕ) → IsIn n ns → n ≤ b → n ≤ a) → IsCompact s k a
    moved a below best =
        let same = cells a below best in
        record {
          covered = λ p i. let q = c.covered p i in (q.0, subst (λ (v : List (List ℕ)). IsIn q.0 v) same q.1, q.2);
          parts = c.parts;
          are_parts = subst (λ (v : List (List ℕ)). AreSolidParts v c.parts) same c.are_parts;
          few = c.few;
        }

-- ---- the first number at which it holds

-- a member of an ascending list that is less than that of an index stands before it
stands_before : (xs : List ℕ) (i a : ℕ) → IsAscending xs → i < length xs → IsIn a xs → a < get_or xs i 0 →
    IsIn a (take i xs)
stands_before xs i a up h m l =
    let p = place_of xs a 0 m in
    elim (cases_lt p.0 i) [
      | inl b ↦ subst (λ n. IsIn n (take i xs)) p.2 (in_front xs p.0 i b p.1)
      | inr b ↦ absurd (late p.0 p.2 b p.1)
    ]
  where
    in_front : (ys : List ℕ) (j n : ℕ) → j < n → j < length ys → IsIn (get_or ys j 0) (take n ys)
    in_front [] j n b k = absurd (omega (arith, k))
    in_front (y ∷ ys) j zero b k = absurd (omega (arith, b))
    in_front (y ∷ ys) zero (suc n) b k = inl refl
    in_front (y ∷ ys) (suc j) (suc n) b k = inr (in_front ys j n (omega (arith, b)) (omega (arith, k)))

    late : (j : ℕ) → get_or xs j 0 ≡ a → i ≤ j → j < length xs → ⊥
    late j e b k = elim (cases_lt i j) [
      | inl c ↦ (let r = rises xs i j 0 up c k in omega (arith, r, e, l))
      | inr c ↦ (let same : i ≡ j = omega (arith, b, c) in let f =
          ap (λ n. get_or xs n 0) same in omega (arith, e, f, l))
    ]

-- none of the numbers before the place does
abbrev pub NoneBefore : List ℕ → ℕ → List ℕ → ℕ → Type 0
NoneBefore s k levels i = (n : ℕ) → IsIn n (take i levels) → (n < 2 ^ 34) × IsCompact s k n → ⊥

-- the first number at which it holds is the least alpha
pub found :
    (s : List ℕ) (ns levels : List ℕ) (k i level : ℕ) → is_solid s ≡ true →
    AllZip (λ c n. IsLeastOf (λ alpha. is_admitted_cell s alpha c) n) (complex s) ns → AreLevels ns levels →
    i < length levels →
    level ≡ get_or levels i 0 → NoneBefore s k levels i → (level < 2 ^ 34) × IsCompact s k level → (level < 2 ^ 34) ×
    IsCompact s k level × ((b : ℕ) → b < level → IsCompact s k b → ⊥)
found s ns levels k i level solid z v h e none c = (
  c.0,
  c.1,
  λ b l d.
      let small = under b l c.0 in
      let r = from_number s ns k b solid z small d in
      none r.0 (stands_before levels i r.0 v.ascending h ((v.same r.0).1 r.1) (first r.0 b r.2 l))
      (less r.0 b r.2 small, r.3),
)
  where
    under : (b : ℕ) → b < level → level < 2 ^ 34 → b < 2 ^ 34
    under b l m = omega (arith, l, m)

    less : (a b : ℕ) → a ≤ b → b < 2 ^ 34 → a < 2 ^ 34
    less a b l m = omega (arith, l, m)

    first : (a b : ℕ) → a ≤ b → b < level → a < get_or levels i 0
    first a b l m = subst (λ n. a < n) e (omega (arith, l, m))

-- where it holds at none of them, it holds at no alpha
pub not_found :
    (s : List ℕ) (ns levels : List ℕ) (k i : ℕ) → is_solid s ≡ true →
    AllZip (λ c n. IsLeastOf (λ alpha. is_admitted_cell s alpha c) n) (complex s) ns → AreLevels ns levels →
    length levels ≤ i →
    NoneBefore s k levels i → (b : ℕ) → b < 2 ^ 34 → IsCompact s k b → ⊥
not_found s ns levels k i solid z v h none b l d =
    let r = from_number s ns k b solid z l d in
    none r.0 (subst (λ (w : List ℕ). IsIn r.0 w) (sym (take_all i levels h)) ((v.same r.0).1 r.1)) (less r.0 r.2, r.3)
  where
    less : (a : ℕ) → a ≤ b → a < 2 ^ 34
    less a m = omega (arith, l, m)

-- ---- as the loop tells it

-- a test that failed does not pass
not_false : (b : Bool) → b ≡ false → IsTrue b → ⊥
not_false b e t = cc

-- one number more at which it does not hold
pub none_more : (s : List ℕ) (k : ℕ) (levels : List ℕ) (i : ℕ) (b : Bool) → i < length levels → b ≡ false →
    (IsTrue b ↔ ((get_or levels i 0 < 2 ^ 34) × IsCompact s k (get_or levels i 0))) → NoneBefore s k levels i →
    NoneBefore s k levels (i + 1)
none_more s k levels i b h e t none n m c = elim (in_take_more levels i (get_or levels i 0) n h (own_value levels i h)
    m) [
      | inl j ↦ none n j c
      | inr f ↦ not_false b e (t.1 (subst (λ x. (x < 2 ^ 34) × IsCompact s k x) (sym f) c))
    ]

-- what is told of the cells, by lists that are lent
pub lent_levels : (numbers levels lent_numbers lent : List ℕ) → lent_numbers ≡ numbers → lent ≡ levels →
    AreLevels lent_numbers levels → AreLevels numbers lent
lent_levels numbers levels lent_numbers lent e f a = subst (AreLevels numbers) (sym f)
    (subst (λ (v : List ℕ). AreLevels v levels) e a)
