-- What the judging by lists comes to: which faces are admitted, and of which kind.
use Rattle.std.proofs.Common.{◌≡◌, refl, sym, subst, ap, ◌∙◌, ℕ, ◌<◌, inl, inr, Bool, true, false, List, [], ◌∷◌, ◌++◌}
use Rattle.std.proofs.Common.{map, length, arith}
use Rattle.std.specs.Prelude.{◌&&◌, ◌||◌}
use Rattle.std.specs.List.{filter, list_all, list_any}
use Rattle.list_laws.proofs.Cited.{any_from, any_true, both_true, filtered_from, filtered_true, first_true, from_append}
use Rattle.list_laws.proofs.Cited.{in_left, in_right, left_true, one_true, right_true, same_test, second_true}
use Rattle.point_order.specs.declared.cell.Cell.{Cell}
use Rattle.point_order.specs.declared.cell.Cell.TheVariants.{Full, Open}
use Rattle.point_order.specs.declared.cell.Facet.{Facet}
use Rattle.point_order.specs.declared.cell.Facet.TheVariants.{Three, Two}
use Rattle.point_order.specs.Complex.{complex}
use Rattle.point_order.specs.Facets.{facets_of, points_of}
use Rattle.point_order.specs.Sets.{IsIn, IsAscending}
use Rattle.point_order.specs.Solid.{is_solid}
use Rattle.point_order.specs.Subsets.{subsets}
use Rattle.del_laws.specs.Keys.{AreKeys}
use Rattle.del_laws.proofs.Cited.{listed_every_point, listed_is_cell, part_ascending, part_inside, part_true}
use Rattle.face_list.specs.Faces.{full_cells, parts_in, cells_with, points_with_cells, with_cells_around}
use Rattle.face_list.proofs.Cited.{full_cell_is_listed, listed_is_full_cell, listed_is_part, part_is_listed}
use Rattle.face_list.proofs.Cited.{part_length}
use Rattle.gabriel_faces.specs.Gabriel.{is_gabriel}
use Rattle.alpha_complex.specs.Admitted.{is_within, faces_inside, contains, is_small, is_admitted, is_admitted_cell}
use Rattle.alpha_complex.specs.Admitted.{kind_by, kind}
use Rattle.alpha_complex.specs.Judged.{is_listed, is_small_cell, is_listed_around, covers, is_small_by}
use Rattle.alpha_complex.specs.Judged.{admitted_triples, is_admitted_triple, is_admitted_pair, kinds_by}
use Rattle.alpha_complex.specs.Shapes.{admitted_among}
use Rattle.alpha_complex.proofs.Parts.{contained_true, contains_itself, contains_through, not_in_shorter, whole_only}
use Rattle.alpha_complex.proofs.Parts.{same_face}
use Rattle.alpha_complex.proofs.SmallFaces.{listed_from, listed_true, all_same, any_same, admitted_are}

-- ---- Full cells of a complex

-- four points, ascending
record IsFour (q : List ℕ) : Type 0 where
  four : length q ≡ 4
  ascending : IsAscending q

-- a Full cell of a complex has four points, ascending
four_points : (s q : List ℕ) → IsAscending s → IsIn (Full q) (complex s) → IsFour q
four_points s q a i = (let l = listed_is_cell s (Full q) a i in
    record {
      four = ap length l.is;
      ascending =
          subst IsAscending (sym l.is) (l.first, (l.second, (l.third, (tt, tt))));
    })

-- ---- what admits a face

-- a face of the complex of s, with a Full cell that has it, that contains p and is Gabriel and within alpha
record AdmittedBy (s : List ℕ) (alpha : ℕ) (p : List ℕ) : Type 0 where
  cell : List ℕ
  listed : IsIn (Full cell) (complex s)
  face : List ℕ
  inside : IsIn face (faces_inside cell)
  has : contains face p ≡ true
  small : is_small s alpha face ≡ true

-- what is admitted is so by a face
admitted_from : (s : List ℕ) (alpha : ℕ) (p : List ℕ) → is_admitted s alpha p ≡ true → AdmittedBy s alpha p
unfolding is_admitted
admitted_from s alpha p t = (
    let q = any_from (λ q. list_any (λ face. contains face p && is_small s alpha face) (faces_inside q))
    (full_cells (complex s)) t in
    let f = any_from (λ face. contains face p && is_small s alpha face) (faces_inside q.0) q.2 in
    record {
      cell = q.0;
      listed = listed_is_full_cell (complex s) q.0 q.1;
      face = f.0;
      inside = f.1;
      has = first_true (contains f.0 p) (is_small s alpha f.0) f.2;
      small = second_true (contains f.0 p) (is_small s alpha f.0) f.2;
    })

-- and back
admitted_true : (s : List ℕ) (alpha : ℕ) (p : List ℕ) → AdmittedBy s alpha p → is_admitted s alpha p ≡ true
unfolding is_admitted
admitted_true s alpha p b =
    any_true (λ q. list_any (λ face. contains face p && is_small s alpha face) (faces_inside q))
    (full_cells (complex s)) b.cell (full_cell_is_listed (complex s) b.cell b.listed)
    (any_true (λ face. contains face p && is_small s alpha face) (faces_inside b.cell) b.face b.inside
    (both_true (contains b.face p) (is_small s alpha b.face) b.has b.small))

-- ---- the faces inside a Full cell, by how many points they have

-- a point
inside_1 : (q p : List ℕ) → IsIn p (subsets 1 q) → IsIn p (faces_inside q)
inside_1 q p i = in_left p (subsets 1 q ++ subsets 2 q ++ subsets 3 q) (subsets 4 q)
    (in_left p (subsets 1 q ++ subsets 2 q) (subsets 3 q) (in_left p (subsets 1 q) (subsets 2 q) i))

-- a pair
inside_2 : (q p : List ℕ) → IsIn p (subsets 2 q) → IsIn p (faces_inside q)
inside_2 q p i = in_left p (subsets 1 q ++ subsets 2 q ++ subsets 3 q) (subsets 4 q)
    (in_left p (subsets 1 q ++ subsets 2 q) (subsets 3 q) (in_right p (subsets 1 q) (subsets 2 q) i))

-- a triple
inside_3 : (q p : List ℕ) → IsIn p (subsets 3 q) → IsIn p (faces_inside q)
inside_3 q p i = in_left p (subsets 1 q ++ subsets 2 q ++ subsets 3 q) (subsets 4 q)
    (in_right p (subsets 1 q ++ subsets 2 q) (subsets 3 q) i)

-- the cell
inside_4 : (q p : List ℕ) → IsIn p (subsets 4 q) → IsIn p (faces_inside q)
inside_4 q p i = in_right p (subsets 1 q ++ subsets 2 q ++ subsets 3 q) (subsets 4 q) i

-- a face is one of these
data Sized (q p : List ℕ) : Type 0 where
  one : IsIn p (subsets 1 q) → Sized q p
  two : IsIn p (subsets 2 q) → Sized q p
  three : IsIn p (subsets 3 q) → Sized q p
  four : IsIn p (subsets 4 q) → Sized q p

-- a face inside a Full cell is a point, a pair, a triple or the cell
sized : (q p : List ℕ) → IsIn p (faces_inside q) → Sized q p
sized q p i = elim (from_append p (subsets 1 q ++ subsets 2 q ++ subsets 3 q) (subsets 4 q) i) [
  | inl j ↦ elim (from_append p (subsets 1 q ++ subsets 2 q) (subsets 3 q) j) [
    | inl k ↦ elim (from_append p (subsets 1 q) (subsets 2 q) k) [ inl l ↦ one l | inr l ↦ two l ]
    | inr k ↦ three k
  ]
  | inr j ↦ four j
]

-- a face with fewer points than p does not contain p
too_few : (k n : ℕ) (q t p : List ℕ) → k < n → IsAscending q → IsIn t (subsets k q) → IsAscending p → length p ≡ n →
    contains t p ≡ true → ⊥
too_few k n q t p l a i b e c = (
    let f : length t ≡ k = part_length k q t i in
    let m : length t < length p = omega arith in
    not_in_shorter t p (part_ascending k q t a i) b c m)

-- one with as many points that does is p
as_many : (k : ℕ) (q t p : List ℕ) → IsAscending q → IsIn t (subsets k q) → IsAscending p → length p ≡ k →
    contains t p ≡ true → t ≡ p
as_many k q t p a i b e c = same_face t p (part_ascending k q t a i) b c (part_length k q t i ∙ sym e)

-- a list is a part of itself
part_of_itself : (q : List ℕ) → IsAscending q → length q ≡ 4 → IsIn q (subsets 4 q)
part_of_itself q a e = subst (λ n. IsIn q (subsets n q)) e (part_true q q a a (λ p i. i))

-- four points are Gabriel
four_gabriel : (s q : List ℕ) → length q ≡ 4 → is_gabriel s q ≡ true
four_gabriel s [] e = refl
four_gabriel s (a ∷ []) e = refl
four_gabriel s (a ∷ b ∷ []) e = absurd (omega arith)
four_gabriel s (a ∷ b ∷ c ∷ []) e = absurd (omega arith)
four_gabriel s (a ∷ b ∷ c ∷ d ∷ q) e = refl

-- ---- which Full cells are admitted

-- those within alpha
pub admitted_cell_is : (s : List ℕ) (alpha : ℕ) (q : List ℕ) → IsAscending s → IsIn (Full q) (complex s) →
    is_within alpha q ≡ is_admitted s alpha q
admitted_cell_is s alpha q a i = same_test (is_within alpha q) (is_admitted s alpha q) there back
  where
    -- the four points
    f : IsFour q
    f = four_points s q a i

    -- the cell admits itself
    there : is_within alpha q ≡ true → is_admitted s alpha q ≡ true
    there t = admitted_true s alpha q (record {
      cell = q;
      listed = i;
      face = q;
      inside = inside_4 q q (part_of_itself q f.ascending f.four);
      has = contains_itself q;
      small = both_true (is_gabriel s q) (is_within alpha q) (four_gabriel s q f.four) t;
    })

    -- and no other face contains it
    by_face : (b : AdmittedBy s alpha q) → IsAscending b.cell → Sized b.cell b.face → is_within alpha q ≡ true
    by_face b c (one j) = absurd (too_few 1 4 b.cell b.face q (omega arith) c j f.ascending f.four b.has)
    by_face b c (two j) = absurd (too_few 2 4 b.cell b.face q (omega arith) c j f.ascending f.four b.has)
    by_face b c (three j) = absurd (too_few 3 4 b.cell b.face q (omega arith) c j f.ascending f.four b.has)
    by_face b c (four j) = subst (λ v. is_within alpha v ≡ true)
        (as_many 4 b.cell b.face q c j f.ascending f.four b.has)
        (second_true (is_gabriel s b.face) (is_within alpha b.face) b.small)

    -- so it is the cell itself that admits it
    back : is_admitted s alpha q ≡ true → is_within alpha q ≡ true
    back t = (let b = admitted_from s alpha q t in
        by_face b (four_points s b.cell a b.listed).ascending (sized b.cell b.face b.inside))

-- ---- what admits a pair or a triple

-- a Full cell within alpha that contains it
cell_admits : (s : List ℕ) (alpha : ℕ) (p q : List ℕ) → IsAscending s → IsIn (Full q) (complex s) →
    contains q p ≡ true → is_within alpha q ≡ true → is_admitted s alpha p ≡ true
cell_admits s alpha p q a i c t = (
    let f = four_points s q a i in
    admitted_true s alpha p (record {
      cell = q;
      listed = i;
      face = q;
      inside = inside_4 q q (part_of_itself q f.ascending f.four);
      has = c;
      small = both_true (is_gabriel s q) (is_within alpha q) (four_gabriel s q f.four) t;
    }))

-- the triples beside the cells that contain them
abbrev pub triples_of : List ℕ → List (List ℕ × List Cell)
triples_of s = with_cells_around (parts_in 3 (complex s)) (complex s)

-- a cell around a face that is within alpha admits the face
marked_cell_admits : (s : List ℕ) (alpha : ℕ) (p : List ℕ) (c : Cell) → IsAscending s →
    IsIn c (cells_with p (complex s)) → is_small_cell alpha c ≡ true → is_admitted s alpha p ≡ true
marked_cell_admits s alpha p (Open t) a i e = cc
marked_cell_admits s alpha p (Full q) a i e = (let k =
    filtered_from (λ c. contains (points_of c) p) (complex s) (Full q) i in cell_admits s alpha p q a k.0 k.1 e)

-- and so does one among all around it
around_admits : (s : List ℕ) (alpha : ℕ) (p : List ℕ) → IsAscending s →
    list_any (is_small_cell alpha) (cells_with p (complex s)) ≡ true → is_admitted s alpha p ≡ true
around_admits s alpha p a e = (let k = any_from (is_small_cell alpha) (cells_with p (complex s)) e in
    marked_cell_admits s alpha p k.0 a k.1 k.2)

-- where a Full cell as a whole admits a face, one around it is within alpha
around_of : (s : List ℕ) (alpha : ℕ) (p : List ℕ) → IsAscending s → (b : AdmittedBy s alpha p) →
    IsIn b.face (subsets 4 b.cell) → list_any (is_small_cell alpha) (cells_with p (complex s)) ≡ true
around_of s alpha p a b i = (
    let f = four_points s b.cell a b.listed in
    let e : b.cell ≡ b.face = whole_only b.cell b.face (subst (λ n. IsIn b.face (subsets n b.cell)) (sym f.four) i) in
    let c : contains b.cell p ≡ true = subst (λ v. contains v p ≡ true) (sym e) b.has in
    let t : is_within alpha b.cell ≡ true = subst (λ v. is_within alpha v ≡ true) (sym e)
    (second_true (is_gabriel s b.face) (is_within alpha b.face) b.small) in
    any_true (is_small_cell alpha) (cells_with p (complex s)) (Full b.cell)
    (filtered_true (λ c. contains (points_of c) p) (complex s) (Full b.cell) b.listed c) t)

-- ---- what links give, as the laws of links have it
pub record Linked (s : List ℕ) (alpha : ℕ) : Type 0 where
  pub ascending : IsAscending s
  pub small : (k : ℕ) (p : List ℕ) → IsIn p (parts_in k (complex s)) →
      is_small_by alpha (p, cells_with p (complex s)) ≡ is_small s alpha p

-- a triple of the complex that is Gabriel and within alpha
record SmallTriple (s : List ℕ) (alpha : ℕ) (t : List ℕ) : Type 0 where
  listed : IsIn t (parts_in 3 (complex s))
  small : is_small s alpha t ≡ true

-- admits what it contains
triple_admits : (s : List ℕ) (alpha : ℕ) (p t : List ℕ) → SmallTriple s alpha t → contains t p ≡ true →
    is_admitted s alpha p ≡ true
triple_admits s alpha p t h c = (
    let k = listed_is_part 3 (complex s) t h.listed in
    admitted_true s alpha p (record {
      cell = k.q;
      listed = k.listed;
      face = t;
      inside = inside_3 k.q t k.part;
      has =
          c;
      small = h.small;
    }))

-- ---- triples

-- cells and the triple itself tell which triples are admitted
pub admitted_triple_is : (s : List ℕ) (alpha : ℕ) (p : List ℕ) → Linked s alpha → IsIn p (parts_in 3 (complex s)) →
    is_admitted_triple alpha (p, cells_with p (complex s)) ≡ is_admitted s alpha p
admitted_triple_is s alpha p l i = same_test (is_admitted_triple alpha (p, cells_with p (complex s)))
    (is_admitted s alpha p) there back
  where
    -- by a cell, or by itself
    there : is_admitted_triple alpha (p, cells_with p (complex s)) ≡ true → is_admitted s alpha p ≡ true
    there t = elim (one_true (list_any (is_small_cell alpha) (cells_with p (complex s)))
        (is_small_by alpha (p, cells_with p (complex s))) t) [
          | inl e ↦ around_admits s alpha p l.ascending e
          | inr e ↦ triple_admits s alpha p p (record { listed = i; small = sym (l.small 3 p i) ∙ e })
              (contains_itself p)
        ]

    -- it is small itself
    by_itself : SmallTriple s alpha p → is_admitted_triple alpha (p, cells_with p (complex s)) ≡ true
    by_itself h = right_true (list_any (is_small_cell alpha) (cells_with p (complex s)))
        (is_small_by alpha (p, cells_with p (complex s))) (l.small 3 p i ∙ h.small)

    -- and so by what admits it
    by_face : IsAscending p → length p ≡ 3 → (b : AdmittedBy s alpha p) → IsAscending b.cell → Sized b.cell b.face →
        is_admitted_triple alpha (p, cells_with p (complex s)) ≡ true
    by_face a e b c (one j) = absurd (too_few 1 3 b.cell b.face p (omega arith) c j a e b.has)
    by_face a e b c (two j) = absurd (too_few 2 3 b.cell b.face p (omega arith) c j a e b.has)
    by_face a e b c (three j) = by_itself (record {
      listed = i;
      small =
          subst (λ v. is_small s alpha v ≡ true) (as_many 3 b.cell b.face p c j a e b.has) b.small;
    })
    by_face a e b c (four j) = left_true (list_any (is_small_cell alpha) (cells_with p (complex s)))
        (is_small_by alpha (p, cells_with p (complex s))) (around_of s alpha p l.ascending b j)

    -- whatever it is
    back : is_admitted s alpha p ≡ true → is_admitted_triple alpha (p, cells_with p (complex s)) ≡ true
    back t = (
        let b = admitted_from s alpha p t in
        let h = listed_is_part 3 (complex s) p i in
        by_face (part_ascending 3 h.q p (four_points s h.q l.ascending h.listed).ascending h.part)
        (part_length 3 h.q p h.part) b (four_points s b.cell l.ascending b.listed).ascending
        (sized b.cell b.face b.inside))

-- ---- pairs

-- a triple of a Full cell is one of its facets
pub triple_facet : (q t : List ℕ) → length q ≡ 4 → IsIn t (subsets 3 q) → IsIn (Three t) (facets_of (Full q))
triple_facet [] t e i = absurd (omega arith)
triple_facet (a ∷ []) t e i = absurd (omega arith)
triple_facet (a ∷ b ∷ []) t e i = absurd (omega arith)
triple_facet (a ∷ b ∷ c ∷ []) t e i = absurd (omega arith)
triple_facet (a ∷ b ∷ c ∷ d ∷ []) t e i = elim i [
  | inl q ↦ inr (inr (inr (inl (ap Three q))))
  | inr j ↦ elim j [
    | inl q ↦ inr (inr (inl (ap Three q)))
    | inr k ↦ elim k [
      | inl q ↦ inr (inl (ap Three q))
      | inr l ↦ elim l [ inl q ↦ inl (ap Three q) | inr none ↦ absurd none ]
    ]
  ]
]
triple_facet (a ∷ b ∷ c ∷ d ∷ e ∷ q) t f i = absurd (omega arith)

-- the triples that are told to be admitted
abbrev pub told_triples : List ℕ → ℕ → List (List ℕ)
told_triples s alpha = admitted_triples alpha (triples_of s)

-- they are
told_from : (s : List ℕ) (alpha : ℕ) (t : List ℕ) → Linked s alpha → is_listed (told_triples s alpha) t ≡ true →
    is_admitted s alpha t ≡ true
told_from s alpha t l e = (
    let i = subst (λ (v : List (List ℕ)). IsIn t v) (admitted_are alpha (parts_in 3 (complex s)) (complex s))
    (listed_from (told_triples s alpha) t e) in
    let k = filtered_from (λ p. is_admitted_triple alpha (p, cells_with p (complex s))) (parts_in 3 (complex s)) t i in
    sym (admitted_triple_is s alpha t l k.0) ∙ k.1)

-- and a small one is among them
told_true : (s : List ℕ) (alpha : ℕ) (t : List ℕ) → Linked s alpha → SmallTriple s alpha t →
    is_listed (told_triples s alpha) t ≡ true
told_true s alpha t l h = (
    let i = filtered_true (λ p. is_admitted_triple alpha (p, cells_with p (complex s))) (parts_in 3 (complex s)) t
    h.listed (admitted_triple_is s alpha t l h.listed ∙ triple_admits s alpha t t h (contains_itself t)) in
    listed_true (told_triples s alpha) t (subst (λ (v : List (List ℕ)). IsIn t v)
    (sym (admitted_are alpha (parts_in 3 (complex s)) (complex s))) i))

-- what admits a face admits what this contains
admitted_through : (s : List ℕ) (alpha : ℕ) (p t : List ℕ) → is_admitted s alpha t ≡ true → contains t p ≡ true →
    is_admitted s alpha p ≡ true
admitted_through s alpha p t e c = (
    let b = admitted_from s alpha t e in
    admitted_true s alpha p (record {
      cell = b.cell;
      listed = b.listed;
      face = b.face;
      inside = b.inside;
      has = contains_through b.face t p b.has c;
      small = b.small;
    }))

-- cells and admitted triples tell which pairs are admitted
pub admitted_pair_is : (s : List ℕ) (alpha : ℕ) (p : List ℕ) → Linked s alpha → IsIn p (parts_in 2 (complex s)) →
    is_admitted_pair (triples_of s) alpha (p, cells_with p (complex s)) ≡ is_admitted s alpha p
admitted_pair_is s alpha p l i = same_test (is_admitted_pair (triples_of s) alpha (p, cells_with p (complex s)))
    (is_admitted s alpha p) there back
  where
    -- a facet that covers it
    by_facet : (f : Facet) → is_listed_around (told_triples s alpha) p f ≡ true → is_admitted s alpha p ≡ true
    by_facet (Two q) e = cc
    by_facet (Three t) e = admitted_through s alpha p t
        (told_from s alpha t l (second_true (contains t p) (is_listed (told_triples s alpha) t) e))
        (first_true (contains t p) (is_listed (told_triples s alpha) t) e)

    -- by itself, or by a triple around it
    by_less : (is_small_by alpha (p, cells_with p (complex s)) || list_any (covers (told_triples s alpha) p)
        (cells_with p (complex s))) ≡ true → is_admitted s alpha p ≡ true
    by_less t = elim (one_true (is_small_by alpha (p, cells_with p (complex s)))
        (list_any (covers (told_triples s alpha) p) (cells_with p (complex s))) t) [
          | inl e ↦ (
              let k = listed_is_part 2 (complex s) p i in
              admitted_true s alpha p (record {
                cell = k.q;
                listed = k.listed;
                face = p;
                inside =
                    inside_2 k.q p k.part;
                has = contains_itself p;
                small = sym (l.small 2 p i) ∙ e;
              }))
          | inr e ↦ (
              let k = any_from (covers (told_triples s alpha) p) (cells_with p (complex s)) e in
              let m = any_from (is_listed_around (told_triples s alpha) p) (facets_of k.0) k.2 in
              by_facet m.0 m.2)
        ]

    -- or by a cell
    there : is_admitted_pair (triples_of s) alpha (p, cells_with p (complex s)) ≡ true → is_admitted s alpha p ≡ true
    there t = elim (one_true (list_any (is_small_cell alpha) (cells_with p (complex s)))
        (is_small_by alpha (p, cells_with p (complex s)) || list_any (covers (told_triples s alpha) p)
        (cells_with p (complex s))) t) [ inl e ↦ around_admits s alpha p l.ascending e | inr e ↦ by_less e ]

    -- a small triple of a Full cell that contains it
    by_triple : (b : AdmittedBy s alpha p) → IsFour b.cell → IsIn b.face (subsets 3 b.cell) →
        is_admitted_pair (triples_of s) alpha (p, cells_with p (complex s)) ≡ true
    by_triple b f j = (
        let e = told_true s alpha b.face l
        (record {
          listed = part_is_listed 3 (complex s) b.face (record { q = b.cell; listed = b.listed; part = j });
          small = b.small;
        }) in
        let has : contains b.cell p ≡ true = contains_through b.cell b.face p
        (contained_true b.cell b.face (part_inside 3 b.cell b.face j)) b.has in
        let t : is_listed_around (told_triples s alpha) p (Three b.face) ≡ true =
        both_true (contains b.face p) (is_listed (told_triples s alpha) b.face) b.has e in
        right_true (list_any (is_small_cell alpha) (cells_with p (complex s)))
        (is_small_by alpha (p, cells_with p (complex s)) || list_any (covers (told_triples s alpha) p)
        (cells_with p (complex s)))
        (right_true (is_small_by alpha (p, cells_with p (complex s)))
        (list_any (covers (told_triples s alpha) p) (cells_with p (complex s)))
        (any_true (covers (told_triples s alpha) p) (cells_with p (complex s)) (Full b.cell)
        (filtered_true (λ c. contains (points_of c) p) (complex s) (Full b.cell) b.listed has)
        (any_true (is_listed_around (told_triples s alpha) p) (facets_of (Full b.cell)) (Three b.face)
        (triple_facet b.cell b.face f.four j) t))))

    -- and so by what admits it
    by_face : IsAscending p → length p ≡ 2 → (b : AdmittedBy s alpha p) → IsFour b.cell → Sized b.cell b.face →
        is_admitted_pair (triples_of s) alpha (p, cells_with p (complex s)) ≡ true
    by_face a e b f (one j) = absurd (too_few 1 2 b.cell b.face p (omega arith) f.ascending j a e b.has)
    by_face a e b f (two j) = right_true (list_any (is_small_cell alpha) (cells_with p (complex s)))
        (is_small_by alpha (p, cells_with p (complex s)) || list_any (covers (told_triples s alpha) p)
        (cells_with p (complex s)))
        (left_true (is_small_by alpha (p, cells_with p (complex s)))
        (list_any (covers (told_triples s alpha) p) (cells_with p (complex s)))
        (l.small 2 p i ∙ subst (λ v. is_small s alpha v ≡ true) (as_many 2 b.cell b.face p f.ascending j a e b.has)
        b.small))
    by_face a e b f (three j) = by_triple b f j
    by_face a e b f (four j) = left_true (list_any (is_small_cell alpha) (cells_with p (complex s)))
        (is_small_by alpha (p, cells_with p (complex s)) || list_any (covers (told_triples s alpha) p)
        (cells_with p (complex s))) (around_of s alpha p l.ascending b j)

    -- whatever it is
    back : is_admitted s alpha p ≡ true → is_admitted_pair (triples_of s) alpha (p, cells_with p (complex s)) ≡ true
    back t = (
        let b = admitted_from s alpha p t in
        let h = listed_is_part 2 (complex s) p i in
        by_face (part_ascending 2 h.q p (four_points s h.q l.ascending h.listed).ascending h.part)
        (part_length 2 h.q p h.part) b (four_points s b.cell l.ascending b.listed) (sized b.cell b.face b.inside))

-- ---- kinds

-- the cells within alpha are the admitted ones
pub small_cell_is : (s : List ℕ) (alpha : ℕ) (c : Cell) → IsAscending s → IsIn c (complex s) →
    is_small_cell alpha c ≡ is_admitted_cell s alpha c
small_cell_is s alpha (Open t) a i = refl
small_cell_is s alpha (Full q) a i = admitted_cell_is s alpha q a i

-- so some of those around a face are within alpha exactly where some are admitted
pub some_cell_is : (s : List ℕ) (alpha : ℕ) (p : List ℕ) → IsAscending s →
    list_any (is_small_cell alpha) (cells_with p (complex s)) ≡ list_any (is_admitted_cell s alpha)
    (cells_with p (complex s))
some_cell_is s alpha p a =
    any_same (is_small_cell alpha) (is_admitted_cell s alpha) (cells_with p (complex s))
    (λ c i. small_cell_is s alpha c a (filtered_from (λ c. contains (points_of c) p) (complex s) c i).0)

-- and all of them exactly where all are
pub all_cells_are : (s : List ℕ) (alpha : ℕ) (p : List ℕ) → IsAscending s →
    list_all (is_small_cell alpha) (cells_with p (complex s)) ≡ list_all (is_admitted_cell s alpha)
    (cells_with p (complex s))
all_cells_are s alpha p a =
    all_same (is_small_cell alpha) (is_admitted_cell s alpha) (cells_with p (complex s))
    (λ c i. small_cell_is s alpha c a (filtered_from (λ c. contains (points_of c) p) (complex s) c i).0)

-- they tell the kind of a face
pub kind_is : (s : List ℕ) (alpha : ℕ) (p : List ℕ) → IsAscending s →
    kind_by (is_small_cell alpha) (cells_with p (complex s)) ≡ kind s alpha p
unfolding kind
kind_is s alpha p a = rw (all_cells_are s alpha p a, some_cell_is s alpha p a) refl

-- ---- the shape

-- faces that pass a test of their cells, where this is the test of admission
pub kinds_are : (s : List ℕ) (alpha : ℕ) (t : List ℕ × List Cell → Bool) (ps : List (List ℕ)) → IsAscending s →
    ((p : List ℕ) → IsIn p ps → t (p, cells_with p (complex s)) ≡ is_admitted s alpha p) →
    kinds_by alpha (filter t (with_cells_around ps (complex s))) ≡ admitted_among s alpha ps
kinds_are s alpha t [] a f = refl
kinds_are s alpha t (p ∷ ps) a f = by_test (is_admitted s alpha p) refl (kinds_are s alpha t ps a (λ q i. f q (inr i)))
  where
    -- admitted or not
    by_test : (b : Bool) → is_admitted s alpha p ≡ b →
        kinds_by alpha (filter t (with_cells_around ps (complex s))) ≡ admitted_among s alpha ps →
        kinds_by alpha (filter t (with_cells_around (p ∷ ps) (complex s))) ≡ admitted_among s alpha (p ∷ ps)
    by_test true e r = (
        let g : t (p, cells_with p (complex s)) ≡ true = f p (inl refl) ∙ e in
        rw (e, g) (ap (λ k. (p, k) ∷ kinds_by alpha (filter t (with_cells_around ps (complex s)))) (kind_is s alpha p a)
        ∙ ap (λ l. (p, kind s alpha p) ∷ l) r))
    by_test false e r = (let g : t (p, cells_with p (complex s)) ≡ false = f p (inl refl) ∙ e in rw (e, g) r)

-- points with their kinds
pub point_kinds_are : (s : List ℕ) (alpha : ℕ) (ps : List ℕ) → IsAscending s →
    kinds_by alpha (points_with_cells ps (complex s)) ≡ map (λ p. (p, kind s alpha (p ∷ []))) ps
point_kinds_are s alpha [] a = refl
point_kinds_are s alpha (p ∷ ps) a =
    ap (λ k. (p, k) ∷ kinds_by alpha (points_with_cells ps (complex s))) (kind_is s alpha (p ∷ []) a)
    ∙ ap (λ l. (p, kind s alpha (p ∷ [])) ∷ l) (point_kinds_are s alpha ps a)

-- every point of a solid set is admitted
pub point_is_admitted : (s : List ℕ) (alpha p : ℕ) → IsAscending s → AreKeys s → is_solid s ≡ true → IsIn p s →
    is_admitted s alpha (p ∷ []) ≡ true
point_is_admitted s alpha p a keys solid i = (
    let h = listed_every_point s p a keys solid i in
    admitted_true s alpha (p ∷ []) (record {
      cell = h.q;
      listed = h.listed;
      face = p ∷ [];
      inside = inside_1 h.q (p ∷ []) (part_true h.q (p ∷ []) (four_points s h.q a h.listed).ascending (
        tt,
        tt,
      ) (λ q j. elim j [ inl e ↦ subst (λ v. IsIn v h.q) e h.has | inr none ↦ absurd none ]));
      has = contains_itself (p ∷ []);
      small = refl;
    }))
