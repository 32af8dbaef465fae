-- Facets of listed cells: each lies in exactly two.
use Rattle.std.specs.Prelude.{◌≡◌, refl, ℕ, ◌<◌, Bool, true, false, List, [], ◌∷◌, ◌⊎◌}
use Rattle.std.proofs.Common.{inl, inr, ap, sym, subst, ◌∙◌}
use Rattle.list_laws.proofs.Cited.{less_chain}
use Rattle.point_order.specs.declared.cell.Cell.{Cell}
use Rattle.point_order.specs.declared.cell.Cell.TheVariants.{Full, Open}
use Rattle.point_order.specs.declared.cell.Facet.{Facet}
use Rattle.point_order.specs.declared.cell.Facet.TheVariants.{Three, Two}
use Rattle.point_order.specs.Heights.{height}
use Rattle.point_order.specs.Sets.{IsIn, IsAscending, ascending}
use Rattle.point_order.specs.Complex.{complex}
use Rattle.point_order.specs.Facets.{facets_of}
use Rattle.point_order.proofs.Cited.{ascending_self, in_ascending, in_ascending_from}
use Rattle.del_laws.specs.Cells.{Vertex, point, far}
use Rattle.del_laws.specs.Keys.{AreKeys}
use Rattle.del_laws.specs.Vertices.{is_cell}
use Rattle.del_laws.specs.Listed.{IsListed, cell_of, ListedFacets}
use Rattle.del_laws.proofs.Facets.{facing}
use Rattle.del_laws.proofs.Perturbed.{no_ties}
use Rattle.del_laws.proofs.Bools.{cell_true, cell_from}
use Rattle.del_laws.proofs.Listed.{listed_is_cell, same_full, same_open, not_both_kinds}
use Rattle.del_laws.proofs.Sorting.{turn34, rotate1, rotate2, apart34, apart24, apart14, cell_of_swap12, cell_of_swap23}
use Rattle.del_laws.proofs.Sorting.{cell_of_swap34, test_is_listed, less, more, compared}

-- ---- a facet and one more vertex

-- the cell of a facet and a vertex
abbrev pub over : Facet → Vertex → Cell
over (Three (a ∷ b ∷ c ∷ [])) z = cell_of (point a) (point b) (point c) z
over (Two (a ∷ b ∷ [])) z = cell_of (point a) (point b) far z
over _ z = Open []

-- whether they are a cell
abbrev pub fits : List ℕ → Facet → Vertex → Bool
fits s (Three (a ∷ b ∷ c ∷ [])) z = is_cell s (point a) (point b) (point c) z
fits s (Two (a ∷ b ∷ [])) z = is_cell s (point a) (point b) far z
fits s _ z = false

-- a facet of two or three points, ascending
abbrev pub IsFacet : Facet → Type 0
IsFacet (Three (a ∷ b ∷ c ∷ [])) = (a < b) × (b < c)
IsFacet (Two (a ∷ b ∷ [])) = a < b
IsFacet _ = ⊥

-- a cell by a facet of it and the vertex that the facet lacks
pub record IsOver (s : List ℕ) (c : Cell) (f : Facet) : Type 0 where
  pub facet : IsFacet f
  pub last : Vertex
  pub is : c ≡ over f last
  pub test : fits s f last ≡ true

-- the cell of the first vertex brought to the end
cell_of_rotate1 : (w x y z : Vertex) → cell_of w x y z ≡ cell_of x y z w
cell_of_rotate1 w x y z = cell_of_swap12 w x y z ∙ cell_of_swap23 x w y z ∙ cell_of_swap34 x y w z

-- of the second
cell_of_rotate2 : (w x y z : Vertex) → cell_of w x y z ≡ cell_of w y z x
cell_of_rotate2 w x y z = cell_of_swap23 w x y z ∙ cell_of_swap34 w y x z

-- a facet written otherwise
at_facet : (s : List ℕ) (c : Cell) (f g : Facet) → f ≡ g → IsOver s c f → IsOver s c g
at_facet s c f g e t = subst (λ v. IsOver s c v) e t

-- the facets of a Full cell
over_full : (s : List ℕ) (k : AreKeys s) (a b c d : ℕ) (f : Facet) → a < b → b < c → c < d →
    is_cell s (point a) (point b) (point c) (point d) ≡ true → IsIn f (facets_of (Full (a ∷ b ∷ c ∷ d ∷ []))) →
    IsOver s (Full (a ∷ b ∷ c ∷ d ∷ [])) f
over_full s k a b c d f l m n t i =
    let q : Full (a ∷ b ∷ c ∷ d ∷ []) ≡ cell_of (point a) (point b) (point c) (point d) =
    ap Full (sym (ascending_self (a ∷ b ∷ c ∷ d ∷ []) (l, (m, (n, (tt, tt)))))) in
    elim i [
      | inl e ↦ at_facet s (Full (a ∷ b ∷ c ∷ d ∷ [])) (Three (b ∷ c ∷ d ∷ [])) f e
          (record {
            facet = (m, n);
            last = point a;
            is = q ∙ cell_of_rotate1 (point a) (point b) (point c) (point d);
            test = rotate1 s k (point a) (point b) (point c) (point d) t;
          })
      | inr r ↦ elim r [
        | inl e ↦ at_facet s (Full (a ∷ b ∷ c ∷ d ∷ [])) (Three (a ∷ c ∷ d ∷ [])) f e
            (record {
              facet = (less_chain a b c l m, n);
              last = point b;
              is = q
                  ∙ cell_of_rotate2 (point a) (point b) (point c) (point d);
              test =
                  rotate2 s k (point a) (point b) (point c) (point d) t;
            })
        | inr u ↦ elim u [
          | inl e ↦ at_facet s (Full (a ∷ b ∷ c ∷ d ∷ [])) (Three (a ∷ b ∷ d ∷ [])) f e
              (record {
                facet = (l, less_chain b c d m n);
                last = point c;
                is = q
                    ∙ cell_of_swap34 (point a) (point b) (point c) (point d);
                test =
                    turn34 s k (point a) (point b) (point c) (point d) t;
              })
          | inr v ↦ elim v [
            | inl e ↦ at_facet s (Full (a ∷ b ∷ c ∷ d ∷ [])) (Three (a ∷ b ∷ c ∷ [])) f e
                (record { facet = (l, m); last = point d; is = q; test = t })
            | inr none ↦ absurd none
          ]
        ]
      ]
    ]

-- the facets of an Open cell
over_open : (s : List ℕ) (k : AreKeys s) (a b c : ℕ) (f : Facet) → a < b → b < c →
    is_cell s (point a) (point b) (point c) far ≡ true → IsIn f (facets_of (Open (a ∷ b ∷ c ∷ []))) →
    IsOver s (Open (a ∷ b ∷ c ∷ [])) f
over_open s k a b c f l m t i =
    let q : Open (a ∷ b ∷ c ∷ []) ≡ cell_of (point a) (point b) (point c) far =
    ap Open (sym (ascending_self (a ∷ b ∷ c ∷ []) (l, (m, (tt, tt))))) in
    elim i [
      | inl e ↦ at_facet s (Open (a ∷ b ∷ c ∷ [])) (Two (b ∷ c ∷ [])) f e
          (record {
            facet = m;
            last = point a;
            is = q ∙ cell_of_rotate1 (point a) (point b) (point c) far;
            test = rotate1 s k (point a) (point b) (point c) far t;
          })
      | inr r ↦ elim r [
        | inl e ↦ at_facet s (Open (a ∷ b ∷ c ∷ [])) (Two (a ∷ c ∷ [])) f e
            (record {
              facet = less_chain a b c l m;
              last = point b;
              is = q
                  ∙ cell_of_rotate2 (point a) (point b) (point c) far;
              test =
                  rotate2 s k (point a) (point b) (point c) far t;
            })
        | inr u ↦ elim u [
          | inl e ↦ at_facet s (Open (a ∷ b ∷ c ∷ [])) (Two (a ∷ b ∷ [])) f e
              (record {
                facet = l;
                last = point c;
                is = q ∙ cell_of_swap34 (point a) (point b) (point c) far;
                test = turn34 s k (point a) (point b) (point c) far t;
              })
          | inr v ↦ elim v [
            | inl e ↦ at_facet s (Open (a ∷ b ∷ c ∷ [])) (Three (a ∷ b ∷ c ∷ [])) f e
                (record { facet = (l, m); last = far; is = q; test = t })
            | inr none ↦ absurd none
          ]
        ]
      ]
    ]

-- a listed cell by one of its facets
pub over_facet : (s : List ℕ) (k : AreKeys s) (c : Cell) (f : Facet) → IsListed s c → IsIn f (facets_of c) →
    IsOver s c f
over_facet s k (Full q) f l i =
    subst (λ (v : List ℕ). IsOver s (Full v) f) (sym l.is) (over_full s k l.a l.b l.c l.d f l.first l.second l.third
    l.test (subst (λ (v : List ℕ). IsIn f (facets_of (Full v))) l.is i))
over_facet s k (Open q) f l i =
    subst (λ (v : List ℕ). IsOver s (Open v) f) (sym l.is) (over_open s k l.a l.b l.c f l.first l.second l.test
    (subst (λ (v : List ℕ). IsIn f (facets_of (Open v))) l.is i))

-- ---- the facet is one of the cell's

-- a sorted list is told by its order
in_order4 : (w x y z : ℕ) → w < x → x < y → y < z → ascending (w ∷ x ∷ y ∷ z ∷ []) ≡ w ∷ x ∷ y ∷ z ∷ []
in_order4 w x y z l m n = ascending_self (w ∷ x ∷ y ∷ z ∷ []) (l, (m, (n, (tt, tt))))

-- of three
in_order3 : (x y z : ℕ) → x < y → y < z → ascending (x ∷ y ∷ z ∷ []) ≡ x ∷ y ∷ z ∷ []
in_order3 x y z l m = ascending_self (x ∷ y ∷ z ∷ []) (l, (m, (tt, tt)))

-- a facet of a cell that is written otherwise
has_at : (f : Facet) (c d : Cell) → c ≡ d → IsIn f (facets_of d) → IsIn f (facets_of c)
has_at f c d e i = subst (λ v. IsIn f (facets_of v)) (sym e) i

-- three points and a fourth
three_and_point : (s : List ℕ) (k : AreKeys s) (a b c d : ℕ) → a < b → b < c →
    is_cell s (point a) (point b) (point c) (point d) ≡ true →
    IsIn (Three (a ∷ b ∷ c ∷ [])) (facets_of (cell_of (point a) (point b) (point c) (point d)))
three_and_point s k a b c d l m t =
    let f = Three (a ∷ b ∷ c ∷ []) in
    let o = cell_of (point a) (point b) (point c) (point d) in
    elim (compared d a (λ e. apart14 s k (point a) (point b) (point c) (point d) t (ap point (sym e)))) [
      | less i ↦ has_at f o (Full (d ∷ a ∷ b ∷ c ∷ [])) (sym (cell_of_rotate1 (point d) (point a) (point b) (point c))
          ∙ ap Full (in_order4 d a b c i l m)) (inl refl)
      | more i ↦ elim (compared d b (λ e. apart24 s k (point a) (point b) (point c) (point d) t (ap point (sym e)))) [
        | less j ↦ has_at f o (Full (a ∷ d ∷ b ∷ c ∷ [])) (sym (cell_of_rotate2 (point a) (point d) (point b) (point c))
            ∙ ap Full (in_order4 a d b c i j m)) (inr (inl refl))
        | more j ↦ elim (compared d c (λ e. apart34 s (point a) (point b) (point c) (point d) t (ap point (sym e)))) [
          | less n ↦ has_at f o (Full (a ∷ b ∷ d ∷ c ∷ [])) (cell_of_swap34 (point a) (point b) (point c) (point d)
              ∙ ap Full (in_order4 a b d c l j n)) (inr (inr (inl refl)))
          | more n ↦ has_at f o (Full (a ∷ b ∷ c ∷ d ∷ [])) (ap Full (in_order4 a b c d l m n))
              (inr (inr (inr (inl refl))))
        ]
      ]
    ]

-- two points and a third
two_and_point : (s : List ℕ) (k : AreKeys s) (a b d : ℕ) → a < b → is_cell s (point a) (point b) far (point d) ≡ true →
    IsIn (Two (a ∷ b ∷ [])) (facets_of (cell_of (point a) (point b) far (point d)))
two_and_point s k a b d l t =
    let f = Two (a ∷ b ∷ []) in
    let o = cell_of (point a) (point b) far (point d) in
    elim (compared d a (λ e. apart14 s k (point a) (point b) far (point d) t (ap point (sym e)))) [
      | less i ↦ has_at f o (Open (d ∷ a ∷ b ∷ [])) (sym (cell_of_rotate1 (point d) (point a) (point b) far)
          ∙ ap Open (in_order3 d a b i l)) (inl refl)
      | more i ↦ elim (compared d b (λ e. apart24 s k (point a) (point b) far (point d) t (ap point (sym e)))) [
        | less j ↦ has_at f o (Open (a ∷ d ∷ b ∷ [])) (sym (cell_of_rotate2 (point a) (point d) (point b) far)
            ∙ ap Open (in_order3 a d b i j)) (inr (inl refl))
        | more j ↦ has_at f o (Open (a ∷ b ∷ d ∷ [])) (ap Open (in_order3 a b d l j)) (inr (inr (inl refl)))
      ]
    ]

-- a facet is one of the cell's that it makes with a vertex
pub has_facet : (s : List ℕ) (k : AreKeys s) (f : Facet) (z : Vertex) → IsFacet f → fits s f z ≡ true →
    IsIn f (facets_of (over f z))
has_facet s k (Three (a ∷ b ∷ c ∷ [])) (point d) m t = three_and_point s k a b c d m.0 m.1 t
has_facet s k (Three (a ∷ b ∷ c ∷ [])) far m t =
    has_at (Three (a ∷ b ∷ c ∷ [])) (cell_of (point a) (point b) (point c) far) (Open (a ∷ b ∷ c ∷ []))
    (ap Open (in_order3 a b c m.0 m.1)) (inr (inr (inr (inl refl))))
has_facet s k (Two (a ∷ b ∷ [])) (point d) m t = two_and_point s k a b d m t
has_facet s k (Two (a ∷ b ∷ [])) far m t = cc
has_facet s k (Three []) z m t = absurd m
has_facet s k (Three (a ∷ [])) z m t = absurd m
has_facet s k (Three (a ∷ b ∷ [])) z m t = absurd m
has_facet s k (Three (a ∷ b ∷ c ∷ d ∷ r)) z m t = absurd m
has_facet s k (Two []) z m t = absurd m
has_facet s k (Two (a ∷ [])) z m t = absurd m
has_facet s k (Two (a ∷ b ∷ c ∷ r)) z m t = absurd m

-- and the cell is listed
pub over_listed : (s : List ℕ) → IsAscending s → (k : AreKeys s) (f : Facet) (z : Vertex) → fits s f z ≡ true →
    IsIn (over f z) (complex s)
over_listed s a k (Three (x ∷ y ∷ z ∷ [])) v t = test_is_listed s a k (point x) (point y) (point z) v t
over_listed s a k (Two (x ∷ y ∷ [])) v t = test_is_listed s a k (point x) (point y) far v t
over_listed s a k (Three []) z t = cc
over_listed s a k (Three (x ∷ [])) z t = cc
over_listed s a k (Three (x ∷ y ∷ [])) z t = cc
over_listed s a k (Three (x ∷ y ∷ z ∷ o ∷ r)) v t = cc
over_listed s a k (Two []) z t = cc
over_listed s a k (Two (x ∷ [])) z t = cc
over_listed s a k (Two (x ∷ y ∷ z ∷ r)) v t = cc

-- ---- the vertex is told by the cell

-- the fourth of four points, told by their list
fourth_told : (s : List ℕ) (k : AreKeys s) (a b c d e : ℕ) → is_cell s (point a) (point b) (point c) (point d) ≡ true →
    ascending (a ∷ b ∷ c ∷ d ∷ []) ≡ ascending (a ∷ b ∷ c ∷ e ∷ []) → d ≡ e
fourth_told s k a b c d e t q =
    elim (in_ascending (a ∷ b ∷ c ∷ e ∷ []) d (subst (λ (l : List ℕ). IsIn d l) q
    (in_ascending_from (a ∷ b ∷ c ∷ d ∷ []) d (inr (inr (inr (inl refl))))))) [
      | inl i ↦ absurd (apart14 s k (point a) (point b) (point c) (point d) t (ap point i))
      | inr r ↦ elim r [
        | inl i ↦ absurd (apart24 s k (point a) (point b) (point c) (point d) t (ap point i))
        | inr u ↦ elim u [
          | inl i ↦ absurd (apart34 s (point a) (point b) (point c) (point d) t (ap point i))
          | inr v ↦ elim v [ inl i ↦ sym i | inr none ↦ absurd none ]
        ]
      ]
    ]

-- the third of three points
third_told : (s : List ℕ) (k : AreKeys s) (a b d e : ℕ) → is_cell s (point a) (point b) far (point d) ≡ true →
    ascending (a ∷ b ∷ d ∷ []) ≡ ascending (a ∷ b ∷ e ∷ []) → d ≡ e
third_told s k a b d e t q =
    elim (in_ascending (a ∷ b ∷ e ∷ []) d (subst (λ (l : List ℕ). IsIn d l) q
    (in_ascending_from (a ∷ b ∷ d ∷ []) d (inr (inr (inl refl)))))) [
      | inl i ↦ absurd (apart14 s k (point a) (point b) far (point d) t (ap point i))
      | inr r ↦ elim r [
        | inl i ↦ absurd (apart24 s k (point a) (point b) far (point d) t (ap point i))
        | inr u ↦ elim u [ inl i ↦ sym i | inr none ↦ absurd none ]
      ]
    ]

-- the vertex that a facet lacks is told by the cell
pub last_told : (s : List ℕ) (k : AreKeys s) (f : Facet) (y z : Vertex) → fits s f y ≡ true → fits s f z ≡ true →
    over f y ≡ over f z → y ≡ z
last_told s k (Three (a ∷ b ∷ c ∷ [])) (point d) (point e) t u q =
    ap point (fourth_told s k a b c d e t (same_full (ascending (a ∷ b ∷ c ∷ d ∷ [])) (ascending (a ∷ b ∷ c ∷ e ∷ []))
    q))
last_told s k (Three (a ∷ b ∷ c ∷ [])) (point d) far t u q =
    absurd (not_both_kinds (ascending (a ∷ b ∷ c ∷ d ∷ [])) (ascending (a ∷ b ∷ c ∷ [])) q)
last_told s k (Three (a ∷ b ∷ c ∷ [])) far (point e) t u q =
    absurd (not_both_kinds (ascending (a ∷ b ∷ c ∷ e ∷ [])) (ascending (a ∷ b ∷ c ∷ [])) (sym q))
last_told s k (Three (a ∷ b ∷ c ∷ [])) far far t u q = refl
last_told s k (Two (a ∷ b ∷ [])) (point d) (point e) t u q =
    ap point (third_told s k a b d e t (same_open (ascending (a ∷ b ∷ d ∷ [])) (ascending (a ∷ b ∷ e ∷ [])) q))
last_told s k (Two (a ∷ b ∷ [])) (point d) far t u q = cc
last_told s k (Two (a ∷ b ∷ [])) far z t u q = cc
last_told s k (Three []) y z t u q = cc
last_told s k (Three (x ∷ [])) y z t u q = cc
last_told s k (Three (v ∷ x ∷ [])) y z t u q = cc
last_told s k (Three (v ∷ w ∷ x ∷ o ∷ r)) y z t u q = cc
last_told s k (Two []) y z t u q = cc
last_told s k (Two (x ∷ [])) y z t u q = cc
last_told s k (Two (v ∷ w ∷ x ∷ r)) y z t u q = cc

-- ---- two cells

-- the vertex across a facet, and no third
pub record HasOneAcross (s : List ℕ) (f : Facet) (x : Vertex) : Type 0 where
  pub other : Vertex
  pub differs : ¬ (other ≡ x)
  pub test : fits s f other ≡ true
  pub only : (z : Vertex) → fits s f z ≡ true → (z ≡ x) ⊎ (z ≡ other)

-- by the facet law
pub across : (s : List ℕ) (k : AreKeys s) (f : Facet) (x : Vertex) → fits s f x ≡ true → HasOneAcross s f x
across s k (Three (a ∷ b ∷ c ∷ [])) x t = (
    let f =
    facing height s (no_ties s k) (point a) (point b) (point c) x (cell_from s (point a) (point b) (point c) x t) in
    record {
      other = f.other;
      differs = f.differs;
      test = cell_true s k (point a) (point b) (point c) f.other f.cell;
      only = λ z u. f.only z (cell_from s (point a) (point b) (point c) z u);
    })
across s k (Two (a ∷ b ∷ [])) x t = (
    let f = facing height s (no_ties s k) (point a) (point b) far x (cell_from s (point a) (point b) far x t) in
    record {
      other = f.other;
      differs = f.differs;
      test = cell_true s k (point a) (point b) far f.other f.cell;
      only = λ z u. f.only z (cell_from s (point a) (point b) far z u);
    })
across s k (Three []) x t = cc
across s k (Three (a ∷ [])) x t = cc
across s k (Three (a ∷ b ∷ [])) x t = cc
across s k (Three (a ∷ b ∷ c ∷ d ∷ r)) x t = cc
across s k (Two []) x t = cc
across s k (Two (a ∷ [])) x t = cc
across s k (Two (a ∷ b ∷ c ∷ r)) x t = cc

-- every facet of every listed cell lies in exactly two listed cells
pub listed_facets : ListedFacets
listed_facets s c f a k m i =
    let o = over_facet s k c f (listed_is_cell s c a m) i in
    let n = across s k f o.last o.test in
    record {
      other = over f n.other;
      differs = λ e. n.differs (last_told s k f n.other o.last n.test o.test (e ∙ o.is));
      listed = over_listed s a k f n.other n.test;
      has = has_facet s k f n.other o.facet n.test;
      only = λ e me ie. (
          let p = over_facet s k e f (listed_is_cell s e a me) ie in
          elim (n.only p.last p.test) [
            | inl q ↦ inl (p.is ∙ ap (over f) q ∙ sym o.is)
            | inr q ↦ inr (p.is ∙ ap (over f) q)
          ]);
    }
