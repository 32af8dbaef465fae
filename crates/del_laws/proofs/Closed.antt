-- The laws of stars and closed parts over tests; a set of empty cells with no open facet is the complex.
use Rattle.std.specs.Prelude.{ℕ, ◌≡◌, Bool, true, List, [], ◌∷◌}
use Rattle.std.proofs.Common.{refl, inl, inr, subst, sym, ◌∙◌, ap}
use Rattle.list_laws.proofs.Cited.{all_in, both, is_true, of_three}
use Rattle.point_order.specs.Sets.{IsIn}
use Rattle.del_laws.specs.Cells.{Vertex, point, Held, Cell, NoTies, IsRegion, HavePoints}
use Rattle.del_laws.specs.Base.{Symmetric}
use Rattle.del_laws.specs.Parts.{IsClosedAround, StarLaw, ClosedPart, CellsAtAVertex, EmptyCells}
use Rattle.del_laws.proofs.Orders.{swap12, swap23, swap34, cell_12, cell_23}
use Rattle.del_laws.proofs.Facets.{facing}
use Rattle.del_laws.proofs.Decide.{is_held, vertex_discrete}
use Rattle.del_laws.proofs.Parts.{IsPart, part_all, has_even}

-- whether a vertex is one of four
is_vertex : (i : Vertex) (l : List Vertex) → Dec (IsIn i l)
is_vertex i [] = no (λ m. m)
is_vertex i (x ∷ l) = by_first (vertex_discrete x i) (is_vertex i l)
  where
    -- the first, or a later one
    by_first : Dec (x ≡ i) → Dec (IsIn i l) → Dec (IsIn i (x ∷ l))
    by_first (yes e) d = yes (inl e)
    by_first (no n) (yes m) = yes (inr m)
    by_first (no n) (no k) = no (λ m. elim m [ inl e ↦ n e | inr r ↦ k r ])

-- whether four vertices have all points of a list
have_points : (k : List ℕ) (w x y z : Vertex) → Dec (HavePoints k w x y z)
have_points k w x y z =
    by_all (all_in (λ i. IsIn (point i) (w ∷ x ∷ y ∷ z ∷ [])) (λ i. is_vertex (point i) (w ∷ x ∷ y ∷ z ∷ [])) k)
  where
    -- as a record
    by_all : Dec ((i : ℕ) → IsIn i k → IsIn (point i) (w ∷ x ∷ y ∷ z ∷ [])) → Dec (HavePoints k w x y z)
    by_all (yes f) = yes (record { one_of = f })
    by_all (no n) = no (λ r. n r.one_of)

module _ (h : ℕ → ℕ) (s : List ℕ) (n : NoTies h s) (k : List ℕ) (q : Vertex → Vertex → Vertex → Vertex → Bool)
    (sq : Symmetric q) where
  -- the cells that pass and have the points
  abbrev Around : Vertex → Vertex → Vertex → Vertex → Type 0
  Around w x y z = Held h s w x y z × ((q w x y z ≡ true) × HavePoints k w x y z)

  -- they are a set of cells
  around_region : IsRegion h s Around
  around_region = record {
    decide = λ w x y z. both (is_held h s w x y z) (both (is_true (q w x y z)) (have_points k w x y z));
    even = record {
      swap12 =
          λ w x y z t. (swap12 h s w x y z t.0, (sym (sq.first w x y z) ∙ t.1.0, (has_even k).swap12 w x y z t.1.1));
      swap23 =
          λ w x y z t. (swap23 h s w x y z t.0, (sym (sq.middle w x y z) ∙ t.1.0, (has_even k).swap23 w x y z t.1.1));
      swap34 =
          λ w x y z t. (swap34 h s w x y z t.0, (sym (sq.last w x y z) ∙ t.1.0, (has_even k).swap34 w x y z t.1.1));
    };
    held = λ w x y z t. t.0;
  }

  -- a triple that has the points, with one more vertex
  with_vertex : (a b c : ℕ) (y : Vertex) → ((i : ℕ) → IsIn i k → IsIn i (a ∷ b ∷ c ∷ [])) →
      HavePoints k (point a) (point b) (point c) y
  with_vertex a b c y f = record {
    one_of = λ i m. of_three (λ v. IsIn (point v) (point a ∷ point b ∷ point c ∷ y ∷ []))
        (f i m) (inl refl) (inr (inl refl)) (inr (inr (inl refl)));
  }

  -- closed across the triples that have the points
  around_part : IsClosedAround h s k q → IsPart h s Around k
  around_part g = record {
    has = λ w x y z t. t.1.1;
    across = λ a b c x y f t G. (
      G,
      (
        g a b c x y (record { inside = f }) (record { held = t.0 }) t.1.0
            (record { held = G }),
        with_vertex a b c y f,
      ),
    );
  }

-- the star law
pub star_law : StarLaw
star_law h s k q n sq g t u v w c p e x y z o d r =
    (part_all h s n (Around h s n k q sq) (around_region h s n k q sq) k (around_part h s n k q sq g) t u v w
    (c.held, (e, p)) x y z o d.held r).1.0

-- with no points
pub closed_part : ClosedPart
closed_part h s q n sq g t u v w c e x y z o d =
    star_law h s [] q n sq (λ a b c x y f i j l. g a b c x y i j l) t u v w c (record { one_of = λ i m. absurd m }) e x
    y z o d (record { one_of = λ i m. absurd m })

-- with one
pub cells_at_a_vertex : CellsAtAVertex
cells_at_a_vertex h s e q n sq g u v w c m x y z d =
    star_law h s (e ∷ []) q n sq around (point e) u v w c first m (point e) x y z d first
  where
    -- e is the first
    first : {u v w : Vertex} → HavePoints (e ∷ []) (point e) u v w
    first {u} {v} {w} = record { one_of = λ i m. elim m [ inl q ↦ inl (ap point q) | inr none ↦ absurd none ] }

    -- e is one of the three
    around : IsClosedAround h s (e ∷ []) q
    around a b c x y f i j l =
        of_three (λ v. (v ≡ e) → q (point a) (point b) (point c) y ≡ true) (f.inside e (inl refl))
        (λ p. at_first a b c x y p i j l)
        (λ p. sq.first (point a) (point b) (point c) y ∙ at_first b a c x y p (cell_12 i)
        (sym (sq.first (point a) (point b) (point c) x) ∙ j) (cell_12 l))
        (λ p. sq.middle (point a) (point b) (point c) y ∙ sq.first (point a) (point c) (point b) y
        ∙ at_first c a b x y p (cell_12 (cell_23 i)) (sym (sq.middle (point a) (point b) (point c) x
        ∙ sq.first (point a) (point c) (point b) x) ∙ j) (cell_12 (cell_23 l)))
        refl
      where
        -- the first of the three
        at_first : (a b c : ℕ) (x y : Vertex) → a ≡ e → Cell h s (point a) (point b) (point c) x →
            q (point a) (point b) (point c) x ≡ true → Cell h s (point a) (point b) (point c) y →
            q (point a) (point b) (point c) y ≡ true
        at_first a b c x y p =
            let P : ℕ → Type 0 = λ v. Cell h s (point v) (point b) (point c) x → q (point v) (point b) (point c) x
            ≡ true → Cell h s (point v) (point b) (point c) y → q (point v) (point b) (point c) y ≡ true in
            subst P (sym p) (g b c x y)

-- empty cells with no open facet
pub empty_cells : EmptyCells
empty_cells h s q n sq held second t u v w m x y z o d =
    closed_part h s q n sq next t u v w (held t u v w m) m x y z o d
  where
    -- they are closed across triples
    next : (a b c : ℕ) (x y : Vertex) → Cell h s (point a) (point b) (point c) x → q (point a) (point b) (point c) x
        ≡ true → Cell h s (point a) (point b) (point c) y → q (point a) (point b) (point c) y ≡ true
    next a b c x y C e D =
        let f = facing h s n (point a) (point b) (point c) x C.held in
        let r = second (point a) (point b) (point c) x e in
        elim (f.only y D.held) [
          | inl i ↦ subst (λ v. q (point a) (point b) (point c) v ≡ true) (sym i) e
          | inr i ↦ elim (f.only r.at (held (point a) (point b) (point c) r.at r.holds).held) [
            | inl j ↦ absurd (r.differs j)
            | inr j ↦ subst (λ v. q (point a) (point b) (point c) v ≡ true) (j ∙ sym i) r.holds
          ]
        ]
