-- The two sides of a triple, and the two sides of a pair on the hull.
use Rattle.std.specs.Prelude.{ℕ, ℤ, pos, ◌+ℤ◌, ◌-ℤ◌, ◌*ℤ◌, ◌≡◌, ◌<ℤ◌, List, ◌⊎◌}
use Rattle.std.proofs.Common.{arith, refl, inl, inr, subst, sym, ◌∙◌, ap}
use Rattle.std.proofs.lemmas.Int.{ints}
use Rattle.whole_ring.proofs.Cited.{mul_pos}
use Rattle.list_laws.proofs.Cited.{not_zero, opposite, positive_factor}
use Rattle.point_order.specs.Orientation.{orientation}
use Rattle.point_order.specs.Heights.{lifted}
use Rattle.point_order.proofs.Cited.{last_first, last_second, last_third, swap_last}
use Rattle.del_laws.specs.Cells.{Open, Vertex, point, far, On, Held, NoTies, OneOf}
use Rattle.del_laws.proofs.Identities.{orientation_same13, orientation_same23, lifted_swap45, lifted_swap35}
use Rattle.del_laws.proofs.Identities.{three_terms_of}
use Rattle.del_laws.proofs.Lists.{of_four}
use Rattle.del_laws.proofs.CellFacts.{full_a, full_b, full_c, full_d, full_turned, full_empty, full_against, open_a}
use Rattle.del_laws.proofs.CellFacts.{open_b, open_c, open_mate, open_bounds, open_ties, open_under}
use Rattle.del_laws.proofs.Across.{across}

-- one of four points, off the plane of the first three: it is the fourth
pub fourth : (a b c d e : ℕ) → OneOf e a b c d → ¬ (orientation a b c e ≡ pos 0) → e ≡ d
fourth a b c d e m n =
    of_four (λ x. ¬ (orientation a b c x ≡ pos 0) → x ≡ d) m (λ k. absurd (k (last_first a b c)))
    (λ k. absurd (k (last_second a b c))) (λ k. absurd (k (last_third a b c))) (λ k. refl) n

-- no vertex is on both sides of a triple
pub disjoint : (h : ℕ → ℕ) (s : List ℕ) (a b c : ℕ) (z : Vertex) → On h s a b c z → On h s a c b z → ⊥
disjoint h s a b c (point d) F G = full_against F G
disjoint h s a b c far F G = let m = open_mate F in open_under _ m.1 m.2 G

-- on each side of a triple there is at most one cell
pub unique : (h : ℕ → ℕ) (s : List ℕ) (a b c : ℕ) → NoTies h s → (z y : Vertex) → On h s a b c z → On h s a b c y →
    z ≡ y
unique h s a b c n (point d) (point e) F G =
    let z : lifted h a b c d e ≡ pos 0 = opposite (lifted h a b c d e) (lifted h a b c e d) (full_empty F e (full_d G))
    (full_empty G d (full_d F)) (lifted_swap45 h a b c d e) in
    ap point (sym (fourth a b c d e (n.one_of a b c d e (full_a F) (full_b F) (full_c F) (full_d F) (full_d G)
    (not_zero (orientation a b c d) (full_turned F)) z) (not_zero (orientation a b c e) (full_turned G))))
unique h s a b c n (point d) far F G = absurd (open_under _ (full_d F) (full_turned F) G)
unique h s a b c n far (point d) F G = absurd (open_under _ (full_d G) (full_turned G) F)
unique h s a b c n far far F G = refl

-- on each side of a pair there is at most one Open cell
pub one_open : {h : ℕ → ℕ} {s : List ℕ} {a b x y : ℕ} → NoTies h s → Open h s a b x → Open h s a b y → x ≡ y
one_open {h} {s} {a} {b} {x} {y} n F G =
    let i = open_mate F in
    let j = open_mate G in
    let f = i.0 in
    let g = j.0 in
    let flat : orientation a b x y ≡ pos 0 = opposite (orientation a b x y) (orientation a b y x)
    (open_bounds F y (open_c G)) (open_bounds G x (open_c F)) (swap_last a b x y) in
    let flat' : orientation a b y x ≡ pos 0 = opposite (orientation a b y x) (orientation a b x y)
    (open_bounds G x (open_c F)) (open_bounds F y (open_c G)) (swap_last a b y x) in
    let p : pos 0 <ℤ (orientation a b x f *ℤ orientation a b y g) =
    mul_pos (orientation a b x f) (orientation a b y g) i.2 j.2 in
    let t : orientation a b x y *ℤ orientation a b f g -ℤ orientation a b x f *ℤ orientation a b y g
    +ℤ orientation a b x g *ℤ orientation a b y f ≡ pos 0 = three_terms_of a b x y f g in
    let q : pos 0 <ℤ (orientation a b x g *ℤ orientation a b y f) = moved (orientation a b x y) (orientation a b f g)
    (orientation a b x f *ℤ orientation a b y g) (orientation a b x g *ℤ orientation a b y f) t flat p in
    let yf : pos 0 <ℤ orientation a b y f =
    positive_factor (orientation a b x g) (orientation a b y f) q (open_bounds G f i.1) in
    let z : lifted h a b x f y ≡ pos 0 = opposite (lifted h a b x f y) (lifted h a b y f x)
    (open_ties F f y i.1 (open_c G) i.2 flat) (open_ties G f x i.1 (open_c F) yf flat')
    (lifted_swap35 h a b x f y) in
    among f yf g j.2 (n.one_of a b x f y (open_a F) (open_b F) (open_c F) i.1 (open_c G)
    (not_zero (orientation a b x f) i.2) z)
  where
    -- a sum without its first term
    moved : (k l m r : ℤ) → k *ℤ l -ℤ m +ℤ r ≡ pos 0 → k ≡ pos 0 → pos 0 <ℤ m → pos 0 <ℤ r
    moved k l m r e z p = let c : k *ℤ l ≡ pos 0 = ap (λ v. v *ℤ l) z ∙ omega (arith, ints) in omega (arith, ints)

    -- y is one of the four points, and none but x
    among : (f : ℕ) → pos 0 <ℤ orientation a b y f → (g : ℕ) → pos 0 <ℤ orientation a b y g → OneOf y a b x f → x ≡ y
    among f yf g yg m =
        of_four (λ v. pos 0 <ℤ orientation a b v f → pos 0 <ℤ orientation a b v g → x ≡ v) m
        (λ k l. absurd (not_zero (orientation a b a g) l (orientation_same13 a b g)))
        (λ k l. absurd (not_zero (orientation a b b g) l (orientation_same23 a b g)))
        (λ k l. refl)
        (λ k l. absurd (not_zero (orientation a b f f) k (last_third a b f)))
        yf yg

-- the vertex on the other side of a facet
pub record Facing (h : ℕ → ℕ) (s : List ℕ) (t u v x : Vertex) : Type 0 where
  pub other : Vertex
  pub differs : ¬ (other ≡ x)
  pub cell : Held h s t u v other
  pub only : (z : Vertex) → Held h s t u v z → (z ≡ x) ⊎ (z ≡ other)

-- the vertices on the two sides are not one
apart : (h : ℕ → ℕ) (s : List ℕ) (a b c : ℕ) (x y : Vertex) → On h s a b c x → On h s a c b y → ¬ (y ≡ x)
apart h s a b c x y F G e = disjoint h s a b c x F (subst (λ v. On h s a c b v) e G)

-- a triple of a cell lies in exactly two cells
pub facing_triple : {h : ℕ → ℕ} {s : List ℕ} → NoTies h s → (a b c : ℕ) (x : Vertex) →
    Held h s (point a) (point b) (point c) x → Facing h s (point a) (point b) (point c) x
facing_triple {h} {s} n a b c x k = elim k [
  | inl F ↦ first F (across x F)
  | inr F ↦ second F (across x F)
]
  where
    -- the vertex is on the one side
    first : On h s a b c x → (y : Vertex) × On h s a c b y → Facing h s (point a) (point b) (point c) x
    first F t = record {
      other = t.0;
      differs = apart h s a b c x t.0 F t.1;
      cell = inr t.1;
      only = λ z m. elim m [ inl G ↦ inl (unique h s a b c n z x G F) | inr G ↦ inr (unique h s a c b n z t.0 G t.1) ];
    }

    -- the vertex is on the other side
    second : On h s a c b x → (y : Vertex) × On h s a b c y → Facing h s (point a) (point b) (point c) x
    second F t = record {
      other = t.0;
      differs = apart h s a c b x t.0 F t.1;
      cell = inl t.1;
      only = λ z m. elim m [ inl G ↦ inr (unique h s a b c n z t.0 G t.1) | inr G ↦ inl (unique h s a c b n z x G F) ];
    }
