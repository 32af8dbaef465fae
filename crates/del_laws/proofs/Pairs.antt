-- A pair of an Open cell lies in exactly two Open cells: by the handshake lemma, as each of its triples lies in none or
-- two cells.
--
use Rattle.std.specs.Prelude.{ℕ, ◌≡◌, Bool, true, false, List, [], ◌∷◌, ◌⊎◌}
use Rattle.std.proofs.Common.{refl, inl, inr, subst, sym, ap}
use Rattle.list_laws.specs.Lists.{AreDistinct}
use Rattle.list_laws.specs.Laws.{odd, IsGraph}
use Rattle.list_laws.proofs.Cited.{HasSome, another, even_degrees, holds_true, is_in, look, none_even, true_if}
use Rattle.list_laws.proofs.Cited.{true_if_no, true_if_same, true_if_yes, two_even}
use Rattle.point_order.specs.Sets.{IsIn}
use Rattle.point_order.proofs.Cited.{last_second, last_third}
use Rattle.del_laws.specs.Cells.{Open, Vertex, point, far, Held, NoTies}
use Rattle.del_laws.proofs.CellFacts.{full_d, full_apart, open_b, open_c}
use Rattle.del_laws.proofs.Orders.{open_left, swap34}
use Rattle.del_laws.proofs.Sides.{Facing, facing_triple, one_open}
use Rattle.del_laws.proofs.Decide.{is_held}

-- ---- the points of a list once each, and the infinite vertex

-- one more point, unless it is there
put : {A : Type 0} → Dec A → ℕ → List ℕ → List ℕ
put (yes k) x xs = xs
put (no k) x xs = x ∷ xs

-- the points of a list, each once
once : List ℕ → List ℕ
once [] = []
once (x ∷ xs) = put (is_in x (once xs)) x (once xs)

-- what was there is there
put_tail : {A : Type 0} (d : Dec A) (x e : ℕ) (xs : List ℕ) → IsIn e xs → IsIn e (put d x xs)
unfolding put
put_tail (yes k) x e xs m = m
put_tail (no k) x e xs m = inr m

-- the point is there
put_head : (x : ℕ) (xs : List ℕ) (d : Dec (IsIn x xs)) → IsIn x (put d x xs)
unfolding put
put_head x xs (yes k) = k
put_head x xs (no k) = inl refl

-- no point is lost
in_once : (e : ℕ) (s : List ℕ) → IsIn e s → IsIn e (once s)
unfolding once
in_once e [] m = absurd m
in_once e (x ∷ xs) m = elim m [
  | inl q ↦ subst (λ w. IsIn w (put (is_in x (once xs)) x (once xs))) q (put_head x (once xs) (is_in x (once xs)))
  | inr r ↦ put_tail (is_in x (once xs)) x e (once xs) (in_once e xs r)
]

-- one more point, and still each once
distinct_put : (x : ℕ) (xs : List ℕ) (d : Dec (IsIn x xs)) → AreDistinct xs → AreDistinct (put d x xs)
unfolding put
distinct_put x xs (yes k) m = m
distinct_put x xs (no k) m = (k, m)

-- each is there once
distinct_once : (s : List ℕ) → AreDistinct (once s)
unfolding once
distinct_once [] = tt
distinct_once (x ∷ xs) = distinct_put x (once xs) (is_in x (once xs)) (distinct_once xs)

-- points as vertices
vertices : List ℕ → List Vertex
vertices [] = []
vertices (x ∷ xs) = point x ∷ vertices xs

-- all vertices that a cell can have
pub nodes : List ℕ → List Vertex
nodes s = far ∷ vertices (once s)

-- a point is told by its vertex
pub same_point : (a b : ℕ) → point a ≡ point b → a ≡ b
same_point a b e = cc

-- the infinite vertex is no point
pub far_point : (a : ℕ) → far ≡ point a → ⊥
far_point a e = cc

-- a point of the list is a vertex of it
in_vertices : (k : ℕ) (s : List ℕ) → IsIn k s → IsIn (point k) (vertices s)
unfolding vertices
in_vertices k [] m = absurd m
in_vertices k (x ∷ xs) m = elim m [ inl e ↦ inl (ap point e) | inr r ↦ inr (in_vertices k xs r) ]

-- and back
from_vertices : (k : ℕ) (s : List ℕ) → IsIn (point k) (vertices s) → IsIn k s
unfolding vertices
from_vertices k [] m = absurd m
from_vertices k (x ∷ xs) m = elim m [ inl e ↦ inl (same_point x k e) | inr r ↦ inr (from_vertices k xs r) ]

-- the infinite vertex is not among the points
no_far : (s : List ℕ) → IsIn far (vertices s) → ⊥
unfolding vertices
no_far [] m = m
no_far (x ∷ xs) m = elim m [ inl e ↦ far_point x (sym e) | inr r ↦ no_far xs r ]

-- distinct points are distinct vertices
distinct_vertices : (s : List ℕ) → AreDistinct s → AreDistinct (vertices s)
unfolding vertices
distinct_vertices [] d = tt
distinct_vertices (x ∷ xs) d = (λ m. d.0 (from_vertices x xs m), distinct_vertices xs d.1)

-- the nodes are distinct
pub distinct_nodes : (s : List ℕ) → AreDistinct (nodes s)
unfolding nodes
distinct_nodes s = (no_far (once s), distinct_vertices (once s) (distinct_once s))

-- a vertex is a node, if a point that it is is in the set
pub in_nodes : (s : List ℕ) (z : Vertex) → ((k : ℕ) → z ≡ point k → IsIn k s) → IsIn z (nodes s)
unfolding nodes
in_nodes s far m = inl refl
in_nodes s (point k) m = inr (in_vertices k (once s) (in_once k s (m k refl)))

-- ---- the graph of the vertices that make a cell with a pair

-- a point of a cell is in the set
pub last_in : (h : ℕ → ℕ) (s : List ℕ) (a b : ℕ) (y : Vertex) (k : ℕ) → Held h s (point a) (point b) y (point k) →
    IsIn k s
last_in h s a b (point c) k m = elim m [ inl F ↦ full_d F | inr F ↦ full_d F ]
last_in h s a b far k m = elim m [ inl F ↦ open_b F | inr F ↦ open_c F ]

-- a vertex of a cell is a node
held_in_nodes : (h : ℕ → ℕ) (s : List ℕ) (a b : ℕ) (y z : Vertex) → Held h s (point a) (point b) y z → IsIn z (nodes s)
held_in_nodes h s a b y z m =
    in_nodes s z (λ k e. last_in h s a b y k (subst (λ v. Held h s (point a) (point b) y v) e m))

-- y and z make a cell with the pair
abbrev pub linked : (ℕ → ℕ) → List ℕ → ℕ → ℕ → Vertex → Vertex → Bool
linked h s a b y z = true_if (is_held h s (point a) (point b) y z)

-- no cell has a vertex twice
pub not_twice : (h : ℕ → ℕ) (s : List ℕ) (a b : ℕ) (y : Vertex) → Held h s (point a) (point b) y y → ⊥
not_twice h s a b (point c) m = elim m [
  | inl F ↦ full_apart F (last_third a b c)
  | inr F ↦ full_apart F (last_second a c b)
]
not_twice h s a b far m = m

-- it is a graph
pub graph : (h : ℕ → ℕ) (s : List ℕ) (a b : ℕ) → IsGraph (linked h s a b)
graph h s a b = record {
  loose = λ y. true_if_no (is_held h s (point a) (point b) y y) (not_twice h s a b y);
  both = λ y z. true_if_same (is_held h s (point a) (point b) y z) (is_held h s (point a) (point b) z y)
      (swap34 h s (point a) (point b) y z) (swap34 h s (point a) (point b) z y);
}

-- a point has no neighbour or two
point_even : (h : ℕ → ℕ) (s : List ℕ) → NoTies h s → (a b c : ℕ) → odd (linked h s a b (point c)) (nodes s) ≡ false
point_even h s n a b c = elim (look (linked h s a b (point c)) (nodes s)) [
  | inl e ↦ none_even (linked h s a b (point c)) (nodes s) e
  | inr x ↦ two x (facing_triple n a b c x.at (holds_true (is_held h s (point a) (point b) (point c) x.at) x.holds))
]
  where
    -- two, where there is one
    two : (x : HasSome (linked h s a b (point c)) (nodes s)) → Facing h s (point a) (point b) (point c) x.at →
        odd (linked h s a b (point c)) (nodes s) ≡ false
    two x t =
        two_even (linked h s a b (point c)) x.at t.other (nodes s) (distinct_nodes s) x.found
        (held_in_nodes h s a b (point c) t.other t.cell) (λ e. t.differs (sym e)) x.holds
        (true_if_yes (is_held h s (point a) (point b) (point c) t.other) t.cell)
        (λ z i q. t.only z (holds_true (is_held h s (point a) (point b) (point c) z) q))

-- so the infinite vertex, the only other node, has evenly many
far_even : (h : ℕ → ℕ) (s : List ℕ) → NoTies h s → (a b : ℕ) → odd (linked h s a b far) (nodes s) ≡ false
far_even h s n a b = decided (odd (linked h s a b far) (nodes s)) refl
  where
    -- no other node has an odd degree
    no_other : (y : Vertex) → ¬ (y ≡ far) → odd (linked h s a b y) (nodes s) ≡ true → ⊥
    no_other far k o = k refl
    no_other (point c) k o = (let e = point_even h s n a b c in cc)

    -- either way
    decided : (v : Bool) → odd (linked h s a b far) (nodes s) ≡ v → odd (linked h s a b far) (nodes s) ≡ false
    decided false e = e
    decided true e = (
        let x = another (λ y. odd (linked h s a b y) (nodes s)) far (nodes s) (distinct_nodes s)
        (in_nodes s far (λ k f. absurd (far_point k f))) e (even_degrees (linked h s a b) (graph h s a b)
        (nodes s)) in
        absurd (no_other x.at x.differs x.holds))

-- a pair of an Open cell lies in exactly two Open cells
pub facing_pair : (h : ℕ → ℕ) (s : List ℕ) → NoTies h s → (a b : ℕ) (x : Vertex) → Held h s (point a) (point b) far x →
    Facing h s (point a) (point b) far x
facing_pair h s n a b x k =
    let y = another (linked h s a b far) x (nodes s) (distinct_nodes s) (held_in_nodes h s a b far x k)
    (true_if_yes (is_held h s (point a) (point b) far x) k) (far_even h s n a b) in
    let l : Held h s (point a) (point b) far y.at = holds_true (is_held h s (point a) (point b) far y.at) y.holds in
    record { other = y.at; differs = y.differs; cell = l; only = λ z m. third x y.at z y.differs k l m }
  where
    -- at most one on the one side
    plus : (x y : ℕ) → Open h s a b x → Open h s a b y → point x ≡ point y
    plus x y F G = ap point (one_open n F G)

    -- at most one on the other
    minus : (x y : ℕ) → Open h s a x b → Open h s a y b → point x ≡ point y
    minus x y F G = ap point (one_open n (open_left (open_left F)) (open_left (open_left G)))

    -- so no third
    third : (x y z : Vertex) → ¬ (y ≡ x) → Held h s (point a) (point b) far x → Held h s (point a) (point b) far y →
        Held h s (point a) (point b) far z → (z ≡ x) ⊎ (z ≡ y)
    third far y z d k l m = absurd k
    third (point x) far z d k l m = absurd l
    third (point x) (point y) far d k l m = absurd m
    third (point x) (point y) (point z) d k l m = elim k [
      | inl F ↦ elim m [
        | inl H ↦ inl (minus z x H F)
        | inr H ↦ elim l [ inl G ↦ absurd (d (minus y x G F)) | inr G ↦ inr (plus z y H G) ]
      ]
      | inr F ↦ elim m [
        | inr H ↦ inl (plus z x H F)
        | inl H ↦ elim l [ inr G ↦ absurd (d (plus y x G F)) | inl G ↦ inr (minus z y H G) ]
      ]
    ]
