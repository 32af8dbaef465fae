-- Whether four vertices are a cell can be decided.
use Rattle.std.specs.Prelude.{ℕ, pos, ◌≡◌, ◌≤ℤ◌, ◌<ℤ◌, List}
use Rattle.std.proofs.Common.{refl, ap}
use Rattle.std.proofs.Math.Decide.{ℕ_discrete}
use Rattle.list_laws.proofs.Cited.{all_in, both, either, follows, is_at_zero, is_in, is_not_below, is_positive, moved}
use Rattle.list_laws.proofs.Cited.{some_in}
use Rattle.point_order.specs.Orientation.{orientation}
use Rattle.point_order.specs.Heights.{lifted}
use Rattle.point_order.specs.Sets.{IsIn}
use Rattle.del_laws.specs.Cells.{Full, Open, Vertex, point, far, On, Held}
use Rattle.del_laws.proofs.CellFacts.{full_cell, full_a, full_b, full_c, full_d, full_turned, full_empty, open_by_mate}
use Rattle.del_laws.proofs.CellFacts.{open_a, open_b, open_c, open_mate, open_bounds, open_ties}

-- ---- decisions in general

-- whether two vertices are one
pub vertex_discrete : (x y : Vertex) → Dec (x ≡ y)
vertex_discrete (point a) (point b) = moved (λ e. ap point e) (λ e. (let q : a ≡ b = cc in q)) (ℕ_discrete a b)
vertex_discrete (point a) far = no (λ e. (cc))
vertex_discrete far (point b) = no (λ e. (cc))
vertex_discrete far far = yes refl

-- ---- cells

-- whether four points are a Full cell in this order
pub decide_full : (h : ℕ → ℕ) (s : List ℕ) (a b c d : ℕ) → Dec (Full h s a b c d)
decide_full h s a b c d =
    moved (λ t. full_cell t.0.0.0 t.0.0.1 t.0.1.0 t.0.1.1 t.1.0 t.1.1)
    (λ f. (((full_a f, full_b f), (full_c f, full_d f)), (full_turned f, full_empty f)))
    (both (both (both (is_in a s) (is_in b s)) (both (is_in c s) (is_in d s)))
    (both (is_positive (orientation a b c d)) (all_in (λ e. pos 0 ≤ℤ lifted h a b c d e)
    (λ e. is_not_below (lifted h a b c d e)) s)))

-- the tie rule for one mate
abbrev Ties : (ℕ → ℕ) → List ℕ → ℕ → ℕ → ℕ → ℕ → Type 0
Ties h s a b c f =
    (e : ℕ) → IsIn e s → pos 0 <ℤ orientation a b c f → orientation a b c e ≡ pos 0 → pos 0 ≤ℤ lifted h a b c f e

-- whether three points are an Open cell in this order
pub decide_open : (h : ℕ → ℕ) (s : List ℕ) (a b c : ℕ) → Dec (Open h s a b c)
decide_open h s a b c =
    moved (λ t. open_by_mate t.0.0.0 t.0.0.1 t.0.1.0 t.0.1.1.0 t.0.1.1.1 t.0.1.1.2 t.1.0
    (λ e m z. t.1.1 t.0.1.1.0 t.0.1.1.1 e m t.0.1.1.2 z))
    (λ f. (((open_a f, open_b f), (open_c f, open_mate f)), (open_bounds f, λ g m e k. open_ties f g e m k)))
    (both (both (both (is_in a s) (is_in b s)) (both (is_in c s)
    (some_in (λ f. pos 0 <ℤ orientation a b c f) (λ f. is_positive (orientation a b c f)) s)))
    (both (all_in (λ e. pos 0 ≤ℤ orientation a b c e) (λ e. is_not_below (orientation a b c e)) s)
    (all_in (λ f. Ties h s a b c f) (λ f. all_in (λ e. pos 0 <ℤ orientation a b c f → orientation a b c e ≡ pos 0 →
    pos 0 ≤ℤ lifted h a b c f e)
    (λ e. follows (is_positive (orientation a b c f)) (follows (is_at_zero (orientation a b c e))
    (is_not_below (lifted h a b c f e)))) s) s)))

-- whether a vertex is on the positive side of a triple
pub is_on : (h : ℕ → ℕ) (s : List ℕ) (a b c : ℕ) (z : Vertex) → Dec (On h s a b c z)
is_on h s a b c (point d) = decide_full h s a b c d
is_on h s a b c far = decide_open h s a c b

-- whether four vertices are a cell
pub is_held : (h : ℕ → ℕ) (s : List ℕ) (w x y z : Vertex) → Dec (Held h s w x y z)
is_held h s (point a) (point b) (point c) z = either (is_on h s a b c z) (is_on h s a c b z)
is_held h s (point a) (point b) far (point c) = either (is_on h s a b c far) (is_on h s a c b far)
is_held h s (point a) (point b) far far = no (λ m. m)
is_held h s (point a) far (point b) (point c) = either (is_on h s a b c far) (is_on h s a c b far)
is_held h s (point a) far (point b) far = no (λ m. m)
is_held h s (point a) far far z = no (λ m. m)
is_held h s far (point a) (point b) (point c) = either (is_on h s a b c far) (is_on h s a c b far)
is_held h s far (point a) (point b) far = no (λ m. m)
is_held h s far (point a) far z = no (λ m. m)
is_held h s far far y z = no (λ m. m)
