-- Every facet of a cell lies in exactly two cells.
use Rattle.std.specs.Prelude.{ℕ, List}
use Rattle.del_laws.specs.Cells.{Vertex, point, far, Held, NoTies}
use Rattle.del_laws.specs.Laws.{FacetLaw}
use Rattle.del_laws.proofs.Orders.{swap12, swap23}
use Rattle.del_laws.proofs.Sides.{Facing, facing_triple}
use Rattle.del_laws.proofs.Pairs.{facing_pair}

-- the facet in another order
moved : (h : ℕ → ℕ) (s : List ℕ) (t u v t' u' v' x : Vertex) → ((z : Vertex) → Held h s t u v z → Held h s t' u' v' z) →
    ((z : Vertex) → Held h s t' u' v' z → Held h s t u v z) → Facing h s t u v x → Facing h s t' u' v' x
moved h s t u v t' u' v' x f g k =
    record { other = k.other; differs = k.differs; cell = f k.other k.cell; only = λ z m. k.only z (g z m) }

-- the vertex across a facet of a cell
pub facing : (h : ℕ → ℕ) (s : List ℕ) → NoTies h s → (t u v x : Vertex) → Held h s t u v x → Facing h s t u v x
facing h s n (point a) (point b) (point c) x k = facing_triple n a b c x k
facing h s n (point a) (point b) far x k = facing_pair h s n a b x k
facing h s n (point a) far (point c) x k =
    moved h s (point a) (point c) far (point a) far (point c) x (swap23 h s (point a) (point c) far)
    (swap23 h s (point a) far (point c)) (facing_pair h s n a c x (swap23 h s (point a) far (point c) x k))
facing h s n far (point b) (point c) x k =
    moved h s (point b) (point c) far far (point b) (point c) x
    (λ z m. swap12 h s (point b) far (point c) z (swap23 h s (point b) (point c) far z m))
    (λ z m. swap23 h s (point b) far (point c) z (swap12 h s far (point b) (point c) z m))
    (facing_pair h s n b c x (swap23 h s (point b) far (point c) x (swap12 h s far (point b) (point c) x k)))
facing h s n (point a) far far x k = absurd k
facing h s n far (point b) far x k = absurd k
facing h s n far far v x k = absurd k

-- the law of specs/Laws
pub facet_law : FacetLaw
facet_law h s t u v x n c =
    let f = facing h s n t u v x c.held in
    record { other = f.other; differs = f.differs; cell = record { held = f.cell }; only = λ z m. f.only z m.held }
