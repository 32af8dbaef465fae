-- Orders of a cell's points: even exchanges keep Full and Open, and a cell is symmetric in its vertices.
--
use Rattle.std.specs.Prelude.{ℕ, List}
use Rattle.std.proofs.Common.{sym, ◌∙◌, inl, inr}
use Rattle.del_laws.specs.Cells.{Full, Open, Vertex, point, far, Held, Cell}
use Rattle.del_laws.proofs.Identities.{orientation_bcad, orientation_acdb, lifted_bcad, lifted_acdb}
use Rattle.del_laws.proofs.CellFacts.{full_cell, full_a, full_b, full_c, full_d, full_turned, full_empty, open_by_mate}
use Rattle.del_laws.proofs.CellFacts.{open_a, open_b, open_c, open_mate, open_bounds, open_ties}

-- the first three points of a Full cell are turned
pub full_left : {h : ℕ → ℕ} {s : List ℕ} {a b c d : ℕ} → Full h s a b c d → Full h s b c a d
full_left {h} {s} {a} {b} {c} {d} f =
    full_cell (full_b f) (full_c f) (full_a f) (full_d f) (rw orientation_bcad (full_turned f))
    (λ e m. rw lifted_bcad (full_empty f e m))

-- the last three are turned
pub full_right : {h : ℕ → ℕ} {s : List ℕ} {a b c d : ℕ} → Full h s a b c d → Full h s a c d b
full_right {h} {s} {a} {b} {c} {d} f =
    full_cell (full_a f) (full_c f) (full_d f) (full_b f) (rw orientation_acdb (full_turned f))
    (λ e m. rw lifted_acdb (full_empty f e m))

-- the three points of an Open cell are turned
pub open_left : {h : ℕ → ℕ} {s : List ℕ} {a b c : ℕ} → Open h s a b c → Open h s b c a
open_left {h} {s} {a} {b} {c} f =
    let k = open_mate f in
    open_by_mate (open_b f) (open_c f) (open_a f) k.0 k.1 (rw orientation_bcad k.2)
    (λ e m. rw orientation_bcad (open_bounds f e m))
    (λ e m z. rw lifted_bcad (open_ties f k.0 e k.1 m k.2 (sym (orientation_bcad a b c e) ∙ z)))

-- the first two vertices are exchanged
pub swap12 : (h : ℕ → ℕ) (s : List ℕ) (w x y z : Vertex) → Held h s w x y z → Held h s x w y z
swap12 h s (point a) (point b) (point c) (point d) k = elim k [
  | inl f ↦ inr (full_left f)
  | inr f ↦ inl (full_left (full_left f))
]
swap12 h s (point a) (point b) (point c) far k = elim k [
  | inl f ↦ inr (open_left (open_left f))
  | inr f ↦ inl (open_left f)
]
swap12 h s (point a) (point b) far (point d) k = elim k [
  | inl f ↦ inr (open_left (open_left f))
  | inr f ↦ inl (open_left f)
]
swap12 h s (point a) (point b) far far k = k
swap12 h s (point a) far (point c) (point d) k = k
swap12 h s (point a) far (point c) far k = k
swap12 h s (point a) far far z k = k
swap12 h s far (point a) (point c) (point d) k = k
swap12 h s far (point a) (point c) far k = k
swap12 h s far (point a) far z k = k
swap12 h s far far y z k = k

-- the middle two are exchanged
pub swap23 : (h : ℕ → ℕ) (s : List ℕ) (w x y z : Vertex) → Held h s w x y z → Held h s w y x z
swap23 h s (point a) (point b) (point c) z k = elim k [ inl f ↦ inr f | inr f ↦ inl f ]
swap23 h s (point a) (point b) far (point d) k = k
swap23 h s (point a) (point b) far far k = k
swap23 h s (point a) far (point c) (point d) k = k
swap23 h s (point a) far (point c) far k = k
swap23 h s (point a) far far z k = k
swap23 h s far (point a) (point c) (point d) k = elim k [
  | inl f ↦ inr (open_left (open_left f))
  | inr f ↦ inl (open_left f)
]
swap23 h s far (point a) (point c) far k = k
swap23 h s far (point a) far z k = k
swap23 h s far far (point a) z k = k
swap23 h s far far far z k = k

-- the last two are exchanged
pub swap34 : (h : ℕ → ℕ) (s : List ℕ) (w x y z : Vertex) → Held h s w x y z → Held h s w x z y
swap34 h s (point a) (point b) (point c) (point d) k = elim k [
  | inl f ↦ inr (full_right (full_right f))
  | inr f ↦ inl (full_right f)
]
swap34 h s (point a) (point b) (point c) far k = k
swap34 h s (point a) (point b) far (point d) k = k
swap34 h s (point a) (point b) far far k = k
swap34 h s (point a) far (point c) (point d) k = elim k [ inl f ↦ inr f | inr f ↦ inl f ]
swap34 h s (point a) far (point c) far k = k
swap34 h s (point a) far far (point d) k = k
swap34 h s (point a) far far far k = k
swap34 h s far (point a) (point c) (point d) k = elim k [ inl f ↦ inr f | inr f ↦ inl f ]
swap34 h s far (point a) (point c) far k = k
swap34 h s far (point a) far (point d) k = k
swap34 h s far (point a) far far k = k
swap34 h s far far (point a) (point d) k = k
swap34 h s far far (point a) far k = k
swap34 h s far far far (point d) k = k
swap34 h s far far far far k = k

-- the same for the record: the first two
pub cell_12 : {h : ℕ → ℕ} {s : List ℕ} {w x y z : Vertex} → Cell h s w x y z → Cell h s x w y z
cell_12 {h} {s} {w} {x} {y} {z} c = record { held = swap12 h s w x y z c.held }

-- the middle two
pub cell_23 : {h : ℕ → ℕ} {s : List ℕ} {w x y z : Vertex} → Cell h s w x y z → Cell h s w y x z
cell_23 {h} {s} {w} {x} {y} {z} c = record { held = swap23 h s w x y z c.held }

-- the last two
pub cell_34 : {h : ℕ → ℕ} {s : List ℕ} {w x y z : Vertex} → Cell h s w x y z → Cell h s w x z y
cell_34 {h} {s} {w} {x} {y} {z} c = record { held = swap34 h s w x y z c.held }
