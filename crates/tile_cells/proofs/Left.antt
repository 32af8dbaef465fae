-- Each cell of a set is found, or is a cell of the points that are left.
use Rattle.std.specs.Prelude.{ℕ, ◌≡◌, Bool, true, false, List, ◌⊎◌}
use Rattle.std.proofs.Common.{refl, inl, inr, sym, ◌∙◌, subst}
use Rattle.point_order.specs.Sets.{IsIn}
use Rattle.del_laws.specs.Base.{Symmetric}
use Rattle.del_laws.specs.Cells.{Vertex, point, far, Full, Cell, NoTies, IsSubset, Inside}
use Rattle.del_laws.proofs.Closed.{cells_at_a_vertex}
use Rattle.del_laws.proofs.Facets.{facet_law}
use Rattle.del_laws.proofs.Laws.{one_full_on_a_side, swap_first, swap_middle, swap_last, smaller_set}
use Rattle.del_laws.proofs.CellFacts.{full_against}
use Rattle.del_laws.proofs.Smaller.{held_inside}
use Rattle.tile_cells.specs.Left.{IsSettled, FoundOrLeft, OnlyOneLeft}
use Rattle.list_laws.proofs.Cited.{not_both as clashes}

module _ (h : ℕ → ℕ) (s r : List ℕ) (q : Vertex → Vertex → Vertex → Vertex → Bool) (n : NoTies h s) (even : Symmetric q)
    (found : (w x y z : Vertex) → q w x y z ≡ true → Cell h s w x y z)
    (left : (e : ℕ) → IsIn e s → IsIn e r ⊎ IsSettled q e) where
  -- all cells at a settled point are found
  settled : (e : ℕ) → IsSettled q e → (x y z : Vertex) → Cell h s (point e) x y z → q (point e) x y z ≡ true
  settled e k x y z F =
      cells_at_a_vertex h s e q n even across k.u k.v k.w (found (point e) k.u k.v k.w k.some) k.some x y z F
    where
      -- the cell across is the second one
      across : (a b : ℕ) (x y : Vertex) → Cell h s (point e) (point a) (point b) x →
          q (point e) (point a) (point b) x ≡ true → Cell h s (point e) (point a) (point b) y →
          q (point e) (point a) (point b) y ≡ true
      across a b x y F i G =
          let o = facet_law h s (point e) (point a) (point b) x n F in
          let t = k.second a b x i in
          elim (o.only y G) [
            | inl f ↦ subst (λ v. q (point e) (point a) (point b) v ≡ true) (sym f) i
            | inr f ↦ elim (o.only t.at (found (point e) (point a) (point b) t.at t.holds)) [
              | inl g ↦ absurd (t.differs g)
              | inr g ↦ subst (λ v. q (point e) (point a) (point b) v ≡ true) (g ∙ sym f) t.holds
            ]
          ]

  -- a vertex can be one of those that are left, or is a settled point
  abbrev Told : Vertex → Type 0
  Told v = Inside r v ⊎ ((e : ℕ) × (v ≡ point e) × IsSettled q e)

  told : (v : Vertex) → Inside s v → Told v
  told (point e) i = elim (left e i) [ inl m ↦ inl m | inr k ↦ inr (e, refl, k) ]
  told far i = inl tt

  -- a cell with a settled point in front is found
  front : (v x y z : Vertex) → ((e : ℕ) × (v ≡ point e) × IsSettled q e) → Cell h s v x y z → q v x y z ≡ true
  front v x y z k F =
      subst (λ u. Cell h s u x y z → q u x y z ≡ true) (sym k.1) (λ G. settled k.0 k.2 x y z G) F

-- the law FoundOrLeft
pub found_or_left : FoundOrLeft
found_or_left h s r q n even sub solid found left w x y z F =
    let m = held_inside h s w x y z F.held in
    elim (told h s r q n even found left w m.first) [
      | inr k ↦ inl (front h s r q n even found left w x y z k F)
      | inl a ↦ elim (told h s r q n even found left x m.second) [
        | inr k ↦ inl (even.first w x y z ∙ front h s r q n even found left x w y z k (swap_first h s w x y z F))
        | inl b ↦ elim (told h s r q n even found left y m.third) [
          | inr k ↦ inl (even.middle w x y z ∙ even.first w y x z
              ∙ front h s r q n even found left y w x z k (swap_first h s w y x z (swap_middle h s w x y z F)))
          | inl c ↦ elim (told h s r q n even found left z m.fourth) [
            | inr k ↦ inl (even.last w x y z ∙ even.middle w x z y ∙ even.first w z x y
                ∙ front h s r q n even found left z w x y k
                (swap_first h s w z x y (swap_middle h s w x z y (swap_last h s w x y z F))))
            | inl d ↦ inr (smaller_set h r s sub solid w x y z F a b c d)
          ]
        ]
      ]
    ]

-- no ties among some of the points
fewer : (h : ℕ → ℕ) (s r : List ℕ) → IsSubset r s → NoTies h s → NoTies h r
fewer h s r sub n = record {
  one_of = λ a b c d e ma mb mc md me k z. n.one_of a b c d e (sub.inside a ma) (sub.inside b mb) (sub.inside c mc)
      (sub.inside d md) (sub.inside e me) k z;
}

-- the law OnlyOneLeft
pub only_one_left : OnlyOneLeft
only_one_left h s r q n even sub solid found left a b c d F k =
    let l : Full h r a b c d =
    elim (found_or_left h s r q n even sub solid found left (point a) (point b) (point c) (point d)
    (record { held = inl F })) [
      | inl i ↦ absurd (clashes (q (point a) (point b) (point c) (point d)) i k)
      | inr G ↦ by_order G.held
    ] in
    (l, λ e G. one_full_on_a_side h r a b c e d (fewer h s r sub n) G l)
  where
    -- it keeps its order
    by_order : Full h r a b c d ⊎ Full h r a c b d → Full h r a b c d
    by_order H = elim H [ inl G ↦ G | inr G ↦ absurd (full_against F G) ]
