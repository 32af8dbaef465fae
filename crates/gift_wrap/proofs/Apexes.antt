-- The fourth point of the cell over a triple: of the points above it, the one that leads when all were met.
use Rattle.std.specs.Prelude.{◌≡◌, ◌≢◌, ℕ, true, false, pos, ◌<ℤ◌, Bool, cond, not, ◌&&◌, ◌||◌, List, [], ◌∷◌, ◌++◌}
use Rattle.std.specs.Prelude.{◌⊎◌, Option, None, Some, IfSome}
use Rattle.std.specs.List.{list_all}
use Rattle.std.specs.Int.Signed.{lt_z}
use Rattle.std.proofs.Common.{refl, sym, ◌∙◌, subst, inl, inr}
use Rattle.list_laws.proofs.Cited.{all_from, among_from, first_true, from_append, in_left, in_right, less_from}
use Rattle.list_laws.proofs.Cited.{low_turned, not_both, not_zero, one_true, second_true, two_signs}
use Rattle.point_order.specs.Orientation.{orientation, is_flat}
use Rattle.point_order.specs.Heights.{height, lifted, out}
use Rattle.point_order.specs.Sets.{IsIn, AreFour, AreFive, is_among}
use Rattle.point_order.specs.Complex.{is_full}
use Rattle.point_order.specs.Spheres.{is_outside}
use Rattle.point_order.proofs.Cited.{last_first, last_second, last_third}
use Rattle.del_laws.specs.Cells.{Vertex, point, far, Full, On}
use Rattle.del_laws.specs.Keys.{AreKeys}
use Rattle.del_laws.specs.Vertices.{are_among, is_full_cell}
use Rattle.del_laws.proofs.Cited.{across_full, across_open, cell_true, full_turned, lifted_swap45, open_under}
use Rattle.del_laws.proofs.Cited.{orientation_same12, orientation_same13, orientation_same23, out_is}
use Rattle.gift_wrap.specs.Wraps.{leader_of, IsApex, LeadsAbove}

-- ---- points above a plane

-- three points and a fourth above them are apart
pub apart_above : (a b c d : ℕ) → pos 0 <ℤ orientation a b c d → AreFour a b c d
apart_above a b c d h = (
  λ e. flat (subst (λ (x : ℕ). orientation a x c d ≡ pos 0) e (orientation_same12 a c d)),
  λ e. flat (subst (λ (x : ℕ). orientation a b x d ≡ pos 0) e (orientation_same13 a b d)),
  λ e. flat (subst (λ (x : ℕ). orientation a b c x ≡ pos 0) e (last_first a b c)),
  λ e. flat (subst (λ (x : ℕ). orientation a b x d ≡ pos 0) e (orientation_same23 a b d)),
  λ e. flat (subst (λ (x : ℕ). orientation a b c x ≡ pos 0) e (last_second a b c)),
  λ e. flat (subst (λ (x : ℕ). orientation a b c x ≡ pos 0) e (last_third a b c)),
)
  where
    flat : ¬ (orientation a b c d ≡ pos 0)
    flat e = not_zero (orientation a b c d) h e

-- and so with two of them
pub apart_two : (a b c d e : ℕ) → pos 0 <ℤ orientation a b c d → pos 0 <ℤ orientation a b c e → d ≢ e →
    AreFive a b c d e
apart_two a b c d e h k n =
    let p = apart_above a b c d h in
    let q = apart_above a b c e k in
    (p.0, p.1, p.2, q.2, p.3, p.4, q.4, p.5, q.5, n)

-- a point above is none of the three
none_of : (a b c d e : ℕ) → pos 0 <ℤ orientation a b c e → e ≢ d → ¬ (IsIn e (a ∷ b ∷ c ∷ d ∷ []))
none_of a b c d e h n m =
    let p = apart_above a b c e h in
    elim m [
      | inl q ↦ p.2 q
      | inr r ↦ elim r [
        | inl q ↦ p.4 q
        | inr u ↦ elim u [ inl q ↦ p.5 q | inr v ↦ elim v [ inl q ↦ n (sym q) | inr none ↦ none ] ]
      ]
    ]

-- outside of the sphere of a point above
outside_from : (a b c d e : ℕ) → pos 0 <ℤ orientation a b c d → is_outside a b c d e ≡ true → pos 0 <ℤ out a b c d e
outside_from a b c d e h k =
    elim (one_true (lt_z (pos 0) (orientation a b c d) && lt_z (pos 0) (out a b c d e))
    (lt_z (orientation a b c d) (pos 0) && lt_z (out a b c d e) (pos 0)) k) [
      | inl p ↦ less_from (pos 0) (out a b c d e) (second_true (lt_z (pos 0) (orientation a b c d))
          (lt_z (pos 0) (out a b c d e)) p)
      | inr p ↦ absurd (two_signs (orientation a b c d) h (less_from (orientation a b c d) (pos 0)
          (first_true (lt_z (orientation a b c d) (pos 0)) (lt_z (out a b c d e) (pos 0)) p)))
    ]

-- of two points above not each is outside of the sphere of the other
not_mutual : (a b c d e : ℕ) → pos 0 <ℤ orientation a b c d → pos 0 <ℤ orientation a b c e →
    is_outside a b c d e ≡ true → is_outside a b c e d ≡ true → ⊥
not_mutual a b c d e h k p q =
    let turn : out a b c e d ≡ _ = out_is a b c e d ∙ lifted_swap45 height a b c d e in
    two_signs (out a b c e d) (outside_from a b c e d k q)
    (low_turned (lifted height a b c d e) (out a b c e d) (subst (λ z. pos 0 <ℤ z) (out_is a b c d e)
    (outside_from a b c d e h p)) turn)

-- every other point is outside of the sphere of a cell
cell_outside : (t : List ℕ) (a b c d e : ℕ) → is_full_cell t a b c d ≡ true → IsIn e t →
    ¬ (IsIn e (a ∷ b ∷ c ∷ d ∷ [])) → is_outside a b c d e ≡ true
cell_outside t a b c d e h m n =
    let full = second_true (are_among (a ∷ b ∷ c ∷ d ∷ []) t) (is_full t (a ∷ b ∷ c ∷ d ∷ [])) h in
    let each = second_true (not (is_flat a b c d)) (list_all (λ x. is_among x (a ∷ b ∷ c ∷ d ∷ [])
    || is_outside a b c d x) t) full in
    elim (one_true (is_among e (a ∷ b ∷ c ∷ d ∷ [])) (is_outside a b c d e)
    (all_from (λ x. is_among x (a ∷ b ∷ c ∷ d ∷ []) || is_outside a b c d x) t each e m)) [
      | inl k ↦ absurd (n (among_from e (a ∷ b ∷ c ∷ d ∷ []) k))
      | inr k ↦ k
    ]

-- its points are in the set
pub cell_point : (t : List ℕ) (a b c d : ℕ) → is_full_cell t a b c d ≡ true → (e : ℕ) → IsIn e (a ∷ b ∷ c ∷ d ∷ []) →
    IsIn e t
cell_point t a b c d h e m =
    among_from e t (all_from (λ p. is_among p t) (a ∷ b ∷ c ∷ d ∷ [])
    (first_true (are_among (a ∷ b ∷ c ∷ d ∷ []) t) (is_full t (a ∷ b ∷ c ∷ d ∷ [])) h) e m)

-- ---- the one that leads

module _ (t met : List ℕ) (a b c : ℕ) (within : (x : ℕ) → IsIn x met → IsIn x t) (e : ℕ) (here : IsIn e t) where
  -- a point that is met but is not above leaves the one that leads
  pub next_below : (o : Option ℕ) → ¬ (pos 0 <ℤ orientation a b c e) → LeadsAbove t met a b c o →
      LeadsAbove t (met ++ e ∷ []) a b c o
  next_below None n l = λ y m h. elim (from_append y met (e ∷ []) m) [
    | inl k ↦ l y k h
    | inr k ↦ elim k [ inl q ↦ n (subst (λ (x : ℕ). pos 0 <ℤ orientation a b c x) (sym q) h) | inr none ↦ none ]
  ]
  next_below (Some d) n l = record {
    inside = in_left d met (e ∷ []) l.inside;
    above = l.above;
    only = λ y m h f. elim (from_append y met (e ∷ []) m) [
      | inl k ↦ l.only y k h f
      | inr k ↦ elim k [
        | inl q ↦ absurd (n (subst (λ (x : ℕ). pos 0 <ℤ orientation a b c x) (sym q) h))
        | inr none ↦ absurd none
      ]
    ];
  }

  module _ (high : pos 0 <ℤ orientation a b c e) where
    -- it takes the lead, where no other makes a cell
    takes : ((y : ℕ) → IsIn y met → pos 0 <ℤ orientation a b c y → is_full_cell t a b c y ≡ true → ⊥) →
        IsApex t (met ++ e ∷ []) a b c e
    takes none = record {
      inside = in_right e met (e ∷ []) (inl refl);
      above = high;
      only = λ y m h f. elim (from_append y met (e ∷ []) m) [
        | inl k ↦ absurd (none y k h f)
        | inr k ↦ elim k [ inl q ↦ sym q | inr never ↦ absurd never ]
      ];
    }

    -- or the other keeps it, where it does not make a cell itself
    keeps : (d : ℕ) → IsApex t met a b c d → (is_full_cell t a b c e ≡ true → ⊥) → IsApex t (met ++ e ∷ []) a b c d
    keeps d l none = record {
      inside = in_left d met (e ∷ []) l.inside;
      above = l.above;
      only = λ y m h f. elim (from_append y met (e ∷ []) m) [
        | inl k ↦ l.only y k h f
        | inr k ↦ elim k [
          | inl q ↦ absurd (none (subst (λ (x : ℕ). is_full_cell t a b c x ≡ true) (sym q) f))
          | inr never ↦ absurd never
        ]
      ];
    }

    -- a point above
    pub next_above : (o : Option ℕ) → IfSome o (λ d. (pos 0 <ℤ orientation a b c d) × (d ≢ e)) →
        LeadsAbove t met a b c o →
        LeadsAbove t (met ++ e ∷ []) a b c (Some (leader_of a b c o e))
    next_above None n l = takes (λ y m h f. l y m h)
    next_above (Some d) n l = by (is_outside a b c d e) refl
      where
        apart : d ≢ e
        apart = n.1

        by : (r : Bool) → is_outside a b c d e ≡ r → IsApex t (met ++ e ∷ []) a b c (cond r d e)
        by true q =
            keeps d l (λ f. not_mutual a b c d e l.above high q (cell_outside t a b c e d f (within d l.inside)
            (none_of a b c e d l.above apart)))
        by false q = takes (λ y m h f. (
            let same = l.only y m h f in
            not_both (is_outside a b c d e) (cell_outside t a b c d e
            (subst (λ (x : ℕ). is_full_cell t a b c x ≡ true) same f) here
            (none_of a b c d e high (λ x. apart (sym x)))) q))

-- the one that leads is another than a point that was not met
pub lead_apart : (t met : List ℕ) (a b c : ℕ) (o : Option ℕ) (e : ℕ) → LeadsAbove t met a b c o → ¬ (IsIn e met) →
    IfSome o (λ d. (pos 0 <ℤ orientation a b c d) × (d ≢ e))
lead_apart t met a b c None e l n = tt
lead_apart t met a b c (Some d) e l n = (l.above, λ q. n (subst (λ (x : ℕ). IsIn x met) q l.inside))

-- ---- a cell on the side

-- over a triple of a cell, where some point is above it, is a Full cell
pub cell_above : (t : List ℕ) → AreKeys t → (a b c : ℕ) (z : Vertex) → On height t a b c z ⊎ On height t a c b z →
    (x : ℕ) → IsIn x t → pos 0 <ℤ orientation a b c x → (y : ℕ) × (pos 0 <ℤ orientation a b c y)
    × (is_full_cell t a b c y ≡ true)
cell_above t keys a b c z s x m h = by z s
  where
    full : (y : ℕ) → Full height t a b c y → (y : ℕ) × (pos 0 <ℤ orientation a b c y) × (is_full_cell t a b c y ≡ true)
    full y F = (y, full_turned F, cell_true t keys (point a) (point b) (point c) (point y) (inl F))

    by : (z : Vertex) → On height t a b c z ⊎ On height t a c b z → (y : ℕ) × (pos 0 <ℤ orientation a b c y)
        × (is_full_cell t a b c y ≡ true)
    by (point d) (inl F) = full d F
    by (point d) (inr F) = elim (across_full F) [ inl g ↦ full g.0 g.1 | inr G ↦ absurd (open_under x m h G) ]
    by far (inl F) = absurd (open_under x m h F)
    by far (inr F) = let g = across_open F in full g.0 g.1
