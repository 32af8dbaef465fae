-- The opening four: none exactly where the points are not solid, else four independent points.
use Rattle.std.specs.Prelude.{◌≡◌, ◌≢◌, ℕ, ◌+◌, ◌<◌, ◌≤◌, true, false, not, ◌==◌, ◌&&◌, List, ◌⊎◌, length, Option}
use Rattle.std.specs.Prelude.{slice_index}
use Rattle.std.proofs.Common.{sym, ◌∙◌, ap, inl, inr, arith}
use Rattle.std.proofs.lemmas.Bool.Decides.{nat_tests}
use Rattle.list_laws.proofs.Cited.{and_not_false, and_not_from, same_from}
use Rattle.point_order.specs.Coordinates.{IsKey}
use Rattle.point_order.specs.Sets.{IsIn}
use Rattle.point_order.specs.Orientation.{orientation, is_flat, is_collinear}
use Rattle.point_order.specs.Solid.{is_solid}
use Rattle.point_order.proofs.Cited.{last_first, last_third, zero_true}
use Rattle.edit_history.specs.PassedOver.{is_kept, kept}
use Rattle.edit_history.proofs.Planes.{collinear_first, collinear_second, flat_on_line, flat_in_plane, flat_in_line}
use Rattle.edit_history.proofs.Places.{IsFirst, IsNowhere, in_filter, filter_in}
use Rattle.edit_history.proofs.Solidity.{solid_from, flat_from}

-- ---- how far a search has come: what is known of the kept points before a place

-- each kept point before place n is a
abbrev pub AreOne : Option ℕ → List ℕ → ℕ → ℕ → Type 0
AreOne absent s a n = (m : ℕ) → m < n → is_kept absent (slice_index s m) ≡ true → slice_index s m ≡ a

-- each is on the line of a and b
abbrev pub AreOnLine : Option ℕ → List ℕ → ℕ → ℕ → ℕ → Type 0
AreOnLine absent s a b n =
    (m : ℕ) → m < n → is_kept absent (slice_index s m) ≡ true → is_collinear a b (slice_index s m) ≡ true

-- each is in the plane of a, b and c
abbrev pub AreInPlane : Option ℕ → List ℕ → ℕ → ℕ → ℕ → ℕ → Type 0
AreInPlane absent s a b c n =
    (m : ℕ) → m < n → is_kept absent (slice_index s m) ≡ true → is_flat a b c (slice_index s m) ≡ true

-- what the test tells apart is not one
pub is_other : (a b : ℕ) → (b == a) ≡ false → a ≢ b
is_other a b e f = grind (arith, nat_tests)

-- the place is before another, at it, or after it
order : (m n : ℕ) → (m < n) ⊎ (m ≡ n) ⊎ (n < m)
order m n = grind arith

module _ (absent : Option ℕ) (s : List ℕ) where
  -- no point is kept
  pub empty_flat : IsNowhere (is_kept absent) 0 s → is_solid (kept absent s) ≡ false
  empty_flat f =
      flat_from (kept absent s) (λ a b c d i j k l. let t = filter_in (is_kept absent) s a i in
      absurd (none t.0 t.1 (ap (is_kept absent) t.2 ∙ t.3)))
    where
      none : (m : ℕ) → m < length s → is_kept absent (slice_index s m) ≡ true → ⊥
      none m h e = let g = f m (omega arith) h in cc

  module _ (i : ℕ) (first : IsFirst (is_kept absent) 0 s i) where
    -- the first point that is kept
    abbrev a : ℕ
    a = slice_index s i

    -- the kept points before the next distinct one
    pub one_before : (n : ℕ) → n ≤ length s → ((m : ℕ) → i + 1 ≤ m → m < n →
        (is_kept absent (slice_index s m) && not (slice_index s m == a)) ≡ false) → AreOne absent s a n
    one_before n w f m h e =
        elim (order m i) [
          | inl l ↦ let g = first.before m (omega arith) l in cc
          | inr o ↦ elim o [
            | inl q ↦ ap (slice_index s) q
            | inr l ↦ same_from (slice_index s m) a (and_not_false (is_kept absent (slice_index s m))
                (slice_index s m == a) e (f m (omega arith) h))
          ]
        ]

    -- where all that are kept are one point they are not solid
    pub one_flat : AreOne absent s a (length s) → is_solid (kept absent s) ≡ false
    one_flat f = flat_from (kept absent s) (λ p q r t ip iq ir it. flat (one p ip) (one q iq) (one r ir) (one t it))
      where
        one : (q : ℕ) → IsIn q (kept absent s) → a ≡ q
        one q k = let t = filter_in (is_kept absent) s q k in sym (f t.0 t.1 (ap (is_kept absent) t.2 ∙ t.3)) ∙ t.2

        flat : {p q r t : ℕ} → a ≡ p → a ≡ q → a ≡ r → a ≡ t → is_flat p q r t ≡ true
        flat ep eq er et = rw (← ep, ← eq, ← er, ← et) (zero_true (orientation a a a a) (last_first a a a))

    module _ (j : ℕ) (second : IsFirst (λ q. is_kept absent q && not (q == slice_index s i)) (i + 1) s j) where
      -- the first kept point that differs from a
      abbrev b : ℕ
      b = slice_index s j

      -- it does differ
      apart : a ≢ b
      apart = is_other a b (and_not_from (is_kept absent b) (b == a) second.passes).1

      -- the kept points before the next one off the line
      pub line_before : (n : ℕ) → n ≤ length s → ((m : ℕ) → j + 1 ≤ m → m < n →
          (is_kept absent (slice_index s m) && not (is_collinear a b (slice_index s m))) ≡ false) →
          AreOnLine absent s a b n
      line_before n w f m h e =
          elim (order m j) [
            | inl l ↦ let g =
                one_before j (omega (arith, second.within)) second.before m l e in rw g (collinear_first a b)
            | inr o ↦ elim o [
              | inl q ↦ rw q (collinear_second a b)
              | inr l ↦ and_not_false (is_kept absent (slice_index s m)) (is_collinear a b (slice_index s m)) e
                  (f m (omega arith) h)
            ]
          ]

      -- where all that are kept are on the line of a and b they are not solid
      pub line_flat : IsKey a → IsKey b → AreOnLine absent s a b (length s) → is_solid (kept absent s) ≡ false
      line_flat ka kb f =
          flat_from (kept absent s) (λ p q r t ip iq ir it. flat_in_line a b p q r t ka kb apart (on p ip) (on q iq)
          (on r ir))
        where
          on : (q : ℕ) → IsIn q (kept absent s) → is_collinear a b q ≡ true
          on q k =
              let t = filter_in (is_kept absent) s q k in sym (ap (is_collinear a b) t.2)
              ∙ f t.0 t.1 (ap (is_kept absent) t.2 ∙ t.3)

      module _ (k : ℕ) (third : IsFirst (λ q. is_kept absent q && not
          (is_collinear (slice_index s i) (slice_index s j) q)) (j + 1) s k) where
        -- the first kept point off the line of a and b
        abbrev c : ℕ
        c = slice_index s k

        -- it is not on that line
        bent : is_collinear a b c ≡ false
        bent = (and_not_from (is_kept absent c) (is_collinear a b c) third.passes).1

        -- the kept points before the next one off the plane
        pub plane_before : (n : ℕ) → n ≤ length s → ((m : ℕ) → k + 1 ≤ m → m < n →
            (is_kept absent (slice_index s m) && not (is_flat a b c (slice_index s m))) ≡ false) →
            AreInPlane absent s a b c n
        plane_before n w f m h e =
            elim (order m k) [
              | inl l ↦ flat_on_line a b c (slice_index s m) (line_before k (omega (arith, third.within)) third.before m
                  l e)
              | inr o ↦ elim o [
                | inl q ↦ rw q (zero_true (orientation a b c c) (last_third a b c))
                | inr l ↦ and_not_false (is_kept absent (slice_index s m)) (is_flat a b c (slice_index s m)) e
                    (f m (omega arith) h)
              ]
            ]

        -- where all that are kept are in the plane of a, b and c they are not solid
        pub plane_flat : AreInPlane absent s a b c (length s) → is_solid (kept absent s) ≡ false
        plane_flat f =
            flat_from (kept absent s) (λ p q r t ip iq ir it. flat_in_plane a b c p q r t bent (on p ip) (on q iq)
            (on r ir) (on t it))
          where
            on : (q : ℕ) → IsIn q (kept absent s) → is_flat a b c q ≡ true
            on q k =
                let t = filter_in (is_kept absent) s q k in sym (ap (is_flat a b c) t.2)
                ∙ f t.0 t.1 (ap (is_kept absent) t.2 ∙ t.3)

        -- a fourth point off the plane
        pub four_solid : (l : ℕ) → IsFirst (λ q. is_kept absent q
            && not (is_flat (slice_index s i) (slice_index s j) (slice_index s k) q)) (k + 1) s l →
            is_solid (kept absent s) ≡ true
        four_solid l fourth =
            solid_from (kept absent s) a b c (slice_index s l)
            (in_filter (is_kept absent) s i first.within first.passes)
            (in_filter (is_kept absent) s j second.within (and_not_from (is_kept absent b) (b == a) second.passes).0)
            (in_filter (is_kept absent) s k third.within (and_not_from (is_kept absent c) (is_collinear a b c)
            third.passes).0)
            (in_filter (is_kept absent) s l fourth.within (and_not_from (is_kept absent (slice_index s l))
            (is_flat a b c (slice_index s l)) fourth.passes).0)
            (and_not_from (is_kept absent (slice_index s l)) (is_flat a b c (slice_index s l)) fourth.passes).1
