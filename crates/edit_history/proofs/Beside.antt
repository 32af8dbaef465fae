-- The search for three points that are independent with one that is given.
use Rattle.std.specs.Prelude.{◌≡◌, ℕ, suc, ◌+◌, ◌-◌, true, false, not, ◌==◌, ◌&&◌, List, ◌∷◌, length, take, drop}
use Rattle.std.specs.Prelude.{slice_index, Option, None, Some, is_some}
use Rattle.std.specs.List.{position_from}
use Rattle.std.specs.Option.{option_map}
use Rattle.std.proofs.Common.{refl, sym, ◌∙◌, ap, subst, arith}
use Rattle.std.proofs.lemmas.List.{take_rest}
use Rattle.point_order.specs.Coordinates.{IsKey}
use Rattle.point_order.specs.Orientation.{is_flat, is_collinear}
use Rattle.point_order.specs.Solid.{is_solid}
use Rattle.edit_history.specs.Opening.{FourPlaces}
use Rattle.edit_history.specs.PassedOver.{is_kept, kept}
use Rattle.edit_history.proofs.OpeningSolid.{no_second, no_third, at_fourth}

-- a mapped option has a value exactly where it had one
some_mapped : {X Y : Type 0} (f : X → Y) (o : Option X) → is_some (option_map f o) ≡ is_some o
some_mapped f None = refl
some_mapped f (Some x) = refl

-- the given point stands before the list, and is kept
module _ (b : ℕ) (absent : Option ℕ) (s : List ℕ) (is_b : is_kept absent b ≡ true) where
  -- the list with the given point in front
  abbrev all : List ℕ
  all = b ∷ s

  -- the first point that is kept is the given one, at place 0
  first : position_from (is_kept absent) 0 all ≡ Some 0
  first = rw is_b refl

  -- the longer list is solid exactly where the given point and the kept points of the list are
  same : is_solid (kept absent all) ≡ is_solid (b ∷ kept absent s)
  same = rw is_b refl

  -- all that are kept are b
  pub none_beside : None ≡ position_from (λ c. is_kept absent c && not (c == b)) 0 s →
      false ≡ is_solid (b ∷ kept absent s)
  none_beside e = (no_second absent all 0 first (sym e)).solid ∙ same

  module _ (m c : ℕ) (second : Some m ≡ position_from (λ c. is_kept absent c && not (c == b)) 0 s)
      (c_is : c ≡ slice_index s m) (key_b : IsKey b) (key_c : IsKey (slice_index s m)) where
    -- where the next search looks, seen from the longer list
    third_at : (j k : ℕ) → j ≡ suc m → k ≡ suc (m + 1) →
        position_from (λ d. is_kept absent d && not (is_collinear b (slice_index all j) d)) 0 (drop k all)
        ≡ position_from (λ d. is_kept absent d && not (is_collinear b (slice_index s m) d)) 0 (drop (m + 1) s)
    third_at j k q r = λ i. position_from (λ d. is_kept absent d && not (is_collinear b (slice_index all (q i)) d)) 0
        (drop (r i) all)

    -- the search off the line of b and c answers for the longer list what it answers behind place m of the list
    third_found : (o : Option ℕ) → o ≡ position_from (λ d. is_kept absent d && not (is_collinear b c d)) 0
        (take (length s - (m + 1)) (drop (m + 1) s))
        → position_from (λ d. is_kept absent d && not (is_collinear (slice_index all 0) (slice_index all (0 + 1 + m))
        d)) 0 (drop (0 + 1 + m + 1) all) ≡ o
    third_found o e = third_at (0 + 1 + m) (0 + 1 + m + 1) (omega arith) (omega arith) ∙ sym
        (e ∙ rw (take_rest s (m + 1), c_is) refl)

    -- the second point, at its place in the longer list, is a key
    key_at : IsKey (slice_index all (0 + 1 + m))
    key_at = let q : suc m ≡ 0 + 1 + m = omega arith in subst (λ (k : ℕ). IsKey (slice_index all k)) q key_c

    -- all that are kept are on the line of b and c
    pub none_off_line : None ≡ position_from (λ d. is_kept absent d && not (is_collinear b c d)) 0
        (take (length s - (m + 1)) (drop (m + 1) s)) → false ≡ is_solid (b ∷ kept absent s)
    none_off_line e = (no_third absent all 0 first m (sym second) key_b key_at (third_found None e)).solid ∙ same

    module _ (n d : ℕ) (third : Some n ≡ position_from (λ d. is_kept absent d && not (is_collinear b c d)) 0
        (take (length s - (m + 1)) (drop (m + 1) s))) (d_is : d ≡ slice_index s (m + 1 + n)) where
      -- the place of the third point in the list
      abbrev l : ℕ
      l = m + 1 + n

      -- where the last search looks, seen from the longer list
      fourth_at : (j k n : ℕ) → j ≡ suc m → k ≡ suc l → n ≡ suc (l + 1) →
          position_from (λ x. is_kept absent x && not (is_flat b (slice_index all j) (slice_index all k) x)) 0
          (drop n all)
          ≡ position_from (λ x. is_kept absent x && not (is_flat b (slice_index s m) (slice_index s l) x)) 0
          (drop (l + 1) s)
      fourth_at j k n q r t = λ i. position_from (λ x. is_kept absent x && not
          (is_flat b (slice_index all (q i)) (slice_index all (r i)) x)) 0 (drop (t i) all)

      -- the search off the plane of b, c and d answers for the longer list what it answers behind place l of the list
      fourth_found : (o : Option ℕ) → o ≡ position_from (λ x. is_kept absent x && not (is_flat b c d x)) 0
          (take (length s - (l + 1)) (drop (l + 1) s))
          → position_from (λ x. is_kept absent x && not (is_flat (slice_index all 0) (slice_index all (0 + 1 + m))
          (slice_index all (0 + 1 + m + 1 + n)) x)) 0 (drop (0 + 1 + m + 1 + n + 1) all) ≡ o
      fourth_found o e = fourth_at (0 + 1 + m) (0 + 1 + m + 1 + n) (0 + 1 + m + 1 + n + 1) (omega arith) (omega arith)
          (omega arith) ∙ sym (e ∙ rw (take_rest s (l + 1), c_is, d_is) refl)

      -- the last search tells
      pub last_beside : (o : Option ℕ) → o ≡ position_from (λ x. is_kept absent x && not (is_flat b c d x)) 0
          (take (length s - (l + 1)) (drop (l + 1) s)) → is_some o ≡ is_solid (b ∷ kept absent s)
      last_beside o e =
          let found = at_fourth absent all 0 first m (sym second) key_b key_at n (third_found (Some n) third) o
          (fourth_found o e) in
          sym (some_mapped _ (option_map _ o) ∙ some_mapped _ o) ∙ found.solid ∙ same
