-- Contents that were handed out, and those that are left.
use Rattle.std.specs.Prelude.{◌≡◌, ℕ, zero, suc, ◌+◌, List, [], ◌∷◌, ◌++◌, map, length, Option, None, Some}
use Rattle.std.specs.Prelude.{IsPermutation, slice_get}
use Rattle.std.specs.List.{range_with_len}
use Rattle.std.proofs.Common.{refl, sym, ◌∙◌, ap, subst, arith, append_assoc}
use Rattle.std.proofs.lemmas.List.{length-map, length_push, map-append, nil_from_length}
use Rattle.std.proofs.lemmas.List.Sorted.{IsPermutation-refl, IsPermutation-map, length_permutation}
use Rattle.round_table.specs.Rounds.{AreParted, buckets_left, held}

module _ {T : Type 0} where
  -- what is left in buckets
  left_same : (contents : List T) (a : ℕ) (rest : List (Option T)) →
      ((b : ℕ) (c : T) → slice_get rest b ≡ Some (Some c) → slice_get contents (a + b) ≡ Some c)
      → map (slice_get contents) (buckets_left a rest) ≡ map Some (held rest)
  left_same contents a [] f = refl
  left_same contents a (None ∷ rest) f =
      left_same contents (a + 1) rest (λ b c e.
      let q : a + 1 + b ≡ a + suc b = omega arith in ap (slice_get contents) q ∙ f (suc b) c e)
  left_same contents a (Some x ∷ rest) f =
      let z : a ≡ a + 0 = omega arith in
      let r = left_same contents (a + 1) rest (λ b c e.
      let q : a + 1 + b ≡ a + suc b = omega arith in ap (slice_get contents) q ∙ f (suc b) c e) in
      λ i. (ap (slice_get contents) z ∙ f zero x refl) i ∷ r i

  get_at : (front : List T) (x : T) (xs : List T) → slice_get (front ++ x ∷ xs) (length front) ≡ Some x
  get_at [] x xs = refl
  get_at (y ∷ front) x xs = get_at front x xs

  -- the elements of a list, by their places
  range_from : (front xs : List T) →
      map (slice_get (front ++ xs)) (range_with_len (length front) (length xs)) ≡ map Some xs
  range_from front [] = refl
  range_from front (x ∷ xs) =
      let q : length front + 1 ≡ length (front ++ x ∷ []) = sym (length_push front x) in
      let s : front ++ x ∷ xs ≡ (front ++ x ∷ []) ++ xs = sym (append_assoc front (x ∷ []) xs) in
      let r = (λ i. map (slice_get (s i)) (range_with_len (q i) (length xs))) ∙ range_from (front ++ x ∷ []) xs in
      λ i. get_at front x xs i ∷ r i

  from : T → Option T → T
  from d None = d
  from d (Some x) = x

  back : (d : T) (xs : List T) → map (from d) (map Some xs) ≡ xs
  unfolding from
  back d [] = refl
  back d (x ∷ xs) = ap (λ (l : List T). x ∷ l) (back d xs)

  -- lists of which the mapped ones are the same but for their order are
  unmapped : (xs ys : List T) → IsPermutation (map Some xs) (map Some ys) → IsPermutation xs ys
  unmapped [] ys p =
      let n = length_permutation (map Some []) (map Some ys) p in
      let m = length-map ys (λ (x : T). Some x) in
      subst (IsPermutation []) (sym (nil_from_length ys (omega arith))) (IsPermutation-refl [])
  unmapped (x ∷ xs) ys p =
      subst (λ (t : List T × List T). IsPermutation t.0 t.1) (λ i. (back x (x ∷ xs) i, back x ys i))
      (IsPermutation-map (from x) (map Some (x ∷ xs)) (map Some ys) p)

  pub stays : (contents : List T) (claims : List ℕ) (hands : List T) (rest : List (Option T)) →
      AreParted contents claims rest → map Some hands ≡ map (slice_get contents) claims
      → IsPermutation contents (hands ++ held rest)
  stays contents claims hands rest p e =
      let g : ℕ → Option T = slice_get contents in
      let q = IsPermutation-map g (range_with_len 0 (length contents)) (claims ++ buckets_left 0 rest) p.buckets in
      let a : map g (range_with_len 0 (length contents)) ≡ map Some contents = range_from [] contents in
      let l = left_same contents 0 rest (λ b c h. let z : 0 + b ≡ b = omega arith in ap g z ∙ p.left b c h) in
      let b : map g (claims ++ buckets_left 0 rest) ≡ map Some (hands ++ held rest) =
      map-append g claims (buckets_left 0 rest) ∙ (λ i. sym e i ++ l i) ∙ sym (map-append (λ (x : T). Some x) hands
      (held rest)) in
      unmapped contents (hands ++ held rest)
      (subst (λ (t : List (Option T) × List (Option T)). IsPermutation t.0 t.1) (λ i. (a i, b i)) q)
