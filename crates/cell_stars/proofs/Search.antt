-- How far a search has come, and what it has cost.
use Rattle.std.specs.Prelude.{◌≡◌, ℕ, suc, ◌<◌, ◌≤◌, ◌+◌, ◌-◌, ◌*◌, ◌/◌, ◌^◌, List, length, slice_index, slice_index_or}
use Rattle.std.specs.Prelude.{map}
use Rattle.std.proofs.Common.{refl, sym, ◌∙◌, ap, arith}
use Rattle.std.proofs.Math.ListN.{get_or-map}
use Rattle.std.proofs.lemmas.List.{length-map}
use Rattle.std.proofs.Math.Nat.{pow-succ', mul-le-mul_left, mul_assoc, mul_left_comm}
use Rattle.list_laws.proofs.Cited.{climbs, default_free}
use Rattle.point_order.specs.Sets.{IsAscending}

-- The keys before low are less, those from high on are greater, and each step halved what is left. There are n.
pub record IsSearched (keys : List ℕ) (n p before low high steps : ℕ) : Type 0 where
  pub size : length keys ≡ n
  pub within : low ≤ high
  pub inside : high ≤ n
  pub below : (i : ℕ) → i < low → slice_index keys i < p
  pub above : (i : ℕ) → high ≤ i → i < n → p < slice_index keys i
  pub rises : before ≤ steps
  pub halves : 2 ^ (steps - before) * (high - low) ≤ n
  pub cost : 2 ^ (steps - before) ≤ 2 * n + 1

-- a step doubles the power
doubled : (before steps : ℕ) → before ≤ steps → 2 ^ (steps + 1 - before) ≡ 2 * 2 ^ (steps - before)
doubled before steps h = (let e : steps + 1 - before ≡ suc (steps - before) = omega (arith, h) in
    rw e (pow-succ' 2 (steps - before)))

-- and what is left after it is at most half
halved : (before steps n r q : ℕ) → before ≤ steps → 2 ^ (steps - before) * r ≤ n → 2 * q ≤ r →
    2 ^ (steps + 1 - before) * q ≤ n
halved before steps n r q h f g =
    rw (doubled before steps h) (product (2 ^ (steps - before)) q r n f g)
  where
    product : (w q r n : ℕ) → w * r ≤ n → 2 * q ≤ r → 2 * w * q ≤ n
    product w q r n f g = (let t = mul-le-mul_left w g in
        rw (mul_assoc 2 w q ∙ mul_left_comm 2 w q) (omega (arith, f, t)))

-- so while something is left the steps are no more than the length of the list can pay
paid : (before steps n r : ℕ) → before ≤ steps → 2 ^ (steps - before) * r ≤ n → 1 ≤ r →
    2 ^ (steps + 1 - before) ≤ 2 * n + 1
paid before steps n r h f g = rw (doubled before steps h) (once (2 ^ (steps - before)) r n f g)
  where
    once : (w r n : ℕ) → w * r ≤ n → 1 ≤ r → 2 * w ≤ 2 * n + 1
    once w r n f g = (let t = mul-le-mul_left w g in omega (arith, f, t))

-- the part in front of the middle is at most half of what is left
half_left : (low high : ℕ) → low < high → 2 * ((high - low) / 2) ≤ high - low
half_left low high h = omega arith

-- so is the part behind it
half_right : (low high : ℕ) → low < high → 2 * (high - (low + (high - low) / 2 + 1)) ≤ high - low
half_right low high h = omega arith

-- the middle lies in what is left
middle_in : (low high : ℕ) → low < high → low + (high - low) / 2 < high
middle_in low high h = omega arith

-- where the key in the middle is less the search goes on behind it
pub step_less : (keys : List ℕ) (n p before low high steps after k : ℕ) → IsAscending keys → low < high →
    k ≡ slice_index_or keys (low + (high - low) / 2) k → k < p → after ≡ steps + 1 →
    IsSearched keys n p before low high steps → IsSearched keys n p before (low + (high - low) / 2 + 1) high after
step_less keys n p before low high steps after k a h e l q s = rw q (record {
  size = s.size;
  within = omega (arith, m);
  inside = s.inside;
  below = λ i j. (let t = climbs keys a i (low + (high - low) / 2) (omega (arith, j))
      (omega (arith, m, s.inside, s.size)) in omega (
        arith,
        t,
        e,
        l,
        default_free keys (low + (high - low) / 2) k 0 (omega (arith, m, s.inside, s.size)),
      ));
  above = s.above;
  rises = omega (arith, s.rises);
  halves = halved before steps n (high - low) (high - (low + (high - low) / 2 + 1)) s.rises s.halves
      (half_right low high h);
  cost = paid before steps n (high - low) s.rises s.halves (omega (arith, h));
})
  where
    m : low + (high - low) / 2 < high
    m = middle_in low high h

-- where it is greater the search goes on in front of it
pub step_greater : (keys : List ℕ) (n p before low high steps after k : ℕ) → IsAscending keys → low < high →
    k ≡ slice_index_or keys (low + (high - low) / 2) k → p < k → after ≡ steps + 1 →
    IsSearched keys n p before low high steps → IsSearched keys n p before low (low + (high - low) / 2) after
step_greater keys n p before low high steps after k a h e l q s = rw q (record {
  size = s.size;
  within = omega arith;
  inside = omega (arith, m, s.inside);
  below = s.below;
  above = λ i j r. (let t = climbs keys a (low + (high - low) / 2) i j (omega (arith, r, s.size)) in
      omega (arith, t, e, l, default_free keys (low + (high - low) / 2) k 0 (omega (arith, m, s.inside, s.size))));
  rises = omega (arith, s.rises);
  halves = rw (left low ((high - low) / 2)) (halved before steps n (high - low) ((high - low) / 2) s.rises s.halves
      (half_left low high h));
  cost = paid before steps n (high - low) s.rises s.halves (omega (arith, h));
})
  where
    m : low + (high - low) / 2 < high
    m = middle_in low high h

    left : (a b : ℕ) → a + b - a ≡ b
    left a b = omega arith

-- two to the steps made is at most twice the length and one
pub paid_at : (keys : List ℕ) (n p before low high steps after : ℕ) → low < high → after ≡ steps + 1 →
    IsSearched keys n p before low high steps → 2 ^ (after - before) ≤ 2 * n + 1
paid_at keys n p before low high steps after h q s =
    rw q (paid before steps n (high - low) s.rises s.halves (omega (arith, h)))

-- where the search begins
pub begun : (keys : List ℕ) (n p before : ℕ) → length keys ≡ n → IsSearched keys n p before 0 n before
begun keys n p before e = record {
  size = e;
  within = omega arith;
  inside = omega arith;
  below = λ i h. absurd (omega (arith, h));
  above = λ i h k. absurd (omega (arith, h, k));
  rises = omega arith;
  halves = rw (same before) (rw one (omega arith));
  cost = rw (same before) (rw one (omega arith));
}
  where
    same : (a : ℕ) → a - a ≡ 0
    same a = omega arith

    one : 2 ^ 0 ≡ 1
    one = refl

-- the vertex of the key in the middle
pub vertex_at : (keys : List (ℕ × ℕ)) (i : ℕ) (k : ℕ × ℕ) (v : ℕ) → k ≡ slice_index_or keys i k → v ≡ k.0 →
    v ≡ slice_index_or (map (λ x. x.0) keys) i v
vertex_at keys i k v e f = f ∙ ap (λ x. x.0) e ∙ sym (get_or-map (λ x. x.0) keys i k)
    ∙ ap (λ d. slice_index_or (map (λ x. x.0) keys) i d) (sym f)

-- where it is found
pub found_at : (keys : List (ℕ × ℕ)) (i : ℕ) (k : ℕ × ℕ) (v p : ℕ) → i < length keys → k ≡ slice_index_or keys i k →
    v ≡ k.0 → v ≡ p → slice_index (map (λ x. x.0) keys) i ≡ p
found_at keys i k v p h e f g =
    default_free (map (λ x. x.0) keys) i 0 v (omega (arith, h, length-map keys (λ (x : ℕ × ℕ). x.0)))
    ∙ sym (vertex_at keys i k v e f) ∙ g

-- the middle is a place of the list
pub inside_at : (keys : List ℕ) (n p before low high steps : ℕ) → low < high →
    IsSearched keys n p before low high steps → low + (high - low) / 2 < n
inside_at keys n p before low high steps h s = (let m = middle_in low high h in omega (arith, m, s.inside))

-- where nothing is left, the vertex belongs there
pub belongs : (keys : List ℕ) (n p before low high steps : ℕ) → high ≤ low → IsSearched keys n p before low high steps →
    (low ≤ n) × ((k : ℕ) → k < low → slice_index keys k < p) × ((k : ℕ) → low ≤ k → k < n → p < slice_index keys k)
belongs keys n p before low high steps h s = (
  omega (arith, h, s.within, s.inside),
  s.below,
  λ k i j. s.above k (omega (arith, h, i)) j,
)
