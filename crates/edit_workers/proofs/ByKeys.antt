-- Pairs that are arranged by their places.
use Rattle.std.specs.Prelude.{◌≡◌, ℕ, ◌+◌, ◌*◌, ◌%◌, ◌<◌, ◌≤◌, false, ◌&&◌, ◌==◌, List, IsPermutation}
use Rattle.std.specs.List.Sorted.{IsNonDecreasingBy}
use Rattle.std.proofs.Common.{sym, subst, arith, get_or}
use Rattle.std.proofs.lemmas.Bool.Decides.{nat_tests}
use Rattle.std.proofs.lemmas.Map.Keys.{IsDistinct-from_apart, IsDistinct-IsPermutation, apart_from_distinct}
use Rattle.edit_history.specs.Edits.{point_of}
use Rattle.plain_laws.specs.Running.{Pair}
use Rattle.edit_lists.specs.Dealing.{AreTagsAscending}
use Rattle.edit_workers.specs.Arranging.{key_of_place, place_count, place_of, stretch_of, tag_count, IsArranged}
use Rattle.edit_workers.proofs.Partly.{is_same, same_flips}

-- the keys of two pairs of one place rise with their tags
later_stretch : (c d : ℕ) → d ≤ c → stretch_of d ≤ stretch_of c
later_stretch c d h = grind (arith, nat_tests)

-- of two keys the pair with the lower one has no higher tag, where both have one place
rises : (c d r : ℕ) → (stretch_of c * place_count + r) * tag_count + c ≤ (stretch_of d * place_count + r) * tag_count
    + d → c ≤ d
rises c d r h = by (stretch_of c) (stretch_of d) (later_stretch c d) h
  where
    by : (m n : ℕ) → (d ≤ c → n ≤ m) → (m * place_count + r) * tag_count + c ≤ (n * place_count + r) * tag_count + d →
        c ≤ d
    by m n f h = grind (arith)

-- a list of ascending tags, sorted by these keys, is arranged
pub by_keys : (begin : ℕ) (list arranged : List Pair) → AreTagsAscending list → IsPermutation list arranged →
    IsNonDecreasingBy (key_of_place begin) arranged → IsArranged list arranged
by_keys begin list arranged tags same sorted = record {
  same = same;
  order = λ i j d l m one.
      let differ = IsDistinct-IsPermutation is_same same_flips list arranged same
      (IsDistinct-from_apart is_same list (λ i j d l m. none (get_or list i d) (get_or list j d)
      (tags i j d l m))) in
      strict (get_or arranged i d) (get_or arranged j d) (apart_from_distinct is_same arranged i j d differ l m)
      (sorted i j d (omega arith) m) one;
}
  where
    none : (p q : Pair) → p.0 < q.0 → is_same p q ≡ false
    none p q f = by (point_of p.1) (point_of q.1) p.0 q.0 f
      where
        by : (a b c d : ℕ) → c < d → ((a == b) && (c == d)) ≡ false
        by a b c d f = grind (arith, nat_tests)

    strict : (p q : Pair) → is_same p q ≡ false → key_of_place begin p ≤ key_of_place begin q →
        point_of p.1 ≡ point_of q.1 →
        p.0 < q.0
    strict p q e f one =
        let r : ℕ → ℕ = λ x. (place_of x + begin) % place_count in
        let g : (stretch_of p.0 * place_count + r (point_of p.1)) * tag_count + p.0
        ≤ (stretch_of q.0 * place_count + r (point_of p.1)) * tag_count + q.0 =
        subst (λ (x : ℕ). (stretch_of p.0 * place_count + r (point_of p.1)) * tag_count + p.0
        ≤ (stretch_of q.0 * place_count + r x) * tag_count + q.0) (sym one) f in
        by (point_of p.1) (point_of q.1) p.0 q.0 e (rises p.0 q.0 (r (point_of p.1)) g) one
      where
        by : (a b c d : ℕ) → ((a == b) && (c == d)) ≡ false → c ≤ d → a ≡ b → c < d
        by a b c d e f same = grind (arith, nat_tests)
