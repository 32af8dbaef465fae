-- A table that is opened meets the rule.
use Rattle.std.specs.Prelude.{◌≡◌, ℕ, zero, suc, ◌+◌, ◌^◌, ◌<◌, ◌≤◌, ◌==◌, ltb, Bool, true, false, cond, List, [], ◌∷◌}
use Rattle.std.specs.Prelude.{map, replicate, length, slice_get, slice_index, Option, Some}
use Rattle.std.specs.List.{range_with_len}
use Rattle.std.proofs.Common.{refl, sym, ◌∙◌, ap, subst, arith, eq-eqb, ne_eqb}
use Rattle.std.proofs.lemmas.Bool.Decides.{nat_tests}
use Rattle.std.proofs.lemmas.List.{length-replicate}
use mathlib.Core.Logic.{dite}
use mathlib.Core.Option.{some, some-injective, some-ne-none}
use native.Mathlib.Decide.{ℕ_discrete}
use lib.ListN.{get_elem?}
use Rattle.atomic_table.specs.Table.{opening}
use Rattle.round_table.specs.declared.view.Key.{Key}
use Rattle.round_table.specs.declared.view.Hand.{Hand}
use Rattle.round_table.specs.declared.view.View.{View}
use Rattle.round_table.specs.Counts.{one, tally, each, claims_in, claims_by, is_named, is_taken, is_by}
use Rattle.round_table.specs.Rule.{contents_of, IsRule, Knows, opening_view, empty_hand}

pub zero_at : (n b : ℕ) → slice_index (replicate n 0) b ≡ 0
zero_at zero b = refl
zero_at (suc n) zero = refl
zero_at (suc n) (suc b) = zero_at n b

home_at : {T : Type 0} (xs : List T) (b : ℕ) → b < length xs →
    get_elem? (map some (map Some xs)) b ≡ some (some (slice_get xs b))
home_at [] b l = absurd (omega arith)
home_at (x ∷ xs) zero l = refl
home_at (x ∷ xs) (suc b) l = home_at xs b (omega arith)

-- hands that have claimed nothing
none_in : (f : Hand → ℕ) → ((m : ℕ) → f (empty_hand m) ≡ 0) → (ms : List ℕ) → tally f (map empty_hand ms) ≡ 0
none_in f z [] = refl
none_in f z (m ∷ ms) = let a = z m in let r = none_in f z ms in omega arith

none_by : (t : Bool) → ◌≡◌ {A = ℕ} (cond t 0 0) 0
none_by true = refl
none_by false = refl

count_in : (a n : ℕ) → tally each (map empty_hand (range_with_len a n)) ≡ n
count_in a zero = refl
count_in a (suc n) = let r = count_in (a + 1) n in omega arith

-- each number of a range is that of one of its hands
pub record IsNamedOnce (m a n : ℕ) (sum : ℕ) : Type 0 where
  pub inside : a ≤ m → m < a + n → sum ≡ 1
  pub before : m < a → sum ≡ 0
  pub behind : a + n ≤ m → sum ≡ 0

named_in : (m a n : ℕ) → IsNamedOnce m a n (tally (is_named m) (map empty_hand (range_with_len a n)))
named_in m a zero = record { inside = λ l h. absurd (omega arith); before = λ l. refl; behind = λ l. refl }
named_in m a (suc n) =
    let r = named_in m (a + 1) n in
    dite (ℕ_discrete m a)
    (λ e. let q : one (m == a) ≡ 1 = ap one (eq-eqb m a e) in let z = r.before (omega arith) in record {
      inside = λ l h. omega arith;
      before = λ l. absurd (omega arith);
      behind = λ l. absurd (omega arith);
    })
    (λ d. let q : one (m == a) ≡ 0 = ap one (ne_eqb m a d) in record {
      inside = λ l h. let z = r.inside (omega arith) (omega arith) in omega arith;
      before = λ l. let z = r.before (omega arith) in omega arith;
      behind = λ l. let z = r.behind (omega arith) in omega arith;
    })

named_all : (m w : ℕ) → tally (is_named m) (map empty_hand (range_with_len 0 w)) ≡ one (ltb m w)
named_all m w = by (ltb m w) refl
  where
    by : (t : Bool) → ltb m w ≡ t → tally (is_named m) (map empty_hand (range_with_len 0 w)) ≡ one t
    by true e = (named_in m 0 w).inside (omega arith) (let q : m < w = grind (arith, nat_tests) in omega arith)
    by false e = (named_in m 0 w).behind (let q : w ≤ m = grind (arith, nat_tests) in omega arith)

module _ {T : Type 0} where
  pub opens : (k : Key T) (words : List ℕ) (slots : List (Option T)) →
      words ≡ replicate (length (contents_of k)) 0 → slots ≡ map Some (contents_of k) → k.workers < 2 ^ 32
      → IsRule k (opening words slots (opening_view k))
  opens k words slots words_are slots_are few =
      let v : View T = opening_view k in
      let word : (b : ℕ) → slice_index words b ≡ 0 =
      λ b. ap (λ (l : List ℕ). slice_index l b) words_are ∙ zero_at (length (contents_of k)) b in
      record {
        words = ap length words_are ∙ length-replicate (length (contents_of k)) 0;
        few = few;
        low = λ b. let q = word b in omega arith;
        home = λ b l z. ap (λ (xs : List (Option T)). get_elem? (map some xs) b) slots_are ∙ home_at
            (contents_of k) b l;
        once = λ b. let p = none_in (claims_in b) (λ m. refl) (range_with_len 0 k.workers) in
            let q : is_taken (slice_index words b) ≡ 0 = ap is_taken (word b) in omega arith;
        whose = λ m b. let p = none_in (claims_by m b) (λ j. none_by (m == j)) (range_with_len 0 k.workers) in
            let q : is_by m (slice_index words b) ≡ 0 = ap (is_by m) (word b) in omega arith;
        named = λ m. let p = named_all m k.workers in omega arith;
        count = let p = count_in 0 k.workers in omega arith;
        knows = λ j u e l. only j u e;
      }
    where
      only : (j : ℕ) (u : View T) → get_elem? (opening_view k ∷ []) j ≡ some u → Knows k u
      only zero u e = subst (Knows k) (some-injective (opening_view k) u e) (refl, refl)
      only (suc j) u e = absurd (some-ne-none u (sym e))
