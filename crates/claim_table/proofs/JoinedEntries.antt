-- The entries of two passes, by number, are those of the parts of both.
use Rattle.std.specs.Prelude.{◌≡◌, ◌⊎◌, ℕ, zero, suc, ◌+◌, ◌<◌, ◌≤◌, Bool, true, false, cond, ◌||◌, ltb, List, [], ◌∷◌}
use Rattle.std.specs.Prelude.{◌++◌, drop}
use Rattle.std.specs.List.{filter}
use Rattle.std.proofs.Common.{refl, ◌∙◌, ap, inl, inr, arith}
use Rattle.std.proofs.lemmas.Bool.Decides.{nat_tests}
use Rattle.list_laws.proofs.Cited.{filtered_from}
use Rattle.point_order.specs.Sets.{IsIn}
use Rattle.edit_history.specs.declared.history.Entry.{Entry}
use Rattle.edit_history.specs.Edits.{after}
use Rattle.edit_history.specs.Histories.{IsLegal, IsLegalFrom}
use Rattle.claim_rule.specs.Boards.{is_by, made_by}
use Rattle.cell_store.specs.Meshes.{with_entry, by_number}
use Rattle.cell_store.proofs.Cited.{from_put}

-- the numbers rise
abbrev pub Climbs : List Entry → Type 0
Climbs [] = Unit {0}
Climbs (e ∷ l) = ((d : Entry) → IsIn d l → e.number < d.number) × Climbs l

-- an entry of a legal history that is numbered from n on has a number of n or more
from_first : (n : ℕ) (s : List ℕ) (h : List Entry) (e : Entry) → IsLegalFrom n s h → IsIn e h → n ≤ e.number
from_first n s [] e l i = absurd i
from_first n s (d ∷ h) e l (inl q) =
    let k : d.number ≡ e.number = ap (λ (x : Entry). x.number) q in let m = l.0 in omega arith
from_first n s (d ∷ h) e l (inr j) = let r = from_first (n + 1) (after s d.edit) h e l.2 j in omega arith

-- so the numbers of a legal history rise
legal_climbs : (n : ℕ) (s : List ℕ) (h : List Entry) → IsLegalFrom n s h → Climbs h
legal_climbs n s [] l = tt
legal_climbs n s (e ∷ h) l = (
  (λ d i. let r = from_first (n + 1) (after s e.edit) h d l.2 i in let m = l.0 in omega arith),
  legal_climbs (n + 1) (after s e.edit) h l.2,
)

-- and those of what is behind its first entries
dropped_climbs : (n : ℕ) (l : List Entry) → Climbs l → Climbs (drop n l)
dropped_climbs zero l c = c
dropped_climbs (suc n) [] c = tt
dropped_climbs (suc n) (e ∷ l) c = dropped_climbs n l c.1

-- ---- the least comes first

-- what stands in the list by number stands in the list
in_sorted : (d : Entry) (l : List Entry) → IsIn d (by_number l) → IsIn d l
unfolding by_number
in_sorted d [] i = i
in_sorted d (e ∷ l) i = elim (from_put e d (by_number l) i) [
  | inl q ↦ inl q
  | inr j ↦ inr (in_sorted d l j)
]

-- an entry with a number below all others comes first
put_least : (e : Entry) (l : List Entry) → ((d : Entry) → IsIn d l → e.number < d.number) → with_entry e l ≡ e ∷ l
put_least e [] f = refl
put_least e (d ∷ l) f = by (ltb e.number d.number) refl (f d (inl refl))
  where
    by : (t : Bool) → ltb e.number d.number ≡ t → e.number < d.number → cond t (e ∷ d ∷ l) (d ∷ with_entry e l)
        ≡ e ∷ d ∷ l
    by true q k = refl
    by false q k = absurd (let r : ltb e.number d.number ≡ true = grind (arith, nat_tests) in cc)

-- one with a number above the first comes behind it
put_behind : (x e : Entry) (l : List Entry) → e.number < x.number → with_entry x (e ∷ l) ≡ e ∷ with_entry x l
put_behind x e l k = by (ltb x.number e.number) refl
  where
    by : (t : Bool) → ltb x.number e.number ≡ t → cond t (x ∷ e ∷ l) (e ∷ with_entry x l) ≡ e ∷ with_entry x l
    by true q = absurd (let r : ltb x.number e.number ≡ false = grind (arith, nat_tests) in cc)
    by false q = refl

-- so the entry with the least number comes first wherever it stood
least_first : (e : Entry) (xs ys : List Entry) → ((d : Entry) → IsIn d xs → e.number < d.number) →
    ((d : Entry) → IsIn d ys → e.number < d.number) → by_number (xs ++ e ∷ ys) ≡ e ∷ by_number (xs ++ ys)
unfolding by_number
least_first e [] ys f g = put_least e (by_number ys) (λ d i. g d (in_sorted d ys i))
least_first e (x ∷ xs) ys f g =
    ap (with_entry x) (least_first e xs ys (λ d i. f d (inr i)) g)
    ∙ put_behind x e (by_number (xs ++ ys)) (f x (inl refl))

-- entries whose numbers rise, those of one kind and those of another put together by number, are those of both
united : (p q r : Entry → Bool) (l : List Entry) → ((e : Entry) → r e ≡ (p e || q e)) →
    ((e : Entry) → p e ≡ true → q e ≡ false) → Climbs l → by_number (filter p l ++ filter q l) ≡ filter r l
unfolding by_number
united p q r [] f g c = refl
united p q r (e ∷ l) f g c = by (p e) refl (q e) refl (r e) (f e) (united p q r l f g c.1)
  where
    above_p : (d : Entry) → IsIn d (filter p l) → e.number < d.number
    above_p d i = c.0 d (filtered_from p l d i).0

    above_q : (d : Entry) → IsIn d (filter q l) → e.number < d.number
    above_q d i = c.0 d (filtered_from q l d i).0

    by : (a : Bool) → p e ≡ a → (b : Bool) → q e ≡ b → (t : Bool) → t ≡ (p e || q e) →
        by_number (filter p l ++ filter q l) ≡ filter r l
        → by_number (cond a (e ∷ filter p l) (filter p l) ++ cond b (e ∷ filter q l) (filter q l))
        ≡ cond t (e ∷ filter r l) (filter r l)
    by true x true y t z h = absurd (let k = g e x in cc)
    by true x false y true z h =
        least_first e [] (filter p l ++ filter q l) (λ d i. absurd i) above ∙ ap (λ (m : List Entry). e ∷ m) h
      where
        above : (d : Entry) → IsIn d (filter p l ++ filter q l) → e.number < d.number
        above d i = elim (either_in (filter p l) (filter q l) d i) [
          | inl j ↦ above_p d j
          | inr j ↦ above_q d j
        ]
          where
            either_in : (a b : List Entry) (d : Entry) → IsIn d (a ++ b) → IsIn d a ⊎ IsIn d b
            either_in [] b d i = inr i
            either_in (x ∷ a) b d (inl w) = inl (inl w)
            either_in (x ∷ a) b d (inr j) = elim (either_in a b d j) [
              | inl w ↦ inl (inr w)
              | inr w ↦ inr w
            ]
    by true x false y false z h = absurd (let k : (p e || q e) ≡ true = ap (λ b. b || q e) x in cc)
    by false x true y true z h =
        least_first e (filter p l) (filter q l) above_p above_q ∙ ap (λ (m : List Entry). e ∷ m) h
    by false x true y false z h = absurd (let k : (p e || q e) ≡ true = (λ i. x i || y i) in cc)
    by false x false y true z h = absurd (let k : (p e || q e) ≡ false = (λ i. x i || y i) in cc)
    by false x false y false z h = h

-- what two passes made whose parts are side by side is, by number, what the parts of both made
pub made_united : (first a b c : ℕ) (h : List Entry) → IsLegal h →
    by_number (made_by first a c h ++ made_by (first + a) b c h) ≡ made_by first (a + b) c h
made_united first a b c h legal =
    united (is_by first a) (is_by (first + a) b) (is_by first (a + b)) (drop c h) (λ e. one e) (λ e t. apart e t)
    (dropped_climbs c h (legal_climbs 0 [] h legal))
  where
    one : (e : Entry) → is_by first (a + b) e ≡ (is_by first a e || is_by (first + a) b e)
    one e = grind (arith, nat_tests)

    apart : (e : Entry) → is_by first a e ≡ true → is_by (first + a) b e ≡ false
    apart e t = grind (arith, nat_tests)
