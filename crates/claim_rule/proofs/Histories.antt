-- Histories with one more entry, and what passes have of them.
use Rattle.std.specs.Prelude.{◌≡◌, ◌⊎◌, ℕ, zero, suc, ◌+◌, ◌<◌, ◌≤◌, true, List, [], ◌∷◌, ◌++◌, All, drop, length}
use Rattle.std.proofs.Common.{refl, ◌∙◌, ap, subst, inl, inr, arith}
use Rattle.std.proofs.lemmas.Bool.Decides.{nat_tests}
use Rattle.list_laws.proofs.Cited.{filtered_from}
use Rattle.point_order.specs.Sets.{IsIn}
use Rattle.edit_history.specs.declared.history.Entry.{Entry}
use Rattle.edit_history.specs.Histories.{IsLegal}
use Rattle.edit_history.proofs.Cited.{number_below}
use Rattle.claim_rule.specs.Boards.{is_by, made_by}
use Rattle.claim_rule.specs.Good.{StartsWith}

-- a history with an entry more is one longer
pub length_more : (h : List Entry) (e : Entry) → length (h ++ e ∷ []) ≡ length h + 1
length_more [] e = refl
length_more (d ∷ h) e = let r = length_more h e in omega arith

-- and begins with what the history begins with
pub starts_more : (h front : List Entry) (e : Entry) → StartsWith h front → StartsWith (h ++ e ∷ []) front
starts_more h front e st = (st.0 ++ e ∷ [], ap (λ (l : List Entry). l ++ e ∷ []) st.1 ∙ assoc front st.0)
  where
    assoc : (l m : List Entry) → (l ++ m) ++ e ∷ [] ≡ l ++ (m ++ e ∷ [])
    assoc [] m = refl
    assoc (x ∷ l) m = ap (λ (k : List Entry). x ∷ k) (assoc l m)

-- ---- members

-- what holds of each member holds of all entries
pub all_from_in : (P : Entry → Type 0) (l : List Entry) → ((e : Entry) → IsIn e l → P e) → All P l
all_from_in P [] f k d i = absurd (omega arith)
all_from_in P (x ∷ l) f zero d i = f x (inl refl)
all_from_in P (x ∷ l) f (suc k) d i = all_from_in P l (λ e j. f e (inr j)) k d (omega arith)

-- and what holds of all entries holds of each member
pub in_all : (P : Entry → Type 0) (l : List Entry) (e : Entry) → All P l → IsIn e l → P e
in_all P [] e a i = absurd i
in_all P (x ∷ l) e a (inl q) = subst P q (a 0 x (omega arith))
in_all P (x ∷ l) e a (inr j) = in_all P l e (λ k d i. a (suc k) d (omega arith)) j

-- what is among the entries but for the first ones is among the entries
pub in_dropped : (n : ℕ) (l : List Entry) (e : Entry) → IsIn e (drop n l) → IsIn e l
in_dropped zero l e i = i
in_dropped (suc n) [] e i = i
in_dropped (suc n) (x ∷ l) e i = inr (in_dropped n l e i)

-- what is among the entries with one more, but for the first ones, is among those, or is that one
pub in_dropped_more : (n : ℕ) (l : List Entry) (d e : Entry) → IsIn e (drop n (l ++ d ∷ [])) → IsIn e (drop n l)
    ⊎ (d ≡ e)
in_dropped_more zero [] d e (inl q) = inr q
in_dropped_more zero [] d e (inr i) = absurd i
in_dropped_more zero (x ∷ l) d e (inl q) = inl (inl q)
in_dropped_more zero (x ∷ l) d e (inr i) = elim (in_dropped_more zero l d e i) [
  | inl j ↦ inl (inr j)
  | inr q ↦ inr q
]
in_dropped_more (suc zero) [] d e i = absurd i
in_dropped_more (suc (suc n)) [] d e i = absurd i
in_dropped_more (suc n) (x ∷ l) d e i = in_dropped_more n l d e i

-- all entries that some parts have made are below the length of the history
pub made_below : (first parts c : ℕ) (h : List Entry) → IsLegal h →
    All (λ e. e.number < length h) (made_by first parts c h)
made_below first parts c h legal =
    all_from_in (λ e. e.number < length h) (made_by first parts c h)
    (λ e i. let r = number_below 0 [] h e legal (in_dropped c h e
    (filtered_from (is_by first parts) (drop c h) e i).0) in omega arith)

-- a part is one of those
pub by_parts : (first parts : ℕ) (e : Entry) → is_by first parts e ≡ true → (first ≤ e.by) × (e.by < first + parts)
by_parts first parts e t = (grind (arith, nat_tests), grind (arith, nat_tests))

-- and an entry by one of those is by the parts
pub parts_by : (first parts : ℕ) (e : Entry) → first ≤ e.by → e.by < first + parts → is_by first parts e ≡ true
parts_by first parts e a b = grind (arith, nat_tests)

-- nothing is left of a list without as many as it has
pub dropped_all : (l : List Entry) → drop (length l) l ≡ []
dropped_all [] = refl
dropped_all (x ∷ l) = dropped_all l
