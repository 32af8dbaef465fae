-- Searches by place.
use Rattle.std.specs.Prelude.{◌≡◌, ℕ, ◌+◌, ◌-◌, zero, suc, ◌<◌, ◌≤◌, Bool, true, false, cond, List, [], ◌∷◌, length}
use Rattle.std.specs.Prelude.{drop, Option, None, Some, slice_index, MatchOption}
use Rattle.std.specs.List.{position_from, filter}
use Rattle.std.specs.Option.{option_map}
use Rattle.std.proofs.Common.{refl, sym, ◌∙◌, ap, subst, inl, inr, arith, length-drop}
use Rattle.std.proofs.lemmas.List.{get_or-drop}
use Rattle.point_order.specs.Sets.{IsIn}

-- what a search from place n on answers: the first place where the test holds, or none where no place passes
pub record IsFirst (test : ℕ → Bool) (n : ℕ) (s : List ℕ) (i : ℕ) : Type 0 where
  pub from : n ≤ i
  pub within : i < length s
  pub passes : test (slice_index s i) ≡ true
  pub before : (m : ℕ) → n ≤ m → m < i → test (slice_index s m) ≡ false

-- no place from n on passes
abbrev pub IsNowhere : (ℕ → Bool) → ℕ → List ℕ → Type 0
IsNowhere test n s = (m : ℕ) → n ≤ m → m < length s → test (slice_index s m) ≡ false

-- the answer for a list whose first place is n, by its elements
pub record IsFound (test : ℕ → Bool) (n : ℕ) (s : List ℕ) (i : ℕ) : Type 0 where
  pub k : ℕ
  pub place : i ≡ n + k
  pub within : k < length s
  pub passes : test (slice_index s k) ≡ true
  pub before : (m : ℕ) → m < k → test (slice_index s m) ≡ false

-- a search finds the first element that passes, or none does
pub position_is : (test : ℕ → Bool) (n : ℕ) (s : List ℕ) → MatchOption (position_from test n s) (IsNowhere test 0 s)
    (IsFound test n s)
position_is test n [] = λ m l h. absurd (omega arith)
position_is test n (x ∷ s) = by (test x) refl (position_from test (n + 1) s) (position_is test (n + 1) s)
  where
    later : IsNowhere test 0 s → test x ≡ false → (m : ℕ) → 0 ≤ m → m < length (x ∷ s) → test (slice_index (x ∷ s) m)
        ≡ false
    later f e zero l h = e
    later f e (suc m) l h = f m (omega arith) (omega arith)

    front : (k : ℕ) → ((m : ℕ) → m < k → test (slice_index s m) ≡ false) → test x ≡ false → (m : ℕ) → m < suc k →
        test (slice_index (x ∷ s) m) ≡ false
    front k f e zero h = e
    front k f e (suc m) h = f m (omega arith)

    by : (b : Bool) → test x ≡ b → (o : Option ℕ) → MatchOption o (IsNowhere test 0 s) (IsFound test (n + 1) s) →
        MatchOption (cond b (Some n) o) (IsNowhere test 0 (x ∷ s)) (IsFound test n (x ∷ s))
    by true e o h =
        record { k = 0; place = omega arith; within = omega arith; passes = e; before = λ m l. absurd (omega arith) }
    by false e None h = later h e
    by false e (Some i) h = record {
      k = suc h.k;
      place = omega (arith, h.place);
      within = omega (arith, h.within);
      passes = h.passes;
      before = front h.k h.before e;
    }

-- where the search is over the elements from place n on
pub next_is : (test : ℕ → Bool) (n : ℕ) (s : List ℕ) → MatchOption (position_from test n (drop n s))
    (IsNowhere test n s) (IsFirst test n s)
next_is test n s = by (position_from test n (drop n s)) (position_is test n (drop n s))
  where
    moved : (m : ℕ) → slice_index (drop n s) m ≡ slice_index s (n + m)
    moved m = get_or-drop n s m 0

    back : (m : ℕ) → n ≤ m → slice_index (drop n s) (m - n) ≡ slice_index s m
    back m h = moved (m - n) ∙ ap (slice_index s) (omega arith)

    by : (o : Option ℕ) → MatchOption o (IsNowhere test 0 (drop n s)) (IsFound test n (drop n s)) →
        MatchOption o (IsNowhere test n s) (IsFirst test n s)
    by None h = λ m l i. sym (ap test (back m l)) ∙ h (m - n) (omega arith) (omega (arith, length-drop n s))
    by (Some i) h =
        record {
          from = omega (arith, h.place);
          within = omega (arith, h.place, h.within, length-drop n s);
          passes = sym (ap test (moved h.k ∙ ap (slice_index s) (sym h.place))) ∙ h.passes;
          before = λ m l j. sym (ap test (back m l)) ∙ h.before (m - n) (omega (arith, h.place));
        }

-- a search moved to another first place
pub position_shift : (test : ℕ → Bool) (n : ℕ) (s : List ℕ) →
    position_from test n s ≡ option_map (λ k. n + k) (position_from test 0 s)
position_shift test n s =
    let e : n + 0 ≡ n = omega arith in
    subst (λ (k : ℕ). position_from test k s ≡ option_map (λ k. n + k) (position_from test 0 s)) e (from n 0 s)
  where
    from : (n k : ℕ) (s : List ℕ) → position_from test (n + k) s ≡ option_map (λ k. n + k) (position_from test k s)
    from n k [] = refl
    from n k (x ∷ s) = by (test x) (from n (k + 1) s)
      where
        by : (b : Bool) → position_from test (n + (k + 1)) s ≡ option_map (λ k. n + k) (position_from test (k + 1) s) →
            cond b (Some (n + k)) (position_from test (n + k + 1) s) ≡ option_map (λ k. n + k)
            (cond b (Some k) (position_from test (k + 1) s))
        by true h = refl
        by false h = let e : n + k + 1 ≡ n + (k + 1) = omega arith in rw e h

-- an element that passes the test is one of those that do
pub in_filter : (test : ℕ → Bool) (s : List ℕ) (m : ℕ) → m < length s → test (slice_index s m) ≡ true →
    IsIn (slice_index s m) (filter test s)
in_filter test [] m h e = absurd (omega arith)
in_filter test (x ∷ s) zero h e = rw e (inl refl)
in_filter test (x ∷ s) (suc m) h e = by (test x) (in_filter test s m (omega arith) e)
  where
    by : (b : Bool) → IsIn (slice_index s m) (filter test s) →
        IsIn (slice_index s m) (cond b (x ∷ filter test s) (filter test s))
    by true i = inr i
    by false i = i

-- and each of those stands somewhere in the list
pub filter_in : (test : ℕ → Bool) (s : List ℕ) (q : ℕ) → IsIn q (filter test s) → (m : ℕ) × (m < length s)
    × (slice_index s m ≡ q) × (test q ≡ true)
filter_in test [] q i = absurd i
filter_in test (x ∷ s) q i = by (test x) refl i (filter_in test s q)
  where
    by : (b : Bool) → test x ≡ b → IsIn q (cond b (x ∷ filter test s) (filter test s)) →
        (IsIn q (filter test s) → (m : ℕ) × (m < length s) × (slice_index s m ≡ q) × (test q ≡ true)) →
        (m : ℕ) × (m < length (x ∷ s)) × (slice_index (x ∷ s) m ≡ q) × (test q ≡ true)
    by true e (inl f) r = (0, omega arith, f, sym (ap test f) ∙ e)
    by true e (inr j) r = let t = r j in (suc t.0, omega (arith, t.1), t.2, t.3)
    by false e j r = let t = r j in (suc t.0, omega (arith, t.1), t.2, t.3)
