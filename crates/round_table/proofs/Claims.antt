-- A claim keeps the rule.
use Rattle.std.specs.Prelude.{◌≡◌, ◌≢◌, ℕ, zero, suc, ◌+◌, ◌<◌, ◌≤◌, ◌==◌, ltb, Bool, true, false, cond, List, [], ◌∷◌}
use Rattle.std.specs.Prelude.{◌++◌, length, slice_get, slice_index, slice_set, Option, Some}
use Rattle.std.proofs.Common.{refl, sym, ◌∙◌, ap, subst, inl, inr, arith, get_or-set_other, get_or-set_same, length-set}
use Rattle.std.proofs.Common.{eq-eqb, ne_eqb}
use mathlib.Core.Logic.{dite}
use mathlib.Core.Option.{some, none}
use native.Mathlib.Decide.{ℕ_discrete}
use prog.Atomic.{either}
use lib.ListN.{get_elem?}
use lib.Seq.{set-get_or}
use Rattle.atomic_table.specs.Table.{State, Me, step, Act, takes, keeps, stepped, carried_after, Valid, Allows}
use Rattle.atomic_table.proofs.Lists.{at_set, set_again, set_else, exchanged}
use Rattle.round_table.specs.declared.view.Key.{Key}
use Rattle.round_table.specs.declared.view.Hand.{Hand}
use Rattle.round_table.specs.declared.view.View.{View}
use Rattle.round_table.specs.Counts.{one, times, tally, total, each, claims_in, claims_by, is_named, is_taken, is_by}
use Rattle.round_table.specs.Rounds.{claims_of}
use Rattle.round_table.specs.Rule.{contents_of, IsRule}
use Rattle.round_table.specs.Plays.{claims, with_claim, Told}
use Rattle.round_table.proofs.Counted.{one_most, below_named, same_number, times_push, within, total_set, total_at}
use Rattle.round_table.proofs.Counted.{alone}

-- the hand of a pass
abbrev pub hand : ℕ → List ℕ → Hand
hand n c = record { number = n; claims = c }

-- a claim more in it
more_by : (m b n x : ℕ) (c : List ℕ) →
    claims_by m x (hand n (c ++ b ∷ [])) ≡ claims_by m x (hand n c) + cond (m == n) (one (x == b)) 0
more_by m b n x c = by (m == n)
  where
    by : (t : Bool) → cond t (times x (c ++ b ∷ [])) 0 ≡ cond t (times x c) 0 + cond t (one (x == b)) 0
    by true = times_push x c b
    by false = refl

-- what the word of the bucket says after it, and of every other one
taken_more : (n b x word word' : ℕ) → (x ≡ b → word ≡ 0) → (x ≡ b → word' ≡ suc n) → (x ≢ b → word' ≡ word) →
    is_taken word' ≡ is_taken word + one (x == b)
taken_more n b x word word' free new old = dite (ℕ_discrete x b)
    (λ e. let p : is_taken word' ≡ 1 = ap is_taken (new e) in let q : is_taken word ≡ 0 = ap is_taken (free e) in
    let r : one (x == b) ≡ 1 = ap one (eq-eqb x b e) in omega arith)
    (λ d. let p : is_taken word' ≡ is_taken word = ap is_taken (old d) in
    let r : one (x == b) ≡ 0 = ap one (ne_eqb x b d) in omega arith)

by_more : (m n b x word word' : ℕ) → (x ≡ b → word ≡ 0) → (x ≡ b → word' ≡ suc n) → (x ≢ b → word' ≡ word) →
    is_by m word' ≡ is_by m word + cond (m == n) (one (x == b)) 0
by_more m n b x word word' free new old = dite (ℕ_discrete x b)
    (λ e. let p : is_by m word' ≡ one (m == n) = ap (is_by m) (new e) in
    let q : is_by m word ≡ 0 = ap (is_by m) (free e) in
    let r : cond (m == n) (one (x == b)) 0 ≡ one (m == n) = ap (λ (t : Bool). cond (m == n) (one t) 0) (eq-eqb x b e)
    ∙ yes (m == n) in omega arith)
    (λ d. let p : is_by m word' ≡ is_by m word = ap (is_by m) (old d) in
    let r : cond (m == n) (one (x == b)) 0 ≡ 0 = ap (λ (t : Bool). cond (m == n) (one t) 0) (ne_eqb x b d)
    ∙ no (m == n) in omega arith)
  where
    yes : (t : Bool) → ◌≡◌ {A = ℕ} (cond t 1 0) (one t)
    yes true = refl
    yes false = refl

    no : (t : Bool) → ◌≡◌ {A = ℕ} (cond t 0 0) 0
    no true = refl
    no false = refl

-- a hand that has not the number has no claims by it
by_none : (m b : ℕ) (h : Hand) → is_named m h ≡ 0 → claims_by m b h ≡ 0
by_none m b h e = by (m == h.number) e
  where
    by : (t : Bool) → one t ≡ 0 → cond t (times b h.claims) 0 ≡ 0
    by true e = absurd (omega arith)
    by false e = refl

module _ {T : Type 0} where
  -- a step of a seat keeps the rule: there is a view and a deed of the slots after which it holds, and this is told
  abbrev pub Taken : Key T → State (Option T) (View T) → ℕ → ℕ → Me (Option T) (View T) →
      (Me (Option T) (View T) → Type 0) → ℕ → Type 0
  Taken k s i id me then y =
      (w : View T) × (a : Act (Option T)) × Valid s.homes me.1 a × IsRule k (stepped s i y id me.1 w a)
      × then (w, carried_after me.1 a)

  -- the number of a pass is below the number of passes, and no other pass has it
  only : (k : Key T) (s : State (Option T) (View T)) (id n : ℕ) (c : List ℕ) (v : View T) → IsRule k s →
      get_elem? s.views id ≡ some v → v.hands ≡ hand n c ∷ [] → (n < k.workers) × (total (is_named n) s.views ≡ 1)
  only k s id n c v r at is =
      let a = total_at (is_named n) s.views id v at in
      let b : tally (is_named n) v.hands ≡ one (n == n) + 0 = ap (tally (is_named n)) is in
      let d : one (n == n) ≡ 1 = ap one (eq-eqb n n refl) in
      let e = r.named n in
      let f = one_most (ltb n k.workers) in (
        below_named n k.workers (omega arith),
        omega arith,
      )

  hits : (k : Key T) (slots id b n new : ℕ) (c : List ℕ) (me : Me (Option T) (View T)) (s : State (Option T) (View T)) →
      IsRule k s → get_elem? s.views id ≡ some me.0 → me.0.hands ≡ hand n c ∷ [] → new ≡ suc n →
      b < length (contents_of k) → slice_index s.words b ≡ 0
      → Taken k s b id me (Told (step slots b 0 new none) me (slice_index s.words b)) new
  hits k slots id b n new c me s r at is new_is inside is_free =
      let v : View T = me.0 in
      let w : View T = claims v b in
      let w_is : w.hands ≡ hand n (c ++ b ∷ []) ∷ [] = ap (with_claim b) is in
      let d = within (contents_of k) b inside in
      let some_hand : 0 < length v.hands = subst (λ (l : List Hand). 0 < length l) (sym is) (omega arith) in
      let know = r.knows id v at some_hand in
      let o = only k s id n c v r at is in
      let wide : b < length s.words = let q = r.words in omega arith in
      let words : List ℕ = slice_set s.words b new in
      let here : (x : ℕ) → x ≡ b → slice_index words x ≡ suc n =
      λ x e. ap (slice_index words) e ∙ get_or-set_same s.words b new 0 wide ∙ new_is in
      let there : (x : ℕ) → x ≢ b → slice_index words x ≡ slice_index s.words x =
      λ x ne. get_or-set_other s.words b x new 0 ne in
      let free : (x : ℕ) → x ≡ b → slice_index s.words x ≡ 0 = λ x e. ap (slice_index s.words) e ∙ is_free in
      let f_old : (f : Hand → ℕ) → tally f v.hands ≡ f (hand n c) + 0 = λ f. ap (tally f) is in
      let f_new : (f : Hand → ℕ) → tally f w.hands ≡ f (hand n (c ++ b ∷ [])) + 0 = λ f. ap (tally f) w_is in (
        w,
        takes b (Some d.0),
        r.home b inside is_free ∙ ap (λ (y : Option T). some (some y)) d.1,
        record {
          words = length-set s.words b new ∙ r.words;
          few = r.few;
          low = λ x. dite (ℕ_discrete x b)
              (λ e. let q = here x e in let l = o.0 in omega arith)
              (λ ne. let q = there x ne in let l = r.low x in omega arith);
          home = λ x l z. dite (ℕ_discrete x b)
              (λ e. absurd (let q = here x e in omega arith))
              (λ ne. set_else s.homes b x none ne
              ∙ r.home x l (sym (there x ne) ∙ z));
          once = λ x.
              let t = total_set (claims_in x) s.views id v w at in
              let p = f_old (claims_in x) in
              let q = f_new (claims_in x) in
              let m = times_push x c b in
              let u = r.once x in
              let y = taken_more n b x (slice_index s.words x) (slice_index words x) (free x) (here x) (there x) in
              omega arith;
          whose = λ m x.
              let t = total_set (claims_by m x) s.views id v w at in
              let p = f_old (claims_by m x) in
              let q = f_new (claims_by m x) in
              let z = more_by m b n x c in
              let u = r.whose m x in
              let y = by_more m n b x (slice_index s.words x) (slice_index words x) (free x) (here x) (there x) in
              omega arith;
          named = λ m.
              let t = total_set (is_named m) s.views id v w at in
              let p = f_old (is_named m) in
              let q = f_new (is_named m) in
              let u = r.named m in
              omega arith;
          count =
              let t = total_set each s.views id v w at in
              let p = f_old each in
              let q = f_new each in
              let u = r.count in
              omega arith;
          knows = λ j u e some_one. elim (at_set s.views id j w u e) [
            | inl y ↦ subst (λ (z : View T). (z.contents ≡ contents_of k) × (z.workers ≡ k.workers)) y.1 know
            | inr y ↦ r.knows j u y.1 some_one
          ];
        },
        (
          (λ _. (
            d.0,
            ap (λ (l : List T). slice_get l b) know.0 ∙ d.1,
            refl,
            refl,
            (let t = total_at (claims_in b) s.views id v at in
                let p = f_old (claims_in b) in
                let u : total (claims_in b) s.views ≡ 0 = r.once b ∙ ap is_taken is_free in
                let q : times b (claims_of v.hands) ≡ times b c = ap (λ (l : List Hand). times b (claims_of l)) is in
                omega arith),
          )),
          (λ miss. absurd (miss is_free)),
        ),
      )

  misses : (k : Key T) (slots id b n new : ℕ) (c : List ℕ) (me : Me (Option T) (View T)) (s : State (Option T)
      (View T)) →
      IsRule k s → get_elem? s.views id ≡ some me.0 → me.0.hands ≡ hand n c ∷ [] → new ≡ suc n →
      slice_index s.words b ≢ 0
      → Taken k s b id me (Told (step slots b 0 new none) me (slice_index s.words b)) (slice_index s.words b)
  misses k slots id b n new c me s r at is new_is busy =
      let v : View T = me.0 in
      let some_hand : 0 < length v.hands = subst (λ (l : List Hand). 0 < length l) (sym is) (omega arith) in
      let know = r.knows id v at some_hand in
      let o = only k s id n c v r at is in
      let word : ℕ = slice_index s.words b in
      let mine : tally (is_named n) v.hands ≡ one (n == n) + 0 = ap (tally (is_named n)) is in
      let named : one (n == n) ≡ 1 = ap one (eq-eqb n n refl) in
      let all : total (claims_by n b) s.views ≡ tally (claims_by n b) v.hands =
      alone (claims_by n b) (is_named n) (by_none n b) s.views id v at (let q = o.1 in omega arith) in
      let held : tally (claims_by n b) v.hands ≡ cond (n == n) (times b c) 0 + 0 = ap (tally (claims_by n b)) is in
      let so : cond (n == n) (times b c) 0 ≡ times b c =
      ap (λ (t : Bool). cond t (times b c) 0) (eq-eqb n n refl) in
      let u = r.whose n b in
      let q : times b (claims_of v.hands) ≡ times b c = ap (λ (l : List Hand). times b (claims_of l)) is in
      let low = r.low b in
      let few = r.few in (
        v,
        keeps,
        tt,
        subst (λ (t : List ℕ × List (View T)). IsRule k record { words = t.0; homes = s.homes; views = t.1 })
            (λ i. (sym (set-get_or s.words b 0) i, sym (set_again s.views id v at) i)) r,
        (
          (λ free. absurd (busy free)),
          (λ _. (
            refl,
            (let p = know.1 in omega arith),
            omega arith,
            (
              (λ e. let p : is_by n word ≡ one (n == n) = ap (is_by n) (e ∙ new_is) in omega arith),
              (λ l. let p = named_by n word (omega arith) in omega arith),
            ),
          )),
        ),
      )
    where
      named_by : (n word : ℕ) → 1 ≤ is_by n word → word ≡ suc n
      named_by n zero l = absurd (omega arith)
      named_by n (suc j) l = let p = same_number n j l in omega arith

  -- a pass may claim a bucket
  pub claims_allowed : (k : Key T) (slots id b n new : ℕ) (c : List ℕ) (me : Me (Option T) (View T)) →
      me.0.hands ≡ hand n c ∷ [] → new ≡ suc n → b < length (contents_of k)
      → Allows (IsRule k) slots id me b (λ m. either (m == 0) new m) (Told (step slots b 0 new none) me)
  claims_allowed k slots id b n new c me is new_is inside s rule deep at small =
      exchanged (slice_index s.words b) 0 new
      (Taken k s b id me (Told (step slots b 0 new none) me (slice_index s.words b)))
      (hits k slots id b n new c me s rule at is new_is inside)
      (misses k slots id b n new c me s rule at is new_is)
