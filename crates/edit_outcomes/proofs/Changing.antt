-- A set that edits change, told by what is gone and what came.
use Rattle.std.specs.Prelude.{◌≡◌, ◌≢◌, ℕ, Bool, true, false, not, ◌==◌, List, [], ◌∷◌}
use Rattle.std.specs.Ordering.{is_eq, nat_cmp}
use Rattle.std.specs.Set.{remove_key}
use Rattle.std.proofs.Common.{refl, sym, ◌∙◌, ap, subst, inl, inr, arith}
use Rattle.std.proofs.lemmas.Bool.{ne_eqb}
use Rattle.std.proofs.lemmas.Bool.Decides.{nat_tests}
use Rattle.list_laws.proofs.Cited.{among_from, among_true, below_each, differ_from, eq_same, false_if}
use Rattle.list_laws.proofs.Cited.{filtered_ascending, filtered_true, in_filtered, not_among, not_true, ordered, passes}
use Rattle.list_laws.proofs.Cited.{same_from, same_members, same_test, true_or_false}
use Rattle.point_order.specs.Sets.{IsIn, IsAscending, is_among, with_point, without_point}
use Rattle.point_order.proofs.Cited.{ascending_with, in_with, in_with_new, in_with_old}
use Rattle.edit_outcomes.specs.declared.changes.Changes.{Changes}
use Rattle.edit_outcomes.specs.Folding.{AreChanges}
use Rattle.edit_outcomes.specs.Outcomes.{lacking}

-- ---- a set without a point

-- what is in it was there, and is another point
pub without_from : (p : ℕ) (s : List ℕ) (q : ℕ) → IsIn q (without_point p s) → IsIn q s × (q ≢ p)
without_from p s q i =
    let t = passes (λ r. not (r == p)) s q i in
    (in_filtered (λ r. not (r == p)) s q i, λ e. apart t e)
  where
    apart : not (q == p) ≡ true → q ≡ p → ⊥
    apart t e = grind (arith, nat_tests)

-- and what was there, and is another point, is in it
pub without_true : (p : ℕ) (s : List ℕ) (q : ℕ) → IsIn q s → q ≢ p → IsIn q (without_point p s)
without_true p s q i n = filtered_true (λ r. not (r == p)) s q i (not_true (q == p) (ne_eqb q p n))

-- it ascends
pub without_ascending : (p : ℕ) (s : List ℕ) → IsAscending s → IsAscending (without_point p s)
without_ascending p s a = filtered_ascending (λ r. not (r == p)) s a

-- a point that is not there is taken out
pub without_absent : (p : ℕ) (s : List ℕ) → IsAscending s → is_among p s ≡ false → without_point p s ≡ s
without_absent p s a f =
    same_members (without_point p s) s (without_ascending p s a) a (λ q i. (without_from p s q i).0)
    (λ q i. without_true p s q i (λ e. not_among s p f (subst (λ (r : ℕ). IsIn r s) e i)))

-- a point that is there is put in
pub with_there : (p : ℕ) (s : List ℕ) → IsAscending s → IsIn p s → with_point p s ≡ s
with_there p s a m =
    same_members (with_point p s) s (ascending_with p s a) a (λ q i. elim (in_with p q s i) [
      | inl e ↦ subst (λ (r : ℕ). IsIn r s) e m
      | inr j ↦ j
    ])
    (λ q i. in_with_old p q s i)

-- a point that is there is taken out and put in again
pub out_and_in : (p : ℕ) (s : List ℕ) → IsAscending s → IsIn p s → with_point p (without_point p s) ≡ s
out_and_in p s a m =
    same_members (with_point p (without_point p s)) s (ascending_with p (without_point p s) (without_ascending p s a)) a
    (λ q i. elim (in_with p q (without_point p s) i) [
      | inl e ↦ subst (λ (r : ℕ). IsIn r s) e m
      | inr j ↦ (without_from p s q j).0
    ])
    (λ q i. elim (true_or_false (q == p)) [
      | inl t ↦ subst (λ (r : ℕ). IsIn r (with_point p (without_point p s))) (sym (same_from q p t))
          (in_with_new p (without_point p s))
      | inr f ↦ in_with_old p q (without_point p s) (without_true p s q i (differ_from q p f))
    ])

-- a point that is not there is put in and taken out again
pub in_and_out : (p : ℕ) (s : List ℕ) → IsAscending s → is_among p s ≡ false → without_point p (with_point p s) ≡ s
in_and_out p s a f =
    same_members (without_point p (with_point p s)) s (without_ascending p (with_point p s) (ascending_with p s a)) a
    (λ q i. let r = without_from p (with_point p s) q i in elim (in_with p q s r.0) [
      | inl e ↦ absurd (r.1 (sym e))
      | inr j ↦ j
    ])
    (λ q i. without_true p (with_point p s) q (in_with_old p q s i)
    (λ e. not_among s p f (subst (λ (v : ℕ). IsIn v s) e i)))

-- a point that has moved goes back
pub moved_back : (a b : ℕ) (s : List ℕ) → IsAscending s → is_among a s ≡ true → is_among b s ≡ false →
    without_point b (with_point a (without_point a (with_point b s))) ≡ s
moved_back a b s h e f =
    ap (without_point b) (out_and_in a (with_point b s) (ascending_with b s h) (in_with_old b a s (among_from a s e)))
    ∙ in_and_out b s h f

-- ---- keys

-- the tests of a key and of a point
same_key : (p x : ℕ) → is_eq (nat_cmp p x) ≡ (x == p)
same_key p x = elim (ordered p x) [
  | inl o ↦ ap is_eq o.1 ∙ sym (ne_eqb x p (λ e. let l = o.0 in omega (arith, l, e)))
  | inr k ↦ elim k [
    | inl o ↦ ap is_eq o.1 ∙ sym (ap (λ v. x == v) o.0 ∙ eq_same x)
    | inr o ↦ ap is_eq o.1 ∙ sym (ne_eqb x p (λ e. let l = o.0 in omega (arith, l, e)))
  ]
]

-- a key that is taken out of an ascending list is a point that is taken out
pub key_out : (p : ℕ) (s : List ℕ) → IsAscending s → remove_key (λ k. is_eq (nat_cmp p k)) s ≡ without_point p s
key_out p [] a = refl
key_out p (x ∷ s) a = by (x == p) refl (key_out p s a.1)
  where
    by : (b : Bool) → (x == p) ≡ b → remove_key (λ k. is_eq (nat_cmp p k)) s ≡ without_point p s →
        remove_key (λ k. is_eq (nat_cmp p k)) (x ∷ s) ≡ without_point p (x ∷ s)
    by true e rest =
        let same = same_from x p e in
        rw (same_key p x, e)
        (sym (without_absent p s a.1
        (false_if (is_among p s) (λ t. let l = below_each x s a.0 a.1 p (among_from p s t) in omega (arith, l, same)))))
    by false e rest = rw (same_key p x, e) (ap (λ (v : List ℕ). x ∷ v) rest)

-- ---- what a set lacks

-- what one set lacks is of the other, and not of it
pub in_lacking : (t s : List ℕ) (p : ℕ) → IsIn p (lacking t s) → IsIn p s × ¬ (IsIn p t)
in_lacking t s p i =
    let f = passes (λ q. not (is_among q t)) s p i in
    (in_filtered (λ q. not (is_among q t)) s p i, λ m. (let e = among_true p t m in denied (is_among p t) e f))
  where
    denied : (b : Bool) → b ≡ true → not b ≡ true → ⊥
    denied true e f = cc
    denied false e f = cc

-- and back
pub lacking_in : (t s : List ℕ) (p : ℕ) → IsIn p s → ¬ (IsIn p t) → IsIn p (lacking t s)
lacking_in t s p i n =
    filtered_true (λ q. not (is_among q t)) s p i
    (not_true (is_among p t) (false_if (is_among p t) (λ e. n (among_from p t e))))

-- it ascends
pub lacking_ascending : (t s : List ℕ) → IsAscending s → IsAscending (lacking t s)
lacking_ascending t s a = filtered_ascending (λ q. not (is_among q t)) s a

-- an ascending list of these points is what is lacking
pub lacking_is : (x t s : List ℕ) → IsAscending x → IsAscending s →
    ((p : ℕ) → IsIn p x → IsIn p s × ¬ (IsIn p t)) → ((p : ℕ) → IsIn p s → ¬ (IsIn p t) → IsIn p x) → x ≡ lacking t s
lacking_is x t s a b f g =
    same_members x (lacking t s) a (lacking_ascending t s b)
    (λ p i. let r = f p i in lacking_in t s p r.0 r.1)
    (λ p i. let r = in_lacking t s p i in g p r.0 r.1)

-- a set lacks nothing of itself
pub lacking_none : (s : List ℕ) → IsAscending s → [] ≡ lacking s s
lacking_none s a = lacking_is [] s s tt a (λ p i. absurd i) (λ p i n. absurd (n i))

-- ---- the changes

module _ (s t : List ℕ) (p : ℕ) (old : Changes) (are : AreChanges s t old) where
  -- the points that are gone
  from_gone : (q : ℕ) → IsIn q old.gone.keys → IsIn q s × ¬ (IsIn q t)
  from_gone q i = in_lacking t s q (subst (IsIn q) are.gone i)

  -- and back
  to_gone : (q : ℕ) → IsIn q s → ¬ (IsIn q t) → IsIn q old.gone.keys
  to_gone q i n = subst (IsIn q) (sym are.gone) (lacking_in t s q i n)

  -- they ascend
  pub gone_ascending : IsAscending old.gone.keys
  gone_ascending = subst IsAscending (sym are.gone) (lacking_ascending t s are.before)

  -- the points that came
  from_came : (q : ℕ) → IsIn q old.came.keys → IsIn q t × ¬ (IsIn q s)
  from_came q i = in_lacking s t q (subst (IsIn q) are.came i)

  -- and back
  pub to_came : (q : ℕ) → IsIn q t → ¬ (IsIn q s) → IsIn q old.came.keys
  to_came q i n = subst (IsIn q) (sym are.came) (lacking_in s t q i n)

  -- they ascend
  pub came_ascending : IsAscending old.came.keys
  came_ascending = subst IsAscending (sym are.came) (lacking_ascending s t are.now)

  -- a point of the set before is there where it is not gone
  pub there_if_not_gone : is_among p s ≡ true → not (is_among p old.gone.keys) ≡ is_among p t
  there_if_not_gone m =
      same_test (not (is_among p old.gone.keys)) (is_among p t)
      (λ e. elim (true_or_false (is_among p t)) [
        | inl y ↦ y
        | inr n ↦ absurd (denied (is_among p old.gone.keys)
            (among_true p old.gone.keys (to_gone p (among_from p s m) (not_among t p n))) e)
      ])
      (λ e. not_true (is_among p old.gone.keys) (false_if (is_among p old.gone.keys)
      (λ g. (from_gone p (among_from p old.gone.keys g)).1 (among_from p t e))))
    where
      denied : (b : Bool) → b ≡ true → not b ≡ true → ⊥
      denied true e f = cc
      denied false e f = cc

  -- and is gone where it is not there
  pub gone_if_not_there : is_among p s ≡ true → is_among p old.gone.keys ≡ not (is_among p t)
  gone_if_not_there m = flipped (is_among p old.gone.keys) (is_among p t) (there_if_not_gone m)
    where
      flipped : (a b : Bool) → not a ≡ b → a ≡ not b
      flipped true b e = ap not e
      flipped false b e = ap not e

  -- another one where it came
  pub there_if_came : is_among p s ≡ false → is_among p old.came.keys ≡ is_among p t
  there_if_came m =
      same_test (is_among p old.came.keys) (is_among p t)
      (λ e. among_true p t (from_came p (among_from p old.came.keys e)).0)
      (λ e. among_true p old.came.keys (to_came p (among_from p t e) (not_among s p m)))

  module _ (new : Changes) where
    -- a point of the set before is put in
    pub put_back : is_among p s ≡ true → new.gone.keys ≡ without_point p old.gone.keys →
        new.came.keys ≡ old.came.keys → AreChanges s (with_point p t) new
    put_back m g c = record {
      before = are.before;
      now = ascending_with p t are.now;
      gone = g ∙ lacking_is (without_point p old.gone.keys) (with_point p t) s
          (without_ascending p old.gone.keys gone_ascending) are.before
          (λ q i. (
          let r = without_from p old.gone.keys q i in let f = from_gone q r.0 in (
            f.0,
            λ j. elim (in_with p q t j) [ inl e ↦ r.1 (sym e) | inr k ↦ f.1 k ],
          )))
          (λ q i n. without_true p old.gone.keys q (to_gone q i (λ j. n (in_with_old p q t j)))
          (λ e. n (subst (λ (r : ℕ). IsIn r (with_point p t)) (sym e) (in_with_new p t))));
      came = c ∙ lacking_is old.came.keys s (with_point p t) came_ascending (ascending_with p t are.now)
          (λ q i. let f = from_came q i in (in_with_old p q t f.0, f.1))
          (λ q i n. elim (in_with p q t i) [
            | inl e ↦ absurd (n (subst (λ (r : ℕ). IsIn r s) e (among_from p s m)))
            | inr j ↦ to_came q j n
          ]);
    }

    -- another one is put in
    pub put_new : is_among p s ≡ false → new.gone.keys ≡ old.gone.keys →
        new.came.keys ≡ with_point p old.came.keys → AreChanges s (with_point p t) new
    put_new m g c = record {
      before = are.before;
      now = ascending_with p t are.now;
      gone = g ∙ lacking_is old.gone.keys (with_point p t) s gone_ascending are.before
          (λ q i. (
          let f = from_gone q i in (
            f.0,
            λ j. elim (in_with p q t j) [
              | inl e ↦ not_among s p m (subst (λ (r : ℕ). IsIn r s) (sym e) f.0)
              | inr k ↦ f.1 k
            ],
          )))
          (λ q i n. to_gone q i (λ j. n (in_with_old p q t j)));
      came = c ∙ lacking_is (with_point p old.came.keys) s (with_point p t)
          (ascending_with p old.came.keys came_ascending) (ascending_with p t are.now)
          (λ q i. elim (in_with p q old.came.keys i) [
            | inl e ↦ (
              subst (λ (r : ℕ). IsIn r (with_point p t)) e (in_with_new p t),
              λ j. not_among s p m (subst (λ (r : ℕ). IsIn r s) (sym e) j),
            )
            | inr k ↦ (let f = from_came q k in (in_with_old p q t f.0, f.1))
          ])
          (λ q i n. elim (in_with p q t i) [
            | inl e ↦ subst (λ (r : ℕ). IsIn r (with_point p old.came.keys)) e (in_with_new p old.came.keys)
            | inr j ↦ in_with_old p q old.came.keys (to_came q j n)
          ]);
    }

    -- a point of the set before is taken out
    pub take_old : is_among p s ≡ true → new.gone.keys ≡ with_point p old.gone.keys →
        new.came.keys ≡ old.came.keys → AreChanges s (without_point p t) new
    take_old m g c = record {
      before = are.before;
      now = without_ascending p t are.now;
      gone = g ∙ lacking_is (with_point p old.gone.keys) (without_point p t) s
          (ascending_with p old.gone.keys gone_ascending) are.before
          (λ q i. elim (in_with p q old.gone.keys i) [
            | inl e ↦ (
              subst (λ (r : ℕ). IsIn r s) e (among_from p s m),
              λ j. (without_from p t q j).1 (sym e),
            )
            | inr k ↦ (let f = from_gone q k in (f.0, λ j. f.1 (without_from p t q j).0))
          ])
          (λ q i n. elim (true_or_false (q == p)) [
            | inl e ↦ subst (λ (r : ℕ). IsIn r (with_point p old.gone.keys)) (sym (same_from q p e))
                (in_with_new p old.gone.keys)
            | inr e ↦ in_with_old p q old.gone.keys
                (to_gone q i (λ j. n (without_true p t q j (differ_from q p e))))
          ]);
      came = c ∙ lacking_is old.came.keys s (without_point p t) came_ascending (without_ascending p t are.now)
          (λ q i. (
          let f = from_came q i in (
            without_true p t q f.0 (λ e. f.1 (subst (λ (r : ℕ). IsIn r s) (sym e) (among_from p s m))),
            f.1,
          )))
          (λ q i n. to_came q (without_from p t q i).0 n);
    }

    -- another one is taken out
    pub take_new : is_among p s ≡ false → new.gone.keys ≡ old.gone.keys →
        new.came.keys ≡ without_point p old.came.keys → AreChanges s (without_point p t) new
    take_new m g c = record {
      before = are.before;
      now = without_ascending p t are.now;
      gone = g ∙ lacking_is old.gone.keys (without_point p t) s gone_ascending are.before
          (λ q i. let f = from_gone q i in (f.0, λ j. f.1 (without_from p t q j).0))
          (λ q i n. to_gone q i (λ j. n (without_true p t q j
          (λ e. not_among s p m (subst (λ (r : ℕ). IsIn r s) e i)))));
      came = c ∙ lacking_is (without_point p old.came.keys) s (without_point p t)
          (without_ascending p old.came.keys came_ascending) (without_ascending p t are.now)
          (λ q i. (
          let r = without_from p old.came.keys q i in let f = from_came q r.0 in
          (without_true p t q f.0 r.1, f.1)))
          (λ q i n. (
          let r = without_from p t q i in without_true p old.came.keys q (to_came q r.0 n) r.1));
    }
