-- Seats that are split, joined and made keep the rule.
use Rattle.std.specs.Prelude.{◌≡◌, ℕ, ◌+◌, ◌<◌, List, [], ◌∷◌, ◌++◌, length, slice_set, Option}
use Rattle.std.proofs.Common.{refl, sym, ◌∙◌, subst, inl, inr, arith}
use mathlib.Core.Option.{some, none}
use lib.ListN.{get_elem?}
use Rattle.atomic_table.specs.Table.{State, step, Splits, Joins, Enters}
use Rattle.atomic_table.proofs.Lists.{at_set, at_snoc}
use Rattle.round_table.specs.declared.view.Key.{Key}
use Rattle.round_table.specs.declared.view.Hand.{Hand}
use Rattle.round_table.specs.declared.view.View.{View}
use Rattle.round_table.specs.Counts.{tally, total, each, claims_in, claims_by, is_named}
use Rattle.round_table.specs.Rule.{Knows, IsRule, opening_view}
use Rattle.round_table.specs.Plays.{first_hand, other_hands, first_of, but_first, emptied, spent, joins, Comes}
use Rattle.round_table.proofs.Counted.{tally_append, total_append, total_set}

-- of a view's hands, the first and the others
first_and_others : (f : Hand → ℕ) (hands : List Hand) →
    tally f (other_hands hands) + tally f (first_hand hands) ≡ tally f hands
first_and_others f [] = refl
first_and_others f (h ∷ hands) = omega arith

some_of_others : (hands : List Hand) → 0 < length (other_hands hands) → 0 < length hands
some_of_others [] l = l
some_of_others (h ∷ hands) l = omega arith

some_of_first : (hands : List Hand) → 0 < length (first_hand hands) → 0 < length hands
some_of_first [] l = l
some_of_first (h ∷ hands) l = omega arith

module _ {T : Type 0} where
  -- where the hands stay, the rule holds
  views_rule : (k : Key T) (s : State (Option T) (View T)) (views : List (View T)) → IsRule k s →
      ((f : Hand → ℕ) → total f views ≡ total f s.views)
      → ((j : ℕ) (v : View T) → get_elem? views j ≡ some v → 0 < length v.hands → Knows k v) →
      IsRule k record { words = s.words; homes = s.homes; views = views }
  views_rule k s views r same knows = record {
    words = r.words;
    few = r.few;
    low = r.low;
    home = r.home;
    once = λ b. same (claims_in b) ∙ r.once b;
    whose = λ m b. same (claims_by m b) ∙ r.whose m b;
    named = λ m. same (is_named m) ∙ r.named m;
    count = same each ∙ r.count;
    knows = knows;
  }

  -- a seat gives hands to a new one
  splits_keep : (k : Key T) (id : ℕ) (v left right : View T) →
      ((f : Hand → ℕ) → tally f left.hands + tally f right.hands ≡ tally f v.hands)
      → ((0 < length v.hands → Knows k v) → 0 < length left.hands → Knows k left)
      → ((0 < length v.hands → Knows k v) → 0 < length right.hands → Knows k right) →
      Splits (IsRule k) id v left right
  splits_keep k id v left right sum on_left on_right s r at =
      views_rule k s (slice_set s.views id left ++ right ∷ []) r
      (λ f.
      let a = total_append f (slice_set s.views id left) right in
      let b = total_set f s.views id v left at in
      let c = sum f in
      omega arith)
      (λ j u e some_one. elim (at_snoc (slice_set s.views id left) right u j e) [
        | inl y ↦ elim (at_set s.views id j left u y) [
          | inl z ↦ subst (Knows k) z.1 (on_left (r.knows id v at)
              (subst (λ (x : View T). 0 < length x.hands) (sym z.1) some_one))
          | inr z ↦ r.knows j u z.1 some_one
        ]
        | inr q ↦ subst (Knows k) q (on_right (r.knows id v at)
            (subst (λ (x : View T). 0 < length x.hands) (sym q) some_one))
      ])

  pub first_splits : (k : Key T) (id : ℕ) (v : View T) → Splits (IsRule k) id v (but_first v) (first_of v)
  first_splits k id v =
      splits_keep k id v (but_first v) (first_of v) (λ f. first_and_others f v.hands)
      (λ know l. know (some_of_others v.hands l)) (λ know l. know (some_of_first v.hands l))

  pub whole_splits : (k : Key T) (id : ℕ) (v : View T) → Splits (IsRule k) id v (emptied v) v
  whole_splits k id v =
      splits_keep k id v (emptied v) v (λ f. omega arith) (λ know l. absurd (omega arith)) (λ know. know)

  abbrev no_hand : View T
  no_hand = spent

  -- a seat takes in a pass
  pub joins_keep : (k : Key T) (id : ℕ) (v : View T) (other : ℕ) (w : View T) → 0 < length w.hands →
      Joins (IsRule k) id v other w (joins v w) spent
  joins_keep k id v other w some_one s r at apart there =
      let one : List (View T) = slice_set s.views id (joins v w) in
      views_rule k s (slice_set one other spent) r
      (λ f.
      let a = total_set f one other w spent there in
      let b = total_set f s.views id v (joins v w) at in
      let c = tally_append f v.hands w.hands in
      omega arith)
      (λ j u e l. elim (at_set one other j spent u e) [
        | inl y ↦ absurd (let z : 0 < length no_hand.hands = subst (λ (x : View T). 0 < length x.hands) (sym y.1) l in
            omega arith)
        | inr y ↦ elim (at_set s.views id j (joins v w) u y.1) [
          | inl z ↦ subst (Knows k) z.1 (elim (at_set s.views id other (joins v w) w there) [
            | inl x ↦ absurd (apart x.0)
            | inr x ↦ r.knows other w x.1 some_one
          ])
          | inr z ↦ r.knows j u z.1 l
        ]
      ])

  -- a new seat stands for no pass
  pub comes_allowed : (k : Key T) (slots : ℕ) → Enters (IsRule k) slots 0
      (λ n w. Comes {T = T} (step slots 0 0 0 none) (opening_view k, []) n (w, []))
  comes_allowed k slots s r deep small = (
    spent,
    views_rule k s (s.views ++ spent ∷ []) r
        (λ f. let a = total_append f s.views no_hand in omega arith)
        (λ j u e l. elim (at_snoc s.views spent u j e) [
          | inl y ↦ r.knows j u y l
          | inr q ↦ absurd (let z : 0 < length no_hand.hands = subst (λ (x : View T). 0 < length x.hands) (sym q) l in
              omega arith)
        ]),
    refl,
  )
