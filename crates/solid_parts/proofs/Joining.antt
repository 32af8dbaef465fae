-- The groups of marked numbers, made one in a loop.
use Rattle.std.proofs.Common.{◌≡◌, refl, sym, subst, ◌∙◌, ℕ, ◌<◌, ◌≤◌, ◌+◌, Bool, true, false, inl, inr, List, [], ◌∷◌}
use Rattle.std.proofs.Common.{◌++◌, All, take, length, get_or}
use Rattle.std.specs.Prelude.{Option, None, Some}
use Rattle.std.proofs.lemmas.List.{take_all}
use Rattle.list_laws.specs.Lists.{IsIn}
use Rattle.list_laws.proofs.Cited.{take_next}
use Rattle.solid_parts.specs.Groups.{AreAllJoined, AreJoinedAll, IsMarkedAt, IsMerged, LeadDown, LeadTo}
use Rattle.solid_parts.proofs.Merging.{DoneSoFar, IsFirst, in_next, kept_first}
use Rattle.list_laws.proofs.Cited.{snoc_new as in_last, snoc_old as in_front, in_snoc as in_front_or_last}
use Rattle.solid_parts.proofs.Merging.{merged_next, none_done, not_marked_here, own_value, passed_over, within_front}

-- the numbers lead to labels of which the first are done
pub record IsDoneTo (marks : List Bool) (numbers labels leads : List ℕ) (first : Option ℕ) : Type 0 where
  pub now : List ℕ
  pub leads_to : LeadTo leads now
  pub done : DoneSoFar marks numbers labels now first

-- where the first numbers are done
pub record JoinSoFar (marks : List Bool) (numbers old leads : List ℕ) (first : Option ℕ) : Type 0 where
  pub count : length leads ≡ length old
  pub down : LeadDown leads
  pub is_first : IsFirst marks numbers first
  pub labels : (labels : List ℕ) → LeadTo old labels → IsDoneTo marks numbers labels leads first

-- before the first number nothing is joined
pub none_joined : (marks : List Bool) (old : List ℕ) → LeadDown old → JoinSoFar marks [] old old None
none_joined marks old d = record {
  count = refl;
  down = d;
  is_first = λ u i m. i;
  labels = λ labels t. record { now = labels; leads_to = t; done = none_done marks labels };
}

-- the number that was met first, after one more
first_over : (marks : List Bool) (numbers : List ℕ) (x : ℕ) (first : Option ℕ) → (IsMarkedAt marks x → ⊥)
    → IsFirst marks numbers first → IsFirst marks (numbers ++ x ∷ []) first
first_over marks numbers x None none never = λ u i m. elim (in_front_or_last numbers x u i) [
  | inl j ↦ never u j m
  | inr e ↦ none (subst (λ n. IsMarkedAt marks n) (sym e) m)
]
first_over marks numbers x (Some u) none some = (in_front numbers x u some.0, some.1)

module _ (marks : List Bool) (numbers old leads : List ℕ) (i : ℕ) (below : All (λ n. n < length old) numbers)
    (h : i < length numbers) where
  -- the next number
  abbrev x : ℕ
  x = get_or numbers i 0

  -- the next number is below the count
  pub next_below : x < length old
  next_below = within_front numbers (i + 1) (length old) below x (in_next numbers i h)

  -- and so are those of a front
  pub front_below : (u : ℕ) → IsIn u (take i numbers) → u < length old
  front_below u k = within_front numbers i (length old) below u k

  -- the loop's state after one number more
  next_state : (now : List ℕ) (first f : Option ℕ) → f ≡ first → length now ≡ length old → LeadDown now
      → ((labels : List ℕ) → LeadTo old labels → IsDoneTo marks (take i numbers ++ x ∷ []) labels now first)
      → IsFirst marks (take i numbers ++ x ∷ []) first → JoinSoFar marks (take (i + 1) numbers) old now f
  next_state now first f e c d labels g =
      subst (λ (v : List ℕ). JoinSoFar marks v old now f) (sym (take_next numbers i (get_or numbers i 0) h
      (own_value numbers i h)))
      (subst (JoinSoFar marks (take i numbers ++ get_or numbers i 0 ∷ []) old now) (sym e)
      (record { count = c; down = d; is_first = g; labels = labels }))

  -- a number that is not marked
  pub over : (first f : Option ℕ) (now : List ℕ) → f ≡ first → now ≡ leads → (mark : Bool) →
      mark ≡ get_or marks x false → mark ≡ false
      → JoinSoFar marks (take i numbers) old leads first → JoinSoFar marks (take (i + 1) numbers) old now f
  over first f now e g mark m n s =
      let none = not_marked_here marks (get_or numbers i 0) (sym m ∙ n) in
      subst (λ (v : List ℕ). JoinSoFar marks (take (i + 1) numbers) old v f) (sym g)
      (next_state leads first f e s.count s.down
      (λ labels t. (let r = s.labels labels t in record {
        now = r.now;
        leads_to = r.leads_to;
        done = passed_over marks (take i numbers) labels r.now first x none r.done;
      }))
      (first_over marks (take i numbers) (get_or numbers i 0) first none s.is_first))

  -- the first that is marked
  pub here : (f : Option ℕ) (now : List ℕ) → f ≡ Some x → now ≡ leads → (mark : Bool) → mark ≡ get_or marks x false →
      mark ≡ true
      → JoinSoFar marks (take i numbers) old leads None → JoinSoFar marks (take (i + 1) numbers) old now f
  here f now e g mark m n s =
      subst (λ (v : List ℕ). JoinSoFar marks (take (i + 1) numbers) old v f) (sym g)
      (next_state leads (Some x) f e s.count s.down
      (λ labels t. (let r = s.labels labels t in record {
        now = r.now;
        leads_to = r.leads_to;
        done = kept_first marks (take i numbers) labels r.now x (sym m ∙ n) r.done;
      }))
      (in_last (take i numbers) (get_or numbers i 0), sym m ∙ n))

  -- one that is merged with the first
  pub with_first : (other : ℕ) (f : Option ℕ) (now new : List ℕ) (apart : Bool) → f ≡ Some other → now ≡ new →
      (mark : Bool)
      → mark ≡ get_or marks x false → mark ≡ true → length new ≡ length leads → LeadDown new
      → ((labels : List ℕ) → LeadTo leads labels → IsMerged other x labels apart new)
      → JoinSoFar marks (take i numbers) old leads (Some other) → JoinSoFar marks (take (i + 1) numbers) old now f
  with_first other f now new apart e g mark m n c d to s =
      subst (λ (v : List ℕ). JoinSoFar marks (take (i + 1) numbers) old v f) (sym g)
      (next_state new (Some other) f e (c ∙ s.count) d
      (λ labels t. (
      let r = s.labels labels t in
      let z = to r.now r.leads_to in
      record {
        now = z.new;
        leads_to = z.leads_to;
        done = merged_next marks (take i numbers) labels r.now z.new other x
            (λ u k. subst (λ b. u < b) (sym t.count) (front_below u k))
            (subst (λ b. x < b) (sym t.count) next_below) (sym m ∙ n) r.done z.merges;
      }))
      (in_front (take i numbers) (get_or numbers i 0) other s.is_first.0, s.is_first.1))

-- the number that was met first is below the count
pub first_below : (marks : List Bool) (numbers old leads : List ℕ) (i u : ℕ) (first : Option ℕ) →
    All (λ n. n < length old) numbers
    → first ≡ Some u → JoinSoFar marks (take i numbers) old leads first → u < length leads
first_below marks numbers old leads i u first a e s =
    let f = subst (IsFirst marks (take i numbers)) e s.is_first in
    subst (λ n. u < n) (sym s.count) (within_front numbers i (length old) a u f.0)

-- what the loop leaves
pub all_joined : (marks : List Bool) (numbers old leads : List ℕ) (i : ℕ) (first : Option ℕ) → length numbers ≤ i
    → JoinSoFar marks (take i numbers) old leads first → (labels : List ℕ) → LeadTo old labels
    → AreAllJoined marks numbers labels leads
all_joined marks numbers old leads i first l s labels t =
    let r = s.labels labels t in
    record {
      new = r.now;
      leads_to = r.leads_to;
      joins = subst (λ (v : List ℕ). AreJoinedAll marks v labels r.now) (take_all i numbers l) r.done.joins;
    }
