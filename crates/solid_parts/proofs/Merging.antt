-- Groups that are merged.
use Rattle.std.proofs.Common.{◌≡◌, refl, sym, subst, ap, ◌∙◌, ℕ, zero, suc, ◌<◌, ◌+◌, inl, inr, Bool, true, false, List}
use Rattle.std.proofs.Common.{[], ◌∷◌, ◌++◌, All, take, length, get_or, arith}
use Rattle.std.specs.Prelude.{◌⊎◌, ◌==◌, Option, None, Some, if◌then◌else◌}
use Rattle.std.proofs.lemmas.Bool.Decides.{nat_tests}
use Rattle.std.proofs.lemmas.List.{length-map}
use Rattle.list_laws.specs.Lists.{IsIn}
use Rattle.list_laws.proofs.Cited.{each_of_all, in_take, take_next}
use Rattle.solid_parts.specs.Groups.{AreJoinedAll, AreMerged, AreTogether, IsMarkedAt, MeetsMarked, label_at, merged}
use Rattle.solid_parts.specs.Groups.{moved}
use Rattle.list_laws.proofs.Cited.{in_snoc as in_front_or_last, snoc_old as in_front, snoc_new as in_last}

-- ---- one merge

-- the label of a number afterwards
pub label_moved : (from to : ℕ) (labels : List ℕ) (i : ℕ) → i < length labels →
    label_at (merged from to labels) i ≡ moved from to (label_at labels i)
label_moved from to [] i l = absurd (omega (arith, l))
label_moved from to (x ∷ labels) zero l = refl
label_moved from to (x ∷ labels) (suc i) l = label_moved from to labels i (omega (arith, l))

-- what the one label becomes, and what another does
pub moved_is : (from to : ℕ) → moved from to from ≡ to
moved_is from to = let e : (from == from) ≡ true = grind (arith, nat_tests) in rw e refl

-- the other stays
pub moved_to : (from to : ℕ) → moved from to to ≡ to
moved_to from to = by (to == from) refl
  where
    by : (b : Bool) → (to == from) ≡ b → (if b then to else to) ≡ to
    by true e = refl
    by false e = refl

-- labels that become one were one, or both are the two
moved_same : (from to l m : ℕ) → moved from to l ≡ moved from to m → (l ≡ m) ⊎
    (((l ≡ from) ⊎ (l ≡ to)) × ((m ≡ from) ⊎ (m ≡ to)))
moved_same from to l m = by (l == from) (m == from) refl refl
  where
    equal : (n : ℕ) → (n == from) ≡ true → n ≡ from
    equal n e = grind (arith, nat_tests)

    by : (a b : Bool) → (l == from) ≡ a → (m == from) ≡ b → (if a then to else l) ≡ (if b then to else m) → (l ≡ m) ⊎
        (((l ≡ from) ⊎ (l ≡ to)) × ((m ≡ from) ⊎ (m ≡ to)))
    by true true e f g = inl (equal l e ∙ sym (equal m f))
    by true false e f g = inr (inl (equal l e), inr (sym g))
    by false true e f g = inr (inr g, inl (equal m f))
    by false false e f g = inl g

-- a label becomes the other, or stays
moved_is_one : (from to l : ℕ) → (moved from to l ≡ to) ⊎ (moved from to l ≡ l)
moved_is_one from to l = by (l == from)
  where
    by : (b : Bool) → ((if b then to else l) ≡ to) ⊎ ((if b then to else l) ≡ l)
    by true = inl refl
    by false = inr refl

-- What a merge of the groups of u and v does to two numbers.
pub record Merges (u v : ℕ) (old new : List ℕ) : Type 0 where
  pub count : length new ≡ length old
  pub kept : (i j : ℕ) → i < length old → j < length old → AreTogether old i j → AreTogether new i j
  pub both : u < length old → v < length old → AreTogether new u v
  pub only : (i j : ℕ) → i < length old → j < length old → AreTogether new i j
      → AreTogether old i j ⊎ ((AreTogether old i u ⊎ AreTogether old i v) ×
      (AreTogether old j u ⊎ AreTogether old j v))
  pub among : u < length old → v < length old → (i : ℕ) → i < length old → (j : ℕ) × (j < length old) ×
      (label_at new i ≡ label_at old j)

-- a merge of the first label into the second merges the groups
one_way : (u v : ℕ) (old : List ℕ) → Merges u v old (merged (label_at old u) (label_at old v) old)
one_way u v old =
    let from = label_at old u in
    let to = label_at old v in
    record {
      count = length-map old (moved from to);
      kept = λ i j h k e. label_moved from to old i h ∙ ap (moved from to) e ∙ sym (label_moved from to old j k);
      both = λ h k. label_moved from to old u h ∙ moved_is from to ∙ sym (moved_to from to) ∙ sym
          (label_moved from to old v k);
      only = λ i j h k e. moved_same from to (label_at old i) (label_at old j)
          (sym (label_moved from to old i h) ∙ e ∙ label_moved from to old j k);
      among = λ h k i l. elim (moved_is_one from to (label_at old i)) [
        | inl e ↦ (v, k, label_moved from to old i l ∙ e)
        | inr e ↦ (i, l, label_moved from to old i l ∙ e)
      ];
    }

-- one of two, told the other way
swapped : {A B : Type 0} → A ⊎ B → B ⊎ A
swapped (inl a) = inr a
swapped (inr b) = inl b

-- a merge does not depend on which is named first
other_way : (u v : ℕ) (old new : List ℕ) → Merges v u old new → Merges u v old new
other_way u v old new m = record {
  count = m.count;
  kept = m.kept;
  both = λ h k. sym (m.both k h);
  only = λ i j h k e. elim (m.only i j h k e) [ inl s ↦ inl s | inr t ↦ inr (swapped t.0, swapped t.1) ];
  among = λ h k. m.among k h;
}

-- so either way the groups are merged
pub merges : (u v : ℕ) (old new : List ℕ) → AreMerged u v old new → Merges u v old new
merges u v old new (inl e) = subst (λ (w : List ℕ). Merges u v old w) (sym e) (one_way u v old)
merges u v old new (inr e) = subst (λ (w : List ℕ). Merges u v old w) (sym e) (other_way u v old _ (one_way v u old))

-- ---- the marked numbers of a list

-- the marked number that was met first, if any was
abbrev pub IsFirst : List Bool → List ℕ → Option ℕ → Type 0
IsFirst marks numbers None = (u : ℕ) → IsIn u numbers → IsMarkedAt marks u → ⊥
IsFirst marks numbers (Some u) = IsIn u numbers × IsMarkedAt marks u

-- where the first i numbers are done
pub record DoneSoFar (marks : List Bool) (numbers old now : List ℕ) (first : Option ℕ) : Type 0 where
  pub is_first : IsFirst marks numbers first
  pub joins : AreJoinedAll marks numbers old now

-- nothing is done yet
pub none_done : (marks : List Bool) (old : List ℕ) → DoneSoFar marks [] old old None
none_done marks old = record {
  is_first = λ u i m. i;
  joins = record {
    count = refl;
    kept = λ i j h k e. e;
    joined = λ u v i. absurd i;
    only = λ i j h k e. inl e;
    among =
        λ i h. (i, h, refl);
  };
}

-- what a marked number of the list reaches, one of the longer does
reaches_more : (old : List ℕ) (marks : List Bool) (numbers : List ℕ) (x i : ℕ) → MeetsMarked old marks numbers i →
    MeetsMarked old marks (numbers ++ x ∷ []) i
reaches_more old marks numbers x i r = (r.0, in_front numbers x r.0 r.1, r.2, r.3)

-- a number that is not marked is passed over
pub passed_over : (marks : List Bool) (numbers old now : List ℕ) (first : Option ℕ) (x : ℕ) → (IsMarkedAt marks x → ⊥) →
    DoneSoFar marks numbers old now first → DoneSoFar marks (numbers ++ x ∷ []) old now first
passed_over marks numbers old now first x none d = record {
  is_first = still first d.is_first;
  joins = record {
    count = d.joins.count;
    kept = d.joins.kept;
    joined = λ u v i j m n. d.joins.joined u v (before u i m) (before v j n) m n;
    only = λ i j h k e. elim (d.joins.only i j h k e) [
      | inl s ↦ inl s
      | inr t ↦ inr
          (reaches_more old marks numbers x i t.0, reaches_more old marks numbers x j t.1)
    ];
    among = d.joins.among;
  };
}
  where
    before : (u : ℕ) → IsIn u (numbers ++ x ∷ []) → IsMarkedAt marks u → IsIn u numbers
    before u i m = elim (in_front_or_last numbers x u i) [
      | inl j ↦ j
      | inr e ↦ absurd
          (none (subst (λ n. IsMarkedAt marks n) (sym e) m))
    ]

    still : (f : Option ℕ) → IsFirst marks numbers f → IsFirst marks (numbers ++ x ∷ []) f
    still None never = λ u i m. never u (before u i m) m
    still (Some u) some = (in_front numbers x u some.0, some.1)

-- the first that is marked is kept
pub kept_first : (marks : List Bool) (numbers old now : List ℕ) (x : ℕ) → IsMarkedAt marks x →
    DoneSoFar marks numbers old now None → DoneSoFar marks (numbers ++ x ∷ []) old now (Some x)
kept_first marks numbers old now x mark d = record {
  is_first = (in_last numbers x, mark);
  joins = record {
    count = d.joins.count;
    kept = d.joins.kept;
    joined = λ u v i j m n. ap (label_at now) (sym (itself u i m) ∙ itself v j n);
    only = λ i j h k e. elim (d.joins.only i j h k e) [
      | inl s ↦ inl s
      | inr t ↦ inr
          (reaches_more old marks numbers x i t.0, reaches_more old marks numbers x j t.1)
    ];
    among = d.joins.among;
  };
}
  where
    itself : (u : ℕ) → IsIn u (numbers ++ x ∷ []) → IsMarkedAt marks u → x ≡ u
    itself u i m = elim (in_front_or_last numbers x u i) [ inl j ↦ absurd (d.is_first u j m) | inr e ↦ e ]

-- one that is marked is merged with the first
pub merged_next : (marks : List Bool) (numbers old now new : List ℕ) (f x : ℕ) →
    ((u : ℕ) → IsIn u numbers → u < length old) → x < length old → IsMarkedAt marks x →
    DoneSoFar marks numbers old now (Some f) → AreMerged f x now new
    → DoneSoFar marks (numbers ++ x ∷ []) old new (Some f)
merged_next marks numbers old now new f x within inside mark d e = record {
  is_first = (in_front numbers x f d.is_first.0, d.is_first.1);
  joins = record {
    count = m.count ∙ d.joins.count;
    kept = λ i j h k t. m.kept i j (up i h) (up j k) (d.joins.kept i j h k t);
    joined = λ u v i j p q. with_first u i p ∙ sym (with_first v j q);
    only = λ i j h k t. elim (m.only i j (up i h) (up j k) t) [
      | inl s ↦ elim (d.joins.only i j h k s) [
        | inl r ↦ inl r
        | inr r ↦ inr
            (reaches_more old marks numbers x i r.0, reaches_more old marks numbers x j r.1)
      ]
      | inr s ↦ inr (reached i h s.0, reached j k s.1)
    ];
    among = λ i h.
        let a = m.among (up f first_in) (up x inside) i (up i h) in
        let b = d.joins.among a.0 (subst (λ n. a.0 < n) d.joins.count a.1) in
        (b.0, b.1, a.2 ∙ b.2);
  };
}
  where
    m : Merges f x now new
    m = merges f x now new e

    up : (i : ℕ) → i < length old → i < length now
    up i h = subst (λ n. i < n) (sym d.joins.count) h

    first_in : f < length old
    first_in = within f d.is_first.0

    with_first : (u : ℕ) → IsIn u (numbers ++ x ∷ []) → IsMarkedAt marks u → AreTogether new u f
    with_first u i p = elim (in_front_or_last numbers x u i) [
      | inl j ↦ m.kept u f (up u (within u j)) (up f first_in) (d.joins.joined u f j d.is_first.0 p d.is_first.1)
      | inr g ↦ subst (λ n. AreTogether new n f) g (sym (m.both (up f first_in) (up x inside)))
    ]

    to_first : (i : ℕ) → i < length old → AreTogether now i f → MeetsMarked old marks (numbers ++ x ∷ []) i
    to_first i h t = elim (d.joins.only i f h first_in t) [
      | inl s ↦ (f, in_front numbers x f d.is_first.0, d.is_first.1, s)
      | inr r ↦ reaches_more old marks numbers x i r.0
    ]

    to_last : (i : ℕ) → i < length old → AreTogether now i x → MeetsMarked old marks (numbers ++ x ∷ []) i
    to_last i h t = elim (d.joins.only i x h inside t) [
      | inl s ↦ (x, in_last numbers x, mark, s)
      | inr r ↦ reaches_more old marks numbers x i r.0
    ]

    reached : (i : ℕ) → i < length old → AreTogether now i f ⊎ AreTogether now i x →
        MeetsMarked old marks (numbers ++ x ∷ []) i
    reached i h (inl t) = to_first i h t
    reached i h (inr t) = to_last i h t

-- ---- as the loop tells it

-- a number at its place, whatever stands for a missing one
pub own_value : (xs : List ℕ) (j : ℕ) → j < length xs → get_or xs j 0 ≡ get_or xs j (get_or xs j 0)
own_value [] j h = absurd (omega (arith, h))
own_value (x ∷ xs) zero h = refl
own_value (x ∷ xs) (suc j) h = own_value xs j (omega (arith, h))

-- the next number is among those up to it
pub in_next : (numbers : List ℕ) (i : ℕ) → i < length numbers → IsIn (get_or numbers i 0) (take (i + 1) numbers)
in_next numbers i l = subst (λ (v : List ℕ). IsIn (get_or numbers i 0) v)
    (sym (take_next numbers i (get_or numbers i 0) l (own_value numbers i l)))
    (in_last (take i numbers) (get_or numbers i 0))

-- numbers of a front are below what all are below
pub within_front : (numbers : List ℕ) (i n : ℕ) → All (λ m. m < n) numbers → (u : ℕ) → IsIn u (take i numbers) → u < n
within_front numbers i n a u k = each_of_all (λ m. m < n) numbers a u (in_take i numbers u k)

-- a number that is not marked
pub not_marked_here : (marks : List Bool) (x : ℕ) → get_or marks x false ≡ false → IsMarkedAt marks x → ⊥
not_marked_here marks x e m = cc
