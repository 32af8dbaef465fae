-- Keys in parts.
use Rattle.std.specs.Prelude.{◌≡◌, ℕ, zero, suc, ◌+◌, ◌*◌, ◌%◌, ◌<◌, ◌≤◌, List, [], ◌∷◌, ◌++◌, ◌⊎◌, length}
use Rattle.std.specs.Prelude.{slice_index_or, slice_set}
use Rattle.std.proofs.Common.{refl, sym, ◌∙◌, ap, subst, inl, inr, arith, take}
use Rattle.std.proofs.lemmas.List.{append-nil, append_assoc, get_or-set_same, get_or-set_other, length-append}
use Rattle.std.proofs.lemmas.List.{map-append, take_all}
use Rattle.list_laws.proofs.Cited.{at_place, distinct_ascending, each_none, from_append, in_left, in_more, in_pushed}
use Rattle.list_laws.proofs.Cited.{in_right, in_take, last_one, len_set, mapped_from, more_one, take_next}
use Rattle.list_laws.specs.Lists.{AreDistinct}
use Rattle.point_order.specs.Sets.{IsIn, IsAscending}
use Rattle.cell_stars.specs.Places.{Placed, AreFiled, AreStars, all_keys, part_at, part_of}
use Rattle.cell_stars.specs.Plans.{AreBelow, set_all}
use Rattle.cell_stars.specs.Moves.{AreKeysOf, AreKeysWith, HaveOneKey, HasSameKeys, IsKeyAfter}
use Rattle.cell_stars.proofs.Planned.{len_all}
use Rattle.cell_stars.proofs.KeyLaws.{Keys, Parts, one_key, same_or_not, vertices}

-- is one of all
pub in_all : (ks : Parts) (n : ℕ) (k : ℕ × ℕ) → IsIn k (part_at ks n) → IsIn k (all_keys ks)
unfolding all_keys
in_all [] n k m = absurd m
in_all (l ∷ ks) zero k m = in_left k l (all_keys ks) m
in_all (l ∷ ks) (suc n) k m = in_right k l (all_keys ks) (in_all ks n k m)

-- and each of all stands in some
in_some : (ks : Parts) (k : ℕ × ℕ) → IsIn k (all_keys ks) → (n : ℕ) × IsIn k (part_at ks n)
unfolding all_keys
in_some [] k m = absurd m
in_some (l ∷ ks) k m = elim (from_append k l (all_keys ks) m) [
  | inl i ↦ (zero, i)
  | inr i ↦ (let r = in_some ks k i in (suc r.0, r.1))
]

-- a part is no longer than all
pub part_short : (ks : Parts) (n : ℕ) → length (part_at ks n) ≤ length (all_keys ks)
unfolding all_keys
part_short [] n = omega arith
part_short (l ∷ ks) zero = (let e = length-append l (all_keys ks) in omega (arith, e))
part_short (l ∷ ks) (suc n) = (let e = length-append l (all_keys ks) in let h = part_short ks n in omega (arith, e, h))

-- so a search in one costs no more than in all
pub part_cost : (ks : Parts) (p n : ℕ) (l : Keys) → l ≡ part_of ks p → n ≤ 2 * length l + 1 →
    n ≤ 2 * length (all_keys ks) + 1
part_cost ks p n l e h =
    let short = part_short ks (p % length ks) in
    let same : length l ≡ length (part_at ks (p % length ks)) = ap length e in
    omega (arith, short, same, h)

-- each key that is filed stands in the part of its vertex
pub in_own : (ks : Parts) → AreFiled ks → (k : ℕ × ℕ) → IsIn k (all_keys ks) → IsIn k (part_of ks k.0)
in_own ks f k m = (let r = in_some ks k m in subst (λ (n : ℕ). IsIn k (part_at ks n)) (f.own r.0 k r.1) r.1)

-- so keys that are filed have each vertex once
pub filed_once : (ks : Parts) → AreFiled ks → HaveOneKey (all_keys ks)
filed_once ks f k m i j e = one_key (part_of ks k.0) k m (f.order (k.0 % length ks)) (in_own ks f k i)
    (subst (λ (p : ℕ). IsIn m (part_of ks p)) (sym e) (in_own ks f m j)) e

-- the keys of the part of a vertex ascend
pub part_ascends : (ks : Parts) (p : ℕ) (l : Keys) → AreFiled ks → l ≡ part_of ks p → IsAscending (vertices l)
part_ascends ks p l f e = subst (λ (v : Keys). IsAscending (vertices v)) (sym e) (f.order (p % length ks))

-- the same of a bucket that is this one
pub filed_in : (b d : Placed) → b ≡ d → AreStars b → AreFiled d.keys
filed_in b d e s = subst (λ (v : Placed). AreFiled v.keys) e s.order

-- no parts have no keys
no_keys : all_keys [] ≡ []
unfolding all_keys
no_keys = refl

-- the keys of the first part and of the others
first_part : (l : Keys) (ks : Parts) → all_keys (l ∷ ks) ≡ l ++ all_keys ks
unfolding all_keys
first_part l ks = refl

-- all keys of one part more
all_more : (ls : Parts) (x : Keys) → all_keys (ls ++ x ∷ []) ≡ all_keys ls ++ x
unfolding all_keys
all_more [] x = append-nil x
all_more (l ∷ ls) x = ap (λ (v : Keys). l ++ v) (all_more ls x) ∙ sym (append_assoc l (all_keys ls) x)

-- one more part is joined
pub joined_more : (ks : Parts) (n : ℕ) (x l new : Keys) → n < length ks → x ≡ slice_index_or ks n x →
    l ≡ all_keys (take n ks) → new ≡ l ++ x → new ≡ all_keys (take (n + 1) ks)
joined_more ks n x l new h e f g =
    g ∙ ap (λ (v : Keys). v ++ x) f ∙ sym (all_more (take n ks) x) ∙ ap all_keys (sym (take_next ks n x h e))

-- before the first there are none
pub joined_none : (ks : Parts) (l : Keys) → l ≡ [] → l ≡ all_keys (take 0 ks)
joined_none ks l e = e ∙ by ks
  where
    none : all_keys [] ≡ []
    none = no_keys

    by : (ks : Parts) → [] ≡ all_keys (take 0 ks)
    by [] = sym none
    by (k ∷ ks) = sym none

-- ---- no vertex has two keys

-- lists without a common member, joined
apart_joined : (l m : List ℕ) → AreDistinct l → AreDistinct m → ((x : ℕ) → IsIn x l → IsIn x m → ⊥) →
    AreDistinct (l ++ m)
apart_joined [] m d e f = e
apart_joined (y ∷ l) m d e f = (
  λ i. elim (from_append y l m i) [ inl j ↦ d.0 j | inr j ↦ f y (inl refl) j ],
  apart_joined l m d.1 e (λ x i j. f x (inr i) j),
)

-- the same of parts whose numbers begin at s
apart_from : (c s : ℕ) (ls : Parts) → ((n : ℕ) → IsAscending (vertices (part_at ls n))) →
    ((n : ℕ) (k : ℕ × ℕ) → IsIn k (part_at ls n) → n + s ≡ k.0 % c) → AreDistinct (vertices (all_keys ls))
apart_from c s [] a f = subst (λ (v : Keys). AreDistinct (vertices v)) (sym no_keys) tt
apart_from c s (l ∷ ls) a f =
    subst AreDistinct (sym (ap vertices (first_part l ls) ∙ map-append (λ (k : ℕ × ℕ). k.0) l (all_keys ls)))
    (apart_joined (vertices l) (vertices (all_keys ls)) (distinct_ascending (vertices l) (a 0))
    (apart_from c (suc s) ls (λ n. a (suc n)) (λ n k i. (let e = f (suc n) k i in omega (arith, e)))) apart)
  where
    apart : (x : ℕ) → IsIn x (vertices l) → IsIn x (vertices (all_keys ls)) → ⊥
    apart x i j =
        let k = mapped_from (λ (y : ℕ × ℕ). y.0) x l i in
        let m = mapped_from (λ (y : ℕ × ℕ). y.0) x (all_keys ls) j in
        let t = in_some ls m.0 m.1 in
        let e = f 0 k.0 k.1 in
        let g = f (suc t.0) m.0 t.1 in
        let q : k.0.0 % c ≡ m.0.0 % c = ap (λ (y : ℕ). y % c) (k.2 ∙ sym m.2) in
        absurd (omega (arith, e, g, q))

-- so each vertex stands once in keys that are filed
pub keys_apart : (ks : Parts) → AreFiled ks → AreDistinct (vertices (all_keys ks))
keys_apart ks f = apart_from (length ks) 0 ks f.order (λ n k i. (let e = f.own n k i in omega (arith, e)))

-- ---- one part that changes

-- it stands at its number
pub part_same : (ks : Parts) (n : ℕ) (l : Keys) → n < length ks → part_at (slice_set ks n l) n ≡ l
part_same ks n l h = get_or-set_same ks n l [] h

-- and the others as before
pub part_other : (ks : Parts) (n m : ℕ) (l : Keys) → (m ≡ n → ⊥) → part_at (slice_set ks n l) m ≡ part_at ks m
part_other ks n m l f = get_or-set_other ks n m l [] f

-- with a part of keys that belong there, in order, the keys are filed
pub filed_set : (ks : Parts) (n : ℕ) (l : Keys) → AreFiled ks → n < length ks → IsAscending (vertices l) →
    ((k : ℕ × ℕ) → IsIn k l → n ≡ k.0 % length ks) → AreFiled (slice_set ks n l)
filed_set ks n l f h a b = record { order = order; own = own }
  where
    order : (m : ℕ) → IsAscending (vertices (part_at (slice_set ks n l) m))
    order m = elim (same_or_not m n) [
      | inl e ↦ subst (λ (i : ℕ). IsAscending (vertices (part_at (slice_set ks n l) i))) (sym e)
          (subst (λ (v : Keys). IsAscending (vertices v)) (sym (part_same ks n l h)) a)
      | inr d ↦ subst (λ (v : Keys). IsAscending (vertices v)) (sym (part_other ks n m l d)) (f.order m)
    ]

    own : (m : ℕ) (k : ℕ × ℕ) → IsIn k (part_at (slice_set ks n l) m) → m ≡ k.0 % length (slice_set ks n l)
    own m k i = elim (same_or_not m n) [
      | inl e ↦ (
          let j = subst (λ (v : Keys). IsIn k v) (part_same ks n l h)
          (subst (λ (i : ℕ). IsIn k (part_at (slice_set ks n l) i)) e i) in
          e ∙ b k j ∙ ap (λ c. k.0 % c) (sym (len_set ks n l)))
      | inr d ↦ (
          let j = subst (λ (v : Keys). IsIn k v) (part_other ks n m l d) i in
          f.own m k j ∙ ap (λ c. k.0 % c) (sym (len_set ks n l)))
    ]

-- the part of a vertex that belongs there is the new one
own_part : (ks : Parts) (n p : ℕ) (l : Keys) → n < length ks → n ≡ p % length ks → part_of (slice_set ks n l) p ≡ l
own_part ks n p l h e = ap (λ c. part_at (slice_set ks n l) (p % c)) (len_set ks n l)
    ∙ ap (part_at (slice_set ks n l)) (sym e) ∙ part_same ks n l h

-- and that of another vertex as before
other_part : (ks : Parts) (n p : ℕ) (l : Keys) → (p % length ks ≡ n → ⊥) → part_of (slice_set ks n l) p ≡ part_of ks p
other_part ks n p l d = ap (λ c. part_at (slice_set ks n l) (p % c)) (len_set ks n l)
    ∙ part_other ks n (p % length ks) l d

-- ---- a key that is filed

-- one vertex gets its key
pub filed_more : (ks : Parts) (n p m : ℕ) (l : Keys) → AreFiled ks → n < length ks → n ≡ p % length ks →
    IsAscending (vertices l) →
    ((k : ℕ × ℕ) → (IsIn k l → ((p, m) ≡ k) ⊎ (IsIn k (part_at ks n) × (k.0 ≡ p → ⊥)))
    × (((p, m) ≡ k) ⊎ (IsIn k (part_at ks n) × (k.0 ≡ p → ⊥)) → IsIn k l)) →
    AreFiled (slice_set ks n l) × ((k : ℕ × ℕ) →
    (IsIn k (part_of (slice_set ks n l) k.0) → ((p, m) ≡ k) ⊎ (IsIn k (part_of ks k.0) × (k.0 ≡ p → ⊥)))
    × (((p, m) ≡ k) ⊎ (IsIn k (part_of ks k.0) × (k.0 ≡ p → ⊥)) → IsIn k (part_of (slice_set ks n l) k.0)))
filed_more ks n p m l f h e a g = (filed_set ks n l f h a belongs, λ k. (there k, back k))
  where
    belongs : (k : ℕ × ℕ) → IsIn k l → n ≡ k.0 % length ks
    belongs k i = elim ((g k).0 i) [
      | inl q ↦ e ∙ ap (λ (y : ℕ × ℕ). y.0 % length ks) q
      | inr r ↦ f.own n k r.0
    ]

    there : (k : ℕ × ℕ) → IsIn k (part_of (slice_set ks n l) k.0) →
        ((p, m) ≡ k) ⊎ (IsIn k (part_of ks k.0) × (k.0 ≡ p → ⊥))
    there k i = elim (same_or_not (k.0 % length ks) n) [
      | inl q ↦ elim ((g k).0 (subst (λ (v : Keys). IsIn k v) (own_part ks n k.0 l h (sym q)) i)) [
        | inl s ↦ inl s
        | inr r ↦ inr (subst (λ (y : ℕ). IsIn k (part_at ks y)) (sym q) r.0, r.1)
      ]
      | inr d ↦ inr (
        subst (λ (v : Keys). IsIn k v) (other_part ks n k.0 l d) i,
        λ s. d (ap (λ (y : ℕ). y % length ks) s ∙ sym e),
      )
    ]

    back : (k : ℕ × ℕ) → ((p, m) ≡ k) ⊎ (IsIn k (part_of ks k.0) × (k.0 ≡ p → ⊥)) →
        IsIn k (part_of (slice_set ks n l) k.0)
    back k i = elim (same_or_not (k.0 % length ks) n) [
      | inl q ↦ subst (λ (v : Keys). IsIn k v) (sym (own_part ks n k.0 l h (sym q))) ((g k).1 (elim i [
        | inl s ↦ inl s
        | inr r ↦ inr (subst (λ (y : ℕ). IsIn k (part_at ks y)) q r.0, r.1)
      ]))
      | inr d ↦ subst (λ (v : Keys). IsIn k v) (sym (other_part ks n k.0 l d)) (elim i [
        | inl s ↦ absurd (d (ap (λ (y : ℕ × ℕ). y.0 % length ks) (sym s) ∙ sym e))
        | inr r ↦ r.0
      ])
    ]

-- the same where a star is written: its vertex gets its key, or loses it
pub filed_with : (ks : Parts) (n m : ℕ) (s : ℕ × List ℕ) (l : Keys) → AreFiled ks → n < length ks →
    n ≡ s.0 % length ks → IsAscending (vertices l) →
    ((k : ℕ × ℕ) → (IsIn k l → IsKeyAfter (part_at ks n) m s k) × (IsKeyAfter (part_at ks n) m s k → IsIn k l)) →
    AreFiled (slice_set ks n l) × AreKeysWith ks m s (slice_set ks n l)
filed_with ks n m s l f h e a g = (filed_set ks n l f h a belongs, λ k. (there k, back k))
  where
    belongs : (k : ℕ × ℕ) → IsIn k l → n ≡ k.0 % length ks
    belongs k i = elim ((g k).0 i) [
      | inl q ↦ e ∙ ap (λ (y : ℕ × ℕ). y.0 % length ks) q.0
      | inr r ↦ f.own n k r.0
    ]

    there : (k : ℕ × ℕ) → IsIn k (part_of (slice_set ks n l) k.0) → IsKeyAfter (part_of ks k.0) m s k
    there k i = elim (same_or_not (k.0 % length ks) n) [
      | inl q ↦ elim ((g k).0 (subst (λ (v : Keys). IsIn k v) (own_part ks n k.0 l h (sym q)) i)) [
        | inl t ↦ inl t
        | inr r ↦ inr (subst (λ (y : ℕ). IsIn k (part_at ks y)) (sym q) r.0, r.1)
      ]
      | inr d ↦ inr (
        subst (λ (v : Keys). IsIn k v) (other_part ks n k.0 l d) i,
        λ t. d (ap (λ (y : ℕ). y % length ks) t ∙ sym e),
      )
    ]

    back : (k : ℕ × ℕ) → IsKeyAfter (part_of ks k.0) m s k → IsIn k (part_of (slice_set ks n l) k.0)
    back k i = elim (same_or_not (k.0 % length ks) n) [
      | inl q ↦ subst (λ (v : Keys). IsIn k v) (sym (own_part ks n k.0 l h (sym q))) ((g k).1 (elim i [
        | inl t ↦ inl t
        | inr r ↦ inr (subst (λ (y : ℕ). IsIn k (part_at ks y)) q r.0, r.1)
      ]))
      | inr d ↦ subst (λ (v : Keys). IsIn k v) (sym (other_part ks n k.0 l d)) (elim i [
        | inl t ↦ absurd (d (ap (λ (y : ℕ × ℕ). y.0 % length ks) (sym t.0) ∙ sym e))
        | inr r ↦ r.0
      ])
    ]

-- where the star's key is there, all keys stay
pub filed_same : (ks : Parts) (n : ℕ) (s : ℕ × List ℕ) → AreFiled ks → IsIn (s.0, n) (part_of ks s.0) →
    (i : ℕ) × IsIn i s.1 → AreKeysWith ks n s ks
filed_same ks n s f j h k = (
  λ m. elim (same_or_not k.0 s.0) [
    | inl e ↦ inl (
      one_key (part_of ks s.0) (s.0, n) k (f.order (s.0 % length ks)) j
          (subst (λ (p : ℕ). IsIn k (part_of ks p)) e m) (sym e),
      h,
    )
    | inr d ↦ inr (m, d)
  ],
  λ m. elim m [ inl e ↦ subst (λ (x : ℕ × ℕ). IsIn x (part_of ks x.0)) e.0 j | inr i ↦ i.0 ],
)

-- ---- all keys that are filed

-- The first n keys are filed in so many parts.
pub record FiledSoFar (l : Keys) (count n : ℕ) (ks : Parts) : Type 0 where
  pub filed : AreFiled ks
  pub count_is : length ks ≡ count
  pub from : (k : ℕ × ℕ) → IsIn k (part_of ks k.0) → IsIn k (take n l)
  pub there : (k : ℕ × ℕ) → IsIn k (take n l) → IsIn k (part_of ks k.0)

-- where no part has a key, none is filed yet
pub filed_begin : (l : Keys) (count : ℕ) (ks : Parts) → AreFiled ks → length ks ≡ count →
    ((k : ℕ × ℕ) → IsIn k (part_of ks k.0) → ⊥) → FiledSoFar l count 0 ks
filed_begin l count ks f e n = record {
  filed = f;
  count_is = e;
  from = λ k m. absurd (n k m);
  there = λ k m. absurd (each_none (λ y. ⊥) l k m);
}

-- the next one is filed too
pub filed_step : (l : Keys) (count n : ℕ) (x d : ℕ × ℕ) (ks new : Parts) → HaveOneKey l → n < length l →
    x ≡ slice_index_or l n d → AreFiled new → length new ≡ length ks →
    ((k : ℕ × ℕ) → (IsIn k (part_of new k.0) → (x ≡ k) ⊎ (IsIn k (part_of ks k.0) × (k.0 ≡ x.0 → ⊥)))
    × ((x ≡ k) ⊎ (IsIn k (part_of ks k.0) × (k.0 ≡ x.0 → ⊥)) → IsIn k (part_of new k.0))) →
    FiledSoFar l count n ks → FiledSoFar l count (n + 1) new
filed_step l count n x d ks new once h e f c g s = record {
  filed = f;
  count_is = c ∙ s.count_is;
  from = from;
  there = there;
}
  where
    one : n + 1 ≡ suc n
    one = omega arith

    from : (k : ℕ × ℕ) → IsIn k (part_of new k.0) → IsIn k (take (n + 1) l)
    from k m = subst (λ (i : ℕ). IsIn k (take i l)) (sym one) (elim ((g k).0 m) [
      | inl q ↦ subst (λ (y : ℕ × ℕ). IsIn y (take (suc n) l)) q (last_one l n x d h e)
      | inr r ↦ more_one l n k (s.from k r.0)
    ])

    there : (k : ℕ × ℕ) → IsIn k (take (n + 1) l) → IsIn k (part_of new k.0)
    there k m = elim (in_more l n x d k h e (subst (λ (i : ℕ). IsIn k (take i l)) one m)) [
      | inl i ↦ elim (same_or_not k.0 x.0) [
        | inl q ↦ (g k).1 (inl (once x k (at_place l n x d h e) (in_take n l k i) (sym q)))
        | inr o ↦ (g k).1 (inr (s.there k i, o))
      ]
      | inr q ↦ (g k).1 (inl q)
    ]

-- at the end all are
pub filed_all : (l : Keys) (count n : ℕ) (ks : Parts) → length l ≤ n → FiledSoFar l count n ks → AreKeysOf l ks
filed_all l count n ks h s k = (
  λ m. in_take n l k (s.from k m),
  λ m. s.there k (subst (λ (v : Keys). IsIn k v) (sym (take_all n l h)) m),
)

-- keys that are filed anew are the same
pub filed_anew : (old new : Parts) → AreFiled old → AreKeysOf (all_keys old) new → HasSameKeys old new
filed_anew old new f g k = (
  λ m. in_own old f k ((g k).0 m),
  λ m. (g k).1 (in_all old (k.0 % length old) k m),
)

-- parts without keys are filed
pub filed_bare : (ks : Parts) → ((l : Keys) → IsIn l ks → l ≡ []) →
    AreFiled ks × ((k : ℕ × ℕ) → IsIn k (part_of ks k.0) → ⊥)
filed_bare ks f = (
  record {
    order = λ m. subst (λ (l : Keys). IsAscending (vertices l)) (sym (bare ks m f)) tt;
    own = λ m k i. absurd (subst (λ (l : Keys). IsIn k l) (bare ks m f) i);
  },
  λ k i. subst (λ (l : Keys). IsIn k l) (bare ks (k.0 % length ks) f) i,
)
  where
    bare : (ks : Parts) (m : ℕ) → ((l : Keys) → IsIn l ks → l ≡ []) → part_at ks m ≡ []
    bare [] m f = refl
    bare (l ∷ ks) zero f = f l (inl refl)
    bare (l ∷ ks) (suc m) f = bare ks m (λ v i. f v (inr i))

-- ---- changes of parts

-- one more change
pub set_more : {X : Type 0} (cs ds : List (ℕ × X)) (c : ℕ × X) (l : List X) → ds ≡ cs ++ c ∷ [] →
    set_all ds l ≡ slice_set (set_all cs l) c.0 c.1
set_more {X = X} cs ds c l e = ap (λ v. set_all v l) e ∙ by cs l
  where
    by : (cs : List (ℕ × X)) (l : List X) → set_all (cs ++ c ∷ []) l ≡ slice_set (set_all cs l) c.0 c.1
    by [] l = refl
    by (x ∷ cs) l = by cs (slice_set l x.0 x.1)

-- it is below too
pub below_more : {X : Type 0} (n : ℕ) (cs ds : List (ℕ × X)) (c : ℕ × X) → ds ≡ cs ++ c ∷ [] → AreBelow n cs →
    c.0 < n → AreBelow n ds
below_more {X = X} n cs ds c e b h = subst (AreBelow n) (sym e) (by cs b)
  where
    by : (cs : List (ℕ × X)) → AreBelow n cs → AreBelow n (cs ++ c ∷ [])
    by [] b = (h, tt)
    by (x ∷ cs) b = (b.0, by cs b.1)

-- after the next change the part with the number is as that says
pub part_next : (cs : List (ℕ × Keys)) (l : Parts) (i n : ℕ) (c : ℕ × Keys) (x y : Keys) → i < length cs →
    n < length l → c ≡ slice_index_or cs i c → x ≡ part_at (set_all (take i cs) l) n → (c.0 ≡ n → y ≡ c.1) →
    ((c.0 ≡ n → ⊥) → y ≡ x) → y ≡ part_at (set_all (take (i + 1) cs) l) n
part_next cs l i n c x y h j e f g o =
    elim (same_or_not n c.0) [
      | inl q ↦ g (sym q) ∙ sym (part_same old c.0 c.1 (subst (λ (v : ℕ). v < length old) q within))
          ∙ ap (part_at (slice_set old c.0 c.1)) (sym q) ∙ ap (λ (v : Parts). part_at v n) (sym made)
      | inr d ↦ o (λ q. d (sym q)) ∙ f ∙ sym (part_other old c.0 n c.1 d) ∙ ap (λ (v : Parts). part_at v n) (sym made)
    ]
  where
    old : Parts
    old = set_all (take i cs) l

    within : n < length old
    within = (let q = len_all (take i cs) l in omega (arith, j, q))

    made : set_all (take (i + 1) cs) l ≡ slice_set old c.0 c.1
    made = set_more (take i cs) (take (i + 1) cs) c l (take_next cs i c h e)

-- a part that is read
pub part_read : (ks : Parts) (n : ℕ) (l : Keys) → l ≡ slice_index_or ks n l → n < length ks → part_at ks n ≡ l
part_read [] n l e h = absurd (omega arith)
part_read (k ∷ ks) zero l e h = sym e
part_read (k ∷ ks) (suc n) l e h = part_read ks n l e (omega arith)

-- one more part without keys
pub bare_more : (n : ℕ) (ks new : Parts) (l : Keys) → new ≡ ks ++ l ∷ [] → l ≡ [] →
    (length ks ≡ n) × ((v : Keys) → IsIn v ks → v ≡ []) → (length new ≡ n + 1) × ((v : Keys) → IsIn v new → v ≡ [])
bare_more n ks new l e f s = (
  ap length e ∙ length-append ks (l ∷ []) ∙ ap (λ k. k + 1) s.0,
  λ v m. elim (in_pushed ks new l v e m) [ inl k ↦ s.1 v k | inr q ↦ subst (λ (u : Keys). u ≡ []) q f ],
)

-- one more change, of the part of a star that is written
pub change_more : (base : Parts) (cs ds : List (ℕ × Keys)) (at n m : ℕ) (s : ℕ × List ℕ) (part made : Keys) →
    ds ≡ cs ++ (at, made) ∷ [] → at ≡ n → n ≡ s.0 % length base → n < length base → AreBelow (length base) cs →
    AreFiled (set_all cs base) → part ≡ part_at (set_all cs base) n → IsAscending (vertices made) →
    ((k : ℕ × ℕ) → (IsIn k made → IsKeyAfter part m s k) × (IsKeyAfter part m s k → IsIn k made)) →
    AreBelow (length base) ds × AreFiled (set_all ds base) × AreKeysWith (set_all cs base) m s (set_all ds base)
change_more base cs ds at n m s part made e a q h b f r o g = (
  below_more (length base) cs ds (at, made) e b (omega (arith, a, h)),
  subst AreFiled (sym set) both.0,
  subst (λ (v : Parts). AreKeysWith old m s v) (sym set) both.1,
)
  where
    old : Parts
    old = set_all cs base

    set : set_all ds base ≡ slice_set old n made
    set = set_more cs ds (at, made) base e ∙ ap (λ (i : ℕ). slice_set old i made) a

    long : length old ≡ length base
    long = len_all cs base

    both : AreFiled (slice_set old n made) × AreKeysWith old m s (slice_set old n made)
    both = filed_with old n m s made f (omega (arith, h, long)) (q ∙ ap (λ c. s.0 % c) (sym long)) o
        (subst (λ (v : Keys). (k : ℕ × ℕ) → (IsIn k made → IsKeyAfter v m s k)
        × (IsKeyAfter v m s k → IsIn k made)) r g)

-- keys that ascend have each vertex once
pub ascend_once : (ks : Keys) → IsAscending (vertices ks) → HaveOneKey ks
ascend_once ks a k m i j e = one_key ks k m a i j e
