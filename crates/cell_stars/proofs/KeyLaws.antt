-- Vertices with their stars.
use Rattle.std.specs.Prelude.{◌≡◌, ℕ, zero, suc, ◌<◌, ◌≤◌, ◌==◌, ◌%◌, Bool, true, false, List, [], ◌∷◌, ◌⊎◌, length}
use Rattle.std.specs.Prelude.{map, slice_index, slice_index_or, if◌then◌else◌, not, MatchBool, IsTrue}
use Rattle.std.proofs.Common.{◌+◌, take, refl, sym, ◌∙◌, ap, subst, inl, inr, arith}
use Rattle.std.proofs.lemmas.Bool.Decides.{leb_tells}
use Rattle.std.specs.List.{insert, remove}
use Rattle.list_laws.proofs.Cited.{at_place, below_each, each_none, in_more, in_take, last_one, more_one, same_from}
use Rattle.list_laws.proofs.Cited.{same_true}
use Rattle.point_order.specs.Sets.{IsIn, IsAscending, IsBelowFirst}
use Rattle.cell_stars.specs.Places.{AreFiled, IsStarredBy, part_of, star_at}
use Rattle.cell_stars.specs.Moves.{IsWritten, AreKeysAfter, AreKeysWith, AreAgreed, HasSameKeys, IsKeyed, IsKeyAfter}

-- vertices with the numbers of their stars
abbrev pub Keys : Type 0
Keys = List (ℕ × ℕ)

-- keys in parts
abbrev pub Parts : Type 0
Parts = List (List (ℕ × ℕ))

-- the vertices of keys
abbrev pub vertices : Keys → List ℕ
vertices ks = map (λ k. k.0) ks

-- the vertex of a key is one of the vertices
pub vertex_in : (ks : Keys) (k : ℕ × ℕ) → IsIn k ks → IsIn k.0 (vertices ks)
vertex_in [] k i = absurd i
vertex_in (x ∷ ks) k (inl e) = inl (ap (λ y. y.0) e)
vertex_in (x ∷ ks) k (inr i) = inr (vertex_in ks k i)

-- each vertex has one number
pub one_key : (ks : Keys) (k l : ℕ × ℕ) → IsAscending (vertices ks) → IsIn k ks → IsIn l ks → k.0 ≡ l.0 → k ≡ l
one_key [] k l a i j e = absurd i
one_key (x ∷ ks) k l a (inl p) (inl q) e = sym p ∙ q
one_key (x ∷ ks) k l a (inl p) (inr j) e = (let h = below_each x.0 (vertices ks) a.0 a.1 l.0 (vertex_in ks l j) in
    let f = ap (λ y. y.0) p in absurd (omega (arith, h, f, e)))
one_key (x ∷ ks) k l a (inr i) (inl q) e = (let h = below_each x.0 (vertices ks) a.0 a.1 k.0 (vertex_in ks k i) in
    let f = ap (λ y. y.0) q in absurd (omega (arith, h, f, e)))
one_key (x ∷ ks) k l a (inr i) (inr j) e = one_key ks k l a.1 i j e

-- where a key stands
pub key_at : (ks : Keys) (k : ℕ × ℕ) → IsIn k ks → (i : ℕ) × (i < length ks) × (slice_index (vertices ks) i ≡ k.0)
key_at [] k i = absurd i
key_at (x ∷ ks) k (inl e) = (0, omega arith, ap (λ y. y.0) e)
key_at (x ∷ ks) k (inr i) = (let r = key_at ks k i in (suc r.0, (let h = r.1 in omega (arith, h)), r.2))

-- a key at a place
pub at_key : (ks : Keys) (i : ℕ) (k : ℕ × ℕ) → i < length ks → k ≡ slice_index_or ks i k →
    IsIn k ks × (slice_index (vertices ks) i ≡ k.0)
at_key [] i k h e = absurd (omega arith)
at_key (x ∷ ks) zero k h e = (inl (sym e), ap (λ y. y.0) (sym e))
at_key (x ∷ ks) (suc i) k h e = (let r = at_key ks i k (omega arith) e in (inr r.0, r.1))

-- where a vertex belongs that has none
abbrev pub BelongsAt : Keys → ℕ → ℕ → Type 0
BelongsAt ks p i = (i ≤ length ks) × ((k : ℕ) → k < i → slice_index (vertices ks) k < p)
    × ((k : ℕ) → i ≤ k → k < length ks → p < slice_index (vertices ks) k)

-- a vertex that belongs at a place has no key
pub no_key : (ks : Keys) (p i : ℕ) → BelongsAt ks p i → (k : ℕ × ℕ) → IsIn k ks → k.0 ≡ p → ⊥
no_key ks p i b k m e =
    let t = key_at ks k m in
    elim (leb_tells i t.0) [
      | inl h ↦ (let u = b.2 t.0 h.1 t.1 in absurd (omega (arith, u, t.2, e)))
      | inr h ↦ (let u = b.1 t.0 (omega (arith, h.1)) in absurd (omega (arith, u, t.2, e)))
    ]

-- ---- the star of a vertex

-- the places in a star, where it is the vertex's own
abbrev pub owned_by : ℕ → ℕ × List ℕ → List ℕ
owned_by p s = if s.0 == p then s.1 else []

-- what is in it is in the star, which is the vertex's own
pub in_owned : (p x : ℕ) (s : ℕ × List ℕ) → IsIn x (owned_by p s) → (s.0 ≡ p) × IsIn x s.1
in_owned p x s i = by (s.0 == p) refl i
  where
    by : (b : Bool) → (s.0 == p) ≡ b → IsIn x (if b then s.1 else []) → (s.0 ≡ p) × IsIn x s.1
    by true e i = (same_from s.0 p e, i)
    by false e i = absurd i

-- and what is in a star of its own is in it
pub owned_in : (p x : ℕ) (s : ℕ × List ℕ) → s.0 ≡ p → IsIn x s.1 → IsIn x (owned_by p s)
owned_in p x s e i = rw (same_true s.0 p e) i

-- the star beside a key that was found
pub star_here : (ks : Keys) (stars : List (ℕ × List ℕ)) (p i : ℕ) (k : ℕ × ℕ) (star : List ℕ) →
    IsAscending (vertices ks) → (i < length ks) × (slice_index (vertices ks) i ≡ p) → k ≡ slice_index_or ks i k →
    star ≡ owned_by p (star_at stars k.1) →
    (x : ℕ) → (IsIn x star → IsStarredBy ks stars p x) × (IsStarredBy ks stars p x → IsIn x star)
star_here ks stars p i k star a h e f x = (there, back)
  where
    t : IsIn k ks × (slice_index (vertices ks) i ≡ k.0)
    t = at_key ks i k h.0 e

    same : k.0 ≡ p
    same = sym t.1 ∙ h.1

    there : IsIn x star → IsStarredBy ks stars p x
    there m = (let o = in_owned p x (star_at stars k.1) (subst (λ (l : List ℕ). IsIn x l) f m) in
        record { number = k.1; key = subst (λ (q : ℕ). IsIn (q, k.1) ks) same t.0; owned = o.0; listed = o.1 })

    back : IsStarredBy ks stars p x → IsIn x star
    back s =
        let q : (p, s.number) ≡ k = one_key ks (p, s.number) k a s.key t.0 (sym same) in
        let n : s.number ≡ k.1 = ap (λ y. y.1) q in
        subst (λ (l : List ℕ). IsIn x l) (sym f)
        (owned_in p x (star_at stars k.1) (ap (λ m. (star_at stars m).0) (sym n) ∙ s.owned)
        (subst (λ m. IsIn x (star_at stars m).1) n s.listed))

-- a vertex that has none
pub no_star : (ks : Keys) (stars : List (ℕ × List ℕ)) (p i : ℕ) (star : List ℕ) → BelongsAt ks p i → star ≡ [] →
    (x : ℕ) → (IsIn x star → IsStarredBy ks stars p x) × (IsStarredBy ks stars p x → IsIn x star)
no_star ks stars p i star b e x = (
  λ m. absurd (subst (λ (l : List ℕ). IsIn x l) e m),
  λ s. absurd (no_key ks p i b (p, s.number) s.key refl),
)

-- whether a star has a place
pub has_any : (s : ℕ × List ℕ) (l : List ℕ) (r : Bool) → l ≡ s.1 → r ≡ (length l == 0) →
    MatchBool (not r) ((i : ℕ) × IsIn i s.1) ((i : ℕ) → IsIn i s.1 → ⊥)
has_any s [] true e f = λ i m. subst (λ (k : List ℕ). IsIn i k) (sym e) m
has_any s (x ∷ l) true e f = (let t = same_from (length (x ∷ l)) 0 (sym f) in absurd (omega (arith, t)))
has_any s [] false e f = absurd (yes f)
  where
    yes : false ≡ true → ⊥
    yes g = cc g
has_any s (x ∷ l) false e f = (x, subst (λ (k : List ℕ). IsIn x k) e (inl refl))

-- a star that was found to have none has none
pub none_there : (s : ℕ × List ℕ) (r : Bool) → IsTrue (not r) →
    MatchBool r ((i : ℕ) × IsIn i s.1) ((i : ℕ) → IsIn i s.1 → ⊥) → (i : ℕ) → IsIn i s.1 → ⊥
none_there s true t m = absurd (yes t)
  where
    yes : false ≡ true → ⊥
    yes g = cc g
none_there s false t m = m

-- ---- a key put in or taken out

-- what stands at a place of the vertices is one of them
in_vertices : (ks : Keys) (i : ℕ) → i < length ks → IsIn (slice_index (vertices ks) i) (vertices ks)
in_vertices [] i h = absurd (omega arith)
in_vertices (x ∷ ks) zero h = inl refl
in_vertices (x ∷ ks) (suc i) h = inr (in_vertices ks i (omega arith))

-- the list without the key at a place
pub without_key : (ks new : Keys) (p i : ℕ) → IsAscending (vertices ks) →
    (i < length ks) × (slice_index (vertices ks) i ≡ p) → new ≡ remove ks i →
    IsAscending (vertices new) × ((k : ℕ × ℕ) →
    (IsIn k new → IsIn k ks × (k.0 ≡ p → ⊥)) × (IsIn k ks × (k.0 ≡ p → ⊥) → IsIn k new))
without_key ks new p i a h e = (
  subst (λ l. IsAscending (vertices l)) (sym e) (order ks i a),
  λ k. (
    λ m. there ks i k a h (subst (λ (l : Keys). IsIn k l) e m),
    λ m. subst (λ (l : Keys). IsIn k l) (sym e) (back ks i k h m),
  ),
)
  where
    below : (x : ℕ × ℕ) (ks : Keys) (i : ℕ) → IsAscending (vertices (x ∷ ks)) →
        IsBelowFirst x.0 (vertices (remove ks i))
    below x [] zero a = tt
    below x [] (suc i) a = tt
    below x (y ∷ []) zero a = tt
    below x (y ∷ z ∷ ks) zero a = (let b : x.0 < y.0 = a.0 in let d : y.0 < z.0 = a.1.0 in omega (arith, b, d))
    below x (y ∷ ks) (suc i) a = a.0

    order : (ks : Keys) (i : ℕ) → IsAscending (vertices ks) → IsAscending (vertices (remove ks i))
    order [] zero a = tt
    order [] (suc i) a = tt
    order (x ∷ ks) zero a = a.1
    order (x ∷ ks) (suc i) a = (below x ks i a, order ks i a.1)

    there : (ks : Keys) (i : ℕ) (k : ℕ × ℕ) → IsAscending (vertices ks) →
        (i < length ks) × (slice_index (vertices ks) i ≡ p) → IsIn k (remove ks i) → IsIn k ks × (k.0 ≡ p → ⊥)
    there [] zero k a h m = absurd m
    there [] (suc i) k a h m = absurd m
    there (x ∷ ks) zero k a h m = (
      inr m,
      λ q. (let b = below_each x.0 (vertices ks) a.0 a.1 k.0 (vertex_in ks k m) in
          let f = h.1 in absurd (omega (arith, b, q, f))),
    )
    there (x ∷ ks) (suc i) k a h (inl f) = (
      inl f,
      λ q. (let b = below_each x.0 (vertices ks) a.0 a.1 p
          (subst (λ v. IsIn v (vertices ks)) h.1 (in_vertices ks i (omega (arith, h.0)))) in let g = ap (λ y. y.0) f in
          absurd (omega (arith, b, q, g))),
    )
    there (x ∷ ks) (suc i) k a h (inr m) = (let r = there ks i k a.1 (omega (arith, h.0), h.1) m in (inr r.0, r.1))

    back : (ks : Keys) (i : ℕ) (k : ℕ × ℕ) → (i < length ks) × (slice_index (vertices ks) i ≡ p) →
        IsIn k ks × (k.0 ≡ p → ⊥) → IsIn k (remove ks i)
    back [] i k h m = absurd m.0
    back (x ∷ ks) zero k h (inl f, n) = absurd (n (ap (λ y. y.0) (sym f) ∙ h.1))
    back (x ∷ ks) zero k h (inr m, n) = m
    back (x ∷ ks) (suc i) k h (inl f, n) = inl f
    back (x ∷ ks) (suc i) k h (inr m, n) = inr (back ks i k (omega (arith, h.0), h.1) (m, n))

-- the list with a key more at a place
pub with_key : (ks new : Keys) (p n i : ℕ) → IsAscending (vertices ks) → BelongsAt ks p i → new ≡ insert ks i (p, n) →
    IsAscending (vertices new) × ((k : ℕ × ℕ) →
    (IsIn k new → ((p, n) ≡ k) ⊎ IsIn k ks) × (((p, n) ≡ k) ⊎ IsIn k ks → IsIn k new))
with_key ks new p n i a b e = (
  subst (λ l. IsAscending (vertices l)) (sym e) (order ks i a b),
  λ k. (
    λ m. there ks i k (subst (λ (l : Keys). IsIn k l) e m),
    λ m. subst (λ (l : Keys). IsIn k l) (sym e) (back ks i k b.0 m),
  ),
)
  where
    tail : (x : ℕ × ℕ) (ks : Keys) (i : ℕ) → BelongsAt (x ∷ ks) p (suc i) → BelongsAt ks p i
    tail x ks i b = (
      omega (arith, b.0),
      λ k h. b.1 (suc k) (omega (arith, h)),
      λ k h l. b.2 (suc k) (omega (arith, h)) (omega (arith, l)),
    )

    first : (x : ℕ × ℕ) (ks : Keys) (i : ℕ) → IsAscending (vertices (x ∷ ks)) → BelongsAt (x ∷ ks) p (suc i) →
        IsBelowFirst x.0 (vertices (insert ks i (p, n)))
    first x ks zero a b = b.1 0 (omega arith)
    first x [] (suc i) a b = absurd (let h = b.0 in omega (arith, h))
    first x (y ∷ ks) (suc i) a b = a.0

    order : (ks : Keys) (i : ℕ) → IsAscending (vertices ks) → BelongsAt ks p i →
        IsAscending (vertices (insert ks i (p, n)))
    order [] zero a b = (tt, tt)
    order [] (suc i) a b = absurd (let h = b.0 in omega (arith, h))
    order (x ∷ ks) zero a b = (b.2 0 (omega arith) (omega arith), a)
    order (x ∷ ks) (suc i) a b = (first x ks i a b, order ks i a.1 (tail x ks i b))

    there : (ks : Keys) (i : ℕ) (k : ℕ × ℕ) → IsIn k (insert ks i (p, n)) → ((p, n) ≡ k) ⊎ IsIn k ks
    there ks zero k (inl f) = inl f
    there ks zero k (inr m) = inr m
    there [] (suc i) k (inl f) = inl f
    there [] (suc i) k (inr m) = absurd m
    there (x ∷ ks) (suc i) k (inl f) = inr (inl f)
    there (x ∷ ks) (suc i) k (inr m) = elim (there ks i k m) [ inl f ↦ inl f | inr j ↦ inr (inr j) ]

    back : (ks : Keys) (i : ℕ) (k : ℕ × ℕ) → i ≤ length ks → ((p, n) ≡ k) ⊎ IsIn k ks → IsIn k (insert ks i (p, n))
    back ks zero k h (inl f) = inl f
    back ks zero k h (inr m) = inr m
    back [] (suc i) k h m = absurd (omega (arith, h))
    back (x ∷ ks) (suc i) k h (inl f) = inr (back ks i k (omega (arith, h)) (inl f))
    back (x ∷ ks) (suc i) k h (inr (inl f)) = inl f
    back (x ∷ ks) (suc i) k h (inr (inr m)) = inr (back ks i k (omega (arith, h)) (inr m))

-- one more key, where the vertex was taken out before
pub key_put : (old mid new : Keys) (p n : ℕ) →
    ((k : ℕ × ℕ) → (IsIn k mid → IsIn k old × (k.0 ≡ p → ⊥)) × (IsIn k old × (k.0 ≡ p → ⊥) → IsIn k mid)) →
    ((k : ℕ × ℕ) → (IsIn k new → ((p, n) ≡ k) ⊎ IsIn k mid) × (((p, n) ≡ k) ⊎ IsIn k mid → IsIn k new)) →
    (k : ℕ × ℕ) → (IsIn k new → ((p, n) ≡ k) ⊎ (IsIn k old × (k.0 ≡ p → ⊥)))
    × (((p, n) ≡ k) ⊎ (IsIn k old × (k.0 ≡ p → ⊥)) → IsIn k new)
key_put old mid new p n f g k = (
  λ m. elim ((g k).0 m) [ inl e ↦ inl e | inr i ↦ inr ((f k).0 i) ],
  λ m. (g k).1 (elim m [ inl e ↦ inl e | inr i ↦ inr ((f k).1 i) ]),
)

-- no key is that of a vertex that was taken out
pub taken_out : (old mid ks : Keys) (p i : ℕ) →
    ((k : ℕ × ℕ) → (IsIn k mid → IsIn k old × (k.0 ≡ p → ⊥)) × (IsIn k old × (k.0 ≡ p → ⊥) → IsIn k mid)) → ks ≡ mid →
    (i < length ks) × (slice_index (vertices ks) i ≡ p) → ⊥
taken_out old mid ks p i f e h = by (at_vertex ks i h.0) h.1
  where
    at_vertex : (ks : Keys) (i : ℕ) → i < length ks → (k : ℕ × ℕ) × IsIn k ks × (slice_index (vertices ks) i ≡ k.0)
    at_vertex [] i h = absurd (omega arith)
    at_vertex (x ∷ ks) zero h = (x, inl refl, refl)
    at_vertex (x ∷ ks) (suc i) h = (let r = at_vertex ks i (omega arith) in (r.0, inr r.1, r.2))

    by : (k : ℕ × ℕ) × IsIn k ks × (slice_index (vertices ks) i ≡ k.0) → slice_index (vertices ks) i ≡ p → ⊥
    by (k, m, q) g = ((f k).0 (subst (λ (l : Keys). IsIn k l) e m)).1 (sym q ∙ g)

-- ---- the keys after stars were written

-- two numbers are one or are not
pub same_or_not : (x y : ℕ) → (x ≡ y) ⊎ (x ≡ y → ⊥)
same_or_not x y = by (x == y) refl
  where
    by : (b : Bool) → (x == y) ≡ b → (x ≡ y) ⊎ (x ≡ y → ⊥)
    by true e = inl (same_from x y e)
    by false e = inr (λ q. (let t = same_true x y q in absurd (cc (e, t))))

-- where it has no place, its vertex goes
pub unkeyed : (old new : Keys) (n p : ℕ) (s : ℕ × List ℕ) → p ≡ s.0 → ((i : ℕ) → IsIn i s.1 → ⊥) →
    ((k : ℕ × ℕ) → (IsIn k new → IsIn k old × (k.0 ≡ p → ⊥)) × (IsIn k old × (k.0 ≡ p → ⊥) → IsIn k new)) →
    (k : ℕ × ℕ) → (IsIn k new → IsKeyAfter old n s k) × (IsKeyAfter old n s k → IsIn k new)
unkeyed old new n p s e f g k = (
  λ m. (let r = (g k).0 m in inr (r.0, λ q. r.1 (q ∙ sym e))),
  λ m. elim m [ inl q ↦ absurd (f q.1.0 q.1.1) | inr i ↦ (g k).1 (i.0, λ q. i.1 (q ∙ e)) ],
)

-- where it has one, its vertex comes
pub rekeyed : (old new : Keys) (n p : ℕ) (s : ℕ × List ℕ) → p ≡ s.0 → (i : ℕ) × IsIn i s.1 →
    ((k : ℕ × ℕ) → (IsIn k new → ((p, n) ≡ k) ⊎ (IsIn k old × (k.0 ≡ p → ⊥)))
    × (((p, n) ≡ k) ⊎ (IsIn k old × (k.0 ≡ p → ⊥)) → IsIn k new)) → (k : ℕ × ℕ) →
    (IsIn k new → IsKeyAfter old n s k) × (IsKeyAfter old n s k → IsIn k new)
rekeyed old new n p s e f g k = (
  λ m. elim ((g k).0 m) [
    | inl q ↦ inl (ap (λ (x : ℕ). (x, n)) (sym e) ∙ q, f)
    | inr r ↦ inr (
      r.0,
      λ q. r.1 (q ∙ sym e),
    )
  ],
  λ m. (g k).1 (elim m [ inl q ↦ inl (ap (λ (x : ℕ). (x, n)) e ∙ q.0) | inr i ↦ inr (i.0, λ q. i.1 (q ∙ e)) ]),
)

-- the star that a written star's key has
abbrev Writes : Type 0
Writes = List (ℕ × (ℕ × List ℕ))

-- the keys after the first writes
pub record KeysSoFar (old : Parts) (writes : Writes) (n : ℕ) (new : Parts) : Type 0 where
  pub order : AreFiled new
  pub from : (p m : ℕ) → IsIn (p, m) (part_of new p) → IsWritten (take n writes) p m
      ⊎ (IsIn (p, m) (part_of old p) × ((j : ℕ) (s : List ℕ) → IsIn (j, (p, s)) (take n writes) → ⊥))
  pub kept : (p m : ℕ) → IsIn (p, m) (part_of old p) → ((j : ℕ) (s : List ℕ) → IsIn (j, (p, s)) (take n writes) → ⊥) →
      IsIn (p, m) (part_of new p)
  pub written : (p m : ℕ) → IsWritten (take n writes) p m → IsIn (p, m) (part_of new p)

-- none of the first no stars was written
none_yet : (writes : Writes) (x : ℕ × (ℕ × List ℕ)) → IsIn x (take 0 writes) → ⊥
none_yet writes x m = each_none (λ y. ⊥) writes x m

-- before the first the keys are as they were
pub keys_begin : (old new : Parts) (writes : Writes) → HasSameKeys old new → AreFiled new → KeysSoFar old writes 0 new
keys_begin old new writes e a = record {
  order = a;
  from = λ p m i. inr ((e (p, m)).0 i, λ j s k. none_yet writes (j, (p, s)) k);
  kept = λ p m i f. (e (p, m)).1 i;
  written = λ p m q. absurd (none_yet writes (m, (p, q.places)) q.listed);
}

-- one of the first n stars is one of the first n + 1
widen : (writes : Writes) (n : ℕ) (y : ℕ × (ℕ × List ℕ)) → IsIn y (take n writes) → IsIn y (take (n + 1) writes)
widen writes n y m = subst (λ k. IsIn y (take k writes)) (one n) (more_one writes n y m)
  where
    one : (n : ℕ) → suc n ≡ n + 1
    one n = omega arith

-- and so is the one behind them
last_in : (writes : Writes) (n : ℕ) (x d : ℕ × (ℕ × List ℕ)) → n < length writes → x ≡ slice_index_or writes n d →
    IsIn x (take (n + 1) writes)
last_in writes n x d h e = subst (λ k. IsIn x (take k writes)) (one n) (last_one writes n x d h e)
  where
    one : (n : ℕ) → suc n ≡ n + 1
    one n = omega arith

-- and each of those is one or the other
one_or : (writes : Writes) (n : ℕ) (x d y : ℕ × (ℕ × List ℕ)) → n < length writes → x ≡ slice_index_or writes n d →
    IsIn y (take (n + 1) writes) → IsIn y (take n writes) ⊎ (x ≡ y)
one_or writes n x d y h e m = in_more writes n x d y h e (subst (λ k. IsIn y (take k writes)) (one n) m)
  where
    one : (n : ℕ) → n + 1 ≡ suc n
    one n = omega arith

-- with the next star written the keys are those after it
pub keys_step : (old list new : Parts) (writes : Writes) (n : ℕ) (x d : ℕ × (ℕ × List ℕ)) → AreAgreed writes →
    n < length writes → x ≡ slice_index_or writes n d → AreFiled new → AreKeysWith list x.0 x.1 new →
    KeysSoFar old writes n list → KeysSoFar old writes (n + 1) new
keys_step old list new writes n x d g h e a f s = record { order = a; from = from; kept = kept; written = written }
  where
    here : IsIn x writes
    here = at_place writes n x d h e

    from : (p m : ℕ) → IsIn (p, m) (part_of new p) → IsWritten (take (n + 1) writes) p m
        ⊎ (IsIn (p, m) (part_of old p) × ((j : ℕ) (s : List ℕ) → IsIn (j, (p, s)) (take (n + 1) writes) → ⊥))
    from p m i = elim ((f (p, m)).0 i) [
      | inl q ↦ inl (record {
        places = x.1.1;
        listed =
            subst (λ (k : ℕ × ℕ). IsIn (k.1, (k.0, x.1.1)) (take (n + 1) writes)) q.0 (last_in writes n x d h e);
        place =
            q.1.0;
        filled = q.1.1;
      })
      | inr r ↦ elim (s.from p m r.0) [
        | inl w ↦ inl (record {
          places = w.places;
          listed = widen writes n (m, (p, w.places)) w.listed;
          place =
              w.place;
          filled = w.filled;
        })
        | inr o ↦ inr (
          o.0,
          λ j t k. elim (one_or writes n x d (j, (p, t)) h e k)
              [ inl u ↦ o.1 j t u | inr q ↦ r.1 (sym (ap (λ y. y.1.0) q)) ],
        )
      ]
    ]

    kept : (p m : ℕ) → IsIn (p, m) (part_of old p) →
        ((j : ℕ) (s : List ℕ) → IsIn (j, (p, s)) (take (n + 1) writes) → ⊥) →
        IsIn (p, m) (part_of new p)
    kept p m i none = (f (p, m)).1 (inr (
      s.kept p m i (λ j t k. none j t (widen writes n (j, (p, t)) k)),
      λ q. none x.0 x.1.1 (subst (λ (v : ℕ). IsIn (x.0, (v, x.1.1)) (take (n + 1) writes)) (sym q)
          (last_in writes n x d h e)),
    ))

    written : (p m : ℕ) → IsWritten (take (n + 1) writes) p m → IsIn (p, m) (part_of new p)
    written p m w = elim (one_or writes n x d (m, (p, w.places)) h e w.listed) [
      | inl u ↦ elim (same_or_not p x.1.0) [
        | inl q ↦ (
            let r = g m x.0 p w.places x.1.1 (in_take n writes (m, (p, w.places)) u)
            (subst (λ (v : ℕ). IsIn (x.0, (v, x.1.1)) writes) (sym q) here) in
            (f (p, m)).1 (inl (
              ap (λ (v : ℕ). (v, x.0)) (sym q) ∙ ap (λ (v : ℕ). (p, v)) (sym r.0),
              (w.place, r.1 w.place w.filled),
            )))
        | inr q ↦ (f (p, m)).1 (inr (
          s.written p m
              (record { places = w.places; listed = u; place = w.place; filled = w.filled }),
          q,
        ))
      ]
      | inr q ↦ (f (p, m)).1 (inl (
        ap (λ (y : ℕ × (ℕ × List ℕ)). (y.1.0, y.0)) q,
        (w.place, subst (λ (y : ℕ × (ℕ × List ℕ)). IsIn w.place y.1.1) (sym q) w.filled),
      ))
    ]

-- at the end they are those after all
pub keys_end : (old new : Parts) (writes : Writes) (n : ℕ) → length writes ≤ n → KeysSoFar old writes n new →
    AreKeysAfter old writes new
keys_end old new writes n h s = subst (λ w. All w) (taken writes n h)
    (record { order = s.order; from = s.from; kept = s.kept; written = s.written })
  where
    All : Writes → Type 0
    All w = AreKeysAfter old w new

    taken : (w : Writes) (n : ℕ) → length w ≤ n → take n w ≡ w
    taken [] zero h = refl
    taken [] (suc n) h = refl
    taken (x ∷ w) zero h = absurd (omega arith)
    taken (x ∷ w) (suc n) h = ap (λ (l : Writes). x ∷ l) (taken w n (omega arith))

-- a vertex has a star that is written, or not
written_or_not : (writes : Writes) (p : ℕ) → ((j : ℕ) × (s : List ℕ) × IsIn (j, (p, s)) writes)
    ⊎ ((j : ℕ) (s : List ℕ) → IsIn (j, (p, s)) writes → ⊥)
written_or_not [] p = inr (λ j s m. m)
written_or_not (x ∷ w) p = elim (same_or_not x.1.0 p) [
  | inl e ↦ inl (x.0, x.1.1, inl (ap (λ (v : ℕ). (x.0, (v, x.1.1))) e))
  | inr d ↦ elim (written_or_not w p) [
    | inl r ↦ inl (r.0, r.1, inr r.2)
    | inr n ↦ inr (λ j s m. elim m [ inl q ↦ d (ap (λ y. y.1.0) q) | inr k ↦ n j s k ])
  ]
]

-- where all keys are there, they stay
pub keys_stay : (old : Parts) (writes : Writes) → AreFiled old →
    ((n : ℕ) (s : ℕ × List ℕ) → IsIn (n, s) writes → IsKeyed (part_of old s.0) n s) → AreKeysAfter old writes old
keys_stay old writes a f = record {
  order = a;
  from = from;
  kept = λ p m i none. i;
  written =
      λ p m w. (f m (p, w.places) w.listed).key;
}
  where
    from : (p n : ℕ) → IsIn (p, n) (part_of old p) → IsWritten writes p n
        ⊎ (IsIn (p, n) (part_of old p) × ((m : ℕ) (s : List ℕ) → IsIn (m, (p, s)) writes → ⊥))
    from p n i = elim (written_or_not writes p) [
      | inl r ↦ (
          let k = f r.0 (p, r.1) r.2 in
          let e : n ≡ r.0 = ap (λ y. y.1)
          (one_key (part_of old p) (p, n) (p, r.0) (a.order (p % length old)) i k.key refl) in
          inl (record {
            places = r.1;
            listed = subst (λ (m : ℕ). IsIn (m, (p, r.1)) writes) (sym e) r.2;
            place =
                k.place;
            filled = k.filled;
          }))
      | inr n ↦ inr (i, n)
    ]

-- where the next star's key was there at first, it is there yet
pub keyed_yet : (old list : Parts) (writes : Writes) (n : ℕ) (x d : ℕ × (ℕ × List ℕ)) → AreAgreed writes →
    n < length writes → x ≡ slice_index_or writes n d → KeysSoFar old writes n list →
    IsKeyed (part_of old x.1.0) x.0 x.1 → IsKeyed (part_of list x.1.0) x.0 x.1
keyed_yet old list writes n x d g h e s k = record { key = key; place = k.place; filled = k.filled }
  where
    here : IsIn x writes
    here = at_place writes n x d h e

    key : IsIn (x.1.0, x.0) (part_of list x.1.0)
    key = elim (written_or_not (take n writes) x.1.0) [
      | inl w ↦ (
          let r = g x.0 w.0 x.1.0 x.1.1 w.1 here (in_take n writes (w.0, (x.1.0, w.1)) w.2) in
          subst (λ (m : ℕ). IsIn (x.1.0, m) (part_of list x.1.0)) (sym r.0)
          (s.written x.1.0 w.0 (record { places = w.1; listed = w.2; place = k.place; filled = r.1 k.place k.filled })))
      | inr none ↦ s.kept x.1.0 x.0 k.key none
    ]
