-- A split: the load that makes the child is the event, and the child's move into a seat of its own is seen by nobody.
use Rattle.std.specs.Prelude.{◌≡◌, ◌≢◌, ℕ, zero, suc, ◌+◌, ◌-◌, ◌<◌, ◌≤◌, List, [], ◌∷◌, ◌++◌, replicate, drop, None}
use Rattle.std.specs.Prelude.{Some, length, slice_index_or, slice_set}
use Rattle.std.proofs.Common.{refl, sym, ◌∙◌, ap, subst, inl, inr, arith}
use Rattle.std.proofs.lemmas.List.{append_assoc}
use mathlib.Core.Logic.{dite}
use mathlib.Core.Option.{some, some-injective, some-ne-none}
use native.Mathlib.Decide.{ℕ_discrete}
use lib.ListN.{get_elem?}
use Rattle.atomic_table.proofs.Lists.{at_set, set_else, at_longer, at_snoc, at_last}
use Rattle.list_laws.specs.Lists.{AreDistinct}
use Rattle.list_laws.proofs.Cited.{distinct_with}
use Rattle.point_order.specs.Sets.{IsIn}
use Rattle.claim_rule.specs.Events.{split_of, split_off}
use Rattle.claim_table.specs.declared.view.Key.{Key}
use Rattle.claim_table.specs.declared.view.View.{View}
use Rattle.claim_table.specs.declared.view.Child.{Child}
use Rattle.claim_table.specs.Faces.{buckets_of, plain, plain_child, passes_of, passes_in, board_of}
use Rattle.claim_table.specs.Plays.{splits, seated, without_child}
use Rattle.claim_table.proofs.LivePasses.{passes_from, passes_to, place_set, place_same}
use Rattle.claim_table.proofs.Boarded.{Table, Live, firsts, firsts_append, alone, with_child, others_to, others_from}
use Rattle.claim_table.proofs.Boarded.{set_at, views_set}

-- ---- numbers that differ

-- where a seat comes to have one pass more, its number stands between those of the others
pub record Between (before after : List ℕ) (x : ℕ) : Type 0 where
  pub front : List ℕ
  pub back : List ℕ
  pub was : before ≡ front ++ back
  pub is : after ≡ front ++ x ∷ back

-- where a seat with one pass comes to have another one too, that one's number comes in between
pub one_more : (count : ℕ) (views : List View) (id : ℕ) (v w : View) (n x : ℕ) → get_elem? views id ≡ some v →
    firsts (passes_of count v) ≡ n ∷ [] → firsts (passes_of count w) ≡ n ∷ x ∷ [] →
    Between (firsts (passes_in count views)) (firsts (passes_in count (slice_set views id w))) x
one_more count [] id v w n x at e f = absurd (some-ne-none v (sym at))
one_more count (y ∷ views) zero v w n x at e f = record {
  front = n ∷ [];
  back = firsts (passes_in count views);
  was = firsts_append (passes_of count y) (passes_in count views)
      ∙ ap (λ (l : List ℕ). l ++ firsts (passes_in count views))
      (ap (λ (u : View). firsts (passes_of count u)) (some-injective y v at) ∙ e);
  is = firsts_append (passes_of count w) (passes_in count views)
      ∙ ap (λ (l : List ℕ). l ++ firsts (passes_in count views)) f;
}
one_more count (y ∷ views) (suc id) v w n x at e f =
    let r = one_more count views id v w n x at e f in
    let p = firsts (passes_of count y) in
    record {
      front = p ++ r.front;
      back = r.back;
      was = firsts_append (passes_of count y) (passes_in count views) ∙ ap (λ (l : List ℕ). p ++ l) r.was
          ∙ sym (append_assoc p r.front r.back);
      is = firsts_append (passes_of count y) (passes_in count (slice_set views id w)) ∙ ap (λ (l : List ℕ). p ++ l) r.is
          ∙ sym (append_assoc p r.front (x ∷ r.back));
    }

-- ---- the load

-- The load of a split, which finds the ticket, is the event on the board.
pub split_is_event : (k : Key) (s : Table) (id parts left : ℕ) (v : View) →
    AreDistinct (firsts (passes_in (buckets_of k) s.views)) → get_elem? s.views id ≡ some v → v.child ≡ None →
    0 < parts → parts < v.parts → v.first + v.parts ≤ k.parts
    → ¬ (IsIn (v.first + (v.parts - parts)) (firsts (passes_in (buckets_of k) s.views))) →
    length (drop 1 s.words) ≡ buckets_of k
    → board_of k record {
      words = s.words;
      homes = s.homes;
      views =
          slice_set s.views id (splits v parts left (slice_index_or s.words 0 0));
    } ≡ split_of (board_of k s) (plain v) parts
    left
split_is_event k s id parts left v d at lone some_parts fewer inside free wide =
    let count = buckets_of k in
    let old = board_of k s in
    let found : ℕ = slice_index_or s.words 0 0 in
    let m : ℕ = v.first + (v.parts - parts) in
    let w : View = splits v parts left found in
    let w0 : View = without_child w in
    let c : Live = split_off old (plain v) parts left in
    let child : Child = record {
      first = m;
      parts = parts;
      left = left;
      seen = found;
      made = Rattle.claim_table.specs.Lists.entries_by m parts v.made;
    } in
    let is_c : plain_child count child ≡ c = ap (λ (n : ℕ). record {
      first = m;
      parts = parts;
      left = left;
      seen = found;
      since = found;
      held = replicate n None;
    }) (sym wide) in
    let views1 : List View = slice_set s.views id w0 in
    let views2 : List View = slice_set s.views id w in
    let is_v : passes_of count v ≡ plain v ∷ [] = alone count v (omega arith) lone in
    let is_w0 : passes_of count w0 ≡ plain w0 ∷ [] = alone count w0 (omega arith) refl in
    let is_w : passes_of count w ≡ plain w0 ∷ plain_child count child ∷ [] =
    with_child count w child (omega arith) refl in
    let first = views_set k s id v w0 d at (omega arith) (omega arith) lone refl refl (omega arith) in
    let between = one_more count s.views id v w v.first m at (ap firsts is_v) (ap firsts is_w) in
    let d2 : AreDistinct (firsts (passes_in count views2)) = subst (λ (l : List ℕ). AreDistinct l) (sym between.is)
    (distinct_with between.front between.back m (subst (λ (l : List ℕ). AreDistinct l) between.was d)
    (λ i. free (subst (λ (l : List ℕ). IsIn m l) (sym between.was) i))) in
    let same1 : firsts (passes_in count views1) ≡ firsts (passes_in count s.views) =
    Rattle.claim_table.proofs.Boarded.same_firsts count s.views id v w0 at
    (ap firsts is_w0 ∙ sym (ap firsts is_v)) in
    let d1 : AreDistinct (firsts (passes_in count views1)) = subst (λ (l : List ℕ). AreDistinct l) (sym same1) d in
    let here1 : get_elem? views1 id ≡ some w0 = set_at s.views id v w0 at in
    let here2 : get_elem? views2 id ≡ some w = set_at s.views id v w at in
    let forth : (u : Live) → IsIn u (passes_in count views1) → IsIn u (passes_in count views2) = λ u i.
    let r = passes_from count views1 u i in
    dite (ℕ_discrete r.seat id)
    (λ e. let q : r.view ≡ w0 = some-injective r.view w0 (sym r.there ∙ ap (get_elem? views1) e ∙ here1) in
    let j : IsIn u (plain w0 ∷ []) = subst (λ (l : List Live). IsIn u l) (ap (passes_of count) q ∙ is_w0) r.is_of in
    passes_to count views2 id w u here2 (subst (λ (l : List Live). IsIn u l) (sym is_w) (elim j [
      | inl x ↦ inl x
      | inr x ↦ absurd x
    ])))
    (λ n. passes_to count views2 r.seat r.view u (set_else s.views id r.seat w n ∙ sym (set_else s.views id r.seat w0 n)
    ∙ r.there) r.is_of) in
    let back : (u : Live) → u.first ≢ m → IsIn u (passes_in count views2) → IsIn u (passes_in count views1) = λ u a i.
    let r = passes_from count views2 u i in
    dite (ℕ_discrete r.seat id)
    (λ e. let q : r.view ≡ w = some-injective r.view w (sym r.there ∙ ap (get_elem? views2) e ∙ here2) in
    let j : IsIn u (plain w0 ∷ plain_child count child ∷ []) =
    subst (λ (l : List Live). IsIn u l) (ap (passes_of count) q ∙ is_w) r.is_of in
    passes_to count views1 id w0 u here1 (subst (λ (l : List Live). IsIn u l) (sym is_w0) (elim j [
      | inl x ↦ inl x
      | inr x ↦ elim x [
        | inl y ↦ absurd (a (ap (λ (z : Live). z.first) (sym y)))
        | inr y ↦ absurd y
      ]
    ])))
    (λ n. passes_to count views1 r.seat r.view u (set_else s.views id r.seat w0 n ∙ sym (set_else s.views id r.seat w n)
    ∙ r.there) r.is_of) in
    let second = place_set k.parts (passes_in count views1) (passes_in count views2) (plain_child count child) d1 d2
    (omega arith)
    (passes_to count views2 id w (plain_child count child) here2
    (subst (λ (l : List Live). IsIn (plain_child count child) l) (sym is_w) (inr (inl refl))))
    (λ u a i. forth u i) back in
    let views = second ∙ (λ i. slice_set (first i) m (Some (is_c i))) in
    λ i. record old { views = views i }

-- ---- the seat

-- The child moves into a seat of its own, and the board is as before.
pub seating_is_unseen : (k : Key) (s : Table) (id : ℕ) (w : View) (c : Child) →
    AreDistinct (firsts (passes_in (buckets_of k) s.views)) → get_elem? s.views id ≡ some w → w.child ≡ Some c →
    0 < w.parts → 0 < c.parts → length w.held ≡ buckets_of k
    → AreDistinct (firsts (passes_in (buckets_of k) (slice_set s.views id (without_child w) ++ seated w c ∷ [])))
    → board_of k record {
      words = s.words;
      homes = s.homes;
      views = slice_set s.views id (without_child w) ++ seated w c
          ∷ [];
    } ≡ board_of k s
seating_is_unseen k s id w c d at has some_part some_part' wide d' =
    let count = buckets_of k in
    let old = board_of k s in
    let w0 : View = without_child w in
    let o : View = seated w c in
    let cut : List View = slice_set s.views id w0 in
    let views : List View = cut ++ o ∷ [] in
    let is_w : passes_of count w ≡ plain w ∷ plain_child count c ∷ [] = with_child count w c some_part has in
    let is_w0 : passes_of count w0 ≡ plain w ∷ [] = alone count w0 some_part refl in
    let is_o : passes_of count o ≡ plain_child count c ∷ [] = alone count o some_part' refl
    ∙ (λ i. record {
      first = c.first;
      parts = c.parts;
      left = c.left;
      seen = c.seen;
      since = c.seen;
      held = replicate (wide i) None;
    } ∷ []) in
    let here : get_elem? cut id ≡ some w0 = set_at s.views id w w0 at in
    let last : get_elem? views (length cut) ≡ some o = at_last cut o (length cut) refl in
    let forth : (u : Live) → IsIn u (passes_in count s.views) → IsIn u (passes_in count views) = λ u i.
    let r = passes_from count s.views u i in
    dite (ℕ_discrete r.seat id)
    (λ e. let q : r.view ≡ w = some-injective r.view w (sym r.there ∙ ap (get_elem? s.views) e ∙ at) in
    elim (subst (λ (l : List Live). IsIn u l) (ap (passes_of count) q ∙ is_w) r.is_of) [
      | inl x ↦ passes_to count views id w0 u (at_longer cut (o ∷ []) id w0 here)
          (subst (λ (l : List Live). IsIn u l) (sym is_w0) (inl x))
      | inr x ↦ elim x [
        | inl y ↦ passes_to count views (length cut) o u last (subst (λ (l : List Live). IsIn u l) (sym is_o) (inl y))
        | inr y ↦ absurd y
      ]
    ])
    (λ n. passes_to count views r.seat r.view u (at_longer cut (o ∷ []) r.seat r.view
    (set_else s.views id r.seat w0 n ∙ r.there)) r.is_of) in
    let of_o : (u : Live) → IsIn u (passes_of count o) → IsIn u (passes_in count s.views) =
    λ u i. elim (subst (λ (l : List Live). IsIn u l) is_o i) [
      | inl y ↦ passes_to count s.views id w u at (subst (λ (l : List Live). IsIn u l) (sym is_w) (inr (inl y)))
      | inr y ↦ absurd y
    ] in
    let back : (u : Live) → IsIn u (passes_in count views) → IsIn u (passes_in count s.views) = λ u i.
    let r = passes_from count views u i in
    elim (at_snoc cut o r.view r.seat r.there) [
      | inl e ↦ elim (at_set s.views id r.seat w0 r.view e) [
        | inl x ↦ elim (subst (λ (l : List Live). IsIn u l) (ap (passes_of count) (sym x.1) ∙ is_w0) r.is_of) [
          | inl y ↦ passes_to count s.views id w u at (subst (λ (l : List Live). IsIn u l) (sym is_w) (inl y))
          | inr y ↦ absurd y
        ]
        | inr x ↦ passes_to count s.views r.seat r.view u x.1 r.is_of
      ]
      | inr e ↦ of_o u (subst (λ (x : View). IsIn u (passes_of count x)) (sym e) r.is_of)
    ] in
    let same = place_same k.parts (passes_in count s.views) (passes_in count views) d d' forth back in
    λ i. record old { views = same i }
