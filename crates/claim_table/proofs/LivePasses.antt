-- The live passes of the seats, and the board that shows them.
use Rattle.std.specs.Prelude.{◌≡◌, ◌≢◌, ◌⊎◌, ℕ, zero, suc, ◌+◌, ◌<◌, ◌==◌, Bool, true, false, cond, List, [], ◌∷◌, ◌++◌}
use Rattle.std.specs.Prelude.{map, Option, None, Some, length, slice_index_or, slice_set}
use Rattle.std.specs.List.{range_with_len}
use Rattle.std.proofs.Common.{refl, sym, ◌∙◌, ap, subst, inl, inr, arith, get_or-set_other, get_or-set_same, length-set}
use Rattle.std.proofs.Common.{ext_get_or, eqb-true, eq-eqb}
use Rattle.std.proofs.lemmas.List.{get_or-map}
use Rattle.std.proofs.lemmas.List.FromFn.{length-range_with_len, get_or-range_with_len}
use mathlib.Core.Logic.{dite}
use mathlib.Core.Option.{some, some-injective, some-ne-none}
use native.Mathlib.Decide.{ℕ_discrete}
use lib.ListN.{get_elem?, length-map}
use Rattle.list_laws.specs.Lists.{AreDistinct}
use Rattle.point_order.specs.Sets.{IsIn}
use Rattle.claim_rule.specs.Boards as board
use Rattle.claim_table.specs.declared.view.View.{View}
use Rattle.claim_table.specs.Faces.{passes_of, passes_in, view_numbered}

-- a live pass, as a board shows it
abbrev Live : Type 0
Live = board.View

-- the numbers of some passes
abbrev firsts : List Live → List ℕ
firsts l = map (λ (v : Live). v.first) l

-- ---- passes by their numbers

-- the number of one of the passes is one of theirs
pub in_firsts : (l : List Live) (v : Live) → IsIn v l → IsIn v.first (firsts l)
in_firsts [] v i = i
in_firsts (x ∷ l) v (inl e) = inl (ap (λ (u : Live). u.first) e)
in_firsts (x ∷ l) v (inr i) = inr (in_firsts l v i)

-- the pass that a number shows is one of them, with that number
pub numbered_from : (n : ℕ) (l : List Live) (v : Live) → view_numbered n l ≡ Some v → IsIn v l × (v.first ≡ n)
numbered_from n [] v e = absurd (cc e)
numbered_from n (x ∷ l) v e = by (x.first == n) refl e (numbered_from n l v)
  where
    one : ◌≡◌ {A = Option Live} (Some x) (Some v) → x ≡ v
    one e = cc

    by : (t : Bool) → (x.first == n) ≡ t → cond t (Some x) (view_numbered n l) ≡ Some v →
        (view_numbered n l ≡ Some v → IsIn v l × (v.first ≡ n)) → IsIn v (x ∷ l) × (v.first ≡ n)
    by true q e r = (inl (one e), sym (ap (λ (u : Live). u.first) (one e)) ∙ eqb-true x.first n q)
    by false q e r = let k = r e in (inr k.0, k.1)

-- where no two have one number, each is shown by its own
pub numbered_is : (l : List Live) (v : Live) → AreDistinct (firsts l) → IsIn v l → view_numbered v.first l ≡ Some v
numbered_is [] v d i = absurd i
numbered_is (x ∷ l) v d (inl e) = by (x.first == v.first) refl
  where
    by : (t : Bool) → (x.first == v.first) ≡ t → cond t (Some x) (view_numbered v.first l) ≡ Some v
    by true q = ap (λ (u : Live). Some u) e
    by false q = absurd (cc (sym q ∙ eq-eqb x.first v.first (ap (λ (u : Live). u.first) e)))
numbered_is (x ∷ l) v d (inr i) = by (x.first == v.first) refl (numbered_is l v d.1 i)
  where
    by : (t : Bool) → (x.first == v.first) ≡ t → view_numbered v.first l ≡ Some v →
        cond t (Some x) (view_numbered v.first l)
        ≡ Some v
    by true q r =
        absurd (d.0 (subst (λ (k : ℕ). IsIn k (firsts l)) (sym (eqb-true x.first v.first q)) (in_firsts l v i)))
    by false q r = r

-- two answers are one where each shows what the other does
same_answer : (o p : Option Live) → ((v : Live) → o ≡ Some v → p ≡ Some v) → ((v : Live) → p ≡ Some v → o ≡ Some v) →
    o ≡ p
same_answer None None f g = refl
same_answer None (Some v) f g = g v refl
same_answer (Some v) p f g = sym (f v refl)

-- two lists with the same passes of a number show the same one
pub same_numbered : (l m : List Live) (n : ℕ) → AreDistinct (firsts l) → AreDistinct (firsts m) →
    ((v : Live) → v.first ≡ n → IsIn v l → IsIn v m) → ((v : Live) → v.first ≡ n → IsIn v m → IsIn v l) →
    view_numbered n l ≡ view_numbered n m
same_numbered l m n d d' f g =
    same_answer (view_numbered n l) (view_numbered n m)
    (λ v e. let r = numbered_from n l v e in ap (λ (k : ℕ). view_numbered k m) (sym r.1)
    ∙ numbered_is m v d' (f v r.1 r.0))
    (λ v e. let r = numbered_from n m v e in ap (λ (k : ℕ). view_numbered k l) (sym r.1)
    ∙ numbered_is l v d (g v r.1 r.0))

-- ---- the passes of all seats

-- a pass of the first list is one of both
in_left : (l m : List Live) (v : Live) → IsIn v l → IsIn v (l ++ m)
in_left (x ∷ l) m v (inl e) = inl e
in_left (x ∷ l) m v (inr i) = inr (in_left l m v i)
in_left [] m v i = absurd i

-- and so is one of the second
in_right : (l m : List Live) (v : Live) → IsIn v m → IsIn v (l ++ m)
in_right [] m v i = i
in_right (x ∷ l) m v i = inr (in_right l m v i)

-- and one of both is of the first or the second
in_either : (l m : List Live) (v : Live) → IsIn v (l ++ m) → IsIn v l ⊎ IsIn v m
in_either [] m v i = inr i
in_either (x ∷ l) m v (inl e) = inl (inl e)
in_either (x ∷ l) m v (inr i) = elim (in_either l m v i) [
  | inl j ↦ inl (inr j)
  | inr j ↦ inr j
]

-- a seat that the pass is of
pub record IsOf (count : ℕ) (views : List View) (v : Live) : Type 0 where
  pub seat : ℕ
  pub view : View
  pub there : get_elem? views seat ≡ some view
  pub is_of : IsIn v (passes_of count view)

-- each pass of all seats is of some seat
pub passes_from : (count : ℕ) (views : List View) (v : Live) → IsIn v (passes_in count views) → IsOf count views v
passes_from count [] v i = absurd i
passes_from count (x ∷ views) v i = elim (in_either (passes_of count x) (passes_in count views) v i) [
  | inl j ↦ record { seat = 0; view = x; there = refl; is_of = j }
  | inr j ↦ (let r = passes_from count views v j in record {
    seat = suc r.seat;
    view = r.view;
    there = r.there;
    is_of = r.is_of;
  })
]

-- and each of a seat is one of all
pub passes_to : (count : ℕ) (views : List View) (j : ℕ) (x : View) (v : Live) → get_elem? views j ≡ some x →
    IsIn v (passes_of count x) → IsIn v (passes_in count views)
passes_to count [] j x v e i = absurd (some-ne-none x (sym e))
passes_to count (y ∷ views) zero x v e i =
    in_left (passes_of count y) (passes_in count views) v (subst (λ (z : View). IsIn v (passes_of count z))
    (sym (some-injective y x e)) i)
passes_to count (y ∷ views) (suc j) x v e i =
    in_right (passes_of count y) (passes_in count views) v (passes_to count views j x v e i)

-- ---- the places of a board

-- at a place of the board stands the pass with that number
pub at_place : (p : ℕ) (l : List Live) (n : ℕ) → n < p →
    slice_index_or (map (λ n. view_numbered n l) (range_with_len 0 p)) n
    None ≡ view_numbered n l
at_place p l n b =
    let c : length (range_with_len 0 p) ≡ p = length-range_with_len 0 p in
    let z : 0 + n ≡ n = omega arith in
    get_or-map (λ n. view_numbered n l) (range_with_len 0 p) n 0 None (omega arith)
    ∙ ap (λ (k : ℕ). view_numbered k l) (get_or-range_with_len 0 p n 0 b ∙ z)

-- there are as many places as parts
pub places_count : (p : ℕ) (l : List Live) → length (map (λ n. view_numbered n l) (range_with_len 0 p)) ≡ p
places_count p l = length-map (range_with_len 0 p) (λ n. view_numbered n l) ∙ length-range_with_len 0 p

-- one pass is put for another of its number, or in a place where there is none
pub place_set : (p : ℕ) (l m : List Live) (w : Live) → AreDistinct (firsts l) → AreDistinct (firsts m) → w.first < p →
    IsIn w m → ((v : Live) → v.first ≢ w.first → IsIn v l → IsIn v m) →
    ((v : Live) → v.first ≢ w.first → IsIn v m → IsIn v l)
    → map (λ n. view_numbered n m) (range_with_len 0 p)
    ≡ slice_set (map (λ n. view_numbered n l) (range_with_len 0 p)) w.first
    (Some w)
place_set p l m w d d' b i f g =
    let old = map (λ n. view_numbered n l) (range_with_len 0 p) in
    let new = map (λ n. view_numbered n m) (range_with_len 0 p) in
    let c : length old ≡ p = places_count p l in
    let c' : length new ≡ p = places_count p m in
    ext_get_or None new (slice_set old w.first (Some w)) (c' ∙ sym c ∙ sym (length-set old w.first (Some w))) (λ k h.
    dite (ℕ_discrete k w.first)
    (λ e.
    ap (λ (x : ℕ). slice_index_or new x None) e ∙ at_place p m w.first b ∙ numbered_is m w d' i
    ∙ sym (get_or-set_same old w.first (Some w) None (omega arith))
    ∙ ap (λ (x : ℕ). slice_index_or (slice_set old w.first (Some w)) x None) (sym e))
    (λ n.
    at_place p m k (omega arith)
    ∙ same_numbered m l k d' d (λ v e j. g v (λ q. n (sym e ∙ q)) j) (λ v e j. f v (λ q. n (sym e ∙ q)) j)
    ∙ sym (at_place p l k (omega arith)) ∙ sym (get_or-set_other old w.first k (Some w) None n)))

-- nothing is seen of a move of passes among seats
pub place_same : (p : ℕ) (l m : List Live) → AreDistinct (firsts l) → AreDistinct (firsts m) →
    ((v : Live) → IsIn v l → IsIn v m) → ((v : Live) → IsIn v m → IsIn v l)
    → map (λ n. view_numbered n m) (range_with_len 0 p) ≡ map (λ n. view_numbered n l) (range_with_len 0 p)
place_same p l m d d' f g =
    ext_get_or None (map (λ n. view_numbered n m) (range_with_len 0 p))
    (map (λ n. view_numbered n l) (range_with_len 0 p))
    (places_count p m ∙ sym (places_count p l)) (λ k h.
    let c = places_count p m in
    at_place p m k (omega arith) ∙ same_numbered m l k d' d (λ v e j. g v j) (λ v e j. f v j)
    ∙ sym (at_place p l k (omega arith)))
