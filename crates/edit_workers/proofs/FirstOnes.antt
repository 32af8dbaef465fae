-- Lists of pairs with one pair more.
use Rattle.std.specs.Prelude.{◌≡◌, ◌⊎◌, ℕ, ◌+◌, ◌≤◌, Bool, true, false, not, List, [], ◌∷◌, ◌++◌, map, length}
use Rattle.std.specs.Prelude.{if◌then◌else◌}
use Rattle.std.specs.List.{filter}
use Rattle.std.proofs.Common.{refl, sym, ◌∙◌, ap, inl, inr, arith}
use Rattle.std.proofs.lemmas.Bool.{false≢true}
use Rattle.std.proofs.lemmas.List.{append-nil, map-append}
use Rattle.std.proofs.lemmas.List.Elements.{filter-append}
use Rattle.list_laws.proofs.Cited.{any_true, filtered_true, later_append, later_pairs, left_true, mapped_true, one_true}
use Rattle.list_laws.proofs.Cited.{pairs_later, right_true}
use Rattle.point_order.specs.Sets.{IsIn}
use Rattle.edit_history.specs.Edits.{share_point}
use Rattle.plain_laws.specs.Running.{Pair}
use Rattle.edit_workers.specs.Working.{Marked, left_over, LeavesLater, first_ones, pairs_done}
use Rattle.edit_workers.specs.Trying.{shares_with}

-- ---- how many share no point with an earlier one

-- a pair that shares a point with some pair does so with these and one more
with_more : (y : Pair) (seen l : List Pair) (x : Pair) →
    (shares_with x.1 seen ≡ true) ⊎ (shares_with x.1 (y ∷ l) ≡ true) →
    (shares_with x.1 (y ∷ seen) ≡ true) ⊎ (shares_with x.1 l ≡ true)
with_more y seen l x (inl e) = inl (right_true (share_point y.1 x.1) (shares_with x.1 seen) e)
with_more y seen l x (inr e) = elim (one_true (share_point y.1 x.1) (shares_with x.1 l) e) [
  | inl f ↦ inl (left_true (share_point y.1 x.1) (shares_with x.1 seen) f)
  | inr f ↦ inr f
]

-- a pair that shares a point with one that was seen, or with an earlier one, is none of them
pub first_same : (seen l : List Pair) (x : Pair) →
    (shares_with x.1 seen ≡ true) ⊎ (shares_with x.1 l ≡ true) → first_ones seen (l ++ x ∷ []) ≡ first_ones seen l
first_same seen [] x (inl e) = rw e refl
first_same seen [] x (inr e) = absurd (false≢true e)
first_same seen (y ∷ l) x c =
    ap (λ (n : ℕ). if shares_with y.1 seen then n else n + 1) (first_same (y ∷ seen) l x (with_more y seen l x c))

-- one pair more is one more at most
pub first_more : (seen l : List Pair) (x : Pair) → first_ones seen (l ++ x ∷ []) ≤ first_ones seen l + 1
first_more seen [] x = by (shares_with x.1 seen)
  where
    by : (b : Bool) → (if b then 0 else 0 + 1) ≤ 0 + 1
    by true = omega arith
    by false = omega arith
first_more seen (y ∷ l) x = by (shares_with y.1 seen) (first_more (y ∷ seen) l x)
  where
    by : (b : Bool) → first_ones (y ∷ seen) (l ++ x ∷ []) ≤ first_ones (y ∷ seen) l + 1 →
        (if b then first_ones (y ∷ seen) (l ++ x ∷ []) else first_ones (y ∷ seen) (l ++ x ∷ []) + 1) ≤
        (if b then first_ones (y ∷ seen) l else first_ones (y ∷ seen) l + 1) + 1
    by true h = h
    by false h = omega (arith, h)

-- ---- what is left over, and what is done

-- a pair more that is left over is the last of these
pub left_more : (l : List Marked) (x : Pair) → left_over (l ++ (true, x) ∷ []) ≡ left_over l ++ x ∷ []
left_more l x =
    ap (map (λ (m : Marked). m.1)) (filter-append (λ (m : Marked). m.0) l ((true, x) ∷ []))
    ∙ map-append (λ (m : Marked). m.1) (filter (λ (m : Marked). m.0) l) ((true, x) ∷ [])

-- and leaves what is done
pub done_same : (l : List Marked) (x : Pair) → pairs_done (l ++ (true, x) ∷ []) ≡ pairs_done l
done_same l x =
    ap (map (λ (m : Marked). m.1)) (filter-append (λ (m : Marked). not m.0) l ((true, x) ∷ [])
    ∙ append-nil (filter (λ (m : Marked). not m.0) l))

-- a pair more that is done leaves what is left over
pub left_same : (l : List Marked) (x : Pair) → left_over (l ++ (false, x) ∷ []) ≡ left_over l
left_same l x =
    ap (map (λ (m : Marked). m.1)) (filter-append (λ (m : Marked). m.0) l ((false, x) ∷ [])
    ∙ append-nil (filter (λ (m : Marked). m.0) l))

-- and is the last that is done
pub done_more : (l : List Marked) (x : Pair) → pairs_done (l ++ (false, x) ∷ []) ≡ pairs_done l ++ x ∷ []
done_more l x =
    ap (map (λ (m : Marked). m.1)) (filter-append (λ (m : Marked). not m.0) l ((false, x) ∷ []))
    ∙ map-append (λ (m : Marked). m.1) (filter (λ (m : Marked). not m.0) l) ((false, x) ∷ [])

-- pairs that are all left over
abbrev pub all_left : List Pair → List Marked
all_left l = map (λ x. (true, x)) l

-- without their marks they are the pairs
pub all_parted : (l : List Pair) → map (λ (m : Marked). m.1) (all_left l) ≡ l
all_parted [] = refl
all_parted (x ∷ l) = ap (λ (t : List Pair). x ∷ t) (all_parted l)

-- with such pairs behind it a list has done what it had
pub none_done : (l : List Marked) (r : List Pair) → pairs_done (l ++ all_left r) ≡ pairs_done l
none_done l r =
    ap (map (λ (m : Marked). m.1)) (filter-append (λ (m : Marked). not m.0) l (all_left r)
    ∙ ap (λ (t : List Marked). filter (λ (m : Marked). not m.0) l ++ t) (empty r)
    ∙ append-nil (filter (λ (m : Marked). not m.0) l))
  where
    empty : (r : List Pair) → filter (λ (m : Marked). not m.0) (all_left r) ≡ []
    empty [] = refl
    empty (x ∷ r) = empty r

-- no more are done than there are
pub done_few : (l : List Marked) → length (pairs_done l) ≤ length l
done_few [] = omega arith
done_few (m ∷ l) = by m.0 (done_few l)
  where
    by : (b : Bool) → length (pairs_done l) ≤ length l → length (map (λ (m : Marked). m.1)
        (if not b then m ∷ filter (λ (m : Marked). not m.0) l else filter (λ (m : Marked). not m.0) l)) ≤ length (m ∷ l)
    by true h = omega (arith, h)
    by false h = omega (arith, h)

-- what a pair does to a later one
abbrev Leaves : Marked → Marked → Type 0
Leaves x y = x.0 ≡ true → share_point x.1.1 y.1.1 ≡ true → y.0 ≡ true

-- what follows one left over is left over, with one more where that holds of it
pub later_more : (l : List Marked) (m : Marked) → LeavesLater l →
    (shares_with m.1.1 (left_over l) ≡ true → m.0 ≡ true) → LeavesLater (l ++ m ∷ [])
later_more l m h f =
    later_pairs Leaves (l ++ m ∷ [])
    (later_append Leaves l (m ∷ []) (pairs_later Leaves l h) ((λ y i. absurd i), tt) across)
  where
    across : (x y : Marked) → IsIn x l → IsIn y (m ∷ []) → Leaves x y
    across x y i (inl e) t q =
        let among = mapped_true (λ (z : Marked). z.1) x (filter (λ (z : Marked). z.0) l)
        (filtered_true (λ (z : Marked). z.0) l x i t) in
        let shared : share_point x.1.1 m.1.1 ≡ true = ap (λ (z : Marked). share_point x.1.1 z.1.1) e ∙ q in
        sym (ap (λ (z : Marked). z.0) e)
        ∙ f (any_true (λ (z : Pair). share_point z.1 m.1.1) (left_over l) x.1 among shared)
    across x y i (inr j) t q = absurd j
