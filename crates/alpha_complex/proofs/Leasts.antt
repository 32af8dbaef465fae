-- The least alphas of tests that are put together.
use Rattle.std.proofs.Common.{◌≡◌, refl, sym, subst, ap, ◌∙◌, ℕ, zero, suc, ◌<◌, ◌+◌, ◌^◌, min, max, Bool, true, false}
use Rattle.std.proofs.Common.{List, [], ◌∷◌, ◌++◌, map, drop, length, get_or, arith, nat_le, take, append-nil}
use Rattle.std.specs.Prelude.{map, not, ◌&&◌, ◌||◌}
use Rattle.std.specs.List.{AllZip, filter, flat_map, list_all, list_any}
use Rattle.std.proofs.lemmas.Bool.Decides.{nat_tests}
use Rattle.std.proofs.lemmas.List.{drop_all, drop_more, ext_get_or, get_or-map, length-map, take_all}
use Rattle.std.proofs.lemmas.List.Elements.{filter-append}
use Rattle.std.proofs.lemmas.List.Folds.{list_all-append}
use Rattle.std.proofs.Math.Bool.{and-true, and_assoc, or-false, or_assoc}
use Rattle.point_order.specs.declared.cell.Cell.{Cell}
use Rattle.point_order.specs.declared.cell.Facet.{Facet}
use Rattle.point_order.specs.Facets.{points_of}
use Rattle.point_order.specs.Sets.{is_among}
use Rattle.gabriel_faces.specs.Gabriel.{is_gabriel}
use Rattle.gabriel_faces.specs.Links.{link_of}
use Rattle.small_spheres.specs.Inside.{is_inside_edge, is_inside_triangle}
use Rattle.alpha_complex.specs.Leasts.{IsLeastOf}

-- ---- two numbers

-- the lesser of two numbers is at most alpha where one of them is
least_tells : (m n a : ℕ) → nat_le (min m n) a ≡ (nat_le m a || nat_le n a)
least_tells m n a = grind (arith, nat_tests)

-- the greater is where both are
most_tells : (m n a : ℕ) → nat_le (max m n) a ≡ (nat_le m a && nat_le n a)
most_tells m n a = grind (arith, nat_tests)

-- no alpha is 2^34 or more
beyond : (a : ℕ) → a < 2 ^ 34 → nat_le 17179869184 a ≡ false
beyond a l = grind (arith, nat_tests)

-- every number is 0 or more
from_0 : (a : ℕ) → nat_le 0 a ≡ true
from_0 a = grind (arith, nat_tests)

-- a test that never passes
pub never_least : (t : ℕ → Bool) → ((a : ℕ) → a < 2 ^ 34 → t a ≡ false) → IsLeastOf t 17179869184
never_least t f a l = f a l ∙ sym (beyond a l)

-- one that always does
pub always_least : (t : ℕ → Bool) → ((a : ℕ) → t a ≡ true) → IsLeastOf t 0
always_least t f a l = f a ∙ sym (from_0 a)

-- one of two
pub either_least : (t u : ℕ → Bool) (m n : ℕ) → IsLeastOf t m → IsLeastOf u n → IsLeastOf (λ a. t a || u a) (min m n)
either_least t u m n h k a l = ap (λ b. b || u a) (h a l) ∙ ap (λ b. nat_le m a || b) (k a l) ∙ sym (least_tells m n a)

-- a test of four
pub four_least :
    (t u v w : ℕ → Bool) (k l m n : ℕ) → IsLeastOf t k → IsLeastOf u l → IsLeastOf v m → IsLeastOf w n →
    IsLeastOf (λ a. t a || (u a || (v a || (w a || false)))) (min k (min l (min m n)))
four_least t u v w k l m n p q r s a e =
    ap (λ b. t a || (u a || (v a || b))) (or-false (w a))
    ∙ either_least t (λ a. u a || (v a || w a)) k (min l (min m n)) p
    (either_least u (λ a. v a || w a) l (min m n) q (either_least v w m n r s)) a e

-- one of four facets
pub facets_least :
    (t : ℕ → Facet → Bool) (facets : List Facet) (a b c d : Facet) (k l m n : ℕ) → length facets ≡ 4 →
    IsLeastOf (λ x. t x (get_or facets 0 a)) k → IsLeastOf (λ x. t x (get_or facets 1 b)) l →
    IsLeastOf (λ x. t x (get_or facets 2 c)) m → IsLeastOf (λ x. t x (get_or facets 3 d)) n →
    IsLeastOf (λ x. list_any (t x) facets) (min k (min l (min m n)))
facets_least t [] a b c d k l m n e x y z w = absurd (omega (arith, e))
facets_least t (o ∷ []) a b c d k l m n e x y z w = absurd (omega (arith, e))
facets_least t (o ∷ p ∷ []) a b c d k l m n e x y z w = absurd (omega (arith, e))
facets_least t (o ∷ p ∷ q ∷ []) a b c d k l m n e x y z w = absurd (omega (arith, e))
facets_least t (o ∷ p ∷ q ∷ r ∷ []) a b c d k l m n e x y z w =
    four_least (λ v. t v o) (λ v. t v p) (λ v. t v q) (λ v. t v r) k l m n x y z w
facets_least t (o ∷ p ∷ q ∷ r ∷ s ∷ facets) a b c d k l m n e x y z w = absurd (omega (arith, e))

-- ---- numbers around a face

-- the least number so far, and the elements that are left
abbrev pub AnyLeft : {N X : Type 0} → (ℕ → X → Bool) → (N → X) → List N → ℕ → ℕ → Type 0
AnyLeft t f ns i least = (a : ℕ) → a < 2 ^ 34 →
    (nat_le least a || list_any (t a) (map f (drop i ns))) ≡ list_any (t a) (map f ns)

-- the greatest number so far, and the elements that are left
abbrev pub AllLeft : {N X : Type 0} → (ℕ → X → Bool) → (N → X) → List N → ℕ → ℕ → Type 0
AllLeft t f ns i most = (a : ℕ) → a < 2 ^ 34 →
    (nat_le most a && list_all (t a) (map f (drop i ns))) ≡ list_all (t a) (map f ns)

-- the lesser with the number of the next
pub any_step :
    {N X : Type 0} (t : ℕ → X → Bool) (f : N → X) (ns : List N) (i : ℕ) (d : N) (least m r : ℕ) → i < length ns →
    IsLeastOf (λ a. t a (f (get_or ns i d))) m →
    r ≡ min least m → AnyLeft t f ns i least → AnyLeft t f ns (i + 1) r
any_step {N} {X} t f ns i d least m r h e q left a l =
    let rest = list_any (t a) (map f (drop (i + 1) ns)) in
    ap (λ b. b || rest) (ap (λ n. nat_le n a) q ∙ least_tells least m a)
    ∙ or_assoc (nat_le least a) (nat_le m a) rest
    ∙ ap (λ b. nat_le least a || (b || rest)) (sym (e a l))
    ∙ ap (λ (v : List N). nat_le least a || list_any (t a) (map f v)) (sym (drop_more ns i d h))
    ∙ left a l

-- the greater with the number of the next
pub all_step :
    {N X : Type 0} (t : ℕ → X → Bool) (f : N → X) (ns : List N) (i : ℕ) (d : N) (most m r : ℕ) → i < length ns →
    IsLeastOf (λ a. t a (f (get_or ns i d))) m →
    r ≡ max most m → AllLeft t f ns i most → AllLeft t f ns (i + 1) r
all_step {N} {X} t f ns i d most m r h e q left a l =
    let rest = list_all (t a) (map f (drop (i + 1) ns)) in
    ap (λ b. b && rest) (ap (λ n. nat_le n a) q ∙ most_tells most m a)
    ∙ and_assoc (nat_le most a) (nat_le m a) rest
    ∙ ap (λ b. nat_le most a && (b && rest)) (sym (e a l))
    ∙ ap (λ (v : List N). nat_le most a && list_all (t a) (map f v)) (sym (drop_more ns i d h))
    ∙ left a l

-- ---- lists of numbers

-- of lists that are paired each is of its element
pub zip_at : {X Y : Type 0} (R : X → Y → Type 0) (xs : List X) (ys : List Y) (i : ℕ) (d : X) (e : Y) → AllZip R xs ys →
    i < length xs → R (get_or xs i d) (get_or ys i e)
zip_at R [] ys i d e z h = absurd (omega (arith, h))
zip_at R (x ∷ xs) [] i d e z h = absurd z
zip_at R (x ∷ xs) (y ∷ ys) zero d e z h = z.0
zip_at R (x ∷ xs) (y ∷ ys) (suc i) d e z h = zip_at R xs ys i d e z.1 (omega (arith, h))

-- what holds at each place of two lists holds of them in pairs
pub zip_places : {X Y : Type 0} (R : X → Y → Type 0) (d : X) (e : Y) (xs : List X) (ys : List Y) → length ys ≡ length xs
    → ((i : ℕ) → i < length xs → R (get_or xs i d) (get_or ys i e)) → AllZip R xs ys
zip_places R d e [] [] s f = tt
zip_places R d e [] (y ∷ ys) s f = absurd (omega (arith, s))
zip_places R d e (x ∷ xs) [] s f = absurd (omega (arith, s))
zip_places R d e (x ∷ xs) (y ∷ ys) s f =
    (f 0 (omega arith), zip_places R d e xs ys (omega (arith, s)) (λ i h. f (suc i) (omega (arith, h))))

-- what was written to all places of a list stands in it
written_back : {Y : Type 0} (n : ℕ) (before ys : List Y) → length before ≡ n → length ys ≡ n
    → take n (ys ++ drop (length ys) before) ≡ ys
written_back n before ys k a =
    ap (λ t. take n (ys ++ t)) (drop_all (length ys) before (omega (arith, k, a))) ∙ ap (take n) (append-nil ys)
    ∙ take_all n ys (omega (arith, a))

-- where each place of a list is written to by itself, the two hold in pairs
pub zip_written : {X Y : Type 0} (R : X → Y → Type 0) (d : X) (e : Y) (xs : List X) (n : ℕ) (slice before ys : List Y)
    → slice ≡ before → length slice ≡ n → n ≡ length xs → length ys ≡ length slice
    → ((i : ℕ) → i < length slice → R (get_or xs i d) (get_or ys i e)) →
    AllZip R xs (take n (ys ++ drop (length ys) before))
zip_written {X} {Y} R d e xs n slice before ys v k m a f =
    subst (AllZip R xs) (sym (written_back n before ys (sym (ap length v) ∙ k) (a ∙ k)))
    (zip_places R d e xs ys (a ∙ k ∙ m) (λ i l. f i (subst (λ j. i < j) (sym (k ∙ m)) l)))

-- where what is written to each place is what a function gives of that of a list, the function's values stand in it
pub written_is_map : {X Y : Type 0} (f : X → Y) (d : X) (e : Y) (xs : List X) (n : ℕ) (slice before ys : List Y)
    → slice ≡ before → length slice ≡ n → n ≡ length xs → length ys ≡ length slice
    → ((i : ℕ) → i < length slice → get_or ys i e ≡ f (get_or xs i d)) →
    take n (ys ++ drop (length ys) before) ≡ map f xs
written_is_map {X} {Y} f d e xs n slice before ys v k m a h =
    let count : length ys ≡ length xs = a ∙ k ∙ m in
    written_back n before ys (sym (ap length v) ∙ k) (a ∙ k)
    ∙ ext_get_or e ys (map f xs) (count ∙ sym (length-map xs f)) (λ i l.
    h i (subst (λ (j : ℕ). i < j) a l)
    ∙ sym (get_or-map f xs i d e (subst (λ (j : ℕ). i < j) count l)))

-- ---- Gabriel faces, point by point
