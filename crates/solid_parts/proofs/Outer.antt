-- Outer triples, one after another.
use Rattle.std.proofs.Common.{◌≡◌, refl, sym, ap, ◌∙◌, ℕ, zero, suc, ◌<◌, ◌≤◌, ◌+◌, List, [], ◌∷◌, ◌++◌, append-nil}
use Rattle.std.proofs.Common.{take, length, get_or, arith}
use Rattle.std.specs.Prelude.{Option, None, Some, filter_map}
use Rattle.std.proofs.lemmas.List.{take_all}
use Rattle.std.proofs.lemmas.List.Elements.{filter_map-append}
use Rattle.list_laws.proofs.Cited.{take_next}

-- what stands at a place, whatever stands for a missing one
own_item : {X : Type 0} (d : X) (xs : List X) (i : ℕ) → i < length xs → get_or xs i d ≡ get_or xs i (get_or xs i d)
own_item d [] i l = absurd (omega (arith, l))
own_item d (x ∷ xs) zero l = refl
own_item d (x ∷ xs) (suc i) l = own_item d xs i (omega (arith, l))

-- one element more
more : {X Y : Type 0} (f : X → Option Y) (xs : List X) (i : ℕ) (d : X) → i < length xs →
    filter_map f (take (i + 1) xs) ≡ filter_map f (take i xs) ++ filter_map f (get_or xs i d ∷ [])
more {X} {Y} f xs i d l = ap (λ (v : List X). filter_map f v) (take_next xs i (get_or xs i d) l (own_item d xs i l)) ∙
    filter_map-append f (take i xs) (get_or xs i d ∷ [])

-- an element that gives something, and one that gives nothing
gives : {X Y : Type 0} (f : X → Option Y) (x : X) (y : Y) → f x ≡ Some y → filter_map f (x ∷ []) ≡ y ∷ []
gives f x y e = rw e refl

-- an element that gives nothing gives none
gives_none : {X Y : Type 0} (f : X → Option Y) (x : X) → f x ≡ None → filter_map f (x ∷ []) ≡ []
gives_none f x e = rw e refl

-- the next gives a triple, which comes last
pub outer_some : {X Y : Type 0} (f : X → Option Y) (xs : List X) (i : ℕ) (d : X) (y : Y) (old : List Y) →
    i < length xs → f (get_or xs i d) ≡ Some y → old ≡ filter_map f (take i xs) →
    old ++ y ∷ [] ≡ filter_map f (take (i + 1) xs)
outer_some {X} {Y} f xs i d y old l e h = ap (λ (v : List Y). v ++ y ∷ []) h ∙ ap
    (λ (v : List Y). filter_map f (take i xs) ++ v) (sym (gives f (get_or xs i d) y e)) ∙ sym (more f xs i d l)

-- or it gives none
pub outer_none : {X Y : Type 0} (f : X → Option Y) (xs : List X) (i : ℕ) (d : X) (old : List Y) → i < length xs →
    f (get_or xs i d) ≡ None → old ≡ filter_map f (take i xs) → old ≡ filter_map f (take (i + 1) xs)
outer_none {X} {Y} f xs i d old l e h = h ∙ sym (append-nil (filter_map f (take i xs))) ∙ ap
    (λ (v : List Y). filter_map f (take i xs) ++ v) (sym (gives_none f (get_or xs i d) e)) ∙ sym (more f xs i d l)

-- at the end all that is given is there
pub outer_all : {X Y : Type 0} (f : X → Option Y) (xs : List X) (i : ℕ) (old : List Y) → length xs ≤ i →
    old ≡ filter_map f (take i xs) → old ≡ filter_map f xs
outer_all {X} f xs i old l h = h ∙ ap (λ (v : List X). filter_map f v) (take_all i xs l)
