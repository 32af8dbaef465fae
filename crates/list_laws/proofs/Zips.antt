-- Lists that are paired element by element.
use Rattle.std.specs.List.{AllZip}
use Rattle.std.specs.Prelude.{List, [], length, ◌∷◌, ◌≡◌}
use Rattle.std.proofs.Common.{ap, refl, suc, ◌++◌}

-- lists that are paired are equally long
pub length_zip : {A B : Type 0} (R : A → B → Type 0) (xs : List A) (ys : List B) → AllZip R xs ys →
    length xs ≡ length ys
length_zip R [] [] z = refl
length_zip R [] (y ∷ ys) z = absurd z
length_zip R (x ∷ xs) [] z = absurd z
length_zip R (x ∷ xs) (y ∷ ys) z = ap suc (length_zip R xs ys z.1)

-- one more pair
pub zip_push : {A B : Type 0} (R : A → B → Type 0) (xs : List A) (ys : List B) (x : A) (y : B) → AllZip R xs ys →
    R x y → AllZip R (xs ++ x ∷ []) (ys ++ y ∷ [])
zip_push R [] [] x y z r = (r, tt)
zip_push R [] (b ∷ ys) x y z r = absurd z
zip_push R (a ∷ xs) [] x y z r = absurd z
zip_push R (a ∷ xs) (b ∷ ys) x y z r = (z.0, zip_push R xs ys x y z.1 r)
