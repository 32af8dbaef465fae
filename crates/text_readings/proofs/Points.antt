-- The point of a line, from its fields.
use Rattle.std.proofs.Common.{◌≡◌, ℕ, ◌+◌, ◌*◌, ◌<◌, ltb, arith, Bor, Bool, true, false, cond, eqb, List, [], ◌∷◌}
use Rattle.std.proofs.Common.{Option, Some, None, Ok, Err, refl, ap, ◌∙◌}
use Rattle.std.specs.Prelude.{MatchOption, is_some}
use Rattle.point_order.specs.Coordinates.{x_of, y_of, z_of, IsKey}
use Rattle.std.proofs.lemmas.Bool.{lt-ltb}
use Rattle.std.specs.List.{onto_first}
use Rattle.text_readings.specs.declared.fault.Why.TheVariants.{Field}
use Rattle.text_readings.specs.Scanning.{number, point, point_at, point_from, point_from_fields, fields_of}

-- a line with one field is no point line
pub point_one : (line x : List ℕ) → fields_of line ≡ x ∷ [] → point line ≡ Err Field
unfolding point
point_one line x a = ap point_from_fields a

-- nor is one with two
pub point_two : (line x r y : List ℕ) → fields_of line ≡ x ∷ fields_of r → fields_of r ≡ y ∷ [] → point line ≡ Err Field
unfolding point
point_two line x r y a b = ap point_from_fields (a ∙ ap (λ (fs : List (List ℕ)). x ∷ fs) b)

-- a list of fields with a byte more in front has a first one
some_first : (t : Bool) (b : ℕ) (fs : List (List ℕ)) → (g : List ℕ) × (gs : List (List ℕ)) × (cond t ([] ∷ fs)
    (onto_first b fs) ≡ g ∷ gs)
some_first true b fs = ([], fs, refl)
some_first false b [] = (b ∷ [], [], refl)
some_first false b (f ∷ fs) = (b ∷ f, fs, refl)

-- a line has a field
pub some_field : (line : List ℕ) → (f : List ℕ) × (fs : List (List ℕ)) × (fields_of line ≡ f ∷ fs)
some_field [] = ([], [], refl)
some_field (b ∷ bs) = some_first (eqb b 32) b (fields_of bs)

-- the fields of a line, where the first three are found one after another
joined : (line x r y q z : List ℕ) (fs : List (List ℕ)) → fields_of line ≡ x ∷ fields_of r →
    fields_of r ≡ y ∷ fields_of q → fields_of q ≡ z ∷ fs → fields_of line ≡ x ∷ y ∷ z ∷ fs
joined line x r y q z fs a b c = cc

-- a line with four fields or more is no point line
pub point_four : (line x r y q z s : List ℕ) → fields_of line ≡ x ∷ fields_of r → fields_of r ≡ y ∷ fields_of q →
    fields_of q ≡ z ∷ fields_of s → point line ≡ Err Field
unfolding point
point_four line x r y q z s a b c =
    let more = some_field s in
    ap point_from_fields (joined line x r y q z (fields_of s) a b c ∙ ap (λ (fs : List (List ℕ)). x ∷ y ∷ z ∷ fs)
    more.2)

-- the point of a line with three fields is that of their numbers
pub point_is : (line x r y q z : List ℕ) → fields_of line ≡ x ∷ fields_of r → fields_of r ≡ y ∷ fields_of q →
    fields_of q ≡ z ∷ [] → point line ≡ point_from (number x) (number y) (number z)
unfolding point
point_is line x r y q z a b c = ap point_from_fields (joined line x r y q z [] a b c)

-- what follows the third field, as it was found
pub third_more : (o : Option (Bor (List ℕ))) (q z : List ℕ) → MatchOption o (fields_of q ≡ z ∷ []) (λ s. fields_of q ≡ z
    ∷ fields_of s.now) → is_some o ≡ true → (s : List ℕ) × (fields_of q ≡ z ∷ fields_of s)
third_more None q z h t = absurd cc
third_more (Some s) q z h t = (s.now, h)

-- or nothing follows it
pub third_last : (o : Option (Bor (List ℕ))) (q z : List ℕ) → MatchOption o (fields_of q ≡ z ∷ []) (λ s. fields_of q ≡ z
    ∷ fields_of s.now) → is_some o ≡ false → fields_of q ≡ z ∷ []
third_last None q z h t = h
third_last (Some s) q z h t = absurd cc

-- a coordinate of a number is below 16384
pub coordinate_below : (p : ℕ) → (x_of p < 16384) × (y_of p < 16384) × (z_of p < 16384)
unfolding x_of y_of z_of
coordinate_below p = (omega arith, omega arith, omega arith)

-- a key is made of its coordinates
pub packed_is : (p : ℕ) → IsKey p → x_of p * 268435456 + y_of p * 16384 + z_of p ≡ p
unfolding x_of y_of z_of
packed_is p key = omega arith

-- the point of its own coordinates
pub point_at_own : (p : ℕ) → IsKey p → point_at (x_of p) (y_of p) (z_of p) ≡ Ok p
point_at_own p key =
    let below = coordinate_below p in
    let a : ltb (x_of p) 16384 ≡ true = lt-ltb _ _ below.0 in
    let b : ltb (y_of p) 16384 ≡ true = lt-ltb _ _ below.1 in
    let d : ltb (z_of p) 16384 ≡ true = lt-ltb _ _ below.2 in
    rw (a, b, d) (ap (λ (k : ℕ). Ok k) (packed_is p key))

-- a key is the point at the coordinates that it has
pub point_at_is : (p x y z : ℕ) → x_of p ≡ x → y_of p ≡ y → z_of p ≡ z → IsKey p → point_at x y z ≡ Ok p
point_at_is p x y z a b d key = rw (← a, ← b, ← d) (point_at_own p key)
