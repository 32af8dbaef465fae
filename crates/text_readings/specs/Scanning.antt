-- Numbers, fields and points as they are read. That this decides what a line says is proved.
use Rattle.std.specs.Prelude.{ℕ, Bool, List, [], ◌∷◌, ◌+◌, ◌*◌, ◌-◌, ◌^◌, ◌&&◌, min, nat_lt, ◌==◌, if◌then◌else◌}
use Rattle.std.specs.Prelude.{Option, Some, None, Result, Ok, Err}
use Rattle.std.specs.List.{slice_split}
use Rattle.std.specs.Char.{is_ascii_digit}
use Rattle.std.specs.Str.Parse.{starts_with_minus}
use Rattle.text_readings.specs.declared.fault.Why.{Why}
use Rattle.text_readings.specs.declared.fault.Why.TheVariants.{Field, Range}
use Rattle.text_readings.specs.PointLines.{after_minus, coordinate_count, key_of}

-- beyond every range
abbrev pub far : ℕ
far = 2 ^ 40

-- digits behind others whose value is n: their value, or `far` where it is more; nothing where another byte stands
unfoldable pub digits_from : ℕ → List ℕ → Option ℕ
digits_from n [] = Some n
digits_from n (c ∷ cs) = if is_ascii_digit c then digits_from (min (n * 10 + (c - 48)) far) cs else None

-- one digit or more
unfoldable pub digits : List ℕ → Option ℕ
digits [] = None
digits (c ∷ cs) = digits_from 0 (c ∷ cs)

-- behind a minus a value above 0 is kept as `far` too
abbrev pub signed : Bool → Option ℕ → Option ℕ
signed minus None = None
signed minus (Some n) = Some (if minus && nat_lt 0 n then far else n)

unfoldable pub number : List ℕ → Option ℕ
number bs = signed (starts_with_minus bs) (digits (after_minus bs))

-- the point with these coordinates
abbrev pub point_at : ℕ → ℕ → ℕ → Result ℕ Why
point_at x y z =
    if nat_lt x coordinate_count && nat_lt y coordinate_count && nat_lt z coordinate_count
    then Ok (key_of x y z)
    else Err Range

-- a point from its three numbers
abbrev pub point_from : Option ℕ → Option ℕ → Option ℕ → Result ℕ Why
point_from None y z = Err Field
point_from (Some x) None z = Err Field
point_from (Some x) (Some y) None = Err Field
point_from (Some x) (Some y) (Some z) = point_at x y z

abbrev pub point_from_fields : List (List ℕ) → Result ℕ Why
point_from_fields [] = Err Field
point_from_fields (x ∷ []) = Err Field
point_from_fields (x ∷ y ∷ []) = Err Field
point_from_fields (x ∷ y ∷ z ∷ []) = point_from (number x) (number y) (number z)
point_from_fields (x ∷ y ∷ z ∷ more ∷ rest) = Err Field

-- the parts of a line between its spaces
abbrev pub fields_of : List ℕ → List (List ℕ)
fields_of line = slice_split (λ b. b == 32) line

unfoldable pub point : List ℕ → Result ℕ Why
point line = point_from_fields (fields_of line)
