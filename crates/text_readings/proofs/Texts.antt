-- Lines with no line feed are the lines of the text that is made of them.
use Rattle.std.proofs.Common.{◌≡◌, ℕ, false, eqb, List, [], ◌∷◌, ◌++◌, refl, sym, ap, subst, ◌∙◌, arith}
use Rattle.std.specs.List.{AllByRecursion}
use Rattle.text_readings.specs.Readings.{lines_of, text_of}
use Rattle.text_readings.specs.PointLines.{IsPointLine}
use Rattle.text_readings.proofs.Decided.{HasNo, number_without}

-- what stands in neither of two parts stands not in both together
pub without_append : (c : ℕ) (a b : List ℕ) → HasNo c a → HasNo c b → HasNo c (a ++ b)
without_append c [] b p q = q
without_append c (x ∷ a) b p q = (p.0, without_append c a b p.1 q)

-- bytes with no line feed, in front of one, are the first line
pub line_first : (line rest : List ℕ) → HasNo 10 line → lines_of (line ++ 10 ∷ rest) ≡ line ∷ lines_of rest
line_first [] rest h = refl
line_first (b ∷ bs) rest h = let e = line_first bs rest h.1 in let f : eqb b 10 ≡ false = h.0 in rw (f, e) refl

-- no line has a line feed
abbrev pub HaveNoFeed : List (List ℕ) → Type 0
HaveNoFeed lines = AllByRecursion (λ line. HasNo 10 line) lines

-- the lines of the text of such lines are these
pub lines_of_text : (lines : List (List ℕ)) → HaveNoFeed lines → lines_of (text_of lines) ≡ lines
lines_of_text [] h = refl
lines_of_text (l ∷ ls) h = line_first l (text_of ls) h.0 ∙ ap (λ (ms : List (List ℕ)). l ∷ ms) (lines_of_text ls h.1)

-- a point line has none
pub point_no_feed : (line : List ℕ) (p : ℕ) → IsPointLine line p → HasNo 10 line
point_no_feed line p s =
    let x : HasNo 10 s.x = number_without 10 s.x (omega arith) s.x_value.number in
    let y : HasNo 10 s.y = number_without 10 s.y (omega arith) s.y_value.number in
    let z : HasNo 10 s.z = number_without 10 s.z (omega arith) s.z_value.number in
    let both : HasNo 10 (s.x ++ 32 ∷ s.y) = without_append 10 s.x (32 ∷ s.y) x (refl, y) in
    subst (λ (l : List ℕ). HasNo 10 l) (sym s.fields) (without_append 10 (s.x ++ 32 ∷ s.y) (32 ∷ s.z) both (refl, z))
