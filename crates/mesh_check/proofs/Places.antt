-- Points as indices in the text of a verdict, one after another.
use Rattle.std.proofs.Common.{◌≡◌, ℕ, ◌+◌, ◌<◌, List, [], ◌∷◌, ◌++◌, length, take, get_or, codes, sym, ap, ◌∙◌}
use Rattle.std.proofs.Common.{append_assoc, append-nil, add-one}
use Rattle.std.specs.Prelude.{decimal}
use Rattle.std.proofs.Math.Seq.{take-suc}
use Rattle.text_sheets.specs.Indices.{index_of}
use Rattle.mesh_check.specs.Text.{places_text}

-- one point as its index, with a space before it
abbrev place : List ℕ → ℕ → List ℕ
place s p = codes " " ++ decimal (index_of s p)

-- with a point more behind, its index comes last
places_end : (s points : List ℕ) (p : ℕ) → places_text s (points ++ p ∷ []) ≡ places_text s points ++ place s p
places_end s [] p = append-nil (place s p)
places_end s (q ∷ points) p =
    ap (λ (t : List ℕ). place s q ++ t) (places_end s points p)
    ∙ sym (append_assoc (place s q) (places_text s points) (place s p))

-- a point more of a list
pub places_more : (s points : List ℕ) (i p : ℕ) → i < length points → p ≡ get_or points i p
    → places_text s (take (i + 1) points) ≡ places_text s (take i points) ++ place s p
places_more s points i p l e =
    ap (λ (n : ℕ). places_text s (take n points)) (add-one i)
    ∙ ap (places_text s) (take-suc points i p l)
    ∙ places_end s (take i points) (get_or points i p)
    ∙ ap (λ (q : ℕ). places_text s (take i points) ++ place s q) (sym e)

-- a space and its index are put
pub place_put : (old now spaced new digits s points : List ℕ) (i p n : ℕ) → new ≡ spaced ++ digits
    → spaced ≡ now ++ codes " " → now ≡ old ++ places_text s (take i points) → digits ≡ decimal n → n ≡ index_of s p
    → i < length points → p ≡ get_or points i p → new ≡ old ++ places_text s (take (i + 1) points)
place_put old now spaced new digits s points i p n e f g d k l is =
    e ∙ ap (λ (t : List ℕ). t ++ digits) (f ∙ ap (λ (t : List ℕ). t ++ codes " ") g)
    ∙ append_assoc (old ++ places_text s (take i points)) (codes " ") digits
    ∙ append_assoc old (places_text s (take i points)) (codes " " ++ digits)
    ∙ ap (λ (t : List ℕ). old ++ (places_text s (take i points) ++ (codes " " ++ t))) (d ∙ ap decimal k)
    ∙ ap (λ (t : List ℕ). old ++ t) (sym (places_more s points i p l is))
