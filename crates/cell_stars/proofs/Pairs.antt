-- Two lists of one length, element by element.
use Rattle.std.specs.Prelude.{◌≡◌, ◌<◌, ◌≤◌, ◌+◌, ◌++◌, ◌∷◌, [], ℕ, List, length, slice_index_or}
use Rattle.std.specs.List.{zip}
use Rattle.std.proofs.Common.{refl, sym, ◌∙◌, ap, arith, min, take}
use Rattle.std.proofs.lemmas.List.{get_or_default, length-take, take_all}
use Rattle.list_laws.proofs.Cited.{take_next}
use Rattle.point_order.specs.declared.cell.Cell.{Cell}

-- an element more of both
zip_snoc : (ns : List ℕ) (cs : List Cell) (n : ℕ) (c : Cell) → length ns ≡ length cs →
    zip (ns ++ n ∷ []) (cs ++ c ∷ []) ≡ zip ns cs ++ (n, c) ∷ []
zip_snoc [] [] n c e = refl
zip_snoc [] (d ∷ cs) n c e = absurd (omega (arith, e))
zip_snoc (m ∷ ns) [] n c e = absurd (omega (arith, e))
zip_snoc (m ∷ ns) (d ∷ cs) n c e =
    ap (λ (l : List (ℕ × Cell)). (m, d) ∷ l) (zip_snoc ns cs n c (omega (arith, e)))

-- the first ones are as many
first_ones : (ns : List ℕ) (cs : List Cell) (k : ℕ) → length ns ≡ length cs → length (take k ns) ≡ length (take k cs)
first_ones ns cs k e = length-take k ns ∙ ap (λ n. min k n) e ∙ sym (length-take k cs)

-- with the next elements
pub zip_more : (ns : List ℕ) (cs : List Cell) (k : ℕ) (list new : List (ℕ × Cell)) (n : ℕ) (c : Cell) →
    length ns ≡ length cs → k < length ns → n ≡ slice_index_or ns k 0 → c ≡ slice_index_or cs k c →
    new ≡ list ++ (n, c) ∷ [] → list ≡ zip (take k ns) (take k cs) → new ≡ zip (take (k + 1) ns) (take (k + 1) cs)
zip_more ns cs k list new n c e h f g p s =
    p ∙ ap (λ (l : List (ℕ × Cell)). l ++ (n, c) ∷ []) s
    ∙ sym (ap (λ (l : List ℕ). zip l (take (k + 1) cs)) (take_next ns k n h (f ∙ sym (get_or_default ns k n 0 h)))
    ∙ ap (λ (l : List Cell). zip (take k ns ++ n ∷ []) l) (take_next cs k c (omega (arith, h, e)) g)
    ∙ zip_snoc (take k ns) (take k cs) n c (first_ones ns cs k e))

-- at the end of both
pub zip_all_of : (ns : List ℕ) (cs : List Cell) (k : ℕ) (list : List (ℕ × Cell)) → length ns ≡ length cs →
    length ns ≤ k → list ≡ zip (take k ns) (take k cs) → list ≡ zip ns cs
zip_all_of ns cs k list e h s =
    s ∙ ap (λ (l : List ℕ). zip l (take k cs)) (take_all k ns h)
    ∙ ap (λ (l : List Cell). zip ns l) (take_all k cs (omega (arith, h, e)))
