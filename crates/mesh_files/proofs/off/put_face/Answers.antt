use Rattle.std.proofs.Common.{◌≡◌, ◌∙◌, List, ℕ, [], ◌∷◌, ap, length, get_or, arith}
use Rattle.text_sheets.specs.Indices.{index_of, indices_line}
use Rattle.text_sheets.specs.Lines.{numbers_line}
use Rattle.text_sheets.proofs.Cited.{then}
use Rattle.mesh_files.proofs.off.put_face.Goals as goal

-- three points by their indices
line_is : (points face : List ℕ) (d e f i j k : ℕ) → length face ≡ 3 → i ≡ index_of points (get_or face 0 d)
    → j ≡ index_of points (get_or face 1 e) → k ≡ index_of points (get_or face 2 f)
    → numbers_line (i ∷ j ∷ k ∷ []) ≡ indices_line points face
line_is points [] d e f i j k n p q r = absurd (omega (arith, n))
line_is points (a ∷ []) d e f i j k n p q r = absurd (omega (arith, n))
line_is points (a ∷ b ∷ []) d e f i j k n p q r = absurd (omega (arith, n))
line_is points (a ∷ b ∷ c ∷ []) d e f i j k n p q r =
    ap (λ m. numbers_line (m ∷ j ∷ k ∷ [])) p ∙ ap (λ m. numbers_line (index_of points a ∷ m ∷ k ∷ [])) q
    ∙ ap (λ m. numbers_line (index_of points a ∷ index_of points b ∷ m ∷ [])) r
line_is points (a ∷ b ∷ c ∷ x ∷ face) d e f i j k n p q r = absurd (omega (arith, n))

pub returns : goal.returns
returns g c =
    let line = line_is c.args.indices.now c.args.face.now c.index-face-0.result c.index-face-1.result
    c.index-face-2.result c.index.result
    c.index-2.result c.index-3.result c.told-face c.index.ensures c.index-2.ensures c.index-3.ensures in
    then c.put.ensures (rw line at c.put_three.ensures)
