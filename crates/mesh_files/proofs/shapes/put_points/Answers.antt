use Rattle.std.proofs.Common.{◌≡◌, ◌∙◌, sym, ap, List, [], ◌∷◌, ℕ, refl, length}
use Rattle.std.specs.Prelude.{map, codes}
use Rattle.std.specs.List.{concat}
use Rattle.std.proofs.lemmas.List.{length-map}
use Rattle.alpha_complex.specs.declared.shape.Kind.{Kind}
use Rattle.mesh_files.specs.Text.{face_line, points_of_faces}
use Rattle.text_sheets.proofs.Cited.{ends, goes_on, starts, below_end, past_end}
use Rattle.mesh_files.proofs.shapes.put_points.Goals as goal

-- as many points as faces
point_count : (seen : List (ℕ × Kind)) (points : List ℕ) → points ≡ points_of_faces seen → length points ≡ length seen
point_count seen points e = ap length e ∙ length-map seen (λ (p : ℕ × Kind). p.0)

-- as many points as lines
line_count : (line : ℕ × Kind → List ℕ) (seen : List (ℕ × Kind)) (points : List ℕ) → points ≡ points_of_faces seen →
    length points ≡ length (map line seen)
line_count line seen points e = point_count seen points e ∙ sym (length-map seen line)

pub loop-index-init : goal.loop-index-init
loop-index-init g c =
    let seen = c.args.shape.now.points in
    let line = (λ (f : ℕ × Kind). face_line c.args.indices.now (f.0 ∷ []) f.1) in
    starts (codes "points") (map line seen) (length c.points-count.result.now)
    (line_count line seen c.points-count.result.now c.points-count.ensures) c.put_title.ensures

pub point-point-requires : goal.point-point-requires
point-point-requires g c = below_end c.loop-index.index _ _ c.loop-index-test.true
    (point_count c.args.shape.now.points c.points-count.result.now c.points-count.ensures)

pub loop-index-preserved : goal.loop-index-preserved
loop-index-preserved g c =
    let seen = c.args.shape.now.points in
    let line = (λ (f : ℕ × Kind). face_line c.args.indices.now (f.0 ∷ []) f.1) in
    let i = c.loop-index.index in
    goes_on (λ (xs : List (ℕ × Kind)). concat (map line xs)) line (λ x xs. refl) seen i c.point-point.result
    (below_end i _ _ c.loop-index-test.true (point_count seen c.points-count.result.now c.points-count.ensures))
    c.point-point.ensures c.loop-index.invariant c.put_face.ensures

pub returns : goal.returns
returns g c =
    let seen = c.args.shape.now.points in
    let line = (λ (f : ℕ × Kind). face_line c.args.indices.now (f.0 ∷ []) f.1) in
    ends (λ (xs : List (ℕ × Kind)). concat (map line xs)) refl seen c.loop-index.index
    (past_end c.loop-index.index _ _ c.loop-index-test.false
    (point_count seen c.points-count.result.now c.points-count.ensures)) c.loop-index.invariant
