use Rattle.std.proofs.Common.{List, ℕ, refl}
use Rattle.std.specs.Prelude.{map}
use Rattle.std.specs.List.{concat}
use Rattle.mesh_files.specs.Off.{off_line}
use Rattle.text_sheets.proofs.Cited.{ends, goes_on, leaves_all}
use Rattle.mesh_files.proofs.off.put_faces.Goals as goal

pub loop-face-init : goal.loop-face-init
loop-face-init g c = leaves_all

pub loop-face-preserved : goal.loop-face-preserved
loop-face-preserved g c =
    let points = c.args.indices.now in
    goes_on (λ (xs : List (List ℕ)). concat (map (off_line points) xs)) (off_line points) (λ x xs. refl)
    c.args.faces.now
    c.loop-face.face-index c.face-item.result c.loop-face-test.true c.face-item.is c.loop-face.invariant
    c.put_face.ensures

pub returns : goal.returns
returns g c =
    let points = c.args.indices.now in
    ends (λ (xs : List (List ℕ)). concat (map (off_line points) xs)) refl c.args.faces.now c.loop-face.face-index
    c.loop-face-test.false
    c.loop-face.invariant
