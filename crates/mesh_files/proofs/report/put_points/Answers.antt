use Rattle.std.proofs.Common.{List, ℕ, refl, length, sym}
use Rattle.std.specs.Prelude.{map, codes}
use Rattle.std.specs.List.{concat}
use Rattle.std.proofs.lemmas.List.{length-map}
use Rattle.mesh_files.specs.Text.{point_line}
use Rattle.text_sheets.proofs.Cited.{ends, goes_on, starts}
use Rattle.mesh_files.proofs.report.put_points.Goals as goal

pub loop-point-init : goal.loop-point-init
loop-point-init g c = starts (codes "points") (map point_line c.args.points.now) (length c.args.points.now)
    (sym (length-map c.args.points.now point_line)) c.put_title.ensures

pub loop-point-preserved : goal.loop-point-preserved
loop-point-preserved g c =
    goes_on (λ (xs : List ℕ). concat (map point_line xs)) point_line (λ x xs. refl) c.args.points.now
    c.loop-point.point-index c.point-item.result c.loop-point-test.true c.point-item.is c.loop-point.invariant
    c.put_point.ensures

pub returns : goal.returns
returns g c =
    ends (λ (xs : List ℕ). concat (map point_line xs)) refl c.args.points.now c.loop-point.point-index
    c.loop-point-test.false c.loop-point.invariant
