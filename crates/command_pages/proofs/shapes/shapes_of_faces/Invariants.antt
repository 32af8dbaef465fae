-- the shapes so far and those of the radii that are left are those of all
use Rattle.std.proofs.Common.{◌≡◌, ◌++◌, drop, map}
use Rattle.alpha_complex.specs.Shapes.{shape_of}
use Rattle.edit_files.specs.Content.{alpha_of}
use Rattle.mesh_files.specs.Report.{shapes_seen}
use Rattle.command_pages.proofs.shapes.shapes_of_faces.Given as goal

abbrev pub invariant-loop-radius : goal.invariant-loop-radius
invariant-loop-radius g l =
    shapes_seen l.shapes.items ++ map (λ radius. (radius, shape_of l.points (alpha_of l.version radius)))
    (drop l.radius-index l.radii)
    ≡ map (λ radius. (radius, shape_of l.points (alpha_of l.version radius))) l.radii
