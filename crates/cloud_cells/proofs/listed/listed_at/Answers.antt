use Rattle.std.proofs.Common.{◌<◌, [], arith, length, map}
use Rattle.list_laws.proofs.Cited.{at_place, in_left, in_right, mapped_true}
use Rattle.point_order.specs.declared.cell.Cell.TheVariants.{Full, Open}
use Rattle.cloud_cells.proofs.listed.listed_at.Goals as goal

pub returns-then-place-len : goal.returns-then-place-len
returns-then-place-len c =
    let cells = c.args.cells.now in
    let quad = c.at.result in
    let within : c.args.place < length cells = (let n = c.len.ensures in let h = c.if-place-len.true in omega (
      arith,
      n,
      h,
    )) in
    in_left (Full quad) (map Full cells) (map Open c.args.hull.now) (mapped_true Full quad cells
    (at_place cells c.args.place quad [] within c.at.ensures))

pub returns-in-Some : goal.returns-in-Some
returns-in-Some c =
    let hull = c.args.hull.now in
    let tri = c.in-Some.tri.now in
    in_right (Open tri) (map Full c.args.cells.now) (map Open hull) (mapped_true Open tri hull
    (at_place hull _ tri tri c.in-Some.ensures.lookup.3.0 c.in-Some.ensures.lookup.1))
