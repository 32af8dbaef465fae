use Rattle.std.proofs.Common.{sym, subst}
use Rattle.mesh_files.specs.Report.{AreCountedInOrder, shapes_seen}
use Rattle.command_pages.proofs.Unwritten.{unwritten}
use Rattle.command_pages.proofs.ShapesOfSet.{shapes_counted, shapes_lent}
use Rattle.command_pages.proofs.shapes.put_parts.Goals as goal

pub returns-in_err-shapes-clause-stop : goal.returns-in_err-shapes-clause-stop
returns-in_err-shapes-clause-stop g c = unwritten _ _ _ c.from_residual-in_err-shapes.result
    c.from_residual-in_err-shapes.ensures.1

pub put-requires-clause-shapes : goal.put-requires-clause-shapes
put-requires-clause-shapes g c κs within =
    let parts = c.args.parts in
    let e = shapes_lent parts.version (shapes_seen c.in_ok-shapes.shapes.items) parts.points.items c.deref-4.result.now
    parts.radii.items c.deref-5.result.now c.in_ok-shapes.ensures c.deref-4.ensures.value c.deref-5.ensures.value in
    subst AreCountedInOrder (sym e) (shapes_counted parts.version parts.radii.items parts.points.items
    c.requires.ascending)

pub returns-clause-whole : goal.returns-clause-whole
returns-clause-whole g c =
    let parts = c.args.parts in
    let e = shapes_lent parts.version (shapes_seen c.in_ok-shapes.shapes.items) parts.points.items c.deref-4.result.now
    parts.radii.items c.deref-5.result.now c.in_ok-shapes.ensures c.deref-4.ensures.value c.deref-5.ensures.value in
    rw (e, c.deref-6.ensures.value) at c.put.ensures.whole

pub returns-clause-stop : goal.returns-clause-stop
returns-clause-stop g c =
    let parts = c.args.parts in
    let e = shapes_lent parts.version (shapes_seen c.in_ok-shapes.shapes.items) parts.points.items c.deref-4.result.now
    parts.radii.items c.deref-5.result.now c.in_ok-shapes.ensures c.deref-4.ensures.value c.deref-5.ensures.value in
    rw (e, c.deref-6.ensures.value) at c.put.ensures.stop
