use Rattle.std.proofs.Common.{refl}
use Rattle.mesh_reader.specs.Packed.{parts}
use Rattle.command_pages.proofs.MeshJudged.{cells_of, told_of_mesh}
use Rattle.command_pages.proofs.checked.judge.Goals as goal

pub tell-requires-clause-points : goal.tell-requires-clause-points
tell-requires-clause-points c = rw c.deref.ensures.value c.requires.ascending

pub tell-requires-clause-keys : goal.tell-requires-clause-keys
tell-requires-clause-keys c = rw c.deref.ensures.value (record { below = c.requires.keys })

pub tell-requires-clause-cells : goal.tell-requires-clause-cells
tell-requires-clause-cells c =
    rw (c.deref.ensures.value, c.deref-2.ensures.value)
    (cells_of (parts c.args.mesh.now) c.requires)

pub returns-clause-judged : goal.returns-clause-judged
returns-clause-judged c =
    told_of_mesh (parts c.args.mesh.now) c.deref.result.now c.args.mesh.now.cells c.deref-2.result.now
    c.in_ok-found.found.good _ c.in_ok-found.found.text.items c.deref.ensures.value refl c.deref-2.ensures.value
    c.in_ok-found.ensures c.end_of-after.ensures.status

pub returns-clause-sound : goal.returns-clause-sound
returns-clause-sound c = record {
  legal = rw c.new.ensures.items tt;
  writable = tt;
  late = c.end_of-after.ensures.late;
}
