use Rattle.mesh_reader.specs.Packed.{parts}
use Rattle.command_pages.proofs.MeshJudged.{checked_of, tells_of}
use Rattle.command_pages.proofs.checked.check_source.Goals as goal

pub returns-clause-made : goal.returns-clause-made
returns-clause-made g c =
    checked_of (g.S.Source.left c.args.src.now) (parts c.in_ok-mesh.mesh) _ _ c.in_ok-mesh.ensures.mesh.told
    c.in_ok-judge_read.ensures.judged

pub returns-clause-told : goal.returns-clause-told
returns-clause-told g c = tells_of (parts c.in_ok-mesh.mesh) _ _ c.in_ok-judge_read.ensures.judged
