use Rattle.std.proofs.Common.{◌≡◌, ◌≤◌, List, ℕ, length, subst, sym}
use Rattle.list_laws.proofs.Cited.{if_some}
use Rattle.mesh_reader.specs.Grammar.{IsMeshText}
use Rattle.mesh_reader.specs.Packed.{parts}
use Rattle.command_pages.specs.Run.{mesh_limit}
use Rattle.command_pages.proofs.checked.mesh_of_text.Goals as goal

pub returns-in-Ok-clause-mesh : goal.returns-in-Ok-clause-mesh
returns-in-Ok-clause-mesh g c =
    let t = c.in_ok-reader.ensures.taken in
    let read : List ℕ → Type 0 = λ bytes. (length bytes ≤ mesh_limit) × IsMeshText bytes (parts c.in-Ok.mesh) in
    record {
      in_order = c.in-Ok.ensures.order;
      told = if_some (λ told. told ≡ c.in_ok-reader.reader) read (g.S.Source.left c.args.src.now)
          (λ told e. subst read (sym e) (t.within, c.in-Ok.ensures.accepted)) t.told;
    }
