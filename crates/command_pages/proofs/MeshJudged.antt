-- What is told of a mesh that was read.
use Rattle.std.specs.Prelude.{Option, IfSome}
use Rattle.std.proofs.Common.{◌≡◌, ◌∙◌, ◌≤◌, ap, subst, inl, inr, ℕ, Bool, List, cond, length}
use Rattle.list_laws.proofs.Cited.{if_some}
use Rattle.mesh_reader.specs.Grammar.{IsMeshText, MeshParts}
use Rattle.mesh_reader.specs.Order.{IsInOrder}
use Rattle.mesh_check.specs.declared.flaw.Verdict.{Verdict}
use Rattle.mesh_check.specs.declared.flaw.Verdict.TheVariants.{Good, Bad}
use Rattle.mesh_check.specs.Flaws.{as_cells}
use Rattle.mesh_check.specs.Laws.{AreCells, IsTold}
use Rattle.mesh_check.proofs.Cited.{cells_listed}
use Rattle.command_pages.specs.Checked.{IsChecked, IsJudged, TellsVerdict, status_of_verdict}
use Rattle.command_pages.specs.Run.{mesh_limit}

-- its lists are as the check asks for
pub cells_of : (mesh : MeshParts) → IsInOrder mesh → AreCells mesh.points (as_cells mesh.cells mesh.hull)
cells_of mesh o =
    cells_listed mesh.points mesh.cells mesh.hull o.cells.sorted o.hull.sorted o.cells.ascending o.hull.ascending
    o.cells.inside o.hull.inside

-- what is told of its lists is told of the mesh
pub told_of_mesh : (mesh : MeshParts) (points : List ℕ) (cells hull : List (List ℕ)) (good : Bool) (status : ℕ)
    (text : List ℕ) → points ≡ mesh.points → cells ≡ mesh.cells → hull ≡ mesh.hull →
    IsTold points (as_cells cells hull) good text → status ≡ cond good 0 10 → IsJudged mesh status text
told_of_mesh mesh points cells hull good status text p c h t e =
    let of : IsTold mesh.points (as_cells mesh.cells mesh.hull) good text =
    subst (λ (s : List ℕ). IsTold s (as_cells mesh.cells mesh.hull) good text) p
    (subst (λ (l : List (List ℕ)). IsTold points (as_cells l mesh.hull) good text) c
    (subst (λ (l : List (List ℕ)). IsTold points (as_cells cells l) good text) h t)) in
    record {
      verdict = of.verdict;
      is_verdict = of.is_verdict;
      status_is = e ∙ ap (λ (b : Bool). cond b 0 10) of.good_is;
      text_is = of.text_is;
    }

-- and of the bytes that it was read of
pub checked_of : (left : Option (List ℕ)) (mesh : MeshParts) (status : ℕ) (text : List ℕ) →
    IfSome left (λ bytes. (length bytes ≤ mesh_limit) × IsMeshText bytes mesh) → IsJudged mesh status text →
    IfSome left (IsChecked status text)
checked_of left mesh status text m j =
    if_some (λ bytes. (length bytes ≤ mesh_limit) × IsMeshText bytes mesh) (IsChecked status text) left
    (λ bytes w. record { within = w.0; mesh = mesh; is_mesh = w.1; judged = j }) m

-- its status is that of a verdict
pub tells_of : (mesh : MeshParts) (status : ℕ) (text : List ℕ) → IsJudged mesh status text → TellsVerdict status
tells_of mesh status text j = by j.verdict j.status_is
  where
    by : (v : Verdict) → status ≡ status_of_verdict v → TellsVerdict status
    by Good e = inl e
    by (Bad flaw) e = inr e
