-- What is told of lists, by the verdict on them.
use Rattle.std.proofs.Common.{◌≡◌, List, ℕ}
use Rattle.std.specs.Prelude.{IfOk, Result, Ok, Err}
use Rattle.std.specs.declared.alloc.AllocError.{AllocError}
use Rattle.point_order.specs.declared.cell.Cell.{Cell}
use Rattle.mesh_check.specs.declared.flaw.Verdict.{Verdict}
use Rattle.mesh_check.specs.declared.text.Told.{Told}
use Rattle.mesh_check.specs.Flaws.{IsVerdict}
use Rattle.mesh_check.specs.Text.{is_good, verdict_text}
use Rattle.mesh_check.specs.Laws.{IsTold}

-- what a verdict tells is told: whether the lists are good, and the text
pub told_by : (s : List ℕ) (l : List Cell) (v : Verdict) (r : Result Told AllocError) → IsVerdict s l v →
    IfOk r (λ told. told.good ≡ is_good v) → IfOk r (λ told. told.text.items ≡ verdict_text s v) →
    IfOk r (λ told. IsTold s l told.good told.text.items)
told_by s l v (Ok told) is g t = record { verdict = v; is_verdict = is; good_is = g; text_is = t }
told_by s l v (Err e) is g t = tt
