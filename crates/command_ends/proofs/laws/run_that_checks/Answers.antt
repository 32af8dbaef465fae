use Rattle.std.proofs.Common.{◌≡◌, ◌↔◌, ◌<◌, length}
use Rattle.command_pages.specs.Checked.{HasMeshFault}
use Rattle.command_pages.specs.Run.{mesh_limit}
use Rattle.command_ends.proofs.ChecksTold.{bad_mesh, check_completes, check_front, check_written, good_mesh}
use Rattle.command_ends.proofs.ChecksTold.{of_mesh_bytes}
use Rattle.command_ends.proofs.Promised.{of_check}
use Rattle.command_ends.proofs.laws.run_that_checks.Goals as goal

pub returns-clause-statuses : goal.returns-clause-statuses
returns-clause-statuses c = λ r w. (of_check r.ends w).statuses

pub returns-clause-none_kept : goal.returns-clause-none_kept
returns-clause-none_kept c = λ r w. (of_check r.ends w).no_history

pub returns-clause-too_long : goal.returns-clause-too_long
returns-clause-too_long c = λ r w. of_mesh_bytes r.ends w (λ bytes. (r.status ≡ 7) ↔ (mesh_limit < length bytes))
    (λ bytes v. v.too_long)

pub returns-clause-bad_line : goal.returns-clause-bad_line
returns-clause-bad_line c = λ r w late n. of_mesh_bytes r.ends w (λ bytes. (r.status ≡ 5) ↔ HasMeshFault bytes)
    (λ bytes v. v.bad_line n) late

pub returns-clause-bad_mesh : goal.returns-clause-bad_mesh
returns-clause-bad_mesh c = λ r w. bad_mesh r.ends w

pub returns-clause-good : goal.returns-clause-good
returns-clause-good c = λ r w. good_mesh r.ends w

pub returns-clause-written : goal.returns-clause-written
returns-clause-written c = λ r w. check_written r.ends w

pub returns-clause-front : goal.returns-clause-front
returns-clause-front c = λ r w. check_front r.ends w

pub returns-clause-complete : goal.returns-clause-complete
returns-clause-complete c = λ r t w. check_completes r.ends w t
