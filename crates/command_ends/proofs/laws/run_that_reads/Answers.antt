use Rattle.std.proofs.Common.{◌≡◌, ◌↔◌, ◌<◌, false, length}
use Rattle.point_order.specs.Solid.{is_solid}
use Rattle.edit_files.specs.Content.{Content}
use Rattle.edit_files.specs.Grammar.{IsFile}
use Rattle.command_pages.specs.Run.{file_limits, HasFault, input_limit}
use Rattle.command_ends.proofs.Promised.{of_verdict}
use Rattle.command_ends.proofs.laws.run_that_reads.Goals as goal

pub returns-clause-too_long : goal.returns-clause-too_long
returns-clause-too_long c = λ r. of_verdict r.ends (λ bytes. (r.status ≡ 7) ↔ (input_limit < length bytes))
    (λ bytes v. v.too_long)

pub returns-clause-bad_line : goal.returns-clause-bad_line
returns-clause-bad_line c = λ r w late n. of_verdict r.ends (λ bytes. (r.status ≡ 5) ↔ HasFault bytes)
    (λ bytes v. v.bad_line n) w late

pub returns-clause-not_solid : goal.returns-clause-not_solid
returns-clause-not_solid c = λ r w late n. of_verdict r.ends (λ bytes. (file : Content) →
    IsFile file_limits bytes file → (r.status ≡ 6) ↔ (is_solid file.points ≡ false)) (λ bytes v. v.not_solid n) w late
