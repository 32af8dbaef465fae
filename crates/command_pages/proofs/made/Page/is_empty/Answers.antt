use Rattle.std.proofs.Common.{◌≡◌, ◌∙◌, sym, ap, true, false}
use Rattle.command_pages.specs.Page.{report_of_parts, text_of_page}
use Rattle.command_pages.proofs.Unwritten.{report_has_bytes}
use Rattle.command_pages.proofs.made.Page.is_empty.Goals as goal

pub returns-in-Report : goal.returns-in-Report
returns-in-Report c = (
  λ t. (let f : false ≡ true = t in absurd (cc f)),
  λ e. absurd (report_has_bytes c.in-Report.field-0 (report_of_parts c.in-Report.field-1)
      (ap text_of_page (sym c.in-Report.is) ∙ e)),
)
