-- A page of which nothing is written.
use Rattle.std.proofs.Common.{◌≡◌, inl, ℕ, List, []}
use Rattle.std.specs.Prelude.{Option, Result, Ok, Err, IfErr, IsErrAnd}
use Rattle.std.proofs.KnownBytes.{Keeps-refl}
use Rattle.mesh_files.specs.Summary.{summary_text}
use Rattle.mesh_files.specs.Text.{ReportParts, report_text}
use Rattle.command_pages.specs.declared.made.Form.{Form}
use Rattle.command_pages.specs.declared.made.Form.TheVariants.{Whole, Summary}
use Rattle.command_words.specs.declared.stop.Stop.{Stop}
use Rattle.command_words.specs.declared.stop.Stop.TheVariants.{Memory}
use Rattle.command_pages.specs.Puts.{IsUnput}
use Rattle.command_pages.specs.Page.{text_of_form}

-- nothing was written where memory was wanting
pub unwritten : {T : Type 0} (failed : Type 0) (held : Option (List ℕ)) (text : List ℕ) (m : Result T Stop) →
    IsErrAnd m (λ e. e ≡ Memory) → IfErr m (IsUnput failed held held text)
unwritten failed held text (Ok v) a = tt
unwritten failed held text (Err s) a = inl (a, Keeps-refl held)

-- a report has bytes in each form
pub report_has_bytes : (form : Form) (r : ReportParts) → text_of_form form r ≡ [] → ⊥
unfolding report_text summary_text
report_has_bytes Whole r e = cc
report_has_bytes Summary r e = cc
