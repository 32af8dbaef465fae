use Rattle.std.proofs.Common.{ℕ, List, ap₂}
use Rattle.edit_history.specs.declared.history.Edit.{Edit}
use Rattle.edit_files.specs.Held.{lines_in_order}
use Rattle.edit_files.proofs.file.File.lines.Goals as goal

pub returns : goal.returns
returns c = ap₂ (λ (p : List ℕ) (e : List Edit). lines_in_order p e) c.deref.ensures.value c.deref-2.ensures.value
