-- A member of a list of three points, and one of four.
use Rattle.std.specs.Prelude.{ℕ}
use Rattle.std.proofs.Common.{inl, inr, subst}
use Rattle.list_laws.proofs.Cited.{of_three}
use Rattle.del_laws.specs.Cells.{OneOf}

-- what holds of four points holds of one of them
pub of_four : (P : ℕ → Type 0) {e a b c d : ℕ} → OneOf e a b c d → P a → P b → P c → P d → P e
of_four P m pa pb pc pd = elim m [ inl q ↦ subst P q pa | inr r ↦ of_three P r pb pc pd ]
