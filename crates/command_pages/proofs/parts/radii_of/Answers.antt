use Rattle.std.proofs.Common.{◌≡◌, sym, subst, Bool}
use Rattle.std.specs.Prelude.{IfOk}
use Rattle.command_pages.specs.Page.{radii_of}
use Rattle.command_pages.proofs.parts.radii_of.Goals as goal

pub returns-then-shape : goal.returns-then-shape
returns-then-shape c =
    subst (λ (shape : Bool). IfOk c.from_slice.result (λ v. v.items ≡ radii_of shape c.args.radii.now))
    (sym c.if-shape.true) c.from_slice.ensures.items
