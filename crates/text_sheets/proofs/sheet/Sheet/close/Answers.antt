use Rattle.std.proofs.Common.{refl}
use Rattle.text_sheets.proofs.Sheets.{wrote}
use Rattle.text_sheets.proofs.sheet.Sheet.close.Goals as goal

pub returns : goal.returns
returns g c = wrote c.flush.result c.if-self.false refl c.flush.ensures.whole c.flush.ensures.front
    c.flush.ensures.cause
