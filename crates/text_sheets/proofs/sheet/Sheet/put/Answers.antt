use Rattle.std.proofs.Common.{refl}
use Rattle.text_sheets.proofs.Sheets.{tried}
use Rattle.text_sheets.proofs.sheet.Sheet.put.Goals as goal

pub returns : goal.returns
returns g c = tried c.put.result c.if-self.false c.is_err-self.ensures.value refl c.put.ensures.flows
    c.put.ensures.front c.put.ensures.cause
