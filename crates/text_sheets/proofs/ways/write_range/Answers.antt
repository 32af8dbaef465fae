use Rattle.std.proofs.Common.{◌≡◌, ◌∙◌, rules}
use Rattle.text_sheets.proofs.Sheets.{closed}
use Rattle.text_sheets.proofs.ways.write_range.Goals as goal

pub returns : goal.returns
returns g c =
    let name = c.close.ensures.lent ∙ c.put_range.ensures.lent ∙ c.new-sheet.ensures.lent in
    let left : c.close.new.self.out.now ≡ c.out-1.given.0 = search (rules, name) in
    closed c.close.result left c.new-sheet.ensures c.put_range.ensures c.close.ensures
