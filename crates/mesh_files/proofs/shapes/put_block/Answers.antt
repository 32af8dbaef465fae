use Rattle.std.proofs.Common.{◌≡◌, ◌∙◌, rules}
use Rattle.text_sheets.proofs.Cited.{closed}
use Rattle.mesh_files.proofs.shapes.put_block.Goals as goal

pub returns : goal.returns
returns g c =
    let name = c.close.ensures.lent ∙ c.put_shape.ensures.lent ∙ c.new-sheet.ensures.lent in
    let left : c.close.new.self.out.now ≡ c.out-1.given.0 = search (rules, name) in
    closed c.close.result left c.new-sheet.ensures c.put_shape.ensures c.close.ensures
