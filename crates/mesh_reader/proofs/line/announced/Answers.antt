use Rattle.std.proofs.Common.{sym, ◌∙◌, None, Some}
use Rattle.mesh_reader.proofs.Decided.{announced_by}
use Rattle.mesh_reader.proofs.line.announced.Goals as goal

pub returns-in_err-behind_word : goal.returns-in_err-behind_word
returns-in_err-behind_word c =
    c.from_residual.ensures
    ∙ sym (announced_by c.args.part c.args.line.now c.as_bytes.result.now None (c.as_bytes.ensures.value
    ∙ c.word_of.ensures) c.in_err-behind_word.ensures)

pub returns : goal.returns
returns c =
    c.number_of.ensures.value
    ∙ sym (announced_by c.args.part c.args.line.now c.as_bytes.result.now (Some c.in_ok-behind_word.field-0.now)
    (c.as_bytes.ensures.value ∙ c.word_of.ensures) c.in_ok-behind_word.ensures)
