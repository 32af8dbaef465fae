use Rattle.std.proofs.lemmas.List.{take_rest}
use Rattle.text_readings.proofs.Cuts.{fields_cut, fields_whole}
use Rattle.text_readings.proofs.scan.first_field.Goals as goal

pub returns-in-Some : goal.returns-in-Some
returns-in-Some c =
    rw take_rest (fields_cut c.args.line.now c.in-Some.end c.in-Some.ensures.found.0 c.in-Some.ensures.found.1
    c.in-Some.ensures.before)

pub returns-in-None : goal.returns-in-None
returns-in-None c = fields_whole c.args.line.now c.in-None.ensures.found
