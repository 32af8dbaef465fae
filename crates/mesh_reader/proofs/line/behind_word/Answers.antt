use Rattle.std.proofs.Common.{eqb, eq-eqb}
use Rattle.std.proofs.lemmas.Bool.{eqb-true}
use Rattle.std.proofs.lemmas.Slice.Eq.{strip_prefix_is}
use Rattle.mesh_reader.proofs.Decided.{strip_cases}
use Rattle.mesh_reader.proofs.line.behind_word.Goals as goal

pub returns : goal.returns
returns c =
    strip_cases c.args.word.now c.args.line.now c.strip_prefix.result
    (strip_prefix_is {E = eqb} (λ a b. (eqb-true a b, eq-eqb a b)) c.args.line.now c.args.word.now
    c.strip_prefix.result c.strip_prefix.ensures.cases)
