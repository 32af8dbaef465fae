use Rattle.std.proofs.Common.{ap, arith, sym, take, ◌∙◌}
use Rattle.std.proofs.lemmas.List.{take_all}
use Rattle.cavity.specs.Digs.{Digging}
use Rattle.cavity.proofs.dig.Dig.explored.Goals as goal

pub returns-then-self-found : goal.returns-then-self-found
returns-then-self-found c =
    ap (take c.self.inside.explored) c.goes-found.ensures ∙ ap (λ (d : Digging). take d.explored d.found) c.self.view_is

pub returns-else-self-found : goal.returns-else-self-found
returns-else-self-found c =
    sym (take_all c.self.inside.explored c.goes-found.result.now (omega arith))
    ∙ ap (take c.self.inside.explored) c.goes-found.ensures ∙ ap (λ (d : Digging). take d.explored d.found)
    c.self.view_is
