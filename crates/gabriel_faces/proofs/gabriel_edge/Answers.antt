use Rattle.std.proofs.Common.{◌∙◌, [], ◌∷◌}
use Rattle.gabriel_faces.proofs.JudgedByLink.{judged_by_link}
use Rattle.gabriel_faces.proofs.gabriel_edge.Goals as goal

pub returns-clause-over_link : goal.returns-clause-over_link
returns-clause-over_link c = c.is_edge_empty.ensures

pub returns-clause-over_set : goal.returns-clause-over_set
returns-clause-over_set c s i k F L =
    c.is_edge_empty.ensures ∙ judged_by_link s (c.args.a ∷ c.args.b ∷ []) c.args.link.now i k F L
