use Rattle.std.proofs.Common.{ℕ, List, ◌∙◌, ap, subst}
use Rattle.round_table.specs.Rounds.{AreParted}
use Rattle.round_table.specs.Closed.{claims_in_all}
use Rattle.round_table.proofs.Shut.{claims_same}
use Rattle.round_table.proofs.table.RoundTable.close.Goals as goal

pub returns-clause-parted : goal.returns-clause-parted
returns-clause-parted g c =
    let claims = ap claims_in_all c.in_ok-place.ensures.hands ∙ claims_same c.args.workers.items in
    subst (λ (t : List g.row.T.Denot × List ℕ). AreParted t.0 t.1 c.in_ok-rest.rest.items)
    (λ i. ((c.self.view_is i).contents, claims i)) c.in_ok-rest.ensures
