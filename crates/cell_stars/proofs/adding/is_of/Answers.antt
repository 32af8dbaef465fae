use Rattle.std.proofs.Common.{◌∙◌, ap, eqb, ℕ}
use Rattle.cell_stars.proofs.AddLaws.{star_is}
use Rattle.cell_stars.proofs.adding.is_of.Goals as goal

pub returns : goal.returns
returns c =
    star_is c.args.writes.now c.args.at c.args.p c.index-writes-at.result c.eq.result c.if-at-writes.false
    c.index-writes-at.is (c.eq.ensures ∙ ap (λ (n : ℕ). eqb n c.args.p) c.vertex.ensures)
