use Rattle.std.proofs.Common.{◌<◌, ◌∙◌, subst, sym}
use Rattle.cell_stars.proofs.HomeLaws.{touched_at}
use Rattle.cell_stars.proofs.homes.touches_by.Goals as goal

pub returns-then-at-len : goal.returns-then-at-len
returns-then-at-len c =
    let homes = c.args.homes.now in
    touched_at c.args.grid c.args.number homes.grid c.args.at homes.list.items c.args.cell.now c.index.result.now
    c.has_bucket.result (sym c.size.ensures.value ∙ c.if-size.true ∙ c.size-2.ensures.value) c.requires
    (subst (λ n. c.args.at < n) (c.len.ensures ∙ homes.list.ok.0) c.if-at-len.true) c.index.ensures
    c.has_bucket.ensures
