use Rattle.cell_stars.specs.Places.{star_at}
use Rattle.cell_stars.proofs.WriteLaws.{full_by}
use Rattle.cell_stars.proofs.writes.is_own.Goals as goal

pub returns : goal.returns
returns c = full_by (star_at c.args.stars.now c.args.n) c.args.p c.places_in.result.now c.is_empty.result
    c.places_in.ensures c.is_empty.ensures
