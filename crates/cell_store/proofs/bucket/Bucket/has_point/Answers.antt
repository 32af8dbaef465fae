use Rattle.std.proofs.Common.{◌∙◌, ap}
use Rattle.std.proofs.lemmas.List.Sorted.{searched}
use Rattle.list_laws.proofs.Cited.{climbs}
use Rattle.point_order.specs.Sets.{is_among}
use Rattle.edit_history.proofs.Cited.{search_there}
use Rattle.cell_store.proofs.bucket.Bucket.has_point.Goals as goal

pub returns : goal.returns
returns c =
    let s = c.points.result.now in
    let r = c.binary_search.result in
    c.is_ok.ensures.value
    ∙ search_there s c.args.p r (searched s c.args.p r c.binary_search.ensures.position
    (climbs s (rw c.points.ensures.points c.points.ensures.ascending)))
    ∙ ap (is_among c.args.p) c.points.ensures.points
