use Rattle.edit_outcomes.proofs.Anchoring.{first_within, found_four, fourth_within, second_within, third_within}
use Rattle.edit_outcomes.proofs.anchors.points_at.Goals as goal

pub point_at-requires : goal.point_at-requires
point_at-requires c = first_within c.args.points.now c.args.four c.requires

pub point_at-requires-2 : goal.point_at-requires-2
point_at-requires-2 c = second_within c.args.points.now c.args.four c.requires

pub point_at-requires-3 : goal.point_at-requires-3
point_at-requires-3 c = third_within c.args.points.now c.args.four c.requires

pub point_at-requires-4 : goal.point_at-requires-4
point_at-requires-4 c = fourth_within c.args.points.now c.args.four c.requires

pub returns : goal.returns
returns c =
    found_four c.args.points.now c.args.four c.requires c.point_at.result c.point_at-2.result c.point_at-3.result
    c.point_at-4.result c.point_at.ensures c.point_at-2.ensures c.point_at-3.ensures c.point_at-4.ensures
