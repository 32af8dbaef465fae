use Rattle.std.proofs.Common.{◌∙◌, [], true}
use Rattle.std.specs.List.{filter}
use Rattle.edit_history.specs.OneThread.{tagged_lines}
use Rattle.point_history.specs.Logs.{is_picked}
use Rattle.point_history.proofs.MoreLines.{picked_both}
use Rattle.point_history.proofs.entries.history_of_points.Goals as goal

pub returns : goal.returns
returns c =
    let four = filter (λ line. is_picked true c.args.four line.0) (tagged_lines c.args.points.now []) in
    (c.in_ok-add_picked-2.ensures four (c.in_ok-add_picked.ensures [] c.in_ok-log.ensures)).0 ∙ picked_both
    c.args.points.now c.args.four c.requires.found
