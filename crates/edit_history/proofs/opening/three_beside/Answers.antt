use Rattle.std.specs.Prelude.{◌≡◌, ℕ, None, Some, is_some}
use Rattle.std.proofs.Common.{sym, ◌∙◌, ap}
use Rattle.edit_history.proofs.Beside.{none_beside, none_off_line, last_beside}
use Rattle.edit_history.proofs.opening.three_beside.Goals as goal

pub returns-in_err-i : goal.returns-in_err-i
returns-in_err-i c = ap is_some c.from_residual.ensures ∙ none_beside c.args.b c.args.absent c.args.points.now
    c.requires c.in_err-i.ensures.place

pub returns-in_err-j : goal.returns-in_err-j
returns-in_err-j c =
    ap is_some c.from_residual-in_err-j.ensures
    ∙ none_off_line c.args.b c.args.absent c.args.points.now c.requires c.in_ok-i.i c.point_at-c.result
    c.in_ok-i.ensures.place c.point_at-c.ensures.point c.key.ensures.bound c.point_at-c.ensures.key
    c.in_err-j.ensures.place

pub returns : goal.returns
returns c =
    last_beside c.args.b c.args.absent c.args.points.now c.requires c.in_ok-i.i c.point_at-c.result
    c.in_ok-i.ensures.place c.point_at-c.ensures.point c.key.ensures.bound c.point_at-c.ensures.key
    c.in_ok-j.field-0 c.point_at-d.result c.in_ok-j.ensures.place c.point_at-d.ensures.point c.first_off_plane.result
    c.first_off_plane.ensures.place
