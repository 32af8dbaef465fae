use Rattle.std.proofs.Common.{◌∙◌, ap, sym, ◌+◌, is_some, Some, None}
use Rattle.std.specs.Option.{option_map}
use Rattle.edit_history.specs.OneThread.{places}
use Rattle.edit_history.proofs.OpeningSolid.{no_first, no_second, no_third, at_fourth, second_found, third_found}
use Rattle.edit_history.proofs.OpeningSolid.{fourth_found}
use Rattle.edit_history.proofs.opening.four_but.Goals as goal

pub returns-in_err-i-clause-solid : goal.returns-in_err-i-clause-solid
returns-in_err-i-clause-solid c =
    let found = no_first c.args.absent c.args.points.now (sym c.in_err-i.ensures.place) in
    ap is_some c.from_residual.ensures ∙ found.solid

pub returns-in_err-j : goal.returns-in_err-j
returns-in_err-j c =
    let absent = c.args.absent in
    let s = c.args.points.now in
    let i = c.in_ok-i.i in
    let first = sym c.in_ok-i.ensures.place in
    let a = c.point_at-a.ensures.point in
    let found =
    no_second absent s i first (second_found absent s i c.point_at-a.result None a c.in_err-j.ensures.place) in
    record {
      four = c.from_residual-in_err-j.ensures ∙ sym (ap (option_map places) found.four);
      solid = ap is_some c.from_residual-in_err-j.ensures ∙ found.solid;
    }

-- no kept point is off the line of the first two: none is answered, and the kept points are not solid
pub returns-in_err-k : goal.returns-in_err-k
returns-in_err-k c =
    let absent = c.args.absent in
    let s = c.args.points.now in
    let i = c.in_ok-i.i in
    let first = sym c.in_ok-i.ensures.place in
    let a = c.point_at-a.ensures.point in
    let m = c.in_ok-j.field-0 in
    let second = second_found absent s i c.point_at-a.result (Some m) a c.in_ok-j.ensures.place in
    let j = i + 1 + m in
    let b = c.point_at-b.ensures.point in
    let key_a = c.point_at-a.ensures.key in
    let key_b = c.point_at-b.ensures.key in
    let found = no_third absent s i first m second key_a key_b
    (third_found absent s i j c.point_at-a.result c.point_at-b.result None a b c.in_err-k.ensures.place) in
    record {
      four = c.from_residual-in_err-k.ensures ∙ sym (ap (option_map places) found.four);
      solid = ap is_some c.from_residual-in_err-k.ensures ∙ found.solid;
    }

-- none is off the plane of the three: none is answered, and the kept points are not solid
pub returns-in_err-l : goal.returns-in_err-l
returns-in_err-l c =
    let absent = c.args.absent in
    let s = c.args.points.now in
    let i = c.in_ok-i.i in
    let first = sym c.in_ok-i.ensures.place in
    let a = c.point_at-a.ensures.point in
    let m = c.in_ok-j.field-0 in
    let second = second_found absent s i c.point_at-a.result (Some m) a c.in_ok-j.ensures.place in
    let j = i + 1 + m in
    let b = c.point_at-b.ensures.point in
    let key_a = c.point_at-a.ensures.key in
    let key_b = c.point_at-b.ensures.key in
    let n = c.in_ok-k.field-0 in
    let third = third_found absent s i j c.point_at-a.result c.point_at-b.result (Some n) a b c.in_ok-k.ensures.place in
    let k = j + 1 + n in
    let d = c.point_at-c.ensures.point in
    let found = at_fourth absent s i first m second key_a key_b n third None
    (fourth_found absent s i j k c.point_at-a.result c.point_at-b.result c.point_at-c.result None a b d
    c.in_err-l.ensures.place) in
    record {
      four = c.from_residual-in_err-l.ensures ∙ sym (ap (option_map places) found.four);
      solid = ap is_some c.from_residual-in_err-l.ensures ∙ found.solid;
    }

-- all four are found, and the kept points are solid
pub returns : goal.returns
returns c =
    let absent = c.args.absent in
    let s = c.args.points.now in
    let i = c.in_ok-i.i in
    let first = sym c.in_ok-i.ensures.place in
    let a = c.point_at-a.ensures.point in
    let m = c.in_ok-j.field-0 in
    let second = second_found absent s i c.point_at-a.result (Some m) a c.in_ok-j.ensures.place in
    let j = i + 1 + m in
    let b = c.point_at-b.ensures.point in
    let key_a = c.point_at-a.ensures.key in
    let key_b = c.point_at-b.ensures.key in
    let n = c.in_ok-k.field-0 in
    let third = third_found absent s i j c.point_at-a.result c.point_at-b.result (Some n) a b c.in_ok-k.ensures.place in
    let k = j + 1 + n in
    let d = c.point_at-c.ensures.point in
    let found = at_fourth absent s i first m second key_a key_b n third (Some c.in_ok-l.field-0)
    (fourth_found absent s i j k c.point_at-a.result c.point_at-b.result c.point_at-c.result
    (Some c.in_ok-l.field-0) a b d c.in_ok-l.ensures.place) in
    record { four = sym (ap (option_map places) found.four); solid = found.solid }
