use Rattle.std.proofs.Common.{◌∙◌}
use Rattle.edit_history.proofs.Planes.{normal_steps, read_back}
use Rattle.edit_history.proofs.opening.is_collinear.Goals as goal

pub returns : goal.returns
returns c =
    let u = c.between-u.ensures in
    let v = c.between-v.ensures in
    let e = normal_steps c.args.a c.args.b c.args.c c.triple-x.result c.triple-y.result c.triple-z.result
    c.between-u.result.x c.between-u.result.y c.between-u.result.z c.between-v.result.x c.between-v.result.y
    c.between-v.result.z (record { x_is = u.x; y_is = u.y; z_is = u.z })
    (record { x_is = v.x; y_is = v.y; z_is = v.z }) c.triple-x.ensures.value c.triple-y.ensures.value
    c.triple-z.ensures.value in
    let x = read_back c.triple-x.result c.triple-x.ensures.bound in
    let y = read_back c.triple-y.result c.triple-y.ensures.bound in
    let z = read_back c.triple-z.result c.triple-z.ensures.bound in
    rw (x, y, z) at c.are_zero.ensures ∙ e
