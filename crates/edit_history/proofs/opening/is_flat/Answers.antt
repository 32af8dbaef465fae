use Rattle.std.proofs.Common.{◌∙◌}
use Rattle.edit_history.proofs.Planes.{flat_steps, zero_test}
use Rattle.edit_history.proofs.opening.is_flat.Goals as goal

pub returns : goal.returns
returns c =
    let u = c.between-u.ensures in
    let v = c.between-v.ensures in
    let w = c.between-w.ensures in
    let e = flat_steps c.args.a c.args.b c.args.c c.args.d c.triple.result c.between-u.result.x c.between-u.result.y
    c.between-u.result.z c.between-v.result.x c.between-v.result.y c.between-v.result.z c.between-w.result.x
    c.between-w.result.y c.between-w.result.z (record { x_is = u.x; y_is = u.y; z_is = u.z })
    (record { x_is = v.x; y_is = v.y; z_is = v.z }) (record { x_is = w.x; y_is = w.y; z_is = w.z })
    c.triple.ensures.value in
    zero_test c.triple.result c.triple.ensures.bound ∙ e
