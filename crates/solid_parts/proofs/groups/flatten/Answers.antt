use Rattle.std.proofs.Common.{◌≤◌, length, arith}
use Rattle.solid_parts.proofs.Leading.{all_flat}
use Rattle.solid_parts.proofs.groups.flatten.Goals as goal

pub returns : goal.returns
returns c =
    let past : length c.loop-place.leads ≤ c.loop-place.place = omega
    (arith, c.loop-place-test.false, c.loop-place.auto.leads) in
    all_flat c.args.leads.now c.loop-place.leads c.loop-place.place past c.loop-place.invariant
