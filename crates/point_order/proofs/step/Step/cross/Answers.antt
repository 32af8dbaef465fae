use Rattle.std.proofs.Common.{lit<, w64}
use Rattle.whole_ring.proofs.Cited.{within_read}
use Rattle.point_order.proofs.Readings.{minor_read}
use Rattle.point_order.proofs.step.Step.cross.Goals as goal

pub returns-clause-x : goal.returns-clause-x
returns-clause-x c =
    let u = c.args.self in
    let v = c.args.v in
    minor_read u.y_within u.z_within v.y_within v.z_within c.minor_of.ensures.value c.minor_of.ensures.bound

pub returns-clause-y : goal.returns-clause-y
returns-clause-y c =
    let u = c.args.self in
    let v = c.args.v in
    minor_read u.z_within u.x_within v.z_within v.x_within c.minor_of-2.ensures.value c.minor_of-2.ensures.bound

pub returns-clause-z : goal.returns-clause-z
returns-clause-z c =
    let u = c.args.self in
    let v = c.args.v in
    minor_read u.x_within u.y_within v.x_within v.y_within c.minor_of-3.ensures.value c.minor_of-3.ensures.bound

pub minor_of-requires-clause-first : goal.minor_of-requires-clause-first
minor_of-requires-clause-first c = within_read w64 c.args.self.y_within (lit< tt)

pub minor_of-requires-clause-second : goal.minor_of-requires-clause-second
minor_of-requires-clause-second c = within_read w64 c.args.self.z_within (lit< tt)

pub minor_of-requires-clause-third : goal.minor_of-requires-clause-third
minor_of-requires-clause-third c = within_read w64 c.args.v.y_within (lit< tt)

pub minor_of-requires-clause-fourth : goal.minor_of-requires-clause-fourth
minor_of-requires-clause-fourth c = within_read w64 c.args.v.z_within (lit< tt)

pub minor_of-requires-2-clause-first : goal.minor_of-requires-2-clause-first
minor_of-requires-2-clause-first c = within_read w64 c.args.self.z_within (lit< tt)

pub minor_of-requires-2-clause-second : goal.minor_of-requires-2-clause-second
minor_of-requires-2-clause-second c = within_read w64 c.args.self.x_within (lit< tt)

pub minor_of-requires-2-clause-third : goal.minor_of-requires-2-clause-third
minor_of-requires-2-clause-third c = within_read w64 c.args.v.z_within (lit< tt)

pub minor_of-requires-2-clause-fourth : goal.minor_of-requires-2-clause-fourth
minor_of-requires-2-clause-fourth c = within_read w64 c.args.v.x_within (lit< tt)

pub minor_of-requires-3-clause-first : goal.minor_of-requires-3-clause-first
minor_of-requires-3-clause-first c = within_read w64 c.args.self.x_within (lit< tt)

pub minor_of-requires-3-clause-second : goal.minor_of-requires-3-clause-second
minor_of-requires-3-clause-second c = within_read w64 c.args.self.y_within (lit< tt)

pub minor_of-requires-3-clause-third : goal.minor_of-requires-3-clause-third
minor_of-requires-3-clause-third c = within_read w64 c.args.v.x_within (lit< tt)

pub minor_of-requires-3-clause-fourth : goal.minor_of-requires-3-clause-fourth
minor_of-requires-3-clause-fourth c = within_read w64 c.args.v.y_within (lit< tt)

pub invariant_of-result : goal.invariant_of-result
invariant_of-result c = record {
  x_within = within_read w64 c.minor_of.ensures.bound (lit< tt);
  y_within = within_read w64 c.minor_of-2.ensures.bound (lit< tt);
  z_within = within_read w64 c.minor_of-3.ensures.bound (lit< tt);
}
