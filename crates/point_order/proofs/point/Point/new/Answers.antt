use Rattle.std.proofs.Common.{ap, ◌∙◌, inl, inr, pos, refl}
use Rattle.whole_ring.proofs.Cited.{read}
use Rattle.point_order.proofs.Keys.{x_of_packed, y_of_packed, z_of_packed}
use Rattle.point_order.proofs.Readings.{given, given_coordinate, packed_below, too_great, too_small}
use Rattle.point_order.proofs.point.Point.new.Goals.{then-x-lt0-via-then-x-lt0}
use Rattle.point_order.proofs.point.Point.new.Goals.{then-x-lt0-via-else-x-lt0+then-x-gt16383}
use Rattle.point_order.proofs.point.Point.new.Goals.{then-y-lt0-via-then-y-lt0}
use Rattle.point_order.proofs.point.Point.new.Goals.{then-y-lt0-via-else-y-lt0+then-y-gt16383}
use Rattle.point_order.proofs.point.Point.new.Goals.{then-z-lt0-via-then-z-lt0}
use Rattle.point_order.proofs.point.Point.new.Goals.{then-z-lt0-via-else-z-lt0+then-z-gt16383}
use Rattle.point_order.proofs.point.Point.new.Goals as goal

pub returns-then-x-lt0-clause-refused : goal.returns-then-x-lt0-clause-refused
returns-then-x-lt0-clause-refused c =
    inl (
      refl,
      read c.ranges.x,
      elim c.then-x-lt0.branch [
        | then-x-lt0-via-then-x-lt0 w ↦ too_small c.ranges.x w.if-x-lt0.true
        | then-x-lt0-via-else-x-lt0+then-x-gt16383 w ↦ too_great c.ranges.x w.if-x-gt16383.true
      ],
    )

pub returns-then-y-lt0-clause-refused : goal.returns-then-y-lt0-clause-refused
returns-then-y-lt0-clause-refused c =
    let x = given_coordinate (given c.ranges.x c.if-x-lt0.false c.if-x-gt16383.false) in
    inr (inl (
      refl,
      read c.ranges.y,
      x,
      elim c.then-y-lt0.branch [
        | then-y-lt0-via-then-y-lt0 w ↦ too_small c.ranges.y w.if-y-lt0.true
        | then-y-lt0-via-else-y-lt0+then-y-gt16383 w ↦ too_great c.ranges.y w.if-y-gt16383.true
      ],
    ))

-- the first number that is out of range is refused
pub returns-then-z-lt0-clause-refused : goal.returns-then-z-lt0-clause-refused
returns-then-z-lt0-clause-refused c =
    let x = given_coordinate (given c.ranges.x c.if-x-lt0.false c.if-x-gt16383.false) in
    let y = given_coordinate (given c.ranges.y c.if-y-lt0.false c.if-y-gt16383.false) in
    inr (inr (
      refl,
      read c.ranges.z,
      x,
      y,
      elim c.then-z-lt0.branch [
        | then-z-lt0-via-then-z-lt0 w ↦ too_small c.ranges.z w.if-z-lt0.true
        | then-z-lt0-via-else-z-lt0+then-z-gt16383 w ↦ too_great c.ranges.z w.if-z-gt16383.true
      ],
    ))

pub returns-clause-made : goal.returns-clause-made
returns-clause-made c =
    let x = given c.ranges.x c.if-x-lt0.false c.if-x-gt16383.false in
    let y = given c.ranges.y c.if-y-lt0.false c.if-y-gt16383.false in
    let z = given c.ranges.z c.if-z-lt0.false c.if-z-gt16383.false in (
      ap pos (x_of_packed _ _ _ x.below y.below z.below) ∙ x.same,
      ap pos (y_of_packed _ _ _ y.below z.below) ∙ y.same,
      ap pos (z_of_packed _ _ _ z.below) ∙ z.same,
    )

pub invariant_of-result : goal.invariant_of-result
invariant_of-result c =
    let x = given c.ranges.x c.if-x-lt0.false c.if-x-gt16383.false in
    let y = given c.ranges.y c.if-y-lt0.false c.if-y-gt16383.false in
    let z = given c.ranges.z c.if-z-lt0.false c.if-z-gt16383.false in
    packed_below _ _ _ x.below y.below z.below

pub returns-clause-key : goal.returns-clause-key
returns-clause-key c =
    let x = given c.ranges.x c.if-x-lt0.false c.if-x-gt16383.false in
    let y = given c.ranges.y c.if-y-lt0.false c.if-y-gt16383.false in
    let z = given c.ranges.z c.if-z-lt0.false c.if-z-gt16383.false in
    packed_below _ _ _ x.below y.below z.below
