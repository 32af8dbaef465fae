-- the points that are left decide
use Rattle.std.proofs.Common.{◌≡◌, drop, not}
use Rattle.std.specs.List.{filter}
use Rattle.point_order.specs.Sets.{is_among}
use Rattle.gabriel_faces.specs.Gabriel.{is_gabriel}
use Rattle.alpha_complex.proofs.owns.is_free_of_others.Given as goal

abbrev pub invariant-loop-p : goal.invariant-loop-p
invariant-loop-p l =
    is_gabriel (filter (λ p. not (is_among p l.face)) (drop l.p-index l.points)) l.face
    ≡ is_gabriel (filter (λ p. not (is_among p l.face)) l.points) l.face
