use Rattle.std.proofs.Common.{refl, subst, ◌∙◌, ◌<◌}
use Rattle.nearest_points.specs.Points.{IsNearest}
use Rattle.nearest_points.proofs.Cited.{rank, rank_falls}
use Rattle.near_vertex.proofs.Starts.{none_under}
use Rattle.near_vertex.proofs.walk.nearest.Goals as goal

pub loop-p-init : goal.loop-p-init
loop-p-init c = (refl, c.some_point.ensures)

pub loop-p-preserved : goal.loop-p-preserved
loop-p-preserved c =
    let r = c.requires.shown in
    let m = c.in-Moved.ensures r.0 r.1 (c.loop-p.invariant.1 r.0 r.1) in
    (m.place ∙ c.loop-p.invariant.0, λ s st. (c.in-Moved.ensures s st (c.loop-p.invariant.1 s st)).walk)

pub loop-p-smaller : goal.loop-p-smaller
loop-p-smaller c =
    let r = c.requires.shown in
    let m = c.in-Moved.ensures r.0 r.1 (c.loop-p.invariant.1 r.0 r.1) in
    let f = rank_falls c.loop-p.walk.place c.step.new.self.point c.loop-p.walk.point
    (r.1.keys.below c.step.new.self.point m.walk) m.before in
    subst (λ q. rank q c.step.new.self.point < rank q c.loop-p.walk.point) c.loop-p.invariant.0 f

pub unreachable-requires : goal.unreachable-requires
unreachable-requires c =
    let r = c.requires.shown in
    let m = c.in-Need.ensures r.0 r.1 (c.loop-p.invariant.1 r.0 r.1) in
    none_under c.args.hold.now c.loop-p.walk.point c.requires.whole m.2

pub returns-in-Here : goal.returns-in-Here
returns-in-Here c s st =
    let m = c.in-Here.ensures s st (c.loop-p.invariant.1 s st) in
    subst (λ q. IsNearest s q c.in-Here.p) c.loop-p.invariant.0 m.3
