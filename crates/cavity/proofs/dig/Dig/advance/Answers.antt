use Rattle.std.proofs.Common.{sym, ◌∙◌, ap, subst, ◌<◌, ◌≤◌, length, arith, List}
use Rattle.list_laws.proofs.Cited.{at_none, in_take}
use Rattle.point_order.specs.declared.cell.Cell.{Cell}
use Rattle.point_order.specs.Facets.{points_of}
use Rattle.point_order.specs.Sets.{IsIn}
use Rattle.cavity.specs.Digs.{Digging, IsDoneIn}
use Rattle.hole_laws.specs.Digs.{facets_of_first}
use Rattle.cell_store.specs.Missing.{ArePointsHeld, IsBucketMissing, IsCellMissing}
use Rattle.cavity.specs.Lists.{IsPast, IsAtPlace}
use Rattle.cell_store.specs.Ready.{AreHeld}
use Rattle.cell_store.proofs.Cited.{cell_missing, cells_all, solid_set}
use Rattle.cavity.proofs.Advancing.{GoesOn, goes_on_first, cell_needed, none_needed, next_at, next_new, goes_further}
use Rattle.cavity.proofs.Advancing.{goes_below, cells_in_hand}
use Rattle.cavity.proofs.dig.Dig.advance.Goals as goal

pub returns-in-Some-clause-turn : goal.returns-in-Some-clause-turn
returns-in-Some-clause-turn c h st k =
    cell_needed c.args.hold.now h c.args.self.now c.explored.result.now c.in-Some.b
    (λ q m. in_take c.args.self.now.explored c.args.self.now.found q (subst (λ (l : List Cell). IsIn q l)
    c.explored.ensures m)) k c.in-Some.ensures

pub loop-cell-init : goal.loop-cell-init
loop-cell-init c =
    subst (λ (d : Digging). GoesOn c.args.hold.now c.args.self.now d) (sym c.self.view_is)
    (goes_on_first c.args.hold.now c.args.self.now (subst (λ (l : List Cell). AreHeld c.args.hold.now l)
    c.explored.ensures
    (at_none c.missing_bucket_of_spots.result (AreHeld c.args.hold.now c.explored.result.now)
    (λ b. IsCellMissing c.args.hold.now c.explored.result.now b) c.in_default.not-Some
    c.missing_bucket_of_spots.ensures)))

pub returns-in-Some-missing_bucket_of_points-clause-point : goal.returns-in-Some-missing_bucket_of_points-clause-point
returns-in-Some-missing_bucket_of_points-clause-point c = c.loop-cell.invariant.point

pub returns-in-Some-missing_bucket_of_points-clause-digs : goal.returns-in-Some-missing_bucket_of_points-clause-digs
returns-in-Some-missing_bucket_of_points-clause-digs c = c.loop-cell.invariant.digs

pub returns-in-Some-missing_bucket_of_points-clause-turn : goal.returns-in-Some-missing_bucket_of_points-clause-turn
returns-in-Some-missing_bucket_of_points-clause-turn c h st k =
    let d : Digging = (record {
      point = c.loop-cell.self-inside.point;
      found =
          c.loop-cell.self-inside.judged;
      explored = c.loop-cell.self-inside.explored;
      rim =
          c.loop-cell.self-inside.rim.items;
    }) in
    cell_needed c.args.hold.now h d d.found c.in-Some-missing_bucket_of_points.b (λ q m. m)
    (c.loop-cell.invariant.digs h st k)
    (cell_missing c.args.hold.now d.found d.explored c.in-Some-get.cell c.points.result.now
    c.in-Some-missing_bucket_of_points.b c.in-Some-get.ensures.cell.below c.in-Some-get.ensures.cell.at
    (c.points.ensures.points ∙ ap points_of c.cell.ensures) c.in-Some-missing_bucket_of_points.ensures)

pub explore-requires-clause-shown : goal.explore-requires-clause-shown
explore-requires-clause-shown c =
    let r = c.requires in
    let d : Digging = (record {
      point = c.loop-cell.self-inside.point;
      found =
          c.loop-cell.self-inside.judged;
      explored = c.loop-cell.self-inside.explored;
      rim =
          c.loop-cell.self-inside.rim.items;
    }) in
    let k = c.loop-cell.invariant.digs r.0 r.1 r.2 in
    let i = solid_set c.args.hold.now r.0 r.1 in
    let less : d.explored < length d.found = c.in-Some-get.ensures.cell.below in (
      r.0,
      r.1,
      facets_of_first d.explored d.found,
      next_at r.0 i d k c.in-Some-get.cell less c.in-Some-get.ensures.cell.at,
      next_new r.0 i d k c.in-Some-get.cell less c.in-Some-get.ensures.cell.at,
    )

pub loop-cell-smaller : goal.loop-cell-smaller
loop-cell-smaller c =
    let r = c.requires in
    let d : Digging = (record {
      point = c.loop-cell.self-inside.point;
      found =
          c.loop-cell.self-inside.judged;
      explored = c.loop-cell.self-inside.explored;
      rim =
          c.loop-cell.self-inside.rim.items;
    }) in
    let few : d.explored < length (cells_in_hand c.args.hold.now.places) =
    goes_below c.args.hold.now c.args.self.now d c.in-Some-get.cell c.points.result.now c.loop-cell.invariant
    c.in-Some-get.ensures.cell.below c.in-Some-get.ensures.cell.at
    (c.points.ensures.points ∙ ap points_of c.cell.ensures)
    (at_none c.missing_bucket_of_points.result (ArePointsHeld c.args.hold.now c.points.result.now)
    (λ b. IsBucketMissing c.args.hold.now c.points.result.now b) c.in_default-missing_bucket_of_points.not-Some
    c.missing_bucket_of_points.ensures) r.0 r.1 r.2 in
    omega arith

pub loop-cell-preserved : goal.loop-cell-preserved
loop-cell-preserved c =
    let d : Digging = (record {
      point = c.loop-cell.self-inside.point;
      found =
          c.loop-cell.self-inside.judged;
      explored = c.loop-cell.self-inside.explored;
      rim =
          c.loop-cell.self-inside.rim.items;
    }) in
    goes_further c.args.hold.now c.args.self.now d c.in-Some-get.cell c.points.result.now c.loop-cell.invariant
    c.in-Some-get.ensures.cell.below c.in-Some-get.ensures.cell.at
    (c.points.ensures.points ∙ ap points_of c.cell.ensures)
    (at_none c.missing_bucket_of_points.result (ArePointsHeld c.args.hold.now c.points.result.now)
    (λ b. IsBucketMissing c.args.hold.now c.points.result.now b) c.in_default-missing_bucket_of_points.not-Some
    c.missing_bucket_of_points.ensures) c.explore.new.judged c.explore.new.rim.items c.in_ok-explore.ensures.more
    c.in_ok-explore.ensures.explored

pub returns-clause-point : goal.returns-clause-point
returns-clause-point c = c.loop-cell.invariant.point

pub returns-clause-digs : goal.returns-clause-digs
returns-clause-digs c = c.loop-cell.invariant.digs

pub returns-clause-turn : goal.returns-clause-turn
returns-clause-turn c h st k =
    let d : Digging = (record {
      point = c.loop-cell.self-inside.point;
      found =
          c.loop-cell.self-inside.judged;
      explored = c.loop-cell.self-inside.explored;
      rim =
          c.loop-cell.self-inside.rim.items;
    }) in
    let most : length d.found ≤ d.explored = at_none c.get.result (IsPast d.found d.explored)
    (λ cell. IsAtPlace d.found d.explored cell) c.in_default-get.not-Some c.get.ensures.cell in
    let done : IsDoneIn h d = record {
      solid = solid_set c.args.hold.now h st;
      dig =
          c.loop-cell.invariant.digs h st k;
      all = most;
    } in
    let held = cells_all c.args.hold.now d.found d.explored most c.loop-cell.invariant.held in
    (none_needed c.args.hold.now h d done held, done, held)
