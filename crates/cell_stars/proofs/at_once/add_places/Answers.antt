use Rattle.std.proofs.Common.{◌∙◌, ◌+◌, sym, subst, ℕ, List}
use Rattle.list_laws.proofs.Cited.{at_place, same_true}
use Rattle.point_order.specs.Sets.{IsIn}
use Rattle.cell_stars.specs.AtOnce.{GainsPlaces}
use Rattle.bucket_grid.specs.Grids.{bucket_of}
use Rattle.cell_stars.proofs.AtOnce.{FirstHere, first_all, first_more, first_none, first_not}
use Rattle.cell_stars.proofs.at_once.add_places.Goals.{then-bucket_of-number+in_ok-add_place, else-bucket_of-number}
use Rattle.cell_stars.proofs.at_once.add_places.Goals as goal

pub loop-p-init : goal.loop-p-init
loop-p-init c = first_none c.args.grid c.args.number c.args.keys.now c.points-p-items.result.now c.args.i
    c.args.stars.now c.requires.keyed

pub add_place-requires-clause-key : goal.add_place-requires-clause-key
add_place-requires-clause-key c =
    let x = c.p-item.result in
    c.requires.keys x (
      subst (λ (l : List ℕ). IsIn x l) c.points-p-items.ensures.points
          (at_place c.points-p-items.result.now c.loop-p.p-index x x c.loop-p-test.true c.p-item.is),
      same_true (bucket_of c.args.grid x) c.args.number (sym c.bucket_of.ensures.number ∙ c.if-bucket_of-number.true),
    )

-- the next point lies in the bucket and its star gains the place, or it does not
pub loop-p-preserved : goal.loop-p-preserved
loop-p-preserved c =
    let g = c.args.grid in
    let b = c.args.number in
    let keys = c.args.keys.now in
    let ps = c.points-p-items.result.now in
    let n = c.loop-p.p-index in
    let i = c.args.i in
    let old = c.args.stars.now in
    let mid = c.loop-p.stars in
    let x = c.p-item.result in
    elim c.if-bucket_of-number.branch [
      | then-bucket_of-number+in_ok-add_place w ↦ subst (GainsPlaces keys (FirstHere g b ps (n + 1) i) old)
          (sym w.stars-is)
          (first_more g b keys ps n i x old mid w.add_place.new.stars c.loop-p-test.true c.p-item.is
          (sym c.bucket_of.ensures.number ∙ w.if-bucket_of-number.true) c.loop-p.invariant w.in_ok-add_place.ensures)
      | else-bucket_of-number w ↦ subst (GainsPlaces keys (FirstHere g b ps (n + 1) i) old) (sym w.stars-is)
          (first_not g b keys ps n i x old mid c.loop-p-test.true c.p-item.is
          (λ e. w.if-bucket_of-number.false (c.bucket_of.ensures.number ∙ e)) c.loop-p.invariant)
    ]

pub returns : goal.returns
returns c =
    first_all c.args.grid c.args.number c.args.keys.now c.args.cell.now c.points-p-items.result.now c.loop-p.p-index
    c.args.i
    c.args.stars.now c.loop-p.stars c.points-p-items.ensures.points c.loop-p-test.false c.loop-p.invariant
