use Rattle.std.proofs.Common.{sym, ◌≡◌, subst, List, ℕ, false}
use Rattle.std.specs.Prelude.{MatchOption}
use Rattle.list_laws.proofs.Cited.{at_none}
use Rattle.point_order.specs.declared.cell.Cell.{Cell}
use Rattle.point_order.specs.Sets.{IsIn, without_point}
use Rattle.point_order.specs.Solid.{is_solid}
use Rattle.hole_laws.specs.Edits.{IsLinkSet}
use Rattle.cell_store.specs.Ready.{AreHeld}
use Rattle.cell_store.specs.Missing.{IsCellMissing}
use Rattle.cell_store.proofs.Cited.{solid_set}
use Rattle.gift_wrap.specs.Near.{AreTaken, IsStar}
use Rattle.vertex_removal.specs.Turns.{IsNeededAround, RefillGives}
use Rattle.vertex_removal.specs.declared.refill.RefillTurn.TheVariants.{Done, Flat}
use Rattle.vertex_removal.proofs.Holes.{still_there}
use Rattle.vertex_removal.proofs.Star.{held_once, star_once}
use Rattle.vertex_removal.proofs.RefillTurns.{star_needs, none_needed, refill_done}
use Rattle.vertex_removal.proofs.refill.Refill.advance.Goals.{in-Some-2+in_ok-fresh-in-Some-2, in-None}
use Rattle.vertex_removal.proofs.refill.Refill.advance.Goals as goal

pub returns-in-Some-clause-turn : goal.returns-in-Some-clause-turn
returns-in-Some-clause-turn c h st =
    subst (λ (v : ℕ). IsNeededAround c.args.hold.now h v c.in-Some.b) c.self.view_is
    (star_needs c.args.hold.now h c.self.inside.point c.deref.result.now c.in-Some.b
    (subst (λ (l : List Cell). IsStar h c.self.inside.point l) (sym c.deref.ensures.value)
    (c.in_ok-star.ensures h st))
    c.in-Some.ensures)

pub near_set-requires : goal.near_set-requires
near_set-requires c =
    let r = c.requires.shown in
    record {
      held = subst (λ (l : List Cell). AreHeld c.args.hold.now l) (sym c.deref-2.ensures.value)
          (held_once c.args.hold.now c.in_ok-star.star.items c.cells_once-gone.result.items
          c.cells_once-gone.ensures.cells
          (subst (λ (l : List Cell). AreHeld c.args.hold.now l) c.deref.ensures.value
          (at_none c.missing_bucket.result (AreHeld c.args.hold.now c.deref.result.now)
          (λ b. IsCellMissing c.args.hold.now c.deref.result.now b) c.in_default.not-Some c.missing_bucket.ensures)));
      set = r.0;
      shown = r.1;
      star_is = subst (λ (l : List Cell). IsStar r.0 c.self.inside.point l) (sym c.deref-2.ensures.value)
          (star_once r.0 c.self.inside.point c.in_ok-star.star.items c.cells_once-gone.result.items
          c.cells_once-gone.ensures.cells (c.in_ok-star.ensures r.0 r.1));
    }

pub cells_coming-requires : goal.cells_coming-requires
cells_coming-requires c =
    let r = c.requires.shown in
    let v = c.self.inside.point in
    let m = subst (λ (x : ℕ). IsIn x r.0) (sym c.self.view_is) r.2 in
    let near = subst (λ o. MatchOption o (is_solid (without_point v r.0) ≡ false) (λ t. IsLinkSet r.0 v t.items))
    c.in-Some-2.is (c.in_ok-near.ensures r.0 r.1 m
    (subst (λ (l : List Cell). IsStar r.0 v l) (sym c.deref-2.ensures.value)
    (star_once r.0 c.self.inside.point c.in_ok-star.star.items c.cells_once-gone.result.items
    c.cells_once-gone.ensures.cells (c.in_ok-star.ensures r.0 r.1)))) in
    record {
      set = r.0;
      is_set = (solid_set c.args.hold.now r.0 r.1).set;
      has_v = m;
      link = subst (λ (t : List ℕ). IsLinkSet r.0 v t) (sym c.deref-in-Some-2.ensures.value) near;
      star_is = subst (λ (l : List Cell). IsStar r.0 v l) (sym c.deref-in-Some-2-2.ensures.value)
          (star_once r.0 c.self.inside.point c.in_ok-star.star.items c.cells_once-gone.result.items
          c.cells_once-gone.ensures.cells (c.in_ok-star.ensures r.0 r.1));
    }

-- the turn asks for a needed bucket, or knows what comes, or that the rest is flat
pub returns-clause-turn : goal.returns-clause-turn
returns-clause-turn c =
    let held = at_none c.missing_bucket.result (AreHeld c.args.hold.now c.deref.result.now)
    (λ b. IsCellMissing c.args.hold.now c.deref.result.now b) c.in_default.not-Some c.missing_bucket.ensures in
    let star = held_once c.args.hold.now c.in_ok-star.star.items c.cells_once-gone.result.items
    c.cells_once-gone.ensures.cells (subst (λ (l : List Cell). AreHeld c.args.hold.now l) c.deref.ensures.value held) in
    elim c.match-branch-3.branch [
      | in-Some-2+in_ok-fresh-in-Some-2 w ↦ rw w.result-is (λ h st. (
          let r = c.requires.shown in
          let m = still_there c.args.hold.now r.0 h c.args.self.now r.1 st c.requires.held r.2 in
          let n = subst (λ (v : ℕ). IsIn v h) (sym c.self.view_is) m in
          let l = subst (λ o. MatchOption o (is_solid (without_point c.self.inside.point h) ≡ false)
          (λ t. IsLinkSet h c.self.inside.point t.items)) w.in-Some-2.is
          (c.in_ok-near.ensures h st n (subst (λ (g : List Cell). IsStar h c.self.inside.point g)
          (sym c.deref-2.ensures.value)
          (star_once h c.self.inside.point c.in_ok-star.star.items c.cells_once-gone.result.items
          c.cells_once-gone.ensures.cells (c.in_ok-star.ensures h st)))) in
          let f = subst (λ (t : List ℕ). AreTaken t c.self.inside.point w.in_ok-fresh-in-Some-2.fresh.items)
          w.deref-in-Some-2.ensures.value w.in_ok-fresh-in-Some-2.ensures in
          subst (λ (v : ℕ). RefillGives c.args.hold.now h v (Done
          (record { gone = c.cells_once-gone.result; fresh = w.in_ok-fresh-in-Some-2.fresh }))) c.self.view_is
          (refill_done c.args.hold.now h c.self.inside.point w.in-Some-2.near.items c.cells_once-gone.result.items
          w.in_ok-fresh-in-Some-2.fresh.items (solid_set c.args.hold.now h st).set n l
          (star_once h c.self.inside.point c.in_ok-star.star.items c.cells_once-gone.result.items
          c.cells_once-gone.ensures.cells (c.in_ok-star.ensures h st))
          c.cells_once-gone.ensures.once star f)))
      | in-None w ↦ rw w.result-is (λ h st. (
          let r = c.requires.shown in
          let m = still_there c.args.hold.now r.0 h c.args.self.now r.1 st c.requires.held r.2 in
          let n = subst (λ (v : ℕ). IsIn v h) (sym c.self.view_is) m in
          let l = subst (λ o. MatchOption o (is_solid (without_point c.self.inside.point h) ≡ false)
          (λ t. IsLinkSet h c.self.inside.point t.items)) w.in-None.is
          (c.in_ok-near.ensures h st n (subst (λ (g : List Cell). IsStar h c.self.inside.point g)
          (sym c.deref-2.ensures.value)
          (star_once h c.self.inside.point c.in_ok-star.star.items c.cells_once-gone.result.items
          c.cells_once-gone.ensures.cells (c.in_ok-star.ensures h st)))) in
          subst (λ (v : ℕ). RefillGives c.args.hold.now h v Flat) c.self.view_is (
            none_needed c.args.hold.now h c.self.inside.point c.cells_once-gone.result.items
                (star_once h c.self.inside.point c.in_ok-star.star.items c.cells_once-gone.result.items
                c.cells_once-gone.ensures.cells (c.in_ok-star.ensures h st)) star,
            l,
          )))
    ]
