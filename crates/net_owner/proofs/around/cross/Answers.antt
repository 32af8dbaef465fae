use Rattle.std.specs.Prelude.{◌∷◌, [], ◌≡◌, ◌⊎◌, false, ℕ}
use Rattle.std.proofs.Common.{sym, ◌∙◌, subst}
use Rattle.list_laws.proofs.Cited.{among_from, among_true, not_both}
use Rattle.point_order.specs.declared.cell.Cell.{Cell}
use Rattle.point_order.specs.Facets.{facets_of, points_of, points_on}
use Rattle.point_order.specs.Sets.{IsIn}
use Rattle.del_laws.specs.Nearest.{comes_before}
use Rattle.cell_slots.specs.Clouds.{HasOtherIn}
use Rattle.cell_slots.specs.Nets.{cells_of_slots}
use Rattle.net_owner.proofs.Nearing.{looked_more}
use Rattle.net_digs.proofs.Cited.{crossed_apart, crossed_before, crossed_now}
use Rattle.cell_net.proofs.Cited.{other_of, some_other}
use Rattle.net_owner.proofs.around.cross.Goals as goal

pub returns-then-not-has-clause-crossed : goal.returns-then-not-has-clause-crossed
returns-then-not-has-clause-crossed c s k crossed t =
    crossed_apart s c.args.aim.now.point crossed c.args.facet.now c.args.around.now t
    (λ j. not_both c.has.result (c.has.ensures ∙ among_true c.args.aim.now.point (points_on c.args.facet.now) j)
    c.if-not-has.true)

-- the cell was found before
pub returns-then-has_other-clause-crossed : goal.returns-then-has_other-clause-crossed
returns-then-has_other-clause-crossed c s k crossed t =
    let h = subst (λ (q : Cell). HasOtherIn c.args.around.now q c.args.facet.now) c.cell.ensures
    (c.has_other.ensures c.if-has_other.true) in
    crossed_before s c.args.aim.now.point crossed c.args.facet.now c.args.around.now t k.solid.set c.args.spot.now h.0
    c.requires.among c.requires.facet
    (other_of s (cells_of_slots c.args.net.now) k c.args.spot.now c.args.facet.now h.0
    (record { listed = c.requires.looked.among h.0 h.1.listed; has = h.1.has; differs = h.1.differs }))
    h.1.listed

pub cell_across-other-requires : goal.cell_across-other-requires
cell_across-other-requires c =
    let r = c.requires.cells in
    some_other r.0 (cells_of_slots c.args.net.now) r.1 c.args.spot.now c.args.facet.now
    (c.requires.looked.among c.args.spot.now c.requires.among) c.requires.facet

pub is_behind_across-requires : goal.is_behind_across-requires
is_behind_across-requires c =
    subst (λ (q : Cell). IsIn c.args.facet.now (facets_of q)) (sym c.cell-2.ensures) c.cell_across-other.ensures.has

-- the cell is found now
pub returns-clause-looked : goal.returns-clause-looked
returns-clause-looked c =
    let r = c.requires.cells in
    rw c.in_ok-add.ensures
    (looked_more r.0 c.args.aim.now.place c.args.aim.now.point (cells_of_slots c.args.net.now) c.args.around.now
    c.args.spot.now c.cell_across-other.result c.args.facet.now r.1 c.requires.looked c.requires.among c.requires.facet
    c.cell_across-other.ensures
    (subst (λ (q : Cell). (y : ℕ) → IsIn y (points_of q) → IsIn y (points_on c.args.facet.now)
    ⊎ (comes_before c.args.aim.now.place y c.args.aim.now.point ≡ false)) c.cell-2.ensures
    (c.is_behind_across.ensures c.if-is_behind_across.false)))

pub returns-clause-more : goal.returns-clause-more
returns-clause-more c = (c.cell_across-other.result ∷ [], c.in_ok-add.ensures)

pub returns-clause-crossed : goal.returns-clause-crossed
returns-clause-crossed c s k crossed t =
    let x = c.cell_across-other.result in
    rw c.in_ok-add.ensures
    (crossed_now s c.args.aim.now.point crossed c.args.facet.now c.args.around.now t k.solid.set c.args.spot.now x
    c.requires.among c.requires.facet
    (other_of s (cells_of_slots c.args.net.now) k c.args.spot.now c.args.facet.now x c.cell_across-other.ensures)
    (among_from c.args.aim.now.point (points_on c.args.facet.now) (sym c.has.ensures ∙ c.if-not-has.false)))
