use Rattle.std.proofs.Common.{[], ◌∷◌, ◌∙◌, refl, subst, sym, List, ℕ}
use Rattle.point_order.specs.declared.cell.Cell.{Cell}
use Rattle.cell_slots.specs.Clouds.{AreCellsOf}
use Rattle.cell_slots.specs.Nets.{cells_of_slots}
use Rattle.cell_slots.specs.Parts.{ArePut}
use Rattle.net_digs.proofs.Growing.{grown_set, others_new}
use Rattle.cell_slots.proofs.Cited.{put_whole}
use Rattle.cell_net.proofs.Cited.{whole_within}
use Rattle.net_digs.proofs.grow.net_of_points.Goals as goal

pub put_points-requires : goal.put_points-requires
put_points-requires c =
    let four = c.four_of-a.result.0 ∷ c.four_of-a.result.1 ∷ c.four_of-a.result.2 ∷ c.four_of-a.result.3 ∷ [] in
    let old = cells_of_slots c.in_ok-net.net in
    let begun : AreCellsOf four old = subst (λ (l : List Cell). AreCellsOf four l)
    (sym (c.in_ok-net.ensures ∙ c.deref.ensures.value)) c.in_ok-cells.ensures in
    rw c.deref-2.ensures.value (
      whole_within four old begun,
      others_new c.args.points.now c.in_ok-turns.turns.items four c.requires.ascending c.in_ok-turns.ensures,
    )

pub returns : goal.returns
returns c =
    let four = c.four_of-a.result.0 ∷ c.four_of-a.result.1 ∷ c.four_of-a.result.2 ∷ c.four_of-a.result.3 ∷ [] in
    let turns = c.in_ok-turns.turns.items in
    let old = cells_of_slots c.in_ok-net.net in
    let new = cells_of_slots c.put_points.new.net in
    let begun : AreCellsOf four old = subst (λ (l : List Cell). AreCellsOf four l)
    (sym (c.in_ok-net.ensures ∙ c.deref.ensures.value)) c.in_ok-cells.ensures in
    let left = c.in_ok-put_points.field-0.items in
    let done : ArePut turns left old new = rw c.deref-2.ensures.value at c.in_ok-put_points.ensures.put in
    let all : ArePut turns [] old new = subst (λ (l : List ℕ). ArePut turns l old new)
    (c.in_ok-put_points.ensures.all refl refl) done in
    grown_set c.args.points.now turns four new c.requires.ascending c.in_ok-turns.ensures c.four_of-a.ensures.among
    (put_whole four turns [] old new all begun
    (others_new c.args.points.now turns four c.requires.ascending c.in_ok-turns.ensures))
