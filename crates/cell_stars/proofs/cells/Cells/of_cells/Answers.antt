use Rattle.std.proofs.Common.{ℕ, List, [], Some, subst, ap, sym, ◌∙◌, length, drop, map, ◌≡◌, take, ◌++◌}
use Rattle.list_laws.proofs.Cited.{front_is}
use Rattle.cell_stars.specs.AtOnce.{AreKeyed, AreNumberedTo, FromCellHere, GainsPlaces, HaveKeys, StandsAtHere}
use Rattle.cell_stars.specs.Places.{AreStars, Placed}
use Rattle.cell_stars.specs.Moves.{AreKeysOf, HaveOneKey}
use Rattle.cell_stars.proofs.PartLaws.{ascend_once}
use Rattle.cell_stars.proofs.AtOnce.{all_keyed, are_stars, bare_keyed, cells_are}
use Rattle.cell_stars.proofs.cells.Cells.of_cells.Goals as goal

pub add_all-requires-clause-keyed : goal.add_all-requires-clause-keyed
add_all-requires-clause-keyed c =
    let l = c.in_ok-vertices.vertices.items in
    let keys = c.in_ok-keys.keys.items in
    let stars = c.in_ok-stars.stars.items in
    subst (λ ks. AreKeyed ks c.deref_mut.result.now) (sym c.deref-3.ensures.value)
    (subst (AreKeyed keys) (sym c.deref_mut.ensures.value)
    (bare_keyed l keys stars c.in_ok-vertices.ensures.order
    (subst (λ (v : List ℕ). AreNumberedTo (length v) v keys) c.deref.ensures.value c.in_ok-keys.ensures)
    (c.in_ok-stars.ensures ∙ ap (map (λ p. (p, []))) c.deref-2.ensures.value)))

pub add_all-requires-clause-keys : goal.add_all-requires-clause-keys
add_all-requires-clause-keys c =
    let l = c.in_ok-vertices.vertices.items in
    let keys = c.in_ok-keys.keys.items in
    λ x i. subst (HaveKeys (FromCellHere c.args.grid c.args.number x)) (sym c.deref-3.ensures.value)
    (all_keyed c.args.grid c.args.number c.args.cells.now l keys c.in_ok-vertices.ensures.vertices
    (subst (λ (v : List ℕ). AreNumberedTo (length v) v keys) c.deref.ensures.value c.in_ok-keys.ensures) x i)

pub filed_keys-requires-clause-once : goal.filed_keys-requires-clause-once
filed_keys-requires-clause-once c =
    let l = c.in_ok-vertices.vertices.items in
    let keys = c.in_ok-keys.keys.items in
    subst HaveOneKey (sym c.deref-4.ensures.value)
    (ascend_once keys (bare_keyed l keys c.in_ok-stars.stars.items c.in_ok-vertices.ensures.order
    (subst (λ (v : List ℕ). AreNumberedTo (length v) v keys) c.deref.ensures.value c.in_ok-keys.ensures)
    (c.in_ok-stars.ensures ∙ ap (map (λ p. (p, []))) c.deref-2.ensures.value)).order)

-- the stars are those of the cells
pub invariant_of-made : goal.invariant_of-made
invariant_of-made c =
    let g = c.args.grid in
    let b = c.args.number in
    let cells = c.args.cells.now in
    let l = c.in_ok-vertices.vertices.items in
    let keys = c.in_ok-keys.keys.items in
    let stars = c.in_ok-stars.stars.items in
    let after = c.add_all.new.stars in
    let slots = c.in_ok-made-inside.field-0.items in
    let back = front_is after (drop (length after) stars) c.in_ok-stars.stars.len
    (c.in_ok-stars.stars.ok.0 ∙ sym (ap length c.deref_mut.ensures.value) ∙ sym c.add_all.auto.stars) in
    let gains : GainsPlaces keys (StandsAtHere g b cells (length cells)) stars after =
    subst (λ ks. GainsPlaces ks (StandsAtHere g b cells (length cells)) stars after) c.deref-3.ensures.value
    (subst (λ v. GainsPlaces c.deref-3.result.now (StandsAtHere g b cells (length cells)) v after)
    c.deref_mut.ensures.value c.in_ok-add_all.ensures) in
    let parts = c.in_ok-parts.parts.items in
    let made = are_stars g b cells l keys parts stars after c.requires.order c.requires.touching
    c.in_ok-vertices.ensures.vertices
    (subst (λ (v : List ℕ). AreNumberedTo (length v) v keys) c.deref.ensures.value c.in_ok-keys.ensures)
    (c.in_ok-stars.ensures ∙ ap (map (λ p. (p, []))) c.deref-2.ensures.value) gains c.in_ok-parts.ensures.filed
    (subst (λ v. AreKeysOf v parts) c.deref-4.ensures.value c.in_ok-parts.ensures.keys) in
    let wide = take c.in_ok-stars.stars.len (after ++ drop (length after) stars) in
    let place : c.made.inside.place ≡ Some (g, b) =
    ap (λ (v : Placed). v.place) c.made.view_is ∙ ap (λ (v : Placed). v.place) c.placed-made.ensures in
    subst (λ o. AreStars (record { place = o; slots = slots; keys = parts; stars = wide })) (sym place)
    (subst (λ s. AreStars (record { place = Some (g, b); slots = s; keys = parts; stars = wide }))
    (sym c.in_ok-made-inside.ensures)
    (subst (λ s. AreStars (record { place = Some (g, b); slots = map (λ x. Some x) cells; keys = parts; stars = s }))
    (sym back) made))

pub returns-clause-cells : goal.returns-clause-cells
returns-clause-cells c = cells_are c.args.cells.now c.in_ok-made-inside.field-0.items c.requires.order
    c.in_ok-made-inside.ensures
