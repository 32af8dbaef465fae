use Rattle.std.specs.Prelude.{◌≡◌, Bool, true, false, ◌∷◌}
use Rattle.std.proofs.Common.{sym, ◌∙◌, ap}
use Rattle.point_order.specs.Sets.{is_among, without_point}
use Rattle.point_order.specs.Solid.{is_solid}
use Rattle.edit_history.proofs.Moving.{does_move, does_not_move, places_differ, solid_moved}
use Rattle.edit_history.proofs.point_set.PointSet.reply_of_move.Goals as goal

pub returns-then-is_solid_with : goal.returns-then-is_solid_with
returns-then-is_solid_with c =
    let a = c.args.a in
    let b = c.args.b in
    let s = c.args.self.now in
    let there = sym (c.in-Ok.ensures.there ∙ ap (is_among a) (c.deref.ensures.value ∙ c.self.view_is)) in
    let free = sym (c.in-Err-search.ensures.there ∙ ap (is_among b) (c.deref-in-Ok.ensures.value ∙ c.self.view_is)) in
    let same = c.deref-in-Err-search.ensures.value ∙ c.self.view_is in
    let solid = sym (c.is_solid_with.ensures ∙ ap (λ l. is_solid (b ∷ without_point a l)) same ∙ solid_moved a b s
    (places_differ a b s there free)) in
    sym (does_move a b s (record { there = there; free = free; solid = solid ∙ c.if-is_solid_with.true }))

pub returns-else-is_solid_with : goal.returns-else-is_solid_with
returns-else-is_solid_with c =
    let a = c.args.a in
    let b = c.args.b in
    let s = c.args.self.now in
    let there = sym (c.in-Ok.ensures.there ∙ ap (is_among a) (c.deref.ensures.value ∙ c.self.view_is)) in
    let free = sym (c.in-Err-search.ensures.there ∙ ap (is_among b) (c.deref-in-Ok.ensures.value ∙ c.self.view_is)) in
    let same = c.deref-in-Err-search.ensures.value ∙ c.self.view_is in
    let solid = sym (c.is_solid_with.ensures ∙ ap (λ l. is_solid (b ∷ without_point a l)) same ∙ solid_moved a b s
    (places_differ a b s there free)) in
    sym (does_not_move a b s there free (solid ∙ c.if-is_solid_with.false))
