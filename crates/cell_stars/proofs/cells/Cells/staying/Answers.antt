use Rattle.std.proofs.Common.{rules, not, ◌∙◌, ap, ℕ, List, ◌++◌}
use Rattle.std.specs.List.{filter}
use Rattle.std.proofs.lemmas.Fn.{filter_same}
use Rattle.point_order.specs.Sets.{is_among}
use Rattle.cell_stars.specs.Places.{star_at}
use Rattle.cell_stars.proofs.KeyLaws.{owned_by}
use Rattle.cell_stars.proofs.PartLaws.{filed_in}
use Rattle.cell_stars.proofs.StayLaws.{stays_are}
use Rattle.cell_stars.proofs.WriteLaws.{held_places}
use Rattle.cell_stars.proofs.cells.Cells.staying.Goals as goal

pub returns : goal.returns
returns c =
    let b = c.args.self.now in
    let freed = c.args.freed.now in
    let own = c.places_in-own.result.now in
    let a = c.requires.order in
    let m = c.requires.marks in
    stays_are b freed own c.retain.new.self.items c.args.p
    (filter_same _ (λ x. not (is_among x freed)) _ (λ x r f k. search rules) _ _ c.retain.ensures.filtered
    ∙ ap (filter (λ x. not (is_among x freed))) (c.in_ok-extend_from_slice.ensures.items
    ∙ ap (λ (l : List ℕ). l ++ own) c.in_ok-list.ensures.items))
    (held_places b c.args.p c.args.n own (filed_in _ _ c.self.view_is c.self.invariant)
    (c.places_in-own.ensures ∙ ap (λ (l : List (ℕ × List ℕ)). owned_by c.args.p (star_at l c.args.n))
    (c.deref.ensures.value ∙ ap (λ v. v.stars) c.self.view_is)) c.requires.number)
