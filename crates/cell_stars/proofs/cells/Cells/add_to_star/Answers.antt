use Rattle.std.proofs.Common.{◌≡◌, ◌∙◌, ap, drop, length, List, subst, sym}
use Rattle.list_laws.proofs.Cited.{front_is}
use Rattle.point_order.specs.Sets.{IsIn}
use Rattle.cell_stars.specs.Adding.{AreStarsHere, HasStarAt, IsOneMore, Numbered}
use Rattle.cell_stars.proofs.AddLaws.{adds_one, adds_starless}
use Rattle.cell_stars.proofs.cells.Cells.add_to_star.Goals as goal

pub star_for-requires : goal.star_for-requires
star_for-requires c = subst (AreStarsHere c.args.self.now.place) (sym c.deref.ensures.value) c.requires

pub returns-in_ok-add_at-in-Some : goal.returns-in_ok-add_at-in-Some
returns-in_ok-add_at-in-Some c =
    let ws = c.args.writes.now in
    let new = c.add_at.new.writes in
    let at = c.in-Some.at in
    let e = front_is new (drop (length new) ws.items) ws.len
    (ws.ok.0 ∙ sym (ap length c.deref_mut.ensures.value) ∙ sym c.add_at.auto.writes) in
    rw e (adds_one c.args.self.now.place c.args.p c.args.i at ws.items new c.requires
    (subst (λ (l : List Numbered). HasStarAt l at c.args.p) c.deref.ensures.value c.in-Some.ensures)
    (subst (λ
    (l : List Numbered). IsOneMore at c.args.i l new) c.deref_mut.ensures.value c.in_ok-add_at-in-Some.ensures))

pub returns-in-None : goal.returns-in-None
returns-in-None c =
    adds_starless c.args.p c.args.i c.args.writes.now.items
    (subst (λ (l : List Numbered). (w : Numbered) → IsIn w l → w.1.0 ≡ c.args.p → ⊥) c.deref.ensures.value
    c.in-None.ensures)
