use Rattle.std.proofs.Common.{sym, ◌∙◌, ◌≡◌, ap, subst, length, arith}
use Rattle.list_laws.specs.Lists.{AreDistinct}
use Rattle.net_digs.specs.Linked.{LinkedView}
use Rattle.cell_slots.specs.Nets.{cells_of_slots}
use Rattle.cell_slots.specs.Stars.{HaveRoom}
use Rattle.cell_slots.proofs.Cited.{first_distinct, moved_few}
use Rattle.net_owner.proofs.owned.LinkedCells.open_star_here.Goals as goal

pub invariant_of-self-in-Some : goal.invariant_of-self-in-Some
invariant_of-self-in-Some c =
    let d = subst (λ (v : LinkedView). AreDistinct v.cells) (sym c.self.view_is)
    (first_distinct c.args.self.now.cells c.requires.others c.requires.cells_of.once) in
    let o = rw c.in-Some.is at c.in_ok-found.ensures.opened in
    let few = moved_few (cells_of_slots c.self.inside.net) (cells_of_slots c.opened.new.net) c.in-Some.star d o.moved in
    let room : HaveRoom c.self.inside.net c.self.inside.spare = c.self.invariant in
    let size = c.in_ok-found.ensures.size in
    let i : c.star.inside.cells.items ≡ c.star.inside.star.gone.items = c.star.invariant in
    let n = ap length (i ∙ c.star.view_is) in
    let len = c.len.ensures in
    let sum = c.saturating_add-self-inside.ensures in
    omega (arith, few, room, size, n, len, sum)

pub returns-in-Some-clause-room : goal.returns-in-Some-clause-room
returns-in-Some-clause-room c =
    let d = subst (λ (v : LinkedView). AreDistinct v.cells) (sym c.self.view_is)
    (first_distinct c.args.self.now.cells c.requires.others c.requires.cells_of.once) in
    let o = rw c.in-Some.is at c.in_ok-found.ensures.opened in
    let few = moved_few (cells_of_slots c.self.inside.net) (cells_of_slots c.opened.new.net) c.in-Some.star d o.moved in
    let room : HaveRoom c.self.inside.net c.self.inside.spare = c.self.invariant in
    let size = c.in_ok-found.ensures.size in
    let i : c.star.inside.cells.items ≡ c.star.inside.star.gone.items = c.star.invariant in
    let n = ap length (i ∙ c.star.view_is) in
    let slots = c.len-self-inside.ensures in
    let most = c.len-self-inside.type_inv in
    let len = c.len.ensures in
    let sum = c.saturating_add-self-inside.ensures in
    let old = ap (λ (v : LinkedView). v.room) c.self.view_is in
    omega (arith, few, room, size, n, slots, most, len, sum, old)
