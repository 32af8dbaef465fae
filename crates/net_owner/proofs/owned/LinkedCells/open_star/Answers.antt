use Rattle.std.proofs.Common.{sym, ◌∙◌, ◌≡◌, ap, subst, length, arith}
use Rattle.list_laws.specs.Lists.{AreDistinct}
use Rattle.net_digs.specs.Linked.{LinkedView}
use Rattle.cell_slots.specs.Nets.{cells_of_slots}
use Rattle.cell_slots.specs.Stars.{HaveRoom}
use Rattle.cell_slots.proofs.Cited.{moved_few, moved_less}
use Rattle.net_owner.proofs.owned.LinkedCells.open_star.Goals as goal

pub invariant_of-self : goal.invariant_of-self
invariant_of-self c =
    let d = subst (λ (v : LinkedView). AreDistinct v.cells) (sym c.self.view_is) c.requires.1.once in
    let few = moved_less (cells_of_slots c.self.inside.net) (cells_of_slots c.open_at.new.net) d
    c.in_err-star.ensures.refused in
    let room : HaveRoom c.self.inside.net c.self.inside.spare = c.self.invariant in
    let size = c.in_err-star.ensures.size in
    omega (arith, few, room, size)

pub invariant_of-self-2 : goal.invariant_of-self-2
invariant_of-self-2 c =
    let d = subst (λ (v : LinkedView). AreDistinct v.cells) (sym c.self.view_is) c.requires.1.once in
    let few = moved_few (cells_of_slots c.self.inside.net) (cells_of_slots c.open_at.new.net) c.in_ok-star.star d
    c.in_ok-star.ensures.cells in
    let room : HaveRoom c.self.inside.net c.self.inside.spare = c.self.invariant in
    let size = c.in_ok-star.ensures.size in
    let i : c.star.inside.cells.items ≡ c.star.inside.star.gone.items = c.star.invariant in
    let n = ap length (i ∙ c.star.view_is) in
    let len = c.len.ensures in
    let sum = c.saturating_add-self-inside.ensures in
    omega (arith, few, room, size, n, len, sum)

pub returns-clause-more : goal.returns-clause-more
returns-clause-more c =
    let d = subst (λ (v : LinkedView). AreDistinct v.cells) (sym c.self.view_is) c.requires.1.once in
    let few = moved_few (cells_of_slots c.self.inside.net) (cells_of_slots c.open_at.new.net) c.in_ok-star.star d
    c.in_ok-star.ensures.cells in
    let room : HaveRoom c.self.inside.net c.self.inside.spare = c.self.invariant in
    let size = c.in_ok-star.ensures.size in
    let i : c.star.inside.cells.items ≡ c.star.inside.star.gone.items = c.star.invariant in
    let n = ap length (i ∙ c.star.view_is) in
    let slots = c.len-self-inside.ensures in
    let most = c.len-self-inside.type_inv in
    let len = c.len.ensures in
    let sum = c.saturating_add-self-inside.ensures in
    let old = ap (λ (v : LinkedView). v.room) c.self.view_is in
    omega (arith, few, room, size, n, slots, most, len, sum, old)
