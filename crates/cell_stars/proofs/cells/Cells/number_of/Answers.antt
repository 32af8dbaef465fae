use Rattle.std.proofs.Common.{ap, subst, sym, ◌∙◌, ◌≡◌, ℕ}
use Rattle.point_order.specs.Sets.{IsIn}
use Rattle.cell_stars.specs.Places.{part_of, star_at}
use Rattle.cell_stars.specs.Moves.{IsOwnNumber}
use Rattle.cell_stars.proofs.KeyLaws.{Parts}
use Rattle.cell_stars.proofs.PartLaws.{part_ascends}
use Rattle.cell_stars.proofs.WriteLaws.{own_number, no_own, no_own_at}
use Rattle.cell_stars.proofs.cells.Cells.number_of.Goals as goal

pub place_of-requires : goal.place_of-requires
place_of-requires c = part_ascends c.self.inside.keys.items c.args.p c.part_for-keys.result.now c.self.invariant.order
    (c.part_for-keys.ensures ∙ ap (λ (ks : Parts). part_of ks c.args.p) c.deref.ensures.value)

pub returns-then-is_own : goal.returns-then-is_own
returns-then-is_own c =
    let b = c.args.self.now in
    let p = c.args.p in
    let keys = c.part_for-keys.result.now in
    let part : keys ≡ part_of b.keys p = c.part_for-keys.ensures
    ∙ ap (λ (ks : Parts). part_of ks p) (c.deref.ensures.value ∙ ap (λ v. v.keys) c.self.view_is) in
    let stars = c.deref-in-Ok.result.now in
    let k = c.index-keys-i.result in
    subst (λ (m : ℕ × ℕ). IsOwnNumber b p m.1) c.index-keys-i.is
    (own_number b keys stars p c.in-Ok.i k part (c.deref-in-Ok.ensures.value ∙ ap (λ v. v.stars) c.self.view_is)
    c.in-Ok.ensures c.index-keys-i.is
    (subst (λ (m : ℕ × ℕ). ((star_at stars m.1).0 ≡ p) × ((j : ℕ) × IsIn j (star_at stars m.1).1))
    (sym c.index-keys-i.is) (rw c.if-is_own.true at c.is_own.ensures)))

pub returns-else-is_own : goal.returns-else-is_own
returns-else-is_own c =
    let b = c.args.self.now in
    let p = c.args.p in
    let keys = c.part_for-keys.result.now in
    let own : keys ≡ part_of c.self.inside.keys.items p = c.part_for-keys.ensures
    ∙ ap (λ (ks : Parts). part_of ks p) c.deref.ensures.value in
    let stars = c.deref-in-Ok.result.now in
    no_own b keys stars p c.in-Ok.i c.index-keys-i.result
    (own ∙ ap (λ v. part_of v.keys p) c.self.view_is) (c.deref-in-Ok.ensures.value ∙ ap (λ v. v.stars) c.self.view_is)
    (part_ascends c.self.inside.keys.items p keys c.self.invariant.order own) c.in-Ok.ensures c.index-keys-i.is
    (subst (λ (m : ℕ × ℕ). (star_at stars m.1).0 ≡ p → (j : ℕ) → IsIn j (star_at stars m.1).1 → ⊥)
    (sym c.index-keys-i.is) (rw c.if-is_own.false at c.is_own.ensures))

pub returns-in-Err : goal.returns-in-Err
returns-in-Err c = no_own_at c.args.self.now c.part_for-keys.result.now c.args.p c.in-Err.field-0
    (c.part_for-keys.ensures ∙ ap (λ (ks : Parts). part_of ks c.args.p)
    (c.deref.ensures.value ∙ ap (λ v. v.keys) c.self.view_is)) c.in-Err.ensures
