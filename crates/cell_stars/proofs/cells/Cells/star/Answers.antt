use Rattle.std.proofs.Common.{subst, ap, sym, ◌∙◌, ℕ, ◌≡◌, List, [], refl}
use Rattle.point_order.specs.Sets.{IsIn}
use Rattle.cell_stars.specs.Places.{Placed, IsStarred, IsStarredBy, part_of, star_at}
use Rattle.cell_stars.proofs.KeyLaws.{Keys, Parts, owned_by, star_here, no_star}
use Rattle.cell_stars.proofs.PartLaws.{part_ascends, part_cost}
use Rattle.cell_stars.proofs.cells.Cells.star.Goals as goal

pub place_counted-requires : goal.place_counted-requires
place_counted-requires g c = part_ascends c.self.inside.keys.items c.args.p c.part_for-keys.result.now
    c.self.invariant.order (c.part_for-keys.ensures ∙ ap (λ (ks : Parts). part_of ks c.args.p) c.deref.ensures.value)

pub returns-in-Ok-clause-places : goal.returns-in-Ok-clause-places
returns-in-Ok-clause-places g c =
    let p = c.args.p in
    let star = c.places_in.result.now in
    let keys = c.part_for-keys.result.now in
    let stars = c.self.inside.stars.items in
    let k = c.index-keys-i.result in
    let part : keys ≡ part_of c.self.inside.keys.items p = c.part_for-keys.ensures
    ∙ ap (λ (ks : Parts). part_of ks p) c.deref.ensures.value in
    subst (λ (b : Placed). (x : ℕ) → (IsIn x star → IsStarred b.keys b.stars p x)
    × (IsStarred b.keys b.stars p x → IsIn x star)) c.self.view_is
    (subst (λ (ks : Keys). (x : ℕ) → (IsIn x star → IsStarredBy ks stars p x)
    × (IsStarredBy ks stars p x → IsIn x star)) part
    (star_here keys stars p c.in-Ok.i k star (part_ascends c.self.inside.keys.items p keys c.self.invariant.order part)
    c.in-Ok.ensures.found c.index-keys-i.is
    (c.places_in.ensures
    ∙ ap (λ (m : ℕ × ℕ). owned_by p (star_at c.deref-in-Ok.result.now m.1)) (sym c.index-keys-i.is)
    ∙ ap (λ (ss : List (ℕ × List ℕ)). owned_by p (star_at ss k.1)) c.deref-in-Ok.ensures.value)))

pub returns-in-Err-clause-places : goal.returns-in-Err-clause-places
returns-in-Err-clause-places g c =
    let p = c.args.p in
    let none : List ℕ = [] in
    let keys = c.part_for-keys.result.now in
    let stars = c.self.inside.stars.items in
    let part : keys ≡ part_of c.self.inside.keys.items p = c.part_for-keys.ensures
    ∙ ap (λ (ks : Parts). part_of ks p) c.deref.ensures.value in
    subst (λ (b : Placed). (x : ℕ) → (IsIn x none → IsStarred b.keys b.stars p x)
    × (IsStarred b.keys b.stars p x → IsIn x none)) c.self.view_is
    (subst (λ (ks : Keys). (x : ℕ) → (IsIn x none → IsStarredBy ks stars p x)
    × (IsStarredBy ks stars p x → IsIn x none)) part
    (no_star keys stars p c.in-Err.field-0 none c.in-Err.ensures.found refl))

pub returns-in-Ok-clause-cost : goal.returns-in-Ok-clause-cost
returns-in-Ok-clause-cost g c = part_cost c.args.self.now.keys c.args.p _ c.part_for-keys.result.now
    (c.part_for-keys.ensures ∙ ap (λ (ks : Parts). part_of ks c.args.p)
    (c.deref.ensures.value ∙ ap (λ v. v.keys) c.self.view_is)) c.in-Ok.ensures.cost

pub returns-in-Err-clause-cost : goal.returns-in-Err-clause-cost
returns-in-Err-clause-cost g c = part_cost c.args.self.now.keys c.args.p _ c.part_for-keys.result.now
    (c.part_for-keys.ensures ∙ ap (λ (ks : Parts). part_of ks c.args.p)
    (c.deref.ensures.value ∙ ap (λ v. v.keys) c.self.view_is)) c.in-Err.ensures.cost
