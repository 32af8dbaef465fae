use Rattle.std.specs.Prelude.{IsSome, nat_eq}
use Rattle.std.proofs.Common.{◌≡◌, refl, ap, sym, subst, ◌∙◌}
use Rattle.list_laws.proofs.Cited.{not_both, same_from, same_true}
use Rattle.cell_store.specs.Buckets.{bucket_at}
use Rattle.bucket_grid.specs.Grids.{bucket_of}
use Rattle.nearest_points.specs.Points.{IsFirstOf}
use Rattle.near_vertex.specs.Around.{Nearing, IsFirstAround}
use Rattle.near_vertex.specs.Turns.{bucket_under, IsNearWalkIn, HasStepped}
use Rattle.near_vertex.proofs.Around.{beside_in, here_nearest, moved_before}
use Rattle.near_vertex.proofs.walk.NearWalk.step.Goals as goal

-- no point around comes before the walk's: it is the nearest of the set
pub returns-then-eq : goal.returns-then-eq
returns-then-eq c s st w =
    let hold = c.args.hold.now in
    let q = c.self.inside.place in
    let p = c.self.inside.point in
    let x = c.first_around-first.result in
    let k = subst (λ (v : Nearing). IsNearWalkIn s v) (sym c.self.view_is) w in
    let e : x ≡ p = same_from x p (sym c.eq.ensures ∙ c.if-eq.true) in
    let number : c.bucket_of-b.result ≡ bucket_of hold.grid p = c.bucket_of-b.ensures.number ∙ ap (λ g. bucket_of g p)
    c.grid.ensures.grid in
    let held = subst (λ n. IsSome (bucket_at hold.places n)) number (sym c.has.ensures ∙ c.if-not-has.false) in
    let near = subst (λ v. IsFirstOf q s v) (sym e) (here_nearest hold s q p st k
    (subst (λ v. IsFirstAround s q p v) e (c.first_around-first.ensures s st k))) in
    subst (λ (v : Nearing). (v ≡ v) × (x ≡ v.point) × IsSome (bucket_under hold v) × IsFirstOf v.place s x)
    c.self.view_is (refl, e, held, near)

-- one does, and the walk moves to it
pub returns : goal.returns
returns c s st w =
    let hold = c.args.hold.now in
    let q = c.self.inside.place in
    let p = c.self.inside.point in
    let x = c.first_around-first.result in
    let k = subst (λ (v : Nearing). IsNearWalkIn s v) (sym c.self.view_is) w in
    let n : ¬ (x ≡ p) = λ e. not_both (nat_eq x p) (same_true x p e) (sym c.eq.ensures ∙ c.if-eq.false) in
    let number : c.bucket_of-b.result ≡ bucket_of hold.grid p = c.bucket_of-b.ensures.number ∙ ap (λ g. bucket_of g p)
    c.grid.ensures.grid in
    let held = subst (λ n. IsSome (bucket_at hold.places n)) number (sym c.has.ensures ∙ c.if-not-has.false) in
    let f = c.first_around-first.ensures s st k in
    subst (λ (v : Nearing). HasStepped hold s v (record { place = q; point = x })) c.self.view_is (record {
      held = held;
      place = refl;
      first = f;
      before = moved_before s q p x hold st k n f;
      walk = beside_in s p x hold st f.beside;
    })
