use Rattle.std.proofs.Common.{◌≡◌, ◌≤◌, subst, sym, ◌∙◌, ap, refl, ℕ, List, [], ◌∷◌, length, get_or, arith}
use Rattle.cell_store.specs.Buckets.{content_of}
use Rattle.bucket_grid.specs.Grids.{bucket_of}
use Rattle.cell_store.specs.Shares.{IsInHandFor, NoneInHand, points_on}
use Rattle.cell_store.specs.Stars.{bucket_of_first}
use Rattle.cell_store.proofs.ShareLaws.{across_there, across_is}
use Rattle.cell_store.proofs.StarLaws.{lies_at}
use Rattle.cell_store.proofs.hold.Hold.across.Goals as goal

pub other_at-requires-clause-inside : goal.other_at-requires-clause-inside
other_at-requires-clause-inside c = lies_at c.bucket.result.now.cells.place c.args.self.now.grid c.grid.result
    c.bucket_of.result c.in-Some.p c.bucket.ensures.place c.grid.ensures.grid c.bucket_of.ensures.number

pub unreachable-requires : goal.unreachable-requires
unreachable-requires c =
    let held = subst (IsInHandFor c.args.self.now (points_on c.args.facet.now))
    (ap (λ g. bucket_of g c.in-Some.p) (sym c.grid.ensures.grid) ∙ sym c.bucket_of.ensures.number)
    (subst (λ (l : List ℕ). IsInHandFor c.args.self.now l (bucket_of c.args.self.now.grid c.in-Some.p))
    c.points-points.ensures.points c.in-Some.ensures.1) in
    across_there c.args.self.now c.args.cell.now c.args.facet.now c.bucket_of.result (content_of c.bucket.result.now)
    (content_of c.bucket.result.now).cells c.requires.shown c.requires.facet held c.bucket.ensures.bucket refl
    c.in-None-other_at.ensures

pub returns-in-Some-other_at : goal.returns-in-Some-other_at
returns-in-Some-other_at c = (
  (
    bucket_of c.args.self.now.grid c.in-Some.p,
    subst (λ (l : List ℕ). IsInHandFor c.args.self.now l (bucket_of c.args.self.now.grid c.in-Some.p))
        c.points-points.ensures.points c.in-Some.ensures.1,
  ),
  across_is c.args.self.now c.args.cell.now c.args.facet.now c.bucket_of.result (content_of c.bucket.result.now)
      (content_of c.bucket.result.now).cells c.in-Some-other_at.other.cell.now c.bucket.ensures.bucket refl
      c.in-Some-other_at.ensures,
)

first_number : (g : ℕ) (l m : List ℕ) (x : ℕ) → 1 ≤ length l → x ≡ get_or l 0 x → l ≡ m →
    bucket_of g x ≡ bucket_of_first g m
first_number g [] m x long e f = absurd (omega (arith, long))
first_number g (y ∷ l) m x long e f = ap (bucket_of g) e ∙ ap (bucket_of_first g) f

pub returns-in-len1-up : goal.returns-in-len1-up
returns-in-len1-up c = (
  subst (NoneInHand c.args.self.now) c.points-points.ensures.points c.in-None.ensures,
  c.bucket_of-in-len1-up.ensures.number ∙ ap (λ g. bucket_of g c.first-item.result) c.grid-in-len1-up.ensures.grid
      ∙ first_number c.args.self.now.grid c.points-points.result.now (points_on c.args.facet.now) c.first-item.result
      c.in-len1-up.len_at_least c.first-item.is c.points-points.ensures.points,
)
