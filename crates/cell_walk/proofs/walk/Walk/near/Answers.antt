use Rattle.std.specs.Prelude.{◌≡◌, ◌==◌, ℕ, true, false, List, Option, Some, None, is_some}
use Rattle.std.proofs.Common.{refl, inl, ap, sym, subst, ◌∙◌}
use Rattle.list_laws.proofs.Cited.{among_true, filtered_from, filtered_true, same_from}
use Rattle.point_order.specs.declared.cell.Cell.{Cell}
use Rattle.point_order.specs.declared.cell.Cell.TheVariants.{Full}
use Rattle.point_order.specs.Complex.{complex}
use Rattle.point_order.specs.Facets.{points_of}
use Rattle.point_order.specs.Sets.{IsIn, is_among}
use Rattle.std.specs.List.{filter}
use Rattle.cell_store.specs.Buckets.{BucketContent, InHand, bucket_at, cells_in, content_of}
use Rattle.bucket_grid.specs.Grids.{bucket_of}
use Rattle.cell_store.specs.Meshes.{all_cells}
use Rattle.cell_store.specs.Shares.{Shows}
use Rattle.del_laws.proofs.Cited.{listed_every_point}
use Rattle.cell_walk.proofs.Counting.{in_all}
use Rattle.cell_walk.specs.Paths.{IsWalkIn}
use Rattle.cell_walk.proofs.walk.Walk.near.Goals as goal

-- a cell of a bucket in hand is one of all cells in hand
among_all : (hold : InHand) (b : ℕ) (x : BucketContent) (c : Cell) → bucket_at hold.places b ≡ Some x →
    IsIn c (cells_in hold.places b) → IsIn c (all_cells hold.places)
among_all hold b x c e i = in_all hold.places b x c e (subst (λ (l : List Cell). IsIn c l) are i)
  where
    are : cells_in hold.places b ≡ x.cells
    are = rw e refl

known : (o : Option BucketContent) → is_some o ≡ true → (x : BucketContent) × (o ≡ Some x)
known (Some x) e = (x, refl)
known None e = absurd (cc e)

-- a cell at a point of the bucket begins a walk in every set that is shown
pub returns-clause-walks : goal.returns-clause-walks
returns-clause-walks c s shown new =
    let hold = c.args.hold.now in
    let n = c.in_ok-cell.cell.now in
    let b = c.bucket_of.result in
    let has = λ (d : Cell). is_among c.in_ok-q.q (points_of d) in
    let first = subst (λ (l : List Cell). IsIn n l) (sym c.in_ok-cell.ensures.steps) (inl refl) in
    let number : b ≡ bucket_of hold.grid c.in_ok-q.q =
    c.bucket_of.ensures.number ∙ ap (λ (g : ℕ). bucket_of g c.in_ok-q.q) c.grid.ensures.grid in
    let x = known (bucket_at hold.places b) (sym c.has.ensures ∙ c.if-not-has.false) in
    subst (λ (d : Cell). IsWalkIn hold s (record { point = c.args.p; cell = d })) (sym c.new.ensures)
    (record {
      new = new;
      listed = (filtered_from has (complex s) n ((c.cells_around-around.ensures.in_complex s shown n).0 first)).0;
      held = among_all hold b x.0 n x.1 (subst (λ (k : ℕ). IsIn n (cells_in hold.places k)) (sym number)
          (filtered_from has (cells_in hold.places (bucket_of hold.grid c.in_ok-q.q)) n
          ((c.cells_around-around.ensures.in_bucket n).0 first)).0);
    })

-- a point of a bucket in hand is one of each set that is shown, and lies in the bucket
point_shown : (hold : InHand) (b q : ℕ) (x : BucketContent) (s : List ℕ) → Shows hold s →
    bucket_at hold.places b ≡ Some x → IsIn q x.points → IsIn q s × ((bucket_of hold.grid q == b) ≡ true)
point_shown hold b q x s shown e i =
    filtered_from (λ p. bucket_of hold.grid p == b) s q (subst (λ (l : List ℕ). IsIn q l) (shown.sights b x e).points i)

-- a bucket in hand that is found by its number is found
found_held : (o : Option BucketContent) (x : BucketContent) → o ≡ Some x → false ≡ is_some o → ⊥
found_held (Some y) x e t = absurd (cc t)
found_held None x e t = absurd (cc e)

-- of a set that is shown each point has a cell
cell_at : (hold : InHand) (q : ℕ) (s : List ℕ) → Shows hold s → IsIn q s →
    (d : Cell) × IsIn d (filter (λ (c : Cell). is_among q (points_of c)) (complex s))
cell_at hold q s shown i =
    let h = listed_every_point s q shown.ascending shown.keys shown.solid i in (
      Full h.q,
      filtered_true (λ (c : Cell). is_among q (points_of c)) (complex s) (Full h.q) h.listed
          (among_true q h.q h.has),
    )

pub returns-then-not-has-clause-some : goal.returns-then-not-has-clause-some
returns-then-not-has-clause-some c shown some =
    let hold = c.args.hold.now in
    let q = c.in_ok-q.q in
    let x = content_of c.bucket.result.now in
    let at = point_shown hold c.args.b q x shown.0 shown.1 c.bucket.ensures.bucket
    (subst (λ (l : List ℕ). IsIn q l) c.points.ensures.points c.in_ok-q.ensures) in
    let number : c.bucket_of.result ≡ c.args.b =
    c.bucket_of.ensures.number ∙ ap (λ (g : ℕ). bucket_of g q) c.grid.ensures.grid
    ∙ same_from (bucket_of hold.grid q) c.args.b at.1 in
    absurd (found_held (bucket_at hold.places c.bucket_of.result) x (ap (λ (n : ℕ). bucket_at hold.places n) number
    ∙ c.bucket.ensures.bucket) (sym c.if-not-has.true ∙ c.has.ensures))

pub returns-in_err-cell-clause-some : goal.returns-in_err-cell-clause-some
returns-in_err-cell-clause-some c shown some =
    let hold = c.args.hold.now in
    let q = c.in_ok-q.q in
    let x = content_of c.bucket.result.now in
    let at = point_shown hold c.args.b q x shown.0 shown.1 c.bucket.ensures.bucket
    (subst (λ (l : List ℕ). IsIn q l) c.points.ensures.points c.in_ok-q.ensures) in
    let d = cell_at hold q shown.0 shown.1 at.0 in
    absurd (subst (λ (l : List Cell). IsIn d.0 l) c.in_err-cell.ensures.steps.0
    ((c.cells_around-around.ensures.in_complex shown.0 shown.1 d.0).1 d.1))
