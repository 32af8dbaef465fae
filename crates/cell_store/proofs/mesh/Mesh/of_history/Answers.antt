use Rattle.std.proofs.Common.{◌∙◌, ◌*◌, ◌<◌, ◌≤◌, ℕ, sym, ap, subst, inr, Some, arith, length, ◌≡◌, true}
use Rattle.point_order.specs.Complex.{complex}
use Rattle.cell_store.specs.Buckets.{content_of}
use Rattle.cell_store.specs.Meshes.{MeshView}
use Rattle.bucket_grid.specs.Grids.{is_grid_size}
use Rattle.cell_store.proofs.MeshLaws.{mesh_is}
use Rattle.cell_store.proofs.WholeLaws.{first_all, first_next, first_none, sound_by}
use Rattle.cell_store.proofs.mesh.Mesh.of_history.Goals as goal

pub of-requires-clause-cells : goal.of-requires-clause-cells
of-requires-clause-cells c = c.requires.cells ∙ ap complex c.requires.points

pub loop-b-init : goal.loop-b-init
loop-b-init c = (
  c.in_ok-parts.ensures,
  first_none c.args.grid c.args.entries.now c.in_ok-hold.hold c.in_ok-hold.ensures
      (sound_by c.args.entries.now c.args.points.now c.requires.legal c.requires.points c.requires.solid
      c.read_keys.ensures),
)

pub bucket-requires-clause-below : goal.bucket-requires-clause-below
bucket-requires-clause-below c = subst (λ (n : ℕ). c.loop-b.b < n) c.count-b-end.ensures.value c.loop-b-test.true

pub bucket-requires-clause-parts : goal.bucket-requires-clause-parts
bucket-requires-clause-parts c = (
  c.args.entries.now,
  sound_by c.args.entries.now c.args.points.now c.requires.legal c.requires.points c.requires.solid c.read_keys.ensures,
  c.loop-b.invariant.0,
)

pub put-requires-clause-below : goal.put-requires-clause-below
put-requires-clause-below c =
    subst (λ (n : ℕ). c.loop-b.b < n) (c.count-b-end.ensures.value ∙ sym c.loop-b.invariant.1.count) c.loop-b-test.true

pub put-requires-clause-absent : goal.put-requires-clause-absent
put-requires-clause-absent c = c.loop-b.invariant.1.absent c.loop-b.b (omega arith)

pub put-requires-clause-place : goal.put-requires-clause-place
put-requires-clause-place c =
    inr (c.in_ok-bucket.ensures.place ∙ ap (λ (g : ℕ). Some (g, c.loop-b.b)) (sym c.loop-b.invariant.1.grid))

pub loop-b-preserved : goal.loop-b-preserved
loop-b-preserved c = (
  c.in_ok-bucket.ensures.parts c.args.entries.now c.loop-b.invariant.0,
  first_next c.args.grid c.loop-b.b c.args.entries.now (content_of c.in_ok-bucket.bucket) c.loop-b.hold c.put.new.self
      (subst (λ (n : ℕ). c.loop-b.b < n) c.count-b-end.ensures.value c.loop-b-test.true)
      (c.in_ok-bucket.ensures.share c.args.entries.now c.loop-b.invariant.0) c.put.ensures c.loop-b.invariant.1,
)

pub into_mesh-requires-clause-all : goal.into_mesh-requires-clause-all
into_mesh-requires-clause-all c =
    first_all c.args.grid c.loop-b.b c.args.entries.now c.loop-b.hold
    (subst (λ (n : ℕ). n ≤ c.loop-b.b) c.count-b-end.ensures.value c.loop-b-test.false) c.loop-b.invariant.1

pub into_mesh-requires-clause-stands : goal.into_mesh-requires-clause-stands
into_mesh-requires-clause-stands c = (c.args.entries.now, c.loop-b.invariant.1.stands)

-- the mesh has the history, with the share of each bucket
pub returns : goal.returns
returns c =
    let hold = c.loop-b.hold in
    let f = c.loop-b.invariant.1 in
    let mesh : MeshView = record { grid = c.args.grid; history = c.args.entries.now } in
    let all = first_all c.args.grid c.loop-b.b c.args.entries.now hold
    (subst (λ (n : ℕ). n ≤ c.loop-b.b) c.count-b-end.ensures.value c.loop-b-test.false) f in
    let places : length hold.places ≡ hold.grid * hold.grid * hold.grid =
    subst (λ (g : ℕ). length hold.places ≡ g * g * g) (sym f.grid) f.count in
    let size : is_grid_size hold.grid ≡ true =
    subst (λ (g : ℕ). is_grid_size g ≡ true) (sym f.grid) c.count-b-end.ensures.size in
    c.into_mesh.ensures.mesh ∙ mesh_is mesh hold (record {
      grid = f.grid;
      whole = record { has = record { size = size; places = places }; all = all };
      stands = f.stands;
    })
