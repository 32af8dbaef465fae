use Rattle.std.proofs.Common.{subst, sym, ap, ◌∙◌, ℕ, ◌<◌, ◌≤◌, ◌*◌}
use Rattle.cell_store.specs.Buckets.{content_of}
use Rattle.cell_store.specs.Gathered.{HasHome}
use Rattle.cell_store.proofs.Gathering.{gathered_none, gathered_next, gathered_past}
use Rattle.cell_store.proofs.hold.Hold.all_cells.Goals as goal

pub loop-b-init : goal.loop-b-init
loop-b-init c = gathered_none c.args.self.now c.in_ok-list.list.items c.in_ok-list.ensures.items

pub loop-b-preserved : goal.loop-b-preserved
loop-b-preserved c =
    let b = content_of c.bucket.result.now in
    gathered_next c.args.self.now c.loop-b.b b c.loop-b.list.items c.push_cells.new.list.items
    (subst (λ (n : ℕ). c.loop-b.b < n) (c.count-b-end.ensures.value ∙ ap (λ (v : ℕ). v * v * v) c.grid-grid.ensures.grid
    ∙ sym c.grid-grid.ensures.places) c.loop-b-test.true)
    c.bucket.ensures.bucket (subst (λ (g : ℕ). HasHome g c.loop-b.b b.cells c.loop-b.list.items
    c.push_cells.new.list.items) c.grid-grid.ensures.grid c.in_ok-push_cells.ensures) c.loop-b.invariant

pub returns-clause-list : goal.returns-clause-list
returns-clause-list c =
    gathered_past c.args.self.now c.loop-b.b c.loop-b.list.items
    (subst (λ (n : ℕ). n ≤ c.loop-b.b) (c.count-b-end.ensures.value ∙ ap (λ (v : ℕ). v * v * v) c.grid-grid.ensures.grid
    ∙ sym c.grid-grid.ensures.places) c.loop-b-test.false) c.loop-b.invariant

pub returns-clause-whole : goal.returns-clause-whole
returns-clause-whole c = record {
  has = record {
    size = c.grid-grid.ensures.size;
    places =
        c.grid-grid.ensures.places;
  };
  all = c.requires;
}
