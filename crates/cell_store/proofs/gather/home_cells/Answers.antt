use Rattle.std.proofs.Common.{subst, List}
use Rattle.point_order.specs.declared.cell.Cell.{Cell}
use Rattle.cell_store.specs.Buckets.{content_of}
use Rattle.cell_store.specs.Gathered.{HasHome}
use Rattle.cell_store.proofs.gather.home_cells.Goals as goal

pub returns : goal.returns
returns c =
    subst (λ (v : List Cell). HasHome c.args.grid c.args.b (content_of c.args.bucket.now).cells v
    c.push_cells.new.list.items) c.in_ok-list.ensures.items c.in_ok-push_cells.ensures
