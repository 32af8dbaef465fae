use Rattle.std.proofs.Common.{sym, ap}
use Rattle.std.specs.Prelude.{[], ◌∷◌}
use Rattle.mesh_reader.specs.Judging.{in_order, indexed_points}
use Rattle.mesh_reader.proofs.Corners.{missing_others, missing_point, no_points, order_made, with_point}
use Rattle.mesh_reader.proofs.line.quad_at.Goals as goal

pub returns-in_err-a : goal.returns-in_err-a
returns-in_err-a c =
    rw c.from_residual.ensures
    (ap in_order (missing_point c.args.points.now c.args.i (c.args.j ∷ c.args.k ∷ c.args.l ∷ [])
    (sym c.in_err-a.ensures)))

pub returns-in_err-b : goal.returns-in_err-b
returns-in_err-b c =
    rw c.from_residual-in_err-b.ensures
    (ap in_order (missing_others c.args.points.now c.args.i (c.args.j ∷ c.args.k ∷ c.args.l ∷ [])
    (missing_point c.args.points.now c.args.j (c.args.k ∷ c.args.l ∷ []) (sym c.in_err-b.ensures))))

pub returns-in_err-c : goal.returns-in_err-c
returns-in_err-c c =
    rw c.from_residual-in_err-c.ensures
    (ap in_order (missing_others c.args.points.now c.args.i (c.args.j ∷ c.args.k ∷ c.args.l ∷ [])
    (missing_others c.args.points.now c.args.j (c.args.k ∷ c.args.l ∷ [])
    (missing_point c.args.points.now c.args.k (c.args.l ∷ []) (sym c.in_err-c.ensures)))))

pub returns-in_err-d : goal.returns-in_err-d
returns-in_err-d c =
    rw c.from_residual-in_err-d.ensures
    (ap in_order (missing_others c.args.points.now c.args.i (c.args.j ∷ c.args.k ∷ c.args.l ∷ [])
    (missing_others c.args.points.now c.args.j (c.args.k ∷ c.args.l ∷ [])
    (missing_others c.args.points.now c.args.k (c.args.l ∷ []) (missing_point c.args.points.now c.args.l []
    (sym c.in_err-d.ensures))))))

pub returns : goal.returns
returns c =
    let s = c.args.points.now in
    order_made (indexed_points s (c.args.i ∷ c.args.j ∷ c.args.k ∷ c.args.l ∷ []))
    (c.in_ok-a.a ∷ c.in_ok-b.b ∷ c.in_ok-c.c ∷ c.in_ok-d.d ∷ []) c.quad_from.result
    (with_point s c.args.i c.in_ok-a.a (c.args.j ∷ c.args.k ∷ c.args.l ∷ [])
    (c.in_ok-b.b ∷ c.in_ok-c.c ∷ c.in_ok-d.d ∷ []) (sym c.in_ok-a.ensures)
    (with_point s c.args.j c.in_ok-b.b (c.args.k ∷ c.args.l ∷ []) (c.in_ok-c.c ∷ c.in_ok-d.d ∷ [])
    (sym c.in_ok-b.ensures)
    (with_point s c.args.k c.in_ok-c.c (c.args.l ∷ []) (c.in_ok-d.d ∷ []) (sym c.in_ok-c.ensures)
    (with_point s c.args.l c.in_ok-d.d [] [] (sym c.in_ok-d.ensures) (no_points s))))) c.quad_from.ensures
