use Rattle.std.proofs.Common.{refl, arith, ◌<◌, length}
use Rattle.edit_workers.proofs.Halves.{slice_halves}
use Rattle.edit_workers.proofs.running.halves.Goals as goal

-- the pass that keeps its parts can do the first half, and the one that was split off the second
pub returns-clause-halves : goal.returns-clause-halves
returns-clause-halves c =
    let cut = c.split_at.ensures in
    let some = c.requires.several in
    let some-low : 0 < length c.split_at.result.0.now = omega (arith, cut.front_len, some) in
    let some-high : 0 < length c.split_at.result.1.now = omega (arith, cut.front_len, cut.back_len, some) in
    slice_halves c.args.lists.now c.split_at.result.0.now c.split_at.result.1.now _ _ c.args.table.now c.args.pass.now
    c.split.new.pass c.in_ok-other.other cut.by_index.0 refl c.pair_count.ensures some-low some-high c.requires.run
    c.in_ok-other.ensures.split

pub returns-clause-fewer_low : goal.returns-clause-fewer_low
returns-clause-fewer_low c =
    let cut = c.split_at.ensures in
    let some = c.requires.several in
    omega (arith, cut.front_len, cut.back_len, some)

pub returns-clause-fewer_high : goal.returns-clause-fewer_high
returns-clause-fewer_high c =
    let cut = c.split_at.ensures in
    let some = c.requires.several in
    omega (arith, cut.front_len, cut.back_len, some)
