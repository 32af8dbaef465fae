use Rattle.std.proofs.Common.{ℕ, ◌+◌, ◌-◌, ◌<◌, ◌≤◌, arith}
use Rattle.cell_store.proofs.bucket.Bucket.make_room.Goals as goal

room_left : (len cap : ℕ) → len + 1 ≤ cap → 0 < cap - len
room_left len cap l = omega arith

two_left : (len cap : ℕ) → len + 2 ≤ cap → 1 < cap - len
two_left len cap l = omega arith

pub returns-clause-room : goal.returns-clause-room
returns-clause-room c = record {
  points = two_left _ _ c.in_ok-reserve.ensures.ok;
  entries = room_left _ _ c.in_ok-reserve-2.ensures.ok;
}
