use Rattle.std.proofs.Common.{IsSome, Result, Ok, Err, OnOk}
use Rattle.list_laws.proofs.Cited.{if_some}
use Rattle.cell_store.specs.Buckets.{layout_at}
use Rattle.bucket_grid.specs.Grids.{bucket_of}
use Rattle.cell_store.proofs.NoteLaws.{all_twice, both_rooms, still_there}
use Rattle.cell_store.proofs.room.make_rooms.Goals as goal

pub make_room_at-requires-2 : goal.make_room_at-requires-2
make_room_at-requires-2 c =
    let old = c.args.places.now in
    let mid = c.make_room_at.new.places in
    if_some (λ p. IsSome (layout_at old (bucket_of c.args.grid p)))
    (λ p. IsSome (layout_at mid (bucket_of c.args.grid p))) c.args.point.now
    (λ p k. still_there (layout_at old (bucket_of c.args.grid p)) (layout_at mid (bucket_of c.args.grid p))
    (c.make_room_at.ensures.same.each (bucket_of c.args.grid p)) k) c.requires.point

map_ok : {X E : Type 0} {P Q : Type 0} (r : Result X E) → (P → Q) → OnOk r P → OnOk r Q
map_ok (Ok x) f h = f h
map_ok (Err e) f h = tt

pub returns : goal.returns
returns c =
    let first = c.in_ok-make_room_at.ensures in
    let second = c.make_room_at-2.ensures in
    let rooms = both_rooms c.args.grid c.make_room_at.new.places c.make_room_at-2.new.places c.args.note.now
    c.args.point.now second.same first.room in
    record {
      same = all_twice c.args.places.now c.make_room_at.new.places c.make_room_at-2.new.places first.same second.same;
      note = map_ok c.make_room_at-2.result (λ k. (rooms k).0) second.room;
      point = map_ok c.make_room_at-2.result (λ k. (rooms k).1) second.room;
    }
