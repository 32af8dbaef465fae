-- those that were there and the piece are picked
use Rattle.std.proofs.Common.{◌++◌}
use Rattle.mesh_reader.proofs.taken_bytes.TakenBytes.and.Given as goal

abbrev pub ghost-of : goal.ghost-of
ghost-of a = a.from.now.0.bytes ++ a.from.now.1.now
