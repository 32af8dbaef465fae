-- no bytes are picked
use Rattle.std.proofs.Common.{[]}
use Rattle.mesh_reader.proofs.taken_bytes.TakenBytes.nothing.Given as goal

abbrev pub ghost-of : goal.ghost-of
ghost-of a = []
