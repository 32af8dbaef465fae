use Rattle.std.proofs.Common.{◌∙◌, ◌++◌, ap, List, ℕ}
use Rattle.mesh_reader.proofs.Pieced.{line_begun, piece_taken}
use Rattle.mesh_reader.proofs.pieces.MeshReader.take.Goals as goal

pub invariant_of-result-2 : goal.invariant_of-result-2
invariant_of-result-2 c =
    let state = c.self.inside.state in
    let begun = c.self.inside.begun.items in
    rw c.and-taken.ensures (piece_taken state begun c.self.inside.taken.bytes c.self.invariant
    c.in_ok-take_line.field-0 c.in_ok-state.state c.args.piece.now c.in-Some.line.now c.in-Some.behind.now
    c.in_ok-state.rest.now c.extend_from_slice-3.new.self.items c.in-Some.ensures.parts
    (line_begun state c.in_ok-take_line.field-0 c.deref.result.now (begun ++ c.in-Some.line.now)
    (c.deref.ensures.value ∙ c.in_ok-extend_from_slice-2.ensures.items) c.in_ok-take_line.ensures)
    c.in_ok-state.ensures.same c.in_ok-state.ensures.begun
    (c.in_ok-extend_from_slice-3.ensures.items ∙ ap (λ (l : List ℕ). l ++ c.in_ok-state.rest.now)
    c.clear-2.ensures.items))
