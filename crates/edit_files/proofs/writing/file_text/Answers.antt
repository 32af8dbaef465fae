use Rattle.std.proofs.Common.{◌≡◌, ap, sym, ◌∙◌, ℕ, List, ◌++◌, true, false}
use Rattle.std.specs.Prelude.{decimal, map}
use Rattle.edit_history.specs.declared.history.Edit.{Edit}
use Rattle.edit_files.specs.Content.{Content, row}
use Rattle.edit_files.specs.Held.{content}
use Rattle.text_readings.specs.Readings.{text_of}
use Rattle.edit_files.specs.Writing.{edit_text}
use Rattle.text_readings.specs.PointLines.{line_of_point}
use Rattle.edit_files.proofs.Written.{ended_put, queries_put, title_put, to_radii, to_radii_put}
use Rattle.edit_files.proofs.writing.file_text.Goals as goal
use Rattle.edit_files.proofs.writing.file_text.Goals.{then-row+in_ok-extend_from_slice-4+in_ok-put_points-2, else-row}

-- what was put, part by part, is the text of the file
pub returns : goal.returns
returns c =
    let f : Content = content c.args.file.now in
    let begun = title_put (row f.version).title c.in_ok-text.text.items c.extend_from_slice.new.self.items
    (c.in_ok-text.ensures.items ∙ c.row-row.ensures.title) c.in_ok-extend_from_slice.ensures.items in
    let so_far : c.put_radii.new.text.items ≡ text_of (to_radii f.version (map line_of_point f.points) (map edit_text
    f.edits) (map decimal f.radii)) =
    to_radii_put f c.extend_from_slice.new.self.items c.put_points.new.text.items c.extend_from_slice-2.new.self.items
    c.put_edits.new.text.items c.extend_from_slice-3.new.self.items c.put_radii.new.text.items
    begun
    (c.in_ok-put_points.ensures
    ∙ ap (λ (l : List ℕ). c.extend_from_slice.new.self.items ++ text_of (map line_of_point l))
    c.deref.ensures.value)
    c.in_ok-extend_from_slice-2.ensures.items
    (c.in_ok-put_edits.ensures ∙ ap (λ (l : List Edit). c.extend_from_slice-2.new.self.items ++ text_of (map edit_text
    l)) c.deref-2.ensures.value)
    c.in_ok-extend_from_slice-3.ensures.items
    (c.in_ok-put_radii.ensures ∙ ap (λ (l : List ℕ). c.extend_from_slice-3.new.self.items ++ text_of (map decimal l))
    c.deref-3.ensures.value) in
    elim c.if-row.branch [
      | then-row+in_ok-extend_from_slice-4+in_ok-put_points-2 w ↦
          let has : (row f.version).queries ≡ true = sym c.row-row.ensures.queries ∙ w.if-row.true in
          queries_put f c.put_radii.new.text.items w.extend_from_slice-then-row.new.self.items
          w.put_points-then-row.new.text.items c.extend_from_slice-4.new.self.items has so_far
          w.in_ok-extend_from_slice-4.ensures.items
          (w.in_ok-put_points-2.ensures ∙ ap (λ (l : List ℕ). w.extend_from_slice-then-row.new.self.items ++ text_of
          (map line_of_point l)) w.deref-then-row.ensures.value)
          (rw (← w.text-is) c.in_ok-extend_from_slice-5.ensures.items)
      | else-row w ↦
          let none : (row f.version).queries ≡ false = sym c.row-row.ensures.queries ∙ w.if-row.false in
          ended_put f c.put_radii.new.text.items c.extend_from_slice-4.new.self.items none so_far
          (rw (← w.text-is) c.in_ok-extend_from_slice-5.ensures.items)
    ]
