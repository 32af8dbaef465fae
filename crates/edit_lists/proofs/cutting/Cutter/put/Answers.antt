use Rattle.std.proofs.Common.{◌≡◌, refl, sym, ◌∙◌, subst, [], ◌∷◌, ◌++◌}
use Rattle.std.specs.Prelude.{map, replicate}
use Rattle.edit_lists.specs.declared.cutting.Cutter.{Cutter}
use Rattle.edit_lists.specs.Cutting.{AreMarks}
use Rattle.edit_lists.specs.Dealing.{lists_of, with_pair}
use Rattle.edit_lists.proofs.Cuts.{cut_begins, cut_goes_on}
use Rattle.edit_lists.proofs.cutting.Cutter.put.Goals as goal
use Rattle.edit_lists.proofs.cutting.Cutter.put.Goals.{then-clashes+in_ok-begin, else-clashes}

-- a line that clashes begins a new segment, and any other goes on with the present one
pub returns : goal.returns
returns c = λ lines cut.
    let old = c.args.self.now in
    let now = c.if-clashes.self in
    let marks = c.clash.new.self in
    let was : Cutter = record { finished = old.finished; present = old.present; marks = marks } in
    let new : Cutter = record { finished = now.finished; present = c.put.new.segment; marks = c.note.new.self } in
    let found =
    c.in_ok-clashes.ensures c.args.workers cut.present c.args.tag c.requires.some cut.present_is cut.marks in
    let clash = sym found.0 in
    elim c.if-clashes.branch [
      | then-clashes+in_ok-begin w ↦
          let begun = sym w.self-is in
          cut_begins c.args.workers lines (c.args.tag, c.args.edit) c.requires.some old new cut
          (clash ∙ w.if-clashes.true)
          (subst (λ (k : Cutter). map lists_of k.finished.items ≡ map lists_of was.finished.items
          ++ lists_of was.present ∷ []) begun w.in_ok-begin.ensures.finished)
          (lists_of now.present)
          (subst (λ (k : Cutter). lists_of k.present ≡ replicate c.args.workers []) begun w.in_ok-begin.ensures.present)
          c.in_ok-put.ensures
          (c.in_ok-note.ensures [] c.args.tag
          (subst (λ (k : Cutter). AreMarks [] k.marks) begun w.in_ok-begin.ensures.marks))
      | else-clashes w ↦
          let same = sym w.self-is in
          cut_goes_on c.args.workers lines (c.args.tag, c.args.edit) c.requires.some old new cut
          (clash ∙ w.if-clashes.false)
          (subst (λ (k : Cutter). k.finished.items ≡ was.finished.items) same refl)
          (subst (λ (k : Cutter). lists_of new.present ≡ with_pair (c.args.tag, c.args.edit) (lists_of k.present))
          w.self-is c.in_ok-put.ensures)
          (c.in_ok-note.ensures cut.present c.args.tag
          (subst (λ (k : Cutter). AreMarks cut.present k.marks) same found.1))
    ]
