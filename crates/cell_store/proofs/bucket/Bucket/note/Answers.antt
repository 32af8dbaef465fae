use Rattle.edit_history.proofs.Cited.{ascending_changed}
use Rattle.cell_store.proofs.bucket.Bucket.note.Goals as goal

pub invariant_of-self : goal.invariant_of-self
invariant_of-self c = rw c.change_points.ensures
    (ascending_changed c.self.inside.points.items _ c.args.entry.reply c.self.invariant)
