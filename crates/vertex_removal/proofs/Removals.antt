-- The entries of points that are taken and moved.
use Rattle.std.specs.Prelude.{◌≡◌, ℕ, List}
use Rattle.std.proofs.Common.{sym, ◌∙◌, ap, subst}
use Rattle.list_laws.proofs.Cited.{among_from, among_true, false_if}
use Rattle.point_order.specs.Complex.{complex}
use Rattle.point_order.specs.Sets.{is_among, without_point}
use Rattle.edit_history.specs.declared.history.Edit.TheVariants.{Take, Move}
use Rattle.edit_history.specs.declared.history.Reply.TheVariants.{Removed, Moved}
use Rattle.edit_history.specs.Edits.{point_of, reply_to, changed, after, moved_to}
use Rattle.edit_history.specs.Histories.{replay}
use Rattle.edit_history.proofs.Cited.{after_moved, does_move, reply_there}
use Rattle.cell_changes.specs.Changes.{IsChange}
use Rattle.vertex_removal.specs.Refills.{MoveFollows, RemovalFollows}

-- the entry of a taken point follows, with the cells that go and come
pub removal_follows : RemovalFollows
removal_follows h e gone fresh i f =
    let s = replay h in
    let v = point_of e.edit in
    let taken : reply_to s (Take v) ≡ Removed = reply_there s v (among_true v s i.there) f.solid in
    let left : after s e.edit ≡ without_point v s = ap (after s) i.edit ∙ ap (changed s v) taken in
    record {
      number = i.number;
      reply = i.reply ∙ sym taken ∙ ap (reply_to s) (sym i.edit);
      change = subst (λ (x : List ℕ). IsChange (complex s) (complex x) gone fresh) (sym left) f.change;
    }

-- and so does that of a point that moves
pub move_follows : MoveFollows
move_follows h e a b gone fresh i solid ch =
    let s = replay h in
    let moved : reply_to s (Move a b) ≡ Moved = does_move a b s
    (record {
      there = among_true a s i.there;
      free = false_if (is_among b s) (λ t. i.free (among_from b s t));
      solid = solid;
    }) in
    let left : after s e.edit ≡ moved_to a b s = ap (after s) i.edit ∙ after_moved a b s moved in
    record {
      number = i.number;
      reply = i.reply ∙ sym moved ∙ ap (reply_to s) (sym i.edit);
      change = subst (λ (x : List ℕ). IsChange (complex s) (complex x) gone fresh) (sym left) ch;
    }
