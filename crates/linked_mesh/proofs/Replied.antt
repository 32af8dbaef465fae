-- What edits are replied, and what they leave.
use Rattle.std.specs.Prelude.{◌≡◌, ℕ, true, false, List}
use Rattle.std.proofs.Common.{ap, refl, sym}
use Rattle.point_order.specs.Sets.{is_among, with_point, without_point}
use Rattle.point_order.specs.Solid.{is_solid}
use Rattle.edit_history.specs.declared.history.Edit.{Edit}
use Rattle.edit_history.specs.declared.history.Edit.TheVariants.{Add, Move, Take}
use Rattle.edit_history.specs.declared.history.Reply.{Reply}
use Rattle.edit_history.specs.declared.history.Reply.TheVariants.{Duplicate, Flat, Inserted, Missing, Moved, Occupied}
use Rattle.edit_history.specs.declared.history.Reply.TheVariants.{Removed}
use Rattle.edit_history.specs.Edits.{after, arrived, changed, moved_to, point_of, reply_to}
use Rattle.edit_history.proofs.Cited.{duplicate, flat, inserts, missing, reply_there}

-- what is left by the reply
left_by : (s : List ℕ) (edit : Edit) (r : Reply) → reply_to s edit ≡ r →
    changed (arrived s edit r) (point_of edit) r ≡ after s edit
left_by s edit r e = sym (ap (λ (x : Reply). changed (arrived s edit x) (point_of edit) x) e)

module _ (s : List ℕ) (p : ℕ) where
  -- of an add
  pub added_there : is_among p s ≡ true → s ≡ after s (Add p)
  added_there e = left_by s (Add p) Duplicate (duplicate s p e)

  pub added_new : is_among p s ≡ false → with_point p s ≡ after s (Add p)
  added_new e = left_by s (Add p) Inserted (inserts s p e)

  -- of a take
  pub taken_missing : is_among p s ≡ false → s ≡ after s (Take p)
  taken_missing e = left_by s (Take p) Missing (missing s p e)

  pub taken_flat : is_among p s ≡ true → is_solid (without_point p s) ≡ false → s ≡ after s (Take p)
  taken_flat e f = left_by s (Take p) Flat (flat s p e f)

  pub taken_out : is_among p s ≡ true → is_solid (without_point p s) ≡ true → without_point p s ≡ after s (Take p)
  taken_out e f = left_by s (Take p) Removed (reply_there s p e f)

module _ (s : List ℕ) (a b : ℕ) where
  -- of a move
  pub move_missing : is_among a s ≡ false → Missing ≡ reply_to s (Move a b)
  move_missing e = rw e refl

  pub move_occupied : is_among a s ≡ true → is_among b s ≡ true → Occupied ≡ reply_to s (Move a b)
  move_occupied e f = rw (e, f) refl

  pub move_flat : is_among a s ≡ true → is_among b s ≡ false → is_solid (moved_to a b s) ≡ false →
      Flat ≡ reply_to s (Move a b)
  move_flat e f g = rw (e, f, g) refl

  pub move_made : is_among a s ≡ true → is_among b s ≡ false → is_solid (moved_to a b s) ≡ true →
      Moved ≡ reply_to s (Move a b)
  move_made e f g = rw (e, f, g) refl

  -- and what it leaves
  pub left_missing : is_among a s ≡ false → s ≡ after s (Move a b)
  left_missing e = left_by s (Move a b) Missing (sym (move_missing e))

  pub left_occupied : is_among a s ≡ true → is_among b s ≡ true → s ≡ after s (Move a b)
  left_occupied e f = left_by s (Move a b) Occupied (sym (move_occupied e f))

  pub left_flat : is_among a s ≡ true → is_among b s ≡ false → is_solid (moved_to a b s) ≡ false →
      s ≡ after s (Move a b)
  left_flat e f g = left_by s (Move a b) Flat (sym (move_flat e f g))

  pub left_moved : is_among a s ≡ true → is_among b s ≡ false → is_solid (moved_to a b s) ≡ true →
      moved_to a b s ≡ after s (Move a b)
  left_moved e f g = left_by s (Move a b) Moved (sym (move_made e f g))
