-- What a list of edits comes to, edit by edit, and by the entries of one thread.
use Rattle.std.specs.Prelude.{◌≡◌, ℕ, ◌+◌, List, [], ◌∷◌, ◌++◌}
use Rattle.std.proofs.Common.{refl, ap, inl, inr}
use Rattle.list_laws.proofs.Cited.{among_from, not_among, true_or_false}
use Rattle.point_order.specs.Sets.{is_among}
use Rattle.edit_history.specs.declared.history.Edit.{Edit}
use Rattle.edit_history.specs.declared.history.Reply.{Reply}
use Rattle.edit_history.specs.Edits.{after, reply_to}
use Rattle.edit_outcomes.specs.Laws.{EntriesReply, EntriesLeave, SetByChanges}
use Rattle.edit_outcomes.specs.Outcomes.{left, replies}
use Rattle.edit_outcomes.proofs.Changing.{in_lacking, lacking_in}

-- one edit more leaves what it makes of what the others leave
pub left_more : (s : List ℕ) (edits : List Edit) (edit : Edit) → left s (edits ++ edit ∷ []) ≡ after (left s edits) edit
left_more s [] edit = refl
left_more s (e ∷ edits) edit = left_more (after s e) edits edit

-- and is replied to last
pub replies_more : (s : List ℕ) (edits : List Edit) (edit : Edit) →
    replies s (edits ++ edit ∷ []) ≡ replies s edits ++ reply_to (left s edits) edit ∷ []
replies_more s [] edit = refl
replies_more s (e ∷ edits) edit = ap (λ (l : List Reply). reply_to s e ∷ l) (replies_more (after s e) edits edit)

-- the entries of one thread have these replies
pub entries_reply : EntriesReply
entries_reply n first s [] = refl
entries_reply n first s (e ∷ edits) =
    ap (λ (l : List Reply). reply_to s e ∷ l) (entries_reply (n + 1) (first + 1) (after s e) edits)

-- and leave this set
pub entries_leave : EntriesLeave
entries_leave n first s [] = refl
entries_leave n first s (e ∷ edits) = entries_leave (n + 1) (first + 1) (after s e) edits

-- a set by the points that it lacks of another and those that the other lacks
pub by_changes : SetByChanges
by_changes s t p = (
  λ i. elim (true_or_false (is_among p s)) [
    | inl e ↦ inl (among_from p s e, λ g. (in_lacking t s p g).1 i)
    | inr e ↦ inr (lacking_in s t p i (not_among s p e))
  ],
  λ i. elim i [
    | inl k ↦ elim (true_or_false (is_among p t)) [
      | inl e ↦ among_from p t e
      | inr e ↦ absurd (k.1 (lacking_in t s p k.0 (not_among t p e)))
    ]
    | inr k ↦ (in_lacking s t p k).0
  ],
)
