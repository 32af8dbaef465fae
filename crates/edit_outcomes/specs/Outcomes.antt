-- What a list of edits comes to: the reply to each, and how the set at the end differs from the one before.
use Rattle.std.specs.Prelude.{ℕ, not, List, [], ◌∷◌}
use Rattle.std.specs.List.{filter}
use Rattle.point_order.specs.Sets.{is_among}
use Rattle.edit_history.specs.declared.history.Edit.{Edit}
use Rattle.edit_history.specs.declared.history.Reply.{Reply}
use Rattle.edit_history.specs.Edits.{reply_to, after}

-- the set that one thread leaves, which makes the edits one after another
abbrev pub left : List ℕ → List Edit → List ℕ
left s [] = s
left s (edit ∷ edits) = left (after s edit) edits

-- its replies, in the order of the edits
abbrev pub replies : List ℕ → List Edit → List Reply
replies s [] = []
replies s (edit ∷ edits) = reply_to s edit ∷ replies (after s edit) edits

-- the points of one set that another one lacks
abbrev pub lacking : List ℕ → List ℕ → List ℕ
lacking t s = filter (λ p. not (is_among p t)) s
