-- The entries of a history, which are numbered by their places.
use Rattle.std.specs.Prelude.{◌≡◌, ◌+◌, ℕ, List, [], ◌∷◌, length}
use Rattle.std.specs.List.{range_with_len}
use Rattle.std.proofs.Common.{refl, ap}
use Rattle.std.proofs.lemmas.List.Sorted.{IsPermutation-refl}
use Rattle.edit_history.specs.declared.history.Entry.{Entry}
use Rattle.edit_history.specs.Edits.{after}
use Rattle.edit_history.specs.Histories.{IsLegal, IsLegalFrom}
use Rattle.edit_history.specs.Merging.{AreNumbered, numbers, places_of}

-- the numbers of entries that are legal from n on
numbers_from : (n : ℕ) (s : List ℕ) (h : List Entry) → IsLegalFrom n s h → numbers h ≡ range_with_len n (length h)
numbers_from n s [] l = refl
numbers_from n s (e ∷ h) l = rw l.0 (ap (λ (m : List ℕ). n ∷ m) (numbers_from (n + 1) (after s e.edit) h l.2))

-- those of a legal history are its places
pub legal_numbered : (h : List Entry) → IsLegal h → AreNumbered h
legal_numbered h l = rw (numbers_from 0 [] h l) (IsPermutation-refl (places_of h))
