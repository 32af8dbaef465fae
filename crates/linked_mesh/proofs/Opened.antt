-- What the history that begins with four independent points leaves.
use Rattle.std.specs.Prelude.{◌≡◌, refl, ℕ, true, List, [], ◌∷◌, slice_index_or}
use Rattle.std.proofs.Common.{◌∙◌, ap, inl, inr, sym}
use Rattle.point_order.specs.Sets.{ascending}
use Rattle.point_order.specs.Solid.{is_solid}
use Rattle.edit_history.specs.declared.history.Entry.{Entry}
use Rattle.edit_history.specs.Histories.{replay}
use Rattle.edit_history.proofs.Cited.{solid_from}
use Rattle.opening_entries.specs.Opening.{AreFourIndependent, opening_history}
use Rattle.opening_entries.proofs.Cited.{leaves_four, points_of_lines}

-- the lines at the four places of a list
abbrev pub lines_at : List (ℕ × ℕ) → (w x y z : ℕ × ℕ) → List (ℕ × ℕ)
lines_at four w x y z =
    slice_index_or four 0 w ∷ slice_index_or four 1 x ∷ slice_index_or four 2 y ∷ slice_index_or four 3 z ∷ []

-- are the four
pub lines_are : (four : List (ℕ × ℕ)) (w x y z : ℕ × ℕ) → AreFourIndependent four → lines_at four w x y z ≡ four
lines_are [] w x y z f = absurd f
lines_are (a ∷ []) w x y z f = absurd f
lines_are (a ∷ b ∷ []) w x y z f = absurd f
lines_are (a ∷ b ∷ c ∷ []) w x y z f = absurd f
lines_are (a ∷ b ∷ c ∷ d ∷ []) w x y z f = refl
lines_are (a ∷ b ∷ c ∷ d ∷ e ∷ l) w x y z f = absurd f

-- what the history leaves: the four in order
pub opening_leaves : (four : List (ℕ × ℕ)) → AreFourIndependent four →
    replay (opening_history four) ≡ ascending (points_of_lines four)
opening_leaves [] f = absurd f
opening_leaves (a ∷ []) f = absurd f
opening_leaves (a ∷ b ∷ []) f = absurd f
opening_leaves (a ∷ b ∷ c ∷ []) f = absurd f
opening_leaves (a ∷ b ∷ c ∷ d ∷ []) f = leaves_four a b c d f
opening_leaves (a ∷ b ∷ c ∷ d ∷ e ∷ l) f = absurd f

-- they are solid
pub opening_solid : (four : List (ℕ × ℕ)) → AreFourIndependent four → is_solid (points_of_lines four) ≡ true
opening_solid [] f = absurd f
opening_solid (a ∷ []) f = absurd f
opening_solid (a ∷ b ∷ []) f = absurd f
opening_solid (a ∷ b ∷ c ∷ []) f = absurd f
opening_solid (a ∷ b ∷ c ∷ d ∷ []) f =
    solid_from (a.1 ∷ b.1 ∷ c.1 ∷ d.1 ∷ []) a.1 b.1 c.1 d.1 (inl refl) (inr (inl refl)) (inr (inr (inl refl)))
    (inr (inr (inr (inl refl)))) f
opening_solid (a ∷ b ∷ c ∷ d ∷ e ∷ l) f = absurd f

-- lines that are read at their places: the entries leave their points
pub opened_leaves : (four : List (ℕ × ℕ)) (w x y z : ℕ × ℕ) (entries : List Entry) (points : List ℕ) →
    AreFourIndependent four → points ≡ ascending (points_of_lines (lines_at four w x y z)) →
    entries ≡ opening_history (lines_at four w x y z) → points ≡ replay entries
opened_leaves four w x y z entries points f p e =
    let are = lines_are four w x y z f in
    p ∙ ap (λ (l : List (ℕ × ℕ)). ascending (points_of_lines l)) are ∙ sym (opening_leaves four f)
    ∙ ap replay (sym (e ∙ ap opening_history are))

-- and these are solid
pub lines_solid : (four : List (ℕ × ℕ)) (w x y z : ℕ × ℕ) → AreFourIndependent four →
    is_solid (points_of_lines (lines_at four w x y z)) ≡ true
lines_solid four w x y z f =
    ap (λ (l : List (ℕ × ℕ)). is_solid (points_of_lines l)) (lines_are four w x y z f) ∙ opening_solid four f
