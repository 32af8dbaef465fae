-- Lines that move nothing.
use Rattle.std.specs.Prelude.{◌≡◌, ℕ, zero, suc, ◌<◌, Bool, true, false, cond, ◌==◌, List, [], ◌∷◌, length, None, Some}
use Rattle.std.specs.Prelude.{All}
use Rattle.std.specs.List.{filter, last_or}
use Rattle.std.specs.Option.{option_map_or}
use Rattle.std.proofs.Common.{refl, sym, ◌∙◌, ap, arith, inl, inr}
use Rattle.list_laws.proofs.Cited.{each_of_all}
use Rattle.point_order.specs.Sets.{IsIn}
use Rattle.edit_history.specs.declared.history.Edit.{Edit}
use Rattle.edit_history.specs.declared.history.Edit.TheVariants.{Add, Take, Move}
use Rattle.edit_history.specs.Edits.{point_of, is_move}
use Rattle.plain_laws.specs.Plain.{there_after, there_from}
use Rattle.plain_laws.specs.Laws.{ThereByLast, is_add}

-- the line is of the point
abbrev is_of : ℕ → Edit → Bool
is_of p line = point_of line == p

-- the last line of a point tells, where it was there before or not
abbrev by_last : Bool → List Edit → ℕ → Bool
by_last there lines p = option_map_or is_add (last_or None (filter (is_of p) lines)) there

-- where there is a line, what was there before does not tell
last_some : (x : Edit) (xs : List Edit) (b c : Bool) → option_map_or is_add (last_or (Some x) xs) b ≡ option_map_or
    is_add (last_or (Some x) xs) c
last_some x [] b c = refl
last_some x (y ∷ xs) b c = last_some y xs b c

-- the last line of one and some is that of the some, or where there is none the one
last_none : (x : Edit) (xs : List Edit) (b : Bool) → option_map_or is_add (last_or (Some x) xs) b ≡ option_map_or is_add
    (last_or None xs) (is_add x)
last_none x [] b = refl
last_none x (y ∷ xs) b = last_some y xs b (is_add x)

-- a line of the point tells what is there before the lines behind it
last_step : (b : Bool) (line : Edit) (lines : List Edit) (p : ℕ) →
    by_last b (line ∷ lines) p ≡ by_last (cond (is_of p line) (is_add line) b) lines p
last_step b line lines p = by (is_of p line)
  where
    by : (t : Bool) → option_map_or is_add (last_or None (cond t (line ∷ filter (is_of p) lines)
        (filter (is_of p) lines))) b ≡ by_last (cond t (is_add line) b) lines p
    by true = last_none line (filter (is_of p) lines) b
    by false = refl

-- after a line that moves nothing: what the line does to its own point, and else as before
one_step : (there : ℕ → Bool) (line : Edit) (p : ℕ) → is_move line ≡ false →
    there_after there line p ≡ cond (is_of p line) (is_add line) (there p)
one_step there (Add q) p e = refl
one_step there (Take q) p e = refl
one_step there (Move a b) p e = absurd cc

-- after lines that move nothing the last line of a point tells whether it is there
all_steps : (there : ℕ → Bool) (lines : List Edit) (p : ℕ) → ((line : Edit) → IsIn line lines → is_move line ≡ false) →
    there_from there lines p ≡ by_last (there p) lines p
all_steps there [] p f = refl
all_steps there (line ∷ lines) p f =
    all_steps (λ q. there_after there line q) lines p (λ l i. f l (inr i))
    ∙ ap (λ (b : Bool). by_last b lines p) (one_step there line p (f line (inl refl)))
    ∙ sym (last_step (there p) line lines p)

-- of lines that move nothing a point is there exactly where some line is of it and the last such adds
pub there_by_last : ThereByLast
there_by_last lines p still = all_steps (λ q. false) lines p (each_of_all (λ line. is_move line ≡ false) lines still)
