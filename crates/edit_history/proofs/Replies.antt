-- What an edit is replied.
use Rattle.std.specs.Prelude.{List, cond, false, true, ℕ, ◌≡◌}
use Rattle.std.proofs.Common.{ap, ◌∙◌}
use Rattle.list_laws.specs.Lists.{is_among}
use Rattle.point_order.specs.Sets.{without_point}
use Rattle.point_order.specs.Solid.{is_solid}
use Rattle.edit_history.specs.Edits.{reply_to}
use Rattle.edit_history.specs.declared.history.Edit.TheVariants.{Add, Take}
use Rattle.edit_history.specs.declared.history.Reply.TheVariants.{Duplicate, Flat, Inserted, Missing, Removed}

-- an added point that is there is a duplicate
pub duplicate : (s : List ℕ) (p : ℕ) → is_among p s ≡ true → reply_to s (Add p) ≡ Duplicate
duplicate s p e = ap (λ b. cond b Duplicate Inserted) e

-- one that is not there is inserted
pub inserts : (s : List ℕ) (p : ℕ) → is_among p s ≡ false → reply_to s (Add p) ≡ Inserted
inserts s p e = ap (λ b. cond b Duplicate Inserted) e

-- a taken point that is not there is missing
pub missing : (s : List ℕ) (p : ℕ) → is_among p s ≡ false → reply_to s (Take p) ≡ Missing
missing s p e = ap (λ b. cond b (cond (is_solid (without_point p s)) Removed Flat) Missing) e

-- a taken point that is there stays, where the rest is not solid
pub flat : (s : List ℕ) (p : ℕ) → is_among p s ≡ true → is_solid (without_point p s) ≡ false →
    reply_to s (Take p) ≡ Flat
flat s p e f =
    ap (λ b. cond b (cond (is_solid (without_point p s)) Removed Flat) Missing) e ∙ ap (λ b. cond b Removed Flat) f

-- a point that is there is removed, where the rest is solid
pub reply_there : (s : List ℕ) (v : ℕ) → is_among v s ≡ true → is_solid (without_point v s) ≡ true →
    reply_to s (Take v) ≡ Removed
reply_there s v e f =
    ap (λ b. cond b (cond (is_solid (without_point v s)) Removed Flat) Missing) e ∙ ap (λ b. cond b Removed Flat) f
