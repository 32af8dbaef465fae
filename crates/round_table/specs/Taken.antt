-- What workers take that do nothing but claim.
use Rattle.std.specs.Prelude.{◌≡◌, ℕ, ◌++◌, List, map, Some, slice_get}
use Rattle.round_table.specs.declared.taking.Taking.{Taking}
use Rattle.round_table.specs.Rounds.{Standing}

-- The pass claimed more buckets, and their contents came to the hand.
pub record IsTaking {T : Type 0} (contents : List T) (old new : Standing T) (before after : List T) : Type 0 where
  pub more : List ℕ
  pub new_is : new ≡ record old { claims = old.claims ++ more }
  pub hand_is : map Some after ≡ map Some before ++ map (slice_get contents) more

-- the contents of what was claimed came to the hand
abbrev pub takes : {T : Type 0} → List T → ℕ → List ℕ → Taking T → Taking T → Type 0
takes contents number claims old new =
    map Some new.hand.items ≡ map Some old.hand.items ++ map (slice_get contents) claims
