-- How many pairs lists have, and entries of pairs one after another.
use Rattle.std.specs.Prelude.{◌≡◌, ℕ, zero, suc, ◌+◌, ◌<◌, ◌≤◌, List, [], ◌∷◌, length, take}
use Rattle.std.specs.List.{flat_map}
use Rattle.std.proofs.Common.{ap, arith, get_or, length-append}
use Rattle.edit_lists.specs.declared.lists.List as lists
use Rattle.edit_lists.specs.Dealing.{count_in_all, pairs_in}

-- the lists before one, and that one, have no more pairs than all
pub count_within : (ls : List lists.List) (i : ℕ) (x : lists.List) → i < length ls → x ≡ get_or ls i x →
    count_in_all (pairs_in (take i ls)) + length x.pairs.items ≤ count_in_all (pairs_in ls)
count_within [] i x h e = absurd (omega (arith, h))
count_within (l ∷ ls) zero x h e =
    let f : length x.pairs.items ≡ length l.pairs.items = ap (λ (y : lists.List). length y.pairs.items) e in
    omega (arith, f, length-append l.pairs.items (flat_map (λ l. l) (pairs_in ls)))
count_within (l ∷ ls) (suc i) x h e =
    let m = count_within ls i x (omega (arith, h)) e in
    omega (
      arith,
      m,
      length-append l.pairs.items (flat_map (λ l. l) (pairs_in (take i ls))),
      length-append l.pairs.items (flat_map (λ l. l) (pairs_in ls)),
    )
