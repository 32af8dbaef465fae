use Rattle.std.specs.Prelude.{ℕ, ◌+◌, ◌*◌, ◌-◌, ◌^◌, ◌≤◌}
use Rattle.std.proofs.Common.{arith, inl, inr}
use Rattle.std.proofs.Math.Nat.{pow-le-pow_right}
use Rattle.std.proofs.lemmas.Bool.Decides.{leb_tells}
use Rattle.edit_history.specs.Histories.{replay}
use Rattle.cell_store.proofs.Cited.{stands_shows}
use Rattle.worked_cases.proofs.buckets.searched.Goals as goal

pub star_counted-requires-clause-shown : goal.star_counted-requires-clause-shown
star_counted-requires-clause-shown g c = (
  replay c.requires.stands.0,
  stands_shows c.args.hold.now c.requires.stands.0 c.requires.stands.1,
)

-- the power of more than three is at least 16
three : (k n : ℕ) → n ≤ 4 → 2 ^ k ≤ 2 * n + 1 → k ≤ 3
three k n h e = elim (leb_tells k 3) [
  | inl s ↦ s.1
  | inr s ↦ (let l : 4 ≤ k = omega (arith, s.1) in let m : 16 ≤ 2 ^ k =
      pow-le-pow_right {n = 2} (omega arith) {i = 4} l in absurd (omega (arith, m, h, e)))
]

pub returns : goal.returns
returns g c few =
    let k = three (c.star_counted.new.steps - c.args.steps.now) _ few c.star_counted.ensures.cost in
    omega (arith, k)
