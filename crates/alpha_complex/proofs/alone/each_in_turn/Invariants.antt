use Rattle.std.proofs.Common.{ℕ, ◌<◌, ◌≤◌, ◌≡◌, get_or}
use Rattle.std.specs.Fork.{ChangesAt}
use Rattle.alpha_complex.proofs.alone.each_in_turn.Given as goal

-- what is left is as before, and at each place so far f was called
abbrev pub invariant-loop-k : goal.invariant-loop-k
invariant-loop-k g l =
    ((j : ℕ) (d : g.row.T.Denot) → l.k ≤ j → get_or l.s j d ≡ get_or l.initial.s j d)
    × ((j : ℕ) (d : g.row.T.Denot) → j < l.k → ChangesAt g.F.Fn l.f j (get_or l.initial.s j d) (get_or l.s j d))
