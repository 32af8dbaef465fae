use Rattle.std.proofs.Common.{◌≡◌, take}
use Rattle.cell_stars.proofs.around.copied_stars.Given as goal

abbrev pub invariant-loop-around : goal.invariant-loop-around
invariant-loop-around l = l.list.items ≡ take l.around-index l.stars
