use Rattle.std.proofs.Common.{◌≡◌, ℕ, map, replicate, length, Some, sym, ◌∙◌, ap, arith}
use Rattle.round_table.specs.declared.view.Key.{Key}
use Rattle.round_table.proofs.Opened.{opens}
use Rattle.round_table.proofs.opening.board_for.Goals as goal

pub new-requires : goal.new-requires
new-requires g c =
    let k : Key g.row.T.Denot = record { contents = c.of.result; workers = c.args.workers } in
    let items = ap (λ v. v.items) c.of.ensures in
    let l = c.args.contents.ok.0 in
    let e = c.len.ensures in
    let q = ap length items in
    let wide : c.len.result ≡ length c.of.result.value.items = omega arith in
    opens k c.deref.result.now c.in_ok-slots.slots.items
    (c.deref.ensures.value ∙ c.in_ok-words.ensures
    ∙ ap (λ (n : ℕ). replicate n 0) wide)
    (c.in_ok-slots.ensures ∙ ap (map Some) (sym items)) (omega (arith, c.ranges.workers.fits))
