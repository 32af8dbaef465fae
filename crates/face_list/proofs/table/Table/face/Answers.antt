use Rattle.std.proofs.Common.{◌≡◌, refl, ◌<◌, ◌-◌, ℕ, List, ◌∷◌, sym, ap, ◌∙◌, length, take, drop, get_or, arith}
use Rattle.face_list.proofs.Stretches.{stretch_at}
use Rattle.face_list.proofs.table.Table.face.Goals as goal

pub returns-clause-numbers : goal.returns-clause-numbers
returns-clause-numbers g c =
    let ends = c.args.self.now.ends.items in
    let numbers = c.args.self.now.numbers.items in
    let i = c.args.i in
    let h : i < length ends = omega (arith, c.requires.index, c.requires.ends) in
    let a : c.start_of-start.result ≡ get_or (0 ∷ ends) i 0 =
    c.start_of-start.ensures ∙ ap (λ (l : List ℕ). get_or (0 ∷ l) i 0) c.deref.ensures.value in
    let b : c.stop_of-stop.result ≡ get_or ends i 0 =
    c.stop_of-stop.ensures.stop ∙ ap (λ (l : List ℕ). get_or l i 0) c.deref-2.ensures.value in
    let part : take (c.stop_of-stop.result - c.start_of-start.result)
    (drop c.start_of-start.result c.deref-3.result.now) ≡ take (get_or ends i 0 - get_or (0 ∷ ends) i 0)
    (drop (get_or (0 ∷ ends) i 0) numbers) = rw (a, b, c.deref-3.ensures.value) refl in
    part ∙ sym (stretch_at numbers (ends) 0 i 0
    (take (c.stop_of-stop.result - c.start_of-start.result) (drop c.start_of-start.result c.deref-3.result.now)) h)
