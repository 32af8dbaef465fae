use Rattle.std.proofs.Common.{◌≡◌, ℕ, List, ◌+◌, ◌++◌, ◌∙◌, ap, map, length, refl}
use Rattle.std.proofs.lemmas.List.{length-append, length-map}
use Rattle.face_list.proofs.Stretches.{stops_both, stretches_both}
use Rattle.face_list.proofs.beside.together.Goals as goal

pub returns : goal.returns
returns g c =
    let numbers = c.args.first.table.numbers.items in
    let more = c.args.second.table.numbers.items in
    let ends = c.args.first.table.ends.items in
    let others = c.args.second.table.ends.items in
    let before : c.len-before.result ≡ length numbers = c.len-before.ensures ∙ c.args.first.table.numbers.ok.0 in
    let behind : c.put_behind.new.list.items ≡ numbers ++ more = c.in_ok-put_behind.ensures in
    let ended : c.put_ends.new.ends.items ≡ ends ++ map (λ end. length numbers + end) others = c.in_ok-put_ends.ensures
    ∙ ap (λ (n : ℕ). ends ++ map (λ end. n + end) c.deref.result.now) before
    ∙ ap (λ (l : List ℕ). ends ++ map (λ end. length numbers + end) l) c.deref.ensures.value in
    record {
      keys = c.in_ok-put_behind-2.ensures;
      ends = ap length ended ∙ length-append ends (map (λ end. length numbers + end) others)
          ∙ ap (λ (n : ℕ). length ends + n) (length-map others (λ end. length numbers + end));
      stops = rw (ended, behind, length-append numbers more)
          (stops_both (length numbers) (length more) ends others c.requires.first c.requires.second);
      lists = rw (ended, behind) (stretches_both numbers more 0 ends others c.requires.first);
      numbers = behind;
      count = c.in_ok-count.ensures;
      from = refl;
      to = refl;
    }
