use Rattle.std.proofs.Common.{◌≡◌, ℕ, ◌-◌, true, rules, List, length, get_or, take, drop, sym, ap, ◌∙◌, arith}
use Rattle.std.proofs.lemmas.List.{take_rest}
use Rattle.std.proofs.lemmas.Grind.{common_steps}
use Rattle.edit_history.specs.declared.history.Edit.TheVariants.{Add, Take}
use Rattle.edit_files.specs.Content.{row}
use Rattle.edit_files.specs.Judging.{edit, edit_at, edit_from, halves, move_of}
use Rattle.text_readings.specs.Scanning.{point}
use Rattle.edit_files.proofs.Signs.{at_equals, at_equals_unmoved, at_other, edit_is, edit_short, edit_other}
use Rattle.edit_files.proofs.line.edit_of.Goals as goal
use Rattle.edit_files.proofs.line.edit_of.Goals.{then-line-lt2-via-then-line-lt2}
use Rattle.edit_files.proofs.line.edit_of.Goals.{then-line-lt2-via-else-line-lt2+then-line-ne32}
use Rattle.edit_files.proofs.line.edit_of.Goals.{in_default-via-in-61+else-row, in_default-via-in_default-1}

pub returns-then-line-lt2 : goal.returns-then-line-lt2
returns-then-line-lt2 c =
    elim c.then-line-lt2.branch [
      | then-line-lt2-via-then-line-lt2 w ↦ sym (edit_short c.args.version c.args.line.now w.if-line-lt2.true)
      | then-line-lt2-via-else-line-lt2+then-line-ne32 w ↦ sym (edit_other c.args.version c.args.line.now
          w.if-line-lt2.false w.if-line-ne32.true)
    ]

pub returns-in-43 : goal.returns-in-43
returns-in-43 c =
    let s : List ℕ = c.args.line.now in
    let rest : take (length s - 2) (drop 2 s) ≡ drop 2 s = take_rest s 2 in
    let edited : edit c.args.version s ≡ edit_at c.args.version (get_or s 0 0) (drop 2 s) =
    edit_is c.args.version s c.if-line-lt2.false c.if-line-ne32.false in
    let signed : edit_at c.args.version (get_or s 0 0) (drop 2 s) ≡ edit_from Add (point (drop 2 s)) =
    ap (λ (b : ℕ). edit_at c.args.version b (drop 2 s)) c.in-43.is in
    let read : c.point_of.result ≡ point (drop 2 s) = c.point_of.ensures ∙ ap point rest in
    let mapped : c.map.result ≡ edit_from Add c.point_of.result = grind (arith, common_steps) in
    mapped ∙ ap (edit_from Add) read ∙ sym (edited ∙ signed)

pub returns-in-45 : goal.returns-in-45
returns-in-45 c =
    let s : List ℕ = c.args.line.now in
    let rest : take (length s - 2) (drop 2 s) ≡ drop 2 s = take_rest s 2 in
    let edited : edit c.args.version s ≡ edit_at c.args.version (get_or s 0 0) (drop 2 s) =
    edit_is c.args.version s c.if-line-lt2.false c.if-line-ne32.false in
    let signed : edit_at c.args.version (get_or s 0 0) (drop 2 s) ≡ edit_from Take (point (drop 2 s)) =
    ap (λ (b : ℕ). edit_at c.args.version b (drop 2 s)) c.in-45.is in
    let read : c.point_of-in-45.result ≡ point (drop 2 s) = c.point_of-in-45.ensures ∙ ap point rest in
    let mapped : c.map-in-45.result ≡ edit_from Take c.point_of-in-45.result = search rules in
    mapped ∙ ap (edit_from Take) read ∙ sym (edited ∙ signed)

pub returns-in-61 : goal.returns-in-61
returns-in-61 c =
    let v = c.args.version in
    let s : List ℕ = c.args.line.now in
    let rest : take (length s - 2) (drop 2 s) ≡ drop 2 s = take_rest s 2 in
    let edited : edit v s ≡ edit_at v (get_or s 0 0) (drop 2 s) = edit_is v s c.if-line-lt2.false c.if-line-ne32.false
    in
    let may : (row v).moves ≡ true = sym c.row.ensures.moves ∙ c.if-row.true in
    let signed : edit_at v (get_or s 0 0) (drop 2 s) ≡ move_of (halves (drop 2 s)) =
    at_equals v (get_or s 0 0) (drop 2 s) c.in-61.is may in
    c.move_of.ensures ∙ ap (λ (l : List ℕ). move_of (halves l)) rest ∙ sym (edited ∙ signed)

pub returns-in_default : goal.returns-in_default
returns-in_default c =
    let v = c.args.version in
    let s : List ℕ = c.args.line.now in
    let edited : edit v s ≡ edit_at v (get_or s 0 0) (drop 2 s) = edit_is v s c.if-line-lt2.false c.if-line-ne32.false
    in
    elim c.in_default.branch [
      | in_default-via-in-61+else-row w ↦
          sym (edited ∙ at_equals_unmoved v (get_or s 0 0) (drop 2 s) w.in-61.is (sym w.row.ensures.moves
          ∙ w.if-row.false))
      | in_default-via-in_default-1 w ↦
          sym (edited ∙ at_other v (get_or s 0 0) (drop 2 s) (omega arith) (omega arith) (omega arith))
    ]
