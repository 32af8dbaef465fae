-- What a table that stands by itself shows.
use Rattle.std.proofs.Common.{◌≡◌, ap, sym, subst, ◌∙◌, ℕ, ◌<◌, List, [], map, length, get_or, replicate, arith}
use Rattle.std.specs.List.{All}
use Rattle.std.proofs.lemmas.List.{get_or-map, get_or_default, length-map, length-replicate}
use Rattle.point_order.specs.declared.cell.Cell.{Cell}
use Rattle.point_order.specs.declared.cell.Cell.TheVariants.{Full}
use Rattle.face_list.specs.declared.table.Table.{Table}
use Rattle.face_list.specs.Tables.{stretches, table_seen, IsTable, cells_numbered}
use Rattle.face_list.proofs.Stretches.{as_many, numbers_seen, paired_at}

-- what is around a face, by its index
pub around_seen : {K : Type 0} (cells : List Cell) (t : Table K) → IsTable (length cells) t → (i : ℕ) (k : K) →
    i < length t.keys.items →
    (get_or (table_seen cells t) i (k, [])).1
    ≡ cells_numbered cells (get_or (stretches t.numbers.items 0 t.ends.items) i [])
around_seen {K} cells t s i k h =
    let lists = stretches t.numbers.items 0 t.ends.items in
    let many = as_many t.numbers.items t.ends.items 0 in
    let l : i < length lists = omega (arith, h, many, s.ends) in
    let all : length (map (cells_numbered cells) lists) ≡ length t.keys.items =
    length-map lists (cells_numbered cells) ∙ many ∙ s.ends in
    ap (λ (f : K × List Cell). f.1) (paired_at t.keys.items (map (cells_numbered cells) lists) i k [] all h)
    ∙ get_or-map (cells_numbered cells) lists i [] [] l

-- it is so by whatever stands behind the numbers
pub numbers_named : {K : Type 0} (count : ℕ) (t : Table K) → IsTable count t → (i : ℕ) (numbers : List ℕ) →
    i < length t.keys.items → numbers ≡ get_or (stretches t.numbers.items 0 t.ends.items) i numbers →
    numbers ≡ get_or (stretches t.numbers.items 0 t.ends.items) i []
numbers_named count t s i numbers h e =
    let lists = stretches t.numbers.items 0 t.ends.items in
    let many = as_many t.numbers.items t.ends.items 0 in
    let l : i < length lists = omega (arith, h, many, s.ends) in
    e ∙ get_or_default lists i numbers [] l

-- and these are numbers of the table
pub numbers_apart : {K : Type 0} (count : ℕ) (t : Table K) → IsTable count t → (i : ℕ) (numbers : List ℕ) →
    i < length t.keys.items → numbers ≡ get_or (stretches t.numbers.items 0 t.ends.items) i numbers →
    All (λ n. n < count) numbers
numbers_apart count t s i numbers h e =
    let cells : List Cell = replicate count (Full []) in
    let k = length-replicate count (Full []) in
    numbers_seen count cells t (subst (λ (j : ℕ). IsTable j t) (sym k) s) i numbers h e k
