-- The file that is made of two numbers: how many edits it has, and where its draws start.
use Rattle.std.specs.Prelude.{ℕ, zero, suc, ◌+◌, ◌-◌, ◌*◌, ◌/◌, ◌%◌, ◌==◌, List, [], ◌∷◌, map, if◌then◌else◌}
use Rattle.std.specs.List.{range_with_len}
use Rattle.point_order.specs.Sets.{is_among}
use Rattle.edit_history.specs.declared.history.Edit.{Edit}
use Rattle.edit_history.specs.declared.history.Edit.TheVariants.{Add, Take}
use Rattle.edit_files.specs.declared.version.Version.TheVariants.{One}
use Rattle.edit_files.specs.Content.{Content}
use Rattle.text_readings.specs.PointLines.{key_of, greatest_coordinate}

-- how many states the draws have: each is below 2^31
abbrev pub state_count : ℕ
state_count = 2147483648

-- the state that a draw makes of a state
abbrev pub next_state : ℕ → ℕ
next_state state = (state * 1103515245 + 12345) % state_count

-- the state behind so many draws from a start
abbrev pub state_after : ℕ → ℕ → ℕ
state_after start zero = start
state_after start (suc n) = next_state (state_after start n)

-- the draw that a state gives, a coordinate: 0 to 16383
abbrev pub draw_of : ℕ → ℕ
draw_of state = state / 131072

-- the point whose x, y and z are the three draws behind a state
abbrev pub point_behind : ℕ → ℕ
point_behind state =
    key_of (draw_of (next_state state)) (draw_of (next_state (next_state state)))
    (draw_of (next_state (next_state (next_state state))))

-- how many draws there were before edit line i, the first being 1: each line before it made three, every fourth none
abbrev pub draws_before : ℕ → ℕ
draws_before i = 3 * (i - 1 - (i - 1) / 4)

-- the point that edit line i draws
abbrev pub drawn_by : ℕ → ℕ → ℕ
drawn_by start i = point_behind (state_after start (draws_before i))

-- the points: (0,0,0), (16383,0,0), (0,16383,0) and (0,0,16383)
abbrev pub corners : List ℕ
corners =
    key_of 0 0 0 ∷ key_of greatest_coordinate 0 0 ∷ key_of 0 greatest_coordinate 0 ∷ key_of 0 0 greatest_coordinate ∷ []

-- the edit that goes back to a drawn point: it takes it, but where it is a corner it adds it again
abbrev pub back_to : ℕ → Edit
back_to p = if is_among p corners then Add p else Take p

-- edit line i: every fourth goes back to the point of the line before the last, and all others add what they draw
abbrev pub edit_line : ℕ → ℕ → Edit
edit_line start i = if i % 4 == 0 then back_to (drawn_by start (i - 2)) else Add (drawn_by start i)

-- how many edits there are at most: with the four points as many lines as a file may have
abbrev pub most_edits : ℕ
most_edits = 262140

-- the file of a count and a start, of version 1: its radii are 128, 512 and 2048, squared
abbrev pub generated : ℕ → ℕ → Content
generated count start =
    record {
      version = One;
      points = corners;
      edits = map (edit_line start) (range_with_len 1 count);
      radii = 16384 ∷ 262144 ∷ 4194304 ∷ [];
      queries = [];
    }
