-- Which lines may follow: how many, and whether points are among them.
use Rattle.std.specs.Prelude.{ℕ, ◌+◌, ⊤}
use Rattle.mesh_reader.specs.declared.place.Part.{Part}
use Rattle.mesh_reader.specs.declared.place.Part.TheVariants.{Replies, Points, Cells, Hull}
use Rattle.mesh_reader.specs.declared.place.Due.{Due}
use Rattle.mesh_reader.specs.declared.place.Due.TheVariants.{Title, Head, Body, Last, Nothing}
use Rattle.mesh_reader.specs.Grammar.{most_of}

-- how many lines may follow a list, at most
abbrev pub most_behind : Part → ℕ
most_behind Replies = 33816580
most_behind Points = 33554435
most_behind Cells = 16777218
most_behind Hull = 1

-- how many may follow where this is due, at most
abbrev pub most_left : Due → ℕ
most_left Title = 34078726
most_left (Head p) = 1 + most_of p + most_behind p
most_left (Body p more) = 1 + more + most_behind p
most_left Last = 1
most_left Nothing = 0

-- one more than a text may have lines
abbrev pub line_bound : ℕ
line_bound = 34078727

-- no more points are due behind this list
abbrev pub IsBehindPoints : Part → Type 0
IsBehindPoints Replies = ⊥
IsBehindPoints Points = ⊥
IsBehindPoints Cells = ⊤
IsBehindPoints Hull = ⊤

-- nor where this is due
abbrev pub HasAllPoints : Due → Type 0
HasAllPoints Title = ⊥
HasAllPoints (Head p) = IsBehindPoints p
HasAllPoints (Body p n) = IsBehindPoints p
HasAllPoints Last = ⊤
HasAllPoints Nothing = ⊤
