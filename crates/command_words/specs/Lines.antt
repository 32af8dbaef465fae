-- The status of each stop, and the line that tells a status on standard error.
use Rattle.std.specs.Prelude.{ℕ, List, [], ◌==◌, codes, if◌then◌else◌}
use Rattle.command_words.specs.declared.stop.Stop.{Stop}
use Rattle.command_words.specs.declared.stop.Stop.TheVariants.{Memory, Usage, ReadFault, WriteFault, BadLine, Flat}
use Rattle.command_words.specs.declared.stop.Stop.TheVariants.{TooLong, NoPart, NoAlpha, BadMesh}

abbrev pub status_of : Stop → ℕ
status_of Memory = 1
status_of Usage = 2
status_of ReadFault = 3
status_of WriteFault = 4
status_of (BadLine line) = 5
status_of Flat = 6
status_of TooLong = 7
status_of NoPart = 8
status_of NoAlpha = 9
status_of BadMesh = 10

-- the line of a status other than 5
abbrev pub plain_line : ℕ → List ℕ
plain_line status =
    if status == 1 then codes "delaunay: out of memory\n"
    else (if status == 2 then codes "delaunay: usage\n"
    else (if status == 3 then codes "delaunay: read fault\n"
    else (if status == 4 then codes "delaunay: write fault\n"
    else (if status == 6 then codes "delaunay: no four independent points\n"
    else (if status == 7 then codes "delaunay: input too long\n"
    else (if status == 8 then codes "delaunay: no such part\n"
    else (if status == 9 then codes "delaunay: no such alpha\n"
    else (if status == 10 then codes "delaunay: bad mesh\n"
    else []))))))))
