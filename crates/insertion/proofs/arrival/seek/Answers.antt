use Rattle.std.proofs.Common.{ap}
use Rattle.edit_history.proofs.Cited.{ok_then}
use Rattle.cavity.specs.Digs.{Digging}
use Rattle.insertion.proofs.arrival.seek.Goals as goal

pub returns-in_ok-dig-in-Here : goal.returns-in_ok-dig-in-Here
returns-in_ok-dig-in-Here c =
    let d = c.in_ok-dig-in-Here.ensures in
    ok_then _ _ c.dig_on.result
    (λ turn k s sh i. k s sh (
      ap (λ (x : Digging). x.point) d.begun,
      d.digs s (record { absent = i.0.absent; goes = c.in-Here.ensures s sh i.0 i.1 }),
    ))
    c.dig_on.ensures
