-- What a turn of a refill comes to, from what its steps give.
use Rattle.std.specs.Prelude.{ℕ, List, IsSome}
use Rattle.list_laws.specs.Lists.{AreDistinct}
use Rattle.std.proofs.Common.{sym, subst}
use Rattle.list_laws.proofs.Cited.{none_there}
use Rattle.point_order.specs.declared.cell.Cell.{Cell}
use Rattle.point_order.specs.Sets.{IsIn}
use Rattle.hole_laws.specs.Edits.{IsSet, IsLinkSet}
use Rattle.cell_store.specs.Buckets.{InHand, bucket_at}
use Rattle.cell_store.specs.Ready.{AreHeld}
use Rattle.cell_store.specs.Missing.{IsCellMissing}
use Rattle.gift_wrap.specs.Near.{IsStar, AreTaken}
use Rattle.cell_changes.specs.Changes.{IsRefilled}
use Rattle.vertex_removal.specs.Turns.{IsNeededAround, NoneIsNeededAround}
use Rattle.star_refill.proofs.Cited.{hole_filled}
use Rattle.vertex_removal.proofs.Holes.{fresh_held}

-- a bucket that is missing for the cells at v is needed
pub star_needs : (hold : InHand) (s : List ℕ) (v : ℕ) (star : List Cell) (b : ℕ) → IsStar s v star →
    IsCellMissing hold star b → IsNeededAround hold s v b
star_needs hold s v star b k m =
    let r = (k m.cell).0 m.among in
    record {
      absent = m.missing.absent;
      cell = m.cell;
      listed = r.0;
      has_v = r.1;
      point = m.missing.point;
      has = m.missing.among;
      number = m.missing.number;
    }

-- and where none is missing, none is
pub none_needed : (hold : InHand) (s : List ℕ) (v : ℕ) (star : List Cell) → IsStar s v star → AreHeld hold star →
    NoneIsNeededAround hold s v
none_needed hold s v star k held b n =
    none_there (bucket_at hold.places b) n.absent (subst (λ (x : ℕ). IsSome (bucket_at hold.places x)) (sym n.number)
    (held n.cell ((k n.cell).1 (n.listed, n.has_v)) n.point n.has))

-- when the hole is filled
pub refill_done : (hold : InHand) (s : List ℕ) (v : ℕ) (t : List ℕ) (star fresh : List Cell) → IsSet s → IsIn v s →
    IsLinkSet s v t → IsStar s v star → AreDistinct star → AreHeld hold star →
    AreTaken t v fresh → NoneIsNeededAround hold s v × IsRefilled s v star fresh × AreHeld hold star
    × AreHeld hold fresh
refill_done hold s v t star fresh i m l k once held f =
    let r = hole_filled s v i m t l star fresh k once f in
    (none_needed hold s v star k held, r, held, fresh_held hold s v star fresh i m r held)
