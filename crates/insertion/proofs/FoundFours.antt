-- The opening four of a list of points.
use Rattle.std.specs.Prelude.{◌≡◌, ℕ, ◌<◌, false, List, length, Option, None, Some, IfSome, slice_index, slice_index_or}
use Rattle.std.specs.Option.{option_map}
use Rattle.std.proofs.Common.{subst, arith}
use Rattle.list_laws.proofs.Cited.{one_value}
use Rattle.point_order.specs.Orientation.{is_flat}
use Rattle.edit_history.specs.Opening.{opening_four, FourPlaces}
use Rattle.edit_history.specs.OneThread.{places}
use Rattle.edit_history.specs.Laws.{AreIndependent as AreIndependentOf}
use Rattle.edit_history.proofs.Cited.{four_law}

-- four places in a list, of independent points
pub record AreFound (points four : List ℕ) : Type 0 where
  pub first : slice_index_or four 0 0 < length points
  pub second : slice_index_or four 1 0 < length points
  pub third : slice_index_or four 2 0 < length points
  pub fourth : slice_index_or four 3 0 < length points
  pub independent :
      is_flat (slice_index points (slice_index_or four 0 0)) (slice_index points (slice_index_or four 1 0))
      (slice_index points (slice_index_or four 2 0)) (slice_index points (slice_index_or four 3 0)) ≡ false

-- so are those of the opening four
pub four_found : (points four : List ℕ) → option_map places (opening_four points) ≡ Some four → AreFound points four
four_found points four e = by (opening_four points) (four_law points) e
  where
    by : (o : Option FourPlaces) → IfSome o (AreIndependentOf points) → option_map places o ≡ Some four →
        AreFound points four
    by None i e = absurd (cc e)
    by (Some f) i e = subst (AreFound points) (one_value (places f) four e) (record {
      first = omega (arith, i.within, i.ascending.0, i.ascending.1, i.ascending.2);
      second = omega (arith, i.within, i.ascending.1, i.ascending.2);
      third = omega (arith, i.within, i.ascending.2);
      fourth = i.within;
      independent = i.independent;
    })
