-- A range of some bytes.
use Rattle.std.specs.Prelude.{ℕ, List, slice_range}
use Rattle.std.specs.declared.convert.AsSlice.{Ghosts}
use Rattle.std.specs.declared.ops.Range.{Range}
use Rattle.turn_client_api.specs.declared.receive.data_range.DataRange.{DataRange}

module _ {T : Type 0} {g : Ghosts T ℕ} where
  -- the bytes of which it is a range
  abbrev pub source_of : DataRange T g → T
  source_of r = r.source

  -- where it lies in them
  abbrev pub place_of : DataRange T g → Range ℕ
  place_of r = r.range

  -- the bytes of the range
  abbrev pub part_of : DataRange T g → List ℕ
  part_of r = slice_range (g.items r.source) r.range.start r.range.end
