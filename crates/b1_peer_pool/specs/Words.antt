-- The slices of a pool in the machine's words.
use Rattle.std.specs.Prelude.{List, map}
use Rattle.b1_model.specs.declared.tables.Usage.{Usage}
use Rattle.b1_model.specs.declared.tables.Usage.TheVariants as usage
use Rattle.b1_model.specs.MachineParts.{Slice}
use Rattle.b1_pool.specs.declared.slices.Slice.{Slice as PoolSlice}
use Rattle.b1_pool.specs.declared.slices.SliceState.{SliceState}
use Rattle.b1_pool.specs.declared.slices.SliceState.TheVariants as state

-- what a slice in a state is used for
abbrev pub usage_of : SliceState → Usage
usage_of state.Free = usage.Free
usage_of state.Unpublished = usage.Unpublished
usage_of state.Published = usage.Published

-- a slice of a pool in the machine's words
abbrev pub in_words : PoolSlice → Slice
in_words s = record { offset = s.offset; len = s.length; usage = usage_of s.state }

-- the slices of a pool in the machine's words
abbrev pub all_in_words : List PoolSlice → List Slice
all_in_words slices = map in_words slices
