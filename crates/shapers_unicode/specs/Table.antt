-- A property of code points in two levels, as the code has it.
use Rattle.std.specs.Prelude.{ℕ, ◌/◌, ◌%◌, ◌<◌, nat_lt, List, [], length, slice_index, get_or, if◌then◌else◌}
use Rattle.ucd_table.specs.Steps.{Step, step_value}

-- the value of a code point: by the block that the index gives its stretch of `size` code points,
-- as far as the index goes, and by the tail after that
unfoldable pub table_value : ℕ → List ℕ → List (List ℕ) → List (Step ℕ) → ℕ → ℕ
table_value size index blocks tail c =
    if nat_lt (c / size) (length index) then
    slice_index (get_or blocks (slice_index index (c / size)) []) (c % size)
    else step_value 0 tail c

-- the index names blocks alone
pub record IsTable (size : ℕ) (index : List ℕ) (blocks : List (List ℕ)) : Type 0 where
  pub some : 0 < size
  pub blocks_named : (i : ℕ) → i < length index → slice_index index i < length blocks
