-- The sets of rules of contexts of formats 1 and 2.
use Rattle.std.specs.Prelude.{ℕ, ◌<◌, ◌==◌, ◌≡◌, Bool, List, length, slice_index_or, if◌then◌else◌}
use Rattle.opentype_face.specs.Bytes.{u16_in}
use Rattle.opentype_layout.specs.RuleHeads.{SetOfRules, no_rules}
use Rattle.opentype_layout.specs.Rules.{set_in, sets_at}

-- where the count of a context's sets of rules stands
abbrev pub place_of_rules : Bool → List ℕ → ℕ
place_of_rules chained bytes = if u16_in bytes 0 == 1 then 4 else sets_at chained

-- each of these is the context's set with its number, as far as they go
pub record AreSetsOfRules (chained : Bool) (bytes : List ℕ) (sets : List SetOfRules) : Type 0 where
  pub each : (i : ℕ) → i < length sets → slice_index_or sets i (no_rules chained)
      ≡ (let set : SetOfRules = record {
        chained = chained;
        bytes = set_in bytes (place_of_rules chained bytes) i;
      } in set)
