-- What the lists of rules of formats 1 and 2 begin with.
use Rattle.std.specs.Prelude.{ℕ, ◌+◌, ◌*◌, ◌<◌, ◌≡◌, Bool, List, [], length, slice_index_or, if◌then◌else◌}
use Rattle.opentype_face.specs.Bytes.{u16_in}
use Rattle.opentype_layout.specs.Looking.{nth_part}
use Rattle.opentype_layout.specs.declared.rule_heads.RuleHead.{RuleHead}

-- How many numbers each list of a rule has, and the first of them. A chained rule's lists stand one
-- behind another, each behind its count; the input's count has the first glyph too, which isn't in
-- its list. A rule that isn't chained has an input alone, with the count of its records between.
unfoldable pub head_in : Bool → List ℕ → RuleHead
head_in chained bytes =
    let input_at = 2 + u16_in bytes 0 * 2 in
    let behind_at = input_at + u16_in bytes input_at * 2 in
    if chained then record {
      before_count = u16_in bytes 0;
      before = u16_in bytes 2;
      input_count = u16_in bytes input_at;
      input = u16_in bytes (input_at + 2);
      behind_count = u16_in bytes behind_at;
      behind = u16_in bytes (behind_at + 2);
    }
    else record {
      before_count = 0;
      before = 0;
      input_count = u16_in bytes 0;
      input = u16_in bytes 4;
      behind_count = 0;
      behind = 0;
    }

abbrev pub no_head : RuleHead
no_head = record {
  before_count = 0;
  before = 0;
  input_count = 0;
  input = 0;
  behind_count = 0;
  behind = 0;
}

-- a set of rules: whether they are chained, and its bytes
pub record SetOfRules : Type 0 where
  pub chained : Bool
  pub bytes : List ℕ

abbrev pub no_rules : Bool → SetOfRules
no_rules chained = record { chained = chained; bytes = [] }

-- each of these is the head of the set's rule with its number, as far as they go
pub record AreRuleHeads (chained : Bool) (set : List ℕ) (heads : List RuleHead) : Type 0 where
  pub each : (i : ℕ) → i < length heads →
      slice_index_or heads i no_head ≡ head_in chained (nth_part set i)
