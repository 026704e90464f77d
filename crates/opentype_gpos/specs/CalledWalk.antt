-- What the code's stack of rules stands for, which is in the place of the recursion of `rule_made`.
use Rattle.std.specs.Prelude.{ℕ, ◌+◌, ◌-◌, List, [], ◌∷◌, map, reverse, length, Option, None, Some}
use Rattle.opentype_layout.specs.Rules.{Found}
use Rattle.opentype_gpos.specs.Called.{Work, record_made, records_made, rule_made}
use Rattle.opentype_gpos.specs.Coming.{Setting}
use Rattle.opentype_gpos.specs.declared.calling.Frame.{Frame}

-- a rule, and which of its records is next
pub record Begun : Type 0 where
  pub records : List ℕ
  pub count : ℕ
  pub places : List ℕ
  pub next : ℕ

abbrev pub begun_rule : Frame → Begun
begun_rule frame = record {
  records = frame.records.now;
  count = frame.count;
  places = frame.places.items;
  next = frame.next;
}

-- the rules on a stack, the top one first
abbrev pub begun_on : List Frame → List Begun
begun_on stack = reverse (map begun_rule stack)

-- What the rest of the records of a rule at this depth makes of a text; the first one on the stack
-- is at depth 1, and there are at most 63.
abbrev pub rest_of_rule : Setting → ℕ → Begun → Work → Work
rest_of_rule s depth f w = records_made (f.count - f.next)
    (record_made (rule_made (63 - depth) s) s f.records f.places) f.next w

-- and that of all rules on a stack
unfoldable pub rest_made : Setting → List Begun → Work → Work
rest_made s [] w = w
rest_made s (f ∷ fs) w = rest_made s fs (rest_of_rule s (length fs + 1) f w)

-- what a rule that a lookup found makes of a text, if it found one
abbrev pub made_if_found : (Found → Work → Work) → Option Found → Work → Work
made_if_found by_rule None w = w
made_if_found by_rule (Some rule) w = by_rule rule w
