-- Lookups that give no syllable more glyphs of a sort.
use Rattle.std.specs.Prelude.{ℕ, ◌==◌, ◌≤◌, Bool, List, count_by, nat_lt}
use Rattle.std.specs.List.{AllByRecursion, AllZip}
use Rattle.shapers_buffer.specs.Buffer.{Buffer}
use Rattle.shapers_buffer.specs.Glyphs.{Glyph, Glyphs}
use Rattle.shapers_buffer.specs.Syllables.{kind_of, syllables}
use Rattle.shapers_plan.specs.declared.ot_map.lookups.StageLookup.{StageLookup}

-- No syllable has more glyphs that pass the test than it had. It may have fewer glyphs, as where a
-- ligature stands for several.
abbrev pub AddsNone : (Glyph → Bool) → Glyphs → Glyphs → Type 0
AddsNone test old new =
    AllZip (λ before after. count_by test after ≤ count_by test before)
    (syllables old) (syllables new)

-- so each of these lookups, whatever the text
abbrev pub LookupsAddNone :
    (Glyph → Bool) → (StageLookup → Buffer → Buffer) → List StageLookup → Type 0
LookupsAddNone test substituted list =
    AllByRecursion (λ lookup. (b : Buffer) → AddsNone test b.glyphs (substituted lookup b).glyphs)
    list

-- whether a glyph has this category, and whether its syllable is of a kind above the last known
abbrev pub is_in_category : ℕ → Glyph → Bool
is_in_category k g = g.category == k

abbrev pub is_unknown : ℕ → Glyph → Bool
is_unknown last g = nat_lt last (kind_of g.syllable)
