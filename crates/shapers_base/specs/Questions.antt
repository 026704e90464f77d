-- The questions to a font whether a feature would substitute some glyphs.
use Rattle.std.specs.Prelude.{ℕ, Bool, List}
use Rattle.shapers_base.specs.Map.{Map, lookups_in, range_for, would_one}
use Rattle.shapers_buffer.specs.declared.buffer.tag.hb_tag_t.{hb_tag_t}
use Rattle.shapers_base.specs.declared.font.GlyphId.{GlyphId}
use Rattle.shapers_base.specs.declared.plan.indic.IndicWouldSubstituteFeature.{IndicWouldSubstituteFeature}

-- the question about the feature by this tag: its stage's lookups, and whether without context
abbrev pub question_for : hb_tag_t → Bool → Map → IndicWouldSubstituteFeature
question_for tag zero m = record { lookups = range_for tag m; zero_context = zero }

-- its result: whether one of its lookups would apply to exactly these glyphs
abbrev pub would_by : (ℕ → List GlyphId → Bool → Bool) → Map → IndicWouldSubstituteFeature →
    List GlyphId → Bool
would_by applies m q glyphs = would_one applies (lookups_in q.lookups m) glyphs q.zero_context
