-- Where the first piece of a text keeps its forms, as far as joining goes: what the code's own
-- flags tell, whatever becomes of the second piece.
use Rattle.std.specs.Prelude.{ℕ, ◌≡◌, ◌<◌, List, length, take, Option}
use Rattle.shapers_buffer.specs.Buffer.{Buffer}
use Rattle.shapers_buffer.specs.Glyph.{order_view}
use Rattle.shapers_buffer.specs.declared.buffer.category.hb_unicode_general_category_t.{hb_unicode_general_category_t}
use Rattle.shapers_buffer.specs.declared.buffer.tag.Script.{Script}
use Rattle.shapers_base.specs.declared.plan.breaks.BreakFlags.{BreakFlags}
use Rattle.shapers_base.specs.declared.plan.breaks.BreakFlags.TheVariants.{AsCode}
use Rattle.shapers_base.specs.declared.plan.joining.hb_arabic_joining_type_t.{hb_arabic_joining_type_t}
use Rattle.shapers_clusters.specs.Breaks.{IsClear}
use Rattle.shapers_arabic.specs.Breaks.{front_at}
use Rattle.shapers_arabic.specs.Fresh.{IsFresh, SelectorsAreTransparent}
use Rattle.shapers_arabic.specs.JoinedText.{buffer_joined, text_of}

-- the buffer after joining has before place n what its first half has, joined by itself: all but
-- clusters and glyph flags
abbrev pub FirstKeepsAt : BreakFlags → List ℕ → Option Script → (ℕ → hb_arabic_joining_type_t) →
    (ℕ → hb_unicode_general_category_t) → Buffer → Buffer → ℕ → Type 0
FirstKeepsAt breaks masks script joining general old new n =
    order_view (take n new.glyphs)
    ≡ order_view (buffer_joined breaks masks script joining general (front_at n old)).glyphs

-- The first half keeps its forms and masks at each clear place, whichever flags are chosen. With
-- those of the code a place of a fresh text is clear only there: no flag of theirs is needless for
-- the first half.
abbrev pub FirstKeepsAsFlagged : BreakFlags → List ℕ → Option Script →
    (ℕ → hb_arabic_joining_type_t) → (ℕ → hb_unicode_general_category_t) → Buffer → Buffer → Type 0
FirstKeepsAsFlagged breaks masks script joining general old new =
    (n : ℕ) → 0 < n → n < length old.glyphs →
    (IsClear new.glyphs n → FirstKeepsAt breaks masks script joining general old new n)
    × (breaks ≡ AsCode → IsFresh masks old.glyphs →
    SelectorsAreTransparent script (text_of joining general old) →
    FirstKeepsAt breaks masks script joining general old new n → IsClear new.glyphs n)
