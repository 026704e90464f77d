-- Buffers put together where no flag forbids it, as far as joining goes.
use Rattle.std.specs.Prelude.{ℕ, ◌≡◌, ◌+◌, ◌<◌, true, List, ◌++◌, length, take, drop, Option, None}
use Rattle.shapers_buffer.specs.Buffer.{Buffer, flags_concat, has_flag}
use Rattle.shapers_buffer.specs.Glyph.{characters, order_view}
use Rattle.shapers_buffer.specs.declared.buffer.category.hb_unicode_general_category_t.{hb_unicode_general_category_t}
use Rattle.shapers_buffer.specs.Glyphs.{Glyphs}
use Rattle.shapers_buffer.specs.declared.buffer.tag.Script.{Script}
use Rattle.shapers_base.specs.declared.plan.breaks.BreakFlags.{BreakFlags}
use Rattle.shapers_base.specs.declared.plan.joining.hb_arabic_joining_type_t.{hb_arabic_joining_type_t}
use Rattle.shapers_clusters.specs.Borders.{IsBare}
use Rattle.shapers_clusters.specs.Breaks.{IsClear}
use Rattle.shapers_arabic.specs.Joining.{nearest}
use Rattle.shapers_arabic.specs.JoinedText.{context_types, buffer_joined, opening, stored_types}

-- the first n glyphs of one buffer and those of another from m on, between the outer contexts
abbrev pub together_at : ℕ → ℕ → Buffer → Buffer → Buffer
together_at n m one two =
    record one { glyphs = take n one.glyphs ++ drop m two.glyphs; after = two.after }

-- the glyphs from place m on have a letter, or no letter follows them
abbrev pub HasOwnLetter : (ℕ → hb_arabic_joining_type_t) → (ℕ → hb_unicode_general_category_t) →
    ℕ → Buffer → Type 0
HasOwnLetter joining general m b =
    nearest (stored_types joining (drop m b.glyphs)) ≡ None →
    nearest (context_types joining general b.after) ≡ None

-- the glyphs put together are what they were in the two texts, up to place n and from place m on,
-- all but clusters and glyph flags; only Mongolian selectors that begin the second part may differ
pub record KeepsParts (script : Option Script) (n m : ℕ)
    (one two whole : Glyphs) : Type 0 where
  pub first : order_view (take n whole) ≡ order_view (take n one)
  pub second : let k = opening script (characters (drop m two)) in
      order_view (drop (n + k) whole) ≡ order_view (drop (m + k) two)

-- So it is after joining, if before place n no break is forbidden in the one buffer, and before
-- place m no border in the other, which wants flags of concatenation.
abbrev pub GlyphsConcatenate : Type 0
GlyphsConcatenate = (breaks : BreakFlags) (masks : List ℕ) (script : Option Script)
    (joining : ℕ → hb_arabic_joining_type_t) (general : ℕ → hb_unicode_general_category_t)
    (n m : ℕ) (one two : Buffer) → has_flag flags_concat two.flags ≡ true → 0 < n →
    n < length one.glyphs → 0 < m → m < length two.glyphs → HasOwnLetter joining general m two →
    let after = buffer_joined breaks masks script joining general in
    IsClear (after one).glyphs n → IsBare (after two).glyphs m →
    KeepsParts script n m (after one).glyphs (after two).glyphs
    (after (together_at n m one two)).glyphs
