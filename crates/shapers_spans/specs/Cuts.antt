-- What the spans of a text promise: they cover it, their kinds fit, and a text cut between two
-- spans has the spans of the whole on either side.
use Rattle.std.specs.Prelude.{◌≡◌, ◌==◌, ◌||◌, ◌&&◌, ◌<◌, ◌≤◌, Bool, true, false, List, [], ◌∷◌, ◌++◌, length, All}
use Rattle.std.specs.List.{list_all}
use Rattle.shapers_buffer.specs.Glyphs.{Glyphs}
use Rattle.shapers_buffer.specs.declared.buffer.syllables.Span.{Span}
use Rattle.shapers_buffer.specs.Syllables.{spans_cover}
use Rattle.shapers_spans.specs.Grammar.{Grammar, IsSyllableCut}
use Rattle.shapers_spans.specs.Passing.{next_is_mark}

-- The promise: the spans cut the text into a grammar's syllables, they cover it, and each kind fits
-- a syllable byte.
pub record AreSpansOf (g : Grammar) (gs : Glyphs) (spans : List Span) : Type 0 where
  pub cut : IsSyllableCut g gs spans
  pub cover : spans_cover (length gs) spans ≡ true
  pub kinds : All (λ (span : Span). span.kind ≤ 15) spans

-- Each glyph of the left half is read, or passed over, as it is with the right half behind it.
abbrev pub ReadsAlike : Grammar → Glyphs → Glyphs → Type 0
ReadsAlike g gs hs = (fs ks : Glyphs) → gs ≡ fs ++ ks → 0 < length ks →
    g.passes (ks ++ hs) ≡ g.passes ks

-- A text cut between two spans: the spans of its halves are those of the whole.
abbrev pub GrammarCutsBetweenSpans : Grammar → Type 0
GrammarCutsBetweenSpans g = g.passes [] ≡ false →
    (gs hs : Glyphs) (ss ts : List Span) → IsSyllableCut g (gs ++ hs) (ss ++ ts) →
    spans_cover (length gs) ss ≡ true → ReadsAlike g gs hs →
    IsSyllableCut g gs ss × IsSyllableCut g hs ts

-- whether the text ends with ZWNJ, CGJs behind it apart
abbrev pub ends_with_joiner : Glyphs → Bool
ends_with_joiner [] = false
ends_with_joiner (g ∷ gs) =
    ((g.category == 14) && list_all (λ h. h.category == 6) gs) || ends_with_joiner gs

-- whether a ZWNJ at the end of the left half is passed over for a mark in the right half
abbrev pub joiner_waits : Glyphs → Glyphs → Bool
joiner_waits gs hs = ends_with_joiner gs && next_is_mark hs
