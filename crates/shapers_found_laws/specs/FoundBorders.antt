-- With what found syllables open, and where their borders are those of clusters.
use Rattle.std.specs.Prelude.{ℕ, ◌==◌, ◌-◌, ◌<◌, ◌≤◌, ◌≡◌, true, false, List, [], ◌∷◌, drop, get_or, length, slice_index}
use Rattle.std.specs.List.{AllByRecursion, list_any}
use Rattle.shapers_buffer.specs.Glyph.{clusters, default_glyph}
use Rattle.shapers_buffer.specs.Glyphs.{Glyph, Glyphs}
use Rattle.shapers_buffer.specs.Properties.{is_continuation}
use Rattle.shapers_buffer.specs.declared.buffer.syllables.Span.{Span}
use Rattle.shapers_spans.specs.Cuts.{AreSpansOf}
use Rattle.shapers_spans.specs.Grammar.{Grammar}
use Rattle.shapers_break_laws.specs.IndicBreaks.{SpansSeparateClusters}

-- this holds of each span and of the glyph that opens it
abbrev pub EachOpens : (Span → Glyph → Type 0) → List Span → Glyphs → Type 0
EachOpens P [] gs = Unit {0}
EachOpens P (span ∷ spans) gs =
    P span (get_or gs 0 default_glyph) × EachOpens P spans (drop span.len gs)

-- the glyph's category is one of these
abbrev pub IsOneOf : List ℕ → Glyph → Type 0
IsOneOf categories glyph = list_any (λ c. c == glyph.category) categories ≡ true

-- the glyph begins a grapheme
abbrev pub BeginsGrapheme : Glyph → Type 0
BeginsGrapheme glyph = is_continuation glyph.unicode_props ≡ false

-- Each syllable that a grammar finds, if it is of a kind up to this one, opens with a glyph of one
-- of these categories.
abbrev pub FoundOpensWith : Grammar → ℕ → List ℕ → Type 0
FoundOpensWith g last categories = (gs : Glyphs) (spans : List Span) → AreSpansOf g gs spans →
    EachOpens (λ span glyph. span.kind ≤ last → IsOneOf categories glyph) spans gs

-- Neighbours share a cluster only where the second of them carries on a grapheme.
abbrev pub SharesInGraphemes : Glyphs → Type 0
SharesInGraphemes gs = (p : ℕ) → 0 < p → p < length gs →
    slice_index (clusters gs) (p - 1) ≡ slice_index (clusters gs) p →
    is_continuation (get_or gs p default_glyph).unicode_props ≡ true

-- Where neighbours share a cluster only so, glyphs of these categories begin graphemes, and so do
-- those that open syllables of other kinds: each border of found syllables is one of clusters.
abbrev pub FoundBordersPart : Grammar → ℕ → List ℕ → Type 0
FoundBordersPart g last categories = (gs : Glyphs) (spans : List Span) → AreSpansOf g gs spans →
    SharesInGraphemes gs →
    AllByRecursion (λ glyph. IsOneOf categories glyph → BeginsGrapheme glyph) gs →
    EachOpens (λ span glyph. last < span.kind → BeginsGrapheme glyph) spans gs →
    SpansSeparateClusters spans gs

-- so whatever the grammar, if it gives such syllables
abbrev pub BordersPart : Type 0
BordersPart = (g : Grammar) (last : ℕ) (categories : List ℕ) → FoundOpensWith g last categories →
    FoundBordersPart g last categories
