-- What holds of each syllable that a grammar finds: how often it has a category, and its kind.
use Rattle.std.specs.Prelude.{◌==◌, ◌≡◌, ◌≤◌, true, ℕ, List, All, None, Some, count_by}
use Rattle.std.specs.List.{AllByRecursion, AllZip}
use Rattle.shapers_buffer.specs.Glyphs.{Glyph, Glyphs}
use Rattle.shapers_buffer.specs.declared.buffer.syllables.Span.{Span}
use Rattle.shapers_buffer.specs.Syllables.{span_bytes, syllables, unknown_syllable, with_bytes}
use Rattle.shapers_spans.specs.Cuts.{AreSpansOf}
use Rattle.shapers_spans.specs.Grammar.{Grammar}
use Rattle.shapers_syllabic.specs.Circles.{rephas_len}
use Rattle.shapers_syllabic.specs.Syllabic.{unsafe_spans}

-- the glyphs with the syllable bytes of these spans
abbrev pub in_spans : Glyphs → List Span → Glyphs
in_spans gs spans = with_bytes gs (span_bytes 0 spans)

-- no syllable has two glyphs of this category
abbrev pub AtMostOneEach : ℕ → Glyphs → Type 0
AtMostOneEach k gs =
    AllByRecursion (λ syllable. count_by (λ g. g.category == k) syllable ≤ 1) (syllables gs)

-- so of the syllables that a grammar finds, whatever the text
abbrev pub FoundAtMostOne : Grammar → ℕ → Type 0
FoundAtMostOne g k = (gs : Glyphs) (spans : List Span) →
    AreSpansOf g gs spans → AtMostOneEach k (in_spans gs spans)

-- no syllable opens with two glyphs of this category, behind which a circle would open
abbrev pub OpensWithOne : ℕ → Glyphs → Type 0
OpensWithOne k gs = AllByRecursion (λ syllable. rephas_len (Some k) syllable ≤ 1) (syllables gs)

-- A glyph that stays in its syllable, and that has the category only if it had it before.
pub record GainsNone (k : ℕ) (old new : Glyph) : Type 0 where
  pub byte : new.syllable ≡ old.syllable
  pub gained : (new.category == k) ≡ true → (old.category == k) ≡ true

-- Where no glyph moves and each is such a glyph, no syllable has more of the category.
abbrev pub KeptAtMostOne : Type 0
KeptAtMostOne = (k : ℕ) (gs hs : Glyphs) → AllZip (GainsNone k) gs hs →
    AtMostOneEach k gs → AtMostOneEach k hs

-- where no syllable has two, none opens with two
abbrev pub OpensAsItHas : Type 0
OpensAsItHas = (k : ℕ) (gs : Glyphs) → AtMostOneEach k gs → OpensWithOne k gs

-- So it is behind a set-up by the spans of a grammar that gives each syllable at most one.
abbrev pub SetUpAtMostOne : Type 0
SetUpAtMostOne = (g : Grammar) (k : ℕ) → FoundAtMostOne g k →
    (gs : Glyphs) (spans : List Span) → AreSpansOf g gs spans →
    AtMostOneEach k (unsafe_spans spans gs)

-- The spans that a grammar finds have kinds up to this one, so that no syllable has an unknown
-- kind.
abbrev pub FoundKindsKnown : Grammar → ℕ → Type 0
FoundKindsKnown g last = (gs : Glyphs) (spans : List Span) → AreSpansOf g gs spans →
    All (λ span. span.kind ≤ last) spans
    × (unknown_syllable last (in_spans gs spans) ≡ None)
