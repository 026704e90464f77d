-- Which spans of a text stay where a stretch of it is replaced, by any grammar.
use Rattle.std.specs.Prelude.{ℕ, ◌≡◌, ◌<◌, true, false, List, [], ◌∷◌, ◌++◌, length, drop}
use Rattle.shapers_buffer.specs.Glyphs.{Glyphs}
use Rattle.shapers_buffer.specs.declared.buffer.syllables.Span.{Span}
use Rattle.shapers_buffer.specs.Syllables.{spans_cover}
use Rattle.shapers_spans.specs.Cuts.{ReadsAlike}
use Rattle.shapers_spans.specs.Grammar.{Grammar, IsSyllableCut, NoneTakes, read_of}

-- The grammar is done with what it reads from the start of a syllable up to an edit: it reads at
-- least two glyphs, and takes neither all of them nor all of them with anything behind. So the
-- match doesn't read into the edit.
pub record IsDone (g : Grammar) (w : List ℕ) : Type 0 where
  pub two : 1 < length w
  pub none : (v : List ℕ) → NoneTakes g.rules (w ++ v)

-- so from the start of each of these spans, which stand one after another in front of an edit
abbrev pub AreDone : Grammar → Glyphs → List Span → Type 0
AreDone g gs [] = Unit {0}
AreDone g gs (span ∷ spans) = IsDone g (read_of g.passes gs) × AreDone g (drop span.len gs) spans

-- Spans in front of an edit stay where the grammar is done with each of them, if what stands before
-- the edit is read alike with either text behind it.
abbrev pub SpansInFrontStay : Type 0
SpansInFrontStay = (g : Grammar) (gs hs ks : Glyphs) (ps ss ts : List Span) →
    ReadsAlike g gs hs → ReadsAlike g gs ks →
    IsSyllableCut g (gs ++ hs) (ps ++ ss) → IsSyllableCut g (gs ++ ks) ts → AreDone g gs ps →
    (us : List Span) × (ts ≡ ps ++ us)

-- Spans behind an edit stay from the first border on that both texts have.
abbrev pub SpansBehindStay : Type 0
SpansBehindStay = (g : Grammar) (gs hs ks : Glyphs) (ps qs ss ts : List Span) →
    g.passes [] ≡ false →
    IsSyllableCut g (gs ++ ks) (ps ++ ss) → spans_cover (length gs) ps ≡ true →
    IsSyllableCut g (hs ++ ks) (qs ++ ts) → spans_cover (length hs) qs ≡ true →
    ss ≡ ts

-- a text has one cut by a grammar
abbrev pub OneCut : Type 0
OneCut = (g : Grammar) (gs : Glyphs) (ss ts : List Span) →
    IsSyllableCut g gs ss → IsSyllableCut g gs ts → ss ≡ ts
