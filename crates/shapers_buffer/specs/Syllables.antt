-- Syllables: longest sequences of equal syllable bytes, and the spans that set them.
use Rattle.std.specs.Prelude.{ℕ, suc, ◌+◌, ◌*◌, ◌%◌, ◌==◌, nat_lt, Bool, ◌&&◌, ◌||◌, List, [], ◌∷◌, ◌++◌, length, position, replicate, sum_by, None, Option, option_map, Some, if◌then◌else◌}
use Rattle.std.specs.List.{list_all, list_any, prefix_len}
use Rattle.shapers_buffer.specs.Glyphs.{Glyph, Glyphs}
use Rattle.shapers_buffer.specs.declared.buffer.refusal.ShaperError.{ShaperError}
use Rattle.shapers_buffer.specs.declared.buffer.refusal.ShaperError.TheVariants.{SpansDontCover, UnknownSyllable}
use Rattle.shapers_buffer.specs.declared.buffer.syllables.Span.{Span}
use Rattle.shapers_buffer.specs.Buffer.{Buffer}

-- whether the glyph has this syllable byte
abbrev pub has_byte : ℕ → Glyph → Bool
has_byte byte g = g.syllable == byte

-- how long the syllable is that begins the list: the longest sequence of its first byte
abbrev pub first_syllable_len : Glyphs → ℕ
first_syllable_len [] = 0
first_syllable_len (g ∷ gs) = suc (prefix_len (has_byte g.syllable) gs)

-- these pieces with g in front: in the first piece, if that has g's byte, else by itself
abbrev pub with_in_front : Glyph → List Glyphs →
    List Glyphs
with_in_front g [] = (g ∷ []) ∷ []
with_in_front g ([] ∷ pieces) = (g ∷ []) ∷ pieces
with_in_front g ((h ∷ piece) ∷ pieces) =
    if h.syllable == g.syllable then (g ∷ (h ∷ piece)) ∷ pieces
    else (g ∷ []) ∷ ((h ∷ piece) ∷ pieces)

-- the syllables: the list cut between neighbours of different bytes
abbrev pub syllables : Glyphs → List Glyphs
syllables [] = []
syllables (g ∷ gs) = with_in_front g (syllables gs)

-- the kind of a syllable byte: its low four bits
abbrev pub kind_of : ℕ → ℕ
kind_of byte = byte % 16

-- the first place of a kind above the last known: of the first syllable of unknown kind
abbrev pub unknown_syllable : ℕ → Glyphs → Option ℕ
unknown_syllable last gs = position (λ g. nat_lt last (kind_of g.syllable)) gs

-- the refusal that it gives, if there is one
abbrev pub unknown_refusal : ℕ → Glyphs → Option ShaperError
unknown_refusal last gs = option_map (λ place. UnknownSyllable place) (unknown_syllable last gs)

-- the byte of span i of the list: serial 1 to 15 and then 1 again, times 16, and the kind
abbrev pub span_byte : ℕ → Span → ℕ
span_byte i span = (i % 15 + 1) * 16 + span.kind

-- the byte of each place that these spans cover, the first of them at place i of the list
abbrev pub span_bytes : ℕ → List Span → List ℕ
span_bytes i [] = []
span_bytes i (span ∷ spans) = replicate span.len (span_byte i span) ++ span_bytes (suc i) spans

-- the glyph with this syllable byte
abbrev pub in_syllable : ℕ → Glyph → Glyph
in_syllable byte g = record g { syllable = byte }

-- the glyphs with these syllable bytes, one after another
abbrev pub with_bytes : Glyphs → List ℕ → Glyphs
with_bytes [] bytes = []
with_bytes (g ∷ gs) [] = g ∷ gs
with_bytes (g ∷ gs) (byte ∷ bytes) = in_syllable byte g ∷ with_bytes gs bytes

-- whether no span is empty and the lengths add up to n
abbrev pub spans_cover : ℕ → List Span → Bool
spans_cover n spans =
    list_all (λ span. nat_lt 0 span.len) spans && (sum_by (λ span. span.len) spans == n)

-- the refusal that they give where they don't
abbrev pub spans_refusal : List Span → Buffer → Option ShaperError
spans_refusal spans b = if spans_cover (length b.glyphs) spans then None else Some SpansDontCover

-- the buffer with the spans' bytes; where a span has the broken kind, with its mark
abbrev pub with_spans : List Span → ℕ → Buffer → Buffer
with_spans spans broken_kind b =
    record b {
      glyphs = with_bytes b.glyphs (span_bytes 0 spans);
      broken = list_any (λ span. span.kind == broken_kind) spans || b.broken;
    }
