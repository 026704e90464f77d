-- Syllables and spans, computed on small texts.
use Rattle.std.specs.Prelude.{◌≡◌, ℕ, true, false, List, [], ◌∷◌, map, None, Some, refl}
use Rattle.shapers_buffer.specs.Glyphs.{Glyph, Glyphs}
use Rattle.shapers_buffer.specs.declared.buffer.refusal.ShaperError.TheVariants.{SpansDontCover, UnknownSyllable}
use Rattle.shapers_buffer.specs.declared.buffer.syllables.Span.{Span}
use Rattle.shapers_buffer.specs.Buffer.{Buffer, new_buffer}
use Rattle.shapers_buffer.specs.Glyph.{default_glyph}
use Rattle.shapers_buffer.specs.Syllables.{first_syllable_len, in_syllable, kind_of, span_byte, span_bytes, spans_cover, spans_refusal, syllables, unknown_refusal, unknown_syllable, with_bytes, with_spans}

-- glyphs of these syllable bytes, and of these bytes and clusters
abbrev of_bytes : List ℕ → Glyphs
of_bytes bytes = map (λ byte. let g : Glyph = record default_glyph { syllable = byte } in g) bytes

abbrev of_rows : List (ℕ × ℕ) → Glyphs
of_rows rows = map (λ row. let g : Glyph = record default_glyph { syllable = row.0; cluster = row.1 } in g) rows

abbrev bytes : Glyphs → List ℕ
bytes gs = map (λ g. g.syllable) gs

-- a span by its length and kind
abbrev span : ℕ × ℕ → Span
span row = record { len = row.0; kind = row.1 }

abbrev spans : List (ℕ × ℕ) → List Span
spans rows = map span rows

-- a glyph whose fields are all set
abbrev full : Glyph
full = record {
  glyph_id = 0x916;
  cluster = 5;
  mask = 0x1F;
  syllable = 0x24;
  category = 1;
  auxiliary = 3;
  glyph_props = record { 0 = 0x70 };
  lig_props = record { 0 = 2 };
  unicode_props = record { 0 = 0x09AC };
}

-- syllables are longest sequences of equal bytes; a byte that comes again is a syllable of its own
cut : map bytes (syllables (of_bytes (0x10 ∷ 0x10 ∷ 0x24 ∷ 0x10 ∷ 0x14 ∷ 0x14 ∷ 0x14 ∷ []))) ≡ (0x10 ∷ 0x10 ∷ [])
    ∷ (0x24 ∷ []) ∷ (0x10 ∷ []) ∷ (0x14 ∷ 0x14 ∷ 0x14 ∷ []) ∷ []
cut = refl

cut_one : map bytes (syllables (of_bytes (0 ∷ 0 ∷ []))) ≡ (0 ∷ 0 ∷ []) ∷ []
cut_one = refl

cut_none : syllables [] ≡ []
cut_none = refl

cut_keeps : syllables (full ∷ full ∷ record full { syllable = 0x25 } ∷ []) ≡ (full ∷ full ∷ [])
    ∷ (record full { syllable = 0x25 } ∷ []) ∷ []
cut_keeps = refl

-- the length of the first
first_len : map (λ bs. first_syllable_len (of_bytes bs)) ([] ∷ (5 ∷ []) ∷ (5 ∷ 5 ∷ 6 ∷ 5 ∷ []) ∷ (5 ∷ 6 ∷ []) ∷ [])
    ≡ 0 ∷ 1 ∷ 2 ∷ 1 ∷ []
first_len = refl

-- the kind is the byte's low four bits, each of the sixteen
kinds : map kind_of (0 ∷ 0x11 ∷ 0x22 ∷ 0x33 ∷ 0x44 ∷ 0x55 ∷ 0x66 ∷ 0x77 ∷ 0x88 ∷ 0x99 ∷ 0xAA ∷ 0xBB ∷ 0xCC ∷ 0xDD ∷ 0xEE
    ∷ 0xFF ∷ []) ≡ 0 ∷ 1 ∷ 2 ∷ 3 ∷ 4 ∷ 5 ∷ 6 ∷ 7 ∷ 8 ∷ 9 ∷ 10 ∷ 11 ∷ 12 ∷ 13 ∷ 14 ∷ 15 ∷ []
kinds = refl

-- serial 1 to 15, then 1 again
serials : map (λ i. span_byte i (span (1, 4))) (0 ∷ 1 ∷ 13 ∷ 14 ∷ 15 ∷ 16 ∷ 29 ∷ 30 ∷ []) ≡ 0x14 ∷ 0x24 ∷ 0xE4 ∷ 0xF4
    ∷ 0x14 ∷ 0x24 ∷ 0xF4 ∷ 0x14 ∷ []
serials = refl

-- each span's byte as often as it is long
span_lengths : span_bytes 0 (spans ((2, 0) ∷ (1, 4) ∷ (3, 15) ∷ [])) ≡ 0x10 ∷ 0x10 ∷ 0x24 ∷ 0x3F ∷ 0x3F ∷ 0x3F ∷ []
span_lengths = refl

span_wrap : span_bytes 13 (spans ((1, 1) ∷ (2, 2) ∷ (1, 3) ∷ (1, 4) ∷ [])) ≡ 0xE1 ∷ 0xF2 ∷ 0xF2 ∷ 0x13 ∷ 0x24 ∷ []
span_wrap = refl

-- spans cover n glyphs where none is empty and their lengths sum up to n
covering : map (λ n. spans_cover n (spans ((2, 0) ∷ (1, 4) ∷ []))) (0 ∷ 2 ∷ 3 ∷ 4 ∷ []) ≡ false ∷ false ∷ true ∷ false
    ∷ []
covering = refl

covering_empty : map (spans_cover 2) (spans ((0, 0) ∷ (2, 0) ∷ []) ∷ spans ((2, 0) ∷ (0, 0) ∷ [])
    ∷ spans ((1, 0) ∷ (0, 0) ∷ (1, 0) ∷ []) ∷ spans ((1, 0) ∷ (1, 0) ∷ []) ∷ []) ≡ false ∷ false ∷ false ∷ true ∷ []
covering_empty = refl

covering_none : map (λ n. spans_cover n []) (0 ∷ 1 ∷ []) ≡ true ∷ false ∷ []
covering_none = refl

-- a text of three glyphs, and the refusals of spans for it
abbrev three : Buffer
three = record (new_buffer 100) { glyphs = of_rows ((0, 0) ∷ (0, 1) ∷ (0, 2) ∷ []) }

refusals : map (λ rows. spans_refusal (spans rows) three) (((2, 0) ∷ []) ∷ ((2, 0) ∷ (1, 0) ∷ [])
    ∷ ((3, 0) ∷ (0, 0) ∷ []) ∷ ((4, 0) ∷ []) ∷ []) ≡ Some SpansDontCover ∷ None ∷ Some SpansDontCover
    ∷ Some SpansDontCover ∷ []
refusals = refl

-- the spans' bytes; the mark of a broken syllable comes where a span has that kind, and is never cleared
spans_broken : with_spans (spans ((2, 0) ∷ (1, 4) ∷ [])) 4 three
    ≡ record three { glyphs = of_rows ((0x10, 0) ∷ (0x10, 1) ∷ (0x24, 2) ∷ []); broken = true }
spans_broken = refl

spans_whole : with_spans (spans ((2, 0) ∷ (1, 4) ∷ [])) 5 three
    ≡ record three { glyphs = of_rows ((0x10, 0) ∷ (0x10, 1) ∷ (0x24, 2) ∷ []) }
spans_whole = refl

spans_keep_mark : with_spans (spans ((3, 0) ∷ [])) 4 (record three { broken = true })
    ≡ record three { glyphs = of_rows ((0x10, 0) ∷ (0x10, 1) ∷ (0x10, 2) ∷ []); broken = true }
spans_keep_mark = refl

-- bytes change nothing else, and reach as far as they go
bytes_keep : with_bytes (full ∷ full ∷ full ∷ []) (0x10 ∷ 0x21 ∷ []) ≡ record full { syllable = 0x10 }
    ∷ record full { syllable = 0x21 } ∷ full ∷ []
bytes_keep = refl

byte_keeps : in_syllable 0 full ≡ record full { syllable = 0 }
byte_keeps = refl

-- the first glyph of a kind above the last known one
unknown : map (λ last. unknown_syllable last (of_bytes (0x10 ∷ 0x24 ∷ 0x35 ∷ 0x4F ∷ []))) (3 ∷ 4 ∷ 5 ∷ 14 ∷ 15 ∷ [])
    ≡ Some 1 ∷ Some 2 ∷ Some 3 ∷ Some 3 ∷ None ∷ []
unknown = refl

unknown_first : unknown_syllable 5 (of_bytes (0x16 ∷ 0x16 ∷ 0x26 ∷ [])) ≡ Some 0
unknown_first = refl

unknown_none : unknown_syllable 5 [] ≡ None
unknown_none = refl

unknown_refused : map (λ last. unknown_refusal last (of_bytes (0x10 ∷ 0x24 ∷ []))) (3 ∷ 4 ∷ [])
    ≡ Some (UnknownSyllable 1) ∷ None ∷ []
unknown_refused = refl
