-- The kinds of syllables by their numbers, span set-up and clearing, computed on small texts.
use Rattle.std.specs.Prelude.{◌≡◌, ℕ, true, false, List, [], ◌∷◌, map, refl}
use Rattle.shapers_buffer.specs.Glyphs.{Glyph, Glyphs}
use Rattle.shapers_syllabic.specs.declared.ot_shaper_syllabic.kinds.indic_syllable.TheConstants as indic
use Rattle.shapers_syllabic.specs.declared.ot_shaper_syllabic.kinds.khmer_syllable.TheConstants as khmer
use Rattle.shapers_syllabic.specs.declared.ot_shaper_syllabic.kinds.myanmar_syllable.TheConstants as myanmar
use Rattle.shapers_syllabic.specs.declared.ot_shaper_syllabic.kinds.use_syllable.TheConstants as universal
use Rattle.shapers_buffer.specs.Buffer.{Buffer, new_buffer}
use Rattle.shapers_buffer.specs.Glyph.{default_glyph}
use Rattle.shapers_syllabic.specs.MovedForward.{moved_forward}
use Rattle.shapers_syllabic.specs.Syllabic.{in_unsafe_syllable, setup_by_bytes, unsafe_spans, unsafe_syllables, unsubstituted, with_unsafe_syllables}
use Rattle.shapers_buffer.specs.Syllables.{in_syllable, kind_of, with_spans}

-- the kinds, in the order of their numbers
indic_kinds : indic.CONSONANT_SYLLABLE ∷ indic.VOWEL_SYLLABLE ∷ indic.STANDALONE_CLUSTER ∷ indic.SYMBOL_CLUSTER
    ∷ indic.BROKEN_CLUSTER ∷ indic.NON_INDIC_CLUSTER ∷ [] ≡ 0 ∷ 1 ∷ 2 ∷ 3 ∷ 4 ∷ 5 ∷ []
indic_kinds = refl

khmer_kinds : khmer.CONSONANT_SYLLABLE ∷ khmer.BROKEN_CLUSTER ∷ khmer.NON_KHMER_CLUSTER ∷ [] ≡ 0 ∷ 1 ∷ 2 ∷ []
khmer_kinds = refl

myanmar_kinds : myanmar.CONSONANT_SYLLABLE ∷ myanmar.PUNCTUATION_CLUSTER ∷ myanmar.BROKEN_CLUSTER
    ∷ myanmar.NON_MYANMAR_CLUSTER ∷ [] ≡ 0 ∷ 1 ∷ 2 ∷ 3 ∷ []
myanmar_kinds = refl

universal_kinds : universal.VIRAMA_TERMINATED_CLUSTER ∷ universal.SAKOT_TERMINATED_CLUSTER ∷ universal.STANDARD_CLUSTER
    ∷ universal.NUMBER_JOINER_TERMINATED_CLUSTER ∷ universal.NUMERAL_CLUSTER ∷ universal.SYMBOL_CLUSTER
    ∷ universal.HIEROGLYPH_CLUSTER ∷ universal.BROKEN_CLUSTER ∷ universal.NON_CLUSTER ∷ [] ≡ 0 ∷ 1 ∷ 2 ∷ 3 ∷ 4 ∷ 5 ∷ 6
    ∷ 7 ∷ 8 ∷ []
universal_kinds = refl

-- the kind is the low four bits of the byte
kinds_of_bytes : map kind_of (0 ∷ 4 ∷ 15 ∷ 0x10 ∷ 0x14 ∷ 0x1F ∷ 0x20 ∷ 0xF0 ∷ 0xF7 ∷ 0xFF ∷ []) ≡ 0 ∷ 4 ∷ 15 ∷ 0 ∷ 4
    ∷ 15 ∷ 0 ∷ 0 ∷ 7 ∷ 15 ∷ []
kinds_of_bytes = refl

-- clearing takes one field back and keeps the others
abbrev full : Glyph
full = record {
  glyph_id = 0x916;
  mask = 0x1F;
  cluster = 5;
  glyph_props = record { 0 = 0x70 };
  lig_props = record { 0 = 2 };
  syllable = 0x24;
  unicode_props = record { 0 = 0x09AC };
  category = 1;
  auxiliary = 3;
}

cleared_syllable : in_syllable 0 full ≡ record full { syllable = 0 }
cleared_syllable = refl

cleared_substitution : unsubstituted full ≡ record full { glyph_props = record { 0 = 0x60 } }
cleared_substitution = refl

cleared_of_others : unsubstituted (record full { glyph_props = record { 0 = 0xFFE0 } })
    ≡ record full { glyph_props = record { 0 = 0xFFE0 } }
cleared_of_others = refl

-- the span pause: bytes, flags inside each syllable, and the mark of a broken one
abbrev setup : Buffer
setup = with_unsafe_syllables (with_spans (record { len = 2; kind = 0 } ∷ record { len = 1; kind = 4 } ∷ []) 4
    (record (new_buffer 100) {
      glyphs = map (λ c. let g : Glyph = record default_glyph { cluster = c } in g) (0 ∷ 1 ∷ 2 ∷ []);
    }))

setup_bytes : map (λ g. let row : ℕ × ℕ = (g.syllable, g.mask) in row) setup.glyphs ≡ (0x10, 0) ∷ (0x10, 3)
    ∷ (0x24, 0) ∷ []
setup_bytes = refl

setup_broken : setup.broken ≡ true
setup_broken = refl

-- no break inside a syllable: each has its own least cluster, and bits 1 and 2 for the rest
abbrev of_rows : List (ℕ × ℕ) → Glyphs
of_rows rows = map (λ row. let g : Glyph = record default_glyph { syllable = row.0; cluster = row.1 } in g) rows

unsafe : map (λ g. g.mask)
    (unsafe_syllables (of_rows ((0x10, 2) ∷ (0x10, 1) ∷ (0x24, 3) ∷ (0x34, 4) ∷ (0x34, 5) ∷ (0x34, 4) ∷ [])))
    ≡ 3 ∷ 0 ∷ 0 ∷ 0 ∷ 3 ∷ 0 ∷ []
unsafe = refl

unsafe_setup : unsafe_spans (record { len = 2; kind = 0 } ∷ record { len = 1; kind = 4 } ∷ [])
    (of_rows ((0, 0) ∷ (0, 1) ∷ (0, 2) ∷ [])) ≡ record default_glyph { syllable = 0x10 }
    ∷ record default_glyph { syllable = 0x10; cluster = 1; mask = 3 }
    ∷ record default_glyph { syllable = 0x24; cluster = 2 } ∷ []
unsafe_setup = refl

unsafe_in_one : in_unsafe_syllable 0x24 (of_rows ((0, 0) ∷ (1, 1) ∷ [])) ≡ record default_glyph { syllable = 0x24 }
    ∷ record default_glyph { syllable = 0x24; cluster = 1; mask = 3 } ∷ []
unsafe_in_one = refl

-- a text set up by the bytes that it has: flags inside each syllable whose clusters differ, the
-- mark where one is of the broken kind
abbrev by_bytes : ℕ → List (ℕ × ℕ) → Buffer
by_bytes kind gs =
    setup_by_bytes kind
    (record (new_buffer 9) { glyphs = map (λ (g : ℕ × ℕ). record default_glyph { cluster = g.0; syllable = g.1 }) gs })

masks_by_bytes : map (λ (g : Glyph). g.mask)
    (by_bytes 4 ((0, 0x10) ∷ (1, 0x10) ∷ (2, 0x24) ∷ (2, 0x24) ∷ (5, 0x30) ∷ (4, 0x30) ∷ [])).glyphs ≡ 0 ∷ 3 ∷ 0 ∷ 0 ∷ 3
    ∷ 0 ∷ []
masks_by_bytes = refl

marked_by_bytes : (by_bytes 4 ((0, 0x10) ∷ (1, 0x24) ∷ [])).broken ≡ true
marked_by_bytes = refl

unmarked_by_bytes : (by_bytes 4 ((0, 0x10) ∷ (1, 0x45) ∷ [])).broken ≡ false
unmarked_by_bytes = refl

still_marked : (setup_by_bytes 4 (record (new_buffer 9) { broken = true })).broken ≡ true
still_marked = refl

-- an element moved before others: to the start, past one and two, from the end, and to where it stands
moved : map (λ (ends : ℕ × ℕ). moved_forward {X = ℕ} ends.0 ends.1 (1 ∷ 2 ∷ 3 ∷ 4 ∷ 5 ∷ []))
    ((0, 1) ∷ (1, 3) ∷ (0, 4) ∷ (3, 4) ∷ (2, 2) ∷ (4, 4) ∷ [])
    ≡ (2 ∷ 1 ∷ 3 ∷ 4 ∷ 5 ∷ []) ∷ (1 ∷ 4 ∷ 2 ∷ 3 ∷ 5 ∷ []) ∷ (5 ∷ 1 ∷ 2 ∷ 3 ∷ 4 ∷ []) ∷ (1 ∷ 2 ∷ 3 ∷ 5 ∷ 4 ∷ [])
    ∷ (1 ∷ 2 ∷ 3 ∷ 4 ∷ 5 ∷ []) ∷ (1 ∷ 2 ∷ 3 ∷ 4 ∷ 5 ∷ []) ∷ []
moved = refl
