-- The whole initial reordering of syllables, computed: order, clusters, masks.
use Rattle.std.specs.Prelude.{◌≡◌, ℕ, zero, suc, true, false, List, [], ◌∷◌, ◌++◌, map, replicate, refl}
use Rattle.std.specs.List.{range_with_len}
use Rattle.shapers_buffer.specs.Glyphs.{Glyph, Glyphs}
use Rattle.shapers_buffer.specs.declared.buffer.level.BufferClusterLevel.TheVariants.{MonotoneGraphemes}
use Rattle.shapers_indic.proofs.RowWords.{C, H, ZWNJ, ZWJ, M, Ra, glyphs_from, of, plainly, script, numbers_of, row_positions, row_masks}
use Rattle.shapers_indic_initial.proofs.InitialWords.{rules, no_masks, each_mask, with_reph_of, clusters_after, reordered}
use Rattle.shapers_indic_initial.specs.InitialClusters.{as_order_begins}
use Rattle.shapers_indic_initial.specs.InitialReordering.{initial_order, initial_steps, is_reordered_in_indic}

abbrev half_alone : List ℕ
half_alone = 0 ∷ 0 ∷ 0 ∷ 0 ∷ 0 ∷ 0 ∷ 0 ∷ 16 ∷ 0 ∷ 0 ∷ 0 ∷ 0 ∷ 0 ∷ 0 ∷ 0 ∷ 0 ∷ 0 ∷ []

abbrev reph_alone : List ℕ
reph_alone = 0 ∷ 0 ∷ 16 ∷ 0 ∷ 0 ∷ 0 ∷ 0 ∷ 0 ∷ 0 ∷ 0 ∷ 0 ∷ 0 ∷ 0 ∷ 0 ∷ 0 ∷ 0 ∷ 0 ∷ []

-- Devanagari, newer specification: C H ZWNJ B M with a left matra. It goes to the front, and only
-- it and the ZWNJ keep half.
left_matra : reordered (rules "Deva" false half_alone) (script "Deva")
    (of ((C, 4) ∷ (H, 4) ∷ (ZWNJ, 4) ∷ (C, 4) ∷ (M, 2) ∷ []))
    ≡ (4 ∷ 0 ∷ 1 ∷ 2 ∷ 3 ∷ []) ∷ (4 ∷ 0 ∷ 1 ∷ 2 ∷ 3 ∷ []) ∷ (16 ∷ 0 ∷ 0 ∷ 16 ∷ 0 ∷ []) ∷ []
left_matra = refl

-- matras behind the base are ordered by position, and merge by the cycles of the order
two_matras : reordered (rules "Deva" false no_masks) (script "Deva") (of ((C, 4) ∷ (M, 9) ∷ (M, 6) ∷ []))
    ≡ (0 ∷ 2 ∷ 1 ∷ []) ∷ (0 ∷ 1 ∷ 1 ∷ []) ∷ (0 ∷ 0 ∷ 0 ∷ []) ∷ []
two_matras = refl

three_matras : reordered (rules "Deva" false no_masks) (script "Deva") (of ((C, 4) ∷ (M, 9) ∷ (M, 6) ∷ (M, 8) ∷ []))
    ≡ (0 ∷ 2 ∷ 3 ∷ 1 ∷ []) ∷ (0 ∷ 1 ∷ 1 ∷ 1 ∷ []) ∷ (0 ∷ 0 ∷ 0 ∷ 0 ∷ []) ∷ []
three_matras = refl

left_and_two : reordered (rules "Deva" false no_masks) (script "Deva") (of ((C, 4) ∷ (M, 2) ∷ (M, 9) ∷ (M, 6) ∷ []))
    ≡ (1 ∷ 0 ∷ 3 ∷ 2 ∷ []) ∷ (1 ∷ 0 ∷ 2 ∷ 2 ∷ []) ∷ (0 ∷ 0 ∷ 0 ∷ 0 ∷ []) ∷ []
left_and_two = refl

-- the older specification: the H after the base goes behind a Ra below it, and all merges; in the newer it stays
old_halant : reordered (rules "Deva" true no_masks) (script "Deva") (of ((C, 4) ∷ (H, 4) ∷ (Ra, 8) ∷ (H, 4) ∷ []))
    ≡ (0 ∷ 2 ∷ 1 ∷ 3 ∷ []) ∷ (0 ∷ 0 ∷ 0 ∷ 0 ∷ []) ∷ (0 ∷ 0 ∷ 0 ∷ 0 ∷ []) ∷ []
old_halant = refl

new_halant : reordered (rules "Deva" false no_masks) (script "Deva") (of ((C, 4) ∷ (H, 4) ∷ (Ra, 8) ∷ (H, 4) ∷ []))
    ≡ (0 ∷ 1 ∷ 2 ∷ 3 ∷ []) ∷ (0 ∷ 1 ∷ 2 ∷ 3 ∷ []) ∷ (0 ∷ 0 ∷ 0 ∷ 0 ∷ []) ∷ []
new_halant = refl

-- a reph of Ra and H: the mask of rphf is on both and on nothing else; Ra H ZWJ is none, whatever the font says
reph : row_masks (initial_order (with_reph_of (0 ∷ 1 ∷ []) (rules "Deva" false reph_alone)) (script "Deva")
    (of ((Ra, 4) ∷ (H, 4) ∷ (C, 4) ∷ (M, 9) ∷ []))) ≡ 16 ∷ 16 ∷ 0 ∷ 0 ∷ []
reph = refl

no_reph : row_masks (initial_order (with_reph_of (0 ∷ 1 ∷ []) (rules "Deva" false reph_alone)) (script "Deva")
    (plainly (Ra ∷ H ∷ ZWJ ∷ []))) ≡ 0 ∷ 0 ∷ 0 ∷ []
no_reph = refl

-- Kannada: of an opening Ra H ZWJ the last two merge and change places
joiner_first : reordered (rules "Knda" false no_masks) (script "Knda") (plainly (Ra ∷ H ∷ ZWJ ∷ C ∷ []))
    ≡ (0 ∷ 2 ∷ 1 ∷ 3 ∷ []) ∷ (0 ∷ 1 ∷ 1 ∷ 3 ∷ []) ∷ (0 ∷ 0 ∷ 0 ∷ 0 ∷ []) ∷ []
joiner_first = refl

joiner_behind : reordered (rules "Knda" false no_masks) (script "Deva") (plainly (Ra ∷ H ∷ ZWJ ∷ C ∷ []))
    ≡ (0 ∷ 1 ∷ 2 ∷ 3 ∷ []) ∷ (0 ∷ 1 ∷ 2 ∷ 3 ∷ []) ∷ (0 ∷ 0 ∷ 0 ∷ 0 ∷ []) ∷ []
joiner_behind = refl

-- the kinds that are reordered: a consonant's, a vowel's, a standalone one and a broken one
kinds : map (λ k. is_reordered_in_indic (glyphs_from k 0 ((C, 4) ∷ []))) (range_with_len 0 16) ≡ true ∷ true ∷ true
    ∷ false ∷ true ∷ replicate 11 false
kinds = refl

symbols_stay : initial_order (rules "Deva" false each_mask) (script "Deva") (glyphs_from 3 0 ((C, 4) ∷ (M, 2) ∷ []))
    ≡ glyphs_from 3 0 ((C, 4) ∷ (M, 2) ∷ [])
symbols_stay = refl

broken_are_reordered : numbers_of
    (initial_order (rules "Deva" false each_mask) (script "Deva") (glyphs_from 4 0 ((C, 4) ∷ (M, 2) ∷ [])))
    ≡ 1 ∷ 0 ∷ []
broken_are_reordered = refl

no_steps : initial_steps (rules "Deva" false each_mask) (script "Deva") (glyphs_from 5 0 ((C, 4) ∷ (M, 2) ∷ [])) ≡ []
no_steps = refl

-- an empty syllable, and one of one glyph, which gets the base's position and no mask
empty : initial_order (rules "Deva" true each_mask) (script "Deva") [] ≡ []
empty = refl

one_glyph : initial_order (rules "Deva" true each_mask) (script "Deva") (of ((C, 11) ∷ [])) ≡ of ((C, 4) ∷ [])
one_glyph = refl

-- a matra alone keeps its position; without a base all stands before it
one_matra : row_masks (initial_order (rules "Deva" true each_mask) (script "Deva") (of ((M, 2) ∷ [])))
    ∷ row_positions (initial_order (rules "Deva" true each_mask) (script "Deva") (of ((M, 2) ∷ []))) ∷ []
    ≡ (128 ∷ []) ∷ (2 ∷ []) ∷ []
one_matra = refl

-- a glyph keeps all its other fields
abbrev full : Glyph
full = record {
  glyph_id = 7;
  mask = 0x1000;
  cluster = 5;
  glyph_props = record { 0 = 0x5E };
  lig_props = record { 0 = 0xE3 };
  syllable = 0x20;
  unicode_props = record { 0 = 0x09EC };
  category = M;
  auxiliary = 2;
}

fields_stay : initial_order (rules "Deva" false each_mask) (script "Deva")
    (record full { category = C; auxiliary = 4; glyph_id = 6 } ∷ full ∷ [])
    ≡ record full { mask = 0x10A0 } ∷ record full { category = C; auxiliary = 4; glyph_id = 6 } ∷ []
fields_stay = refl

-- as the order of a second syllable begins: the first is reordered, and in the second the H has
-- moved and nothing has merged
order_begins : as_order_begins (rules "Deva" true no_masks) (script "Deva") MonotoneGraphemes 7
    (of ((C, 4) ∷ (M, 9) ∷ (M, 6) ∷ []) ∷ []) (of ((C, 4) ∷ (H, 4) ∷ (Ra, 8) ∷ (H, 4) ∷ [])) (range_with_len 0 7)
    ≡ 0 ∷ 0 ∷ 0 ∷ 3 ∷ 5 ∷ 4 ∷ 6 ∷ []
order_begins = refl

-- long syllables: a base and 125, 126 and 127 matras of one position, which stay; of more than 127
-- glyphs all merges from the base on
abbrev base_and : ℕ → Glyphs
base_and n = of ((C, 4) ∷ replicate n (M, 6))

of_126 : clusters_after (rules "Deva" false no_masks) (script "Deva") (base_and 125) ≡ range_with_len 0 126
of_126 = refl

of_127 : clusters_after (rules "Deva" false no_masks) (script "Deva") (base_and 126) ≡ range_with_len 0 127
of_127 = refl

of_128 : clusters_after (rules "Deva" false no_masks) (script "Deva") (base_and 127) ≡ replicate 128 0
of_128 = refl

-- 150 times C H: the last C is the base, and it merges with what follows
abbrev times : ℕ → List (ℕ × ℕ)
times zero = []
times (suc n) = (C, 4) ∷ (H, 4) ∷ times n

of_300 : clusters_after (rules "Deva" false no_masks) (script "Deva") (of (times 150))
    ≡ range_with_len 0 298 ++ 298 ∷ 298 ∷ []
of_300 = refl
