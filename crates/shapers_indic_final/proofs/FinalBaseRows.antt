-- Viramas and the base, computed case by case.
use Prim.Native.String.{String}
use Rattle.std.specs.Prelude.{◌≡◌, ℕ, true, false, Bool, List, [], ◌∷◌, filter, map, None, Some, refl}
use Rattle.std.specs.List.{range_with_len}
use Rattle.shapers_buffer.specs.Glyphs.{Glyph, Glyphs}
use Rattle.shapers_buffer.specs.Glyph.{default_glyph}
use Rattle.shapers_indic.proofs.RowWords.{C, H, N, ZWNJ, ZWJ, M, Ra, CM, of, plainly, row_positions, script}
use Rattle.shapers_indic_final.proofs.FinalWords.{formed_at, marks_at, mask_given, rules, unformed_at}
use Rattle.shapers_indic_final.specs.FinalBase.{first_base, links_from, found_base, with_final_base}
use Rattle.shapers_indic_final.specs.FinalGlyphs.{is_formed, recovered}
use Rattle.shapers_indic_final.specs.FinalWalk.{changes_syllable}
use Rattle.shapers_indic_final.specs.declared.ot_shaper_indic_final.rules.Rules.{Rules}

-- a virama: by number, ligated and multiplied; by its marks it keeps the others
abbrev of_marks : ℕ → ℕ → Glyph
of_marks n bits = record {
  glyph_id = n;
  mask = 9;
  cluster = 5;
  glyph_props = record { 0 = bits };
  lig_props = record { 0 = 0xE3 };
  syllable = 17;
  unicode_props = record { 0 = 0x09AC };
  category = C;
  auxiliary = 4;
}

viramas : map (recovered (Some (record { 0 = 90 }))) (of_marks 90 0x60 ∷ of_marks 90 0xFFFF ∷ of_marks 90 0x20
    ∷ of_marks 90 0x40 ∷ of_marks 90 0 ∷ of_marks 91 0x60 ∷ of_marks 65626 0x60 ∷ [])
    ≡ record (of_marks 90 0) { category = H } ∷ record (of_marks 90 0xFF9F) { category = H } ∷ of_marks 90 0x20
    ∷ of_marks 90 0x40 ∷ of_marks 90 0 ∷ of_marks 91 0x60 ∷ of_marks 65626 0x60 ∷ []
viramas = refl

no_virama : recovered None (of_marks 90 0x60) ≡ of_marks 90 0x60
no_virama = refl

formed : map (λ bits. is_formed (of_marks 0 bits)) (0 ∷ 0x10 ∷ 0x20 ∷ 0x30 ∷ 0x40 ∷ 0x60 ∷ 0x70 ∷ 0xFFBF ∷ [])
    ≡ false ∷ false ∷ true ∷ true ∷ false ∷ false ∷ false ∷ true ∷ []
formed = refl

-- the first position of 4 or more
first_bases : map (λ ps. first_base (of (map (λ p. (C, p)) ps))) ((3 ∷ 4 ∷ 5 ∷ []) ∷ (0 ∷ 1 ∷ 2 ∷ 3 ∷ []) ∷ (5 ∷ 4 ∷ [])
    ∷ (3 ∷ 3 ∷ 13 ∷ []) ∷ (255 ∷ []) ∷ [] ∷ []) ≡ 1 ∷ 4 ∷ 0 ∷ 2 ∷ 0 ∷ 0 ∷ []
first_bases = refl

-- what is found of a syllable of a script: the base, positions, and whether pref is tried on
abbrev found : Rules → Glyphs → ℕ × List ℕ × Bool
found r gs = let b = with_final_base r (script "Deva") gs in (b.base, row_positions b.glyphs, b.tries_pref)

abbrev deva : Glyphs → ℕ × List ℕ × Bool
deva = found (rules "Deva")

-- pref: unformed the glyph is base, formed it is not; the first later one counts, by any of the mask's bits
abbrev b_and_p : Glyphs
b_and_p = of ((C, 4) ∷ (C, 9) ∷ (Ra, 11) ∷ (Ra, 12) ∷ [])

by_pref : map deva (b_and_p ∷ unformed_at 2 b_and_p ∷ formed_at 2 b_and_p ∷ marks_at 2 0x20 (unformed_at 2 b_and_p)
    ∷ marks_at 2 0x10 (unformed_at 2 b_and_p) ∷ marks_at 2 0x70 (unformed_at 2 b_and_p) ∷ [])
    ≡ (0, 4 ∷ 9 ∷ 11 ∷ 12 ∷ [], true) ∷ (2, 4 ∷ 9 ∷ 4 ∷ 12 ∷ [], false) ∷ (0, 4 ∷ 9 ∷ 11 ∷ 12 ∷ [], true)
    ∷ (2, 4 ∷ 9 ∷ 4 ∷ 12 ∷ [], false) ∷ (2, 4 ∷ 9 ∷ 4 ∷ 12 ∷ [], false) ∷ (2, 4 ∷ 9 ∷ 4 ∷ 12 ∷ [], false) ∷ []
by_pref = refl

which_pref : map deva (unformed_at 0 b_and_p ∷ unformed_at 1 b_and_p ∷ unformed_at 3 b_and_p
    ∷ formed_at 1 (unformed_at 2 b_and_p) ∷ unformed_at 1 (formed_at 2 b_and_p) ∷ mask_given 2 8 b_and_p
    ∷ mask_given 2 48 b_and_p ∷ [])
    ≡ (0, 4 ∷ 9 ∷ 11 ∷ 12 ∷ [], true) ∷ (1, 4 ∷ 4 ∷ 11 ∷ 12 ∷ [], false) ∷ (3, 4 ∷ 9 ∷ 11 ∷ 4 ∷ [], false)
    ∷ (0, 4 ∷ 9 ∷ 11 ∷ 12 ∷ [], true) ∷ (1, 4 ∷ 4 ∷ 11 ∷ 12 ∷ [], false) ∷ (0, 4 ∷ 9 ∷ 11 ∷ 12 ∷ [], true)
    ∷ (2, 4 ∷ 9 ∷ 4 ∷ 12 ∷ [], false) ∷ []
which_pref = refl

no_pref_mask : found (record (rules "Deva") { pref = 0 }) (unformed_at 2 b_and_p) ≡ (0, 4 ∷ 9 ∷ 11 ∷ 12 ∷ [], false)
no_pref_mask = refl

-- an unformed halant: the base is what stands behind it and further ones, or the end; a ligature is no halant
abbrev halants : Glyphs
halants = of ((C, 4) ∷ (H, 4) ∷ (H, 4) ∷ (C, 9) ∷ [])

over_halants : map deva (unformed_at 1 halants ∷ unformed_at 2 halants ∷ marks_at 2 0x20 (unformed_at 1 halants)
    ∷ unformed_at 1 (plainly (C ∷ H ∷ [])) ∷ unformed_at 1 (plainly (C ∷ H ∷ H ∷ [])) ∷ [])
    ≡ (3, 4 ∷ 4 ∷ 4 ∷ 4 ∷ [], false) ∷ (3, 4 ∷ 4 ∷ 4 ∷ 4 ∷ [], false) ∷ (2, 4 ∷ 4 ∷ 4 ∷ 9 ∷ [], false)
    ∷ (2, 4 ∷ 4 ∷ [], false) ∷ (3, 4 ∷ 4 ∷ 4 ∷ [], false) ∷ []
over_halants = refl

-- links: joiners, a halant, joiners, one glyph
links : map (links_from false 5) (plainly (H ∷ C ∷ []) ∷ plainly (ZWJ ∷ ZWNJ ∷ H ∷ ZWNJ ∷ ZWJ ∷ C ∷ [])
    ∷ plainly (C ∷ []) ∷ plainly (H ∷ []) ∷ plainly (H ∷ ZWJ ∷ []) ∷ [] ∷ plainly (ZWJ ∷ C ∷ H ∷ C ∷ []) ∷ [])
    ≡ (6 ∷ []) ∷ (10 ∷ []) ∷ [] ∷ [] ∷ [] ∷ [] ∷ [] ∷ []
links = refl

chains : map (links_from false 1) (plainly (H ∷ C ∷ H ∷ C ∷ []) ∷ plainly (H ∷ H ∷ H ∷ C ∷ [])
    ∷ plainly (H ∷ C ∷ C ∷ H ∷ C ∷ []) ∷ plainly (H ∷ M ∷ ZWJ ∷ H ∷ C ∷ H ∷ [])
    ∷ marks_at 2 0x20 (plainly (H ∷ C ∷ H ∷ C ∷ [])) ∷ marks_at 1 0x20 (plainly (H ∷ ZWJ ∷ H ∷ C ∷ [])) ∷ [])
    ≡ (2 ∷ 4 ∷ []) ∷ (2 ∷ 4 ∷ []) ∷ (2 ∷ []) ∷ (2 ∷ 5 ∷ []) ∷ (2 ∷ []) ∷ (2 ∷ 4 ∷ []) ∷ []
chains = refl

-- Malayalam: the last linked consonant of position BELOW_C is base, and each gets BASE_C; others
-- are passed. In other scripts the base stays.
abbrev mlym : Glyphs → ℕ × List ℕ × Bool
mlym gs = let b = with_final_base (rules "Mlym") (script "Mlym") gs in (b.base, row_positions b.glyphs, b.tries_pref)

abbrev linked : List (ℕ × ℕ) → Glyphs
linked ts = of ((C, 4) ∷ (H, 4) ∷ ts)

in_malayalam : map mlym (linked ((C, 8) ∷ []) ∷ linked ((C, 8) ∷ (H, 8) ∷ (C, 8) ∷ [])
    ∷ linked ((C, 11) ∷ (H, 8) ∷ (C, 8) ∷ []) ∷ linked ((C, 8) ∷ (H, 8) ∷ (C, 11) ∷ []) ∷ linked ((M, 8) ∷ [])
    ∷ linked ((CM, 8) ∷ []) ∷ linked ((C, 7) ∷ []) ∷ linked ((C, 9) ∷ []) ∷ linked ((C, 8) ∷ (C, 8) ∷ [])
    ∷ marks_at 2 0x20 (linked ((C, 8) ∷ [])) ∷ [])
    ≡ (2, 4 ∷ 4 ∷ 4 ∷ [], true) ∷ (4, 4 ∷ 4 ∷ 4 ∷ 8 ∷ 4 ∷ [], true) ∷ (4, 4 ∷ 4 ∷ 11 ∷ 8 ∷ 4 ∷ [], true)
    ∷ (2, 4 ∷ 4 ∷ 4 ∷ 8 ∷ 11 ∷ [], true) ∷ (0, 4 ∷ 4 ∷ 8 ∷ [], true) ∷ (2, 4 ∷ 4 ∷ 4 ∷ [], true)
    ∷ (0, 4 ∷ 4 ∷ 7 ∷ [], true) ∷ (0, 4 ∷ 4 ∷ 9 ∷ [], true) ∷ (2, 4 ∷ 4 ∷ 4 ∷ 8 ∷ [], true)
    ∷ (0, 4 ∷ 4 ∷ 8 ∷ [], true) ∷ []
in_malayalam = refl

elsewhere : deva (linked ((C, 8) ∷ [])) ∷ found (rules "Taml") (linked ((C, 8) ∷ [])) ∷ []
    ≡ (0, 4 ∷ 4 ∷ 8 ∷ [], true) ∷ (0, 4 ∷ 4 ∷ 8 ∷ [], true) ∷ []
elsewhere = refl

-- links follow the base by pref, or nothing where that is the end
pref_and_links : mlym (unformed_at 2 (of ((C, 4) ∷ (C, 9) ∷ (C, 11) ∷ (H, 11) ∷ (C, 8) ∷ [])))
    ∷ mlym (unformed_at 1 (of ((C, 4) ∷ (H, 9) ∷ []))) ∷ [] ≡ (4, 4 ∷ 9 ∷ 4 ∷ 11 ∷ 4 ∷ [], false)
    ∷ (2, 4 ∷ 9 ∷ [], false) ∷ []
pref_and_links = refl

-- a first position above BASE_C: what stands before it is base, unless it is the first
back : map deva (of ((C, 3) ∷ (C, 5) ∷ []) ∷ of ((C, 3) ∷ (C, 4) ∷ []) ∷ of ((C, 5) ∷ (C, 5) ∷ [])
    ∷ of ((C, 3) ∷ (C, 3) ∷ []) ∷ [])
    ≡ (0, 3 ∷ 5 ∷ [], true) ∷ (1, 3 ∷ 4 ∷ [], true) ∷ (0, 5 ∷ 5 ∷ [], true) ∷ (2, 3 ∷ 3 ∷ [], true) ∷ []
back = refl

-- from the end over a ZWJ; over nuktas and halants, not past the start; a ligature stays
from_end : map (found_base 2) (plainly (C ∷ ZWJ ∷ []) ∷ plainly (C ∷ ZWNJ ∷ []) ∷ plainly (C ∷ H ∷ [])
    ∷ marks_at 1 0x20 (plainly (C ∷ ZWJ ∷ [])) ∷ plainly (H ∷ ZWJ ∷ []) ∷ []) ≡ 1 ∷ 2 ∷ 2 ∷ 2 ∷ 1 ∷ []
from_end = refl

over_nuktas : map (found_base 2) (plainly (C ∷ C ∷ H ∷ C ∷ []) ∷ plainly (C ∷ C ∷ N ∷ C ∷ [])
    ∷ plainly (C ∷ H ∷ N ∷ C ∷ []) ∷ plainly (H ∷ N ∷ H ∷ C ∷ []) ∷ plainly (C ∷ C ∷ C ∷ H ∷ [])
    ∷ marks_at 2 0x20 (plainly (C ∷ C ∷ H ∷ C ∷ [])) ∷ marks_at 1 0x20 (plainly (C ∷ H ∷ N ∷ C ∷ [])) ∷ [])
    ≡ 1 ∷ 1 ∷ 0 ∷ 0 ∷ 2 ∷ 2 ∷ 1 ∷ []
over_nuktas = refl

of_few : found_base 0 [] ∷ found_base 0 (plainly (H ∷ [])) ∷ found_base 1 (plainly (ZWJ ∷ []))
    ∷ found_base 1 (plainly (H ∷ [])) ∷ [] ≡ 0 ∷ 0 ∷ 0 ∷ 1 ∷ []
of_few = refl

none : deva [] ≡ (0, [], true)
none = refl

-- what may change a syllable: by its position, in Devanagari and in Malayalam; with a bit of pref's
-- mask; and the virama taken apart
abbrev changing_in : String → Glyphs → List Bool
changing_in tag gs = map (changes_syllable (rules tag) (script tag)) gs

abbrev changing_positions : String → List ℕ
changing_positions tag =
    filter (λ p. changes_syllable (rules tag) (script tag) (record default_glyph { category = C; auxiliary = p }))
    (range_with_len 0 20)

changing_by_position : map changing_positions ("Deva" ∷ "Mlym" ∷ "Taml" ∷ [])
    ≡ (1 ∷ 2 ∷ []) ∷ (1 ∷ 2 ∷ 8 ∷ []) ∷ (1 ∷ 2 ∷ []) ∷ []
changing_by_position = refl

changing_by_mask : map
    (λ m. changes_syllable (rules "Deva") (script "Deva") (record default_glyph { mask = m; auxiliary = 4 }))
    (0 ∷ 7 ∷ 8 ∷ 16 ∷ 32 ∷ 48 ∷ 0xFFFFFFEF ∷ []) ≡ false ∷ false ∷ false ∷ true ∷ false ∷ true ∷ false ∷ []
changing_by_mask = refl

changing_viramas : changing_in "Deva" (of_marks 90 0x60 ∷ of_marks 90 0xFFFF ∷ of_marks 90 0x20 ∷ of_marks 90 0x40
    ∷ of_marks 90 0 ∷ of_marks 91 0x60 ∷ []) ≡ true ∷ true ∷ false ∷ false ∷ false ∷ false ∷ []
changing_viramas = refl

changing_without_virama : changes_syllable (record (rules "Deva") { virama = None }) (script "Deva") (of_marks 90 0x60)
    ≡ false
changing_without_virama = refl
