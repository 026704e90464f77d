-- The masks of a syllable in its new order, computed.
use Rattle.std.specs.Prelude.{◌≡◌, ℕ, ◌==◌, true, false, List, [], ◌∷◌, ◌++◌, length, map, refl}
use Rattle.shapers_buffer.specs.Glyph.{default_glyph}
use Rattle.shapers_buffer.specs.GlyphFlags.{with_bits}
use Rattle.shapers_buffer.specs.Glyphs.{Glyphs}
use Rattle.shapers_indic.proofs.RowWords.{C, N, H, ZWNJ, ZWJ, Ra, of, plainly, with_row_marks, script, row_masks}
use Rattle.shapers_indic_initial.proofs.InitialWords.{rules, no_masks, each_mask, ligated_at, with_pref_of}
use Rattle.shapers_indic_initial.specs.InitialMasks.{with_eyelash_mask, with_initial_masks, with_masks_around, with_pref_mask, with_reph_mask, without_half}
use Rattle.shapers_indic_initial.specs.InitialRules.{Rules}

abbrev new : Rules
new = rules "Deva" false each_mask

abbrev old : Rules
old = rules "Deva" true each_mask

abbrev five : Glyphs
five = plainly (C ∷ C ∷ C ∷ C ∷ C ∷ [])

-- the front run of the reph's position
reph : map (λ ps. row_masks (with_reph_mask new (of (map (λ p. (C, p)) ps)))) ((1 ∷ 1 ∷ 4 ∷ 1 ∷ []) ∷ (4 ∷ 1 ∷ [])
    ∷ (1 ∷ []) ∷ [] ∷ []) ≡ (8 ∷ 8 ∷ 0 ∷ 0 ∷ []) ∷ (0 ∷ 0 ∷ []) ∷ (8 ∷ []) ∷ [] ∷ []
reph = refl

-- before the base half, and blwf in the newer specification of scripts that have it there; after it
-- blwf, abvf and pstf; on it none
around : row_masks (with_masks_around new 2 five) ∷ row_masks (with_masks_around old 2 five)
    ∷ row_masks (with_masks_around (rules "Knda" false each_mask) 2 five)
    ∷ row_masks (with_masks_around (rules "Telu" true each_mask) 2 five) ∷ [] ≡ (160 ∷ 160 ∷ 0 ∷ 352 ∷ 352 ∷ [])
    ∷ (128 ∷ 128 ∷ 0 ∷ 352 ∷ 352 ∷ []) ∷ (128 ∷ 128 ∷ 0 ∷ 352 ∷ 352 ∷ []) ∷ (128 ∷ 128 ∷ 0 ∷ 352 ∷ 352 ∷ []) ∷ []
around = refl

around_the_ends : map (λ base. row_masks (with_masks_around new base five)) (0 ∷ 4 ∷ 5 ∷ [])
    ≡ (0 ∷ 352 ∷ 352 ∷ 352 ∷ 352 ∷ []) ∷ (160 ∷ 160 ∷ 160 ∷ 160 ∷ 0 ∷ []) ∷ (160 ∷ 160 ∷ 160 ∷ 160 ∷ 160 ∷ []) ∷ []
around_the_ends = refl

-- an eyelash Ra before the base, in the older specification of Devanagari
abbrev eyelash : ℕ → List ℕ → List ℕ
eyelash base cs = row_masks (with_eyelash_mask old (script "Deva") base (plainly cs))

eyelashes : eyelash 2 (Ra ∷ H ∷ C ∷ []) ∷ eyelash 3 (C ∷ Ra ∷ H ∷ C ∷ []) ∷ eyelash 4 (Ra ∷ H ∷ Ra ∷ H ∷ C ∷ [])
    ∷ eyelash 3 (Ra ∷ H ∷ ZWNJ ∷ C ∷ []) ∷ [] ≡ (32 ∷ 32 ∷ 0 ∷ []) ∷ (0 ∷ 32 ∷ 32 ∷ 0 ∷ [])
    ∷ (32 ∷ 32 ∷ 32 ∷ 32 ∷ 0 ∷ []) ∷ (32 ∷ 32 ∷ 0 ∷ 0 ∷ []) ∷ []
eyelashes = refl

-- a ZWJ behind it forbids it, if it stands before the base
with_joiner : eyelash 3 (Ra ∷ H ∷ ZWJ ∷ C ∷ []) ∷ eyelash 2 (Ra ∷ H ∷ ZWJ ∷ []) ∷ [] ≡ (0 ∷ 0 ∷ 0 ∷ 0 ∷ [])
    ∷ (32 ∷ 32 ∷ 0 ∷ []) ∷ []
with_joiner = refl

-- ligatures count, too: of Ra, of H, of that ZWJ
with_ligatures : map
    (λ i. row_masks (with_eyelash_mask old (script "Deva") 3 (ligated_at i (plainly (Ra ∷ H ∷ N ∷ C ∷ [])))))
    (0 ∷ 1 ∷ []) ∷ map
    (λ i. row_masks (with_eyelash_mask old (script "Deva") 3 (ligated_at i (plainly (Ra ∷ H ∷ ZWJ ∷ C ∷ []))))) (2 ∷ [])
    ∷ [] ≡ ((32 ∷ 32 ∷ 0 ∷ 0 ∷ []) ∷ (32 ∷ 32 ∷ 0 ∷ 0 ∷ []) ∷ []) ∷ ((0 ∷ 0 ∷ 0 ∷ 0 ∷ []) ∷ []) ∷ []
with_ligatures = refl

no_eyelash : eyelash 1 (Ra ∷ H ∷ C ∷ []) ∷ eyelash 0 (Ra ∷ H ∷ []) ∷ eyelash 2 (C ∷ H ∷ C ∷ [])
    ∷ eyelash 2 (Ra ∷ C ∷ C ∷ []) ∷ row_masks (with_eyelash_mask new (script "Deva") 2 (plainly (Ra ∷ H ∷ C ∷ [])))
    ∷ row_masks (with_eyelash_mask old (script "Beng") 2 (plainly (Ra ∷ H ∷ C ∷ []))) ∷ []
    ≡ (0 ∷ 0 ∷ 0 ∷ []) ∷ (0 ∷ 0 ∷ []) ∷ (0 ∷ 0 ∷ 0 ∷ []) ∷ (0 ∷ 0 ∷ 0 ∷ []) ∷ (0 ∷ 0 ∷ 0 ∷ []) ∷ (0 ∷ 0 ∷ 0 ∷ []) ∷ []
no_eyelash = refl

-- the first two neighbours after the base that pref would substitute
pairs : map (λ ids. row_masks (with_pref_mask (with_pref_of ids new) 0 five))
    ((2 ∷ 3 ∷ []) ∷ (3 ∷ 4 ∷ []) ∷ (1 ∷ 2 ∷ []) ∷ (0 ∷ 1 ∷ []) ∷ (3 ∷ 2 ∷ []) ∷ (4 ∷ []) ∷ [])
    ≡ (0 ∷ 0 ∷ 16 ∷ 16 ∷ 0 ∷ []) ∷ (0 ∷ 0 ∷ 0 ∷ 16 ∷ 16 ∷ []) ∷ (0 ∷ 16 ∷ 16 ∷ 0 ∷ 0 ∷ []) ∷ (0 ∷ 0 ∷ 0 ∷ 0 ∷ 0 ∷ [])
    ∷ (0 ∷ 0 ∷ 0 ∷ 0 ∷ 0 ∷ []) ∷ (0 ∷ 0 ∷ 0 ∷ 0 ∷ 0 ∷ []) ∷ []
pairs = refl

abbrev any_pair : Rules
any_pair = record new { forms_pref = λ ids. length ids == 2 }

the_first_of_several : row_masks (with_pref_mask any_pair 0 five) ∷ row_masks (with_pref_mask any_pair 2 five)
    ∷ row_masks (with_pref_mask any_pair 3 five) ∷ row_masks (with_pref_mask any_pair 5 five) ∷ []
    ≡ (0 ∷ 16 ∷ 16 ∷ 0 ∷ 0 ∷ []) ∷ (0 ∷ 0 ∷ 0 ∷ 16 ∷ 16 ∷ []) ∷ (0 ∷ 0 ∷ 0 ∷ 0 ∷ 0 ∷ []) ∷ (0 ∷ 0 ∷ 0 ∷ 0 ∷ 0 ∷ []) ∷ []
the_first_of_several = refl

no_pref_mask : with_pref_mask (record any_pair { masks = no_masks }) 0 five ≡ five
no_pref_mask = refl

-- a ZWNJ clears half from the glyph before it back to the nearest consonant, or to the start; a
-- ZWJ, or a ligature, doesn't
abbrev halves : Glyphs → List ℕ
halves gs = row_masks (without_half 128 (map (with_bits 129) gs))

cleared : map (λ cs. halves (plainly cs)) ((C ∷ H ∷ ZWNJ ∷ C ∷ []) ∷ (C ∷ C ∷ ZWNJ ∷ []) ∷ (N ∷ N ∷ ZWNJ ∷ [])
    ∷ (C ∷ ZWNJ ∷ ZWNJ ∷ []) ∷ (ZWNJ ∷ C ∷ []) ∷ (C ∷ H ∷ ZWJ ∷ C ∷ []) ∷ (C ∷ H ∷ C ∷ H ∷ ZWNJ ∷ []) ∷ [])
    ≡ (1 ∷ 1 ∷ 129 ∷ 129 ∷ []) ∷ (129 ∷ 1 ∷ 129 ∷ []) ∷ (1 ∷ 1 ∷ 129 ∷ []) ∷ (1 ∷ 1 ∷ 129 ∷ []) ∷ (129 ∷ 129 ∷ [])
    ∷ (129 ∷ 129 ∷ 129 ∷ 129 ∷ []) ∷ (129 ∷ 129 ∷ 1 ∷ 1 ∷ 129 ∷ []) ∷ []
cleared = refl

ligatures : halves (of ((C, 4) ∷ []) ++ with_row_marks 0x20 (record default_glyph { category = ZWNJ }) ∷ [])
    ∷ halves (of ((C, 4) ∷ []) ++ with_row_marks 0x20 (record default_glyph { category = C }) ∷ of ((ZWNJ, 4) ∷ []))
    ∷ [] ≡ (129 ∷ 129 ∷ []) ∷ (1 ∷ 1 ∷ 129 ∷ []) ∷ []
ligatures = refl

-- all at once: reph, before the base, base, after it, with a pair for pref and a ZWNJ after the base
all_masks : row_masks (with_initial_masks (with_pref_of (4 ∷ 5 ∷ []) new) (script "Deva") 3
    (of ((Ra, 1) ∷ (H, 1) ∷ (C, 3) ∷ (C, 4) ∷ (H, 8) ∷ (Ra, 8) ∷ []))) ≡ 168 ∷ 168 ∷ 160 ∷ 0 ∷ 368 ∷ 368 ∷ []
all_masks = refl
