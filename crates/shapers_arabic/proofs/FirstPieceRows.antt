-- What joining leaves of small texts and of their first letter alone, written out from the rule;
-- fresh texts and transparent selectors.
use Rattle.std.specs.Prelude.{◌≡◌, ◌==◌, ℕ, List, [], ◌∷◌, map, Option, None, Some, codes, if◌then◌else◌, refl}
use Rattle.std.proofs.Common.{arith, zero, suc, ◌<◌, inr}
use Rattle.std.specs.List.{slice_index_or}
use Rattle.shapers_buffer.specs.Buffer.{Buffer, new_buffer}
use Rattle.shapers_buffer.specs.Glyph.{default_glyph}
use Rattle.shapers_buffer.specs.declared.buffer.category.hb_unicode_general_category_t.{hb_unicode_general_category_t}
use Rattle.shapers_buffer.specs.declared.buffer.category.hb_unicode_general_category_t.TheVariants.{Lo}
use Rattle.shapers_buffer.specs.Glyphs.{Glyph}
use Rattle.shapers_buffer.specs.declared.buffer.tag.Script.{Script}
use Rattle.shapers_base.specs.declared.plan.breaks.BreakFlags.{BreakFlags}
use Rattle.shapers_base.specs.declared.plan.breaks.BreakFlags.TheVariants.{AsCode, Sound}
use Rattle.shapers_base.specs.declared.plan.joining.hb_arabic_joining_type_t.{hb_arabic_joining_type_t}
use Rattle.shapers_base.specs.declared.plan.joining.hb_arabic_joining_type_t.TheVariants.{U, R, D, GroupAlaph, GroupDalathRish, T}
use Rattle.shapers_clusters.specs.Breaks.{IsClear}
use Rattle.shapers_arabic.specs.FirstPiece.{FirstKeepsAt}
use Rattle.shapers_arabic.specs.Fresh.{IsFresh, SelectorsAreTransparent}
use Rattle.shapers_arabic.specs.JoinedText.{Text, buffer_joined}

-- the types of these letters: 1 stands for D, 2 for R, and the selector 180C has the type of an Alaph
abbrev type_of : ℕ → hb_arabic_joining_type_t
type_of c =
    if c == 1 then D else if c == 2 then R else if c == 0x715 then GroupDalathRish else if c == 0x710 then GroupAlaph
    else if c == 0x180B then T else if c == 0x180C then GroupAlaph else U

abbrev letter : ℕ → hb_unicode_general_category_t
letter c = Lo

-- the masks of the forms, each a bit of its own
abbrev masks : List ℕ
masks = 8 ∷ 16 ∷ 32 ∷ 64 ∷ 128 ∷ 256 ∷ 512 ∷ 0 ∷ []

abbrev glyph : ℕ → ℕ → Glyph
glyph c cluster = let g : Glyph =
    record default_glyph { glyph_id = c; cluster = cluster; unicode_props = record { 0 = 0x0007 } } in g

-- two letters in clusters that rise, or that fall
abbrev rising : ℕ → ℕ → Buffer
rising a b = let t : Buffer = record (new_buffer 2) { glyphs = glyph a 0 ∷ glyph b 1 ∷ [] } in t

abbrev falling : ℕ → ℕ → Buffer
falling a b = let t : Buffer = record (new_buffer 2) { glyphs = glyph a 1 ∷ glyph b 0 ∷ [] } in t

abbrev after : BreakFlags → Option Script → Buffer → Buffer
after breaks script b = buffer_joined breaks masks script type_of letter b

abbrev left : BreakFlags → Option Script → Buffer → List ℕ
left breaks script b = map (λ g. g.mask) (after breaks script b).glyphs

abbrev mong : Option Script
mong = Some (record { 0 = codes "Mong" })

-- 0715 0710: by the code's flags clear, and the first keeps ISOL; flagged with Sound, since the second loses FIN3
code_alaph : left AsCode None (rising 0x715 0x710) ≡ 8 ∷ 64 ∷ []
code_alaph = refl

sound_alaph : left Sound None (rising 0x715 0x710) ≡ 8 ∷ 67 ∷ []
sound_alaph = refl

clear_alaph : IsClear (after AsCode None (rising 0x715 0x710)).glyphs 1
clear_alaph = search arith

first_alaph : FirstKeepsAt AsCode masks None type_of letter (rising 0x715 0x710)
    (after AsCode None (rising 0x715 0x710)) 1
first_alaph = refl

-- D D: the first has INIT, and alone ISOL; the flag stands in the second glyph, or where clusters fall in the first
code_joined : left AsCode None (rising 1 1) ≡ 512 ∷ 19 ∷ []
code_joined = refl

code_falling : left AsCode None (falling 1 1) ≡ 515 ∷ 16 ∷ []
code_falling = refl

not_clear_joined : IsClear (after AsCode None (rising 1 1)).glyphs 1 → ⊥
not_clear_joined clear = cc

not_clear_falling : IsClear (after AsCode None (falling 1 1)).glyphs 1 → ⊥
not_clear_falling clear = cc

not_first_falling : FirstKeepsAt AsCode masks None type_of letter (falling 1 1) (after AsCode None (falling 1 1)) 1 → ⊥
not_first_falling = search arith

-- 0715 0710 where clusters fall: flagged with Sound in the first glyph
sound_falling : left Sound None (falling 0x715 0x710) ≡ 11 ∷ 64 ∷ []
sound_falling = refl

-- D, selector: the copied form is flagged with Sound, though the first keeps its own; with the
-- script Syriac nothing is copied
code_selector : left AsCode mong (rising 1 0x180B) ≡ 8 ∷ 8 ∷ []
code_selector = refl

sound_selector : left Sound mong (rising 1 0x180B) ≡ 8 ∷ 11 ∷ []
sound_selector = refl

first_selector : FirstKeepsAt Sound masks mong type_of letter (rising 1 0x180B) (after Sound mong (rising 1 0x180B)) 1
first_selector = refl

sound_syriac : left Sound None (rising 1 0x180B) ≡ 8 ∷ 0 ∷ []
sound_syriac = refl

-- R, selector of the type of an Alaph: flagged by FIN2, and needlessly: both have ISOL in the whole and in the pieces
needless_selector : left Sound mong (rising 2 0x180C) ≡ 8 ∷ 11 ∷ []
needless_selector = refl

needless_alone : left Sound mong (let b : Buffer = record (new_buffer 2) { glyphs = glyph 0x180C 1 ∷ [] } in b) ≡ 8 ∷ []
needless_alone = refl

-- which is why selectors have to be transparent, with the script Mongolian alone
abbrev text : ℕ → hb_arabic_joining_type_t → Text
text c type = record { before = []; characters = 0x1820 ∷ c ∷ []; types = D ∷ type ∷ []; after = [] }

transparent : SelectorsAreTransparent mong (text 0x180B T)
transparent e = (λ s. cc, (λ s. refl, tt))

not_transparent : SelectorsAreTransparent mong (text 0x180B GroupAlaph) → ⊥
not_transparent = search arith

letters_too : SelectorsAreTransparent mong (text 0x1821 D)
letters_too e = (λ s. cc, (λ s. cc, tt))

syriac : SelectorsAreTransparent (Some (record { 0 = codes "Syrc" })) (text 0x180B GroupAlaph)
syriac e = cc

-- a fresh text: clusters rise or fall, and nothing has a flag, before or by a form's mask
ones : (i j d : ℕ) → i < j → j < 2 → slice_index_or (1 ∷ 0 ∷ []) j d < slice_index_or (1 ∷ 0 ∷ []) i d
ones zero (suc zero) d low high = omega arith
ones _ _ d low high = absurd (omega arith)

fresh : IsFresh masks (falling 1 1).glyphs
fresh = record {
  single = inr ones;
  unflagged = (refl, (refl, tt));
  unmasked = search arith;
}

not_single : IsFresh masks (glyph 1 0 ∷ glyph 1 0 ∷ []) → ⊥
not_single = search arith

not_unflagged : IsFresh masks (record (glyph 1 0) { mask = 4 } ∷ []) → ⊥
not_unflagged f = cc

not_unmasked : IsFresh (8 ∷ 17 ∷ []) (glyph 1 0 ∷ []) → ⊥
not_unmasked = search arith
