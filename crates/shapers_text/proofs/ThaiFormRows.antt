-- The private use forms of Thai, cell by cell, computed on characters.
use Rattle.std.specs.Prelude.{◌≡◌, ◌==◌, ℕ, Bool, true, false, List, [], ◌∷◌, map, flat_map, refl}
use Rattle.std.specs.List.{list_any, range_with_len}
use Rattle.shapers_buffer.specs.Glyphs.{Glyph}
use Rattle.shapers_buffer.specs.declared.buffer.level.BufferClusterLevel.TheVariants.{MonotoneCharacters}
use Rattle.shapers_buffer.specs.Glyph.{default_glyph}
use Rattle.shapers_base.specs.declared.plan.breaks.BreakFlags.{BreakFlags}
use Rattle.shapers_base.specs.declared.plan.breaks.BreakFlags.TheVariants.{AsCode, Sound}
use Rattle.shapers_text.specs.declared.ot_shaper_thai.forms.Action.{Action}
use Rattle.shapers_text.specs.declared.ot_shaper_thai.forms.Action.TheVariants.{NOP, SD, SL, SDL, RD}
use Rattle.shapers_text.specs.declared.ot_shaper_thai.forms.Consonant.{Consonant}
use Rattle.shapers_text.specs.declared.ot_shaper_thai.forms.Consonant.TheVariants.{NC, AC, RC, DC, NotConsonant}
use Rattle.shapers_text.specs.declared.ot_shaper_thai.forms.Mark.{Mark}
use Rattle.shapers_text.specs.declared.ot_shaper_thai.forms.Mark.TheVariants.{AV, BV, T, NotMark}
use Rattle.shapers_text.specs.ThaiForms.{action_after, action_of, thai_base_place, base_type, consonant_type, form_between, forms_between, mark_stretches, mark_type, marks_above, marks_below, preprocessed_flagged, pua_shaped, shaped_by, whole_mark_stretches}

-- the forms of characters under an action with a font that has them all, and with one that has but these
abbrev all_forms : Action → List ℕ → List ℕ
all_forms action us = map (λ u. shaped_by (λ c. true) u action) us

abbrev forms_in : List ℕ → Action → List ℕ → List ℕ
forms_in font action us = map (λ u. shaped_by (λ c. list_any (λ f. f == c) font) u action) us

-- For each action: the first form where the font has both or the first alone, the second where it
-- has that alone, and the
-- character itself where it has none; then the block of Thai in two halves: letters, and from SARA
-- A on vowels, marks and digits
abbrev letters : List ℕ
letters = range_with_len 0x0E00 0x30

abbrev signs : List ℕ
signs = range_with_len 0x0E30 0x30

-- the mark shifted down
abbrev sd_characters : List ℕ
sd_characters = 0x0E38 ∷ 0x0E39 ∷ 0x0E3A ∷ 0x0E48 ∷ 0x0E49 ∷ 0x0E4A ∷ 0x0E4B ∷ 0x0E4C ∷ []

abbrev sd_first : List ℕ
sd_first = 0xF718 ∷ 0xF719 ∷ 0xF71A ∷ 0xF70A ∷ 0xF70B ∷ 0xF70C ∷ 0xF70D ∷ 0xF70E ∷ []

abbrev sd_second : List ℕ
sd_second = 0xF89B ∷ 0xF89C ∷ 0xF89D ∷ 0xF88B ∷ 0xF88E ∷ 0xF891 ∷ 0xF894 ∷ 0xF897 ∷ []

sd_of_both : all_forms SD sd_characters ≡ sd_first
sd_of_both = refl

sd_of_first : forms_in sd_first SD sd_characters ≡ sd_first
sd_of_first = refl

sd_of_second : forms_in sd_second SD sd_characters ≡ sd_second
sd_of_second = refl

sd_of_none : forms_in [] SD sd_characters ≡ sd_characters
sd_of_none = refl

sd_letters : all_forms SD letters ≡ letters
sd_letters = refl

sd_signs : all_forms SD signs ≡ 0x0E30 ∷ 0x0E31 ∷ 0x0E32 ∷ 0x0E33 ∷ 0x0E34 ∷ 0x0E35 ∷ 0x0E36 ∷ 0x0E37 ∷ 0xF718 ∷ 0xF719
    ∷ 0xF71A ∷ 0x0E3B ∷ 0x0E3C ∷ 0x0E3D ∷ 0x0E3E ∷ 0x0E3F ∷ 0x0E40 ∷ 0x0E41 ∷ 0x0E42 ∷ 0x0E43 ∷ 0x0E44 ∷ 0x0E45 ∷ 0x0E46
    ∷ 0x0E47 ∷ 0xF70A ∷ 0xF70B ∷ 0xF70C ∷ 0xF70D ∷ 0xF70E ∷ 0x0E4D ∷ 0x0E4E ∷ 0x0E4F ∷ 0x0E50 ∷ 0x0E51 ∷ 0x0E52 ∷ 0x0E53
    ∷ 0x0E54 ∷ 0x0E55 ∷ 0x0E56 ∷ 0x0E57 ∷ 0x0E58 ∷ 0x0E59 ∷ 0x0E5A ∷ 0x0E5B ∷ 0x0E5C ∷ 0x0E5D ∷ 0x0E5E ∷ 0x0E5F ∷ []
sd_signs = refl

-- the mark shifted down and left
abbrev sdl_characters : List ℕ
sdl_characters = 0x0E48 ∷ 0x0E49 ∷ 0x0E4A ∷ 0x0E4B ∷ 0x0E4C ∷ []

abbrev sdl_first : List ℕ
sdl_first = 0xF705 ∷ 0xF706 ∷ 0xF707 ∷ 0xF708 ∷ 0xF709 ∷ []

abbrev sdl_second : List ℕ
sdl_second = 0xF88C ∷ 0xF88F ∷ 0xF892 ∷ 0xF895 ∷ 0xF898 ∷ []

sdl_of_both : all_forms SDL sdl_characters ≡ sdl_first
sdl_of_both = refl

sdl_of_first : forms_in sdl_first SDL sdl_characters ≡ sdl_first
sdl_of_first = refl

sdl_of_second : forms_in sdl_second SDL sdl_characters ≡ sdl_second
sdl_of_second = refl

sdl_of_none : forms_in [] SDL sdl_characters ≡ sdl_characters
sdl_of_none = refl

sdl_letters : all_forms SDL letters ≡ letters
sdl_letters = refl

sdl_signs : all_forms SDL signs ≡ 0x0E30 ∷ 0x0E31 ∷ 0x0E32 ∷ 0x0E33 ∷ 0x0E34 ∷ 0x0E35 ∷ 0x0E36 ∷ 0x0E37 ∷ 0x0E38
    ∷ 0x0E39 ∷ 0x0E3A ∷ 0x0E3B ∷ 0x0E3C ∷ 0x0E3D ∷ 0x0E3E ∷ 0x0E3F ∷ 0x0E40 ∷ 0x0E41 ∷ 0x0E42 ∷ 0x0E43 ∷ 0x0E44 ∷ 0x0E45
    ∷ 0x0E46 ∷ 0x0E47 ∷ 0xF705 ∷ 0xF706 ∷ 0xF707 ∷ 0xF708 ∷ 0xF709 ∷ 0x0E4D ∷ 0x0E4E ∷ 0x0E4F ∷ 0x0E50 ∷ 0x0E51 ∷ 0x0E52
    ∷ 0x0E53 ∷ 0x0E54 ∷ 0x0E55 ∷ 0x0E56 ∷ 0x0E57 ∷ 0x0E58 ∷ 0x0E59 ∷ 0x0E5A ∷ 0x0E5B ∷ 0x0E5C ∷ 0x0E5D ∷ 0x0E5E ∷ 0x0E5F
    ∷ []
sdl_signs = refl

-- the mark shifted left
abbrev sl_characters : List ℕ
sl_characters = 0x0E31 ∷ 0x0E34 ∷ 0x0E35 ∷ 0x0E36 ∷ 0x0E37 ∷ 0x0E47 ∷ 0x0E48 ∷ 0x0E49 ∷ 0x0E4A ∷ 0x0E4B ∷ 0x0E4C
    ∷ 0x0E4D ∷ []

abbrev sl_first : List ℕ
sl_first = 0xF710 ∷ 0xF701 ∷ 0xF702 ∷ 0xF703 ∷ 0xF704 ∷ 0xF712 ∷ 0xF713 ∷ 0xF714 ∷ 0xF715 ∷ 0xF716 ∷ 0xF717 ∷ 0xF711
    ∷ []

abbrev sl_second : List ℕ
sl_second = 0xF884 ∷ 0xF885 ∷ 0xF886 ∷ 0xF887 ∷ 0xF888 ∷ 0xF889 ∷ 0xF88A ∷ 0xF88D ∷ 0xF890 ∷ 0xF893 ∷ 0xF896 ∷ 0xF899
    ∷ []

sl_of_both : all_forms SL sl_characters ≡ sl_first
sl_of_both = refl

sl_of_first : forms_in sl_first SL sl_characters ≡ sl_first
sl_of_first = refl

sl_of_second : forms_in sl_second SL sl_characters ≡ sl_second
sl_of_second = refl

sl_of_none : forms_in [] SL sl_characters ≡ sl_characters
sl_of_none = refl

sl_letters : all_forms SL letters ≡ letters
sl_letters = refl

sl_signs : all_forms SL signs ≡ 0x0E30 ∷ 0xF710 ∷ 0x0E32 ∷ 0x0E33 ∷ 0xF701 ∷ 0xF702 ∷ 0xF703 ∷ 0xF704 ∷ 0x0E38 ∷ 0x0E39
    ∷ 0x0E3A ∷ 0x0E3B ∷ 0x0E3C ∷ 0x0E3D ∷ 0x0E3E ∷ 0x0E3F ∷ 0x0E40 ∷ 0x0E41 ∷ 0x0E42 ∷ 0x0E43 ∷ 0x0E44 ∷ 0x0E45 ∷ 0x0E46
    ∷ 0xF712 ∷ 0xF713 ∷ 0xF714 ∷ 0xF715 ∷ 0xF716 ∷ 0xF717 ∷ 0xF711 ∷ 0x0E4E ∷ 0x0E4F ∷ 0x0E50 ∷ 0x0E51 ∷ 0x0E52 ∷ 0x0E53
    ∷ 0x0E54 ∷ 0x0E55 ∷ 0x0E56 ∷ 0x0E57 ∷ 0x0E58 ∷ 0x0E59 ∷ 0x0E5A ∷ 0x0E5B ∷ 0x0E5C ∷ 0x0E5D ∷ 0x0E5E ∷ 0x0E5F ∷ []
sl_signs = refl

-- the base without its descender
abbrev rd_characters : List ℕ
rd_characters = 0x0E0D ∷ 0x0E10 ∷ []

abbrev rd_first : List ℕ
rd_first = 0xF70F ∷ 0xF700 ∷ []

abbrev rd_second : List ℕ
rd_second = 0xF89A ∷ 0xF89E ∷ []

rd_of_both : all_forms RD rd_characters ≡ rd_first
rd_of_both = refl

rd_of_first : forms_in rd_first RD rd_characters ≡ rd_first
rd_of_first = refl

rd_of_second : forms_in rd_second RD rd_characters ≡ rd_second
rd_of_second = refl

rd_of_none : forms_in [] RD rd_characters ≡ rd_characters
rd_of_none = refl

rd_letters : all_forms RD letters ≡ 0x0E00 ∷ 0x0E01 ∷ 0x0E02 ∷ 0x0E03 ∷ 0x0E04 ∷ 0x0E05 ∷ 0x0E06 ∷ 0x0E07 ∷ 0x0E08
    ∷ 0x0E09 ∷ 0x0E0A ∷ 0x0E0B ∷ 0x0E0C ∷ 0xF70F ∷ 0x0E0E ∷ 0x0E0F ∷ 0xF700 ∷ 0x0E11 ∷ 0x0E12 ∷ 0x0E13 ∷ 0x0E14 ∷ 0x0E15
    ∷ 0x0E16 ∷ 0x0E17 ∷ 0x0E18 ∷ 0x0E19 ∷ 0x0E1A ∷ 0x0E1B ∷ 0x0E1C ∷ 0x0E1D ∷ 0x0E1E ∷ 0x0E1F ∷ 0x0E20 ∷ 0x0E21 ∷ 0x0E22
    ∷ 0x0E23 ∷ 0x0E24 ∷ 0x0E25 ∷ 0x0E26 ∷ 0x0E27 ∷ 0x0E28 ∷ 0x0E29 ∷ 0x0E2A ∷ 0x0E2B ∷ 0x0E2C ∷ 0x0E2D ∷ 0x0E2E ∷ 0x0E2F
    ∷ []
rd_letters = refl

rd_signs : all_forms RD signs ≡ signs
rd_signs = refl

nop_letters : all_forms NOP letters ≡ letters
nop_letters = refl

nop_signs : all_forms NOP signs ≡ signs
nop_signs = refl

-- the types of Thai characters as consonants, with their neighbours: KO KAI to HO NOKHUK
consonants_thai : map consonant_type (range_with_len 0x0E00 0x50) ≡ NotConsonant ∷ NC ∷ NC ∷ NC ∷ NC ∷ NC ∷ NC ∷ NC ∷ NC
    ∷ NC ∷ NC ∷ NC ∷ NC ∷ RC ∷ DC ∷ DC ∷ RC ∷ NC ∷ NC ∷ NC ∷ NC ∷ NC ∷ NC ∷ NC ∷ NC ∷ NC ∷ NC ∷ AC ∷ NC ∷ AC ∷ NC ∷ AC
    ∷ NC ∷ NC ∷ NC ∷ NC ∷ NC ∷ NC ∷ NC ∷ NC ∷ NC ∷ NC ∷ NC ∷ NC ∷ NC ∷ NC ∷ NC ∷ NotConsonant ∷ NotConsonant
    ∷ NotConsonant ∷ NotConsonant ∷ NotConsonant ∷ NotConsonant ∷ NotConsonant ∷ NotConsonant ∷ NotConsonant
    ∷ NotConsonant ∷ NotConsonant ∷ NotConsonant ∷ NotConsonant ∷ NotConsonant ∷ NotConsonant ∷ NotConsonant
    ∷ NotConsonant ∷ NotConsonant ∷ NotConsonant ∷ NotConsonant ∷ NotConsonant ∷ NotConsonant ∷ NotConsonant
    ∷ NotConsonant ∷ NotConsonant ∷ NotConsonant ∷ NotConsonant ∷ NotConsonant ∷ NotConsonant ∷ NotConsonant
    ∷ NotConsonant ∷ NotConsonant ∷ NotConsonant ∷ []
consonants_thai = refl

-- Lao has none
consonants_lao : map consonant_type (range_with_len 0x0E80 0x50) ≡ NotConsonant ∷ NotConsonant ∷ NotConsonant
    ∷ NotConsonant ∷ NotConsonant ∷ NotConsonant ∷ NotConsonant ∷ NotConsonant ∷ NotConsonant ∷ NotConsonant
    ∷ NotConsonant ∷ NotConsonant ∷ NotConsonant ∷ NotConsonant ∷ NotConsonant ∷ NotConsonant ∷ NotConsonant
    ∷ NotConsonant ∷ NotConsonant ∷ NotConsonant ∷ NotConsonant ∷ NotConsonant ∷ NotConsonant ∷ NotConsonant
    ∷ NotConsonant ∷ NotConsonant ∷ NotConsonant ∷ NotConsonant ∷ NotConsonant ∷ NotConsonant ∷ NotConsonant
    ∷ NotConsonant ∷ NotConsonant ∷ NotConsonant ∷ NotConsonant ∷ NotConsonant ∷ NotConsonant ∷ NotConsonant
    ∷ NotConsonant ∷ NotConsonant ∷ NotConsonant ∷ NotConsonant ∷ NotConsonant ∷ NotConsonant ∷ NotConsonant
    ∷ NotConsonant ∷ NotConsonant ∷ NotConsonant ∷ NotConsonant ∷ NotConsonant ∷ NotConsonant ∷ NotConsonant
    ∷ NotConsonant ∷ NotConsonant ∷ NotConsonant ∷ NotConsonant ∷ NotConsonant ∷ NotConsonant ∷ NotConsonant
    ∷ NotConsonant ∷ NotConsonant ∷ NotConsonant ∷ NotConsonant ∷ NotConsonant ∷ NotConsonant ∷ NotConsonant
    ∷ NotConsonant ∷ NotConsonant ∷ NotConsonant ∷ NotConsonant ∷ NotConsonant ∷ NotConsonant ∷ NotConsonant
    ∷ NotConsonant ∷ NotConsonant ∷ NotConsonant ∷ NotConsonant ∷ NotConsonant ∷ NotConsonant ∷ NotConsonant ∷ []
consonants_lao = refl

-- as marks
marks_thai : map mark_type (range_with_len 0x0E00 0x50) ≡ NotMark ∷ NotMark ∷ NotMark ∷ NotMark ∷ NotMark ∷ NotMark
    ∷ NotMark ∷ NotMark ∷ NotMark ∷ NotMark ∷ NotMark ∷ NotMark ∷ NotMark ∷ NotMark ∷ NotMark ∷ NotMark ∷ NotMark
    ∷ NotMark ∷ NotMark ∷ NotMark ∷ NotMark ∷ NotMark ∷ NotMark ∷ NotMark ∷ NotMark ∷ NotMark ∷ NotMark ∷ NotMark
    ∷ NotMark ∷ NotMark ∷ NotMark ∷ NotMark ∷ NotMark ∷ NotMark ∷ NotMark ∷ NotMark ∷ NotMark ∷ NotMark ∷ NotMark
    ∷ NotMark ∷ NotMark ∷ NotMark ∷ NotMark ∷ NotMark ∷ NotMark ∷ NotMark ∷ NotMark ∷ NotMark ∷ NotMark ∷ AV ∷ NotMark
    ∷ NotMark ∷ AV ∷ AV ∷ AV ∷ AV ∷ BV ∷ BV ∷ BV ∷ NotMark ∷ NotMark ∷ NotMark ∷ NotMark ∷ NotMark ∷ NotMark ∷ NotMark
    ∷ NotMark ∷ NotMark ∷ NotMark ∷ NotMark ∷ NotMark ∷ AV ∷ T ∷ T ∷ T ∷ T ∷ T ∷ AV ∷ AV ∷ NotMark ∷ []
marks_thai = refl

-- Lao has none
marks_lao : map mark_type (range_with_len 0x0E80 0x50) ≡ NotMark ∷ NotMark ∷ NotMark ∷ NotMark ∷ NotMark ∷ NotMark
    ∷ NotMark ∷ NotMark ∷ NotMark ∷ NotMark ∷ NotMark ∷ NotMark ∷ NotMark ∷ NotMark ∷ NotMark ∷ NotMark ∷ NotMark
    ∷ NotMark ∷ NotMark ∷ NotMark ∷ NotMark ∷ NotMark ∷ NotMark ∷ NotMark ∷ NotMark ∷ NotMark ∷ NotMark ∷ NotMark
    ∷ NotMark ∷ NotMark ∷ NotMark ∷ NotMark ∷ NotMark ∷ NotMark ∷ NotMark ∷ NotMark ∷ NotMark ∷ NotMark ∷ NotMark
    ∷ NotMark ∷ NotMark ∷ NotMark ∷ NotMark ∷ NotMark ∷ NotMark ∷ NotMark ∷ NotMark ∷ NotMark ∷ NotMark ∷ NotMark
    ∷ NotMark ∷ NotMark ∷ NotMark ∷ NotMark ∷ NotMark ∷ NotMark ∷ NotMark ∷ NotMark ∷ NotMark ∷ NotMark ∷ NotMark
    ∷ NotMark ∷ NotMark ∷ NotMark ∷ NotMark ∷ NotMark ∷ NotMark ∷ NotMark ∷ NotMark ∷ NotMark ∷ NotMark ∷ NotMark
    ∷ NotMark ∷ NotMark ∷ NotMark ∷ NotMark ∷ NotMark ∷ NotMark ∷ NotMark ∷ NotMark ∷ []
marks_lao = refl

-- each case of the actions, at counts 0, 1 and 2
abbrev counts : List ℕ
counts = 0 ∷ 1 ∷ 2 ∷ []

-- what a mark does on a base, by the marks above since it, and by those below since it
abbrev by_above : Consonant → Mark → List Action
by_above base mark = flat_map (λ a. map (λ b. action_of base mark a b) counts) counts

-- rows of three: no mark above, one, two; in each no mark below, one, two
av_on_nc : by_above NC AV ≡ NOP ∷ NOP ∷ NOP ∷ NOP ∷ NOP ∷ NOP ∷ NOP ∷ NOP ∷ NOP ∷ []
av_on_nc = refl

av_on_ac : by_above AC AV ≡ SL ∷ SL ∷ SL ∷ NOP ∷ NOP ∷ NOP ∷ NOP ∷ NOP ∷ NOP ∷ []
av_on_ac = refl

av_on_rc : by_above RC AV ≡ NOP ∷ NOP ∷ NOP ∷ NOP ∷ NOP ∷ NOP ∷ NOP ∷ NOP ∷ NOP ∷ []
av_on_rc = refl

av_on_dc : by_above DC AV ≡ NOP ∷ NOP ∷ NOP ∷ NOP ∷ NOP ∷ NOP ∷ NOP ∷ NOP ∷ NOP ∷ []
av_on_dc = refl

av_on_notconsonant : by_above NotConsonant AV ≡ NOP ∷ NOP ∷ NOP ∷ NOP ∷ NOP ∷ NOP ∷ NOP ∷ NOP ∷ NOP ∷ []
av_on_notconsonant = refl

t_on_nc : by_above NC T ≡ SD ∷ SD ∷ SD ∷ NOP ∷ NOP ∷ NOP ∷ NOP ∷ NOP ∷ NOP ∷ []
t_on_nc = refl

t_on_ac : by_above AC T ≡ SDL ∷ SDL ∷ SDL ∷ SL ∷ SL ∷ SL ∷ NOP ∷ NOP ∷ NOP ∷ []
t_on_ac = refl

t_on_rc : by_above RC T ≡ SD ∷ SD ∷ SD ∷ NOP ∷ NOP ∷ NOP ∷ NOP ∷ NOP ∷ NOP ∷ []
t_on_rc = refl

t_on_dc : by_above DC T ≡ SD ∷ SD ∷ SD ∷ NOP ∷ NOP ∷ NOP ∷ NOP ∷ NOP ∷ NOP ∷ []
t_on_dc = refl

t_on_notconsonant : by_above NotConsonant T ≡ NOP ∷ NOP ∷ NOP ∷ NOP ∷ NOP ∷ NOP ∷ NOP ∷ NOP ∷ NOP ∷ []
t_on_notconsonant = refl

bv_on_nc : by_above NC BV ≡ NOP ∷ SD ∷ SD ∷ NOP ∷ SD ∷ SD ∷ NOP ∷ SD ∷ SD ∷ []
bv_on_nc = refl

bv_on_ac : by_above AC BV ≡ NOP ∷ SD ∷ SD ∷ NOP ∷ SD ∷ SD ∷ NOP ∷ SD ∷ SD ∷ []
bv_on_ac = refl

bv_on_rc : by_above RC BV ≡ RD ∷ SD ∷ SD ∷ RD ∷ SD ∷ SD ∷ RD ∷ SD ∷ SD ∷ []
bv_on_rc = refl

bv_on_dc : by_above DC BV ≡ SD ∷ SD ∷ SD ∷ SD ∷ SD ∷ SD ∷ SD ∷ SD ∷ SD ∷ []
bv_on_dc = refl

bv_on_notconsonant : by_above NotConsonant BV ≡ SD ∷ SD ∷ SD ∷ SD ∷ SD ∷ SD ∷ SD ∷ SD ∷ SD ∷ []
bv_on_notconsonant = refl

notmark_on_nc : by_above NC NotMark ≡ NOP ∷ NOP ∷ NOP ∷ NOP ∷ NOP ∷ NOP ∷ NOP ∷ NOP ∷ NOP ∷ []
notmark_on_nc = refl

notmark_on_ac : by_above AC NotMark ≡ NOP ∷ NOP ∷ NOP ∷ NOP ∷ NOP ∷ NOP ∷ NOP ∷ NOP ∷ NOP ∷ []
notmark_on_ac = refl

notmark_on_rc : by_above RC NotMark ≡ NOP ∷ NOP ∷ NOP ∷ NOP ∷ NOP ∷ NOP ∷ NOP ∷ NOP ∷ NOP ∷ []
notmark_on_rc = refl

notmark_on_dc : by_above DC NotMark ≡ NOP ∷ NOP ∷ NOP ∷ NOP ∷ NOP ∷ NOP ∷ NOP ∷ NOP ∷ NOP ∷ []
notmark_on_dc = refl

notmark_on_notconsonant : by_above NotConsonant NotMark ≡ NOP ∷ NOP ∷ NOP ∷ NOP ∷ NOP ∷ NOP ∷ NOP ∷ NOP ∷ NOP ∷ []
notmark_on_notconsonant = refl

-- the base of what follows a text: the last character that isn't a mark, by its type; marks after it are counted
bases : map base_type ([] ∷ (0x0E38 ∷ []) ∷ (0x0E0D ∷ []) ∷ (0x0E1B ∷ 0x0E0D ∷ 0x0E38 ∷ 0x0E48 ∷ [])
    ∷ (0x0E0D ∷ 0x0ECD ∷ 0x0E38 ∷ []) ∷ (0x0E0D ∷ 0x0020 ∷ []) ∷ (0x0E48 ∷ 0x0E1B ∷ []) ∷ [])
    ≡ NotConsonant ∷ NotConsonant ∷ RC ∷ RC ∷ NotConsonant ∷ NotConsonant ∷ AC ∷ []
bases = refl

above_since : map marks_above ([] ∷ (0x0E48 ∷ []) ∷ (0x0E34 ∷ 0x0E0D ∷ []) ∷ (0x0E0D ∷ 0x0E34 ∷ 0x0E38 ∷ 0x0E48 ∷ [])
    ∷ (0x0E34 ∷ 0x0E48 ∷ 0x0E38 ∷ []) ∷ []) ≡ 0 ∷ 1 ∷ 0 ∷ 2 ∷ 2 ∷ []
above_since = refl

below_since : map marks_below ([] ∷ (0x0E38 ∷ []) ∷ (0x0E39 ∷ 0x0E0D ∷ []) ∷ (0x0E0D ∷ 0x0E34 ∷ 0x0E38 ∷ 0x0E48 ∷ [])
    ∷ (0x0E3A ∷ 0x0E48 ∷ 0x0E38 ∷ []) ∷ []) ≡ 0 ∷ 1 ∷ 0 ∷ 1 ∷ 2 ∷ []
below_since = refl

base_places : map thai_base_place ([] ∷ (0x0E38 ∷ []) ∷ (0x0E0D ∷ []) ∷ (0x0E1B ∷ 0x0E0D ∷ 0x0E38 ∷ 0x0E48 ∷ [])
    ∷ (0x0E0D ∷ 0x0ECD ∷ 0x0E38 ∷ []) ∷ []) ≡ 0 ∷ 0 ∷ 0 ∷ 1 ∷ 1 ∷ []
base_places = refl

-- a mark before any base: a vowel below goes down, the others do nothing
before_any_base : map (action_after []) (0x0E38 ∷ 0x0E39 ∷ 0x0E3A ∷ 0x0E48 ∷ 0x0E31 ∷ 0x0E0D ∷ []) ≡ SD ∷ SD ∷ SD ∷ NOP
    ∷ NOP ∷ NOP ∷ []
before_any_base = refl

-- the base gives up its descender to a vowel below among its own marks, wherever that stands there,
-- and only a base that can
abbrev has_all : ℕ → Bool
has_all c = true

descenders : map (λ after. form_between has_all [] 0x0E10 after) ([] ∷ (0x0E38 ∷ []) ∷ (0x0E48 ∷ 0x0E39 ∷ [])
    ∷ (0x0E48 ∷ []) ∷ (0x0E01 ∷ 0x0E38 ∷ []) ∷ (0x0ECD ∷ 0x0E38 ∷ []) ∷ []) ≡ 0x0E10 ∷ 0xF700 ∷ 0xF700 ∷ 0x0E10 ∷ 0x0E10
    ∷ 0x0E10 ∷ []
descenders = refl

descenders_of : map (λ u. form_between has_all [] u (0x0E3A ∷ [])) (0x0E0D ∷ 0x0E0E ∷ 0x0E0F ∷ 0x0E10 ∷ 0x0E1B ∷ 0x0E01
    ∷ 0x0E2F ∷ []) ≡ 0xF70F ∷ 0x0E0E ∷ 0x0E0F ∷ 0xF700 ∷ 0x0E1B ∷ 0x0E01 ∷ 0x0E2F ∷ []
descenders_of = refl

-- a text between two others reads what stands before and after it, and gives its own forms alone
between : forms_between has_all (0x0E1B ∷ 0x0E34 ∷ []) (0x0E48 ∷ 0x0E0D ∷ []) (0x0E38 ∷ []) ≡ 0xF713 ∷ 0xF70F ∷ []
between = refl

-- the stretches that are unsafe to break: from the base, or the start of the text, to each mark
stretches : mark_stretches (0x0E38 ∷ 0x0E14 ∷ 0x0E38 ∷ 0x0E48 ∷ 0x0E32 ∷ 0x0E1B ∷ 0x0E34 ∷ []) ≡ (0, 0) ∷ (1, 2)
    ∷ (1, 3) ∷ (5, 6) ∷ []
stretches = refl

-- with Sound each reaches to behind its mark
whole_stretches : whole_mark_stretches (0x0E38 ∷ 0x0E14 ∷ 0x0E38 ∷ 0x0E48 ∷ 0x0E32 ∷ 0x0E1B ∷ 0x0E34 ∷ []) ≡ (0, 1)
    ∷ (1, 3) ∷ (1, 4) ∷ (5, 7) ∷ []
whole_stretches = refl

-- forms and masks by the choice, each character in a cluster of its own
abbrev own_cluster : ℕ × ℕ → Glyph
own_cluster p = record default_glyph { glyph_id = p.0; cluster = p.1 }

abbrev forms_by : BreakFlags → List (ℕ × ℕ) → List (ℕ × ℕ)
forms_by breaks us =
    map (λ (g : Glyph). (g.glyph_id, g.mask)) (preprocessed_flagged breaks true has_all MonotoneCharacters
    (map own_cluster us))

-- one mark behind its base
one_mark : map (λ breaks. forms_by breaks ((0x0E1B, 0) ∷ (0x0E31, 1) ∷ [])) (AsCode ∷ Sound ∷ [])
    ≡ ((0x0E1B, 0) ∷ (0xF710, 0) ∷ []) ∷ ((0x0E1B, 0) ∷ (0xF710, 3) ∷ []) ∷ []
one_mark = refl

-- two marks, and a base behind them that stays clear
two_marks : map (λ breaks. forms_by breaks ((0x0E14, 0) ∷ (0x0E38, 1) ∷ (0x0E48, 2) ∷ (0x0E01, 3) ∷ [])) (AsCode
    ∷ Sound ∷ [])
    ≡ ((0x0E14, 0) ∷ (0x0E38, 3) ∷ (0xF70A, 0) ∷ (0x0E01, 0) ∷ []) ∷ ((0x0E14, 0) ∷ (0x0E38, 3) ∷ (0xF70A, 3)
    ∷ (0x0E01, 0) ∷ []) ∷ []
two_marks = refl

-- the mark of a SARA AM, taken apart; the clusters are 0 1 1
sara_am_apart : map (λ breaks. forms_by breaks ((0x0E1B, 0) ∷ (0x0E33, 1) ∷ [])) (AsCode ∷ Sound ∷ [])
    ≡ ((0x0E1B, 0) ∷ (0xF711, 0) ∷ (0x0E32, 0) ∷ []) ∷ ((0x0E1B, 0) ∷ (0xF711, 3) ∷ (0x0E32, 0) ∷ []) ∷ []
sara_am_apart = refl

-- where clusters fall, the base is flagged; marks without a base, from the text's start on
falling_clusters : map (λ breaks. forms_by breaks ((0x0E1B, 1) ∷ (0x0E31, 0) ∷ [])) (AsCode ∷ Sound ∷ [])
    ≡ ((0x0E1B, 0) ∷ (0xF710, 0) ∷ []) ∷ ((0x0E1B, 3) ∷ (0xF710, 0) ∷ []) ∷ []
falling_clusters = refl

no_base : map (λ breaks. forms_by breaks ((0x0E38, 0) ∷ (0x0E48, 1) ∷ [])) (AsCode ∷ Sound ∷ [])
    ≡ ((0xF718, 0) ∷ (0x0E48, 0) ∷ []) ∷ ((0xF718, 0) ∷ (0x0E48, 3) ∷ []) ∷ []
no_base = refl

-- without forms the choice adds nothing
no_forms : map (λ breaks. preprocessed_flagged breaks false has_all MonotoneCharacters (own_cluster (0x0E1B, 0)
    ∷ own_cluster (0x0E31, 1) ∷ [])) (AsCode ∷ Sound ∷ [])
    ≡ (own_cluster (0x0E1B, 0) ∷ own_cluster (0x0E31, 1) ∷ []) ∷ (own_cluster (0x0E1B, 0) ∷ own_cluster (0x0E31, 1)
    ∷ []) ∷ []
no_forms = refl

-- forms and flags change characters and masks alone
abbrev full : Glyph
full = record {
  glyph_id = 0x0E0D;
  cluster = 5;
  mask = 0x18;
  syllable = 0x24;
  category = 1;
  auxiliary = 3;
  glyph_props = record { 0 = 0x70 };
  lig_props = record { 0 = 2 };
  unicode_props = record { 0 = 0x09AC };
}

forms_keep : pua_shaped has_all (full ∷ record full { glyph_id = 0x0E38 }
    ∷ record full { glyph_id = 0x0E48; cluster = 6 } ∷ record full { glyph_id = 0x0E48; cluster = 7 } ∷ [])
    ≡ record full { glyph_id = 0xF70F } ∷ record full { glyph_id = 0x0E38 }
    ∷ record full { glyph_id = 0xF70A; cluster = 6; mask = 0x1B } ∷ record full { glyph_id = 0x0E48; cluster = 7 } ∷ []
forms_keep = refl
