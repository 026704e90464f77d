-- The private use forms of Thai, by the note on Thai OpenType shaping (the Thai note).
use Rattle.std.specs.Prelude.{ℕ, ◌+◌, ◌-◌, Bool, ◌||◌, ◌&&◌, ◌==◌, nat_le, true, false, List, [], ◌∷◌, ◌++◌, length, reverse, map, flat_map, take_while, count_by, find, zip, Option, None, Some, if◌then◌else◌}
use Rattle.std.specs.List.{list_any, suffix_len}
use Rattle.shapers_buffer.specs.Glyphs.{Glyph, Glyphs}
use Rattle.shapers_buffer.specs.declared.buffer.level.BufferClusterLevel.{BufferClusterLevel}
use Rattle.shapers_buffer.specs.Glyph.{characters}
use Rattle.shapers_base.specs.declared.plan.breaks.BreakFlags.{BreakFlags}
use Rattle.shapers_base.specs.declared.plan.breaks.BreakFlags.TheVariants.{AsCode, Sound}
use Rattle.shapers_base.specs.declared.plan.hb_ot_shape_plan_t.{hb_ot_shape_plan_t}
use Rattle.shapers_buffer.specs.Buffer.{Buffer}
use Rattle.shapers_base.specs.Font.{Font, has_nominal}
use Rattle.shapers_buffer.specs.Clusters.{merge_all}
use Rattle.shapers_buffer.specs.GlyphFlags.{unsafe_all}
use Rattle.shapers_buffer.specs.Lists.{last_stretch, before_last_stretch, each_after}
use Rattle.shapers_text.specs.Thai.{glyphs_in_two, sara_am_stretches, wants_forms}
use Rattle.shapers_text.specs.declared.ot_shaper_thai.forms.Consonant.{Consonant}
use Rattle.shapers_text.specs.declared.ot_shaper_thai.forms.Consonant.TheVariants.{NC, AC, RC, DC, NotConsonant}
use Rattle.shapers_text.specs.declared.ot_shaper_thai.forms.Mark.{Mark}
use Rattle.shapers_text.specs.declared.ot_shaper_thai.forms.Mark.TheVariants.{AV, BV, T, NotMark}
use Rattle.shapers_text.specs.declared.ot_shaper_thai.forms.Action.{Action}
use Rattle.shapers_text.specs.declared.ot_shaper_thai.forms.Action.TheVariants.{NOP, SD, SL, SDL, RD}
use Rattle.shapers_text.specs.declared.ot_shaper_thai.forms.PuaMapping.{PuaMapping}

-- the type of a character as a consonant: ascending, with a removable descender, with a strict
-- descender, or another (the Thai note's NC, AC, RC, DC)
abbrev pub consonant_type : ℕ → Consonant
consonant_type u =
    if u == 0x0E1B || u == 0x0E1D || u == 0x0E1F then AC
    else if u == 0x0E0D || u == 0x0E10 then RC
    else if u == 0x0E0E || u == 0x0E0F then DC
    else if nat_le 0x0E01 u && nat_le u 0x0E2E then NC
    else NotConsonant

-- its type as a mark: a vowel above, a vowel below, or a tone above (the Thai note's AV, BV, T)
abbrev pub mark_type : ℕ → Mark
mark_type u =
    if u == 0x0E31 || (nat_le 0x0E34 u && nat_le u 0x0E37) || u == 0x0E47
    || (nat_le 0x0E4D u && nat_le u 0x0E4E) then AV
    else if nat_le 0x0E38 u && nat_le u 0x0E3A then BV
    else if nat_le 0x0E48 u && nat_le u 0x0E4C then T
    else NotMark

-- whether a mark stands above, below, or is one at all
abbrev pub stands_above : Mark → Bool
stands_above AV = true
stands_above T = true
stands_above _ = false

abbrev pub stands_below : Mark → Bool
stands_below BV = true
stands_below _ = false

abbrev pub is_thai_mark : ℕ → Bool
is_thai_mark u = stands_above (mark_type u) || stands_below (mark_type u)

-- what a tone or a vowel above does on a base with a marks above it (the Thai note's states above)
abbrev pub above_action : Consonant → Mark → ℕ → Action
above_action AC AV a = if a == 0 then SL else NOP
above_action AC T a = if a == 0 then SDL else if a == 1 then SL else NOP
above_action NC T a = if a == 0 then SD else NOP
above_action RC T a = if a == 0 then SD else NOP
above_action DC T a = if a == 0 then SD else NOP
above_action _ _ a = NOP

-- what a vowel below does on a base with b vowels below it (the Thai note's states below)
abbrev pub below_action : Consonant → ℕ → Action
below_action RC b = if b == 0 then RD else SD
below_action NC b = if b == 0 then NOP else SD
below_action AC b = if b == 0 then NOP else SD
below_action _ b = SD

-- what a mark does by the types of base and mark, with a marks above and b below since the base
abbrev pub action_of : Consonant → Mark → ℕ → ℕ → Action
action_of base BV a b = below_action base b
action_of base mark a b = above_action base mark a

-- a character and its forms, Windows' and Macintosh's (the Thai note's tables, as the next four)
abbrev pub pua : ℕ → ℕ → ℕ → PuaMapping
pua u win mac = record { 0 = u; 1 = win; 2 = mac }

-- marks shifted down
abbrev pub sd_mappings : List PuaMapping
sd_mappings =
    pua 0x0E48 0xF70A 0xF88B ∷ pua 0x0E49 0xF70B 0xF88E ∷ pua 0x0E4A 0xF70C 0xF891
    ∷ pua 0x0E4B 0xF70D 0xF894 ∷ pua 0x0E4C 0xF70E 0xF897
    ∷ pua 0x0E38 0xF718 0xF89B ∷ pua 0x0E39 0xF719 0xF89C ∷ pua 0x0E3A 0xF71A 0xF89D ∷ []

-- marks shifted down and left
abbrev pub sdl_mappings : List PuaMapping
sdl_mappings =
    pua 0x0E48 0xF705 0xF88C ∷ pua 0x0E49 0xF706 0xF88F ∷ pua 0x0E4A 0xF707 0xF892
    ∷ pua 0x0E4B 0xF708 0xF895 ∷ pua 0x0E4C 0xF709 0xF898 ∷ []

-- marks shifted left
abbrev pub sl_mappings : List PuaMapping
sl_mappings =
    pua 0x0E48 0xF713 0xF88A ∷ pua 0x0E49 0xF714 0xF88D ∷ pua 0x0E4A 0xF715 0xF890
    ∷ pua 0x0E4B 0xF716 0xF893 ∷ pua 0x0E4C 0xF717 0xF896
    ∷ pua 0x0E31 0xF710 0xF884 ∷ pua 0x0E34 0xF701 0xF885 ∷ pua 0x0E35 0xF702 0xF886
    ∷ pua 0x0E36 0xF703 0xF887 ∷ pua 0x0E37 0xF704 0xF888
    ∷ pua 0x0E47 0xF712 0xF889 ∷ pua 0x0E4D 0xF711 0xF899 ∷ []

-- bases without their descender
abbrev pub rd_mappings : List PuaMapping
rd_mappings = pua 0x0E0D 0xF70F 0xF89A ∷ pua 0x0E10 0xF700 0xF89E ∷ []

abbrev pub mappings_of : Action → List PuaMapping
mappings_of NOP = []
mappings_of SD = sd_mappings
mappings_of SDL = sdl_mappings
mappings_of SL = sl_mappings
mappings_of RD = rd_mappings

-- the first form that the font has, else the character itself (the Thai note: Windows' first)
abbrev pub first_form : (ℕ → Bool) → ℕ → Option PuaMapping → ℕ
first_form has u None = u
first_form has u (Some m) = if has m.1 then m.1 else if has m.2 then m.2 else u

abbrev pub shaped_by : (ℕ → Bool) → ℕ → Action → ℕ
shaped_by has u action = first_form has u (find (λ m. m.0 == u) (mappings_of action))

-- the base of what follows a text: its last character that isn't a mark
abbrev pub last_type : List ℕ → Consonant
last_type [] = NotConsonant
last_type (u ∷ us) = consonant_type u

abbrev pub base_type : List ℕ → Consonant
base_type before = last_type (reverse (before_last_stretch is_thai_mark before))

-- the marks above and below since that base
abbrev pub marks_above : List ℕ → ℕ
marks_above before = count_by (λ u. stands_above (mark_type u)) (last_stretch is_thai_mark before)

abbrev pub marks_below : List ℕ → ℕ
marks_below before = count_by (λ u. stands_below (mark_type u)) (last_stretch is_thai_mark before)

-- what a mark does after this text
abbrev pub action_after : List ℕ → ℕ → Action
action_after before u =
    action_of (base_type before) (mark_type u) (marks_above before) (marks_below before)

-- whether a vowel below follows among the marks of this base
abbrev pub has_below : List ℕ → Bool
has_below after = list_any (λ u. stands_below (mark_type u)) (take_while is_thai_mark after)

-- whether a base loses its descender to the marks after it
abbrev pub is_removable : Consonant → Bool
is_removable RC = true
is_removable _ = false

-- a character's form between two texts: a mark's by its action, a base's by a vowel below behind it
abbrev pub form_between : (ℕ → Bool) → List ℕ → ℕ → List ℕ → ℕ
form_between has before u after =
    if is_thai_mark u then shaped_by has u (action_after before u)
    else if is_removable (consonant_type u) && has_below after then shaped_by has u RD
    else u

-- the forms of a text between two texts, each by what stands before and after it
abbrev pub forms_between : (ℕ → Bool) → List ℕ → List ℕ → List ℕ → List ℕ
forms_between has before [] after = []
forms_between has before (u ∷ us) after =
    form_between has before u (us ++ after) ∷ forms_between has (before ++ u ∷ []) us after

-- the glyphs with other characters
abbrev pub with_character : Glyph → ℕ → Glyph
with_character g u = record g { glyph_id = u }

abbrev pub with_characters : List ℕ → Glyphs → Glyphs
with_characters us gs = map (λ p. with_character p.1 p.0) (zip us gs)

-- the glyphs with their private use forms
abbrev pub with_thai_forms : (ℕ → Bool) → Glyphs → Glyphs
with_thai_forms has gs = with_characters (forms_between has [] (characters gs) []) gs

-- the place of the base of what follows a text, 0 where there is none
abbrev pub thai_base_place : List ℕ → ℕ
thai_base_place before = length before - suffix_len is_thai_mark before - 1

-- from each mark's base to the mark, in turn, of characters with what stands before each
abbrev pub stretch_of_mark : ℕ → ℕ → ℕ → List (ℕ × ℕ)
stretch_of_mark base place u = if is_thai_mark u then (base, place) ∷ [] else []

abbrev pub mark_stretches_of_each : List (List ℕ × ℕ) → List (ℕ × ℕ)
mark_stretches_of_each each =
    flat_map (λ p. stretch_of_mark (thai_base_place p.0) (length p.0) p.1) each

abbrev pub mark_stretches : List ℕ → List (ℕ × ℕ)
mark_stretches us = mark_stretches_of_each (each_after [] us)

-- forms and flags: a break between a base and its marks would change the forms
abbrev pub pua_shaped : (ℕ → Bool) → Glyphs → Glyphs
pua_shaped has gs = with_thai_forms has (unsafe_all (mark_stretches (characters gs)) gs)

-- from each mark's base to the mark, the mark with it
abbrev pub whole_mark_stretches : List ℕ → List (ℕ × ℕ)
whole_mark_stretches us = map (λ st. (st.0, st.1 + 1)) (mark_stretches us)

-- what the choice flags besides, before the forms: with Sound no break between a base and any mark
-- of it, since a piece that begins with marks forms them without their base
abbrev pub marks_flagged : BreakFlags → Glyphs → Glyphs
marks_flagged AsCode gs = gs
marks_flagged Sound gs = unsafe_all (whole_mark_stretches (characters gs)) gs

-- the whole rewriting by the choice, with the private use forms or without; with the code's flags
abbrev pub preprocessed_flagged : BreakFlags → Bool → (ℕ → Bool) → BufferClusterLevel →
    Glyphs → Glyphs
preprocessed_flagged breaks forms has level gs =
    let text = glyphs_in_two (merge_all level (sara_am_stretches level (characters gs)) gs) in
    if forms then pua_shaped has (marks_flagged breaks text) else text

abbrev pub preprocessed_text : Bool → (ℕ → Bool) → BufferClusterLevel → Glyphs →
    Glyphs
preprocessed_text forms has level gs = preprocessed_flagged AsCode forms has level gs

-- whether a plan wants the forms (the Thai note: for fonts without OpenType rules)
abbrev pub asks_for_forms : hb_ot_shape_plan_t → Bool
asks_for_forms plan = wants_forms plan.script plan.ot_map.found

-- the whole hook on a buffer
abbrev pub preprocessed_in_thai : hb_ot_shape_plan_t → Font → Buffer → Buffer
preprocessed_in_thai plan font b =
    record b {
      glyphs = preprocessed_flagged plan.break_flags (asks_for_forms plan) (has_nominal font)
          b.level b.glyphs;
    }
