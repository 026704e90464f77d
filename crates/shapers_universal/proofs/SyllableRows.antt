-- The masks of syllables, the records, the plan and the categories, computed on values written out from the rules.
use Prim.Native.String.{String}
use Rattle.std.specs.Prelude.{◌≡◌, ℕ, Bool, true, false, List, [], ◌∷◌, map, Option, None, Some, codes, ◌==◌, ◌%◌, if◌then◌else◌, refl}
use Rattle.shapers_buffer.specs.declared.buffer.category.hb_unicode_general_category_t.TheVariants.{Lo}
use Rattle.shapers_buffer.specs.Glyphs.{Glyph}
use Rattle.shapers_buffer.specs.declared.buffer.syllables.Span.{Span}
use Rattle.shapers_buffer.specs.declared.buffer.tag.Script.{Script}
use Rattle.shapers_buffer.specs.Buffer.{Buffer, new_buffer}
use Rattle.shapers_buffer.specs.Glyph.{default_glyph}
use Rattle.shapers_buffer.specs.Properties.{general_category, properties}
use Rattle.shapers_base.specs.Map.{Map}
use Rattle.shapers_base.specs.declared.plan.arabic.StretchStart.TheVariants as starts
use Rattle.shapers_base.specs.declared.plan.breaks.BreakFlags.{BreakFlags}
use Rattle.shapers_base.specs.declared.plan.breaks.BreakFlags.TheVariants as breaks
use Rattle.shapers_buffer.specs.Syllables.{syllables}
use Rattle.shapers_base.specs.declared.map.feature_map_t.{feature_map_t}
use Rattle.shapers_base.specs.declared.plan.PlanData.TheVariants.{Universal}
use Rattle.shapers_base.specs.declared.plan.joining.hb_arabic_joining_type_t.{hb_arabic_joining_type_t}
use Rattle.shapers_base.specs.declared.plan.joining.hb_arabic_joining_type_t.TheVariants.{D, T}
use Rattle.shapers_arabic.specs.JoinedText.{forms_of, text_of}
use Rattle.shapers_arabic.specs.PlanData.{arabic_plan}
use Rattle.shapers_universal.specs.declared.ot_shaper_use.forms.FormMasks.{FormMasks}
use Rattle.shapers_universal.specs.PlanData.{joins_letters, universal_plan}
use Rattle.shapers_universal.specs.UniversalMasks.{categorized}
use Rattle.shapers_universal.specs.UniversalCuts.{flagless_for, formless_for}
use Rattle.shapers_universal.specs.UniversalSyllables.{all_forms, form_masks, forms_flagged, is_torn, mask_between, rphf_recorded, setup_by_its_bytes, syllables_setup, torn_pairs, with_form_masks, with_forms_flagged, with_instead, with_pref_recorded, with_rphf, with_rphf_recorded}

-- a glyph whose fields are all set
abbrev full : Glyph
full = record {
  glyph_id = 0x916;
  mask = 0x3F;
  cluster = 5;
  glyph_props = record { 0 = 0x70 };
  lig_props = record { 0 = 2 };
  syllable = 0x24;
  unicode_props = record { 0 = 0x09AC };
  category = 1;
  auxiliary = 3;
}

-- the masks of the four forms
abbrev four : FormMasks
four = record { isol = 0x10; init = 0x20; medi = 0x40; fina = 0x80 }

abbrev no_forms : FormMasks
no_forms = record { isol = 0; init = 0; medi = 0; fina = 0 }

-- glyphs of these syllable bytes, and their masks
abbrev of_byte : ℕ → Glyph
of_byte byte = record default_glyph { syllable = byte }

abbrev masks_in : FormMasks → List ℕ → List ℕ
masks_in masks bytes = map (λ g. g.mask) (with_form_masks masks (map of_byte bytes))

-- the form by its place in a sequence: a lone one, two, three, four
runs : map (masks_in four) ((0x12 ∷ []) ∷ (0x12 ∷ 0x22 ∷ []) ∷ (0x12 ∷ 0x22 ∷ 0x32 ∷ [])
    ∷ (0x12 ∷ 0x22 ∷ 0x32 ∷ 0x42 ∷ []) ∷ []) ≡ (0x10 ∷ []) ∷ (0x20 ∷ 0x80 ∷ []) ∷ (0x20 ∷ 0x40 ∷ 0x80 ∷ [])
    ∷ (0x20 ∷ 0x40 ∷ 0x40 ∷ 0x80 ∷ []) ∷ []
runs = refl

-- runs end before and begin behind kind 8, and its halves, cut after the second syllable
broken_run : map (masks_in four) ((0x12 ∷ 0x22 ∷ 0x32 ∷ 0x48 ∷ 0x52 ∷ []) ∷ (0x12 ∷ 0x22 ∷ [])
    ∷ (0x32 ∷ 0x48 ∷ 0x52 ∷ []) ∷ []) ≡ (0x20 ∷ 0x40 ∷ 0x80 ∷ 0 ∷ 0x10 ∷ []) ∷ (0x20 ∷ 0x80 ∷ [])
    ∷ (0x10 ∷ 0 ∷ 0x10 ∷ []) ∷ []
broken_run = refl

-- each kind alone: all join but 6 and 8
kinds : masks_in four (0x10 ∷ 0x18 ∷ 0x21 ∷ 0x26 ∷ 0x33 ∷ 0x38 ∷ 0x44 ∷ 0x46 ∷ 0x55 ∷ 0x58 ∷ 0x67 ∷ 0x66 ∷ 0x79 ∷ [])
    ≡ 0x10 ∷ 0 ∷ 0x10 ∷ 0 ∷ 0x10 ∷ 0 ∷ 0x10 ∷ 0 ∷ 0x10 ∷ 0 ∷ 0x10 ∷ 0 ∷ 0x10 ∷ []
kinds = refl

-- all glyphs of a syllable
whole_syllables : masks_in four (0x12 ∷ 0x12 ∷ 0x22 ∷ 0x22 ∷ 0x22 ∷ 0x36 ∷ 0x41 ∷ []) ≡ 0x20 ∷ 0x20 ∷ 0x80 ∷ 0x80 ∷ 0x80
    ∷ 0 ∷ 0x10 ∷ []
whole_syllables = refl

-- without masks nothing changes; the bits of all forms go, other bits and fields stay
without_masks : with_form_masks no_forms (full ∷ full ∷ []) ≡ full ∷ full ∷ []
without_masks = refl

bits_of_forms : with_form_masks (record no_forms { fina = 0x18 }) (full ∷ full ∷ []) ≡ record full { mask = 0x27 }
    ∷ record full { mask = 0x27 } ∷ []
bits_of_forms = refl

instead : with_instead 0xF0 0x20 (record full { mask = 0xFFFFFFFF }) ≡ record full { mask = 0xFFFFFF2F }
instead = refl

between : mask_between four false false ∷ mask_between four false true ∷ mask_between four true true
    ∷ mask_between four true false ∷ all_forms four ∷ [] ≡ 0x10 ∷ 0x20 ∷ 0x40 ∷ 0x80 ∷ 0xF0 ∷ []
between = refl

-- where a break changes a mask: between all that join, with four masks; with one for the last form alone, between the
-- first two of three it doesn't; with none nowhere
abbrev last_only : FormMasks
last_only = record no_forms { fina = 0x80 }

torn : map (λ masks. is_torn masks false false ∷ is_torn masks false true ∷ is_torn masks true false
    ∷ is_torn masks true true ∷ [])
    (four ∷ last_only ∷ no_forms ∷ []) ≡ (true ∷ true ∷ true ∷ true ∷ []) ∷ (true ∷ false ∷ true ∷ true ∷ [])
    ∷ (false ∷ false ∷ false ∷ false ∷ []) ∷ []
torn = refl

-- the stretches, over both syllables, and over none of kind 8
abbrev pairs_of : FormMasks → List ℕ → List (ℕ × ℕ)
pairs_of masks bytes = torn_pairs masks false 0 (syllables (map of_byte bytes))

pairs : pairs_of four (0x12 ∷ 0x12 ∷ 0x22 ∷ 0x38 ∷ 0x42 ∷ 0x52 ∷ 0x52 ∷ 0x62 ∷ []) ≡ (0, 3) ∷ (4, 7) ∷ (5, 8) ∷ []
pairs = refl

pairs_of_last : pairs_of last_only (0x12 ∷ 0x22 ∷ 0x32 ∷ []) ≡ (1, 3) ∷ []
pairs_of_last = refl

pair_of_none : pairs_of no_forms (0x12 ∷ 0x22 ∷ []) ∷ pairs_of four (0x12 ∷ 0x12 ∷ []) ∷ pairs_of four [] ∷ []
    ≡ [] ∷ [] ∷ [] ∷ []
pair_of_none = refl

-- the masks in a map: 0 where there is no feature, and where it holds for the whole text
abbrev feature : String → ℕ → feature_map_t
feature tag mask = record { tag = record { 0 = codes tag }; mask = mask; stage = 0 }

abbrev map_of : ℕ → List feature_map_t → Map
map_of global features =
    record { features = features; stages = []; lookups = []; global = global; chosen = None; found = true }

masks_of_map : form_masks (map_of 0x40 (feature "fina" 0x80 ∷ feature "isol" 0x10 ∷ feature "medi" 0x40 ∷ []))
    ≡ record { isol = 0x10; init = 0; medi = 0; fina = 0x80 }
masks_of_map = refl

-- the mask of rphf: on a reph alone, else on three at most
abbrev of_category : ℕ → Glyph
of_category category = record default_glyph { category = category; syllable = 0x12; mask = 8 }

rphf_masks : map (λ categories. map (λ g. g.mask) (with_rphf 0x100 (map of_category categories)))
    ((1 ∷ 1 ∷ 1 ∷ 1 ∷ []) ∷ (18 ∷ 1 ∷ 1 ∷ []) ∷ (1 ∷ 18 ∷ []) ∷ (1 ∷ []) ∷ (18 ∷ []) ∷ [] ∷ [])
    ≡ (0x108 ∷ 0x108 ∷ 0x108 ∷ 8 ∷ []) ∷ (0x108 ∷ 8 ∷ 8 ∷ []) ∷ (0x108 ∷ 0x108 ∷ []) ∷ (0x108 ∷ []) ∷ (0x108 ∷ []) ∷ []
    ∷ []
rphf_masks = refl

rphf_keeps : with_rphf 0x100 (full ∷ full ∷ full ∷ full ∷ []) ≡ record full { mask = 0x13F }
    ∷ record full { mask = 0x13F } ∷ record full { mask = 0x13F } ∷ full ∷ []
rphf_keeps = refl

rphf_on_ligature : with_rphf 0x100 (record full { category = 18 } ∷ full ∷ [])
    ≡ record full { category = 18; mask = 0x13F } ∷ full ∷ []
rphf_on_ligature = refl

-- the whole set-up, where letters join and where they don't
abbrev font : Map
font = map_of 1 (feature "rphf" 0x100 ∷ feature "isol" 0x10 ∷ feature "init" 0x20 ∷ feature "medi" 0x40
    ∷ feature "fina" 0x80 ∷ [])

abbrev script : String → Option Script
script tag = Some (record { 0 = codes tag })

abbrev at_cluster : ℕ → Glyph
at_cluster i = record default_glyph { cluster = i; category = 1 }

abbrev five : Buffer
five = record (new_buffer 9) { glyphs = map at_cluster (0 ∷ 1 ∷ 2 ∷ 3 ∷ 4 ∷ []) }

abbrev two_spans : List Span
two_spans = record { len = 4; kind = 2 } ∷ record { len = 1; kind = 7 } ∷ []

abbrev setup_masks : String → List (ℕ × ℕ)
setup_masks tag =
    map (λ g. (g.mask, g.syllable))
    (syllables_setup (Universal (universal_plan starts.AsCode breaks.AsCode (script tag) font)) font two_spans
    five).glyphs

setup : setup_masks "Bali" ≡ (0x120, 0x12) ∷ (0x123, 0x12) ∷ (0x123, 0x12) ∷ (0x23, 0x12) ∷ (0x180, 0x27) ∷ []
setup = refl

-- with Sound the pair too, where letters don't join
abbrev sound_masks : String → List (ℕ × ℕ)
sound_masks tag =
    let kept = Universal (universal_plan starts.AsCode breaks.Sound (script tag) font) in
    map (λ g. (g.mask, g.syllable))
    (with_forms_flagged breaks.Sound kept font (syllables_setup kept font two_spans five)).glyphs

sound_setup : sound_masks "Bali" ≡ (0x120, 0x12) ∷ (0x123, 0x12) ∷ (0x123, 0x12) ∷ (0x23, 0x12) ∷ (0x183, 0x27) ∷ []
sound_setup = refl

sound_joining : sound_masks "Mong" ≡ (0x100, 0x12) ∷ (0x103, 0x12) ∷ (0x103, 0x12) ∷ (3, 0x12) ∷ (0x100, 0x27) ∷ []
sound_joining = refl

setup_joining : setup_masks "Mong" ≡ (0x100, 0x12) ∷ (0x103, 0x12) ∷ (0x103, 0x12) ∷ (3, 0x12) ∷ (0x100, 0x27) ∷ []
setup_joining = refl

setup_broken : (syllables_setup (Universal (universal_plan starts.AsCode breaks.AsCode None font)) font two_spans
    five).broken ≡ true
setup_broken = refl

-- the same by the bytes that the text has, with other serials, and its mark that stays
abbrev by_bytes : String → List (ℕ × ℕ) → Buffer
by_bytes tag rows = setup_by_its_bytes (Universal (universal_plan starts.AsCode breaks.AsCode (script tag) font)) font
    (record (new_buffer 9)
    { glyphs = map (λ (row : ℕ × ℕ). record default_glyph { cluster = row.0; category = 1; syllable = row.1 }) rows })

abbrev masks_by_bytes : String → List (ℕ × ℕ) → List (ℕ × ℕ)
masks_by_bytes tag rows = map (λ g. (g.mask, g.syllable)) (by_bytes tag rows).glyphs

setup_of_bytes : masks_by_bytes "Bali" ((0, 0x52) ∷ (1, 0x52) ∷ (2, 0x52) ∷ (3, 0x52) ∷ (4, 0x27) ∷ [])
    ≡ (0x120, 0x52) ∷ (0x123, 0x52) ∷ (0x123, 0x52) ∷ (0x23, 0x52) ∷ (0x180, 0x27) ∷ []
setup_of_bytes = refl

setup_of_joining : map (λ g. g.mask) (by_bytes "Mong" ((3, 0x16) ∷ (3, 0x16) ∷ [])).glyphs ∷ []
    ≡ (0x100 ∷ 0x100 ∷ []) ∷ []
setup_of_joining = refl

-- the broken kind is 7
broken_by_bytes : map (λ byte. (by_bytes "Bali" ((0, byte) ∷ [])).broken) (0x17 ∷ 0x16 ∷ 0x18 ∷ 0x71 ∷ [])
    ≡ true ∷ false ∷ false ∷ false ∷ []
broken_by_bytes = refl

-- the records: four bases with the mask, the second put in by a lookup
abbrev of_row : ℕ × ℕ → Glyph
of_row row = record default_glyph { mask = row.0; glyph_props = record { 0 = row.1 }; syllable = 0x12; category = 1 }

abbrev recorded : Bool → List (ℕ × ℕ) → Buffer
recorded pref rows =
    let old : Buffer = record (new_buffer 9) { glyphs = map of_row rows } in
    if pref then with_pref_recorded old else with_rphf_recorded 0x100 old

abbrev categories : Buffer → List ℕ
categories b = map (λ g. g.category) b.glyphs

record_rphf : map (λ rows. categories (recorded false rows)) (((0x100, 0) ∷ (0x100, 0x10) ∷ (0x100, 0x10) ∷ (0, 0) ∷ [])
    ∷ ((0, 0) ∷ (0x100, 0x10) ∷ []) ∷ ((0x101, 0xFFFF) ∷ []) ∷ ((0x100, 0xFFEF) ∷ (0, 0x10) ∷ []) ∷ [])
    ≡ (1 ∷ 18 ∷ 1 ∷ 1 ∷ []) ∷ (1 ∷ 1 ∷ []) ∷ (18 ∷ []) ∷ (1 ∷ 1 ∷ []) ∷ []
record_rphf = refl

record_pref : map (λ rows. categories (recorded true rows)) (((0x100, 0) ∷ (0x100, 0x10) ∷ (0, 0x10) ∷ [])
    ∷ ((0, 0) ∷ (0, 0xFFEF) ∷ []) ∷ ((0, 0xFFFF) ∷ []) ∷ []) ≡ (1 ∷ 22 ∷ 1 ∷ []) ∷ (1 ∷ 1 ∷ []) ∷ (22 ∷ []) ∷ []
record_pref = refl

without_mask : with_rphf_recorded 0 (record (new_buffer 9) { glyphs = full ∷ full ∷ [] })
    ≡ record (new_buffer 9) { glyphs = full ∷ full ∷ [] }
without_mask = refl

each_syllable : with_pref_recorded
    (record (new_buffer 9) { glyphs = full ∷ full ∷ record full { syllable = 0x34 } ∷ [] })
    ≡ record (new_buffer 9) {
      glyphs = record full { category = 22 } ∷ full ∷ record full { syllable = 0x34; category = 22 } ∷ [];
    }
each_syllable = refl

record_keeps : rphf_recorded 0x20 (full ∷ full ∷ []) ≡ record full { category = 18 } ∷ full ∷ []
record_keeps = refl

-- the scripts whose letters join, and others
joining : map (λ tag. joins_letters (script tag)) ("Adlm" ∷ "Arab" ∷ "Chrs" ∷ "Rohg" ∷ "Mand" ∷ "Mani" ∷ "Mong" ∷ "Nkoo"
    ∷ "Ougr" ∷ "Phag" ∷ "Phlp" ∷ "Sogd" ∷ "Syrc" ∷ [])
    ≡ true ∷ true ∷ true ∷ true ∷ true ∷ true ∷ true ∷ true ∷ true ∷ true ∷ true ∷ true ∷ true ∷ []
joining = refl

not_joining : joins_letters None ∷ map (λ tag. joins_letters (script tag)) ("Bali" ∷ "Thai" ∷ "mong" ∷ "Sogo" ∷ "Syre"
    ∷ []) ≡ false ∷ false ∷ false ∷ false ∷ false ∷ false ∷ []
not_joining = refl

plans : universal_plan starts.AsCode breaks.AsCode (script "Mong") font
    ∷ universal_plan starts.AsCode breaks.AsCode (script "Bali") font ∷ universal_plan starts.AsCode breaks.AsCode None
    font ∷ [] ≡ record { rphf_mask = 0x100; arabic_plan = Some (arabic_plan starts.AsCode breaks.AsCode font) }
    ∷ record { rphf_mask = 0x100; arabic_plan = None } ∷ record { rphf_mask = 0x100; arabic_plan = None } ∷ []
plans = refl

-- the category of the character, and nothing else
category_keeps : categorized (λ c. c % 7) full ≡ record full { category = 0x916 % 7 }
category_keeps = refl

-- Mongolian: a letter, a selector, a letter; a selector that begins a text behind a letter takes no form
abbrev joins : ℕ → hb_arabic_joining_type_t
joins c = if c == 0x180B then T else D

abbrev mongolian : List ℕ → List ℕ → List ℕ
mongolian before cs =
    forms_of (script "Mong") (text_of joins (λ c. Lo)
    (record (new_buffer 9) {
      glyphs = map (λ c. categorized (λ d. 1) (record default_glyph { glyph_id = c; unicode_props = properties Lo 0 }))
          cs;
      before = before;
    }))

selectors : mongolian [] (0x1820 ∷ 0x180B ∷ 0x1820 ∷ []) ∷ mongolian (0x1820 ∷ []) (0x180B ∷ 0x1820 ∷ []) ∷ []
    ≡ (6 ∷ 6 ∷ 1 ∷ []) ∷ (7 ∷ 1 ∷ []) ∷ []
unfolding general_category
selectors = refl

-- a mask without what Sound flags by forms
flagless : flagless_for None breaks.AsCode 0xFF ∷ flagless_for None breaks.Sound 0xFF
    ∷ flagless_for (Some (arabic_plan starts.AsCode breaks.Sound font)) breaks.Sound 0xFF ∷ []
    ≡ 0xFF ∷ 0xF8 ∷ 0xFF ∷ []
flagless = refl

-- the choice of the code flags nothing; where clusters fall, Sound flags the first of two
abbrev two_falling : BreakFlags → List ℕ
two_falling choice = map (λ g. g.mask) (forms_flagged None choice font (record (of_byte 0x12) { cluster = 1 }
    ∷ of_byte 0x22 ∷ []))

falling : two_falling breaks.AsCode ∷ two_falling breaks.Sound ∷ [] ≡ (0 ∷ 0 ∷ []) ∷ (3 ∷ 0 ∷ []) ∷ []
falling = refl

-- a glyph without the masks of forms; with a plan of Arabic it stays
formless : (formless_for None (map_of 0x40 (feature "fina" 0x80 ∷ feature "isol" 0x10 ∷ feature "medi" 0x40 ∷ []))
    (record full { mask = 0xFFFFFFFF })).mask ≡ 0xFFFFFF6F
formless = refl
