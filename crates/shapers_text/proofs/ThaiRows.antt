-- The definitions, computed on small texts.
use Prim.Native.String.{String}
use Rattle.std.specs.Prelude.{◌≡◌, ◌==◌, ℕ, pos, true, false, None, Some, List, [], ◌∷◌, map, replicate, codes, refl}
use Rattle.std.proofs.Common.{arith}
use Rattle.std.specs.List.{list_any, enumerate_from}
use Rattle.shapers_buffer.specs.declared.buffer.category.hb_unicode_general_category_t.TheVariants.{Cc, Mn}
use Rattle.shapers_buffer.specs.Glyphs.{Glyph, Glyphs}
use Rattle.shapers_buffer.specs.declared.buffer.level.BufferClusterLevel.{BufferClusterLevel}
use Rattle.shapers_buffer.specs.declared.buffer.level.BufferClusterLevel.TheVariants.{MonotoneGraphemes, MonotoneCharacters}
use Rattle.shapers_buffer.specs.Glyph.{default_glyph, clusters, characters}
use Rattle.shapers_text.specs.Thai.{sara_am_sources, sara_am_stretches}
use Rattle.shapers_buffer.specs.Buffer.{new_buffer}
use Rattle.shapers_buffer.specs.Properties.{general_category, is_continuation, modified_combining_class}
use Rattle.shapers_base.specs.Font.{Font}
use Rattle.shapers_base.specs.declared.plan.hb_ot_shape_plan_t.{hb_ot_shape_plan_t}
use Rattle.shapers_base.specs.declared.plan.PlanData.TheVariants as data_of
use Rattle.shapers_base.specs.declared.plan.arabic.StretchStart.TheVariants as starts
use Rattle.shapers_base.specs.declared.plan.breaks.BreakFlags.TheVariants as breaks
use Rattle.shapers_base.specs.declared.plan.indic.BaseSearch.TheVariants.{WithoutMedials}
use Rattle.shapers_base.specs.declared.plan.indic.ZeroContext.TheVariants.{OldSpec}
use Rattle.shapers_text.specs.ThaiForms.{preprocessed_in_thai, preprocessed_text}
use Rattle.shapers_text.specs.ThaiLaws.{kept_view, new_place, without_name}

-- a text whose clusters count from 0
abbrev text : List ℕ → Glyphs
text us = map (λ p. let g : Glyph = record default_glyph { glyph_id = p.1; cluster = p.0 } in g) (enumerate_from 0 us)

-- the hook where GSUB has the script, and where it hasn't and the font has these characters
abbrev found : BufferClusterLevel → List ℕ → Glyphs
found level us = preprocessed_text false (λ c. false) level (text us)

abbrev shaped : List ℕ → List ℕ → Glyphs
shaped font us = preprocessed_text true (λ c. list_any (λ f. f == c) font) MonotoneGraphemes (text us)

abbrev masks : Glyphs → List ℕ
masks gs = map (λ g. g.mask) gs

-- NIKHAHIT goes before the mark
tone : characters (found MonotoneGraphemes (0x0E14 ∷ 0x0E4B ∷ 0x0E33 ∷ [])) ≡ 0x0E14 ∷ 0x0E4D ∷ 0x0E4B ∷ 0x0E32 ∷ []
tone = refl

tone-clusters : clusters (found MonotoneGraphemes (0x0E14 ∷ 0x0E4B ∷ 0x0E33 ∷ [])) ≡ 0 ∷ 1 ∷ 1 ∷ 1 ∷ []
tone-clusters = refl

tone-sources : sara_am_sources (0x0E14 ∷ 0x0E4B ∷ 0x0E33 ∷ []) ≡ 0 ∷ 2 ∷ 1 ∷ 2 ∷ []
tone-sources = refl

-- behind the consonant
tone-new_place : new_place (0x0E14 ∷ 0x0E4B ∷ []) ≡ 1
tone-new_place = refl

-- only NIKHAHIT is made a mark and a continuation
made-marks : map (λ g. is_continuation g.unicode_props) (found MonotoneGraphemes (0x0E14 ∷ 0x0E4B ∷ 0x0E33 ∷ []))
    ≡ false ∷ true ∷ false ∷ false ∷ []
unfolding modified_combining_class general_category
made-marks = refl

made-categories : map (λ g. general_category g.unicode_props)
    (found MonotoneGraphemes (0x0E14 ∷ 0x0E4B ∷ 0x0E33 ∷ [])) ≡ Cc ∷ Mn ∷ Cc ∷ Cc ∷ []
unfolding modified_combining_class general_category
made-categories = refl

-- before two marks
two_marks : characters (found MonotoneGraphemes (0x0E14 ∷ 0x0E34 ∷ 0x0E48 ∷ 0x0E33 ∷ [])) ≡ 0x0E14 ∷ 0x0E4D ∷ 0x0E34
    ∷ 0x0E48 ∷ 0x0E32 ∷ []
two_marks = refl

two_marks-clusters : clusters (found MonotoneGraphemes (0x0E14 ∷ 0x0E34 ∷ 0x0E48 ∷ 0x0E33 ∷ [])) ≡ 0 ∷ 1 ∷ 1 ∷ 1 ∷ 1
    ∷ []
two_marks-clusters = refl

-- one after another; without marks a SARA AM joins the glyph before it at level MonotoneGraphemes alone
twice : characters (found MonotoneGraphemes (0x0E33 ∷ 0x0E33 ∷ [])) ≡ 0x0E4D ∷ 0x0E32 ∷ 0x0E4D ∷ 0x0E32 ∷ []
twice = refl

twice-clusters : clusters (found MonotoneGraphemes (0x0E33 ∷ 0x0E33 ∷ [])) ≡ 0 ∷ 0 ∷ 0 ∷ 0 ∷ []
twice-clusters = refl

twice-apart : clusters (found MonotoneCharacters (0x0E33 ∷ 0x0E33 ∷ [])) ≡ 0 ∷ 0 ∷ 1 ∷ 1 ∷ []
twice-apart = refl

twice-stretches : sara_am_stretches MonotoneGraphemes (0x0E33 ∷ 0x0E33 ∷ []) ≡ (0, 2) ∷ []
twice-stretches = refl

-- Lao
lao : characters (found MonotoneGraphemes (0x0E81 ∷ 0x0EC8 ∷ 0x0EB3 ∷ [])) ≡ 0x0E81 ∷ 0x0ECD ∷ 0x0EC8 ∷ 0x0EB2 ∷ []
lao = refl

lao-clusters : clusters (found MonotoneGraphemes (0x0E81 ∷ 0x0EC8 ∷ 0x0EB3 ∷ [])) ≡ 0 ∷ 1 ∷ 1 ∷ 1 ∷ []
lao-clusters = refl

-- a base gives up its descender, and a mark on an ascender goes left
descender : characters (shaped (0xF70F ∷ []) (0x0E0D ∷ 0x0E38 ∷ [])) ≡ 0xF70F ∷ 0x0E38 ∷ []
descender = refl

left : characters (shaped (0xF701 ∷ []) (0x0E1B ∷ 0x0E34 ∷ [])) ≡ 0x0E1B ∷ 0xF701 ∷ []
left = refl

-- the second mark on an ascender goes left too
left_twice : characters (shaped (0xF701 ∷ 0xF713 ∷ []) (0x0E1B ∷ 0x0E34 ∷ 0x0E48 ∷ [])) ≡ 0x0E1B ∷ 0xF701 ∷ 0xF713 ∷ []
left_twice = refl

-- a base's type is that of its character before its form
descender_and_tone : characters (shaped (0xF70F ∷ 0xF70A ∷ []) (0x0E0D ∷ 0x0E38 ∷ 0x0E48 ∷ [])) ≡ 0xF70F ∷ 0x0E38
    ∷ 0xF70A ∷ []
descender_and_tone = refl

-- the second form where the font hasn't the first; the first where it has both
second_form : characters (shaped (0xF89A ∷ []) (0x0E0D ∷ 0x0E38 ∷ [])) ≡ 0xF89A ∷ 0x0E38 ∷ []
second_form = refl

first_of_both : characters (shaped (0xF89A ∷ 0xF70F ∷ []) (0x0E0D ∷ 0x0E38 ∷ [])) ≡ 0xF70F ∷ 0x0E38 ∷ []
first_of_both = refl

-- a mark without a base; a second vowel below
alone : characters (shaped (0xF718 ∷ []) (0x0E38 ∷ [])) ≡ 0xF718 ∷ []
alone = refl

below_twice : characters (shaped (0xF70F ∷ 0xF719 ∷ []) (0x0E0D ∷ 0x0E38 ∷ 0x0E39 ∷ [])) ≡ 0xF70F ∷ 0x0E38 ∷ 0xF719 ∷ []
below_twice = refl

-- after a SARA AM in two
after_sara_am : characters (shaped (0xF711 ∷ []) (0x0E1B ∷ 0x0E33 ∷ [])) ≡ 0x0E1B ∷ 0xF711 ∷ 0x0E32 ∷ []
after_sara_am = refl

-- a mark of no type is the base
no_type : characters (shaped (0xF70F ∷ 0xF718 ∷ []) (0x0E0D ∷ 0x0ECD ∷ 0x0E38 ∷ [])) ≡ 0x0E0D ∷ 0x0ECD ∷ 0xF718 ∷ []
no_type = refl

-- two bases, each with three marks
two_bases : characters
    (shaped (0xF70F ∷ 0xF70A ∷ 0xF705 ∷ 0xF713 ∷ 0xF718 ∷ []) (0x0E0D ∷ 0x0E38 ∷ 0x0E48 ∷ 0x0E48 ∷ 0x0E1B ∷ 0x0E38
    ∷ 0x0E48 ∷ 0x0E48 ∷ [])) ≡ 0xF70F ∷ 0x0E38 ∷ 0xF70A ∷ 0x0E48 ∷ 0x0E1B ∷ 0x0E38 ∷ 0xF705 ∷ 0xF713 ∷ []
two_bases = refl

-- a break between a base and its marks is unsafe, whether a form is found or not
flags : masks (shaped [] (0x0E14 ∷ 0x0E38 ∷ 0x0E48 ∷ [])) ≡ 0 ∷ 3 ∷ 0 ∷ []
flags = refl

-- a glyph whose fields are all set: without what the rewriting changes, and as it is kept where
-- forms don't follow and where they do
abbrev full : Glyph
full = record {
  glyph_id = 0x916;
  cluster = 5;
  mask = 0x1F;
  syllable = 0x24;
  category = 1;
  auxiliary = 3;
  glyph_props = record { 0 = 0x70 };
  lig_props = record { 0 = 2 };
  unicode_props = record { 0 = 0x09AC };
}

abbrev named : ℕ → Glyph
named c = record full { glyph_id = c }

hidden_names : map (λ c. without_name (named c)) (0x0E32 ∷ 0x0E33 ∷ 0x0E4D ∷ 0x0EB2 ∷ 0x0EB3 ∷ 0x0ECD ∷ [])
    ≡ replicate 6 (record full { glyph_id = 0; unicode_props = record { 0 = 0x0920 } })
unfolding modified_combining_class general_category
hidden_names = refl

shown_names : map (λ c. without_name (named c)) (0x0E31 ∷ 0x0E34 ∷ 0x0E4C ∷ 0x0E4E ∷ 0x0EB1 ∷ 0x0EB4 ∷ 0x0ECC ∷ 0x0ECE
    ∷ 0x0E48 ∷ 0x0916 ∷ 0 ∷ []) ≡ map named (0x0E31 ∷ 0x0E34 ∷ 0x0E4C ∷ 0x0E4E ∷ 0x0EB1 ∷ 0x0EB4 ∷ 0x0ECC ∷ 0x0ECE
    ∷ 0x0E48 ∷ 0x0916 ∷ 0 ∷ [])
shown_names = refl

kept : kept_view false full ≡ record full { cluster = 0; mask = 0x18 }
kept = refl

kept_before_forms : kept_view true full ≡ record full { glyph_id = 0; cluster = 0; mask = 0x18 }
kept_before_forms = refl

-- so the two tell glyphs apart by any field that stays, and the last doesn't by the character
told_by_number : kept_view false full ≡ kept_view false (record full { glyph_id = 0x915 }) → ⊥
told_by_number = search arith

not_told_by_number : kept_view true full ≡ kept_view true (record full { glyph_id = 0x915 })
not_told_by_number = refl

told_by_mask : kept_view true full ≡ kept_view true (record full { mask = 0x27 }) → ⊥
told_by_mask = search arith

told_by_class : without_name full ≡ without_name (record full { unicode_props = record { 0 = 0x08AC } }) → ⊥
told_by_class = search arith

-- the forms hang on the script of the plan, not on that of the buffer
abbrev plan_for : String → hb_ot_shape_plan_t
plan_for tag = record {
  script = Some (record { 0 = codes tag });
  ot_map = record {
    features = [];
    stages = [];
    lookups =
        [];
    global = 0;
    chosen = None;
    found = false;
  };
  has_gpos_mark = false;
  stretch_start = starts.AsCode;
  break_flags =
      breaks.AsCode;
  base_search = WithoutMedials;
  zero_context = OldSpec;
  plan_data = data_of.None;
}

abbrev every : Font
every = record {
  nominal = λ c. Some (record { 0 = 1 });
  advance = λ g. pos 0;
  applies = λ lookup glyphs zero. false;
  offers = λ tag. false;
}

abbrev rewritten : String → String → List ℕ
rewritten planned written =
    characters (preprocessed_in_thai (plan_for planned) every
    (record (new_buffer 9) {
      glyphs = text (0x0E1B ∷ 0x0E34 ∷ []);
      script = Some (record { 0 = codes written });
    })).glyphs

forms_by_plan : rewritten "Thai" "Laoo" ∷ rewritten "Laoo" "Thai" ∷ []
    ≡ (0x0E1B ∷ 0xF701 ∷ []) ∷ (0x0E1B ∷ 0x0E34 ∷ []) ∷ []
forms_by_plan = refl
