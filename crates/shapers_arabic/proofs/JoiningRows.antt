-- The joining rule, the selector rule and the table, computed on values written out from the rules.
use Rattle.std.specs.Prelude.{◌≡◌, ℕ, List, [], ◌∷◌, length, map, replicate, Option, None, Some, true, false, codes, slice_index_or, ◌==◌, if◌then◌else◌, refl}
use Rattle.shapers_buffer.specs.Buffer.{Buffer, new_buffer}
use Rattle.shapers_buffer.specs.Glyph.{default_glyph}
use Rattle.shapers_buffer.specs.Properties.{general_category, properties}
use Rattle.shapers_buffer.specs.declared.buffer.category.hb_unicode_general_category_t.{hb_unicode_general_category_t}
use Rattle.shapers_buffer.specs.declared.buffer.category.hb_unicode_general_category_t.TheVariants as gc
use Rattle.shapers_buffer.specs.Glyphs.{Glyph, Glyphs}
use Rattle.shapers_buffer.specs.declared.buffer.tag.Script.{Script}
use Rattle.shapers_base.specs.declared.plan.joining.hb_arabic_joining_type_t.{hb_arabic_joining_type_t}
use Rattle.shapers_base.specs.declared.plan.joining.hb_arabic_joining_type_t.TheVariants.{U, L, R, D, GroupAlaph, GroupDalathRish, T, X}
use Rattle.shapers_arabic.specs.declared.ot_shaper_arabic.arabic_action_t.TheConstants.{ISOL, FINA, FIN2, FIN3, MEDI, MED2, INIT, NONE, STRETCHING_FIXED, STRETCHING_REPEATING}
use Rattle.shapers_arabic.specs.declared.ot_shaper_arabic.joining.TheConstants.{STATE_TABLE}
use Rattle.shapers_arabic.specs.JoiningWalk.{row_of}
use Rattle.shapers_arabic.specs.Joining.{resolved, act, forms, is_selector}
use Rattle.shapers_arabic.specs.JoinedText.{Text, is_mongolian, forms_of, context_look_ups, look_ups, opening, text_of, first_of, second_of}

-- the numbers of the forms
numbers : ISOL ∷ FINA ∷ FIN2 ∷ FIN3 ∷ MEDI ∷ MED2 ∷ INIT ∷ NONE ∷ STRETCHING_FIXED ∷ STRETCHING_REPEATING ∷ []
    ≡ 0 ∷ 1 ∷ 2 ∷ 3 ∷ 4 ∷ 5 ∷ 6 ∷ 7 ∷ 8 ∷ 9 ∷ []
numbers = refl

-- X by the category, and no other type by it
all_categories : List hb_unicode_general_category_t
all_categories = gc.Cc ∷ gc.Cf ∷ gc.Cn ∷ gc.Co ∷ gc.Cs ∷ gc.Ll ∷ gc.Lm ∷ gc.Lo ∷ gc.Lt ∷ gc.Lu ∷ gc.Mc ∷ gc.Me ∷ gc.Mn
    ∷ gc.Nd ∷ gc.Nl ∷ gc.No ∷ gc.Pc ∷ gc.Pd ∷ gc.Pe ∷ gc.Pf ∷ gc.Pi ∷ gc.Po ∷ gc.Ps ∷ gc.Sc ∷ gc.Sk ∷ gc.Sm ∷ gc.So
    ∷ gc.Zl ∷ gc.Zp ∷ gc.Zs ∷ []

x_by_category : map (resolved X) all_categories ≡ U ∷ T ∷ U ∷ U ∷ U ∷ U ∷ U ∷ U ∷ U ∷ U ∷ U ∷ T ∷ T ∷ U ∷ U ∷ U ∷ U ∷ U
    ∷ U ∷ U ∷ U ∷ U ∷ U ∷ U ∷ U ∷ U ∷ U ∷ U ∷ U ∷ U ∷ []
unfolding all_categories
x_by_category = refl

others_of_marks : map (λ t. resolved t gc.Mn) (U ∷ L ∷ R ∷ D ∷ GroupAlaph ∷ GroupDalathRish ∷ T ∷ []) ≡ U ∷ L ∷ R ∷ D
    ∷ GroupAlaph ∷ GroupDalathRish ∷ T ∷ []
others_of_marks = refl

others_of_letters : map (λ t. resolved t gc.Lo) (U ∷ L ∷ R ∷ D ∷ GroupAlaph ∷ GroupDalathRish ∷ T ∷ []) ≡ U ∷ L ∷ R ∷ D
    ∷ GroupAlaph ∷ GroupDalathRish ∷ T ∷ []
others_of_letters = refl

-- the rule on all that can stand before a letter, for each type after it
befores : List (Option hb_arabic_joining_type_t)
befores = None ∷ Some U ∷ Some L ∷ Some R ∷ Some D ∷ Some GroupAlaph ∷ Some GroupDalathRish ∷ []

of_u : map (λ b. map (act b U) befores) befores ≡ replicate 7 (replicate 7 NONE)
unfolding befores
of_u = refl

of_t : map (λ b. map (act b T) befores) befores ≡ replicate 7 (replicate 7 NONE)
unfolding befores
of_t = refl

-- L joins on alone: initial before R, D, Alaph, Dalath and Rish
of_l : map (λ b. map (act b L) befores) befores ≡ replicate 7 (ISOL ∷ ISOL ∷ ISOL ∷ INIT ∷ INIT ∷ INIT ∷ INIT ∷ [])
unfolding befores
of_l = refl

-- R joins back alone: final after L and D
of_r : map (λ b. act b R None) befores ≡ ISOL ∷ ISOL ∷ FINA ∷ ISOL ∷ FINA ∷ ISOL ∷ ISOL ∷ []
unfolding befores
of_r = refl

of_r_before_d : map (λ b. act b R (Some D)) befores ≡ ISOL ∷ ISOL ∷ FINA ∷ ISOL ∷ FINA ∷ ISOL ∷ ISOL ∷ []
unfolding befores
of_r_before_d = refl

-- Dalath and Rish as R
of_rish : map (λ b. map (act b GroupDalathRish) befores) befores ≡ map (λ b. map (act b R) befores) befores
unfolding befores
of_rish = refl

-- D on both sides
of_d : map (λ b. act b D None) befores ≡ ISOL ∷ ISOL ∷ FINA ∷ ISOL ∷ FINA ∷ ISOL ∷ ISOL ∷ []
unfolding befores
of_d = refl

of_d_before_r : map (λ b. act b D (Some R)) befores ≡ INIT ∷ INIT ∷ MEDI ∷ INIT ∷ MEDI ∷ INIT ∷ INIT ∷ []
unfolding befores
of_d_before_r = refl

of_d_after_d : map (act (Some D) D) befores ≡ FINA ∷ FINA ∷ FINA ∷ MEDI ∷ MEDI ∷ MEDI ∷ MEDI ∷ []
unfolding befores
of_d_after_d = refl

-- Alaph by the letter before it, and before a letter that joins back
of_alaph : map (λ b. act b GroupAlaph None) befores ≡ ISOL ∷ ISOL ∷ FINA ∷ FIN2 ∷ FINA ∷ FIN2 ∷ FIN3 ∷ []
unfolding befores
of_alaph = refl

of_alaph_before_l : map (λ b. act b GroupAlaph (Some L)) befores ≡ ISOL ∷ ISOL ∷ FINA ∷ FIN2 ∷ FINA ∷ FIN2 ∷ FIN3 ∷ []
unfolding befores
of_alaph_before_l = refl

of_alaph_before_r : map (λ b. act b GroupAlaph (Some R)) befores ≡ ISOL ∷ ISOL ∷ MED2 ∷ ISOL ∷ MED2 ∷ ISOL ∷ ISOL ∷ []
unfolding befores
of_alaph_before_r = refl

of_alaph_before_alaph : map (λ b. act b GroupAlaph (Some GroupAlaph)) befores ≡ ISOL ∷ ISOL ∷ MED2 ∷ ISOL ∷ MED2 ∷ ISOL
    ∷ ISOL ∷ []
unfolding befores
of_alaph_before_alaph = refl

-- whole texts
d_t_r : forms [] (D ∷ T ∷ R ∷ []) [] ≡ INIT ∷ NONE ∷ FINA ∷ []
d_t_r = refl

d_d_d : forms [] (D ∷ D ∷ D ∷ []) [] ≡ INIT ∷ MEDI ∷ FINA ∷ []
d_d_d = refl

l_l : forms [] (L ∷ L ∷ []) [] ≡ ISOL ∷ ISOL ∷ []
l_l = refl

l_d_r : forms [] (L ∷ D ∷ R ∷ []) [] ≡ INIT ∷ MEDI ∷ FINA ∷ []
l_d_r = refl

rish_alaph_d : forms [] (GroupDalathRish ∷ GroupAlaph ∷ D ∷ []) [] ≡ ISOL ∷ ISOL ∷ ISOL ∷ []
rish_alaph_d = refl

rish_alaph : forms [] (GroupDalathRish ∷ GroupAlaph ∷ []) [] ≡ ISOL ∷ FIN3 ∷ []
rish_alaph = refl

three_alaphs : forms [] (GroupAlaph ∷ GroupAlaph ∷ GroupAlaph ∷ []) [] ≡ ISOL ∷ ISOL ∷ FIN2 ∷ []
three_alaphs = refl

d_alaph_r : forms [] (D ∷ GroupAlaph ∷ R ∷ []) [] ≡ INIT ∷ MED2 ∷ ISOL ∷ []
d_alaph_r = refl

r_alaph_d : forms [] (R ∷ GroupAlaph ∷ D ∷ []) [] ≡ ISOL ∷ ISOL ∷ ISOL ∷ []
r_alaph_d = refl

d_alaph_l : forms [] (D ∷ GroupAlaph ∷ L ∷ []) [] ≡ INIT ∷ FINA ∷ ISOL ∷ []
d_alaph_l = refl

-- contexts
d_before_d : forms [] (D ∷ []) (D ∷ []) ≡ INIT ∷ []
d_before_d = refl

d_after_d : forms (D ∷ []) (D ∷ []) [] ≡ FINA ∷ []
d_after_d = refl

d_d : forms [] (D ∷ D ∷ []) [] ≡ INIT ∷ FINA ∷ []
d_d = refl

over_six_marks : forms [] (D ∷ T ∷ T ∷ T ∷ T ∷ T ∷ T ∷ D ∷ []) [] ≡ INIT ∷ NONE ∷ NONE ∷ NONE ∷ NONE ∷ NONE ∷ NONE
    ∷ FINA ∷ []
over_six_marks = refl

five_marks_show_nothing : forms [] (D ∷ []) (T ∷ T ∷ T ∷ T ∷ T ∷ []) ≡ ISOL ∷ []
five_marks_show_nothing = refl

over_a_mark_before : forms (T ∷ D ∷ []) (D ∷ []) [] ≡ FINA ∷ []
over_a_mark_before = refl

u_before : forms (U ∷ D ∷ []) (D ∷ []) [] ≡ ISOL ∷ []
u_before = refl

-- how much of a context is looked up
seen_to_the_first_letter : map context_look_ups ([] ∷ (D ∷ R ∷ []) ∷ (T ∷ T ∷ D ∷ R ∷ []) ∷ (T ∷ T ∷ T ∷ T ∷ T ∷ [])
    ∷ (U ∷ D ∷ []) ∷ []) ≡ 0 ∷ 1 ∷ 3 ∷ 5 ∷ 1 ∷ []
seen_to_the_first_letter = refl

-- a made table: D for 1, X for 3, T for 180B, U for others; its own categories are Mn
abbrev joining_of : ℕ → hb_arabic_joining_type_t
joining_of c = if c == 1 then D else if c == 3 then X else if c == 0x180B then T else U

abbrev glyph : ℕ → hb_unicode_general_category_t → Glyph
glyph c category = record default_glyph { glyph_id = c; unicode_props = properties category 0 }

abbrev marks : ℕ → hb_unicode_general_category_t
marks c = gc.Mn

abbrev buffer_of : List ℕ → Glyphs → List ℕ → Buffer
buffer_of before gs after = let b : Buffer = record (new_buffer 9) { glyphs = gs; before = before; after = after } in b

-- X of a glyph by its stored category, X of a context by the table's
x_stored_mark : forms_of None
    (text_of joining_of marks (buffer_of [] (glyph 1 gc.Lo ∷ glyph 3 gc.Mn ∷ glyph 1 gc.Lo ∷ []) []))
    ≡ INIT ∷ NONE ∷ FINA ∷ []
unfolding general_category
x_stored_mark = refl

x_stored_letter : forms_of None
    (text_of joining_of marks (buffer_of [] (glyph 1 gc.Lo ∷ glyph 3 gc.Lo ∷ glyph 1 gc.Lo ∷ []) []))
    ≡ ISOL ∷ NONE ∷ ISOL ∷ []
unfolding general_category
x_stored_letter = refl

x_in_context : forms_of None (text_of joining_of marks (buffer_of (3 ∷ 1 ∷ []) (glyph 1 gc.Lo ∷ []) (3 ∷ 3 ∷ 1 ∷ [])))
    ≡ MEDI ∷ []
x_in_context = refl

looked_up : look_ups
    (text_of joining_of marks (buffer_of (3 ∷ 1 ∷ 1 ∷ []) (glyph 1 gc.Lo ∷ glyph 3 gc.Mn ∷ []) (3 ∷ 3 ∷ 1 ∷ 1 ∷ [])))
    ≡ 7
looked_up = refl

-- Mongolian
mongolian : map (λ tag. is_mongolian (Some (record { 0 = codes tag }))) ("Mong" ∷ "Arab" ∷ "mong" ∷ [])
    ≡ true ∷ false ∷ false ∷ []
mongolian = refl

no_script : is_mongolian None ≡ false
no_script = refl

abbrev mong : Option Script
mong = Some (record { 0 = codes "Mong" })

the_selectors : map is_selector (0x180A ∷ 0x180B ∷ 0x180C ∷ 0x180D ∷ 0x180E ∷ 0x180F ∷ 0x1810 ∷ [])
    ≡ false ∷ true ∷ true ∷ true ∷ false ∷ true ∷ false ∷ []
the_selectors = refl

abbrev plain_text : List ℕ → List hb_arabic_joining_type_t → List hb_arabic_joining_type_t
    → List hb_arabic_joining_type_t → Text
plain_text cs before types after = record { before = before; characters = cs; types = types; after = after }

selector_after_d : forms_of mong (plain_text (1 ∷ 0x180B ∷ 1 ∷ []) [] (D ∷ T ∷ D ∷ []) []) ≡ INIT ∷ INIT ∷ FINA ∷ []
selector_after_d = refl

selector_of_another_script : forms_of None (plain_text (1 ∷ 0x180B ∷ 1 ∷ []) [] (D ∷ T ∷ D ∷ []) [])
    ≡ INIT ∷ NONE ∷ FINA ∷ []
selector_of_another_script = refl

selector_at_the_start : forms_of mong (plain_text (0x180B ∷ 1 ∷ []) (D ∷ []) (T ∷ D ∷ []) []) ≡ NONE ∷ FINA ∷ []
selector_at_the_start = refl

selectors_in_a_row : forms_of mong (plain_text (1 ∷ 0x180B ∷ 0x180F ∷ 0x180D ∷ 1 ∷ []) [] (D ∷ T ∷ T ∷ T ∷ D ∷ []) [])
    ≡ INIT ∷ INIT ∷ INIT ∷ INIT ∷ FINA ∷ []
selectors_in_a_row = refl

-- selectors that begin a text have the form of its first place, also where that is a letter by its type
opening_selectors : forms_of mong (plain_text (0x180B ∷ 0x180C ∷ 1 ∷ []) [] (D ∷ T ∷ D ∷ []) []) ≡ INIT ∷ INIT ∷ FINA
    ∷ []
opening_selectors = refl

how_many_open : map (opening mong) ((0x180B ∷ 0x180C ∷ 1 ∷ 0x180B ∷ []) ∷ (1 ∷ 0x180B ∷ []) ∷ []) ≡ 2 ∷ 0 ∷ []
how_many_open = refl

none_open : opening None (0x180B ∷ []) ≡ 0
none_open = refl

-- copied contexts: five characters, nearest first
copied : let b =
    buffer_of (8 ∷ []) (map (λ c. glyph c gc.Lo) (1 ∷ 2 ∷ 3 ∷ 4 ∷ 5 ∷ 6 ∷ 7 ∷ [])) (9 ∷ []) in (second_of 6 b).before
    ≡ 6 ∷ 5 ∷ 4 ∷ 3 ∷ 2 ∷ []
copied = refl

copied_after : let b =
    buffer_of (8 ∷ []) (map (λ c. glyph c gc.Lo) (1 ∷ 2 ∷ 3 ∷ 4 ∷ [])) (9 ∷ 10 ∷ 11 ∷ []) in (first_of 1 b).after
    ≡ 2 ∷ 3 ∷ 4 ∷ 9 ∷ 10 ∷ []
copied_after = refl

-- the table, row by row: what each letter gives the one before, its own form, and the state behind it
row : ℕ → List (List ℕ)
row s = map (λ t. t.0 ∷ t.1 ∷ row_of t.2 ∷ []) (slice_index_or STATE_TABLE s [])

after_u : row 0 ≡ (7 ∷ 7 ∷ 0 ∷ []) ∷ (7 ∷ 0 ∷ 2 ∷ []) ∷ (7 ∷ 0 ∷ 1 ∷ []) ∷ (7 ∷ 0 ∷ 2 ∷ []) ∷ (7 ∷ 0 ∷ 1 ∷ [])
    ∷ (7 ∷ 0 ∷ 6 ∷ []) ∷ []
unfolding row
after_u = refl

after_r : row 1 ≡ (7 ∷ 7 ∷ 0 ∷ []) ∷ (7 ∷ 0 ∷ 2 ∷ []) ∷ (7 ∷ 0 ∷ 1 ∷ []) ∷ (7 ∷ 0 ∷ 2 ∷ []) ∷ (7 ∷ 2 ∷ 5 ∷ [])
    ∷ (7 ∷ 0 ∷ 6 ∷ []) ∷ []
unfolding row
after_r = refl

after_l : row 2 ≡ (7 ∷ 7 ∷ 0 ∷ []) ∷ (7 ∷ 0 ∷ 2 ∷ []) ∷ (6 ∷ 1 ∷ 1 ∷ []) ∷ (6 ∷ 1 ∷ 3 ∷ []) ∷ (6 ∷ 1 ∷ 4 ∷ [])
    ∷ (6 ∷ 1 ∷ 6 ∷ []) ∷ []
unfolding row
after_l = refl

after_joined_d : row 3 ≡ (7 ∷ 7 ∷ 0 ∷ []) ∷ (7 ∷ 0 ∷ 2 ∷ []) ∷ (4 ∷ 1 ∷ 1 ∷ []) ∷ (4 ∷ 1 ∷ 3 ∷ []) ∷ (4 ∷ 1 ∷ 4 ∷ [])
    ∷ (4 ∷ 1 ∷ 6 ∷ []) ∷ []
unfolding row
after_joined_d = refl

after_joined_alaph : row 4 ≡ (7 ∷ 7 ∷ 0 ∷ []) ∷ (7 ∷ 0 ∷ 2 ∷ []) ∷ (5 ∷ 0 ∷ 1 ∷ []) ∷ (5 ∷ 0 ∷ 2 ∷ [])
    ∷ (5 ∷ 2 ∷ 5 ∷ []) ∷ (5 ∷ 0 ∷ 6 ∷ []) ∷ []
unfolding row
after_joined_alaph = refl

after_other_alaph : row 5 ≡ (7 ∷ 7 ∷ 0 ∷ []) ∷ (7 ∷ 0 ∷ 2 ∷ []) ∷ (0 ∷ 0 ∷ 1 ∷ []) ∷ (0 ∷ 0 ∷ 2 ∷ []) ∷ (0 ∷ 2 ∷ 5 ∷ [])
    ∷ (0 ∷ 0 ∷ 6 ∷ []) ∷ []
unfolding row
after_other_alaph = refl

after_rish : row 6 ≡ (7 ∷ 7 ∷ 0 ∷ []) ∷ (7 ∷ 0 ∷ 2 ∷ []) ∷ (7 ∷ 0 ∷ 1 ∷ []) ∷ (7 ∷ 0 ∷ 2 ∷ []) ∷ (7 ∷ 3 ∷ 5 ∷ [])
    ∷ (7 ∷ 0 ∷ 6 ∷ []) ∷ []
unfolding row
after_rish = refl

seven_rows : length STATE_TABLE ≡ 7
seven_rows = refl
