-- Categories hide nothing from joining, and may be set before it or behind it.
use Rattle.std.proofs.Common.{arith}
use Rattle.std.proofs.Common.{◌≡◌, ◌∙◌, ℕ, List, [], ◌∷◌, Option, ap, map, refl, sym}
use Rattle.shapers_buffer.specs.Glyphs.{Glyphs}
use Rattle.shapers_buffer.specs.declared.buffer.category.hb_unicode_general_category_t.{hb_unicode_general_category_t}
use Rattle.shapers_buffer.specs.declared.buffer.flags.BufferFlags.{BufferFlags}
use Rattle.shapers_buffer.specs.declared.buffer.tag.Script.{Script}
use Rattle.shapers_base.specs.declared.plan.breaks.BreakFlags.{BreakFlags}
use Rattle.shapers_base.specs.declared.plan.joining.hb_arabic_joining_type_t.{hb_arabic_joining_type_t}
use Rattle.shapers_base.specs.Font.{CharacterTables}
use Rattle.shapers_buffer.specs.Buffer.{Buffer, flags_concat, flags_tatweel, has_flag}
use Rattle.shapers_buffer.specs.GlyphFlags.{flags_called}
use Rattle.shapers_arabic.specs.JoinedText.{Text, buffer_joined, flag_calls, forms_of, joined_glyphs, text_of, with_joining_forms}
use Rattle.shapers_clusters.proofs.ViewedFlags.{PassesFlags, flags_called-through}
use Rattle.shapers_universal.specs.Proved.UniversalLists.{mapped_twice}
use Rattle.shapers_universal.specs.UniversalMasks.{categorized, with_categories}

-- the text is the same
pub text_stays : (tables : CharacterTables) (joining : ℕ → hb_arabic_joining_type_t) (general : ℕ
    → hb_unicode_general_category_t) (b : Buffer) → text_of joining general (with_categories tables b)
    ≡ text_of joining general b
text_stays = search mapped_twice

formed_behind : (universal : ℕ → ℕ) (masks forms : List ℕ) (gs : Glyphs)
    → map (categorized universal) (with_joining_forms masks forms gs)
    ≡ with_joining_forms masks forms (map (categorized universal) gs)
formed_behind universal masks [] gs = refl
formed_behind universal masks (form ∷ forms) [] = refl
formed_behind universal masks (form ∷ forms) (g ∷ gs) = search (arith, formed_behind universal masks forms gs)

categories-pass : (universal : ℕ → ℕ) → PassesFlags (categorized universal)
categories-pass universal = record { cluster = λ g. refl; put = λ bits g. refl }

-- joined glyphs with categories are what joining makes of the glyphs with categories
pub joined_behind : (universal : ℕ → ℕ) (breaks : BreakFlags) (masks : List ℕ) (flags : BufferFlags)
    (script : Option Script) (text : Text) (gs : Glyphs)
    → map (categorized universal) (joined_glyphs breaks masks flags script text gs)
    ≡ joined_glyphs breaks masks flags script text (map (categorized universal) gs)
joined_behind universal breaks masks flags script text gs =
    let concat = has_flag flags_concat flags in
    let tatweel = has_flag flags_tatweel flags in
    let calls = flag_calls breaks script text in
    let forms = forms_of script text in
    flags_called-through (categorized universal) (categories-pass universal) concat tatweel calls
    (with_joining_forms masks forms gs)
    ∙ ap (flags_called concat tatweel calls) (formed_behind universal masks forms gs)

pub categories_behind : (tables : CharacterTables) (breaks : BreakFlags) (masks : List ℕ) (script : Option Script)
    (joining : ℕ → hb_arabic_joining_type_t) (general : ℕ → hb_unicode_general_category_t) (b : Buffer)
    → with_categories tables (buffer_joined breaks masks script joining general b)
    ≡ buffer_joined breaks masks script joining general (with_categories tables b)
categories_behind tables breaks masks script joining general b =
    let joined = joined_glyphs breaks masks b.flags script in
    ap (λ gs. let c : Buffer = record b { glyphs = gs } in c)
    (joined_behind tables.universal breaks masks b.flags script (text_of joining general b) b.glyphs)
    ∙ ap (λ text. let c : Buffer = record b { glyphs = joined text (map (categorized tables.universal) b.glyphs) } in c)
    (sym (text_stays tables joining general b))
