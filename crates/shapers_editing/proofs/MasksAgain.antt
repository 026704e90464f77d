-- Setting masks a second time changes nothing.
use Rattle.std.proofs.Common.{◌≡◌, ℕ, ◌∙◌, Bool, List, [], ◌∷◌, length, map, Option, None, Some, refl, sym, ap, arith}
use Rattle.std.specs.Prelude.{slice_index}
use Rattle.shapers_buffer.specs.Buffer.{Buffer, flags_concat, flags_tatweel, has_flag}
use Rattle.shapers_buffer.specs.Glyph.{clusters}
use Rattle.shapers_buffer.specs.Properties.{general_category}
use Rattle.shapers_buffer.specs.GlyphFlags.{flags_called, with_bits}
use Rattle.shapers_buffer.specs.declared.buffer.category.hb_unicode_general_category_t.{hb_unicode_general_category_t}
use Rattle.shapers_buffer.specs.declared.buffer.flags.BufferFlags.{BufferFlags}
use Rattle.shapers_buffer.specs.Glyphs.{Glyph, Glyphs}
use Rattle.shapers_buffer.specs.declared.buffer.tag.Script.{Script}
use Rattle.shapers_buffer.proofs.MaskBits.{or_swap, or_twice}
use Rattle.shapers_base.specs.Font.{CharacterTables}
use Rattle.shapers_base.specs.declared.plan.arabic.arabic_shape_plan_t.{arabic_shape_plan_t}
use Rattle.shapers_base.specs.declared.plan.breaks.BreakFlags.{BreakFlags}
use Rattle.shapers_base.specs.declared.plan.joining.hb_arabic_joining_type_t.{hb_arabic_joining_type_t}
use Rattle.shapers_clusters.proofs.FlagCalls.{map-flags_called}
use Rattle.shapers_arabic.specs.Joining.{resolved}
use Rattle.shapers_arabic.specs.JoinedText.{Text, buffer_joined, context_types, flag_calls, forms_of, joined_glyphs, stored_types, text_of, with_form, with_joining_forms}
use Rattle.shapers_arabic.proofs.BrokenGlyphs.{types_long}
use Rattle.shapers_arabic.proofs.FormedParts.{text_by}
use Rattle.shapers_arabic.proofs.JoiningLaws.{length-forms_of, text_long}
use Rattle.shapers_arabic.proofs.SoundOrder.{calls-in_order}
use Rattle.shapers_universal.specs.UniversalMasks.{MasksAreSet, categorized, with_categories}
use Rattle.shapers_universal.proofs.MaskLemmas.{joined_behind}
use Rattle.shapers_arabic.specs.PlanData.{breaks_of, masks_of}
use Rattle.shapers_universal.specs.PlanData.{arabic_of}
use Rattle.rustybuzz_shapers.specs.Again.{MasksOnce}
use Rattle.rustybuzz_shapers.specs.declared.shaper.hb_ot_shaper_t.TheVariants.{Arabic, Hangul, Hebrew, Indic, Khmer, Myanmar, MyanmarZawgyi, Thai, Universal}
use Rattle.shapers_editing.specs.MasksAgain.{MasksSetOnce}
use Rattle.shapers_editing.proofs.AddedBits.{ors, flags-pass, flags-twice}

abbrev flags_called_by : Bool → Bool → BreakFlags → Option Script → Text → Glyphs → Glyphs
flags_called_by concat tatweel breaks script text = flags_called concat tatweel (flag_calls breaks script text)

-- glyphs in their forms
formed-ors : (masks fs ns : List ℕ) (gs : Glyphs) → with_joining_forms masks fs (ors ns gs) ≡ ors ns
    (with_joining_forms masks fs gs)
formed-ors masks fs [] gs = refl
formed-ors masks [] (n ∷ ns) [] = refl
formed-ors masks [] (n ∷ ns) (g ∷ gs) = refl
formed-ors masks (f ∷ fs) (n ∷ ns) [] = refl
formed-ors masks (f ∷ fs) (n ∷ ns) (g ∷ gs) =
    ap (λ (k : ℕ). let h : Glyph = record g { auxiliary = f; mask = k } in h ∷ with_joining_forms masks fs
    (ors ns gs)) (or_swap g.mask (slice_index masks f) n)
    ∙ ap (λ hs. with_bits n (with_form masks f g) ∷ hs) (formed-ors masks fs ns gs)

formed-twice : (masks fs : List ℕ) (gs : Glyphs) → with_joining_forms masks fs
    (with_joining_forms masks fs gs) ≡ with_joining_forms masks fs gs
formed-twice masks [] gs = refl
formed-twice masks (f ∷ fs) [] = refl
formed-twice masks (f ∷ fs) (g ∷ gs) =
    ap (λ (k : ℕ). let h : Glyph = record g { auxiliary = f; mask = k } in h ∷ with_joining_forms masks fs
    (with_joining_forms masks fs gs)) (or_twice g.mask (slice_index masks f))
    ∙ ap (λ hs. with_form masks f g ∷ hs) (formed-twice masks fs gs)

map-formed : {Y : Type 0} (see : Glyph → Y) →
    ((g : Glyph) (form mask : ℕ) → see (record g { auxiliary = form; mask = mask }) ≡ see g) →
    (masks fs : List ℕ) (gs : Glyphs) → length fs ≡ length gs → map see (with_joining_forms masks fs gs)
    ≡ map see gs
map-formed see same masks [] [] e = refl
map-formed see same masks [] (g ∷ gs) e = absurd (omega arith)
map-formed see same masks (f ∷ fs) [] e = absurd (omega arith)
map-formed see same masks (f ∷ fs) (g ∷ gs) e =
    ap (λ y. y ∷ map see (with_joining_forms masks fs gs)) (same g f _) ∙ ap (λ ys. see g ∷ ys)
    (map-formed see same masks fs gs (omega arith))

-- with the same text
joined-twice : (breaks : BreakFlags) (masks : List ℕ) (flags : BufferFlags) (script : Option Script) (text : Text)
    (gs : Glyphs) → length (forms_of script text) ≡ length gs
    → joined_glyphs breaks masks flags script text (joined_glyphs breaks masks flags script text gs)
    ≡ joined_glyphs breaks masks flags script text gs
joined-twice breaks masks flags script text gs long =
    let concat = has_flag flags_concat flags in
    let tatweel = has_flag flags_tatweel flags in
    let calls = flag_calls breaks script text in
    let fs = forms_of script text in
    let ordered = calls-in_order breaks script text in
    let once = with_joining_forms masks fs gs in
    let same : clusters (with_joining_forms masks fs once) ≡ clusters once = ap clusters (formed-twice masks fs gs) in
    ap (flags_called_by concat tatweel breaks script text)
    (flags-pass concat tatweel (with_joining_forms masks fs) (formed-ors masks fs) calls once ordered same ∙ ap
    (flags_called_by concat tatweel breaks script text) (formed-twice masks fs gs))
    ∙ flags-twice concat tatweel calls once ordered

-- the text stays
text-stays : (breaks : BreakFlags) (masks : List ℕ) (script : Option Script) (joining : ℕ → hb_arabic_joining_type_t)
    (general : ℕ → hb_unicode_general_category_t) (b : Buffer) → text_of joining general
    (buffer_joined breaks masks script joining general b) ≡ text_of joining general b
text-stays breaks masks script joining general b =
    let text = text_of joining general b in
    let fs = forms_of script text in
    let long : length fs ≡ length b.glyphs = length-forms_of script text (text_long joining general b)
    ∙ types_long joining b.glyphs in
    let type_of = λ (g : Glyph). resolved (joining g.glyph_id) (general_category g.unicode_props) in
    let before = context_types joining general b.before in
    let after = context_types joining general b.after in
    let characters : map (λ g. g.glyph_id) (joined_glyphs breaks masks b.flags script text b.glyphs) ≡ map
    (λ g. g.glyph_id) b.glyphs =
    map-flags_called (λ g. g.glyph_id) (λ bits g low. refl) (has_flag flags_concat b.flags)
    (has_flag flags_tatweel b.flags) (flag_calls breaks script text) (with_joining_forms masks fs b.glyphs)
    (calls-in_order breaks script text)
    ∙ map-formed (λ g. g.glyph_id) (λ g form mask. refl) masks fs b.glyphs long in
    let types : stored_types joining (joined_glyphs breaks masks b.flags script text b.glyphs)
    ≡ stored_types joining b.glyphs =
    map-flags_called type_of (λ bits g low. refl) (has_flag flags_concat b.flags) (has_flag flags_tatweel b.flags)
    (flag_calls breaks script text) (with_joining_forms masks fs b.glyphs) (calls-in_order breaks script text)
    ∙ map-formed type_of (λ g form mask. refl) masks fs b.glyphs long in
    ap (λ cs. text_by before cs (stored_types joining
    (joined_glyphs breaks masks b.flags script text b.glyphs)) after) characters
    ∙ ap (λ ts. text_by before (map (λ g. g.glyph_id) b.glyphs) ts after) types

-- so joining a second time changes nothing
joined-once : (breaks : BreakFlags) (masks : List ℕ) (script : Option Script) (joining : ℕ → hb_arabic_joining_type_t)
    (general : ℕ → hb_unicode_general_category_t) (b : Buffer) →
    let after = buffer_joined breaks masks script joining general in after (after b) ≡ after b
joined-once breaks masks script joining general b =
    let text = text_of joining general b in
    let once = buffer_joined breaks masks script joining general b in
    let long : length (forms_of script text) ≡ length b.glyphs = length-forms_of script text
    (text_long joining general b) ∙ types_long joining b.glyphs in
    ap (λ (t : Text). let c : Buffer = record b { glyphs = joined_glyphs breaks masks b.flags script t once.glyphs }
    in c) (text-stays breaks masks script joining general b)
    ∙ ap (λ (gs : Glyphs). let c : Buffer = record b { glyphs = gs } in c)
    (joined-twice breaks masks b.flags script text b.glyphs long)

pub joined-again : (breaks : BreakFlags) (masks : List ℕ) (script : Option Script)
    (joining : ℕ → hb_arabic_joining_type_t) (general : ℕ → hb_unicode_general_category_t) (old mid new : Buffer) → mid
    ≡ buffer_joined breaks masks script joining general old → new
    ≡ buffer_joined breaks masks script joining general mid → new ≡ mid
joined-again breaks masks script joining general old mid new first second =
    let after = buffer_joined breaks masks script joining general in
    second ∙ ap after first ∙ joined-once breaks masks script joining general old ∙ sym first

-- categories
category-twice : (f : ℕ → ℕ) (gs : Glyphs) → map (categorized f) (map (categorized f) gs) ≡ map
    (categorized f) gs
category-twice f [] = refl
category-twice f (g ∷ gs) = ap (λ hs. categorized f g ∷ hs) (category-twice f gs)

pub universal-again : (p : Option arabic_shape_plan_t) (script : Option Script) (tables : CharacterTables)
    (old mid new : Buffer) → MasksAreSet p script tables old mid → MasksAreSet p script tables mid new → new ≡ mid
universal-again None script tables old mid new first second =
    second ∙ ap (with_categories tables) first
    ∙ ap (λ (gs : Glyphs). let b : Buffer = record old { glyphs = gs } in b)
    (category-twice tables.universal old.glyphs)
    ∙ sym first
universal-again (Some p) script tables old mid new first second =
    let b = with_categories tables old in
    let text = text_of tables.joining tables.general b in
    let joined = joined_glyphs p.break_flags p.mask_array b.flags script text in
    let stays : with_categories tables mid ≡ mid =
    ap (with_categories tables) first.0
    ∙ ap (λ (gs : Glyphs). let c : Buffer = record old { glyphs = gs } in c)
    (joined_behind tables.universal p.break_flags p.mask_array b.flags script text b.glyphs ∙ ap joined
    (category-twice tables.universal old.glyphs))
    ∙ sym first.0 in
    joined-again p.break_flags p.mask_array script tables.joining tables.general b mid new first.0
    (second.0 ∙ ap (buffer_joined p.break_flags p.mask_array script tables.joining tables.general) stays)

-- each shaper
pub masks-set-once : MasksOnce → MasksSetOnce
masks-set-once others Arabic plan tables old mid new first second = joined-again (breaks_of plan.plan_data)
    (masks_of plan.plan_data) plan.script tables.joining tables.general old mid new first.0 second.0
masks-set-once others Universal plan tables old mid new first second = universal-again
    (arabic_of plan.plan_data) plan.script tables old mid new first second
masks-set-once others Hangul plan tables old mid new first second = others Hangul plan tables old mid new refl first
    second
masks-set-once others Hebrew plan tables old mid new first second = others Hebrew plan tables old mid new refl first
    second
masks-set-once others Indic plan tables old mid new first second = others Indic plan tables old mid new refl first
    second
masks-set-once others Khmer plan tables old mid new first second = others Khmer plan tables old mid new refl first
    second
masks-set-once others Myanmar plan tables old mid new first second = others Myanmar plan tables old mid new refl first
    second
masks-set-once others MyanmarZawgyi plan tables old mid new first second = others MyanmarZawgyi plan tables old mid new
    refl first second
masks-set-once others Thai plan tables old mid new first second = others Thai plan tables old mid new refl first second
