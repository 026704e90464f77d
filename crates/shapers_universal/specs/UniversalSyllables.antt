-- What the universal shaper sets on syllables before the lookups, and what it records after some of
-- them.
use Rattle.std.specs.Prelude.{ℕ, ◌+◌, ◌-◌, ◌==◌, bit_and, bit_or, min, length, Bool, true, false, not, ◌&&◌, ◌||◌, List, [], ◌∷◌, ◌++◌, map, take, drop, Option, None, Some, codes, if◌then◌else◌}
use Rattle.std.specs.List.{flat_map, prefix_len}
use Rattle.shapers_buffer.specs.Glyphs.{Glyph, Glyphs}
use Rattle.shapers_buffer.specs.declared.buffer.syllables.Span.{Span}
use Rattle.shapers_base.specs.Map.{Map, mask_of}
use Rattle.shapers_base.specs.Masks.{has_bits}
use Rattle.shapers_base.specs.declared.plan.PlanData.{PlanData}
use Rattle.shapers_base.specs.declared.plan.arabic.arabic_shape_plan_t.{arabic_shape_plan_t}
use Rattle.shapers_base.specs.declared.plan.breaks.BreakFlags.{BreakFlags}
use Rattle.shapers_base.specs.declared.plan.breaks.BreakFlags.TheVariants.{AsCode, Sound}
use Rattle.shapers_buffer.specs.Buffer.{Buffer}
use Rattle.shapers_buffer.specs.GlyphFlags.{unsafe_all, with_bits}
use Rattle.shapers_buffer.specs.Properties.{is_substituted}
use Rattle.shapers_buffer.specs.Syllables.{kind_of, syllables, with_spans}
use Rattle.shapers_syllabic.specs.Syllabic.{setup_by_bytes, with_unsafe_syllables}
use Rattle.shapers_syllabic.specs.declared.ot_shaper_syllabic.kinds.use_syllable.TheConstants.{BROKEN_CLUSTER, HIEROGLYPH_CLUSTER, NON_CLUSTER}
use Rattle.shapers_universal.specs.declared.ot_shaper_use.category.TheConstants.{R, VPre}
use Rattle.shapers_universal.specs.declared.ot_shaper_use.forms.FormMasks.{FormMasks}
use Rattle.shapers_universal.specs.PlanData.{arabic_of, rphf_of}

-- how many glyphs in front get the mask of rphf: a reph alone, else three, or as many as there are
abbrev pub rphf_len : Glyphs → ℕ
rphf_len [] = 0
rphf_len (g ∷ gs) = if g.category == R then 1 else min 3 (length (g ∷ gs))

-- the syllable with the mask of rphf in front
abbrev pub with_rphf : ℕ → Glyphs → Glyphs
with_rphf mask gs = map (with_bits mask) (take (rphf_len gs) gs) ++ drop (rphf_len gs) gs

-- the mask of one of the features of forms in a map, 0 where it holds for the whole text
abbrev pub form_mask : Map → List ℕ → ℕ
form_mask m tag = let mask = mask_of (record { 0 = tag }) m in if mask == m.global then 0 else mask

abbrev pub form_masks : Map → FormMasks
form_masks m = record {
  isol = form_mask m (codes "isol");
  init = form_mask m (codes "init");
  medi = form_mask m (codes "medi");
  fina = form_mask m (codes "fina");
}

-- the bits of all four
abbrev pub all_forms : FormMasks → ℕ
all_forms masks = bit_or (bit_or masks.isol masks.init) (bit_or masks.medi masks.fina)

-- whether a syllable stands in sequences of joining ones: no hieroglyphs, and not what is in no
-- cluster
abbrev pub may_join : Glyphs → Bool
may_join [] = false
may_join (g ∷ gs) =
    not (kind_of g.syllable == HIEROGLYPH_CLUSTER) && not (kind_of g.syllable == NON_CLUSTER)

-- whether the first of these syllables does
abbrev pub first_joins : List Glyphs → Bool
first_joins [] = false
first_joins (syl ∷ syls) = may_join syl

-- the form in a sequence: a lone syllable isolated, the first initial, the last final, others
-- medial
abbrev pub mask_between : FormMasks → Bool → Bool → ℕ
mask_between masks false false = masks.isol
mask_between masks false true = masks.init
mask_between masks true true = masks.medi
mask_between masks true false = masks.fina

-- the glyph with this mask in place of these bits
abbrev pub with_instead : ℕ → ℕ → Glyph → Glyph
with_instead bits mask g = record g { mask = bit_or (bit_and g.mask (0xFFFFFFFF - bits)) mask }

-- the syllable in its form, with its mask in place of the bits of all forms
abbrev pub formed : FormMasks → Bool → Bool → Glyphs → Glyphs
formed masks before behind gs =
    if may_join gs then map (with_instead (all_forms masks) (mask_between masks before behind)) gs
    else gs

-- these syllables in their forms, where a joining one stands before them or none
abbrev pub in_forms : FormMasks → Bool → List Glyphs → Glyphs
in_forms masks before [] = []
in_forms masks before (syl ∷ syls) =
    formed masks before (first_joins syls) syl ++ in_forms masks (may_join syl) syls

-- the text in its forms, where there is a mask for one
abbrev pub with_form_masks : FormMasks → Glyphs → Glyphs
with_form_masks masks gs = if all_forms masks == 0 then gs else in_forms masks false (syllables gs)

-- the same where the plan has no plan of Arabic
abbrev pub with_forms_for : Option arabic_shape_plan_t → Map → Glyphs →
    Glyphs
with_forms_for None m gs = with_form_masks (form_masks m) gs
with_forms_for (Some p) m gs = gs

-- whether a break between two neighbouring syllables of a sequence would change the mask of one, by
-- whether a syllable of it stands before the first and whether one stands behind the second
abbrev pub is_torn : FormMasks → Bool → Bool → Bool
is_torn masks before behind =
    not (mask_between masks before true == mask_between masks before false)
    || not (mask_between masks true behind == mask_between masks false behind)

-- the stretch over the syllable at place i and the next of these behind it, where a break between
-- them would do so
abbrev pub torn_pair : FormMasks → Bool → ℕ → Glyphs → List Glyphs →
    List (ℕ × ℕ)
torn_pair masks before i syl [] = []
torn_pair masks before i syl (next ∷ syls) =
    if may_join syl && (may_join next && is_torn masks before (first_joins syls)) then
    (i, i + (length syl + length next)) ∷ []
    else []

-- so over any two neighbours of these syllables, of which the first is at place i
abbrev pub torn_pairs : FormMasks → Bool → ℕ → List Glyphs → List (ℕ × ℕ)
torn_pairs masks before i [] = []
torn_pairs masks before i (syl ∷ syls) =
    torn_pair masks before i syl syls ++ torn_pairs masks (may_join syl) (i + length syl) syls

-- what the choice flags besides, where the plan has no plan of Arabic: with Sound no break between
-- two syllables that would change the mask of one's form
abbrev pub forms_flagged : Option arabic_shape_plan_t → BreakFlags → Map → Glyphs →
    Glyphs
forms_flagged (Some p) breaks m gs = gs
forms_flagged None AsCode m gs = gs
forms_flagged None Sound m gs = unsafe_all (torn_pairs (form_masks m) false 0 (syllables gs)) gs

abbrev pub with_forms_flagged : BreakFlags → PlanData → Map → Buffer → Buffer
with_forms_flagged breaks kept m b =
    record b { glyphs = forms_flagged (arabic_of kept) breaks m b.glyphs }

-- the text with the masks of rphf and of forms
abbrev pub with_syllable_masks : PlanData → Map → Glyphs → Glyphs
with_syllable_masks kept m gs =
    with_forms_for (arabic_of kept) m (flat_map (with_rphf (rphf_of kept)) (syllables gs))

-- the set-up of syllables: the spans, no break inside them, and these masks
abbrev pub syllables_setup : PlanData → Map → List Span → Buffer → Buffer
syllables_setup kept m spans b =
    let cut : Buffer = with_unsafe_syllables (with_spans spans BROKEN_CLUSTER b) in
    record cut { glyphs = with_syllable_masks kept m cut.glyphs }

-- so by the syllable bytes that the text has
abbrev pub setup_by_its_bytes : PlanData → Map → Buffer → Buffer
setup_by_its_bytes kept m b =
    let marked : Buffer = setup_by_bytes BROKEN_CLUSTER b in
    record marked { glyphs = with_syllable_masks kept m marked.glyphs }

-- the glyph of another category
abbrev pub in_category : ℕ → Glyph → Glyph
in_category c g = record g { category = c }

-- the glyphs with their first one that a lookup put in of another category
abbrev pub first_recorded : ℕ → Glyphs → Glyphs
first_recorded c [] = []
first_recorded c (g ∷ gs) =
    if is_substituted g.glyph_props then in_category c g ∷ gs else g ∷ first_recorded c gs

-- the record of rphf in a syllable: the first leading glyph with that mask put in becomes a reph
abbrev pub rphf_recorded : ℕ → Glyphs → Glyphs
rphf_recorded mask gs =
    let n = prefix_len (has_bits mask) gs in first_recorded R (take n gs) ++ drop n gs

-- so of a text; that of pref: the first glyph of a syllable put in becomes one before the base
abbrev pub with_rphf_recorded : ℕ → Buffer → Buffer
with_rphf_recorded mask b = record b { glyphs = flat_map (rphf_recorded mask) (syllables b.glyphs) }

abbrev pub with_pref_recorded : Buffer → Buffer
with_pref_recorded b = record b { glyphs = flat_map (first_recorded VPre) (syllables b.glyphs) }
