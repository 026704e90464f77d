-- What lookups between the set-up and the reordering of the universal shaper may read and leave, and where a break
-- would change a form, on small texts written out from the rules.
use Rattle.std.proofs.Common.{ℕ, ◌/◌, ◌≡◌, List, [], ◌∷◌, ◌++◌, length, map, get_or, refl, sym, ap, ◌∙◌, subst, arith, slice_index}
use Rattle.std.specs.Prelude.{None, Some}
use Rattle.std.specs.List.{flat_map}
use Rattle.std.proofs.lemmas.Bool.{false≢true}
use Rattle.std.proofs.lemmas.List.{length-map}
use Rattle.shapers_buffer.specs.Glyphs.{Glyph, Glyphs}
use Rattle.shapers_buffer.specs.declared.buffer.syllables.Span.{Span}
use Rattle.shapers_buffer.specs.Glyph.{default_glyph}
use Rattle.shapers_buffer.specs.Properties.{SUBSTITUTED, no_marks, with_mark}
use Rattle.shapers_buffer.specs.Syllables.{syllables}
use Rattle.shapers_base.specs.Map.{Map}
use Rattle.shapers_base.specs.declared.plan.PlanData.TheVariants.{Universal}
use Rattle.shapers_base.specs.declared.plan.arabic.arabic_shape_plan_t.{arabic_shape_plan_t}
use Rattle.shapers_base.specs.declared.plan.breaks.BreakFlags.{BreakFlags}
use Rattle.shapers_base.specs.declared.plan.breaks.BreakFlags.TheVariants.{AsCode, Sound}
use Rattle.shapers_base.specs.declared.plan.hb_ot_shape_plan_t.{hb_ot_shape_plan_t}
use Rattle.shapers_clusters.specs.Breaks.{IsClear}
use Rattle.shapers_syllabic.specs.ReorderingLaws.{paused_order}
use Rattle.shapers_universal.specs.Universal.{universal_order}
use Rattle.shapers_universal.specs.UniversalSyllables.{rphf_recorded}
use Rattle.shapers_break_laws.specs.NeedlessForms.{IsTornAt}
use Rattle.shapers_break_laws.specs.UniversalChain.{LeavesWhereClear, MadeWhereClear, ReadsOnly, setup_under, without_flags_or_forms, without_glyph_flags}
use Rattle.shapers_break_laws.specs.UniversalSound.{flagless, sound_setup}
use Rattle.shapers_break_laws.proofs.UniversalSoundRows.{ends, falling, feature, glyph, kept, map_of, masks, one, rising, two}

-- a plan of these
abbrev under : BreakFlags → Map → hb_ot_shape_plan_t → hb_ot_shape_plan_t
under breaks m plan = record plan { break_flags = breaks; plan_data = kept; ot_map = m }

-- the set-up flags with Sound alone
row_sound : (plan : hb_ot_shape_plan_t) → masks (setup_under (under Sound ends plan) (two 2) rising) ≡ 0x20 ∷ 0x83 ∷ []
row_sound plan = refl

row_as_code : (plan : hb_ot_shape_plan_t) → masks (setup_under (under AsCode ends plan) (two 2) rising) ≡ 0x20 ∷ 0x80
    ∷ []
row_as_code plan = refl

-- what the views hide: flags; and the masks of forms, but where letters join
marked : Glyph
marked = record default_glyph { mask = 0xFF }

row_flags : (without_glyph_flags marked).mask ≡ 0xF8
unfolding marked
row_flags = refl

row_forms : (without_flags_or_forms kept ends marked).mask ≡ 0x58
unfolding marked
row_forms = refl

row_joining : (p : arabic_shape_plan_t) →
    (without_flags_or_forms (Universal (record { rphf_mask = 0; arabic_plan = Some p })) ends marked).mask ≡ 0xF8
unfolding marked
row_joining p = refl

-- a lookup for one form reads its mask
for_form : Glyphs → Glyphs
for_form gs = map (λ (g : Glyph). record g { glyph_id = g.mask / 32 }) gs

row_reads : ReadsOnly (without_flags_or_forms kept ends) for_form → ⊥
unfolding for_form
row_reads only =
    let shown : List Glyphs → ℕ = λ pieces. (get_or (get_or pieces 0 []) 0 default_glyph).glyph_id in
    let same = only (record (glyph 0) { mask = 0x20 } ∷ []) (glyph 0 ∷ []) refl in
    let one_is_none : 1 ≡ 0 = ap shown same in
    absurd (omega (arith, one_is_none))

-- and the record of rphf reads the bits of its mask: flags, if it is one
recorded : Glyphs → Glyphs
recorded gs = flat_map (rphf_recorded 1) (syllables gs)

abbrev put_in : Glyph
put_in = record (glyph 0) { glyph_props = with_mark SUBSTITUTED no_marks }

row_records : ReadsOnly without_glyph_flags recorded → ⊥
unfolding recorded
row_records only =
    let shown : List Glyphs → ℕ = λ pieces. (get_or (get_or pieces 0 []) 0 default_glyph).category in
    let same = only (record put_in { mask = 1 } ∷ []) (put_in ∷ []) refl in
    let reph_is_base : 18 ≡ 1 = ap shown same in
    absurd (omega (arith, reph_is_base))

-- nothing in between leaves results side by side where they are clear
row_still : (gs : Glyphs) → LeavesWhereClear (λ gs. gs) gs
row_still gs front back text border apart inside clear = record {
  cut = record {
    before = front;
    behind = back;
    text = text;
    border = border;
    apart = apart;
    first = refl;
    second = refl;
  };
  inside = inside;
  clear = clear;
}

-- what drops the flag between two syllables doesn't
torn_text : Glyphs
torn_text = record (glyph 0) { mask = 0x20; syllable = 0x12 } ∷ (record (glyph 1) { mask = 0x83; syllable = 0x22 } ∷ [])

row_dropped : LeavesWhereClear flagless torn_text → ⊥
unfolding torn_text
row_dropped leaves =
    let first : Glyphs = record (glyph 0) { mask = 0x20; syllable = 0x12 } ∷ [] in
    let second : Glyphs = record (glyph 1) { mask = 0x80; syllable = 0x22 } ∷ [] in
    let made : MadeWhereClear flagless torn_text first second =
    leaves first second refl (λ some more same. absurd (omega (arith, same)))
    (λ i j il jl same. let a : i ≡ 0 = omega (arith, il) in let b : j ≡ 0 = omega (arith, jl) in absurd (omega
    (arith, ap (λ k. slice_index (0 ∷ []) k) a, ap (λ k. slice_index (1 ∷ []) k) b, same)))
    (omega arith) (record { differ = λ e. absurd (omega (arith, e)); unflagged = refl }) in
    let place : length made.cut.before ≡ 1 =
    sym (length-map made.cut.before without_glyph_flags) ∙ ap length made.cut.first in
    false≢true (sym (subst (IsClear torn_text) place made.clear).unflagged)

-- a pair is torn between its syllables, and not at its ends; not where one doesn't join
row_torn : IsTornAt kept ends (two 2) rising 1
row_torn = refl

row_torn_falling : IsTornAt kept ends (two 2) falling 1
row_torn_falling = refl

row_torn_start : IsTornAt kept ends (two 2) rising 0 → ⊥
row_torn_start torn = false≢true torn

row_torn_end : IsTornAt kept ends (two 2) rising 2 → ⊥
row_torn_end torn = false≢true torn

row_apart : IsTornAt kept ends (two 8) rising 1 → ⊥
row_apart torn = false≢true torn

-- inside a syllable of the pair
row_inside : IsTornAt kept ends (record { len = 2; kind = 2 } ∷ one 2) (glyph 0 ∷ (glyph 1 ∷ (glyph 2 ∷ []))) 1
row_inside = refl

-- a mask of a form that is a glyph flag: the pair is torn, and the halves show the same as the whole
abbrev hidden : Map
hidden = map_of (feature "init" 1 ∷ [])

row_hidden : IsTornAt kept hidden (two 2) rising 1
row_hidden = refl

row_hidden_whole : masks (sound_setup kept hidden (two 2) rising) ≡ 0 ∷ 0 ∷ []
row_hidden_whole = refl

row_hidden_halves : masks (sound_setup kept hidden (one 2) (glyph 0 ∷ []))
    ++ masks (sound_setup kept hidden (one 2) (glyph 1 ∷ [])) ≡ 0 ∷ 0 ∷ []
row_hidden_halves = refl

-- a syllable with a vowel that goes to its front (category 22), and what is in no cluster: a clear place, and each half
-- has order and masks of the whole
abbrev four : Map
four = map_of (feature "isol" 0x10 ∷ feature "init" 0x20 ∷ feature "medi" 0x40 ∷ feature "fina" 0x80 ∷ [])

abbrev front_vowel : Glyphs
front_vowel = record (glyph 0) { glyph_id = 1 } ∷ (record (glyph 0) { glyph_id = 2; category = 22 } ∷ [])

abbrev symbol : Glyphs
symbol = record (glyph 1) { glyph_id = 3 } ∷ []

abbrev shown : Glyphs → List (ℕ × ℕ)
shown gs = map (λ (g : Glyph). (g.glyph_id, g.mask)) gs

abbrev ordered : List Span → Glyphs → hb_ot_shape_plan_t → List (ℕ × ℕ)
ordered spans gs plan = shown (paused_order None universal_order (setup_under (under Sound four plan) spans gs))

row_ordered : (plan : hb_ot_shape_plan_t)
    → ordered (record { len = 2; kind = 2 } ∷ one 8) (front_vowel ++ symbol) plan ≡ (2, 0x10) ∷ (1, 0x10) ∷ (3, 0) ∷ []
row_ordered plan = refl

row_ordered_halves : (plan : hb_ot_shape_plan_t)
    → ordered (record { len = 2; kind = 2 } ∷ []) front_vowel plan ++ ordered (one 8) symbol plan
    ≡ (2, 0x10) ∷ (1, 0x10) ∷ (3, 0) ∷ []
row_ordered_halves plan = refl
