-- Glyphs stay in the class of their character where jamo and syllables of Hangul become one another.
use Rattle.std.proofs.Common.{◌≡◌, ℕ, zero, suc, ◌-◌, ◌+◌, ◌&&◌, not, Bool, true, false, cond, List, [], ◌∷◌, ◌++◌, flat_map, map, take, drop, get_or, refl, sym, ap, ◌∙◌, subst, arith, inl, inr}
use Rattle.std.specs.List.{AllByRecursion, list_any}
use Rattle.std.proofs.lemmas.Bool.{and_parts, cond_both}
use Rattle.std.proofs.lemmas.List.{append-nil, drop-drop, drop-map}
use Rattle.shapers_base.specs.Font.{Font, dotted_circle, has_nominal}
use Rattle.shapers_base.specs.declared.plan.breaks.BreakFlags.{BreakFlags}
use Rattle.shapers_base.specs.declared.plan.breaks.BreakFlags.TheVariants.{AsCode, Sound}
use Rattle.shapers_buffer.specs.Buffer.{Buffer}
use Rattle.shapers_buffer.specs.Clusters.{merge_all}
use Rattle.shapers_buffer.specs.Glyph.{characters}
use Rattle.shapers_buffer.specs.GlyphFlags.{unsafe_all}
use Rattle.shapers_buffer.specs.Glyphs.{Glyph, Glyphs}
use Rattle.shapers_buffer.specs.declared.buffer.level.BufferClusterLevel.{BufferClusterLevel}
use Rattle.shapers_buffer.proofs.MappedLists.{all-append}
use Rattle.shapers_hangul.specs.Hangul.{all_joined, allows_circles, combines_l, combines_t, combines_v, copies_as, first_item, first_unit, glyph_copies, has_jamo_of, is_l, is_lv, is_narrow, is_s, is_syllable, is_t, is_tone, is_v, item_joined, item_len, item_output, item_stretches, items, items_flagged, items_from, jamo_parts, jamo_three, jamo_two, joined_tone, lead, leading_unit, lone_tone, marked_from, outputs, rewritten_by, syllable_unit, taken, trail, unit_output, unsafe_stretches, vowel, whole_items, with_t, with_tone, with_v}
use Rattle.shapers_hangul.proofs.ItemFlags.{characters-items_flagged}
use Rattle.shapers_hangul.proofs.Walks.{characters-all_joined}
use Rattle.shapers_equivalence_laws.specs.PreparedTexts.{is_classed_circle}
use Rattle.shapers_equivalence_laws.proofs.Classless.{IsClassless, classless_jamo, classless_syllable}
use Rattle.shapers_equivalence_laws.proofs.PlainGlyphs.{IsPlainGlyph, all-drop, all-merge_all, all-take, all-unsafe_all}
use Rattle.shapers_equivalence_laws.proofs.PlainRewriting.{IsPlainOrCircle, all-either, all-unclassed, copy_plain}
use Rattle.shapers_equivalence_laws.proofs.UnicodePairs.{own_class, within_bounds}

-- What stands for a unit, for whatever type of units: of plain glyphs, whose first one is this character, it makes plain
-- ones and circles.
abbrev UnitFits : {X : Type 0} → (X → Glyphs → Glyphs) → ℕ → X → Type 0
UnitFits output u unit = (gs : Glyphs) → get_or (characters gs) 0 0 ≡ u → AllByRecursion IsPlainGlyph gs
    → AllByRecursion IsPlainOrCircle (output unit gs)

-- ---- characters

classless_l : (l : ℕ) → combines_l l ≡ true → IsClassless l
classless_l l h = let inside = within_bounds 0x1100 0x1112 l h in
    let low = inside.0 in
    let high = inside.1 in
    classless_jamo l low (omega arith)

classless_s : (s : ℕ) → is_s s ≡ true → IsClassless s
classless_s s h = let inside = within_bounds 0xAC00 0xD7A3 s h in
    let low = inside.0 in
    let high = inside.1 in
    classless_syllable s low (omega arith)

classless_with_v : (l v : ℕ) → combines_l l ≡ true → combines_v v ≡ true → IsClassless (with_v l v)
classless_with_v l v hl hv =
    let insl = within_bounds 0x1100 0x1112 l hl in
    let insv = within_bounds 0x1161 0x1175 v hv in
    let l1 = insl.1 in
    let v1 = insv.1 in
    classless_syllable (with_v l v) (omega arith) (omega arith)

classless_with_v_t : (l v t : ℕ) → combines_l l ≡ true → combines_v v ≡ true → combines_t t ≡ true
    → IsClassless (with_t (with_v l v) t)
classless_with_v_t l v t hl hv ht =
    let insl = within_bounds 0x1100 0x1112 l hl in
    let insv = within_bounds 0x1161 0x1175 v hv in
    let inst = within_bounds 0x11A8 0x11C2 t ht in
    let l1 = insl.1 in
    let v1 = insv.1 in
    let t1 = inst.1 in
    classless_syllable (with_t (with_v l v) t) (omega arith) (omega arith)

classless_with_t : (s t : ℕ) → is_s s ≡ true → combines_t t ≡ true → IsClassless (with_t s t)
classless_with_t s t hs ht =
    let inss = within_bounds 0xAC00 0xD7A3 s hs in
    let inst = within_bounds 0x11A8 0x11C2 t ht in
    let s0 = inss.0 in
    let s1 = inss.1 in
    let t1 = inst.1 in
    classless_syllable (with_t s t) (omega arith) (omega arith)

classless_lead : (s : ℕ) → is_s s ≡ true → IsClassless (lead s)
classless_lead s h = let inside = within_bounds 0xAC00 0xD7A3 s h in
    let low = inside.0 in
    let high = inside.1 in
    classless_jamo (lead s) (omega arith) (omega arith)

classless_vowel : (s : ℕ) → is_s s ≡ true → IsClassless (vowel s)
classless_vowel s h = let inside = within_bounds 0xAC00 0xD7A3 s h in
    let low = inside.0 in
    let high = inside.1 in
    classless_jamo (vowel s) (omega arith) (omega arith)

classless_trail : (s : ℕ) → is_s s ≡ true → IsClassless (trail s)
classless_trail s h = classless_jamo (trail s) (omega arith) (omega arith)

-- ---- what units make of glyphs

-- a copy of the first as another character, for whichever it is
copy_of : (g : Glyph) (gs : Glyphs) (u c : ℕ) → get_or (characters (g ∷ gs)) 0 0 ≡ u → IsClassless u → IsClassless c
    → IsPlainGlyph g → IsPlainOrCircle (record g { glyph_id = c })
copy_of g gs u c first from to own = inl (copy_plain g c (ap own_class first ∙ from.class) to own)

copies_of : (u : ℕ) (cs : List ℕ) → IsClassless u → AllByRecursion IsClassless cs → (gs : Glyphs)
    → get_or (characters gs) 0 0 ≡ u → AllByRecursion IsPlainGlyph gs
    → AllByRecursion IsPlainOrCircle (flat_map (copies_as glyph_copies cs) (take 1 gs))
copies_of u cs from to [] first own = tt
copies_of u cs from to (g ∷ gs) first own =
    subst (AllByRecursion IsPlainOrCircle) (sym (append-nil (copies_as glyph_copies cs g))) (each cs to)
  where
    each : (ds : List ℕ) → AllByRecursion IsClassless ds
        → AllByRecursion IsPlainOrCircle (copies_as glyph_copies ds g)
    each [] tos = tt
    each (d ∷ ds) tos = (copy_of g gs u d first from tos.0 own.0, each ds tos.1)

all-marked : (n : ℕ) (gs : Glyphs) → AllByRecursion IsPlainOrCircle gs
    → AllByRecursion IsPlainOrCircle (marked_from glyph_copies n gs)
all-marked n [] own = tt
all-marked n (g ∷ gs) own = (own.0, all-marked (n + 1) gs own.1)

first_few : (n : ℕ) (gs : Glyphs) → AllByRecursion IsPlainGlyph gs → AllByRecursion IsPlainOrCircle (take n gs)
first_few n gs own = all-either (take n gs) (all-take IsPlainGlyph n gs own)

-- one syllable character, jamo, the parts of a syllable character, and those before a trailing jamo
composed_fits : (u s : ℕ) → IsClassless u → IsClassless s
    → UnitFits (λ (c : ℕ) gs. map (glyph_copies.as_character c) (take 1 gs)) u s
composed_fits u s from to [] first own = tt
composed_fits u s from to (g ∷ gs) first own = (copy_of g gs u s first from to own.0, tt)

jamo_fit : (u n : ℕ) → UnitFits (λ (n : ℕ) gs. marked_from glyph_copies 1 (take n gs)) u n
jamo_fit u n gs first own = all-marked 1 (take n gs) (first_few n gs own)

parts_fit : (u : ℕ) (cs : List ℕ) → IsClassless u → AllByRecursion IsClassless cs
    → UnitFits (λ (ds : List ℕ) gs. marked_from glyph_copies 1 (flat_map (copies_as glyph_copies ds) (take 1 gs))) u cs
parts_fit u cs from to gs first own =
    all-marked 1 (flat_map (copies_as glyph_copies cs) (take 1 gs)) (copies_of u cs from to gs first own)

before_t_fit : (u : ℕ) (cs : List ℕ) → IsClassless u → AllByRecursion IsClassless cs
    → UnitFits (λ (ds : List ℕ) gs. marked_from glyph_copies 1
    (flat_map (copies_as glyph_copies ds) (take 1 gs) ++ take 1 (drop 1 gs))) u cs
before_t_fit u cs from to gs first own =
    let parts = flat_map (copies_as glyph_copies cs) (take 1 gs) in
    all-marked 1 (parts ++ take 1 (drop 1 gs))
    (all-append IsPlainOrCircle parts (take 1 (drop 1 gs)) (copies_of u cs from to gs first own)
    (first_few 1 (drop 1 gs) (all-drop IsPlainGlyph 1 gs own)))

kept_fits : (u n : ℕ) → UnitFits (λ (n : ℕ) gs. take n gs) u n
kept_fits u n gs first own = first_few n gs own

-- a circle beside its tone
circles_of : (gs : Glyphs) → AllByRecursion IsPlainOrCircle (map (glyph_copies.as_character dotted_circle) gs)
circles_of [] = tt
circles_of (g ∷ gs) = (inr refl, circles_of gs)

tone_first_fits : (u n : ℕ)
    → UnitFits (λ (n : ℕ) gs. take n gs ++ map (glyph_copies.as_character dotted_circle) (take n gs)) u n
tone_first_fits u n gs first own =
    all-append IsPlainOrCircle (take n gs) (map (glyph_copies.as_character dotted_circle) (take n gs))
    (first_few n gs own) (circles_of (take n gs))

circle_first_fits : (u n : ℕ)
    → UnitFits (λ (n : ℕ) gs. map (glyph_copies.as_character dotted_circle) (take n gs) ++ take n gs) u n
circle_first_fits u n gs first own =
    all-append IsPlainOrCircle (map (glyph_copies.as_character dotted_circle) (take n gs)) (take n gs)
    (circles_of (take n gs)) (first_few n gs own)

-- ---- units

tone_fits : (font : Font) (circles : Bool) (u : ℕ)
    → UnitFits (unit_output glyph_copies) u (lone_tone font circles u)
tone_fits font circles u =
    cond_both (circles && has_nominal font dotted_circle) _ _ (UnitFits (unit_output glyph_copies) u)
    (λ _. cond_both (is_narrow font u) _ _ (UnitFits (unit_output glyph_copies) u)
    (λ _. circle_first_fits u 1) (λ _. tone_first_fits u 1))
    (λ _. kept_fits u 1)

three_fits : (font : Font) (l v t : ℕ) → UnitFits (unit_output glyph_copies) l (jamo_three font l v t)
three_fits font l v t =
    let s = with_t (with_v l v) t in
    let test = combines_l l && (combines_v v && combines_t t) in
    cond_both (test && has_nominal font s) _ _ (UnitFits (unit_output glyph_copies) l)
    (λ h. (let all = and_parts (combines_l l) (combines_v v && combines_t t) (and_parts test (has_nominal font s) h).0 in
    let both = and_parts (combines_v v) (combines_t t) all.1 in
    composed_fits l s (classless_l l all.0) (classless_with_v_t l v t all.0 both.0 both.1)))
    (λ _. jamo_fit l 3)

two_fits : (font : Font) (l v : ℕ) → UnitFits (unit_output glyph_copies) l (jamo_two font l v)
two_fits font l v =
    let s = with_v l v in
    let test = combines_l l && combines_v v in
    cond_both (test && has_nominal font s) _ _ (UnitFits (unit_output glyph_copies) l)
    (λ h. (let all = and_parts (combines_l l) (combines_v v) (and_parts test (has_nominal font s) h).0 in
    composed_fits l s (classless_l l all.0) (classless_with_v l v all.0 all.1)))
    (λ _. jamo_fit l 2)

apart_fits : (s : ℕ) → is_s s ≡ true → UnitFits (unit_output glyph_copies) s (jamo_parts s)
apart_fits s h =
    cond_both (is_lv s) _ _ (UnitFits (unit_output glyph_copies) s)
    (λ _. parts_fit s (lead s ∷ vowel s ∷ []) (classless_s s h) (classless_lead s h, (classless_vowel s h, tt)))
    (λ _. parts_fit s (lead s ∷ vowel s ∷ trail s ∷ []) (classless_s s h)
    (classless_lead s h, (classless_vowel s h, (classless_trail s h, tt))))

syllable_fits : (font : Font) (s v : ℕ) → is_s s ≡ true
    → UnitFits (unit_output glyph_copies) s (syllable_unit font s v)
syllable_fits font s v h =
    let test = is_lv s && combines_t v in
    cond_both (test && has_nominal font (with_t s v)) _ _ (UnitFits (unit_output glyph_copies) s)
    (λ e. (let t = (and_parts (is_lv s) (combines_t v) (and_parts test (has_nominal font (with_t s v)) e).0).1 in
    composed_fits s (with_t s v) (classless_s s h) (classless_with_t s v h t)))
    (λ _. cond_both (not (has_nominal font s) && has_jamo_of font s) _ _ (UnitFits (unit_output glyph_copies) s)
    (λ _. apart_fits s h)
    (λ _. cond_both ((is_lv s && is_t v) && has_jamo_of font s) _ _ (UnitFits (unit_output glyph_copies) s)
    (λ _. before_t_fit s (lead s ∷ vowel s ∷ []) (classless_s s h) (classless_lead s h, (classless_vowel s h, tt)))
    (λ _. cond_both (has_nominal font s) _ _ (UnitFits (unit_output glyph_copies) s)
    (λ _. kept_fits s 1) (λ _. kept_fits s 1))))

unit_fits : (font : Font) (circles : Bool) (u v t : ℕ)
    → UnitFits (unit_output glyph_copies) u (first_unit font circles u v t)
unit_fits font circles u v t =
    cond_both (is_tone u) _ _ (UnitFits (unit_output glyph_copies) u)
    (λ _. tone_fits font circles u)
    (λ _. cond_both (is_l u && is_v v) _ _ (UnitFits (unit_output glyph_copies) u)
    (λ _. cond_both (is_t t) _ _ (UnitFits (unit_output glyph_copies) u)
    (λ _. three_fits font u v t) (λ _. two_fits font u v))
    (λ _. cond_both (is_s u) _ _ (UnitFits (unit_output glyph_copies) u)
    (λ h. syllable_fits font u v h) (λ _. kept_fits u 1)))

-- ---- items

-- the glyphs with their tone
abbrev ToneFits : {X : Type 0} → (X → Glyphs → Glyphs → Glyphs) → X → Type 0
ToneFits with tone = (ts output : Glyphs) → AllByRecursion IsPlainOrCircle ts → AllByRecursion IsPlainOrCircle output
    → AllByRecursion IsPlainOrCircle (with tone ts output)

joined_fits : (behind : Bool) → ToneFits (λ (b : Bool) ts output. cond b (output ++ ts) (ts ++ output)) behind
joined_fits true ts output own all = all-append IsPlainOrCircle output ts all own
joined_fits false ts output own all = all-append IsPlainOrCircle ts output own all

tone_joined_fits : (font : Font) (unit : _) (w : ℕ) → ToneFits (with_tone {X = Glyph}) (joined_tone font unit w)
tone_joined_fits font unit w =
    cond_both (is_syllable unit && is_tone w) _ _ (ToneFits (with_tone {X = Glyph}))
    (λ _. cond_both (is_narrow font w) _ _ (ToneFits (with_tone {X = Glyph})) (λ _. joined_fits true) (λ _. joined_fits false))
    (λ _ ts output own all. all)

item_fits : (font : Font) (circles : Bool) (u : ℕ) (us : List ℕ) (gs : Glyphs) → characters gs ≡ u ∷ us
    → AllByRecursion IsPlainGlyph gs
    → AllByRecursion IsPlainOrCircle (item_output glyph_copies (first_item font circles (u ∷ us)) gs)
item_fits font circles u us gs same own =
    let unit = leading_unit font circles (u ∷ us) in
    let n = taken unit in
    tone_joined_fits font unit (get_or (u ∷ us) n 0) (take 1 (drop n gs)) (unit_output glyph_copies unit gs)
    (first_few 1 (drop n gs) (all-drop IsPlainGlyph n gs own))
    (unit_fits font circles u (get_or (u ∷ us) 1 0) (get_or (u ∷ us) 2 0) gs (ap (λ xs. get_or xs 0 0) same) own)

later : (gs : Glyphs) (place : ℕ) (u : ℕ) (us : List ℕ) → characters (drop place gs) ≡ u ∷ us
    → characters (drop (place + 1) gs) ≡ us
later gs place u us is =
    ap characters (sym (drop-drop 1 place gs)) ∙ sym (drop-map (λ (g : Glyph). g.glyph_id) 1 (drop place gs)) ∙ ap (drop 1) is

outputs_fit : (font : Font) (circles : Bool) (gs : Glyphs) → AllByRecursion IsPlainGlyph gs → (place skip : ℕ)
    (us : List ℕ) → characters (drop place gs) ≡ us
    → AllByRecursion IsPlainOrCircle
    (outputs glyph_copies (items_from (first_item font circles) place skip us) gs)
outputs_fit font circles gs own place skip [] is = tt
outputs_fit font circles gs own place zero (u ∷ us) is =
    let item = first_item font circles (u ∷ us) in
    let rest = items_from (first_item font circles) (place + 1) (item_len item - 1) us in
    all-append IsPlainOrCircle (item_output glyph_copies item (drop place gs)) (outputs glyph_copies rest gs)
    (item_fits font circles u us (drop place gs) is (all-drop IsPlainGlyph place gs own))
    (outputs_fit font circles gs own (place + 1) (item_len item - 1) us (later gs place u us is))
outputs_fit font circles gs own place (suc skip) (u ∷ us) is =
    outputs_fit font circles gs own (place + 1) skip us (later gs place u us is)

-- ---- and of a text

merged_plain : (level : BufferClusterLevel) (sts : List (ℕ × ℕ)) (gs : Glyphs) → AllByRecursion IsPlainGlyph gs
    → AllByRecursion IsPlainGlyph (merge_all level sts gs)
merged_plain level sts gs = all-merge_all IsPlainGlyph (λ m k g own. own) (λ k g own. own) level sts gs

unsafe_plain : (sts : List (ℕ × ℕ)) (gs : Glyphs) → AllByRecursion IsPlainGlyph gs
    → AllByRecursion IsPlainGlyph (unsafe_all sts gs)
unsafe_plain sts gs = all-unsafe_all IsPlainGlyph (λ m k g own. own) (λ k g own. own) sts gs

joined_plain : (level : BufferClusterLevel) (cut : _) (gs : Glyphs) → AllByRecursion IsPlainGlyph gs
    → AllByRecursion IsPlainGlyph (all_joined level cut gs)
joined_plain level [] gs own = own
joined_plain level (p ∷ cut) gs own =
    let flagged = unsafe_all (unsafe_stretches level p.1 p.0) gs in
    joined_plain level cut (item_joined level p.0 p.1 gs)
    (merged_plain level (item_stretches level p.1 p.0) flagged (unsafe_plain (unsafe_stretches level p.1 p.0) gs own))

flagged_plain : (breaks : BreakFlags) (cut : _) (gs : Glyphs) → AllByRecursion IsPlainGlyph gs
    → AllByRecursion IsPlainGlyph (items_flagged breaks cut gs)
flagged_plain AsCode cut gs own = own
flagged_plain Sound cut gs own = unsafe_plain (whole_items cut) gs own

pub all-hangul : (breaks : BreakFlags) (font : Font) (b : Buffer)
    → list_any is_classed_circle (rewritten_by breaks font b).glyphs ≡ false → AllByRecursion IsPlainGlyph b.glyphs
    → AllByRecursion IsPlainGlyph (rewritten_by breaks font b).glyphs
all-hangul breaks font b none own =
    let us = characters b.glyphs in
    let circles = allows_circles b in
    let cut = items font circles us in
    let joined = all_joined b.level cut b.glyphs in
    let flagged = items_flagged breaks cut joined in
    let same : characters flagged ≡ us =
    characters-items_flagged breaks cut joined ∙ characters-all_joined b.level cut b.glyphs in
    all-unclassed (rewritten_by breaks font b).glyphs
    (outputs_fit font circles flagged (flagged_plain breaks cut joined (joined_plain b.level cut b.glyphs own)) 0 0 us same)
    none
