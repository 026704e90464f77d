-- The rewriting spells the same text: syllable characters by their jamo.
use Rattle.std.proofs.Common.{◌≡◌, ℕ, zero, suc, ◌+◌, ◌-◌, ◌*◌, ◌/◌, ◌%◌, ◌<◌, ◌≤◌, ◌==◌, ◌&&◌, ◌||◌, not, Bool, true, false, cond, List, [], ◌∷◌, ◌++◌, length, get_or, take, drop, refl, sym, ap, subst, ◌∙◌, arith}
use Rattle.std.specs.List.{AllByRecursion, filter}
use Rattle.std.proofs.lemmas.List.{append-nil, drop_more, take_more, take-append-drop, drop-drop}
use Rattle.std.proofs.lemmas.List.Concat.{flat_map-append}
use Rattle.std.proofs.lemmas.List.Elements.{filter-append}
use Rattle.std.proofs.Math.Seq.{drop-nil}
use Rattle.std.specs.Prelude.{Result, Ok, Err, OnOk}
use Rattle.shapers_buffer.specs.Glyph.{characters}
use Rattle.shapers_buffer.specs.Buffer.{Buffer}
use Rattle.shapers_buffer.specs.Glyphs.{Glyphs}
use Rattle.shapers_buffer.specs.declared.buffer.level.BufferClusterLevel.{BufferClusterLevel}
use Rattle.shapers_buffer.specs.declared.buffer.refusal.ShaperError.{ShaperError}
use Rattle.shapers_base.specs.Font.{Font, has_nominal}
use Rattle.shapers_base.specs.declared.plan.breaks.BreakFlags.{BreakFlags}
use Rattle.shapers_hangul.specs.declared.ot_shaper_hangul.item.JoinedTone.TheVariants.{Absent, Before, Behind}
use Rattle.shapers_hangul.specs.declared.ot_shaper_hangul.item.Unit.{Unit}
use Rattle.shapers_hangul.specs.declared.ot_shaper_hangul.item.Unit.TheVariants.{ComposedTwo, ComposedThree, JamoThree, PartsBeforeT, Syllable, Other}
use Rattle.shapers_hangul.specs.Hangul.{is_between, is_l, is_v, is_t, combines_l, combines_v, combines_t, is_s, is_lv, is_tone, with_v, with_t, lead, vowel, trail, has_jamo_of, is_narrow, jamo_two, jamo_three, jamo_parts, syllable_unit, lone_tone, leading_unit, taken, is_syllable, joined_tone, first_item, tone_len, item_len, items_from, items, marked_from, unit_output, with_tone, item_output, outputs, all_joined, glyph_copies, character_copies, preprocessed, rewritten_by, text_rewritten}
use Rattle.shapers_hangul.specs.HangulLaws.{jamo_of, full, spelled, SpellingLaw, SpellsByUnits, SpellsSame, UnitSpells}
use Rattle.shapers_hangul.proofs.ItemFlags.{characters-items_flagged}
use Rattle.shapers_hangul.proofs.Outputs.{characters-outputs, outputs-map}
use Rattle.shapers_hangul.proofs.Walks.{characters-all_joined}
use Rattle.shapers_hangul.proofs.Items.{both, either, taken_some, there, above, unit_within}

-- NUMBERS
third : (n x y k : ℕ) → n ≡ x * 588 + y * 28 + k → x < 19 → y < 21 → k < 28 → n % 28 ≡ k
third n x y k is = omega arith

first : (n x y k : ℕ) → n ≡ x * 588 + y * 28 + k → x < 19 → y < 21 → k < 28 → n / 588 ≡ x
first n x y k is = omega arith

second : (n x y k : ℕ) → n ≡ x * 588 + y * 28 + k → x < 19 → y < 21 → k < 28 → n % 588 / 28 ≡ y
second n x y k is = omega arith

-- ranges
inside : (a b u : ℕ) → is_between a b u ≡ true → (a ≤ u) × (u ≤ b)
inside = search arith

is_inside : (a b u : ℕ) → a ≤ u → u ≤ b → is_between a b u ≡ true
is_inside = search arith

below : (a b u : ℕ) → u < a → is_between a b u ≡ false
below = search arith

-- what is full, by the first character
full_s : (s : ℕ) (us : List ℕ) → is_s s ≡ true → full (s ∷ us) ≡ jamo_of s ++ full us
full_s s us h = cc

full_other : (u : ℕ) (us : List ℕ) → u < 0xAC00 → full (u ∷ us) ≡ u ∷ full us
full_other = search arith

jamo_lv : (s : ℕ) → is_lv s ≡ true → jamo_of s ≡ lead s ∷ vowel s ∷ []
jamo_lv s h = cc

jamo_lvt : (s : ℕ) → is_lv s ≡ false → jamo_of s ≡ lead s ∷ vowel s ∷ trail s ∷ []
jamo_lvt s h = cc

-- L V is spelled as its syllable character
pub record IsLV (l v : ℕ) : Type 0 where
  pub syllable : is_s (with_v l v) ≡ true
  pub lv : is_lv (with_v l v) ≡ true
  pub leading : lead (with_v l v) ≡ l
  pub vowels : vowel (with_v l v) ≡ v
  pub low_l : l < 0xAC00
  pub low_v : v < 0xAC00

is_lv_of : (l v : ℕ) → combines_l l ≡ true → combines_v v ≡ true → IsLV l v
is_lv_of = search arith

lv_spelled : (l v : ℕ) → combines_l l ≡ true → combines_v v ≡ true → lead (with_v l v) ∷ vowel (with_v l v) ∷ []
    ≡ l ∷ v ∷ []
lv_spelled = search arith

lv_apart : (l v : ℕ) (us : List ℕ) → combines_l l ≡ true → combines_v v ≡ true → full (l ∷ v ∷ us) ≡ l ∷ v ∷ full us
lv_apart = search arith

lv_full : (l v : ℕ) → combines_l l ≡ true → combines_v v ≡ true → full (with_v l v ∷ []) ≡ full (l ∷ v ∷ [])
lv_full l v hl hv = let i = is_lv_of l v hl hv in cc (lv_apart l v [] hl hv)

-- LV and a combining T
lvt_full : (s t : ℕ) → is_lv s ≡ true → combines_t t ≡ true → full (with_t s t ∷ []) ≡ lead s ∷ vowel s ∷ t ∷ []
lvt_full = search arith

-- the jamo of a syllable character stand below all syllable characters
low_jamo : (s : ℕ) → is_s s ≡ true → (lead s < 0xAC00) × (vowel s < 0xAC00) × (trail s < 0xAC00)
low_jamo = search arith

-- UNITS
marked_same : (n : ℕ) (us : List ℕ) → marked_from character_copies n us ≡ us
marked_same n [] = refl
marked_same n (u ∷ us) = cc (marked_same (n + 1) us)

-- what a unit spells at the start of a text
abbrev SpellsUnit : List ℕ → Unit → Type 0
SpellsUnit us x = full (unit_output character_copies x us) ≡ full (take (taken x) us)

two_spells : (font : Font) (us : List ℕ) → is_l (get_or us 0 0) ≡ true → is_v (get_or us 1 0) ≡ true
    → SpellsUnit us (jamo_two font (get_or us 0 0) (get_or us 1 0))
two_spells font (l ∷ v ∷ us) hl hv = search (arith, lv_full)
two_spells font _ hl hv = absurd cc

three_spells : (font : Font) (us : List ℕ) → is_l (get_or us 0 0) ≡ true → is_v (get_or us 1 0) ≡ true
    → is_t (get_or us 2 0) ≡ true → SpellsUnit us (jamo_three font (get_or us 0 0) (get_or us 1 0) (get_or us 2 0))
three_spells font (l ∷ v ∷ t ∷ us) hl hv ht =
    let s = with_v l v in
    either (SpellsUnit (l ∷ v ∷ t ∷ us)) ((combines_l l && (combines_v v && combines_t t))
    && has_nominal font (with_t s t)) (ComposedThree (with_t s t)) JamoThree (λ h.
    let (cl, rest) = both (combines_l l) (combines_v v && combines_t t) (both _ (has_nominal font (with_t s t)) h).0 in
    let (cv, ct) = both (combines_v v) (combines_t t) rest in
    let (t0, t1) = inside 0x11A8 0x11C2 t ct in
    lvt_full s t ((is_lv_of l v cl cv).lv) ct ∙ ap (λ us. us ++ t ∷ []) (lv_spelled l v cl cv)
    ∙ sym (ap (λ us. l ∷ v ∷ us) (full_other t [] (omega arith))) ∙ sym (lv_apart l v (t ∷ []) cl cv))
    (λ _. ap full (marked_same 1 (l ∷ v ∷ t ∷ [])))
three_spells font _ hl hv ht = absurd cc

parts_spell : (s : ℕ) (us : List ℕ) → is_s s ≡ true → SpellsUnit (s ∷ us) (jamo_parts s)
parts_spell = search (arith, either, marked_same, full_other, full_s, jamo_lv, jamo_lvt)

syllable_spells : (font : Font) (us : List ℕ) → is_s (get_or us 0 0) ≡ true
    → SpellsUnit us (syllable_unit font (get_or us 0 0) (get_or us 1 0))
syllable_spells font [] h = absurd cc
syllable_spells font (s ∷ []) h = search (arith, parts_spell)
syllable_spells font (s ∷ v ∷ rest) h =
    let us = s ∷ v ∷ rest in
    either (SpellsUnit us) ((is_lv s && combines_t v) && has_nominal font (with_t s v)) (ComposedTwo (with_t s v)) _
    (λ p. let (lv, ct) = both (is_lv s) (combines_t v) (both _ (has_nominal font (with_t s v)) p).0 in
    search (arith, lvt_full))
    (λ _. either (SpellsUnit us) (not (has_nominal font s) && has_jamo_of font s) (jamo_parts s) _
    (λ _. parts_spell s (v ∷ rest) h)
    (λ _. either (SpellsUnit us) ((is_lv s && is_t v) && has_jamo_of font s) (PartsBeforeT (lead s) (vowel s)) _
    (λ p. ap full (marked_same 1 (lead s ∷ vowel s ∷ v ∷ []))
    ∙ (let (a, b, c) = low_jamo s h in cc (full_other (lead s) (vowel s ∷ v ∷ []) a, full_other (vowel s) (v ∷ []) b, jamo_lv s ((both (is_lv s) (is_t v) (both _ (has_jamo_of font s) p).0).0)))) (λ _. either (SpellsUnit us) (has_nominal font s) Syllable Other (λ _. refl) (λ _. refl))))

-- the unit of a character that is no tone
abbrev untoned : Font → ℕ → ℕ → ℕ → Unit
untoned font u v t =
    cond (is_l u && is_v v) (cond (is_t t) (jamo_three font u v t) (jamo_two font u v))
    (cond (is_s u) (syllable_unit font u v) Other)

untoned_spells : (font : Font) (us : List ℕ)
    → SpellsUnit us (untoned font (get_or us 0 0) (get_or us 1 0) (get_or us 2 0))
untoned_spells font us =
    let u = get_or us 0 0 in
    let v = get_or us 1 0 in
    let t = get_or us 2 0 in
    either (SpellsUnit us) (is_l u && is_v v) _ _
    (λ p. let (hl, hv) = both (is_l u) (is_v v) p in either (SpellsUnit us) (is_t t) (jamo_three font u v t)
    (jamo_two font u v) (λ ht. three_spells font us hl hv ht) (λ _. two_spells font us hl hv))
    (λ _. either (SpellsUnit us) (is_s u) (syllable_unit font u v) Other (λ h. syllable_spells font us h) (λ _. refl))

-- ITEMS
spelled-append : (xs ys : List ℕ) → spelled (xs ++ ys) ≡ spelled xs ++ spelled ys
spelled-append = search (flat_map-append, filter-append)

spelled_tone : (w : ℕ) → is_tone w ≡ true → spelled (w ∷ []) ≡ []
spelled_tone = search arith

abbrev SpellsApart : List ℕ → Unit → Type 0
SpellsApart us x = spelled (unit_output character_copies x us) ≡ spelled (take (taken x) us)

lone_spells : (font : Font) (circles : Bool) (u : ℕ) (us : List ℕ) → SpellsApart (u ∷ us) (lone_tone font circles u)
lone_spells = search arith

-- with its tone
tone_spells : (font : Font) (x : Unit) (us : List ℕ) → taken x ≤ length us → SpellsApart us x
    → spelled (with_tone (joined_tone font x (get_or us (taken x) 0)) (take 1 (drop (taken x) us))
    (unit_output character_copies x us))
    ≡ spelled (take (taken x + tone_len (joined_tone font x (get_or us (taken x) 0))) us)
tone_spells font x us within same =
    let t = taken x in
    let w = get_or us t 0 in
    let out = unit_output character_copies x us in
    elim (is_syllable x && is_tone w) as (λ b. is_syllable x && is_tone w ≡ b
    → spelled (with_tone (cond b (cond (is_narrow font w) Behind Before) Absent) (take 1 (drop t us)) out)
    ≡ spelled (take (t + tone_len (cond b (cond (is_narrow font w) Behind Before) Absent)) us)) [
      | true ↦ λ h.
          let is_w = (both (is_syllable x) (is_tone w) h).1 in
          let there = there us t (above is_tone w refl is_w) in
          let one = ap (take 1) (drop_more us t 0 there) in
          let more = ap spelled (take_more us t 0 there) ∙ spelled-append (take t us) (w ∷ []) in
          elim (is_narrow font w) as (λ b. spelled (with_tone (cond b Behind Before) (take 1 (drop t us)) out)
          ≡ spelled (take (t + tone_len (cond b Behind Before)) us)) [
            | true ↦ ap (λ ts. spelled (out ++ ts)) one ∙ spelled-append out (w ∷ [])
                ∙ ap (λ xs. xs ++ spelled (w ∷ [])) same ∙ sym more
            | false ↦
                ap (λ ts. spelled (ts ++ out)) one ∙ spelled-append (w ∷ []) out
                ∙ ap (λ xs. xs ++ spelled out) (spelled_tone w is_w) ∙ same ∙ sym (append-nil (spelled (take t us)))
                ∙ ap (λ xs. spelled (take t us) ++ xs) (sym (spelled_tone w is_w)) ∙ sym more
          ]
      | false ↦ λ _. same ∙ ap (λ n. spelled (take n us)) (omega arith)
    ] refl

-- all items of what is left of a text
rest_spells : (font : Font) (circles : Bool) (all : List ℕ) (place skip : ℕ) (us : List ℕ) → drop place all ≡ us
    → spelled (outputs character_copies (items_from (first_item font circles) place skip us) all)
    ≡ spelled (drop skip us)
rest_spells font circles all place skip [] is = ap spelled (sym (drop-nil skip))
rest_spells font circles all place zero (u ∷ us) is =
    let item = first_item font circles (u ∷ us) in
    let n = item_len item in
    let rest = items_from (first_item font circles) (place + 1) (n - 1) us in
    let many : n ≡ suc (n - 1) = omega (arith, taken_some item.unit) in
    spelled-append (item_output character_copies item (drop place all)) (outputs character_copies rest all)
    ∙ ap (λ xs. spelled (item_output character_copies item xs) ++ spelled (outputs character_copies rest all)) is
    ∙ ap (λ xs. xs ++ spelled (outputs character_copies rest all))
    (tone_spells font (leading_unit font circles (u ∷ us)) (u ∷ us) (search (arith, unit_within)) (either
    (SpellsApart (u ∷ us)) (is_tone u) (lone_tone font circles u) (untoned font u (get_or us 0 0) (get_or us 1 0)) (λ
    _. lone_spells font circles u us) (λ _. ap (filter (λ (u : ℕ). not (is_tone u || u == 0x25CC))) (untoned_spells
    font (u ∷ us))))) ∙ ap (λ xs. spelled (take n (u ∷ us)) ++ xs)
    (rest_spells font circles all (place + 1) (n - 1) us (sym (drop-drop 1 place all) ∙ ap (drop 1) is) ∙ sym (ap (λ
    k. spelled (drop k (u ∷ us))) many))
    ∙ sym (spelled-append (take n (u ∷ us)) (drop n (u ∷ us))) ∙ ap spelled (take-append-drop n (u ∷ us))
rest_spells font circles all place (suc skip) (u ∷ us) is =
    rest_spells font circles all (place + 1) skip us (cc (drop-drop 1 place all))

pub spells : SpellingLaw
spells = search (arith, untoned_spells, rest_spells)

-- the whole hook
pub same_spelled : (font : Font) (circles : Bool) (level : BufferClusterLevel) (gs : Glyphs)
    → spelled (characters (preprocessed font circles level gs)) ≡ spelled (characters gs)
same_spelled font circles level gs =
    let cut = items font circles (characters gs) in
    ap spelled (outputs-map (λ g. g.glyph_id) glyph_copies character_copies
    (record { character = λ u g. refl; jamo = λ n g. refl }) cut (all_joined level cut gs)
    ∙ ap (outputs character_copies cut) (characters-all_joined level cut gs))
    ∙ (spells font circles (characters gs)).whole

-- the choice leaves the characters
characters-rewritten : (breaks : BreakFlags) (font : Font) (circles : Bool) (level : BufferClusterLevel) (gs : Glyphs)
    → characters (text_rewritten breaks font circles level gs) ≡ characters (preprocessed font circles level gs)
characters-rewritten = search (characters-outputs, characters-items_flagged)

pub on_spelled : {T : Type 0} (r : Result T ShaperError) (breaks : BreakFlags) (font : Font) (old new : Buffer)
    → OnOk r (new ≡ rewritten_by breaks font old) → OnOk r (SpellsSame old new)
on_spelled (Ok x) breaks font old new is = search (arith, characters-rewritten, same_spelled)
on_spelled (Err e) breaks font old new is = tt

-- each unit by itself
units_spell : (font : Font) (circles : Bool) (all : List ℕ) (place skip : ℕ) (us : List ℕ) → drop place all ≡ us
    → AllByRecursion (UnitSpells all) (items_from (first_item font circles) place skip us)
units_spell font circles all place skip [] is = tt
units_spell font circles all place zero (u ∷ us) is = let unit = leading_unit font circles (u ∷ us) in (
  subst (λ xs. is_tone (get_or xs 0 0) ≡ false → full (unit_output character_copies unit xs)
      ≡ full (take (taken unit) xs)) (sym is) (spells font circles (u ∷ us)).unit,
  units_spell font circles all (place + 1) (item_len (first_item font circles (u ∷ us)) - 1) us
      (sym (drop-drop 1 place all) ∙ ap (drop 1) is),
)
units_spell font circles all place (suc skip) (u ∷ us) is =
    units_spell font circles all (place + 1) skip us (cc (drop-drop 1 place all))

pub on_units : {T : Type 0} (r : Result T ShaperError) (breaks : BreakFlags) (font : Font) (old new : Buffer)
    → OnOk r (new ≡ rewritten_by breaks font old) → OnOk r (SpellsByUnits font old new)
on_units (Ok x) breaks font old new is =
    search (arith, characters-rewritten, characters-outputs, characters-all_joined, units_spell)
on_units (Err e) breaks font old new is = tt
