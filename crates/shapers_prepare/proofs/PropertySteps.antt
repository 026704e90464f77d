-- What characters leave open, one after another.
use Rattle.std.proofs.Common.{◌≡◌, ◌<◌, ℕ, inl, inr, zero, suc, ◌+◌, ◌%◌, Bool, true, false, not, ◌&&◌, ◌||◌, ◌==◌, cond, List, [], ◌∷◌, ◌++◌, map, refl, sym, ap, ◌∙◌, arith}
use Rattle.std.specs.List.{suffix_len}
use Rattle.std.proofs.Math.Bool.{or-false, or_assoc}
use Rattle.std.proofs.Math.Nat.{suc-mod, mod-lt}
use Rattle.std.proofs.lemmas.Bool.{eqb-true, false≢true}
use Rattle.std.proofs.lemmas.Bool.Decides.{nat_tests}
use Rattle.std.proofs.lemmas.List.{map_push}
use Rattle.shapers_buffer.specs.declared.buffer.category.hb_unicode_general_category_t.{hb_unicode_general_category_t}
use Rattle.shapers_buffer.specs.declared.buffer.category.hb_unicode_general_category_t.TheVariants.{Cc}
use Rattle.shapers_buffer.specs.Glyphs.{Glyph, Glyphs}
use Rattle.shapers_buffer.specs.Glyph.{characters}
use Rattle.shapers_buffer.specs.Lists.{each_after}
use Rattle.shapers_buffer.specs.Properties.{CONTINUATION, properties, set_property}
use Rattle.shapers_buffer.proofs.ListLaws.{last_of, suffix_len_yes, suffix_len_no}
use Rattle.shapers_prepare.specs.declared.ot_shape_prepare.properties.Awaited.{Awaited}
use Rattle.shapers_prepare.specs.declared.ot_shape_prepare.properties.Awaited.TheVariants.{Joiner, HalfFlag, Nothing}
use Rattle.shapers_prepare.specs.CharacterProperties.{CharacterProperties}
use Rattle.shapers_prepare.specs.GlyphProperties.{always_continues, continues_grapheme, ends_in_half_flag, ends_joined, is_mark_character, is_regional_indicator, is_zero_width_joiner, properties_set, with_properties, with_properties_behind}
use Rattle.shapers_prepare.specs.PropertyWalk.{goes_on_behind, half_flag_behind, left_awaited, properties_with, then_awaited}

-- a joiner is no half of a flag
no_flag : (c : ℕ) → is_zero_width_joiner c ≡ true → is_regional_indicator c ≡ false
no_flag c is = ap is_regional_indicator (eqb-true c 0x200D is)

joined_no_flag : (xs : List ℕ) → ends_joined xs ≡ true → suffix_len is_regional_indicator xs ≡ 0
joined_no_flag xs joined =
    elim (last_of xs) [
      | inl e ↦ ap (suffix_len is_regional_indicator) e
      | inr p ↦
          let is : (b : Bool) → is_zero_width_joiner p.last ≡ b → suffix_len is_regional_indicator xs ≡ 0 = λ b.
          elim b as (λ b. is_zero_width_joiner p.last ≡ b → suffix_len is_regional_indicator xs ≡ 0) [
            | true ↦ λ e. ap (suffix_len is_regional_indicator) p.parts
                ∙ suffix_len_no is_regional_indicator p.front p.last (no_flag p.last e)
            | false ↦ λ e. absurd
                (false≢true (sym
                (ap (λ n. not (n == 0)) (ap (suffix_len is_zero_width_joiner) p.parts
                ∙ suffix_len_no is_zero_width_joiner p.front p.last e)) ∙ joined))
          ] in
          is (is_zero_width_joiner p.last) refl
    ]

one_more : (n : ℕ) → 1 + n ≡ suc n
one_more n = omega arith

some_more : (n : ℕ) → not (1 + n == 0) ≡ true
some_more n = grind (arith, nat_tests)

-- an even number and one more, an odd number and one more
odd_small : (m : ℕ) → m < 2 → (suc m % 2 == 1) ≡ not (m == 1)
odd_small zero small = refl
odd_small (suc zero) small = refl
odd_small (suc (suc m)) small = absurd (omega arith)

odd_behind : (n : ℕ) → ((1 + n) % 2 == 1) ≡ not (n % 2 == 1)
odd_behind n =
    ap (λ k. k % 2 == 1) (one_more n) ∙ ap (λ k. k == 1) (suc-mod n 2) ∙ odd_small (n % 2) (mod-lt n (omega arith))

-- a text that ends with a joiner doesn't end in half a flag
not_both : (xs : List ℕ) → ends_joined xs ≡ true → ends_in_half_flag xs ≡ true → ⊥
not_both xs joined half = false≢true (sym (ap (λ n. n % 2 == 1) (joined_no_flag xs joined)) ∙ half)

-- half a flag behind one more character that is no joiner
half_by : (flag joined half : Bool) → (joined ≡ true → half ≡ true → ⊥) → cond (flag && not half) HalfFlag Nothing
    ≡ cond flag (half_flag_behind (cond joined Joiner (cond half HalfFlag Nothing))) Nothing
half_by false joined half never = refl
half_by true true true never = absurd (never refl refl)
half_by true true false never = refl
half_by true false true never = refl
half_by true false false never = refl

-- what is awaited behind one more character
pub open_next : (xs : List ℕ) (c : ℕ) → left_awaited (xs ++ c ∷ []) ≡ then_awaited (left_awaited xs) c
open_next xs c =
    let all = xs ++ c ∷ [] in
    let half = ends_in_half_flag xs in
    let joiner : (b : Bool) → is_zero_width_joiner c ≡ b → ends_joined all ≡ b = λ b.
    elim b as (λ b. is_zero_width_joiner c ≡ b → ends_joined all ≡ b) [
      | true ↦ λ e. ap (λ n. not (n == 0)) (suffix_len_yes is_zero_width_joiner xs c e)
          ∙ some_more (suffix_len is_zero_width_joiner xs)
      | false ↦ λ e. ap (λ n. not (n == 0)) (suffix_len_no is_zero_width_joiner xs c e)
    ] in
    let flag : (b : Bool) → is_regional_indicator c ≡ b → ends_in_half_flag all ≡ (b && not half) = λ b.
    elim b as (λ b. is_regional_indicator c ≡ b → ends_in_half_flag all ≡ (b && not half)) [
      | true ↦ λ e. ap (λ n. n % 2 == 1) (suffix_len_yes is_regional_indicator xs c e)
          ∙ odd_behind (suffix_len is_regional_indicator xs)
      | false ↦ λ e. ap (λ n. n % 2 == 1) (suffix_len_no is_regional_indicator xs c e)
    ] in
    ap (λ b. cond b Joiner (cond (ends_in_half_flag all) HalfFlag Nothing)) (joiner (is_zero_width_joiner c) refl)
    ∙ ap (λ b. cond (is_zero_width_joiner c) Joiner (cond b HalfFlag Nothing)) (flag (is_regional_indicator c) refl)
    ∙ ap (cond (is_zero_width_joiner c) Joiner) (half_by (is_regional_indicator c) (ends_joined xs) half (not_both xs))

goes_by : (mark always pict flag joined half : Bool) → (joined ≡ true → half ≡ true → ⊥)
    → (mark || always || (joined && pict) || (half && flag))
    ≡ (mark || cond joined (always || pict) (cond half (always || flag) always))
goes_by mark always pict flag true true never = absurd (never refl refl)
goes_by mark always pict flag true false never = or-false (mark || always || pict) ∙ or_assoc mark always pict
goes_by mark always pict flag false true never = ap (λ b. b || flag) (or-false (mark || always))
    ∙ or_assoc mark always flag
goes_by mark always pict flag false false never = or-false (mark || always || false) ∙ or-false (mark || always)

goes_on_by : (p : CharacterProperties) (c : ℕ) (joined half : Bool)
    → goes_on_behind p (cond joined Joiner (cond half HalfFlag Nothing)) c
    ≡ cond joined (always_continues c || p.pictographic c)
    (cond half (always_continues c || is_regional_indicator c) (always_continues c))
goes_on_by p c true half = refl
goes_on_by p c false true = refl
goes_on_by p c false false = refl

-- the rule by what is open
pub continues_open : (p : CharacterProperties) (xs : List ℕ) (c : ℕ)
    → continues_grapheme p xs c ≡ (is_mark_character p c || goes_on_behind p (left_awaited xs) c)
continues_open p xs c =
    goes_by (is_mark_character p c) (always_continues c) (p.pictographic c) (is_regional_indicator c) (ends_joined xs)
    (ends_in_half_flag xs) (not_both xs)
    ∙ ap (λ b. is_mark_character p c || b) (sym (goes_on_by p c (ends_joined xs) (ends_in_half_flag xs)))

-- the walk over the glyphs that are left
abbrev pub set_behind : CharacterProperties → Awaited → Glyphs → Glyphs
set_behind p o [] = []
set_behind p o (g ∷ gs) =
    with_properties p (is_mark_character p g.glyph_id || goes_on_behind p o g.glyph_id) g
    ∷ set_behind p (then_awaited o g.glyph_id) gs

set_from : (p : CharacterProperties) (before gs : Glyphs)
    → set_behind p (left_awaited (characters before)) gs
    ≡ map (λ x. with_properties_behind p x.0 x.1) (each_after before gs)
set_from p before [] = refl
set_from p before (g ∷ gs) =
    let c = g.glyph_id in
    let o = left_awaited (characters before) in
    let pushed : left_awaited (characters (before ++ g ∷ [])) ≡ then_awaited o c =
    ap left_awaited (map_push (λ (h : Glyph). h.glyph_id) before g) ∙ open_next (characters before) c in
    ap (λ b. with_properties p b g ∷ set_behind p (then_awaited o c) gs) (sym (continues_open p (characters before) c))
    ∙ ap (λ next. with_properties_behind p before g ∷ set_behind p next gs) (sym pushed)
    ∙ ap (λ gs. with_properties_behind p before g ∷ gs) (set_from p (before ++ g ∷ []) gs)

pub set_all : (p : CharacterProperties) (gs : Glyphs) → set_behind p Nothing gs ≡ properties_set p gs
set_all p gs = set_from p [] gs

-- a character without a class that is always drawn has neither bit of those that aren't
plain_continuing : (general : hb_unicode_general_category_t) → properties_with general 0 false true false
    ≡ set_property CONTINUATION true (properties general 0)
plain_continuing Cc = refl
plain_continuing _ = refl

plain_beginning : (general : hb_unicode_general_category_t) → properties_with general 0 false false false
    ≡ set_property CONTINUATION false (properties general 0)
plain_beginning Cc = refl
plain_beginning _ = refl

pub plain_properties : (general : hb_unicode_general_category_t) (continues : Bool)
    → properties_with general 0 false continues false
    ≡ set_property CONTINUATION continues (properties general 0)
plain_properties general true = plain_continuing general
plain_properties general false = plain_beginning general
