-- A clear place of a Thai or Lao text that Sound flagged has no mark behind it.
use Rattle.std.proofs.Common.{ℕ, zero, suc, ◌+◌, ◌<◌, ◌≤◌, ◌≡◌, Bool, true, false, cond, List, [], ◌∷◌, ◌++◌, length, map, get_or, nat_lt, ◌&&◌, ◌||◌, refl, sym, ap, ◌∙◌, subst, arith, length-append}
use Rattle.std.specs.List.{AllByRecursion, list_any}
use Rattle.std.proofs.lemmas.Bool.{and_from, both_ways, false_from_ne_true, lt-ltb, or_left, or_right}
use Rattle.std.proofs.lemmas.List.{length-map}
use Rattle.shapers_base.specs.Font.{has_nominal}
use Rattle.shapers_buffer.specs.Glyphs.{Glyph, Glyphs}
use Rattle.shapers_buffer.specs.Glyph.{characters}
use Rattle.shapers_buffer.specs.GlyphFlags.{FlagCall, UnsafeToBreak, flags_called, unsafe_all, unsafe_inside}
use Rattle.shapers_buffer.specs.Lists.{each_after}
use Rattle.shapers_clusters.specs.Breaks.{IsClear, forbids}
use Rattle.shapers_clusters.specs.Cuts.{held}
use Rattle.shapers_clusters.specs.FlagLaw.{OnlyFlagsAdded}
use Rattle.shapers_clusters.specs.Flags.{InOrder}
use Rattle.shapers_clusters.proofs.ClearPlaces.{clear-places}
use Rattle.shapers_clusters.proofs.FlagCalls.{flags_called-alone}
use Rattle.shapers_clusters.proofs.FlagLaw.{added_same, all_added_on, alone_added}
use Rattle.shapers_text.specs.ThaiForms.{form_between, forms_between, is_thai_mark, mark_stretches, mark_stretches_of_each, preprocessed_flagged, pua_shaped, thai_base_place, whole_mark_stretches, with_character, with_characters}
use Rattle.shapers_text.proofs.ThaiFormWalks.{in_order}
use Rattle.shapers_break_laws.specs.ThaiBreaks.{sara_ams_taken}
use Rattle.shapers_break_laws.specs.ThaiSound.{ThaiSoundBreakLaw}
use Rattle.shapers_break_laws.proofs.KeptFlags.{added_clear}
use Rattle.shapers_break_laws.proofs.ThaiBreaks.{formed_clusters, formed_of, forms_broken}

-- stretches without a break inside them, as flag calls
abbrev break_calls : List (ℕ × ℕ) → List FlagCall
break_calls sts = map (λ st. UnsafeToBreak st.0 st.1) sts

unsafe_all-calls : (sts : List (ℕ × ℕ)) (gs : Glyphs)
    → flags_called false false (break_calls sts) gs ≡ unsafe_all sts gs
unsafe_all-calls [] gs = refl
unsafe_all-calls (st ∷ sts) gs = unsafe_all-calls sts (unsafe_inside st.0 st.1 gs)

abbrev AllInOrder : List (ℕ × ℕ) → Type 0
AllInOrder sts = AllByRecursion (λ st. st.0 ≤ st.1) sts

calls_in_order : (sts : List (ℕ × ℕ)) → AllInOrder sts → AllByRecursion InOrder (break_calls sts)
calls_in_order [] h = tt
calls_in_order (st ∷ sts) h = (h.0, calls_in_order sts h.1)

forbidden_held : (sts : List (ℕ × ℕ)) (p : ℕ) → list_any (forbids p) (break_calls sts) ≡ held sts p
forbidden_held [] p = refl
forbidden_held (st ∷ sts) p = ap (λ b. nat_lt st.0 p && nat_lt p st.1 || b) (forbidden_held sts p)

-- so no stretch holds both sides of a clear place
clear_unheld : (sts : List (ℕ × ℕ)) (gs : Glyphs) (p : ℕ) → AllInOrder sts → 0 < p → p < length gs
    → IsClear (unsafe_all sts gs) p → held sts p ≡ false
clear_unheld sts gs p sorted z l clear =
    sym (forbidden_held sts p) ∙ clear-places false false (break_calls sts) gs p (calls_in_order sts sorted) z l
    (subst (λ hs. IsClear hs p) (sym (unsafe_all-calls sts gs)) clear)

-- the stretches of whole marks are in order
abbrev with_mark : ℕ × ℕ → ℕ × ℕ
with_mark st = (st.0, st.1 + 1)

with_marks_in_order : (sts : List (ℕ × ℕ)) → AllInOrder sts → AllInOrder (map with_mark sts)
with_marks_in_order [] h = tt
with_marks_in_order (st ∷ sts) h = (omega (arith, h.0), with_marks_in_order sts h.1)

-- and where a mark stands behind other characters, one of them holds both sides
mark_held : (before us : List ℕ) (k : ℕ) → k < length us → is_thai_mark (get_or us k 0) ≡ true → 0 < length before + k
    → held (map with_mark (mark_stretches_of_each (each_after before us))) (length before + k) ≡ true
mark_held before [] k l mark z = absurd (omega arith)
mark_held before (u ∷ us) zero l mark z =
    let n = length before in
    let base = thai_base_place before in
    let rest = mark_stretches_of_each (each_after (before ++ u ∷ []) us) in
    subst (λ b. held (map with_mark (cond b ((base, n) ∷ []) [] ++ rest)) (n + 0) ≡ true) (sym mark)
    (or_left _ _ (and_from _ _ (lt-ltb base (n + 0) (omega arith)) (lt-ltb (n + 0) (n + 1) (omega arith))))
mark_held before (u ∷ us) (suc k) l mark z =
    let n = length before in
    let base = thai_base_place before in
    let rest = mark_stretches_of_each (each_after (before ++ u ∷ []) us) in
    let long = length-append before (u ∷ []) in
    let later : held (map with_mark rest) (n + suc k) ≡ true =
    subst (λ m. held (map with_mark rest) m ≡ true) (omega (arith, long))
    (mark_held (before ++ u ∷ []) us k (omega arith) mark (omega (arith, long))) in
    elim (is_thai_mark u) as (λ b. held (map with_mark (cond b ((base, n) ∷ []) [] ++ rest)) (n + suc k) ≡ true) [
      | true ↦ or_right _ _ later
      | false ↦ later
    ]

-- what follows only adds flags
formed_added : (has : ℕ → Bool) (before after : List ℕ) (gs : Glyphs)
    → OnlyFlagsAdded gs (with_characters (forms_between has before (characters gs) after) gs)
formed_added has before after [] = tt
formed_added has before after (g ∷ gs) =
    let u = form_between has before g.glyph_id (characters gs ++ after) in
    (added_same g (with_character g u) refl refl, formed_added has (before ++ g.glyph_id ∷ []) after gs)

forms_added : (has : ℕ → Bool) (gs : Glyphs) → OnlyFlagsAdded gs (pua_shaped has gs)
forms_added has gs =
    let us = characters gs in
    let sts = mark_stretches us in
    let flags = unsafe_all sts gs in
    let added : OnlyFlagsAdded gs flags = subst (OnlyFlagsAdded gs) (unsafe_all-calls sts gs)
    (alone_added gs (flags_called false false (break_calls sts) gs)
    (flags_called-alone false false (break_calls sts) gs (calls_in_order sts (in_order (each_after [] us))))) in
    all_added_on gs flags (pua_shaped has gs) added (formed_added has [] [] flags)

-- so a clear place has no mark behind it
clear_letter : (has : ℕ → Bool) (ms : Glyphs) (p : ℕ) → 0 < p
    → p < length (pua_shaped has (unsafe_all (whole_mark_stretches (characters ms)) ms))
    → p < length ms → IsClear (pua_shaped has (unsafe_all (whole_mark_stretches (characters ms)) ms)) p
    → is_thai_mark (get_or (characters ms) p 0) ≡ false
clear_letter has ms p z l within clear =
    let us = characters ms in
    let sts = whole_mark_stretches us in
    let flags = unsafe_all sts ms in
    let free = clear_unheld sts ms p (with_marks_in_order (mark_stretches us) (in_order (each_after [] us))) z within
    (added_clear flags (pua_shaped has flags) (forms_added has flags) p z l clear) in
    let inside : p < length us = omega (arith, within, length-map ms (λ (g : Glyph). g.glyph_id)) in
    false_from_ne_true (is_thai_mark (get_or us p 0)) (λ mark. both_ways _ free
    (subst (λ k. held sts k ≡ true) (omega arith) (mark_held [] us p inside mark (omega (arith, z)))))

pub thai_sound_break : ThaiSoundBreakLaw
thai_sound_break plan font old new asked sound m mono is p z l clear =
    let has = has_nominal font in
    let ms = sara_ams_taken old.level old.glyphs in
    let made : new.glyphs ≡ pua_shaped has (unsafe_all (whole_mark_stretches (characters ms)) ms) =
    formed_of plan font asked old new is ∙ ap (λ b. preprocessed_flagged b true has old.level old.glyphs) sound in
    let cluster : Glyph → ℕ = λ g. g.cluster in
    let same = formed_clusters plan font asked old new is in
    let long : length new.glyphs ≡ length ms = sym (length-map new.glyphs cluster) ∙ ap length same
    ∙ length-map ms cluster in
    forms_broken plan font old new asked m mono is p z l clear.differ
    (clear_letter has ms p z (omega (arith, l, ap length made)) (omega (arith, l, long))
    (subst (λ hs. IsClear hs p) made clear))
