-- The set-up of syllables in the universal shaper only adds glyph flags.
use Rattle.std.proofs.Common.{arith}
use Rattle.std.proofs.Common.{ℕ, ◌-◌, ◌%◌, ◌≤◌, ◌≡◌, bit_and, Bool, false, List, [], ◌∷◌, map, flat_map, take, drop, refl, subst}
use Rattle.std.proofs.lemmas.List.{take-append-drop}
use Rattle.shapers_buffer.specs.Buffer.{Buffer, new_buffer}
use Rattle.shapers_buffer.specs.Glyphs.{Glyphs}
use Rattle.shapers_buffer.specs.GlyphFlags.{with_bits}
use Rattle.shapers_buffer.specs.Syllables.{syllables, with_bytes}
use Rattle.shapers_clusters.specs.FlagLaw.{FlagsAdded, OnlyFlagsAdded}
use Rattle.shapers_clusters.proofs.Falls.{all_append}
use Rattle.shapers_clusters.proofs.FlagCalls.{flags-and}
use Rattle.shapers_clusters.proofs.FlagLaw.{added_on, changed_added, flags_kept}
use Rattle.shapers_syllabic.specs.Borders.{spans_setup}
use Rattle.shapers_syllabic.specs.Syllabic.{unsafe_syllables}
use Rattle.shapers_syllabic.proofs.CircleLaws.{joined-syllables}
use Rattle.shapers_syllabic.proofs.SetupFlags.{bits_added, by_syllables, same_added, setup_added}
use Rattle.shapers_universal.specs.UniversalSyllables.{all_forms, formed, in_forms, may_join, mask_between, rphf_len, with_instead, with_rphf}
use Rattle.shapers_universal.specs.declared.ot_shaper_use.forms.FormMasks.{FormMasks}

-- syllables in their forms
formed_added : (masks : FormMasks) (before behind : Bool) → all_forms masks % 8 ≡ 0 → all_forms masks ≤ 0xFFFFFFFF
    → (gs : Glyphs) → OnlyFlagsAdded gs (formed masks before behind gs)
formed_added masks before behind off fits gs =
    let bits = all_forms masks in
    let mask = mask_between masks before behind in
    search (
      arith,
      changed_added (with_instead bits mask)
          (λ g. let h = record g { mask = bit_and g.mask (0xFFFFFFFF - bits) } in added_on g h (with_bits mask h)
          (search (flags_kept, flags-and)) (bits_added mask h)) gs,
      same_added gs,
    )

forms_added : (masks : FormMasks) (before : Bool) → all_forms masks % 8 ≡ 0 → all_forms masks ≤ 0xFFFFFFFF
    → (syls : List Glyphs) → OnlyFlagsAdded (flat_map (λ syl. syl) syls) (in_forms masks before syls)
forms_added masks before off fits [] = tt
forms_added masks before off fits (syl ∷ syls) =
    search (all_append, formed_added, forms_added masks (may_join syl) off fits syls)

pub in_forms_added : (masks : FormMasks) → all_forms masks % 8 ≡ 0 → all_forms masks ≤ 0xFFFFFFFF
    → (gs : Glyphs) → OnlyFlagsAdded gs (in_forms masks false (syllables gs))
in_forms_added masks off fits gs =
    search (arith, joined-syllables gs, forms_added masks false off fits (syllables gs))

-- the insides of syllables
no_bytes : (gs : Glyphs) → with_bytes gs [] ≡ gs
no_bytes [] = refl
no_bytes (g ∷ gs) = refl

pub syllables_added : (gs : Glyphs) → OnlyFlagsAdded gs (unsafe_syllables gs)
syllables_added gs =
    let b : Buffer = record (new_buffer 0) { glyphs = gs } in
    subst (λ ms. OnlyFlagsAdded gs (unsafe_syllables ms)) (no_bytes gs)
    (setup_added [] 0 b (spans_setup [] 0 b) refl)

-- the mask of rphf
rphf_syllable_added : (mask : ℕ) (gs : Glyphs) → OnlyFlagsAdded gs (with_rphf mask gs)
rphf_syllable_added mask gs =
    let n = rphf_len gs in
    search (
      arith,
      take-append-drop n gs,
      all_append FlagsAdded (take n gs) (map (with_bits mask) (take n gs)) (drop n gs) (drop n gs)
          (changed_added (with_bits mask) (bits_added mask) (take n gs)) (same_added (drop n gs)),
    )

pub rphf_mask_added : (mask : ℕ) (gs : Glyphs) → OnlyFlagsAdded gs (flat_map (with_rphf mask) (syllables gs))
rphf_mask_added = search (by_syllables, rphf_syllable_added)
