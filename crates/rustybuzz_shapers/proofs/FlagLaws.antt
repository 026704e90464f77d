-- Setting masks only adds glyph flags, whatever the shaper; so do all pauses that reorder nothing.
use Rattle.std.proofs.Common.{arith}
use Rattle.std.proofs.Common.{◌≡◌, ℕ, [], ◌∷◌, Option, None, Some, map, take, drop}
use Rattle.std.specs.List.{prefix_len}
use Rattle.std.proofs.lemmas.List.{take-append-drop}
use Rattle.shapers_buffer.specs.Syllables.{in_syllable}
use Rattle.shapers_base.specs.declared.plan.PlanData.{PlanData}
use Rattle.shapers_clusters.proofs.Falls.{all_append}
use Rattle.shapers_stretch.specs.Recorded.{recorded, tiles_recorded}
use Rattle.shapers_syllabic.specs.Syllabic.{unsubstituted}
use Rattle.shapers_syllabic.proofs.SetupFlags.{by_syllables, same_added}
use Rattle.shapers_universal.specs.declared.ot_shaper_use.category.TheConstants.{R}
use Rattle.shapers_universal.specs.UniversalSyllables.{first_recorded, rphf_recorded, with_pref_recorded, with_rphf_recorded}
use Rattle.shapers_base.specs.Masks.{has_bits}
use Rattle.shapers_buffer.specs.Glyphs.{Glyph, Glyphs}
use Rattle.shapers_buffer.specs.declared.buffer.tag.Script.{Script}
use Rattle.shapers_buffer.specs.Buffer.{Buffer}
use Rattle.shapers_base.specs.declared.plan.arabic.arabic_shape_plan_t.{arabic_shape_plan_t}
use Rattle.shapers_base.specs.declared.plan.hb_ot_shape_plan_t.{hb_ot_shape_plan_t}
use Rattle.shapers_base.specs.Font.{CharacterTables}
use Rattle.shapers_arabic.proofs.JoinedFlags.{joined_added}
use Rattle.shapers_clusters.specs.FlagLaw.{FlagsAdded, OnlyFlagsAdded}
use Rattle.shapers_clusters.proofs.FlagLaw.{added_same, all_added_on, changed_added}
use Rattle.shapers_hangul.proofs.HangulFlags.{jamo_mask_added}
use Rattle.shapers_universal.specs.UniversalMasks.{MasksAreSet, with_categories}
use Rattle.rustybuzz_shapers.specs.Hooks.{MasksSet}
use Rattle.rustybuzz_shapers.specs.declared.shaper.hb_ot_shaper_t.{hb_ot_shaper_t}
use Rattle.rustybuzz_shapers.specs.declared.shaper.hb_ot_shaper_t.TheVariants.{Arabic, Hangul, Hebrew, MyanmarZawgyi, Thai, Universal}

each_changed : (change : Glyph → Glyph) → ((g : Glyph) → FlagsAdded g (change g))
    → (old new : Buffer) → new ≡ record old { glyphs = map change old.glyphs } → OnlyFlagsAdded old.glyphs new.glyphs
each_changed = search (arith, changed_added)

pub unchanged_added : (old new : Buffer) → new ≡ old → OnlyFlagsAdded old.glyphs new.glyphs
unchanged_added = search (arith, same_added)

universal_added : (arabic : Option arabic_shape_plan_t) (script : Option Script) (tables : CharacterTables)
    (old new : Buffer) → MasksAreSet arabic script tables old new → OnlyFlagsAdded old.glyphs new.glyphs
universal_added None script tables old new is = search (arith, each_changed, added_same)
universal_added (Some p) script tables old new is =
    all_added_on old.glyphs (with_categories tables old).glyphs new.glyphs (search (arith, changed_added, added_same))
    (search (arith, joined_added))

pub masks_added : (shaper : hb_ot_shaper_t) (plan : hb_ot_shape_plan_t) (tables : CharacterTables) (old new : Buffer)
    → MasksSet shaper plan tables old new → OnlyFlagsAdded old.glyphs new.glyphs
masks_added Arabic plan tables old new is = search (arith, joined_added)
masks_added Hangul plan tables old new is = search (arith, each_changed, jamo_mask_added)
masks_added Hebrew plan tables old new is = unchanged_added old new is.1
masks_added MyanmarZawgyi plan tables old new is = unchanged_added old new is.1
masks_added Thai plan tables old new is = unchanged_added old new is.1
masks_added Universal plan tables old new is = search (arith, universal_added)
masks_added _ plan tables old new is = search (arith, each_changed, added_same)

-- PAUSES. Records
first_added : (c : ℕ) (gs : Glyphs) → OnlyFlagsAdded gs (first_recorded c gs)
first_added c [] = tt
first_added c (g ∷ gs) = search (arith, added_same, same_added, first_added c gs)

rphf_added : (mask : ℕ) (gs : Glyphs) → OnlyFlagsAdded gs (rphf_recorded mask gs)
rphf_added mask gs =
    let n = prefix_len (has_bits mask) gs in
    search (
      arith,
      take-append-drop n gs,
      all_append FlagsAdded (take n gs) (first_recorded R (take n gs)) (drop n gs) (drop n gs)
          (first_added R (take n gs)) (same_added (drop n gs)),
    )

pub rphf_record_added : (mask : ℕ) (old new : Buffer) → new ≡ with_rphf_recorded mask old
    → OnlyFlagsAdded old.glyphs new.glyphs
rphf_record_added = search (arith, by_syllables, rphf_added)

pub pref_record_added : (old new : Buffer) → new ≡ with_pref_recorded old → OnlyFlagsAdded old.glyphs new.glyphs
pref_record_added = search (arith, by_syllables, first_added)

tile_added : (g : Glyph) → FlagsAdded g (recorded g)
tile_added = search (arith, added_same)

pub tiles_added : (kept : PlanData) (old new : Buffer) → new ≡ tiles_recorded kept old
    → OnlyFlagsAdded old.glyphs new.glyphs
tiles_added = search (arith, changed_added, tile_added, same_added)

-- bytes and marks cleared
pub bytes_cleared : (old new : Buffer) → new ≡ record old { glyphs = map (in_syllable 0) old.glyphs }
    → OnlyFlagsAdded old.glyphs new.glyphs
bytes_cleared = search (arith, each_changed, added_same)

pub marks_cleared : (old new : Buffer) → new ≡ record old { glyphs = map unsubstituted old.glyphs }
    → OnlyFlagsAdded old.glyphs new.glyphs
marks_cleared = search (arith, each_changed, added_same)
