-- The flag law of the hook, with the private use forms and without.
use Rattle.std.proofs.Common.{◌≡◌, ℕ, Bool, false, List, [], ◌∷◌, length, map, refl, ◌∙◌, arith}
use Rattle.std.proofs.lemmas.List.{length-map}
use Rattle.shapers_buffer.specs.Glyphs.{Glyph, Glyphs}
use Rattle.shapers_buffer.specs.declared.buffer.level.BufferClusterLevel.{BufferClusterLevel}
use Rattle.shapers_buffer.specs.Glyph.{characters}
use Rattle.shapers_buffer.specs.GlyphFlags.{unsafe_all}
use Rattle.shapers_buffer.specs.Places.{pick}
use Rattle.shapers_base.specs.declared.plan.breaks.BreakFlags.{BreakFlags}
use Rattle.shapers_clusters.proofs.FlagLaw.{all_fallen, all_stay_as, all_stay_on, unsafe_all_stays}
use Rattle.shapers_text.specs.Thai.{sara_am_sources}
use Rattle.shapers_text.specs.ThaiForms.{forms_between, mark_stretches, marks_flagged, preprocessed_text, pua_shaped, with_character, with_characters}
use Rattle.shapers_text.specs.ThaiLaws.{FlagsInTwo}
use Rattle.shapers_text.proofs.ThaiClusters.{in_two_holds}
use Rattle.shapers_text.proofs.ThaiFormLaws.{length-forms}
use Rattle.shapers_text.proofs.ThaiFormWalks.{in_order}
use Rattle.shapers_text.proofs.ThaiWholeMarks.{marks_flagged_stay}

-- what is read of glyphs, characters apart
map-with_characters : {Y : Type 0} (f : Glyph → Y) → ((u : ℕ) (g : Glyph) → f (with_character g u) ≡ f g)
    → (us : List ℕ) (gs : Glyphs) → length us ≡ length gs → map f (with_characters us gs) ≡ map f gs
map-with_characters f apart [] [] same = refl
map-with_characters f apart (u ∷ us) (g ∷ gs) same = cc (apart u g, map-with_characters f apart us gs (omega arith))
map-with_characters f apart _ _ same = absurd (omega arith)

pub plain_flags : (level : BufferClusterLevel) (gs text : Glyphs)
    → text ≡ preprocessed_text false (λ _. false) level gs → FlagsInTwo gs text
plain_flags level gs = search (
  arith,
  all_fallen (pick (sara_am_sources (characters gs)) gs) (preprocessed_text false (λ _. false) level gs)
      (in_two_holds level gs).falls,
)

pub shaped_flags : (breaks : BreakFlags) (has : ℕ → Bool) (level : BufferClusterLevel)
    (gs text shaped : Glyphs) → text ≡ preprocessed_text false has level gs
    → shaped ≡ pua_shaped has (marks_flagged breaks text) → FlagsInTwo gs shaped
shaped_flags breaks has level gs text shaped is forms =
    let flagged = marks_flagged breaks text in
    all_stay_on (pick (sara_am_sources (characters gs)) gs) text shaped (plain_flags level gs text is)
    (
    search (
      arith,
      all_stay_on text flagged (pua_shaped has flagged) (marks_flagged_stay breaks text)
          (let flags = unsafe_all (mark_stretches (characters flagged)) flagged in let long = length-forms has []
          (characters flags) [] ∙ length-map flags (λ g. g.glyph_id) in all_stay_as flagged flags (with_characters
          (forms_between has [] (characters flags) []) flags) (search (arith, map-with_characters)) (search (
            arith,
            map-with_characters,
          )) (search (arith, unsafe_all_stays, in_order))),
    ))
