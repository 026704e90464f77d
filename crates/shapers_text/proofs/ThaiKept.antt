-- No glyph is lost by the hook, and none made but the two parts of each SARA AM.
use Rattle.std.proofs.Common.{arith}
use Rattle.std.proofs.Common.{◌≡◌, ℕ, Bool, true, false, List, [], ◌∷◌, map, refl, ap}
use Rattle.std.specs.List.{flat_map}
use Rattle.std.proofs.lemmas.List.{map-append}
use Rattle.std.proofs.lemmas.List.Sorted.{IsPermutation-map}
use Rattle.std.proofs.lemmas.Simd.{map-map}
use Rattle.shapers_buffer.specs.Glyphs.{Glyph, Glyphs}
use Rattle.shapers_buffer.specs.declared.buffer.level.BufferClusterLevel.{BufferClusterLevel}
use Rattle.shapers_buffer.specs.Glyph.{order_view}
use Rattle.shapers_buffer.specs.Clusters.{merge_all}
use Rattle.shapers_base.specs.declared.plan.breaks.BreakFlags.{BreakFlags}
use Rattle.shapers_clusters.proofs.FlagCalls.{without_flags-or}
use Rattle.shapers_clusters.proofs.Merging.{order_view-merge_all}
use Rattle.shapers_text.specs.Thai.{glyph_rule, in_parts, glyphs_in_two}
use Rattle.shapers_text.specs.ThaiForms.{marks_flagged, preprocessed_text, pua_shaped}
use Rattle.shapers_text.specs.ThaiLaws.{kept_view, without_form, KeptInTwo}
use Rattle.shapers_text.proofs.ThaiFormWalks.{without_form-pua}
use Rattle.shapers_text.proofs.ThaiInTwo.{kept}
use Rattle.shapers_text.proofs.ThaiWholeMarks.{map-marks_flagged}

abbrev parts : Glyph → Glyphs
parts g = in_parts glyph_rule g

seen_all : (forms : Bool) (gs : Glyphs) → map (kept_view forms) (flat_map parts gs)
    ≡ map (kept_view forms) (flat_map parts (order_view gs))
seen_all forms [] = refl
seen_all forms (g ∷ gs) = search (arith, map-append, seen_all forms gs)

-- the rewriting of the merged text
kept_merged : (forms : Bool) (level : BufferClusterLevel) (sts : List (ℕ × ℕ)) (gs : Glyphs)
    → KeptInTwo forms gs (glyphs_in_two (merge_all level sts gs))
kept_merged forms level sts gs =
    let ms = merge_all level sts gs in
    search (
      arith,
      seen_all,
      order_view-merge_all,
      seen_all forms gs,
      IsPermutation-map (kept_view forms) (flat_map parts ms) (glyphs_in_two ms) (kept glyph_rule ms).whole,
    )

-- the forms change characters and flags alone
formless : (has : ℕ → Bool) (text : Glyphs) → map (kept_view true) (pua_shaped has text) ≡ map (kept_view true) text
formless has text =
    let clear = λ (g : Glyph). (record g { cluster = 0 }) in
    search (arith, map-map, without_form-pua has text, map-map clear without_form text)

pub kept_in_two : (forms : Bool) (has : ℕ → Bool) (level : BufferClusterLevel) (gs : Glyphs)
    → KeptInTwo forms gs (preprocessed_text forms has level gs)
kept_in_two false = search (arith, kept_merged)
kept_in_two true = search (arith, formless, kept_merged)

-- the whole hook
pub plain_kept : (forms : Bool) → false ≡ forms → (level : BufferClusterLevel) (gs text : Glyphs)
    → text ≡ preprocessed_text false (λ _. false) level gs → KeptInTwo forms gs text
plain_kept forms none level gs = search (arith, kept_in_two false (λ _. false) level gs)

pub shaped_kept : (forms : Bool) → true ≡ forms
    → (breaks : BreakFlags) (has : ℕ → Bool) (level : BufferClusterLevel) (gs text shaped : Glyphs)
    → text ≡ preprocessed_text false has level gs → shaped ≡ pua_shaped has (marks_flagged breaks text)
    → KeptInTwo forms gs shaped
shaped_kept forms some breaks has level gs =
    let whole = preprocessed_text false has level gs in
    search (
      arith,
      formless,
      map-marks_flagged (kept_view true)
          (λ g. ap (λ n. (record g { glyph_id = 0; cluster = 0; mask = n })) (without_flags-or g.mask 3 refl)) breaks
          whole,
      kept_in_two true has level gs,
    )
