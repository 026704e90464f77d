-- A text from left to right keeps its characters up to normalization, where its shaper doesn't rewrite it.
use Rattle.std.proofs.Common.{◌≡◌, ℕ, ◌+◌, ◌≤◌, Bool, true, false, List, [], ◌∷◌, ◌++◌, map, Option, None, Some, refl, sym, ap, ap₂, ◌∙◌, arith}
use Rattle.std.specs.Prelude.{if◌then◌else◌}
use Rattle.std.specs.List.{AllByRecursion}
use Rattle.std.proofs.lemmas.Bool.{and_left, false≢true}
use Rattle.rustybuzz_shapers.specs.declared.shaper.hb_ot_shaper_t.{hb_ot_shaper_t}
use Rattle.rustybuzz_shapers.specs.declared.shaper.hb_ot_shaper_t.TheVariants.{Arabic, Hangul, Hebrew, Indic, Khmer, Myanmar, MyanmarZawgyi, Thai, Universal}
use Rattle.shapers_base.specs.Font.{Font, dotted_circle, has_nominal}
use Rattle.shapers_base.specs.declared.plan.hb_ot_shape_plan_t.{hb_ot_shape_plan_t}
use Rattle.shapers_buffer.specs.Buffer.{Buffer, asks}
use Rattle.shapers_buffer.specs.Glyph.{characters}
use Rattle.shapers_buffer.specs.Glyphs.{Glyphs}
use Rattle.shapers_buffer.specs.Lists.{each_after}
use Rattle.shapers_buffer.specs.declared.buffer.level.BufferClusterLevel.{BufferClusterLevel}
use Rattle.shapers_buffer.specs.declared.buffer.level.BufferClusterLevel.TheVariants.{Characters, MonotoneCharacters, MonotoneGraphemes}
use Rattle.shapers_buffer.specs.declared.buffer.level.Direction.{Direction}
use Rattle.shapers_buffer.specs.declared.buffer.level.Direction.TheVariants.{LeftToRight}
use Rattle.shapers_clusters.proofs.FlagCalls.{map-unsafe_all}
use Rattle.shapers_clusters.proofs.Merging.{map-merge_all}
use Rattle.shapers_pipeline.specs.Masks.{with_mask_alone}
use Rattle.shapers_pipeline.specs.Prepared.{Preparation, rotation_to, text_begun, text_circled, text_directed}
use Rattle.shapers_pipeline.specs.ShaperSteps.{preprocessed_for}
use Rattle.shapers_plan.specs.declared.ot_shape_plan.DriverMasks.{DriverMasks}
use Rattle.shapers_prepare.specs.CharacterProperties.{CharacterProperties}
use Rattle.shapers_prepare.specs.FirstCircle.{begins_text, behind_circle, wants_first_circle}
use Rattle.shapers_prepare.specs.GlyphProperties.{with_properties_behind}
use Rattle.shapers_prepare.specs.Graphemes.{clusters_formed, continuations, graphemes, graphemes_from}
use Rattle.shapers_prepare.specs.NativeDirection.{graphemes_reversed, graphemes_whole, in_native_direction, is_reversed, native_direction, opposite_direction, text_direction}
use Rattle.shapers_prepare.specs.Rotation.{rotated_glyph}
use Rattle.shapers_equivalence_laws.specs.PreparedTexts.{TextsAreHandedOver, rewrites_texts}

-- ---- the properties of a text, and no circle in front

begun_characters : (p : CharacterProperties) (mask : ℕ) (before gs : Glyphs)
    → characters (map (λ x. with_properties_behind p x.0 x.1) (each_after before (map (with_mask_alone mask) gs)))
    ≡ characters gs
begun_characters p mask before [] = refl
begun_characters p mask before (g ∷ gs) =
    ap (λ cs. g.glyph_id ∷ cs) (begun_characters p mask (before ++ with_mask_alone mask g ∷ []) gs)

uncircled : (p : Preparation) (b : Buffer) → asks begins_text b ≡ false
    → (text_circled p b).glyphs ≡ (text_begun p b).glyphs
uncircled p b inside =
    let begun = text_begun p b in
    let unwanted : wants_first_circle begun ≡ false =
    and_left _ _ (and_left _ _ (and_left (asks begins_text b) _ inside)) in
    ap (λ test. if test then behind_circle p.properties begun.glyphs else begun.glyphs)
    (and_left (wants_first_circle begun) (has_nominal p.font dotted_circle) unwanted)

-- ---- clusters, and no other direction

graphemes_rise : (s i : ℕ) (cs : List Bool) → s ≤ i → AllByRecursion (λ st. st.0 ≤ st.1) (graphemes_from s i cs)
graphemes_rise s i [] order = (order, tt)
graphemes_rise s i (true ∷ cs) order = graphemes_rise s (i + 1) cs (omega arith)
graphemes_rise s i (false ∷ cs) order = (order, graphemes_rise i (i + 1) cs (omega arith))

each_rises : (gs : Glyphs) → AllByRecursion (λ st. st.0 ≤ st.1) (graphemes gs)
each_rises [] = tt
each_rises (g ∷ gs) = graphemes_rise 0 1 (continuations gs) (omega arith)

formed_characters : (level : BufferClusterLevel) (gs : Glyphs) → characters (clusters_formed level gs) ≡ characters gs
formed_characters MonotoneGraphemes gs = map-merge_all (λ g. g.glyph_id) (λ g. refl) MonotoneGraphemes (graphemes gs) gs
formed_characters MonotoneCharacters gs = map-unsafe_all (λ g. g.glyph_id) (λ g. refl) (graphemes gs) gs (each_rises gs)
formed_characters Characters gs = map-unsafe_all (λ g. g.glyph_id) (λ g. refl) (graphemes gs) gs (each_rises gs)

unturned : (own native : Direction) (gs : Glyphs) → own ≡ LeftToRight → native ≡ LeftToRight
    → is_reversed own (text_direction own native gs) ≡ false
unturned own native gs e f = ap₂ (λ d n. is_reversed d (text_direction d n gs)) e f

directed_characters : (b : Buffer) → b.direction ≡ LeftToRight → native_direction b.script ≡ LeftToRight
    → characters (in_native_direction (record b { glyphs = clusters_formed b.level b.glyphs })).glyphs
    ≡ characters b.glyphs
directed_characters b own native =
    let formed : Buffer = record b { glyphs = clusters_formed b.level b.glyphs } in
    let turned : Buffer = record formed {
      direction = opposite_direction b.direction;
      glyphs = graphemes_reversed (graphemes_whole b.level formed.glyphs);
    } in
    ap (λ test. characters (if test then turned else formed).glyphs)
    (unturned b.direction (native_direction b.script) formed.glyphs own native)
    ∙ formed_characters b.level b.glyphs

-- ---- no preprocessing and no rotation

as_it_was : (shaper : Option hb_ot_shaper_t) (plan : hb_ot_shape_plan_t) (font : Font) (b : Buffer)
    → rewrites_texts shaper ≡ false → preprocessed_for shaper plan font b ≡ b
as_it_was None plan font b leaves = refl
as_it_was (Some Arabic) plan font b leaves = refl
as_it_was (Some Hangul) plan font b leaves = absurd (false≢true (sym leaves))
as_it_was (Some Hebrew) plan font b leaves = refl
as_it_was (Some Indic) plan font b leaves = absurd (false≢true (sym leaves))
as_it_was (Some Khmer) plan font b leaves = refl
as_it_was (Some Myanmar) plan font b leaves = refl
as_it_was (Some MyanmarZawgyi) plan font b leaves = refl
as_it_was (Some Thai) plan font b leaves = absurd (false≢true (sym leaves))
as_it_was (Some Universal) plan font b leaves = absurd (false≢true (sym leaves))

forward_characters : (p : CharacterProperties) (font : Font) (masks : DriverMasks) (gs : Glyphs)
    → characters (map (rotated_glyph p font (rotation_to masks LeftToRight)) gs) ≡ characters gs
forward_characters p font masks [] = refl
forward_characters p font masks (g ∷ gs) = ap (λ cs. g.glyph_id ∷ cs) (forward_characters p font masks gs)

pub handed_over : TextsAreHandedOver
handed_over p b leaves inside own native =
    let opened = text_circled p b in
    let directed = text_directed p b in
    let rotated = λ (d : Direction) (gs : Glyphs). characters (map (rotated_glyph p.properties p.font (rotation_to p.masks d)) gs) in
    ap (λ d. rotated d (preprocessed_for p.shaper p.plan p.font directed).glyphs) own
    ∙ forward_characters p.properties p.font p.masks (preprocessed_for p.shaper p.plan p.font directed).glyphs
    ∙ ap (λ (t : Buffer). characters t.glyphs) (as_it_was p.shaper p.plan p.font directed leaves)
    ∙ directed_characters opened own native
    ∙ ap characters (uncircled p b inside)
    ∙ begun_characters p.properties p.plan.ot_map.global [] b.glyphs
