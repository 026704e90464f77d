-- The order of a syllable reads neither serials nor masks, so a set-up and a pause directly after
-- it may be cut between two spans.
use Rattle.std.proofs.Common.{ℕ, ◌-◌, ◌≡◌, bit_and, List, [], ◌∷◌, ◌++◌, map, Option, None, Some, refl, sym, ◌∙◌, ap, subst, arith}
use Rattle.shapers_buffer.specs.Glyphs.{Glyph, Glyphs}
use Rattle.shapers_buffer.specs.declared.buffer.level.BufferClusterLevel.{BufferClusterLevel}
use Rattle.shapers_buffer.specs.Glyph.{clusters, order_view, without_flags}
use Rattle.shapers_base.specs.Map.{Map}
use Rattle.shapers_base.specs.declared.plan.arabic.arabic_shape_plan_t.{arabic_shape_plan_t}
use Rattle.shapers_clusters.specs.Steps.{Step}
use Rattle.shapers_clusters.proofs.FlagCalls.{without_flags-or}
use Rattle.shapers_clusters.proofs.Merging.{without_flags-twice}
use Rattle.shapers_syllabic.specs.declared.ot_shaper_syllabic.circles.DottedCircles.{DottedCircles}
use Rattle.shapers_syllabic.specs.Borders.{MeetAtBorder, SameButSerials, spans_setup, unnumbered}
use Rattle.shapers_syllabic.specs.Circles.{circled}
use Rattle.shapers_syllabic.specs.ReorderingLaws.{paused_clusters, paused_order, with_mask_by}
use Rattle.shapers_syllabic.specs.SpanCuts.{HalvesJoined}
use Rattle.shapers_syllabic.specs.declared.ot_shaper_syllabic.kinds.use_syllable.TheConstants.{BROKEN_CLUSTER}
use Rattle.shapers_syllabic.proofs.HiddenCuts.{MaskKeepsFlags, SetupParts, circled-by, clusters-by, joined_halves, paused_clusters_are}
use Rattle.shapers_syllabic.proofs.LawsThen.{reads_by_view}
use Rattle.shapers_syllabic.proofs.PauseCuts.{clusters-setup}
use Rattle.shapers_syllabic.proofs.Views.{KeepsKinds, masks_view, unnumbered_view}
use Rattle.shapers_universal.specs.PlanData.{arabic_of}
use Rattle.shapers_universal.specs.Universal.{universal_order, universal_steps}
use Rattle.shapers_universal.specs.UniversalCuts.{formless_for}
use Rattle.shapers_universal.specs.UniversalLaws.{UniversalCutsBetweenSpans, UniversalReadsNoMasks, UniversalReadsNoSerials, setup_by_spans}
use Rattle.shapers_universal.specs.UniversalSyllables.{all_forms, form_masks, syllables_setup, with_forms_flagged}
use Rattle.shapers_universal.proofs.TornPairs.{map-forms_flagged}
use Rattle.shapers_universal.proofs.UniversalCuts.{clusters-masks, flags-and, formless_cuts}
use Rattle.shapers_universal.specs.Proved.UniversalView.{universal_laws, universal_order-seen, universal_steps-seen}

pub universal_reads_no_serials : UniversalReadsNoSerials
universal_reads_no_serials =
    let kinds : KeepsKinds unnumbered_view = λ b. omega arith in
    reads_by_view universal_order universal_steps (λ gs. sym (universal_order-seen unnumbered_view kinds gs))
    (universal_steps-seen unnumbered_view kinds)

pub universal_reads_no_masks : UniversalReadsNoMasks
universal_reads_no_masks = record {
  meant = λ f gs. universal_order-seen (masks_view f) (λ b. refl) gs;
  led = λ f gs. universal_steps-seen (masks_view f) (λ b. refl) gs;
}

-- a mask without the bits of forms
abbrev without_forms : Option arabic_shape_plan_t → Map → ℕ → ℕ
without_forms None m mask = bit_and mask (0xFFFFFFFF - all_forms (form_masks m))
without_forms (Some p) m mask = mask

formless_all : (arabic : Option arabic_shape_plan_t) (m : Map)
    → formless_for arabic m ≡ with_mask_by (without_forms arabic m)
formless_all None m = refl
formless_all (Some p) m = refl

keeps_flags : (arabic : Option arabic_shape_plan_t) (m : Map) → MaskKeepsFlags (without_forms arabic m)
keeps_flags None m mask = search flags-and
keeps_flags (Some p) m mask = refl

-- glyph flags don't show in what a pause makes
abbrev flagless : Glyph → Glyph
flagless = with_mask_by without_flags

view-flagless : (gs : Glyphs) → order_view (map flagless gs) ≡ order_view gs
view-flagless [] = refl
view-flagless (g ∷ gs) = cc (without_flags-twice g.mask, view-flagless gs)

opened_view : (circles : Option DottedCircles) (gs hs : Glyphs) → map flagless gs ≡ map flagless hs
    → order_view (circled circles gs) ≡ order_view (circled circles hs)
opened_view circles gs hs alike =
    let told : (xs : Glyphs) → order_view (circled circles (map flagless xs)) ≡ order_view (circled
    circles xs) = λ xs. ap order_view (circled-by without_flags circles xs) ∙ view-flagless (circled circles xs) in
    cc (told gs, told hs)

opened_clusters : (circles : Option DottedCircles) (gs hs : Glyphs) → map flagless gs ≡ map flagless hs
    → clusters (circled circles gs) ≡ clusters (circled circles hs)
opened_clusters circles gs hs alike =
    let told : (xs : Glyphs) → clusters (circled circles (map flagless xs)) ≡ clusters (circled circles
    xs) = λ xs. ap clusters (circled-by without_flags circles xs) ∙ clusters-by without_flags (circled circles xs) in
    cc (told gs, told hs)

order_alike : (circles : Option DottedCircles) (meaning : Glyphs → Glyphs) (gs hs : Glyphs)
    → map flagless gs ≡ map flagless hs → paused_order circles meaning gs ≡ paused_order circles meaning hs
order_alike = search (arith, opened_view)

clusters_alike : (circles : Option DottedCircles) (steps : Glyphs → List Step) (level : BufferClusterLevel)
    (gs hs : Glyphs) → map flagless gs ≡ map flagless hs → paused_clusters circles steps level gs
    ≡ paused_clusters circles steps level hs
clusters_alike = search (arith, opened_view, opened_clusters)

pub universal_cuts_between_spans : UniversalCutsBetweenSpans
universal_cuts_between_spans breaks kept m circles spans old new kinds done ss ts gs hs xs ys split text first second
    one two =
    let f = without_forms (arabic_of kept) m in
    let set = setup_by_spans kept m in
    let cut = formless_cuts kept m spans old kinds ss ts gs hs split text first second in
    let is = formless_all (arabic_of kept) m in
    let front = set ss gs in
    let back = set ts hs in
    let whole = set spans old.glyphs in
    let flagged = with_forms_flagged breaks kept m (syllables_setup kept m spans old) in
    let alike =
    map-forms_flagged flagless (λ g. ap (λ n. (record g { mask = n }))
    (without_flags-or g.mask 3 refl)) (arabic_of kept) breaks m whole in
    let parts : SetupParts f gs hs whole front back = record {
      behind = cut.behind;
      parts = ap (λ (h : Glyph → Glyph). map h whole) (sym is) ∙ cut.parts
          ∙ ap (λ (h : Glyph → Glyph). map h front ++ cut.behind) is;
      renumbered = subst (λ (h : Glyph → Glyph). SameButSerials cut.behind (map h back)) is cut.renumbered;
      border = subst (λ (h : Glyph → Glyph). MeetAtBorder (map h front) cut.behind) is cut.border;
      first = clusters-masks kept m (spans_setup ss BROKEN_CLUSTER (record old { glyphs = gs })).glyphs
          ∙ clusters-setup ss BROKEN_CLUSTER (record old { glyphs = gs });
      both = clusters-masks kept m (spans_setup spans BROKEN_CLUSTER old).glyphs
          ∙ clusters-setup spans BROKEN_CLUSTER old ∙ ap clusters text;
    } in
    let read = universal_reads_no_masks in
    subst (λ (h : Glyph → Glyph). HalvesJoined (λ g. unnumbered (h g))
    (paused_order circles universal_order) (paused_clusters circles universal_steps old.level) gs hs xs ys
    new.glyphs) (sym is)
    (joined_halves f (keeps_flags (arabic_of kept) m) circles universal_order universal_steps old.level universal_laws
    universal_reads_no_serials (read.meant f) (read.led f)
    gs hs whole front back xs ys new.glyphs parts one two (done.order
    ∙ order_alike circles universal_order flagged.glyphs whole alike)
    (paused_clusters_are circles universal_order universal_steps flagged new done
    ∙ clusters_alike circles universal_steps old.level flagged.glyphs whole alike))
