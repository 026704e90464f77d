-- What an edit of a text leaves of the syllables outside it, where a set-up by spans and the
-- reorderings directly behind it can be cut between spans.
use Rattle.std.specs.Prelude.{ℕ, ◌-◌, ◌≤◌, ◌≡◌, true, List, ◌++◌, All, length, map, take, drop}
use Rattle.shapers_base.specs.declared.plan.hb_ot_shape_plan_t.{hb_ot_shape_plan_t}
use Rattle.shapers_base.specs.declared.plan.pause.Pause.{Pause}
use Rattle.shapers_base.specs.declared.plan.pause.Pause.TheVariants.{SetupSyllablesIndic, SetupSyllablesUse, InitialReordering, ReorderUse, FinalReordering}
use Rattle.shapers_base.specs.Font.{Font}
use Rattle.shapers_buffer.specs.Glyphs.{Glyph, Glyphs}
use Rattle.shapers_buffer.specs.declared.buffer.syllables.Span.{Span}
use Rattle.shapers_buffer.specs.Buffer.{Buffer}
use Rattle.shapers_buffer.specs.Glyph.{clusters, order_view}
use Rattle.shapers_buffer.specs.Syllables.{spans_cover}
use Rattle.shapers_clusters.specs.Cuts.{ShareNone}
use Rattle.shapers_indic.specs.Plan.{indic_in}
use Rattle.shapers_indic_final.specs.FinalCuts.{final_after, final_clusters_after, uninitiated}
use Rattle.shapers_indic_final.specs.FinalRules as final
use Rattle.shapers_syllabic.specs.Borders.{unnumbered}
use Rattle.shapers_syllabic.specs.ReorderingLaws.{paused_clusters, paused_order}
use Rattle.shapers_syllabic.specs.SpanCuts.{CutsBetweenSpans}
use Rattle.shapers_syllabic.specs.Syllabic.{unsafe_spans}
use Rattle.shapers_universal.specs.UniversalLaws.{setup_by_spans, without_serial_or_forms}
use Rattle.rustybuzz_shapers.specs.Pauses.{Paused, Reordering, by_initial, by_universal}

-- a part of a text, with the spans that cover it
pub record TextPart : Type 0 where
  pub glyphs : Glyphs
  pub spans : List Span
  pub covered : spans_cover (length glyphs) spans ≡ true

-- a text of three parts: what stands in front of an edit, what is edited, and what stands behind it
abbrev pub whole_glyphs : TextPart → TextPart → TextPart → Glyphs
whole_glyphs front middle back = front.glyphs ++ (middle.glyphs ++ back.glyphs)

abbrev pub whole_spans : TextPart → TextPart → TextPart → List Span
whole_spans front middle back = front.spans ++ (middle.spans ++ back.spans)

-- the last n of a list
abbrev pub last_n : {X : Type 0} → ℕ → List X → List X
last_n n xs = drop (length xs - n) xs

-- Two lists begin with the same n elements, and end with the same m.
pub record AlikeAtEnds {X : Type 0} (n m : ℕ) (xs ys : List X) : Type 0 where
  pub front : take n xs ≡ take n ys
  pub back : last_n m xs ≡ last_n m ys
  pub fits : (n ≤ length xs) × ((n ≤ length ys) × ((m ≤ length xs) × (m ≤ length ys)))

-- What texts that differ in their middle part become, xs and ys, is the same in front and behind,
-- as far as what the other parts become by themselves reaches: in the order view as far as the view
-- shows it; and in the clusters, where neither part shares one with the rest.
pub record SameOutside (view : Glyph → Glyph) (made : TextPart →
    Glyphs) (clusters_made : TextPart → List ℕ) (front old new back : TextPart)
    (xs ys : Glyphs) : Type 0 where
  pub order : AlikeAtEnds (length (made front)) (length (made back))
      (map view (order_view xs)) (map view (order_view ys))
  pub in_clusters : ShareNone front.glyphs (old.glyphs ++ back.glyphs) →
      ShareNone (front.glyphs ++ old.glyphs) back.glyphs →
      ShareNone front.glyphs (new.glyphs ++ back.glyphs) →
      ShareNone (front.glyphs ++ new.glyphs) back.glyphs →
      AlikeAtEnds (length (clusters_made front)) (length (clusters_made back))
      (clusters xs) (clusters ys)

-- so of any set-up and pauses that can be cut between spans
abbrev pub EditsStayOutside : Type 0
EditsStayOutside = (view : Glyph → Glyph)
    (setup : List Span → Glyphs → Glyphs)
    (made : Glyphs → Glyphs)
    (clusters_made : Glyphs → List ℕ)
    (front old new back : TextPart) (xs ys : Glyphs) →
    CutsBetweenSpans view setup made clusters_made (whole_spans front old back)
    (whole_glyphs front old back) xs →
    CutsBetweenSpans view setup made clusters_made (whole_spans front new back)
    (whole_glyphs front new back) ys →
    SameOutside view (λ part. made (setup part.spans part.glyphs))
    (λ part. clusters_made (setup part.spans part.glyphs)) front old new back xs ys

-- A set-up by the spans of a text, and of the text edited, and a reordering directly behind each,
-- where both are reordered by the same rule: both marked broken, or neither.
abbrev pub PausesStayOutside :
    Pause → Pause → (hb_ot_shape_plan_t → Font → Buffer → Reordering) → Type 0
PausesStayOutside setup pause by = (plan : hb_ot_shape_plan_t) (font : Font)
    (unread : List Span) (front old new back : TextPart) (b mid xs other ys : Buffer) →
    All (λ span. span.kind ≤ 15) (whole_spans front old back) →
    All (λ span. span.kind ≤ 15) (whole_spans front new back) →
    Paused setup plan font (whole_spans front old back)
    (record b { glyphs = whole_glyphs front old back }) mid →
    Paused pause plan font unread mid xs →
    Paused setup plan font (whole_spans front new back)
    (record b { glyphs = whole_glyphs front new back }) other →
    Paused pause plan font unread other ys →
    by plan font mid ≡ by plan font other →
    let r = by plan font mid in
    SameOutside unnumbered (λ part. paused_order r.circles r.order
    (unsafe_spans part.spans part.glyphs))
    (λ part. paused_clusters r.circles r.steps b.level (unsafe_spans part.spans part.glyphs))
    front old new back xs.glyphs ys.glyphs

-- in the universal shaper with the masks of rphf and of forms, which the view leaves out
abbrev pub UniversalStaysOutside : Type 0
UniversalStaysOutside = (plan : hb_ot_shape_plan_t) (font : Font)
    (unread : List Span) (front old new back : TextPart) (b mid xs other ys : Buffer) →
    All (λ span. span.kind ≤ 15) (whole_spans front old back) →
    All (λ span. span.kind ≤ 15) (whole_spans front new back) →
    Paused SetupSyllablesUse plan font (whole_spans front old back)
    (record b { glyphs = whole_glyphs front old back }) mid →
    Paused ReorderUse plan font unread mid xs →
    Paused SetupSyllablesUse plan font (whole_spans front new back)
    (record b { glyphs = whole_glyphs front new back }) other →
    Paused ReorderUse plan font unread other ys →
    by_universal font mid ≡ by_universal font other →
    let r = by_universal font mid in
    let setup = setup_by_spans plan.plan_data plan.ot_map in
    SameOutside (without_serial_or_forms plan.plan_data plan.ot_map)
    (λ part. paused_order r.circles r.order (setup part.spans part.glyphs))
    (λ part. paused_clusters r.circles r.steps b.level (setup part.spans part.glyphs))
    front old new back xs.glyphs ys.glyphs

-- in Indic after both reorderings
abbrev pub IndicStaysOutside : Type 0
IndicStaysOutside = (plan : hb_ot_shape_plan_t) (font : Font)
    (unread : List Span) (front old new back : TextPart)
    (b mid first xs other second ys : Buffer) →
    All (λ span. span.kind ≤ 15) (whole_spans front old back) →
    All (λ span. span.kind ≤ 15) (whole_spans front new back) →
    Paused SetupSyllablesIndic plan font (whole_spans front old back)
    (record b { glyphs = whole_glyphs front old back }) mid →
    Paused InitialReordering plan font unread mid first →
    Paused FinalReordering plan font unread first xs →
    Paused SetupSyllablesIndic plan font (whole_spans front new back)
    (record b { glyphs = whole_glyphs front new back }) other →
    Paused InitialReordering plan font unread other second →
    Paused FinalReordering plan font unread second ys →
    by_initial plan font mid ≡ by_initial plan font other →
    let r = by_initial plan font mid in
    let rules = final.final_rules font (indic_in plan) in
    SameOutside (uninitiated rules)
    (λ part. final_after rules b.script r.circles r.order (unsafe_spans part.spans part.glyphs))
    (λ part. final_clusters_after rules b.script b.level r.circles r.order r.steps
    (unsafe_spans part.spans part.glyphs))
    front old new back xs.glyphs ys.glyphs
