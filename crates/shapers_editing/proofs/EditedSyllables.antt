-- Texts of syllables, edited, by their cuts between spans.
use Rattle.std.proofs.Common.{◌≡◌, ℕ, ◌-◌, ◌≤◌, true, ◌==◌, List, ◌++◌, drop, take, length, map, refl, sym, ap, subst, ◌∙◌, arith, append_assoc}
use Rattle.std.specs.Prelude.{nat_lt}
use Rattle.std.specs.List.{list_all, sum_by}
use Rattle.std.proofs.lemmas.Bool.{and_parts, and_from, eq-eqb, eqb-true}
use Rattle.std.proofs.lemmas.List.{length-append, length-map, take_at, drop_at}
use Rattle.std.proofs.lemmas.List.Folds.{list_all-append}
use Rattle.std.proofs.lemmas.List.Sums.{sum_by-append}
use Rattle.shapers_base.specs.declared.plan.hb_ot_shape_plan_t.{hb_ot_shape_plan_t}
use Rattle.shapers_base.specs.declared.plan.pause.Pause.{Pause}
use Rattle.shapers_base.specs.Font.{Font}
use Rattle.shapers_buffer.specs.Glyphs.{Glyph, Glyphs}
use Rattle.shapers_buffer.specs.declared.buffer.syllables.Span.{Span}
use Rattle.shapers_buffer.specs.Buffer.{Buffer}
use Rattle.shapers_buffer.specs.Glyph.{order_view}
use Rattle.shapers_buffer.specs.Syllables.{spans_cover}
use Rattle.shapers_indic.specs.Plan.{indic_in}
use Rattle.shapers_indic_final.specs.FinalCuts.{final_after, final_clusters_after, uninitiated}
use Rattle.shapers_indic_final.specs.FinalRules as final
use Rattle.shapers_syllabic.specs.Borders.{unnumbered}
use Rattle.shapers_syllabic.specs.ReorderingLaws.{paused_clusters, paused_order}
use Rattle.shapers_syllabic.specs.SpanCuts.{CutsBetweenSpans, HalvesJoined}
use Rattle.shapers_syllabic.specs.Syllabic.{unsafe_spans}
use Rattle.shapers_universal.specs.UniversalLaws.{setup_by_spans, without_serial_or_forms}
use Rattle.rustybuzz_shapers.specs.Cuts.{IndicIsCutAfterBoth, IsCut, UniversalIsCut}
use Rattle.rustybuzz_shapers.specs.Pauses.{Reordering, by_initial, by_universal}
use Rattle.shapers_editing.specs.EditedSyllables.{EditsStayOutside, IndicStaysOutside, TextPart, PausesStayOutside, AlikeAtEnds, UniversalStaysOutside, whole_glyphs, last_n, whole_spans}

abbrev len_of : Span → ℕ
len_of s = s.len

both-cover : (gs hs : Glyphs) (ss ts : List Span) → spans_cover (length gs) ss ≡ true → spans_cover
    (length hs) ts ≡ true → spans_cover (length (gs ++ hs)) (ss ++ ts) ≡ true
both-cover gs hs ss ts a b =
    let some = λ (s : Span). nat_lt 0 s.len in
    let (a0, a1) = and_parts (list_all some ss) (sum_by len_of ss == length gs) a in
    let (b0, b1) = and_parts (list_all some ts) (sum_by len_of ts == length hs) b in
    and_from (list_all some (ss ++ ts)) (sum_by len_of (ss ++ ts) == length (gs ++ hs))
    (list_all-append some ss ts ∙ and_from (list_all some ss) (list_all some ts) a0 b0)
    (eq-eqb (sum_by len_of (ss ++ ts)) (length (gs ++ hs))
    (omega (
      arith,
      sum_by-append len_of ss ts,
      length-append gs hs,
      eqb-true (sum_by len_of ss)
          (length gs) a1,
      eqb-true (sum_by len_of ts) (length hs) b1,
    )))

-- two lists that begin with F and end with B
pub same-ends : {X : Type 0} (f b one two three four xs ys : List X) → xs ≡ f ++ one → xs ≡ two ++ b → ys ≡ f ++ three → ys
    ≡ four ++ b → AlikeAtEnds (length f) (length b) xs ys
same-ends f b one two three four xs ys a c d e =
    record {
      front = first f one xs a ∙ sym (first f three ys d);
      back = last b two xs c ∙ sym (last b four ys e);
      fits = (begins f one xs a, (begins f three ys d, (ends b two xs c, ends b four ys e)));
    }
  where
    first : {X : Type 0} (f rest xs : List X) → xs ≡ f ++ rest → take (length f) xs ≡ f
    first f rest xs h = ap (take (length f)) h ∙ take_at f rest (length f) refl

    begins : {X : Type 0} (f rest xs : List X) → xs ≡ f ++ rest → length f ≤ length xs
    begins f rest xs h = omega (arith, ap length h, length-append f rest)

    ends : {X : Type 0} (b rest xs : List X) → xs ≡ rest ++ b → length b ≤ length xs
    ends b rest xs h = omega (arith, ap length h, length-append rest b)

    last : {X : Type 0} (b rest xs : List X) → xs ≡ rest ++ b → last_n (length b) xs ≡ b
    last b rest xs h =
        let long : length rest ≡ length xs - length b = omega (arith, ap length h, length-append rest b) in
        ap (drop (length xs - length b)) h ∙ drop_at rest b (length xs - length b) long

-- the two cuts of a text of three parts
record TwoCuts (view : Glyph → Glyph) (made : Glyphs → Glyphs)
    (clusters_made : Glyphs → List ℕ) (setup : List Span → Glyphs → Glyphs)
    (front middle back : TextPart) (xs : Glyphs) : Type 0 where
  first : HalvesJoined view made clusters_made front.glyphs (middle.glyphs ++ back.glyphs)
      (setup front.spans front.glyphs) (setup (middle.spans ++ back.spans) (middle.glyphs ++ back.glyphs)) xs
  second : HalvesJoined view made clusters_made (front.glyphs ++ middle.glyphs) back.glyphs
      (setup (front.spans ++ middle.spans) (front.glyphs ++ middle.glyphs)) (setup back.spans back.glyphs) xs

two-cuts : (view : Glyph → Glyph)
    (setup : List Span → Glyphs → Glyphs)
    (made : Glyphs → Glyphs) (clusters_made : Glyphs → List ℕ)
    (front middle back : TextPart) (xs : Glyphs) → CutsBetweenSpans view setup made clusters_made
    (whole_spans front middle back) (whole_glyphs front middle back) xs
    → TwoCuts view made clusters_made setup front middle back xs
two-cuts view setup made clusters_made front middle back xs cut = record {
  first = cut front.spans (middle.spans ++ back.spans) front.glyphs
      (middle.glyphs ++ back.glyphs) _ _ refl refl front.covered
      (both-cover middle.glyphs back.glyphs middle.spans back.spans middle.covered back.covered) refl refl;
  second = cut (front.spans ++ middle.spans) back.spans (front.glyphs ++ middle.glyphs) back.glyphs _ _
      (sym (append_assoc front.spans middle.spans back.spans))
      (sym (append_assoc front.glyphs middle.glyphs back.glyphs))
      (both-cover front.glyphs middle.glyphs front.spans middle.spans front.covered middle.covered) back.covered refl
      refl;
}

pub outside : EditsStayOutside
outside view setup made clusters_made front old new back xs ys one two =
    let a = two-cuts view setup made clusters_made front old back xs one in
    let b = two-cuts view setup made clusters_made front new back ys two in
    let front_up = setup front.spans front.glyphs in
    let back_up = setup back.spans back.glyphs in
    record {
      order = subst (λ n. AlikeAtEnds n (length (made back_up)) (map view (order_view xs)) (map view (order_view ys)))
          (length-map (made front_up) view)
          (subst (λ m. AlikeAtEnds (length (map view (made front_up))) m (map view (order_view xs))
          (map view (order_view ys))) (length-map (made back_up) view)
          (same-ends (map view (made front_up)) (map view
          (made back_up)) _ _ _ _ _ _ a.first.order a.second.order b.first.order b.second.order));
      in_clusters = λ i j k l. same-ends _ _ _ _ _ _ _ _ (a.first.in_clusters i) (a.second.in_clusters j)
          (b.first.in_clusters k) (b.second.in_clusters l);
    }

pub pauses-outside : (setup pause : Pause) (by : hb_ot_shape_plan_t → Font → Buffer → Reordering)
    → IsCut setup pause by → PausesStayOutside setup pause by
pauses-outside setup pause by law plan font unread front old new back b mid xs other ys fit fits a c d e same =
    let r = by plan font mid in
    outside unnumbered unsafe_spans (paused_order r.circles r.order)
    (paused_clusters r.circles r.steps b.level) front old new back xs.glyphs ys.glyphs
    (law plan font (whole_spans front old back) unread _ mid xs fit a c)
    (subst (λ (s : Reordering). CutsBetweenSpans unnumbered unsafe_spans (paused_order s.circles s.order)
    (paused_clusters s.circles s.steps b.level) (whole_spans front new back) (whole_glyphs front new back) ys.glyphs)
    (sym same)
    (law plan font (whole_spans front new back) unread _ other ys fits d e))

pub universal-outside : UniversalIsCut → UniversalStaysOutside
universal-outside law plan font unread front old new back b mid xs other ys fit fits a c d e same =
    let r = by_universal font mid in
    let view = without_serial_or_forms plan.plan_data plan.ot_map in
    let setup = setup_by_spans plan.plan_data plan.ot_map in
    outside view setup (paused_order r.circles r.order)
    (paused_clusters r.circles r.steps b.level) front old new back xs.glyphs ys.glyphs
    (law plan font (whole_spans front old back) unread _ mid xs fit a c)
    (subst (λ (s : Reordering). CutsBetweenSpans view setup (paused_order s.circles s.order)
    (paused_clusters s.circles s.steps b.level) (whole_spans front new back) (whole_glyphs front new back) ys.glyphs)
    (sym same)
    (law plan font (whole_spans front new back) unread _ other ys fits d e))

pub indic-outside : IndicIsCutAfterBoth → IndicStaysOutside
indic-outside law plan font unread front old new back b mid first xs other second ys fit fits a c c2 d e e2 same =
    let r = by_initial plan font mid in
    let rules = final.final_rules font (indic_in plan) in
    outside (uninitiated rules) unsafe_spans (final_after rules b.script r.circles r.order)
    (final_clusters_after rules b.script b.level r.circles r.order r.steps) front old new back xs.glyphs ys.glyphs
    (law plan font (whole_spans front old back) unread _ mid first xs fit a c c2)
    (subst (λ (s : Reordering). CutsBetweenSpans (uninitiated rules) unsafe_spans
    (final_after rules b.script s.circles s.order)
    (final_clusters_after rules b.script b.level s.circles s.order s.steps) (whole_spans front new back)
    (whole_glyphs front new back) ys.glyphs) (sym same)
    (law plan font (whole_spans front new back) unread _ other second ys fits d e e2))
