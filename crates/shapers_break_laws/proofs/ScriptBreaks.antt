-- Each syllabic shaper's set-up and reordering may be broken at every clear place.
use Rattle.std.proofs.Common.{ℕ, ◌≤◌, ◌≡◌, true, false, if◌then◌else◌, List, [], ◌∷◌, length, take, drop, refl, sym, ap, ◌∙◌, subst, arith, inl, inr}
use Rattle.std.specs.Prelude.{Option, None, Some, unwrap_or}
use Rattle.std.specs.List.{AllByRecursion, flat_map}
use Rattle.shapers_buffer.specs.Buffer.{Buffer}
use Rattle.shapers_buffer.specs.Glyph.{clusters, default_glyph}
use Rattle.shapers_buffer.specs.Syllables.{syllables}
use Rattle.shapers_base.specs.Font.{dotted_circle}
use Rattle.shapers_base.specs.declared.font.GlyphId.{GlyphId}
use Rattle.shapers_base.specs.declared.plan.pause.Pause.TheVariants.{ReorderKhmer, ReorderMyanmar, SetupSyllablesKhmer, SetupSyllablesMyanmar}
use Rattle.shapers_clusters.specs.Cuts.{IsMonotone, ShareNone}
use Rattle.shapers_syllabic.specs.Borders.{spans_setup}
use Rattle.shapers_syllabic.specs.Circles.{circled, circles_for, rephas_len, wants_circles}
use Rattle.shapers_syllabic.specs.ReorderingLaws.{paused_order}
use Rattle.shapers_syllabic.specs.Syllabic.{unsafe_spans}
use Rattle.shapers_syllabic.specs.declared.ot_shaper_syllabic.circles.DottedCircles.{DottedCircles}
use Rattle.shapers_syllabic.specs.declared.ot_shaper_syllabic.kinds.khmer_syllable.TheConstants.{BROKEN_CLUSTER as BROKEN_KHMER}
use Rattle.shapers_syllabic.specs.declared.ot_shaper_syllabic.kinds.myanmar_syllable.TheConstants.{BROKEN_CLUSTER as BROKEN_MYANMAR}
use Rattle.shapers_syllabic.proofs.PauseCuts.{clusters-setup}
use Rattle.shapers_khmer.specs.Khmer.{khmer_order, khmer_steps, order_in}
use Rattle.shapers_khmer.specs.KhmerLaws.{KhmerMovesMerged, KhmerReadsNoSerials, KhmerReorderLaws}
use Rattle.shapers_myanmar.specs.Myanmar.{myanmar_circles, myanmar_order, myanmar_steps}
use Rattle.shapers_myanmar.specs.MyanmarLaws.{MyanmarMovesMerged, MyanmarReadsNoSerials, MyanmarReorderLaws}
use Rattle.shapers_universal.specs.Universal.{universal_order, universal_steps}
use Rattle.shapers_universal.specs.UniversalLaws.{UniversalCutsBetweenSpans, UniversalMovesMerged, UniversalReorderLaws, setup_by_spans}
use Rattle.shapers_universal.specs.UniversalSyllables.{syllables_setup, with_forms_flagged}
use Rattle.rustybuzz_shapers.specs.Monotone.{AtMostOneRepha}
use Rattle.rustybuzz_shapers.specs.Pauses.{Reordered, by_khmer, by_myanmar, by_universal}
use Rattle.rustybuzz_shapers.proofs.Monotone.{circles_stay_monotone}
use Rattle.shapers_break_laws.specs.PauseBreaks.{PausesBreakLaw, SpanCut}
use Rattle.shapers_break_laws.specs.ScriptBreaks.{MyanmarHasNoRepha, PausesBreakBy, UniversalPausesBreak}
use Rattle.shapers_break_laws.proofs.CircledBorders.{circled_is, length-paused, opened_piece}
use Rattle.shapers_break_laws.proofs.PauseBreaks.{as_many, front_is, length-moved, pause_cut, pauses_break_by, text_cut}
use Rattle.shapers_buffer.specs.Glyphs.{Glyphs}
use Rattle.shapers_break_laws.proofs.Setup.{setup_guarded}
use Rattle.shapers_break_laws.proofs.UniversalSetup.{clusters_kept, flagged_kept, guarded_kept, length-all_opened, setup_kept, syllables_kept, taken_kept}

-- circles behind at most one repha leave clusters rising or falling
pub monotone_circled : (circles : Option DottedCircles) (gs : Glyphs) → AtMostOneRepha circles gs → IsMonotone
    (clusters gs) → IsMonotone (clusters (circled circles gs))
monotone_circled None gs few h = h
monotone_circled (Some rule) gs few (inl up) = inl ((circles_stay_monotone rule gs few).0 up)
monotone_circled (Some rule) gs few (inr down) = inr ((circles_stay_monotone rule gs few).1 down)

pub pauses_break : PausesBreakLaw
pauses_break meaning steps broken_kind laws inside reads circles spans old new kinds covers m mono few done =
    let mid = spans_setup spans broken_kind old in
    pauses_break_by meaning steps broken_kind laws inside reads circles spans old new kinds covers m
    (monotone_circled circles mid.glyphs few (subst IsMonotone (sym (clusters-setup spans broken_kind old)) mono)) done

-- circles of a script without rephas
none_long : (gs : Glyphs) (rule : DottedCircles) → rule.repha ≡ None → rephas_len rule.repha gs ≤ 1
none_long gs rule e = subst (λ r. rephas_len r gs ≤ 1) (sym e) (omega arith)

all_short : (rule : DottedCircles) → rule.repha ≡ None → (pieces : List Glyphs) → AllByRecursion
    (λ piece. rephas_len rule.repha piece ≤ 1) pieces
all_short rule e [] = tt
all_short rule e (p ∷ ps) = (none_long p rule e, all_short rule e ps)

circles_short : (glyph : Option GlyphId) (k category : ℕ) (place : Option ℕ) (b : Buffer) (gs : Glyphs)
    → AtMostOneRepha (circles_for glyph k category None place b) gs
circles_short None k category place b gs = tt
circles_short (Some glyph) k category place b gs =
    let rule : DottedCircles = record {
      broken_kind = k;
      circle = record default_glyph
          { glyph_id = glyph.0; category = category; auxiliary = unwrap_or place 0 };
      repha = None;
    } in
    elim (wants_circles b) as (λ w. AtMostOneRepha (if w then Some rule else None) gs) [
      | true ↦ all_short rule refl
          (syllables gs)
      | false ↦ tt
    ]

pub myanmar_short : MyanmarHasNoRepha
myanmar_short font b gs = circles_short
    (font.nominal dotted_circle) myanmar_circles.broken_kind myanmar_circles.category myanmar_circles.position b gs

-- Khmer and Myanmar
pub khmer_breaks : KhmerReorderLaws → KhmerMovesMerged → KhmerReadsNoSerials
    → PausesBreakBy SetupSyllablesKhmer ReorderKhmer by_khmer
khmer_breaks laws inside reads plan font spans unread old mid new can few setup reordered =
    let r = order_in plan.plan_data in
    let c = (by_khmer plan font mid).circles in
    pauses_break (khmer_order r) khmer_steps BROKEN_KHMER (laws r) inside
    (reads r) c spans old new can.kinds can.covered can.merging can.monotone
    (subst (λ (b : Buffer). AtMostOneRepha c b.glyphs) setup few)
    (subst (λ (b : Buffer). Reordered (by_khmer plan font mid) b new) setup reordered)

pub myanmar_breaks : MyanmarReorderLaws → MyanmarMovesMerged → MyanmarReadsNoSerials
    → PausesBreakBy SetupSyllablesMyanmar ReorderMyanmar (λ plan. by_myanmar)
myanmar_breaks laws inside reads plan font spans unread old mid new can few setup reordered =
    let c = (by_myanmar font mid).circles in
    pauses_break myanmar_order myanmar_steps BROKEN_MYANMAR laws inside reads c spans old new can.kinds can.covered
    can.merging can.monotone
    (subst (λ (b : Buffer). AtMostOneRepha c b.glyphs) setup few)
    (subst (λ (b : Buffer). Reordered (by_myanmar font mid) b new) setup reordered)

-- the universal shaper
pub universal_breaks : UniversalReorderLaws → UniversalMovesMerged → UniversalCutsBetweenSpans → UniversalPausesBreak
universal_breaks laws inside cuts plan font spans unread old mid new can off few setup reordered p z l clear =
    let kept = plan.plan_data in
    let m = plan.ot_map in
    let gs = old.glyphs in
    let by = by_universal font mid in
    let circles = by.circles in
    let F = opened_piece circles in
    let bare = unsafe_spans spans gs in
    let breaks = plan.break_flags in
    let whole : Buffer = with_forms_flagged breaks kept m (syllables_setup kept m spans old) in
    let masked = whole.glyphs in
    let done : Reordered by whole new = subst (λ (b : Buffer). Reordered by b new) setup reordered in
    let short : AtMostOneRepha circles masked = subst (λ (b : Buffer). AtMostOneRepha circles b.glyphs) setup few in
    let shape = flagged_kept breaks kept m off bare in
    let under = setup_guarded spans gs can.kinds can.covered in
    let guarded = guarded_kept spans bare masked shape under in
    let first_same = clusters-setup spans 0 old in
    let same = clusters_kept bare masked shape ∙ first_same in
    let mono = monotone_circled circles masked short (subst IsMonotone (sym same) can.monotone) in
    let opened_text : Buffer = record whole { glyphs = circled circles masked } in
    let long = length-moved universal_order universal_steps opened_text new laws done in
    let c = pause_cut universal_order universal_steps laws inside circles old.level can.merging spans gs masked
    new.glyphs can.covered same guarded mono done.moved long p z l clear in
    let k = c.count in
    let text = text_cut spans gs bare k can.covered first_same under.as_long in
    let n = text.n in
    let pieces = syllables_kept bare masked shape in
    let taken = taken_kept k (syllables bare) (syllables masked) pieces in
    let size : c.text.n ≡ n = c.text.count ∙ length-all_opened None (take k (syllables bare))
    (take k (syllables masked)) taken ∙ sym text.count in
    let far : ShareNone (take n gs) (drop n gs) = subst (λ (j : ℕ). ShareNone (take j gs) (drop j gs)) size c.apart in
    let many = as_many (syllables bare) spans under.as_long in
    let more = as_many (syllables masked) spans guarded.as_long in
    let within = c.within in
    let front_bare = unsafe_spans (take k spans) (take n gs) in
    let front = setup_by_spans kept m (take k spans) (take n gs) in
    let back = setup_by_spans kept m (drop k spans) (drop n gs) in
    let is = front_is spans 0 k old can.kinds can.covered text (omega (arith, many, more, within)) in
    let place : length (paused_order circles universal_order front) ≡ p =
    length-paused universal_order universal_steps laws circles front
    ∙ ap length (circled_is circles front)
    ∙ length-all_opened circles (syllables front_bare) (syllables front)
    (syllables_kept front_bare front (setup_kept kept m off front_bare))
    ∙ ap (λ ps. length (flat_map F ps)) is
    ∙ sym (length-all_opened circles (take k (syllables bare)) (take k (syllables masked)) taken)
    ∙ c.place in
    let cut : SpanCut (setup_by_spans kept m)
    (paused_order circles universal_order) spans gs p = record {
      front = take k spans;
      back = drop k spans;
      before = take n gs;
      behind = drop n gs;
      split = text.split;
      text =
          text.text;
      first = text.first;
      second = text.second;
      apart = far;
      place = place;
    } in
    let halves = cuts breaks kept m circles spans old new can.kinds done (take k spans) (drop k spans) (take n gs)
    (drop n gs) front back text.split text.text text.first text.second refl refl in
    record { cut = cut; order = halves.order; in_clusters = halves.in_clusters far }
