-- A set-up of the universal shaper, lookups that leave results side by side, and its reordering may be broken at every
-- clear place, with Sound masks of forms included.
use Rattle.std.proofs.Common.{ℕ, ◌-◌, ◌≤◌, ◌≡◌, true, bit_and, List, [], ◌∷◌, ◌++◌, length, map, take, drop, refl, sym, ap, ◌∙◌, subst, arith, length-append, length-drop, zero, suc, ◌<◌}
use Rattle.std.specs.Prelude.{Option, None, Some}
use Rattle.std.specs.List.{All, flat_map}
use Rattle.std.proofs.lemmas.List.{drop-map, drop_at, length-map, length-take-le, map-append, take-append-drop, take-map, take_at}
use Rattle.std.proofs.lemmas.Simd.{map-map}
use Rattle.shapers_buffer.specs.Glyphs.{Glyph, Glyphs}
use Rattle.shapers_buffer.specs.declared.buffer.level.BufferClusterLevel.{BufferClusterLevel}
use Rattle.shapers_buffer.specs.declared.buffer.syllables.Span.{Span}
use Rattle.shapers_buffer.specs.Buffer.{Buffer}
use Rattle.shapers_buffer.specs.Clusters.{merges}
use Rattle.shapers_buffer.specs.Glyph.{clusters, order_view, plain, without_flags}
use Rattle.shapers_buffer.specs.Syllables.{spans_cover, syllables}
use Rattle.shapers_base.specs.Map.{Map}
use Rattle.shapers_base.specs.declared.plan.PlanData.{PlanData}
use Rattle.shapers_base.specs.declared.plan.arabic.arabic_shape_plan_t.{arabic_shape_plan_t}
use Rattle.shapers_base.specs.declared.plan.breaks.BreakFlags.{BreakFlags}
use Rattle.shapers_base.specs.declared.plan.breaks.BreakFlags.TheVariants.{AsCode, Sound}
use Rattle.shapers_base.specs.declared.plan.hb_ot_shape_plan_t.{hb_ot_shape_plan_t}
use Rattle.shapers_clusters.specs.Breaks.{IsClear}
use Rattle.shapers_clusters.specs.Cuts.{IsMonotone, ShareNone}
use Rattle.shapers_clusters.specs.Steps.{Step}
use Rattle.shapers_clusters.proofs.ClearPlaces.{length-same}
use Rattle.shapers_clusters.proofs.Merging.{without_flags-twice}
use Rattle.shapers_syllabic.specs.Borders.{MeetAtBorder, SameButSerials, unnumbered}
use Rattle.shapers_syllabic.specs.Circles.{circled}
use Rattle.shapers_syllabic.specs.Reordering.{PauseReordered, text_order}
use Rattle.shapers_syllabic.specs.ReorderingLaws.{ReadsNoMasks, ReadsNoSerials, ReorderLaws, paused_clusters, paused_order, with_mask_by}
use Rattle.shapers_syllabic.specs.Syllabic.{unsafe_spans}
use Rattle.shapers_syllabic.specs.declared.ot_shaper_syllabic.circles.DottedCircles.{DottedCircles}
use Rattle.shapers_syllabic.specs.declared.ot_shaper_syllabic.kinds.use_syllable.TheConstants.{BROKEN_CLUSTER}
use Rattle.shapers_syllabic.proofs.Borders.{syllables-append}
use Rattle.shapers_syllabic.proofs.CircleLaws.{joined-syllables}
use Rattle.shapers_syllabic.proofs.HiddenCuts.{MaskKeepsFlags, by, circled-by, clusters_paused-by, clusters_paused-same, cuts_with_serials, paused-by, same-by}
use Rattle.shapers_syllabic.proofs.PauseCuts.{apart_by, clusters-setup}
use Rattle.shapers_syllabic.proofs.Serials.{serials_dont_count}
use Rattle.shapers_universal.specs.PlanData.{arabic_of}
use Rattle.shapers_universal.specs.Universal.{universal_order, universal_steps}
use Rattle.shapers_universal.specs.UniversalCuts.{UniversalSetupCutsAtSpans, cut_view, flagless_for, formless_for}
use Rattle.shapers_universal.specs.UniversalLaws.{UniversalMovesMerged, UniversalReadsNoMasks, UniversalReadsNoSerials, UniversalReorderLaws, setup_by_spans, without_serial_or_forms}
use Rattle.shapers_universal.specs.UniversalSyllables.{all_forms, form_masks, forms_flagged, syllables_setup, with_forms_flagged}
use Rattle.rustybuzz_shapers.specs.Pauses.{by_universal}
use Rattle.shapers_break_laws.specs.KeptTextBreaks.{KeptTextBroken}
use Rattle.shapers_break_laws.specs.PauseBreaks.{BrokenBetweenSpans, SpanCut}
use Rattle.shapers_break_laws.specs.ScriptBreaks.{FormsOffFlags}
use Rattle.shapers_break_laws.specs.Setup.{SpanBorder}
use Rattle.shapers_break_laws.specs.UniversalChain.{ReadsOnly, UniversalChainBreaks, UniversalSoundChainBreaks, UniversalSoundPausesBreak, setup_under, without_glyph_flags}
use Rattle.shapers_break_laws.proofs.KeptTextBreaks.{all_flagged, text_breaks, text_breaks_clear}
use Rattle.shapers_break_laws.proofs.MaskReads.{flags-and}
use Rattle.shapers_break_laws.proofs.ScriptBreaks.{monotone_circled}
use Rattle.shapers_break_laws.proofs.Setup.{IsGuarded, cover_cut, setup_guarded, span_border}
use Rattle.shapers_break_laws.proofs.UniversalSetup.{KeepShapes, clusters_kept, flagged_kept, guarded_kept, long_kept}
use Rattle.shapers_break_laws.proofs.UniversalSound.{sound_at}

-- texts that are the same in a view of their masks, serials apart
abbrev SameBy : (ℕ → ℕ) → Glyphs → Glyphs → Type 0
SameBy f gs hs = SameButSerials (by f gs) (by f hs)

abbrev view_by : (ℕ → ℕ) → Glyph → Glyph
view_by f g = unnumbered (with_mask_by f g)

-- a pause that reads neither makes the same of them
paused_seen : (f : ℕ → ℕ) → MaskKeepsFlags f → (circles : Option DottedCircles) (meaning : Glyphs → Glyphs)
    (steps : Glyphs → List Step) (level : BufferClusterLevel) → ReadsNoSerials meaning steps
    → ReadsNoMasks meaning steps → (gs hs : Glyphs) → SameBy f gs hs
    → map (view_by f) (paused_order circles meaning gs) ≡ map (view_by f) (paused_order circles meaning hs)
paused_seen f keeps circles meaning steps level reads masks gs hs same =
    let P = paused_order circles meaning in
    let shows : (xs : Glyphs) → map (view_by f) (P xs) ≡ map unnumbered (P (by f xs)) =
    λ xs. sym (map-map unnumbered (with_mask_by f) (P xs))
    ∙ ap (map unnumbered) (sym (paused-by f keeps circles meaning (masks.meant f) xs)) in
    shows gs ∙ (serials_dont_count circles meaning steps level (by f gs) (by f hs) reads same).order ∙ sym (shows hs)

clusters_seen : (f : ℕ → ℕ) → MaskKeepsFlags f → (circles : Option DottedCircles) (meaning : Glyphs → Glyphs)
    (steps : Glyphs → List Step) (level : BufferClusterLevel) → ReadsNoSerials meaning steps
    → ReadsNoMasks meaning steps → (gs hs : Glyphs) → SameBy f gs hs
    → paused_clusters circles steps level gs ≡ paused_clusters circles steps level hs
clusters_seen f keeps circles meaning steps level reads masks gs hs same =
    let hidden = clusters_paused-by f keeps circles steps (masks.led f) level in
    sym (hidden gs) ∙ clusters_paused-same circles meaning steps level (by f gs) (by f hs) reads same ∙ hidden hs

-- halves of a text that is set up, which its own halves are in the view when set up by themselves
record MidCut (f : ℕ → ℕ) (setup : List Span → Glyphs → Glyphs) (spans : List Span) (old before behind : Glyphs)
    : Type 0 where
  front : List Span
  back : List Span
  gs : Glyphs
  hs : Glyphs
  split : spans ≡ front ++ back
  text : old ≡ gs ++ hs
  first : spans_cover (length gs) front ≡ true
  second : spans_cover (length hs) back ≡ true
  apart : ShareNone gs hs
  one : SameBy f before (setup front gs)
  two : SameBy f behind (setup back hs)

chain_broken_by : (f : ℕ → ℕ) → MaskKeepsFlags f → (meaning : Glyphs → Glyphs) (steps : Glyphs → List Step)
    → ReorderLaws meaning steps → ReadsNoSerials meaning steps → ReadsNoMasks meaning steps
    → (circles : Option DottedCircles) (lookups : Glyphs → Glyphs) (setup : List Span → Glyphs → Glyphs)
    (spans : List Span) (old : Glyphs) (between new : Buffer) → PauseReordered circles meaning steps between new
    → ReadsOnly (with_mask_by f) lookups → (p : ℕ)
    → (b : KeptTextBroken circles meaning steps between.level between.glyphs new.glyphs p) → (before behind : Glyphs)
    → lookups before ≡ b.before → lookups behind ≡ b.behind → MidCut f setup spans old before behind
    → BrokenBetweenSpans (view_by f) (λ spans gs. lookups (setup spans gs)) (paused_order circles meaning)
    (paused_clusters circles steps between.level) spans old new.glyphs p
chain_broken_by f keeps meaning steps laws reads masks circles lookups setup spans old between new done only p b before
    behind front_is back_is mid =
    let view = view_by f in
    let level = between.level in
    let P = paused_order circles meaning in
    let C = paused_clusters circles steps level in
    let xs = lookups (setup mid.front mid.gs) in
    let ys = lookups (setup mid.back mid.hs) in
    let one : SameBy f b.before xs = subst (λ zs. SameBy f zs xs) front_is
    (only before (setup mid.front mid.gs) mid.one) in
    let two : SameBy f b.behind ys = subst (λ zs. SameBy f zs ys) back_is
    (only behind (setup mid.back mid.hs) mid.two) in
    let front = paused_seen f keeps circles meaning steps level reads masks b.before xs one in
    let back = paused_seen f keeps circles meaning steps level reads masks b.behind ys two in
    let joined = cuts_with_serials circles meaning steps between new laws reads done b.before b.behind b.before b.behind
    b.text b.border refl refl in
    let cut : SpanCut (λ spans gs. lookups (setup spans gs)) P spans old p = record {
      front = mid.front;
      back = mid.back;
      before = mid.gs;
      behind = mid.hs;
      split = mid.split;
      text = mid.text;
      first = mid.first;
      second = mid.second;
      apart = mid.apart;
      place = sym (length-map (P xs) view) ∙ ap length (sym front) ∙ length-map (P b.before) view ∙ b.place;
    } in
    record {
      cut = cut;
      order = ap (map view) b.halves.order ∙ map-append view (P b.before) (P b.behind)
          ∙ ap (λ l. l ++ map view (P b.behind)) front ∙ ap (λ l. map view (P xs) ++ l) back;
      in_clusters = joined.in_clusters b.apart
          ∙ ap (λ cs. cs ++ C b.behind) (clusters_seen f keeps circles meaning steps level reads masks b.before xs one)
          ∙ ap (λ cs. C xs ++ cs) (clusters_seen f keeps circles meaning steps level reads masks b.behind ys two);
    }

-- the text that is set up, and its borders
record SetupText (spans : List Span) (old mid : Glyphs) : Type 0 where
  guarded : IsGuarded spans mid
  same : clusters mid ≡ clusters old

universal_text : (breaks : BreakFlags) (kept : PlanData) (m : Map) (spans : List Span) (old : Buffer)
    → All (λ span. span.kind ≤ 15) spans → spans_cover (length old.glyphs) spans ≡ true
    → FormsOffFlags (arabic_of kept) m
    → SetupText spans old.glyphs (with_forms_flagged breaks kept m (syllables_setup kept m spans old)).glyphs
universal_text breaks kept m spans old kinds covers off =
    let bare = unsafe_spans spans old.glyphs in
    let whole = (with_forms_flagged breaks kept m (syllables_setup kept m spans old)).glyphs in
    let shape : KeepShapes bare whole = flagged_kept breaks kept m off bare in
    record {
      guarded = guarded_kept spans bare whole shape (setup_guarded spans old.glyphs kinds covers);
      same = clusters_kept bare whole shape ∙ clusters-setup spans BROKEN_CLUSTER old;
    }

text_border : (spans : List Span) (mid before behind : Glyphs) → IsGuarded spans mid → mid ≡ before ++ behind
    → MeetAtBorder before behind → SpanBorder spans (length before)
text_border spans mid before behind guarded text border =
    let id : Glyphs → Glyphs = λ p. p in
    let k = length (syllables before) in
    let pieces : syllables mid ≡ syllables before ++ syllables behind = ap syllables text
    ∙ syllables-append before behind border in
    span_border (syllables mid) spans (length before) guarded.as_long (record {
      count = k;
      within = omega (arith, ap length pieces, length-append (syllables before) (syllables behind));
      place = ap (λ ps. length (flat_map id (take k ps))) pieces
          ∙ ap (λ ps. length (flat_map id ps)) (take_at (syllables before) (syllables behind) k refl)
          ∙ ap length (joined-syllables before);
    })

-- its halves, as spans cover them
record OldHalves (spans : List Span) (old before behind : Glyphs) (front back : List Span) : Type 0 where
  within : length before ≤ length old
  text : old ≡ take (length before) old ++ drop (length before) old
  long : length (take (length before) old) ≡ length before
  first : spans_cover (length (take (length before) old)) front ≡ true
  second : spans_cover (length (drop (length before) old)) back ≡ true
  apart : ShareNone (take (length before) old) (drop (length before) old)

old_halves : (spans : List Span) (old mid before behind : Glyphs) → spans_cover (length old) spans ≡ true
    → clusters mid ≡ clusters old → mid ≡ before ++ behind → ShareNone before behind
    → (border : SpanBorder spans (length before)) → OldHalves spans old before behind border.front border.back
old_halves spans old mid before behind covers same text apart border =
    let cluster : Glyph → ℕ = λ g. g.cluster in
    let n = length before in
    let cut = cover_cut spans border.front border.back (length old) n border.split covers border.place in
    let all : clusters old ≡ clusters before ++ clusters behind = sym same ∙ ap clusters text
    ∙ map-append cluster before behind in
    let m : length (clusters before) ≡ n = length-map before cluster in
    let ends : n ≤ length old = omega (
      arith,
      m,
      ap length all,
      length-append (clusters before) (clusters behind),
      length-map old cluster,
    ) in
    let long = length-take-le n old ends in
    record {
      within = ends;
      text = sym (take-append-drop n old);
      long = long;
      first = ap (λ k. spans_cover k border.front) long ∙ cut.first;
      second = ap (λ k. spans_cover k border.back) (length-drop n old) ∙ cut.second;
      apart = apart_by (take n old) (drop n old) before behind
          (sym (take-map cluster n old) ∙ ap (take n) all ∙ take_at (clusters before) (clusters behind) n m)
          (sym (drop-map cluster n old) ∙ ap (drop n) all ∙ drop_at (clusters before) (clusters behind) n m) apart;
    }

-- what is the first half and what is behind it, of the same lengths
pub parts_are : {X : Type 0} (xs ys zs ws : List X) → xs ++ ys ≡ zs ++ ws → length xs ≡ length zs → (xs
    ≡ zs) × (ys ≡ ws)
parts_are xs ys zs ws same long = (
  sym (take_at xs ys (length zs) long) ∙ ap (take (length zs)) same ∙ take_at zs ws (length zs) refl,
  sym (drop_at xs ys (length zs) long) ∙ ap (drop (length zs)) same ∙ drop_at zs ws (length zs) refl,
)

pub length_under : (breaks : BreakFlags) (kept : PlanData) (m : Map) → FormsOffFlags (arabic_of kept) m
    → (spans : List Span) (gs : Glyphs) (old : Buffer)
    → length (forms_flagged (arabic_of kept) breaks m (setup_by_spans kept m spans gs)) ≡ length gs
length_under breaks kept m off spans gs old =
    let bare = unsafe_spans spans gs in
    long_kept bare (forms_flagged (arabic_of kept) breaks m (setup_by_spans kept m spans gs))
    (flagged_kept breaks kept m off bare)
    ∙ length-same gs bare (clusters-setup spans BROKEN_CLUSTER (record old { glyphs = gs }))

-- glyph flags don't show in what a pause makes
view-flagless : (gs : Glyphs) → order_view (by without_flags gs) ≡ order_view gs
view-flagless [] = refl
view-flagless (g ∷ gs) =
    ap (λ n. let r : Glyph = record g { cluster = 0; mask = n } in r ∷ order_view (by without_flags gs))
    (without_flags-twice g.mask)
    ∙ ap (λ l. plain g ∷ l) (view-flagless gs)

viewed_flagless : (gs : Glyphs) → by without_flags (order_view gs) ≡ order_view gs
viewed_flagless [] = refl
viewed_flagless (g ∷ gs) =
    ap (λ n. let r : Glyph = record g { cluster = 0; mask = n } in r ∷ by without_flags (order_view gs))
    (without_flags-twice g.mask)
    ∙ ap (λ l. plain g ∷ l) (viewed_flagless gs)

paused_flagless : (circles : Option DottedCircles) (meaning : Glyphs → Glyphs) (steps : Glyphs → List Step)
    → ReadsNoMasks meaning steps → (gs : Glyphs)
    → by without_flags (paused_order circles meaning gs) ≡ paused_order circles meaning gs
paused_flagless circles meaning steps masks gs =
    let keeps : MaskKeepsFlags without_flags = λ n. refl in
    sym (paused-by without_flags keeps circles meaning (masks.meant without_flags) gs)
    ∙ ap (λ xs. text_order meaning (order_view xs)) (circled-by without_flags circles gs)
    ∙ ap (text_order meaning) (view-flagless (circled circles gs))

all_alike : (view show : Glyph → Glyph)
    → ((g : Glyph) → view (with_mask_by without_flags g) ≡ show (with_mask_by without_flags g))
    → (gs : Glyphs)
    → map view (by without_flags gs) ≡ map show (by without_flags gs)
all_alike view show alike [] = refl
all_alike view show alike (g ∷ gs) = ap (λ x. x ∷ map view (by without_flags gs)) (alike g)
    ∙ ap (λ l. show (with_mask_by without_flags g) ∷ l) (all_alike view show alike gs)

-- so in a text broken in one view, another shows the same where no glyph has flags
broken_seen : (view show : Glyph → Glyph) (circles : Option DottedCircles)
    (meaning : Glyphs → Glyphs) (steps : Glyphs → List Step) → ReadsNoMasks meaning steps
    → ((g : Glyph) → view (with_mask_by without_flags g) ≡ show (with_mask_by without_flags g))
    → (setup : List Span → Glyphs → Glyphs) (C : Glyphs → List ℕ) (spans : List Span) (old new : Glyphs) (p : ℕ)
    → BrokenBetweenSpans view setup (paused_order circles meaning) C spans old new p
    → BrokenBetweenSpans show setup (paused_order circles meaning) C spans old new p
broken_seen view show circles meaning steps masks alike setup C spans old new p b =
    let P = paused_order circles meaning in
    let flat : (xs : Glyphs) → map view (by without_flags xs) ≡ map show (by without_flags xs) =
    λ xs. all_alike view show alike xs in
    let told : (xs : Glyphs) → by without_flags xs ≡ xs → map view xs ≡ map show xs =
    λ xs fixed. ap (map view) (sym fixed) ∙ flat xs ∙ ap (map show) fixed in
    let fixed = paused_flagless circles meaning steps masks in
    let xs = setup b.cut.front b.cut.before in
    let ys = setup b.cut.back b.cut.behind in
    record {
      cut = b.cut;
      order = sym (told (order_view new) (viewed_flagless new)) ∙ b.order
          ∙ ap (λ l. l ++ map view (P ys)) (told (P xs) (fixed xs))
          ∙ ap (λ l. map show (P xs) ++ l) (told (P ys) (fixed ys));
      in_clusters = b.in_clusters;
    }

-- a mask without the bits of forms, and without flags
abbrev unformed : Option arabic_shape_plan_t → Map → ℕ → ℕ
unformed None m mask = without_flags (bit_and mask (0xFFFFFFFF - all_forms (form_masks m)))
unformed (Some p) m mask = without_flags mask

unformed_keeps : (arabic : Option arabic_shape_plan_t) (m : Map) → MaskKeepsFlags (unformed arabic m)
unformed_keeps None m mask = ap without_flags (flags-and mask (0xFFFFFFFF - all_forms (form_masks m)))
unformed_keeps (Some p) m mask = refl

unformed_is : (arabic : Option arabic_shape_plan_t) (m : Map)
    → (λ g. without_glyph_flags (formless_for arabic m g)) ≡ with_mask_by (unformed arabic m)
unformed_is None m = refl
unformed_is (Some p) m = refl

unformed_shown : (arabic : Option arabic_shape_plan_t) (m : Map) (g : Glyph)
    → unnumbered (with_mask_by (unformed arabic m) (with_mask_by without_flags g))
    ≡ unnumbered (formless_for arabic m (with_mask_by without_flags g))
unformed_shown None m g =
    let bits = 0xFFFFFFFF - all_forms (form_masks m) in
    ap (λ n. let r : Glyph = record g { mask = n } in unnumbered r)
    (flags-and (without_flags g.mask) bits ∙ ap (λ n. bit_and n bits) (without_flags-twice g.mask))
unformed_shown (Some p) m g = ap (λ n. let r : Glyph = record g { mask = n } in unnumbered r)
    (without_flags-twice g.mask)

-- what a set-up cut between spans shows, without flags
unformed_cut : (arabic : Option arabic_shape_plan_t) (breaks : BreakFlags) (m : Map) (g : Glyph)
    → with_mask_by without_flags (with_mask_by (flagless_for arabic breaks) (formless_for arabic m g))
    ≡ with_mask_by (unformed arabic m) g
unformed_cut (Some p) breaks m g = refl
unformed_cut None AsCode m g = refl
unformed_cut None Sound m g = ap (λ n. let r : Glyph = record g { mask = n } in r)
    (without_flags-twice (bit_and g.mask (0xFFFFFFFF - all_forms (form_masks m))))

all_unformed : (kept : PlanData) (breaks : BreakFlags) (m : Map) (gs : Glyphs)
    → by without_flags (map (cut_view breaks kept m) gs) ≡ by (unformed (arabic_of kept) m) gs
all_unformed kept breaks m [] = refl
all_unformed kept breaks m (g ∷ gs) =
    ap (λ x. x ∷ by without_flags (map (cut_view breaks kept m) gs)) (unformed_cut (arabic_of kept) breaks m g)
    ∙ ap (λ l. with_mask_by (unformed (arabic_of kept) m) g ∷ l) (all_unformed kept breaks m gs)

-- the set-up cut where lookups leave halves, masks of forms apart
unformed_halves : (plan : hb_ot_shape_plan_t) (spans : List Span) (old mid : Buffer) (before behind : Glyphs)
    → spans_cover (length old.glyphs) spans ≡ true → FormsOffFlags (arabic_of plan.plan_data) plan.ot_map
    → SetupText spans old.glyphs mid.glyphs
    → UniversalSetupCutsAtSpans plan.break_flags plan.plan_data plan.ot_map spans old mid
    → mid.glyphs ≡ before ++ behind → MeetAtBorder before behind → ShareNone before behind
    → MidCut (unformed (arabic_of plan.plan_data) plan.ot_map) (setup_under plan) spans old.glyphs before behind
unformed_halves plan spans old mid before behind covers off made cuts text border apart =
    let kept = plan.plan_data in
    let m = plan.ot_map in
    let breaks = plan.break_flags in
    let view = cut_view breaks kept m in
    let f = unformed (arabic_of kept) m in
    let n = length before in
    let spot = text_border spans mid.glyphs before behind made.guarded text border in
    let ss = spot.front in
    let ts = spot.back in
    let halves = old_halves spans old.glyphs mid.glyphs before behind covers made.same text apart spot in
    let gs = take n old.glyphs in
    let hs = drop n old.glyphs in
    let cut = cuts ss ts gs hs spot.split halves.text halves.first halves.second in
    let front = setup_under plan ss gs in
    let back = setup_under plan ts hs in
    let same : map view before ++ map view behind ≡ map view front ++ cut.behind =
    sym (map-append view before behind) ∙ ap (map view) (sym text) ∙ cut.parts in
    let (a, b) = parts_are (map view before) (map view behind) (map view front) cut.behind same
    (length-map before view ∙ sym halves.long ∙ sym (length_under breaks kept m off ss gs old)
    ∙ sym (length-map front view)) in
    let told = all_unformed kept breaks m in
    record {
      front = ss;
      back = ts;
      gs = gs;
      hs = hs;
      split = spot.split;
      text = halves.text;
      first = halves.first;
      second = halves.second;
      apart = halves.apart;
      one = subst (SameButSerials (by f before)) (sym (told before) ∙ ap (by without_flags) a ∙ told front) refl;
      two = subst (λ xs. SameButSerials xs (by f back)) (ap (by without_flags) (sym b) ∙ told behind)
          (subst (SameButSerials (by without_flags cut.behind)) (told back)
          (same-by without_flags cut.behind (map view back) cut.renumbered));
    }

pub universal_chain : UniversalReorderLaws → UniversalMovesMerged → UniversalReadsNoSerials → UniversalReadsNoMasks
    → UniversalChainBreaks
universal_chain laws inside reads masks plan font spans unread lookups old mid between new can off setup keeps looked
    only mono done p z l clear =
    let kept = plan.plan_data in
    let m = plan.ot_map in
    let arabic = arabic_of kept in
    let f = unformed arabic m in
    let circles = (by_universal font between).circles in
    let text : SetupText spans old.glyphs mid.glyphs = subst (λ (b : Buffer). SetupText spans old.glyphs b.glyphs)
    (sym setup) (universal_text plan.break_flags kept m spans old can.kinds can.covered off) in
    let height : between.level ≡ old.level = looked.level ∙ ap (λ (b : Buffer). b.level) setup in
    let b = text_breaks universal_order universal_steps laws inside circles between new (ap merges height ∙ can.merging)
    looked.flags mono done p z l clear in
    let made = looked.side_by_side.halves b.before b.behind (sym looked.glyphs ∙ b.text) b.border b.apart in
    let cut = unformed_halves plan spans old mid made.before made.behind can.covered off text keeps.0 made.text
    made.border made.apart in
    let C : BufferClusterLevel → Glyphs → List ℕ = paused_clusters circles universal_steps in
    let setup_then : List Span → Glyphs → Glyphs = λ spans gs. lookups (setup_under plan spans gs) in
    subst (λ level. BrokenBetweenSpans (without_serial_or_forms kept m) setup_then (paused_order circles
    universal_order)
    (C level) spans old.glyphs new.glyphs p) height
    (broken_seen (view_by f) (without_serial_or_forms kept m) circles universal_order universal_steps masks
    (unformed_shown arabic m) setup_then (C between.level) spans old.glyphs new.glyphs p
    (chain_broken_by f (unformed_keeps arabic m) universal_order universal_steps laws reads masks circles lookups
    (setup_under plan) spans old.glyphs between new done
    (subst (λ (v : Glyph → Glyph). ReadsOnly v lookups) (unformed_is arabic m) only) p b made.before
    made.behind made.first made.second cut))

-- With Sound, where the text was clear: masks of forms included.
clear_some : (gs : Glyphs) (p : ℕ) → IsClear gs p → 0 < p
clear_some gs zero clear = absurd (clear.differ refl)
clear_some gs (suc p) clear = omega arith

sound_halves : (kept : PlanData) (m : Map) (spans : List Span) (old whole : Buffer) (before behind : Glyphs) → All
    (λ span. span.kind ≤ 15) spans → spans_cover (length old.glyphs) spans ≡ true → arabic_of kept ≡ None
    → FormsOffFlags (arabic_of kept) m → whole ≡ with_forms_flagged Sound kept m (syllables_setup kept m spans old)
    → whole.glyphs ≡ before ++ behind → MeetAtBorder before behind → ShareNone before behind
    → length before < length whole.glyphs → IsClear whole.glyphs (length before)
    → MidCut without_flags (λ is xs. forms_flagged (arabic_of kept) Sound m (setup_by_spans kept m is xs)) spans
    old.glyphs before behind
sound_halves kept m spans old whole before behind kinds covers none off setup text border apart inside clear =
    let U : List Span → Glyphs → Glyphs = λ is xs. forms_flagged (arabic_of kept) Sound m (setup_by_spans kept
    m is xs) in
    let n = length before in
    let made : SetupText spans old.glyphs whole.glyphs = subst (λ (b : Buffer). SetupText spans old.glyphs b.glyphs)
    (sym setup) (universal_text Sound kept m spans old kinds covers off) in
    let spot = text_border spans whole.glyphs before behind made.guarded text border in
    let cluster : Glyph → ℕ = λ g. g.cluster in
    let long : length whole.glyphs ≡ length old.glyphs = sym (length-map whole.glyphs cluster) ∙ ap length made.same
    ∙ length-map old.glyphs cluster in
    let s = sound_at kept m spans old n kinds covers none (subst (λ a. FormsOffFlags a m) none off)
    (clear_some whole.glyphs n clear) (omega arith)
    (subst (λ (b : Buffer). IsClear b.glyphs n) setup clear) spot in
    let ss = s.border.front in
    let ts = s.border.back in
    let halves = old_halves spans old.glyphs whole.glyphs before behind covers made.same text apart s.border in
    let gs = take n old.glyphs in
    let hs = drop n old.glyphs in
    let flat = by without_flags in
    let same : flat before ++ flat behind ≡ flat (U ss gs) ++ s.halves.behind =
    sym (map-append (with_mask_by without_flags) before behind) ∙ ap flat (sym text)
    ∙ ap (λ (b : Buffer). flat b.glyphs) setup ∙ s.halves.parts in
    let (a, b) = parts_are (flat before) (flat behind) (flat (U ss gs)) s.halves.behind same
    (length-map before (with_mask_by without_flags) ∙ sym halves.long
    ∙ sym (length_under Sound kept m off ss gs old) ∙ sym (length-map (U ss gs) (with_mask_by without_flags))) in
    record {
      front = ss;
      back = ts;
      gs = gs;
      hs = hs;
      split = s.border.split;
      text = halves.text;
      first = halves.first;
      second = halves.second;
      apart = halves.apart;
      one = subst (SameButSerials (flat before)) a refl;
      two = subst (λ xs. SameButSerials xs (flat (U ts hs))) (sym b) s.halves.renumbered;
    }

pub universal_sound_chain : UniversalReorderLaws → UniversalMovesMerged → UniversalReadsNoSerials
    → UniversalReadsNoMasks → UniversalSoundChainBreaks
universal_sound_chain laws inside reads masks plan font spans unread lookups old mid between new can sound none off
    setup looked mono done p z l clear =
    let kept = plan.plan_data in
    let m = plan.ot_map in
    let circles = (by_universal font between).circles in
    let keeps : MaskKeepsFlags without_flags = λ n. refl in
    let is : mid ≡ with_forms_flagged Sound kept m (syllables_setup kept m spans old) = setup
    ∙ ap (λ breaks. with_forms_flagged breaks kept m (syllables_setup kept m spans old)) sound in
    let height : between.level ≡ old.level = looked.level ∙ ap (λ (b : Buffer). b.level) setup in
    let t = text_breaks_clear universal_order universal_steps laws inside circles between new
    (ap merges height ∙ can.merging) looked.flags mono done p z l clear in
    let b = t.broken in
    let made = looked.halves b.before b.behind (sym looked.glyphs ∙ b.text) b.border b.apart
    (subst (λ xs. length b.before < length xs) looked.glyphs t.was.inside)
    (subst (λ xs. IsClear xs (length b.before)) looked.glyphs t.was.clear) in
    let halves = made.cut in
    let cut = sound_halves kept m spans old mid halves.before halves.behind can.kinds can.covered none off is
    halves.text
    halves.border halves.apart made.inside made.clear in
    let C : BufferClusterLevel → Glyphs → List ℕ = paused_clusters circles universal_steps in
    let setup_then : List Span → Glyphs → Glyphs = λ spans gs. lookups (setup_under plan spans gs) in
    subst (λ level. BrokenBetweenSpans unnumbered setup_then (paused_order circles universal_order) (C level) spans
    old.glyphs new.glyphs p) height
    (broken_seen (view_by without_flags) unnumbered circles universal_order universal_steps masks
    (λ g. ap (λ n. let r : Glyph = record g { mask = n } in unnumbered r) (without_flags-twice g.mask))
    setup_then (C between.level) spans old.glyphs new.glyphs p
    (chain_broken_by without_flags keeps universal_order universal_steps laws reads masks circles lookups
    (setup_under plan) spans old.glyphs between new done looked.reads p b halves.before halves.behind halves.first
    halves.second
    (subst (λ breaks. MidCut without_flags (λ is xs. forms_flagged (arabic_of kept) breaks m (setup_by_spans
    kept m is xs))
    spans old.glyphs halves.before halves.behind) (sym sound) cut)))

-- nothing in between
pub universal_sound_pauses : UniversalReorderLaws → UniversalMovesMerged → UniversalReadsNoSerials
    → UniversalReadsNoMasks → UniversalSoundPausesBreak
universal_sound_pauses laws inside reads masks plan font spans unread old mid new can sound none off few setup done =
    let kept = plan.plan_data in
    let m = plan.ot_map in
    let circles = (by_universal font mid).circles in
    let made : SetupText spans old.glyphs mid.glyphs = subst (λ (b : Buffer). SetupText spans old.glyphs b.glyphs)
    (sym setup) (universal_text plan.break_flags kept m spans old can.kinds can.covered off) in
    universal_sound_chain laws inside reads masks plan font spans unread (λ gs. gs) old mid mid new
    (record { kinds = can.kinds; covered = can.covered; merging = can.merging }) sound none off setup
    (record {
      level = refl;
      glyphs = refl;
      halves = λ front back text border apart within clear. record {
        cut = record {
          before = front;
          behind = back;
          text = text;
          border = border;
          apart = apart;
          first = refl;
          second = refl;
        };
        inside = within;
        clear = clear;
      };
      reads = λ gs hs same. same;
      flags = all_flagged (syllables mid.glyphs) made.guarded.whole;
    }) (monotone_circled circles mid.glyphs few (subst IsMonotone (sym made.same) can.monotone)) done
