-- A text of Indic may be broken at every clear place after its initial reordering.
use Rattle.std.proofs.Common.{ℕ, ◌-◌, ◌≡◌, ◌≢◌, List, ◌++◌, length, take, drop, get_or, refl, sym, ap, ◌∙◌, subst, arith, length-drop, length-take}
use Rattle.std.specs.Prelude.{Option}
use Rattle.std.specs.List.{AllByRecursion, flat_map}
use Rattle.std.proofs.lemmas.List.{drop_at, length-map, length-take-le, map-append, take-append-drop, take_at}
use Rattle.shapers_buffer.specs.Glyphs.{Glyph, Glyphs}
use Rattle.shapers_buffer.specs.declared.buffer.level.BufferClusterLevel.{BufferClusterLevel}
use Rattle.shapers_buffer.specs.declared.buffer.syllables.Span.{Span}
use Rattle.shapers_buffer.specs.declared.buffer.tag.Script.{Script}
use Rattle.shapers_buffer.specs.Buffer.{Buffer}
use Rattle.shapers_buffer.specs.Glyph.{clusters, order_view, plain}
use Rattle.shapers_buffer.specs.Syllables.{syllables}
use Rattle.shapers_base.specs.Font.{Font}
use Rattle.shapers_base.specs.Map.{Map}
use Rattle.shapers_base.specs.declared.plan.indic.indic_shape_plan_t.{indic_shape_plan_t}
use Rattle.shapers_clusters.specs.Cuts.{IsMonotone, ShareNone}
use Rattle.shapers_clusters.specs.Steps.{FitSteps}
use Rattle.shapers_indic.specs.Plan.{indic_in}
use Rattle.shapers_indic_initial.specs.InitialLaws.{OrderByFontLaws, OrderByFontReadsNoSerials}
use Rattle.shapers_indic_initial.specs.InitialPause.{steps_by_font}
use Rattle.shapers_syllabic.specs.Borders.{spans_setup}
use Rattle.shapers_syllabic.specs.Circles.{circled}
use Rattle.shapers_syllabic.specs.Syllabic.{unsafe_spans}
use Rattle.shapers_syllabic.specs.declared.ot_shaper_syllabic.kinds.indic_syllable.TheConstants.{BROKEN_CLUSTER}
use Rattle.shapers_syllabic.proofs.Borders.{syllables-append}
use Rattle.shapers_syllabic.proofs.CircleLaws.{joined-syllables}
use Rattle.shapers_syllabic.proofs.PauseCuts.{apart_by, clusters-setup}
use Rattle.rustybuzz_shapers.specs.Pauses.{Reordered, by_initial}
use Rattle.shapers_break_laws.specs.IndicBreaks.{InitialPausesBreak, InitialTextBreaks, JoinerShares, SpansSeparateClusters}
use Rattle.shapers_break_laws.specs.KeptTextBreaks.{SyllablesApart}
use Rattle.shapers_break_laws.specs.ScriptBreaks.{CanBreak}
use Rattle.shapers_break_laws.specs.Setup.{SpanBorder}
use Rattle.shapers_break_laws.proofs.ApartPieces.{ApartAtBorders}
use Rattle.shapers_break_laws.proofs.CircledBorders.{apart_at}
use Rattle.shapers_break_laws.proofs.Guarded.{LeastOrFlagged}
use Rattle.shapers_break_laws.proofs.IndicSteps.{initial_keeps}
use Rattle.shapers_break_laws.proofs.KeptBorders.{KeepFlags, kept_border}
use Rattle.shapers_break_laws.proofs.PauseBreaks.{PauseCut, TextCut, broken_at, text_cut}
use Rattle.shapers_break_laws.proofs.Setup.{AllAsLong, setup_guarded, sum-as_long, taken_as_long}
use Rattle.shapers_break_laws.proofs.KeptTextBreaks.{all_whole, apart_pieces, broken_there}

-- halves of spans at a border of clusters that rise or fall
halves_apart : (spans : List Span) (gs : Glyphs) (n : ℕ) → IsMonotone (clusters gs) → SpansSeparateClusters spans gs
    → SpanBorder spans n → ShareNone (take n gs) (drop n gs)
halves_apart spans gs n mono part border i j il jl =
    let cluster : Glyph → ℕ = λ g. g.cluster in
    let xs = take n gs in
    let ys = drop n gs in
    let a = length-take n gs in
    let b = length-drop n gs in
    let all : clusters xs ++ clusters ys ≡ clusters gs = sym (map-append cluster xs ys) ∙ ap clusters
    (take-append-drop n gs) in
    let xn : length (clusters xs) ≡ n = length-map xs cluster ∙ length-take-le n gs (omega arith) in
    let yn : length (clusters ys) ≡ length ys = length-map ys cluster in
    let ne = part n (omega arith) (omega arith) border in
    let differ = subst (λ (cs : List ℕ). get_or cs (length (clusters xs) - 1) 0 ≢ get_or cs (length (clusters xs)) 0)
    (sym all) (subst (λ (k : ℕ). get_or (clusters gs) (k - 1) 0 ≢ get_or (clusters gs) k 0) (sym xn) ne) in
    apart_at (clusters xs) (clusters ys) (subst IsMonotone (sym all) mono) (omega arith) (omega arith) differ i j
    (omega (arith, il, length-map xs cluster)) (omega (arith, jl, yn))

-- the cut behind the first k spans
cut_apart : (spans : List Span) (old gs : Glyphs) (k : ℕ) → IsMonotone (clusters old) → SpansSeparateClusters spans old
    → AllAsLong (syllables gs) spans → (text : TextCut spans old gs k) → ShareNone (take text.n old) (drop text.n old)
cut_apart spans old gs k mono part long text = halves_apart spans old text.n mono part (record {
  front = take k spans;
  back = drop k spans;
  split = text.split;
  place = sum-as_long (take k (syllables gs)) (take k spans) (taken_as_long k (syllables gs) spans long)
      ∙ sym text.count;
})

-- so at every border of the syllables that are set up
setup_pieces_apart : (spans : List Span) (old : Buffer) → CanBreak spans old → SpansSeparateClusters spans old.glyphs
    → ApartAtBorders (syllables (unsafe_spans spans old.glyphs))
setup_pieces_apart spans old can part k =
    let gs = old.glyphs in
    let bare = unsafe_spans spans gs in
    let under = setup_guarded spans gs can.kinds can.covered in
    let t = text_cut spans gs bare k can.covered (clusters-setup spans BROKEN_CLUSTER old) under.as_long in
    apart_by (flat_map (λ q. q) (take k (syllables bare))) (flat_map (λ q. q) (drop k (syllables bare)))
    (take t.n gs) (drop t.n gs) (sym t.before) (sym t.behind)
    (cut_apart spans gs bare k can.monotone part under.as_long t)

pub setup_apart : (spans : List Span) (old : Buffer) → CanBreak spans old → SpansSeparateClusters spans old.glyphs
    → SyllablesApart (unsafe_spans spans old.glyphs)
setup_apart spans old can part before behind text border =
    let id : Glyphs → Glyphs = λ q. q in
    let pieces = syllables (unsafe_spans spans old.glyphs) in
    let k = length (syllables before) in
    let parts : pieces ≡ syllables before ++ syllables behind = ap syllables text
    ∙ syllables-append before behind border in
    let front : flat_map id (take k pieces) ≡ before = ap (λ ps. flat_map id (take k ps)) parts
    ∙ ap (flat_map id) (take_at (syllables before) (syllables behind) k refl) ∙ joined-syllables before in
    let back : flat_map id (drop k pieces) ≡ behind = ap (λ ps. flat_map id (drop k ps)) parts
    ∙ ap (flat_map id) (drop_at (syllables before) (syllables behind) k refl) ∙ joined-syllables behind in
    subst (λ xs. ShareNone xs behind) front (subst (ShareNone (flat_map id (take k pieces))) back
    (setup_pieces_apart spans old can part k))

-- the initial reordering keeps flags
flags_kept : OrderByFontLaws → (font : Font) (m : Map) (p : indic_shape_plan_t) (script : Option Script)
    (level : BufferClusterLevel) → KeepFlags (JoinerShares script) level (steps_by_font font m p script)
flags_kept laws font m p script level least piece good all = initial_keeps font m p script level (LeastOrFlagged least) piece good
    (subst (λ n. FitSteps n (steps_by_font font m p script (order_view piece))) (length-map piece plain)
    ((laws font m p script).fits (order_view piece))) all

pub initial_text_breaks : OrderByFontLaws → InitialTextBreaks
initial_text_breaks laws plan font unread old new m kept apart joiners done p z l clear =
    let r = by_initial plan font old in
    let law = laws font plan.ot_map (indic_in plan) old.script in
    let gs = old.glyphs in
    let pieces = apart_pieces gs apart in
    let border = kept_border (JoinerShares old.script) old.level r.steps law.fits
    (flags_kept laws font plan.ot_map (indic_in plan) old.script old.level) r.circles gs new.glyphs
    (all_whole (syllables gs) kept) pieces joiners done.0.moved p z l clear in
    broken_there r.order r.steps law r.circles old new done.0 p border (pieces border.count)

pub initial_pauses_break : OrderByFontLaws → OrderByFontReadsNoSerials → InitialPausesBreak
initial_pauses_break laws reads plan font spans unread old mid new can part joiners setup reordered p z l clear =
    let by = by_initial plan font mid in
    let circles = by.circles in
    let indic = indic_in plan in
    let gs = old.glyphs in
    let set : Buffer = spans_setup spans BROKEN_CLUSTER old in
    let bare = unsafe_spans spans gs in
    let law = laws font plan.ot_map indic mid.script in
    let under = setup_guarded spans gs can.kinds can.covered in
    let apart = setup_pieces_apart spans old can part in
    let done : Reordered by set new = subst (λ (b : Buffer). Reordered by b new) setup reordered.0 in
    let shares : AllByRecursion (JoinerShares mid.script) (syllables (circled circles bare)) =
    subst (λ (b : Buffer). AllByRecursion (JoinerShares mid.script) (syllables (circled circles b.glyphs))) setup joiners in
    let border = kept_border (JoinerShares mid.script) old.level by.steps law.fits
    (flags_kept laws font plan.ot_map indic mid.script old.level) circles bare new.glyphs under.whole apart shares done.moved
    p z l clear in
    let k = border.count in
    let t = text_cut spans gs bare k can.covered (clusters-setup spans BROKEN_CLUSTER old) under.as_long in
    let pause : PauseCut circles spans gs bare p = record {
      count = k;
      within = border.within;
      place = border.place;
      text = t;
      apart = cut_apart spans gs bare k can.monotone part under.as_long t;
    } in
    broken_at by.order by.steps BROKEN_CLUSTER law (reads font plan.ot_map indic mid.script) circles spans old new
    can.kinds can.covered done p pause
