-- A set-up and a reordering directly after it may be broken at every clear place.
use Rattle.std.proofs.Common.{ℕ, zero, suc, ◌-◌, ◌<◌, ◌≤◌, ◌≡◌, ◌≢◌, true, List, [], ◌∷◌, ◌++◌, length, map, take, drop, get_or, slice_index, refl, sym, ap, ◌∙◌, subst, arith, length-append, length-drop}
use Rattle.std.specs.Prelude.{Option}
use Rattle.std.specs.List.{All, flat_map}
use Rattle.std.proofs.lemmas.List.{drop-map, drop_at, length-map, length-take-le, map-append, take-append-drop, take-map, take_at}
use Rattle.std.proofs.lemmas.List.Elements.{All-take}
use Rattle.std.proofs.lemmas.List.Concat.{flat_map-append}
use Rattle.shapers_buffer.specs.Glyphs.{Glyph, Glyphs}
use Rattle.shapers_buffer.specs.declared.buffer.level.BufferClusterLevel.{BufferClusterLevel}
use Rattle.shapers_buffer.specs.declared.buffer.syllables.Span.{Span}
use Rattle.shapers_buffer.specs.Buffer.{Buffer}
use Rattle.shapers_buffer.specs.Clusters.{merges}
use Rattle.shapers_buffer.specs.Glyph.{clusters, order_view}
use Rattle.shapers_buffer.specs.Syllables.{spans_cover, syllables}
use Rattle.shapers_clusters.specs.Breaks.{IsClear}
use Rattle.shapers_clusters.specs.Cuts.{IsMonotone, ShareNone}
use Rattle.shapers_clusters.specs.Steps.{Step, after_steps}
use Rattle.shapers_syllabic.specs.Borders.{spans_setup, unnumbered}
use Rattle.shapers_syllabic.specs.Circles.{circled}
use Rattle.shapers_syllabic.specs.Reordering.{PauseReordered, SyllablesReordered, carried, text_steps}
use Rattle.shapers_syllabic.specs.ReorderingLaws.{MoveMerged, ReadsNoSerials, ReorderLaws, paused_clusters, paused_order}
use Rattle.shapers_syllabic.specs.Syllabic.{unsafe_spans}
use Rattle.shapers_syllabic.specs.declared.ot_shaper_syllabic.circles.DottedCircles.{DottedCircles}
use Rattle.shapers_syllabic.proofs.Borders.{syllables-append}
use Rattle.shapers_syllabic.proofs.CircleLaws.{joined-syllables}
use Rattle.shapers_syllabic.proofs.HiddenCuts.{pauses_cut_between_spans}
use Rattle.shapers_syllabic.proofs.PauseCuts.{apart_by, clusters-setup}
use Rattle.shapers_syllabic.proofs.ReorderingLaws.{text_reordered}
use Rattle.shapers_syllabic.proofs.SpanCuts.{spans_cut}
use Rattle.shapers_break_laws.specs.PauseBreaks.{BreaksBetweenSpans, BrokenBetweenSpans, SpanCut}
use Rattle.shapers_break_laws.proofs.CircledBorders.{Each, apart_at, circled_is, length-paused, opened_piece, pieces_erased, reordered_border}
use Rattle.shapers_break_laws.proofs.Setup.{AllAsLong, IsGuarded, cover_cut, setup_guarded, sum-as_long, taken_as_long}

-- pieces as long as spans are as many
pub as_many : (pieces : List Glyphs) (spans : List Span) → AllAsLong pieces spans → length pieces ≡ length spans
as_many [] [] h = refl
as_many [] (s ∷ ss) h = absurd h
as_many (p ∷ ps) [] h = absurd h
as_many (p ∷ ps) (s ∷ ss) h = ap (λ n. suc n) (as_many ps ss h.1)

-- A text that is set up, cut behind its first k syllables: the spans and glyphs before and behind.
pub record TextCut (spans : List Span) (old gs : Glyphs) (k : ℕ) : Type 0 where
  pub split : spans ≡ take k spans ++ drop k spans
  pub n : ℕ
  pub count : n ≡ length (flat_map (λ piece. piece) (take k (syllables gs)))
  pub text : old ≡ take n old ++ drop n old
  pub first : spans_cover (length (take n old)) (take k spans) ≡ true
  pub second : spans_cover (length (drop n old)) (drop k spans) ≡ true
  pub before : clusters (take n old) ≡ clusters (flat_map (λ piece. piece) (take k (syllables gs)))
  pub behind : clusters (drop n old) ≡ clusters (flat_map (λ piece. piece) (drop k (syllables gs)))

pub text_cut : (spans : List Span) (old gs : Glyphs) (k : ℕ) → spans_cover (length old) spans ≡ true → clusters gs
    ≡ clusters old → AllAsLong (syllables gs) spans → TextCut spans old gs k
text_cut spans old gs k covers same long =
    let cluster : Glyph → ℕ = λ g. g.cluster in
    let pieces = syllables gs in
    let id : Glyphs → Glyphs = λ piece. piece in
    let fr = flat_map id (take k pieces) in
    let bh = flat_map id (drop k pieces) in
    let n = length fr in
    let split = sym (take-append-drop k spans) in
    let size = sum-as_long (take k pieces) (take k spans) (taken_as_long k pieces spans long) in
    let cut = cover_cut spans (take k spans) (drop k spans) (length old) n split covers size in
    let whole : fr ++ bh ≡ gs = sym (flat_map-append id (take k pieces) (drop k pieces)) ∙ ap (flat_map id)
    (take-append-drop k pieces) ∙ joined-syllables gs in
    let all : clusters fr ++ clusters bh ≡ clusters old = sym (map-append cluster fr bh) ∙ ap clusters whole ∙ same in
    let m : length (clusters fr) ≡ n = length-map fr cluster in
    let ends : n ≤ length old = omega (
      arith,
      m,
      ap length all,
      length-append (clusters fr)
          (clusters bh),
      length-map old cluster,
    ) in
    record {
      split = split;
      n = n;
      count = refl;
      text = sym (take-append-drop n old);
      first = ap (λ j. spans_cover j (take k spans)) (length-take-le n old ends) ∙ cut.first;
      second = ap (λ j. spans_cover j (drop k spans)) (length-drop n old) ∙ cut.second;
      before = sym (take-map cluster n old) ∙ ap (take n) (sym all) ∙ take_at (clusters fr) (clusters bh) n m;
      behind = sym (drop-map cluster n old) ∙ ap (drop n) (sym all) ∙ drop_at (clusters fr) (clusters bh) n m;
    }

-- all clusters of glyphs, at places
pub each_at : (P : ℕ → Type 0) (gs : Glyphs) → Each P gs → (i : ℕ) → i < length gs → P (slice_index (clusters gs) i)
each_at P [] h i l = absurd (omega arith)
each_at P (g ∷ gs) h zero l = h.0
each_at P (g ∷ gs) h (suc i) l = each_at P gs h.1 i (omega arith)

pub each_from : (P : ℕ → Type 0) (gs : Glyphs) → ((i : ℕ) → i < length gs → P (slice_index (clusters gs) i)) → Each P gs
each_from P [] h = tt
each_from P (g ∷ gs) h = (h 0 (omega arith), each_from P gs (λ i l. h (suc i) (omega arith)))

-- halves whose texts with circles share no cluster share none
pub apart_erased : (circles : Option DottedCircles) (ps qs : List Glyphs) → ShareNone
    (flat_map (opened_piece circles) ps)
    (flat_map (opened_piece circles) qs) → ShareNone (flat_map (λ p. p) ps) (flat_map (λ p. p) qs)
apart_erased circles ps qs none i j il jl =
    let id : Glyphs → Glyphs = λ p. p in
    let xs = flat_map (opened_piece circles) ps in
    let ys = flat_map (opened_piece circles) qs in
    let inner : (c : ℕ) → Each (λ d. c ≢ d) ys → Each (λ d. c ≢ d) (flat_map id qs) = λ c. pieces_erased
    (λ d. c ≢ d) circles qs in
    let outer : Each (λ c. Each (λ d. c ≢ d) (flat_map id qs)) (flat_map id ps) = pieces_erased
    (λ c. Each (λ d. c ≢ d) (flat_map id qs)) circles ps
    (each_from (λ c. Each (λ d. c ≢ d) (flat_map id qs)) xs
    (λ a al. inner (slice_index (clusters xs) a)
    (each_from (λ d. slice_index (clusters xs) a ≢ d) ys (λ b bl. none a b al bl)))) in
    each_at (λ d. slice_index (clusters (flat_map id ps)) i ≢ d) (flat_map id qs)
    (each_at (λ c. Each (λ d. c ≢ d) (flat_map id qs)) (flat_map id ps) outer i il) j jl

-- A clear place of a text that was set up and reordered: where the text is cut.
pub record PauseCut (circles : Option DottedCircles) (spans : List Span) (old mid : Glyphs) (p : ℕ) : Type 0 where
  pub count : ℕ
  pub within : count ≤ length (syllables mid)
  pub place : length (flat_map (opened_piece circles) (take count (syllables mid))) ≡ p
  pub text : TextCut spans old mid count
  pub apart : ShareNone (take text.n old) (drop text.n old)

pub pause_cut : (meaning : Glyphs → Glyphs) (steps : Glyphs → List Step) → ReorderLaws meaning steps → MoveMerged steps
    → (circles : Option DottedCircles) (level : BufferClusterLevel) → merges level ≡ true → (spans : List Span)
    (old mid new : Glyphs) → spans_cover (length old) spans ≡ true → clusters mid ≡ clusters old → IsGuarded spans mid
    → IsMonotone (clusters (circled circles mid)) →
    map carried new ≡ map carried (after_steps level (text_steps steps (order_view (circled circles mid)))
    (circled circles mid)) → length new ≡ length (circled circles mid) → (p : ℕ) → 0 < p → p < length new
    → IsClear new p → PauseCut circles spans old mid p
pause_cut meaning steps laws inside circles level m spans old mid new covers same guarded mono moved long p z l clear =
    let cluster : Glyph → ℕ = λ g. g.cluster in
    let pieces = syllables mid in
    let F = opened_piece circles in
    let (opened_clear, border) = reordered_border meaning steps laws inside circles level m mid new guarded.whole mono
    moved p z l clear long in
    let k = border.count in
    let text = text_cut spans old mid k covers same guarded.as_long in
    let fr = flat_map F (take k pieces) in
    let bh = flat_map F (drop k pieces) in
    let whole : circled circles mid ≡ fr ++ bh = circled_is circles mid ∙ ap (flat_map F)
    (sym (take-append-drop k pieces)) ∙ flat_map-append F (take k pieces) (drop k pieces) in
    let all : clusters (circled circles mid) ≡ clusters fr ++ clusters bh = ap clusters whole
    ∙ map-append cluster fr bh in
    let fn : length (clusters fr) ≡ p = length-map fr cluster ∙ border.place in
    let bn : length (clusters bh) ≡ length bh = length-map bh cluster in
    let sizes = length-append fr bh in
    let place = border.place in
    let some : 0 < length (clusters bh) = omega (arith, bn, sizes, ap length whole, long, l, place) in
    let differ : get_or (clusters fr ++ clusters bh) (length (clusters fr) - 1) 0 ≢ get_or (clusters fr ++ clusters bh)
    (length (clusters fr)) 0 =
    subst (λ (cs : List ℕ). get_or cs (length (clusters fr) - 1) 0 ≢ get_or cs (length (clusters fr)) 0) all
    (subst (λ (j : ℕ). get_or (clusters (circled circles mid)) (j - 1) 0 ≢ get_or (clusters (circled circles mid)) j 0)
    (sym fn) opened_clear.differ) in
    let far : ShareNone fr bh = λ i j il jl. apart_at (clusters fr) (clusters bh) (subst IsMonotone all mono)
    (omega arith) some differ i j (omega (arith, il, fn, place)) (omega (arith, jl, bn)) in
    let id : Glyphs → Glyphs = λ p. p in
    let n = text.n in
    record {
      count = k;
      within = border.within;
      place = border.place;
      text = text;
      apart = apart_by (take n old) (drop n old) (flat_map id (take k pieces))
          (flat_map id (drop k pieces)) text.before text.behind
          (apart_erased circles (take k pieces) (drop k pieces) far);
    }

-- the length that a reordering keeps
pub length-moved : (meaning : Glyphs → Glyphs) (steps : Glyphs → List Step) (old new : Buffer)
    → ReorderLaws meaning steps → SyllablesReordered meaning steps old new → length new.glyphs ≡ length old.glyphs
length-moved meaning steps old new laws done = (text_reordered meaning steps old new laws done).glyphs.same_length

-- the first spans set up the first syllables
pub front_is : (spans : List Span) (broken_kind k : ℕ) (old : Buffer) → All (λ span. span.kind ≤ 15) spans
    → spans_cover (length old.glyphs) spans ≡ true →
    (text : TextCut spans old.glyphs (unsafe_spans spans old.glyphs) k) → k ≤ length
    (syllables (unsafe_spans spans old.glyphs)) → syllables (unsafe_spans (take k spans) (take text.n old.glyphs))
    ≡ take k (syllables (unsafe_spans spans old.glyphs))
front_is spans broken_kind k old kinds covers text within =
    let gs = old.glyphs in
    let n = text.n in
    let front = unsafe_spans (take k spans) (take n gs) in
    let cut = spans_cut spans broken_kind old kinds (take k spans) (drop k spans) (take n gs)
    (drop n gs) text.split text.text text.first text.second in
    let behind = cut.behind in
    let whole : syllables (unsafe_spans spans gs) ≡ syllables front ++ syllables behind = ap syllables cut.parts
    ∙ syllables-append front behind cut.border in
    let guarded = setup_guarded spans gs kinds covers in
    let part = setup_guarded (take k spans) (take n gs)
    (All-take (λ (s : Span). s.kind ≤ 15) k spans kinds) text.first in
    let many = as_many (syllables (unsafe_spans spans gs)) spans guarded.as_long in
    let few = as_many (syllables front) (take k spans) part.as_long in
    let size : length (syllables front) ≡ k = few ∙ length-take-le k spans (omega (arith, many, within)) in
    sym (ap (take k) whole ∙ take_at (syllables front) (syllables behind) k size)

-- the text is broken where it is cut
pub broken_at : (meaning : Glyphs → Glyphs) (steps : Glyphs → List Step) (broken_kind : ℕ)
    → ReorderLaws meaning steps → ReadsNoSerials meaning steps →
    (circles : Option DottedCircles) (spans : List Span) (old new : Buffer) → All (λ span. span.kind ≤ 15) spans
    → spans_cover (length old.glyphs) spans ≡ true → PauseReordered circles meaning steps
    (spans_setup spans broken_kind old) new → (p : ℕ) → PauseCut circles spans old.glyphs
    (unsafe_spans spans old.glyphs) p → BrokenBetweenSpans unnumbered unsafe_spans (paused_order circles meaning)
    (paused_clusters circles steps old.level) spans old.glyphs new.glyphs p
broken_at meaning steps broken_kind laws reads circles spans old new kinds covers done p c =
    let gs = old.glyphs in
    let k = c.count in
    let n = c.text.n in
    let front = unsafe_spans (take k spans) (take n gs) in
    let back = unsafe_spans (drop k spans) (drop n gs) in
    let first = front_is spans broken_kind k old kinds covers c.text c.within in
    let place : length (paused_order circles meaning front) ≡ p = length-paused meaning steps laws circles front
    ∙ ap length (circled_is circles front ∙ ap (flat_map (opened_piece circles)) first) ∙ c.place in
    let cut : SpanCut unsafe_spans (paused_order circles meaning) spans gs p = record {
      front = take k spans;
      back = drop k spans;
      before = take n gs;
      behind = drop n gs;
      split = c.text.split;
      text =
          c.text.text;
      first = c.text.first;
      second = c.text.second;
      apart = c.apart;
      place = place;
    } in
    let halves = pauses_cut_between_spans meaning steps broken_kind laws reads circles spans old new kinds done
    (take k spans) (drop k spans) (take n gs)
    (drop n gs) front back c.text.split c.text.text c.text.first c.text.second refl refl in
    record { cut = cut; order = halves.order; in_clusters = halves.in_clusters c.apart }

pub pauses_break_by : (meaning : Glyphs → Glyphs) (steps : Glyphs → List Step) (broken_kind : ℕ)
    → ReorderLaws meaning steps → MoveMerged steps → ReadsNoSerials meaning steps →
    (circles : Option DottedCircles) (spans : List Span) (old new : Buffer) → All (λ span. span.kind ≤ 15) spans
    → spans_cover (length old.glyphs) spans ≡ true → merges old.level ≡ true → IsMonotone
    (clusters (circled circles (unsafe_spans spans old.glyphs))) → PauseReordered circles meaning steps
    (spans_setup spans broken_kind old) new →
    BreaksBetweenSpans unnumbered unsafe_spans (paused_order circles meaning)
    (paused_clusters circles steps old.level) spans old.glyphs new.glyphs
pauses_break_by meaning steps broken_kind laws inside reads circles spans old new kinds covers m mono done p z l clear =
    let gs = old.glyphs in
    let mid = unsafe_spans spans gs in
    let opened_text : Buffer = record (spans_setup spans broken_kind old) { glyphs = circled circles mid } in
    let long = length-moved meaning steps opened_text new laws done in
    let guarded = setup_guarded spans gs kinds covers in
    let c = pause_cut meaning steps laws inside circles old.level m spans gs mid new.glyphs covers
    (clusters-setup spans broken_kind old) guarded mono done.moved long p z l clear in
    broken_at meaning steps broken_kind laws reads circles spans old new kinds covers done p c
