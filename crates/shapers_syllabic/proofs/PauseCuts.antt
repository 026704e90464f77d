-- A set-up and a reordering directly after it, cut between two spans.
use Rattle.std.proofs.Common.{ℕ, ◌≡◌, List, [], ◌∷◌, ◌++◌, map, length, drop, refl, sym, ◌∙◌, ap, arith}
use Rattle.std.specs.List.{flat_map}
use Rattle.std.proofs.lemmas.List.{drop_at, length-map, map-append}
use Rattle.shapers_buffer.specs.Glyphs.{Glyph, Glyphs}
use Rattle.shapers_buffer.specs.declared.buffer.syllables.Span.{Span}
use Rattle.shapers_buffer.specs.Buffer.{Buffer}
use Rattle.shapers_buffer.specs.Glyph.{clusters}
use Rattle.shapers_buffer.specs.GlyphFlags.{flagged}
use Rattle.shapers_buffer.specs.Syllables.{with_bytes}
use Rattle.shapers_clusters.specs.Cuts.{ShareNone}
use Rattle.shapers_clusters.proofs.FlagCalls.{map-flagged}
use Rattle.shapers_syllabic.specs.Borders.{spans_setup, unnumbered}
use Rattle.shapers_syllabic.specs.ReorderingLaws.{PausesCutAtSpans, paused_carried, paused_order}
use Rattle.shapers_syllabic.proofs.CircleLaws.{joined-syllables}
use Rattle.shapers_syllabic.proofs.ReorderingCuts.{cuts_at_borders}
use Rattle.shapers_syllabic.proofs.Serials.{serials_dont_count}
use Rattle.shapers_syllabic.proofs.SpanCuts.{spans_cut}

-- a set-up keeps the clusters
pub clusters-flagged : (pieces : List Glyphs) → clusters (flat_map (flagged 3) pieces)
    ≡ clusters (flat_map (λ piece. piece) pieces)
clusters-flagged [] = refl
clusters-flagged (piece ∷ pieces) = search (map-append, map-flagged, clusters-flagged pieces)

clusters-with_bytes : (gs : Glyphs) (bytes : List ℕ) → clusters (with_bytes gs bytes) ≡ clusters gs
clusters-with_bytes (g ∷ gs) (byte ∷ bytes) = cc (clusters-with_bytes gs bytes)
clusters-with_bytes _ _ = refl

pub clusters-setup : (spans : List Span) (broken_kind : ℕ) (b : Buffer)
    → clusters (spans_setup spans broken_kind b).glyphs ≡ clusters b.glyphs
clusters-setup = search (clusters-flagged, joined-syllables, clusters-with_bytes)

pub apart_by : (xs ys gs hs : Glyphs) → clusters xs ≡ clusters gs → clusters ys ≡ clusters hs
    → ShareNone gs hs → ShareNone xs ys
apart_by xs ys gs hs a b none i j il jl same =
    let x : length xs ≡ length gs = search (arith, length-map) in
    let y : length ys ≡ length hs = search (arith, length-map) in
    none i j (omega arith) (omega arith) (cc)

pub pauses_cut : PausesCutAtSpans
pauses_cut circles meaning steps spans broken_kind old new laws reads kinds done ss ts gs hs split text first second =
    let cluster : Glyph → ℕ = λ g. g.cluster in
    let before = (spans_setup ss broken_kind (record old { glyphs = gs })).glyphs in
    let cut = spans_cut spans broken_kind old kinds ss ts gs hs split text first second in
    let behind = cut.behind in
    let pause = cuts_at_borders circles meaning steps
    (spans_setup spans broken_kind old) new laws done before behind cut.parts cut.border in
    let serials = serials_dont_count circles meaning steps old.level behind
    ((spans_setup ts broken_kind (record old { glyphs = hs })).glyphs) reads cut.renumbered in
    let front = clusters-setup ss broken_kind (record old { glyphs = gs }) in
    let whole : clusters before ++ clusters behind ≡ clusters gs ++ clusters hs =
    sym (map-append cluster before behind) ∙ sym (ap clusters cut.parts) ∙ clusters-setup spans broken_kind old
    ∙ ap clusters text ∙ map-append cluster gs hs in
    let n = length (clusters gs) in
    let back : clusters behind ≡ clusters hs =
    sym (drop_at (clusters before) (clusters behind) n (ap length front)) ∙ ap (drop n) whole
    ∙ drop_at (clusters gs) (clusters hs) n refl in
    record {
      order =
          ap (map unnumbered) pause.order
          ∙ map-append unnumbered (paused_order circles meaning before) (paused_order circles meaning behind)
          ∙ ap (λ l. map unnumbered (paused_order circles meaning before) ++ l) serials.order;
      moved = λ none. ap (map unnumbered) (pause.moved (apart_by before behind gs hs front back none))
          ∙ map-append unnumbered (paused_carried circles steps old.level before)
          (paused_carried circles steps old.level behind)
          ∙ ap (λ l. map unnumbered (paused_carried circles steps old.level before) ++ l) serials.moved;
    }
