-- A set-up by spans, a reordering pause and the final reordering, directly after one another, cut between two spans.
use Rattle.std.proofs.Common.{ℕ, ◌<◌, ◌≡◌, List, [], ◌∷◌, ◌++◌, map, length, take, drop, slice_index, Option, None, refl, sym, ◌∙◌, ap, subst, arith, take-append-drop}
use Rattle.std.specs.Prelude.{All}
use Rattle.std.specs.List.{Contains}
use Rattle.std.proofs.lemmas.List.{drop-map, drop_at, get_or_default, length-map, map-append, take-map, take_at}
use Rattle.std.proofs.lemmas.List.Elements.{All-get_or}
use Rattle.std.proofs.lemmas.List.Sorted.{length_permutation}
use Rattle.shapers_buffer.specs.Glyphs.{Glyph, Glyphs}
use Rattle.shapers_buffer.specs.declared.buffer.level.BufferClusterLevel.{BufferClusterLevel}
use Rattle.shapers_buffer.specs.declared.buffer.tag.Script.{Script}
use Rattle.shapers_buffer.specs.Buffer.{Buffer}
use Rattle.shapers_buffer.specs.Glyph.{clusters, order_view, plain}
use Rattle.shapers_buffer.specs.GlyphFlags.{with_bits}
use Rattle.shapers_buffer.specs.Syllables.{syllables}
use Rattle.shapers_clusters.specs.Cuts.{ShareNone}
use Rattle.shapers_clusters.specs.Flags.{seen}
use Rattle.shapers_clusters.specs.Steps.{FitSteps, FitsStep, Step, joined_steps, steps_along}
use Rattle.shapers_clusters.proofs.Proved.{along_holds, clusters_hold}
use Rattle.shapers_clusters.proofs.ViewedSteps.{clusters-through}
use Rattle.shapers_indic_final.specs.FinalCuts.{FinalCutsBetweenSpans, final_clusters_after, uninitiated}
use Rattle.shapers_indic_final.specs.FinalLaws.{final_clusters}
use Rattle.shapers_indic_final.specs.FinalWordStart.{FinallyReordered, final_text}
use Rattle.shapers_indic_final.specs.FinalReordering.{final_order, final_steps}
use Rattle.shapers_indic_final.specs.declared.ot_shaper_indic_final.rules.Rules.{Rules}
use Rattle.shapers_indic_final.proofs.FinalSerials.{final_reads_no_serials, final_text_reads_no_serials}
use Rattle.shapers_indic_final.proofs.FinalText.{bits_text, finished, halves, kept_byte}
use Rattle.shapers_syllabic.specs.declared.ot_shaper_syllabic.circles.DottedCircles.{DottedCircles}
use Rattle.shapers_syllabic.specs.declared.ot_shaper_syllabic.kinds.indic_syllable.TheConstants.{BROKEN_CLUSTER}
use Rattle.shapers_syllabic.specs.Borders.{MeetAtBorder, SameButSerials, unnumbered}
use Rattle.shapers_syllabic.specs.Circles.{circled}
use Rattle.shapers_syllabic.specs.Reordering.{carried, text_order, text_steps}
use Rattle.shapers_syllabic.specs.ReorderingLaws.{ReadsNoSerials, ReorderLaws, paused_clusters, paused_order}
use Rattle.shapers_syllabic.specs.SpanCuts.{CutsAtBorders}
use Rattle.shapers_syllabic.specs.Syllabic.{unsafe_spans}
use Rattle.shapers_syllabic.proofs.Borders.{SameEnds, border-view, border_by, ends-kept, syllables-mapped, syllables_cut}
use Rattle.shapers_syllabic.proofs.CircleLaws.{joined-syllables, no_new_cluster}
use Rattle.shapers_syllabic.proofs.HiddenCuts.{pauses_cut_between_spans, map-twice}
use Rattle.shapers_syllabic.proofs.PauseCuts.{clusters-setup}
use Rattle.shapers_syllabic.proofs.ReorderingCuts.{border-circled, circled-append, text_order-append, text_order-halves}
use Rattle.shapers_syllabic.proofs.ReorderingLaws.{each_piece, nothing_lost, sum-syllables, text_steps-long}
use Rattle.shapers_syllabic.proofs.ReorderingWalk.{pieces_of}
use Rattle.shapers_syllabic.proofs.Serials.{joined_same, pieces_same, same-circled, same-view, same_text, steps_same, unnumbered_passes}
use Rattle.shapers_syllabic.proofs.SpanCuts.{spans_cut}

-- the ends of a text after a pause
ends_after : (meaning : Glyphs → Glyphs) (steps : Glyphs → List Step) → ReorderLaws meaning steps → (xs : Glyphs)
    → SameEnds (text_order meaning xs) xs
ends_after meaning steps laws xs = search (
  arith,
  joined-syllables xs,
  ends-kept meaning (kept_byte meaning steps laws) (syllables xs) (syllables_cut xs),
)

-- serials after a pause
same_after : (circles : Option DottedCircles) (meaning : Glyphs → Glyphs) (steps : Glyphs → List Step)
    → ReorderLaws meaning steps → ReadsNoSerials meaning steps → (gs hs : Glyphs) → SameButSerials gs hs
    → SameButSerials (paused_order circles meaning gs) (paused_order circles meaning hs)
same_after circles meaning steps laws reads gs hs same =
    let xs = order_view (circled circles gs) in
    let ys = order_view (circled circles hs) in
    let keeps = kept_byte meaning steps laws in
    cc (
      syllables-mapped meaning keeps xs,
      pieces_same meaning reads.meant (syllables xs) (syllables ys)
          (same-view (circled circles gs) (circled circles hs) (same-circled circles gs hs same)),
      syllables-mapped meaning keeps ys,
    )

same_long : (xs ys : Glyphs) → SameButSerials xs ys → length xs ≡ length ys
same_long xs ys same = cc (length-map xs unnumbered, same_text xs ys same, length-map ys unnumbered)

same_steps : (r : Rules) (script : Option Script) (xs ys : Glyphs) → SameButSerials xs ys
    → text_steps (final_steps r script) xs ≡ text_steps (final_steps r script) ys
same_steps r script xs ys same =
    let steps = final_steps r script in
    ap (λ n. steps_along n 0 (pieces_of steps (syllables xs))) (same_long xs ys same)
    ∙ ap (steps_along (length ys) 0) (steps_same steps
    (final_reads_no_serials r script).led (syllables xs) (syllables ys) same)

-- lengths after a pause
pause_fits : (circles : Option DottedCircles) (meaning : Glyphs → Glyphs) (steps : Glyphs → List Step)
    → ReorderLaws meaning steps → (level : BufferClusterLevel) (gs : Glyphs)
    → FitSteps (length (circled circles gs)) (text_steps steps (order_view (circled circles gs)))
pause_fits circles meaning steps laws level gs =
    let zs = circled circles gs in
    let xs = order_view zs in
    let ps = pieces_of steps (syllables xs) in
    let along = along_holds level ps zs
    (omega (arith, sum-syllables steps xs, length-map zs plain)) (each_piece FitsStep steps laws.fits (syllables xs)) in
    search (text_steps-long steps zs)

record PausedClusters (circles : Option DottedCircles) (meaning : Glyphs → Glyphs) (steps : Glyphs
    → List Step) (level : BufferClusterLevel) (gs : Glyphs) : Type 0 where
  pub long : length (paused_clusters circles steps level gs) ≡ length (paused_order circles meaning gs)
  pub among : All (Contains (clusters (circled circles gs))) (paused_clusters circles steps level gs)

paused_facts : (circles : Option DottedCircles) (meaning : Glyphs → Glyphs) (steps : Glyphs → List Step)
    → ReorderLaws meaning steps → (level : BufferClusterLevel) (gs : Glyphs)
    → PausedClusters circles meaning steps level gs
paused_facts circles meaning steps laws level gs =
    let zs = circled circles gs in
    let xs = order_view zs in
    let sts = text_steps steps xs in
    let cluster : Glyph → ℕ = λ g. g.cluster in
    let held = clusters_hold level sts (clusters zs) (subst (λ n. FitSteps n sts) (sym (length-map zs cluster))
    (pause_fits circles meaning steps laws level gs)) in
    let shown : Glyph → Glyph = λ g. plain (carried g) in
    search (
      arith,
      length-map zs cluster,
      length-map zs plain,
      length-map (text_order meaning xs) shown,
      length_permutation (seen carried xs) (seen carried (text_order meaning xs))
          (nothing_lost meaning steps laws xs).kept,
      length-map xs shown,
    )

-- clusters that come of those of halves that share none
cluster_among : (cs : List ℕ) (xs : Glyphs) → All (Contains cs) (clusters xs) → (i : ℕ) → i < length xs
    → (k : ℕ) × (k < length cs) × (slice_index cs k ≡ slice_index (clusters xs) i)
cluster_among cs xs all i h =
    let found = All-get_or (Contains cs) (clusters xs) i 0 (omega (arith, length-map xs (λ g. g.cluster))) all in
    search (arith, get_or_default)

apart_among : (gs hs xs ys : Glyphs) → All (Contains (clusters gs)) (clusters xs)
    → All (Contains (clusters hs)) (clusters ys) → ShareNone gs hs → ShareNone xs ys
apart_among gs hs xs ys a b none i j il jl =
    let p = cluster_among (clusters gs) xs a i il in
    let q = cluster_among (clusters hs) ys b j jl in
    search (arith, length-map)

-- a border that shows in the order view is one
bytes_plain : (gs : Glyphs) → map (λ (g : Glyph). g.syllable) (order_view gs) ≡ map (λ g. g.syllable) gs
bytes_plain [] = refl
bytes_plain (g ∷ gs) = cc (bytes_plain gs)

met : (gs hs : Glyphs) → MeetAtBorder (order_view gs) (order_view hs) → MeetAtBorder gs hs
met = search (length-map, bytes_plain)

-- the bits of init, and serials
bits_past : (bits : ℕ) (gs : Glyphs) → map unnumbered (map (with_bits bits) gs)
    ≡ map (with_bits bits) (map unnumbered gs)
bits_past bits [] = refl
bits_past bits (g ∷ gs) = cc (bits_past bits gs)

shown_final : (r : Rules) (script : Option Script) (xs : Glyphs) → map (uninitiated r) (final_text r script xs)
    ≡ map (with_bits r.init) (map unnumbered (text_order (final_order r script) xs))
shown_final r script xs = cc (
  map-twice (with_bits r.init) (final_text r script xs),
  bits_text r script None xs,
  bits_past r.init (text_order (final_order r script) xs),
)

same_final : (r : Rules) (script : Option Script) (xs ys : Glyphs) → SameButSerials xs ys
    → map unnumbered (text_order (final_order r script) xs) ≡ map unnumbered (text_order (final_order r script) ys)
same_final r script = let reads = final_reads_no_serials r script in search joined_same

clusters-same : (xs ys : Glyphs) → SameButSerials xs ys → clusters xs ≡ clusters ys
clusters-same xs ys same = cc (
  clusters-through unnumbered unnumbered_passes xs,
  same_text xs ys same,
  clusters-through unnumbered unnumbered_passes ys,
)

-- halves that meet at a border, and ones that are the same but for serials
shown_halves : (r : Rules) (script : Option Script) (gs hs xs ys : Glyphs) → MeetAtBorder gs hs → SameButSerials gs xs
    → SameButSerials hs ys → map (uninitiated r) (final_text r script (gs ++ hs))
    ≡ map (uninitiated r) (final_text r script xs) ++ map (uninitiated r) (final_text r script ys)
shown_halves = search (arith, shown_final, text_order-append, map-append, same_final)

-- the pause alone, cut at a border of syllables
pub final_cuts_with_serials : (r : Rules) (old new : Buffer) → FinallyReordered r old new
    → CutsAtBorders (uninitiated r) (λ gs. final_text r old.script (order_view gs))
    (final_clusters r old.script old.level) old.glyphs new.glyphs
final_cuts_with_serials r old new done gs hs xs ys text border one two =
    let f = finished r old new done in
    let script = old.script in
    let level = old.level in
    let C = final_clusters r script level in
    record {
      order =
          ap (map (uninitiated r)) (f.order ∙ ap (final_text r script) (ap order_view text ∙ map-append plain gs hs))
          ∙ shown_halves r script (order_view gs) (order_view hs) (order_view xs) (order_view ys)
          (border-view gs hs border) (same-view gs xs one) (same-view hs ys two);
      in_clusters = λ none.
          (halves r script level old.glyphs new.glyphs gs hs f.order f.clusters_are text border).in_clusters none
          ∙ ap (λ cs. cs ++ C hs) ((final_text_reads_no_serials r script gs xs one).in_clusters level)
          ∙ ap (λ cs. C xs ++ cs) ((final_text_reads_no_serials r script hs ys two).in_clusters level);
    }

pub final_cuts_between_spans : FinalCutsBetweenSpans
final_cuts_between_spans r meaning steps circles spans old mid new laws reads kinds paused done ss ts gs hs xs ys split
    text first second one two =
    let f = finished r mid new done in
    let script = old.script in
    let level = old.level in
    let kept : mid.script ≡ script = search arith in
    let P = paused_order circles meaning in
    let C = paused_clusters circles steps level in
    let F = unsafe_spans ss gs in
    let cut = spans_cut spans BROKEN_CLUSTER old kinds ss ts gs hs split text first second in
    let B = cut.behind in
    let joined = pauses_cut_between_spans meaning steps BROKEN_CLUSTER laws reads circles spans old mid kinds paused ss
    ts gs hs xs ys split text first second one two in
    let parts = paused.order ∙ ap P cut.parts
    ∙ ap (λ zs. text_order meaning (order_view zs)) (circled-append circles F B cut.border)
    ∙ text_order-halves meaning (circled circles F) (circled circles B) (border-circled circles F B cut.border) in
    let border =
    let xs = order_view (circled circles F) in
    let ys = order_view (circled circles B) in border_by (text_order meaning xs) (text_order meaning ys) xs ys (search ends_after) (search ends_after) (search (arith, border-view, border-circled)) in
    let front = same_after circles meaning steps laws reads F xs one in
    let back = same_after circles meaning steps laws reads B ys (cut.renumbered ∙ two) in
    let ordered = f.order ∙ ap (λ s. final_text r s (order_view mid.glyphs)) kept in
    record {
      order = ap (map (uninitiated r)) (ordered ∙ ap (final_text r script) parts)
          ∙ shown_halves r script (P F) (P B) (P xs) (P ys) border front back;
      in_clusters = λ none.
          let n = length (P F) in
          let G = take n mid.glyphs in
          let K = drop n mid.glyphs in
          let one_facts = paused_facts circles meaning steps laws level xs in
          let cluster : Glyph → ℕ = λ g. g.cluster in
          let size = one_facts.long ∙ sym (same_long (P F) (P xs) front) in
          let gv = sym (take-map plain n mid.glyphs) ∙ ap (take n) parts ∙ take_at (P F) (P B) n refl in
          let kv = sym (drop-map plain n mid.glyphs) ∙ ap (drop n) parts ∙ drop_at (P F) (P B) n refl in
          let both = joined.in_clusters none in
          let gc = sym (take-map cluster n mid.glyphs) ∙ ap (take n) both ∙ take_at (C xs) (C ys) n size in
          let kc = sym (drop-map cluster n mid.glyphs) ∙ ap (drop n) both ∙ drop_at (C xs) (C ys) n size in
          let meet : MeetAtBorder G K = met G K (subst (λ zs. MeetAtBorder zs (order_view K)) (sym gv)
          (subst (MeetAtBorder (P F)) (sym kv) border)) in
          let xf : clusters xs ≡ clusters gs = sym (clusters-same F xs one)
          ∙ clusters-setup ss BROKEN_CLUSTER (record old { glyphs = gs }) in
          let yh : clusters ys ≡ clusters hs = sym (clusters-same (unsafe_spans ts hs) ys two)
          ∙ clusters-setup ts BROKEN_CLUSTER (record old { glyphs = hs }) in
          let ga : All (Contains (clusters gs)) (clusters G) =
          subst (λ cs. All (Contains cs) (clusters G)) xf (no_new_cluster circles xs G
          (subst (All (Contains (clusters (circled circles xs)))) (sym gc) one_facts.among)) in
          let ka : All (Contains (clusters hs)) (clusters K) =
          subst (λ cs. All (Contains cs) (clusters K)) yh (no_new_cluster circles ys K
          (subst (All (Contains (clusters (circled circles ys)))) (sym kc)
          (paused_facts circles meaning steps laws level ys).among)) in
          let are : clusters new.glyphs ≡ final_clusters r script level mid.glyphs =
          f.clusters_are ∙ ap (λ s. final_clusters r s mid.level mid.glyphs) kept
          ∙ ap (λ l. final_clusters r script l mid.glyphs) (search arith) in
          let law = halves r script level mid.glyphs new.glyphs G K ordered are
          (sym (take-append-drop n mid.glyphs)) meet in
          let S : Glyphs → List ℕ → List ℕ = λ zs cs. joined_steps level (text_steps (final_steps r script) zs) cs in
          let gf : final_clusters r script level G ≡ final_clusters_after r script level circles meaning steps xs =
          ap (λ zs. S zs (clusters G)) gv ∙ ap (S (P F)) gc
          ∙ ap (λ sts. joined_steps level sts (C xs)) (same_steps r script (P F) (P xs) front) in
          let kf : final_clusters r script level K ≡ final_clusters_after r script level circles meaning steps ys =
          ap (λ zs. S zs (clusters K)) kv ∙ ap (S (P B)) kc
          ∙ ap (λ sts. joined_steps level sts (C ys)) (same_steps r script (P B) (P ys) back) in
          law.in_clusters (apart_among gs hs G K ga ka none) ∙ ap (λ cs. cs ++ final_clusters r script level K) gf
          ∙ ap (λ cs. final_clusters_after r script level circles meaning steps xs ++ cs) kf;
    }
