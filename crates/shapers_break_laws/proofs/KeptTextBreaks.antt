-- A text that kept its flags may be broken at every clear place of what a pause makes of it.
use Rattle.std.proofs.Common.{ℕ, ◌-◌, ◌<◌, ◌≤◌, ◌≡◌, ◌≢◌, true, List, [], ◌∷◌, ◌++◌, length, take, drop, get_or, sym, ap, ◌∙◌, subst, arith, inl, inr, length-append}
use Rattle.std.specs.Prelude.{Option}
use Rattle.std.specs.List.{AllByRecursion, flat_map}
use Rattle.std.proofs.lemmas.Bool.{cases_lt}
use Rattle.std.proofs.lemmas.List.{get_or-map, length-map, map-append, take-append-drop}
use Rattle.std.proofs.lemmas.List.Concat.{flat_map-append}
use Rattle.std.proofs.lemmas.List.Elements.{All-from_get_or, All-get_or}
use Rattle.shapers_buffer.specs.Glyphs.{Glyph, Glyphs}
use Rattle.shapers_buffer.specs.declared.buffer.level.BufferClusterLevel.{BufferClusterLevel}
use Rattle.shapers_buffer.specs.Buffer.{Buffer}
use Rattle.shapers_buffer.specs.Clusters.{least, merges}
use Rattle.shapers_buffer.specs.Glyph.{clusters, default_glyph, order_view, plain}
use Rattle.shapers_buffer.specs.Syllables.{syllables}
use Rattle.shapers_clusters.specs.Breaks.{IsClear}
use Rattle.shapers_clusters.specs.Cuts.{IsMonotone, ShareNone}
use Rattle.shapers_clusters.specs.Steps.{MovesMerged, Permutes, Step}
use Rattle.shapers_clusters.proofs.ClusterMerges.{least-among, least-le}
use Rattle.shapers_syllabic.specs.Circles.{circled}
use Rattle.shapers_syllabic.specs.Reordering.{PauseReordered}
use Rattle.shapers_syllabic.specs.ReorderingLaws.{MoveMerged, ReorderLaws}
use Rattle.shapers_syllabic.specs.declared.ot_shaper_syllabic.circles.DottedCircles.{DottedCircles}
use Rattle.shapers_syllabic.proofs.ReorderingCuts.{cuts_at_borders}
use Rattle.shapers_break_laws.specs.Setup.{IsFlagged}
use Rattle.shapers_break_laws.specs.KeptTextBreaks.{FlaggedInside, FlagsKept, SyllablesApart, KeptTextBreaksApartLaw, KeptTextBreaksLaw, KeptTextBroken}
use Rattle.shapers_break_laws.proofs.ApartPieces.{ApartAtBorders}
use Rattle.shapers_break_laws.proofs.CircledBorders.{OpenedBorder, apart_at, circled_is, length-paused, opened_piece, reordered_border}
use Rattle.shapers_break_laws.proofs.ErasedCircles.{IsClearInside, erased_clear}
use Rattle.shapers_break_laws.proofs.Guarded.{IsWhole, LeastOrFlagged}
use Rattle.shapers_break_laws.proofs.Keepers.{own_keepers}
use Rattle.shapers_break_laws.proofs.KeptBorders.{KeepFlags, kept_border, syllable_cut}
use Rattle.shapers_break_laws.proofs.KeptInside.{keepers_inside}
use Rattle.shapers_break_laws.proofs.PauseBreaks.{apart_erased, length-moved}

-- syllables that kept their flags are whole
above : (m c : ℕ) → m ≤ c → c ≢ m → m < c
above m c h ne = elim (cases_lt m c) [ inl a ↦ a | inr a ↦ absurd (ne (omega arith)) ]

pub whole_syllable : (gs : Glyphs) → FlaggedInside gs → IsWhole gs
whole_syllable gs h =
    let m = least (clusters gs) in
    let P : Glyph → Type 0 = λ g. m < g.cluster → IsFlagged g in
    let n = length-map gs (λ (g : Glyph). g.cluster) in (
      m,
      All-from_get_or (LeastOrFlagged m) gs default_glyph (λ i l.
          let low = least-le (clusters gs) i (omega arith) in
          let is = get_or-map (λ (g : Glyph). g.cluster) gs i default_glyph 0 l in
          let own : m ≤ (get_or gs i default_glyph).cluster = omega arith in
          (own, λ ne. All-get_or P gs i default_glyph l h (above m (get_or gs i default_glyph).cluster own ne))),
    )

pub all_whole : (pieces : List Glyphs) → AllByRecursion FlaggedInside pieces → AllByRecursion IsWhole pieces
all_whole [] h = tt
all_whole (q ∷ qs) h = (whole_syllable q h.0, all_whole qs h.1)

-- and whole syllables have their flags
flagged_inside : (gs : Glyphs) → IsWhole gs → FlaggedInside gs
flagged_inside gs whole =
    let m = whole.0 in
    let low = least (clusters gs) in
    let cluster : Glyph → ℕ = λ g. g.cluster in
    let n = length-map gs cluster in
    All-from_get_or (λ (g : Glyph). low < g.cluster → IsFlagged g) gs default_glyph (λ i l above.
    let at = least-among (clusters gs) (omega (arith, n, l)) in
    let is = get_or-map cluster gs at.0 default_glyph 0 (omega (arith, n, at.1)) in
    let first = All-get_or (LeastOrFlagged m) gs at.0 default_glyph (omega (arith, n, at.1)) whole.1 in
    (All-get_or (LeastOrFlagged m) gs i default_glyph l whole.1).1
    (λ e. absurd (omega (arith, e, above, at.2, is, first.0))))

pub all_flagged : (pieces : List Glyphs) → AllByRecursion IsWhole pieces → AllByRecursion FlaggedInside pieces
all_flagged [] h = tt
all_flagged (q ∷ qs) h = (flagged_inside q h.0, all_flagged qs h.1)

-- halves of syllables that are apart
pub apart_pieces : (gs : Glyphs) → SyllablesApart gs → ApartAtBorders (syllables gs)
apart_pieces gs apart k =
    let cut = syllable_cut gs k in
    apart (flat_map (λ q. q) (take k (syllables gs))) (flat_map (λ q. q) (drop k (syllables gs))) cut.text cut.border

-- a border of syllables at which the halves share no cluster: the text is broken there
pub broken_there : (meaning : Glyphs → Glyphs) (steps : Glyphs → List Step) → ReorderLaws meaning steps →
    (circles : Option DottedCircles) (old new : Buffer) → PauseReordered circles meaning steps old new → (p : ℕ) →
    (border : OpenedBorder circles old.glyphs p) → (let pieces = syllables old.glyphs
    in ShareNone (flat_map (λ q. q) (take border.count pieces)) (flat_map (λ q. q) (drop border.count pieces)))
    → KeptTextBroken circles meaning steps old.level old.glyphs new.glyphs p
broken_there meaning steps laws circles old new done p border apart =
    let gs = old.glyphs in
    let k = border.count in
    let cut = syllable_cut gs k in
    let before = flat_map (λ q. q) (take k (syllables gs)) in
    let behind = flat_map (λ q. q) (drop k (syllables gs)) in
    record {
      before = before;
      behind = behind;
      text = cut.text;
      border = cut.border;
      apart = apart;
      place = length-paused meaning steps laws circles before ∙ ap length (circled_is circles before
          ∙ ap (flat_map (opened_piece circles)) cut.first) ∙ border.place;
      halves = cuts_at_borders circles meaning steps old new laws done before behind cut.text cut.border;
    }

-- halves that differ where they meet, of clusters that rise or fall with their circles
apart_where_clear : (circles : Option DottedCircles) (gs : Glyphs) (p : ℕ) (border : OpenedBorder circles gs p)
    → IsMonotone (clusters (circled circles gs)) → p < length (circled circles gs) → 0 < p → get_or
    (clusters (circled circles gs)) (p - 1) 0 ≢ get_or (clusters (circled circles gs)) p 0 →
    ShareNone (flat_map (λ q. q) (take border.count (syllables gs)))
    (flat_map (λ q. q) (drop border.count (syllables gs)))
apart_where_clear circles gs p border mono l z ne =
    let cluster : Glyph → ℕ = λ g. g.cluster in
    let pieces = syllables gs in
    let k = border.count in
    let F = opened_piece circles in
    let fr = flat_map F (take k pieces) in
    let bh = flat_map F (drop k pieces) in
    let whole : circled circles gs ≡ fr ++ bh = circled_is circles gs ∙ ap (flat_map F)
    (sym (take-append-drop k pieces)) ∙ flat_map-append F (take k pieces) (drop k pieces) in
    let all : clusters (circled circles gs) ≡ clusters fr ++ clusters bh = ap clusters whole
    ∙ map-append cluster fr bh in
    let fn : length (clusters fr) ≡ p = length-map fr cluster ∙ border.place in
    let bn : length (clusters bh) ≡ length bh = length-map bh cluster in
    let sizes = length-append fr bh in
    let place = border.place in
    let some : 0 < length (clusters bh) = omega (arith, bn, sizes, ap length whole, l, place) in
    let differ : get_or (clusters fr ++ clusters bh) (length (clusters fr) - 1) 0 ≢ get_or (clusters fr ++ clusters bh)
    (length (clusters fr)) 0 =
    subst (λ (cs : List ℕ). get_or cs (length (clusters fr) - 1) 0 ≢ get_or cs (length (clusters fr)) 0) all
    (subst (λ (j : ℕ). get_or (clusters (circled circles gs)) (j - 1) 0 ≢ get_or (clusters (circled circles gs)) j 0)
    (sym fn) ne) in
    apart_erased circles (take k pieces) (drop k pieces) (λ i j il jl. apart_at (clusters fr) (clusters bh)
    (subst IsMonotone all mono) (omega arith) some differ i j (omega (arith, il, fn, place)) (omega (arith, jl, bn)))

-- where it is broken it was clear
pub record KeptTextClear (circles : Option DottedCircles) (meaning : Glyphs → Glyphs) (steps : Glyphs
    → List Step) (level : BufferClusterLevel) (old new : Glyphs) (p : ℕ) : Type 0 where
  pub broken : KeptTextBroken circles meaning steps level old new p
  pub was : IsClearInside old (length broken.before)

pub text_breaks_clear : (meaning : Glyphs → Glyphs) (steps : Glyphs → List Step) → ReorderLaws meaning steps
    → MoveMerged steps → (circles : Option DottedCircles) (old new : Buffer) → merges old.level ≡ true
    → FlagsKept old.glyphs → IsMonotone (clusters (circled circles old.glyphs))
    → PauseReordered circles meaning steps old new → (p : ℕ) → 0 < p → p < length new.glyphs → IsClear new.glyphs p
    → KeptTextClear circles meaning steps old.level old.glyphs new.glyphs p
unfolding broken_there
text_breaks_clear meaning steps laws inside circles old new m kept mono done p z l clear =
    let gs = old.glyphs in
    let opened_text : Buffer = record old { glyphs = circled circles gs } in
    let long = length-moved meaning steps opened_text new laws done in
    let (was, border) = reordered_border meaning steps laws inside circles old.level m gs new.glyphs
    (all_whole (syllables gs) kept) mono done.moved p z l clear long in
    record {
      broken = broken_there meaning steps laws circles old new done p border
          (apart_where_clear circles gs p border mono (omega arith) z was.differ);
      was = erased_clear circles gs p border mono z (omega arith) was;
    }

pub text_breaks : KeptTextBreaksLaw
text_breaks meaning steps laws inside circles old new m kept mono done p z l clear =
    (text_breaks_clear meaning steps laws inside circles old new m kept mono done p z l clear).broken

-- where syllables share no cluster, whatever the clusters are
any_piece : (pieces : List Glyphs) → AllByRecursion (λ q. Unit {0}) pieces
any_piece [] = tt
any_piece (q ∷ qs) = (tt, any_piece qs)

moves_keep : (meaning : Glyphs → Glyphs) (steps : Glyphs → List Step) → ReorderLaws meaning steps → MoveMerged steps →
    (level : BufferClusterLevel) → merges level ≡ true → KeepFlags (λ q. Unit {0}) level steps
moves_keep meaning steps laws inside level m least piece good all =
    let xs = order_view piece in
    let same : length xs ≡ length piece = length-map piece plain in
    keepers_inside (LeastOrFlagged least) level m (steps xs) piece
    (subst (λ k. AllByRecursion (MovesMerged k) (steps xs)) same (inside xs))
    (subst (λ k. AllByRecursion (Permutes k) (steps xs)) same (laws.permutes xs))
    (own_keepers (LeastOrFlagged least) piece all)

pub text_breaks_apart : KeptTextBreaksApartLaw
text_breaks_apart meaning steps laws inside circles old new m kept apart done p z l clear =
    let gs = old.glyphs in
    let pieces = apart_pieces gs apart in
    let border = kept_border (λ q. Unit {0}) old.level steps laws.fits
    (moves_keep meaning steps laws inside old.level m) circles gs new.glyphs (all_whole (syllables gs) kept) pieces
    (any_piece (syllables (circled circles gs))) done.moved p z l clear in
    broken_there meaning steps laws circles old new done p border (pieces border.count)
