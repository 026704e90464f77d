-- What a reordering keeps of syllables that share no cluster.
use Rattle.std.proofs.Common.{ℕ, ◌%◌, ◌<◌, ◌≡◌, List, [], ◌∷◌, ◌++◌, length, map, take, drop, get_or, sym, ap, ◌∙◌, subst, arith, ◌⊎◌}
use Rattle.std.specs.Prelude.{Option}
use Rattle.std.specs.List.{All, AllByRecursion, Contains, flat_map}
use Rattle.std.proofs.lemmas.List.{drop_at, get_or-map, get_or_default, length-map, map-append, take_at}
use Rattle.std.proofs.lemmas.List.Elements.{All-contains_itself, All-from_get_or, All-get_or}
use Rattle.std.proofs.lemmas.List.Folds.{flat_map-map}
use Rattle.shapers_buffer.specs.Glyphs.{Glyph, Glyphs}
use Rattle.shapers_buffer.specs.declared.buffer.level.BufferClusterLevel.{BufferClusterLevel}
use Rattle.shapers_buffer.specs.Buffer.{Buffer}
use Rattle.shapers_buffer.specs.Clusters.{least}
use Rattle.shapers_buffer.specs.Glyph.{clusters, default_glyph, order_view, plain}
use Rattle.shapers_buffer.specs.Syllables.{syllables}
use Rattle.shapers_clusters.specs.Cuts.{ShareNone}
use Rattle.shapers_clusters.specs.Steps.{FitSteps, Step, joined_steps, after_steps}
use Rattle.shapers_clusters.proofs.Moves.{all-joined_steps, clusters-after_steps}
use Rattle.shapers_clusters.proofs.Proved.{steps_hold}
use Rattle.shapers_syllabic.specs.CircleLaws.{NoNewCluster}
use Rattle.shapers_syllabic.specs.Circles.{circled}
use Rattle.shapers_syllabic.specs.Reordering.{carried, text_steps}
use Rattle.shapers_syllabic.specs.ReorderingLaws.{ReadsNoSerials, ReorderLaws, paused_carried}
use Rattle.shapers_syllabic.specs.declared.ot_shaper_syllabic.circles.DottedCircles.{DottedCircles}
use Rattle.shapers_syllabic.proofs.CircleLaws.{joined-syllables, no_new_cluster}
use Rattle.shapers_syllabic.proofs.HiddenCuts.{clusters-carried}
use Rattle.rustybuzz_shapers.specs.Pauses.{Reordered, Reordering}
use Rattle.shapers_break_laws.specs.FinalBreaks.{IsOfTwoClusters}
use Rattle.shapers_break_laws.specs.IndicChain.{ReorderedApart}
use Rattle.shapers_break_laws.specs.KeptTextBreaks.{FlaggedInside, FlagsKept, SyllablesApart}
use Rattle.shapers_break_laws.specs.Setup.{IsFlagged}
use Rattle.shapers_break_laws.proofs.ApartPieces.{text_apart}
use Rattle.shapers_break_laws.proofs.CircledBorders.{opened_piece, opened_whole, syllables-circled}
use Rattle.shapers_break_laws.proofs.Guarded.{IsWhole}
use Rattle.shapers_break_laws.proofs.KeptBorders.{apart_mapped, piece_opened}
use Rattle.shapers_break_laws.proofs.KeptTextBreaks.{all_whole, apart_pieces, broken_there}
use Rattle.shapers_break_laws.proofs.PauseBreaks.{each_at, each_from}
use Rattle.shapers_break_laws.proofs.TwoClusters.{run_flagged, run_two}
use Rattle.shapers_break_laws.proofs.SideBySide.{border_before, lens, lens_after, lens_kept, long_carried, pause_fits, pieces_by_lens, reordering_side_by_side, text_is}

-- what is carried along shows flags
flagged_carried : (xs ys : Glyphs) → map carried xs ≡ map carried ys → FlaggedInside ys → FlaggedInside xs
flagged_carried xs ys same h =
    let d = default_glyph in
    let a = length-map xs carried in
    let b = length-map ys carried in
    let cs : clusters xs ≡ clusters ys = sym (clusters-carried xs) ∙ ap clusters same ∙ clusters-carried ys in
    All-from_get_or (λ (g : Glyph). least (clusters xs) < g.cluster → IsFlagged g) xs d (λ i l above.
    let il : i < length ys = omega (arith, a, b, ap length same, l) in
    let is : carried (get_or xs i d) ≡ carried (get_or ys i d) = sym (get_or-map carried xs i d d l)
    ∙ ap (λ gs. get_or gs i d) same ∙ get_or-map carried ys i d d il in
    let flags = All-get_or (λ (g : Glyph). least (clusters ys) < g.cluster → IsFlagged g) ys i d il h
    (omega (arith, ap least cs, ap (λ (g : Glyph). g.cluster) is, above)) in
    let marks : (get_or xs i d).mask % 8 ≡ (get_or ys i d).mask % 8 = ap (λ (g : Glyph). g.mask) is in
    (omega (arith, marks, flags.0), omega (arith, marks, flags.1)))

two_carried : (xs ys : Glyphs) → map carried xs ≡ map carried ys → IsOfTwoClusters ys → IsOfTwoClusters xs
two_carried xs ys same two =
    let d = default_glyph in
    let P : Glyph → Type 0 = λ g. (g.cluster ≡ two.0) ⊎ (g.cluster ≡ two.1) in
    let a = length-map xs carried in
    let b = length-map ys carried in (
      two.0,
      two.1,
      All-from_get_or P xs d (λ i l.
          let il : i < length ys = omega (arith, a, b, ap length same, l) in
          let is : carried (get_or ys i d) ≡ carried (get_or xs i d) = sym (get_or-map carried ys i d d il)
          ∙ ap (λ gs. get_or gs i d) (sym same) ∙ get_or-map carried xs i d d l in
          subst (λ (k : ℕ). (k ≡ two.0) ⊎ (k ≡ two.1)) (ap (λ (g : Glyph). g.cluster) is)
          (All-get_or P ys i d il two.2)),
    )

all_carried : (P : Glyphs → Type 0) → ((xs ys : Glyphs) → map carried xs ≡ map carried ys → P ys → P xs)
    → (ps qs : List Glyphs) → map (map carried) ps ≡ map (map carried) qs → AllByRecursion P qs → AllByRecursion P ps
all_carried P through [] qs same h = tt
all_carried P through (p ∷ ps) [] same h = absurd (omega (arith, ap length same))
all_carried P through (p ∷ ps) (q ∷ qs) same h = (
  through p q (ap (λ l. get_or l 0 []) same) h.0,
  all_carried P through ps qs (ap (drop 1) same) h.1,
)

-- circles come into clusters of their syllable
two_opened : (circles : Option DottedCircles) (q : Glyphs) → IsOfTwoClusters q → IsOfTwoClusters
    (opened_piece circles q)
two_opened circles q two =
    let Two : ℕ → Type 0 = λ k. (k ≡ two.0) ⊎ (k ≡ two.1) in
    let cluster : Glyph → ℕ = λ g. g.cluster in
    let opened = opened_piece circles q in
    let each = piece_opened Two circles q (each_from Two q (λ i l. subst Two
    (sym (get_or-map cluster q i default_glyph 0 l)) (All-get_or (λ g. Two g.cluster) q i default_glyph l two.2))) in (
      two.0,
      two.1,
      All-from_get_or (λ (g : Glyph). Two g.cluster) opened default_glyph (λ i l. subst Two
          (get_or-map cluster opened i default_glyph 0 l) (each_at Two opened each i l)),
    )

each_two : (circles : Option DottedCircles) (pieces : List Glyphs) → AllByRecursion IsOfTwoClusters pieces
    → AllByRecursion IsOfTwoClusters (map (opened_piece circles) pieces)
each_two circles [] h = tt
each_two circles (q ∷ qs) h = (two_opened circles q h.0, each_two circles qs h.1)

-- what syllables become, each by its own steps
abbrev runs : (Glyphs → List Step) → BufferClusterLevel → List Glyphs → List Glyphs
runs steps level pieces = map (λ q. after_steps level (steps (order_view q)) q) pieces

all_run : (steps : Glyphs → List Step) → ((gs : Glyphs) → FitSteps (length gs) (steps gs))
    → (level : BufferClusterLevel) (P Q : Glyphs → Type 0) → ((moves : List Step) (q : Glyphs) → FitSteps (length q) moves
    → P q → Q (after_steps level moves q)) → (pieces : List Glyphs) → AllByRecursion P pieces
    → AllByRecursion Q (runs steps level pieces)
all_run steps fits level P Q each [] h = tt
all_run steps fits level P Q each (q ∷ qs) h = (
  each (steps (order_view q)) q
      (subst (λ n. FitSteps n (steps (order_view q))) (length-map q plain) (fits (order_view q))) h.0,
  all_run steps fits level P Q each qs h.1,
)

both : (P Q : Glyphs → Type 0) (pieces : List Glyphs) → AllByRecursion P pieces → AllByRecursion Q pieces
    → AllByRecursion (λ q. P q × Q q) pieces
both P Q [] a b = tt
both P Q (q ∷ qs) a b = ((a.0, b.0), both P Q qs a.1 b.1)

-- the syllables of a text reordered, as far as what is carried along shows
syllables_run : (r : Reordering) → ReorderLaws r.order r.steps → (old new : Buffer) → Reordered r old new
    → SyllablesApart old.glyphs → map (map carried) (syllables new.glyphs)
    ≡ map (map carried) (runs r.steps old.level (syllables (circled r.circles old.glyphs)))
syllables_run r laws old new done apart =
    let id : Glyphs → Glyphs = λ q. q in
    let level = old.level in
    let pieces = syllables old.glyphs in
    let xs = circled r.circles old.glyphs in
    let run : Glyphs → Glyphs = λ q. after_steps level (r.steps (order_view q)) q in
    let run_long : (q : Glyphs) → length (run q) ≡ length q = λ q.
    (steps_hold level (r.steps (order_view q)) q (subst (λ n. FitSteps n (r.steps (order_view q))) (length-map q plain)
    (laws.fits (order_view q)))).same_length in
    let long : lens (syllables new.glyphs) ≡ lens (map run (syllables xs)) = lens_after r.order r.steps laws r.circles
    old new done ∙ sym (lens_kept run run_long (syllables xs)) in
    let text : map carried new.glyphs ≡ map carried (flat_map id (map run (syllables xs))) = done.moved
    ∙ ap (map carried) (text_apart r.steps laws.fits level xs (subst (λ ps. (k : ℕ) → ShareNone
    (flat_map id (take k ps)) (flat_map id (drop k ps))) (sym (syllables-circled r.circles old.glyphs))
    (apart_mapped r.circles pieces (apart_pieces old.glyphs apart)))
    ∙ sym (flat_map-map id run (syllables xs))) in
    pieces_by_lens carried (syllables new.glyphs) (map run (syllables xs)) long
    (ap (map carried) (joined-syllables new.glyphs) ∙ text)

two_with_circles : (circles : Option DottedCircles) (gs : Glyphs) → AllByRecursion IsOfTwoClusters (syllables gs)
    → AllByRecursion IsOfTwoClusters (syllables (circled circles gs))
two_with_circles circles gs two = subst (AllByRecursion IsOfTwoClusters) (sym (syllables-circled circles gs))
    (each_two circles (syllables gs) two)

two_left : (r : Reordering) → ReorderLaws r.order r.steps → (old new : Buffer) → Reordered r old new
    → SyllablesApart old.glyphs → AllByRecursion IsOfTwoClusters (syllables old.glyphs)
    → AllByRecursion IsOfTwoClusters (syllables new.glyphs)
two_left r laws old new done apart two =
    let xs = circled r.circles old.glyphs in
    all_carried IsOfTwoClusters two_carried (syllables new.glyphs) (runs r.steps old.level (syllables xs))
    (syllables_run r laws old new done apart)
    (all_run r.steps laws.fits old.level IsOfTwoClusters IsOfTwoClusters (run_two old.level) (syllables xs)
    (two_with_circles r.circles old.glyphs two))

flags_left : (r : Reordering) → ReorderLaws r.order r.steps → (old new : Buffer) → Reordered r old new
    → SyllablesApart old.glyphs → AllByRecursion IsOfTwoClusters (syllables old.glyphs) → FlagsKept old.glyphs
    → FlagsKept new.glyphs
flags_left r laws old new done apart two kept =
    let pieces = syllables old.glyphs in
    let xs = circled r.circles old.glyphs in
    let whole : AllByRecursion IsWhole (syllables xs) = subst (AllByRecursion IsWhole)
    (sym (syllables-circled r.circles old.glyphs)) (opened_whole r.circles pieces (all_whole pieces kept)) in
    all_carried FlaggedInside flagged_carried (syllables new.glyphs) (runs r.steps old.level (syllables xs))
    (syllables_run r laws old new done apart)
    (all_run r.steps laws.fits old.level (λ q. IsWhole q × IsOfTwoClusters q) FlaggedInside
    (λ moves q fits good. run_flagged old.level moves q fits good.0 good.1) (syllables xs)
    (both IsWhole IsOfTwoClusters (syllables xs) whole (two_with_circles r.circles old.glyphs two)))

-- no half has a new cluster after its reordering
none_new : (r : Reordering) → ReorderLaws r.order r.steps → (level : BufferClusterLevel) (half xs : Glyphs)
    → map carried xs ≡ paused_carried r.circles r.steps level half → NoNewCluster half xs
none_new r laws level half xs same =
    let zs = circled r.circles half in
    let sts = text_steps r.steps (order_view zs) in
    let cs = clusters zs in
    let is : clusters xs ≡ joined_steps level sts cs = sym (clusters-carried xs) ∙ ap clusters same
    ∙ clusters-carried (after_steps level sts zs) ∙ clusters-after_steps level sts zs in
    no_new_cluster r.circles half xs (subst (All (Contains cs)) (sym is)
    (all-joined_steps (Contains cs) level (length zs) sts cs (length-map zs (λ (g : Glyph). g.cluster))
    (pause_fits r.order r.steps laws r.circles half) (All-contains_itself cs)).1)

among : (gs xs : Glyphs) → NoNewCluster gs xs → (i : ℕ) → i < length xs
    → (k : ℕ) × (k < length gs) × (get_or (clusters gs) k 0 ≡ get_or (clusters xs) i 0)
among gs xs none i h =
    let cluster : Glyph → ℕ = λ g. g.cluster in
    let n = length-map xs cluster in
    let m = length-map gs cluster in
    let found = All-get_or (Contains (clusters gs)) (clusters xs) i 0 (omega (arith, n, h)) none in (
      found.0,
      omega (arith, m, found.1),
      get_or_default (clusters gs) found.0 0 (get_or (clusters xs) i 0) found.1 ∙ found.2,
    )

apart_left : (r : Reordering) → ReorderLaws r.order r.steps → (old new : Buffer) → Reordered r old new
    → SyllablesApart old.glyphs → SyllablesApart new.glyphs
apart_left r laws old new done apart front back text border i j il jl same =
    let level = old.level in
    let C = paused_carried r.circles r.steps level in
    let at = border_before r.order r.steps laws r.circles old new done front back text border in
    let b = broken_there r.order r.steps laws r.circles old new done (length front) at
    (apart_pieces old.glyphs apart at.count) in
    let n = length front in
    let cs : map carried front ++ map carried back ≡ C b.before ++ C b.behind =
    sym (map-append carried front back) ∙ ap (map carried) (sym text) ∙ b.halves.moved b.apart in
    let cn = length-map front carried in
    let long : length (C b.before) ≡ n = long_carried r.order r.steps laws r.circles level b.before ∙ b.place in
    let fc : map carried front ≡ C b.before = sym (take_at (map carried front) (map carried back) n cn)
    ∙ ap (take n) cs ∙ take_at (C b.before) (C b.behind) n long in
    let bc : map carried back ≡ C b.behind = sym (drop_at (map carried front) (map carried back) n cn)
    ∙ ap (drop n) cs ∙ drop_at (C b.before) (C b.behind) n long in
    let k = among b.before front (none_new r laws level b.before front fc) i il in
    let m = among b.behind back (none_new r laws level b.behind back bc) j jl in
    b.apart k.0 m.0 k.1 m.1 (k.2 ∙ same ∙ sym m.2)

pub reordered_apart : (r : Reordering) → ReorderLaws r.order r.steps → ReadsNoSerials r.order r.steps
    → (old new : Buffer) → Reordered r old new → SyllablesApart old.glyphs → ReorderedApart r old new
reordered_apart r laws reads old new done apart = record {
  made = record {
    level = ap (λ (b : Buffer). b.level) done.others;
    glyphs = text_is r old new done;
    side_by_side = reordering_side_by_side r laws reads old new done apart;
  };
  apart = apart_left r laws old new done apart;
  two = two_left r laws old new done apart;
  flags = flags_left r laws old new done apart;
}
