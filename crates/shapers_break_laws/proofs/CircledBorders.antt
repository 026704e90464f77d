-- A clear place of a text that was reordered, with its circles, is a border of its syllables.
use Rattle.std.proofs.Common.{ℕ, zero, suc, if◌then◌else◌, ◌+◌, ◌-◌, ◌<◌, ◌≤◌, ◌≡◌, ◌≢◌, true, false, List, [], ◌∷◌, ◌++◌, length, map, take, drop, get_or, refl, sym, ap, ◌∙◌, subst, arith, inl, inr, length-append}
use Rattle.std.specs.Prelude.{Bool, Option, None, Some}
use Rattle.std.specs.List.{AllByRecursion, flat_map, sum_by}
use Rattle.std.proofs.lemmas.List.{get_or-append_right, get_or_append_left, length-map, take-map}
use Rattle.std.proofs.lemmas.List.Folds.{flat_map-map}
use Rattle.std.proofs.lemmas.List.Sorted.{length_permutation}
use Rattle.shapers_buffer.specs.Glyphs.{Glyph, Glyphs}
use Rattle.shapers_buffer.specs.declared.buffer.level.BufferClusterLevel.{BufferClusterLevel}
use Rattle.shapers_buffer.specs.Clusters.{merges}
use Rattle.shapers_buffer.specs.Glyph.{clusters, order_view, plain}
use Rattle.shapers_buffer.specs.Syllables.{syllables}
use Rattle.shapers_clusters.specs.Breaks.{IsClear}
use Rattle.shapers_clusters.specs.Cuts.{IsMonotone}
use Rattle.shapers_clusters.specs.Steps.{FitsStep, MovesMerged, Permutes, Step, after_steps}
use Rattle.shapers_clusters.proofs.Cuts.{falling_to, rising_to}
use Rattle.shapers_clusters.proofs.Proved.{along_holds}
use Rattle.shapers_syllabic.specs.Circles.{circle_in, circled, circled_syllable, is_of_kind, rephas_len, with_circle}
use Rattle.shapers_syllabic.specs.Reordering.{carried, text_order, text_steps}
use Rattle.shapers_syllabic.specs.ReorderingLaws.{MoveMerged, ReorderLaws, paused_order}
use Rattle.shapers_syllabic.specs.declared.ot_shaper_syllabic.circles.DottedCircles.{DottedCircles}
use Rattle.shapers_syllabic.proofs.Borders.{syllables-mapped}
use Rattle.shapers_syllabic.proofs.CircleLaws.{joined-syllables}
use Rattle.shapers_syllabic.proofs.ReorderingCuts.{circled_syllable_byte}
use Rattle.shapers_syllabic.proofs.ReorderingLaws.{each_piece, nothing_lost, sum-syllables, text_steps-long}
use Rattle.shapers_syllabic.proofs.ReorderingLemmas.{carried_hides}
use Rattle.shapers_syllabic.proofs.ReorderingWalk.{pieces_of}
use Rattle.shapers_break_laws.specs.Setup.{FlaggedAt}
use Rattle.shapers_break_laws.proofs.ClearSteps.{clear_before}
use Rattle.shapers_break_laws.proofs.Guarded.{IsWhole, border_or_flagged, circled_whole, clear_not_flagged}
use Rattle.shapers_clusters.proofs.Halves.{each-append}

-- what circles make of one syllable
abbrev pub opened_piece : Option DottedCircles → Glyphs → Glyphs
opened_piece None piece = piece
opened_piece (Some rule) piece = circled_syllable rule piece

map_same : (pieces : List Glyphs) → map (λ p. p) pieces ≡ pieces
map_same [] = refl
map_same (p ∷ ps) = ap (λ l. p ∷ l) (map_same ps)

pub circled_is : (circles : Option DottedCircles) (gs : Glyphs) → circled circles gs ≡ flat_map (opened_piece circles)
    (syllables gs)
circled_is None gs = sym (joined-syllables gs)
circled_is (Some rule) gs = refl

pub syllables-circled : (circles : Option DottedCircles) (gs : Glyphs) → syllables (circled circles gs) ≡ map
    (opened_piece circles) (syllables gs)
syllables-circled None gs = sym (map_same (syllables gs))
syllables-circled (Some rule) gs = syllables-mapped (circled_syllable rule) (circled_syllable_byte rule) gs

pub opened_whole : (circles : Option DottedCircles) (pieces : List Glyphs) → AllByRecursion IsWhole pieces
    → AllByRecursion IsWhole (map (opened_piece circles) pieces)
opened_whole circles [] h = tt
opened_whole None (p ∷ ps) h = (h.0, opened_whole None ps h.1)
opened_whole (Some rule) (p ∷ ps) h = (circled_whole rule p h.0, opened_whole (Some rule) ps h.1)

-- the first k syllables, with their circles, stand before place p
pub record OpenedBorder (circles : Option DottedCircles) (gs : Glyphs) (p : ℕ) : Type 0 where
  pub count : ℕ
  pub within : count ≤ length (syllables gs)
  pub place : length (flat_map (opened_piece circles) (take count (syllables gs))) ≡ p

-- a clear place of a text with its circles
pub opened_border : (circles : Option DottedCircles) (gs : Glyphs) → AllByRecursion IsWhole (syllables gs) → (p : ℕ)
    → 0 < p → p < length (circled circles gs) → IsClear (circled circles gs) p → OpenedBorder circles gs p
opened_border circles gs whole p z l clear =
    let xs = circled circles gs in
    let pieces = syllables gs in
    let F = opened_piece circles in
    let is = syllables-circled circles gs in
    let all = joined-syllables xs in
    let each : AllByRecursion IsWhole (syllables xs) = subst (AllByRecursion IsWhole) (sym is)
    (opened_whole circles pieces whole) in
    elim (border_or_flagged (syllables xs) each p z (omega (arith, ap length all))) [
      | inl border ↦
          let k = border.count in
          let within = border.within in
          record {
            count = k;
            within = omega (arith, ap length is, length-map pieces F, within);
            place = ap length (sym (flat_map-map (λ q. q) F (take k pieces)) ∙ ap (flat_map (λ q. q))
                (sym (take-map F k pieces) ∙ ap (take k) (sym is))) ∙ border.place;
          }
      | inr flagged ↦ absurd (clear_not_flagged xs p z l clear (subst (λ ys. FlaggedAt ys p) all flagged))
    ]

-- the steps of a text
pub text_moves : (meaning : Glyphs → Glyphs) (steps : Glyphs → List Step) → ReorderLaws meaning steps
    → MoveMerged steps → (level : BufferClusterLevel) (gs : Glyphs) → AllByRecursion (MovesMerged (length gs))
    (text_steps steps (order_view gs)) × AllByRecursion (Permutes (length gs)) (text_steps steps (order_view gs))
text_moves meaning steps laws inside level gs =
    let xs = order_view gs in
    let ps = pieces_of steps (syllables xs) in
    let sum : sum_by (λ piece. piece.0) ps ≤ length gs = omega (arith, sum-syllables steps xs, length-map gs plain) in
    let along = along_holds level ps gs sum (each_piece FitsStep steps laws.fits (syllables xs)) in
    let is = text_steps-long steps gs in (
      subst (AllByRecursion (MovesMerged (length gs))) (sym is)
          (along.merged (each_piece MovesMerged steps inside (syllables xs))),
      subst (AllByRecursion (Permutes (length gs))) (sym is)
          (along.permuted (each_piece Permutes steps laws.permutes (syllables xs))),
    )

-- so of a clear place of the text reordered
pub reordered_border : (meaning : Glyphs → Glyphs) (steps : Glyphs → List Step) → ReorderLaws meaning steps
    → MoveMerged steps → (circles : Option DottedCircles) (level : BufferClusterLevel) → merges level ≡ true →
    (gs new : Glyphs) → AllByRecursion IsWhole (syllables gs) → IsMonotone (clusters (circled circles gs))
    → map carried new ≡ map carried (after_steps level (text_steps steps (order_view (circled circles gs)))
    (circled circles gs)) →
    (p : ℕ) → 0 < p → p < length new → IsClear new p → length new ≡ length (circled circles gs) → IsClear
    (circled circles gs) p × OpenedBorder circles gs p
reordered_border meaning steps laws inside circles level m gs new whole mono moved p z l clear same =
    let xs = circled circles gs in
    let (moves, permutes) = text_moves meaning steps laws inside level xs in
    let before = clear_before carried carried_hides level
    (text_steps steps (order_view xs)) xs new m mono moves permutes moved p z l clear in
    (before, opened_border circles gs whole p z (omega arith) before)

-- a reordering keeps the length
pub length-paused : (meaning : Glyphs → Glyphs) (steps : Glyphs → List Step) → ReorderLaws meaning steps →
    (circles : Option DottedCircles) (gs : Glyphs) → length (paused_order circles meaning gs) ≡ length
    (circled circles gs)
length-paused meaning steps laws circles gs =
    let xs = order_view (circled circles gs) in
    let ys = text_order meaning xs in
    let f : Glyph → Glyph = λ g. plain (carried g) in
    let kept = nothing_lost meaning steps laws xs in
    sym (length-map ys f) ∙ length_permutation (map f xs) (map f ys) kept.kept ∙ length-map xs f ∙ length-map
    (circled circles gs) plain

-- clusters that rise or fall, and differ at a cut, are apart on both sides of it
pub apart_at : (cs ds : List ℕ) → IsMonotone (cs ++ ds) → 0 < length cs → 0 < length ds → get_or (cs ++ ds)
    (length cs - 1) 0 ≢ get_or (cs ++ ds) (length cs) 0 → (i j : ℕ) → i < length cs → j < length ds
    → get_or cs i 0 ≢ get_or ds j 0
apart_at cs ds mono a b ne i j il jl same =
    let all = cs ++ ds in
    let n = length cs in
    let long = length-append cs ds in
    let first : get_or all i 0 ≡ get_or cs i 0 = get_or_append_left cs ds 0 i il in
    let back : n + j - n ≡ j = omega arith in
    let second : get_or all (n + j) 0 ≡ get_or ds j 0 = get_or-append_right cs ds n (n + j) 0 refl (omega arith) ∙ ap
    (λ k. get_or ds k 0) back in
    elim mono [
      | inl up ↦
          let x = rising_to all up i (n - 1) (omega arith) (omega arith) in
          let y = rising_to all up (n - 1) n (omega arith) (omega arith) in
          let z = rising_to all up n (n + j) (omega arith) (omega arith) in
          ne (omega arith)
      | inr down ↦
          let x = falling_to all down i (n - 1) (omega arith) (omega arith) in
          let y = falling_to all down (n - 1) n (omega arith) (omega arith) in
          let z = falling_to all down n (n + j) (omega arith) (omega arith) in
          ne (omega arith)
    ]

-- what holds of the clusters of a text with its circles holds of the text's
abbrev pub Each : (ℕ → Type 0) → Glyphs → Type 0
Each P gs = AllByRecursion (λ g. P g.cluster) gs

erased : (P : ℕ → Type 0) (n : ℕ) (gs : Glyphs) (circle : Glyph) → Each P (take n gs ++ circle ∷ drop n gs)
    → Each P gs
erased P zero gs circle h = h.1
erased P (suc n) [] circle h = tt
erased P (suc n) (g ∷ gs) circle h = (h.0, erased P n gs circle h.1)

each_parts : (P : ℕ → Type 0) (gs hs : Glyphs) → Each P (gs ++ hs) → Each P gs × Each P hs
each_parts P [] hs h = (tt, h)
each_parts P (g ∷ gs) hs h = let (a, b) = each_parts P gs hs h.1 in ((h.0, a), b)

piece_erased : (P : ℕ → Type 0) (circles : Option DottedCircles) (piece : Glyphs) → Each P (opened_piece circles piece)
    → Each P piece
piece_erased P None piece h = h
piece_erased P (Some rule) piece h =
    let n = rephas_len rule.repha piece in
    let go : (b : Bool) → Each P (if b then with_circle rule piece else piece) → Each P piece = λ b. elim b as
    (λ b. Each P (if b then with_circle rule piece else piece) → Each P piece) [
      | true ↦ λ k. erased P n piece (circle_in piece rule.circle) k
      | false ↦ λ k. k
    ] in
    go (is_of_kind rule.broken_kind piece) h

pub pieces_erased : (P : ℕ → Type 0) (circles : Option DottedCircles) (pieces : List Glyphs) → Each P
    (flat_map (opened_piece circles) pieces) → Each P (flat_map (λ piece. piece) pieces)
pieces_erased P circles [] h = tt
pieces_erased P circles (p ∷ ps) h =
    let (a, b) = each_parts P (opened_piece circles p) (flat_map (opened_piece circles) ps) h in
    each-append P p (flat_map (λ piece. piece) ps) (piece_erased P circles p a) (pieces_erased P circles ps b)
