-- A clear place of a text that was reordered, whose syllables share no cluster, is a border of its syllables.
use Rattle.std.proofs.Common.{ℕ, zero, suc, if◌then◌else◌, ◌<◌, ◌≡◌, ◌≢◌, true, false, List, [], ◌∷◌, ◌++◌, length, map, take, drop, slice_index, refl, sym, ap, ◌∙◌, subst, arith, length-append}
use Rattle.std.specs.Prelude.{Option, None, Some}
use Rattle.std.specs.List.{AllByRecursion, flat_map}
use Rattle.std.proofs.lemmas.List.{drop-map, length-map, take-append-drop, take-map}
use Rattle.std.proofs.lemmas.List.Concat.{flat_map-append}
use Rattle.std.proofs.lemmas.List.Folds.{flat_map-map}
use Rattle.shapers_buffer.specs.declared.buffer.level.BufferClusterLevel.{BufferClusterLevel}
use Rattle.shapers_buffer.specs.Glyph.{clusters, order_view, plain}
use Rattle.shapers_buffer.specs.Syllables.{syllables}
use Rattle.shapers_clusters.specs.Breaks.{IsClear}
use Rattle.shapers_clusters.specs.Cuts.{ShareNone}
use Rattle.shapers_clusters.specs.Steps.{FitSteps, Step, after_steps}
use Rattle.shapers_clusters.proofs.Proved.{steps_hold}
use Rattle.shapers_syllabic.specs.Borders.{MeetAtBorder}
use Rattle.shapers_syllabic.specs.Circles.{circle_in, circled, is_of_kind, rephas_len, with_circle}
use Rattle.shapers_syllabic.specs.Reordering.{carried, text_steps}
use Rattle.shapers_syllabic.specs.declared.ot_shaper_syllabic.circles.DottedCircles.{DottedCircles}
use Rattle.shapers_syllabic.proofs.Borders.{Cut, cut_border, cut_is, syllables_cut}
use Rattle.shapers_syllabic.proofs.CircleLaws.{joined-syllables}
use Rattle.shapers_break_laws.proofs.ApartPieces.{ApartAtBorders, text_apart}
use Rattle.shapers_break_laws.proofs.CircledBorders.{Each, OpenedBorder, opened_piece, opened_whole, syllables-circled}
use Rattle.shapers_break_laws.proofs.Guarded.{IsWhole, LeastOrFlagged}
use Rattle.shapers_break_laws.proofs.Keepers.{AllAt, HaveKeepers}
use Rattle.shapers_break_laws.proofs.KeptFlagsInside.{GreaterKept, clear_at_border, greater_kept, whole_at}
use Rattle.shapers_break_laws.proofs.PauseBreaks.{each_at, each_from}
use Rattle.shapers_buffer.specs.Glyphs.{Glyphs}
use Rattle.shapers_clusters.proofs.Halves.{each-append, each-drop, each-take}

-- what holds of the clusters of pieces holds of them with their circles
pub piece_opened : (P : ℕ → Type 0) (circles : Option DottedCircles) (piece : Glyphs) → Each P piece → Each P
    (opened_piece circles piece)
piece_opened P None piece h = h
piece_opened P (Some rule) [] h = tt
piece_opened P (Some rule) (g ∷ gs) h =
    let n = rephas_len rule.repha (g ∷ gs) in
    elim (is_of_kind rule.broken_kind (g ∷ gs)) as (λ b. Each P (if b then with_circle rule (g ∷ gs) else g ∷ gs)) [
      | true ↦ each-append P (take n (g ∷ gs)) (circle_in (g ∷ gs) rule.circle ∷ drop n (g ∷ gs))
          (each-take P n (g ∷ gs) h) (h.0, each-drop P n (g ∷ gs) h)
      | false ↦ h
    ]

each_split : (P : ℕ → Type 0) (gs hs : Glyphs) → Each P (gs ++ hs) → Each P gs × Each P hs
each_split P [] hs h = (tt, h)
each_split P (g ∷ gs) hs h = let (a, b) = each_split P gs hs h.1 in ((h.0, a), b)

pieces_opened : (P : ℕ → Type 0) (circles : Option DottedCircles) (pieces : List Glyphs) → Each P
    (flat_map (λ piece. piece) pieces) → Each P (flat_map (opened_piece circles) pieces)
pieces_opened P circles [] h = tt
pieces_opened P circles (p ∷ ps) h =
    let (a, b) = each_split P p (flat_map (λ piece. piece) ps) h in
    each-append P (opened_piece circles p) (flat_map (opened_piece circles) ps) (piece_opened P circles p a)
    (pieces_opened P circles ps b)

apart_opened : (circles : Option DottedCircles) (ps qs : List Glyphs) → ShareNone (flat_map (λ p. p) ps)
    (flat_map (λ p. p) qs) → ShareNone (flat_map (opened_piece circles) ps) (flat_map (opened_piece circles) qs)
apart_opened circles ps qs none i j il jl =
    let xs = flat_map (λ p. p) ps in
    let ys = flat_map (λ p. p) qs in
    let os = flat_map (opened_piece circles) qs in
    let inner : (c : ℕ) → Each (λ d. c ≢ d) ys → Each (λ d. c ≢ d) os = λ c. pieces_opened (λ d. c ≢ d) circles qs in
    let outer : Each (λ c. Each (λ d. c ≢ d) os) (flat_map (opened_piece circles) ps) = pieces_opened
    (λ c. Each (λ d. c ≢ d) os) circles ps
    (each_from (λ c. Each (λ d. c ≢ d) os) xs
    (λ a al. inner (slice_index (clusters xs) a)
    (each_from (λ d. slice_index (clusters xs) a ≢ d) ys (λ b bl. none a b al bl)))) in
    each_at (λ d. slice_index (clusters (flat_map (opened_piece circles) ps)) i ≢ d) os
    (each_at (λ c. Each (λ d. c ≢ d) os) (flat_map (opened_piece circles) ps) outer i il) j jl

pub apart_mapped : (circles : Option DottedCircles) (pieces : List Glyphs) → ApartAtBorders pieces → ApartAtBorders
    (map (opened_piece circles) pieces)
apart_mapped circles pieces apart k =
    let F = opened_piece circles in
    let front : flat_map F (take k pieces) ≡ flat_map (λ q. q) (take k (map F pieces)) =
    sym (flat_map-map (λ q. q) F (take k pieces)) ∙ ap (flat_map (λ q. q)) (sym (take-map F k pieces)) in
    let back : flat_map F (drop k pieces) ≡ flat_map (λ q. q) (drop k (map F pieces)) =
    sym (flat_map-map (λ q. q) F (drop k pieces)) ∙ ap (flat_map (λ q. q)) (sym (drop-map F k pieces)) in
    subst (λ xs. ShareNone xs (flat_map (λ q. q) (drop k (map F pieces)))) front
    (subst (ShareNone (flat_map F (take k pieces))) back
    (apart_opened circles (take k pieces) (drop k pieces) (apart k)))

-- steps that keep in each run of a cluster a glyph with its flags, of any syllable that is good
abbrev pub KeepFlags : (Glyphs → Type 0) → BufferClusterLevel → (Glyphs → List Step) → Type 0
KeepFlags Good level steps = (m : ℕ) (piece : Glyphs) → Good piece → AllAt (LeastOrFlagged m) piece → HaveKeepers
    (LeastOrFlagged m) (after_steps level (steps (order_view piece)) piece)

pub all_kept : (Good : Glyphs → Type 0) (level : BufferClusterLevel) (steps : Glyphs → List Step)
    → KeepFlags Good level steps → (pieces : List Glyphs) → AllByRecursion IsWhole pieces → AllByRecursion Good pieces
    → AllByRecursion GreaterKept (map (λ q. after_steps level (steps (order_view q)) q) pieces)
all_kept Good level steps keep [] whole good = tt
all_kept Good level steps keep (q ∷ qs) whole good = (
  greater_kept whole.0.0 (after_steps level (steps (order_view q)) q)
      (keep whole.0.0 q good.0 (whole_at q whole.0)),
  all_kept Good level steps keep qs whole.1 good.1,
)

-- steps keep the length
pub length_run : (steps : Glyphs → List Step) → ((gs : Glyphs) → FitSteps (length gs) (steps gs)) →
    (level : BufferClusterLevel) (pieces : List Glyphs) → length
    (flat_map (λ q. after_steps level (steps (order_view q)) q) pieces) ≡ length (flat_map (λ q. q) pieces)
length_run steps fits level [] = refl
length_run steps fits level (q ∷ qs) =
    let run : Glyphs → Glyphs = λ q. after_steps level (steps (order_view q)) q in
    let own : FitSteps (length q) (steps (order_view q)) = subst (λ n. FitSteps n (steps (order_view q)))
    (length-map q plain) (fits (order_view q)) in
    length-append (run q) (flat_map run qs) ∙ omega
    (arith, (steps_hold level (steps (order_view q)) q own).same_length, length_run steps fits level qs) ∙ sym
    (length-append q (flat_map (λ q. q) qs))

pub kept_border : (Good : Glyphs → Type 0) (level : BufferClusterLevel) (steps : Glyphs → List Step) → ((gs : Glyphs)
    → FitSteps (length gs) (steps gs)) → KeepFlags Good level steps → (circles : Option DottedCircles)
    (gs new : Glyphs) → AllByRecursion IsWhole (syllables gs) → ApartAtBorders (syllables gs) → AllByRecursion Good
    (syllables (circled circles gs)) → map carried new
    ≡ map carried (after_steps level (text_steps steps (order_view (circled circles gs))) (circled circles gs)) → (p : ℕ)
    → 0 < p → p < length new → IsClear new p → OpenedBorder circles gs p
kept_border Good level steps fits keep circles gs new whole apart good moved p z l clear =
    let xs = circled circles gs in
    let pieces = syllables gs in
    let F = opened_piece circles in
    let run : Glyphs → Glyphs = λ q. after_steps level (steps (order_view q)) q in
    let is : syllables xs ≡ map F pieces = syllables-circled circles gs in
    let opened_apart : ApartAtBorders (syllables xs) = subst ApartAtBorders (sym is) (apart_mapped circles pieces apart) in
    let each : AllByRecursion IsWhole (syllables xs) = subst (AllByRecursion IsWhole) (sym is)
    (opened_whole circles pieces whole) in
    let results = map run (syllables xs) in
    let same : map carried new ≡ map carried (flat_map (λ q. q) results) = moved ∙ ap (map carried)
    (text_apart steps fits level xs opened_apart ∙ sym (flat_map-map (λ q. q) run (syllables xs))) in
    let border = clear_at_border results (all_kept Good level steps keep (syllables xs) each good) new same p z l clear in
    let k = border.count in
    let within = border.within in
    record {
      count = k;
      within = omega (arith, within, length-map (syllables xs) run, ap length is, length-map pieces F);
      place = ap length (sym (flat_map-map (λ q. q) F (take k pieces)) ∙ ap (flat_map (λ q. q))
          (sym (take-map F k pieces) ∙ ap (take k) (sym is)))
          ∙ sym (length_run steps fits level (take k (syllables xs)))
          ∙ ap length (sym (flat_map-map (λ q. q) run (take k (syllables xs))) ∙ ap (flat_map (λ q. q))
          (sym (take-map run k (syllables xs))))
          ∙ border.place;
    }

-- the first k syllables are those of what they make up
first_byte_of : (hs rest : Glyphs) → 0 < length hs → slice_index (map (λ g. g.syllable) (hs ++ rest)) 0 ≡ slice_index
    (map (λ g. g.syllable) hs) 0
first_byte_of [] rest l = absurd (omega arith)
first_byte_of (h ∷ hs) rest l = refl

cut_taken : (k : ℕ) (pieces : List Glyphs) → Cut pieces → Cut (take k pieces)
cut_taken zero pieces u = tt
cut_taken (suc k) [] u = tt
cut_taken (suc k) (piece ∷ pieces) u =
    let id : Glyphs → Glyphs = λ p. p in
    let front = flat_map id (take k pieces) in
    let rest = flat_map id (drop k pieces) in
    let all : flat_map id pieces ≡ front ++ rest = ap (flat_map id) (sym (take-append-drop k pieces)) ∙ flat_map-append id
    (take k pieces) (drop k pieces) in
    let meet : MeetAtBorder piece (front ++ rest) = subst (MeetAtBorder piece) all u.1 in (
      u.0,
      λ some more same. meet some (omega (arith, length-append front rest, more))
          (same ∙ sym (first_byte_of front rest more)),
      cut_taken k pieces u.2,
    )

-- a text cut behind its first k syllables
pub record SyllableCut (gs : Glyphs) (k : ℕ) : Type 0 where
  pub text : gs ≡ flat_map (λ q. q) (take k (syllables gs)) ++ flat_map (λ q. q) (drop k (syllables gs))
  pub border : MeetAtBorder (flat_map (λ q. q) (take k (syllables gs))) (flat_map (λ q. q) (drop k (syllables gs)))
  pub first : syllables (flat_map (λ q. q) (take k (syllables gs))) ≡ take k (syllables gs)

pub syllable_cut : (gs : Glyphs) (k : ℕ) → SyllableCut gs k
syllable_cut gs k =
    let id : Glyphs → Glyphs = λ p. p in
    let pieces = syllables gs in
    let cut = syllables_cut gs in
    record {
      text = sym (joined-syllables gs) ∙ ap (flat_map id) (sym (take-append-drop k pieces))
          ∙ flat_map-append id (take k pieces) (drop k pieces);
      border = cut_border (take k pieces) (drop k pieces) (subst Cut (sym (take-append-drop k pieces)) cut);
      first = cut_is (take k pieces) (cut_taken k pieces cut);
    }
