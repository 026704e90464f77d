-- A text cut at a border of syllables: circles, text order and steps of the halves.
use Rattle.std.proofs.Common.{ℕ, ◌+◌, ◌<◌, ◌≡◌, if◌then◌else◌, Bool, true, false, List, [], ◌∷◌, ◌++◌, length, slice_index, take, drop, refl, sym, ◌∙◌, ap, arith, length-append}
use Rattle.std.specs.Prelude.{Option, None, Some}
use Rattle.std.specs.List.{Contains}
use Rattle.std.proofs.lemmas.List.{get_or_default, length-map, map-append}
use Rattle.std.proofs.lemmas.List.Concat.{flat_map-append}
use Rattle.std.proofs.lemmas.List.Elements.{All-append, All-cons, All-drop, All-get_or, All-head, All-take}
use Rattle.shapers_buffer.specs.Glyphs.{Glyph, Glyphs}
use Rattle.shapers_buffer.specs.declared.buffer.level.BufferClusterLevel.{BufferClusterLevel}
use Rattle.shapers_buffer.specs.Glyph.{clusters, order_view, plain}
use Rattle.shapers_buffer.specs.Syllables.{syllables}
use Rattle.shapers_clusters.specs.Cuts.{ShareNone}
use Rattle.shapers_clusters.specs.Steps.{FitsStep, Step, after_steps, steps_along}
use Rattle.shapers_clusters.proofs.Proved.{halves_hold}
use Rattle.shapers_syllabic.specs.declared.ot_shaper_syllabic.circles.DottedCircles.{DottedCircles}
use Rattle.shapers_syllabic.specs.Circles.{circle_in, circled, circled_syllable, rephas_len, with_circle, with_circles}
use Rattle.shapers_syllabic.specs.Reordering.{carried, text_order, text_steps}
use Rattle.shapers_syllabic.specs.Borders.{MeetAtBorder}
use Rattle.shapers_syllabic.specs.ReorderingLaws.{ReorderLaws, ReorderingCutsAtBorders}
use Rattle.shapers_syllabic.proofs.Borders.{OfByte, SameEnds, border-view, ends-kept, syllables-append, syllables_cut}
use Rattle.shapers_syllabic.proofs.CircleLaws.{circles_keep_clusters, joined-syllables}
use Rattle.shapers_syllabic.proofs.ReorderingLaws.{each_piece, sum-syllables, text_steps-long}
use Rattle.shapers_syllabic.proofs.ReorderingWalk.{pieces_of}

-- a circle keeps the ends of its syllable
circle_byte : (byte : ℕ) (gs : Glyphs) (circle : Glyph) → OfByte byte gs → (circle_in gs circle).syllable ≡ byte
circle_byte byte [] = search arith
circle_byte byte (g ∷ gs) = search (arith, All-head)

circled_byte : (rule : DottedCircles) (byte : ℕ) (gs : Glyphs) (broken : Bool) → OfByte byte gs
    → OfByte byte (if broken then with_circle rule gs else gs)
circled_byte rule byte gs false u = u
circled_byte rule byte gs true u =
    let P : Glyph → Type 0 = λ g. g.syllable ≡ byte in
    let n = rephas_len rule.repha gs in
    let circle = circle_in gs rule.circle in
    search (
      arith,
      length-append (take n gs) (circle ∷ drop n gs),
      All-append P (take n gs) (circle ∷ drop n gs) (All-take P n gs u.all)
          (All-cons P circle (drop n gs) (circle_byte byte gs rule.circle u) (All-drop P n gs u.all)),
    )

pub circled_syllable_byte : (rule : DottedCircles) (byte : ℕ) (gs : Glyphs) → OfByte byte gs
    → OfByte byte (circled_syllable rule gs)
circled_syllable_byte = search circled_byte

ends-circled : (circles : Option DottedCircles) (gs : Glyphs) → SameEnds (circled circles gs) gs
ends-circled None gs = search arith
ends-circled (Some rule) gs = search (
  arith,
  joined-syllables gs,
  ends-kept (circled_syllable rule) (circled_syllable_byte rule) (syllables gs) (syllables_cut gs),
)

-- circles of the halves
pub border-circled : (circles : Option DottedCircles) (gs hs : Glyphs) → MeetAtBorder gs hs
    → MeetAtBorder (circled circles gs) (circled circles hs)
border-circled = search (arith, ends-circled)

pub circled-append : (circles : Option DottedCircles) (gs hs : Glyphs) → MeetAtBorder gs hs
    → circled circles (gs ++ hs) ≡ circled circles gs ++ circled circles hs
circled-append None gs hs border = refl
circled-append (Some rule) gs hs border = search (syllables-append, flat_map-append)

cluster_of : (circles : Option DottedCircles) (gs : Glyphs) (i : ℕ) → i < length (circled circles gs)
    → (k : ℕ) × (k < length gs) × (slice_index (clusters gs) k ≡ slice_index (clusters (circled circles gs)) i)
cluster_of None gs i h = (i, h, refl)
cluster_of (Some rule) gs i h =
    let n = length-map gs (λ g. g.cluster) in
    let found = All-get_or (λ c. Contains (clusters gs) c)
    (clusters (with_circles rule gs)) i 0 (search length-map) (circles_keep_clusters rule gs) in
    search (arith, get_or_default)

pub apart-circled : (circles : Option DottedCircles) (gs hs : Glyphs) → ShareNone gs hs
    → ShareNone (circled circles gs) (circled circles hs)
apart-circled circles gs hs none i j il jl same =
    let a = cluster_of circles gs i il in
    let b = cluster_of circles hs j jl in
    none a.0 b.0 a.1 b.1 (a.2 ∙ same ∙ sym b.2)

-- the text order of the halves, and their steps
pub text_order-append : (meaning : Glyphs → Glyphs) (gs hs : Glyphs)
    → MeetAtBorder gs hs → text_order meaning (gs ++ hs) ≡ text_order meaning gs ++ text_order meaning hs
text_order-append = search (syllables-append, flat_map-append)

pub text_order-halves : (meaning : Glyphs → Glyphs) (gs hs : Glyphs)
    → MeetAtBorder gs hs → text_order meaning (order_view (gs ++ hs)) ≡ text_order meaning (order_view gs)
    ++ text_order meaning (order_view hs)
text_order-halves = search (map-append, text_order-append, border-view)

pub steps-halves : (meaning : Glyphs → Glyphs) (steps : Glyphs
    → List Step) (level : BufferClusterLevel) (gs hs : Glyphs) → ReorderLaws meaning steps
    → MeetAtBorder gs hs → ShareNone gs hs → after_steps level (text_steps steps (order_view (gs ++ hs))) (gs ++ hs)
    ≡ after_steps level (text_steps steps (order_view gs)) gs ++ after_steps level (text_steps steps (order_view hs)) hs
steps-halves meaning steps level gs hs laws border none =
    let xs = order_view gs in
    let ys = order_view hs in
    let ps = pieces_of steps (syllables xs) in
    ap (λ sts. after_steps level sts (gs ++ hs)) (text_steps-long steps (gs ++ hs))
    ∙ ap (λ n. after_steps level (steps_along n 0 (pieces_of steps (syllables (order_view (gs ++ hs))))) (gs ++ hs))
    (length-append gs hs) ∙ ap (λ pieces. after_steps level (steps_along (length gs + length hs) 0 pieces) (gs ++ hs))
    (ap (pieces_of steps) (search (map-append, syllables-append, border-view)) ∙ map-append (λ syl. (
      length syl,
      steps syl,
    )) (syllables xs) (syllables ys))
    ∙ halves_hold level ps (pieces_of steps (syllables ys)) gs hs (sum-syllables steps xs ∙ length-map gs plain)
    (sum-syllables steps ys ∙ length-map hs plain) (each_piece FitsStep steps laws.fits (syllables xs))
    (each_piece FitsStep steps laws.fits (syllables ys)) none ∙ sym
    (ap (λ sts. after_steps level sts gs ++ after_steps level (text_steps steps ys) hs) (text_steps-long steps gs) ∙ ap
    (λ sts. after_steps level (steps_along (length gs) 0 ps) gs ++ after_steps level sts hs) (text_steps-long steps hs))

-- a whole pause
pub cuts_at_borders : ReorderingCutsAtBorders
cuts_at_borders circles meaning steps old new laws done gs hs whole border =
    let xs = circled circles gs in
    let ys = circled circles hs in
    let text : circled circles old.glyphs ≡ xs ++ ys = search (arith, circled-append) in
    let meet = border-circled circles gs hs border in
    record {
      order = search (arith, text_order-halves);
      moved = λ none.
          cc (
            steps-halves meaning steps old.level xs ys laws meet (apart-circled circles gs hs none),
            map-append carried (after_steps old.level (text_steps steps (order_view xs)) xs)
                (after_steps old.level (text_steps steps (order_view ys)) ys),
          );
    }
