-- Texts whose syllables differ in their serials alone: what is made of them differs in serials alone.
use Rattle.std.proofs.Common.{ℕ, ◌≡◌, ◌==◌, if◌then◌else◌, Bool, true, false, List, [], ◌∷◌, map, drop, refl, sym, ap, arith}
use Rattle.std.specs.Prelude.{Option, None, Some}
use Rattle.std.specs.List.{flat_map, prefix_len}
use Rattle.std.proofs.lemmas.List.{drop-map, length-map, map-append, take-map}
use Rattle.shapers_buffer.specs.Glyphs.{Glyph, Glyphs}
use Rattle.shapers_buffer.specs.Glyph.{order_view}
use Rattle.shapers_buffer.specs.GlyphFlags.{flagged, with_bits_off}
use Rattle.shapers_buffer.specs.Syllables.{kind_of, syllables}
use Rattle.shapers_clusters.specs.Steps.{Step}
use Rattle.shapers_clusters.proofs.ViewedSteps.{PassesMerges, clusters-through, after_steps-same}
use Rattle.shapers_syllabic.specs.declared.ot_shaper_syllabic.circles.DottedCircles.{DottedCircles}
use Rattle.shapers_syllabic.specs.Borders.{SameButSerials, unnumbered}
use Rattle.shapers_syllabic.specs.Circles.{circle_in, circled, circled_syllable, is_of_kind, rephas_len, with_circle}
use Rattle.shapers_syllabic.specs.Reordering.{carried}
use Rattle.shapers_syllabic.specs.ReorderingLaws.{SerialsDontCount}
use Rattle.shapers_syllabic.proofs.Borders.{syllables-mapped, syllables-viewed}
use Rattle.shapers_syllabic.proofs.CircleLaws.{joined-syllables}
use Rattle.shapers_syllabic.proofs.ReorderingCuts.{circled_syllable_byte}
use Rattle.shapers_syllabic.proofs.ReorderingWalk.{pieces_of}

kind-twice : (byte : ℕ) → kind_of (kind_of byte) ≡ kind_of byte
kind-twice = omega arith

pub unnumbered-twice : (gs : Glyphs) → map unnumbered (map unnumbered gs) ≡ map unnumbered gs
unnumbered-twice [] = refl
unnumbered-twice (g ∷ gs) = cc (kind-twice g.syllable, unnumbered-twice gs)

-- merges pass through, and serials show nowhere else
pub unnumbered_passes : PassesMerges unnumbered
unnumbered_passes = search arith

-- pieces that are the same but for serials, each changed by what keeps them so
abbrev pub KeepsSame : (Glyphs → Glyphs) → Type 0
KeepsSame f = (gs hs : Glyphs) → map unnumbered gs ≡ map unnumbered hs → map unnumbered (f gs) ≡ map unnumbered (f hs)

first_piece : (p q : Glyphs) (ps qs : List Glyphs) → map (map unnumbered) (p ∷ ps)
    ≡ map (map unnumbered) (q ∷ qs) → map unnumbered p ≡ map unnumbered q
first_piece p q ps qs same = cc

pub pieces_same : (f : Glyphs → Glyphs) → KeepsSame f
    → (ps qs : List Glyphs) → map (map unnumbered) ps ≡ map (map unnumbered) qs
    → map (map unnumbered) (map f ps) ≡ map (map unnumbered) (map f qs)
pieces_same f keeps [] [] same = refl
pieces_same f keeps (p ∷ ps) (q ∷ qs) same = search (arith, pieces_same f keeps ps qs (ap (drop 1) same))
pieces_same f keeps _ _ same = cc

pub joined_same : (f : Glyphs → Glyphs) → KeepsSame f
    → (ps qs : List Glyphs) → map (map unnumbered) ps ≡ map (map unnumbered) qs
    → map unnumbered (flat_map f ps) ≡ map unnumbered (flat_map f qs)
joined_same f keeps [] [] same = refl
joined_same f keeps (p ∷ ps) (q ∷ qs) same = search (arith, map-append, joined_same f keeps ps qs (ap (drop 1) same))
joined_same f keeps _ _ same = cc

-- a change that doesn't read serials
keeps_by : (f : Glyphs → Glyphs)
    → ((gs : Glyphs) → map unnumbered (f gs) ≡ map unnumbered (f (map unnumbered gs))) → KeepsSame f
keeps_by = search arith

pub same_text : (gs hs : Glyphs) → SameButSerials gs hs → map unnumbered gs ≡ map unnumbered hs
same_text gs hs same = cc (
  joined-syllables gs,
  joined_same (λ piece. piece) (λ xs ys e. e) (syllables gs) (syllables hs) same,
  joined-syllables hs,
)

-- circles
of_kind-unnumbered : (k : ℕ) (gs : Glyphs) → is_of_kind k (map unnumbered gs) ≡ is_of_kind k gs
of_kind-unnumbered k [] = refl
of_kind-unnumbered k (g ∷ gs) = cc (kind-twice g.syllable)

rephas-unnumbered : (repha : ℕ) (gs : Glyphs) → prefix_len (λ g. g.category == repha) (map unnumbered gs)
    ≡ prefix_len (λ g. g.category == repha) gs
rephas-unnumbered repha [] = refl
rephas-unnumbered repha (g ∷ gs) = cc (rephas-unnumbered repha gs)

rephas_len-unnumbered : (repha : Option ℕ) (gs : Glyphs) → rephas_len repha (map unnumbered gs) ≡ rephas_len repha gs
rephas_len-unnumbered None gs = refl
rephas_len-unnumbered (Some repha) gs = rephas-unnumbered repha gs

circle-unnumbered : (gs : Glyphs) (circle : Glyph)
    → unnumbered (circle_in (map unnumbered gs) circle) ≡ unnumbered (circle_in gs circle)
circle-unnumbered [] circle = refl
circle-unnumbered (g ∷ gs) circle = cc (kind-twice g.syllable)

opened-unnumbered : (rule : DottedCircles) (broken : Bool) (gs : Glyphs)
    → map unnumbered (if broken then with_circle rule gs else gs)
    ≡ map unnumbered (if broken then with_circle rule (map unnumbered gs) else map unnumbered gs)
opened-unnumbered rule true gs =
    search (arith, map-append, unnumbered-twice, take-map, drop-map, rephas_len-unnumbered)
opened-unnumbered rule false gs = sym (unnumbered-twice gs)

pub same-circled : (circles : Option DottedCircles) (gs hs : Glyphs) → SameButSerials gs hs
    → SameButSerials (circled circles gs) (circled circles hs)
same-circled None gs hs same = same
same-circled (Some rule) gs hs same =
    let f = circled_syllable rule in
    cc (
      syllables-mapped f (circled_syllable_byte rule) gs,
      pieces_same f (keeps_by f (search (arith, opened-unnumbered))) (syllables gs) (syllables hs) same,
      syllables-mapped f (circled_syllable_byte rule) hs,
    )

-- the order view
view-unnumbered : (gs : Glyphs) → map unnumbered (order_view gs) ≡ map unnumbered (order_view (map unnumbered gs))
view-unnumbered [] = refl
view-unnumbered (g ∷ gs) = cc (kind-twice g.syllable, view-unnumbered gs)

pub same-view : (gs hs : Glyphs) → SameButSerials gs hs → SameButSerials (order_view gs) (order_view hs)
same-view = search (arith, syllables-viewed, pieces_same, view-unnumbered)

-- flags inside each piece
offs-unnumbered : (m : ℕ) (gs : Glyphs) → map unnumbered (map (with_bits_off 3 m) gs)
    ≡ map (with_bits_off 3 m) (map unnumbered gs)
offs-unnumbered m [] = refl
offs-unnumbered m (g ∷ gs) = search (arith, offs-unnumbered m gs)

flagged-unnumbered : (gs : Glyphs) → map unnumbered (flagged 3 gs) ≡ flagged 3 (map unnumbered gs)
flagged-unnumbered = search (offs-unnumbered, clusters-through, unnumbered_passes)

pub flagged_keeps : KeepsSame (flagged 3)
flagged_keeps = search (arith, flagged-unnumbered)

-- the same steps
pub steps_same : (steps : Glyphs → List Step)
    → ((gs hs : Glyphs) → map unnumbered gs ≡ map unnumbered hs → steps gs ≡ steps hs) → (ps qs : List Glyphs)
    → map (map unnumbered) ps ≡ map (map unnumbered) qs → pieces_of steps ps ≡ pieces_of steps qs
steps_same steps led [] [] same = refl
steps_same steps led (p ∷ ps) (q ∷ qs) same =
    search (arith, length-map, steps_same steps led ps qs (ap (drop 1) same))
steps_same steps led _ _ same = cc

carried-unnumbered : (gs : Glyphs) → map unnumbered (map carried gs) ≡ map carried (map unnumbered gs)
carried-unnumbered [] = refl
carried-unnumbered (g ∷ gs) = cc (carried-unnumbered gs)

pub serials_dont_count : SerialsDontCount
serials_dont_count = search (arith, joined_same, same-view, same-circled, length-map, same_text, steps_same, carried-unnumbered, after_steps-same)
