-- A set-up by spans and a reordering directly after it, cut between two spans, where the set-up
-- gives masks that hang on neighbours and the
-- order reads none.
use Rattle.std.proofs.Common.{arith}
use Rattle.std.proofs.Common.{ℕ, ◌≡◌, List, [], ◌∷◌, ◌++◌, map, length, drop, refl, sym, ◌∙◌, ap, subst}
use Rattle.std.specs.Prelude.{Option, None, Some}
use Rattle.std.specs.List.{flat_map}
use Rattle.std.proofs.lemmas.List.{drop-map, drop_at, length-map, map-append, take-map}
use Rattle.shapers_buffer.specs.Glyphs.{Glyph, Glyphs}
use Rattle.shapers_buffer.specs.declared.buffer.level.BufferClusterLevel.{BufferClusterLevel}
use Rattle.shapers_buffer.specs.Buffer.{Buffer}
use Rattle.shapers_buffer.specs.Glyph.{clusters, order_view, without_flags}
use Rattle.shapers_buffer.specs.Syllables.{syllables}
use Rattle.shapers_buffer.proofs.MappedLists.{map-seen}
use Rattle.shapers_clusters.specs.Steps.{Step, after_steps}
use Rattle.shapers_clusters.proofs.Moves.{clusters-after_steps}
use Rattle.shapers_syllabic.specs.declared.ot_shaper_syllabic.circles.DottedCircles.{DottedCircles}
use Rattle.shapers_syllabic.specs.Borders.{MeetAtBorder, SameButSerials, unnumbered}
use Rattle.shapers_syllabic.specs.Circles.{circled, circled_syllable, rephas_len, with_circle}
use Rattle.shapers_syllabic.specs.Reordering.{PauseReordered, carried, text_steps}
use Rattle.shapers_syllabic.specs.ReorderingLaws.{ReadsNoSerials, ReorderLaws, paused_carried, paused_clusters, paused_order, with_mask_by}
use Rattle.shapers_syllabic.specs.SpanCuts.{CutsAtBorders, HalvesJoined, PausesCutBetweenSpans}
use Rattle.shapers_syllabic.specs.Syllabic.{unsafe_spans}
use Rattle.shapers_syllabic.proofs.Borders.{syllables-viewed}
use Rattle.shapers_syllabic.proofs.PauseCuts.{apart_by, clusters-setup}
use Rattle.shapers_syllabic.proofs.ReorderingCuts.{apart-circled, border-circled, circled-append, steps-halves, text_order-halves}
use Rattle.shapers_syllabic.proofs.ReorderingWalk.{pieces_of}
use Rattle.shapers_syllabic.proofs.Serials.{KeepsSame, pieces_same, serials_dont_count}
use Rattle.shapers_syllabic.proofs.SpanCuts.{spans_cut}

-- glyphs with other masks, and masks whose flags stay apart
abbrev pub by : (ℕ → ℕ) → Glyphs → Glyphs
by f gs = map (with_mask_by f) gs

abbrev pub MaskKeepsFlags : (ℕ → ℕ) → Type 0
MaskKeepsFlags f = (m : ℕ) → without_flags (f m) ≡ f (without_flags m)

pub clusters-by : (f : ℕ → ℕ) (gs : Glyphs) → clusters (by f gs) ≡ clusters gs
clusters-by f [] = refl
clusters-by f (g ∷ gs) = cc (clusters-by f gs)

view-by : (f : ℕ → ℕ) → MaskKeepsFlags f → (gs : Glyphs) → order_view (by f gs) ≡ by f (order_view gs)
view-by f keeps [] = refl
view-by f keeps (g ∷ gs) = search (arith, view-by f keeps gs)

syllables-by : (f : ℕ → ℕ) (gs : Glyphs) → syllables (by f gs) ≡ map (by f) (syllables gs)
syllables-by = search syllables-viewed

joined-by : (f : ℕ → ℕ) (change : Glyphs → Glyphs) → ((gs : Glyphs) → change (by f gs) ≡ by f (change gs))
    → (ps : List Glyphs) → flat_map change (map (by f) ps) ≡ by f (flat_map change ps)
joined-by f change past [] = refl
joined-by f change past (p ∷ ps) = search (arith, map-append, joined-by f change past ps)

-- circles take the mask along
rephas-by : (f : ℕ → ℕ) (repha : Option ℕ) (gs : Glyphs) → rephas_len repha (by f gs) ≡ rephas_len repha gs
rephas-by f (Some c) (g ∷ gs) = cc (rephas-by f (Some c) gs)
rephas-by f _ _ = refl

with_circle-by : (f : ℕ → ℕ) (rule : DottedCircles) (g : Glyph) (gs : Glyphs)
    → with_circle rule (by f (g ∷ gs)) ≡ by f (with_circle rule (g ∷ gs))
with_circle-by = search (rephas-by, take-map, drop-map, map-append)

circled_syllable-by : (f : ℕ → ℕ) (rule : DottedCircles) (gs : Glyphs) → circled_syllable rule (by f gs)
    ≡ by f (circled_syllable rule gs)
circled_syllable-by f rule [] = refl
circled_syllable-by f rule (g ∷ gs) = search (arith, with_circle-by)

pub circled-by : (f : ℕ → ℕ) (circles : Option DottedCircles) (gs : Glyphs)
    → circled circles (by f gs) ≡ by f (circled circles gs)
circled-by f None gs = refl
circled-by f (Some rule) gs = search (syllables-by, joined-by, circled_syllable-by)

-- a pause that reads no masks
opened-by : (f : ℕ → ℕ) → MaskKeepsFlags f → (circles : Option DottedCircles) (gs : Glyphs)
    → order_view (circled circles (by f gs)) ≡ by f (order_view (circled circles gs))
opened-by = search (circled-by, view-by)

pub paused-by : (f : ℕ → ℕ) → MaskKeepsFlags f → (circles : Option DottedCircles) (meaning : Glyphs → Glyphs)
    → ((gs : Glyphs) → meaning (by f gs) ≡ by f (meaning gs)) → (gs : Glyphs) → paused_order circles meaning (by f gs)
    ≡ by f (paused_order circles meaning gs)
paused-by = search (opened-by, syllables-by, joined-by)

pieces-by : (f : ℕ → ℕ) (steps : Glyphs → List Step) → ((gs : Glyphs) → steps (by f gs) ≡ steps gs) → (ps : List Glyphs)
    → pieces_of steps (map (by f) ps) ≡ pieces_of steps ps
pieces-by f steps led [] = refl
pieces-by f steps led (p ∷ ps) = search (arith, length-map, pieces-by f steps led ps)

pub clusters_paused-by : (f : ℕ → ℕ) → MaskKeepsFlags f → (circles : Option DottedCircles) (steps : Glyphs → List Step)
    → ((gs : Glyphs) → steps (by f gs) ≡ steps gs) → (level : BufferClusterLevel) (gs : Glyphs)
    → paused_clusters circles steps level (by f gs) ≡ paused_clusters circles steps level gs
clusters_paused-by = search (arith, circled-by, clusters-by, opened-by, length-map, syllables-by, pieces-by)

-- a pause of texts that are the same but for serials: its clusters
clusters-seen : (gs : Glyphs) → clusters (map unnumbered (map carried gs)) ≡ clusters gs
clusters-seen [] = refl
clusters-seen (g ∷ gs) = cc (clusters-seen gs)

pub clusters_paused-same : (circles : Option DottedCircles) (meaning : Glyphs → Glyphs) (steps : Glyphs
    → List Step) (level : BufferClusterLevel) (gs hs : Glyphs) → ReadsNoSerials meaning steps → SameButSerials gs hs
    → paused_clusters circles steps level gs ≡ paused_clusters circles steps level hs
clusters_paused-same circles meaning steps level gs hs reads same =
    let told : (xs : Glyphs) → clusters (map unnumbered (paused_carried circles steps level xs)) ≡ paused_clusters
    circles steps level xs = λ xs. clusters-seen
    (after_steps level (text_steps steps (order_view (circled circles xs))) (circled circles xs))
    ∙ clusters-after_steps level (text_steps steps (order_view (circled circles xs))) (circled circles xs) in
    cc (told gs, (serials_dont_count circles meaning steps level gs hs reads same).moved, told hs)

-- a pause of two halves that meet at a border
paused_halves : (circles : Option DottedCircles) (meaning : Glyphs → Glyphs) (gs hs : Glyphs) → MeetAtBorder gs hs
    → paused_order circles meaning (gs ++ hs) ≡ paused_order circles meaning gs ++ paused_order circles meaning hs
paused_halves = search (circled-append, text_order-halves, border-circled)

-- A text that is set up, and its halves: with other masks it is the first half, and behind it the
-- second one but for serials.
pub record SetupParts (f : ℕ → ℕ) (gs hs whole front back : Glyphs) : Type 0 where
  pub behind : Glyphs
  pub parts : by f whole ≡ by f front ++ behind
  pub renumbered : SameButSerials behind (by f back)
  pub border : MeetAtBorder (by f front) behind
  pub first : clusters front ≡ clusters gs
  pub both : clusters whole ≡ clusters (gs ++ hs)

mask_keeps : (f : ℕ → ℕ) → KeepsSame (by f)
mask_keeps f gs hs same = let told = map-seen unnumbered (with_mask_by f) (λ g. refl) in cc (told gs, told hs)

pub same-by : (f : ℕ → ℕ) (gs hs : Glyphs) → SameButSerials gs hs → SameButSerials (by f gs) (by f hs)
same-by = search (syllables-by, pieces_same, mask_keeps)

pub map-twice : (h : Glyph → Glyph) (gs : Glyphs) → map (λ g. unnumbered (h g)) gs ≡ map unnumbered (map h gs)
map-twice h [] = refl
map-twice h (g ∷ gs) = cc (map-twice h gs)

pub joined_halves : (f : ℕ → ℕ) → MaskKeepsFlags f
    → (circles : Option DottedCircles) (meaning : Glyphs → Glyphs) (steps : Glyphs
    → List Step) (level : BufferClusterLevel) → ReorderLaws meaning steps → ReadsNoSerials meaning steps
    → ((gs : Glyphs) → meaning (by f gs) ≡ by f (meaning gs)) → ((gs : Glyphs) → steps (by f gs) ≡ steps gs) →
    (gs hs whole front back xs ys new : Glyphs) → SetupParts f gs hs whole front back → SameButSerials front xs
    → SameButSerials back ys →
    order_view new ≡ paused_order circles meaning whole → clusters new ≡ paused_clusters circles steps level whole →
    HalvesJoined (λ g. unnumbered (with_mask_by f g)) (paused_order circles meaning)
    (paused_clusters circles steps level) gs hs xs ys new
joined_halves f keeps circles meaning steps level laws reads meant led gs hs whole front back xs ys new cut first second
    order in_clusters =
    let behind = cut.behind in
    let P = paused_order circles meaning in
    let C = paused_clusters circles steps level in
    let view : Glyph → Glyph = λ g. unnumbered (with_mask_by f g) in
    let shows : (zs : Glyphs) → map view zs ≡ map unnumbered (by f zs) = search map-twice in
    let hidden = paused-by f keeps circles meaning meant in
    let one = serials_dont_count circles meaning steps level (by f front) (by f xs) reads (same-by f front xs first) in
    let mid = cut.renumbered ∙ same-by f back ys second in
    let n = length (clusters gs) in
    let fl = clusters-by f front ∙ cut.first in
    let all : clusters (by f front) ++ clusters behind ≡ clusters gs ++ clusters hs =
    sym (map-append (λ g. g.cluster) (by f front) behind) ∙ sym (ap clusters cut.parts) ∙ clusters-by f whole ∙ cut.both
    ∙ map-append (λ g. g.cluster) gs hs in
    let bl : clusters behind ≡ clusters hs =
    sym (drop_at (clusters (by f front)) (clusters behind) n (ap length fl)) ∙ ap (drop n) all
    ∙ drop_at (clusters gs) (clusters hs) n refl in
    record {
      order =
          shows (order_view new) ∙ ap (λ zs. map unnumbered (by f zs)) order ∙ ap (map unnumbered)
          (sym (hidden whole) ∙ ap P cut.parts ∙ paused_halves circles meaning (by f front) behind cut.border)
          ∙ map-append unnumbered (P (by f front)) (P behind) ∙ ap (λ l. l ++ map unnumbered (P behind))
          (one.order ∙ ap (map unnumbered) (hidden xs) ∙ sym (shows (P xs))) ∙ ap (λ l. map view (P xs) ++ l)
          ((serials_dont_count circles meaning steps level behind (by f ys) reads mid).order ∙ ap (map unnumbered)
          (hidden ys) ∙ sym (shows (P ys)));
      in_clusters = λ none.
          in_clusters ∙ sym (clusters_paused-by f keeps circles steps led level whole) ∙ ap C cut.parts
          ∙ (let xs = circled circles (by f front) in let ys = circled circles behind in cc (
            circled-append circles (by f front) behind cut.border,
            clusters-after_steps level (text_steps steps (order_view (xs ++ ys))) (xs ++ ys),
            steps-halves meaning steps level xs ys laws (border-circled circles (by f front) behind cut.border)
                (apart-circled circles (by f front) behind (apart_by (by f front) behind gs hs fl bl none)),
            map-append (λ
                g. g.cluster) (after_steps level (text_steps steps (order_view xs)) xs) (after_steps level (text_steps steps
                (order_view ys)) ys),
            clusters-after_steps level (text_steps steps (order_view xs)) xs,
            clusters-after_steps level (text_steps steps (order_view ys)) ys,
          )) ∙ ap (λ cs. cs ++ C behind)
          (clusters_paused-same circles meaning steps level (by f front) (by f xs) reads (same-by f front xs first) ∙
          clusters_paused-by f keeps circles steps led level xs) ∙ ap (λ cs. C xs ++ cs)
          (clusters_paused-same circles meaning steps level behind (by f ys) reads mid ∙ clusters_paused-by f keeps
          circles steps led level ys);
    }

pub clusters-carried : (gs : Glyphs) → clusters (map carried gs) ≡ clusters gs
clusters-carried [] = refl
clusters-carried (g ∷ gs) = cc (clusters-carried gs)

-- a set-up by spans and a pause directly after it
unchanged : (gs : Glyphs) → by (λ m. m) gs ≡ gs
unchanged [] = refl
unchanged (g ∷ gs) = cc (unchanged gs)

pub paused_clusters_are : (circles : Option DottedCircles) (meaning : Glyphs → Glyphs) (steps : Glyphs
    → List Step) (old new : Buffer) → PauseReordered circles meaning steps old new
    → clusters new.glyphs ≡ paused_clusters circles steps old.level old.glyphs
paused_clusters_are = search (arith, clusters-carried, clusters-after_steps)

pub pauses_cut_between_spans : PausesCutBetweenSpans
pauses_cut_between_spans meaning steps broken_kind laws reads circles spans old new kinds done ss ts gs hs xs ys split
    text first second one two =
    joined_halves (λ m. m) (λ m. refl) circles meaning steps old.level laws reads (λ zs.
    search unchanged) (λ zs. ap steps (unchanged zs))
    gs hs (unsafe_spans spans old.glyphs) (unsafe_spans ss gs) (unsafe_spans ts hs) xs ys new.glyphs
    (
    let cut = spans_cut spans broken_kind old kinds ss ts gs hs split text first second in
    search (arith, unchanged (unsafe_spans spans old.glyphs), unchanged (unsafe_spans ss gs), unchanged (unsafe_spans ts hs), clusters-setup ss broken_kind (record old { glyphs = gs }), clusters-setup spans broken_kind old)) one two done.order (search paused_clusters_are)

-- a pause cut at a border of syllables, of halves that may have other serials
pub cuts_with_serials : (circles : Option DottedCircles) (meaning : Glyphs → Glyphs) (steps : Glyphs
    → List Step) (old new : Buffer) → ReorderLaws meaning steps → ReadsNoSerials meaning steps
    → PauseReordered circles meaning steps old new
    → CutsAtBorders unnumbered (paused_order circles meaning) (paused_clusters circles steps old.level) old.glyphs
    new.glyphs
cuts_with_serials circles meaning steps old new laws reads done gs hs xs ys text border one two =
    let f : ℕ → ℕ = λ m. m in
    let parts : SetupParts f gs hs old.glyphs gs hs = record {
      behind = hs;
      parts = unchanged old.glyphs ∙ text ∙ ap (λ zs. zs ++ hs) (sym (unchanged gs));
      renumbered = subst (SameButSerials hs) (sym (unchanged hs)) refl;
      border = subst (λ zs. MeetAtBorder zs hs) (sym (unchanged gs)) border;
      first = refl;
      both = ap clusters text;
    } in
    joined_halves f (λ m. refl) circles meaning steps old.level laws reads (λ zs.
    search unchanged) (λ zs. ap steps (unchanged zs))
    gs hs old.glyphs gs hs xs ys new.glyphs parts one two done.order (search paused_clusters_are)
