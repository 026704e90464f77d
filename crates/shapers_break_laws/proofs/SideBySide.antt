-- A reordering leaves the halves' results side by side where syllables share no cluster.
use Rattle.std.proofs.Common.{ℕ, zero, suc, ◌+◌, ◌%◌, ◌≤◌, ◌≡◌, List, [], ◌∷◌, ◌++◌, length, map, take, drop, get_or, refl, sym, ap, ◌∙◌, subst, arith, length-append}
use Rattle.std.specs.Prelude.{Option}
use Rattle.std.specs.List.{All, flat_map, sum_by, zip}
use Rattle.std.proofs.lemmas.List.{drop_at, length-map, map-append, take-map, take_at}
use Rattle.std.proofs.lemmas.List.Elements.{All-cons, All-head, All-nil, All-tail}
use Rattle.std.proofs.lemmas.List.Folds.{flat_map-map}
use Rattle.shapers_buffer.specs.Glyphs.{Glyph, Glyphs}
use Rattle.shapers_buffer.specs.declared.buffer.level.BufferClusterLevel.{BufferClusterLevel}
use Rattle.shapers_buffer.specs.declared.buffer.level.BufferClusterLevel.TheVariants.{MonotoneGraphemes}
use Rattle.shapers_buffer.specs.Buffer.{Buffer}
use Rattle.shapers_buffer.specs.Glyph.{default_glyph, order_view, plain, without_flags}
use Rattle.shapers_buffer.specs.Syllables.{syllables}
use Rattle.shapers_clusters.specs.Flags.{seen}
use Rattle.shapers_clusters.specs.Steps.{FitSteps, FitsStep, Step, after_steps}
use Rattle.shapers_clusters.proofs.Proved.{along_holds, steps_hold}
use Rattle.shapers_syllabic.specs.Borders.{MeetAtBorder, SameButSerials, unnumbered}
use Rattle.shapers_syllabic.specs.Circles.{circled}
use Rattle.shapers_syllabic.specs.Reordering.{PauseReordered, carried, text_steps}
use Rattle.shapers_syllabic.specs.ReorderingLaws.{ReadsNoSerials, ReorderLaws, paused_carried, paused_order}
use Rattle.shapers_syllabic.specs.declared.ot_shaper_syllabic.circles.DottedCircles.{DottedCircles}
use Rattle.shapers_syllabic.proofs.Borders.{bytes, syllables-append, syllables-mapped, syllables-viewed}
use Rattle.shapers_syllabic.proofs.CircleLaws.{joined-syllables}
use Rattle.shapers_syllabic.proofs.ReorderingLaws.{each_piece, sum-syllables, text_steps-long}
use Rattle.shapers_syllabic.proofs.ReorderingWalk.{length-meaning, pieces_of}
use Rattle.shapers_syllabic.proofs.Serials.{same-circled, serials_dont_count}
use Rattle.rustybuzz_shapers.specs.Pauses.{Reordered, Reordering}
use Rattle.shapers_break_laws.specs.ChainBreaks.{LeavesSideBySide}
use Rattle.shapers_break_laws.specs.IndicChain.{carrying, reordered_text}
use Rattle.shapers_break_laws.specs.KeptTextBreaks.{SyllablesApart}
use Rattle.shapers_break_laws.proofs.CircledBorders.{OpenedBorder, length-paused, opened_piece, syllables-circled}
use Rattle.shapers_break_laws.proofs.KeptTextBreaks.{apart_pieces, broken_there}
use Rattle.shapers_indic_final.proofs.FinalText.{kept_byte}

-- nothing in between leaves results side by side
pub nothing_between : (gs : Glyphs) → LeavesSideBySide (λ gs. gs) gs
nothing_between gs = record {
  halves = λ front back text border apart. record {
    before = front;
    behind = back;
    text = text;
    border = border;
    apart = apart;
    first = refl;
    second = refl;
  };
  serials = λ xs ys same. same;
}

-- glyphs are what they show and what they carry along
abbrev pub combined : Glyphs → Glyphs → Glyphs
combined os cs = map (λ glyph. carrying glyph.0 glyph.1) (zip os cs)

flags_back : (m : ℕ) → without_flags m + m % 8 ≡ m
flags_back m = omega arith

pub seen_whole : (gs : Glyphs) → combined (order_view gs) (map carried gs) ≡ gs
seen_whole [] = refl
seen_whole (g ∷ gs) = ap (λ (m : ℕ). record g { mask = m } ∷ combined (order_view gs) (map carried gs))
    (flags_back g.mask) ∙ ap (λ l. g ∷ l) (seen_whole gs)

combined-unnumbered : (os cs : Glyphs) → map unnumbered (combined os cs)
    ≡ combined (map unnumbered os) (map unnumbered cs)
combined-unnumbered [] cs = refl
combined-unnumbered (o ∷ os) [] = refl
combined-unnumbered (o ∷ os) (c ∷ cs) = ap (λ l. unnumbered (carrying o c) ∷ l) (combined-unnumbered os cs)

bytes-combined : (os cs : Glyphs) → length os ≡ length cs → bytes (combined os cs) ≡ bytes os
bytes-combined [] cs same = refl
bytes-combined (o ∷ os) [] same = absurd (omega (arith, same))
bytes-combined (o ∷ os) (c ∷ cs) same = ap (λ l. o.syllable ∷ l) (bytes-combined os cs (omega (arith, same)))

-- how long pieces are
abbrev pub lens : List Glyphs → List ℕ
lens pieces = map (λ (q : Glyphs). length q) pieces

pub lens_kept : (f : Glyphs → Glyphs) → ((q : Glyphs) → length (f q) ≡ length q) → (pieces : List Glyphs)
    → lens (map f pieces) ≡ lens pieces
lens_kept f same [] = refl
lens_kept f same (q ∷ qs) = ap (λ n. n ∷ lens (map f qs)) (same q) ∙ ap (λ ns. length q ∷ ns) (lens_kept f same qs)

lens_viewed : (f : Glyph → Glyph) → ((g : Glyph) → (f g).syllable ≡ g.syllable)
    → (gs : Glyphs) → lens (syllables (map f gs)) ≡ lens (syllables gs)
lens_viewed f keeps gs = ap lens (syllables-viewed f keeps gs) ∙ lens_kept (map f) (λ q. length-map q f) (syllables gs)

-- bytes alone say where syllables end
abbrev of_byte : ℕ → Glyph
of_byte byte = record default_glyph { syllable = byte }

of_bytes : (gs : Glyphs) → map (λ (g : Glyph). of_byte g.syllable) gs ≡ map of_byte (bytes gs)
of_bytes [] = refl
of_bytes (g ∷ gs) = ap (λ l. of_byte g.syllable ∷ l) (of_bytes gs)

lens_by_bytes : (xs ys : Glyphs) → bytes xs ≡ bytes ys → lens (syllables xs) ≡ lens (syllables ys)
lens_by_bytes xs ys same =
    let f : Glyph → Glyph = λ g. of_byte g.syllable in
    sym (lens_viewed f (λ g. refl) xs)
    ∙ ap (λ gs. lens (syllables gs)) (of_bytes xs ∙ ap (map of_byte) same ∙ sym (of_bytes ys))
    ∙ lens_viewed f (λ g. refl) ys

joined_long : (ps qs : List Glyphs) → lens ps ≡ lens qs → (k : ℕ)
    → length (flat_map (λ q. q) (take k ps)) ≡ length (flat_map (λ q. q) (take k qs))
joined_long ps qs same zero = refl
joined_long [] [] same (suc k) = refl
joined_long [] (q ∷ qs) same (suc k) = absurd (omega (arith, ap length same))
joined_long (p ∷ ps) [] same (suc k) = absurd (omega (arith, ap length same))
joined_long (p ∷ ps) (q ∷ qs) same (suc k) =
    length-append p (flat_map (λ q. q) (take k ps))
    ∙ omega (arith, ap (λ l. get_or l 0 0) same, joined_long ps qs (ap (drop 1) same) k)
    ∙ sym (length-append q (flat_map (λ q. q) (take k qs)))

-- pieces as long as others, whose texts look the same
pub pieces_by_lens : (view : Glyph → Glyph) (ps qs : List Glyphs) → lens ps ≡ lens qs
    → map view (flat_map (λ q. q) ps) ≡ map view (flat_map (λ q. q) qs) → map (map view) ps ≡ map (map view) qs
pieces_by_lens view [] [] long same = refl
pieces_by_lens view [] (q ∷ qs) long same = absurd (omega (arith, ap length long))
pieces_by_lens view (p ∷ ps) [] long same = absurd (omega (arith, ap length long))
pieces_by_lens view (p ∷ ps) (q ∷ qs) long same =
    let n = length p in
    let rest = map view (flat_map (λ q. q) ps) in
    let more = map view (flat_map (λ q. q) qs) in
    let first : n ≡ length q = ap (λ l. get_or l 0 0) long in
    let pn : length (map view p) ≡ n = length-map p view in
    let qn : length (map view q) ≡ n = length-map q view ∙ sym first in
    let all : map view p ++ rest ≡ map view q ++ more = sym (map-append view p (flat_map (λ q. q) ps))
    ∙ same ∙ map-append view q (flat_map (λ q. q) qs) in
    let a : map view p ≡ map view q = sym (take_at (map view p) rest n pn) ∙ ap (take n) all
    ∙ take_at (map view q) more n qn in
    let b : rest ≡ more = sym (drop_at (map view p) rest n pn) ∙ ap (drop n) all
    ∙ drop_at (map view q) more n qn in
    ap (λ x. x ∷ map (map view) ps) a ∙ ap (λ l. map view q ∷ l) (pieces_by_lens view ps qs (ap (drop 1) long) b)

same_by_lens : (xs ys : Glyphs) → lens (syllables xs) ≡ lens (syllables ys) → map unnumbered xs ≡ map unnumbered ys
    → SameButSerials xs ys
same_by_lens xs ys long same = pieces_by_lens unnumbered (syllables xs) (syllables ys) long
    (ap (map unnumbered) (joined-syllables xs) ∙ same ∙ sym (ap (map unnumbered) (joined-syllables ys)))

lens_same : (xs ys : Glyphs) → SameButSerials xs ys → lens (syllables xs) ≡ lens (syllables ys)
lens_same xs ys same =
    let told : (gs : Glyphs) → lens (map (map unnumbered) (syllables gs)) ≡ lens (syllables gs) =
    λ gs. lens_kept (map unnumbered) (λ q. length-map q unnumbered) (syllables gs) in
    sym (told xs) ∙ ap lens same ∙ told ys

-- a reordering keeps the byte of a syllable
bytes-seen : (gs : Glyphs) → bytes (seen carried gs) ≡ bytes gs
bytes-seen [] = refl
bytes-seen (g ∷ gs) = ap (λ bs. g.syllable ∷ bs) (bytes-seen gs)

all_of : (byte : ℕ) (gs : Glyphs) → All (λ b. b ≡ byte) (bytes gs) → All (λ g. g.syllable ≡ byte) gs
all_of byte [] h = All-nil (λ (g : Glyph). g.syllable ≡ byte)
all_of byte (g ∷ gs) h =
    let P : ℕ → Type 0 = λ b. b ≡ byte in
    All-cons (λ (x : Glyph). x.syllable ≡ byte) g gs (All-head P g.syllable (bytes gs) h)
    (all_of byte gs (All-tail P g.syllable (bytes gs) h))

-- so its syllables stay as long as they were, with their circles
lens_ordered : (meaning : Glyphs → Glyphs) (steps : Glyphs → List Step) → ReorderLaws meaning steps
    → (circles : Option DottedCircles) (gs : Glyphs) → lens (syllables (paused_order circles meaning gs))
    ≡ lens (syllables (circled circles gs))
lens_ordered meaning steps laws circles gs =
    let xs = circled circles gs in
    ap lens (syllables-mapped meaning (kept_byte meaning steps laws) (order_view xs))
    ∙ lens_kept meaning (length-meaning meaning steps laws) (syllables (order_view xs))
    ∙ lens_viewed plain (λ g. refl) xs

pub lens_after : (meaning : Glyphs → Glyphs) (steps : Glyphs → List Step) → ReorderLaws meaning steps
    → (circles : Option DottedCircles) (old new : Buffer) → PauseReordered circles meaning steps old new
    → lens (syllables new.glyphs) ≡ lens (syllables (circled circles old.glyphs))
lens_after meaning steps laws circles old new done = sym (lens_viewed plain (λ g. refl) new.glyphs)
    ∙ ap (λ gs. lens (syllables gs)) done.order ∙ lens_ordered meaning steps laws circles old.glyphs

-- A border of syllables after a reordering is one before it.
pub border_before : (meaning : Glyphs → Glyphs) (steps : Glyphs → List Step) → ReorderLaws meaning steps
    → (circles : Option DottedCircles) (old new : Buffer) → PauseReordered circles meaning steps old new
    → (front back : Glyphs) → new.glyphs ≡ front ++ back → MeetAtBorder front back
    → OpenedBorder circles old.glyphs (length front)
border_before meaning steps laws circles old new done front back text border =
    let id : Glyphs → Glyphs = λ q. q in
    let F = opened_piece circles in
    let pieces = syllables old.glyphs in
    let after = syllables new.glyphs in
    let k = length (syllables front) in
    let long : lens after ≡ lens (map F pieces) = lens_after meaning steps laws circles old new done
    ∙ ap lens (syllables-circled circles old.glyphs) in
    let parts : after ≡ syllables front ++ syllables back = ap syllables text ∙ syllables-append front back border in
    let taken : take k after ≡ syllables front = ap (take k) parts
    ∙ take_at (syllables front) (syllables back) k refl in
    let size : Glyphs → ℕ = λ q. length q in
    record {
      count = k;
      within = omega (
        arith,
        ap length long,
        length-map after size,
        length-map (map F pieces) size,
        length-map pieces F,
        ap length parts,
        length-append (syllables front) (syllables back),
      );
      place = ap length (sym (flat_map-map id F (take k pieces)) ∙ ap (flat_map id) (sym (take-map F k pieces)))
          ∙ joined_long (map F pieces) after (sym long) k
          ∙ ap (λ ps. length (flat_map id ps)) taken
          ∙ ap length (joined-syllables front);
    }

-- the steps of a text with its circles
pub pause_fits : (meaning : Glyphs → Glyphs) (steps : Glyphs → List Step) → ReorderLaws meaning steps
    → (circles : Option DottedCircles) (gs : Glyphs)
    → FitSteps (length (circled circles gs)) (text_steps steps (order_view (circled circles gs)))
pause_fits meaning steps laws circles gs =
    let zs = circled circles gs in
    let xs = order_view zs in
    let ps = pieces_of steps (syllables xs) in
    let sum : sum_by (λ piece. piece.0) ps ≤ length zs = omega (arith, sum-syllables steps xs, length-map zs plain) in
    let along = along_holds MonotoneGraphemes ps zs sum (each_piece FitsStep steps laws.fits (syllables xs)) in
    subst (FitSteps (length zs)) (sym (text_steps-long steps zs)) along.fit

-- as many glyphs are carried along as are shown
pub long_carried : (meaning : Glyphs → Glyphs) (steps : Glyphs → List Step) → ReorderLaws meaning steps
    → (circles : Option DottedCircles) (level : BufferClusterLevel) (gs : Glyphs)
    → length (paused_carried circles steps level gs) ≡ length (paused_order circles meaning gs)
long_carried meaning steps laws circles level gs =
    let zs = circled circles gs in
    let sts = text_steps steps (order_view zs) in
    length-map (after_steps level sts zs) carried
    ∙ (steps_hold level sts zs (pause_fits meaning steps laws circles gs)).same_length
    ∙ sym (length-paused meaning steps laws circles gs)

-- texts that are the same but for serials become such
pub text_same : (r : Reordering) → ReorderLaws r.order r.steps → ReadsNoSerials r.order r.steps
    → (level : BufferClusterLevel) (xs ys : Glyphs) → SameButSerials xs ys
    → SameButSerials (reordered_text r level xs) (reordered_text r level ys)
text_same r laws reads level xs ys same =
    let O = paused_order r.circles r.order in
    let C = paused_carried r.circles r.steps level in
    let law = serials_dont_count r.circles r.order r.steps level xs ys reads same in
    let ends : (gs : Glyphs) → lens (syllables (combined (O gs) (C gs))) ≡ lens (syllables (circled r.circles gs)) =
    λ gs. lens_by_bytes (combined (O gs) (C gs)) (O gs)
    (bytes-combined (O gs) (C gs) (sym (long_carried r.order r.steps laws r.circles level gs)))
    ∙ lens_ordered r.order r.steps laws r.circles gs in
    same_by_lens (combined (O xs) (C xs)) (combined (O ys) (C ys))
    (ends xs ∙ lens_same (circled r.circles xs) (circled r.circles ys) (same-circled r.circles xs ys same) ∙ sym (ends ys))
    (combined-unnumbered (O xs) (C xs) ∙ ap (λ os. combined os (map unnumbered (C xs))) law.order
    ∙ ap (combined (map unnumbered (O ys))) law.moved ∙ sym (combined-unnumbered (O ys) (C ys)))

-- the glyphs of the pause
pub text_is : (r : Reordering) (old new : Buffer) → Reordered r old new
    → new.glyphs ≡ reordered_text r old.level old.glyphs
text_is r old new done = sym (seen_whole new.glyphs) ∙ ap (λ os. combined os (map carried new.glyphs)) done.order
    ∙ ap (combined (paused_order r.circles r.order old.glyphs)) done.moved

pub reordering_side_by_side : (r : Reordering) → ReorderLaws r.order r.steps → ReadsNoSerials r.order r.steps
    → (old new : Buffer) → Reordered r old new → SyllablesApart old.glyphs
    → LeavesSideBySide (reordered_text r old.level) old.glyphs
reordering_side_by_side r laws reads old new done apart =
    let level = old.level in
    let O = paused_order r.circles r.order in
    let C = paused_carried r.circles r.steps level in
    record {
      halves = λ front back is border none.
          let text : new.glyphs ≡ front ++ back = text_is r old new done ∙ is in
          let at = border_before r.order r.steps laws r.circles old new done front back text border in
          let b = broken_there r.order r.steps laws r.circles old new done (length front) at
          (apart_pieces old.glyphs apart at.count) in
          let n = length front in
          let os : order_view front ++ order_view back ≡ O b.before ++ O b.behind = sym (map-append plain front back)
          ∙ ap order_view (sym text) ∙ b.halves.order in
          let cs : map carried front ++ map carried back ≡ C b.before ++ C b.behind =
          sym (map-append carried front back) ∙ ap (map carried) (sym text) ∙ b.halves.moved b.apart in
          let on = length-map front plain in
          let cn = length-map front carried in
          let long : length (C b.before) ≡ n = long_carried r.order r.steps laws r.circles level b.before ∙ b.place in
          let fo : O b.before ≡ order_view front = sym (take_at (O b.before) (O b.behind) n b.place)
          ∙ ap (take n) (sym os) ∙ take_at (order_view front) (order_view back) n on in
          let bo : O b.behind ≡ order_view back = sym (drop_at (O b.before) (O b.behind) n b.place)
          ∙ ap (drop n) (sym os) ∙ drop_at (order_view front) (order_view back) n on in
          let fc : C b.before ≡ map carried front = sym (take_at (C b.before) (C b.behind) n long)
          ∙ ap (take n) (sym cs) ∙ take_at (map carried front) (map carried back) n cn in
          let bc : C b.behind ≡ map carried back = sym (drop_at (C b.before) (C b.behind) n long)
          ∙ ap (drop n) (sym cs) ∙ drop_at (map carried front) (map carried back) n cn in
          record {
            before = b.before;
            behind = b.behind;
            text = b.text;
            border = b.border;
            apart = b.apart;
            first = ap (λ os. combined os (C b.before)) fo ∙ ap (combined (order_view front)) fc ∙ seen_whole front;
            second = ap (λ os. combined os (C b.behind)) bo ∙ ap (combined (order_view back)) bc ∙ seen_whole back;
          };
      serials = text_same r laws reads level;
    }
