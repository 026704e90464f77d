-- What shows of the opening of syllables through views, and what the opening reads.
use Rattle.std.proofs.Common.{ℕ, ◌+◌, ◌-◌, ◌%◌, ◌<◌, ◌≡◌, Bool, true, false, List, [], ◌∷◌, ◌++◌, map, length, take, drop, refl, ap, arith, Option, None, Some, take-append-drop}
use Rattle.std.proofs.lemmas.Nat.{or_mod}
use Rattle.std.proofs.lemmas.List.{drop-map, map-append, take-map}
use Rattle.shapers_buffer.specs.declared.buffer.category.hb_unicode_general_category_t.{hb_unicode_general_category_t}
use Rattle.shapers_buffer.specs.Glyphs.{Glyph, Glyphs}
use Rattle.shapers_buffer.specs.Clusters.{stretch_of}
use Rattle.shapers_buffer.specs.Glyph.{order_view, plain}
use Rattle.shapers_buffer.specs.GlyphFlags.{flagged, unsafe_inside, with_bits, with_bits_off}
use Rattle.shapers_buffer.specs.Properties.{general_category}
use Rattle.shapers_clusters.proofs.FlagCalls.{map-unsafe_inside, plain-or, plain-with_bits}
use Rattle.shapers_indic_final.specs.FinalWordStart.{before_place, bound_at, bound_from, continues_word, is_bound, last_or, opened, with_init, word_goes_on}
use Rattle.shapers_syllabic.specs.Reordering.{carried}
use Rattle.shapers_syllabic.proofs.HiddenCuts.{clusters-carried}

-- a view that hides bits of masks
abbrev pub HidesBits : {X : Type 0} → (Glyph → X) → ℕ → Type 0
HidesBits f bits = (g : Glyph) → f (with_bits bits g) ≡ f g

-- the mask of init
pub map-init : {X : Type 0} (f : Glyph → X) (bits : ℕ) → HidesBits f bits → (before : Option Glyph)
    (gs : Glyphs) → map f (with_init bits before gs) ≡ map f gs
map-init f bits hides before [] = refl
map-init f bits hides before (g ∷ gs) = search arith

pub init-plain : (bits : ℕ) → bits % 8 ≡ 0 → (before : Option Glyph) (gs : Glyphs)
    → order_view (with_init bits before gs) ≡ with_init bits before (order_view gs)
init-plain bits off before [] = refl
init-plain bits off before (g ∷ gs) = search (arith, plain-or)

pub length-init : (bits : ℕ) (before : Option Glyph) (gs : Glyphs) → length (with_init bits before gs) ≡ length gs
length-init bits before [] = refl
length-init bits before (g ∷ gs) = search arith

-- unsafe breaks
pub map-bound : {X : Type 0} (f : Glyph → X) → HidesBits f 3 → (s : ℕ) (b : Bool) (gs : Glyphs)
    → map f (bound_at s b gs) ≡ map f gs
map-bound f hides s true gs = map-unsafe_inside f hides (s - 1) (s + 1) gs (omega arith)
map-bound f hides s false gs = refl

pub map-bound_from : {X : Type 0} (f : Glyph → X) → HidesBits f 3 → (s : ℕ) (before : Option Glyph)
    (syls : List Glyphs) (gs : Glyphs) → map f (bound_from s before syls gs) ≡ map f gs
map-bound_from f hides s before [] gs = refl
map-bound_from f hides s before (syl ∷ syls) gs = search (map-bound, map-bound_from f hides (s + length syl) (last_or before syl) syls (bound_at s (is_bound before syl) gs))

pub bound-view : (s : ℕ) (b : Bool) (gs : Glyphs) → order_view (bound_at s b gs) ≡ order_view gs
bound-view = map-bound plain (λ g. plain-with_bits 3 g refl)

-- only the first glyph of a syllable is read
pub init-long : (bits : ℕ) (before : Option Glyph) (gs hs : Glyphs) → 0 < length gs
    → with_init bits before (gs ++ hs) ≡ with_init bits before gs ++ hs
init-long bits before [] hs some = absurd (omega arith)
init-long bits before (g ∷ gs) hs some = search arith

pub bound-long : (before : Option Glyph) (gs hs : Glyphs) → 0 < length gs
    → is_bound before (gs ++ hs) ≡ is_bound before gs
bound-long before [] hs some = absurd (omega arith)
bound-long before (g ∷ gs) hs some = refl

pub bound-plain : (before : Option Glyph) (gs : Glyphs) → is_bound before (order_view gs) ≡ is_bound before gs
bound-plain before [] = refl
bound-plain before (g ∷ gs) = refl

-- and of what stands before it, only whether a word goes on
pub init-word : (bits : ℕ) (a b : Option Glyph) (gs : Glyphs) → word_goes_on a ≡ word_goes_on b
    → with_init bits a gs ≡ with_init bits b gs
init-word bits a b [] same = refl
init-word bits a b (g ∷ gs) same = cc

pub bound-word : (a b : Option Glyph) (gs : Glyphs) → word_goes_on a ≡ word_goes_on b → is_bound a gs ≡ is_bound b gs
bound-word a b [] same = refl
bound-word a b (g ∷ gs) same = cc

-- which general categories tell
abbrev pub general : Glyph → hb_unicode_general_category_t
general g = general_category g.unicode_props

word-by : (a b : Option Glyph) (gs hs : Glyphs) → word_goes_on a ≡ word_goes_on b
    → map general gs ≡ map general hs → word_goes_on (last_or a gs) ≡ word_goes_on (last_or b hs)
word-by a b [] [] word same = word
word-by a b (g ∷ gs) (h ∷ hs) word same =
    word-by (Some g) (Some h) gs hs (ap continues_word (cc same)) (ap (drop 1) same)
word-by a b _ _ word same = absurd (cc same)

pub same_word : (s : ℕ) (gs hs : Glyphs) → map general gs ≡ map general hs
    → word_goes_on (before_place s gs) ≡ word_goes_on (before_place s hs)
same_word s gs hs same =
    word-by None None (take s gs) (take s hs) refl (cc (take-map general s gs, take-map general s hs))

pub general-view : (gs : Glyphs) → map general (order_view gs) ≡ map general gs
general-view [] = refl
general-view (g ∷ gs) = cc (general-view gs)

pub map-opened : {X : Type 0} (f : Glyph → X) (bits s : ℕ) → HidesBits f 3 → HidesBits f bits
    → (gs : Glyphs) → map f (opened bits s gs) ≡ map f gs
map-opened f bits s flags inits gs =
    let before = before_place s gs in
    let rest = drop s gs in
    cc (
      map-bound f flags s (is_bound before rest) (take s gs ++ with_init bits before rest),
      map-append f (take s gs) (with_init bits before rest),
      map-init f bits inits before rest,
      map-append f (take s gs) rest,
      take-append-drop s gs,
    )

-- an unsafe break through the view of what is carried along
carried-flagged_by : (m : ℕ) (gs : Glyphs) → map carried (map (with_bits_off 3 m) gs)
    ≡ map (with_bits_off 3 m) (map carried gs)
carried-flagged_by m [] = refl
carried-flagged_by m (g ∷ gs) = search (arith, or_mod g.mask 3 3, carried-flagged_by m gs)

carried-flagged : (gs : Glyphs) → map carried (flagged 3 gs) ≡ flagged 3 (map carried gs)
carried-flagged = search (carried-flagged_by, clusters-carried)

carried-unsafe : (s e : ℕ) (gs : Glyphs) → map carried (unsafe_inside s e gs) ≡ unsafe_inside s e (map carried gs)
carried-unsafe s e gs = cc (
  map-append carried (take s gs) (flagged 3 (stretch_of s e gs) ++ drop e gs),
  map-append carried (flagged 3 (stretch_of s e gs)) (drop e gs),
  carried-flagged (stretch_of s e gs),
  take-map carried s gs,
  drop-map carried s gs,
  take-map carried (e - s) (drop s gs),
  drop-map carried e gs,
)

pub carried-bound : (s : ℕ) (b : Bool) (xs ys : Glyphs) → map carried xs ≡ map carried ys
    → map carried (bound_at s b xs) ≡ map carried (bound_at s b ys)
carried-bound s true xs ys same = search (arith, carried-unsafe)
carried-bound s false xs ys same = same

pub carried-bound_from : (s : ℕ) (before : Option Glyph) (syls : List Glyphs)
    (xs ys : Glyphs) → map carried xs ≡ map carried ys
    → map carried (bound_from s before syls xs) ≡ map carried (bound_from s before syls ys)
carried-bound_from s before [] xs ys same = same
carried-bound_from s before (syl ∷ syls) xs ys same =
    let b = is_bound before syl in
    carried-bound_from (s + length syl) (last_or before syl) syls (bound_at s b xs) (bound_at s b ys)
    (carried-bound s b xs ys same)
