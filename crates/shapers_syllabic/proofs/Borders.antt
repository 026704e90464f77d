-- Borders of syllables: where the syllables of a text are those of its halves; pieces that are syllables.
use Rattle.std.proofs.Common.{ℕ, suc, ◌-◌, ◌<◌, ◌≡◌, ◌≢◌, ◌==◌, if◌then◌else◌, Bool, true, false, List, [], ◌∷◌, ◌++◌, map, length, slice_index, refl, sym, ◌∙◌, subst, arith, length-append}
use Rattle.std.specs.Prelude.{All}
use Rattle.std.specs.List.{AllByRecursion, flat_map}
use Rattle.std.proofs.lemmas.List.{append-nil, get_or-append_right, get_or-map, length-map, map-append}
use Rattle.std.proofs.lemmas.List.Elements.{All-get_or, All-head, All-tail}
use Rattle.std.proofs.lemmas.List.Folds.{flat_map-map}
use Rattle.shapers_buffer.specs.Glyphs.{Glyph, Glyphs}
use Rattle.shapers_buffer.specs.Glyph.{default_glyph, order_view}
use Rattle.shapers_buffer.specs.Syllables.{syllables, with_in_front}
use Rattle.shapers_syllabic.specs.Borders.{MeetAtBorder}

-- the syllable bytes of glyphs, the first and the last
abbrev pub bytes : Glyphs → List ℕ
bytes gs = map (λ g. g.syllable) gs

abbrev pub first_byte : Glyphs → ℕ
first_byte gs = slice_index (bytes gs) 0

abbrev pub last_byte : Glyphs → ℕ
last_byte gs = slice_index (bytes gs) (length gs - 1)

differ : (a b : ℕ) → a ≢ b → (b == a) ≡ false
differ = grind arith

one_before : (g : Glyph) (hs : Glyphs) → MeetAtBorder (g ∷ []) hs
    → with_in_front g (syllables hs) ≡ (g ∷ []) ∷ syllables hs
one_before g [] border = refl
one_before g (h ∷ hs) border = search (arith, differ)

-- the syllables of a text cut at a border are those of the halves
pub syllables-append : (gs hs : Glyphs) → MeetAtBorder gs hs → syllables (gs ++ hs) ≡ syllables gs ++ syllables hs
syllables-append [] hs border = refl
syllables-append (g ∷ []) hs border = one_before g hs border
syllables-append (g ∷ (h ∷ gs)) hs border =
    let i : suc (suc (length gs)) - 1 ≡ suc (suc (length gs) - 1) = omega arith in
    let inner : MeetAtBorder (h ∷ gs) hs = λ some more. subst (λ k. slice_index (bytes (g ∷ (h ∷ gs))) k ≢ first_byte
    hs) i (border (omega arith) more) in
    search (arith, syllables-append (h ∷ gs) hs inner)

-- texts with the same first and last byte meet others at the same borders
pub record SameEnds (xs gs : Glyphs) : Type 0 where
  pub some : 0 < length xs → 0 < length gs
  pub first : first_byte xs ≡ first_byte gs
  pub last : last_byte xs ≡ last_byte gs

pub border_by : (xs ys gs hs : Glyphs) → SameEnds xs gs → SameEnds ys hs → MeetAtBorder gs hs → MeetAtBorder xs ys
border_by xs ys gs hs a b border some more same = border (a.some some) (b.some more) (sym a.last ∙ same ∙ b.first)

bytes-view : (gs : Glyphs) → bytes (order_view gs) ≡ bytes gs
bytes-view [] = refl
bytes-view (g ∷ gs) = cc (bytes-view gs)

pub border-view : (gs hs : Glyphs) → MeetAtBorder gs hs → MeetAtBorder (order_view gs) (order_view hs)
border-view = search (arith, bytes-view, length-map)

-- the ends of a text of pieces
first-front : (xs ys : Glyphs) → 0 < length xs → first_byte (xs ++ ys) ≡ first_byte xs
first-front [] ys h = absurd (omega arith)
first-front (x ∷ xs) ys h = refl

pub last-behind : (xs ys : Glyphs) → 0 < length ys → last_byte (xs ++ ys) ≡ last_byte ys
last-behind xs ys =
    let n = length-map xs (λ g. g.syllable) in
    let both = length-append xs ys in
    search (arith, map-append, get_or-append_right)

-- a piece that becomes another of the same ends, neither empty
record KeepsEnds (f : Glyphs → Glyphs) (piece : Glyphs) : Type 0 where
  some : 0 < length piece
  made : 0 < length (f piece)
  ends : SameEnds (f piece) piece

ends-all : (f : Glyphs → Glyphs) (pieces : List Glyphs)
    → AllByRecursion (KeepsEnds f) pieces → SameEnds (flat_map f pieces) (flat_map (λ piece. piece) pieces)
ends-all f [] h = search arith
ends-all f (p ∷ []) h = search append-nil
ends-all f (p ∷ (q ∷ qs)) h =
    let xs = flat_map f (q ∷ qs) in
    let ys = flat_map (λ piece. piece) (q ∷ qs) in
    let one = h.0 in
    search (arith, length-append p ys, first-front (f p) xs one.made, first-front p ys one.some, last-behind (f p) xs (omega (arith, length-append (f q) (flat_map f qs))), (ends-all f (q ∷ qs) h.1).last, last-behind p ys (omega (arith, length-append q (flat_map (λ piece. piece) qs))))

-- a syllable has one byte
pub record OfByte (byte : ℕ) (gs : Glyphs) : Type 0 where
  pub some : 0 < length gs
  pub all : All (λ g. g.syllable ≡ byte) gs

abbrev pub IsUniform : Glyphs → Type 0
IsUniform gs = (byte : ℕ) × OfByte byte gs

uniform_one : (g : Glyph) → IsUniform (g ∷ [])
uniform_one g = (g.syllable, search arith)

uniform_longer : (g h : Glyph) (piece : Glyphs) → (h.syllable == g.syllable) ≡ true
    → IsUniform (h ∷ piece) → IsUniform (g ∷ (h ∷ piece))
uniform_longer = search arith

byte_at : (byte : ℕ) (gs : Glyphs) → OfByte byte gs → (i : ℕ) → i < length gs → slice_index (bytes gs) i ≡ byte
byte_at byte gs u i h =
    get_or-map (λ (g : Glyph). g.syllable) gs i default_glyph 0 h ∙ All-get_or
    (λ g. g.syllable ≡ byte) gs i default_glyph h u.all

ends_of_byte : (byte : ℕ) (xs gs : Glyphs) → OfByte byte xs → OfByte byte gs → SameEnds xs gs
ends_of_byte byte xs gs u v = search (byte_at byte xs u 0 u.some, byte_at byte gs v 0 v.some, byte_at byte xs u (length xs - 1) (omega arith), byte_at byte gs v (length gs - 1) (omega arith))

-- pieces that are the syllables of what they make up: each of one byte, and neighbours of different ones
abbrev pub Cut : List Glyphs → Type 0
Cut [] = Unit {0}
Cut (piece ∷ pieces) = IsUniform piece × MeetAtBorder piece (flat_map (λ p. p) pieces) × Cut pieces

cut_more : (g h : Glyph) (piece : Glyphs) (pieces : List Glyphs) (same : Bool)
    → (h.syllable == g.syllable) ≡ same → Cut ((h ∷ piece) ∷ pieces)
    → Cut (if same then (g ∷ (h ∷ piece)) ∷ pieces else (g ∷ []) ∷ ((h ∷ piece) ∷ pieces))
cut_more g h piece pieces true test u =
    let i : suc (suc (length piece)) - 1 ≡ suc (suc (length piece) - 1) = omega arith in
    let longer : MeetAtBorder (g ∷ (h ∷ piece)) (flat_map (λ p. p) pieces) =
    λ some more. subst (λ k. slice_index (bytes (g ∷ (h ∷ piece))) k ≢
    (first_byte (flat_map (λ p. p) pieces))) (sym i) (u.1 (omega arith) more) in
    (uniform_longer g h piece test u.0, longer, u.2)
cut_more g h piece pieces false test u = (uniform_one g, (λ some more. search arith), u)

cut_opening : (g : Glyph) (pieces : List Glyphs) → Cut pieces → Cut (with_in_front g pieces)
cut_opening g [] u = (uniform_one g, (λ some more same. absurd (omega arith)), tt)
cut_opening g ([] ∷ pieces) u = absurd (omega arith)
cut_opening g ((h ∷ piece) ∷ pieces) u = cut_more g h piece pieces (h.syllable == g.syllable) refl u

pub syllables_cut : (gs : Glyphs) → Cut (syllables gs)
syllables_cut [] = tt
syllables_cut (g ∷ gs) = cut_opening g (syllables gs) (syllables_cut gs)

alike : (a b byte : ℕ) → a ≡ byte → b ≡ byte → (b == a) ≡ true
alike = grind arith

pub one_run : (byte : ℕ) (gs : Glyphs) → OfByte byte gs → syllables gs ≡ gs ∷ []
one_run byte [] u = search arith
one_run byte (g ∷ []) u = refl
one_run byte (g ∷ (h ∷ gs)) u =
    let rest = All-tail (λ x. x.syllable ≡ byte) g (h ∷ gs) u.all in
    search (arith, All-head, one_run byte (h ∷ gs) (record { some = omega arith; all = rest }))

pub cut_is : (pieces : List Glyphs) → Cut pieces → syllables (flat_map (λ p. p) pieces) ≡ pieces
cut_is [] u = refl
cut_is (piece ∷ pieces) u =
    cc (syllables-append piece (flat_map (λ p. p) pieces) u.1, one_run u.0.0 piece u.0.1, cut_is pieces u.2)

-- pieces that keep their bytes keep their ends, and stay syllables
keep_ends : (f : Glyphs → Glyphs) → ((byte : ℕ) (gs : Glyphs) → OfByte byte gs → OfByte byte (f gs))
    → (pieces : List Glyphs) → Cut pieces → AllByRecursion (KeepsEnds f) pieces
keep_ends f keeps [] u = tt
keep_ends f keeps (piece ∷ pieces) u =
    let made = keeps u.0.0 piece u.0.1 in
    search (ends_of_byte u.0.0 (f piece) piece made u.0.1, keep_ends f keeps pieces u.2)

pub ends-kept : (f : Glyphs → Glyphs) → ((byte : ℕ) (gs : Glyphs) → OfByte byte gs → OfByte byte (f gs))
    → (pieces : List Glyphs) → Cut pieces → SameEnds (flat_map f pieces) (flat_map (λ p. p) pieces)
ends-kept = search (ends-all, keep_ends)

pub cut-mapped : (f : Glyphs → Glyphs) → ((byte : ℕ) (gs : Glyphs) → OfByte byte gs → OfByte byte (f gs))
    → (pieces : List Glyphs) → Cut pieces → Cut (map f pieces)
cut-mapped f keeps [] u = tt
cut-mapped f keeps (piece ∷ pieces) u =
    let made = keeps u.0.0 piece u.0.1 in
    let rest = flat_map (λ p. p) pieces in
    let behind : SameEnds (flat_map (λ p. p) (map f pieces)) rest =
    subst (λ xs. SameEnds xs rest) (sym (flat_map-map (λ p. p) f pieces)) (ends-kept f keeps pieces u.2) in (
      (u.0.0, made),
      border_by (f piece) (flat_map (λ p. p) (map f pieces)) piece rest
          (ends_of_byte u.0.0 (f piece) piece made u.0.1) behind u.1,
      cut-mapped f keeps pieces u.2,
    )

pub syllables-mapped : (f : Glyphs → Glyphs) → ((byte : ℕ) (gs : Glyphs) → OfByte byte gs → OfByte byte (f gs))
    → (gs : Glyphs) → syllables (flat_map f (syllables gs)) ≡ map f (syllables gs)
syllables-mapped f keeps gs = cc (
  flat_map-map (λ p. p) f (syllables gs),
  cut_is (map f (syllables gs)) (cut-mapped f keeps (syllables gs) (syllables_cut gs)),
)

-- pieces cut between two of them meet at a border
pub cut_border : (ps qs : List Glyphs) → Cut (ps ++ qs) → MeetAtBorder (flat_map (λ p. p) ps) (flat_map (λ p. p) qs)
cut_border [] qs u = search arith
cut_border (p ∷ []) qs u = search (arith, append-nil)
cut_border (p ∷ (q ∷ ps)) qs u =
    let long : 0 < length (flat_map (λ p. p) (q ∷ ps)) = search (arith, length-append) in
    λ some more same. cut_border (q ∷ ps) qs u.2 long more (search (arith, last-behind))

-- a view that keeps the bytes keeps the syllables
opening-viewed : (f : Glyph → Glyph) → ((g : Glyph) → (f g).syllable ≡ g.syllable)
    → (g : Glyph) (pieces : List Glyphs) → with_in_front (f g) (map (map f) pieces)
    ≡ map (map f) (with_in_front g pieces)
opening-viewed f keeps g ((h ∷ piece) ∷ pieces) = search arith
opening-viewed f keeps g _ = refl

pub syllables-viewed : (f : Glyph → Glyph) → ((g : Glyph) → (f g).syllable ≡ g.syllable)
    → (gs : Glyphs) → syllables (map f gs) ≡ map (map f) (syllables gs)
syllables-viewed f keeps [] = refl
syllables-viewed f keeps (g ∷ gs) = search (arith, syllables-viewed f keeps gs)
