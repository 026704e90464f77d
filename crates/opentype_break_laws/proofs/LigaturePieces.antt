-- Ligatures of a font leave the pieces of a text in order side by side.
use Rattle.std.proofs.Common.{ℕ, suc, zero, ◌/◌, ◌%◌, bit_or, take, ◌<◌, ◌≤◌, ◌≡◌, ◌==◌, ◌&&◌, min, nat_lt, if◌then◌else◌, Bool, true, false, List, [], ◌∷◌, ◌++◌, length, map, drop, refl, sym, ap, subst, ◌∙◌, arith}
use Rattle.std.specs.List.{AllByRecursion}
use Rattle.std.proofs.lemmas.Bool.Decides.{nat_tests}
use Rattle.std.proofs.lemmas.List.{length-map, map-append}
use Rattle.shapers_buffer.specs.Buffer.{Buffer}
use Rattle.shapers_buffer.specs.Clusters.{merges, stretch_of, with_stretch}
use Rattle.shapers_buffer.specs.Glyph.{clusters, order_view, plain, without_flags}
use Rattle.shapers_buffer.specs.GlyphFlags.{unsafe_to_concat_in, with_bits}
use Rattle.shapers_buffer.proofs.ClusterLemmas.{three_parts}
use Rattle.std.specs.Int.Bits.{or_zero_r}
use Rattle.std.proofs.lemmas.Nat.{or_mod, or_shr}
use Rattle.shapers_buffer.specs.Glyphs.{Glyph, Glyphs}
use Rattle.shapers_buffer.specs.Properties.{component}
use Rattle.shapers_buffer.specs.Syllables.{in_syllable, syllables}
use Rattle.shapers_buffer.specs.declared.buffer.lig_props.LigProps.{LigProps}
use Rattle.shapers_clusters.specs.Breaks.{IsClear}
use Rattle.shapers_clusters.proofs.FlagCalls.{unsafe_to_concat_in-alone}
use Rattle.shapers_syllabic.specs.Borders.{unnumbered}
use Rattle.shapers_syllabic.proofs.Serials.{same_text}
use Rattle.shapers_break_laws.proofs.MaskReads.{mask_read}
use Rattle.shapers_plan.specs.declared.ot_map.lookups.StageLookup.{StageLookup}
use Rattle.shapers_editing.specs.PipelineBreaks.{AreAsIn, IsPiece, LookupLeaves, Numbering, SameButNumbers, ligatures, unlinked}
use Rattle.opentype_face.specs.Lookups.{lookup_in, type_in}
use Rattle.opentype_layout.specs.Looking.{unjoined}
use Rattle.opentype_layout.specs.declared.looking.Stretch.{Stretch}
use Rattle.opentype_gsub.specs.Looked.{lookup_looked, tried}
use Rattle.opentype_gsub.specs.Setting.{Setting, sights_of}
use Rattle.opentype_gsub.specs.Substituted.{applied, setting_for, substituted}
use Rattle.opentype_font.specs.Lookups.{substituted_by, use_for}
use Rattle.opentype_layout.specs.Text.{glyph_at}
use Rattle.opentype_break_laws.specs.OrderedTexts.{AreOrdered, HasNoComponents, PutsLigatures, PrecedesInOrder, TakesLigatures}
use Rattle.opentype_break_laws.proofs.LigatureFits.{FittingLigature}
use Rattle.opentype_break_laws.proofs.LigatureModel.{all_back, all_front, cut_model, emit_stays, model}
use Rattle.opentype_break_laws.proofs.LigatureViews.{AlikeTo, IsViewOf, ShowsNumbers, alike_long, flagless_shown, shown_glyph}
use Rattle.opentype_break_laws.proofs.LigatureWalk.{IsLigating, TriesUnseen, fits_are, fits_of, seen_in_parts, looks_anywhere, walk_as_model}
use Rattle.opentype_break_laws.proofs.LigatureBorders.{AreRising, HasByte, border_of, byte_kept, clear_of, clear_shown, clusters_shown, first_byte, model_all, model_rises, one_byte, one_piece, one_syllable, quiet, quiet_view}

-- ---- VIEWS: without flags and serials, without flags alone

pub bytes_shown : (lig : ℕ → ℕ) → ShowsNumbers lig → IsViewOf without_flags (λ b. b) lig
bytes_shown lig numbers = record {
  low = λ m. omega arith;
  off = λ m. refl;
  mask_again = λ m. omega arith;
  kind = λ b. refl;
  byte_again = λ b. refl;
  numbers = numbers;
}

abbrev bare : (ℕ → ℕ) → Glyph → Glyph
bare lig = shown_glyph without_flags (λ b. b % 16) lig

abbrev with_byte : (ℕ → ℕ) → Glyph → Glyph
with_byte lig = shown_glyph without_flags (λ b. b) lig

-- what a view shows of the numbers in a text
abbrev pub numbers_by : (ℕ → ℕ) → List LigProps → List ℕ
numbers_by lig ls = map (λ (l : LigProps). lig l.0) ls

abbrev first_of : List ℕ → ℕ
first_of [] = 0
first_of (n ∷ ns) = n

in_place : Glyph → ℕ → ℕ → Glyph
in_place x c l = record x { cluster = c; lig_props = record { 0 = l } }

abbrev viewed : Glyphs → Glyphs
viewed gs = map unnumbered (order_view (map unlinked gs))

bare_from : (lig : ℕ → ℕ) (gs hs : Glyphs) → viewed gs ≡ viewed hs → clusters (map unlinked gs) ≡ clusters (map unlinked hs)
    → numbers_by lig (ligatures gs) ≡ numbers_by lig (ligatures hs) → AlikeTo (bare lig) gs hs
unfolding in_place
bare_from lig [] [] same cs ns = refl
bare_from lig [] (h ∷ hs) same cs ns = absurd (omega (arith, ap length same))
bare_from lig (g ∷ gs) [] same cs ns = absurd (omega (arith, ap length same))
bare_from lig (g ∷ gs) (h ∷ hs) same cs ns =
    let first : unnumbered (plain (unlinked g)) ≡ unnumbered (plain (unlinked h)) = ap (λ l. glyph_at l 0) same in
    let cluster : g.cluster ≡ h.cluster = ap (λ (l : List ℕ). first_of l) cs in
    let number : lig g.lig_props.0 ≡ lig h.lig_props.0 = ap (λ (l : List ℕ). first_of l) ns in
    let one : bare lig g ≡ bare lig h = ap (λ x. in_place x g.cluster (lig g.lig_props.0)) first
    ∙ ap (λ c. in_place (unnumbered (plain (unlinked h))) c (lig g.lig_props.0)) cluster
    ∙ ap (in_place (unnumbered (plain (unlinked h))) h.cluster) number in
    ap (λ x. x ∷ map (bare lig) gs) one
    ∙ ap (λ l. bare lig h ∷ l) (bare_from lig gs hs (ap (drop 1) same) (ap (drop 1) cs) (ap (drop 1) ns))

pub bare_of : (lig : ℕ → ℕ) (gs hs : Glyphs) → SameButNumbers gs hs
    → numbers_by lig (ligatures gs) ≡ numbers_by lig (ligatures hs) → AlikeTo (bare lig) gs hs
bare_of lig gs hs same ns =
    bare_from lig gs hs (same_text (order_view (map unlinked gs)) (order_view (map unlinked hs)) same.0) same.1 ns

-- what it shows of a text tells that of its numbers
numbers_of : (lig : ℕ → ℕ) → ShowsNumbers lig → (gs : Glyphs)
    → numbers_by lig (ligatures (map (bare lig) gs)) ≡ numbers_by lig (ligatures gs)
numbers_of lig shows [] = refl
numbers_of lig shows (g ∷ gs) = ap (λ n. n ∷ numbers_by lig (ligatures (map (bare lig) gs))) (shows.again g.lig_props.0)
    ∙ ap (λ l. lig g.lig_props.0 ∷ l) (numbers_of lig shows gs)

numbers_alike : (lig : ℕ → ℕ) → ShowsNumbers lig → (gs hs : Glyphs) → AlikeTo (bare lig) gs hs
    → numbers_by lig (ligatures gs) ≡ numbers_by lig (ligatures hs)
numbers_alike lig shows gs hs e = sym (numbers_of lig shows gs) ∙ ap (λ l. numbers_by lig (ligatures l)) e ∙ numbers_of lig shows hs

no_cluster : Glyph → Glyph
no_cluster x = record x { cluster = 0; lig_props = record { 0 = x.lig_props.0 % 32 } }

with_number : Glyph → ℕ → Glyph
with_number x l = record x { lig_props = record { 0 = l } }

viewed_bare : (lig : ℕ → ℕ) → ShowsNumbers lig → (gs : Glyphs) → viewed gs ≡ map no_cluster (map (bare lig) gs)
unfolding no_cluster with_number
viewed_bare lig shows [] = refl
viewed_bare lig shows (g ∷ gs) =
    let first : unnumbered (plain (unlinked g)) ≡ no_cluster (bare lig g) =
    ap (with_number (unnumbered (plain (unlinked g)))) (sym (shows.low g.lig_props.0)) in
    ap (λ x. x ∷ viewed gs) first ∙ ap (λ l. no_cluster (bare lig g) ∷ l) (viewed_bare lig shows gs)

clusters_linked : (gs : Glyphs) → clusters (map unlinked gs) ≡ clusters gs
clusters_linked [] = refl
clusters_linked (g ∷ gs) = ap (λ l. g.cluster ∷ l) (clusters_linked gs)

byte_viewed : (x : ℕ) (gs : Glyphs) → HasByte x gs → HasByte x (order_view (map unlinked gs))
byte_viewed x [] all = tt
byte_viewed x (g ∷ gs) all = (all.0, byte_viewed x gs all.1)

byte_back : (x : ℕ) (gs : Glyphs) → HasByte x (order_view (map unlinked gs)) → HasByte x gs
byte_back x [] all = tt
byte_back x (g ∷ gs) all = (all.0, byte_back x gs all.1)

mapped_piece : (gs : Glyphs) → map (map unnumbered) (one_piece gs) ≡ one_piece (map unnumbered gs)
mapped_piece [] = refl
mapped_piece (g ∷ gs) = refl

-- texts of one byte each that look alike
pub same_of : (lig : ℕ → ℕ) → ShowsNumbers lig → (x y : ℕ) (gs hs : Glyphs) → HasByte x gs → HasByte y hs
    → AlikeTo (bare lig) gs hs → SameButNumbers gs hs
same_of lig shows x y gs hs one two e =
    let xs : Glyphs = order_view (map unlinked gs) in
    let ys : Glyphs = order_view (map unlinked hs) in
    let views : viewed gs ≡ viewed hs = viewed_bare lig shows gs ∙ ap (map no_cluster) e ∙ sym (viewed_bare lig shows hs) in (
      ap (map (map unnumbered)) (one_syllable x xs (byte_viewed x gs one)) ∙ mapped_piece xs ∙ ap one_piece views
          ∙ sym (ap (map (map unnumbered)) (one_syllable y ys (byte_viewed y hs two)) ∙ mapped_piece ys),
      clusters_linked gs ∙ clusters_shown without_flags (λ b. b % 16) lig gs hs e ∙ sym (clusters_linked hs),
    )

piece_few : (gs : Glyphs) → length (one_piece gs) ≤ 1
piece_few [] = omega arith
piece_few (g ∷ gs) = omega arith

-- what looks like a text of one byte is one
pub byte_of : (y : ℕ) (gs hs : Glyphs) → SameButNumbers gs hs → HasByte y hs
    → HasByte (first_byte (order_view (map unlinked gs))) gs
byte_of y gs hs same all =
    let xs : Glyphs = order_view (map unlinked gs) in
    let ys : Glyphs = order_view (map unlinked hs) in
    let many : length (syllables xs) ≡ length (syllables ys) = sym (length-map (syllables xs) (map unnumbered))
    ∙ ap length same.0 ∙ length-map (syllables ys) (map unnumbered) in
    let few : length (syllables ys) ≡ length (one_piece ys) = ap length (one_syllable y ys (byte_viewed y hs all)) in
    byte_back (first_byte xs) gs (one_byte xs (omega (arith, many, few, piece_few ys)))

-- in another syllable
with_syllable : Glyph → ℕ → Glyph
with_syllable g x = record g { syllable = x }

byte_alike : (lig : ℕ → ℕ) (x : ℕ) (gs hs : Glyphs) → HasByte x gs → AlikeTo (bare lig) gs hs
    → AlikeTo (with_byte lig) gs (map (in_syllable x) hs)
unfolding with_syllable
byte_alike lig x [] [] all e = refl
byte_alike lig x [] (h ∷ hs) all e = absurd (omega (arith, ap length e))
byte_alike lig x (g ∷ gs) [] all e = absurd (omega (arith, ap length e))
byte_alike lig x (g ∷ gs) (h ∷ hs) all e =
    let first : bare lig g ≡ bare lig h = ap (λ l. glyph_at l 0) e in
    let one : with_byte lig g ≡ with_byte lig (in_syllable x h) = ap (λ y. with_syllable y g.syllable) first
    ∙ ap (with_syllable (bare lig h)) all.0 in
    ap (λ y. y ∷ map (with_byte lig) gs) one ∙ ap (λ l. with_byte lig (in_syllable x h) ∷ l) (byte_alike lig x gs hs all.1 (ap (drop 1) e))

byte_shown : (mask lig : ℕ → ℕ) (x : ℕ) (gs hs : Glyphs) → AlikeTo (shown_glyph mask (λ b. b) lig) gs hs → HasByte x hs → HasByte x gs
byte_shown mask lig x [] hs e all = tt
byte_shown mask lig x (g ∷ gs) [] e all = absurd (omega (arith, ap length e))
byte_shown mask lig x (g ∷ gs) (h ∷ hs) e all =
    (ap (λ l. (glyph_at l 0).syllable) e ∙ all.0, byte_shown mask lig x gs hs (ap (drop 1) e) all.1)

before_in : (x : ℕ) (g : Glyph) (gs : Glyphs) → AllByRecursion (PrecedesInOrder g) gs
    → AllByRecursion (PrecedesInOrder (in_syllable x g)) (map (in_syllable x) gs)
before_in x g [] all = tt
before_in x g (h ∷ hs) all = (all.0, before_in x g hs all.1)

ordered_in : (x : ℕ) (gs : Glyphs) → AreOrdered gs → AreOrdered (map (in_syllable x) gs)
ordered_in x [] order = tt
ordered_in x (g ∷ gs) order = (before_in x g gs order.0, ordered_in x gs order.1)

free_in : (x : ℕ) (gs : Glyphs) → HasNoComponents gs → HasNoComponents (map (in_syllable x) gs)
free_in x [] none = tt
free_in x (g ∷ gs) none = (none.0, free_in x gs none.1)

all_in : (x : ℕ) (gs : Glyphs) → HasByte x (map (in_syllable x) gs)
all_in x [] = tt
all_in x (g ∷ gs) = (refl, all_in x gs)

bare_whole : (lig : ℕ → ℕ) → ShowsNumbers lig → (gs : Glyphs) → map (bare lig) (map (quiet_view lig) gs) ≡ map (bare lig) gs
bare_whole lig shows [] = refl
bare_whole lig shows (g ∷ gs) =
    let low : without_flags (quiet g.mask) ≡ without_flags g.mask = omega arith in
    let rest : Glyphs = map (bare lig) (map (quiet_view lig) gs) in
    ap (λ (l : ℕ). let r : Glyph = record (bare lig (quiet_view lig g)) { lig_props = record { 0 = l } } in r ∷ rest)
    (shows.again g.lig_props.0)
    ∙ ap (λ (m : ℕ). let r : Glyph = record (bare lig g) { mask = m } in r ∷ rest) low
    ∙ ap (λ l. bare lig g ∷ l) (bare_whole lig shows gs)

down : (lig : ℕ → ℕ) → ShowsNumbers lig → (gs hs : Glyphs) → AlikeTo (quiet_view lig) gs hs → AlikeTo (bare lig) gs hs
down lig shows gs hs e = sym (bare_whole lig shows gs) ∙ ap (map (bare lig)) e ∙ bare_whole lig shows hs

-- ---- HOW A LOOKUP IS TRIED

plain_seen : (byte lig : ℕ → ℕ) → Glyph → ℕ → Glyph
plain_seen byte lig x c = record x { cluster = c; syllable = byte x.syllable; lig_props = record { 0 = lig x.lig_props.0 } }

from_views : (byte lig : ℕ → ℕ) (gs hs : Glyphs) → order_view gs ≡ order_view hs → clusters gs ≡ clusters hs
    → AlikeTo (shown_glyph without_flags byte lig) gs hs
unfolding plain_seen
from_views byte lig [] [] same cs = refl
from_views byte lig [] (h ∷ hs) same cs = absurd (omega (arith, ap length same))
from_views byte lig (g ∷ gs) [] same cs = absurd (omega (arith, ap length same))
from_views byte lig (g ∷ gs) (h ∷ hs) same cs =
    let first : plain g ≡ plain h = ap (λ l. glyph_at l 0) same in
    let cluster : g.cluster ≡ h.cluster = ap (λ (l : List ℕ). first_of l) cs in
    let v : Glyph → Glyph = shown_glyph without_flags byte lig in
    let one : v g ≡ v h = ap (λ x. plain_seen byte lig x g.cluster) first ∙ ap (plain_seen byte lig (plain h)) cluster in
    ap (λ x. x ∷ map v gs) one ∙ ap (λ l. v h ∷ l) (from_views byte lig gs hs (ap (drop 1) same) (ap (drop 1) cs))

if_alike : (v : Glyph → Glyph) (b : Bool) (xs gs : Glyphs) → (b ≡ true → AlikeTo v xs gs) → AlikeTo v (if b then xs else gs) gs
if_alike v true xs gs on = on refl
if_alike v false xs gs on = refl

below : (m n : ℕ) → nat_lt m n ≡ true → m ≤ n
below m n e = grind (arith, nat_tests)

unjoined_alike : (byte lig : ℕ → ℕ) (looked : Stretch) (gs : Glyphs) → AlikeTo (shown_glyph without_flags byte lig) (unjoined looked gs) gs
unfolding unjoined
unjoined_alike byte lig looked gs =
    let end = min (length gs) looked.stop in
    if_alike (shown_glyph without_flags byte lig) (nat_lt looked.start end) (unsafe_to_concat_in true looked.start end gs) gs
    (λ e. (let alone = unsafe_to_concat_in-alone true looked.start end gs (below looked.start end e) in
    from_views byte lig (unsafe_to_concat_in true looked.start end gs) gs alone.same_view alone.same_clusters))

pub tries_flagless : (byte lig : ℕ → ℕ) (s : Setting) (table : List ℕ) → TriesUnseen (shown_glyph without_flags byte lig) s table
unfolding tried
tries_flagless byte lig s table = record {
  same = λ gs at. (let sights = sights_of s.gdef s.lookup table (glyph_at gs at) in
      if_alike (shown_glyph without_flags byte lig) (s.concat && nat_lt at (length gs)) (unjoined (lookup_looked s sights table gs at) gs) gs
      (λ e. unjoined_alike byte lig (lookup_looked s sights table gs at) gs));
}

quiet_low : (r : ℕ) → r < 4 → quiet (bit_or r 2) ≡ quiet r
quiet_low zero few = refl
quiet_low (suc zero) few = refl
quiet_low (suc (suc zero)) few = refl
quiet_low (suc (suc (suc zero))) few = refl
quiet_low (suc (suc (suc (suc r)))) few = absurd (omega (arith, few))

quiet_concat : (m : ℕ) → quiet (bit_or m 2) ≡ quiet m
quiet_concat m =
    let x = bit_or m 2 in
    let y = bit_or (m % 4) 2 in
    let high : x / 4 ≡ m / 4 = or_shr m 2 2 ∙ or_zero_r (m / 4) in
    let low : x % 4 ≡ y % 4 = or_mod m 2 2 ∙ sym (or_mod (m % 4) 2 2 ∙ ap (λ n. bit_or n 2) (let t : m % 4 % 4 ≡ m % 4 = omega arith in t)) in
    let same : quiet y ≡ quiet (m % 4) = quiet_low (m % 4) (omega arith) in
    let small : y / 4 ≡ 0 = or_shr (m % 4) 2 2 ∙ or_zero_r (m % 4 / 4) ∙ (let t : m % 4 / 4 ≡ 0 = omega arith in t) in
    omega (arith, high, low, same, small)

quiet_with : (byte lig : ℕ → ℕ) (g : Glyph) → shown_glyph quiet byte lig (with_bits 2 g) ≡ shown_glyph quiet byte lig g
quiet_with byte lig g = ap (λ (m : ℕ). let r : Glyph = record (shown_glyph quiet byte lig g) { mask = m } in r) (quiet_concat g.mask)

mapped_same : (v f : Glyph → Glyph) → ((g : Glyph) → v (f g) ≡ v g) → (gs : Glyphs) → map v (map f gs) ≡ map v gs
mapped_same v f same [] = refl
mapped_same v f same (g ∷ gs) = ap (λ x. x ∷ map v (map f gs)) (same g) ∙ ap (λ l. v g ∷ l) (mapped_same v f same gs)

stretch_same : (v f : Glyph → Glyph) → ((g : Glyph) → v (f g) ≡ v g) → (s e : ℕ) (gs : Glyphs) → s ≤ e
    → AlikeTo v (with_stretch s e (map f) gs) gs
stretch_same v f same s e gs le =
    let middle = stretch_of s e gs in
    map-append v (take s gs) (map f middle ++ drop e gs)
    ∙ ap (λ l. map v (take s gs) ++ l) (map-append v (map f middle) (drop e gs)
    ∙ ap (λ l. l ++ map v (drop e gs)) (mapped_same v f same middle) ∙ sym (map-append v middle (drop e gs)))
    ∙ sym (map-append v (take s gs) (middle ++ drop e gs)) ∙ ap (map v) (three_parts s e gs le)

quiet_unjoined : (byte lig : ℕ → ℕ) (looked : Stretch) (gs : Glyphs) → AlikeTo (shown_glyph quiet byte lig) (unjoined looked gs) gs
unfolding unjoined
quiet_unjoined byte lig looked gs =
    let end = min (length gs) looked.stop in
    if_alike (shown_glyph quiet byte lig) (nat_lt looked.start end) (unsafe_to_concat_in true looked.start end gs) gs
    (λ e. stretch_same (shown_glyph quiet byte lig) (with_bits 2) (quiet_with byte lig) looked.start end gs (below looked.start end e))

pub tries_quiet : (byte lig : ℕ → ℕ) (s : Setting) (table : List ℕ) → TriesUnseen (shown_glyph quiet byte lig) s table
unfolding tried
tries_quiet byte lig s table = record {
  same = λ gs at. (let sights = sights_of s.gdef s.lookup table (glyph_at gs at) in
      if_alike (shown_glyph quiet byte lig) (s.concat && nat_lt at (length gs)) (unjoined (lookup_looked s sights table gs at) gs) gs
      (λ e. quiet_unjoined byte lig (lookup_looked s sights table gs at) gs));
}

pub quiet_shown : (lig : ℕ → ℕ) → ShowsNumbers lig → IsViewOf quiet (λ b. b) lig
quiet_shown lig numbers = record {
  low = λ m. omega arith;
  off = λ m. omega arith;
  mask_again = λ m. omega arith;
  kind = λ b. refl;
  byte_again = λ b. refl;
  numbers = numbers;
}

-- ---- IN A BUFFER

ligating : (gdef gsub : List ℕ) (lookup : StageLookup) (b : Buffer) → PutsLigatures gsub lookup → merges b.level ≡ true
    → IsLigating (setting_for gdef gsub (use_for lookup) b) (lookup_in gsub lookup.index)
ligating gdef gsub lookup b puts merging = record {
  types = puts.types;
  across = puts.across;
  merging = merging;
  flagless = λ m. mask_read m lookup.mask puts.flagless;
}

not_back : (kind : ℕ) → kind ≡ 4 → (kind == 8) ≡ false
not_back kind e = ap (λ k. k == 8) e

abbrev fitting : List ℕ → List ℕ → StageLookup → Glyphs → FittingLigature
fitting gdef gsub lookup = fits_of gdef (use_for lookup) (lookup_in gsub lookup.index)

pub substituted_model : (mask byte lig : ℕ → ℕ) → IsViewOf mask byte lig → (gdef gsub : List ℕ) (lookup : StageLookup) (b : Buffer) (gs : Glyphs)
    → PutsLigatures gsub lookup → merges b.level ≡ true
    → TriesUnseen (shown_glyph mask byte lig) (setting_for gdef gsub (use_for lookup) b) (lookup_in gsub lookup.index)
    → AlikeTo (shown_glyph mask byte lig) b.glyphs gs → AreOrdered gs → HasNoComponents gs
    → AlikeTo (shown_glyph mask byte lig) (substituted_by gdef gsub lookup b).glyphs
    (model gdef (fitting gdef gsub lookup) (length b.glyphs) gs)
unfolding substituted applied
substituted_model mask byte lig shows gdef gsub lookup b gs puts merging tries e order none =
    let table = lookup_in gsub lookup.index in
    let s = setting_for gdef gsub (use_for lookup) b in
    let forwards = not_back (type_in 7 table 0) (puts.types 0 puts.some) in
    rw forwards (walk_as_model mask byte lig shows s table (ligating gdef gsub lookup b puts merging) tries (length b.glyphs) b.glyphs []
    gs b.lookups e (omega (arith, alike_long (shown_glyph mask byte lig) b.glyphs gs e)) order none)

-- ---- THE PIECES

-- how numbers are compared, by what a view shows of them
pub record ComparedBy (numbered : Numbering) (lig : ℕ → ℕ) : Type 0 where
  pub shows : ShowsNumbers lig
  pub tells : (gs hs : Glyphs) → AreAsIn numbered hs gs → numbers_by lig (ligatures gs) ≡ numbers_by lig (ligatures hs)
  pub enough : (xs ys : List LigProps) → numbers_by lig xs ≡ numbers_by lig ys → numbered xs ys ≡ true

-- what a piece by itself becomes
piece_made : (numbered : Numbering) (lig : ℕ → ℕ) → ComparedBy numbered lig → (text : Buffer) (gdef gsub : List ℕ)
    (lookup : StageLookup) (part made front : Glyphs) → PutsLigatures gsub lookup → merges text.level ≡ true → AreOrdered part
    → HasNoComponents part → HasByte 0 part → ((n : ℕ) → length part ≤ n → model gdef (fitting gdef gsub lookup) n part ≡ made)
    → AlikeTo (quiet_view lig) made front → HasByte 0 front → (one : Buffer) → IsPiece numbered text part one
    → AreAsIn numbered front (substituted_by gdef gsub lookup one).glyphs
piece_made numbered lig compared text gdef gsub lookup part made front puts merging order none cleared makes shown plain_bytes one piece =
    let s = setting_for gdef gsub (use_for lookup) one in
    let table = lookup_in gsub lookup.index in
    let shows = compared.shows in
    let level : merges one.level ≡ true = ap merges piece.level ∙ merging in
    let alike = bare_of lig one.glyphs part piece.same.glyphs (compared.tells one.glyphs part piece.same) in
    let long : length one.glyphs ≡ length part = alike_long (bare lig) one.glyphs part alike in
    let result : Glyphs = (substituted_by gdef gsub lookup one).glyphs in
    let walked : AlikeTo (bare lig) result made =
    substituted_model without_flags (λ b. b % 16) lig (flagless_shown lig shows) gdef gsub lookup one part puts
    level (tries_flagless (λ b. b % 16) lig s table) alike order none
    ∙ ap (map (bare lig)) (makes (length one.glyphs) (omega (arith, long))) in
    let x = first_byte (order_view (map unlinked one.glyphs)) in
    let bytes : HasByte x one.glyphs = byte_of 0 one.glyphs part piece.same.glyphs cleared in
    let other : Glyphs = map (in_syllable x) part in
    let stepped = substituted_model without_flags (λ b. b) lig (bytes_shown lig shows) gdef gsub lookup one other puts level
    (tries_flagless (λ b. b) lig s table) (byte_alike lig x one.glyphs part bytes alike) (ordered_in x part order)
    (free_in x part none) in
    let result_bytes : HasByte x result = byte_shown without_flags lig x result
    (model gdef (fitting gdef gsub lookup) (length one.glyphs) other) stepped
    (model_all (λ g. g.syllable ≡ x) (byte_kept x) gdef (fitting gdef gsub lookup) (length one.glyphs) other (all_in x part)) in
    let whole : AlikeTo (bare lig) result front = walked ∙ down lig shows made front shown in
    record {
      glyphs = same_of lig shows x 0 result front result_bytes plain_bytes whole;
      numbers = compared.enough (ligatures result) (ligatures front) (numbers_alike lig shows result front whole);
    }

ordered_front : (xs ys : Glyphs) → AreOrdered (xs ++ ys) → AreOrdered xs
ordered_front [] ys order = tt
ordered_front (x ∷ xs) ys order = (all_front (PrecedesInOrder x) xs ys order.0, ordered_front xs ys order.1)

ordered_back : (xs ys : Glyphs) → AreOrdered (xs ++ ys) → AreOrdered ys
ordered_back [] ys order = order
ordered_back (x ∷ xs) ys order = ordered_back xs ys order.1

pub ligatures_leave : (numbered : Numbering) (lig : ℕ → ℕ) → ComparedBy numbered lig → (text : Buffer)
    (gdef gsub : List ℕ) (lookup : StageLookup) (b : Buffer) → PutsLigatures gsub lookup → TakesLigatures text b
    → LookupLeaves numbered text (substituted_by gdef gsub) lookup b
ligatures_leave numbered lig compared text gdef gsub lookup b puts takes front back cut =
    let table = lookup_in gsub lookup.index in
    let s = setting_for gdef gsub (use_for lookup) b in
    let fits : Glyphs → FittingLigature = fitting gdef gsub lookup in
    let is = ligating gdef gsub lookup b puts takes.merging in
    let are = fits_are gdef (use_for lookup) table (looks_anywhere s table is) in
    let n = length b.glyphs in
    let new : Glyphs = (substituted_by gdef gsub lookup b).glyphs in
    let whole : Glyphs = model gdef fits n b.glyphs in
    let alike : AlikeTo (quiet_view lig) new whole =
    substituted_model quiet (λ x. x) lig (quiet_shown lig compared.shows) gdef gsub lookup b b.glyphs puts
    takes.merging (tries_quiet (λ x. x) lig s table) refl takes.ordered takes.components in
    let parts = seen_in_parts (quiet_view lig) whole front back (sym alike ∙ ap (map (quiet_view lig)) cut.parts) in
    let f = parts.front in
    let k = parts.back in
    let f_long : length f ≡ length front = alike_long (quiet_view lig) f front parts.first in
    let k_long : length k ≡ length back = alike_long (quiet_view lig) k back parts.second in
    let some_front = cut.some_in_front in
    let some_back = cut.some_behind in
    let clear : IsClear (f ++ k) (length f) = subst (λ m. IsClear (f ++ k) m) (sym f_long)
    (subst (λ l. IsClear l (length front)) parts.parts (clear_shown lig new whole (length front) alike cut.clear)) in
    let rising = model_rises gdef fits (λ g gs order none. (let stays = emit_stays gdef fits are (fits (g ∷ gs)) g gs refl order none in
    (stays.order, stays.none))) n b.glyphs takes.ordered takes.components in
    let border = border_of f k (subst AreRising parts.parts rising) (omega (arith, f_long, some_front)) (omega (arith, k_long, some_back)) clear in
    let it = cut_model gdef fits are n b.glyphs f k (omega arith) takes.ordered takes.components parts.parts
    (omega (arith, k_long, some_back)) border in
    let before_some : 0 < length it.before = it.some_in_front (omega (arith, f_long, some_front)) in
    let order = subst AreOrdered it.parts takes.ordered in
    let none = subst HasNoComponents it.parts takes.components in
    let cleared = subst (HasByte 0) it.parts takes.cleared in
    let IsFree : Glyph → Type 0 = λ g. component g.lig_props ≡ 0 in
    let IsPlain : Glyph → Type 0 = λ g. g.syllable ≡ 0 in
    let made_plain : HasByte 0 (f ++ k) = subst (HasByte 0) parts.parts (model_all IsPlain (byte_kept 0) gdef fits n b.glyphs takes.cleared) in
    let merging : merges text.level ≡ true = ap merges (sym takes.level) ∙ takes.merging in
    let f_plain : HasByte 0 front = byte_shown quiet lig 0 front f (sym parts.first) (all_front IsPlain f k made_plain) in
    let k_plain : HasByte 0 back = byte_shown quiet lig 0 back k (sym parts.second) (all_back IsPlain f k made_plain) in
    record {
      before = it.before;
      behind = it.behind;
      pieces = record {
        parts = it.parts;
        some_in_front = before_some;
        some_behind = it.some_behind;
        clear = subst (λ l. IsClear l (length it.before)) (sym it.parts)
            (clear_of it.before it.behind before_some it.some_behind it.border);
      };
      first = piece_made numbered lig compared text gdef gsub lookup it.before f front puts merging (ordered_front it.before it.behind order)
          (all_front IsFree it.before it.behind none) (all_front IsPlain it.before it.behind cleared) it.first parts.first f_plain;
      second = piece_made numbered lig compared text gdef gsub lookup it.behind k back puts merging (ordered_back it.before it.behind order)
          (all_back IsFree it.before it.behind none) (all_back IsPlain it.before it.behind cleared) it.second parts.second k_plain;
    }
