-- Texts that are the same but for numbers, glyph by glyph; and what sequences make of them.
use Rattle.std.proofs.Common.{ℕ, zero, suc, ◌+◌, ◌*◌, ◌%◌, ◌<◌, ◌≡◌, ◌==◌, ◌&&◌, ◌⊎◌, inl, inr, nat_lt, bit_and, bit_or, if◌then◌else◌, Bool, true, false, List, [], ◌∷◌, ◌++◌, length, map, drop, Option, None, Some, refl, sym, ap, subst, ◌∙◌, arith}
use Rattle.std.specs.List.{AllByRecursion}
use Rattle.std.proofs.lemmas.Bool.{false≢true}
use Rattle.std.proofs.lemmas.Bool.Decides.{nat_tests}
use Rattle.shapers_buffer.specs.Glyph.{clusters, order_view, plain, without_flags}
use Rattle.shapers_buffer.specs.Glyphs.{Glyph, Glyphs}
use Rattle.shapers_buffer.specs.Syllables.{syllables, with_in_front}
use Rattle.shapers_buffer.specs.declared.buffer.lig_props.LigProps.{LigProps}
use Rattle.shapers_syllabic.specs.Borders.{unnumbered}
use Rattle.shapers_syllabic.proofs.Serials.{same_text}
use Rattle.shapers_editing.specs.PipelineBreaks.{AreAsIn, Numbering, ligatures, unlinked}
use Rattle.opentype_face.specs.Bytes.{u16_in}
use Rattle.opentype_gsub.specs.Edits.{count_in, replaced, sequence_glyph, sequence_glyphs}
use Rattle.opentype_gsub.specs.Setting.{is_seen}
use Rattle.opentype_gsub.specs.declared.pass.LookupUse.{LookupUse}
use Rattle.opentype_break_laws.specs.Sequences.{ComparesNumbers, FirstStays, GoesBehind, StayOrGo, all_beside, sequence_for}
use Rattle.opentype_break_laws.proofs.LigatureFits.{essence}
use Rattle.opentype_break_laws.proofs.LigatureBorders.{HasByte, begins_piece}
use Rattle.opentype_break_laws.proofs.LigatureModel.{is_equal}
use Rattle.opentype_break_laws.proofs.LigatureViews.{head_or}
use Rattle.opentype_break_laws.proofs.LigatureWalk.{seen_same}

-- ---- GLYPHS SIDE BY SIDE

-- whether a text begins in this syllable
abbrev pub begins_in : ℕ → Glyphs → Bool
begins_in byte [] = false
begins_in byte (g ∷ gs) = g.syllable == byte

-- two glyphs that are the same but for numbers and flags
pub record Beside (test : LigProps → LigProps → Bool) (g h : Glyph) : Type 0 where
  pub alike : essence g ≡ essence h
  pub cluster : g.cluster ≡ h.cluster
  pub numbers : test g.lig_props h.lig_props ≡ true

-- texts of such glyphs, in which the same neighbours are of one syllable
abbrev pub AllBeside : (LigProps → LigProps → Bool) → Glyphs → Glyphs → Type 0
AllBeside test [] [] = Unit {0}
AllBeside test [] (h ∷ hs) = ⊥
AllBeside test (g ∷ gs) [] = ⊥
AllBeside test (g ∷ gs) (h ∷ hs) =
    Beside test g h × ((begins_in g.syllable gs ≡ begins_in h.syllable hs) × AllBeside test gs hs)

-- ---- THEIR SYLLABLES

abbrev shown_pieces : List Glyphs → List Glyphs
shown_pieces ps = map (map unnumbered) ps

abbrev first_piece : List Glyphs → Glyphs
first_piece [] = []
first_piece (p ∷ ps) = p

tell_by : (x a y c : Glyph) (p q : Glyphs) (ps qs : List Glyphs) (t u : Bool)
    → shown_pieces (if t then (x ∷ (a ∷ p)) ∷ ps else (x ∷ []) ∷ ((a ∷ p) ∷ ps))
    ≡ shown_pieces (if u then (y ∷ (c ∷ q)) ∷ qs else (y ∷ []) ∷ ((c ∷ q) ∷ qs))
    → (t ≡ u) × (shown_pieces ((a ∷ p) ∷ ps) ≡ shown_pieces ((c ∷ q) ∷ qs))
tell_by x a y c p q ps qs true true e =
    let first : map unnumbered (a ∷ p) ≡ map unnumbered (c ∷ q) = ap (λ l. drop 1 (first_piece l)) e in
    let rest : shown_pieces ps ≡ shown_pieces qs = ap (drop 1) e in
    (refl, ap (λ l. l ∷ shown_pieces ps) first ∙ ap (λ l. map unnumbered (c ∷ q) ∷ l) rest)
tell_by x a y c p q ps qs true false e = absurd (omega (arith, ap (λ l. length (first_piece l)) e))
tell_by x a y c p q ps qs false true e = absurd (omega (arith, ap (λ l. length (first_piece l)) e))
tell_by x a y c p q ps qs false false e = (refl, ap (drop 1) e)

-- what the syllables of a text tell of its first glyph and of the rest
tell : (x : Glyph) (xs : Glyphs) (y : Glyph) (ys : Glyphs)
    → shown_pieces (syllables (x ∷ xs)) ≡ shown_pieces (syllables (y ∷ ys))
    → (begins_in x.syllable xs ≡ begins_in y.syllable ys) × (shown_pieces (syllables xs) ≡ shown_pieces (syllables ys))
tell x [] y [] e = (refl, refl)
tell x [] y (c ∷ ys) e = absurd (omega (arith, ap length (same_text (x ∷ []) (y ∷ c ∷ ys) e)))
tell x (a ∷ xs) y [] e = absurd (omega (arith, ap length (same_text (x ∷ a ∷ xs) (y ∷ []) e)))
tell x (a ∷ xs) y (c ∷ ys) e =
    let one = begins_piece a (syllables xs) in
    let two = begins_piece c (syllables ys) in
    let told = tell_by x a y c one.piece two.piece one.more two.more (a.syllable == x.syllable) (c.syllable == y.syllable)
    (sym (ap (λ l. shown_pieces (with_in_front x l)) one.is) ∙ e ∙ ap (λ l. shown_pieces (with_in_front y l)) two.is) in
    (told.0, ap shown_pieces one.is ∙ told.1 ∙ sym (ap shown_pieces two.is))

front_by : (x a y c : Glyph) (p q : Glyphs) (ps qs : List Glyphs) (t : Bool) → unnumbered x ≡ unnumbered y
    → shown_pieces ((a ∷ p) ∷ ps) ≡ shown_pieces ((c ∷ q) ∷ qs)
    → shown_pieces (if t then (x ∷ (a ∷ p)) ∷ ps else (x ∷ []) ∷ ((a ∷ p) ∷ ps))
    ≡ shown_pieces (if t then (y ∷ (c ∷ q)) ∷ qs else (y ∷ []) ∷ ((c ∷ q) ∷ qs))
front_by x a y c p q ps qs true one rest =
    let first : map unnumbered (a ∷ p) ≡ map unnumbered (c ∷ q) = ap first_piece rest in
    ap (λ z. (z ∷ map unnumbered (a ∷ p)) ∷ shown_pieces ps) one
    ∙ ap (λ l. (unnumbered y ∷ l) ∷ shown_pieces ps) first
    ∙ ap (λ l. (unnumbered y ∷ map unnumbered (c ∷ q)) ∷ l) (ap (drop 1) rest)
front_by x a y c p q ps qs false one rest =
    ap (λ z. (z ∷ []) ∷ shown_pieces ((a ∷ p) ∷ ps)) one ∙ ap (λ l. (unnumbered y ∷ []) ∷ l) rest

-- and the other way round
in_front : (x : Glyph) (xs : Glyphs) (y : Glyph) (ys : Glyphs) → unnumbered x ≡ unnumbered y
    → begins_in x.syllable xs ≡ begins_in y.syllable ys → shown_pieces (syllables xs) ≡ shown_pieces (syllables ys)
    → shown_pieces (syllables (x ∷ xs)) ≡ shown_pieces (syllables (y ∷ ys))
in_front x [] y [] one same rest = ap (λ z. (z ∷ []) ∷ []) one
in_front x [] y (c ∷ ys) one same rest = absurd (omega (arith, ap length (same_text [] (c ∷ ys) rest)))
in_front x (a ∷ xs) y [] one same rest = absurd (omega (arith, ap length (same_text (a ∷ xs) [] rest)))
in_front x (a ∷ xs) y (c ∷ ys) one same rest =
    let p = begins_piece a (syllables xs) in
    let q = begins_piece c (syllables ys) in
    let both : shown_pieces ((a ∷ p.piece) ∷ p.more) ≡ shown_pieces ((c ∷ q.piece) ∷ q.more) =
    sym (ap shown_pieces p.is) ∙ rest ∙ ap shown_pieces q.is in
    ap (λ l. shown_pieces (with_in_front x l)) p.is
    ∙ front_by x a y c p.piece q.piece p.more q.more (a.syllable == x.syllable) one both
    ∙ ap (λ t. shown_pieces (if t then (y ∷ (c ∷ q.piece)) ∷ q.more else (y ∷ []) ∷ ((c ∷ q.piece) ∷ q.more))) same
    ∙ sym (ap (λ l. shown_pieces (with_in_front y l)) q.is)

-- ---- THE SAME BUT FOR NUMBERS is side by side

abbrev plain_text : Glyphs → Glyphs
plain_text gs = order_view (map unlinked gs)

begins_plain : (byte : ℕ) (gs : Glyphs) → begins_in byte (plain_text gs) ≡ begins_in byte gs
begins_plain byte [] = refl
begins_plain byte (g ∷ gs) = refl

both_true : (a b : Bool) → (a && b) ≡ true → (a ≡ true) × (b ≡ true)
both_true true b e = (refl, e)
both_true false b e = absurd (false≢true e)

abbrev first_of : List ℕ → ℕ
first_of [] = 0
first_of (n ∷ ns) = n

beside_from : (test : LigProps → LigProps → Bool) (gs hs : Glyphs)
    → shown_pieces (syllables (plain_text gs)) ≡ shown_pieces (syllables (plain_text hs))
    → clusters (map unlinked gs) ≡ clusters (map unlinked hs) → all_beside test (ligatures gs) (ligatures hs) ≡ true
    → AllBeside test gs hs
beside_from test [] [] e cs ns = tt
beside_from test [] (h ∷ hs) e cs ns = absurd (omega (arith, ap length cs))
beside_from test (g ∷ gs) [] e cs ns = absurd (omega (arith, ap length cs))
beside_from test (g ∷ gs) (h ∷ hs) e cs ns =
    let x = plain (unlinked g) in
    let y = plain (unlinked h) in
    let told = tell x (plain_text gs) y (plain_text hs) e in
    let first : unnumbered x ≡ unnumbered y = ap head_or (same_text (x ∷ plain_text gs) (y ∷ plain_text hs) e) in
    let both = both_true (test g.lig_props h.lig_props) (all_beside test (ligatures gs) (ligatures hs)) ns in (
      record { alike = first; cluster = ap first_of cs; numbers = both.0 },
      (
        sym (begins_plain g.syllable gs) ∙ told.0 ∙ begins_plain h.syllable hs,
        beside_from test gs hs told.1 (ap (drop 1) cs) both.1,
      ),
    )

syllables_beside : (test : LigProps → LigProps → Bool) (gs hs : Glyphs) → AllBeside test gs hs
    → shown_pieces (syllables (plain_text gs)) ≡ shown_pieces (syllables (plain_text hs))
syllables_beside test [] [] all = refl
syllables_beside test [] (h ∷ hs) all = absurd all
syllables_beside test (g ∷ gs) [] all = absurd all
syllables_beside test (g ∷ gs) (h ∷ hs) all =
    in_front (plain (unlinked g)) (plain_text gs) (plain (unlinked h)) (plain_text hs) all.0.alike
    (begins_plain g.syllable gs ∙ all.1.0 ∙ sym (begins_plain h.syllable hs)) (syllables_beside test gs hs all.1.1)

clusters_beside : (test : LigProps → LigProps → Bool) (gs hs : Glyphs) → AllBeside test gs hs
    → clusters (map unlinked gs) ≡ clusters (map unlinked hs)
clusters_beside test [] [] all = refl
clusters_beside test [] (h ∷ hs) all = absurd all
clusters_beside test (g ∷ gs) [] all = absurd all
clusters_beside test (g ∷ gs) (h ∷ hs) all = ap (λ c. c ∷ clusters (map unlinked gs)) all.0.cluster
    ∙ ap (λ l. h.cluster ∷ l) (clusters_beside test gs hs all.1.1)

numbers_beside : (test : LigProps → LigProps → Bool) (gs hs : Glyphs) → AllBeside test gs hs
    → all_beside test (ligatures gs) (ligatures hs) ≡ true
numbers_beside test [] [] all = refl
numbers_beside test [] (h ∷ hs) all = absurd all
numbers_beside test (g ∷ gs) [] all = absurd all
numbers_beside test (g ∷ gs) (h ∷ hs) all = ap (λ b. b && all_beside test (ligatures gs) (ligatures hs)) all.0.numbers
    ∙ numbers_beside test gs hs all.1.1

pub as_beside : (numbered : Numbering) (compares : ComparesNumbers numbered) (part gs : Glyphs)
    → AreAsIn numbered part gs → AllBeside compares.test gs part
as_beside numbered compares part gs is = beside_from compares.test gs part is.glyphs.0 is.glyphs.1
    (sym (compares.each (ligatures gs) (ligatures part)) ∙ is.numbers)

pub beside_as : (numbered : Numbering) (compares : ComparesNumbers numbered) (part gs : Glyphs)
    → AllBeside compares.test gs part → AreAsIn numbered part gs
beside_as numbered compares part gs all = record {
  glyphs = (syllables_beside compares.test gs part all, clusters_beside compares.test gs part all);
  numbers = compares.each (ligatures gs) (ligatures part) ∙ numbers_beside compares.test gs part all;
}

-- ---- GLYPHS IN THE PLACE OF ONE

abbrev pub Paired : (LigProps → LigProps → Bool) → Glyphs → Glyphs → Type 0
Paired test [] [] = Unit {0}
Paired test [] (h ∷ hs) = ⊥
Paired test (g ∷ gs) [] = ⊥
Paired test (g ∷ gs) (h ∷ hs) = Beside test g h × Paired test gs hs

equal : (m n : ℕ) → m ≡ n → (m == n) ≡ true
equal m n e = grind (arith, nat_tests)

-- pairs in one syllable, in front of texts side by side
both_beside : (test : LigProps → LigProps → Bool) (a c : ℕ) (xs ys gs hs : Glyphs) → Paired test xs ys → HasByte a xs
    → HasByte c ys → begins_in a gs ≡ begins_in c hs → AllBeside test gs hs → AllBeside test (xs ++ gs) (ys ++ hs)
both_beside test a c [] [] gs hs pairs one two same all = all
both_beside test a c [] (y ∷ ys) gs hs pairs one two same all = absurd pairs
both_beside test a c (x ∷ xs) [] gs hs pairs one two same all = absurd pairs
both_beside test a c (x ∷ []) (y ∷ []) gs hs pairs one two same all =
    (pairs.0, (ap (λ k. begins_in k gs) one.0 ∙ same ∙ sym (ap (λ k. begins_in k hs) two.0), all))
both_beside test a c (x ∷ []) (y ∷ w ∷ ys) gs hs pairs one two same all = absurd pairs.1
both_beside test a c (x ∷ z ∷ xs) (y ∷ []) gs hs pairs one two same all = absurd pairs.1
both_beside test a c (x ∷ z ∷ xs) (y ∷ w ∷ ys) gs hs pairs one two same all = (
  pairs.0,
  (
    equal z.syllable x.syllable (one.1.0 ∙ sym one.0) ∙ sym (equal w.syllable y.syllable (two.1.0 ∙ sym two.0)),
    both_beside test a c (z ∷ xs) (w ∷ ys) gs hs pairs.1 one.1 two.1 same all,
  ),
)

-- a glyph that stands for another one: in its cluster and syllable, with its mask
pub record StandsFor (g x : Glyph) : Type 0 where
  pub cluster : x.cluster ≡ g.cluster
  pub mask : x.mask ≡ g.mask
  pub byte : x.syllable ≡ g.syllable

-- what puts glyphs that stand for it in the place of each, or none
pub record IsSpread (f : Glyph → Glyphs) : Type 0 where
  pub each : (g : Glyph) → AllByRecursion (StandsFor g) (f g)

abbrev pub spread_out : (Glyph → Glyphs) → Glyphs → Glyphs
spread_out f [] = []
spread_out f (g ∷ gs) = f g ++ spread_out f gs

bytes_of : (g : Glyph) (xs : Glyphs) → AllByRecursion (StandsFor g) xs → HasByte g.syllable xs
bytes_of g [] all = tt
bytes_of g (x ∷ xs) all = (all.0.byte, bytes_of g xs all.1)

begins_with : (byte : ℕ) (g : Glyph) (xs ys : Glyphs) → 0 < length xs → AllByRecursion (StandsFor g) xs
    → begins_in byte (xs ++ ys) ≡ (g.syllable == byte)
begins_with byte g [] ys some all = absurd (omega (arith, some))
begins_with byte g (x ∷ xs) ys some all = ap (λ n. n == byte) all.0.byte

-- texts side by side, as they begin behind two glyphs
pub record BesideBehind (test : LigProps → LigProps → Bool) (x y : Glyph) (gs hs : Glyphs) : Type 0 where
  pub all : AllBeside test gs hs
  pub begins : begins_in x.syllable gs ≡ begins_in y.syllable hs

spread_next : (test : LigProps → LigProps → Bool) (f : Glyph → Glyphs) (x y g h : Glyph) (gs hs xs ys : Glyphs)
    → Paired test xs ys → AllByRecursion (StandsFor g) xs → AllByRecursion (StandsFor h) ys
    → (g.syllable == x.syllable) ≡ (h.syllable == y.syllable) → ((0 < length ys) ⊎ GoesBehind y h)
    → BesideBehind test g h (spread_out f gs) (spread_out f hs)
    → BesideBehind test x y (xs ++ spread_out f gs) (ys ++ spread_out f hs)
spread_next test f x y g h gs hs [] [] pairs one two same (inl stays) rest = absurd (omega (arith, stays))
spread_next test f x y g h gs hs [] [] pairs one two same (inr goes) rest =
    let back : (g.syllable == x.syllable) ≡ true = same ∙ equal h.syllable y.syllable goes.syllable in
    record {
      all = rest.all;
      begins = ap (λ k. begins_in k (spread_out f gs)) (sym (is_equal g.syllable x.syllable back)) ∙ rest.begins
          ∙ ap (λ k. begins_in k (spread_out f hs)) goes.syllable;
    }
spread_next test f x y g h gs hs [] (b ∷ ys) pairs one two same stays rest = absurd pairs
spread_next test f x y g h gs hs (a ∷ xs) [] pairs one two same stays rest = absurd pairs
spread_next test f x y g h gs hs (a ∷ xs) (b ∷ ys) pairs one two same stays rest = record {
  all = both_beside test g.syllable h.syllable (a ∷ xs) (b ∷ ys) (spread_out f gs) (spread_out f hs) pairs
      (bytes_of g (a ∷ xs) one) (bytes_of h (b ∷ ys) two) rest.begins rest.all;
  begins = begins_with x.syllable g (a ∷ xs) (spread_out f gs) (omega arith) one ∙ same
      ∙ sym (begins_with y.syllable h (b ∷ ys) (spread_out f hs) (omega arith) two);
}

spread_behind : (test : LigProps → LigProps → Bool) (f : Glyph → Glyphs) → IsSpread f
    → ((g h : Glyph) → Beside test g h → Paired test (f g) (f h)) → (x y : Glyph) (gs hs : Glyphs)
    → begins_in x.syllable gs ≡ begins_in y.syllable hs → AllBeside test gs hs → StayOrGo (λ g. length (f g)) y hs
    → BesideBehind test x y (spread_out f gs) (spread_out f hs)
spread_behind test f is pairs x y [] [] same all stays = record { all = tt; begins = refl }
spread_behind test f is pairs x y [] (h ∷ hs) same all stays = absurd all
spread_behind test f is pairs x y (g ∷ gs) [] same all stays = absurd all
spread_behind test f is pairs x y (g ∷ gs) (h ∷ hs) same all stays =
    spread_next test f x y g h gs hs (f g) (f h) (pairs g h all.0) (is.each g) (is.each h) same stays.0
    (spread_behind test f is pairs g h gs hs all.1.0 all.1.1 stays.1)

pub spread_beside : (test : LigProps → LigProps → Bool) (f : Glyph → Glyphs) → IsSpread f
    → ((g h : Glyph) → Beside test g h → Paired test (f g) (f h)) → (gs hs : Glyphs) → AllBeside test gs hs
    → FirstStays (λ g. length (f g)) hs → AllBeside test (spread_out f gs) (spread_out f hs)
spread_beside test f is pairs [] [] all stays = tt
spread_beside test f is pairs [] (h ∷ hs) all stays = absurd all
spread_beside test f is pairs (g ∷ gs) [] all stays = absurd all
spread_beside test f is pairs (g ∷ gs) (h ∷ hs) all stays =
    (spread_next test f g h g h gs hs (f g) (f h) (pairs g h all.0) (is.each g) (is.each h)
    (equal g.syllable g.syllable refl ∙ sym (equal h.syllable h.syllable refl)) (inl stays.0)
    (spread_behind test f is pairs g h gs hs all.1.0 all.1.1 stays.1)).all

-- ---- A SEQUENCE in the place of a glyph

abbrev pub so_many : List ℕ → List ℕ → Glyph → ℕ → Glyphs
so_many gdef sequence g zero = []
so_many gdef sequence g (suc zero) = replaced gdef (u16_in sequence 2) 0 g ∷ []
so_many gdef sequence g (suc (suc n)) = sequence_glyphs (suc (suc n)) gdef sequence g 0

abbrev pub spread_by : List ℕ → Bool → Option (List ℕ) → Glyph → Glyphs
spread_by gdef true (Some sequence) g = so_many gdef sequence g (count_in sequence)
spread_by gdef true None g = g ∷ []
spread_by gdef false found g = g ∷ []

-- a glyph as a lookup of sequences leaves it
abbrev pub spread : List ℕ → LookupUse → List ℕ → Glyph → Glyphs
spread gdef use_of table g = spread_by gdef (is_seen gdef use_of table g) (sequence_for table (g.glyph_id % 65536)) g

sequence_stands : (n : ℕ) (gdef sequence : List ℕ) (g : Glyph) (k : ℕ)
    → AllByRecursion (StandsFor g) (sequence_glyphs n gdef sequence g k)
unfolding sequence_glyphs sequence_glyph replaced
sequence_stands zero gdef sequence g k = tt
sequence_stands (suc n) gdef sequence g k =
    (record { cluster = refl; mask = refl; byte = refl }, sequence_stands n gdef sequence g (k + 1))

pub sequence_long : (n : ℕ) (gdef sequence : List ℕ) (g : Glyph) (k : ℕ) → length (sequence_glyphs n gdef sequence g k) ≡ n
unfolding sequence_glyphs
sequence_long zero gdef sequence g k = refl
sequence_long (suc n) gdef sequence g k = ap suc (sequence_long n gdef sequence g (k + 1))

many_stand : (gdef sequence : List ℕ) (g : Glyph) (n : ℕ) → AllByRecursion (StandsFor g) (so_many gdef sequence g n)
unfolding replaced
many_stand gdef sequence g zero = tt
many_stand gdef sequence g (suc zero) = (record { cluster = refl; mask = refl; byte = refl }, tt)
many_stand gdef sequence g (suc (suc n)) = sequence_stands (suc (suc n)) gdef sequence g 0

pub many_long : (gdef sequence : List ℕ) (g : Glyph) (n : ℕ) → length (so_many gdef sequence g n) ≡ n
many_long gdef sequence g zero = refl
many_long gdef sequence g (suc zero) = refl
many_long gdef sequence g (suc (suc n)) = sequence_long (suc (suc n)) gdef sequence g 0

by_stands : (gdef : List ℕ) (seen : Bool) (found : Option (List ℕ)) (g : Glyph)
    → AllByRecursion (StandsFor g) (spread_by gdef seen found g)
by_stands gdef true (Some sequence) g = many_stand gdef sequence g (count_in sequence)
by_stands gdef true None g = (record { cluster = refl; mask = refl; byte = refl }, tt)
by_stands gdef false found g = (record { cluster = refl; mask = refl; byte = refl }, tt)

pub is_spread : (gdef : List ℕ) (use_of : LookupUse) (table : List ℕ) → IsSpread (spread gdef use_of table)
is_spread gdef use_of table = record {
  each = λ g. by_stands gdef (is_seen gdef use_of table g) (sequence_for table (g.glyph_id % 65536)) g;
}

-- ---- THE GLYPHS of a sequence, by what the glyph shows and whether it has a ligature's number

sequence_shown : List ℕ → List ℕ → ℕ → Bool → Glyph → Glyph
sequence_shown gdef sequence k none u =
    let guess = (if bit_and u.glyph_props.0 4 == 0 then 0 else 2) in
    let r = replaced gdef (u16_in sequence (2 + k * 2)) guess u in
    record r {
      glyph_props = record { 0 = bit_or r.glyph_props.0 64 };
      lig_props = record { 0 = if none then k % 16 % 32 else u.lig_props.0 };
    }

sequence_essence : (gdef sequence : List ℕ) (k : ℕ) (none : Bool) (g : Glyph) → nat_lt g.lig_props.0 32 ≡ none
    → essence (sequence_glyph gdef sequence g k) ≡ sequence_shown gdef sequence k none (essence g)
unfolding sequence_glyph replaced sequence_shown
sequence_essence gdef sequence k true g e = rw e refl
sequence_essence gdef sequence k false g e = rw e refl

abbrev number_by : Bool → ℕ → LigProps → LigProps
number_by none k l = if none then record { 0 = k % 16 } else l

numbers_by : (test : LigProps → LigProps → Bool) → ((l : LigProps) → test l l ≡ true) → (none : Bool) (k : ℕ) (l m : LigProps)
    → test l m ≡ true → test (number_by none k l) (number_by none k m) ≡ true
numbers_by test same true k l m e = same (record { 0 = k % 16 })
numbers_by test same false k l m e = e

sequence_beside : (numbered : Numbering) (compares : ComparesNumbers numbered) (gdef sequence : List ℕ) (k : ℕ) (g h : Glyph)
    → Beside compares.test g h
    → Beside compares.test (sequence_glyph gdef sequence g k) (sequence_glyph gdef sequence h k)
unfolding sequence_glyph replaced
sequence_beside numbered compares gdef sequence k g h both =
    let same = compares.tells g.lig_props h.lig_props both.numbers in
    record {
      alike = sequence_essence gdef sequence k (nat_lt g.lig_props.0 32) g refl
          ∙ ap (sequence_shown gdef sequence k (nat_lt g.lig_props.0 32)) both.alike
          ∙ sym (sequence_essence gdef sequence k (nat_lt g.lig_props.0 32) h (sym same));
      cluster = both.cluster;
      numbers = subst (λ b. compares.test (number_by (nat_lt g.lig_props.0 32) k g.lig_props) (number_by b k h.lig_props) ≡ true)
          same (numbers_by compares.test compares.itself (nat_lt g.lig_props.0 32) k g.lig_props h.lig_props both.numbers);
    }

sequences_paired : (numbered : Numbering) (compares : ComparesNumbers numbered) (n : ℕ) (gdef sequence : List ℕ) (k : ℕ)
    (g h : Glyph) → Beside compares.test g h
    → Paired compares.test (sequence_glyphs n gdef sequence g k) (sequence_glyphs n gdef sequence h k)
unfolding sequence_glyphs
sequences_paired numbered compares zero gdef sequence k g h both = tt
sequences_paired numbered compares (suc n) gdef sequence k g h both =
    (sequence_beside numbered compares gdef sequence k g h both, sequences_paired numbered compares n gdef sequence (k + 1) g h both)

many_paired : (numbered : Numbering) (compares : ComparesNumbers numbered) (gdef sequence : List ℕ) (n : ℕ) (g h : Glyph)
    → Beside compares.test g h → Paired compares.test (so_many gdef sequence g n) (so_many gdef sequence h n)
unfolding replaced
many_paired numbered compares gdef sequence zero g h both = tt
many_paired numbered compares gdef sequence (suc zero) g h both = (
  record {
    alike = ap (λ x. replaced gdef (u16_in sequence 2) 0 x) both.alike;
    cluster = both.cluster;
    numbers = both.numbers;
  },
  tt,
)
many_paired numbered compares gdef sequence (suc (suc n)) g h both =
    sequences_paired numbered compares (suc (suc n)) gdef sequence 0 g h both

by_paired : (numbered : Numbering) (compares : ComparesNumbers numbered) (gdef : List ℕ) (seen : Bool) (found : Option (List ℕ))
    (g h : Glyph) → Beside compares.test g h → Paired compares.test (spread_by gdef seen found g) (spread_by gdef seen found h)
by_paired numbered compares gdef true (Some sequence) g h both = many_paired numbered compares gdef sequence (count_in sequence) g h both
by_paired numbered compares gdef true None g h both = (both, tt)
by_paired numbered compares gdef false found g h both = (both, tt)

pub spread_paired : (numbered : Numbering) (compares : ComparesNumbers numbered) (gdef : List ℕ) (use_of : LookupUse) (table : List ℕ)
    → ((m : ℕ) → bit_and (without_flags m) use_of.mask ≡ bit_and m use_of.mask) → (g h : Glyph) → Beside compares.test g h
    → Paired compares.test (spread gdef use_of table g) (spread gdef use_of table h)
spread_paired numbered compares gdef use_of table flagless g h both =
    let seen : Bool = is_seen gdef use_of table g in
    let found : Option (List ℕ) = sequence_for table (g.glyph_id % 65536) in
    let sees : seen ≡ is_seen gdef use_of table h = seen_same gdef use_of table flagless g h both.alike in
    let finds : found ≡ sequence_for table (h.glyph_id % 65536) =
    ap (λ (x : Glyph). sequence_for table (x.glyph_id % 65536)) both.alike in
    subst (λ b. Paired compares.test (spread gdef use_of table g) (spread_by gdef b (sequence_for table (h.glyph_id % 65536)) h)) sees
    (subst (λ o. Paired compares.test (spread gdef use_of table g) (spread_by gdef seen o h)) finds
    (by_paired numbered compares gdef seen found g h both))
