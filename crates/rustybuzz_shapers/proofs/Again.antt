-- What changes nothing when it is done again at once.
use Rattle.std.proofs.Common.{◌≡◌, ℕ, suc, ◌+◌, Bool, true, false, ◌||◌, ◌==◌, cond, List, [], ◌∷◌, length, map, take, drop, refl, ap, ◌∙◌, arith}
use Rattle.std.specs.List.{AllByRecursion, flat_map, list_any, prefix_len}
use Rattle.std.proofs.lemmas.List.{length-append, length-map, map-append, take-append-drop}
use Rattle.std.proofs.lemmas.List.Elements.{All-from_recursion, recursion_from_All}
use Rattle.std.proofs.lemmas.Nat.Bits.{and_pow, bit_at-lt}
use Rattle.shapers_base.specs.declared.plan.pause.Pause.TheVariants.{SetupSyllablesIndic, SetupSyllablesKhmer, SetupSyllablesMyanmar, RecordStch, RecordRphf, RecordPref, SyllabicClearVar, ClearSubstitutionFlags, ArabicFallbackShape}
use Rattle.shapers_buffer.proofs.MaskBits.{or_twice}
use Rattle.shapers_buffer.specs.Buffer.{Buffer}
use Rattle.shapers_buffer.specs.GlyphFlags.{flagged, with_bits, with_bits_off}
use Rattle.shapers_buffer.specs.declared.buffer.syllables.Span.{Span}
use Rattle.shapers_buffer.specs.Glyphs.{Glyph, Glyphs}
use Rattle.shapers_buffer.specs.Properties.{component, is_multiplied, is_substituted, without_bit}
use Rattle.shapers_buffer.specs.Syllables.{syllables, with_bytes}
use Rattle.shapers_base.specs.Masks.{has_bits}
use Rattle.shapers_stretch.specs.Recorded.{recorded, tile_action, with_tiles}
use Rattle.shapers_syllabic.specs.Borders.{spans_setup}
use Rattle.shapers_syllabic.proofs.Borders.{OfByte, syllables-mapped}
use Rattle.shapers_syllabic.proofs.CircleLaws.{joined-syllables}
use Rattle.shapers_universal.specs.UniversalSyllables.{first_recorded, in_category, rphf_recorded}
use Rattle.shapers_universal.specs.declared.ot_shaper_use.category.TheConstants.{R, VPre}
use Rattle.rustybuzz_shapers.specs.Again.{MasksOnce, PausesOnce}
use Rattle.rustybuzz_shapers.specs.declared.shaper.hb_ot_shaper_t.TheVariants.{Arabic, Hangul, Hebrew, MyanmarZawgyi, Thai, Universal}

-- a change of each glyph
each_once : (f : Glyph → Glyph) → ((g : Glyph) → f (f g) ≡ f g) → (gs : Glyphs) → map f (map f gs) ≡ map f gs
each_once f once [] = refl
each_once f once (g ∷ gs) = cc (once g, each_once f once gs)

-- of a buffer's glyphs
glyphs_once : (f : Glyphs → Glyphs) → ((gs : Glyphs) → f (f gs) ≡ f gs) → (old mid new : Buffer)
    → mid ≡ record old { glyphs = f old.glyphs } → new ≡ record mid { glyphs = f mid.glyphs } → new ≡ mid
glyphs_once = search arith

-- TILES
tile_once : (b : Bool) (g : Glyph) → is_multiplied g.glyph_props ≡ b → recorded (recorded g) ≡ recorded g
tile_once true g is = cc
tile_once false g is = cc

any_tile : (gs : Glyphs) → list_any (λ g. is_multiplied g.glyph_props) (map recorded gs)
    ≡ list_any (λ g. is_multiplied g.glyph_props) gs
any_tile [] = refl
any_tile (g ∷ gs) =
    ap (λ b. b || list_any (λ h. is_multiplied h.glyph_props) (map recorded gs)) (same (is_multiplied g.glyph_props) g)
    ∙ ap (λ b. is_multiplied g.glyph_props || b) (any_tile gs)
  where
    same : (b : Bool) (h : Glyph)
        → is_multiplied (cond b (record h { auxiliary = tile_action (component h.lig_props) }) h).glyph_props
        ≡ is_multiplied h.glyph_props
    same true h = refl
    same false h = refl

marked_once : (a b : Bool) → (a || (a || b)) ≡ (a || b)
marked_once true b = refl
marked_once false b = refl

stretches_once : (s : Bool) (old mid new : Buffer) → mid ≡ cond s (with_tiles old) old
    → new ≡ cond s (with_tiles mid) mid → new ≡ mid
stretches_once true old mid new first second = search (arith, each_once, tile_once, any_tile, marked_once)
stretches_once false old mid new first second = second

-- RECORDS of syllables
-- a change of each syllable that leaves its bytes
record Bytewise (f : Glyphs → Glyphs) : Type 0 where
  keeps : (byte : ℕ) (gs : Glyphs) → AllByRecursion (λ g. g.syllable ≡ byte) gs
      → AllByRecursion (λ g. g.syllable ≡ byte) (f gs)
  long : (gs : Glyphs) → length (f gs) ≡ length gs
  once : (gs : Glyphs) → f (f gs) ≡ f gs

of_byte : (f : Glyphs → Glyphs) → Bytewise f → (byte : ℕ) (gs : Glyphs) → OfByte byte gs → OfByte byte (f gs)
of_byte f w byte gs own =
    let P : Glyph → Type 0 = λ g. g.syllable ≡ byte in
    search (arith, own.some, w.long gs, All-from_recursion P (f gs) (w.keeps byte gs (recursion_from_All P gs own.all)))

twice_each : (f : Glyphs → Glyphs) → Bytewise f → (pieces : List Glyphs)
    → flat_map f (map f pieces) ≡ flat_map f pieces
twice_each f w [] = refl
twice_each f w (p ∷ ps) = cc (w.once p, twice_each f w ps)

syllables_once : (f : Glyphs → Glyphs) → Bytewise f → (gs : Glyphs)
    → flat_map f (syllables (flat_map f (syllables gs))) ≡ flat_map f (syllables gs)
syllables_once f w gs = cc (syllables-mapped f (of_byte f w) gs, twice_each f w (syllables gs))

-- the first glyph that a lookup put in
first_keeps : (c byte : ℕ) (gs : Glyphs) → AllByRecursion (λ g. g.syllable ≡ byte) gs
    → AllByRecursion (λ g. g.syllable ≡ byte) (first_recorded c gs)
first_keeps c byte [] own = tt
first_keeps c byte (g ∷ gs) own = search (arith, first_keeps c byte gs own.1)

first_long : (c : ℕ) (gs : Glyphs) → length (first_recorded c gs) ≡ length gs
first_long c [] = refl
first_long c (g ∷ gs) = search (arith, first_long c gs)

first_once : (c : ℕ) (gs : Glyphs) → first_recorded c (first_recorded c gs) ≡ first_recorded c gs
first_once c [] = refl
first_once c (g ∷ gs) =
    elim (is_substituted g.glyph_props) as (λ b. is_substituted g.glyph_props ≡ b
    → first_recorded c (cond b (in_category c g ∷ gs) (g ∷ first_recorded c gs))
    ≡ cond b (in_category c g ∷ gs) (g ∷ first_recorded c gs)) [
      | true ↦ λ is. ap (λ b. cond b (in_category c g ∷ gs) (in_category c g ∷ first_recorded c gs)) is
      | false ↦ λ is. ap
          (λ b. cond b (in_category c g ∷ first_recorded c gs) (g ∷ first_recorded c (first_recorded c gs))) is
          ∙ ap (λ hs. g ∷ hs) (first_once c gs)
    ] refl

-- among the leading glyphs with a mask, glyph by glyph
one_more : (k : ℕ) → 1 + k ≡ suc k
one_more = omega arith

leading_step : (mask : ℕ) (g : Glyph) (gs : Glyphs) → rphf_recorded mask (g ∷ gs) ≡ cond (has_bits mask g)
    (cond (is_substituted g.glyph_props) (in_category R g ∷ gs) (g ∷ rphf_recorded mask gs)) (g ∷ gs)
leading_step = search (arith, one_more, take-append-drop)

leading_keeps : (mask byte : ℕ) (gs : Glyphs) → AllByRecursion (λ g. g.syllable ≡ byte) gs
    → AllByRecursion (λ g. g.syllable ≡ byte) (rphf_recorded mask gs)
leading_keeps mask byte [] own = tt
leading_keeps mask byte (g ∷ gs) own = search (arith, leading_step, leading_keeps mask byte gs own.1)

leading_long : (mask : ℕ) (gs : Glyphs) → length (rphf_recorded mask gs) ≡ length gs
leading_long mask gs =
    let n = prefix_len (has_bits mask) gs in
    cc (
      length-append (first_recorded R (take n gs)) (drop n gs),
      first_long R (take n gs),
      length-append (take n gs) (drop n gs),
      take-append-drop n gs,
    )

leading_twice : (mask : ℕ) (g : Glyph) (gs : Glyphs)
    → rphf_recorded mask (rphf_recorded mask gs) ≡ rphf_recorded mask gs → (a b : Bool) → has_bits mask g ≡ a
    → is_substituted g.glyph_props ≡ b
    → rphf_recorded mask (cond a (cond b (in_category R g ∷ gs) (g ∷ rphf_recorded mask gs)) (g ∷ gs))
    ≡ cond a (cond b (in_category R g ∷ gs) (g ∷ rphf_recorded mask gs)) (g ∷ gs)
leading_twice mask g gs again true true has put = search (arith, leading_step)
leading_twice mask g gs again true false has put = search (arith, leading_step)
leading_twice mask g gs again false b has put = cc (leading_step mask g gs)

leading_once : (mask : ℕ) (gs : Glyphs) → rphf_recorded mask (rphf_recorded mask gs) ≡ rphf_recorded mask gs
leading_once mask [] = refl
leading_once mask (g ∷ gs) = search (arith, leading_step, leading_twice, leading_once mask gs)

-- THE SET-UP by spans
flagged_keeps : (m byte : ℕ) (gs : Glyphs) → AllByRecursion (λ g. g.syllable ≡ byte) gs
    → AllByRecursion (λ g. g.syllable ≡ byte) (map (with_bits_off 3 m) gs)
flagged_keeps m byte [] own = tt
flagged_keeps m byte (g ∷ gs) own = search (arith, flagged_keeps m byte gs own.1)

same_field : (read : Glyph → ℕ) → ((g : Glyph) → read (with_bits 3 g) ≡ read g)
    → (m : ℕ) (gs : Glyphs) → map read (map (with_bits_off 3 m) gs) ≡ map read gs
same_field read same m [] = refl
same_field read same m (g ∷ gs) = search (arith, same_field read same m gs)

bits_once : (m : ℕ) (g : Glyph) (b : Bool) → (g.cluster == m) ≡ b → with_bits_off 3 m (with_bits_off 3 m g)
    ≡ with_bits_off 3 m g
bits_once m g true is = cc
bits_once m g false is = cc (or_twice g.mask 3)

flagged_once : (gs : Glyphs) → flagged 3 (flagged 3 gs) ≡ flagged 3 gs
flagged_once = search (arith, same_field, each_once, bits_once)

flagged_bytewise : Bytewise (flagged 3)
flagged_bytewise = search (arith, flagged_keeps, length-map, flagged_once)

-- glyphs that have these bytes already
abbrev HaveBytes : List ℕ → List ℕ → Type 0
HaveBytes [] bs = Unit {0}
HaveBytes (s ∷ ss) [] = Unit {0}
HaveBytes (s ∷ ss) (b ∷ bs) = (s ≡ b) × HaveBytes ss bs

bytes_given : (gs : Glyphs) (bs : List ℕ) → HaveBytes (map (λ g. g.syllable) (with_bytes gs bs)) bs
bytes_given (g ∷ gs) (b ∷ bs) = (refl, bytes_given gs bs)
bytes_given _ _ = tt

bytes_stay : (gs : Glyphs) (bs : List ℕ) → HaveBytes (map (λ g. g.syllable) gs) bs → with_bytes gs bs ≡ gs
bytes_stay (g ∷ gs) (b ∷ bs) own = search (arith, bytes_stay gs bs own.1)
bytes_stay _ _ own = refl

pieces_bytes : (pieces : List Glyphs) → map (λ g. g.syllable) (flat_map (flagged 3) pieces)
    ≡ map (λ g. g.syllable) (flat_map (λ p. p) pieces)
pieces_bytes [] = refl
pieces_bytes (p ∷ ps) = search (arith, map-append, same_field, pieces_bytes ps)

setup_once : (spans : List Span) (kind : ℕ) (old mid new : Buffer) → mid ≡ spans_setup spans kind old
    → new ≡ spans_setup spans kind mid → new ≡ mid
setup_once = search (
  arith,
  bytes_stay,
  pieces_bytes,
  joined-syllables,
  bytes_given,
  syllables_once,
  flagged_bytewise,
  marked_once,
)

-- a bit that is taken away isn't there
taken_once : (n : ℕ) → without_bit 0x10 (without_bit 0x10 n) ≡ without_bit 0x10 n
taken_once n =
    let rest = without_bit 0x10 n in omega (arith, and_pow n 4, bit_at-lt n 4, and_pow rest 4, bit_at-lt rest 4)

pub pauses_once : PausesOnce
pauses_once RecordStch plan font spans old mid new only first second = search (arith, stretches_once)
pauses_once RecordRphf plan font spans old mid new only first second =
    search (arith, glyphs_once, syllables_once, leading_keeps, leading_long, leading_once)
pauses_once RecordPref plan font spans old mid new only first second =
    glyphs_once (λ gs. flat_map (first_recorded VPre) (syllables gs))
    (search (arith, syllables_once, first_keeps, first_long, first_once)) old mid new first second
pauses_once SyllabicClearVar plan font spans old mid new only first second = search (arith, glyphs_once, each_once)
pauses_once ClearSubstitutionFlags plan font spans old mid new only first second =
    search (arith, glyphs_once, each_once, taken_once)
pauses_once ArabicFallbackShape plan font spans old mid new only first second = second
pauses_once SetupSyllablesIndic plan font spans old mid new only first second = search (arith, setup_once)
pauses_once SetupSyllablesKhmer plan font spans old mid new only first second = search (arith, setup_once)
pauses_once SetupSyllablesMyanmar plan font spans old mid new only first second = search (arith, setup_once)
pauses_once _ plan font spans old mid new only first second = absurd cc

pub masks_once : MasksOnce
masks_once Hebrew plan tables old mid new only first second = second.1
masks_once MyanmarZawgyi plan tables old mid new only first second = second.1
masks_once Thai plan tables old mid new only first second = second.1
masks_once Arabic plan tables old mid new only first second = absurd cc
masks_once Hangul plan tables old mid new only first second = search (arith, glyphs_once, each_once, or_twice)
masks_once Universal plan tables old mid new only first second = absurd cc
masks_once _ plan tables old mid new only first second = search (arith, glyphs_once, each_once)
