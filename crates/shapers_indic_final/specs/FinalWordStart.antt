-- A left matra that begins a syllable: init at the start of a word, else no break before it; and
-- the whole text.
use Rattle.std.specs.Prelude.{ℕ, ◌+◌, ◌-◌, ◌==◌, ◌≡◌, Bool, ◌&&◌, ◌||◌, get_or, true, false, not, List, [], ◌∷◌, ◌++◌, length, map, take, drop, Option, None, Some, if◌then◌else◌}
use Rattle.shapers_buffer.specs.declared.buffer.category.hb_unicode_general_category_t.{hb_unicode_general_category_t}
use Rattle.shapers_buffer.specs.declared.buffer.category.hb_unicode_general_category_t.TheVariants.{Cf, Cn, Co, Cs, Ll, Lm, Lo, Lt, Lu, Mc, Me, Mn}
use Rattle.shapers_buffer.specs.Glyphs.{Glyph, Glyphs}
use Rattle.shapers_buffer.specs.declared.buffer.tag.Script.{Script}
use Rattle.shapers_buffer.specs.Buffer.{Buffer}
use Rattle.shapers_buffer.specs.Glyph.{default_glyph, order_view}
use Rattle.shapers_buffer.specs.GlyphFlags.{unsafe_inside, with_bits}
use Rattle.shapers_buffer.specs.Syllables.{syllables}
use Rattle.shapers_indic_final.specs.FinalMatras.{is_left}
use Rattle.shapers_indic_final.specs.FinalReordering.{final_order, final_steps}
use Rattle.shapers_indic_final.specs.declared.ot_shaper_indic_final.rules.Rules.{Rules}
use Rattle.shapers_syllabic.specs.Reordering.{SyllableReordered, SyllablesLinked, SyllablesReordered, carried}
use Rattle.shapers_buffer.specs.Properties.{general_category}

-- the categories that a word goes on behind: formats, letters, marks, and what has none
abbrev pub continues_word : hb_unicode_general_category_t → Bool
continues_word Cf = true
continues_word Cn = true
continues_word Co = true
continues_word Cs = true
continues_word Ll = true
continues_word Lm = true
continues_word Lo = true
continues_word Lt = true
continues_word Lu = true
continues_word Mc = true
continues_word Me = true
continues_word Mn = true
continues_word _ = false

-- whether a word goes on behind what stands before a syllable; at the start of the text none does
abbrev pub word_goes_on : Option Glyph → Bool
word_goes_on None = false
word_goes_on (Some g) = continues_word (general_category g.unicode_props)

-- a syllable behind a glyph, with the mask of init on a left matra that opens it and a word
abbrev pub with_init : ℕ → Option Glyph → Glyphs → Glyphs
with_init bits before [] = []
with_init bits before (g ∷ gs) =
    if is_left g && not (word_goes_on before) then with_bits bits g ∷ gs else g ∷ gs

-- whether it is opened by a left matra inside a word, so that a break before it is unsafe
abbrev pub is_bound : Option Glyph → Glyphs → Bool
is_bound before [] = false
is_bound before (g ∷ gs) = is_left g && word_goes_on before

-- the last glyph of a syllable, and what stood before it if it has none
abbrev pub last_or : {X : Type 0} → Option X → List X → Option X
last_or before [] = before
last_or before (x ∷ xs) = last_or (Some x) xs

-- syllables in their final order joined, each with its mask of init, by the glyph before it
abbrev pub with_inits : ℕ → Option Glyph → List Glyphs →
    Glyphs
with_inits bits before [] = []
with_inits bits before (syl ∷ syls) =
    with_init bits before syl ++ with_inits bits (last_or before syl) syls

-- the syllables of a text in their final order; and what the text becomes
abbrev pub final_syllables : Rules → Option Script → Glyphs →
    List Glyphs
final_syllables r script gs = map (final_order r script) (syllables gs)

abbrev pub final_text : Rules → Option Script → Glyphs → Glyphs
final_text r script gs = with_inits r.init None (final_syllables r script gs)

-- the glyphs with the break before place s unsafe, or as they are
abbrev pub bound_at : ℕ → Bool → Glyphs → Glyphs
bound_at s true gs = unsafe_inside (s - 1) (s + 1) gs
bound_at s false gs = gs

-- whether a syllable starts at a place: the text does, or its byte is not that of the one before
abbrev pub starts_syllable : ℕ → Glyphs → Bool
starts_syllable s gs =
    s == 0
    || not ((get_or gs s default_glyph).syllable == (get_or gs (s - 1) default_glyph).syllable)

-- what stands before a place; the glyphs with the syllable from there on opened by it
abbrev pub before_place : ℕ → Glyphs → Option Glyph
before_place s gs = last_or None (take s gs)

abbrev pub opened : ℕ → ℕ → Glyphs → Glyphs
opened bits s gs =
    let before = before_place s gs in
    bound_at s (is_bound before (drop s gs)) (take s gs ++ with_init bits before (drop s gs))

-- the glyphs with the breaks before these syllables, from place s on, unsafe where a word goes on
abbrev pub bound_from : ℕ → Option Glyph → List Glyphs →
    Glyphs → Glyphs
bound_from s before [] gs = gs
bound_from s before (syl ∷ syls) gs =
    bound_from (s + length syl) (last_or before syl) syls (bound_at s (is_bound before syl) gs)

-- The buffer before and after each of its syllables is opened: its order view has masks of init,
-- and to the view of what is carried along, cluster and glyph flags among it, breaks are unsafe.
pub record WordsStarted (bits : ℕ) (old new : Buffer) : Type 0 where
  pub others : new ≡ record old { glyphs = new.glyphs }
  pub order : order_view new.glyphs ≡ with_inits bits None (syllables (order_view old.glyphs))
  pub flags : map carried new.glyphs
      ≡ map carried (bound_from 0 None (syllables (order_view old.glyphs)) old.glyphs)

-- The buffer before and after the pause: all its syllables are reordered, and then opened.
abbrev pub FinallyReordered : Rules → Buffer → Buffer → Type 0
FinallyReordered r old new =
    (mid : Buffer)
    × SyllablesReordered (final_order r old.script) (final_steps r old.script) old mid
    × WordsStarted r.init mid new

-- the same with the reordering as a chain, one link a syllable
abbrev pub FinallyLinked : Rules → Buffer → Buffer → Type 0
FinallyLinked r old new =
    let link = SyllableReordered (final_order r old.script) (final_steps r old.script) in
    (mid : Buffer) × SyllablesLinked link old mid × WordsStarted r.init mid new
