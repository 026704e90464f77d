-- What joining makes of a text: the form of each glyph, and how the halves of a text act.
use Rattle.std.specs.Prelude.{ℕ, suc, ◌≡◌, ◌+◌, ◌≤◌, nat_eq, bit_or, Bool, false, List, [], ◌∷◌, ◌++◌, length, map, take, drop, reverse, slice_index, is_some, true, ◌⊎◌, Option, None, Some, codes, if◌then◌else◌}
use Rattle.std.specs.List.{prefix_len, zip}
use Rattle.std.specs.Char.{IsScalar}
use Rattle.std.specs.List.{AllByRecursion}
use Rattle.std.specs.Cmp.Lexicographic.{pointwise}
use Rattle.shapers_buffer.specs.Buffer.{Buffer, flags_concat, flags_tatweel, has_flag}
use Rattle.shapers_buffer.specs.GlyphFlags.{FlagCall, flags_called}
use Rattle.shapers_buffer.specs.Properties.{general_category}
use Rattle.shapers_buffer.specs.declared.buffer.flags.BufferFlags.{BufferFlags}
use Rattle.shapers_buffer.specs.declared.buffer.category.hb_unicode_general_category_t.{hb_unicode_general_category_t}
use Rattle.shapers_buffer.specs.Glyphs.{Glyph, Glyphs}
use Rattle.shapers_buffer.specs.declared.buffer.tag.Script.{Script}
use Rattle.shapers_base.specs.declared.plan.breaks.BreakFlags.{BreakFlags}
use Rattle.shapers_base.specs.declared.plan.breaks.BreakFlags.TheVariants.{AsCode, Sound}
use Rattle.shapers_base.specs.declared.plan.joining.hb_arabic_joining_type_t.{hb_arabic_joining_type_t}
use Rattle.shapers_arabic.specs.Joining.{resolved, nearest, is_transparent, forms, is_selector, selected}
use Rattle.shapers_arabic.specs.JoiningFlags.{joining_flags}
use Rattle.shapers_arabic.specs.SoundFlags.{form_flags_along, selector_flags}

-- whether the script is Mongolian
abbrev pub is_mongolian : Option Script → Bool
is_mongolian None = false
is_mongolian (Some s) = pointwise nat_eq s.0 (codes "Mong")

-- the types of glyphs, where the stored category decides X
abbrev pub stored_types : (ℕ → hb_arabic_joining_type_t) → Glyphs →
    List hb_arabic_joining_type_t
stored_types joining gs =
    map (λ g. resolved (joining g.glyph_id) (general_category g.unicode_props)) gs

-- the types of characters, where the table's own category decides X
abbrev pub context_types : (ℕ → hb_arabic_joining_type_t) → (ℕ → hb_unicode_general_category_t) →
    List ℕ → List hb_arabic_joining_type_t
context_types joining general cs = map (λ c. resolved (joining c) (general c)) cs

-- a text, as joining sees it: types before it, nearest first, characters and types, types after it
pub record Text : Type 0 where
  pub before : List hb_arabic_joining_type_t
  pub characters : List ℕ
  pub types : List hb_arabic_joining_type_t
  pub after : List hb_arabic_joining_type_t

-- the text of a buffer between its contexts
abbrev pub text_of : (ℕ → hb_arabic_joining_type_t) → (ℕ → hb_unicode_general_category_t) → Buffer →
    Text
text_of joining general b = record {
  before = context_types joining general b.before;
  characters = map (λ g. g.glyph_id) b.glyphs;
  types = stored_types joining b.glyphs;
  after = context_types joining general b.after;
}

-- the form of each place: by the joining rule, and then, if Mongolian, by the selector rule
abbrev pub forms_of : Option Script → Text → List ℕ
forms_of script text =
    let by_rule = forms text.before text.types text.after in
    if is_mongolian script then selected [] (zip text.characters by_rule) else by_rule

-- the glyph in a form: the form in its auxiliary byte, and the form's mask besides its own
abbrev pub with_form : List ℕ → ℕ → Glyph → Glyph
with_form masks form g =
    record g { auxiliary = form; mask = bit_or g.mask (slice_index masks form) }

-- each glyph in its form
abbrev pub with_joining_forms : List ℕ → List ℕ → Glyphs → Glyphs
with_joining_forms masks forms gs = map (λ p. with_form masks p.0 p.1) (zip forms gs)

-- what Sound flags besides: forms that the text's pieces would lose, and copied ones if Mongolian
abbrev pub added_calls : Option Script → Text → List FlagCall
added_calls script text =
    let by_rule = forms text.before text.types text.after in
    let copied = selector_flags [] (zip text.characters by_rule) in
    form_flags_along text.before [] text.types text.after
    ++ (if is_mongolian script then copied else [])

-- all flags of joining in a text, by the choice of break flags
abbrev pub flag_calls : BreakFlags → Option Script → Text → List FlagCall
flag_calls AsCode script text = joining_flags text.before text.types text.after
flag_calls Sound script text =
    joining_flags text.before text.types text.after ++ added_calls script text

-- the glyphs of a text after joining: each in its form, with those flags that the buffer wants
abbrev pub joined_glyphs : BreakFlags → List ℕ → BufferFlags → Option Script → Text →
    Glyphs → Glyphs
joined_glyphs breaks masks flags script text gs =
    let calls = flag_calls breaks script text in
    let formed = with_joining_forms masks (forms_of script text) gs in
    flags_called (has_flag flags_concat flags) (has_flag flags_tatweel flags) calls formed

-- the buffer after joining: nothing but its glyphs changes
abbrev pub buffer_joined : BreakFlags → List ℕ → Option Script → (ℕ → hb_arabic_joining_type_t) →
    (ℕ → hb_unicode_general_category_t) → Buffer → Buffer
buffer_joined breaks masks script joining general b =
    let text = text_of joining general b in
    record b { glyphs = joined_glyphs breaks masks b.flags script text b.glyphs }

-- how many characters of a context are looked up: up to the first that isn't transparent, and that
-- one
abbrev pub context_look_ups : List hb_arabic_joining_type_t → ℕ
context_look_ups [] = 0
context_look_ups (t ∷ ts) = if is_transparent t then suc (context_look_ups ts) else 1

-- how many joining types are looked up: one for each glyph, and those of the contexts
abbrev pub look_ups : Text → ℕ
look_ups text = length text.types + (context_look_ups text.before + context_look_ups text.after)

-- the glyphs are characters
abbrev pub AreCharacters : Glyphs → Type 0
AreCharacters gs = AllByRecursion (λ g. IsScalar g.glyph_id) gs

-- the halves of a text that is cut at place n, each with what it sees of the other
abbrev pub first_half : ℕ → List hb_arabic_joining_type_t → Text → Text
first_half n inner text =
    record text { characters = take n text.characters; types = take n text.types; after = inner }

abbrev pub second_half : ℕ → List hb_arabic_joining_type_t → Text → Text
second_half n inner text =
    record text { before = inner; characters = drop n text.characters; types = drop n text.types }

-- the inner contexts show the neighbours: their nearest letters are those of the whole text there
pub record ShowNeighbours (n : ℕ) (text : Text) (inner_after inner_before : List
    hb_arabic_joining_type_t) : Type 0 where
  pub onward : nearest inner_after ≡ nearest (drop n text.types ++ text.after)
  pub backward : nearest inner_before ≡ nearest (reverse (take n text.types) ++ text.before)

-- how many selectors begin the second half, with the script Mongolian alone
abbrev pub opening : Option Script → List ℕ → ℕ
opening script characters = if is_mongolian script then prefix_len is_selector characters else 0

-- these forms are the halves' joined; only the selectors that begin the second half may differ
pub record ActAsHalves (script : Option Script) (n : ℕ) (text : Text) (inner_after inner_before :
    List hb_arabic_joining_type_t) (whole : List ℕ) : Type 0 where
  pub first : take n whole ≡ forms_of script (first_half n inner_after text)
  pub second : drop (n + opening script (drop n text.characters)) whole
      ≡ drop (opening script (drop n text.characters))
      (forms_of script (second_half n inner_before text))

-- the law of the cut: at every place, for all inner contexts that show the neighbours
abbrev pub HoldsCut : Option Script → Text → List ℕ → Type 0
HoldsCut script text whole =
    (n : ℕ) (inner_after inner_before : List hb_arabic_joining_type_t) → n ≤ length text.types →
    ShowNeighbours n text inner_after inner_before →
    ActAsHalves script n text inner_after inner_before whole

-- the law of the cut for what joining left in the auxiliary bytes
abbrev pub CutsAsHalves : Option Script → (ℕ → hb_arabic_joining_type_t) →
    (ℕ → hb_unicode_general_category_t) → Buffer → Buffer → Type 0
CutsAsHalves script joining general old new =
    HoldsCut script (text_of joining general old) (map (λ g. g.auxiliary) new.glyphs)

-- what a context of at most five characters copied from a text shows: a letter, or the text's end
abbrev pub Shows : List hb_arabic_joining_type_t → Type 0
Shows ts = (is_some (nearest (take 5 ts)) ≡ true) ⊎ (length ts ≤ 5)

-- the law of copied contexts: where they show something they show the neighbours
abbrev pub CopiedContextsShow : Type 0
CopiedContextsShow = (n : ℕ) (text : Text) → Shows (drop n text.types ++ text.after) →
    Shows (reverse (take n text.types) ++ text.before) →
    ShowNeighbours n text (take 5 (drop n text.types ++ text.after))
    (take 5 (reverse (take n text.types) ++ text.before))

-- the stored categories are those of the table
abbrev pub AgreesWithTable : (ℕ → hb_unicode_general_category_t) → Glyphs → Type 0
AgreesWithTable general gs =
    AllByRecursion (λ g. general_category g.unicode_props ≡ general g.glyph_id) gs

-- the halves of a buffer that is cut at place n, each with a context copied from the other
abbrev pub first_of : ℕ → Buffer → Buffer
first_of n b = record b {
  glyphs = take n b.glyphs;
  after = take 5 (map (λ g. g.glyph_id) (drop n b.glyphs) ++ b.after);
}

abbrev pub second_of : ℕ → Buffer → Buffer
second_of n b = record b {
  glyphs = drop n b.glyphs;
  before = take 5 (reverse (map (λ g. g.glyph_id) (take n b.glyphs)) ++ b.before);
}

-- the forms of the whole are those of these halves, selectors that begin the second apart
pub record HalvesAgree (script : Option Script) (joining : ℕ →
    hb_arabic_joining_type_t) (general : ℕ →
    hb_unicode_general_category_t) (n : ℕ) (b : Buffer) : Type 0 where
  pub first : take n (forms_of script (text_of joining general b))
      ≡ forms_of script (text_of joining general (first_of n b))
  pub second : let k = opening script (map (λ g. g.glyph_id) (drop n b.glyphs)) in
      drop (n + k) (forms_of script (text_of joining general b))
      ≡ drop k (forms_of script (text_of joining general (second_of n b)))

-- the law of the cut for halves with copied contexts, where stored categories agree with the
-- table's
abbrev pub CopiedContextsCut : Type 0
CopiedContextsCut = (script : Option Script) (joining : ℕ → hb_arabic_joining_type_t)
    (general : ℕ → hb_unicode_general_category_t) (b : Buffer) (n : ℕ) → n ≤ length b.glyphs →
    AgreesWithTable general b.glyphs →
    Shows (stored_types joining (drop n b.glyphs) ++ context_types joining general b.after) →
    Shows (reverse (stored_types joining (take n b.glyphs))
    ++ context_types joining general b.before) → HalvesAgree script joining general n b
