-- Where a text may be broken, as far as joining goes.
use Rattle.std.specs.Prelude.{ℕ, ◌≡◌, ◌<◌, ◌↔◌, List, [], ◌++◌, length, take, drop, Option}
use Rattle.shapers_buffer.specs.Buffer.{Buffer}
use Rattle.shapers_buffer.specs.Glyph.{order_view}
use Rattle.shapers_buffer.specs.declared.buffer.category.hb_unicode_general_category_t.{hb_unicode_general_category_t}
use Rattle.shapers_buffer.specs.declared.buffer.tag.Script.{Script}
use Rattle.shapers_base.specs.declared.plan.breaks.BreakFlags.{BreakFlags}
use Rattle.shapers_base.specs.declared.plan.breaks.BreakFlags.TheVariants.{AsCode, Sound}
use Rattle.shapers_base.specs.declared.plan.joining.hb_arabic_joining_type_t.{hb_arabic_joining_type_t}
use Rattle.shapers_buffer.specs.GlyphFlags.{FlagCall}
use Rattle.shapers_clusters.specs.Breaks.{IsFree, IsClear}
use Rattle.shapers_arabic.specs.Fresh.{IsFresh, SelectorsAreTransparent}
use Rattle.shapers_arabic.specs.Joining.{forms}
use Rattle.shapers_arabic.specs.JoiningFlags.{joining_flags}
use Rattle.shapers_arabic.specs.SoundFlags.{form_flags_along}
use Rattle.shapers_arabic.specs.JoinedText.{Text, text_of, added_calls, buffer_joined}

-- all flags of a text of these types with Sound, selectors apart
abbrev pub sound_flags : List hb_arabic_joining_type_t → List hb_arabic_joining_type_t →
    List hb_arabic_joining_type_t → List FlagCall
sound_flags before types after =
    joining_flags before types after ++ form_flags_along before [] types after

-- the text may be broken behind ts: its forms are those of the halves, each with nothing at the cut
abbrev pub MayBreak : List hb_arabic_joining_type_t → List hb_arabic_joining_type_t →
    List hb_arabic_joining_type_t → List hb_arabic_joining_type_t → Type 0
MayBreak before ts us after =
    forms before (ts ++ us) after ≡ forms before ts [] ++ forms [] us after

-- what joining flags by itself are the places where the first half, cut off, loses a form
abbrev pub AsCodeLaw : Type 0
AsCodeLaw = (before ts us after : List hb_arabic_joining_type_t) → 0 < length us →
    IsFree (joining_flags before (ts ++ us) after) (length ts)
    ↔ (forms before ts (us ++ after) ≡ forms before ts [])

-- with Sound a place has no flag of joining exactly where the text may be broken
abbrev pub ExactLaw : Type 0
ExactLaw = (before ts us after : List hb_arabic_joining_type_t) → 0 < length ts → 0 < length us →
    IsFree (sound_flags before (ts ++ us) after) (length ts) ↔ MayBreak before ts us after

-- the halves of a buffer that is cut at place n, each with nothing at the cut
abbrev pub front_at : ℕ → Buffer → Buffer
front_at n b = record b { glyphs = take n b.glyphs; after = [] }

abbrev pub back_at : ℕ → Buffer → Buffer
back_at n b = record b { glyphs = drop n b.glyphs; before = [] }

-- the buffer after joining has at place n what its halves have, each joined by itself: all but
-- clusters and glyph flags
abbrev pub BreaksAt : BreakFlags → List ℕ → Option Script → (ℕ → hb_arabic_joining_type_t) →
    (ℕ → hb_unicode_general_category_t) → Buffer → Buffer → ℕ → Type 0
BreaksAt breaks masks script joining general old new n =
    order_view new.glyphs
    ≡ order_view (buffer_joined breaks masks script joining general (front_at n old)).glyphs
    ++ order_view (buffer_joined breaks masks script joining general (back_at n old)).glyphs

-- what has to be free besides: with AsCode none of the calls that Sound adds reaches over the place
abbrev pub IsSpared : BreakFlags → Option Script → Text → ℕ → Type 0
IsSpared AsCode script text n = IsFree (added_calls script text) n
IsSpared Sound script text n = Unit {0}

-- the text may be broken at each clear place: with Sound at all of them
abbrev pub BreaksWhereClear : BreakFlags → List ℕ → Option Script →
    (ℕ → hb_arabic_joining_type_t) → (ℕ → hb_unicode_general_category_t) → Buffer → Buffer → Type 0
BreaksWhereClear breaks masks script joining general old new =
    (n : ℕ) → 0 < n → n < length old.glyphs → IsClear new.glyphs n →
    IsSpared breaks script (text_of joining general old) n →
    BreaksAt breaks masks script joining general old new n

-- and no flag of Sound is needless: in a fresh text whose selectors are transparent, or that isn't
-- Mongolian, each place where the text may be broken is clear
abbrev pub NoneNeedless : BreakFlags → List ℕ → Option Script → (ℕ → hb_arabic_joining_type_t) →
    (ℕ → hb_unicode_general_category_t) → Buffer → Buffer → Type 0
NoneNeedless breaks masks script joining general old new =
    breaks ≡ Sound → IsFresh masks old.glyphs →
    SelectorsAreTransparent script (text_of joining general old) →
    (n : ℕ) → 0 < n → n < length old.glyphs →
    BreaksAt breaks masks script joining general old new n → IsClear new.glyphs n
