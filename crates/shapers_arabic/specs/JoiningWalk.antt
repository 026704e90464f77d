-- Words for the walk along the letters of a text, which the contracts of its steps cite: the
-- table's cells and states, and what holds after some places.
use Rattle.std.specs.Prelude.{◌≡◌, ℕ, suc, ◌+◌, ◌-◌, ◌<◌, ◌==◌, map, Bool, true, false, ◌||◌, List, [], ◌∷◌, ◌++◌, length, take, reverse, slice_set, slice_index_or, Option, None, Some, if◌then◌else◌}
use Rattle.std.specs.List.{AllByRecursion}
use Rattle.shapers_buffer.specs.Buffer.{flags_concat, flags_tatweel, has_flag}
use Rattle.shapers_buffer.specs.GlyphFlags.{FlagCall, UnsafeToBreak, UnsafeToConcat, SafeToInsertTatweel, flags_called}
use Rattle.shapers_buffer.specs.declared.buffer.flags.BufferFlags.{BufferFlags}
use Rattle.shapers_buffer.specs.Glyphs.{Glyph, Glyphs}
use Rattle.shapers_base.specs.declared.plan.breaks.BreakFlags.{BreakFlags}
use Rattle.shapers_base.specs.declared.plan.breaks.BreakFlags.TheVariants.{AsCode, Sound}
use Rattle.shapers_base.specs.declared.plan.joining.hb_arabic_joining_type_t.{hb_arabic_joining_type_t}
use Rattle.shapers_base.specs.declared.plan.joining.hb_arabic_joining_type_t.TheVariants.{U, L, R, D, GroupAlaph, GroupDalathRish}
use Rattle.shapers_buffer.specs.declared.buffer.tag.Script.{Script}
use Rattle.shapers_arabic.specs.declared.ot_shaper_arabic.arabic_action_t.TheConstants.{NONE}
use Rattle.shapers_arabic.specs.declared.ot_shaper_arabic.joining.TheConstants.{STATE_TABLE}
use Rattle.shapers_arabic.specs.declared.ot_shaper_arabic.joining.Letters.{Letters}
use Rattle.shapers_arabic.specs.declared.ot_shaper_arabic.joining.State.{State}
use Rattle.shapers_arabic.specs.declared.ot_shaper_arabic.joining.State.TheVariants.{Start, Closed, Initial, Medial, JoinedAlaph, LaterAlaph, DalathRish}
use Rattle.shapers_arabic.specs.declared.ot_shaper_arabic.joining.Transition.{Transition}
use Rattle.shapers_arabic.specs.JoinedText.{is_mongolian, joined_glyphs, stored_types}
use Rattle.shapers_arabic.specs.JoiningFlags.{flags_along, joining_flags}
use Rattle.shapers_arabic.specs.Joining.{is_transparent, nearest, forms, is_selector, joins_on}
use Rattle.shapers_arabic.specs.SoundFlags.{is_second_or_third, is_taken}

-- the column of a letter
abbrev pub column_of : hb_arabic_joining_type_t → ℕ
column_of L = 1
column_of R = 2
column_of D = 3
column_of GroupAlaph = 4
column_of GroupDalathRish = 5
column_of _ = 0

-- the row of a state
abbrev pub row_of : State → ℕ
row_of Start = 0
row_of Closed = 1
row_of Initial = 2
row_of Medial = 3
row_of JoinedAlaph = 4
row_of LaterAlaph = 5
row_of DalathRish = 6

-- the cell of a state and a letter
abbrev pub cell : State → hb_arabic_joining_type_t → Transition
cell state t = slice_index_or (slice_index_or STATE_TABLE (row_of state) []) (column_of t)
    (record { 0 = NONE; 1 = NONE; 2 = Start })

-- the state behind an Alaph, by the letter before it
abbrev pub alaph_state : Option hb_arabic_joining_type_t → State
alaph_state (Some L) = JoinedAlaph
alaph_state (Some D) = JoinedAlaph
alaph_state (Some R) = LaterAlaph
alaph_state (Some GroupAlaph) = LaterAlaph
alaph_state (Some GroupDalathRish) = LaterAlaph
alaph_state _ = Closed

-- the state behind a letter, by the letter before it
abbrev pub state_of : Option hb_arabic_joining_type_t → hb_arabic_joining_type_t → State
state_of before L = Initial
state_of before R = Closed
state_of before D = if joins_on before then Medial else Initial
state_of before GroupAlaph = alaph_state before
state_of before GroupDalathRish = DalathRish
state_of before _ = Start

-- the form of a letter once the next one gave it another, or NONE to keep it
abbrev pub kept_or : ℕ → ℕ → ℕ
kept_or given own = if given == NONE then own else given

-- the state before a text, by the nearest type before it
abbrev pub state_at_start : Option hb_arabic_joining_type_t → State
state_at_start None = Start
state_at_start (Some t) = state_of None t

-- the last letter of a text stands at place k, and left this state
pub record LastLetter (before ts : List hb_arabic_joining_type_t) (state : State) (k : ℕ) :
    Type 0 where
  pub front : List hb_arabic_joining_type_t
  pub own : hb_arabic_joining_type_t
  pub tail : List hb_arabic_joining_type_t
  pub split : ts ≡ front ++ own ∷ tail
  pub place : length front ≡ k
  pub letter : is_transparent own ≡ false
  pub rest : nearest tail ≡ None
  pub state_is : state ≡ state_of (nearest (reverse front ++ before)) own

-- a text without a letter left the state before it
pub record NoLetter (before ts : List hb_arabic_joining_type_t) (state : State) : Type 0 where
  pub rest : nearest ts ≡ None
  pub state_is : state ≡ state_at_start (nearest before)

abbrev pub LastIs : List hb_arabic_joining_type_t → List hb_arabic_joining_type_t → State →
    Option ℕ → Type 0
LastIs before ts state None = NoLetter before ts state
LastIs before ts state (Some k) = LastLetter before ts state k

-- the forms, where the last letter takes the form that it is given
abbrev pub given_last : Option ℕ → ℕ → List ℕ → List ℕ
given_last None given fs = fs
given_last (Some k) given fs = if given == NONE then fs else slice_set fs k given

-- the forms, where the letter at place i joins the last one by this cell: that takes the form that
-- it is given, and the letter its own
abbrev pub joined_at : Option ℕ → Transition → ℕ → List ℕ → List ℕ
joined_at last step i fs = slice_set (given_last last step.0 fs) i step.1

-- the forms that are written in glyphs
abbrev pub written : Glyphs → List ℕ
written gs = map (λ g. g.auxiliary) gs

-- what holds after i places
pub record WalkedInJoining (before types : List hb_arabic_joining_type_t) (i : ℕ) (state : State)
    (last : Option ℕ) (fs : List ℕ) : Type 0 where
  pub last_is : LastIs before (take i types) state last
  pub forms_are : take i fs ≡ forms before (take i types) []
  pub long : length fs ≡ length types

-- whether the form of the last letter may still change, by the state that it left
abbrev pub waits : State → Bool
waits Initial = true
waits Medial = true
waits JoinedAlaph = true
waits LaterAlaph = true
waits _ = false

-- the flag calls where a letter that ends at the place end gives the last one, at k, this form, or
-- NONE, where that one's form may depend on such a letter
abbrev pub given_flags : ℕ → ℕ → ℕ → Bool → List FlagCall
given_flags k end given depends =
    if given == NONE then (if depends then UnsafeToConcat k end ∷ [] else [])
    else SafeToInsertTatweel k end ∷ []

-- the same, where there may be no last letter, and by whether the letter joins back
abbrev pub step_flags : Option ℕ → State → ℕ → ℕ → Bool → List FlagCall
step_flags None state end given joins = if joins then UnsafeToConcat 0 end ∷ [] else []
step_flags (Some k) state end given joins = given_flags k end given (joins || waits state)

-- the glyph without its form
abbrev pub unformed : Glyph → Glyph
unformed g = record g { auxiliary = 0 }

-- forms apart, the glyphs after these flag calls
abbrev pub FlaggedBy :
    BufferFlags → List FlagCall → Glyphs → Glyphs → Type 0
FlaggedBy flags calls gs hs =
    map unformed hs
    ≡ flags_called (has_flag flags_concat flags) (has_flag flags_tatweel flags) calls
    (map unformed gs)

-- what joining never changes of a glyph: all but its form and its mask
abbrev pub unjoined : Glyph → Glyph
unjoined g = record g { auxiliary = 0; mask = 0 }

abbrev pub SameText : Glyphs → Glyphs → Type 0
SameText gs hs = map unjoined hs ≡ map unjoined gs

-- what holds after i places of the first glyphs, which are gs by now: forms and flags of the text
-- so far
pub record WalkedTo (flags : BufferFlags) (before types : List hb_arabic_joining_type_t)
    (first : Glyphs) (i : ℕ) (state : State) (last : Option ℕ)
    (gs : Glyphs) : Type 0 where
  pub walked : WalkedInJoining before types i state last (written gs)
  pub flagged : FlaggedBy flags (flags_along before [] (take i types)) first gs

-- a step over the glyph at place i, which has this type: what held before it holds after it
abbrev pub WalksOn : BufferFlags → ℕ → hb_arabic_joining_type_t → Letters → Glyphs →
    Letters → Glyphs → Type 0
WalksOn flags i t letters gs next hs =
    (before types : List hb_arabic_joining_type_t) (first : Glyphs) →
    i < length types →
    slice_index_or types i U ≡ t →
    WalkedTo flags before types first i letters.state letters.last gs →
    WalkedTo flags before types first (i + 1) next.state next.last hs

-- the walk over all glyphs from this state on, behind all contexts that leave it
abbrev pub WalksAll : BufferFlags → (ℕ → hb_arabic_joining_type_t) → State →
    Glyphs → Letters → Glyphs → Type 0
WalksAll flags joining state gs letters hs =
    (before : List hb_arabic_joining_type_t) → state ≡ state_at_start (nearest before) →
    WalkedTo flags before (stored_types joining gs) gs (length gs) letters.state letters.last hs

-- glyphs with the forms and the flags of a text, before any mask
pub record HasJoined (flags : BufferFlags) (before types after : List hb_arabic_joining_type_t)
    (gs hs : Glyphs) : Type 0 where
  pub forms_are : written hs ≡ forms before types after
  pub flagged : FlaggedBy flags (joining_flags before types after) gs hs

-- these, between all contexts with these nearest types
abbrev pub JoinsTo : BufferFlags → (ℕ → hb_arabic_joining_type_t) →
    Option hb_arabic_joining_type_t →
    Option hb_arabic_joining_type_t → Glyphs → Glyphs → Type 0
JoinsTo flags joining before after gs hs =
    (front behind : List hb_arabic_joining_type_t) → nearest front ≡ before →
    nearest behind ≡ after →
    HasJoined flags front (stored_types joining gs) behind gs hs

-- the last letter stands before place i
abbrev pub IsWithin : Option ℕ → ℕ → Type 0
IsWithin None i = Unit {0}
IsWithin (Some k) i = k < i

-- the form that the nearest letter after the text gives
abbrev pub given_by : State → Option hb_arabic_joining_type_t → ℕ
given_by state None = NONE
given_by state (Some t) = (cell state t).0

-- the form of a glyph once the one before it is done: a selector takes its form
abbrev pub copied : Option ℕ → Glyph → ℕ
copied None g = g.auxiliary
copied (Some form) g = if is_selector g.glyph_id then form else g.auxiliary

-- each selector with the form of the glyph before it, one after another
abbrev pub with_copied : Option ℕ → Glyphs → Glyphs
with_copied previous [] = []
with_copied previous (g ∷ gs) =
    record g { auxiliary = copied previous g } ∷ with_copied (Some (copied previous g)) gs

-- no break inside the stretches of these calls, whatever the buffer wants
abbrev pub Called : List FlagCall → Glyphs → Glyphs → Type 0
Called calls gs hs = (concat tatweel : Bool) → hs ≡ flags_called concat tatweel calls gs

-- the calls that Sound adds at a letter that ends before place end, in its final form, behind the
-- last place with a form, if there is one
abbrev pub form_calls : Option ℕ → ℕ → ℕ → List FlagCall
form_calls None form end = if is_taken form then UnsafeToBreak 0 end ∷ [] else []
form_calls (Some k) form end = if is_second_or_third form then UnsafeToBreak k end ∷ [] else []

-- the same along these forms, of which the first is that of place i
abbrev pub form_calls_along : Option ℕ → ℕ → List ℕ → List FlagCall
form_calls_along last i [] = []
form_calls_along last i (f ∷ fs) =
    if f == NONE then form_calls_along last (suc i) fs
    else form_calls last f (suc i) ++ form_calls_along (Some i) (suc i) fs

-- a glyph's character and form
abbrev pub place_of : Glyph → ℕ × ℕ
place_of g = (g.glyph_id, g.auxiliary)

-- the form of a character in this form once the one before it is done
abbrev pub copied_form : Option ℕ → ℕ → ℕ → ℕ
copied_form None c own = own
copied_form (Some form) c own = if is_selector c then form else own

-- the calls that Sound adds along these characters and forms, of which the first is that of place
-- i, where a copied form isn't the character's own
abbrev pub copied_calls : Option ℕ → ℕ → List (ℕ × ℕ) → List FlagCall
copied_calls previous i [] = []
copied_calls previous i ((c, a) ∷ places) =
    let form = copied_form previous c a in
    (if form == a then [] else UnsafeToBreak (i - 1) (suc i) ∷ [])
    ++ copied_calls (Some form) (suc i) places

-- the calls that Sound adds at these glyphs
abbrev pub sound_calls_at : Option Script → Glyphs → List FlagCall
sound_calls_at script gs =
    form_calls_along None 0 (written gs)
    ++ (if is_mongolian script then copied_calls None 0 (map place_of gs) else [])

-- the same by the choice
abbrev pub calls_added : BreakFlags → Option Script → Glyphs → List FlagCall
calls_added AsCode script gs = []
calls_added Sound script gs = sound_calls_at script gs

-- the forms of the glyphs have masks
abbrev pub HaveMasks : Glyphs → Type 0
HaveMasks gs = AllByRecursion (λ g. g.auxiliary < 8) gs

-- what can be nearest in some context: nothing, or a type that isn't transparent
abbrev pub IsNearest : Option hb_arabic_joining_type_t → Type 0
IsNearest o = (ts : List hb_arabic_joining_type_t) × (nearest ts ≡ o)

-- the glyphs after joining, between all contexts with these nearest types
abbrev pub JoinsAll : BreakFlags → List ℕ → BufferFlags → Option Script →
    (ℕ → hb_arabic_joining_type_t) → Option hb_arabic_joining_type_t →
    Option hb_arabic_joining_type_t → Glyphs → Glyphs → Type 0
JoinsAll breaks masks flags script joining before after gs hs =
    (front behind : List hb_arabic_joining_type_t) → nearest front ≡ before →
    nearest behind ≡ after →
    hs ≡ joined_glyphs breaks masks flags script (record {
      before = front;
      characters = map (λ g. g.glyph_id) gs;
      types = stored_types joining gs;
      after = behind;
    }) gs
