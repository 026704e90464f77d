-- Reordering syllable by syllable: what a syllable becomes, and the merges and moves that lead
-- there.
use Rattle.std.specs.Prelude.{ℕ, ◌%◌, ◌+◌, ◌≡◌, Bool, true, false, List, [], ◌∷◌, Option, None, Some, option_map, length, map, IsOk, IsOkUnless, Result}
use Rattle.std.specs.List.{AllByRecursion, flat_map}
use Rattle.shapers_buffer.specs.Glyphs.{Glyph, Glyphs}
use Rattle.shapers_buffer.specs.Buffer.{Buffer, but_places}
use Rattle.shapers_buffer.specs.Clusters.{stretch_of, with_stretch}
use Rattle.shapers_buffer.specs.Glyph.{order_view}
use Rattle.shapers_buffer.specs.Properties.{no_marks}
use Rattle.shapers_buffer.specs.Syllables.{syllables, unknown_syllable}
use Rattle.shapers_base.specs.Font.{Font, dotted_circle}
use Rattle.shapers_buffer.specs.declared.buffer.refusal.ShaperError.{ShaperError}
use Rattle.shapers_buffer.specs.declared.buffer.refusal.ShaperError.TheVariants.{Memory, UnknownSyllable}
use Rattle.shapers_syllabic.specs.declared.ot_shaper_syllabic.circles.ScriptCircles.{ScriptCircles}
use Rattle.shapers_syllabic.specs.declared.ot_shaper_syllabic.circles.DottedCircles.{DottedCircles}
use Rattle.shapers_syllabic.specs.Circles.{circled, circles_for}
use Rattle.shapers_clusters.specs.Steps.{Step, after_steps, steps_along, widened}

-- What a reordering carries along: all but feature masks, category, auxiliary byte and what lookups
-- did to the glyph.
abbrev pub carried : Glyph → Glyph
carried g = record g { mask = g.mask % 8; glyph_props = no_marks; category = 0; auxiliary = 0 }

-- what a text becomes whose syllables each become what the meaning says: the text order
abbrev pub text_order : (Glyphs → Glyphs) → Glyphs →
    Glyphs
text_order meaning gs = flat_map meaning (syllables gs)

-- the steps of all syllables of a text, one after another, as steps over its places
abbrev pub text_steps : (Glyphs → List Step) → Glyphs → List Step
text_steps steps gs =
    steps_along (length gs) 0 (map (λ syl. (length syl, steps syl)) (syllables gs))

-- how many glyphs stand in some syllables: where the next one stands
abbrev pub glyphs_before : List Glyphs → ℕ
glyphs_before before = length (flat_map (λ piece. piece) before)

-- the glyph numbers of each syllable of a text, and what an order requires of each of them
abbrev pub glyph_numbers : Glyphs → List ℕ
glyph_numbers gs = map (λ g. g.glyph_id) gs

abbrev pub TakesText : (List ℕ → Type 0) → Glyphs → Type 0
TakesText takes gs = AllByRecursion takes (map glyph_numbers (syllables gs))

-- an order that may refuse does so for want of memory alone, and another never does
abbrev pub RefusesIf : {T : Type 0} → Bool → Result T ShaperError → Type 0
RefusesIf true result = IsOkUnless result Memory
RefusesIf false result = IsOk result

-- The buffer before and after the syllable from s to e is ordered: its order view becomes what the
-- meaning says.
pub record SyllableOrdered (meaning : Glyphs →
    Glyphs) (s e : ℕ) (old new : Buffer) : Type 0 where
  pub others : but_places new ≡ record (but_places old) { glyphs = new.glyphs }
  pub order : order_view new.glyphs ≡ with_stretch s e meaning (order_view old.glyphs)

-- the same of a whole text: the order view is the text order, and the placement list is empty
pub record TextOrdered (meaning : Glyphs →
    Glyphs) (old new : Buffer) : Type 0 where
  pub others : new ≡ record old { glyphs = new.glyphs; places = [] }
  pub order : order_view new.glyphs ≡ text_order meaning (order_view old.glyphs)

-- A chain from one buffer to another: a link for each stretch of these lengths, the first from this
-- place on, each other one from the end of the last. Behind all the placement list is emptied.
abbrev pub Chain : (ℕ → ℕ → Buffer → Buffer → Type 0) → ℕ → List ℕ → Buffer → Buffer → Type 0
Chain link start [] old new = new ≡ but_places old
Chain link start (len ∷ lens) old new =
    (mid : Buffer) × link start (start + len) old mid × Chain link (start + len) lens mid new

-- how long the syllables of a text are; a chain over it, with one link a syllable
abbrev pub syllable_lens : Glyphs → List ℕ
syllable_lens gs = map length (syllables gs)

abbrev pub SyllablesLinked : (ℕ → ℕ → Buffer → Buffer → Type 0) → Buffer → Buffer → Type 0
SyllablesLinked link old new = Chain link 0 (syllable_lens old.glyphs) old new

-- The buffer before and after the syllable from s to e is reordered: its order view becomes what
-- the meaning says, and to the view of what is carried along, cluster and glyph flags among it, the
-- glyphs are those that the steps lead to.
pub record SyllableReordered (meaning : Glyphs →
    Glyphs) (steps : Glyphs →
    List Step) (s e : ℕ) (old new : Buffer) : Type 0 where
  pub others : but_places new ≡ record (but_places old) { glyphs = new.glyphs }
  pub order : order_view new.glyphs ≡ with_stretch s e meaning (order_view old.glyphs)
  pub moved : map carried new.glyphs
      ≡ map carried (after_steps old.level (map (widened s e (length old.glyphs))
      (steps (stretch_of s e (order_view old.glyphs)))) old.glyphs)

-- The same of a whole text: its order view is the text order, and all steps lead to its glyphs.
pub record SyllablesReordered (meaning : Glyphs →
    Glyphs) (steps : Glyphs →
    List Step) (old new : Buffer) : Type 0 where
  pub others : new ≡ record old { glyphs = new.glyphs; places = [] }
  pub order : order_view new.glyphs ≡ text_order meaning (order_view old.glyphs)
  pub moved : map carried new.glyphs
      ≡ map carried (after_steps old.level (text_steps steps (order_view old.glyphs)) old.glyphs)

-- the circles that a buffer of a script gets, where the font has a glyph for them
abbrev pub script_circles : ScriptCircles → Font → Buffer → Option DottedCircles
script_circles script font b =
    let glyph = font.nominal dotted_circle in
    circles_for glyph script.broken_kind script.category script.repha script.position b

-- the first place of the first syllable of unknown kind, where there is a last known kind, and the
-- refusal that it gives
abbrev pub first_unknown : Option ℕ → Glyphs → Option ℕ
first_unknown None gs = None
first_unknown (Some last) gs = unknown_syllable last gs

abbrev pub kind_refusal : Option ℕ → Glyphs → Option ShaperError
kind_refusal last gs = option_map (λ place. UnknownSyllable place) (first_unknown last gs)

-- A reordering pause: dotted circles come into the text, and then its syllables are reordered.
abbrev pub PauseReordered : Option DottedCircles → (Glyphs → Glyphs) →
    (Glyphs → List Step) → Buffer → Buffer → Type 0
PauseReordered circles meaning steps old new =
    SyllablesReordered meaning steps (record old { glyphs = circled circles old.glyphs }) new

-- the same as a chain: with its circles, each syllable of the text is reordered for itself
abbrev pub PauseLinked : Option DottedCircles → (ℕ → ℕ → Buffer → Buffer → Type 0) → Buffer →
    Buffer → Type 0
PauseLinked circles link old new =
    SyllablesLinked link (record old { glyphs = circled circles old.glyphs }) new
