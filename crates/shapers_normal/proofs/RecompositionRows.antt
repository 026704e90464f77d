-- The third round, and all three, on small texts.
use Rattle.std.specs.Prelude.{◌≡◌, ℕ, List, [], ◌∷◌, map, refl}
use Rattle.shapers_base.specs.declared.plan.record.NormalizationMode.{NormalizationMode}
use Rattle.shapers_base.specs.declared.plan.record.NormalizationMode.TheVariants.{NONE, AUTO, CD}
use Rattle.shapers_buffer.specs.declared.buffer.level.BufferClusterLevel.{BufferClusterLevel}
use Rattle.shapers_buffer.specs.declared.buffer.level.BufferClusterLevel.TheVariants.{MonotoneGraphemes, MonotoneCharacters, Characters}
use Rattle.shapers_buffer.specs.Glyph.{characters, clusters}
use Rattle.shapers_buffer.specs.Properties.{general_category}
use Rattle.shapers_normal.specs.Sorting.{class_of_mark}
use Rattle.shapers_normal.specs.Normalization.{joiners_shown, normalized}
use Rattle.shapers_normal.specs.Recomposition.{recomposed}
use Rattle.shapers_normal.specs.declared.ot_shape_normalize.normalizing.Rounds.{Rounds}
use Rattle.shapers_normal.specs.declared.ot_shape_normalize.normalizing.Rounds.TheVariants.{AsCode, Always}
use Rattle.shapers_normal.proofs.RowContext.{with_font, text}

abbrev font : List ℕ
font = 0x65 ∷ 0xEA ∷ 0x1EBF ∷ 0xE9 ∷ 0x301 ∷ 0x302 ∷ 0x308 ∷ 0x323 ∷ 0x9C7 ∷ 0x9BE ∷ 0x9CB ∷ 0x34F ∷ []

abbrev compose : List ℕ → List ℕ → List ℕ
compose font cs = characters (recomposed (with_font AUTO font) MonotoneGraphemes (text (with_font AUTO font) cs))

pair : compose font (0x65 ∷ 0x301 ∷ []) ≡ 0xE9 ∷ []
unfolding general_category
pair = refl

chain : compose font (0x65 ∷ 0x302 ∷ 0x301 ∷ []) ≡ 0x1EBF ∷ []
unfolding general_category
chain = refl

-- over a mark of a lesser class; not over one of its own class
over_lesser : compose font (0x65 ∷ 0x323 ∷ 0x301 ∷ []) ≡ 0xE9 ∷ 0x323 ∷ []
unfolding general_category class_of_mark
over_lesser = refl

blocked : compose font (0x65 ∷ 0x308 ∷ 0x301 ∷ []) ≡ 0x65 ∷ 0x308 ∷ 0x301 ∷ []
unfolding general_category class_of_mark
blocked = refl

-- a joiner, which has class 0, keeps apart
kept_apart : compose font (0x65 ∷ 0x34F ∷ 0x301 ∷ []) ≡ 0x65 ∷ 0x34F ∷ 0x301 ∷ []
unfolding general_category class_of_mark
kept_apart = refl

-- a mark of class 0 right behind the starter composes, and else is a starter
class_0 : compose font (0x9C7 ∷ 0x9BE ∷ []) ≡ 0x9CB ∷ []
unfolding general_category
class_0 = refl

class_0_apart : compose font (0x9C7 ∷ 0x323 ∷ 0x9BE ∷ []) ≡ 0x9C7 ∷ 0x323 ∷ 0x9BE ∷ []
unfolding general_category class_of_mark
class_0_apart = refl

-- what the font lacks isn't made; a letter doesn't compose; the next letter is the next starter
lacking : compose (0x65 ∷ 0x301 ∷ []) (0x65 ∷ 0x301 ∷ []) ≡ 0x65 ∷ 0x301 ∷ []
unfolding general_category
lacking = refl

next_starter : compose font (0x65 ∷ 0x65 ∷ 0x301 ∷ 0x65 ∷ 0x302 ∷ []) ≡ 0x65 ∷ 0xE9 ∷ 0xEA ∷ []
unfolding general_category class_of_mark
next_starter = refl

-- the first glyph is a starter, whatever it is
nothing : compose font [] ≡ []
nothing = refl

one : compose font (0x301 ∷ []) ≡ 0x301 ∷ []
one = refl

-- the starter takes the cluster of all that it took in, and of all between
abbrev compose_clusters : BufferClusterLevel → List ℕ → List ℕ
compose_clusters level cs = clusters (recomposed (with_font AUTO font) level (text (with_font AUTO font) cs))

together : compose_clusters MonotoneCharacters (0x65 ∷ 0x65 ∷ 0x323 ∷ 0x301 ∷ 0x65 ∷ []) ≡ 0 ∷ 1 ∷ 1 ∷ 4 ∷ []
unfolding general_category class_of_mark
together = refl

never_merged : compose_clusters Characters (0x65 ∷ 0x65 ∷ 0x323 ∷ 0x301 ∷ 0x65 ∷ []) ≡ 0 ∷ 1 ∷ 2 ∷ 4 ∷ []
unfolding general_category class_of_mark
never_merged = refl

-- what it becomes has the properties of its character, and its glyph
made : map {B = ℕ × ℕ} (λ g. (g.glyph_props.0, g.unicode_props.0))
    (recomposed (with_font AUTO font) MonotoneGraphemes (text (with_font AUTO font) (0x65 ∷ 0x301 ∷ [])))
    ≡ (0xE9, 0x0005) ∷ []
unfolding general_category
made = refl

-- a joiner is passed over where it kept nothing apart, but never at an end of the text
abbrev shown : List ℕ → List ℕ
shown cs = map (λ g. g.unicode_props.0) (joiners_shown (text (with_font AUTO font) cs))

kept_something : shown (0x65 ∷ 0x301 ∷ 0x34F ∷ 0x323 ∷ []) ≡ 0x0005 ∷ 0xE68C ∷ 0x00EC ∷ 0xDC8C ∷ []
unfolding general_category class_of_mark
kept_something = refl

kept_nothing : shown (0x65 ∷ 0x323 ∷ 0x34F ∷ 0x301 ∷ 0x301 ∷ 0x34F ∷ 0x301 ∷ []) ≡ 0x0005 ∷ 0xDC8C ∷ 0x00AC ∷ 0xE68C
    ∷ 0xE68C ∷ 0x00AC ∷ 0xE68C ∷ []
unfolding general_category class_of_mark
kept_nothing = refl

before_letter : shown (0x65 ∷ 0x301 ∷ 0x34F ∷ 0x65 ∷ []) ≡ 0x0005 ∷ 0xE68C ∷ 0x00AC ∷ 0x0005 ∷ []
unfolding general_category class_of_mark
before_letter = refl

at_ends : shown (0x34F ∷ 0x65 ∷ 0x34F ∷ []) ≡ 0x00EC ∷ 0x0005 ∷ 0x00EC ∷ []
at_ends = refl

-- all three rounds: what comes apart is sorted and composed
abbrev normal : NormalizationMode → Rounds → List ℕ → List ℕ
normal mode rounds cs =
    characters (normalized (with_font mode font) rounds MonotoneGraphemes (text (with_font mode font) cs))

three_rounds : normal AUTO AsCode (0xE9 ∷ 0x323 ∷ []) ≡ 0xE9 ∷ 0x323 ∷ []
unfolding general_category class_of_mark
three_rounds = refl

no_composition : normal NONE AsCode (0x65 ∷ 0x301 ∷ 0x323 ∷ []) ≡ 0x65 ∷ 0x323 ∷ 0x301 ∷ []
unfolding general_category class_of_mark
no_composition = refl

-- a text without marks behind its first place: as the code has it nothing is composed again
as_code : normal CD AsCode (0x1EBF ∷ 0xE9 ∷ []) ≡ 0x65 ∷ 0x302 ∷ 0x301 ∷ 0x65 ∷ 0x301 ∷ []
unfolding general_category
as_code = refl

as_code_in_longer : normal CD AsCode (0x1EBF ∷ 0xE9 ∷ 0x323 ∷ []) ≡ 0x1EBF ∷ 0xE9 ∷ 0x323 ∷ []
unfolding general_category class_of_mark
as_code_in_longer = refl

always : normal CD Always (0x1EBF ∷ 0xE9 ∷ []) ≡ 0x1EBF ∷ 0xE9 ∷ []
unfolding general_category class_of_mark
always = refl

mark_in_front : normal CD AsCode (0x323 ∷ 0xE9 ∷ []) ≡ 0x323 ∷ 0x65 ∷ 0x301 ∷ []
unfolding general_category
mark_in_front = refl

-- normalized again: where rounds don't run in each text, other characters
again : normal CD AsCode (0xE9 ∷ []) ≡ 0x65 ∷ 0x301 ∷ []
again = refl

and_again : normal CD AsCode (0x65 ∷ 0x301 ∷ []) ≡ 0xE9 ∷ []
unfolding general_category class_of_mark
and_again = refl
