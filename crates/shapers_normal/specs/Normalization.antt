-- The three rounds, one after another.
use Rattle.std.specs.Prelude.{ℕ, ◌==◌, nat_le, Bool, true, false, ◌&&◌, ◌||◌, [], ◌∷◌, drop, if◌then◌else◌}
use Rattle.std.specs.List.{list_any}
use Rattle.shapers_base.specs.declared.plan.record.NormalizationMode.{NormalizationMode}
use Rattle.shapers_base.specs.declared.plan.record.NormalizationMode.TheVariants as modes
use Rattle.shapers_buffer.specs.Glyphs.{Glyph, Glyphs}
use Rattle.shapers_buffer.specs.declared.buffer.level.BufferClusterLevel.{BufferClusterLevel}
use Rattle.shapers_buffer.specs.Properties.{HIDDEN, set_property}
use Rattle.shapers_normal.specs.Context.{Context}
use Rattle.shapers_normal.specs.Decomposition.{first_round}
use Rattle.shapers_normal.specs.Properties.{grapheme_joiner}
use Rattle.shapers_normal.specs.Recomposition.{recomposed}
use Rattle.shapers_normal.specs.Sorting.{class_of, is_mark_glyph, marks_ordered}
use Rattle.shapers_normal.specs.declared.ot_shape_normalize.normalizing.Rounds.{Rounds}
use Rattle.shapers_normal.specs.declared.ot_shape_normalize.normalizing.Rounds.TheVariants.{AsCode, Always}

-- a glyph that lookups don't see, where it is ignorable
abbrev pub unseen : Glyph → Glyph
unseen g = record g { unicode_props = set_property HIDDEN false g.unicode_props }

-- a grapheme joiner that lookups may pass over: it kept no marks apart, since the glyph behind it
-- has class 0, or no lesser one than the glyph before it
abbrev pub passes_over : ℕ → ℕ → Glyph → Glyph
passes_over before behind g =
    if g.glyph_id == grapheme_joiner && (behind == 0 || nat_le before behind)
    then unseen g else g

-- the glyphs behind one of this class, but for the last, with such joiners
abbrev pub shown_behind : ℕ → Glyphs → Glyphs
shown_behind before [] = []
shown_behind before (g ∷ []) = g ∷ []
shown_behind before (g ∷ (h ∷ gs)) =
    passes_over before (class_of h) g ∷ shown_behind (class_of g) (h ∷ gs)

-- a text with such joiners, which the first glyph and the last aren't
abbrev pub joiners_shown : Glyphs → Glyphs
joiners_shown [] = []
joiners_shown (g ∷ gs) = g ∷ shown_behind (class_of g) gs

-- whether marks are ordered and composed: always, or only where the text has a mark behind its
-- first place (HarfBuzz's short cut)
abbrev pub has_rounds : Rounds → Glyphs → Bool
has_rounds Always gs = true
has_rounds AsCode gs = list_any is_mark_glyph (drop 1 gs)

-- whether a shaper wants characters composed
abbrev pub composes : NormalizationMode → Bool
composes modes.NONE = false
composes _ = true

-- what follows the first round
abbrev pub later_rounds : Context → Bool → BufferClusterLevel → Glyphs →
    Glyphs
later_rounds context runs level gs =
    let shown = joiners_shown (if runs then marks_ordered context level gs else gs) in
    if runs && composes context.mode then recomposed context level shown else shown

-- the text normalized
abbrev pub normalized : Context → Rounds → BufferClusterLevel → Glyphs →
    Glyphs
normalized context rounds level gs =
    later_rounds context (has_rounds rounds gs) level (first_round context level gs)
