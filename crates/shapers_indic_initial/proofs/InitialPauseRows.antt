-- The pause of the initial reordering, computed: positions by the font, circles, and the order of a text.
use Rattle.std.specs.Prelude.{◌≡◌, ℕ, ◌*◌, ◌+◌, ◌==◌, pos, true, false, [], ◌∷◌, ◌++◌, map, Option, None, Some, refl, if◌then◌else◌}
use Rattle.std.specs.List.{range_with_len}
use Rattle.shapers_buffer.specs.Glyphs.{Glyph, Glyphs}
use Rattle.shapers_buffer.specs.declared.buffer.refusal.ShaperError.TheVariants.{UnknownSyllable}
use Rattle.shapers_buffer.specs.Buffer.{Buffer, new_buffer}
use Rattle.shapers_buffer.specs.Glyph.{default_glyph}
use Rattle.shapers_base.specs.declared.font.GlyphId.{GlyphId}
use Rattle.shapers_base.specs.Font.{Font}
use Rattle.shapers_base.specs.Map.{Map}
use Rattle.shapers_indic.proofs.RowWords.{C, M, Repha, script, numbers_of, row_positions}
use Rattle.shapers_indic_initial.specs.InitialPause.{initial_refusal, with_positions_and_circles}
use Rattle.shapers_indic_initial.specs.InitialReordering.{initial_order}
use Rattle.shapers_indic_initial.specs.InitialRules.{initial_rules}
use Rattle.shapers_base.specs.declared.plan.indic.BaseSearch.TheVariants.{WithoutMedials}
use Rattle.shapers_base.specs.declared.plan.indic.ZeroContext.TheVariants.{OldSpec}
use Rattle.shapers_indic.specs.Plan.{indic_plan}
use Rattle.shapers_syllabic.specs.Reordering.{text_order}

abbrev empty_map : Map
empty_map = record { features = []; stages = []; lookups = []; global = 0; chosen = None; found = true }

-- a font with a dotted circle, glyph 500, that substitutes nothing
abbrev nominal : ℕ → Option GlyphId
nominal c = if c == 0x25CC then Some (record { 0 = 500 }) else None

abbrev font : Font
font = record { nominal = nominal; advance = λ _. pos 0; applies = λ _ _ _. false; offers = λ _. false }

-- a text of these glyphs with a broken syllable
abbrev text : Glyphs → Buffer
text gs = record (new_buffer 100) { glyphs = gs; script = script "Deva"; broken = true }

abbrev one : ℕ → ℕ → ℕ → ℕ → Glyph
one i byte c p = record default_glyph { glyph_id = i; cluster = i; syllable = byte; category = c; auxiliary = p }

-- syllables of one glyph: a broken one, fourteen of consonants, a broken one with the byte of the first
abbrev sixteen : Glyphs
sixteen = one 0 0x14 C 4 ∷ map (λ i. one (i + 1) ((i + 2) * 16) C 4) (range_with_len 0 14) ++ one 15 0x14 C 4 ∷ []

abbrev prepared : Glyphs → Glyphs
prepared gs =
    (with_positions_and_circles font empty_map (indic_plan WithoutMedials OldSpec (script "Deva") empty_map) (text gs)).glyphs

circles : numbers_of (prepared sixteen) ≡ 500 ∷ range_with_len 0 15 ++ 500 ∷ 15 ∷ []
circles = refl

circle_positions : row_positions (prepared (one 0 0x14 Repha 3 ∷ one 1 0x14 M 2 ∷ []))
    ∷ numbers_of (prepared (one 0 0x14 Repha 3 ∷ one 1 0x14 M 2 ∷ [])) ∷ [] ≡ (3 ∷ 14 ∷ 2 ∷ []) ∷ (0 ∷ 500 ∷ 1 ∷ [])
    ∷ []
circle_positions = refl

-- the order of a text: a left matra goes before the circle, which is the base, and not into the syllable before it
abbrev ordered : Glyphs → Glyphs
ordered gs = text_order
    (initial_order (initial_rules font empty_map (indic_plan WithoutMedials OldSpec (script "Deva") empty_map)) (script "Deva"))
    (prepared gs)

text_by_syllables : numbers_of (ordered (one 0 0x10 C 4 ∷ one 1 0x10 M 2 ∷ one 2 0x24 M 2 ∷ one 3 0x33 M 2 ∷ []))
    ∷ row_positions (ordered (one 0 0x10 C 4 ∷ one 1 0x10 M 2 ∷ one 2 0x24 M 2 ∷ one 3 0x33 M 2 ∷ [])) ∷ []
    ≡ (1 ∷ 0 ∷ 2 ∷ 500 ∷ 3 ∷ []) ∷ (2 ∷ 4 ∷ 2 ∷ 4 ∷ 2 ∷ []) ∷ []
text_by_syllables = refl

-- no circle without a broken syllable, or where the caller forbids it
abbrev glyphs_in : Buffer → Glyphs
glyphs_in b = (with_positions_and_circles font empty_map (indic_plan WithoutMedials OldSpec (script "Deva") empty_map) b).glyphs

none_broken : glyphs_in (record (text sixteen) { broken = false })
    ∷ glyphs_in (record (text sixteen) { flags = record { 0 = 0x20 } }) ∷ [] ≡ sixteen ∷ sixteen ∷ []
none_broken = refl

-- the first syllable of a kind above 5
refusals : map (λ byte. initial_refusal (text (sixteen ++ one 16 byte C 4 ∷ []))) (0x25 ∷ 0x26 ∷ 0x2F ∷ 0x60 ∷ [])
    ≡ None ∷ Some (UnknownSyllable 16) ∷ Some (UnknownSyllable 16) ∷ None ∷ []
refusals = refl
