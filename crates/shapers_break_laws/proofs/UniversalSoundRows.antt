-- Clear places of two syllables of the universal shaper in their forms, written out from the rules.
use Prim.Native.String.{String}
use Rattle.std.proofs.Common.{ℕ, ◌≡◌, true, List, [], ◌∷◌, map, refl, sym, arith}
use Rattle.std.specs.Prelude.{None, codes}
use Rattle.std.proofs.lemmas.Bool.{false≢true}
use Rattle.shapers_buffer.specs.Glyphs.{Glyph, Glyphs}
use Rattle.shapers_buffer.specs.declared.buffer.syllables.Span.{Span}
use Rattle.shapers_buffer.specs.Glyph.{default_glyph}
use Rattle.shapers_base.specs.Map.{Map}
use Rattle.shapers_base.specs.declared.map.feature_map_t.{feature_map_t}
use Rattle.shapers_base.specs.declared.plan.PlanData.{PlanData}
use Rattle.shapers_base.specs.declared.plan.PlanData.TheVariants.{Universal}
use Rattle.shapers_base.specs.declared.plan.breaks.BreakFlags.{BreakFlags}
use Rattle.shapers_base.specs.declared.plan.breaks.BreakFlags.TheVariants.{AsCode, Sound}
use Rattle.shapers_clusters.specs.Breaks.{IsClear}
use Rattle.shapers_universal.specs.UniversalLaws.{setup_by_spans}
use Rattle.shapers_universal.specs.UniversalSyllables.{forms_flagged}
use Rattle.shapers_break_laws.specs.UniversalSound.{flagless, sound_setup}

abbrev pub feature : String → ℕ → feature_map_t
feature tag mask = record { tag = record { 0 = codes tag }; mask = mask; stage = 0 }

abbrev pub map_of : List feature_map_t → Map
map_of features =
    record { features = features; stages = []; lookups = []; global = 8; chosen = None; found = true }

-- letters that don't join, without a mask of rphf
abbrev pub kept : PlanData
kept = Universal (record { rphf_mask = 0; arabic_plan = None })

-- a first and a last form; and four of one mask
abbrev pub ends : Map
ends = map_of (feature "init" 0x20 ∷ feature "fina" 0x80 ∷ [])

abbrev pub alike : Map
alike = map_of (feature "isol" 0x10 ∷ feature "init" 0x10 ∷ feature "medi" 0x10 ∷ feature "fina" 0x10 ∷ [])

abbrev pub glyph : ℕ → Glyph
glyph cluster = record default_glyph { cluster = cluster; category = 1 }

-- syllables of one glyph each: standard ones, kind 2, and what is in no cluster, kind 8
abbrev pub one : ℕ → List Span
one kind = record { len = 1; kind = kind } ∷ []

abbrev pub two : ℕ → List Span
two kind = record { len = 1; kind = 2 } ∷ one kind

abbrev setup : BreakFlags → Map → ℕ → Glyphs → Glyphs
setup breaks m kind gs = forms_flagged None breaks m (setup_by_spans kept m (two kind) gs)

abbrev pub rising : Glyphs
rising = glyph 0 ∷ glyph 1 ∷ []

abbrev pub falling : Glyphs
falling = glyph 1 ∷ glyph 0 ∷ []

abbrev pub masks : Glyphs → List ℕ
masks gs = map (λ g. g.mask) gs

-- the pair has forms that neither has alone: with Sound the place between isn't clear, and so where clusters fall
torn : masks (setup Sound ends 2 rising) ∷ masks (setup Sound ends 2 falling) ∷ []
    ≡ (0x20 ∷ 0x83 ∷ []) ∷ (0x23 ∷ 0x80 ∷ []) ∷ []
torn = refl

torn_alone : masks (sound_setup kept ends (one 2) (glyph 0 ∷ [])) ≡ 0 ∷ []
torn_alone = refl

torn_not_clear : IsClear (setup Sound ends 2 rising) 1 → ⊥
torn_not_clear clear = false≢true (sym clear.unflagged)

torn_falling_not_clear : IsClear (setup Sound ends 2 falling) 1 → ⊥
torn_falling_not_clear clear = false≢true (sym clear.unflagged)

-- with AsCode it is, though the halves have other masks
torn_as_code : IsClear (setup AsCode ends 2 rising) 1
torn_as_code = record { differ = λ e. absurd (omega arith); unflagged = refl }

-- what is in no cluster takes no form, and four forms of one mask don't differ: these places are clear, and the halves
-- have the masks of the whole
apart_clear : IsClear (setup Sound ends 8 rising) 1
apart_clear = record { differ = λ e. absurd (omega arith); unflagged = refl }

alike_clear : IsClear (setup Sound alike 2 rising) 1
alike_clear = record { differ = λ e. absurd (omega arith); unflagged = refl }

alike_whole : masks (sound_setup kept alike (two 2) rising) ≡ 0x10 ∷ 0x10 ∷ []
alike_whole = refl

alike_halves : masks (sound_setup kept alike (one 2) (glyph 0 ∷ [])) ∷ masks
    (sound_setup kept alike (one 2) (glyph 1 ∷ [])) ∷ [] ≡ (0x10 ∷ []) ∷ (0x10 ∷ []) ∷ []
alike_halves = refl

-- the three glyph flags don't show, those that Sound adds among them
flags_off : masks (flagless (record (glyph 0) { mask = 0x8F } ∷ [])) ≡ 0x88 ∷ []
flags_off = refl

sound_shown : masks (sound_setup kept ends (two 2) rising) ≡ 0x20 ∷ 0x80 ∷ []
sound_shown = refl
