-- Rules and syllables for rows of the final reordering, and what is read of them.
use Prim.Native.String.{String}
use Rattle.std.specs.Prelude.{ℕ, zero, suc, List, [], ◌∷◌, Some}
use Rattle.shapers_buffer.specs.Glyphs.{Glyph, Glyphs}
use Rattle.shapers_buffer.specs.declared.buffer.level.BufferClusterLevel.TheVariants.{MonotoneGraphemes}
use Rattle.shapers_buffer.specs.Glyph.{clusters}
use Rattle.shapers_clusters.specs.Steps.{after_steps}
use Rattle.shapers_indic.specs.Plan.{config_of}
use Rattle.shapers_indic.proofs.RowWords.{numbers_of, row_positions, script}
use Rattle.shapers_indic_final.specs.FinalReordering.{final_order, final_steps}
use Rattle.shapers_indic_final.specs.declared.ot_shaper_indic_final.rules.Rules.{Rules}

-- the glyph at a place changed; given marks by their bits (0x10 substituted, 0x20 ligated, 0x40
-- multiplied); given a mask
abbrev pub changed_at : ℕ → (Glyph → Glyph) → Glyphs → Glyphs
changed_at i f [] = []
changed_at zero f (g ∷ gs) = f g ∷ gs
changed_at (suc i) f (g ∷ gs) = g ∷ changed_at i f gs

abbrev pub marks_at : ℕ → ℕ → Glyphs → Glyphs
marks_at i bits gs = changed_at i (λ g. record g { glyph_props = record { 0 = bits } }) gs

abbrev pub mask_given : ℕ → ℕ → Glyphs → Glyphs
mask_given i bits gs = changed_at i (λ g. record g { mask = bits }) gs

-- a glyph with the mask of pref that is unformed, and one that is formed
abbrev pub unformed_at : ℕ → Glyphs → Glyphs
unformed_at i gs = mask_given i 16 gs

abbrev pub formed_at : ℕ → Glyphs → Glyphs
formed_at i gs = marks_at i 0x30 (mask_given i 16 gs)

-- the rules of a script with virama's glyph 90, mask 16 for pref and 32 for init
abbrev pub rules : String → Rules
rules tag = record {
  reph_pos = (config_of (script tag)).reph_pos;
  virama = Some (record { 0 = 90 });
  pref = 16;
  init = 32;
}

-- order, clusters and positions of a syllable of a script after
abbrev pub reordered : String → Glyphs → List (List ℕ)
reordered tag gs =
    numbers_of (final_order (rules tag) (script tag) gs)
    ∷ clusters (after_steps MonotoneGraphemes (final_steps (rules tag) (script tag) gs) gs)
    ∷ row_positions (final_order (rules tag) (script tag) gs) ∷ []
