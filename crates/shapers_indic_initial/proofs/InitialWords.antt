-- Rules for rows of the initial reordering.
use Prim.Native.String.{String}
use Rattle.std.specs.Prelude.{ℕ, zero, suc, nat_eq, Bool, false, List, [], ◌∷◌, map, Option}
use Rattle.std.specs.Cmp.Lexicographic.{pointwise}
use Rattle.shapers_buffer.specs.Glyphs.{Glyphs}
use Rattle.shapers_buffer.specs.declared.buffer.tag.Script.{Script}
use Rattle.shapers_buffer.specs.declared.buffer.level.BufferClusterLevel.TheVariants.{MonotoneGraphemes}
use Rattle.shapers_buffer.specs.Glyph.{clusters}
use Rattle.shapers_base.specs.declared.font.GlyphId.{GlyphId}
use Rattle.shapers_base.specs.declared.plan.indic.BaseSearch.TheVariants.{WithoutMedials}
use Rattle.shapers_clusters.specs.Steps.{after_steps}
use Rattle.shapers_indic.specs.Plan.{config_of}
use Rattle.shapers_indic.proofs.RowWords.{with_row_marks, row_masks, numbers_of, script}
use Rattle.shapers_indic_initial.specs.InitialReordering.{initial_order, initial_steps}
use Rattle.shapers_indic_initial.specs.InitialRules.{Rules}

-- whether the glyphs asked about are these
abbrev pub only : List ℕ → List GlyphId → Bool
only numbers ids = pointwise nat_eq numbers (map (λ g. g.0) ids)

abbrev pub nothing : List GlyphId → Bool
nothing ids = false

-- the rules of a script with these masks for rphf, pref, blwf, abvf, half and pstf, by a font that substitutes nothing
abbrev pub rules : String → Bool → List ℕ → Rules
rules tag old masks = record {
  config = config_of (script tag);
  old = old;
  search = WithoutMedials;
  masks = masks;
  forms_reph = nothing;
  forms_pref = nothing;
}

abbrev pub no_masks : List ℕ
no_masks = 0 ∷ 0 ∷ 0 ∷ 0 ∷ 0 ∷ 0 ∷ 0 ∷ 0 ∷ 0 ∷ 0 ∷ 0 ∷ 0 ∷ 0 ∷ 0 ∷ 0 ∷ 0 ∷ 0 ∷ []

-- those masks, a bit each: rphf 8, pref 16, blwf 32, abvf 64, half 128, pstf 256
abbrev pub each_mask : List ℕ
each_mask = 0 ∷ 0 ∷ 8 ∷ 0 ∷ 16 ∷ 32 ∷ 64 ∷ 128 ∷ 256 ∷ 0 ∷ 0 ∷ 0 ∷ 0 ∷ 0 ∷ 0 ∷ 0 ∷ 0 ∷ []

-- the same by a font that forms a reph, or a consonant before the base, of these glyphs
abbrev pub with_reph_of : List ℕ → Rules → Rules
with_reph_of ids r = record r { forms_reph = only ids }

abbrev pub with_pref_of : List ℕ → Rules → Rules
with_pref_of ids r = record r { forms_pref = only ids }

abbrev pub clusters_after : Rules → Option Script → Glyphs → List ℕ
clusters_after r s gs = clusters (after_steps MonotoneGraphemes (initial_steps r s gs) gs)

-- the glyph at a place put in by a lookup for several
abbrev pub ligated_at : ℕ → Glyphs → Glyphs
ligated_at i [] = []
ligated_at zero (g ∷ gs) = with_row_marks 0x20 g ∷ gs
ligated_at (suc i) (g ∷ gs) = g ∷ ligated_at i gs

-- order, clusters and masks of a syllable after
abbrev pub reordered : Rules → Option Script → Glyphs → List (List ℕ)
reordered r s gs = numbers_of (initial_order r s gs) ∷ clusters_after r s gs ∷ row_masks (initial_order r s gs) ∷ []
