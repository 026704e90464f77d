-- The final reordering of a syllable: what it becomes, and the merges and moves that lead there.
-- (OpenType, development of Indic scripts: "Final reordering".)
use Rattle.std.specs.Prelude.{List, [], ◌++◌, Option, if◌then◌else◌}
use Rattle.shapers_buffer.specs.Glyphs.{Glyphs}
use Rattle.shapers_buffer.specs.declared.buffer.tag.Script.{Script}
use Rattle.shapers_clusters.specs.Steps.{Step}
use Rattle.shapers_indic_final.specs.FinalBase.{Based, with_final_base, with_viramas}
use Rattle.shapers_indic_final.specs.FinalMatras.{matra_steps, with_matras}
use Rattle.shapers_indic_final.specs.FinalPref.{pref_steps, with_pref}
use Rattle.shapers_indic_final.specs.FinalReph.{base_after_reph, reph_steps, with_reph}
use Rattle.shapers_indic_final.specs.declared.ot_shaper_indic_final.rules.Rules.{Rules}

-- the syllable with its left matras at their place; and its reph, which may carry the base along
abbrev pub after_matras : Rules → Option Script → Based → Based
after_matras r script b =
    record { glyphs = with_matras script b.base b.glyphs; base = b.base; tries_pref = b.tries_pref }

abbrev pub after_reph : Rules → Based → Based
after_reph r b = record {
  glyphs = with_reph r.reph_pos b.base b.glyphs;
  base = base_after_reph r.reph_pos b.base b.glyphs;
  tries_pref = b.tries_pref;
}

-- the glyphs with a formed pref glyph before the base
abbrev pub after_pref : Rules → Option Script → Based → Glyphs
after_pref r script b = if b.tries_pref then with_pref r.pref script b.base b.glyphs else b.glyphs

-- the syllable with its base, before anything moves
abbrev pub based : Rules → Option Script → Glyphs → Based
based r script gs = with_final_base r script (with_viramas r gs)

-- what a syllable becomes, but for the mask of init
abbrev pub final_order : Rules → Option Script → Glyphs → Glyphs
final_order r script gs =
    after_pref r script (after_reph r (after_matras r script (based r script gs)))

-- the steps that lead there
abbrev pub steps_of_pref : Rules → Option Script → Based → List Step
steps_of_pref r script b = if b.tries_pref then pref_steps r.pref script b.base b.glyphs else []

abbrev pub steps_of_based : Rules → Option Script → Based → List Step
steps_of_based r script b =
    let partitioned = after_matras r script b in
    matra_steps script b.base b.glyphs
    ++ (reph_steps r.reph_pos partitioned.base partitioned.glyphs
    ++ steps_of_pref r script (after_reph r partitioned))

abbrev pub final_steps : Rules → Option Script → Glyphs → List Step
final_steps r script gs = steps_of_based r script (based r script gs)
