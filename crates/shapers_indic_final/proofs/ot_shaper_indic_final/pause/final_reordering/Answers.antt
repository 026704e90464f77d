-- The chain of the reordering, and what it comes to once its syllables are opened.
use Rattle.std.proofs.Common.{ap, subst, ◌∙◌, arith}
use Rattle.std.specs.Prelude.{Err, IsOk, Ok, OnOk, Result}
use Rattle.shapers_indic_final.specs.FinalReordering.{final_order, final_steps}
use Rattle.shapers_indic_final.specs.FinalRules.{final_rules}
use Rattle.shapers_indic_final.specs.FinalWordStart.{FinallyLinked}
use Rattle.shapers_indic_final.specs.declared.ot_shaper_indic_final.rules.Rules.{Rules}
use Rattle.shapers_indic_final.proofs.FinalKept.{finally_kept}
use Rattle.shapers_indic_final.proofs.FinalText.{reordered_by_links}
use Rattle.shapers_syllabic.specs.Reordering.{SyllableReordered, SyllablesLinked}
use Rattle.shapers_syllabic.proofs.LinkedSyllables.{takes_any}
use Rattle.shapers_indic_final.proofs.ot_shaper_indic_final.pause.final_reordering.Goals as goal

on_ok : {T E P : Type 0} (r : Result T E) → IsOk r → OnOk r P → P
on_ok (Ok x) is done = done
on_ok (Err e) is done = absurd cc

pub returns-clause-linked : goal.returns-clause-linked
returns-clause-linked g c =
    let old = c.args.buffer.now in
    let mid = c.reorder_syllables_by_steps.new.buffer in
    let r = c.new-rules.result in
    let same = c.new-rules.ensures ∙ ap (final_rules (g.F.hb_font_t.font c.args.face.now)) c.indic_in.ensures in
    subst (λ (r : Rules). FinallyLinked r old c.start_words.new.buffer) same (
      mid,
      subst (λ script. SyllablesLinked (SyllableReordered (final_order r script) (final_steps r script)) old mid)
          c.script.ensures (on_ok c.reorder_syllables_by_steps.result c.reorder_syllables_by_steps.ensures.refusal
          c.reorder_syllables_by_steps.ensures.linked),
      c.start_words.ensures,
    )

pub returns-clause-reordered : goal.returns-clause-reordered
returns-clause-reordered = search (reordered_by_links, returns-clause-linked)

pub returns-clause-laws : goal.returns-clause-laws
returns-clause-laws g c = finally_kept _ c.args.buffer.now c.start_words.new.buffer
    (returns-clause-reordered g c)

pub returns-clause-clusters : goal.returns-clause-clusters
returns-clause-clusters g c = (returns-clause-laws g c).in_clusters.old_clusters

pub reorder_syllables_by_steps-requires-clause-takes : goal.reorder_syllables_by_steps-requires-clause-takes
reorder_syllables_by_steps-requires-clause-takes g c =
    takes_any _ (λ ns. omega (arith, ap (λ (r : Rules). r.pref) c.new-rules.ensures)) c.args.buffer.now.glyphs
