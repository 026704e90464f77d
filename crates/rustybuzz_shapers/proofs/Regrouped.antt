-- Each pause that reorders regroups each syllable by itself.
use Rattle.std.proofs.Common.{arith}
use Rattle.std.proofs.Common.{List, map}
use Rattle.std.specs.List.Sorted.{IsPermutation}
use Rattle.std.proofs.lemmas.List.Sorted.{IsPermutation-map}
use Rattle.shapers_buffer.specs.Glyphs.{Glyph, Glyphs}
use Rattle.shapers_buffer.specs.Buffer.{Buffer}
use Rattle.shapers_base.specs.declared.plan.pause.Pause.TheVariants.{InitialReordering, ReorderKhmer, ReorderMyanmar, ReorderUse, FinalReordering}
use Rattle.shapers_clusters.specs.Flags.{seen}
use Rattle.shapers_buffer.specs.declared.buffer.level.BufferClusterLevel.TheVariants.{Characters}
use Rattle.shapers_clusters.specs.Steps.{Step}
use Rattle.shapers_clusters.proofs.Views.{seen-permuted, seen-after_steps}
use Rattle.shapers_syllabic.specs.Reordering.{SyllablesReordered, carried}
use Rattle.shapers_syllabic.specs.ReorderingLaws.{ReorderLaws}
use Rattle.shapers_syllabic.proofs.ReorderingLemmas.{carried_hides}
use Rattle.shapers_syllabic.proofs.ReorderingLaws.{numbers-seen, text_reordered}
use Rattle.shapers_indic.specs.Plan.{indic_in}
use Rattle.shapers_indic_final.proofs.FinalKept.{finally_kept}
use Rattle.shapers_indic_final.proofs.FinalText.{finished}
use Rattle.shapers_indic_final.specs.Proved.FinalLaws.{final_laws}
use Rattle.shapers_indic_final.specs.FinalRules.{final_rules}
use Rattle.shapers_indic_initial.proofs.FontPositions.{order_by_font_laws}
use Rattle.shapers_khmer.specs.Khmer.{order_in}
use Rattle.shapers_khmer.specs.Proved.KhmerLaws.{khmer_laws}
use Rattle.shapers_myanmar.specs.Proved.MyanmarLaws.{myanmar_laws}
use Rattle.shapers_universal.specs.Proved.UniversalView.{universal_laws}
use Rattle.rustybuzz_shapers.specs.Regrouped.{SyllablesRegrouped}

numbers_kept : (gs hs : Glyphs) → IsPermutation (seen carried gs) (seen carried hs)
    → IsPermutation (map (λ g. g.glyph_id) gs) (map (λ g. g.glyph_id) hs)
numbers_kept gs hs kept = search (
  arith,
  numbers-seen gs,
  numbers-seen hs,
  IsPermutation-map (λ (g : Glyph). g.glyph_id) (seen carried gs) (seen carried hs) kept,
)

numbers_by : (meaning : Glyphs → Glyphs) (steps : Glyphs
    → List Step) (old new : Buffer) → ReorderLaws meaning steps → SyllablesReordered meaning steps old new
    → IsPermutation (map (λ g. g.glyph_id) old.glyphs) (map (λ g. g.glyph_id) new.glyphs)
numbers_by meaning steps old new laws done =
    numbers_kept old.glyphs new.glyphs (text_reordered meaning steps old new laws done).kept

-- of each syllable by itself
each_kept : (meaning : Glyphs → Glyphs) (steps : Glyphs → List Step) → ReorderLaws meaning steps → (syl : Glyphs)
    → IsPermutation (map (λ g. g.glyph_id) syl) (map (λ g. g.glyph_id) (meaning syl))
each_kept meaning steps laws syl =
    numbers_kept syl (meaning syl)
    (
    search (
      arith,
      seen-after_steps carried carried_hides Characters (steps syl) syl,
      laws.agrees syl,
      seen-permuted carried carried_hides Characters (steps syl) syl (laws.fits syl) (laws.permutes syl),
    ))

pub syllables_regrouped : SyllablesRegrouped
syllables_regrouped InitialReordering plan font spans old new done =
    let laws = order_by_font_laws font plan.ot_map (indic_in plan) old.script in
    search (arith, done.0.order, numbers_by _ _ _ new laws done.0, each_kept _ _ laws)
syllables_regrouped ReorderKhmer plan font spans old new done =
    let laws = khmer_laws (order_in plan.plan_data) in
    search (arith, done.order, numbers_by _ _ _ new laws done, each_kept _ _ laws)
syllables_regrouped ReorderMyanmar plan font spans old new done =
    search (arith, done.order, numbers_by _ _ _ new myanmar_laws done, each_kept _ _ myanmar_laws)
syllables_regrouped ReorderUse plan font spans old new done =
    search (arith, done.order, numbers_by _ _ _ new universal_laws done, each_kept _ _ universal_laws)
syllables_regrouped FinalReordering plan font spans old new done = record {
  order = (finished (final_rules font (indic_in plan)) old new done).order;
  numbers = (finally_kept (final_rules font (indic_in plan)) old new done).numbers;
  each = each_kept _ _ (final_laws (final_rules font (indic_in plan)) old.script);
}
syllables_regrouped _ plan font spans old new done = tt
