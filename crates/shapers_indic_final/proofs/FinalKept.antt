-- The laws of the final reordering of a text, proved.
use Rattle.std.proofs.Common.{ℕ, ◌≤◌, map, length, get_or, None, sym, ◌∙◌, ap, subst, arith}
use Rattle.std.specs.List.{AllByRecursion, AllZip}
use Rattle.std.specs.List.Sorted.{IsPermutation}
use Rattle.std.proofs.lemmas.List.{length-map}
use Rattle.std.proofs.lemmas.List.Elements.{AllZip-get_or}
use Rattle.std.proofs.lemmas.List.Sorted.{IsPermutation-map}
use Rattle.shapers_buffer.specs.Glyphs.{Glyph}
use Rattle.shapers_buffer.specs.Glyph.{clusters, default_glyph, order_view}
use Rattle.shapers_buffer.specs.Places.{pick}
use Rattle.shapers_clusters.specs.Cuts.{OneAlong}
use Rattle.shapers_clusters.specs.Flags.{FlagsFall, seen}
use Rattle.shapers_clusters.specs.Laws.{ClustersHold}
use Rattle.shapers_clusters.specs.Steps.{all_merged, old_places}
use Rattle.shapers_clusters.proofs.Moves.{length-old_places, within-old_places}
use Rattle.shapers_clusters.proofs.Picks.{length-pick, pick-map}
use Rattle.shapers_clusters.proofs.Proved.{seen_steps_hold}
use Rattle.shapers_indic_final.specs.FinalClusters.{EachSyllableCuts}
use Rattle.shapers_indic_final.specs.FinalLaws.{FinalTextLaws, final_text_steps}
use Rattle.shapers_indic_final.specs.FinalWordStart.{bound_from, final_syllables}
use Rattle.shapers_indic_final.proofs.FinalClusters.{text_cuts, text_merges}
use Rattle.shapers_indic_final.proofs.FinalCuts.{final_cuts_with_serials}
use Rattle.shapers_indic_final.proofs.FinalFlags.{flags-bound, flags-whole}
use Rattle.shapers_indic_final.proofs.FinalFlagsOutside.{bound_from_elsewhere, bound_nowhere, elsewhere-whole}
use Rattle.shapers_indic_final.proofs.FinalText.{finished, halves, none_higher, text_fits}
use Rattle.shapers_syllabic.specs.Reordering.{carried}
use Rattle.shapers_syllabic.proofs.ReorderingLaws.{numbers-seen}
use Rattle.shapers_syllabic.proofs.ReorderingLemmas.{carried_hides}

-- all laws of the text
pub finally_kept : FinalTextLaws
finally_kept r old new done =
    let gs = old.glyphs in
    let ms = done.0.glyphs in
    let ns = new.glyphs in
    let d = default_glyph in
    let xs = order_view gs in
    let syls = final_syllables r old.script xs in
    let bound = bound_from 0 None syls ms in
    let steps = final_text_steps r old.script gs in
    let f = finished r old new done in
    let held = f.text.glyphs in
    let are = f.clusters_are in
    let olds = old_places (length gs) steps in
    let number : Glyph → ℕ = λ g. g.glyph_id in
    let kept = subst (IsPermutation (seen carried gs)) (sym f.seen_same) f.text.kept in
    let many = sym (length-map ns (λ g. g.cluster)) ∙ ap length f.clusters_same ∙ length-map ms (λ g. g.cluster) in
    let fits = text_fits r old.script old.level gs in
    record {
      kept = kept;
      numbers = subst (λ zs. IsPermutation zs (map number ns)) (numbers-seen gs)
          (subst (IsPermutation (map number (seen carried gs))) (numbers-seen ns)
          (IsPermutation-map number (seen carried gs) (seen carried ns) kept));
      moved_view = f.seen_same ∙ held.moved_view;
      clusters_are = are;
      in_clusters = subst (ClustersHold old.level steps (clusters gs)) (sym f.clusters_same) held.in_clusters;
      merged = λ m. subst (λ js. AllByRecursion (OneAlong js) (all_merged steps)) (sym are)
          (text_merges r old.script old.level gs m);
      exact = λ m. subst (EachSyllableCuts r old.script xs (clusters gs)) (sym are)
          (text_cuts r old.script old.level gs m);
      none_rises = subst (λ cs. AllZip (λ a b. b ≤ a) cs (clusters ns)) (sym (pick-map (λ g. g.cluster) olds gs))
          (subst (AllZip (λ a b. b ≤ a) (clusters (pick olds gs))) (sym f.clusters_same)
          (none_higher (pick olds gs) ms held.falls));
      flags = flags-whole (pick olds gs) ms bound ns held.falls (flags-bound 0 None syls ms) f.flags;
      flags_elsewhere = λ i l none. elsewhere-whole (get_or (pick olds gs) i d) bound ns f.flags i l
          (subst (FlagsFall (get_or (pick olds gs) i d))
          (sym (bound_from_elsewhere 0 None syls ms i (omega arith) none))
          (AllZip-get_or FlagsFall (pick olds gs) ms i d d held.falls (omega (
            arith,
            length-pick olds gs (within-old_places (length gs) steps) ∙ length-old_places (length gs) steps fits ∙ sym
                held.same_length,
          ))));
      unbroken = λ none. seen_steps_hold carried carried_hides old.level steps gs ns fits
          (f.flags ∙ ap (map carried) (bound_nowhere 0 None syls ms none) ∙ done.1.moved);
      cuts = λ hs ks parts border. halves r old.script old.level gs ns hs ks f.order are parts border;
      renumbered = final_cuts_with_serials r old new done;
    }
