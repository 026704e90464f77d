-- Each shaper's order of marks keeps clusters rising, or falling.
use Rattle.std.proofs.Common.{◌≡◌, ◌-◌, ◌<◌, ◌≤◌, ℕ, true, [], ◌∷◌, length, Some, None, sym, ap, ◌∙◌, subst, arith}
use Rattle.rustybuzz_shapers.specs.declared.shaper.hb_ot_shaper_t.TheVariants.{Arabic, Hangul, Hebrew, Indic, Khmer, Myanmar, MyanmarZawgyi, Thai, Universal}
use Rattle.shapers_arabic.specs.Marks.{arabic_mark_step, marks_merged, marks_reordered, split_marks, text_step, without_class}
use Rattle.shapers_arabic.proofs.MarkLaws as arabic
use Rattle.shapers_arabic.proofs.MarkLists.{split-joined}
use Rattle.shapers_arabic.proofs.MarkMoves.{moves-merged}
use Rattle.shapers_buffer.specs.Glyphs.{Glyph, Glyphs}
use Rattle.shapers_buffer.specs.declared.buffer.level.BufferClusterLevel.{BufferClusterLevel}
use Rattle.shapers_buffer.specs.Clusters.{merge_all, merges, stretch_of}
use Rattle.shapers_buffer.specs.Glyph.{clusters}
use Rattle.shapers_buffer.proofs.ClusterLemmas.{length-stretch}
use Rattle.shapers_clusters.specs.Cuts.{IsMonotone}
use Rattle.shapers_clusters.specs.Flags.{whole}
use Rattle.shapers_clusters.specs.Laws.{ReorderedHold}
use Rattle.shapers_clusters.specs.Steps.{MovesMerged, Step, all_first, after_step}
use Rattle.shapers_clusters.proofs.Moves.{clusters-merge_all, end_within-all_first}
use Rattle.shapers_clusters.proofs.Proved.{exact_cuts_hold}
use Rattle.shapers_clusters.proofs.Widened.{moves-widened}
use Rattle.shapers_text.specs.Hebrew.{hebrew_mark_step}
use Rattle.shapers_text.proofs.HebrewLemmas as hebrew
use Rattle.shapers_pipeline.specs.NormalizeLaws.{ShapersOrderMonotone}
use Rattle.shapers_pipeline.proofs.ArabicAlone.{sum_joined}
use Rattle.shapers_pipeline.proofs.HebrewAlone.{within}

-- a step that moves inside what it merges
by_step : (level : BufferClusterLevel) (view : Glyph → Glyph) (step : Step)
    (gs new : Glyphs) → merges level ≡ true → MovesMerged (length gs) step
    → ReorderedHold view level (step ∷ []) gs new → IsMonotone (clusters gs) → IsMonotone (clusters new)
by_step level view step gs new m moves held rises =
    let sts = all_first (step ∷ []) in
    let merged : IsMonotone (clusters (merge_all level sts gs)) =
    (exact_cuts_hold level sts gs m (end_within-all_first (length gs) (step ∷ []) (moves, tt)) rises).1 in
    subst IsMonotone (clusters-merge_all level sts gs ∙ sym (held.where_merging m).only_merged) merged

arabic_moves : (marks : Glyphs) → MovesMerged (length marks) (arabic_mark_step (split_marks marks))
arabic_moves marks =
    let s = split_marks marks in
    subst (λ n. MovesMerged n (arabic_mark_step s)) (sym (sum_joined s) ∙ ap length (split-joined marks))
    (moves-merged (length s.low) (length s.modifiers_below) (length s.middle) (length s.modifiers_above)
    (length s.rest))

arabic_mono : (level : BufferClusterLevel) (s e : ℕ) (gs : Glyphs) → merges level ≡ true → s < e
    → e ≤ length gs → IsMonotone (clusters gs) → IsMonotone (clusters (marks_reordered s e (marks_merged level s e gs)))
arabic_mono level s e gs m some long rises =
    let marks = stretch_of s e gs in
    let moves : MovesMerged (e - s) (arabic_mark_step (split_marks marks)) =
    subst (λ n. MovesMerged n (arabic_mark_step (split_marks marks))) (length-stretch s e gs long)
    (arabic_moves marks) in
    by_step level without_class (text_step s e gs) gs (marks_reordered s e (marks_merged level s e gs)) m
    (moves-widened s e (length gs) (arabic_mark_step (split_marks marks)) (omega arith) long moves)
    (arabic.mark_laws level s e gs (omega arith) long) rises

hebrew_mono : (level : BufferClusterLevel) (s e : ℕ) (gs : Glyphs) → merges level ≡ true → s < e
    → e ≤ length gs → IsMonotone (clusters gs) → IsMonotone (clusters (after_step level (hebrew_mark_step s e gs) gs))
hebrew_mono level s e gs m some long rises =
    by_step level whole (hebrew_mark_step s e gs) gs (after_step level (hebrew_mark_step s e gs) gs) m
    (hebrew.mark_moves_merged s e gs (within s e gs some long))
    (hebrew.mark_laws level s e gs (within s e gs some long)) rises

pub order_monotone : ShapersOrderMonotone
order_monotone None plan font variants tables texts invisible draws = λ level s e gs m some long rises. rises
order_monotone (Some Arabic) plan font variants tables texts invisible draws = arabic_mono
order_monotone (Some Hangul) plan font variants tables texts invisible draws = λ level s e gs m some long rises. rises
order_monotone (Some Hebrew) plan font variants tables texts invisible draws = hebrew_mono
order_monotone (Some Indic) plan font variants tables texts invisible draws = λ level s e gs m some long rises. rises
order_monotone (Some Khmer) plan font variants tables texts invisible draws = λ level s e gs m some long rises. rises
order_monotone (Some Myanmar) plan font variants tables texts invisible draws = λ level s e gs m some long rises. rises
order_monotone (Some MyanmarZawgyi) plan font variants tables texts invisible draws =
    λ level s e gs m some long rises. rises
order_monotone (Some Thai) plan font variants tables texts invisible draws = λ level s e gs m some long rises. rises
order_monotone (Some Universal) plan font variants tables texts invisible draws =
    λ level s e gs m some long rises. rises
