-- What the order of a syllable makes of its clusters, in a whole text.
use Rattle.std.proofs.Common.{ℕ, suc, ◌+◌, ◌-◌, ◌≤◌, ◌≡◌, inr, true, List, [], ◌∷◌, ◌++◌, length, map, take, Option, sym, ◌∙◌, ap, subst, arith, append_assoc, if◌then◌else◌}
use Rattle.std.specs.List.{AllByRecursion, sum_by}
use Rattle.std.proofs.lemmas.List.{length-map}
use Rattle.std.proofs.lemmas.List.Sums.{fold-append}
use Rattle.shapers_buffer.specs.Glyphs.{Glyphs}
use Rattle.shapers_buffer.specs.declared.buffer.level.BufferClusterLevel.{BufferClusterLevel}
use Rattle.shapers_buffer.specs.declared.buffer.tag.Script.{Script}
use Rattle.shapers_buffer.specs.Clusters.{merges, stretch_of}
use Rattle.shapers_buffer.specs.Glyph.{plain}
use Rattle.shapers_buffer.specs.Places.{pick}
use Rattle.shapers_buffer.proofs.MappedLists.{all-append, all-mapped}
use Rattle.shapers_clusters.specs.Cuts.{EndWithin, OneAlong}
use Rattle.shapers_clusters.specs.ClusterMerges.{joined_all}
use Rattle.shapers_clusters.specs.Steps.{FitSteps, FitsStep, joined_step, joined_steps, shifted, steps_along, widened}
use Rattle.shapers_clusters.proofs.Halves.{along-append}
use Rattle.shapers_clusters.proofs.Neighbours.{share_all}
use Rattle.shapers_clusters.proofs.Picks.{length-pick}
use Rattle.shapers_clusters.proofs.Proved.{clusters_hold}
use Rattle.shapers_clusters.proofs.Widened.{all_along, fits-widened, held-shifted}
use Rattle.shapers_indic_initial.specs.InitialBase.{base_place}
use Rattle.shapers_indic_initial.specs.InitialClusters.{EachSyllableMerges, InitialClustersLaw, OrderMerges, SyllableMerges, joined_stretches}
use Rattle.shapers_indic_initial.specs.InitialLaws.{InitialTextMerges}
use Rattle.shapers_indic_initial.specs.InitialPause.{with_positions_and_circles}
use Rattle.shapers_indic_initial.specs.InitialOrder.{ordered_base, indic_ordered_places, ordered_stretches}
use Rattle.shapers_indic_initial.specs.InitialReordering.{halant_step, in_indic_order, initial_steps, joiner_step, indic_order_step, positioned, steps_of_reordered, with_base_positions, with_joiner_first}
use Rattle.shapers_indic_initial.specs.InitialRules.{Rules, initial_rules}
use Rattle.shapers_indic_initial.specs.Proved.InitialLaws.{halant_laws, initial_laws, initial_text_reordered, joiner_laws, three_laws}
use Rattle.shapers_indic_initial.specs.Proved.InitialSteps.{order_fits}
use Rattle.shapers_clusters.proofs.Alone.{apart_own, same_stretch, stretch_own}
use Rattle.shapers_clusters.proofs.StepsOutside.{Leaves, along_elsewhere, leaves_elsewhere}
use Rattle.shapers_clusters.proofs.Spread.{length-stretch}
use Rattle.shapers_clusters.proofs.Moves.{HeldIn, all_held}
use Rattle.shapers_syllabic.proofs.SyllableAlone.{glyphs_cut, pieces_cut}
use Rattle.shapers_indic_initial.proofs.OrderClusters.{all_by_two, held_together, once_permuted, one_cluster, order_merges, together_lies}
use Rattle.shapers_indic_initial.specs.Proved.OrderedPlaces.{ordered_permutes}
use Rattle.shapers_syllabic.specs.Reordering.{glyphs_before, text_steps}
use Rattle.shapers_syllabic.proofs.ReorderingLaws.{each_piece, sum-pieces}
use Rattle.shapers_syllabic.proofs.ReorderingWalk.{length-meaning, pieces_of}

-- one cluster still, after what leaves neighbours together
one_cluster_left : (s e : ℕ) (cs js : List ℕ) → Leaves s e cs js → (st : ℕ × ℕ) → s ≤ st.0 → st.1 ≤ e → OneAlong cs st
    → OneAlong js st
one_cluster_left s e cs js f st low within one p q pl ph ql qh =
    sym (share_all js p q (λ i a b.
    let same : suc (i - 1) ≡ i = omega arith in
    cc (f.shared (i - 1) (omega arith) (omega arith) (one (i - 1) _ (omega arith) (omega arith) (omega arith) (omega
    arith)))) q (omega arith) (omega arith))

-- stretches of the syllable, as stretches of the text
held_in_text : (s : ℕ) (sts : List (ℕ × ℕ)) (st : ℕ × ℕ) → HeldIn sts st → HeldIn (shifted s sts) (s + st.0, s + st.1)
held_in_text s sts st h i a b = search (arith, held-shifted s (i - s) sts)

-- the order step of a syllable in its text
record OrderInText (r : Rules) (s e : ℕ) (xs : Glyphs) (cs ms : List ℕ) : Type 0 where
  pub same_length : length ms ≡ length cs
  pub together : AllByRecursion (λ st. OneAlong ms (s + st.0, s + st.1))
      (joined_stretches r (indic_ordered_places xs) (ordered_base (in_indic_order xs)))
  pub lies : AllByRecursion (λ st. s + st.1 ≤ e)
      (joined_stretches r (indic_ordered_places xs) (ordered_base (in_indic_order xs)))

order_in_text : (r : Rules) (level : BufferClusterLevel) (s e : ℕ) (xs : Glyphs) (cs : List ℕ)
    → merges level ≡ true → s ≤ e → e ≤ length cs → length xs ≡ e - s
    → OrderInText r s e xs cs (joined_step level (widened s e (length cs) (indic_order_step r xs)) cs)
order_in_text r level s e xs cs m h l size =
    let from = indic_ordered_places xs in
    let base = ordered_base (in_indic_order xs) in
    let perm = ordered_permutes xs in
    let o = once_permuted _ from perm in
    let sts = ordered_stretches r from base in
    let ways = joined_stretches r from base in
    let f =
    subst (λ k. FitsStep k (indic_order_step r xs)) size (order_fits r xs) in
    let w = widened s e _ (indic_order_step r xs) in
    let fits = fits-widened s e _ _ h l f in
    let picked = pick _ cs in
    let pl = length-pick _ cs fits.within ∙ fits.as_many in
    let ends =
    subst (λ k. EndWithin k (shifted s sts)) (sym pl) fits.then_within in
    let lies = together_lies r from base o in
    let ms = joined_all level (shifted s sts) picked in
    let all = clusters_hold level (w ∷ []) cs (fits, tt) in
    record {
      same_length = all.same_length;
      together = all_by_two _ _ _ (λ st a b. one_cluster level m _ picked ends _ (omega arith)
          (held_in_text s sts st (λ i x y. held_together r from base i o ∙ b i x y))) ways lies (all_held ways);
      lies = all_by_two _ _ _ (λ st a b. omega arith) ways lies (all_held ways);
    }

-- and what comes after it
syllable_merges : (r : Rules) (level : BufferClusterLevel) (s e : ℕ) (xs : Glyphs) (cs js : List ℕ)
    → merges level ≡ true → s ≤ e → e ≤ length cs → length xs ≡ e - s
    → Leaves s e (joined_step level (widened s e (length cs) (indic_order_step r xs)) cs) js →
    SyllableMerges s e (ordered_base (in_indic_order xs))
    (joined_stretches r (indic_ordered_places xs) (ordered_base (in_indic_order xs))) (indic_ordered_places xs) cs js
syllable_merges r level s e xs cs js m h l size left =
    let from = indic_ordered_places xs in
    let base = ordered_base (in_indic_order xs) in
    let ways = joined_stretches r from base in
    let step = indic_order_step r xs in
    let ms = joined_step level (widened s e _ step) cs in
    let done = order_in_text r level s e xs cs m h l size in
    let f = subst (λ k. FitsStep k step) size (order_fits r xs) in
    record {
      together = all-mapped _ _ _ ways (λ st k. k)
          (all_by_two _ _ _ (λ st a b. one_cluster_left s e ms js left _ (omega arith) b a) ways done.together
          done.lies);
      own = λ own.
          let apart = own.others in
          let seg = stretch_of s e cs in
          let law = order_merges r level xs seg m (length-stretch s e cs l ∙ sym size) in
          let same =
          same_stretch s e js ms (omega arith) (omega arith) (λ p x y. left.own
          (apart_own level s e (step ∷ []) cs h l (f, tt) apart) p x y)
          ∙ stretch_own level s e (step ∷ []) cs h l (f, tt) apart in
          subst (OrderMerges base ways from seg) (sym same) law;
    }

length-positioned : (r : Rules) (script : Option Script) (syl : Glyphs) → length (positioned r script syl)
    ≡ length syl
length-positioned r script syl =
    length-meaning _ _ (halant_laws r script) _ ∙ length-meaning _ _ (joiner_laws script) syl

pub initial_clusters : InitialClustersLaw
initial_clusters r script level gs cs m long before behind syl cut on =
    let n = length gs in
    let steps = initial_steps r script in
    let laws = initial_laws r script in
    let a = pieces_of steps before in
    let b = pieces_of steps behind in
    let s = glyphs_before before in
    let k = length syl in
    let e = s + length syl in
    let xs = positioned r script syl in
    let opened = with_joiner_first script syl in
    let first = joiner_step script syl in
    let second = halant_step r script (base_place r opened) (with_base_positions r opened) in
    let third = indic_order_step r xs in
    let total = glyphs_cut gs before behind syl cut in
    let sum_a : sum_by (λ piece. piece.0) a ≡ s = sum-pieces steps before in
    let sum_b : sum_by (λ piece. piece.0) b ≡ glyphs_before behind = sum-pieces steps behind in
    let front = steps_along n 0 a in
    let later = steps_along n e b in
    let two = map (widened s e n) (first ∷ (second ∷ [])) in
    let last = widened s e n third in
    let is_on =
    ap (λ t. if t then steps_of_reordered r script syl else []) on in
    let whole =
    ap (steps_along n 0)
    (pieces_cut steps gs before behind syl cut) ∙ along-append n 0 a ((length syl, steps syl) ∷ b)
    ∙ ap (λ z. front ++ steps_along n z ((length syl, steps syl) ∷ b)) (omega arith) in
    let c2 = joined_steps level (front ++ two) cs in
    let ends =
    ap (λ sts. joined_steps level sts cs)
    (whole ∙ ap (λ sts. front ++ (map (widened s e n) sts ++ later)) is_on ∙ sym (append_assoc front two (last ∷
    later))) ∙ fold-append (λ cs step. joined_step level step cs) cs (front ++ two) (last ∷ later) in
    let size : length syl ≡ e - s = omega arith in
    let fit3 =
    subst (λ k. FitSteps k (first ∷ (second ∷ (third ∷ [])))) size ((three_laws r script).fits syl) in
    let fit_begin = all-append (FitsStep n) front two
    (all_along FitsStep fits-widened n 0 a (omega arith) (each_piece FitsStep steps laws.fits before)) (
      fits-widened s e n first (omega arith) (omega arith) fit3.0,
      (
        fits-widened s e n second (omega arith) (omega arith) fit3.1.0,
        tt,
      ),
    ) in
    let c2l =
    (clusters_hold level (front ++ two) cs (subst (λ k. FitSteps k (front ++ two)) (sym long) fit_begin)).same_length
    ∙ long in
    let held_last = clusters_hold level (last ∷ []) c2 (subst (λ k. FitSteps k (last ∷ [])) (sym c2l) (
      fits-widened s e n third (omega arith) (omega arith) fit3.1.1.0,
      tt,
    )) in
    let ms = joined_step level last c2 in
    let js = joined_steps level later ms in
    let left =
    leaves_elsewhere s e level n later ms (held_last.same_length ∙ c2l) (omega arith)
    (along_elsewhere s e n e b (omega arith) (omega arith) (each_piece FitsStep steps laws.fits behind)
    (inr (omega arith))) in
    let result = syllable_merges r level s e xs c2 js m (omega arith) (omega arith) (length-positioned r script syl
    ∙ size) (subst (λ z. Leaves s e (joined_step level (widened s e z third) c2) js) (sym c2l) left) in
    let base = ordered_base (in_indic_order xs) in
    let ways = joined_stretches r (indic_ordered_places xs) base in
    subst (λ z. SyllableMerges s e base ways (indic_ordered_places xs) z (joined_steps level (text_steps steps gs) cs))
    (sym (ap (λ sts. joined_steps level (front ++ map (widened s e n) (take 2 sts)) cs) is_on))
    (subst (λ z. SyllableMerges s e base ways (indic_ordered_places xs) c2 z) (sym ends) result)

-- the clusters of a text after the pause
pub initial_text_merges : InitialTextMerges
initial_text_merges font m p old new done merging =
    let r = initial_rules font m p in
    let gs = (with_positions_and_circles font m p old).glyphs in
    subst (EachSyllableMerges r old.script _ _ _) (sym
    (initial_text_reordered font m p old new done).glyphs.clusters_are)
    (initial_clusters r old.script _ _ _ merging (length-map gs _ ∙ sym (length-map gs plain)))
