-- What the steps of a syllable merge stays in one cluster.
use Rattle.shapers_buffer.specs.Lists.{first_last}
use Rattle.shapers_clusters.proofs.ViewedSteps.{length-same}
use Rattle.shapers_syllabic.specs.Reordering.{carried}
use Rattle.std.proofs.Common.{List, None, Option, Some, [], arith, drop, get_or, inl, inr, length, length-drop, refl, subst, suc, sym, take, true, zero, ℕ, ◌++◌, ◌+◌, ◌-◌, ◌<◌, ◌∙◌, ◌∷◌, ◌≡◌, ◌≤◌}
use Rattle.std.specs.List.{All, AllByRecursion, range_with_len}
use Rattle.std.specs.List.Sorted.{IsPermutation}
use Rattle.std.proofs.lemmas.Bool.{cases_Bool}
use Rattle.std.proofs.lemmas.List.{get_or-append_right, get_or-drop, get_or-take, get_or_append_left, length-drop, length-take-le}
use Rattle.std.proofs.lemmas.List.Elements.{All-from_get_or}
use Rattle.std.proofs.lemmas.List.FromFn.{get_or-range_with_len, length-range_with_len}
use Rattle.std.proofs.lemmas.List.Sorted.{All-permutation, length_permutation}
use Rattle.shapers_buffer.specs.Glyphs.{Glyphs}
use Rattle.shapers_buffer.specs.declared.buffer.tag.Script.{Script}
use Rattle.shapers_buffer.specs.Clusters.{stretch_of, with_stretch}
use Rattle.shapers_buffer.proofs.MappedLists.{all-append}
use Rattle.shapers_clusters.specs.Steps.{joined_steps, FitsStep, MovesMerged, Step}
use Rattle.shapers_indic.specs.Glyphs.{least_place, passes, places}
use Rattle.std.proofs.lemmas.List.{length-map}
use Rattle.shapers_buffer.specs.declared.buffer.level.BufferClusterLevel.{BufferClusterLevel}
use Rattle.shapers_buffer.specs.Clusters.{merges}
use Rattle.shapers_buffer.specs.Glyph.{clusters, order_view, plain}
use Rattle.shapers_buffer.specs.Syllables.{syllables}
use Rattle.shapers_indic_final.specs.FinalLaws.{final_text_steps}
use Rattle.shapers_indic_final.proofs.FinalText.{text_fits}
use Rattle.shapers_clusters.proofs.StaysAlong.{spare_along}
use Rattle.shapers_clusters.proofs.Spread.{length-stretch}
use Rattle.shapers_syllabic.specs.Reordering.{glyphs_before}
use Rattle.shapers_syllabic.proofs.SyllableAlone.{glyphs_cut, syllable_alone}
use Rattle.shapers_syllabic.proofs.ReorderingLaws.{each_piece, sum-syllables, text_steps-long}
use Rattle.shapers_syllabic.proofs.ReorderingWalk.{pieces_of}
use Rattle.shapers_clusters.specs.Labels.{MergedStay}
use Rattle.shapers_indic_final.specs.FinalClusters.{EachSyllableCuts, FinalCutsLaw, FinalMergesLaw}
use Rattle.shapers_clusters.proofs.SparedCuts.{exact_spared}
use Rattle.shapers_indic_final.specs.FinalGlyphs.{last_goes_first}
use Rattle.shapers_indic_final.specs.FinalMatras.{end_of_base, has_room, is_left, matra_steps, matra_target, takes_matras, merging_step}
use Rattle.shapers_indic_final.specs.Proved.FinalMoves.{permutes_last_first, picks_first_last, picks_last_first}
use Rattle.shapers_indic_final.specs.Proved.LeftMatraMoves.{lefts, lefts_no, lefts_yes, steps_of}
use Rattle.shapers_clusters.specs.Steps.{SpareMerged, Spares}
use Rattle.shapers_clusters.proofs.StaysMerged.{merged_stay, spare_moves, spare_then}
use Rattle.shapers_indic_final.specs.FinalBase.{with_viramas}
use Rattle.shapers_indic_final.specs.FinalPref.{formed_pref, pref_move, pref_step, pref_target}
use Rattle.shapers_indic_final.specs.FinalReordering.{after_matras, after_reph, based, final_steps, steps_of_pref}
use Rattle.shapers_indic_final.specs.FinalReph.{begins_with_reph, final_reph_step, reph_steps, reph_target}
use Rattle.shapers_indic_final.specs.declared.ot_shaper_indic_final.rules.Rules.{Rules}
use Rattle.shapers_indic_final.specs.Proved.FinalHidden.{base_within, hidden-based, hidden-viramas}
use Rattle.shapers_indic_final.specs.Proved.FinalLawsAt.{length_at, stretch_at}
use Rattle.shapers_indic_final.specs.Proved.FinalTargets.{formed_pref_within, begins_some, pref_target_within, reph_target_within}
use Rattle.shapers_indic_final.specs.Proved.FinalLaws.{final_laws, matras_at, merging_at, reph_at, target_within}
use Rattle.shapers_indic.proofs.PlaceSearch.{PlaceWithin}
use Rattle.shapers_clusters.proofs.Permuted.{permuted-first_last}

-- a stretch of places changed: those around it stay, those inside come from inside
pub record ChangedWithin (i k n : ℕ) (ps : List ℕ) : Type 0 where
  pub before : (p : ℕ) → p < i → get_or ps p 0 ≡ p
  pub behind : (p : ℕ) → k ≤ p → p < n → get_or ps p 0 ≡ p
  pub from : (p : ℕ) → i ≤ p → p < k → i ≤ get_or ps p 0
  pub to : (p : ℕ) → i ≤ p → p < k → get_or ps p 0 < k

pub record Inside (i k q : ℕ) : Type 0 where
  pub low : i ≤ q
  pub high : q < k

pub changed_within : (f : List ℕ → List ℕ) → ((ps : List ℕ) → IsPermutation ps (f ps)) → (i k n : ℕ) → i ≤ k → k ≤ n
    → ChangedWithin i k n (with_stretch i k f (places 0 n))
changed_within f permutes i k n l m =
    let ps = range_with_len 0 n in
    let part = stretch_of i k ps in
    let xs = take i ps in
    let ys = f part in
    let zs = drop k ps in
    let long = length-range_with_len 0 n in
    let xn = length-take-le i ps (omega arith) in
    let pn : length part ≡ k - i = search (arith, length-take-le, length-drop) in
    let yn = length_permutation part ys (permutes part) ∙ pn in
    let each : (p : ℕ) → p < k - i → get_or part p 0 ≡ i + p = λ p a. get_or-take (k - i) (drop i ps) p 0 a
    ∙ get_or-drop i ps p 0 ∙ get_or-range_with_len 0 n (i + p) 0 (omega arith) ∙ omega arith in
    let all_part : All (Inside i k) part = All-from_get_or (Inside i k) part 0
    (λ p a. subst (Inside i k) (sym (each p (omega arith)))
    (record { low = omega arith; high = omega arith })) in
    let there : (p : ℕ) → i ≤ p → p < k → Inside i k (get_or (xs ++ (ys ++ zs)) p 0) = λ p a b.
    subst (Inside i k)
    (sym (get_or-append_right xs (ys ++ zs) i p 0 xn a ∙ get_or_append_left ys zs 0 (p - i) (omega arith)))
    ((All-permutation (Inside i k) part ys (permutes part) all_part) (p - i) 0 (omega arith)) in
    subst (λ m. ChangedWithin i k n (with_stretch i k f (range_with_len 0 m))) (sym (omega arith)) (record {
      before = λ p a. get_or_append_left xs (ys ++ zs) 0 p (omega arith) ∙ get_or-take i ps p 0 a
          ∙ get_or-range_with_len 0 n p 0 (omega arith) ∙ omega arith;
      behind = λ p a b. get_or-append_right xs (ys ++ zs) i p 0 xn (omega arith)
          ∙ get_or-append_right ys zs (k - i) (p - i) 0 yn (omega arith) ∙ get_or-drop k ps (p - i - (k - i)) 0
          ∙ get_or-range_with_len 0 n (k + (p - i - (k - i))) 0 (omega arith) ∙ omega arith;
      from = λ p a b. (there p a b).low;
      to = λ p a b. (there p a b).high;
    })

-- a step that merges such a stretch first moves inside it
pub change_moves : (f : List ℕ → List ℕ) → ((ps : List ℕ) → IsPermutation ps (f ps)) → (i k n : ℕ) → i ≤ k → k ≤ n
    → (step : Step) → step.merged_first ≡ (i, k) ∷ [] → step.places ≡ with_stretch i k f (places 0 n)
    → step.merged_then ≡ [] → FitsStep n step → MovesMerged n step
change_moves f permutes i k n l m step first is none =
    let c = changed_within f permutes i k n l m in
    search arith

-- the steps of left matras: what one merged, the next leave
later_stay : (gs : Glyphs) (n e p m k : ℕ) (st : ℕ × ℕ) → m + k ≤ p → p < n → p - k < st.0 → st.1 ≤ n
    → m ≤ length gs → AllByRecursion (Spares n st) (steps_of n e p k (lefts m gs))
later_stay gs n e p zero k st l h a b c = tt
later_stay gs n e p (suc m) k st l h a b c =
    let i : suc m ≡ m + 1 = omega arith in
    elim (cases_Bool (passes is_left gs m)) [
      | inl holds ↦
          let w = changed_within first_last permuted-first_last m ((p - k) + 1) n (omega arith) (omega arith) in
          search (arith, lefts_yes, later_stay gs n e p m (k + 1) st (omega arith) h (omega arith) b (omega arith))
      | inr fails ↦ search (arith, lefts_no, later_stay gs n e p m k st (omega arith) h a b (omega arith))
    ]

spare_lefts : (gs : Glyphs) (n e p m k : ℕ) → m + k ≤ p → p < n → e ≤ n → m ≤ length gs
    → SpareMerged n (steps_of n e p k (lefts m gs))
spare_lefts gs n e p zero k l h b c = tt
spare_lefts gs n e p (suc m) k l h b c =
    let i : suc m ≡ m + 1 = omega arith in
    elim (cases_Bool (passes is_left gs m)) [
      | inl holds ↦
          let later = later_stay gs n e p m (k + 1) ((p - k), e) (omega arith) h (omega arith) b (omega arith) in
          search (arith, lefts_yes, spare_lefts gs n e p m (k + 1) (omega arith) h b (omega arith))
      | inr fails ↦ search (arith, lefts_no, spare_lefts gs n e p m k (omega arith) h b (omega arith))
    ]

-- or they stay and merge
still_moves : (n e i : ℕ) → FitsStep n (record { merged_first = (i, e) ∷ []; places = places 0 n; merged_then = [] })
    → MovesMerged n (record { merged_first = (i, e) ∷ []; places = places 0 n; merged_then = [] })
still_moves n e i fits = record {
  fits = fits;
  inside = λ p l r a b.
      (let at = get_or-range_with_len 0 (n - 0) p 0 (search arith) in absurd
      (omega arith));
  nothing_then = refl;
}

pub moves_merging : (gs : Glyphs) (e : ℕ) (o : Option ℕ) → e ≤ length gs
    → AllByRecursion (MovesMerged (length gs)) (merging_step (length gs) e o)
moves_merging gs e None l = tt
moves_merging gs e (Some i) l = (let at = merging_at gs e (Some i) l in search still_moves)

spare_matras : (script : Option Script) (base : ℕ) (gs : Glyphs) → base ≤ length gs
    → SpareMerged (length gs) (matra_steps script base gs)
spare_matras script base gs l =
    let p = matra_target script base gs in
    let e = end_of_base base gs in
    let ends : e ≤ length gs = omega arith in
    let low = target_within script base gs in
    elim (cases_Bool (has_room base gs)) [
      | inl room ↦ rw room (elim (cases_Bool (takes_matras p gs)) [
        | inl go ↦ rw go (
            spare_lefts gs (length gs) e p p 0 (omega arith)
            (let some_base : 0 < base = grind arith in omega arith) ends (omega arith))
        | inr stay ↦ rw stay
            (spare_moves (length gs) (merging_step (length gs) e (least_place (passes is_left gs) 0 base))
            (moves_merging gs e (least_place (passes is_left gs) 0 base) ends))
      ])
      | inr none ↦ rw none tt
    ]

-- the reph, and the pref glyph
moves_pref : (gs : Glyphs) (j s : ℕ) (o : Option ℕ) → j ≤ s → ((i : ℕ) → o ≡ Some i → PlaceWithin s (length gs) i)
    → AllByRecursion (MovesMerged (length gs)) (pref_step (length gs) j o)
moves_pref gs j s None l within = tt
moves_pref gs j s (Some i) l within =
    let k = within i refl in
    let ends : i + 1 ≤ length gs = omega arith in
    let at = stretch_at last_goes_first last_goes_first picks_last_first permutes_last_first j (i + 1) (pref_move
    (length gs) j i) gs (omega arith) ends refl (ends, tt) tt in
    search (change_moves last_goes_first permutes_last_first j (i + 1) (length gs) (omega arith) ends
    (pref_move (length gs) j i) refl refl refl at.fits.0)

-- all of them
pub spare_final : (r : Rules) (script : Option Script) (gs : Glyphs)
    → SpareMerged (length gs) (final_steps r script gs)
spare_final r script gs =
    let b = based r script gs in
    let p = after_matras r script b in
    let q = after_reph r p in
    let ms = matra_steps script b.base b.glyphs in
    let rs = reph_steps r.reph_pos p.base p.glyphs in
    let ps = steps_of_pref r script q in
    let low = base_within r script (with_viramas r gs) in
    let bn = length-same carried b.glyphs gs (hidden-based r script (with_viramas r gs) ∙ hidden-viramas r gs) in
    let pn = length_at b.glyphs p.glyphs ms (matras_at script b.base b.glyphs low) ∙ bn in
    let n = length gs in
    let three = subst (λ k. AllByRecursion (MovesMerged k) ps)
    (length_at p.glyphs q.glyphs rs (reph_at r.reph_pos p.base p.glyphs) ∙ pn) (
    search (
      arith,
      moves_pref q.glyphs (pref_target script q.base q.glyphs) (q.base + 1) (formed_pref r.pref q.base q.glyphs)
          (pref_target_within script q.base q.glyphs) (formed_pref_within r.pref q.base q.glyphs),
    )) in
    spare_then n ms (rs ++ ps)
    (subst (λ k. SpareMerged k ms) bn (spare_matras script b.base b.glyphs low)) (all-append (MovesMerged n) rs ps
    (subst (λ k. AllByRecursion (MovesMerged k) rs) pn (
    let j = reph_target r.reph_pos p.base p.glyphs in elim (cases_Bool (begins_with_reph p.glyphs)) [
      | inl on ↦ rw on
          (let high : j < length p.glyphs = reph_target_within r.reph_pos p.base p.glyphs (begins_some p.glyphs on) in
          let ends : j + 1 ≤ length p.glyphs = omega arith in
          let at = stretch_at first_last first_last picks_first_last permuted-first_last 0 (j + 1) (final_reph_step (length
          p.glyphs) j) p.glyphs (omega arith) ends refl (ends, tt) tt in (
            change_moves first_last permuted-first_last 0 (j +
                1) (length p.glyphs) (omega arith) ends (final_reph_step (length p.glyphs) j) refl refl refl at.fits.0,
            tt,
          ))
      | inr
          off ↦ rw off tt
    ])) three)

pub final_merges : FinalMergesLaw
final_merges r script level gs cs m long =
    merged_stay level m (length gs) (final_steps r script gs) cs long (
    (final_laws r script).fits gs) (spare_final r script gs)

pub final_cuts : FinalCutsLaw
final_cuts r script level gs cs m long different =
    let laws = final_laws r script in
    exact_spared level m (length gs) (final_steps r script gs) cs long (laws.fits gs) (laws.permutes gs)
    (spare_final r script gs) different

-- the whole text
spare_pieces : (r : Rules) (script : Option Script) (syls : List Glyphs)
    → AllByRecursion (λ piece. SpareMerged piece.0 piece.1) (pieces_of (final_steps r script) syls)
spare_pieces r script [] = tt
spare_pieces r script (syl ∷ syls) = (spare_final r script syl, spare_pieces r script syls)

pub text_merges : (r : Rules) (script : Option Script) (level : BufferClusterLevel) (gs : Glyphs)
    → merges level ≡ true → MergedStay level (final_text_steps r script gs) (clusters gs)
text_merges r script level gs m =
    let xs = order_view gs in
    let steps = final_steps r script in
    let ps = pieces_of steps (syllables xs) in
    let spare = spare_along (length gs) 0 ps
    (search (arith, sum-syllables, length-map)) (each_piece FitsStep steps (final_laws r script).fits (syllables xs))
    (search spare_pieces) in
    merged_stay level m (length gs) (final_text_steps r script gs) (clusters gs) (length-map gs (λ g. g.cluster))
    (text_fits r script level gs) (search text_steps-long)

pub text_cuts : (r : Rules) (script : Option Script) (level : BufferClusterLevel) (gs : Glyphs) → merges level ≡ true
    → EachSyllableCuts r script (order_view gs) (clusters gs)
    (joined_steps level (final_text_steps r script gs) (clusters gs))
text_cuts r script level gs m before behind syl cut own =
    let xs = order_view gs in
    let cs = clusters gs in
    let s = glyphs_before before in
    let e = s + length syl in
    let all = glyphs_cut xs before behind syl cut in
    let xn = length-map gs plain in
    let cn = length-map gs (λ g. g.cluster) in
    search (
      syllable_alone (final_steps r script) (final_laws r script).fits level xs cs (cn ∙ sym xn) before behind syl cut
          own.others,
      final_cuts r script level syl (stretch_of s e cs) m (length-stretch s e cs (omega arith) ∙ omega arith)
          own.different,
    )
