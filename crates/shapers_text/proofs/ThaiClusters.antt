-- What the hook makes of clusters and glyph flags, by the law of made glyphs.
use Rattle.std.proofs.Common.{◌≡◌, ℕ, ◌-◌, ◌+◌, ◌<◌, ◌≤◌, true, false, Bool, List, [], ◌∷◌, ◌++◌, length, map, refl, sym, ap, ◌∙◌, subst, arith}
use Rattle.std.proofs.lemmas.Bool.{lt-ltb}
use Rattle.std.specs.List.{suffix_len, range_with_len, enumerate_from, Contains}
use Rattle.std.proofs.lemmas.List.Elements.{All-cons, All-from_recursion}
use Rattle.std.proofs.lemmas.List.FromFn.{length-range_with_len}
use Rattle.std.proofs.lemmas.List.Sums.{suffix_len-le-length}
use Rattle.std.proofs.lemmas.Simd.{map-map}
use Rattle.shapers_buffer.specs.Glyphs.{Glyph, Glyphs}
use Rattle.shapers_buffer.specs.declared.buffer.level.BufferClusterLevel.{BufferClusterLevel}
use Rattle.shapers_buffer.specs.Glyph.{clusters, characters}
use Rattle.shapers_buffer.specs.Clusters.{merge_all, merges}
use Rattle.shapers_buffer.specs.Lists.{before_last_stretch, each_after}
use Rattle.shapers_buffer.proofs.MappedLists.{all-range, Contains-flat_map, Contains-each_after}
use Rattle.shapers_base.specs.declared.plan.breaks.BreakFlags.{BreakFlags}
use Rattle.shapers_clusters.specs.Cuts.{ShareCluster}
use Rattle.shapers_clusters.proofs.MadeGlyphs.{Made, all_standing, glyphs-standing, numbered-standing}
use Rattle.shapers_clusters.specs.Laws.{ClustersMade}
use Rattle.shapers_clusters.proofs.Proved.{made_hold_by, part_shares}
use Rattle.shapers_text.specs.Thai.{is_sara_am, is_above_base, SaraAmRule, in_two, glyph_rule, place_rule, glyphs_in_two, sara_am_sources, sara_am_stretches, stretches_at}
use Rattle.shapers_text.specs.ThaiLaws.{without_form, without_name, new_place, ClustersInTwo, InTwoLaw}
use Rattle.shapers_text.specs.ThaiForms.{marks_flagged, preprocessed_text, pua_shaped}
use Rattle.shapers_text.proofs.ThaiGuarded.{guarded, guarded_alike, guarded_nikhahit, guarded_sara_aa}
use Rattle.shapers_text.proofs.ThaiInTwo.{kept, none_lost, read_by, in_two-map, sources_at}
use Rattle.shapers_text.proofs.ThaiStretches.{characters-merge_all, stretches_within}
use Rattle.shapers_text.proofs.ThaiFormWalks.{without_form-pua}
use Rattle.shapers_text.proofs.ThaiWholeMarks.{map-marks_flagged}

-- the rule on made glyphs: what comes of a SARA AM comes of its place
abbrev made_in_two : (gs : Glyphs) → SaraAmRule (Made without_name gs)
made_in_two gs =
    let rule = guarded glyph_rule in
    read_by (λ m. m.glyph) (λ m. record m { glyph = rule.nikhahit m.glyph; same = guarded_nikhahit m.glyph ∙ m.same })
    (λ m. record m { glyph = rule.sara_aa m.glyph; same = guarded_sara_aa m.glyph ∙ m.same }) rule

-- a SARA AM with marks merges with them, and that stretch holds together what comes of them
shares : (level : BufferClusterLevel) (us cs js : List ℕ)
    → ClustersMade level (sara_am_stretches level us) (sara_am_sources us) cs js → merges level ≡ true
    → (xs : List ℕ) (u : ℕ) (ys : List ℕ) → us ≡ xs ++ u ∷ ys → is_sara_am u ≡ true
    → ShareCluster js (new_place xs) (new_place xs + suffix_len is_above_base xs)
shares level us cs js made m xs u ys split is_am =
    let n = length xs in
    let w = suffix_len is_above_base xs in
    let st : ℕ × ℕ = (n - w, n + 1) in
    let few = suffix_len-le-length is_above_base xs in
    let P : ℕ → Type 0 = λ p. (n - w ≤ p) × (p < n + 1) in
    let (behind, parts) = sources_at xs u ys is_am in
    let long = length-range_with_len (n - w) w in
    let merged : 0 < w → Contains (stretches_at level n u w) st = λ some. rw (
      is_am,
      lt-ltb 0 w some,
    ) (0, omega arith, refl) in
    part_shares made m st (sara_am_sources (before_last_stretch is_above_base xs)) (n ∷ range_with_len (n - w) w) behind
    (λ some. subst (λ vs. Contains (sara_am_stretches level vs) st) (sym split)
    (Contains-flat_map _ (each_after [] (xs ++ u ∷ ys)) (xs, u) st (Contains-each_after [] xs u ys)
    (merged (omega arith)))) (ap sara_am_sources split ∙ parts)
    (All-cons P n (range_with_len (n - w) w) (omega arith, omega arith)
    (All-from_recursion P (range_with_len (n - w) w)
    (all-range P (n - w) w (λ p low high. (omega arith, omega arith)))))
    (new_place xs) (new_place xs + w) refl (omega arith)

-- the rule makes the glyphs of the result, and their places are the sources
pub in_two_holds : InTwoLaw
in_two_holds level gs =
    let us = characters gs in
    let sts = sara_am_stretches level us in
    let ms = merge_all level sts gs in
    let standing = all_standing without_name ms in
    let made = in_two (made_in_two ms) standing in
    let pairs =
    in_two-map (λ m. (m.place, m.glyph.glyph_id)) _ _ (guarded place_rule) (λ m. search arith) (λ m. search arith)
    standing ∙ ap (in_two (guarded place_rule))
    (numbered-standing (λ g. g.glyph_id) without_name ms ∙ ap (enumerate_from 0) (characters-merge_all level sts gs))
    ∙ guarded_alike place_rule (enumerate_from 0 us) in
    let (same, h) =
    made_hold_by without_name (search arith) level sts (sara_am_sources us) gs (glyphs_in_two ms)
    (stretches_within level gs) made
    (sym (map-map (λ p. p.0) (λ m. (m.place, m.glyph.glyph_id)) made) ∙ ap (map (λ p. p.0)) pairs)
    (in_two-map (λ m. m.glyph) _ _ (guarded glyph_rule) (λ m. refl) (λ m. refl) standing
    ∙ ap (in_two (guarded glyph_rule)) (glyphs-standing without_name ms) ∙ guarded_alike glyph_rule ms) in
    record {
      made = same;
      kept = (kept glyph_rule ms).whole;
      in_clusters =
          record {
            made = h.clusters_made;
            none_lost = none_lost us;
            cluster_law = shares level us (clusters gs) (clusters (glyphs_in_two ms)) h.clusters_made;
          };
      falls = h.falls;
    }

-- the whole hook: its forms leave the clusters
pub plain_in_two : (level : BufferClusterLevel) (gs text : Glyphs)
    → text ≡ preprocessed_text false (λ _. false) level gs
    → ClustersInTwo level (characters gs) (clusters gs) (clusters text)
plain_in_two level gs text is =
    subst (λ xs. ClustersInTwo level (characters gs) (clusters gs) (clusters xs)) (sym is)
    (in_two_holds level gs).in_clusters

pub shaped_in_two : (breaks : BreakFlags) (has : ℕ → Bool) (level : BufferClusterLevel) (gs text shaped : Glyphs)
    → text ≡ preprocessed_text false has level gs → shaped ≡ pua_shaped has (marks_flagged breaks text)
    → ClustersInTwo level (characters gs) (clusters gs) (clusters shaped)
shaped_in_two breaks has level gs text shaped is forms =
    let whole = preprocessed_text false has level gs in
    let cluster : Glyph → ℕ = λ g. g.cluster in
    let flagged = marks_flagged breaks whole in
    subst (ClustersInTwo level (characters gs) (clusters gs)) (sym
    (ap clusters (forms ∙ ap (λ xs. pua_shaped has (marks_flagged breaks xs)) is)
    ∙ sym (map-map cluster without_form (pua_shaped has flagged)) ∙ ap clusters (without_form-pua has flagged)
    ∙ map-map cluster without_form flagged ∙ map-marks_flagged cluster (λ g. refl) breaks whole)) (in_two_holds level gs).in_clusters
