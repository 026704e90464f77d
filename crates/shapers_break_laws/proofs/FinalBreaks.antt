-- A text of Indic that kept its flags may be broken at every clear place after its final reordering.
use Rattle.std.proofs.Common.{ℕ, ◌%◌, ◌<◌, ◌≤◌, ◌≡◌, if◌then◌else◌, true, false, List, [], ◌∷◌, ◌++◌, length, map, take, drop, get_or, sym, ap, ◌∙◌, subst, arith, inl, inr}
use Rattle.std.specs.Prelude.{Option, None, Some}
use Rattle.std.specs.List.{AllByRecursion, flat_map, sum_by}
use Rattle.std.proofs.lemmas.Bool.{cases_lt}
use Rattle.std.proofs.lemmas.List.{length-map, take-map}
use Rattle.std.proofs.lemmas.List.Elements.{AllZip-get_or}
use Rattle.std.proofs.lemmas.List.Folds.{flat_map-map}
use Rattle.shapers_buffer.specs.Glyphs.{Glyph, Glyphs}
use Rattle.shapers_buffer.specs.declared.buffer.level.BufferClusterLevel.{BufferClusterLevel}
use Rattle.shapers_buffer.specs.declared.buffer.tag.Script.{Script}
use Rattle.shapers_buffer.specs.Clusters.{merges}
use Rattle.shapers_buffer.specs.Glyph.{clusters, default_glyph, order_view, plain}
use Rattle.shapers_buffer.specs.Places.{pick}
use Rattle.shapers_buffer.specs.Syllables.{syllables}
use Rattle.shapers_clusters.specs.Flags.{FallsTo, bit_at}
use Rattle.shapers_clusters.specs.Steps.{FitSteps, FitsStep, Permutes, SpareMerged, Step, old_places, after_steps}
use Rattle.shapers_clusters.proofs.Falls.{flags_fall}
use Rattle.shapers_clusters.proofs.Moves.{length-old_places, within-old_places}
use Rattle.shapers_clusters.proofs.Picks.{length-pick}
use Rattle.shapers_clusters.proofs.Proved.{along_holds, steps_hold}
use Rattle.shapers_indic.specs.Plan.{indic_in}
use Rattle.shapers_indic_final.specs.FinalLaws.{FinalReorderLaws, FinalTextLaws, FlagsFallButBreaks, final_text_steps}
use Rattle.shapers_indic_final.specs.FinalMatras.{matra_steps}
use Rattle.shapers_indic_final.specs.FinalPref.{formed_pref, pref_step, pref_steps, pref_target}
use Rattle.shapers_indic_final.specs.FinalReordering.{after_matras, after_reph, based, final_steps, steps_of_pref}
use Rattle.shapers_indic_final.specs.FinalReph.{final_reph_step, begins_with_reph, reph_steps, reph_target}
use Rattle.shapers_indic_final.specs.FinalBase.{Based}
use Rattle.shapers_indic_final.specs.FinalRules.{final_rules}
use Rattle.shapers_indic_final.specs.declared.ot_shaper_indic_final.rules.Rules.{Rules}
use Rattle.shapers_base.specs.declared.plan.indic.RephPosition.{RephPosition}
use Rattle.shapers_indic_final.proofs.FinalClusters.{spare_final}
use Rattle.shapers_syllabic.proofs.ReorderingLaws.{each_piece, sum-syllables, text_steps-long}
use Rattle.shapers_syllabic.proofs.ReorderingWalk.{pieces_of}
use Rattle.shapers_break_laws.specs.FinalBreaks.{FinalTextBreaks, OneMatraMoves, SeparatesNothing}
use Rattle.shapers_break_laws.specs.Setup.{IsFlagged}
use Rattle.shapers_break_laws.proofs.ApartPieces.{text_apart}
use Rattle.shapers_break_laws.proofs.Guarded.{IsWhole, LeastOrFlagged, three_flags}
use Rattle.shapers_break_laws.proofs.Keepers.{cluster_at, own_keepers}
use Rattle.shapers_break_laws.proofs.KeptBorders.{KeepFlags, length_run, syllable_cut}
use Rattle.shapers_break_laws.proofs.KeptFlagsInside.{GreaterKept, clear_at_border_by, cluster_of, greater_kept, whole_at}
use Rattle.shapers_break_laws.proofs.KeptInside.{one_moves}
use Rattle.shapers_break_laws.proofs.KeptTextBreaks.{all_whole, apart_pieces, whole_syllable}
use Rattle.shapers_break_laws.proofs.TwoClusters.{run_flagged}

-- the steps of reph and pref merge before they move
abbrev MergeFirst : List Step → Type 0
MergeFirst steps = AllByRecursion (λ s. 0 < length s.merged_first) steps

reph_first : (position : RephPosition) (base : ℕ) (gs : Glyphs) → MergeFirst (reph_steps position base gs)
reph_first position base gs = elim (begins_with_reph gs) as
    (λ b. MergeFirst (if b then final_reph_step (length gs) (reph_target position base gs) ∷ [] else []))
    [ true ↦ (omega arith, tt) | false ↦ tt ]

pref_first : (n j : ℕ) (o : Option ℕ) → MergeFirst (pref_step n j o)
pref_first n j None = tt
pref_first n j (Some i) = (omega arith, tt)

tried_first : (r : Rules) (script : Option Script) (b : Based) → MergeFirst (steps_of_pref r script b)
tried_first r script b = elim b.tries_pref as
    (λ t. MergeFirst (if t then pref_steps r.pref script b.base b.glyphs else [])) [
      | true ↦ pref_first (length b.glyphs) (pref_target script b.base b.glyphs) (formed_pref r.pref b.base b.glyphs)
      | false ↦ tt
    ]

both_first : (xs ys : List Step) → MergeFirst xs → MergeFirst ys → MergeFirst (xs ++ ys)
both_first [] ys a b = b
both_first (x ∷ xs) ys a b = (a.0, both_first xs ys a.1 b)

final_keeps : FinalReorderLaws → (r : Rules) (script : Option Script) (level : BufferClusterLevel)
    → merges level ≡ true → KeepFlags (λ q. OneMatraMoves r script (order_view q)) level (final_steps r script)
final_keeps laws r script level m least piece one all =
    let xs = order_view piece in
    let b = based r script xs in
    let p = after_matras r script b in
    let same : length xs ≡ length piece = length-map piece plain in
    let steps = final_steps r script xs in
    let law = laws r script in
    one_moves (LeastOrFlagged least) level m (matra_steps script b.base b.glyphs)
    (reph_steps r.reph_pos p.base p.glyphs ++ steps_of_pref r script (after_reph r p)) piece one
    (subst (λ k. FitSteps k steps) same (law.fits xs))
    (subst (λ k. AllByRecursion (Permutes k) steps) same (law.permutes xs))
    (subst (λ k. SpareMerged k steps) same (spare_final r script xs))
    (both_first (reph_steps r.reph_pos p.base p.glyphs) (steps_of_pref r script (after_reph r p))
    (reph_first r.reph_pos p.base p.glyphs) (tried_first r script (after_reph r p))) all

-- what openings do besides only adds flags
flag_left : (o x y : Glyph) → FallsTo o x → FlagsFallButBreaks o y → y.cluster ≡ x.cluster → IsFlagged x
    → bit_at 0 y.mask ≡ 1
flag_left o x y falls besides same flags =
    let f = flags_fall o x falls in
    elim (cases_lt x.cluster o.cluster) [
      | inl less ↦ absurd (omega (arith, f.fell less, flags.0))
      | inr more ↦
          let own : x.cluster ≡ o.cluster = omega (arith, f.at_most, more) in
          let kept = f.kept own in
          elim (besides.kept (same ∙ own)) [
            | inl a ↦ omega (arith, a, kept, flags.0)
            | inr b ↦ let three = three_flags (o.mask % 8) in omega (arith, b, three.0)
          ]
    ]

-- of any two clusters that meet in a syllable, the greater has a flag
final_greater : FinalReorderLaws → (r : Rules) (script : Option Script) (level : BufferClusterLevel)
    → merges level ≡ true → (pieces : List Glyphs) → AllByRecursion IsWhole pieces
    → AllByRecursion (SeparatesNothing r script) pieces
    → AllByRecursion GreaterKept (map (λ q. after_steps level (final_steps r script (order_view q)) q) pieces)
final_greater laws r script level m [] whole parts = tt
final_greater laws r script level m (q ∷ qs) whole parts =
    let steps = final_steps r script (order_view q) in
    let made = after_steps level steps q in
    let fits : FitSteps (length q) steps = subst (λ n. FitSteps n steps) (length-map q plain)
    ((laws r script).fits (order_view q)) in
    let here : GreaterKept made = elim parts.0 [
      | inl one ↦ greater_kept whole.0.0 made
          (final_keeps laws r script level m whole.0.0 q one (whole_at q whole.0))
      | inr two ↦
          let w = whole_syllable made (run_flagged level steps q fits whole.0 two) in
          greater_kept w.0 made (own_keepers (LeastOrFlagged w.0) made (whole_at made w))
    ] in
    (here, final_greater laws r script level m qs whole.1 parts.1)

pub final_text_breaks : FinalReorderLaws → FinalTextLaws → FinalTextBreaks
final_text_breaks laws text_laws plan font unread old new m flags apart one done p z l clear =
    let d = default_glyph in
    let id : Glyphs → Glyphs = λ q. q in
    let r = final_rules font (indic_in plan) in
    let script = old.script in
    let level = old.level in
    let gs = old.glyphs in
    let n = length gs in
    let steps = final_steps r script in
    let law = laws r script in
    let kept = text_laws r old new done in
    let pieces = syllables gs in
    let parts = apart_pieces gs apart in
    let run : Glyphs → Glyphs = λ q. after_steps level (steps (order_view q)) q in
    let results = map run pieces in
    let all = flat_map id results in
    let xs = order_view gs in
    let ps = pieces_of steps (syllables xs) in
    let sum : sum_by (λ piece. piece.0) ps ≤ n = omega (arith, sum-syllables steps xs, length-map gs plain) in
    let along = along_holds level ps gs sum (each_piece FitsStep steps law.fits (syllables xs)) in
    let moves = final_text_steps r script gs in
    let fit : FitSteps n moves = subst (FitSteps n) (sym (text_steps-long steps gs)) along.fit in
    let hold = steps_hold level moves gs fit in
    let rs = after_steps level moves gs in
    let is : rs ≡ all = text_apart steps law.fits level gs parts ∙ sym (flat_map-map id run pieces) in
    let olds = old_places n moves in
    let within = within-old_places n moves in
    let pn : length (pick olds gs) ≡ n = length-pick olds gs within ∙ length-old_places n moves fit in
    let rn = hold.same_length in
    let an : length all ≡ length rs = sym (ap length is) in
    let cl : clusters new.glyphs ≡ clusters rs = kept.clusters_are ∙ sym hold.clusters_are in
    let nn : length new.glyphs ≡ length rs = sym (length-map new.glyphs (λ g. g.cluster)) ∙ ap length cl
    ∙ length-map rs (λ g. g.cluster) in
    let same : (k : ℕ) → k < length rs → cluster_of new.glyphs k ≡ cluster_of rs k = λ k kl.
    sym (cluster_at new.glyphs k (omega arith)) ∙ ap (λ js. get_or js k 0) cl ∙ cluster_at rs k kl in
    let bad : (k : ℕ) → k < length rs → IsFlagged (get_or rs k d) → bit_at 0 (get_or new.glyphs k d).mask ≡ 1 =
    λ k kl f. flag_left (get_or (pick olds gs) k d) (get_or rs k d) (get_or new.glyphs k d)
    (AllZip-get_or FallsTo (pick olds gs) rs k d d hold.falls (omega arith))
    (AllZip-get_or FlagsFallButBreaks (pick olds gs) new.glyphs k d d kept.flags (omega arith)) (same k kl) f in
    let greater = final_greater laws r script level m pieces (all_whole pieces flags) one in
    let border = clear_at_border_by results greater new.glyphs (nn ∙ sym an)
    (subst (λ ys. (k : ℕ) → k < length ys → cluster_of new.glyphs k ≡ cluster_of ys k) is same)
    (subst (λ ys. (k : ℕ) → k < length ys → IsFlagged (get_or ys k d) → bit_at 0 (get_or new.glyphs k d).mask ≡ 1) is
    bad) p z l clear in
    let k = border.count in
    let cut = syllable_cut gs k in
    let before = flat_map id (take k pieces) in
    let behind = flat_map id (drop k pieces) in
    record {
      before = before;
      behind = behind;
      text = cut.text;
      border = cut.border;
      apart = parts k;
      place = sym (length_run steps law.fits level (take k pieces))
          ∙ ap length (sym (flat_map-map id run (take k pieces)) ∙ ap (flat_map id) (sym (take-map run k pieces)))
          ∙ border.place;
      halves = kept.cuts before behind cut.text cut.border;
    }
