-- No hook and no pause makes a cluster, and halves stay apart.
use Rattle.std.proofs.Common.{ℕ, ◌<◌, ◌≡◌, [], ◌∷◌, length, slice_index, get_or, sym, subst, ◌∙◌, arith}
use Rattle.std.specs.List.{All, Contains}
use Rattle.std.proofs.lemmas.List.{get_or_default, length-map}
use Rattle.std.proofs.lemmas.List.Elements.{All-contains_itself, All-cons, All-get_or, All-nil}
use Rattle.shapers_base.specs.declared.plan.pause.Pause.TheVariants.{SetupSyllablesIndic, SetupSyllablesKhmer, SetupSyllablesMyanmar, SetupSyllablesUse, InitialReordering, ReorderKhmer, ReorderMyanmar, ReorderUse, FinalReordering}
use Rattle.shapers_base.specs.declared.plan.hb_ot_shape_plan_t.{hb_ot_shape_plan_t}
use Rattle.shapers_base.specs.Font.{Font}
use Rattle.shapers_buffer.specs.Buffer.{Buffer}
use Rattle.shapers_buffer.specs.Glyphs.{Glyph, Glyphs}
use Rattle.shapers_buffer.specs.Glyph.{clusters}
use Rattle.shapers_buffer.proofs.MappedLists.{Contains-map}
use Rattle.shapers_clusters.specs.FlagLaw.{OnlyFlagsAdded}
use Rattle.shapers_stretch.specs.StretchLaws.{AreCopies}
use Rattle.shapers_syllabic.specs.CircleLaws.{NoNewCluster}
use Rattle.rustybuzz_shapers.specs.Apart.{HalvesStayApart, HooksMakeNoCluster, PausesMakeNoCluster}
use Rattle.rustybuzz_shapers.specs.Hooks.{MarksKeep, PostprocessKeeps, PreprocessKeeps}
use Rattle.rustybuzz_shapers.specs.declared.shaper.hb_ot_shaper_t.{hb_ot_shaper_t}
use Rattle.rustybuzz_shapers.specs.declared.shaper.hb_ot_shaper_t.TheVariants.{Arabic, Hangul, Hebrew, Indic, Thai, Universal}
use Rattle.rustybuzz_shapers.proofs.Monotone.{same_clusters}

none_new : (gs ms : Glyphs) → clusters ms ≡ clusters gs → NoNewCluster gs ms
none_new gs ms same = subst (λ cs. All (Contains (clusters gs)) cs) (sym same) (All-contains_itself (clusters gs))

unchanged : (old new : Buffer) → new ≡ old → NoNewCluster old.glyphs new.glyphs
unchanged old new is =
    subst (λ (b : Buffer). NoNewCluster old.glyphs b.glyphs) (sym is) (All-contains_itself (clusters old.glyphs))

flagged_none : (gs ms : Glyphs) → OnlyFlagsAdded gs ms → NoNewCluster gs ms
flagged_none gs ms added = none_new gs ms (same_clusters gs ms added)

preprocessing : (shaper : hb_ot_shaper_t) (plan : hb_ot_shape_plan_t) (font : Font) (old new : Buffer)
    → PreprocessKeeps shaper plan font old new → NoNewCluster old.glyphs new.glyphs
preprocessing Hangul plan font old new k = k.0.made.old_clusters
preprocessing Indic plan font old new k = unchanged old new k
preprocessing Thai plan font old new k = k.0.made.old_clusters
preprocessing Universal plan font old new k = unchanged old new k
preprocessing _ plan font old new k = unchanged old new k.1

marks : (shaper : hb_ot_shaper_t) (start end : ℕ) (old new : Buffer) → MarksKeep shaper start end old new
    → NoNewCluster old.glyphs new.glyphs
marks Arabic start end old new k = k.glyphs.in_clusters.old_clusters
marks Hebrew start end old new k = k.glyphs.in_clusters.old_clusters
marks _ start end old new k = unchanged old new k.1

copies_none : (olds news : Glyphs) → AreCopies olds news → NoNewCluster olds news
copies_none olds [] k = search (arith, All-nil)
copies_none olds (new ∷ news) k =
    let there : Contains (clusters olds) k.0.0.cluster =
    Contains-map (λ (g : Glyph). g.cluster) olds k.0.0 k.0.1.0 in
    All-cons (Contains (clusters olds)) new.cluster (clusters news) (search arith) (copies_none olds news k.1)

postprocessing : (shaper : hb_ot_shaper_t) (plan : hb_ot_shape_plan_t) (font : Font) (old new : Buffer)
    → PostprocessKeeps shaper plan font old new → NoNewCluster old.glyphs new.glyphs
postprocessing Arabic plan font old new k = search (arith, copies_none)
postprocessing _ plan font old new k = unchanged old new k.1

pub hooks_make_no_cluster : HooksMakeNoCluster
hooks_make_no_cluster = search (arith, preprocessing, marks, flagged_none, postprocessing)

pub pauses_make_no_cluster : PausesMakeNoCluster
pauses_make_no_cluster SetupSyllablesIndic plan font spans old new k = search (arith, none_new)
pauses_make_no_cluster SetupSyllablesKhmer plan font spans old new k = search (arith, none_new)
pauses_make_no_cluster SetupSyllablesMyanmar plan font spans old new k = search (arith, none_new)
pauses_make_no_cluster SetupSyllablesUse plan font spans old new k = search (arith, none_new)
pauses_make_no_cluster InitialReordering plan font spans old new k = k.0.old_clusters
pauses_make_no_cluster ReorderKhmer plan font spans old new k = k.0.old_clusters
pauses_make_no_cluster ReorderMyanmar plan font spans old new k = k.0.old_clusters
pauses_make_no_cluster ReorderUse plan font spans old new k = k.0.old_clusters
pauses_make_no_cluster FinalReordering plan font spans old new k = k.1.1
pauses_make_no_cluster _ plan font spans old new k = search (arith, flagged_none)

-- where the text had the cluster of a glyph
old_place : (gs xs : Glyphs) (i : ℕ) → i < length xs → NoNewCluster gs xs → (k : ℕ) × (k < length gs)
    × (slice_index (clusters gs) k ≡ slice_index (clusters xs) i)
old_place gs xs i inside none =
    let cluster : Glyph → ℕ = λ g. g.cluster in
    let found = All-get_or (Contains (clusters gs)) (clusters xs) i 0 (omega (arith, inside, length-map xs cluster))
    none in
    search (
      arith,
      found.0,
      length-map gs cluster,
      found.1,
      get_or_default (clusters gs) found.0 0 (get_or (clusters xs) i 0) found.1,
      found.2,
    )

pub halves_stay_apart : HalvesStayApart
halves_stay_apart gs hs xs ys first second none i j il jl same =
    let a = old_place gs xs i il first in
    let b = old_place hs ys j jl second in
    none a.0 b.0 a.1 b.1 (a.2 ∙ same ∙ sym b.2)
