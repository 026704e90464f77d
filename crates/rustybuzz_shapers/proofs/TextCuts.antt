-- Preprocessing of a text cut in two.
use Rattle.std.proofs.Common.{arith}
use Rattle.std.proofs.Common.{ℕ, ◌≡◌, Bool, true, false, [], ◌∷◌, ◌++◌, refl}
use Rattle.std.proofs.lemmas.List.{append-nil}
use Rattle.shapers_base.specs.Font.{has_nominal}
use Rattle.shapers_base.specs.declared.plan.breaks.BreakFlags.{BreakFlags}
use Rattle.shapers_buffer.specs.Glyphs.{Glyphs}
use Rattle.shapers_buffer.specs.declared.buffer.level.BufferClusterLevel.{BufferClusterLevel}
use Rattle.shapers_hangul.specs.Hangul.{allows_circles}
use Rattle.shapers_hangul.proofs.HangulClusters.{clusters-rewritten}
use Rattle.shapers_text.specs.ThaiForms.{asks_for_forms, preprocessed_flagged, preprocessed_text}
use Rattle.shapers_text.proofs.ThaiWholeMarks.{clusters-flagged, order_view-flagged}
use Rattle.rustybuzz_shapers.specs.TextCuts.{HangulCuts, BeginsFreely, PreprocessedHalves, ThaiCuts}
use Rattle.rustybuzz_shapers.proofs.HangulHalves.{hangul_clusters_halves, hangul_order-flagged, hangul_order_halves}
use Rattle.rustybuzz_shapers.proofs.ThaiClusterHalves.{thai_clusters_halves}
use Rattle.rustybuzz_shapers.proofs.ThaiHalves.{thai_order_halves}

nothing_made : (forms : Bool) (has : ℕ → Bool) (level : BufferClusterLevel) → preprocessed_text forms has level [] ≡ []
nothing_made true has level = refl
nothing_made false has level = refl

made_halves : (forms : Bool) (has : ℕ → Bool) (level : BufferClusterLevel) (gs hs : Glyphs) → BeginsFreely forms hs
    → PreprocessedHalves gs hs (preprocessed_text forms has level gs) (preprocessed_text forms has level hs)
    (preprocessed_text forms has level (gs ++ hs))
made_halves forms has level gs [] = search (arith, append-nil, nothing_made)
made_halves forms has level gs (h ∷ hs) = search (arith, thai_order_halves, thai_clusters_halves)

-- the choice flags nothing that the order or clusters show
flagged_halves : (breaks : BreakFlags) (forms : Bool) (has : ℕ → Bool) (level : BufferClusterLevel)
    (gs hs : Glyphs) → BeginsFreely forms hs
    → PreprocessedHalves gs hs (preprocessed_flagged breaks forms has level gs)
    (preprocessed_flagged breaks forms has level hs) (preprocessed_flagged breaks forms has level (gs ++ hs))
flagged_halves breaks forms has level gs hs free =
    let made = made_halves forms has level gs hs free in
    let seen = order_view-flagged breaks forms has level in
    let own = clusters-flagged breaks forms has level in
    record {
      order = cc (seen (gs ++ hs), made.order, seen gs, seen hs);
      in_clusters = λ none. cc (own (gs ++ hs), made.in_clusters none, own gs, own hs);
    }

pub thai_cuts : ThaiCuts
thai_cuts plan font gs hs old one two new free =
    let made = flagged_halves plan.break_flags (asks_for_forms plan) (has_nominal font) old.level gs hs free in
    search (arith, made.in_clusters)

pub hangul_cuts : HangulCuts
hangul_cuts plan font gs hs old one two new between first second whole =
    let circles = allows_circles old in
    let breaks = plan.break_flags in
    let seen = hangul_order-flagged breaks font circles old.level in
    let own = clusters-rewritten breaks font circles old.level in
    record {
      order =
          search (arith, hangul_order_halves);
      in_clusters = search (arith, hangul_clusters_halves);
    }
