-- What only adds flags, and what moves only inside what it merged, makes no place clear.
use Rattle.std.proofs.Common.{ℕ, ◌-◌, ◌≤◌, ◌≡◌, ◌≢◌, ◌==◌, max, true, false, ◌&&◌, List, [], ◌∷◌, get_or, refl, ap, ◌∙◌, subst, arith, inl, inr}
use Rattle.std.specs.List.{list_any}
use Rattle.std.proofs.lemmas.Bool.{and_from, and_parts, both_ways, eq-eqb, eqb-true, false_from_ne_true, or_cases, or_from, or_left, or_parts, or_right}
use Rattle.shapers_buffer.specs.Glyphs.{Glyph, Glyphs}
use Rattle.shapers_buffer.specs.declared.buffer.level.BufferClusterLevel.{BufferClusterLevel}
use Rattle.shapers_buffer.specs.Clusters.{merges}
use Rattle.shapers_buffer.specs.Glyph.{clusters, order_view}
use Rattle.shapers_base.specs.declared.plan.pause.Pause.TheVariants.{SetupSyllablesIndic, SetupSyllablesKhmer, SetupSyllablesMyanmar, SetupSyllablesUse, InitialReordering, ReorderKhmer, ReorderMyanmar, ReorderUse, FinalReordering, RecordStch, RecordRphf, RecordPref, SyllabicClearVar, ClearSubstitutionFlags, ArabicFallbackShape}
use Rattle.shapers_clusters.specs.Breaks.{greater, is_unsafe}
use Rattle.shapers_clusters.specs.Cuts.{IsMonotone}
use Rattle.shapers_clusters.specs.FlagLaw.{FlagsAdded, OnlyFlagsAdded}
use Rattle.shapers_clusters.specs.Flags.{bit_at}
use Rattle.shapers_clusters.specs.Laws.{ReorderedHold}
use Rattle.shapers_clusters.specs.Steps.{Step}
use Rattle.shapers_syllabic.specs.Circles.{circled}
use Rattle.shapers_syllabic.specs.Reordering.{carried, text_steps}
use Rattle.shapers_syllabic.specs.ReorderingLaws.{MoveMerged, ReorderLaws}
use Rattle.shapers_khmer.specs.Khmer.{order_in}
use Rattle.shapers_khmer.specs.KhmerLaws.{KhmerMovesMerged, KhmerReorderLaws}
use Rattle.shapers_myanmar.specs.MyanmarLaws.{MyanmarMovesMerged, MyanmarReorderLaws}
use Rattle.shapers_universal.specs.UniversalLaws.{UniversalMovesMerged, UniversalReorderLaws}
use Rattle.rustybuzz_shapers.specs.Pauses.{by_khmer, by_myanmar, by_universal}
use Rattle.rustybuzz_shapers.proofs.Monotone.{same_clusters}
use Rattle.shapers_break_laws.specs.ClearSteps.{ClearWasClear}
use Rattle.shapers_break_laws.specs.KeptFlags.{AddedFlagsClearNone, PausesClearNone}
use Rattle.shapers_break_laws.proofs.CircledBorders.{text_moves}
use Rattle.shapers_break_laws.proofs.ClearSteps.{clear_before_held}

-- a glyph that is unsafe stays so
unsafe_kept : (g h : Glyph) → FlagsAdded g h → is_unsafe g ≡ true → is_unsafe h ≡ true
unsafe_kept g h k bad =
    let first : bit_at 0 h.mask ≤ 1 = omega arith in
    let third : bit_at 2 h.mask ≤ 1 = omega arith in
    elim (or_cases (bit_at 0 g.mask == 1) (bit_at 2 g.mask == 1) bad) [
      | inl a ↦
          let own = eqb-true (bit_at 0 g.mask) 1 a in
          or_left _ _ (eq-eqb (bit_at 0 h.mask) 1 (omega (arith, first, own, k.kept 0 (omega arith))))
      | inr b ↦
          let own = eqb-true (bit_at 2 g.mask) 1 b in
          or_right _ _ (eq-eqb (bit_at 2 h.mask) 1 (omega (arith, third, own, k.kept 2 (omega arith))))
    ]

flagged_kept : (c : ℕ) (g h : Glyph) → FlagsAdded g h → (h.cluster == c && is_unsafe h) ≡ false →
    (g.cluster == c && is_unsafe g) ≡ false
flagged_kept c g h k clear = false_from_ne_true (g.cluster == c && is_unsafe g) (λ flagged.
    let (in_c, bad) = and_parts (g.cluster == c) (is_unsafe g) flagged in
    both_ways _ clear (and_from (h.cluster == c) (is_unsafe h)
    (eq-eqb h.cluster c (k.same ∙ eqb-true g.cluster c in_c)) (unsafe_kept g h k bad)))

any_kept : (c : ℕ) (gs ms : Glyphs) → OnlyFlagsAdded gs ms → list_any (λ g. g.cluster == c && is_unsafe g) ms ≡ false
    → list_any (λ g. g.cluster == c && is_unsafe g) gs ≡ false
any_kept c [] [] k clear = refl
any_kept c [] (m ∷ ms) k clear = absurd k
any_kept c (g ∷ gs) [] k clear = absurd k
any_kept c (g ∷ gs) (m ∷ ms) k clear =
    let (here, rest) = or_parts (m.cluster == c && is_unsafe m)
    (list_any (λ g. g.cluster == c && is_unsafe g) ms) clear in
    or_from _ _ (flagged_kept c g m k.0 here) (any_kept c gs ms k.1 rest)

pub added_clear : AddedFlagsClearNone
added_clear gs ms k p z l clear =
    let same = same_clusters gs ms k in
    let c : greater ms p ≡ greater gs p = ap (λ (cs : List ℕ). max (get_or cs (p - 1) 0) (get_or cs p 0)) same in
    record {
      differ = subst (λ (cs : List ℕ). get_or cs (p - 1) 0 ≢ get_or cs p 0) same clear.differ;
      unflagged = any_kept (greater gs p) gs ms k
          (subst (λ d. list_any (λ g. g.cluster == d && is_unsafe g) ms ≡ false) c clear.unflagged);
    }

-- a reordering that moves only inside what it merged
reordered_clear : (meaning : Glyphs → Glyphs) (steps : Glyphs → List Step) → ReorderLaws meaning steps
    → MoveMerged steps → (level : BufferClusterLevel) (gs ms : Glyphs) → merges level ≡ true → IsMonotone (clusters gs)
    → ReorderedHold carried level (text_steps steps (order_view gs)) gs ms → ClearWasClear gs ms
reordered_clear meaning steps laws inside level gs ms m mono hold =
    let (moves, permutes) = text_moves meaning steps laws inside level gs in
    clear_before_held carried level (text_steps steps (order_view gs)) gs ms m mono moves permutes hold

pub pauses_clear : KhmerReorderLaws → KhmerMovesMerged → MyanmarReorderLaws → MyanmarMovesMerged → UniversalReorderLaws
    → UniversalMovesMerged → PausesClearNone
pauses_clear kl km ml mm ul um SetupSyllablesIndic plan font spans old new i m mono k = added_clear old.glyphs
    new.glyphs k.2
pauses_clear kl km ml mm ul um SetupSyllablesKhmer plan font spans old new i m mono k = added_clear old.glyphs
    new.glyphs k.2
pauses_clear kl km ml mm ul um SetupSyllablesMyanmar plan font spans old new i m mono k = added_clear old.glyphs
    new.glyphs k.2
pauses_clear kl km ml mm ul um SetupSyllablesUse plan font spans old new i m mono k = added_clear old.glyphs new.glyphs
    k.2
pauses_clear kl km ml mm ul um InitialReordering plan font spans old new i m mono k = absurd (cc)
pauses_clear kl km ml mm ul um FinalReordering plan font spans old new i m mono k = absurd (cc)
pauses_clear kl km ml mm ul um ReorderKhmer plan font spans old new i m mono k =
    let r = by_khmer plan font old in
    reordered_clear r.order r.steps (kl (order_in plan.plan_data)) km old.level
    (circled r.circles old.glyphs) new.glyphs m mono k.1.1.0
pauses_clear kl km ml mm ul um ReorderMyanmar plan font spans old new i m mono k =
    let r = by_myanmar font old in
    reordered_clear r.order r.steps ml mm old.level (circled r.circles old.glyphs) new.glyphs m mono k.1.1
pauses_clear kl km ml mm ul um ReorderUse plan font spans old new i m mono k =
    let r = by_universal font old in
    reordered_clear r.order r.steps ul um old.level (circled r.circles old.glyphs) new.glyphs m mono k.1.1
pauses_clear kl km ml mm ul um RecordStch plan font spans old new i m mono k = added_clear old.glyphs new.glyphs k
pauses_clear kl km ml mm ul um RecordRphf plan font spans old new i m mono k = added_clear old.glyphs new.glyphs k
pauses_clear kl km ml mm ul um RecordPref plan font spans old new i m mono k = added_clear old.glyphs new.glyphs k
pauses_clear kl km ml mm ul um SyllabicClearVar plan font spans old new i m mono k = added_clear old.glyphs new.glyphs k
pauses_clear kl km ml mm ul um ClearSubstitutionFlags plan font spans old new i m mono k = added_clear old.glyphs
    new.glyphs k
pauses_clear kl km ml mm ul um ArabicFallbackShape plan font spans old new i m mono k = added_clear old.glyphs
    new.glyphs k
