-- A Hangul text that was preprocessed may be broken wherever two clusters meet, at the level of graphemes.
use Rattle.std.proofs.Common.{ℕ, zero, suc, ◌+◌, ◌-◌, ◌<◌, ◌≤◌, ◌≡◌, ◌≢◌, ◌⊎◌, Bool, true, false, cond, ◌&&◌, ◌||◌, List, [], ◌∷◌, ◌++◌, length, take, drop, get_or, refl, sym, ap, ◌∙◌, subst, arith, inl, inr}
use Rattle.std.specs.Prelude.{nat_lt}
use Rattle.std.specs.List.{All, AllByRecursion, Contains}
use Rattle.std.proofs.lemmas.Bool.{and_from, and_parts, both_ways, cases_lt, lt-ltb, or_parts}
use Rattle.std.proofs.lemmas.List.{append_assoc, get_or-append_right, length-append, length-map, length-take-le, take-append-drop}
use Rattle.std.proofs.lemmas.List.Folds.{list_any-append}
use Rattle.shapers_base.specs.Font.{Font}
use Rattle.shapers_base.specs.declared.plan.hb_ot_shape_plan_t.{hb_ot_shape_plan_t}
use Rattle.shapers_buffer.specs.Glyphs.{Glyph}
use Rattle.shapers_buffer.specs.declared.buffer.level.BufferClusterLevel.TheVariants.{MonotoneGraphemes}
use Rattle.shapers_buffer.specs.Buffer.{Buffer}
use Rattle.shapers_buffer.specs.Clusters.{merges}
use Rattle.shapers_buffer.specs.Glyph.{characters, clusters, order_view}
use Rattle.shapers_clusters.specs.ClusterMerges.{joined_all}
use Rattle.shapers_clusters.specs.Cuts.{EndWithin, IsMonotone, held}
use Rattle.shapers_hangul.specs.Hangul.{allows_circles, first_item, is_narrow, is_syllable, is_tone, item_len, item_stretches, items, items_from, leading_unit, preprocessed, stretches, taken, tone_len, tone_stretch}
use Rattle.shapers_hangul.specs.HangulLaws.{hangul_sources}
use Rattle.shapers_hangul.proofs.HangulClusters.{clusters-rewritten, rewritten_holds}
use Rattle.rustybuzz_shapers.specs.Hooks.{Preprocessed}
use Rattle.rustybuzz_shapers.specs.TextCuts.{IsBetweenItems}
use Rattle.rustybuzz_shapers.specs.declared.shaper.hb_ot_shaper_t.TheVariants.{Hangul}
use Rattle.rustybuzz_shapers.proofs.HangulHalves.{ends_within, hangul_clusters_halves, hangul_order-flagged, hangul_order_halves}
use Rattle.rustybuzz_shapers.proofs.HangulMonotone.{hangul_stays_monotone}
use Rattle.shapers_break_laws.specs.HangulBreaks.{HangulBreaksLaw}
use Rattle.shapers_break_laws.specs.TextBreaks.{JoinsOrder, TextBroken, back_half, front_half}
use Rattle.shapers_break_laws.proofs.MeetingPlaces.{InOneOrder, UnheldAt, contains_picked, unheld_at}
use Rattle.shapers_break_laws.proofs.TextBreaks.{broken_text}

-- AN ITEM
-- a stretch that doesn't hold place q
unheld : (s e q : ℕ) (b : Bool) → (nat_lt s q && nat_lt q e || b) ≡ false → s < q → e ≤ q
unheld s e q b free after = elim (cases_lt q e) [
  | inl inside ↦ absurd (both_ways _ (or_parts _ _ free).0 (and_from _ _ (lt-ltb s q after) (lt-ltb q e inside)))
  | inr past ↦ past
]

-- of n characters from place s on, without a tone, with one that moves before them, and with one behind
no_tone : (s n q : ℕ) → held ((s, s + n) ∷ []) q ≡ false → (s + (n + 0) ≤ q) ⊎ (q ≤ s)
no_tone s n q free = elim (cases_lt s q) [
  | inl after ↦ let past = unheld s (s + n) q false free after in inl (omega (arith, past))
  | inr before ↦ inr before
]

moved_tone : (s n q : ℕ) → held ((s, s + n) ∷ (s, s + n + 1) ∷ []) q ≡ false → (s + (n + 1) ≤ q) ⊎ (q ≤ s)
moved_tone s n q free = elim (cases_lt s q) [
  | inl after ↦
      let past = unheld s (s + n + 1) q false (or_parts _ _ free).1 after in
      inl (omega (arith, past))
  | inr before ↦ inr before
]

tone_behind : (s n q : ℕ) → held ((s, s + n) ∷ []) q ≡ false → q ≢ s + n → (s + (n + 1) ≤ q) ⊎ (q ≤ s)
tone_behind s n q free tone = elim (cases_lt s q) [
  | inl after ↦
      let past = unheld s (s + n) q false free after in
      elim (cases_lt (s + n) q) [
        | inl behind ↦ inl (omega (arith, behind))
        | inr there ↦ absurd (tone (omega (arith, past, there)))
      ]
  | inr before ↦ inr before
]

pub by_tone : {X : Type 0} (Q : X → Type 0) (a b : Bool) (behind before absent : X) → (a ≡ true → b ≡ true → Q behind)
    → Q before → Q absent → Q (cond a (cond b behind before) absent)
by_tone Q true true behind before absent x y z = x refl refl
by_tone Q true false behind before absent x y z = y
by_tone Q false b behind before absent x y z = z

-- THE ITEMS
abbrev NoneAt : Font → List ℕ → ℕ → Type 0
NoneAt font all q = is_tone (get_or all q 0) ≡ true → is_narrow font (get_or all q 0) ≡ true → ⊥

between_from : (font : Font) (circles : Bool) (all before : List ℕ) (q skip : ℕ) (us : List ℕ) → all ≡ before ++ us
    → NoneAt font all q
    → held (stretches MonotoneGraphemes (items_from (first_item font circles) (length before) skip us)) q ≡ false
    → AllByRecursion (λ p. (p.0 + item_len p.1 ≤ q) ⊎ (q ≤ p.0))
    (items_from (first_item font circles) (length before) skip us)
between_from font circles all before q skip [] text none free = tt
between_from font circles all before q zero (u ∷ us) text none free =
    let s = length before in
    let item = first_item font circles (u ∷ us) in
    let opening = leading_unit font circles (u ∷ us) in
    let n = taken opening in
    let w = get_or (u ∷ us) n 0 in
    let rest = items_from (first_item font circles) (s + 1) (item_len item - 1) us in
    let parts = or_parts _ _ (sym (list_any-append (λ st. nat_lt st.0 q && nat_lt q st.1)
    (item_stretches MonotoneGraphemes item s) (stretches MonotoneGraphemes rest)) ∙ free) in
    let back : s + n - s ≡ n = omega arith in
    let read : q ≡ s + n → get_or all q 0 ≡ w = λ at.
    ap (λ vs. get_or vs q 0) text
    ∙ ap (λ k. get_or (before ++ u ∷ us) k 0) at
    ∙ get_or-append_right before (u ∷ us) s (s + n) 0 refl (omega arith)
    ∙ ap (λ k. get_or (u ∷ us) k 0) back in
    let here = by_tone (λ t. held ((s, s + n) ∷ tone_stretch t s (s + n)) q ≡ false → (s + (n + tone_len t) ≤ q)
    ⊎ (q ≤ s)) (is_syllable opening && is_tone w) (is_narrow font w) _ _ _
    (λ both narrow own. tone_behind s n q own (λ at. none (ap is_tone (read at) ∙ (and_parts _ _ both).1)
    (ap (is_narrow font) (read at) ∙ narrow))) (moved_tone s n q) (no_tone s n q) in
    let longer : length (before ++ u ∷ []) ≡ s + 1 = length-append before (u ∷ []) in (
      here parts.0,
      subst (λ k. held (stretches MonotoneGraphemes
          (items_from (first_item font circles) k (item_len item - 1) us)) q ≡ false
          → AllByRecursion (λ p. (p.0 + item_len p.1 ≤ q) ⊎ (q ≤ p.0))
          (items_from (first_item font circles) k (item_len item - 1) us)) longer
          (between_from font circles all (before ++ u ∷ []) q (item_len item - 1) us
          (text ∙ sym (append_assoc before (u ∷ []) us)) none) parts.1,
    )
between_from font circles all before q (suc skip) (u ∷ us) text none free =
    let longer : length (before ++ u ∷ []) ≡ length before + 1 = length-append before (u ∷ []) in
    subst (λ k. held (stretches MonotoneGraphemes (items_from (first_item font circles) k skip us)) q ≡ false
    → AllByRecursion (λ p. (p.0 + item_len p.1 ≤ q) ⊎ (q ≤ p.0)) (items_from (first_item font circles) k skip us))
    longer (between_from font circles all (before ++ u ∷ []) q skip us
    (text ∙ sym (append_assoc before (u ∷ []) us)) none) free

-- THE TEXT
made_clusters : (plan : hb_ot_shape_plan_t) (font : Font) (b c : Buffer) → Preprocessed Hangul plan font b c
    → clusters c.glyphs ≡ clusters (preprocessed font (allows_circles b) b.level b.glyphs)
made_clusters plan font b c is = ap (λ (d : Buffer). clusters d.glyphs) is
    ∙ clusters-rewritten plan.break_flags font (allows_circles b) b.level b.glyphs

made_order : (plan : hb_ot_shape_plan_t) (font : Font) (b c : Buffer) → Preprocessed Hangul plan font b c
    → order_view c.glyphs ≡ order_view (preprocessed font (allows_circles b) b.level b.glyphs)
made_order plan font b c is = ap (λ (d : Buffer). order_view d.glyphs) is
    ∙ hangul_order-flagged plan.break_flags font (allows_circles b) b.level b.glyphs

-- where in the text the clusters meet of which those at a border of the result were made
pub hangul_meeting : (plan : hb_ot_shape_plan_t) (font : Font) (old new : Buffer) → merges old.level ≡ true
    → IsMonotone (clusters old.glyphs) → Preprocessed Hangul plan font old new → (p : ℕ) → 0 < p
    → p < length new.glyphs → get_or (clusters new.glyphs) (p - 1) 0 ≢ get_or (clusters new.glyphs) p 0
    → UnheldAt (clusters old.glyphs) (stretches old.level (items font (allows_circles old) (characters old.glyphs)))
    (clusters new.glyphs) p
hangul_meeting plan font old new m mono is p z l differ =
    let cluster : Glyph → ℕ = λ g. g.cluster in
    let gs = old.glyphs in
    let us = characters gs in
    let level = old.level in
    let circles = allows_circles old in
    let cut = items font circles us in
    let sts = stretches level cut in
    let stays = hangul_stays_monotone plan font old new m is in
    let order : InOneOrder (clusters gs) (clusters new.glyphs) =
    elim mono [ inl up ↦ inl (up, stays.0 up) | inr down ↦ inr (down, stays.1 down) ] in
    let picked : clusters new.glyphs ≡ _ = made_clusters plan font old new is
    ∙ (rewritten_holds font circles level gs).in_clusters.made.clusters_are in
    unheld_at level m sts (clusters gs) (clusters new.glyphs)
    (subst (λ k. EndWithin k sts) (sym (length-map gs cluster)) (ends_within level font circles gs)) order
    (subst (All (Contains (joined_all level sts (clusters gs)))) (sym picked)
    (contains_picked (hangul_sources cut (length us)) (joined_all level sts (clusters gs)))) p z
    (omega (arith, l, length-map new.glyphs cluster)) differ

-- between two items the text may be broken there
pub broken_between : (plan : hb_ot_shape_plan_t) (font : Font) (old new : Buffer) (sts : List (ℕ × ℕ)) (p : ℕ)
    → IsMonotone (clusters old.glyphs) → Preprocessed Hangul plan font old new
    → (at : UnheldAt (clusters old.glyphs) sts (clusters new.glyphs) p)
    → IsBetweenItems font (allows_circles old) (characters old.glyphs) at.place
    → TextBroken (Preprocessed Hangul plan font) JoinsOrder old new p
broken_between plan font old new sts p mono is at between =
    let gs = old.glyphs in
    let level = old.level in
    let circles = allows_circles old in
    let q = at.place in
    let within : q < length gs = omega (arith, at.within, length-map gs (λ (g : Glyph). g.cluster)) in
    let xs = take q gs in
    let ys = drop q gs in
    let text : gs ≡ xs ++ ys = sym (take-append-drop q gs) in
    let n : length xs ≡ q = length-take-le q gs (omega (arith, within)) in
    let parted : IsBetweenItems font circles (characters (xs ++ ys)) (length xs) =
    subst (λ k. IsBetweenItems font circles (characters (xs ++ ys)) k) (sym n)
    (subst (λ hs. IsBetweenItems font circles (characters hs) q) text between) in
    broken_text (Preprocessed Hangul plan font) JoinsOrder old new sts p mono
    (λ b c own. subst (All (Contains (clusters b.glyphs))) (sym (made_clusters plan font b c own))
    (rewritten_holds font (allows_circles b) b.level b.glyphs).in_clusters.made.old_clusters)
    (λ one two joined. joined.1)
    at (λ apart one two first second. (
      made_order plan font old new is
          ∙ ap (λ hs. order_view (preprocessed font circles level hs)) text
          ∙ hangul_order_halves font circles level xs ys parted
          ∙ ap (λ vs. vs ++ order_view (preprocessed font circles level ys))
          (sym (made_order plan font (front_half q old) one first))
          ∙ ap (λ vs. order_view one.glyphs ++ vs) (sym (made_order plan font (back_half q old) two second)),
      made_clusters plan font old new is
          ∙ ap (λ hs. clusters (preprocessed font circles level hs)) text
          ∙ hangul_clusters_halves font circles level xs ys parted apart
          ∙ ap (λ cs. cs ++ clusters (preprocessed font circles level ys))
          (sym (made_clusters plan font (front_half q old) one first))
          ∙ ap (λ cs. clusters one.glyphs ++ cs) (sym (made_clusters plan font (back_half q old) two second)),
    ))

pub hangul_breaks : HangulBreaksLaw
hangul_breaks plan font old new graphemes mono join is p z l differ =
    let us = characters old.glyphs in
    let circles = allows_circles old in
    let cut = items font circles us in
    let at = hangul_meeting plan font old new (ap merges graphemes) mono is p z l differ in
    let q = at.place in
    let free : held (stretches MonotoneGraphemes cut) q ≡ false =
    subst (λ k. held (stretches k cut) q ≡ false) graphemes at.free in
    broken_between plan font old new (stretches old.level cut) p mono is at
    (between_from font circles us [] q 0 us refl (λ tone narrow. at.differ (join q at.some (omega (
      arith,
      at.within,
      length-map old.glyphs (λ (g : Glyph). g.cluster),
    )) tone narrow)) free)
