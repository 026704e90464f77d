-- A Thai or Lao text whose SARA AMs were taken in two may be broken wherever two clusters meet.
use Rattle.std.proofs.Common.{ℕ, ◌-◌, ◌<◌, ◌≡◌, ◌≢◌, Bool, true, false, [], ◌∷◌, ◌++◌, length, get_or, take, drop, sym, ap, ◌∙◌, subst, arith, inl, inr}
use Rattle.std.specs.List.{All, Contains}
use Rattle.std.proofs.lemmas.Bool.{false_from_ne_true}
use Rattle.std.proofs.lemmas.List.{get_or-append_right, length-append, length-map, length-take-le, map-append, take-append-drop}
use Rattle.shapers_base.specs.Font.{Font, has_nominal}
use Rattle.shapers_base.specs.declared.plan.hb_ot_shape_plan_t.{hb_ot_shape_plan_t}
use Rattle.shapers_buffer.specs.Glyphs.{Glyph, Glyphs}
use Rattle.shapers_buffer.specs.declared.buffer.level.BufferClusterLevel.{BufferClusterLevel}
use Rattle.shapers_buffer.specs.Buffer.{Buffer}
use Rattle.shapers_buffer.specs.Clusters.{merges}
use Rattle.shapers_buffer.specs.Glyph.{characters, clusters, order_view, plain}
use Rattle.shapers_clusters.specs.ClusterMerges.{joined_all}
use Rattle.shapers_clusters.specs.Cuts.{EndWithin, IsMonotone, ShareNone, held}
use Rattle.shapers_text.specs.Thai.{sara_am_sources, sara_am_stretches}
use Rattle.shapers_text.specs.ThaiForms.{asks_for_forms, is_thai_mark, preprocessed_flagged, with_thai_forms}
use Rattle.shapers_text.proofs.ThaiClusters.{in_two_holds}
use Rattle.shapers_text.proofs.ThaiFormWalks.{forms_hold}
use Rattle.shapers_text.proofs.ThaiStretches.{stretches_within}
use Rattle.shapers_text.proofs.ThaiWholeMarks.{clusters-flagged, order_view-flagged}
use Rattle.rustybuzz_shapers.specs.Hooks.{Preprocessed}
use Rattle.rustybuzz_shapers.specs.declared.shaper.hb_ot_shaper_t.TheVariants.{Thai}
use Rattle.rustybuzz_shapers.proofs.ThaiHalves.{forms_halves, text_view}
use Rattle.rustybuzz_shapers.proofs.ThaiMonotone.{thai_monotone}
use Rattle.shapers_break_laws.specs.TextBreaks.{IsClusterBorder, JoinsGlyphs, JoinsOrder, TextBroken, back_half, front_half}
use Rattle.shapers_break_laws.specs.ThaiBreaks.{SaraAmsBreakLaw, ThaiFormsBreakLaw, sara_ams_taken}
use Rattle.shapers_break_laws.proofs.MeetingPlaces.{InOneOrder, UnheldAt, contains_picked, unheld_at}
use Rattle.shapers_break_laws.proofs.SaraAmHalves.{two_halves}
use Rattle.shapers_break_laws.proofs.TextBreaks.{broken_text}

-- a list of clusters that is made of SARA AMs taken in two
clusters_in_order : (level : BufferClusterLevel) → merges level ≡ true → (gs : Glyphs)
    → IsMonotone (clusters gs) → InOneOrder (clusters gs) (clusters (sara_ams_taken level gs))
clusters_in_order level m gs mono =
    let stays = thai_monotone level m gs (clusters (sara_ams_taken level gs)) (in_two_holds level gs).in_clusters.made in
    elim mono [ inl up ↦ inl (up, stays.0 up) | inr down ↦ inr (down, stays.1 down) ]

pub two_unheld : (level : BufferClusterLevel) → merges level ≡ true → (gs : Glyphs)
    → IsMonotone (clusters gs) → (p : ℕ) → 0 < p → p < length (sara_ams_taken level gs)
    → IsClusterBorder (sara_ams_taken level gs) p
    → UnheldAt (clusters gs) (sara_am_stretches level (characters gs)) (clusters (sara_ams_taken level gs)) p
two_unheld level m gs mono p z l differ =
    let cluster : Glyph → ℕ = λ g. g.cluster in
    let sts = sara_am_stretches level (characters gs) in
    let ms = sara_ams_taken level gs in
    let sources = sara_am_sources (characters gs) in
    let ends : EndWithin (length (clusters gs)) sts =
    subst (λ k. EndWithin k sts) (sym (length-map gs cluster)) (stretches_within level gs) in
    let made : All (Contains (joined_all level sts (clusters gs))) (clusters ms) =
    subst (All (Contains (joined_all level sts (clusters gs)))) (sym (in_two_holds level gs).in_clusters.made.clusters_are)
    (contains_picked sources (joined_all level sts (clusters gs))) in
    unheld_at level m sts (clusters gs) (clusters ms) ends (clusters_in_order level m gs mono) made p z
    (omega (arith, l, length-map ms cluster)) differ

-- without forms
two_of : (plan : hb_ot_shape_plan_t) (font : Font) → asks_for_forms plan ≡ false → (b c : Buffer)
    → Preprocessed Thai plan font b c → c.glyphs ≡ sara_ams_taken b.level b.glyphs
two_of plan font none b c is = ap (λ (d : Buffer). d.glyphs) is
    ∙ ap (λ f. preprocessed_flagged plan.break_flags f (has_nominal font) b.level b.glyphs) none

-- cut where no stretch holds both sides
pub two_cut : (level : BufferClusterLevel) (gs : Glyphs) (q : ℕ) → 0 < q → q < length gs
    → ShareNone (take q gs) (drop q gs) → held (sara_am_stretches level (characters gs)) q ≡ false
    → sara_ams_taken level gs ≡ sara_ams_taken level (take q gs) ++ sara_ams_taken level (drop q gs)
two_cut level gs q some within apart free =
    let xs = take q gs in
    let ys = drop q gs in
    let text : gs ≡ xs ++ ys = sym (take-append-drop q gs) in
    let n : length xs ≡ q = length-take-le q gs (omega (arith, within)) in
    ap (sara_ams_taken level) text
    ∙ (two_halves level xs ys (omega (arith, n, some)) apart (subst (λ k. held
    (sara_am_stretches level (characters (xs ++ ys))) k ≡ false) (sym n)
    (subst (λ hs. held (sara_am_stretches level (characters hs)) q ≡ false) text free))).made

pub sara_ams_break : SaraAmsBreakLaw
sara_ams_break plan font old new none m mono is p z l differ =
    let level = old.level in
    let gs = old.glyphs in
    let made = two_of plan font none old new is in
    let at : UnheldAt (clusters gs) (sara_am_stretches level (characters gs)) (clusters new.glyphs) p =
    subst (λ ms. UnheldAt (clusters gs) (sara_am_stretches level (characters gs)) (clusters ms) p) (sym made)
    (two_unheld level m gs mono p z (omega (arith, l, ap length made))
    (subst (λ ms. IsClusterBorder ms p) made differ)) in
    broken_text (Preprocessed Thai plan font) JoinsGlyphs old new (sara_am_stretches level (characters gs)) p mono
    (λ b c own. subst (λ ms. All (Contains (clusters b.glyphs)) (clusters ms)) (sym (two_of plan font none b c own))
    (in_two_holds b.level b.glyphs).in_clusters.made.old_clusters)
    (λ one two joined. ap clusters joined ∙ map-append (λ (g : Glyph). g.cluster) one.glyphs two.glyphs)
    at (λ apart one two first second. made
    ∙ two_cut level gs at.place at.some (omega (arith, at.within, length-map gs (λ (g : Glyph). g.cluster)))
    apart at.free
    ∙ ap (λ hs. hs ++ sara_ams_taken level (drop at.place gs)) (sym (two_of plan font none (front_half at.place old) one first))
    ∙ ap (λ hs. one.glyphs ++ hs) (sym (two_of plan font none (back_half at.place old) two second)))

-- PRIVATE USE FORMS
pub formed_of : (plan : hb_ot_shape_plan_t) (font : Font) → asks_for_forms plan ≡ true → (b c : Buffer)
    → Preprocessed Thai plan font b c
    → c.glyphs ≡ preprocessed_flagged plan.break_flags true (has_nominal font) b.level b.glyphs
formed_of plan font asked b c is = ap (λ (d : Buffer). d.glyphs) is
    ∙ ap (λ f. preprocessed_flagged plan.break_flags f (has_nominal font) b.level b.glyphs) asked

-- they change no cluster, and in the order view they are those of the text with its SARA AMs in two
pub formed_clusters : (plan : hb_ot_shape_plan_t) (font : Font) → asks_for_forms plan ≡ true → (b c : Buffer)
    → Preprocessed Thai plan font b c → clusters c.glyphs ≡ clusters (sara_ams_taken b.level b.glyphs)
formed_clusters plan font asked b c is =
    ap clusters (formed_of plan font asked b c is)
    ∙ clusters-flagged plan.break_flags true (has_nominal font) b.level b.glyphs
    ∙ (forms_hold (has_nominal font) b.level b.glyphs).clusters_stay

formed_view : (plan : hb_ot_shape_plan_t) (font : Font) → asks_for_forms plan ≡ true → (b c : Buffer)
    → Preprocessed Thai plan font b c → order_view c.glyphs
    ≡ with_thai_forms (has_nominal font) (order_view (sara_ams_taken b.level b.glyphs))
formed_view plan font asked b c is =
    let has = has_nominal font in
    ap order_view (formed_of plan font asked b c is)
    ∙ order_view-flagged plan.break_flags true has b.level b.glyphs
    ∙ text_view true has b.level b.glyphs
    ∙ ap (with_thai_forms has) (sym (text_view false has b.level b.glyphs))

-- cut before a glyph that is no mark
cut_before_letter : (has : ℕ → Bool) (us vs : Glyphs) (p : ℕ) → length us ≡ p → p < length (us ++ vs)
    → is_thai_mark (get_or (characters (us ++ vs)) p 0) ≡ false → with_thai_forms has (order_view us ++ order_view vs)
    ≡ with_thai_forms has (order_view us) ++ with_thai_forms has (order_view vs)
cut_before_letter has us [] p n l letter = absurd (omega (arith, n, l, length-append us []))
cut_before_letter has us (v ∷ vs) p n l letter =
    let character : Glyph → ℕ = λ g. g.glyph_id in
    let back : p - p ≡ 0 = omega arith in
    let first : get_or (characters (us ++ v ∷ vs)) p 0 ≡ v.glyph_id =
    ap (λ cs. get_or cs p 0) (map-append character us (v ∷ vs))
    ∙ get_or-append_right (characters us) (v.glyph_id ∷ characters vs) p p 0 (length-map us character ∙ n) (omega arith)
    ∙ ap (λ k. get_or (v.glyph_id ∷ characters vs) k 0) back in
    forms_halves has (order_view us) (plain v) (order_view vs) (sym (ap is_thai_mark first) ∙ letter)

-- wherever two clusters meet before a glyph that is no mark
pub forms_broken : (plan : hb_ot_shape_plan_t) (font : Font) (old new : Buffer) → asks_for_forms plan ≡ true
    → merges old.level ≡ true → IsMonotone (clusters old.glyphs) → Preprocessed Thai plan font old new → (p : ℕ)
    → 0 < p → p < length new.glyphs → IsClusterBorder new.glyphs p
    → is_thai_mark (get_or (characters (sara_ams_taken old.level old.glyphs)) p 0) ≡ false
    → TextBroken (Preprocessed Thai plan font) JoinsOrder old new p
forms_broken plan font old new asked m mono is p z l differ letter =
    let cluster : Glyph → ℕ = λ g. g.cluster in
    let has = has_nominal font in
    let level = old.level in
    let gs = old.glyphs in
    let ms = sara_ams_taken level gs in
    let same = formed_clusters plan font asked old new is in
    let long : length new.glyphs ≡ length ms = sym (length-map new.glyphs cluster) ∙ ap length same
    ∙ length-map ms cluster in
    let within : p < length ms = omega (arith, l, long) in
    let apart : get_or (clusters ms) (p - 1) 0 ≢ get_or (clusters ms) p 0 =
    subst (λ cs. get_or cs (p - 1) 0 ≢ get_or cs p 0) same differ in
    let at = two_unheld level m gs mono p z within apart in
    let sts = sara_am_stretches level (characters gs) in
    let there : UnheldAt (clusters gs) sts (clusters new.glyphs) p =
    subst (λ cs. UnheldAt (clusters gs) sts cs p) (sym same) at in
    let q = there.place in
    let inside : q < length gs = omega (arith, there.within, length-map gs cluster) in
    let xs = take q gs in
    let ys = drop q gs in
    broken_text (Preprocessed Thai plan font) JoinsOrder old new sts p mono
    (λ b c own. subst (All (Contains (clusters b.glyphs))) (sym (formed_clusters plan font asked b c own))
    (in_two_holds b.level b.glyphs).in_clusters.made.old_clusters)
    (λ one two joined. joined.1)
    there (λ none one two first second.
    let us = sara_ams_taken level xs in
    let vs = sara_ams_taken level ys in
    let whole : ms ≡ us ++ vs = two_cut level gs q there.some inside none there.free in
    let split : clusters new.glyphs ≡ clusters us ++ clusters vs = same ∙ ap clusters whole
    ∙ map-append cluster us vs in
    let border = there.border (clusters xs) (clusters ys) (clusters us) (clusters vs)
    (sym (sym (map-append cluster xs ys) ∙ ap clusters (take-append-drop q gs)))
    (length-map xs cluster ∙ length-take-le q gs (omega (arith, inside))) split
    (in_two_holds level xs).in_clusters.made.old_clusters (in_two_holds level ys).in_clusters.made.old_clusters in
    let cut = cut_before_letter has us vs p (sym (length-map us cluster) ∙ border)
    (omega (arith, within, ap length whole))
    (subst (λ hs. is_thai_mark (get_or (characters hs) p 0) ≡ false) whole letter) in (
      formed_view plan font asked old new is
          ∙ ap (λ hs. with_thai_forms has (order_view hs)) whole
          ∙ ap (with_thai_forms has) (map-append plain us vs)
          ∙ cut
          ∙ ap (λ hs. hs ++ with_thai_forms has (order_view vs))
          (sym (formed_view plan font asked (front_half q old) one first))
          ∙ ap (λ hs. order_view one.glyphs ++ hs) (sym (formed_view plan font asked (back_half q old) two second)),
      split
          ∙ ap (λ cs. cs ++ clusters vs) (sym (formed_clusters plan font asked (front_half q old) one first))
          ∙ ap (λ cs. clusters one.glyphs ++ cs) (sym (formed_clusters plan font asked (back_half q old) two second)),
    ))

pub thai_forms_break : ThaiFormsBreakLaw
thai_forms_break plan font old new asked m mono join is p z l differ =
    let ms = sara_ams_taken old.level old.glyphs in
    let same = formed_clusters plan font asked old new is in
    let within : p < length ms =
    omega (
      arith,
      l,
      ap length same,
      length-map new.glyphs (λ (g : Glyph). g.cluster),
      length-map ms (λ (g : Glyph). g.cluster),
    ) in
    let apart : get_or (clusters ms) (p - 1) 0 ≢ get_or (clusters ms) p 0 =
    subst (λ cs. get_or cs (p - 1) 0 ≢ get_or cs p 0) same differ in
    forms_broken plan font old new asked m mono is p z l differ
    (false_from_ne_true (is_thai_mark (get_or (characters ms) p 0)) (λ mark. apart (join p z within mark)))
