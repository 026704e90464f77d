-- A Hangul text that was preprocessed with `Sound` may be broken at every clear place, which is between two items.
use Rattle.std.proofs.Common.{ℕ, zero, suc, ◌+◌, ◌-◌, ◌<◌, ◌≤◌, ◌≡◌, ◌≢◌, ◌==◌, ◌⊎◌, max, if◌then◌else◌, nat_lt, not, Bool, true, false, ◌&&◌, ◌||◌, List, [], ◌∷◌, ◌++◌, length, map, take, drop, get_or, refl, sym, ap, ◌∙◌, subst, arith, inl, inr, length-take, length-drop}
use Rattle.std.specs.List.{AllByRecursion, flat_map, list_any}
use Rattle.std.proofs.lemmas.Bool.{and_from, both_ways, cases_lt, cases_order, eq-eqb, eqb-true, false_from_ne_true, lt-ltb, or_from, or_left, or_parts, or_right}
use Rattle.std.proofs.lemmas.List.{get_or-append-add, get_or-drop, get_or-map, get_or_append_left, length-map, length-take-le}
use Rattle.std.proofs.lemmas.List.Elements.{All-get_or, AllZip-get_or}
use Rattle.std.proofs.lemmas.List.Folds.{list_any-append}
use Rattle.shapers_base.specs.Font.{Font, dotted_circle, has_nominal}
use Rattle.shapers_base.specs.declared.plan.breaks.BreakFlags.TheVariants.{Sound}
use Rattle.shapers_buffer.specs.Glyphs.{Glyph, Glyphs}
use Rattle.shapers_buffer.specs.declared.buffer.level.BufferClusterLevel.{BufferClusterLevel}
use Rattle.shapers_buffer.specs.declared.buffer.level.BufferClusterLevel.TheVariants.{Characters, MonotoneCharacters, MonotoneGraphemes}
use Rattle.shapers_buffer.specs.Buffer.{Buffer}
use Rattle.shapers_buffer.specs.Clusters.{least, merges, stretch_of}
use Rattle.shapers_buffer.specs.Glyph.{characters, clusters, default_glyph}
use Rattle.shapers_buffer.specs.GlyphFlags.{flagged, unsafe_all, unsafe_inside, with_bits_off}
use Rattle.shapers_clusters.specs.Breaks.{greater, is_unsafe}
use Rattle.shapers_clusters.specs.ClusterMerges.{joined_all}
use Rattle.shapers_clusters.specs.Cuts.{EndWithin, held, linked}
use Rattle.shapers_clusters.specs.Flags.{FlagsAlone, KeepsBits, bit_at}
use Rattle.shapers_clusters.proofs.ClearPlaces.{length-same}
use Rattle.shapers_clusters.proofs.Cuts.{exact_cuts}
use Rattle.shapers_clusters.proofs.FlagCalls.{alone_on, flags_called-alone, unsafe_inside-alone}
use Rattle.shapers_clusters.proofs.LabelsAsMerged.{all_split}
use Rattle.shapers_clusters.proofs.Moves.{clusters-merge_all}
use Rattle.shapers_clusters.proofs.Neighbours.{joined_all-linked}
use Rattle.shapers_hangul.specs.Hangul.{Copying, Fit, all_joined, allows_circles, combines_l, combines_t, combines_v, copies_as, first_item, first_unit, glyph_copies, has_jamo_of, is_l, is_lv, is_marked, is_merged, is_narrow, is_s, is_syllable, is_t, is_tone, is_v, item_len, item_output, item_stretches, items, items_from, lead, marked_from, leading_unit, outputs, stretches, taken, text_rewritten, tone_len, tone_stretch, trail, unit_output, vowel, whole_items, with_t, with_tone, with_v}
use Rattle.shapers_hangul.proofs.Items.{either, items_fit}
use Rattle.shapers_hangul.proofs.ItemFlags.{clusters-items_flagged}
use Rattle.shapers_hangul.proofs.Outputs.{Leads, outputs-map}
use Rattle.shapers_hangul.proofs.Walks.{clusters-all_joined, length-all_joined, length-characters}
use Rattle.rustybuzz_shapers.proofs.HangulHalves.{ends_within}
use Rattle.shapers_break_laws.specs.HangulSound.{HangulSoundBreaksLaw}
use Rattle.shapers_break_laws.proofs.ClearSteps.{stays}
use Rattle.shapers_break_laws.proofs.Guarded.{LeastOrFlagged, flagged_whole}
use Rattle.shapers_break_laws.proofs.HangulBreaks.{broken_between, by_tone, hangul_meeting}

-- FLAGGED STRETCHES. A glyph above another of the same stretch is flagged
abbrev Guards : Glyphs → ℕ × ℕ → Type 0
Guards gs st = (r o : ℕ) → st.0 ≤ r → r < st.1 → st.0 ≤ o → o < st.1
    → get_or (clusters gs) o 0 < get_or (clusters gs) r 0 → bit_at 0 (get_or gs r default_glyph).mask ≡ 1

cluster_at : (gs : Glyphs) (k : ℕ) → k < length gs → get_or (clusters gs) k 0
    ≡ (get_or gs k default_glyph).cluster
cluster_at gs k h = get_or-map (λ (g : Glyph). g.cluster) gs k default_glyph 0 h

record InFlagged (s e : ℕ) (gs : Glyphs) (k : ℕ) : Type 0 where
  within : k - s < length (flagged 3 (stretch_of s e gs))
  is : get_or (unsafe_inside s e gs) k default_glyph ≡ get_or (flagged 3 (stretch_of s e gs)) (k - s) default_glyph

in_flagged : (s e : ℕ) (gs : Glyphs) (k : ℕ) → e ≤ length gs → s ≤ k → k < e → InFlagged s e gs k
in_flagged s e gs k ends low high =
    let d = default_glyph in
    let part = stretch_of s e gs in
    let long : length (take s gs) ≡ s = length-take-le s gs (omega (arith, ends, low, high)) in
    let same = length-map part (with_bits_off 3 (least (clusters part))) in
    let within : k - s < length (flagged 3 part) =
    omega (arith, same, length-take (e - s) (drop s gs), length-drop s gs, ends, low, high) in
    record {
      within = within;
      is = ap (λ i. get_or (unsafe_inside s e gs) i d) (let place : k ≡ length (take s gs) + (k - s) =
          omega (arith, long, low) in place)
          ∙ get_or-append-add (take s gs) (flagged 3 part ++ drop e gs) (k - s) d
          ∙ get_or_append_left (flagged 3 part) (drop e gs) d (k - s) within;
    }

one_guards : (s e : ℕ) (gs : Glyphs) → s ≤ e → e ≤ length gs → Guards (unsafe_inside s e gs) (s, e)
one_guards s e gs ordered ends r o r_low r_high o_low o_high less =
    let new = unsafe_inside s e gs in
    let d = default_glyph in
    let whole = flagged_whole (stretch_of s e gs) in
    let P = LeastOrFlagged whole.0 in
    let long = length-same gs new (unsafe_inside-alone s e gs ordered).same_clusters in
    let one = in_flagged s e gs r ends r_low r_high in
    let other = in_flagged s e gs o ends o_low o_high in
    let first : P (get_or new r d) = subst P (sym one.is)
    (All-get_or P (flagged 3 (stretch_of s e gs)) (r - s) d one.within whole.1) in
    let second : P (get_or new o d) = subst P (sym other.is)
    (All-get_or P (flagged 3 (stretch_of s e gs)) (o - s) d other.within whole.1) in
    let own = cluster_at new r (omega (arith, long, r_high, ends)) in
    let its = cluster_at new o (omega (arith, long, o_high, ends)) in
    (first.1 (λ e. absurd (omega (arith, e, own, its, less, second.0)))).0

guards_kept : (gs hs : Glyphs) (st : ℕ × ℕ) → FlagsAlone gs hs → st.1 ≤ length gs → Guards gs st
    → Guards hs st
guards_kept gs hs st alone ends guards r o r_low r_high o_low o_high less =
    let was = guards r o r_low r_high o_low o_high
    (subst (λ cs. get_or cs o 0 < get_or cs r 0) alone.same_clusters less) in
    let kept = AllZip-get_or KeepsBits gs hs r default_glyph default_glyph alone.none_lost
    (omega (arith, r_high, ends)) 0 in
    let below : bit_at 0 (get_or hs r default_glyph).mask ≤ 1 = omega arith in
    omega (arith, was, kept, below)

all_alone : (sts : List (ℕ × ℕ)) (gs : Glyphs) → AllByRecursion (λ st. st.0 ≤ st.1) sts
    → FlagsAlone gs (unsafe_all sts gs)
all_alone [] gs ordered = flags_called-alone false false [] gs tt
all_alone (st ∷ sts) gs ordered =
    let once = unsafe_inside st.0 st.1 gs in
    alone_on gs once (unsafe_all sts once) (unsafe_inside-alone st.0 st.1 gs ordered.0) (all_alone sts once ordered.1)

all_guard : (sts : List (ℕ × ℕ)) (gs : Glyphs) → AllByRecursion (λ st. st.0 ≤ st.1) sts
    → EndWithin (length gs) sts → AllByRecursion (Guards (unsafe_all sts gs)) sts
all_guard [] gs ordered ends = tt
all_guard (st ∷ sts) gs ordered ends =
    let once = unsafe_inside st.0 st.1 gs in
    let long = length-same gs once (unsafe_inside-alone st.0 st.1 gs ordered.0).same_clusters in (
      guards_kept once (unsafe_all sts once) st (all_alone sts once ordered.1) (omega (arith, ends.0, long))
          (one_guards st.0 st.1 gs ordered.0 ends.0),
      all_guard sts once ordered.1 (subst (λ n. EndWithin n sts) (sym long) ends.1),
    )

whole_ends : (font : Font) (circles : Bool) (n place skip : ℕ) (us : List ℕ)
    → Fit n (items_from (first_item font circles) place skip us)
    → AllByRecursion (λ st. st.0 ≤ st.1) (whole_items (items_from (first_item font circles) place skip us))
    × EndWithin n (whole_items (items_from (first_item font circles) place skip us))
whole_ends font circles n place skip [] fit = (tt, tt)
whole_ends font circles n place zero (u ∷ us) fit =
    let item = first_item font circles (u ∷ us) in
    let rest = whole_ends font circles n (place + 1) (item_len item - 1) us fit.1 in
    ((omega arith, rest.0), (fit.0.0, rest.1))
whole_ends font circles n place (suc skip) (u ∷ us) fit = whole_ends font circles n (place + 1) skip us fit

-- WHAT IS WRITTEN of an item: a test of clusters and masks that all its glyphs fail
abbrev test_copies : Copying Bool
test_copies = record { as_character = λ u b. b; as_jamo = λ feature b. b }

abbrev AllFail : List Bool → Type 0
AllFail bs = AllByRecursion (λ b. b ≡ false) bs

-- place i of an item fails the test, or the first one does, for all that an unmarked unit takes
abbrev Fails : Bool → ℕ → List Bool → ℕ → Type 0
Fails marked n bs i = (get_or bs i false ≡ false) ⊎ ((get_or bs 0 false ≡ false) × (marked ≡ false) × (i < n))

abbrev FailsWith : {X : Type 0} → (X → List Bool) → (X → ℕ) → (X → Bool) → List Bool → ℕ → X → Type 0
FailsWith output len marked bs i x = AllFail (output x) → i < len x → Fails (marked x) (len x) bs i

once : (bs : List Bool) → AllFail (map (λ b. b) (take 1 bs)) → get_or bs 0 false ≡ false
once [] all = refl
once (b ∷ bs) all = all.0

itself : (bs : List Bool) → AllFail (take 1 bs) → get_or bs 0 false ≡ false
itself [] all = refl
itself (b ∷ bs) all = all.0

circle_behind : (bs : List Bool) → AllFail (take 1 bs ++ map (λ b. b) (take 1 bs)) → get_or bs 0 false ≡ false
circle_behind [] all = refl
circle_behind (b ∷ bs) all = all.0

circle_before : (bs : List Bool) → AllFail (map (λ b. b) (take 1 bs) ++ take 1 bs) → get_or bs 0 false ≡ false
circle_before [] all = refl
circle_before (b ∷ bs) all = all.0

jamo_fail : (n k i : ℕ) (bs : List Bool) → AllFail (marked_from test_copies k (take n bs)) → i < n
    → get_or bs i false ≡ false
jamo_fail zero k i bs all l = absurd (omega (arith, l))
jamo_fail (suc n) k i [] all l = refl
jamo_fail (suc n) k zero (b ∷ bs) all l = all.0
jamo_fail (suc n) k (suc i) (b ∷ bs) all l = jamo_fail n (k + 1) i bs all.1 (omega (arith, l))

parts_fail : (l : ℕ) (more : List ℕ) (i : ℕ) (bs : List Bool)
    → AllFail (marked_from test_copies 1 (flat_map (copies_as test_copies (l ∷ more)) (take 1 bs))) → i < 1
    → get_or bs i false ≡ false
parts_fail l more i [] all less = refl
parts_fail l more zero (b ∷ bs) all less = all.0
parts_fail l more (suc i) (b ∷ bs) all less = absurd (omega (arith, less))

parts_before : (l v i : ℕ) (bs : List Bool)
    → AllFail (marked_from test_copies 1 (flat_map (copies_as test_copies (l ∷ v ∷ [])) (take 1 bs)
    ++ take 1 (drop 1 bs))) → i < 2 → get_or bs i false ≡ false
parts_before l v i [] all less = refl
parts_before l v zero (b ∷ bs) all less = all.0
parts_before l v (suc i) (b ∷ []) all less = refl
parts_before l v (suc zero) (b ∷ t ∷ bs) all less = all.1.1.0
parts_before l v (suc (suc i)) (b ∷ t ∷ bs) all less = absurd (omega (arith, less))

unit_fails : (font : Font) (circles : Bool) (u v t : ℕ) (bs : List Bool) (i : ℕ)
    → AllFail (unit_output test_copies (first_unit font circles u v t) bs) → i < taken (first_unit font circles u v t)
    → Fails (is_marked (first_unit font circles u v t)) (taken (first_unit font circles u v t)) bs i
unit_fails font circles u v t bs i =
    let Q = FailsWith (λ x. unit_output test_copies x bs) taken is_marked bs i in
    either Q (is_tone u) _ _
    (λ _. either Q (circles && has_nominal font dotted_circle) _ _
    (λ _. either Q (is_narrow font u) _ _ (λ _ all l. inr (circle_before bs all, refl, l))
    (λ _ all l. inr (circle_behind bs all, refl, l))) (λ _ all l. inr (itself bs all, refl, l)))
    (λ _. either Q (is_l u && is_v v) _ _
    (λ _. either Q (is_t t) _ _
    (λ _. either Q ((combines_l u && (combines_v v && combines_t t)) && has_nominal font (with_t (with_v u v) t)) _ _
    (λ _ all l. inr (once bs all, refl, l)) (λ _ all l. inl (jamo_fail 3 1 i bs all l)))
    (λ _. either Q ((combines_l u && combines_v v) && has_nominal font (with_v u v)) _ _
    (λ _ all l. inr (once bs all, refl, l)) (λ _ all l. inl (jamo_fail 2 1 i bs all l))))
    (λ _. either Q (is_s u) _ _
    (λ _. either Q ((is_lv u && combines_t v) && has_nominal font (with_t u v)) _ _
    (λ _ all l. inr (once bs all, refl, l))
    (λ _. either Q (not (has_nominal font u) && has_jamo_of font u) _ _
    (λ _. either Q (is_lv u) _ _ (λ _ all l. inl (parts_fail (lead u) (vowel u ∷ []) i bs all l))
    (λ _ all l. inl (parts_fail (lead u) (vowel u ∷ trail u ∷ []) i bs all l)))
    (λ _. either Q ((is_lv u && is_t v) && has_jamo_of font u) _ _
    (λ _ all l. inl (parts_before (lead u) (vowel u) i bs all l))
    (λ _. either Q (has_nominal font u) _ _ (λ _ all l. inr (itself bs all, refl, l))
    (λ _ all l. inr (itself bs all, refl, l))))))
    (λ _ all l. inr (itself bs all, refl, l))))

tone_fails : (n : ℕ) (bs : List Bool) → AllFail (take 1 (drop n bs)) → get_or bs n false ≡ false
tone_fails zero [] all = refl
tone_fails zero (b ∷ bs) all = all.0
tone_fails (suc n) [] all = refl
tone_fails (suc n) (b ∷ bs) all = tone_fails n bs all

item_fails : (font : Font) (circles : Bool) (us : List ℕ) (bs : List Bool) (i : ℕ)
    → AllFail (item_output test_copies (first_item font circles us) bs) → i < item_len (first_item font circles us)
    → Fails (is_marked (leading_unit font circles us)) (taken (leading_unit font circles us)) bs i
item_fails font circles us bs i =
    let x = leading_unit font circles us in
    let n = taken x in
    let w = get_or us n 0 in
    let tone : List Bool = take 1 (drop n bs) in
    let own : List Bool = unit_output test_copies x bs in
    let unit : AllFail own → i < n → Fails (is_marked x) n bs i =
    unit_fails font circles (get_or us 0 0) (get_or us 1 0) (get_or us 2 0) bs i in
    let both : AllFail own → AllFail tone → i < n + 1 → Fails (is_marked x) n bs i = λ first second l.
    elim (cases_lt i n) [
      | inl less ↦ unit first less
      | inr more ↦ let is : i ≡ n = omega (arith, l, more) in
          inl (ap (λ k. get_or bs k false) is ∙ tone_fails n bs second)
    ] in
    by_tone (λ j. AllFail (with_tone j tone own) → i < n + tone_len j → Fails (is_marked x) n bs i)
    (is_syllable x && is_tone w) (is_narrow font w) _ _ _
    (λ _ _ all l. let parts = all_split (λ b. b ≡ false) own tone all in both parts.0 parts.1 l)
    (λ all l. let parts = all_split (λ b. b ≡ false) tone own all in both parts.1 parts.0 l)
    (λ all l. unit all (omega (arith, l)))

-- AN ITEM that holds both sides of a place: the greater of its two clusters is flagged where it is written
unmarked_merged : (level : BufferClusterLevel) (font : Font) (circles : Bool) (us : List ℕ) → merges level ≡ true
    → is_marked (leading_unit font circles us) ≡ false → is_merged level (leading_unit font circles us) ≡ true
unmarked_merged MonotoneGraphemes font circles us m unmarked = refl
unmarked_merged MonotoneCharacters font circles us m unmarked = ap not unmarked
unmarked_merged Characters font circles us m unmarked = absurd (cc m)

-- neighbours that are equal
one_from : (cs : List ℕ) (s k : ℕ) → ((t : ℕ) → s < t → t ≤ s + k → get_or cs (t - 1) 0 ≡ get_or cs t 0)
    → get_or cs s 0 ≡ get_or cs (s + k) 0
one_from cs s zero each = ap (λ i. get_or cs i 0) (let is : s ≡ s + 0 = omega arith in is)
one_from cs s (suc k) each =
    let last : s + suc k - 1 ≡ s + k = omega arith in
    one_from cs s k (λ t low high. each t low (omega (arith, high))) ∙ ap (λ i. get_or cs i 0) (sym last)
    ∙ each (s + suc k) (omega arith) (omega arith)

abbrev is_shown : ℕ → Glyph → Bool
is_shown c g = g.cluster == c && is_unsafe g

shown : (gs : Glyphs) (c k : ℕ) → k < length gs → get_or (clusters gs) k 0 ≡ c
    → bit_at 0 (get_or gs k default_glyph).mask ≡ 1 → get_or (map (is_shown c) gs) k false ≡ true
shown gs c k l is flag =
    get_or-map (is_shown c) gs k default_glyph false l
    ∙ and_from _ _ (eq-eqb _ _ (sym (cluster_at gs k l) ∙ is)) (or_left _ _ (eq-eqb _ _ flag))

-- places that stretches hold share a cluster
abbrev HeldShare : Glyphs → List (ℕ × ℕ) → Type 0
HeldShare gs sts = (t : ℕ) → 0 < t → t < length gs → held sts t ≡ true
    → get_or (clusters gs) (t - 1) 0 ≡ get_or (clusters gs) t 0

unit_shares : (level : BufferClusterLevel) (font : Font) (circles : Bool) (us : List ℕ) (s : ℕ)
    (gs : Glyphs) (k : ℕ)
    → merges level ≡ true → is_marked (leading_unit font circles us) ≡ false
    → s + taken (leading_unit font circles us) ≤ length gs
    → HeldShare gs (item_stretches level (first_item font circles us) s) → k < taken (leading_unit font circles us)
    → get_or (clusters gs) s 0 ≡ get_or (clusters gs) (s + k) 0
unit_shares level font circles us s gs k m unmarked ends share l =
    let n = taken (leading_unit font circles us) in
    one_from (clusters gs) s k (λ t low high. share t (omega (arith, low)) (omega (arith, ends, high, l))
    (subst (λ b. held ((if b then (s, s + n) ∷ [] else [])
    ++ tone_stretch (first_item font circles us).tone s (s + n)) t ≡ true)
    (sym (unmarked_merged level font circles us m unmarked))
    (or_left _ _ (and_from _ _ (lt-ltb s t low) (lt-ltb t (s + n) (omega (arith, high, l)))))))

none_above : (level : BufferClusterLevel) (font : Font) (circles : Bool) (us : List ℕ) (s c : ℕ)
    (gs : Glyphs) → merges level ≡ true
    → s + item_len (first_item font circles us) ≤ length gs → Guards gs (s, s + item_len (first_item font circles us))
    → AllFail (item_output test_copies (first_item font circles us) (drop s (map (is_shown c) gs)))
    → HeldShare gs (item_stretches level (first_item font circles us) s) → (r o : ℕ) → s ≤ r
    → r < s + item_len (first_item font circles us) → s ≤ o
    → o < s + item_len (first_item font circles us) → get_or (clusters gs) o 0 < get_or (clusters gs) r 0
    → get_or (clusters gs) r 0 ≡ c → ⊥
none_above level font circles us s c gs m ends guards all share r o r_low r_high o_low o_high less is =
    let bs = map (is_shown c) gs in
    let cs = clusters gs in
    let i = r - s in
    let place : s + i ≡ r = omega (arith, r_low) in
    let first : s + 0 ≡ s = omega arith in
    let fails = item_fails font circles us (drop s bs) i all (omega (arith, r_high, r_low)) in
    elim fails [
      | inl own ↦ both_ways _ (sym (get_or-drop s bs i false ∙ ap (λ k. get_or bs k false) place) ∙ own)
          (shown gs c r (omega (arith, r_high, ends)) is (guards r o r_low r_high o_low o_high less))
      | inr (opening, unmarked, l) ↦
          let same : get_or cs s 0 ≡ get_or cs r 0 =
          unit_shares level font circles us s gs i m unmarked (omega (arith, ends)) share l
          ∙ ap (λ k. get_or cs k 0) place in
          both_ways _ (sym (get_or-drop s bs 0 false ∙ ap (λ k. get_or bs k false) first) ∙ opening)
          (shown gs c s (omega (arith, r_low, r_high, ends)) (same ∙ is)
          (guards s o (omega arith) (omega (arith, r_low, r_high)) o_low o_high (omega (arith, less, same))))
    ]

-- THE ITEMS. Two clusters meet at place q, the greater one is c
record MeetsBelow (cs : List ℕ) (c q : ℕ) : Type 0 where
  above : ℕ
  below : ℕ
  some : 0 < q
  above_from : q ≤ above + 1
  above_to : above ≤ q
  below_from : q ≤ below + 1
  below_to : below ≤ q
  less : get_or cs below 0 < get_or cs above 0
  is : get_or cs above 0 ≡ c

meets_below : (cs : List ℕ) (c q : ℕ) → 0 < q → get_or cs (q - 1) 0 ≢ get_or cs q 0
    → max (get_or cs (q - 1) 0) (get_or cs q 0) ≡ c → MeetsBelow cs c q
meets_below cs c q some differ greatest = elim (cases_order (get_or cs (q - 1) 0) (get_or cs q 0)) [
  | inl same ↦ absurd (differ same)
  | inr (inl less) ↦ record {
    above = q;
    below = q - 1;
    some = some;
    above_from = omega arith;
    above_to = omega arith;
    below_from = omega arith;
    below_to = omega arith;
    less = less;
    is = omega (arith, less, greatest);
  }
  | inr (inr more) ↦ record {
    above = q - 1;
    below = q;
    some = some;
    above_from = omega arith;
    above_to = omega arith;
    below_from = omega arith;
    below_to = omega arith;
    less = more;
    is = omega (arith, more, greatest);
  }
]

between_items : (level : BufferClusterLevel) (font : Font) (circles : Bool) (c q : ℕ) (gs : Glyphs)
    (place skip : ℕ) (us : List ℕ) → merges level ≡ true → MeetsBelow (clusters gs) c q
    → Fit (length gs) (items_from (first_item font circles) place skip us)
    → AllByRecursion (Guards gs) (whole_items (items_from (first_item font circles) place skip us))
    → AllFail (outputs test_copies (items_from (first_item font circles) place skip us) (map (is_shown c) gs))
    → HeldShare gs (stretches level (items_from (first_item font circles) place skip us))
    → AllByRecursion (λ p. (p.0 + item_len p.1 ≤ q) ⊎ (q ≤ p.0)) (items_from (first_item font circles) place skip us)
between_items level font circles c q gs place skip [] m at fit guards all share = tt
between_items level font circles c q gs place zero (u ∷ us) m at fit guards all share =
    let bs = map (is_shown c) gs in
    let item = first_item font circles (u ∷ us) in
    let cut = items_from (first_item font circles) (place + 1) (item_len item - 1) us in
    let parts = all_split (λ b. b ≡ false) (item_output test_copies item (drop place bs))
    (outputs test_copies cut bs) all in
    let joined : (t : ℕ) → held (item_stretches level item place ++ stretches level cut) t
    ≡ (held (item_stretches level item place) t || held (stretches level cut) t) =
    λ t. list_any-append (λ st. nat_lt st.0 t && nat_lt t st.1) (item_stretches level item place)
    (stretches level cut) in (
      elim (cases_lt place q) [
        | inl after ↦ elim (cases_lt q (place + item_len item)) [
          | inl inside ↦ absurd (none_above level font circles (u ∷ us) place c gs m fit.0.0 guards.0 parts.0
              (λ t z l h. share t z l (joined t ∙ or_left _ _ h)) at.above at.below
              (omega (arith, at.above_from, after)) (omega (arith, at.above_to, inside))
              (omega (arith, at.below_from, after)) (omega (arith, at.below_to, inside)) at.less at.is)
          | inr past ↦ inl past
        ]
        | inr before ↦ inr before
      ],
      between_items level font circles c q gs (place + 1) (item_len item - 1) us m at fit.1 guards.1 parts.1
          (λ t z l h. share t z l (joined t ∙ or_right _ _ h)),
    )
between_items level font circles c q gs place (suc skip) (u ∷ us) m at fit guards all share =
    between_items level font circles c q gs (place + 1) skip us m at fit guards all share

-- THE TEXT
none_shown : (test : Glyph → Bool) (gs : Glyphs) → list_any test gs ≡ false
    → AllFail (map test gs)
none_shown test [] none = tt
none_shown test (g ∷ gs) none = let (first, rest) = or_parts _ _ none in (first, none_shown test gs rest)

tests_lead : (c : ℕ) → Leads (is_shown c) glyph_copies test_copies
tests_lead c = record { character = λ u g. refl; jamo = λ n g. refl }

pub hangul_sound_breaks : HangulSoundBreaksLaw
hangul_sound_breaks plan font old new sound m mono is p z l clear =
    let gs = old.glyphs in
    let cs = clusters gs in
    let us = characters gs in
    let level = old.level in
    let circles = allows_circles old in
    let cut = items font circles us in
    let sts = stretches level cut in
    let at = hangul_meeting plan font old new m mono is p z l clear.differ in
    let q = at.place in
    let c = greater new.glyphs p in
    let long = length-map gs (λ (g : Glyph). g.cluster) in
    let joined = all_joined level cut gs in
    let ns = unsafe_all (whole_items cut) joined in
    let made : clusters ns ≡ joined_all level sts cs = clusters-items_flagged Sound cut joined
    ∙ clusters-all_joined level cut gs ∙ clusters-merge_all level sts gs in
    let as_long : length joined ≡ length gs = length-all_joined level cut gs in
    let flagged_long : length ns ≡ length joined = length-same joined ns (clusters-items_flagged Sound cut joined) in
    let ends : EndWithin (length cs) sts =
    subst (λ k. EndWithin k sts) (sym long) (ends_within level font circles gs) in
    let exact = exact_cuts level m sts cs ends mono in
    let apart : linked cs sts q ≡ false =
    or_from _ _ (false_from_ne_true _ (λ e. at.differ (eqb-true _ _ e))) at.free in
    let differ = (exact.cuts q at.some at.within).1 apart in
    let greatest = (stays cs sts (joined_all level sts cs) exact mono q at.some at.within differ).greatest
    ∙ at.greatest in
    let meet : MeetsBelow (clusters ns) c q = subst (λ js. MeetsBelow js c q) (sym made)
    (meets_below (joined_all level sts cs) c q at.some differ greatest) in
    let fit : Fit (length joined) cut = subst (λ n. Fit n cut) (length-characters gs ∙ sym as_long)
    (items_fit font circles us) in
    let whole = whole_ends font circles (length joined) 0 0 us fit in
    let rewritten : new.glyphs ≡ outputs glyph_copies cut ns = ap (λ (b : Buffer). b.glyphs) is
    ∙ ap (λ breaks. text_rewritten breaks font circles level gs) sound in
    let all : AllFail (outputs test_copies cut (map (is_shown c) ns)) =
    subst AllFail (outputs-map (is_shown c) glyph_copies test_copies (tests_lead c) cut ns)
    (none_shown (is_shown c) (outputs glyph_copies cut ns)
    (subst (λ hs. list_any (is_shown c) hs ≡ false) rewritten clear.unflagged)) in
    let share : HeldShare ns sts = λ t some within h.
    subst (λ js. get_or js (t - 1) 0 ≡ get_or js t 0) (sym made)
    (joined_all-linked level m sts cs ends t some (omega (arith, within, flagged_long, as_long, long))
    (or_right _ _ h)) in
    broken_between plan font old new sts p mono is at
    (between_items level font circles c q ns 0 0 us m meet (subst (λ n. Fit n cut) (sym flagged_long) fit)
    (all_guard (whole_items cut) joined whole.0 whole.1) all share)
