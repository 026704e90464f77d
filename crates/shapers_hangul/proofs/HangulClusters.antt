-- What the hook makes of clusters and glyph flags, by the law of made glyphs.
use Rattle.std.proofs.Common.{◌≡◌, ℕ, suc, ◌+◌, ◌-◌, ◌<◌, ◌≤◌, Bool, true, false, cond, List, [], ◌∷◌, ◌++◌, length, map, take, drop, refl, sym, ap, ◌∙◌, subst, arith}
use Rattle.std.specs.List.{range_with_len, AllByRecursion, AllZip, Contains}
use Rattle.std.proofs.lemmas.List.Elements.{All-from_recursion, Contains-append_right}
use Rattle.std.proofs.lemmas.List.Concat.{flat_map-append}
use Rattle.std.proofs.lemmas.List.FromFn.{length-range_with_len}
use Rattle.std.proofs.lemmas.List.{length-drop}
use Rattle.std.proofs.lemmas.Simd.{map-map}
use Rattle.shapers_buffer.specs.Glyphs.{Glyphs}
use Rattle.shapers_buffer.specs.declared.buffer.level.BufferClusterLevel.{BufferClusterLevel}
use Rattle.std.specs.Prelude.{Result, Ok, Err, OnOk}
use Rattle.shapers_buffer.specs.declared.buffer.refusal.ShaperError.{ShaperError}
use Rattle.shapers_buffer.specs.Buffer.{Buffer}
use Rattle.shapers_buffer.specs.Clusters.{merge_all, merges}
use Rattle.shapers_base.specs.Font.{Font}
use Rattle.shapers_base.specs.declared.plan.breaks.BreakFlags.{BreakFlags}
use Rattle.shapers_buffer.specs.Glyph.{clusters, characters}
use Rattle.shapers_buffer.specs.Places.{pick}
use Rattle.shapers_buffer.proofs.MappedLists.{all-append, all-flat_map, drop-range, places-enumerate_from, Contains-flat_map}
use Rattle.shapers_clusters.specs.Cuts.{EndWithin, ShareCluster}
use Rattle.shapers_clusters.specs.Laws.{ClustersMade}
use Rattle.shapers_clusters.specs.Flags.{FlagsFall}
use Rattle.shapers_clusters.proofs.MadeGlyphs.{Made, AreMade, are_made, all_standing, glyphs-standing, numbered-standing}
use Rattle.shapers_clusters.proofs.Merging.{length-merge_all}
use Rattle.shapers_clusters.proofs.Proved.{made_hold_by, part_shares}
use Rattle.shapers_hangul.specs.declared.ot_shaper_hangul.item.Item.{Item}
use Rattle.shapers_hangul.specs.declared.ot_shaper_hangul.item.JoinedTone.{JoinedTone}
use Rattle.shapers_hangul.specs.declared.ot_shaper_hangul.item.JoinedTone.TheVariants.{Absent, Before, Behind}
use Rattle.shapers_hangul.specs.declared.ot_shaper_hangul.item.Unit.{Unit}
use Rattle.shapers_hangul.specs.declared.ot_shaper_hangul.item.Unit.TheVariants.{ComposedTwo, ComposedThree, JamoTwo, JamoThree, PartsTwo, PartsThree, PartsBeforeT, Syllable, ToneCircle, CircleTone, Other}
use Rattle.shapers_hangul.specs.Hangul.{taken, output_len, tone_len, item_len, items, Fit, Copying, unit_output, with_tone, item_output, outputs, unit_stretch, tone_stretch, item_stretches, stretches, all_joined, glyph_copies, allows_circles, preprocessed, rewritten_by, text_rewritten}
use Rattle.shapers_hangul.specs.HangulLaws.{place_copies, hangul_sources, ClustersRewritten, KeepsClusters, unnamed, RewrittenLaw}
use Rattle.shapers_hangul.proofs.Items.{items_fit}
use Rattle.shapers_hangul.proofs.ItemFlags.{clusters-items_flagged}
use Rattle.shapers_hangul.proofs.Outputs.{outputs-map}
use Rattle.shapers_hangul.proofs.Walks.{length-characters, length-item_output, length-all_joined, clusters-all_joined}

unit_ends : (b : Bool) (s e n : ℕ) → e ≤ n → EndWithin n (cond b ((s, e) ∷ []) [])
unit_ends true s e n within = (within, tt)
unit_ends false s e n within = tt

tone_ends : (tone : JoinedTone) (s e n : ℕ) → e + tone_len tone ≤ n → EndWithin n (tone_stretch tone s e)
tone_ends Before s e n within = (within, tt)
tone_ends _ s e n within = tt

pub item_ends : (level : BufferClusterLevel) (unit : Unit) (tone : JoinedTone) (s n : ℕ)
    → s + (taken unit + tone_len tone) ≤ n
    → EndWithin n (unit_stretch level unit s ++ tone_stretch tone s (s + taken unit))
item_ends = search arith

stretches_within : (font : Font) (circles : Bool) (level : BufferClusterLevel) (us : List ℕ)
    → EndWithin (length us) (stretches level (items font circles us))
stretches_within font circles level us =
    all-flat_map (λ p. (p.0 + item_len p.1 ≤ length us) × (p.0 + p.1.unsafe_len ≤ length us)) (λ st. st.1 ≤ length us)
    (λ p. item_stretches level p.1 p.0) (λ p within. item_ends level p.1.unit p.1.tone p.0 (length us) within.0)
    (items font circles us) (items_fit font circles us)

-- an element of a list that all elements say something of
all-at : {X : Type 0} (P : X → Type 0) (xs : List X) (x : X) (ys : List X) → AllByRecursion P (xs ++ x ∷ ys) → P x
all-at P [] x ys all = all.0
all-at P (z ∷ xs) x ys all = all-at P xs x ys all.1

contains-at : {X : Type 0} (xs : List X) (x : X) (ys : List X) → Contains (xs ++ x ∷ ys) x
contains-at [] x ys = (0, omega arith, refl)
contains-at (z ∷ xs) x ys = let (k, inside, at) = contains-at xs x ys in (suc k, omega arith, at)

-- the sources of an item are among its places
all-take-range : (P : ℕ → Type 0) (n a k : ℕ) → ((p : ℕ) → a ≤ p → p < a + n → P p)
    → AllByRecursion P (take n (range_with_len a k))
all-take-range P (suc n) a (suc k) h =
    search (arith, all-take-range P n (a + 1) k (λ p low high. h p (omega arith) (omega arith)))
all-take-range P _ a _ h = tt

all-unit_output : (P : ℕ → Type 0) (unit : Unit) (xs : List ℕ) → AllByRecursion P (take (taken unit) xs)
    → AllByRecursion P (unit_output place_copies unit xs)
all-unit_output P (ComposedTwo s) (x ∷ xs) all = (all.0, tt)
all-unit_output P (ComposedThree s) (x ∷ xs) all = (all.0, tt)
all-unit_output P JamoTwo (x ∷ []) all = (all.0, tt)
all-unit_output P JamoTwo (x ∷ y ∷ xs) all = (all.0, (all.1.0, tt))
all-unit_output P JamoThree (x ∷ []) all = (all.0, tt)
all-unit_output P JamoThree (x ∷ y ∷ []) all = (all.0, (all.1.0, tt))
all-unit_output P JamoThree (x ∷ y ∷ z ∷ xs) all = search arith
all-unit_output P (PartsTwo l v) (x ∷ xs) all = (all.0, (all.0, tt))
all-unit_output P (PartsThree l v t) (x ∷ xs) all = search arith
all-unit_output P (PartsBeforeT l v) (x ∷ []) all = (all.0, (all.0, tt))
all-unit_output P (PartsBeforeT l v) (x ∷ y ∷ xs) all = search arith
all-unit_output P Syllable xs all = all
all-unit_output P ToneCircle (x ∷ xs) all = (all.0, (all.0, tt))
all-unit_output P CircleTone (x ∷ xs) all = (all.0, (all.0, tt))
all-unit_output P Other xs all = all
all-unit_output P _ [] all = tt

all-with_tone : (P : ℕ → Type 0) (tone : JoinedTone) (ts out : List ℕ) → AllByRecursion P ts → AllByRecursion P out
    → AllByRecursion P (with_tone tone ts out)
all-with_tone P Absent ts out all every = every
all-with_tone P Before ts out all every = all-append P ts out all every
all-with_tone P Behind ts out all every = all-append P out ts every all

-- those of an item at a place of n
item_sources : (item : Item) (place n : ℕ) → AllByRecursion (λ p. (place ≤ p) × (p < place + taken item.unit + 1))
    (item_output place_copies item (drop place (range_with_len 0 n)))
item_sources item place n =
    let t = taken item.unit in
    let P : ℕ → Type 0 = λ p. (place ≤ p) × (p < place + t + 1) in
    let rest = drop-range 0 n place ∙ ap (λ a. range_with_len a (n - place)) (omega arith) in
    subst (λ (xs : List ℕ). AllByRecursion P (item_output place_copies item xs)) (sym rest)
    (all-with_tone P item.tone (take 1 (drop t (range_with_len place (n - place))))
    (unit_output place_copies item.unit (range_with_len place (n - place)))
    (subst (λ (xs : List ℕ). AllByRecursion P (take 1 xs)) (sym (drop-range place (n - place) t))
    (all-take-range P 1 (place + t) (n - place - t) (λ p low high. (omega arith, omega arith))))
    (all-unit_output P item.unit (range_with_len place (n - place))
    (all-take-range P t place (n - place) (λ p low high. (omega arith, omega arith)))))

-- a tone that moves merges with its syllable
tone_stands : (level : BufferClusterLevel) (unit : Unit) (tone : JoinedTone) (s : ℕ) → tone ≡ Before
    → Contains (unit_stretch level unit s ++ tone_stretch tone s (s + taken unit)) (s, s + taken unit + 1)
tone_stands level unit tone s moves =
    subst (λ t. Contains (unit_stretch level unit s ++ tone_stretch t s (s + taken unit)) (s, s + taken unit + 1))
    (sym moves)
    (Contains-append_right (unit_stretch level unit s) ((s, s + taken unit + 1) ∷ []) (s, s + taken unit + 1)
    (0, omega arith, refl))

shares : (font : Font) (circles : Bool) (level : BufferClusterLevel) (us cs js : List ℕ)
    → ClustersMade level (stretches level (items font circles us)) (hangul_sources (items font circles us) (length us))
    cs js → merges level ≡ true → (before : List (ℕ × Item)) (place : ℕ) (item : Item) (after : List (ℕ × Item))
    → items font circles us ≡ before ++ (place, item) ∷ after → item.tone ≡ Before
    → ShareCluster js (length (hangul_sources before (length us)))
    (length (hangul_sources before (length us)) + output_len item.unit)
shares font circles level us cs js made m before place item after split moves =
    let n = length us in
    let st : ℕ × ℕ = (place, place + taken item.unit + 1) in
    let within : place + item_len item ≤ n =
    (all-at (λ p. (p.0 + item_len p.1 ≤ n) × (p.0 + p.1.unsafe_len ≤ n)) before (place, item) after
    (subst (Fit n) split (items_fit font circles us))).0 in
    part_shares made m st (hangul_sources before n)
    (item_output place_copies item (drop place (range_with_len 0 n))) (hangul_sources after n)
    (λ some. Contains-flat_map (λ p. item_stretches level p.1 p.0) (items font circles us) (place, item) st
    (search (arith, contains-at before (place, item) after)) (search tone_stands))
    (search (arith, flat_map-append)) (search (All-from_recursion, item_sources))
    (length (hangul_sources before n)) (length (hangul_sources before n) + output_len item.unit) refl
    (omega (
      arith,
      length-item_output place_copies item (drop place (range_with_len 0 n))
          (search (arith, length-drop, length-range_with_len)),
      ap tone_len moves,
    ))

-- the rule on made glyphs: a copy comes of the place of what it copies
abbrev made_copies : (gs : Glyphs) → Copying (Made unnamed gs)
made_copies gs = record {
  as_character = λ u m. record m { glyph = glyph_copies.as_character u m.glyph; same = m.same };
  as_jamo = λ feature m. record m { glyph = glyph_copies.as_jamo feature m.glyph; same = m.same };
}

-- no cluster rises, where others of the same clusters fell
none_rises : (gs ps rs : Glyphs) → AllZip FlagsFall gs ps → clusters ps ≡ clusters rs
    → AllZip (λ old new. new.cluster ≤ old.cluster) gs rs
none_rises [] [] [] falls same = tt
none_rises [] [] (r ∷ rs) falls same = cc
none_rises (g ∷ gs) (p ∷ ps) [] falls same = cc
none_rises (g ∷ gs) (p ∷ ps) (r ∷ rs) falls same = search (arith, none_rises gs ps rs falls.1 (ap (drop 1) same))
none_rises _ _ rs falls same = absurd falls

-- glyphs that are written from these, which stand in their places, have their clusters
clusters-outputs : (cut : List (ℕ × Item)) (gs : Glyphs) → clusters (outputs glyph_copies cut gs)
    ≡ outputs place_copies cut (clusters gs)
clusters-outputs = search outputs-map

-- what is written from these glyphs, with the places that it comes of
record Written (cut : List (ℕ × Item)) (ms : Glyphs) : Type 0 where
  pub made : List (Made unnamed ms)
  pub from : map (λ m. m.place) made ≡ hangul_sources cut (length ms)
  pub glyphs : map (λ m. m.glyph) made ≡ outputs glyph_copies cut ms

written_from : (cut : List (ℕ × Item)) (ms : Glyphs) → Written cut ms
written_from cut ms =
    let standing = all_standing unnamed ms in
    let places : map (λ m. m.place) standing ≡ range_with_len 0 (length ms) =
    sym (map-map (λ p. p.0) (λ m. (m.place, m.glyph.glyph_id)) standing)
    ∙ ap (map (λ p. p.0)) (numbered-standing (λ g. g.glyph_id) unnamed ms) ∙ places-enumerate_from 0 (characters ms)
    ∙ ap (range_with_len 0) (length-characters ms) in
    record {
      made = outputs (made_copies ms) cut standing;
      from = outputs-map (λ m. m.place) (made_copies ms) place_copies
          (record { character = λ u m. refl; jamo = λ n m. refl }) cut standing
          ∙ ap (outputs place_copies cut) places;
      glyphs = outputs-map (λ m. m.glyph) (made_copies ms) glyph_copies
          (record { character = λ u m. refl; jamo = λ n m. refl }) cut standing
          ∙ ap (outputs glyph_copies cut) (glyphs-standing unnamed ms);
    }

pub rewritten_holds : RewrittenLaw
rewritten_holds font circles level gs =
    let us = characters gs in
    let cut = items font circles us in
    let sts = stretches level cut in
    let ms = merge_all level sts gs in
    let ns = all_joined level cut gs in
    let rs = outputs glyph_copies cut ns in
    let within = subst (λ n. EndWithin n sts) (length-characters gs) (stretches_within font circles level us) in
    let merged = written_from cut ms in
    let (same, h) =
    made_hold_by unnamed (record { cluster = λ g. refl; flags = λ g. refl }) level sts
    (hangul_sources cut (length gs)) gs (outputs glyph_copies cut ms) within merged.made (merged.from
    ∙ ap (hangul_sources cut) (length-merge_all level sts gs within)) merged.glyphs in
    let joined = written_from cut ns in
    let a = subst (λ ps. AreMade unnamed ns ps rs) (joined.from
    ∙ ap (hangul_sources cut) (length-all_joined level cut gs))
    (subst (AreMade unnamed ns (map (λ m. m.place) joined.made)) joined.glyphs (are_made unnamed ns joined.made)) in
    let as_merged =
    clusters-outputs cut ms ∙ ap (outputs place_copies cut) (sym (clusters-all_joined level cut gs))
    ∙ sym (clusters-outputs cut ns) in
    let made = subst (ClustersMade level sts (hangul_sources cut (length gs)) (clusters gs)) as_merged
    h.clusters_made in
    let by_characters =
    subst (λ n. ClustersMade level sts (hangul_sources cut n) (clusters gs) (clusters rs))
    (sym (length-characters gs)) made in
    record {
      made = a.same;
      in_clusters =
          record {
            made = by_characters;
            cluster_law = shares font circles level us (clusters gs) (clusters rs) by_characters;
          };
      none_rises = none_rises (pick (hangul_sources cut (length gs)) gs) (outputs glyph_copies cut ms) rs h.falls
          as_merged;
    }

-- glyphs written from any that stand in their places, each but for its name its source
pub unnamed_written : (cut : List (ℕ × Item)) (ms : Glyphs) → map unnamed (outputs glyph_copies cut ms)
    ≡ map unnamed (pick (hangul_sources cut (length ms)) ms)
unnamed_written cut ms =
    let joined = written_from cut ms in
    (subst (λ ps. AreMade unnamed ms ps (outputs glyph_copies cut ms)) joined.from
    (subst (AreMade unnamed ms (map (λ m. m.place) joined.made)) joined.glyphs
    (are_made unnamed ms joined.made))).same

-- the whole hook: the choice leaves the clusters
pub clusters-rewritten : (breaks : BreakFlags) (font : Font) (circles : Bool) (level : BufferClusterLevel)
    (gs : Glyphs) → clusters (text_rewritten breaks font circles level gs)
    ≡ clusters (preprocessed font circles level gs)
clusters-rewritten = search (clusters-outputs, clusters-items_flagged)

pub on_rewritten : {T : Type 0} (r : Result T ShaperError) (breaks : BreakFlags) (font : Font) (old new : Buffer)
    → OnOk r (new ≡ rewritten_by breaks font old) → OnOk r (KeepsClusters font old new)
on_rewritten (Ok x) breaks font old new is =
    let circles = allows_circles old in
    subst (λ cs. ClustersRewritten font circles old.level (characters old.glyphs) (clusters old.glyphs) cs)
    (sym (ap (λ (b : Buffer). clusters b.glyphs) is ∙ clusters-rewritten breaks font circles old.level old.glyphs))
    (rewritten_holds font circles old.level old.glyphs).in_clusters
on_rewritten (Err e) breaks font old new is = tt
