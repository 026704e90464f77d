-- The merged stretches, from the left.
use Rattle.std.proofs.Common.{◌≡◌, ℕ, ◌+◌, ◌<◌, ◌≤◌, Bool, true, false, cond, nat_lt, List, [], ◌∷◌, ◌++◌, length, take, get_or, slice_index, replicate, refl, sym, ap, ◌∙◌, arith, length-append}
use Rattle.std.specs.List.{list_any, count_by, suffix_len, AllByRecursion, take-map}
use Rattle.std.proofs.lemmas.List.Concat.{flat_map-append}
use Rattle.std.proofs.lemmas.Bool.{or_parts}
use Rattle.std.proofs.lemmas.List.{take-take, take_more, length-take-le, length-map, get_or-take, take_at, length-replicate}
use Rattle.std.proofs.lemmas.List.Sums.{sum_by-cons}
use Rattle.shapers_buffer.specs.Glyphs.{Glyphs}
use Rattle.shapers_buffer.specs.declared.buffer.level.BufferClusterLevel.{BufferClusterLevel}
use Rattle.shapers_buffer.specs.Glyph.{default_glyph, characters}
use Rattle.shapers_buffer.specs.Buffer.{Buffer, grown}
use Rattle.shapers_buffer.specs.Clusters.{merge_all}
use Rattle.shapers_buffer.specs.Lists.{each_after}
use Rattle.shapers_buffer.proofs.MappedLists.{all-flat_map, all-each_after, each_after-push, list_any-map}
use Rattle.shapers_buffer.proofs.ListLaws.{none_from_count}
use Rattle.shapers_buffer.specs.declared.buffer.cluster_ranges.ClusterRange.{ClusterRange}
use Rattle.shapers_buffer.specs.ClusterRanges.{RangeFits, with_range}
use Rattle.shapers_clusters.proofs.Merging.{length-merge_all, merge_all-append, map-merge_all, map-with_range}
use Rattle.shapers_clusters.proofs.Appended.{merge_all-appended}
use Rattle.shapers_base.specs.declared.plan.breaks.BreakFlags.{BreakFlags}
use Rattle.shapers_text.specs.Thai.{is_sara_am, is_above_base, glyph_rule, glyphs_in_two, stretches_at, stretches_of_each, sara_am_stretches}
use Rattle.shapers_text.specs.ThaiWalk.{above_marks_before, merged_front, HasRoomForSaraAms}
use Rattle.shapers_text.proofs.ThaiInTwo.{in_two_plain, lengths, above_marks_before-characters}
use Rattle.shapers_text.specs.ThaiForms.{preprocessed_flagged}

-- merging leaves the characters
pub characters-merge_all : (level : BufferClusterLevel) (sts : List (ℕ × ℕ)) (gs : Glyphs)
    → characters (merge_all level sts gs) ≡ characters gs
characters-merge_all = search (arith, map-merge_all)

-- the number of SARA AM is that of the characters
count-characters : (gs : Glyphs) → count_by (λ g. is_sara_am g.glyph_id) gs ≡ count_by is_sara_am (characters gs)
count-characters [] = refl
count-characters (g ∷ gs) = search (arith, sum_by-cons, count-characters gs)

-- a text without SARA AM merges nothing
pub stretches_none_after : (level : BufferClusterLevel) (before us : List ℕ) → list_any is_sara_am us ≡ false
    → stretches_of_each level (each_after before us) ≡ []
stretches_none_after level before [] none = refl
stretches_none_after level before (u ∷ us) none =
    let parts = or_parts _ _ none in search (arith, stretches_none_after level (before ++ u ∷ []) us parts.1)

-- the stretches end within the text
within_two : (m s e : ℕ) (b : Bool) (rest : List (ℕ × ℕ)) → e ≤ m → AllByRecursion (λ st. st.1 ≤ m) rest
    → AllByRecursion (λ st. st.1 ≤ m) (cond b ((s, e) ∷ []) rest)
within_two m s e true rest h all = (h, tt)
within_two m s e false rest h all = all

within_at : (level : BufferClusterLevel) (m place u w : ℕ) → place < m
    → AllByRecursion (λ st. st.1 ≤ m) (stretches_at level place u w)
within_at = search (arith, within_two, nat_lt)

pub stretches_within : (level : BufferClusterLevel) (gs : Glyphs)
    → AllByRecursion (λ st. st.1 ≤ length gs) (sara_am_stretches level (characters gs))
stretches_within level gs =
    all-flat_map (λ p. length p.0 < length gs) (λ st. st.1 ≤ length gs) _ (λ p l. search (arith, within_at))
    (each_after [] (characters gs)) (search (arith, all-each_after, length-map))

-- the walk: the characters are those of the start, and the merges of the places before are done
pub record Merging (level : BufferClusterLevel) (start now : Glyphs) (len i : ℕ) : Type 0 where
  pub same_characters : characters now ≡ characters start
  pub merged : now ≡ merge_all level (sara_am_stretches level (take i (take len (characters start)))) start

pub merging_next : (level : BufferClusterLevel) (start now : Glyphs) (len i c : ℕ)
    (after : Glyphs) → len ≤ length start → i < len → Merging level start now len i
    → c ≡ get_or (characters now) i 0 → after ≡ merge_all level (stretches_at level i c (above_marks_before now i)) now
    → Merging level start after len (i + 1)
merging_next level start now len i c after within inside m at changed =
    let us = characters start in
    let all = take len us in
    let xs = take i all in
    let u = slice_index all i in
    let here = stretches_at level (length xs) u (suffix_len is_above_base xs) in
    let many : length us ≡ length start = search (arith, length-map) in
    let some : i < length all = omega (arith, length-take-le len us (omega arith)) in
    search (
      arith,
      get_or-take,
      above_marks_before-characters now i,
      take-take,
      length-take-le,
      characters-merge_all,
      merge_all-append,
      each_after-push,
      flat_map-append,
      take_more all i 0 some,
    )

-- the same where a run isn't written yet
characters-run : (run : ClusterRange) (gs : Glyphs) → RangeFits run gs → characters (with_range run gs) ≡ characters gs
characters-run = search (arith, map-with_range)

pub merging_turn : (level : BufferClusterLevel) (start now after : Glyphs) (run : ClusterRange)
    (len i c : ℕ) → len ≤ length start → i < len → RangeFits run now → Merging level start (with_range run now) len i
    → c ≡ get_or (characters now) i 0
    → after ≡ merge_all level (stretches_at level i c (above_marks_before now i)) (with_range run now)
    → Merging level start after len (i + 1)
merging_turn level start now after run len i c within inside fits m at changed =
    let same = characters-run run now fits in
    let marks : above_marks_before now i ≡ above_marks_before (with_range run now) i =
    search (arith, above_marks_before-characters) in
    merging_next level start (with_range run now) len i c after within inside m (cc) (cc)

-- the grown text, merged, is the merged text, grown
pub merged_grown : (level : BufferClusterLevel) (gs : Glyphs) (n : ℕ)
    → merge_all level (sara_am_stretches level (take (length gs) (characters (gs ++ replicate n default_glyph))))
    (gs ++ replicate n default_glyph) ≡ merge_all level (sara_am_stretches level (characters gs)) gs
    ++ replicate n default_glyph
merged_grown level gs n =
    ap (λ us. merge_all level (sara_am_stretches level us) (gs ++ replicate n default_glyph))
    (take-map (λ g. g.glyph_id) (length gs) (gs ++ replicate n default_glyph)
    ∙ ap characters (take_at gs (replicate n default_glyph) (length gs) refl))
    ∙ merge_all-appended level n (sara_am_stretches level (characters gs)) gs (stretches_within level gs)

-- the text without SARA AM stays, and is as long
pub unchanged : (level : BufferClusterLevel) (gs : Glyphs) → count_by (λ g. is_sara_am g.glyph_id) gs ≡ 0
    → gs ≡ glyphs_in_two (merge_all level (sara_am_stretches level (characters gs)) gs)
unchanged = search (arith, stretches_none_after, list_any-map, none_from_count, in_two_plain)

-- and without private use forms the whole rewriting leaves it
pub unchanged_plain : (breaks : BreakFlags) (forms : Bool) (has : ℕ → Bool) (level : BufferClusterLevel)
    (gs : Glyphs) → forms ≡ false → count_by (λ g. is_sara_am g.glyph_id) gs ≡ 0
    → gs ≡ preprocessed_flagged breaks forms has level gs
unchanged_plain breaks forms has level gs off none = rw off (unchanged level gs none)

pub length-glyphs_in_two : (gs : Glyphs)
    → length (glyphs_in_two gs) ≡ length gs + count_by (λ g. is_sara_am g.glyph_id) gs
length-glyphs_in_two gs = (lengths glyph_rule gs).whole

-- the grown text has just the room that is wanted
pub room_made : (gs : Glyphs) (n len : ℕ) → len ≡ length gs → n ≡ count_by (λ g. is_sara_am g.glyph_id) gs
    → HasRoomForSaraAms len (gs ++ replicate n default_glyph)
room_made = search (arith, length-append, take_at, length-glyphs_in_two, length-replicate)

-- merging leaves the room
pub room_stays : (level : BufferClusterLevel) (len : ℕ) (gs : Glyphs) → HasRoomForSaraAms len gs
    → HasRoomForSaraAms len (merged_front level len gs)
room_stays level len gs room =
    let now = merged_front level len gs in
    let long : length now ≡ length gs =
    search (arith, length-map, characters-merge_all) in
    let same =
    sym (take-map (λ g. g.glyph_id) len (merged_front level len gs)) ∙ ap (take len) (characters-merge_all level
    (sara_am_stretches level (take len (characters gs))) gs) ∙ take-map (λ g. g.glyph_id) len gs in
    let count : count_by (λ g. is_sara_am g.glyph_id) (take len now)
    ≡ count_by (λ g. is_sara_am g.glyph_id) (take len gs) =
    search (arith, count-characters) in search (arith, length-glyphs_in_two, length-take-le)

pub all_written : (old mid now : Buffer) (n len : ℕ) → old.positions ≡ [] → len ≡ length old.glyphs → mid ≡ grown n old
    → now.glyphs ≡ glyphs_in_two (take len (merged_front mid.level len mid.glyphs))
    → now ≡ record mid { glyphs = now.glyphs } → now ≡ record old
    { glyphs = glyphs_in_two (merge_all old.level (sara_am_stretches old.level (characters old.glyphs)) old.glyphs) }
all_written old mid now n len none = search (arith, merged_grown, take_at, length-merge_all, stretches_within)
