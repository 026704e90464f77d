-- A Hangul text cut between two items.
use Rattle.std.proofs.Common.{ℕ, zero, suc, ◌+◌, ◌-◌, ◌≤◌, ◌≡◌, Bool, List, [], ◌∷◌, ◌++◌, length, refl, sym, ap, subst, ◌∙◌, arith}
use Rattle.std.proofs.lemmas.List.{length-map, map-append}
use Rattle.shapers_buffer.specs.Glyphs.{Glyph, Glyphs}
use Rattle.shapers_buffer.specs.declared.buffer.level.BufferClusterLevel.{BufferClusterLevel}
use Rattle.shapers_buffer.specs.Clusters.{merge_all}
use Rattle.shapers_buffer.specs.Glyph.{characters, clusters, order_view, plain}
use Rattle.shapers_buffer.specs.GlyphFlags.{unsafe_all}
use Rattle.shapers_base.specs.Font.{Font}
use Rattle.shapers_base.specs.declared.plan.breaks.BreakFlags.{BreakFlags}
use Rattle.shapers_clusters.specs.Cuts.{EndWithin, ShareNone}
use Rattle.shapers_clusters.specs.Steps.{shifted}
use Rattle.shapers_clusters.proofs.FlagCalls.{without_flags-or}
use Rattle.shapers_clusters.proofs.Merging.{length-merge_all, order_view-merge_all}
use Rattle.shapers_clusters.proofs.Moves.{end_within-append}
use Rattle.shapers_hangul.specs.Hangul.{Copying, all_joined, first_item, glyph_copies, item_joined, item_len, item_stretches, items, items_flagged, items_from, outputs, preprocessed, stretches, text_rewritten, unsafe_stretches}
use Rattle.shapers_hangul.specs.HangulLaws.{place_copies}
use Rattle.shapers_hangul.proofs.HangulClusters.{item_ends}
use Rattle.shapers_hangul.proofs.ItemFlags.{map-items_flagged}
use Rattle.shapers_hangul.proofs.Items.{first_item-within, taken_some}
use Rattle.shapers_hangul.proofs.Outputs.{Leads, outputs-map}
use Rattle.shapers_hangul.proofs.Walks.{clusters-all_joined, length-characters, map-unsafe}
use Rattle.rustybuzz_shapers.specs.TextCuts.{IsBetweenItems}
use Rattle.rustybuzz_shapers.proofs.HangulItems.{EachBeside, outputs_local, outputs_past, split_there, stretches_past}
use Rattle.rustybuzz_shapers.proofs.ThaiClusterHalves.{merged_halves}

-- joining changes no order view
plain_joined : (level : BufferClusterLevel) (font : Font) (circles : Bool) (place skip : ℕ) (us : List ℕ)
    (gs : Glyphs) → order_view (all_joined level (items_from (first_item font circles) place skip us) gs)
    ≡ order_view gs
plain_joined level font circles place skip [] gs = refl
plain_joined level font circles place zero (u ∷ us) gs =
    let item = first_item font circles (u ∷ us) in
    plain_joined level font circles (place + 1) (item_len item - 1) us (item_joined level place item gs)
    ∙ order_view-merge_all level (item_stretches level item place) (unsafe_all (unsafe_stretches level item place) gs)
    ∙ map-unsafe plain (λ g. search (arith, without_flags-or)) level item place gs
plain_joined level font circles place (suc skip) (u ∷ us) gs = plain_joined level font circles (place + 1) skip us gs

order_made : (font : Font) (circles : Bool) (level : BufferClusterLevel) (gs : Glyphs)
    → order_view (preprocessed font circles level gs)
    ≡ outputs glyph_copies (items font circles (characters gs)) (order_view gs)
order_made = search (arith, outputs-map, plain_joined)

pub clusters_made : (font : Font) (circles : Bool) (level : BufferClusterLevel) (gs : Glyphs)
    → clusters (preprocessed font circles level gs) ≡ outputs place_copies (items font circles (characters gs))
    (clusters (merge_all level (stretches level (items font circles (characters gs))) gs))
clusters_made font circles level gs =
    let cut = items font circles (characters gs) in
    cc (
      outputs-map (λ (g : Glyph). g.cluster) glyph_copies place_copies
          (record { character = λ u g. refl; jamo = λ n g. refl }) cut (all_joined level cut gs),
      clusters-all_joined level cut gs,
    )

-- what the choice flags shows in neither
pub hangul_order-flagged : (breaks : BreakFlags) (font : Font) (circles : Bool) (level : BufferClusterLevel)
    (gs : Glyphs) → order_view (text_rewritten breaks font circles level gs)
    ≡ order_view (preprocessed font circles level gs)
hangul_order-flagged breaks font circles level gs =
    let cut = items font circles (characters gs) in
    let joined = all_joined level cut gs in
    let leads : Leads plain glyph_copies glyph_copies = record { character = λ u g. refl; jamo = λ n g. refl } in
    cc (
      outputs-map plain glyph_copies glyph_copies leads cut (items_flagged breaks cut joined),
      map-items_flagged plain
          (λ g. ap (λ (m : ℕ). (record g { cluster = 0; mask = m })) (without_flags-or g.mask 3 refl)) breaks cut
          joined,
      outputs-map plain glyph_copies glyph_copies leads cut joined,
    )

-- the stretches end within the text
ends_from : (level : BufferClusterLevel) (font : Font) (circles : Bool) (n place skip : ℕ) (us : List ℕ)
    → place + length us ≤ n → skip ≤ length us
    → EndWithin n (stretches level (items_from (first_item font circles) place skip us))
ends_from level font circles n place skip [] within few = tt
ends_from level font circles n place zero (u ∷ us) within few =
    let item = first_item font circles (u ∷ us) in
    let fits = first_item-within font circles (u ∷ us) (omega arith) in
    end_within-append n (item_stretches level item place)
    (stretches level (items_from (first_item font circles) (place + 1) (item_len item - 1) us))
    (search (arith, item_ends))
    (ends_from level font circles n (place + 1) (item_len item - 1) us (omega (arith, within))
    (omega (arith, fits, taken_some item.unit)))
ends_from level font circles n place (suc skip) (u ∷ us) within few =
    ends_from level font circles n (place + 1) skip us (omega (arith, within)) (omega (arith, few))

pub ends_within : (level : BufferClusterLevel) (font : Font) (circles : Bool) (gs : Glyphs)
    → EndWithin (length gs) (stretches level (items font circles (characters gs)))
ends_within = search (arith, ends_from, length-characters)

-- the outputs of both halves' items
outputs_halves : {X : Type 0} (c : Copying X) (level : BufferClusterLevel) (font : Font) (circles : Bool)
    (xs ys : List X) (us vs : List ℕ) → length us ≡ length xs → EachBeside font circles (length us) 0 0 (us ++ vs)
    → outputs c (items font circles (us ++ vs)) (xs ++ ys) ≡ outputs c (items font circles us) xs
    ++ outputs c (items font circles vs) ys
outputs_halves c level font circles xs ys us vs long beside =
    let n = length xs + 0 in
    (split_there c level font circles (xs ++ ys) 0 0 n us vs (omega (arith, long)) (omega arith) (subst (λ k.
    EachBeside font circles k 0 0 (us ++ vs)) (omega (arith, long)) beside)).made
    ∙ ap (λ zs. zs ++ outputs c (items_from (first_item font circles) n 0 vs) (xs ++ ys))
    (outputs_local c font circles xs ys 0 0 us (omega (arith, long)) (omega arith))
    ∙ ap (λ zs. outputs c (items font circles us) xs ++ zs) (outputs_past c font circles xs ys 0 0 vs)

read_halves : (font : Font) (circles : Bool) (gs hs : Glyphs)
    → IsBetweenItems font circles (characters (gs ++ hs)) (length gs)
    → EachBeside font circles (length (characters gs)) 0 0 (characters gs ++ characters hs)
read_halves = search (arith, length-characters, map-append)

pub hangul_order_halves : (font : Font) (circles : Bool) (level : BufferClusterLevel) (gs hs : Glyphs)
    → IsBetweenItems font circles (characters (gs ++ hs)) (length gs)
    → order_view (preprocessed font circles level (gs ++ hs)) ≡ order_view (preprocessed font circles level gs)
    ++ order_view (preprocessed font circles level hs)
hangul_order_halves =
    search (arith, order_made, map-append, outputs_halves, length-characters, length-map, read_halves)

pub hangul_clusters_halves : (font : Font) (circles : Bool) (level : BufferClusterLevel) (gs hs : Glyphs)
    → IsBetweenItems font circles (characters (gs ++ hs)) (length gs) → ShareNone gs hs
    → clusters (preprocessed font circles level (gs ++ hs)) ≡ clusters (preprocessed font circles level gs)
    ++ clusters (preprocessed font circles level hs)
hangul_clusters_halves font circles level gs hs between none =
    let us = characters gs in
    let vs = characters hs in
    let beside = read_halves font circles gs hs between in
    let one = stretches level (items font circles us) in
    let two = stretches level (items font circles vs) in
    let n = length gs + 0 in
    let long = length-characters gs in
    let sts : stretches level (items font circles (us ++ vs)) ≡ one ++ shifted (length gs) two =
    (split_there place_copies level font circles [] 0 0 n us vs (omega (arith, long)) (omega arith) (subst (λ k.
    EachBeside font circles k 0 0 (us ++ vs)) (omega (arith, long)) beside)).merged
    ∙ ap (λ xs. one ++ xs) (stretches_past level font circles (length gs) 0 0 vs) in
    let first = merge_all level one gs in
    let second = merge_all level two hs in
    let ends = ends_within level font circles gs in
    cc (
      clusters_made font circles level (gs ++ hs),
      map-append (λ (g : Glyph). g.glyph_id) gs hs,
      merged_halves level one two gs hs ends (ends_within level font circles hs) none,
      map-append (λ (g : Glyph). g.cluster) first second,
      outputs_halves place_copies level font circles (clusters first) (clusters second) us vs
          (long ∙ sym (length-map first (λ (g : Glyph). g.cluster) ∙ length-merge_all level one gs ends)) beside,
      clusters_made font circles level gs,
      clusters_made font circles level hs,
    )
