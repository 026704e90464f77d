-- The flag law of the hooks.
use Rattle.std.proofs.Common.{◌≡◌, ℕ, ◌+◌, ◌≤◌, Bool, true, false, cond, List, [], ◌∷◌, length, map, refl, arith}
use Rattle.std.specs.Prelude.{Result, Ok, Err, OnOk}
use Rattle.std.specs.List.{AllByRecursion}
use Rattle.std.proofs.lemmas.Simd.{map-map}
use Rattle.shapers_buffer.specs.Glyphs.{Glyph, Glyphs}
use Rattle.shapers_buffer.specs.declared.buffer.level.BufferClusterLevel.{BufferClusterLevel}
use Rattle.shapers_buffer.specs.declared.buffer.refusal.ShaperError.{ShaperError}
use Rattle.shapers_buffer.specs.Buffer.{Buffer}
use Rattle.shapers_buffer.specs.Clusters.{merge_all}
use Rattle.shapers_buffer.specs.Glyph.{characters}
use Rattle.shapers_buffer.specs.GlyphFlags.{unsafe_all}
use Rattle.shapers_buffer.specs.Places.{pick}
use Rattle.shapers_base.specs.Font.{Font}
use Rattle.shapers_base.specs.declared.plan.breaks.BreakFlags.{BreakFlags}
use Rattle.shapers_clusters.specs.Cuts.{EndWithin}
use Rattle.shapers_clusters.specs.FlagLaw.{AllFlagsStay, FlagsAdded}
use Rattle.shapers_clusters.proofs.FlagCalls.{keeps-with_bits}
use Rattle.shapers_clusters.proofs.FlagLaw.{all_stay_as, all_stay_on, all_stay_picked, all_stay_same, merge_all_stays, unsafe_all_stays}
use Rattle.shapers_hangul.specs.declared.ot_shaper_hangul.item.Item.{Item}
use Rattle.shapers_hangul.specs.Hangul.{Fit, all_joined, item_joined, item_stretches, items, items_flagged, rewritten_by, text_rewritten, unsafe_stretches}
use Rattle.shapers_hangul.specs.HangulLaws.{KeepsGlyphFlags, hangul_sources, unnamed}
use Rattle.shapers_base.specs.Masks.{with_numbered_mask}
use Rattle.shapers_hangul.proofs.HangulClusters.{unnamed_written}
use Rattle.shapers_hangul.proofs.ItemFlags.{items_flagged_stay, length-items_flagged}
use Rattle.shapers_hangul.proofs.Items.{items_fit}
use Rattle.shapers_hangul.proofs.Walks.{length-all_joined, length-characters, length-item_joined, map-unsafe}

one_in_order : (b : Bool) (s n : ℕ) → AllByRecursion (λ (st : ℕ × ℕ). st.0 ≤ st.1) (cond b ((s, s + n) ∷ []) [])
one_in_order true s n = (omega arith, tt)
one_in_order false s n = tt

item_joined_stays : (level : BufferClusterLevel) (s : ℕ) (item : Item) (gs : Glyphs)
    → EndWithin (length gs) (item_stretches level item s) → AllFlagsStay gs (item_joined level s item gs)
item_joined_stays level s item gs within =
    let flags = unsafe_all (unsafe_stretches level item s) gs in
    let long : length gs ≡ length flags =
    cc (length-characters gs, map-unsafe (λ g. g.glyph_id) (λ g. refl) level item s gs, length-characters flags) in
    all_stay_on gs flags (merge_all level (item_stretches level item s) flags)
    (search (arith, unsafe_all_stays)) (search (arith, merge_all_stays))

all_joined_stays : (level : BufferClusterLevel) (cut : List (ℕ × Item)) (gs : Glyphs)
    → Fit (length gs) cut → AllFlagsStay gs (all_joined level cut gs)
all_joined_stays level [] gs fit = all_stay_same gs
all_joined_stays level (p ∷ cut) gs fit =
    let once = item_joined level p.0 p.1 gs in
    all_stay_on gs once (all_joined level cut once) (search (arith, item_joined_stays))
    (all_joined_stays level cut once (search length-item_joined))

rewritten_flags : (breaks : BreakFlags) (font : Font) (circles : Bool) (level : BufferClusterLevel) (gs : Glyphs)
    → AllFlagsStay (pick (hangul_sources (items font circles (characters gs)) (length gs)) gs)
    (text_rewritten breaks font circles level gs)
rewritten_flags breaks font circles level gs =
    let cut = items font circles (characters gs) in
    let joined = all_joined level cut gs in
    let ns = items_flagged breaks cut joined in
    let places = hangul_sources cut (length gs) in
    let rs = text_rewritten breaks font circles level gs in
    let long : length ns ≡ length gs = search (length-items_flagged, length-all_joined) in
    let made : map unnamed rs ≡ map unnamed (pick places ns) = cc (unnamed_written cut ns) in
    all_stay_as (pick places gs) (pick places ns) rs
    (cc (map-map (λ g. g.cluster) unnamed rs, map-map (λ g. g.cluster) unnamed (pick places ns)))
    (cc (map-map (λ g. g.mask) unnamed rs, map-map (λ g. g.mask) unnamed (pick places ns)))
    (all_stay_picked places gs ns (all_stay_on gs joined ns
    (search (arith, all_joined_stays, length-characters, items_fit)) (items_flagged_stay breaks cut joined)))

-- the whole hook
pub on_flags : {T : Type 0} (r : Result T ShaperError) (breaks : BreakFlags) (font : Font) (old new : Buffer)
    → OnOk r (new ≡ rewritten_by breaks font old) → OnOk r (KeepsGlyphFlags font old new)
on_flags (Ok x) breaks font old new is = search (arith, rewritten_flags)
on_flags (Err e) breaks font old new is = tt

-- the masks of jamo
pub jamo_mask_added : (masks : List ℕ) (g : Glyph) → FlagsAdded g (with_numbered_mask masks g)
jamo_mask_added = search keeps-with_bits
