-- What the choice flags of a Hangul text once its items are joined: glyph flags alone, and none is lost.
use Rattle.std.proofs.Common.{◌≡◌, ℕ, ◌≤◌, List, [], ◌∷◌, length, map, refl, arith}
use Rattle.std.specs.List.{AllByRecursion}
use Rattle.shapers_buffer.specs.Glyphs.{Glyph, Glyphs}
use Rattle.shapers_buffer.specs.Glyph.{characters, clusters}
use Rattle.shapers_buffer.specs.GlyphFlags.{with_bits}
use Rattle.shapers_base.specs.declared.plan.breaks.BreakFlags.{BreakFlags}
use Rattle.shapers_base.specs.declared.plan.breaks.BreakFlags.TheVariants.{AsCode, Sound}
use Rattle.shapers_clusters.specs.FlagLaw.{AllFlagsStay}
use Rattle.shapers_clusters.proofs.FlagCalls.{map-unsafe_all}
use Rattle.shapers_clusters.proofs.FlagLaw.{all_stay_same, unsafe_all_stays}
use Rattle.shapers_hangul.specs.declared.ot_shaper_hangul.item.Item.{Item}
use Rattle.shapers_hangul.specs.Hangul.{items_flagged, whole_items}
use Rattle.shapers_hangul.proofs.Walks.{length-characters}

whole_in_order : (cut : List (ℕ × Item)) → AllByRecursion (λ st. st.0 ≤ st.1) (whole_items cut)
whole_in_order [] = tt
whole_in_order (p ∷ cut) = (omega arith, whole_in_order cut)

pub map-items_flagged : {Y : Type 0} (f : Glyph → Y) → ((g : Glyph) → f (with_bits 3 g) ≡ f g)
    → (breaks : BreakFlags) (cut : List (ℕ × Item)) (gs : Glyphs) → map f (items_flagged breaks cut gs) ≡ map f gs
map-items_flagged f keeps AsCode cut gs = refl
map-items_flagged f keeps Sound cut gs = search (map-unsafe_all, whole_in_order)

pub characters-items_flagged : (breaks : BreakFlags) (cut : List (ℕ × Item)) (gs : Glyphs)
    → characters (items_flagged breaks cut gs) ≡ characters gs
characters-items_flagged = search map-items_flagged

pub clusters-items_flagged : (breaks : BreakFlags) (cut : List (ℕ × Item)) (gs : Glyphs)
    → clusters (items_flagged breaks cut gs) ≡ clusters gs
clusters-items_flagged = search map-items_flagged

pub length-items_flagged : (breaks : BreakFlags) (cut : List (ℕ × Item)) (gs : Glyphs)
    → length (items_flagged breaks cut gs) ≡ length gs
length-items_flagged breaks cut gs =
    cc (length-characters (items_flagged breaks cut gs), characters-items_flagged breaks cut gs, length-characters gs)

pub items_flagged_stay : (breaks : BreakFlags) (cut : List (ℕ × Item)) (gs : Glyphs)
    → AllFlagsStay gs (items_flagged breaks cut gs)
items_flagged_stay AsCode cut gs = all_stay_same gs
items_flagged_stay Sound cut gs = search (unsafe_all_stays, whole_in_order)
