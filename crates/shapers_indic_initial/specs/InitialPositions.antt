-- The positions of a syllable's glyphs, by which it is ordered. (OpenType, development of Indic
-- scripts: "Reorder characters".)
use Rattle.std.specs.Prelude.{ℕ, ◌+◌, ◌==◌, min, nat_le, nat_lt, Bool, ◌&&◌, ◌||◌, not, List, [], ◌∷◌, ◌++◌, length, map, take, drop, find, reverse, Option, None, Some, codes, if◌then◌else◌}
use Rattle.std.specs.List.{enumerate_from, list_any}
use Rattle.std.specs.Option.{option_map_or}
use Rattle.shapers_buffer.specs.Glyphs.{Glyph, Glyphs}
use Rattle.shapers_buffer.specs.declared.buffer.tag.Script.{Script}
use Rattle.shapers_buffer.specs.Glyph.{at_position}
use Rattle.shapers_buffer.specs.Clusters.{stretch_of}
use Rattle.shapers_buffer.specs.Lists.{each_after}
use Rattle.shapers_base.specs.declared.plan.ot_category_t.TheConstants.{OT_CM, OT_H, OT_MPst, OT_N, OT_RS, OT_SM, OT_ZWJ, OT_ZWNJ}
use Rattle.shapers_base.specs.declared.plan.ot_position_t.TheConstants.{POS_BASE_C, POS_PRE_C, POS_PRE_M, POS_RA_TO_BECOME_REPH, POS_SMVD}
use Rattle.shapers_indic.specs.Glyphs.{greatest_place, has_category, has_position, is_matra, least_place, passes, places}
use Rattle.shapers_indic_initial.specs.InitialRules.{Rules}
use Rattle.shapers_indic.specs.Plan.{is_script}
use Rattle.shapers_syllabic.specs.Consonants.{is_consonant}

-- the position at place i, where it was p: the reph's; at most PRE_C before the base; BASE_C on it
abbrev pub position_by_base : ℕ → Bool → ℕ → ℕ → ℕ
position_by_base base reph i p =
    if reph && i == 0 then POS_RA_TO_BECOME_REPH
    else if nat_lt i base then min POS_PRE_C p else if i == base then POS_BASE_C else p

abbrev pub by_base : ℕ → Bool → Glyphs → Glyphs
by_base base reph gs =
    map (λ t. at_position (position_by_base base reph t.0 t.1.auxiliary) t.1) (enumerate_from 0 gs)

-- the older specification: the first H after the base goes behind the last consonant after it; in
-- Kannada not over another H. The places of both.
abbrev pub is_passed_by_halant : Option Script → Glyph → Bool
is_passed_by_halant script g =
    is_consonant g || (is_script script (Some (record { 0 = codes "Knda" })) && has_category OT_H g)

abbrev pub halant_after : ℕ → Glyphs → Option ℕ
halant_after base gs = least_place (passes (has_category OT_H) gs) (base + 1) (length gs)

abbrev pub last_after_halant : Option Script → Glyphs → ℕ → Option ℕ
last_after_halant script gs h =
    greatest_place (passes (is_passed_by_halant script) gs) (h + 1) (length gs)

-- the list with the element at place h behind the one at place j
abbrev pub moved_behind : {X : Type 0} → ℕ → ℕ → List X → List X
moved_behind h j xs =
    take h xs ++ (stretch_of (h + 1) (j + 1) xs ++ (stretch_of h (h + 1) xs ++ drop (j + 1) xs))

-- the places of n glyphs, where the one at the first of these places has moved behind the one at
-- the second
abbrev pub moved_places : Option (ℕ × ℕ) → ℕ → List ℕ
moved_places None n = places 0 n
moved_places (Some move) n = moved_behind move.0 move.1 (places 0 n)

-- for each place the old place of what stands there once that H has moved
abbrev pub halant_to : Glyphs → ℕ → Option ℕ → List ℕ
halant_to gs h None = places 0 (length gs)
halant_to gs h (Some j) =
    if passes (has_category OT_H) gs j then places 0 (length gs)
    else moved_behind h j (places 0 (length gs))

abbrev pub halant_from : Option Script → Glyphs → Option ℕ → List ℕ
halant_from script gs None = places 0 (length gs)
halant_from script gs (Some h) = halant_to gs h (last_after_halant script gs h)

abbrev pub halant_places : Rules → Option Script → ℕ → Glyphs → List ℕ
halant_places r script base gs =
    if r.old then halant_from script gs (halant_after base gs) else places 0 (length gs)

-- whether a glyph goes with what stands before it, and whether attached glyphs go with this one
abbrev pub is_attached : Glyph → Bool
is_attached g =
    list_any (λ c. c == g.category) (OT_ZWJ ∷ OT_ZWNJ ∷ OT_N ∷ OT_RS ∷ OT_CM ∷ OT_H ∷ [])

abbrev pub carries : Glyph → Bool
carries g = not (is_attached g) && not (has_position POS_SMVD g)

-- an attached glyph has the position of the nearest glyph before it that carries it, else 0
abbrev pub attached_to : Glyphs → Glyph → Glyph
attached_to before g =
    if is_attached g then at_position
    (option_map_or (λ h. h.auxiliary) (find carries (reverse before)) 0) g
    else g

abbrev pub with_attached : Glyphs → Glyphs
with_attached gs = map (λ t. attached_to t.0 t.1) (each_after [] gs)

-- a syllable modifier goes with a postfixed matra directly behind it, unless that is with the signs
abbrev pub draws_sign : Glyph → Glyph → Bool
draws_sign g next =
    has_category OT_SM g && has_category OT_MPst next && not (has_position POS_SMVD next)

abbrev pub before_next : Glyph → Glyphs → Glyph
before_next g [] = g
before_next g (next ∷ gs) = if draws_sign g next then at_position next.auxiliary g else g

abbrev pub with_signs : Glyphs → Glyphs
with_signs [] = []
with_signs (g ∷ gs) = before_next g gs ∷ with_signs gs

-- an H with the position of left matras gets that of the nearest glyph before it with another one
abbrev pub halant_behind : Glyphs → Glyph → Glyph
halant_behind before g =
    if has_category OT_H g
    && has_position POS_PRE_M g then at_position (option_map_or (λ h. h.auxiliary)
    (find (λ h. not (has_position POS_PRE_M h)) (reverse before)) POS_PRE_M) g
    else g

abbrev pub with_halants : Glyphs → Glyphs
with_halants gs = map (λ t. halant_behind t.0 t.1) (each_after [] gs)

-- all three
abbrev pub with_marks_attached : Glyphs → Glyphs
with_marks_attached gs = with_halants (with_signs (with_attached gs))

-- whether a glyph bounds what a consonant owns: it is a consonant or a matra
abbrev pub bounds : Glyph → Bool
bounds g = is_consonant g || is_matra g

-- after the base a consonant owns what is between it and the last consonant or matra, signs apart
abbrev pub owned_by : Option Glyph → Glyph → Glyph
owned_by None g = g
owned_by (Some h) g = if is_consonant h then at_position h.auxiliary g else g

abbrev pub with_owner : Glyphs → Glyph → Glyph
with_owner after g =
    if bounds g || nat_le POS_SMVD g.auxiliary then g else owned_by (find bounds after) g

abbrev pub with_owners : Glyphs → Glyphs
with_owners [] = []
with_owners (g ∷ gs) = with_owner gs g ∷ with_owners gs

abbrev pub with_owners_after : ℕ → Glyphs → Glyphs
with_owners_after base gs = take (base + 1) gs ++ with_owners (drop (base + 1) gs)
