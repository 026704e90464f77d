-- Hangul: jamo, syllables and tones (The Unicode Standard, "Conjoining Jamo Behavior"; OpenType's
-- notes on Hangul).
use Rattle.std.specs.Prelude.{ℕ, ◌+◌, ◌-◌, ◌*◌, ◌/◌, ◌%◌, ◌==◌, ◌≤◌, nat_le, nat_lt, nat_abs, zero, suc, get_or, not, Bool, true, false, ◌||◌, ◌&&◌, List, [], ◌∷◌, ◌++◌, map, flat_map, take, drop, if◌then◌else◌}
use Rattle.std.specs.Option.{option_map_or}
use Rattle.std.specs.List.{AllByRecursion}
use Rattle.shapers_buffer.specs.Glyphs.{Glyph, Glyphs}
use Rattle.shapers_buffer.specs.declared.buffer.level.BufferClusterLevel.{BufferClusterLevel}
use Rattle.shapers_buffer.specs.declared.buffer.level.BufferClusterLevel.TheVariants.{MonotoneGraphemes, MonotoneCharacters, Characters}
use Rattle.shapers_buffer.specs.Buffer.{Buffer, asks, no_dotted_circle}
use Rattle.shapers_buffer.specs.Clusters.{merge_all}
use Rattle.shapers_buffer.specs.GlyphFlags.{unsafe_all}
use Rattle.shapers_base.specs.Font.{Font, dotted_circle, has_nominal}
use Rattle.shapers_base.specs.declared.plan.breaks.BreakFlags.{BreakFlags}
use Rattle.shapers_base.specs.declared.plan.breaks.BreakFlags.TheVariants.{AsCode, Sound}
use Rattle.shapers_hangul.specs.declared.ot_shaper_hangul.item.Item.{Item}
use Rattle.shapers_hangul.specs.declared.ot_shaper_hangul.item.JoinedTone.{JoinedTone}
use Rattle.shapers_hangul.specs.declared.ot_shaper_hangul.item.JoinedTone.TheVariants.{Absent, Before, Behind}
use Rattle.shapers_hangul.specs.declared.ot_shaper_hangul.item.Unit.{Unit}
use Rattle.shapers_hangul.specs.declared.ot_shaper_hangul.item.Unit.TheVariants.{ComposedTwo, ComposedThree, JamoTwo, JamoThree, PartsTwo, PartsThree, PartsBeforeT, Syllable, ToneCircle, CircleTone, Other}
use Rattle.shapers_buffer.specs.Glyph.{characters}

abbrev pub is_between : ℕ → ℕ → ℕ → Bool
is_between low high u = nat_le low u && nat_le u high

-- leading, vowel and trailing jamo
abbrev pub is_l : ℕ → Bool
is_l u = is_between 0x1100 0x115F u || is_between 0xA960 0xA97C u

abbrev pub is_v : ℕ → Bool
is_v u = is_between 0x1160 0x11A7 u || is_between 0xD7B0 0xD7C6 u

abbrev pub is_t : ℕ → Bool
is_t u = is_between 0x11A8 0x11FF u || is_between 0xD7CB 0xD7FB u

-- the jamo that combine to a syllable character
abbrev pub combines_l : ℕ → Bool
combines_l u = is_between 0x1100 0x1112 u

abbrev pub combines_v : ℕ → Bool
combines_v u = is_between 0x1161 0x1175 u

abbrev pub combines_t : ℕ → Bool
combines_t u = is_between 0x11A8 0x11C2 u

-- syllable characters, and those without a trailing jamo; tones
abbrev pub is_s : ℕ → Bool
is_s u = is_between 0xAC00 0xD7A3 u

abbrev pub is_lv : ℕ → Bool
is_lv u = is_s u && (u - 0xAC00) % 28 == 0

abbrev pub is_tone : ℕ → Bool
is_tone u = is_between 0x302E 0x302F u

-- the syllable character of combining jamo L V; that of LV and T
abbrev pub with_v : ℕ → ℕ → ℕ
with_v l v = 0xAC00 + (l - 0x1100) * 588 + (v - 0x1161) * 28

abbrev pub with_t : ℕ → ℕ → ℕ
with_t lv t = lv + (t - 0x11A7)

-- the jamo of a syllable character; it has the last one unless it is LV
abbrev pub lead : ℕ → ℕ
lead s = 0x1100 + (s - 0xAC00) / 588

abbrev pub vowel : ℕ → ℕ
vowel s = 0x1161 + (s - 0xAC00) % 588 / 28

abbrev pub trail : ℕ → ℕ
trail s = 0x11A7 + (s - 0xAC00) % 28

abbrev pub has_jamo_of : Font → ℕ → Bool
has_jamo_of font s = has_nominal font (lead s)
    && (has_nominal font (vowel s) && (is_lv s || has_nominal font (trail s)))

-- whether the font has the tone with advance 0, so that it strikes over what stands before it
abbrev pub is_narrow : Font → ℕ → Bool
is_narrow font u = option_map_or (λ glyph. nat_abs (font.advance glyph) == 0) (font.nominal u) false

-- UNITS. The first fitting case for a character u and the next two, v and t, each 0 where the text
-- ends.

-- L V, and L V T: one syllable character if all combine and the font has it, else marked jamo
abbrev pub jamo_two : Font → ℕ → ℕ → Unit
jamo_two font l v =
    if (combines_l l && combines_v v) && has_nominal font (with_v l v) then ComposedTwo (with_v l v)
    else JamoTwo

abbrev pub jamo_three : Font → ℕ → ℕ → ℕ → Unit
jamo_three font l v t =
    if (combines_l l && (combines_v v && combines_t t))
    && has_nominal font (with_t (with_v l v) t) then ComposedThree (with_t (with_v l v) t)
    else JamoThree

-- a syllable character by its jamo, all marked
abbrev pub jamo_parts : ℕ → Unit
jamo_parts s =
    if is_lv s then PartsTwo (lead s) (vowel s) else PartsThree (lead s) (vowel s) (trail s)

-- a syllable character S before v: LV with a combining T as one that the font has; jamo of an S
-- that the font lacks, or of an LV before any T, which comes along; an S that the font has
abbrev pub syllable_unit : Font → ℕ → ℕ → Unit
syllable_unit font s v =
    if (is_lv s && combines_t v) && has_nominal font (with_t s v) then ComposedTwo (with_t s v)
    else if not (has_nominal font s) && has_jamo_of font s then jamo_parts s
    else if (is_lv s && is_t v) && has_jamo_of font s then PartsBeforeT (lead s) (vowel s)
    else if has_nominal font s then Syllable
    else Other

-- a tone without a syllable before it: with a circle, where circles are wanted and the font has it
abbrev pub lone_tone : Font → Bool → ℕ → Unit
lone_tone font circles u =
    if circles && has_nominal font dotted_circle then
    (if is_narrow font u then CircleTone else ToneCircle)
    else Other

abbrev pub jamo_unit : Font → ℕ → ℕ → ℕ → Unit
jamo_unit font l v t = if is_t t then jamo_three font l v t else jamo_two font l v

abbrev pub first_unit : Font → Bool → ℕ → ℕ → ℕ → Unit
first_unit font circles u v t =
    if is_tone u then lone_tone font circles u
    else if is_l u && is_v v then jamo_unit font u v t
    else if is_s u then syllable_unit font u v
    else Other

-- in the code: the same of a character that no jamo follows
abbrev pub lone_unit : Font → Bool → ℕ → Unit
lone_unit font circles u =
    if is_s u then (if has_nominal font u then Syllable
    else if has_jamo_of font u then jamo_parts u else Other)
    else if is_tone u then lone_tone font circles u
    else Other

-- how many characters a unit takes
abbrev pub taken : Unit → ℕ
taken (ComposedTwo s) = 2
taken (ComposedThree s) = 3
taken JamoTwo = 2
taken JamoThree = 3
taken (PartsBeforeT l v) = 2
taken _ = 1

-- how many glyphs it becomes
abbrev pub output_len : Unit → ℕ
output_len JamoTwo = 2
output_len JamoThree = 3
output_len (PartsTwo l v) = 2
output_len (PartsThree l v t) = 3
output_len (PartsBeforeT l v) = 3
output_len ToneCircle = 2
output_len CircleTone = 2
output_len _ = 1

-- whether it is a syllable
abbrev pub is_syllable : Unit → Bool
is_syllable ToneCircle = false
is_syllable CircleTone = false
is_syllable Other = false
is_syllable _ = true

-- whether its glyphs are marked as jamo
abbrev pub is_marked : Unit → Bool
is_marked JamoTwo = true
is_marked JamoThree = true
is_marked (PartsTwo l v) = true
is_marked (PartsThree l v t) = true
is_marked (PartsBeforeT l v) = true
is_marked _ = false

-- ITEMS. A unit, and the tone w directly after a syllable, which moves before it unless narrow
abbrev pub joined_tone : Font → Unit → ℕ → JoinedTone
joined_tone font unit w =
    if is_syllable unit && is_tone w then (if is_narrow font w then Behind else Before) else Absent

abbrev pub tone_len : JoinedTone → ℕ
tone_len Absent = 0
tone_len _ = 1

-- LV and the T behind it, where the font can't join them, and can't part LV if that T doesn't
-- combine
abbrev pub is_split : Font → ℕ → ℕ → Bool
is_split font s v = (is_lv s && is_t v)
    && (if combines_t v then not (has_nominal font (with_t s v)) else not (has_jamo_of font s))

-- how many characters from u on are unsafe to break inside: jamo L V and L V T, marked or in one;
-- marked jamo with a tone; LV and T that are split
abbrev pub unsafe_len : Font → Unit → JoinedTone → ℕ → ℕ → ℕ
unsafe_len font unit tone u v =
    if is_l u && is_v v then taken unit
    else if is_marked unit && tone_len tone == 1 then taken unit
    else if is_split font u v then 2
    else 0

-- the unit that begins a text, and the item
abbrev pub leading_unit : Font → Bool → List ℕ → Unit
leading_unit font circles us =
    first_unit font circles (get_or us 0 0) (get_or us 1 0) (get_or us 2 0)

abbrev pub first_item : Font → Bool → List ℕ → Item
first_item font circles us =
    let opening = leading_unit font circles us in
    let tone = joined_tone font opening (get_or us (taken opening) 0) in
    record {
      unit = opening;
      tone = tone;
      unsafe_len = unsafe_len font opening tone (get_or us 0 0) (get_or us 1 0);
    }

abbrev pub item_len : Item → ℕ
item_len item = taken item.unit + tone_len item.tone

-- whether it is one character that stays as it is
abbrev pub keeps : Unit → Bool
keeps Syllable = true
keeps Other = true
keeps _ = false

abbrev pub is_kept : Item → Bool
is_kept item = keeps item.unit && (tone_len item.tone == 0 && item.unsafe_len == 0)

-- the items of a text with their places; the first skip characters belong to the item before
abbrev pub items_from : (List ℕ → Item) → ℕ → ℕ → List ℕ → List (ℕ × Item)
items_from read place skip [] = []
items_from read place zero (u ∷ us) =
    (place, read (u ∷ us)) ∷ items_from read (place + 1) (item_len (read (u ∷ us)) - 1) us
items_from read place (suc skip) (u ∷ us) = items_from read (place + 1) skip us

abbrev pub items : Font → Bool → List ℕ → List (ℕ × Item)
items font circles us = items_from (first_item font circles) 0 0 us

-- in the code: the items from a place of a text on
abbrev pub items_at : Font → Bool → List ℕ → ℕ → List (ℕ × Item)
items_at font circles us place = items_from (first_item font circles) place 0 (drop place us)

-- in the code: items that stand within n characters, with what they flag
abbrev pub Fit : ℕ → List (ℕ × Item) → Type 0
Fit n cut = AllByRecursion (λ p. (p.0 + item_len p.1 ≤ n) × (p.0 + p.1.unsafe_len ≤ n)) cut

-- OUTPUT, of what can be copied as another character and as a jamo: leading 1, vowel 2, trailing 3.
pub record Copying (X : Type 0) : Type 0 where
  pub as_character : ℕ → X → X
  pub as_jamo : ℕ → X → X

-- the first marked as jamo of kind n, the next ones as those of the following kinds
abbrev pub marked_from : {X : Type 0} → Copying X → ℕ → List X → List X
marked_from c n [] = []
marked_from c n (x ∷ xs) = c.as_jamo n x ∷ marked_from c (n + 1) xs

-- copies of one, each as one of these characters
abbrev pub copies_as : {X : Type 0} → Copying X → List ℕ → X → List X
copies_as c us x = map (λ u. c.as_character u x) us

-- what a unit becomes, at the start of a text: new ones copy the first replaced one
abbrev pub unit_output : {X : Type 0} → Copying X → Unit → List X → List X
unit_output c (ComposedTwo s) xs = map (c.as_character s) (take 1 xs)
unit_output c (ComposedThree s) xs = map (c.as_character s) (take 1 xs)
unit_output c JamoTwo xs = marked_from c 1 (take 2 xs)
unit_output c JamoThree xs = marked_from c 1 (take 3 xs)
unit_output c (PartsTwo l v) xs = marked_from c 1 (flat_map (copies_as c (l ∷ v ∷ [])) (take 1 xs))
unit_output c (PartsThree l v t) xs =
    marked_from c 1 (flat_map (copies_as c (l ∷ v ∷ t ∷ [])) (take 1 xs))
unit_output c (PartsBeforeT l v) xs =
    marked_from c 1 (flat_map (copies_as c (l ∷ v ∷ [])) (take 1 xs) ++ take 1 (drop 1 xs))
unit_output c Syllable xs = take 1 xs
unit_output c ToneCircle xs = take 1 xs ++ map (c.as_character dotted_circle) (take 1 xs)
unit_output c CircleTone xs = map (c.as_character dotted_circle) (take 1 xs) ++ take 1 xs
unit_output c Other xs = take 1 xs

-- with its tone
abbrev pub with_tone : {X : Type 0} → JoinedTone → List X → List X → List X
with_tone Absent tone output = output
with_tone Before tone output = tone ++ output
with_tone Behind tone output = output ++ tone

abbrev pub item_output : {X : Type 0} → Copying X → Item → List X → List X
item_output c item xs =
    with_tone item.tone (take 1 (drop (taken item.unit) xs)) (unit_output c item.unit xs)

-- the outputs of these items of a text, joined
abbrev pub outputs : {X : Type 0} → Copying X → List (ℕ × Item) → List X → List X
outputs c cut xs = flat_map (λ p. item_output c p.1 (drop p.0 xs)) cut

-- MERGES. Whether all that a unit takes merges: at MonotoneCharacters only unmarked glyphs
abbrev pub is_merged : BufferClusterLevel → Unit → Bool
is_merged MonotoneGraphemes unit = true
is_merged MonotoneCharacters unit = not (is_marked unit)
is_merged Characters unit = false

abbrev pub unit_stretch : BufferClusterLevel → Unit → ℕ → List (ℕ × ℕ)
unit_stretch level unit s = if is_merged level unit then (s, s + taken unit) ∷ [] else []

-- a tone that moves merges with the whole syllable
abbrev pub tone_stretch : JoinedTone → ℕ → ℕ → List (ℕ × ℕ)
tone_stretch Before s e = (s, e + 1) ∷ []
tone_stretch _ s e = []

abbrev pub item_stretches : BufferClusterLevel → Item → ℕ → List (ℕ × ℕ)
item_stretches level item s =
    unit_stretch level item.unit s ++ tone_stretch item.tone s (s + taken item.unit)

abbrev pub stretches : BufferClusterLevel → List (ℕ × Item) → List (ℕ × ℕ)
stretches level cut = flat_map (λ p. item_stretches level p.1 p.0) cut

-- FLAGS. The stretch of an item that is unsafe to break; if it merges, none: flags would go again
abbrev pub unsafe_stretches : BufferClusterLevel → Item → ℕ → List (ℕ × ℕ)
unsafe_stretches level item s =
    if not (is_merged level item.unit)
    || nat_lt (taken item.unit) item.unsafe_len then (s, s + item.unsafe_len) ∷ []
    else []

-- the glyphs where they stand, joined by an item at place s: flags, then merges; so by all items
abbrev pub item_joined : BufferClusterLevel → ℕ → Item → Glyphs → Glyphs
item_joined level s item gs =
    merge_all level (item_stretches level item s) (unsafe_all (unsafe_stretches level item s) gs)

abbrev pub all_joined : BufferClusterLevel → List (ℕ × Item) → Glyphs →
    Glyphs
all_joined level [] gs = gs
all_joined level (p ∷ cut) gs = all_joined level cut (item_joined level p.0 p.1 gs)

-- what the choice flags besides, once all items are joined: with Sound no break inside an item, its
-- tone with it
abbrev pub whole_items : List (ℕ × Item) → List (ℕ × ℕ)
whole_items cut = map (λ p. (p.0, p.0 + item_len p.1)) cut

abbrev pub items_flagged : BreakFlags → List (ℕ × Item) → Glyphs →
    Glyphs
items_flagged AsCode cut gs = gs
items_flagged Sound cut gs = unsafe_all (whole_items cut) gs

-- THE RULE ON GLYPHS
abbrev pub glyph_copies : Copying Glyph
glyph_copies = record {
  as_character = λ u g. record g { glyph_id = u };
  as_jamo = λ feature g. record g { auxiliary = feature };
}

-- the same on characters alone
abbrev pub character_copies : Copying ℕ
character_copies = record { as_character = λ u v. u; as_jamo = λ feature u. u }

-- all items joined, on the old places, and flagged by the choice, and then their outputs
abbrev pub text_rewritten : BreakFlags → Font → Bool → BufferClusterLevel → Glyphs →
    Glyphs
text_rewritten breaks font circles level gs =
    let cut = items font circles (characters gs) in
    outputs glyph_copies cut (items_flagged breaks cut (all_joined level cut gs))

-- the same with the code's flags
abbrev pub preprocessed : Font → Bool → BufferClusterLevel → Glyphs →
    Glyphs
preprocessed font circles level gs =
    let cut = items font circles (characters gs) in
    outputs glyph_copies cut (all_joined level cut gs)

-- whether the caller lets circles be inserted
abbrev pub allows_circles : Buffer → Bool
allows_circles b = not (asks no_dotted_circle b)

-- the buffer with its text rewritten, by the choice and with the code's flags
abbrev pub rewritten_by : BreakFlags → Font → Buffer → Buffer
rewritten_by breaks font b =
    record b { glyphs = text_rewritten breaks font (allows_circles b) b.level b.glyphs }

abbrev pub rewritten : Font → Buffer → Buffer
rewritten font b = record b { glyphs = preprocessed font (allows_circles b) b.level b.glyphs }
