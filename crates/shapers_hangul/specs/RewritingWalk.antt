-- Words of the code's walk over a Hangul text: only the items that change it are listed.
use Rattle.std.specs.Prelude.{ℕ, ◌+◌, ◌-◌, ◌≤◌, ◌==◌, ◌≡◌, length, Bool, ◌&&◌, ◌||◌, not, List, [], ◌∷◌, ◌++◌, take, drop, get_or, if◌then◌else◌}
use Rattle.shapers_buffer.specs.Glyphs.{Glyphs}
use Rattle.shapers_buffer.specs.declared.buffer.level.BufferClusterLevel.{BufferClusterLevel}
use Rattle.shapers_buffer.specs.Glyph.{characters, default_glyph}
use Rattle.shapers_hangul.specs.declared.ot_shaper_hangul.item.Item.{Item}
use Rattle.shapers_hangul.specs.declared.ot_shaper_hangul.rewriting.Cut.{Cut}
use Rattle.shapers_base.specs.Font.{Font, dotted_circle, has_nominal}
use Rattle.shapers_hangul.specs.Hangul.{glyph_copies, is_kept, is_s, is_t, is_tone, is_v, item_joined, item_len, item_output, items, items_at, outputs}

-- What a look at a character and the next one settles: that a syllable character stays which the
-- font has and nothing joins, a tone that gets no circle, and any other that nothing joins.
abbrev pub stays_at_sight : Font → Bool → List ℕ → Bool
stays_at_sight font circles us =
    let u = get_or us 0 0 in
    let v = get_or us 1 0 in
    let alone = not (is_v v || (is_t v || is_tone v)) in
    if is_s u then alone && has_nominal font u
    else if is_tone u then not circles || not (has_nominal font dotted_circle)
    else alone

-- the items that aren't one character that stays as it is
abbrev pub rewritten_items : List (ℕ × Item) → List (ℕ × Item)
rewritten_items [] = []
rewritten_items (p ∷ cut) = if is_kept p.1 then rewritten_items cut else p ∷ rewritten_items cut

-- up to this place every item is one character that stays as it is: the items from there on are all
-- that change the text, and give all of its length but that
pub record KeptBefore (font : Font) (circles : Bool) (gs : Glyphs) (place :
    ℕ) : Type 0 where
  pub within : place ≤ length gs
  pub listed : rewritten_items (items font circles (characters gs))
      ≡ rewritten_items (items_at font circles (characters gs) place)
  pub long : length (outputs glyph_copies (items font circles (characters gs)) gs)
      ≡ place + length (outputs glyph_copies (items_at font circles (characters gs) place) gs)

-- the items that are listed: the few, until they are more and all stand in the other list
abbrev pub changes_in : Cut → List (ℕ × Item)
changes_in cut = if length cut.many.items == 0 then cut.few.items else cut.many.items

-- items that stand one behind the other, from a place on, within n characters
abbrev pub Consecutive : ℕ → ℕ → List (ℕ × Item) → Type 0
Consecutive n place [] = place ≤ n
Consecutive n place (p ∷ cut) = (place ≤ p.0) × Consecutive n (p.0 + item_len p.1) cut

-- the text from a place on up to an item, and what the item becomes
abbrev pub change_output : ℕ → ℕ × Item → Glyphs → Glyphs
change_output place p gs =
    take (p.0 - place) (drop place gs) ++ item_output glyph_copies p.1 (drop p.0 gs)

-- the text from a place on, in which these items become what they become, and the rest stays
abbrev pub changed_from : ℕ → List (ℕ × Item) → Glyphs → Glyphs
changed_from place [] gs = drop place gs
changed_from place (p ∷ cut) gs =
    change_output place p gs ++ changed_from (p.0 + item_len p.1) cut gs

-- the cluster of the glyph before a place, or 0 where there is none
abbrev pub cluster_before : ℕ → Glyphs → ℕ
cluster_before place gs = if place == 0 then 0 else (get_or gs (place - 1) default_glyph).cluster

-- how many items there are up to the first that floods what stands before it (the glyph there comes
-- into another cluster), or all
abbrev pub flooding_len : BufferClusterLevel → List (ℕ × Item) → Glyphs → ℕ
flooding_len level [] gs = 0
flooding_len level (p ∷ cut) gs =
    let joined = item_joined level p.0 p.1 gs in
    let stays = cluster_before p.0 joined == cluster_before p.0 gs in
    if stays then 1 + flooding_len level cut joined else 1
