-- The walks of the code over the items: what is written, what is merged, what changes.
use Rattle.std.proofs.Common.{◌≡◌, ℕ, zero, suc, ◌+◌, ◌<◌, ◌≤◌, ◌||◌, ◌&&◌, ◌==◌, not, nat_lt, Bool, true, false, cond, List, [], ◌∷◌, ◌++◌, length, map, take, drop, refl, sym, ap, ◌∙◌, arith}
use Rattle.std.proofs.lemmas.Bool.{eqb-true}
use Rattle.std.proofs.lemmas.List.{length-append, length-map, drop-map}
use Rattle.shapers_buffer.specs.Glyphs.{Glyph, Glyphs}
use Rattle.shapers_buffer.specs.declared.buffer.level.BufferClusterLevel.{BufferClusterLevel}
use Rattle.shapers_buffer.specs.Clusters.{merge, merge_all}
use Rattle.shapers_buffer.specs.Glyph.{clusters, characters}
use Rattle.shapers_buffer.specs.GlyphFlags.{with_bits, unsafe_inside, unsafe_all}
use Rattle.shapers_clusters.specs.ClusterMerges.{joined_all}
use Rattle.shapers_clusters.proofs.FlagCalls.{map-unsafe_inside}
use Rattle.shapers_clusters.proofs.Flagging.{unsafe_few}
use Rattle.shapers_clusters.proofs.Moves.{clusters-merge_all}
use Rattle.shapers_base.specs.Font.{Font}
use Rattle.shapers_clusters.proofs.Merging.{map-merge_all, merge_all-append, merge_cases}
use Rattle.shapers_hangul.specs.declared.ot_shaper_hangul.item.Item.{Item}
use Rattle.shapers_hangul.specs.declared.ot_shaper_hangul.item.JoinedTone.{JoinedTone}
use Rattle.shapers_hangul.specs.declared.ot_shaper_hangul.item.JoinedTone.TheVariants.{Absent, Before, Behind}
use Rattle.shapers_hangul.specs.declared.ot_shaper_hangul.item.Unit.{Unit}
use Rattle.shapers_hangul.specs.declared.ot_shaper_hangul.item.Unit.TheVariants.{ComposedTwo, ComposedThree, JamoTwo, JamoThree, PartsTwo, PartsThree, PartsBeforeT, Syllable, ToneCircle, CircleTone, Other}
use Rattle.shapers_hangul.specs.Hangul.{taken, output_len, tone_len, item_len, keeps, is_kept, first_item, Copying, unit_output, with_tone, item_output, outputs, is_merged, item_stretches, stretches, unsafe_stretches, item_joined, all_joined, glyph_copies, items_at}
use Rattle.shapers_hangul.proofs.Items.{items_at_next, items_at_end}

pub characters-merge_all : (level : BufferClusterLevel) (sts : List (ℕ × ℕ)) (gs : Glyphs)
    → characters (merge_all level sts gs) ≡ characters gs
characters-merge_all level sts gs = map-merge_all (λ g. g.glyph_id) (λ g. refl) level sts gs

pub length-characters : (gs : Glyphs) → length (characters gs) ≡ length gs
length-characters gs = length-map gs (λ g. g.glyph_id)

-- one more item, read from what is left of the glyphs
pub glyphs_next : (font : Font) (circles : Bool) (gs : Glyphs) (us : List ℕ) (place : ℕ) (item : Item)
    → us ≡ characters gs → place < length gs → item ≡ first_item font circles (characters (drop place gs))
    → items_at font circles us place ≡ (place, item) ∷ items_at font circles us (place + item_len item)
glyphs_next font circles gs us place item same inside is =
    items_at_next font circles us place item (omega (arith, length-characters gs, ap length same)) (is
    ∙ ap (first_item font circles) (sym (drop-map (λ g. g.glyph_id) place gs) ∙ ap (drop place) (sym same)))

pub glyphs_end : (font : Font) (circles : Bool) (gs : Glyphs) (us : List ℕ) (place : ℕ)
    → us ≡ characters gs → length gs ≤ place → items_at font circles us place ≡ []
glyphs_end font circles gs us place same past =
    items_at_end font circles us place (omega (arith, length-characters gs, ap length same))

-- JOINING
pub map-unsafe : {Y : Type 0} (f : Glyph → Y) → ((g : Glyph) → f (with_bits 3 g) ≡ f g)
    → (level : BufferClusterLevel) (item : Item) (s : ℕ) (gs : Glyphs)
    → map f (unsafe_all (unsafe_stretches level item s) gs) ≡ map f gs
map-unsafe f keeps level item s gs =
    elim (not (is_merged level item.unit) || nat_lt (taken item.unit) item.unsafe_len) as (λ b. map f
    (unsafe_all (cond b ((s, s + item.unsafe_len) ∷ []) []) gs) ≡ map f gs) [
      | true ↦ map-unsafe_inside f keeps s (s + item.unsafe_len) gs (omega arith)
      | false ↦ refl
    ]

pub characters-item_joined : (level : BufferClusterLevel) (s : ℕ) (item : Item) (gs : Glyphs)
    → characters (item_joined level s item gs) ≡ characters gs
characters-item_joined level s item gs =
    characters-merge_all level (item_stretches level item s) (unsafe_all (unsafe_stretches level item s) gs)
    ∙ map-unsafe (λ g. g.glyph_id) (λ g. refl) level item s gs

pub characters-all_joined : (level : BufferClusterLevel) (cut : List (ℕ × Item)) (gs : Glyphs)
    → characters (all_joined level cut gs) ≡ characters gs
characters-all_joined level [] gs = refl
characters-all_joined level (p ∷ cut) gs = characters-all_joined level cut (item_joined level p.0 p.1 gs)
    ∙ characters-item_joined level p.0 p.1 gs

pub length-item_joined : (level : BufferClusterLevel) (s : ℕ) (item : Item) (gs : Glyphs)
    → length (item_joined level s item gs) ≡ length gs
length-item_joined level s item gs = sym (length-characters (item_joined level s item gs))
    ∙ ap length (characters-item_joined level s item gs) ∙ length-characters gs

pub length-all_joined : (level : BufferClusterLevel) (cut : List (ℕ × Item)) (gs : Glyphs)
    → length (all_joined level cut gs) ≡ length gs
length-all_joined level cut gs = sym (length-characters (all_joined level cut gs))
    ∙ ap length (characters-all_joined level cut gs) ∙ length-characters gs

-- flags change no cluster
pub clusters-all_joined : (level : BufferClusterLevel) (cut : List (ℕ × Item)) (gs : Glyphs)
    → clusters (all_joined level cut gs) ≡ clusters (merge_all level (stretches level cut) gs)
clusters-all_joined level [] gs = refl
clusters-all_joined level (p ∷ cut) gs =
    let sts = item_stretches level p.1 p.0 in
    let flags = unsafe_all (unsafe_stretches level p.1 p.0) gs in
    clusters-all_joined level cut (merge_all level sts flags)
    ∙ clusters-merge_all level (stretches level cut) (merge_all level sts flags)
    ∙ ap (joined_all level (stretches level cut)) (clusters-merge_all level sts flags
    ∙ ap (joined_all level sts) (map-unsafe (λ g. g.cluster) (λ g. refl) level p.1 p.0 gs)
    ∙ sym (clusters-merge_all level sts gs))
    ∙ sym (clusters-merge_all level (stretches level cut) (merge_all level sts gs))
    ∙ ap clusters (sym (merge_all-append level sts (stretches level cut) gs))

-- what a list of items answers past its end
abbrev pub default_item : ℕ × Item
default_item = (0, record { unit = ComposedTwo 0; tone = Absent; unsafe_len = 0 })

-- LENGTHS
length-unit_output : {X : Type 0} (c : Copying X) (unit : Unit) (xs : List X) → taken unit ≤ length xs
    → length (unit_output c unit xs) ≡ output_len unit
length-unit_output c (ComposedTwo s) (x ∷ xs) h = refl
length-unit_output c (ComposedThree s) (x ∷ xs) h = refl
length-unit_output c JamoTwo (x ∷ y ∷ xs) h = refl
length-unit_output c JamoThree (x ∷ y ∷ z ∷ xs) h = refl
length-unit_output c (PartsTwo l v) (x ∷ xs) h = refl
length-unit_output c (PartsThree l v t) (x ∷ xs) h = refl
length-unit_output c (PartsBeforeT l v) (x ∷ y ∷ xs) h = refl
length-unit_output c Syllable (x ∷ xs) h = refl
length-unit_output c ToneCircle (x ∷ xs) h = refl
length-unit_output c CircleTone (x ∷ xs) h = refl
length-unit_output c Other (x ∷ xs) h = refl
length-unit_output c _ _ h = absurd (omega arith)

first_after : {X : Type 0} (n : ℕ) (xs : List X) → n < length xs → length (take 1 (drop n xs)) ≡ 1
first_after n [] some = absurd (omega arith)
first_after zero (x ∷ xs) some = refl
first_after (suc n) (x ∷ xs) some = first_after n xs (omega arith)

length-with_tone : {X : Type 0} (c : Copying X) (unit : Unit) (tone : JoinedTone) (xs : List X)
    → taken unit + tone_len tone ≤ length xs
    → length (with_tone tone (take 1 (drop (taken unit) xs)) (unit_output c unit xs)) ≡ output_len unit + tone_len tone
length-with_tone c unit Absent xs h = omega (arith, length-unit_output c unit xs (omega arith))
length-with_tone c unit Before xs h = omega (
  arith,
  length-append (take 1 (drop (taken unit) xs)) (unit_output c unit xs),
  length-unit_output c unit xs (omega arith),
  first_after (taken unit) xs (omega arith),
)
length-with_tone c unit Behind xs h = omega (
  arith,
  length-append (unit_output c unit xs) (take 1 (drop (taken unit) xs)),
  length-unit_output c unit xs (omega arith),
  first_after (taken unit) xs (omega arith),
)

pub length-item_output : {X : Type 0} (c : Copying X) (item : Item) (xs : List X) → item_len item ≤ length xs
    → length (item_output c item xs) ≡ output_len item.unit + tone_len item.tone
length-item_output c item xs h = length-with_tone c item.unit item.tone xs h

pub length_next : (font : Font) (circles : Bool) (gs : Glyphs) (place : ℕ) (item : Item) → place < length gs
    → item ≡ first_item font circles (characters (drop place gs)) → item_len item ≤ length (drop place gs)
    → length (outputs glyph_copies (items_at font circles (characters gs) place) gs)
    ≡ (output_len item.unit + tone_len item.tone)
    + length (outputs glyph_copies (items_at font circles (characters gs) (place + item_len item)) gs)
length_next font circles gs place item inside is within =
    let rest = items_at font circles (characters gs) (place + item_len item) in
    ap (λ cut. length (outputs glyph_copies cut gs))
    (glyphs_next font circles gs (characters gs) place item refl inside is)
    ∙ length-append (item_output glyph_copies item (drop place gs)) (outputs glyph_copies rest gs)
    ∙ ap (λ n. n + length (outputs glyph_copies rest gs)) (length-item_output glyph_copies item (drop place gs) within)

-- WHAT STAYS
-- one place merges nothing
alone : (level : BufferClusterLevel) (s : ℕ) (gs : Glyphs) → merge level s (s + 1) gs ≡ gs
alone level s gs = merge_cases (λ (xs : Glyphs). xs ≡ gs) level s (s + 1) gs refl (λ two. absurd (omega arith))

-- an item that is kept is a syllable character or another one, without a tone or a flag
kept_cases : (P : Item → Type 0) → P (record { unit = Syllable; tone = Absent; unsafe_len = 0 })
    → P (record { unit = Other; tone = Absent; unsafe_len = 0 }) → (unit : Unit) (tone : JoinedTone) (n : ℕ)
    → keeps unit && (tone_len tone == 0 && n == 0) ≡ true → P (record { unit = unit; tone = tone; unsafe_len = n })
kept_cases P s o Syllable Absent zero k = s
kept_cases P s o Syllable Absent (suc n) k = absurd (omega (arith, eqb-true (suc n) 0 k))
kept_cases P s o Other Absent zero k = o
kept_cases P s o Other Absent (suc n) k = absurd (omega (arith, eqb-true (suc n) 0 k))
kept_cases P s o _ _ n k = absurd cc

one_unjoined : (level : BufferClusterLevel) (s : ℕ) (gs : Glyphs) (a b : Bool)
    → merge_all level (cond a ((s, s + 1) ∷ []) [] ++ []) (unsafe_all (cond b ((s, s + 0) ∷ []) []) gs) ≡ gs
one_unjoined level s gs true true = alone level s (unsafe_inside s (s + 0) gs)
    ∙ unsafe_few s (s + 0) gs (omega arith) (omega arith)
one_unjoined level s gs true false = alone level s gs
one_unjoined level s gs false true = unsafe_few s (s + 0) gs (omega arith) (omega arith)
one_unjoined level s gs false false = refl

-- what is kept takes one place, flags and merges nothing, and becomes itself
pub record Keeps (item : Item) : Type 0 where
  pub one : item_len item ≡ 1
  pub unjoined : (level : BufferClusterLevel) (s : ℕ) (gs : Glyphs) → item_joined level s item gs ≡ gs
  pub itself : (gs : Glyphs) → item_output glyph_copies item gs ≡ take 1 gs

pub kept_stays : (item : Item) → is_kept item ≡ true → Keeps item
kept_stays item kept =
    kept_cases Keeps
    (record {
      one = refl;
      unjoined = λ level s gs. one_unjoined level s gs (is_merged level Syllable)
          (not (is_merged level Syllable) || false);
      itself = λ gs. refl;
    })
    (record {
      one = refl;
      unjoined = λ level s gs. one_unjoined level s gs (is_merged level Other) (not (is_merged level Other) || false);
      itself = λ gs. refl;
    }) item.unit item.tone item.unsafe_len kept

-- the items from a character on that stays, and the length of what they become
pub staying_next : (font : Font) (circles : Bool) (gs : Glyphs) (place : ℕ) → place < length gs
    → is_kept (first_item font circles (characters (drop place gs))) ≡ true
    → items_at font circles (characters gs) place ≡ (place, first_item font circles (characters (drop place gs)))
    ∷ items_at font circles (characters gs) (place + 1)
staying_next font circles gs place inside stays =
    let item = first_item font circles (characters (drop place gs)) in
    glyphs_next font circles gs (characters gs) place item refl inside refl
    ∙ ap (λ n. (place, item) ∷ items_at font circles (characters gs) (place + n)) (kept_stays item stays).one

pub length_staying : (font : Font) (circles : Bool) (gs : Glyphs) (place : ℕ) → place < length gs
    → is_kept (first_item font circles (characters (drop place gs))) ≡ true
    → length (outputs glyph_copies (items_at font circles (characters gs) place) gs)
    ≡ 1 + length (outputs glyph_copies (items_at font circles (characters gs) (place + 1)) gs)
length_staying font circles gs place inside stays =
    let item = first_item font circles (characters (drop place gs)) in
    let rest = items_at font circles (characters gs) (place + 1) in
    ap (λ (cut : List (ℕ × Item)). length (outputs glyph_copies cut gs))
    (staying_next font circles gs place inside stays)
    ∙ length-append (item_output glyph_copies item (drop place gs)) (outputs glyph_copies rest gs)
    ∙ ap (λ n. n + length (outputs glyph_copies rest gs)) (ap length ((kept_stays item stays).itself (drop place gs))
    ∙ first_after place gs inside)
