-- Outputs through maps, and their lengths.
use Rattle.std.proofs.Common.{arith}
use Rattle.std.proofs.Common.{◌≡◌, ℕ, ◌+◌, Bool, List, [], ◌∷◌, length, map, refl}
use Rattle.std.specs.Prelude.{Result}
use Rattle.shapers_buffer.specs.Glyph.{characters}
use Rattle.shapers_buffer.specs.Refusals.{RefusesLength}
use Rattle.shapers_buffer.specs.declared.buffer.refusal.ShaperError.{ShaperError}
use Rattle.std.proofs.lemmas.List.{map-append, drop-map}
use Rattle.shapers_buffer.specs.Glyphs.{Glyphs}
use Rattle.shapers_buffer.specs.declared.buffer.level.BufferClusterLevel.{BufferClusterLevel}
use Rattle.shapers_base.specs.Font.{Font}
use Rattle.shapers_hangul.specs.declared.ot_shaper_hangul.item.Item.{Item}
use Rattle.shapers_hangul.specs.declared.ot_shaper_hangul.item.JoinedTone.{JoinedTone}
use Rattle.shapers_hangul.specs.declared.ot_shaper_hangul.item.JoinedTone.TheVariants.{Absent, Before, Behind}
use Rattle.shapers_hangul.specs.declared.ot_shaper_hangul.item.Unit.{Unit}
use Rattle.shapers_hangul.specs.declared.ot_shaper_hangul.item.Unit.TheVariants.{ComposedTwo, ComposedThree, JamoTwo, JamoThree, PartsTwo, PartsThree, PartsBeforeT, Syllable, ToneCircle, CircleTone, Other}
use Rattle.shapers_hangul.specs.Hangul.{items, Copying, marked_from, unit_output, with_tone, item_output, outputs, all_joined, glyph_copies, character_copies, items_at, preprocessed}
use Rattle.shapers_hangul.specs.RewritingWalk.{KeptBefore}
use Rattle.shapers_hangul.proofs.Walks.{characters-all_joined, length-characters}

-- f leads what the one copying makes to what the other makes
pub record Leads {X Y : Type 0} (f : X → Y) (c : Copying X) (d : Copying Y) : Type 0 where
  pub character : (u : ℕ) (x : X) → f (c.as_character u x) ≡ d.as_character u (f x)
  pub jamo : (n : ℕ) (x : X) → f (c.as_jamo n x) ≡ d.as_jamo n (f x)

marked-map : {X Y : Type 0} (f : X → Y) (c : Copying X) (d : Copying Y) → Leads f c d → (n : ℕ) (xs : List X)
    → map f (marked_from c n xs) ≡ marked_from d n (map f xs)
marked-map f c d leads n [] = refl
marked-map f c d leads n (x ∷ xs) = cc (leads.jamo n x, marked-map f c d leads (n + 1) xs)

two-map : {X Y : Type 0} (f : X → Y) (c : Copying X) (d : Copying Y) → Leads f c d → (l v : ℕ) (x : X) (ys : List Y)
    → f (c.as_character l x) ∷ f (c.as_character v x) ∷ ys ≡ d.as_character l (f x) ∷ d.as_character v (f x) ∷ ys
two-map f c d leads = search arith

unit_output-map : {X Y : Type 0} (f : X → Y) (c : Copying X) (d : Copying Y) → Leads f c d → (unit : Unit) (xs : List X)
    → map f (unit_output c unit xs) ≡ unit_output d unit (map f xs)
unit_output-map f c d leads (ComposedTwo s) [] = refl
unit_output-map f c d leads (ComposedTwo s) (x ∷ xs) = cc (leads.character s x)
unit_output-map f c d leads (ComposedThree s) (x ∷ xs) = cc (leads.character s x)
unit_output-map f c d leads JamoTwo xs = search arith
unit_output-map f c d leads JamoThree xs = search arith
unit_output-map f c d leads (PartsTwo l v) (x ∷ xs) = search arith
unit_output-map f c d leads (PartsThree l v t) (x ∷ xs) = search arith
unit_output-map f c d leads (PartsBeforeT l v) (x ∷ []) = search arith
unit_output-map f c d leads (PartsBeforeT l v) (x ∷ y ∷ xs) = search arith
unit_output-map f c d leads Syllable (x ∷ xs) = refl
unit_output-map f c d leads ToneCircle (x ∷ xs) = cc (leads.character 0x25CC x)
unit_output-map f c d leads CircleTone (x ∷ xs) = cc (leads.character 0x25CC x)
unit_output-map f c d leads Other (x ∷ xs) = refl
unit_output-map f c d leads _ [] = refl

with_tone-map : {X Y : Type 0} (f : X → Y) (tone : JoinedTone) (ts output : List X) → map f (with_tone tone ts output)
    ≡ with_tone tone (map f ts) (map f output)
with_tone-map f Absent ts output = refl
with_tone-map f Before ts output = map-append f ts output
with_tone-map f Behind ts output = map-append f output ts

item_output-map : {X Y : Type 0} (f : X → Y) (c : Copying X) (d : Copying Y) → Leads f c d → (item : Item) (xs : List X)
    → map f (item_output c item xs) ≡ item_output d item (map f xs)
item_output-map = search (arith, with_tone-map, drop-map, unit_output-map)

pub outputs-map : {X Y : Type 0} (f : X → Y) (c : Copying X) (d : Copying Y) → Leads f c d
    → (cut : List (ℕ × Item)) (xs : List X) → map f (outputs c cut xs) ≡ outputs d cut (map f xs)
outputs-map f c d leads [] xs = refl
outputs-map f c d leads (p ∷ cut) xs =
    search (arith, map-append, item_output-map, drop-map, outputs-map f c d leads cut xs)

-- the characters of what is made of glyphs are made of theirs
pub characters-outputs : (cut : List (ℕ × Item)) (gs : Glyphs)
    → characters (outputs glyph_copies cut gs) ≡ outputs character_copies cut (characters gs)
characters-outputs = search outputs-map

-- flags and merges change no length
pub length-preprocessed : (font : Font) (circles : Bool) (level : BufferClusterLevel) (gs : Glyphs)
    → length (preprocessed font circles level gs)
    ≡ length (outputs glyph_copies (items font circles (characters gs)) gs)
length-preprocessed font circles level gs =
    let cut = items font circles (characters gs) in
    let ms = all_joined level cut gs in
    let leads : Leads (λ g. g.glyph_id) glyph_copies character_copies = record {
      character = λ u g. refl;
      jamo = λ n g. refl;
    } in
    cc (
      length-characters (outputs glyph_copies cut ms),
      outputs-map (λ g. g.glyph_id) glyph_copies character_copies leads cut ms,
      characters-all_joined level cut gs,
      outputs-map (λ g. g.glyph_id) glyph_copies character_copies leads cut gs,
      length-characters (outputs glyph_copies cut gs),
    )

-- the result and its length, by what was read of the buffer
pub length_read : (font : Font) (circles : Bool) (level : BufferClusterLevel) (gs : Glyphs) (asked : Bool)
    (read : Glyphs) (place : ℕ) → asked ≡ circles → read ≡ gs → KeptBefore font asked read place
    → length (preprocessed font circles level gs)
    ≡ place + length (outputs glyph_copies (items_at font asked (characters read) place) read)
length_read = search (arith, length-preprocessed)

-- a refusal by the length of the result
pub told_by_text : {T : Type 0} (limit most wanted len : ℕ) (r : Result T ShaperError) → most ≡ limit → wanted ≡ len
    → RefusesLength most len r → RefusesLength limit wanted r
told_by_text = search arith
