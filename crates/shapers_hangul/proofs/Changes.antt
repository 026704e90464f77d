-- The items that change the text, and what stands between them.
use Rattle.shapers_clusters.proofs.Flagging.{unsafe_few}
use Rattle.std.proofs.Common.{◌≡◌, ℕ, zero, suc, ◌+◌, ◌-◌, ◌<◌, ◌≤◌, Bool, true, false, cond, List, [], ◌∷◌, ◌++◌, length, take, drop, refl, sym, ap, subst, ◌∙◌, arith}
use Rattle.std.specs.Prelude.{slice_index_or}
use Rattle.shapers_buffer.specs.Glyph.{characters}
use Rattle.shapers_buffer.specs.Buffer.{Buffer}
use Rattle.std.proofs.lemmas.List.{append_assoc, drop_all, drop-drop, length-append, length-drop, take-append-drop}
use Rattle.std.proofs.Math.Seq.{take-add}
use Rattle.shapers_buffer.specs.Glyphs.{Glyphs}
use Rattle.shapers_buffer.specs.declared.buffer.level.BufferClusterLevel.{BufferClusterLevel}
use Rattle.shapers_buffer.specs.GlyphFlags.{unsafe_all, unsafe_inside}
use Rattle.shapers_base.specs.Font.{Font}
use Rattle.shapers_base.specs.declared.plan.breaks.BreakFlags.{BreakFlags}
use Rattle.shapers_base.specs.declared.plan.breaks.BreakFlags.TheVariants.{AsCode, Sound}
use Rattle.shapers_hangul.specs.declared.ot_shaper_hangul.item.Item.{Item}
use Rattle.shapers_hangul.specs.Hangul.{item_len, is_kept, first_item, items_from, items_at, Fit, item_output, outputs, item_joined, all_joined, glyph_copies, allows_circles, items, items_flagged, rewritten, rewritten_by, whole_items}
use Rattle.shapers_hangul.specs.RewritingWalk.{KeptBefore, rewritten_items, Consecutive, change_output, changed_from}
use Rattle.shapers_hangul.proofs.ItemFlags.{characters-items_flagged, length-items_flagged}
use Rattle.shapers_hangul.proofs.Items.{taken_some, first_item-within}
use Rattle.shapers_hangul.proofs.Outputs.{characters-outputs}
use Rattle.shapers_hangul.proofs.Walks.{kept_stays, staying_next, length_staying, glyphs_next, length-characters, length-all_joined}

-- a choice by whether an item is kept
pub by_kept : (P : List (ℕ × Item) → Type 0) (item : Item) (a b : List (ℕ × Item)) → (is_kept item ≡ true → P a)
    → (is_kept item ≡ false → P b) → P (cond (is_kept item) a b)
by_kept P item a b stays goes = elim (is_kept item) as (λ k. is_kept item ≡ k → P (cond k a b))
    [ true ↦ stays | false ↦ goes ] refl

-- RECORDING
pub changes_next : (p : ℕ × Item) (cut : List (ℕ × Item)) → rewritten_items (p ∷ cut) ≡ rewritten_items (p ∷ [])
    ++ rewritten_items cut
changes_next = search arith

pub recording_next : (font : Font) (circles : Bool) (gs : Glyphs) (list longer start : List (ℕ × Item))
    (place : ℕ) (item : Item) → place < length gs → item ≡ first_item font circles (characters (drop place gs))
    → list ++ rewritten_items (items_at font circles (characters gs) place) ≡ start
    → longer ≡ list ++ rewritten_items ((place, item) ∷ [])
    → longer ++ rewritten_items (items_at font circles (characters gs) (place + item_len item)) ≡ start
recording_next = search (arith, append_assoc, changes_next, glyphs_next)

pub recording_staying : (font : Font) (circles : Bool) (gs : Glyphs) (list start : List (ℕ × Item))
    (place : ℕ) → place < length gs → is_kept (first_item font circles (characters (drop place gs))) ≡ true
    → list ++ rewritten_items (items_at font circles (characters gs) place) ≡ start
    → list ++ rewritten_items (items_at font circles (characters gs) (place + 1)) ≡ start
recording_staying = search (arith, staying_next)

-- one more character that stays
pub kept_next : (font : Font) (circles : Bool) (gs : Glyphs) (place : ℕ) → place < length gs
    → is_kept (first_item font circles (characters (drop place gs))) ≡ true → KeptBefore font circles gs place
    → KeptBefore font circles gs (place + 1)
kept_next font circles gs place inside stays so_far = search (arith, recording_staying font circles gs [] _ place inside stays (sym so_far.listed), length_staying font circles gs place inside stays)

-- where no item changes the text, the next one stays, and so do the others
pub none_next : (p : ℕ × Item) (cut : List (ℕ × Item)) → rewritten_items (p ∷ cut) ≡ []
    → (is_kept p.1 ≡ true) × (rewritten_items cut ≡ [])
none_next p cut none = search arith

-- what is kept joins nothing
pub joined_changes : (level : BufferClusterLevel) (cut : List (ℕ × Item)) (gs : Glyphs)
    → all_joined level (rewritten_items cut) gs ≡ all_joined level cut gs
joined_changes level [] gs = refl
joined_changes level (p ∷ cut) gs =
    by_kept (λ l. all_joined level l gs ≡ all_joined level cut (item_joined level p.0 p.1 gs)) p.1 (rewritten_items cut)
    (p ∷ rewritten_items cut) (λ stays. joined_changes level cut gs
    ∙ ap (all_joined level cut) (sym ((kept_stays p.1 stays).unjoined level p.0 gs)))
    (λ _. joined_changes level cut (item_joined level p.0 p.1 gs))

-- what is kept is flagged by no rewriting
pub flagged_changes : (cut : List (ℕ × Item)) (gs : Glyphs)
    → unsafe_all (whole_items (rewritten_items cut)) gs ≡ unsafe_all (whole_items cut) gs
flagged_changes [] gs = refl
flagged_changes (p ∷ cut) gs = search (arith, unsafe_few, flagged_changes cut (unsafe_inside p.0 (p.0 + item_len p.1) gs))

-- what fits, and stands in turn
pub changes_fit : (n : ℕ) (cut : List (ℕ × Item)) → Fit n cut → Fit n (rewritten_items cut)
changes_fit n [] fit = fit
changes_fit n (p ∷ cut) fit = search (arith, changes_fit n cut fit.1)

sooner : (n a b : ℕ) (cut : List (ℕ × Item)) → a ≤ b → Consecutive n b cut → Consecutive n a cut
sooner n a b [] less turn = omega arith
sooner n a b (p ∷ cut) less turn = search arith

turn_from : (font : Font) (circles : Bool) (place skip : ℕ) (us : List ℕ) → skip ≤ length us
    → Consecutive (place + length us) (place + skip) (rewritten_items (items_from (first_item font circles) place skip us))
turn_from font circles place skip [] inside = omega arith
turn_from font circles place zero (u ∷ us) inside =
    let item = first_item font circles (u ∷ us) in
    let n = place + length (u ∷ us) in
    let rest = rewritten_items (items_from (first_item font circles) (place + 1) (item_len item - 1) us) in
    let some : 1 ≤ item_len item = omega (arith, taken_some item.unit) in
    let within : item_len item ≤ length (u ∷ us) = search (arith, first_item-within) in
    let next =
    subst (λ m. Consecutive n m rest) (omega arith)
    (subst (λ m. Consecutive m (place + 1 + (item_len item - 1)) rest) (omega arith)
    (turn_from font circles (place + 1) (item_len item - 1) us (omega arith))) in
    by_kept (Consecutive n (place + 0)) item rest ((place, item) ∷ rest)
    (λ _. sooner n (place + 0) (place + item_len item) rest (omega arith) next) (λ _. (omega arith, next))
turn_from font circles place (suc skip) (u ∷ us) inside =
    search (arith, turn_from font circles (place + 1) skip us (omega arith))

-- WRITING
-- a glyph before the next item stays
one_stays : (n place : ℕ) (cut : List (ℕ × Item)) (gs : Glyphs) → Consecutive n (place + 1) cut
    → changed_from place cut gs ≡ take 1 (drop place gs) ++ changed_from (place + 1) cut gs
one_stays n place [] gs turn = cc (take-append-drop 1 (drop place gs), drop-drop 1 place gs)
one_stays n place (p ∷ cut) gs turn =
    let m = p.0 - (place + 1) in
    let first = take 1 (drop place gs) in
    let output = item_output glyph_copies p.1 (drop p.0 gs) in
    let between = take m (drop (place + 1) gs) in
    search (arith, take-add 1 m (drop place gs), drop-drop 1 place gs)

changed_all : (font : Font) (circles : Bool) (place skip : ℕ) (us : List ℕ) (gs : Glyphs)
    → skip ≤ length us → length gs ≡ place + length us
    → changed_from (place + skip) (rewritten_items (items_from (first_item font circles) place skip us)) gs
    ≡ outputs glyph_copies (items_from (first_item font circles) place skip us) gs
changed_all font circles place skip [] gs inside long = search (arith, drop_all)
changed_all font circles place zero (u ∷ us) gs inside long =
    let item = first_item font circles (u ∷ us) in
    let cut = items_from (first_item font circles) (place + 1) (item_len item - 1) us in
    let some : 1 ≤ item_len item = omega (arith, taken_some item.unit) in
    let within : item_len item ≤ length (u ∷ us) = search (arith, first_item-within) in
    let on : place + 1 + (item_len item - 1) ≡ place + item_len item = omega arith in
    let output = item_output glyph_copies item (drop place gs) in
    let rest = ap (λ m. changed_from m (rewritten_items cut) gs) (sym on)
    ∙ changed_all font circles (place + 1) (item_len item - 1) us gs (omega arith) (omega arith) in
    search (
      arith,
      by_kept (λ l. changed_from place l gs ≡ output ++ outputs glyph_copies cut gs) item (rewritten_items cut)
          ((place, item) ∷ rewritten_items cut)
          (λ stays. let keeps = kept_stays item stays in let one = ap (λ m. place + m) keeps.one in one_stays (place
          + 1 + length us) place (rewritten_items cut) gs (subst (λ m. Consecutive (place + 1 + length us) m
          (rewritten_items cut)) (on ∙ one) (turn_from font circles (place + 1) (item_len item - 1) us (omega
          arith))) ∙ ap (λ l. l ++ changed_from (place + 1) (rewritten_items cut) gs) (sym (keeps.itself (drop place
          gs))) ∙ ap (λ m. output ++ changed_from m (rewritten_items cut) gs) (sym one) ∙ ap (λ l. output ++ l) rest)
          (λ _. let none : place - place ≡ 0 = omega arith in ap (λ m. (take m (drop place gs) ++ output) ++
          changed_from (place + item_len item) (rewritten_items cut) gs) none ∙ ap (λ l. output ++ l) rest),
    )
changed_all font circles place (suc skip) (u ∷ us) gs inside long =
    search (arith, changed_all font circles (place + 1) skip us gs (omega arith) (omega arith))

pub items_at_turn : (font : Font) (circles : Bool) (gs : Glyphs) (place : ℕ) → place ≤ length gs
    → Consecutive (length gs) place (rewritten_items (items_at font circles (characters gs) place))
items_at_turn font circles gs place within =
    let us = characters gs in
    search (
      arith,
      length-drop place us,
      length-characters gs,
      turn_from font circles place 0 (drop place us) (omega arith),
    )

-- each item ends within the text
turn_within : (n place : ℕ) (cut : List (ℕ × Item)) → Consecutive n place cut → place ≤ n
turn_within n place [] turn = turn
turn_within n place (p ∷ cut) turn = search (arith, turn_within n (p.0 + item_len p.1) cut turn.1)

pub turn-at : (n place : ℕ) (cut : List (ℕ × Item)) (k : ℕ) (p : ℕ × Item) → k < length cut → Consecutive n place cut
    → (slice_index_or cut k p).0 + item_len (slice_index_or cut k p).1 ≤ n
turn-at n place [] k p inside turn = absurd (omega arith)
turn-at n place (q ∷ cut) zero p inside turn = search (arith, turn_within)
turn-at n place (q ∷ cut) (suc k) p inside turn = turn-at n (q.0 + item_len q.1) cut k p (omega arith) turn.1

-- ROOM
-- what the next item becomes is no longer than what all that are left become
pub next_output : (place : ℕ) (cut : List (ℕ × Item)) (gs : Glyphs) (k : ℕ) (p : ℕ × Item) → k < length cut
    → length (change_output place (slice_index_or cut k p) gs) ≤ length (changed_from place (drop k cut) gs)
next_output place [] gs k p inside = absurd (omega arith)
next_output place (q ∷ cut) gs zero p inside = search (arith, length-append)
next_output place (q ∷ cut) gs (suc k) p inside = next_output place cut gs k p (omega arith)

-- what is left to write has room
pub room_left : (list rest start whole : Glyphs) (room wide : ℕ) → list ++ rest ≡ start ++ whole
    → length start + length whole ≤ room → room ≤ wide → length list + length rest ≤ wide
room_left list rest start whole room wide same fits more =
    omega (arith, ap length same, length-append list rest, length-append start whole)

-- THE WHOLE
-- the flags of the items that the code listed are those of all
flagged_listed : (breaks : BreakFlags) (cut : List (ℕ × Item)) (gs : Glyphs)
    → items_flagged breaks (rewritten_items cut) gs ≡ items_flagged breaks cut gs
flagged_listed AsCode cut gs = refl
flagged_listed Sound cut gs = flagged_changes cut gs

-- what the code asks of the items that it listed, and what it makes of a buffer by them
pub buffer_changed : (breaks : BreakFlags) (font : Font) (b : Buffer) (circles : Bool) (level : BufferClusterLevel)
    (read : Glyphs) (cut : List (ℕ × Item)) → circles ≡ allows_circles b → level ≡ b.level
    → read ≡ b.glyphs → cut ≡ rewritten_items (items font circles (characters read))
    → changed_from 0 cut (items_flagged breaks cut (all_joined level cut b.glyphs))
    ≡ (rewritten_by breaks font b).glyphs
buffer_changed = search (
  arith,
  flagged_listed,
  joined_changes,
  changed_all,
  length-items_flagged,
  length-all_joined,
  length-characters,
)

-- flags change no length
pub length-flagged : (breaks : BreakFlags) (font : Font) (b : Buffer)
    → length (rewritten_by breaks font b).glyphs ≡ length (rewritten font b).glyphs
length-flagged breaks font b =
    let cut = items font (allows_circles b) (characters b.glyphs) in
    let joined = all_joined b.level cut b.glyphs in
    let flagged = items_flagged breaks cut joined in
    cc (
      length-characters (outputs glyph_copies cut flagged),
      characters-outputs cut flagged,
      characters-items_flagged breaks cut joined,
      characters-outputs cut joined,
      length-characters (outputs glyph_copies cut joined),
    )
