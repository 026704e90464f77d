-- How long a Hangul text gets: at most three times as long as it was.
use Rattle.std.proofs.Common.{ℕ, zero, suc, ◌+◌, ◌*◌, ◌-◌, ◌≤◌, ◌≡◌, List, [], ◌∷◌, length, drop, Bool, ◌&&◌, get_or, arith}
use Rattle.std.proofs.lemmas.List.{length-append, length-drop}
use Rattle.shapers_buffer.specs.Glyphs.{Glyphs}
use Rattle.shapers_buffer.specs.declared.buffer.level.BufferClusterLevel.{BufferClusterLevel}
use Rattle.shapers_base.specs.Font.{Font, has_nominal}
use Rattle.shapers_hangul.specs.Hangul.{Copying, combines_t, first_item, first_unit, is_l, is_lv, is_s, is_tone, is_v, item_len, item_output, items_from, output_len, outputs, preprocessed, taken, with_t}
use Rattle.shapers_hangul.proofs.Items.{either, first_item-within, taken_some}
use Rattle.shapers_hangul.proofs.Outputs.{length-preprocessed}
use Rattle.shapers_hangul.proofs.Walks.{length-characters, length-item_output}

-- a unit becomes at most three glyphs for each character that it takes
thrice : (font : Font) (circles : Bool) (u v t : ℕ) → output_len (first_unit font circles u v t)
    ≤ 3 * taken (first_unit font circles u v t)
thrice font circles u v t =
    either (λ x. output_len x ≤ 3 * taken x) (is_tone u) _ _ (λ _. search (arith, either))
    (λ _. either (λ x. output_len x ≤ 3 * taken x) (is_l u && is_v v) _ _ (λ _. search (arith, either))
    (λ _. either (λ x. output_len x ≤ 3 * taken x) (is_s u) _ _
    (λ _. either (λ x. output_len x ≤ 3 * taken x) ((is_lv u && combines_t v) && has_nominal font (with_t u v)) _ _
    (λ _. omega arith) (λ _. search (arith, either))) (λ _. omega arith)))

-- the outputs of the items of a text's end
from_place : {X : Type 0} (c : Copying X) (font : Font) (circles : Bool) (xs : List X) (place skip : ℕ) (us : List ℕ)
    → place + length us ≡ length xs → skip ≤ length us
    → length (outputs c (items_from (first_item font circles) place skip us) xs) + 3 * skip ≤ 3 * length us
from_place c font circles xs place zero [] all within = omega arith
from_place c font circles xs place (suc skip) [] all within = absurd (omega arith)
from_place c font circles xs place zero (u ∷ us) all within =
    let item = first_item font circles (u ∷ us) in
    let fits = first_item-within font circles (u ∷ us) (omega arith) in
    search (
      arith,
      length-item_output c item (drop place xs) (omega (arith, fits, length-drop place xs, all)),
      thrice font circles u (get_or us 0 0) (get_or us 1 0),
      length-append (item_output c item (drop place xs))
          (outputs c (items_from (first_item font circles) (place + 1) (item_len item - 1) us) xs),
      from_place c font circles xs (place + 1) (item_len item - 1) us (omega (arith, all))
          (omega (arith, fits, taken_some item.unit)),
      taken_some item.unit,
    )
from_place c font circles xs place (suc skip) (u ∷ us) all within =
    search (arith, from_place c font circles xs (place + 1) skip us (omega (arith, all)) (omega (arith, within)))

pub hangul_long : (font : Font) (circles : Bool) (level : BufferClusterLevel) (gs : Glyphs)
    → length (preprocessed font circles level gs) ≤ 3 * length gs
hangul_long = search (arith, from_place, length-characters, length-preprocessed)
