-- A syllable opened by the glyph before it, case by case.
use Rattle.std.proofs.Common.{◌≡◌, ℕ, suc, ◌+◌, ◌-◌, ◌<◌, Bool, true, false, cond, not, ◌&&◌, List, [], ◌∷◌, ◌++◌, length, map, take, drop, Option, None, Some, get_or, refl, sym, ◌∙◌, arith, drop-cons, take-suc, take-append-drop}
use Rattle.shapers_buffer.specs.Glyphs.{Glyph, Glyphs}
use Rattle.shapers_buffer.specs.Clusters.{with_stretch}
use Rattle.shapers_buffer.specs.GlyphFlags.{unsafe_inside, with_bits}
use Rattle.shapers_buffer.specs.Properties.{general_category}
use Rattle.shapers_indic_final.specs.FinalMatras.{is_left}
use Rattle.shapers_indic_final.specs.FinalWordStart.{before_place, bound_at, continues_word, word_goes_on, last_or, opened}

last_or-push : {X : Type 0} (o : Option X) (xs : List X) (x : X) → last_or o (xs ++ x ∷ []) ≡ Some x
last_or-push o [] x = refl
last_or-push o (y ∷ ys) x = last_or-push (Some y) ys x

pub before_there : (i s : ℕ) (d : Glyph) (gs : Glyphs) → s ≡ suc i → i < length gs
    → word_goes_on (before_place s gs) ≡ continues_word (general_category (get_or gs i d).unicode_props)
before_there i s d gs e l = cc (take-suc gs i d l, last_or-push None (take i gs) (get_or gs i d))

-- by whether the first glyph is a left matra, and a word goes on
opened_as : ℕ → ℕ → Glyphs → Glyph → Glyphs → Bool → Bool → Glyphs
opened_as bits s gs g rest left word =
    bound_at s (left && word) (take s gs ++ cond (left && not word) (with_bits bits g ∷ rest) (g ∷ rest))

opened_is : (bits s : ℕ) (d : Glyph) (gs : Glyphs) (left word : Bool) → s < length gs
    → is_left (get_or gs s d) ≡ left → word_goes_on (before_place s gs) ≡ word
    → opened bits s gs ≡ opened_as bits s gs (get_or gs s d) (drop (suc s) gs) left word
unfolding opened_as
opened_is bits s d gs left word l a b = cc (drop-cons gs s d l)

whole_at : (s : ℕ) (d : Glyph) (gs : Glyphs) → s < length gs → take s gs ++ get_or gs s d ∷ drop (suc s) gs ≡ gs
whole_at = search (arith, drop-cons, take-append-drop)

pub opened_other : (bits s : ℕ) (d : Glyph) (gs : Glyphs) → s < length gs
    → is_left (get_or gs s d) ≡ false → gs ≡ opened bits s gs
unfolding opened_as
opened_other bits s d gs l a =
    sym (opened_is bits s d gs false (word_goes_on (before_place s gs)) l a refl ∙ whole_at s d gs l)

pub opened_bound : (bits s : ℕ) (d : Glyph) (gs : Glyphs) → s < length gs → is_left (get_or gs s d) ≡ true
    → word_goes_on (before_place s gs) ≡ true → unsafe_inside (s - 1) (s + 1) gs ≡ opened bits s gs
unfolding opened_as
opened_bound bits s d gs l a b = cc (opened_is bits s d gs true true l a b, whole_at s d gs l)

pub opened_init : (bits s : ℕ) (d : Glyph) (gs : Glyphs) → s < length gs → is_left (get_or gs s d) ≡ true
    → word_goes_on (before_place s gs) ≡ false → with_stretch s (s + 1) (map (with_bits bits)) gs ≡ opened bits s gs
unfolding opened_as
opened_init bits s d gs l a b = let next : s + 1 ≡ suc s = omega arith in search (arith, drop-cons)
