-- The walk that gives positions, step by step.
use Rattle.std.proofs.Common.{◌≡◌, ℕ, suc, ◌+◌, ◌<◌, ◌==◌, Bool, true, false, not, cond, if◌then◌else◌, [], ◌∷◌, ◌++◌, length, take, drop, map, get_or, set, refl, sym, ap, ◌∙◌, arith, append_assoc}
use Rattle.std.specs.List.{prefix_len}
use Rattle.std.proofs.lemmas.List.{drop_more, drop-set-lt, take_more_set}
use Rattle.shapers_base.specs.declared.plan.ot_category_t.TheConstants.{OT_VBlw}
use Rattle.shapers_buffer.specs.Glyphs.{Glyph, Glyphs}
use Rattle.shapers_buffer.specs.Glyph.{at_position}
use Rattle.shapers_myanmar.specs.Myanmar.{below_parts, carries_on_below, parts_positioned, main_len, main_syllable, own_position, with_own_positions}
use Rattle.shapers_myanmar.specs.MyanmarWalk.{behind_part, in_part, position_behind_base}

-- the parts, one after another
last_part : (gs : Glyphs) → behind_part 9 gs ≡ map (at_position 9) gs
last_part [] = refl
last_part (g ∷ gs) = cc (last_part gs)

below_part : (gs : Glyphs) → behind_part 8 gs ≡ below_parts gs
below_part [] = refl
below_part (g ∷ gs) =
    let m = prefix_len carries_on_below gs in
    let one : suc m ≡ 1 + m = omega arith in
    search (arith, last_part, below_part gs)

opens_below : (g : Glyph) (gs : Glyphs) → (g.category == OT_VBlw) ≡ true
    → behind_part 8 (g ∷ gs) ≡ in_part 8 g ∷ behind_part 8 gs
opens_below = search arith

pub parts_behind : (gs : Glyphs) → behind_part 5 gs ≡ parts_positioned gs
parts_behind [] = refl
parts_behind (g ∷ gs) =
    let part : Bool → ℕ = λ b. if b then 8 else 5 in
    let n : Bool → ℕ = λ b. cond (not b) (1 + main_len gs) 0 in
    let one : suc (main_len gs) ≡ 1 + main_len gs = omega arith in
    (elim (g.category == OT_VBlw) as (λ b. (g.category == OT_VBlw) ≡ b → in_part (part b) g ∷ behind_part (part b) gs
    ≡ main_syllable (take (n b) (g ∷ gs)) ++ below_parts (drop (n b) (g ∷ gs))) [
      | true ↦ λ is. sym (opens_below g gs is) ∙ below_part (g ∷ gs)
      | false ↦ λ is. ap (λ xs. at_position 5 g ∷ xs) (parts_behind gs)
          ∙ ap (λ n. main_syllable (take n (g ∷ gs)) ++ below_parts (drop n (g ∷ gs))) one
    ]) refl

over_part : (before r : ℕ) (g : Glyph) → at_position (own_position before (in_part r g)) (in_part r g)
    ≡ at_position (own_position before (in_part r g)) g
over_part = search arith

-- one more glyph
pub own_next : (before part : ℕ) (gs total : Glyphs) (i : ℕ) (d : Glyph) (q p : ℕ)
    → i < length gs → take i gs ++ with_own_positions before (behind_part part (drop i gs)) ≡ total
    → q ≡ position_behind_base part (get_or gs i d) → p ≡ own_position before (in_part q (get_or gs i d))
    → take (i + 1) (set gs i (at_position p (get_or gs i d)))
    ++ with_own_positions p (behind_part q (drop (i + 1) (set gs i (at_position p (get_or gs i d))))) ≡ total
own_next before part gs total i d q p l same is_q is =
    let g = get_or gs i d in
    let h = at_position p g in
    let rest = drop (i + 1) gs in
    ap (λ ys. ys ++ with_own_positions p (behind_part q (drop (i + 1) (set gs i h)))) (take_more_set gs i h l)
    ∙ append_assoc (take i gs) (h ∷ []) (with_own_positions p (behind_part q (drop (i + 1) (set gs i h))))
    ∙ ap (λ ys. take i gs ++ h ∷ with_own_positions p (behind_part q ys)) (drop-set-lt (i + 1) gs i h (omega arith))
    ∙ ap (λ r. take i gs ++ at_position r g ∷ with_own_positions r (behind_part q rest)) is
    ∙ ap (λ r. take i gs ++ at_position (own_position before (in_part r g)) g
    ∷ with_own_positions (own_position before (in_part r g)) (behind_part r rest)) is_q
    ∙ ap (λ x. take i gs ++ x ∷ with_own_positions (own_position before (in_part (position_behind_base part g) g))
    (behind_part (position_behind_base part g) rest)) (sym (over_part before (position_behind_base part g) g))
    ∙ sym (ap (λ ys. take i gs ++ with_own_positions before (behind_part part ys)) (drop_more gs i d l)) ∙ same
