-- The walk that gives marks their positions does what the three rules do one after another.
use Rattle.std.proofs.Common.{◌≡◌, ℕ, ◌≤◌, ◌==◌, Bool, true, false, not, ◌&&◌, [], ◌∷◌, ◌++◌, length, take, drop, if◌then◌else◌, refl, sym, ap, ◌∙◌, arith}
use Rattle.std.specs.List.{list_any}
use Rattle.std.proofs.lemmas.List.{append-nil, drop_all, take_all}
use Rattle.shapers_buffer.specs.Glyphs.{Glyph, Glyphs}
use Rattle.shapers_buffer.specs.Glyph.{at_position}
use Rattle.shapers_base.specs.declared.plan.ot_category_t.TheConstants.{OT_CM, OT_H, OT_N, OT_RS, OT_ZWJ, OT_ZWNJ}
use Rattle.shapers_indic.specs.Glyphs.{has_category, has_position}
use Rattle.shapers_indic_initial.specs.InitialPositions.{before_next, draws_sign, is_attached, with_marks_attached, with_signs}
use Rattle.shapers_indic_initial.specs.MarkWalk.{drawn_position, marks_from, next_behind, next_carrier}
use Rattle.shapers_indic_initial.proofs.Positions.{attach_step, attached_all, halant_step_of, halants_all}
use Rattle.shapers_indic_initial.proofs.Walks.{walked}

-- an attached glyph is of none of the other categories: no syllable modifier, no postfixed matra
abbrev attached_category : ℕ → Bool
attached_category k = list_any (λ c. c == k) (OT_ZWJ ∷ OT_ZWNJ ∷ OT_N ∷ OT_RS ∷ OT_CM ∷ OT_H ∷ [])

not_category : (k : ℕ) (g : Glyph) → attached_category k ≡ false → is_attached g ≡ true → has_category k g ≡ false
not_category k g other a =
    (elim (has_category k g) as (λ b. has_category k g ≡ b → b ≡ false) [
      | true ↦ (λ t.
          let same : g.category ≡ k = grind arith in
          sym a ∙ ap attached_category same ∙ other)
      | false ↦ (λ t. refl)
    ]) refl

-- a sign is drawn by what stood behind it
drawn_same : (c : ℕ) (g next : Glyph) (rest : Glyphs)
    → before_next g ((if is_attached next then at_position c next else next) ∷ rest) ≡ before_next g (next ∷ rest)
drawn_same c g next rest =
    (elim (is_attached next) as (λ b. is_attached next ≡ b
    → before_next g ((if b then at_position c next else next) ∷ rest) ≡ before_next g (next ∷ rest)) [
      | true ↦ (λ t.
          let none = not_category 13 next refl t in
          ap (λ m. if has_category 8 g && m && not (has_position 13 (at_position c next)) then at_position c g else g)
          none ∙ (elim (has_category 8 g) as (λ s. (if s && false && not (has_position 13 (at_position c next)) then
          at_position c g else g) ≡ (if s && false && not (has_position 13 next) then at_position next.auxiliary g
          else g)) [ true ↦ refl | false ↦ refl ]) ∙ sym
          (ap (λ m. if has_category 8 g && m && not (has_position 13 next) then at_position next.auxiliary g else g)
          none))
      | false ↦ (λ t. refl)
    ]) refl

-- an attached glyph draws none
undrawn : (c : ℕ) (g : Glyph) (rest : Glyphs) → is_attached g ≡ true
    → before_next (at_position c g) rest ≡ at_position c g
undrawn c g [] t = refl
undrawn c g (next ∷ rest) t = cc (not_category 8 g refl t)

-- a glyph after the first two rules
drawn_is : (c d : ℕ) (g : Glyph) (rest : Glyphs)
    → before_next (if is_attached g then at_position c g else g) (walked attach_step d rest)
    ≡ at_position (drawn_position c g rest) g
drawn_is c d g [] = search arith
drawn_is c d g (next ∷ rest) =
    (elim (is_attached g) as (λ b. is_attached g ≡ b
    → before_next (if b then at_position c g else g) (walked attach_step d (next ∷ rest))
    ≡ at_position (if b then c else if draws_sign g next then next.auxiliary else g.auxiliary) g) [
      | true ↦ (λ t. undrawn c g (walked attach_step d (next ∷ rest)) t)
      | false ↦ (λ t. drawn_same d g next rest ∙ (search arith))
    ]) refl

marks_is : (c b : ℕ) (gs : Glyphs)
    → marks_from c b gs ≡ walked halant_step_of b (with_signs (walked attach_step c gs))
marks_is c b [] = refl
marks_is c b (g ∷ gs) =
    search (arith, drawn_is, marks_is (next_carrier c g) (next_behind b (drawn_position c g gs)) gs)

pub marks_all : (gs : Glyphs) → marks_from 0 2 gs ≡ with_marks_attached gs
marks_all = search (marks_is, attached_all, halants_all)

-- all glyphs
pub marks_done : (i c b : ℕ) (gs old : Glyphs) → length gs ≤ i → take i gs ++ marks_from c b (drop i gs)
    ≡ marks_from 0 2 old → gs ≡ with_marks_attached old
marks_done = search (arith, append-nil, take_all, drop_all, marks_all)
