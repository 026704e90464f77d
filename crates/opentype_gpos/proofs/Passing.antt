-- A lookup along a text is tried at the places where it may begin, and passes over the others.
use Rattle.std.proofs.Common.{ℕ, zero, suc, ◌+◌, ◌-◌, ◌==◌, ◌<◌, ◌≤◌, ◌≡◌, ◌⊎◌, ◌∙◌, ◌&&◌, inl, inr, not, Bool, true, bit_and, List, length, refl, sym, ap, arith, if◌then◌else◌}
use Rattle.shapers_buffer.specs.Glyphs.{Glyphs}
use Rattle.opentype_layout.specs.Sight.{sight_of_input}
use Rattle.opentype_layout.specs.Starts.{ArePassed, IsPassed}
use Rattle.opentype_layout.specs.Text.{glyph_at}
use Rattle.opentype_gpos.specs.Along.{applied_along, passed, position_stepped}
use Rattle.opentype_gpos.specs.Coming.{Setting, sights_in}
use Rattle.opentype_gpos.specs.Moved.{Positions, Progress}
use Rattle.opentype_gpos.specs.declared.pass.Sights.{Sights}
use Rattle.opentype_gpos.proofs.Unbegun.{step_passed}
use Rattle.opentype_gpos.proofs.Walks.{along_none, along_out, along_step}

-- what a lookup does at a place of a text
abbrev pub lookup_step : Setting → List ℕ → Glyphs → Positions → ℕ → Progress
lookup_step s lookup = position_stepped s (sights_in s lookup) lookup

-- ---- a place that is passed over

off : (masked : ℕ) (test : Bool) (x z : Progress) → masked ≡ 0 → (if not (masked == 0) && test then x else z) ≡ z
off masked test x z e = rw e refl

step_masked : (s : Setting) (lookup : List ℕ) (gs : Glyphs) (ps : Positions) (at : ℕ) →
    bit_and (glyph_at gs at).mask s.how.mask ≡ 0 → lookup_step s lookup gs ps at ≡ passed at gs ps
unfolding position_stepped sights_in sight_of_input
step_masked s lookup gs ps at e = off _ _ _ (passed at gs ps) e

step_over : (s : Setting) (lookup : List ℕ) (gs : Glyphs) (ps : Positions) (at : ℕ) →
    IsPassed true lookup s.how.mask (glyph_at gs at) → lookup_step s lookup gs ps at ≡ passed at gs ps
step_over s lookup gs ps at (inl e) = step_masked s lookup gs ps at e
step_over s lookup gs ps at (inr none) = step_passed s (sights_in s lookup) lookup gs ps at none

walk_on : (s : Setting) (lookup : List ℕ) (n : ℕ) (gs : Glyphs) (ps : Positions) (at : ℕ) → at < length gs →
    IsPassed true lookup s.how.mask (glyph_at gs at) →
    applied_along (suc n) (lookup_step s lookup) gs ps at ≡ applied_along n (lookup_step s lookup) gs ps (at + 1)
walk_on s lookup n gs ps at lt h =
    let f : Progress → Progress = λ c. applied_along n (lookup_step s lookup) c.glyphs c.positions c.next in
    along_step (lookup_step s lookup) n gs ps at lt ∙ ap f (step_over s lookup gs ps at h)

-- ---- and the places from one on, and before another

walk_over : (s : Setting) (lookup : List ℕ) (m n : ℕ) (gs : Glyphs) (ps : Positions) (at : ℕ) → at + m ≤ length gs →
    ((j : ℕ) → at ≤ j → j < at + m → IsPassed true lookup s.how.mask (glyph_at gs j)) →
    applied_along (m + n) (lookup_step s lookup) gs ps at ≡ applied_along n (lookup_step s lookup) gs ps (at + m)
walk_over s lookup zero n gs ps at le h =
    let e : at ≡ at + 0 = omega arith in
    let m : 0 + n ≡ n = omega arith in
    ap (λ k. applied_along k (lookup_step s lookup) gs ps at) m
    ∙ ap (λ k. applied_along n (lookup_step s lookup) gs ps k) e
walk_over s lookup (suc m) n gs ps at le h =
    let e : (at + 1) + m ≡ at + suc m = omega arith in
    let f : suc m + n ≡ suc (m + n) = omega arith in
    ap (λ k. applied_along k (lookup_step s lookup) gs ps at) f
    ∙ walk_on s lookup (m + n) gs ps at (omega arith) (h at (omega arith) (omega arith))
    ∙ walk_over s lookup m n gs ps (at + 1) (omega arith) (λ j low high. h j (omega arith) (omega arith))
    ∙ ap (λ k. applied_along n (lookup_step s lookup) gs ps k) e

-- the text that a walk ends with
pub record EndsAs (gs : Glyphs) (ps : Positions) (end : Progress) : Type 0 where
  pub glyphs : gs ≡ end.glyphs
  pub positions : ps ≡ end.positions

pub ends_as : (gs : Glyphs) (ps : Positions) (at : ℕ) (end : Progress) →
    end ≡ record { glyphs = gs; positions = ps; next = at } → EndsAs gs ps end
ends_as gs ps at end e =
    let g : Progress → Glyphs = λ c. c.glyphs in
    let p : Progress → Positions = λ c. c.positions in
    record { glyphs = sym (ap g e); positions = sym (ap p e) }

in_or_out : (at len : ℕ) → (at < len) ⊎ (len ≤ at)
in_or_out at len = grind arith

still : (s : Setting) (lookup : List ℕ) (n : ℕ) (gs : Glyphs) (ps : Positions) (at place : ℕ) →
    ((j : ℕ) → at ≤ j → j < place → IsPassed true lookup s.how.mask (glyph_at gs j)) →
    (length gs ≤ place) ⊎ (at + n ≤ place) →
    EndsAs gs ps (applied_along n (lookup_step s lookup) gs ps at)
still s lookup zero gs ps at place h far = ends_as gs ps at _ (along_none (lookup_step s lookup) gs ps at)
still s lookup (suc n) gs ps at place h far = elim (in_or_out at (length gs)) [
  | inr le ↦ ends_as gs ps at _ (along_out (lookup_step s lookup) (suc n) gs ps at le)
  | inl lt ↦
      let e = walk_on s lookup n gs ps at lt
      (h at (omega arith) (elim far [ inl all ↦ omega arith | inr few ↦ omega arith ])) in
      rw e (still s lookup n gs ps (at + 1) place (λ j a b. h j (omega arith) b)
      (elim far [ inl all ↦ inl all | inr few ↦ inr (omega arith) ]))
]

-- ---- the walk

-- so many steps of it are left
pub record IsLeft (s : Setting) (lookup : List ℕ) (old : Glyphs) (places : Positions) (n : ℕ) (gs : Glyphs)
    (ps : Positions) (at : ℕ) : Type 0 where
  pub rest : applied_along (length old) (lookup_step s lookup) old places 0
      ≡ applied_along n (lookup_step s lookup) gs ps at
  pub paired : length ps ≡ length gs

-- and the place is one of the text
pub record IsHere (s : Setting) (lookup : List ℕ) (old : Glyphs) (places : Positions) (n : ℕ) (gs : Glyphs)
    (ps : Positions) (at : ℕ) : Type 0 where
  pub left : IsLeft s lookup old places n gs ps at
  pub here : at < length gs

left_start : (s : Setting) (lookup : List ℕ) (old : Glyphs) (places : Positions) → length places ≡ length old →
    IsLeft s lookup old places (length old) old places 0
left_start s lookup old places paired = record { rest = refl; paired = paired }

pub left_on : (s : Setting) (lookup : List ℕ) (old : Glyphs) (places : Positions) (n : ℕ) (gs : Glyphs) (ps : Positions)
    (at place : ℕ) → IsLeft s lookup old places n gs ps at → ArePassed true lookup s.how.mask gs at place →
    at ≤ place → place < length gs → place - at ≤ n →
    IsHere s lookup old places (n - (place - at)) gs ps place
left_on s lookup old places n gs ps at place w h le lt few =
    let m : n ≡ (place - at) + (n - (place - at)) = omega arith in
    let e : at + (place - at) ≡ place = omega arith in
    record {
      left = record {
        rest = w.rest ∙ ap (λ k. applied_along k (lookup_step s lookup) gs ps at) m
            ∙ walk_over s lookup (place - at) (n - (place - at)) gs ps at (omega arith)
            (λ j low high. h.each j low (omega arith))
            ∙ ap (λ k. applied_along (n - (place - at)) (lookup_step s lookup) gs ps k) e;
        paired = w.paired;
      };
      here = lt;
    }

pub left_first : (s : Setting) (lookup : List ℕ) (old : Glyphs) (places : Positions) (first : ℕ) →
    length places ≡ length old → ArePassed true lookup s.how.mask old 0 first → first < length old →
    IsHere s lookup old places (length old - first) old places first
left_first s lookup old places first paired h lt =
    let e : first - 0 ≡ first = omega arith in
    let w : IsHere s lookup old places (length old - (first - 0)) old places first =
    left_on s lookup old places (length old) old places 0 first (left_start s lookup old places paired) h
    (omega arith) lt (omega arith) in
    rw e at w

pub left_next : (s : Setting) (lookup : List ℕ) (old : Glyphs) (places : Positions) (n : ℕ) (gs : Glyphs) (ps : Positions)
    (at : ℕ) (sights : Sights) (new : Glyphs) (moved : Positions) (next : ℕ) →
    IsHere s lookup old places n gs ps at → 0 < n → length moved ≡ length new → sights ≡ sights_in s lookup →
    position_stepped s sights lookup gs ps at ≡ record { glyphs = new; positions = moved; next = next } →
    IsLeft s lookup old places (n - 1) new moved next
left_next s lookup old places n gs ps at sights new moved next w lt paired same is =
    let m : n ≡ suc (n - 1) = omega arith in
    let f : Progress → Progress = λ c. applied_along (n - 1) (lookup_step s lookup) c.glyphs c.positions c.next in
    let h : Sights → Progress = λ x. position_stepped s x lookup gs ps at in
    record {
      rest = w.left.rest ∙ ap (λ k. applied_along k (lookup_step s lookup) gs ps at) m
          ∙ along_step (lookup_step s lookup) (n - 1) gs ps at w.here ∙ ap f (ap h (sym same) ∙ is);
      paired = paired;
    }

pub left_end : (s : Setting) (lookup : List ℕ) (old : Glyphs) (places : Positions) (n : ℕ) (gs : Glyphs) (ps : Positions)
    (at place : ℕ) → IsLeft s lookup old places n gs ps at → ArePassed true lookup s.how.mask gs at place →
    (length gs ≤ place) ⊎ (at + n ≤ place) →
    EndsAs gs ps (applied_along (length old) (lookup_step s lookup) old places 0)
left_end s lookup old places n gs ps at place w h far =
    let end = still s lookup n gs ps at place (λ j low high. h.each j low high) far in
    rw w.rest end

pub left_unbegun : (s : Setting) (lookup : List ℕ) (old : Glyphs) (places : Positions) (place : ℕ) →
    length places ≡ length old → ArePassed true lookup s.how.mask old 0 place → length old ≤ place →
    EndsAs old places (applied_along (length old) (lookup_step s lookup) old places 0)
left_unbegun s lookup old places place paired h out =
    left_end s lookup old places (length old) old places 0 place (left_start s lookup old places paired) h (inl out)

pub left_none : (s : Setting) (lookup : List ℕ) (old : Glyphs) (places : Positions) (n : ℕ) (gs : Glyphs) (ps : Positions)
    (at : ℕ) → IsHere s lookup old places n gs ps at → n ≡ 0 →
    EndsAs gs ps (applied_along (length old) (lookup_step s lookup) old places 0)
left_none s lookup old places n gs ps at w e =
    left_end s lookup old places n gs ps at at w.left (record { each = λ j low high. absurd (omega arith) })
    (inr (omega arith))
