-- A walk along a text, as far as it has come.
use Rattle.std.proofs.Common.{ℕ, zero, suc, ◌+◌, ◌-◌, ◌<◌, ◌≤◌, ◌≡◌, length, refl, sym, ap, ◌∙◌, arith}
use Rattle.std.proofs.lemmas.Grind.{common_steps}
use Rattle.shapers_buffer.specs.Glyphs.{Glyphs}
use Rattle.opentype_gpos.specs.Moved.{Positions, Progress}
use Rattle.opentype_gpos.specs.Along.{applied_along}

pub record IsWalked (f : Glyphs → Positions → ℕ → Progress) (steps : ℕ) (old : Glyphs) (places : Positions)
    (i : ℕ) (gs : Glyphs) (ps : Positions) (at : ℕ) : Type 0 where
  pub rest : applied_along steps f old places 0 ≡ applied_along (steps - i) f gs ps at
  pub paired : length ps ≡ length gs

pub along_step : (f : Glyphs → Positions → ℕ → Progress) (n : ℕ) (gs : Glyphs) (ps : Positions) (at : ℕ) →
    at < length gs → applied_along (suc n) f gs ps at
    ≡ applied_along n f (f gs ps at).glyphs (f gs ps at).positions (f gs ps at).next
unfolding applied_along
along_step f n gs ps at lt = grind (arith, common_steps)

pub along_out : (f : Glyphs → Positions → ℕ → Progress) (n : ℕ) (gs : Glyphs) (ps : Positions) (at : ℕ) →
    length gs ≤ at → applied_along n f gs ps at ≡ record { glyphs = gs; positions = ps; next = at }
unfolding applied_along
along_out f zero gs ps at le = refl
along_out f (suc n) gs ps at le = grind (arith, common_steps)

pub along_none : (f : Glyphs → Positions → ℕ → Progress) (gs : Glyphs) (ps : Positions) (at : ℕ) →
    applied_along 0 f gs ps at ≡ record { glyphs = gs; positions = ps; next = at }
unfolding applied_along
along_none f gs ps at = refl

pub walked_start : (f : Glyphs → Positions → ℕ → Progress) (steps : ℕ) (old : Glyphs) (places : Positions) →
    length places ≡ length old → IsWalked f steps old places 0 old places 0
walked_start f steps old places paired =
    let n : steps - 0 ≡ steps = omega arith in record { rest = rw n refl; paired = paired }

pub walked_next : (f : Glyphs → Positions → ℕ → Progress) (steps : ℕ) (old : Glyphs) (places : Positions)
    (i : ℕ) (gs : Glyphs) (ps : Positions) (at : ℕ) (new : Glyphs) (moved : Positions) (next : ℕ) →
    IsWalked f steps old places i gs ps at → i < steps → at < length gs → length moved ≡ length new →
    f gs ps at ≡ record { glyphs = new; positions = moved; next = next } →
    IsWalked f steps old places (i + 1) new moved next
walked_next f steps old places i gs ps at new moved next w lt inside paired is =
    let n : steps - i ≡ suc (steps - (i + 1)) = omega arith in
    let h : Progress → Progress = λ c. applied_along (steps - (i + 1)) f c.glyphs c.positions c.next in
    record { rest = rw n at w.rest ∙ along_step f (steps - (i + 1)) gs ps at inside ∙ ap h is; paired = paired }

pub glyphs_out : (f : Glyphs → Positions → ℕ → Progress) (steps : ℕ) (old : Glyphs) (places : Positions)
    (i : ℕ) (gs : Glyphs) (ps : Positions) (at : ℕ) → IsWalked f steps old places i gs ps at →
    length gs ≤ at → gs ≡ (applied_along steps f old places 0).glyphs
glyphs_out f steps old places i gs ps at w le =
    let h : Progress → Glyphs = λ c. c.glyphs in sym (ap h (w.rest ∙ along_out f (steps - i) gs ps at le))

pub positions_out : (f : Glyphs → Positions → ℕ → Progress) (steps : ℕ) (old : Glyphs) (places : Positions)
    (i : ℕ) (gs : Glyphs) (ps : Positions) (at : ℕ) → IsWalked f steps old places i gs ps at →
    length gs ≤ at → ps ≡ (applied_along steps f old places 0).positions
positions_out f steps old places i gs ps at w le =
    let h : Progress → Positions = λ c. c.positions in sym (ap h (w.rest ∙ along_out f (steps - i) gs ps at le))

pub glyphs_all : (f : Glyphs → Positions → ℕ → Progress) (steps : ℕ) (old : Glyphs) (places : Positions)
    (i : ℕ) (gs : Glyphs) (ps : Positions) (at : ℕ) → IsWalked f steps old places i gs ps at →
    steps ≤ i → gs ≡ (applied_along steps f old places 0).glyphs
glyphs_all f steps old places i gs ps at w le =
    let n : steps - i ≡ 0 = omega arith in
    let h : Progress → Glyphs = λ c. c.glyphs in sym (ap h (rw n at w.rest ∙ along_none f gs ps at))

pub positions_all : (f : Glyphs → Positions → ℕ → Progress) (steps : ℕ) (old : Glyphs) (places : Positions)
    (i : ℕ) (gs : Glyphs) (ps : Positions) (at : ℕ) → IsWalked f steps old places i gs ps at →
    steps ≤ i → ps ≡ (applied_along steps f old places 0).positions
positions_all f steps old places i gs ps at w le =
    let n : steps - i ≡ 0 = omega arith in
    let h : Progress → Positions = λ c. c.positions in sym (ap h (rw n at w.rest ∙ along_none f gs ps at))
