-- A walk from the end of a text to its start, as far as it has come.
use Rattle.std.proofs.Common.{ℕ, zero, suc, ◌-◌, ◌<◌, ◌≤◌, ◌≡◌, length, refl, sym, ap, ◌∙◌, arith}
use Rattle.shapers_buffer.specs.Glyphs.{Glyphs}
use Rattle.opentype_gsub.specs.Reversed.{applied_backward}

pub record IsBack (f : Glyphs → ℕ → Glyphs) (old : Glyphs) (at : ℕ) (gs : Glyphs) : Type 0 where
  pub rest : applied_backward (length old) f old ≡ applied_backward at f gs
  pub same : length gs ≡ length old

one_back : (f : Glyphs → ℕ → Glyphs) (n : ℕ) (gs : Glyphs) → applied_backward (suc n) f gs ≡ applied_backward n f (f gs n)
unfolding applied_backward
one_back f n gs = refl

none_back : (f : Glyphs → ℕ → Glyphs) (gs : Glyphs) → applied_backward 0 f gs ≡ gs
unfolding applied_backward
none_back f gs = refl

pub back_start : (f : Glyphs → ℕ → Glyphs) (old : Glyphs) → IsBack f old (length old) old
back_start f old = record { rest = refl; same = refl }

pub back_next : (f : Glyphs → ℕ → Glyphs) (old : Glyphs) (at : ℕ) (gs new : Glyphs) → IsBack f old at gs → 0 < at →
    new ≡ f gs (at - 1) → length new ≡ length gs → IsBack f old (at - 1) new
back_next f old zero gs new b lt is len = absurd (omega arith)
back_next f old (suc n) gs new b lt is len =
    let e : suc n - 1 ≡ n = omega arith in
    rw e (record {
      rest = b.rest ∙ one_back f n gs ∙ ap (applied_backward n f) (sym (rw e at is));
      same = len ∙ b.same;
    })

pub back_all : (f : Glyphs → ℕ → Glyphs) (old : Glyphs) (at : ℕ) (gs : Glyphs) → IsBack f old at gs → at ≤ 0 →
    gs ≡ applied_backward (length old) f old
back_all f old at gs b le =
    let e : at ≡ 0 = omega arith in sym (rw e at b.rest ∙ none_back f gs)
