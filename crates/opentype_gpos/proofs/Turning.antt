-- A cursive line that turns around, as far as a loop has come.
use Rattle.std.proofs.Common.{ℕ, suc, ◌+◌, ◌-◌, ◌<◌, ◌≤◌, ◌≡◌, Bool, length, slice_set, Option, None, Some, refl, sym, ap, ◌∙◌, arith}
use Rattle.std.proofs.lemmas.List.{length-set}
use Rattle.shapers_buffer.specs.declared.buffer.glyph.GlyphPosition.{GlyphPosition}
use Rattle.opentype_gpos.specs.Joined.{next_in_line, reversed, reversed_on}
use Rattle.opentype_gpos.specs.Moved.{Positions, position_at}

some : (n : ℕ) (v : Bool) (parent : ℕ) (ps : Positions) (at : ℕ) (old : GlyphPosition) (to : ℕ) →
    next_in_line old.var at parent (length ps) ≡ Some to → reversed (suc n) v parent ps at old
    ≡ reversed n v parent (slice_set ps to (reversed_on v old at to (position_at ps to))) to (position_at ps to)
unfolding reversed
some n v parent ps at old to e = rw e refl

none : (n : ℕ) (v : Bool) (parent : ℕ) (ps : Positions) (at : ℕ) (old : GlyphPosition) →
    next_in_line old.var at parent (length ps) ≡ None → reversed (suc n) v parent ps at old ≡ ps
unfolding reversed
none n v parent ps at old e = rw e refl

done : (v : Bool) (parent : ℕ) (ps : Positions) (at : ℕ) (old : GlyphPosition) → reversed 0 v parent ps at old ≡ ps
unfolding reversed
done v parent ps at old = refl

pub record IsTurning (v : Bool) (parent : ℕ) (first : Positions) (start : ℕ) (own : GlyphPosition) (i : ℕ)
    (ps : Positions) (at : ℕ) (old : GlyphPosition) : Type 0 where
  pub inside : at < length ps
  pub rest : reversed (64 - i) v parent ps at old ≡ reversed 64 v parent first start own

pub turning_start : (v : Bool) (parent : ℕ) (first : Positions) (start : ℕ) (own : GlyphPosition) →
    start < length first → IsTurning v parent first start own 0 first start own
turning_start v parent first start own lt = record { inside = lt; rest = refl }

pub turning_next : (v : Bool) (parent : ℕ) (first : Positions) (start : ℕ) (own : GlyphPosition) (i : ℕ)
    (ps : Positions) (at : ℕ) (old : GlyphPosition) (found : Option ℕ) (to : ℕ) (next : GlyphPosition)
    (new : Positions) → IsTurning v parent first start own i ps at old → i < 64 →
    found ≡ next_in_line old.var at parent (length ps) → found ≡ Some to → to < length ps →
    next ≡ position_at ps to → new ≡ slice_set ps to (reversed_on v old at to next) →
    IsTurning v parent first start own (i + 1) new to next
turning_next v parent first start own i ps at old found to next new is lt there e inside same made =
    let n : 64 - i ≡ suc (64 - (i + 1)) = omega arith in
    let len : length new ≡ length ps = ap length made ∙ length-set ps to _ in
    record {
      inside = rw (sym len) at inside;
      rest =
          ap (λ (p : Positions). reversed (64 - (i + 1)) v parent p to next) made
          ∙ ap (λ (p : GlyphPosition). reversed (64 - (i + 1)) v parent (slice_set ps to (reversed_on v old at to p)) to p) same
          ∙ sym (some (64 - (i + 1)) v parent ps at old to (sym there ∙ e))
          ∙ rw n at is.rest;
    }

pub turning_end : (v : Bool) (parent : ℕ) (first : Positions) (start : ℕ) (own : GlyphPosition) (i : ℕ)
    (ps : Positions) (at : ℕ) (old : GlyphPosition) (found : Option ℕ) →
    IsTurning v parent first start own i ps at old → i < 64 →
    found ≡ next_in_line old.var at parent (length ps) → found ≡ None →
    ps ≡ reversed 64 v parent first start own
turning_end v parent first start own i ps at old found is lt there e =
    let n : 64 - i ≡ suc (64 - (i + 1)) = omega arith in
    sym (none (64 - (i + 1)) v parent ps at old (sym there ∙ e)) ∙ rw n at is.rest

pub turning_all : (v : Bool) (parent : ℕ) (first : Positions) (start : ℕ) (own : GlyphPosition) (i : ℕ)
    (ps : Positions) (at : ℕ) (old : GlyphPosition) → IsTurning v parent first start own i ps at old →
    64 ≤ i → ps ≡ reversed 64 v parent first start own
turning_all v parent first start own i ps at old is le =
    let n : 64 - i ≡ 0 = omega arith in sym (done v parent ps at old) ∙ rw n at is.rest
