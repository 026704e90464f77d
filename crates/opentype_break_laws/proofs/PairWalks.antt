-- A lookup of pairs along a text: the positions that it leaves, by the pairs of the text.
use Rattle.std.proofs.Common.{Bool, List, None, Option, Some, [], ap, arith, false, if◌then◌else◌, inl, inr, length, nat_lt, refl, set, subst, suc, sym, true, zero, ℕ, ◌<◌, ◌∙◌, ◌∷◌, ◌≡◌, ◌≤◌}
use Rattle.std.proofs.lemmas.Bool.Decides.{nat_tests}
use Rattle.std.specs.List.{AllByRecursion}
use Rattle.shapers_buffer.specs.Glyphs.{Glyphs}
use Rattle.shapers_buffer.specs.declared.buffer.glyph.GlyphPosition.{GlyphPosition}
use Rattle.shapers_buffer.specs.declared.buffer.level.Direction.{Direction}
use Rattle.opentype_gpos.proofs.Walks.{along_none, along_out, along_step}
use Rattle.opentype_gpos.specs.Along.{applied_along, position_stepped}
use Rattle.opentype_gpos.specs.Coming.{Setting, sights_in}
use Rattle.opentype_gpos.specs.Moved.{Positions, Progress, is_vertical, position_at, value_added, with_value}
use Rattle.opentype_gpos.specs.declared.moves.PairMove.{PairMove}
use Rattle.opentype_gpos.specs.declared.values.Value.{Value}
use Rattle.opentype_break_laws.proofs.ContextParts.{inside_or}
use Rattle.opentype_break_laws.proofs.ContextSteps.{FlagsOnly, only_none}
use Rattle.opentype_break_laws.proofs.LigatureFits.{essence}
use Rattle.opentype_break_laws.proofs.LigatureViews.{AlikeTo, alike_long}
use Rattle.opentype_break_laws.proofs.PairFinds.{AreOfPairs, IsOfFeatures, pair_same}
use Rattle.opentype_break_laws.proofs.PairSteps.{only_on, pair_next, pair_placed, placed_long, steps_by_pair}
use Rattle.opentype_break_laws.specs.Pairs.{pair_seen}

-- ---- THE POSITIONS ALONE, by the pairs of the text

unfoldable pub pairs_along : ℕ → Direction → (ℕ → Option PairMove) → ℕ → Positions → ℕ → Positions
pairs_along zero d act len ps at = ps
pairs_along (suc n) d act len ps at =
    if nat_lt at len then pairs_along n d act len (pair_placed d (act at) at ps) (pair_next (act at) at) else ps

pub over_end : (n : ℕ) (d : Direction) (act : ℕ → Option PairMove) (len : ℕ) (ps : Positions) (at : ℕ) → len ≤ at
    → pairs_along n d act len ps at ≡ ps
unfolding pairs_along
over_end zero d act len ps at le = refl
over_end (suc n) d act len ps at le =
    let out : nat_lt at len ≡ false = grind (arith, nat_tests, le) in rw out refl

pub one_on : (n : ℕ) (d : Direction) (act : ℕ → Option PairMove) (len : ℕ) (ps : Positions) (at : ℕ) (o : Option PairMove)
    → at < len → act at ≡ o
    → pairs_along (suc n) d act len ps at ≡ pairs_along n d act len (pair_placed d o at ps) (pair_next o at)
unfolding pairs_along
one_on n d act len ps at o lt is =
    let inside : nat_lt at len ≡ true = grind (arith, nat_tests, lt) in
    rw inside (ap (λ x. pairs_along n d act len (pair_placed d x at ps) (pair_next x at)) is)

long_on : (inside : Bool) (ps qs rs : Positions) → length qs ≡ length rs → length ps ≡ length rs
    → length (if inside then qs else ps) ≡ length rs
long_on true ps qs rs one two = one
long_on false ps qs rs one two = two

pub along_long : (n : ℕ) (d : Direction) (act : ℕ → Option PairMove) (len : ℕ) (ps : Positions) (at : ℕ)
    → length (pairs_along n d act len ps at) ≡ length ps
unfolding pairs_along
along_long zero d act len ps at = refl
along_long (suc n) d act len ps at = long_on (nat_lt at len) ps
    (pairs_along n d act len (pair_placed d (act at) at ps) (pair_next (act at) at)) ps
    (along_long n d act len (pair_placed d (act at) at ps) (pair_next (act at) at) ∙ placed_long d (act at) at ps) refl

-- ---- THE WALK of the lookup

abbrev pub pairs_of : Setting → List ℕ → Glyphs → ℕ → Option PairMove
pairs_of s table gs at = pair_seen s.gdef table s.how gs at

abbrev pub pair_step : Setting → List ℕ → Glyphs → Positions → ℕ → Progress
pair_step s table = position_stepped s (sights_in s table) table

pub record WalksAs (gs : Glyphs) (made : Positions) (c : Progress) : Type 0 where
  pub only : FlagsOnly gs c.glyphs
  pub positions : c.positions ≡ made

abbrev progress : Glyphs → Positions → ℕ → Progress
progress gs ps at = record { glyphs = gs; positions = ps; next = at }

pub walks_as : (s : Setting) (table : List ℕ) → AreOfPairs table → IsOfFeatures s.how → (old : Glyphs) (n : ℕ) (gs : Glyphs)
    (ps : Positions) (at : ℕ) → AlikeTo essence gs old
    → WalksAs gs (pairs_along n s.direction (pairs_of s table old) (length old) ps at)
    (applied_along n (pair_step s table) gs ps at)
unfolding pairs_along
walks_as s table all is old zero gs ps at same =
    subst (WalksAs gs ps) (sym (along_none (pair_step s table) gs ps at)) (record { only = only_none gs; positions = refl })
walks_as s table all is old (suc n) gs ps at same = elim (inside_or at (length gs)) [
  | inl lt ↦ (let d = s.direction in
      let act = pairs_of s table old in
      let c = pair_step s table gs ps at in
      let it = steps_by_pair s table gs ps at all lt in
      let pair : pairs_of s table gs at ≡ act at = pair_same s.gdef table s.how gs old at is same in
      let rest = walks_as s table all is old n c.glyphs c.positions c.next (it.only.same ∙ same) in
      let long : length gs ≡ length old = alike_long essence gs old same in
      let whole = applied_along n (pair_step s table) c.glyphs c.positions c.next in
      let places : c.positions ≡ pair_placed d (act at) at ps = it.positions ∙ ap (λ o. pair_placed d o at ps) pair in
      let on : c.next ≡ pair_next (act at) at = it.next ∙ ap (λ o. pair_next o at) pair in
      subst (WalksAs gs (pairs_along (suc n) d act (length old) ps at))
      (sym (along_step (pair_step s table) n gs ps at lt)) (record {
        only = only_on gs c.glyphs whole.glyphs it.only rest.only;
        positions = rest.positions ∙ ap (λ qs. pairs_along n d act (length old) qs c.next) places
            ∙ ap (pairs_along n d act (length old) (pair_placed d (act at) at ps)) on
            ∙ sym (one_on n d act (length old) ps at (act at) (omega (arith, lt, long)) refl);
      }))
  | inr out ↦ (let long : length gs ≡ length old = alike_long essence gs old same in
      subst (WalksAs gs (pairs_along (suc n) s.direction (pairs_of s table old) (length old) ps at))
      (sym (along_out (pair_step s table) (suc n) gs ps at out)) (record {
        only = only_none gs;
        positions = sym (over_end (suc n) s.direction (pairs_of s table old) (length old) ps at (omega (arith, out, long)));
      }))
]

-- ---- WHAT EACH POSITION KEEPS

-- what adding values keeps
pub record KeptByValues (P : GlyphPosition → Type 0) : Type 0 where
  pub each : (vertical : Bool) (v : Value) (p : GlyphPosition) → P p → P (with_value vertical v p)

all_put : (P : GlyphPosition → Type 0) (ps : Positions) (k : ℕ) → KeptByValues P → (d : Direction) (v : Value)
    → AllByRecursion P ps → AllByRecursion P (set ps k (with_value (is_vertical d) v (position_at ps k)))
all_put P [] k kept d v all = tt
all_put P (p ∷ ps) zero kept d v all = (kept.each (is_vertical d) v p all.0, all.1)
all_put P (p ∷ ps) (suc k) kept d v all = (all.0, all_put P ps k kept d v all.1)

all_if : (b : Bool) (P : GlyphPosition → Type 0) (ps qs : Positions) → AllByRecursion P qs → AllByRecursion P ps
    → AllByRecursion P (if b then qs else ps)
all_if true P ps qs one two = one
all_if false P ps qs one two = two

all_added : (P : GlyphPosition → Type 0) → KeptByValues P → (d : Direction) (v : Value) (k : ℕ) (ps : Positions)
    → AllByRecursion P ps → AllByRecursion P (value_added d v k ps)
unfolding value_added
all_added P kept d v k ps all = all_if (nat_lt k (length ps)) P ps
    (set ps k (with_value (is_vertical d) v (position_at ps k))) (all_put P ps k kept d v all) all

all_placed : (P : GlyphPosition → Type 0) → KeptByValues P → (d : Direction) (o : Option PairMove) (at : ℕ) (ps : Positions)
    → AllByRecursion P ps → AllByRecursion P (pair_placed d o at ps)
all_placed P kept d None at ps all = all
all_placed P kept d (Some m) at ps all = all_added P kept d m.second_value m.second (value_added d m.first_value at ps)
    (all_added P kept d m.first_value at ps all)

pub all_along : (P : GlyphPosition → Type 0) → KeptByValues P → (n : ℕ) (d : Direction) (act : ℕ → Option PairMove) (len : ℕ)
    (ps : Positions) (at : ℕ) → AllByRecursion P ps → AllByRecursion P (pairs_along n d act len ps at)
unfolding pairs_along
all_along P kept zero d act len ps at all = all
all_along P kept (suc n) d act len ps at all = all_if (nat_lt at len) P ps
    (pairs_along n d act len (pair_placed d (act at) at ps) (pair_next (act at) at))
    (all_along P kept n d act len (pair_placed d (act at) at ps) (pair_next (act at) at)
    (all_placed P kept d (act at) at ps all)) all
