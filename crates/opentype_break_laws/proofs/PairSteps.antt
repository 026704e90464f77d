-- A step of a lookup of pairs along a text: the values that it adds, and the stretch that it flags.
use Rattle.std.proofs.Common.{Bool, List, None, Option, Some, [], ap, arith, false, if◌then◌else◌, length, length-append, min, nat_le, nat_lt, negsuc, not, option_map, pos, refl, set, subst, suc, sym, true, unwrap_or, zero, ℕ, ℤ, ◌&&◌, ◌++◌, ◌+ℤ◌, ◌+◌, ◌-ℤ◌, ◌-◌, ◌<◌, ◌==◌, ◌^◌, ◌||◌, ◌∙◌, ◌∷◌, ◌≡◌, ◌≤◌}
use Rattle.std.proofs.lemmas.Bool.{false≢true}
use Rattle.std.proofs.lemmas.Bool.Decides.{nat_tests}
use Rattle.std.proofs.lemmas.Int.{ints}
use Rattle.std.proofs.lemmas.List.{get_or-append-add, get_or_append_left, set-append_left, set-append_right, set-get_or}
use Rattle.std.specs.Int.{saturate_to_bits}
use Rattle.std.specs.List.{AllByRecursion}
use Rattle.shapers_buffer.specs.Glyph.{default_position}
use Rattle.shapers_buffer.specs.GlyphFlags.{unsafe_inside}
use Rattle.shapers_buffer.specs.Glyphs.{Glyphs}
use Rattle.shapers_buffer.specs.declared.buffer.glyph.GlyphPosition.{GlyphPosition}
use Rattle.shapers_buffer.specs.declared.buffer.level.Direction.{Direction}
use Rattle.opentype_gpos.specs.Along.{passed, position_stepped, stepped_by}
use Rattle.opentype_gpos.specs.Coming.{Setting, sights_in}
use Rattle.opentype_gpos.specs.Looked.{lookup_looked, tried}
use Rattle.opentype_gpos.specs.Making.{moved}
use Rattle.opentype_gpos.specs.Moved.{Positions, Progress, does_move, end_behind, flagged_up_to, is_not_zero, is_vertical, minus, pair_moved, plus, position_at, value_added, with_value}
use Rattle.opentype_gpos.specs.declared.moves.Move.TheVariants.{Kerns}
use Rattle.opentype_gpos.specs.declared.moves.PairMove.{PairMove}
use Rattle.opentype_gpos.specs.declared.pass.Sights.{Sights}
use Rattle.opentype_gpos.specs.declared.values.Value.{Value}
use Rattle.opentype_layout.specs.Looking.{unjoined}
use Rattle.opentype_layout.specs.Sight.{sight_of_input}
use Rattle.opentype_layout.specs.Text.{glyph_at}
use Rattle.opentype_gpos.proofs.Keeping.{added_long}
use Rattle.opentype_break_laws.proofs.ContextSteps.{ClearAt, ComesOf, FlagsOnly, both_true, comes_long, comes_on, not_unsafe, only_if, only_none, unjoined_flags, unsafe_only}
use Rattle.opentype_break_laws.proofs.PairFinds.{AreOfPairs, comes_to_pair, found_inside, found_with, kerning}
use Rattle.opentype_break_laws.specs.Pairs.{IsOf32Bits, IsOfNumbers, holds_together, pair_seen, pair_end, sees}

-- ---- POSITIONS WITH VALUES

pub placed_front : (d : Direction) (v : Value) (k : ℕ) (qs rs : Positions) → k < length qs
    → value_added d v k (qs ++ rs) ≡ value_added d v k qs ++ rs
unfolding value_added
placed_front d v k qs rs lt =
    let one : nat_lt k (length (qs ++ rs)) ≡ true = grind (arith, nat_tests, lt, length-append qs rs) in
    let two : nat_lt k (length qs) ≡ true = grind (arith, nat_tests, lt) in
    rw (one, two) (ap (λ p. set (qs ++ rs) k (with_value (is_vertical d) v p)) (get_or_append_left qs rs default_position k lt)
    ∙ set-append_left qs rs k (with_value (is_vertical d) v (position_at qs k)) lt)

pub placed_back : (d : Direction) (v : Value) (p k : ℕ) (qs rs : Positions) → length qs ≡ p → k < length rs
    → value_added d v (p + k) (qs ++ rs) ≡ qs ++ value_added d v k rs
unfolding value_added
placed_back d v p k qs rs long lt =
    let one : nat_lt (p + k) (length (qs ++ rs)) ≡ true = grind (arith, nat_tests, lt, long, length-append qs rs) in
    let two : nat_lt k (length rs) ≡ true = grind (arith, nat_tests, lt) in
    let back : p + k - p ≡ k = omega arith in
    let low : p ≤ p + k = omega arith in
    let there : position_at (qs ++ rs) (p + k) ≡ position_at rs k =
    ap (λ n. position_at (qs ++ rs) (n + k)) (sym long) ∙ get_or-append-add qs rs k default_position in
    rw (one, two) (ap (λ x. set (qs ++ rs) (p + k) (with_value (is_vertical d) v x)) there
    ∙ set-append_right qs rs p (p + k) (with_value (is_vertical d) v (position_at rs k)) long low
    ∙ ap (λ n. qs ++ set rs n (with_value (is_vertical d) v (position_at rs k))) back)

-- ---- NUMBERS OF 32 BITS

min_twice : (n m : ℕ) → min (min n m) m ≡ min n m
min_twice n m = omega arith

nearest_again : (z : ℤ) → IsOf32Bits (saturate_to_bits 31 z)
nearest_again (pos n) = ap pos (min_twice n (2 ^ 31 - 1))
nearest_again (negsuc n) = ap negsuc (min_twice n (2 ^ 31 - 1))

pub value_numbers : (vertical : Bool) (v : Value) (p : GlyphPosition) → IsOfNumbers p → IsOfNumbers (with_value vertical v p)
unfolding with_value
value_numbers true v p is = record {
  x_advance = is.x_advance;
  y_advance = nearest_again (p.y_advance -ℤ v.y_advance);
  x_offset = nearest_again (p.x_offset +ℤ v.x_placement);
  y_offset = nearest_again (p.y_offset +ℤ v.y_placement);
}
value_numbers false v p is = record {
  x_advance = nearest_again (p.x_advance +ℤ v.x_advance);
  y_advance = is.y_advance;
  x_offset = nearest_again (p.x_offset +ℤ v.x_placement);
  y_offset = nearest_again (p.y_offset +ℤ v.y_placement);
}

abbrev pub AreOfNumbers : Positions → Type 0
AreOfNumbers ps = AllByRecursion IsOfNumbers ps

numbers_at : (ps : Positions) (k : ℕ) → AreOfNumbers ps → k < length ps → IsOfNumbers (position_at ps k)
numbers_at [] k all lt = absurd (omega (arith, lt))
numbers_at (p ∷ ps) zero all lt = all.0
numbers_at (p ∷ ps) (suc k) all lt = numbers_at ps k all.1 (omega (arith, lt))

numbers_set : (ps : Positions) (k : ℕ) (x : GlyphPosition) → AreOfNumbers ps → IsOfNumbers x → AreOfNumbers (set ps k x)
numbers_set [] k x all is = tt
numbers_set (p ∷ ps) zero x all is = (is, all.1)
numbers_set (p ∷ ps) (suc k) x all is = (all.0, numbers_set ps k x all.1 is)

numbers_if : (b : Bool) (ps qs : Positions) → (b ≡ true → AreOfNumbers qs) → AreOfNumbers ps
    → AreOfNumbers (if b then qs else ps)
numbers_if true ps qs one two = one refl
numbers_if false ps qs one two = two

numbers_kept : (d : Direction) (v : Value) (k : ℕ) (ps : Positions) → AreOfNumbers ps → AreOfNumbers (value_added d v k ps)
unfolding value_added
numbers_kept d v k ps all = numbers_if (nat_lt k (length ps)) ps
    (set ps k (with_value (is_vertical d) v (position_at ps k)))
    (λ t. numbers_set ps k (with_value (is_vertical d) v (position_at ps k)) all
    (value_numbers (is_vertical d) v (position_at ps k) (numbers_at ps k all (grind (arith, nat_tests, t))))) all

-- ---- VALUES THAT MOVE NOTHING

none_of : (a b : Bool) → (a || b) ≡ false → (a ≡ false) × (b ≡ false)
none_of true b e = absurd (false≢true (sym e))
none_of false b e = (refl, e)

some_moves : (n : ℕ) → not (suc n == 0) ≡ false → ⊥
some_moves n e =
    let other : (suc n == 0) ≡ false = grind (arith, nat_tests) in false≢true (sym e ∙ ap not other)

zero_is : (z : ℤ) → is_not_zero z ≡ false → z ≡ pos 0
zero_is (pos zero) e = refl
zero_is (pos (suc n)) e = absurd (some_moves n e)
zero_is (negsuc n) e = absurd (some_moves n e)

plus_zero : (a z : ℤ) → IsOf32Bits a → is_not_zero z ≡ false → plus a z ≡ a
plus_zero a z is e =
    let none : a +ℤ pos 0 ≡ a = omega (arith, ints) in
    ap (plus a) (zero_is z e) ∙ ap (saturate_to_bits 31) none ∙ is

minus_zero : (a z : ℤ) → IsOf32Bits a → is_not_zero z ≡ false → minus a z ≡ a
minus_zero a z is e =
    let none : a -ℤ pos 0 ≡ a = omega (arith, ints) in
    ap (minus a) (zero_is z e) ∙ ap (saturate_to_bits 31) none ∙ is

across : GlyphPosition → ℤ → ℤ → ℤ → GlyphPosition
across p a x y = record p { y_advance = a; x_offset = x; y_offset = y }

along : GlyphPosition → ℤ → ℤ → ℤ → GlyphPosition
along p a x y = record p { x_advance = a; x_offset = x; y_offset = y }

value_idle : (vertical : Bool) (v : Value) (p : GlyphPosition) → IsOfNumbers p → does_move vertical v ≡ false
    → with_value vertical v p ≡ p
unfolding with_value does_move across along
value_idle true v p is e =
    let one = none_of (is_not_zero v.x_placement || is_not_zero v.y_placement) (is_not_zero v.y_advance) e in
    let two = none_of (is_not_zero v.x_placement) (is_not_zero v.y_placement) one.0 in
    ap (λ a. across p a (plus p.x_offset v.x_placement) (plus p.y_offset v.y_placement))
    (minus_zero p.y_advance v.y_advance is.y_advance one.1)
    ∙ ap (λ x. across p p.y_advance x (plus p.y_offset v.y_placement)) (plus_zero p.x_offset v.x_placement is.x_offset two.0)
    ∙ ap (across p p.y_advance p.x_offset) (plus_zero p.y_offset v.y_placement is.y_offset two.1)
value_idle false v p is e =
    let one = none_of (is_not_zero v.x_placement || is_not_zero v.y_placement) (is_not_zero v.x_advance) e in
    let two = none_of (is_not_zero v.x_placement) (is_not_zero v.y_placement) one.0 in
    ap (λ a. along p a (plus p.x_offset v.x_placement) (plus p.y_offset v.y_placement))
    (plus_zero p.x_advance v.x_advance is.x_advance one.1)
    ∙ ap (λ x. along p p.x_advance x (plus p.y_offset v.y_placement)) (plus_zero p.x_offset v.x_placement is.x_offset two.0)
    ∙ ap (along p p.x_advance p.x_offset) (plus_zero p.y_offset v.y_placement is.y_offset two.1)

idle_if : (b : Bool) (ps : Positions) (k : ℕ) (x : GlyphPosition) → (b ≡ true → x ≡ position_at ps k)
    → (let qs : Positions = (if b then set ps k x else ps) in qs) ≡ ps
idle_if true ps k x is = ap (set ps k) (is refl) ∙ set-get_or ps k default_position
idle_if false ps k x is = refl

added_idle : (d : Direction) (v : Value) (k : ℕ) (ps : Positions) → AreOfNumbers ps
    → does_move (is_vertical d) v ≡ false → value_added d v k ps ≡ ps
unfolding value_added
added_idle d v k ps all e =
    idle_if (nat_lt k (length ps)) ps k (with_value (is_vertical d) v (position_at ps k))
    (λ t. value_idle (is_vertical d) v (position_at ps k) (numbers_at ps k all (grind (arith, nat_tests, t))) e)

-- ---- A PAIR'S POSITIONS, and the place that comes next

abbrev pub pair_placed : Direction → Option PairMove → ℕ → Positions → Positions
pair_placed d None at ps = ps
pair_placed d (Some m) at ps = value_added d m.second_value m.second (value_added d m.first_value at ps)

abbrev pub pair_next : Option PairMove → ℕ → ℕ
pair_next None at = at + 1
pair_next (Some m) at = if m.has_second then m.second + 1 else m.second

pub placed_long : (d : Direction) (o : Option PairMove) (at : ℕ) (ps : Positions)
    → length (pair_placed d o at ps) ≡ length ps
placed_long d None at ps = refl
placed_long d (Some m) at ps = added_long d m.second_value m.second (value_added d m.first_value at ps)
    ∙ added_long d m.first_value at ps

pub placed_numbers : (d : Direction) (o : Option PairMove) (at : ℕ) (ps : Positions) → AreOfNumbers ps
    → AreOfNumbers (pair_placed d o at ps)
placed_numbers d None at ps all = all
placed_numbers d (Some m) at ps all = numbers_kept d m.second_value m.second (value_added d m.first_value at ps)
    (numbers_kept d m.first_value at ps all)

pub placed_idle : (d : Direction) (m : PairMove) (at : ℕ) (ps : Positions) → AreOfNumbers ps
    → holds_together d m ≡ false → pair_placed d (Some m) at ps ≡ ps
placed_idle d m at ps all e =
    let moves = none_of m.has_second (does_move (is_vertical d) m.first_value || does_move (is_vertical d) m.second_value) e
    in let two = none_of (does_move (is_vertical d) m.first_value) (does_move (is_vertical d) m.second_value) moves.1 in
    ap (value_added d m.second_value m.second) (added_idle d m.first_value at ps all two.0)
    ∙ added_idle d m.second_value m.second ps all two.1

pub next_idle : (d : Direction) (m : PairMove) (at : ℕ) → holds_together d m ≡ false
    → pair_next (Some m) at ≡ m.second
next_idle d m at e =
    let moves = none_of m.has_second (does_move (is_vertical d) m.first_value || does_move (is_vertical d) m.second_value) e
    in ap (λ b. if b then m.second + 1 else m.second) moves.0

next_by : (b : Bool) (n : ℕ) → n ≤ (if b then n + 1 else n)
next_by true n = omega arith
next_by false n = omega arith

next_upto : (b : Bool) (n : ℕ) → (if b then n + 1 else n) ≤ n + 1
next_upto true n = omega arith
next_upto false n = omega arith

pub next_low : (m : PairMove) (at : ℕ) → m.second ≤ pair_next (Some m) at
next_low m at = next_by m.has_second m.second

pub next_high : (m : PairMove) (at : ℕ) → pair_next (Some m) at ≤ m.second + 1
next_high m at = next_upto m.has_second m.second

-- ---- FLAGS

pub flagged_only : (on : Bool) (start last : ℕ) (gs : Glyphs) → FlagsOnly gs (flagged_up_to on start last gs)
unfolding flagged_up_to
flagged_only on start last gs =
    let end = end_behind last gs in
    only_if (on && nat_le start end && nat_le (end - start) 255) gs (unsafe_inside start end gs)
    (λ t. (let low : nat_le start end ≡ true =
    (both_true on (nat_le start end) (both_true (on && nat_le start end) (nat_le (end - start) 255) t).0).1 in
    unsafe_only start end gs (grind (arith, nat_tests, low))))

pub flagged_is : (on : Bool) (start last : ℕ) (gs : Glyphs) → on ≡ true → start ≤ end_behind last gs
    → end_behind last gs - start ≤ 255 → flagged_up_to on start last gs ≡ unsafe_inside start (end_behind last gs) gs
unfolding flagged_up_to
flagged_is on start last gs is low few =
    let end = end_behind last gs in
    let one : nat_le start end ≡ true = grind (arith, nat_tests, low) in
    let two : nat_le (end - start) 255 ≡ true = grind (arith, nat_tests, few) in
    let made : Bool → Bool → Bool → Glyphs = λ x y z. (if x && y && z then unsafe_inside start end gs else gs) in
    ap (λ x. made x (nat_le start end) (nat_le (end - start) 255)) is
    ∙ ap (λ y. made true y (nat_le (end - start) 255)) one ∙ ap (made true true) two

moves_by : Direction → PairMove → Bool
moves_by d m = does_move (is_vertical d) m.first_value || does_move (is_vertical d) m.second_value

both_added : Direction → PairMove → ℕ → Positions → Positions
both_added d m at ps = value_added d m.second_value m.second (value_added d m.first_value at ps)

pair_made : Direction → Bool → PairMove → ℕ → Glyphs → Positions → Progress
pair_made d b m at gs ps =
    if b then record {
      glyphs = flagged_up_to true at (m.second + 1) gs;
      positions = both_added d m at ps;
      next = m.second + 1;
    }
    else record {
      glyphs = flagged_up_to (moves_by d m) at m.second gs;
      positions = both_added d m at ps;
      next = m.second;
    }

record IsPairStep (d : Direction) (b : Bool) (m : PairMove) (at : ℕ) (gs : Glyphs) (ps : Positions) (c : Progress) :
    Type 0 where
  pub positions : c.positions ≡ both_added d m at ps
  pub next : c.next ≡ (if b then m.second + 1 else m.second)
  pub only : FlagsOnly gs c.glyphs
  pub flagged : (b || moves_by d m) ≡ true → (let end = end_behind (if b then m.second + 1 else m.second) gs in
      at ≤ end → end - at ≤ 255 → c.glyphs ≡ unsafe_inside at end gs)

is_pair_step : (d : Direction) (b : Bool) (m : PairMove) (at : ℕ) (gs : Glyphs) (ps : Positions)
    → IsPairStep d b m at gs ps (pair_made d b m at gs ps)
unfolding pair_made
is_pair_step d true m at gs ps = record {
  positions = refl;
  next = refl;
  only = flagged_only true at (m.second + 1) gs;
  flagged = λ h low few. flagged_is true at (m.second + 1) gs refl low few;
}
is_pair_step d false m at gs ps = record {
  positions = refl;
  next = refl;
  only = flagged_only (moves_by d m) at m.second gs;
  flagged = λ h low few. flagged_is (moves_by d m) at m.second gs h low few;
}

made_inside : (d : Direction) (m : PairMove) (at : ℕ) (gs : Glyphs) (ps : Positions) → m.second < length gs
    → moved d (Kerns m) at gs ps ≡ pair_made d m.has_second m at gs ps
unfolding moved pair_moved pair_made both_added moves_by
made_inside d m at gs ps lt =
    let inside : nat_lt m.second (length gs) ≡ true = grind (arith, nat_tests, lt) in rw inside refl

-- ---- A STEP

-- no place that is clear afterwards stands inside a pair that holds together
abbrev pub FlagsPair : Direction → Glyphs → ℕ → Option PairMove → Glyphs → Type 0
FlagsPair d gs at o made = (m : PairMove) → o ≡ Some m → holds_together d m ≡ true → at < m.second
    → pair_end m gs - at ≤ 255 → (last : Glyphs) → ComesOf made last → (p : ℕ) → ClearAt last p → at < p → p ≤ m.second → ⊥

pub record StepsByPair (d : Direction) (gs : Glyphs) (ps : Positions) (at : ℕ) (o : Option PairMove) (c : Progress) :
    Type 0 where
  pub positions : c.positions ≡ pair_placed d o at ps
  pub next : c.next ≡ pair_next o at
  pub only : FlagsOnly gs c.glyphs
  pub flagged : FlagsPair d gs at o c.glyphs

end_if : (inside : Bool) (last n : ℕ) → nat_lt (last + 1) n ≡ inside → last < n
    → (let end = (if inside then last + 1 + 1 else n) in (last < end) × (end ≤ n))
end_if true last n e lt = (omega arith, grind (arith, nat_tests, e))
end_if false last n e lt = (omega (arith, lt), omega arith)

pub end_by : (b : Bool) (last n : ℕ) → last < n → (let end = (if nat_lt (if b then last + 1 else last) n then (if b then last + 1
    else last) + 1 else n) in (last < end) × (end ≤ n))
end_by true last n lt = end_if (nat_lt (last + 1) n) last n refl lt
end_by false last n lt =
    let inside : nat_lt last n ≡ true = grind (arith, nat_tests, lt) in
    rw inside (omega arith, omega (arith, lt))

pub some_pair : (x m : PairMove) → Some x ≡ Some m → x ≡ m
some_pair x m e = ap (λ (o : Option PairMove). unwrap_or o x) e

pub only_on : (xs ys zs : Glyphs) → FlagsOnly xs ys → FlagsOnly ys zs → FlagsOnly xs zs
only_on xs ys zs one two = record { comes = comes_on xs ys zs one.comes two.comes; same = two.same ∙ one.same }

pair_stepped : (d : Direction) (gs fs : Glyphs) (ps : Positions) (at : ℕ) (m : PairMove) → FlagsOnly gs fs
    → m.second < length gs → StepsByPair d gs ps at (Some m) (pair_made d m.has_second m at fs ps)
unfolding both_added moves_by
pair_stepped d gs fs ps at m only lt =
    let c = pair_made d m.has_second m at fs ps in
    let it = is_pair_step d m.has_second m at fs ps in
    let long : length fs ≡ length gs = comes_long gs fs only.comes in
    let last = (if m.has_second then m.second + 1 else m.second) in
    let ends : pair_end m fs ≡ pair_end m gs = ap (λ n. (if nat_lt last n then last + 1 else n)) long in
    record {
      positions = it.positions;
      next = it.next;
      only = only_on gs fs c.glyphs only it.only;
      flagged = λ other e holds behind few made comes p clear low high.
          (let same = some_pair m other e in
          let held : holds_together d m ≡ true = subst (λ x. holds_together d x ≡ true) (sym same) holds in
          let upto : p ≤ m.second = omega (arith, high, ap (λ (x : PairMove). x.second) same) in
          let short : pair_end m gs - at ≤ 255 = subst (λ x. pair_end x gs - at ≤ 255) (sym same) few in
          let within = end_by m.has_second m.second (length gs) lt in
          let is = it.flagged held (omega (arith, low, upto, within.0, ends)) (omega (arith, short, ends)) in
          not_unsafe fs made at (pair_end m fs) p (omega (arith, within.1, ends, long))
          (subst (λ x. ComesOf x made) is comes) clear low (omega (arith, upto, within.0, ends)));
    }

stepped_if : (s : Setting) (gs fs : Glyphs) (ps : Positions) (at : ℕ) (seen : Bool) (o : Option PairMove) → FlagsOnly gs fs
    → ((m : PairMove) → o ≡ Some m → m.second < length gs)
    → StepsByPair s.direction gs ps at (if seen then o else None) (let c : Progress = (if seen then stepped_by s at fs ps
    (option_map kerning o) else passed at gs ps) in c)
stepped_if s gs fs ps at false o only inside = record {
  positions = refl;
  next = refl;
  only = only_none gs;
  flagged = λ m e. absurd (cc);
}
stepped_if s gs fs ps at true None only inside = record {
  positions = refl;
  next = refl;
  only = only;
  flagged = λ m e. absurd (cc);
}
stepped_if s gs fs ps at true (Some m) only inside =
    let lt = inside m refl in
    subst (StepsByPair s.direction gs ps at (Some m)) (sym (made_inside s.direction m at fs ps
    (omega (arith, lt, comes_long gs fs only.comes)))) (pair_stepped s.direction gs fs ps at m only lt)

pub tried_flags : (s : Setting) (sights : Sights) (table : List ℕ) (gs : Glyphs) (at : ℕ) → FlagsOnly gs (tried s sights table gs at)
unfolding tried
tried_flags s sights table gs at = only_if (s.concat && nat_lt at (length gs)) gs
    (unjoined (lookup_looked s sights table gs at) gs) (λ t. unjoined_flags (lookup_looked s sights table gs at) gs)

pub steps_by_pair : (s : Setting) (table : List ℕ) (gs : Glyphs) (ps : Positions) (at : ℕ) → AreOfPairs table
    → at < length gs → StepsByPair s.direction gs ps at (pair_seen s.gdef table s.how gs at)
    (position_stepped s (sights_in s table) table gs ps at)
unfolding position_stepped pair_seen sights_in sight_of_input
steps_by_pair s table gs ps at all lt =
    let sights = sights_in s table in
    let step = stepped_if s gs (tried s sights table gs at) ps at (sees s.gdef table s.how.mask (glyph_at gs at))
    (found_with s.gdef table s.how gs at) (tried_flags s sights table gs at)
    (λ m e. found_inside s.gdef table s.how gs at m e) in
    rw (comes_to_pair s table gs at all lt) step
