-- The pair that a lookup of GPOS finds at a place of a text, and in a part of the text.
use Rattle.std.proofs.Common.{Bool, List, None, Option, Some, ap, arith, bit_and, false, if◌then◌else◌, inl, inr, is_some, length, nat_lt, not, option_and_then, option_map, refl, subst, suc, sym, true, unwrap_or, zero, ℕ, ◌%◌, ◌&&◌, ◌+◌, ◌-◌, ◌<◌, ◌==◌, ◌||◌, ◌∙◌, ◌≡◌, ◌≤◌, ◌⊎◌}
use Rattle.std.proofs.lemmas.Bool.{false≢true}
use Rattle.std.proofs.lemmas.Bool.Decides.{nat_tests}
use Rattle.std.specs.Option.{option_map_or}
use Rattle.shapers_buffer.specs.Glyph.{without_flags}
use Rattle.shapers_buffer.specs.Glyphs.{Glyph, Glyphs}
use Rattle.opentype_face.specs.Firsts.{first_from, or_else}
use Rattle.opentype_face.specs.Lookups.{mark_set_in, subtable_in, subtables_in, type_in}
use Rattle.opentype_gpos.specs.Coming.{Setting, came_in, nth_came, sights_in}
use Rattle.opentype_gpos.specs.Moves.{covered_by, is_first_in, number_at, one_move, pair_move, pair_values, pair_with}
use Rattle.opentype_gpos.specs.Nearby.{any_seen, next_any}
use Rattle.opentype_gpos.specs.Values.{pair_in, pair_place}
use Rattle.opentype_gpos.specs.declared.moves.Move.{Move}
use Rattle.opentype_gpos.specs.declared.moves.Move.TheVariants.{Kerns}
use Rattle.opentype_gpos.specs.declared.moves.PairMove.{PairMove}
use Rattle.opentype_gpos.specs.declared.pass.Sights.{Sights}
use Rattle.opentype_layout.specs.Rules.{Found}
use Rattle.opentype_layout.specs.Sight.{flag_in, ignores, is_hit, is_passed, may_pass, next_from, seen_as, sight_of_input, syllable_in}
use Rattle.opentype_layout.specs.Text.{glyph_at}
use Rattle.opentype_layout.specs.declared.sight.Application.{Application}
use Rattle.opentype_layout.specs.declared.sight.Sight.{Sight}
use Rattle.opentype_break_laws.proofs.ByGlyph.{first_mapped}
use Rattle.opentype_break_laws.proofs.ContextParts.{inside_or}
use Rattle.opentype_break_laws.proofs.LigatureFits.{essence, next_below, next_least}
use Rattle.opentype_break_laws.proofs.LigatureViews.{AlikeTo, alike_long, at_same}
use Rattle.opentype_break_laws.proofs.SingleMoves.{moves_one}
use Rattle.opentype_break_laws.specs.Pairs.{pair_seen, pair_by, pair_for, sees}

-- ---- SEARCHES for the next glyph

-- the glyph that a search ends with is one
hit_by : (o : Option Bool) (rest : Option ℕ) (f : ℕ → Option Bool) (at q : ℕ) → o ≡ f at
    → (rest ≡ Some q → is_hit (f q) ≡ true)
    → (if is_passed o then rest else (if is_hit o then Some at else None)) ≡ Some q → is_hit (f q) ≡ true
hit_by None rest f at q is on e = on e
hit_by (Some true) rest f at q is on e =
    subst (λ i. is_hit (f i) ≡ true) (ap (λ (o : Option ℕ). unwrap_or o 0) e) (ap is_hit (sym is))
hit_by (Some false) rest f at q is on e = absurd (cc)

next_hit : (n : ℕ) (f : ℕ → Option Bool) (at q : ℕ) → next_from n f at ≡ Some q → is_hit (f q) ≡ true
unfolding next_from
next_hit zero f at q e = absurd (cc)
next_hit (suc n) f at q e = hit_by (f at) (next_from n f (at + 1)) f at q refl (λ r. next_hit n f (at + 1) q r) e

not_both : (o : Option Bool) → is_passed o ≡ true → is_hit o ≡ true → ⊥
not_both None one two = false≢true two
not_both (Some b) one two = false≢true one

over_by : (o : Option Bool) (rest : Option ℕ) (at q r : ℕ) → (is_passed o ≡ true → rest ≡ Some r → r ≤ q) → at ≤ q
    → (if is_passed o then rest else (if is_hit o then Some at else None)) ≡ Some r → r ≤ q
over_by None rest at q r on le e = on refl e
over_by (Some true) rest at q r on le e = omega (arith, le, ap (λ (o : Option ℕ). unwrap_or o 0) e)
over_by (Some false) rest at q r on le e = absurd (cc)

-- a search goes no farther than to such a glyph
next_not_over : (n : ℕ) (f : ℕ → Option Bool) (at q r : ℕ) → is_hit (f q) ≡ true → at ≤ q → next_from n f at ≡ Some r
    → r ≤ q
unfolding next_from
next_not_over zero f at q r hit le e = absurd (cc)
next_not_over (suc n) f at q r hit le e = over_by (f at) (next_from n f (at + 1)) at q r
    (λ passed rest. elim (inside_or at q) [
      | inl lt ↦ next_not_over n f (at + 1) q r hit (omega (arith, lt)) rest
      | inr out ↦ (let same : at ≡ q = omega (arith, le, out) in
          absurd (not_both (f q) (subst (λ i. is_passed (f i) ≡ true) same passed) hit))
    ]) le e

pub next_same : (n : ℕ) (f h : ℕ → Option Bool) (at : ℕ) → ((i : ℕ) → f i ≡ h i) → next_from n f at ≡ next_from n h at
unfolding next_from
next_same zero f h at same = refl
next_same (suc n) f h at same =
    let go : Option Bool → Option ℕ → Option ℕ = λ o rest. (if is_passed o then rest else (if is_hit o then Some at
    else None)) in
    ap (λ o. go o (next_from n f (at + 1))) (same at) ∙ ap (go (h at)) (next_same n f h (at + 1) same)

-- The same search in a part of a text: it finds the same place, or nothing; then that in the text finds nothing in the
-- part.
abbrev pub NextAgrees : ℕ → ℕ → Option ℕ → Option ℕ → Type 0
NextAgrees from end o p = ((q : ℕ) × ((o ≡ Some q) × (p ≡ Some (from + q))))
    ⊎ ((o ≡ None) × ((q : ℕ) → p ≡ Some q → end ≤ q))

agrees_by : (o : Option Bool) (rest other : Option ℕ) (from end at : ℕ) → NextAgrees from end rest other
    → NextAgrees from end (if is_passed o then rest else (if is_hit o then Some at else None)) (if is_passed o then other
    else (if is_hit o then Some (from + at) else None))
agrees_by None rest other from end at on = on
agrees_by (Some true) rest other from end at on = inl (at, (refl, refl))
agrees_by (Some false) rest other from end at on = inr (refl, λ q e. absurd (cc))

pub next_agrees : (n m : ℕ) (f h : ℕ → Option Bool) (from at end : ℕ) → ((i : ℕ) → at ≤ i → i < at + n → f i ≡ h (from + i))
    → n ≤ m → end ≡ from + at + n → NextAgrees from end (next_from n f at) (next_from m h (from + at))
unfolding next_from
next_agrees zero m f h from at end same few is =
    inr (refl, λ q e. omega (arith, is, next_least m h (from + at) q e))
next_agrees (suc n) zero f h from at end same few is = absurd (omega (arith, few))
next_agrees (suc n) (suc m) f h from at end same few is =
    let here : f at ≡ h (from + at) = same at (omega arith) (omega arith) in
    let on : from + (at + 1) ≡ from + at + 1 = omega arith in
    let rest = next_agrees n m f h from (at + 1) end (λ i low high. same i (omega (arith, low)) (omega (arith, high)))
    (omega (arith, few)) (omega (arith, is)) in
    let other = subst (λ x. NextAgrees from end (next_from n f (at + 1)) (next_from m h x)) on rest in
    subst (λ o. NextAgrees from end (if is_passed (f at) then next_from n f (at + 1) else (if is_hit (f at) then Some at
    else None)) (if is_passed o then next_from m h (from + at + 1) else (if is_hit o then Some (from + at) else None)))
    here (agrees_by (f at) (next_from n f (at + 1)) (next_from m h (from + at + 1)) from end at other)

-- ---- WHAT A TABLE OF PAIRS comes to

abbrev pub AreOfPairs : List ℕ → Type 0
AreOfPairs table = (i : ℕ) → i < subtables_in table → type_in 9 table i ≡ 2

abbrev pub kerning : PairMove → Move ⊎ Found
kerning pair = inl (Kerns pair)

-- what one subtable has for the glyph at a place, and another one
nth_pair : List ℕ → Glyphs → ℕ → Option ℕ → ℕ → Option PairMove
nth_pair table gs at o i = option_and_then (λ second. option_map (pair_by (subtable_in 9 table i) second)
    (pair_in (subtable_in 9 table i) (number_at gs at) (number_at gs second))) o

values_mapped : (bytes : List ℕ) (second : ℕ) (o : Option ℕ)
    → option_map inl (option_map (pair_values bytes second) o) ≡ option_map kerning (option_map (pair_by bytes second) o)
values_mapped bytes second None = refl
values_mapped bytes second (Some place) = refl

if_covered : (bytes : List ℕ) (first number second : ℕ) (c : Option ℕ)
    → option_map inl (if is_some c then option_map (pair_values bytes second) (pair_place bytes first number c) else None)
    ≡ option_map kerning (option_map (pair_by bytes second) (pair_place bytes first number c))
if_covered bytes first number second None = refl
if_covered bytes first number second (Some i) = values_mapped bytes second (pair_place bytes first number (Some i))

none_either : (b : Bool) → option_map inl (let o : Option Move = (if b then None else None) in o) ≡ option_map kerning None
none_either true = refl
none_either false = refl

move_is : (bytes : List ℕ) (gs : Glyphs) (at : ℕ) (o : Option ℕ)
    → option_map inl (if is_first_in bytes (glyph_at gs at) then option_and_then (pair_with bytes gs at) o else None)
    ≡ option_map kerning (option_and_then (λ second. option_map (pair_by bytes second)
    (pair_in bytes (number_at gs at) (number_at gs second))) o)
unfolding pair_with
move_is bytes gs at None = none_either (is_first_in bytes (glyph_at gs at))
move_is bytes gs at (Some second) = if_covered bytes (number_at gs at) (number_at gs second) second
    (covered_by bytes 2 (number_at gs at))

by_two : (s : Setting) (sights : Sights) (bytes : List ℕ) (gs : Glyphs) (at : ℕ)
    → option_map inl (one_move s.gdef sights.input 2 bytes gs at)
    ≡ option_map kerning (option_and_then (λ second. option_map (pair_by bytes second)
    (pair_in bytes (number_at gs at) (number_at gs second))) (next_any s.gdef sights.input gs (at + 1)))
unfolding one_move pair_move
by_two s sights bytes gs at = move_is bytes gs at (next_any s.gdef sights.input gs (at + 1))

nth_is : (s : Setting) (sights : Sights) (table : List ℕ) (gs : Glyphs) (at i : ℕ) → type_in 9 table i ≡ 2
    → nth_came s sights table gs at i
    ≡ option_map kerning (nth_pair table gs at (next_any s.gdef sights.input gs (at + 1)) i)
unfolding nth_pair
nth_is s sights table gs at i is = moves_one s sights table gs at i 2 is refl ∙ by_two s sights (subtable_in 9 table i) gs at

none_first : {X : Type 0} (n i : ℕ) → first_from n (λ j. let o : Option X = None in o) i ≡ None
unfolding first_from
none_first zero i = refl
none_first (suc n) i = none_first n (i + 1)

first_of : (table : List ℕ) (gs : Glyphs) (at : ℕ) (o : Option ℕ)
    → first_from (subtables_in table) (nth_pair table gs at o) 0
    ≡ option_and_then (λ second. pair_for table (number_at gs at) (number_at gs second) second) o
unfolding nth_pair
first_of table gs at None = none_first (subtables_in table) 0
first_of table gs at (Some second) = refl

-- the pair of the glyph at a place, whether or not the lookup sees that
abbrev pub found_with : List ℕ → List ℕ → Application → Glyphs → ℕ → Option PairMove
found_with gdef table how gs at = option_and_then (λ second.
    pair_for table (number_at gs at) (number_at gs second) second)
    (next_any gdef (sight_of_input gdef table how 0) gs (at + 1))

pub comes_to_pair : (s : Setting) (table : List ℕ) (gs : Glyphs) (at : ℕ) → AreOfPairs table → at < length gs
    → came_in s (sights_in s table) table gs at ≡ option_map kerning (found_with s.gdef table s.how gs at)
unfolding came_in sights_in
comes_to_pair s table gs at all lt =
    let inside : nat_lt at (length gs) ≡ true = grind (arith, nat_tests) in
    let sights = sights_in s table in
    let o = next_any s.gdef sights.input gs (at + 1) in
    rw inside (first_mapped kerning (nth_pair table gs at o) (nth_came s sights table gs at) (subtables_in table) 0
    (λ d less. nth_is s sights table gs at (0 + d) (all (0 + d) (omega (arith, less)))) ∙ ap (option_map kerning)
    (first_of table gs at o))

-- ---- WHERE ITS SECOND GLYPH stands

or_has : {X : Type 0} (P : X → Type 0) (o p : Option X) (x : X) → (o ≡ Some x → P x) → (p ≡ Some x → P x)
    → or_else o p ≡ Some x → P x
or_has P None p x one two e = two e
or_has P (Some y) p x one two e = one e

first_has : {X : Type 0} (P : X → Type 0) (f : ℕ → Option X) (n i : ℕ) (x : X) → ((j : ℕ) → f j ≡ Some x → P x)
    → first_from n f i ≡ Some x → P x
unfolding first_from
first_has P f zero i x has e = absurd (cc)
first_has P f (suc n) i x has e =
    or_has P (f i) (first_from n f (i + 1)) x (has i) (first_has P f n (i + 1) x has) e

second_by : (bytes : List ℕ) (second : ℕ) (o : Option ℕ) (m : PairMove) → option_map (pair_by bytes second) o ≡ Some m
    → m.second ≡ second
second_by bytes second None m e = absurd (cc)
second_by bytes second (Some place) m e =
    ap (λ (x : Option PairMove). option_map_or (λ (y : PairMove). y.second) x second) (sym e)

pub second_is : (table : List ℕ) (first number second : ℕ) (m : PairMove) → pair_for table first number second ≡ Some m
    → m.second ≡ second
second_is table first number second m e = first_has (λ (x : PairMove). x.second ≡ second)
    (λ i. option_map (pair_by (subtable_in 9 table i) second) (pair_in (subtable_in 9 table i) first number))
    (subtables_in table) 0 m (λ j r. second_by (subtable_in 9 table j) second
    (pair_in (subtable_in 9 table j) first number) m r) e

second_next : (table : List ℕ) (gs : Glyphs) (at : ℕ) (o : Option ℕ) (m : PairMove)
    → option_and_then (λ second. pair_for table (number_at gs at) (number_at gs second) second) o ≡ Some m
    → o ≡ Some m.second
second_next table gs at None m e = absurd (cc)
second_next table gs at (Some second) m e =
    ap Some (sym (second_is table (number_at gs at) (number_at gs second) second m e))

pub seen_pair : {X : Type 0} (seen : Bool) (o : Option X) (x : X) → (if seen then o else None) ≡ Some x → o ≡ Some x
seen_pair true o x e = e
seen_pair false o x e = absurd (cc)

pub found_second : (gdef table : List ℕ) (how : Application) (gs : Glyphs) (at : ℕ) (m : PairMove)
    → found_with gdef table how gs at ≡ Some m
    → next_any gdef (sight_of_input gdef table how 0) gs (at + 1) ≡ Some m.second
found_second gdef table how gs at m e =
    second_next table gs at (next_any gdef (sight_of_input gdef table how 0) gs (at + 1)) m e

pub found_inside : (gdef table : List ℕ) (how : Application) (gs : Glyphs) (at : ℕ) (m : PairMove)
    → found_with gdef table how gs at ≡ Some m → m.second < length gs
found_inside gdef table how gs at m e =
    let next = found_second gdef table how gs at m e in
    omega (arith, next_below _ _ (at + 1) m.second next, next_least _ _ (at + 1) m.second next)

pub next_second : (gdef table : List ℕ) (how : Application) (gs : Glyphs) (at : ℕ) (m : PairMove)
    → pair_seen gdef table how gs at ≡ Some m
    → next_any gdef (sight_of_input gdef table how 0) gs (at + 1) ≡ Some m.second
unfolding pair_seen
next_second gdef table how gs at m e =
    second_next table gs at (next_any gdef (sight_of_input gdef table how 0) gs (at + 1)) m
    (seen_pair (sees gdef table how.mask (glyph_at gs at)) _ m e)

pub second_behind : (gdef table : List ℕ) (how : Application) (gs : Glyphs) (at : ℕ) (m : PairMove)
    → pair_seen gdef table how gs at ≡ Some m → at < m.second
second_behind gdef table how gs at m e = omega (arith, next_least _ _ (at + 1) m.second (next_second gdef table how gs at m e))

pub second_inside : (gdef table : List ℕ) (how : Application) (gs : Glyphs) (at : ℕ) (m : PairMove)
    → pair_seen gdef table how gs at ≡ Some m → m.second < length gs
second_inside gdef table how gs at m e =
    let below = next_below _ _ (at + 1) m.second (next_second gdef table how gs at m e) in
    omega (arith, below, second_behind gdef table how gs at m e)

passed_by : (o : Option Bool) (rest : Option ℕ) (f : ℕ → Option Bool) (at q j : ℕ) → o ≡ f at
    → (rest ≡ Some q → at < j → is_passed (f j) ≡ true) → at ≤ j → j < q
    → (if is_passed o then rest else (if is_hit o then Some at else None)) ≡ Some q → is_passed (f j) ≡ true
passed_by None rest f at q j is on le lt e = elim (inside_or at j) [
  | inl low ↦ on e low
  | inr out ↦ (let same : at ≡ j = omega (arith, le, out) in
      subst (λ i. is_passed (f i) ≡ true) same (ap is_passed (sym is)))
]
passed_by (Some true) rest f at q j is on le lt e =
    absurd (omega (arith, le, lt, ap (λ (o : Option ℕ). unwrap_or o 0) e))
passed_by (Some false) rest f at q j is on le lt e = absurd (cc)

-- a search passes over all glyphs before the one that it ends with
pub next_passed : (n : ℕ) (f : ℕ → Option Bool) (at q j : ℕ) → next_from n f at ≡ Some q → at ≤ j → j < q
    → is_passed (f j) ≡ true
unfolding next_from
next_passed zero f at q j e le lt = absurd (cc)
next_passed (suc n) f at q j e le lt = passed_by (f at) (next_from n f (at + 1)) f at q j refl
    (λ r low. next_passed n f (at + 1) q j r (omega (arith, low)) lt) le lt e

-- a pair that begins inside another one ends with that
pub ends_within : (gdef table : List ℕ) (how : Application) (gs : Glyphs) (at inside : ℕ) (m other : PairMove)
    → pair_seen gdef table how gs at ≡ Some m → at < inside → inside < m.second
    → pair_seen gdef table how gs inside ≡ Some other → other.second ≡ m.second
ends_within gdef table how gs at inside m other e low high r =
    let f : ℕ → Option Bool = λ i. any_seen gdef (sight_of_input gdef table how 0) (glyph_at gs i) in
    let outer = next_second gdef table how gs at m e in
    let inner = next_second gdef table how gs inside other r in
    let few = next_not_over (length gs - (inside + 1)) f (inside + 1) m.second other.second
    (next_hit (length gs - (at + 1)) f (at + 1) m.second outer) (omega (arith, high)) inner in
    let behind = second_behind gdef table how gs inside other r in
    elim (inside_or other.second m.second) [
      | inl lt ↦ absurd (not_both (f other.second) (next_passed (length gs - (at + 1)) f (at + 1) m.second other.second outer
          (omega (arith, low, behind)) lt) (next_hit (length gs - (inside + 1)) f (inside + 1) other.second inner))
      | inr le ↦ omega (arith, few, le)
    ]

-- ---- TEXTS THAT ARE ALIKE

-- a lookup for GPOS whose mask has no glyph flag
pub record IsOfFeatures (how : Application) : Type 0 where
  pub of_gpos : how.of_gpos ≡ true
  pub flagless : (m : ℕ) → bit_and (without_flags m) how.mask ≡ bit_and m how.mask

unfoldable pub seen_by_bits : List ℕ → Sight → ℕ → Bool → Glyph → Option Bool
seen_by_bits gdef sight held here g =
    if ignores gdef sight.flag sight.set g then None
    else (if not (may_pass sight g) && not (held == 0) && here then Some true
    else (if may_pass sight g then None else Some false))

pub anywhere : (how : Application) → how.of_gpos ≡ true → syllable_in how 0 ≡ 0
anywhere how e = rw e refl

any_essence : (gdef table : List ℕ) (how : Application) (g : Glyph) → IsOfFeatures how
    → any_seen gdef (sight_of_input gdef table how 0) (essence g) ≡ any_seen gdef (sight_of_input gdef table how 0) g
unfolding any_seen seen_as ignores may_pass sight_of_input seen_by_bits
any_essence gdef table how g is =
    let sight = sight_of_input gdef table how 0 in
    let within : ℕ → ℕ → Bool = λ n byte. (n == 0) || (n == byte) in
    let none = anywhere how is.of_gpos in
    ap (λ m. seen_by_bits gdef sight m (within (syllable_in how 0) (g.syllable % 16)) g) (is.flagless g.mask)
    ∙ ap (λ b. seen_by_bits gdef sight (bit_and g.mask how.mask) b g)
    (ap (λ n. within n (g.syllable % 16)) none ∙ sym (ap (λ n. within n g.syllable) none))

pub any_alike : (gdef table : List ℕ) (how : Application) (g h : Glyph) → IsOfFeatures how → essence g ≡ essence h
    → any_seen gdef (sight_of_input gdef table how 0) g ≡ any_seen gdef (sight_of_input gdef table how 0) h
any_alike gdef table how g h is e = sym (any_essence gdef table how g is)
    ∙ ap (any_seen gdef (sight_of_input gdef table how 0)) e ∙ any_essence gdef table how h is

sees_essence : (gdef table : List ℕ) (how : Application) (g : Glyph) → IsOfFeatures how
    → sees gdef table how.mask (essence g) ≡ sees gdef table how.mask g
unfolding ignores
sees_essence gdef table how g is =
    ap (λ n. not (n == 0) && not (ignores gdef (flag_in gdef table) (mark_set_in table) g)) (is.flagless g.mask)

pub sees_alike : (gdef table : List ℕ) (how : Application) (g h : Glyph) → IsOfFeatures how → essence g ≡ essence h
    → sees gdef table how.mask g ≡ sees gdef table how.mask h
sees_alike gdef table how g h is e = sym (sees_essence gdef table how g is)
    ∙ ap (sees gdef table how.mask) e ∙ sees_essence gdef table how h is

pub number_alike : (g h : Glyph) → essence g ≡ essence h → g.glyph_id % 65536 ≡ h.glyph_id % 65536
number_alike g h e = ap (λ (x : Glyph). x.glyph_id % 65536) e

pub then_same : {X Y : Type 0} (f h : X → Option Y) (o : Option X) → ((x : X) → f x ≡ h x)
    → option_and_then f o ≡ option_and_then h o
then_same f h None same = refl
then_same f h (Some x) same = same x

pub pair_same : (gdef table : List ℕ) (how : Application) (gs hs : Glyphs) (at : ℕ) → IsOfFeatures how
    → AlikeTo essence gs hs → pair_seen gdef table how gs at ≡ pair_seen gdef table how hs at
unfolding pair_seen
pair_same gdef table how gs hs at is same =
    let sight = sight_of_input gdef table how 0 in
    let number : (i : ℕ) → number_at gs i ≡ number_at hs i = λ i. number_alike (glyph_at gs i) (glyph_at hs i)
    (at_same essence gs hs i same) in
    let long : length gs ≡ length hs = alike_long essence gs hs same in
    let f : Glyphs → ℕ → Option Bool = λ xs i. any_seen gdef sight (glyph_at xs i) in
    let next : next_any gdef sight gs (at + 1) ≡ next_any gdef sight hs (at + 1) =
    next_same (length gs - (at + 1)) (f gs) (f hs) (at + 1) (λ i. any_alike gdef table how (glyph_at gs i) (glyph_at hs i)
    is (at_same essence gs hs i same)) ∙ ap (λ n. next_from (n - (at + 1)) (f hs) (at + 1)) long in
    let found : (o : Option ℕ) → option_and_then (λ second. pair_for table (number_at gs at) (number_at gs second) second) o
    ≡ option_and_then (λ second. pair_for table (number_at hs at) (number_at hs second) second) o =
    λ o. then_same _ _ o (λ second. ap (λ n. pair_for table n (number_at gs second) second) (number at)
    ∙ ap (λ n. pair_for table (number_at hs at) n second) (number second)) in
    ap (λ b. if b then found_with gdef table how gs at else None) (sees_alike gdef table how (glyph_at gs at)
    (glyph_at hs at) is (at_same essence gs hs at same))
    ∙ ap (λ o. if sees gdef table how.mask (glyph_at hs at) then o else None) (found (next_any gdef sight gs (at + 1))
    ∙ ap (option_and_then (λ second. pair_for table (number_at hs at) (number_at hs second) second)) next)
