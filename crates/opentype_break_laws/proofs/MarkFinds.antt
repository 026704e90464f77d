-- The mark that a lookup of GPOS attaches at a place of a text, and in a part of the text.
use Rattle.std.proofs.Common.{Bool, List, None, Option, Some, ap, arith, bit_and, false, if◌then◌else◌, inl, inr, is_some, length, nat_lt, not, option_and_then, option_map, refl, subst, suc, sym, true, unwrap_or, zero, ℕ, ◌%◌, ◌&&◌, ◌+◌, ◌-◌, ◌<◌, ◌==◌, ◌||◌, ◌∙◌, ◌≡◌, ◌≤◌, ◌⊎◌}
use Rattle.std.proofs.lemmas.Bool.Decides.{nat_tests}
use Rattle.std.specs.Option.{option_map_or}
use Rattle.shapers_buffer.specs.Glyphs.{Glyph, Glyphs}
use Rattle.shapers_buffer.specs.Properties.{component, is_multiplied}
use Rattle.opentype_face.specs.Bytes.{table_at, u16_in}
use Rattle.opentype_face.specs.Firsts.{first_from, or_else}
use Rattle.opentype_face.specs.Lookups.{subtable_in, subtables_in, type_in}
use Rattle.opentype_gpos.specs.Anchors.{points_in}
use Rattle.opentype_gpos.specs.Coming.{Setting, came_in, nth_came, sights_in}
use Rattle.opentype_gpos.specs.Moves.{attached_by, attaching, base_move, covered_by, is_first_in, number_at, one_move}
use Rattle.opentype_gpos.specs.Nearby.{any_seen, base_behind, base_glyph_before, base_sight, carries_on, is_base_at, is_later_multiple}
use Rattle.opentype_gpos.specs.declared.anchors.Point.{Point}
use Rattle.opentype_gpos.specs.declared.moves.MarkMove.{MarkMove}
use Rattle.opentype_gpos.specs.declared.moves.Move.{Move}
use Rattle.opentype_gpos.specs.declared.moves.Move.TheVariants.{Attaches}
use Rattle.opentype_gpos.specs.declared.pass.Sights.{Sights}
use Rattle.opentype_layout.specs.Rules.{Found}
use Rattle.opentype_layout.specs.Sight.{ignores, is_hit, may_pass, seen_as, sight_of_input}
use Rattle.opentype_layout.specs.Text.{glyph_at}
use Rattle.opentype_layout.specs.declared.sight.Application.{Application}
use Rattle.opentype_layout.specs.declared.sight.Sight.{Sight}
use Rattle.opentype_break_laws.proofs.ByGlyph.{first_mapped}
use Rattle.opentype_break_laws.proofs.LigatureFits.{IsPartOf, LooksAnywhere, essence}
use Rattle.opentype_break_laws.proofs.LigatureWalk.{free_at}
use Rattle.opentype_break_laws.proofs.PairFinds.{IsOfFeatures, anywhere, seen_by_bits}
use Rattle.opentype_break_laws.proofs.SingleMoves.{moves_one}
use Rattle.opentype_break_laws.specs.Marks.{base_at, mark_by, mark_for, nearest_base, upon}
use Rattle.opentype_break_laws.specs.OrderedTexts.{HasNoComponents}

-- ---- THE FIRST OF SEVERAL

pub first_alike : {X : Type 0} (f h : ℕ → Option X) (n i : ℕ) → ((d : ℕ) → d < n → f (i + d) ≡ h (i + d))
    → first_from n f i ≡ first_from n h i
unfolding first_from
first_alike f h zero i same = refl
first_alike f h (suc n) i same =
    let z : i + 0 ≡ i = omega arith in
    let here : f i ≡ h i = subst (λ j. f j ≡ h j) z (same 0 (omega arith)) in
    let rest = first_alike f h n (i + 1) (λ d lt. (let k : i + suc d ≡ i + 1 + d = omega arith in
    subst (λ j. f j ≡ h j) k (same (suc d) (omega (arith, lt))))) in
    ap (λ o. or_else o (first_from n f (i + 1))) here ∙ ap (or_else (h i)) rest

or_from : {X : Type 0} (P : X → Type 0) (o p : Option X) (x : X) → (o ≡ Some x → P x) → (p ≡ Some x → P x)
    → or_else o p ≡ Some x → P x
or_from P None p x one two e = two e
or_from P (Some y) p x one two e = one e

first_within : {X : Type 0} (P : X → Type 0) (f : ℕ → Option X) (n i : ℕ) (x : X)
    → ((j : ℕ) → i ≤ j → j < i + n → f j ≡ Some x → P x) → first_from n f i ≡ Some x → P x
unfolding first_from
first_within P f zero i x has e = absurd (cc)
first_within P f (suc n) i x has e = or_from P (f i) (first_from n f (i + 1)) x (has i (omega arith) (omega arith))
    (first_within P f n (i + 1) x (λ j low high. has j (omega (arith, low)) (omega (arith, high)))) e

or_joined : {X : Type 0} (o p q : Option X) → or_else o (or_else p q) ≡ or_else (or_else o p) q
or_joined None p q = refl
or_joined (Some x) p q = refl

first_split : {X : Type 0} (f : ℕ → Option X) (n m i : ℕ)
    → first_from (n + m) f i ≡ or_else (first_from n f i) (first_from m f (i + n))
unfolding first_from
first_split f zero m i =
    let one : 0 + m ≡ m = omega arith in
    let two : i ≡ i + 0 = omega arith in
    ap (λ k. first_from k f i) one ∙ ap (first_from m f) two
first_split f (suc n) m i =
    let one : suc n + m ≡ suc (n + m) = omega arith in
    let two : i + 1 + n ≡ i + suc n = omega arith in
    ap (λ k. first_from k f i) one ∙ ap (or_else (f i)) (first_split f n m (i + 1)
    ∙ ap (λ k. or_else (first_from n f (i + 1)) (first_from m f k)) two)
    ∙ or_joined (f i) (first_from n f (i + 1)) (first_from m f (i + suc n))

-- ---- WHAT A TABLE OF MARKS comes to

abbrev pub AreOfMarks : List ℕ → Type 0
AreOfMarks table = (i : ℕ) → i < subtables_in table → type_in 9 table i ≡ 4

abbrev pub hanging : MarkMove → Move ⊎ Found
hanging mark = inl (Attaches mark)

-- no glyph carries on what a lookup put in for one
pub CarriesNone : Glyphs → Type 0
CarriesNone gs = (at : ℕ) → is_later_multiple gs at ≡ false

bits_none : (a b c d e f : Bool) → b ≡ false → (a && b && c && d && e && f) ≡ false
bits_none true b c d e f off = ap (λ x. x && c && d && e && f) off
bits_none false b c d e f off = refl

carries_if : (b c : Bool) → c ≡ false → (if b then false else c) ≡ false
carries_if true c e = refl
carries_if false c e = e

pub carries_none : (gs : Glyphs) → HasNoComponents gs → CarriesNone gs
unfolding CarriesNone is_later_multiple carries_on
carries_none gs none at =
    let g = glyph_at gs at in
    let before = glyph_at gs (at - 1) in
    let off : not (component g.lig_props == 0) ≡ false = ap (λ n. not (n == 0)) (free_at gs at none) in
    carries_if (at == 0) _ (bits_none (is_multiplied g.glyph_props) (not (component g.lig_props == 0)) _ _ _ _ off)

base_if : (hit later covered : Bool) (place : ℕ) → later ≡ false
    → (let o : Option ℕ = (if hit && (false || not later || covered) then Some place else None) in o)
    ≡ (if hit then Some place else None)
base_if true later covered place e = ap (λ b. if true && (false || not b || covered) then Some place else None) e
base_if false later covered place e = refl

base_is : (gdef : List ℕ) (sight : Sight) (bases : List ℕ) (gs : Glyphs) (at : ℕ) → CarriesNone gs
    → base_glyph_before gdef sight false bases gs at ≡ nearest_base gdef (base_sight sight) gs at
unfolding base_glyph_before base_behind is_base_at CarriesNone
base_is gdef sight bases gs at none = first_alike (base_behind gdef (base_sight sight) false bases gs at)
    (λ i. base_at gdef (base_sight sight) gs (at - 1 - i)) at 0
    (λ d lt. base_if (is_hit (any_seen gdef (base_sight sight) (glyph_at gs (at - 1 - (0 + d)))))
    (is_later_multiple gs (at - 1 - (0 + d))) _ (at - 1 - (0 + d)) (none (at - 1 - (0 + d))))

nth_mark : List ℕ → Glyphs → ℕ → Option ℕ → ℕ → Option MarkMove
nth_mark table gs at o i = option_and_then (λ to. mark_by (subtable_in 9 table i) (number_at gs at) (number_at gs to) to) o

upon_mapped : (to : ℕ) (o : Option (Point × Point))
    → option_map inl (option_map (attaching to) o) ≡ option_map hanging (option_map (upon to) o)
upon_mapped to None = refl
upon_mapped to (Some points) = refl

mark_if : (covered : Bool) (to : ℕ) (o : Option (Point × Point))
    → option_map inl (if covered then option_map (attaching to) o else None)
    ≡ option_map hanging (if covered then option_map (upon to) o else None)
mark_if true to o = upon_mapped to o
mark_if false to o = refl

none_either : (b : Bool) → option_map inl (let o : Option Move = (if b then None else None) in o) ≡ option_map hanging None
none_either true = refl
none_either false = refl

move_is : (bytes : List ℕ) (gs : Glyphs) (at : ℕ) (o : Option ℕ)
    → option_map inl (if is_first_in bytes (glyph_at gs at) then option_and_then (attached_by bytes gs at) o else None)
    ≡ option_map hanging (option_and_then (λ to. mark_by bytes (number_at gs at) (number_at gs to) to) o)
unfolding attached_by
move_is bytes gs at None = none_either (is_first_in bytes (glyph_at gs at))
move_is bytes gs at (Some to) = mark_if (is_first_in bytes (glyph_at gs at)) to
    (points_in bytes (number_at gs at) (number_at gs to))

by_four : (s : Setting) (sights : Sights) (bytes : List ℕ) (gs : Glyphs) (at : ℕ) → CarriesNone gs
    → option_map inl (one_move s.gdef sights.input 4 bytes gs at)
    ≡ option_map hanging (option_and_then (λ to. mark_by bytes (number_at gs at) (number_at gs to) to)
    (nearest_base s.gdef (base_sight sights.input) gs at))
unfolding one_move base_move
by_four s sights bytes gs at none =
    move_is bytes gs at (base_glyph_before s.gdef sights.input false (table_at bytes (u16_in bytes 4)) gs at)
    ∙ ap (λ o. option_map hanging (option_and_then (λ to. mark_by bytes (number_at gs at) (number_at gs to) to) o))
    (base_is s.gdef sights.input (table_at bytes (u16_in bytes 4)) gs at none)

nth_is : (s : Setting) (sights : Sights) (table : List ℕ) (gs : Glyphs) (at i : ℕ) → CarriesNone gs → type_in 9 table i ≡ 4
    → nth_came s sights table gs at i
    ≡ option_map hanging (nth_mark table gs at (nearest_base s.gdef (base_sight sights.input) gs at) i)
unfolding nth_mark
nth_is s sights table gs at i none is = moves_one s sights table gs at i 4 is refl
    ∙ by_four s sights (subtable_in 9 table i) gs at none

none_first : {X : Type 0} (n i : ℕ) → first_from n (λ j. let o : Option X = None in o) i ≡ None
unfolding first_from
none_first zero i = refl
none_first (suc n) i = none_first n (i + 1)

first_of : (table : List ℕ) (gs : Glyphs) (at : ℕ) (o : Option ℕ)
    → first_from (subtables_in table) (nth_mark table gs at o) 0
    ≡ option_and_then (λ to. mark_for table (number_at gs at) (number_at gs to) to) o
unfolding nth_mark
first_of table gs at None = none_first (subtables_in table) 0
first_of table gs at (Some to) = refl

abbrev pub hung_with : List ℕ → List ℕ → Application → Glyphs → ℕ → Option MarkMove
hung_with gdef table how gs at = option_and_then (λ to. mark_for table (number_at gs at) (number_at gs to) to)
    (nearest_base gdef (base_sight (sight_of_input gdef table how 0)) gs at)

pub comes_to_mark : (s : Setting) (table : List ℕ) (gs : Glyphs) (at : ℕ) → AreOfMarks table → CarriesNone gs
    → at < length gs → came_in s (sights_in s table) table gs at ≡ option_map hanging (hung_with s.gdef table s.how gs at)
unfolding came_in sights_in
comes_to_mark s table gs at all none lt =
    let inside : nat_lt at (length gs) ≡ true = grind (arith, nat_tests) in
    let sights = sights_in s table in
    let o = nearest_base s.gdef (base_sight sights.input) gs at in
    rw inside (first_mapped hanging (nth_mark table gs at o) (nth_came s sights table gs at) (subtables_in table) 0
    (λ d less. nth_is s sights table gs at (0 + d) none (all (0 + d) (omega (arith, less))))
    ∙ ap (option_map hanging) (first_of table gs at o))

-- ---- WHERE ITS BASE stands

base_place : (hit : Bool) (place q : ℕ) → (let o : Option ℕ = (if hit then Some place else None) in o) ≡ Some q
    → q ≡ place
base_place true place q e = ap (λ (o : Option ℕ). unwrap_or o 0) (sym e)
base_place false place q e = absurd (cc)

pub base_met_before : (gdef : List ℕ) (sight : Sight) (gs : Glyphs) (at q : ℕ) → nearest_base gdef sight gs at ≡ Some q → q < at
base_met_before gdef sight gs at q e = first_within (λ x. x < at) (λ i. base_at gdef sight gs (at - 1 - i)) at 0 q
    (λ j low high r. omega (
      arith,
      high,
      base_place (is_hit (any_seen gdef sight (glyph_at gs (at - 1 - j)))) (at - 1 - j) q r,
    )) e

to_by : (bytes : List ℕ) (mark base to : ℕ) (covered : Bool) (o : Option (Point × Point)) (m : MarkMove)
    → (let x : Option MarkMove = (if covered then option_map (upon to) o else None) in x) ≡ Some m → m.to ≡ to
to_by bytes mark base to true None m e = absurd (cc)
to_by bytes mark base to true (Some points) m e =
    ap (λ (x : Option MarkMove). option_map_or (λ (y : MarkMove). y.to) x to) (sym e)
to_by bytes mark base to false o m e = absurd (cc)

pub to_is : (table : List ℕ) (mark base to : ℕ) (m : MarkMove) → mark_for table mark base to ≡ Some m → m.to ≡ to
to_is table mark base to m e = first_within (λ (x : MarkMove). x.to ≡ to)
    (λ i. mark_by (subtable_in 9 table i) mark base to) (subtables_in table) 0 m
    (λ j low high r. to_by (subtable_in 9 table j) mark base to (is_some (covered_by (subtable_in 9 table j) 2 mark))
    (points_in (subtable_in 9 table j) mark base) m r) e

to_found : (table : List ℕ) (gs : Glyphs) (at : ℕ) (o : Option ℕ) (m : MarkMove)
    → option_and_then (λ to. mark_for table (number_at gs at) (number_at gs to) to) o ≡ Some m → o ≡ Some m.to
to_found table gs at None m e = absurd (cc)
to_found table gs at (Some to) m e = ap Some (sym (to_is table (number_at gs at) (number_at gs to) to m e))

pub hung_before : (gdef table : List ℕ) (how : Application) (gs : Glyphs) (at : ℕ) (m : MarkMove)
    → hung_with gdef table how gs at ≡ Some m → m.to < at
hung_before gdef table how gs at m e =
    let sight = base_sight (sight_of_input gdef table how 0) in
    base_met_before gdef sight gs at m.to (to_found table gs at (nearest_base gdef sight gs at) m e)

-- ---- TEXTS THAT ARE ALIKE

pub base_looks : (gdef table : List ℕ) (how : Application) → IsOfFeatures how
    → LooksAnywhere (base_sight (sight_of_input gdef table how 0))
unfolding sight_of_input
base_looks gdef table how is = record { flagless = is.flagless; anywhere = anywhere how is.of_gpos }

any_essence_at : (gdef : List ℕ) (sight : Sight) (g : Glyph) → LooksAnywhere sight
    → any_seen gdef sight (essence g) ≡ any_seen gdef sight g
unfolding any_seen seen_as ignores may_pass seen_by_bits
any_essence_at gdef sight g looks =
    let within : ℕ → ℕ → Bool = λ n byte. (n == 0) || (n == byte) in
    ap (λ m. seen_by_bits gdef sight m (within sight.syllable (g.syllable % 16)) g) (looks.flagless g.mask)
    ∙ ap (λ b. seen_by_bits gdef sight (bit_and g.mask sight.mask) b g)
    (ap (λ n. within n (g.syllable % 16)) looks.anywhere ∙ sym (ap (λ n. within n g.syllable) looks.anywhere))

pub base_alike : (gdef : List ℕ) (sight : Sight) (g h : Glyph) → LooksAnywhere sight → essence g ≡ essence h
    → is_hit (any_seen gdef sight g) ≡ is_hit (any_seen gdef sight h)
base_alike gdef sight g h looks e = ap is_hit (sym (any_essence_at gdef sight g looks) ∙ ap (any_seen gdef sight) e
    ∙ any_essence_at gdef sight h looks)

-- the base in a part of a text: the text's, or that stands before the part
abbrev pub BaseAgrees : ℕ → Option ℕ → Option ℕ → Type 0
BaseAgrees from o w = ((q : ℕ) × ((o ≡ Some q) × (w ≡ Some (from + q))))
    ⊎ ((o ≡ None) × ((q : ℕ) → w ≡ Some q → q < from))

by_first : (from : ℕ) (o w p : Option ℕ) → w ≡ or_else (option_map (λ q. from + q) o) p → ((q : ℕ) → p ≡ Some q → q < from)
    → BaseAgrees from o w
by_first from None w p e far = inr (refl, λ q r. far q (sym e ∙ r))
by_first from (Some q) w p e far = inl (q, (refl, e))

mapped_if : (from place : ℕ) (hit : Bool) → (let o : Option ℕ = (if hit then Some (from + place) else None) in o)
    ≡ option_map (λ q. from + q) (if hit then Some place else None)
mapped_if from place true = refl
mapped_if from place false = refl

pub base_agrees : (gdef : List ℕ) (sight : Sight) (hs gs : Glyphs) (from i : ℕ) → LooksAnywhere sight → IsPartOf hs gs from
    → i < length hs → BaseAgrees from (nearest_base gdef sight hs i) (nearest_base gdef sight gs (from + i))
base_agrees gdef sight hs gs from i looks part lt =
    let f : ℕ → Option ℕ = λ k. base_at gdef sight hs (i - 1 - k) in
    let h : ℕ → Option ℕ = λ k. base_at gdef sight gs (from + i - 1 - k) in
    let turned : from + i ≡ i + from = omega arith in
    let same : (d : ℕ) → d < i → h (0 + d) ≡ option_map (λ q. from + q) (f (0 + d)) = λ d less.
    (let k = i - 1 - (0 + d) in
    let there : from + i - 1 - (0 + d) ≡ from + k = omega (arith, less) in
    let inside : k < length hs = omega (arith, lt) in
    ap (base_at gdef sight gs) there ∙ mapped_if from k (is_hit (any_seen gdef sight (glyph_at gs (from + k))))
    ∙ ap (λ b. option_map (λ q. from + q) (let o : Option ℕ = (if b then Some k else None) in o))
    (sym (base_alike gdef sight (glyph_at hs k) (glyph_at gs (from + k)) looks (part.alike k inside)))) in
    by_first from (first_from i f 0) (first_from (from + i) h 0) (first_from from h (0 + i))
    (ap (λ n. first_from n h 0) turned ∙ first_split h i from 0
    ∙ ap (λ o. or_else o (first_from from h (0 + i))) (first_mapped (λ q. from + q) f h i 0 same))
    (λ q e. first_within (λ x. x < from) h from (0 + i) q (λ j low high r. omega (
      arith,
      low,
      high,
      base_place (is_hit (any_seen gdef sight (glyph_at gs (from + i - 1 - j)))) (from + i - 1 - j) q r,
    )) e)
