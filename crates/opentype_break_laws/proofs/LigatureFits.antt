-- Which ligature of a lookup fits a part of a text that stands by itself, by which one fits the text there.
use Rattle.std.proofs.Common.{ℕ, zero, suc, ◌+◌, ◌-◌, ◌*◌, ◌%◌, ◌<◌, ◌≤◌, ◌≡◌, ◌==◌, ◌&&◌, ◌||◌, not, nat_lt, bit_and, if◌then◌else◌, Bool, true, false, is_some, List, [], ◌∷◌, length, Option, None, Some, option_and_then, option_map, map, unwrap_or, refl, sym, ap, subst, ◌∙◌, arith}
use Rattle.std.specs.List.{AllByRecursion, list_any}
use Rattle.std.proofs.lemmas.Bool.{false≢true}
use Rattle.shapers_buffer.specs.Glyph.{without_flags}
use Rattle.shapers_buffer.specs.Glyphs.{Glyph, Glyphs}
use Rattle.shapers_buffer.specs.Properties.{component}
use Rattle.shapers_buffer.specs.declared.buffer.lookup_record.LookupRecord.{LookupRecord}
use Rattle.opentype_face.specs.Bytes.{table_at, u16_in}
use Rattle.opentype_face.specs.Firsts.{first_from, or_else}
use Rattle.opentype_face.specs.Lookups.{rule_count_in, subtable_in, subtables_in}
use Rattle.opentype_layout.specs.Ligatures.{if_together, input_in, is_apart, is_attached, ligature_in}
use Rattle.opentype_layout.specs.Pattern.{is_number, next_in, places_from, seen_by}
use Rattle.opentype_layout.specs.Sight.{ignores, is_hit, is_passed, may_pass, next_from, seen_as}
use Rattle.opentype_layout.specs.Text.{glyph_at}
use Rattle.opentype_layout.specs.declared.sight.Sight.{Sight}
use Rattle.opentype_gsub.specs.Applied.{PlaceChange, ligated_put, ligature_put, two_byte_number}
use Rattle.opentype_gsub.specs.Decided.{set_for_glyph}
use Rattle.opentype_gsub.specs.Ligatures.{ligature_of, nth_ligature}
use Rattle.opentype_gsub.specs.Setting.{Setting}
use Rattle.opentype_break_laws.specs.OrderedTexts.{HasNoComponents}
use Rattle.opentype_break_laws.proofs.ByGlyph.{first_mapped}

-- ---- GLYPHS that a lookup of features doesn't tell apart

-- a glyph without its cluster and glyph flags, the serial of its syllable and the number of its ligature
abbrev pub essence : Glyph → Glyph
essence g = record g {
  cluster = 0;
  mask = without_flags g.mask;
  syllable = g.syllable % 16;
  lig_props = record { 0 = g.lig_props.0 % 32 };
}

-- how a lookup looks at a text wherever it is: its mask has no glyph flag, and it stays in no syllable
pub record LooksAnywhere (sight : Sight) : Type 0 where
  pub flagless : (mask : ℕ) → bit_and (without_flags mask) sight.mask ≡ bit_and mask sight.mask
  pub anywhere : sight.syllable ≡ 0

-- what it makes of a glyph, by the bits of the mask and whether the syllable is its own
seen_with : List ℕ → Sight → (ℕ → ℕ → Bool) → ℕ → ℕ → Bool → Glyph → Option Bool
seen_with gdef sight test k held here g =
    if ignores gdef sight.flag sight.set g then None
    else (if test k (g.glyph_id % 65536) && not (held == 0) && here then Some true
    else (if may_pass sight g then None else Some false))

seen_essence : (gdef : List ℕ) (sight : Sight) (test : ℕ → ℕ → Bool) (k : ℕ) (g : Glyph) → LooksAnywhere sight
    → seen_by gdef sight test k (essence g) ≡ seen_by gdef sight test k g
unfolding seen_by seen_as ignores may_pass seen_with
seen_essence gdef sight test k g looks =
    let within : ℕ → ℕ → Bool = λ n byte. (n == 0) || (n == byte) in
    ap (λ m. seen_with gdef sight test k m (within sight.syllable (g.syllable % 16)) g) (looks.flagless g.mask)
    ∙ ap (λ b. seen_with gdef sight test k (bit_and g.mask sight.mask) b g)
    (ap (λ n. within n (g.syllable % 16)) looks.anywhere ∙ sym (ap (λ n. within n g.syllable) looks.anywhere))

seen_alike : (gdef : List ℕ) (sight : Sight) (test : ℕ → ℕ → Bool) (k : ℕ) (g h : Glyph) → LooksAnywhere sight
    → essence g ≡ essence h → seen_by gdef sight test k g ≡ seen_by gdef sight test k h
seen_alike gdef sight test k g h looks same = sym (seen_essence gdef sight test k g looks)
    ∙ ap (seen_by gdef sight test k) same ∙ seen_essence gdef sight test k h looks

-- a part of a text, from a place on: glyph by glyph the same but for those
pub record IsPartOf (gs hs : Glyphs) (from : ℕ) : Type 0 where
  pub within : from + length gs ≤ length hs
  pub alike : (i : ℕ) → i < length gs → essence (glyph_at gs i) ≡ essence (glyph_at hs (from + i))

-- ---- WHAT IS FOUND in the part is found in the text

by_one : (o : Option Bool) (rest other : Option ℕ) (from at p : ℕ) → (rest ≡ Some p → other ≡ Some (from + p))
    → (if is_passed o then rest else (if is_hit o then Some at else None)) ≡ Some p
    → (if is_passed o then other else (if is_hit o then Some (from + at) else None)) ≡ Some (from + p)
by_one None rest other from at p on e = on e
by_one (Some true) rest other from at p on e = ap (option_map (λ q. from + q)) e
by_one (Some false) rest other from at p on e = absurd (cc)

pub next_found : (n m : ℕ) (f h : ℕ → Option Bool) (from at : ℕ) → ((i : ℕ) → at ≤ i → i < at + n → f i ≡ h (from + i))
    → n ≤ m → (p : ℕ) → next_from n f at ≡ Some p → next_from m h (from + at) ≡ Some (from + p)
unfolding next_from
next_found zero m f h from at same few p e = absurd (cc)
next_found (suc n) zero f h from at same few p e = absurd (omega (arith, few))
next_found (suc n) (suc m) f h from at same few p e =
    let here : f at ≡ h (from + at) = same at (omega arith) (omega arith) in
    let on : from + (at + 1) ≡ from + at + 1 = omega arith in
    let rest = next_found n m f h from (at + 1) (λ i low high. same i (omega (arith, low)) (omega (arith, high))) (omega (arith, few)) p in
    subst (λ o. (if is_passed o then next_from m h (from + at + 1) else (if is_hit o then Some (from + at) else None))
    ≡ Some (from + p)) here
    (by_one (f at) (next_from n f (at + 1)) (next_from m h (from + at + 1)) from at p
    (λ r. subst (λ x. next_from m h x ≡ Some (from + p)) on (rest r)) e)

-- one is found where another is
abbrev pub FoundToo : {X Y : Type 0} → Option X → Option Y → Type 0
FoundToo o p = is_some o ≡ true → is_some p ≡ true

none_too : {X Y : Type 0} (o : Option X) (p : Option Y) → FoundToo o p → p ≡ None → o ≡ None
none_too None p too e = refl
none_too (Some x) p too e = absurd (false≢true (sym (ap is_some e) ∙ too refl))

some_mapped : {X Y : Type 0} (f : X → Y) (o : Option X) → is_some (option_map f o) ≡ is_some o
some_mapped f None = refl
some_mapped f (Some x) = refl

mapped_too : {X Y V W : Type 0} (f : X → V) (h : Y → W) (o : Option X) (p : Option Y) → FoundToo o p
    → FoundToo (option_map f o) (option_map h p)
mapped_too f h o p too e = some_mapped h p ∙ too (sym (some_mapped f o) ∙ e)

if_too : {X : Type 0} (test : Bool) (o p : Option X) → FoundToo o p
    → FoundToo (if test then None else o) (if test then None else p)
if_too true o p too e = absurd (false≢true e)
if_too false o p too e = too e

then_too : {X Y : Type 0} (f h : X → Option Y) (o : Option X) → ((x : X) → FoundToo (f x) (h x))
    → FoundToo (option_and_then f o) (option_and_then h o)
then_too f h None too e = absurd (false≢true e)
then_too f h (Some x) too e = too x e

or_too : {X : Type 0} (o p other more : Option X) → FoundToo o other → FoundToo p more
    → FoundToo (or_else o p) (or_else other more)
or_too o p (Some x) more one rest e = refl
or_too None p None more one rest e = rest e
or_too (Some x) p None more one rest e = absurd (false≢true (one refl))

first_too : {X : Type 0} (f h : ℕ → Option X) (n i : ℕ) → ((d : ℕ) → d < n → FoundToo (f (i + d)) (h (i + d)))
    → FoundToo (first_from n f i) (first_from n h i)
unfolding first_from
first_too f h zero i too e = absurd (false≢true e)
first_too f h (suc n) i too e =
    let z : i + 0 ≡ i = omega arith in
    or_too (f i) (first_from n f (i + 1)) (h i) (first_from n h (i + 1))
    (subst (λ j. FoundToo (f j) (h j)) z (too 0 (omega arith)))
    (first_too f h n (i + 1) (λ d lt. (let k : i + suc d ≡ i + 1 + d = omega arith in
    subst (λ j. FoundToo (f j) (h j)) k (too (suc d) (omega arith))))) e

place_too : (o other : Option ℕ) (f h : ℕ → Option (List ℕ)) (from : ℕ) → ((p : ℕ) → o ≡ Some p → other ≡ Some (from + p))
    → ((p : ℕ) → FoundToo (f p) (h (from + p))) → FoundToo (option_and_then f o) (option_and_then h other)
place_too None other f h from same too e = absurd (false≢true e)
place_too (Some p) other f h from same too e =
    subst (λ x. is_some (option_and_then h x) ≡ true) (sym (same p refl)) (too p e)

places_too : (count : ℕ) (next other : ℕ → ℕ → Option ℕ) (from : ℕ)
    → ((k at p : ℕ) → next k at ≡ Some p → other k (from + at) ≡ Some (from + p))
    → (k at : ℕ) → FoundToo (places_from count next k at) (places_from count other k (from + at))
unfolding places_from
places_too zero next other from same k at e = refl
places_too (suc n) next other from same k at e =
    place_too (next k at) (other k (from + at)) _ _ from (same k at)
    (λ p. mapped_too _ _ (places_from n next (k + 1) (p + 1)) (places_from n other (k + 1) (from + p + 1))
    (let on : from + (p + 1) ≡ from + p + 1 = omega arith in
    subst (λ x. FoundToo (places_from n next (k + 1) (p + 1)) (places_from n other (k + 1) x)) on
    (places_too n next other from same (k + 1) (p + 1)))) e

-- ---- A LIGATURE'S INPUT

and_false : (b : Bool) → (b && false) ≡ false
and_false true = refl
and_false false = refl

unattached : (g : Glyph) → component g.lig_props ≡ 0 → is_attached g.lig_props ≡ false
unattached g e = ap (λ n. not (ligature_in g.lig_props == 0) && not (n == 0)) e
    ∙ and_false (not (ligature_in g.lig_props == 0))

neither : (first other x c : Bool) → first ≡ false → other ≡ false → (if first then x else (other && c)) ≡ false
neither true other x c one two = absurd (false≢true (sym one))
neither false true x c one two = absurd (false≢true (sym two))
neither false false x c one two = refl

component_at : (gs : Glyphs) → HasNoComponents gs → (i : ℕ) → component (glyph_at gs i).lig_props ≡ 0
component_at [] all i = refl
component_at (g ∷ gs) all zero = all.0
component_at (g ∷ gs) all (suc i) = component_at gs all.1 i

none_apart : (gdef : List ℕ) (sight : Sight) (gs : Glyphs) (at place : ℕ) → HasNoComponents gs
    → is_apart gdef sight gs at place ≡ false
unfolding is_apart
none_apart gdef sight gs at place all =
    neither (is_attached (glyph_at gs at).lig_props) (is_attached (glyph_at gs place).lig_props) _ _
    (unattached (glyph_at gs at) (component_at gs all at)) (unattached (glyph_at gs place) (component_at gs all place))

any_none : (f : ℕ → Bool) → ((i : ℕ) → f i ≡ false) → (xs : List ℕ) → list_any f xs ≡ false
any_none f none [] = refl
any_none f none (x ∷ xs) = ap (λ b. b || list_any f xs) (none x) ∙ any_none f none xs

together_too : (gdef : List ℕ) (sight : Sight) (gs hs : Glyphs) (at from : ℕ) (o p : Option (List ℕ)) → HasNoComponents hs
    → FoundToo o p → FoundToo (if_together gdef sight gs at o) (if_together gdef sight hs (from + at) p)
together_too gdef sight gs hs at from None p all too e = absurd (false≢true e)
together_too gdef sight gs hs at from (Some ps) None all too e = too refl
together_too gdef sight gs hs at from (Some ps) (Some qs) all too e =
    ap (λ b. is_some (if b then None else Some qs))
    (any_none (is_apart gdef sight hs (from + at)) (λ q. none_apart gdef sight hs (from + at) q all) qs)

input_too : (gdef : List ℕ) (sight : Sight) (test : ℕ → ℕ → Bool) (count : ℕ) (gs hs : Glyphs) (from at : ℕ)
    → LooksAnywhere sight → IsPartOf gs hs from → HasNoComponents hs
    → FoundToo (input_in gdef sight test count gs at) (input_in gdef sight test count hs (from + at))
unfolding input_in
input_too gdef sight test count gs hs from at looks part all =
    let next : (k x p : ℕ) → next_in gdef sight test gs k x ≡ Some p
    → next_in gdef sight test hs k (from + x) ≡ Some (from + p) = λ k x p.
    next_found (length gs - x) (length hs - (from + x)) (λ i. seen_by gdef sight test k (glyph_at gs i))
    (λ i. seen_by gdef sight test k (glyph_at hs i)) from x
    (λ i low high. seen_alike gdef sight test k (glyph_at gs i) (glyph_at hs (from + i)) looks
    (part.alike i (omega (arith, low, high)))) (omega (arith, part.within)) p in
    let on : from + (at + 1) ≡ from + at + 1 = omega arith in
    together_too gdef sight gs hs at from _ _ all
    (subst (λ x. FoundToo (places_from count (next_in gdef sight test gs) 0 (at + 1))
    (places_from count (next_in gdef sight test hs) 0 x)) on
    (places_too count (next_in gdef sight test gs) (next_in gdef sight test hs) from next 0 (at + 1)))

ligature_too : (gdef : List ℕ) (sight : Sight) (gs hs : Glyphs) (from at : ℕ) (ligature : List ℕ) → LooksAnywhere sight
    → IsPartOf gs hs from → HasNoComponents hs
    → FoundToo (ligature_of gdef sight gs at ligature) (ligature_of gdef sight hs (from + at) ligature)
unfolding ligature_of
ligature_too gdef sight gs hs from at ligature looks part all =
    let count = u16_in ligature 2 in
    if_too ((count == 0) || nat_lt 64 count) _ _ (mapped_too _ _ _ _
    (input_too gdef sight (is_number (table_at ligature 4)) (count - 1) gs hs from at looks part all))

number_alike : (gs hs : Glyphs) (from at : ℕ) → IsPartOf gs hs from → at < length gs
    → two_byte_number gs at ≡ two_byte_number hs (from + at)
number_alike gs hs from at part lt = ap (λ (g : Glyph). g.glyph_id % 65536) (part.alike at lt)

ligated_too : (s t : Setting) (sight : Sight) (bytes : List ℕ) (gs hs : Glyphs) (from at : ℕ) (r q : LookupRecord)
    → s.gdef ≡ t.gdef → LooksAnywhere sight → IsPartOf gs hs from → HasNoComponents hs → at < length gs
    → FoundToo (ligated_put s.gdef s.level sight bytes gs at r) (ligated_put t.gdef t.level sight bytes hs (from + at) q)
unfolding ligated_put
ligated_too s t sight bytes gs hs from at r q same looks part all lt =
    let other : List ℕ → Option PlaceChange = λ set. option_map (ligature_put t.gdef t.level (from + at) hs q)
    (first_from (rule_count_in set) (nth_ligature t.gdef sight hs (from + at) set) 0) in
    subst (λ number. FoundToo (ligated_put s.gdef s.level sight bytes gs at r)
    (option_and_then other (set_for_glyph bytes number))) (number_alike gs hs from at part lt)
    (then_too _ other (set_for_glyph bytes (two_byte_number gs at))
    (λ set. mapped_too _ _ _ _ (subst (λ gdef. FoundToo (first_from (rule_count_in set) (nth_ligature s.gdef sight gs at set) 0)
    (first_from (rule_count_in set) (nth_ligature gdef sight hs (from + at) set) 0)) same
    (first_too (nth_ligature s.gdef sight gs at set) (nth_ligature s.gdef sight hs (from + at) set) (rule_count_in set) 0
    (λ d less. ligature_too s.gdef sight gs hs from at (table_at set (u16_in set (2 + (0 + d) * 2))) looks part all)))))

-- ---- THE LOOKUP'S LIGATURE at a place, by all its subtables

abbrev pub FittingLigature : Type 0
FittingLigature = Option (ℕ × List ℕ)

abbrev pub fit_in : List ℕ → Sight → Glyphs → ℕ → List ℕ → FittingLigature
fit_in gdef sight gs at bytes = option_and_then (λ set. first_from (rule_count_in set) (nth_ligature gdef sight gs at set) 0)
    (set_for_glyph bytes (two_byte_number gs at))

unfoldable pub ligature_fit : List ℕ → Sight → List ℕ → Glyphs → ℕ → FittingLigature
ligature_fit gdef sight table gs at = first_from (subtables_in table) (λ i. fit_in gdef sight gs at (subtable_in 7 table i)) 0

-- in the front of a text, where it fits none in the text
pub none_fits : (gdef : List ℕ) (sight : Sight) (table : List ℕ) (gs hs : Glyphs) (from at : ℕ) → LooksAnywhere sight
    → IsPartOf gs hs from → HasNoComponents hs → at < length gs → ligature_fit gdef sight table hs (from + at) ≡ None
    → ligature_fit gdef sight table gs at ≡ None
unfolding ligature_fit
none_fits gdef sight table gs hs from at looks part all lt =
    none_too _ _ (first_too _ _ (subtables_in table) 0 (λ d less.
    (let bytes = subtable_in 7 table (0 + d) in
    let one : List ℕ → FittingLigature = λ set. first_from (rule_count_in set) (nth_ligature gdef sight gs at set) 0 in
    let other : List ℕ → FittingLigature = λ set. first_from (rule_count_in set) (nth_ligature gdef sight hs (from + at) set) 0 in
    subst (λ number. FoundToo (fit_in gdef sight gs at bytes) (option_and_then other (set_for_glyph bytes number)))
    (number_alike gs hs from at part lt)
    (then_too one other (set_for_glyph bytes (two_byte_number gs at)) (λ set.
    first_too (nth_ligature gdef sight gs at set) (nth_ligature gdef sight hs (from + at) set) (rule_count_in set) 0
    (λ e small. ligature_too gdef sight gs hs from at (table_at set (u16_in set (2 + (0 + e) * 2))) looks part all))))))

-- ---- THE SAME BEHIND other glyphs: the places move

shifted_by_one : (o : Option Bool) (rest other : Option ℕ) (from at : ℕ) → other ≡ option_map (λ q. from + q) rest
    → (if is_passed o then other else (if is_hit o then Some (from + at) else None))
    ≡ option_map (λ q. from + q) (if is_passed o then rest else (if is_hit o then Some at else None))
shifted_by_one None rest other from at e = e
shifted_by_one (Some true) rest other from at e = refl
shifted_by_one (Some false) rest other from at e = refl

next_shifted : (n : ℕ) (f h : ℕ → Option Bool) (from at : ℕ) → ((i : ℕ) → at ≤ i → i < at + n → f i ≡ h (from + i))
    → next_from n h (from + at) ≡ option_map (λ q. from + q) (next_from n f at)
unfolding next_from
next_shifted zero f h from at same = refl
next_shifted (suc n) f h from at same =
    let here : f at ≡ h (from + at) = same at (omega arith) (omega arith) in
    let on : from + (at + 1) ≡ from + at + 1 = omega arith in
    let rest = next_shifted n f h from (at + 1) (λ i low high. same i (omega (arith, low)) (omega (arith, high))) in
    subst (λ o. (if is_passed o then next_from n h (from + at + 1) else (if is_hit o then Some (from + at) else None))
    ≡ option_map (λ q. from + q) (if is_passed (f at) then next_from n f (at + 1) else (if is_hit (f at) then Some at else None)))
    here (shifted_by_one (f at) (next_from n f (at + 1)) (next_from n h (from + at + 1)) from at
    (ap (next_from n h) (sym on) ∙ rest))

abbrev pub places_behind : ℕ → List ℕ → List ℕ
places_behind from ps = map (λ q. from + q) ps

cons_moved : (from p : ℕ) (o : Option (List ℕ)) → option_map (λ ps. (from + p) ∷ ps) (option_map (places_behind from) o)
    ≡ option_map (places_behind from) (option_map (λ ps. p ∷ ps) o)
cons_moved from p None = refl
cons_moved from p (Some ps) = refl

place_moved : (o other : Option ℕ) (f h : ℕ → Option (List ℕ)) (from : ℕ) → other ≡ option_map (λ q. from + q) o
    → ((p : ℕ) → h (from + p) ≡ option_map (places_behind from) (f p))
    → option_and_then h other ≡ option_map (places_behind from) (option_and_then f o)
place_moved None other f h from e same = ap (option_and_then h) e
place_moved (Some p) other f h from e same = ap (option_and_then h) e ∙ same p

places_moved : (count : ℕ) (next other : ℕ → ℕ → Option ℕ) (from : ℕ)
    → ((k at : ℕ) → other k (from + at) ≡ option_map (λ q. from + q) (next k at))
    → (k at : ℕ) → places_from count other k (from + at) ≡ option_map (places_behind from) (places_from count next k at)
unfolding places_from
places_moved zero next other from same k at = refl
places_moved (suc n) next other from same k at =
    place_moved (next k at) (other k (from + at)) (λ p. option_map (λ ps. p ∷ ps) (places_from n next (k + 1) (p + 1)))
    (λ p. option_map (λ ps. p ∷ ps) (places_from n other (k + 1) (p + 1))) from (same k at)
    (λ p. (let on : from + (p + 1) ≡ from + p + 1 = omega arith in
    ap (λ x. option_map (λ ps. (from + p) ∷ ps) (places_from n other (k + 1) x)) (sym on)
    ∙ ap (option_map (λ ps. (from + p) ∷ ps)) (places_moved n next other from same (k + 1) (p + 1))
    ∙ cons_moved from p (places_from n next (k + 1) (p + 1))))

-- no glyph from a place on is of a ligature's component
abbrev pub NoneBehind : Glyphs → ℕ → Type 0
NoneBehind gs from = (i : ℕ) → component (glyph_at gs (from + i)).lig_props ≡ 0

apart_never : (gdef : List ℕ) (sight : Sight) (gs : Glyphs) (from at place : ℕ) → NoneBehind gs from
    → is_apart gdef sight gs (from + at) (from + place) ≡ false
unfolding is_apart
apart_never gdef sight gs from at place none =
    neither (is_attached (glyph_at gs (from + at)).lig_props) (is_attached (glyph_at gs (from + place)).lig_props) _ _
    (unattached (glyph_at gs (from + at)) (none at)) (unattached (glyph_at gs (from + place)) (none place))

any_moved : (f : ℕ → Bool) (from : ℕ) → ((i : ℕ) → f (from + i) ≡ false) → (xs : List ℕ) → list_any f (places_behind from xs) ≡ false
any_moved f from none [] = refl
any_moved f from none (x ∷ xs) = ap (λ b. b || list_any f (places_behind from xs)) (none x) ∙ any_moved f from none xs

together_moved : (gdef : List ℕ) (sight : Sight) (gs : Glyphs) (from at : ℕ) (o : Option (List ℕ)) → NoneBehind gs from
    → if_together gdef sight gs (from + at) (option_map (places_behind from) o) ≡ option_map (places_behind from) o
together_moved gdef sight gs from at None none = refl
together_moved gdef sight gs from at (Some ps) none =
    ap (λ b. if b then None else Some (places_behind from ps))
    (any_moved (is_apart gdef sight gs (from + at)) from (λ i. apart_never gdef sight gs from at i none) ps)

pub together_here : (gdef : List ℕ) (sight : Sight) (gs : Glyphs) (at : ℕ) (o : Option (List ℕ)) → HasNoComponents gs
    → if_together gdef sight gs at o ≡ o
together_here gdef sight gs at None all = refl
together_here gdef sight gs at (Some ps) all =
    ap (λ b. if b then None else Some ps)
    (any_none (is_apart gdef sight gs at) (λ q. none_apart gdef sight gs at q all) ps)

-- a text that ends with these glyphs, from a place on
pub record EndsWith (hs gs : Glyphs) (from : ℕ) : Type 0 where
  pub part : IsPartOf gs hs from
  pub whole : length hs ≡ from + length gs
  pub here : HasNoComponents gs
  pub there : NoneBehind hs from

input_moved : (gdef : List ℕ) (sight : Sight) (test : ℕ → ℕ → Bool) (count : ℕ) (gs hs : Glyphs) (from at : ℕ)
    → LooksAnywhere sight → EndsWith hs gs from
    → input_in gdef sight test count hs (from + at) ≡ option_map (places_behind from) (input_in gdef sight test count gs at)
unfolding input_in
input_moved gdef sight test count gs hs from at looks ends =
    let next : (k x : ℕ) → next_in gdef sight test hs k (from + x) ≡ option_map (λ q. from + q) (next_in gdef sight test gs k x) =
    λ k x. (let few : length hs - (from + x) ≡ length gs - x = omega (arith, ends.whole) in
    ap (λ n. next_from n (λ i. seen_by gdef sight test k (glyph_at hs i)) (from + x)) few
    ∙ next_shifted (length gs - x) (λ i. seen_by gdef sight test k (glyph_at gs i))
    (λ i. seen_by gdef sight test k (glyph_at hs i)) from x
    (λ i low high. seen_alike gdef sight test k (glyph_at gs i) (glyph_at hs (from + i)) looks
    (ends.part.alike i (omega (arith, low, high))))) in
    let on : from + (at + 1) ≡ from + at + 1 = omega arith in
    let places = places_from count (next_in gdef sight test gs) 0 (at + 1) in
    ap (λ x. if_together gdef sight hs (from + at) (places_from count (next_in gdef sight test hs) 0 x)) (sym on)
    ∙ ap (if_together gdef sight hs (from + at)) (places_moved count (next_in gdef sight test gs) (next_in gdef sight test hs) from next 0 (at + 1))
    ∙ together_moved gdef sight hs from at places ends.there
    ∙ ap (option_map (places_behind from)) (sym (together_here gdef sight gs at places ends.here))

abbrev pub moved_fit : ℕ → ℕ × List ℕ → ℕ × List ℕ
moved_fit from it = (it.0, places_behind from it.1)

if_moved : (test : Bool) (from to : ℕ) (o other : Option (List ℕ)) → other ≡ option_map (places_behind from) o
    → (if test then None else option_map (λ ps. (to, ps)) other)
    ≡ option_map (moved_fit from) (if test then None else option_map (λ ps. (to, ps)) o)
if_moved true from to o other e = refl
if_moved false from to None other e = ap (option_map (λ ps. (to, ps))) e
if_moved false from to (Some ps) other e = ap (option_map (λ qs. (to, qs))) e

ligature_moved : (gdef : List ℕ) (sight : Sight) (gs hs : Glyphs) (from at : ℕ) (ligature : List ℕ) → LooksAnywhere sight
    → EndsWith hs gs from → ligature_of gdef sight hs (from + at) ligature
    ≡ option_map (moved_fit from) (ligature_of gdef sight gs at ligature)
unfolding ligature_of
ligature_moved gdef sight gs hs from at ligature looks ends =
    let count = u16_in ligature 2 in
    if_moved ((count == 0) || nat_lt 64 count) from (u16_in ligature 0) _ _
    (input_moved gdef sight (is_number (table_at ligature 4)) (count - 1) gs hs from at looks ends)

then_moved : {X Y : Type 0} (f : Y → Y) (one other : X → Option Y) (o : Option X) → ((x : X) → other x ≡ option_map f (one x))
    → option_and_then other o ≡ option_map f (option_and_then one o)
then_moved f one other None same = refl
then_moved f one other (Some x) same = same x

pub fit_moved : (gdef : List ℕ) (sight : Sight) (table : List ℕ) (gs hs : Glyphs) (from at : ℕ) → LooksAnywhere sight
    → EndsWith hs gs from → at < length gs
    → ligature_fit gdef sight table hs (from + at) ≡ option_map (moved_fit from) (ligature_fit gdef sight table gs at)
unfolding ligature_fit
fit_moved gdef sight table gs hs from at looks ends lt =
    first_mapped (moved_fit from) (λ i. fit_in gdef sight gs at (subtable_in 7 table i))
    (λ i. fit_in gdef sight hs (from + at) (subtable_in 7 table i)) (subtables_in table) 0 (λ d less.
    (let bytes = subtable_in 7 table (0 + d) in
    let one : List ℕ → FittingLigature = λ set. first_from (rule_count_in set) (nth_ligature gdef sight gs at set) 0 in
    let other : List ℕ → FittingLigature = λ set. first_from (rule_count_in set) (nth_ligature gdef sight hs (from + at) set) 0 in
    ap (λ n. option_and_then other (set_for_glyph bytes n)) (sym (number_alike gs hs from at ends.part lt))
    ∙ then_moved (moved_fit from) one other (set_for_glyph bytes (two_byte_number gs at)) (λ set.
    first_mapped (moved_fit from) (nth_ligature gdef sight gs at set) (nth_ligature gdef sight hs (from + at) set)
    (rule_count_in set) 0 (λ e small. ligature_moved gdef sight gs hs from at (table_at set (u16_in set (2 + (0 + e) * 2))) looks ends))))

-- ---- THE SAME IN THE FRONT of a text, where what fits stands in it

least_by : (o : Option Bool) (rest : Option ℕ) (at q : ℕ) → (rest ≡ Some q → at ≤ q)
    → (if is_passed o then rest else (if is_hit o then Some at else None)) ≡ Some q → at ≤ q
least_by None rest at q on e = on e
least_by (Some true) rest at q on e = omega (arith, ap (λ (o : Option ℕ). unwrap_or o 0) e)
least_by (Some false) rest at q on e = absurd (cc)

kept_by : (o : Option Bool) (rest other : Option ℕ) (at q : ℕ) → (rest ≡ Some q → other ≡ Some q)
    → (if is_passed o then rest else (if is_hit o then Some at else None)) ≡ Some q
    → (if is_passed o then other else (if is_hit o then Some at else None)) ≡ Some q
kept_by None rest other at q on e = on e
kept_by (Some true) rest other at q on e = e
kept_by (Some false) rest other at q on e = absurd (cc)

pub next_least : (n : ℕ) (f : ℕ → Option Bool) (at q : ℕ) → next_from n f at ≡ Some q → at ≤ q
unfolding next_from
next_least zero f at q e = absurd (cc)
next_least (suc n) f at q e = least_by (f at) (next_from n f (at + 1)) at q (λ r. omega (arith, next_least n f (at + 1) q r)) e

next_kept : (n m : ℕ) (f h : ℕ → Option Bool) (at q : ℕ) → ((i : ℕ) → at ≤ i → i < at + n → f i ≡ h i)
    → next_from m h at ≡ Some q → q < at + n → next_from n f at ≡ Some q
unfolding next_from
next_kept zero m f h at q same e lt = absurd (omega (arith, next_least m h at q e))
next_kept (suc n) zero f h at q same e lt = absurd (cc)
next_kept (suc n) (suc m) f h at q same e lt =
    let here : h at ≡ f at = sym (same at (omega arith) (omega arith)) in
    subst (λ o. (if is_passed o then next_from n f (at + 1) else (if is_hit o then Some at else None)) ≡ Some q) here
    (kept_by (h at) (next_from m h (at + 1)) (next_from n f (at + 1)) at q
    (λ r. next_kept n m f h (at + 1) q (λ i low high. same i (omega (arith, low)) (omega (arith, high))) r (omega (arith, lt))) e)

pub unmapped : (p : ℕ) (o : Option (List ℕ)) (ps : List ℕ) → option_map (λ l. p ∷ l) o ≡ Some ps
    → (rest : List ℕ) × ((o ≡ Some rest) × (ps ≡ p ∷ rest))
unmapped p None ps e = absurd (cc)
unmapped p (Some l) ps e = (l, (refl, sym (ap (λ (o : Option (List ℕ)). unwrap_or o []) e)))

kept_place : (len : ℕ) (o this : Option ℕ) (h f : ℕ → Option (List ℕ)) (ps : List ℕ)
    → ((q : ℕ) → o ≡ Some q → q < len → this ≡ Some q)
    → ((p : ℕ) (rest : List ℕ) → h p ≡ Some rest → AllByRecursion (λ q. q < len) rest → f p ≡ Some rest)
    → option_and_then (λ p. option_map (λ l. p ∷ l) (h p)) o ≡ Some ps → AllByRecursion (λ q. q < len) ps
    → option_and_then (λ p. option_map (λ l. p ∷ l) (f p)) this ≡ Some ps
kept_place len None this h f ps same on e all = absurd (cc)
kept_place len (Some p) this h f ps same on e all =
    let u = unmapped p (h p) ps e in
    let below = subst (AllByRecursion (λ q. q < len)) u.1.1 all in
    ap (option_and_then (λ x. option_map (λ l. x ∷ l) (f x))) (same p refl below.0)
    ∙ ap (option_map (λ l. p ∷ l)) (on p u.0 u.1.0 below.1) ∙ ap (λ l. Some l) (sym u.1.1)

places_kept : (len count : ℕ) (next other : ℕ → ℕ → Option ℕ)
    → ((k at q : ℕ) → other k at ≡ Some q → q < len → next k at ≡ Some q) → (k at : ℕ) (ps : List ℕ)
    → places_from count other k at ≡ Some ps → AllByRecursion (λ q. q < len) ps → places_from count next k at ≡ Some ps
unfolding places_from
places_kept len zero next other same k at ps e all = e
places_kept len (suc n) next other same k at ps e all =
    kept_place len (other k at) (next k at) (λ p. places_from n other (k + 1) (p + 1)) (λ p. places_from n next (k + 1) (p + 1)) ps
    (same k at) (λ p rest r below. places_kept len n next other same (k + 1) (p + 1) rest r below) e all

-- a text that begins with these glyphs
pub record HasInFront (hs gs : Glyphs) : Type 0 where
  pub part : IsPartOf gs hs 0
  pub alike : (i : ℕ) → i < length gs → essence (glyph_at gs i) ≡ essence (glyph_at hs i)
  pub within : length gs ≤ length hs
  pub here : HasNoComponents gs
  pub there : HasNoComponents hs

input_kept : (gdef : List ℕ) (sight : Sight) (test : ℕ → ℕ → Bool) (count : ℕ) (gs hs : Glyphs) (at : ℕ) (ps : List ℕ)
    → LooksAnywhere sight → HasInFront hs gs → input_in gdef sight test count hs at ≡ Some ps
    → AllByRecursion (λ q. q < length gs) ps → input_in gdef sight test count gs at ≡ Some ps
unfolding input_in
input_kept gdef sight test count gs hs at ps looks begins e all =
    let next : (k x q : ℕ) → next_in gdef sight test hs k x ≡ Some q → q < length gs
    → next_in gdef sight test gs k x ≡ Some q = λ k x q found low.
    next_kept (length gs - x) (length hs - x) (λ i. seen_by gdef sight test k (glyph_at gs i))
    (λ i. seen_by gdef sight test k (glyph_at hs i)) x q
    (λ i from to. seen_alike gdef sight test k (glyph_at gs i) (glyph_at hs i) looks (begins.alike i (omega (arith, from, to))))
    found (omega (arith, low, next_least (length hs - x) (λ i. seen_by gdef sight test k (glyph_at hs i)) x q found)) in
    let places = places_from count (next_in gdef sight test hs) 0 (at + 1) in
    let found : places ≡ Some ps = sym (together_here gdef sight hs at places begins.there) ∙ e in
    together_here gdef sight gs at (places_from count (next_in gdef sight test gs) 0 (at + 1)) begins.here
    ∙ places_kept (length gs) count (next_in gdef sight test gs) (next_in gdef sight test hs) next 0 (at + 1) ps found all

if_kept : (len : ℕ) (test : Bool) (to : ℕ) (o other : Option (List ℕ)) (it : ℕ × List ℕ)
    → ((ps : List ℕ) → o ≡ Some ps → AllByRecursion (λ q. q < len) ps → other ≡ Some ps)
    → (let x : FittingLigature = (if test then None else option_map (λ ps. (to, ps)) o) in x) ≡ Some it
    → AllByRecursion (λ q. q < len) it.1
    → (let x : FittingLigature = (if test then None else option_map (λ ps. (to, ps)) other) in x) ≡ Some it
if_kept len true to o other it same e all = absurd (cc)
if_kept len false to None other it same e all = absurd (cc)
if_kept len false to (Some ps) other it same e all =
    let is : (to, ps) ≡ it = ap (λ (o : FittingLigature). unwrap_or o (0, [])) e in
    ap (option_map (λ l. (to, l))) (same ps refl (subst (λ (x : ℕ × List ℕ). AllByRecursion (λ q. q < len) x.1) (sym is) all)) ∙ e

ligature_kept : (gdef : List ℕ) (sight : Sight) (gs hs : Glyphs) (at : ℕ) (ligature : List ℕ) (it : ℕ × List ℕ)
    → LooksAnywhere sight → HasInFront hs gs → ligature_of gdef sight hs at ligature ≡ Some it
    → AllByRecursion (λ q. q < length gs) it.1 → ligature_of gdef sight gs at ligature ≡ Some it
unfolding ligature_of
ligature_kept gdef sight gs hs at ligature it looks begins e all =
    let count = u16_in ligature 2 in
    if_kept (length gs) ((count == 0) || nat_lt 64 count) (u16_in ligature 0) _ _ it
    (λ ps found below. input_kept gdef sight (is_number (table_at ligature 4)) (count - 1) gs hs at ps looks begins found below) e all

or_kept : (o p other more : FittingLigature) (it : ℕ × List ℕ) → (o ≡ None → other ≡ None) → (o ≡ Some it → other ≡ Some it)
    → (p ≡ Some it → more ≡ Some it) → or_else o p ≡ Some it → or_else other more ≡ Some it
or_kept None p other more it none some rest e = ap (λ x. or_else x more) (none refl) ∙ rest e
or_kept (Some x) p other more it none some rest e = ap (λ y. or_else y more) (some e)

first_kept : (h f : ℕ → FittingLigature) (it : ℕ × List ℕ) (n i : ℕ) → ((d : ℕ) → d < n → h (i + d) ≡ None → f (i + d) ≡ None)
    → ((d : ℕ) → d < n → h (i + d) ≡ Some it → f (i + d) ≡ Some it) → first_from n h i ≡ Some it → first_from n f i ≡ Some it
unfolding first_from
first_kept h f it zero i none some e = absurd (cc)
first_kept h f it (suc n) i none some e =
    let z : i + 0 ≡ i = omega arith in
    let on : (d : ℕ) → i + suc d ≡ i + 1 + d = λ d. omega arith in
    or_kept (h i) (first_from n h (i + 1)) (f i) (first_from n f (i + 1)) it
    (subst (λ j. h j ≡ None → f j ≡ None) z (none 0 (omega arith)))
    (subst (λ j. h j ≡ Some it → f j ≡ Some it) z (some 0 (omega arith)))
    (first_kept h f it n (i + 1) (λ d lt. subst (λ j. h j ≡ None → f j ≡ None) (on d) (none (suc d) (omega (arith, lt))))
    (λ d lt. subst (λ j. h j ≡ Some it → f j ≡ Some it) (on d) (some (suc d) (omega (arith, lt))))) e

then_kept : (one other : List ℕ → FittingLigature) (it : ℕ × List ℕ) (o : Option (List ℕ))
    → ((set : List ℕ) → other set ≡ Some it → one set ≡ Some it) → option_and_then other o ≡ Some it
    → option_and_then one o ≡ Some it
then_kept one other it None same e = absurd (cc)
then_kept one other it (Some set) same e = same set e

-- what fits the text at its start, and stands in the front, fits that
pub fit_kept : (gdef : List ℕ) (sight : Sight) (table : List ℕ) (gs hs : Glyphs) (it : ℕ × List ℕ) → LooksAnywhere sight
    → HasInFront hs gs → 0 < length gs → ligature_fit gdef sight table hs 0 ≡ Some it → AllByRecursion (λ q. q < length gs) it.1
    → ligature_fit gdef sight table gs 0 ≡ Some it
unfolding ligature_fit
fit_kept gdef sight table gs hs it looks begins some e all =
    let number : two_byte_number hs 0 ≡ two_byte_number gs 0 = ap (λ (g : Glyph). g.glyph_id % 65536) (sym (begins.alike 0 some)) in
    let one : List ℕ → FittingLigature = λ set. first_from (rule_count_in set) (nth_ligature gdef sight gs 0 set) 0 in
    let other : List ℕ → FittingLigature = λ set. first_from (rule_count_in set) (nth_ligature gdef sight hs 0 set) 0 in
    let lost : (ligature : List ℕ) → ligature_of gdef sight hs 0 ligature ≡ None → ligature_of gdef sight gs 0 ligature ≡ None =
    λ ligature none. none_too (ligature_of gdef sight gs 0 ligature) (ligature_of gdef sight hs 0 ligature)
    (ligature_too gdef sight gs hs 0 0 ligature looks begins.part begins.there) none in
    first_kept (λ i. fit_in gdef sight hs 0 (subtable_in 7 table i)) (λ i. fit_in gdef sight gs 0 (subtable_in 7 table i)) it
    (subtables_in table) 0
    (λ d less none. (let bytes = subtable_in 7 table (0 + d) in
    none_too (fit_in gdef sight gs 0 bytes) (fit_in gdef sight hs 0 bytes)
    (subst (λ n. FoundToo (fit_in gdef sight gs 0 bytes) (option_and_then other (set_for_glyph bytes n))) (sym number)
    (then_too one other (set_for_glyph bytes (two_byte_number gs 0)) (λ set.
    first_too (nth_ligature gdef sight gs 0 set) (nth_ligature gdef sight hs 0 set) (rule_count_in set) 0
    (λ x small. ligature_too gdef sight gs hs 0 0 (table_at set (u16_in set (2 + (0 + x) * 2))) looks begins.part begins.there)))) none))
    (λ d less found. (let bytes = subtable_in 7 table (0 + d) in
    then_kept one other it (set_for_glyph bytes (two_byte_number gs 0)) (λ set is.
    first_kept (nth_ligature gdef sight hs 0 set) (nth_ligature gdef sight gs 0 set) it (rule_count_in set) 0
    (λ x small none. lost (table_at set (u16_in set (2 + (0 + x) * 2))) none)
    (λ x small is. ligature_kept gdef sight gs hs 0 (table_at set (u16_in set (2 + (0 + x) * 2))) it looks begins is all) is)
    (subst (λ n. option_and_then other (set_for_glyph bytes n) ≡ Some it) number found))) e

-- ---- WHERE the glyphs of a ligature stand

-- places that climb from one on, below an end
abbrev pub Climbs : ℕ → List ℕ → ℕ → Type 0
Climbs at [] end = Unit {0}
Climbs at (p ∷ ps) end = (at < p) × ((p < end) × Climbs p ps end)

below_by : (o : Option Bool) (rest : Option ℕ) (n at q : ℕ) → (rest ≡ Some q → q < at + suc n)
    → (if is_passed o then rest else (if is_hit o then Some at else None)) ≡ Some q → q < at + suc n
below_by None rest n at q on e = on e
below_by (Some true) rest n at q on e = omega (arith, ap (λ (o : Option ℕ). unwrap_or o 0) e)
below_by (Some false) rest n at q on e = absurd (cc)

pub next_below : (n : ℕ) (f : ℕ → Option Bool) (at q : ℕ) → next_from n f at ≡ Some q → q < at + n
unfolding next_from
next_below zero f at q e = absurd (cc)
next_below (suc n) f at q e = below_by (f at) (next_from n f (at + 1)) n at q (λ r. omega (arith, next_below n f (at + 1) q r)) e

climb_place : (o : Option ℕ) (h : ℕ → Option (List ℕ)) (at end : ℕ) (ps : List ℕ)
    → ((q : ℕ) → o ≡ Some q → (at < q) × (q < end)) → ((p : ℕ) (rest : List ℕ) → h p ≡ Some rest → Climbs p rest end)
    → option_and_then (λ p. option_map (λ l. p ∷ l) (h p)) o ≡ Some ps → Climbs at ps end
climb_place None h at end ps within on e = absurd (cc)
climb_place (Some p) h at end ps within on e =
    let u = unmapped p (h p) ps e in
    let here = within p refl in
    subst (λ l. Climbs at l end) (sym u.1.1) (here.0, (here.1, on p u.0 u.1.0))

places_climb : (n : ℕ) (next : ℕ → ℕ → Option ℕ) (end : ℕ) → ((k at q : ℕ) → next k at ≡ Some q → (at ≤ q) × (q < end))
    → (k at : ℕ) (ps : List ℕ) → places_from n next k (at + 1) ≡ Some ps → Climbs at ps end
unfolding places_from
places_climb zero next end within k at ps e = subst (λ l. Climbs at l end) (ap (λ (o : Option (List ℕ)). unwrap_or o []) e) tt
places_climb (suc n) next end within k at ps e =
    climb_place (next k (at + 1)) (λ p. places_from n next (k + 1) (p + 1)) at end ps
    (λ q r. (let w = within k (at + 1) q r in (omega (arith, w.0), w.1)))
    (λ p rest r. places_climb n next end within (k + 1) p rest r) e

pub input_climbs : (gdef : List ℕ) (sight : Sight) (test : ℕ → ℕ → Bool) (count : ℕ) (gs : Glyphs) (at : ℕ) (ps : List ℕ)
    → HasNoComponents gs → input_in gdef sight test count gs at ≡ Some ps → Climbs at ps (length gs)
unfolding input_in
input_climbs gdef sight test count gs at ps all e =
    let shown_glyph : ℕ → ℕ → Option Bool = λ k i. seen_by gdef sight test k (glyph_at gs i) in
    places_climb count (next_in gdef sight test gs) (length gs)
    (λ k x q r. (let low = next_least (length gs - x) (shown_glyph k) x q r in
    let high = next_below (length gs - x) (shown_glyph k) x q r in (low, omega (arith, low, high)))) 0 at ps
    (sym (together_here gdef sight gs at (places_from count (next_in gdef sight test gs) 0 (at + 1)) all) ∙ e)

if_climbs : (test : Bool) (to at end : ℕ) (o : Option (List ℕ)) (it : ℕ × List ℕ)
    → ((ps : List ℕ) → o ≡ Some ps → Climbs at ps end)
    → (let x : FittingLigature = (if test then None else option_map (λ ps. (to, ps)) o) in x) ≡ Some it → Climbs at it.1 end
if_climbs true to at end o it climbs e = absurd (cc)
if_climbs false to at end None it climbs e = absurd (cc)
if_climbs false to at end (Some ps) it climbs e =
    subst (λ (x : ℕ × List ℕ). Climbs at x.1 end) (ap (λ (o : FittingLigature). unwrap_or o (0, [])) e) (climbs ps refl)

ligature_climbs : (gdef : List ℕ) (sight : Sight) (gs : Glyphs) (at : ℕ) (ligature : List ℕ) (it : ℕ × List ℕ)
    → HasNoComponents gs → ligature_of gdef sight gs at ligature ≡ Some it → Climbs at it.1 (length gs)
unfolding ligature_of
ligature_climbs gdef sight gs at ligature it all e =
    let count = u16_in ligature 2 in
    if_climbs ((count == 0) || nat_lt 64 count) (u16_in ligature 0) at (length gs) _ it
    (λ ps r. input_climbs gdef sight (is_number (table_at ligature 4)) (count - 1) gs at ps all r) e

or_gives : (P : Type 0) (o p : FittingLigature) (it : ℕ × List ℕ) → (o ≡ Some it → P) → (p ≡ Some it → P) → or_else o p ≡ Some it → P
or_gives P None p it one rest e = rest e
or_gives P (Some x) p it one rest e = one e

first_gives : (P : Type 0) (h : ℕ → FittingLigature) (it : ℕ × List ℕ) (n i : ℕ) → ((j : ℕ) → h j ≡ Some it → P)
    → first_from n h i ≡ Some it → P
unfolding first_from
first_gives P h it zero i gives e = absurd (cc)
first_gives P h it (suc n) i gives e =
    or_gives P (h i) (first_from n h (i + 1)) it (gives i) (first_gives P h it n (i + 1) gives) e

then_gives : (P : Type 0) (one : List ℕ → FittingLigature) (it : ℕ × List ℕ) (o : Option (List ℕ))
    → ((set : List ℕ) → one set ≡ Some it → P) → option_and_then one o ≡ Some it → P
then_gives P one it None gives e = absurd (cc)
then_gives P one it (Some set) gives e = gives set e

pub fit_climbs : (gdef : List ℕ) (sight : Sight) (table : List ℕ) (gs : Glyphs) (at : ℕ) (it : ℕ × List ℕ)
    → HasNoComponents gs → ligature_fit gdef sight table gs at ≡ Some it → Climbs at it.1 (length gs)
unfolding ligature_fit
fit_climbs gdef sight table gs at it all e =
    let P : Type 0 = Climbs at it.1 (length gs) in
    first_gives P (λ i. fit_in gdef sight gs at (subtable_in 7 table i)) it (subtables_in table) 0 (λ i r.
    then_gives P (λ set. first_from (rule_count_in set) (nth_ligature gdef sight gs at set) 0) it
    (set_for_glyph (subtable_in 7 table i) (two_byte_number gs at)) (λ set is.
    first_gives P (nth_ligature gdef sight gs at set) it (rule_count_in set) 0 (λ j found.
    ligature_climbs gdef sight gs at (table_at set (u16_in set (2 + j * 2))) it all found) is) r) e
