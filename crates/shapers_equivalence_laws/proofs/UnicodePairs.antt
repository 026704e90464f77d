-- Unicode's pairs: each character comes apart in eight steps at most, what composes comes apart into
-- the two, and a mark comes apart into marks of its class.
use Rattle.std.proofs.Common.{◌≡◌, ◌≢◌, ◌-◌, ◌%◌, ◌<◌, ◌≤◌, ◌==◌, ◌||◌, ◌&&◌, not, ℕ, zero, suc, Bool, true, false, cond, eqb, nat_le, nat_lt, List, [], ◌∷◌, ◌++◌, Option, None, Some, refl, sym, ap, ap₂, ◌∙◌, subst, arith, eqb-true, ne_eqb}
use Rattle.std.specs.List.{AllByRecursion, flat_map}
use Rattle.std.specs.Option.{option_map_or}
use Rattle.std.proofs.lemmas.Bool.{and_parts, cond_both, false≢true, leb-true}
use Rattle.std.proofs.lemmas.Bool.Decides.{nat_tests}
use Rattle.std.proofs.lemmas.List.{append-nil}
use Rattle.ucd_table.proofs.Computing.{tables}
use Rattle.ucd_table.proofs.Facts.{tree_of, tree_value, tree_value-tree_of}
use Rattle.ucd_table.proofs.GroupsCheck.{same_string, same_string-true}
use Rattle.ucd_table.proofs.RangedFacts.{Stepped-at_points, points_ok}
use Rattle.shapers_buffer.specs.declared.buffer.category.hb_unicode_general_category_t.{hb_unicode_general_category_t}
use Rattle.shapers_buffer.specs.declared.buffer.category.hb_unicode_general_category_t.TheVariants.{Cn}
use Rattle.shapers_buffer.specs.Category.{is_mark}
use Rattle.shapers_buffer.proofs.MappedLists.{all-append}
use Rattle.shapers_hangul.specs.Hangul.{combines_l, combines_t, combines_v, is_between, is_lv, is_s, lead, trail, vowel, with_t, with_v}
use Rattle.shapers_normal.specs.Decomposition.{come_off}
use Rattle.shapers_pipeline.specs.ByShaper.{is_character}
use Rattle.shapers_unicode.specs.Classes.{modified_class}
use Rattle.shapers_unicode.specs.General.{category_of_character}
use Rattle.shapers_unicode.specs.Pairs.{as_pair, canonical_mapping, composed, compositions, decomposed, hangul_parts, paired_with, primary_composite}
use Rattle.shapers_unicode.proofs.CompositionLemmas.{composite-paired_with, is_empty}
use Rattle.shapers_unicode.proofs.ClassSteps.{class_stepped}
use Rattle.shapers_unicode.proofs.GeneralSteps.{general_stepped}
use Rattle.shapers_unicode.proofs.PairSteps.{composition_stepped, mapping_stepped}
use Rattle.shapers_equivalence_laws.specs.Equivalence.{CanonicallyEquivalent, apart_in_steps, full_decomposition}
use Rattle.shapers_equivalence_laws.proofs.Projections as order
use Rattle.shapers_equivalence_laws.proofs.Proved.{step_apart}

-- ---- mappings

-- what holds of each part of a mapping
abbrev pub parts_all : (ℕ → Bool) → List ℕ → Bool
parts_all p [] = true
parts_all p (a ∷ []) = p a
parts_all p (a ∷ (b ∷ [])) = p a && p b
parts_all p (a ∷ (b ∷ (c ∷ rest))) = true

-- whether a character and its parts come apart to the end in so many steps
unfoldable stops : (ℕ → List ℕ) → ℕ → ℕ → Bool
stops table zero c = is_empty (table c) && not (is_s c)
stops table (suc n) c = not (is_s c) && parts_all (stops table n) (table c)

abbrev stops_at : (ℕ → List ℕ) → ℕ → List ℕ → Bool
stops_at table c mapping = stops table 8 c

mapped_stop : (c : ℕ) → is_empty (canonical_mapping c) ≡ false → stops canonical_mapping 8 c ≡ true
unfolding tables points_ok stops mapping_stepped
mapped_stop c some =
    ap (λ table. stops table 8 c) (tree_value-tree_of canonical_mapping mapping_stepped)
    ∙ Stepped-at_points canonical_mapping mapping_stepped is_empty
    (stops_at (tree_value [] (tree_of canonical_mapping mapping_stepped))) refl c some

pub empty_of : (xs : List ℕ) → is_empty xs ≡ true → xs ≡ []
empty_of [] e = refl
empty_of (x ∷ xs) e = absurd (false≢true e)

stop_by : (c : ℕ) (b : Bool) → is_empty (canonical_mapping c) ≡ b → is_s c ≡ false → stops canonical_mapping 8 c ≡ true
unfolding stops
stop_by c true e other = ap (λ xs. not (is_s c) && parts_all (stops canonical_mapping 7) xs)
    (empty_of (canonical_mapping c) e) ∙ ap (λ b. not b && true) other
stop_by c false e other = mapped_stop c e

-- no jamo comes apart
unfoldable not_jamo : ℕ → Bool
not_jamo c = nat_lt c 0x1100 || nat_lt 0x11FF c

mapped_no_jamo : (c : ℕ) → is_empty (canonical_mapping c) ≡ false → not_jamo c ≡ true
unfolding tables points_ok not_jamo mapping_stepped
mapped_no_jamo c some = Stepped-at_points canonical_mapping mapping_stepped is_empty
    (λ p mapping. not_jamo p) refl c some

-- ---- steps

unfold_pair : (n c : ℕ) (o : Option (ℕ × ℕ)) → decomposed c ≡ o
    → apart_in_steps decomposed (suc n) c ≡ option_map_or
    (λ p. apart_in_steps decomposed n p.0 ++ flat_map (apart_in_steps decomposed n) (come_off p.1)) o (c ∷ [])
unfold_pair n c o e = ap (λ o. option_map_or
    (λ p. apart_in_steps decomposed n p.0 ++ flat_map (apart_in_steps decomposed n) (come_off p.1)) o (c ∷ [])) e

pub no_syllable : (c : ℕ) → is_s c ≡ false → decomposed c ≡ as_pair (canonical_mapping c)
unfolding decomposed
no_syllable c other = ap (λ b. cond b (Some (hangul_parts c)) (as_pair (canonical_mapping c))) other

pub syllable : (c : ℕ) → is_s c ≡ true → decomposed c ≡ Some (hangul_parts c)
unfolding decomposed
syllable c is = ap (λ b. cond b (Some (hangul_parts c)) (as_pair (canonical_mapping c))) is

abbrev Settled : ℕ → ℕ → Type 0
Settled n c = apart_in_steps decomposed (suc n) c ≡ apart_in_steps decomposed n c

off_settled : (n b : ℕ) (none : Bool) → Settled n b
    → flat_map (apart_in_steps decomposed (suc n)) (cond none [] (b ∷ [])) ≡ flat_map (apart_in_steps decomposed n)
    (cond none [] (b ∷ []))
off_settled n b true s = refl
off_settled n b false s = ap (λ xs. xs ++ []) s

pair_settled : (n c a b : ℕ) → decomposed c ≡ Some (a, b) → Settled n a → Settled n b → Settled (suc n) c
pair_settled n c a b e first second =
    unfold_pair (suc n) c (Some (a, b)) e
    ∙ ap (λ xs. xs ++ flat_map (apart_in_steps decomposed (suc n)) (come_off b)) first
    ∙ ap (λ xs. apart_in_steps decomposed n a ++ xs) (off_settled n b (b == 0) second)
    ∙ sym (unfold_pair n c (Some (a, b)) e)

alone_settled : (n c : ℕ) → decomposed c ≡ None → Settled n c
alone_settled zero c e = unfold_pair 0 c None e
alone_settled (suc n) c e = unfold_pair (suc n) c None e ∙ sym (unfold_pair n c None e)

one_settled : (n c a : ℕ) → decomposed c ≡ Some (a, 0) → Settled n a → Settled (suc n) c
one_settled n c a e first =
    unfold_pair (suc n) c (Some (a, 0)) e ∙ ap (λ xs. xs ++ []) first ∙ sym (unfold_pair n c (Some (a, 0)) e)

by_mapping : (n c : ℕ) (mapping : List ℕ) → decomposed c ≡ as_pair mapping
    → parts_all (stops canonical_mapping n) mapping ≡ true
    → ((a : ℕ) → stops canonical_mapping n a ≡ true → Settled n a) → Settled (suc n) c
by_mapping n c [] e all ih = alone_settled (suc n) c e
by_mapping n c (a ∷ []) e all ih = one_settled n c a e (ih a all)
by_mapping n c (a ∷ (b ∷ [])) e all ih = let parts = and_parts (stops canonical_mapping n a)
    (stops canonical_mapping n b) all in pair_settled n c a b e (ih a parts.0) (ih b parts.1)
by_mapping n c (a ∷ (b ∷ (d ∷ rest))) e all ih = alone_settled (suc n) c e

pub not_of : (b : Bool) → not b ≡ true → b ≡ false
not_of true e = absurd (false≢true e)
not_of false e = refl

stops_settled : (n c : ℕ) → stops canonical_mapping n c ≡ true → Settled n c
unfolding stops
stops_settled zero c s =
    let parts = and_parts (is_empty (canonical_mapping c)) (not (is_s c)) s in
    alone_settled 0 c (no_syllable c (not_of (is_s c) parts.1) ∙ ap as_pair (empty_of (canonical_mapping c) parts.0))
stops_settled (suc n) c s =
    let parts = and_parts (not (is_s c)) (parts_all (stops canonical_mapping n) (canonical_mapping c)) s in
    by_mapping n c (canonical_mapping c) (no_syllable c (not_of (is_s c) parts.0)) parts.1
    (λ a more. stops_settled n a more)

-- ---- Hangul

pub within_bounds : (low high c : ℕ) → is_between low high c ≡ true → (low ≤ c) × (c ≤ high)
within_bounds low high c e = let parts = and_parts (nat_le low c) (nat_le c high) e in
    (leb-true low c parts.0, leb-true c high parts.1)

no_s : (c : ℕ) → c < 0xAC00 → is_s c ≡ false
no_s c low = grind (arith, nat_tests)

is_s_of : (c : ℕ) → 0xAC00 ≤ c → c ≤ 0xD7A3 → is_s c ≡ true
is_s_of c low high = grind (arith, nat_tests)

jamo_by : (c : ℕ) (b : Bool) → is_empty (canonical_mapping c) ≡ b → 0x1100 ≤ c → c ≤ 0x11FF → canonical_mapping c ≡ []
unfolding not_jamo
jamo_by c true e low high = empty_of (canonical_mapping c) e
jamo_by c false e low high =
    let is : (nat_lt c 0x1100 || nat_lt 0x11FF c) ≡ true = mapped_no_jamo c e in
    let isnt : (nat_lt c 0x1100 || nat_lt 0x11FF c) ≡ false = grind (arith, nat_tests) in
    absurd (false≢true (sym isnt ∙ is))

jamo_alone : (c : ℕ) → 0x1100 ≤ c → c ≤ 0x11FF → decomposed c ≡ None
jamo_alone c low high = no_syllable c (no_s c (omega arith)) ∙ ap as_pair
    (jamo_by c (is_empty (canonical_mapping c)) refl low high)

lv_pair : (s : ℕ) → is_s s ≡ true → (s - 0xAC00) % 28 ≡ 0 → decomposed s ≡ Some (lead s, vowel s)
lv_pair s is none =
    let lv : is_lv s ≡ true = ap (λ b. b && eqb ((s - 0xAC00) % 28) 0) is ∙ ap (λ n. eqb n 0) none in
    syllable s is ∙ ap (λ b. Some (cond b (lead s, vowel s) (s - (s - 0xAC00) % 28, trail s))) lv

lv_settled : (n s : ℕ) → is_s s ≡ true → (s - 0xAC00) % 28 ≡ 0 → Settled (suc n) s
lv_settled n s is none =
    let inside = within_bounds 0xAC00 0xD7A3 s is in
    let low = inside.0 in
    let high = inside.1 in
    pair_settled n s (lead s) (vowel s) (lv_pair s is none)
    (alone_settled n (lead s) (jamo_alone (lead s) (omega arith) (omega arith)))
    (alone_settled n (vowel s) (jamo_alone (vowel s) (omega arith) (omega arith)))

t_pair : (s : ℕ) → is_s s ≡ true → eqb ((s - 0xAC00) % 28) 0 ≡ false
    → decomposed s ≡ Some (s - (s - 0xAC00) % 28, trail s)
t_pair s is some =
    let no : is_lv s ≡ false = ap (λ b. b && eqb ((s - 0xAC00) % 28) 0) is ∙ some in
    syllable s is ∙ ap (λ b. Some (cond b (lead s, vowel s) (s - (s - 0xAC00) % 28, trail s))) no

syllable_by : (n s : ℕ) (b : Bool) → eqb ((s - 0xAC00) % 28) 0 ≡ b → is_s s ≡ true → Settled (suc (suc n)) s
syllable_by n s true e is = lv_settled (suc n) s is (eqb-true ((s - 0xAC00) % 28) 0 e)
syllable_by n s false e is =
    let inside = within_bounds 0xAC00 0xD7A3 s is in
    let low = inside.0 in
    let high = inside.1 in
    let base = s - (s - 0xAC00) % 28 in
    pair_settled (suc n) s base (trail s) (t_pair s is e)
    (lv_settled n base (is_s_of base (omega arith) (omega arith)) (omega arith))
    (alone_settled (suc n) (trail s) (jamo_alone (trail s) (omega arith) (omega arith)))

ends_at : (c : ℕ) (b : Bool) → is_s c ≡ b → apart_in_steps decomposed 9 c ≡ apart_in_steps decomposed 8 c
ends_at c true e = syllable_by 6 c (eqb ((c - 0xAC00) % 28) 0) refl e
ends_at c false e = stops_settled 8 c (stop_by c (is_empty (canonical_mapping c)) refl e)

pub ends : (c : ℕ) → apart_in_steps decomposed 9 c ≡ apart_in_steps decomposed 8 c
ends c = ends_at c (is_s c) refl

-- ---- what composes

-- each pair of the list composes to what has both as its mapping, and is no syllable
unfoldable pairs_hold : (ℕ → List ℕ) → ℕ → List ℕ → Bool
pairs_hold table a (b ∷ (p ∷ rest)) = (same_string (table p) (a ∷ b ∷ []) &&
    (not (is_s p) && not (b == 0))) && pairs_hold table a rest
pairs_hold table a _ = true

all_hold : (a : ℕ) → is_empty (compositions a) ≡ false → pairs_hold canonical_mapping a (compositions a) ≡ true
unfolding tables points_ok pairs_hold mapping_stepped composition_stepped
all_hold a some =
    ap (λ table. pairs_hold table a (compositions a)) (tree_value-tree_of canonical_mapping mapping_stepped)
    ∙ Stepped-at_points compositions composition_stepped is_empty
    (pairs_hold (tree_value [] (tree_of canonical_mapping mapping_stepped))) refl a some

-- two characters that another comes apart into
pub record ApartInto (a b c : ℕ) : Type 0 where
  pub pair : decomposed c ≡ Some (a, b)
  pub two : eqb b 0 ≡ false

found_in : (a b p : ℕ) (pairs : List ℕ) → pairs_hold canonical_mapping a pairs ≡ true → paired_with b pairs ≡ Some p
    → ApartInto a b p
unfolding pairs_hold paired_with
found_in a b p [] ok h = cc
found_in a b p (x ∷ []) ok h = cc
found_in a b p (x ∷ (q ∷ rest)) ok h =
    let parts = and_parts (same_string (canonical_mapping q) (a ∷ x ∷ []) && (not (is_s q) && not (x == 0)))
    (pairs_hold canonical_mapping a rest) ok in
    let both = and_parts (same_string (canonical_mapping q) (a ∷ x ∷ [])) (not (is_s q) && not (x == 0)) parts.0 in
    let others = and_parts (not (is_s q)) (not (x == 0)) both.1 in
    cond_both (x == b) (Some q) (paired_with b rest) (λ o. o ≡ Some p → ApartInto a b p)
    (λ here found.
    let second = eqb-true x b here in
    let one : decomposed q ≡ Some (a, x) = no_syllable q (not_of (is_s q) others.0) ∙ ap as_pair
    (same_string-true (canonical_mapping q) (a ∷ x ∷ []) both.0) in
    let is : q ≡ p = cc in
    record {
      pair = subst (λ r. decomposed r ≡ Some (a, b)) is (one ∙ ap (λ y. Some (a, y)) second);
      two = ap
          (λ y. eqb y 0) (sym second) ∙ not_of (x == 0) others.1;
    })
    (λ _ found. found_in a b p rest parts.1 found)
    h

held_by : (a b p : ℕ) (none : Bool) → is_empty (compositions a) ≡ none → paired_with b (compositions a) ≡ Some p
    → ApartInto a b p
unfolding paired_with
held_by a b p true e h = let clash : paired_with b [] ≡ Some p = ap (paired_with b) (sym (empty_of (compositions a) e))
    ∙ h in cc
held_by a b p false e h = found_in a b p (compositions a) (all_hold a e) h

primary_apart : (a b p : ℕ) → primary_composite a b ≡ Some p → ApartInto a b p
primary_apart a b p h = held_by a b p (is_empty (compositions a)) refl (sym (composite-paired_with a b) ∙ h)

-- the same two parts
pub pair_as : (c a b x y : ℕ) → decomposed c ≡ Some (a, b) → a ≡ x → b ≡ y → decomposed c ≡ Some (x, y)
pair_as c a b x y e first second = e ∙ ap₂ (λ u v. Some (u, v)) first second

v_apart : (l v : ℕ) → combines_l l ≡ true → combines_v v ≡ true → decomposed (with_v l v) ≡ Some (l, v)
v_apart l v hl hv =
    let insl = within_bounds 0x1100 0x1112 l hl in
    let insv = within_bounds 0x1161 0x1175 v hv in
    let l0 = insl.0 in
    let l1 = insl.1 in
    let v0 = insv.0 in
    let v1 = insv.1 in
    let s = with_v l v in
    let first : lead s ≡ l = omega arith in
    let second : vowel s ≡ v = omega arith in
    pair_as s (lead s) (vowel s) l v (lv_pair s (is_s_of s (omega arith) (omega arith)) (omega arith)) first second

t_apart : (s t : ℕ) → is_lv s ≡ true → combines_t t ≡ true → decomposed (with_t s t) ≡ Some (s, t)
t_apart s t hs ht =
    let parts = and_parts (is_s s) (eqb ((s - 0xAC00) % 28) 0) hs in
    let inss = within_bounds 0xAC00 0xD7A3 s parts.0 in
    let inst = within_bounds 0x11A8 0x11C2 t ht in
    let none : (s - 0xAC00) % 28 ≡ 0 = eqb-true ((s - 0xAC00) % 28) 0 parts.1 in
    let s0 = inss.0 in
    let s1 = inss.1 in
    let t0 = inst.0 in
    let t1 = inst.1 in
    let u = with_t s t in
    let rest : (u - 0xAC00) % 28 ≡ t - 0x11A7 = omega arith in
    let some : eqb ((u - 0xAC00) % 28) 0 ≡ false = grind (arith, nat_tests) in
    let first : u - (u - 0xAC00) % 28 ≡ s = omega arith in
    let second : trail u ≡ t = omega arith in
    pair_as u (u - (u - 0xAC00) % 28) (trail u) s t (t_pair u (is_s_of u (omega arith) (omega arith)) some) first second

composed_as : (a b c : ℕ) (lv lvt : Bool) → (combines_l a && combines_v b) ≡ lv → (is_lv a && combines_t b) ≡ lvt
    → cond lv (Some (with_v a b)) (cond lvt (Some (with_t a b)) (primary_composite a b)) ≡ Some c → ApartInto a b c
composed_as a b c true lvt e f h =
    let parts = and_parts (combines_l a) (combines_v b) e in
    let inside = within_bounds 0x1161 0x1175 b parts.1 in
    let low = inside.0 in
    let is : with_v a b ≡ c = cc in
    record {
      pair = subst (λ s. decomposed s ≡ Some (a, b)) is (v_apart a b parts.0 parts.1);
      two = grind
          (arith, nat_tests);
    }
composed_as a b c false true e f h =
    let parts = and_parts (is_lv a) (combines_t b) f in
    let inside = within_bounds 0x11A8 0x11C2 b parts.1 in
    let low = inside.0 in
    let is : with_t a b ≡ c = cc in
    record {
      pair = subst (λ s. decomposed s ≡ Some (a, b)) is (t_apart a b parts.0 parts.1);
      two = grind
          (arith, nat_tests);
    }
composed_as a b c false false e f h = primary_apart a b c h

-- what two characters compose to comes apart into them
pub composed_apart : (a b c : ℕ) → composed a b ≡ Some c → ApartInto a b c
unfolding composed
composed_apart a b c h = composed_as a b c (combines_l a && combines_v b) (is_lv a && combines_t b) refl refl h

-- ---- classes of marks

-- the class of a mark, as normalization has it with Unicode's tables
abbrev pub unicode_class : (ℕ → hb_unicode_general_category_t) → (ℕ → ℕ) → ℕ → ℕ
unicode_class general class c =
    cond (nat_le 0x80 c && is_mark (cond (is_character c) (general c) Cn)) (cond (is_character c) (class c) 0) 0

unfoldable same_class : (ℕ → hb_unicode_general_category_t) → (ℕ → ℕ) → ℕ → List ℕ → Bool
same_class general class c mapping = unicode_class general class c == 0 || parts_all
    (λ a. unicode_class general class a == unicode_class general class c) mapping

mapped_class : (c : ℕ) → is_empty (canonical_mapping c) ≡ false
    → same_class category_of_character modified_class c (canonical_mapping c) ≡ true
unfolding tables points_ok same_class mapping_stepped general_stepped class_stepped
mapped_class c some =
    ap₂ (λ general class. same_class general class c (canonical_mapping c))
    (tree_value-tree_of category_of_character general_stepped) (tree_value-tree_of modified_class class_stepped)
    ∙ Stepped-at_points canonical_mapping mapping_stepped is_empty
    (same_class (tree_value Cn (tree_of category_of_character general_stepped))
    (tree_value 0 (tree_of modified_class class_stepped))) refl c some

classed_no_syllable : (c : ℕ) → eqb (modified_class c) 0 ≡ false → not (is_s c) ≡ true
unfolding tables points_ok class_stepped
classed_no_syllable c some = Stepped-at_points modified_class class_stepped (λ k. eqb k 0)
    (λ p k. not (is_s p)) refl c some

abbrev pub own_class : ℕ → ℕ
own_class c = unicode_class category_of_character modified_class c

no_class : (c : ℕ) (mark character : Bool) → modified_class c ≡ 0
    → cond mark (cond character (modified_class c) 0) 0 ≡ 0
no_class c true true e = e
no_class c true false e = refl
no_class c false character e = refl

class_by : (c : ℕ) (b : Bool) → eqb (modified_class c) 0 ≡ b → own_class c ≢ 0 → is_s c ≡ false
class_by c true e some = absurd (some (no_class c
    (nat_le 0x80 c && is_mark (cond (is_character c) (category_of_character c) Cn)) (is_character c)
    (eqb-true (modified_class c) 0 e)))
class_by c false e some = not_of (is_s c) (classed_no_syllable c e)

abbrev AllOwn : ℕ → List ℕ → Type 0
AllOwn c ds = AllByRecursion (λ d. own_class d ≡ own_class c) ds

as_own : (c a : ℕ) (ds : List ℕ) → own_class a ≡ own_class c → AllOwn a ds → AllOwn c ds
as_own c a [] e all = tt
as_own c a (d ∷ ds) e all = (all.0 ∙ e, as_own c a ds e all.1)

off_own : (n c b : ℕ) (none : Bool) → AllOwn c (apart_in_steps decomposed n b)
    → AllOwn c (flat_map (apart_in_steps decomposed n) (cond none [] (b ∷ [])))
off_own n c b true all = tt
off_own n c b false all = subst (AllOwn c) (sym (append-nil (apart_in_steps decomposed n b))) all

own_alone : (n c : ℕ) → decomposed c ≡ None → AllOwn c (apart_in_steps decomposed (suc n) c)
own_alone n c e = subst (AllOwn c) (sym (unfold_pair n c None e)) (refl, tt)

own_pair : (n c a b : ℕ) → decomposed c ≡ Some (a, b) → AllOwn c (apart_in_steps decomposed n a)
    → AllOwn c (flat_map (apart_in_steps decomposed n) (come_off b)) → AllOwn c (apart_in_steps decomposed (suc n) c)
own_pair n c a b e first second =
    subst (AllOwn c) (sym (unfold_pair n c (Some (a, b)) e))
    (all-append (λ d. own_class d ≡ own_class c) (apart_in_steps decomposed n a)
    (flat_map (apart_in_steps decomposed n) (come_off b)) first second)

own_mapping : (n c : ℕ) (mapping : List ℕ) → decomposed c ≡ as_pair mapping
    → parts_all (λ a. own_class a == own_class c) mapping ≡ true → own_class c ≢ 0
    → ((a : ℕ) → own_class a ≢ 0 → AllOwn a (apart_in_steps decomposed n a))
    → AllOwn c (apart_in_steps decomposed (suc n) c)
own_mapping n c [] e all some ih = own_alone n c e
own_mapping n c (a ∷ []) e all some ih =
    let same = eqb-true (own_class a) (own_class c) all in
    own_pair n c a 0 e (as_own c a (apart_in_steps decomposed n a) same (ih a (λ none. some (sym same ∙ none)))) tt
own_mapping n c (a ∷ (b ∷ [])) e all some ih =
    let parts = and_parts (own_class a == own_class c) (own_class b == own_class c) all in
    let first = eqb-true (own_class a) (own_class c) parts.0 in
    let second = eqb-true (own_class b) (own_class c) parts.1 in
    own_pair n c a b e (as_own c a (apart_in_steps decomposed n a) first (ih a (λ none. some (sym first ∙ none))))
    (off_own n c b (b == 0) (as_own c b (apart_in_steps decomposed n b) second
    (ih b (λ none. some (sym second ∙ none)))))
own_mapping n c (a ∷ (b ∷ (d ∷ rest))) e all some ih = own_alone n c e

tested_by : (c : ℕ) (b : Bool) → is_empty (canonical_mapping c) ≡ b → own_class c ≢ 0
    → parts_all (λ a. own_class a == own_class c) (canonical_mapping c) ≡ true
unfolding same_class
tested_by c true e some = ap (parts_all (λ a. own_class a == own_class c)) (empty_of (canonical_mapping c) e)
tested_by c false e some =
    let none : eqb (own_class c) 0 ≡ false = ne_eqb (own_class c) 0 some in
    sym (ap (λ b. b || parts_all (λ a. own_class a == own_class c) (canonical_mapping c)) none) ∙ mapped_class c e

-- a mark comes apart into marks of its class
pub marks_own_class : (n c : ℕ) → own_class c ≢ 0
    → AllByRecursion (λ d. own_class d ≡ own_class c) (apart_in_steps decomposed n c)
marks_own_class zero c some = (refl, tt)
marks_own_class (suc n) c some =
    own_mapping n c (canonical_mapping c) (no_syllable c (class_by c (eqb (modified_class c) 0) refl some))
    (tested_by c (is_empty (canonical_mapping c)) refl some) some (λ a more. marks_own_class n a more)

-- ---- a character is the two that it comes apart into

pub same_text : (class : ℕ → ℕ) (a b c : ℕ) → ApartInto a b c
    → CanonicallyEquivalent decomposed class (c ∷ []) (a ∷ b ∷ [])
same_text class a b c i =
    let full = full_decomposition decomposed in
    let off : flat_map full (come_off b) ≡ full b ++ [] = ap (λ none. flat_map full (cond none [] (b ∷ []))) i.two in
    order.as_is class (full c ++ []) (full a ++ (full b ++ []))
    (append-nil (full c) ∙ sym (ends c) ∙ step_apart decomposed 8 c (a, b) i.pair ∙ ap (λ xs. full a ++ xs) off)
