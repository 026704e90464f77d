-- Hebrew's forms are equivalent to the letters and points that compose to them.
use Rattle.std.proofs.Common.{◌≡◌, ◌+◌, ◌-◌, ◌<◌, ◌&&◌, ◌||◌, not, ℕ, Bool, true, false, cond, eqb, nat_le, List, [], ◌∷◌, Option, None, Some, find, refl, sym, ap, ◌∙◌, subst, arith, eqb-true}
use Rattle.std.specs.List.{list_all}
use Rattle.std.specs.Option.{option_map, option_map_or}
use Rattle.std.proofs.lemmas.Bool.{and_parts, false≢true, leb-true}
use Rattle.std.proofs.lemmas.Bool.Decides.{nat_tests}
use Rattle.std.proofs.lemmas.Option.{none-some}
use Rattle.ucd_table.proofs.Computing.{tables}
use Rattle.ucd_table.proofs.GroupsCheck.{same_string, same_string-true}
use Rattle.ucd_table.proofs.TrieCheck.{all_below, all_below-at}
use Rattle.shapers_text.specs.Hebrew.{composed_in_hebrew, is_in_dagesh_row, lacks_dagesh, pairs}
use Rattle.shapers_unicode.specs.ClassRows.{class_rows}
use Rattle.shapers_unicode.specs.Classes.{changed_classes, class_exceptions, modified_class}
use Rattle.shapers_unicode.specs.General.{category_of_character}
use Rattle.shapers_unicode.specs.GeneralRows.{general_rows}
use Rattle.shapers_unicode.specs.MappingRows.{mapping_rows}
use Rattle.shapers_unicode.specs.Pairs.{as_pair, canonical_mapping, composed, decomposed}
use Rattle.shapers_equivalence_laws.specs.Equivalence.{CanonicallyEquivalent, fully_decomposed}
use Rattle.shapers_equivalence_laws.proofs.Projections as order
use Rattle.shapers_equivalence_laws.proofs.UnicodePairs.{ApartInto, composed_apart, no_syllable, own_class, pair_as, same_text}

abbrev pub Alike : ℕ → ℕ → ℕ → Type 0
Alike a b c = CanonicallyEquivalent decomposed own_class (c ∷ []) (a ∷ b ∷ [])

-- ---- letters with dagesh

dagesh_rows : all_below (λ k. lacks_dagesh (0x05D0 + k) || same_string (canonical_mapping (0xFB30 + k))
    ((0x05D0 + k) ∷ 0x05BC ∷ [])) 27 ≡ true
unfolding tables mapping_rows
dagesh_rows = refl

or_last : (a b : Bool) → (a || b) ≡ true → a ≡ false → b ≡ true
or_last true b e none = absurd (false≢true (sym none))
or_last false b e none = e

not_of : (b : Bool) → not b ≡ true → b ≡ false
not_of true e = absurd (false≢true e)
not_of false e = refl

dagesh_apart : (a b : ℕ) → is_in_dagesh_row a b ≡ true → ApartInto a b (0xFB30 + (a - 0x05D0))
dagesh_apart a b e =
    let rest = and_parts (eqb b 0x05BC && (nat_le 0x05D0 a && nat_le a 0x05EA)) (not (lacks_dagesh a)) e in
    let parts = and_parts (eqb b 0x05BC) (nat_le 0x05D0 a && nat_le a 0x05EA) rest.0 in
    let ends = and_parts (nat_le 0x05D0 a) (nat_le a 0x05EA) parts.1 in
    let low = leb-true 0x05D0 a ends.0 in
    let high = leb-true a 0x05EA ends.1 in
    let k = a - 0x05D0 in
    let c = 0xFB30 + k in
    let same : 0x05D0 + k ≡ a = omega arith in
    let row : (lacks_dagesh (0x05D0 + k) || same_string (canonical_mapping c) ((0x05D0 + k) ∷ 0x05BC ∷ [])) ≡ true =
    all_below-at (λ k. lacks_dagesh (0x05D0 + k) || same_string (canonical_mapping (0xFB30 + k))
    ((0x05D0 + k) ∷ 0x05BC ∷ [])) 27 k dagesh_rows (omega arith) in
    let mapping = same_string-true (canonical_mapping c) ((0x05D0 + k) ∷ 0x05BC ∷ [])
    (or_last (lacks_dagesh (0x05D0 + k)) (same_string (canonical_mapping c) ((0x05D0 + k) ∷ 0x05BC ∷ [])) row
    (ap lacks_dagesh same ∙ not_of (lacks_dagesh a) rest.1)) in
    let second = eqb-true b 0x05BC parts.0 in
    let other : (nat_le 0xAC00 c && nat_le c 0xD7A3) ≡ false = grind (arith, nat_tests) in
    record {
      pair = pair_as c (0x05D0 + k) 0x05BC a b (no_syllable c other ∙ ap as_pair mapping) same (sym second);
      two = ap (λ x. eqb x 0) second;
    }

-- ---- the list of pairs

-- shin with a dot takes dagesh to the form of dagesh and dot: the points change places
abbrev is_row : ℕ × ℕ × ℕ → ℕ → ℕ → ℕ → Bool
is_row p a b c = eqb p.0 a && (eqb p.1 b && eqb p.2 c)

abbrev held : ℕ × ℕ × ℕ → Bool
held p = (same_string (canonical_mapping p.2) (p.0 ∷ p.1 ∷ []) &&
    (not (eqb p.1 0) && not (nat_le 0xAC00 p.2 && nat_le p.2 0xD7A3))) ||
    (is_row p 0xFB2A 0x05BC 0xFB2C || is_row p 0xFB2B 0x05BC 0xFB2D)

all_held : list_all held pairs ≡ true
unfolding tables mapping_rows
all_held = refl

found_by : (a b : ℕ) (p q : ℕ × ℕ × ℕ) (rest : List (ℕ × ℕ × ℕ)) (b0 : Bool) → (eqb p.0 a && eqb p.1 b) ≡ b0
    → held p ≡ true → cond b0 (Some p) (find (λ r. eqb r.0 a && eqb r.1 b) rest) ≡ Some q
    → (find (λ r. eqb r.0 a && eqb r.1 b) rest ≡ Some q → (held q ≡ true) × ((eqb q.0 a && eqb q.1 b) ≡ true))
    → (held q ≡ true) × ((eqb q.0 a && eqb q.1 b) ≡ true)
found_by a b p q rest true test h e ih =
    let is : p ≡ q = ap (λ (o : Option (ℕ × ℕ × ℕ)). option_map_or (λ x. x) o p) e in
    (subst (λ r. held r ≡ true) is h, subst (λ (r : ℕ × ℕ × ℕ). (eqb r.0 a && eqb r.1 b) ≡ true) is test)
found_by a b p q rest false test h e ih = ih e

found_in : (a b : ℕ) (q : ℕ × ℕ × ℕ) (rows : List (ℕ × ℕ × ℕ)) → list_all held rows ≡ true
    → find (λ r. eqb r.0 a && eqb r.1 b) rows ≡ Some q → (held q ≡ true) × ((eqb q.0 a && eqb q.1 b) ≡ true)
found_in a b q [] all e = absurd (none-some q e)
found_in a b q (p ∷ rest) all e =
    let parts = and_parts (held p) (list_all held rest) all in
    found_by a b p q rest (eqb p.0 a && eqb p.1 b) refl parts.0 e (λ more. found_in a b q rest parts.1 more)

-- ---- shin with a dot and dagesh

shin_dot : own_class 0x05C1 ≡ 10
unfolding tables modified_class class_rows changed_classes class_exceptions category_of_character general_rows
shin_dot = refl

sin_dot : own_class 0x05C2 ≡ 11
unfolding tables modified_class class_rows changed_classes class_exceptions category_of_character general_rows
sin_dot = refl

dagesh : own_class 0x05BC ≡ 12
unfolding tables modified_class class_rows changed_classes class_exceptions category_of_character general_rows
dagesh = refl

shin_whole : fully_decomposed decomposed (0xFB2C ∷ []) ≡ 0x05E9 ∷ 0x05BC ∷ 0x05C1 ∷ []
unfolding tables decomposed mapping_rows
shin_whole = refl

sin_whole : fully_decomposed decomposed (0xFB2D ∷ []) ≡ 0x05E9 ∷ 0x05BC ∷ 0x05C2 ∷ []
unfolding tables decomposed mapping_rows
sin_whole = refl

shin_parts : fully_decomposed decomposed (0xFB2A ∷ 0x05BC ∷ []) ≡ 0x05E9 ∷ 0x05C1 ∷ 0x05BC ∷ []
unfolding tables decomposed mapping_rows
shin_parts = refl

sin_parts : fully_decomposed decomposed (0xFB2B ∷ 0x05BC ∷ []) ≡ 0x05E9 ∷ 0x05C2 ∷ 0x05BC ∷ []
unfolding tables decomposed mapping_rows
sin_parts = refl

shin_alike : (a c dot n : ℕ) → fully_decomposed decomposed (c ∷ []) ≡ 0x05E9 ∷ 0x05BC ∷ dot ∷ []
    → fully_decomposed decomposed (a ∷ 0x05BC ∷ []) ≡ 0x05E9 ∷ dot ∷ 0x05BC ∷ [] → own_class dot ≡ n → 0 < n → n < 12
    → Alike a 0x05BC c
shin_alike a c dot n whole parts is some few = λ k.
    order.as_is own_class (fully_decomposed decomposed (c ∷ [])) (0x05E9 ∷ 0x05BC ∷ dot ∷ []) whole k
    ∙ order.beside own_class (0x05E9 ∷ []) (0x05BC ∷ dot ∷ []) (0x05E9 ∷ []) (dot ∷ 0x05BC ∷ [])
    (order.same own_class (0x05E9 ∷ []))
    (order.pass_each own_class 12 (0x05BC ∷ []) (dot ∷ []) (λ e. absurd (omega arith)) (dagesh, tt)
    (((λ e. absurd (omega arith)), (λ e. absurd (omega arith))), tt)) k
    ∙ order.as_is own_class (0x05E9 ∷ dot ∷ 0x05BC ∷ []) (fully_decomposed decomposed (a ∷ 0x05BC ∷ [])) (sym parts) k

row_alike : (p : ℕ × ℕ × ℕ) (a b c : ℕ) → is_row p a b c ≡ true → Alike a b c → Alike p.0 p.1 p.2
row_alike p a b c e alike =
    let parts = and_parts (eqb p.0 a) (eqb p.1 b && eqb p.2 c) e in
    let rest = and_parts (eqb p.1 b) (eqb p.2 c) parts.1 in
    subst (λ x. Alike x p.1 p.2) (sym (eqb-true p.0 a parts.0))
    (subst (λ x. Alike a x p.2) (sym (eqb-true p.1 b rest.0))
    (subst (λ x. Alike a b x) (sym (eqb-true p.2 c rest.1)) alike))

shin_by : (p : ℕ × ℕ × ℕ) (first : Bool) → is_row p 0xFB2A 0x05BC 0xFB2C ≡ first
    → (first || is_row p 0xFB2B 0x05BC 0xFB2D) ≡ true → Alike p.0 p.1 p.2
shin_by p true e one = row_alike p 0xFB2A 0x05BC 0xFB2C e
    (shin_alike 0xFB2A 0xFB2C 0x05C1 10 shin_whole shin_parts shin_dot (omega arith) (omega arith))
shin_by p false e one = row_alike p 0xFB2B 0x05BC 0xFB2D one
    (shin_alike 0xFB2B 0xFB2D 0x05C2 11 sin_whole sin_parts sin_dot (omega arith) (omega arith))

held_apart : (p : ℕ × ℕ × ℕ)
    → (same_string (canonical_mapping p.2) (p.0 ∷ p.1 ∷ []) &&
    (not (eqb p.1 0) && not (nat_le 0xAC00 p.2 && nat_le p.2 0xD7A3))) ≡ true
    → ApartInto p.0 p.1 p.2
held_apart p e =
    let parts = and_parts (same_string (canonical_mapping p.2) (p.0 ∷ p.1 ∷ []))
    (not (eqb p.1 0) && not (nat_le 0xAC00 p.2 && nat_le p.2 0xD7A3)) e in
    let rest = and_parts (not (eqb p.1 0)) (not (nat_le 0xAC00 p.2 && nat_le p.2 0xD7A3)) parts.1 in
    record {
      pair = no_syllable p.2 (not_of (nat_le 0xAC00 p.2 && nat_le p.2 0xD7A3) rest.1) ∙ ap as_pair
          (same_string-true (canonical_mapping p.2) (p.0 ∷ p.1 ∷ []) parts.0);
      two = not_of (eqb p.1 0) rest.0;
    }

held_by : (p : ℕ × ℕ × ℕ) (mapped : Bool)
    → (same_string (canonical_mapping p.2) (p.0 ∷ p.1 ∷ []) &&
    (not (eqb p.1 0) && not (nat_le 0xAC00 p.2 && nat_le p.2 0xD7A3))) ≡ mapped
    → (mapped || (is_row p 0xFB2A 0x05BC 0xFB2C || is_row p 0xFB2B 0x05BC 0xFB2D)) ≡ true → Alike p.0 p.1 p.2
held_by p true e h = same_text own_class p.0 p.1 p.2 (held_apart p e)
held_by p false e h = shin_by p (is_row p 0xFB2A 0x05BC 0xFB2C) refl h

listed_by : (a b c : ℕ) (o : Option (ℕ × ℕ × ℕ)) → find (λ r. eqb r.0 a && eqb r.1 b) pairs ≡ o
    → option_map (λ (p : ℕ × ℕ × ℕ). p.2) o ≡ Some c → Alike a b c
listed_by a b c None e h = absurd (none-some c h)
listed_by a b c (Some p) e h =
    let found = found_in a b p pairs all_held e in
    let ends = and_parts (eqb p.0 a) (eqb p.1 b) found.1 in
    let is : p.2 ≡ c = ap (λ o. option_map_or (λ x. x) o p.2) h in
    subst (λ x. Alike x b c) (eqb-true p.0 a ends.0)
    (subst (λ x. Alike p.0 x c) (eqb-true p.1 b ends.1)
    (subst (λ x. Alike p.0 p.1 x) is (held_by p
    (same_string (canonical_mapping p.2) (p.0 ∷ p.1 ∷ []) &&
    (not (eqb p.1 0) && not (nat_le 0xAC00 p.2 && nat_le p.2 0xD7A3))) refl found.0)))

form_by : (a b c : ℕ) (row : Bool) → is_in_dagesh_row a b ≡ row
    → cond row (Some (0xFB30 + (a - 0x05D0)))
    (option_map (λ (p : ℕ × ℕ × ℕ). p.2) (find (λ p. eqb p.0 a && eqb p.1 b) pairs)) ≡ Some c
    → Alike a b c
form_by a b c true e h =
    let is : 0xFB30 + (a - 0x05D0) ≡ c = ap (λ o. option_map_or (λ x. x) o (0xFB30 + (a - 0x05D0))) h in
    subst (λ x. Alike a b x) is (same_text own_class a b (0xFB30 + (a - 0x05D0)) (dagesh_apart a b e))
form_by a b c false e h = listed_by a b c (find (λ p. eqb p.0 a && eqb p.1 b) pairs) refl h

hebrew_by : (a b c : ℕ) (places : Bool) (o : Option ℕ) → composed a b ≡ o → composed_in_hebrew o places a b ≡ Some c
    → Alike a b c
hebrew_by a b c places (Some d) e h =
    let is : d ≡ c = ap (λ o. option_map_or (λ x. x) o d) h in
    same_text own_class a b c (composed_apart a b c (e ∙ ap Some is))
hebrew_by a b c true None e h = absurd (none-some c h)
hebrew_by a b c false None e h = form_by a b c (is_in_dagesh_row a b) refl h

pub hebrew_alike : (a b c : ℕ) (places : Bool) → composed_in_hebrew (composed a b) places a b ≡ Some c → Alike a b c
hebrew_alike a b c places h = hebrew_by a b c places (composed a b) refl h
