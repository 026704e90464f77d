-- A lookup that doesn't begin at the first of some glyphs wouldn't apply to them.
use Rattle.std.proofs.Common.{ℕ, ◌+◌, ◌*◌, ◌%◌, ◌<◌, ◌≡◌, ◌∙◌, ◌==◌, ◌&&◌, ◌||◌, min, nat_lt, Bool, true, false, Option, None, Some, List, [], ◌∷◌, length, refl, ap, subst, arith, if◌then◌else◌}
use Rattle.std.specs.Option.{is_some}
use Rattle.std.specs.Prelude.{IfSome, IsSomeAnd}
use Rattle.std.proofs.lemmas.Bool.Decides.{nat_tests}
use Rattle.shapers_buffer.specs.Glyphs.{Glyph}
use Rattle.shapers_base.specs.declared.font.GlyphId.{GlyphId}
use Rattle.opentype_face.specs.Bytes.{table_at, u16_in}
use Rattle.opentype_face.specs.Glyphs.{coverage_in}
use Rattle.opentype_face.specs.Lookups.{lookup_in, subtable_in, subtables_in, type_in}
use Rattle.opentype_layout.specs.LookupRows.{AreAbsent, BeginsNot}
use Rattle.opentype_layout.specs.Pattern.{is_in_sets}
use Rattle.opentype_layout.specs.Rules.{first_at, start_at}
use Rattle.opentype_layout.specs.Starts.{starting, starts_at, starts_with}
use Rattle.opentype_layout.specs.declared.lookup_rows.LookupBits.{LookupBits}
use Rattle.opentype_layout.proofs.Keyed.{part_first}
use Rattle.opentype_layout.proofs.NoneFits.{none_of}
use Rattle.opentype_layout.proofs.SubtableStarts.{starts_chained, starts_context, starts_plain}
use Rattle.opentype_font.specs.Presence.{IsAbsent}
use Rattle.opentype_font.specs.Tests.{when}
use Rattle.opentype_font.specs.WouldApply.{chained_fits, chained_rules_fit, chained_sets_fit, context_fits, fit_each, has_ligature, if_set, is_barred, ligatures_fit, lookup_applies, nth_applies, nth_number, one_fits, place_of_first, rules_fit, sets_fit, subtable_applies}
use Rattle.opentype_font.proofs.Tests.{all_fails, all_start}

neither : (test a b : Bool) → (test ≡ true → a ≡ false) → (test ≡ false → b ≡ false) → (if test then a else b) ≡ false
neither true a b one two = one refl
neither false a b one two = two refl

and_off : (a b c : Bool) → c ≡ false → (a && b && c) ≡ false
and_off true true c e = e
and_off true false c e = refl
and_off false b c e = refl

no_set : (bytes : List ℕ) (at : ℕ) (test : List ℕ → Bool) (o : Option ℕ) → is_some o ≡ false → if_set bytes at test o ≡ false
no_set bytes at test None e = refl
no_set bytes at test (Some place) e = absurd (cc)

-- ---- where the set stands that a subtable begins with

not_in : (kind : ℕ) (bytes : List ℕ) (glyph at : ℕ) → starts_with false kind bytes glyph ≡ false → starts_at false kind bytes ≡ at →
    is_some (coverage_in (table_at bytes (u16_in bytes at)) glyph) ≡ false
not_in kind bytes glyph at none e =
    subst (λ n. is_some (coverage_in (table_at bytes (u16_in bytes n)) glyph) ≡ false) e none

plain_start : (chained : Bool) (bytes : List ℕ) → (u16_in bytes 0 == 3) ≡ false → start_at chained bytes ≡ 2
plain_start chained bytes e = rw e refl

third_start : (chained : Bool) (bytes : List ℕ) → (u16_in bytes 0 == 3) ≡ true → start_at chained bytes ≡ first_at chained bytes
third_start chained bytes e = rw e refl

first_plain : (bytes : List ℕ) → first_at false bytes ≡ 6
unfolding first_at
first_plain bytes = refl

first_chained : (bytes : List ℕ) → first_at true bytes ≡ u16_in bytes 2 * 2 + 6
unfolding first_at
first_chained bytes = refl

-- ---- what doesn't apply, by a subtable's type

no_one : (kind : ℕ) (bytes : List ℕ) (glyphs : List GlyphId) → is_some (place_of_first bytes glyphs) ≡ false →
    one_fits kind bytes glyphs ≡ false
unfolding one_fits
no_one kind bytes glyphs e =
    and_off (u16_in bytes 0 == 1 || kind == 1 && (u16_in bytes 0 == 2)) (length glyphs == 1) _ e

no_ligature : (bytes : List ℕ) (glyphs : List GlyphId) → is_some (place_of_first bytes glyphs) ≡ false →
    ligatures_fit bytes glyphs ≡ false
unfolding ligatures_fit
no_ligature bytes glyphs e = neither (u16_in bytes 0 == 1) _ false (λ t. no_set bytes 4 (has_ligature glyphs) _ e) (λ t. refl)

first_fails : (test : ℕ → ℕ → Bool) (glyphs : List GlyphId) → 0 < length glyphs → test 0 (nth_number glyphs 0) ≡ false →
    fit_each test 0 glyphs ≡ false
first_fails test glyphs some e = all_fails _ _ 0 (all_start _ _) (omega arith) e

no_sets : (bytes : List ℕ) (glyphs : List GlyphId) → 0 < length glyphs →
    is_some (coverage_in (table_at bytes (u16_in bytes 6)) (nth_number glyphs 0)) ≡ false → sets_fit bytes glyphs ≡ false
unfolding sets_fit
no_sets bytes glyphs some e =
    let at : ℕ → Bool = λ n. is_some (coverage_in (table_at bytes n) (nth_number glyphs 0)) in
    let six : 0 < 6 = omega arith in
    neither (u16_in bytes 2 == length glyphs) _ false
    (λ t. first_fails (is_in_sets (table_at bytes 6) bytes) glyphs some (ap at (part_first bytes 6 six) ∙ e)) (λ t. refl)

no_context : (kind : ℕ) (bytes : List ℕ) (glyphs : List GlyphId) → kind ≡ 5 → 0 < length glyphs →
    starts_with false kind bytes (nth_number glyphs 0) ≡ false → context_fits bytes glyphs ≡ false
unfolding context_fits
no_context kind bytes glyphs is some none =
    let start : starts_at false kind bytes ≡ start_at false bytes = starts_context kind bytes is ∙ rw is refl in
    let plain : (u16_in bytes 0 == 3) ≡ false → is_some (place_of_first bytes glyphs) ≡ false =
    λ e. not_in kind bytes _ 2 none (start ∙ plain_start false bytes e) in
    neither (u16_in bytes 0 == 1) _ _ (λ t. no_set bytes 4 (rules_fit None glyphs) _ (plain (grind (arith, nat_tests))))
    (λ t. neither (u16_in bytes 0 == 2) _ _ (λ two. (let e = plain (grind (arith, nat_tests)) in rw e refl))
    (λ two. neither (u16_in bytes 0 == 3) _ false
    (λ e. no_sets bytes glyphs some (not_in kind bytes _ 6 none (start ∙ third_start false bytes e ∙ first_plain bytes)))
    (λ e. refl)))

no_chained_sets : (bytes : List ℕ) (glyphs : List GlyphId) (zero_context : Bool) → 0 < length glyphs →
    is_some (coverage_in (table_at bytes (u16_in bytes (u16_in bytes 2 * 2 + 6))) (nth_number glyphs 0)) ≡ false →
    chained_sets_fit bytes glyphs zero_context ≡ false
unfolding chained_sets_fit
no_chained_sets bytes glyphs zero_context some e =
    let input = 4 + u16_in bytes 2 * 2 in
    let at : ℕ → Bool = λ n. is_some (coverage_in (table_at bytes n) (nth_number glyphs 0)) in
    let behind : 0 < input + 2 = omega arith in
    let place : input + 2 ≡ u16_in bytes 2 * 2 + 6 = omega arith in
    neither (is_barred zero_context (u16_in bytes 2) (u16_in bytes (input + 2 + u16_in bytes input * 2))) false _ (λ t. refl)
    (λ t. neither (u16_in bytes input == length glyphs) _ false
    (λ u. first_fails (is_in_sets (table_at bytes (input + 2)) bytes) glyphs some
    (ap at (part_first bytes (input + 2) behind ∙ ap (u16_in bytes) place) ∙ e)) (λ u. refl))

no_chained : (kind : ℕ) (bytes : List ℕ) (glyphs : List GlyphId) (zero_context : Bool) → kind ≡ 6 → 0 < length glyphs →
    starts_with false kind bytes (nth_number glyphs 0) ≡ false → chained_fits bytes glyphs zero_context ≡ false
unfolding chained_fits
no_chained kind bytes glyphs zero_context is some none =
    let start : starts_at false kind bytes ≡ start_at true bytes = starts_chained kind bytes is ∙ rw is refl in
    let plain : (u16_in bytes 0 == 3) ≡ false → is_some (place_of_first bytes glyphs) ≡ false =
    λ e. not_in kind bytes _ 2 none (start ∙ plain_start true bytes e) in
    neither (u16_in bytes 0 == 1) _ _ (λ t. no_set bytes 4 (chained_rules_fit None glyphs zero_context) _ (plain (grind (arith, nat_tests))))
    (λ t. neither (u16_in bytes 0 == 2) _ _ (λ two. (let e = plain (grind (arith, nat_tests)) in rw e refl))
    (λ two. neither (u16_in bytes 0 == 3) _ false
    (λ e. no_chained_sets bytes glyphs zero_context some
    (not_in kind bytes _ _ none (start ∙ third_start true bytes e ∙ first_chained bytes))) (λ e. refl)))

no_subtable : (kind : ℕ) (bytes : List ℕ) (glyphs : List GlyphId) (zero_context : Bool) →
    starts_with false kind bytes (nth_number glyphs 0) ≡ false → subtable_applies kind bytes glyphs zero_context ≡ false
unfolding subtable_applies
no_subtable kind bytes glyphs zero_context none =
    let first = place_of_first bytes glyphs in
    let plain : (kind == 5) ≡ false → (kind == 6) ≡ false → is_some first ≡ false =
    λ e f. not_in kind bytes _ 2 none (starts_plain kind bytes e f) in
    neither ((length glyphs == 0) || nat_lt 65535 (length glyphs)) false _ (λ t. refl)
    (λ t. (let some : 0 < length glyphs = grind (arith, nat_tests) in
    neither (kind == 1 || kind == 2 || kind == 3 || kind == 8) _ _
    (λ k. no_one kind bytes glyphs (plain (grind (arith, nat_tests)) (grind (arith, nat_tests))))
    (λ k. neither (kind == 4) _ _
    (λ f. no_ligature bytes glyphs (plain (grind (arith, nat_tests)) (grind (arith, nat_tests))))
    (λ f. neither (kind == 5) _ _
    (λ c. no_context kind bytes glyphs (grind (arith, nat_tests)) some none)
    (λ c. neither (kind == 6) _ false
    (λ d. no_chained kind bytes glyphs zero_context (grind (arith, nat_tests)) some none) (λ d. refl))))))

-- ---- a lookup

off_if : (b : Bool) (i : ℕ) → (if b then Some i else None) ≡ None → b ≡ false
off_if true i e = absurd (cc)
off_if false i e = refl

unstarted : (lookup : List ℕ) (glyph i : ℕ) → starting false lookup glyph i ≡ None →
    starts_with false (type_in 7 lookup i) (subtable_in 7 lookup i) glyph ≡ false
unfolding starting
unstarted lookup glyph i e = off_if _ i e

pub unbegun : (lookup : List ℕ) (glyphs : List GlyphId) (zero_context : Bool) → BeginsNot false lookup (nth_number glyphs 0) →
    lookup_applies lookup glyphs zero_context ≡ false
unbegun lookup glyphs zero_context none =
    ap is_some (none_of (λ i. when (nth_applies lookup glyphs zero_context i)) (min (subtables_in lookup) 256) 0
    (λ d lt. ap when (no_subtable (type_in 7 lookup (0 + d)) (subtable_in 7 lookup (0 + d)) glyphs zero_context
    (unstarted lookup (nth_number glyphs 0) (0 + d) (none.none (0 + d) (omega arith) (omega arith))))))

-- a lookup that is known not to begin in a text of a glyph alone
pub elsewhere : (gsub : List ℕ) (index glyph : ℕ) (g : Glyph) (o : Option LookupBits) → g.glyph_id ≡ glyph → glyph < 65536 →
    IfSome o (λ bits. AreAbsent false gsub bits (g ∷ [])) → IsSomeAnd o (λ bits. IsAbsent bits index) →
    BeginsNot false (lookup_in gsub index) glyph
elsewhere gsub index glyph g None is few known absent = absurd absent
elsewhere gsub index glyph g (Some bits) is few known absent =
    let same : g.glyph_id % 65536 ≡ glyph = rw is (omega arith) in
    subst (BeginsNot false (lookup_in gsub index)) same (known.each index 0 absent.0 (omega arith) absent.1)
