-- The rule of SARA AM with a guard: it leaves what is no SARA AM. A text is rewritten alike with it.
use Rattle.std.proofs.Common.{◌≡◌, ℕ, ◌-◌, ◌+◌, ◌*◌, ◌/◌, ◌%◌, ◌<◌, bit_and, Bool, true, false, if◌then◌else◌, List, [], ◌∷◌, flat_map, reverse, refl, ap, ◌∙◌, arith}
use Rattle.std.specs.Int.Bits.{or_add_and}
use Rattle.std.proofs.lemmas.Nat.Bits.{and_pow}
use Rattle.shapers_buffer.specs.Glyphs.{Glyph}
use Rattle.shapers_buffer.specs.Lists.{changed_back}
use Rattle.shapers_buffer.specs.declared.buffer.category.hb_unicode_general_category_t.TheVariants.{Cc, Mn}
use Rattle.shapers_buffer.specs.declared.buffer.unicode_props.UnicodeProps.{UnicodeProps}
use Rattle.shapers_buffer.specs.Properties.{CONTINUATION, modified_combining_class, set_property, with_bit, with_general_category, without_bit, without_property}
use Rattle.shapers_buffer.proofs.PropertyLemmas.{continuation_keeps, set_is_read}
use Rattle.shapers_text.specs.Thai.{is_sara_am, SaraAmRule, in_two, glyph_rule, nikhahit, sara_aa}
use Rattle.shapers_text.specs.ThaiLaws.{without_name}

abbrev pub guarded : {X : Type 0} → SaraAmRule X → SaraAmRule X
guarded rule = record {
  character = rule.character;
  nikhahit = λ x. if is_sara_am (rule.character x) then rule.nikhahit x else x;
  sara_aa = λ x. if is_sara_am (rule.character x) then rule.sara_aa x else x;
}

pieces_alike : {X : Type 0} (test : X → Bool) (rule other : List X → X → List X)
    → ((xs : List X) (x : X) → test x ≡ true → rule xs x ≡ other xs x) → (pieces : List (List X))
    → flat_map (λ piece. changed_back test rule (reverse piece)) pieces
    ≡ flat_map (λ piece. changed_back test other (reverse piece)) pieces
pieces_alike test rule other agree [] = refl
pieces_alike test rule other agree (piece ∷ pieces) = search (arith, pieces_alike test rule other agree pieces)

pub guarded_alike : {X : Type 0} (rule : SaraAmRule X) (xs : List X) → in_two (guarded rule) xs ≡ in_two rule xs
guarded_alike = search (arith, pieces_alike)

-- a continuation of category Mn is a character without either once both are taken away
bit_7 : (n : ℕ) → bit_and n 0x80 ≡ n / 128 % 2 * 128
bit_7 n = and_pow n 7

hidden_number : (k class : ℕ) → k < 8
    → without_bit 0x80 (0 + 32 * (with_bit 0x80 (12 + 32 * k + 256 * class) / 32 % 8) + 256 * class)
    ≡ without_bit 0x80 (0 + 32 * k + 256 * class)
hidden_number k class small =
    let old = 12 + 32 * k + 256 * class in
    let set_is : with_bit 0x80 old ≡ old + 128 - old / 128 % 2 * 128 = omega (arith, or_add_and old 0x80, bit_7) in
    search (arith, bit_7)

class_stays : (p : UnicodeProps)
    → modified_combining_class (set_property CONTINUATION true (with_general_category Mn p)) ≡ modified_combining_class p
class_stays p = (continuation_keeps (with_general_category Mn p)).class true ∙ (set_is_read p).class_stays Mn

hidden_properties : (p : UnicodeProps)
    → without_property CONTINUATION (with_general_category Cc (set_property CONTINUATION true (with_general_category Mn p)))
    ≡ without_property CONTINUATION (with_general_category Cc p)
hidden_properties p =
    let k = p.0 / 32 % 8 in
    let class = modified_combining_class p in
    let made : UnicodeProps = set_property CONTINUATION true (with_general_category Mn p) in
    ap (λ c. let r : UnicodeProps = record { 0 = without_bit 0x80 (0 + 32 * (made.0 / 32 % 8) + 256 * c) } in r) (class_stays p)
    ∙ ap (λ n. let r : UnicodeProps = record { 0 = n } in r) (hidden_number k class (omega arith))

-- but for what the rewriting changes, the parts of a SARA AM are that SARA AM, and others stay
pub guarded_nikhahit : (g : Glyph) → without_name ((guarded glyph_rule).nikhahit g) ≡ without_name g
guarded_nikhahit g =
    elim (is_sara_am g.glyph_id) as (λ b. is_sara_am g.glyph_id ≡ b
    → without_name (if b then nikhahit g else g) ≡ without_name g) [
      | true ↦ λ e. search (arith, hidden_properties)
      | false ↦ λ e. refl
    ] refl

pub guarded_sara_aa : (g : Glyph) → without_name ((guarded glyph_rule).sara_aa g) ≡ without_name g
guarded_sara_aa g =
    elim (is_sara_am g.glyph_id) as (λ b. is_sara_am g.glyph_id ≡ b
    → without_name (if b then sara_aa g else g) ≡ without_name g) [
      | true ↦ λ e. search arith
      | false ↦ λ e. refl
    ] refl
