-- What is read of a character's properties: its category, its high byte, and the class of a mark.
use Rattle.std.proofs.Common.{◌≡◌, ◌≢◌, ◌&&◌, ℕ, Bool, true, false, cond, nat_le, refl, ap, ◌∙◌}
use Rattle.shapers_buffer.specs.Glyphs.{Glyph}
use Rattle.shapers_buffer.specs.declared.buffer.category.hb_unicode_general_category_t.{hb_unicode_general_category_t}
use Rattle.shapers_buffer.specs.declared.buffer.category.hb_unicode_general_category_t.TheVariants.{Mc, Me, Mn}
use Rattle.shapers_buffer.specs.declared.buffer.unicode_props.UnicodeProps.{UnicodeProps}
use Rattle.shapers_buffer.specs.Category.{has_class, is_mark}
use Rattle.shapers_buffer.specs.Properties.{CONTINUATION, HIDDEN, IGNORABLE, general_category, high_byte, modified_combining_class, properties, set_property}
use Rattle.shapers_buffer.proofs.PropertyLemmas.{continuation_keeps, hidden_keeps, ignorable_keeps, set_is_read}
use Rattle.shapers_normal.specs.Context.{Context}
use Rattle.shapers_normal.specs.Properties.{character_properties, class_byte, is_ignorable_in, is_mark_in, is_seen_by_lookups, joiner_class}
use Rattle.shapers_normal.specs.Sorting.{class_of, class_of_mark, is_mark_glyph}

-- what is no mark has class 0
pub class_of_other : (g : Glyph) → is_mark_glyph g ≡ false → class_of g ≡ 0
unfolding class_of_mark
class_of_other g other = ap (λ mark. cond mark (high_byte g.unicode_props) 0) other

-- what has a class here has it for shapers too
counted : (c : hb_unicode_general_category_t) (byte : ℕ) → cond (is_mark c) byte 0 ≢ 0
    → cond (has_class c) byte 0 ≡ cond (is_mark c) byte 0
counted Mc byte some = refl
counted Me byte some = refl
counted Mn byte some = refl
counted _ byte some = absurd (some refl)

pub class_counted : (g : Glyph) → class_of g ≢ 0 → modified_combining_class g.unicode_props ≡ class_of g
unfolding modified_combining_class class_of_mark
class_counted g some = counted (general_category g.unicode_props) (high_byte g.unicode_props) some

-- the class is told by the category and the high byte
pub same_class : (p q : UnicodeProps) → general_category p ≡ general_category q → high_byte p ≡ high_byte q
    → class_of_mark p ≡ class_of_mark q
unfolding class_of_mark
same_class p q category byte =
    ap (λ c. cond (is_mark c) (high_byte p) 0) category
    ∙ ap (λ b. cond (is_mark (general_category q)) b 0) byte

-- a character that lookups may pass over keeps all three
pub category_shown : (p : UnicodeProps) → general_category (set_property HIDDEN false p) ≡ general_category p
category_shown p = (hidden_keeps p).category false

pub byte_shown : (p : UnicodeProps) → high_byte (set_property HIDDEN false p) ≡ high_byte p
byte_shown p = (hidden_keeps p).byte false

pub class_shown : (p : UnicodeProps) → class_of_mark (set_property HIDDEN false p)
    ≡ class_of_mark p
class_shown p = same_class (set_property HIDDEN false p) p (category_shown p) (byte_shown p)

-- ---- the properties of a character, bit after bit

abbrev made : Context → ℕ → UnicodeProps
made context c = properties (context.general c) (class_byte context c)

abbrev with_ignorable : Context → ℕ → UnicodeProps
with_ignorable context c = set_property IGNORABLE (is_ignorable_in context c) (made context c)

abbrev with_continuation : Context → ℕ → UnicodeProps
with_continuation context c = set_property CONTINUATION (is_mark_in context c) (with_ignorable context c)

pub general_of_character : (context : Context) (c : ℕ) → general_category (character_properties context c)
    ≡ context.general c
general_of_character context c =
    (hidden_keeps (with_continuation context c)).category (is_ignorable_in context c && is_seen_by_lookups c)
    ∙ (continuation_keeps (with_ignorable context c)).category (is_mark_in context c)
    ∙ (ignorable_keeps (made context c)).category (is_ignorable_in context c)
    ∙ (set_is_read (made context c)).made (context.general c) (class_byte context c)

pub byte_of_character : (context : Context) (c : ℕ) → high_byte (character_properties context c)
    ≡ class_byte context c
byte_of_character context c =
    (hidden_keeps (with_continuation context c)).byte (is_ignorable_in context c && is_seen_by_lookups c)
    ∙ (continuation_keeps (with_ignorable context c)).byte (is_mark_in context c)
    ∙ (ignorable_keeps (made context c)).byte (is_ignorable_in context c)
    ∙ (set_is_read (made context c)).made_byte (context.general c) (class_byte context c)

-- of a mark its byte is its class, and no mark of ASCII's has one
byte_of_mark : (beyond mark ignorable : Bool) (class joiner : ℕ) →
    cond mark (cond (beyond && mark) class (cond (beyond && ignorable) joiner 0)) 0 ≡ cond (beyond && mark) class 0
byte_of_mark true true ignorable class joiner = refl
byte_of_mark false true ignorable class joiner = refl
byte_of_mark true false ignorable class joiner = refl
byte_of_mark false false ignorable class joiner = refl

pub class_of_character : (context : Context) (c : ℕ) → class_of_mark (character_properties context c)
    ≡ cond (is_mark_in context c) (context.class c) 0
unfolding class_of_mark
class_of_character context c =
    ap (λ g. cond (is_mark g) (high_byte (character_properties context c)) 0) (general_of_character context c)
    ∙ ap (λ b. cond (is_mark (context.general c)) b 0) (byte_of_character context c)
    ∙ byte_of_mark (nat_le 0x80 c) (is_mark (context.general c)) (context.ignorable c) (context.class c)
    (joiner_class c)
