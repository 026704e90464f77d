-- What is read of a character's properties once they are set.
use Rattle.std.proofs.Common.{ℕ, ◌≡◌, ◌<◌, ◌/◌, ◌%◌, arith, Bool, true, false, if◌then◌else◌, refl, ap, ◌∙◌, slice_index_or}
use Rattle.std.specs.Int.Bits.{or_add_and}
use Rattle.std.proofs.lemmas.Nat.Bits.{and_pow}
use Rattle.shapers_buffer.specs.declared.buffer.category.hb_unicode_general_category_t.{hb_unicode_general_category_t}
use Rattle.shapers_buffer.specs.declared.buffer.category.hb_unicode_general_category_t.TheVariants.{Cc, Cn}
use Rattle.shapers_buffer.specs.declared.buffer.unicode_props.UnicodeProps.{UnicodeProps}
use Rattle.shapers_buffer.specs.Category.{categories, category_number, has_class}
use Rattle.shapers_buffer.specs.Properties.{CONTINUATION, HIDDEN, IGNORABLE, general_category, high_byte, modified_combining_class, set_bit, with_general_category, with_high_byte, BitKeeps, PropertiesAreSet, PropertiesSet}

-- a category by its number
pub by_number : (c : hb_unicode_general_category_t) → slice_index_or categories (category_number c) Cn ≡ c
by_number Cc = refl
by_number _ = refl

pub number-lt : (c : hb_unicode_general_category_t) → category_number c < 30
number-lt Cc = omega arith
number-lt _ = omega arith

-- a bit of the three leaves those below them and those above as they are
record EndsStay (old new : ℕ) : Type 0 where
  low : new % 32 ≡ old % 32
  high : new / 256 ≡ old / 256

ends_5 : (n : ℕ) (on : Bool) → EndsStay n (set_bit 0x20 on n)
ends_5 n true = record {
  low = omega (arith, or_add_and n 0x20, and_pow n 5);
  high = omega (arith, or_add_and n 0x20, and_pow n 5);
}
ends_5 n false = search (arith, and_pow n 5)

ends_6 : (n : ℕ) (on : Bool) → EndsStay n (set_bit 0x40 on n)
ends_6 n true = record {
  low = omega (arith, or_add_and n 0x40, and_pow n 6);
  high = omega (arith, or_add_and n 0x40, and_pow n 6);
}
ends_6 n false = search (arith, and_pow n 6)

ends_7 : (n : ℕ) (on : Bool) → EndsStay n (set_bit 0x80 on n)
ends_7 n true = record {
  low = omega (arith, or_add_and n 0x80, and_pow n 7);
  high = omega (arith, or_add_and n 0x80, and_pow n 7);
}
ends_7 n false = search (arith, and_pow n 7)

-- properties with the same low five bits are of one category
pub same_category : (p q : UnicodeProps) → p.0 % 32 ≡ q.0 % 32 → general_category p ≡ general_category q
unfolding general_category
same_category p q same = cc

-- a category whose number the low five bits are
pub category_is : (p : UnicodeProps) (c : hb_unicode_general_category_t) → p.0 % 32 ≡ category_number c
    → general_category p ≡ c
unfolding general_category
category_is p c same = cc (by_number c)

-- the class is the high byte, where the category has one
pub class_by_category : (p : UnicodeProps) (b : Bool) → has_class (general_category p) ≡ b
    → modified_combining_class p ≡ (if b then high_byte p else 0)
unfolding modified_combining_class
class_by_category p b told = rw told refl

class_set : (class : ℕ) (p : UnicodeProps) (b : Bool) → has_class (general_category p) ≡ b
    → modified_combining_class (if b then with_high_byte class p else p) ≡ (if b then class else 0)
class_set class p true told =
    class_by_category (with_high_byte class p) true (ap has_class (same_category (with_high_byte class p) p (omega arith))
    ∙ told)
    ∙ omega arith
class_set class p false told = class_by_category p false told

category_set : (class : ℕ) (p : UnicodeProps) (b : Bool)
    → general_category (if b then with_high_byte class p else p) ≡ general_category p
category_set class p true = search (arith, same_category)
category_set class p false = refl

category_read : (c : hb_unicode_general_category_t) (p : UnicodeProps)
    → general_category (with_general_category c p) ≡ c
category_read = search (arith, category_is, number-lt)

byte_kept : (c : hb_unicode_general_category_t) (p : UnicodeProps)
    → high_byte (with_general_category c p) ≡ (if has_class c then modified_combining_class p else 0)
byte_kept c p = omega (arith, number-lt c)

class_kept : (c : hb_unicode_general_category_t) (p : UnicodeProps) (b : Bool) → has_class c ≡ b
    → modified_combining_class (with_general_category c p) ≡ (if b then modified_combining_class p else 0)
class_kept c p true told =
    class_by_category (with_general_category c p) true (ap has_class (category_read c p) ∙ told)
    ∙ byte_kept c p
    ∙ ap (λ b. if b then modified_combining_class p else 0) told
class_kept c p false told =
    class_by_category (with_general_category c p) false (ap has_class (category_read c p) ∙ told)

-- properties of one category and one high byte have one class
pub same_class : (p q : UnicodeProps) → general_category p ≡ general_category q → high_byte p ≡ high_byte q
    → modified_combining_class p ≡ modified_combining_class q
unfolding modified_combining_class
same_class p q category byte = rw (category, byte) refl

ends_keep : (p q : UnicodeProps) → EndsStay p.0 q.0 → modified_combining_class q ≡ modified_combining_class p
ends_keep p q stay = same_class q p (same_category q p stay.low) stay.high

bit_keeps : (bit : ℕ) (p : UnicodeProps) → ((n : ℕ) (on : Bool) → EndsStay n (set_bit bit on n)) → BitKeeps bit p
bit_keeps = search (arith, same_category, ends_keep)

pub set_is_read : (p : UnicodeProps) → PropertiesSet p
set_is_read p = record {
  category = λ c. category_read c p;
  byte = λ byte. omega arith;
  category_stays = search (arith, same_category);
  class = λ class. class_set class p (has_class (general_category p)) refl;
  category_of_class = λ class. category_set class p (has_class (general_category p));
  class_stays = λ c. class_kept c p (has_class c) refl;
  made = search (arith, category_is, number-lt);
  made_byte = search (arith, number-lt);
}

pub ignorable_keeps : (p : UnicodeProps) → BitKeeps IGNORABLE p
ignorable_keeps p = bit_keeps 0x20 p ends_5

pub hidden_keeps : (p : UnicodeProps) → BitKeeps HIDDEN p
hidden_keeps p = bit_keeps 0x40 p ends_6

pub continuation_keeps : (p : UnicodeProps) → BitKeeps CONTINUATION p
continuation_keeps p = bit_keeps 0x80 p ends_7

pub properties_are_set : PropertiesAreSet
properties_are_set = search (arith, set_is_read, ignorable_keeps, hidden_keeps, continuation_keeps)
