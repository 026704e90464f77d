-- What the class of a modifier tells: its category has a class, which is its high byte, a quick look
-- finds it, and it takes another class.
use Rattle.std.proofs.Common.{◌≡◌, ℕ, suc, ◌+◌, ◌==◌, Bool, true, false, ◌||◌, if◌then◌else◌, List, [], ◌∷◌, ◌++◌, map, length, take, drop, refl, ap, ◌∙◌, arith}
use Rattle.std.specs.Prelude.{replicate}
use Rattle.std.specs.List.{list_all, list_any, prefix_len}
use Rattle.std.proofs.lemmas.List.{map-append}
use Rattle.std.proofs.lemmas.Bool.{and_parts, or_parts, eqb-true, false≢true, false_from_ne_true}
use Rattle.shapers_buffer.specs.Glyphs.{Glyph, Glyphs}
use Rattle.shapers_buffer.specs.declared.buffer.unicode_props.UnicodeProps.{UnicodeProps}
use Rattle.shapers_buffer.specs.Category.{has_class}
use Rattle.shapers_buffer.specs.Clusters.{stretch_of}
use Rattle.shapers_buffer.specs.Properties.{general_category, high_byte, modified_combining_class, with_high_byte, with_modified_combining_class}
use Rattle.shapers_buffer.proofs.PropertyLemmas.{set_is_read}
use Rattle.shapers_arabic.specs.MarkParts.{is_among_modifiers, is_modifier, may_modify}
use Rattle.shapers_arabic.specs.Marks.{classes_moved, combining_classes, front_of, in_class, is_modifier_of, marks_reordered, modifiers, split_marks, with_modifiers_first}

-- a class that isn't 0 is that of a category that has one, and the high byte
pub record HasClass (class : ℕ) (p : UnicodeProps) : Type 0 where
  pub classed : has_class (general_category p) ≡ true
  pub byte : high_byte p ≡ class

by_category : (class : ℕ) (p : UnicodeProps) (b : Bool) → has_class (general_category p) ≡ b → (0 == class) ≡ false
    → ((if b then high_byte p else 0) == class) ≡ true → HasClass class p
by_category class p true told none = search (arith, eqb-true)
by_category class p false told none = search (arith, false≢true)

class_told : (class : ℕ) (p : UnicodeProps) → (0 == class) ≡ false → (modified_combining_class p == class) ≡ true
    → HasClass class p
unfolding modified_combining_class
class_told class p none = search (arith, by_category)

pub modifier_has_class : (class : ℕ) (g : Glyph) → (0 == class) ≡ false → is_modifier_of class g ≡ true
    → HasClass class g.unicode_props
modifier_has_class class g none = search (arith, class_told, and_parts)

-- the modifiers stand in the three ranges
found : (c : ℕ) (cs : List ℕ) (x : ℕ) (b : Bool) → (c == x) ≡ b → is_among_modifiers c ≡ true
    → (list_any (λ y. y == x) cs ≡ true → is_among_modifiers x ≡ true) → (b || list_any (λ y. y == x) cs) ≡ true
    → is_among_modifiers x ≡ true
found c cs x true is among rest h = cc (eqb-true c x is)
found c cs x false is among rest h = rest h

all_among : (cs : List ℕ) (x : ℕ) → list_all is_among_modifiers cs ≡ true → list_any (λ y. y == x) cs ≡ true
    → is_among_modifiers x ≡ true
all_among [] x among h = absurd (false≢true h)
all_among (c ∷ cs) x among h =
    search (arith, found, all_among cs x (and_parts (is_among_modifiers c) (list_all is_among_modifiers cs) among).1)

-- so a quick look finds each modifier
looked : (class : ℕ) (g : Glyph) → (0 == class) ≡ false → (class == 220 || class == 230) ≡ true
    → is_modifier_of class g ≡ true → may_modify g ≡ true
looked class g none listed h =
    let among = all_among modifiers g.glyph_id refl (and_parts _ _ h).1 in
    rw ((modifier_has_class class g none h).byte, listed, among) refl

by_class : (g : Glyph) (b : Bool) → is_modifier_of 220 g ≡ b → (b || is_modifier_of 230 g) ≡ true
    → may_modify g ≡ true
by_class g true below h = search (arith, looked)
by_class g false below h = looked 230 g refl refl h

not_modifier : (g : Glyph) → may_modify g ≡ false → is_modifier g ≡ false
not_modifier g h = false_from_ne_true (is_modifier g) (λ modifies. search (arith, false≢true, by_class))

pub no_modifier : (gs : Glyphs) → list_any may_modify gs ≡ false → list_any is_modifier gs ≡ false
no_modifier [] h = refl
no_modifier (g ∷ gs) h =
    let parts = or_parts (may_modify g) (list_any may_modify gs) h in
    rw (not_modifier g parts.0, no_modifier gs parts.1) refl

class_set : (class : ℕ) (p : UnicodeProps) → has_class (general_category p) ≡ true
    → modified_combining_class (with_modified_combining_class class p) ≡ class
class_set class p classed = (set_is_read p).class class ∙ ap (λ b. if b then class else 0) classed

still_classed : (class : ℕ) (p : UnicodeProps) → has_class (general_category p) ≡ true
    → has_class (general_category (with_high_byte class p)) ≡ true
still_classed class p classed = ap has_class ((set_is_read p).category_stays class) ∙ classed

hidden_by_category : (class : ℕ) (p : UnicodeProps) (b : Bool) → has_class (general_category p) ≡ b
    → with_modified_combining_class 0 (with_modified_combining_class class p) ≡ with_modified_combining_class 0 p
hidden_by_category class p true = search (arith, still_classed)
hidden_by_category class p false = search (arith, refl)

pub class-hidden : (class : ℕ) (p : UnicodeProps)
    → with_modified_combining_class 0 (with_modified_combining_class class p) ≡ with_modified_combining_class 0 p
class-hidden = search (arith, hidden_by_category)

-- the modifiers take the class that they are given
one_set : (test : Glyph → Bool) (class : ℕ)
    → ((g : Glyph) → test g ≡ true → has_class (general_category g.unicode_props) ≡ true)
    → (g : Glyph) (gs : Glyphs) (b : Bool) → test g ≡ b
    → combining_classes (map (in_class class) (front_of test gs)) ≡ replicate (length (front_of test gs)) class
    → combining_classes (map (in_class class) (front_of test (g ∷ gs)))
    ≡ replicate (length (front_of test (g ∷ gs))) class
one_set test class classed g gs true passes rest =
    let more : 1 + prefix_len test gs ≡ suc (prefix_len test gs) = omega arith in search (arith, class_set)
one_set test class classed g gs false fails rest = rw fails refl

classes_set : (test : Glyph → Bool) (class : ℕ)
    → ((g : Glyph) → test g ≡ true → has_class (general_category g.unicode_props) ≡ true) → (gs : Glyphs)
    → combining_classes (map (in_class class) (front_of test gs)) ≡ replicate (length (front_of test gs)) class
classes_set test class classed [] = refl
classes_set test class classed (g ∷ gs) = search (arith, one_set, classes_set test class classed gs)

modifier_is_classed : (class : ℕ) → (0 == class) ≡ false → (g : Glyph) → is_modifier_of class g ≡ true
    → has_class (general_category g.unicode_props) ≡ true
modifier_is_classed class none g h = (modifier_has_class class g none h).classed

-- so of all marks, and of a text
first_classes : (gs : Glyphs) → combining_classes (with_modifiers_first (split_marks gs))
    ≡ classes_moved (split_marks gs)
first_classes = search (arith, map-append, classes_set, modifier_is_classed)

pub reordered_classes : (s e : ℕ) (gs : Glyphs) → combining_classes (marks_reordered s e gs)
    ≡ combining_classes (take s gs)
    ++ (classes_moved (split_marks (stretch_of s e gs)) ++ combining_classes (drop e gs))
reordered_classes = search (arith, map-append, first_classes)
