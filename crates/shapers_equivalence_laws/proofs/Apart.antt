-- What a text of glyphs is, taken apart to the end.
use Rattle.std.proofs.Common.{◌≡◌, ◌≢◌, ℕ, List, [], ◌∷◌, ◌++◌, Some, refl, sym, ap, ◌∙◌}
use Rattle.std.specs.List.{AllByRecursion, flat_map}
use Rattle.std.proofs.lemmas.Grind.{flat_map-append}
use Rattle.std.proofs.lemmas.List.{map-append}
use Rattle.shapers_buffer.specs.Glyphs.{Glyph, Glyphs}
use Rattle.shapers_buffer.specs.Glyph.{characters, order_view, plain}
use Rattle.shapers_buffer.proofs.MappedLists.{all-append, map-hidden}
use Rattle.shapers_normal.specs.Context.{Context}
use Rattle.shapers_normal.specs.Decomposition.{come_off}
use Rattle.shapers_normal.specs.Sorting.{class_of}
use Rattle.shapers_equivalence_laws.specs.Equivalence.{SameButForOrder}
use Rattle.shapers_equivalence_laws.specs.Laws.{HaveOwnClasses, mark_class}
use Rattle.shapers_equivalence_laws.proofs.Projections as order

-- what a character is, taken apart to the end, as shaper and tables have it
pub record TakesApart (context : Context) (full : ℕ → List ℕ) : Type 0 where
  pub apart : (c : ℕ) (p : ℕ × ℕ) → context.decomposed c ≡ Some p → full c ≡ full p.0 ++ flat_map full (come_off p.1)
  pub composed : (a b c : ℕ) → context.composed a b ≡ Some c → SameButForOrder (mark_class context) (full c)
      (full a ++ full b)
  pub marks : (c : ℕ) → mark_class context c ≢ 0 → AllByRecursion (λ d. mark_class context d ≡ mark_class context c)
      (full c)

abbrev pub apart_text : (ℕ → List ℕ) → Glyphs → List ℕ
apart_text full gs = flat_map full (characters gs)

abbrev pub Same : Context → (ℕ → List ℕ) → Glyphs → Glyphs → Type 0
Same context full gs hs = SameButForOrder (mark_class context) (apart_text full gs) (apart_text full hs)

pub apart-append : (full : ℕ → List ℕ) (gs hs : Glyphs)
    → apart_text full (gs ++ hs) ≡ apart_text full gs ++ apart_text full hs
apart-append full gs hs = ap (flat_map full) (map-append (λ (g : Glyph). g.glyph_id) gs hs)
    ∙ flat_map-append full (characters gs) (characters hs)

pub apart-view : (full : ℕ → List ℕ) (gs : Glyphs) → apart_text full (order_view gs) ≡ apart_text full gs
apart-view full gs = ap (flat_map full) (map-hidden (λ (g : Glyph). g.glyph_id) plain (λ g. refl) gs)

pub same_beside : (context : Context) (full : ℕ → List ℕ) (gs hs is js : Glyphs)
    → Same context full gs is → Same context full hs js → Same context full (gs ++ hs) (is ++ js)
same_beside context full gs hs is js one two = λ k.
    order.as_is (mark_class context) (apart_text full (gs ++ hs)) (apart_text full gs ++ apart_text full hs)
    (apart-append full gs hs) k
    ∙ order.beside (mark_class context) (apart_text full gs) (apart_text full hs) (apart_text full is)
    (apart_text full js) one two k
    ∙ sym (order.as_is (mark_class context) (apart_text full (is ++ js)) (apart_text full is ++ apart_text full js)
    (apart-append full is js) k)

-- marks, each of the class of its character
abbrev pub IsMark : Context → Glyph → Type 0
IsMark context g = (class_of g ≡ mark_class context g.glyph_id) × (class_of g ≢ 0)

abbrev pub AreMarks : Context → Glyphs → Type 0
AreMarks context gs = AllByRecursion (IsMark context) gs

pub marks_own : (context : Context) (gs : Glyphs) → AreMarks context gs → HaveOwnClasses context gs
marks_own context [] all = tt
marks_own context (g ∷ gs) all = (all.0.0, marks_own context gs all.1)

pub view_own : (context : Context) (gs : Glyphs) → HaveOwnClasses context gs
    → HaveOwnClasses context (order_view gs)
view_own context [] all = tt
view_own context (g ∷ gs) all = (all.0, view_own context gs all.1)

pub own_of_view : (context : Context) (gs : Glyphs) → HaveOwnClasses context (order_view gs)
    → HaveOwnClasses context gs
own_of_view context [] all = tt
own_of_view context (g ∷ gs) all = (all.0, own_of_view context gs all.1)

classed_alike : (class : ℕ → ℕ) (a b : ℕ) (xs : List ℕ) → a ≡ b → AllByRecursion (λ x. class x ≡ b) xs
    → AllByRecursion (λ x. class x ≡ a) xs
classed_alike class a b [] e all = tt
classed_alike class a b (x ∷ xs) e all = (all.0 ∙ sym e, classed_alike class a b xs e all.1)

-- a mark taken apart is marks of its class, and marks of other classes are that
pub mark_parts : (context : Context) (full : ℕ → List ℕ) → TakesApart context full → (g : Glyph)
    → IsMark context g → order.AllIn (mark_class context) (class_of g) (full g.glyph_id)
mark_parts context full t g mark =
    let same = mark.0 in
    classed_alike (mark_class context) (class_of g) (mark_class context g.glyph_id) (full g.glyph_id) same
    (t.marks g.glyph_id (λ none. mark.1 (same ∙ none)))

not_in : (class : ℕ → ℕ) (a b : ℕ) (xs : List ℕ) → (b ≢ 0) → (b ≢ a) → AllByRecursion (λ x. class x ≡ b) xs
    → order.NoneIn class a xs
not_in class a b [] some other all = tt
not_in class a b (x ∷ xs) some other all =
    (((λ e. some (sym all.0 ∙ e)), (λ e. other (sym all.0 ∙ e))), not_in class a b xs some other all.1)

abbrev pub OtherMarks : Context → ℕ → Glyphs → Type 0
OtherMarks context a gs = AllByRecursion (λ g. IsMark context g × (class_of g ≢ a)) gs

pub other_parts : (context : Context) (full : ℕ → List ℕ) → TakesApart context full
    → (a : ℕ) (gs : Glyphs) → OtherMarks context a gs
    → order.NoneIn (mark_class context) a (apart_text full gs)
other_parts context full t a [] all = tt
other_parts context full t a (g ∷ gs) all =
    all-append (λ x. (mark_class context x ≢ 0) × (mark_class context x ≢ a)) (full g.glyph_id) (apart_text full gs)
    (not_in (mark_class context) a (class_of g) (full g.glyph_id) all.0.0.1 all.0.1
    (mark_parts context full t g all.0.0))
    (other_parts context full t a gs all.1)

-- a mark passes marks of other classes
pub mark_passes : (context : Context) (full : ℕ → List ℕ) → TakesApart context full
    → (g : Glyph) (gs : Glyphs) → IsMark context g → OtherMarks context (class_of g) gs
    → SameButForOrder (mark_class context) (full g.glyph_id ++ apart_text full gs)
    (apart_text full gs ++ full g.glyph_id)
mark_passes context full t g gs mark others =
    order.pass_each (mark_class context) (class_of g) (full g.glyph_id) (apart_text full gs) mark.1
    (mark_parts context full t g mark) (other_parts context full t (class_of g) gs others)
