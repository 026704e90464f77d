-- Arabic's order of marks keeps a sequence equivalent: modifiers pass marks of lesser classes alone.
use Rattle.std.proofs.Common.{◌≡◌, ◌≢◌, ◌+◌, ◌<◌, ◌≤◌, ℕ, Bool, true, false, cond, eqb, nat_lt, List, [], ◌∷◌, ◌++◌, length, map, take, refl, sym, ap, ◌∙◌, subst, arith, append_assoc, eqb-true, suc}
use Rattle.std.specs.List.{AllByRecursion, flat_map, list_any, prefix_len}
use Rattle.std.proofs.lemmas.Bool.{and_parts}
use Rattle.std.proofs.lemmas.Bool.Decides.{nat_tests}
use Rattle.std.proofs.lemmas.List.{length-append, length-map}
use Rattle.shapers_arabic.specs.Marks.{behind, front_of, has_lower_class, in_class, is_modifier_of, modifiers, split_marks, with_modifiers_first}
use Rattle.shapers_arabic.proofs.MarkLists.{split-joined}
use Rattle.shapers_buffer.specs.Glyphs.{Glyph, Glyphs}
use Rattle.shapers_buffer.specs.declared.buffer.modified_combining_class.TheConstants.{CCC22, CCC26}
use Rattle.shapers_buffer.specs.Properties.{modified_combining_class}
use Rattle.shapers_buffer.proofs.MappedLists.{all-append, map-hidden}
use Rattle.shapers_normal.specs.Context.{Context}
use Rattle.shapers_normal.specs.Sorting.{class_of}
use Rattle.shapers_normal.proofs.CharacterProperties.{class_counted}
use Rattle.shapers_pipeline.proofs.ArabicAlone.{sum_joined}
use Rattle.shapers_equivalence_laws.specs.Equivalence.{SameButForOrder}
use Rattle.shapers_equivalence_laws.specs.Laws.{mark_class}
use Rattle.shapers_equivalence_laws.proofs.Projections as order
use Rattle.shapers_equivalence_laws.proofs.Apart.{AreMarks, IsMark, OtherMarks, Same, TakesApart, apart_text, apart-append, mark_parts, other_parts}

abbrev pub arabic_arranged : Glyphs → Glyphs
arabic_arranged marks = with_modifiers_first (split_marks marks)

pub length_arranged : (gs : Glyphs) → length (arabic_arranged gs) ≡ length gs
length_arranged gs =
    let s = split_marks gs in
    let below = map (in_class CCC22) s.modifiers_below in
    let above = map (in_class CCC26) s.modifiers_above in
    omega (
      arith,
      length-append below (above ++ (s.low ++ (s.middle ++ s.rest))),
      length-append above
          (s.low ++ (s.middle ++ s.rest)),
      length-append s.low
          (s.middle ++ s.rest),
      length-append s.middle s.rest,
      length-map s.modifiers_below
          (in_class CCC22),
      length-map s.modifiers_above (in_class CCC26),
      sum_joined s,
      ap length (split-joined gs),
    )

-- ---- classes of the parts

abbrev Passing : (Glyph → Bool) → Glyphs → Type 0
Passing test gs = AllByRecursion (λ g. test g ≡ true) gs

front_by : (test : Glyph → Bool) (g : Glyph) (gs : Glyphs) (b : Bool) → test g ≡ b
    → Passing test (take (prefix_len test gs) gs) → Passing test (take (cond b (1 + prefix_len test gs) 0) (g ∷ gs))
front_by test g gs true e rest =
    let next : 1 + prefix_len test gs ≡ suc (prefix_len test gs) = omega arith in
    subst (λ n. Passing test (take n (g ∷ gs))) (sym next) (e, rest)
front_by test g gs false e rest = tt

front_passes : (test : Glyph → Bool) (gs : Glyphs) → Passing test (front_of test gs)
front_passes test [] = tt
front_passes test (g ∷ gs) = front_by test g gs (test g) refl (front_passes test gs)

abbrev InClass : Context → ℕ → Glyphs → Type 0
InClass context a gs = AllByRecursion (λ g. IsMark context g × (class_of g ≡ a)) gs

modifiers_in : (context : Context) (a : ℕ) (gs : Glyphs) → AreMarks context gs → Passing (is_modifier_of a) gs
    → InClass context a gs
modifiers_in context a [] marks all = tt
modifiers_in context a (g ∷ gs) marks all =
    let class = modified_combining_class g.unicode_props in
    let parts = and_parts (eqb class a) (list_any (λ c. eqb c g.glyph_id) modifiers) all.0 in
    let is : class_of g ≡ a = sym (class_counted g marks.0.1) ∙ eqb-true class a parts.0 in
    ((marks.0, is), modifiers_in context a gs marks.1 all.1)

lower_out : (context : Context) (high a : ℕ) (gs : Glyphs) → high ≤ a → AreMarks context gs
    → Passing (has_lower_class high) gs → OtherMarks context a gs
lower_out context high a [] least marks all = tt
lower_out context high a (g ∷ gs) least marks all =
    let test : nat_lt (class_of g) high ≡ true = subst (λ c. nat_lt c high ≡ true) (class_counted g marks.0.1) all.0 in
    let less : class_of g < high = grind (arith, nat_tests) in
    ((marks.0, λ e. absurd (omega arith)), lower_out context high a gs least marks.1 all.1)

all_in : (context : Context) (full : ℕ → List ℕ) → TakesApart context full → (a : ℕ) (gs : Glyphs)
    → InClass context a gs → order.AllIn (mark_class context) a (apart_text full gs)
all_in context full t a [] all = tt
all_in context full t a (g ∷ gs) all =
    all-append (λ x. mark_class context x ≡ a) (full g.glyph_id) (apart_text full gs)
    (subst (λ c. order.AllIn (mark_class context) c (full g.glyph_id)) all.0.1 (mark_parts context full t g all.0.0))
    (all_in context full t a gs all.1)

-- marks of one class pass marks of others
block_passes : (context : Context) (full : ℕ → List ℕ) → TakesApart context full → (a : ℕ) (xs ys : Glyphs) → a ≢ 0
    → InClass context a xs → OtherMarks context a ys
    → SameButForOrder (mark_class context) (apart_text full xs ++ apart_text full ys)
    (apart_text full ys ++ apart_text full xs)
block_passes context full t a xs ys some p q =
    order.pass_each (mark_class context) a (apart_text full xs) (apart_text full ys) some
    (all_in context full t a xs p) (other_parts context full t a ys q)

pub marks_parts : (context : Context) (gs hs : Glyphs) → AreMarks context (gs ++ hs)
    → AreMarks context gs × AreMarks context hs
marks_parts context [] hs all = (tt, all)
marks_parts context (g ∷ gs) hs all = let rest = marks_parts context gs hs all.1 in ((all.0, rest.0), rest.1)

-- ---- the parts in their new order

parts_moved : (class : ℕ → ℕ) (l b m a r : List ℕ) → SameButForOrder class (b ++ l) (l ++ b)
    → SameButForOrder class (a ++ (l ++ m)) ((l ++ m) ++ a)
    → SameButForOrder class (b ++ (a ++ (l ++ (m ++ r)))) (l ++ (b ++ (m ++ (a ++ r))))
parts_moved class l b m a r one two = λ k.
    order.as_is class (b ++ (a ++ (l ++ (m ++ r)))) (b ++ ((a ++ (l ++ m)) ++ r))
    (ap (λ xs. b ++ xs) (ap (λ xs. a ++ xs) (sym (append_assoc l m r)) ∙ sym (append_assoc a (l ++ m) r))) k
    ∙ order.beside class b ((a ++ (l ++ m)) ++ r) b (((l ++ m) ++ a) ++ r) (order.same class b)
    (order.beside class (a ++ (l ++ m)) r ((l ++ m) ++ a) r two (order.same class r)) k
    ∙ order.as_is class (b ++ (((l ++ m) ++ a) ++ r)) ((b ++ l) ++ (m ++ (a ++ r)))
    (ap (λ xs. b ++ xs) (append_assoc (l ++ m) a r ∙ append_assoc l m (a ++ r)) ∙ sym
    (append_assoc b l (m ++ (a ++ r)))) k
    ∙ order.beside class (b ++ l) (m ++ (a ++ r)) (l ++ b) (m ++ (a ++ r)) one (order.same class (m ++ (a ++ r))) k
    ∙ order.as_is class ((l ++ b) ++ (m ++ (a ++ r))) (l ++ (b ++ (m ++ (a ++ r)))) (append_assoc l b (m ++ (a ++ r))) k

classed_text : (full : ℕ → List ℕ) (class : ℕ) (gs : Glyphs)
    → apart_text full (map (in_class class) gs) ≡ apart_text full gs
classed_text full class gs = ap (flat_map full)
    (map-hidden (λ (g : Glyph). g.glyph_id) (in_class class) (λ g. refl) gs)

three : (full : ℕ → List ℕ) (xs ys zs : Glyphs)
    → apart_text full (xs ++ (ys ++ zs)) ≡ apart_text full xs ++ (apart_text full ys ++ apart_text full zs)
three full xs ys zs = apart-append full xs (ys ++ zs) ∙ ap (λ us. apart_text full xs ++ us) (apart-append full ys zs)

pub arabic_same : (context : Context) (full : ℕ → List ℕ) → TakesApart context full → (gs : Glyphs)
    → AreMarks context gs → Same context full (arabic_arranged gs) gs
arabic_same context full t gs marks =
    let s = split_marks gs in
    let text = apart_text full in
    let class = mark_class context in
    let second = behind (has_lower_class 220) gs in
    let third = behind (is_modifier_of 220) second in
    let fourth = behind (has_lower_class 230) third in
    let below = map (in_class CCC22) s.modifiers_below in
    let above = map (in_class CCC26) s.modifiers_above in
    let one = marks_parts context s.low (s.modifiers_below ++ (s.middle ++ (s.modifiers_above ++ s.rest)))
    (subst (AreMarks context) (sym (split-joined gs)) marks) in
    let two = marks_parts context s.modifiers_below (s.middle ++ (s.modifiers_above ++ s.rest)) one.1 in
    let three_parts = marks_parts context s.middle (s.modifiers_above ++ s.rest) two.1 in
    let four = marks_parts context s.modifiers_above s.rest three_parts.1 in
    let low = front_passes (has_lower_class 220) gs in
    let middle = front_passes (has_lower_class 230) third in
    let new : text (arabic_arranged gs) ≡ text s.modifiers_below ++
    (text s.modifiers_above ++ (text s.low ++ (text s.middle ++ text s.rest))) =
    three full below above (s.low ++ (s.middle ++ s.rest))
    ∙ ap (λ xs. xs ++ (text above ++ text (s.low ++ (s.middle ++ s.rest)))) (classed_text full CCC22 s.modifiers_below)
    ∙ ap (λ xs. text s.modifiers_below ++ (xs ++ text (s.low ++ (s.middle ++ s.rest))))
    (classed_text full CCC26 s.modifiers_above)
    ∙ ap (λ xs. text s.modifiers_below ++ (text s.modifiers_above ++ xs)) (three full s.low s.middle s.rest) in
    let old : text gs ≡ text s.low ++ (text s.modifiers_below ++
    (text s.middle ++ (text s.modifiers_above ++ text s.rest))) =
    ap text (sym (split-joined gs))
    ∙ three full s.low s.modifiers_below (s.middle ++ (s.modifiers_above ++ s.rest))
    ∙ ap (λ xs. text s.low ++ (text s.modifiers_below ++ xs)) (three full s.middle s.modifiers_above s.rest) in
    let first : SameButForOrder class (text s.modifiers_below ++ text s.low) (text s.low ++ text s.modifiers_below) =
    block_passes context full t 220 s.modifiers_below s.low (λ e. absurd (omega arith))
    (modifiers_in context 220 s.modifiers_below two.0 (front_passes (is_modifier_of 220) second))
    (lower_out context 220 220 s.low (omega arith) one.0 low) in
    let both = s.low ++ s.middle in
    let last : SameButForOrder class (text s.modifiers_above ++ (text s.low ++ text s.middle))
    ((text s.low ++ text s.middle) ++ text s.modifiers_above) =
    subst (λ xs. SameButForOrder class (text s.modifiers_above ++ xs) (xs ++ text s.modifiers_above))
    (apart-append full s.low s.middle)
    (block_passes context full t 230 s.modifiers_above both (λ e. absurd (omega arith))
    (modifiers_in context 230 s.modifiers_above four.0 (front_passes (is_modifier_of 230) fourth))
    (all-append (λ g. IsMark context g × (class_of g ≢ 230)) s.low s.middle
    (lower_out context 220 230 s.low (omega arith) one.0 low)
    (lower_out context 230 230 s.middle (omega arith) three_parts.0 middle))) in
    λ k.
    order.as_is class (text (arabic_arranged gs))
    (text s.modifiers_below ++ (text s.modifiers_above ++ (text s.low ++ (text s.middle ++ text s.rest)))) new k
    ∙ parts_moved class (text s.low) (text s.modifiers_below) (text s.middle) (text s.modifiers_above)
    (text s.rest) first last k
    ∙ order.as_is class (text s.low ++ (text s.modifiers_below ++
    (text s.middle ++ (text s.modifiers_above ++ text s.rest)))) (text gs) (sym old) k
