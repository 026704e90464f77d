-- Hebrew's order of marks keeps a sequence equivalent: two marks of different classes change places.
use Rattle.std.proofs.Common.{◌≡◌, ◌≢◌, ◌+◌, ◌<◌, ◌≤◌, ◌&&◌, ℕ, suc, Bool, true, false, cond, List, [], ◌∷◌, ◌++◌, length, take, drop, get_or, set, Option, None, Some, refl, sym, ap, ◌∙◌, subst, arith, append_assoc}
use Rattle.std.specs.Option.{option_map, option_map_or}
use Rattle.std.specs.Prelude.{swap}
use Rattle.std.proofs.Math.Seq.{get_or-append_seam, set-append_seam}
use Rattle.std.proofs.lemmas.Bool.{and_parts, false≢true}
use Rattle.std.proofs.lemmas.Bool.Decides.{nat_tests}
use Rattle.std.proofs.lemmas.List.{append-nil, length-append, length-map, length-take-le}
use Rattle.std.proofs.lemmas.Option.{none-some}
use Rattle.shapers_buffer.specs.Glyphs.{Glyph, Glyphs}
use Rattle.shapers_buffer.specs.declared.buffer.level.BufferClusterLevel.{BufferClusterLevel}
use Rattle.shapers_buffer.specs.Clusters.{stretch_of, with_stretch}
use Rattle.shapers_buffer.specs.Glyph.{order_view, plain}
use Rattle.shapers_buffer.specs.Properties.{modified_combining_class}
use Rattle.shapers_clusters.specs.Steps.{after_step}
use Rattle.shapers_normal.specs.Context.{Context}
use Rattle.shapers_normal.specs.Sorting.{class_of}
use Rattle.shapers_normal.proofs.CharacterProperties.{class_counted}
use Rattle.shapers_pipeline.proofs.HebrewAlone.{within}
use Rattle.shapers_text.specs.Hebrew.{hebrew_mark_step, is_meteg_or_below, is_patah_or_qamats, is_sheva_or_hiriq, begins_triple, triple_place}
use Rattle.shapers_text.proofs.HebrewLemmas.{marks_view, swapped}
use Rattle.shapers_equivalence_laws.specs.Equivalence.{SameButForOrder}
use Rattle.shapers_equivalence_laws.specs.Laws.{mark_class}
use Rattle.shapers_equivalence_laws.proofs.Projections as order
use Rattle.shapers_equivalence_laws.proofs.Apart.{AreMarks, IsMark, Same, TakesApart, apart_text, mark_parts, other_parts, same_beside}
use Rattle.shapers_equivalence_laws.proofs.ArabicOrder.{marks_parts}
use Rattle.shapers_equivalence_laws.proofs.ShortRuns.{stretch_whole}

-- two neighbours change places
swap_seam : (front : Glyphs) (b c : Glyph) (rest : Glyphs) (i : ℕ) → i ≡ length front
    → swap (front ++ b ∷ (c ∷ rest)) i (i + 1) ≡ front ++ c ∷ (b ∷ rest)
swap_seam front b c rest i place =
    let text = front ++ b ∷ (c ∷ rest) in
    let first : b ≡ get_or text i b = sym (ap (λ k. get_or text k b) place ∙ get_or-append_seam front b (c ∷ rest) b) in
    let longer = λ (x : Glyph). (let same : i + 1 ≡ length (front ++ x ∷ []) = omega
    (arith, length-append front (x ∷ [])) in same) in
    let apart = λ (x y : Glyph). append_assoc front (x ∷ []) (y ∷ rest) in
    let second : c ≡ get_or text (i + 1) c =
    sym (ap (λ k. get_or text k c) (longer b) ∙ ap (λ xs. get_or xs (length (front ++ b ∷ [])) c) (sym (apart b c))
    ∙ get_or-append_seam (front ++ b ∷ []) c rest c) in
    let inside : i + 1 < length text = omega (arith, length-append front (b ∷ (c ∷ rest))) in
    sym (swapped text i b c inside first second)
    ∙ ap (λ k. set (set text k c) (i + 1) b) place
    ∙ ap (λ xs. set xs (i + 1) b) (set-append_seam front b (c ∷ rest) c ∙ sym (apart c c))
    ∙ ap (λ k. set ((front ++ c ∷ []) ++ c ∷ rest) k b) (longer c)
    ∙ set-append_seam (front ++ c ∷ []) c rest b
    ∙ apart c b

-- the first three marks that are such, and what stands around them
record IsTriple (gs : Glyphs) (j : ℕ) : Type 0 where
  front : Glyphs
  a : Glyph
  b : Glyph
  c : Glyph
  rest : Glyphs
  text : gs ≡ front ++ a ∷ (b ∷ (c ∷ rest))
  place : length front ≡ j
  opens : begins_triple (a ∷ (b ∷ (c ∷ rest))) ≡ true

opened_triple : (gs : Glyphs) → begins_triple gs ≡ true → IsTriple gs 0
opened_triple [] e = absurd (false≢true e)
opened_triple (a ∷ []) e = absurd (false≢true e)
opened_triple (a ∷ (b ∷ [])) e = absurd (false≢true e)
opened_triple (a ∷ (b ∷ (c ∷ rest))) e = record
    { front = []; a = a; b = b; c = c; rest = rest; text = refl; place = refl; opens = e }

later : (g : Glyph) (gs : Glyphs) (o : Option ℕ) (j : ℕ) → option_map suc o ≡ Some j
    → ((k : ℕ) → o ≡ Some k → IsTriple gs k) → IsTriple (g ∷ gs) j
later g gs None j e ih = absurd (none-some j e)
later g gs (Some k) j e ih =
    let t = ih k refl in
    let next : suc k ≡ j = ap (λ o. option_map_or (λ n. n) o 0) e in
    record {
      front = g ∷ t.front;
      a = t.a;
      b = t.b;
      c = t.c;
      rest = t.rest;
      text = ap
          (λ xs. g ∷ xs) t.text;
      place = ap suc t.place ∙ next;
      opens = t.opens;
    }

triple_by : (g : Glyph) (gs : Glyphs) (j : ℕ) (b : Bool) → begins_triple (g ∷ gs) ≡ b
    → cond b (Some 0) (option_map suc (triple_place gs)) ≡ Some j
    → ((k : ℕ) → triple_place gs ≡ Some k → IsTriple gs k) → IsTriple (g ∷ gs) j
triple_by g gs j true e found ih = let is : 0 ≡ j = ap (λ o. option_map_or (λ n. n) o 0) found in subst
    (IsTriple (g ∷ gs)) is (opened_triple (g ∷ gs) e)
triple_by g gs j false e found ih = later g gs (triple_place gs) j found ih

triple_at : (gs : Glyphs) (j : ℕ) → triple_place gs ≡ Some j → IsTriple gs j
triple_at [] j e = absurd (none-some j e)
triple_at (g ∷ gs) j e = triple_by g gs j (begins_triple (g ∷ gs)) refl e (λ k found. triple_at gs k found)

-- ---- a sequence

abbrev arranged_at : Option ℕ → Glyphs → Glyphs
arranged_at o marks = option_map_or (λ j. swap marks (j + 1) (j + 1 + 1)) o marks

abbrev pub hebrew_arranged : Glyphs → Glyphs
hebrew_arranged marks = arranged_at (triple_place marks) marks

swapped_triple : (gs : Glyphs) (j : ℕ) (t : IsTriple gs j)
    → swap gs (j + 1) (j + 1 + 1) ≡ t.front ++ t.a ∷ (t.c ∷ (t.b ∷ t.rest))
swapped_triple gs j t =
    let front = t.front ++ t.a ∷ [] in
    let place : j + 1 ≡ length front = omega (arith, t.place, length-append t.front (t.a ∷ [])) in
    ap (λ xs. swap xs (j + 1) (j + 1 + 1)) (t.text ∙ sym (append_assoc t.front (t.a ∷ []) (t.b ∷ (t.c ∷ t.rest))))
    ∙ swap_seam front t.b t.c t.rest (j + 1) place
    ∙ append_assoc t.front (t.a ∷ []) (t.c ∷ (t.b ∷ t.rest))

length_by : (gs : Glyphs) (o : Option ℕ) → triple_place gs ≡ o → length (arranged_at o gs) ≡ length gs
length_by gs None e = refl
length_by gs (Some j) e =
    let t = triple_at gs j e in
    ap length (swapped_triple gs j t)
    ∙ omega (
      arith,
      length-append t.front (t.a ∷ (t.c ∷ (t.b ∷ t.rest))),
      length-append t.front
          (t.a ∷ (t.b ∷ (t.c ∷ t.rest))),
      ap length t.text,
    )

pub length_hebrew : (gs : Glyphs) → length (hebrew_arranged gs) ≡ length gs
length_hebrew gs = length_by gs (triple_place gs) refl

around : (before front : Glyphs) (a x y : Glyph) (rest behind : Glyphs)
    → before ++ ((front ++ a ∷ (x ∷ (y ∷ rest))) ++ behind) ≡ (before ++ (front ++ a ∷ [])) ++ x ∷
    (y ∷ (rest ++ behind))
around before front a x y rest behind =
    ap (λ xs. before ++ xs) (append_assoc front (a ∷ (x ∷ (y ∷ rest))) behind ∙ sym
    (append_assoc front (a ∷ []) (x ∷ (y ∷ (rest ++ behind)))))
    ∙ sym (append_assoc before (front ++ a ∷ []) (x ∷ (y ∷ (rest ++ behind))))

run_by : (s e : ℕ) (view : Glyphs) (o : Option ℕ) → s < e → e ≤ length view → triple_place (stretch_of s e view) ≡ o
    → option_map_or (λ i. swap view i (i + 1)) (option_map (λ j. s + j + 1) o) view ≡ take s view ++
    (arranged_at o (stretch_of s e view) ++ drop e view)
run_by s e view None some long found = sym (stretch_whole s e view some)
run_by s e view (Some j) some long found =
    let marks = stretch_of s e view in
    let t = triple_at marks j found in
    let before = take s view in
    let behind = drop e view in
    let front = before ++ (t.front ++ t.a ∷ []) in
    let i = s + j + 1 in
    let place : i ≡ length front = omega (
      arith,
      t.place,
      length-append before
          (t.front ++ t.a ∷ []),
      length-append t.front (t.a ∷ []),
      length-take-le s view (omega arith),
    ) in
    ap (λ xs. swap xs i (i + 1)) (sym (stretch_whole s e view some) ∙ ap (λ xs. before ++ (xs ++ behind)) t.text
    ∙ around before t.front t.a t.b t.c t.rest behind)
    ∙ swap_seam front t.b t.c (t.rest ++ behind) i place
    ∙ sym (around before t.front t.a t.c t.b t.rest behind)
    ∙ ap (λ xs. before ++ (xs ++ behind)) (sym (swapped_triple marks j t))

pub hebrew_of_run : (level : BufferClusterLevel) (s e : ℕ) (gs : Glyphs) → s < e → e ≤ length gs
    → order_view (after_step level (hebrew_mark_step s e gs) gs) ≡ with_stretch s e hebrew_arranged (order_view gs)
hebrew_of_run level s e gs some long =
    let view = order_view gs in
    marks_view level s e gs (within s e gs some long)
    ∙ run_by s e view (triple_place (stretch_of s e view)) some (omega (arith, length-map gs plain)) refl

-- ---- the same text

differ : (x y : ℕ) → is_sheva_or_hiriq x ≡ true → is_meteg_or_below y ≡ true → x ≢ y
differ x y one other = grind (arith, nat_tests)

two_pass : (context : Context) (full : ℕ → List ℕ) → TakesApart context full → (b c : Glyph)
    → IsMark context b → IsMark context c → class_of b ≢ class_of c
    → SameButForOrder (mark_class context) (full c.glyph_id ++ full b.glyph_id) (full b.glyph_id ++ full c.glyph_id)
two_pass context full t b c mb mc other =
    order.pass_each (mark_class context) (class_of c) (full c.glyph_id) (full b.glyph_id) mc.1
    (mark_parts context full t c mc)
    (subst (order.NoneIn (mark_class context) (class_of c)) (append-nil (full b.glyph_id))
    (other_parts context full t (class_of c) (b ∷ []) ((mb, other), tt)))

triple_same : (context : Context) (full : ℕ → List ℕ) → TakesApart context full
    → (front : Glyphs) (a b c : Glyph) (rest : Glyphs) → AreMarks context (front ++ a ∷ (b ∷ (c ∷ rest)))
    → begins_triple (a ∷ (b ∷ (c ∷ rest))) ≡ true
    → Same context full (front ++ a ∷ (c ∷ (b ∷ rest))) (front ++ a ∷ (b ∷ (c ∷ rest)))
triple_same context full t front a b c rest marks opens =
    let class = mark_class context in
    let own = (marks_parts context front (a ∷ (b ∷ (c ∷ rest))) marks).1 in
    let mb = own.1.0 in
    let mc = own.1.1.0 in
    let first = modified_combining_class a.unicode_props in
    let second = modified_combining_class b.unicode_props in
    let third = modified_combining_class c.unicode_props in
    let parts = and_parts (is_patah_or_qamats first && is_sheva_or_hiriq second) (is_meteg_or_below third) opens in
    let sheva = (and_parts (is_patah_or_qamats first) (is_sheva_or_hiriq second) parts.0).1 in
    let other : class_of b ≢ class_of c = λ e. differ second third sheva parts.1
    (class_counted b mb.1 ∙ e ∙ sym (class_counted c mc.1)) in
    let fb = full b.glyph_id in
    let fc = full c.glyph_id in
    let r = apart_text full rest in
    let inner : SameButForOrder class (fc ++ (fb ++ r)) (fb ++ (fc ++ r)) = λ k.
    order.as_is class (fc ++ (fb ++ r)) ((fc ++ fb) ++ r) (sym (append_assoc fc fb r)) k
    ∙ order.beside class (fc ++ fb) r (fb ++ fc) r (two_pass context full t b c mb mc other) (order.same class r) k
    ∙ order.as_is class ((fb ++ fc) ++ r) (fb ++ (fc ++ r)) (append_assoc fb fc r) k in
    same_beside context full front (a ∷ (c ∷ (b ∷ rest))) front (a ∷ (b ∷ (c ∷ rest))) (λ k. refl)
    (order.beside class (full a.glyph_id) (fc ++ (fb ++ r)) (full a.glyph_id) (fb ++ (fc ++ r))
    (order.same class (full a.glyph_id)) inner)

same_by : (context : Context) (full : ℕ → List ℕ) → TakesApart context full → (gs : Glyphs) (o : Option ℕ)
    → triple_place gs ≡ o → AreMarks context gs → Same context full (arranged_at o gs) gs
same_by context full t gs None e marks = λ k. refl
same_by context full t gs (Some j) e marks =
    let p = triple_at gs j e in
    let new = p.front ++ p.a ∷ (p.c ∷ (p.b ∷ p.rest)) in
    let old = p.front ++ p.a ∷ (p.b ∷ (p.c ∷ p.rest)) in
    λ k.
    order.as_is (mark_class context) (apart_text full (swap gs (j + 1) (j + 1 + 1))) (apart_text full new)
    (ap (apart_text full) (swapped_triple gs j p)) k
    ∙ triple_same context full t p.front p.a p.b p.c p.rest (subst (AreMarks context) p.text marks) p.opens k
    ∙ order.as_is (mark_class context) (apart_text full old) (apart_text full gs) (ap (apart_text full) (sym p.text)) k

pub hebrew_same : (context : Context) (full : ℕ → List ℕ) → TakesApart context full → (gs : Glyphs)
    → AreMarks context gs → Same context full (hebrew_arranged gs) gs
hebrew_same context full t gs marks = same_by context full t gs (triple_place gs) refl marks
