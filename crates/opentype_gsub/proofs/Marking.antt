-- A ligature's marks, as far as they are found.
use Rattle.std.proofs.Common.{◌≡◌, ◌∙◌, ℕ, zero, suc, ◌+◌, ◌-◌, ◌<◌, ◌≤◌, ◌==◌, true, false, List, length, set, refl, sym, ap, arith}
use Rattle.shapers_buffer.specs.Glyphs.{Glyphs}
use Rattle.opentype_gsub.specs.Ligated.{Marked, as_mark, followed_by_marks, is_of_last, marks_inside, marked_one, number_before, ligature_number}
use Rattle.opentype_gsub.specs.declared.ligating.Counted.{Counted}
use Rattle.opentype_layout.specs.Text.{glyph_at}

-- ---- inside

pub record IsMarked (number : ℕ) (ps : List ℕ) (old : Glyphs) (first : Counted) (from end i : ℕ) (gs : Glyphs) (c : Counted) : Type 0 where
  pub rest : marks_inside (end - from) number ps old from first ≡ marks_inside (end - i) number ps gs i c
  pub same : length gs ≡ length old

one_marked : (n number : ℕ) (ps : List ℕ) (gs : Glyphs) (i : ℕ) (c : Counted) → marks_inside (suc n) number ps gs i c
    ≡ marks_inside n number ps (marked_one number ps gs i c).text (i + 1) (marked_one number ps gs i c).counted
unfolding marks_inside
one_marked n number ps gs i c = refl

no_mark : (number : ℕ) (ps : List ℕ) (gs : Glyphs) (i : ℕ) (c : Counted) →
    marks_inside 0 number ps gs i c ≡ record { text = gs; counted = c }
unfolding marks_inside
no_mark number ps gs i c = refl

pub marking_start : (number : ℕ) (ps : List ℕ) (old : Glyphs) (first : Counted) (from end : ℕ) →
    IsMarked number ps old first from end from old first
marking_start number ps old first from end = record { rest = refl; same = refl }

pub marking_next : (number : ℕ) (ps : List ℕ) (old : Glyphs) (first : Counted) (from end i : ℕ) (gs new : Glyphs) (c next : Counted) →
    IsMarked number ps old first from end i gs c → i < end → marked_one number ps gs i c ≡ record { text = new; counted = next } →
    length new ≡ length gs → IsMarked number ps old first from end (i + 1) new next
marking_next number ps old first from end i gs new c next m lt is len =
    let e : end - i ≡ suc (end - (i + 1)) = omega arith in
    let h : Marked → Marked = λ x. marks_inside (end - (i + 1)) number ps x.text (i + 1) x.counted in
    record {
      rest = m.rest ∙ ap (λ n. marks_inside n number ps gs i c) e ∙ one_marked (end - (i + 1)) number ps gs i c ∙ ap h is;
      same = len ∙ m.same;
    }

pub marking_all : (number : ℕ) (ps : List ℕ) (old : Glyphs) (first : Counted) (from end i : ℕ) (gs : Glyphs) (c : Counted) →
    IsMarked number ps old first from end i gs c → end ≤ i →
    marks_inside (end - from) number ps old from first ≡ record { text = gs; counted = c }
marking_all number ps old first from end i gs c m le =
    let e : end - i ≡ 0 = omega arith in
    m.rest ∙ ap (λ n. marks_inside n number ps gs i c) e ∙ no_mark number ps gs i c

pub marking_end : (number : ℕ) (ps : List ℕ) (old : Glyphs) (first : Counted) (at last i : ℕ) (gs : Glyphs) (c : Counted) →
    IsMarked number ps old first (at + 1) (last + 1) i gs c → last + 1 ≤ i →
    marks_inside (last - at) number ps old (at + 1) first ≡ record { text = gs; counted = c }
marking_end number ps old first at last i gs c m le =
    let e : last - at ≡ last + 1 - (at + 1) = omega arith in
    ap (λ n. marks_inside n number ps old (at + 1) first) e ∙ marking_all number ps old first (at + 1) (last + 1) i gs c m le

-- ---- behind

pub record IsFollowed (number : ℕ) (c : Counted) (old : Glyphs) (from i : ℕ) (gs : Glyphs) : Type 0 where
  pub rest : followed_by_marks (length old - from) number c old from ≡ followed_by_marks (length gs - i) number c gs i
  pub same : length gs ≡ length old

one_followed : (n number : ℕ) (c : Counted) (gs : Glyphs) (i : ℕ) → is_of_last c (glyph_at gs i) ≡ true →
    followed_by_marks (suc n) number c gs i ≡ followed_by_marks n number c (set gs i (as_mark number c (glyph_at gs i))) (i + 1)
unfolding followed_by_marks
one_followed n number c gs i e = rw e refl

not_followed : (n number : ℕ) (c : Counted) (gs : Glyphs) (i : ℕ) → is_of_last c (glyph_at gs i) ≡ false →
    followed_by_marks n number c gs i ≡ gs
unfolding followed_by_marks
not_followed zero number c gs i e = refl
not_followed (suc n) number c gs i e = rw e refl

out_followed : (number : ℕ) (c : Counted) (gs : Glyphs) (i : ℕ) → followed_by_marks 0 number c gs i ≡ gs
unfolding followed_by_marks
out_followed number c gs i = refl

pub following_start : (number : ℕ) (c : Counted) (old : Glyphs) (from : ℕ) → IsFollowed number c old from from old
following_start number c old from = record { rest = refl; same = refl }

pub following_next : (number : ℕ) (c : Counted) (old : Glyphs) (from i : ℕ) (gs new : Glyphs) → IsFollowed number c old from i gs →
    i < length gs → is_of_last c (glyph_at gs i) ≡ true → new ≡ set gs i (as_mark number c (glyph_at gs i)) →
    length new ≡ length gs → IsFollowed number c old from (i + 1) new
following_next number c old from i gs new f lt e is len =
    let d : length gs - i ≡ suc (length gs - (i + 1)) = omega arith in
    record {
      rest = f.rest ∙ ap (λ n. followed_by_marks n number c gs i) d ∙ one_followed (length gs - (i + 1)) number c gs i e
          ∙ ap (λ x. followed_by_marks (length gs - (i + 1)) number c x (i + 1)) (sym is)
          ∙ ap (λ n. followed_by_marks (n - (i + 1)) number c new (i + 1)) (sym len);
      same = len ∙ f.same;
    }

pub following_end : (number : ℕ) (c : Counted) (old : Glyphs) (from i : ℕ) (gs : Glyphs) → IsFollowed number c old from i gs →
    is_of_last c (glyph_at gs i) ≡ false → gs ≡ followed_by_marks (length old - from) number c old from
following_end number c old from i gs f e = sym (f.rest ∙ not_followed (length gs - i) number c gs i e)

pub following_out : (number : ℕ) (c : Counted) (old : Glyphs) (from i : ℕ) (gs : Glyphs) → IsFollowed number c old from i gs →
    length gs ≤ i → gs ≡ followed_by_marks (length old - from) number c old from
following_out number c old from i gs f le =
    let d : length gs - i ≡ 0 = omega arith in
    sym (f.rest ∙ ap (λ n. followed_by_marks n number c gs i) d ∙ out_followed number c gs i)

-- ---- the nearest number

pub record IsSoughtBack (gs : Glyphs) (at i : ℕ) : Type 0 where
  pub few : i ≤ at
  pub rest : number_before at gs ≡ number_before i gs

pub number_found : (gs : Glyphs) (at i : ℕ) → IsSoughtBack gs at i → 0 < i → (ligature_number (glyph_at gs (i - 1)) == 0) ≡ false →
    ligature_number (glyph_at gs (i - 1)) ≡ number_before at gs
unfolding number_before
number_found gs at zero s lt e = absurd (omega arith)
number_found gs at (suc i) s lt e =
    let d : suc i - 1 ≡ i = omega arith in
    rw d (sym (s.rest ∙ rw (rw d at e) refl))

pub number_passed : (gs : Glyphs) (at i : ℕ) → IsSoughtBack gs at i → 0 < i → (ligature_number (glyph_at gs (i - 1)) == 0) ≡ true →
    IsSoughtBack gs at (i - 1)
unfolding number_before
number_passed gs at zero s lt e = absurd (omega arith)
number_passed gs at (suc i) s lt e =
    let d : suc i - 1 ≡ i = omega arith in
    let few = s.few in
    rw d (record { few = omega arith; rest = s.rest ∙ rw (rw d at e) refl })

pub number_none : (gs : Glyphs) (at i : ℕ) → IsSoughtBack gs at i → i ≤ 0 → 0 ≡ number_before at gs
unfolding number_before
number_none gs at i s le = let e : i ≡ 0 = omega arith in sym (rw e at s.rest)
