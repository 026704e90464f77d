-- Edited buffers, on small texts written out from the rule.
use Rattle.std.proofs.Common.{arith}
use Rattle.std.proofs.Common.{◌≡◌, ◌==◌, ℕ, List, [], ◌∷◌, map, get_or, Option, None, Some, codes, refl, ap}
use Rattle.std.specs.Prelude.{if◌then◌else◌}
use Rattle.std.proofs.lemmas.Bool.{eqb-false}
use Rattle.shapers_buffer.specs.Buffer.{Buffer, new_buffer}
use Rattle.shapers_buffer.specs.Glyph.{default_glyph}
use Rattle.shapers_buffer.specs.declared.buffer.category.hb_unicode_general_category_t.{hb_unicode_general_category_t}
use Rattle.shapers_buffer.specs.declared.buffer.category.hb_unicode_general_category_t.TheVariants as gc
use Rattle.shapers_buffer.specs.Glyphs.{Glyph, Glyphs}
use Rattle.shapers_buffer.specs.declared.buffer.tag.Script.{Script}
use Rattle.shapers_base.specs.declared.plan.breaks.BreakFlags.TheVariants.{AsCode}
use Rattle.shapers_base.specs.declared.plan.joining.hb_arabic_joining_type_t.{hb_arabic_joining_type_t}
use Rattle.shapers_base.specs.declared.plan.joining.hb_arabic_joining_type_t.TheVariants.{U, R, D, T}
use Rattle.shapers_arabic.specs.declared.ot_shaper_arabic.arabic_action_t.TheConstants.{FINA, INIT, ISOL, MEDI, NONE}
use Rattle.shapers_arabic.specs.Edited.{SameBut, StayBefore, StayBehind, StayNear, edited}
use Rattle.shapers_arabic.specs.JoinedText.{buffer_joined}

-- a made table: D for 1, R for 2, T for 3 and 180B, U for others
abbrev joining_of : ℕ → hb_arabic_joining_type_t
joining_of c = if c == 1 then D else if c == 2 then R else if c == 3 then T else if c == 0x180B then T else U

abbrev letters : ℕ → hb_unicode_general_category_t
letters c = gc.Lo

-- glyphs of these characters, and glyphs in these forms
abbrev text : List ℕ → Glyphs
text cs = map (λ c. let g : Glyph = record default_glyph { glyph_id = c } in g) cs

abbrev in_forms : List ℕ → Glyphs
in_forms fs = map (λ f. let g : Glyph = record default_glyph { auxiliary = f } in g) fs

abbrev buffer_of : List ℕ → Buffer
buffer_of cs = let b : Buffer = record (new_buffer 9) { glyphs = text cs } in b

abbrev mong : Option Script
mong = Some (record { 0 = codes "Mong" })

-- two glyphs for one, one put in, one taken out
row_replaced : edited 1 2 (text (7 ∷ 8 ∷ [])) (buffer_of (4 ∷ 5 ∷ 6 ∷ [])) ≡ buffer_of (4 ∷ 7 ∷ 8 ∷ 6 ∷ [])
row_replaced = refl

row_inserted : edited 1 1 (text (7 ∷ [])) (buffer_of (4 ∷ 5 ∷ [])) ≡ buffer_of (4 ∷ 7 ∷ 5 ∷ [])
row_inserted = refl

row_deleted : edited 1 2 [] (buffer_of (4 ∷ 5 ∷ 6 ∷ [])) ≡ buffer_of (4 ∷ 6 ∷ [])
row_deleted = refl

-- the same but for place 1: what is before place k doesn't count, nor selectors directly behind it,
-- with the script Mongolian
row_same : SameBut {T = ℕ} None 0 1 (4 ∷ 5 ∷ 6 ∷ []) (1 ∷ 2 ∷ 3 ∷ []) (1 ∷ 9 ∷ 3 ∷ [])
row_same = (refl, refl)

row_from : SameBut {T = ℕ} None 1 2 (4 ∷ 5 ∷ 6 ∷ 7 ∷ []) (1 ∷ 2 ∷ 3 ∷ 4 ∷ []) (9 ∷ 2 ∷ 9 ∷ 4 ∷ [])
row_from = (refl, refl)

row_selectors : SameBut {T = ℕ} mong 0 0 (4 ∷ 0x180B ∷ 0x180C ∷ 7 ∷ []) (1 ∷ 2 ∷ 3 ∷ 4 ∷ []) (9 ∷ 9 ∷ 9 ∷ 4 ∷ [])
row_selectors = (refl, refl)

at : (i : ℕ) (xs ys : List ℕ) → xs ≡ ys → get_or xs i 0 ≡ get_or ys i 0
at i xs ys e = ap (λ zs. get_or zs i 0) e

row_other_before : SameBut {T = ℕ} None 0 1 (4 ∷ 5 ∷ 6 ∷ []) (1 ∷ 2 ∷ 3 ∷ []) (9 ∷ 2 ∷ 3 ∷ []) → ⊥
row_other_before = search (arith, eqb-false, at)

row_other_behind : SameBut {T = ℕ} None 0 1 (4 ∷ 5 ∷ 6 ∷ []) (1 ∷ 2 ∷ 3 ∷ []) (1 ∷ 2 ∷ 9 ∷ []) → ⊥
row_other_behind = search (arith, eqb-false, at)

row_selector_of_none : SameBut {T = ℕ} None 0 0 (4 ∷ 0x180B ∷ []) (1 ∷ 2 ∷ []) (1 ∷ 9 ∷ []) → ⊥
row_selector_of_none = search (arith, eqb-false, at)

row_later_selector : SameBut {T = ℕ} mong 0 0 (4 ∷ 5 ∷ 0x180B ∷ []) (1 ∷ 2 ∷ 3 ∷ []) (1 ∷ 2 ∷ 9 ∷ []) → ⊥
row_later_selector = search (arith, eqb-false, at)

-- forms of glyphs
form_at : (i : ℕ) (xs ys : Glyphs) → xs ≡ ys → get_or (map (λ g. g.auxiliary) xs) i 0
    ≡ get_or (map (λ g. g.auxiliary) ys) i 0
form_at i xs ys e = cc

-- before an edit: without a letter nothing may change, not even selectors; else no letter but the last, and no mark
row_no_letter : StayBefore mong (T ∷ T ∷ []) (3 ∷ 0x180B ∷ []) (in_forms (7 ∷ 7 ∷ [])) (in_forms (7 ∷ 0 ∷ [])) → ⊥
row_no_letter = search (arith, eqb-false, form_at)

row_earlier_letter : StayBefore None (D ∷ D ∷ T ∷ []) (1 ∷ 1 ∷ 3 ∷ []) (in_forms (0 ∷ 0 ∷ 7 ∷ []))
    (in_forms (6 ∷ 0 ∷ 7 ∷ [])) → ⊥
row_earlier_letter stay = eqb-false 0 6 refl (form_at 0 _ _ (stay.last (D ∷ []) (T ∷ []) D refl refl refl).0)

row_mark_behind : StayBefore None (D ∷ D ∷ T ∷ []) (1 ∷ 1 ∷ 3 ∷ []) (in_forms (0 ∷ 0 ∷ 7 ∷ []))
    (in_forms (0 ∷ 0 ∷ 0 ∷ [])) → ⊥
row_mark_behind stay = eqb-false 7 0 refl (form_at 0 _ _ (stay.last (D ∷ []) (T ∷ []) D refl refl refl).1)

row_selector_behind : StayBefore mong (D ∷ T ∷ T ∷ []) (1 ∷ 3 ∷ 0x180B ∷ []) (in_forms (0 ∷ 7 ∷ 7 ∷ []))
    (in_forms (0 ∷ 7 ∷ 0 ∷ [])) → ⊥
row_selector_behind stay = eqb-false 7 0 refl (form_at 1 _ _ (stay.last [] (T ∷ T ∷ []) D refl refl refl).1)

-- behind an edit: without a letter only selectors that open the part may change; else no letter but
-- the first, and no mark
row_no_letter_behind : StayBehind mong (T ∷ T ∷ []) (0x180B ∷ 3 ∷ []) (in_forms (7 ∷ 7 ∷ [])) (in_forms (0 ∷ 0 ∷ []))
    → ⊥
row_no_letter_behind = search (arith, eqb-false, form_at)

row_opening : StayBehind None (T ∷ T ∷ []) (0x180B ∷ 3 ∷ []) (in_forms (7 ∷ 7 ∷ [])) (in_forms (0 ∷ 7 ∷ [])) → ⊥
row_opening = search (arith, eqb-false, form_at)

row_mark_before : StayBehind None (T ∷ D ∷ D ∷ []) (3 ∷ 1 ∷ 1 ∷ []) (in_forms (7 ∷ 0 ∷ 0 ∷ []))
    (in_forms (0 ∷ 0 ∷ 0 ∷ [])) → ⊥
row_mark_before stay = eqb-false 7 0 refl (form_at 0 _ _ (stay.first (T ∷ []) (D ∷ []) D refl refl refl).0)

row_selector_before : StayBehind mong (T ∷ T ∷ D ∷ []) (3 ∷ 0x180B ∷ 1 ∷ []) (in_forms (7 ∷ 7 ∷ 0 ∷ []))
    (in_forms (7 ∷ 0 ∷ 0 ∷ [])) → ⊥
row_selector_before stay = eqb-false 7 0 refl (form_at 1 _ _ (stay.first (T ∷ T ∷ []) [] D refl refl refl).0)

row_later_letter : StayBehind None (T ∷ D ∷ D ∷ []) (3 ∷ 1 ∷ 1 ∷ []) (in_forms (7 ∷ 0 ∷ 0 ∷ []))
    (in_forms (7 ∷ 0 ∷ 1 ∷ [])) → ⊥
row_later_letter stay = eqb-false 0 1 refl (form_at 0 _ _ (stay.first (T ∷ []) (D ∷ []) D refl refl refl).1)

-- a text and its parts: two glyphs for the one at place 1
row_part_before : StayNear None joining_of 1 2 2 (text (3 ∷ 1 ∷ 3 ∷ [])) (in_forms (7 ∷ 0 ∷ 7 ∷ []))
    (in_forms (0 ∷ 0 ∷ 0 ∷ 7 ∷ [])) → ⊥
row_part_before = search (arith, eqb-false, form_at)

row_part_behind : StayNear None joining_of 1 2 2 (text (3 ∷ 1 ∷ 3 ∷ [])) (in_forms (7 ∷ 0 ∷ 7 ∷ []))
    (in_forms (7 ∷ 0 ∷ 0 ∷ 0 ∷ [])) → ⊥
row_part_behind = search (arith, eqb-false, form_at)

-- what an edit reaches: D for U between two D, and taken out again; marks don't shield
abbrev forms_after : Option Script → Buffer → List ℕ
forms_after script b = map (λ g. g.auxiliary) (buffer_joined AsCode [] script joining_of letters b).glyphs

row_apart : forms_after None (buffer_of (1 ∷ 1 ∷ 3 ∷ 9 ∷ 3 ∷ 1 ∷ 1 ∷ [])) ≡ INIT ∷ FINA ∷ NONE ∷ NONE ∷ NONE ∷ INIT
    ∷ FINA ∷ []
row_apart = refl

row_near : forms_after None (edited 3 4 (text (1 ∷ [])) (buffer_of (1 ∷ 1 ∷ 3 ∷ 9 ∷ 3 ∷ 1 ∷ 1 ∷ [])))
    ≡ INIT ∷ MEDI ∷ NONE ∷ MEDI ∷ NONE ∷ MEDI ∷ FINA ∷ []
row_near = refl

row_out : forms_after None (edited 3 4 [] (buffer_of (1 ∷ 1 ∷ 3 ∷ 9 ∷ 3 ∷ 1 ∷ 1 ∷ []))) ≡ INIT ∷ MEDI ∷ NONE ∷ NONE
    ∷ MEDI ∷ FINA ∷ []
row_out = refl

-- with the script Mongolian the selectors behind the letter before the edit, and behind the edit, go with them
row_copied : forms_after mong (buffer_of (1 ∷ 0x180B ∷ 9 ∷ 0x180B ∷ 1 ∷ 0x180B ∷ [])) ≡ ISOL ∷ ISOL ∷ NONE ∷ NONE ∷ ISOL
    ∷ ISOL ∷ []
row_copied = refl

row_copied_near : forms_after mong (edited 2 3 (text (1 ∷ [])) (buffer_of (1 ∷ 0x180B ∷ 9 ∷ 0x180B ∷ 1 ∷ 0x180B ∷ [])))
    ≡ INIT ∷ INIT ∷ MEDI ∷ MEDI ∷ FINA ∷ FINA ∷ []
row_copied_near = refl
