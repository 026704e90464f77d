-- Parts of glyphs in their forms, and of what joining leaves.
use Rattle.std.proofs.Common.{◌≡◌, ℕ, suc, List, [], ◌∷◌, ◌++◌, length, map, take, drop, Option, refl, arith}
use Rattle.std.proofs.lemmas.List.{map-append, take-map, drop-map}
use Rattle.shapers_buffer.specs.Buffer.{Buffer}
use Rattle.shapers_buffer.specs.Glyph.{order_view}
use Rattle.shapers_buffer.specs.declared.buffer.category.hb_unicode_general_category_t.{hb_unicode_general_category_t}
use Rattle.shapers_buffer.specs.declared.buffer.flags.BufferFlags.{BufferFlags}
use Rattle.shapers_buffer.specs.Glyphs.{Glyphs}
use Rattle.shapers_buffer.specs.declared.buffer.tag.Script.{Script}
use Rattle.shapers_base.specs.declared.plan.breaks.BreakFlags.{BreakFlags}
use Rattle.shapers_base.specs.declared.plan.joining.hb_arabic_joining_type_t.{hb_arabic_joining_type_t}
use Rattle.shapers_clusters.proofs.FlagCalls.{map-flags_called}
use Rattle.shapers_arabic.specs.JoinedText.{Text, context_types, forms_of, joined_glyphs, stored_types, text_of, with_joining_forms}
use Rattle.shapers_arabic.proofs.BrokenGlyphs.{types_long, view-joined}
use Rattle.shapers_arabic.proofs.JoiningLaws.{length-forms_of, text_long}
use Rattle.shapers_arabic.proofs.SoundOrder.{calls-in_order}

-- glyphs in their forms, cut at a place
take-formed : (masks : List ℕ) (n : ℕ) (fs : List ℕ) (gs : Glyphs)
    → take n (with_joining_forms masks fs gs) ≡ with_joining_forms masks (take n fs) (take n gs)
take-formed masks (suc n) (f ∷ fs) (g ∷ gs) = cc (take-formed masks n fs gs)
take-formed masks _ _ _ = refl

no-glyphs : (masks fs : List ℕ) → with_joining_forms masks fs [] ≡ []
no-glyphs masks [] = refl
no-glyphs masks (f ∷ fs) = refl

drop-formed : (masks : List ℕ) (n : ℕ) (fs : List ℕ) (gs : Glyphs)
    → drop n (with_joining_forms masks fs gs) ≡ with_joining_forms masks (drop n fs) (drop n gs)
drop-formed masks (suc n) (f ∷ fs) [] = search (arith, no-glyphs)
drop-formed masks (suc n) (f ∷ fs) (g ∷ gs) = drop-formed masks n fs gs
drop-formed masks _ _ gs = refl

-- the order view of them, cut at a place
pub take-shown : (masks : List ℕ) (n : ℕ) (fs : List ℕ) (gs : Glyphs)
    → take n (order_view (with_joining_forms masks fs gs))
    ≡ order_view (with_joining_forms masks (take n fs) (take n gs))
take-shown = search (arith, take-map, take-formed)

pub drop-shown : (masks : List ℕ) (n : ℕ) (fs : List ℕ) (gs : Glyphs)
    → drop n (order_view (with_joining_forms masks fs gs))
    ≡ order_view (with_joining_forms masks (drop n fs) (drop n gs))
drop-shown = search (arith, drop-map, drop-formed)

-- the same of what joining leaves
pub take-view : (breaks : BreakFlags) (masks : List ℕ) (flags : BufferFlags) (script : Option Script) (text : Text)
    (gs : Glyphs) (n : ℕ) → order_view (take n (joined_glyphs breaks masks flags script text gs))
    ≡ order_view (with_joining_forms masks (take n (forms_of script text)) (take n gs))
take-view breaks masks flags script text gs n = search (
  arith,
  take-map,
  view-joined breaks masks flags script text gs,
  take-shown masks n (forms_of script text) gs,
)

pub drop-view : (breaks : BreakFlags) (masks : List ℕ) (flags : BufferFlags) (script : Option Script) (text : Text)
    (gs : Glyphs) (n : ℕ) → order_view (drop n (joined_glyphs breaks masks flags script text gs))
    ≡ order_view (with_joining_forms masks (drop n (forms_of script text)) (drop n gs))
drop-view breaks masks flags script text gs n = search (
  arith,
  drop-map,
  view-joined breaks masks flags script text gs,
  drop-shown masks n (forms_of script text) gs,
)

-- characters stay
characters-formed : (masks fs : List ℕ) (gs : Glyphs) → length fs ≡ length gs
    → map (λ g. g.glyph_id) (with_joining_forms masks fs gs) ≡ map (λ g. g.glyph_id) gs
characters-formed masks [] [] e = refl
characters-formed masks (f ∷ fs) (g ∷ gs) e = cc (characters-formed masks fs gs (omega arith))
characters-formed masks _ _ e = absurd (omega arith)

pub characters-joined : (breaks : BreakFlags) (masks : List ℕ) (script : Option Script) (joining : ℕ
    → hb_arabic_joining_type_t) (general : ℕ → hb_unicode_general_category_t) (b : Buffer)
    → map (λ g. g.glyph_id) (joined_glyphs breaks masks b.flags script (text_of joining general b) b.glyphs)
    ≡ map (λ g. g.glyph_id) b.glyphs
characters-joined =
    search (arith, map-flags_called, calls-in_order, characters-formed, length-forms_of, text_long, types_long)

-- the text of a buffer whose glyphs are two parts
abbrev pub text_by : List hb_arabic_joining_type_t → List ℕ → List hb_arabic_joining_type_t
    → List hb_arabic_joining_type_t → Text
text_by before characters types after =
    record { before = before; characters = characters; types = types; after = after }

pub text-parts : (joining : ℕ → hb_arabic_joining_type_t) (general : ℕ → hb_unicode_general_category_t) (b : Buffer)
    (xs ys : Glyphs) → b.glyphs ≡ xs ++ ys → text_of joining general b
    ≡ text_by (context_types joining general b.before) (map (λ g. g.glyph_id) xs ++ map (λ g. g.glyph_id) ys)
    (stored_types joining xs ++ stored_types joining ys) (context_types joining general b.after)
text-parts = search (arith, map-append)
