-- Where the first half of a text that joins keeps its forms: at each clear place, and with the
-- code's flags in a fresh text at no other.
use Rattle.std.proofs.Common.{◌≡◌, ℕ, ◌<◌, List, [], length, take, drop, Option, sym, ap, ◌∙◌, subst, arith}
use Rattle.std.proofs.lemmas.Bool.{or_parts}
use Rattle.std.proofs.lemmas.List.{length-map, length-take-le, take-append-drop, take-map, take_at}
use Rattle.std.proofs.lemmas.List.Folds.{list_any-append}
use Rattle.std.proofs.lemmas.Slice.Zip.{length-zip}
use Rattle.std.specs.List.{zip}
use Rattle.shapers_buffer.specs.Buffer.{Buffer}
use Rattle.shapers_buffer.specs.Glyph.{plain, order_view}
use Rattle.shapers_buffer.specs.declared.buffer.category.hb_unicode_general_category_t.{hb_unicode_general_category_t}
use Rattle.shapers_buffer.specs.declared.buffer.flags.BufferFlags.{BufferFlags}
use Rattle.shapers_buffer.specs.Glyphs.{Glyphs}
use Rattle.shapers_buffer.specs.declared.buffer.tag.Script.{Script}
use Rattle.shapers_base.specs.declared.plan.breaks.BreakFlags.{BreakFlags}
use Rattle.shapers_base.specs.declared.plan.breaks.BreakFlags.TheVariants.{AsCode, Sound}
use Rattle.shapers_base.specs.declared.plan.joining.hb_arabic_joining_type_t.{hb_arabic_joining_type_t}
use Rattle.shapers_clusters.specs.Breaks.{forbids, IsFree, IsClear}
use Rattle.shapers_clusters.proofs.ClearPlaces.{held_by_calls}
use Rattle.shapers_arabic.specs.Breaks.{front_at}
use Rattle.shapers_arabic.specs.FirstPiece.{FirstKeepsAt, FirstKeepsAsFlagged}
use Rattle.shapers_arabic.specs.Fresh.{IsFresh, SelectorsAreTransparent}
use Rattle.shapers_arabic.specs.JoiningFlags.{joining_flags}
use Rattle.shapers_arabic.specs.JoinedText.{Text, added_calls, flag_calls, forms_of, first_half, with_form, with_joining_forms, joined_glyphs, buffer_joined, text_of}
use Rattle.shapers_arabic.proofs.BrokenGlyphs.{view-joined, with_forms-parts, free-clear, text-front, types_long, forms-shown, clear-fresh}
use Rattle.shapers_arabic.proofs.FreePlaces.{first-free, free-first}
use Rattle.shapers_arabic.proofs.JoiningLaws.{length-forms_of}

-- the calls of joining are among all calls
joining-free : (breaks : BreakFlags) (script : Option Script) (text : Text) (n : ℕ)
    → IsFree (flag_calls breaks script text) n → IsFree (joining_flags text.before text.types text.after) n
joining-free AsCode script text n free = free
joining-free Sound script text n free =
    (or_parts (held_by_calls n (joining_flags text.before text.types text.after))
    (held_by_calls n (added_calls script text))
    (sym (list_any-append (forbids n) (joining_flags text.before text.types text.after) (added_calls script text))
    ∙ free)).0

-- the front of glyphs in their forms
take-formed : (masks fs : List ℕ) (gs : Glyphs) (n : ℕ) → length fs ≡ length gs → n < length gs
    → take n (with_joining_forms masks fs gs) ≡ with_joining_forms masks (take n fs) (take n gs)
take-formed masks fs gs n same within =
    let xs = take n fs in
    let ys = take n gs in
    let x_long = length-take-le n fs (omega arith) in
    let y_long = length-take-le n gs (omega arith) in
    search (
      arith,
      take-append-drop n fs,
      take-append-drop n gs,
      with_forms-parts,
      take_at (with_joining_forms masks xs ys) (with_joining_forms masks (drop n fs) (drop n gs)) n
          (length-map (zip xs ys) (λ p. with_form masks p.0 p.1) ∙ omega (arith, length-zip xs ys)),
    )

-- the first half in the order view
front-joined : (breaks : BreakFlags) (masks : List ℕ) (flags : BufferFlags) (script : Option Script) (text : Text)
    (gs : Glyphs) (n : ℕ) → length text.characters ≡ length gs → length text.types ≡ length gs
    → n < length gs → IsFree (flag_calls breaks script text) n
    → order_view (take n (joined_glyphs breaks masks flags script text gs))
    ≡ order_view (joined_glyphs breaks masks flags script (first_half n [] text) (take n gs))
front-joined breaks masks flags script text gs n characters long within free =
    let same = characters ∙ sym long in
    let all = forms_of script text in
    search (
      arith,
      take-map,
      view-joined breaks masks flags script text gs,
      take-map plain n (with_joining_forms masks all gs),
      take-formed masks all gs n (length-forms_of script text same ∙ long) within,
      first-free script text n same (omega arith) (joining-free breaks script text n free),
      view-joined breaks masks flags script (first_half n [] text) (take n gs),
    )

-- and the forms in it
front-forms : (masks : List ℕ) (flags : BufferFlags) (script : Option Script) (text : Text) (gs : Glyphs)
    (n : ℕ) → length text.characters ≡ length gs → length text.types ≡ length gs → n < length gs
    → order_view (take n (joined_glyphs AsCode masks flags script text gs))
    ≡ order_view (joined_glyphs AsCode masks flags script (first_half n [] text) (take n gs))
    → take n (forms_of script text) ≡ forms_of script (first_half n [] text)
front-forms masks flags script text gs n characters long within kept =
    let one = first_half n [] text in
    search (
      arith,
      forms-shown AsCode masks flags script text gs characters long,
      take-map,
      forms-shown AsCode masks flags script one (take n gs)
          (length-take-le n text.characters (omega arith) ∙ sym (length-take-le n gs (omega arith)))
          (length-take-le n text.types (omega arith) ∙ sym (length-take-le n gs (omega arith))),
    )

-- the front of a buffer, joined by itself
front-is : (breaks : BreakFlags) (masks : List ℕ) (script : Option Script) (joining : ℕ → hb_arabic_joining_type_t)
    (general : ℕ → hb_unicode_general_category_t) (n : ℕ) (b : Buffer)
    → order_view (buffer_joined breaks masks script joining general (front_at n b)).glyphs
    ≡ order_view (joined_glyphs breaks masks b.flags script (first_half n [] (text_of joining general b))
    (take n b.glyphs))
front-is = search (arith, text-front)

first-kept_where : (breaks : BreakFlags) (masks : List ℕ) (script : Option Script) (joining : ℕ
    → hb_arabic_joining_type_t) (general : ℕ → hb_unicode_general_category_t) (old new : Buffer) (n : ℕ)
    → new ≡ buffer_joined breaks masks script joining general old → 0 < n → n < length old.glyphs → IsClear new.glyphs n
    → FirstKeepsAt breaks masks script joining general old new n
first-kept_where breaks masks script joining general old new n is pos within clear =
    let text = text_of joining general old in
    let gs = old.glyphs in
    let characters = length-map gs (λ g. g.glyph_id) in
    let long = types_long joining gs in
    let free = free-clear breaks masks old.flags script text gs n characters long pos within (subst (λ hs. IsClear hs
    n) (ap (λ (b : Buffer). b.glyphs) is) clear) in
    search (arith, front-joined breaks masks old.flags script text gs n characters long within free, front-is)

clear-kept : (breaks : BreakFlags) (masks : List ℕ) (script : Option Script) (joining : ℕ → hb_arabic_joining_type_t)
    (general : ℕ → hb_unicode_general_category_t) (old new : Buffer) (n : ℕ)
    → new ≡ buffer_joined breaks masks script joining general old → 0 < n → n < length old.glyphs → breaks ≡ AsCode
    → IsFresh masks old.glyphs → SelectorsAreTransparent script (text_of joining general old)
    → FirstKeepsAt breaks masks script joining general old new n → IsClear new.glyphs n
clear-kept Sound masks script joining general old new n is pos within e fresh silent kept = cc
clear-kept AsCode masks script joining general old new n is pos within e fresh silent kept =
    let text = text_of joining general old in
    let gs = old.glyphs in
    let characters = length-map gs (λ g. g.glyph_id) in
    let long = types_long joining gs in
    let forms_kept = front-forms masks old.flags script text gs n characters long within (ap
    (λ hs. order_view (take n hs)) (sym (ap (λ (b : Buffer). b.glyphs) is))
    ∙ kept ∙ front-is AsCode masks script joining general n old) in
    search (
      arith,
      clear-fresh AsCode masks old.flags script text gs n characters long fresh pos within
          (free-first script text n (characters ∙ sym long) (omega arith) silent forms_kept),
    )

pub first-as_flagged : (breaks : BreakFlags) (masks : List ℕ) (script : Option Script) (joining : ℕ
    → hb_arabic_joining_type_t) (general : ℕ → hb_unicode_general_category_t) (old new : Buffer)
    → new ≡ buffer_joined breaks masks script joining general old
    → FirstKeepsAsFlagged breaks masks script joining general old new
first-as_flagged = search (arith, first-kept_where, clear-kept)
