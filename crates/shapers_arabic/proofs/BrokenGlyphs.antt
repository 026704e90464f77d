-- Where no call forbids a break, the glyphs of a text are those of its halves; and where they are,
-- with Sound no call does.
use Rattle.std.proofs.Common.{◌≡◌, ℕ, zero, suc, ◌%◌, ◌<◌, Bool, true, false, cond, List, [], ◌∷◌, ◌++◌, length, map, take, drop, get_or, Option, refl, sym, ap, ◌∙◌, subst, arith, append_assoc}
use Rattle.std.specs.Int.Bits.{bit_or}
use Rattle.std.specs.List.{AllByRecursion, zip}
use Rattle.std.proofs.lemmas.Bool.{or_from, or_parts}
use Rattle.std.proofs.lemmas.List.{map-append, length-map, length-take-le, take-append-drop, length-drop, take-map, drop-map}
use Rattle.std.proofs.lemmas.List.Folds.{list_any-append}
use Rattle.std.proofs.lemmas.Nat.Bits.{bit_at_or}
use Rattle.std.proofs.lemmas.Simd.{map-map}
use Rattle.std.proofs.lemmas.Slice.Zip.{length-zip}
use Rattle.shapers_buffer.specs.Buffer.{Buffer, flags_concat, flags_tatweel, has_flag}
use Rattle.shapers_buffer.specs.Glyph.{clusters, plain, order_view}
use Rattle.shapers_buffer.specs.declared.buffer.category.hb_unicode_general_category_t.{hb_unicode_general_category_t}
use Rattle.shapers_buffer.specs.declared.buffer.flags.BufferFlags.{BufferFlags}
use Rattle.shapers_buffer.specs.Glyphs.{Glyph, Glyphs}
use Rattle.shapers_buffer.specs.declared.buffer.tag.Script.{Script}
use Rattle.shapers_base.specs.declared.plan.breaks.BreakFlags.{BreakFlags}
use Rattle.shapers_base.specs.declared.plan.breaks.BreakFlags.TheVariants.{AsCode, Sound}
use Rattle.shapers_base.specs.declared.plan.joining.hb_arabic_joining_type_t.{hb_arabic_joining_type_t}
use Rattle.shapers_clusters.specs.Breaks.{forbids, IsFree, IsClear, is_unsafe}
use Rattle.shapers_clusters.proofs.ClearPlaces.{held_by_calls, clear-places}
use Rattle.shapers_clusters.proofs.FlagCalls.{map-flags_called, plain-with_bits}
use Rattle.shapers_clusters.proofs.Needless.{needless, unsafe-none}
use Rattle.shapers_arabic.specs.Breaks.{sound_flags, front_at, back_at, IsSpared, BreaksWhereClear, NoneNeedless}
use Rattle.shapers_arabic.specs.Fresh.{IsFresh, SelectorsAreTransparent}
use Rattle.shapers_arabic.specs.Joining.{forms, selected}
use Rattle.shapers_arabic.specs.JoinedText.{Text, is_mongolian, flag_calls, forms_of, first_half, second_half, with_joining_forms, joined_glyphs, buffer_joined, text_of, stored_types}
use Rattle.shapers_arabic.specs.SoundFlags.{selector_flags}
use Rattle.shapers_arabic.proofs.BreakLists.{exact}
use Rattle.shapers_arabic.proofs.FreePlaces.{free-halves}
use Rattle.shapers_arabic.proofs.JoinedGlyphs.{forms-joined}
use Rattle.shapers_arabic.proofs.JoiningLaws.{length-forms_of}
use Rattle.shapers_arabic.proofs.JoiningLists.{length-forms}
use Rattle.shapers_arabic.proofs.Selectors.{selected-halves}
use Rattle.shapers_arabic.proofs.SoundOrder.{calls-in_order}

-- flags don't show in the order view
pub view-joined : (breaks : BreakFlags) (masks : List ℕ) (flags : BufferFlags) (script : Option Script) (text : Text)
    (gs : Glyphs) → order_view (joined_glyphs breaks masks flags script text gs)
    ≡ order_view (with_joining_forms masks (forms_of script text) gs)
view-joined = search (arith, map-flags_called, plain-with_bits, calls-in_order)

pub with_forms-parts : (masks fs hs : List ℕ) (xs ys : Glyphs) → length fs ≡ length xs
    → with_joining_forms masks (fs ++ hs) (xs ++ ys) ≡ with_joining_forms masks fs xs ++ with_joining_forms masks hs ys
with_forms-parts masks [] hs [] ys e = refl
with_forms-parts masks (f ∷ fs) hs (x ∷ xs) ys e = cc (with_forms-parts masks fs hs xs ys (omega arith))
with_forms-parts masks _ hs _ ys e = absurd (omega arith)

-- where no call of Sound forbids a break: the forms are those of the halves
pub forms-break : (script : Option Script) (text : Text) (n : ℕ) → length text.characters ≡ length text.types → 0 < n
    → n < length text.types → IsFree (flag_calls Sound script text) n
    → forms_of script text ≡ forms_of script (first_half n [] text) ++ forms_of script (second_half n [] text)
forms-break script text n same pos within free =
    let ts = take n text.types in
    let us = drop n text.types in
    let cs = take n text.characters in
    let ds = drop n text.characters in
    let rule = forms text.before text.types text.after in
    let fs = forms text.before ts [] in
    let hs = forms [] us text.after in
    let whole = take-append-drop n text.types in
    let at : length ts ≡ n = search (arith, length-take-le) in
    let c_at : length cs ≡ n = search (arith, length-take-le) in
    let first = sound_flags text.before text.types text.after in
    let rest = λ (b : Bool) (xs : List ℕ) (ys : List ℕ). cond b (selector_flags [] (zip xs ys)) [] in
    let split = or_parts (held_by_calls n first) (held_by_calls n (rest (is_mongolian script) text.characters rule))
    (
    search (
      arith,
      append_assoc,
      list_any-append (forbids n) first (rest (is_mongolian script) text.characters rule),
    )) in
    let may = (exact text.before ts us text.after (omega arith) (omega (arith, length-drop n text.types))).0 (subst
    (λ xs. IsFree (sound_flags text.before xs text.after) (length ts)) (sym whole) (subst
    (λ m. IsFree first m) (sym at) split.0)) in
    let by_rule : rule ≡ fs ++ hs = cc in
    elim (is_mongolian script) as (λ b. held_by_calls n (rest b text.characters rule) ≡ false
    → cond b (selected [] (zip text.characters rule)) rule ≡ cond b (selected [] (zip cs fs)) fs
    ++ cond b (selected [] (zip ds hs)) hs) [
      | false ↦ λ f. by_rule
      | true ↦ λ f.
          let parts =
          ap (λ xs. zip xs rule) (sym (take-append-drop n text.characters)) ∙ ap (zip (cs ++ ds)) by_rule in
          ap (selected []) parts
          ∙ selected-halves cs ds fs hs (length-forms text.before ts [] ∙ at ∙ sym c_at) (omega arith)
          (ap (λ m. held_by_calls m (selector_flags [] (zip (cs ++ ds) (fs ++ hs)))) c_at
          ∙ ap (λ ps. held_by_calls n (selector_flags [] ps)) (sym parts) ∙ f)
    ] split.1

-- the glyphs are then those of the halves
halves-free : (breaks : BreakFlags) (masks : List ℕ) (flags : BufferFlags) (script : Option Script) (text : Text)
    (gs : Glyphs) (n : ℕ) → length text.characters ≡ length gs → length text.types ≡ length gs → 0 < n
    → n < length gs → IsFree (flag_calls Sound script text) n
    → order_view (joined_glyphs breaks masks flags script text gs)
    ≡ order_view (joined_glyphs breaks masks flags script (first_half n [] text) (take n gs))
    ++ order_view (joined_glyphs breaks masks flags script (second_half n [] text) (drop n gs))
halves-free breaks masks flags script text gs n characters long pos within free =
    let one = first_half n [] text in
    let two = second_half n [] text in
    let first =
    length-forms_of script one
    (length-take-le n text.characters (omega arith) ∙ sym (length-take-le n text.types (omega arith)))
    ∙ length-take-le n text.types (omega arith) ∙ sym (length-take-le n gs (omega arith)) in
    search (
      arith,
      view-joined breaks masks flags script text gs,
      forms-break script text n (characters ∙ sym long) pos (omega arith) free,
      take-append-drop n gs,
      with_forms-parts masks (forms_of script one) (forms_of script two) (take n gs) (drop n gs) first,
      map-append,
      view-joined breaks masks flags script one (take n gs),
      view-joined breaks masks flags script two (drop n gs),
    )

-- a clear place that is spared is free
pub free-clear : (breaks : BreakFlags) (masks : List ℕ) (flags : BufferFlags) (script : Option Script) (text : Text)
    (gs : Glyphs) (n : ℕ) → length text.characters ≡ length gs → length text.types ≡ length gs → 0 < n
    → n < length gs → IsClear (joined_glyphs breaks masks flags script text gs) n
    → IsFree (flag_calls breaks script text) n
free-clear breaks masks flags script text gs n characters long pos within clear =
    let all_long : length (forms_of script text) ≡ length text.types =
    search (arith, length-forms_of) in
    let formed_long : length (with_joining_forms masks (forms_of script text) gs) ≡ length gs =
    search (arith, length-map, length-zip) in
    search (arith, clear-places, calls-in_order)

spared-free : (breaks : BreakFlags) (script : Option Script) (text : Text) (n : ℕ)
    → IsFree (flag_calls breaks script text) n → IsSpared breaks script text n → IsFree (flag_calls Sound script text) n
spared-free AsCode script text n free spared = search (arith, list_any-append, or_from)
spared-free Sound script text n free spared = free

-- the texts of the halves of a buffer
pub text-front : (joining : ℕ → hb_arabic_joining_type_t) (general : ℕ → hb_unicode_general_category_t) (n : ℕ)
    (b : Buffer) → text_of joining general (front_at n b) ≡ first_half n [] (text_of joining general b)
text-front = search (arith, take-map)

pub types_long : (joining : ℕ → hb_arabic_joining_type_t) (gs : Glyphs) → length (stored_types joining gs) ≡ length gs
types_long = search (arith, length-map)

-- the halves of a buffer, joined by themselves
halves-are : (breaks : BreakFlags) (masks : List ℕ) (script : Option Script) (joining : ℕ → hb_arabic_joining_type_t)
    (general : ℕ → hb_unicode_general_category_t) (n : ℕ) (b : Buffer) → let text =
    text_of joining general b in order_view (buffer_joined breaks masks script joining general (front_at n b)).glyphs
    ++ order_view (buffer_joined breaks masks script joining general (back_at n b)).glyphs
    ≡ order_view (joined_glyphs breaks masks b.flags script (first_half n [] text) (take n b.glyphs))
    ++ order_view (joined_glyphs breaks masks b.flags script (second_half n [] text) (drop n b.glyphs))
halves-are = search (arith, text-front, drop-map)

pub breaks-where_clear : (breaks : BreakFlags) (masks : List ℕ) (script : Option Script) (joining : ℕ
    → hb_arabic_joining_type_t) (general : ℕ → hb_unicode_general_category_t) (old new : Buffer)
    → new ≡ buffer_joined breaks masks script joining general old
    → BreaksWhereClear breaks masks script joining general old new
breaks-where_clear breaks masks script joining general old new is n pos within clear spared =
    let text = text_of joining general old in
    let gs = old.glyphs in
    let characters = length-map gs (λ g. g.glyph_id) in
    let long = types_long joining gs in
    let free = free-clear breaks masks old.flags script text gs n characters long pos within (subst (λ hs. IsClear hs
    n) (ap (λ (b : Buffer). b.glyphs) is) clear) in
    search (
      arith,
      halves-free breaks masks old.flags script text gs n characters long pos within
          (spared-free breaks script text n free spared),
      halves-are,
    )

-- forms and their masks leave clusters, and set no bit of a break where no mask has a glyph flag bit
clusters-formed : (masks fs : List ℕ) (gs : Glyphs) → length fs ≡ length gs
    → clusters (with_joining_forms masks fs gs) ≡ clusters gs
clusters-formed masks [] [] e = refl
clusters-formed masks (f ∷ fs) (g ∷ gs) e = cc (clusters-formed masks fs gs (omega arith))
clusters-formed masks _ _ e = absurd (omega arith)

mask-at : (masks : List ℕ) (i : ℕ) → AllByRecursion (λ m. m % 8 ≡ 0) masks → get_or masks i 0 % 8 ≡ 0
mask-at [] i all = refl
mask-at (m ∷ ms) zero all = all.0
mask-at (m ∷ ms) (suc i) all = mask-at ms i all.1

unflagged-one : (g : Glyph) (form m : ℕ) → is_unsafe g ≡ false → m % 8 ≡ 0
    → is_unsafe (record g { auxiliary = form; mask = bit_or g.mask m }) ≡ false
unflagged-one g form m e low =
    unsafe-none (record g { auxiliary = form; mask = bit_or g.mask m })
    (search (arith, bit_at_or g.mask m 0, bit_at_or g.mask m 2))

unflagged-formed : (masks fs : List ℕ) (gs : Glyphs) → AllByRecursion (λ m. m % 8 ≡ 0) masks
    → AllByRecursion (λ g. is_unsafe g ≡ false) gs
    → AllByRecursion (λ g. is_unsafe g ≡ false) (with_joining_forms masks fs gs)
unflagged-formed masks (f ∷ fs) (g ∷ gs) m all =
    search (arith, unflagged-one, mask-at, unflagged-formed masks fs gs m all.1)
unflagged-formed masks _ _ m all = tt

-- the forms are shown in the order view
pub forms-shown : (breaks : BreakFlags) (masks : List ℕ) (flags : BufferFlags) (script : Option Script) (text : Text)
    (gs : Glyphs) → length text.characters ≡ length gs → length text.types ≡ length gs
    → map (λ g. g.auxiliary) (order_view (joined_glyphs breaks masks flags script text gs)) ≡ forms_of script text
forms-shown breaks masks flags script text gs characters long =
    map-map (λ (g : Glyph). g.auxiliary) plain (joined_glyphs breaks masks flags script text gs)
    ∙ forms-joined masks (forms_of script text) flags (flag_calls breaks script text) gs
    (search (arith, length-forms_of)) (calls-in_order breaks script text)

-- a free place of a fresh text is clear
pub clear-fresh : (breaks : BreakFlags) (masks : List ℕ) (flags : BufferFlags) (script : Option Script) (text : Text)
    (gs : Glyphs) (n : ℕ) → length text.characters ≡ length gs → length text.types ≡ length gs
    → IsFresh masks gs → 0 < n → n < length gs → IsFree (flag_calls breaks script text) n
    → IsClear (joined_glyphs breaks masks flags script text gs) n
clear-fresh breaks masks flags script text gs n characters long fresh pos within free =
    let all = forms_of script text in
    let formed = with_joining_forms masks all gs in
    let same = clusters-formed masks all gs (search (arith, length-forms_of)) in
    let formed_long : length formed ≡ length gs = search (arith, length-map) in
    needless (has_flag flags_concat flags) (has_flag flags_tatweel flags) (flag_calls breaks script text) formed n
    (calls-in_order breaks script text) (search arith) (search (arith, unflagged-formed)) pos (omega arith) free

-- so where the halves are the whole the place is clear
clear-broken : (masks : List ℕ) (flags : BufferFlags) (script : Option Script) (text : Text) (gs : Glyphs)
    (n : ℕ) → length text.characters ≡ length gs → length text.types ≡ length gs → IsFresh masks gs
    → SelectorsAreTransparent script text → 0 < n → n < length gs
    → order_view (joined_glyphs Sound masks flags script text gs)
    ≡ order_view (joined_glyphs Sound masks flags script (first_half n [] text) (take n gs))
    ++ order_view (joined_glyphs Sound masks flags script (second_half n [] text) (drop n gs))
    → IsClear (joined_glyphs Sound masks flags script text gs) n
clear-broken masks flags script text gs n characters long fresh silent pos within may =
    let one = first_half n [] text in
    let two = second_half n [] text in
    let aux = λ (g : Glyph). g.auxiliary in
    let back = order_view (joined_glyphs Sound masks flags script two (drop n gs)) in
    let forms_fall =
    sym (forms-shown Sound masks flags script text gs characters long) ∙ ap (map aux) may
    ∙ map-append aux (order_view (joined_glyphs Sound masks flags script one (take n gs))) back
    ∙ ap (λ xs. xs ++ map aux back)
    (forms-shown Sound masks flags script one (take n gs) (search (arith, length-take-le)) (search (
      arith,
      length-take-le,
    ))) ∙ ap (λ xs. forms_of script one ++ xs)
    (forms-shown Sound masks flags script two (drop n gs) (omega (
      arith,
      length-drop n gs,
      length-drop n text.characters,
    )) (search (arith, length-drop))) in
    clear-fresh Sound masks flags script text gs n characters long fresh pos within
    (free-halves script text n (characters ∙ sym long) pos (omega arith) silent forms_fall)

pub none-needless : (breaks : BreakFlags) (masks : List ℕ) (script : Option Script) (joining : ℕ
    → hb_arabic_joining_type_t) (general : ℕ → hb_unicode_general_category_t) (old new : Buffer)
    → new ≡ buffer_joined breaks masks script joining general old
    → NoneNeedless breaks masks script joining general old new
none-needless AsCode masks script joining general old new is e fresh silent n pos within may = cc
none-needless Sound masks script joining general old new is e fresh silent n pos within may =
    let text = text_of joining general old in
    let gs = old.glyphs in
    search (
      arith,
      clear-broken masks old.flags script text gs n (length-map gs (λ g. g.glyph_id)) (types_long joining gs) fresh
          silent pos within
          (sym (ap order_view (ap (λ (b : Buffer). b.glyphs) is)) ∙ may ∙ halves-are Sound masks script joining
          general n old),
    )
