-- Joining, the selectors and the masks together: each glyph in its form, with the flags of joining.
use Rattle.std.proofs.Common.{◌≡◌, ℕ, ◌<◌, Bool, true, false, cond, List, [], ◌∷◌, ◌++◌, length, map, Option, None, Some, refl, sym, ap, ◌∙◌, subst, arith}
use Rattle.std.specs.List.{AllByRecursion, zip}
use Rattle.std.proofs.lemmas.List.{append-nil, length-map}
use Rattle.std.proofs.lemmas.Simd.{map-map}
use Rattle.std.proofs.lemmas.Slice.Zip.{firsts-zip, seconds-zip}
use Rattle.shapers_buffer.specs.Buffer.{has_flag}
use Rattle.shapers_buffer.specs.GlyphFlags.{FlagCall, flags_called}
use Rattle.shapers_buffer.specs.declared.buffer.flags.BufferFlags.{BufferFlags}
use Rattle.shapers_buffer.specs.Glyphs.{Glyph, Glyphs}
use Rattle.shapers_buffer.specs.declared.buffer.tag.Script.{Script}
use Rattle.shapers_buffer.proofs.MaskBits.{or_swap}
use Rattle.shapers_clusters.specs.Flags.{InOrder}
use Rattle.shapers_clusters.proofs.FlagCalls.{map-flags_called}
use Rattle.shapers_clusters.proofs.ViewedFlags.{flags_called-through}
use Rattle.shapers_base.specs.declared.plan.breaks.BreakFlags.{BreakFlags}
use Rattle.shapers_base.specs.declared.plan.breaks.BreakFlags.TheVariants.{AsCode, Sound}
use Rattle.shapers_base.specs.declared.plan.joining.hb_arabic_joining_type_t.{hb_arabic_joining_type_t}
use Rattle.shapers_base.specs.declared.plan.joining.hb_arabic_joining_type_t.TheVariants.{L, R, D, GroupAlaph, GroupDalathRish}
use Rattle.shapers_arabic.specs.Joining.{act, form, alaph_after, forms, is_selector, form_behind, selected}
use Rattle.shapers_arabic.specs.JoiningFlags.{joining_flags}
use Rattle.shapers_arabic.specs.JoinedText.{Text, flag_calls, is_mongolian, stored_types, with_joining_forms}
use Rattle.shapers_arabic.specs.JoiningWalk.{Called, FlaggedBy, calls_added, HaveMasks, JoinsTo, copied, unformed, with_copied, JoinsAll}
use Rattle.shapers_base.specs.Masks.{with_numbered_mask}
use Rattle.shapers_arabic.proofs.FlagLists.{joining-in_order}
use Rattle.shapers_arabic.proofs.FlaggedGlyphs.{unformed-passes, flagged-again, same-text, map-same_text}
use Rattle.shapers_arabic.proofs.SoundOrder.{calls-in_order, added-in_order as text-in_order}
use Rattle.shapers_arabic.proofs.SoundWalk.{added-at}

-- every form has a mask
form-below : (back on : Bool) → form back on < 8
form-below true true = omega arith
form-below true false = omega arith
form-below false true = omega arith
form-below false false = omega arith

alaph_after-below : (before : Option hb_arabic_joining_type_t) → alaph_after before < 8
alaph_after-below None = omega arith
alaph_after-below (Some L) = omega arith
alaph_after-below (Some _) = omega arith

alaph-below : (before : Option hb_arabic_joining_type_t) (on back : Bool) → cond back (cond on 5 0) (alaph_after before)
    < 8
alaph-below before true true = omega arith
alaph-below before false true = omega arith
alaph-below before on false = alaph_after-below before

act-below : (before : Option hb_arabic_joining_type_t) (own : hb_arabic_joining_type_t)
    (after : Option hb_arabic_joining_type_t) → act before own after < 8
act-below before L = search (arith, form-below)
act-below before R = search (arith, form-below)
act-below before D = search (arith, form-below)
act-below before GroupDalathRish = search (arith, form-below)
act-below before GroupAlaph = search (arith, alaph-below)
act-below before _ = omega arith

pub forms-below : (before ts after : List hb_arabic_joining_type_t)
    → AllByRecursion (λ a. a < 8) (forms before ts after)
forms-below before [] after = tt
forms-below before (t ∷ ts) after = search (arith, act-below, forms-below (t ∷ before) ts after)

masks-from_forms : (gs : Glyphs) → AllByRecursion (λ a. a < 8) (map (λ g. g.auxiliary) gs) → HaveMasks gs
masks-from_forms [] all = tt
masks-from_forms (g ∷ gs) all = (all.0, masks-from_forms gs all.1)

pub have-masks : (gs : Glyphs) (before ts after : List hb_arabic_joining_type_t)
    → map (λ g. g.auxiliary) gs ≡ forms before ts after → HaveMasks gs
have-masks = search (arith, masks-from_forms, forms-below)

copied-below : (b : Bool) (x a : ℕ) → x < 8 → a < 8 → cond b x a < 8
copied-below true x a l h = l
copied-below false x a l h = h

copied-masks : (x : ℕ) (gs : Glyphs) → x < 8 → HaveMasks gs → HaveMasks (with_copied (Some x) gs)
copied-masks x [] h all = tt
copied-masks x (g ∷ gs) h all =
    let first = copied-below (is_selector g.glyph_id) x g.auxiliary h all.0 in
    (first, copied-masks (copied (Some x) g) gs first all.1)

pub masks-copied : (gs : Glyphs) → HaveMasks gs → HaveMasks (with_copied None gs)
masks-copied [] all = tt
masks-copied (g ∷ gs) all = search (arith, copied-masks)

-- copying only gives forms, and gives those of the selector rule
unformed-copied : (previous : Option ℕ) (gs : Glyphs) → map unformed (with_copied previous gs) ≡ map unformed gs
unformed-copied previous [] = refl
unformed-copied previous (g ∷ gs) = cc (unformed-copied (Some (copied previous g)) gs)

copied-forms : (x : ℕ) (before : List (ℕ × ℕ)) (gs : Glyphs) → ((own : ℕ) → form_behind before own ≡ x)
    → map (λ g. g.auxiliary) (with_copied (Some x) gs)
    ≡ selected before (zip (map (λ g. g.glyph_id) gs) (map (λ g. g.auxiliary) gs))
copied-forms x before [] e = refl
copied-forms x before (g ∷ gs) e =
    let own = copied (Some x) g in
    search (
      arith,
      copied-forms own ((g.glyph_id, g.auxiliary) ∷ before) gs
          (λ k. ap (λ y. cond (is_selector g.glyph_id) y g.auxiliary) (e g.auxiliary)),
    )

pub forms-copied : (gs : Glyphs) → map (λ g. g.auxiliary) (with_copied None gs) ≡ selected
    [] (zip (map (λ g. g.glyph_id) gs) (map (λ g. g.auxiliary) gs))
forms-copied [] = refl
forms-copied (g ∷ gs) = search (arith, copied-forms)

-- glyphs are told by their forms and the rest of them
abbrev put_together : List ℕ → Glyphs → Glyphs
put_together fs gs = map (λ (p : ℕ × Glyph). let g : Glyph = record p.1 { auxiliary = p.0 } in g) (zip fs gs)

together-again : (gs : Glyphs) → put_together (map (λ g. g.auxiliary) gs) (map unformed gs) ≡ gs
together-again [] = refl
together-again (g ∷ gs) = cc (together-again gs)

glyphs_same : (gs hs : Glyphs) → map (λ g. g.auxiliary) gs ≡ map (λ g. g.auxiliary) hs
    → map unformed gs ≡ map unformed hs → gs ≡ hs
glyphs_same gs hs f u = cc (together-again gs, together-again hs)

forms-together : (fs : List ℕ) (gs : Glyphs) → length gs ≡ length fs
    → map (λ g. g.auxiliary) (put_together fs gs) ≡ fs
forms-together = search (arith, map-map, firsts-zip)

-- glyphs with these forms, after these flag calls, with the masks of their forms
glyphs_formed : (masks fs : List ℕ) (flags : BufferFlags) (calls : List FlagCall) (gs hs : Glyphs)
    → length gs ≡ length fs → AllByRecursion InOrder calls → map (λ g. g.auxiliary) hs ≡ fs
    → FlaggedBy flags calls gs hs → map (with_numbered_mask masks) hs
    ≡ flags_called (has_flag 0x40 flags) (has_flag 0x80 flags) calls (with_joining_forms masks fs gs)
glyphs_formed masks fs flags calls gs hs long ordered f u =
    let concat = has_flag 0x40 flags in
    let tatweel = has_flag 0x80 flags in
    let placed = put_together fs gs in
    search (
      arith,
      glyphs_same hs (flags_called concat tatweel calls placed)
          (f ∙ sym (map-flags_called (λ g. g.auxiliary) (λ bits g low. refl) concat tatweel calls placed ordered ∙
          forms-together fs gs long))
          (u ∙ sym (flags_called-through unformed unformed-passes concat tatweel calls placed ∙ ap (flags_called
          concat tatweel calls) (search (arith, map-map, seconds-zip fs gs long)))),
      flags_called-through (with_numbered_mask masks) (search (arith, or_swap)) concat tatweel calls placed,
      map-map,
    )

-- the text of glyphs between two contexts
abbrev pub text_between : List hb_arabic_joining_type_t → (ℕ → hb_arabic_joining_type_t) → Glyphs
    → List hb_arabic_joining_type_t → Text
text_between front joining gs behind =
    record { before = front; characters = map (λ g. g.glyph_id) gs; types = stored_types joining gs; after = behind }

-- the flags that the choice adds, after joining's own
called-by : (flags : BufferFlags) (xs ys : List FlagCall) (gs hs ks : Glyphs) → FlaggedBy flags xs gs hs
    → Called ys hs ks → FlaggedBy flags (xs ++ ys) gs ks
called-by = search (arith, flagged-again, flags_called-through)

added-by : (breaks : BreakFlags) (script : Option Script) (text : Text) (hs : Glyphs)
    → map (λ g. g.glyph_id) hs ≡ text.characters → map (λ g. g.auxiliary) hs ≡ forms text.before text.types text.after
    → joining_flags text.before text.types text.after ++ calls_added breaks script hs ≡ flag_calls breaks script text
added-by AsCode = search (arith, append-nil)
added-by Sound = search (arith, added-at)

added-in_order : (breaks : BreakFlags) (script : Option Script) (text : Text) (hs : Glyphs)
    → map (λ g. g.glyph_id) hs ≡ text.characters → map (λ g. g.auxiliary) hs ≡ forms text.before text.types text.after
    → AllByRecursion InOrder (calls_added breaks script hs)
added-in_order AsCode script text hs c f = tt
added-in_order Sound script text hs c f = search (arith, added-at, text-in_order script text)

-- which leave the forms
pub forms-kept : (breaks : BreakFlags) (script : Option Script) (text : Text) (hs ms : Glyphs)
    → map (λ g. g.glyph_id) hs ≡ text.characters → map (λ g. g.auxiliary) hs ≡ forms text.before text.types text.after
    → Called (calls_added breaks script hs) hs ms → map (λ g. g.auxiliary) ms ≡ forms text.before text.types text.after
forms-kept breaks script text hs ms c f added = cc (
  added false false,
  map-flags_called (λ g. g.auxiliary) (λ bits g low. refl) false false (calls_added breaks script hs) hs
      (added-in_order breaks script text hs c f),
)

pub joined-characters : (flags : BufferFlags) (front types behind : List hb_arabic_joining_type_t) (gs hs : Glyphs)
    → FlaggedBy flags (joining_flags front types behind) gs hs → map (λ g. g.glyph_id) hs ≡ map (λ g. g.glyph_id) gs
joined-characters = search (arith, map-same_text, same-text, joining-in_order)

pub joins-all : (breaks : BreakFlags) (masks : List ℕ) (flags : BufferFlags) (script : Option Script) (joining : ℕ
    → hb_arabic_joining_type_t) (before after : Option hb_arabic_joining_type_t) (gs hs ms ks : Glyphs)
    → JoinsTo flags joining before after gs hs → Called (calls_added breaks script hs) hs ms
    → ks ≡ map (with_numbered_mask masks) (cond (is_mongolian script) (with_copied None ms) ms)
    → JoinsAll breaks masks flags script joining before after gs ks
joins-all breaks masks flags script joining before after gs hs ms ks joins added k front behind e d =
    let done = joins front behind e d in
    let text = text_between front joining gs behind in
    let joined_characters = joined-characters flags front (stored_types joining gs) behind gs hs done.flagged in
    let concat = has_flag 0x40 flags in
    let tatweel = has_flag 0x80 flags in
    let more = calls_added breaks script hs in
    let flagged : FlaggedBy flags (flag_calls breaks script text) gs ms =
    subst (λ cs. FlaggedBy flags cs gs ms) (added-by breaks script text hs joined_characters done.forms_are)
    (called-by flags (joining_flags front (stored_types joining gs) behind) more gs hs ms done.flagged added) in
    let characters : map (λ g. g.glyph_id) ms ≡ map (λ g. g.glyph_id) gs =
    cc (
      added concat tatweel,
      map-flags_called (λ g. g.glyph_id) (λ bits g low. refl) concat tatweel more hs
          (added-in_order breaks script text hs joined_characters done.forms_are),
    ) in
    let forms_are = forms-kept breaks script text hs ms joined_characters done.forms_are added in
    search (arith, glyphs_formed, length-map, unformed-copied, None, forms-copied, calls-in_order)

-- the auxiliary bytes are the forms
pub forms-joined : (masks fs : List ℕ) (flags : BufferFlags) (calls : List FlagCall) (gs : Glyphs)
    → length gs ≡ length fs → AllByRecursion InOrder calls → map (λ g. g.auxiliary)
    (flags_called (has_flag 0x40 flags) (has_flag 0x80 flags) calls (with_joining_forms masks fs gs)) ≡ fs
forms-joined = search (arith, map-flags_called, map-map, firsts-zip)
