-- Buffers put together: the forms of both parts, and so their glyphs.
use Rattle.std.proofs.Common.{◌≡◌, ℕ, ◌+◌, ◌<◌, List, ◌++◌, length, map, take, drop, reverse, Option, None, refl, sym, ◌∙◌, subst, arith}
use Rattle.std.specs.List.{list_any}
use Rattle.std.proofs.lemmas.Bool.{or_parts}
use Rattle.std.proofs.lemmas.List.{length-map, length-take-le, length-drop, take-append-drop, take_at, drop_at, drop-drop, drop-map}
use Rattle.std.proofs.lemmas.List.Folds.{list_any-append}
use Rattle.std.proofs.lemmas.Slice.Zip.{length-zip}
use Rattle.shapers_buffer.specs.Glyphs.{Glyph}
use Rattle.shapers_buffer.specs.declared.buffer.tag.Script.{Script}
use Rattle.shapers_base.specs.declared.plan.breaks.BreakFlags.{BreakFlags}
use Rattle.shapers_base.specs.declared.plan.breaks.BreakFlags.TheVariants.{AsCode, Sound}
use Rattle.shapers_base.specs.declared.plan.joining.hb_arabic_joining_type_t.{hb_arabic_joining_type_t}
use Rattle.shapers_clusters.specs.Borders.{forbids_border, IsOpen}
use Rattle.shapers_clusters.specs.Breaks.{forbids, IsFree}
use Rattle.shapers_clusters.proofs.Borders.{bare-borders}
use Rattle.shapers_clusters.proofs.ClearPlaces.{held_by_calls}
use Rattle.shapers_arabic.specs.Joining.{nearest, forms}
use Rattle.shapers_arabic.specs.JoiningFlags.{joining_flags}
use Rattle.shapers_arabic.specs.JoinedText.{Text, added_calls, context_types, flag_calls, forms_of, is_mongolian, joined_glyphs, opening, stored_types, text_of, with_joining_forms}
use Rattle.shapers_arabic.specs.Together.{GlyphsConcatenate, together_at}
use Rattle.shapers_arabic.proofs.BrokenGlyphs.{free-clear, types_long}
use Rattle.shapers_arabic.proofs.Concatenation.{concatenation-free}
use Rattle.shapers_arabic.proofs.FormedParts.{characters-joined, drop-view, take-view, text_by, text-parts}
use Rattle.shapers_arabic.proofs.JoiningLaws.{in-parts, length-forms_of, text_long}
use Rattle.shapers_arabic.proofs.JoiningLists.{forms-append, length-forms}
use Rattle.shapers_arabic.proofs.SoundOrder.{calls-in_order}

-- joining's own calls are among those of each choice
own-free : (breaks : BreakFlags) (script : Option Script) (text : Text) (n : ℕ)
    → IsFree (flag_calls breaks script text) n → IsFree (joining_flags text.before text.types text.after) n
own-free AsCode script text n free = free
own-free Sound script text n free =
    let own = joining_flags text.before text.types text.after in
    let more = added_calls script text in
    (or_parts (held_by_calls n own) (held_by_calls n more) (sym (list_any-append (forbids n) own more) ∙ free)).0

own-open : (breaks : BreakFlags) (script : Option Script) (text : Text) (n : ℕ)
    → IsOpen (flag_calls breaks script text) n → IsOpen (joining_flags text.before text.types text.after) n
own-open AsCode script text n free = free
own-open Sound script text n free =
    let own = joining_flags text.before text.types text.after in
    let more = added_calls script text in
    (or_parts (list_any (forbids_border n) own) (list_any (forbids_border n) more)
    (sym (list_any-append (forbids_border n) own more) ∙ free)).0

-- the forms of what is put together
record FormsKept (script : Option Script) (n m : ℕ) (behind : List ℕ) (one two whole : Text) : Type 0 where
  first : take n (forms_of script whole) ≡ take n (forms_of script one)
  second : let k = opening script behind in drop (n + k) (forms_of script whole) ≡ drop (m + k) (forms_of script two)

forms-together : (script : Option Script) (before ts us after front cs ds behind : List hb_arabic_joining_type_t)
    (ca cb cc cd : List ℕ) → length ca ≡ length ts → length cc ≡ length cs → 0 < length us
    → IsFree (joining_flags before (ts ++ us) after) (length ts)
    → IsOpen (joining_flags front (cs ++ ds) behind) (length cs) → (nearest ds ≡ None → nearest behind ≡ None)
    → FormsKept script (length ts) (length cs) cd (text_by before (ca ++ cb) (ts ++ us) after)
    (text_by front (cc ++ cd) (cs ++ ds) behind) (text_by before (ca ++ cd) (ts ++ ds) behind)
forms-together script before ts us after front cs ds behind ca cb cc cd la lc some free opened own =
    let b = is_mongolian script in
    let fa = forms before ts (us ++ after) in
    let fd = forms (reverse cs ++ front) ds behind in
    let a_long = length-forms before ts (us ++ after) in
    let whole = in-parts b (length ts) (ca ++ cd) (forms before (ts ++ ds) behind) ca fa cd fd refl
    (concatenation-free before ts us after front cs ds behind some free opened own) la a_long in
    let one = in-parts b (length ts) (ca ++ cb) (forms before (ts ++ us) after) ca fa cb
    (forms (reverse ts ++ before) us after) refl (forms-append before ts us after) la a_long in
    let two = in-parts b (length cs) (cc ++ cd) (forms front (cs ++ ds) behind) cc
    (forms front cs (ds ++ behind)) cd fd refl (forms-append front
    cs ds behind) lc (length-forms front cs (ds ++ behind)) in
    search arith

pub glyphs-concatenate : GlyphsConcatenate
glyphs-concatenate breaks masks script joining general n m one two wants pos within more inside own clear bare =
    let id = λ (g : Glyph). g.glyph_id in
    let ga = take n one.glyphs in
    let gb = drop n one.glyphs in
    let gc = take m two.glyphs in
    let gd = drop m two.glyphs in
    let ts = stored_types joining ga in
    let us = stored_types joining gb in
    let cs = stored_types joining gc in
    let ds = stored_types joining gd in
    let cd = map id gd in
    let before = context_types joining general one.before in
    let after = context_types joining general one.after in
    let front = context_types joining general two.before in
    let behind = context_types joining general two.after in
    let both = together_at n m one two in
    let first_text = text_of joining general one in
    let second_text = text_of joining general two in
    let both_text = text_of joining general both in
    let a_long = length-take-le n one.glyphs (omega arith) in
    let m_is = types_long joining gc ∙ (length-take-le m two.glyphs (omega arith)) in
    let own_flags = λ (t : Text). joining_flags t.before t.types t.after in
    let free_parts = subst (λ (i : ℕ). IsFree (joining_flags before (ts ++ us) after) i) (sym
    (types_long joining ga ∙ a_long)) (subst (λ (t : Text). IsFree (own_flags t) n)
    (text-parts joining general one ga gb (sym (take-append-drop n one.glyphs)))
    (own-free breaks script first_text n (free-clear breaks masks one.flags script first_text one.glyphs n (length-map
    one.glyphs id) (types_long joining one.glyphs) pos within clear))) in
    let open_parts = subst (λ (i : ℕ). IsOpen (joining_flags front (cs ++ ds) behind) i) (sym m_is) (subst (λ (t :
    Text). IsOpen (own_flags t) m) (text-parts joining general two gc gd (sym (take-append-drop m two.glyphs)))
    (own-open breaks script second_text m (
    let text = text_of joining general two in
    let fs = forms_of script text in
    let all_long : length fs ≡ length two.glyphs = search (arith, length-forms_of, text_long, types_long) in
    let formed_long : length (with_joining_forms masks fs two.glyphs) ≡ length two.glyphs =
    search (arith, length-map, length-zip) in
    search (arith, bare-borders, calls-in_order)))) in
    let kept = forms-together script before ts us after front cs ds behind
    (map id ga) (map id gb) (map id gc) cd (length-map ga id ∙ sym
    (types_long joining ga)) (length-map gc id ∙ sym (types_long joining gc)) (
    omega (arith, types_long, length-drop n one.glyphs)) free_parts open_parts own in
    let k = opening script cd in
    search (
      arith,
      take-view breaks masks both.flags script both_text both.glyphs n,
      text-parts joining general both ga gd refl,
      types_long,
      text-parts joining general one ga gb (sym (take-append-drop n one.glyphs)),
      take_at,
      take-view breaks masks one.flags script first_text one.glyphs n,
      drop-map id m two.glyphs,
      characters-joined breaks masks script joining general two,
      drop-map id m (joined_glyphs breaks masks two.flags script second_text two.glyphs),
      drop-view breaks masks both.flags script both_text both.glyphs (n + k),
      kept.second,
      types_long joining gc,
      length-take-le m two.glyphs (omega arith),
      text-parts joining general two gc gd (sym (take-append-drop m two.glyphs)),
      drop-drop k n (ga ++ gd),
      drop_at ga gd n a_long,
      drop-drop k m two.glyphs,
      drop-view breaks masks two.flags script second_text two.glyphs (m + k),
    )
