-- How far an edit of a buffer reaches, as far as joining goes: any stretch of glyphs is replaced
-- by any other, which may be empty.
use Rattle.std.specs.Prelude.{ℕ, suc, ◌≡◌, ◌+◌, ◌≤◌, false, List, ◌∷◌, ◌++◌, length, take, drop, Option, None}
use Rattle.shapers_buffer.specs.Buffer.{Buffer}
use Rattle.shapers_buffer.specs.Glyph.{characters, order_view}
use Rattle.shapers_buffer.specs.declared.buffer.category.hb_unicode_general_category_t.{hb_unicode_general_category_t}
use Rattle.shapers_buffer.specs.Glyphs.{Glyphs}
use Rattle.shapers_buffer.specs.declared.buffer.tag.Script.{Script}
use Rattle.shapers_base.specs.declared.plan.breaks.BreakFlags.{BreakFlags}
use Rattle.shapers_base.specs.declared.plan.joining.hb_arabic_joining_type_t.{hb_arabic_joining_type_t}
use Rattle.shapers_arabic.specs.Joining.{is_transparent, nearest}
use Rattle.shapers_arabic.specs.JoinedText.{buffer_joined, opening, stored_types}

-- the buffer with these glyphs in place of those from s to e
abbrev pub edited : ℕ → ℕ → Glyphs → Buffer → Buffer
edited s e gs b = record b { glyphs = take s b.glyphs ++ (gs ++ drop e b.glyphs) }

-- two lists at a text's places agree from place k on, but for j and Mongolian selectors behind it
abbrev pub SameBut : {T : Type 0} → Option Script → ℕ → ℕ → List ℕ → List T → List T → Type 0
SameBut script k j characters xs ys =
    let l = suc j + opening script (drop (suc j) characters) in
    (drop k (take j xs) ≡ drop k (take j ys)) × (drop l xs ≡ drop l ys)

-- Before an edit all stay but the last letter, if there is one, and Mongolian selectors behind it.
pub record StayBefore (script : Option Script) (types : List hb_arabic_joining_type_t)
    (characters : List ℕ) (xs ys : Glyphs) : Type 0 where
  pub none : nearest types ≡ None → xs ≡ ys
  pub last : (front tail : List hb_arabic_joining_type_t) (t : hb_arabic_joining_type_t) →
      types ≡ front ++ t ∷ tail → is_transparent t ≡ false → nearest tail ≡ None →
      SameBut script 0 (length front) characters xs ys

-- Behind an edit all stay but the first letter and Mongolian selectors behind it or in front.
pub record StayBehind (script : Option Script) (types : List hb_arabic_joining_type_t)
    (characters : List ℕ) (xs ys : Glyphs) : Type 0 where
  pub none : nearest types ≡ None →
      let k = opening script characters in drop k xs ≡ drop k ys
  pub first : (front tail : List hb_arabic_joining_type_t) (t : hb_arabic_joining_type_t) →
      types ≡ front ++ t ∷ tail → nearest front ≡ None → is_transparent t ≡ false →
      SameBut script (opening script characters) (length front) characters xs ys

-- One: the glyphs gs after joining; two: so with that many others in place of those from s to e.
-- What stands before the edit stays, and what stands behind it, all but clusters and glyph flags.
pub record StayNear (script : Option Script) (joining : ℕ → hb_arabic_joining_type_t)
    (s e others : ℕ) (gs one two : Glyphs) : Type 0 where
  pub before : StayBefore script (stored_types joining (take s gs)) (characters (take s gs))
      (order_view (take s one)) (order_view (take s two))
  pub behind : StayBehind script (stored_types joining (drop e gs)) (characters (drop e gs))
      (order_view (drop e one)) (order_view (drop (s + others) two))

-- edits stay near: so it is after joining, whatever replaces the glyphs from s to e
abbrev pub GlyphsStayNear : Type 0
GlyphsStayNear = (breaks : BreakFlags) (masks : List ℕ) (script : Option Script)
    (joining : ℕ → hb_arabic_joining_type_t) (general : ℕ → hb_unicode_general_category_t)
    (s e : ℕ) (gs : Glyphs) (b : Buffer) → s ≤ e → e ≤ length b.glyphs →
    let after = buffer_joined breaks masks script joining general in
    StayNear script joining s e (length gs) b.glyphs (after b).glyphs
    (after (edited s e gs b)).glyphs
