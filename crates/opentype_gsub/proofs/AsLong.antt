-- What leaves as many glyphs as there were, so that a place of the text is one still.
use Rattle.std.proofs.Common.{◌≡◌, ◌∙◌, ℕ, ◌<◌, Bool, List, length, sym, ap, length-set}
use Rattle.std.specs.Prelude.{slice_set}
use Rattle.shapers_buffer.specs.GlyphFlags.{unsafe_inside}
use Rattle.shapers_buffer.specs.Glyphs.{Glyph, Glyphs}
use Rattle.shapers_buffer.specs.declared.buffer.level.BufferClusterLevel.{BufferClusterLevel}
use Rattle.opentype_gsub.specs.Edits.{handed_on, merged_up_to}
use Rattle.opentype_gsub.specs.Flagged.{unbroken}
use Rattle.opentype_gsub.specs.Ligated.{Marked, marked_one, marks_inside, with_followers}
use Rattle.opentype_gsub.specs.Looked.{tried}
use Rattle.opentype_gsub.specs.Reversed.{tried_back}
use Rattle.opentype_gsub.specs.Setting.{Setting}
use Rattle.opentype_gsub.specs.declared.ligating.Counted.{Counted}
use Rattle.opentype_gsub.proofs.Lengths.{length-handed, length-merged}
use Rattle.opentype_gsub.proofs.LigatureKeeps.{behind_same, marked_same, one_same, same_length}
use Rattle.opentype_gsub.proofs.Unbroken.{all_unbroken_same, tried_back_same, tried_same, unbroken_same}

pub handed_as_long : (level : BufferClusterLevel) (at : ℕ) (gs new : Glyphs) → at < length gs → new ≡ handed_on level at gs →
    length new ≡ length gs
handed_as_long level at gs new lt is = ap length is ∙ length-handed level at gs lt

-- ---- flags

pub flagged_as_long : (len : ℕ) (gs new : Glyphs) → len ≡ length gs → new ≡ unsafe_inside 0 len gs → length new ≡ length gs
flagged_as_long len gs new all is =
    ap length (is ∙ ap (λ n. unsafe_inside 0 n gs) all) ∙ same_length (unsafe_inside 0 (length gs) gs) gs (all_unbroken_same gs)

pub unbroken_as_long : (old_len start stop : ℕ) (gs new : Glyphs) → new ≡ unbroken old_len start stop gs → length new ≡ length gs
unbroken_as_long old_len start stop gs new is =
    ap length is ∙ same_length (unbroken old_len start stop gs) gs (unbroken_same old_len start stop gs)

pub tried_as_long : (s : Setting) (lookup : List ℕ) (gs new : Glyphs) (at : ℕ) → new ≡ tried s lookup gs at → length new ≡ length gs
tried_as_long s lookup gs new at is = ap length is ∙ same_length (tried s lookup gs at) gs (tried_same s lookup gs at)

pub tried_back_as_long : (s : Setting) (lookup : List ℕ) (gs new : Glyphs) (at : ℕ) → new ≡ tried_back s lookup gs at →
    length new ≡ length gs
tried_back_as_long s lookup gs new at is =
    ap length is ∙ same_length (tried_back s lookup gs at) gs (tried_back_same s lookup gs at)

pub set_as_long : (gs new : Glyphs) (at : ℕ) (g : Glyph) → new ≡ slice_set gs at g → length new ≡ length gs
set_as_long gs new at g is = ap length is ∙ length-set gs at g

-- ---- ligatures

pub merged_as_long : (level : BufferClusterLevel) (at last : ℕ) (gs new : Glyphs) → last < length gs →
    new ≡ merged_up_to level at last gs → length new ≡ length gs
merged_as_long level at last gs new lt is = ap length is ∙ length-merged level at last gs lt

pub marked_as_long : (number : ℕ) (ps : List ℕ) (gs new : Glyphs) (i : ℕ) (c next : Counted) →
    marked_one number ps gs i c ≡ record { text = new; counted = next } → length new ≡ length gs
marked_as_long number ps gs new i c next is =
    ap (λ (m : Marked). length m.text) (sym is) ∙ same_length (marked_one number ps gs i c).text gs (one_same number ps gs i c)

pub inside_as_long : (n number : ℕ) (ps : List ℕ) (gs new : Glyphs) (i : ℕ) (c next : Counted) →
    marks_inside n number ps gs i c ≡ record { text = new; counted = next } → length new ≡ length gs
inside_as_long n number ps gs new i c next is =
    ap (λ (m : Marked). length m.text) (sym is) ∙ same_length (marks_inside n number ps gs i c).text gs (marked_same n number ps gs i c)

pub behind_as_long : (of_marks : Bool) (number : ℕ) (c : Counted) (gs new : Glyphs) (from : ℕ) →
    new ≡ with_followers of_marks number c gs from → length new ≡ length gs
behind_as_long of_marks number c gs new from is =
    ap length is ∙ same_length (with_followers of_marks number c gs from) gs (behind_same of_marks number c gs from)
