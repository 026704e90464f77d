-- What set-up of masks promises of a text, as one record.
use Rattle.std.specs.Prelude.{ℕ, ◌≡◌, List, Option}
use Rattle.shapers_buffer.specs.Buffer.{Buffer}
use Rattle.shapers_buffer.specs.declared.buffer.category.hb_unicode_general_category_t.{hb_unicode_general_category_t}
use Rattle.shapers_buffer.specs.declared.buffer.tag.Script.{Script}
use Rattle.shapers_base.specs.declared.plan.breaks.BreakFlags.{BreakFlags}
use Rattle.shapers_base.specs.declared.plan.joining.hb_arabic_joining_type_t.{hb_arabic_joining_type_t}
use Rattle.shapers_clusters.specs.FlagLaw.{OnlyFlagsAdded}
use Rattle.shapers_arabic.specs.Breaks.{BreaksWhereClear, NoneNeedless}
use Rattle.shapers_arabic.specs.FirstPiece.{FirstKeepsAsFlagged}
use Rattle.shapers_arabic.specs.JoinedText.{CutsAsHalves, buffer_joined}

-- the buffer after joining, how the text is cut and broken there, and that only flags were added
pub record TextJoined (breaks : BreakFlags) (masks : List ℕ) (script : Option Script)
    (joining : ℕ → hb_arabic_joining_type_t) (general : ℕ → hb_unicode_general_category_t)
    (old new : Buffer) : Type 0 where
  pub joined : new ≡ buffer_joined breaks masks script joining general old
  pub cut : CutsAsHalves script joining general old new
  pub clear : BreaksWhereClear breaks masks script joining general old new
  pub needless : NoneNeedless breaks masks script joining general old new
  pub first : FirstKeepsAsFlagged breaks masks script joining general old new
  pub flags : OnlyFlagsAdded old.glyphs new.glyphs
