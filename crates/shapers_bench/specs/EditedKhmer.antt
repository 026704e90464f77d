-- Texts of Khmer that are set up and reordered, and what an edit leaves of them.
use Rattle.std.specs.Prelude.{◌≡◌, ◌-◌, ◌^◌, Bool, List, [], length, is_some}
use Rattle.shapers_base.specs.Font.{Font}
use Rattle.shapers_base.specs.declared.plan.hb_ot_shape_plan_t.{hb_ot_shape_plan_t}
use Rattle.shapers_base.specs.declared.plan.pause.Pause.TheVariants.{ReorderKhmer, SetupSyllablesKhmer}
use Rattle.shapers_buffer.specs.Buffer.{Buffer, new_buffer}
use Rattle.shapers_buffer.specs.Glyphs.{Glyphs}
use Rattle.shapers_buffer.specs.declared.buffer.syllables.Span.{Span}
use Rattle.shapers_editing.specs.EditedSyllables.{SameOutside, TextPart, whole_glyphs}
use Rattle.shapers_editing.specs.declared.edits.Unaffected.{Unaffected}
use Rattle.shapers_spans.specs.Cuts.{AreSpansOf}
use Rattle.shapers_spans.specs.Khmer.{khmer_grammar}
use Rattle.shapers_syllabic.specs.Borders.{unnumbered}
use Rattle.shapers_syllabic.specs.ReorderingLaws.{paused_clusters, paused_order}
use Rattle.shapers_syllabic.specs.Syllabic.{unsafe_spans}
use Rattle.rustybuzz_shapers.specs.Pauses.{Paused, Reordering, pause_circles}

-- glyphs in a buffer without a limit
abbrev pub unlimited_text : Glyphs → Buffer
unlimited_text gs = record (new_buffer (2 ^ 64 - 1)) { glyphs = gs }

-- Glyphs with Khmer's categories, set up by the spans that the grammar finds and reordered; and
-- whether circles were wanted then.
pub record KhmerReordered (plan : hb_ot_shape_plan_t) (font : Font) (gs : Glyphs) (made : Buffer)
    (circled : Bool) : Type 0 where
  pub spans : List Span
  pub mid : Buffer
  pub found : AreSpansOf khmer_grammar gs spans
  pub setup : Paused SetupSyllablesKhmer plan font spans (unlimited_text gs) mid
  pub order : Paused ReorderKhmer plan font [] mid made
  pub circles : circled ≡ is_some (pause_circles ReorderKhmer plan font mid)

-- So many glyphs of a text in front and behind are those of another; and reordered by the same
-- rule, what the two become is the same there, as far as what these glyphs become by themselves.
pub record SameAround (left : Unaffected) (gs hs xs ys : Glyphs) : Type 0 where
  pub front : TextPart
  pub old : TextPart
  pub new : TextPart
  pub back : TextPart
  pub glyphs : gs ≡ whole_glyphs front old back
  pub other_glyphs : hs ≡ whole_glyphs front new back
  pub in_front : length front.glyphs ≡ left.front
  pub behind : length back.glyphs ≡ left.back
  pub rule : Reordering
  pub same : let level = (unlimited_text []).level in
      SameOutside unnumbered
      (λ part. paused_order rule.circles rule.order (unsafe_spans part.spans part.glyphs))
      (λ part. paused_clusters rule.circles rule.steps level
      (unsafe_spans part.spans part.glyphs))
      front old new back xs ys
