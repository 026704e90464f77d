-- A pause leaves positions as they are, and the level.
use Rattle.std.proofs.Common.{◌≡◌, ◌∙◌, List, ap, refl, Bool, true, false}
use Rattle.std.specs.Prelude.{if◌then◌else◌}
use Rattle.shapers_base.specs.Font.{Font}
use Rattle.shapers_base.specs.declared.plan.hb_ot_shape_plan_t.{hb_ot_shape_plan_t}
use Rattle.shapers_base.specs.declared.plan.pause.Pause.{Pause}
use Rattle.shapers_base.specs.declared.plan.pause.Pause.TheVariants.{SetupSyllablesIndic, SetupSyllablesKhmer, SetupSyllablesMyanmar, SetupSyllablesUse, InitialReordering, ReorderKhmer, ReorderMyanmar, ReorderUse, FinalReordering, RecordStch, RecordRphf, RecordPref, SyllabicClearVar, ClearSubstitutionFlags, ArabicFallbackShape}
use Rattle.shapers_buffer.specs.Buffer.{Buffer}
use Rattle.shapers_buffer.specs.declared.buffer.glyph.GlyphPosition.{GlyphPosition}
use Rattle.shapers_buffer.specs.declared.buffer.level.BufferClusterLevel.{BufferClusterLevel}
use Rattle.shapers_buffer.specs.declared.buffer.syllables.Span.{Span}
use Rattle.shapers_stretch.specs.Recorded.{has_stch, with_tiles}
use Rattle.rustybuzz_shapers.specs.Pauses.{Paused}

-- both
abbrev read : Buffer → List GlyphPosition × BufferClusterLevel
read b = (b.positions, b.level)

either : (test : Bool) (x y : Buffer) → read x ≡ read y → read (if test then x else y) ≡ read y
either true x y same = same
either false x y same = refl

pause_reads : (pause : Pause) (plan : hb_ot_shape_plan_t) (font : Font) (spans : List Span) (old new : Buffer) →
    Paused pause plan font spans old new → read new ≡ read old
pause_reads SetupSyllablesIndic plan font spans old new done = ap read done
pause_reads SetupSyllablesKhmer plan font spans old new done = ap read done
pause_reads SetupSyllablesMyanmar plan font spans old new done = ap read done
pause_reads SetupSyllablesUse plan font spans old new done = ap read done
pause_reads InitialReordering plan font spans old new done = ap read done.0.others
pause_reads ReorderKhmer plan font spans old new done = ap read done.others
pause_reads ReorderMyanmar plan font spans old new done = ap read done.others
pause_reads ReorderUse plan font spans old new done = ap read done.others
pause_reads FinalReordering plan font spans old new done = ap read done.2.others ∙ ap read done.1.others
pause_reads RecordStch plan font spans old new done = ap read done ∙ either (has_stch plan.plan_data) (with_tiles old) old refl
pause_reads RecordRphf plan font spans old new done = ap read done
pause_reads RecordPref plan font spans old new done = ap read done
pause_reads SyllabicClearVar plan font spans old new done = ap read done
pause_reads ClearSubstitutionFlags plan font spans old new done = ap read done
pause_reads ArabicFallbackShape plan font spans old new done = ap read done

pub pause_positions : (pause : Pause) (plan : hb_ot_shape_plan_t) (font : Font) (spans : List Span) (old new : Buffer) →
    Paused pause plan font spans old new → new.positions ≡ old.positions
pause_positions pause plan font spans old new done = ap (λ x. x.0) (pause_reads pause plan font spans old new done)

pub pause_level : (pause : Pause) (plan : hb_ot_shape_plan_t) (font : Font) (spans : List Span) (old new : Buffer) →
    Paused pause plan font spans old new → new.level ≡ old.level
pause_level pause plan font spans old new done = ap (λ x. x.1) (pause_reads pause plan font spans old new done)
