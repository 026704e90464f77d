-- Joining only adds glyph flags.
use Rattle.std.proofs.Common.{◌≡◌, ℕ, List, [], ◌∷◌, Option, length, ◌∙◌, arith}
use Rattle.std.proofs.lemmas.List.{length-map}
use Rattle.shapers_buffer.specs.Buffer.{Buffer, flags_concat, flags_tatweel, has_flag}
use Rattle.shapers_buffer.specs.GlyphFlags.{flags_called}
use Rattle.shapers_buffer.specs.Properties.{general_category}
use Rattle.shapers_buffer.specs.declared.buffer.category.hb_unicode_general_category_t.{hb_unicode_general_category_t}
use Rattle.shapers_buffer.specs.Glyphs.{Glyphs}
use Rattle.shapers_buffer.specs.declared.buffer.tag.Script.{Script}
use Rattle.shapers_base.specs.declared.plan.joining.hb_arabic_joining_type_t.{hb_arabic_joining_type_t}
use Rattle.shapers_clusters.specs.FlagLaw.{OnlyFlagsAdded}
use Rattle.shapers_clusters.proofs.FlagCalls.{flags_called-alone, keeps-with_bits}
use Rattle.shapers_clusters.proofs.FlagLaw.{all_added_on, alone_added}
use Rattle.shapers_arabic.specs.Joining.{resolved}
use Rattle.shapers_arabic.specs.JoinedText.{flag_calls, forms_of, buffer_joined, text_of, with_joining_forms}
use Rattle.shapers_base.specs.declared.plan.breaks.BreakFlags.{BreakFlags}
use Rattle.shapers_arabic.proofs.SoundOrder.{calls-in_order}
use Rattle.shapers_arabic.proofs.JoiningLaws.{length-forms_of, text_long}

formed_added : (masks fs : List ℕ) (gs : Glyphs) → length fs ≡ length gs
    → OnlyFlagsAdded gs (with_joining_forms masks fs gs)
formed_added masks [] [] long = tt
formed_added masks (f ∷ fs) (g ∷ gs) long = search (arith, keeps-with_bits, formed_added masks fs gs (omega arith))
formed_added masks _ _ long = absurd (omega arith)

pub joined_added : (breaks : BreakFlags) (masks : List ℕ) (script : Option Script) (joining : ℕ
    → hb_arabic_joining_type_t) (general : ℕ → hb_unicode_general_category_t) (old new : Buffer)
    → new ≡ buffer_joined breaks masks script joining general old → OnlyFlagsAdded old.glyphs new.glyphs
joined_added breaks masks script joining general old =
    let text = text_of joining general old in
    let fs = forms_of script text in
    let calls = flag_calls breaks script text in
    let formed = with_joining_forms masks fs old.glyphs in
    let concat = has_flag flags_concat old.flags in
    let tatweel = has_flag flags_tatweel old.flags in
    let flagged = flags_called concat tatweel calls formed in
    search (
      arith,
      all_added_on old.glyphs formed flagged
          (formed_added masks fs old.glyphs (length-forms_of script text (text_long joining general old) ∙ length-map
          old.glyphs (λ g. resolved (joining g.glyph_id) (general_category g.unicode_props))))
          (alone_added formed flagged (flags_called-alone concat tatweel calls formed (calls-in_order breaks script
          text))),
    )
