-- The texts that preparation hands to normalization are plain, and stay canonically equivalent.
use Rattle.std.proofs.Common.{◌≡◌, false, Option, None, Some}
use Rattle.std.specs.List.{AllByRecursion, list_any}
use Rattle.std.specs.Option.{option_map_or}
use Rattle.rustybuzz_shapers.specs.declared.shaper.hb_ot_shaper_t.{hb_ot_shaper_t}
use Rattle.rustybuzz_shapers.specs.declared.shaper.hb_ot_shaper_t.TheVariants.{Arabic, Hangul, Hebrew, Indic, Khmer, Myanmar, MyanmarZawgyi, Thai, Universal}
use Rattle.shapers_base.specs.Font.{Font}
use Rattle.shapers_base.specs.declared.plan.hb_ot_shape_plan_t.{hb_ot_shape_plan_t}
use Rattle.shapers_buffer.specs.Buffer.{Buffer}
use Rattle.shapers_buffer.proofs.MappedLists.{all-mapped}
use Rattle.shapers_normal.specs.Variants.{is_selector_glyph}
use Rattle.shapers_pipeline.specs.Prepared.{Preparation, rotation_to, text_begun, text_circled, text_directed}
use Rattle.shapers_pipeline.specs.ShaperSteps.{preprocessed_by, preprocessed_for}
use Rattle.shapers_prepare.specs.Rotation.{rotated_glyph}
use Rattle.shapers_prepare.specs.UnicodeValues.{unicode_properties}
use Rattle.shapers_prepare.specs.Vowels.{vowels_circled}
use Rattle.shapers_equivalence_laws.specs.PreparedTexts.{PreparedTextsArePlain, PreparedTextsStayEquivalent, ShortTextsStayEquivalent, before_normalization, by_unicode, copies_class, copies_class_by}
use Rattle.shapers_equivalence_laws.proofs.PlainGlyphs.{IsBegunGlyph, IsPlainGlyph, all-begun, all-circled, all-directed, all-plain, plain_classes, plain_selectors}
use Rattle.shapers_equivalence_laws.proofs.PlainHangul.{all-hangul}
use Rattle.shapers_equivalence_laws.proofs.PlainRewriting.{all-thai, all-vowels, all-zwnj_flagged, rotated_plain}
use Rattle.shapers_equivalence_laws.proofs.ShapersProved.{shapers_keep, shapers_normalize}

-- a text in its own direction
directed_begun : (prepared_by : Preparation) (b : Buffer) → list_any is_selector_glyph b.glyphs ≡ false
    → AllByRecursion IsBegunGlyph (text_directed (by_unicode prepared_by) b).glyphs
directed_begun prepared_by b none =
    let p = by_unicode prepared_by in
    all-directed IsBegunGlyph (λ m k g own. own) (λ k g own. own) (text_circled p b)
    (all-circled p.font (text_begun p b) (all-begun p.plan.ot_map.global b.glyphs none))

-- as its shaper rewrites it
shaper_plain : (plan : hb_ot_shape_plan_t) (font : Font) (b : Buffer) (shaper : hb_ot_shaper_t)
    → copies_class_by plan font b shaper ≡ false → AllByRecursion IsBegunGlyph b.glyphs
    → AllByRecursion IsPlainGlyph (preprocessed_by plan font b shaper).glyphs
shaper_plain plan font b Arabic none own = all-plain b.glyphs own
shaper_plain plan font b Hangul none own = all-hangul plan.break_flags font b none (all-plain b.glyphs own)
shaper_plain plan font b Hebrew none own = all-plain b.glyphs own
shaper_plain plan font b Indic none own =
    all-zwnj_flagged plan.break_flags (vowels_circled b) (all-vowels b none (all-plain b.glyphs own))
shaper_plain plan font b Khmer none own = all-plain b.glyphs own
shaper_plain plan font b Myanmar none own = all-plain b.glyphs own
shaper_plain plan font b MyanmarZawgyi none own = all-plain b.glyphs own
shaper_plain plan font b Thai none own = all-thai plan font b none own
shaper_plain plan font b Universal none own = all-vowels b none (all-plain b.glyphs own)

rewritten_plain : (shaper : Option hb_ot_shaper_t) (plan : hb_ot_shape_plan_t) (font : Font) (b : Buffer)
    → option_map_or (copies_class_by plan font b) shaper false ≡ false → AllByRecursion IsBegunGlyph b.glyphs
    → AllByRecursion IsPlainGlyph (preprocessed_for shaper plan font b).glyphs
rewritten_plain None plan font b none own = all-plain b.glyphs own
rewritten_plain (Some shaper) plan font b none own = shaper_plain plan font b shaper none own

-- and with mirrored characters and vertical forms
rotated_texts : (prepared_by : Preparation) (b : Buffer) → list_any is_selector_glyph b.glyphs ≡ false
    → copies_class (by_unicode prepared_by) b ≡ false
    → AllByRecursion IsPlainGlyph (before_normalization (by_unicode prepared_by) b).glyphs
rotated_texts prepared_by b none copies =
    let p = by_unicode prepared_by in
    let directed = text_directed p b in
    let rotation = rotation_to p.masks b.direction in
    all-mapped IsPlainGlyph IsPlainGlyph (rotated_glyph unicode_properties p.font rotation)
    (preprocessed_for p.shaper p.plan p.font directed).glyphs (rotated_plain p.font rotation)
    (rewritten_plain p.shaper p.plan p.font directed copies (directed_begun prepared_by b none))

pub prepared_plain : PreparedTextsArePlain
prepared_plain prepared_by b none copies =
    let gs = (before_normalization (by_unicode prepared_by) b).glyphs in
    let own = rotated_texts prepared_by b none copies in
    record { own = plain_classes gs own; no_selector = plain_selectors gs own }

pub prepared_equivalent : PreparedTextsStayEquivalent
prepared_equivalent prepared_by b none copies whole =
    let p = by_unicode prepared_by in
    let text = before_normalization p b in
    (shapers_normalize p.shaper p.plan p.font p.variants p.settings.invisible_glyph p.settings.draws_selectors
    p.settings.rounds text.level text.glyphs whole (prepared_plain prepared_by b none copies)).1

pub short_equivalent : ShortTextsStayEquivalent
short_equivalent prepared_by b none copies whole leaves short =
    let p = by_unicode prepared_by in
    let text = before_normalization p b in
    shapers_keep p.shaper p.plan p.font p.variants p.settings.invisible_glyph p.settings.draws_selectors
    p.settings.rounds text.level text.glyphs whole leaves (prepared_plain prepared_by b none copies) short
