use Rattle.std.proofs.Common.{[], ap, ◌∙◌}
use Rattle.opentype_gsub.proofs.Untouched.{ok_then}
use Rattle.opentype_font.specs.Lookups.{substituted_by}
use Rattle.opentype_break_laws.specs.TwoSingles.{first_lookup, two_singles}
use Rattle.opentype_break_laws.proofs.NormalizedText.{put_in_halves}
use Rattle.opentype_break_laws.proofs.normalized_text.substitute_normalized.Goals as goal

pub returns-clause-halves : goal.returns-clause-halves
returns-clause-halves c =
    let law = c.font_pieces_law.ensures in
    ok_then c.substitute_two.result
    (λ is. put_in_halves law.texts law.one_for_one c.pipeline_breaks_law.ensures.masks c.args.buffer.now
    c.substitute_two.new.buffer c.requires
    (is ∙ ap (λ text. substituted_by [] two_singles first_lookup text) c.map_glyphs.ensures))
    c.substitute_two.ensures.ok
