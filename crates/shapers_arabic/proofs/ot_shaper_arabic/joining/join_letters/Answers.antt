-- One more place.
use Rattle.shapers_buffer.specs.Glyphs.{Glyph}
use Rattle.shapers_base.specs.declared.plan.joining.hb_arabic_joining_type_t.TheVariants.{U}
use Rattle.std.proofs.Common.{sym, ◌∙◌, arith}
use Rattle.std.proofs.lemmas.List.{get_or-map, length-map}
use Rattle.shapers_buffer.specs.Glyph.{default_glyph}
use Rattle.shapers_buffer.specs.Properties.{general_category}
use Rattle.shapers_arabic.specs.Joining.{resolved}
use Rattle.shapers_arabic.specs.JoinedText.{stored_types}
use Rattle.shapers_arabic.proofs.FlaggedGlyphs.{map-same_text, still-character}
use Rattle.shapers_arabic.proofs.ot_shaper_arabic.joining.join_letters.Goals as goal

pub loop-i-init : goal.loop-i-init
loop-i-init = search (arith, length-map)

pub stored_type-joining_type-requires : goal.stored_type-joining_type-requires
stored_type-joining_type-requires = search (arith, still-character)

pub loop-i-preserved : goal.loop-i-preserved
loop-i-preserved g c =
    let l = c.loop-i in
    let gs = c.args.glyphs.now in
    let joining = (g.T.Tables.tables c.args.tables.now).joining in
    record {
      text = search arith;
      walked = λ before e. c.join_place.ensures.walked before (stored_types joining gs) gs
          (
          omega (arith, length-map gs (λ g2. resolved (joining g2.glyph_id) (general_category g2.unicode_props)))) (
          (let type_of = λ (g : Glyph). resolved (joining g.glyph_id) (general_category g.unicode_props) in
          search (arith, map-same_text, get_or-map type_of l.glyphs l.i default_glyph U (omega arith)))
          ∙ sym c.stored_type-joining_type.ensures.type_is) (l.invariant.walked before e);
      counted = omega arith;
      within = c.join_place.ensures.within;
    }
