-- A SARA AM with its marks, or another glyph.
use Rattle.std.proofs.Common.{◌∙◌, ◌-◌, sym, refl, arith}
use Rattle.shapers_text.proofs.ThaiSaraAm.{read_there, written_other, written_am}
use Rattle.shapers_text.proofs.ot_shaper_thai.sara_am.Unwritten.write_last.Goals as goal

pub write_nikhahit-requires : goal.write_nikhahit-requires
write_nikhahit-requires c =
    let u = c.args.self.now in
    let gs = c.args.glyphs.now in
    (written_am gs _ u.end u.place _ c.nikhahit_from_sara_am.result c.sara_aa_from_sara_am.result c.requires.some
    c.requires.unwritten
    (read_there gs (u.end - 1) _ (search arith)) (sym c.is_sara_am.ensures ∙ c.if-is_sara_am.true) c.nikhahit_from_sara_am.ensures
    c.sara_aa_from_sara_am.ensures refl).left

pub returns-then-is_sara_am-clause-written : goal.returns-then-is_sara_am-clause-written
returns-then-is_sara_am-clause-written c =
    let u = c.args.self.now in
    let gs = c.args.glyphs.now in
    let am = written_am gs _ u.end u.place _ c.nikhahit_from_sara_am.result c.sara_aa_from_sara_am.result
    c.requires.some c.requires.unwritten
    (read_there gs (u.end - 1) _ (omega arith)) (sym c.is_sara_am.ensures ∙ c.if-is_sara_am.true)
    c.nikhahit_from_sara_am.ensures c.sara_aa_from_sara_am.ensures refl in
    search arith

pub returns-else-is_sara_am-clause-written : goal.returns-else-is_sara_am-clause-written
returns-else-is_sara_am-clause-written c =
    let u = c.args.self.now in
    let gs = c.args.glyphs.now in
    written_other gs u.end u.place _ c.requires.some c.requires.unwritten
    (read_there gs (u.end - 1) _ (search arith)) (search arith)
