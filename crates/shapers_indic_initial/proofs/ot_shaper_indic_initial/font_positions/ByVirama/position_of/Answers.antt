-- What is kept is true.
use Rattle.std.proofs.Common.{rules, ◌%◌, ap, ◌∙◌}
use Rattle.std.proofs.lemmas.List.Elements.{All-get_or}
use Rattle.shapers_indic_initial.specs.InitialFont.{consonant_position}
use Rattle.shapers_indic_initial.specs.KnownWalk.{IsKnown}
use Rattle.shapers_indic_initial.proofs.ot_shaper_indic_initial.font_positions.ByVirama.position_of.Goals as goal

pub returns-then-kept-consonant-clause-position : goal.returns-then-kept-consonant-clause-position
returns-then-kept-consonant-clause-position g c =
    let font = g.F.hb_font_t.font c.args.self.now.rules.now.font.now in
    let m = c.args.self.now.rules.now.map.now in
    let p = c.args.self.now.rules.now.plan.now in
    let v = c.args.self.now.virama in
    let i = c.from-slot.result % 32 in
    All-get_or (IsKnown font m p v) c.args.known.now i (record { consonant = record { 0 = 0 }; position = 0 })
    (search rules) c.requires ∙ ap (λ n. consonant_position font m p v ((record { 0 = n }))) c.if-kept-consonant.true
