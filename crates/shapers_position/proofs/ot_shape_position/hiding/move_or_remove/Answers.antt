-- A glyph goes, and those before it take its cluster.
use Rattle.std.proofs.Common.{◌≡◌, ◌∙◌, ◌+◌, ◌-◌, ap, drop, false, get_or, length, refl, sym, true, arith}
use Rattle.std.proofs.lemmas.List.{length-drop, length-take-le, take_all}
use Rattle.shapers_buffer.specs.Glyph.{default_glyph}
use Rattle.shapers_position.specs.Ignorables.{is_of_cluster, is_default_ignorable}
use Rattle.shapers_position.proofs.RemovalSteps.{covered_count, covered_rest}
use Rattle.shapers_position.proofs.ot_shape_position.hiding.move_or_remove.Goals as goal

pub returns-then-not-is_of_cluster-clause-rest : goal.returns-then-not-is_of_cluster-clause-rest
returns-then-not-is_of_cluster-clause-rest c =
    let gs = c.args.glyphs.now in
    let k = c.args.kept in
    let i = c.args.i in
    let g = get_or gs i default_glyph in
    let rest = drop (i + 1) gs in
    let is : is_default_ignorable g ≡ true = sym c.is_default_ignorable.ensures ∙ c.if-not-is_default_ignorable.false in
    let whole = take_all (length gs - (i + 1)) rest (omega (arith, length-drop (i + 1) gs)) in
    let on : is_of_cluster g.cluster rest ≡ false = sym (c.is_of_cluster.ensures ∙ ap (is_of_cluster g.cluster) whole)
    ∙ c.if-not-is_of_cluster.true in
    let long : length c.cover.new.kept ≡ k = omega
    (arith, c.cover.auto.kept, length-take-le k gs (omega (arith, c.requires.few, c.requires.inside))) in
    covered_rest gs c.cover.new.kept k i g c.requires.few c.requires.inside refl is on c.cover.ensures long

pub returns-then-not-is_of_cluster-clause-count : goal.returns-then-not-is_of_cluster-clause-count
returns-then-not-is_of_cluster-clause-count c =
    let gs = c.args.glyphs.now in
    let k = c.args.kept in
    let i = c.args.i in
    let g = get_or gs i default_glyph in
    let is : is_default_ignorable g ≡ true = sym c.is_default_ignorable.ensures ∙ c.if-not-is_default_ignorable.false in
    let long : length c.cover.new.kept ≡ k = omega
    (arith, c.cover.auto.kept, length-take-le k gs (omega (arith, c.requires.few, c.requires.inside))) in
    covered_count gs c.cover.new.kept k i g c.requires.few c.requires.inside refl is long
