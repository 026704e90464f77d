use Rattle.std.proofs.Common.{◌≡◌, ◌+◌, ◌*◌, sym, arith, rules, ℕ, List}
use Rattle.opentype_face.specs.Bytes.{u16_in}
use Rattle.opentype_gsub.specs.declared.matching.Fitting.{Fitting}
use Rattle.opentype_face.proofs.Foremost.{first_found, first_missed, first_out, first_passed, first_start}
use Rattle.opentype_gsub.proofs.matching.first_by_key.Goals as goal

pub loop-i-init : goal.loop-i-init
loop-i-init c = first_start _ _

pub loop-i-preserved-then-is_barred : goal.loop-i-preserved-then-is_barred
loop-i-preserved-then-is_barred c = first_passed _ _ _ c.loop-i.invariant (omega arith)
    (let is : c.from-offset.result ≡ u16_in c.args.set.now (2 + c.loop-i.i * 2) = search rules in
    rw is at (c.is_barred.ensures c.if-is_barred.true c.args.gdef.now c.args.sight.now c.args.glyphs.now c.args.at
    c.requires.key))

pub returns-then-is_some-clause-value : goal.returns-then-is_some-clause-value
returns-then-is_some-clause-value c =
    let g : Fitting → ℕ × List ℕ = λ it. (it.glyph, it.places.items) in
    first_found g _ _ _ _ c.loop-i.invariant (omega arith) (cc) (cc)

pub loop-i-preserved : goal.loop-i-preserved
loop-i-preserved c =
    let g : Fitting → ℕ × List ℕ = λ it. (it.glyph, it.places.items) in
    first_missed g _ _ _ c.fit_ligature-found.result c.loop-i.invariant (omega arith) (cc) (cc)

pub returns-clause-value : goal.returns-clause-value
returns-clause-value c = sym (first_out _ _ _ c.loop-i.invariant (omega arith))
