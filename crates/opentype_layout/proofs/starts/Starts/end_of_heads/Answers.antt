use Rattle.std.proofs.Common.{rules}
use Rattle.opentype_layout.proofs.Grids.{none_outside, same_kind}
use Rattle.opentype_layout.proofs.starts.Starts.end_of_heads.Goals as goal

pub returns : goal.returns
returns c = λ glyph behind.
    (let same = same_kind c.args.of_gpos c.self.inside.of_gpos c.if-of_gpos-self.false in
    let is = rw (same, c.self.view_is) at (c.self.invariant.1.0 c.if-not-self.false) in
    none_outside _ _ _ _ _ _ _ is (search rules))
