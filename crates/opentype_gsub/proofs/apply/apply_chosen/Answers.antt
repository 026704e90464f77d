use Rattle.std.proofs.Common.{◌≡◌, ◌∙◌, false, subst, sym}
use Rattle.opentype_layout.specs.Text.{glyph_at}
use Rattle.opentype_gsub.specs.Applied.{IsChange, PlaceChange, alternate_put, is_random}
use Rattle.opentype_gsub.specs.Setting.{setting_of}
use Rattle.std.specs.Prelude.{Option}
use Rattle.opentype_gsub.proofs.Untouched.{not_random}
use Rattle.opentype_gsub.proofs.apply.apply_chosen.Goals as goal

pub returns : goal.returns
returns c =
    let s = setting_of c.args.pass.now in
    let sight = c.args.sight.now in
    let bytes = c.args.bytes.now in
    let gs = c.args.text.now in
    let at = c.args.at in
    let r = c.args.lookups.now in
    let no : is_random s.lookup.random sight (glyph_at gs at) ≡ false = rw c.at.ensures.glyph at (sym c.is_random.ensures ∙ c.if-is_random.false) in
    subst (λ (change : Option PlaceChange). IsChange change gs r c.apply_alternate.new.text r c.apply_alternate.result)
    (sym (not_random s sight bytes gs at r no))
    (subst (λ v. IsChange (alternate_put s.gdef bytes v gs at r) gs r c.apply_alternate.new.text r c.apply_alternate.result)
    (rw c.at-2.ensures.glyph at c.value-value.ensures) (c.apply_alternate.ensures r))
