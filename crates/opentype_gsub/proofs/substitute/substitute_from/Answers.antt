use Rattle.std.proofs.Common.{[], length, rules, subst, sym, ◌≡◌, ◌≤◌, ◌∙◌}
use Rattle.std.specs.Prelude.{OnOk}
use Rattle.shapers_buffer.specs.Buffer.{Buffer}
use Rattle.opentype_gsub.specs.Presence.{applied_from}
use Rattle.opentype_gsub.specs.Substituted.{setting_for}
use Rattle.opentype_gsub.specs.Along.{Along}
use Rattle.opentype_gsub.proofs.LawKeeps.{fits_by, memory_alone}
use Rattle.opentype_gsub.proofs.Untouched.{buffer_applied, ok_then, text_applied}
use Rattle.opentype_gsub.proofs.substitute.substitute_from.Goals as goal

pub returns-in-Ok-clause-ok : goal.returns-in-Ok-clause-ok
returns-in-Ok-clause-ok c =
    let b = c.args.buffer.now in
    let gdef = c.args.classes.now.gdef.now in
    let gsub = c.args.gsub.now in
    let it : Along = record { text = c.in-Ok.text.items; lookups = c.apply.new.lookups } in
    let from : applied_from (setting_for gdef gsub c.args.lookup_use.now b) c.args.table.now c.args.first b.glyphs b.lookups
    ≡ it = search rules in
    let is = text_applied gdef gsub c.args.lookup_use.now b c.args.table.now it c.args.first c.requires.table
    c.requires.left c.requires.within from in
    let new = c.replace.new.buffer in
    let exchanged = subst (λ (x : Buffer). OnOk c.replace.result
    (new ≡ record x { glyphs = it.text; positions = []; lookups = it.lookups })) c.apply.ensures.same c.replace.ensures.ok in
    ok_then c.replace.result (λ e. e ∙ buffer_applied gdef gsub c.args.lookup_use.now b it is c.requires.unplaced) exchanged

pub returns-in-Ok-clause-refusal : goal.returns-in-Ok-clause-refusal
returns-in-Ok-clause-refusal c =
    let b = c.args.buffer.now in
    let gdef = c.args.classes.now.gdef.now in
    let gsub = c.args.gsub.now in
    let it : Along = record { text = c.in-Ok.text.items; lookups = c.apply.new.lookups } in
    let from : applied_from (setting_for gdef gsub c.args.lookup_use.now b) c.args.table.now c.args.first b.glyphs b.lookups
    ≡ it = search rules in
    memory_alone _ _ _ c.replace.ensures.length
    (subst (λ (x : Buffer). length it.text ≤ x.max_len) (sym c.apply.ensures.same)
    (fits_by gdef gsub c.args.lookup_use.now b it c.len-len.ensures.fits
    (text_applied gdef gsub c.args.lookup_use.now b c.args.table.now it c.args.first c.requires.table c.requires.left
    c.requires.within from)))

pub returns-then-are_plain-clause-ok : goal.returns-then-are_plain-clause-ok
returns-then-are_plain-clause-ok c =
    let b = c.args.buffer.now in
    let gdef = c.args.classes.now.gdef.now in
    let gsub = c.args.gsub.now in
    let new = c.apply_plain.new.buffer in
    let it : Along = record { text = new.glyphs; lookups = new.lookups } in
    let from : applied_from (setting_for gdef gsub c.args.lookup_use.now b) c.args.table.now c.args.first b.glyphs b.lookups
    ≡ it = search rules in
    let is = text_applied gdef gsub c.args.lookup_use.now b c.args.table.now it c.args.first c.requires.table
    c.requires.left c.requires.within from in
    c.apply_plain.ensures.others ∙ buffer_applied gdef gsub c.args.lookup_use.now b it is c.requires.unplaced
