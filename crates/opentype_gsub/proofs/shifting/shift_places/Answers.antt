use Rattle.std.proofs.Common.{rules, ap, ◌∙◌, ◌++◌, take}
use Rattle.opentype_gsub.specs.Machine.{climbing}
use Rattle.opentype_gsub.proofs.Machines.{settled_is}
use Rattle.opentype_gsub.proofs.shifting.shift_places.Goals as goal

pub returns : goal.returns
returns c = settled_is c.saturating_add-first.result 0 c.saturating_add.result _ _ _ _ c.front_of.result.now c.back_of-behind.result.now
    c.push_all.new.new.items c.climb.new.new.items _ c.saturating_add-first.ensures c.saturating_add.ensures c.front_of.ensures
    c.back_of-behind.ensures (search rules)
    (c.climb.ensures ∙ ap (λ n. take 64 (c.push_all.new.new.items ++ climbing c.args.added n)) c.place_of.ensures)
    c.push_moved.ensures
