-- What the item makes of the glyphs that are shown settles as what it makes of all of them.
use Rattle.std.proofs.Common.{◌+◌, ap}
use Rattle.shapers_hangul.proofs.HangulGroups.{item_behind}
use Rattle.shapers_hangul.proofs.ot_shaper_hangul.rewriting.join_behind.Goals as goal

pub take_back-requires : goal.take_back-requires
take_back-requires c = record {
  fits =
      let place = c.args.place in
      (item_behind c.args.level c.args.item place (place + c.len.result) c.guard-count.result c.args.groups.now
      c.guard-count.new.self c.args.glyphs.now c.guard-count.new.glyphs c.join.new.glyphs
      (ap (λ n. place + n) c.len.ensures) c.requires.item c.requires.torn c.requires.fits c.guard-count.ensures
      c.join.ensures).can;
}

pub returns-clause-joined : goal.returns-clause-joined
returns-clause-joined c =
    let place = c.args.place in
    (item_behind c.args.level c.args.item place (place + c.len.result) c.guard-count.result c.args.groups.now
    c.guard-count.new.self c.args.glyphs.now c.guard-count.new.glyphs c.join.new.glyphs
    (ap (λ n. place + n) c.len.ensures) c.requires.item c.requires.torn c.requires.fits c.guard-count.ensures
    c.join.ensures).made c.take_back.new.self c.take_back.new.glyphs c.take_back.ensures.settled
