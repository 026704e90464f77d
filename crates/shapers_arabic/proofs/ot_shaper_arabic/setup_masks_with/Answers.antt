-- What the counted call promises, as one record.
use Rattle.shapers_arabic.proofs.ot_shaper_arabic.setup_masks_with.Goals as goal

pub returns : goal.returns
returns g c =
    let counted = c.setup_masks_counted.ensures in
    record {
      joined = counted.joined;
      cut = counted.cut;
      clear = counted.breaks;
      needless = counted.needless;
      first = counted.first;
      flags = counted.flags;
    }
