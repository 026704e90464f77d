-- The matras listed and their clusters written, by what the walk over them found.
use Rattle.std.proofs.Common.{◌≡◌, ◌+◌, [], ◌++◌, drop, filter, length, refl, sym, ap, subst, ◌∙◌, arith}
use Rattle.shapers_buffer.specs.Buffer.{Buffer}
use Rattle.shapers_buffer.specs.Glyphs.{Glyphs}
use Rattle.shapers_buffer.specs.Places.{placed_by}
use Rattle.shapers_buffer.specs.Placements.{MayArrange, arranged, placed_by_all}
use Rattle.shapers_buffer.specs.declared.buffer.placement.Placement.TheVariants.{Listed, Stays}
use Rattle.shapers_buffer.specs.declared.buffer.placements.Placements.{Placements}
use Rattle.shapers_buffer.proofs.Arranging.{all_long, only_one}
use Rattle.shapers_indic.specs.Glyphs.{places}
use Rattle.shapers_indic_final.specs.FinalMoveWalk.{matra_placements}
use Rattle.shapers_indic_final.specs.LeftMatraWalk.{gone, has_stayed, staying}
use Rattle.shapers_indic_final.proofs.FinalArranged.{stay_fits}
use Rattle.shapers_indic_final.proofs.LeftMatrasAtOnce.{found, no_lefts, one_there, written_there}
use Rattle.shapers_indic_final.proofs.LeftMatrasListed.{parted_written}
use Rattle.shapers_indic_final.proofs.LeftMatraSteps.{Lies}
use Rattle.shapers_indic_final.proofs.ot_shaper_indic_final.left_matras.bring_matras_on.Goals as goal

pub returns-then-not-has_left-clause-glyphs : goal.returns-then-not-has_left-clause-glyphs
returns-then-not-has_left-clause-glyphs c =
    let a = c.args in
    let r = c.requires in
    let b0 = a.buffer.now in
    let old = arranged a.moves a.start a.end b0 in
    let long : length old.glyphs ≡ length b0.glyphs = all_long a.moves a.start a.end b0.places b0.glyphs r.fits in
    let text = c.arranged.ensures.text in
    search (arith, no_lefts)

pub overflow_sub-at : goal.overflow_sub-at
overflow_sub-at c =
    let a = c.args in
    let r = c.requires in
    let b0 = a.buffer.now in
    let old = arranged a.moves a.start a.end b0 in
    let gs = old.glyphs in
    let long : length gs ≡ length b0.glyphs = all_long a.moves a.start a.end b0.places b0.glyphs r.fits in
    let w = c.merged_ranges-ranges in
    let lies : Lies (a.start + a.target) (a.start + a.base_end) w.result gs =
    record {
      start = w.ensures.start;
      from = w.ensures.from;
      end = omega (arith, w.ensures.end, c.arranged-2.ensures.same_length, long);
    } in
    let many = c.len_staying-len.ensures
    ∙ ap (λ xs. length (filter (has_stayed a.start (a.start + a.top) xs) (places w.result.start (a.start + a.target))))
    c.arranged-3.ensures.text in
    let view : placed_by_all (matra_placements a.start a.top a.target) a.start a.end [] b0.glyphs ≡ gs =
    ap (λ ps. placed_by_all ps a.start a.end b0.places b0.glyphs) (sym r.moved) in
    let at = c.list_matras-at.ensures.at
    ∙ ap (λ xs. a.start + length (filter (has_stayed a.start (a.start + a.top) xs) (places a.start (a.start + a.target)))) view in
    let partitioned = parted_written b0.level a.start (a.start + a.top) (a.start + a.target) (a.start + a.base_end) c.list_matras-at.result
    c.len_staying-len.result w.result gs (omega arith) (omega (arith, r.before)) lies at many in
    partitioned.0

pub merge_stretch-requires-clause-fits : goal.merge_stretch-requires-clause-fits
merge_stretch-requires-clause-fits c =
    let a = c.args in
    let r = c.requires in
    let b0 = a.buffer.now in
    let old = arranged a.moves a.start a.end b0 in
    let gs = old.glyphs in
    let long : length gs ≡ length b0.glyphs = all_long a.moves a.start a.end b0.places b0.glyphs r.fits in
    let w = c.merged_ranges-ranges in
    let lies : Lies (a.start + a.target) (a.start + a.base_end) w.result gs =
    record {
      start = w.ensures.start;
      from = w.ensures.from;
      end = omega (arith, w.ensures.end, c.arranged-2.ensures.same_length, long);
    } in
    let many = c.len_staying-len.ensures
    ∙ ap (λ xs. length (filter (has_stayed a.start (a.start + a.top) xs) (places w.result.start (a.start + a.target))))
    c.arranged-3.ensures.text in
    let view : placed_by_all (matra_placements a.start a.top a.target) a.start a.end [] b0.glyphs ≡ gs =
    ap (λ ps. placed_by_all ps a.start a.end b0.places b0.glyphs) (sym r.moved) in
    let at = c.list_matras-at.ensures.at
    ∙ ap (λ xs. a.start + length (filter (has_stayed a.start (a.start + a.top) xs) (places a.start (a.start + a.target)))) view in
    let partitioned = parted_written b0.level a.start (a.start + a.top) (a.start + a.target) (a.start + a.base_end) c.list_matras-at.result
    c.len_staying-len.result w.result gs (omega arith) (omega (arith, r.before)) lies at many in
    let listed : Placements = record { first = Listed; second = Stays; third = Stays } in
    let b1 = c.list_matras-at.new.buffer in
    let same : length b1.glyphs ≡ length b0.glyphs =
    ap (λ (b : Buffer). length b.glyphs) c.list_matras-at.ensures.others in
    let fits1 : MayArrange listed a.start a.end (length b1.glyphs) b1.places =
    record {
      in_order = r.fits.in_order;
      in_range = omega (arith, r.fits.in_range);
      first = c.list_matras-at.ensures.each;
      second = stay_fits a.start a.end b1.places;
      third = stay_fits a.start a.end b1.places;
    } in
    fits1

pub merge_stretch-requires-clause-in_range : goal.merge_stretch-requires-clause-in_range
merge_stretch-requires-clause-in_range c =
    let a = c.args in
    let r = c.requires in
    let b0 = a.buffer.now in
    let old = arranged a.moves a.start a.end b0 in
    let gs = old.glyphs in
    let long : length gs ≡ length b0.glyphs = all_long a.moves a.start a.end b0.places b0.glyphs r.fits in
    let w = c.merged_ranges-ranges in
    let lies : Lies (a.start + a.target) (a.start + a.base_end) w.result gs =
    record {
      start = w.ensures.start;
      from = w.ensures.from;
      end = omega (arith, w.ensures.end, c.arranged-2.ensures.same_length, long);
    } in
    let many = c.len_staying-len.ensures
    ∙ ap (λ xs. length (filter (has_stayed a.start (a.start + a.top) xs) (places w.result.start (a.start + a.target))))
    c.arranged-3.ensures.text in
    let view : placed_by_all (matra_placements a.start a.top a.target) a.start a.end [] b0.glyphs ≡ gs =
    ap (λ ps. placed_by_all ps a.start a.end b0.places b0.glyphs) (sym r.moved) in
    let at = c.list_matras-at.ensures.at
    ∙ ap (λ xs. a.start + length (filter (has_stayed a.start (a.start + a.top) xs) (places a.start (a.start + a.target)))) view in
    let partitioned = parted_written b0.level a.start (a.start + a.top) (a.start + a.target) (a.start + a.base_end) c.list_matras-at.result
    c.len_staying-len.result w.result gs (omega arith) (omega (arith, r.before)) lies at many in
    let listed : Placements = record { first = Listed; second = Stays; third = Stays } in
    let b1 = c.list_matras-at.new.buffer in
    let same : length b1.glyphs ≡ length b0.glyphs =
    ap (λ (b : Buffer). length b.glyphs) c.list_matras-at.ensures.others in
    let fits1 : MayArrange listed a.start a.end (length b1.glyphs) b1.places =
    record {
      in_order = r.fits.in_order;
      in_range = omega (arith, r.fits.in_range);
      first = c.list_matras-at.ensures.each;
      second = stay_fits a.start a.end b1.places;
      third = stay_fits a.start a.end b1.places;
    } in
    omega (arith, partitioned.1, w.ensures.end, c.arranged-2.ensures.same_length)

pub merge_stretch-requires-2-clause-fits : goal.merge_stretch-requires-2-clause-fits
merge_stretch-requires-2-clause-fits c =
    let a = c.args in
    let r = c.requires in
    let b0 = a.buffer.now in
    let old = arranged a.moves a.start a.end b0 in
    let gs = old.glyphs in
    let long : length gs ≡ length b0.glyphs = all_long a.moves a.start a.end b0.places b0.glyphs r.fits in
    let w = c.merged_ranges-ranges in
    let lies : Lies (a.start + a.target) (a.start + a.base_end) w.result gs =
    record {
      start = w.ensures.start;
      from = w.ensures.from;
      end = omega (arith, w.ensures.end, c.arranged-2.ensures.same_length, long);
    } in
    let many = c.len_staying-len.ensures
    ∙ ap (λ xs. length (filter (has_stayed a.start (a.start + a.top) xs) (places w.result.start (a.start + a.target))))
    c.arranged-3.ensures.text in
    let view : placed_by_all (matra_placements a.start a.top a.target) a.start a.end [] b0.glyphs ≡ gs =
    ap (λ ps. placed_by_all ps a.start a.end b0.places b0.glyphs) (sym r.moved) in
    let at = c.list_matras-at.ensures.at
    ∙ ap (λ xs. a.start + length (filter (has_stayed a.start (a.start + a.top) xs) (places a.start (a.start + a.target)))) view in
    let partitioned = parted_written b0.level a.start (a.start + a.top) (a.start + a.target) (a.start + a.base_end) c.list_matras-at.result
    c.len_staying-len.result w.result gs (omega arith) (omega (arith, r.before)) lies at many in
    let listed : Placements = record { first = Listed; second = Stays; third = Stays } in
    let b1 = c.list_matras-at.new.buffer in
    let same : length b1.glyphs ≡ length b0.glyphs =
    ap (λ (b : Buffer). length b.glyphs) c.list_matras-at.ensures.others in
    let fits1 : MayArrange listed a.start a.end (length b1.glyphs) b1.places =
    record {
      in_order = r.fits.in_order;
      in_range = omega (arith, r.fits.in_range);
      first = c.list_matras-at.ensures.each;
      second = stay_fits a.start a.end b1.places;
      third = stay_fits a.start a.end b1.places;
    } in
    let b2 = c.merge_stretch.new.buffer in
    let fits2 : MayArrange listed a.start a.end (length b2.glyphs) b2.places =
    subst (λ ps. MayArrange listed a.start a.end (length b2.glyphs) ps)
    (sym (ap (λ (b : Buffer). b.places) c.merge_stretch.ensures.others))
    (subst (λ n. MayArrange listed a.start a.end n b1.places) (sym c.merge_stretch.ensures.same_length) fits1) in
    fits2

pub merge_stretch-requires-2-clause-in_order : goal.merge_stretch-requires-2-clause-in_order
merge_stretch-requires-2-clause-in_order c =
    let a = c.args in
    let r = c.requires in
    let b0 = a.buffer.now in
    let old = arranged a.moves a.start a.end b0 in
    let gs = old.glyphs in
    let long : length gs ≡ length b0.glyphs = all_long a.moves a.start a.end b0.places b0.glyphs r.fits in
    let w = c.merged_ranges-ranges in
    let lies : Lies (a.start + a.target) (a.start + a.base_end) w.result gs =
    record {
      start = w.ensures.start;
      from = w.ensures.from;
      end = omega (arith, w.ensures.end, c.arranged-2.ensures.same_length, long);
    } in
    let many = c.len_staying-len.ensures
    ∙ ap (λ xs. length (filter (has_stayed a.start (a.start + a.top) xs) (places w.result.start (a.start + a.target))))
    c.arranged-3.ensures.text in
    let view : placed_by_all (matra_placements a.start a.top a.target) a.start a.end [] b0.glyphs ≡ gs =
    ap (λ ps. placed_by_all ps a.start a.end b0.places b0.glyphs) (sym r.moved) in
    let at = c.list_matras-at.ensures.at
    ∙ ap (λ xs. a.start + length (filter (has_stayed a.start (a.start + a.top) xs) (places a.start (a.start + a.target)))) view in
    let partitioned = parted_written b0.level a.start (a.start + a.top) (a.start + a.target) (a.start + a.base_end) c.list_matras-at.result
    c.len_staying-len.result w.result gs (omega arith) (omega (arith, r.before)) lies at many in
    partitioned.1

pub merge_stretch-requires-2-clause-in_range : goal.merge_stretch-requires-2-clause-in_range
merge_stretch-requires-2-clause-in_range c =
    let a = c.args in
    let r = c.requires in
    let b0 = a.buffer.now in
    let old = arranged a.moves a.start a.end b0 in
    let gs = old.glyphs in
    let long : length gs ≡ length b0.glyphs = all_long a.moves a.start a.end b0.places b0.glyphs r.fits in
    let w = c.merged_ranges-ranges in
    let lies : Lies (a.start + a.target) (a.start + a.base_end) w.result gs =
    record {
      start = w.ensures.start;
      from = w.ensures.from;
      end = omega (arith, w.ensures.end, c.arranged-2.ensures.same_length, long);
    } in
    let many = c.len_staying-len.ensures
    ∙ ap (λ xs. length (filter (has_stayed a.start (a.start + a.top) xs) (places w.result.start (a.start + a.target))))
    c.arranged-3.ensures.text in
    let view : placed_by_all (matra_placements a.start a.top a.target) a.start a.end [] b0.glyphs ≡ gs =
    ap (λ ps. placed_by_all ps a.start a.end b0.places b0.glyphs) (sym r.moved) in
    let at = c.list_matras-at.ensures.at
    ∙ ap (λ xs. a.start + length (filter (has_stayed a.start (a.start + a.top) xs) (places a.start (a.start + a.target)))) view in
    let partitioned = parted_written b0.level a.start (a.start + a.top) (a.start + a.target) (a.start + a.base_end) c.list_matras-at.result
    c.len_staying-len.result w.result gs (omega arith) (omega (arith, r.before)) lies at many in
    let listed : Placements = record { first = Listed; second = Stays; third = Stays } in
    let b1 = c.list_matras-at.new.buffer in
    let same : length b1.glyphs ≡ length b0.glyphs =
    ap (λ (b : Buffer). length b.glyphs) c.list_matras-at.ensures.others in
    let fits1 : MayArrange listed a.start a.end (length b1.glyphs) b1.places =
    record {
      in_order = r.fits.in_order;
      in_range = omega (arith, r.fits.in_range);
      first = c.list_matras-at.ensures.each;
      second = stay_fits a.start a.end b1.places;
      third = stay_fits a.start a.end b1.places;
    } in
    omega (arith, w.ensures.end, c.arranged-2.ensures.same_length, c.merge_stretch.ensures.same_length)

pub returns-clause-glyphs : goal.returns-clause-glyphs
returns-clause-glyphs c =
    let a = c.args in
    let r = c.requires in
    let b0 = a.buffer.now in
    let old = arranged a.moves a.start a.end b0 in
    let gs = old.glyphs in
    let long : length gs ≡ length b0.glyphs = all_long a.moves a.start a.end b0.places b0.glyphs r.fits in
    let w = c.merged_ranges-ranges in
    let lies : Lies (a.start + a.target) (a.start + a.base_end) w.result gs =
    record {
      start = w.ensures.start;
      from = w.ensures.from;
      end = omega (arith, w.ensures.end, c.arranged-2.ensures.same_length, long);
    } in
    let many = c.len_staying-len.ensures
    ∙ ap (λ xs. length (filter (has_stayed a.start (a.start + a.top) xs) (places w.result.start (a.start + a.target))))
    c.arranged-3.ensures.text in
    let view : placed_by_all (matra_placements a.start a.top a.target) a.start a.end [] b0.glyphs ≡ gs =
    ap (λ ps. placed_by_all ps a.start a.end b0.places b0.glyphs) (sym r.moved) in
    let at = c.list_matras-at.ensures.at
    ∙ ap (λ xs. a.start + length (filter (has_stayed a.start (a.start + a.top) xs) (places a.start (a.start + a.target)))) view in
    let partitioned = parted_written b0.level a.start (a.start + a.top) (a.start + a.target) (a.start + a.base_end) c.list_matras-at.result
    c.len_staying-len.result w.result gs (omega arith) (omega (arith, r.before)) lies at many in
    let listed : Placements = record { first = Listed; second = Stays; third = Stays } in
    let b1 = c.list_matras-at.new.buffer in
    let same : length b1.glyphs ≡ length b0.glyphs =
    ap (λ (b : Buffer). length b.glyphs) c.list_matras-at.ensures.others in
    let fits1 : MayArrange listed a.start a.end (length b1.glyphs) b1.places =
    record {
      in_order = r.fits.in_order;
      in_range = omega (arith, r.fits.in_range);
      first = c.list_matras-at.ensures.each;
      second = stay_fits a.start a.end b1.places;
      third = stay_fits a.start a.end b1.places;
    } in
    let b2 = c.merge_stretch.new.buffer in
    let fits2 : MayArrange listed a.start a.end (length b2.glyphs) b2.places =
    subst (λ ps. MayArrange listed a.start a.end (length b2.glyphs) ps)
    (sym (ap (λ (b : Buffer). b.places) c.merge_stretch.ensures.others))
    (subst (λ n. MayArrange listed a.start a.end n b1.places) (sym c.merge_stretch.ensures.same_length) fits1) in
    let b3 = c.merge_stretch-2.new.buffer in
    let mid = arranged listed a.start a.end b1 in
    let alone = (only_one listed a.start a.end b1.places b1.glyphs fits1).0 refl refl in
    let text : mid.glyphs ≡ staying a.start (a.start + a.top) gs 0 (a.start + a.target)
    ++ (gone a.start (a.start + a.top) gs 0 (a.start + a.target) ++ drop (a.start + a.target) gs) =
    alone ∙ ap (λ xs. placed_by Listed a.start a.end b1.places xs) (ap (λ (b : Buffer). b.glyphs) c.list_matras-at.ensures.others)
    ∙ c.list_matras-at.ensures.moved
    ∙ ap (λ xs. staying a.start (a.start + a.top) xs 0 (a.start + a.target)
    ++ (gone a.start (a.start + a.top) xs 0 (a.start + a.target) ++ drop (a.start + a.target) xs)) view in
    let moved = ap (λ (xs : Glyphs). let y : Buffer = record mid { glyphs = xs } in y) text
    ∙ ap (λ (x : Buffer). let y : Buffer = record x {
      glyphs = staying a.start (a.start + a.top) gs 0 (a.start + a.target)
          ++ (gone a.start (a.start + a.top) gs 0 (a.start + a.target) ++ drop (a.start + a.target) gs);
      places = [];
    } in y) c.list_matras-at.ensures.others in
    let written = written_there old mid (arranged listed a.start a.end b2) (arranged listed a.start a.end b3) a.start (a.start + a.top)
    (a.start + a.target) (a.start + a.base_end) c.list_matras-at.result c.len_staying-len.result w.result (omega arith)
    (omega (arith, r.before)) lies moved at many c.merge_stretch.ensures.glyphs c.merge_stretch-2.ensures.glyphs in
    let walked = found b0.level a.start a.end a.top a.target a.base_end w.result c.arranged-2.result gs c.arranged-2.ensures.text
    (w.ensures.partitioned b0.level a.end r.in_order (omega (arith, c.arranged-2.ensures.same_length, r.fits.in_range))
    (one_there b0.level (a.start + a.target) (a.start + a.base_end) c.arranged-2.result gs c.arranged-2.ensures.text r.one)) in
    written ∙ ap (λ (xs : Glyphs). let y : Buffer = record old { glyphs = xs } in y) walked

pub returns-clause-fits : goal.returns-clause-fits
returns-clause-fits c =
    let a = c.args in
    let r = c.requires in
    let b0 = a.buffer.now in
    let old = arranged a.moves a.start a.end b0 in
    let gs = old.glyphs in
    let long : length gs ≡ length b0.glyphs = all_long a.moves a.start a.end b0.places b0.glyphs r.fits in
    let w = c.merged_ranges-ranges in
    let lies : Lies (a.start + a.target) (a.start + a.base_end) w.result gs =
    record {
      start = w.ensures.start;
      from = w.ensures.from;
      end = omega (arith, w.ensures.end, c.arranged-2.ensures.same_length, long);
    } in
    let many = c.len_staying-len.ensures
    ∙ ap (λ xs. length (filter (has_stayed a.start (a.start + a.top) xs) (places w.result.start (a.start + a.target))))
    c.arranged-3.ensures.text in
    let view : placed_by_all (matra_placements a.start a.top a.target) a.start a.end [] b0.glyphs ≡ gs =
    ap (λ ps. placed_by_all ps a.start a.end b0.places b0.glyphs) (sym r.moved) in
    let at = c.list_matras-at.ensures.at
    ∙ ap (λ xs. a.start + length (filter (has_stayed a.start (a.start + a.top) xs) (places a.start (a.start + a.target)))) view in
    let partitioned = parted_written b0.level a.start (a.start + a.top) (a.start + a.target) (a.start + a.base_end) c.list_matras-at.result
    c.len_staying-len.result w.result gs (omega arith) (omega (arith, r.before)) lies at many in
    let listed : Placements = record { first = Listed; second = Stays; third = Stays } in
    let b1 = c.list_matras-at.new.buffer in
    let same : length b1.glyphs ≡ length b0.glyphs =
    ap (λ (b : Buffer). length b.glyphs) c.list_matras-at.ensures.others in
    let fits1 : MayArrange listed a.start a.end (length b1.glyphs) b1.places =
    record {
      in_order = r.fits.in_order;
      in_range = omega (arith, r.fits.in_range);
      first = c.list_matras-at.ensures.each;
      second = stay_fits a.start a.end b1.places;
      third = stay_fits a.start a.end b1.places;
    } in
    let b2 = c.merge_stretch.new.buffer in
    let fits2 : MayArrange listed a.start a.end (length b2.glyphs) b2.places =
    subst (λ ps. MayArrange listed a.start a.end (length b2.glyphs) ps)
    (sym (ap (λ (b : Buffer). b.places) c.merge_stretch.ensures.others))
    (subst (λ n. MayArrange listed a.start a.end n b1.places) (sym c.merge_stretch.ensures.same_length) fits1) in
    let b3 = c.merge_stretch-2.new.buffer in
    subst (λ ps. MayArrange listed a.start a.end (length b3.glyphs) ps)
    (sym (ap (λ (b : Buffer). b.places) c.merge_stretch-2.ensures.others))
    (subst (λ n. MayArrange listed a.start a.end n b2.places) (sym c.merge_stretch-2.ensures.same_length) fits2)

pub returns-clause-same_length : goal.returns-clause-same_length
returns-clause-same_length c =
    c.merge_stretch-2.ensures.same_length ∙ c.merge_stretch.ensures.same_length
    ∙ ap (λ (b : Buffer). length b.glyphs) c.list_matras-at.ensures.others
