-- The three walks make one list.
use Rattle.std.proofs.Common.{◌+◌, ◌-◌, ◌≤◌, true, [], filter, length, sym, ap, subst, ◌∙◌, arith}
use Rattle.std.proofs.lemmas.List.FromFn.{length-range_with_len}
use Rattle.std.specs.List.Sorted.{IsPermutation}
use Rattle.shapers_buffer.specs.Buffer.{Buffer}
use Rattle.shapers_buffer.specs.Glyphs.{Glyphs}
use Rattle.shapers_buffer.specs.Placements.{placed_by_all}
use Rattle.shapers_indic.specs.Glyphs.{places}
use Rattle.shapers_indic_final.specs.FinalMoveWalk.{matra_placements}
use Rattle.shapers_indic_final.specs.LeftMatraWalk.{is_listed}
use Rattle.shapers_indic_final.proofs.LeftMatrasArranged.{list_each, list_moved, parted_count, rest_stays, three_walks}
use Rattle.shapers_indic_final.proofs.ot_shaper_indic_final.left_matras.list_matras.Goals as goal

pub list_places-at-requires-clause-room : goal.list_places-at-requires-clause-room
list_places-at-requires-clause-room c =
    let a = c.args in
    let gs = placed_by_all (matra_placements a.start a.matra a.target) a.start a.end [] a.buffer.now.glyphs in
    omega (arith, parted_count a.start a.matra a.target gs)

pub list_places-behind-requires-clause-room : goal.list_places-behind-requires-clause-room
list_places-behind-requires-clause-room c =
    let a = c.args in
    let view : Glyphs → Glyphs = λ gs. placed_by_all (matra_placements a.start a.matra a.target) a.start a.end [] gs in
    let same = ap (λ (b : Buffer). view b.glyphs) c.list_places-at.ensures.listed in
    let w = c.list_places-at.ensures.behind in
    subst (λ gs. c.list_places-at.result + length (filter (is_listed true a.start (a.start + a.matra) gs) (places a.start (a.start + a.target))) ≤ a.end)
    (sym same) (omega (arith, parted_count a.start a.matra a.target (view a.buffer.now.glyphs)))

pub list_places-requires-clause-room : goal.list_places-requires-clause-room
list_places-requires-clause-room c =
    let a = c.args in
    let view : Glyphs → Glyphs = λ gs. placed_by_all (matra_placements a.start a.matra a.target) a.start a.end [] gs in
    let same = ap (λ (b : Buffer). view b.glyphs) c.list_places-at.ensures.listed in
    let gone = ap (λ gs. length (filter (is_listed true a.start (a.start + a.matra) gs) (places a.start (a.start + a.target)))) same in
    let rest = ap length (rest_stays a.start a.end a.matra a.target (view c.list_places-behind.new.buffer.glyphs) c.requires.before)
    ∙ length-range_with_len (a.start + a.target) (a.end - (a.start + a.target)) in
    let at = c.list_places-at.ensures.behind in
    let behind = c.list_places-behind.ensures.behind in
    omega (arith, parted_count a.start a.matra a.target (view a.buffer.now.glyphs))

pub returns-clause-moved : goal.returns-clause-moved
returns-clause-moved c =
    let a = c.args in
    let b = a.buffer.now in
    let w = three_walks a.start a.end a.matra a.target c.list_places-at.result c.list_places-behind.result b
    c.list_places-at.new.buffer c.list_places-behind.new.buffer c.list_places.new.buffer c.requires.before
    c.requires.inside c.list_places-at.ensures.listed c.list_places-at.ensures.behind
    c.list_places-behind.ensures.listed c.list_places-behind.ensures.behind c.list_places.ensures.listed in
    list_moved a.start a.end a.matra a.target c.list_places.new.buffer.places b.glyphs c.requires.before c.requires.inside
    c.requires.in_range w.listed_are

pub returns-clause-each : goal.returns-clause-each
returns-clause-each c =
    let a = c.args in
    let b = a.buffer.now in
    let w = three_walks a.start a.end a.matra a.target c.list_places-at.result c.list_places-behind.result b
    c.list_places-at.new.buffer c.list_places-behind.new.buffer c.list_places.new.buffer c.requires.before
    c.requires.inside c.list_places-at.ensures.listed c.list_places-at.ensures.behind
    c.list_places-behind.ensures.listed c.list_places-behind.ensures.behind c.list_places.ensures.listed in
    subst (IsPermutation (places a.start a.end)) (sym w.listed_are)
    (list_each a.start a.end (length b.glyphs) a.matra a.target (placed_by_all (matra_placements a.start a.matra a.target) a.start a.end [] b.glyphs)
    c.requires.before c.requires.inside c.requires.in_range)
