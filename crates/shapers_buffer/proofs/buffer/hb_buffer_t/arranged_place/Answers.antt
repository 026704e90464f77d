-- The list as the buffer keeps it says the same.
use Rattle.std.proofs.Common.{◌≡◌, ◌<◌, length, sym, ap, subst, ◌∙◌, arith}
use Rattle.shapers_buffer.specs.Buffer.{Buffer}
use Rattle.shapers_buffer.specs.Places.{without_last_zeros}
use Rattle.shapers_buffer.proofs.Arranging.{all_raw, all_within, each_raw}
use Rattle.shapers_buffer.proofs.buffer.hb_buffer_t.arranged_place.Goals as goal

pub old_place_by_all-requires-clause-first : goal.old_place_by_all-requires-clause-first
old_place_by_all-requires-clause-first c =
    let a = c.args in
    let raw : a.self.now.places ≡ without_last_zeros c.deref.result.now =
    sym (ap without_last_zeros c.deref.ensures.value ∙ ap (λ (b : Buffer). b.places) c.self.view_is) in
    each_raw a.placements.now.first a.start a.end a.self.now.places c.deref.result.now raw c.requires.arranges.first

pub old_place_by_all-requires-clause-second : goal.old_place_by_all-requires-clause-second
old_place_by_all-requires-clause-second c =
    let a = c.args in
    let raw : a.self.now.places ≡ without_last_zeros c.deref.result.now =
    sym (ap without_last_zeros c.deref.ensures.value ∙ ap (λ (b : Buffer). b.places) c.self.view_is) in
    each_raw a.placements.now.second a.start a.end a.self.now.places c.deref.result.now raw c.requires.arranges.second

pub old_place_by_all-requires-clause-third : goal.old_place_by_all-requires-clause-third
old_place_by_all-requires-clause-third c =
    let a = c.args in
    let raw : a.self.now.places ≡ without_last_zeros c.deref.result.now =
    sym (ap without_last_zeros c.deref.ensures.value ∙ ap (λ (b : Buffer). b.places) c.self.view_is) in
    each_raw a.placements.now.third a.start a.end a.self.now.places c.deref.result.now raw c.requires.arranges.third

pub returns-clause-place : goal.returns-clause-place
returns-clause-place c =
    let a = c.args in
    let raw : a.self.now.places ≡ without_last_zeros c.deref.result.now =
    sym (ap without_last_zeros c.deref.ensures.value ∙ ap (λ (b : Buffer). b.places) c.self.view_is) in
    c.old_place_by_all.ensures
    ∙ sym (all_raw a.placements.now a.start a.end a.self.now.places c.deref.result.now a.index raw)

pub returns-clause-within : goal.returns-clause-within
returns-clause-within c =
    let a = c.args in
    let raw : a.self.now.places ≡ without_last_zeros c.deref.result.now =
    sym (ap without_last_zeros c.deref.ensures.value ∙ ap (λ (b : Buffer). b.places) c.self.view_is) in
    subst (λ q. q < length a.self.now.glyphs) (all_raw a.placements.now a.start a.end a.self.now.places
    c.deref.result.now a.index raw ∙ sym c.old_place_by_all.ensures)
    (all_within a.placements.now a.start a.end (length a.self.now.glyphs) a.self.now.places a.index c.requires.arranges
    c.requires.inside)

pub returns-clause-fits : goal.returns-clause-fits
returns-clause-fits c =
    let within = returns-clause-within c in
    let fits = c.self.invariant.fits in
    let n : length c.self.inside.info.items ≡ length c.args.self.now.glyphs =
    ap (λ (b : Buffer). length b.glyphs) c.self.view_is in
    omega arith
