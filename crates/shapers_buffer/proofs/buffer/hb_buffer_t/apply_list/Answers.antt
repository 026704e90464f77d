use Rattle.std.proofs.Common.{◌≡◌, ◌<◌, ◌≤◌, ◌∙◌, ap, arith, drop, length, length-take-le, List, subst, sym, take, ℕ}
use Rattle.std.proofs.lemmas.List.{take_at}
use Rattle.std.specs.List.{All}
use Rattle.shapers_buffer.specs.Buffer.{Buffer}
use Rattle.shapers_buffer.specs.Clusters.{stretch_of, with_stretch}
use Rattle.shapers_buffer.specs.Places.{listed, pick, placed, without_last_zeros}
use Rattle.shapers_buffer.specs.contracts.buffer.hb_buffer_t.{the_view}
use Rattle.shapers_buffer.specs.Glyphs.{Glyphs}
use Rattle.shapers_buffer.proofs.PlaceLaws.{listed-stretch, listed_within}
use Rattle.shapers_buffer.proofs.buffer.hb_buffer_t.apply_list.Goals as goal

-- so many places are opened as the syllable has before its end
all_opened : (e : ℕ) (gs : Glyphs) (places : List ℕ) → e ≤ length gs → length (take e gs) ≤ length places
    → e ≤ length places
all_opened = search (arith, length-take-le)

pub reorder-requires-clause-within : goal.reorder-requires-clause-within
reorder-requires-clause-within c =
    let s = c.args.start in
    let e = c.args.end in
    let places = c.make_places.new.places.items in
    let n = length c.deref_mut.result.now in
    let glyphs_are : length c.deref.result.now ≡ length c.args.self.now.glyphs = ap length c.deref.ensures.value
    ∙ ap (λ (b : Buffer). length b.glyphs) c.self.view_is in
    let enough = all_opened e c.deref.result.now places (omega arith) c.make_places.ensures.opened in
    let opened : without_last_zeros places ≡ c.args.self.now.places = c.make_places.ensures.places
    ∙ ap (λ (b : Buffer). b.places) c.self.view_is in
    let same : listed s e c.args.self.now.places ≡ stretch_of s e c.deref-2.result.now = ap (listed s e) (sym opened)
    ∙ listed-stretch s e places c.requires.in_order enough
    ∙ ap (λ (ps : List ℕ). stretch_of s e ps) (sym c.deref-2.ensures.value) in
    subst (λ (ps : List ℕ). All (λ p. p < n) ps) same
    (listed_within s e n c.args.self.now.places c.requires.in_order (omega arith) c.requires.permutes)

pub returns : goal.returns
returns c =
    let s = c.args.start in
    let e = c.args.end in
    let places = c.make_places.new.places.items in
    let b = the_view c.self.inside in
    let glyphs_are : length c.deref.result.now ≡ length c.args.self.now.glyphs =
    search (arith, c.deref.ensures.value, c.self.view_is) in
    let opened = c.make_places.ensures.places in
    let read =
    ap (λ (ps : List ℕ). stretch_of s e ps) c.deref-2.ensures.value ∙ sym
    (listed-stretch s e places c.requires.in_order (all_opened e c.deref.result.now places (omega arith)
    c.make_places.ensures.opened)) ∙ ap (listed s e) opened in
    let moved = λ (ps : List ℕ) (gs : Glyphs). with_stretch s e (λ (_ : Glyphs). pick ps gs) gs in
    ap (λ (gs : Glyphs). (record b { glyphs = gs; places = without_last_zeros places }))
    (take_at c.reorder.new.glyphs (drop (length c.reorder.new.glyphs) c.self.inside.info.items)
    c.self.inside.info.len (omega arith) ∙ c.reorder.ensures ∙ ap (λ (ps : List ℕ). moved ps c.deref_mut.result.now)
    read ∙ ap (moved (listed s e b.places)) c.deref_mut.ensures.value)
    ∙ ap (λ (ps : List ℕ). (record b { glyphs = placed s e b.places b.glyphs; places = ps })) opened
    ∙ ap (λ (b : Buffer). (record b { glyphs = placed s e b.places b.glyphs })) c.self.view_is
