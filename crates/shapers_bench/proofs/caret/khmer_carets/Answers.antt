use Rattle.std.proofs.Common.{◌≡◌, ◌*◌, ◌<◌, ◌≤◌, ℕ, List, All, length, ap, arith, subst, sym, ◌∙◌}
use Rattle.std.specs.Prelude.{Bool, Err, Result}
use Rattle.std.specs.Result.{IsErrAnd}
use Rattle.std.proofs.lemmas.Result.{err_from_is_err_and}
use Rattle.std.proofs.lemmas.List.{length-map}
use Rattle.std.proofs.lemmas.List.Elements.{All-contains}
use Rattle.shapers_base.specs.declared.plan.pause.Pause.TheVariants.{ReorderKhmer, SetupSyllablesKhmer}
use Rattle.shapers_buffer.specs.Glyphs.{Glyph, Glyphs}
use Rattle.shapers_buffer.specs.declared.buffer.level.Direction.TheVariants.{LeftToRight}
use Rattle.shapers_buffer.specs.declared.buffer.refusal.ShaperError.{ShaperError}
use Rattle.shapers_buffer.specs.declared.buffer.refusal.ShaperError.TheVariants.{TooLong}
use Rattle.shapers_buffer.specs.Buffer.{Buffer}
use Rattle.rustybuzz_shapers.specs.Glyph.{clusters}
use Rattle.shapers_editing.specs.Carets.{IsCaretMap, caret_stops}
use Rattle.shapers_bench.proofs.caret.khmer_carets.Goals as goal

-- what `?` hands on
passed_on : {T : Type 0} (r : Result T ShaperError) (x : ShaperError) → IsErrAnd r (λ y. y ≡ x) → r ≡ Err TooLong → x
    ≡ TooLong
passed_on r x told e =
    let (y, is, own) = err_from_is_err_and r told in
    let one : y ≡ TooLong = cc in
    sym own ∙ one

-- the word has room for its glyphs
pub returns-in_err-run_pause-clause-room : goal.returns-in_err-run_pause-clause-room
returns-in_err-run_pause-clause-room g c e =
    let before = c.in_ok-buffer.buffer in
    let fits : length before.glyphs * 1 ≤ before.max_len =
    omega (
      arith,
      c.in_ok-buffer.ensures.filled,
      c.in_ok-buffer.ensures.limit,
      c.length_bound.ensures.bound,
      c.requires.short,
    ) in
    let x = c.in_err-run_pause.field-0.0 in
    let room = c.length_bound.ensures.pauses SetupSyllablesKhmer (g.F.hb_font_t.font c.args.face.now) c.args.spans.now
    before (Err x) fits c.in_err-run_pause.ensures.refusal in
    let same = passed_on c.from_residual-in_err-run_pause.result x c.from_residual-in_err-run_pause.ensures.1 e in
    room (ap (λ (y : ShaperError). let r : Result Bool ShaperError = Err y in r) same)

-- the word set up has as many glyphs, and room for twice as many
pub returns-in_err-run_pause-2-clause-room : goal.returns-in_err-run_pause-2-clause-room
returns-in_err-run_pause-2-clause-room g c e =
    let setup = c.run_pause.new.buffer in
    let before = c.in_ok-buffer.buffer in
    let stay = c.in_ok-run_pause.ensures.laws.1 in
    let cluster = λ (h : Glyph). h.cluster in
    let long : length setup.glyphs ≡ length before.glyphs =
    omega (arith, ap length stay, length-map setup.glyphs cluster, length-map before.glyphs cluster) in
    let limit : setup.max_len ≡ before.max_len = ap (λ (b : Buffer). b.max_len) c.in_ok-run_pause.ensures.ok in
    let fits : length setup.glyphs * 2 ≤ setup.max_len =
    omega (
      arith,
      long,
      limit,
      c.in_ok-buffer.ensures.filled,
      c.in_ok-buffer.ensures.limit,
      c.length_bound.ensures.bound,
      c.requires.short,
    ) in
    let x = c.in_err-run_pause-2.field-0.0 in
    let room = c.length_bound.ensures.pauses ReorderKhmer (g.F.hb_font_t.font c.args.face.now) c.args.spans.now setup
    (Err x) fits c.in_err-run_pause-2.ensures.refusal in
    let same = passed_on c.from_residual-in_err-run_pause-2.result x c.from_residual-in_err-run_pause-2.ensures.1 e in
    room (ap (λ (y : ShaperError). let r : Result Bool ShaperError = Err y in r) same)

stops-mapped : (n : ℕ) (gs read : Glyphs) (stops : List ℕ) → stops ≡ caret_stops LeftToRight read
    → read ≡ gs
    → IsCaretMap n (clusters gs) (caret_stops LeftToRight gs) → IsCaretMap n (clusters gs) stops
stops-mapped n gs read stops a b map = subst (λ (ss : List ℕ). IsCaretMap n (clusters gs) ss)
    (sym (a ∙ ap (caret_stops LeftToRight) b)) map

-- each cluster is the place of a character, so the stops map the word
pub returns-clause-map : goal.returns-clause-map
returns-clause-map g c =
    let n = length c.args.word.now in
    let within : ℕ → Type 0 = λ d. d < n in
    let setup = c.run_pause.new.buffer in
    let final = c.run_pause-2.new.buffer in
    let stay = c.in_ok-run_pause.ensures.laws.1 in
    let each : All within (clusters final.glyphs) = λ k d l. All-contains within (clusters setup.glyphs) _
    (subst (All within) (sym stay) c.in_ok-buffer.ensures.places)
    (c.in_ok-run_pause-2.ensures.laws.0.old_clusters k d l) in
    let map = c.caret_law.ensures.map LeftToRight final.glyphs n each in (
      clusters final.glyphs,
      (
        each,
        stops-mapped n final.glyphs c.glyphs.result.now c.caret_stops.new.stops.items
            c.in_ok-caret_stops.ensures.stops c.glyphs.ensures map,
      ),
    )
