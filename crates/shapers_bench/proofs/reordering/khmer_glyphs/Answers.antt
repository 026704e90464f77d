use Rattle.std.proofs.Common.{ℕ, ◌<◌, All, length, subst, sym}
use Rattle.std.proofs.lemmas.List.Elements.{All-contains}
use Rattle.rustybuzz_shapers.specs.buffer.Glyph.{clusters}
use Rattle.shapers_bench.proofs.reordering.khmer_glyphs.Goals as goal

pub returns : goal.returns
returns g c k d l =
    let within : ℕ → Type 0 = λ cluster. cluster < length c.args.text.now in
    let setup = c.run_pause.new.buffer in
    let stay = c.in_ok-run_pause.ensures.laws.1 in
    All-contains within (clusters setup.glyphs) _ (subst (All within) (sym stay) c.in_ok-buffer.ensures.places)
    (c.in_ok-run_pause-2.ensures.laws.0.old_clusters k d l)
