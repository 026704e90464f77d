use Rattle.std.proofs.Common.{ℕ, ◌<◌, length}
use Rattle.std.proofs.lemmas.List.Elements.{All-contains}
use Rattle.rustybuzz_shapers.specs.Glyph.{clusters}
use Rattle.shapers_bench.proofs.calling.thai_glyphs.Goals as goal

-- src/calling.rt:14:1
pub returns : goal.returns
returns g c k d l =
    let within : ℕ → Type 0 = λ cluster. cluster < length c.args.text.now in
    let before = c.in_ok-buffer.buffer in
    All-contains within (clusters before.glyphs) _ c.in_ok-buffer.ensures.places
    (c.in_ok-preprocess_text.ensures.laws.0.made.old_clusters k d l)
