use Rattle.std.proofs.Common.{◌≡◌, ℕ, List, [], ◌∷◌, rules, subst, true}
use Rattle.std.specs.List.{list_all}
use Rattle.shapers_buffer.specs.Glyphs.{Glyphs}
use Rattle.shapers_spans.specs.Cuts.{AreSpansOf}
use Rattle.shapers_spans.specs.Khmer.{khmer_grammar}
use Rattle.shapers_bench.specs.BorderedWords.{is_whole_syllable, opens_grapheme}
use Rattle.shapers_bench.proofs.BorderedWords.{word-borders}
use Rattle.shapers_bench.proofs.syllables.khmer_borders.Goals as goal

pub returns : goal.returns
returns g c =
    let gs = c.in_ok-buffer.buffer.glyphs in
    let spans = c.in_ok-spans.spans.items in
    let opening : List ℕ = 1 ∷ 2 ∷ 10 ∷ 11 ∷ 15 ∷ [] in
    let whole : list_all is_whole_syllable spans ≡ true = search rules in
    let begin : list_all (opens_grapheme opening) gs ≡ true = search rules in
    word-borders c.graphemes_law.ensures.exact c.found_borders_law.ensures.part opening c.found_borders_law.ensures.khmer
    (g.T.UnicodeProperties.properties c.args.tables.now) (g.T.Tables.tables c.args.tables.now) c.args.word.now gs spans
    c.in_ok-buffer.ensures (subst (λ (hs : Glyphs). AreSpansOf khmer_grammar hs spans) c.glyphs.ensures c.in_ok-spans.ensures.spans)
    whole begin
