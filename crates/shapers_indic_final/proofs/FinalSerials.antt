-- The final reordering doesn't read the serials of syllables, in one syllable and in a text.
use Rattle.std.proofs.Common.{arith}
use Rattle.std.proofs.Common.{ℕ, ◌≡◌, List, [], ◌∷◌, map, Option, None, Some, refl}
use Rattle.std.specs.Option.{option_map}
use Rattle.std.proofs.lemmas.List.{map-append}
use Rattle.shapers_buffer.specs.Glyphs.{Glyph, Glyphs}
use Rattle.shapers_indic_final.specs.FinalLaws.{FinalReadsNoSerials, FinalTextReadsNoSerials}
use Rattle.shapers_indic_final.specs.FinalWordStart.{word_goes_on, last_or, with_init, with_inits}
use Rattle.shapers_indic_final.specs.FinalReordering.{final_order, final_steps}
use Rattle.shapers_indic_final.proofs.FinalReads.{final_steps_stay, order_stays}
use Rattle.shapers_syllabic.specs.Borders.{unnumbered}
use Rattle.shapers_syllabic.proofs.HiddenCuts.{clusters_paused-same}
use Rattle.shapers_syllabic.proofs.LawsThen.{reads_by_view}
use Rattle.shapers_syllabic.proofs.Serials.{pieces_same}
use Rattle.shapers_syllabic.proofs.Views.{unnumbered_view}

pub final_reads_no_serials : FinalReadsNoSerials
final_reads_no_serials r script =
    let v = unnumbered_view in
    reads_by_view (final_order r script) (final_steps r script) (order_stays v r (λ m. refl) script)
    (final_steps_stay v r (λ m. refl) script)

-- init goes by what stands before, not by its serial
word_stays : (o : Option Glyph) → word_goes_on (option_map unnumbered o) ≡ word_goes_on o
word_stays None = refl
word_stays (Some g) = refl

last_stays : (o : Option Glyph) (gs : Glyphs) → option_map unnumbered (last_or o gs)
    ≡ last_or (option_map unnumbered o) (map unnumbered gs)
last_stays o [] = refl
last_stays o (g ∷ gs) = last_stays (Some g) gs

init_stays : (bits : ℕ) (o : Option Glyph) (gs : Glyphs) → map unnumbered (with_init bits o gs)
    ≡ with_init bits (option_map unnumbered o) (map unnumbered gs)
init_stays bits o [] = refl
init_stays bits o (g ∷ gs) = search arith

inits_stay : (bits : ℕ) (o : Option Glyph) (ps : List Glyphs)
    → map unnumbered (with_inits bits o ps) ≡ with_inits bits (option_map unnumbered o) (map (map unnumbered) ps)
inits_stay bits o [] = refl
inits_stay bits o (p ∷ ps) = search (map-append, init_stays, last_stays, inits_stay bits (last_or o p) ps)

pub final_text_reads_no_serials : FinalTextReadsNoSerials
final_text_reads_no_serials r script gs hs same =
    let reads = final_reads_no_serials r script in
    record {
      order = search (arith, inits_stay, pieces_same);
      in_clusters = λ level. clusters_paused-same None
          (final_order r script) (final_steps r script) level gs hs reads same;
    }
