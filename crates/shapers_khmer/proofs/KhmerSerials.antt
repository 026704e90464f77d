-- The order of a syllable doesn't read the serial of its byte.
use Rattle.std.proofs.Common.{ℕ, ◌≡◌, List, [], ◌∷◌, map, length, refl, arith}
use Rattle.std.proofs.lemmas.List.{length-map, take-map, drop-map, map-append}
use Rattle.shapers_buffer.specs.Glyphs.{Glyphs}
use Rattle.shapers_clusters.proofs.Picks.{pick-map}
use Rattle.shapers_khmer.specs.declared.ot_shaper_khmer.reordering.KhmerOrder.{KhmerOrder}
use Rattle.shapers_khmer.specs.Khmer.{Move, Pair, Vowel, khmer_masked, khmer_moves, khmer_order, khmer_places, khmer_step, masked, masked_all, masked_for, moved, categories_of, with_mask}
use Rattle.shapers_khmer.specs.KhmerLaws.{KhmerReadsNoSerials}
use Rattle.shapers_syllabic.specs.Borders.{unnumbered}

-- without serials, the categories and the length stay
categories_stay : (gs : Glyphs) → categories_of (map unnumbered gs) ≡ categories_of gs
categories_stay [] = refl
categories_stay (g ∷ gs) = cc (categories_stay gs)

length_stays : (gs : Glyphs) → length (map unnumbered gs) ≡ length gs
length_stays gs = length-map gs unnumbered

moves_stay : (gs : Glyphs) → khmer_moves (map unnumbered gs) ≡ khmer_moves gs
moves_stay = search (arith, categories_stay)

-- masks go by places, so they commute
mask_all : (m : ℕ) (gs : Glyphs) → map unnumbered (map (with_mask m) gs) ≡ map (with_mask m) (map unnumbered gs)
mask_all m [] = refl
mask_all m (g ∷ gs) = cc (mask_all m gs)

masked_stays : (m s e : ℕ) (gs : Glyphs) → map unnumbered (masked m s e gs) ≡ masked m s e (map unnumbered gs)
masked_stays = search (arith, map-append, take-map, mask_all, drop-map)

masked_for_stays : (r : KhmerOrder) (move : Move) (order : List ℕ) (gs : Glyphs)
    → map unnumbered (masked_for r move order gs) ≡ masked_for r move order (map unnumbered gs)
masked_for_stays r (Vowel over) order gs = refl
masked_for_stays r (Pair over) order gs = search (arith, masked_stays, length_stays)

masked_all_stays : (r : KhmerOrder) (moves : List Move) (order : List ℕ) (gs : Glyphs)
    → map unnumbered (masked_all r moves order gs) ≡ masked_all r moves order (map unnumbered gs)
masked_all_stays r [] order gs = refl
masked_all_stays r (move ∷ moves) order gs =
    search (arith, masked_for_stays, masked_all_stays r moves (moved move order) (masked_for r move order gs))

khmer_masked_stays : (r : KhmerOrder) (gs : Glyphs) → map unnumbered (khmer_masked r gs)
    ≡ khmer_masked r (map unnumbered gs)
khmer_masked_stays = search (arith, masked_all_stays, masked_stays, moves_stay, length_stays)

order_stays : (r : KhmerOrder) (gs : Glyphs) → map unnumbered (khmer_order r gs) ≡ khmer_order r (map unnumbered gs)
order_stays r gs = search (
  arith,
  refl,
  pick-map unnumbered (khmer_places gs) (khmer_masked r gs),
  khmer_masked_stays r gs,
  moves_stay,
  length_stays,
)

step_stays : (gs : Glyphs) → khmer_step (map unnumbered gs) ≡ khmer_step gs
step_stays = search (arith, refl, moves_stay, length_stays)

pub khmer_reads_no_serials : KhmerReadsNoSerials
khmer_reads_no_serials r = record {
  meant = λ gs hs same. cc (order_stays r gs, order_stays r hs);
  led = λ gs hs same. cc (step_stays gs, step_stays hs);
}
