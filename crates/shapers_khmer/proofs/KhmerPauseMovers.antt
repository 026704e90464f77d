-- The pause by what each syllable becomes, and a regular one by its movers.
use Rattle.std.proofs.Common.{arith}
use Rattle.std.proofs.Common.{◌≡◌, inl, inr, ◌∷◌, ◌∙◌, List, [], map, refl, ap}
use Rattle.std.specs.Prelude.{Option}
use Rattle.std.specs.List.{flat_map}
use Rattle.std.proofs.lemmas.Bool.{cases_Bool}
use Rattle.shapers_buffer.specs.Glyphs.{Glyphs}
use Rattle.shapers_buffer.specs.Buffer.{Buffer}
use Rattle.shapers_buffer.specs.Glyph.{order_view}
use Rattle.shapers_buffer.specs.Syllables.{syllables}
use Rattle.shapers_clusters.specs.Steps.{Step}
use Rattle.shapers_syllabic.specs.Circles.{circled}
use Rattle.shapers_syllabic.specs.Reordering.{PauseReordered}
use Rattle.shapers_syllabic.specs.declared.ot_shaper_syllabic.circles.DottedCircles.{DottedCircles}
use Rattle.shapers_khmer.specs.declared.ot_shaper_khmer.reordering.KhmerOrder.{KhmerOrder}
use Rattle.shapers_khmer.specs.Khmer.{categories_of, is_reordered_in_khmer, khmer_order, khmer_places, khmer_steps}
use Rattle.shapers_khmer.specs.KhmerMovers.{is_regular, merges_by_movers, ordered_by_movers, steps_by_movers}
use Rattle.shapers_khmer.proofs.KhmerByMovers.{by_movers_law}
use Rattle.shapers_khmer.proofs.KhmerMovers.{khmer_order_by_movers}
use Rattle.shapers_khmer.proofs.KhmerMoverMerges.{khmer_merges_by_movers}

flat_map_same : {X Y : Type 0} (f g : X → List Y) → ((x : X) → f x ≡ g x) → (xs : List X)
    → flat_map f xs ≡ flat_map g xs
flat_map_same f g same [] = refl
flat_map_same f g same (x ∷ xs) = search arith

map_same : {X Y : Type 0} (f g : X → Y) → ((x : X) → f x ≡ g x) → (xs : List X) → map f xs ≡ map g xs
map_same f g same [] = refl
map_same f g same (x ∷ xs) = search arith

order_same : (r : KhmerOrder) (gs : Glyphs) → khmer_order r gs ≡ ordered_by_movers r gs
order_same r gs = elim (cases_Bool (is_regular (categories_of gs))) [
  | inl on ↦ search (arith, by_movers_law r gs on, refl)
  | inr off ↦ rw off refl
]

step_same : (gs : Glyphs) → khmer_steps gs ≡ steps_by_movers gs
step_same gs = elim (cases_Bool (is_regular (categories_of gs))) [
  | inl on ↦ elim (cases_Bool (is_reordered_in_khmer gs)) [
    | inl kind ↦
        rw (on, kind) (ap (λ sts. (record { merged_first = sts; places = khmer_places gs; merged_then = [] }) ∷ [])
        (khmer_merges_by_movers gs on) ∙ ap
        (λ ps. let step : Step = record {
          merged_first = merges_by_movers (categories_of gs);
          places = ps;
          merged_then = [];
        } in step ∷ []) (khmer_order_by_movers gs on))
    | inr other ↦ rw (on, other) refl
  ]
  | inr off ↦ rw off refl
]

pub pause_by_movers : (r : KhmerOrder) (circles : Option DottedCircles) (old new : Buffer)
    → PauseReordered circles (khmer_order r) khmer_steps old new
    → PauseReordered circles (ordered_by_movers r) steps_by_movers old new
pause_by_movers r circles old new p =
    let pieces = syllables (order_view (circled circles old.glyphs)) in
    record {
      others = p.others;
      order = p.order ∙ flat_map_same (khmer_order r) (ordered_by_movers r) (order_same r) pieces;
      moved = search (arith, map_same, step_same);
    }
