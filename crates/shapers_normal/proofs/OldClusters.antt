-- Each cluster is one that the text had.
use Rattle.std.proofs.Common.{ℕ, Bool, true, false, cond}
use Rattle.std.specs.List.{Contains}
use Rattle.std.proofs.lemmas.List.Elements.{All-contains_itself}
use Rattle.shapers_buffer.specs.Glyphs.{Glyphs}
use Rattle.shapers_buffer.specs.declared.buffer.level.BufferClusterLevel.{BufferClusterLevel}
use Rattle.shapers_buffer.specs.Glyph.{clusters}
use Rattle.shapers_clusters.proofs.Halves.{Each}
use Rattle.shapers_normal.specs.Context.{Context}
use Rattle.shapers_normal.specs.Decomposition.{first_round}
use Rattle.shapers_normal.specs.Laws.{MakesNoCluster, OrdersAlone}
use Rattle.shapers_normal.specs.Normalization.{composes, has_rounds, joiners_shown, later_rounds}
use Rattle.shapers_normal.specs.Recomposition.{recomposed}
use Rattle.shapers_normal.specs.Sorting.{marks_ordered}
use Rattle.shapers_normal.proofs.Beside.{all_of, each_of}
use Rattle.shapers_normal.proofs.Halves.{each-shown}
use Rattle.shapers_normal.proofs.RecompositionHalves.{each-recomposed}
use Rattle.shapers_normal.proofs.SortingHalves.{each-ordered}
use Rattle.shapers_normal.proofs.VariantHalves.{each-first_round}

by_mode : (P : ℕ → Type 0) (context : Context) (level : BufferClusterLevel) (composing : Bool)
    (gs : Glyphs) → Each P gs → Each P (cond composing (recomposed context level gs) gs)
by_mode P context level true gs p = each-recomposed P context level gs p
by_mode P context level false gs p = p

each-later : (P : ℕ → Type 0) (context : Context) → OrdersAlone context
    → (level : BufferClusterLevel) (runs : Bool) (gs : Glyphs) → Each P gs
    → Each P (later_rounds context runs level gs)
each-later P context o level true gs p =
    by_mode P context level (composes context.mode) (joiners_shown (marks_ordered context level gs))
    (each-shown P (marks_ordered context level gs) (each-ordered P context o level gs p))
each-later P context o level false gs p = each-shown P gs p

pub makes_no_cluster : MakesNoCluster
makes_no_cluster context rounds level gs o =
    let P : ℕ → Type 0 = Contains (clusters gs) in
    let runs = has_rounds rounds gs in
    let text = first_round context level gs in
    all_of P (later_rounds context runs level text)
    (each-later P context o level runs text
    (each-first_round P context level gs (each_of P gs (All-contains_itself (clusters gs)))))
