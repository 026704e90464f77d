-- The laws of a reordering that is one and then another, that is done where a test passes, or that has one step.
use Rattle.std.proofs.Common.{arith}
use Rattle.std.proofs.Common.{◌<◌, ◌≡◌, Bool, true, false, if◌then◌else◌, List, [], ◌∷◌, ◌++◌, map, length, sym, subst}
use Rattle.std.specs.List.{AllByRecursion}
use Rattle.std.proofs.lemmas.List.{length-map}
use Rattle.shapers_buffer.specs.Glyphs.{Glyphs}
use Rattle.shapers_buffer.specs.Glyph.{plain}
use Rattle.shapers_buffer.specs.Places.{pick}
use Rattle.shapers_buffer.proofs.MappedLists.{all-append}
use Rattle.shapers_clusters.specs.Flags.{seen}
use Rattle.shapers_clusters.specs.Steps.{FitSteps, FitsStep, Permutes, Step, old_places}
use Rattle.shapers_clusters.proofs.Moves.{old_places_then, within-old_places}
use Rattle.shapers_clusters.proofs.Picks.{pick-all, pick-pick}
use Rattle.shapers_syllabic.specs.Borders.{unnumbered}
use Rattle.shapers_syllabic.specs.Reordering.{carried}
use Rattle.shapers_syllabic.specs.ReorderingLaws.{ReadsNoSerials, ReorderLaws}
use Rattle.shapers_syllabic.proofs.ReorderingLemmas.{agrees_by_places}
use Rattle.shapers_syllabic.proofs.ReorderingWalk.{length-meaning}

-- one reordering, and then another
pub laws_then : (first next : Glyphs → Glyphs) (steps steps_then : Glyphs → List Step) → ReorderLaws first steps
    → ReorderLaws next steps_then → ReorderLaws (λ gs. next (first gs)) (λ gs. steps gs ++ steps_then (first gs))
laws_then first next steps steps_then one two =
    let k = length-meaning first steps one in
    record {
      fits = search (arith, all-append);
      permutes = search (arith, all-append);
      agrees = λ gs.
          let mid = first gs in
          let olds = old_places (length gs) (steps gs) in
          cc (
            two.agrees mid,
            k gs,
            one.agrees gs,
            pick-pick (old_places (length gs) (steps_then mid)) olds (seen carried gs)
                (subst (λ n. AllByRecursion (λ p. p < n) olds) (sym (length-map gs (λ g. plain (carried g))))
                (within-old_places (length gs) (steps gs))),
            old_places_then (length gs) (steps gs) (steps_then mid) (one.fits gs),
          );
    }

-- a reordering that is done where a test passes
pub laws_where : (test : Glyphs → Bool) (meaning : Glyphs → Glyphs)
    (steps : Glyphs → List Step) → ReorderLaws meaning steps
    → ReorderLaws (λ gs. if test gs then meaning gs else gs) (λ gs. if test gs then steps gs else [])
laws_where test meaning steps laws = record {
  fits = λ gs. elim (test gs) as (λ b. FitSteps (length gs) (if b then steps gs else []))
      [ true ↦ laws.fits gs | false ↦ tt ];
  permutes = λ gs. elim (test gs) as (λ b. AllByRecursion (Permutes (length gs)) (if b then steps gs else []))
      [ true ↦ laws.permutes gs | false ↦ tt ];
  agrees = search (arith, pick-all, length-map);
}

-- a reordering of one step
pub laws_by_step : (meaning : Glyphs → Glyphs) (step : Glyphs → Step)
    → ((gs : Glyphs) → FitsStep (length gs) (step gs)) → ((gs : Glyphs) → Permutes (length gs) (step gs))
    → ((gs : Glyphs) → seen carried (meaning gs) ≡ pick (step gs).places (seen carried gs))
    → ReorderLaws meaning (λ gs. step gs ∷ [])
laws_by_step = search agrees_by_places

-- that no serial is read, of one and then another, and where a test passes
pub reads_then : (first next : Glyphs → Glyphs) (steps steps_then : Glyphs
    → List Step) → ReadsNoSerials first steps → ReadsNoSerials next steps_then
    → ReadsNoSerials (λ gs. next (first gs)) (λ gs. steps gs ++ steps_then (first gs))
reads_then first next steps steps_then one two = search arith

pub reads_where : (test : Glyphs → Bool) (meaning : Glyphs → Glyphs) (steps : Glyphs → List Step)
    → ((gs hs : Glyphs) → map unnumbered gs ≡ map unnumbered hs → test gs ≡ test hs) → ReadsNoSerials meaning steps
    → ReadsNoSerials (λ gs. if test gs then meaning gs else gs) (λ gs. if test gs then steps gs else [])
reads_where test meaning steps tests reads = search arith

-- that no serial is read, where nothing changes without serials
pub reads_by_view : (meaning : Glyphs → Glyphs) (steps : Glyphs → List Step)
    → ((gs : Glyphs) → map unnumbered (meaning gs) ≡ meaning (map unnumbered gs))
    → ((gs : Glyphs) → steps (map unnumbered gs) ≡ steps gs) → ReadsNoSerials meaning steps
reads_by_view = search arith
