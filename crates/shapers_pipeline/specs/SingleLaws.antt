-- Single substitutions keep what a lookup is to keep: they change no cluster, and add no glyph.
use Rattle.std.proofs.Common.{◌≡◌, ◌∙◌, ◌==◌, true, false, List, [], ◌∷◌, refl, sym, ap, subst}
use Rattle.std.specs.Prelude.{bit_and, find, length, map, Option, None, Some, if◌then◌else◌}
use Rattle.std.specs.List.{All, Contains}
use Rattle.std.specs.Option.{option_map_or}
use Rattle.std.proofs.Math.Nat.{le_of_eq, le_refl, mul-one}
use Rattle.std.proofs.lemmas.List.{length-map}
use Rattle.std.proofs.lemmas.List.Elements.{All-contains_itself}
use Rattle.shapers_buffer.specs.Buffer.{Buffer}
use Rattle.shapers_buffer.specs.Glyph.{clusters}
use Rattle.shapers_buffer.specs.Glyphs.{Glyph, Glyphs}
use Rattle.shapers_clusters.specs.Cuts.{IsMonotone}
use Rattle.shapers_plan.specs.declared.ot_map.lookups.StageLookup.{StageLookup}
use Rattle.shapers_pipeline.specs.Lookups.{LookupGrows, LookupKeeps}
use Rattle.shapers_pipeline.specs.Singles.{is_single_for, single_applied, singles_applied, with_single}
use Rattle.shapers_pipeline.specs.declared.singles.Single.{Single}

found_cluster : (g : Glyph) (o : Option Single) →
    (option_map_or (with_single g) o g).cluster ≡ g.cluster
found_cluster g None = refl
found_cluster g (Some s) = refl

single_cluster : (singles : List Single) (lookup : StageLookup) (g : Glyph) →
    (single_applied singles lookup g).cluster ≡ g.cluster
single_cluster singles lookup g =
    let found = option_map_or (with_single g) (find (is_single_for lookup g) singles) g in
    elim (bit_and g.mask lookup.mask == 0) as (λ test.
    (if test then g else found).cluster ≡ g.cluster) [
      | true ↦ refl
      | false ↦ found_cluster g (find (is_single_for lookup g) singles)
    ]

all_clusters : (singles : List Single) (lookup : StageLookup) (gs : Glyphs) →
    clusters (map (single_applied singles lookup) gs) ≡ clusters gs
all_clusters singles lookup [] = refl
all_clusters singles lookup (g ∷ gs) =
    let rest = clusters (map (single_applied singles lookup) gs) in
    ap (λ k. k ∷ rest) (single_cluster singles lookup g)
    ∙ ap (λ ks. g.cluster ∷ ks) (all_clusters singles lookup gs)

pub singles_keep : (singles : List Single) (lookup : StageLookup) (b : Buffer) →
    LookupKeeps b (singles_applied singles lookup b)
singles_keep singles lookup b =
    let same = sym (all_clusters singles lookup b.glyphs) in
    let old = clusters b.glyphs in
    record {
      others = refl;
      old_clusters = subst (λ cs. All (Contains old) cs) same (All-contains_itself old);
      monotone = λ merging rises. subst IsMonotone same rises;
    }

pub singles_grow : (singles : List Single) (lookup : StageLookup) (b : Buffer) →
    LookupGrows 1 b (singles_applied singles lookup b)
singles_grow singles lookup b = record {
  one = le_refl 1;
  few = le_of_eq (length-map b.glyphs (single_applied singles lookup)
      ∙ sym (mul-one (length b.glyphs)));
}
