-- What single substitutions keep of each glyph: so they give no syllable another repha or kind.
use Rattle.std.proofs.Common.{◌≡◌, ◌∙◌, ◌==◌, ◌||◌, ℕ, Bool, true, false, not, nat_lt, bit_and, List, [], ◌∷◌, map, refl, sym, ap, Option, None, Some}
use Rattle.std.specs.Prelude.{find, if◌then◌else◌}
use Rattle.std.specs.List.{AllZip}
use Rattle.std.specs.Option.{option_map_or}
use Rattle.shapers_base.specs.Masks.{has_bits}
use Rattle.shapers_buffer.specs.Glyphs.{Glyph, Glyphs}
use Rattle.shapers_buffer.specs.Syllables.{kind_of}
use Rattle.shapers_found_laws.specs.AddsNone.{LookupsAddNone, is_in_category, is_unknown}
use Rattle.shapers_found_laws.specs.FoundUniversal.{may_be_repha}
use Rattle.shapers_found_laws.proofs.AddedNone.{zip-adds-none}
use Rattle.shapers_pipeline.specs.Singles.{is_single_for, single_applied, singles_applied, with_single}
use Rattle.shapers_pipeline.specs.declared.singles.Single.{Single}
use Rattle.shapers_plan.specs.declared.ot_map.lookups.StageLookup.{StageLookup}

-- a glyph in its syllable, with the category and the mask that it had
pub record Stays (old new : Glyph) : Type 0 where
  pub byte : new.syllable ≡ old.syllable
  pub category : new.category ≡ old.category
  pub mask : new.mask ≡ old.mask

single-stays : (singles : List Single) (lookup : StageLookup) (g : Glyph) → Stays g (single_applied singles lookup g)
single-stays singles lookup g =
    elim (bit_and g.mask lookup.mask == 0) as
    (λ test. Stays g (if test then g else put (find (is_single_for lookup g) singles))) [
      | true ↦ record { byte = refl; category = refl; mask = refl }
      | false ↦ putting (find (is_single_for lookup g) singles)
    ]
  where
    put : Option Single → Glyph
    put found = option_map_or (with_single g) found g

    putting : (found : Option Single) → Stays g (put found)
    putting None = record { byte = refl; category = refl; mask = refl }
    putting (Some s) = record { byte = refl; category = refl; mask = refl }

each-stays : (singles : List Single) (lookup : StageLookup) (gs : Glyphs)
    → AllZip Stays gs (map (single_applied singles lookup) gs)
each-stays singles lookup [] = tt
each-stays singles lookup (g ∷ gs) = (single-stays singles lookup g, each-stays singles lookup gs)

-- a test that sees no more than that
abbrev pub SeesStaying : (Glyph → Bool) → Type 0
SeesStaying test = (g h : Glyph) → Stays g h → test h ≡ test g

pub singles-add-none : (test : Glyph → Bool) → SeesStaying test → (singles : List Single) (list : List StageLookup)
    → LookupsAddNone test (singles_applied singles) list
singles-add-none test sees singles [] = tt
singles-add-none test sees singles (x ∷ xs) = (
  (λ b. zip-adds-none test Stays (λ g h s. s.byte) (λ g h s is. sym (sees g h s) ∙ is) b.glyphs
      (map (single_applied singles x) b.glyphs) (each-stays singles x b.glyphs)),
  singles-add-none test sees singles xs,
)

pub sees-category : (k : ℕ) → SeesStaying (is_in_category k)
sees-category k g h s = ap (λ n. n == k) s.category

pub sees-kind : (last : ℕ) → SeesStaying (is_unknown last)
sees-kind last g h s = ap (λ n. nat_lt last (kind_of n)) s.byte

pub sees-repha : (mask : ℕ) → SeesStaying (may_be_repha mask)
sees-repha mask g h s =
    ap (λ n. (n == 18) || has_bits mask h) s.category
    ∙ ap (λ n. (g.category == 18) || not (bit_and n mask == 0)) s.mask
