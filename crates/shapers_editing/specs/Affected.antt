-- Which spans two texts share at their ends, so that only what lies between is shaped again.
use Rattle.std.specs.Prelude.{ℕ, ◌+◌, ◌-◌, ◌≤◌, ◌≡◌, ◌==◌, nat_le, nat_lt, Bool, true, ◌&&◌, List, [], ◌∷◌, ◌++◌, length, reverse, if◌then◌else◌}
use Rattle.std.specs.List.{list_all, sum_by}
use Rattle.shapers_buffer.specs.declared.buffer.syllables.Span.{Span}

-- whether two spans are the same
abbrev pub is_same : Span → Span → Bool
is_same s t = s.len == t.len && s.kind == t.kind

-- the spans at the front of two lists that are the same in both and cover at most n glyphs
abbrev pub shared : ℕ → List Span → List Span → List Span
shared n [] ts = []
shared n (s ∷ ss) [] = []
shared n (s ∷ ss) (t ∷ ts) =
    if is_same s t && nat_le s.len n then s ∷ shared (n - s.len) ss ts else []

-- how many glyphs they cover
abbrev pub glyphs_in : List Span → ℕ
glyphs_in spans = sum_by (λ span. span.len) spans

-- the list, or the list from its end
abbrev pub from_either_end : {X : Type 0} → Bool → List X → List X
from_either_end from_end xs = if from_end then reverse xs else xs

-- They open both lists and cover at most n glyphs, and no other spans that do are more.
pub record IsShared (n : ℕ) (ss ts own : List Span) : Type 0 where
  pub first : (us : List Span) × (ss ≡ own ++ us)
  pub second : (us : List Span) × (ts ≡ own ++ us)
  pub few : glyphs_in own ≤ n
  pub most : (other us vs : List Span) → ss ≡ other ++ us → ts ≡ other ++ vs →
      glyphs_in other ≤ n → length other ≤ length own

abbrev pub SharedIsMost : Type 0
SharedIsMost = (n : ℕ) (ss ts : List Span) → IsShared n ss ts (shared n ss ts)

-- those at the ends of the lists
abbrev pub shared_back : ℕ → List Span → List Span → List Span
shared_back n ss ts = reverse (shared n (reverse ss) (reverse ts))

-- Where no span is empty, and both lists cover the glyphs in front of an edit and behind it, the
-- spans that they share at either end are apart: each list is those in front, its own, and those
-- behind.
abbrev pub SharedAreApart : Type 0
SharedAreApart = (front back : ℕ) (old new : List Span) →
    list_all (λ span. nat_lt 0 span.len) old ≡ true →
    list_all (λ span. nat_lt 0 span.len) new ≡ true →
    front + back ≤ glyphs_in old → front + back ≤ glyphs_in new →
    (us : List Span) × ((vs : List Span)
    × ((old ≡ shared front old new ++ (us ++ shared_back back old new))
    × (new ≡ shared front old new ++ (vs ++ shared_back back old new))))
