-- The bits of a table's lookups, as far as they are made.
use Rattle.std.proofs.Common.{ℕ, ◌+◌, ◌≡◌, ◌∙◌, inl, inr, List, [], ◌∷◌, ◌++◌, length, refl, arith}
use Rattle.std.proofs.lemmas.List.{get_or_append_left, get_or_at}
use Rattle.std.proofs.lemmas.Grind.{common_steps}
use Rattle.opentype_face.specs.Lookups.{lookup_in}
use Rattle.opentype_layout.specs.Starts.{AreStarts}
use Rattle.opentype_layout.proofs.BitPlaces.{before_or_at}

pub record AreListed (table : List ℕ) (starts : List (List ℕ)) (index : ℕ) : Type 0 where
  pub len : length starts ≡ index
  pub all : AreStarts table starts

pub listed_start : (table : List ℕ) → AreListed table [] 0
listed_start table = record { len = refl; all = record { each = λ index lt. absurd (omega arith) } }

pub listed_next : (table : List ℕ) (starts : List (List ℕ)) (index : ℕ) (lookup : List ℕ) → AreListed table starts index →
    lookup ≡ lookup_in table index → AreListed table (starts ++ lookup ∷ []) (index + 1)
listed_next table starts index lookup l is = record {
  len = (let e = l.len in grind (arith, common_steps));
  all = record {
    each = λ k lt. elim (before_or_at k index (let e = l.len in grind (arith, common_steps))) [
      | inl less ↦ get_or_append_left starts (lookup ∷ []) [] k (let e = l.len in omega arith)
          ∙ l.all.each k (let e = l.len in omega arith)
      | inr e ↦ rw e (get_or_at starts lookup [] [] index l.len ∙ is)
    ];
  };
}
