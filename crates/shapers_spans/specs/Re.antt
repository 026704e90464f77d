-- Regular expressions over categories, and the lists of categories that each stands for.
use Rattle.std.specs.Prelude.{◌≡◌, ℕ, List, [], ◌∷◌, ◌++◌, ◌⊎◌}

pub data Re : Type 0 where
  none : Re
  empty : Re
  one : ℕ → Re
  seq : Re → Re → Re
  alt : Re → Re → Re
  star : Re → Re

-- any number of lists of L, one after another
pub data Many (L : List ℕ → Type 0) : List ℕ → Type 0 where
  done : (w : List ℕ) → w ≡ [] → Many L w
  more : (w u v : List ℕ) → w ≡ u ++ v → L u → Many L v → Many L w

abbrev pub IsIn : Re → List ℕ → Type 0
IsIn none w = ⊥
IsIn empty w = w ≡ []
IsIn (one k) w = w ≡ k ∷ []
IsIn (seq a b) w = (u : List ℕ) × (v : List ℕ) × (w ≡ u ++ v) × IsIn a u × IsIn b v
IsIn (alt a b) w = IsIn a w ⊎ IsIn b w
IsIn (star a) w = Many (IsIn a) w

-- what may be missing
abbrev pub opt : Re → Re
opt r = alt r empty

-- one after another
abbrev pub sequence : List Re → Re
sequence [] = empty
sequence (r ∷ []) = r
sequence (r ∷ s ∷ rs) = seq r (sequence (s ∷ rs))

-- one of them
abbrev pub any_of : List Re → Re
any_of [] = none
any_of (r ∷ []) = r
any_of (r ∷ s ∷ rs) = alt r (any_of (s ∷ rs))
