-- Tests of so many places, from place 0 on.
use Rattle.std.specs.Prelude.{ℕ, Bool, not, is_some, Option, None, Some, if◌then◌else◌}
use Rattle.opentype_face.specs.Firsts.{first_from}

-- something where a test holds, to be found by
abbrev pub when : Bool → Option ℕ
when b = if b then Some 0 else None

-- whether one of so many passes a test
abbrev pub some_of : ℕ → (ℕ → Bool) → Bool
some_of count test = is_some (first_from count (λ i. when (test i)) 0)

-- whether each of them does
abbrev pub all_pass : ℕ → (ℕ → Bool) → Bool
all_pass count test = not (some_of count (λ i. not (test i)))
