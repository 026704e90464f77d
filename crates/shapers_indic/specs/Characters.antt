-- Indic: the characters that compose and decompose otherwise than by the tables.
use Rattle.std.specs.Prelude.{ℕ, ◌==◌, Bool, ◌&&◌, not, List, [], ◌∷◌, Option, None, Some, if◌then◌else◌}
use Rattle.std.specs.List.{list_any}
use Rattle.shapers_base.specs.Font.{CharacterTables}
use Rattle.shapers_buffer.specs.Category.{is_mark}
use Rattle.shapers_syllabic.specs.Characters.{composed_behind}

-- whether two characters are Bengali YA and the nukta, whose YYA (09DF) Unicode excludes
abbrev pub is_ya_nukta : ℕ → ℕ → Bool
is_ya_nukta a b = a == 0x09AF && b == 0x09BC

-- the composition: for YA and nukta YYA, else the table's; a mark composes with nothing behind it
abbrev pub composed_in_indic : CharacterTables → ℕ → ℕ → Option ℕ
composed_in_indic t a b =
    if not (is_mark (t.general a)) && is_ya_nukta a b then Some 0x09DF else composed_behind t a b

-- the letters that fonts know whole: Devanagari RRA, Bengali RRA and RHA, Tamil AU
abbrev pub whole_letters : List ℕ
whole_letters = 0x0931 ∷ 0x09DC ∷ 0x09DD ∷ 0x0B94 ∷ []

-- the decomposition: the table's, but for these letters
abbrev pub decomposed_in_indic : CharacterTables → ℕ → Option (ℕ × ℕ)
decomposed_in_indic t ab = if list_any (λ c. c == ab) whole_letters then None else t.decomposed ab
