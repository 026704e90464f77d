-- Borders and their flags on small texts, written out from the rule.
use Rattle.std.proofs.Common.{ℕ, ◌≡◌, Bool, true, false, List, [], ◌∷◌, map, refl, sym, arith}
use Rattle.std.proofs.lemmas.Bool.{false≢true}
use Rattle.shapers_buffer.specs.Glyph.{default_glyph}
use Rattle.shapers_buffer.specs.GlyphFlags.{FlagCall, UnsafeToBreak, UnsafeToConcat, SafeToInsertTatweel, flags_called}
use Rattle.shapers_buffer.specs.Glyphs.{Glyph}
use Rattle.shapers_clusters.specs.Borders.{forbids_border, IsOpen, is_unsafe_to_concat, IsBare}

-- borders before places 0 to 4 that each call over places 1 and 2 forbids: a break and a tatweel
-- between the two, a concatenation before both
at : FlagCall → List Bool
at call = map (λ p. forbids_border p call) (0 ∷ 1 ∷ 2 ∷ 3 ∷ 4 ∷ [])

row_break : at (UnsafeToBreak 1 3) ≡ false ∷ false ∷ true ∷ false ∷ false ∷ []
unfolding at
row_break = refl

row_concat : at (UnsafeToConcat 1 3) ≡ false ∷ true ∷ true ∷ false ∷ false ∷ []
unfolding at
row_concat = refl

row_tatweel : at (SafeToInsertTatweel 1 3) ≡ false ∷ false ∷ true ∷ false ∷ false ∷ []
unfolding at
row_tatweel = refl

-- a place is open if no call of several forbids a border there
row_open : IsOpen (UnsafeToBreak 0 2 ∷ UnsafeToConcat 3 4 ∷ []) 2
row_open = refl

row_first_call : IsOpen (UnsafeToBreak 0 2 ∷ UnsafeToConcat 3 4 ∷ []) 1 → ⊥
row_first_call free = false≢true (sym free)

row_second_call : IsOpen (UnsafeToBreak 0 2 ∷ UnsafeToConcat 3 4 ∷ []) 3 → ⊥
row_second_call free = false≢true (sym free)

-- a glyph in this cluster with this mask; flag 2 alone is unsafe to concatenate
glyph : ℕ → ℕ → Glyph
glyph c m = record default_glyph { cluster = c; mask = m }

row_flag : map (λ m. is_unsafe_to_concat (glyph 0 m)) (0 ∷ 1 ∷ 2 ∷ 3 ∷ 4 ∷ 5 ∷ 8 ∷ []) ≡ false ∷ false ∷ true ∷ true
    ∷ false ∷ false ∷ false ∷ []
unfolding glyph
row_flag = refl

-- flag 2 in the cluster that ends at the border leaves it bare, where clusters rise and where they fall
row_rising : IsBare (glyph 0 2 ∷ glyph 1 0 ∷ glyph 1 8 ∷ glyph 2 2 ∷ []) 1
unfolding glyph
row_rising = search arith

row_falling : IsBare (glyph 2 2 ∷ glyph 1 0 ∷ glyph 0 2 ∷ []) 1
unfolding glyph
row_falling = search arith

-- no border is bare inside a cluster, before a glyph with flag 2, before a cluster with a later
-- one, or where the greater cluster has flag 1 or 4
row_inside : IsBare (glyph 0 0 ∷ glyph 0 0 ∷ []) 1 → ⊥
unfolding glyph
row_inside bare = bare.clear.differ refl

row_first : IsBare (glyph 0 0 ∷ glyph 1 2 ∷ []) 1 → ⊥
unfolding glyph
row_first bare = false≢true (sym bare.joinable)

row_later : IsBare (glyph 0 0 ∷ glyph 1 0 ∷ glyph 1 2 ∷ []) 1 → ⊥
unfolding glyph
row_later bare = false≢true (sym bare.joinable)

row_lesser : IsBare (glyph 1 0 ∷ glyph 0 2 ∷ []) 1 → ⊥
unfolding glyph
row_lesser bare = false≢true (sym bare.joinable)

row_unsafe : IsBare (glyph 0 0 ∷ glyph 1 1 ∷ []) 1 → ⊥
unfolding glyph
row_unsafe = search (arith, false≢true)

row_joined : IsBare (glyph 0 0 ∷ glyph 1 4 ∷ []) 1 → ⊥
unfolding glyph
row_joined = search (arith, false≢true)

row_greater : IsBare (glyph 1 1 ∷ glyph 0 0 ∷ []) 1 → ⊥
unfolding glyph
row_greater = search (arith, false≢true)

-- R behind U, each a cluster of its own: its flag of concatenation is on its own place alone
row_called : map (λ g. g.mask)
    (flags_called true false (UnsafeToConcat 1 2 ∷ []) (glyph 0 0 ∷ glyph 1 0 ∷ glyph 2 0 ∷ [])) ≡ 0 ∷ 2 ∷ 0 ∷ []
unfolding glyph
row_called = refl
