-- The final reordering of a syllable as a whole, computed: order, clusters and positions.
use Rattle.std.specs.Prelude.{◌≡◌, ℕ, ◌-◌, List, [], ◌∷◌, length, map, refl}
use Rattle.shapers_buffer.specs.Glyphs.{Glyph, Glyphs}
use Rattle.shapers_indic.proofs.RowWords.{C, H, ZWNJ, ZWJ, M, SM, Ra, of, numbers_of, script}
use Rattle.shapers_indic_final.proofs.FinalWords.{changed_at, formed_at, marks_at, reordered, rules, unformed_at}
use Rattle.shapers_indic_final.specs.FinalReordering.{final_order, final_steps}

-- Devanagari, as the initial reordering leaves M C H ZWNJ B: the matra goes behind the joiner's halant
left_matra : reordered "Deva" (of ((M, 2) ∷ (C, 3) ∷ (H, 3) ∷ (ZWNJ, 3) ∷ (C, 4) ∷ []))
    ≡ (1 ∷ 2 ∷ 0 ∷ 3 ∷ 4 ∷ []) ∷ (1 ∷ 2 ∷ 0 ∷ 0 ∷ 0 ∷ []) ∷ (3 ∷ 3 ∷ 2 ∷ 3 ∷ 4 ∷ []) ∷ []
left_matra = refl

-- with the clusters 4 0 1 2 3 that it leaves
abbrev as_left : ℕ → Glyphs
as_left joiner =
    changed_at 0 (λ g. record g { cluster = 4 }) (map {A = Glyph} (λ g. record g { cluster = g.cluster - 1 })
    (of ((M, 2) ∷ (C, 3) ∷ (H, 3) ∷ (joiner, 3) ∷ (C, 4) ∷ [])))

clusters_as_left : map (reordered "Deva") (as_left ZWNJ ∷ as_left ZWJ ∷ [])
    ≡ ((1 ∷ 2 ∷ 0 ∷ 3 ∷ 4 ∷ []) ∷ (0 ∷ 1 ∷ 2 ∷ 2 ∷ 2 ∷ []) ∷ (3 ∷ 3 ∷ 2 ∷ 3 ∷ 4 ∷ []) ∷ [])
    ∷ ((0 ∷ 1 ∷ 2 ∷ 3 ∷ 4 ∷ []) ∷ (0 ∷ 0 ∷ 0 ∷ 0 ∷ 0 ∷ []) ∷ (2 ∷ 3 ∷ 3 ∷ 3 ∷ 4 ∷ []) ∷ []) ∷ []
clusters_as_left = refl

-- a formed reph in front, by scripts
abbrev behind_reph : List (ℕ × ℕ) → Glyphs
behind_reph ts = marks_at 0 0x20 (of ((Ra, 1) ∷ ts))

rephs : reordered "Deva" (behind_reph ((C, 4) ∷ (M, 9) ∷ []))
    ∷ reordered "Beng" (behind_reph ((C, 4) ∷ (M, 9) ∷ (SM, 13) ∷ []))
    ∷ reordered "Deva" (behind_reph ((C, 4) ∷ (M, 9) ∷ (H, 9) ∷ []))
    ∷ reordered "Orya" (behind_reph ((C, 4) ∷ (M, 5) ∷ (M, 9) ∷ [])) ∷ []
    ≡ ((1 ∷ 2 ∷ 0 ∷ []) ∷ (0 ∷ 0 ∷ 0 ∷ []) ∷ (4 ∷ 9 ∷ 1 ∷ []) ∷ [])
    ∷ ((1 ∷ 2 ∷ 0 ∷ 3 ∷ []) ∷ (0 ∷ 0 ∷ 0 ∷ 3 ∷ []) ∷ (4 ∷ 9 ∷ 1 ∷ 13 ∷ []) ∷ [])
    ∷ ((1 ∷ 2 ∷ 0 ∷ 3 ∷ []) ∷ (0 ∷ 0 ∷ 0 ∷ 3 ∷ []) ∷ (4 ∷ 9 ∷ 1 ∷ 9 ∷ []) ∷ [])
    ∷ ((1 ∷ 2 ∷ 0 ∷ 3 ∷ []) ∷ (0 ∷ 0 ∷ 0 ∷ 3 ∷ []) ∷ (4 ∷ 5 ∷ 1 ∷ 9 ∷ []) ∷ []) ∷ []
rephs = refl

-- each script of the table with a reph, a post-base vowel sign of its position after the main
-- consonant, a below-base form, and a sign
each_script : map (λ tag. numbers_of
    (final_order (rules tag) (script tag) (behind_reph ((C, 4) ∷ (M, 5) ∷ (C, 8) ∷ (M, 12) ∷ (SM, 13) ∷ []))))
    ("Deva" ∷ "Beng" ∷ "Guru" ∷ "Gujr" ∷ "Orya" ∷ "Taml" ∷ "Telu" ∷ "Knda" ∷ "Mlym" ∷ "Sinh" ∷ "Latn" ∷ [])
    ≡ (1 ∷ 2 ∷ 3 ∷ 4 ∷ 0 ∷ 5 ∷ []) ∷ (1 ∷ 2 ∷ 3 ∷ 0 ∷ 4 ∷ 5 ∷ []) ∷ (1 ∷ 2 ∷ 3 ∷ 4 ∷ 0 ∷ 5 ∷ [])
    ∷ (1 ∷ 2 ∷ 3 ∷ 4 ∷ 0 ∷ 5 ∷ []) ∷ (1 ∷ 2 ∷ 0 ∷ 3 ∷ 4 ∷ 5 ∷ []) ∷ (1 ∷ 2 ∷ 3 ∷ 4 ∷ 0 ∷ 5 ∷ [])
    ∷ (1 ∷ 2 ∷ 3 ∷ 4 ∷ 0 ∷ 5 ∷ []) ∷ (1 ∷ 2 ∷ 3 ∷ 4 ∷ 0 ∷ 5 ∷ []) ∷ (1 ∷ 2 ∷ 0 ∷ 3 ∷ 4 ∷ 5 ∷ [])
    ∷ (1 ∷ 2 ∷ 3 ∷ 4 ∷ 0 ∷ 5 ∷ []) ∷ (1 ∷ 2 ∷ 3 ∷ 4 ∷ 0 ∷ 5 ∷ []) ∷ []
each_script = refl

-- each script with a left matra and a formed pref glyph: behind the halant, but for Tamil and
-- Malayalam, where they go directly before the base
each_script_before_base : map (λ tag. numbers_of (final_order (rules tag) (script tag)
    (formed_at 5 (of ((M, 2) ∷ (C, 3) ∷ (H, 3) ∷ (C, 3) ∷ (C, 4) ∷ (Ra, 11) ∷ []))))) ("Deva" ∷ "Beng" ∷ "Guru" ∷ "Gujr"
    ∷ "Orya" ∷ "Taml" ∷ "Telu" ∷ "Knda" ∷ "Mlym" ∷ "Sinh" ∷ "Latn" ∷ [])
    ≡ (1 ∷ 2 ∷ 0 ∷ 5 ∷ 3 ∷ 4 ∷ []) ∷ (1 ∷ 2 ∷ 0 ∷ 5 ∷ 3 ∷ 4 ∷ []) ∷ (1 ∷ 2 ∷ 0 ∷ 5 ∷ 3 ∷ 4 ∷ [])
    ∷ (1 ∷ 2 ∷ 0 ∷ 5 ∷ 3 ∷ 4 ∷ []) ∷ (1 ∷ 2 ∷ 0 ∷ 5 ∷ 3 ∷ 4 ∷ []) ∷ (1 ∷ 2 ∷ 3 ∷ 0 ∷ 5 ∷ 4 ∷ [])
    ∷ (1 ∷ 2 ∷ 0 ∷ 5 ∷ 3 ∷ 4 ∷ []) ∷ (1 ∷ 2 ∷ 0 ∷ 5 ∷ 3 ∷ 4 ∷ []) ∷ (1 ∷ 2 ∷ 3 ∷ 0 ∷ 5 ∷ 4 ∷ [])
    ∷ (1 ∷ 2 ∷ 0 ∷ 5 ∷ 3 ∷ 4 ∷ []) ∷ (1 ∷ 2 ∷ 0 ∷ 5 ∷ 3 ∷ 4 ∷ []) ∷ []
each_script_before_base = refl

-- pref: formed it goes before the base, unformed it is the base and stays
prefs : reordered "Deva" (formed_at 3 (of ((C, 3) ∷ (H, 3) ∷ (C, 4) ∷ (Ra, 11) ∷ [])))
    ∷ reordered "Deva" (unformed_at 3 (of ((C, 3) ∷ (H, 3) ∷ (C, 4) ∷ (Ra, 11) ∷ [])))
    ∷ reordered "Deva" (unformed_at 1 (of ((C, 4) ∷ (H, 4) ∷ []))) ∷ []
    ≡ ((0 ∷ 1 ∷ 3 ∷ 2 ∷ []) ∷ (0 ∷ 1 ∷ 2 ∷ 2 ∷ []) ∷ (3 ∷ 3 ∷ 11 ∷ 4 ∷ []) ∷ [])
    ∷ ((0 ∷ 1 ∷ 2 ∷ 3 ∷ []) ∷ (0 ∷ 1 ∷ 2 ∷ 3 ∷ []) ∷ (3 ∷ 3 ∷ 4 ∷ 4 ∷ []) ∷ [])
    ∷ ((0 ∷ 1 ∷ []) ∷ (0 ∷ 1 ∷ []) ∷ (4 ∷ 4 ∷ []) ∷ []) ∷ []
prefs = refl

-- once an unformed one has ended the try, no further one moves; nor does one formed but not
-- substituted, which is the base
tries_end : map (reordered "Deva") (unformed_at 1 (formed_at 2 (of ((C, 4) ∷ (Ra, 11) ∷ (Ra, 11) ∷ [])))
    ∷ marks_at 1 0x20 (unformed_at 1 (of ((C, 4) ∷ (Ra, 11) ∷ []))) ∷ [])
    ≡ ((0 ∷ 1 ∷ 2 ∷ []) ∷ (0 ∷ 1 ∷ 2 ∷ []) ∷ (4 ∷ 4 ∷ 11 ∷ []) ∷ []) ∷ ((0 ∷ 1 ∷ []) ∷ (0 ∷ 1 ∷ []) ∷ (4 ∷ 4 ∷ []) ∷ [])
    ∷ []
tries_end = refl

-- a reph and a formed pref glyph: both go directly behind the halant before the base, the pref
-- glyph last; a base that the reph crosses is carried along, so that the pref glyph goes before it
reph_and_pref : reordered "Deva"
    (marks_at 0 0x20 (formed_at 4 (of ((Ra, 1) ∷ (C, 3) ∷ (H, 3) ∷ (C, 4) ∷ (Ra, 11) ∷ (M, 12) ∷ []))))
    ∷ reordered "Deva" (marks_at 0 0x20 (formed_at 2 (of ((Ra, 1) ∷ (C, 4) ∷ (Ra, 11) ∷ (M, 12) ∷ [])))) ∷ []
    ≡ ((1 ∷ 2 ∷ 4 ∷ 0 ∷ 3 ∷ 5 ∷ []) ∷ (0 ∷ 0 ∷ 0 ∷ 0 ∷ 0 ∷ 5 ∷ []) ∷ (3 ∷ 3 ∷ 11 ∷ 1 ∷ 4 ∷ 12 ∷ []) ∷ [])
    ∷ ((2 ∷ 1 ∷ 3 ∷ 0 ∷ []) ∷ (0 ∷ 0 ∷ 0 ∷ 0 ∷ []) ∷ (11 ∷ 4 ∷ 12 ∷ 1 ∷ []) ∷ []) ∷ []
reph_and_pref = refl

-- a virama that lookups took apart is a halant again, and left matras go behind it
recovered_virama : reordered "Deva"
    (marks_at 2 0x60 (changed_at 2 (λ g. record g { glyph_id = 90 }) (of ((M, 2) ∷ (C, 3) ∷ (C, 3) ∷ (C, 4) ∷ []))))
    ≡ (1 ∷ 90 ∷ 0 ∷ 3 ∷ []) ∷ (1 ∷ 2 ∷ 0 ∷ 0 ∷ []) ∷ (3 ∷ 3 ∷ 2 ∷ 4 ∷ []) ∷ []
recovered_virama = refl

-- nothing to do, and nothing there
none : map (λ gs. length (final_steps (rules "Deva") (script "Deva") gs))
    (of ((C, 4) ∷ (M, 9) ∷ []) ∷ of ((C, 3) ∷ (H, 3) ∷ (C, 4) ∷ []) ∷ of ((C, 4) ∷ []) ∷ [] ∷ [])
    ∷ numbers_of (final_order (rules "Deva") (script "Deva") []) ∷ [] ≡ (0 ∷ 0 ∷ 0 ∷ 0 ∷ []) ∷ [] ∷ []
none = refl
