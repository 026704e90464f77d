-- The positions of a syllable's glyphs, computed step by step.
use Rattle.std.specs.Prelude.{◌≡◌, ℕ, true, false, List, [], ◌∷◌, ◌++◌, map, replicate, refl}
use Rattle.shapers_buffer.specs.Glyph.{default_glyph}
use Rattle.shapers_buffer.specs.Glyphs.{Glyphs}
use Rattle.shapers_indic.proofs.RowWords.{C, V, N, H, ZWNJ, ZWJ, M, SM, MPst, CM, of, plainly, with_row_marks, script, row_positions}
use Rattle.shapers_indic_initial.proofs.InitialWords.{ligated_at, rules, no_masks}
use Rattle.shapers_indic_initial.specs.PairWalk.{is_consonant_with_sign}
use Rattle.shapers_indic_initial.specs.InitialPositions.{by_base, halant_places, with_attached, with_signs, with_halants, with_marks_attached, with_owners, with_owners_after}

-- glyphs of positions
abbrev at : List ℕ → Glyphs
at ps = of (map (λ p. (C, p)) ps)

-- before the base at most PRE_C, the base BASE_C, the reph in front of all, also where it is the base
base_inside : row_positions (by_base 2 false (at (9 ∷ 2 ∷ 11 ∷ 6 ∷ 4 ∷ [])))
    ∷ row_positions (by_base 2 true (at (9 ∷ 2 ∷ 11 ∷ 6 ∷ 4 ∷ []))) ∷ [] ≡ (3 ∷ 2 ∷ 4 ∷ 6 ∷ 4 ∷ [])
    ∷ (1 ∷ 2 ∷ 4 ∷ 6 ∷ 4 ∷ []) ∷ []
base_inside = refl

no_base : row_positions (by_base 5 false (at (9 ∷ 2 ∷ 11 ∷ 3 ∷ 4 ∷ []))) ≡ 3 ∷ 2 ∷ 3 ∷ 3 ∷ 3 ∷ []
no_base = refl

base_first : row_positions (by_base 0 false (at (9 ∷ 2 ∷ []))) ∷ row_positions (by_base 0 true (at (9 ∷ 2 ∷ []))) ∷ []
    ≡ (4 ∷ 2 ∷ []) ∷ (1 ∷ 2 ∷ []) ∷ []
base_first = refl

-- the older specification: the first H after the base goes behind the last consonant there
abbrev halants : ℕ → List (List ℕ) → List (List ℕ)
halants base css = map (λ cs. halant_places (rules "Deva" true no_masks) (script "Deva") base (plainly cs)) css

halant_moves : halants 0 ((C ∷ H ∷ C ∷ []) ∷ (C ∷ H ∷ C ∷ H ∷ []) ∷ (C ∷ H ∷ M ∷ C ∷ M ∷ []) ∷ (C ∷ H ∷ C ∷ H ∷ C ∷ [])
    ∷ (C ∷ H ∷ CM ∷ []) ∷ (C ∷ M ∷ H ∷ V ∷ []) ∷ []) ≡ (0 ∷ 2 ∷ 1 ∷ []) ∷ (0 ∷ 2 ∷ 1 ∷ 3 ∷ [])
    ∷ (0 ∷ 2 ∷ 3 ∷ 1 ∷ 4 ∷ []) ∷ (0 ∷ 2 ∷ 3 ∷ 4 ∷ 1 ∷ []) ∷ (0 ∷ 2 ∷ 1 ∷ []) ∷ (0 ∷ 1 ∷ 3 ∷ 2 ∷ []) ∷ []
halant_moves = refl

halant_stays : halants 0 ((C ∷ C ∷ []) ∷ (C ∷ H ∷ []) ∷ (C ∷ C ∷ H ∷ M ∷ []) ∷ (H ∷ C ∷ []) ∷ []) ≡ (0 ∷ 1 ∷ [])
    ∷ (0 ∷ 1 ∷ []) ∷ (0 ∷ 1 ∷ 2 ∷ 3 ∷ []) ∷ (0 ∷ 1 ∷ []) ∷ []
halant_stays = refl

after_the_base_alone : halants 2 ((C ∷ H ∷ C ∷ H ∷ C ∷ []) ∷ (C ∷ H ∷ C ∷ []) ∷ []) ∷ halants 3 ((C ∷ H ∷ C ∷ []) ∷ [])
    ∷ [] ≡ ((0 ∷ 1 ∷ 2 ∷ 4 ∷ 3 ∷ []) ∷ (0 ∷ 1 ∷ 2 ∷ []) ∷ []) ∷ ((0 ∷ 1 ∷ 2 ∷ []) ∷ []) ∷ []
after_the_base_alone = refl

newer_specification : halant_places (rules "Deva" false no_masks) (script "Deva") 0 (plainly (C ∷ H ∷ C ∷ []))
    ≡ 0 ∷ 1 ∷ 2 ∷ []
newer_specification = refl

-- in Kannada not over another H
kannada : map (λ cs. halant_places (rules "Knda" true no_masks) (script "Knda") 0 (plainly cs))
    ((C ∷ H ∷ C ∷ H ∷ []) ∷ (C ∷ H ∷ C ∷ []) ∷ (C ∷ H ∷ H ∷ C ∷ []) ∷ (C ∷ H ∷ H ∷ M ∷ []) ∷ [])
    ≡ (0 ∷ 1 ∷ 2 ∷ 3 ∷ []) ∷ (0 ∷ 2 ∷ 1 ∷ []) ∷ (0 ∷ 2 ∷ 3 ∷ 1 ∷ []) ∷ (0 ∷ 1 ∷ 2 ∷ 3 ∷ []) ∷ []
kannada = refl

-- a ligature of H moves, and in Kannada forbids it; one of a consonant isn't passed
ligated_halants : halant_places (rules "Deva" true no_masks) (script "Deva") 0 (ligated_at 1 (plainly (C ∷ H ∷ C ∷ [])))
    ∷ halant_places (rules "Knda" true no_masks) (script "Knda") 0 (ligated_at 3 (plainly (C ∷ H ∷ C ∷ H ∷ [])))
    ∷ halant_places (rules "Deva" true no_masks) (script "Deva") 0 (ligated_at 2 (plainly (C ∷ H ∷ C ∷ []))) ∷ []
    ≡ (0 ∷ 2 ∷ 1 ∷ []) ∷ (0 ∷ 1 ∷ 2 ∷ 3 ∷ []) ∷ (0 ∷ 1 ∷ 2 ∷ []) ∷ []
ligated_halants = refl

-- attached glyphs: N, H, ZWNJ, ZWJ, CM and RS take the nearest other position before them, but for
-- that of modifiers; 0 where there is none
attached : row_positions
    (with_attached (of ((C, 4) ∷ (N, 14) ∷ (H, 14) ∷ (M, 9) ∷ (ZWNJ, 2) ∷ (CM, 1) ∷ (ZWJ, 14) ∷ (12, 14) ∷ [])))
    ≡ 4 ∷ 4 ∷ 4 ∷ 9 ∷ 9 ∷ 9 ∷ 9 ∷ 9 ∷ []
attached = refl

attached_to_none : row_positions (with_attached (of ((N, 5) ∷ (H, 6) ∷ (C, 4) ∷ []))) ≡ 0 ∷ 0 ∷ 4 ∷ []
attached_to_none = refl

past_modifiers : row_positions (with_attached (of ((C, 4) ∷ (SM, 13) ∷ (N, 7) ∷ (SM, 9) ∷ (N, 7) ∷ [])))
    ∷ row_positions (with_attached (of ((SM, 13) ∷ (N, 7) ∷ []))) ∷ [] ≡ (4 ∷ 13 ∷ 4 ∷ 9 ∷ 9 ∷ []) ∷ (13 ∷ 0 ∷ []) ∷ []
past_modifiers = refl

others_stay : map (λ c. row_positions (with_attached (of ((C, 4) ∷ (c, 7) ∷ [])))) (0 ∷ 1 ∷ 2 ∷ 7 ∷ 8 ∷ 9 ∷ 10 ∷ 11 ∷ 13
    ∷ 14 ∷ 15 ∷ 17 ∷ 18 ∷ []) ≡ replicate 13 (4 ∷ 7 ∷ [])
others_stay = refl

-- a modifier directly before a postfixed matra that isn't one of the modifiers' position
signs : map (λ ts. row_positions (with_signs (of ts))) (((SM, 13) ∷ (MPst, 9) ∷ []) ∷ ((SM, 13) ∷ (MPst, 13) ∷ [])
    ∷ ((SM, 6) ∷ (MPst, 13) ∷ []) ∷ ((SM, 13) ∷ (M, 9) ∷ []) ∷ ((SM, 13) ∷ (N, 9) ∷ (MPst, 9) ∷ [])
    ∷ ((SM, 13) ∷ (SM, 13) ∷ (MPst, 9) ∷ []) ∷ ((SM, 13) ∷ []) ∷ []) ≡ (9 ∷ 9 ∷ []) ∷ (13 ∷ 13 ∷ []) ∷ (6 ∷ 13 ∷ [])
    ∷ (13 ∷ 9 ∷ []) ∷ (13 ∷ 9 ∷ 9 ∷ []) ∷ (13 ∷ 9 ∷ 9 ∷ []) ∷ (13 ∷ []) ∷ []
signs = refl

-- nothing but a modifier goes with a matra
no_signs : map (λ ts. row_positions (with_signs (of ts))) (((C, 4) ∷ (MPst, 9) ∷ []) ∷ ((N, 4) ∷ (MPst, 9) ∷ [])
    ∷ ((MPst, 6) ∷ (MPst, 9) ∷ []) ∷ []) ≡ (4 ∷ 9 ∷ []) ∷ (4 ∷ 9 ∷ []) ∷ (6 ∷ 9 ∷ []) ∷ []
no_signs = refl

-- an H at a left matra's position: of the nearest glyph before it with another, if there is one
halants_behind : map (λ ts. row_positions (with_halants (of ts))) (((C, 4) ∷ (M, 2) ∷ (ZWNJ, 2) ∷ (H, 2) ∷ [])
    ∷ ((M, 2) ∷ (H, 2) ∷ (H, 2) ∷ []) ∷ ((C, 3) ∷ (C, 4) ∷ (M, 2) ∷ (H, 2) ∷ (H, 2) ∷ [])
    ∷ ((C, 4) ∷ (M, 9) ∷ (H, 9) ∷ []) ∷ ((C, 4) ∷ (M, 2) ∷ (N, 2) ∷ []) ∷ []) ≡ (4 ∷ 2 ∷ 2 ∷ 4 ∷ []) ∷ (2 ∷ 2 ∷ 2 ∷ [])
    ∷ (3 ∷ 4 ∷ 2 ∷ 4 ∷ 4 ∷ []) ∷ (4 ∷ 9 ∷ 9 ∷ []) ∷ (4 ∷ 2 ∷ 2 ∷ []) ∷ []
halants_behind = refl

-- an H elsewhere stays, also behind a modifier
halants_stay : map (λ ts. row_positions (with_halants (of ts))) (((C, 4) ∷ (SM, 13) ∷ (H, 4) ∷ [])
    ∷ ((C, 3) ∷ (H, 9) ∷ []) ∷ []) ∷ map (λ ts. row_positions (with_marks_attached (of ts)))
    (((C, 4) ∷ (SM, 13) ∷ (H, 0) ∷ []) ∷ []) ∷ [] ≡ ((4 ∷ 13 ∷ 4 ∷ []) ∷ (3 ∷ 9 ∷ []) ∷ []) ∷ ((4 ∷ 13 ∷ 4 ∷ []) ∷ [])
    ∷ []
halants_stay = refl

-- in each of the three a ligature counts as its category does: of N, of a modifier, of a postfixed matra, of H
ligatures_attached : row_positions (with_attached (ligated_at 1 (of ((C, 4) ∷ (N, 7) ∷ []))))
    ∷ row_positions (with_signs (ligated_at 0 (of ((SM, 13) ∷ (MPst, 9) ∷ []))))
    ∷ row_positions (with_signs (ligated_at 1 (of ((SM, 13) ∷ (MPst, 9) ∷ []))))
    ∷ row_positions (with_halants (ligated_at 2 (of ((C, 4) ∷ (M, 2) ∷ (H, 2) ∷ [])))) ∷ []
    ≡ (4 ∷ 4 ∷ []) ∷ (9 ∷ 9 ∷ []) ∷ (9 ∷ 9 ∷ []) ∷ (4 ∷ 2 ∷ 4 ∷ []) ∷ []
ligatures_attached = refl

-- all three at once: C(4) M(2) ZWNJ(14) H(14), where the H gets 4; and behind a modifier that a left matra draws
together : map (λ ts. row_positions (with_marks_attached (of ts))) (((C, 4) ∷ (M, 2) ∷ (ZWNJ, 14) ∷ (H, 14) ∷ [])
    ∷ ((C, 4) ∷ (SM, 13) ∷ (MPst, 2) ∷ (H, 0) ∷ []) ∷ ((C, 4) ∷ (SM, 13) ∷ (M, 2) ∷ (H, 0) ∷ []) ∷ [])
    ≡ (4 ∷ 2 ∷ 2 ∷ 4 ∷ []) ∷ (4 ∷ 2 ∷ 2 ∷ 4 ∷ []) ∷ (4 ∷ 13 ∷ 2 ∷ 13 ∷ []) ∷ []
together = refl

-- after the base a consonant owns what stands before it since the last consonant or matra, below SMVD
owners : map (λ ts. row_positions (with_owners_after 0 (of ts))) (((C, 4) ∷ (H, 4) ∷ (C, 8) ∷ [])
    ∷ ((C, 4) ∷ (H, 4) ∷ (M, 9) ∷ (N, 9) ∷ (C, 8) ∷ [])
    ∷ ((C, 4) ∷ (H, 4) ∷ (MPst, 9) ∷ (N, 9) ∷ (N, 9) ∷ (C, 8) ∷ (N, 5) ∷ [])
    ∷ ((C, 4) ∷ (SM, 13) ∷ (SM, 12) ∷ (SM, 14) ∷ (C, 8) ∷ []) ∷ ((C, 4) ∷ (H, 4) ∷ (CM, 6) ∷ [])
    ∷ ((C, 4) ∷ (H, 4) ∷ []) ∷ []) ≡ (4 ∷ 8 ∷ 8 ∷ []) ∷ (4 ∷ 4 ∷ 9 ∷ 8 ∷ 8 ∷ []) ∷ (4 ∷ 4 ∷ 9 ∷ 8 ∷ 8 ∷ 8 ∷ 5 ∷ [])
    ∷ (4 ∷ 13 ∷ 8 ∷ 14 ∷ 8 ∷ []) ∷ (4 ∷ 6 ∷ 6 ∷ []) ∷ (4 ∷ 4 ∷ []) ∷ []
owners = refl

before_the_base : row_positions (with_owners_after 2 (of ((N, 0) ∷ (C, 3) ∷ (N, 4) ∷ (H, 4) ∷ (C, 8) ∷ [])))
    ∷ row_positions (with_owners_after 5 (of ((N, 0) ∷ (C, 3) ∷ []))) ∷ [] ≡ (0 ∷ 3 ∷ 4 ∷ 8 ∷ 8 ∷ []) ∷ (0 ∷ 3 ∷ [])
    ∷ []
before_the_base = refl

-- a ligature of a matra bounds what a consonant owns
ligated_matra : row_positions (with_owners_after 0 (ligated_at 2 (of ((C, 4) ∷ (H, 4) ∷ (M, 9) ∷ (C, 8) ∷ []))))
    ≡ 4 ∷ 4 ∷ 9 ∷ 8 ∷ []
ligated_matra = refl

-- a ligature is no consonant: it owns nothing, and is owned
abbrev with_ligature : Glyphs
with_ligature = of ((H, 4) ∷ []) ++ with_row_marks 0x20 (record (default_glyph) { category = C; auxiliary = 8 })
    ∷ of ((C, 11) ∷ [])

ligature : row_positions (with_owners with_ligature) ≡ 11 ∷ 11 ∷ 11 ∷ []
ligature = refl

-- a consonant at the base with a vowel sign or a modifier; another pair, one glyph and three aren't
with_sign : map is_consonant_with_sign (of ((C, 4) ∷ (M, 9) ∷ []) ∷ of ((C, 4) ∷ (M, 2) ∷ [])
    ∷ of ((C, 4) ∷ (MPst, 12) ∷ []) ∷ of ((C, 4) ∷ (SM, 13) ∷ []) ∷ []) ≡ true ∷ true ∷ true ∷ true ∷ []
with_sign = refl

without_sign : map is_consonant_with_sign (of ((C, 4) ∷ (H, 4) ∷ []) ∷ of ((C, 4) ∷ (C, 4) ∷ [])
    ∷ of ((C, 4) ∷ (N, 4) ∷ []) ∷ of ((C, 8) ∷ (M, 9) ∷ []) ∷ of ((V, 4) ∷ (M, 9) ∷ []) ∷ of ((C, 4) ∷ [])
    ∷ of ((C, 4) ∷ (M, 9) ∷ (SM, 13) ∷ []) ∷ [] ∷ [])
    ≡ false ∷ false ∷ false ∷ false ∷ false ∷ false ∷ false ∷ false ∷ []
without_sign = refl

with_ligated : map is_consonant_with_sign (ligated_at 0 (of ((C, 4) ∷ (M, 9) ∷ []))
    ∷ ligated_at 1 (of ((C, 4) ∷ (M, 9) ∷ [])) ∷ []) ≡ false ∷ true ∷ []
with_ligated = refl
