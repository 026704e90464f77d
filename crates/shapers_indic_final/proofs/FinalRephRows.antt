-- The reph, computed case by case.
use Rattle.std.specs.Prelude.{◌≡◌, ℕ, true, false, List, [], ◌∷◌, map, refl}
use Rattle.shapers_buffer.specs.Glyphs.{Glyphs}
use Rattle.shapers_buffer.specs.declared.buffer.level.BufferClusterLevel.TheVariants.{MonotoneGraphemes}
use Rattle.shapers_buffer.specs.Glyph.{clusters}
use Rattle.shapers_base.specs.declared.plan.indic.RephPosition.{RephPosition}
use Rattle.shapers_base.specs.declared.plan.indic.RephPosition.TheVariants.{AfterMain, BeforeSub, AfterSub, BeforePost, AfterPost}
use Rattle.shapers_clusters.specs.Steps.{after_steps}
use Rattle.shapers_indic.proofs.RowWords.{C, H, ZWNJ, ZWJ, M, MPst, SM, Repha, Ra, of, numbers_of}
use Rattle.shapers_indic_final.proofs.FinalWords.{marks_at}
use Rattle.shapers_indic_final.specs.FinalReph.{base_after_reph, begins_with_reph, reph_steps, reph_target, with_reph}

-- a formed reph and then these glyphs
abbrev behind_reph : List (ℕ × ℕ) → Glyphs
behind_reph ts = marks_at 0 0x20 (of ((Ra, 1) ∷ ts))

-- which rephs move: one formed, or a character of its own that is not; in a syllable of two or more, of its position
moving : map begins_with_reph (behind_reph ((C, 4) ∷ []) ∷ of ((Ra, 1) ∷ (C, 4) ∷ []) ∷ of ((Repha, 1) ∷ (C, 4) ∷ [])
    ∷ marks_at 0 0x20 (of ((Repha, 1) ∷ (C, 4) ∷ [])) ∷ marks_at 0 0x60 (of ((Ra, 1) ∷ (C, 4) ∷ []))
    ∷ marks_at 0 0x60 (of ((Repha, 1) ∷ (C, 4) ∷ [])) ∷ behind_reph [] ∷ of ((Repha, 1) ∷ []) ∷ []
    ∷ marks_at 0 0x20 (of ((Ra, 2) ∷ (C, 4) ∷ [])) ∷ marks_at 0 0x20 (of ((Ra, 0) ∷ (C, 4) ∷ [])) ∷ [])
    ≡ true ∷ false ∷ true ∷ false ∷ false ∷ true ∷ false ∷ false ∷ false ∷ false ∷ false ∷ []
moving = refl

abbrev target : RephPosition → ℕ → List (ℕ × ℕ) → ℕ
target position base ts = reph_target position base (behind_reph ts)

-- in any script behind the first halant before the base, and a joiner behind it that is before the base
at_halant : map (λ position. target position 5 ((C, 3) ∷ (H, 3) ∷ (C, 3) ∷ (H, 3) ∷ (C, 4) ∷ (M, 9) ∷ []))
    (AfterMain ∷ BeforeSub ∷ AfterSub ∷ BeforePost ∷ AfterPost ∷ []) ≡ 2 ∷ 2 ∷ 2 ∷ 2 ∷ 2 ∷ []
at_halant = refl

at_joiner : target BeforePost 4 ((C, 3) ∷ (H, 3) ∷ (ZWJ, 3) ∷ (C, 4) ∷ [])
    ∷ target BeforePost 4 ((C, 3) ∷ (H, 3) ∷ (ZWNJ, 3) ∷ (C, 4) ∷ [])
    ∷ target BeforePost 5 ((C, 3) ∷ (H, 3) ∷ (ZWJ, 3) ∷ (ZWJ, 3) ∷ (C, 4) ∷ [])
    ∷ target BeforePost 3 ((C, 3) ∷ (H, 3) ∷ (ZWJ, 4) ∷ (C, 4) ∷ []) ∷ target BeforePost 2 ((H, 3) ∷ (C, 4) ∷ [])
    ∷ target BeforePost 2 ((C, 3) ∷ (H, 4) ∷ (C, 4) ∷ []) ∷ [] ≡ 3 ∷ 3 ∷ 3 ∷ 2 ∷ 1 ∷ 3 ∷ []
at_joiner = refl

-- after the main consonant: positions up to 5; after below-base forms: none of 11, 12, 13
after_main : map (λ p. target AfterMain 1 ((C, 4) ∷ (M, p) ∷ (M, 9) ∷ [])) (0 ∷ 4 ∷ 5 ∷ 6 ∷ 13 ∷ 14 ∷ [])
    ≡ 2 ∷ 2 ∷ 2 ∷ 1 ∷ 1 ∷ 1 ∷ []
after_main = refl

after_sub : map (λ p. target AfterSub 1 ((C, 4) ∷ (M, p) ∷ (SM, 13) ∷ [])) (4 ∷ 5 ∷ 6 ∷ 8 ∷ 9 ∷ 10 ∷ 11 ∷ 12 ∷ 13 ∷ 14
    ∷ []) ≡ 2 ∷ 2 ∷ 2 ∷ 2 ∷ 2 ∷ 2 ∷ 1 ∷ 1 ∷ 1 ∷ 2 ∷ []
after_sub = refl

runs_end : target AfterMain 1 ((C, 9) ∷ (M, 5) ∷ (M, 6) ∷ (M, 5) ∷ []) ∷ target AfterMain 1 ((C, 4) ∷ [])
    ∷ target AfterMain 2 ((C, 3) ∷ (C, 3) ∷ []) ∷ target AfterSub 1 ((C, 11) ∷ (M, 9) ∷ (M, 12) ∷ (M, 9) ∷ [])
    ∷ target AfterSub 0 ((C, 4) ∷ (M, 11) ∷ []) ∷ [] ≡ 2 ∷ 1 ∷ 2 ∷ 2 ∷ 1 ∷ []
runs_end = refl

-- in these two scripts too the end of the syllable, where there is no base
no_base : map (λ position. target position 3 ((C, 3) ∷ (C, 3) ∷ [])) (AfterMain ∷ AfterSub ∷ []) ≡ 2 ∷ 2 ∷ []
no_base = refl

-- else at the end, before signs; with nothing but signs at the start
at_the_end : map (λ position. target position 1 ((C, 4) ∷ (M, 9) ∷ (SM, 13) ∷ (SM, 13) ∷ []))
    (BeforeSub ∷ BeforePost ∷ AfterPost ∷ []) ≡ 2 ∷ 2 ∷ 2 ∷ []
at_the_end = refl

signs : target BeforePost 1 ((SM, 13) ∷ (C, 4) ∷ []) ∷ target BeforePost 1 ((C, 4) ∷ (SM, 13) ∷ (C, 14) ∷ (SM, 13) ∷ [])
    ∷ reph_target BeforePost 0 (of ((SM, 13) ∷ (SM, 13) ∷ [])) ∷ [] ≡ 2 ∷ 3 ∷ 0 ∷ []
signs = refl

-- not between vowel signs and the halant behind them: less one for each between the base and it
before_matras : target BeforePost 1 ((C, 4) ∷ (M, 9) ∷ (H, 9) ∷ [])
    ∷ target BeforePost 1 ((C, 4) ∷ (M, 9) ∷ (C, 9) ∷ (MPst, 9) ∷ (H, 9) ∷ (SM, 13) ∷ [])
    ∷ target BeforePost 1 ((C, 4) ∷ (H, 9) ∷ []) ∷ target BeforePost 1 ((M, 4) ∷ (H, 9) ∷ [])
    ∷ target BeforePost 1 ((C, 4) ∷ (M, 9) ∷ (C, 9) ∷ [])
    ∷ reph_target BeforePost 1 (marks_at 3 0x20 (behind_reph ((C, 4) ∷ (M, 9) ∷ (H, 9) ∷ [])))
    ∷ reph_target BeforePost 1 (marks_at 2 0x20 (behind_reph ((C, 4) ∷ (M, 9) ∷ (H, 9) ∷ []))) ∷ []
    ≡ 2 ∷ 3 ∷ 2 ∷ 2 ∷ 3 ∷ 3 ∷ 2 ∷ []
before_matras = refl

-- order, clusters, and the base: one that is crossed is carried along, one in front stays
abbrev moved : RephPosition → ℕ → Glyphs → List (List ℕ)
moved position base gs =
    numbers_of (with_reph position base gs) ∷ clusters (after_steps MonotoneGraphemes (reph_steps position base gs) gs)
    ∷ (base_after_reph position base gs ∷ []) ∷ []

moves : moved BeforePost 1 (behind_reph ((C, 4) ∷ (M, 9) ∷ []))
    ∷ moved BeforePost 3 (behind_reph ((C, 3) ∷ (H, 3) ∷ (C, 4) ∷ []))
    ∷ moved BeforePost 0 (behind_reph ((C, 4) ∷ [])) ∷ moved AfterMain 1 (behind_reph ((C, 4) ∷ (M, 9) ∷ []))
    ∷ moved BeforePost 1 (of ((Ra, 1) ∷ (C, 4) ∷ [])) ∷ [] ≡ ((1 ∷ 2 ∷ 0 ∷ []) ∷ (0 ∷ 0 ∷ 0 ∷ []) ∷ (0 ∷ []) ∷ [])
    ∷ ((1 ∷ 2 ∷ 0 ∷ 3 ∷ []) ∷ (0 ∷ 0 ∷ 0 ∷ 3 ∷ []) ∷ (3 ∷ []) ∷ []) ∷ ((1 ∷ 0 ∷ []) ∷ (0 ∷ 0 ∷ []) ∷ (0 ∷ []) ∷ [])
    ∷ ((1 ∷ 0 ∷ 2 ∷ []) ∷ (0 ∷ 0 ∷ 2 ∷ []) ∷ (0 ∷ []) ∷ []) ∷ ((0 ∷ 1 ∷ []) ∷ (0 ∷ 1 ∷ []) ∷ (1 ∷ []) ∷ []) ∷ []
moves = refl
