-- Clear places after Indic's initial reordering, and what its laws require, written out from the rules.
use Prim.Native.String.{String}
use Rattle.std.proofs.Common.{ℕ, ◌<◌, ◌≡◌, false, true, List, [], ◌∷◌, ◌++◌, length, map, refl, sym, arith, inl, inr, ◌⊎◌}
use Rattle.std.specs.Prelude.{None}
use Rattle.std.proofs.lemmas.Bool.{false≢true}
use Rattle.std.proofs.lemmas.List.Elements.{All-cons, All-get_or, All-head, All-nil, All-tail}
use Rattle.shapers_buffer.specs.Glyphs.{Glyph, Glyphs}
use Rattle.shapers_buffer.specs.declared.buffer.syllables.Span.{Span}
use Rattle.shapers_buffer.specs.declared.buffer.level.BufferClusterLevel.TheVariants.{MonotoneGraphemes}
use Rattle.shapers_buffer.specs.Glyph.{default_glyph}
use Rattle.shapers_base.specs.declared.plan.indic.BaseSearch.TheVariants.{WithoutMedials}
use Rattle.shapers_clusters.specs.Breaks.{IsClear}
use Rattle.shapers_clusters.specs.Steps.{after_steps}
use Rattle.shapers_indic.specs.Plan.{config_of}
use Rattle.shapers_indic.proofs.RowWords.{C, H, M, Ra, SM, ZWJ, script}
use Rattle.shapers_indic_final.proofs.FinalWords.{rules as final_of}
use Rattle.shapers_indic_final.specs.FinalMatras.{partition_steps}
use Rattle.shapers_indic_final.specs.FinalReordering.{final_steps}
use Rattle.shapers_indic_initial.specs.InitialReordering.{initial_order, initial_steps}
use Rattle.shapers_indic_initial.specs.InitialRules.{Rules}
use Rattle.shapers_syllabic.specs.Reordering.{text_steps}
use Rattle.shapers_syllabic.specs.Syllabic.{unsafe_spans}
use Rattle.shapers_break_laws.specs.FinalBreaks.{IsOfTwoClusters, OneMatraMoves, SeparatesNothing}
use Rattle.shapers_break_laws.specs.IndicBreaks.{JoinerShares, SpansSeparateClusters}
use Rattle.rustybuzz_shapers.specs.Pauses.{Reordering}
use Rattle.shapers_break_laws.specs.IndicChain.{reordered_text}
use Rattle.shapers_break_laws.specs.Setup.{IsFlagged}
use Rattle.shapers_break_laws.specs.KeptTextBreaks.{FlaggedInside}

-- a glyph in this cluster, of a category and a position
typed : ℕ → ℕ → ℕ → Glyph
typed c category position = record default_glyph { cluster = c; category = category; auxiliary = position }

-- the newer specification of a script, with no mask and a font that substitutes nothing
plain_rules : String → Rules
plain_rules tag = record {
  config = config_of (script tag);
  old = false;
  search = WithoutMedials;
  masks = 0 ∷ 0 ∷ 0 ∷ 0 ∷ 0 ∷ 0 ∷ 0 ∷ 0 ∷ 0 ∷ 0 ∷ 0 ∷ 0 ∷ 0 ∷ 0 ∷ 0 ∷ 0 ∷ 0 ∷ [];
  forms_reph = λ ids. false;
  forms_pref = λ ids. false;
}

-- clusters and masks; those of one syllable after its steps
pairs : Glyphs → List (ℕ × ℕ)
pairs gs = map (λ (g : Glyph). (g.cluster, g.mask)) gs

after : String → Glyphs → List (ℕ × ℕ)
after tag gs = pairs (after_steps MonotoneGraphemes (initial_steps (plain_rules tag) (script tag) gs) gs)

one : List Span
one = record { len = 5; kind = 0 } ∷ []

-- Kannada: Ra H ZWJ, a consonant of a post-base form, a matra that goes before it. As H and ZWJ change places they take
-- the Ra along into their cluster, and then they leave it: no glyph of cluster 1 is flagged, and place 1 is clear
parted : Glyphs
parted = typed 2 Ra 4 ∷ typed 2 H 4 ∷ typed 1 ZWJ 4 ∷ typed 0 C 11 ∷ typed 0 M 9 ∷ []

row_parted : after "Knda" (unsafe_spans one parted) ≡ (1, 0) ∷ (0, 0) ∷ (0, 0) ∷ (0, 0) ∷ (0, 0) ∷ []
unfolding typed plain_rules pairs after one parted
row_parted = refl

row_not_shared : JoinerShares (script "Knda") parted → ⊥
unfolding typed parted
row_not_shared shares = absurd (omega (arith, shares refl))

-- where both are in one cluster the Ra keeps its flag
shared : Glyphs
shared = typed 2 Ra 4 ∷ typed 1 H 4 ∷ typed 1 ZWJ 4 ∷ typed 0 C 11 ∷ typed 0 M 9 ∷ []

row_shared : after "Knda" (unsafe_spans one shared) ≡ (2, 3) ∷ (0, 0) ∷ (0, 0) ∷ (0, 0) ∷ (0, 0) ∷ []
unfolding typed plain_rules pairs after one shared
row_shared = refl

row_shares : JoinerShares (script "Knda") shared
unfolding typed shared
row_shares e = refl

-- in another script nothing is asked of them, nor where Ra H is followed by something else
row_elsewhere : JoinerShares (script "Deva") parted
unfolding typed parted
row_elsewhere e = absurd (false≢true e)

row_no_joiner : JoinerShares (script "Knda") (typed 2 Ra 4 ∷ typed 2 H 4 ∷ typed 1 C 4 ∷ [])
unfolding typed
row_no_joiner e = absurd (false≢true e)

-- a left matra goes to the front with its flag: C M, and another C, of clusters 0 1 2
two : List Span
two = record { len = 2; kind = 0 } ∷ record { len = 1; kind = 0 } ∷ []

row_left : after "Deva" (typed 0 C 4 ∷ record (typed 1 M 2) { mask = 3 } ∷ []) ≡ (1, 3) ∷ (0, 0) ∷ []
unfolding typed plain_rules pairs after
row_left = refl

row_clear : IsClear (record default_glyph { cluster = 1; mask = 3 } ∷ typed 0 C 4 ∷ typed 2 C 4 ∷ []) 2
unfolding typed
row_clear = record { differ = λ e. absurd (omega arith); unflagged = refl }

row_not_clear : IsClear (record default_glyph { cluster = 1; mask = 3 } ∷ typed 0 C 4 ∷ typed 2 C 4 ∷ []) 1 → ⊥
unfolding typed
row_not_clear clear = false≢true (sym clear.unflagged)

-- a border of spans within a cluster
row_within : SpansSeparateClusters two (typed 0 C 4 ∷ typed 1 M 2 ∷ typed 1 C 4 ∷ []) → ⊥
unfolding typed two
row_within part = part 2 (omega arith) (omega arith) (record {
  front = record { len = 2; kind = 0 } ∷ [];
  back = record { len = 1; kind = 0 } ∷ [];
  split = refl;
  place = refl;
}) refl

-- is part of what is required: C SM M, and then C, of clusters 0 0 1 1. M moves before SM and falls into its cluster, so
-- that place 3 is clear, though the halves share cluster 1
halves : List Span
halves = record { len = 3; kind = 0 } ∷ record { len = 1; kind = 0 } ∷ []

within : Glyphs
within = typed 0 C 4 ∷ typed 0 SM 13 ∷ typed 1 M 9 ∷ typed 1 C 4 ∷ []

row_unparted : pairs (after_steps MonotoneGraphemes
    (text_steps (initial_steps (plain_rules "Deva") (script "Deva")) (unsafe_spans halves within))
    (unsafe_spans halves within)) ≡ (0, 0) ∷ (0, 0) ∷ (0, 0) ∷ (1, 0) ∷ []
unfolding typed plain_rules halves within pairs
row_unparted = refl

-- all but the least cluster of a syllable are flagged, by both bits
row_flagged : FlaggedInside (typed 1 C 4 ∷ record (typed 2 M 2) { mask = 3 } ∷ [])
unfolding typed
row_flagged = All-cons (λ (g : Glyph). 1 < g.cluster → IsFlagged g) (typed 1 C 4)
    (record (typed 2 M 2) { mask = 3 } ∷ []) (λ above. absurd (omega (arith, above)))
    (All-cons (λ (g : Glyph). 1 < g.cluster → IsFlagged g) (record (typed 2 M 2) { mask = 3 }) []
    (λ above. (refl, refl)) (All-nil (λ (g : Glyph). 1 < g.cluster → IsFlagged g)))

row_one_bit : FlaggedInside (typed 1 C 4 ∷ record (typed 2 M 2) { mask = 1 } ∷ []) → ⊥
unfolding typed
row_one_bit all =
    let P : Glyph → Type 0 = λ g. 1 < g.cluster → IsFlagged g in
    let rest = All-tail P (typed 1 C 4) (record (typed 2 M 2) { mask = 1 } ∷ []) all in
    let flags = All-head P (record (typed 2 M 2) { mask = 1 }) [] rest (omega arith) in
    absurd (omega (arith, flags.1))

-- The final reordering: two left matras before C H and C, as the initial one leaves them, of clusters 0 2 2 2 1. The
-- first to move takes C H along as it falls to 1, the second parts them from the last C, whose flag kept cluster 1
-- unsafe: place 2 is clear. One left matra parts nothing that lost its flag
kept_one : Glyphs
kept_one = typed 0 M 2 ∷ record (typed 2 C 3) { mask = 3 } ∷ record (typed 2 H 3) { mask = 3 }
    ∷ record (typed 1 C 4) { mask = 3 } ∷ []

kept_two : Glyphs
kept_two = typed 0 M 2 ∷ record (typed 2 M 2) { mask = 3 } ∷ record (typed 2 C 3) { mask = 3 }
    ∷ record (typed 2 H 3) { mask = 3 } ∷ record (typed 1 C 4) { mask = 3 } ∷ []

row_one_matra : pairs (after_steps MonotoneGraphemes (partition_steps 2 4 kept_one) kept_one)
    ≡ (2, 3) ∷ (2, 3) ∷ (0, 0) ∷ (0, 0) ∷ []
unfolding typed pairs kept_one
row_one_matra = refl

row_two_matras : pairs (after_steps MonotoneGraphemes (partition_steps 3 5 kept_two) kept_two)
    ≡ (1, 0) ∷ (1, 0) ∷ (0, 0) ∷ (0, 0) ∷ (0, 0) ∷ []
unfolding typed pairs kept_two
row_two_matras = refl

row_both_move : map (λ gs. length (partition_steps 2 4 gs)) (kept_one ∷ []) ++ map (λ gs. length (partition_steps 3 5 gs))
    (kept_two ∷ []) ≡ 1 ∷ 2 ∷ []
unfolding typed kept_one kept_two
row_both_move = refl

row_moves_one : OneMatraMoves (final_of "Deva") (script "Deva") kept_one
unfolding typed kept_one
row_moves_one = omega arith

row_moves_two : OneMatraMoves (final_of "Deva") (script "Deva") kept_two → ⊥
unfolding typed kept_two
row_moves_two h = absurd (omega (arith, h))

-- three numbers are not two
none_of_three : (b c : ℕ) → (2 ≡ b) ⊎ (2 ≡ c) → (1 ≡ b) ⊎ (1 ≡ c) → (0 ≡ b) ⊎ (0 ≡ c) → ⊥
none_of_three b c x y z = elim x [
  | inl p ↦ elim y [ inl q ↦ absurd (omega arith) | inr q ↦ elim z [ inl r ↦ absurd (omega arith) | inr r ↦ absurd (omega arith) ] ]
  | inr p ↦ elim y [ inl q ↦ elim z [ inl r ↦ absurd (omega arith) | inr r ↦ absurd (omega arith) ] | inr q ↦ absurd (omega arith) ]
]

-- Both reorderings of C H, a below-base Ra that the font could put before the base, and a left matra, of clusters
-- 2 2 1 0. In the initial one the matra goes to the front, and C H fall to the cluster of Ra, which alone keeps a flag;
-- in the final one the Ra, unformed, is the base, and falls to 0 with the matra, which moves before it: C H stay in
-- cluster 1 without a flag, and place 2 is clear
lost : Glyphs
lost = typed 2 C 4 ∷ typed 2 H 4 ∷ typed 1 Ra 8 ∷ typed 0 M 2 ∷ []

with_pref : Rules
with_pref = record (plain_rules "Beng") {
  masks = 0 ∷ 0 ∷ 0 ∷ 0 ∷ 16 ∷ 0 ∷ 0 ∷ 0 ∷ 0 ∷ 0 ∷ 0 ∷ 0 ∷ 0 ∷ 0 ∷ 0 ∷ 0 ∷ 0 ∷ [];
  forms_pref = λ ids. true;
}

by_pref : Reordering
by_pref = record {
  circles = None;
  order = initial_order with_pref (script "Beng");
  steps = initial_steps with_pref (script "Beng");
}

syllable_of : ℕ → ℕ → ℕ → ℕ → Glyph
syllable_of c mask category position = record (typed c category position) { mask = mask; syllable = 16 }

between : Glyphs
between = syllable_of 0 0 M 2 ∷ syllable_of 1 0 C 4 ∷ syllable_of 1 16 H 8 ∷ syllable_of 1 19 Ra 8 ∷ []

four : List Span
four = record { len = 4; kind = 0 } ∷ []

row_lost : reordered_text by_pref MonotoneGraphemes (unsafe_spans four lost) ≡ between
unfolding typed plain_rules lost with_pref by_pref syllable_of between four
row_lost = refl

lost_twice : Glyphs
lost_twice = after_steps MonotoneGraphemes (final_steps (final_of "Beng") (script "Beng") between) between

row_lost_twice : pairs lost_twice ≡ (1, 0) ∷ (1, 16) ∷ (0, 0) ∷ (0, 16) ∷ []
unfolding typed pairs syllable_of between lost_twice
row_lost_twice = refl

row_clear_inside : IsClear lost_twice 2
unfolding typed syllable_of between lost_twice
row_clear_inside = record { differ = λ e. absurd (omega (arith, e)); unflagged = refl }

row_not_kept : FlaggedInside between → ⊥
unfolding typed syllable_of between
row_not_kept all =
    let P : Glyph → Type 0 = λ g. 0 < g.cluster → IsFlagged g in
    let flags = All-get_or P between 1 default_glyph (omega arith) all (omega arith) in
    absurd (omega (arith, flags.0))

row_moves_one_lost : OneMatraMoves (final_of "Beng") (script "Beng") between
unfolding typed syllable_of between
row_moves_one_lost = omega arith

-- where the syllable has two clusters it keeps its flags
kept : Glyphs
kept = typed 1 C 4 ∷ typed 1 H 4 ∷ typed 0 C 4 ∷ typed 0 C 8 ∷ typed 0 M 2 ∷ []

row_kept : after "Deva" (unsafe_spans one kept) ≡ (0, 0) ∷ (1, 3) ∷ (1, 3) ∷ (0, 0) ∷ (0, 0) ∷ []
unfolding typed plain_rules pairs after one kept
row_kept = refl

row_two : IsOfTwoClusters kept
unfolding typed kept
row_two =
    let Two : Glyph → Type 0 = λ g. (g.cluster ≡ 1) ⊎ (g.cluster ≡ 0) in (
      1,
      0,
      All-cons Two (typed 1 C 4) (typed 1 H 4 ∷ typed 0 C 4 ∷ typed 0 C 8 ∷ typed 0 M 2 ∷ []) (inl refl)
          (All-cons Two (typed 1 H 4) (typed 0 C 4 ∷ typed 0 C 8 ∷ typed 0 M 2 ∷ []) (inl refl)
          (All-cons Two (typed 0 C 4) (typed 0 C 8 ∷ typed 0 M 2 ∷ []) (inr refl)
          (All-cons Two (typed 0 C 8) (typed 0 M 2 ∷ []) (inr refl)
          (All-cons Two (typed 0 M 2) [] (inr refl) (All-nil Two))))),
    )

-- and not three
row_three : IsOfTwoClusters lost → ⊥
unfolding typed lost
row_three two =
    let Two : Glyph → Type 0 = λ g. (g.cluster ≡ two.0) ⊎ (g.cluster ≡ two.1) in
    let a = All-get_or Two lost 0 default_glyph (omega arith) two.2 in
    let b = All-get_or Two lost 2 default_glyph (omega arith) two.2 in
    let c = All-get_or Two lost 3 default_glyph (omega arith) two.2 in
    none_of_three two.0 two.1 a b c

-- two matras that move part three clusters
row_parts_two : SeparatesNothing (final_of "Deva") (script "Deva") kept_two → ⊥
unfolding typed kept_two
row_parts_two h = elim h [
  | inl one ↦ absurd (omega (arith, one))
  | inr two ↦
      let Two : Glyph → Type 0 = λ g. (g.cluster ≡ two.0) ⊎ (g.cluster ≡ two.1) in
      let a = All-get_or Two kept_two 1 default_glyph (omega arith) two.2 in
      let b = All-get_or Two kept_two 4 default_glyph (omega arith) two.2 in
      let c = All-get_or Two kept_two 0 default_glyph (omega arith) two.2 in
      none_of_three two.0 two.1 a b c
]

row_parts_one : SeparatesNothing (final_of "Deva") (script "Deva") kept_one
unfolding typed kept_one
row_parts_one = inl (omega arith)

row_parts_of_two : SeparatesNothing (final_of "Deva") (script "Deva") kept
row_parts_of_two = inr row_two
