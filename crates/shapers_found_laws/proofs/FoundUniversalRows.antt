-- Rows for the stages of Indic and of the universal shaper, written out from what they say.
use Rattle.std.proofs.Common.{◌≡◌, ℕ, ◌≤◌, true, false, [], ◌∷◌, arith, inl, inr, lit≤, refl}
use Rattle.std.specs.Prelude.{map}
use Rattle.shapers_base.specs.declared.plan.pause.Pause.TheVariants.{SetupSyllablesIndic, SetupSyllablesKhmer, SetupSyllablesMyanmar, SetupSyllablesUse, InitialReordering, ReorderKhmer, ReorderMyanmar, ReorderUse, FinalReordering, RecordStch, RecordRphf, RecordPref, SyllabicClearVar, ClearSubstitutionFlags, ArabicFallbackShape}
use Rattle.shapers_buffer.specs.Glyph.{default_glyph}
use Rattle.shapers_buffer.specs.Glyphs.{Glyph}
use Rattle.shapers_universal.specs.UniversalSyllables.{rphf_recorded, with_rphf}
use Rattle.shapers_found_laws.specs.AddsNone.{AddsNone, is_in_category, is_unknown}
use Rattle.shapers_found_laws.specs.FoundIndic.{asks_kinds}
use Rattle.shapers_found_laws.specs.FoundSyllables.{OpensWithOne}
use Rattle.shapers_found_laws.specs.FoundUniversal.{RephaAlone, may_be_repha}

row_asks : map asks_kinds (InitialReordering ∷ ReorderKhmer ∷ ReorderMyanmar ∷ [])
    ≡ true ∷ true ∷ true ∷ []
row_asks = refl

row_asks_none : map asks_kinds (SetupSyllablesIndic ∷ SetupSyllablesKhmer ∷ SetupSyllablesMyanmar ∷ SetupSyllablesUse
    ∷ ReorderUse ∷ FinalReordering ∷ RecordStch ∷ RecordRphf ∷ RecordPref ∷ SyllabicClearVar ∷ ClearSubstitutionFlags
    ∷ ArabicFallbackShape ∷ [])
    ≡ false ∷ false ∷ false ∷ false ∷ false ∷ false ∷ false ∷ false ∷ false ∷ false ∷ false ∷ false ∷ []
row_asks_none = refl

-- a glyph of this category with this mask, in syllable 1 of kind 2; and one that a lookup put in
glyph_of : ℕ → ℕ → Glyph
glyph_of k mask = record default_glyph { category = k; mask = mask; syllable = 0x12 }

put_in : ℕ → ℕ → Glyph
put_in k mask = record (glyph_of k mask) { glyph_props = record { 0 = 0x10 } }

-- R and B become one glyph R, and R becomes two
row_ligated : AddsNone (is_in_category 18) (glyph_of 18 0 ∷ glyph_of 1 0 ∷ []) (glyph_of 18 0 ∷ [])
unfolding glyph_of
row_ligated = (lit≤ tt, tt)

row_doubled : AddsNone (is_in_category 18) (glyph_of 18 0 ∷ []) (glyph_of 18 0 ∷ glyph_of 18 0 ∷ []) → ⊥
unfolding glyph_of
row_doubled adds = omega (arith, adds.0)

-- kind 6 where kind 5 is the last known
row_unknown : map (λ byte. is_unknown 5 (record default_glyph { syllable = byte })) (0x15 ∷ 0x16 ∷ [])
    ≡ false ∷ true ∷ []
row_unknown = refl

-- a repha, no repha, and a mask of rphf of bit 16
row_may : map (may_be_repha 16) (glyph_of 18 0 ∷ glyph_of 1 0 ∷ glyph_of 1 16 ∷ glyph_of 1 15 ∷ [])
    ≡ true ∷ false ∷ true ∷ false ∷ []
unfolding glyph_of
row_may = refl

-- R with the mask before B without it; B B B with it; and R before B with it
row_alone : RephaAlone 16 (glyph_of 18 16 ∷ glyph_of 1 0 ∷ [])
unfolding glyph_of
row_alone = inr (lit≤ tt)

row_none : RephaAlone 16 (glyph_of 1 16 ∷ glyph_of 1 16 ∷ glyph_of 1 16 ∷ [])
unfolding glyph_of
row_none = inl refl

row_beside : RephaAlone 16 (glyph_of 18 0 ∷ glyph_of 1 16 ∷ []) → ⊥
unfolding glyph_of
row_beside (inl none) = omega (arith, none)
row_beside (inr few) = omega (arith, few)

-- where both have the mask and a lookup put in the B, the record makes two rephas, with which the
-- syllable opens
row_two : OpensWithOne 18 (rphf_recorded 16 (glyph_of 18 16 ∷ put_in 1 16 ∷ [])) → ⊥
unfolding glyph_of put_in
row_two opens = omega (arith, opens.0)

-- but the set-up gives the mask to an R in front alone
row_masked : map (λ g. g.mask) (with_rphf 16 (glyph_of 18 0 ∷ glyph_of 1 0 ∷ glyph_of 1 0 ∷ glyph_of 1 0 ∷ []))
    ≡ 16 ∷ 0 ∷ 0 ∷ 0 ∷ []
unfolding glyph_of
row_masked = refl

row_masked_three : map (λ g. g.mask) (with_rphf 16 (glyph_of 1 0 ∷ glyph_of 1 0 ∷ glyph_of 1 0 ∷ glyph_of 1 0 ∷ []))
    ≡ 16 ∷ 16 ∷ 16 ∷ 0 ∷ []
unfolding glyph_of
row_masked_three = refl
