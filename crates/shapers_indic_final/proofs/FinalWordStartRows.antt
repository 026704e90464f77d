-- The opening of syllables, and whole texts, computed.
use Rattle.std.specs.Prelude.{◌≡◌, ℕ, ◌+◌, ◌%◌, true, false, List, [], ◌∷◌, ◌++◌, map, None, Some, refl}
use Rattle.shapers_buffer.specs.declared.buffer.category.hb_unicode_general_category_t.{hb_unicode_general_category_t}
use Rattle.shapers_buffer.specs.declared.buffer.category.hb_unicode_general_category_t.TheVariants.{Cc, Cf, Cn, Co, Cs, Ll, Lm, Lo, Lt, Lu, Mc, Me, Mn, Nd, Nl, No, Pc, Pd, Pe, Pf, Pi, Po, Ps, Sc, Sk, Sm, So, Zl, Zp, Zs}
use Rattle.shapers_buffer.specs.Glyphs.{Glyph, Glyphs}
use Rattle.shapers_buffer.specs.declared.buffer.level.BufferClusterLevel.TheVariants.{MonotoneGraphemes}
use Rattle.shapers_buffer.specs.Glyph.{clusters, default_glyph}
use Rattle.shapers_buffer.specs.Properties.{general_category, properties}
use Rattle.shapers_clusters.specs.Steps.{after_steps}
use Rattle.shapers_indic.proofs.RowWords.{C, M, row_masks, numbers_of, script}
use Rattle.shapers_indic_final.proofs.FinalWords.{rules}
use Rattle.shapers_indic_final.specs.FinalLaws.{at_syllable_start, SameButFirstBits, with_first_bits}
use Rattle.shapers_indic_final.specs.FinalWordStart.{bound_from, continues_word, final_syllables, final_text, is_bound, last_or, starts_syllable, with_init}
use Rattle.shapers_indic_final.specs.FinalReordering.{final_steps}
use Rattle.shapers_syllabic.specs.Reordering.{text_steps}

-- every category: Cc no, Cf to Mn yes, the rest no
categories : map continues_word (Cc ∷ Cf ∷ Cn ∷ Co ∷ Cs ∷ Ll ∷ Lm ∷ Lo ∷ Lt ∷ Lu ∷ Mc ∷ Me ∷ Mn ∷ Nd ∷ Nl ∷ No ∷ Pc ∷ Pd
    ∷ Pe ∷ Pf ∷ Pi ∷ Po ∷ Ps ∷ Sc ∷ Sk ∷ Sm ∷ So ∷ Zl ∷ Zp ∷ Zs ∷ [])
    ≡ false ∷ true ∷ true ∷ true ∷ true ∷ true ∷ true ∷ true ∷ true ∷ true ∷ true ∷ true ∷ true ∷ false ∷ false ∷ false
    ∷ false ∷ false ∷ false ∷ false ∷ false ∷ false ∷ false ∷ false ∷ false ∷ false ∷ false ∷ false ∷ false ∷ false
    ∷ []
categories = refl

-- a glyph of a syllable byte, with a general category, category and position
abbrev one : ℕ → ℕ → hb_unicode_general_category_t → ℕ → ℕ → Glyph
one i byte general c p = record default_glyph {
  glyph_id = i;
  cluster = i;
  mask = 64;
  syllable = byte;
  unicode_props = properties general 0;
  category = c;
  auxiliary = p;
}

-- a left matra in front of a syllable: at the start of the text or behind a blank it gets init,
-- behind a letter a break before it is unsafe; other glyphs get neither
abbrev syllable : ℕ → Glyphs
syllable p = one 1 17 Mc M p ∷ one 2 17 Lo C 4 ∷ one 3 17 Mc M 2 ∷ []

inits : row_masks (with_init 32 None (syllable 2)) ∷ row_masks (with_init 32 (Some (one 0 33 Zs 0 0)) (syllable 2))
    ∷ row_masks (with_init 32 (Some (one 0 33 Lo 0 0)) (syllable 2)) ∷ row_masks (with_init 32 None (syllable 3))
    ∷ row_masks (with_init 32 None (syllable 1)) ∷ row_masks (with_init 0 None (syllable 2))
    ∷ row_masks (with_init 32 None []) ∷ [] ≡ (96 ∷ 64 ∷ 64 ∷ []) ∷ (96 ∷ 64 ∷ 64 ∷ []) ∷ (64 ∷ 64 ∷ 64 ∷ [])
    ∷ (64 ∷ 64 ∷ 64 ∷ []) ∷ (64 ∷ 64 ∷ 64 ∷ []) ∷ (64 ∷ 64 ∷ 64 ∷ []) ∷ [] ∷ []
unfolding general_category
inits = refl

bound : is_bound None (syllable 2) ∷ is_bound (Some (one 0 33 Zs 0 0)) (syllable 2)
    ∷ is_bound (Some (one 0 33 Lo 0 0)) (syllable 2) ∷ is_bound (Some (one 0 33 Lo 0 0)) (syllable 3)
    ∷ is_bound (Some (one 0 33 Lo 0 0)) [] ∷ [] ≡ false ∷ false ∷ true ∷ false ∷ false ∷ []
unfolding general_category
bound = refl

-- two lists that differ in these bits of their first glyph alone: with init there or without; but
-- not where the second glyph has them,
-- nor where the first differs in another bit
abbrev masked : ℕ → ℕ → Glyphs
masked m n =
    let g : Glyph = record default_glyph { mask = m } in
    let h : Glyph = record default_glyph { mask = n } in
    g ∷ h ∷ []

same_first : SameButFirstBits 32 (masked 64 64) (masked 96 64)
same_first = refl

first_bits : map (λ gs. row_masks (with_first_bits 32 gs)) ([] ∷ masked 64 64 ∷ masked 96 64 ∷ masked 64 96
    ∷ masked 192 64 ∷ []) ≡ [] ∷ (96 ∷ 64 ∷ []) ∷ (96 ∷ 64 ∷ []) ∷ (96 ∷ 96 ∷ []) ∷ (224 ∷ 64 ∷ []) ∷ []
first_bits = refl

lasts : last_or None (1 ∷ 2 ∷ []) ∷ last_or (Some 5) (1 ∷ []) ∷ last_or (Some 5) [] ∷ last_or {X = ℕ} None
    [] ∷ [] ≡ Some 2 ∷ Some 1 ∷ Some 5 ∷ None ∷ []
lasts = refl

-- a text: order, masks, clusters and glyph flags after
abbrev after : Glyphs → List (List ℕ)
after gs =
    let run = after_steps MonotoneGraphemes (text_steps (final_steps (rules "Deva") (script "Deva")) gs) gs in
    let bound = bound_from 0 None (final_syllables (rules "Deva") (script "Deva") gs) run in
    numbers_of (final_text (rules "Deva") (script "Deva") gs) ∷ row_masks (final_text (rules "Deva") (script "Deva") gs)
    ∷ clusters bound ∷ numbers_of bound ∷ map (λ g. g.mask % 8) bound ∷ []

-- two syllables M C each behind a letter or a sign: the first begins the text; the second is bound
-- to a letter, and its own glyph is of a later cluster
abbrev pair : ℕ → ℕ → Glyphs
pair i byte = one i byte Mc M 2 ∷ one (i + 1) byte Lo C 4 ∷ []

texts : map after ((pair 0 16 ++ pair 2 32) ∷ (pair 0 16 ++ one 2 32 Zs 0 0 ∷ pair 3 48) ∷ (one 0 16 Lo C 4 ∷ pair 1 32)
    ∷ [] ∷ []) ≡ ((0 ∷ 1 ∷ 2 ∷ 3 ∷ []) ∷ (96 ∷ 64 ∷ 64 ∷ 64 ∷ []) ∷ (0 ∷ 0 ∷ 2 ∷ 2 ∷ []) ∷ (0 ∷ 1 ∷ 2 ∷ 3 ∷ [])
    ∷ (0 ∷ 0 ∷ 3 ∷ 0 ∷ []) ∷ [])
    ∷ ((0 ∷ 1 ∷ 2 ∷ 3 ∷ 4 ∷ []) ∷ (96 ∷ 64 ∷ 64 ∷ 96 ∷ 64 ∷ []) ∷ (0 ∷ 0 ∷ 2 ∷ 3 ∷ 3 ∷ []) ∷ (0 ∷ 1 ∷ 2 ∷ 3 ∷ 4 ∷ [])
    ∷ (0 ∷ 0 ∷ 0 ∷ 0 ∷ 0 ∷ []) ∷ [])
    ∷ ((0 ∷ 1 ∷ 2 ∷ []) ∷ (64 ∷ 64 ∷ 64 ∷ []) ∷ (0 ∷ 1 ∷ 1 ∷ []) ∷ (0 ∷ 1 ∷ 2 ∷ []) ∷ (0 ∷ 3 ∷ 0 ∷ []) ∷ [])
    ∷ ([] ∷ [] ∷ [] ∷ [] ∷ [] ∷ []) ∷ []
unfolding general_category
texts = refl

-- the glyph before a syllable is the last of the one before in its new order: a reph that went to
-- its end, of the category of blanks
reph_before : after (record (one 0 16 Zs C 1) { glyph_props = record { 0 = 0x20 } } ∷ one 1 16 Lo C 4 ∷ pair 2 32)
    ≡ (1 ∷ 0 ∷ 2 ∷ 3 ∷ []) ∷ (64 ∷ 64 ∷ 96 ∷ 64 ∷ []) ∷ (0 ∷ 0 ∷ 2 ∷ 2 ∷ []) ∷ (1 ∷ 0 ∷ 2 ∷ 3 ∷ [])
    ∷ (0 ∷ 0 ∷ 0 ∷ 0 ∷ []) ∷ []
unfolding general_category
reph_before = refl

-- clusters that neither rise nor fall, 0 2 2 1: the merge of the last syllable takes the matra before it along, whose
-- break is unsafe all the same
flag_stays : after (one 0 16 Lo C 4 ∷ one 2 32 Mc M 2 ∷ record (one 3 48 Mc M 2) { cluster = 2 }
    ∷ record (one 4 48 Lo C 4) { cluster = 1 } ∷ [])
    ≡ (0 ∷ 2 ∷ 3 ∷ 4 ∷ []) ∷ (64 ∷ 64 ∷ 64 ∷ 64 ∷ []) ∷ (0 ∷ 1 ∷ 1 ∷ 1 ∷ []) ∷ (0 ∷ 2 ∷ 3 ∷ 4 ∷ [])
    ∷ (0 ∷ 3 ∷ 0 ∷ 0 ∷ []) ∷ []
unfolding general_category
flag_stays = refl

-- breaks alone, from a place on and behind a letter: the first syllable's place is not 0
breaks : map (λ g. g.mask % 8) (bound_from 1 (Some (one 0 0 Lo 0 0)) ((one 1 16 Mc M 2 ∷ []) ∷ (one 2 32 Zs C 4 ∷ []) ∷
    (one 3 48 Mc M 2 ∷ []) ∷ []) (one 0 0 Lo 0 0 ∷ one 1 16 Mc M 2 ∷ one 2 32 Zs C 4 ∷ one 3 48 Mc M 2 ∷ []))
    ≡ 0 ∷ 3 ∷ 0 ∷ 0 ∷ []
unfolding general_category
breaks = refl

openings : map (at_syllable_start 1 (Some (one 0 0 Lo 0 0)) ((one 1 16 Mc M 2 ∷ []) ∷ (one 2 32 Zs C 4 ∷ [])
    ∷ (one 3 48 Mc M 2 ∷ []) ∷ [])) (0 ∷ 1 ∷ 2 ∷ 3 ∷ 4 ∷ []) ≡ true ∷ true ∷ false ∷ false ∷ false ∷ []
unfolding general_category
openings = refl

-- where a syllable starts: the text, and each byte unlike the one before
starts : map (λ k. starts_syllable k (pair 0 16 ++ pair 2 32)) (0 ∷ 1 ∷ 2 ∷ 3 ∷ []) ≡ true ∷ false ∷ true ∷ false ∷ []
starts = refl
