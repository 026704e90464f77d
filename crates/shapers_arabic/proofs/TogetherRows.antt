-- Buffers put together, on small texts written out from the rule.
use Rattle.std.proofs.Common.{◌≡◌, ◌==◌, ℕ, suc, List, [], ◌∷◌, map, get_or, Option, None, Some, codes, refl, arith}
use Rattle.std.specs.Prelude.{if◌then◌else◌}
use Rattle.shapers_buffer.specs.Buffer.{Buffer, new_buffer}
use Rattle.shapers_buffer.specs.Glyph.{default_glyph}
use Rattle.shapers_buffer.specs.declared.buffer.category.hb_unicode_general_category_t.{hb_unicode_general_category_t}
use Rattle.shapers_buffer.specs.declared.buffer.category.hb_unicode_general_category_t.TheVariants as gc
use Rattle.shapers_buffer.specs.Glyphs.{Glyph, Glyphs}
use Rattle.shapers_buffer.specs.declared.buffer.tag.Script.{Script}
use Rattle.shapers_base.specs.declared.plan.breaks.BreakFlags.TheVariants.{AsCode}
use Rattle.shapers_base.specs.declared.plan.joining.hb_arabic_joining_type_t.{hb_arabic_joining_type_t}
use Rattle.shapers_base.specs.declared.plan.joining.hb_arabic_joining_type_t.TheVariants.{U, R, D, T}
use Rattle.shapers_clusters.specs.Borders.{IsBare}
use Rattle.shapers_arabic.specs.declared.ot_shaper_arabic.arabic_action_t.TheConstants.{FINA, INIT, ISOL, NONE}
use Rattle.shapers_arabic.specs.JoinedText.{buffer_joined}
use Rattle.shapers_arabic.specs.Together.{HasOwnLetter, KeepsParts, together_at}

-- a made table: D for 1, R for 2, T for 3, U for others
abbrev joining_of : ℕ → hb_arabic_joining_type_t
joining_of c = if c == 1 then D else if c == 2 then R else if c == 3 then T else U

abbrev letters : ℕ → hb_unicode_general_category_t
letters c = gc.Lo

-- characters, each in a cluster of its own from this one on
abbrev text : ℕ → List ℕ → Glyphs
text n [] = []
text n (c ∷ cs) = record default_glyph { glyph_id = c; cluster = n } ∷ text (suc n) cs

abbrev buffer_of : ℕ → List ℕ → List ℕ → List ℕ → Buffer
buffer_of flags before cs after = let b : Buffer =
    record (new_buffer 9) { flags = record { 0 = flags }; glyphs = text 0 cs; before = before; after = after } in b

-- what is put together: two glyphs of the first text, two of the second, and the outer contexts;
-- all else is the first buffer's
abbrev both : Buffer
both = together_at 2 1 (buffer_of 0x40 (7 ∷ []) (1 ∷ 2 ∷ 3 ∷ []) (8 ∷ []))
    (buffer_of 0 (9 ∷ []) (4 ∷ 5 ∷ 6 ∷ []) (10 ∷ []))

row_both : both
    ≡ record (buffer_of 0x40 (7 ∷ []) [] (10 ∷ [])) {
      glyphs = record default_glyph { glyph_id = 1; cluster = 0 }
          ∷ record default_glyph { glyph_id = 2; cluster = 1 } ∷ record default_glyph { glyph_id = 5; cluster = 1 }
          ∷ record default_glyph { glyph_id = 6; cluster = 2 } ∷ [];
    }
row_both = refl

-- glyphs with a letter, with none behind them, and with a letter behind them alone
row_letter : HasOwnLetter joining_of letters 1 (buffer_of 0 [] (9 ∷ 3 ∷ 1 ∷ []) (2 ∷ []))
row_letter none = cc

row_mark : HasOwnLetter joining_of letters 1 (buffer_of 0 [] (1 ∷ 3 ∷ []) (3 ∷ 3 ∷ []))
row_mark none = refl

row_behind : HasOwnLetter joining_of letters 1 (buffer_of 0 [] (1 ∷ 3 ∷ []) (3 ∷ 2 ∷ [])) → ⊥
row_behind = search arith

-- glyphs: a character, a form, a mask, a cluster
abbrev glyph : ℕ → ℕ → ℕ → ℕ → Glyph
glyph c a m k = record default_glyph { glyph_id = c; auxiliary = a; mask = m; cluster = k }

abbrev mong : Option Script
mong = Some (record { 0 = codes "Mong" })

other_forms : (i : ℕ) (xs ys : Glyphs) → xs ≡ ys → get_or (map (λ g. g.auxiliary) xs) i 0
    ≡ get_or (map (λ g. g.auxiliary) ys) i 0
other_forms i xs ys e = cc

other_masks : (i : ℕ) (xs ys : Glyphs) → xs ≡ ys → get_or (map (λ g. g.mask) xs) i 0
    ≡ get_or (map (λ g. g.mask) ys) i 0
other_masks i xs ys e = cc

-- clusters and glyph flags may differ, and what isn't taken; a form or another mask may not
row_kept : KeepsParts None 1 1 (glyph 1 0 8 0 ∷ glyph 9 9 9 9 ∷ []) (glyph 9 9 9 9 ∷ glyph 2 1 16 1 ∷ [])
    (glyph 1 0 11 5 ∷ glyph 2 1 20 3 ∷ [])
row_kept = search arith

row_first_form : KeepsParts None 1 1 (glyph 1 0 8 0 ∷ []) (glyph 9 9 9 9 ∷ glyph 2 1 16 1 ∷ [])
    (glyph 1 6 8 0 ∷ glyph 2 1 16 1 ∷ []) → ⊥
row_first_form = search arith

row_second_form : KeepsParts None 1 1 (glyph 1 0 8 0 ∷ []) (glyph 9 9 9 9 ∷ glyph 2 1 16 1 ∷ [])
    (glyph 1 0 8 0 ∷ glyph 2 0 16 1 ∷ []) → ⊥
row_second_form = search arith

row_second_mask : KeepsParts None 1 1 (glyph 1 0 8 0 ∷ []) (glyph 9 9 9 9 ∷ glyph 2 1 16 1 ∷ [])
    (glyph 1 0 8 0 ∷ glyph 2 1 8 1 ∷ []) → ⊥
row_second_mask = search arith

-- selectors that begin the second part may differ with the script Mongolian, a later one and other scripts' may not
row_selector : KeepsParts mong 1 1 (glyph 1 0 8 0 ∷ []) (glyph 9 9 9 9 ∷ glyph 0x180B 7 0 1 ∷ glyph 1 0 8 2 ∷ [])
    (glyph 1 0 8 0 ∷ glyph 0x180B 0 8 1 ∷ glyph 1 0 8 2 ∷ [])
row_selector = search arith

row_other_script : KeepsParts None 1 1 (glyph 1 0 8 0 ∷ []) (glyph 9 9 9 9 ∷ glyph 0x180B 7 0 1 ∷ glyph 1 0 8 2 ∷ [])
    (glyph 1 0 8 0 ∷ glyph 0x180B 0 8 1 ∷ glyph 1 0 8 2 ∷ []) → ⊥
row_other_script = search arith

row_later_selector : KeepsParts mong 1 1 (glyph 1 0 8 0 ∷ []) (glyph 9 9 9 9 ∷ glyph 1 0 8 1 ∷ glyph 0x180B 7 0 2 ∷ [])
    (glyph 1 0 8 0 ∷ glyph 1 0 8 1 ∷ glyph 0x180B 0 0 2 ∷ []) → ⊥
row_later_selector = search arith

-- forms, and masks, after joining with no masks of forms
abbrev after : Buffer → Buffer
after b = buffer_joined AsCode [] None joining_of letters b

abbrev forms_after : Buffer → List ℕ
forms_after b = map (λ g. g.auxiliary) (after b).glyphs

abbrev masks_after : Buffer → List ℕ
masks_after b = map (λ g. g.mask) (after b).glyphs

-- each condition is needed. A second buffer that wants no flags of concatenation: D of D U before D
-- of U D, which looks bare
row_unwanted : IsBare (after (buffer_of 0 [] (9 ∷ 1 ∷ []) [])).glyphs 1
row_unwanted = search arith

row_wanted : masks_after (buffer_of 0x40 [] (9 ∷ 1 ∷ []) []) ≡ 2 ∷ 2 ∷ []
row_wanted = refl

row_apart : forms_after (buffer_of 0x40 [] (1 ∷ 9 ∷ []) []) ≡ ISOL ∷ NONE ∷ []
row_apart = refl

row_joined : forms_after (together_at 1 1 (buffer_of 0x40 [] (1 ∷ 9 ∷ []) []) (buffer_of 0 [] (9 ∷ 1 ∷ []) []))
    ≡ INIT ∷ FINA ∷ []
row_joined = refl

-- the first border has flag 1: D of D D before U of U U, which is bare
row_unclear : masks_after (buffer_of 0x40 [] (1 ∷ 1 ∷ []) []) ≡ 2 ∷ 3 ∷ []
row_unclear = refl

row_bare : masks_after (buffer_of 0x40 [] (9 ∷ 9 ∷ []) []) ≡ 0 ∷ 0 ∷ []
row_bare = refl

row_lost : forms_after (buffer_of 0x40 [] (1 ∷ 1 ∷ []) []) ≡ INIT ∷ FINA ∷ []
row_lost = refl

row_lost_together : forms_after (together_at 1 1 (buffer_of 0x40 [] (1 ∷ 1 ∷ []) []) (buffer_of 0x40 [] (9 ∷ 9 ∷ [])
    [])) ≡ ISOL ∷ NONE ∷ []
row_lost_together = refl

-- no letter but the one that follows: D of D T before T of U T before R
row_no_flag : masks_after (buffer_of 0x40 [] (9 ∷ 3 ∷ []) (2 ∷ [])) ≡ 0 ∷ 0 ∷ []
row_no_flag = refl

row_alone : forms_after (buffer_of 0x40 [] (1 ∷ 3 ∷ []) []) ≡ ISOL ∷ NONE ∷ []
row_alone = refl

row_followed : forms_after
    (together_at 1 1 (buffer_of 0x40 [] (1 ∷ 3 ∷ []) []) (buffer_of 0x40 [] (9 ∷ 3 ∷ []) (2 ∷ []))) ≡ INIT ∷ NONE ∷ []
row_followed = refl

-- the first border's flag 2 forbids nothing: D of D U, unsafe to concatenate, before U of U U
row_concat : masks_after (buffer_of 0x40 [] (1 ∷ 9 ∷ []) []) ≡ 2 ∷ 2 ∷ []
row_concat = refl

row_stays : forms_after (together_at 1 1 (buffer_of 0x40 [] (1 ∷ 9 ∷ []) []) (buffer_of 0x40 [] (9 ∷ 9 ∷ []) []))
    ≡ ISOL ∷ NONE ∷ []
row_stays = refl
