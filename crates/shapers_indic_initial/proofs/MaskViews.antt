-- What shows of the masks of a syllable: order views carry them along, and what a reordering carries along hides them.
use mathlib.Core.Path.{fun_ext}
use Rattle.std.proofs.Common.{◌≡◌, ℕ, ◌+◌, ◌-◌, ◌%◌, ◌/◌, ◌≤◌, ◌&&◌, ◌||◌, ◌==◌, ◌++◌, Bool, true, false, not, if◌then◌else◌, [], ◌∷◌, length, map, take, drop, refl, sym, ap, ◌∙◌, arith, Option, Some, None}
use Rattle.std.specs.Prelude.{bit_and, nat_lt}
use Rattle.std.specs.List.{enumerate_from, list_any, prefix_len}
use Rattle.std.proofs.lemmas.List.{drop-map, length-map, map-append, take-map}
use Rattle.std.proofs.lemmas.Nat.{and_shr}
use Rattle.shapers_buffer.specs.Glyphs.{Glyph, Glyphs}
use Rattle.shapers_buffer.specs.declared.buffer.tag.Script.{Script}
use Rattle.shapers_buffer.specs.Buffer.{Buffer, but_places}
use Rattle.shapers_buffer.specs.Clusters.{stretch_of, with_stretch}
use Rattle.shapers_buffer.specs.Glyph.{order_view, without_flags}
use Rattle.shapers_buffer.specs.GlyphFlags.{with_bits}
use Rattle.shapers_buffer.proofs.MappedLists.{list_any-map, map-seen}
use Rattle.shapers_buffer.proofs.ClusterLemmas.{map-stretch}
use Rattle.shapers_base.specs.declared.plan.ot_category_t.TheConstants.{OT_H, OT_Ra, OT_ZWJ, OT_ZWNJ}
use Rattle.shapers_base.specs.declared.plan.ot_position_t.TheConstants.{POS_RA_TO_BECOME_REPH}
use Rattle.shapers_clusters.proofs.EqualArguments.{same_three, same_two}
use Rattle.shapers_clusters.proofs.FlagCalls.{flags-and, flags-or, plain-or}
use Rattle.shapers_indic.specs.declared.ot_shaper_indic.indic_feature.TheConstants.{BLWF, HALF, PREF, RPHF}
use Rattle.shapers_indic.specs.Glyphs.{has_category, has_position, is_one_of, least_place, numbers}
use Rattle.shapers_indic_initial.specs.InitialMasks.{bits_of, has_eyelash, is_in_eyelash, loses_half, mask_after_base, mask_before_base, begins_eyelash, pref_pair, with_bits_on_pair, with_eyelash_mask, with_initial_masks, with_masks_around, with_pref_mask, with_reph_mask, without_bits, without_half}
use Rattle.shapers_indic_initial.specs.InitialOrder.{ordered_base}
use Rattle.shapers_indic_initial.specs.InitialReordering.{masked_in_order}
use Rattle.shapers_indic_initial.specs.InitialRules.{Rules, mask_at}
use Rattle.shapers_indic_initial.specs.Proved.InitialViews.{HidesMasks, after_off, before_off, bits_off, hidden-with_initial_masks}
use Rattle.shapers_indic_initial.proofs.InitialReads.{View, numbers_stay, ordered_base_stays, passes_stays, plain_view, prefix_stays, shown}
use Rattle.shapers_indic_initial.proofs.InitialWrites.{numbered_stays}
use Rattle.shapers_syllabic.specs.Consonants.{is_consonant}
use Rattle.shapers_syllabic.specs.Reordering.{SyllableReordered, carried}
use Rattle.shapers_syllabic.proofs.SyllableThen.{syllable_changed}

-- bits that touch no glyph flag, where flags are left out
plain-and : (a m : ℕ) → m % 8 ≡ 0 → m ≤ 0xFFFFFFFF → without_flags (bit_and a (0xFFFFFFFF - m))
    ≡ bit_and (without_flags a) (0xFFFFFFFF - m)
plain-and a m off fits =
    let c = 0xFFFFFFFF - m in
    let x = bit_and a c in
    let y = bit_and _ c in
    let low = flags-and a m off fits in
    let none : y % 8 ≡ 0 = flags-and _ m off fits ∙ (let z : without_flags a % 8 ≡ 0 = omega arith in z) in
    let front : without_flags a / 8 ≡ a / 8 = omega arith in
    let same = and_shr a c 3 ∙ ap (λ n. bit_and n (c / 8)) (sym front) ∙ sym (and_shr (without_flags a) c 3) in
    omega arith

carried_hides_masks : (half : ℕ) → half % 8 ≡ 0 → half ≤ 0xFFFFFFFF → HidesMasks carried half
carried_hides_masks half off fits = record {
  given = λ m g none. ap (λ (x : ℕ). record g { mask = x; category = 0; auxiliary = 0; glyph_props = record { 0 = 0 } })
      (flags-or g.mask m none);
  taken = λ g. ap (λ (x : ℕ). record g { mask = x; category = 0; auxiliary = 0; glyph_props = record { 0 = 0 } })
      (flags-and g.mask half off fits);
}

-- a view that shows bits which touch no glyph flag as they are: those given, and those of half
pub record ShowsBits (v : View) (half : ℕ) : Type 0 where
  pub given : (m : ℕ) (g : Glyph) → m % 8 ≡ 0 → with_bits m (shown v g) ≡ shown v (with_bits m g)
  pub taken : (g : Glyph) → shown v (without_bits half g) ≡ without_bits half (shown v g)

module _ (v : View) (r : Rules) (k : ShowsBits v (bits_of r HALF)) where
  abbrev f : Glyph → Glyph
  f g = shown v g

  stretch_shown : (m s e : ℕ) → m % 8 ≡ 0 → (gs : Glyphs)
      → map f (with_stretch s e (map (with_bits m)) gs) ≡ with_stretch s e (map (with_bits m)) (map f gs)
  stretch_shown m s e off gs =
      let b = stretch_of s e gs in
      map-append f (take s gs) (map (with_bits m) b ++ drop e gs)
      ∙ same_two (λ xs (ys : Glyphs). xs ++ ys) (sym (take-map f s gs))
      (map-append f (map (with_bits m) b) (drop e gs)
      ∙ same_two (λ xs (ys : Glyphs). xs ++ ys) (map-seen f (with_bits m) (λ g. sym (k.given m g off)) b
      ∙ ap (map (with_bits m)) (map-stretch f s e gs)) (sym (drop-map f e gs)))

  -- part by part
  reph_shown : (gs : Glyphs) → map f (with_reph_mask r gs) ≡ with_reph_mask r (map f gs)
  reph_shown gs =
      stretch_shown (bits_of r RPHF) 0 (prefix_len (has_position POS_RA_TO_BECOME_REPH) gs) (bits_off r RPHF) gs
      ∙ ap (λ n. with_stretch 0 n (map (with_bits (bits_of r RPHF))) (map f gs))
      (sym (prefix_stays v (has_position POS_RA_TO_BECOME_REPH) (λ g. refl) gs))

  around_shown : (base : ℕ) (gs : Glyphs) → map f (with_masks_around r base gs)
      ≡ with_masks_around r base (map f gs)
  around_shown base gs =
      stretch_shown (mask_after_base r) (base + 1) (length gs) (after_off r)
      (with_stretch 0 base (map (with_bits (mask_before_base r))) gs)
      ∙ same_two (λ n xs. with_stretch (base + 1) n (map (with_bits (mask_after_base r))) xs) (sym (length-map gs f))
      (stretch_shown (mask_before_base r) 0 base (before_off r) gs)

  opens_eyelash_stays : (base : ℕ) (gs : Glyphs) → begins_eyelash base (map f gs)
      ≡ begins_eyelash base gs
  opens_eyelash_stays base gs =
      same_three (λ (a b c : ℕ → Bool). λ i. nat_lt (i + 1) base && a i && b (i + 1)
      && not (nat_lt (i + 2) base && c (i + 2))) (passes_stays v (has_category OT_Ra) (λ g. refl) gs)
      (passes_stays v (has_category OT_H) (λ g. refl) gs) (passes_stays v (has_category OT_ZWJ) (λ g. refl) gs)

  if_given : (b : Bool) (m : ℕ) (g : Glyph) → m % 8 ≡ 0 → (if b then with_bits m (f g) else f g)
      ≡ f (if b then with_bits m g else g)
  if_given true m g off = k.given m g off
  if_given false m g off = refl

  eyelash_shown : (script : Option Script) (base : ℕ) (gs : Glyphs)
      → map f (with_eyelash_mask r script base gs) ≡ with_eyelash_mask r script base (map f gs)
  eyelash_shown script base gs =
      sym (numbered_stays v (λ i g. if has_eyelash r script && is_in_eyelash base gs i then with_bits
      (bits_of r BLWF) g else g)
      (λ i g. if_given (has_eyelash r script && is_in_eyelash base gs i) (bits_of r BLWF) g (bits_off r BLWF)) 0 gs)
      ∙ ap (λ (a : ℕ → Bool). map (λ t. if has_eyelash r script && (a t.0 || (nat_lt 0 t.0 && a (t.0 - 1)))
      then with_bits (bits_of r BLWF) t.1 else t.1) (enumerate_from 0 (map f gs)))
      (sym (opens_eyelash_stays base gs))

  pref_pair_stays : (base : ℕ) (gs : Glyphs) → pref_pair r base (map f gs) ≡ pref_pair r base gs
  pref_pair_stays base gs =
      same_two (λ (n : ℕ) (t : ℕ → Bool). if not (mask_at r PREF == 0)
      && nat_lt (base + 2) n then least_place t (base + 1) (n - 1) else None) (length-map gs f)
      (fun_ext (λ i. ap r.forms_pref (ap numbers (sym (map-stretch f i (i + 2) gs))
      ∙ numbers_stay v (stretch_of i (i + 2) gs))))

  on_pair_shown : (m : ℕ) (o : Option ℕ) (gs : Glyphs) → m % 8 ≡ 0
      → map f (with_bits_on_pair m o gs) ≡ with_bits_on_pair m o (map f gs)
  on_pair_shown m None gs off = refl
  on_pair_shown m (Some i) gs off = stretch_shown m i (i + 2) off gs

  pref_mask_shown : (base : ℕ) (gs : Glyphs) → map f (with_pref_mask r base gs)
      ≡ with_pref_mask r base (map f gs)
  pref_mask_shown base gs =
      on_pair_shown (bits_of r PREF) (pref_pair r base gs) gs (bits_off r PREF)
      ∙ ap (λ o. with_bits_on_pair (bits_of r PREF) o (map f gs)) (sym (pref_pair_stays base gs))

  loses_stays : (gs : Glyphs) → loses_half (map f gs) ≡ loses_half gs
  loses_stays gs =
      ap (λ n. list_any (is_one_of (OT_ZWNJ ∷ [])) (take n (map f gs)))
      (prefix_stays v (λ g. not (is_consonant g)) (λ g. refl) gs)
      ∙ ap (list_any (is_one_of (OT_ZWNJ ∷ []))) (take-map f (prefix_len (λ g. not (is_consonant g)) gs) gs)
      ∙ list_any-map (is_one_of (OT_ZWNJ ∷ [])) f (take (prefix_len (λ g. not (is_consonant g)) gs) gs)

  if_taken : (b : Bool) (g : Glyph) → f (if b then without_bits (bits_of r HALF) g else g)
      ≡ (if b then without_bits (bits_of r HALF) (f g) else f g)
  if_taken true g = k.taken g
  if_taken false g = refl

  without_half_shown : (gs : Glyphs) → map f (without_half (bits_of r HALF) gs)
      ≡ without_half (bits_of r HALF) (map f gs)
  without_half_shown [] = refl
  without_half_shown (g ∷ gs) =
      same_two (λ x (xs : Glyphs). x ∷ xs) (if_taken (loses_half gs) g
      ∙ ap (λ (b : Bool). if b then without_bits (bits_of r HALF) (f g) else f g) (sym (loses_stays gs)))
      (without_half_shown gs)

  -- all masks
  pub masks_shown : (script : Option Script) (base : ℕ) (gs : Glyphs)
      → map f (with_initial_masks r script base gs) ≡ with_initial_masks r script base (map f gs)
  masks_shown script base gs =
      let one = with_reph_mask r gs in
      let two = with_masks_around r base one in
      let three = with_eyelash_mask r script base two in
      without_half_shown (with_pref_mask r base three)
      ∙ ap (without_half (bits_of r HALF)) (pref_mask_shown base three
      ∙ ap (with_pref_mask r base) (eyelash_shown script base two
      ∙ ap (with_eyelash_mask r script base) (around_shown base one
      ∙ ap (with_masks_around r base) (reph_shown gs))))

-- the view without clusters and flags does
plain_bits : (half : ℕ) → half % 8 ≡ 0 → half ≤ 0xFFFFFFFF → ShowsBits plain_view half
plain_bits half off fits = record {
  given = λ m g none. sym (ap (λ (x : ℕ). record g { cluster = 0; mask = x }) (plain-or g.mask m none));
  taken = λ g. ap (λ (x : ℕ). record g { cluster = 0; mask = x }) (plain-and g.mask half off fits);
}

-- the masks of a syllable of the buffer
pub syllable_masked : (r : Rules) (script : Option Script) (s e : ℕ) (old new : Buffer) → s ≤ e
    → bits_of r HALF ≤ 0xFFFFFFFF → but_places new ≡ record (but_places old) { glyphs = new.glyphs }
    → new.glyphs ≡ with_stretch s e (masked_in_order r script) old.glyphs
    → SyllableReordered (masked_in_order r script) (λ _. []) s e old new
syllable_masked r script s e old new h fits kept is =
    let syl = stretch_of s e old.glyphs in
    syllable_changed (masked_in_order r script) (masked_in_order r script) s e old new h kept is
    (hidden-with_initial_masks carried r (carried_hides_masks (bits_of r HALF) (bits_off r HALF) fits) script
    (ordered_base syl) syl)
    (masks_shown plain_view r (plain_bits (bits_of r HALF) (bits_off r HALF) fits) script (ordered_base syl) syl
    ∙ sym (ap (λ b. with_initial_masks r script b (order_view syl)) (ordered_base_stays plain_view syl)))
