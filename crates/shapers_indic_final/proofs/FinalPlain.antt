-- The final reordering reads neither clusters nor glyph flags: glyphs that differ in these alone
-- get the same base and steps.
use Rattle.std.proofs.Common.{ℕ, ◌%◌, ◌/◌, ◌≡◌, map, Option, ◌∙◌, ap, arith}
use Rattle.std.specs.Prelude.{bit_and}
use Rattle.std.specs.Int.Bits.{and_zero_r}
use Rattle.std.proofs.lemmas.Nat.{and_mod, and_shr}
use Rattle.shapers_buffer.specs.Glyphs.{Glyphs}
use Rattle.shapers_buffer.specs.declared.buffer.tag.Script.{Script}
use Rattle.shapers_buffer.specs.Glyph.{plain, without_flags}
use Rattle.shapers_base.specs.declared.plan.indic.RephPosition.{RephPosition}
use Rattle.shapers_indic_final.specs.FinalBase.{with_final_base}
use Rattle.shapers_indic_final.specs.FinalMatras.{matra_steps}
use Rattle.shapers_indic_final.specs.FinalPref.{pref_steps}
use Rattle.shapers_indic_final.specs.FinalReph.{base_after_reph, reph_steps}
use Rattle.shapers_indic_final.specs.declared.ot_shaper_indic_final.rules.Rules.{Rules}
use Rattle.shapers_indic_final.proofs.FinalReads.{KeepsMask, base_after_stays, base_seen, matra_steps_stay, pref_steps_stay, reph_steps_stay, with_base_stays}
use Rattle.shapers_syllabic.proofs.Views.{plain_view}

-- a mask without the bits of flags
abbrev pub TouchesNoFlag : ℕ → Type 0
TouchesNoFlag m = without_flags m ≡ m

pub plain_keeps : (bits : ℕ) → TouchesNoFlag bits → KeepsMask plain_view bits
plain_keeps bits off m =
    let none : bits % 8 ≡ 0 = omega arith in
    let x = bit_and (without_flags m) bits in
    let y = bit_and m bits in
    let a : x % 8 ≡ 0 = and_mod (without_flags m) bits 3 ∙ ap (bit_and (without_flags m % 8)) none
    ∙ and_zero_r (without_flags m % 8) in
    let b : y % 8 ≡ 0 = and_mod m bits 3 ∙ ap (bit_and (m % 8)) none ∙ and_zero_r (m % 8) in
    let front : without_flags m / 8 ≡ m / 8 = omega arith in
    let same : x / 8 ≡ y / 8 = cc (and_shr (without_flags m) bits 3, and_shr m bits 3) in
    omega arith

-- what is made of the order view is the order view of what is made
pub base_plain : (r : Rules) → TouchesNoFlag r.pref → (script : Option Script) (gs : Glyphs)
    → with_final_base r script (map plain gs) ≡ base_seen plain_view (with_final_base r script gs)
base_plain = search (with_base_stays, plain_keeps)

pub base_glyphs_plain : (r : Rules) → TouchesNoFlag r.pref → (script : Option Script) (gs : Glyphs)
    → (with_final_base r script (map plain gs)).glyphs ≡ map plain (with_final_base r script gs).glyphs
base_glyphs_plain = search (arith, base_plain)

pub base_place_plain : (r : Rules) → TouchesNoFlag r.pref → (script : Option Script) (gs : Glyphs)
    → (with_final_base r script (map plain gs)).base ≡ (with_final_base r script gs).base
base_place_plain = search (arith, base_plain)

pub base_tries_plain : (r : Rules) → TouchesNoFlag r.pref → (script : Option Script) (gs : Glyphs)
    → (with_final_base r script (map plain gs)).tries_pref ≡ (with_final_base r script gs).tries_pref
base_tries_plain r off script gs = cc (base_plain r off script gs)

-- the steps and bases are the same
pub matra_steps_plain : (script : Option Script) (base : ℕ) (gs : Glyphs)
    → matra_steps script base (map plain gs) ≡ matra_steps script base gs
matra_steps_plain script base gs = matra_steps_stay plain_view script base gs

pub reph_steps_plain : (position : RephPosition) (base : ℕ) (gs : Glyphs)
    → reph_steps position base (map plain gs) ≡ reph_steps position base gs
reph_steps_plain position base gs = reph_steps_stay plain_view position base gs

pub base_after_reph_plain : (position : RephPosition) (base : ℕ) (gs : Glyphs)
    → base_after_reph position base (map plain gs) ≡ base_after_reph position base gs
base_after_reph_plain position base gs = base_after_stays plain_view position base gs

pub pref_steps_plain : (pref : ℕ) → TouchesNoFlag pref → (script : Option Script) (base : ℕ) (gs : Glyphs)
    → pref_steps pref script base (map plain gs) ≡ pref_steps pref script base gs
pref_steps_plain pref off script base gs = pref_steps_stay plain_view pref (plain_keeps pref off) script base gs
