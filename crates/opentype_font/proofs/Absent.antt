-- A lookup that begins at no glyph of a text leaves it as it is.
use Rattle.std.proofs.Common.{ℕ, ◌<◌, ◌≡◌, ◌∙◌, List, length, map, get_or, refl, sym, ap, arith, true, false}
use Rattle.std.specs.Prelude.{Option, None, Some, IfSome, IsSomeAnd}
use Rattle.std.proofs.Math.ListN.{get_or-map}
use Rattle.std.proofs.lemmas.List.{length-map}
use Rattle.shapers_buffer.specs.Buffer.{Buffer}
use Rattle.shapers_buffer.specs.Glyph.{default_glyph}
use Rattle.shapers_buffer.specs.Glyphs.{Glyph, Glyphs}
use Rattle.shapers_plan.specs.declared.ot_map.lookups.StageLookup.{StageLookup}
use Rattle.opentype_face.specs.Lookups.{lookup_in}
use Rattle.opentype_layout.specs.LookupRows.{AreAbsent, lookup_bit}
use Rattle.opentype_layout.specs.Text.{glyph_at}
use Rattle.opentype_layout.specs.declared.lookup_rows.LookupBits.{LookupBits}
use Rattle.opentype_layout.specs.declared.sight.Application.{Application}
use Rattle.opentype_gsub.specs.Substituted.{substituted}
use Rattle.opentype_gsub.specs.declared.pass.LookupUse.{LookupUse}
use Rattle.opentype_gsub.proofs.Untouched.{buffer_left, left_none}
use Rattle.opentype_gpos.specs.Laws.{without_its_flags}
use Rattle.opentype_gpos.specs.Along.{positioned}
use Rattle.opentype_gpos.proofs.Keeping.{position_keeps}
use Rattle.opentype_gpos.proofs.Unbegun.{positioned_nowhere}
use Rattle.opentype_font.specs.Lookups.{application_for, positioned_by, substituted_by, use_for}
use Rattle.opentype_font.specs.Presence.{IsAbsent}

-- ---- of GSUB

absent_left : (gdef gsub : List ℕ) (bits : LookupBits) (use_of : LookupUse) (b : Buffer) →
    AreAbsent false gsub bits b.glyphs → use_of.index < 128 → lookup_bit bits use_of.index ≡ 0 →
    substituted gdef gsub use_of b ≡ b
absent_left gdef gsub bits use_of b absent few off =
    let lookup = lookup_in gsub use_of.index in
    sym (buffer_left gdef gsub use_of b lookup (length b.glyphs) refl
    (λ j lt. left_none use_of lookup (glyph_at b.glyphs j) (absent.each use_of.index j few lt off)) (omega arith) (omega arith))

pub known_left : (gdef gsub : List ℕ) (lookup : StageLookup) (b : Buffer) (o : Option LookupBits) →
    IfSome o (λ bits. AreAbsent false gsub bits b.glyphs) → IsSomeAnd o (λ bits. IsAbsent bits lookup.index) →
    substituted_by gdef gsub lookup b ≡ b
known_left gdef gsub lookup b None known absent = absurd absent
known_left gdef gsub lookup b (Some bits) known absent =
    absent_left gdef gsub bits (use_for lookup) b known absent.0 absent.1

-- ---- of GPOS

absent_unmoved : (gdef gpos : List ℕ) (bits : LookupBits) (lookup : StageLookup) (b : Buffer) → length b.positions ≡ length b.glyphs →
    AreAbsent true gpos bits b.glyphs → lookup.index < 128 → lookup_bit bits lookup.index ≡ 0 →
    positioned_by gdef gpos lookup b ≡ b
absent_unmoved gdef gpos bits lookup b paired absent few off =
    positioned_nowhere gdef gpos lookup.index (application_for lookup) b paired
    (λ j lt. absent.each lookup.index j few lt off)

pub known_unmoved : (gdef gpos : List ℕ) (lookup : StageLookup) (b : Buffer) (o : Option LookupBits) → length b.positions ≡ length b.glyphs →
    IfSome o (λ bits. AreAbsent true gpos bits b.glyphs) → IsSomeAnd o (λ bits. IsAbsent bits lookup.index) →
    positioned_by gdef gpos lookup b ≡ b
known_unmoved gdef gpos lookup b None paired known absent = absurd absent
known_unmoved gdef gpos lookup b (Some bits) paired known absent =
    absent_unmoved gdef gpos bits lookup b paired known absent.0 absent.1

-- what was known of a text is known of it behind a lookup of GPOS
same_number : (gs hs : Glyphs) (j : ℕ) → map without_its_flags hs ≡ map without_its_flags gs →
    (glyph_at hs j).glyph_id ≡ (glyph_at gs j).glyph_id
same_number gs hs j same =
    let plain : Glyph → ℕ = λ g. g.glyph_id in
    let at : Glyphs → Glyph = λ xs. get_or xs j (without_its_flags default_glyph) in
    ap plain (sym (get_or-map without_its_flags hs j default_glyph) ∙ ap at same ∙ get_or-map without_its_flags gs j default_glyph)

still_absent : (gpos : List ℕ) (bits : LookupBits) (gs hs : Glyphs) → map without_its_flags hs ≡ map without_its_flags gs →
    AreAbsent true gpos bits gs → AreAbsent true gpos bits hs
still_absent gpos bits gs hs same absent = record {
  each = λ index j few lt off.
      (let len : length hs ≡ length gs = sym (length-map hs without_its_flags) ∙ ap length same ∙ length-map gs without_its_flags in
      let within : j < length gs = omega arith in
      rw (same_number gs hs j same) (absent.each index j few within off));
}

pub still_known : (gdef gpos : List ℕ) (index : ℕ) (how : Application) (b new : Buffer) (o : Option LookupBits) →
    new ≡ positioned gdef gpos index how b → IfSome o (λ bits. AreAbsent true gpos bits b.glyphs) →
    IfSome o (λ bits. AreAbsent true gpos bits new.glyphs)
still_known gdef gpos index how b new None is known = tt
still_known gdef gpos index how b new (Some bits) is known =
    rw is (still_absent gpos bits b.glyphs _ (position_keeps gdef gpos index how b).glyphs known)

pub still_paired : (gdef gpos : List ℕ) (index : ℕ) (how : Application) (b new : Buffer) → new ≡ positioned gdef gpos index how b →
    length b.positions ≡ length b.glyphs → length new.positions ≡ length new.glyphs
still_paired gdef gpos index how b new is paired =
    let kept = position_keeps gdef gpos index how b in
    let m = positioned gdef gpos index how b in
    let len : length m.glyphs ≡ length b.glyphs =
    sym (length-map m.glyphs without_its_flags) ∙ ap length kept.glyphs ∙ length-map b.glyphs without_its_flags in
    rw is (kept.positions ∙ paired ∙ sym len)
