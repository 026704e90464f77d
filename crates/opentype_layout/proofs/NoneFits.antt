-- What finds nothing: a choice, a change of what is found, a search among several, and a context that
-- doesn't begin with a glyph.
use Rattle.std.proofs.Common.{◌≡◌, ◌∙◌, ℕ, zero, suc, ◌+◌, ◌%◌, ◌==◌, ◌<◌, Bool, true, false, Option, None, Some, List, refl, ap, subst, arith, if◌then◌else◌}
use Rattle.std.specs.Option.{option_and_then, option_map}
use Rattle.std.proofs.lemmas.Bool.Decides.{nat_tests}
use Rattle.shapers_buffer.specs.Glyphs.{Glyphs}
use Rattle.opentype_face.specs.Bytes.{u16_in, table_at}
use Rattle.opentype_face.specs.Firsts.{first_from, or_else}
use Rattle.opentype_face.specs.Glyphs.{coverage_in}
use Rattle.opentype_layout.specs.Rules.{by_glyphs, context_in, first_at}
use Rattle.opentype_layout.specs.Text.{glyph_at}
use Rattle.opentype_layout.specs.declared.sight.Sight.{Sight}

pub none_if : {X : Type 0} (test : Bool) (o p : Option X) → (test ≡ true → o ≡ None) → (test ≡ false → p ≡ None) →
    (if test then o else p) ≡ None
none_if true o p one two = one refl
none_if false o p one two = two refl

pub none_mapped : {X Y : Type 0} (f : X → Y) (o : Option X) → o ≡ None → option_map f o ≡ None
none_mapped f None e = refl
none_mapped f (Some x) e = absurd (cc)

pub none_then : {X Y : Type 0} (f : X → Option Y) (o : Option X) → o ≡ None → option_and_then f o ≡ None
none_then f None e = refl
none_then f (Some x) e = absurd (cc)

pub none_of : {X : Type 0} (f : ℕ → Option X) (n i : ℕ) → ((d : ℕ) → d < n → f (i + d) ≡ None) → first_from n f i ≡ None
unfolding first_from
none_of f zero i h = refl
none_of f (suc n) i h =
    let e : i + 0 ≡ i = omega arith in
    let here : f i ≡ None = subst (λ j. f j ≡ None) e (h 0 (omega arith)) in
    ap (λ o. or_else o (first_from n f (i + 1))) here
    ∙ none_of f n (i + 1) (λ d lt. (let k : i + suc d ≡ i + 1 + d = omega arith in
    subst (λ j. f j ≡ None) k (h (suc d) (omega arith))))

pub no_rule : (chained : Bool) (gdef : List ℕ) (input context : Sight) (bytes : List ℕ) (gs : Glyphs) (at : ℕ) →
    let glyph = (glyph_at gs at).glyph_id % 65536 in
    ((u16_in bytes 0 == 3) ≡ true → coverage_in (table_at bytes (u16_in bytes (first_at chained bytes))) glyph ≡ None) →
    ((u16_in bytes 0 == 3) ≡ false → coverage_in (table_at bytes (u16_in bytes 2)) glyph ≡ None) →
    context_in chained gdef input context bytes gs at ≡ None
unfolding context_in by_glyphs
no_rule chained gdef input context bytes gs at third other =
    let format = u16_in bytes 0 in
    none_if (format == 1) _ _
    (λ t. (let e = other (grind (arith, nat_tests)) in rw e refl))
    (λ t. none_if (format == 2) _ _ (λ t. (let e = other (grind (arith, nat_tests)) in rw e refl))
    (λ t. none_if (format == 3) _ None (λ t. (let e = third t in rw e refl)) (λ t. refl)))
