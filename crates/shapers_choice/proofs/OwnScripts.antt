-- The scripts that take their shaper whatever the font offers are none of the universal shaper's.
use Rattle.std.specs.Prelude.{ℕ, ◌≡◌, Bool, true, false, ◌||◌, List, None, Some, codes, if◌then◌else◌}
use Rattle.std.specs.Cmp.Lexicographic.{same_text}
use Rattle.std.proofs.Common.{arith, ◌∙◌, ap, refl, sym}
use Rattle.shapers_buffer.specs.declared.buffer.tag.Script.{Script}
use Rattle.rustybuzz_shapers.specs.declared.shaper.hb_ot_shaper_t.{hb_ot_shaper_t}
use Rattle.rustybuzz_shapers.specs.declared.shaper.hb_ot_shaper_t.TheVariants as shapers
use Rattle.shapers_choice.specs.Choice.{is_among, is_code, own_for, universal_scripts}

apart-by : (code : List ℕ) (s : Script) → is_code code s ≡ true
    → is_among universal_scripts (record { 0 = code }) ≡ false → is_among universal_scripts s ≡ false
apart-by code s is apart =
    ap (λ (text : List ℕ). let t : Script = record { 0 = text } in is_among universal_scripts t)
    (same_text s.0 code (sym is))
    ∙ apart

pub own-apart : (s : Script) (shaper : hb_ot_shaper_t) → own_for s ≡ Some shaper
    → is_among universal_scripts s ≡ false
own-apart s shaper own =
    by (is_code (codes "Thai") s) (is_code (codes "Laoo") s) (is_code (codes "Hang") s) (is_code (codes "Hebr") s)
    (is_code (codes "Khmr") s) (is_code (codes "Qaag") s) refl refl refl refl refl refl own
  where
    by : (thai lao hangul hebrew khmer zawgyi : Bool) → is_code (codes "Thai") s ≡ thai
        → is_code (codes "Laoo") s ≡ lao → is_code (codes "Hang") s ≡ hangul → is_code (codes "Hebr") s ≡ hebrew
        → is_code (codes "Khmr") s ≡ khmer → is_code (codes "Qaag") s ≡ zawgyi
        → (if thai || lao then Some shapers.Thai else if hangul then Some shapers.Hangul
        else if hebrew then Some shapers.Hebrew else if khmer then Some shapers.Khmer
        else if zawgyi then Some shapers.MyanmarZawgyi else None) ≡ Some shaper
        → is_among universal_scripts s ≡ false
    by true _ _ _ _ _ is _ _ _ _ _ _ = apart-by (codes "Thai") s is refl
    by false true _ _ _ _ _ is _ _ _ _ _ = apart-by (codes "Laoo") s is refl
    by false false true _ _ _ _ _ is _ _ _ _ = apart-by (codes "Hang") s is refl
    by false false false true _ _ _ _ _ is _ _ _ = apart-by (codes "Hebr") s is refl
    by false false false false true _ _ _ _ _ is _ _ = apart-by (codes "Khmr") s is refl
    by false false false false false true _ _ _ _ _ is _ = apart-by (codes "Qaag") s is refl
    by false false false false false false _ _ _ _ _ _ none = search arith
