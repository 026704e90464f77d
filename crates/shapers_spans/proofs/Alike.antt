-- Which left halves are read alike without the right half.
use Rattle.std.proofs.Common.{◌≡◌, ◌<◌, ◌==◌, ◌⊎◌, Bool, true, false, [], ◌∷◌, ◌++◌, length, refl, sym, ap, ◌∙◌, arith, inl, inr, ⊎_elim}
use Rattle.std.specs.Prelude.{◌&&◌, ◌||◌, if◌then◌else◌}
use Rattle.std.specs.List.{list_all}
use Rattle.shapers_buffer.specs.Glyphs.{Glyph, Glyphs}
use Rattle.shapers_spans.specs.Cuts.{ReadsAlike, ends_with_joiner, joiner_waits}
use Rattle.shapers_spans.specs.Grammar.{Grammar}
use Rattle.shapers_spans.specs.Passing.{next_is_mark, begins_passed, none_passed}

pub none-alike : (g : Grammar) (gs hs : Glyphs) → g.passes ≡ none_passed → ReadsAlike g gs hs
none-alike g gs hs e fs ks s l = ap (λ f. f (ks ++ hs)) e ∙ sym (ap (λ f. f ks) e)

and_parts : (b c : Bool) → (b && c) ≡ false → (b ≡ false) ⊎ (c ≡ false)
and_parts true c h = inr h
and_parts false c h = inl refl

or_parts : (b c : Bool) → (b || c) ≡ false → (b ≡ false) × (c ≡ false)
or_parts true c h = cc
or_parts false c h = (refl, h)

chosen : (b r m n o : Bool) → (b && r) ≡ false → (r ≡ false → m ≡ n) → (if b then m else o) ≡ (if b then n else o)
chosen true r m n o h f = f h
chosen false r m n o h f = refl

kept : (b m n o : Bool) → m ≡ n → (if b then m else o) ≡ (if b then n else o)
kept b m n o e = ap (λ x. if b then x else o) e

either_passed : (a b r m n : Bool) → (b && r) ≡ false → (r ≡ false → m ≡ n) → (a || (b && m)) ≡ (a || (b && n))
either_passed true b r m n h f = refl
either_passed false true r m n h f = f h
either_passed false false r m n h f = refl

-- the first glyph that isn't CGJ stands in the left half, or is no mark
mark-within : (ks hs : Glyphs) → list_all (λ (h : Glyph). h.category == 6) ks ≡ false
    → next_is_mark (ks ++ hs) ≡ next_is_mark ks
mark-within [] hs h = cc
mark-within (k ∷ ks) hs h =
    chosen (k.category == 6) (list_all (λ (g : Glyph). g.category == 6) ks) (next_is_mark (ks ++ hs))
    (next_is_mark ks) _ h (mark-within ks hs)

mark-none : (ks hs : Glyphs) → next_is_mark hs ≡ false → next_is_mark (ks ++ hs) ≡ next_is_mark ks
mark-none [] hs h = h
mark-none (k ∷ ks) hs h = kept (k.category == 6) (next_is_mark (ks ++ hs)) (next_is_mark ks) _ (mark-none ks hs h)

no-joiner : (fs ks : Glyphs) → ends_with_joiner (fs ++ ks) ≡ false → ends_with_joiner ks ≡ false
no-joiner [] ks h = h
no-joiner (f ∷ fs) ks h =
    no-joiner fs ks (or_parts ((f.category == 14) && list_all (λ (g : Glyph). g.category == 6) (fs ++ ks))
    (ends_with_joiner (fs ++ ks)) h).1

opens-alike : (ks hs : Glyphs) → 0 < length ks → (ends_with_joiner ks ≡ false) ⊎ (next_is_mark hs ≡ false)
    → begins_passed (ks ++ hs) ≡ begins_passed ks
opens-alike [] hs l s = absurd (omega arith)
opens-alike (k ∷ ks) hs l s =
    ⊎_elim
    (λ h. either_passed (k.category == 6) (k.category == 14) (list_all (λ (g : Glyph). g.category == 6) ks)
    (next_is_mark (ks ++ hs)) (next_is_mark ks)
    (or_parts ((k.category == 14) && list_all (λ (g : Glyph). g.category == 6) ks) (ends_with_joiner ks) h).0
    (mark-within ks hs))
    (λ h. ap (λ m. (k.category == 6) || ((k.category == 14) && m)) (mark-none ks hs h)) s

pub universal-alike : (g : Grammar) (gs hs : Glyphs) → g.passes ≡ begins_passed
    → joiner_waits gs hs ≡ false → ReadsAlike g gs hs
universal-alike g gs hs e w fs ks s l =
    let o = opens-alike ks hs l (⊎_elim (λ h. inl (no-joiner fs ks (ap ends_with_joiner (sym s) ∙ h))) (λ h. inr h)
    (and_parts (ends_with_joiner gs) (next_is_mark hs) w)) in
    ap (λ f. f (ks ++ hs)) e ∙ o ∙ sym (ap (λ f. f ks) e)
