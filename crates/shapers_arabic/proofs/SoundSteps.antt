-- One more place of the walks that flag what Sound adds.
use Rattle.std.proofs.Common.{◌≡◌, ◌≢◌, ℕ, suc, ◌+◌, ◌-◌, ◌<◌, ◌≤◌, Bool, true, false, cond, eqb, List, [], ◌∷◌, length, map, drop, get_or, Option, None, Some, refl, ap, arith}
use Rattle.std.specs.List.{AllByRecursion}
use Rattle.std.proofs.lemmas.Bool.{ne_eqb}
use Rattle.std.proofs.lemmas.List.{drop_more, get_or-map, length-map}
use Rattle.shapers_buffer.specs.GlyphFlags.{FlagCall, UnsafeToBreak, flags_called}
use Rattle.shapers_buffer.specs.Glyph.{default_glyph}
use Rattle.shapers_buffer.specs.Glyphs.{Glyph, Glyphs}
use Rattle.shapers_buffer.specs.declared.buffer.tag.Script.{Script}
use Rattle.shapers_clusters.specs.Flags.{InOrder}
use Rattle.shapers_clusters.proofs.FlagCalls.{flags_called-append, map-flags_called}
use Rattle.shapers_arabic.specs.declared.ot_shaper_arabic.arabic_action_t.TheConstants.{NONE}
use Rattle.shapers_arabic.specs.JoiningWalk.{Called, IsWithin, copied, copied_calls, copied_form, form_calls, form_calls_along, place_of, sound_calls_at, written}
use Rattle.shapers_arabic.specs.JoinedText.{is_mongolian}

one-in_order : (b : Bool) (s e : ℕ) → s ≤ e → AllByRecursion InOrder (cond b (UnsafeToBreak s e ∷ []) [])
one-in_order true s e h = (h, tt)
one-in_order false s e h = tt

form-in_order : (last : Option ℕ) (f e : ℕ) → IsWithin last e → AllByRecursion InOrder (form_calls last f e)
form-in_order _ = search (arith, one-in_order)

later : (last : Option ℕ) (i : ℕ) → IsWithin last i → IsWithin last (suc i)
later None i h = tt
later (Some k) i h = omega arith

-- calls leave what isn't a flag
pub called-keeps : {Y : Type 0} (f : Glyph → Y) → ((g : Glyph) (mask : ℕ) → f (record g { mask = mask }) ≡ f g)
    → (calls : List FlagCall) (gs hs : Glyphs) → AllByRecursion InOrder calls → Called calls gs hs
    → map f hs ≡ map f gs
called-keeps f keeps calls gs hs ordered called = search (arith, called false false, map-flags_called)

pub form-keeps : (last : Option ℕ) (f e : ℕ) (gs hs : Glyphs) → IsWithin last e
    → Called (form_calls last f e) gs hs → written hs ≡ written gs
form-keeps = search (arith, called-keeps, form-in_order)

-- a place without a form, and one with
pub forms-none : (last : Option ℕ) (i : ℕ) (first gs : Glyphs) → i < length gs
    → written gs ≡ written first → (get_or gs i default_glyph).auxiliary ≡ NONE
    → form_calls_along last (i + 1) (drop (i + 1) (written first)) ≡ form_calls_along last i (drop i (written first))
forms-none last i first gs h same none =
    let fs = written first in
    search (arith, drop_more fs i NONE (omega (arith, ap length same, length-map gs (λ g. g.auxiliary))), get_or-map)

-- a character whose copied form is its own, or isn't
pub copied-is : (previous : Option ℕ) (g : Glyph) → copied previous g ≡ copied_form previous g.glyph_id g.auxiliary
copied-is None g = refl
copied-is (Some x) g = refl

abbrev pub copied_call : ℕ → ℕ → ℕ → List FlagCall
copied_call i form own = cond (eqb form own) [] (UnsafeToBreak (i - 1) (i + 1) ∷ [])

call-in_order : (b : Bool) (s e : ℕ) → s ≤ e → AllByRecursion InOrder (cond b [] (UnsafeToBreak s e ∷ []))
call-in_order true s e h = tt
call-in_order false s e h = (h, tt)

pub copied-keeps : (i form own : ℕ) (gs hs : Glyphs) → Called (copied_call i form own) gs hs
    → map place_of hs ≡ map place_of gs
copied-keeps i form own gs hs called =
    called-keeps place_of (λ g mask. refl) (copied_call i form own) gs hs (search (arith, call-in_order)) called

pub copied-left : (concat tatweel : Bool) (previous : Option ℕ) (i form : ℕ) (first gs hs : Glyphs)
    → i < length gs → map place_of gs ≡ map place_of first → form ≡ copied previous (get_or gs i default_glyph)
    → Called (copied_call i form (get_or gs i default_glyph).auxiliary) gs hs
    → flags_called concat tatweel (copied_calls (Some form) (i + 1) (drop (i + 1) (map place_of first))) hs
    ≡ flags_called concat tatweel (copied_calls previous i (drop i (map place_of first))) gs
copied-left concat tatweel previous i form first gs hs h same is called =
    let ps = map place_of first in
    let g = get_or gs i default_glyph in
    let none = place_of default_glyph in
    search (
      arith,
      flags_called-append,
      drop_more ps i none (omega (arith, ap length same, length-map gs place_of)),
      get_or-map,
      copied-is,
    )

pub call-made : (i form own : ℕ) (gs hs : Glyphs) → form ≢ own
    → Called (UnsafeToBreak (i - 1) (i + 1) ∷ []) gs hs → Called (copied_call i form own) gs hs
call-made = search (arith, ne_eqb)

-- all calls along forms are in order, and leave characters and forms
along-in_order : (last : Option ℕ) (i : ℕ) (fs : List ℕ) → IsWithin last i
    → AllByRecursion InOrder (form_calls_along last i fs)
along-in_order last i [] h = tt
along-in_order last i (f ∷ fs) h =
    search (arith, along-in_order last (suc i) fs (later last i h), along-in_order (Some i) (suc i) fs (omega arith))

pub flagged-twice : (script : Option Script) (gs hs ks : Glyphs) → is_mongolian script ≡ true
    → Called (form_calls_along None 0 (written gs)) gs hs → Called (copied_calls None 0 (map place_of hs)) hs ks
    → Called (sound_calls_at script gs) gs ks
flagged-twice script gs hs ks e a b concat tatweel =
    let first = form_calls_along None 0 (written gs) in
    search (
      arith,
      b concat tatweel,
      called-keeps place_of (λ g mask. refl) first gs hs (along-in_order None 0 (written gs) tt) a,
      a concat tatweel,
      flags_called-append,
    )
