-- The stretches of Sound's flag calls are in order.
use Rattle.std.proofs.Common.{ℕ, suc, ◌≤◌, Bool, true, false, cond, List, [], ◌∷◌, ◌++◌, length, Option, arith}
use Rattle.std.specs.List.{AllByRecursion}
use Rattle.shapers_buffer.specs.GlyphFlags.{UnsafeToBreak}
use Rattle.shapers_buffer.specs.declared.buffer.tag.Script.{Script}
use Rattle.shapers_buffer.proofs.MappedLists.{all-append}
use Rattle.shapers_base.specs.declared.plan.breaks.BreakFlags.{BreakFlags}
use Rattle.shapers_base.specs.declared.plan.breaks.BreakFlags.TheVariants.{AsCode, Sound}
use Rattle.shapers_base.specs.declared.plan.joining.hb_arabic_joining_type_t.{hb_arabic_joining_type_t}
use Rattle.shapers_clusters.specs.Flags.{InOrder}
use Rattle.shapers_arabic.specs.Joining.{is_transparent, nearest, act}
use Rattle.shapers_arabic.specs.JoiningFlags.{Letter, nearest_letter}
use Rattle.shapers_arabic.specs.JoinedText.{Text, added_calls, flag_calls}
use Rattle.shapers_arabic.specs.SoundFlags.{form_flags, form_flags_along}
use Rattle.shapers_arabic.proofs.FlagLists.{joining-in_order}
use Rattle.shapers_arabic.proofs.FlaggedPlaces.{StandsBefore, stands-before}
use Rattle.shapers_arabic.proofs.Selectors.{selectors-in_order}

one-in_order : (b : Bool) (s e : ℕ) → s ≤ e → AllByRecursion InOrder (cond b (UnsafeToBreak s e ∷ []) [])
one-in_order true s e h = (h, tt)
one-in_order false s e h = tt

form-in_order : (o : Option Letter) (form n : ℕ) → StandsBefore o n → AllByRecursion InOrder (form_flags o form (suc n))
form-in_order _ = search (arith, one-in_order)

along-in_order : (context passed ts after : List hb_arabic_joining_type_t)
    → AllByRecursion InOrder (form_flags_along context passed ts after)
along-in_order context passed [] after = tt
along-in_order context passed (t ∷ ts) after =
    let form = act (nearest (passed ++ context)) t (nearest (ts ++ after)) in
    let calls = form_flags (nearest_letter passed) form (suc (length passed)) in
    let here : AllByRecursion InOrder (cond (is_transparent t) [] calls) =
    elim (is_transparent t) as (λ b. AllByRecursion InOrder (cond b [] calls)) [
      | true ↦ tt
      | false ↦ form-in_order (nearest_letter passed) form (length passed)
          (stands-before passed (length passed) (omega arith))
    ] in
    search (arith, all-append, along-in_order context (t ∷ passed) ts after)

pub added-in_order : (script : Option Script) (text : Text) → AllByRecursion InOrder (added_calls script text)
added-in_order = search (arith, all-append, along-in_order, selectors-in_order)

pub calls-in_order : (breaks : BreakFlags) (script : Option Script) (text : Text)
    → AllByRecursion InOrder (flag_calls breaks script text)
calls-in_order AsCode = search (arith, joining-in_order)
calls-in_order Sound = search (arith, all-append, joining-in_order, added-in_order)
