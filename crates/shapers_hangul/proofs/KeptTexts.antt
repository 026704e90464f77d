-- A text of which every item stays as it is.
use Rattle.std.proofs.Common.{arith}
use Rattle.std.proofs.Common.{◌≡◌, ℕ, Bool, true, List, [], ◌∷◌, length, refl, sym}
use Rattle.std.specs.List.{AllByRecursion}
use Rattle.shapers_buffer.specs.Glyphs.{Glyphs}
use Rattle.shapers_buffer.specs.Buffer.{Buffer}
use Rattle.shapers_buffer.specs.Glyph.{characters}
use Rattle.shapers_base.specs.Font.{Font}
use Rattle.shapers_base.specs.declared.plan.breaks.BreakFlags.{BreakFlags}
use Rattle.shapers_base.specs.declared.plan.breaks.BreakFlags.TheVariants.{AsCode, Sound}
use Rattle.shapers_hangul.specs.declared.ot_shaper_hangul.item.Item.{Item}
use Rattle.shapers_hangul.specs.Hangul.{allows_circles, is_kept, items, items_at, items_flagged, preprocessed, rewritten_by}
use Rattle.shapers_hangul.specs.HangulLaws.{AllKept}
use Rattle.shapers_hangul.specs.RewritingWalk.{KeptBefore, rewritten_items}
use Rattle.shapers_hangul.proofs.Changes.{buffer_changed, none_next}

-- every item stays just where none changes the text
none_changes : (cut : List (ℕ × Item)) → AllByRecursion (λ p. is_kept p.1 ≡ true) cut → rewritten_items cut ≡ []
none_changes [] all = refl
none_changes (p ∷ cut) all = cc (none_changes cut all.1)

each_stays : (cut : List (ℕ × Item)) → rewritten_items cut ≡ [] → AllByRecursion (λ p. is_kept p.1 ≡ true) cut
each_stays [] none = tt
each_stays (p ∷ cut) none = let rest = none_next p cut none in (rest.0, each_stays cut rest.1)

-- so the code lists none
pub nothing_listed : (font : Font) (b : Buffer) (circles : Bool) (gs : Glyphs) (kept : ℕ)
    → circles ≡ allows_circles b → gs ≡ b.glyphs → KeptBefore font circles gs kept → AllKept font b
    → rewritten_items (items_at font circles (characters gs) kept) ≡ []
nothing_listed = search (arith, none_changes)

-- and where it lists none, every item stays
pub all_stay : (font : Font) (b : Buffer) (circles : Bool) (gs : Glyphs) (kept : ℕ)
    → circles ≡ allows_circles b → gs ≡ b.glyphs → KeptBefore font circles gs kept
    → rewritten_items (items_at font circles (characters gs) kept) ≡ [] → AllKept font b
all_stay font b circles gs kept same_circles same before none = search (arith, each_stays)

-- the text is then what it was
unflagged : (breaks : BreakFlags) (gs : Glyphs) → items_flagged breaks [] gs ≡ gs
unflagged AsCode gs = refl
unflagged Sound gs = refl

pub unchanged : (breaks : BreakFlags) (font : Font) (b : Buffer) → AllKept font b → b ≡ rewritten_by breaks font b
unchanged breaks font b all = search (
  arith,
  buffer_changed breaks font b (allows_circles b) b.level b.glyphs [] refl refl refl
      (sym (none_changes (items font (allows_circles b) (characters b.glyphs)) all)),
)

pub same_length : (font : Font) (b : Buffer) → AllKept font b
    → length (preprocessed font (allows_circles b) b.level b.glyphs) ≡ length b.glyphs
same_length font b all = cc (unchanged AsCode font b all)
