-- The subtables of a lookup that begin at a glyph are tried, and the others come to nothing.
use Rattle.std.proofs.Common.{ℕ, ◌<◌, ◌≤◌, ◌≡◌, ◌∙◌, ◌⊎◌, inl, inr, false, None, List, sym, ap, subst, arith}
use Rattle.shapers_buffer.specs.Glyphs.{Glyphs}
use Rattle.shapers_buffer.specs.declared.buffer.lookup_record.LookupRecord.{LookupRecord}
use Rattle.opentype_face.specs.Firsts.{first_from}
use Rattle.opentype_layout.specs.Starts.{NoneStarts, starting}
use Rattle.opentype_layout.proofs.Skipped.{first_over}
use Rattle.opentype_gsub.specs.Applied.{two_byte_number}
use Rattle.opentype_gsub.specs.Came.{IsCome, nth_came}
use Rattle.opentype_gsub.specs.Setting.{Setting}
use Rattle.opentype_gsub.specs.declared.machine.Outcome.TheVariants.{Nothing}
use Rattle.opentype_gsub.specs.declared.pass.Sights.{Sights}
use Rattle.opentype_gsub.proofs.Machines.{Comes, IsComing, coming_none, same_come}
use Rattle.opentype_gsub.proofs.Untouched.{nth_unstarted}

pub coming_over : (f : Comes) (count i j : ℕ) (old gs : Glyphs) (before r : LookupRecord) →
    IsComing f count i old before gs r → i ≤ j → j ≤ count → ((k : ℕ) → i ≤ k → k < j → f gs r k ≡ None) →
    IsComing f count j old before gs r
coming_over f count i j old gs before r t le within none = record {
  same = t.same;
  kept = t.kept;
  first = first_over (f old before) count i j t.first le within
      (λ k a b. same_come f k old gs before r t.same t.kept ∙ none k a b);
}

-- nothing that was tried has changed the glyph
pub glyph_still : (f : Comes) (at count from number : ℕ) (old gs : Glyphs) (before r : LookupRecord) →
    IsComing f count from old before gs r → number ≡ two_byte_number old at → number ≡ two_byte_number gs at
glyph_still f at count from number old gs before r t is = is ∙ ap (λ (x : Glyphs). two_byte_number x at) (sym t.same)

pub coming_started : (s : Setting) (sights : Sights) (lookup : List ℕ) (at count from next number : ℕ) (old gs : Glyphs)
    (before r : LookupRecord) →
    IsComing (nth_came s sights lookup at) count from old before gs r → NoneStarts false lookup number from next →
    number ≡ two_byte_number old at → from ≤ next → next ≤ count →
    IsComing (nth_came s sights lookup at) count next old before gs r
coming_started s sights lookup at count from next number old gs before r t n is le within =
    let here = glyph_still (nth_came s sights lookup at) at count from number old gs before r t is in
    coming_over (nth_came s sights lookup at) count from next old gs before r t le within
    (λ k a b. nth_unstarted s sights lookup at gs r k (subst (λ g. starting false lookup g k ≡ None) here (n.none k a b)))

in_or_out : (from count : ℕ) → (from ≤ count) ⊎ (count ≤ from)
in_or_out from count = grind arith

pub coming_ended : (s : Setting) (sights : Sights) (lookup : List ℕ) (at count from number : ℕ) (old gs : Glyphs)
    (before r : LookupRecord) →
    IsComing (nth_came s sights lookup at) count from old before gs r → NoneStarts false lookup number from count →
    number ≡ two_byte_number old at →
    IsCome (first_from count (nth_came s sights lookup at old before) 0) old before gs r Nothing
coming_ended s sights lookup at count from number old gs before r t n is = elim (in_or_out from count) [
  | inl le ↦ coming_none (nth_came s sights lookup at) count count old gs before r
      (coming_started s sights lookup at count from count number old gs before r t n is le (omega arith)) (omega arith)
  | inr out ↦ coming_none (nth_came s sights lookup at) count from old gs before r t out
]
