-- A walk along a text, as far as it has come.
use Rattle.std.proofs.Common.{ℕ, min, zero, suc, ◌+◌, ◌-◌, ◌<◌, ◌≤◌, ◌≡◌, ◌⊎◌, inl, inr, true, List, length, refl, ap, ◌∙◌, arith}
use Rattle.std.proofs.lemmas.Grind.{common_steps}
use Rattle.shapers_buffer.specs.Glyphs.{Glyphs}
use Rattle.shapers_buffer.specs.declared.buffer.lookup_record.LookupRecord.{LookupRecord}
use Rattle.opentype_layout.specs.Text.{glyph_at}
use Rattle.opentype_gsub.specs.Presence.{is_left}
use Rattle.opentype_gsub.specs.Applied.{PlaceChange}
use Rattle.opentype_gsub.specs.Setting.{Setting}
use Rattle.opentype_gsub.specs.Along.{Along, lookup_stepped, lookup_applied}
use Rattle.opentype_gsub.proofs.Untouched.{step_left, step_on, walk_on}

abbrev pub Steps : Type 0
Steps = Glyphs → ℕ → LookupRecord → PlaceChange

-- so many steps are left
pub record IsWalked (f : Steps) (steps : ℕ) (old : Glyphs) (from : ℕ) (before : LookupRecord) (n : ℕ) (gs : Glyphs) (at : ℕ)
    (r : LookupRecord) : Type 0 where
  pub rest : lookup_applied steps f old from before ≡ lookup_applied n f gs at r

step : (f : Steps) (n : ℕ) (gs : Glyphs) (at : ℕ) (r : LookupRecord) → at < length gs →
    lookup_applied (suc n) f gs at r ≡ lookup_applied n f (f gs at r).text (f gs at r).next (f gs at r).lookups
unfolding lookup_applied
step f n gs at r lt = grind (arith, common_steps)

out : (f : Steps) (n : ℕ) (gs : Glyphs) (at : ℕ) (r : LookupRecord) → length gs ≤ at →
    lookup_applied n f gs at r ≡ record { text = gs; lookups = r }
unfolding lookup_applied
out f zero gs at r le = refl
out f (suc n) gs at r le = grind (arith, common_steps)

none : (f : Steps) (gs : Glyphs) (at : ℕ) (r : LookupRecord) → lookup_applied 0 f gs at r ≡ record { text = gs; lookups = r }
unfolding lookup_applied
none f gs at r = refl

-- nothing is done at the places from one on, and before another
abbrev pub IsStill : Steps → Glyphs → LookupRecord → ℕ → ℕ → Type 0
IsStill f gs r at place =
    (j : ℕ) → at ≤ j → j < place → f gs j r ≡ record { text = gs; next = j + 1; lookups = r }

in_or_out : (at len : ℕ) → (at < len) ⊎ (len ≤ at)
in_or_out at len = grind arith

still : (f : Steps) (n : ℕ) (gs : Glyphs) (at : ℕ) (r : LookupRecord) (place : ℕ) → IsStill f gs r at place →
    (length gs ≤ place) ⊎ (at + n ≤ place) → lookup_applied n f gs at r ≡ record { text = gs; lookups = r }
still f zero gs at r place h far = none f gs at r
still f (suc n) gs at r place h far = elim (in_or_out at (length gs)) [
  | inr le ↦ out f (suc n) gs at r le
  | inl lt ↦ step_on f n gs at r lt (h at (omega arith) (elim far [ inl all ↦ omega arith | inr few ↦ omega arith ]))
      ∙ still f n gs (at + 1) r place (λ j a b. h j (omega arith) b)
      (elim far [ inl all ↦ inl all | inr few ↦ inr (omega arith) ])
]

pub walked_start : (f : Steps) (steps : ℕ) (old : Glyphs) (from : ℕ) (before : LookupRecord) →
    IsWalked f steps old from before steps old from before
walked_start f steps old from before = record { rest = refl }

pub walked_next : (f : Steps) (steps : ℕ) (old : Glyphs) (from : ℕ) (before : LookupRecord) (n : ℕ) (gs : Glyphs) (at : ℕ)
    (r : LookupRecord) (place : ℕ) (new : Glyphs) (next : ℕ) (after : LookupRecord) →
    IsWalked f steps old from before n gs at r → IsStill f gs r at place →
    at ≤ place → place < length gs → place - at < n →
    f gs place r ≡ record { text = new; next = next; lookups = after } →
    IsWalked f steps old from before (n - (place - at + 1)) new next after
walked_next f steps old from before n gs at r place new next after w h le inside lt is =
    let m : n ≡ (place - at) + suc (n - (place - at + 1)) = omega arith in
    let e : at + (place - at) ≡ place = omega arith in
    let g : PlaceChange → Along = λ c. lookup_applied (n - (place - at + 1)) f c.text c.next c.lookups in
    record {
      rest = w.rest ∙ ap (λ k. lookup_applied k f gs at r) m
          ∙ walk_on f (place - at) (suc (n - (place - at + 1))) gs at r (omega arith) (λ j a b. h j a (omega arith))
          ∙ ap (λ k. lookup_applied (suc (n - (place - at + 1))) f gs k r) e
          ∙ step f (n - (place - at + 1)) gs place r inside ∙ ap g is;
    }

pub walked_out : (f : Steps) (steps : ℕ) (old : Glyphs) (from : ℕ) (before : LookupRecord) (n : ℕ) (gs : Glyphs) (at : ℕ)
    (r : LookupRecord) (place : ℕ) →
    IsWalked f steps old from before n gs at r → IsStill f gs r at place → (length gs ≤ place) ⊎ (at + n ≤ place) →
    lookup_applied steps f old from before ≡ record { text = gs; lookups = r }
walked_out f steps old from before n gs at r place w h far = w.rest ∙ still f n gs at r place h far

pub walked_all : (f : Steps) (steps : ℕ) (old : Glyphs) (from : ℕ) (before : LookupRecord) (n : ℕ) (gs : Glyphs) (at : ℕ)
    (r : LookupRecord) → IsWalked f steps old from before n gs at r → n ≡ 0 →
    lookup_applied steps f old from before ≡ record { text = gs; lookups = r }
walked_all f steps old from before n gs at r w e = w.rest ∙ ap (λ k. lookup_applied k f gs at r) e ∙ none f gs at r

-- the same, and nothing is done before the place that comes next
pub record IsNear (f : Steps) (steps : ℕ) (old : Glyphs) (from : ℕ) (before : LookupRecord) (n : ℕ) (gs : Glyphs) (at : ℕ)
    (r : LookupRecord) (place : ℕ) : Type 0 where
  pub walked : IsWalked f steps old from before n gs at r
  pub still : IsStill f gs r at place
  pub behind : min at (length gs) ≤ place

pub near_start : (f : Steps) (steps : ℕ) (old : Glyphs) (from : ℕ) (before : LookupRecord) (n : ℕ) (gs : Glyphs) (at : ℕ)
    (r : LookupRecord) → IsWalked f steps old from before n gs at r → IsNear f steps old from before n gs at r at
near_start f steps old from before n gs at r w = record {
  walked = w;
  still = λ j a b. absurd (omega arith);
  behind = omega arith;
}

pub still_left : (s : Setting) (lookup : List ℕ) (gs : Glyphs) (r : LookupRecord) (at place : ℕ) →
    ((j : ℕ) → at ≤ j → j < place → is_left s.lookup lookup (glyph_at gs j) ≡ true) →
    IsStill (lookup_stepped s lookup) gs r at place
still_left s lookup gs r at place h = λ j a b. step_left s lookup gs j r (h j a b)
