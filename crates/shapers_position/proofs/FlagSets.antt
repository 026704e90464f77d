-- Sets of the three flags, each looked at; and the flags that glyphs are given.
use Rattle.std.proofs.Common.{◌≡◌, ℕ, zero, suc, ◌/◌, ◌%◌, ◌<◌, ◌==◌, Bool, true, false, ◌||◌, cond, [], ◌∷◌, refl, sym, ap, ◌∙◌, arith}
use Rattle.std.specs.Int.Bits.{bit_or}
use Rattle.std.specs.Prelude.{bit_and, fold}
use Rattle.std.specs.List.{list_any}
use Rattle.std.proofs.Math.Bool.{or-false, or_assoc}
use Rattle.std.proofs.lemmas.Nat.{or_lt, or_mod}
use Rattle.shapers_buffer.specs.declared.buffer.flags.BufferFlags.{BufferFlags}
use Rattle.shapers_buffer.specs.Glyphs.{Glyph, Glyphs}
use Rattle.shapers_buffer.specs.Buffer.{flags_concat, flags_tatweel, has_flag}
use Rattle.shapers_buffer.specs.Glyph.{plain, without_flags}
use Rattle.shapers_clusters.specs.Breaks.{is_unsafe}
use Rattle.shapers_clusters.specs.Flags.{bit_at}
use Rattle.shapers_clusters.proofs.FlagCalls.{without_flags-or}
use Rattle.shapers_clusters.proofs.Merging.{without_flags-twice}
use Rattle.shapers_position.specs.ClusterFlags.{flags_wanted, flags_of, joins_decided, with_flags}

-- what holds of each set of flags
pub eight : (P : ℕ → Type 0) → P 0 → P 1 → P 2 → P 3 → P 4 → P 5 → P 6 → P 7 → (f : ℕ) → f < 8 → P f
eight P a b c d e f g h zero small = a
eight P a b c d e f g h (suc zero) small = b
eight P a b c d e f g h (suc (suc zero)) small = c
eight P a b c d e f g h (suc (suc (suc zero))) small = d
eight P a b c d e f g h (suc (suc (suc (suc zero)))) small = e
eight P a b c d e f g h (suc (suc (suc (suc (suc zero))))) small = f
eight P a b c d e f g h (suc (suc (suc (suc (suc (suc zero)))))) small = g
eight P a b c d e f g h (suc (suc (suc (suc (suc (suc (suc zero))))))) small = h
eight P a b c d e f g h (suc (suc (suc (suc (suc (suc (suc (suc n)))))))) small = absurd (omega arith)

-- the flags kept, by what is wanted
abbrev kept_by : Bool → Bool → ℕ → ℕ
kept_by tatweel concat f = let settled = cond tatweel (joins_decided f) f in cond concat settled (bit_and settled 5)

small_by : (t c : Bool) (f : ℕ) → f < 8 → kept_by t c f < 8
small_by true true f small = eight (λ f. kept_by true true f < 8) (omega arith) (omega arith) (omega arith)
    (omega arith) (omega arith) (omega arith) (omega arith) (omega arith) f small
small_by true false f small = eight (λ f. kept_by true false f < 8) (omega arith) (omega arith) (omega arith)
    (omega arith) (omega arith) (omega arith) (omega arith) (omega arith) f small
small_by false true f small = eight (λ f. kept_by false true f < 8) (omega arith) (omega arith) (omega arith)
    (omega arith) (omega arith) (omega arith) (omega arith) (omega arith) f small
small_by false false f small = eight (λ f. kept_by false false f < 8) (omega arith) (omega arith) (omega arith)
    (omega arith) (omega arith) (omega arith) (omega arith) (omega arith) f small

again_by : (c : Bool) (f : ℕ) → f < 8 → kept_by false c (kept_by false c f) ≡ kept_by false c f
again_by true f small = refl
again_by false f small = eight (λ f. kept_by false false (kept_by false false f)
    ≡ kept_by false false f) refl refl refl refl refl refl refl refl f small

-- whether flags say that it is unsafe to break
abbrev pub unsafe_flags : ℕ → Bool
unsafe_flags f = bit_at 0 f == 1 || bit_at 2 f == 1

unsafe_by : (t c : Bool) (f : ℕ) → f < 8 → unsafe_flags (kept_by t c f) ≡ unsafe_flags f
unsafe_by true true f small = eight (λ f. unsafe_flags (kept_by true true f)
    ≡ unsafe_flags f) refl refl refl refl refl refl refl refl f small
unsafe_by true false f small = eight (λ f. unsafe_flags (kept_by true false f)
    ≡ unsafe_flags f) refl refl refl refl refl refl refl refl f small
unsafe_by false true f small = eight (λ f. unsafe_flags (kept_by false true f)
    ≡ unsafe_flags f) refl refl refl refl refl refl refl refl f small
unsafe_by false false f small = eight (λ f. unsafe_flags (kept_by false false f)
    ≡ unsafe_flags f) refl refl refl refl refl refl refl refl f small

one_by : (c : Bool) (f : ℕ) → f < 8 → unsafe_flags (kept_by true c f) ≡ (bit_at 0 (kept_by true c f) == 1)
one_by true f small = eight (λ f. unsafe_flags (kept_by true true f)
    ≡ (bit_at 0 (kept_by true true f) == 1)) refl refl refl refl refl refl refl refl f small
one_by false f small = eight (λ f. unsafe_flags (kept_by true false f)
    ≡ (bit_at 0 (kept_by true false f) == 1)) refl refl refl refl refl refl refl refl f small

pub kept_small : (wanted : BufferFlags) (f : ℕ) → f < 8 → flags_wanted wanted f < 8
kept_small wanted f small = small_by (has_flag flags_tatweel wanted) (has_flag flags_concat wanted) f small

pub kept_again : (wanted : BufferFlags) → has_flag flags_tatweel wanted ≡ false → (f : ℕ) → f < 8 →
    flags_wanted wanted (flags_wanted wanted f) ≡ flags_wanted wanted f
kept_again wanted unasked f small =
    let c = has_flag flags_concat wanted in
    ap (λ t. kept_by t c (kept_by t c f)) unasked ∙ again_by c f small ∙ sym (ap (λ t. kept_by t c f) unasked)

pub kept_unsafe : (wanted : BufferFlags) (f : ℕ) → f < 8 → unsafe_flags (flags_wanted wanted f) ≡ unsafe_flags f
kept_unsafe wanted f small = unsafe_by (has_flag flags_tatweel wanted) (has_flag flags_concat wanted) f small

pub kept_one : (wanted : BufferFlags) → has_flag flags_tatweel wanted ≡ true → (f : ℕ) → f < 8 →
    unsafe_flags (flags_wanted wanted f) ≡ (bit_at 0 (flags_wanted wanted f) == 1)
kept_one wanted asked f small =
    let c = has_flag flags_concat wanted in
    ap (λ t. unsafe_flags (kept_by t c f)) asked ∙ one_by c f small
    ∙ sym (ap (λ t. bit_at 0 (kept_by t c f) == 1) asked)

-- two sets together are unsafe if one of them is
or_by : (a : ℕ) → a < 8 → (b : ℕ) → b < 8 → unsafe_flags (bit_or a b) ≡ (unsafe_flags a || unsafe_flags b)
or_by a small =
    let P : ℕ → Type 0 = λ a. (b : ℕ) → b < 8 → unsafe_flags (bit_or a b) ≡ (unsafe_flags a || unsafe_flags b) in
    eight P
    (λ b l. eight (λ b. unsafe_flags (bit_or 0 b)
    ≡ (unsafe_flags 0 || unsafe_flags b)) refl refl refl refl refl refl refl refl b l)
    (λ b l. eight (λ b. unsafe_flags (bit_or 1 b)
    ≡ (unsafe_flags 1 || unsafe_flags b)) refl refl refl refl refl refl refl refl b l)
    (λ b l. eight (λ b. unsafe_flags (bit_or 2 b)
    ≡ (unsafe_flags 2 || unsafe_flags b)) refl refl refl refl refl refl refl refl b l)
    (λ b l. eight (λ b. unsafe_flags (bit_or 3 b)
    ≡ (unsafe_flags 3 || unsafe_flags b)) refl refl refl refl refl refl refl refl b l)
    (λ b l. eight (λ b. unsafe_flags (bit_or 4 b)
    ≡ (unsafe_flags 4 || unsafe_flags b)) refl refl refl refl refl refl refl refl b l)
    (λ b l. eight (λ b. unsafe_flags (bit_or 5 b)
    ≡ (unsafe_flags 5 || unsafe_flags b)) refl refl refl refl refl refl refl refl b l)
    (λ b l. eight (λ b. unsafe_flags (bit_or 6 b)
    ≡ (unsafe_flags 6 || unsafe_flags b)) refl refl refl refl refl refl refl refl b l)
    (λ b l. eight (λ b. unsafe_flags (bit_or 7 b)
    ≡ (unsafe_flags 7 || unsafe_flags b)) refl refl refl refl refl refl refl refl b l)
    a small

low_bits : (m : ℕ) → m % 8 < 8
low_bits m = omega arith

-- the flags of a mask are its low_bits bits
pub one_low : (m : ℕ) → bit_at 0 (m % 8) ≡ bit_at 0 m
one_low m = omega arith

pub unsafe_low : (m : ℕ) → unsafe_flags (m % 8) ≡ unsafe_flags m
unsafe_low m =
    let four : bit_at 2 (m % 8) ≡ bit_at 2 m = omega arith in
    ap (λ n. n == 1 || bit_at 2 (m % 8) == 1) (one_low m) ∙ ap (λ n. bit_at 0 m == 1 || n == 1) four

-- the flags of several glyphs
gathered : (a : ℕ) (gs : Glyphs) → a < 8 →
    (fold (λ f (g : Glyph). bit_or f (g.mask % 8)) a gs < 8) ×
    (unsafe_flags (fold (λ f (g : Glyph). bit_or f (g.mask % 8)) a gs)
    ≡ (unsafe_flags a || list_any is_unsafe gs))
gathered a [] small = (small, sym (or-false (unsafe_flags a)))
gathered a (g ∷ gs) small =
    let b = bit_or a (g.mask % 8) in
    let rest = gathered b gs (or_lt 3 a (g.mask % 8) small (low_bits g.mask)) in (
      rest.0,
      rest.1
          ∙ ap (λ x. x || list_any is_unsafe gs) (or_by a small (g.mask % 8) (low_bits g.mask)
          ∙ ap (λ x. unsafe_flags a || x) (unsafe_low g.mask))
          ∙ or_assoc (unsafe_flags a) (is_unsafe g) (list_any is_unsafe gs),
    )

pub flags_small : (gs : Glyphs) → flags_of gs < 8
flags_small gs = (gathered 0 gs (omega arith)).0

pub flags_unsafe : (gs : Glyphs) → unsafe_flags (flags_of gs) ≡ list_any is_unsafe gs
flags_unsafe gs = (gathered 0 gs (omega arith)).1

-- a glyph with other flags: these are its flags, all else is as before
pub flags_put : (k : ℕ) (g : Glyph) → k < 8 → (with_flags k g).mask % 8 ≡ k
flags_put k g small =
    let none : without_flags g.mask % 8 ≡ 0 = omega arith in
    let all : k % 8 ≡ k = omega arith in
    or_mod (without_flags g.mask) k 3 ∙ ap (λ n. bit_or n (k % 8)) none ∙ all

features_put : (k : ℕ) (g : Glyph) → k < 8 → without_flags (with_flags k g).mask ≡ without_flags g.mask
features_put k g small =
    let none : k / 8 ≡ 0 = omega arith in
    without_flags-or (without_flags g.mask) k none ∙ without_flags-twice g.mask

pub view_put : (k : ℕ) (g : Glyph) → k < 8 → plain (with_flags k g) ≡ plain g
view_put k g small = ap (λ (m : ℕ). record g { cluster = 0; mask = m }) (features_put k g small)

pub put_twice : (k : ℕ) (g : Glyph) → k < 8 → with_flags k (with_flags k g) ≡ with_flags k g
put_twice k g small = ap (λ (m : ℕ). record g { mask = bit_or m k }) (features_put k g small)

pub unsafe_put : (k : ℕ) (g : Glyph) → k < 8 → is_unsafe (with_flags k g) ≡ unsafe_flags k
unsafe_put k g small = sym (unsafe_low (with_flags k g).mask) ∙ ap unsafe_flags (flags_put k g small)
