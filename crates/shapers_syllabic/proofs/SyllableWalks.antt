-- Steps of the walks over syllables.
use Rattle.std.proofs.Common.{◌≡◌, ℕ, ◌+◌, ◌<◌, ◌≤◌, [], ◌∷◌, ◌++◌, length, take, drop, refl, arith, length-append, length-drop, append_assoc}
use Rattle.std.specs.List.{flat_map}
use Rattle.std.proofs.lemmas.List.{take_at, drop_at, drop-drop}
use Rattle.shapers_buffer.specs.Glyphs.{Glyphs}
use Rattle.shapers_buffer.specs.Clusters.{stretch_of, with_stretch}
use Rattle.shapers_buffer.specs.Syllables.{first_syllable_len, syllables}
use Rattle.shapers_buffer.proofs.SyllableLaws.{syllables_are_longest}

-- a text, and one from place s on, by its first syllable
by_first : (gs : Glyphs) (n : ℕ) → 0 < length gs → n ≡ first_syllable_len gs
    → syllables gs ≡ take n gs ∷ syllables (drop n gs)
by_first [] n some is = absurd (omega arith)
by_first (g ∷ gs) n some is = rw is (syllables_are_longest g gs)

pub syllables_from : (s n : ℕ) (gs : Glyphs) → 0 < length (drop s gs) → n ≡ first_syllable_len (drop s gs)
    → syllables (drop s gs) ≡ take n (drop s gs) ∷ syllables (drop (s + n) gs)
syllables_from = search (arith, by_first, drop-drop)

-- a changed stretch of the same length: what stands up to its end, and behind it
pub record Changed (f : Glyphs → Glyphs) (s e : ℕ) (gs hs : Glyphs) : Type
    0 where
  pub before : take e hs ≡ take s gs ++ f (stretch_of s e gs)
  pub behind : drop e hs ≡ drop e gs

pub changed_stretch : (f : Glyphs → Glyphs) (s e : ℕ) (gs hs : Glyphs) → s ≤ e
    → e ≤ length gs → hs ≡ with_stretch s e f gs → length hs ≡ length gs → Changed f s e gs hs
changed_stretch f s e gs hs order inside is as_long =
    let a = take s gs in
    let b = f (stretch_of s e gs) in
    let c = drop e gs in
    let whole : length (a ++ (b ++ c)) ≡ length gs = cc in
    let long : length (a ++ b) ≡ e =
    omega (arith, length-append a (b ++ c), length-append b c, length-append a b, length-drop e gs) in
    search (arith, append_assoc a b c, take_at (a ++ b) c e long, drop_at (a ++ b) c e long)

-- after one syllable
pub change_next : (f : Glyphs → Glyphs) (s e : ℕ) (gs hs : Glyphs) → s < length gs
    → e ≡ s + first_syllable_len (drop s gs) → e ≤ length gs → hs ≡ with_stretch s e f gs → length hs ≡ length gs
    → take e hs ++ flat_map f (syllables (drop e hs)) ≡ take s gs ++ flat_map f (syllables (drop s gs))
change_next f s e gs hs some is inside changed as_long =
    let step = changed_stretch f s e gs hs (omega arith) inside changed as_long in
    search (arith, append_assoc (take s gs) (f (stretch_of s e gs)) (flat_map f (syllables (drop e hs))), syllables_from s (first_syllable_len (drop s gs)) gs (omega (arith, length-drop s gs)) refl)
