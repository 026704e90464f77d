-- Where masks stand, and how they come together.
use Rattle.std.proofs.Common.{ℕ, ◌-◌, ◌<◌, ◌≤◌, ◌≡◌, Bool, true, nat_le, nat_lt, ◌&&◌, ◌||◌, ◌++◌, min, map, length, take, drop, get_or, refl, arith, length-take, length-drop}
use Rattle.std.proofs.lemmas.Bool.{le-leb, le-ltb, lt-leb, lt-ltb}
use Rattle.std.proofs.lemmas.List.{ext_get_or, get_or-append_right, get_or_append_left, get_or-drop, get_or-map, get_or-take, length-map}
use Rattle.shapers_buffer.specs.Clusters.{stretch_of}
use Rattle.shapers_buffer.specs.Glyph.{default_glyph}
use Rattle.shapers_buffer.specs.Glyphs.{Glyph, Glyphs}
use Rattle.shapers_buffer.proofs.MaskBits.{or_swap, or_twice}
use Rattle.shapers_khmer.specs.Khmer.{masked, with_mask}
use Rattle.shapers_khmer.specs.KhmerMovers.{with_mask_if}
use Rattle.shapers_khmer.specs.Proved.KhmerMasks.{length-masked}

-- MASKS COMMUTE, and one added twice is added once
pub swap_if : (a b : Bool) (m k : ℕ) (g : Glyph) → with_mask_if a m (with_mask_if b k g)
    ≡ with_mask_if b k (with_mask_if a m g)
swap_if true true m k g = search (arith, or_swap)
swap_if _ _ m k g = refl

pub join_if : (a b : Bool) (m : ℕ) (g : Glyph) → with_mask_if b m (with_mask_if a m g) ≡ with_mask_if (a || b) m g
join_if true true m g = search (arith, or_twice)
join_if _ _ m g = refl

-- WHERE MASKS STAND. A glyph inside what is masked, and one outside
pub masked_there : (m s e : ℕ) (gs : Glyphs) (i : ℕ) (d : Glyph) → e ≤ length gs → s ≤ i → i < e
    → get_or (masked m s e gs) i d ≡ with_mask m (get_or gs i d)
masked_there m s e gs i d l from to =
    let a = take s gs in
    let b = map (with_mask m) (stretch_of s e gs) in
    let c = drop e gs in
    let sn : length (stretch_of s e gs) ≡ e - s = search (arith, length-take, length-drop) in
    let bn : length b ≡ e - s = search (arith, length-map) in
    search (
      arith,
      get_or-append_right a (b ++ c) s i d (omega (arith, length-take s gs)) from,
      get_or_append_left b c d (i - s) (omega arith),
      get_or-map,
      get_or-take (e - s) (drop s gs) (i - s) d (omega arith),
      get_or-drop s gs (i - s) d,
    )

pub masked_before : (m s e : ℕ) (gs : Glyphs) (i : ℕ) (d : Glyph) → e ≤ length gs → s ≤ e
    → i < s → get_or (masked m s e gs) i d ≡ get_or gs i d
masked_before m s e gs i d l h before =
    let an : length (take s gs) ≡ s = omega (arith, length-take s gs) in
    search (arith, get_or_append_left, get_or-take)

pub masked_behind : (m s e : ℕ) (gs : Glyphs) (i : ℕ) (d : Glyph) → e ≤ length gs → s ≤ e
    → e ≤ i → get_or (masked m s e gs) i d ≡ get_or gs i d
masked_behind = search (arith, get_or-append_right, length-take, length-map, length-drop, get_or-drop)

-- whether a place lies from s to e
abbrev lies : ℕ → ℕ → ℕ → Bool
lies s e i = nat_le s i && nat_lt i e

-- each glyph where a mask is added
masked_where : (m s e : ℕ) (gs : Glyphs) (i : ℕ) (d : Glyph) → e ≤ length gs → s ≤ e
    → get_or (masked m s e gs) i d ≡ with_mask_if (lies s e i) m (get_or gs i d)
masked_where = search (arith, masked_before, lt-leb, refl, masked_there, le-leb, lt-ltb, masked_behind, le-ltb)

-- masks commute
pub masked-swap : (m a b k c d : ℕ) (gs : Glyphs) → a ≤ b → b ≤ length gs → c ≤ d → d ≤ length gs
    → masked m a b (masked k c d gs) ≡ masked k c d (masked m a b gs)
masked-swap m a b k c d gs h l i j =
    let x = masked k c d gs in
    let y = masked m a b gs in
    let xn : length x ≡ length gs = length-masked k c d gs i in
    let yn : length y ≡ length gs = length-masked m a b gs h in
    let left : length (masked m a b x) ≡ length x = length-masked m a b x h in
    let right : length (masked k c d y) ≡ length y = length-masked k c d y i in
    ext_get_or default_glyph (masked m a b x) (masked k c d y) (omega arith) (λ p inside.
    search (arith, masked_where, swap_if))

-- a mask added to the end from two places on stands from the first of them on
lies_either : (a b e i : ℕ) → (lies a e i || lies b e i) ≡ lies (min a b) e i
lies_either = search arith

pub masked-join : (m a b e : ℕ) (gs : Glyphs) → a ≤ e → b ≤ e → e ≤ length gs
    → masked m b e (masked m a e gs) ≡ masked m (min a b) e gs
masked-join m a b e gs h i l =
    let x = masked m a e gs in
    let xn : length x ≡ length gs = length-masked m a e gs h in
    let left : length (masked m b e x) ≡ length x = length-masked m b e x i in
    let right : length (masked m (min a b) e gs) ≡ length gs = length-masked m (min a b) e gs (omega arith) in
    ext_get_or default_glyph (masked m b e x) (masked m (min a b) e gs) (omega arith) (λ p inside.
    search (arith, masked_where, join_if, lies_either))
