-- What stays through the three flag calls.
use Rattle.std.proofs.Common.{ℕ, ◌/◌, ◌%◌, ◌^◌, ◌≤◌, ◌≡◌, Bool, true, false, List, [], ◌∷◌, ◌++◌, map, take, drop, refl, ◌∙◌, ap, arith, ◌-◌}
use Rattle.std.specs.List.{AllByRecursion, AllZip}
use Rattle.std.specs.Int.Bits.{bit_or, or_zero_r, bit_and}
use Rattle.std.proofs.lemmas.Nat.{or_shr, or_mod, le_or_l, and_mask, and_mod}
use Rattle.std.proofs.lemmas.List.{map-append}
use Rattle.shapers_buffer.specs.Glyphs.{Glyph, Glyphs}
use Rattle.shapers_buffer.specs.Glyph.{plain, without_flags}
use Rattle.shapers_buffer.specs.Clusters.{with_stretch, stretch_of}
use Rattle.shapers_buffer.specs.GlyphFlags.{with_bits, with_bits_off, flagged, unsafe_inside, unsafe_to_concat_in, unsafe_all, tatweel_inside, FlagCall, UnsafeToBreak, UnsafeToConcat, SafeToInsertTatweel, flag_called, flags_called}
use Rattle.shapers_clusters.specs.Flags.{FlagsAlone, KeepsBits, InOrder}
use Rattle.shapers_clusters.proofs.Falls.{all_append, all_over}
use Rattle.shapers_buffer.proofs.ClusterLemmas.{three_parts}

-- bits below 8 are glyph flags
pub without_flags-or : (m bits : ℕ) → bits / 8 ≡ 0 → without_flags (bit_or m bits) ≡ without_flags m
without_flags-or m bits low = omega (arith, or_shr m bits 3 ∙ ap (bit_or (m / 8)) low ∙ or_zero_r (m / 8))

-- bits from 8 on leave them, and show as they are
pub flags-or : (a m : ℕ) → m % 8 ≡ 0 → bit_or a m % 8 ≡ a % 8
flags-or a m off = or_mod a m 3 ∙ ap (bit_or (a % 8)) off ∙ or_zero_r (a % 8)

-- nor do they where bits are taken away
pub flags-and : (a m : ℕ) → m % 8 ≡ 0 → m ≤ 0xFFFFFFFF → bit_and a (0xFFFFFFFF - m) % 8 ≡ a % 8
flags-and a m = search (arith, and_mod a (0xFFFFFFFF - m) 3, and_mask (a % 8) 3)

pub plain-or : (a m : ℕ) → m % 8 ≡ 0 → without_flags (bit_or a m) ≡ bit_or (without_flags a) m
plain-or a m off =
    let x = bit_or a m in
    let y = bit_or (without_flags a) m in
    let none : y % 8 ≡ 0 = search (arith, flags-or) in
    let front : without_flags a / 8 ≡ a / 8 = omega arith in
    let same : x / 8 ≡ y / 8 = cc (or_shr a m 3, or_shr (without_flags a) m 3) in
    omega arith

pub plain-with_bits : (bits : ℕ) (g : Glyph) → bits / 8 ≡ 0 → plain (with_bits bits g) ≡ plain g
plain-with_bits = search without_flags-or

-- what is read of glyphs by f, where these mask bits don't show in it
map-flagged_off : {Y : Type 0} (f : Glyph → Y) (bits m : ℕ) → ((g : Glyph) → f (with_bits bits g) ≡ f g)
    → (gs : Glyphs) → map f (map (with_bits_off bits m) gs) ≡ map f gs
map-flagged_off f bits m keeps [] = refl
map-flagged_off f bits m keeps (g ∷ gs) = search (arith, map-flagged_off f bits m keeps gs)

pub map-flagged : {Y : Type 0} (f : Glyph → Y) (bits : ℕ) → ((g : Glyph) → f (with_bits bits g) ≡ f g) → (gs : Glyphs)
    → map f (flagged bits gs) ≡ map f gs
map-flagged = search map-flagged_off

map-bits : {Y : Type 0} (f : Glyph → Y) (bits : ℕ) → ((g : Glyph) → f (with_bits bits g) ≡ f g)
    → (gs : Glyphs) → map f (map (with_bits bits) gs) ≡ map f gs
map-bits f bits keeps [] = refl
map-bits f bits keeps (g ∷ gs) = cc (keeps g, map-bits f bits keeps gs)

-- a change of a stretch that doesn't show there doesn't show in the whole
pub map-with_stretch : {Y : Type 0} (f : Glyph → Y) (s e : ℕ) (change : Glyphs → Glyphs) (gs : Glyphs) → s ≤ e
    → ((xs : Glyphs) → map f (change xs) ≡ map f xs) → map f (with_stretch s e change gs) ≡ map f gs
map-with_stretch f s e change gs h keeps =
    let middle = stretch_of s e gs in
    cc (
      map-append f (take s gs) (change middle ++ drop e gs),
      map-append f (change middle) (drop e gs),
      keeps middle,
      map-append f middle (drop e gs),
      map-append f (take s gs) (middle ++ drop e gs),
      three_parts s e gs h,
    )

-- the three flag calls, and the first over several stretches
pub map-unsafe_inside : {Y : Type 0} (f : Glyph → Y) → ((g : Glyph) → f (with_bits 3 g) ≡ f g)
    → (s e : ℕ) (gs : Glyphs) → s ≤ e → map f (unsafe_inside s e gs) ≡ map f gs
map-unsafe_inside = search (map-with_stretch, map-flagged)

pub map-unsafe_all : {Y : Type 0} (f : Glyph → Y) → ((g : Glyph) → f (with_bits 3 g) ≡ f g)
    → (sts : List (ℕ × ℕ)) (gs : Glyphs) → AllByRecursion (λ st. st.0 ≤ st.1) sts
    → map f (unsafe_all sts gs) ≡ map f gs
map-unsafe_all f keeps [] gs all = refl
map-unsafe_all f keeps (st ∷ sts) gs all =
    search (map-unsafe_inside, map-unsafe_all f keeps sts (unsafe_inside st.0 st.1 gs) all.1)

pub map-unsafe_to_concat_in : {Y : Type 0} (f : Glyph → Y) → ((g : Glyph) → f (with_bits 2 g) ≡ f g)
    → (asked : Bool) (s e : ℕ) (gs : Glyphs) → s ≤ e → map f (unsafe_to_concat_in asked s e gs) ≡ map f gs
map-unsafe_to_concat_in f keeps false s e gs h = refl
map-unsafe_to_concat_in f keeps true s e gs h = search (map-with_stretch, map-bits)

pub map-tatweel_inside : {Y : Type 0} (f : Glyph → Y)
    → ((bits : ℕ) (g : Glyph) → bits / 8 ≡ 0 → f (with_bits bits g) ≡ f g)
    → (asked : Bool) (s e : ℕ) (gs : Glyphs) → s ≤ e → map f (tatweel_inside asked s e gs) ≡ map f gs
map-tatweel_inside f keeps true = search (map-with_stretch, map-flagged)
map-tatweel_inside f keeps false = search map-unsafe_inside

-- no bit is lost
keeps-same : (gs : Glyphs) → AllZip KeepsBits gs gs
keeps-same [] = tt
keeps-same (g ∷ gs) = search (arith, keeps-same gs)

pub keeps-with_bits : (bits : ℕ) (g : Glyph) → KeepsBits g (with_bits bits g)
keeps-with_bits bits g k =
    let a = g.mask / 2 ^ k in
    let b = bits / 2 ^ k in
    search (or_shr g.mask bits k, or_mod a b 1, le_or_l (a % 2) (b % 2))

keeps-flagged_off : (bits m : ℕ) (gs : Glyphs) → AllZip KeepsBits gs (map (with_bits_off bits m) gs)
keeps-flagged_off bits m [] = tt
keeps-flagged_off bits m (g ∷ gs) = search (arith, keeps-with_bits, keeps-flagged_off bits m gs)

keeps-bits : (bits : ℕ) (gs : Glyphs) → AllZip KeepsBits gs (map (with_bits bits) gs)
keeps-bits bits [] = tt
keeps-bits bits (g ∷ gs) = (keeps-with_bits bits g, keeps-bits bits gs)

keeps-with_stretch : (s e : ℕ) (change : Glyphs → Glyphs) (gs : Glyphs) → s ≤ e
    → ((xs : Glyphs) → AllZip KeepsBits xs (change xs)) → AllZip KeepsBits gs (with_stretch s e change gs)
keeps-with_stretch s e change gs h keeps = search (
  arith,
  three_parts s e gs h,
  all_append KeepsBits (take s gs) (take s gs) (stretch_of s e gs ++ drop e gs)
      (change (stretch_of s e gs) ++ drop e gs) (keeps-same (take s gs))
      (all_append KeepsBits (stretch_of s e gs) (change (stretch_of s e gs)) (drop e gs) (drop e gs) (keeps
      (stretch_of s e gs)) (keeps-same (drop e gs))),
)

keeps-flagged : (bits : ℕ) (gs : Glyphs) → AllZip KeepsBits gs (flagged bits gs)
keeps-flagged = search keeps-flagged_off

-- so nothing but glyph flags changes
pub unsafe_inside-alone : (s e : ℕ) (gs : Glyphs) → s ≤ e → FlagsAlone gs (unsafe_inside s e gs)
unsafe_inside-alone = search (map-unsafe_inside, plain-with_bits, keeps-with_stretch, keeps-flagged)

pub unsafe_to_concat_in-alone : (asked : Bool) (s e : ℕ) (gs : Glyphs) → s ≤ e
    → FlagsAlone gs (unsafe_to_concat_in asked s e gs)
unsafe_to_concat_in-alone asked s e gs h = search (
  arith,
  map-unsafe_to_concat_in plain (λ g. plain-with_bits 2 g refl) asked s e gs h,
  map-unsafe_to_concat_in (λ g. g.cluster) (λ g. refl) asked s e gs h,
  keeps-with_stretch s e (map (with_bits 2)) gs h (keeps-bits 2),
  keeps-same gs,
)

pub tatweel_inside-alone : (asked : Bool) (s e : ℕ) (gs : Glyphs) → s ≤ e
    → FlagsAlone gs (tatweel_inside asked s e gs)
tatweel_inside-alone = search (map-tatweel_inside, plain-with_bits, keeps-with_stretch, keeps-flagged)

-- one call, and any list of calls
pub flag_called-alone : (concat tatweel : Bool) (call : FlagCall) (gs : Glyphs) → InOrder call
    → FlagsAlone gs (flag_called concat tatweel call gs)
flag_called-alone concat tatweel (UnsafeToBreak s e) gs h = unsafe_inside-alone s e gs h
flag_called-alone concat tatweel (UnsafeToConcat s e) gs h = unsafe_to_concat_in-alone concat s e gs h
flag_called-alone concat tatweel (SafeToInsertTatweel s e) gs h = tatweel_inside-alone tatweel s e gs h

le_on : (a b c : ℕ) → a ≤ b → b ≤ c → a ≤ c
le_on = omega arith

pub alone_on : (xs ys zs : Glyphs) → FlagsAlone xs ys → FlagsAlone ys zs → FlagsAlone xs zs
alone_on = search (arith, all_over)

pub flags_called-alone : (concat tatweel : Bool) (calls : List FlagCall) (gs : Glyphs)
    → AllByRecursion InOrder calls → FlagsAlone gs (flags_called concat tatweel calls gs)
flags_called-alone concat tatweel [] gs h = search keeps-same
flags_called-alone concat tatweel (call ∷ calls) gs h = search (
  arith,
  alone_on,
  flag_called-alone,
  flags_called-alone concat tatweel calls (flag_called concat tatweel call gs) h.1,
)

-- calls in two lists, one list after the other; breaks alone
pub flags_called-append : (concat tatweel : Bool) (xs ys : List FlagCall) (gs : Glyphs)
    → flags_called concat tatweel (xs ++ ys) gs ≡ flags_called concat tatweel ys (flags_called concat tatweel xs gs)
flags_called-append concat tatweel [] ys gs = refl
flags_called-append concat tatweel (x ∷ xs) ys gs =
    flags_called-append concat tatweel xs ys (flag_called concat tatweel x gs)

-- what is read of glyphs that no flag bits show in stays through any calls
pub map-flags_called : {Y : Type 0} (f : Glyph → Y)
    → ((bits : ℕ) (g : Glyph) → bits / 8 ≡ 0 → f (with_bits bits g) ≡ f g)
    → (concat tatweel : Bool) (calls : List FlagCall) (gs : Glyphs) → AllByRecursion InOrder calls
    → map f (flags_called concat tatweel calls gs) ≡ map f gs
map-flags_called f keeps concat tatweel [] gs h = refl
map-flags_called f keeps concat tatweel (UnsafeToBreak s e ∷ calls) gs h =
    search (map-unsafe_inside, map-flags_called f keeps concat tatweel calls (unsafe_inside s e gs) h.1)
map-flags_called f keeps concat tatweel (UnsafeToConcat s e ∷ calls) gs h = search (map-unsafe_to_concat_in, map-flags_called f keeps concat tatweel calls (unsafe_to_concat_in concat s e gs) h.1)
map-flags_called f keeps concat tatweel (SafeToInsertTatweel s e ∷ calls) gs h = search (map-tatweel_inside, map-flags_called f keeps concat tatweel calls (tatweel_inside tatweel s e gs) h.1)
