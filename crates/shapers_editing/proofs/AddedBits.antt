-- Glyph flags as mask bits that are added by place: the bits depend on clusters alone, so that calls
-- may come in any order, and twice.
use Rattle.std.proofs.Common.{◌≡◌, ℕ, ◌-◌, ◌≤◌, Bool, true, false, cond, ◌==◌, List, [], ◌∷◌, ◌++◌, length, map, take, drop, refl, sym, ap, ◌∙◌, arith, bit_or}
use Rattle.std.specs.Int.Bits.{and_zero_r, or_add_and}
use Rattle.std.specs.List.{AllByRecursion}
use Rattle.std.proofs.lemmas.List.{length-map, take-map, drop-map}
use Rattle.shapers_buffer.specs.Glyphs.{Glyph, Glyphs}
use Rattle.shapers_buffer.specs.Clusters.{least, stretch_of, with_stretch}
use Rattle.shapers_buffer.specs.Glyph.{clusters}
use Rattle.shapers_buffer.specs.GlyphFlags.{FlagCall, UnsafeToBreak, UnsafeToConcat, SafeToInsertTatweel, flag_called, flagged, flags_called, with_bits, with_bits_off}
use Rattle.shapers_buffer.proofs.ClusterLemmas.{three_parts}
use Rattle.shapers_buffer.proofs.MaskBits.{or_swap, or_twice}
use Rattle.shapers_clusters.specs.Flags.{InOrder}
use Rattle.shapers_clusters.proofs.FlagCalls.{map-flags_called}

-- the glyphs with these bits added to their masks, one number a glyph
abbrev pub ors : List ℕ → Glyphs → Glyphs
ors [] gs = gs
ors (n ∷ ns) [] = []
ors (n ∷ ns) (g ∷ gs) = with_bits n g ∷ ors ns gs

or-nothing : (m : ℕ) → bit_or m 0 ≡ m
or-nothing m = omega (arith, or_add_and m 0, and_zero_r m)

pub ors-swap : (ns ms : List ℕ) (gs : Glyphs) → ors ns (ors ms gs) ≡ ors ms (ors ns gs)
ors-swap [] ms gs = refl
ors-swap (n ∷ ns) [] gs = refl
ors-swap (n ∷ ns) (m ∷ ms) [] = refl
ors-swap (n ∷ ns) (m ∷ ms) (g ∷ gs) =
    ap (λ (k : ℕ). let h : Glyph = record g { mask = k } in h ∷ ors ns (ors ms gs)) (or_swap g.mask n m)
    ∙ ap (λ hs. with_bits m (with_bits n g) ∷ hs) (ors-swap ns ms gs)

pub ors-twice : (ns : List ℕ) (gs : Glyphs) → ors ns (ors ns gs) ≡ ors ns gs
ors-twice [] gs = refl
ors-twice (n ∷ ns) [] = refl
ors-twice (n ∷ ns) (g ∷ gs) =
    ap (λ (k : ℕ). let h : Glyph = record g { mask = k } in h ∷ ors ns (ors ns gs)) (or_twice g.mask n)
    ∙ ap (λ hs. with_bits n g ∷ hs) (ors-twice ns gs)

pub clusters-ors : (ns : List ℕ) (gs : Glyphs) → clusters (ors ns gs) ≡ clusters gs
clusters-ors [] gs = refl
clusters-ors (n ∷ ns) [] = refl
clusters-ors (n ∷ ns) (g ∷ gs) = ap (λ cs. g.cluster ∷ cs) (clusters-ors ns gs)

ors-append : (ns ms : List ℕ) (gs hs : Glyphs) → length ns ≡ length gs → ors (ns ++ ms) (gs ++ hs)
    ≡ ors ns gs ++ ors ms hs
ors-append [] ms [] hs e = refl
ors-append [] ms (g ∷ gs) hs e = absurd (omega arith)
ors-append (n ∷ ns) ms [] hs e = absurd (omega arith)
ors-append (n ∷ ns) ms (g ∷ gs) hs e = ap (λ ks. with_bits n g ∷ ks) (ors-append ns ms gs hs (omega arith))

-- no bits
ors-nothing : (gs : Glyphs) → ors (map (λ c. 0) (clusters gs)) gs ≡ gs
ors-nothing [] = refl
ors-nothing (g ∷ gs) =
    ap (λ (k : ℕ). let h : Glyph = record g { mask = k } in h ∷ ors (map (λ c. 0) (clusters gs)) gs)
    (or-nothing g.mask)
    ∙ ap (λ hs. g ∷ hs) (ors-nothing gs)

-- the bits of a stretch
abbrev in_stretch : (List ℕ → List ℕ) → ℕ → ℕ → List ℕ → List ℕ
in_stretch f s e cs = map (λ c. 0) (take s cs) ++ f (stretch_of s e cs)

stretch-ors : (f : List ℕ → List ℕ) (change : Glyphs → Glyphs) →
    ((xs : Glyphs) → change xs ≡ ors (f (clusters xs)) xs) → ((cs : List ℕ) → length (f cs) ≡ length cs)
    → (s e : ℕ) (gs : Glyphs) → s ≤ e → with_stretch s e change gs ≡ ors
    (in_stretch f s e (clusters gs)) gs
stretch-ors f change same long s e gs h =
    let front = take s gs in
    let mid = stretch_of s e gs in
    let back = drop e gs in
    let cs = clusters gs in
    let front_same : take s cs ≡ clusters front = take-map (λ (g : Glyph). g.cluster) s gs in
    let mid_same : stretch_of s e cs ≡ clusters mid = ap (take (e - s))
    (drop-map (λ (g : Glyph). g.cluster) s gs) ∙ take-map (λ (g : Glyph). g.cluster) (e - s)
    (drop s gs) in
    let a = map (λ (c : ℕ). 0) (clusters front) in
    let b = f (clusters mid) in
    let la : length a ≡ length front = length-map (clusters front) (λ (c : ℕ). 0) ∙ length-map front
    (λ (g : Glyph). g.cluster) in
    let lb : length b ≡ length mid = long (clusters mid) ∙ length-map mid (λ (g : Glyph). g.cluster) in
    let parts : ors (a ++ b) gs ≡ front ++ (change mid ++ back) =
    ap (ors (a ++ b)) (sym (three_parts s e gs h))
    ∙ ors-append a b front (mid ++ back) la
    ∙ ap (λ xs. xs ++ ors b (mid ++ back)) (ors-nothing front)
    ∙ ap (λ xs. front ++ xs) (behind b mid back lb ∙ ap (λ xs. xs ++ back) (sym (same mid))) in
    sym (ap (λ xs. ors (map (λ c. 0) xs ++ f (stretch_of s e cs)) gs) front_same ∙ ap
    (λ xs. ors (a ++ f xs) gs) mid_same ∙ parts)
  where
    behind : (ns : List ℕ) (xs ys : Glyphs) → length ns ≡ length xs → ors ns (xs ++ ys) ≡ ors ns xs ++ ys
    behind [] [] ys e = refl
    behind [] (x ∷ xs) ys e = absurd (omega arith)
    behind (n ∷ ns) [] ys e = absurd (omega arith)
    behind (n ∷ ns) (x ∷ xs) ys e = ap (λ zs. with_bits n x ∷ zs) (behind ns xs ys (omega arith))

-- the bits of one call
abbrev off_least : ℕ → List ℕ → List ℕ
off_least bits cs = map (λ c. cond (c == least cs) 0 bits) cs

off-ors : (bits m : ℕ) (gs : Glyphs) → map (with_bits_off bits m) gs ≡ ors
    (map (λ c. cond (c == m) 0 bits) (clusters gs)) gs
off-ors bits m [] = refl
off-ors bits m (g ∷ gs) =
    ap (λ x. x ∷ map (with_bits_off bits m) gs)
    (elim (g.cluster == m) as (λ b. cond b g (with_bits bits g) ≡ with_bits (cond b 0 bits) g) [
      | true ↦ ap (λ (k : ℕ). let h : Glyph = record g { mask = k } in h) (sym (or-nothing g.mask))
      | false ↦ refl
    ])
    ∙ ap (λ xs. with_bits (cond (g.cluster == m) 0 bits) g ∷ xs) (off-ors bits m gs)

each-ors : (bits : ℕ) (gs : Glyphs) → map (with_bits bits) gs ≡ ors (map (λ c. bits) (clusters gs)) gs
each-ors bits [] = refl
each-ors bits (g ∷ gs) = ap (λ xs. with_bits bits g ∷ xs) (each-ors bits gs)

abbrev call_bits : Bool → Bool → FlagCall → List ℕ → List ℕ
call_bits concat tatweel (UnsafeToBreak s e) cs = in_stretch (off_least 3) s e cs
call_bits concat tatweel (UnsafeToConcat s e) cs = cond concat (in_stretch (map (λ c. 2)) s e cs) []
call_bits concat tatweel (SafeToInsertTatweel s e) cs =
    in_stretch (off_least (cond tatweel 4 3)) s e cs

flagged-stretch : (bits s e : ℕ) (gs : Glyphs) → s ≤ e → with_stretch s e (flagged bits) gs ≡ ors
    (in_stretch (off_least bits) s e (clusters gs)) gs
flagged-stretch bits s e gs h = stretch-ors (off_least bits) (flagged bits)
    (λ xs. off-ors bits (least (clusters xs)) xs) (λ cs. length-map cs (λ c. cond (c == least cs) 0 bits)) s e gs h

called : (concat tatweel : Bool) (call : FlagCall) (gs : Glyphs) → InOrder call
    → flag_called concat tatweel call gs ≡ ors (call_bits concat tatweel call (clusters gs)) gs
called concat tatweel (UnsafeToBreak s e) gs h = flagged-stretch 3 s e gs h
called true tatweel (UnsafeToConcat s e) gs h = stretch-ors (map (λ c. 2)) (map (with_bits 2)) (each-ors 2)
    (λ cs. length-map cs (λ c. 2)) s e gs h
called false tatweel (UnsafeToConcat s e) gs h = refl
called concat tatweel (SafeToInsertTatweel s e) gs h = flagged-stretch (cond tatweel 4 3) s e gs h

called-as : (concat tatweel : Bool) (call : FlagCall) (gs hs : Glyphs) → InOrder call → clusters hs
    ≡ clusters gs → flag_called concat tatweel call hs ≡ ors (call_bits concat tatweel call (clusters gs)) hs
called-as concat tatweel call gs hs h e = called concat tatweel call hs h ∙ ap
    (λ cs. ors (call_bits concat tatweel call cs) hs) e

-- added bits pass flags
pub flags-pass-ors : (concat tatweel : Bool) (calls : List FlagCall) (ns : List ℕ) (gs : Glyphs)
    → AllByRecursion InOrder calls → ors ns (flags_called concat tatweel calls gs) ≡ flags_called concat tatweel calls
    (ors ns gs)
flags-pass-ors concat tatweel [] ns gs all = refl
flags-pass-ors concat tatweel (call ∷ calls) ns gs all =
    flags-pass-ors concat tatweel calls ns (flag_called concat tatweel call gs) all.1
    ∙ ap (flags_called concat tatweel calls)
    (ap (ors ns) (called concat tatweel call gs all.0)
    ∙ ors-swap ns (call_bits concat tatweel call (clusters gs)) gs
    ∙ sym (called-as concat tatweel call gs (ors ns gs) all.0 (clusters-ors ns gs)))

-- a change that bits pass, passes flags, where it leaves clusters
pub flags-pass : (concat tatweel : Bool) (f : Glyphs → Glyphs) →
    ((ns : List ℕ) (gs : Glyphs) → f (ors ns gs) ≡ ors ns (f gs)) → (calls : List FlagCall)
    (gs : Glyphs) → AllByRecursion InOrder calls → clusters (f gs) ≡ clusters gs → f
    (flags_called concat tatweel calls gs) ≡ flags_called concat tatweel calls (f gs)
flags-pass concat tatweel f pass [] gs all e = refl
flags-pass concat tatweel f pass (call ∷ calls) gs all e =
    let ns = call_bits concat tatweel call (clusters gs) in
    ap (λ xs. f (flags_called concat tatweel calls xs)) (called concat tatweel call gs all.0)
    ∙ ap f (sym (flags-pass-ors concat tatweel calls ns gs all.1))
    ∙ pass ns (flags_called concat tatweel calls gs)
    ∙ ap (ors ns) (flags-pass concat tatweel f pass calls gs all.1 e)
    ∙ flags-pass-ors concat tatweel calls ns (f gs) all.1
    ∙ ap (flags_called concat tatweel calls) (sym (called-as concat tatweel call gs (f gs) all.0 e))

pub clusters-called : (concat tatweel : Bool) (calls : List FlagCall) (gs : Glyphs)
    → AllByRecursion InOrder calls → clusters (flags_called concat tatweel calls gs) ≡ clusters gs
clusters-called concat tatweel calls gs all = map-flags_called (λ g. g.cluster)
    (λ bits g low. refl) concat tatweel calls gs all

-- so calls a second time change nothing
pub flags-twice : (concat tatweel : Bool) (calls : List FlagCall) (gs : Glyphs)
    → AllByRecursion InOrder calls → flags_called concat tatweel calls (flags_called concat tatweel calls gs)
    ≡ flags_called concat tatweel calls gs
flags-twice concat tatweel [] gs all = refl
flags-twice concat tatweel (call ∷ calls) gs all =
    let ns = call_bits concat tatweel call (clusters gs) in
    let once = flags_called concat tatweel calls gs in
    let first : flags_called concat tatweel (call ∷ calls) gs ≡ ors ns once =
    ap (flags_called concat tatweel calls) (called concat tatweel call gs all.0)
    ∙ sym (flags-pass-ors concat tatweel calls ns gs all.1) in
    let same : clusters (ors ns once) ≡ clusters gs = clusters-ors ns once
    ∙ clusters-called concat tatweel calls gs all.1 in
    ap (flags_called concat tatweel (call ∷ calls)) first
    ∙ ap (flags_called concat tatweel calls) (called-as concat tatweel call gs (ors ns once) all.0 same
    ∙ ors-twice ns once)
    ∙ sym (flags-pass-ors concat tatweel calls ns once all.1)
    ∙ ap (ors ns) (flags-twice concat tatweel calls gs all.1)
    ∙ sym first
