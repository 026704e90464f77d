-- A call that forbids a break leaves a flag in the greater of the two clusters that meet there.
use Rattle.std.proofs.Common.{◌≡◌, ℕ, ◌+◌, ◌-◌, ◌<◌, ◌≤◌, Bool, true, false, eqb, ltb, ◌&&◌, List, [], ◌∷◌, ◌++◌, length, map, take, drop, get_or, sym, subst, arith, inl, inr, length-take, length-drop}
use Rattle.std.specs.Int.Bits.{bit_or}
use Rattle.std.specs.List.{AllByRecursion, list_any}
use Rattle.std.proofs.lemmas.Bool.{ltb-true, and_parts, or_cases, cases_order, both_ways, false_from_ne_true, false≢true}
use Rattle.std.proofs.lemmas.List.{length-map, length-take-le, get_or-map, get_or-take, get_or-drop, get_or_append_left, get_or-append-add}
use Rattle.std.proofs.lemmas.List.Elements.{AllZip-get_or}
use Rattle.std.proofs.lemmas.List.Folds.{list_any_at}
use Rattle.std.proofs.lemmas.Nat.Bits.{bit_at_or}
use Rattle.shapers_buffer.specs.Glyph.{clusters, default_glyph}
use Rattle.shapers_buffer.specs.Clusters.{least, stretch_of, with_stretch}
use Rattle.shapers_buffer.specs.GlyphFlags.{FlagCall, UnsafeToConcat, SafeToInsertTatweel, flagged, flag_called, flags_called}
use Rattle.shapers_buffer.specs.Glyphs.{Glyph, Glyphs}
use Rattle.shapers_clusters.specs.Flags.{bit_at, InOrder, KeepsBits}
use Rattle.shapers_clusters.proofs.FlagCalls.{flag_called-alone, flags_called-alone}
use Rattle.shapers_clusters.proofs.ClusterMerges.{least-le}
use Rattle.shapers_clusters.specs.Breaks.{forbids, is_unsafe, greater, ClearLaw}

-- whether the calls forbid a break before place p
abbrev pub held_by_calls : ℕ → List FlagCall → Bool
held_by_calls p calls = list_any (forbids p) calls

-- the two bits that forbid one, as a number
abbrev pub unsafe_bits : ℕ → ℕ
unsafe_bits mask = bit_at 0 mask + bit_at 2 mask

pub unsafe-from : (g : Glyph) → 0 < unsafe_bits g.mask → is_unsafe g ≡ true
unsafe-from = search arith

at : Glyphs → ℕ → Glyph
at gs k = get_or gs k default_glyph

-- a place inside a stretch that is changed glyph by glyph
pub in-stretch : (f : Glyph → Glyph) (s e k : ℕ) (gs : Glyphs) (d : Glyph)
    → s ≤ k → k < e → k < length gs → get_or (with_stretch s e (map f) gs) k d ≡ f (get_or gs k d)
in-stretch f s e k gs d low high within =
    let front = take s gs in
    let part = stretch_of s e gs in
    let n = k - s in
    let long : length front ≡ s = length-take-le s gs (omega arith) in
    let inner : n < length part = search (arith, length-take, length-drop) in
    search (
      arith,
      get_or-append-add front (map f part ++ drop e gs) n d,
      get_or_append_left (map f part) (drop e gs) d n (omega (arith, length-map part f)),
      get_or-map f part n d d inner,
      get_or-take (e - s) (drop s gs) n d (omega arith),
      get_or-drop s gs n d,
    )

-- the least cluster of a stretch is at most that of each place in it
least-in : (s e j : ℕ) (gs : Glyphs) (d : Glyph) → s ≤ j → j < e → j < length gs
    → least (clusters (stretch_of s e gs)) ≤ (get_or gs j d).cluster
least-in s e j gs d low high within =
    let part = stretch_of s e gs in
    let n = j - s in
    let inner : n < length part = search (arith, length-take, length-drop) in
    search (
      arith,
      get_or-map (λ (g : Glyph). g.cluster) part n d 0 inner,
      get_or-take (e - s) (drop s gs) n d (omega arith),
      get_or-drop s gs n d,
      least-le (clusters part) n (omega (arith, length-map part (λ (g : Glyph). g.cluster))),
    )

-- the flag of a glyph above the least cluster
abbrev Puts : ℕ → Type 0
Puts bits = (mask : ℕ) → 0 < unsafe_bits (bit_or mask bits)

put-three : Puts 3
put-three mask = search (arith, bit_at_or mask 3 0)

put-four : Puts 4
put-four mask = search (arith, bit_at_or mask 4 2)

-- one call that reaches over both places
call-puts : (bits : ℕ) → Puts bits → (s e k j : ℕ) (gs : Glyphs) (d : Glyph) → s ≤ k → k < e
    → s ≤ j → j < e → k < length gs → j < length gs → (get_or gs j d).cluster < (get_or gs k d).cluster
    → 0 < unsafe_bits (get_or (with_stretch s e (flagged bits) gs) k d).mask
call-puts bits puts s e k j gs d a b c f within inside =
    let low = least-in s e j gs d c f inside in search (arith, in-stretch)

-- the two places that meet at p
record Meet (k j p : ℕ) (gs : Glyphs) : Type 0 where
  k_from : p - 1 ≤ k
  k_to : k ≤ p
  j_from : p - 1 ≤ j
  j_to : j ≤ p
  within : p < length gs
  less : get_or (clusters gs) j 0 < get_or (clusters gs) k 0

cluster-at : (gs : Glyphs) (k : ℕ) → k < length gs → get_or (clusters gs) k 0 ≡ (at gs k).cluster
unfolding at
cluster-at = search (arith, get_or-map)

pub length-same : (gs hs : Glyphs) → clusters hs ≡ clusters gs → length hs ≡ length gs
length-same = search (arith, length-map)

-- one call
break-puts_at : (bits : ℕ) → Puts bits → (s e : ℕ) (gs : Glyphs) (k j p : ℕ) → 0 < p → Meet k j p gs
    → (ltb s p && ltb p e) ≡ true → 0 < unsafe_bits (at (with_stretch s e (flagged bits) gs) k).mask
unfolding at
break-puts_at bits puts s e gs k j p pos m f =
    let (b, c) = and_parts (ltb s p) (ltb p e) f in
    let low = ltb-true s p b in
    let high = ltb-true p e c in
    let k_in : k < length gs = omega arith in
    let j_in : j < length gs = omega arith in
    search (call-puts bits puts s e k j gs default_glyph (omega arith) (omega arith) (omega arith) (omega arith) k_in j_in
    (omega (
      arith,
      get_or-map (λ (g : Glyph). g.cluster) gs k default_glyph 0 k_in,
      get_or-map (λ (g : Glyph). g.cluster) gs j default_glyph 0 j_in,
    )))

call-puts_at : (concat tatweel : Bool) (call : FlagCall) (gs : Glyphs) (k j p : ℕ) → 0 < p → Meet k j p gs
    → forbids p call ≡ true → 0 < unsafe_bits (at (flag_called concat tatweel call gs) k).mask
call-puts_at concat tatweel (UnsafeToConcat s e) gs k j p pos m f = absurd (false≢true f)
call-puts_at concat true (SafeToInsertTatweel s e) gs k j p pos m f = search (break-puts_at, put-four)
call-puts_at concat _ _ gs k j p pos m f = search (break-puts_at, put-three)

-- any calls
calls-put_at : (concat tatweel : Bool) (calls : List FlagCall) (gs : Glyphs) (k j p : ℕ)
    → AllByRecursion InOrder calls → 0 < p → Meet k j p gs → held_by_calls p calls ≡ true
    → 0 < unsafe_bits (at (flags_called concat tatweel calls gs) k).mask
unfolding at
calls-put_at concat tatweel [] gs k j p all pos m f = absurd (false≢true f)
calls-put_at concat tatweel (call ∷ calls) gs k j p all pos m f =
    let once = flag_called concat tatweel call gs in
    let same = (flag_called-alone concat tatweel call gs all.0).same_clusters in
    let long = length-same gs once same in
    elim (or_cases (forbids p call) (held_by_calls p calls) f) [
      | inl here ↦
          let kept = AllZip-get_or KeepsBits once (flags_called concat tatweel calls once) k default_glyph default_glyph
          (flags_called-alone concat tatweel calls once all.1).none_lost (omega arith) in
          omega (arith, call-puts_at concat tatweel call gs k j p pos m here, kept 0, kept 2)
      | inr later ↦
          let within = m.within in
          let next : Meet k j p once =
          record {
            k_from = m.k_from;
            k_to = m.k_to;
            j_from = m.j_from;
            j_to = m.j_to;
            within = omega arith;
            less = subst (λ cs. get_or cs j 0 < get_or cs k 0) (sym same) m.less;
          } in
          calls-put_at concat tatweel calls once k j p all.1 pos next later
    ]

-- so no such call stands at a clear place
found : (gs : Glyphs) (p k c : ℕ) → k < length gs → (at gs k).cluster ≡ c → 0 < unsafe_bits (at gs k).mask
    → list_any (λ g. eqb g.cluster c && is_unsafe g) gs ≡ true
unfolding at
found = search (arith, list_any_at)

pub clear-places : ClearLaw
clear-places concat tatweel calls gs p all pos within clear =
    let new = flags_called concat tatweel calls gs in
    let same = (flags_called-alone concat tatweel calls gs all).same_clusters in
    let long = length-same gs new same in
    false_from_ne_true (held_by_calls p calls) (λ f. elim (cases_order (get_or (clusters new) (p - 1) 0)
    (get_or (clusters new) p 0)) [
      | inl e ↦ clear.differ e
      | inr (inl less) ↦
          let m : Meet p (p - 1) p gs =
          record {
            k_from = omega arith;
            k_to = omega arith;
            j_from = omega arith;
            j_to = omega arith;
            within =
                within;
            less = subst (λ cs. get_or cs (p - 1) 0 < get_or cs p 0) same less;
          } in
          both_ways _ clear.unflagged
          (found new p p (greater new p) (omega arith) (omega (arith, cluster-at new p (omega arith)))
          (calls-put_at concat tatweel calls gs p (p - 1) p all pos m f))
      | inr (inr more) ↦
          let m : Meet (p - 1) p p gs =
          record {
            k_from = omega arith;
            k_to = omega arith;
            j_from = omega arith;
            j_to = omega arith;
            within =
                within;
            less = subst (λ cs. get_or cs p 0 < get_or cs (p - 1) 0) same more;
          } in
          both_ways _ clear.unflagged
          (found new p (p - 1) (greater new p) (omega arith) (omega (arith, cluster-at new (p - 1) (omega arith)))
          (calls-put_at concat tatweel calls gs (p - 1) p p all pos m f))
    ])
