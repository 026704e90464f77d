-- Where each glyph is a cluster of its own and clusters rise or fall, a call flags no place but
-- those where it forbids a break.
use Rattle.std.proofs.Common.{◌≡◌, ℕ, ◌+◌, ◌-◌, ◌<◌, ◌≤◌, ◌≢◌, Bool, true, false, cond, eqb, ltb, ◌&&◌, min, max, suc, List, [], ◌∷◌, ◌++◌, length, map, take, drop, get_or, refl, sym, ap, ◌∙◌, subst, arith, inl, inr, length-take, length-drop}
use Rattle.std.specs.Int.Bits.{bit_or}
use Rattle.std.specs.List.{AllByRecursion, AllPairs}
use Rattle.std.proofs.lemmas.Bool.{ne_eqb, and_left, and_right, or_parts, cases_lt, cases_eq}
use Rattle.std.proofs.lemmas.List.{length-map, length-take-le, get_or-map, get_or-take, get_or-drop, get_or_append_left, get_or-append-add}
use Rattle.std.proofs.lemmas.List.Elements.{All-from_recursion, All-from_get_or, All-get_or}
use Rattle.std.proofs.lemmas.List.Folds.{list_any_none}
use Rattle.std.proofs.lemmas.Nat.Bits.{bit_at_or}
use Rattle.shapers_buffer.specs.Glyph.{clusters, default_glyph}
use Rattle.shapers_buffer.specs.Clusters.{least, stretch_of, with_stretch}
use Rattle.shapers_buffer.specs.GlyphFlags.{FlagCall, UnsafeToBreak, UnsafeToConcat, SafeToInsertTatweel, with_bits_off, flagged, unsafe_to_concat_in, flag_called, flags_called}
use Rattle.shapers_buffer.specs.Glyphs.{Glyph, Glyphs}
use Rattle.shapers_clusters.specs.Flags.{InOrder}
use Rattle.shapers_clusters.proofs.FlagCalls.{flag_called-alone, flags_called-alone}
use Rattle.shapers_clusters.proofs.ClusterMerges.{least-le, least-among}
use Rattle.shapers_clusters.specs.Breaks.{forbids, IsClear, IsFree, IsStrictlyMonotone, is_unsafe, greater, NeedlessLaw}
use Rattle.shapers_clusters.proofs.ClearPlaces.{held_by_calls, unsafe_bits, in-stretch, length-same}

-- glyphs without either bit
pub none-unsafe : (g : Glyph) → is_unsafe g ≡ false → unsafe_bits g.mask ≡ 0
none-unsafe = search arith

pub unsafe-none : (g : Glyph) → unsafe_bits g.mask ≡ 0 → is_unsafe g ≡ false
unsafe-none = search arith

-- a place outside a stretch
before-stretch : (f : Glyph → Glyph) (s e k : ℕ) (gs : Glyphs) (d : Glyph)
    → k < s → k < length gs → get_or (with_stretch s e (map f) gs) k d ≡ get_or gs k d
before-stretch = search (arith, get_or_append_left, length-take, get_or-take)

behind-stretch : (f : Glyph → Glyph) (s e k : ℕ) (gs : Glyphs) (d : Glyph)
    → s ≤ e → e ≤ k → k < length gs → get_or (with_stretch s e (map f) gs) k d ≡ get_or gs k d
behind-stretch f s e k gs d order h within =
    let front = take s gs in
    let part = map f (stretch_of s e gs) in
    let a : length front ≡ s = length-take-le s gs (omega arith) in
    let b : length part ≡ e - s = search (arith, length-map, length-take-le, length-drop) in
    search (
      arith,
      get_or-append-add front (part ++ drop e gs) (k - s) d,
      get_or-append-add part (drop e gs) (k - e) d,
      get_or-drop e gs (k - e) d,
    )

-- the clusters of a stretch
cluster-at : (gs : Glyphs) (k : ℕ) (d : Glyph) → k < length gs → get_or (clusters gs) k 0 ≡ (get_or gs k d).cluster
cluster-at = search (arith, get_or-map)

length-part : (s e : ℕ) (gs : Glyphs) → length (clusters (stretch_of s e gs)) ≡ min (e - s) (length gs - s)
length-part = search (length-map, length-take, length-drop)

cluster-in : (s e k : ℕ) (gs : Glyphs) (d : Glyph) → k < length (clusters (stretch_of s e gs))
    → get_or (clusters (stretch_of s e gs)) k 0 ≡ (get_or gs (s + k) d).cluster
cluster-in s e k gs =
    let long = length-part s e gs in search (arith, get_or-map, length-map, get_or-take, get_or-drop)

-- where clusters rise the first glyph of a stretch has its least cluster, where they fall the last
least-first : (s e : ℕ) (gs : Glyphs) (d : Glyph) → AllPairs (λ a b. a < b) (clusters gs)
    → s < e → s < length gs → least (clusters (stretch_of s e gs)) ≡ (get_or gs s d).cluster
least-first s e gs d rises h within =
    let cs = clusters (stretch_of s e gs) in
    let long = length-part s e gs in
    let some : 0 < length cs = omega arith in
    let (k, inside, is) = least-among cs some in
    let at_k = cluster-in s e k gs d inside in
    let none : s + 0 ≡ s = omega arith in
    let at_s : get_or cs 0 0 ≡ (get_or gs s d).cluster = search (arith, cluster-in) in
    let low = least-le cs 0 some in
    search (arith, length-map, cluster-at)

least-last : (s e : ℕ) (gs : Glyphs) (d : Glyph) → AllPairs (λ a b. b < a) (clusters gs) → s < e
    → e ≤ length gs → least (clusters (stretch_of s e gs)) ≡ (get_or gs (e - 1) d).cluster
least-last s e gs d falls h within =
    let cs = clusters (stretch_of s e gs) in
    let long = length-part s e gs in
    let n = e - 1 - s in
    let last_in : n < length cs = omega arith in
    let (k, inside, is) = least-among cs (omega arith) in
    let at_k = cluster-in s e k gs d inside in
    let at_n : get_or cs n 0 ≡ (get_or gs (e - 1) d).cluster = cluster-in s e n gs d last_in
    ∙ ap (λ i. (get_or gs i d).cluster) (omega arith) in
    let low = least-le cs n last_in in
    elim (cases_lt k n) [
      | inl less ↦ absurd
          (omega (
            arith,
            falls (s + k) (e - 1) 0 (omega arith) (omega (arith, length-map gs (λ (g : Glyph). g.cluster))),
            cluster-at gs (e - 1) d (omega arith),
            cluster-at gs (s + k) d (omega arith),
          ))
      | inr last ↦ let z : k ≡ n = omega arith in sym (sym at_n ∙ ap (λ i. get_or cs i 0) (sym z) ∙ is)
    ]

-- of the two places that meet at p, the one with the greater cluster
data Tops (p k : ℕ) (cs : List ℕ) : Type 0 where
  rising : AllPairs (λ a b. a < b) cs → k ≡ p → Tops p k cs
  falling : AllPairs (λ a b. b < a) cs → suc k ≡ p → Tops p k cs

-- the flag of the glyph at that place through a call that forbids no break at p
off-least : (bits m : ℕ) (g : Glyph) → m ≡ g.cluster → with_bits_off bits m g ≡ g
off-least = search arith

not-both : (s e p : ℕ) → (ltb s p && ltb p e) ≡ false → s < p → p < e → ⊥
not-both = search arith

has-least : (s e p k : ℕ) (gs : Glyphs) (d : Glyph) → s ≤ k → k < e → 0 < p → p < length gs → Tops p k (clusters gs)
    → (ltb s p && ltb p e) ≡ false → least (clusters (stretch_of s e gs)) ≡ (get_or gs k d).cluster
has-least s e p k gs d from inner pos within (rising rises at) free = elim (cases_lt s p) [
  | inl more ↦ absurd (not-both s e p free more (omega arith))
  | inr here ↦ let is : s ≡ k = omega arith in least-first s e gs d rises (omega arith) (omega arith)
      ∙ ap (λ i. (get_or gs i d).cluster) is
]
has-least s e p k gs d from inner pos within (falling falls at) free = elim (cases_lt p e) [
  | inl more ↦ absurd (not-both s e p free (omega arith) more)
  | inr here ↦ let is : e - 1 ≡ k = omega arith in least-last s e gs d falls (omega arith) (omega arith)
      ∙ ap (λ i. (get_or gs i d).cluster) is
]

top-within : (p k : ℕ) (gs : Glyphs) → p < length gs → Tops p k (clusters gs) → k < length gs
top-within p k gs within (rising rises at) = omega arith
top-within p k gs within (falling falls at) = omega arith

break-spares : (bits s e p k : ℕ) (gs : Glyphs) (d : Glyph) → s ≤ e → Tops p k (clusters gs) → 0 < p → p < length gs
    → (ltb s p && ltb p e) ≡ false → get_or (with_stretch s e (flagged bits) gs) k d ≡ get_or gs k d
break-spares bits s e p k gs d order top pos within free =
    let m = least (clusters (stretch_of s e gs)) in
    elim (cases_lt k s) [
      | inl less ↦ search (arith, before-stretch)
      | inr from ↦ elim (cases_lt k e) [
        | inr past ↦ search (arith, behind-stretch)
        | inl inner ↦
            in-stretch (with_bits_off bits m) s e k gs d from inner (top-within p k gs within top)
            ∙ off-least bits m (get_or gs k d) (search has-least)
      ]
    ]

bit-two : (mask : ℕ) → unsafe_bits (bit_or mask 2) ≡ unsafe_bits mask
bit-two mask = search (arith, bit_at_or mask 2 0, bit_at_or mask 2 2)

concat-spares : (asked : Bool) (s e p : ℕ) (gs : Glyphs) (d : Glyph) → s ≤ e → p < length gs
    → unsafe_bits (get_or (unsafe_to_concat_in asked s e gs) p d).mask ≡ unsafe_bits (get_or gs p d).mask
concat-spares false s e p gs d order within = refl
concat-spares true s e p gs d order within = search (arith, before-stretch, behind-stretch, in-stretch, bit-two)

call-spares : (concat tatweel : Bool) (call : FlagCall) (p k : ℕ) (gs : Glyphs) (d : Glyph)
    → InOrder call → Tops p k (clusters gs) → 0 < p → p < length gs → forbids p call ≡ false
    → unsafe_bits (get_or (flag_called concat tatweel call gs) k d).mask ≡ unsafe_bits (get_or gs k d).mask
call-spares concat tatweel (UnsafeToBreak s e) p k gs d order top pos within free =
    cc (break-spares 3 s e p k gs d order top pos within free)
call-spares concat tatweel (UnsafeToConcat s e) p k gs d order top pos within free = search (arith, concat-spares)
call-spares concat tatweel (SafeToInsertTatweel s e) p k gs d order top pos within free =
    cc (break-spares (cond tatweel 4 3) s e p k gs d order top pos within free)

calls-spare : (concat tatweel : Bool) (calls : List FlagCall) (p k : ℕ) (gs : Glyphs) (d : Glyph)
    → AllByRecursion InOrder calls → Tops p k (clusters gs) → 0 < p → p < length gs → IsFree calls p
    → unsafe_bits (get_or (flags_called concat tatweel calls gs) k d).mask ≡ unsafe_bits (get_or gs k d).mask
calls-spare concat tatweel [] p k gs d all top pos within free = refl
calls-spare concat tatweel (call ∷ calls) p k gs d all top pos within free =
    let once = flag_called concat tatweel call gs in
    let same = (flag_called-alone concat tatweel call gs all.0).same_clusters in
    let long = length-same gs once same in
    let both = or_parts (forbids p call) (held_by_calls p calls) free in
    calls-spare concat tatweel calls p k once d all.1 (subst
    (λ cs. Tops p k cs) (sym same) top) pos (omega arith) both.1
    ∙ call-spares concat tatweel call p k gs d all.0 top pos within both.0

apart : (k p : ℕ) (cs : List ℕ) → IsStrictlyMonotone cs → k < length cs → p < length cs → k ≢ p
    → get_or cs k 0 ≡ get_or cs p 0 → ⊥
apart k p cs (inl rises) = search arith
apart k p cs (inr falls) = search arith

-- so a free place is clear: the place with the greater cluster has no flag, and no other has that cluster
clear-at : (concat tatweel : Bool) (calls : List FlagCall) (gs : Glyphs) (p k : ℕ)
    → AllByRecursion InOrder calls → IsStrictlyMonotone (clusters gs) → AllByRecursion (λ g. is_unsafe g ≡ false) gs
    → 0 < p → p < length gs → IsFree calls p → Tops p k (clusters gs)
    → max (get_or (clusters gs) (p - 1) 0) (get_or (clusters gs) p 0) ≡ get_or (clusters gs) k 0
    → IsClear (flags_called concat tatweel calls gs) p
clear-at concat tatweel calls gs p top all one_way unflagged pos within free tops greatest =
    let new = flags_called concat tatweel calls gs in
    let same = (flags_called-alone concat tatweel calls gs all).same_clusters in
    let long = length-same gs new same in
    let cs = clusters gs in
    let many : length cs ≡ length gs = search length-map in
    let top_in = top-within p top gs within tops in
    let test = λ (g : Glyph). eqb g.cluster (greater new p) && is_unsafe g in
    let Q : Glyph → Type 0 = λ g. test g ≡ false in
    let R : Glyph → Type 0 = λ g. is_unsafe g ≡ false in
    let each : (k : ℕ) → k < length new → Q (get_or new k default_glyph) = λ k inside.
    elim (cases_eq k top) [
      | inl e ↦ and_right _ _
          (unsafe-none (get_or new k default_glyph) (ap (λ i. unsafe_bits (get_or new i default_glyph).mask) e
          ∙ calls-spare concat tatweel calls p top gs default_glyph all tops pos within free
          ∙ none-unsafe (get_or gs top default_glyph)
          (All-get_or R gs top default_glyph top_in (All-from_recursion R gs unflagged))))
      | inr n ↦ and_left _ _ (ne_eqb (get_or new k default_glyph).cluster (greater new p)
          (λ e. apart k top cs one_way (omega arith) (omega arith) n (sym
          (sym (get_or-map (λ (g : Glyph). g.cluster) new k default_glyph 0 inside) ∙ ap (λ xs. get_or xs k 0) same)
          ∙ e ∙ cc)))
    ] in
    record {
      differ = subst (λ xs. get_or xs (p - 1) 0 ≢ get_or xs p 0) (sym same)
          (λ e. apart (p - 1) p cs one_way (omega arith) (omega arith) (λ f. absurd (omega arith)) e);
      unflagged =
          list_any_none test new (All-from_get_or Q new default_glyph each);
    }

pub needless : NeedlessLaw
needless concat tatweel calls gs p all (inl rises) unflagged pos within free =
    let many : length (clusters gs) ≡ length gs = length-map gs (λ (g : Glyph). g.cluster) in
    let less = rises (p - 1) p 0 (omega arith) (omega arith) in
    clear-at concat tatweel calls gs p p all (inl rises) unflagged pos within free (rising rises refl) (omega arith)
needless concat tatweel calls gs p all (inr falls) unflagged pos within free =
    let many : length (clusters gs) ≡ length gs = length-map gs (λ (g : Glyph). g.cluster) in
    let less = falls (p - 1) p 0 (omega arith) (omega arith) in
    clear-at concat tatweel calls gs p (p - 1) all (inr falls) unflagged pos within free (falling falls (omega arith))
    (omega arith)
