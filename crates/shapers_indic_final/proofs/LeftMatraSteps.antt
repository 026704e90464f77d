-- One left matra more goes to its place and merges: what becomes of the two runs.
use Rattle.std.proofs.Common.{◌≡◌, ℕ, ◌+◌, ◌-◌, ◌<◌, ◌≤◌, inl, inr, true, false, [], ◌∷◌, ◌++◌, min, map, length, take, drop, get_or, reverse, refl, sym, ap, ◌∙◌, append_assoc, arith, length-append, length-drop}
use Rattle.std.specs.List.{prefix_len}
use Rattle.std.proofs.lemmas.List.{drop-drop, length-map, map-append, reverse-reverse, take-append-drop}
use Rattle.std.proofs.lemmas.List.Folds.{list_all-append}
use Rattle.std.proofs.lemmas.Bool.{cases_Bool, cases_eq, false≢true, le-leb}
use Rattle.shapers_buffer.specs.Glyphs.{Glyph, Glyphs}
use Rattle.shapers_buffer.specs.declared.buffer.level.BufferClusterLevel.{BufferClusterLevel}
use Rattle.shapers_buffer.specs.Lists.{first_last}
use Rattle.shapers_buffer.specs.Glyph.{default_glyph}
use Rattle.shapers_buffer.specs.Clusters.{flooded, has_cluster, in_cluster, merge, merged, merges, stretch_of, with_stretch}
use Rattle.shapers_buffer.specs.ClusterRanges.{none_below}
use Rattle.shapers_buffer.proofs.ClusterLemmas.{flooded-parts, length-stretch}
use Rattle.shapers_buffer.proofs.OneCluster.{all_in_cluster, stretch_in_two}
use Rattle.shapers_indic.specs.Glyphs.{passes}
use Rattle.shapers_indic_final.specs.declared.ot_shaper_indic_final.left_matras.MergedRanges.{MergedRanges}
use Rattle.shapers_indic_final.specs.FinalMatras.{is_left}
use Rattle.shapers_indic_final.specs.LeftMatraWalk.{Merged, Reaches, as_partitioned, gone, has_gone, has_stayed, merge_stretch, staying}
use Rattle.shapers_indic_final.specs.Proved.LeftMatraMoves.{stretch_between}
use Rattle.shapers_buffer.proofs.RunLemmas.{ended_all, first_run_passes, none_lower, none_of_cluster, puts_twice}
use Rattle.shapers_indic_final.proofs.LeftMatraFloods.{back_none, flooded_all, merged_before}
use Rattle.shapers_indic_final.proofs.LeftMatraPlaces.{chosen-one, chosen-split}
use Rattle.shapers_indic_final.proofs.LeftMatraSplit.{both_long, gone_more, length-merge_stretch, put_off, put_on, split}

-- where the runs lie, and that none of their glyphs has a cluster below theirs
pub record Lies (p b : ℕ) (runs : MergedRanges) (gs : Glyphs) : Type 0 where
  pub start : runs.start < p
  pub from : b ≤ runs.end
  pub end : runs.end ≤ length gs

pub record Fits (i top p : ℕ) (runs : MergedRanges) (gs : Glyphs) : Type 0 where
  pub before : none_below runs.before (staying i top gs runs.start p) ≡ true
  pub least : none_below runs.cluster (gone i top gs 0 p ++ stretch_of p runs.end gs) ≡ true

none-append : (m : ℕ) (xs ys : Glyphs) → none_below m xs ≡ true → none_below m ys ≡ true
    → none_below m (xs ++ ys) ≡ true
none-append = search (arith, list_all-append)

none-parts : (m : ℕ) (xs ys : Glyphs) → none_below m (xs ++ ys) ≡ true → (none_below m xs ≡ true)
    × (none_below m ys ≡ true)
none-parts m xs ys none = search (arith, list_all-append)

-- what stays before a run ends with the glyph before the place
stays_some : (i top p q : ℕ) (gs : Glyphs) → top < p → q < p → p ≤ length gs → 0 < length (staying i top gs q p)
stays_some i top p q gs h l w =
    let k = p - 1 in
    let t = has_stayed i top gs in
    search (arith, chosen-split t gs q k (k + 1) (omega arith) (omega arith), chosen-one t gs k (omega arith), length-append (staying i top gs q k) ((get_or gs k default_glyph) ∷ []))

-- how many glyphs stand before the matras
pub length-front : (level : BufferClusterLevel) (i top p q c : ℕ) (gs : Glyphs) → q ≤ p → p ≤ length gs
    → length (staying i top gs 0 q ++ merge_stretch level c (staying i top gs q p)) + length (gone i top gs 0 p) ≡ p
length-front level i top p q c gs h w = search (
  arith,
  length-append (staying i top gs 0 q) (merge_stretch level c (staying i top gs q p)),
  length-merge_stretch level c (staying i top gs q p),
  chosen-split (has_stayed i top gs) gs 0 q p (omega arith) h,
  length-append (staying i top gs 0 q) (staying i top gs q p),
  both_long (has_gone i top gs) gs p w,
)

pub length-partitioned : (level : BufferClusterLevel) (i top p b : ℕ) (runs : MergedRanges) (gs : Glyphs) → p ≤ b
    → Lies p b runs gs → length (as_partitioned level i top p runs gs) ≡ length gs
length-partitioned = search (arith, length-front, length-append, length-merge_stretch, length-stretch, length-drop)

-- the matra goes behind what stood between
rotated : (k at : ℕ) (front back c : Glyphs) (y : Glyph) → length front ≡ k → at ≡ k + length back
    → with_stretch k (at + 1) first_last ((front ++ (y ∷ back)) ++ c) ≡ (front ++ back) ++ (y ∷ c)
rotated k at front back c y long to = cc (
  append_assoc front (y ∷ back) c,
  stretch_between first_last k (at + 1) front (y ∷ back) c long (omega arith),
  append_assoc back (y ∷ []) c,
  append_assoc front back (y ∷ c),
)

merge_on : (level : BufferClusterLevel) (at b : ℕ) (gs : Glyphs) → merges level ≡ true → at + 1 < b
    → merge level at b gs ≡ merged at b gs
merge_on = search arith

-- at a level that doesn't merge, the runs mean nothing
pub parted_off : (level : BufferClusterLevel) (i top p b : ℕ) (runs : MergedRanges) (gs : Glyphs) → p ≤ b
    → Lies p b runs gs → merges level ≡ false → as_partitioned level i top p runs gs ≡ staying i top gs 0 p
    ++ (gone i top gs 0 p ++ drop p gs)
parted_off level i top p b runs gs h lies off = search (arith, chosen-split (has_stayed i top gs) gs 0 runs.start p (omega arith) (omega arith), append_assoc (gone i top gs 0 p) (stretch_of p runs.end gs) (drop runs.end gs), drop-drop (runs.end - p) p gs, take-append-drop (runs.end - p) (drop p gs))

-- What the merge makes of what stands before the matra.
pub record Fronted (level : BufferClusterLevel) (k top p m : ℕ) (y : Glyph) (front : Glyphs)
    (new : MergedRanges) (gs : Glyphs) : Type 0 where
  pub is : reverse (flooded y.cluster m (reverse front)) ≡ staying k top gs 0 new.start
      ++ merge_stretch level new.before (staying k top gs new.start p)
  pub none : none_below new.before (staying k top gs new.start p) ≡ true

fronted_floods : (level : BufferClusterLevel) (k top p m : ℕ) (y : Glyph) (old new : MergedRanges)
    (gs : Glyphs) → merges level ≡ true → old.start ≤ p → y.cluster ≡ old.before → m ≤ old.before
    → Reaches k top old.before old.start new.start gs → new.before ≡ m
    → none_below old.before (staying k top gs old.start p) ≡ true
    → Fronted level k top p m y (staying k top gs 0 old.start ++ merge_stretch level old.before (staying k top gs old.start p))
    new gs
fronted_floods level k top p m y old new gs on within own low r to kept =
    let c = old.before in
    let U = staying k top gs 0 new.start in
    let W = staying k top gs new.start old.start in
    let R = staying k top gs old.start p in
    let lower = r.within in
    let t = has_stayed k top gs in
    search (arith, ended_all c m (staying k top gs 0 old.start) (map (in_cluster c) R) (all_in_cluster c R), chosen-split t gs 0 new.start old.start (omega arith) lower, ended_all c m U W r.equal, reverse-reverse U, puts_twice m c R low kept, append_assoc U (map (in_cluster m) W) (map (in_cluster m) R), map-append (in_cluster m) W R, chosen-split t gs new.start old.start p lower within, none-append m W R (none_of_cluster m c W low r.equal) (none_lower m c R low kept))

-- what it makes of the matra and what follows it
behind_is : (level : BufferClusterLevel) (p b e n m l : ℕ) (y g : Glyph) (go gs : Glyphs)
    → p ≤ b → b ≤ e → l ≤ m → in_cluster l y ≡ in_cluster l g → none_below m (go ++ stretch_of p e gs) ≡ true
    → n ≡ prefix_len (has_cluster m) (drop e gs) → map (in_cluster l) (y ∷ map (in_cluster m) (go ++ stretch_of p b gs))
    ++ flooded m l (map (in_cluster m) (stretch_of b e gs) ++ drop e gs)
    ≡ map (in_cluster l) ((g ∷ go) ++ stretch_of p (e + n) gs) ++ drop (e + n) gs
behind_is level p b e n m l y g go gs h to low same none is =
    let A = go ++ stretch_of p b gs in
    let B = stretch_of b e gs in
    let f = map (in_cluster l) in
    let D = take n (drop e gs) in
    let E = drop n (drop e gs) in
    let ab : go ++ stretch_of p e gs ≡ A ++ B =
    ap (λ xs. go ++ xs) (stretch_in_two p b e gs h to) ∙ sym (append_assoc go (stretch_of p b gs) B) in
    let parts = none-parts m A B (sym (ap (none_below m) ab) ∙ none) in
    search (arith, flooded_all m l (map (in_cluster m) B) (drop e gs) (all_in_cluster m B), flooded-parts m l (drop e gs), puts_twice l m A low parts.0, puts_twice l m B low parts.1, append_assoc (f B) (f D) E, append_assoc (in_cluster l g ∷ f A) (f B ++ f D) E, map-append (in_cluster l) B D, map-append (in_cluster l) A (B ++ D), stretch_in_two p e (e + n) gs (omega arith) (omega arith), append_assoc go (stretch_of p e gs) D, append_assoc A B D, drop-drop n e gs)

-- One more: the matra at place k goes to `at`, and merges up to b.
pub one_more : (level : BufferClusterLevel) (k top p b at : ℕ) (old new : MergedRanges) (gs : Glyphs) → k < top
    → top < p → p < b → Lies p b old gs → passes is_left gs k ≡ true → Merged k top old new gs
    → at + 1 + length (gone (k + 1) top gs 0 p) ≡ p → (merges level ≡ true → Fits (k + 1) top p old gs)
    → Lies p b new gs → (merge level at b (with_stretch k (at + 1) first_last (as_partitioned level (k + 1) top p old gs))
    ≡ as_partitioned level k top p new gs) × (merges level ≡ true → Fits k top p new gs)
one_more level k top p b at old new gs h behind before lies left r count fits lies_new =
    let q = old.start in
    let c = old.before in
    let m = old.cluster in
    let e = old.end in
    let g = get_or gs k default_glyph in
    let G = gone (k + 1) top gs 0 p in
    let Z = gone (k + 1) top gs 0 p ++ stretch_of p old.end gs in
    let f0 = lies.from in
    let sp = split level k top p q c gs h (omega arith) (omega arith) (omega arith) left (λ on. (fits on).before) in
    let more = gone_more k top p gs h (omega arith) (omega arith) left in
    let to : at ≡ k + length sp.back = omega (
      arith,
      sp.long,
      ap length sp.before ∙ length-append sp.front (sp.y ∷ sp.back),
      length-front level (k + 1) top p q c gs (omega arith) (omega arith),
      count,
    ) in
    let C = merge_stretch level m Z ++ drop e gs in
    let moved = ap (λ xs. with_stretch k (at + 1) first_last (xs ++ C)) sp.before
    ∙ rotated k at sp.front sp.back C sp.y sp.long to in
    elim (cases_Bool (merges level)) [
      | inr off ↦
          let same : with_stretch k (at + 1) first_last (as_partitioned level (k + 1) top p old gs)
          ≡ as_partitioned level k top p old gs = moved ∙ ap (λ xs. xs ++ (sp.y ∷ C)) (sym sp.after)
          ∙ ap (λ xs. (staying k top gs 0 q ++ merge_stretch level c (staying k top gs q p)) ++ xs)
          (ap (λ x. x ∷ C) (sp.plain off) ∙ ap (λ xs. g ∷ (xs ++ drop e gs)) (put_off level m Z off)
          ∙ sym (ap (λ xs. xs ++ drop e gs) (put_off level m (gone k top gs 0 p ++ stretch_of p e gs) off
          ∙ ap (λ xs. xs ++ stretch_of p e gs) more))) in (
            (rw off refl) ∙ same ∙ parted_off level k top p b old gs (omega arith) lies off
                ∙ sym (parted_off level k top p b new gs (omega arith) lies_new off),
            λ on. absurd (false≢true (sym off ∙ on)),
          )
      | inl on ↦
          let ft = fits on in
          let l = min sp.y.cluster m in
          let own = sp.own on in
          let new_is = r.cluster ∙ ap (λ n. min n m) (sym own) in
          let A = G ++ stretch_of p b gs in
          let B = stretch_of b e gs in
          let zs = map (in_cluster m) (G ++ stretch_of p b gs) in
          let behind_zs = map (in_cluster m) B ++ drop e gs in
          let c_is : merge_stretch level m Z ++ drop e gs ≡ zs ++ behind_zs = ap (λ xs. xs ++ drop e gs) (put_on level m Z on
          ∙ ap (λ xs. map (in_cluster m) (G ++ xs)) (stretch_in_two p b e gs (omega arith) f0)
          ∙ ap (map (in_cluster m)) (sym (append_assoc G (stretch_of p b gs) B)) ∙ map-append (in_cluster m) A B)
          ∙ append_assoc zs (map (in_cluster m) B) (drop e gs) in
          let zs_long : length zs ≡ length G + (b - p) = length-map A (in_cluster m)
          ∙ length-append G (stretch_of p b gs) ∙ ap (λ n. length G + n) (length-stretch p b gs (omega arith)) in
          let merged_it = merged_before at b m (sp.front ++ sp.back) sp.y zs behind_zs
          (length-append sp.front sp.back ∙ omega (arith, sp.long, to))
          (omega (arith, count)) (omega arith) (all_in_cluster m A) in
          let fr : Fronted level k top p (min sp.y.cluster m) sp.y
          (staying k top gs 0 old.start ++ merge_stretch level old.before (staying k top gs old.start p)) new gs =
          elim (cases_eq sp.y.cluster c) [
            | inl same ↦
                let fl2 = r.floods (sym own ∙ same) in
                fronted_floods level k top p (min sp.y.cluster m) sp.y old new gs on (omega arith) same (omega arith)
                fl2.0 (fl2.1 ∙ new_is) (sp.kept on)
            | inr other ↦
                let st = r.spares (λ e2. other (own ∙ e2)) in
                let c = old.before in
                let q = old.start in
                let R = staying k top gs old.start p in
                search (
                  arith,
                  put_on level c R on,
                  back_none sp.y.cluster c (min sp.y.cluster m) (staying k top gs 0 q) (map (in_cluster c) R) other
                      (omega (
                        arith,
                        length-map R (in_cluster c),
                        stays_some k top p q gs behind lies.start (omega arith),
                      )) (all_in_cluster c R),
                  reverse-reverse (staying k top gs 0 q ++ map (in_cluster c) R),
                )
          ] in
          let n = prefix_len (has_cluster m) (drop e gs) in
          let bh = behind_is level p b e n m l sp.y g G gs (omega arith) f0 (omega arith) (sp.same on l (omega arith))
          ft.least refl in
          let whole : map (in_cluster l) ((g ∷ G) ++ stretch_of p (e + n) gs) ++ drop (e + n) gs
          ≡ merge_stretch level new.cluster (gone k top gs 0 p ++ stretch_of p new.end gs) ++ drop new.end gs =
          ap (λ k2. map (in_cluster l) ((g ∷ G) ++ stretch_of p k2 gs) ++ drop k2 gs) (sym r.end)
          ∙ ap (λ xs. map (in_cluster l) (xs ++ stretch_of p new.end gs) ++ drop new.end gs) (sym more)
          ∙ ap (λ xs. xs ++ drop new.end gs)
          (ap (λ k2. map (in_cluster k2) (gone k top gs 0 p ++ stretch_of p new.end gs)) (sym new_is)
          ∙ sym (put_on level new.cluster (gone k top gs 0 p ++ stretch_of p new.end gs) on)) in (
            ap (merge level at b) (moved ∙ ap (λ xs. (sp.front ++ sp.back) ++ (sp.y ∷ xs)) c_is)
                ∙ merge_on level at b ((sp.front ++ sp.back) ++ (sp.y ∷ (zs ++ behind_zs))) on (omega arith) ∙ merged_it
                ∙ ap (λ xs. (reverse (flooded sp.y.cluster l (reverse (sp.front ++ sp.back)))) ++ xs) (bh ∙ whole)
                ∙ ap
                (λ xs. reverse (flooded sp.y.cluster l (reverse xs)) ++ (merge_stretch level new.cluster (gone k top gs 0 p ++
                stretch_of p new.end gs) ++ drop new.end gs)) (sym sp.after) ∙ ap
                (λ xs. xs ++ (merge_stretch level new.cluster (gone k top gs 0 p ++ stretch_of p new.end gs) ++ drop new.end gs))
                fr.is,
            λ on2. record {
              before = fr.none;
              least =
                  let low : l ≤ m = omega arith in
                  let long : stretch_of p (e + n) gs ≡ stretch_of p e gs ++ take n (drop e gs) =
                  stretch_in_two p e (e + n) gs (omega arith) (omega arith)
                  ∙ ap (λ k2. stretch_of p e gs ++ take k2 (drop e gs)) (omega arith) in
                  ap (λ k2. none_below k2 (gone k top gs 0 p ++ stretch_of p new.end gs)) new_is
                  ∙ ap (λ xs. none_below l (xs ++ stretch_of p new.end gs)) more
                  ∙ ap (λ k2. none_below l (g ∷ (G ++ stretch_of p k2 gs))) r.end ∙ ap (λ xs. none_below l (g ∷ xs))
                  (ap (λ xs. G ++ xs) long ∙ sym (append_assoc G (stretch_of p e gs) (take n (drop e gs))))
                  ∙ rw (
                    le-leb (min sp.y.cluster m) g.cluster (omega arith),
                    none-append (min sp.y.cluster
                        m) Z (take n (drop e gs)) (none_lower l m Z low ft.least) (none_of_cluster l m (take n (drop e gs))
                        low (first_run_passes (has_cluster m) (drop e gs))),
                  ) refl;
            },
          )
    ]

pub lies_on : (k top p b : ℕ) (old new : MergedRanges) (gs : Glyphs) → Merged k top old new gs
    → new.end ≤ length gs → Lies p b old gs → Lies p b new gs
lies_on = search arith
