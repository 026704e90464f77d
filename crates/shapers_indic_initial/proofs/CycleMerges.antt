-- What a spent cycle leaves to be merged.
use Rattle.std.proofs.Common.{◌≡◌, ◌≢◌, ◌⊎◌, inl, inr, ℕ, zero, suc, ◌+◌, ◌-◌, ◌<◌, ◌≤◌, ◌||◌, max, min, nat_lt, nat_le, Bool, true, false, List, [], ◌∷◌, length, map, get_or, refl, sym, ap, ◌∙◌, subst, arith, length-set, get_or-set_same, get_or-set_other}
use Rattle.std.specs.List.{filter, fold, list_all, range_with_len}
use Rattle.std.proofs.lemmas.Bool.{cases_Bool}
use Rattle.shapers_buffer.specs.Glyphs.{Glyphs}
use Rattle.shapers_buffer.specs.declared.buffer.level.BufferClusterLevel.{BufferClusterLevel}
use Rattle.shapers_buffer.specs.Clusters.{merge, merge_all}
use Rattle.shapers_clusters.specs.Steps.{shifted}
use Rattle.shapers_indic_initial.specs.CycleWalk.{EachOnce, with_spent}
use Rattle.shapers_indic_initial.specs.InitialOrder.{cycle, cycle_stretch, leads_cycle}
use Rattle.shapers_indic_initial.proofs.Cycles.{In, cycle_back, cycle_closed_back, cycle_within, in_or_not, way_agrees, way_at, all_true, fold_min-le, fold_max-le}

-- a list with some places spent: they stay, the others are as they were
pub length-with_spent : (f xs : List ℕ) → length (with_spent f xs) ≡ length f
length-with_spent f [] = refl
length-with_spent f (x ∷ xs) = length-with_spent _ xs ∙ length-set f x x

pub unspent_at : (f xs : List ℕ) (x : ℕ) → (In x xs → ⊥) → get_or (with_spent f xs) x 0 ≡ get_or f x 0
unspent_at f [] x out = refl
unspent_at f (y ∷ ys) x out = unspent_at _ ys x (λ i. out (inr i)) ∙ get_or-set_other f y x y 0 (λ e. out (inl e))

pub spent_at : (f xs : List ℕ) (x : ℕ) → x < length f → In x xs → get_or (with_spent f xs) x 0 ≡ x
spent_at f [] x h i = absurd i
spent_at f (y ∷ ys) x h i = elim (in_or_not x ys) [
  | inl j ↦ spent_at _ ys x (omega (arith, length-set f y y)) j
  | inr out ↦ search (arith, unspent_at, get_or-set_same)
]

-- the list with a cycle spent has each of its places once
pub once-spent : (f : List ℕ) (p : ℕ) → p < length f → EachOnce f → EachOnce (with_spent f (cycle f p))
once-spent f p h o =
    let c = cycle f p in
    let n = length-with_spent f c in
    record {
      within = λ i l. (elim (in_or_not i c) [
        | inl j ↦ omega (arith, spent_at f c i (omega arith) j)
        | inr out ↦ omega (arith, unspent_at f c i out)
      ]);
      once = λ i j l m e. (
          let k : i < length f = omega arith in
          let r : j < length f = omega arith in
          elim (in_or_not i c) [
            | inl a ↦ elim (in_or_not j c) [
              | inl b ↦ sym (spent_at f c i k a) ∙ e ∙ spent_at f c j r b
              | inr b ↦
                  absurd (b (cycle_closed_back f p j h r o (subst (λ z. In z c)
                  (sym (spent_at f c i k a) ∙ e ∙ unspent_at f c j b) a)))
            ]
            | inr a ↦ elim (in_or_not j c) [
              | inl b ↦
                  absurd (a (cycle_closed_back f p i h k o (subst (λ z. In z c)
                  (sym (spent_at f c j r b) ∙ sym e ∙ unspent_at f c i a) b)))
              | inr b ↦ o.once i j k r (sym (unspent_at f c i a) ∙ e ∙ unspent_at f c j b)
            ]
          ]);
    }

-- another cycle is as it was, and a spent place is a cycle by itself
record Outside (f : List ℕ) (p y : ℕ) : Type 0 where
  pub inside : y < length f
  pub out : In y (cycle f p) → ⊥

pub other_cycle : (f : List ℕ) (p r : ℕ) → p < length f → r < length f → EachOnce f → (In r (cycle f p) → ⊥)
    → cycle (with_spent f (cycle f p)) r ≡ cycle f r
other_cycle f p r h l o out =
    let c = cycle f p in
    let step : (y : ℕ) → y < length f → (In y c → ⊥) → Outside f p _ = λ y k off. record {
      inside = o.within y k;
      out = λ i. off (cycle_closed_back f p y h k o i);
    } in
    cc (
      length-with_spent f c,
      unspent_at f c r out,
      way_agrees (Outside f p) f (with_spent f c) r _ _
          (λ y a t. (sym (unspent_at f c y a.out), step y a.inside a.out)) (step r l out),
    )

pub own_cycle : (g : List ℕ) (r : ℕ) → get_or g r 0 ≡ r → cycle g r ≡ r ∷ []
own_cycle g r e = cc (way_at g r _ _ e)

-- which place leads a cycle
all_false : (test : ℕ → Bool) (x : ℕ) (xs : List ℕ) → In x xs → test x ≡ false → list_all test xs ≡ false
all_false test x [] i e = absurd i
all_false test x (y ∷ ys) i e = elim i [
  | inl s ↦ cc
  | inr j ↦ search (arith, all_false test x ys j e)
]

pub follows : (f : List ℕ) (base p r : ℕ) → base ≤ p → p < r → In p (cycle f r) → leads_cycle f base r ≡ false
follows = search (arith, all_false)

pub leads : (f : List ℕ) (base p : ℕ) → p < length f → EachOnce f → ((x : ℕ) → base ≤ x → x < p → get_or f x 0 ≡ x)
    → leads_cycle f base p ≡ true
leads f base p h o own = all_true _ (cycle f p) (λ x i. elim (cases_Bool (nat_lt x base || nat_le p x)) [
  | inl t ↦ t
  | inr n ↦
      let back = subst (In p) (own_cycle f x (own x (grind arith) (grind arith))) (cycle_back f p x h o i) in
      search arith
])

-- what is still to be merged, of n places from a on
abbrev pub merges_left_from : List ℕ → ℕ → ℕ → ℕ → List (ℕ × ℕ)
merges_left_from f base a n = map (cycle_stretch f base) (filter (leads_cycle f base) (range_with_len a n))

-- one place alone merges with nothing
merge_one : (level : BufferClusterLevel) (s e : ℕ) (gs : Glyphs) → e ≡ suc s → merge level s e gs ≡ gs
merge_one = search arith

-- a place whose cycle two lists have alike, and one that leads none in the first list and is alone in the second
pub record Same (f g : List ℕ) (base r : ℕ) : Type 0 where
  pub led : leads_cycle f base r ≡ leads_cycle g base r
  pub stretch : cycle_stretch f base r ≡ cycle_stretch g base r

pub record Gone (f g : List ℕ) (base r : ℕ) : Type 0 where
  pub led : leads_cycle f base r ≡ false
  pub alone : cycle g r ≡ r ∷ []
  pub behind : base ≤ r

left_yes : (level : BufferClusterLevel) (s : ℕ) (f : List ℕ) (base a n : ℕ) (gs : Glyphs)
    → leads_cycle f base a ≡ true → merge_all level (shifted s (merges_left_from f base a (suc n))) gs
    ≡ merge_all level (shifted s (merges_left_from f base (a + 1) n))
    (merge level (s + (cycle_stretch f base a).0) (s + (cycle_stretch f base a).1) gs)
left_yes level s f base a n gs e = cc

left_no : (level : BufferClusterLevel) (s : ℕ) (f : List ℕ) (base a n : ℕ) (gs : Glyphs)
    → leads_cycle f base a ≡ false → merge_all level (shifted s (merges_left_from f base a (suc n))) gs
    ≡ merge_all level (shifted s (merges_left_from f base (a + 1) n)) gs
left_no level s f base a n gs e = cc

left_alone : (level : BufferClusterLevel) (s : ℕ) (f : List ℕ) (base a n : ℕ) (gs : Glyphs) → base ≤ a
    → cycle f a ≡ a ∷ [] → merge_all level (shifted s (merges_left_from f base a (suc n))) gs
    ≡ merge_all level (shifted s (merges_left_from f base (a + 1) n)) gs
left_alone = search arith

left_alike : (level : BufferClusterLevel) (s : ℕ) (f g : List ℕ) (base a n : ℕ) (gs : Glyphs)
    → ((r : ℕ) → a ≤ r → r < a + n → Same f g base r ⊎ Gone f g base r)
    → merge_all level (shifted s (merges_left_from f base a n)) gs
    ≡ merge_all level (shifted s (merges_left_from g base a n)) gs
left_alike level s f g base a zero gs each = refl
left_alike level s f g base a (suc n) gs each =
    let later = λ (r : ℕ) (h : a + 1 ≤ r) (l : r < a + 1 + n). each r (omega arith) (omega arith) in
    elim (each a (omega arith) (omega arith)) [
      | inl same ↦ elim (cases_Bool _) [
        | inl t ↦
            left_yes level s f base a n gs t
            ∙ ap (λ st. merge_all level (shifted s (merges_left_from f base (a + 1) n))
            (merge level (s + st.0) (s + st.1) gs)) same.stretch
            ∙ left_alike level s f g base (a + 1) n _ later ∙ sym (left_yes level s g base a n gs (sym same.led ∙ t))
        | inr t ↦ left_no level s f base a n gs t ∙ left_alike level s f g base (a + 1) n gs later
            ∙ sym (left_no level s g base a n gs (sym same.led ∙ t))
      ]
      | inr gone ↦ left_no level s f base a n gs gone.led ∙ left_alike level s f g base (a + 1) n gs later
          ∙ sym (left_alone level s g base a n gs gone.behind gone.alone)
    ]

-- a place that stays
pub left_staying : (level : BufferClusterLevel) (s : ℕ) (f : List ℕ) (base p n : ℕ) (gs : Glyphs)
    → base ≤ p → p < n → get_or f p 0 ≡ p → merge_all level (shifted s (merges_left_from f base p (n - p))) gs
    ≡ merge_all level (shifted s (merges_left_from f base (p + 1) (n - (p + 1)))) gs
left_staying = search (arith, own_cycle)

-- a place whose cycle merges and is spent
alike_behind : (f : List ℕ) (base p r : ℕ) → base ≤ p → p < r → r < length f → EachOnce f
    → Same f (with_spent f (cycle f p)) base r ⊎ Gone f (with_spent f (cycle f p)) base r
alike_behind f base p r h k l o =
    let c = cycle f p in
    let p_inside : p < length f = omega arith in
    elim (in_or_not r c) [
      | inl i ↦ inr
          (record {
            led = follows f base p r h k (cycle_back f p r p_inside o i);
            alone = own_cycle _ r (spent_at f c r l i);
            behind = omega arith;
          })
      | inr out ↦
          let same = sym (other_cycle f p r p_inside l o out) in
          inl (record {
            led = ap (list_all (λ q. nat_lt q base || nat_le r q)) same;
            stretch = ap (λ ys. (max base (fold min r ys), suc (fold max r ys))) same;
          })
    ]

pub left_spent : (level : BufferClusterLevel) (s : ℕ) (f : List ℕ) (base p : ℕ) (gs : Glyphs) → base ≤ p
    → p < length f → EachOnce f → ((x : ℕ) → base ≤ x → x < p → get_or f x 0 ≡ x)
    → merge_all level (shifted s (merges_left_from f base p (length f - p))) gs
    ≡ merge_all level (shifted s (merges_left_from (with_spent f (cycle f p)) base (p + 1) (length f - (p + 1))))
    (merge level (s + (cycle_stretch f base p).0) (s + (cycle_stretch f base p).1) gs)
left_spent level s f base p gs h l o own = search (
  arith,
  left_yes level s f base p (length f - (p + 1)) gs (leads f base p l o own),
  left_alike level s f (with_spent f (cycle f p)) base (p + 1) (length f - (p + 1))
      (merge level (s + (cycle_stretch f base p).0) (s + (cycle_stretch f base p).1) gs)
      (λ r a b. alike_behind f base p r h (omega arith) (omega arith) o),
)

-- the bounds of what a cycle merges

pub fold_max-lt : (n x : ℕ) (xs : List ℕ) → x < n → ((y : ℕ) → In y xs → y < n) → fold max x xs < n
fold_max-lt n x [] h each = h
fold_max-lt n x (y ∷ ys) h each = fold_max-lt n (max x y) ys (omega (arith, each y (inl refl))) (λ z i. each z (inr i))

pub record StretchBounds (f : List ℕ) (base p : ℕ) : Type 0 where
  pub least : fold min p (cycle f p) ≤ p
  pub greatest : p ≤ fold max p (cycle f p)
  pub inside : fold max p (cycle f p) < length f

pub stretch_bounds : (f : List ℕ) (base p : ℕ) → p < length f → EachOnce f → StretchBounds f base p
stretch_bounds = search (fold_min-le, fold_max-le, fold_max-lt, cycle_within)

-- what is spent stays spent
pub own_next : (f : List ℕ) (base p : ℕ) → p < length f → EachOnce f → ((x : ℕ) → base ≤ x → x < p → get_or f x 0 ≡ x)
    → (x : ℕ) → base ≤ x → x < p + 1 → get_or (with_spent f (cycle f p)) x 0 ≡ x
own_next f base p h o own x low high = elim (in_or_not x (cycle f p)) [
  | inl i ↦ spent_at f (cycle f p) x (omega arith) i
  | inr out ↦
      let n : x ≢ p = λ e. out (inl e) in
      search (arith, unspent_at)
]
