-- The clear places of a text in which glyphs stand for each glyph of another one.
use Rattle.std.proofs.Common.{ℕ, ◌-◌, ◌<◌, ◌≡◌, ◌≢◌, ◌==◌, ◌&&◌, ◌||◌, ◌⊎◌, inl, inr, max, Bool, true, false, [], ◌∷◌, ◌++◌, length, slice_index, refl, sym, ap, subst, ◌∙◌, arith, append_assoc, length-append}
use Rattle.std.specs.List.{AllByRecursion, list_any}
use Rattle.std.proofs.lemmas.Bool.{false≢true}
use Rattle.shapers_buffer.specs.Clusters.{first_cluster}
use Rattle.shapers_buffer.specs.Glyph.{clusters}
use Rattle.shapers_buffer.specs.Glyphs.{Glyph, Glyphs}
use Rattle.shapers_clusters.specs.Breaks.{IsClear, greater, is_unsafe}
use Rattle.shapers_clusters.specs.Flags.{bit_at}
use Rattle.shapers_break_laws.specs.Pieces.{CutWhereClear}
use Rattle.opentype_break_laws.specs.Sequences.{FirstStays, GoesBehind, StayOrGo}
use Rattle.opentype_break_laws.proofs.LigatureModel.{all_back, split}
use Rattle.opentype_break_laws.proofs.LigatureBorders.{cluster_behind, cluster_in_front, last_cluster_of}
use Rattle.opentype_break_laws.proofs.SequenceViews.{IsSpread, StandsFor, spread_out}

-- ---- THE CLUSTERS that meet at a place

abbrev pub ending : Glyphs → ℕ
ending [] = 0
ending (g ∷ gs) = last_cluster_of g gs

ends_behind : (xs : Glyphs) (z : Glyph) (zs : Glyphs) → ending (xs ++ (z ∷ zs)) ≡ ending (z ∷ zs)
ends_behind [] z zs = refl
ends_behind (x ∷ []) z zs = refl
ends_behind (x ∷ y ∷ xs) z zs = ends_behind (y ∷ xs) z zs

pub ends_with : (xs ys : Glyphs) → 0 < length ys → ending (xs ++ ys) ≡ ending ys
ends_with xs [] some = absurd (omega (arith, some))
ends_with xs (y ∷ ys) some = ends_behind xs y ys

pub ended_before : (front back : Glyphs) → 0 < length front → slice_index (clusters (front ++ back)) (length front - 1) ≡ ending front
ended_before [] back some = absurd (omega (arith, some))
ended_before (g ∷ gs) back some =
    let n : length (g ∷ gs) - 1 ≡ length gs = omega arith in
    ap (slice_index (clusters (g ∷ (gs ++ back)))) n ∙ cluster_in_front g gs back

behind_place : (front back : Glyphs) → 0 < length back → slice_index (clusters (front ++ back)) (length front) ≡ first_cluster back
behind_place front [] some = absurd (omega (arith, some))
behind_place front (h ∷ hs) some = cluster_behind front h hs

-- ---- GLYPHS THAT STAND FOR ONE are of its cluster

pub ends_in : (g : Glyph) (xs : Glyphs) → 0 < length xs → AllByRecursion (StandsFor g) xs → ending xs ≡ g.cluster
ends_in g [] some all = absurd (omega (arith, some))
ends_in g (x ∷ []) some all = all.0.cluster
ends_in g (x ∷ y ∷ xs) some all = ends_in g (y ∷ xs) (omega arith) all.1

begins_in_one : (g : Glyph) (xs ys : Glyphs) → 0 < length xs → AllByRecursion (StandsFor g) xs → first_cluster (xs ++ ys) ≡ g.cluster
begins_in_one g [] ys some all = absurd (omega (arith, some))
begins_in_one g (x ∷ xs) ys some all = all.0.cluster

-- the last cluster of a text, or that of a glyph before it
abbrev ending_behind : ℕ → Glyphs → ℕ
ending_behind c [] = c
ending_behind c (g ∷ gs) = last_cluster_of g gs

all_nil : (P : Glyph → Type 0) (xs : Glyphs) → AllByRecursion P xs → AllByRecursion P (xs ++ [])
all_nil P [] all = tt
all_nil P (x ∷ xs) all = (all.0, all_nil P xs all.1)

ends_of : (c : ℕ) (g : Glyph) (xs ys : Glyphs) → AllByRecursion (StandsFor g) xs → ((0 < length xs) ⊎ (g.cluster ≡ c))
    → ending_behind c (xs ++ ys) ≡ ending_behind g.cluster ys
ends_of c g [] [] all (inl stays) = absurd (omega (arith, stays))
ends_of c g [] [] all (inr goes) = sym goes
ends_of c g [] (y ∷ ys) all stays = refl
ends_of c g (x ∷ xs) [] all stays = ends_in g ((x ∷ xs) ++ []) (omega arith) (all_nil (StandsFor g) (x ∷ xs) all)
ends_of c g (x ∷ xs) (y ∷ ys) all stays = ends_behind (x ∷ xs) y ys

or_cluster : (n : ℕ) (h g : Glyph) → ((0 < n) ⊎ GoesBehind h g) → ((0 < n) ⊎ (g.cluster ≡ h.cluster))
or_cluster n h g (inl stays) = inl stays
or_cluster n h g (inr goes) = inr goes.cluster

behind_first : (g : Glyph) (gs : Glyphs) → ending_behind g.cluster gs ≡ last_cluster_of g gs
behind_first g [] = refl
behind_first g (h ∷ hs) = refl

spread_ends : (f : Glyph → Glyphs) → IsSpread f → (h : Glyph) (gs : Glyphs) → StayOrGo (λ g. length (f g)) h gs
    → ending_behind h.cluster (spread_out f gs) ≡ ending_behind h.cluster gs
spread_ends f is h [] stays = refl
spread_ends f is h (g ∷ gs) stays =
    ends_of h.cluster g (f g) (spread_out f gs) (is.each g) (or_cluster (length (f g)) h g stays.0)
    ∙ spread_ends f is g gs stays.1 ∙ behind_first g gs

as_ending : (c : ℕ) (gs : Glyphs) → 0 < length gs → ending gs ≡ ending_behind c gs
as_ending c [] some = absurd (omega (arith, some))
as_ending c (g ∷ gs) some = refl

first_ends : (f : Glyph → Glyphs) → IsSpread f → (gs : Glyphs) → FirstStays (λ g. length (f g)) gs → 0 < length gs
    → ending (spread_out f gs) ≡ ending gs
first_ends f is [] stays some = absurd (omega (arith, some))
first_ends f is (g ∷ gs) stays some =
    as_ending 0 (f g ++ spread_out f gs) (omega (arith, stays.0, length-append (f g) (spread_out f gs)))
    ∙ ends_of 0 g (f g) (spread_out f gs) (is.each g) (inl stays.0) ∙ spread_ends f is g gs stays.1 ∙ behind_first g gs

spread_begins : (f : Glyph → Glyphs) → IsSpread f → (gs : Glyphs) → FirstStays (λ g. length (f g)) gs
    → first_cluster (spread_out f gs) ≡ first_cluster gs
spread_begins f is [] stays = refl
spread_begins f is (g ∷ gs) stays = begins_in_one g (f g) (spread_out f gs) stays.0 (is.each g)

-- ---- A CUT of what is made is one of the text

pub record SpreadCut (f : Glyph → Glyphs) (h : Glyph) (gs front back : Glyphs) : Type 0 where
  pub before : Glyphs
  pub behind : Glyphs
  pub parts : gs ≡ before ++ behind
  pub first : spread_out f before ≡ front
  pub second : spread_out f behind ≡ back
  pub before_stays : StayOrGo (λ g. length (f g)) h before
  pub behind_stays : FirstStays (λ g. length (f g)) behind

all_in_front : (P : Glyph → Type 0) (xs ys : Glyphs) → AllByRecursion P (xs ++ ys) → AllByRecursion P xs
all_in_front P [] ys all = tt
all_in_front P (x ∷ xs) ys all = (all.0, all_in_front P xs ys all.1)

inside : (g : Glyph) (c : ℕ) (made front w back rest : Glyphs) → AllByRecursion (StandsFor g) made → made ≡ front ++ w
    → back ≡ w ++ rest → 0 < length front → 0 < length w → ending_behind c front ≡ first_cluster back
inside g c made front w back rest all parts is some more =
    let each = subst (AllByRecursion (StandsFor g)) parts all in
    sym (as_ending c front some) ∙ ends_in g front some (all_in_front (StandsFor g) front w each)
    ∙ sym (ap first_cluster is ∙ begins_in_one g w rest more (all_back (StandsFor g) front w each))

-- the first glyph goes
cut_gone : (f : Glyph → Glyphs) (h g : Glyph) (gs front back : Glyphs) → f g ≡ [] → ((0 < length (f g)) ⊎ GoesBehind h g)
    → SpreadCut f g gs front back → SpreadCut f h (g ∷ gs) front back
cut_gone f h g gs front back none stays it = record {
  before = g ∷ it.before;
  behind = it.behind;
  parts = ap (λ l. g ∷ l) it.parts;
  first = ap (λ l. l ++ spread_out f it.before) none ∙ it.first;
  second = it.second;
  before_stays = (stays, it.before_stays);
  behind_stays = it.behind_stays;
}

-- it stays, and the cut is behind it
cut_behind : (f : Glyph → Glyphs) (h g : Glyph) (gs front w back : Glyphs) → front ≡ f g ++ w
    → ((0 < length (f g)) ⊎ GoesBehind h g) → SpreadCut f g gs w back → SpreadCut f h (g ∷ gs) front back
cut_behind f h g gs front w back whole stays it = record {
  before = g ∷ it.before;
  behind = it.behind;
  parts = ap (λ l. g ∷ l) it.parts;
  first = ap (λ l. f g ++ l) it.first ∙ sym whole;
  second = it.second;
  before_stays = (stays, it.before_stays);
  behind_stays = it.behind_stays;
}

gone_ends : (h g : Glyph) (n : ℕ) (front : Glyphs) → n ≡ 0 → ((0 < n) ⊎ GoesBehind h g)
    → ending_behind h.cluster front ≡ ending_behind g.cluster front
gone_ends h g n front none (inl stays) = absurd (omega (arith, none, stays))
gone_ends h g n front none (inr goes) = ap (λ c. ending_behind c front) (sym goes.cluster)

cut_by : (f : Glyph → Glyphs) → IsSpread f → (h g : Glyph) (gs front back made : Glyphs) → f g ≡ made
    → made ++ spread_out f gs ≡ front ++ back → ending_behind h.cluster front ≢ first_cluster back
    → StayOrGo (λ x. length (f x)) h (g ∷ gs)
    → ((w : Glyphs) → spread_out f gs ≡ w ++ back → ending_behind g.cluster w ≢ first_cluster back → SpreadCut f g gs w back)
    → SpreadCut f h (g ∷ gs) front back
cut_by f is h g gs front back [] is_made e differ stays on =
    cut_gone f h g gs front back is_made stays.0 (on front e (λ same. differ
    (gone_ends h g (length (f g)) front (ap length is_made) stays.0 ∙ same)))
cut_by f is h g gs [] back (x ∷ xs) is_made e differ stays on = record {
  before = [];
  behind = g ∷ gs;
  parts = refl;
  first = refl;
  second = ap (λ l. l ++ spread_out f gs) is_made ∙ e;
  before_stays = tt;
  behind_stays = (omega (arith, ap length is_made), stays.1);
}
cut_by f is h g gs (y ∷ ys) back (x ∷ xs) is_made e differ stays on =
    elim (split (x ∷ xs) (spread_out f gs) (y ∷ ys) back e) [
      | inl w ↦ cut_behind f h g gs (y ∷ ys) w.0 back (w.1.0 ∙ ap (λ l. l ++ w.0) (sym is_made)) stays.0
          (on w.0 w.1.1 (λ same. differ (ap (ending_behind h.cluster) w.1.0 ∙ ends_of h.cluster g (x ∷ xs) w.0
          (subst (AllByRecursion (StandsFor g)) is_made (is.each g)) (inl (omega arith)) ∙ same)))
      | inr w ↦ absurd (differ (inside g h.cluster (x ∷ xs) (y ∷ ys) w.0 back (spread_out f gs)
          (subst (AllByRecursion (StandsFor g)) is_made (is.each g)) w.1.1.0 w.1.1.1 (omega arith) w.1.0))
    ]

cut_spread : (f : Glyph → Glyphs) → IsSpread f → (h : Glyph) (gs front back : Glyphs) → spread_out f gs ≡ front ++ back
    → 0 < length back → ending_behind h.cluster front ≢ first_cluster back → StayOrGo (λ g. length (f g)) h gs
    → SpreadCut f h gs front back
cut_spread f is h [] front back e more differ stays = absurd (omega (arith, ap length e, length-append front back, more))
cut_spread f is h (g ∷ gs) front back e more differ stays = cut_by f is h g gs front back (f g) refl e differ stays
    (λ w rest other. cut_spread f is g gs w back rest more other stays.1)

-- ---- FLAGS

abbrev unsafe_in : ℕ → Glyph → Bool
unsafe_in c g = g.cluster == c && is_unsafe g

abbrev unsafe_by : ℕ → ℕ → ℕ → Bool
unsafe_by c k m = (k == c) && ((bit_at 0 m == 1) || (bit_at 2 m == 1))

same_flags : (c : ℕ) (g x : Glyph) → StandsFor g x → unsafe_in c x ≡ unsafe_in c g
same_flags c g x is = ap (λ k. unsafe_by c k x.mask) is.cluster ∙ ap (unsafe_by c g.cluster) is.mask

or_itself : (a b c : Bool) → a ≡ c → b ≡ c → (a || b) ≡ c
or_itself true b c one two = one
or_itself false b c one two = two

or_false : (a c : Bool) → a ≡ c → (a || false) ≡ c
or_false true c one = one
or_false false c one = one

any_of_one : (c : ℕ) (g : Glyph) (xs : Glyphs) → 0 < length xs → AllByRecursion (StandsFor g) xs
    → list_any (unsafe_in c) xs ≡ unsafe_in c g
any_of_one c g [] some all = absurd (omega (arith, some))
any_of_one c g (x ∷ []) some all = or_false (unsafe_in c x) (unsafe_in c g) (same_flags c g x all.0)
any_of_one c g (x ∷ y ∷ xs) some all = or_itself (unsafe_in c x) (list_any (unsafe_in c) (y ∷ xs)) (unsafe_in c g)
    (same_flags c g x all.0) (any_of_one c g (y ∷ xs) (omega arith) all.1)

or_assoc : (a b c : Bool) → ((a || b) || c) ≡ (a || (b || c))
or_assoc true b c = refl
or_assoc false b c = refl

any_both : (P : Glyph → Bool) (xs ys : Glyphs) → list_any P (xs ++ ys) ≡ (list_any P xs || list_any P ys)
any_both P [] ys = refl
any_both P (x ∷ xs) ys = ap (λ b. P x || b) (any_both P xs ys) ∙ sym (or_assoc (P x) (list_any P xs) (list_any P ys))

both_are : (a b : Bool) → (a && b) ≡ true → (a ≡ true) × (b ≡ true)
both_are true b e = (refl, e)
both_are false b e = absurd (false≢true e)

absorbed : (h g y z : Bool) → (g ≡ true → h ≡ true) → (g || y) ≡ (g || z) → (h || y) ≡ (h || (g || z))
absorbed true g y z on e = refl
absorbed false true y z on e = absurd (false≢true (on refl))
absorbed false false y z on e = e

-- a flag that goes is in the cluster still
gone_flag : (c : ℕ) (h g : Glyph) → GoesBehind h g → unsafe_in c g ≡ true → unsafe_in c h ≡ true
gone_flag c h g goes e =
    let both = both_are (g.cluster == c) (is_unsafe g) e in
    ap (λ b. b && is_unsafe h) (ap (λ k. k == c) (sym goes.cluster) ∙ both.0) ∙ goes.flagged both.1

any_kept : (c : ℕ) (h g : Glyph) (xs ys zs : Glyphs) → AllByRecursion (StandsFor g) xs → ((0 < length xs) ⊎ GoesBehind h g)
    → (unsafe_in c g || list_any (unsafe_in c) ys) ≡ (unsafe_in c g || list_any (unsafe_in c) zs)
    → (unsafe_in c h || list_any (unsafe_in c) (xs ++ ys)) ≡ (unsafe_in c h || list_any (unsafe_in c) (g ∷ zs))
any_kept c h g [] ys zs all (inl stays) rest = absurd (omega (arith, stays))
any_kept c h g [] ys zs all (inr goes) rest =
    absorbed (unsafe_in c h) (unsafe_in c g) (list_any (unsafe_in c) ys) (list_any (unsafe_in c) zs) (gone_flag c h g goes) rest
any_kept c h g (x ∷ xs) ys zs all stays rest = ap (λ b. unsafe_in c h || b) (any_both (unsafe_in c) (x ∷ xs) ys
    ∙ ap (λ b. b || list_any (unsafe_in c) ys) (any_of_one c g (x ∷ xs) (omega arith) all) ∙ rest)

any_behind : (f : Glyph → Glyphs) → IsSpread f → (c : ℕ) (h : Glyph) (gs : Glyphs) → StayOrGo (λ g. length (f g)) h gs
    → (unsafe_in c h || list_any (unsafe_in c) (spread_out f gs)) ≡ (unsafe_in c h || list_any (unsafe_in c) gs)
any_behind f is c h [] stays = refl
any_behind f is c h (g ∷ gs) stays =
    any_kept c h g (f g) (spread_out f gs) gs (is.each g) stays.0 (any_behind f is c g gs stays.1)

any_spread : (f : Glyph → Glyphs) → IsSpread f → (c : ℕ) (gs : Glyphs) → FirstStays (λ g. length (f g)) gs
    → list_any (unsafe_in c) (spread_out f gs) ≡ list_any (unsafe_in c) gs
any_spread f is c [] stays = refl
any_spread f is c (g ∷ gs) stays = any_both (unsafe_in c) (f g) (spread_out f gs)
    ∙ ap (λ b. b || list_any (unsafe_in c) (spread_out f gs)) (any_of_one c g (f g) stays.0 (is.each g))
    ∙ any_behind f is c g gs stays.1

-- ---- CLEAR PLACES

spread_both : (f : Glyph → Glyphs) (xs ys : Glyphs) → spread_out f (xs ++ ys) ≡ spread_out f xs ++ spread_out f ys
spread_both f [] ys = refl
spread_both f (x ∷ xs) ys = ap (λ l. f x ++ l) (spread_both f xs ys) ∙ sym (append_assoc (f x) (spread_out f xs) (spread_out f ys))

clear_spread : (f : Glyph → Glyphs) → IsSpread f → (before behind xs ys : Glyphs) → 0 < length before → 0 < length behind
    → 0 < length xs → 0 < length ys → spread_out f before ≡ xs → spread_out f behind ≡ ys
    → FirstStays (λ g. length (f g)) before → FirstStays (λ g. length (f g)) behind
    → FirstStays (λ g. length (f g)) (before ++ behind) → IsClear (xs ++ ys) (length xs) → IsClear (before ++ behind) (length before)
clear_spread f is before behind xs ys some more x_some y_some one two b_stays k_stays stays clear =
    let gs : Glyphs = before ++ behind in
    let whole : spread_out f gs ≡ xs ++ ys = spread_both f before behind ∙ ap (λ l. l ++ spread_out f behind) one
    ∙ ap (λ l. xs ++ l) two in
    let last : slice_index (clusters (xs ++ ys)) (length xs - 1) ≡ slice_index (clusters gs) (length before - 1) =
    ended_before xs ys x_some ∙ ap ending (sym one) ∙ first_ends f is before b_stays some ∙ sym (ended_before before behind some) in
    let first : slice_index (clusters (xs ++ ys)) (length xs) ≡ slice_index (clusters gs) (length before) =
    behind_place xs ys y_some ∙ ap first_cluster (sym two) ∙ spread_begins f is behind k_stays ∙ sym (behind_place before behind more) in
    let most : greater (xs ++ ys) (length xs) ≡ greater gs (length before) =
    ap (λ k. max k (slice_index (clusters (xs ++ ys)) (length xs))) last
    ∙ ap (max (slice_index (clusters gs) (length before - 1))) first in
    record {
      differ = λ same. clear.differ (last ∙ same ∙ sym first);
      unflagged = sym (any_spread f is (greater gs (length before)) gs stays)
          ∙ ap (list_any (unsafe_in (greater gs (length before)))) whole
          ∙ ap (λ c. list_any (unsafe_in c) (xs ++ ys)) (sym most) ∙ clear.unflagged;
    }

some_before : (f : Glyph → Glyphs) (gs made : Glyphs) → spread_out f gs ≡ made → 0 < length made → 0 < length gs
some_before f [] made e some = absurd (omega (arith, ap length e, some))
some_before f (g ∷ gs) made e some = omega arith

-- a text cut where what is made of it is clear
pub record ClearCut (f : Glyph → Glyphs) (gs front back : Glyphs) : Type 0 where
  pub before : Glyphs
  pub behind : Glyphs
  pub pieces : CutWhereClear gs before behind
  pub first : spread_out f before ≡ front
  pub second : spread_out f behind ≡ back
  pub before_stays : FirstStays (λ g. length (f g)) before
  pub behind_stays : FirstStays (λ g. length (f g)) behind

-- the cut of a text that begins with a glyph, by the cut behind this one
first_cut : (f : Glyph → Glyphs) → IsSpread f → (g : Glyph) (gs front w back : Glyphs) → front ≡ f g ++ w → 0 < length (f g)
    → FirstStays (λ x. length (f x)) (g ∷ gs) → 0 < length front → 0 < length back → IsClear (front ++ back) (length front)
    → SpreadCut f g gs w back → ClearCut f (g ∷ gs) front back
first_cut f is g gs front w back whole here stays some more clear it =
    let before : Glyphs = g ∷ it.before in
    let first : spread_out f before ≡ front = ap (λ l. f g ++ l) it.first ∙ sym whole in
    let parts : g ∷ gs ≡ before ++ it.behind = ap (λ l. g ∷ l) it.parts in
    let k_some = some_before f it.behind back it.second more in
    record {
      before = before;
      behind = it.behind;
      pieces = record {
        parts = parts;
        some_in_front = omega arith;
        some_behind = k_some;
        clear = subst (λ l. IsClear l (length before)) (sym parts) (clear_spread f is before it.behind front back (omega arith) k_some
            some more first it.second (here, it.before_stays) it.behind_stays
            (subst (FirstStays (λ x. length (f x))) parts stays) clear);
      };
      first = first;
      second = it.second;
      before_stays = (here, it.before_stays);
      behind_stays = it.behind_stays;
    }

pub cut_clear : (f : Glyph → Glyphs) → IsSpread f → (gs front back : Glyphs) → FirstStays (λ g. length (f g)) gs
    → CutWhereClear (spread_out f gs) front back → ClearCut f gs front back
cut_clear f is [] front back stays cut = absurd (omega (arith, ap length cut.parts, length-append front back, cut.some_behind))
cut_clear f is (g ∷ gs) front back stays cut =
    let clear : IsClear (front ++ back) (length front) = subst (λ l. IsClear l (length front)) cut.parts cut.clear in
    let differ : ending front ≢ first_cluster back = λ same. clear.differ (ended_before front back cut.some_in_front ∙ same
    ∙ sym (behind_place front back cut.some_behind)) in
    elim (split (f g) (spread_out f gs) front back cut.parts) [
      | inl w ↦ first_cut f is g gs front w.0 back w.1.0 stays.0 stays cut.some_in_front cut.some_behind clear
          (cut_spread f is g gs w.0 back w.1.1 cut.some_behind (λ same. differ (as_ending 0 front cut.some_in_front
          ∙ ap (ending_behind 0) w.1.0 ∙ ends_of 0 g (f g) w.0 (is.each g) (inl stays.0) ∙ same)) stays.1)
      | inr w ↦ absurd (differ (as_ending 0 front cut.some_in_front ∙ inside g 0 (f g) front w.0 back (spread_out f gs) (is.each g)
          w.1.1.0 w.1.1.1 cut.some_in_front w.1.0))
    ]
