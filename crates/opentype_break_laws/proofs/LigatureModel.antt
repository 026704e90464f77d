-- A lookup of ligatures along the rest of a text, as a recursion that numbers no ligature; and the cuts of what it makes.
use Rattle.std.proofs.Common.{ℕ, zero, suc, ◌+◌, ◌-◌, ◌<◌, ◌≤◌, ◌≡◌, ◌≢◌, ◌==◌, ◌||◌, ◌⊎◌, inl, inr, if◌then◌else◌, Bool, true, false, List, [], ◌∷◌, ◌++◌, length, map, take, drop, set, None, Some, refl, sym, ap, subst, ◌∙◌, arith, append_assoc, length-append}
use Rattle.std.specs.List.{AllByRecursion, list_any, remove}
use Rattle.std.proofs.lemmas.Bool.{false≢true}
use Rattle.std.proofs.lemmas.Bool.Decides.{nat_tests}
use Rattle.std.proofs.lemmas.List.{drop_at, get_or_append_left, length-drop, length-set, length-take-le, take-append-drop, take_at}
use Rattle.shapers_buffer.specs.Clusters.{first_cluster, flooded, in_cluster}
use Rattle.shapers_buffer.specs.Glyph.{default_glyph, without_flags}
use Rattle.shapers_buffer.specs.Glyphs.{Glyph, Glyphs}
use Rattle.shapers_buffer.specs.Properties.{component}
use Rattle.shapers_buffer.proofs.MappedLists.{all-append}
use Rattle.shapers_clusters.specs.Breaks.{is_unsafe}
use Rattle.shapers_clusters.specs.Flags.{bit_at}
use Rattle.opentype_layout.specs.Text.{glyph_at}
use Rattle.opentype_gsub.specs.Edits.{removed_all, replaced}
use Rattle.opentype_gsub.specs.Ligated.{Marked, as_mark, counted_too, is_of_base, is_of_marks, ligature_glyph, marked_one, marks_inside, nothing_counted}
use Rattle.opentype_gsub.specs.declared.ligating.Counted.{Counted}
use Rattle.opentype_break_laws.specs.OrderedTexts.{AreOrdered, HasNoComponents, PrecedesInOrder}
use Rattle.opentype_break_laws.proofs.LigatureFits.{Climbs, FittingLigature}

-- ---- THE MODEL

-- the last of a place and of those behind it
abbrev pub last_of : ℕ → List ℕ → ℕ
last_of at [] = at
last_of at (p ∷ ps) = last_of p ps

-- a ligature's number is 0, or it has one
abbrev pub number_of : Glyphs → List ℕ → ℕ
number_of gs ps = if is_of_marks gs 0 ps || is_of_base gs 0 ps then 0 else 1

-- the glyphs from a ligature's first to its last one, merged, when it has come in
unfoldable pub stretch_joined : List ℕ → ℕ → List ℕ → ℕ → Glyphs → Glyphs
stretch_joined gdef number ps to gs =
    let m = marks_inside (length gs - 1) number ps gs 1 (counted_too nothing_counted (glyph_at gs 0)) in
    removed_all ps (set m.text 0 (ligature_glyph gdef to number m.counted.all (glyph_at gs 0)))

-- what a step puts out, and what is left behind it
pub record Emitted : Type 0 where
  pub made : Glyphs
  pub rest : Glyphs

-- the glyphs of a ligature merged: the first one's cluster
abbrev pub stretch_merged : Glyph → Glyphs → Glyphs
stretch_merged g gs = map (in_cluster g.cluster) (g ∷ gs)

abbrev pub emit_by : List ℕ → ℕ → List ℕ → Glyph → Glyphs → Emitted
emit_by gdef to [] g gs = record { made = replaced gdef to 0 g ∷ []; rest = gs }
emit_by gdef to (p ∷ ps) g gs =
    let q = last_of p ps in
    let front = stretch_merged g (take q gs) in
    record {
      made = stretch_joined gdef (number_of front (p ∷ ps)) (p ∷ ps) to front;
      rest = flooded (glyph_at (g ∷ gs) q).cluster g.cluster (drop q gs);
    }

abbrev pub emit : List ℕ → FittingLigature → Glyph → Glyphs → Emitted
emit gdef None g gs = record { made = g ∷ []; rest = gs }
emit gdef (Some it) g gs = emit_by gdef it.0 it.1 g gs

abbrev pub model : List ℕ → (Glyphs → FittingLigature) → ℕ → Glyphs → Glyphs
model gdef fits zero gs = gs
model gdef fits (suc n) [] = []
model gdef fits (suc n) (g ∷ gs) =
    let it = emit gdef (fits (g ∷ gs)) g gs in it.made ++ model gdef fits n it.rest

-- what fits, by the text from a place on
pub record IsFitting (fits : Glyphs → FittingLigature) : Type 0 where
  pub none : (g : Glyph) (xs ys : Glyphs) → HasNoComponents (g ∷ (xs ++ ys)) → fits (g ∷ (xs ++ ys)) ≡ None
      → fits (g ∷ xs) ≡ None
  pub some : (g : Glyph) (xs ys : Glyphs) (it : ℕ × List ℕ) → HasNoComponents (g ∷ (xs ++ ys))
      → fits (g ∷ (xs ++ ys)) ≡ Some it → AllByRecursion (λ q. q < length (g ∷ xs)) it.1 → fits (g ∷ xs) ≡ Some it
  pub climbs : (gs : Glyphs) (it : ℕ × List ℕ) → HasNoComponents gs → fits gs ≡ Some it → Climbs 0 it.1 (length gs)

-- ---- BORDERS of clusters

-- a border of two clusters, behind which no glyph of the first one is flagged
pub record IsBorder (front back : Glyphs) : Type 0 where
  pub lower : AllByRecursion (λ g. g.cluster < first_cluster back) front
  pub clear : AllByRecursion (λ g. g.cluster ≡ first_cluster back → is_unsafe g ≡ false) back

-- ---- ALL of some glyphs

pub all_front : {X : Type 0} (P : X → Type 0) (xs ys : List X) → AllByRecursion P (xs ++ ys) → AllByRecursion P xs
all_front P [] ys all = tt
all_front P (x ∷ xs) ys all = (all.0, all_front P xs ys all.1)

pub all_back : {X : Type 0} (P : X → Type 0) (xs ys : List X) → AllByRecursion P (xs ++ ys) → AllByRecursion P ys
all_back P [] ys all = all
all_back P (x ∷ xs) ys all = all_back P xs ys all.1

pub all_weaker : {X : Type 0} (P Q : X → Type 0) → ((x : X) → P x → Q x) → (xs : List X) → AllByRecursion P xs
    → AllByRecursion Q xs
all_weaker P Q is [] all = tt
all_weaker P Q is (x ∷ xs) all = (is x all.0, all_weaker P Q is xs all.1)

pub all_drop : {X : Type 0} (P : X → Type 0) (n : ℕ) (xs : List X) → AllByRecursion P xs → AllByRecursion P (drop n xs)
all_drop P zero xs all = all
all_drop P (suc n) [] all = tt
all_drop P (suc n) (x ∷ xs) all = all_drop P n xs all.1

pub all_take : {X : Type 0} (P : X → Type 0) (n : ℕ) (xs : List X) → AllByRecursion P xs → AllByRecursion P (take n xs)
all_take P zero xs all = tt
all_take P (suc n) [] all = tt
all_take P (suc n) (x ∷ xs) all = (all.0, all_take P n xs all.1)

pub all_set : {X : Type 0} (P : X → Type 0) (xs : List X) (i : ℕ) (y : X) → AllByRecursion P xs → (i < length xs → P y)
    → AllByRecursion P (set xs i y)
all_set P [] i y all is = tt
all_set P (x ∷ xs) zero y all is = (is (omega arith), all.1)
all_set P (x ∷ xs) (suc i) y all is = (all.0, all_set P xs i y all.1 (λ lt. is (omega (arith, lt))))

pub all_removed : (P : Glyph → Type 0) (ps : List ℕ) (gs : Glyphs) → AllByRecursion P gs → AllByRecursion P (removed_all ps gs)
unfolding removed_all
all_removed P [] gs all = all
all_removed P (p ∷ ps) gs all =
    let rest = removed_all ps gs in
    let is = all_removed P ps gs all in
    all-append P (take p rest) (drop (suc p) rest) (all_take P p rest is) (all_drop P (suc p) rest is)

pub all_at : (P : Glyph → Type 0) (gs : Glyphs) (i : ℕ) → AllByRecursion P gs → i < length gs → P (glyph_at gs i)
all_at P [] i all lt = absurd (omega (arith, lt))
all_at P (g ∷ gs) zero all lt = all.0
all_at P (g ∷ gs) (suc i) all lt = all_at P gs i all.1 (omega (arith, lt))

-- ---- THE CLUSTER of what a ligature leaves

abbrev pub InCluster : ℕ → Glyphs → Type 0
InCluster c gs = AllByRecursion (λ g. g.cluster ≡ c) gs

itself : (n : ℕ) → (n == n) ≡ true
itself n = grind (arith, nat_tests)

pub is_equal : (m n : ℕ) → (m == n) ≡ true → m ≡ n
is_equal m n e = grind (arith, nat_tests)

is_other : (m n : ℕ) → (m == n) ≡ false → m ≢ n
is_other m n e same = absurd (false≢true (sym e ∙ ap (λ k. k == n) same ∙ itself n))

in_one_by : (c : ℕ) (g : Glyph) (b : Bool) → (g.cluster == c) ≡ b → (in_cluster c g).cluster ≡ c
in_one_by c g true e = rw e (is_equal g.cluster c e)
in_one_by c g false e = rw e refl

pub in_one : (c : ℕ) (g : Glyph) → (in_cluster c g).cluster ≡ c
in_one c g = in_one_by c g (g.cluster == c) refl

in_merged : (c : ℕ) (gs : Glyphs) → InCluster c (map (in_cluster c) gs)
in_merged c [] = tt
in_merged c (g ∷ gs) = (in_one c g, in_merged c gs)

mark_in : (c : ℕ) (gs : Glyphs) (i number : ℕ) (k : Counted) → InCluster c gs
    → InCluster c (set gs i (as_mark number k (glyph_at gs i)))
unfolding as_mark
mark_in c gs i number k all = all_set (λ g. g.cluster ≡ c) gs i (as_mark number k (glyph_at gs i)) all
    (λ lt. all_at (λ g. g.cluster ≡ c) gs i all lt)

pub if_marked : (P : Glyphs → Type 0) (test : Bool) (x y : Marked) → P x.text → P y.text → P (if test then x else y).text
if_marked P true x y one two = one
if_marked P false x y one two = two

one_in : (c number : ℕ) (ps : List ℕ) (gs : Glyphs) (i : ℕ) (k : Counted) → InCluster c gs
    → InCluster c (marked_one number ps gs i k).text
unfolding marked_one
one_in c number ps gs i k all = if_marked (InCluster c) (list_any (λ p. p == i) ps) _ _ all
    (if_marked (InCluster c) (number == 0) _ _ all (mark_in c gs i number k all))

marks_in : (c n number : ℕ) (ps : List ℕ) (gs : Glyphs) (i : ℕ) (k : Counted) → InCluster c gs
    → InCluster c (marks_inside n number ps gs i k).text
unfolding marks_inside
marks_in c zero number ps gs i k all = all
marks_in c (suc n) number ps gs i k all =
    marks_in c n number ps (marked_one number ps gs i k).text (i + 1) (marked_one number ps gs i k).counted
    (one_in c number ps gs i k all)

ligature_in_one : (gdef : List ℕ) (to number count : ℕ) (g : Glyph)
    → ((ligature_glyph gdef to number count g).cluster ≡ g.cluster) × ((ligature_glyph gdef to number count g).mask ≡ g.mask)
unfolding ligature_glyph replaced
ligature_in_one gdef to number count g = (refl, refl)

joined_in : (c : ℕ) (gdef : List ℕ) (number : ℕ) (ps : List ℕ) (to : ℕ) (gs : Glyphs) → InCluster c gs → 0 < length gs
    → InCluster c (stretch_joined gdef number ps to gs)
unfolding stretch_joined
joined_in c gdef number ps to gs all some =
    let start = counted_too nothing_counted (glyph_at gs 0) in
    let m = marks_inside (length gs - 1) number ps gs 1 start in
    let g = glyph_at gs 0 in
    all_removed (λ x. x.cluster ≡ c) ps (set m.text 0 (ligature_glyph gdef to number m.counted.all g))
    (all_set (λ x. x.cluster ≡ c) m.text 0 (ligature_glyph gdef to number m.counted.all g)
    (marks_in c (length gs - 1) number ps gs 1 start all)
    (λ lt. (ligature_in_one gdef to number m.counted.all g).0 ∙ all_at (λ x. x.cluster ≡ c) gs 0 all some))

-- ---- THE FIRST GLYPH of what a step puts out

pub record HasFirst (gs : Glyphs) (c m : ℕ) : Type 0 where
  pub first : Glyph
  pub rest : Glyphs
  pub is : gs ≡ first ∷ rest
  pub cluster : first.cluster ≡ c
  pub mask : first.mask ≡ m

one_long : (number : ℕ) (ps : List ℕ) (gs : Glyphs) (i n : ℕ) (k : Counted) → length gs ≡ n
    → length (marked_one number ps gs i k).text ≡ n
unfolding marked_one
one_long number ps gs i n k e = if_marked (λ x. length x ≡ n) (list_any (λ p. p == i) ps) _ _ e
    (if_marked (λ x. length x ≡ n) (number == 0) _ _ e (length-set gs i (as_mark number k (glyph_at gs i)) ∙ e))

pub marks_long : (m number : ℕ) (ps : List ℕ) (gs : Glyphs) (i n : ℕ) (k : Counted) → length gs ≡ n
    → length (marks_inside m number ps gs i k).text ≡ n
unfolding marks_inside
marks_long zero number ps gs i n k e = e
marks_long (suc m) number ps gs i n k e =
    marks_long m number ps (marked_one number ps gs i k).text (i + 1) n (marked_one number ps gs i k).counted
    (one_long number ps gs i n k e)

set_first : (gs : Glyphs) (y : Glyph) → 0 < length gs → HasFirst (set gs 0 y) y.cluster y.mask
set_first [] y some = absurd (omega (arith, some))
set_first (g ∷ gs) y some = record { first = y; rest = gs; is = refl; cluster = refl; mask = refl }

remove_behind : (gs : Glyphs) (p c mask : ℕ) → 0 < p → HasFirst gs c mask → HasFirst (remove gs p) c mask
remove_behind gs zero c mask some h = absurd (omega (arith, some))
remove_behind gs (suc p) c mask some h = record {
  first = h.first;
  rest = take p h.rest ++ drop (suc p) h.rest;
  is = ap (λ xs. take (suc p) xs ++ drop (suc (suc p)) xs) h.is;
  cluster = h.cluster;
  mask = h.mask;
}

removed_first : (ps : List ℕ) (gs : Glyphs) (at end c mask : ℕ) → Climbs at ps end → HasFirst gs c mask
    → HasFirst (removed_all ps gs) c mask
unfolding removed_all
removed_first [] gs at end c mask climbs h = h
removed_first (p ∷ ps) gs at end c mask climbs h =
    remove_behind (removed_all ps gs) p c mask (omega (arith, climbs.0)) (removed_first ps gs p end c mask climbs.1.1 h)

in_itself : (g : Glyph) → in_cluster g.cluster g ≡ g
in_itself g = ap (λ b. if b then g else (let r : Glyph = record g { cluster = g.cluster; mask = without_flags g.mask } in r)) (itself g.cluster)

joined_first : (gdef : List ℕ) (number : ℕ) (ps : List ℕ) (to : ℕ) (g : Glyph) (gs : Glyphs) (end : ℕ) → Climbs 0 ps end
    → HasFirst (stretch_joined gdef number ps to (stretch_merged g gs)) g.cluster g.mask
unfolding stretch_joined
joined_first gdef number ps to g gs end climbs =
    let front = stretch_merged g gs in
    let start = counted_too nothing_counted (glyph_at front 0) in
    let m = marks_inside (length front - 1) number ps front 1 start in
    let y = ligature_glyph gdef to number m.counted.all (glyph_at front 0) in
    let keeps = ligature_in_one gdef to number m.counted.all (glyph_at front 0) in
    let long : length m.text ≡ length front = marks_long (length front - 1) number ps front 1 (length front) start refl in
    let some : 0 < length m.text = omega (arith, long) in
    let first = removed_first ps (set m.text 0 y) 0 end y.cluster y.mask climbs (set_first m.text y some) in
    record {
      first = first.first;
      rest = first.rest;
      is = first.is;
      cluster = first.cluster ∙ keeps.0 ∙ ap (λ (x : Glyph). x.cluster) (in_itself g);
      mask = first.mask ∙ keeps.1 ∙ ap (λ (x : Glyph). x.mask) (in_itself g);
    }

single_in_one : (gdef : List ℕ) (to : ℕ) (g : Glyph)
    → ((replaced gdef to 0 g).cluster ≡ g.cluster) × ((replaced gdef to 0 g).mask ≡ g.mask)
unfolding replaced
single_in_one gdef to g = (refl, refl)

emit_by_first : (gdef : List ℕ) (to : ℕ) (ps : List ℕ) (g : Glyph) (gs : Glyphs) (end : ℕ) → Climbs 0 ps end
    → HasFirst (emit_by gdef to ps g gs).made g.cluster g.mask
emit_by_first gdef to [] g gs end climbs = record {
  first = replaced gdef to 0 g;
  rest = [];
  is = refl;
  cluster = (single_in_one gdef to g).0;
  mask = (single_in_one gdef to g).1;
}
emit_by_first gdef to (p ∷ ps) g gs end climbs =
    joined_first gdef (number_of (stretch_merged g (take (last_of p ps) gs)) (p ∷ ps)) (p ∷ ps) to g (take (last_of p ps) gs) end climbs

emit_first : (gdef : List ℕ) (fits : Glyphs → FittingLigature) → IsFitting fits → (o : FittingLigature) (g : Glyph) (gs : Glyphs)
    → HasNoComponents (g ∷ gs) → fits (g ∷ gs) ≡ o → HasFirst (emit gdef o g gs).made g.cluster g.mask
emit_first gdef fits are None g gs all e = record { first = g; rest = []; is = refl; cluster = refl; mask = refl }
emit_first gdef fits are (Some it) g gs all e =
    emit_by_first gdef it.0 it.1 g gs (length (g ∷ gs)) (are.climbs (g ∷ gs) it all e)

emit_by_in : (gdef : List ℕ) (to : ℕ) (ps : List ℕ) (g : Glyph) (gs : Glyphs) → InCluster g.cluster (emit_by gdef to ps g gs).made
emit_by_in gdef to [] g gs = ((single_in_one gdef to g).0, tt)
emit_by_in gdef to (p ∷ ps) g gs =
    let front = stretch_merged g (take (last_of p ps) gs) in
    joined_in g.cluster gdef (number_of front (p ∷ ps)) (p ∷ ps) to front (in_merged g.cluster (g ∷ take (last_of p ps) gs)) (omega arith)

pub emit_in : (gdef : List ℕ) (o : FittingLigature) (g : Glyph) (gs : Glyphs) → InCluster g.cluster (emit gdef o g gs).made
emit_in gdef None g gs = (refl, tt)
emit_in gdef (Some it) g gs = emit_by_in gdef it.0 it.1 g gs

-- the first glyph of what is made has the cluster and flags of the text's first one
pub model_first : (gdef : List ℕ) (fits : Glyphs → FittingLigature) → IsFitting fits → (n : ℕ) (g : Glyph) (gs : Glyphs) → 0 < n
    → HasNoComponents (g ∷ gs) → HasFirst (model gdef fits n (g ∷ gs)) g.cluster g.mask
model_first gdef fits are zero g gs some all = absurd (omega (arith, some))
model_first gdef fits are (suc n) g gs some all =
    let o = fits (g ∷ gs) in
    let it = emit gdef o g gs in
    let first = emit_first gdef fits are o g gs all refl in
    record {
      first = first.first;
      rest = first.rest ++ model gdef fits n it.rest;
      is = ap (λ xs. xs ++ model gdef fits n it.rest) first.is;
      cluster = first.cluster;
      mask = first.mask;
    }

-- ---- WHAT A MERGE FLOODS behind it

flood_hit : (cl c : ℕ) (x : Glyph) (xs : Glyphs) → (x.cluster == cl) ≡ true
    → flooded cl c (x ∷ xs) ≡ in_cluster c x ∷ flooded cl c xs
flood_hit cl c x xs e = ap (λ b. if b then in_cluster c x ∷ flooded cl c xs else x ∷ xs) e

flood_miss : (cl c : ℕ) (x : Glyph) (xs : Glyphs) → (x.cluster == cl) ≡ false → flooded cl c (x ∷ xs) ≡ x ∷ xs
flood_miss cl c x xs e = ap (λ b. if b then in_cluster c x ∷ flooded cl c xs else x ∷ xs) e

flood_long_by : (cl c : ℕ) (x : Glyph) (xs : Glyphs) (b : Bool) → (x.cluster == cl) ≡ b
    → length (flooded cl c xs) ≡ length xs → length (flooded cl c (x ∷ xs)) ≡ length (x ∷ xs)
flood_long_by cl c x xs true e rest = ap length (flood_hit cl c x xs e) ∙ ap suc rest
flood_long_by cl c x xs false e rest = ap length (flood_miss cl c x xs e)

pub flood_long : (cl c : ℕ) (xs : Glyphs) → length (flooded cl c xs) ≡ length xs
flood_long cl c [] = refl
flood_long cl c (x ∷ xs) = flood_long_by cl c x xs (x.cluster == cl) refl (flood_long cl c xs)

flood_all_by : (P : Glyph → Type 0) (cl c : ℕ) → ((x : Glyph) → P x → P (in_cluster c x)) → (x : Glyph) (xs : Glyphs) (b : Bool)
    → (x.cluster == cl) ≡ b → AllByRecursion P (x ∷ xs) → AllByRecursion P (flooded cl c xs)
    → AllByRecursion P (flooded cl c (x ∷ xs))
flood_all_by P cl c keeps x xs true e all rest = subst (AllByRecursion P) (sym (flood_hit cl c x xs e)) (keeps x all.0, rest)
flood_all_by P cl c keeps x xs false e all rest = subst (AllByRecursion P) (sym (flood_miss cl c x xs e)) all

pub flood_all : (P : Glyph → Type 0) (cl c : ℕ) → ((x : Glyph) → P x → P (in_cluster c x)) → (xs : Glyphs) → AllByRecursion P xs
    → AllByRecursion P (flooded cl c xs)
flood_all P cl c keeps [] all = tt
flood_all P cl c keeps (x ∷ xs) all = flood_all_by P cl c keeps x xs (x.cluster == cl) refl all (flood_all P cl c keeps xs all.1)

flags_off : (m : ℕ) (g : Glyph) → g.mask ≡ without_flags m → is_unsafe g ≡ false
flags_off m g e =
    let low : bit_at 0 (without_flags m) ≡ 0 = omega arith in
    let high : bit_at 2 (without_flags m) ≡ 0 = omega arith in
    ap (λ n. (bit_at 0 n == 1) || (bit_at 2 n == 1)) e ∙ ap (λ n. (n == 1) || (bit_at 2 (without_flags m) == 1)) low
    ∙ ap (λ n. n == 1) high

fallen_off : (c : ℕ) (g : Glyph) (b : Bool) → (g.cluster == c) ≡ b → g.cluster ≢ c → is_unsafe (in_cluster c g) ≡ false
fallen_off c g true e other = absurd (other (is_equal g.cluster c e))
fallen_off c g false e other = flags_off g.mask (in_cluster c g)
    (ap (λ x. (if x then g else (let r : Glyph = record g { cluster = c; mask = without_flags g.mask } in r)).mask) e)

-- glyphs behind one that fell to a lesser cluster
fallen_before : (c cl : ℕ) (y : Glyph) → y.cluster ≡ c → c < cl → (x : Glyph) → x.cluster ≡ cl
    → PrecedesInOrder y (in_cluster c x)
fallen_before c cl y is less x e = (
  omega (arith, is, in_one c x),
  λ same unsafe. absurd (false≢true (sym (fallen_off c x (x.cluster == c) refl (λ z. absurd (omega (arith, z, e, less)))) ∙ unsafe)),
)

greater_before : (c cl : ℕ) (y : Glyph) → y.cluster ≡ c → c < cl → (x : Glyph) → cl ≤ x.cluster → PrecedesInOrder y x
greater_before c cl y is less x le = (omega (arith, is, less, le), λ same unsafe. absurd (omega (arith, same, is, less, le)))

flood_before_by : (c cl : ℕ) (y : Glyph) → y.cluster ≡ c → c < cl → (x : Glyph) (xs : Glyphs)
    → AllByRecursion (λ z. cl ≤ z.cluster) (x ∷ xs) → (b : Bool) → (x.cluster == cl) ≡ b
    → AllByRecursion (PrecedesInOrder y) (flooded cl c xs) → AllByRecursion (PrecedesInOrder y) (flooded cl c (x ∷ xs))
flood_before_by c cl y is less x xs all true e rest = subst (AllByRecursion (PrecedesInOrder y)) (sym (flood_hit cl c x xs e))
    (fallen_before c cl y is less x (is_equal x.cluster cl e), rest)
flood_before_by c cl y is less x xs all false e rest = subst (AllByRecursion (PrecedesInOrder y)) (sym (flood_miss cl c x xs e))
    (all_weaker (λ (z : Glyph). cl ≤ z.cluster) (PrecedesInOrder y) (greater_before c cl y is less) (x ∷ xs) all)

flood_before : (c cl : ℕ) (y : Glyph) → y.cluster ≡ c → c < cl → (xs : Glyphs) → AllByRecursion (λ x. cl ≤ x.cluster) xs
    → AllByRecursion (PrecedesInOrder y) (flooded cl c xs)
flood_before c cl y is less [] all = tt
flood_before c cl y is less (x ∷ xs) all =
    flood_before_by c cl y is less x xs all (x.cluster == cl) refl (flood_before c cl y is less xs all.1)

flood_less_by : (c cl : ℕ) → c < cl → (x : Glyph) (xs : Glyphs) → AllByRecursion (λ z. cl ≤ z.cluster) (x ∷ xs)
    → AreOrdered (x ∷ xs) → (b : Bool) → (x.cluster == cl) ≡ b → AreOrdered (flooded cl c xs)
    → AreOrdered (flooded cl c (x ∷ xs))
flood_less_by c cl less x xs all order true e rest = subst AreOrdered (sym (flood_hit cl c x xs e))
    (flood_before c cl (in_cluster c x) (in_one c x) less xs all.1, rest)
flood_less_by c cl less x xs all order false e rest = subst AreOrdered (sym (flood_miss cl c x xs e)) order

flood_less : (c cl : ℕ) → c < cl → (xs : Glyphs) → AllByRecursion (λ x. cl ≤ x.cluster) xs → AreOrdered xs
    → AreOrdered (flooded cl c xs)
flood_less c cl less [] all order = tt
flood_less c cl less (x ∷ xs) all order =
    flood_less_by c cl less x xs all order (x.cluster == cl) refl (flood_less c cl less xs all.1 order.1)

flood_same_by : (c : ℕ) (x : Glyph) (xs : Glyphs) (b : Bool) → (x.cluster == c) ≡ b → flooded c c xs ≡ xs
    → flooded c c (x ∷ xs) ≡ x ∷ xs
flood_same_by c x xs true e rest = flood_hit c c x xs e
    ∙ ap (λ z. z ∷ flooded c c xs) (ap (λ b. if b then x else (let r : Glyph = record x { cluster = c; mask = without_flags x.mask } in r)) e)
    ∙ ap (λ l. x ∷ l) rest
flood_same_by c x xs false e rest = flood_miss c c x xs e

equal_or_less : (c cl : ℕ) → c ≤ cl → (c ≡ cl) ⊎ (c < cl)
equal_or_less c cl le = grind arith

flood_same : (c : ℕ) (xs : Glyphs) → flooded c c xs ≡ xs
flood_same c [] = refl
flood_same c (x ∷ xs) = flood_same_by c x xs (x.cluster == c) refl (flood_same c xs)

flood_ordered : (c cl : ℕ) → c ≤ cl → (xs : Glyphs) → AllByRecursion (λ x. cl ≤ x.cluster) xs → AreOrdered xs
    → AreOrdered (flooded cl c xs)
flood_ordered c cl le xs all order = elim (equal_or_less c cl le) [
  | inl same ↦ subst (λ k. AreOrdered (flooded k c xs)) same (subst AreOrdered (sym (flood_same c xs)) order)
  | inr less ↦ flood_less c cl less xs all order
]

-- ---- A CUT behind what was flooded was one before

pub record Unflooded (cl c : ℕ) (gs flood behind : Glyphs) : Type 0 where
  pub before : Glyphs
  pub parts : gs ≡ before ++ behind
  pub floods : flooded cl c before ≡ flood
  pub above : cl < first_cluster behind
  pub lower : AllByRecursion (λ g. g.cluster < first_cluster behind) flood
      → AllByRecursion (λ g. g.cluster < first_cluster behind) before

first_of_all : (P : ℕ → Type 0) (xs behind : Glyphs) → 0 < length behind → AllByRecursion (λ g. P g.cluster) (xs ++ behind)
    → P (first_cluster behind)
first_of_all P xs [] some all = absurd (omega (arith, some))
first_of_all P xs (y ∷ ys) some all = (all_back (λ (g : Glyph). P g.cluster) xs (y ∷ ys) all).0

abbrev head_of : Glyphs → Glyph
head_of [] = default_glyph
head_of (g ∷ gs) = g

unflood_miss : (cl c : ℕ) (x : Glyph) (xs flood behind : Glyphs) → AreOrdered (x ∷ xs) → cl ≤ x.cluster → x.cluster ≢ cl
    → 0 < length behind → x ∷ xs ≡ flood ++ behind → (x.cluster == cl) ≡ false → Unflooded cl c (x ∷ xs) flood behind
unflood_miss cl c x xs [] [] order le other some e miss = absurd (omega (arith, some))
unflood_miss cl c x xs [] (y ∷ ys) order le other some e miss = record {
  before = [];
  parts = e;
  floods = refl;
  above = (let is = ap (λ l. (head_of l).cluster) e in grind (arith, le, other, is));
  lower = λ all. tt;
}
unflood_miss cl c x xs (z ∷ zs) behind order le other some e miss =
    let is : x ≡ z = ap head_of e in
    let after : AllByRecursion (PrecedesInOrder x) (zs ++ behind) = subst (AllByRecursion (PrecedesInOrder x)) (ap (drop 1) e) order.0 in
    let low : x.cluster ≤ first_cluster behind = first_of_all (λ k. x.cluster ≤ k) zs behind some
    (all_weaker (PrecedesInOrder x) (λ (g : Glyph). x.cluster ≤ g.cluster) (λ g p. p.0) (zs ++ behind) after) in
    record {
      before = z ∷ zs;
      parts = e;
      floods = flood_miss cl c z zs (ap (λ (g : Glyph). g.cluster == cl) (sym is) ∙ miss);
      above = grind (arith, le, other, low);
      lower = λ all. all;
    }

unflood_hit : (cl c : ℕ) (x : Glyph) (xs flood behind : Glyphs) → 0 < length behind → first_cluster behind ≢ c
    → in_cluster c x ∷ flooded cl c xs ≡ flood ++ behind → (x.cluster == cl) ≡ true
    → ((rest : Glyphs) → flooded cl c xs ≡ rest ++ behind → Unflooded cl c xs rest behind)
    → Unflooded cl c (x ∷ xs) flood behind
unflood_hit cl c x xs [] behind some other e hit on =
    absurd (other (sym (ap first_cluster e) ∙ in_one c x))
unflood_hit cl c x xs (z ∷ zs) behind some other e hit on =
    let is : in_cluster c x ≡ z = ap head_of e in
    let it = on zs (ap (drop 1) e) in
    record {
      before = x ∷ it.before;
      parts = ap (λ l. x ∷ l) it.parts;
      floods = flood_hit cl c x it.before hit ∙ ap (λ l. in_cluster c x ∷ l) it.floods ∙ ap (λ g. g ∷ zs) is;
      above = it.above;
      lower = λ all. (omega (arith, is_equal x.cluster cl hit, it.above), it.lower all.1);
    }

unflood_by : (cl c : ℕ) (x : Glyph) (xs flood behind : Glyphs) → AreOrdered (x ∷ xs)
    → AllByRecursion (λ z. cl ≤ z.cluster) (x ∷ xs) → 0 < length behind → first_cluster behind ≢ c → (b : Bool)
    → (x.cluster == cl) ≡ b → flooded cl c (x ∷ xs) ≡ flood ++ behind
    → ((rest : Glyphs) → flooded cl c xs ≡ rest ++ behind → Unflooded cl c xs rest behind)
    → Unflooded cl c (x ∷ xs) flood behind
unflood_by cl c x xs flood behind order all some other true e is on =
    unflood_hit cl c x xs flood behind some other (sym (flood_hit cl c x xs e) ∙ is) e on
unflood_by cl c x xs flood behind order all some other false e is on =
    unflood_miss cl c x xs flood behind order all.0 (is_other x.cluster cl e) some (sym (flood_miss cl c x xs e) ∙ is) e

unflood : (cl c : ℕ) (gs flood behind : Glyphs) → AreOrdered gs → AllByRecursion (λ x. cl ≤ x.cluster) gs
    → flooded cl c gs ≡ flood ++ behind → 0 < length behind → first_cluster behind ≢ c → Unflooded cl c gs flood behind
unflood cl c [] flood behind order all e some other = absurd (omega (arith, ap length e, length-append flood behind, some))
unflood cl c (x ∷ xs) flood behind order all e some other =
    unflood_by cl c x xs flood behind order all some other (x.cluster == cl) refl e
    (λ rest r. unflood cl c xs rest behind order.1 all.1 r some other)

-- ---- A STEP, and enough steps

emit_by_short : (gdef : List ℕ) (to : ℕ) (ps : List ℕ) (g : Glyph) (gs : Glyphs)
    → length (emit_by gdef to ps g gs).rest ≤ length gs
emit_by_short gdef to [] g gs = omega arith
emit_by_short gdef to (p ∷ ps) g gs = let q = last_of p ps in
    omega (arith, flood_long (glyph_at (g ∷ gs) q).cluster g.cluster (drop q gs), length-drop q gs)

pub emit_short : (gdef : List ℕ) (o : FittingLigature) (g : Glyph) (gs : Glyphs) → length (emit gdef o g gs).rest ≤ length gs
emit_short gdef None g gs = omega arith
emit_short gdef (Some it) g gs = emit_by_short gdef it.0 it.1 g gs

pub enough : (gdef : List ℕ) (fits : Glyphs → FittingLigature) (n m : ℕ) (gs : Glyphs) → length gs ≤ n → length gs ≤ m
    → model gdef fits n gs ≡ model gdef fits m gs
enough gdef fits zero zero gs one two = refl
enough gdef fits zero (suc m) [] one two = refl
enough gdef fits zero (suc m) (g ∷ gs) one two = absurd (omega (arith, one))
enough gdef fits (suc n) zero [] one two = refl
enough gdef fits (suc n) zero (g ∷ gs) one two = absurd (omega (arith, two))
enough gdef fits (suc n) (suc m) [] one two = refl
enough gdef fits (suc n) (suc m) (g ∷ gs) one two =
    let it = emit gdef (fits (g ∷ gs)) g gs in
    let short = emit_short gdef (fits (g ∷ gs)) g gs in
    ap (λ l. it.made ++ l) (enough gdef fits n m it.rest (omega (arith, short, one)) (omega (arith, short, two)))

-- the glyphs of a ligature, and those behind it
abbrev pub top_of : Glyph → Glyphs → ℕ
top_of g front = (glyph_at (g ∷ front) (length front)).cluster

pub emit_parts : (gdef : List ℕ) (to p : ℕ) (ps : List ℕ) (g : Glyph) (front behind : Glyphs) → length front ≡ last_of p ps
    → emit_by gdef to (p ∷ ps) g (front ++ behind) ≡ record {
      made = stretch_joined gdef (number_of (stretch_merged g front) (p ∷ ps)) (p ∷ ps) to (stretch_merged g front);
      rest = flooded (top_of g front) g.cluster behind;
    }
emit_parts gdef to p ps g front behind long =
    let q = last_of p ps in
    let made : Glyphs → Glyphs → Glyph → Emitted = λ x y z. record {
      made = stretch_joined gdef (number_of (stretch_merged g x) (p ∷ ps)) (p ∷ ps) to (stretch_merged g x);
      rest = flooded z.cluster g.cluster y;
    } in
    let lt : q < length (g ∷ front) = omega (arith, long) in
    ap (λ x. made x (drop q (front ++ behind)) (glyph_at (g ∷ (front ++ behind)) q)) (take_at front behind q long)
    ∙ ap (λ y. made front y (glyph_at (g ∷ (front ++ behind)) q)) (drop_at front behind q long)
    ∙ ap (made front behind) (get_or_append_left (g ∷ front) behind default_glyph q lt ∙ ap (glyph_at (g ∷ front)) (sym long))

-- in order: no glyph's cluster is above the last one's, nor that above those behind
top_above : (g : Glyph) (front : Glyphs) → AreOrdered (g ∷ front)
    → AllByRecursion (λ a. a.cluster ≤ top_of g front) (g ∷ front)
top_above g [] order = (omega arith, tt)
top_above g (a ∷ front) order =
    let rest = top_above a front order.1 in
    (omega (arith, order.0.0.0, rest.0), rest)

top_below : (g : Glyph) (front behind : Glyphs) → AreOrdered (g ∷ (front ++ behind))
    → AllByRecursion (λ a. top_of g front ≤ a.cluster) behind
top_below g [] behind order =
    all_weaker (PrecedesInOrder g) (λ (a : Glyph). g.cluster ≤ a.cluster) (λ a p. p.0) behind order.0
top_below g (a ∷ front) behind order = top_below a front behind order.1

ordered_front : (xs ys : Glyphs) → AreOrdered (xs ++ ys) → AreOrdered xs
ordered_front [] ys order = tt
ordered_front (x ∷ xs) ys order = (all_front (PrecedesInOrder x) xs ys order.0, ordered_front xs ys order.1)

ordered_back : (xs ys : Glyphs) → AreOrdered (xs ++ ys) → AreOrdered ys
ordered_back [] ys order = order
ordered_back (x ∷ xs) ys order = ordered_back xs ys order.1

pub climbs_last : (at : ℕ) (ps : List ℕ) (end : ℕ) → at < end → Climbs at ps end
    → (at ≤ last_of at ps) × ((last_of at ps < end) × AllByRecursion (λ q. q ≤ last_of at ps) ps)
climbs_last at [] end lt climbs = (omega arith, (lt, tt))
climbs_last at (p ∷ ps) end lt climbs =
    let rest = climbs_last p ps end climbs.1.0 climbs.1.1 in
    (omega (arith, climbs.0, rest.0), (rest.1.0, (rest.0, rest.1.1)))

component_kept_by : (c : ℕ) (g : Glyph) (b : Bool) → (g.cluster == c) ≡ b → component g.lig_props ≡ 0
    → component (in_cluster c g).lig_props ≡ 0
component_kept_by c g true e is = rw e is
component_kept_by c g false e is = rw e is

pub component_kept : (c : ℕ) (g : Glyph) → component g.lig_props ≡ 0 → component (in_cluster c g).lig_props ≡ 0
component_kept c g e = component_kept_by c g (g.cluster == c) refl e

-- ---- THE CUTS of what the model makes

pub record CutFrom (gdef : List ℕ) (fits : Glyphs → FittingLigature) (gs front back : Glyphs) : Type 0 where
  pub before : Glyphs
  pub behind : Glyphs
  pub parts : gs ≡ before ++ behind
  pub border : IsBorder before behind
  pub some_in_front : 0 < length front → 0 < length before
  pub some_behind : 0 < length behind
  pub first : (n : ℕ) → length before ≤ n → model gdef fits n before ≡ front
  pub second : (n : ℕ) → length behind ≤ n → model gdef fits n behind ≡ back

pub split : (xs ys us vs : Glyphs) → xs ++ ys ≡ us ++ vs
    → ((w : Glyphs) × ((us ≡ xs ++ w) × (ys ≡ w ++ vs)))
    ⊎ ((w : Glyphs) × ((0 < length w) × ((xs ≡ us ++ w) × (vs ≡ w ++ ys))))
split [] ys us vs e = inl (us, (refl, e))
split (x ∷ xs) ys [] vs e = inr (x ∷ xs, (omega arith, (refl, sym e)))
split (x ∷ xs) ys (u ∷ us) vs e =
    let is : x ≡ u = ap head_of e in
    elim (split xs ys us vs (ap (drop 1) e)) [
      | inl it ↦ inl (it.0, (ap (λ g. g ∷ us) (sym is) ∙ ap (λ l. x ∷ l) it.1.0, it.1.1))
      | inr it ↦ inr (it.0, (it.1.0, (ap (λ l. x ∷ l) it.1.1.0 ∙ ap (λ g. g ∷ (us ++ it.0)) is, it.1.1.1)))
    ]

first_cluster_of : (gs : Glyphs) (c m : ℕ) → HasFirst gs c m → first_cluster gs ≡ c
first_cluster_of gs c m first = ap first_cluster first.is ∙ first.cluster

model_cluster : (gdef : List ℕ) (fits : Glyphs → FittingLigature) → IsFitting fits → (gs back : Glyphs) → 0 < length gs
    → HasNoComponents gs → model gdef fits (length gs) gs ≡ back → first_cluster back ≡ first_cluster gs
model_cluster gdef fits are [] back some none e = absurd (omega (arith, some))
model_cluster gdef fits are (g ∷ gs) back some none e = ap first_cluster (sym e)
    ∙ first_cluster_of (model gdef fits (length (g ∷ gs)) (g ∷ gs)) g.cluster g.mask
    (model_first gdef fits are (length (g ∷ gs)) g gs (omega arith) none)

-- nothing in front: the text itself, whose first glyph has the flags of what is made of it
unsafe_first : (c : ℕ) (x : Glyph) (xs : Glyphs) → x.cluster ≡ c
    → AllByRecursion (λ g. g.cluster ≡ c → is_unsafe g ≡ false) (x ∷ xs) → is_unsafe x ≡ false
unsafe_first c x xs is all = all.0 is

clear_by : (g h : Glyph) (b : Bool) → is_unsafe h ≡ b → (is_unsafe h ≡ true → ⊥) → is_unsafe h ≡ false
clear_by g h true e not_so = absurd (not_so e)
clear_by g h false e not_so = e

clear_all : (g : Glyph) (gs : Glyphs) → is_unsafe g ≡ false → AllByRecursion (PrecedesInOrder g) gs
    → AllByRecursion (λ h. h.cluster ≡ g.cluster → is_unsafe h ≡ false) gs
clear_all g gs safe before = all_weaker (PrecedesInOrder g) (λ (h : Glyph). h.cluster ≡ g.cluster → is_unsafe h ≡ false)
    (λ h stands same. clear_by g h (is_unsafe h) refl (λ unsafe. absurd (false≢true (sym safe ∙ stands.1 (sym same) unsafe)))) gs before

cut_nothing : (gdef : List ℕ) (fits : Glyphs → FittingLigature) → IsFitting fits → (n : ℕ) (gs back : Glyphs) → length gs ≤ n
    → AreOrdered gs → HasNoComponents gs → model gdef fits n gs ≡ back → 0 < length back → IsBorder [] back
    → CutFrom gdef fits gs [] back
cut_nothing gdef fits are n [] back few order none e some border =
    absurd (omega (arith, some, ap length e, ap length (enough gdef fits n 0 [] (omega arith) (omega arith))))
cut_nothing gdef fits are zero (g ∷ gs) back few order none e some border = absurd (omega (arith, few))
cut_nothing gdef fits are (suc n) (g ∷ gs) back few order none e some border =
    let first = model_first gdef fits are (suc n) g gs (omega arith) none in
    let is : back ≡ first.first ∷ first.rest = sym e ∙ first.is in
    let cluster : first_cluster back ≡ g.cluster = ap first_cluster is ∙ first.cluster in
    let clear = subst (λ l. AllByRecursion (λ h. h.cluster ≡ first_cluster back → is_unsafe h ≡ false) l) is border.clear in
    let safe : is_unsafe g ≡ false = ap (λ m. (bit_at 0 m == 1) || (bit_at 2 m == 1)) (sym first.mask)
    ∙ clear.0 (first.cluster ∙ sym cluster) in
    record {
      before = [];
      behind = g ∷ gs;
      parts = refl;
      border = record { lower = tt; clear = (λ same. safe, clear_all g gs safe order.0) };
      some_in_front = λ lt. absurd (omega (arith, lt));
      some_behind = omega arith;
      first = λ m le. enough gdef fits m 0 [] (omega arith) (omega arith);
      second = λ m le. enough gdef fits m (suc n) (g ∷ gs) le few ∙ e;
    }

-- what is cut in the rest that a step leaves
abbrev pub CutsRest : List ℕ → (Glyphs → FittingLigature) → ℕ → Glyphs → Type 0
CutsRest gdef fits n back = (rest front : Glyphs) → length rest ≤ n → AreOrdered rest → HasNoComponents rest
    → model gdef fits n rest ≡ front ++ back → IsBorder front back → CutFrom gdef fits rest front back

rest_border : (made w back : Glyphs) → IsBorder (made ++ w) back → IsBorder w back
rest_border made w back border = record {
  lower = all_back (λ g. g.cluster < first_cluster back) made w border.lower;
  clear = border.clear;
}

cut_cluster : (gdef : List ℕ) (fits : Glyphs → FittingLigature) → IsFitting fits → (rest front back : Glyphs) → HasNoComponents rest
    → (it : CutFrom gdef fits rest front back) → first_cluster back ≡ first_cluster it.behind
cut_cluster gdef fits are rest front back none it =
    model_cluster gdef fits are it.behind back it.some_behind
    (all_back (λ (g : Glyph). component g.lig_props ≡ 0) it.before it.behind (subst HasNoComponents it.parts none))
    (it.second (length it.behind) (omega arith))

-- the first glyph is below the border
above_first : (made w back : Glyphs) (c m : ℕ) → HasFirst made c m → IsBorder (made ++ w) back → c < first_cluster back
above_first made w back c m first border =
    let all = subst (λ l. AllByRecursion (λ g. g.cluster < first_cluster back) l)
    (ap (λ l. l ++ w) first.is) border.lower in
    subst (λ k. k < first_cluster back) first.cluster all.0

single_first : (gdef : List ℕ) (fits : Glyphs → FittingLigature) (m : ℕ) (g : Glyph) (before w made : Glyphs) (o : FittingLigature)
    → ((xs : Glyphs) → emit gdef o g xs ≡ record { made = made; rest = xs }) → fits (g ∷ before) ≡ o
    → length (g ∷ before) ≤ m → ((k : ℕ) → length before ≤ k → model gdef fits k before ≡ w)
    → model gdef fits m (g ∷ before) ≡ made ++ w
single_first gdef fits zero g before w made o emits fitted le on = absurd (omega (arith, le))
single_first gdef fits (suc k) g before w made o emits fitted le on =
    ap (λ (x : FittingLigature). (emit gdef x g before).made ++ model gdef fits k (emit gdef x g before).rest) fitted
    ∙ ap (λ (x : Emitted). x.made ++ model gdef fits k x.rest) (emits before)
    ∙ ap (λ l. made ++ l) (on k (omega (arith, le)))

-- behind a glyph that stays, or is put in for one
cut_single : (gdef : List ℕ) (fits : Glyphs → FittingLigature) → IsFitting fits → (n : ℕ) (g : Glyph) (gs w back made : Glyphs) (o : FittingLigature)
    → ((xs : Glyphs) → emit gdef o g xs ≡ record { made = made; rest = xs })
    → ((xs ys : Glyphs) → HasNoComponents (g ∷ (xs ++ ys)) → fits (g ∷ (xs ++ ys)) ≡ o → fits (g ∷ xs) ≡ o)
    → HasFirst made g.cluster g.mask → length (g ∷ gs) ≤ suc n → AreOrdered (g ∷ gs) → HasNoComponents (g ∷ gs)
    → fits (g ∷ gs) ≡ o → model gdef fits n gs ≡ w ++ back → IsBorder (made ++ w) back → CutsRest gdef fits n back
    → CutFrom gdef fits (g ∷ gs) (made ++ w) back
cut_single gdef fits are n g gs w back made o emits keeps first few order none e is border on =
    let it = on gs w (omega (arith, few)) order.1 none.1 is (rest_border made w back border) in
    let above = above_first made w back g.cluster g.mask first border in
    let cluster = cut_cluster gdef fits are gs w back none.1 it in
    let whole : g ∷ gs ≡ g ∷ (it.before ++ it.behind) = ap (λ l. g ∷ l) it.parts in
    let fitted : fits (g ∷ it.before) ≡ o = keeps it.before it.behind (subst HasNoComponents whole none)
    (ap fits (sym whole) ∙ e) in
    record {
      before = g ∷ it.before;
      behind = it.behind;
      parts = whole;
      border = record { lower = (subst (λ k. g.cluster < k) cluster above, it.border.lower); clear = it.border.clear };
      some_in_front = λ lt. omega arith;
      some_behind = it.some_behind;
      first = λ m le. single_first gdef fits m g it.before w made o emits fitted le it.first;
      second = it.second;
    }

ligature_first : (gdef : List ℕ) (fits : Glyphs → FittingLigature) (m to p : ℕ) (ps : List ℕ) (g : Glyph) (front behind flood w made : Glyphs)
    → length front ≡ last_of p ps
    → made ≡ stretch_joined gdef (number_of (stretch_merged g front) (p ∷ ps)) (p ∷ ps) to (stretch_merged g front)
    → fits (g ∷ (front ++ behind)) ≡ Some (to, p ∷ ps) → flooded (top_of g front) g.cluster behind ≡ flood
    → length (g ∷ (front ++ behind)) ≤ m → ((k : ℕ) → length flood ≤ k → model gdef fits k flood ≡ w)
    → model gdef fits m (g ∷ (front ++ behind)) ≡ made ++ w
ligature_first gdef fits zero to p ps g front behind flood w made long is fitted floods le on = absurd (omega (arith, le))
ligature_first gdef fits (suc k) to p ps g front behind flood w made long is fitted floods le on =
    let short : length flood ≤ k = omega (
      arith,
      le,
      length-append front behind,
      ap length floods,
      flood_long (top_of g front) g.cluster behind,
    ) in
    ap (λ (x : FittingLigature). (emit gdef x g (front ++ behind)).made ++ model gdef fits k (emit gdef x g (front ++ behind)).rest) fitted
    ∙ ap (λ (x : Emitted). x.made ++ model gdef fits k x.rest) (emit_parts gdef to p ps g front behind long)
    ∙ ap (λ l. l ++ model gdef fits k (flooded (top_of g front) g.cluster behind)) (sym is)
    ∙ ap (λ l. made ++ model gdef fits k l) floods ∙ ap (λ l. made ++ l) (on k short)

-- behind a ligature
cut_ligature : (gdef : List ℕ) (fits : Glyphs → FittingLigature) → IsFitting fits → (n to p : ℕ) (ps : List ℕ) (g : Glyph)
    (front behind w back made : Glyphs) → length front ≡ last_of p ps
    → made ≡ stretch_joined gdef (number_of (stretch_merged g front) (p ∷ ps)) (p ∷ ps) to (stretch_merged g front)
    → HasFirst made g.cluster g.mask → length (g ∷ (front ++ behind)) ≤ suc n → AreOrdered (g ∷ (front ++ behind))
    → HasNoComponents (g ∷ (front ++ behind)) → fits (g ∷ (front ++ behind)) ≡ Some (to, p ∷ ps)
    → model gdef fits n (flooded (top_of g front) g.cluster behind) ≡ w ++ back → IsBorder (made ++ w) back
    → CutsRest gdef fits n back → CutFrom gdef fits (g ∷ (front ++ behind)) (made ++ w) back
cut_ligature gdef fits are n to p ps g front behind w back made long is_made first few order none e is border on =
    let top = top_of g front in
    let rest = flooded top g.cluster behind in
    let IsFree : Glyph → Type 0 = λ x. component x.lig_props ≡ 0 in
    let top_low : g.cluster ≤ top = (top_above g front (ordered_front (g ∷ front) behind order)).0 in
    let order_behind = ordered_back (g ∷ front) behind order in
    let low_behind = top_below g front behind order in
    let none_behind = all_back IsFree (g ∷ front) behind none in
    let rest_none : HasNoComponents rest = flood_all IsFree top g.cluster (component_kept g.cluster) behind none_behind in
    let it = on rest w (omega (arith, few, length-append front behind, flood_long top g.cluster behind))
    (flood_ordered g.cluster top top_low behind low_behind order_behind) rest_none is (rest_border made w back border) in
    let above = above_first made w back g.cluster g.mask first border in
    let cluster = cut_cluster gdef fits are rest w back rest_none it in
    let over : g.cluster < first_cluster it.behind = subst (λ k. g.cluster < k) cluster above in
    let un = unflood top g.cluster behind it.before it.behind order_behind low_behind it.parts it.some_behind
    (λ same. absurd (omega (arith, same, over))) in
    let before : Glyphs = front ++ un.before in
    let whole : front ++ behind ≡ before ++ it.behind = ap (λ l. front ++ l) un.parts
    ∙ sym (append_assoc front un.before it.behind) in
    let climbs = are.climbs (g ∷ (front ++ behind)) (to, p ∷ ps) none e in
    let last = climbs_last p ps (length (g ∷ (front ++ behind))) climbs.1.0 climbs.1.1 in
    let here : AllByRecursion (λ q. q < length (g ∷ before)) (p ∷ ps) = all_weaker (λ q. q ≤ last_of p ps)
    (λ q. q < length (g ∷ before)) (λ q le. omega (arith, le, long, length-append front un.before)) (p ∷ ps) (last.0, last.1.1) in
    let fitted : fits (g ∷ before) ≡ Some (to, p ∷ ps) = are.some g before it.behind (to, p ∷ ps)
    (subst (λ l. HasNoComponents (g ∷ l)) whole none) (ap (λ l. fits (g ∷ l)) (sym whole) ∙ e) here in
    record {
      before = g ∷ before;
      behind = it.behind;
      parts = ap (λ l. g ∷ l) whole;
      border = record {
        lower = all-append (λ x. x.cluster < first_cluster it.behind) (g ∷ front) un.before
            (all_weaker (λ (x : Glyph). x.cluster ≤ top) (λ (x : Glyph). x.cluster < first_cluster it.behind)
            (λ x le. omega (arith, le, un.above)) (g ∷ front) (top_above g front (ordered_front (g ∷ front) behind order)))
            (un.lower it.border.lower);
        clear = it.border.clear;
      };
      some_in_front = λ lt. omega arith;
      some_behind = it.some_behind;
      first = λ m le. ligature_first gdef fits m to p ps g front un.before it.before w made long is_made fitted un.floods
          (omega (arith, le)) it.first;
      second = it.second;
    }

cut_by : (gdef : List ℕ) (fits : Glyphs → FittingLigature) → IsFitting fits → (n : ℕ) (g : Glyph) (gs w back : Glyphs) (o : FittingLigature)
    → fits (g ∷ gs) ≡ o → length (g ∷ gs) ≤ suc n → AreOrdered (g ∷ gs) → HasNoComponents (g ∷ gs)
    → model gdef fits n (emit gdef o g gs).rest ≡ w ++ back → IsBorder ((emit gdef o g gs).made ++ w) back
    → CutsRest gdef fits n back → CutFrom gdef fits (g ∷ gs) ((emit gdef o g gs).made ++ w) back
cut_by gdef fits are n g gs w back None e few order none is border on =
    cut_single gdef fits are n g gs w back (g ∷ []) None (λ xs. refl) (λ xs ys. are.none g xs ys)
    (emit_first gdef fits are None g gs none e) few order none e is border on
cut_by gdef fits are n g gs w back (Some (to, [])) e few order none is border on =
    cut_single gdef fits are n g gs w back (replaced gdef to 0 g ∷ []) (Some (to, [])) (λ xs. refl)
    (λ xs ys free found. are.some g xs ys (to, []) free found tt)
    (emit_first gdef fits are (Some (to, [])) g gs none e) few order none e is border on
cut_by gdef fits are n g gs w back (Some (to, p ∷ ps)) e few order none is border on =
    let q = last_of p ps in
    let climbs = are.climbs (g ∷ gs) (to, p ∷ ps) none e in
    let last = climbs_last p ps (length (g ∷ gs)) climbs.1.0 climbs.1.1 in
    let long : length (take q gs) ≡ q = length-take-le q gs (omega (arith, last.1.0)) in
    let whole : gs ≡ take q gs ++ drop q gs = sym (take-append-drop q gs) in
    let first = emit_first gdef fits are (Some (to, p ∷ ps)) g gs none e in
    let made = (emit gdef (Some (to, p ∷ ps)) g gs).made in
    let emitted : emit_by gdef to (p ∷ ps) g gs ≡ record {
      made = stretch_joined gdef (number_of (stretch_merged g (take q gs)) (p ∷ ps)) (p ∷ ps) to (stretch_merged g (take q gs));
      rest = flooded (top_of g (take q gs)) g.cluster (drop q gs);
    } = ap (emit_by gdef to (p ∷ ps) g) whole ∙ emit_parts gdef to p ps g (take q gs) (drop q gs) long in
    subst (λ l. CutFrom gdef fits (g ∷ l) (made ++ w) back) (sym whole)
    (cut_ligature gdef fits are n to p ps g (take q gs) (drop q gs) w back made long refl first
    (subst (λ l. length (g ∷ l) ≤ suc n) whole few) (subst (λ l. AreOrdered (g ∷ l)) whole order)
    (subst (λ l. HasNoComponents (g ∷ l)) whole none) (subst (λ l. fits (g ∷ l) ≡ Some (to, p ∷ ps)) whole e)
    (ap (λ (x : Emitted). model gdef fits n x.rest) (sym emitted) ∙ is) border on)

no_middle : (c m : ℕ) (made front w back ys : Glyphs) → InCluster c made → 0 < length front → 0 < length w
    → made ≡ front ++ w → back ≡ w ++ ys → IsBorder front back → ⊥
no_middle c m made [] w back ys all some more parts is border = absurd (omega (arith, some))
no_middle c m made (f ∷ fs) [] back ys all some more parts is border = absurd (omega (arith, more))
no_middle c m made (f ∷ fs) (x ∷ w) back ys all some more parts is border =
    let each = subst (InCluster c) parts all in
    let other = (all_back (λ (g : Glyph). g.cluster ≡ c) (f ∷ fs) (x ∷ w) each).0 in
    let cluster : first_cluster back ≡ x.cluster = ap first_cluster is in
    absurd (omega (arith, each.0, other, cluster, border.lower.0))

-- where what the model makes of a text in order has a border, the text has one, and the parts are made of its parts
pub cut_model : (gdef : List ℕ) (fits : Glyphs → FittingLigature) → IsFitting fits → (n : ℕ) (gs front back : Glyphs) → length gs ≤ n
    → AreOrdered gs → HasNoComponents gs → model gdef fits n gs ≡ front ++ back → 0 < length back → IsBorder front back
    → CutFrom gdef fits gs front back
cut_model gdef fits are n gs [] back few order none e some border =
    cut_nothing gdef fits are n gs back few order none e some border
cut_model gdef fits are zero gs (f ∷ fs) back few order none e some border =
    absurd (omega (arith, few, ap length e, length-append (f ∷ fs) back))
cut_model gdef fits are (suc n) [] (f ∷ fs) back few order none e some border =
    absurd (omega (arith, ap length e, length-append (f ∷ fs) back))
cut_model gdef fits are (suc n) (g ∷ gs) (f ∷ fs) back few order none e some border =
    let o = fits (g ∷ gs) in
    let it = emit gdef o g gs in
    elim (split it.made (model gdef fits n it.rest) (f ∷ fs) back e) [
      | inl w ↦ subst (λ l. CutFrom gdef fits (g ∷ gs) l back) (sym w.1.0)
          (cut_by gdef fits are n g gs w.0 back o refl few order none w.1.1 (subst (λ l. IsBorder l back) w.1.0 border)
          (λ rest front short ordered free is edge. cut_model gdef fits are n rest front back short ordered free is some edge))
      | inr w ↦ absurd (no_middle g.cluster g.mask it.made (f ∷ fs) w.0 back (model gdef fits n it.rest) (emit_in gdef o g gs)
          (omega arith) w.1.0 w.1.1.0 w.1.1.1 border)
    ]

-- ---- WHAT A STEP LEAVES BEHIND is in order, and of no component

pub record StaysSo (gs : Glyphs) : Type 0 where
  pub order : AreOrdered gs
  pub none : HasNoComponents gs

ligature_stays : (gdef : List ℕ) (to p : ℕ) (ps : List ℕ) (g : Glyph) (front behind : Glyphs) → length front ≡ last_of p ps
    → AreOrdered (g ∷ (front ++ behind)) → HasNoComponents (g ∷ (front ++ behind))
    → StaysSo (emit_by gdef to (p ∷ ps) g (front ++ behind)).rest
ligature_stays gdef to p ps g front behind long order none =
    let top = top_of g front in
    let low = (top_above g front (ordered_front (g ∷ front) behind order)).0 in
    subst (λ (x : Emitted). StaysSo x.rest) (sym (emit_parts gdef to p ps g front behind long)) (record {
      order = flood_ordered g.cluster top low behind (top_below g front behind order) (ordered_back (g ∷ front) behind order);
      none = flood_all (λ x. component x.lig_props ≡ 0) top g.cluster (component_kept g.cluster) behind
          (all_back (λ (x : Glyph). component x.lig_props ≡ 0) (g ∷ front) behind none);
    })

emit_by_stays : (gdef : List ℕ) (to : ℕ) (ps : List ℕ) (g : Glyph) (gs : Glyphs) → Climbs 0 ps (length (g ∷ gs))
    → AreOrdered (g ∷ gs) → HasNoComponents (g ∷ gs) → StaysSo (emit_by gdef to ps g gs).rest
emit_by_stays gdef to [] g gs climbs order none = record { order = order.1; none = none.1 }
emit_by_stays gdef to (p ∷ ps) g gs climbs order none =
    let q = last_of p ps in
    let last = climbs_last p ps (length (g ∷ gs)) climbs.1.0 climbs.1.1 in
    let long : length (take q gs) ≡ q = length-take-le q gs (omega (arith, last.1.0)) in
    let whole : take q gs ++ drop q gs ≡ gs = take-append-drop q gs in
    subst (λ l. StaysSo (emit_by gdef to (p ∷ ps) g l).rest) whole
    (ligature_stays gdef to p ps g (take q gs) (drop q gs) long (subst (λ l. AreOrdered (g ∷ l)) (sym whole) order)
    (subst (λ l. HasNoComponents (g ∷ l)) (sym whole) none))

pub emit_stays : (gdef : List ℕ) (fits : Glyphs → FittingLigature) → IsFitting fits → (o : FittingLigature) (g : Glyph) (gs : Glyphs)
    → fits (g ∷ gs) ≡ o → AreOrdered (g ∷ gs) → HasNoComponents (g ∷ gs) → StaysSo (emit gdef o g gs).rest
emit_stays gdef fits are None g gs e order none = record { order = order.1; none = none.1 }
emit_stays gdef fits are (Some it) g gs e order none =
    emit_by_stays gdef it.0 it.1 g gs (are.climbs (g ∷ gs) it none e) order none
