-- A ligature that comes in behind other glyphs leaves these, and makes of the rest what it makes of that alone.
use Rattle.std.proofs.Common.{ℕ, zero, suc, ◌+◌, ◌-◌, ◌<◌, ◌≤◌, ◌≡◌, ◌==◌, ◌&&◌, ◌||◌, not, min, nat_lt, if◌then◌else◌, Bool, true, false, List, [], ◌∷◌, ◌++◌, length, map, take, drop, set, reverse, fold, slice_index, refl, sym, ap, ◌∙◌, arith}
use Rattle.std.specs.List.{AllByRecursion, list_any, remove}
use Rattle.std.proofs.lemmas.Bool.Decides.{nat_tests}
use Rattle.std.proofs.lemmas.List.{drop_at, drop-drop, get_or-append-add, get_or_append_left, length-map, length-set, reverse-reverse, set-append_left, set-append_right, take_at}
use Rattle.shapers_buffer.specs.Clusters.{first_cluster, flooded, in_cluster, last_cluster, least, merge, merges, stretch_of}
use Rattle.shapers_buffer.specs.Glyph.{clusters, default_glyph}
use Rattle.shapers_buffer.specs.Glyphs.{Glyph, Glyphs}
use Rattle.shapers_buffer.specs.Properties.{component}
use Rattle.shapers_buffer.specs.declared.buffer.level.BufferClusterLevel.{BufferClusterLevel}
use Rattle.shapers_buffer.proofs.ClusterLemmas.{flood_merged, flooded_itself, last-read, merge_is}
use Rattle.opentype_layout.specs.Text.{glyph_at}
use Rattle.opentype_gsub.specs.Edits.{last_place, merged_up_to, removed_all}
use Rattle.opentype_gsub.specs.Ligated.{Marked, as_mark, counted_too, followed_by_marks, is_of_last, is_of_marks, ligated, ligature_glyph, ligature_joined, ligature_number, marked_one, marks_inside, nothing_counted, number_for, with_followers}
use Rattle.opentype_gsub.specs.declared.ligating.Counted.{Counted}
use Rattle.opentype_break_laws.specs.OrderedTexts.{PrecedesInOrder}
use Rattle.opentype_break_laws.proofs.LigatureFits.{Climbs, places_behind}
use Rattle.opentype_break_laws.proofs.LigatureModel.{component_kept, flood_all, stretch_joined, last_of, marks_long, stretch_merged, top_of}

-- ---- THE LAST PLACE

pub last_read : (x : ℕ) (xs : List ℕ) → slice_index (x ∷ xs) (length xs) ≡ last_of x xs
last_read x [] = refl
last_read x (z ∷ zs) = last_read z zs

pub last_moved : (from x : ℕ) (xs : List ℕ) → last_of (from + x) (places_behind from xs) ≡ from + last_of x xs
last_moved from x [] = refl
last_moved from x (z ∷ zs) = last_moved from z zs

pub last_place_moved : (from p : ℕ) (ps : List ℕ) → last_place from (places_behind from (p ∷ ps)) ≡ from + last_of p ps
last_place_moved from p ps =
    let one : length (places_behind from (p ∷ ps)) - 1 ≡ length (places_behind from ps) = omega arith in
    let some : (length (places_behind from (p ∷ ps)) == 0) ≡ false = grind (arith, nat_tests) in
    ap (λ b. if b then from else slice_index (places_behind from (p ∷ ps)) (length (places_behind from (p ∷ ps)) - 1)) some
    ∙ ap (slice_index (places_behind from (p ∷ ps))) one ∙ last_read (from + p) (places_behind from ps) ∙ last_moved from p ps

-- ---- THE MERGE

least_first : (c : ℕ) (cs : List ℕ) → AllByRecursion (λ k. c ≤ k) cs → fold min c cs ≡ c
least_first c [] all = refl
least_first c (k ∷ ks) all =
    let is : min c k ≡ c = omega (arith, all.0) in
    ap (λ m. fold min m ks) is ∙ least_first c ks all.1

clusters_above : (g : Glyph) (gs : Glyphs) → AllByRecursion (PrecedesInOrder g) gs
    → AllByRecursion (λ k. g.cluster ≤ k) (clusters gs)
clusters_above g [] all = tt
clusters_above g (h ∷ hs) all = (all.0.0, clusters_above g hs all.1)

-- what a merge makes of a stretch in order, and of what stands around it
pub merged_behind : (level : BufferClusterLevel) (out : Glyphs) (y : Glyph) (front behind : Glyphs) → merges level ≡ true
    → least (clusters (y ∷ front)) ≡ y.cluster → 0 < length front
    → merge level (length out) (length out + length front + 1) (out ++ (y ∷ (front ++ behind)))
    ≡ out ++ (stretch_merged y front ++ flooded (top_of y front) y.cluster behind)
merged_behind level out y front behind merging low some =
    let a = length out in
    let e = a + length front + 1 in
    let middle : Glyphs = y ∷ front in
    let whole : Glyphs = out ++ (middle ++ behind) in
    let wide : e - a ≡ length middle = omega arith in
    let on : e ≡ a + length middle = omega arith in
    let dropped : drop a whole ≡ middle ++ behind = drop_at out (middle ++ behind) a refl in
    let stretch : stretch_of a e whole ≡ middle = ap (λ n. take n (drop a whole)) wide ∙ ap (take (length middle)) dropped
    ∙ take_at middle behind (length middle) refl in
    let before : take a whole ≡ out = take_at out (middle ++ behind) a refl in
    let after : drop e whole ≡ behind = ap (λ n. drop n whole) on ∙ sym (drop-drop (length middle) a whole)
    ∙ ap (drop (length middle)) dropped ∙ drop_at middle behind (length middle) refl in
    let test : (merges level && not (nat_lt (e - a) 2)) ≡ true = ap (λ b. b && not (nat_lt (e - a) 2)) merging
    ∙ grind (arith, nat_tests) in
    let made : Glyphs → Glyphs → Glyphs → Glyphs = λ x m z. reverse (flooded (first_cluster m) (least (clusters m)) (reverse x))
    ++ (map (in_cluster (least (clusters m))) m ++ flooded (last_cluster m) (least (clusters m)) z) in
    let low_made : ℕ → Glyphs = λ k. reverse (flooded y.cluster k (reverse out))
    ++ (map (in_cluster k) middle ++ flooded (last_cluster middle) k behind) in
    let top : last_cluster middle ≡ top_of y front = sym (last-read middle (omega arith))
    ∙ (let n : length middle - 1 ≡ length front = omega arith in ap (λ i. (glyph_at middle i).cluster) n) in
    merge_is level a e whole ∙ ap (λ b. if b then flood_merged a e whole else whole) test
    ∙ ap (λ m. made (take a whole) m (drop e whole)) stretch ∙ ap (λ x. made x middle (drop e whole)) before
    ∙ ap (made out middle) after ∙ ap low_made low
    ∙ ap (λ l. reverse l ++ (stretch_merged y front ++ flooded (last_cluster middle) y.cluster behind)) (flooded_itself y.cluster (reverse out))
    ∙ ap (λ l. l ++ (stretch_merged y front ++ flooded (last_cluster middle) y.cluster behind)) (reverse-reverse out)
    ∙ ap (λ k. out ++ (stretch_merged y front ++ flooded k y.cluster behind)) top

-- ---- A STRETCH t among other glyphs

pub read_among : (out t rest : Glyphs) (i : ℕ) → i < length t → glyph_at (out ++ (t ++ rest)) (length out + i) ≡ glyph_at t i
read_among out t rest i lt = get_or-append-add out (t ++ rest) i default_glyph ∙ get_or_append_left t rest default_glyph i lt

set_among : (out t rest : Glyphs) (i : ℕ) (x : Glyph) → i < length t
    → set (out ++ (t ++ rest)) (length out + i) x ≡ out ++ (set t i x ++ rest)
set_among out t rest i x lt =
    let n : length out + i - length out ≡ i = omega arith in
    set-append_right out (t ++ rest) (length out) (length out + i) x refl (omega arith)
    ∙ ap (λ k. out ++ set (t ++ rest) k x) n ∙ ap (λ l. out ++ l) (set-append_left t rest i x lt)

remove_here : (t rest : Glyphs) (i : ℕ) → i < length t → remove (t ++ rest) i ≡ remove t i ++ rest
remove_here [] rest i lt = absurd (omega (arith, lt))
remove_here (g ∷ t) rest zero lt = refl
remove_here (g ∷ t) rest (suc i) lt = ap (λ l. g ∷ l) (remove_here t rest i (omega (arith, lt)))

remove_all : (out t rest : Glyphs) (i : ℕ) → i < length t
    → remove (out ++ (t ++ rest)) (length out + i) ≡ out ++ (remove t i ++ rest)
remove_all [] t rest i lt =
    let z : 0 + i ≡ i = omega arith in ap (remove (t ++ rest)) z ∙ remove_here t rest i lt
remove_all (g ∷ out) t rest i lt =
    let s : suc (length out) + i ≡ suc (length out + i) = omega arith in
    ap (remove (g ∷ (out ++ (t ++ rest)))) s ∙ ap (λ l. g ∷ l) (remove_all out t rest i lt)

pub remove_long : (t : Glyphs) (i : ℕ) → i < length t → length (remove t i) + 1 ≡ length t
remove_long [] i lt = absurd (omega (arith, lt))
remove_long (g ∷ t) zero lt = omega arith
remove_long (g ∷ t) (suc i) lt = omega (arith, remove_long t i (omega (arith, lt)))

remove_among : (out t rest : Glyphs) (i : ℕ) → i < length t
    → remove (out ++ (t ++ rest)) (length out + i) ≡ out ++ (remove t i ++ rest)
remove_among out t rest i lt = remove_all out t rest i lt

same_place : (from p i : ℕ) → (from + p == from + i) ≡ (p == i)
same_place from p i = grind (arith, nat_tests)

any_place : (from i : ℕ) (ps : List ℕ) → list_any (λ p. p == from + i) (places_behind from ps) ≡ list_any (λ p. p == i) ps
any_place from i [] = refl
any_place from i (p ∷ ps) = ap (λ b. b || list_any (λ q. q == from + i) (places_behind from ps)) (same_place from p i)
    ∙ ap (λ b. (p == i) || b) (any_place from i ps)

abbrev pub among : Glyphs → Glyphs → Marked → Marked
among out rest m = record { text = out ++ (m.text ++ rest); counted = m.counted }

if_among : (out rest : Glyphs) (test inner : Bool) (x y z : Marked)
    → (if test then among out rest x else (if inner then among out rest y else among out rest z))
    ≡ among out rest (if test then x else (if inner then y else z))
if_among out rest true inner x y z = refl
if_among out rest false true x y z = refl
if_among out rest false false x y z = refl

one_among : (number : ℕ) (ps : List ℕ) (out t rest : Glyphs) (i : ℕ) (c : Counted) → i < length t
    → marked_one number (places_behind (length out) ps) (out ++ (t ++ rest)) (length out + i) c
    ≡ among out rest (marked_one number ps t i c)
unfolding marked_one
one_among number ps out t rest i c lt =
    let whole : Glyphs = out ++ (t ++ rest) in
    let a = length out in
    let made : Bool → Glyph → Glyphs → Marked = λ b g x. if b then (let r : Marked = record { text = whole; counted = counted_too c g } in r)
    else (if number == 0 then (let r : Marked = record { text = whole; counted = c } in r) else record { text = x; counted = c }) in
    ap (λ b. made b (glyph_at whole (a + i)) (set whole (a + i) (as_mark number c (glyph_at whole (a + i))))) (any_place a i ps)
    ∙ ap (λ g. made (list_any (λ p. p == i) ps) g (set whole (a + i) (as_mark number c g))) (read_among out t rest i lt)
    ∙ ap (made (list_any (λ p. p == i) ps) (glyph_at t i)) (set_among out t rest i (as_mark number c (glyph_at t i)) lt)
    ∙ if_among out rest (list_any (λ p. p == i) ps) (number == 0) _ _ _

if_long : (n : ℕ) (test inner : Bool) (x y z : Marked) → length x.text ≡ n → length y.text ≡ n → length z.text ≡ n
    → length (if test then x else (if inner then y else z)).text ≡ n
if_long n true inner x y z one two three = one
if_long n false true x y z one two three = two
if_long n false false x y z one two three = three

one_as_long : (number : ℕ) (ps : List ℕ) (t : Glyphs) (i : ℕ) (c : Counted) → length (marked_one number ps t i c).text ≡ length t
unfolding marked_one
one_as_long number ps t i c = if_long (length t) (list_any (λ p. p == i) ps) (number == 0) _ _ _ refl refl
    (length-set t i (as_mark number c (glyph_at t i)))

marks_step : (n number : ℕ) (ps : List ℕ) (gs : Glyphs) (i : ℕ) (c : Counted) (m : Marked) → marked_one number ps gs i c ≡ m
    → marks_inside (suc n) number ps gs i c ≡ marks_inside n number ps m.text (i + 1) m.counted
unfolding marks_inside
marks_step n number ps gs i c m e = ap (λ (x : Marked). marks_inside n number ps x.text (i + 1) x.counted) e

marks_none : (number : ℕ) (ps : List ℕ) (gs : Glyphs) (i : ℕ) (c : Counted)
    → marks_inside 0 number ps gs i c ≡ record { text = gs; counted = c }
unfolding marks_inside
marks_none number ps gs i c = refl

marks_among : (n number : ℕ) (ps : List ℕ) (out t rest : Glyphs) (i : ℕ) (c : Counted) → i + n ≤ length t
    → marks_inside n number (places_behind (length out) ps) (out ++ (t ++ rest)) (length out + i) c
    ≡ among out rest (marks_inside n number ps t i c)
marks_among zero number ps out t rest i c le = marks_none number (places_behind (length out) ps) (out ++ (t ++ rest)) (length out + i) c
    ∙ ap (among out rest) (sym (marks_none number ps t i c))
marks_among (suc n) number ps out t rest i c le =
    let m = marked_one number ps t i c in
    let on : length out + i + 1 ≡ length out + (i + 1) = omega arith in
    marks_step n number (places_behind (length out) ps) (out ++ (t ++ rest)) (length out + i) c (among out rest m)
    (one_among number ps out t rest i c (omega (arith, le)))
    ∙ ap (λ k. marks_inside n number (places_behind (length out) ps) (out ++ (m.text ++ rest)) k m.counted) on
    ∙ marks_among n number ps out m.text rest (i + 1) m.counted (omega (arith, le, one_as_long number ps t i c))
    ∙ ap (among out rest) (sym (marks_step n number ps t i c m refl))

-- ---- NO FOLLOWERS, where the glyph behind is of no component

if_either : (test : Bool) (gs hs : Glyphs) → hs ≡ gs → (if test then gs else hs) ≡ gs
if_either true gs hs e = refl
if_either false gs hs e = e

and_none : (b : Bool) → (b && not true) ≡ false
and_none true = refl
and_none false = refl

not_last : (c : Counted) (g : Glyph) → component g.lig_props ≡ 0 → is_of_last c g ≡ false
unfolding is_of_last
not_last c g e = ap (λ n. (ligature_number g == c.number) && not (n == 0)) e ∙ and_none (ligature_number g == c.number)

not_followed : (n number : ℕ) (c : Counted) (gs : Glyphs) (i : ℕ) → component (glyph_at gs i).lig_props ≡ 0
    → followed_by_marks n number c gs i ≡ gs
unfolding followed_by_marks
not_followed zero number c gs i none = refl
not_followed (suc n) number c gs i none =
    ap (λ b. if b then followed_by_marks n number c (set gs i (as_mark number c (glyph_at gs i))) (i + 1) else gs)
    (not_last c (glyph_at gs i) none)

no_followers : (of_marks : Bool) (number : ℕ) (c : Counted) (gs : Glyphs) (from : ℕ)
    → component (glyph_at gs from).lig_props ≡ 0 → with_followers of_marks number c gs from ≡ gs
unfolding with_followers
no_followers of_marks number c gs from none = if_either (of_marks || (c.number == 0)) gs _
    (not_followed (length gs - from) number c gs from none)

-- ---- GLYPHS THAT GO

pub climbs_within : (at : ℕ) (ps : List ℕ) (t : Glyphs) (end : ℕ) → end ≡ length t → at < end → Climbs at ps end
    → at < length (removed_all ps t)
unfolding removed_all
climbs_within at [] t end e lt climbs = omega (arith, e, lt)
climbs_within at (p ∷ ps) t end e lt climbs =
    let inner = climbs_within p ps t end e climbs.1.0 climbs.1.1 in
    omega (arith, climbs.0, inner, remove_long (removed_all ps t) p inner)

removed_among : (ps : List ℕ) (at : ℕ) (out t rest : Glyphs) (end : ℕ) → end ≡ length t → Climbs at ps end
    → removed_all (places_behind (length out) ps) (out ++ (t ++ rest)) ≡ out ++ (removed_all ps t ++ rest)
unfolding removed_all
removed_among [] at out t rest end e climbs = refl
removed_among (p ∷ ps) at out t rest end e climbs =
    ap (λ l. remove l (length out + p)) (removed_among ps p out t rest end e climbs.1.1)
    ∙ remove_among out (removed_all ps t) rest p (climbs_within p ps t end e climbs.1.0 climbs.1.1)

-- ---- THE LIGATURE

free_at : (gs : Glyphs) (i : ℕ) → AllByRecursion (λ g. component g.lig_props ≡ 0) gs → component (glyph_at gs i).lig_props ≡ 0
free_at [] i all = refl
free_at (g ∷ gs) zero all = all.0
free_at (g ∷ gs) (suc i) all = free_at gs i all.1

free_behind : (out t rest : Glyphs) (i : ℕ) → i ≡ length out + length t → AllByRecursion (λ g. component g.lig_props ≡ 0) rest
    → component (glyph_at (out ++ (t ++ rest)) i).lig_props ≡ 0
free_behind out t rest i e all =
    let on : length out + length t ≡ length out + (length t + 0) = omega arith in
    ap (λ k. component (glyph_at (out ++ (t ++ rest)) k).lig_props) (e ∙ on)
    ∙ ap (λ (g : Glyph). component g.lig_props) (get_or-append-add out (t ++ rest) (length t + 0) default_glyph
    ∙ get_or-append-add t rest 0 default_glyph) ∙ free_at rest 0 all

climbs_up : (at : ℕ) (ps : List ℕ) (end : ℕ) → Climbs at ps end → at ≤ last_of at ps
climbs_up at [] end climbs = omega arith
climbs_up at (p ∷ ps) end climbs = omega (arith, climbs.0, climbs_up p ps end climbs.1.1)

climbs_some : (p : ℕ) (ps : List ℕ) (end : ℕ) → Climbs 0 (p ∷ ps) end → 0 < last_of p ps
climbs_some p ps end climbs = omega (arith, climbs.0, climbs_up p ps end climbs.1.1)

pub ligated_behind : (gdef : List ℕ) (level : BufferClusterLevel) (to p : ℕ) (ps : List ℕ) (out : Glyphs) (y : Glyph)
    (front behind : Glyphs) → merges level ≡ true → least (clusters (y ∷ front)) ≡ y.cluster → length front ≡ last_of p ps
    → Climbs 0 (p ∷ ps) (length (y ∷ front)) → AllByRecursion (λ g. component g.lig_props ≡ 0) behind
    → (let rest = flooded (top_of y front) y.cluster behind in
    let whole : Glyphs = out ++ (stretch_merged y front ++ rest) in
    ligated gdef level (length out) (places_behind (length out) (p ∷ ps)) to (out ++ (y ∷ (front ++ behind)))
    ≡ out ++ (stretch_joined gdef (number_for whole (length out) (places_behind (length out) (p ∷ ps))) (p ∷ ps) to (stretch_merged y front) ++ rest))
unfolding ligated ligature_joined merged_up_to stretch_joined
ligated_behind gdef level to p ps out y front behind merging low long climbs none =
    let a = length out in
    let qs = places_behind a (p ∷ ps) in
    let q = last_of p ps in
    let text : Glyphs = out ++ (y ∷ (front ++ behind)) in
    let t = stretch_merged y front in
    let rest = flooded (top_of y front) y.cluster behind in
    let whole : Glyphs = out ++ (t ++ rest) in
    let number = number_for whole a qs in
    let t_long : length t ≡ length front + 1 = omega (arith, length-map front (in_cluster y.cluster)) in
    let start = counted_too nothing_counted (glyph_at t 0) in
    let m = marks_inside (length t - 1) number (p ∷ ps) t 1 start in
    let some : 0 < q = omega (arith, climbs_some p ps (length (y ∷ front)) climbs) in
    let last : last_place a qs ≡ a + q = last_place_moved a p ps in
    let test : nat_lt a (a + q) ≡ true = grind (arith, nat_tests) in
    let up : (if nat_lt a (last_place a qs) then merge level a (last_place a qs + 1) text else text) ≡ whole =
    ap (λ k. if nat_lt a k then merge level a (k + 1) text else text) last
    ∙ ap (λ b. if b then merge level a (a + q + 1) text else text) test
    ∙ ap (λ k. merge level a (a + k + 1) text) (sym long)
    ∙ merged_behind level out y front behind merging low (omega (arith, long, some)) in
    let joins : Glyphs → ℕ → Glyphs = λ ms l.
    (let n = number_for ms a qs in
    let x = marks_inside (l - a) n qs ms (a + 1) (counted_too nothing_counted (glyph_at ms a)) in
    let ts = with_followers (is_of_marks ms a qs) n x.counted x.text (l + 1) in
    set ts a (ligature_glyph gdef to n x.counted.all (glyph_at ms a))) in
    let z : a ≡ a + 0 = omega arith in
    let read : glyph_at whole a ≡ glyph_at t 0 = ap (glyph_at whole) z ∙ read_among out t rest 0 (omega (arith, t_long)) in
    let count : a + q - a ≡ length t - 1 = omega (arith, t_long, long) in
    let marked : marks_inside (a + q - a) number qs whole (a + 1) (counted_too nothing_counted (glyph_at whole a)) ≡ among out rest m =
    ap (λ k. marks_inside k number qs whole (a + 1) (counted_too nothing_counted (glyph_at whole a))) count
    ∙ ap (λ g. marks_inside (length t - 1) number qs whole (a + 1) (counted_too nothing_counted g)) read
    ∙ marks_among (length t - 1) number (p ∷ ps) out t rest 1 start (omega (arith, t_long)) in
    let m_long : length m.text ≡ length t = marks_long (length t - 1) number (p ∷ ps) t 1 (length t) start refl in
    let free : component (glyph_at (out ++ (m.text ++ rest)) (a + q + 1)).lig_props ≡ 0 =
    free_behind out m.text rest (a + q + 1) (omega (arith, m_long, t_long, long))
    (flood_all (λ g. component g.lig_props ≡ 0) (top_of y front) y.cluster (component_kept y.cluster) behind none) in
    let y_made = ligature_glyph gdef to number m.counted.all (glyph_at t 0) in
    let followed : with_followers (is_of_marks whole a qs) number m.counted (out ++ (m.text ++ rest)) (a + q + 1)
    ≡ out ++ (m.text ++ rest) = no_followers (is_of_marks whole a qs) number m.counted (out ++ (m.text ++ rest)) (a + q + 1) free in
    let put : joins whole (a + q) ≡ out ++ (set m.text 0 y_made ++ rest) =
    ap (λ (x : Marked). set (with_followers (is_of_marks whole a qs) number x.counted x.text (a + q + 1)) a
    (ligature_glyph gdef to number x.counted.all (glyph_at whole a))) marked
    ∙ ap (λ l. set l a (ligature_glyph gdef to number m.counted.all (glyph_at whole a))) followed
    ∙ ap (λ g. set (out ++ (m.text ++ rest)) a (ligature_glyph gdef to number m.counted.all g)) read
    ∙ ap (λ k. set (out ++ (m.text ++ rest)) k y_made) z
    ∙ set_among out m.text rest 0 y_made (omega (arith, m_long, t_long)) in
    let set_long : length (y ∷ front) ≡ length (set m.text 0 y_made) = omega (arith, length-set m.text 0 y_made, m_long, t_long) in
    ap (λ ms. removed_all qs (joins ms (last_place a qs))) up ∙ ap (λ l. removed_all qs (joins whole l)) last
    ∙ ap (removed_all qs) put
    ∙ removed_among (p ∷ ps) 0 out (set m.text 0 y_made) rest (length (y ∷ front)) set_long climbs
