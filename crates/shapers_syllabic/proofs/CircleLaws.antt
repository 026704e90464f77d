-- What dotted circles add to a text, and that nothing else changes.
use Rattle.std.specs.Prelude.{◌≡◌, ◌==◌, ℕ, suc, ◌+◌, ◌-◌, ◌<◌, ◌≤◌, Bool, true, false, not, cond, List, [], ◌∷◌, ◌++◌, take, drop, length, map, Option, Some, None, count_by, filter, All, Contains, refl, if◌then◌else◌}
use Rattle.std.specs.List.{flat_map, prefix_len}
use Rattle.std.proofs.Common.{ap, sym, subst, ◌∙◌, arith, get_or, length-append, length-drop, length-take-le}
use Rattle.std.proofs.lemmas.List.{drop-drop, drop_all, drop_more, take_all, length-map, take_at, drop_at, take-append-drop}
use Rattle.std.proofs.lemmas.List.Elements.{All-append, All-cons, All-head, All-take, All-drop, All-map, All-weaker, All-contains, All-contains_itself}
use Rattle.std.proofs.lemmas.List.Sums.{prefix_len-le-length, prefix_len_stops, sum_by-cons}
use Rattle.std.proofs.lemmas.Bool.{not-false}
use Rattle.shapers_buffer.specs.Glyphs.{Glyph, Glyphs}
use Rattle.shapers_syllabic.specs.declared.ot_shaper_syllabic.circles.DottedCircles.{DottedCircles}
use Rattle.shapers_buffer.specs.Glyph.{clusters, default_glyph}
use Rattle.shapers_buffer.specs.Syllables.{syllables, with_in_front, first_syllable_len, kind_of}
use Rattle.shapers_syllabic.specs.Circles.{is_of_kind, rephas_len, circle_in, with_circle, with_circles, circled, circled_syllable, count_of_kind}
use Rattle.shapers_syllabic.specs.CircleLaws.{unmarked, marked, none_marked, marks_in, CirclesCanBeErased, CirclesKeepClusters, NoNewCluster}
use Rattle.shapers_syllabic.specs.FirstBroken.{IsFirstBroken, is_of_other_kind}
use Rattle.shapers_buffer.proofs.MappedLists.{Contains-map}
use Rattle.shapers_buffer.proofs.SyllableLaws.{syllables_are_longest}

abbrev Pieces : Type 0
Pieces = List Glyphs

-- these pieces, one after another, and each with its circle if it is broken
abbrev joined : Pieces → Glyphs
joined pieces = flat_map (λ piece. piece) pieces

abbrev circled_all : DottedCircles → Pieces → Glyphs
circled_all rule pieces = flat_map (circled_syllable rule) pieces

abbrev count_in : DottedCircles → Pieces → ℕ
count_in rule pieces = count_by (is_of_kind rule.broken_kind) pieces

-- the leading rephas are within the syllable
pub rephas_within : (repha : Option ℕ) (gs : Glyphs) → rephas_len repha gs ≤ length gs
rephas_within None = omega arith
rephas_within (Some r) = search prefix_len-le-length

-- a syllable, broken or not
abbrev opened : DottedCircles → Bool → Glyphs → Glyphs
opened rule broken gs = if broken then with_circle rule gs else gs

length-opened : (rule : DottedCircles) (broken : Bool) (gs : Glyphs) → length (opened rule broken gs)
    ≡ cond broken 1 0 + length gs
length-opened rule false = omega arith
length-opened rule true = search (arith, length-append, length-take-le, rephas_within, length-drop)

count_more : (rule : DottedCircles) (piece : Glyphs) (pieces : Pieces) → count_in rule (piece ∷ pieces)
    ≡ cond (is_of_kind rule.broken_kind piece) 1 0 + count_in rule pieces
count_more = search sum_by-cons

length-circled_all : (rule : DottedCircles) (pieces : Pieces) → length (circled_all rule pieces)
    ≡ length (joined pieces) + count_in rule pieces
length-circled_all rule [] = refl
length-circled_all rule (piece ∷ pieces) = omega (
  arith,
  length-append (circled_syllable rule piece) (circled_all rule pieces),
  length-append piece (joined pieces),
  length-opened rule (is_of_kind rule.broken_kind piece) piece,
  length-circled_all rule pieces,
  count_more rule piece pieces,
)

none_here : (broken : Bool) (n : ℕ) → cond broken 1 0 + n ≡ 0 → (broken ≡ false) × (n ≡ 0)
none_here true n none = absurd (omega arith)
none_here false n none = (refl, omega arith)

none_opened : (rule : DottedCircles) (pieces : Pieces) → count_in rule pieces ≡ 0
    → circled_all rule pieces ≡ joined pieces
none_opened rule [] none = refl
none_opened rule (piece ∷ pieces) none =
    let parts = none_here (is_of_kind rule.broken_kind piece) (count_in rule pieces) (sym
    (count_more rule piece pieces) ∙ none) in
    cc (none_opened rule pieces parts.1)

-- cutting into syllables loses nothing
joined-with_in_front : (g : Glyph) (pieces : Pieces) → joined (with_in_front g pieces) ≡ g ∷ joined pieces
joined-with_in_front g ((h ∷ piece) ∷ pieces) = search arith
joined-with_in_front g _ = refl

pub joined-syllables : (gs : Glyphs) → flat_map (λ piece. piece) (syllables gs) ≡ gs
joined-syllables [] = refl
joined-syllables (g ∷ gs) = search (arith, joined-syllables gs)

-- each circle makes the text one glyph longer
pub length-with_circles : (rule : DottedCircles) (gs : Glyphs) → length (with_circles rule gs)
    ≡ length gs + count_of_kind rule.broken_kind gs
length-with_circles = search (length-circled_all, joined-syllables)

-- a text with no circle is the text, and only such a text
pub with_circles-none : (rule : DottedCircles) (gs : Glyphs) → count_of_kind rule.broken_kind gs ≡ 0
    → with_circles rule gs ≡ gs
with_circles-none rule gs none = search (none_opened, joined-syllables)

-- what circles make of a text, and how many there are, if both leave a first glyph alone
record Spares (rule : DottedCircles) (g : Glyph) (before after : Pieces) : Type 0 where
  text : circled_all rule after ≡ g ∷ circled_all rule before
  count : count_in rule after ≡ count_in rule before

-- a glyph more in front, of another kind
spares_alone : (rule : DottedCircles) (g : Glyph) (pieces : Pieces) → (kind_of g.syllable == rule.broken_kind)
    ≡ false → Spares rule g pieces ((g ∷ []) ∷ pieces)
spares_alone = search arith

spares_opening : (rule : DottedCircles) (g h : Glyph) (piece : Glyphs) (pieces : Pieces)
    (same : Bool) → (h.syllable == g.syllable) ≡ same → (kind_of g.syllable == rule.broken_kind) ≡ false
    → Spares rule g ((h ∷ piece) ∷ pieces) (if same then (g ∷ (h ∷ piece)) ∷ pieces else (g ∷ [])
    ∷ ((h ∷ piece) ∷ pieces))
spares_opening rule g h piece pieces true = search arith
spares_opening rule g h piece pieces false = search arith

spares : (rule : DottedCircles) (g : Glyph) (pieces : Pieces) → (kind_of g.syllable == rule.broken_kind)
    ≡ false → Spares rule g pieces (with_in_front g pieces)
spares rule g [] other = spares_alone rule g [] other
spares rule g ([] ∷ pieces) other = search
spares rule g ((h ∷ piece) ∷ pieces) other = search arith

-- what stands before the first glyph of the broken kind stays
record StaysUpTo (rule : DottedCircles) (gs : Glyphs) (n : ℕ) : Type 0 where
  text : with_circles rule gs ≡ take n gs ++ with_circles rule (drop n gs)
  count : count_of_kind rule.broken_kind gs ≡ count_of_kind rule.broken_kind (drop n gs)

stays_next : (rule : DottedCircles) (g : Glyph) (gs : Glyphs) (broken : Bool)
    → (kind_of g.syllable == rule.broken_kind) ≡ broken
    → StaysUpTo rule gs (prefix_len (is_of_other_kind rule.broken_kind) gs)
    → StaysUpTo rule (g ∷ gs) (cond (not broken) (1 + prefix_len (is_of_other_kind rule.broken_kind) gs) 0)
stays_next rule g gs true test stays = search arith
stays_next rule g gs false test stays = let step = spares rule g (syllables gs) test in search arith

stays_up_to : (rule : DottedCircles) (gs : Glyphs)
    → StaysUpTo rule gs (prefix_len (is_of_other_kind rule.broken_kind) gs)
stays_up_to rule [] = search arith
stays_up_to rule (g ∷ gs) = search (stays_next, stays_up_to rule gs)

-- a text that opens with a broken syllable
record OpensBroken (rule : DottedCircles) (gs : Glyphs) : Type 0 where
  text : with_circles rule gs ≡ with_circle rule (take (first_syllable_len gs) gs)
      ++ with_circles rule (drop (first_syllable_len gs) gs)
  count : count_of_kind rule.broken_kind gs ≡ suc (count_of_kind rule.broken_kind (drop (first_syllable_len gs) gs))

opens_broken : (rule : DottedCircles) (g : Glyph) (gs : Glyphs)
    → (kind_of g.syllable == rule.broken_kind) ≡ true → OpensBroken rule (g ∷ gs)
opens_broken rule g gs =
    let text = g ∷ gs in
    let n = first_syllable_len text in
    search (arith, syllables_are_longest g gs, count_more rule (take n text) (syllables (drop n text)))

-- where the first broken syllable stands
pub is_first_broken : (rule : DottedCircles) (gs : Glyphs) (start len : ℕ)
    → start ≡ prefix_len (is_of_other_kind rule.broken_kind) gs → start < length gs
    → len ≡ first_syllable_len (drop start gs) → 0 < len → len ≤ length (drop start gs)
    → IsFirstBroken rule gs start (start + len)
is_first_broken rule gs start len start_is inside len_is some within =
    let g = get_or gs start default_glyph in
    let rest = drop (start + 1) gs in
    let other = is_of_other_kind rule.broken_kind in
    let stop : other (get_or gs (prefix_len other gs) default_glyph) ≡ false =
    prefix_len_stops other gs default_glyph (omega arith) in
    let opens =
    subst (OpensBroken rule) (sym (search drop_more)) (opens_broken rule g rest (not-false _ cc)) in
    let stays = subst (StaysUpTo rule gs) (sym start_is) (stays_up_to rule gs) in
    let size : start + len - start ≡ first_syllable_len (drop start gs) = omega arith in
    let behind =
    ap (λ n. drop (start + n) gs) len_is ∙ sym (drop-drop (first_syllable_len (drop start gs)) start gs) in
    record {
      some = omega arith;
      within = omega (arith, length-drop start gs);
      text = rw (size, behind) (stays.text ∙ ap (λ xs. take start gs ++ xs) opens.text);
      count = rw behind (stays.count ∙ opens.count);
    }

pub none_broken : (rule : DottedCircles) (gs : Glyphs) (start : ℕ)
    → start ≡ prefix_len (is_of_other_kind rule.broken_kind) gs → length gs ≤ start → count_of_kind rule.broken_kind gs
    ≡ 0
none_broken rule gs start start_is past =
    cc ((subst (StaysUpTo rule gs) (sym start_is) (stays_up_to rule gs)).count, drop_all start gs past)

-- marks of joined lists
unmarked-append : {X : Type 0} (ms ns : List Bool) (xs ys : List X) → length ms ≡ length xs
    → unmarked (ms ++ ns) (xs ++ ys) ≡ unmarked ms xs ++ unmarked ns ys
unmarked-append [] ns [] ys same = refl
unmarked-append (true ∷ ms) ns (x ∷ xs) ys same = unmarked-append ms ns xs ys (omega arith)
unmarked-append (false ∷ ms) ns (x ∷ xs) ys same = cc (unmarked-append ms ns xs ys (omega arith))
unmarked-append _ ns _ ys same = absurd (omega arith)

marked-append : {X : Type 0} (ms ns : List Bool) (xs ys : List X) → length ms ≡ length xs → marked (ms ++ ns) (xs ++ ys)
    ≡ marked ms xs ++ marked ns ys
marked-append [] ns [] ys same = refl
marked-append (true ∷ ms) ns (x ∷ xs) ys same = cc (marked-append ms ns xs ys (omega arith))
marked-append (false ∷ ms) ns (x ∷ xs) ys same = marked-append ms ns xs ys (omega arith)
marked-append _ ns _ ys same = absurd (omega arith)

unmarked-none : (gs : Glyphs) → unmarked (none_marked gs) gs ≡ gs
unmarked-none [] = refl
unmarked-none (g ∷ gs) = cc (unmarked-none gs)

marked-none : (gs : Glyphs) → marked (none_marked gs) gs ≡ []
marked-none [] = refl
marked-none (g ∷ gs) = marked-none gs

length-no_marks : (gs : Glyphs) → length (none_marked gs) ≡ length gs
length-no_marks gs = length-map gs (λ g. false)

-- a syllable without its circle, and its circle
abbrev marks_of : DottedCircles → Bool → Glyphs → List Bool
marks_of rule broken gs = if broken then none_marked (take (rephas_len rule.repha gs) gs) ++ true
    ∷ none_marked (drop (rephas_len rule.repha gs) gs) else none_marked gs

unmarked-syllable : (rule : DottedCircles) (broken : Bool) (gs : Glyphs)
    → unmarked (marks_of rule broken gs) (opened rule broken gs) ≡ gs
unmarked-syllable rule false gs = unmarked-none gs
unmarked-syllable rule true gs = search (unmarked-append, length-no_marks, unmarked-none, take-append-drop)

marked-syllable : (rule : DottedCircles) (broken : Bool) (gs : Glyphs)
    → marked (marks_of rule broken gs) (opened rule broken gs) ≡ (if broken then circle_in gs rule.circle ∷ [] else [])
marked-syllable rule false gs = marked-none gs
marked-syllable rule true gs = search (marked-append, length-no_marks, marked-none)

length-marks_of : (rule : DottedCircles) (broken : Bool) (gs : Glyphs) → length (marks_of rule broken gs)
    ≡ length (opened rule broken gs)
length-marks_of rule false gs = length-no_marks gs
length-marks_of rule true gs = search (length-append, length-no_marks)

abbrev marks_all : DottedCircles → Pieces → List Bool
marks_all rule pieces = flat_map (marks_in rule) pieces

unmarked-all : (rule : DottedCircles) (pieces : Pieces) → unmarked (marks_all rule pieces) (circled_all rule pieces)
    ≡ joined pieces
unmarked-all rule [] = refl
unmarked-all rule (piece ∷ pieces) =
    search (unmarked-append, length-marks_of, unmarked-syllable, unmarked-all rule pieces)

abbrev circles_all : DottedCircles → Pieces → Glyphs
circles_all rule pieces = map (λ piece. circle_in piece rule.circle) (filter (is_of_kind rule.broken_kind) pieces)

circles_more : (rule : DottedCircles) (piece : Glyphs) (pieces : Pieces) (broken : Bool)
    → is_of_kind rule.broken_kind piece ≡ broken → circles_all rule (piece ∷ pieces)
    ≡ (if broken then circle_in piece rule.circle ∷ [] else []) ++ circles_all rule pieces
circles_more rule piece pieces false test = rw test refl
circles_more rule piece pieces true test = rw test refl

marked-all : (rule : DottedCircles) (pieces : Pieces) → marked (marks_all rule pieces) (circled_all rule pieces)
    ≡ circles_all rule pieces
marked-all rule [] = refl
marked-all rule (piece ∷ pieces) =
    search (arith, marked-append, length-marks_of, marked-syllable, marked-all rule pieces)

pub circles_can_be_erased : CirclesCanBeErased
circles_can_be_erased = search (unmarked-all, joined-syllables, marked-all)

-- what holds of all clusters of a text holds of all with its circles
abbrev InAll : (ℕ → Type 0) → Glyphs → Type 0
InAll P gs = All (λ g. P g.cluster) gs

keeps_opened : (P : ℕ → Type 0) (rule : DottedCircles) (broken : Bool) (g : Glyph) (gs : Glyphs)
    → InAll P (g ∷ gs) → InAll P (opened rule broken (g ∷ gs))
keeps_opened P rule false g gs all = all
keeps_opened P rule true g gs all = search (All-append, All-take, All-cons, All-head, All-drop)

keeps_syllable : (P : ℕ → Type 0) (rule : DottedCircles) (gs : Glyphs) → InAll P gs
    → InAll P (circled_syllable rule gs)
keeps_syllable P rule [] all = all
keeps_syllable P rule (g ∷ gs) all = search keeps_opened

keeps_all : (P : ℕ → Type 0) (rule : DottedCircles) (pieces : Pieces) → InAll P (joined pieces)
    → InAll P (circled_all rule pieces)
keeps_all P rule [] all = all
keeps_all P rule (piece ∷ pieces) all =
    let n = length piece in
    let Q : Glyph → Type 0 = λ h. P h.cluster in
    let front : InAll P piece =
    subst (All Q) (take_at piece (joined pieces) n refl) (All-take Q n (piece ++ joined pieces) all) in
    let back : InAll P (joined pieces) =
    subst (All Q) (drop_at piece (joined pieces) n refl) (All-drop Q n (piece ++ joined pieces) all) in
    All-append Q (circled_syllable rule piece) (circled_all rule pieces) (keeps_syllable P rule piece front)
    (keeps_all P rule pieces back)

pub circles_keep_clusters : CirclesKeepClusters
circles_keep_clusters rule gs =
    let P = λ (c : ℕ). Contains (clusters gs) c in
    let Q : Glyph → Type 0 = λ g. P g.cluster in
    let start : InAll P gs =
    All-weaker (Contains gs) Q (λ g among. Contains-map (λ (h : Glyph). h.cluster) gs g among) gs
    (All-contains_itself gs) in
    All-map P (λ (h : Glyph). h.cluster) (with_circles rule gs) (keeps_all P rule (syllables gs)
    (subst (All Q) (sym (joined-syllables gs)) start))

-- so where circles may be wanted, and of what brings no cluster to the text with its circles
pub no_new_cluster : (circles : Option DottedCircles) (gs new : Glyphs)
    → NoNewCluster (circled circles gs) new → NoNewCluster gs new
no_new_cluster None gs new none = none
no_new_cluster (Some rule) gs new none =
    let old = clusters gs in
    let opened = clusters (with_circles rule gs) in
    All-weaker (Contains opened) (Contains old)
    (λ c among. All-contains (Contains old) opened c (circles_keep_clusters rule gs) among) (clusters new) none

-- a slice from a place to the end of a list
pub to_end : {X : Type 0} (xs : List X) (i : ℕ) → take (length xs - i) (drop i xs) ≡ drop i xs
to_end = search (arith, take_all, length-drop)
