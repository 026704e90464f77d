-- Borders in what the model makes of a text, clear places, and texts of one syllable byte.
use Rattle.std.proofs.Common.{ℕ, zero, suc, ◌+◌, ◌-◌, ◌*◌, ◌/◌, ◌%◌, ◌<◌, ◌≤◌, ◌≡◌, ◌≢◌, ◌==◌, ◌&&◌, ◌||◌, max, if◌then◌else◌, Bool, true, false, List, [], ◌∷◌, ◌++◌, length, map, take, drop, set, slice_index, None, Some, refl, sym, ap, subst, ◌∙◌, arith}
use Rattle.std.specs.List.{AllByRecursion, list_any}
use Rattle.std.proofs.lemmas.Bool.{false≢true}
use Rattle.std.proofs.lemmas.Bool.Decides.{nat_tests}
use Rattle.shapers_buffer.specs.Clusters.{in_cluster}
use Rattle.shapers_buffer.specs.Glyph.{clusters}
use Rattle.shapers_buffer.specs.Glyphs.{Glyph, Glyphs}
use Rattle.shapers_buffer.specs.Syllables.{syllables, with_in_front}
use Rattle.shapers_buffer.proofs.MappedLists.{all-append}
use Rattle.shapers_clusters.specs.Breaks.{IsClear, greater, is_unsafe}
use Rattle.shapers_clusters.specs.Flags.{bit_at}
use Rattle.opentype_layout.specs.Text.{glyph_at}
use Rattle.opentype_gsub.specs.Edits.{replaced}
use Rattle.opentype_gsub.specs.Ligated.{as_mark, counted_too, ligature_glyph, marked_one, marks_inside, nothing_counted}
use Rattle.opentype_gsub.specs.declared.ligating.Counted.{Counted}
use Rattle.opentype_break_laws.specs.OrderedTexts.{AreOrdered, HasNoComponents, PrecedesInOrder}
use Rattle.opentype_break_laws.proofs.LigatureFits.{FittingLigature}
use Rattle.opentype_break_laws.proofs.LigatureModel.{IsBorder, all_at, all_back, all_drop, all_removed, all_set, all_take, all_weaker, emit, emit_by, emit_in, flood_all, if_marked, in_one, is_equal, stretch_joined, last_of, stretch_merged, model, number_of}
use Rattle.opentype_break_laws.proofs.LigatureViews.{AlikeTo, shown_glyph}

-- ---- WHAT HOLDS OF ALL GLYPHS of what the model makes

-- what no step changes
pub record IsKept (P : Glyph → Type 0) : Type 0 where
  pub merged : (c : ℕ) (g : Glyph) → P g → P (in_cluster c g)
  pub put : (gdef : List ℕ) (to : ℕ) (g : Glyph) → P g → P (replaced gdef to 0 g)
  pub ligature : (gdef : List ℕ) (to n k : ℕ) (g : Glyph) → P g → P (ligature_glyph gdef to n k g)
  pub mark : (n : ℕ) (c : Counted) (g : Glyph) → P g → P (as_mark n c g)

one_all : (P : Glyph → Type 0) → IsKept P → (number : ℕ) (ps : List ℕ) (gs : Glyphs) (i : ℕ) (k : Counted) → AllByRecursion P gs
    → AllByRecursion P (marked_one number ps gs i k).text
unfolding marked_one
one_all P keeps number ps gs i k all = if_marked (AllByRecursion P) (list_any (λ p. p == i) ps) _ _ all
    (if_marked (AllByRecursion P) (number == 0) _ _ all (all_set P gs i (as_mark number k (glyph_at gs i)) all
    (λ lt. keeps.mark number k (glyph_at gs i) (all_at P gs i all lt))))

marks_all : (P : Glyph → Type 0) → IsKept P → (n number : ℕ) (ps : List ℕ) (gs : Glyphs) (i : ℕ) (k : Counted) → AllByRecursion P gs
    → AllByRecursion P (marks_inside n number ps gs i k).text
unfolding marks_inside
marks_all P keeps zero number ps gs i k all = all
marks_all P keeps (suc n) number ps gs i k all =
    marks_all P keeps n number ps (marked_one number ps gs i k).text (i + 1) (marked_one number ps gs i k).counted
    (one_all P keeps number ps gs i k all)

joined_all : (P : Glyph → Type 0) → IsKept P → (gdef : List ℕ) (number : ℕ) (ps : List ℕ) (to : ℕ) (gs : Glyphs)
    → AllByRecursion P gs → 0 < length gs → AllByRecursion P (stretch_joined gdef number ps to gs)
unfolding stretch_joined
joined_all P keeps gdef number ps to gs all some =
    let m = marks_inside (length gs - 1) number ps gs 1 (counted_too nothing_counted (glyph_at gs 0)) in
    let y = ligature_glyph gdef to number m.counted.all (glyph_at gs 0) in
    all_removed P ps (set m.text 0 y) (all_set P m.text 0 y (marks_all P keeps (length gs - 1) number ps gs 1 _ all)
    (λ lt. keeps.ligature gdef to number m.counted.all (glyph_at gs 0) (all_at P gs 0 all some)))

all_merged : (P : Glyph → Type 0) → IsKept P → (c : ℕ) (gs : Glyphs) → AllByRecursion P gs → AllByRecursion P (map (in_cluster c) gs)
all_merged P keeps c [] all = tt
all_merged P keeps c (g ∷ gs) all = (keeps.merged c g all.0, all_merged P keeps c gs all.1)

pub record AllOf (P : Glyph → Type 0) (xs ys : Glyphs) : Type 0 where
  pub made : AllByRecursion P xs
  pub rest : AllByRecursion P ys

emit_by_all : (P : Glyph → Type 0) → IsKept P → (gdef : List ℕ) (to : ℕ) (ps : List ℕ) (g : Glyph) (gs : Glyphs)
    → AllByRecursion P (g ∷ gs) → AllOf P (emit_by gdef to ps g gs).made (emit_by gdef to ps g gs).rest
emit_by_all P keeps gdef to [] g gs all = record { made = (keeps.put gdef to g all.0, tt); rest = all.1 }
emit_by_all P keeps gdef to (p ∷ ps) g gs all =
    let q = last_of p ps in
    let front = stretch_merged g (take q gs) in
    record {
      made = joined_all P keeps gdef (number_of front (p ∷ ps)) (p ∷ ps) to front
          (all_merged P keeps g.cluster (g ∷ take q gs) (all.0, all_take P q gs all.1)) (omega arith);
      rest = flood_all P (glyph_at (g ∷ gs) q).cluster g.cluster (λ x. keeps.merged g.cluster x) (drop q gs) (all_drop P q gs all.1);
    }

emit_all : (P : Glyph → Type 0) → IsKept P → (gdef : List ℕ) (o : FittingLigature) (g : Glyph) (gs : Glyphs) → AllByRecursion P (g ∷ gs)
    → AllOf P (emit gdef o g gs).made (emit gdef o g gs).rest
emit_all P keeps gdef None g gs all = record { made = (all.0, tt); rest = all.1 }
emit_all P keeps gdef (Some it) g gs all = emit_by_all P keeps gdef it.0 it.1 g gs all

pub model_all : (P : Glyph → Type 0) → IsKept P → (gdef : List ℕ) (fits : Glyphs → FittingLigature) (n : ℕ) (gs : Glyphs) → AllByRecursion P gs
    → AllByRecursion P (model gdef fits n gs)
model_all P keeps gdef fits zero gs all = all
model_all P keeps gdef fits (suc n) [] all = tt
model_all P keeps gdef fits (suc n) (g ∷ gs) all =
    let it = emit gdef (fits (g ∷ gs)) g gs in
    let both = emit_all P keeps gdef (fits (g ∷ gs)) g gs all in
    all-append P it.made (model gdef fits n it.rest) both.made (model_all P keeps gdef fits n it.rest both.rest)

-- ---- CLUSTERS RISE in what the model makes

abbrev pub AreRising : Glyphs → Type 0
AreRising [] = Unit {0}
AreRising (g ∷ gs) = AllByRecursion (λ h. g.cluster ≤ h.cluster) gs × AreRising gs

pub ordered_rise : (gs : Glyphs) → AreOrdered gs → AreRising gs
ordered_rise [] order = tt
ordered_rise (g ∷ gs) order =
    (all_weaker (PrecedesInOrder g) (λ (h : Glyph). g.cluster ≤ h.cluster) (λ h p. p.0) gs order.0, ordered_rise gs order.1)

-- no cluster is below one
emit_by_above : (c : ℕ) (gdef : List ℕ) (to : ℕ) (ps : List ℕ) (g : Glyph) (gs : Glyphs) → c ≤ g.cluster
    → AllByRecursion (λ h. c ≤ h.cluster) gs → AllByRecursion (λ h. c ≤ h.cluster) (emit_by gdef to ps g gs).rest
emit_by_above c gdef to [] g gs le all = all
emit_by_above c gdef to (p ∷ ps) g gs le all =
    let q = last_of p ps in
    flood_all (λ h. c ≤ h.cluster) (glyph_at (g ∷ gs) q).cluster g.cluster (λ x old. omega (arith, in_one g.cluster x, le))
    (drop q gs) (all_drop (λ (h : Glyph). c ≤ h.cluster) q gs all)

emit_above : (c : ℕ) (gdef : List ℕ) (o : FittingLigature) (g : Glyph) (gs : Glyphs) → c ≤ g.cluster
    → AllByRecursion (λ h. c ≤ h.cluster) gs → AllByRecursion (λ h. c ≤ h.cluster) (emit gdef o g gs).rest
emit_above c gdef None g gs le all = all
emit_above c gdef (Some it) g gs le all = emit_by_above c gdef it.0 it.1 g gs le all

model_above : (c : ℕ) (gdef : List ℕ) (fits : Glyphs → FittingLigature) (n : ℕ) (gs : Glyphs) → AllByRecursion (λ h. c ≤ h.cluster) gs
    → AllByRecursion (λ h. c ≤ h.cluster) (model gdef fits n gs)
model_above c gdef fits zero gs all = all
model_above c gdef fits (suc n) [] all = tt
model_above c gdef fits (suc n) (g ∷ gs) all =
    let o = fits (g ∷ gs) in
    let it = emit gdef o g gs in
    all-append (λ h. c ≤ h.cluster) it.made (model gdef fits n it.rest)
    (all_weaker (λ (h : Glyph). h.cluster ≡ g.cluster) (λ (h : Glyph). c ≤ h.cluster) (λ h e. omega (arith, e, all.0)) it.made
    (emit_in gdef o g gs)) (model_above c gdef fits n it.rest (emit_above c gdef o g gs all.0 all.1))

rising_both : (c : ℕ) (xs ys : Glyphs) → AllByRecursion (λ g. g.cluster ≡ c) xs → AllByRecursion (λ h. c ≤ h.cluster) ys
    → AreRising ys → AreRising (xs ++ ys)
rising_both c [] ys one above rising = rising
rising_both c (x ∷ xs) ys one above rising = (
  all-append (λ h. x.cluster ≤ h.cluster) xs ys
      (all_weaker (λ (h : Glyph). h.cluster ≡ c) (λ (h : Glyph). x.cluster ≤ h.cluster) (λ h e. omega (arith, e, one.0)) xs one.1)
      (all_weaker (λ (h : Glyph). c ≤ h.cluster) (λ (h : Glyph). x.cluster ≤ h.cluster) (λ h le. omega (arith, le, one.0)) ys above),
  rising_both c xs ys one.1 above rising,
)

-- the rest of a step in order is above its first glyph's cluster
pub model_rises : (gdef : List ℕ) (fits : Glyphs → FittingLigature)
    → ((g : Glyph) (gs : Glyphs) → AreOrdered (g ∷ gs) → HasNoComponents (g ∷ gs)
    → AreOrdered (emit gdef (fits (g ∷ gs)) g gs).rest × HasNoComponents (emit gdef (fits (g ∷ gs)) g gs).rest)
    → (n : ℕ) (gs : Glyphs) → AreOrdered gs → HasNoComponents gs → AreRising (model gdef fits n gs)
model_rises gdef fits stays zero gs order none = ordered_rise gs order
model_rises gdef fits stays (suc n) [] order none = tt
model_rises gdef fits stays (suc n) (g ∷ gs) order none =
    let o = fits (g ∷ gs) in
    let it = emit gdef o g gs in
    let so = stays g gs order none in
    let above = emit_above g.cluster gdef o g gs (omega arith)
    (all_weaker (PrecedesInOrder g) (λ (h : Glyph). g.cluster ≤ h.cluster) (λ h p. p.0) gs order.0) in
    rising_both g.cluster it.made (model gdef fits n it.rest) (emit_in gdef o g gs)
    (model_above g.cluster gdef fits n it.rest above) (model_rises gdef fits stays n it.rest so.0 so.1)

-- ---- CLEAR PLACES of rising clusters are borders

abbrev pub last_cluster_of : Glyph → Glyphs → ℕ
last_cluster_of g [] = g.cluster
last_cluster_of g (h ∷ hs) = last_cluster_of h hs

pub clusters_at : (gs : Glyphs) (i : ℕ) → slice_index (clusters gs) i ≡ (glyph_at gs i).cluster
clusters_at [] i = refl
clusters_at (g ∷ gs) zero = refl
clusters_at (g ∷ gs) (suc i) = clusters_at gs i

pub cluster_in_front : (g : Glyph) (gs back : Glyphs) → slice_index (clusters (g ∷ (gs ++ back))) (length gs) ≡ last_cluster_of g gs
cluster_in_front g [] back = refl
cluster_in_front g (h ∷ hs) back = cluster_in_front h hs back

pub cluster_behind : (front : Glyphs) (h : Glyph) (hs : Glyphs) → slice_index (clusters (front ++ (h ∷ hs))) (length front) ≡ h.cluster
cluster_behind [] h hs = refl
cluster_behind (g ∷ gs) h hs = cluster_behind gs h hs

last_above : (g : Glyph) (gs back : Glyphs) → AreRising (g ∷ (gs ++ back))
    → AllByRecursion (λ x. x.cluster ≤ last_cluster_of g gs) (g ∷ gs)
last_above g [] back rising = (omega arith, tt)
last_above g (h ∷ hs) back rising =
    let rest = last_above h hs back rising.1 in (omega (arith, rising.0.0, rest.0), rest)

last_below : (g : Glyph) (gs : Glyphs) (h : Glyph) (hs : Glyphs) → AreRising (g ∷ (gs ++ (h ∷ hs))) → last_cluster_of g gs ≤ h.cluster
last_below g [] h hs rising = rising.0.0
last_below g (x ∷ xs) h hs rising = last_below x xs h hs rising.1

neither : (a b : Bool) → (a || b) ≡ false → (a ≡ false) × (b ≡ false)
neither true b e = absurd (false≢true (sym e))
neither false b e = (refl, e)

not_both : (a b : Bool) → a ≡ true → (a && b) ≡ false → b ≡ false
not_both true b e two = two
not_both false b e two = absurd (false≢true e)

if_both : (a b : Bool) → (a ≡ true → b ≡ false) → (a && b) ≡ false
if_both true b on = on refl
if_both false b on = refl

equal : (n : ℕ) → (n == n) ≡ true
equal n = grind (arith, nat_tests)

strictly : (m n : ℕ) → m ≤ n → m ≢ n → m < n
strictly m n le other = grind (arith, le, other)

none_of : (c : ℕ) (gs : Glyphs) → list_any (λ g. g.cluster == c && is_unsafe g) gs ≡ false
    → AllByRecursion (λ g. g.cluster ≡ c → is_unsafe g ≡ false) gs
none_of c [] e = tt
none_of c (g ∷ gs) e =
    let two = neither (g.cluster == c && is_unsafe g) (list_any (λ x. x.cluster == c && is_unsafe x) gs) e in
    (λ same. not_both (g.cluster == c) (is_unsafe g) (ap (λ n. n == c) same ∙ equal c) two.0, none_of c gs two.1)

of_none : (c : ℕ) (gs : Glyphs) → AllByRecursion (λ g. g.cluster ≡ c → is_unsafe g ≡ false) gs
    → list_any (λ g. g.cluster == c && is_unsafe g) gs ≡ false
of_none c [] all = refl
of_none c (g ∷ gs) all = ap (λ b. b || list_any (λ x. x.cluster == c && is_unsafe x) gs)
    (if_both (g.cluster == c) (is_unsafe g) (λ e. all.0 (is_equal g.cluster c e))) ∙ of_none c gs all.1

pub border_of : (front back : Glyphs) → AreRising (front ++ back) → 0 < length front → 0 < length back
    → IsClear (front ++ back) (length front) → IsBorder front back
border_of [] back rising some more clear = absurd (omega (arith, some))
border_of (g ∷ gs) [] rising some more clear = absurd (omega (arith, more))
border_of (g ∷ gs) (h ∷ hs) rising some more clear =
    let whole : Glyphs = (g ∷ gs) ++ (h ∷ hs) in
    let n : length (g ∷ gs) - 1 ≡ length gs = omega arith in
    let before : slice_index (clusters whole) (length (g ∷ gs) - 1) ≡ last_cluster_of g gs =
    ap (slice_index (clusters whole)) n ∙ cluster_in_front g gs (h ∷ hs) in
    let behind : slice_index (clusters whole) (length (g ∷ gs)) ≡ h.cluster = cluster_behind (g ∷ gs) h hs in
    let le = last_below g gs h hs rising in
    let less : last_cluster_of g gs < h.cluster = strictly (last_cluster_of g gs) h.cluster le
    (λ same. clear.differ (before ∙ same ∙ sym behind)) in
    let most : greater whole (length (g ∷ gs)) ≡ h.cluster = ap (λ x. max x (slice_index (clusters whole) (length (g ∷ gs)))) before
    ∙ ap (max (last_cluster_of g gs)) behind ∙ omega (arith, le) in
    let all = none_of h.cluster whole (subst (λ c. list_any (λ x. x.cluster == c && is_unsafe x) whole ≡ false) most clear.unflagged) in
    record {
      lower = all_weaker (λ (x : Glyph). x.cluster ≤ last_cluster_of g gs) (λ (x : Glyph). x.cluster < h.cluster)
          (λ x low. omega (arith, low, less)) (g ∷ gs) (last_above g gs (h ∷ hs) rising);
      clear = all_back (λ (x : Glyph). x.cluster ≡ h.cluster → is_unsafe x ≡ false) (g ∷ gs) (h ∷ hs) all;
    }

last_lower : (c : ℕ) (g : Glyph) (gs : Glyphs) → AllByRecursion (λ x. x.cluster < c) (g ∷ gs) → last_cluster_of g gs < c
last_lower c g [] all = all.0
last_lower c g (h ∷ hs) all = last_lower c h hs all.1

pub clear_of : (front back : Glyphs) → 0 < length front → 0 < length back → IsBorder front back
    → IsClear (front ++ back) (length front)
clear_of [] back some more border = absurd (omega (arith, some))
clear_of (g ∷ gs) [] some more border = absurd (omega (arith, more))
clear_of (g ∷ gs) (h ∷ hs) some more border =
    let whole : Glyphs = (g ∷ gs) ++ (h ∷ hs) in
    let n : length (g ∷ gs) - 1 ≡ length gs = omega arith in
    let before : slice_index (clusters whole) (length (g ∷ gs) - 1) ≡ last_cluster_of g gs =
    ap (slice_index (clusters whole)) n ∙ cluster_in_front g gs (h ∷ hs) in
    let behind : slice_index (clusters whole) (length (g ∷ gs)) ≡ h.cluster = cluster_behind (g ∷ gs) h hs in
    let less = last_lower h.cluster g gs border.lower in
    let most : greater whole (length (g ∷ gs)) ≡ h.cluster = ap (λ x. max x (slice_index (clusters whole) (length (g ∷ gs)))) before
    ∙ ap (max (last_cluster_of g gs)) behind ∙ omega (arith, less) in
    let all = all-append (λ x. x.cluster ≡ h.cluster → is_unsafe x ≡ false) (g ∷ gs) (h ∷ hs)
    (all_weaker (λ (x : Glyph). x.cluster < h.cluster) (λ (x : Glyph). x.cluster ≡ h.cluster → is_unsafe x ≡ false)
    (λ x low same. absurd (omega (arith, low, same))) (g ∷ gs) border.lower) border.clear in
    record {
      differ = λ same. absurd (omega (arith, sym before ∙ same ∙ behind, less));
      unflagged = subst (λ c. list_any (λ x. x.cluster == c && is_unsafe x) whole ≡ false) (sym most) (of_none h.cluster whole all);
    }

-- a mask without the flag of concatenation; a view of it shows clear places
abbrev pub quiet : ℕ → ℕ
quiet m = m - m / 2 % 2 * 2

abbrev pub quiet_view : (ℕ → ℕ) → Glyph → Glyph
quiet_view lig = shown_glyph quiet (λ b. b) lig

unsafe_shown : (lig : ℕ → ℕ) (g : Glyph) → is_unsafe (quiet_view lig g) ≡ is_unsafe g
unsafe_shown lig g =
    let low : bit_at 0 (quiet g.mask) ≡ bit_at 0 g.mask = omega arith in
    let high : bit_at 2 (quiet g.mask) ≡ bit_at 2 g.mask = omega arith in
    ap (λ n. (n == 1) || (bit_at 2 (quiet g.mask) == 1)) low ∙ ap (λ n. (bit_at 0 g.mask == 1) || (n == 1)) high

any_seen : (lig : ℕ → ℕ) (c : ℕ) (gs : Glyphs) → list_any (λ g. g.cluster == c && is_unsafe g) (map (quiet_view lig) gs)
    ≡ list_any (λ g. g.cluster == c && is_unsafe g) gs
any_seen lig c [] = refl
any_seen lig c (g ∷ gs) = ap (λ b. (g.cluster == c && b)
    || list_any (λ x. x.cluster == c && is_unsafe x) (map (quiet_view lig) gs)) (unsafe_shown lig g)
    ∙ ap (λ b. (g.cluster == c && is_unsafe g) || b) (any_seen lig c gs)

clusters_seen : (mask byte lig : ℕ → ℕ) (gs : Glyphs) → clusters (map (shown_glyph mask byte lig) gs) ≡ clusters gs
clusters_seen mask byte lig [] = refl
clusters_seen mask byte lig (g ∷ gs) = ap (λ l. g.cluster ∷ l) (clusters_seen mask byte lig gs)

pub clusters_shown : (mask byte lig : ℕ → ℕ) (gs hs : Glyphs) → AlikeTo (shown_glyph mask byte lig) gs hs → clusters gs ≡ clusters hs
clusters_shown mask byte lig gs hs e = sym (clusters_seen mask byte lig gs) ∙ ap clusters e ∙ clusters_seen mask byte lig hs

pub clear_shown : (lig : ℕ → ℕ) (gs hs : Glyphs) (p : ℕ) → AlikeTo (quiet_view lig) gs hs → IsClear gs p → IsClear hs p
clear_shown lig gs hs p e clear =
    let cs = clusters_shown quiet (λ b. b) lig gs hs e in
    let most : greater gs p ≡ greater hs p = ap (λ (l : List ℕ). max (slice_index l (p - 1)) (slice_index l p)) cs in
    record {
      differ = subst (λ (l : List ℕ). slice_index l (p - 1) ≢ slice_index l p) cs clear.differ;
      unflagged = sym (any_seen lig (greater hs p) hs)
          ∙ ap (λ l. list_any (λ g. g.cluster == greater hs p && is_unsafe g) l) (sym e)
          ∙ any_seen lig (greater hs p) gs
          ∙ subst (λ c. list_any (λ g. g.cluster == c && is_unsafe g) gs ≡ false) most clear.unflagged;
    }

-- ---- ONE SYLLABLE BYTE in all of a text

abbrev pub HasByte : ℕ → Glyphs → Type 0
HasByte x gs = AllByRecursion (λ g. g.syllable ≡ x) gs

merged_byte : (x c : ℕ) (g : Glyph) (b : Bool) → (g.cluster == c) ≡ b → g.syllable ≡ x → (in_cluster c g).syllable ≡ x
merged_byte x c g true e is = rw e is
merged_byte x c g false e is = rw e is

pub byte_kept : (x : ℕ) → IsKept (λ g. g.syllable ≡ x)
unfolding replaced ligature_glyph as_mark
byte_kept x = record {
  merged = λ c g is. merged_byte x c g (g.cluster == c) refl is;
  put = λ gdef to g is. is;
  ligature = λ gdef to n k g is. is;
  mark = λ n c g is. is;
}

-- a text as one piece, if it has glyphs
abbrev pub one_piece : Glyphs → List Glyphs
one_piece [] = []
one_piece (g ∷ gs) = (g ∷ gs) ∷ []

joins : (g h : Glyph) (hs : Glyphs) → h.syllable ≡ g.syllable → with_in_front g ((h ∷ hs) ∷ []) ≡ (g ∷ (h ∷ hs)) ∷ []
joins g h hs e = ap (λ b. if b then (g ∷ (h ∷ hs)) ∷ [] else (g ∷ []) ∷ ((h ∷ hs) ∷ [])) (ap (λ n. n == g.syllable) e ∙ equal g.syllable)

pub one_syllable : (x : ℕ) (gs : Glyphs) → HasByte x gs → syllables gs ≡ one_piece gs
one_syllable x [] all = refl
one_syllable x (g ∷ []) all = refl
one_syllable x (g ∷ h ∷ hs) all =
    ap (with_in_front g) (one_syllable x (h ∷ hs) all.1) ∙ joins g h hs (all.1.0 ∙ sym all.0)

abbrev pub first_byte : Glyphs → ℕ
first_byte [] = 0
first_byte (g ∷ gs) = g.syllable

-- the first piece begins with the first glyph
pub record BeginsPiece (h : Glyph) (pieces : List Glyphs) : Type 0 where
  pub piece : Glyphs
  pub more : List Glyphs
  pub is : pieces ≡ (h ∷ piece) ∷ more

begins_by : (h : Glyph) (x : Glyph) (xs : Glyphs) (more : List Glyphs) (b : Bool) → (x.syllable == h.syllable) ≡ b
    → BeginsPiece h (with_in_front h ((x ∷ xs) ∷ more))
begins_by h x xs more true e = record {
  piece = x ∷ xs;
  more = more;
  is = ap (λ t. if t then (h ∷ (x ∷ xs)) ∷ more else (h ∷ []) ∷ ((x ∷ xs) ∷ more)) e;
}
begins_by h x xs more false e = record {
  piece = [];
  more = (x ∷ xs) ∷ more;
  is = ap (λ t. if t then (h ∷ (x ∷ xs)) ∷ more else (h ∷ []) ∷ ((x ∷ xs) ∷ more)) e;
}

pub begins_piece : (h : Glyph) (pieces : List Glyphs) → BeginsPiece h (with_in_front h pieces)
begins_piece h [] = record { piece = []; more = []; is = refl }
begins_piece h ([] ∷ more) = record { piece = []; more = more; is = refl }
begins_piece h ((x ∷ xs) ∷ more) = begins_by h x xs more (x.syllable == h.syllable) refl

joined_by : (g h : Glyph) (piece : Glyphs) (more : List Glyphs) (b : Bool) → (h.syllable == g.syllable) ≡ b
    → length (with_in_front g ((h ∷ piece) ∷ more)) ≤ 1 → (h.syllable ≡ g.syllable) × (length ((h ∷ piece) ∷ more) ≤ 1)
joined_by g h piece more true e few =
    let is = ap (λ t. if t then (g ∷ (h ∷ piece)) ∷ more else (g ∷ []) ∷ ((h ∷ piece) ∷ more)) e in
    (is_equal h.syllable g.syllable e, omega (arith, few, ap length is))
joined_by g h piece more false e few =
    let is = ap (λ t. if t then (g ∷ (h ∷ piece)) ∷ more else (g ∷ []) ∷ ((h ∷ piece) ∷ more)) e in
    absurd (omega (arith, few, ap length is))

-- one piece at most: all glyphs have the first one's byte
pub one_byte : (gs : Glyphs) → length (syllables gs) ≤ 1 → HasByte (first_byte gs) gs
one_byte [] few = tt
one_byte (g ∷ []) few = (refl, tt)
one_byte (g ∷ h ∷ hs) few =
    let begins = begins_piece h (syllables hs) in
    let two = joined_by g h begins.piece begins.more (h.syllable == g.syllable) refl
    (subst (λ l. length (with_in_front g l) ≤ 1) begins.is few) in
    let rest = one_byte (h ∷ hs) (subst (λ l. length l ≤ 1) (sym begins.is) two.1) in (
      refl,
      (
        two.0,
        all_weaker (λ (x : Glyph). x.syllable ≡ h.syllable) (λ (x : Glyph). x.syllable ≡ g.syllable)
            (λ x e. e ∙ two.0) hs rest.1,
      ),
    )
