-- Ligatures of texts that are the same to a view, which hides what no ligature reads.
use Rattle.std.proofs.Common.{ℕ, zero, suc, ◌+◌, ◌-◌, ◌*◌, ◌/◌, ◌%◌, ◌^◌, ◌<◌, ◌≡◌, ◌==◌, ◌&&◌, min, nat_lt, bit_and, bit_or, if◌then◌else◌, Bool, true, false, List, [], ◌∷◌, ◌++◌, length, map, take, drop, set, refl, sym, ap, subst, ◌∙◌, arith}
use Rattle.std.specs.List.{list_any, remove}
use Rattle.std.proofs.lemmas.Bool.Decides.{nat_tests}
use Rattle.std.proofs.lemmas.List.{drop-map, length-map, map-append, take-map}
use Rattle.shapers_buffer.specs.Clusters.{flooded, in_cluster}
use Rattle.shapers_buffer.specs.Glyph.{default_glyph, without_flags}
use Rattle.shapers_buffer.specs.Glyphs.{Glyph, Glyphs}
use Rattle.shapers_buffer.specs.Properties.{component, has_bit}
use Rattle.opentype_layout.specs.Text.{glyph_at}
use Rattle.opentype_gsub.specs.Edits.{removed_all, replaced}
use Rattle.opentype_gsub.specs.Ligated.{Marked, as_letter, as_mark, components_of, counted_too, ligature_glyph, marked_one, marks_inside, nothing_counted}
use Rattle.opentype_gsub.specs.declared.ligating.Counted.{Counted}
use Rattle.opentype_break_laws.proofs.LigatureFits.{essence}
use Rattle.opentype_break_laws.proofs.LigatureModel.{stretch_joined}

-- ---- A VIEW of glyphs: of the mask, its flags or not; of the syllable's byte, its serial or not; of a ligature's number,
-- whether there is one or not even that

pub record ShowsNumbers (lig : ℕ → ℕ) : Type 0 where
  pub low : (l : ℕ) → lig l % 32 ≡ l % 32
  pub again : (l : ℕ) → lig (lig l) ≡ lig l
  pub number : (n k : ℕ) → (n == 0) ≡ false → k < 32 → lig (n * 32 + k) ≡ lig (32 + k)

pub record IsViewOf (mask byte lig : ℕ → ℕ) : Type 0 where
  pub low : (m : ℕ) → without_flags (mask m) ≡ without_flags m
  pub off : (m : ℕ) → mask (without_flags m) ≡ without_flags (mask m)
  pub mask_again : (m : ℕ) → mask (mask m) ≡ mask m
  pub kind : (b : ℕ) → byte b % 16 ≡ b % 16
  pub byte_again : (b : ℕ) → byte (byte b) ≡ byte b
  pub numbers : ShowsNumbers lig

abbrev pub shown_glyph : (ℕ → ℕ) → (ℕ → ℕ) → (ℕ → ℕ) → Glyph → Glyph
shown_glyph mask byte lig g = record g {
  mask = mask g.mask;
  syllable = byte g.syllable;
  lig_props = record { 0 = lig g.lig_props.0 };
}

pub flagless_shown : (lig : ℕ → ℕ) → ShowsNumbers lig → IsViewOf without_flags (λ b. b % 16) lig
flagless_shown lig numbers = record {
  low = λ m. omega arith;
  off = λ m. refl;
  mask_again = λ m. omega arith;
  kind = λ b. omega arith;
  byte_again = λ b. omega arith;
  numbers = numbers;
}

-- no number is shown
abbrev pub hiding_number : ℕ → ℕ
hiding_number l = l % 32

pub shows_none : ShowsNumbers hiding_number
shows_none = record {
  low = λ l. omega arith;
  again = λ l. omega arith;
  number = λ n k none less. omega arith;
}

-- it shows whether there is one
abbrev pub with_presence : ℕ → ℕ
with_presence l = if nat_lt l 32 then l else 32 + l % 32

presence_low : (l : ℕ) (b : Bool) → nat_lt l 32 ≡ b → with_presence l % 32 ≡ l % 32
presence_low l true e = ap (λ x. (if x then l else 32 + l % 32) % 32) e
presence_low l false e =
    let same : (32 + l % 32) % 32 ≡ l % 32 = omega arith in
    ap (λ x. (if x then l else 32 + l % 32) % 32) e ∙ same

pub below_it : (l : ℕ) → nat_lt l 32 ≡ true → with_presence l ≡ l
below_it l e = ap (λ x. if x then l else 32 + l % 32) e

pub above_it : (l : ℕ) → nat_lt l 32 ≡ false → with_presence l ≡ 32 + l % 32
above_it l e = ap (λ x. if x then l else 32 + l % 32) e

pub not_below : (k : ℕ) → nat_lt (32 + k) 32 ≡ false
not_below k = grind (arith, nat_tests)

above_again : (l : ℕ) → with_presence (32 + l % 32) ≡ 32 + l % 32
above_again l =
    let same : 32 + (32 + l % 32) % 32 ≡ 32 + l % 32 = omega arith in
    above_it (32 + l % 32) (not_below (l % 32)) ∙ same

presence_again : (l : ℕ) (b : Bool) → nat_lt l 32 ≡ b → with_presence (with_presence l) ≡ with_presence l
presence_again l true e = ap with_presence (below_it l e)
presence_again l false e = ap with_presence (above_it l e) ∙ above_again l ∙ sym (above_it l e)

numbered_above : (n k : ℕ) → (n == 0) ≡ false → nat_lt (n * 32 + k) 32 ≡ false
numbered_above n k e = grind (arith, nat_tests)

presence_number : (n k : ℕ) → (n == 0) ≡ false → k < 32 → with_presence (n * 32 + k) ≡ with_presence (32 + k)
presence_number n k e less =
    let same : 32 + (n * 32 + k) % 32 ≡ 32 + (32 + k) % 32 = omega (arith, less) in
    above_it (n * 32 + k) (numbered_above n k e) ∙ same ∙ sym (above_it (32 + k) (not_below k))

pub shows_presence : ShowsNumbers with_presence
shows_presence = record {
  low = λ l. presence_low l (nat_lt l 32) refl;
  again = λ l. presence_again l (nat_lt l 32) refl;
  number = presence_number;
}

-- a glyph with other values of what a view changes
with_three : Glyph → ℕ → ℕ → ℕ → Glyph
with_three g m b l = record g { mask = m; syllable = b; lig_props = record { 0 = l } }

three_same : (g : Glyph) (m n b c l k : ℕ) → m ≡ n → b ≡ c → l ≡ k → with_three g m b l ≡ with_three g n c k
three_same g m n b c l k one two three = ap (λ x. with_three g x b l) one ∙ ap (λ x. with_three g n x l) two
    ∙ ap (with_three g n c) three

pub essence_seen : (mask byte lig : ℕ → ℕ) → IsViewOf mask byte lig → (g : Glyph) → essence (shown_glyph mask byte lig g) ≡ essence g
unfolding with_three
essence_seen mask byte lig shows g =
    ap (λ (x : Glyph). let r : Glyph = record x { cluster = 0 } in r)
    (three_same g (without_flags (mask g.mask)) (without_flags g.mask) (byte g.syllable % 16) (g.syllable % 16)
    (lig g.lig_props.0 % 32) (g.lig_props.0 % 32) (shows.low g.mask) (shows.kind g.syllable) (shows.numbers.low g.lig_props.0))

pub essence_same : (mask byte lig : ℕ → ℕ) → IsViewOf mask byte lig → (g h : Glyph) → shown_glyph mask byte lig g ≡ shown_glyph mask byte lig h
    → essence g ≡ essence h
essence_same mask byte lig shows g h e = sym (essence_seen mask byte lig shows g) ∙ ap essence e ∙ essence_seen mask byte lig shows h

-- ---- WHAT THE STEPS MAKE OF GLYPHS

seen_again : (mask byte lig : ℕ → ℕ) → IsViewOf mask byte lig → (g : Glyph) → shown_glyph mask byte lig (shown_glyph mask byte lig g) ≡ shown_glyph mask byte lig g
unfolding with_three
seen_again mask byte lig shows g = three_same g (mask (mask g.mask)) (mask g.mask) (byte (byte g.syllable)) (byte g.syllable)
    (lig (lig g.lig_props.0)) (lig g.lig_props.0) (shows.mask_again g.mask) (shows.byte_again g.syllable) (shows.numbers.again g.lig_props.0)

put_seen : (mask byte lig : ℕ → ℕ) → IsViewOf mask byte lig → (gdef : List ℕ) (to guess : ℕ) (g : Glyph)
    → shown_glyph mask byte lig (replaced gdef to guess (shown_glyph mask byte lig g)) ≡ shown_glyph mask byte lig (replaced gdef to guess g)
unfolding replaced with_three
put_seen mask byte lig shows gdef to guess g =
    three_same (replaced gdef to guess g) (mask (mask g.mask)) (mask g.mask) (byte (byte g.syllable)) (byte g.syllable)
    (lig (lig g.lig_props.0)) (lig g.lig_props.0) (shows.mask_again g.mask) (shows.byte_again g.syllable) (shows.numbers.again g.lig_props.0)

pub put_same : (mask byte lig : ℕ → ℕ) → IsViewOf mask byte lig → (gdef : List ℕ) (to guess : ℕ) (g h : Glyph)
    → shown_glyph mask byte lig g ≡ shown_glyph mask byte lig h
    → shown_glyph mask byte lig (replaced gdef to guess g) ≡ shown_glyph mask byte lig (replaced gdef to guess h)
put_same mask byte lig shows gdef to guess g h e = sym (put_seen mask byte lig shows gdef to guess g)
    ∙ ap (λ x. shown_glyph mask byte lig (replaced gdef to guess x)) e ∙ put_seen mask byte lig shows gdef to guess h

-- in a cluster
cluster_by : Bool → ℕ → Glyph → Glyph
cluster_by b c g = if b then g else record g { cluster = c; mask = without_flags g.mask }

cluster_seen : (mask byte lig : ℕ → ℕ) → IsViewOf mask byte lig → (b : Bool) (c : ℕ) (g : Glyph)
    → shown_glyph mask byte lig (cluster_by b c g) ≡ cluster_by b c (shown_glyph mask byte lig g)
unfolding cluster_by
cluster_seen mask byte lig shows true c g = refl
cluster_seen mask byte lig shows false c g =
    ap (λ (k : ℕ). let r : Glyph = record (shown_glyph mask byte lig g) { cluster = c; mask = k } in r) (shows.off g.mask)

pub in_seen : (mask byte lig : ℕ → ℕ) → IsViewOf mask byte lig → (c : ℕ) (g : Glyph)
    → shown_glyph mask byte lig (in_cluster c g) ≡ in_cluster c (shown_glyph mask byte lig g)
unfolding cluster_by
in_seen mask byte lig shows c g = cluster_seen mask byte lig shows (g.cluster == c) c g

pub all_in_seen : (mask byte lig : ℕ → ℕ) → IsViewOf mask byte lig → (c : ℕ) (gs : Glyphs)
    → map (shown_glyph mask byte lig) (map (in_cluster c) gs) ≡ map (in_cluster c) (map (shown_glyph mask byte lig) gs)
all_in_seen mask byte lig shows c [] = refl
all_in_seen mask byte lig shows c (g ∷ gs) = ap (λ x. x ∷ map (shown_glyph mask byte lig) (map (in_cluster c) gs)) (in_seen mask byte lig shows c g)
    ∙ ap (λ l. in_cluster c (shown_glyph mask byte lig g) ∷ l) (all_in_seen mask byte lig shows c gs)

flood_choice : (f : Glyph → Glyph) (b : Bool) (xs ys : Glyphs) → map f (if b then xs else ys) ≡ (if b then map f xs else map f ys)
flood_choice f true xs ys = refl
flood_choice f false xs ys = refl

pub flood_seen : (mask byte lig : ℕ → ℕ) → IsViewOf mask byte lig → (cl c : ℕ) (gs : Glyphs)
    → map (shown_glyph mask byte lig) (flooded cl c gs) ≡ flooded cl c (map (shown_glyph mask byte lig) gs)
flood_seen mask byte lig shows cl c [] = refl
flood_seen mask byte lig shows cl c (g ∷ gs) =
    let v : Glyph → Glyph = shown_glyph mask byte lig in
    flood_choice v (g.cluster == cl) (in_cluster c g ∷ flooded cl c gs) (g ∷ gs)
    ∙ ap (λ x. if g.cluster == cl then x ∷ map v (flooded cl c gs) else v g ∷ map v gs) (in_seen mask byte lig shows c g)
    ∙ ap (λ l. if g.cluster == cl then in_cluster c (v g) ∷ l else v g ∷ map v gs) (flood_seen mask byte lig shows cl c gs)

-- the ligature: it has a number or none
abbrev pub BothNumbered : ℕ → ℕ → Type 0
BothNumbered n m = (n == 0) ≡ (m == 0)

-- what the view shows of a ligature's numbers
shown_number : (ℕ → ℕ) → Bool → ℕ → ℕ → ℕ
shown_number lig none count l = if none then lig l else lig (32 + (16 + count % 16))

number_shown : (lig : ℕ → ℕ) → ShowsNumbers lig → (none : Bool) (n count l : ℕ) → (n == 0) ≡ none
    → lig (if n == 0 then l else n * 32 + 16 + count % 16) ≡ shown_number lig none count l
unfolding shown_number
number_shown lig shows true n count l e = ap (λ b. lig (if b then l else n * 32 + 16 + count % 16)) e
number_shown lig shows false n count l e =
    let sum : n * 32 + 16 + count % 16 ≡ n * 32 + (16 + count % 16) = omega arith in
    ap (λ b. lig (if b then l else n * 32 + 16 + count % 16)) e ∙ ap lig sum ∙ shows.number n (16 + count % 16) e (omega arith)

shown_twice : (lig : ℕ → ℕ) → ShowsNumbers lig → (none : Bool) (count l : ℕ)
    → lig (shown_number lig none count (lig l)) ≡ shown_number lig none count l
unfolding shown_number
shown_twice lig shows true count l = shows.again (lig l) ∙ shows.again l
shown_twice lig shows false count l = shows.again (32 + (16 + count % 16))

-- a ligature's glyph, by whether it has a number, and what it keeps of it
ligature_by : List ℕ → ℕ → Bool → ℕ → Glyph → Glyph
ligature_by gdef to none l g =
    let r = replaced gdef to (if none then 0 else 4) g in
    record r {
      glyph_props = record { 0 = bit_and (bit_or r.glyph_props.0 32) 65471 };
      lig_props = record { 0 = l };
      unicode_props = if none then r.unicode_props else as_letter r.unicode_props;
    }

ligature_is : (gdef : List ℕ) (to n count : ℕ) (g : Glyph) (none : Bool) → (n == 0) ≡ none → ligature_glyph gdef to n count g
    ≡ ligature_by gdef to none (if n == 0 then g.lig_props.0 else n * 32 + 16 + count % 16) g
unfolding ligature_glyph ligature_by replaced
ligature_is gdef to n count g true e = rw e refl
ligature_is gdef to n count g false e = rw e refl

ligature_by_seen : (mask byte lig : ℕ → ℕ) → IsViewOf mask byte lig → (gdef : List ℕ) (to : ℕ) (none : Bool) (l k : ℕ) (g : Glyph)
    → lig l ≡ lig k → shown_glyph mask byte lig (ligature_by gdef to none l g)
    ≡ shown_glyph mask byte lig (ligature_by gdef to none k (shown_glyph mask byte lig g))
unfolding ligature_by replaced with_three
ligature_by_seen mask byte lig shows gdef to none l k g e =
    sym (three_same (ligature_by gdef to none 0 g) (mask (mask g.mask)) (mask g.mask) (byte (byte g.syllable)) (byte g.syllable)
    (lig k) (lig l) (shows.mask_again g.mask) (shows.byte_again g.syllable) (sym e))

ligature_shown : (mask byte lig : ℕ → ℕ) → IsViewOf mask byte lig → (gdef : List ℕ) (to n count : ℕ) (g : Glyph) (none : Bool)
    → (n == 0) ≡ none → shown_glyph mask byte lig (ligature_glyph gdef to n count g) ≡ (let v = shown_glyph mask byte lig g in
    shown_glyph mask byte lig (ligature_by gdef to none (shown_number lig none count v.lig_props.0) v))
ligature_shown mask byte lig shows gdef to n count g none e =
    let l = if n == 0 then g.lig_props.0 else n * 32 + 16 + count % 16 in
    ap (shown_glyph mask byte lig) (ligature_is gdef to n count g none e)
    ∙ ligature_by_seen mask byte lig shows gdef to none l (shown_number lig none count (lig g.lig_props.0)) g
    (number_shown lig shows.numbers none n count g.lig_props.0 e ∙ sym (shown_twice lig shows.numbers none count g.lig_props.0))

pub ligature_same : (mask byte lig : ℕ → ℕ) → IsViewOf mask byte lig → (gdef : List ℕ) (to n m count : ℕ) (g h : Glyph) → BothNumbered n m
    → shown_glyph mask byte lig g ≡ shown_glyph mask byte lig h
    → shown_glyph mask byte lig (ligature_glyph gdef to n count g) ≡ shown_glyph mask byte lig (ligature_glyph gdef to m count h)
ligature_same mask byte lig shows gdef to n m count g h both e =
    ligature_shown mask byte lig shows gdef to n count g (n == 0) refl
    ∙ ap (λ (v : Glyph). shown_glyph mask byte lig (ligature_by gdef to (n == 0) (shown_number lig (n == 0) count v.lig_props.0) v)) e
    ∙ sym (ligature_shown mask byte lig shows gdef to m count h (n == 0) (sym both))

-- ---- MARKS

pub component_seen : (lig : ℕ → ℕ) → ShowsNumbers lig → (l : ℕ) → component (record { 0 = lig l }) ≡ component (record { 0 = l })
component_seen lig shows l =
    let itself : lig l / 16 % 2 ≡ l / 16 % 2 = omega (arith, shows.low l) in
    let low : lig l % 16 ≡ l % 16 = omega (arith, shows.low l) in
    ap (λ n. if n == 1 then 0 else lig l % 16) itself ∙ ap (λ n. if l / 16 % 2 == 1 then 0 else n) low

components_seen : (mask byte lig : ℕ → ℕ) → ShowsNumbers lig → (g : Glyph)
    → components_of (shown_glyph mask byte lig g) ≡ components_of g
unfolding components_of
components_seen mask byte lig shows g =
    let l = g.lig_props.0 in
    let itself : lig l / 16 % 2 ≡ l / 16 % 2 = omega (arith, shows.low l) in
    let low : lig l % 16 ≡ l % 16 = omega (arith, shows.low l) in
    ap (λ n. if has_bit 4 g.glyph_props.0 && (n == 1) then lig l % 16 else 1) itself
    ∙ ap (λ n. if has_bit 4 g.glyph_props.0 && (l / 16 % 2 == 1) then n else 1) low

components_same : (mask byte lig : ℕ → ℕ) → ShowsNumbers lig → (g h : Glyph)
    → shown_glyph mask byte lig g ≡ shown_glyph mask byte lig h → components_of g ≡ components_of h
components_same mask byte lig shows g h e =
    sym (components_seen mask byte lig shows g) ∙ ap components_of e ∙ components_seen mask byte lig shows h

pub record CountedAlike (c d : Counted) : Type 0 where
  pub all : c.all ≡ d.all
  pub last : c.last ≡ d.last

counted_alike : (mask byte lig : ℕ → ℕ) → ShowsNumbers lig → (c d : Counted) (g h : Glyph) → CountedAlike c d → shown_glyph mask byte lig g ≡ shown_glyph mask byte lig h
    → CountedAlike (counted_too c g) (counted_too d h)
unfolding counted_too
counted_alike mask byte lig shows c d g h alike e =
    let same = components_same mask byte lig shows g h e in
    record {
      all = ap (λ n. min (2 ^ 64 - 1) (n + components_of g)) alike.all ∙ ap (λ n. min (2 ^ 64 - 1) (d.all + n)) same;
      last = same;
    }

-- what the view shows of a mark's numbers, by the counts and its own component
mark_of : (ℕ → ℕ) → ℕ → ℕ → ℕ → ℕ
mark_of lig all last own = lig (32 + (all - last + (if own == 0 then last else min own last)) % 16)

mark_shown : (mask byte lig : ℕ → ℕ) → IsViewOf mask byte lig → (number : ℕ) (c : Counted) (g : Glyph) → (number == 0) ≡ false
    → shown_glyph mask byte lig (as_mark number c g) ≡ (let v = shown_glyph mask byte lig g in
    with_three v v.mask v.syllable (mark_of lig c.all c.last (component v.lig_props)))
unfolding as_mark mark_of with_three
mark_shown mask byte lig shows number c g some =
    let n = c.all - c.last + (if component g.lig_props == 0 then c.last else min (component g.lig_props) c.last) in
    let low : lig (number * 32 + n % 16) ≡ lig (32 + n % 16) = shows.numbers.number number (n % 16) some (omega arith) in
    ap (λ x. with_three (shown_glyph mask byte lig g) (mask g.mask) (byte g.syllable) x)
    (low ∙ ap (λ own. lig (32 + (c.all - c.last + (if own == 0 then c.last else min own c.last)) % 16))
    (sym (component_seen lig shows.numbers g.lig_props.0)))

mark_same : (mask byte lig : ℕ → ℕ) → IsViewOf mask byte lig → (n m : ℕ) (c d : Counted) (g h : Glyph) → (n == 0) ≡ false
    → (m == 0) ≡ false → CountedAlike c d → shown_glyph mask byte lig g ≡ shown_glyph mask byte lig h
    → shown_glyph mask byte lig (as_mark n c g) ≡ shown_glyph mask byte lig (as_mark m d h)
mark_same mask byte lig shows n m c d g h some more alike e =
    let made : ℕ → ℕ → Glyph → Glyph = λ all last v. with_three v v.mask v.syllable (mark_of lig all last (component v.lig_props)) in
    mark_shown mask byte lig shows n c g some ∙ ap (λ x. made x c.last (shown_glyph mask byte lig g)) alike.all
    ∙ ap (λ x. made d.all x (shown_glyph mask byte lig g)) alike.last ∙ ap (made d.all d.last) e
    ∙ sym (mark_shown mask byte lig shows m d h more)

-- ---- LISTS

abbrev pub AlikeTo : (Glyph → Glyph) → Glyphs → Glyphs → Type 0
AlikeTo v gs hs = map v gs ≡ map v hs

abbrev pub head_or : Glyphs → Glyph
head_or [] = default_glyph
head_or (g ∷ gs) = g

pub alike_long : (v : Glyph → Glyph) (gs hs : Glyphs) → AlikeTo v gs hs → length gs ≡ length hs
alike_long v gs hs e = sym (length-map gs v) ∙ ap length e ∙ length-map hs v

pub at_same : (v : Glyph → Glyph) (gs hs : Glyphs) (i : ℕ) → AlikeTo v gs hs → v (glyph_at gs i) ≡ v (glyph_at hs i)
at_same v [] [] i e = refl
at_same v [] (h ∷ hs) i e = absurd (omega (arith, ap length e))
at_same v (g ∷ gs) [] i e = absurd (omega (arith, ap length e))
at_same v (g ∷ gs) (h ∷ hs) zero e = ap head_or e
at_same v (g ∷ gs) (h ∷ hs) (suc i) e = at_same v gs hs i (ap (drop 1) e)

pub set_same : (v : Glyph → Glyph) (gs hs : Glyphs) (i : ℕ) (x y : Glyph) → AlikeTo v gs hs → v x ≡ v y
    → AlikeTo v (set gs i x) (set hs i y)
set_same v [] [] i x y e same = refl
set_same v [] (h ∷ hs) i x y e same = absurd (omega (arith, ap length e))
set_same v (g ∷ gs) [] i x y e same = absurd (omega (arith, ap length e))
set_same v (g ∷ gs) (h ∷ hs) zero x y e same = ap (λ z. z ∷ map v gs) same ∙ ap (λ l. v y ∷ l) (ap (drop 1) e)
set_same v (g ∷ gs) (h ∷ hs) (suc i) x y e same = ap (λ z. z ∷ map v (set gs i x)) (ap head_or e)
    ∙ ap (λ l. v h ∷ l) (set_same v gs hs i x y (ap (drop 1) e) same)

remove_seen : (v : Glyph → Glyph) (gs : Glyphs) (p : ℕ) → map v (remove gs p) ≡ remove (map v gs) p
remove_seen v gs p = map-append v (take p gs) (drop (suc p) gs)
    ∙ ap (λ l. l ++ map v (drop (suc p) gs)) (sym (take-map v p gs)) ∙ ap (λ l. take p (map v gs) ++ l) (sym (drop-map v (suc p) gs))

removed_same : (v : Glyph → Glyph) (ps : List ℕ) (gs hs : Glyphs) → AlikeTo v gs hs
    → AlikeTo v (removed_all ps gs) (removed_all ps hs)
unfolding removed_all
removed_same v [] gs hs e = e
removed_same v (p ∷ ps) gs hs e = remove_seen v (removed_all ps gs) p
    ∙ ap (λ l. remove l p) (removed_same v ps gs hs e) ∙ sym (remove_seen v (removed_all ps hs) p)

-- ---- THE STRETCH

pub record MarkedAlike (v : Glyph → Glyph) (x y : Marked) : Type 0 where
  pub text : AlikeTo v x.text y.text
  pub counted : CountedAlike x.counted y.counted

pick_alike : (v : Glyph → Glyph) (test inner : Bool) (a b c x y z : Marked) → MarkedAlike v a x → MarkedAlike v b y
    → (inner ≡ false → MarkedAlike v c z)
    → MarkedAlike v (if test then a else (if inner then b else c)) (if test then x else (if inner then y else z))
pick_alike v true inner a b c x y z one two three = one
pick_alike v false true a b c x y z one two three = two
pick_alike v false false a b c x y z one two three = three refl

one_alike : (mask byte lig : ℕ → ℕ) → IsViewOf mask byte lig → (n m : ℕ) (ps : List ℕ) (gs hs : Glyphs) (i : ℕ) (c d : Counted)
    → BothNumbered n m → AlikeTo (shown_glyph mask byte lig) gs hs → CountedAlike c d
    → MarkedAlike (shown_glyph mask byte lig) (marked_one n ps gs i c) (marked_one m ps hs i d)
unfolding marked_one
one_alike mask byte lig shows n m ps gs hs i c d both e alike =
    let v : Glyph → Glyph = shown_glyph mask byte lig in
    let here = at_same v gs hs i e in
    let test = list_any (λ p. p == i) ps in
    let a : Marked = record { text = gs; counted = counted_too c (glyph_at gs i) } in
    let b : Marked = record { text = gs; counted = c } in
    let k : Marked = record { text = set gs i (as_mark n c (glyph_at gs i)); counted = c } in
    let x : Marked = record { text = hs; counted = counted_too d (glyph_at hs i) } in
    let y : Marked = record { text = hs; counted = d } in
    let z : Marked = record { text = set hs i (as_mark m d (glyph_at hs i)); counted = d } in
    subst (λ inner. MarkedAlike v (if test then a else (if n == 0 then b else k)) (if test then x else (if inner then y else z))) both
    (pick_alike v test (n == 0) a b k x y z
    (record { text = e; counted = counted_alike mask byte lig shows.numbers c d (glyph_at gs i) (glyph_at hs i) alike here })
    (record { text = e; counted = alike })
    (λ some. record {
      text = set_same v gs hs i (as_mark n c (glyph_at gs i)) (as_mark m d (glyph_at hs i)) e
          (mark_same mask byte lig shows n m c d (glyph_at gs i) (glyph_at hs i) some (sym both ∙ some) alike here);
      counted = alike;
    }))

marks_alike : (mask byte lig : ℕ → ℕ) → IsViewOf mask byte lig → (k n m : ℕ) (ps : List ℕ) (gs hs : Glyphs) (i : ℕ) (c d : Counted)
    → BothNumbered n m → AlikeTo (shown_glyph mask byte lig) gs hs → CountedAlike c d
    → MarkedAlike (shown_glyph mask byte lig) (marks_inside k n ps gs i c) (marks_inside k m ps hs i d)
unfolding marks_inside
marks_alike mask byte lig shows zero n m ps gs hs i c d both e alike = record { text = e; counted = alike }
marks_alike mask byte lig shows (suc k) n m ps gs hs i c d both e alike =
    let one = one_alike mask byte lig shows n m ps gs hs i c d both e alike in
    marks_alike mask byte lig shows k n m ps (marked_one n ps gs i c).text (marked_one m ps hs i d).text (i + 1)
    (marked_one n ps gs i c).counted (marked_one m ps hs i d).counted both one.text one.counted

pub joined_alike : (mask byte lig : ℕ → ℕ) → IsViewOf mask byte lig → (gdef : List ℕ) (n m : ℕ) (ps : List ℕ) (to : ℕ) (gs hs : Glyphs)
    → BothNumbered n m → AlikeTo (shown_glyph mask byte lig) gs hs
    → AlikeTo (shown_glyph mask byte lig) (stretch_joined gdef n ps to gs) (stretch_joined gdef m ps to hs)
unfolding stretch_joined
joined_alike mask byte lig shows gdef n m ps to gs hs both e =
    let v : Glyph → Glyph = shown_glyph mask byte lig in
    let first = at_same v gs hs 0 e in
    let one = counted_too nothing_counted (glyph_at gs 0) in
    let two = counted_too nothing_counted (glyph_at hs 0) in
    let start = counted_alike mask byte lig shows.numbers nothing_counted nothing_counted (glyph_at gs 0) (glyph_at hs 0)
    (record { all = refl; last = refl }) first in
    let long : length gs - 1 ≡ length hs - 1 = ap (λ k. k - 1) (alike_long v gs hs e) in
    let x = marks_inside (length gs - 1) n ps gs 1 one in
    let y = marks_inside (length hs - 1) m ps hs 1 two in
    let marks : MarkedAlike v x y = subst (λ k. MarkedAlike v x (marks_inside k m ps hs 1 two)) long
    (marks_alike mask byte lig shows (length gs - 1) n m ps gs hs 1 one two both e start) in
    let glyphs : v (ligature_glyph gdef to n x.counted.all (glyph_at gs 0)) ≡ v (ligature_glyph gdef to m y.counted.all (glyph_at hs 0)) =
    ligature_same mask byte lig shows gdef to n m x.counted.all (glyph_at gs 0) (glyph_at hs 0) both first
    ∙ ap (λ k. v (ligature_glyph gdef to m k (glyph_at hs 0))) marks.counted.all in
    removed_same v ps (set x.text 0 (ligature_glyph gdef to n x.counted.all (glyph_at gs 0)))
    (set y.text 0 (ligature_glyph gdef to m y.counted.all (glyph_at hs 0)))
    (set_same v x.text y.text 0 (ligature_glyph gdef to n x.counted.all (glyph_at gs 0))
    (ligature_glyph gdef to m y.counted.all (glyph_at hs 0)) marks.text glyphs)
