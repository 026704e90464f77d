-- A lookup of ligatures along a text makes of it what the model makes, to each view.
use Rattle.std.proofs.Common.{ℕ, zero, suc, ◌+◌, ◌-◌, ◌%◌, ◌<◌, ◌≤◌, ◌≡◌, ◌==◌, ◌&&◌, ◌||◌, ◌⊎◌, inl, not, min, nat_lt, bit_and, if◌then◌else◌, Bool, true, false, List, [], ◌∷◌, ◌++◌, length, map, take, drop, set, fold, Option, None, Some, option_and_then, option_map, refl, sym, ap, subst, ◌∙◌, arith, append_assoc, length-append}
use Rattle.std.specs.List.{AllByRecursion, list_all}
use Rattle.std.proofs.Math.Seq.{get_or-append_seam, set-append_seam}
use Rattle.std.proofs.lemmas.Bool.Decides.{nat_tests}
use Rattle.std.proofs.lemmas.List.{drop-map, drop_at, get_or-append-add, get_or_append_left, length-map, length-set, length-take-le, map-append, take-append-drop, take-map, take_at}
use Rattle.shapers_buffer.specs.Clusters.{flooded, in_cluster, least, merges}
use Rattle.shapers_buffer.specs.Glyph.{clusters, default_glyph, without_flags}
use Rattle.shapers_buffer.specs.Glyphs.{Glyph, Glyphs}
use Rattle.shapers_buffer.specs.Properties.{component, has_bit}
use Rattle.shapers_buffer.specs.declared.buffer.lookup_record.LookupRecord.{LookupRecord}
use Rattle.opentype_face.specs.Firsts.{first_from}
use Rattle.opentype_face.specs.Lookups.{rule_count_in, subtable_in, subtables_in, type_in}
use Rattle.opentype_layout.specs.Sight.{ignores, sight_of_input}
use Rattle.opentype_layout.specs.Text.{glyph_at}
use Rattle.opentype_layout.specs.declared.sight.Sight.{Sight}
use Rattle.opentype_gsub.specs.Along.{Along, lookup_applied, lookup_stepped, went_on}
use Rattle.opentype_gsub.specs.Applied.{PlaceChange, ligated_put, ligature_put, one_put, put_in, two_byte_number}
use Rattle.opentype_gsub.specs.Came.{Begun, came_in, nth_came}
use Rattle.opentype_gsub.specs.Decided.{set_for_glyph}
use Rattle.opentype_gsub.specs.Edits.{last_place, removed_all, replaced}
use Rattle.opentype_gsub.specs.Ligated.{is_base_at, is_mark_at, is_of_base, is_of_marks, ligated, ligature_glyph, marks_inside, number_before, number_for}
use Rattle.opentype_gsub.specs.Ligatures.{nth_ligature}
use Rattle.opentype_gsub.specs.Looked.{tried}
use Rattle.opentype_gsub.specs.Machine.{machine_stepped, nested, started}
use Rattle.opentype_gsub.specs.Setting.{Setting, how_of, is_seen, sights_of}
use Rattle.opentype_gsub.specs.declared.pass.LookupUse.{LookupUse}
use Rattle.opentype_gsub.proofs.Machines.{came_is}
use Rattle.opentype_break_laws.specs.OrderedTexts.{AreOrdered, HasNoComponents, PrecedesInOrder}
use Rattle.opentype_break_laws.proofs.ByGlyph.{first_mapped, next_step, no_step, ruleless}
use Rattle.opentype_break_laws.proofs.LigatureFits.{HasInFront, Climbs, EndsWith, FittingLigature, IsPartOf, LooksAnywhere, essence, ligature_fit, fit_climbs, fit_in, fit_kept, fit_moved, places_behind, moved_fit, none_fits}
use Rattle.opentype_break_laws.proofs.LigatureModel.{Emitted, all_back, all_front, all_weaker, IsFitting, climbs_last, emit, emit_by, emit_parts, emit_short, emit_stays, stretch_joined, last_of, marks_long, stretch_merged, model, number_of, top_of}
use Rattle.opentype_break_laws.proofs.LigatureSteps.{climbs_within, last_place_moved, ligated_behind, read_among, remove_long}
use Rattle.opentype_break_laws.proofs.LigatureViews.{AlikeTo, BothNumbered, IsViewOf, ShowsNumbers, alike_long, all_in_seen, at_same, component_seen, essence_same, flood_seen, joined_alike, put_same, shown_glyph, set_same}

-- ---- WHAT FITS, if the lookup sees the first glyph

abbrev pub sight_for : List ℕ → LookupUse → List ℕ → Sight
sight_for gdef use_of table = sight_of_input gdef table (how_of use_of) 0

abbrev pub fits_of : List ℕ → LookupUse → List ℕ → Glyphs → FittingLigature
fits_of gdef use_of table [] = None
fits_of gdef use_of table (g ∷ gs) =
    if is_seen gdef use_of table g then ligature_fit gdef (sight_for gdef use_of table) table (g ∷ gs) 0 else None

part_in_front : (g : Glyph) (xs ys : Glyphs) → IsPartOf (g ∷ xs) (g ∷ (xs ++ ys)) 0
part_in_front g xs ys = record {
  within = omega (arith, length-append xs ys);
  alike = λ i lt. (let z : i ≡ 0 + i = omega arith in
      ap essence (sym (get_or_append_left (g ∷ xs) ys default_glyph i lt) ∙ ap (glyph_at (g ∷ (xs ++ ys))) z));
}

begins : (g : Glyph) (xs ys : Glyphs) → HasNoComponents (g ∷ (xs ++ ys)) → HasInFront (g ∷ (xs ++ ys)) (g ∷ xs)
begins g xs ys none = record {
  part = part_in_front g xs ys;
  alike = λ i lt. ap essence (sym (get_or_append_left (g ∷ xs) ys default_glyph i lt));
  within = omega (arith, length-append xs ys);
  here = all_front (λ x. component x.lig_props ≡ 0) (g ∷ xs) ys none;
  there = none;
}

none_by : (b : Bool) (o p : FittingLigature) → (o ≡ None → p ≡ None) → (if b then o else None) ≡ None → (if b then p else None) ≡ None
none_by true o p on e = on e
none_by false o p on e = refl

some_by : (b : Bool) (o p : FittingLigature) (it : ℕ × List ℕ) → (o ≡ Some it → p ≡ Some it)
    → (let x : FittingLigature = (if b then o else None) in x) ≡ Some it → (let x : FittingLigature = (if b then p else None) in x) ≡ Some it
some_by true o p it on e = on e
some_by false o p it on e = absurd (cc)

gives_by : (P : Type 0) (b : Bool) (o : FittingLigature) (it : ℕ × List ℕ) → (o ≡ Some it → P)
    → (let x : FittingLigature = (if b then o else None) in x) ≡ Some it → P
gives_by P true o it on e = on e
gives_by P false o it on e = absurd (cc)

fits_climb : (gdef : List ℕ) (use_of : LookupUse) (table : List ℕ) (gs : Glyphs) (it : ℕ × List ℕ) → HasNoComponents gs
    → fits_of gdef use_of table gs ≡ Some it → Climbs 0 it.1 (length gs)
fits_climb gdef use_of table [] it none e = absurd (cc)
fits_climb gdef use_of table (g ∷ gs) it none e =
    gives_by (Climbs 0 it.1 (length (g ∷ gs))) (is_seen gdef use_of table g)
    (ligature_fit gdef (sight_for gdef use_of table) table (g ∷ gs) 0) it
    (fit_climbs gdef (sight_for gdef use_of table) table (g ∷ gs) 0 it none) e

pub fits_are : (gdef : List ℕ) (use_of : LookupUse) (table : List ℕ) → LooksAnywhere (sight_for gdef use_of table)
    → IsFitting (fits_of gdef use_of table)
fits_are gdef use_of table looks =
    let sight = sight_for gdef use_of table in
    record {
      none = λ g xs ys none e. none_by (is_seen gdef use_of table g) (ligature_fit gdef sight table (g ∷ (xs ++ ys)) 0)
          (ligature_fit gdef sight table (g ∷ xs) 0)
          (λ no. none_fits gdef sight table (g ∷ xs) (g ∷ (xs ++ ys)) 0 0 looks (part_in_front g xs ys) none (omega arith) no) e;
      some = λ g xs ys it none e all. some_by (is_seen gdef use_of table g) (ligature_fit gdef sight table (g ∷ (xs ++ ys)) 0)
          (ligature_fit gdef sight table (g ∷ xs) 0) it
          (λ is. fit_kept gdef sight table (g ∷ xs) (g ∷ (xs ++ ys)) it looks (begins g xs ys none) (omega arith) is all) e;
      climbs = λ gs it none e. fits_climb gdef use_of table gs it none e;
    }

-- ---- A LOOKUP of ligatures in a text

pub record IsLigating (s : Setting) (table : List ℕ) : Type 0 where
  pub types : (i : ℕ) → i < subtables_in table → type_in 7 table i ≡ 4
  pub across : s.lookup.per_syllable ≡ false
  pub merging : merges s.level ≡ true
  pub flagless : (m : ℕ) → bit_and (without_flags m) s.lookup.mask ≡ bit_and m s.lookup.mask

anywhere : (gdef : List ℕ) (use_of : LookupUse) (table : List ℕ) → use_of.per_syllable ≡ false
    → (sight_for gdef use_of table).syllable ≡ 0
unfolding sight_of_input
anywhere gdef use_of table e = rw e refl

sight_mask : (gdef : List ℕ) (use_of : LookupUse) (table : List ℕ) → (sight_for gdef use_of table).mask ≡ use_of.mask
unfolding sight_of_input
sight_mask gdef use_of table = refl

pub looks_anywhere : (s : Setting) (table : List ℕ) → IsLigating s table → LooksAnywhere (sight_for s.gdef s.lookup table)
looks_anywhere s table is = record {
  flagless = λ m. subst (λ k. bit_and (without_flags m) k ≡ bit_and m k) (sym (sight_mask s.gdef s.lookup table)) (is.flagless m);
  anywhere = anywhere s.gdef s.lookup table is.across;
}

sight_here : (gdef : List ℕ) (use_of : LookupUse) (table : List ℕ) (g : Glyph) → use_of.per_syllable ≡ false
    → (sights_of gdef use_of table g).input ≡ sight_for gdef use_of table
unfolding sights_of sight_of_input
sight_here gdef use_of table g e = rw e refl

-- what comes, by the ligature that fits
abbrev as_put : Setting → ℕ → Glyphs → LookupRecord → ℕ × List ℕ → PlaceChange ⊎ Begun
as_put s at gs r it = inl (ligature_put s.gdef s.level at gs r it)

and_then_mapped : {Y : Type 0} (f : ℕ × List ℕ → Y) (one : List ℕ → FittingLigature) (o : Option (List ℕ))
    → option_and_then (λ x. option_map f (one x)) o ≡ option_map f (option_and_then one o)
and_then_mapped f one None = refl
and_then_mapped f one (Some x) = refl

twice_mapped : {X Y Z : Type 0} (f : X → Y) (h : Y → Z) (o : Option X) → option_map h (option_map f o) ≡ option_map (λ x. h (f x)) o
twice_mapped f h None = refl
twice_mapped f h (Some x) = refl

put_four : (s : Setting) (sight : Sight) (bytes : List ℕ) (gs : Glyphs) (at : ℕ) (r : LookupRecord)
    → one_put s sight 4 bytes gs at r ≡ option_map (ligature_put s.gdef s.level at gs r) (fit_in s.gdef sight gs at bytes)
unfolding one_put ligated_put
put_four s sight bytes gs at r = and_then_mapped (ligature_put s.gdef s.level at gs r)
    (λ set. first_from (rule_count_in set) (nth_ligature s.gdef sight gs at set) 0) (set_for_glyph bytes (two_byte_number gs at))

pub comes_fit : (s : Setting) (table : List ℕ) (gs : Glyphs) (at : ℕ) (r : LookupRecord) → IsLigating s table → at < length gs
    → came_in s table gs at r ≡ option_map (as_put s at gs r) (ligature_fit s.gdef (sight_for s.gdef s.lookup table) table gs at)
unfolding ligature_fit
comes_fit s table gs at r is lt =
    let sights = sights_of s.gdef s.lookup table (glyph_at gs at) in
    let all : Sight → Option (PlaceChange ⊎ Begun) = λ sight. option_map (as_put s at gs r)
    (first_from (subtables_in table) (λ i. fit_in s.gdef sight gs at (subtable_in 7 table i)) 0) in
    sym (came_is s table gs at r sights lt refl)
    ∙ first_mapped (as_put s at gs r) (λ i. fit_in s.gdef sights.input gs at (subtable_in 7 table i))
    (nth_came s sights table at gs r) (subtables_in table) 0
    (λ d less. (let bytes = subtable_in 7 table (0 + d) in
    ruleless s sights table at gs r (0 + d) 4 (is.types (0 + d) (omega (arith, less))) refl
    ∙ ap (option_map inl) (put_four s sights.input bytes gs at r)
    ∙ twice_mapped (ligature_put s.gdef s.level at gs r) inl (fit_in s.gdef sights.input gs at bytes)))
    ∙ ap all (sight_here s.gdef s.lookup table (glyph_at gs at) is.across)

-- ---- GLYPHS that a view shows alike

seen_essence : (gdef : List ℕ) (use_of : LookupUse) (table : List ℕ)
    → ((m : ℕ) → bit_and (without_flags m) use_of.mask ≡ bit_and m use_of.mask) → (g : Glyph)
    → is_seen gdef use_of table (essence g) ≡ is_seen gdef use_of table g
unfolding is_seen ignores
seen_essence gdef use_of table flagless g =
    let sight = sight_of_input gdef table (how_of use_of) 0 in
    ap (λ n. not (n == 0) && not (ignores gdef sight.flag sight.set g)) (flagless g.mask)

pub seen_same : (gdef : List ℕ) (use_of : LookupUse) (table : List ℕ)
    → ((m : ℕ) → bit_and (without_flags m) use_of.mask ≡ bit_and m use_of.mask) → (g h : Glyph) → essence g ≡ essence h
    → is_seen gdef use_of table g ≡ is_seen gdef use_of table h
seen_same gdef use_of table flagless g h e = sym (seen_essence gdef use_of table flagless g)
    ∙ ap (is_seen gdef use_of table) e ∙ seen_essence gdef use_of table flagless h

component_alike : (mask byte lig : ℕ → ℕ) → ShowsNumbers lig → (g h : Glyph) → shown_glyph mask byte lig g ≡ shown_glyph mask byte lig h
    → component g.lig_props ≡ component h.lig_props
component_alike mask byte lig shows g h e = sym (component_seen lig shows g.lig_props.0)
    ∙ ap (λ (x : Glyph). component x.lig_props) e ∙ component_seen lig shows h.lig_props.0

pub free_at : (gs : Glyphs) (i : ℕ) → HasNoComponents gs → component (glyph_at gs i).lig_props ≡ 0
free_at [] i all = refl
free_at (g ∷ gs) zero all = all.0
free_at (g ∷ gs) (suc i) all = free_at gs i all.1

-- a text that ends as a view shows
ends_with : (mask byte lig : ℕ → ℕ) → IsViewOf mask byte lig → (text out rest : Glyphs)
    → AlikeTo (shown_glyph mask byte lig) text (out ++ rest) → HasNoComponents rest → EndsWith text rest (length out)
ends_with mask byte lig shows text out rest e none =
    let v : Glyph → Glyph = shown_glyph mask byte lig in
    let long : length text ≡ length out + length rest = alike_long v text (out ++ rest) e ∙ length-append out rest in
    let same : (i : ℕ) → v (glyph_at rest i) ≡ v (glyph_at text (length out + i)) = λ i.
    sym (at_same v text (out ++ rest) (length out + i) e ∙ ap v (get_or-append-add out rest i default_glyph)) in
    record {
      part = record {
        within = omega (arith, long);
        alike = λ i lt. essence_same mask byte lig shows (glyph_at rest i) (glyph_at text (length out + i)) (same i);
      };
      whole = long;
      here = none;
      there = λ i. sym (component_alike mask byte lig shows.numbers (glyph_at rest i) (glyph_at text (length out + i)) (same i)) ∙ free_at rest i none;
    }

-- a text in parts, as a view shows those of another
pub record InParts (v : Glyph → Glyph) (text out rest : Glyphs) : Type 0 where
  pub front : Glyphs
  pub back : Glyphs
  pub parts : text ≡ front ++ back
  pub first : AlikeTo v front out
  pub second : AlikeTo v back rest

pub seen_in_parts : (v : Glyph → Glyph) (text out rest : Glyphs) → AlikeTo v text (out ++ rest) → InParts v text out rest
seen_in_parts v text out rest e =
    let n = length out in
    let whole : map v text ≡ map v out ++ map v rest = e ∙ map-append v out rest in
    record {
      front = take n text;
      back = drop n text;
      parts = sym (take-append-drop n text);
      first = sym (take-map v n text) ∙ ap (take n) whole ∙ take_at (map v out) (map v rest) n (length-map out v);
      second = sym (drop-map v n text) ∙ ap (drop n) whole ∙ drop_at (map v out) (map v rest) n (length-map out v);
    }

pub alike_both : (v : Glyph → Glyph) (a b c d : Glyphs) → AlikeTo v a c → AlikeTo v b d → AlikeTo v (a ++ b) (c ++ d)
alike_both v a b c d one two = map-append v a b ∙ ap (λ l. l ++ map v b) one ∙ ap (λ l. map v c ++ l) two ∙ sym (map-append v c d)

-- ---- NUMBERS of a ligature: none where it has none

all_moved : (f h : ℕ → Bool) (from end : ℕ) → ((p : ℕ) → p < end → f (from + p) ≡ h p) → (at : ℕ) (ps : List ℕ) → Climbs at ps end
    → list_all f (places_behind from ps) ≡ list_all h ps
all_moved f h from end same at [] climbs = refl
all_moved f h from end same at (p ∷ ps) climbs = ap (λ b. b && list_all f (places_behind from ps)) (same p climbs.1.0)
    ∙ ap (λ b. h p && b) (all_moved f h from end same p ps climbs.1.1)

number_by : (one two : Bool) (n : ℕ) → ((if one || two then 0 else n % 7 + 1) == 0) ≡ ((if one || two then 0 else 1) == 0)
number_by true two n = refl
number_by false true n = refl
number_by false false n = grind (arith, nat_tests)

of_props : (bit : ℕ) (mask byte lig : ℕ → ℕ) (g h : Glyph) → shown_glyph mask byte lig g ≡ shown_glyph mask byte lig h
    → has_bit bit g.glyph_props.0 ≡ has_bit bit h.glyph_props.0
of_props bit mask byte lig g h e = ap (λ (x : Glyph). has_bit bit x.glyph_props.0) e

numbers_alike : (mask byte lig : ℕ → ℕ) (out t rest u : Glyphs) (ps : List ℕ) → AlikeTo (shown_glyph mask byte lig) t u → 0 < length t
    → Climbs 0 ps (length t)
    → BothNumbered (number_for (out ++ (t ++ rest)) (length out) (places_behind (length out) ps)) (number_of u ps)
unfolding number_for is_of_marks is_of_base
numbers_alike mask byte lig out t rest u ps e some climbs =
    let a = length out in
    let whole : Glyphs = out ++ (t ++ rest) in
    let v : Glyph → Glyph = shown_glyph mask byte lig in
    let mark : (p : ℕ) → p < length t → is_mark_at whole (a + p) ≡ is_mark_at u p = λ p lt.
    ap (λ (g : Glyph). has_bit 8 g.glyph_props.0) (read_among out t rest p lt)
    ∙ of_props 8 mask byte lig (glyph_at t p) (glyph_at u p) (at_same v t u p e) in
    let base : is_base_at whole a ≡ is_base_at u 0 = ap (is_base_at whole) (let z : a ≡ a + 0 = omega arith in z)
    ∙ ap (λ (g : Glyph). has_bit 2 g.glyph_props.0) (read_among out t rest 0 some)
    ∙ of_props 2 mask byte lig (glyph_at t 0) (glyph_at u 0) (at_same v t u 0 e) in
    let first : is_mark_at whole a ≡ is_mark_at u 0 = ap (is_mark_at whole) (let z : a ≡ a + 0 = omega arith in z)
    ∙ mark 0 some in
    let marks : list_all (is_mark_at whole) (places_behind a ps) ≡ list_all (is_mark_at u) ps =
    all_moved (is_mark_at whole) (is_mark_at u) a (length t) mark 0 ps climbs in
    let n = number_before a whole in
    let made : Bool → Bool → Bool → Bool = λ x y z. ((if (x && z) || (y && z) then 0 else n % 7 + 1) == 0) in
    ap (λ x. made x (is_base_at whole a) (list_all (is_mark_at whole) (places_behind a ps))) first
    ∙ ap (λ y. made (is_mark_at u 0) y (list_all (is_mark_at whole) (places_behind a ps))) base
    ∙ ap (made (is_mark_at u 0) (is_base_at u 0)) marks
    ∙ number_by (is_mark_at u 0 && list_all (is_mark_at u) ps) (is_base_at u 0 && list_all (is_mark_at u) ps) n

-- ---- HOW LONG a ligature leaves its stretch

removed_long : (ps : List ℕ) (at : ℕ) (t : Glyphs) (end : ℕ) → end ≡ length t → Climbs at ps end
    → length (removed_all ps t) + length ps ≡ length t
unfolding removed_all
removed_long [] at t end e climbs = omega arith
removed_long (p ∷ ps) at t end e climbs =
    let within = climbs_within p ps t end e climbs.1.0 climbs.1.1 in
    omega (arith, removed_long ps p t end e climbs.1.1, remove_long (removed_all ps t) p within)

pub joined_long : (gdef : List ℕ) (n : ℕ) (ps : List ℕ) (to : ℕ) (gs : Glyphs) → Climbs 0 ps (length gs)
    → length (stretch_joined gdef n ps to gs) + length ps ≡ length gs
unfolding stretch_joined
joined_long gdef n ps to gs climbs =
    let m = marks_inside (length gs - 1) n ps gs 1 _ in
    let y = ligature_glyph gdef to n m.counted.all (glyph_at gs 0) in
    let long : length (set m.text 0 y) ≡ length gs = length-set m.text 0 y
    ∙ marks_long (length gs - 1) n ps gs 1 (length gs) _ refl in
    removed_long ps 0 (set m.text 0 y) (length gs) (sym long) climbs ∙ long

-- ---- A STEP

-- what a step comes to: the glyphs put out behind those before, and the rest, and the place behind them
pub record HasStepped (v : Glyph → Glyph) (out made rest : Glyphs) (c : PlaceChange) : Type 0 where
  pub text : AlikeTo v c.text ((out ++ made) ++ rest)
  pub next : c.next ≡ length (out ++ made)

least_first : (c : ℕ) (cs : List ℕ) → AllByRecursion (λ k. c ≤ k) cs → fold min c cs ≡ c
least_first c [] all = refl
least_first c (k ∷ ks) all =
    let is : min c k ≡ c = omega (arith, all.0) in ap (λ m. fold min m ks) is ∙ least_first c ks all.1

above_all : (g : Glyph) (gs : Glyphs) → AllByRecursion (PrecedesInOrder g) gs → AllByRecursion (λ k. g.cluster ≤ k) (clusters gs)
above_all g [] all = tt
above_all g (h ∷ hs) all = (all.0.0, above_all g hs all.1)

clusters_alike : (mask byte lig : ℕ → ℕ) (gs hs : Glyphs) → AlikeTo (shown_glyph mask byte lig) gs hs → clusters gs ≡ clusters hs
clusters_alike mask byte lig [] [] e = refl
clusters_alike mask byte lig [] (h ∷ hs) e = absurd (omega (arith, ap length e))
clusters_alike mask byte lig (g ∷ gs) [] e = absurd (omega (arith, ap length e))
clusters_alike mask byte lig (g ∷ gs) (h ∷ hs) e =
    ap (λ c. c ∷ clusters gs) (ap (λ (l : Glyphs). (glyph_at l 0).cluster) e)
    ∙ ap (λ l. h.cluster ∷ l) (clusters_alike mask byte lig gs hs (ap (drop 1) e))

no_count : (x : ℕ) (xs : List ℕ) → (length (x ∷ xs) == 0) ≡ false
no_count x xs = grind (arith, nat_tests)

ligature_change : (s : Setting) (at : ℕ) (gs : Glyphs) (r : LookupRecord) (to x : ℕ) (xs : List ℕ)
    → ligature_put s.gdef s.level at gs r (to, x ∷ xs) ≡ record {
      text = ligated s.gdef s.level at (x ∷ xs) to gs;
      next = last_place at (x ∷ xs) + 1 - length (x ∷ xs);
      lookups = r;
    }
ligature_change s at gs r to x xs =
    let ligature : PlaceChange = record {
      text = ligated s.gdef s.level at (x ∷ xs) to gs;
      next = last_place at (x ∷ xs) + 1 - length (x ∷ xs);
      lookups = r;
    } in
    ap (λ b. if b then put_in s.gdef at gs r to else ligature) (no_count x xs)

-- a ligature: of y, front and behind, which the view shows as g, its own front and behind
ligature_steps : (mask byte lig : ℕ → ℕ) → IsViewOf mask byte lig → (s : Setting) (r : LookupRecord) (to p : ℕ) (ps : List ℕ)
    (before out : Glyphs) (y g : Glyph) (fore front aft behind : Glyphs) → merges s.level ≡ true
    → AlikeTo (shown_glyph mask byte lig) before out → shown_glyph mask byte lig y ≡ shown_glyph mask byte lig g
    → AlikeTo (shown_glyph mask byte lig) fore front → AlikeTo (shown_glyph mask byte lig) aft behind → length front ≡ last_of p ps
    → Climbs 0 (p ∷ ps) (length (g ∷ front)) → AreOrdered (g ∷ (front ++ behind)) → HasNoComponents aft
    → HasStepped (shown_glyph mask byte lig) out (stretch_joined s.gdef (number_of (stretch_merged g front) (p ∷ ps)) (p ∷ ps) to (stretch_merged g front))
    (flooded (top_of g front) g.cluster behind)
    (ligature_put s.gdef s.level (length out) (before ++ (y ∷ (fore ++ aft))) r (to, places_behind (length out) (p ∷ ps)))
ligature_steps mask byte lig shows s r to p ps before out y g fore front aft behind merging outs first fores afts long climbs order none =
    let v : Glyph → Glyph = shown_glyph mask byte lig in
    let a = length out in
    let b_long : length before ≡ a = alike_long v before out outs in
    let f_long : length fore ≡ length front = alike_long v fore front fores in
    let cluster : y.cluster ≡ g.cluster = ap (λ (x : Glyph). x.cluster) first in
    let heads : AlikeTo v (y ∷ fore) (g ∷ front) = ap (λ x. x ∷ map v fore) first ∙ ap (λ l. v g ∷ l) fores in
    let cs = clusters_alike mask byte lig (y ∷ fore) (g ∷ front) heads in
    let low : least (clusters (y ∷ fore)) ≡ y.cluster = ap least cs
    ∙ least_first g.cluster (clusters front) (above_all g front (all_front (PrecedesInOrder g) front behind order.0)) ∙ sym cluster in
    let t = stretch_merged y fore in
    let u = stretch_merged g front in
    let alike : AlikeTo v t u = all_in_seen mask byte lig shows y.cluster (y ∷ fore) ∙ ap (map (in_cluster y.cluster)) heads
    ∙ ap (λ c. map (in_cluster c) (map v (g ∷ front))) cluster ∙ sym (all_in_seen mask byte lig shows g.cluster (g ∷ front)) in
    let top : top_of y fore ≡ top_of g front = ap (λ n. (glyph_at (y ∷ fore) n).cluster) f_long
    ∙ ap (λ (x : Glyph). x.cluster) (at_same v (y ∷ fore) (g ∷ front) (length front) heads) in
    let left = flooded (top_of y fore) y.cluster aft in
    let right = flooded (top_of g front) g.cluster behind in
    let rests : AlikeTo v left right = flood_seen mask byte lig shows (top_of y fore) y.cluster aft
    ∙ ap (λ k. flooded k y.cluster (map v aft)) top ∙ ap (λ c. flooded (top_of g front) c (map v aft)) cluster
    ∙ ap (flooded (top_of g front) g.cluster) afts ∙ sym (flood_seen mask byte lig shows (top_of g front) g.cluster behind) in
    let here : Climbs 0 (p ∷ ps) (length (y ∷ fore)) = subst (λ n. Climbs 0 (p ∷ ps) (suc n)) (sym f_long) climbs in
    let whole : Glyphs = before ++ (t ++ left) in
    let n = number_for whole (length before) (places_behind (length before) (p ∷ ps)) in
    let m = number_of u (p ∷ ps) in
    let t_long : length (y ∷ fore) ≡ length t = sym (length-map (y ∷ fore) (in_cluster y.cluster)) in
    let both : BothNumbered n m = numbers_alike mask byte lig before t left u (p ∷ ps) alike (omega (arith, t_long))
    (subst (Climbs 0 (p ∷ ps)) t_long here) in
    let made = stretch_joined s.gdef n (p ∷ ps) to t in
    let model_made = stretch_joined s.gdef m (p ∷ ps) to u in
    let mades : AlikeTo v made model_made = joined_alike mask byte lig shows s.gdef n m (p ∷ ps) to t u both alike in
    let put = ligated_behind s.gdef s.level to p ps before y fore aft merging low (f_long ∙ long) here none in
    let text : Glyphs = before ++ (y ∷ (fore ++ aft)) in
    let placed : ligated s.gdef s.level a (places_behind a (p ∷ ps)) to text ≡ before ++ (made ++ left) =
    ap (λ k. ligated s.gdef s.level k (places_behind k (p ∷ ps)) to text) (sym b_long) ∙ put in
    let u_long : length (g ∷ front) ≡ length u = sym (length-map (g ∷ front) (in_cluster g.cluster)) in
    let short = joined_long s.gdef m (p ∷ ps) to u (subst (Climbs 0 (p ∷ ps)) u_long climbs) in
    let q_long : length (places_behind a (p ∷ ps)) ≡ length (p ∷ ps) = length-map (p ∷ ps) (λ q. a + q) in
    subst (HasStepped v out model_made right) (sym (ligature_change s a text r to (a + p) (places_behind a ps))) (record {
      text = ap (map v) placed ∙ alike_both v before (made ++ left) out (model_made ++ right) outs
          (alike_both v made left model_made right mades rests) ∙ sym (ap (map v) (append_assoc out model_made right));
      next = omega (arith, last_place_moved a p ps, q_long, short, u_long, long, length-append out model_made);
    })

free_alike : (mask byte lig : ℕ → ℕ) → ShowsNumbers lig → (gs hs : Glyphs) → AlikeTo (shown_glyph mask byte lig) gs hs → HasNoComponents hs → HasNoComponents gs
free_alike mask byte lig shows [] hs e none = tt
free_alike mask byte lig shows (g ∷ gs) [] e none = absurd (omega (arith, ap length e))
free_alike mask byte lig shows (g ∷ gs) (h ∷ hs) e none = (
  component_alike mask byte lig shows g h (ap (λ l. glyph_at l 0) e) ∙ none.0,
  free_alike mask byte lig shows gs hs (ap (drop 1) e) none.1,
)

-- how a lookup is tried shows in no view of these
pub record TriesUnseen (v : Glyph → Glyph) (s : Setting) (table : List ℕ) : Type 0 where
  pub same : (gs : Glyphs) (at : ℕ) → AlikeTo v (tried s table gs at) gs

unseen_step : (s : Setting) (table : List ℕ) (gs : Glyphs) (at : ℕ) (r : LookupRecord)
    → is_seen s.gdef s.lookup table (glyph_at gs at) ≡ false
    → lookup_stepped s table gs at r ≡ record { text = gs; next = at + 1; lookups = r }
unfolding lookup_stepped
unseen_step s table gs at r e = rw e refl

seen_step : (s : Setting) (table : List ℕ) (gs : Glyphs) (at : ℕ) (r : LookupRecord) (o : Option (PlaceChange ⊎ Begun))
    → is_seen s.gdef s.lookup table (glyph_at gs at) ≡ true → came_in s table (tried s table gs at) at r ≡ o
    → lookup_stepped s table gs at r ≡ went_on at (started (machine_stepped s) (tried s table gs at) r o)
unfolding lookup_stepped nested
seen_step s table gs at r o sees e = rw (sees, e) refl

stays_stepped : (v : Glyph → Glyph) (text out : Glyphs) (g : Glyph) (gs : Glyphs) (r : LookupRecord)
    → AlikeTo v text (out ++ (g ∷ gs))
    → HasStepped v out (g ∷ []) gs (record { text = text; next = length out + 1; lookups = r })
stays_stepped v text out g gs r e = record {
  text = e ∙ sym (ap (map v) (append_assoc out (g ∷ []) gs));
  next = omega (arith, length-append out (g ∷ []));
}

single_stepped : (mask byte lig : ℕ → ℕ) → IsViewOf mask byte lig → (gdef : List ℕ) (to : ℕ) (text out : Glyphs) (g : Glyph) (gs : Glyphs)
    (r : LookupRecord) → AlikeTo (shown_glyph mask byte lig) text (out ++ (g ∷ gs))
    → HasStepped (shown_glyph mask byte lig) out (replaced gdef to 0 g ∷ []) gs (put_in gdef (length out) text r to)
single_stepped mask byte lig shows gdef to text out g gs r e =
    let v : Glyph → Glyph = shown_glyph mask byte lig in
    let a = length out in
    let here : v (glyph_at text a) ≡ v g = at_same v text (out ++ (g ∷ gs)) a e
    ∙ ap v (get_or-append_seam out g gs default_glyph) in
    let x = replaced gdef to 0 (glyph_at text a) in
    let y = replaced gdef to 0 g in
    record {
      text = set_same v text (out ++ (g ∷ gs)) a x y e (put_same mask byte lig shows gdef to 0 (glyph_at text a) g here)
          ∙ ap (map v) (set-append_seam out g gs y) ∙ sym (ap (map v) (append_assoc out (y ∷ []) gs));
      next = omega (arith, length-append out (y ∷ []));
    }

climbs_short : (at : ℕ) (ps : List ℕ) (end less : ℕ) → AllByRecursion (λ x. x < less) ps → Climbs at ps end → Climbs at ps less
climbs_short at [] end less all climbs = tt
climbs_short at (p ∷ ps) end less all climbs = (climbs.0, (all.0, climbs_short p ps end less all.1 climbs.1.1))

stepped_by : (mask byte lig : ℕ → ℕ) → IsViewOf mask byte lig → (s : Setting) (r : LookupRecord) (to p : ℕ) (ps : List ℕ)
    (text before out back : Glyphs) (g : Glyph) (gs front behind : Glyphs) → merges s.level ≡ true → text ≡ before ++ back
    → AlikeTo (shown_glyph mask byte lig) before out → AlikeTo (shown_glyph mask byte lig) back (g ∷ gs) → gs ≡ front ++ behind
    → length front ≡ last_of p ps → Climbs 0 (p ∷ ps) (length (g ∷ front)) → AreOrdered (g ∷ gs) → HasNoComponents (g ∷ gs)
    → (let it = emit_by s.gdef to (p ∷ ps) g gs in HasStepped (shown_glyph mask byte lig) out it.made it.rest
    (ligature_put s.gdef s.level (length out) text r (to, places_behind (length out) (p ∷ ps))))
stepped_by mask byte lig shows s r to p ps text before out [] g gs front behind merging parts outs backs whole long climbs order none =
    absurd (omega (arith, ap length backs))
stepped_by mask byte lig shows s r to p ps text before out (y ∷ ys) g gs front behind merging parts outs backs whole long climbs order none =
    let v : Glyph → Glyph = shown_glyph mask byte lig in
    let first : v y ≡ v g = ap (λ l. glyph_at l 0) backs in
    let inner = seen_in_parts v ys front behind (ap (drop 1) backs ∙ ap (map v) whole) in
    let split : text ≡ before ++ (y ∷ (inner.front ++ inner.back)) = parts ∙ ap (λ l. before ++ (y ∷ l)) inner.parts in
    let free = free_alike mask byte lig shows.numbers inner.back behind inner.second
    (all_back (λ x. component x.lig_props ≡ 0) front behind (subst HasNoComponents whole none.1)) in
    let stepped = ligature_steps mask byte lig shows s r to p ps before out y g inner.front front inner.back behind merging outs first
    inner.first inner.second long climbs (subst (λ l. AreOrdered (g ∷ l)) whole order) free in
    let emitted : emit_by s.gdef to (p ∷ ps) g gs ≡ record {
      made = stretch_joined s.gdef (number_of (stretch_merged g front) (p ∷ ps)) (p ∷ ps) to (stretch_merged g front);
      rest = flooded (top_of g front) g.cluster behind;
    } = ap (emit_by s.gdef to (p ∷ ps) g) whole ∙ emit_parts s.gdef to p ps g front behind long in
    let put : Glyphs → PlaceChange = λ x. ligature_put s.gdef s.level (length out) x r (to, places_behind (length out) (p ∷ ps)) in
    subst (λ (it : Emitted). HasStepped v out it.made it.rest (put text)) (sym emitted)
    (subst (λ x. HasStepped v out (stretch_joined s.gdef (number_of (stretch_merged g front) (p ∷ ps)) (p ∷ ps) to (stretch_merged g front))
    (flooded (top_of g front) g.cluster behind) (put x)) (sym split) stepped)

-- a text's parts: what was put out, and the first glyph, and so many, and the rest
ligature_stepped : (mask byte lig : ℕ → ℕ) → IsViewOf mask byte lig → (s : Setting) (r : LookupRecord) (to p : ℕ) (ps : List ℕ)
    (text out : Glyphs) (g : Glyph) (gs : Glyphs) → merges s.level ≡ true → AlikeTo (shown_glyph mask byte lig) text (out ++ (g ∷ gs))
    → Climbs 0 (p ∷ ps) (length (g ∷ gs)) → AreOrdered (g ∷ gs) → HasNoComponents (g ∷ gs)
    → (let it = emit_by s.gdef to (p ∷ ps) g gs in HasStepped (shown_glyph mask byte lig) out it.made it.rest
    (ligature_put s.gdef s.level (length out) text r (to, places_behind (length out) (p ∷ ps))))
ligature_stepped mask byte lig shows s r to p ps text out g gs merging e climbs order none =
    let v : Glyph → Glyph = shown_glyph mask byte lig in
    let q = last_of p ps in
    let last = climbs_last p ps (length (g ∷ gs)) climbs.1.0 climbs.1.1 in
    let front = take q gs in
    let behind = drop q gs in
    let long : length front ≡ q = length-take-le q gs (omega (arith, last.1.0)) in
    let whole : gs ≡ front ++ behind = sym (take-append-drop q gs) in
    let outer = seen_in_parts v text out (g ∷ gs) e in
    stepped_by mask byte lig shows s r to p ps text outer.front out outer.back g gs front behind merging outer.parts outer.first
    outer.second whole long (climbs_short 0 (p ∷ ps) (length (g ∷ gs)) (length (g ∷ front))
    (all_weaker (λ x. x ≤ q) (λ x. x < length (g ∷ front)) (λ x le. omega (arith, le, long)) (p ∷ ps) (last.0, last.1.1)) climbs)
    order none

fit_stepped : (mask byte lig : ℕ → ℕ) → IsViewOf mask byte lig → (s : Setting) (table : List ℕ) (r : LookupRecord) (text out : Glyphs)
    (g : Glyph) (gs : Glyphs) (o : FittingLigature) → merges s.level ≡ true → AlikeTo (shown_glyph mask byte lig) text (out ++ (g ∷ gs))
    → ((it : ℕ × List ℕ) → o ≡ Some it → Climbs 0 it.1 (length (g ∷ gs))) → AreOrdered (g ∷ gs) → HasNoComponents (g ∷ gs)
    → (let it = emit s.gdef o g gs in HasStepped (shown_glyph mask byte lig) out it.made it.rest (went_on (length out)
    (started (machine_stepped s) text r (option_map (as_put s (length out) text r) (option_map (moved_fit (length out)) o)))))
fit_stepped mask byte lig shows s table r text out g gs None merging e climbs order none =
    stays_stepped (shown_glyph mask byte lig) text out g gs r e
fit_stepped mask byte lig shows s table r text out g gs (Some (to, [])) merging e climbs order none =
    single_stepped mask byte lig shows s.gdef to text out g gs r e
fit_stepped mask byte lig shows s table r text out g gs (Some (to, p ∷ ps)) merging e climbs order none =
    ligature_stepped mask byte lig shows s r to p ps text out g gs merging e (climbs (to, p ∷ ps) refl) order none

-- ---- ALONG A TEXT

no_more : (step : Glyphs → ℕ → LookupRecord → PlaceChange) (n : ℕ) (gs : Glyphs) (at : ℕ) (r : LookupRecord) → length gs ≤ at
    → lookup_applied (suc n) step gs at r ≡ record { text = gs; lookups = r }
unfolding lookup_applied
no_more step n gs at r le = let t : nat_lt at (length gs) ≡ false = grind (arith, nat_tests) in rw t refl

seen_by_model : (s : Setting) (table : List ℕ) (g : Glyph) (gs : Glyphs) (b : Bool) → is_seen s.gdef s.lookup table g ≡ b
    → fits_of s.gdef s.lookup table (g ∷ gs)
    ≡ (if b then ligature_fit s.gdef (sight_for s.gdef s.lookup table) table (g ∷ gs) 0 else None)
seen_by_model s table g gs b e =
    ap (λ x. if x then ligature_fit s.gdef (sight_for s.gdef s.lookup table) table (g ∷ gs) 0 else None) e

step_by : (mask byte lig : ℕ → ℕ) → IsViewOf mask byte lig → (s : Setting) (table : List ℕ) → IsLigating s table
    → TriesUnseen (shown_glyph mask byte lig) s table → (text out : Glyphs) (g : Glyph) (gs : Glyphs) (r : LookupRecord)
    → AlikeTo (shown_glyph mask byte lig) text (out ++ (g ∷ gs)) → AreOrdered (g ∷ gs) → HasNoComponents (g ∷ gs) → (b : Bool)
    → is_seen s.gdef s.lookup table g ≡ b
    → is_seen s.gdef s.lookup table (glyph_at text (length out)) ≡ is_seen s.gdef s.lookup table g
    → (let it = emit s.gdef (fits_of s.gdef s.lookup table (g ∷ gs)) g gs in
    HasStepped (shown_glyph mask byte lig) out it.made it.rest (lookup_stepped s table text (length out) r))
step_by mask byte lig shows s table is tries text out g gs r e order none false at_g same =
    let v : Glyph → Glyph = shown_glyph mask byte lig in
    subst (λ c. HasStepped v out (emit s.gdef (fits_of s.gdef s.lookup table (g ∷ gs)) g gs).made
    (emit s.gdef (fits_of s.gdef s.lookup table (g ∷ gs)) g gs).rest c)
    (sym (unseen_step s table text (length out) r (same ∙ at_g)))
    (subst (λ o. HasStepped v out (emit s.gdef o g gs).made (emit s.gdef o g gs).rest
    (record { text = text; next = length out + 1; lookups = r })) (sym (seen_by_model s table g gs false at_g))
    (stays_stepped v text out g gs r e))
step_by mask byte lig shows s table is tries text out g gs r e order none true at_g same =
    let v : Glyph → Glyph = shown_glyph mask byte lig in
    let a = length out in
    let sight = sight_for s.gdef s.lookup table in
    let looks = looks_anywhere s table is in
    let flagged = tried s table text a in
    let alike : AlikeTo v flagged (out ++ (g ∷ gs)) = tries.same text a ∙ e in
    let o = ligature_fit s.gdef sight table (g ∷ gs) 0 in
    let lt : a < length flagged = omega (arith, alike_long v flagged (out ++ (g ∷ gs)) alike, length-append out (g ∷ gs)) in
    let place : a ≡ a + 0 = omega arith in
    let fitted : ligature_fit s.gdef sight table flagged a ≡ option_map (moved_fit a) o = ap (ligature_fit s.gdef sight table flagged) place
    ∙ fit_moved s.gdef sight table (g ∷ gs) flagged a 0 looks (ends_with mask byte lig shows flagged out (g ∷ gs) alike none) (omega arith) in
    let comes = comes_fit s table flagged a r is lt ∙ ap (option_map (as_put s a flagged r)) fitted in
    subst (λ c. HasStepped v out (emit s.gdef (fits_of s.gdef s.lookup table (g ∷ gs)) g gs).made
    (emit s.gdef (fits_of s.gdef s.lookup table (g ∷ gs)) g gs).rest c)
    (sym (seen_step s table text a r (option_map (as_put s a flagged r) (option_map (moved_fit a) o)) (same ∙ at_g) comes))
    (subst (λ x. HasStepped v out (emit s.gdef x g gs).made (emit s.gdef x g gs).rest (went_on a (started (machine_stepped s)
    flagged r (option_map (as_put s a flagged r) (option_map (moved_fit a) o))))) (sym (seen_by_model s table g gs true at_g))
    (fit_stepped mask byte lig shows s table r flagged out g gs o is.merging alike
    (λ it found. fit_climbs s.gdef sight table (g ∷ gs) 0 it none found) order none))

step_as_model : (mask byte lig : ℕ → ℕ) → IsViewOf mask byte lig → (s : Setting) (table : List ℕ) → IsLigating s table
    → TriesUnseen (shown_glyph mask byte lig) s table → (text out : Glyphs) (g : Glyph) (gs : Glyphs) (r : LookupRecord)
    → AlikeTo (shown_glyph mask byte lig) text (out ++ (g ∷ gs)) → AreOrdered (g ∷ gs) → HasNoComponents (g ∷ gs)
    → (let it = emit s.gdef (fits_of s.gdef s.lookup table (g ∷ gs)) g gs in
    HasStepped (shown_glyph mask byte lig) out it.made it.rest (lookup_stepped s table text (length out) r))
step_as_model mask byte lig shows s table is tries text out g gs r e order none =
    let v : Glyph → Glyph = shown_glyph mask byte lig in
    let a = length out in
    let here : v (glyph_at text a) ≡ v g = at_same v text (out ++ (g ∷ gs)) a e
    ∙ ap v (get_or-append_seam out g gs default_glyph) in
    let sees = seen_same s.gdef s.lookup table is.flagless (glyph_at text a) g (essence_same mask byte lig shows (glyph_at text a) g here) in
    step_by mask byte lig shows s table is tries text out g gs r e order none (is_seen s.gdef s.lookup table g) refl sees

pub walk_as_model : (mask byte lig : ℕ → ℕ) → IsViewOf mask byte lig → (s : Setting) (table : List ℕ) → IsLigating s table
    → TriesUnseen (shown_glyph mask byte lig) s table → (k : ℕ) (text out gs : Glyphs) (r : LookupRecord)
    → AlikeTo (shown_glyph mask byte lig) text (out ++ gs) → length gs ≤ k → AreOrdered gs → HasNoComponents gs
    → AlikeTo (shown_glyph mask byte lig) (lookup_applied k (lookup_stepped s table) text (length out) r).text
    (out ++ model s.gdef (fits_of s.gdef s.lookup table) k gs)
walk_as_model mask byte lig shows s table is tries zero text out gs r e few order none =
    ap (λ (x : Along). map (shown_glyph mask byte lig) x.text) (no_step (lookup_stepped s table) text (length out) r) ∙ e
walk_as_model mask byte lig shows s table is tries (suc k) text out [] r e few order none =
    let v : Glyph → Glyph = shown_glyph mask byte lig in
    let long = alike_long v text (out ++ []) e in
    ap (λ (x : Along). map v x.text) (no_more (lookup_stepped s table) k text (length out) r
    (omega (arith, long, length-append out []))) ∙ e
walk_as_model mask byte lig shows s table is tries (suc k) text out (g ∷ gs) r e few order none =
    let v : Glyph → Glyph = shown_glyph mask byte lig in
    let fits : Glyphs → FittingLigature = fits_of s.gdef s.lookup table in
    let o = fits (g ∷ gs) in
    let it = emit s.gdef o g gs in
    let step = lookup_stepped s table in
    let c = step text (length out) r in
    let stepped = step_as_model mask byte lig shows s table is tries text out g gs r e order none in
    let stays = emit_stays s.gdef fits (fits_are s.gdef s.lookup table (looks_anywhere s table is)) o g gs refl order none in
    let lt : length out < length text = omega (arith, alike_long v text (out ++ (g ∷ gs)) e, length-append out (g ∷ gs)) in
    ap (λ (x : Along). map v x.text) (next_step step k text (length out) r c lt refl)
    ∙ ap (λ n. map v (lookup_applied k step c.text n c.lookups).text) stepped.next
    ∙ walk_as_model mask byte lig shows s table is tries k c.text (out ++ it.made) it.rest c.lookups stepped.text
    (omega (arith, emit_short s.gdef o g gs, few)) stays.order stays.none
    ∙ ap (map v) (append_assoc out it.made (model s.gdef fits k it.rest))
