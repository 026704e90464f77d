-- Which rule of a lookup of contexts fits a part of a text that stands by itself, by which one fits the text there.
use Rattle.std.proofs.Common.{ℕ, zero, suc, ◌+◌, ◌-◌, ◌^◌, ◌%◌, ◌<◌, ◌≤◌, ◌≡◌, ◌==◌, ◌&&◌, ◌||◌, not, min, nat_lt, bit_and, slice_index, if◌then◌else◌, Bool, true, false, List, [], ◌∷◌, length, Option, None, Some, option_and_then, option_map, unwrap_or, refl, sym, ap, subst, ◌∙◌, arith}
use Rattle.std.specs.List.{AllByRecursion}
use Rattle.std.proofs.lemmas.Bool.Decides.{nat_tests}
use Rattle.shapers_buffer.specs.Glyph.{without_flags}
use Rattle.shapers_buffer.specs.Glyphs.{Glyph, Glyphs}
use Rattle.opentype_layout.specs.Ligatures.{input_in}
use Rattle.opentype_layout.specs.Pattern.{next_in, places_from, previous_in, seen_by}
use Rattle.opentype_layout.specs.Rules.{Found, Sought, around, end_in, found_at, reach_before, reach_behind, reach_from, with_start, with_stop}
use Rattle.opentype_layout.specs.Sight.{ignores, is_hit, is_passed, may_pass, next_from, seen_as}
use Rattle.opentype_layout.specs.Text.{glyph_at}
use Rattle.opentype_layout.specs.declared.sight.Sight.{Sight}
use Rattle.opentype_break_laws.specs.Contexts.{HasFeature}
use Rattle.opentype_break_laws.specs.OrderedTexts.{HasNoComponents}
use Rattle.opentype_break_laws.proofs.LigatureFits.{Climbs, IsPartOf, essence, input_climbs, next_below, next_found, next_least, places_behind, together_here, unmapped}
use Rattle.opentype_break_laws.proofs.LigatureModel.{climbs_last, last_of}
use Rattle.opentype_break_laws.proofs.LigatureSteps.{last_moved, last_read}

-- ---- SEARCHES in a part and in the text

back_by : (o : Option Bool) (rest other : Option ℕ) (from at p : ℕ) → (rest ≡ Some (from + p) → other ≡ Some p)
    → (if is_passed o then rest else (if is_hit o then Some (from + at) else None)) ≡ Some (from + p)
    → (if is_passed o then other else (if is_hit o then Some at else None)) ≡ Some p
back_by None rest other from at p on e = on e
back_by (Some true) rest other from at p on e =
    let same : from + at ≡ from + p = ap (λ (o : Option ℕ). unwrap_or o 0) e in
    let is : at ≡ p = omega (arith, same) in ap Some is
back_by (Some false) rest other from at p on e = absurd (cc)

next_back : (n m : ℕ) (f h : ℕ → Option Bool) (from at p : ℕ) → ((i : ℕ) → at ≤ i → i < at + n → f i ≡ h (from + i))
    → next_from m h (from + at) ≡ Some (from + p) → p < at + n → next_from n f at ≡ Some p
unfolding next_from
next_back zero m f h from at p same e lt = absurd (omega (arith, lt, next_least m h (from + at) (from + p) e))
next_back (suc n) zero f h from at p same e lt = absurd (cc)
next_back (suc n) (suc m) f h from at p same e lt =
    let here : h (from + at) ≡ f at = sym (same at (omega arith) (omega arith)) in
    let on : from + at + 1 ≡ from + (at + 1) = omega arith in
    subst (λ o. (if is_passed o then next_from n f (at + 1) else (if is_hit o then Some at else None)) ≡ Some p) here
    (back_by (h (from + at)) (next_from m h (from + at + 1)) (next_from n f (at + 1)) from at p
    (λ r. next_back n m f h from (at + 1) p (λ i low high. same i (omega (arith, low)) (omega (arith, high)))
    (subst (λ x. next_from m h x ≡ Some (from + p)) on r) (omega (arith, lt))) e)

-- a search in a part of so many glyphs finds what the search in the text finds there
pub record SearchesAlike (next other : ℕ → ℕ → Option ℕ) (from n : ℕ) : Type 0 where
  pub found : (k at p : ℕ) → next k at ≡ Some p → other k (from + at) ≡ Some (from + p)
  pub kept : (k at p : ℕ) → other k (from + at) ≡ Some (from + p) → p < n → next k at ≡ Some p
  pub rises : (k at p : ℕ) → other k at ≡ Some p → at ≤ p

some_is : {X : Type 0} (x y : X) → Some x ≡ Some y → x ≡ y
some_is {X = X} x y e = ap (λ (o : Option X). unwrap_or o x) e

-- ---- HOW FAR a rule looks

reach_place : (o other : Option ℕ) (f h : ℕ → Option ℕ) (from e : ℕ) → ((p : ℕ) → o ≡ Some p → other ≡ Some (from + p))
    → ((p : ℕ) → f p ≡ Some e → h (from + p) ≡ Some (from + e)) → option_and_then f o ≡ Some e
    → option_and_then h other ≡ Some (from + e)
reach_place None other f h from e same on is = absurd (cc)
reach_place (Some p) other f h from e same on is = ap (option_and_then h) (same p refl) ∙ on p is

pub reach_found : (c : ℕ) (next other : ℕ → ℕ → Option ℕ) (from n : ℕ) → SearchesAlike next other from n → (k at e : ℕ)
    → reach_from c next k at ≡ Some e → reach_from c other k (from + at) ≡ Some (from + e)
unfolding reach_from
reach_found zero next other from n alike k at e is = ap (λ x. Some (from + x)) (some_is at e is)
reach_found (suc c) next other from n alike k at e is =
    reach_place (next k at) (other k (from + at)) (λ p. reach_from c next (k + 1) (p + 1)) (λ p. reach_from c other (k
    + 1) (p + 1))
    from e (alike.found k at) (λ p r. (let on : from + (p + 1) ≡ from + p + 1 = omega arith in
    subst (λ x. reach_from c other (k + 1) x ≡ Some (from + e)) on (reach_found c next other from n alike (k + 1) (p +
    1) e r))) is

rises_place : (o : Option ℕ) (h : ℕ → Option ℕ) (at e : ℕ) → ((p : ℕ) → o ≡ Some p → at ≤ p)
    → ((p : ℕ) → h p ≡ Some e → p < e) → option_and_then h o ≡ Some e → at ≤ e
rises_place None h at e low on is = absurd (cc)
rises_place (Some p) h at e low on is = omega (arith, low p refl, on p is)

reach_rises : (c : ℕ) (other : ℕ → ℕ → Option ℕ) → ((k at p : ℕ) → other k at ≡ Some p → at ≤ p) → (k at e : ℕ)
    → reach_from c other k at ≡ Some e → at ≤ e
unfolding reach_from
reach_rises zero other rises k at e is = omega (arith, some_is at e is)
reach_rises (suc c) other rises k at e is =
    rises_place (other k at) (λ p. reach_from c other (k + 1) (p + 1)) at e (rises k at)
    (λ p r. omega (arith, reach_rises c other rises (k + 1) (p + 1) e r)) is

within_place : (o : Option ℕ) (h : ℕ → Option ℕ) (e end : ℕ) → ((p : ℕ) → o ≡ Some p → p < end)
    → ((p : ℕ) → p < end → h p ≡ Some e → e ≤ end) → option_and_then h o ≡ Some e → e ≤ end
within_place None h e end low on is = absurd (cc)
within_place (Some p) h e end low on is = on p (low p refl) is

reach_within : (c : ℕ) (other : ℕ → ℕ → Option ℕ) (end : ℕ) → ((k at p : ℕ) → other k at ≡ Some p → p < end)
    → (k at e : ℕ)
    → at ≤ end → reach_from c other k at ≡ Some e → e ≤ end
unfolding reach_from
reach_within zero other end below k at e le is = omega (arith, le, some_is at e is)
reach_within (suc c) other end below k at e le is =
    within_place (other k at) (λ p. reach_from c other (k + 1) (p + 1)) e end (below k at)
    (λ p lt r. reach_within c other end below (k + 1) (p + 1) e (omega (arith, lt)) r) is

kept_reach : (other this : Option ℕ) (h f : ℕ → Option ℕ) (from at e : ℕ) → ((y : ℕ) → other ≡ Some y → from + at ≤ y)
    → ((y : ℕ) → h y ≡ Some (from + e) → y < from + e) → ((p : ℕ) → other ≡ Some (from + p) → p < e → this ≡ Some p)
    → ((p : ℕ) → h (from + p) ≡ Some (from + e) → f p ≡ Some e) → option_and_then h other ≡ Some (from + e)
    → option_and_then f this ≡ Some e
kept_reach None this h f from at e low high same on is = absurd (cc)
kept_reach (Some y) this h f from at e low high same on is =
    let p : ℕ = y - from in
    let moved : y ≡ from + p = omega (arith, low y refl) in
    let small : p < e = omega (arith, low y refl, high y is) in
    ap (option_and_then f) (same p (ap Some moved) small) ∙ on p (subst (λ x. h x ≡ Some (from + e)) moved is)

pub reach_kept : (c : ℕ) (next other : ℕ → ℕ → Option ℕ) (from n : ℕ) → SearchesAlike next other from n
    → (k at e : ℕ) → e ≤ n
    → reach_from c other k (from + at) ≡ Some (from + e) → reach_from c next k at ≡ Some e
unfolding reach_from
reach_kept zero next other from n alike k at e le is =
    let same : at ≡ e = omega (arith, some_is (from + at) (from + e) is) in ap Some same
reach_kept (suc c) next other from n alike k at e le is =
    kept_reach (other k (from + at)) (next k at) (λ p. reach_from c other (k + 1) (p + 1)) (λ p. reach_from c next (k +
    1) (p + 1))
    from at e (alike.rises k (from + at))
    (λ y r. omega (arith, reach_rises c other alike.rises (k + 1) (y + 1) (from + e) r))
    (λ p r lt. alike.kept k at p r (omega (arith, lt, le)))
    (λ p r. (let on : from + p + 1 ≡ from + (p + 1) = omega arith in
    reach_kept c next other from n alike (k + 1) (p + 1) e le
    (subst (λ x. reach_from c other (k + 1) x ≡ Some (from + e)) on r))) is

-- ---- THE PLACES of an input

places_place : (o other : Option ℕ) (f h : ℕ → Option (List ℕ)) (from : ℕ) (ps : List ℕ)
    → ((p : ℕ) → o ≡ Some p → other ≡ Some (from + p))
    → ((p : ℕ) (rest : List ℕ) → f p ≡ Some rest → h (from + p) ≡ Some (places_behind from rest))
    → option_and_then (λ p. option_map (λ l. p ∷ l) (f p)) o ≡ Some ps
    → option_and_then (λ p. option_map (λ l. p ∷ l) (h p)) other ≡ Some (places_behind from ps)
places_place None other f h from ps same on is = absurd (cc)
places_place (Some p) other f h from ps same on is =
    let u = unmapped p (f p) ps is in
    ap (option_and_then (λ x. option_map (λ l. x ∷ l) (h x))) (same p refl)
    ∙ ap (option_map (λ l. (from + p) ∷ l)) (on p u.0 u.1.0) ∙ ap (λ l. Some (places_behind from l)) (sym u.1.1)

pub places_found : (c : ℕ) (next other : ℕ → ℕ → Option ℕ) (from n : ℕ) → SearchesAlike next other from n
    → (k at : ℕ) (ps : List ℕ)
    → places_from c next k at ≡ Some ps → places_from c other k (from + at) ≡ Some (places_behind from ps)
unfolding places_from
places_found zero next other from n alike k at ps is = ap (λ l. Some (places_behind from l)) (some_is [] ps is)
places_found (suc c) next other from n alike k at ps is =
    places_place (next k at) (other k (from + at)) (λ p. places_from c next (k + 1) (p + 1))
    (λ p. places_from c other (k + 1) (p + 1)) from ps (alike.found k at)
    (λ p rest r. (let on : from + (p + 1) ≡ from + p + 1 = omega arith in
    subst (λ x. places_from c other (k + 1) x ≡ Some (places_behind from rest)) on
    (places_found c next other from n alike (k + 1) (p + 1) rest r))) is

-- the places of the part, by those of the text
pub record PlacesBack (o : Option (List ℕ)) (from : ℕ) (qs : List ℕ) : Type 0 where
  pub places : List ℕ
  pub found : o ≡ Some places
  pub moved : qs ≡ places_behind from places

back_place : (other this : Option ℕ) (h f : ℕ → Option (List ℕ)) (from at n : ℕ) (qs : List ℕ)
    → ((y : ℕ) → other ≡ Some y → from + at ≤ y) → ((p : ℕ) → other ≡ Some (from + p) → p < n → this ≡ Some p)
    → ((p : ℕ) (rest : List ℕ) → h (from + p) ≡ Some rest → AllByRecursion (λ q. q < from + n) rest
    → PlacesBack (f p) from rest)
    → option_and_then (λ p. option_map (λ l. p ∷ l) (h p)) other ≡ Some qs → AllByRecursion (λ q. q < from + n) qs
    → PlacesBack (option_and_then (λ p. option_map (λ l. p ∷ l) (f p)) this) from qs
back_place None this h f from at n qs low same on is all = absurd (cc)
back_place (Some y) this h f from at n qs low same on is all =
    let u = unmapped y (h y) qs is in
    let below = subst (AllByRecursion (λ q. q < from + n)) u.1.1 all in
    let p : ℕ = y - from in
    let moved : y ≡ from + p = omega (arith, low y refl) in
    let small : p < n = omega (arith, below.0, low y refl) in
    let rest = on p u.0 (subst (λ x. h x ≡ Some u.0) moved u.1.0) below.1 in
    record {
      places = p ∷ rest.places;
      found = ap (option_and_then (λ x. option_map (λ l. x ∷ l) (f x))) (same p (ap Some moved) small)
          ∙ ap (option_map (λ l. p ∷ l)) rest.found;
      moved = u.1.1 ∙ ap (λ x. x ∷ u.0) moved ∙ ap (λ l. (from + p) ∷ l) rest.moved;
    }

pub places_back : (c : ℕ) (next other : ℕ → ℕ → Option ℕ) (from n : ℕ) → SearchesAlike next other from n
    → (k at : ℕ) (qs : List ℕ)
    → places_from c other k (from + at) ≡ Some qs → AllByRecursion (λ q. q < from + n) qs
    → PlacesBack (places_from c next k at) from qs
unfolding places_from
places_back zero next other from n alike k at qs is all =
    record { places = []; found = refl; moved = sym (some_is [] qs is) }
places_back (suc c) next other from n alike k at qs is all =
    back_place (other k (from + at)) (next k at) (λ p. places_from c other (k + 1) (p + 1))
    (λ p. places_from c next (k + 1) (p + 1)) from at n qs (alike.rises k (from + at)) (alike.kept k at)
    (λ p rest r below. (let on : from + p + 1 ≡ from + (p + 1) = omega arith in
    places_back c next other from n alike (k + 1) (p + 1) rest
    (subst (λ x. places_from c other (k + 1) x ≡ Some rest) on r) below)) is all

long_place : (o : Option ℕ) (h : ℕ → Option (List ℕ)) (c : ℕ) (ps : List ℕ)
    → ((p : ℕ) (rest : List ℕ) → h p ≡ Some rest → length rest ≡ c)
    → option_and_then (λ p. option_map (λ l. p ∷ l) (h p)) o ≡ Some ps → length ps ≡ suc c
long_place None h c ps on is = absurd (cc)
long_place (Some p) h c ps on is =
    let u = unmapped p (h p) ps is in ap length u.1.1 ∙ ap suc (on p u.0 u.1.0)

pub places_long : (c : ℕ) (next : ℕ → ℕ → Option ℕ) (k at : ℕ) (ps : List ℕ) → places_from c next k at ≡ Some ps
    → length ps ≡ c
unfolding places_from
places_long zero next k at ps is = ap length (sym (some_is [] ps is))
places_long (suc c) next k at ps is = long_place (next k at) (λ p. places_from c next (k + 1) (p + 1)) c ps
    (λ p rest r. places_long c next (k + 1) (p + 1) rest r) is

-- ---- GLYPHS that a lookup of contexts doesn't tell apart

-- how a lookup looks at glyphs of features, wherever they are
pub record LooksAtFeatures (sight : Sight) : Type 0 where
  pub anywhere : sight.syllable ≡ 0
  pub flagless : (g : Glyph) → HasFeature g
      → (bit_and (without_flags g.mask) sight.mask == 0) ≡ (bit_and g.mask sight.mask == 0)

-- what it makes of a glyph, by whether it has no bit of the mask and whether the syllable is its own
seen_if : List ℕ → Sight → (ℕ → ℕ → Bool) → ℕ → Bool → Bool → Glyph → Option Bool
seen_if gdef sight test k none here g =
    if ignores gdef sight.flag sight.set g then None
    else (if test k (g.glyph_id % 65536) && not none && here then Some true
    else (if may_pass sight g then None else Some false))

seen_essence : (gdef : List ℕ) (sight : Sight) (test : ℕ → ℕ → Bool) (k : ℕ) (g : Glyph) → LooksAtFeatures sight
    → HasFeature g
    → seen_by gdef sight test k (essence g) ≡ seen_by gdef sight test k g
unfolding seen_by seen_as ignores may_pass seen_if
seen_essence gdef sight test k g looks has =
    let within : ℕ → ℕ → Bool = λ n byte. (n == 0) || (n == byte) in
    ap (λ b. seen_if gdef sight test k b (within sight.syllable (g.syllable % 16)) g) (looks.flagless g has)
    ∙ ap (λ b. seen_if gdef sight test k (bit_and g.mask sight.mask == 0) b g)
    (ap (λ n. within n (g.syllable % 16)) looks.anywhere ∙ sym (ap (λ n. within n g.syllable) looks.anywhere))

pub feature_too : (g h : Glyph) → essence g ≡ essence h → HasFeature g → HasFeature h
feature_too g h same has =
    let masks : without_flags g.mask ≡ without_flags h.mask = ap (λ (x : Glyph). x.mask) same in
    omega (arith, masks, has)

seen_alike : (gdef : List ℕ) (sight : Sight) (test : ℕ → ℕ → Bool) (k : ℕ) (g h : Glyph) → LooksAtFeatures sight
    → essence g ≡ essence h → HasFeature g → seen_by gdef sight test k g ≡ seen_by gdef sight test k h
seen_alike gdef sight test k g h looks same has = sym (seen_essence gdef sight test k g looks has)
    ∙ ap (seen_by gdef sight test k) same ∙ seen_essence gdef sight test k h looks (feature_too g h same has)

-- a part of a text, of glyphs of features, where no glyph is of a ligature's component
pub record IsTakenPart (part text : Glyphs) (from : ℕ) : Type 0 where
  pub alike : IsPartOf part text from
  pub features : (i : ℕ) → i < length part → HasFeature (glyph_at part i)
  pub here : HasNoComponents part
  pub there : HasNoComponents text
  pub size : length text < 2 ^ 64

pub forward : (gdef : List ℕ) (sight : Sight) (test : ℕ → ℕ → Bool) (part text : Glyphs) (from : ℕ)
    → LooksAtFeatures sight
    → IsTakenPart part text from
    → SearchesAlike (next_in gdef sight test part) (next_in gdef sight test text) from (length part)
forward gdef sight test part text from looks taken =
    let f : ℕ → ℕ → Option Bool = λ k i. seen_by gdef sight test k (glyph_at part i) in
    let h : ℕ → ℕ → Option Bool = λ k i. seen_by gdef sight test k (glyph_at text i) in
    let same : (k i : ℕ) → i < length part → f k i ≡ h k (from + i) = λ k i lt.
    seen_alike gdef sight test k (glyph_at part i) (glyph_at text (from + i)) looks (taken.alike.alike i lt)
    (taken.features i lt) in
    record {
      found = λ k at p e. next_found (length part - at) (length text - (from + at)) (f k) (h k) from at
          (λ i low high. same k i (omega (arith, low, high))) (omega (arith, taken.alike.within)) p e;
      kept = λ k at p e lt. next_back (length part - at) (length text - (from + at)) (f k) (h k) from at p
          (λ i low high. same k i (omega (arith, low, high))) e
          (omega (arith, lt, next_least (length text - (from + at)) (h k) (from + at) (from + p) e));
      rises = λ k at p e. next_least (length text - at) (h k) at p e;
    }

pub backward : (gdef : List ℕ) (sight : Sight) (test : ℕ → ℕ → Bool) (part text : Glyphs) (from at : ℕ)
    → LooksAtFeatures sight
    → IsTakenPart part text from → at < length part
    → SearchesAlike (previous_in gdef sight test part at) (previous_in gdef sight test text (from + at)) 0 at
backward gdef sight test part text from at looks taken inside =
    let f : ℕ → ℕ → Option Bool = λ k i. seen_by gdef sight test k (glyph_at part (at - 1 - i)) in
    let h : ℕ → ℕ → Option Bool = λ k i. seen_by gdef sight test k (glyph_at text (from + at - 1 - i)) in
    let same : (k i : ℕ) → i < at → f k i ≡ h k (0 + i) = λ k i lt.
    (let place : from + (at - 1 - i) ≡ from + at - 1 - (0 + i) = omega (arith, lt) in
    seen_alike gdef sight test k (glyph_at part (at - 1 - i)) (glyph_at text (from + (at - 1 - i))) looks
    (taken.alike.alike (at - 1 - i) (omega (arith, inside))) (taken.features (at - 1 - i) (omega (arith, inside)))
    ∙ ap (λ j. seen_by gdef sight test k (glyph_at text j)) place) in
    record {
      found = λ k x p e. next_found (at - x) (from + at - (0 + x)) (f k) (h k) 0 x
          (λ i low high. same k i (omega (arith, low, high))) (omega arith) p e;
      kept = λ k x p e lt. next_back (at - x) (from + at - (0 + x)) (f k) (h k) 0 x p
          (λ i low high. same k i (omega (arith, low, high))) e
          (omega (arith, lt, next_least (from + at - (0 + x)) (h k) (0 + x) (0 + p) e));
      rises = λ k x p e. next_least (from + at - x) (h k) x p e;
    }

-- ---- A RULE THAT FITS

abbrev pub fitted : Sought → ℕ → List ℕ → ℕ → ℕ → Found
fitted rule at places stop back = record {
  records = rule.records;
  count = rule.count;
  places = at ∷ places;
  end = end_in at places;
  start = at - back;
  stop = stop;
}

pub record FitsBy (gdef : List ℕ) (input context : Sight) (gs : Glyphs) (at : ℕ) (rule : Sought) (m : Found) : Type 0
  where
    pub some : (rule.input_count == 0) ≡ false
    pub few : nat_lt 64 rule.input_count ≡ false
    pub places : List ℕ
    pub stop : ℕ
    pub back : ℕ
    pub taken : input_in gdef input rule.input (rule.input_count - 1) gs at ≡ Some places
    pub behind : reach_behind gdef context rule.behind rule.behind_count gs (end_in at places) ≡ Some stop
    pub before : reach_before gdef context rule.before rule.before_count gs at ≡ Some back
    pub is : m ≡ fitted rule at places stop back

start_gives : (Goal : Type 0) (rule : Sought) (at : ℕ) (places : List ℕ) (stop : ℕ) (m : Found) (o : Option ℕ)
    → ((back : ℕ) → o ≡ Some back → m ≡ fitted rule at places stop back → Goal)
    → with_start rule at places stop o ≡ Some m → Goal
start_gives Goal rule at places stop m None on e = absurd (cc)
start_gives Goal rule at places stop m (Some back) on e = on back refl (sym (some_is (fitted rule at places stop back)
    m e))

stop_gives : (Goal : Type 0) (gdef : List ℕ) (context : Sight) (rule : Sought) (gs : Glyphs) (at : ℕ) (places : List ℕ)
    (m : Found)
    (o : Option ℕ) → ((stop : ℕ) → o ≡ Some stop
    → with_start rule at places stop (reach_before gdef context rule.before rule.before_count gs at) ≡ Some m → Goal)
    → with_stop gdef context rule gs at places o ≡ Some m → Goal
stop_gives Goal gdef context rule gs at places m None on e = absurd (cc)
stop_gives Goal gdef context rule gs at places m (Some stop) on e = on stop refl e

around_gives : (Goal : Type 0) (gdef : List ℕ) (context : Sight) (rule : Sought) (gs : Glyphs) (at : ℕ) (m : Found)
    (o : Option (List ℕ)) → ((places : List ℕ) → o ≡ Some places → with_stop gdef context rule gs at places
    (reach_behind gdef context rule.behind rule.behind_count gs (end_in at places)) ≡ Some m → Goal)
    → around gdef context rule gs at o ≡ Some m → Goal
unfolding around
around_gives Goal gdef context rule gs at m None on e = absurd (cc)
around_gives Goal gdef context rule gs at m (Some places) on e = on places refl e

count_gives : (none many : Bool) (o : Option Found) (m : Found)
    → (let x : Option Found = (if none then None else (if many then None else o)) in x) ≡ Some m
    → (none ≡ false) × ((many ≡ false) × (o ≡ Some m))
count_gives true many o m e = absurd (cc)
count_gives false true o m e = absurd (cc)
count_gives false false o m e = (refl, (refl, e))

pub fits_by : (gdef : List ℕ) (input context : Sight) (gs : Glyphs) (at : ℕ) (rule : Sought) (m : Found)
    → found_at gdef input context gs at rule ≡ Some m → FitsBy gdef input context gs at rule m
unfolding found_at
fits_by gdef input context gs at rule m e =
    let Goal : Type 0 = FitsBy gdef input context gs at rule m in
    let places_of = input_in gdef input rule.input (rule.input_count - 1) gs at in
    let c = count_gives (rule.input_count == 0) (nat_lt 64 rule.input_count) (around gdef context rule gs at places_of)
    m e in
    around_gives Goal gdef context rule gs at m places_of
    (λ places taken one. stop_gives Goal gdef context rule gs at places m
    (reach_behind gdef context rule.behind rule.behind_count gs (end_in at places))
    (λ stop behind two. start_gives Goal rule at places stop m (reach_before gdef context rule.before rule.before_count
    gs at)
    (λ back before is. record {
      some = c.0;
      few = c.1.0;
      places = places;
      stop = stop;
      back = back;
      taken = taken;
      behind = behind;
      before = before;
      is = is;
    }) two) one) c.1.1

pub by_fit : (gdef : List ℕ) (input context : Sight) (gs : Glyphs) (at : ℕ) (rule : Sought) (m : Found)
    → FitsBy gdef input context gs at rule m → found_at gdef input context gs at rule ≡ Some m
unfolding found_at around
by_fit gdef input context gs at rule m fit =
    let all = around gdef context rule gs at (input_in gdef input rule.input (rule.input_count - 1) gs at) in
    let by_two : Bool → Bool → Option Found = λ none many. if none then None else (if many then None else all) in
    ap (λ b. by_two b (nat_lt 64 rule.input_count)) fit.some ∙ ap (by_two false) fit.few
    ∙ ap (around gdef context rule gs at) fit.taken ∙ ap (with_stop gdef context rule gs at fit.places) fit.behind
    ∙ ap (with_start rule at fit.places fit.stop) fit.before ∙ ap Some (sym fit.is)

-- ---- WHERE a rule that fits ends

last_is : (at : ℕ) (ps : List ℕ)
    → (let x : ℕ = (if length ps == 0 then at else slice_index ps (length ps - 1)) in x) ≡ last_of at ps
last_is at [] = refl
last_is at (p ∷ ps) =
    let n : length (p ∷ ps) - 1 ≡ length ps = omega arith in
    let some : (length (p ∷ ps) == 0) ≡ false = grind (arith, nat_tests) in
    ap (λ b. if b then at else slice_index (p ∷ ps) (length (p ∷ ps) - 1)) some ∙ ap (slice_index (p ∷ ps)) n
    ∙ last_read p ps

end_is : (at : ℕ) (ps : List ℕ) → last_of at ps + 1 < 2 ^ 64 → end_in at ps ≡ last_of at ps + 1
unfolding end_in
end_is at ps lt =
    let capped : min (2 ^ 64 - 1) (last_of at ps + 1) ≡ last_of at ps + 1 = omega (arith, lt) in
    ap (λ n. min (2 ^ 64 - 1) (n + 1)) (last_is at ps) ∙ capped

pub end_moved : (from at : ℕ) (ps : List ℕ) → from + last_of at ps + 1 < 2 ^ 64
    → end_in (from + at) (places_behind from ps) ≡ from + end_in at ps
end_moved from at ps lt =
    let last = last_moved from at ps in
    let sum : last_of (from + at) (places_behind from ps) + 1 ≡ from + (last_of at ps + 1) = omega (arith, last) in
    end_is (from + at) (places_behind from ps) (omega (arith, last, lt)) ∙ sum
    ∙ ap (λ n. from + n) (sym (end_is at ps (omega (arith, lt))))

pub behind_within : (gdef : List ℕ) (sight : Sight) (test : ℕ → ℕ → Bool) (count : ℕ) (gs : Glyphs) (at e : ℕ)
    → at ≤ length gs
    → reach_behind gdef sight test count gs at ≡ Some e → (at ≤ e) × (e ≤ length gs)
unfolding reach_behind
behind_within gdef sight test count gs at e le is =
    let f : ℕ → ℕ → Option Bool = λ k i. seen_by gdef sight test k (glyph_at gs i) in (
      reach_rises count (next_in gdef sight test gs) (λ k x p r. next_least (length gs - x) (f k) x p r) 0 at e is,
      reach_within count (next_in gdef sight test gs) (length gs) (λ k x p r. omega (
        arith,
        next_least (length gs - x) (f k) x p r,
        next_below (length gs - x) (f k) x p r,
      )) 0 at e le is,
    )

pub before_within : (gdef : List ℕ) (sight : Sight) (test : ℕ → ℕ → Bool) (count : ℕ) (gs : Glyphs) (at e : ℕ)
    → reach_before gdef sight test count gs at ≡ Some e → e ≤ at
unfolding reach_before
before_within gdef sight test count gs at e is =
    let f : ℕ → ℕ → Option Bool = λ k i. seen_by gdef sight test k (glyph_at gs (at - 1 - i)) in
    reach_within count (previous_in gdef sight test gs at) at (λ k x p r. omega (
      arith,
      next_least (at - x) (f k) x p r,
      next_below (at - x) (f k) x p r,
    )) 0 0 e (omega arith) is

climbs_inside : (low at : ℕ) (ps : List ℕ) (end : ℕ) → low ≤ at → Climbs at ps end → AllByRecursion (λ q. low ≤ q) ps
climbs_inside low at [] end le climbs = tt
climbs_inside low at (p ∷ ps) end le climbs =
    (omega (arith, le, climbs.0), climbs_inside low p ps end (omega (arith, le, climbs.0)) climbs.1.1)

all_between : (low last high : ℕ) (ps : List ℕ) → last < high → AllByRecursion (λ q. low ≤ q) ps
    → AllByRecursion (λ q. q ≤ last) ps
    → AllByRecursion (λ q. (low ≤ q) × (q < high)) ps
all_between low last high [] lt one two = tt
all_between low last high (p ∷ ps) lt one two = (
  (one.0, omega (arith, lt, two.0)),
  all_between low last high ps lt one.1 two.1,
)

input_long : (gdef : List ℕ) (sight : Sight) (test : ℕ → ℕ → Bool) (count : ℕ) (gs : Glyphs) (at : ℕ) (ps : List ℕ)
    → HasNoComponents gs → input_in gdef sight test count gs at ≡ Some ps → length ps ≡ count
unfolding input_in
input_long gdef sight test count gs at ps none e =
    let places = places_from count (next_in gdef sight test gs) 0 (at + 1) in
    places_long count (next_in gdef sight test gs) 0 (at + 1) ps (sym (together_here gdef sight gs at places none) ∙ e)

-- where a rule that fits a text at a place stands
pub record FoundWithin (gs : Glyphs) (at : ℕ) (m : Found) : Type 0 where
  pub few : length m.places ≤ 64
  pub places : AllByRecursion (λ q. (m.start ≤ q) × (q < m.end)) m.places
  pub start : m.start ≤ at
  pub ends : at < m.end
  pub looked : m.end ≤ m.stop
  pub stop : m.stop ≤ length gs

pub found_within : (gdef : List ℕ) (input context : Sight) (gs : Glyphs) (at : ℕ) (rule : Sought) (m : Found)
    → HasNoComponents gs
    → length gs < 2 ^ 64 → at < length gs → FitsBy gdef input context gs at rule m → FoundWithin gs at m
found_within gdef input context gs at rule m none size lt fit =
    let ps = fit.places in
    let climbs = input_climbs gdef input rule.input (rule.input_count - 1) gs at ps none fit.taken in
    let last = climbs_last at ps (length gs) lt climbs in
    let ended : end_in at ps ≡ last_of at ps + 1 = end_is at ps (omega (arith, last.1.0, size)) in
    let behind = behind_within gdef context rule.behind rule.behind_count gs (end_in at ps) fit.stop
    (omega (arith, ended, last.1.0)) fit.behind in
    let low : at - fit.back ≤ at = omega arith in
    let one : (at - fit.back ≤ at) × (at < end_in at ps) = (low, omega (arith, ended, last.0)) in
    let long = input_long gdef input rule.input (rule.input_count - 1) gs at ps none fit.taken in
    let many : rule.input_count ≤ 64 = grind (arith, nat_tests, fit.few) in
    let some : 0 < rule.input_count = grind (arith, nat_tests, fit.some) in
    subst (FoundWithin gs at) (sym fit.is) (record {
      few = omega (arith, long, many, some);
      places = (
        one,
        all_between (at - fit.back) (last_of at ps) (end_in at ps) ps (omega (arith, ended))
            (climbs_inside (at - fit.back) at ps (length gs) low climbs) last.1.1,
      );
      start = low;
      ends = one.1;
      looked = behind.0;
      stop = behind.1;
    })
