-- A lookup of pairs makes of the positions of a text what it makes of those of two parts, if the text is clear between
-- them in the end.
use Rattle.std.proofs.Common.{Bool, List, None, Option, Some, [], ap, arith, false, if◌then◌else◌, inl, inr, length, nat_lt, refl, subst, suc, sym, true, zero, ℕ, ◌++◌, ◌+◌, ◌-◌, ◌<◌, ◌∙◌, ◌∷◌, ◌≡◌, ◌≤◌, ◌⊎◌}
use Rattle.shapers_buffer.specs.Glyphs.{Glyphs}
use Rattle.shapers_buffer.specs.declared.buffer.level.Direction.{Direction}
use Rattle.opentype_gpos.proofs.Walks.{along_step}
use Rattle.opentype_gpos.specs.Along.{applied_along}
use Rattle.opentype_gpos.specs.Coming.{Setting}
use Rattle.opentype_gpos.specs.Moved.{Positions, Progress, value_added}
use Rattle.opentype_gpos.specs.declared.moves.PairMove.{PairMove}
use Rattle.opentype_gpos.proofs.Keeping.{added_long}
use Rattle.opentype_break_laws.proofs.ContextParts.{inside_or}
use Rattle.opentype_break_laws.proofs.ContextSteps.{ClearAt}
use Rattle.opentype_break_laws.proofs.LigatureFits.{essence}
use Rattle.opentype_break_laws.proofs.LigatureViews.{AlikeTo, alike_long}
use Rattle.opentype_break_laws.proofs.PairFinds.{AreOfPairs, IsOfFeatures, pair_same}
use Rattle.opentype_break_laws.proofs.PairSteps.{AreOfNumbers, StepsByPair, next_high, next_idle, next_low, pair_next, pair_placed, placed_back, placed_front, placed_idle, placed_long, placed_numbers, steps_by_pair}
use Rattle.opentype_break_laws.proofs.PairWalks.{along_long, one_on, over_end, pair_step, pairs_along, pairs_of, walks_as}
use Rattle.opentype_break_laws.specs.Pairs.{holds_together, pair_end}

-- ---- A PART'S PAIRS beside the text's

-- a text's pairs: each ends inside of the text, and one that begins inside of another one ends with it; if the outer one
-- doesn't hold together, neither does the inner one
pub record ArePairs (d : Direction) (len : ℕ) (act : ℕ → Option PairMove) : Type 0 where
  pub behind : (i : ℕ) (m : PairMove) → act i ≡ Some m → (i < m.second) × (m.second < len)
  pub ends : (i j : ℕ) (m other : PairMove) → act i ≡ Some m → i < j → j < m.second → act j ≡ Some other
      → other.second ≡ m.second
  pub idle : (i j : ℕ) (m other : PairMove) → act i ≡ Some m → holds_together d m ≡ false → i < j → j < m.second
      → act j ≡ Some other → holds_together d other ≡ false

-- a pair of the first part is the text's, or that ends behind the part
abbrev pub FrontAgrees : ℕ → Option PairMove → Option PairMove → Type 0
FrontAgrees p a o = ((a ≡ o) × ((m : PairMove) → o ≡ Some m → m.second < p))
    ⊎ ((a ≡ None) × ((m : PairMove) → o ≡ Some m → p ≤ m.second))

-- those of the second part are the text's
abbrev pub second_shifted : ℕ → PairMove → PairMove
second_shifted from m = record m { second = from + m.second }

pub record BackAgrees (p : ℕ) (a o : Option PairMove) : Type 0 where
  pub found : (m : PairMove) → a ≡ Some m → o ≡ Some (second_shifted p m)
  pub none : a ≡ None → o ≡ None

-- ---- THE SECOND PART

next_shifted : (b : Bool) (p n : ℕ) → (if b then p + n + 1 else p + n) ≡ p + (if b then n + 1 else n)
next_shifted true p n = omega arith
next_shifted false p n = refl

placed_shifted : (d : Direction) (m : PairMove) (p i : ℕ) (qs rs : Positions) → length qs ≡ p → i < length rs
    → m.second < length rs
    → pair_placed d (Some (second_shifted p m)) (p + i) (qs ++ rs) ≡ qs ++ pair_placed d (Some m) i rs
placed_shifted d m p i qs rs long first second =
    ap (value_added d m.second_value (p + m.second)) (placed_back d m.first_value p i qs rs long first)
    ∙ placed_back d m.second_value p m.second qs (value_added d m.first_value i rs) long
    (omega (arith, second, added_long d m.first_value i rs))

-- one step in the text and in the part
record BackStepped (d : Direction) (act part : ℕ → Option PairMove) (len p size n m : ℕ) (qs rs : Positions) (i : ℕ) :
    Type 0 where
  pub next : ℕ
  pub places : Positions
  pub rises : i < next
  pub long : length places ≡ length rs
  pub whole : pairs_along (suc n) d act len (qs ++ rs) (p + i) ≡ pairs_along n d act len (qs ++ places) (p + next)
  pub alone : pairs_along (suc m) d part size rs i ≡ pairs_along m d part size places next

back_step : (d : Direction) (act part : ℕ → Option PairMove) (len p size n m : ℕ) (qs rs : Positions) (i : ℕ)
    → len ≡ p + size → ArePairs d len act → length qs ≡ p → length rs ≡ size → i < size
    → (a : Option PairMove) → part i ≡ a → BackAgrees p a (act (p + i)) → BackStepped d act part len p size n m qs rs i
back_step d act part len p size n m qs rs i sum are long paired lt None e agrees =
    let on : p + i + 1 ≡ p + (i + 1) = omega arith in
    record {
      next = i + 1;
      places = rs;
      rises = omega arith;
      long = refl;
      whole = one_on n d act len (qs ++ rs) (p + i) None (omega (arith, sum, lt)) (agrees.none refl)
          ∙ ap (pairs_along n d act len (qs ++ rs)) on;
      alone = one_on m d part size rs i None lt e;
    }
back_step d act part len p size n m qs rs i sum are long paired lt (Some it) e agrees =
    let pair = agrees.found it refl in
    let within = are.behind (p + i) (second_shifted p it) pair in
    let first : i < length rs = omega (arith, lt, paired) in
    let second : it.second < length rs = omega (arith, within.1, sum, paired) in
    record {
      next = pair_next (Some it) i;
      places = pair_placed d (Some it) i rs;
      rises = omega (arith, within.0, next_low it i);
      long = placed_long d (Some it) i rs;
      whole = one_on n d act len (qs ++ rs) (p + i) (Some (second_shifted p it)) (omega (arith, sum, lt)) pair
          ∙ ap (λ ps. pairs_along n d act len ps (pair_next (Some (second_shifted p it)) (p + i)))
          (placed_shifted d it p i qs rs long first second)
          ∙ ap (pairs_along n d act len (qs ++ pair_placed d (Some it) i rs)) (next_shifted it.has_second p it.second);
      alone = one_on m d part size rs i (Some it) lt e;
    }

pub back_on : (d : Direction) (act part : ℕ → Option PairMove) (len p size : ℕ) → len ≡ p + size → ArePairs d len act
    → ((i : ℕ) → i < size → BackAgrees p (part i) (act (p + i))) → (n m : ℕ) (qs rs : Positions) (i : ℕ)
    → length qs ≡ p → length rs ≡ size → size ≤ i + n → size ≤ i + m
    → pairs_along n d act len (qs ++ rs) (p + i) ≡ qs ++ pairs_along m d part size rs i
back_on d act part len p size sum are agree zero m qs rs i long paired enough few =
    over_end zero d act len (qs ++ rs) (p + i) (omega (arith, sum, enough))
    ∙ ap (λ x. qs ++ x) (sym (over_end m d part size rs i (omega (arith, enough))))
back_on d act part len p size sum are agree (suc n) zero qs rs i long paired enough few =
    over_end (suc n) d act len (qs ++ rs) (p + i) (omega (arith, sum, few))
    ∙ ap (λ x. qs ++ x) (sym (over_end zero d part size rs i (omega (arith, few))))
back_on d act part len p size sum are agree (suc n) (suc m) qs rs i long paired enough few = elim (inside_or i size) [
  | inl lt ↦ (let it = back_step d act part len p size n m qs rs i sum are long paired lt (part i) refl (agree i lt) in
      it.whole ∙ back_on d act part len p size sum are agree n m qs it.places it.next long (it.long ∙ paired)
      (omega (arith, enough, it.rises)) (omega (arith, few, it.rises)) ∙ ap (λ x. qs ++ x) (sym it.alone))
  | inr out ↦ over_end (suc n) d act len (qs ++ rs) (p + i) (omega (arith, sum, out))
      ∙ ap (λ x. qs ++ x) (sym (over_end (suc m) d part size rs i out))
]

-- ---- ITS FIRST GLYPHS that a pair of the text passes over, which doesn't hold together

abbrev pub ArePassedOver : Direction → (ℕ → Option PairMove) → ℕ → ℕ → Type 0
ArePassedOver d act p place = (k : ℕ) (m : PairMove) → p ≤ k → k < place → act k ≡ Some m
    → (holds_together d m ≡ false) × (m.second ≤ place)

-- a step there leaves the positions, and goes on no farther than the pair
record QuietStepped (d : Direction) (part : ℕ → Option PairMove) (size place m : ℕ) (rs : Positions) (i : ℕ) : Type 0 where
  pub next : ℕ
  pub rises : i < next
  pub within : next ≤ place
  pub is : pairs_along (suc m) d part size rs i ≡ pairs_along m d part size rs next

quiet_step : (d : Direction) (act part : ℕ → Option PairMove) (p size place m : ℕ) (rs : Positions) (i : ℕ)
    → ArePassedOver d act p (p + place) → AreOfNumbers rs → i < size → i < place
    → ((it : PairMove) → act (p + i) ≡ Some it → p + i < it.second) → (a : Option PairMove) → part i ≡ a
    → BackAgrees p a (act (p + i)) → QuietStepped d part size place m rs i
quiet_step d act part p size place m rs i quiet all lt low behind None e agrees = record {
  next = i + 1;
  rises = omega arith;
  within = omega (arith, low);
  is = one_on m d part size rs i None lt e;
}
quiet_step d act part p size place m rs i quiet all lt low behind (Some it) e agrees =
    let pair = agrees.found it refl in
    let still = quiet (p + i) (second_shifted p it) (omega arith) (omega (arith, low)) pair in
    record {
      next = it.second;
      rises = omega (arith, behind (second_shifted p it) pair);
      within = omega (arith, still.1);
      is = one_on m d part size rs i (Some it) lt e
          ∙ ap (λ ps. pairs_along m d part size ps (pair_next (Some it) i)) (placed_idle d it i rs all still.0)
          ∙ ap (pairs_along m d part size rs) (next_idle d it i still.0);
    }

-- so the part comes to the place where the text goes on
pub record ComesTo (d : Direction) (part : ℕ → Option PairMove) (size place m : ℕ) (rs : Positions) (i : ℕ) : Type 0 where
  pub steps : ℕ
  pub enough : size ≤ place + steps
  pub is : pairs_along m d part size rs i ≡ pairs_along steps d part size rs place

comes_to : (d : Direction) (act part : ℕ → Option PairMove) (len p size place : ℕ) → len ≡ p + size → ArePairs d len act
    → ((i : ℕ) → i < size → BackAgrees p (part i) (act (p + i))) → ArePassedOver d act p (p + place) → place ≤ size
    → (m : ℕ) (rs : Positions) (i : ℕ) → AreOfNumbers rs → i ≤ place → size ≤ i + m → ComesTo d part size place m rs i
comes_to d act part len p size place sum are agree quiet within zero rs i all low few =
    let same : i ≡ place = omega (arith, low, few, within) in
    record { steps = 0; enough = omega (arith, few, low); is = ap (pairs_along zero d part size rs) same }
comes_to d act part len p size place sum are agree quiet within (suc m) rs i all low few = elim (inside_or i place) [
  | inl lt ↦ (let inside : i < size = omega (arith, lt, within) in
      let it = quiet_step d act part p size place m rs i quiet all inside lt
      (λ pair e. (are.behind (p + i) pair e).0) (part i) refl (agree i inside) in
      let rest = comes_to d act part len p size place sum are agree quiet within m rs it.next all it.within
      (omega (arith, few, it.rises)) in
      record { steps = rest.steps; enough = rest.enough; is = it.is ∙ rest.is })
  | inr out ↦ (let same : i ≡ place = omega (arith, low, out) in
      record { steps = suc m; enough = omega (arith, few, same); is = ap (pairs_along (suc m) d part size rs) same })
]

-- ---- THE FIRST PART

-- where the text goes on behind it, with what the first part made of its positions
pub record Landed (d : Direction) (act : ℕ → Option PairMove) (len p : ℕ) (made front rs : Positions) : Type 0 where
  pub steps : ℕ
  pub place : ℕ
  pub is : made ≡ pairs_along steps d act len (front ++ rs) place
  pub low : p ≤ place
  pub high : place ≤ len
  pub enough : len ≤ place + steps
  pub quiet : ArePassedOver d act p place

still : (d : Direction) (part : ℕ → Option PairMove) (p m : ℕ) (qs : Positions) (i : ℕ)
    → ((k : ℕ) → i ≤ k → k < p → part k ≡ None) → pairs_along m d part p qs i ≡ qs
unfolding pairs_along
still d part p zero qs i none = refl
still d part p (suc m) qs i none = elim (inside_or i p) [
  | inl lt ↦ one_on m d part p qs i None lt (none i (omega arith) lt)
      ∙ still d part p m qs (i + 1) (λ k low high. none k (omega (arith, low)) high)
  | inr out ↦ over_end (suc m) d part p qs i out
]

placed_inside : (d : Direction) (o : Option PairMove) (p at : ℕ) (qs rs : Positions) → length qs ≡ p → at < p
    → ((m : PairMove) → o ≡ Some m → m.second < p) → pair_placed d o at (qs ++ rs) ≡ pair_placed d o at qs ++ rs
placed_inside d None p at qs rs long lt inside = refl
placed_inside d (Some m) p at qs rs long lt inside =
    let here : at < length qs = omega (arith, lt, long) in
    let there : m.second < length (value_added d m.first_value at qs) =
    omega (arith, inside m refl, long, added_long d m.first_value at qs) in
    ap (value_added d m.second_value m.second) (placed_front d m.first_value at qs rs here)
    ∙ placed_front d m.second_value m.second (value_added d m.first_value at qs) rs there

next_within : (o : Option PairMove) (p at : ℕ) → at < p → ((m : PairMove) → o ≡ Some m → m.second < p)
    → pair_next o at ≤ p
next_within None p at lt inside = omega (arith, lt)
next_within (Some m) p at lt inside = omega (arith, inside m refl, next_high m at)

next_rises : (o : Option PairMove) (at : ℕ) → ((m : PairMove) → o ≡ Some m → at < m.second) → at < pair_next o at
next_rises None at behind = omega arith
next_rises (Some m) at behind = omega (arith, behind m refl, next_low m at)

pub none_by : (o : Option PairMove) → ((m : PairMove) → o ≡ Some m → ⊥) → o ≡ None
none_by None never = refl
none_by (Some m) never = absurd (never m refl)

-- inside of a pair that ends behind the first part, that has none
none_inside : (d : Direction) (act part : ℕ → Option PairMove) (len p at k : ℕ) (m : PairMove) → ArePairs d len act
    → act at ≡ Some m → p ≤ m.second → at < k → k < p → FrontAgrees p (part k) (act k) → part k ≡ None
none_inside d act part len p at k m are pair far low high agrees = elim agrees [
  | inl same ↦ same.0 ∙ none_by (act k) (λ other e. absurd (omega (
    arith,
    same.1 other e,
    are.ends at k m other pair low (omega (arith, high, far)) e,
    far,
  )))
  | inr none ↦ none.0
]

loose_by : (b : Bool) → (b ≡ true → ⊥) → b ≡ false
loose_by true never = absurd (never refl)
loose_by false never = refl

-- the text and its first part, before a cut
pub record IsFront (s : Setting) (table : List ℕ) (old : Glyphs) (p : ℕ) (part : ℕ → Option PairMove) : Type 0 where
  pub table_is : AreOfPairs table
  pub features : IsOfFeatures s.how
  pub are : ArePairs s.direction (length old) (pairs_of s table old)
  pub short : (i : ℕ) (m : PairMove) → pairs_of s table old i ≡ Some m → holds_together s.direction m ≡ true
      → pair_end m old - i ≤ 255
  pub agree : (i : ℕ) → i < p → FrontAgrees p (part i) (pairs_of s table old i)
  pub within : p ≤ length old

abbrev pub FrontWalks : (s : Setting) → List ℕ → Glyphs → ℕ → (ℕ → Option PairMove) → ℕ → ℕ → Type 0
FrontWalks s table old p part n m =
    (gs : Glyphs) (qs rs : Positions) (at : ℕ) → AlikeTo essence gs old → length qs ≡ p → AreOfNumbers qs →
    AreOfNumbers rs → at ≤ p → length old ≤ at + n → p ≤ at + m →
    let made = applied_along n (pair_step s table) gs (qs ++ rs) at in
    ClearAt made.glyphs p → Landed s.direction (pairs_of s table old) (length old) p made.positions
    (pairs_along m s.direction part p qs at) rs

all_joined : (qs rs : Positions) → AreOfNumbers qs → AreOfNumbers rs → AreOfNumbers (qs ++ rs)
all_joined [] rs one two = two
all_joined (q ∷ qs) rs one two = (one.0, all_joined qs rs one.1 two)

front_over : (s : Setting) (table : List ℕ) (old : Glyphs) (p : ℕ) (part : ℕ → Option PairMove) → IsFront s table old p part
    → (n m : ℕ) (gs : Glyphs) (qs rs : Positions) (at : ℕ) → AlikeTo essence gs old → at ≡ p → length old ≤ at + n
    → Landed s.direction (pairs_of s table old) (length old) p (applied_along n (pair_step s table) gs (qs ++ rs)
    at).positions (pairs_along m s.direction part p qs at) rs
front_over s table old p part is n m gs qs rs at same here enough = record {
  steps = n;
  place = at;
  is = (walks_as s table is.table_is is.features old n gs (qs ++ rs) at same).positions
      ∙ ap (λ x. pairs_along n s.direction (pairs_of s table old) (length old) (x ++ rs) at)
      (sym (over_end m s.direction part p qs at (omega (arith, here))));
  low = omega (arith, here);
  high = omega (arith, here, is.within);
  enough = enough;
  quiet = λ k it low high. absurd (omega (arith, low, high, here));
}

-- the text's step and what follows, by the positions and the place that it comes to
abbrev rest_of : Setting → List ℕ → ℕ → Glyphs → Positions → ℕ → Progress
rest_of s table n gs ps at = applied_along n (pair_step s table) gs ps at

front_across : (s : Setting) (table : List ℕ) (old : Glyphs) (p : ℕ) (part : ℕ → Option PairMove) → IsFront s table old p part
    → (n m : ℕ) → FrontWalks s table old p part n m → (gs : Glyphs) (qs rs : Positions) (at : ℕ) → AlikeTo essence gs old
    → length qs ≡ p → AreOfNumbers qs → AreOfNumbers rs → at < p → length old ≤ at + suc n → p ≤ at + suc m
    → part at ≡ None → (o : Option PairMove) → pairs_of s table old at ≡ o → ((it : PairMove) → o ≡ Some it → p ≤ it.second)
    → (c : Progress) → StepsByPair s.direction gs (qs ++ rs) at o c
    → (let made = rest_of s table n c.glyphs c.positions c.next in ClearAt made.glyphs p
    → Landed s.direction (pairs_of s table old) (length old) p made.positions (pairs_along (suc m) s.direction part p qs at) rs)
front_across s table old p part is n m walks gs qs rs at same long one two lt enough few none None e far c step clear =
    let d = s.direction in
    let act = pairs_of s table old in
    let made : rest_of s table n c.glyphs c.positions c.next ≡ rest_of s table n c.glyphs (qs ++ rs) (at + 1) =
    ap (λ ps. rest_of s table n c.glyphs ps c.next) step.positions ∙ ap (rest_of s table n c.glyphs (qs ++ rs)) step.next in
    let rest = walks c.glyphs qs rs (at + 1) (step.only.same ∙ same) long one two (omega (arith, lt))
    (omega (arith, enough)) (omega (arith, few)) (subst (λ (x : Progress). ClearAt x.glyphs p) made clear) in
    subst (λ (x : Progress). Landed d act (length old) p x.positions (pairs_along (suc m) d part p qs at) rs) (sym made)
    (subst (λ x. Landed d act (length old) p (rest_of s table n c.glyphs (qs ++ rs) (at + 1)).positions x rs)
    (sym (one_on m d part p qs at None lt none)) rest)
front_across s table old p part is n m walks gs qs rs at same long one two lt enough few none (Some it) e far c step clear =
    let d = s.direction in
    let act = pairs_of s table old in
    let within = is.are.behind at it e in
    let made = rest_of s table n c.glyphs c.positions c.next in
    let comes = walks_as s table is.table_is is.features old n c.glyphs c.positions c.next (step.only.same ∙ same) in
    let ends : length gs ≡ length old = alike_long essence gs old same in
    let last = (if it.has_second then it.second + 1 else it.second) in
    let end_same : pair_end it gs ≡ pair_end it old = ap (λ k. (if nat_lt last k then last + 1 else k)) ends in
    let loose : holds_together d it ≡ false = loose_by (holds_together d it) (λ holds. step.flagged it refl holds within.0
    (omega (arith, is.short at it e holds, end_same)) made.glyphs comes.only.comes p clear lt (far it refl)) in
    let front : pairs_along (suc m) d part p qs at ≡ qs = one_on m d part p qs at None lt none
    ∙ still d part p m qs (at + 1) (λ k low high. none_inside d act part (length old) p at k it is.are e (far it refl)
    (omega (arith, low)) high (is.agree k high)) in
    let places : c.positions ≡ qs ++ rs = step.positions ∙ placed_idle d it at (qs ++ rs) (all_joined qs rs one two) loose in
    let on : c.next ≡ it.second = step.next ∙ next_idle d it at loose in
    record {
      steps = n;
      place = it.second;
      is = comes.positions ∙ ap (λ ps. pairs_along n d act (length old) ps c.next) (places ∙ ap (λ x. x ++ rs) (sym front))
          ∙ ap (pairs_along n d act (length old) (pairs_along (suc m) d part p qs at ++ rs)) on;
      low = far it refl;
      high = omega (arith, within.1);
      enough = omega (arith, enough, within.0);
      quiet = λ k other low high r. (
        is.are.idle at k it other e loose (omega (arith, low, lt)) high r,
        omega (arith, is.are.ends at k it other e (omega (arith, low, lt)) high r),
      );
    }

front_inside : (s : Setting) (table : List ℕ) (old : Glyphs) (p : ℕ) (part : ℕ → Option PairMove) → IsFront s table old p part
    → (n m : ℕ) → FrontWalks s table old p part n m → (gs : Glyphs) (qs rs : Positions) (at : ℕ) → AlikeTo essence gs old
    → length qs ≡ p → AreOfNumbers qs → AreOfNumbers rs → at < p → length old ≤ at + suc n → p ≤ at + suc m
    → (o : Option PairMove) → part at ≡ o → ((it : PairMove) → o ≡ Some it → (at < it.second) × (it.second < p))
    → (c : Progress) → StepsByPair s.direction gs (qs ++ rs) at o c
    → (let made = rest_of s table n c.glyphs c.positions c.next in ClearAt made.glyphs p
    → Landed s.direction (pairs_of s table old) (length old) p made.positions (pairs_along (suc m) s.direction part p qs at) rs)
front_inside s table old p part is n m walks gs qs rs at same long one two lt enough few o e inside c step clear =
    let d = s.direction in
    let act = pairs_of s table old in
    let places = pair_placed d o at qs in
    let next = pair_next o at in
    let made : rest_of s table n c.glyphs c.positions c.next ≡ rest_of s table n c.glyphs (places ++ rs) next =
    ap (λ ps. rest_of s table n c.glyphs ps c.next)
    (step.positions ∙ placed_inside d o p at qs rs long lt (λ it r. (inside it r).1))
    ∙ ap (rest_of s table n c.glyphs (places ++ rs)) step.next in
    let rises : at < next = next_rises o at (λ it r. (inside it r).0) in
    let rest = walks c.glyphs places rs next (step.only.same ∙ same) (placed_long d o at qs ∙ long)
    (placed_numbers d o at qs one) two (next_within o p at lt (λ it r. (inside it r).1))
    (omega (arith, enough, rises)) (omega (arith, few, rises)) (subst (λ (x : Progress). ClearAt x.glyphs p) made clear) in
    subst (λ (x : Progress). Landed d act (length old) p x.positions (pairs_along (suc m) d part p qs at) rs) (sym made)
    (subst (λ x. Landed d act (length old) p (rest_of s table n c.glyphs (places ++ rs) next).positions x rs)
    (sym (one_on m d part p qs at o lt e)) rest)

pub front_walks : (s : Setting) (table : List ℕ) (old : Glyphs) (p : ℕ) (part : ℕ → Option PairMove)
    → IsFront s table old p part → (n m : ℕ) → FrontWalks s table old p part n m
front_walks s table old p part is zero m gs qs rs at same long one two le enough few clear =
    front_over s table old p part is zero m gs qs rs at same (omega (arith, le, enough, is.within)) enough
front_walks s table old p part is (suc n) zero gs qs rs at same long one two le enough few clear =
    front_over s table old p part is (suc n) zero gs qs rs at same (omega (arith, le, few)) enough
front_walks s table old p part is (suc n) (suc m) gs qs rs at same long one two le enough few clear = elim (inside_or at p) [
  | inr out ↦ front_over s table old p part is (suc n) (suc m) gs qs rs at same (omega (arith, le, out)) enough
  | inl lt ↦ (let d = s.direction in
      let act = pairs_of s table old in
      let ends : length gs ≡ length old = alike_long essence gs old same in
      let here : at < length gs = omega (arith, lt, ends, is.within) in
      let c = pair_step s table gs (qs ++ rs) at in
      let step = subst (λ o. StepsByPair d gs (qs ++ rs) at o c) (pair_same s.gdef table s.how gs old at is.features same)
      (steps_by_pair s table gs (qs ++ rs) at is.table_is here) in
      let on = along_step (pair_step s table) n gs (qs ++ rs) at here in
      let walks = front_walks s table old p part is n m in
      let clear_on = subst (λ (x : Progress). ClearAt x.glyphs p) on clear in
      subst (λ (x : Progress). Landed d act (length old) p x.positions (pairs_along (suc m) d part p qs at) rs) (sym on)
      (elim (is.agree at lt) [
        | inl agrees ↦ front_inside s table old p part is n m walks gs qs rs at same long one two lt enough few (act at)
            agrees.0 (λ it e. ((is.are.behind at it e).0, agrees.1 it e)) c step clear_on
        | inr agrees ↦ front_across s table old p part is n m walks gs qs rs at same long one two lt enough few agrees.0
            (act at) refl agrees.1 c step clear_on
      ]))
]

-- ---- BOTH

-- what the lookup makes of the positions of a text that is cut in two
pub parts_walk : (s : Setting) (table : List ℕ) (old : Glyphs) (p size : ℕ) (front back : ℕ → Option PairMove)
    → IsFront s table old p front → ((i : ℕ) → i < size → BackAgrees p (back i) (pairs_of s table old (p + i)))
    → length old ≡ p + size → (qs rs : Positions) → length qs ≡ p → length rs ≡ size → AreOfNumbers qs → AreOfNumbers rs
    → (let made = applied_along (length old) (pair_step s table) old (qs ++ rs) 0 in ClearAt made.glyphs p → made.positions
    ≡ pairs_along p s.direction front p qs 0 ++ pairs_along size s.direction back size rs 0)
parts_walk s table old p size front back is agree sum qs rs long paired one two clear =
    let d = s.direction in
    let act = pairs_of s table old in
    let first = front_walks s table old p front is (length old) p old qs rs 0 refl long one two (omega arith)
    (omega arith) (omega arith) clear in
    let made = pairs_along p d front p qs 0 in
    let far = first.place - p in
    let there : first.place ≡ p + far = omega (arith, first.low) in
    let second = comes_to d act back (length old) p size far sum is.are agree
    (subst (ArePassedOver d act p) there first.quiet) (omega (arith, first.high, sum)) size rs 0 two (omega arith) (omega arith) in
    first.is ∙ ap (pairs_along first.steps d act (length old) (made ++ rs)) there
    ∙ back_on d act back (length old) p size sum is.are agree first.steps second.steps made rs far
    (along_long p d front p qs 0 ∙ long) paired (omega (arith, first.enough, there, sum)) second.enough
    ∙ ap (λ x. made ++ x) (sym second.is)
