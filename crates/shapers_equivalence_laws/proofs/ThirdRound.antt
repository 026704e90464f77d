-- The third round, glyph after glyph.
use Rattle.std.proofs.Common.{◌≡◌, ◌≢◌, ◌+◌, ◌-◌, ◌<◌, ◌≤◌, ◌||◌, ◌&&◌, ◌⊎◌, inl, inr, ℕ, Bool, true, false, cond, eqb, nat_le, nat_lt, List, [], ◌∷◌, ◌++◌, length, take, drop, get_or, set, Option, None, Some, refl, sym, ap, ◌∙◌, subst, arith, append_assoc}
use Rattle.std.specs.List.{AllByRecursion}
use Rattle.std.specs.Option.{option_map, option_map_or}
use Rattle.std.proofs.Math.ListN.{get_or-map}
use Rattle.std.proofs.Math.Seq.{drop-append_seam, get_or-append_seam, set-append_seam, take-append_seam}
use Rattle.std.proofs.lemmas.Bool.{and_parts}
use Rattle.std.proofs.lemmas.Bool.Decides.{nat_tests}
use Rattle.std.proofs.lemmas.List.{append-nil, drop-map, get_or-append-add, get_or_append_left, length-append, length-map, map-append, map-set, take-map}
use Rattle.std.proofs.lemmas.Option.{none-some}
use Rattle.shapers_base.specs.declared.font.GlyphId.{GlyphId}
use Rattle.shapers_buffer.specs.Glyphs.{Glyph, Glyphs}
use Rattle.shapers_buffer.specs.declared.buffer.level.BufferClusterLevel.{BufferClusterLevel}
use Rattle.shapers_buffer.specs.Clusters.{merge}
use Rattle.shapers_buffer.specs.Glyph.{default_glyph, order_view, plain}
use Rattle.shapers_buffer.proofs.MappedLists.{all-append, map-hidden}
use Rattle.shapers_clusters.proofs.Merging.{order_view-merge}
use Rattle.shapers_normal.specs.Context.{Context}
use Rattle.shapers_normal.specs.Properties.{as_character}
use Rattle.shapers_normal.specs.Recomposition.{StarterWalk, composition, glyph_at, if_drawn, is_free, left_as_is, recomposed, taken_in, walk_over, without_place}
use Rattle.shapers_normal.specs.Sorting.{class_of, classes, is_mark_glyph}
use Rattle.shapers_equivalence_laws.specs.Equivalence.{SameButForOrder}
use Rattle.shapers_equivalence_laws.specs.Laws.{AreInOrder, HaveOwnClasses, in_canonical_order, mark_class}
use Rattle.shapers_equivalence_laws.proofs.Projections as order
use Rattle.shapers_equivalence_laws.proofs.Apart.{AreMarks, IsMark, OtherMarks, Same, TakesApart, apart_text, apart-append, apart-view, mark_passes, same_beside, view_own}

-- ---- marks in order

abbrev pub Follows : Glyph → Glyphs → Type 0
Follows g [] = Unit {0}
Follows g (h ∷ gs) = (class_of h ≡ 0) ⊎ (class_of g ≤ class_of h)

abbrev pub Ordered : Glyphs → Type 0
Ordered [] = Unit {0}
Ordered (g ∷ gs) = Follows g gs × Ordered gs

pub follows_by : (c d : ℕ) (b : Bool) → eqb d 0 ≡ b → (b || nat_le c d) ≡ true → (d ≡ 0) ⊎ (c ≤ d)
follows_by c d true e test = inl (grind (arith, nat_tests))
follows_by c d false e test = inr (grind (arith, nat_tests))

ordered_of : (gs : Glyphs) → in_canonical_order (classes gs) ≡ true → Ordered gs
ordered_of [] e = tt
ordered_of (g ∷ []) e = (tt, tt)
ordered_of (g ∷ (h ∷ gs)) e =
    let parts = and_parts (eqb (class_of h) 0 || nat_le (class_of g) (class_of h))
    (in_canonical_order (classes (h ∷ gs))) e in
    (follows_by (class_of g) (class_of h) (eqb (class_of h) 0) refl parts.0, ordered_of (h ∷ gs) parts.1)

ordered_last : (bs rs : Glyphs) → Ordered (bs ++ rs) → Ordered rs
ordered_last [] rs o = o
ordered_last (b ∷ bs) rs o = ordered_last bs rs o.1

abbrev Below : ℕ → Glyphs → Type 0
Below c gs = AllByRecursion (λ g. class_of g < c) gs

below_by : (context : Context) (b h m : Glyph) → IsMark context h
    → (class_of h ≡ 0) ⊎ (class_of b ≤ class_of h) → class_of h < class_of m → class_of b < class_of m
below_by context b h m mark (inl none) less = absurd (mark.1 none)
below_by context b h m mark (inr most) less = omega arith

-- marks whose last one stands in a lesser class all do
all_below : (context : Context) (s b m : Glyph) (bs rs : Glyphs) → AreMarks context (b ∷ bs)
    → Ordered ((b ∷ bs) ++ m ∷ rs) → class_of (get_or (s ∷ b ∷ bs) (length (b ∷ bs)) default_glyph) < class_of m
    → Below (class_of m) (b ∷ bs)
all_below context s b m [] rs marks o less = (less, tt)
all_below context s b m (h ∷ bs) rs marks o less =
    let rest = all_below context b h m bs rs marks.1 o.1 less in
    (below_by context b h m marks.1.0 o.0 rest.0, rest)

skipped : (b m r : Glyph) → class_of b < class_of m → (class_of r ≡ 0) ⊎ (class_of m ≤ class_of r)
    → (class_of r ≡ 0) ⊎ (class_of b ≤ class_of r)
skipped b m r less (inl none) = inl none
skipped b m r less (inr most) = inr (omega arith)

follows_without : (b m : Glyph) (rs : Glyphs) → class_of b < class_of m → Follows m rs → Follows b rs
follows_without b m [] less f = tt
follows_without b m (r ∷ rs) less f = skipped b m r less f

-- without a mark that stands in a greater class than those before it
ordered_without : (bs : Glyphs) (m : Glyph) (rs : Glyphs) → Below (class_of m) bs → Ordered (bs ++ m ∷ rs)
    → Ordered (bs ++ rs)
ordered_without [] m rs below o = o.1
ordered_without (b ∷ []) m rs below o = (follows_without b m rs below.0 o.1.0, o.1.1)
ordered_without (b ∷ (h ∷ bs)) m rs below o = (o.0, ordered_without (h ∷ bs) m rs below.1 o.1)

-- ---- the walk

-- the walk's glyphs: those before the starter, the starter, marks, and those still to come
record At (context : Context) (w : StarterWalk) (f : Glyphs) (s : Glyph) (b r : Glyphs) : Type 0 where
  view : order_view w.glyphs ≡ f ++ s ∷ (b ++ r)
  starter : w.starter ≡ length f
  place : w.place ≡ length f + (1 + length b)
  between : AreMarks context b
  behind : HaveOwnClasses context r
  in_order : Ordered (b ++ r)

seen_at : (gs : Glyphs) (i : ℕ) → get_or (order_view gs) i default_glyph ≡ plain (glyph_at gs i)
seen_at gs i = get_or-map plain gs i default_glyph

here : (context : Context) (w : StarterWalk) (f : Glyphs) (s : Glyph) (b : Glyphs) (m : Glyph)
    (r : Glyphs)
    → At context w f s b (m ∷ r) → m ≡ plain (glyph_at w.glyphs w.place)
here context w f s b m r a =
    let front = f ++ s ∷ b in
    let long : length front ≡ w.place = omega (arith, length-append f (s ∷ b), a.place) in
    sym (get_or-append_seam front m r default_glyph)
    ∙ ap (λ xs. get_or xs (length front) default_glyph) (append_assoc f (s ∷ b) (m ∷ r) ∙ sym a.view)
    ∙ ap (λ i. get_or (order_view w.glyphs) i default_glyph) long
    ∙ seen_at w.glyphs w.place

first : (context : Context) (w : StarterWalk) (f : Glyphs) (s : Glyph) (b r : Glyphs) → At context w f s b r
    → s ≡ plain (glyph_at w.glyphs w.starter)
first context w f s b r a =
    sym (get_or-append_seam f s (b ++ r) default_glyph)
    ∙ ap (λ xs. get_or xs (length f) default_glyph) (sym a.view)
    ∙ ap (λ i. get_or (order_view w.glyphs) i default_glyph) (sym a.starter)
    ∙ seen_at w.glyphs w.starter

-- the last mark, or the starter
last : (context : Context) (w : StarterWalk) (f : Glyphs) (s : Glyph) (b r : Glyphs) → At context w f s b r
    → get_or (s ∷ b) (length b) default_glyph ≡ plain (glyph_at w.glyphs (w.place - 1))
last context w f s b r a =
    let n = length b in
    let before : w.place - 1 ≡ length f + n = omega (arith, a.place) in
    let inside : n < length (s ∷ b) = omega arith in
    sym (get_or_append_left (s ∷ b) r default_glyph n inside)
    ∙ sym (get_or-append-add f ((s ∷ b) ++ r) n default_glyph)
    ∙ ap (λ xs. get_or xs (length f + n) default_glyph) (sym a.view)
    ∙ ap (λ i. get_or (order_view w.glyphs) i default_glyph) (sym before)
    ∙ seen_at w.glyphs (w.place - 1)

-- ---- a mark that is taken in

drawn_as : (c : ℕ) (o : Option GlyphId) (drawn : ℕ × GlyphId) → option_map (λ glyph. (c, glyph)) o ≡ Some drawn
    → c ≡ drawn.0
drawn_as c None drawn e = absurd (none-some drawn e)
drawn_as c (Some glyph) drawn e = ap (λ (o : Option (ℕ × GlyphId)). option_map_or (λ p. p.0) o c) e

drawn_of : (context : Context) (o : Option ℕ) (drawn : ℕ × GlyphId) → if_drawn context o ≡ Some drawn → o ≡ Some drawn.0
drawn_of context None drawn e = absurd (none-some drawn e)
drawn_of context (Some c) drawn e = ap Some (drawn_as c (context.nominal c) drawn e)

-- what has come of both, and that nothing keeps the mark from the starter
made_of : (context : Context) (o : Option ℕ) (drawn : ℕ × GlyphId) (b : Bool)
    → cond b (if_drawn context o) None ≡ Some drawn → (b ≡ true) × (o ≡ Some drawn.0)
made_of context o drawn true e = (refl, drawn_of context o drawn e)
made_of context o drawn false e = absurd (none-some drawn e)

free_by : (n : ℕ) (start place : ℕ) (c d : ℕ) (next : Bool) → eqb (start + 1) place ≡ next → place ≡ start + (1 + n)
    → (next || nat_lt c d) ≡ true → (n ≡ 0) ⊎ (c < d)
free_by n start place c d true e long test = inl
    (let same : start + 1 ≡ place = grind (arith, nat_tests) in omega arith)
free_by n start place c d false e long test = inr (grind (arith, nat_tests))

-- marks that one passes: those between it and the starter
marks_lower : (context : Context) (s m : Glyph) (b r : Glyphs) → AreMarks context b → Ordered (b ++ m ∷ r)
    → (length b ≡ 0) ⊎ (class_of (get_or (s ∷ b) (length b) default_glyph) < class_of m) → Below (class_of m) b
marks_lower context s m [] r marks o free = tt
marks_lower context s m (b ∷ bs) r marks o (inl none) = absurd (omega arith)
marks_lower context s m (b ∷ bs) r marks o (inr less) = all_below context s b m bs r marks o less

others_below : (context : Context) (c : ℕ) (b : Glyphs) → AreMarks context b → Below c b → OtherMarks context c b
others_below context c [] marks below = tt
others_below context c (b ∷ bs) marks below = let less : class_of b < c = below.0 in
    ((marks.0, λ e. absurd (omega arith)), others_below context c bs marks.1 below.1)

-- a mark goes before those that stand in lesser classes
goes_first : (context : Context) (full : ℕ → List ℕ) → TakesApart context full → (m : Glyph) (b : Glyphs)
    → class_of m ≡ mark_class context m.glyph_id → AreMarks context b → Below (class_of m) b
    → SameButForOrder (mark_class context) (full m.glyph_id ++ apart_text full b) (apart_text full b ++ full m.glyph_id)
goes_first context full t m [] own marks below = order.as_is (mark_class context) (full m.glyph_id ++ [])
    (full m.glyph_id) (append-nil (full m.glyph_id))
goes_first context full t m (b ∷ bs) own marks below =
    let less : class_of b < class_of m = below.0 in
    mark_passes context full t m (b ∷ bs) (own, λ none. absurd (omega arith))
    (others_below context (class_of m) (b ∷ bs) marks below)

-- what is left of the glyphs
without_view : (i : ℕ) (gs : Glyphs) → order_view (without_place i gs) ≡ without_place i (order_view gs)
without_view i gs =
    map-append plain (take i gs) (drop (i + 1) gs)
    ∙ ap (λ xs. xs ++ order_view (drop (i + 1) gs)) (sym (take-map plain i gs))
    ∙ ap (λ xs. take i (order_view gs) ++ xs) (sym (drop-map plain (i + 1) gs))

without_at : (front : Glyphs) (m : Glyph) (r : Glyphs) (i : ℕ) → i ≡ length front
    → without_place i (front ++ m ∷ r) ≡ front ++ r
without_at front m r i place =
    let next : i + 1 ≡ length (front ++ m ∷ []) = omega (arith, length-append front (m ∷ [])) in
    ap (λ k. take k (front ++ m ∷ r) ++ drop (i + 1) (front ++ m ∷ r)) place
    ∙ ap (λ xs. xs ++ drop (i + 1) (front ++ m ∷ r)) (take-append_seam front (m ∷ r))
    ∙ ap (λ k. front ++ drop k (front ++ m ∷ r)) next
    ∙ ap (λ xs. front ++ drop (length (front ++ m ∷ [])) xs) (sym (append_assoc front (m ∷ []) r))
    ∙ ap (λ xs. front ++ xs) (drop-append_seam (front ++ m ∷ []) r)

-- the starter as what it has become
abbrev became : Context → BufferClusterLevel → ℕ × GlyphId → StarterWalk → Glyph
became context level drawn w = as_character context drawn.0 drawn.1.0
    (glyph_at (without_place w.place (merge level w.starter (w.place + 1) w.glyphs)) w.starter)

taken_view : (context : Context) (level : BufferClusterLevel) (drawn : ℕ × GlyphId) (w : StarterWalk) (f : Glyphs)
    (s : Glyph) (b : Glyphs) (m : Glyph) (r : Glyphs)
    → At context w f s b (m ∷ r)
    → order_view (taken_in context level drawn w).glyphs ≡ f ++ plain (became context level drawn w) ∷ (b ++ r)
taken_view context level drawn w f s b m r a =
    let merged = merge level w.starter (w.place + 1) w.glyphs in
    let left = without_place w.place merged in
    let new = plain (became context level drawn w) in
    let front = f ++ s ∷ b in
    let long : w.place ≡ length front = omega (arith, length-append f (s ∷ b), a.place) in
    let view : order_view left ≡ f ++ s ∷ (b ++ r) =
    without_view w.place merged
    ∙ ap (without_place w.place) (order_view-merge level w.starter (w.place + 1) w.glyphs ∙ a.view ∙ sym
    (append_assoc f (s ∷ b) (m ∷ r)))
    ∙ without_at front m r w.place long
    ∙ append_assoc f (s ∷ b) r in
    map-set plain left w.starter (became context level drawn w)
    ∙ ap (λ xs. set xs w.starter new) view
    ∙ ap (λ i. set (f ++ s ∷ (b ++ r)) i new) a.starter
    ∙ set-append_seam f s (b ++ r) new

record Takes (context : Context) (drawn : ℕ × GlyphId) (s m : Glyph) (b : Glyphs) : Type 0 where
  made : context.composed s.glyph_id m.glyph_id ≡ Some drawn.0
  below : Below (class_of m) b

takes : (context : Context) (drawn : ℕ × GlyphId) (w : StarterWalk) (f : Glyphs) (s : Glyph) (b : Glyphs)
    (m : Glyph) (r : Glyphs)
    → At context w f s b (m ∷ r) → composition context w ≡ Some drawn → Takes context drawn s m b
takes context drawn w f s b m r a e =
    let mark = glyph_at w.glyphs w.place in
    let is_m = here context w f s b m r a in
    let is_s = first context w f s b (m ∷ r) a in
    let is_last = last context w f s b (m ∷ r) a in
    let starter = glyph_at w.glyphs w.starter in
    let before = glyph_at w.glyphs (w.place - 1) in
    let both = made_of context (context.composed starter.glyph_id mark.glyph_id) drawn
    (is_mark_glyph mark && is_free w) e in
    let free = (and_parts (is_mark_glyph mark) (is_free w) both.0).1 in
    let long : w.place ≡ w.starter + (1 + length b) = omega (arith, a.place, a.starter) in
    let or_less : (length b ≡ 0) ⊎ (class_of before < class_of mark) = free_by (length b) w.starter w.place
    (class_of before) (class_of mark) (eqb (w.starter + 1) w.place) refl long free in
    let seen : (length b ≡ 0) ⊎ (class_of (get_or (s ∷ b) (length b) default_glyph) < class_of m) =
    subst (λ (g : Glyph). (length b ≡ 0) ⊎ (class_of g < class_of m)) (sym is_last)
    (subst (λ (g : Glyph). (length b ≡ 0) ⊎ (class_of before < class_of g)) (sym is_m) or_less) in
    record {
      made =
          ap (λ (g : Glyph). context.composed g.glyph_id m.glyph_id) is_s
          ∙ ap (λ (g : Glyph). context.composed starter.glyph_id g.glyph_id) is_m
          ∙ both.1;
      below = marks_lower context s m b r a.between a.in_order seen;
    }

-- what is composed is the same text
composed_same : (context : Context) (full : ℕ → List ℕ) → TakesApart context full
    → (f : Glyphs) (s m : Glyph) (b r : Glyphs) (c : ℕ) (new : Glyph) → new.glyph_id ≡ c
    → context.composed s.glyph_id m.glyph_id ≡ Some c → class_of m ≡ mark_class context m.glyph_id
    → AreMarks context b → Below (class_of m) b → Same context full (f ++ new ∷ (b ++ r)) (f ++ s ∷ (b ++ m ∷ r))
composed_same context full t f s m b r c new is made own marks below =
    let class = mark_class context in
    let old = full s.glyph_id in
    let mark = full m.glyph_id in
    let between = apart_text full b in
    let rest = apart_text full r in
    let both : SameButForOrder class (full c) (old ++ mark) = t.composed s.glyph_id m.glyph_id c made in
    let text : SameButForOrder class (full new.glyph_id ++ apart_text full (b ++ r))
    (old ++ apart_text full (b ++ m ∷ r)) = λ k.
    order.as_is class (full new.glyph_id ++ apart_text full (b ++ r)) (full c ++ (between ++ rest))
    (ap (λ n. full n ++ apart_text full (b ++ r)) is ∙ ap (λ xs. full c ++ xs) (apart-append full b r)) k
    ∙ order.beside class (full c) (between ++ rest) (old ++ mark) (between ++ rest) both
    (order.same class (between ++ rest)) k
    ∙ order.as_is class ((old ++ mark) ++ (between ++ rest)) (old ++ ((mark ++ between) ++ rest))
    (append_assoc old mark (between ++ rest) ∙ ap (λ xs. old ++ xs) (sym (append_assoc mark between rest))) k
    ∙ order.beside class old ((mark ++ between) ++ rest) old ((between ++ mark) ++ rest) (order.same class old)
    (order.beside class (mark ++ between) rest (between ++ mark) rest (goes_first context full t m b own marks below)
    (order.same class rest)) k
    ∙ order.as_is class (old ++ ((between ++ mark) ++ rest)) (old ++ apart_text full (b ++ m ∷ r))
    (ap (λ xs. old ++ xs) (append_assoc between mark rest ∙ sym (apart-append full b (m ∷ r)))) k in
    same_beside context full f (new ∷ (b ++ r)) f (s ∷ (b ++ m ∷ r)) (λ k. refl) text

-- ---- one glyph after another

abbrev End : Context → (ℕ → List ℕ) → BufferClusterLevel → Glyphs → Type 0
End context full level r = (w : StarterWalk) (f : Glyphs) (s : Glyph) (b : Glyphs) → At context w f s b r
    → Same context full (walk_over context level (length r) w).glyphs (f ++ s ∷ (b ++ r))

left_letter : (context : Context) (w : StarterWalk) (f : Glyphs) (s : Glyph) (b : Glyphs)
    (m : Glyph) (r : Glyphs)
    → At context w f s b (m ∷ r)
    → At context (record w { starter = w.place; place = w.place + 1 }) (f ++ s ∷ b) m [] r
left_letter context w f s b m r a = record {
  view = a.view ∙ sym (append_assoc f (s ∷ b) (m ∷ r));
  starter = omega (arith, length-append f (s ∷ b), a.place);
  place = omega (arith, length-append f (s ∷ b), a.place);
  between = tt;
  behind = a.behind.1;
  in_order = (ordered_last b (m ∷ r) a.in_order).1;
}

left_mark : (context : Context) (w : StarterWalk) (f : Glyphs) (s : Glyph) (b : Glyphs) (m : Glyph)
    (r : Glyphs)
    → class_of m ≢ 0 → At context w f s b (m ∷ r) → At context (record w { place = w.place + 1 }) f s (b ++ m ∷ []) r
left_mark context w f s b m r some a =
    let more : b ++ m ∷ r ≡ (b ++ m ∷ []) ++ r = sym (append_assoc b (m ∷ []) r) in
    record {
      view = a.view ∙ ap (λ xs. f ++ s ∷ xs) more;
      starter = a.starter;
      place = omega (arith, length-append b (m ∷ []), a.place);
      between = all-append (IsMark context) b (m ∷ []) a.between ((a.behind.0, some), tt);
      behind = a.behind.1;
      in_order = subst Ordered more a.in_order;
    }

taken_at : (context : Context) (level : BufferClusterLevel) (drawn : ℕ × GlyphId) (w : StarterWalk) (f : Glyphs)
    (s : Glyph) (b : Glyphs) (m : Glyph) (r : Glyphs)
    → At context w f s b (m ∷ r) → Below (class_of m) b
    → At context (taken_in context level drawn w) f (plain (became context level drawn w)) b r
taken_at context level drawn w f s b m r a below = record {
  view = taken_view context level drawn w f s b m r a;
  starter = a.starter;
  place = a.place;
  between = a.between;
  behind = a.behind.1;
  in_order = ordered_without b m r below a.in_order;
}

stays_by : (context : Context) (full : ℕ → List ℕ) (level : BufferClusterLevel) (w : StarterWalk) (f : Glyphs)
    (s : Glyph) (b : Glyphs) (m : Glyph) (r : Glyphs) (letter : Bool)
    → eqb (class_of m) 0 ≡ letter → At context w f s b (m ∷ r) → End context full level r
    → Same context full (walk_over context level (length r)
    (record w { starter = cond letter w.place w.starter; place = w.place + 1 })).glyphs (f ++ s ∷ (b ++ m ∷ r))
stays_by context full level w f s b m r true e a ih = λ k.
    ih (record w { starter = w.place; place = w.place + 1 }) (f ++ s ∷ b) m [] (left_letter context w f s b m r a) k
    ∙ order.as_is (mark_class context) (apart_text full ((f ++ s ∷ b) ++ m ∷ r))
    (apart_text full (f ++ s ∷ (b ++ m ∷ r))) (ap (apart_text full) (append_assoc f (s ∷ b) (m ∷ r))) k
stays_by context full level w f s b m r false e a ih =
    let some : class_of m ≢ 0 = grind (arith, nat_tests) in
    λ k.
    ih (record w { place = w.place + 1 }) f s (b ++ m ∷ []) (left_mark context w f s b m r some a) k
    ∙ order.as_is (mark_class context) (apart_text full (f ++ s ∷ ((b ++ m ∷ []) ++ r)))
    (apart_text full (f ++ s ∷ (b ++ m ∷ r))) (ap (λ xs. apart_text full (f ++ s ∷ xs)) (append_assoc b (m ∷ []) r)) k

step_by : (context : Context) (full : ℕ → List ℕ) → TakesApart context full
    → (level : BufferClusterLevel) (w : StarterWalk) (f : Glyphs) (s : Glyph) (b : Glyphs)
    (m : Glyph) (r : Glyphs) (o : Option (ℕ × GlyphId))
    → composition context w ≡ o → At context w f s b (m ∷ r) → End context full level r
    → Same context full (walk_over context level (length r)
    (option_map_or (λ drawn. taken_in context level drawn w) o (left_as_is w))).glyphs (f ++ s ∷ (b ++ m ∷ r))
step_by context full t level w f s b m r None e a ih =
    let same : class_of (glyph_at w.glyphs w.place) ≡ class_of m = sym (ap class_of (here context w f s b m r a)) in
    subst (λ (c : ℕ). Same context full (walk_over context level (length r)
    (record w { starter = cond (eqb c 0) w.place w.starter; place = w.place + 1 })).glyphs (f ++ s ∷ (b ++ m ∷ r)))
    (sym same)
    (stays_by context full level w f s b m r (eqb (class_of m) 0) refl a ih)
step_by context full t level w f s b m r (Some drawn) e a ih =
    let take = takes context drawn w f s b m r a e in
    let new = plain (became context level drawn w) in
    λ k.
    ih (taken_in context level drawn w) f new b (taken_at context level drawn w f s b m r a take.below) k
    ∙ composed_same context full t f s m b r drawn.0 new refl take.made a.behind.0 a.between take.below k

walk_same : (context : Context) (full : ℕ → List ℕ) → TakesApart context full
    → (level : BufferClusterLevel) (r : Glyphs) → End context full level r
walk_same context full t level [] w f s b a = order.as_is (mark_class context) (apart_text full w.glyphs)
    (apart_text full (f ++ s ∷ (b ++ []))) (sym (apart-view full w.glyphs) ∙ ap (apart_text full) a.view)
walk_same context full t level (m ∷ r) w f s b a = step_by context full t level w f s b m r
    (composition context w) refl a (walk_same context full t level r)

pub third_same : (context : Context) (full : ℕ → List ℕ) → TakesApart context full
    → (level : BufferClusterLevel) (gs : Glyphs) → AreInOrder context gs
    → Same context full (recomposed context level gs) gs
third_same context full t level [] o = λ k. refl
third_same context full t level (g ∷ gs) o =
    let start : StarterWalk = record { starter = 0; place = 1; glyphs = g ∷ gs } in
    let many : length (g ∷ gs) - 1 ≡ length (order_view gs) = omega (arith, length-map gs plain) in
    let view = order_view gs in
    let classes_seen : classes view ≡ classes gs = map-hidden class_of plain (λ g. refl) gs in
    let ordered : Ordered (plain g ∷ view) = ordered_of (plain g ∷ view)
    (ap (λ cs. in_canonical_order (class_of g ∷ cs)) classes_seen ∙ o.ordered) in
    let at : At context start [] (plain g) [] view = record {
      view = refl;
      starter = refl;
      place = refl;
      between = tt;
      behind = view_own context gs o.own.1;
      in_order =
          ordered.1;
    } in
    λ k.
    order.as_is (mark_class context) (apart_text full (recomposed context level (g ∷ gs)))
    (apart_text full (walk_over context level (length view) start).glyphs)
    (ap (λ n. apart_text full (walk_over context level n start).glyphs) many) k
    ∙ walk_same context full t level view start [] (plain g) [] at k
    ∙ order.as_is (mark_class context) (apart_text full (order_view (g ∷ gs))) (apart_text full (g ∷ gs))
    (apart-view full (g ∷ gs)) k
