-- The walk that reorders syllable by syllable, for any order: what it still has to do, and what a chain comes to.
use Rattle.std.proofs.Common.{append-nil, take_all, ℕ, ◌+◌, ◌-◌, ◌<◌, ◌≤◌, ◌≡◌, ◌≢◌, List, [], ◌∷◌, ◌++◌, map, length, take, drop, refl, sym, ◌∙◌, ap, subst, arith, append_assoc, length-append, length-take-le, length-drop}
use Rattle.std.specs.Prelude.{Bool, true, false, Option}
use Rattle.std.specs.List.{AllByRecursion, flat_map, list_any}
use Rattle.std.specs.List.Sorted.{IsPermutation}
use Rattle.std.proofs.lemmas.List.{drop_all, drop-map, length-map, take_at, drop_at, drop-drop}
use Rattle.std.proofs.lemmas.List.Sorted.{length_permutation}
use Rattle.std.proofs.lemmas.List.Sums.{fold-append}
use Rattle.shapers_buffer.specs.Glyphs.{Glyph, Glyphs}
use Rattle.shapers_buffer.specs.declared.buffer.tag.Script.{Script}
use Rattle.shapers_buffer.specs.Buffer.{Buffer, but_places}
use Rattle.shapers_buffer.specs.Clusters.{stretch_of}
use Rattle.shapers_buffer.specs.Glyph.{order_view, plain}
use Rattle.shapers_buffer.specs.Syllables.{first_syllable_len, syllables}
use Rattle.shapers_buffer.proofs.ClusterLemmas.{length-stretch, map-stretch}
use Rattle.shapers_clusters.specs.Steps.{Step, after_steps, steps_along}
use Rattle.shapers_syllabic.specs.Reordering.{Chain, SyllableOrdered, SyllableReordered, SyllablesLinked, SyllablesReordered, TakesText, TextOrdered, carried, glyph_numbers, syllable_lens, text_order}
use Rattle.shapers_syllabic.specs.ReorderingWalk.{IsNextChanging, RestLinked, TakesRest, ToLink}
use Rattle.shapers_syllabic.proofs.Borders.{syllables-viewed}
use Rattle.shapers_syllabic.proofs.ReorderingLemmas.{after_steps-carried}
use Rattle.shapers_syllabic.proofs.ReorderingWalk.{first_len-view, first_len-within, opens, pieces_of}
use Rattle.shapers_syllabic.proofs.Skipping.{PassesOver, to_next}

abbrev pub Link : Type 1
Link = ℕ → ℕ → Buffer → Buffer → Type 0

abbrev pub Meaning : Type 0
Meaning = Option Script → Glyphs → Glyphs

abbrev pub PermutesNumbers : Meaning → Type 0
PermutesNumbers meaning = (script : Option Script) (gs : Glyphs) →
    IsPermutation (glyph_numbers gs) (glyph_numbers (meaning script gs))

-- each link orders its syllable
abbrev pub Orders : Meaning → Link → Type 0
Orders meaning link = (s e : ℕ) (b c : Buffer) → link s e b c → SyllableOrdered (meaning b.script) s e b c

-- what has the same numbers in some order has as many glyphs
same_count : (meaning : Meaning) (script : Option Script) (gs : Glyphs) → PermutesNumbers meaning →
    length (meaning script gs) ≡ length gs
same_count = search (arith, length-map, length_permutation)

-- the next syllable, seen in the order view
pub record NextSyllable (gs : Glyphs) (start end : ℕ) : Type 0 where
  pub len : ℕ
  pub end_is : end ≡ start + len
  pub within : len ≤ length (drop start (order_view gs))
  pub count : length (take len (drop start (order_view gs))) ≡ len
  pub cut : syllables (drop start (order_view gs)) ≡ take len (drop start (order_view gs)) ∷ syllables
      (drop len (drop start (order_view gs)))
  pub stretch : stretch_of start end (order_view gs) ≡ take len (drop start (order_view gs))

pub next_syllable : (gs : Glyphs) (start end : ℕ) → start < length gs →
    end ≡ start + first_syllable_len (drop start gs) → NextSyllable gs start end
next_syllable gs start end some end_is =
    let xs = order_view gs in
    let rest = drop start xs in
    let xn : length xs ≡ length gs = length-map gs plain in
    let rn : length rest ≡ length gs - start = omega (arith, length-drop start xs) in
    let first : (first_syllable_len rest) ≡ first_syllable_len (drop start gs) = search (drop-map, first_len-view) in
    search (arith, first_len-within, length-take-le, opens)

-- one syllable that is ordered: what stands before its end then, and behind it
pub record OneOrdered (meaning : Meaning) (now new : Buffer) (start end : ℕ)
    (next : NextSyllable now.glyphs start end) : Type 0 where
  pub same_length : length new.glyphs ≡ length now.glyphs
  pub inside : end ≤ length now.glyphs
  pub before : take end (order_view new.glyphs) ≡ take start (order_view now.glyphs) ++ meaning now.script
      (take next.len (drop start (order_view now.glyphs)))
  pub after : drop end (order_view new.glyphs) ≡ drop next.len (drop start (order_view now.glyphs))

pub one_ordered : (meaning : Meaning) (now new : Buffer) (start end : ℕ) → PermutesNumbers meaning →
    (next : NextSyllable now.glyphs start end) → start < length now.glyphs →
    SyllableOrdered (meaning now.script) start end now new → OneOrdered meaning now new start end next
one_ordered meaning now new start end permutes next some done =
    let gs = now.glyphs in
    let xs = order_view gs in
    let rest = drop start xs in
    let k = next.len in
    let xn : length xs ≡ length gs = length-map gs plain in
    let rn : length rest ≡ length gs - start = omega (arith, length-drop start xs) in
    let syl = take k rest in
    let made = meaning now.script syl in
    let made_len : length made ≡ k = same_count meaning now.script syl permutes ∙ next.count in
    let front = take start xs in
    let fn : length front ≡ start = length-take-le start xs (omega arith) in
    let both = length-append front made ∙ omega arith in
    let view = done.order ∙ ap (λ ys. front ++ (meaning now.script ys ++ drop end xs)) next.stretch
    ∙ ap (λ ys. front ++ (made ++ ys)) (ap (λ j. drop j xs) (next.end_is ∙ omega arith) ∙ sym (drop-drop k start xs))
    ∙ sym (append_assoc front made (drop k rest)) in
    record {
      same_length = sym (length-map new.glyphs plain) ∙ ap length view ∙ length-append (front ++ made) (drop k rest)
          ∙ omega (arith, length-drop k rest);
      inside = omega arith;
      before = ap (take end) view ∙ take_at (front ++ made) (drop k rest) end both;
      after = ap (drop end) view ∙ drop_at (front ++ made) (drop k rest) end both;
    }

-- the order view has the same syllables
pub lens-view : (gs : Glyphs) → syllable_lens (order_view gs) ≡ syllable_lens gs
lens-view gs = ap (map length) (syllables-viewed plain (λ g. refl) gs) ∙ lens (syllables gs)
  where
    lens : (pieces : List Glyphs) → map length (map (map plain) pieces) ≡ map length pieces
    lens [] = refl
    lens (piece ∷ pieces) = ap (λ n. n ∷ map length (map (map plain) pieces)) (length-map piece plain)
        ∙ ap (λ ns. length piece ∷ ns) (lens pieces)

pub numbers-view : (gs : Glyphs) → glyph_numbers (order_view gs) ≡ glyph_numbers gs
numbers-view [] = refl
numbers-view (g ∷ gs) = cc (numbers-view gs)

takes-view : (takes : List ℕ → Type 0) (gs : Glyphs) → TakesText takes gs → TakesText takes (order_view gs)
takes-view takes gs all = subst (AllByRecursion takes) (sym (ap (map glyph_numbers)
    (syllables-viewed plain (λ g. refl) gs) ∙ each (syllables gs))) all
  where
    each : (pieces : List Glyphs) → map glyph_numbers (map (map plain) pieces) ≡ map glyph_numbers
        pieces
    each [] = refl
    each (piece ∷ pieces) = ap (λ ns. ns ∷ map glyph_numbers (map (map plain) pieces)) (numbers-view piece)
        ∙ ap (λ ns. glyph_numbers piece ∷ ns) (each pieces)

-- before the first syllable
pub to_link_all : (takes : List ℕ → Type 0) (link : Link) (old : Buffer) → TakesText takes old.glyphs →
    ToLink takes link 0 old old 0
to_link_all = search (arith, takes-view)

-- before the first one of the rest
pub to_link_rest : (takes : List ℕ → Type 0) (link : Link) (from : ℕ) (old : Buffer) → TakesRest takes from old →
    ToLink takes link from old old from
to_link_rest takes link from old rest = record {
  others = refl;
  inside = rest.inside;
  takes_rest = rest.takes_rest;
  completes = λ new linked. linked;
}

-- a walk that goes on where another one ended
pub to_link_on : (takes : List ℕ → Type 0) (link : Link) (from : ℕ) (old mid now : Buffer) (place start : ℕ) →
    ToLink takes link from old mid place → ToLink takes link place mid now start → ToLink takes link from old now start
to_link_on takes link from old mid now place start to on = record {
  others = on.others ∙ ap (λ (b : Buffer). record b { glyphs = now.glyphs }) to.others;
  inside = on.inside;
  takes_rest = on.takes_rest;
  completes = λ new linked. to.completes new (on.completes new linked);
}

-- what is required of the next syllable
pub takes_next : (takes : List ℕ → Type 0) (link : Link) (from : ℕ) (old now : Buffer) (start end : ℕ) →
    ToLink takes link from old now start → NextSyllable now.glyphs start end →
    takes (glyph_numbers (stretch_of start end now.glyphs))
takes_next takes link from old now start end to next =
    subst takes (ap glyph_numbers (sym next.stretch ∙ sym (map-stretch plain start end now.glyphs))
    ∙ numbers-view (stretch_of start end now.glyphs))
    (subst (λ ps. AllByRecursion takes (map glyph_numbers ps)) next.cut to.takes_rest).0

-- one syllable more
pub linked_next : (meaning : Meaning) (takes : List ℕ → Type 0) (link : Link) (from : ℕ) (old now new : Buffer) (start end : ℕ) →
    ToLink takes link from old now start → (next : NextSyllable now.glyphs start end) →
    OneOrdered meaning now new start end next → but_places new ≡ record (but_places now) { glyphs = new.glyphs } →
    link start end now new → ToLink takes link from old new end
linked_next meaning takes link from old now new start end to next done others linked =
    let rest = drop start (order_view now.glyphs) in
    let k = next.len in
    let syl = take k rest in
    let inside = done.inside in
    record {
      others = cc to.others;
      inside = omega arith;
      takes_rest = search arith;
      completes = λ b chain.
          let both : Chain link start (length syl ∷ syllable_lens (drop k rest)) now b =
          subst (λ e. (mid : Buffer) × link start e now mid × Chain link e (syllable_lens (drop k rest)) mid b)
          (sym (ap (λ n. start + n) next.count ∙ sym next.end_is)) (
            new,
            linked,
            subst (λ ys. Chain link end (syllable_lens ys) new b) done.after chain,
          ) in
          to.completes b (subst (λ ps. Chain link start (map length ps) now b) (sym next.cut) both);
    }

-- a syllable without a glyph that may change it is passed over
abbrev pub Stays : (Glyph → Bool) → Link → Type 0
Stays changes link = (s e : ℕ) (b : Buffer) → s < e → e ≤ length b.glyphs →
    list_any changes (stretch_of s e b.glyphs) ≡ false → link s e b b

pub linked_passes : (meaning : Meaning) (takes : List ℕ → Type 0) (changes : Glyph → Bool) (link : Link)
    (from : ℕ) (old now : Buffer) → PermutesNumbers meaning → Orders meaning link → Stays changes link →
    PassesOver changes now.glyphs (ToLink takes link from old now)
linked_passes meaning takes changes link from old now permutes orders stays s e some within end_is none to =
    let linked = stays s e now some within none in
    let ordered = orders s e now now linked in
    let next = next_syllable now.glyphs s e (omega arith) end_is in
    linked_next meaning takes link from old now now s e to next (one_ordered meaning now now s e permutes next
    (omega arith) ordered) ordered.others linked

-- so where each glyph may change its syllable
pub each_may : (link : Link) → Stays (λ _. true) link
each_may link s e b some within none =
    let long : length (stretch_of s e b.glyphs) ≡ e - s = length-stretch s e b.glyphs within in
    absurd (some_any (stretch_of s e b.glyphs) (omega arith) none)
  where
    some_any : (gs : Glyphs) → 0 < length gs → list_any (λ _. true) gs ≢ false
    some_any [] some none = absurd (omega arith)
    some_any (g ∷ gs) some none = cc

-- up to the next syllable that may change
pub to_changing : (meaning : Meaning) (takes : List ℕ → Type 0) (changes : Glyph → Bool) (link : Link)
    (from : ℕ) (old now : Buffer) (gs : Glyphs) (start first : ℕ) → gs ≡ now.glyphs → PermutesNumbers meaning →
    Orders meaning link → Stays changes link → IsNextChanging changes start gs first →
    ToLink takes link from old now start → ToLink takes link from old now first
to_changing meaning takes changes link from old now gs start first is permutes orders stays next to =
    to_next changes now.glyphs (ToLink takes link from old now) (search linked_passes) start first (search arith) to

-- and past it
pub record LinkedNext (takes : List ℕ → Type 0) (link : Link) (from : ℕ) (old now new : Buffer) (end : ℕ) : Type 0 where
  pub same_length : length new.glyphs ≡ length now.glyphs
  pub to : ToLink takes link from old new end

pub past_changing : (meaning : Meaning) (takes : List ℕ → Type 0) (changes : Glyph → Bool) (link : Link)
    (from : ℕ) (old now new : Buffer) (gs : Glyphs) (start first end : ℕ) → gs ≡ now.glyphs →
    PermutesNumbers meaning → Orders meaning link → Stays changes link → IsNextChanging changes start gs first →
    ToLink takes link from old now start → end ≡ first + first_syllable_len (drop first now.glyphs) →
    link first end now new → LinkedNext takes link from old now new end
past_changing meaning takes changes link from old now new gs start first end is permutes orders stays found to end_is linked
    =
    let reached = to_changing meaning takes changes link from old now gs start first is permutes orders stays found to in
    let some : first < length now.glyphs = omega (arith, ap length is) in
    let ordered = orders first end now new linked in
    let next = next_syllable now.glyphs first end some end_is in
    let done = one_ordered meaning now new first end permutes next some ordered in
    search (linked_next meaning takes link from old now new first end reached next done ordered.others linked)

-- behind the last syllable
pub rest_end : (takes : List ℕ → Type 0) (link : Link) (from : ℕ) (old now new : Buffer) →
    ToLink takes link from old now (length now.glyphs) → new ≡ but_places now → RestLinked link from old new
rest_end takes link from old now new to = search (arith, drop_all, length-map)

-- a chain over the syllables from the first one on
pub all_linked : (link : Link) (old new : Buffer) → RestLinked link 0 old new → SyllablesLinked link old new
all_linked link old new linked = subst (λ lens. Chain link 0 lens old new) (lens-view old.glyphs) linked

pub linked_end : (takes : List ℕ → Type 0) (link : Link) (old now new : Buffer) →
    ToLink takes link 0 old now (length now.glyphs) → new ≡ but_places now → SyllablesLinked link old new
linked_end takes link old now new to is = all_linked link old new (rest_end takes link 0 old now new to is)

-- WHAT A CHAIN COMES TO
-- the syllable that its first link orders
record FirstLink (gs : Glyphs) (start : ℕ) (piece : Glyphs)
    (pieces : List Glyphs) : Type 0 where
  some : start < length gs
  next : NextSyllable gs start (start + length piece)
  piece_is : take next.len (drop start (order_view gs)) ≡ piece
  pieces_are : syllables (drop next.len (drop start (order_view gs))) ≡ pieces

some_left : (gs : Glyphs) (piece : Glyphs) (pieces : List Glyphs) → syllables gs ≡ piece ∷ pieces → 0 < length gs
some_left [] piece pieces is = absurd (cc)
some_left (g ∷ gs) piece pieces is = omega arith

none_left : (gs : Glyphs) → syllables gs ≡ [] → length gs ≡ 0
none_left [] is = refl
none_left (g ∷ gs) is = search arith

first_link : (gs : Glyphs) (start : ℕ) (piece : Glyphs) (pieces : List Glyphs)
    → syllables (drop start (order_view gs)) ≡ piece ∷ pieces → FirstLink gs start piece pieces
first_link gs start piece pieces is =
    let rest = drop start (order_view gs) in
    let k = first_syllable_len rest in
    let left = some_left rest piece pieces is in
    let some : start < length gs = search (arith, length-drop, length-map) in
    let both : take k rest ∷ syllables (drop k rest) ≡ piece ∷ pieces = sym (opens rest left) ∙ is in
    let first : k ≡ first_syllable_len (drop start gs) = ap first_syllable_len (drop-map plain start gs)
    ∙ first_len-view (drop start gs) in
    let same : take k rest ≡ piece = cc in
    let size : length piece ≡ k = ap length (sym same) ∙ length-take-le k rest (first_len-within rest) in
    let next = next_syllable gs start (start + length piece) some (omega arith) in
    let is_len : next.len ≡ k = omega (arith, next.end_is) in
    record {
      some = some;
      next = next;
      piece_is = ap (λ j. take j rest) is_len ∙ same;
      pieces_are = ap (λ j. syllables (drop j rest)) is_len ∙ cc;
    }

-- the order view: syllable by syllable what is meant
record OrderedFrom (meaning : Meaning) (now new : Buffer) (start : ℕ) : Type 0 where
  others : new ≡ record now { glyphs = new.glyphs; places = [] }
  order : order_view new.glyphs ≡ take start (order_view now.glyphs) ++ text_order (meaning now.script)
      (drop start (order_view now.glyphs))

ordered_from : (meaning : Meaning) (link : Link) → PermutesNumbers meaning → Orders meaning link
    → (pieces : List Glyphs) (now new : Buffer) (start : ℕ) → syllables (drop start (order_view now.glyphs)) ≡ pieces
    → Chain link start (map length pieces) now new → OrderedFrom meaning now new start
ordered_from meaning link permutes orders [] now new start is chain =
    let xs = order_view now.glyphs in
    search (arith, append-nil xs, take_all start xs (omega (arith, none_left (drop start xs) is, length-drop start xs)))
ordered_from meaning link permutes orders (piece ∷ pieces) now new start is chain =
    let mid = chain.0 in
    let end = start + length piece in
    let first = first_link now.glyphs start piece pieces is in
    let ordered = orders start end now mid chain.1 in
    let done = one_ordered meaning now mid start end permutes first.next first.some ordered in
    let later = ordered_from meaning link permutes orders pieces mid new end
    (ap syllables done.after ∙ first.pieces_are) chain.2 in
    search (
      arith,
      append_assoc (take start (order_view now.glyphs)) (meaning now.script piece)
          (flat_map (meaning now.script) pieces),
    )

-- the chain over a text, seen in the order view
chain-view : (link : Link) (old new : Buffer) → SyllablesLinked link old new →
    Chain link 0 (syllable_lens (order_view old.glyphs)) old new
chain-view = search lens-view

pub text_ordered : (meaning : Meaning) (link : Link) (old new : Buffer) → PermutesNumbers meaning →
    Orders meaning link → SyllablesLinked link old new → TextOrdered (meaning old.script) old new
text_ordered meaning link old new permutes orders chain =
    let done = ordered_from meaning link permutes orders (syllables (order_view old.glyphs)) old new 0 refl
    (chain-view link old new chain) in
    search

-- a syllable that is reordered by steps is ordered
pub ordered_by_steps : (meaning : Glyphs → Glyphs) (steps : Glyphs → List Step) (s e : ℕ) (old new : Buffer)
    → SyllableReordered meaning steps s e old new → SyllableOrdered meaning s e old new
ordered_by_steps = search arith

-- where each link leads by steps: the glyphs that all steps lead to
abbrev pub Leads : Meaning → (Option Script → Glyphs → List Step) → Link → Type 0
Leads meaning steps link = (s e : ℕ) (b c : Buffer) → link s e b c →
    SyllableReordered (meaning b.script) (steps b.script) s e b c

moved_from : (meaning : Meaning) (steps : Option Script → Glyphs → List Step) (link : Link) →
    PermutesNumbers meaning → Leads meaning steps link → (pieces : List Glyphs) (now new : Buffer)
    (start : ℕ) → syllables (drop start (order_view now.glyphs)) ≡ pieces →
    Chain link start (map length pieces) now new → map carried new.glyphs ≡ map carried
    (after_steps now.level (steps_along (length now.glyphs) start (pieces_of (steps now.script) pieces)) now.glyphs)
moved_from meaning steps link permutes leads [] now new start is chain = cc
moved_from meaning steps link permutes leads (piece ∷ pieces) now new start is chain =
    let mid = chain.0 in
    let end = start + length piece in
    let first = first_link now.glyphs start piece pieces is in
    let done = one_ordered meaning now mid start end permutes first.next first.some (ordered_by_steps (meaning
    now.script) (steps now.script) start end now mid (leads start end now mid chain.1)) in
    search (
      arith,
      after_steps-carried,
      fold-append,
      moved_from meaning steps link permutes leads pieces mid new end (ap syllables done.after ∙ first.pieces_are)
          chain.2,
    )

-- so a text is reordered by the steps of its syllables
pub text_moved : (meaning : Meaning) (steps : Option Script → Glyphs → List Step) (link : Link)
    (old new : Buffer) → PermutesNumbers meaning → Leads meaning steps link → SyllablesLinked link old new →
    SyllablesReordered (meaning old.script) (steps old.script) old new
text_moved meaning steps link old new permutes leads chain =
    let ordered = text_ordered meaning link old new permutes (λ s e b c linked. ordered_by_steps (meaning b.script)
    (steps b.script) s e b c (leads s e b c linked)) chain in
    search (
      arith,
      moved_from meaning steps link permutes leads (syllables (order_view old.glyphs)) old new 0 refl
          (chain-view link old new chain),
      length-map old.glyphs plain,
    )

-- what is required of a text, by an order that requires nothing of numbers
pub takes_any : (takes : List ℕ → Type 0) → ((ns : List ℕ) → takes ns) → (gs : Glyphs) → TakesText takes gs
takes_any takes all gs = each (map glyph_numbers (syllables gs))
  where
    each : (pieces : List (List ℕ)) → AllByRecursion takes pieces
    each [] = tt
    each (piece ∷ pieces) = (all piece, each pieces)
