-- The walk along the letters: after each place the forms are those of the text so far, with nothing behind it.
use Rattle.std.proofs.Common.{◌≡◌, ℕ, ◌+◌, ◌<◌, ◌≤◌, true, false, List, [], ◌∷◌, ◌++◌, length, take, get_or, reverse, Option, None, Some, refl, sym, ap, ◌∙◌, arith, append_assoc, length-append}
use Rattle.std.proofs.Math.ListN.{set}
use Rattle.std.proofs.Math.Seq.{set-append_seam, take-set-lt}
use Rattle.std.proofs.lemmas.List.{length-take-le, length-set, take_more, take_more_set, take_all, reverse-append}
use Rattle.shapers_base.specs.declared.plan.joining.hb_arabic_joining_type_t.{hb_arabic_joining_type_t}
use Rattle.shapers_base.specs.declared.plan.joining.hb_arabic_joining_type_t.TheVariants.{U, T}
use Rattle.shapers_arabic.specs.declared.ot_shaper_arabic.joining.State.{State}
use Rattle.shapers_arabic.specs.declared.ot_shaper_arabic.arabic_action_t.TheConstants.{NONE}
use Rattle.shapers_arabic.specs.Joining.{is_transparent, nearest, act, forms}
use Rattle.shapers_arabic.specs.JoiningWalk.{cell, state_of, kept_or, state_at_start, LastLetter, LastIs, WalkedInJoining, IsWithin, given_last, given_by}
use Rattle.shapers_arabic.proofs.JoiningLists.{transparent, nearest-transparent, forms-contexts, length-forms, forms-append, forms-transparent, forms-parts}
use Rattle.shapers_arabic.proofs.JoiningTable.{gives_previous, gives_own, gives_state}

-- the last letter is given its form by the next one
given_middle : (fs : List ℕ) (own given : ℕ) (tail : List ℕ) (k : ℕ) → length fs ≡ k
    → given_last (Some k) given (fs ++ own ∷ tail) ≡ fs ++ kept_or given own ∷ tail
given_middle = search (arith, set-append_seam)

pub given-forms : (before ts : List hb_arabic_joining_type_t) (state : State) (last : Option ℕ)
    (t : hb_arabic_joining_type_t) (after : List hb_arabic_joining_type_t) → LastIs before ts state last
    → nearest after ≡ Some t → given_last last (cell state t).0 (forms before ts []) ≡ forms before ts after
given-forms before ts state None = search (arith, forms-transparent)
given-forms before ts state (Some k) = search (arith, forms-parts, given_middle, length-forms, gives_previous)

-- the nearest type at the end of a text is its last letter, or what is nearest before it
pub nearest-reverse : (ts : List hb_arabic_joining_type_t) → nearest ts ≡ None → nearest (reverse ts) ≡ None
nearest-reverse [] e = refl
nearest-reverse (t ∷ ts) e =
    let (first, rest) = transparent t ts e in
    cc (reverse-append (t ∷ []) ts, nearest-transparent (reverse ts) (t ∷ []) (nearest-reverse ts rest))

nearest-last : (before ts : List hb_arabic_joining_type_t) (state : State) (k : ℕ) (l : LastLetter before ts state k)
    → nearest (reverse ts ++ before) ≡ Some l.own
nearest-last before ts state k l =
    let seen = reverse l.front ++ before in
    search (
      arith,
      l.split,
      reverse-append,
      reverse-append (l.own ∷ []) l.tail,
      append_assoc,
      nearest-transparent (reverse l.tail) (l.own ∷ seen) (nearest-reverse l.tail l.rest),
    )

-- the next letter's own form, and the state behind it
pub record Next (state : State) (t : hb_arabic_joining_type_t) (before : Option hb_arabic_joining_type_t) : Type 0 where
  pub own_is : (cell state t).1 ≡ act before t None
  pub state_is : (cell state t).2 ≡ state_of before t

next-start : (t : hb_arabic_joining_type_t) (o : Option hb_arabic_joining_type_t) → Next (state_at_start o) t o
next-start t None = search arith
next-start t (Some own) = search (arith, gives_own None own t, gives_state None own t)

next-after : (before ts : List hb_arabic_joining_type_t) (state : State) (last : Option ℕ)
    (t : hb_arabic_joining_type_t) → LastIs before ts state last → Next state t (nearest (reverse ts ++ before))
next-after before ts state None t l =
    let start = next-start t (nearest before) in
    search (arith, l.state_is, start.own_is, nearest-transparent, nearest-reverse, start.state_is)
next-after before ts state (Some k) t l =
    let seen = nearest (reverse l.front ++ before) in
    search (arith, gives_own seen l.own t, nearest-last before ts state k l, gives_state seen l.own t)

-- one more place of the text: the forms so far, and the last
forms-push : (before ts : List hb_arabic_joining_type_t) (t : hb_arabic_joining_type_t) → forms before (ts ++ t ∷ [])
    [] ≡ forms before ts (t ∷ []) ++ act (nearest (reverse ts ++ before)) t None ∷ []
forms-push = search (arith, forms-append)

last-transparent : (before ts : List hb_arabic_joining_type_t) (state : State) (last : Option ℕ)
    → LastIs before ts state last → LastIs before (ts ++ T ∷ []) state last
last-transparent before ts state None = search (arith, nearest-transparent)
last-transparent before ts state (Some k) = search (arith, append_assoc, nearest-transparent)

-- what stands before place i is given its form as the whole is
take-given : (last : Option ℕ) (given : ℕ) (fs : List ℕ) (i : ℕ) → IsWithin last i → take i (given_last last given fs)
    ≡ given_last last given (take i fs)
take-given None given fs i h = refl
take-given (Some k) given fs i h = search (arith, take-set-lt)

pub length-given : (last : Option ℕ) (given : ℕ) (fs : List ℕ) → length (given_last last given fs) ≡ length fs
length-given None given fs = refl
length-given (Some k) given fs = search (arith, length-set)

-- the last letter of a text stands inside it
pub last-within : (before types : List hb_arabic_joining_type_t) (i : ℕ) (state : State) (last : Option ℕ)
    → i ≤ length types → LastIs before (take i types) state last → IsWithin last i
last-within before types i state None h l = tt
last-within before types i state (Some k) h l =
    search (arith, l.place, l.split, length-append, length-take-le i types h)

pub transparent-is : (t : hb_arabic_joining_type_t) → is_transparent t ≡ true → t ≡ T
transparent-is T e = refl
transparent-is _ e = cc

end-at : (before types after : List hb_arabic_joining_type_t) (state : State) (last : Option ℕ)
    → LastIs before types state last → (o : Option hb_arabic_joining_type_t) → nearest after ≡ o
    → given_last last (given_by state o) (forms before types []) ≡ forms before types after
end-at before types after state None l None = search (arith, forms-contexts)
end-at before types after state (Some k) l None = search (arith, forms-contexts)
end-at before types after state last l (Some t) = search (arith, given-forms)

pub walk-transparent : (before types : List hb_arabic_joining_type_t) (i : ℕ) (state : State) (last : Option ℕ)
    (fs : List ℕ) (t : hb_arabic_joining_type_t) → i < length types → get_or types i U ≡ t → is_transparent t ≡ true
    → WalkedInJoining before types i state last fs → WalkedInJoining before types (i + 1) state last (set fs i NONE)
walk-transparent before types i state last fs t h at e w =
    let ts = take i types in
    let more : take (i + 1) types ≡ ts ++ T ∷ [] = search (arith, take_more) in
    record {
      last_is = search (arith, last-transparent);
      forms_are = take_more_set fs i NONE (omega (arith, w.long))
          ∙ ap (λ gs. gs ++ NONE ∷ []) (w.forms_are ∙ forms-contexts before before ts [] (T ∷ []) refl refl)
          ∙ sym (ap (λ us. forms before us []) more ∙ forms-push before ts T);
      long = length-set fs i NONE ∙ w.long;
    }

pub walk-letter : (before types : List hb_arabic_joining_type_t) (i : ℕ) (state : State) (last : Option ℕ) (fs : List ℕ)
    (t : hb_arabic_joining_type_t) → i < length types → get_or types i U ≡ t → is_transparent t ≡ false
    → WalkedInJoining before types i state last fs → WalkedInJoining before types (i + 1) (cell state t).2 (Some i)
    (set (given_last last (cell state t).0 fs) i (cell state t).1)
walk-letter before types i state last fs t h at e w =
    let ts = take i types in
    let given = (cell state t).0 in
    let next = next-after before ts state last t w.last_is in
    let more : take (i + 1) types ≡ ts ++ t ∷ [] = search (arith, take_more) in
    record {
      last_is = search (arith, length-take-le);
      forms_are = take_more_set (given_last last given fs) i (cell state t).1 (search (arith, length-given))
          ∙ ap (λ fs2. fs2 ++ (cell state t).1 ∷ [])
          (take-given last given fs i (search (arith, last-within)) ∙ ap (given_last last given) w.forms_are ∙
          given-forms before ts state last t (t ∷ []) w.last_is (cc))
          ∙ ap (λ a. forms before ts (t ∷ []) ++ a ∷ []) next.own_is
          ∙ sym (ap (λ us. forms before us []) more ∙ forms-push before ts t);
      long = search (arith, length-set);
    }

pub walk-end : (before types after : List hb_arabic_joining_type_t) (i : ℕ) (state : State) (last : Option ℕ)
    (fs : List ℕ) → i ≡ length types → WalkedInJoining before types i state last fs
    → given_last last (given_by state (nearest after)) fs ≡ forms before types after
walk-end = search (arith, take_all, end-at)

pub not-transparent : (t : hb_arabic_joining_type_t) → (t ≡ T → ⊥) → is_transparent t ≡ false
not-transparent T n = absurd (n refl)
not-transparent _ n = refl

pub walked-at : (before types : List hb_arabic_joining_type_t) (i : ℕ) (state other : State) (last behind : Option ℕ)
    (fs gs : List ℕ) → WalkedInJoining before types i state last fs → other ≡ state → behind ≡ last → gs ≡ fs
    → WalkedInJoining before types i other behind gs
walked-at = search arith
