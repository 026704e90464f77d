-- One step of a character that comes apart.
use Rattle.std.proofs.Common.{◌≡◌, ◌==◌, ℕ, suc, Bool, true, false, ◌||◌, ◌&&◌, cond, List, [], ◌∷◌, ◌++◌, map, reverse, Option, None, Some, refl, sym, ap, ◌∙◌}
use Rattle.std.specs.List.{find}
use Rattle.std.specs.Option.{option_map, option_map_or, option_or}
use Rattle.std.proofs.lemmas.List.{reverse-append}
use Rattle.std.proofs.lemmas.List.Folds.{find-append}
use Rattle.shapers_buffer.proofs.MappedLists.{map-reverse}
use Rattle.shapers_normal.specs.Context.{Context, has_glyph}
use Rattle.shapers_normal.specs.Decomposition.{apart_in, come_off, preferred, step_characters, steps_apart, then_off}
use Rattle.shapers_normal.specs.DecompositionWalk.{or_base_alone, then_come_off}

abbrev drawn : Context → ℕ × List ℕ → Bool
drawn context step = has_glyph context step.0

find-then_off : (context : Context) (b : ℕ) (steps : List (ℕ × List ℕ)) → find (drawn context) (map (then_off b) steps)
    ≡ option_map (then_off b) (find (drawn context) steps)
find-then_off context b [] = refl
find-then_off context b (step ∷ steps) =
    elim (drawn context step) as (λ h. cond h (Some (then_off b step)) (find (drawn context) (map (then_off b) steps))
    ≡ option_map (then_off b) (cond h (Some step) (find (drawn context) steps))) [
      | true ↦ refl
      | false ↦ find-then_off context b steps
    ]

first_way : (b a : ℕ) (has : Bool) (o : Option (ℕ × List ℕ))
    → step_characters (cond has (Some (a, come_off b)) (option_map (then_off b) o))
    ≡ then_come_off b (or_base_alone has a (cond has [] (step_characters o)))
first_way b a true o = refl
first_way b a false None = refl
first_way b a false (Some step) = refl

last_way : (b a : ℕ) (has : Bool) (o : Option (ℕ × List ℕ))
    → step_characters (option_or (option_map (then_off b) o) (cond has (Some (a, come_off b)) None))
    ≡ then_come_off b (or_base_alone has a (step_characters o))
last_way b a true None = refl
last_way b a false None = refl
last_way b a has (Some step) = refl

one_step : (context : Context) (short : Bool) (a b : ℕ) (steps : List (ℕ × List ℕ))
    → step_characters (find (drawn context) (preferred short ((a, come_off b) ∷ map (then_off b) steps)))
    ≡ then_come_off b (or_base_alone (has_glyph context a) a (cond (short && has_glyph context a)
    [] (step_characters (find (drawn context) (preferred short steps)))))
one_step context true a b steps =
    ap (λ o. step_characters (cond (has_glyph context a) (Some (a, come_off b)) o)) (find-then_off context b steps)
    ∙ first_way b a (has_glyph context a) (find (drawn context) steps)
one_step context false a b steps =
    let one = (a, come_off b) ∷ [] in
    ap (λ xs. step_characters (find (drawn context) xs)) (reverse-append one (map (then_off b) steps))
    ∙ ap (λ xs. step_characters (find (drawn context) (xs ++ one))) (sym (map-reverse (then_off b) steps))
    ∙ ap step_characters (find-append (drawn context) (map (then_off b) (reverse steps)) one)
    ∙ ap (λ o. step_characters (option_or o (cond (has_glyph context a) (Some (a, come_off b)) None)))
    (find-then_off context b (reverse steps))
    ∙ last_way b a (has_glyph context a) (find (drawn context) (reverse steps))

unfolded : (context : Context) (short : Bool) (n c : ℕ) (o : Option (ℕ × ℕ)) → context.decomposed c ≡ o
    → apart_in context short (suc n) c
    ≡ step_characters
    (find (drawn context)
    (preferred short
    (option_map_or
    (λ p. cond (p.1 == 0 || has_glyph context p.1)
    ((p.0, come_off p.1) ∷ map (then_off p.1) (steps_apart context n p.0)) []) o [])))
unfolded context short n c o e =
    ap (λ o. step_characters
    (find (drawn context)
    (preferred short
    (option_map_or
    (λ p. cond (p.1 == 0 || has_glyph context p.1)
    ((p.0, come_off p.1) ∷ map (then_off p.1) (steps_apart context n p.0)) []) o [])))) e

nothing_spelled : (context : Context) (short : Bool) → step_characters (find (drawn context) (preferred short [])) ≡ []
nothing_spelled context true = refl
nothing_spelled context false = refl

-- in no steps nothing comes apart
pub apart_none : (context : Context) (short : Bool) (n c : ℕ) → n ≡ 0 → apart_in context short n c ≡ []
apart_none context short n c e = ap (λ n. apart_in context short n c) e ∙ nothing_spelled context short

-- what has no parts stays, and so does what comes off without a glyph
pub apart_not : (context : Context) (short : Bool) (n m c : ℕ) → n ≡ suc m → None ≡ context.decomposed c
    → apart_in context short n c ≡ []
apart_not context short n m c e none = ap (λ n. apart_in context short n c) e
    ∙ unfolded context short m c None (sym none) ∙ nothing_spelled context short

pub apart_blocked : (context : Context) (short : Bool) (n m c a b : ℕ) → n ≡ suc m → Some (a, b) ≡ context.decomposed c
    → (b == 0 || has_glyph context b) ≡ false → apart_in context short n c ≡ []
apart_blocked context short n m c a b e some blocked =
    ap (λ n. apart_in context short n c) e
    ∙ unfolded context short m c (Some (a, b)) (sym some)
    ∙ ap (λ h. step_characters
    (find (drawn context) (preferred short (cond h ((a, come_off b) ∷ map (then_off b) (steps_apart context m a))
    [])))) blocked
    ∙ nothing_spelled context short

pub apart_further : (context : Context) (short : Bool) (n m c a b : ℕ) → n ≡ suc m → Some (a, b) ≡ context.decomposed c
    → (b == 0 || has_glyph context b) ≡ true
    → apart_in context short n c
    ≡ then_come_off b (or_base_alone (has_glyph context a) a (cond (short && has_glyph context a)
    [] (apart_in context short m a)))
apart_further context short n m c a b e some free =
    ap (λ n. apart_in context short n c) e
    ∙ unfolded context short m c (Some (a, b)) (sym some)
    ∙ ap (λ h. step_characters
    (find (drawn context) (preferred short (cond h ((a, come_off b) ∷ map (then_off b) (steps_apart context m a))
    [])))) free
    ∙ one_step context short a b (steps_apart context m a)
