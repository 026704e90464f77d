-- The loop that looks for the longest front: how often it reads the watched glyph, and what it knows
-- of joiners.
use Rattle.std.proofs.Common.{◌≡◌, ℕ, zero, suc, ◌+◌, ◌-◌, ◌<◌, ◌≤◌, ◌⊎◌, Bool, true, false, List, [], ◌∷◌, ◌++◌, Option, Some, None, get_or, drop, take, length, refl, sym, ap, subst, ◌∙◌, arith, inl, inr, ⊎_elim, ◌==◌, add-zero, eqb-true, if◌then◌else◌}
use Rattle.std.proofs.lemmas.Bool.{cases_lt, both_ways, cond_both}
use Rattle.std.proofs.lemmas.List.{drop_more, drop-drop, drop_all}
use Rattle.shapers_buffer.specs.Glyphs.{Glyphs}
use Rattle.shapers_buffer.specs.declared.buffer.syllables.Span.{Span}
use Rattle.shapers_buffer.specs.Glyph.{default_glyph}
use Rattle.shapers_spans.specs.Grammar.{Grammar, IsKind, read_of, reach_of, BeginsWith}
use Rattle.shapers_spans.specs.Joined.{Joined, EndsNothing, KnowsJoiners}
use Rattle.shapers_spans.specs.Watch.{Watch, IsSpent, IsWatched}
use Rattle.shapers_spans.proofs.Reached.{behind-is-read, read-later, read-next, read-less}
use Rattle.shapers_spans.proofs.Joining.{AllJoin, joined-drop, joined-join, joined-one, joined-end, joined-at, run-read}
use Rattle.shapers_spans.proofs.Scanning.{Scanning, scanning_start, scanning_none, scanning_some, scanning_run, scanning_dead, scanning_all, scanning_stuck}

-- what the machine's trait says of it
pub record Ways : Type 0 where
  pub grammar : Grammar
  pub ends : ℕ → List ℕ → Option ℕ
  pub first : ℕ
  pub is_joiner : ℕ → Bool
  pub rank : ℕ → ℕ
  pub waits : ℕ → Bool
  pub cycles : ℕ → Bool
  pub begun : ℕ → Bool
  pub cycled : ℕ

-- what it says of a step, by category k from q to r
pub record Leads (w : Ways) (q k r : ℕ) : Type 0 where
  pub step : (v : List ℕ) → w.ends q (k ∷ v) ≡ w.ends r v
  pub falls : 0 < w.rank q → w.ends r [] ≡ None → w.cycles r ≡ false → w.rank r < w.rank q
  pub low : w.rank r ≤ 2
  pub one : q ≡ w.first → w.is_joiner k ≡ true → w.begun r ≡ true
  pub begun : w.begun r ≡ true → (w.cycles r ≡ false) × (w.rank r ≤ 1)
  pub two : w.begun q ≡ true → w.is_joiner k ≡ true → (r ≡ w.cycled) × (w.ends r [] ≡ None)
  pub same : w.cycles q ≡ true → w.is_joiner k ≡ true → r ≡ q
  pub waiting : w.waits r ≡ true → (w.is_joiner k ≡ true) × ((w.waits q ≡ true) ⊎ (w.ends q [] ≡ None → ⊥))

-- the machine, the text, and what was known and counted in front of it
pub record Task : Type 0 where
  pub ways : Ways
  pub gs : Glyphs
  pub len : ℕ
  pub stuck : ℕ
  pub watch : Watch

pub record Ready (t : Task) : Type 0 where
  pub nothing : t.ways.grammar.passes [] ≡ false
  pub some : 0 < length t.gs
  pub read : t.ways.grammar.passes t.gs ≡ false
  pub calm : t.ways.waits t.ways.first ≡ false
  pub knows : KnowsJoiners t.ways.grammar.passes t.ways.is_joiner t.ways.ends t.gs t.len t.stuck

-- what is read from a place on, and how much that is
abbrev pub read_from : Task → ℕ → List ℕ
read_from t n = read_of t.ways.grammar.passes (drop n t.gs)

abbrev pub left_at : Task → ℕ → ℕ
left_at t n = length (read_from t n)

abbrev pub watched : Task → ℕ
watched t = left_at t (t.watch.ahead - 1)

-- the glyph at n is read, and leads from q to r; the next one that is read stands at `next`
pub record GlyphStep (t : Task) (n q r next : ℕ) : Type 0 where
  pub in_range : n < length t.gs
  pub next_is : next ≡ n + 1 + reach_of t.ways.grammar.passes (drop (n + 1) t.gs) 0
  pub within : next ≤ length t.gs
  pub leads : Leads t.ways q (get_or t.gs n default_glyph).category r
  pub alive : 0 < t.ways.rank r

-- Nothing has ended since the walk left the known joiners in the state `stuck`: what may still end
-- from it is what may end from here.
pub record Pending (t : Task) (n q joined stuck : ℕ) : Type 0 where
  pub from : joined ≤ n
  pub quiet : t.ways.ends q [] ≡ None
  pub on : (m : ℕ) → (t.ways.ends stuck (take m (read_from t joined)) ≡ None)
      ⊎ ((i : ℕ) × (t.ways.ends stuck (take m (read_from t joined)) ≡ t.ways.ends q (take i (read_from t n))))

-- what is known of the state `stuck`, if the joiners reach behind the span
pub data Claim (t : Task) (n q : ℕ) (span : Span) (joined stuck : ℕ) : Type 0 where
  over : joined < span.len → Claim t n q span joined stuck
  sure : EndsNothing t.ways.grammar.passes t.ways.ends (drop joined t.gs) stuck → Claim t n q span joined stuck
  pending : Pending t n q joined stuck → Claim t n q span joined stuck

-- Two joiners had led to the state that cycles, and before the walk it wasn't known that nothing ends
-- from it; or there is one joiner alone.
abbrev pub AtHome : Task → Type 0
AtHome t = (t.stuck ≡ t.ways.cycled → ⊥) ⊎ (left_at t 0 ≤ left_at t t.len + 1)

-- how a walk that begins with known joiners has come to n
pub data Way (t : Task) (n q : ℕ) (span : Span) (joined stuck : ℕ) : Type 0 where
  beyond : t.len < span.len → Way t n q span joined stuck
  at_start : joined ≡ t.len → stuck ≡ t.stuck → n ≡ 0 → Way t n q span joined stuck
  behind_one : joined ≡ t.len → stuck ≡ t.stuck → n ≤ t.len → left_at t n + 1 ≡ left_at t 0 → t.ways.begun q ≡ true
      → t.ways.rank q ≤ 1 → Way t n q span joined stuck
  has_cycled : stuck ≡ t.ways.cycled → AtHome t → t.len ≤ n
      → (t.ways.waits q ≡ true → (q ≡ t.ways.cycled) × (t.ways.cycles q ≡ true)) → t.ways.ends q [] ≡ None
      → Way t n q span joined stuck

abbrev pub Far : Task → Span → ℕ → Type 0
Far t span stuck = 0 < t.len → (t.len < span.len) ⊎ ((stuck ≡ t.ways.cycled) × AtHome t)

-- the watched glyph was read in this walk, near the span's end or behind the joiners
pub record Seen (t : Task) (n : ℕ) (span : Span) (joined stuck : ℕ) (watch : Watch) : Type 0 where
  pub come : 0 < t.watch.ahead
  pub once : watch.reads ≡ t.watch.reads + 1
  pub before : t.watch.ahead ≤ n
  pub near : (left_at t span.len ≤ watched t + 1) ⊎ ((left_at t joined ≤ watched t + 1) × Far t span stuck)

abbrev pub Counted : Task → ℕ → Span → ℕ → ℕ → Watch → Type 0
Counted t n span joined stuck watch = (watch.reads ≡ t.watch.reads) ⊎ Seen t n span joined stuck watch

-- n glyphs are behind, the machine is in state q, and `span` is the best so far; `joined` says of
-- how many glyphs in front those that are read are joiners
pub record Walking (t : Task) (n q : ℕ) (span : Span) (joined stuck : ℕ) (watch : Watch) : Type 0 where
  pub scanning : Scanning t.ways.ends t.ways.first t.ways.grammar.other t.ways.grammar.passes t.gs n q span
  pub alive : 0 < t.ways.rank q
  pub some : 0 < span.len
  pub stop : t.ways.grammar.passes (drop span.len t.gs) ≡ false
  pub known : Joined t.ways.grammar.passes t.ways.is_joiner (drop span.len t.gs) (joined - span.len)
  pub at_first : n ≡ 0 → (q ≡ t.ways.first) × (span.len ≡ 1 + reach_of t.ways.grammar.passes (drop 1 t.gs) 0)
  pub behind : 1 ≤ n → span.len ≤ n
  pub even : 1 ≤ n → (t.ways.ends q [] ≡ None → ⊥) → span.len ≡ n
  pub since : t.ways.waits q ≡ true
      → (1 ≤ n) × Joined t.ways.grammar.passes t.ways.is_joiner (drop span.len t.gs) (n - span.len)
  pub grows : t.len ≤ joined
  pub claim : Claim t n q span joined stuck
  pub way : 0 < t.len → Way t n q span joined stuck
  pub near : (left_at t span.len + t.ways.rank q ≤ left_at t n + 2)
      ⊎ ((left_at t joined + t.ways.rank q ≤ left_at t n + 2) × Far t span stuck)
  pub ahead : watch.ahead ≡ t.watch.ahead
  pub counted : Counted t n span joined stuck watch

-- the start

walking_first : (t : Task) (span : Span) → Ready t → span.len ≡ 1 + reach_of t.ways.grammar.passes (drop 1 t.gs) 0
    → span.kind ≡ t.ways.grammar.other → t.ways.grammar.passes (drop span.len t.gs) ≡ false
    → 0 < t.ways.rank t.ways.first → t.ways.rank t.ways.first ≤ 2 → Walking t 0 t.ways.first span t.len t.stuck t.watch
walking_first t span ready len kind stop alive rank =
    let w = t.ways in
    let some : 0 < span.len = omega (arith, len) in
    let l = read-later w.grammar.passes t.gs 0 span.len (omega arith) in
    record {
      scanning = scanning_start w.ends w.first w.grammar.other w.grammar.passes t.gs span ready.some ready.read len
          kind;
      alive = alive;
      some = some;
      stop = stop;
      known = joined-drop w.grammar.passes w.is_joiner t.gs t.len span.len ready.knows.joined stop;
      at_first = (λ _. (refl, len));
      behind = (λ i. absurd (omega (arith, i)));
      even = (λ i _. absurd (omega (arith, i)));
      since = (λ i. absurd (both_ways (w.waits w.first) ready.calm i));
      grows = omega arith;
      claim = ⊎_elim (λ i. sure (ready.knows.ends_none i)) (λ i. over (omega (arith, i, some))) (cases_lt 0 t.len);
      way = (λ _. at_start refl refl refl);
      near = inl (omega (arith, l, rank));
      ahead = refl;
      counted = inl refl;
    }

pub walking_start : (t : Task) (q : ℕ) (span : Span) → Ready t → q ≡ t.ways.first
    → span.len ≡ 1 + reach_of t.ways.grammar.passes (drop 1 t.gs) 0 → span.kind ≡ t.ways.grammar.other
    → 0 < t.ways.rank q → t.ways.rank q ≤ 2 → Walking t 0 q span t.len t.stuck t.watch
walking_start t q span ready e len kind alive rank =
    let p = t.ways.grammar.passes in
    let on : drop (reach_of p (drop 1 t.gs) 0) (drop 1 t.gs) ≡ drop span.len t.gs =
    drop-drop (reach_of p (drop 1 t.gs) 0) 1 t.gs ∙ ap (λ i. drop i t.gs) (sym len) in
    let stop : p (drop span.len t.gs) ≡ false =
    subst (λ xs. p xs ≡ false) on (behind-is-read p ready.nothing (drop 1 t.gs)) in
    subst (λ i. Walking t 0 i span t.len t.stuck t.watch) (sym e)
    (walking_first t span ready len kind stop (subst (λ i. 0 < t.ways.rank i) e alive)
    (subst (λ i. t.ways.rank i ≤ 2) e rank))

-- what is known of joiners, seen from a later place
later : (w : Ways) (gs : Glyphs) (joined from n : ℕ)
    → Joined w.grammar.passes w.is_joiner (drop from gs) (joined - from) → from ≤ n → w.grammar.passes (drop n gs)
    ≡ false → Joined w.grammar.passes w.is_joiner (drop n gs) (joined - n)
later w gs joined from n h l here =
    let e : from + (n - from) ≡ n = omega (arith, l) in
    let on : drop (n - from) (drop from gs) ≡ drop n gs = drop-drop (n - from) from gs ∙ ap (λ i. drop i gs) e in
    let k : joined - from - (n - from) ≡ joined - n = omega (arith, l) in
    subst (λ i. Joined w.grammar.passes w.is_joiner (drop n gs) i) k
    (subst (λ xs. Joined w.grammar.passes w.is_joiner xs (joined - from - (n - from))) on
    (joined-drop w.grammar.passes w.is_joiner (drop from gs) (joined - from) (n - from) h
    (subst (λ xs. w.grammar.passes xs ≡ false) (sym on) here)))

-- what stands before a place, and then from it on
on_from : (w : Ways) (gs : Glyphs) (from n k : ℕ) → from ≤ n
    → Joined w.grammar.passes w.is_joiner (drop from gs) (n - from) → Joined w.grammar.passes w.is_joiner (drop n gs) k
    → Joined w.grammar.passes w.is_joiner (drop from gs) (n + k - from)
on_from w gs from n k l a b =
    let e : from + (n - from) ≡ n = omega (arith, l) in
    let on : drop (n - from) (drop from gs) ≡ drop n gs = drop-drop (n - from) from gs ∙ ap (λ i. drop i gs) e in
    let s : n - from + k ≡ n + k - from = omega (arith, l) in
    subst (λ i. Joined w.grammar.passes w.is_joiner (drop from gs) i) s
    (joined-join w.grammar.passes w.is_joiner (drop from gs) (n - from) k a
    (subst (λ xs. Joined w.grammar.passes w.is_joiner xs k) (sym on) b))

-- the glyph at n is a joiner, and the next one that is read stands at `next`
one_joined : (w : Ways) → w.grammar.passes [] ≡ false → (gs : Glyphs) (n next : ℕ) → n < length gs
    → next ≡ n + 1 + reach_of w.grammar.passes (drop (n + 1) gs) 0 → w.is_joiner (get_or gs n default_glyph).category
    ≡ true → Joined w.grammar.passes w.is_joiner (drop n gs) (next - n)
one_joined w z gs n next l is h =
    let rest = drop (n + 1) gs in
    let e : drop n gs ≡ get_or gs n default_glyph ∷ rest = drop_more gs n default_glyph l in
    let k : 1 + reach_of w.grammar.passes rest 0 ≡ next - n = omega (arith, is) in
    subst (λ i. Joined w.grammar.passes w.is_joiner (drop n gs) i) k
    (subst (λ xs. Joined w.grammar.passes w.is_joiner xs (1 + reach_of w.grammar.passes rest 0)) (sym e)
    (joined-one w.grammar.passes w.is_joiner z (get_or gs n default_glyph) rest h))

-- where a walk begins, the span is one glyph, with those that are passed over behind it
first_is : (t : Task) (n next len : ℕ) → len ≡ 1 + reach_of t.ways.grammar.passes (drop 1 t.gs) 0 → n ≡ 0
    → next ≡ n + 1 + reach_of t.ways.grammar.passes (drop (n + 1) t.gs) 0 → len ≡ next
first_is t n next len a e i =
    let f : n + 1 ≡ 1 = omega (arith, e) in
    let b : n + 1 + reach_of t.ways.grammar.passes (drop (n + 1) t.gs) 0
    ≡ 1 + reach_of t.ways.grammar.passes (drop 1 t.gs) 0 =
    ap (λ k. k + reach_of t.ways.grammar.passes (drop k t.gs) 0) f in
    a ∙ sym b ∙ sym i

next_past : (t : Task) (n q r next : ℕ) (span : Span) (joined stuck : ℕ) (watch : Watch)
    → Walking t n q span joined stuck watch → GlyphStep t n q r next → span.len ≤ next
next_past t n q r next span joined stuck watch x s =
    let is = s.next_is in
    ⊎_elim
    (λ i. let e : n ≡ 0 = omega (arith, i) in let a = first_is t n next span.len (x.at_first e).1 e is in omega
    (arith, a))
    (λ i. let b = x.behind i in omega (arith, b, is)) (cases_lt n 1)

-- where the state behind waits, what stands since the span's end are joiners
since_next : (t : Task) (n q r next : ℕ) (span : Span) (joined stuck : ℕ) (watch : Watch) → Ready t
    → Walking t n q span joined stuck watch → GlyphStep t n q r next → t.ways.grammar.passes (drop next t.gs) ≡ false
    → t.ways.waits r ≡ true → Joined t.ways.grammar.passes t.ways.is_joiner (drop span.len t.gs) (next - span.len)
since_next t n q r next span joined stuck watch ready x s here waits =
    let w = t.ways in
    let gs = t.gs in
    let is = s.next_is in
    let m = s.leads.waiting waits in
    let one = one_joined w ready.nothing gs n next s.in_range is m.0 in
    let k : n + (next - n) ≡ next = omega (arith, is) in
    ⊎_elim
    (λ i. let e : n ≡ 0 = omega (arith, i) in
    let f : span.len ≡ next = first_is t n next span.len (x.at_first e).1 e is in
    let g : 0 ≡ next - span.len = omega (arith, f) in
    subst (λ i. Joined w.grammar.passes w.is_joiner (drop span.len gs) i) g
    (subst (λ i. w.grammar.passes (drop i gs) ≡ false) (sym f) here))
    (λ i. let le = x.behind i in
    ⊎_elim
    (λ u. subst (λ i. Joined w.grammar.passes w.is_joiner (drop span.len gs) (i - span.len)) k
    (on_from w gs span.len n (next - n) le (x.since u).1 one))
    (λ u. let f : span.len ≡ n = x.even i u in
    subst (λ i. Joined w.grammar.passes w.is_joiner (drop i gs) (next - i)) (sym f) one) m.1)
    (cases_lt n 1)

-- what is read from the glyph at n on
step_read : (t : Task) (n q r next : ℕ) (span : Span) (joined stuck : ℕ) (watch : Watch)
    → Walking t n q span joined stuck watch → GlyphStep t n q r next
    → read_from t n ≡ (get_or t.gs n default_glyph).category ∷ read_from t next
step_read t n q r next span joined stuck watch x s =
    read-next t.ways.grammar.passes t.gs n next default_glyph s.in_range x.scanning.here s.next_is

step_left : (t : Task) (n q r next : ℕ) (span : Span) (joined stuck : ℕ) (watch : Watch)
    → Walking t n q span joined stuck watch → GlyphStep t n q r next → left_at t n ≡ left_at t next + 1
step_left t n q r next span joined stuck watch x s =
    let e = ap length (step_read t n q r next span joined stuck watch x s) in omega (arith, e)

-- the glyph at n is one more that is read: the watched one, or not
pub record Noted (old new : Watch) (n : ℕ) : Type 0 where
  pub ahead : new.ahead ≡ old.ahead
  pub reads : ((old.ahead ≡ n + 1) × (new.reads ≡ old.reads + 1)) ⊎ (new.reads ≡ old.reads)

pub noted : (old new : Watch) (n : ℕ) → new ≡ record old { reads = old.reads + (if old.ahead == n + 1 then 1 else 0) }
    → Noted old new n
noted old new n e = record {
  ahead = ap (λ (w : Watch). w.ahead) e;
  reads = cond_both (old.ahead == n + 1) 1 0 (λ m. new.reads ≡ old.reads + m
      → ((old.ahead ≡ n + 1) × (new.reads ≡ old.reads + 1)) ⊎ (new.reads ≡ old.reads))
      (λ h r. inl (eqb-true old.ahead (n + 1) h, r)) (λ h r. inr (r ∙ add-zero old.reads))
      (ap (λ (w : Watch). w.reads) e);
}

noted_counted : (t : Task) (n q : ℕ) (span : Span) (joined stuck : ℕ) (watch new : Watch)
    → Walking t n q span joined stuck watch → Noted watch new n → Counted t (n + 1) span joined stuck new
noted_counted t n q span joined stuck watch new x o =
    let a = x.ahead in
    let alive = x.alive in
    ⊎_elim
    (λ h.
    let at : t.watch.ahead ≡ n + 1 = sym a ∙ h.0 in
    let place : n ≡ t.watch.ahead - 1 = omega (arith, at) in
    let here : left_at t n ≡ watched t = ap (left_at t) place in
    ⊎_elim
    (λ i. inr (record {
      come = omega (arith, at);
      once = h.1 ∙ ap (λ k. k + 1) i;
      before = omega (arith, at);
      near = ⊎_elim (λ j. inl (omega (arith, j, alive, here)))
          (λ j. let k = j.0 in inr (omega (arith, k, alive, here), j.1)) x.near;
    }))
    (λ i. let b = i.before in absurd (omega (arith, at, b))) x.counted)
    (λ h.
    ⊎_elim (λ i. inl (h ∙ i))
    (λ i. inr (record {
      come = i.come;
      once = h
          ∙ i.once;
      before = (let b = i.before in omega (arith, b));
      near = i.near;
    })) x.counted)
    o.reads

-- what is known of the state, one glyph on

claim_some : (t : Task) (n q r next : ℕ) (span new : Span) (joined stuck : ℕ) → n < next → new.len ≡ next
    → span.len ≤ next → Claim t n q span joined stuck → Claim t next r new joined stuck
claim_some t n q r next span new joined stuck l e b (over h) = over (omega (arith, h, e, b))
claim_some t n q r next span new joined stuck l e b (sure h) = sure h
claim_some t n q r next span new joined stuck l e b (pending p) = let f = p.from in over (omega (arith, f, l, e))

claim_none : (t : Task) (n q r next k : ℕ) (span : Span) (joined stuck : ℕ) → n < next
    → read_from t n ≡ k ∷ read_from t next → ((v : List ℕ) → t.ways.ends q (k ∷ v) ≡ t.ways.ends r v) → t.ways.ends r
    [] ≡ None → Claim t n q span joined stuck → Claim t next r span joined stuck
claim_none t n q r next k span joined stuck l read step none (over h) = over h
claim_none t n q r next k span joined stuck l read step none (sure h) = sure h
claim_none t n q r next k span joined stuck l read step none (pending p) = pending (record {
  from = (let f = p.from in omega (arith, f, l));
  quiet = none;
  on = (λ m. ⊎_elim (λ i. inl i) (λ i. front m i.0 i.1) (p.on m));
})
  where
    front : (m i : ℕ) → t.ways.ends stuck (take m (read_from t joined)) ≡ t.ways.ends q (take i (read_from t n))
        → (t.ways.ends stuck (take m (read_from t joined)) ≡ None)
        ⊎ ((j : ℕ) × (t.ways.ends stuck (take m (read_from t joined)) ≡ t.ways.ends r (take j (read_from t next))))
    front m zero e = inl (e ∙ p.quiet)
    front m (suc j) e =
        inr (j, e ∙ ap (λ (u : List ℕ). t.ways.ends q (take (suc j) u)) read ∙ step (take j (read_from t next)))

-- at the walk's end
claim_end : (t : Task) (n q : ℕ) (span : Span) (joined stuck : ℕ)
    → (t.ways.ends q [] ≡ None → (i : ℕ) → t.ways.ends q (take i (read_from t n)) ≡ None) → span.len ≤ joined
    → Claim t n q span joined stuck → EndsNothing t.ways.grammar.passes t.ways.ends (drop joined t.gs) stuck
claim_end t n q span joined stuck none l (over h) = absurd (omega (arith, h, l))
claim_end t n q span joined stuck none l (sure h) = h
claim_end t n q span joined stuck none l (pending p) = (λ m. ⊎_elim (λ i. i) (λ i. i.1 ∙ none p.quiet i.0) (p.on m))

-- what is known of the state `stuck` before a walk comes to joiners that are known
claim_before : (t : Task) (n q next : ℕ) (span : Span) (joined stuck : ℕ) → n < next → span.len ≤ next → next ≤ joined
    → Claim t n q span joined stuck → EndsNothing t.ways.grammar.passes t.ways.ends (drop joined t.gs) stuck
claim_before t n q next span joined stuck l b m (over h) = absurd (omega (arith, h, b, m))
claim_before t n q next span joined stuck l b m (sure h) = h
claim_before t n q next span joined stuck l b m (pending p) = let f = p.from in absurd (omega (arith, f, l, m))

-- nothing ends from a state that cycles in front of joiners, behind which nothing ends from it
run_stuck : (ends : ℕ → List ℕ → Option ℕ) (j : ℕ → Bool) (q : ℕ) (ks rest : List ℕ) → AllJoin j ks
    → ((k : ℕ) → j k ≡ true → (v : List ℕ) → ends q (k ∷ v) ≡ ends q v) → ((m : ℕ) → ends q (take m rest) ≡ None)
    → (m : ℕ) → ends q (take m (ks ++ rest)) ≡ None
run_stuck ends j q [] rest a cycles none m = none m
run_stuck ends j q (k ∷ ks) rest a cycles none zero = none 0
run_stuck ends j q (k ∷ ks) rest a cycles none (suc m) = cycles k a.0 (take m (ks ++ rest))
    ∙ run_stuck ends j q ks rest a.1 cycles none m

joined_stuck : (t : Task) (n joined q : ℕ) → Joined t.ways.grammar.passes t.ways.is_joiner (drop n t.gs) (joined - n)
    → n ≤ joined → ((k : ℕ) → t.ways.is_joiner k ≡ true → (v : List ℕ) → t.ways.ends q (k ∷ v) ≡ t.ways.ends q v)
    → EndsNothing t.ways.grammar.passes t.ways.ends (drop joined t.gs) q
    → EndsNothing t.ways.grammar.passes t.ways.ends (drop n t.gs) q
joined_stuck t n joined q h l cycles none =
    let p = t.ways.grammar.passes in
    let r = run-read p t.ways.is_joiner (drop n t.gs) (joined - n) h in
    let e : n + (joined - n) ≡ joined = omega (arith, l) in
    let on : drop (joined - n) (drop n t.gs) ≡ drop joined t.gs = drop-drop (joined - n) n t.gs
    ∙ ap (λ i. drop i t.gs) e in
    let read : read_from t n ≡ r.joiners ++ read_from t joined = r.read ∙ ap (λ xs. r.joiners ++ read_of p xs) on in
    (λ m. ap (λ (u : List ℕ). t.ways.ends q (take m u)) read
    ∙ run_stuck t.ways.ends t.ways.is_joiner q r.joiners (read_from t joined) r.join cycles none m)

-- how a walk that begins with known joiners goes on

-- fewer are read behind the known joiners than from them on, wherever that is
less_behind : (t : Task) (next : ℕ) → Ready t → t.len < next → next ≤ length t.gs → left_at t next + 1 ≤ left_at t t.len
less_behind t next ready l within =
    read-less t.ways.grammar.passes t.gs t.len next default_glyph (omega (arith, l, within))
    (joined-end t.ways.grammar.passes t.ways.is_joiner t.gs t.len ready.knows.joined) l

less_than_all : (t : Task) (n : ℕ) → Ready t → 0 < n → left_at t n + 1 ≤ left_at t 0
less_than_all t n ready l = read-less t.ways.grammar.passes t.gs 0 n default_glyph ready.some ready.read l

joiner_at : (t : Task) (n q : ℕ) (span : Span) (joined stuck : ℕ) (watch : Watch) → Ready t
    → Walking t n q span joined stuck watch → n < t.len → t.ways.is_joiner (get_or t.gs n default_glyph).category ≡ true
joiner_at t n q span joined stuck watch ready x l =
    joined-at t.ways.grammar.passes t.ways.is_joiner t.gs t.len n default_glyph ready.knows.joined l x.scanning.here

-- behind the first joiner
way_one : (t : Task) (n q r next : ℕ) (span new : Span) (joined stuck : ℕ) (watch : Watch) → Ready t
    → Walking t n q span joined stuck watch → GlyphStep t n q r next → 0 < t.len → joined ≡ t.len → stuck ≡ t.stuck
    → n ≡ 0 → Way t next r new joined stuck
way_one t n q r next span new joined stuck watch ready x s some a b e =
    let joiner = joiner_at t n q span joined stuck watch ready x (omega (arith, e, some)) in
    let begun = s.leads.one (x.at_first e).0 joiner in
    let down = step_left t n q r next span joined stuck watch x s in
    let whole : left_at t n ≡ left_at t 0 = ap (left_at t) e in
    let first = less_than_all t t.len ready some in
    let le : next ≤ t.len =
    ⊎_elim (λ i. let f = less_behind t next ready i s.within in absurd (omega (arith, f, first, down, whole)))
    (λ i. i) (cases_lt t.len next) in
    behind_one a b le (sym down ∙ whole) begun (s.leads.begun begun).1

way_some : (t : Task) (n q r next k : ℕ) (span new : Span) (joined stuck : ℕ) (watch : Watch) → Ready t
    → Walking t n q span joined stuck watch → GlyphStep t n q r next → 0 < t.len → t.ways.ends r [] ≡ Some k
    → new.len ≡ next → Way t n q span joined stuck → Way t next r new joined stuck
way_some t n q r next k span new joined stuck watch ready x s some ends len (beyond h) =
    let b = next_past t n q r next span joined stuck watch x s in beyond (omega (arith, h, b, len))
way_some t n q r next k span new joined stuck watch ready x s some ends len (at_start a b e) =
    way_one t n q r next span new joined stuck watch ready x s some a b e
way_some t n q r next k span new joined stuck watch ready x s some ends len (behind_one a b le down begun low) =
    let is = s.next_is in
    ⊎_elim (λ i. let none = (s.leads.two begun (joiner_at t n q span joined stuck watch ready x i)).1 in absurd
    (cc (ends, none)))
    (λ i. beyond (omega (arith, i, is, len))) (cases_lt n t.len)
way_some t n q r next k span new joined stuck watch ready x s some ends len (has_cycled a b le c none) =
    let is = s.next_is in beyond (omega (arith, le, is, len))

way_none : (t : Task) (n q r next : ℕ) (span : Span) (joined stuck : ℕ) (watch : Watch) → Ready t
    → Walking t n q span joined stuck watch → GlyphStep t n q r next → 0 < t.len → t.ways.ends r [] ≡ None
    → t.ways.cycles r ≡ false → Way t n q span joined stuck → Way t next r span joined stuck
way_none t n q r next span joined stuck watch ready x s some none still (beyond h) = beyond h
way_none t n q r next span joined stuck watch ready x s some none still (at_start a b e) =
    way_one t n q r next span span joined stuck watch ready x s some a b e
way_none t n q r next span joined stuck watch ready x s some none still (behind_one a b le down begun low) =
    let falls = s.leads.falls x.alive none still in
    let alive = s.alive in absurd (omega (arith, falls, alive, low))
way_none t n q r next span joined stuck watch ready x s some none still (has_cycled a b le c quiet) =
    let is = s.next_is in
    has_cycled a b (omega (arith, le, is))
    (λ u. let m = s.leads.waiting u in
    ⊎_elim (λ i. let same = s.leads.same (c i).1 m.0 in absurd
    (both_ways (t.ways.cycles r) still (ap t.ways.cycles same ∙ (c i).1))) (λ i. absurd (i quiet)) m.1)
    none

-- the state that the walk cycles in
home_cycle : (t : Task) (n q r next : ℕ) (span : Span) (joined stuck : ℕ) (watch : Watch) → Ready t
    → Walking t n q span joined stuck watch → GlyphStep t n q r next → 0 < t.len → t.ways.cycles r ≡ true
    → t.ways.waits r ≡ true → (next ≤ joined → r ≡ stuck → ⊥) → Way t n q span joined stuck → (t.len < span.len)
    ⊎ ((r ≡ t.ways.cycled) × AtHome t)
home_cycle t n q r next span joined stuck watch ready x s some cycles waits free (beyond h) = inl h
home_cycle t n q r next span joined stuck watch ready x s some cycles waits free (at_start a b e) =
    let begun = s.leads.one (x.at_first e).0
    (joiner_at t n q span joined stuck watch ready x (omega (arith, e, some))) in
    absurd (both_ways (t.ways.cycles r) (s.leads.begun begun).0 cycles)
home_cycle t n q r next span joined stuck watch ready x s some cycles waits free (behind_one a b le down begun low) =
    let home = (s.leads.two begun (s.leads.waiting waits).0).0 in
    let fewer = step_left t n q r next span joined stuck watch x s in
    inr (
      home,
      ⊎_elim
          (λ i. let f = less_behind t next ready i s.within in inr (omega (arith, f, fewer, down)))
          (λ i. inl (λ e. free (omega (arith, i, a)) (home ∙ sym e ∙ sym b))) (cases_lt t.len next),
    )
home_cycle t n q r next span joined stuck watch ready x s some cycles waits free (has_cycled a b le c quiet) =
    let m = s.leads.waiting waits in
    ⊎_elim (λ i. inr (s.leads.same (c i).1 m.0 ∙ (c i).0, b)) (λ i. absurd (i quiet)) m.1

-- one glyph on

-- something ends behind the glyph at n
pub walking_some : (t : Task) (n q r next k : ℕ) (span new : Span) (joined stuck : ℕ) (watch noted : Watch) → Ready t
    → Walking t n q span joined stuck watch → Noted watch noted n → GlyphStep t n q r next → t.ways.ends r [] ≡ Some k
    → new.len ≡ next → new.kind ≡ k → Walking t next r new joined stuck noted
walking_some t n q r next k span new joined stuck watch noted ready x o s some len kind =
    let w = t.ways in
    let y = scanning_some w.ends w.first w.grammar.other w.grammar.passes ready.nothing t.gs n q r next k default_glyph
    span new x.scanning s.in_range s.next_is s.leads.step some len kind in
    let stop : w.grammar.passes (drop new.len t.gs) ≡ false =
    subst (λ i. w.grammar.passes (drop i t.gs) ≡ false) (sym len) y.here in
    let long = next_past t n q r next span joined stuck watch x s in
    let longer : span.len ≤ new.len = omega (arith, long, len) in
    let is = s.next_is in
    let forward : n < next = omega (arith, is) in
    let fewer = read-later w.grammar.passes t.gs span.len new.len longer in
    record {
      scanning = y;
      alive = s.alive;
      some = omega (arith, forward, len);
      stop = stop;
      known = later w t.gs joined span.len new.len x.known longer stop;
      at_first = (λ e. absurd (omega (arith, e, forward)));
      behind = (λ _. omega (arith, len));
      even = (λ _ _. len);
      since = (λ _. let e : 0 ≡ next - new.len = omega (arith, len) in
          (omega (arith, forward), subst (λ i. Joined w.grammar.passes w.is_joiner (drop new.len t.gs) i) e stop));
      grows = x.grows;
      claim = claim_some t n q r next span new joined stuck forward len long x.claim;
      way = (λ i. way_some t n q r next k span new joined stuck watch ready x s i some len (x.way i));
      near = (let low = s.leads.low in let e = ap (left_at t) len in inl (omega (arith, low, e)));
      ahead = o.ahead ∙ x.ahead;
      counted = ⊎_elim (λ i. inl i)
          (λ i. let b = i.before in
          inr (record {
            come = i.come;
            once = i.once;
            before = omega (arith, b, forward);
            near = ⊎_elim (λ j. inl (omega (arith, j, fewer)))
                (λ j. inr (j.0, λ u. ⊎_elim (λ m. inl (omega (arith, m, longer))) (λ m. inr m) (j.1 u))) i.near;
          }))
          (noted_counted t n q span joined stuck watch noted x o);
    }

-- nothing ends there, and the state doesn't cycle
walking_none : (t : Task) (n q r next : ℕ) (span : Span) (joined stuck : ℕ) (watch noted : Watch) → Ready t
    → Walking t n q span joined stuck watch → Noted watch noted n → GlyphStep t n q r next → t.ways.ends r [] ≡ None
    → t.ways.cycles r ≡ false → Walking t next r span joined stuck noted
walking_none t n q r next span joined stuck watch noted ready x o s none still =
    let w = t.ways in
    let y = scanning_none w.ends w.first w.grammar.other w.grammar.passes ready.nothing t.gs n q r next default_glyph
    span x.scanning s.in_range s.next_is s.leads.step none in
    let falls = s.leads.falls x.alive none still in
    let fewer = step_left t n q r next span joined stuck watch x s in
    let long = next_past t n q r next span joined stuck watch x s in
    let is = s.next_is in
    let forward : n < next = omega (arith, is) in
    record {
      scanning = y;
      alive = s.alive;
      some = x.some;
      stop = x.stop;
      known = x.known;
      at_first = (λ e. absurd (omega (arith, e, forward)));
      behind = (λ _. long);
      even = (λ _ e. absurd (e none));
      since = (λ u. (omega (arith, forward), since_next t n q r next span joined stuck watch ready x s y.here u));
      grows = x.grows;
      claim = claim_none t n q r next (get_or t.gs n default_glyph).category span joined stuck forward
          (step_read t n q r next span joined stuck watch x s) s.leads.step none x.claim;
      way = (λ i. way_none t n q r next span joined stuck watch ready x s i none still (x.way i));
      near = ⊎_elim (λ i. inl (omega (arith, i, falls, fewer)))
          (λ i. let j = i.0 in inr (omega (arith, j, falls, fewer), i.1)) x.near;
      ahead = o.ahead ∙ x.ahead;
      counted = ⊎_elim (λ i. inl i)
          (λ i. let b = i.before in inr
          (record { come = i.come; once = i.once; before = omega (arith, b, forward); near = i.near }))
          (noted_counted t n q span joined stuck watch noted x o);
    }

-- nothing ends there, and the state cycles: the walk goes on behind the joiners that are known
walking_cycle : (t : Task) (n q r next place : ℕ) (span : Span) (joined stuck : ℕ) (watch noted : Watch) → Ready t
    → Walking t n q span joined stuck watch → Noted watch noted n → GlyphStep t n q r next → t.ways.ends r [] ≡ None
    → t.ways.cycles r ≡ true → t.ways.waits r ≡ true
    → ((k : ℕ) → t.ways.is_joiner k ≡ true → (v : List ℕ) → t.ways.ends r (k ∷ v) ≡ t.ways.ends r v)
    → (next ≤ joined → r ≡ stuck → ⊥) → place ≡ next + (joined - next) → Walking t place r span place r noted
walking_cycle t n q r next place span joined stuck watch noted ready x o s none cycles waits stays free on =
    let w = t.ways in
    let y = scanning_none w.ends w.first w.grammar.other w.grammar.passes ready.nothing t.gs n q r next default_glyph
    span x.scanning s.in_range s.next_is s.leads.step none in
    let long = next_past t n q r next span joined stuck watch x s in
    let known = later w t.gs joined span.len next x.known long y.here in
    let y2 = subst (λ i. Scanning w.ends w.first w.grammar.other w.grammar.passes t.gs i r span) (sym on)
    (scanning_run w.ends w.first w.grammar.other w.grammar.passes t.gs next r (joined - next) span w.is_joiner y
    known stays none) in
    let since = subst (λ i. Joined w.grammar.passes w.is_joiner (drop span.len t.gs) (i - span.len)) (sym on)
    (on_from w t.gs span.len next (joined - next) long
    (since_next t n q r next span joined stuck watch ready x s y.here waits) known) in
    let is = s.next_is in
    let forward : n < place = omega (arith, is, on) in
    let grown : joined ≤ place = omega (arith, on) in
    let grows = x.grows in
    let fewer = read-later w.grammar.passes t.gs joined place grown in
    let home : Far t span r =
    (λ i. home_cycle t n q r next span joined stuck watch ready x s i cycles waits free (x.way i)) in
    let low = s.leads.low in
    record {
      scanning = y2;
      alive = s.alive;
      some = x.some;
      stop = x.stop;
      known = since;
      at_first = (λ e. absurd (omega (arith, e, forward)));
      behind = (λ _. omega (arith, long, on));
      even = (λ _ e. absurd (e none));
      since = (λ _. (omega (arith, forward), since));
      grows = omega (arith, grows, grown);
      claim = pending (record { from = omega arith; quiet = none; on = (λ m. inr (m, refl)) });
      way = (λ i. ⊎_elim (λ h. beyond h)
          (λ h. has_cycled h.0 h.1 (omega (arith, grows, grown)) (λ _. (h.0, cycles)) none) (home i));
      near = inr (omega (arith, low), home);
      ahead = o.ahead ∙ x.ahead;
      counted = ⊎_elim (λ i. inl i)
          (λ i. let b = i.before in
          inr (record {
            come = i.come;
            once = i.once;
            before = omega (arith, b, forward);
            near = ⊎_elim (λ j. inl j) (λ j. let k = j.0 in inr (omega (arith, k, fewer), home)) i.near;
          }))
          (noted_counted t n q span joined stuck watch noted x o);
    }

-- both: where the walk goes on
pub walking_on : (t : Task) (n q r next place : ℕ) (span : Span) (joined stuck known left_by : ℕ) (watch noted : Watch)
    → Ready t → Walking t n q span joined stuck watch → Noted watch noted n → GlyphStep t n q r next → t.ways.ends r
    [] ≡ None → (t.ways.cycles r ≡ true → t.ways.waits r ≡ true)
    → (t.ways.cycles r ≡ true → (k : ℕ) → t.ways.is_joiner k ≡ true → (v : List ℕ)
    → t.ways.ends r (k ∷ v) ≡ t.ways.ends r v)
    → ((t.ways.cycles r ≡ false) × (place ≡ next) × (known ≡ joined) × (left_by ≡ stuck))
    ⊎ ((t.ways.cycles r ≡ true) × (place ≡ next + (joined - next)) × (known ≡ place) × (left_by ≡ r)
    × (next ≤ joined → r ≡ stuck → ⊥)) → Walking t place r span known left_by noted
walking_on t n q r next place span joined stuck known left_by watch noted ready x o s none waits stays goes =
    ⊎_elim
    (λ h. subst (λ i. Walking t i r span known left_by noted) (sym h.1)
    (subst (λ i. Walking t next r span i left_by noted) (sym h.2)
    (subst (λ i. Walking t next r span joined i noted) (sym h.3)
    (walking_none t n q r next span joined stuck watch noted ready x o s none h.0))))
    (λ h. subst (λ i. Walking t place r span i left_by noted) (sym h.2)
    (subst (λ i. Walking t place r span place i noted) (sym h.3)
    (walking_cycle t n q r next place span joined stuck watch noted ready x o s none h.0 (waits h.0) (stays h.0) h.4
    h.1)))
    goes

-- the end

-- what the walk comes to
pub record Walked (t : Task) (span : Span) (joined stuck : ℕ) (watch : Watch) : Type 0 where
  pub opens : BeginsWith t.ways.grammar t.gs span
  pub some : 0 < span.len
  pub stop : t.ways.grammar.passes (drop span.len t.gs) ≡ false
  pub known : KnowsJoiners t.ways.grammar.passes t.ways.is_joiner t.ways.ends (drop span.len t.gs) (joined - span.len)
      stuck
  pub counted : (before : ℕ) → IsWatched t.ways.grammar.passes t.ways.cycled t.gs t.len t.stuck before t.watch →
      IsWatched t.ways.grammar.passes t.ways.cycled (drop span.len t.gs) (joined - span.len) stuck before
      (record watch { ahead = watch.ahead - span.len })

-- how often the watched glyph may be read from a walk's end on, by how often before it
spent_end : (all behind watched near far len old cycled c0 c e joined stuck : ℕ)
    → IsSpent all behind watched len old cycled c0 → near + 1 ≤ all → far ≤ behind → (joined ≤ e → near ≤ far)
    → (len < e → near ≤ behind)
    → (0 < len → (len < e) ⊎ ((stuck ≡ old) ⊎ (stuck ≡ cycled)))
    → (c ≡ c0) ⊎ ((c ≡ c0 + 1)
    × ((near ≤ watched + 1)
    ⊎ ((far ≤ watched + 1)
    × (0 < len → (len < e) ⊎ ((stuck ≡ cycled) × ((old ≡ cycled → ⊥) ⊎ (all ≤ behind + 1)))))))
    → IsSpent near far watched (joined - e) stuck cycled c
spent_end all behind watched near far len old cycled c0 c e joined stuck spent less below even over_all way counted =
    ⊎_elim
    (λ same.
    ⊎_elim (λ h. inl (same ∙ h))
    (λ h. ⊎_elim (λ i. inr (inl (omega (arith, same, i, less))))
    (λ i. let some = i.0 in let two = i.1 in
    ⊎_elim
    (λ j. ⊎_elim
    (λ k. inr (inr (omega (arith, j), omega (arith, two, below), inl (omega (arith, same, k)))))
    (λ k. let few = k.0 in
    ⊎_elim (λ m. let b = over_all m in inr (inl (omega (arith, same, few, b, two))))
    (λ m. inr (inr (
      omega (arith, j),
      omega (arith, two, below),
      inr
          (omega (arith, same, few), ⊎_elim (λ u. u ∙ k.1) (λ u. u) m),
    )))
    (way some)) i.2)
    (λ j. let b = even j in
    let few : c0 ≤ 2 = ⊎_elim (λ k. omega (arith, k)) (λ k. k.0) i.2 in
    inr (inl (omega (arith, same, few, b, below, two))))
    (cases_lt e joined)) h) spent)
    (λ more. let once = more.0 in
    ⊎_elim
    (λ close. inr (inl (⊎_elim (λ h. omega (arith, once, h, close))
    (λ h. ⊎_elim (λ i. omega (arith, once, i, less))
    (λ i. let few : c0 ≤ 2 = ⊎_elim (λ k. omega (arith, k)) (λ k. k.0) i.2 in omega (arith, once, few, close)) h)
    spent)))
    (λ off. let reach = off.0 in
    ⊎_elim
    (λ h. ⊎_elim (λ j. inr (inr (omega (arith, j), reach, inl (omega (arith, once, h)))))
    (λ j. let b = even j in inr (inl (omega (arith, once, h, b, reach)))) (cases_lt e joined))
    (λ h. ⊎_elim (λ i. inr (inl (omega (arith, once, i, less))))
    (λ i. let two = i.1 in
    let few : c0 ≤ 2 = ⊎_elim (λ k. omega (arith, k)) (λ k. k.0) i.2 in
    ⊎_elim (λ m. let b = over_all m in inr (inl (omega (arith, once, few, b, two))))
    (λ m. ⊎_elim
    (λ new.
    let one : c0 ≤ 1 = ⊎_elim (λ k. k) (λ k. absurd (new k.1)) i.2 in
    ⊎_elim (λ j. inr (inr (omega (arith, j), reach, inr (omega (arith, once, one), m.0))))
    (λ j. let b = even j in inr (inl (omega (arith, once, one, b, reach)))) (cases_lt e joined))
    (λ single. inr (inl (omega (arith, once, few, single, less, two)))) m.1)
    (off.1 i.0)) h) spent) more.1)
    counted

-- none of the walks before has read the watched glyph more than four times
spent_few : (all behind watched len stuck cycled times : ℕ) → watched ≤ all
    → IsSpent all behind watched len stuck cycled times → times ≤ 4
spent_few all behind watched len stuck cycled times l s =
    ⊎_elim (λ h. omega (arith, h))
    (λ h. ⊎_elim (λ i. omega (arith, i, l))
    (λ i. ⊎_elim (λ k. omega (arith, k)) (λ k. let few = k.0 in omega (arith, few)) i.2) h) s

way_end : (t : Task) (n q : ℕ) (span : Span) (joined stuck : ℕ) → Way t n q span joined stuck → (t.len < span.len)
    ⊎ ((stuck ≡ t.stuck) ⊎ (stuck ≡ t.ways.cycled))
way_end t n q span joined stuck (beyond h) = inl h
way_end t n q span joined stuck (at_start a b e) = inr (inl b)
way_end t n q span joined stuck (behind_one a b le down begun low) = inr (inl b)
way_end t n q span joined stuck (has_cycled a b le c none) = inr (inr a)

-- what the count comes to
counted_end : (t : Task) (n m q : ℕ) (span : Span) (joined stuck : ℕ) (watch noted : Watch) → Ready t
    → Walking t n q span joined stuck watch → noted.ahead ≡ t.watch.ahead → Counted t m span joined stuck noted
    → (before : ℕ) → IsWatched t.ways.grammar.passes t.ways.cycled t.gs t.len t.stuck before t.watch
    → IsWatched t.ways.grammar.passes t.ways.cycled (drop span.len t.gs) (joined - span.len) stuck before
    (record noted { ahead = noted.ahead - span.len })
counted_end t n m q span joined stuck watch noted ready x ahead counted before o = record {
  since = (let a = o.since in ⊎_elim (λ i. omega (arith, i, a)) (λ i. let b = i.once in omega (arith, a, b)) counted);
  few = few;
  spent = spent;
}
  where
    p : Glyphs → Bool
    p = t.ways.grammar.passes

    few : noted.reads ≤ before + 5
    few =
        let a = o.few in let s = o.since in
        ⊎_elim (λ i. omega (arith, i, a))
        (λ i. let b = i.once in
        let w : watched t ≤ left_at t 0 = read-later p t.gs 0 (t.watch.ahead - 1) (omega arith) in
        let c = spent_few (left_at t 0) (left_at t t.len) (watched t) t.len t.stuck t.ways.cycled
        (t.watch.reads - before) w (o.spent i.come) in
        omega (arith, b, c, s)) counted

    spent : 0 < noted.ahead - span.len
        → IsSpent (left_at t span.len) (length (read_of p (drop (joined - span.len) (drop span.len t.gs))))
        (length (read_of p (drop (noted.ahead - span.len - 1) (drop span.len t.gs)))) (joined - span.len) stuck
        t.ways.cycled (noted.reads - before)
    spent l =
        let s = o.since in
        let end = span.len + (joined - span.len) in
        let on : drop (joined - span.len) (drop span.len t.gs) ≡ drop end t.gs =
        drop-drop (joined - span.len) span.len t.gs in
        let place : span.len + (noted.ahead - span.len - 1) ≡ t.watch.ahead - 1 = omega (arith, l, ahead) in
        let at : drop (noted.ahead - span.len - 1) (drop span.len t.gs) ≡ drop (t.watch.ahead - 1) t.gs =
        drop-drop (noted.ahead - span.len - 1) span.len t.gs ∙ ap (λ i. drop i t.gs) place in
        let grows = x.grows in
        let behind = read-later p t.gs t.len end (omega (arith, grows)) in
        let later = read-later p t.gs joined end (omega arith) in
        subst (λ xs. IsSpent (left_at t span.len) (length (read_of p (drop (joined - span.len) (drop span.len t.gs))))
        (length (read_of p xs)) (joined - span.len) stuck t.ways.cycled (noted.reads - before)) (sym at)
        (subst (λ xs. IsSpent (left_at t span.len) (length (read_of p xs)) (watched t) (joined - span.len) stuck
        t.ways.cycled (noted.reads - before)) (sym on)
        (spent_end (left_at t 0) (left_at t t.len) (watched t) (left_at t span.len) (left_at t end) t.len t.stuck
        t.ways.cycled (t.watch.reads - before) (noted.reads - before) span.len joined stuck
        (o.spent (omega (arith, l, ahead)))
        (less_than_all t span.len ready x.some)
        behind
        (λ i. let e : end ≡ span.len = omega (arith, i) in let f = ap (left_at t) e in omega (arith, f))
        (λ i. let le : t.len ≤ span.len = omega (arith, i) in read-later p t.gs t.len span.len le)
        (λ i. way_end t n q span joined stuck (x.way i))
        (⊎_elim (λ i. inl (ap (λ k. k - before) i))
        (λ i. let b = i.once in
        inr (omega (arith, b, s), ⊎_elim (λ j. inl j) (λ j. let k = j.0 in inr (omega (arith, k, later), j.1)) i.near))
        counted)))

known_end : (t : Task) (n q : ℕ) (span : Span) (joined stuck : ℕ) (watch : Watch)
    → Walking t n q span joined stuck watch
    → (t.ways.ends q [] ≡ None → (i : ℕ) → t.ways.ends q (take i (read_from t n)) ≡ None)
    → KnowsJoiners t.ways.grammar.passes t.ways.is_joiner t.ways.ends (drop span.len t.gs) (joined - span.len) stuck
known_end t n q span joined stuck watch x none = record {
  joined = x.known;
  ends_none = (λ l.
      let e : span.len + (joined - span.len) ≡ joined = omega (arith, l) in
      let on : drop (joined - span.len) (drop span.len t.gs) ≡ drop joined t.gs =
      drop-drop (joined - span.len) span.len t.gs ∙ ap (λ i. drop i t.gs) e in
      subst (λ xs. EndsNothing t.ways.grammar.passes t.ways.ends xs stuck) (sym on)
      (claim_end t n q span joined stuck none (omega (arith, l)) x.claim));
}

pub walking_dead : (t : Task) (n q r : ℕ) (span : Span) (joined stuck : ℕ) (watch noted : Watch) → Ready t
    → ((u : List ℕ) → IsKind t.ways.grammar u (t.ways.ends t.ways.first u)) → Walking t n q span joined stuck watch
    → Noted watch noted n → n < length t.gs → Leads t.ways q (get_or t.gs n default_glyph).category r
    → ((v : List ℕ) → t.ways.ends r v ≡ None) → Walked t span joined stuck noted
walking_dead t n q r span joined stuck watch noted ready kinds x o l leads dead =
    let w = t.ways in
    let next = n + 1 + reach_of w.grammar.passes (drop (n + 1) t.gs) 0 in
    let read = read-next w.grammar.passes t.gs n next default_glyph l x.scanning.here refl in
    record {
      opens = scanning_dead w.grammar w.ends w.first t.gs n q r default_glyph span ready.nothing kinds x.scanning l
          leads.step dead;
      some = x.some;
      stop = x.stop;
      known = known_end t n q span joined stuck watch x (λ none. front next read none);
      counted = counted_end t n (n + 1) q span joined stuck watch noted ready x (o.ahead ∙ x.ahead)
          (noted_counted t n q span joined stuck watch noted x o);
    }
  where
    front : (next : ℕ) → read_from t n ≡ (get_or t.gs n default_glyph).category ∷ read_from t next → t.ways.ends q
        [] ≡ None → (i : ℕ) → t.ways.ends q (take i (read_from t n)) ≡ None
    front next read none zero = none
    front next read none (suc i) = ap (λ (u : List ℕ). t.ways.ends q (take (suc i) u)) read
        ∙ leads.step (take i (read_from t next)) ∙ dead (take i (read_from t next))

pub walking_all : (t : Task) (n q : ℕ) (span : Span) (joined stuck : ℕ) (watch : Watch) → Ready t
    → ((u : List ℕ) → IsKind t.ways.grammar u (t.ways.ends t.ways.first u)) → Walking t n q span joined stuck watch
    → length t.gs ≤ n → Walked t span joined stuck watch
walking_all t n q span joined stuck watch ready kinds x a =
    let w = t.ways in
    record {
      opens = scanning_all w.grammar w.ends w.first t.gs n q span kinds x.scanning a ready.some ready.read;
      some = x.some;
      stop = x.stop;
      known = known_end t n q span joined stuck watch x (λ none i. ap (λ (u : List ℕ). w.ends q (take i u)) nothing
          ∙ ap (w.ends q) (take_nil i) ∙ none);
      counted = counted_end t n n q span joined stuck watch watch ready x x.ahead x.counted;
    }
  where
    nothing : read_from t n ≡ []
    nothing = ap (read_of t.ways.grammar.passes) (drop_all n t.gs a)

    take_nil : (i : ℕ) → (let e : List ℕ = [] in take i e) ≡ []
    take_nil zero = refl
    take_nil (suc i) = refl

-- nothing ends behind the known joiners
pub walking_stuck : (t : Task) (n q r next : ℕ) (span : Span) (joined stuck : ℕ) (watch noted : Watch) → Ready t
    → ((u : List ℕ) → IsKind t.ways.grammar u (t.ways.ends t.ways.first u)) → Walking t n q span joined stuck watch
    → Noted watch noted n → GlyphStep t n q r next → t.ways.ends r [] ≡ None
    → ((k : ℕ) → t.ways.is_joiner k ≡ true → (v : List ℕ) → t.ways.ends r (k ∷ v) ≡ t.ways.ends r v) → next ≤ joined
    → r ≡ stuck → Walked t span joined stuck noted
walking_stuck t n q r next span joined stuck watch noted ready kinds x o s none stays le same =
    let w = t.ways in
    let y = scanning_none w.ends w.first w.grammar.other w.grammar.passes ready.nothing t.gs n q r next default_glyph
    span x.scanning s.in_range s.next_is s.leads.step none in
    let long = next_past t n q r next span joined stuck watch x s in
    let is = s.next_is in
    let forward : n < next = omega (arith, is) in
    let behind = claim_before t n q next span joined stuck forward long le x.claim in
    let here = joined_stuck t next joined r (later w t.gs joined span.len next x.known long y.here) le stays
    (subst (λ i. EndsNothing w.grammar.passes w.ends (drop joined t.gs) i) (sym same) behind) in
    record {
      opens = scanning_stuck w.grammar w.ends w.first t.gs next r span kinds y here ready.some ready.read;
      some = x.some;
      stop = x.stop;
      known = known_stuck behind;
      counted = counted_end t n (n + 1) q span joined stuck watch noted ready x (o.ahead ∙ x.ahead)
          (noted_counted t n q span joined stuck watch noted x o);
    }
  where
    known_stuck : EndsNothing t.ways.grammar.passes t.ways.ends (drop joined t.gs) stuck
        → KnowsJoiners t.ways.grammar.passes t.ways.is_joiner t.ways.ends (drop span.len t.gs) (joined - span.len) stuck
    known_stuck none = record {
      joined = x.known;
      ends_none = (λ l.
          let e : span.len + (joined - span.len) ≡ joined = omega (arith, l) in
          let on : drop (joined - span.len) (drop span.len t.gs) ≡ drop joined t.gs =
          drop-drop (joined - span.len) span.len t.gs ∙ ap (λ i. drop i t.gs) e in
          subst (λ xs. EndsNothing t.ways.grammar.passes t.ways.ends xs stuck) (sym on) none);
    }
