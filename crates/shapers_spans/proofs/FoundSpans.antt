-- The loops over the syllables of a text.
use Rattle.std.proofs.Common.{◌≡◌, ℕ, ◌+◌, ◌-◌, ◌<◌, ◌≤◌, Bool, true, false, ◌==◌, List, [], ◌∷◌, ◌++◌, drop, take, length, sum_by, refl, sym, ap, subst, ◌∙◌, arith, append_assoc, rules, inl, inr, ⊎_elim, Option}
use Rattle.std.specs.Prelude.{nat_lt, is_ok, All, OnErr, Result, Ok, Err}
use Rattle.std.specs.List.{list_all}
use Rattle.std.proofs.lemmas.Bool.{lt-ltb, cases_lt, eq-eqb, and_from, cond_both, eqb-false, true≢false}
use Rattle.std.proofs.lemmas.List.{append-nil, drop_all, length-append, length-drop, drop-drop, take_rest}
use Rattle.std.proofs.lemmas.List.Elements.{All-append}
use Rattle.std.proofs.lemmas.List.Folds.{list_all-append}
use Rattle.std.proofs.lemmas.List.Sums.{sum_by-append}
use Rattle.shapers_buffer.specs.Glyphs.{Glyphs}
use Rattle.shapers_buffer.specs.declared.buffer.syllables.Span.{Span}
use Rattle.shapers_spans.specs.Cuts.{AreSpansOf}
use Rattle.shapers_spans.specs.Grammar.{Grammar, IsCutFrom, IsSyllable, BeginsWith, lead_spans, reach_of, read_of}
use Rattle.shapers_spans.specs.Joined.{Joined, KnowsJoiners}
use Rattle.shapers_spans.specs.Watch.{Watch, IsWatched}
use Rattle.shapers_spans.proofs.Reached.{reach-le, behind-is-read}

-- the spans up to `start`
pub record Found (g : Grammar) (gs : Glyphs) (start : ℕ) (spans : List Span) : Type 0 where
  pub within : start ≤ length gs
  pub read : g.passes (drop start gs) ≡ false
  pub rest : List Span
  pub whole : spans ≡ lead_spans (reach_of g.passes gs 0) g.other ++ rest
  pub cut : (more : List Span) → IsCutFrom g (drop start gs) more
      → IsCutFrom g (drop (reach_of g.passes gs 0) gs) (rest ++ more)
  pub len : sum_by (λ (s : Span). s.len) spans ≡ start
  pub each : list_all (λ (s : Span). nat_lt 0 s.len) spans ≡ true
  pub kinds : All (λ (s : Span). s.kind ≤ 15) spans
  pub few : (all : List Span) → IsCutFrom g (drop (reach_of g.passes gs 0) gs) all
      → (more : List Span) × (IsCutFrom g (drop start gs) more × (length all ≡ length rest + length more))

-- whatever cuts the text, its spans are as long
syllable_len : (g : Grammar) (w : List ℕ) (s t : Span) → IsSyllable g w s → IsSyllable g w t → s.len ≡ t.len
syllable_len g w s t (inl a) (inl b) =
    ⊎_elim
    (λ l. absurd (a.longest t.len l b.within b.rule b.first.takes))
    (λ l. ⊎_elim (λ m. absurd (b.longest s.len m a.within a.rule a.first.takes)) (λ m. omega (arith, l, m)) (cases_lt t.len s.len))
    (cases_lt s.len t.len)
syllable_len g w s t (inl a) (inr b) = absurd (b.none s.len a.some a.within a.rule a.first.takes)
syllable_len g w s t (inr a) (inl b) = absurd (a.none t.len b.some b.within b.rule b.first.takes)
syllable_len g w s t (inr a) (inr b) = a.one ∙ sym b.one

leading_len : (g : Grammar) (gs : Glyphs) (s t : Span) → BeginsWith g gs s → BeginsWith g gs t → s.len ≡ t.len
leading_len g gs s t a b =
    a.len ∙ ap (reach_of g.passes gs) (syllable_len g (read_of g.passes gs) a.read b.read a.syllable b.syllable) ∙ sym b.len

-- so behind the first span it cuts what is left
next_cut : (g : Grammar) (gs : Glyphs) (span : Span) (more : List Span) → IsCutFrom g gs more → BeginsWith g gs span
    → 0 < span.len → span.len ≤ length gs
    → (rest : List Span) × (IsCutFrom g (drop span.len gs) rest × (length more ≡ length rest + 1))
next_cut g gs span [] nil opens some within = absurd (omega (arith, some, within, ap length nil))
next_cut g gs span (s ∷ rest) cut opens some within = (
  rest,
  (subst (λ n. IsCutFrom g (drop n gs) rest) (leading_len g gs s span cut.0 opens) cut.1, omega arith),
)

one_fits : (s : Span) → s.kind ≤ 15 → All (λ (t : Span). t.kind ≤ 15) (s ∷ [])
one_fits s h = search (rules, h)

lead_len : (n k : ℕ) → sum_by (λ (s : Span). s.len) (lead_spans n k) ≡ n
lead_len n k =
    let s : Span = record { len = n; kind = k } in
    cond_both (n == 0) [] (s ∷ []) (λ (ss : List Span). sum_by (λ (t : Span). t.len) ss ≡ n)
    (λ h. search (rules, h)) (λ h. search (rules, h))

lead_each : (n k : ℕ) → list_all (λ (s : Span). nat_lt 0 s.len) (lead_spans n k) ≡ true
lead_each n k =
    let s : Span = record { len = n; kind = k } in
    cond_both (n == 0) [] (s ∷ []) (λ (ss : List Span). list_all (λ (t : Span). nat_lt 0 t.len) ss ≡ true)
    (λ h. refl) (λ h. some n h)
  where
    above : (n : ℕ) → (n ≡ 0 → ⊥) → 0 < n
    above n h = omega (arith, h)

    some : (n : ℕ) → (n == 0) ≡ false
        → list_all (λ (t : Span). nat_lt 0 t.len) ((let s : Span = record { len = n; kind = k } in s) ∷ []) ≡ true
    some n h = and_from (nat_lt 0 n) true (lt-ltb 0 n (above n (eqb-false n 0 h))) refl

lead_kinds : (n k : ℕ) → k ≤ 15 → All (λ (s : Span). s.kind ≤ 15) (lead_spans n k)
lead_kinds n k h =
    let s : Span = record { len = n; kind = k } in
    cond_both (n == 0) [] (s ∷ []) (λ (ss : List Span). All (λ (t : Span). t.kind ≤ 15) ss)
    (λ _. search rules) (λ _. one_fits s h)

pub found_start : (g : Grammar) (gs : Glyphs) (start : ℕ) (spans : List Span) → g.passes [] ≡ false
    → g.other ≤ 15 → start ≡ reach_of g.passes gs 0 → spans ≡ lead_spans start g.other → Found g gs start spans
found_start g gs start spans z k e s = record {
  within = (let h = reach-le g.passes gs 0 in omega (arith, h, e));
  read = ap (λ n. g.passes (drop n gs)) e ∙ behind-is-read g.passes z gs;
  rest = [];
  whole = s ∙ ap (λ n. lead_spans n g.other) e ∙ sym (append-nil (lead_spans (reach_of g.passes gs 0) g.other));
  cut = (λ more h. subst (λ n. IsCutFrom g (drop n gs) more) e h);
  len = ap (λ (ss : List Span). sum_by (λ (t : Span). t.len) ss) s ∙ lead_len start g.other;
  each = ap (λ (ss : List Span). list_all (λ (t : Span). nat_lt 0 t.len) ss) s ∙ lead_each start g.other;
  kinds = subst (λ (ss : List Span). All (λ (t : Span). t.kind ≤ 15) ss) (sym s) (lead_kinds start g.other k);
  few = (λ all h. (all, (subst (λ n. IsCutFrom g (drop n gs) all) (sym e) h, omega arith)));
}

pub found_next : (g : Grammar) (gs : Glyphs) (start : ℕ) (span : Span) (spans new : List Span)
    → Found g gs start spans → BeginsWith g (drop start gs) span → 0 < span.len → span.len ≤ length (drop start gs)
    → span.kind ≤ 15 → g.passes (drop span.len (drop start gs)) ≡ false → new ≡ spans ++ span ∷ []
    → Found g gs (start + span.len) new
found_next g gs start span spans new f opens some within kind read e =
    let on : drop span.len (drop start gs) ≡ drop (start + span.len) gs = drop-drop span.len start gs in
    record {
      within = (let a = f.within in omega (arith, a, within, length-drop start gs));
      read = ap g.passes (sym on) ∙ read;
      rest = f.rest ++ span ∷ [];
      whole = e ∙ ap (λ (ss : List Span). ss ++ span ∷ []) f.whole
          ∙ append_assoc (lead_spans (reach_of g.passes gs 0) g.other) f.rest (span ∷ []);
      cut = (λ more h.
          subst (λ ss. IsCutFrom g (drop (reach_of g.passes gs 0) gs) ss) (sym (append_assoc f.rest (span ∷ []) more))
          (f.cut (span ∷ more) (opens, subst (λ xs. IsCutFrom g xs more) (sym on) h)));
      len =
          let a : sum_by (λ (t : Span). t.len) (spans ++ span ∷ []) ≡ sum_by (λ (t : Span). t.len) spans
          + sum_by (λ (t : Span). t.len) (span ∷ []) = sum_by-append (λ (t : Span). t.len) spans (span ∷ []) in
          let b : sum_by (λ (t : Span). t.len) (span ∷ []) ≡ span.len = search rules in
          let c : sum_by (λ (t : Span). t.len) (spans ++ span ∷ []) ≡ start + span.len =
          (let l = f.len in omega (arith, a, b, l)) in
          ap (λ (ss : List Span). sum_by (λ (t : Span). t.len) ss) e ∙ c;
      each =
          ap (λ (ss : List Span). list_all (λ (t : Span). nat_lt 0 t.len) ss) e
          ∙ list_all-append (λ (t : Span). nat_lt 0 t.len) spans (span ∷ [])
          ∙ and_from (list_all (λ (t : Span). nat_lt 0 t.len) spans)
          (list_all (λ (t : Span). nat_lt 0 t.len) (span ∷ [])) f.each
          (and_from (nat_lt 0 span.len) true (lt-ltb 0 span.len some) refl);
      kinds = subst (λ (ss : List Span). All (λ (t : Span). t.kind ≤ 15) ss) (sym e)
          (All-append (λ (t : Span). t.kind ≤ 15) spans (span ∷ []) f.kinds (one_fits span kind));
      few = (λ all h.
          let (more, known) = f.few all h in
          let (left, then) = next_cut g (drop start gs) span more known.0 opens some within in (
            left,
            (
              subst (λ xs. IsCutFrom g xs left) on then.0,
              omega (arith, known.1, then.1, length-append f.rest (span ∷ [])),
            ),
          ));
    }

pub found_all : (g : Grammar) (gs : Glyphs) (start : ℕ) (spans : List Span) → Found g gs start spans
    → length gs ≤ start → AreSpansOf g gs spans
found_all g gs start spans f l =
    let e : start ≡ length gs = (let a = f.within in omega (arith, a, l)) in
    record {
      cut = record {
        rest = f.rest;
        whole = f.whole;
        cut = subst (λ ss. IsCutFrom g (drop (reach_of g.passes gs 0) gs) ss) (append-nil f.rest) (f.cut
            [] (drop_all start gs l));
      };
      cover = and_from (list_all (λ (s : Span). nat_lt 0 s.len) spans) (sum_by (λ (s : Span). s.len) spans == length gs)
          f.each (eq-eqb (sum_by (λ (s : Span). s.len) spans) (length gs) (f.len ∙ e));
      kinds = f.kinds;
    }

-- before the text's end there are fewer than in any list that cuts it
pub found_fewer : (g : Grammar) (gs : Glyphs) (start : ℕ) (spans all : List Span) → Found g gs start spans
    → start < length gs → AreSpansOf g gs all → length spans < length all
found_fewer g gs start spans all f before are =
    let (more, known) = f.few are.cut.rest are.cut.cut in
    let lead = lead_spans (reach_of g.passes gs 0) g.other in
    omega (
      arith,
      known.1,
      some more known.0,
      ap length f.whole,
      ap length are.cut.whole,
      length-append lead f.rest,
      length-append lead are.cut.rest,
    )
  where
    some : (more : List Span) → IsCutFrom g (drop start gs) more → 0 < length more
    some [] nil = absurd (omega (arith, before, length-drop start gs, ap length nil))
    some (s ∷ more) cut = omega arith

-- what a refusal says
pub refused : {T E P : Type 0} (r : Result T E) → false ≡ is_ok r → OnErr r P → P
refused (Ok x) is full = absurd (true≢false (sym is))
refused (Err e) is full = full

-- as in front
pub lead_within : (g : Grammar) (gs : Glyphs) (start kind : ℕ) (all : List Span) → start ≡ reach_of g.passes gs 0
    → kind ≡ g.other → AreSpansOf g gs all → length (lead_spans start kind) ≤ length all
lead_within g gs start kind all e k are =
    let lead = lead_spans (reach_of g.passes gs 0) g.other in
    let same : lead_spans start kind ≡ lead = ap (λ n. lead_spans n kind) e ∙ ap (lead_spans (reach_of g.passes gs 0)) k in
    omega (arith, ap length same, ap length are.cut.whole, length-append lead are.cut.rest)

-- before the first span

pub knows_none : (p : Glyphs → Bool) (j : ℕ → Bool) (ends : ℕ → List ℕ
    → Option ℕ) (gs : Glyphs) (len stuck : ℕ) → p gs ≡ false → len ≡ 0
    → KnowsJoiners p j ends gs len stuck
knows_none p j ends gs len stuck h e = record {
  joined = subst (λ n. Joined p j gs n) (sym e) h;
  ends_none = (λ l. absurd (omega (arith, l, e)));
}

pub watched_none : (p : Glyphs → Bool) (cycled : ℕ) (gs : Glyphs) (len stuck before : ℕ)
    (watch : Watch) → watch.reads ≡ before → IsWatched p cycled gs len stuck before watch
watched_none p cycled gs len stuck before watch e = record {
  since = omega (arith, e);
  few = omega (arith, e);
  spent = (λ _. inl (omega (arith, e)));
}

-- what the next span starts in: the slice behind `start`
pub sliced : (P : Glyphs → Type 0) (gs : Glyphs) (start : ℕ)
    → P (take (length gs - start) (drop start gs)) → P (drop start gs)
sliced P gs start h = subst P (take_rest gs start) h

pub unsliced : (P : Glyphs → Type 0) (gs : Glyphs) (start : ℕ) → P (drop start gs)
    → P (take (length gs - start) (drop start gs))
unsliced P gs start h = subst P (sym (take_rest gs start)) h
