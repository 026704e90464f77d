-- The last broken syllable of a text: where it stands, and what opening it leaves.
use Rattle.std.proofs.Common.{ℕ, suc, ◌+◌, ◌-◌, ◌<◌, ◌≡◌, ◌==◌, Bool, true, false, not, cond, inl, inr, [], ◌∷◌, ◌++◌, length, take, get_or, refl, sym, ◌∙◌, ap, subst, arith, append_assoc, length-append, length-take, length-drop, eq-eqb}
use Rattle.std.specs.Prelude.{All, count_by}
use Rattle.std.specs.List.{list_any, prefix_len, suffix_len}
use Rattle.std.proofs.lemmas.Bool.{cases_Bool, or_parts}
use Rattle.std.proofs.lemmas.List.{drop_at, drop-drop, take_at, get_or-append_right, length-map, map-append, take-append-drop}
use Rattle.std.proofs.lemmas.List.Concat.{flat_map-append}
use Rattle.std.proofs.lemmas.List.Elements.{All-append, All-cons, All-head, All-nil}
use Rattle.std.proofs.lemmas.List.Sums.{sum_by-append, sum_by-cons}
use Rattle.shapers_buffer.specs.Glyphs.{Glyph, Glyphs}
use Rattle.shapers_buffer.specs.Glyph.{default_glyph}
use Rattle.shapers_buffer.specs.Lists.{before_last_stretch, last_stretch}
use Rattle.shapers_buffer.specs.Syllables.{has_byte, kind_of, syllables}
use Rattle.shapers_buffer.proofs.ListLaws.{LastPass, before_last_run_no, before_last_run_yes, from_end, last_pass, last_run_no, last_run_yes, none_before_push, suffix_len_stop, suffix_len_yes}
use Rattle.shapers_syllabic.specs.declared.ot_shaper_syllabic.circles.DottedCircles.{DottedCircles}
use Rattle.shapers_syllabic.specs.Borders.{MeetAtBorder}
use Rattle.shapers_syllabic.specs.Circles.{count_of_kind, is_of_kind, with_circle, with_circles}
use Rattle.shapers_syllabic.specs.FirstBroken.{IsLastBroken, is_of_other_kind}
use Rattle.shapers_syllabic.proofs.Borders.{OfByte, first_byte, last_byte, syllables-append, one_run}
use Rattle.shapers_syllabic.proofs.CircleLaws.{none_broken, with_circles-none}

-- the longest end of one byte, and that a syllable of that byte meets what stands before it at a border
record EndsInRun (b : ℕ) (gs : Glyphs) : Type 0 where
  all : All (λ g. g.syllable ≡ b) (last_stretch (has_byte b) gs)
  border : (hs : Glyphs) → first_byte hs ≡ b → MeetAtBorder (before_last_stretch (has_byte b) gs) hs

last_byte_is : (gs : Glyphs) (g : Glyph) → last_byte (gs ++ g ∷ []) ≡ g.syllable
last_byte_is = search (arith, length-append, map-append, get_or-append_right, length-map)

-- a text of a front, a broken syllable and what stands behind it, none of it broken
record Parted (rule : DottedCircles) (b : ℕ) (front syllable behind : Glyphs) : Type 0 where
  uniform : OfByte b syllable
  broken : (kind_of b == rule.broken_kind) ≡ true
  before : MeetAtBorder front (syllable ++ behind)
  after : MeetAtBorder syllable behind
  none : count_of_kind rule.broken_kind behind ≡ 0

syllable_broken : (rule : DottedCircles) (b : ℕ) (gs : Glyphs) → OfByte b gs
    → (kind_of b == rule.broken_kind) ≡ true → is_of_kind rule.broken_kind gs ≡ true
syllable_broken rule b [] = search arith
syllable_broken rule b (g ∷ gs) = search (arith, All-head)

pieces_of : (rule : DottedCircles) (b : ℕ) (front syllable behind : Glyphs) → Parted rule b front syllable behind
    → syllables (front ++ (syllable ++ behind)) ≡ syllables front ++ (syllable ∷ syllables behind)
pieces_of rule b front syllable behind p = cc (
  syllables-append front (syllable ++ behind) p.before,
  syllables-append syllable behind p.after,
  one_run b syllable p.uniform,
)

parted_text : (rule : DottedCircles) (b : ℕ) (front syllable behind : Glyphs)
    → Parted rule b front syllable behind → with_circles rule (front ++ (syllable ++ behind)) ≡ with_circles rule front
    ++ (with_circle rule syllable ++ behind)
parted_text = search (arith, pieces_of, flat_map-append, with_circles-none)

parted_count : (rule : DottedCircles) (b : ℕ) (front syllable behind : Glyphs) → Parted rule b front syllable behind
    → count_of_kind rule.broken_kind (front ++ (syllable ++ behind)) ≡ suc (count_of_kind rule.broken_kind front)
parted_count rule b front syllable behind p =
    let test = is_of_kind rule.broken_kind in
    let one : ◌≡◌ {A = ℕ} (cond (is_of_kind rule.broken_kind syllable) 1 0) 1 =
    ap (λ t. cond t 1 0) (syllable_broken rule b syllable p.uniform p.broken) in
    let pieces = ap (count_by test) (pieces_of rule b front syllable behind p) in
    let sum = sum_by-append (λ piece. cond (test piece) 1 0) (syllables front) (syllable ∷ syllables behind) in
    search (arith, sum_by-cons)

is_parted : (rule : DottedCircles) (b : ℕ) (front syllable behind : Glyphs) → Parted rule b front syllable behind
    → IsLastBroken rule (front ++ (syllable ++ behind)) (length front) (length front + length syllable)
is_parted rule b front syllable behind p = search (
  arith,
  length-append front (syllable ++ behind),
  length-append syllable behind,
  parted_text rule b front syllable behind p,
  take_at front (syllable ++ behind) (length front) refl,
  drop_at front (syllable ++ behind) (length front) refl,
  take_at syllable behind (length syllable) refl,
  drop-drop (length syllable) (length front) (front ++ (syllable ++ behind)),
  drop_at syllable behind (length syllable) refl,
  parted_count rule b front syllable behind p,
)

-- where no glyph is of a kind, all are of other kinds
abbrev of_kind : ℕ → Glyph → Bool
of_kind k g = kind_of g.syllable == k

other_end : (k : ℕ) (gs : Glyphs) → list_any (of_kind k) gs ≡ false → suffix_len (is_of_other_kind k) gs ≡ length gs
other_end k gs =
    from_end (λ gs. list_any (of_kind k) gs ≡ false → suffix_len (is_of_other_kind k) gs ≡ length gs) (λ none. refl)
    (λ xs x before none.
    let parts = none_before_push (of_kind k) xs x none in
    search (arith, suffix_len_yes (is_of_other_kind k) xs x (ap not parts.1), length-append xs (x ∷ []))) gs

other_front : (k : ℕ) (gs : Glyphs) → list_any (of_kind k) gs ≡ false → prefix_len (is_of_other_kind k) gs ≡ length gs
other_front k [] none = refl
other_front k (g ∷ gs) none =
    search (arith, other_front k gs (or_parts (of_kind k g) (list_any (of_kind k) gs) none).1)

none_counted : (rule : DottedCircles) (gs : Glyphs) → list_any (of_kind rule.broken_kind) gs ≡ false
    → count_of_kind rule.broken_kind gs ≡ 0
none_counted rule gs none = let all = other_front rule.broken_kind gs none in search (arith, none_broken)

-- what stands behind a broken syllable begins with another byte
border_behind : (rule : DottedCircles) (b : ℕ) (front : Glyphs) (g : Glyph)
    (behind : Glyphs) → g.syllable ≡ b → (kind_of b == rule.broken_kind) ≡ true
    → list_any (of_kind rule.broken_kind) behind ≡ false → MeetAtBorder (front ++ g ∷ []) behind
border_behind rule b front g [] byte broken none = search arith
border_behind rule b front g (h ∷ hs) byte broken none = search (arith, last_byte_is)

first_of_run : (b : ℕ) (run : Glyphs) (g : Glyph) (behind : Glyphs)
    → All (λ h. h.syllable ≡ g.syllable) run → first_byte ((run ++ g ∷ []) ++ behind) ≡ g.syllable
first_of_run b [] g behind all = refl
first_of_run b (h ∷ run) g behind all = search All-head

-- where the last broken syllable stands
parted_at : (rule : DottedCircles) (before : Glyphs) (g : Glyph) (behind : Glyphs)
    → (kind_of g.syllable == rule.broken_kind) ≡ true → list_any (of_kind rule.broken_kind) behind ≡ false
    → Parted rule g.syllable (before_last_stretch (has_byte g.syllable) before) (last_stretch (has_byte g.syllable) before ++ g
    ∷ []) behind
parted_at rule before g behind broken none =
    let b = g.syllable in
    let P : Glyph → Type 0 = λ h. h.syllable ≡ b in
    let e =
    let P : Glyph → Type 0 = λ g. g.syllable ≡ b in from_end (EndsInRun b) (search arith) (λ xs x
    e. elim (cases_Bool (has_byte b x)) [
      | inl has ↦ record {
        all = search (
          arith,
          last_run_yes (has_byte b) xs x has,
          All-append P (last_stretch (has_byte b) xs) (x ∷ []) e.all (All-cons P x [] (grind arith) (All-nil P)),
        );
        border = search (arith, before_last_run_yes);
      }
      | inr hasnt ↦
          search (arith, last_run_no, before_last_run_no, last_byte_is)
    ]) before in
    let run = last_stretch (has_byte b) before in
    let all : All P (run ++ g ∷ []) = All-append P run (g ∷ []) e.all (All-cons P g [] refl (All-nil P)) in
    search (arith, length-append, first_of_run, border_behind, none_counted)

last_broken_at : (rule : DottedCircles) (gs : Glyphs) (t n : ℕ)
    (p : LastPass (of_kind rule.broken_kind) gs) → t ≡ suffix_len (is_of_other_kind rule.broken_kind) gs
    → n ≡ suffix_len (has_byte (get_or gs (length gs - t - 1) default_glyph).syllable) (take (length gs - t) gs)
    → (t < length gs) × IsLastBroken rule gs (length gs - t - n) (length gs - t)
last_broken_at rule gs t n p t_is n_is =
    let k = rule.broken_kind in
    let a = p.before in
    let x = p.element in
    let b = x.syllable in
    let run = last_stretch (has_byte b) a in
    let front = before_last_stretch (has_byte b) a in
    let tail : t ≡ length p.after = t_is ∙ ap (suffix_len (is_of_other_kind k)) p.parts
    ∙ suffix_len_stop (is_of_other_kind k) a x p.after (ap not p.passes) ∙ other_end k p.after p.none_after in
    let size : length gs ≡ length a + suc (length p.after) = ap length p.parts ∙ length-append a (x ∷ p.after) in
    let zero_in : length a - length a ≡ 0 = omega arith in
    let read : get_or gs (length gs - t - 1) default_glyph ≡ x = ap (λ i. get_or gs i default_glyph) (omega arith)
    ∙ ap (λ l. get_or l (length a) default_glyph) p.parts
    ∙ get_or-append_right a (x ∷ p.after) (length a) (length a) default_glyph refl (omega arith)
    ∙ ap (λ i. get_or (x ∷ p.after) i default_glyph) zero_in in
    let taken : take (length gs - t) gs ≡ a ++ x ∷ [] = ap (λ i. take i gs) (omega arith)
    ∙ ap (take (length a + 1)) (p.parts ∙ sym (append_assoc a (x ∷ []) p.after))
    ∙ take_at (a ++ x ∷ []) p.after (length a + 1) (length-append a (x ∷ [])) in
    let many : n ≡ 1 + suffix_len (has_byte b) a =
    n_is ∙ ap (λ (g : Glyph). suffix_len (has_byte g.syllable) (take (length gs - t) gs)) read
    ∙ ap (suffix_len (has_byte b)) taken ∙ suffix_len_yes (has_byte b) a x (eq-eqb b b refl) in
    let m = suffix_len (has_byte b) a in
    let start = length-take (length a - m) a ∙ omega arith in
    let text : front ++ ((run ++ x ∷ []) ++ p.after) ≡ gs = ap (λ l. front ++ l) (append_assoc run (x ∷ []) p.after)
    ∙ sym (append_assoc front run (x ∷ p.after))
    ∙ ap (λ l. l ++ x ∷ p.after) (take-append-drop (length a - m) a) ∙ sym p.parts in
    let here = is_parted rule b front (run ++ x ∷ []) p.after (parted_at rule a x p.after p.passes p.none_after) in (
      omega arith,
      subst (λ l. IsLastBroken rule l (length gs - t - n) (length gs - t)) text
          (subst (λ e. IsLastBroken rule (front ++ ((run ++ x ∷ []) ++ p.after)) (length gs - t - n) e)
          (omega (arith, length-append run (x ∷ []), length-drop (length a - m) a))
          (subst (λ k. IsLastBroken rule (front ++ ((run ++ x ∷ []) ++ p.after)) k
          (length front + length (run ++ x ∷ []))) start here)),
    )

pub last_broken_is : (rule : DottedCircles) (gs : Glyphs) (t n : ℕ)
    → 0 < count_of_kind rule.broken_kind gs → t ≡ suffix_len (is_of_other_kind rule.broken_kind) gs
    → n ≡ suffix_len (has_byte (get_or gs (length gs - t - 1) default_glyph).syllable) (take (length gs - t) gs)
    → (t < length gs) × IsLastBroken rule gs (length gs - t - n) (length gs - t)
last_broken_is rule gs t n some t_is n_is = elim (last_pass (of_kind rule.broken_kind) gs) [
  | inl none ↦ search (arith, none_counted)
  | inr p ↦ search last_broken_at
]

pub last_broken_inside : (rule : DottedCircles) (gs : Glyphs) (t : ℕ)
    → 0 < count_of_kind rule.broken_kind gs → t ≡ suffix_len (is_of_other_kind rule.broken_kind) gs → t < length gs
last_broken_inside rule gs t some t_is =
    (last_broken_is rule gs t (suffix_len (has_byte (get_or gs (length gs - t - 1) default_glyph).syllable)
    (take (length gs - t) gs)) some t_is refl).0
