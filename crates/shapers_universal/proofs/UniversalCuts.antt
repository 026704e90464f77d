-- The set-up of syllables in the universal shaper cuts between two spans, masks of forms apart, and the flags by them.
use Rattle.std.proofs.Common.{ℕ, ◌-◌, ◌%◌, ◌/◌, ◌<◌, ◌≤◌, ◌≡◌, ◌^◌, ◌||◌, bit_and, bit_or, Bool, true, inl, inr, List, [], ◌∷◌, ◌++◌, map, length, take, drop, Option, None, Some, refl, sym, ◌∙◌, ap, subst, arith, length-append}
use Rattle.std.specs.Prelude.{All}
use Rattle.std.specs.Int.{bit_at}
use Rattle.std.specs.List.{flat_map}
use mir.Syntax.{w32}
use Rattle.std.proofs.lemmas.Bool.{cases_lt}
use Rattle.std.proofs.lemmas.List.{length-map, map-append, take-map, drop-map, take-append-drop}
use Rattle.std.proofs.lemmas.List.Concat.{flat_map-append}
use Rattle.std.proofs.lemmas.List.Elements.{All-append, All-drop, All-map, All-take}
use Rattle.std.proofs.lemmas.Simd.{map-map}
use Rattle.std.proofs.lemmas.Nat.{and_mod, and_or_apart, and_le_r, and_shr}
use Rattle.std.proofs.lemmas.Nat.Bits.{bit_at_above, bit_at_and, bit_at_not, bit_at_or, same_from_bits}
use Rattle.shapers_buffer.specs.Glyphs.{Glyph, Glyphs}
use Rattle.shapers_buffer.specs.declared.buffer.syllables.Span.{Span}
use Rattle.shapers_buffer.specs.Buffer.{Buffer}
use Rattle.shapers_buffer.specs.Glyph.{clusters, without_flags}
use Rattle.shapers_buffer.specs.GlyphFlags.{with_bits}
use Rattle.shapers_buffer.specs.Syllables.{spans_cover, syllables}
use Rattle.shapers_buffer.proofs.MappedLists.{map-seen}
use Rattle.shapers_syllabic.specs.declared.ot_shaper_syllabic.kinds.use_syllable.TheConstants.{BROKEN_CLUSTER}
use Rattle.shapers_base.specs.Map.{Map}
use Rattle.shapers_base.specs.declared.plan.PlanData.{PlanData}
use Rattle.shapers_base.specs.declared.plan.arabic.arabic_shape_plan_t.{arabic_shape_plan_t}
use Rattle.shapers_base.specs.declared.plan.breaks.BreakFlags.{BreakFlags}
use Rattle.shapers_base.specs.declared.plan.breaks.BreakFlags.TheVariants.{Sound}
use Rattle.shapers_clusters.proofs.FlagCalls.{without_flags-or}
use Rattle.shapers_syllabic.specs.Borders.{MeetAtBorder, SameButSerials, spans_setup, unnumbered}
use Rattle.shapers_syllabic.specs.ReorderingLaws.{with_mask_by}
use Rattle.shapers_syllabic.proofs.CircleLaws.{joined-syllables}
use Rattle.shapers_syllabic.proofs.Borders.{OfByte, SameEnds, border_by, ends-kept, syllables-append, syllables-mapped, syllables_cut}
use Rattle.shapers_syllabic.proofs.HiddenCuts.{same-by}
use Rattle.shapers_syllabic.proofs.Serials.{KeepsSame, pieces_same}
use Rattle.shapers_syllabic.proofs.SpanCuts.{spans_cut}
use Rattle.shapers_universal.specs.PlanData.{arabic_of, rphf_of}
use Rattle.shapers_universal.specs.UniversalCuts.{UniversalSetupCutsAtSpans, cut_view, flagless_for, formless_for}
use Rattle.shapers_universal.specs.UniversalSyllables.{all_forms, form_masks, formed, forms_flagged, in_forms, may_join, mask_between, rphf_len, syllables_setup, with_forms_flagged, with_forms_for, with_instead, with_rphf, with_syllable_masks}
use Rattle.shapers_universal.specs.declared.ot_shaper_use.forms.FormMasks.{FormMasks}
use Rattle.shapers_universal.proofs.TornPairs.{map-forms_flagged}

-- bits among those that are hidden don't show
bit_hidden : (y bits i : ℕ) → bit_at y i ≤ bit_at bits i → bits < 2 ^ 32 → bit_at (bit_and y (0xFFFFFFFF - bits)) i
    ≡ bit_at 0 i
bit_hidden y bits i among fits = elim (cases_lt i 32) [
  | inl low ↦
      search (arith, bit_at_and y (0xFFFFFFFF - bits) i, bit_at_not w32 bits i fits low)
  | inr high ↦
      search (arith, bit_at_and y (0xFFFFFFFF - bits) i, bit_at_above (0xFFFFFFFF - bits) 32 i (omega arith) high)
]

hidden : (y bits : ℕ) → ((i : ℕ) → bit_at y i ≤ bit_at bits i) → bit_and y (0xFFFFFFFF - bits) ≡ 0
hidden y bits among = elim (cases_lt bits (2 ^ 32)) [
  | inl fits ↦ search (same_from_bits, bit_hidden)
  | inr over ↦
      search (arith, and_le_r)
]

-- so for the mask of a form
form_among : (masks : FormMasks) (before behind : Bool) (i : ℕ) → bit_at (mask_between masks before behind) i
    ≤ bit_at (all_forms masks) i
form_among masks before behind i =
    let front = bit_at_or masks.isol masks.init i in
    let back = bit_at_or masks.medi masks.fina i in
    let both = bit_at_or (bit_or masks.isol masks.init) (bit_or masks.medi masks.fina) i in
    search arith

bits_left : (bits mask n : ℕ) → bit_and mask (0xFFFFFFFF - bits) ≡ 0
    → bit_and (bit_or (bit_and n (0xFFFFFFFF - bits)) mask) (0xFFFFFFFF - bits) ≡ bit_and n (0xFFFFFFFF - bits)
bits_left bits mask n apart =
    let k = 0xFFFFFFFF - bits in
    and_or_apart k (bit_and n k) mask apart
    ∙ same_from_bits (bit_and (bit_and n k) k) (bit_and n k) (λ i. search (arith, bit_at_and))

-- glyphs in their form don't show it
formed_hidden : (m : Map) (before behind : Bool) (gs : Glyphs) → map (formless_for None m)
    (map (with_instead (all_forms (form_masks m)) (mask_between (form_masks m) before behind)) gs)
    ≡ map (formless_for None m) gs
formed_hidden m before behind [] = refl
formed_hidden m before behind (g ∷ gs) =
    let bits = all_forms (form_masks m) in
    let mask = mask_between (form_masks m) before behind in
    cc (
      bits_left bits mask g.mask (hidden mask bits (form_among (form_masks m) before behind)),
      formed_hidden m before behind gs,
    )

syllable_hidden : (m : Map) (before behind : Bool) (gs : Glyphs)
    → map (formless_for None m) (formed (form_masks m) before behind gs) ≡ map (formless_for None m) gs
syllable_hidden m before behind gs = search (arith, formed_hidden m before behind gs)

forms_hidden : (m : Map) (before : Bool) (syls : List Glyphs)
    → map (formless_for None m) (in_forms (form_masks m) before syls)
    ≡ map (formless_for None m) (flat_map (λ p. p) syls)
forms_hidden m before [] = refl
forms_hidden m before (syl ∷ syls) = search (map-append, syllable_hidden, forms_hidden m (may_join syl) syls)

masks_hidden : (arabic : Option arabic_shape_plan_t) (m : Map) (gs : Glyphs)
    → map (formless_for arabic m) (with_forms_for arabic m gs) ≡ map (formless_for arabic m) gs
masks_hidden (Some p) m gs = refl
masks_hidden None m gs = search (arith, forms_hidden, joined-syllables)

-- what is set on a syllable, masks of forms apart
set_on : Option arabic_shape_plan_t → Map → ℕ → Glyphs → Glyphs
set_on arabic m rphf gs = map (formless_for arabic m) (with_rphf rphf gs)

map-flat : (f : Glyph → Glyph) (h : Glyphs → Glyphs)
    (pieces : List Glyphs) → map f (flat_map h pieces) ≡ flat_map (λ p. map f (h p)) pieces
map-flat f h [] = refl
map-flat f h (p ∷ pieces) = search (map-append, map-flat f h pieces)

set_on_each : (arabic : Option arabic_shape_plan_t) (m : Map) (rphf : ℕ) (gs : Glyphs)
    → map (formless_for arabic m) (with_forms_for arabic m (flat_map (with_rphf rphf) (syllables gs)))
    ≡ flat_map (set_on arabic m rphf) (syllables gs)
unfolding set_on
set_on_each = search (masks_hidden, map-flat)

-- it keeps the bytes of syllables, and doesn't read serials
formless_keeps : (arabic : Option arabic_shape_plan_t) (m : Map) (byte : ℕ) (gs : Glyphs)
    → All (λ g. g.syllable ≡ byte) gs → All (λ g. g.syllable ≡ byte) (map (formless_for arabic m) gs)
formless_keeps (Some p) = search All-map
formless_keeps None = search All-map

rphf_keeps : (rphf byte : ℕ) (gs : Glyphs) → All (λ g. g.syllable ≡ byte) gs
    → All (λ g. g.syllable ≡ byte) (with_rphf rphf gs)
rphf_keeps = search (All-append, All-map, All-take, All-drop)

length-rphf : (rphf : ℕ) (gs : Glyphs) → length (with_rphf rphf gs) ≡ length gs
length-rphf rphf gs =
    let n = rphf_len gs in
    cc (
      length-append (map (with_bits rphf) (take n gs)) (drop n gs),
      length-map (take n gs) (with_bits rphf),
      length-append (take n gs) (drop n gs),
      take-append-drop n gs,
    )

set_on_keeps : (arabic : Option arabic_shape_plan_t) (m : Map) (rphf byte : ℕ) (gs : Glyphs)
    → OfByte byte gs → OfByte byte (set_on arabic m rphf gs)
unfolding set_on
set_on_keeps arabic m rphf byte gs h = search (length-map, length-rphf, formless_keeps, rphf_keeps)

formless_same : (arabic : Option arabic_shape_plan_t) (m : Map) (gs : Glyphs)
    → map unnumbered (map (formless_for arabic m) gs) ≡ map (formless_for arabic m) (map unnumbered gs)
formless_same arabic m [] = refl
formless_same (Some p) m (g ∷ gs) = cc (formless_same (Some p) m gs)
formless_same None m (g ∷ gs) = cc (formless_same None m gs)

len_same : (gs : Glyphs) → rphf_len (map unnumbered gs) ≡ rphf_len gs
len_same [] = refl
len_same (g ∷ gs) = search (arith, length-map)

rphf_same : (rphf : ℕ) (gs : Glyphs) → map unnumbered (with_rphf rphf gs) ≡ with_rphf rphf (map unnumbered gs)
rphf_same = search (map-append, map-seen, take-map, drop-map, len_same)

set_on_same : (arabic : Option arabic_shape_plan_t) (m : Map) (rphf : ℕ) → KeepsSame (set_on arabic m rphf)
unfolding set_on
set_on_same arabic m rphf gs hs same =
    let told : (xs : Glyphs) → map unnumbered (map (formless_for arabic m) (with_rphf rphf xs)) ≡ map
    (formless_for arabic m) (with_rphf rphf (map unnumbered xs)) = λ xs.
    formless_same arabic m (with_rphf rphf xs) ∙ ap (map (formless_for arabic m)) (rphf_same rphf xs) in
    cc (told gs, told hs)

-- masks change no cluster
clusters-formless : (arabic : Option arabic_shape_plan_t) (m : Map) (gs : Glyphs)
    → clusters (map (formless_for arabic m) gs) ≡ clusters gs
clusters-formless arabic m [] = refl
clusters-formless (Some p) m (g ∷ gs) = cc (clusters-formless (Some p) m gs)
clusters-formless None m (g ∷ gs) = cc (clusters-formless None m gs)

clusters-rphf : (rphf : ℕ) (gs : Glyphs) → clusters (with_rphf rphf gs) ≡ clusters gs
clusters-rphf rphf gs =
    let cluster : Glyph → ℕ = λ g. g.cluster in
    let n = rphf_len gs in
    cc (
      map-append cluster (map (with_bits rphf) (take n gs)) (drop n gs),
      map-map cluster (with_bits rphf) (take n gs),
      map-append cluster (take n gs) (drop n gs),
      take-append-drop n gs,
    )

clusters-flat : (f : Glyphs → Glyphs) → ((gs : Glyphs) → clusters (f gs) ≡ clusters gs) → (pieces : List Glyphs)
    → clusters (flat_map f pieces) ≡ clusters (flat_map (λ p. p) pieces)
clusters-flat f same [] = refl
clusters-flat f same (p ∷ pieces) = search (arith, map-append, clusters-flat f same pieces)

pub clusters-masks : (kept : PlanData) (m : Map) (gs : Glyphs) → clusters (with_syllable_masks kept m gs)
    ≡ clusters gs
clusters-masks kept m gs =
    let arabic = arabic_of kept in
    let f = with_rphf (rphf_of kept) in
    let masked = flat_map f (syllables gs) in
    cc (
      clusters-formless arabic m (with_forms_for arabic m masked),
      masks_hidden arabic m masked,
      clusters-formless arabic m masked,
      clusters-flat f (clusters-rphf (rphf_of kept)) (syllables gs),
      joined-syllables gs,
    )

-- the halves, before the choice flags anything: masks of forms apart
pub record FormlessHalves (kept : PlanData) (m : Map) (ss ts : List Span) (gs hs : Glyphs) (old new :
    Buffer) : Type 0 where
  pub behind : Glyphs
  pub parts : map (formless_for (arabic_of kept) m) new.glyphs
      ≡ map (formless_for (arabic_of kept) m) (syllables_setup kept m ss (record old { glyphs = gs })).glyphs ++ behind
  pub renumbered : SameButSerials behind (map (formless_for (arabic_of kept) m)
      (syllables_setup kept m ts (record old { glyphs = hs })).glyphs)
  pub border : MeetAtBorder (map (formless_for (arabic_of kept) m)
      (syllables_setup kept m ss (record old { glyphs = gs })).glyphs) behind
  pub broken : new.broken
      ≡ ((syllables_setup kept m ss (record old { glyphs = gs })).broken
      || (syllables_setup kept m ts (record old { glyphs = hs })).broken)

pub formless_cuts : (kept : PlanData) (m : Map) (spans : List Span) (old : Buffer)
    → All (λ span. span.kind ≤ 15) spans → (ss ts : List Span) (gs hs : Glyphs) → spans ≡ ss ++ ts
    → old.glyphs ≡ gs ++ hs → spans_cover (length gs) ss ≡ true → spans_cover (length hs) ts ≡ true
    → FormlessHalves kept m ss ts gs hs old (syllables_setup kept m spans old)
formless_cuts kept m spans old kinds ss ts gs hs whole text first second =
    let plain = spans_cut spans BROKEN_CLUSTER old kinds ss ts gs hs whole text first second in
    let f = set_on (arabic_of kept) m (rphf_of kept) in
    let told = set_on_each (arabic_of kept) m (rphf_of kept) in
    let front = (spans_setup ss BROKEN_CLUSTER (record old { glyphs = gs })).glyphs in
    let back = (spans_setup ts BROKEN_CLUSTER (record old { glyphs = hs })).glyphs in
    let keeps = set_on_keeps (arabic_of kept) m (rphf_of kept) in
    let ends : (xs : Glyphs) → SameEnds (flat_map f (syllables xs)) xs =
    λ xs. subst (SameEnds (flat_map f (syllables xs))) (joined-syllables xs)
    (ends-kept f keeps (syllables xs) (syllables_cut xs)) in
    record {
      behind = flat_map f (syllables plain.behind);
      parts = told (spans_setup spans BROKEN_CLUSTER old).glyphs ∙ ap (λ xs. flat_map f (syllables xs)) plain.parts
          ∙ ap (flat_map f) (syllables-append front plain.behind plain.border)
          ∙ flat_map-append f (syllables front) (syllables plain.behind)
          ∙ ap (λ l. l ++ flat_map f (syllables plain.behind)) (sym (told front));
      renumbered = ap (map (map unnumbered)) (syllables-mapped f keeps plain.behind)
          ∙ pieces_same f (set_on_same (arabic_of kept) m (rphf_of kept)) (syllables plain.behind) (syllables back)
          plain.renumbered ∙ ap (map (map unnumbered)) (sym (ap syllables (told back) ∙ syllables-mapped f keeps back));
      border = subst (λ l. MeetAtBorder l (flat_map f (syllables plain.behind))) (sym (told front))
          (border_by (flat_map f (syllables front)) (flat_map f (syllables plain.behind)) front plain.behind
          (ends front) (ends plain.behind) plain.border);
      broken = plain.broken;
    }

-- a mask without flags and without other bits
pub flags-and : (a b : ℕ) → without_flags (bit_and a b) ≡ bit_and (without_flags a) b
flags-and a b =
    let y = bit_and (without_flags a) b in
    let zero : without_flags a % 8 ≡ 0 = omega arith in
    let none : y % 8 ≡ 0 = cc (and_mod (without_flags a) b 3) in
    let front : without_flags a / 8 ≡ a / 8 = omega arith in
    let same : (bit_and a b) / 8 ≡ y / 8 = cc (and_shr a b 3, and_shr (without_flags a) b 3) in
    omega arith

-- what the choice flags doesn't show
flags_hidden : (arabic : Option arabic_shape_plan_t) (breaks : BreakFlags) (m : Map) (gs : Glyphs)
    → map (λ g. with_mask_by (flagless_for arabic breaks) (formless_for arabic m g)) (forms_flagged arabic breaks m gs)
    ≡ map (λ g. with_mask_by (flagless_for arabic breaks) (formless_for arabic m g)) gs
flags_hidden None Sound m gs = search (map-forms_flagged, flags-and, without_flags-or)
flags_hidden _ _ m gs = refl

view_by : (breaks : BreakFlags) (kept : PlanData) (m : Map) (gs : Glyphs)
    → map (cut_view breaks kept m) (forms_flagged (arabic_of kept) breaks m gs)
    ≡ map (with_mask_by (flagless_for (arabic_of kept) breaks)) (map (formless_for (arabic_of kept) m) gs)
view_by = search (flags_hidden, map-map)

pub universal_setup_cuts : (breaks : BreakFlags) (kept : PlanData) (m : Map) (spans : List Span) (old : Buffer)
    → All (λ span. span.kind ≤ 15) spans → UniversalSetupCutsAtSpans breaks kept m spans old
    (with_forms_flagged breaks kept m (syllables_setup kept m spans old))
universal_setup_cuts breaks kept m spans old kinds ss ts gs hs whole text first second =
    let cut = formless_cuts kept m spans old kinds ss ts gs hs whole text first second in
    let f = flagless_for (arabic_of kept) breaks in
    let hide = with_mask_by f in
    let formless = formless_for (arabic_of kept) m in
    let front = (syllables_setup kept m ss (record old { glyphs = gs })).glyphs in
    let back = (syllables_setup kept m ts (record old { glyphs = hs })).glyphs in
    let shown = view_by breaks kept m in
    record {
      behind = map hide cut.behind;
      parts = shown ((syllables_setup kept m spans old).glyphs) ∙ ap (map hide) cut.parts
          ∙ map-append hide (map formless front) cut.behind ∙ ap (λ l. l ++ map hide cut.behind) (sym (shown front));
      renumbered = subst (SameButSerials (map hide cut.behind)) (sym (shown back))
          (same-by f cut.behind (map formless back) cut.renumbered);
      border = subst (λ l. MeetAtBorder l (map hide cut.behind)) (sym (shown front))
          (search (arith, length-map, map-map));
      broken = cut.broken;
    }
