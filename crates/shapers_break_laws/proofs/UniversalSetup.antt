-- The masks that the universal shaper sets on syllables leave clusters, bytes and flags.
use Rattle.std.proofs.Common.{ℕ, zero, suc, if◌then◌else◌, ◌-◌, ◌%◌, ◌<◌, ◌≤◌, ◌≡◌, ◌==◌, bit_and, Bool, true, false, List, [], ◌∷◌, ◌++◌, length, map, take, drop, refl, sym, ap, ◌∙◌, subst, arith, length-append, length-take, length-drop}
use Rattle.std.specs.Prelude.{Option, None, Some, get_or}
use Rattle.std.specs.List.{AllByRecursion, AllZip, flat_map}
use Rattle.std.proofs.lemmas.List.{take-append-drop}
use Rattle.std.proofs.lemmas.List.Elements.{All-from_get_or, All-get_or, AllZip-get_or}
use Rattle.std.proofs.lemmas.Nat.Bits.{bit_at_and, bit_at_or}
use Rattle.shapers_buffer.specs.Glyphs.{Glyph, Glyphs}
use Rattle.shapers_buffer.specs.declared.buffer.syllables.Span.{Span}
use Rattle.shapers_buffer.specs.Glyph.{clusters, default_glyph}
use Rattle.shapers_buffer.specs.GlyphFlags.{with_bits}
use Rattle.shapers_buffer.specs.Syllables.{kind_of, syllables, with_in_front}
use Rattle.shapers_base.specs.Map.{Map}
use Rattle.shapers_base.specs.declared.plan.PlanData.{PlanData}
use Rattle.shapers_base.specs.declared.plan.arabic.arabic_shape_plan_t.{arabic_shape_plan_t}
use Rattle.shapers_base.specs.declared.plan.breaks.BreakFlags.{BreakFlags}
use Rattle.shapers_clusters.specs.FlagLaw.{OnlyFlagsAdded}
use Rattle.shapers_clusters.specs.Flags.{bit_at}
use Rattle.shapers_clusters.proofs.Falls.{all_append}
use Rattle.shapers_syllabic.specs.Circles.{circle_in, is_of_kind, rephas_len, with_circle}
use Rattle.shapers_syllabic.specs.declared.ot_shaper_syllabic.circles.DottedCircles.{DottedCircles}
use Rattle.shapers_syllabic.proofs.CircleLaws.{joined-syllables}
use Rattle.shapers_universal.specs.PlanData.{arabic_of, rphf_of}
use Rattle.shapers_universal.specs.UniversalSyllables.{all_forms, first_joins, form_masks, formed, forms_flagged, in_forms, may_join, mask_between, rphf_len, with_forms_for, with_instead, with_rphf, with_syllable_masks}
use Rattle.shapers_universal.proofs.TornPairs.{forms_flagged_added, map-forms_flagged}
use Rattle.shapers_break_laws.specs.ScriptBreaks.{FormsOffFlags}
use Rattle.shapers_break_laws.specs.Setup.{IsFlagged}
use Rattle.shapers_break_laws.proofs.CircledBorders.{opened_piece}
use Rattle.shapers_break_laws.proofs.Guarded.{IsWhole, LeastOrFlagged}
use Rattle.shapers_break_laws.proofs.Setup.{AllAsLong, IsGuarded}

-- cluster and byte stay, and both flags
pub record KeepsShape (g h : Glyph) : Type 0 where
  pub cluster : h.cluster ≡ g.cluster
  pub byte : h.syllable ≡ g.syllable
  pub flags : IsFlagged g → IsFlagged h

abbrev pub KeepShapes : Glyphs → Glyphs → Type 0
KeepShapes gs hs = AllZip KeepsShape gs hs

kept_same : (g : Glyph) → KeepsShape g g
kept_same g = record { cluster = refl; byte = refl; flags = λ f. f }

all_same : (gs : Glyphs) → KeepShapes gs gs
all_same [] = tt
all_same (g ∷ gs) = (kept_same g, all_same gs)

kept_on : (g h i : Glyph) → KeepsShape g h → KeepsShape h i → KeepsShape g i
kept_on g h i a b = record { cluster = b.cluster ∙ a.cluster; byte = b.byte ∙ a.byte; flags = λ f. b.flags (a.flags f) }

all_on : (gs hs is : Glyphs) → KeepShapes gs hs → KeepShapes hs is → KeepShapes gs is
all_on [] [] [] a b = tt
all_on [] [] (i ∷ is) a b = absurd b
all_on [] (h ∷ hs) is a b = absurd a
all_on (g ∷ gs) [] is a b = absurd a
all_on (g ∷ gs) (h ∷ hs) [] a b = absurd b
all_on (g ∷ gs) (h ∷ hs) (i ∷ is) a b = (kept_on g h i a.0 b.0, all_on gs hs is a.1 b.1)

-- masks
bits_kept : (bits : ℕ) (g : Glyph) → KeepsShape g (with_bits bits g)
bits_kept bits g = record {
  cluster = refl;
  byte = refl;
  flags = λ f.
      let a : bit_at 0 bits ≤ 1 = omega arith in
      let b : bit_at 1 bits ≤ 1 = omega arith in
      (omega (arith, bit_at_or g.mask bits 0, f.0, a), omega (arith, bit_at_or g.mask bits 1, f.1, b));
}

instead_kept : (bits mask : ℕ) → bits % 8 ≡ 0 → bits ≤ 0xFFFFFFFF → (g : Glyph) → KeepsShape g
    (with_instead bits mask g)
instead_kept bits mask off fits g =
    let k = 0xFFFFFFFF - bits in
    let left = bit_and g.mask k in
    let low : k % 8 ≡ 7 = omega arith in
    let k0 : bit_at 0 k ≡ 1 = omega arith in
    let k1 : bit_at 1 k ≡ 1 = omega arith in
    record {
      cluster = refl;
      byte = refl;
      flags = λ f.
          let a : bit_at 0 mask ≤ 1 = omega arith in
          let b : bit_at 1 mask ≤ 1 = omega arith in (
            omega (arith, bit_at_or left mask 0, bit_at_and g.mask k 0, f.0, a, k0),
            omega
                (arith, bit_at_or left mask 1, bit_at_and g.mask k 1, f.1, b, k1),
          );
    }

mapped_kept : (f : Glyph → Glyph) → ((g : Glyph) → KeepsShape g (f g)) → (gs : Glyphs)
    → KeepShapes gs (map f gs)
mapped_kept f each [] = tt
mapped_kept f each (g ∷ gs) = (each g, mapped_kept f each gs)

formed_kept : (m : Map) (before behind : Bool) → FormsOffFlags None m → (gs : Glyphs) → KeepShapes gs
    (formed (form_masks m) before behind gs)
formed_kept m before behind off gs =
    let masks = form_masks m in
    let bits = all_forms masks in
    let mask = mask_between masks before behind in
    elim (may_join gs) as (λ b. KeepShapes gs (if b then map (with_instead bits mask) gs else gs)) [
      | true ↦ mapped_kept (with_instead bits mask) (instead_kept bits mask off.0 off.1) gs
      | false ↦ all_same gs
    ]

forms_kept : (m : Map) (before : Bool) → FormsOffFlags None m → (syls : List Glyphs) → KeepShapes
    (flat_map (λ syl. syl) syls) (in_forms (form_masks m) before syls)
forms_kept m before off [] = tt
forms_kept m before off (syl ∷ syls) =
    let masks = form_masks m in
    all_append KeepsShape syl (formed masks before (first_joins syls) syl) (flat_map (λ s. s) syls)
    (in_forms masks (may_join syl) syls)
    (formed_kept m before (first_joins syls) off syl) (forms_kept m (may_join syl) off syls)

pub forms_for_kept : (arabic : Option arabic_shape_plan_t) (m : Map) → FormsOffFlags arabic m → (gs : Glyphs)
    → KeepShapes gs (with_forms_for arabic m gs)
forms_for_kept (Some p) m off gs = all_same gs
forms_for_kept None m off gs =
    let masks = form_masks m in
    let all = subst (λ xs. KeepShapes xs (in_forms masks false (syllables gs))) (joined-syllables gs)
    (forms_kept m false off (syllables gs)) in
    elim (all_forms masks == 0) as (λ b. KeepShapes gs
    (if b then gs else in_forms masks false (syllables gs))) [ true ↦ all_same gs | false ↦ all ]

rphf_kept : (mask : ℕ) (gs : Glyphs) → KeepShapes gs (with_rphf mask gs)
rphf_kept mask gs =
    let n = rphf_len gs in
    subst (λ xs. KeepShapes xs (map (with_bits mask) (take n gs) ++ drop n gs)) (take-append-drop n gs)
    (all_append KeepsShape (take n gs) (map (with_bits mask) (take n gs)) (drop n gs) (drop n gs)
    (mapped_kept (with_bits mask) (bits_kept mask) (take n gs)) (all_same (drop n gs)))

pub rphfs_kept : (mask : ℕ) (syls : List Glyphs) → KeepShapes (flat_map (λ syl. syl) syls) (flat_map (with_rphf mask) syls)
rphfs_kept mask [] = tt
rphfs_kept mask (syl ∷ syls) = all_append KeepsShape syl (with_rphf mask syl) (flat_map (λ s. s) syls)
    (flat_map (with_rphf mask) syls) (rphf_kept mask syl) (rphfs_kept mask syls)

pub setup_kept : (kept : PlanData) (m : Map) → FormsOffFlags (arabic_of kept) m → (gs : Glyphs) → KeepShapes gs
    (with_syllable_masks kept m gs)
setup_kept kept m off gs =
    let mid = flat_map (with_rphf (rphf_of kept)) (syllables gs) in
    let first = subst (λ xs. KeepShapes xs mid) (joined-syllables gs) (rphfs_kept (rphf_of kept) (syllables gs)) in
    all_on gs mid (with_syllable_masks kept m gs) first (forms_for_kept (arabic_of kept) m off mid)

-- and so what the choice flags
added_kept : (gs hs : Glyphs) → OnlyFlagsAdded gs hs → map (λ g. g.syllable) hs ≡ map (λ g. g.syllable) gs
    → KeepShapes gs hs
added_kept [] [] added bytes = tt
added_kept [] (h ∷ hs) added bytes = absurd added
added_kept (g ∷ gs) [] added bytes = absurd added
added_kept (g ∷ gs) (h ∷ hs) added bytes = (
  record {
    cluster = added.0.same;
    byte = ap (λ (bs : List ℕ). get_or bs 0 0) bytes;
    flags = λ f.
        let a : bit_at 0 h.mask ≤ 1 = omega arith in
        let b : bit_at 1 h.mask ≤ 1 = omega arith in
        (omega (arith, added.0.kept 0 (omega arith), f.0, a), omega (arith, added.0.kept 1 (omega arith), f.1, b));
  },
  added_kept gs hs added.1 (ap (λ (bs : List ℕ). drop 1 bs) bytes),
)

pub flagged_kept : (breaks : BreakFlags) (kept : PlanData) (m : Map) → FormsOffFlags (arabic_of kept) m → (gs : Glyphs)
    → KeepShapes gs (forms_flagged (arabic_of kept) breaks m (with_syllable_masks kept m gs))
flagged_kept breaks kept m off gs =
    let masked = with_syllable_masks kept m gs in
    let flagged = forms_flagged (arabic_of kept) breaks m masked in
    all_on gs masked flagged (setup_kept kept m off gs)
    (added_kept masked flagged (forms_flagged_added (arabic_of kept) breaks m masked)
    (map-forms_flagged (λ g. g.syllable) (λ g. refl) (arabic_of kept) breaks m masked))

-- clusters and syllables
pub clusters_kept : (gs hs : Glyphs) → KeepShapes gs hs → clusters hs ≡ clusters gs
clusters_kept [] [] h = refl
clusters_kept [] (x ∷ xs) h = absurd h
clusters_kept (g ∷ gs) [] h = absurd h
clusters_kept (g ∷ gs) (x ∷ xs) h = ap (λ (c : ℕ). c ∷ clusters xs) h.0.cluster ∙ ap (λ cs. g.cluster ∷ cs)
    (clusters_kept gs xs h.1)

pub long_kept : (gs hs : Glyphs) → KeepShapes gs hs → length hs ≡ length gs
long_kept [] [] h = refl
long_kept [] (x ∷ xs) h = absurd h
long_kept (g ∷ gs) [] h = absurd h
long_kept (g ∷ gs) (x ∷ xs) h = ap (λ n. suc n) (long_kept gs xs h.1)

abbrev pub KeepPieces : List Glyphs → List Glyphs → Type 0
KeepPieces ps qs = AllZip KeepShapes ps qs

opening_kept : (g h : Glyph) (ps qs : List Glyphs) → KeepsShape g h → KeepPieces ps qs → KeepPieces
    (with_in_front g ps) (with_in_front h qs)
opening_kept g h [] [] r k = ((r, tt), tt)
opening_kept g h [] (q ∷ qs) r k = absurd k
opening_kept g h (p ∷ ps) [] r k = absurd k
opening_kept g h ([] ∷ ps) ([] ∷ qs) r k = ((r, tt), k.1)
opening_kept g h ([] ∷ ps) ((y ∷ q) ∷ qs) r k = absurd k.0
opening_kept g h ((x ∷ p) ∷ ps) ([] ∷ qs) r k = absurd k.0
opening_kept g h ((x ∷ p) ∷ ps) ((y ∷ q) ∷ qs) r k =
    let same : (y.syllable == h.syllable) ≡ (x.syllable == g.syllable) = ap (λ b. b == h.syllable) k.0.0.byte ∙ ap
    (λ b. x.syllable == b) r.byte in
    let go : (b : Bool) → KeepPieces (if b then (g ∷ (x ∷ p)) ∷ ps else (g ∷ []) ∷ ((x ∷ p) ∷ ps))
    (if b then (h ∷ (y ∷ q)) ∷ qs else (h ∷ []) ∷ ((y ∷ q) ∷ qs)) = λ b. elim b as
    (λ b. KeepPieces (if b then (g ∷ (x ∷ p)) ∷ ps else (g ∷ []) ∷ ((x ∷ p) ∷ ps))
    (if b then (h ∷ (y ∷ q)) ∷ qs else (h ∷ []) ∷ ((y ∷ q) ∷ qs))) [
      | true ↦ ((r, k.0), k.1)
      | false ↦ ((r, tt), k)
    ] in
    subst (λ b. KeepPieces (with_in_front g ((x ∷ p) ∷ ps))
    (if b then (h ∷ (y ∷ q)) ∷ qs else (h ∷ []) ∷ ((y ∷ q) ∷ qs))) (sym same) (go (x.syllable == g.syllable))

pub syllables_kept : (gs hs : Glyphs) → KeepShapes gs hs → KeepPieces (syllables gs) (syllables hs)
syllables_kept [] [] h = tt
syllables_kept [] (x ∷ xs) h = absurd h
syllables_kept (g ∷ gs) [] h = absurd h
syllables_kept (g ∷ gs) (x ∷ xs) h = opening_kept g x (syllables gs) (syllables xs) h.0 (syllables_kept gs xs h.1)

-- so texts stay without a break inside spans
whole_kept : (p q : Glyphs) → KeepShapes p q → IsWhole p → IsWhole q
whole_kept p q k h =
    let d = default_glyph in (
      h.0,
      All-from_get_or (LeastOrFlagged h.0) q d (λ i l.
          let il : i < length p = omega (arith, long_kept p q k, l) in
          let r = AllZip-get_or KeepsShape p q i d d k il in
          let o = All-get_or (LeastOrFlagged h.0) p i d il h.1 in
          (omega (arith, o.0, r.cluster), λ ne. r.flags (o.1 (λ e. ne (r.cluster ∙ e))))),
    )

pieces_whole : (ps qs : List Glyphs) → KeepPieces ps qs → AllByRecursion IsWhole ps → AllByRecursion IsWhole qs
pieces_whole [] [] k h = tt
pieces_whole [] (q ∷ qs) k h = absurd k
pieces_whole (p ∷ ps) [] k h = absurd k
pieces_whole (p ∷ ps) (q ∷ qs) k h = (whole_kept p q k.0 h.0, pieces_whole ps qs k.1 h.1)

pieces_long : (ps qs : List Glyphs) (spans : List Span) → KeepPieces ps qs → AllAsLong ps spans → AllAsLong qs spans
pieces_long [] [] [] k h = tt
pieces_long [] [] (s ∷ ss) k h = absurd h
pieces_long [] (q ∷ qs) spans k h = absurd k
pieces_long (p ∷ ps) [] spans k h = absurd k
pieces_long (p ∷ ps) (q ∷ qs) [] k h = absurd h
pieces_long (p ∷ ps) (q ∷ qs) (s ∷ ss) k h = (long_kept p q k.0 ∙ h.0, pieces_long ps qs ss k.1 h.1)

pub guarded_kept : (spans : List Span) (gs hs : Glyphs) → KeepShapes gs hs → IsGuarded spans gs → IsGuarded spans hs
guarded_kept spans gs hs k h =
    let pieces = syllables_kept gs hs k in
    record {
      as_long = pieces_long (syllables gs) (syllables hs) spans pieces h.as_long;
      whole = pieces_whole (syllables gs) (syllables hs) pieces h.whole;
    }

-- with circles they are as long
kind_kept : (k : ℕ) (p q : Glyphs) → KeepShapes p q → is_of_kind k q ≡ is_of_kind k p
kind_kept k [] [] h = refl
kind_kept k [] (y ∷ q) h = absurd h
kind_kept k (x ∷ p) [] h = absurd h
kind_kept k (x ∷ p) (y ∷ q) h = ap (λ b. kind_of b == k) h.0.byte

length-with_circle : (rule : DottedCircles) (p : Glyphs) → length (with_circle rule p) ≡ suc (length p)
length-with_circle rule p =
    let n = rephas_len rule.repha p in
    length-append (take n p) (circle_in p rule.circle ∷ drop n p) ∙ omega (arith, length-take n p, length-drop n p)

length-opened : (circles : Option DottedCircles) (p q : Glyphs) → KeepShapes p q → length (opened_piece circles q)
    ≡ length
    (opened_piece circles p)
length-opened None p q h = long_kept p q h
length-opened (Some rule) p q h =
    let n = long_kept p q h in
    let go : (b : Bool) → length (if b then with_circle rule q else q) ≡ length
    (if b then with_circle rule p else p) = λ b. elim b as
    (λ b. length (if b then with_circle rule q else q) ≡ length (if b then with_circle rule p else p)) [
      | true ↦ length-with_circle rule q ∙ ap (λ k. suc k) n ∙ sym (length-with_circle rule p)
      | false ↦ n
    ] in
    ap (λ b. length (if b then with_circle rule q else q)) (kind_kept rule.broken_kind p q h) ∙ go
    (is_of_kind rule.broken_kind p)

pub length-all_opened : (circles : Option DottedCircles) (ps qs : List Glyphs) → KeepPieces ps qs → length
    (flat_map (opened_piece circles) qs) ≡ length (flat_map (opened_piece circles) ps)
length-all_opened circles [] [] h = refl
length-all_opened circles [] (q ∷ qs) h = absurd h
length-all_opened circles (p ∷ ps) [] h = absurd h
length-all_opened circles (p ∷ ps) (q ∷ qs) h =
    let F = opened_piece circles in
    length-append (F q) (flat_map F qs) ∙ omega
    (arith, length-opened circles p q h.0, length-all_opened circles ps qs h.1) ∙ sym
    (length-append (F p) (flat_map F ps))

pub taken_kept : (k : ℕ) (ps qs : List Glyphs) → KeepPieces ps qs → KeepPieces (take k ps) (take k qs)
taken_kept zero ps qs h = tt
taken_kept (suc k) [] [] h = tt
taken_kept (suc k) [] (q ∷ qs) h = absurd h
taken_kept (suc k) (p ∷ ps) [] h = absurd h
taken_kept (suc k) (p ∷ ps) (q ∷ qs) h = (h.0, taken_kept k ps qs h.1)
