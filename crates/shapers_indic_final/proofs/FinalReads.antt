-- What the final reordering reads of glyphs: neither clusters nor syllables' bytes, and of masks
-- the bits of pref alone. A view that keeps the rest shows the same.
use Rattle.std.proofs.Common.{arith}
use mathlib.Core.Path.{fun_ext}
use Rattle.std.proofs.Common.{ℕ, zero, suc, ◌+◌, ◌-◌, ◌≡◌, ◌==◌, ◌&&◌, not, Bool, true, false, if◌then◌else◌, List, [], ◌∷◌, ◌++◌, map, length, Option, None, Some, refl, sym, ◌∙◌, ap}
use Rattle.std.specs.Prelude.{bit_and, count_by, filter, nat_lt, unwrap_or, is_some}
use Rattle.std.specs.List.{prefix_len}
use Rattle.std.proofs.lemmas.List.{drop-map, length-map, map-append, take-map}
use Rattle.std.proofs.lemmas.List.Sums.{sum_by-cons}
use Rattle.shapers_buffer.specs.Glyphs.{Glyph, Glyphs}
use Rattle.shapers_buffer.specs.declared.buffer.tag.Script.{Script}
use Rattle.shapers_buffer.specs.Lists.{first_last}
use Rattle.shapers_buffer.specs.Glyph.{at_position}
use Rattle.shapers_buffer.specs.Clusters.{stretch_of, with_stretch}
use Rattle.shapers_buffer.proofs.MappedLists.{map-reverse}
use Rattle.shapers_base.specs.declared.font.GlyphId.{GlyphId}
use Rattle.shapers_base.specs.declared.plan.indic.RephPosition.{RephPosition}
use Rattle.shapers_base.specs.declared.plan.indic.RephPosition.TheVariants.{AfterMain, AfterSub}
use Rattle.shapers_base.specs.declared.plan.ot_category_t.TheConstants.{OT_ZWJ}
use Rattle.shapers_base.specs.declared.plan.ot_position_t.TheConstants.{POS_BASE_C, POS_SMVD}
use Rattle.shapers_clusters.specs.Steps.{Step}
use Rattle.shapers_indic.specs.Glyphs.{greatest_place, has_category, has_position, is_joiner, is_matra, least_place, passes}
use Rattle.shapers_indic_final.specs.FinalBase.{Based, along_links, as_linked, base_by_links, base_by_pref, before_halants, behind_halants, first_base, if_unformed, links_from, links_written, pref_place, found_base, stepped_back, unformed_pref, with_final_base, with_base_at, with_links, with_pref_base, with_viramas}
use Rattle.shapers_indic_final.specs.FinalGlyphs.{is_indic_halant, is_matra_or_halant, last_goes_first, recovered}
use Rattle.shapers_base.specs.Masks.{has_bits}
use Rattle.shapers_indic_final.specs.FinalMatras.{end_of_base, has_room, is_free_halant, is_left, matra_steps, matra_target, takes_matras, nearest_halant, partitioned, partition_steps, staying_steps, steps_before, with_matras}
use Rattle.shapers_indic_final.specs.FinalPref.{formed_pref, if_formed, moved_before, place_before_base, pref_step, pref_steps, pref_target, with_pref}
use Rattle.shapers_indic_final.specs.FinalReordering.{after_matras, after_reph, based, final_order, final_steps, steps_of_based, steps_of_pref}
use Rattle.shapers_indic_final.specs.FinalReph.{at_end, base_after_reph, behind_base, end_of_rephs, last_but_signs, begins_with_reph, reph_steps, reph_target, with_joiner, with_reph}
use Rattle.shapers_indic_final.specs.declared.ot_shaper_indic_final.rules.Rules.{Rules}
use Rattle.shapers_syllabic.proofs.Views.{View, seen_by, shown}
use Rattle.shapers_clusters.proofs.EqualArguments.{same_two, same_three}

-- the bits of a mask that show the same
abbrev pub KeepsMask : View → ℕ → Type 0
KeepsMask v bits = (m : ℕ) → bit_and (v.in_masks m) bits ≡ bit_and m bits

-- a test that shows the same
abbrev pub ReadsShown : View → (Glyph → Bool) → Type 0
ReadsShown v test = (g : Glyph) → test (shown v g) ≡ test g

pub length_stays : (v : View) (gs : Glyphs) → length (seen_by v gs) ≡ length gs
length_stays v gs = length-map gs (shown v)

pub passes_at : (v : View) (test : Glyph → Bool) → ReadsShown v test → (gs : Glyphs) (i : ℕ)
    → passes test (seen_by v gs) i ≡ passes test gs i
passes_at v test reads [] i = refl
passes_at v test reads (g ∷ gs) zero = reads g
passes_at v test reads (g ∷ gs) (suc i) = passes_at v test reads gs i

pub passes_stays : (v : View) (test : Glyph → Bool) → ReadsShown v test → (gs : Glyphs)
    → passes test (seen_by v gs) ≡ passes test gs
passes_stays v test reads gs = fun_ext (passes_at v test reads gs)

pub prefix_stays : (v : View) (test : Glyph → Bool) → ReadsShown v test → (gs : Glyphs)
    → prefix_len test (seen_by v gs) ≡ prefix_len test gs
prefix_stays v test reads [] = refl
prefix_stays v test reads (g ∷ gs) = search (arith, prefix_stays v test reads gs)

pub filter_stays : (v : View) (test : Glyph → Bool) → ReadsShown v test → (gs : Glyphs)
    → filter test (seen_by v gs) ≡ seen_by v (filter test gs)
filter_stays v test reads [] = refl
filter_stays v test reads (g ∷ gs) = search (arith, filter_stays v test reads gs)

-- a change of a stretch
abbrev pub KeepsShown : View → (Glyphs → Glyphs) → Type 0
KeepsShown v f = (xs : Glyphs) → seen_by v (f xs) ≡ f (seen_by v xs)

pub stretch_read : (v : View) (s e : ℕ) (gs : Glyphs) → stretch_of s e (seen_by v gs) ≡ seen_by v (stretch_of s e gs)
stretch_read = search (drop-map, take-map)

pub stretch_stays : (v : View) (f : Glyphs → Glyphs) → KeepsShown v f
    → (s e : ℕ) (gs : Glyphs) → seen_by v (with_stretch s e f gs) ≡ with_stretch s e f (seen_by v gs)
stretch_stays = search (arith, map-append, take-map, drop-map)

pub first_last_stays : (v : View) → KeepsShown v first_last
first_last_stays v [] = refl
first_last_stays v (x ∷ xs) = map-append (shown v) xs (x ∷ [])

pub last_first_stays : (v : View) → KeepsShown v last_goes_first
last_first_stays = search (map-reverse, first_last_stays)

-- viramas
pub recovered_stays : (v : View) (virama : Option GlyphId) (g : Glyph) → shown v (recovered virama g)
    ≡ recovered virama (shown v g)
recovered_stays v None g = refl
recovered_stays v (Some virama) g = search arith

pub viramas_stay : (v : View) (r : Rules) (gs : Glyphs) → seen_by v (with_viramas r gs)
    ≡ with_viramas r (seen_by v gs)
viramas_stay v r [] = refl
viramas_stay v r (g ∷ gs) = search (arith, viramas_stay v r gs)

-- the base by pref
pub first_stays : (v : View) (gs : Glyphs) → first_base (seen_by v gs) ≡ first_base gs
first_stays = search (passes_stays, length_stays)

pub pref_place_stays : (v : View) (pref : ℕ) → KeepsMask v pref → (base : ℕ) (gs : Glyphs)
    → pref_place pref base (seen_by v gs) ≡ pref_place pref base gs
pref_place_stays v pref kept base gs = same_two (λ t n. least_place t (base + 1) n)
    (passes_stays v (has_bits pref) (λ g. search arith) gs) (length_stays v gs)

pub if_unformed_stays : (v : View) (gs : Glyphs) (o : Option ℕ) → if_unformed (seen_by v gs) o ≡ if_unformed gs o
if_unformed_stays v gs None = refl
if_unformed_stays v gs (Some i) = search passes_at

pub unformed_stays : (v : View) (pref : ℕ) → KeepsMask v pref → (base : ℕ) (gs : Glyphs)
    → unformed_pref pref base (seen_by v gs) ≡ unformed_pref pref base gs
unformed_stays = search (if_unformed_stays, pref_place_stays)

pub behind_stays : (v : View) (gs : Glyphs) → behind_halants (seen_by v gs) ≡ behind_halants gs
behind_stays v gs = fun_ext (λ i. search (drop-map, prefix_stays))

pub by_pref_stays : (v : View) (pref : ℕ) → KeepsMask v pref → (base : ℕ) (gs : Glyphs)
    → base_by_pref pref base (seen_by v gs) ≡ base_by_pref pref base gs
by_pref_stays = search (behind_stays, unformed_stays)

pub positions_stay : (v : View) (p : ℕ) → KeepsShown v (map (at_position p))
positions_stay v p [] = refl
positions_stay v p (g ∷ gs) = cc (positions_stay v p gs)

pub pref_base_stays : (v : View) (pref : ℕ) → KeepsMask v pref → (base : ℕ) (gs : Glyphs)
    → seen_by v (with_pref_base pref base gs) ≡ with_pref_base pref base (seen_by v gs)
pref_base_stays v pref kept base gs =
    let k = base_by_pref pref base gs in
    search (
      arith,
      stretch_stays v (map (at_position POS_BASE_C)) (positions_stay v POS_BASE_C) k (k + 1) gs,
      same_two (λ (b : Bool) (i : ℕ). if b then with_base_at i (seen_by v gs) else seen_by v gs)
          (ap is_some (sym (unformed_stays v pref kept base gs))) (sym (by_pref_stays v pref kept base gs)),
    )

if_seen : (v : View) (b : Bool) (xs ys : Glyphs) → seen_by v (if b then xs else ys)
    ≡ (if b then seen_by v xs else seen_by v ys)
if_seen v true xs ys = refl
if_seen v false xs ys = refl

pub along_stays : (v : View) (halant : Bool) → KeepsShown v (along_links as_linked halant)
along_stays v false (g ∷ gs) = rw (if_seen, if_seen, along_stays v false gs, along_stays v true gs)
along_stays v true (g ∷ gs) = search (arith, along_stays v true gs, along_stays v false gs)
along_stays v _ [] = refl

pub links_stay : (v : View) (halant : Bool) (i : ℕ) (gs : Glyphs) → links_from halant i (seen_by v gs)
    ≡ links_from halant i gs
links_stay v false i (g ∷ gs) = search (links_stay v false (suc i) gs, links_stay v true (suc i) gs)
links_stay v true i (g ∷ gs) = search (links_stay v true (suc i) gs, links_stay v false (suc i) gs)
links_stay v _ i [] = refl

pub written_stays : (v : View) (base : ℕ) (gs : Glyphs) → seen_by v (links_written base gs)
    ≡ links_written base (seen_by v gs)
written_stays = search (map-append, take-map, along_stays, drop-map)

pub by_links_stays : (v : View) (script : Option Script) (base : ℕ) (gs : Glyphs)
    → base_by_links script base (seen_by v gs) ≡ base_by_links script base gs
by_links_stays = search (passes_stays, drop-map, links_stay)

-- and where it settles
pub back_stays : (v : View) (base : ℕ) (gs : Glyphs) → stepped_back base (seen_by v gs) ≡ stepped_back base gs
back_stays = search passes_at

pub halants_stay : (v : View) (base : ℕ) (gs : Glyphs) → before_halants base (seen_by v gs) ≡ before_halants base gs
halants_stay = search (length_stays, passes_stays)

pub settled_stays : (v : View) (base : ℕ) (gs : Glyphs) → found_base base (seen_by v gs) ≡ found_base base gs
settled_stays = search (arith, length_stays, passes_at)

abbrev pub base_seen : View → Based → Based
base_seen v b = record { glyphs = seen_by v b.glyphs; base = b.base; tries_pref = b.tries_pref }

abbrev made_of : Glyphs → ℕ → Bool → Based
made_of gs base tries = record { glyphs = gs; base = base; tries_pref = tries }

abbrev based_from : Rules → Option Script → ℕ → Glyphs → Based
based_from r script first gs =
    let k = base_by_pref r.pref first gs in
    let opened = with_pref_base r.pref first gs in
    let linked = with_links script k opened in
    made_of linked (found_base (stepped_back (base_by_links script k opened) linked) linked)
    (not (r.pref == 0) && not (is_some (unformed_pref r.pref first gs)))

pub based_from_stays : (v : View) (r : Rules) → KeepsMask v r.pref
    → (script : Option Script) (first : ℕ) (gs : Glyphs) → based_from r script first (seen_by v gs)
    ≡ base_seen v (based_from r script first gs)
based_from_stays = search (arith, by_pref_stays, pref_base_stays, written_stays, by_links_stays, back_stays, settled_stays, unformed_stays)

pub with_base_stays : (v : View) (r : Rules) → KeepsMask v r.pref → (script : Option Script) (gs : Glyphs)
    → with_final_base r script (seen_by v gs) ≡ base_seen v (with_final_base r script gs)
with_base_stays v r kept script gs = ap (λ n. based_from r script n (seen_by v gs)) (first_stays v gs)
    ∙ based_from_stays v r kept script (first_base gs) gs

pub based_stays : (v : View) (r : Rules) → KeepsMask v r.pref → (script : Option Script) (gs : Glyphs)
    → based r script (seen_by v gs) ≡ base_seen v (based r script gs)
based_stays v r kept script gs = cc (viramas_stay v r gs, with_base_stays v r kept script (with_viramas r gs))

-- left matras
pub nearest_stays : (v : View) (p : ℕ) (gs : Glyphs) → nearest_halant p (seen_by v gs) ≡ nearest_halant p gs
nearest_stays v p gs =
    same_two (λ (h t : ℕ → Bool). let i = unwrap_or (greatest_place t 0 (p + 1)) 0 in if h i then i else 0)
    (passes_stays v is_free_halant (λ g. refl) gs) (
    same_three (λ (a b c : ℕ → Bool). λ i. a i && not (b i && c (i + 1))) (passes_stays v is_matra_or_halant (λ g.
    refl) gs) (passes_stays v is_free_halant (λ g. refl) gs) (passes_stays v (has_category OT_ZWJ) (λ g. refl) gs))

pub target_stays : (v : View) (script : Option Script) (base : ℕ) (gs : Glyphs)
    → matra_target script base (seen_by v gs) ≡ matra_target script base gs
target_stays = search (length_stays, nearest_stays)

pub room_stays : (v : View) (base : ℕ) (gs : Glyphs) → has_room base (seen_by v gs) ≡ has_room base gs
room_stays v base gs = cc (length_stays v gs)

pub go_stays : (v : View) (p : ℕ) (gs : Glyphs) → takes_matras p (seen_by v gs) ≡ takes_matras p gs
go_stays = search passes_at

pub with_matras_stays : (v : View) (script : Option Script) (base : ℕ) (gs : Glyphs)
    → seen_by v (with_matras script base gs) ≡ with_matras script base (seen_by v gs)
with_matras_stays v script base gs =
    let p = matra_target script base gs in
    (elim (has_room base gs && takes_matras p gs) as (λ b. seen_by v (if b then with_stretch 0 (p + 1) (partitioned is_left)
    gs else gs) ≡ (if b then with_stretch 0 (p + 1) (partitioned is_left) (seen_by v gs) else seen_by v gs)) [
      | true ↦
          stretch_stays v (partitioned is_left) (search (map-append, filter_stays)) 0 (p + 1) gs
      | false ↦ refl
    ]) ∙ same_two
    (λ (q : ℕ) (b : Bool). if b then with_stretch 0 (q + 1) (partitioned is_left) (seen_by v gs) else seen_by v gs)
    (sym (target_stays v script base gs)) (search (room_stays, target_stays, go_stays))

pub parting_stays : (v : View) (p e : ℕ) (gs : Glyphs) → partition_steps p e (seen_by v gs) ≡ partition_steps p e gs
parting_stays = search (length_stays, passes_stays)

pub staying_stays : (v : View) (base : ℕ) (gs : Glyphs) → staying_steps base (seen_by v gs) ≡ staying_steps base gs
staying_stays = search (length_stays, passes_stays)

pub matra_steps_stay : (v : View) (script : Option Script) (base : ℕ) (gs : Glyphs)
    → matra_steps script base (seen_by v gs) ≡ matra_steps script base gs
matra_steps_stay v script base gs =
    let us = seen_by v gs in
    let p = matra_target script base gs in
    let ends : end_of_base base us ≡ end_of_base base gs = cc (length_stays v gs) in
    let before : steps_before script base us ≡ steps_before script base gs =
    cc (
      target_stays v script base gs,
      same_three (λ (b : Bool) (ps ss : List Step). if b then ps else ss) (go_stays v p gs)
          (ap (λ e. partition_steps p e us) ends ∙ parting_stays v p (end_of_base base gs) gs) (staying_stays v base gs),
    ) in
    search (arith, room_stays)

-- the reph
pub opens_stays : (v : View) (gs : Glyphs) → begins_with_reph (seen_by v gs) ≡ begins_with_reph gs
opens_stays v [] = refl
opens_stays v (g ∷ []) = refl
opens_stays v (g ∷ (h ∷ gs)) = refl

pub joined_stays : (v : View) (base : ℕ) (gs : Glyphs) → with_joiner base (seen_by v gs) ≡ with_joiner base gs
joined_stays v base gs = ap (λ (t : ℕ → Bool). λ h. if nat_lt (h + 1) base && t (h + 1) then h + 1 else h)
    (passes_stays v is_joiner (λ g. refl) gs)

pub last_stays : (v : View) (gs : Glyphs) → last_but_signs (seen_by v gs) ≡ last_but_signs gs
last_stays v gs = same_two (λ (t : ℕ → Bool) n. unwrap_or (greatest_place (λ i. not (t i)) 0 n) 0)
    (passes_stays v (has_position POS_SMVD) (λ g. refl) gs) (length_stays v gs)

pub count_stays : (v : View) (gs : Glyphs) → count_by is_matra (seen_by v gs) ≡ count_by is_matra gs
count_stays v [] = refl
count_stays v (g ∷ gs) = search (sum_by-cons, count_stays v gs)

pub at_end_stays : (v : View) (base : ℕ) (gs : Glyphs) → at_end base (seen_by v gs) ≡ at_end base gs
at_end_stays = search (arith, last_stays, passes_at, stretch_read, count_stays)

pub run_or_end_stays : (v : View) (test : Glyph → Bool) → ReadsShown v test → (base : ℕ) (gs : Glyphs)
    → (if nat_lt base (length (seen_by v gs)) then end_of_rephs test base (seen_by v gs) else at_end base (seen_by v gs))
    ≡ (if nat_lt base (length gs) then end_of_rephs test base gs else at_end base gs)
run_or_end_stays = search (arith, length_stays, drop-map, prefix_stays, at_end_stays)

pub behind_base_stays : (v : View) (position : RephPosition) (base : ℕ) (gs : Glyphs)
    → behind_base position base (seen_by v gs) ≡ behind_base position base gs
behind_base_stays v AfterMain base gs = search run_or_end_stays
behind_base_stays v AfterSub base gs = search run_or_end_stays
behind_base_stays v _ base gs = at_end_stays v base gs

pub reph_target_stays : (v : View) (position : RephPosition) (base : ℕ) (gs : Glyphs)
    → reph_target position base (seen_by v gs) ≡ reph_target position base gs
reph_target_stays = search (joined_stays, passes_stays, behind_base_stays)

pub with_reph_stays : (v : View) (position : RephPosition) (base : ℕ) (gs : Glyphs)
    → seen_by v (with_reph position base gs) ≡ with_reph position base (seen_by v gs)
with_reph_stays v position base gs = search (
  arith,
  stretch_stays v first_last (first_last_stays v) 0 ((reph_target position base gs) + 1) gs,
  same_two (λ (b : Bool) (k : ℕ). if b then with_stretch 0 (k + 1) first_last (seen_by v gs) else seen_by v gs)
      (sym (opens_stays v gs)) (sym (reph_target_stays v position base gs)),
)

pub base_after_stays : (v : View) (position : RephPosition) (base : ℕ) (gs : Glyphs)
    → base_after_reph position base (seen_by v gs) ≡ base_after_reph position base gs
base_after_stays = search (opens_stays, reph_target_stays)

pub reph_steps_stay : (v : View) (position : RephPosition) (base : ℕ) (gs : Glyphs)
    → reph_steps position base (seen_by v gs) ≡ reph_steps position base gs
reph_steps_stay = search (opens_stays, length_stays, reph_target_stays)

-- the pref glyph
pub if_formed_stays : (v : View) (gs : Glyphs) (o : Option ℕ) → if_formed (seen_by v gs) o ≡ if_formed gs o
if_formed_stays v gs None = refl
if_formed_stays v gs (Some i) = search passes_at

pub formed_stays : (v : View) (pref : ℕ) → KeepsMask v pref → (base : ℕ) (gs : Glyphs)
    → formed_pref pref base (seen_by v gs) ≡ formed_pref pref base gs
formed_stays = search (if_formed_stays, pref_place_stays)

pub before_base_stays : (v : View) (script : Option Script) (base : ℕ) (gs : Glyphs)
    → place_before_base script base (seen_by v gs) ≡ place_before_base script base gs
before_base_stays = search passes_stays

pub pref_target_stays : (v : View) (script : Option Script) (base : ℕ) (gs : Glyphs)
    → pref_target script base (seen_by v gs) ≡ pref_target script base gs
pref_target_stays v script base gs =
    same_two (λ (t : ℕ → Bool) (i : ℕ). if t i then i + 1 else i) (
    same_two (λ (a b : ℕ → Bool). λ i. nat_lt 0 i && a (i - 1) && b i) (passes_stays v is_indic_halant (λ g. refl) gs)
    (passes_stays v is_joiner (λ g. refl) gs)) (before_base_stays v script base gs)

pub moved_stays : (v : View) (j : ℕ) (o : Option ℕ) (gs : Glyphs) → seen_by v (moved_before j o gs)
    ≡ moved_before j o (seen_by v gs)
moved_stays v j None gs = refl
moved_stays v j (Some i) gs = search (stretch_stays, last_first_stays)

pub with_pref_stays : (v : View) (pref : ℕ) → KeepsMask v pref → (script : Option Script) (base : ℕ) (gs : Glyphs)
    → seen_by v (with_pref pref script base gs) ≡ with_pref pref script base (seen_by v gs)
with_pref_stays v pref kept script base gs = moved_stays v (pref_target script base gs) (formed_pref pref base gs) gs
    ∙ same_two (λ (j : ℕ) (o : Option ℕ). moved_before j o (seen_by v gs)) (sym (pref_target_stays v script base gs))
    (sym (formed_stays v pref kept base gs))

pub pref_steps_stay : (v : View) (pref : ℕ) → KeepsMask v pref → (script : Option Script) (base : ℕ) (gs : Glyphs)
    → pref_steps pref script base (seen_by v gs) ≡ pref_steps pref script base gs
pref_steps_stay v pref kept script base gs =
    same_three pref_step (length_stays v gs) (pref_target_stays v script base gs) (formed_stays v pref kept base gs)

-- all of them
pub matras_seen : (v : View) (r : Rules) (script : Option Script) (b : Based) → after_matras r script (base_seen v b)
    ≡ base_seen v (after_matras r script b)
matras_seen = search with_matras_stays

pub reph_seen : (v : View) (r : Rules) (b : Based) → after_reph r (base_seen v b) ≡ base_seen v (after_reph r b)
reph_seen = search (with_reph_stays, base_after_stays)

pub pref_steps_seen : (v : View) (r : Rules) → KeepsMask v r.pref → (script : Option Script) (b : Based)
    → steps_of_pref r script (base_seen v b) ≡ steps_of_pref r script b
pref_steps_seen = search pref_steps_stay

pub order_stays : (v : View) (r : Rules) → KeepsMask v r.pref → (script : Option Script) (gs : Glyphs)
    → seen_by v (final_order r script gs) ≡ final_order r script (seen_by v gs)
order_stays v r kept script gs =
    let b = based r script gs in
    let p = after_matras r script b in
    search (arith, based_stays v r kept script gs, matras_seen v r script b, reph_seen v r p, with_pref_stays)

pub final_steps_stay : (v : View) (r : Rules) → KeepsMask v r.pref → (script : Option Script) (gs : Glyphs)
    → final_steps r script (seen_by v gs) ≡ final_steps r script gs
final_steps_stay v r kept script gs = ap (steps_of_based r script) (based_stays v r kept script gs)
    ∙ (let p = after_matras r script (based r script gs) in let join : List Step → List Step → List Step = λ xs ys.
    xs ++ ys in same_two join (matra_steps_stay v script (based r script gs).base (based r script gs).glyphs)
    (same_two join (ap (λ (q : Based). reph_steps r.reph_pos q.base q.glyphs) (matras_seen v r script (based r script
    gs)) ∙ reph_steps_stay v r.reph_pos p.base p.glyphs) (ap (λ (q : Based). steps_of_pref r script (after_reph r q))
    (matras_seen v r script (based r script gs)) ∙ ap (steps_of_pref r script) (reph_seen v r p) ∙ pref_steps_seen v
    r kept script (after_reph r p))))
