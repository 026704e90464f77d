-- The parts of the final reordering of a syllable, one after another.
use Rattle.shapers_indic_final.proofs.FinalReads.{viramas_stay}
use Rattle.shapers_syllabic.proofs.Views.{plain_view}
use Rattle.std.proofs.Common.{◌≡◌, ℕ, ◌-◌, ◌%◌, ◌≤◌, Bool, true, false, if◌then◌else◌, List, [], ◌++◌, length, map, take, drop, refl, sym, ap, subst, ◌∙◌, arith, Option, None, Some, length-take-le, length-drop}
use Rattle.std.proofs.lemmas.List.{length-map}
use Rattle.shapers_base.specs.declared.font.GlyphId.{GlyphId}
use Rattle.shapers_buffer.specs.Glyphs.{Glyph, Glyphs}
use Rattle.shapers_buffer.specs.declared.buffer.tag.Script.{Script}
use Rattle.shapers_buffer.specs.Buffer.{Buffer, but_places}
use Rattle.shapers_buffer.specs.Clusters.{stretch_of, with_stretch}
use Rattle.shapers_buffer.specs.Glyph.{order_view, plain}
use Rattle.shapers_buffer.proofs.ClusterLemmas.{length-stretch, map-stretch}
use Rattle.shapers_clusters.specs.Steps.{Step, after_steps, widened}
use Rattle.shapers_clusters.proofs.ViewedSteps.{length-same}
use Rattle.shapers_clusters.proofs.Widened.{order_view-widened}
use Rattle.shapers_indic_final.specs.FinalBase.{Based, with_final_base, with_viramas}
use Rattle.shapers_indic_final.specs.FinalGlyphs.{is_lost_virama, recovered}
use Rattle.shapers_indic_final.specs.FinalMatras.{matra_steps, with_matras}
use Rattle.shapers_indic_final.specs.FinalPref.{pref_steps, with_pref}
use Rattle.shapers_indic_final.specs.FinalReordering.{based, final_order, final_steps}
use Rattle.shapers_indic_final.specs.FinalReph.{base_after_reph, reph_steps, with_reph}
use Rattle.shapers_indic_final.specs.FinalWalk.{with_base_found}
use Rattle.shapers_indic_final.specs.declared.ot_shaper_indic_final.rules.Rules.{Rules}
use Rattle.shapers_indic_final.specs.Proved.FinalHidden.{base_within, hidden-based, hidden-viramas}
use Rattle.shapers_indic_final.specs.Proved.FinalLaws.{matras_at, pref_at, reph_at}
use Rattle.shapers_indic_final.specs.Proved.FinalLawsAt.{LawsAt, length_at}
use Rattle.shapers_indic_final.proofs.FinalPlain.{TouchesNoFlag, base_after_reph_plain, base_glyphs_plain, base_place_plain, base_tries_plain, matra_steps_plain, pref_steps_plain, reph_steps_plain}
use Rattle.shapers_syllabic.specs.Reordering.{SyllableReordered, carried}
use Rattle.shapers_syllabic.proofs.SyllableThen.{changed_parts, syllable_as, syllable_changed, syllable_mapped, syllable_still, syllable_then}
use Rattle.shapers_syllabic.proofs.PartAfter.{part_after}

-- how long a syllable of the order view is
length-view : (s e : ℕ) (gs : Glyphs) → e ≤ length gs → length (stretch_of s e (order_view gs)) ≡ e - s
length-view = search (length-stretch, length-map)

-- the same by steps of the syllable as it is, where these are the same
pub part_by_steps : (meaning : Glyphs → Glyphs) (steps : Glyphs
    → List Step) (s e : ℕ) (old new : Buffer) → s ≤ e → e ≤ length old.glyphs
    → LawsAt (stretch_of s e (order_view old.glyphs)) (meaning (stretch_of s e (order_view old.glyphs)))
    (steps (stretch_of s e (order_view old.glyphs))) → steps (order_view (stretch_of s e old.glyphs))
    ≡ steps (stretch_of s e old.glyphs)
    → new ≡ record old {
      glyphs = after_steps old.level (map (widened s e (length old.glyphs)) (steps (stretch_of s e old.glyphs)))
          old.glyphs;
      places = new.places;
    } → SyllableReordered meaning steps s e old new
part_by_steps meaning steps s e old new h l laws same is =
    let both : steps (stretch_of s e old.glyphs) ≡ steps (stretch_of s e (order_view old.glyphs)) =
    search (arith, map-stretch) in
    search (arith, order_view-widened, length-view)

-- What the parts read of a syllable shows in its order view.
pub record Viewed (r : Rules) (script : Option Script) (gs : Glyphs) : Type 0 where
  pub glyphs : (with_final_base r script (order_view gs)).glyphs ≡ order_view (with_final_base r script gs).glyphs
  pub base : (with_final_base r script (order_view gs)).base ≡ (with_final_base r script gs).base
  pub tries : (with_final_base r script (order_view gs)).tries_pref ≡ (with_final_base r script gs).tries_pref
  pub by_matras : (base : ℕ) → matra_steps script base (order_view gs) ≡ matra_steps script base gs
  pub by_reph : (base : ℕ) → reph_steps r.reph_pos base (order_view gs) ≡ reph_steps r.reph_pos base gs
  pub base_then : (base : ℕ) → base_after_reph r.reph_pos base (order_view gs) ≡ base_after_reph r.reph_pos base gs
  pub by_pref : (base : ℕ) → pref_steps r.pref script base (order_view gs) ≡ pref_steps r.pref script base gs

pub viewed_in : (r : Rules) (script : Option Script) → r.pref % 8 ≡ 0 → (gs : Glyphs) → Viewed r script gs
viewed_in r script off gs =
    let low : TouchesNoFlag r.pref = omega arith in
    search (base_glyphs_plain, base_place_plain, base_tries_plain, matra_steps_plain, reph_steps_plain, base_after_reph_plain, pref_steps_plain)

recovered-carried : (virama : Option GlyphId) (g : Glyph) → carried (recovered virama g) ≡ carried g
recovered-carried = search arith

lost-plain : (virama : Option GlyphId) (g : Glyph) → is_lost_virama virama (plain g) ≡ is_lost_virama virama g
lost-plain None g = refl
lost-plain (Some virama) g = refl

recovered-plain : (virama : Option GlyphId) (g : Glyph) → plain (recovered virama g) ≡ recovered virama (plain g)
recovered-plain = search arith

-- a syllable of the order view with its viramas
recovered-stretch : (r : Rules) (s e : ℕ) (gs : Glyphs) → s ≤ e → e ≤ length gs
    → order_view (stretch_of s e (with_stretch s e (map (recovered r.virama)) gs))
    ≡ with_viramas r (stretch_of s e (order_view gs))
recovered-stretch r s e gs h l =
    let part = stretch_of s e gs in
    let parts = changed_parts s e (take s gs) (map (recovered r.virama) part) (drop e gs) (with_stretch s e (map
    (recovered r.virama)) gs) h (length-take-le s gs (omega arith)) (length-map part (recovered r.virama)
    ∙ length-take-le (e - s) (drop s gs) (omega (arith, length-drop s gs))) refl in
    search (arith, viramas_stay plain_view r part, map-stretch plain s e gs)

-- where the base settles
pub settled_part : (r : Rules) (script : Option Script) (s e : ℕ) (b0 b1 b2 : Buffer)
    → ((gs : Glyphs) → Viewed r script gs) → s ≤ e → e ≤ length b0.glyphs
    → b1 ≡ record b0 { glyphs = with_stretch s e (map (recovered r.virama)) b0.glyphs }
    → b2 ≡ record b1 { glyphs = with_stretch s e (with_base_found r script) b1.glyphs }
    → SyllableReordered (λ gs. (based r script gs).glyphs) (λ _. []) s e b0 b2
settled_part r script s e b0 b1 b2 viewed h l one two =
    let g1 : b1.glyphs ≡ with_stretch s e (map (recovered r.virama)) b0.glyphs = cc in
    let g2 : b2.glyphs ≡ with_stretch s e (with_base_found r script) b1.glyphs = cc in
    let k1 : but_places b1 ≡ record (but_places b0) { glyphs = b1.glyphs } = cc in
    let k2 : but_places b2 ≡ record (but_places b1) { glyphs = b2.glyphs } = cc in
    let n0 : length (with_viramas r
    (stretch_of s e (order_view b0.glyphs))) ≡ e - s = search (length-map, length-view) in
    syllable_then (with_viramas r) (with_base_found r script) (λ _. []) (λ _. []) s e b0 b1 b2 h l n0
    (search (syllable_mapped, recovered-carried, recovered-plain))
    (syllable_changed (with_base_found r script) (with_base_found r script) s e b1 b2 h k2 g2
    (hidden-based r script (stretch_of s e b1.glyphs)) (sym (viewed (stretch_of s e b1.glyphs)).glyphs))

-- What the parts behind it make of a syllable with its base, by where the base stands before and
-- after the reph, and by whether a pref glyph is tried.
abbrev tried_order : Rules → Option Script → Bool → ℕ → Glyphs → Glyphs
tried_order r script tries base gs = if tries then with_pref r.pref script base gs else gs

abbrev tried_steps : Rules → Option Script → Bool → ℕ → Glyphs → List Step
tried_steps r script tries base gs = if tries then pref_steps r.pref script base gs else []

abbrev placed_order : Rules → Option Script → Bool → ℕ → ℕ → Glyphs → Glyphs
placed_order r script tries base next gs =
    tried_order r script tries next (with_reph r.reph_pos base (with_matras script base gs))

abbrev placed_steps : Rules → Option Script → Bool → ℕ → ℕ → Glyphs → List Step
placed_steps r script tries base next gs =
    let ms = with_matras script base gs in
    matra_steps script base gs
    ++ (reph_steps r.reph_pos base ms ++ tried_steps r script tries next (with_reph r.reph_pos base ms))

-- What the calls leave, one after another.
pub record Calls (r : Rules) (script : Option Script) (s e base next : ℕ) (tries : Bool) (b0 b1 b2 b3 b4 : Buffer) :
    Type 0 where
  pub in_order : s ≤ e
  pub in_range : e ≤ length b0.glyphs
  pub viramas : b1 ≡ record b0 { glyphs = with_stretch s e (map (recovered r.virama)) b0.glyphs }
  pub based_are : b2 ≡ record b1 { glyphs = with_stretch s e (with_base_found r script) b1.glyphs }
  pub base_is : base ≡ (with_final_base r script (stretch_of s e b1.glyphs)).base
  pub tries_is : tries ≡ (with_final_base r script (stretch_of s e b1.glyphs)).tries_pref
  pub matras : b3
      ≡ record b2 {
        glyphs = after_steps b2.level
            (map (widened s e (length b2.glyphs)) (matra_steps script base (stretch_of s e b2.glyphs))) b2.glyphs;
        places = b3.places;
      }
  pub reph : b4
      ≡ record b3 {
        glyphs = after_steps b3.level
            (map (widened s e (length b3.glyphs)) (reph_steps r.reph_pos base (stretch_of s e b3.glyphs))) b3.glyphs;
        places = b4.places;
      }
  pub next_is : next ≡ base_after_reph r.reph_pos base (stretch_of s e b3.glyphs)

-- the last part, where a pref glyph is tried, and where none is
pub record LastPart (r : Rules) (script : Option Script) (s e next : ℕ) (tries : Bool) (b4 b5 : Buffer) : Type 0 where
  pub reordered : e ≤ length b4.glyphs
      → SyllableReordered (tried_order r script tries next) (tried_steps r script tries next) s e b4 b5

pub last_tried : (r : Rules) (script : Option Script) (s e next : ℕ) (tries : Bool) (b4 b5 : Buffer)
    → ((gs : Glyphs) → Viewed r script gs) → s ≤ e → tries ≡ true
    → b5 ≡ record b4 {
      glyphs = after_steps b4.level
          (map (widened s e (length b4.glyphs)) (pref_steps r.pref script next (stretch_of s e b4.glyphs))) b4.glyphs;
      places = b5.places;
    } → LastPart r script s e next tries b4 b5
last_tried r script s e next tries b4 b5 viewed h tried is =
    subst (λ t. LastPart r script s e next t b4 b5) (sym tried) (record {
      reordered = λ l. part_by_steps (with_pref r.pref script next) (pref_steps r.pref script next) s e b4 b5 h l
          (pref_at r.pref script next (stretch_of s e (order_view b4.glyphs))) (
          (viewed (stretch_of s e b4.glyphs)).by_pref next) is;
    })

pub last_none : (r : Rules) (script : Option Script) (s e next : ℕ) (tries : Bool) (b4 : Buffer) → s ≤ e → tries ≡ false
    → LastPart r script s e next tries b4 b4
last_none r script s e next tries b4 h none = search (arith, syllable_still)

-- all of them
pub final_syllable : (r : Rules) (script : Option Script) (s e base next : ℕ) (tries : Bool)
    (b0 b1 b2 b3 b4 b5 : Buffer) → ((gs : Glyphs) → Viewed r script gs)
    → Calls r script s e base next tries b0 b1 b2 b3 b4 → LastPart r script s e next tries b4 b5
    → SyllableReordered (final_order r script) (final_steps r script) s e b0 b5
final_syllable r script s e base next tries b0 b1 b2 b3 b4 b5 viewed c last =
    let h = c.in_order in
    let l = c.in_range in
    let x0 = stretch_of s e (order_view b0.glyphs) in
    let B = based r script x0 in
    let opening = settled_part r script s e b0 b1 b2 viewed h l c.viramas c.based_are in
    let k0 : length x0 ≡ e - s = length-view s e b0.glyphs l in
    let kb : length B.glyphs ≡ e - s =
    length-same carried B.glyphs x0 (hidden-based r script (with_viramas r x0) ∙ hidden-viramas r x0) ∙ k0 in
    let a2 = part_after (λ gs. (based r script gs).glyphs) (λ _. []) s e b0 b2 h l kb opening in
    let l2 : e ≤ length b2.glyphs = omega (arith, a2.long) in
    let x2 = stretch_of s e (order_view b2.glyphs) in
    let v1 = viewed (stretch_of s e b1.glyphs) in
    let same1 : with_final_base r script (order_view (stretch_of s e b1.glyphs)) ≡ B =
    ap (λ zs. with_final_base r script (order_view (stretch_of s e zs))) (ap (λ (b : Buffer). b.glyphs) c.viramas)
    ∙ ap (with_final_base r script) (recovered-stretch r s e b0.glyphs h l) in
    let base_at : base ≡ B.base = c.base_is ∙ sym v1.base ∙ ap (λ (b : Based). b.base) same1 in
    let tries_at : tries ≡ B.tries_pref = c.tries_is ∙ sym v1.tries ∙ ap (λ (b : Based). b.tries_pref) same1 in
    let base_low : base ≤ length x2 = rw (base_at, a2.syllable) (base_within r script (with_viramas r x0)) in
    let m_laws = matras_at script base x2 base_low in
    let matras_done =
    part_by_steps (with_matras script base) (matra_steps script base) s e b2 b3 h l2 m_laws (
    (viewed (stretch_of s e b2.glyphs)).by_matras base) c.matras in
    let k3 =
    length_at x2 (with_matras script base x2) (matra_steps script base x2) m_laws ∙ (length-view s e b2.glyphs l2) in
    let a3 = part_after (with_matras script base) (matra_steps script base) s e b2 b3 h l2 k3 matras_done in
    let l3 : e ≤ length b3.glyphs = omega (arith, a3.long) in
    let x3 = stretch_of s e (order_view b3.glyphs) in
    let v3 = viewed (stretch_of s e b3.glyphs) in
    let r_laws = reph_at r.reph_pos base x3 in
    let reph_done =
    part_by_steps (with_reph r.reph_pos base) (reph_steps r.reph_pos base) s e b3 b4 h l3 r_laws (v3.by_reph base)
    c.reph in
    let k4 = length_at x3 (with_reph r.reph_pos base x3) (reph_steps r.reph_pos base x3) r_laws
    ∙ length-view s e b3.glyphs l3 in
    let l4 : e ≤ length b4.glyphs = omega (
      arith,
      (part_after (with_reph r.reph_pos base) (reph_steps r.reph_pos base) s e b3 b4 h l3 k4 reph_done).long,
    ) in
    let next_at = c.next_is ∙ sym (v3.base_then base)
    ∙ ap (base_after_reph r.reph_pos base) (map-stretch plain s e b3.glyphs ∙ a3.syllable
    ∙ ap (with_matras script base) a2.syllable) in
    let whole = syllable_then (λ gs. (based r script gs).glyphs) (placed_order r script tries base next) (λ _. [])
    (placed_steps r script tries base next) s e b0 b2 b5 h l kb opening
    (syllable_then (with_matras script base) (λ gs. tried_order r script tries next (with_reph r.reph_pos base gs))
    (matra_steps script base) (λ gs. reph_steps r.reph_pos base gs
    ++ tried_steps r script tries next (with_reph r.reph_pos base gs)) s e b2 b3 b5 h l2 k3 matras_done
    (syllable_then (with_reph r.reph_pos base) (tried_order r script tries next) (reph_steps r.reph_pos base)
    (tried_steps r script tries next) s e b3 b4 b5 h l3 k4 reph_done (last.reordered l4))) in
    let after_base : ℕ → ℕ = λ b. base_after_reph r.reph_pos b (with_matras script b B.glyphs) in
    let means : placed_order r script tries base next B.glyphs ≡ final_order r script x0 =
    ap (λ t. placed_order r script t base next B.glyphs) tries_at
    ∙ ap (λ n. placed_order r script B.tries_pref base n B.glyphs) next_at
    ∙ ap (λ b. placed_order r script B.tries_pref b (after_base b) B.glyphs) base_at in
    let leads : placed_steps r script tries base next B.glyphs ≡ final_steps r script x0 =
    ap (λ t. placed_steps r script t base next B.glyphs) tries_at
    ∙ ap (λ n. placed_steps r script B.tries_pref base n B.glyphs) next_at
    ∙ ap (λ b. placed_steps r script B.tries_pref b (after_base b) B.glyphs) base_at in
    syllable_as (λ gs. placed_order r script tries base next (based r script gs).glyphs) (final_order r script) (λ gs.
    [] ++ placed_steps r script tries base next (based r script gs).glyphs) (final_steps r script) s e b0 b5 means
    leads whole

-- the last part either way, by steps
pub last_part : (r : Rules) (script : Option Script) (s e next : ℕ) (tries : Bool) (b4 b5 : Buffer)
    → ((gs : Glyphs) → Viewed r script gs) → s ≤ e
    → b5 ≡ record b4 {
      glyphs = after_steps b4.level
          (map (widened s e (length b4.glyphs)) (tried_steps r script tries next (stretch_of s e b4.glyphs))) b4.glyphs;
    } → LastPart r script s e next tries b4 b5
last_part r script s e next true b4 b5 viewed h is =
    last_tried r script s e next true b4 b5 viewed h refl
    (is ∙ ap (λ ps. let y : Buffer = record b4 {
      glyphs = after_steps b4.level (map (widened s e (length b4.glyphs))
          (pref_steps r.pref script next (stretch_of s e b4.glyphs))) b4.glyphs;
      places = ps;
    } in y) (sym (ap (λ (b : Buffer). b.places) is)))
last_part r script s e next false b4 b5 viewed h is =
    subst (LastPart r script s e next false b4) (sym is) (last_none r script s e next false b4 h refl)

-- the syllable written at last
pub written_at_last : (meaning : Glyphs → Glyphs) (steps : Glyphs → List Step) (s e : ℕ) (b0 b5 b6 : Buffer)
    → SyllableReordered meaning steps s e b0 b5 → but_places b6 ≡ but_places b5
    → SyllableReordered meaning steps s e b0 b6
written_at_last meaning steps s e b0 b5 b6 done same =
    let g : b6.glyphs ≡ b5.glyphs = ap (λ (b : Buffer). b.glyphs) same in
    record {
      others = same ∙ done.others
          ∙ ap (λ (gs : Glyphs). let y : Buffer = record (but_places b0) { glyphs = gs } in y) (sym g);
      order = ap order_view g ∙ done.order;
      moved = ap (map carried) g ∙ done.moved;
    }
