-- Positions, hidden glyphs and stretched marks keep the clusters of a text.
use Rattle.std.proofs.Common.{◌≡◌, ◌∙◌, ◌+◌, ◌≤◌, suc, Bool, true, false, not, cond, List, [], ◌∷◌, length, map, filter, reverse, refl, sym, ap, arith}
use Rattle.std.specs.Prelude.{Option, None, Some, Ok, if◌then◌else◌}
use Rattle.std.specs.List.{zip}
use Rattle.std.specs.Option.{option_map_or, option_or}
use Rattle.std.proofs.Math.Nat.{le_of_eq, le_refl, le_trans}
use Rattle.std.proofs.lemmas.List.{length-map, length-reverse}
use Rattle.std.proofs.lemmas.List.Sums.{count_by-le-length, length-filter}
use Rattle.shapers_base.specs.Font.{Font}
use Rattle.shapers_base.specs.declared.font.GlyphId.{GlyphId}
use Rattle.shapers_base.specs.declared.plan.hb_ot_shape_plan_t.{hb_ot_shape_plan_t}
use Rattle.shapers_buffer.specs.Buffer.{Buffer}
use Rattle.shapers_buffer.specs.Clusters.{merges}
use Rattle.shapers_buffer.specs.Glyph.{clusters}
use Rattle.shapers_buffer.specs.declared.buffer.glyph.GlyphPosition.{GlyphPosition}
use Rattle.shapers_buffer.specs.Glyphs.{Glyph, Glyphs}
use Rattle.shapers_plan.specs.declared.ot_map.lookups.StageLookup.{StageLookup}
use Rattle.shapers_position.specs.Ignorables.{drawn_by, ignorable_zeroed, ignorables_hidden, ignorables_removed, ignorables_zeroed, is_default_ignorable, removed}
use Rattle.shapers_position.specs.Laws.{FlagsLaw, RemovalLaw}
use Rattle.shapers_position.specs.Spaces.{space_placed}
use Rattle.shapers_position.specs.Widths.{advanced, mark_zeroed, positions_changed}
use Rattle.shapers_position.specs.declared.ot_shape_position.ignorables.DefaultIgnorables.{DefaultIgnorables}
use Rattle.shapers_position.specs.declared.ot_shape_position.ignorables.DefaultIgnorables.TheVariants.{Hide, Preserve, Remove}
use Rattle.shapers_choice.specs.Choice.{is_horizontal}
use Rattle.shapers_prepare.specs.Rotation.{goes_backward}
use Rattle.shapers_stretch.specs.Recorded.{start_of}
use Rattle.shapers_stretch.specs.Stretch.{marks_stretched, stretched_cells, with_cells}
use Rattle.shapers_stretch.proofs.LaidText.{marks_longer}
use Rattle.shapers_stretch.proofs.StretchFlags.{on_copies, on_widths}
use Rattle.rustybuzz_shapers.specs.Apart.{HooksMakeNoCluster}
use Rattle.rustybuzz_shapers.specs.Hooks.{PostprocessKeeps}
use Rattle.rustybuzz_shapers.specs.Monotone.{StretchStaysMonotone}
use Rattle.rustybuzz_shapers.specs.Stretched.{glyphs_added}
use Rattle.rustybuzz_shapers.specs.declared.shaper.hb_ot_shaper_t.{hb_ot_shaper_t}
use Rattle.rustybuzz_shapers.specs.declared.shaper.hb_ot_shaper_t.TheVariants.{Arabic, Hangul, Hebrew, Indic, Khmer, Myanmar, MyanmarZawgyi, Thai, Universal}
use Rattle.shapers_pipeline.specs.ClusterLaws.{PreparationKeepsClusters, StagesKeepClusters}
use Rattle.shapers_pipeline.specs.Lengths.{FinishGrows}
use Rattle.shapers_pipeline.specs.Lookups.{PositionKeeps, looked_up, text_noted, unplaced}
use Rattle.shapers_pipeline.specs.Positioned.{Positioning, hangs_marks, ordered_for_drawing, is_early, is_late, lookups_if, marks_zeroed_if, postprocessed_by, text_advanced, text_looked_up, text_narrowed, text_positioned, text_postprocessed, text_shaped, text_spaced, zeroing_of}
use Rattle.shapers_pipeline.specs.Prepared.{text_prepared}
use Rattle.shapers_pipeline.specs.ShapeLaws.{FinishKeepsClusters, PositionsKeep, ShapingKeepsClusters}
use Rattle.shapers_pipeline.proofs.ClustersKept.{clusters-map, itself, kept_sorted, same, turned}
use Rattle.shapers_pipeline.proofs.Placing.{Paired, length-changed, paired_stays, same_length}
use Rattle.shapers_pipeline.proofs.PreparedClusters.{Keeps, after}
use Rattle.shapers_pipeline.proofs.TextLengths.{same_long}
use Rattle.shapers_pipeline.proofs.StageClusters.{none_after, sorted_after}

-- clusters are kept, positions stay one for each glyph, and no glyph is added
pub record Placed (old new : Buffer) : Type 0 where
  pub keeps : Keeps old new
  pub paired : Paired old → Paired new
  pub few : length new.glyphs ≤ length old.glyphs

on : (a b c : Buffer) → Placed a b → Placed b c → Placed a c
on a b c one two = record {
  keeps = after a b c one.keeps two.keeps;
  paired = λ pairs. two.paired (one.paired pairs);
  few = le_trans two.few one.few;
}

stays : (b : Buffer) → Placed b b
stays b = record {
  keeps = record { level = refl; glyphs = itself (merges b.level) b.glyphs };
  paired = λ pairs. pairs;
  few = le_refl (length b.glyphs);
}

-- ---- positions changed, each by its glyph

changed : (f : Glyph → GlyphPosition → GlyphPosition) (b : Buffer) → Placed b
    (record b { positions = positions_changed f b.glyphs b.positions })
changed f b = record {
  keeps = record { level = refl; glyphs = itself (merges b.level) b.glyphs };
  paired = length-changed f b.glyphs b.positions;
  few = le_refl (length b.glyphs);
}

zeroed_if : (now : Bool) (is_mark : Glyph → Bool) (applies : Bool) (b : Buffer) → Placed b
    (marks_zeroed_if now is_mark applies b)
zeroed_if true is_mark applies b = changed (mark_zeroed is_mark (hangs_marks applies b.direction)) b
zeroed_if false is_mark applies b = stays b

ignorables_kept : (wanted : DefaultIgnorables) (b : Buffer) → Placed b
    (record b { positions = ignorables_zeroed wanted b.direction b.glyphs b.positions })
ignorables_kept Hide b = changed (ignorable_zeroed (is_horizontal b.direction)) b
ignorables_kept Preserve b = stays b
ignorables_kept Remove b = stays b

-- ---- lookups of GPOS

by_promise : (old new : Buffer) → PositionKeeps old new → Placed old new
by_promise old new keeps =
    record {
      keeps = record {
        level = ap (λ b. b.level) keeps.others;
        glyphs = same (merges old.level) old.glyphs new.glyphs
            (sym (clusters-map unplaced (λ g. refl) new.glyphs) ∙ ap clusters keeps.glyphs ∙ clusters-map unplaced
            (λ g. refl) old.glyphs);
      };
      paired = paired_stays old new keeps;
      few = le_of_eq (same_length old new keeps);
    }

looked : (f : StageLookup → Buffer → Buffer) →
    ((lookup : StageLookup) (b : Buffer) → Paired b → PositionKeeps b (f lookup b)) → (list : List StageLookup)
    (b : Buffer) → Paired b → Placed b (looked_up f list b)
looked f keeps [] b pairs = stays b
looked f keeps (x ∷ xs) b pairs =
    let first = by_promise b (f x b) (keeps x b pairs) in
    on b (f x b) (looked_up f (x ∷ xs) b) first (looked f keeps xs (f x b) (first.paired pairs))

-- ---- the drawing order

in_order : (b : Buffer) → Placed b (ordered_for_drawing b)
in_order b =
    let t : Buffer = record b { glyphs = reverse b.glyphs; positions = reverse b.positions } in
    elim (goes_backward b.direction) as (λ test. Placed b (if test then t else b)) [
      | true ↦ record {
        keeps = record { level = refl; glyphs = turned (merges b.level) b.glyphs };
        paired = λ pairs. length-reverse b.positions ∙ pairs ∙ sym (length-reverse b.glyphs);
        few = le_of_eq (length-reverse b.glyphs);
      }
      | false ↦ stays b
    ]

-- ---- hidden glyphs

drawn_cluster : (glyph : GlyphId) (g : Glyph) → (drawn_by glyph g).cluster ≡ g.cluster
drawn_cluster glyph g = elim (is_default_ignorable g) as
    (λ test. (if test then (let r : Glyph = record g { glyph_id = glyph.0 } in r) else g).cluster
    ≡ g.cluster) [ true ↦ refl | false ↦ refl ]

length-paired : (f : Glyph → Bool) (gs : Glyphs) (ps : List GlyphPosition) → length ps
    ≡ length gs → length (filter (λ c. f c.0) (zip gs ps)) ≡ length (filter f gs)
length-paired f [] [] pairs = refl
length-paired f [] (p ∷ ps) pairs = refl
length-paired f (g ∷ gs) [] pairs = absurd (omega arith)
length-paired f (g ∷ gs) (p ∷ ps) pairs =
    let rest = length-paired f gs ps (omega arith) in
    elim (f g) as (λ test. length (cond test ((g, p) ∷ filter (λ c. f c.0) (zip gs ps))
    (filter (λ c. f c.0) (zip gs ps))) ≡ length
    (cond test (g ∷ filter f gs) (filter f gs))) [ true ↦ ap suc rest | false ↦ rest ]

ignorables_go : RemovalLaw → (b : Buffer) → Placed b (ignorables_removed b)
ignorables_go law b =
    let r = law b.level b.glyphs in
    let stay : Glyph → Bool = λ g. not (is_default_ignorable g) in
    let left = removed b.level b.glyphs in
    let long : length left ≡ length (filter stay b.glyphs) = sym (length-map left _) ∙ ap length r.same_view
    ∙ length-map (filter stay b.glyphs) _ in
    record {
      keeps = record { level = refl; glyphs = record { none = r.old_clusters; mono = λ merging. r.monotone } };
      paired = λ pairs. length-map (filter (λ c. stay c.0) (zip b.glyphs b.positions)) (λ c. c.1)
          ∙ length-paired stay b.glyphs b.positions pairs ∙ sym long;
      few = omega (arith, long, length-filter stay b.glyphs, count_by-le-length stay b.glyphs);
    }

hidden : RemovalLaw → (wanted : DefaultIgnorables) (glyph : Option GlyphId) (b : Buffer) → Placed b
    (ignorables_hidden wanted glyph b)
hidden law Hide (Some glyph) b = record {
  keeps = record {
    level = refl;
    glyphs = same (merges b.level) b.glyphs (map (drawn_by glyph) b.glyphs)
        (clusters-map (drawn_by glyph) (drawn_cluster glyph) b.glyphs);
  };
  paired = λ pairs. pairs ∙ sym (length-map b.glyphs (drawn_by glyph));
  few = le_of_eq (length-map b.glyphs (drawn_by glyph));
}
hidden law Hide None b = ignorables_go law b
hidden law Preserve glyph b = stays b
hidden law Remove glyph b = ignorables_go law b

-- ---- positions, all together

-- the laws that this rests on
pub record Laws : Type 0 where
  pub removal : RemovalLaw
  pub flags : FlagsLaw
  pub hooks : HooksMakeNoCluster
  pub stretch : StretchStaysMonotone

advanced_pairs : (p : Positioning) (b : Buffer) → Paired (text_spaced p.font p.metrics b)
advanced_pairs p b =
    let f = advanced p.font p.metrics (is_horizontal b.direction) in
    let t : Buffer = record b { positions = map f b.glyphs } in
    (changed (space_placed p.font p.metrics (is_horizontal b.direction)) t).paired (length-map b.glyphs f)

-- what is made of a text, with positions whatever it had
record Made (old new : Buffer) : Type 0 where
  keeps : Keeps old new
  pairs : Paired new
  few : length new.glyphs ≤ length old.glyphs

-- before GPOS, with a position for each glyph
begun : (p : Positioning) (b : Buffer) → Made b (text_advanced p b)
begun p b =
    let t = text_spaced p.font p.metrics b in
    let zeroed = zeroed_if (is_early (zeroing_of p.shaper)) p.is_mark p.applies_gpos t in
    record {
      keeps = after b t (text_advanced p b) (record { level = refl; glyphs = itself (merges b.level) b.glyphs })
          zeroed.keeps;
      pairs = zeroed.paired (advanced_pairs p b);
      few = zeroed.few;
    }

behind_gpos : (p : Positioning) → PositionsKeep p → (b : Buffer) → Paired b → Placed b
    (looked_up p.positioned (lookups_if p.applies_gpos p.list) b)
behind_gpos p keeps b pairs = looked p.positioned keeps.looking_up (lookups_if p.applies_gpos p.list) b pairs

narrowed : (p : Positioning) (b : Buffer) →
    Placed b (let t = marks_zeroed_if (is_late (zeroing_of p.shaper)) p.is_mark p.applies_gpos b in
    let r : Buffer = record t { positions = ignorables_zeroed p.ignorables t.direction t.glyphs t.positions } in r)
narrowed p b =
    let t = marks_zeroed_if (is_late (zeroing_of p.shaper)) p.is_mark p.applies_gpos b in
    let r : Buffer = record t { positions = ignorables_zeroed p.ignorables t.direction t.glyphs t.positions } in
    on b t r (zeroed_if (is_late (zeroing_of p.shaper)) p.is_mark p.applies_gpos b) (ignorables_kept p.ignorables t)

text_placed : RemovalLaw → (p : Positioning) → PositionsKeep p → (b : Buffer) → Made b (text_positioned p b)
text_placed removal p keeps b =
    let a = text_advanced p b in
    let l = text_looked_up p b in
    let n = text_narrowed p b in
    let f = p.finished n in
    let o = ordered_for_drawing f in
    let h = text_positioned p b in
    let first = begun p b in
    let pairs = first.pairs in
    let looked = behind_gpos p keeps a pairs in
    let narrow = narrowed p l in
    let npairs : Paired n = narrow.paired (looked.paired pairs) in
    let rest = on n f h (by_promise n f (keeps.finishing n npairs))
    (on f o h (in_order f) (hidden removal p.ignorables (option_or p.invisible (p.font.nominal 0x20)) o)) in
    let all = on a l h looked (on l n h narrow rest) in
    record { keeps = after b a h first.keeps all.keeps; pairs = all.paired pairs; few = le_trans all.few first.few }

-- ---- stretched marks

stretched_level : (font : Font) (plan : hb_ot_shape_plan_t) (b : Buffer) →
    (marks_stretched font (start_of plan.plan_data) b).level ≡ b.level
stretched_level font plan b = elim b.stch as
    (λ test. (if test then with_cells (stretched_cells font (start_of plan.plan_data) b) b else b).level
    ≡ b.level) [ true ↦ refl | false ↦ refl ]

marks_stretch : Laws → (plan : hb_ot_shape_plan_t) (font : Font) (b : Buffer) → Paired b → Keeps b
    (marks_stretched font (start_of plan.plan_data) b)
marks_stretch laws plan font b pairs =
    let choice = start_of plan.plan_data in
    let new = marks_stretched font choice b in
    let kept : PostprocessKeeps Arabic plan font b new =
    (on_copies (Ok true) font choice b new refl, on_widths (Ok true) font choice b new pairs refl) in
    record {
      level = stretched_level font plan b;
      glyphs = kept_sorted (merges b.level) b.glyphs new.glyphs (laws.hooks.postprocessing Arabic plan font b new kept)
          (λ merging. laws.stretch Arabic plan font b new pairs refl);
    }

by_shaper : Laws → (plan : hb_ot_shape_plan_t) (font : Font) (b : Buffer) → Paired b → (shaper : hb_ot_shaper_t)
    → Keeps b (postprocessed_by plan font b shaper)
by_shaper laws plan font b pairs Arabic = marks_stretch laws plan font b pairs
by_shaper laws plan font b pairs Hangul = (stays b).keeps
by_shaper laws plan font b pairs Hebrew = (stays b).keeps
by_shaper laws plan font b pairs Indic = (stays b).keeps
by_shaper laws plan font b pairs Khmer = (stays b).keeps
by_shaper laws plan font b pairs Myanmar = (stays b).keeps
by_shaper laws plan font b pairs MyanmarZawgyi = (stays b).keeps
by_shaper laws plan font b pairs Thai = (stays b).keeps
by_shaper laws plan font b pairs Universal = (stays b).keeps

by_shaper_if : Laws → (o : Option hb_ot_shaper_t) (plan : hb_ot_shape_plan_t) (font : Font) (b : Buffer) → Paired b
    → Keeps b (option_map_or (postprocessed_by plan font b) o b)
by_shaper_if laws None plan font b pairs = (stays b).keeps
by_shaper_if laws (Some shaper) plan font b pairs = by_shaper laws plan font b pairs shaper

pub finish_keeps : Laws → FinishKeepsClusters
finish_keeps laws p direction b keeps =
    let t = text_positioned p b in
    let u = text_postprocessed p b in
    let new = text_shaped p direction b in
    let first = text_placed laws.removal p keeps b in
    let flags : Keeps u new = record {
      level = refl;
      glyphs = same (merges u.level) u.glyphs new.glyphs
          (laws.flags u.flags u.glyphs).same_clusters;
    } in
    let all = after b u new (after b t u first.keeps (by_shaper_if laws p.shaper p.plan p.font t first.pairs)) flags in
    (record { level = all.level; old_clusters = all.glyphs.none }, all.glyphs.mono)

-- ---- lengths

stretched_long : (plan : hb_ot_shape_plan_t) (font : Font) (b : Buffer) → Paired b → (shaper : hb_ot_shaper_t) →
    length (postprocessed_by plan font b shaper).glyphs ≡ length b.glyphs + glyphs_added shaper font b
stretched_long plan font b pairs Arabic = marks_longer font (start_of plan.plan_data) b pairs
stretched_long plan font b pairs Hangul = omega arith
stretched_long plan font b pairs Hebrew = omega arith
stretched_long plan font b pairs Indic = omega arith
stretched_long plan font b pairs Khmer = omega arith
stretched_long plan font b pairs Myanmar = omega arith
stretched_long plan font b pairs MyanmarZawgyi = omega arith
stretched_long plan font b pairs Thai = omega arith
stretched_long plan font b pairs Universal = omega arith

postprocessed_long : (o : Option hb_ot_shaper_t) (plan : hb_ot_shape_plan_t) (font : Font) (b : Buffer) → Paired b →
    length (option_map_or (postprocessed_by plan font b) o b).glyphs
    ≡ length b.glyphs + option_map_or (λ shaper. glyphs_added shaper font b) o 0
postprocessed_long None plan font b pairs = omega arith
postprocessed_long (Some shaper) plan font b pairs = stretched_long plan font b pairs shaper

pub finish_grows : RemovalLaw → FlagsLaw → FinishGrows
finish_grows removal flags p direction b keeps =
    let t = text_positioned p b in
    let u = text_postprocessed p b in
    let placed = text_placed removal p keeps b in (
      placed.few,
      same_long u.glyphs (text_shaped p direction b).glyphs (flags u.flags u.glyphs).same_clusters
          ∙ postprocessed_long p.shaper p.plan p.font t placed.pairs,
    )

-- ---- the greatest length stays

zeroed_limit : (now : Bool) (is_mark : Glyph → Bool) (applies : Bool) (b : Buffer) →
    (marks_zeroed_if now is_mark applies b).max_len ≡ b.max_len
zeroed_limit true is_mark applies b = refl
zeroed_limit false is_mark applies b = refl

looked_limit : (f : StageLookup → Buffer → Buffer) →
    ((lookup : StageLookup) (b : Buffer) → Paired b → PositionKeeps b (f lookup b)) → (list : List StageLookup)
    (b : Buffer) → Paired b → (looked_up f list b).max_len ≡ b.max_len
looked_limit f keeps [] b pairs = refl
looked_limit f keeps (x ∷ xs) b pairs =
    let kept = keeps x b pairs in
    looked_limit f keeps xs (f x b) (paired_stays b (f x b) kept pairs) ∙ ap (λ (t : Buffer). t.max_len) kept.others

order_limit : (b : Buffer) → (ordered_for_drawing b).max_len ≡ b.max_len
order_limit b =
    let t : Buffer = record b { glyphs = reverse b.glyphs; positions = reverse b.positions } in
    elim (goes_backward b.direction) as (λ test. (if test then t else b).max_len
    ≡ b.max_len) [ true ↦ refl | false ↦ refl ]

hidden_limit : (wanted : DefaultIgnorables) (glyph : Option GlyphId) (b : Buffer) →
    (ignorables_hidden wanted glyph b).max_len ≡ b.max_len
hidden_limit Hide (Some glyph) b = refl
hidden_limit Hide None b = refl
hidden_limit Preserve glyph b = refl
hidden_limit Remove glyph b = refl

stretched_limit : (font : Font) (plan : hb_ot_shape_plan_t) (b : Buffer) →
    (marks_stretched font (start_of plan.plan_data) b).max_len ≡ b.max_len
stretched_limit font plan b = elim b.stch as
    (λ test. (if test then with_cells (stretched_cells font (start_of plan.plan_data) b) b else b).max_len
    ≡ b.max_len) [ true ↦ refl | false ↦ refl ]

postprocessed_limit : (plan : hb_ot_shape_plan_t) (font : Font) (b : Buffer) (shaper : hb_ot_shaper_t) →
    (postprocessed_by plan font b shaper).max_len ≡ b.max_len
postprocessed_limit plan font b Arabic = stretched_limit font plan b
postprocessed_limit plan font b Hangul = refl
postprocessed_limit plan font b Hebrew = refl
postprocessed_limit plan font b Indic = refl
postprocessed_limit plan font b Khmer = refl
postprocessed_limit plan font b Myanmar = refl
postprocessed_limit plan font b MyanmarZawgyi = refl
postprocessed_limit plan font b Thai = refl
postprocessed_limit plan font b Universal = refl

postprocessed_limit_if : (o : Option hb_ot_shaper_t) (plan : hb_ot_shape_plan_t) (font : Font) (b : Buffer) →
    (option_map_or (postprocessed_by plan font b) o b).max_len ≡ b.max_len
postprocessed_limit_if None plan font b = refl
postprocessed_limit_if (Some shaper) plan font b = postprocessed_limit plan font b shaper

pub finish_limit : (p : Positioning) → PositionsKeep p → (b : Buffer) → (text_postprocessed p b).max_len ≡ b.max_len
finish_limit p keeps b =
    let a = text_advanced p b in
    let l = text_looked_up p b in
    let n = text_narrowed p b in
    let f = p.finished n in
    let pairs = (begun p b).pairs in
    let npairs : Paired n = (narrowed p l).paired ((behind_gpos p keeps a pairs).paired pairs) in
    postprocessed_limit_if p.shaper p.plan p.font (text_positioned p b)
    ∙ hidden_limit p.ignorables (option_or p.invisible (p.font.nominal 0x20)) (ordered_for_drawing f)
    ∙ order_limit f
    ∙ ap (λ (t : Buffer). t.max_len) (keeps.finishing n npairs).others
    ∙ zeroed_limit (is_late (zeroing_of p.shaper)) p.is_mark p.applies_gpos l
    ∙ looked_limit p.positioned keeps.looking_up (lookups_if p.applies_gpos p.list) a pairs
    ∙ zeroed_limit (is_early (zeroing_of p.shaper)) p.is_mark p.applies_gpos (text_spaced p.font p.metrics b)

-- ---- all the way

pub shaping_keeps : PreparationKeepsClusters → StagesKeepClusters → FinishKeepsClusters → ShapingKeepsClusters
shaping_keeps preparation stages finish p noted r ss q direction old mid lookups positions none run =
    let text = text_noted noted (text_prepared p old) in
    let new = text_shaped q direction mid in
    let one = preparation p noted old in
    let two = stages r ss text mid lookups none run in
    let three = finish q direction mid positions in (
      none_after old text new one.0 (none_after text mid new two.0 three.0),
      λ sorts. sorted_after old text new one.0.level one.1
          (sorted_after text mid new two.0.level (two.1 sorts) three.1),
    )
