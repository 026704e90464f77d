-- Lookups that put sequences in leave the pieces of a text side by side.
use Rattle.std.proofs.Common.{ℕ, zero, suc, ◌+◌, ◌-◌, ◌*◌, ◌^◌, ◌%◌, ◌<◌, ◌≤◌, ◌≡◌, ◌==◌, ◌&&◌, ◌⊎◌, inl, inr, not, max, min, nat_lt, bit_and, if◌then◌else◌, Bool, true, false, List, [], ◌∷◌, ◌++◌, length, set, take, drop, Option, None, Some, option_map, refl, sym, ap, subst, ◌∙◌, arith, append_assoc, length-append}
use Rattle.std.specs.List.{AllByRecursion, remove}
use Rattle.std.specs.Option.{option_map_or}
use Rattle.std.proofs.Math.Seq.{get_or-append_seam, set-append_seam}
use Rattle.std.proofs.lemmas.Bool.{false≢true}
use Rattle.std.proofs.lemmas.Bool.Decides.{nat_tests}
use Rattle.std.proofs.lemmas.List.{append-nil, drop_at, take_at}
use Rattle.shapers_buffer.specs.Buffer.{Buffer}
use Rattle.shapers_buffer.specs.Clusters.{merge}
use Rattle.shapers_buffer.specs.declared.buffer.level.BufferClusterLevel.{BufferClusterLevel}
use Rattle.shapers_buffer.specs.Glyph.{default_glyph}
use Rattle.shapers_buffer.specs.Glyphs.{Glyph, Glyphs}
use Rattle.shapers_buffer.specs.declared.buffer.lig_props.LigProps.{LigProps}
use Rattle.shapers_buffer.specs.declared.buffer.lookup_record.LookupRecord.{LookupRecord}
use Rattle.shapers_break_laws.specs.Pieces.{CutWhereClear}
use Rattle.shapers_break_laws.proofs.MaskReads.{mask_read}
use Rattle.shapers_plan.specs.declared.ot_map.lookups.StageLookup.{StageLookup}
use Rattle.shapers_editing.specs.PipelineBreaks.{AreAsIn, IsPiece, LookupLeaves, Numbering}
use Rattle.opentype_face.specs.Bytes.{u16_in}
use Rattle.opentype_face.specs.Lookups.{lookup_in, subtable_in, subtables_in, type_in}
use Rattle.opentype_layout.specs.Looking.{looked_by, nothing, unjoined}
use Rattle.opentype_layout.specs.Text.{glyph_at}
use Rattle.opentype_layout.specs.declared.sight.Sight.{Sight}
use Rattle.opentype_layout.proofs.Lookings.{all_none, kept_if, unflagged}
use Rattle.opentype_gsub.specs.Along.{Along, lookup_applied, lookup_stepped, went_on}
use Rattle.opentype_gsub.specs.Applied.{PlaceChange, incomplete, multiple_put, one_put, put_in, sequence_put, two_byte_number}
use Rattle.opentype_gsub.specs.Came.{Begun, Frame, came_in, nth_came}
use Rattle.opentype_gsub.specs.Decided.{set_for_glyph}
use Rattle.opentype_gsub.specs.Edits.{count_in, handed_on, multiplied, replaced, sequence_glyphs}
use Rattle.opentype_gsub.specs.Looked.{lookup_looked, rules_in, subtable_looked, tried}
use Rattle.opentype_gsub.specs.Machine.{MachineStep, machine_stepped, nested, started}
use Rattle.opentype_gsub.specs.Setting.{Setting, is_seen, sights_of}
use Rattle.opentype_gsub.specs.Substituted.{applied, limit_in, setting_for, substituted}
use Rattle.opentype_gsub.specs.declared.pass.LookupUse.{LookupUse}
use Rattle.opentype_gsub.specs.declared.pass.Sights.{Sights}
use Rattle.opentype_gsub.proofs.Machines.{came_is}
use Rattle.opentype_font.specs.Lookups.{substituted_by, use_for}
use Rattle.opentype_break_laws.specs.Sequences.{ComparesNumbers, FirstStays, GoesBehind, PutsSequences, StayOrGo, TakesSequences, glyphs_of_all, glyphs_of_one, sequence_for}
use Rattle.opentype_break_laws.proofs.ByGlyph.{first_mapped, next_step, no_step, ruleless}
use Rattle.opentype_break_laws.proofs.LigatureBorders.{clusters_at}
use Rattle.opentype_break_laws.proofs.LigatureFits.{essence}
use Rattle.opentype_break_laws.proofs.SequenceCuts.{ended_before, cut_clear, ending, ends_in, ends_with}
use Rattle.opentype_break_laws.proofs.SequenceViews.{AllBeside, Beside, IsSpread, Paired, StandsFor, as_beside, beside_as, is_spread, many_long, sequence_long, so_many, spread, spread_beside, spread_by, spread_out, spread_paired}

-- ---- ALONG A TEXT

-- a text that ends in the cluster of a glyph, which may go behind it
abbrev CanGo : Glyphs → Glyph → Type 0
CanGo out g = (0 < length out) × (ending out ≡ g.cluster)

-- a step that puts glyphs in the place of one, where there is room for them
abbrev PutsIn : (Glyph → Glyphs) → ℕ → (Glyphs → ℕ → LookupRecord → PlaceChange) → Type 0
PutsIn f limit step = (out : Glyphs) (g : Glyph) (gs : Glyphs) (r : LookupRecord) → ((0 < length (f g)) ⊎ CanGo out g)
    → length out + (max 1 (length (f g)) + length gs) ≤ limit → step (out ++ (g ∷ gs)) (length out) r
    ≡ record { text = out ++ (f g ++ gs); next = length out + length (f g); lookups = r }

-- each glyph that goes has the cluster of the one before it
abbrev Follow : (Glyph → Glyphs) → ℕ → Glyphs → Type 0
Follow f c [] = Unit {0}
Follow f c (g ∷ gs) = ((0 < length (f g)) ⊎ (g.cluster ≡ c)) × Follow f g.cluster gs

-- how long the text gets at most
abbrev peak : (Glyph → Glyphs) → Glyphs → ℕ
peak f [] = 0
peak f (g ∷ gs) = max 1 (length (f g)) + peak f gs

peak_long : (f : Glyph → Glyphs) (gs : Glyphs) → length gs ≤ peak f gs
peak_long f [] = omega arith
peak_long f (g ∷ gs) = omega (arith, peak_long f gs)

ends_done : (out : Glyphs) (g : Glyph) (xs : Glyphs) (c : ℕ) → ending out ≡ c → AllByRecursion (StandsFor g) xs
    → ((0 < length xs) ⊎ (g.cluster ≡ c)) → ending (out ++ xs) ≡ g.cluster
ends_done out g [] c e all (inl stays) = absurd (omega (arith, stays))
ends_done out g [] c e all (inr goes) = ap ending (append-nil out) ∙ e ∙ sym goes
ends_done out g (x ∷ xs) c e all stays = ends_with out (x ∷ xs) (omega arith) ∙ ends_in g (x ∷ xs) (omega arith) all

may_go : (n : ℕ) (out : Glyphs) (g : Glyph) (c : ℕ) → 0 < length out → ending out ≡ c → ((0 < n) ⊎ (g.cluster ≡ c))
    → ((0 < n) ⊎ CanGo out g)
may_go n out g c some e (inl stays) = inl stays
may_go n out g c some e (inr goes) = inr (some, e ∙ sym goes)

abbrev with_text : LookupRecord → Glyphs → ℕ → PlaceChange
with_text r x n = record { text = x; next = n; lookups = r }

one_step : (f : Glyph → Glyphs) (limit : ℕ) (step : Glyphs → ℕ → LookupRecord → PlaceChange) → PutsIn f limit step
    → (out : Glyphs) (g : Glyph) (gs : Glyphs) (r : LookupRecord) → ((0 < length (f g)) ⊎ CanGo out g)
    → length out + (max 1 (length (f g)) + length gs) ≤ limit
    → lookup_applied (suc (length gs)) step (out ++ (g ∷ gs)) (length out) r
    ≡ lookup_applied (length gs) step ((out ++ f g) ++ gs) (length (out ++ f g)) r
one_step f limit step puts out g gs r stays room =
    let whole : Glyphs = out ++ (g ∷ gs) in
    let done : Glyphs = out ++ f g in
    let lt : length out < length whole = omega (arith, length-append out (g ∷ gs)) in
    let grown : out ++ (f g ++ gs) ≡ done ++ gs = sym (append_assoc out (f g) gs) in
    let place : length out + length (f g) ≡ length done = sym (length-append out (f g)) in
    let one : step whole (length out) r ≡ with_text r (done ++ gs) (length done) = puts out g gs r stays room
    ∙ ap (λ x. with_text r x (length out + length (f g))) grown ∙ ap (with_text r (done ++ gs)) place in
    next_step step (length gs) whole (length out) r (with_text r (done ++ gs) (length done)) lt one

walk_behind : (f : Glyph → Glyphs) → IsSpread f → (limit : ℕ) (step : Glyphs → ℕ → LookupRecord → PlaceChange) → PutsIn f limit step
    → (c : ℕ) (out gs : Glyphs) (r : LookupRecord) → 0 < length out → ending out ≡ c → Follow f c gs
    → length out + peak f gs ≤ limit
    → lookup_applied (length gs) step (out ++ gs) (length out) r ≡ record { text = out ++ spread_out f gs; lookups = r }
walk_behind f is limit step puts c out [] r some e follow room = no_step step (out ++ []) (length out) r
walk_behind f is limit step puts c out (g ∷ gs) r some e follow room =
    let done : Glyphs = out ++ f g in
    let long : length done ≡ length out + length (f g) = length-append out (f g) in
    let ended : Glyphs → Along = λ x. record { text = x; lookups = r } in
    one_step f limit step puts out g gs r (may_go (length (f g)) out g c some e follow.0) (omega (arith, room, peak_long f gs))
    ∙ walk_behind f is limit step puts g.cluster done gs r (omega (arith, long, some))
    (ends_done out g (f g) c e (is.each g) follow.0) follow.1 (omega (arith, room, long))
    ∙ ap ended (append_assoc out (f g) (spread_out f gs))

walk_spread : (f : Glyph → Glyphs) → IsSpread f → (limit : ℕ) (step : Glyphs → ℕ → LookupRecord → PlaceChange) → PutsIn f limit step
    → (g : Glyph) (gs : Glyphs) (r : LookupRecord) → 0 < length (f g) → Follow f g.cluster gs → peak f (g ∷ gs) ≤ limit
    → lookup_applied (length (g ∷ gs)) step (g ∷ gs) 0 r ≡ record { text = spread_out f (g ∷ gs); lookups = r }
walk_spread f is limit step puts g gs r stays follow room =
    one_step f limit step puts [] g gs r (inl stays) (omega (arith, room, peak_long f gs))
    ∙ walk_behind f is limit step puts g.cluster (f g) gs r stays (ends_in g (f g) stays (is.each g)) follow (omega (arith, room))

-- ---- A SEQUENCE AT A PLACE

-- what a sequence of so many glyphs makes of a text
abbrev put_so_many : Setting → ℕ → Glyphs → LookupRecord → List ℕ → ℕ → PlaceChange
put_so_many s at gs r sequence n =
    if n == 0 then record { text = remove (handed_on s.level at gs) at; next = at; lookups = r }
    else (if n == 1 then put_in s.gdef at gs r (u16_in sequence 2)
    else (if nat_lt (s.limit - length gs) (n - 1) then record { text = gs; next = at + 1; lookups = incomplete r }
    else record { text = multiplied s.gdef sequence at gs; next = at + n; lookups = r }))

abbrev other_than_none : Setting → ℕ → Glyphs → LookupRecord → List ℕ → ℕ → Bool → Bool → Bool → PlaceChange
other_than_none s at gs r sequence n none one short =
    if none then record { text = remove (handed_on s.level at gs) at; next = at; lookups = r }
    else (if one then put_in s.gdef at gs r (u16_in sequence 2)
    else (if short then record { text = gs; next = at + 1; lookups = incomplete r }
    else record { text = multiplied s.gdef sequence at gs; next = at + n; lookups = r }))

put_one : (s : Setting) (out : Glyphs) (g : Glyph) (gs : Glyphs) (r : LookupRecord) (sequence : List ℕ) (n : ℕ) → n ≡ 1
    → put_so_many s (length out) (out ++ (g ∷ gs)) r sequence n
    ≡ record { text = out ++ (replaced s.gdef (u16_in sequence 2) 0 g ∷ gs); next = length out + 1; lookups = r }
put_one s out g gs r sequence n e =
    let at = length out in
    let whole : Glyphs = out ++ (g ∷ gs) in
    let to = u16_in sequence 2 in
    let none : (n == 0) ≡ false = ap (λ k. k == 0) e in
    let one : (n == 1) ≡ true = ap (λ k. k == 1) e in
    let short = nat_lt (s.limit - length whole) (n - 1) in
    let with_text : Glyphs → PlaceChange = λ x. record { text = x; next = at + 1; lookups = r } in
    ap (λ b. other_than_none s at whole r sequence n b (n == 1) short) none
    ∙ ap (λ b. other_than_none s at whole r sequence n false b short) one
    ∙ ap (λ x. with_text (set whole at (replaced s.gdef to 0 x))) (get_or-append_seam out g gs default_glyph)
    ∙ ap with_text (set-append_seam out g gs (replaced s.gdef to 0 g))

multiplied_behind : (gdef sequence : List ℕ) (out : Glyphs) (g : Glyph) (gs : Glyphs)
    → multiplied gdef sequence (length out) (out ++ (g ∷ gs))
    ≡ out ++ (sequence_glyphs (count_in sequence) gdef sequence g 0 ++ gs)
unfolding multiplied
multiplied_behind gdef sequence out g gs =
    let at = length out in
    let whole : Glyphs = out ++ (g ∷ gs) in
    let n = count_in sequence in
    let done : Glyphs = out ++ (g ∷ []) in
    let front : take at whole ≡ out = take_at out (g ∷ gs) at refl in
    let long : length done ≡ at + 1 = length-append out (g ∷ []) in
    let back : drop (at + 1) whole ≡ gs = ap (drop (at + 1)) (sym (append_assoc out (g ∷ []) gs)) ∙ drop_at done gs (at + 1) long in
    ap (λ l. l ++ (sequence_glyphs n gdef sequence (glyph_at whole at) 0 ++ drop (at + 1) whole)) front
    ∙ ap (λ x. out ++ (sequence_glyphs n gdef sequence x 0 ++ drop (at + 1) whole)) (get_or-append_seam out g gs default_glyph)
    ∙ ap (λ l. out ++ (sequence_glyphs n gdef sequence g 0 ++ l)) back

put_many : (s : Setting) (out : Glyphs) (g : Glyph) (gs : Glyphs) (r : LookupRecord) (sequence : List ℕ) (n : ℕ) → 2 ≤ n
    → length out + (n + length gs) ≤ s.limit → count_in sequence ≡ n
    → put_so_many s (length out) (out ++ (g ∷ gs)) r sequence n
    ≡ record { text = out ++ (sequence_glyphs n s.gdef sequence g 0 ++ gs); next = length out + n; lookups = r }
put_many s out g gs r sequence n many room e =
    let at = length out in
    let whole : Glyphs = out ++ (g ∷ gs) in
    let long : length whole ≡ at + suc (length gs) = length-append out (g ∷ gs) in
    let none : (n == 0) ≡ false = grind (arith, nat_tests) in
    let one : (n == 1) ≡ false = grind (arith, nat_tests) in
    let short : nat_lt (s.limit - length whole) (n - 1) ≡ false = grind (arith, nat_tests) in
    let with_text : Glyphs → PlaceChange = λ x. record { text = x; next = at + n; lookups = r } in
    ap (λ b. other_than_none s at whole r sequence n b (n == 1) (nat_lt (s.limit - length whole) (n - 1))) none
    ∙ ap (λ b. other_than_none s at whole r sequence n false b (nat_lt (s.limit - length whole) (n - 1))) one
    ∙ ap (other_than_none s at whole r sequence n false false) short
    ∙ ap with_text (multiplied_behind s.gdef sequence out g gs)
    ∙ ap (λ k. with_text (out ++ (sequence_glyphs k s.gdef sequence g 0 ++ gs))) e

-- a glyph that goes, behind one of its cluster
if_both : (b : Bool) (x gs : Glyphs) → x ≡ gs → (if b then gs else x) ≡ gs
if_both true x gs e = refl
if_both false x gs e = e

still_handed : (level : BufferClusterLevel) (out : Glyphs) (g : Glyph) (gs : Glyphs) → CanGo out g
    → handed_on level (length out) (out ++ (g ∷ gs)) ≡ out ++ (g ∷ gs)
unfolding handed_on
still_handed level out g gs goes =
    let at = length out in
    let whole : Glyphs = out ++ (g ∷ gs) in
    let here : (glyph_at whole at).cluster ≡ g.cluster = ap (λ (x : Glyph). x.cluster) (get_or-append_seam out g gs default_glyph) in
    let before : (glyph_at whole (at - 1)).cluster ≡ g.cluster = sym (clusters_at whole (at - 1))
    ∙ ended_before out (g ∷ gs) goes.0 ∙ goes.1 in
    let later : (at == 0) ≡ false = grind (arith, nat_tests, goes) in
    let level_with : nat_lt (glyph_at whole at).cluster (glyph_at whole (at - 1)).cluster ≡ false = grind (arith, nat_tests) in
    let inner : Bool → Bool → Glyphs = λ a b. (if a then (if nat_lt (at + 1) (length whole) then merge level at (at + 2) whole else whole)
    else (if b then merge level (at - 1) (at + 1) whole else whole)) in
    if_both (nat_lt (at + 1) (length whole) && ((glyph_at whole (at + 1)).cluster == (glyph_at whole at).cluster)) _ whole
    (ap (λ a. inner a (nat_lt (glyph_at whole at).cluster (glyph_at whole (at - 1)).cluster)) later ∙ ap (inner false) level_with)

remove_seam : (out : Glyphs) (g : Glyph) (gs : Glyphs) → remove (out ++ (g ∷ gs)) (length out) ≡ out ++ gs
remove_seam [] g gs = refl
remove_seam (x ∷ out) g gs = ap (λ l. x ∷ l) (remove_seam out g gs)

put_none : (s : Setting) (out : Glyphs) (g : Glyph) (gs : Glyphs) (r : LookupRecord) (sequence : List ℕ) → CanGo out g
    → put_so_many s (length out) (out ++ (g ∷ gs)) r sequence 0
    ≡ record { text = out ++ gs; next = length out + 0; lookups = r }
put_none s out g gs r sequence goes =
    let at = length out in
    let place : at ≡ at + 0 = omega arith in
    ap (λ x. with_text r (remove x at) at) (still_handed s.level out g gs goes)
    ∙ ap (λ x. with_text r x at) (remove_seam out g gs) ∙ ap (with_text r (out ++ gs)) place

put_by_count : (s : Setting) (out : Glyphs) (g : Glyph) (gs : Glyphs) (r : LookupRecord) (sequence : List ℕ) (n : ℕ)
    → ((0 < length (so_many s.gdef sequence g n)) ⊎ CanGo out g)
    → length out + (max 1 (length (so_many s.gdef sequence g n)) + length gs) ≤ s.limit → count_in sequence ≡ n
    → put_so_many s (length out) (out ++ (g ∷ gs)) r sequence n
    ≡ record {
      text = out ++ (so_many s.gdef sequence g n ++ gs);
      next = length out + length (so_many s.gdef sequence g n);
      lookups = r;
    }
put_by_count s out g gs r sequence zero (inl stays) room e = absurd (omega (arith, stays))
put_by_count s out g gs r sequence zero (inr goes) room e = put_none s out g gs r sequence goes
put_by_count s out g gs r sequence (suc zero) stays room e = put_one s out g gs r sequence 1 refl
put_by_count s out g gs r sequence (suc (suc n)) stays room e =
    let many : ℕ = suc (suc n) in
    let glyphs : Glyphs = sequence_glyphs many s.gdef sequence g 0 in
    let long : length glyphs ≡ many = sequence_long many s.gdef sequence g 0 in
    let with_next : ℕ → PlaceChange = λ k. record { text = out ++ (glyphs ++ gs); next = length out + k; lookups = r } in
    put_many s out g gs r sequence many (omega arith) (omega (arith, room, long)) e ∙ ap with_next (sym long)

-- ---- A LOOKUP AT A PLACE

mapped_twice : {X Y Z : Type 0} (f : X → Y) (h : Y → Z) (o : Option X)
    → option_map h (option_map f o) ≡ option_map (λ x. h (f x)) o
mapped_twice f h None = refl
mapped_twice f h (Some x) = refl

put_two : (s : Setting) (sight : Sight) (bytes : List ℕ) (gs : Glyphs) (at : ℕ) (r : LookupRecord)
    → one_put s sight 2 bytes gs at r ≡ option_map (sequence_put s at gs r) (set_for_glyph bytes (two_byte_number gs at))
unfolding one_put multiple_put
put_two s sight bytes gs at r = refl

abbrev as_sequence : Setting → ℕ → Glyphs → LookupRecord → List ℕ → PlaceChange ⊎ Begun
as_sequence s at gs r sequence = inl (sequence_put s at gs r sequence)

-- a lookup's table of subtables of type 2
abbrev HasSequences : List ℕ → Type 0
HasSequences table = (i : ℕ) → i < subtables_in table → type_in 7 table i ≡ 2

comes_two : (s : Setting) (table : List ℕ) (gs : Glyphs) (at : ℕ) (r : LookupRecord) → HasSequences table → at < length gs
    → came_in s table gs at r ≡ option_map (as_sequence s at gs r) (sequence_for table (two_byte_number gs at))
comes_two s table gs at r types lt =
    let sights = sights_of s.gdef s.lookup table (glyph_at gs at) in
    let number = two_byte_number gs at in
    sym (came_is s table gs at r sights lt refl)
    ∙ first_mapped (as_sequence s at gs r) (λ i. set_for_glyph (subtable_in 7 table i) number)
    (nth_came s sights table at gs r) (subtables_in table) 0
    (λ d less. (let bytes = subtable_in 7 table (0 + d) in
    ruleless s sights table at gs r (0 + d) 2 (types (0 + d) (omega (arith, less))) refl
    ∙ ap (option_map inl) (put_two s sights.input bytes gs at r)
    ∙ mapped_twice (sequence_put s at gs r) inl (set_for_glyph bytes number)))

-- nothing is looked at beside the glyph
no_rules : (kind : ℕ) (bytes : List ℕ) (number : ℕ) → kind ≡ 2 → rules_in kind bytes number ≡ None
unfolding rules_in
no_rules kind bytes number is = rw is refl

unlooked : (s : Setting) (sights : Sights) (table : List ℕ) (gs : Glyphs) (at i : ℕ) → type_in 7 table i ≡ 2
    → subtable_looked s sights table gs at i ≡ nothing at
unfolding subtable_looked
unlooked s sights table gs at i is = ap (looked_by s.gdef sights.input sights.context s.len gs at)
    (no_rules (type_in 7 table i) (subtable_in 7 table i) (two_byte_number gs at) is)

still_tried : (s : Setting) (table : List ℕ) (gs : Glyphs) (at : ℕ) → HasSequences table → tried s table gs at ≡ gs
unfolding tried lookup_looked
still_tried s table gs at types =
    let sights = sights_of s.gdef s.lookup table (glyph_at gs at) in
    kept_if (s.concat && nat_lt at (length gs)) _ gs
    (ap (λ x. unjoined x gs) (all_none _ (subtable_looked s sights table gs at) at (subtables_in table) 0
    (λ d less. unlooked s sights table gs at (0 + d) (types (0 + d) (omega (arith, less))))) ∙ unflagged at gs)

step_by : (s : Setting) (step : Glyphs → LookupRecord → List Frame → MachineStep) (out : Glyphs) (g : Glyph) (gs : Glyphs)
    (r : LookupRecord) (seen : Bool) (found : Option (List ℕ)) → ((0 < length (spread_by s.gdef seen found g)) ⊎ CanGo out g)
    → length out + (max 1 (length (spread_by s.gdef seen found g)) + length gs) ≤ s.limit
    → (let whole : Glyphs = out ++ (g ∷ gs) in let at = length out in
    let it : PlaceChange = (if seen then went_on at (started step whole r (option_map (as_sequence s at whole r) found))
    else record { text = whole; next = at + 1; lookups = r }) in it)
    ≡ record {
      text = out ++ (spread_by s.gdef seen found g ++ gs);
      next = length out + length (spread_by s.gdef seen found g);
      lookups = r;
    }
step_by s step out g gs r true (Some sequence) some room = put_by_count s out g gs r sequence (count_in sequence) some room refl
step_by s step out g gs r true None some room = refl
step_by s step out g gs r false found some room = refl

steps_spread : (s : Setting) (table : List ℕ) → HasSequences table
    → PutsIn (spread s.gdef s.lookup table) s.limit (lookup_stepped s table)
unfolding lookup_stepped nested
steps_spread s table types out g gs r some room =
    let at = length out in
    let whole : Glyphs = out ++ (g ∷ gs) in
    let here : glyph_at whole at ≡ g = get_or-append_seam out g gs default_glyph in
    let lt : at < length whole = omega (arith, length-append out (g ∷ gs)) in
    let by : Glyph → Option (PlaceChange ⊎ Begun) → PlaceChange = λ x came.
    (if is_seen s.gdef s.lookup table x then went_on at (started (machine_stepped s) whole r came)
    else record { text = whole; next = at + 1; lookups = r }) in
    let came : Glyph → Option (PlaceChange ⊎ Begun) = λ x. option_map (as_sequence s at whole r) (sequence_for table (x.glyph_id % 65536)) in
    let tries : lookup_stepped s table whole at r ≡ by (glyph_at whole at) (came_in s table whole at r) =
    rw (still_tried s table whole at types) refl in
    tries ∙ ap (by (glyph_at whole at)) (comes_two s table whole at r types lt) ∙ ap (λ x. by x (came x)) here
    ∙ step_by s (machine_stepped s) out g gs r (is_seen s.gdef s.lookup table g) (sequence_for table (g.glyph_id % 65536)) some room

-- ---- HOW MANY GLYPHS come of a text

held_by : (none rest : Bool) → (not none && rest) ≡ true → none ≡ false
held_by true rest e = absurd (false≢true e)
held_by false rest e = refl

mask_held : (gdef : List ℕ) (use_of : LookupUse) (table : List ℕ) (g : Glyph) → is_seen gdef use_of table g ≡ true
    → (bit_and g.mask use_of.mask == 0) ≡ false
unfolding is_seen
mask_held gdef use_of table g e = held_by (bit_and g.mask use_of.mask == 0) _ e

-- beside so many glyphs as the sequence has, those that come
pub record AreAsMany (long one : ℕ) : Type 0 where
  pub some : 0 < one → 0 < long
  pub most : max 1 long ≤ max 1 one

counted_if : (gdef : List ℕ) (g : Glyph) (seen none : Bool) (found : Option (List ℕ)) → (seen ≡ true → none ≡ false)
    → AreAsMany (length (spread_by gdef seen found g)) (if none then 1 else option_map_or count_in found 1)
counted_if gdef g true none (Some sequence) held =
    let n : (if none then 1 else count_in sequence) ≡ count_in sequence = ap (λ b. if b then 1 else count_in sequence) (held refl) in
    let long = many_long gdef sequence g (count_in sequence) in
    record { some = λ some. omega (arith, n, long, some); most = omega (arith, n, long) }
counted_if gdef g true none None held = record { some = λ some. omega arith; most = omega arith }
counted_if gdef g false none found held = record { some = λ some. omega arith; most = omega arith }

counted_one : (gdef : List ℕ) (use_of : LookupUse) (table : List ℕ) (g : Glyph)
    → AreAsMany (length (spread gdef use_of table g)) (glyphs_of_one use_of.mask table g)
counted_one gdef use_of table g = counted_if gdef g (is_seen gdef use_of table g) (bit_and g.mask use_of.mask == 0)
    (sequence_for table (g.glyph_id % 65536)) (mask_held gdef use_of table g)

peak_counted : (gdef : List ℕ) (use_of : LookupUse) (table : List ℕ) (gs : Glyphs)
    → peak (spread gdef use_of table) gs ≤ glyphs_of_all use_of.mask table gs
peak_counted gdef use_of table [] = omega arith
peak_counted gdef use_of table (g ∷ gs) =
    omega (arith, (counted_one gdef use_of table g).most, peak_counted gdef use_of table gs)

-- by so many, by the glyphs that come
stays_by : (n m : ℕ) (h g : Glyph) → (0 < n → 0 < m) → ((0 < n) ⊎ GoesBehind h g) → ((0 < m) ⊎ GoesBehind h g)
stays_by n m h g on (inl stays) = inl (on stays)
stays_by n m h g on (inr goes) = inr goes

pub stay_spread : (gdef : List ℕ) (use_of : LookupUse) (table : List ℕ) (h : Glyph) (gs : Glyphs)
    → StayOrGo (glyphs_of_one use_of.mask table) h gs → StayOrGo (λ g. length (spread gdef use_of table g)) h gs
stay_spread gdef use_of table h [] stays = tt
stay_spread gdef use_of table h (g ∷ gs) stays = (
  stays_by (glyphs_of_one use_of.mask table g) (length (spread gdef use_of table g)) h g (counted_one gdef use_of table g).some stays.0,
  stay_spread gdef use_of table g gs stays.1,
)

first_spread : (gdef : List ℕ) (use_of : LookupUse) (table : List ℕ) (gs : Glyphs)
    → FirstStays (glyphs_of_one use_of.mask table) gs → FirstStays (λ g. length (spread gdef use_of table g)) gs
first_spread gdef use_of table [] stays = tt
first_spread gdef use_of table (g ∷ gs) stays =
    ((counted_one gdef use_of table g).some stays.0, stay_spread gdef use_of table g gs stays.1)

-- what is room enough for every text
fits_limit : (n max_len len : ℕ) → n ≤ min max_len 65536 → n ≤ limit_in len max_len
fits_limit n max_len len le = let big = min (2 ^ 64 - 1) (len * 256) in
    let fits : (b : ℕ) → n ≤ min max_len (max 65536 b) = λ b. omega (arith, le) in fits big

-- ---- IN A BUFFER

not_back : (kind : ℕ) → kind ≡ 2 → (kind == 8) ≡ false
not_back kind e = ap (λ k. k == 8) e

-- what follows, of a text or of one beside it
abbrev FirstFollows : (Glyph → Glyphs) → Glyphs → Type 0
FirstFollows f [] = Unit {0}
FirstFollows f (g ∷ gs) = (0 < length (f g)) × Follow f g.cluster gs

walked : (f : Glyph → Glyphs) → IsSpread f → (limit : ℕ) (step : Glyphs → ℕ → LookupRecord → PlaceChange) → PutsIn f limit step
    → (gs : Glyphs) (r : LookupRecord) → FirstFollows f gs → peak f gs ≤ limit
    → lookup_applied (length gs) step gs 0 r ≡ record { text = spread_out f gs; lookups = r }
walked f is limit step puts [] r follows room = no_step step [] 0 r
walked f is limit step puts (g ∷ gs) r follows room = walk_spread f is limit step puts g gs r follows.0 follows.1 room

substituted_spread : (gdef gsub : List ℕ) (lookup : StageLookup) (b : Buffer) → PutsSequences gsub lookup
    → FirstFollows (spread gdef (use_for lookup) (lookup_in gsub lookup.index)) b.glyphs
    → glyphs_of_all lookup.mask (lookup_in gsub lookup.index) b.glyphs ≤ min b.max_len 65536
    → (substituted_by gdef gsub lookup b).glyphs
    ≡ spread_out (spread gdef (use_for lookup) (lookup_in gsub lookup.index)) b.glyphs
unfolding substituted applied
substituted_spread gdef gsub lookup b puts follows room =
    let table = lookup_in gsub lookup.index in
    let s = setting_for gdef gsub (use_for lookup) b in
    let f : Glyph → Glyphs = spread gdef (use_for lookup) table in
    let forwards = not_back (type_in 7 table 0) (puts.types 0 puts.some) in
    let fits : peak f b.glyphs ≤ s.limit = fits_limit (peak f b.glyphs) b.max_len (length b.glyphs)
    (omega (arith, peak_counted gdef (use_for lookup) table b.glyphs, room)) in
    let over = walked f (is_spread gdef (use_for lookup) table) s.limit (lookup_stepped s table)
    (steps_spread s table puts.types) b.glyphs b.lookups follows fits in
    rw forwards (ap (λ (x : Along). x.text) over)

-- ---- THE PIECES

one_alike : (mask : ℕ) (table : List ℕ) → mask % 8 ≡ 0 → (g h : Glyph) → essence g ≡ essence h
    → glyphs_of_one mask table g ≡ glyphs_of_one mask table h
one_alike mask table flagless g h e =
    let made : ℕ → ℕ → ℕ = λ held number. if held == 0 then 1 else option_map_or count_in (sequence_for table number) 1 in
    ap (λ n. made n (g.glyph_id % 65536)) (sym (mask_read g.mask mask flagless))
    ∙ ap (λ (x : Glyph). made (bit_and x.mask mask) (x.glyph_id % 65536)) e
    ∙ ap (λ n. made n (h.glyph_id % 65536)) (mask_read h.mask mask flagless)

room_alike : (test : LigProps → LigProps → Bool) (mask : ℕ) (table : List ℕ) → mask % 8 ≡ 0 → (gs hs : Glyphs) → AllBeside test gs hs
    → glyphs_of_all mask table gs ≡ glyphs_of_all mask table hs
room_alike test mask table flagless [] [] all = refl
room_alike test mask table flagless [] (h ∷ hs) all = absurd all
room_alike test mask table flagless (g ∷ gs) [] all = absurd all
room_alike test mask table flagless (g ∷ gs) (h ∷ hs) all =
    omega (arith, one_alike mask table flagless g h all.0.alike, room_alike test mask table flagless gs hs all.1.1)

paired_long : (test : LigProps → LigProps → Bool) (xs ys : Glyphs) → Paired test xs ys → length xs ≡ length ys
paired_long test [] [] pairs = refl
paired_long test [] (y ∷ ys) pairs = absurd pairs
paired_long test (x ∷ xs) [] pairs = absurd pairs
paired_long test (x ∷ xs) (y ∷ ys) pairs = ap suc (paired_long test xs ys pairs.1)

follows_by : (n m : ℕ) (x y g h : Glyph) → n ≡ m → g.cluster ≡ h.cluster → x.cluster ≡ y.cluster → ((0 < m) ⊎ GoesBehind y h)
    → ((0 < n) ⊎ (g.cluster ≡ x.cluster))
follows_by n m x y g h same one two (inl stays) = inl (omega (arith, same, stays))
follows_by n m x y g h same one two (inr goes) = inr (one ∙ goes.cluster ∙ sym two)

follow_alike : (test : LigProps → LigProps → Bool) (f : Glyph → Glyphs) → ((g h : Glyph) → Beside test g h → Paired test (f g) (f h))
    → (x y : Glyph) (gs hs : Glyphs) → x.cluster ≡ y.cluster → AllBeside test gs hs → StayOrGo (λ g. length (f g)) y hs
    → Follow f x.cluster gs
follow_alike test f pairs x y [] [] same all stays = tt
follow_alike test f pairs x y [] (h ∷ hs) same all stays = absurd all
follow_alike test f pairs x y (g ∷ gs) [] same all stays = absurd all
follow_alike test f pairs x y (g ∷ gs) (h ∷ hs) same all stays = (
  follows_by (length (f g)) (length (f h)) x y g h (paired_long test (f g) (f h) (pairs g h all.0)) all.0.cluster same stays.0,
  follow_alike test f pairs g h gs hs all.0.cluster all.1.1 stays.1,
)

first_alike : (test : LigProps → LigProps → Bool) (f : Glyph → Glyphs) → ((g h : Glyph) → Beside test g h → Paired test (f g) (f h))
    → (gs hs : Glyphs) → AllBeside test gs hs → FirstStays (λ g. length (f g)) hs → FirstFollows f gs
first_alike test f pairs [] [] all stays = tt
first_alike test f pairs [] (h ∷ hs) all stays = absurd all
first_alike test f pairs (g ∷ gs) [] all stays = absurd all
first_alike test f pairs (g ∷ gs) (h ∷ hs) all stays = (
  omega (arith, paired_long test (f g) (f h) (pairs g h all.0), stays.0),
  follow_alike test f pairs g h gs hs all.0.cluster all.1.1 stays.1,
)

-- the text itself
follow_own : (f : Glyph → Glyphs) (x : Glyph) (gs : Glyphs) → StayOrGo (λ g. length (f g)) x gs → Follow f x.cluster gs
follow_own f x [] stays = tt
follow_own f x (g ∷ gs) stays = (follows_by (length (f g)) (length (f g)) x x g g refl refl refl stays.0, follow_own f g gs stays.1)

first_own : (f : Glyph → Glyphs) (gs : Glyphs) → FirstStays (λ g. length (f g)) gs → FirstFollows f gs
first_own f [] stays = tt
first_own f (g ∷ gs) stays = (stays.0, follow_own f g gs stays.1)

all_both : (mask : ℕ) (table : List ℕ) (xs ys : Glyphs)
    → glyphs_of_all mask table (xs ++ ys) ≡ glyphs_of_all mask table xs + glyphs_of_all mask table ys
all_both mask table [] ys = omega arith
all_both mask table (x ∷ xs) ys = omega (arith, all_both mask table xs ys)

piece_made : (numbered : Numbering) (compares : ComparesNumbers numbered) (text : Buffer) (gdef gsub : List ℕ) (lookup : StageLookup)
    (part made : Glyphs) → PutsSequences gsub lookup
    → FirstStays (λ g. length (spread gdef (use_for lookup) (lookup_in gsub lookup.index) g)) part
    → glyphs_of_all lookup.mask (lookup_in gsub lookup.index) part ≤ min text.max_len 65536
    → spread_out (spread gdef (use_for lookup) (lookup_in gsub lookup.index)) part ≡ made
    → (one : Buffer) → IsPiece numbered text part one → AreAsIn numbered made (substituted_by gdef gsub lookup one).glyphs
piece_made numbered compares text gdef gsub lookup part made puts stays room is one piece =
    let table = lookup_in gsub lookup.index in
    let f : Glyph → Glyphs = spread gdef (use_for lookup) table in
    let pairs = spread_paired numbered compares gdef (use_for lookup) table (λ m. mask_read m lookup.mask puts.flagless) in
    let beside : AllBeside compares.test one.glyphs part = as_beside numbered compares part one.glyphs piece.same in
    let own = room_alike compares.test lookup.mask table puts.flagless one.glyphs part beside in
    let own_room : glyphs_of_all lookup.mask table one.glyphs ≤ min one.max_len 65536 =
    subst (λ n. glyphs_of_all lookup.mask table one.glyphs ≤ min n 65536) (sym piece.room)
    (subst (λ n. n ≤ min text.max_len 65536) (sym own) room) in
    let result = substituted_spread gdef gsub lookup one puts (first_alike compares.test f pairs one.glyphs part beside stays) own_room in
    let spreads = spread_beside compares.test f (is_spread gdef (use_for lookup) table) pairs one.glyphs part beside stays in
    subst (AreAsIn numbered made) (sym result) (beside_as numbered compares made (spread_out f one.glyphs)
    (subst (AllBeside compares.test (spread_out f one.glyphs)) is spreads))

pub sequences_leave : (numbered : Numbering) (compares : ComparesNumbers numbered) (text : Buffer) (gdef gsub : List ℕ)
    (lookup : StageLookup) (b : Buffer) → PutsSequences gsub lookup → TakesSequences text gsub lookup b
    → LookupLeaves numbered text (substituted_by gdef gsub) lookup b
sequences_leave numbered compares text gdef gsub lookup b puts takes front back cut =
    let table = lookup_in gsub lookup.index in
    let f : Glyph → Glyphs = spread gdef (use_for lookup) table in
    let stays = first_spread gdef (use_for lookup) table b.glyphs takes.stays in
    let made = substituted_spread gdef gsub lookup b puts (first_own f b.glyphs stays) takes.room in
    let it = cut_clear f (is_spread gdef (use_for lookup) table) b.glyphs front back stays
    (subst (λ gs. CutWhereClear gs front back) made cut) in
    let all : glyphs_of_all lookup.mask table b.glyphs
    ≡ glyphs_of_all lookup.mask table it.before + glyphs_of_all lookup.mask table it.behind =
    ap (glyphs_of_all lookup.mask table) it.pieces.parts ∙ all_both lookup.mask table it.before it.behind in
    let room : glyphs_of_all lookup.mask table b.glyphs ≤ min text.max_len 65536 =
    subst (λ n. glyphs_of_all lookup.mask table b.glyphs ≤ min n 65536) takes.size takes.room in
    record {
      before = it.before;
      behind = it.behind;
      pieces = it.pieces;
      first = piece_made numbered compares text gdef gsub lookup it.before front puts it.before_stays (omega (arith, all, room)) it.first;
      second = piece_made numbered compares text gdef gsub lookup it.behind back puts it.behind_stays (omega (arith, all, room)) it.second;
    }
