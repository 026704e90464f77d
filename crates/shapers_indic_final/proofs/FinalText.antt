-- What the final reordering makes of a text, and of a text cut.
use Rattle.std.proofs.Common.{ℕ, ◌≤◌, ◌≡◌, Bool, if◌then◌else◌, List, [], ◌∷◌, ◌++◌, map, length, append_assoc, Option, None, Some, refl, sym, ◌∙◌, ap, subst, arith}
use Rattle.std.specs.Prelude.{All}
use Rattle.std.specs.List.{AllZip, flat_map}
use Rattle.std.specs.List.Sorted.{IsPermutation}
use Rattle.std.proofs.lemmas.List.{append-nil, length-map, map-append}
use Rattle.std.proofs.lemmas.List.Elements.{All-head, All-map, All-tail}
use Rattle.std.proofs.lemmas.List.Folds.{flat_map-map}
use Rattle.std.proofs.lemmas.List.Sorted.{All-permutation, IsPermutation-map}
use Rattle.shapers_buffer.specs.Glyphs.{Glyph, Glyphs}
use Rattle.shapers_buffer.specs.declared.buffer.level.BufferClusterLevel.{BufferClusterLevel}
use Rattle.shapers_buffer.specs.declared.buffer.tag.Script.{Script}
use Rattle.shapers_buffer.specs.Buffer.{Buffer}
use Rattle.shapers_buffer.specs.Glyph.{clusters, order_view, plain}
use Rattle.shapers_buffer.specs.GlyphFlags.{with_bits}
use Rattle.shapers_buffer.specs.Syllables.{syllables}
use Rattle.shapers_buffer.proofs.MaskBits.{or_twice}
use Rattle.shapers_clusters.specs.Flags.{FlagsFall, seen}
use Rattle.shapers_clusters.specs.Steps.{FitSteps, FitsStep, Step, after_steps}
use Rattle.shapers_clusters.proofs.Moves.{clusters-after_steps}
use Rattle.shapers_clusters.proofs.Proved.{along_holds}
use Rattle.shapers_clusters.proofs.Views.{seen-same}
use Rattle.shapers_indic_final.specs.FinalLaws.{FinallyOfHalves, SameButFirstBits, final_clusters, final_text_behind, final_text_steps, with_first_bits}
use Rattle.shapers_indic_final.specs.FinalWordStart.{FinallyLinked, FinallyReordered, bound_from, final_syllables, final_text, last_or, with_init, with_inits}
use Rattle.shapers_indic_final.specs.FinalReordering.{final_order, final_steps}
use Rattle.shapers_indic_final.specs.declared.ot_shaper_indic_final.rules.Rules.{Rules}
use Rattle.shapers_indic_final.specs.Proved.FinalLaws.{final_laws}
use Rattle.shapers_indic_final.proofs.FinalWordStartViews.{map-bound_from}
use Rattle.shapers_syllabic.specs.Borders.{MeetAtBorder}
use Rattle.shapers_syllabic.specs.Reordering.{SyllableReordered, SyllablesLinked, SyllablesReordered, carried, text_order}
use Rattle.shapers_syllabic.specs.ReorderingLaws.{ReorderLaws, TextReordered}
use Rattle.shapers_syllabic.proofs.Borders.{OfByte, border-view, one_run, syllables-append, syllables-mapped}
use Rattle.shapers_syllabic.proofs.HiddenCuts.{clusters-carried}
use Rattle.shapers_syllabic.proofs.LinkedSyllables.{text_moved}
use Rattle.shapers_syllabic.proofs.ReorderingCuts.{steps-halves}
use Rattle.shapers_syllabic.proofs.ReorderingLaws.{each_piece, nothing_lost, numbers_kept, sum-syllables, text_reordered, text_steps-long}
use Rattle.shapers_syllabic.proofs.ReorderingWalk.{length-meaning, pieces_of}

-- a reordering keeps the bytes of syllables
bytes-seen : (gs : Glyphs) → map (λ (g : Glyph). g.syllable) (seen carried gs) ≡ map (λ g. g.syllable) gs
bytes-seen [] = refl
bytes-seen (g ∷ gs) = cc (bytes-seen gs)

unmapped : (byte : ℕ) (gs : Glyphs) → All (λ b. b ≡ byte) (map (λ g. g.syllable) gs) → All (λ g. g.syllable ≡ byte) gs
unmapped byte [] h = search
unmapped byte (g ∷ gs) h = search (arith, All-head, unmapped byte gs (All-tail (λ b. b ≡ byte) g.syllable (map (λ (x : Glyph). x.syllable) gs) h))

pub kept_byte : (meaning : Glyphs → Glyphs) (steps : Glyphs → List Step) → ReorderLaws meaning steps
    → (byte : ℕ) (gs : Glyphs) → OfByte byte gs → OfByte byte (meaning gs)
kept_byte meaning steps laws byte gs u =
    let P : ℕ → Type 0 = λ b. b ≡ byte in
    let read : Glyph → ℕ = λ g. g.syllable in
    let kept = subst (λ xs. IsPermutation (seen carried
    gs) (seen carried xs)) (ap (flat_map meaning) (one_run byte gs u) ∙ append-nil (meaning gs))
    (nothing_lost meaning steps laws gs).kept in
    let before = subst (All P) (sym (bytes-seen gs)) (All-map P read gs u.all) in
    let after : All P (map read (seen carried (meaning gs))) = All-permutation P (map read (seen carried gs)) (map
    read (seen carried (meaning gs))) (IsPermutation-map read (seen carried gs) (seen carried (meaning gs)) kept)
    before in
    search (length-meaning meaning steps laws gs, unmapped byte (meaning gs) (subst (All P) (bytes-seen (meaning gs)) after))

-- the whole text
pub text_fits : (r : Rules) (script : Option Script) (level : BufferClusterLevel) (gs : Glyphs)
    → FitSteps (length gs) (final_text_steps r script gs)
text_fits r script level gs =
    let xs = order_view gs in
    let steps = final_steps r script in
    let ps = pieces_of steps (syllables xs) in
    let along = along_holds level ps gs
    (omega (arith, sum-syllables steps xs, length-map gs plain)) (each_piece FitsStep steps
    (final_laws r script).fits (syllables xs)) in
    search (text_steps-long steps gs)

-- What the pause comes to: the order view, what is carried along, and clusters.
pub record Finished (r : Rules) (old mid new : Buffer) : Type 0 where
  pub order : order_view new.glyphs ≡ final_text r old.script (order_view old.glyphs)
  pub flags : map carried new.glyphs
      ≡ map carried (bound_from 0 None (final_syllables r old.script (order_view old.glyphs)) mid.glyphs)
  pub seen_same : seen carried new.glyphs ≡ seen carried mid.glyphs
  pub clusters_same : clusters new.glyphs ≡ clusters mid.glyphs
  pub text : TextReordered (final_steps r old.script) old mid
  pub clusters_are : clusters new.glyphs ≡ final_clusters r old.script old.level old.glyphs

pub finished : (r : Rules) (old new : Buffer) → (done : FinallyReordered r old new) → Finished r old done.0 new
finished r old new done =
    let mid = done.0 in
    let f = final_order r old.script in
    let steps = final_steps r old.script in
    let laws = final_laws r old.script in
    let xs = order_view old.glyphs in
    let ps : syllables (order_view mid.glyphs) ≡ final_syllables r old.script xs =
    cc (syllables-mapped f (kept_byte f steps laws) xs) in
    let bound = bound_from 0 None (final_syllables r old.script xs) mid.glyphs in
    let flags : map carried new.glyphs ≡ map carried bound = search arith in
    let stay = sym (clusters-carried new.glyphs) ∙ ap clusters flags ∙ clusters-carried bound
    ∙ map-bound_from (λ g. g.cluster) (λ g. refl) 0 None (final_syllables r old.script xs) mid.glyphs in
    let text = text_reordered f steps old mid laws done.1 in
    record {
      order = done.2.order ∙ ap (with_inits r.init None) ps;
      flags = flags;
      seen_same = seen-same carried new.glyphs bound flags ∙ map-bound_from (λ g. plain (carried g))
          (search arith) 0 None (final_syllables r old.script xs) mid.glyphs;
      clusters_same = stay;
      text = text;
      clusters_are = stay ∙ text.glyphs.clusters_are;
    }

pub none_higher : (xs ys : Glyphs) → AllZip FlagsFall xs ys → AllZip (λ a b. b ≤ a) (clusters xs) (clusters ys)
none_higher [] [] h = tt
none_higher (x ∷ xs) (y ∷ ys) h = (h.0.at_most, none_higher xs ys h.1)
none_higher _ _ h = absurd h

-- a text behind another
pub last_or-append : (before : Option Glyph) (xs ys : Glyphs)
    → last_or before (xs ++ ys) ≡ last_or (last_or before xs) ys
last_or-append before [] ys = refl
last_or-append before (x ∷ xs) ys = last_or-append (Some x) xs ys

pub inits-append : (bits : ℕ) (f : Glyphs → Glyphs) (before : Option Glyph)
    (ps qs : List Glyphs) → with_inits bits before (map f (ps ++ qs))
    ≡ with_inits bits before (map f ps) ++ with_inits bits (last_or before (flat_map f ps)) (map f qs)
inits-append bits f before [] qs = refl
inits-append bits f before (p ∷ ps) qs =
    search (append_assoc, last_or-append, inits-append bits f (last_or before (f p)) ps qs)

pub text-append : (r : Rules) (script : Option Script) (gs hs : Glyphs) → MeetAtBorder gs hs
    → final_text r script (gs ++ hs) ≡ final_text r script gs
    ++ final_text_behind r script (last_or None (text_order (final_order r script) gs)) hs
text-append = search (syllables-append, inits-append)

-- a glyph before it counts for the bits of init of the first glyph alone
bits_twice : (bits : ℕ) (g : Glyph) → with_bits bits (with_bits bits g) ≡ with_bits bits g
bits_twice = search or_twice

pub but_first : (bits : ℕ) (one two : Option Glyph) (ps : List Glyphs)
    → SameButFirstBits bits (with_inits bits one ps) (with_inits bits two ps)
but_first bits one two [] = refl
but_first bits one two ([] ∷ ps) = but_first bits one two ps
but_first bits one two ((g ∷ gs) ∷ ps) =
    let F : Bool → Glyphs = λ b. (if b then with_bits bits g ∷ gs else g ∷ gs)
    ++ with_inits bits (last_or (Some g) gs) ps in
    let given : (b : Bool) → with_first_bits bits (F b) ≡ with_bits bits g ∷
    (gs ++ with_inits bits (last_or (Some g) gs) ps) = search (arith, bits_twice) in
    search arith

-- with the bits of init on all glyphs, it is the text order
bits_init : (bits : ℕ) (before : Option Glyph) (gs : Glyphs)
    → map (with_bits bits) (with_init bits before gs) ≡ map (with_bits bits) gs
bits_init bits before [] = refl
bits_init bits before (g ∷ gs) = search (arith, bits_twice)

bits_inits : (bits : ℕ) (before : Option Glyph) (ps : List Glyphs)
    → map (with_bits bits) (with_inits bits before ps) ≡ map (with_bits bits) (flat_map (λ p. p) ps)
bits_inits bits before [] = refl
bits_inits bits before (p ∷ ps) = search (map-append, bits_init, bits_inits bits (last_or before p) ps)

pub bits_text : (r : Rules) (script : Option Script) (before : Option Glyph) (gs : Glyphs)
    → map (with_bits r.init) (final_text_behind r script before gs)
    ≡ map (with_bits r.init) (text_order (final_order r script) gs)
bits_text = search (bits_inits, flat_map-map)

pub halves : (r : Rules) (script : Option Script) (level : BufferClusterLevel) (all new gs hs : Glyphs)
    → order_view new ≡ final_text r script (order_view all) → clusters new ≡ final_clusters r script level all
    → all ≡ gs ++ hs → MeetAtBorder gs hs → FinallyOfHalves r script level gs hs new
halves r script level all new gs hs order in_clusters is border =
    let both = gs ++ hs in
    record {
      order = search (arith, map-append, text-append, border-view);
      alone = search but_first;
      in_clusters = λ none.
          cc (
            clusters-after_steps level (final_text_steps r script both) both,
            steps-halves (final_order r script) (final_steps r script) level gs hs (final_laws r script) border none,
            map-append (λ g. g.cluster) (after_steps level (final_text_steps r script gs) gs)
                (after_steps level (final_text_steps r script hs) hs),
            clusters-after_steps level (final_text_steps r script gs) gs,
            clusters-after_steps level (final_text_steps r script hs) hs,
          );
    }

-- a chain leads there
pub reordered_by_chain : (r : Rules) (old mid : Buffer) → SyllablesLinked
    (SyllableReordered (final_order r old.script) (final_steps r old.script)) old mid
    → SyllablesReordered (final_order r old.script) (final_steps r old.script) old mid
reordered_by_chain r old mid =
    let f = final_order r old.script in
    let steps = final_steps r old.script in
    text_moved (λ _. f) (λ _. steps) (SyllableReordered f steps) old mid
    (λ _. numbers_kept f steps (final_laws r old.script)) (λ s e b c done. done)

pub reordered_by_links : (r : Rules) (old new : Buffer) → FinallyLinked r old new → FinallyReordered r old new
reordered_by_links = search (arith, reordered_by_chain)
