-- A text that is cut where no stretch holds both sides is broken where what was made of the halves meets.
use Rattle.std.proofs.Common.{ℕ, ◌<◌, ◌≡◌, List, ◌++◌, length, take, drop, sym, ap, ◌∙◌, arith}
use Rattle.std.specs.List.{All, Contains}
use Rattle.std.proofs.lemmas.List.{length-map, length-take-le, map-append, take-append-drop}
use Rattle.shapers_buffer.specs.Glyphs.{Glyph}
use Rattle.shapers_buffer.specs.Buffer.{Buffer}
use Rattle.shapers_buffer.specs.Glyph.{clusters}
use Rattle.shapers_clusters.specs.Cuts.{IsMonotone, ShareNone}
use Rattle.shapers_break_laws.specs.TextBreaks.{TextBroken, back_half, front_half}
use Rattle.shapers_break_laws.proofs.MarkBreaks.{halves_apart}
use Rattle.shapers_break_laws.proofs.MeetingPlaces.{UnheldAt}

pub broken_text : (hook : Buffer → Buffer → Type 0) (Joins : Buffer → Buffer → Buffer → Type 0) (old new : Buffer)
    (sts : List (ℕ × ℕ)) (p : ℕ) → IsMonotone (clusters old.glyphs)
    → ((b c : Buffer) → hook b c → All (Contains (clusters b.glyphs)) (clusters c.glyphs))
    → ((one two : Buffer) → Joins one two new → clusters new.glyphs ≡ clusters one.glyphs ++ clusters two.glyphs)
    → (at : UnheldAt (clusters old.glyphs) sts (clusters new.glyphs) p)
    → (ShareNone (take at.place old.glyphs) (drop at.place old.glyphs) → (one two : Buffer)
    → hook (front_half at.place old) one → hook (back_half at.place old) two → Joins one two new)
    → TextBroken hook Joins old new p
broken_text hook Joins old new sts p mono made in_clusters at whole =
    let cluster : Glyph → ℕ = λ g. g.cluster in
    let gs = old.glyphs in
    let q = at.place in
    let xs = take q gs in
    let ys = drop q gs in
    let within : q < length gs = omega (arith, at.within, length-map gs cluster) in
    let apart = halves_apart gs q at.some within mono at.differ in
    record {
      cut = q;
      some_in_front = at.some;
      some_behind = within;
      apart = apart;
      halves = λ one two first second.
          let joined = whole apart one two first second in
          let place = at.border (clusters xs) (clusters ys) (clusters one.glyphs) (clusters two.glyphs)
          (sym (sym (map-append cluster xs ys) ∙ ap clusters (take-append-drop q gs)))
          (length-map xs cluster ∙ length-take-le q gs (omega (arith, within))) (in_clusters one two joined)
          (made (front_half q old) one first) (made (back_half q old) two second) in
          (sym (length-map one.glyphs cluster) ∙ place, joined);
    }
