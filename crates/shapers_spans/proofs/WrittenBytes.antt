-- The loop that writes the bytes of the syllables that it finds.
use Rattle.std.proofs.Common.{◌≡◌, ℕ, suc, ◌+◌, ◌-◌, ◌*◌, ◌%◌, ◌<◌, ◌≤◌, false, ◌==◌, List, [], ◌∷◌, ◌++◌, map, drop, take, length, replicate, refl, sym, ap, subst, ◌∙◌, arith, append_assoc, length-append, length-take-le}
use Rattle.std.proofs.lemmas.Bool.{cond_both, eqb-true}
use Rattle.std.proofs.lemmas.Grind.{common_steps}
use Rattle.std.proofs.lemmas.List.{append-nil, drop_all, take_all, drop_at, drop-drop, length-drop, length-map}
use Rattle.shapers_buffer.specs.Glyphs.{Glyphs}
use Rattle.shapers_buffer.specs.declared.buffer.syllables.Span.{Span}
use Rattle.shapers_buffer.specs.Clusters.{with_stretch}
use Rattle.shapers_buffer.specs.Syllables.{in_syllable, span_byte, span_bytes, with_bytes}
use Rattle.shapers_buffer.proofs.SyllableLemmas.{bytes_next}
use Rattle.shapers_spans.specs.Grammar.{Grammar, BeginsWith, lead_spans}
use Rattle.shapers_spans.specs.Written.{AreInSyllables}
use Rattle.shapers_spans.proofs.FoundSpans.{Found, found_next, found_all}

-- the bytes up to `start` are written, those of so many spans
pub record WrittenTo (g : Grammar) (old new : Glyphs) (start n : ℕ) : Type 0 where
  pub spans : List Span
  pub found : Found g old start spans
  pub many : n ≡ length spans
  pub rest : drop start new ≡ drop start old
  pub bytes : (bs : List ℕ) → take start new ++ with_bytes (drop start new) bs
      ≡ with_bytes old (span_bytes 0 spans ++ bs)
  pub len : length new ≡ length old

bytes_more : (i : ℕ) (spans : List Span) (span : Span) → span_bytes i (spans ++ span ∷ []) ≡ span_bytes i spans
    ++ replicate span.len (span_byte (i + length spans) span)
bytes_more i [] span =
    let e : i ≡ i + 0 = omega arith in
    append-nil (replicate span.len (span_byte i span)) ∙ ap (λ k. replicate span.len (span_byte k span)) e
bytes_more i (s ∷ ss) span =
    let e : suc i + length ss ≡ i + suc (length ss) = omega arith in
    ap (λ bs. replicate s.len (span_byte i s) ++ bs) (bytes_more (suc i) ss span
    ∙ ap (λ k. span_bytes (suc i) ss ++ replicate span.len (span_byte k span)) e)
    ∙ sym (append_assoc (replicate s.len (span_byte i s)) (span_bytes (suc i) ss)
    (replicate span.len (span_byte (i + suc (length ss)) span)))

-- behind a stretch nothing changes
behind_stretch : (gs : Glyphs) (start n byte : ℕ) → start + n ≤ length gs
    → drop (start + n) (with_stretch start (start + n) (map (in_syllable byte)) gs) ≡ drop (start + n) gs
behind_stretch gs start n byte h =
    let size : start + n - start ≡ n = omega arith in
    let front = take start gs in
    let middle = map (in_syllable byte) (take n (drop start gs)) in
    let rest = drop (start + n) gs in
    let hs_is : with_stretch start (start + n) (map (in_syllable byte)) gs ≡ (front ++ middle) ++ rest =
    rw (size, append_assoc) refl in
    let room : n ≤ length (drop start gs) = grind (arith, common_steps) in
    let long : length (front ++ middle) ≡ start + n =
    rw (
      length-append front middle,
      length-map (take n (drop start gs)) (in_syllable byte),
      length-take-le start
          gs (omega arith),
      length-take-le n (drop start gs) room,
    ) refl in
    ap (drop (start + n)) hs_is ∙ drop_at (front ++ middle) rest (start + n) long

stretch_len : (gs : Glyphs) (start n byte : ℕ) → start + n ≤ length gs
    → length (with_stretch start (start + n) (map (in_syllable byte)) gs) ≡ length gs
stretch_len gs start n byte h =
    let size : start + n - start ≡ n = omega arith in
    let front = take start gs in
    let middle = map (in_syllable byte) (take n (drop start gs)) in
    let rest = drop (start + n) gs in
    let hs_is : with_stretch start (start + n) (map (in_syllable byte)) gs ≡ (front ++ middle) ++ rest =
    rw (size, append_assoc) refl in
    let room : n ≤ length (drop start gs) = grind (arith, common_steps) in
    let long : length (front ++ middle) ≡ start + n =
    rw (
      length-append front middle,
      length-map (take n (drop start gs)) (in_syllable byte),
      length-take-le start
          gs (omega arith),
      length-take-le n (drop start gs) room,
    ) refl in
    let l : length (drop (start + n) gs) ≡ length gs - (start + n) = length-drop (start + n) gs in
    ap length hs_is ∙ length-append (front ++ middle) rest
    ∙ (let e : length (front ++ middle) + length rest ≡ length gs = omega (arith, long, l, h) in e)

pub written_start : (g : Grammar) (old new : Glyphs) (start n kind : ℕ)
    → Found g old start (lead_spans start g.other) → kind ≡ g.other → n ≡ length (lead_spans start g.other)
    → new ≡ with_stretch 0 start (map (in_syllable ((0 % 15 + 1) * 16 + kind))) old → WrittenTo g old new start n
written_start g old new start n kind f k many e =
    let lead : Span = record { len = start; kind = g.other } in
    let within : 0 + start ≤ length old = (let a = f.within in omega (arith, a)) in
    let z : 0 + start ≡ start = omega arith in
    let e2 : new ≡ with_stretch 0 (0 + start) (map (in_syllable (span_byte 0 lead))) old =
    e ∙ ap (λ b. with_stretch 0 start (map (in_syllable ((0 % 15 + 1) * 16 + b))) old) k
    ∙ ap (λ m. with_stretch 0 m (map (in_syllable (span_byte 0 lead))) old) (sym z) in
    record {
      spans = lead_spans start g.other;
      found = f;
      many = many;
      rest = ap (λ m. drop m new) (sym z) ∙ ap (drop (0 + start)) e2
          ∙ behind_stretch old 0 start (span_byte 0 lead) within ∙ ap (λ m. drop m old) z;
      bytes = (λ bs.
          ap (λ m. take m new ++ with_bytes (drop m new) bs) (sym z)
          ∙ ap (λ xs. take (0 + start) xs ++ with_bytes (drop (0 + start) xs) bs) e2
          ∙ bytes_next old 0 start (span_byte 0 lead) bs within
          ∙ ap (λ cs. with_bytes old (cs ++ bs)) (lead_bytes start g.other));
      len = ap length e2 ∙ stretch_len old 0 start (span_byte 0 lead) within;
    }
  where
    lead_bytes : (m o : ℕ) → (let lead : Span = record { len = m; kind = o } in replicate m (span_byte 0 lead))
        ≡ span_bytes 0 (lead_spans m o)
    lead_bytes m o =
        let lead : Span = record { len = m; kind = o } in
        cond_both (m == 0) [] (lead ∷ []) (λ (ss : List Span). replicate m (span_byte 0 lead) ≡ span_bytes 0 ss)
        (λ h. ap (λ i. replicate i (span_byte 0 lead)) (eqb-true m 0 h))
        (λ _. sym (append-nil (replicate m (span_byte 0 lead))))

pub written_next : (g : Grammar) (old new next : Glyphs) (start n : ℕ) (span : Span)
    → WrittenTo g old new start n → BeginsWith g (drop start new) span → 0 < span.len
    → span.len ≤ length (drop start new) → span.kind ≤ 15 → g.passes (drop span.len (drop start new)) ≡ false
    → next ≡ with_stretch start (start + span.len) (map (in_syllable ((n % 15 + 1) * 16 + span.kind))) new
    → WrittenTo g old next (start + span.len) (n + 1)
written_next g old new next start n span w opens some within kind read e =
    let on = w.rest in
    let f = found_next g old start span w.spans (w.spans ++ span ∷ []) w.found
    (subst (λ xs. BeginsWith g xs span) on opens) some
    (subst (λ (xs : Glyphs). span.len ≤ length xs) on within) kind
    (subst (λ (xs : Glyphs). g.passes (drop span.len xs) ≡ false) on read) refl in
    let room : start + span.len ≤ length new =
    (let a = w.found.within in let b = w.len in omega (arith, a, b, some, within, length-drop start new)) in
    let byte = span_byte n span in
    record {
      spans = w.spans ++ span ∷ [];
      found = f;
      many = (let m = w.many in omega (arith, m, length-append w.spans (span ∷ [])));
      rest = ap (drop (start + span.len)) e ∙ behind_stretch new start span.len byte room
          ∙ sym (drop-drop span.len start new) ∙ ap (λ xs. drop span.len xs) on ∙ drop-drop span.len start old;
      bytes = (λ bs.
          ap (λ xs. take (start + span.len) xs ++ with_bytes (drop (start + span.len) xs) bs) e
          ∙ bytes_next new start span.len byte bs room
          ∙ w.bytes (replicate span.len byte ++ bs)
          ∙ ap (with_bytes old) (sym (append_assoc (span_bytes 0 w.spans) (replicate span.len byte) bs)
          ∙ ap (λ cs. cs ++ bs) (more w.many)));
      len = ap length e ∙ stretch_len new start span.len byte room ∙ w.len;
    }
  where
    more : n ≡ length w.spans → span_bytes 0 w.spans ++ replicate span.len (span_byte n span)
        ≡ span_bytes 0 (w.spans ++ span ∷ [])
    more m =
        let z : n ≡ 0 + length w.spans = omega (arith, m) in
        ap (λ k. span_bytes 0 w.spans ++ replicate span.len (span_byte k span)) z ∙ sym (bytes_more 0 w.spans span)

pub written_all : (g : Grammar) (old new : Glyphs) (start n : ℕ) → WrittenTo g old new start n
    → length new ≤ start → AreInSyllables g old new
written_all g old new start n w l =
    let l2 : length old ≤ start = (let a = w.len in omega (arith, a, l)) in
    record {
      spans = w.spans;
      found = found_all g old start w.spans w.found l2;
      bytes =
          let b = w.bytes [] in
          sym (append-nil new)
          ∙ ap (λ (xs : Glyphs). xs ++ []) (sym (take_all start new l))
          ∙ ap (λ (xs : Glyphs). take start new ++ with_bytes xs []) (sym (drop_all start new l))
          ∙ b ∙ ap (with_bytes old) (append-nil (span_bytes 0 w.spans));
    }
