-- Steps of the loops that write syllable bytes.
use Rattle.std.proofs.Common.{◌≡◌, ℕ, suc, ◌+◌, ◌≤◌, List, [], ◌∷◌, ◌++◌, map, length, take, drop, replicate, refl, arith, zero, length-append, length-take-le, append_assoc}
use Rattle.std.proofs.lemmas.List.{length-map, take_at, drop_at, drop-drop}
use Rattle.std.proofs.lemmas.Grind.{common_steps}
use Rattle.shapers_buffer.specs.Glyphs.{Glyphs}
use Rattle.shapers_buffer.specs.Clusters.{with_stretch}
use Rattle.shapers_buffer.specs.Syllables.{in_syllable, with_bytes}

-- one byte for the first n glyphs, and the other bytes for the rest
pub with_bytes-replicate : (n byte : ℕ) (gs : Glyphs) (bytes : List ℕ) → n ≤ length gs
    → with_bytes gs (replicate n byte ++ bytes) ≡ map (in_syllable byte) (take n gs) ++ with_bytes (drop n gs) bytes
with_bytes-replicate zero byte gs bytes h = refl
with_bytes-replicate (suc n) byte [] bytes h = absurd (omega arith)
with_bytes-replicate (suc n) byte (g ∷ gs) bytes h = cc (with_bytes-replicate n byte gs bytes (omega arith))

-- after a span of n glyphs
pub bytes_next : (gs : Glyphs) (start n byte : ℕ) (bytes : List ℕ) → start + n ≤ length gs → let hs =
    with_stretch start (start + n) (map (in_syllable byte)) gs in take (start + n) hs
    ++ with_bytes (drop (start + n) hs) bytes ≡ take start gs ++ with_bytes (drop start gs) (replicate n byte ++ bytes)
bytes_next gs start n byte bytes h =
    let front = take start gs in
    let middle = map (in_syllable byte) (take n (drop start gs)) in
    let rest = drop (start + n) gs in
    let room : n ≤ length (drop start gs) = grind (arith, common_steps) in
    let long : length (front ++ middle) ≡ start + n = rw (
      length-append front middle,
      length-map (take n (drop start gs)) (in_syllable byte),
      length-take-le start gs (omega arith),
      length-take-le n (drop start gs) room,
    ) refl in
    search (
      arith,
      append_assoc,
      refl,
      take_at,
      drop_at (front ++ middle) rest (start + n) long,
      with_bytes-replicate n byte (drop start gs) bytes room,
      drop-drop n start gs,
    )
