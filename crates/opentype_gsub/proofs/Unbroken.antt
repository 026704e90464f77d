-- Flags change no cluster.
use Rattle.std.proofs.Common.{◌≡◌, ℕ, ◌-◌, ◌≤◌, ◌&&◌, min, Bool, true, false, nat_le, nat_lt, List, length, refl, arith, if◌then◌else◌}
use Rattle.std.proofs.lemmas.Grind.{common_steps}
use Rattle.shapers_buffer.specs.Glyph.{clusters}
use Rattle.shapers_buffer.specs.GlyphFlags.{unsafe_inside}
use Rattle.shapers_buffer.specs.Glyphs.{Glyphs}
use Rattle.shapers_clusters.proofs.FlagCalls.{map-unsafe_inside, map-unsafe_to_concat_in}
use Rattle.shapers_buffer.specs.GlyphFlags.{unsafe_to_concat_in}
use Rattle.opentype_layout.specs.Looking.{is_short, unjoined}
use Rattle.opentype_gsub.specs.Flagged.{unbroken}
use Rattle.opentype_gsub.specs.Looked.{lookup_looked, tried}
use Rattle.opentype_gsub.specs.Reversed.{all_looked_back, tried_back}
use Rattle.opentype_gsub.specs.Setting.{Setting, sights_of}
use Rattle.opentype_layout.specs.declared.looking.Stretch.{Stretch}
use Rattle.opentype_layout.specs.Text.{glyph_at}

flag_if : (test : Bool) (s e : ℕ) (gs : Glyphs) → (test ≡ true → s ≤ e) →
    clusters (if test then unsafe_inside s e gs else gs) ≡ clusters gs
flag_if true s e gs h = map-unsafe_inside (λ g. g.cluster) (λ g. refl) s e gs (h refl)
flag_if false s e gs h = refl

pub unbroken_same : (old_len start stop : ℕ) (gs : Glyphs) →
    clusters (unbroken old_len start stop gs) ≡ clusters gs
unfolding unbroken
unbroken_same old_len start stop gs = let end = min (length gs) stop in
    flag_if (nat_le start end && is_short (end - start) old_len (length gs)) start end gs
    (λ t. grind (arith, common_steps, t))

-- a whole text
pub all_unbroken_same : (gs : Glyphs) → clusters (unsafe_inside 0 (length gs) gs) ≡ clusters gs
all_unbroken_same gs = map-unsafe_inside (λ g. g.cluster) (λ g. refl) 0 (length gs) gs (omega arith)

join_if : (test : Bool) (s e : ℕ) (gs : Glyphs) → (test ≡ true → s ≤ e) →
    clusters (if test then unsafe_to_concat_in true s e gs else gs) ≡ clusters gs
join_if true s e gs h = map-unsafe_to_concat_in (λ g. g.cluster) (λ g. refl) true s e gs (h refl)
join_if false s e gs h = refl

unjoined_same : (looked : Stretch) (gs : Glyphs) → clusters (unjoined looked gs) ≡ clusters gs
unfolding unjoined
unjoined_same looked gs = let end = min (length gs) looked.stop in
    join_if (nat_lt looked.start end) looked.start end gs (λ t. grind (arith, common_steps, t))

same_if : (test : Bool) (x gs : Glyphs) → clusters x ≡ clusters gs → clusters (if test then x else gs) ≡ clusters gs
same_if true x gs e = e
same_if false x gs e = refl

pub tried_same : (s : Setting) (lookup : List ℕ) (gs : Glyphs) (at : ℕ) → clusters (tried s lookup gs at) ≡ clusters gs
unfolding tried
tried_same s lookup gs at = let sights = sights_of s.gdef s.lookup lookup (glyph_at gs at) in
    same_if (s.concat && nat_lt at (length gs)) _ gs (unjoined_same (lookup_looked s sights lookup gs at) gs)

pub tried_back_same : (s : Setting) (lookup : List ℕ) (gs : Glyphs) (at : ℕ) →
    clusters (tried_back s lookup gs at) ≡ clusters gs
unfolding tried_back
tried_back_same s lookup gs at = let sights = sights_of s.gdef s.lookup lookup (glyph_at gs at) in
    same_if s.concat _ gs (unjoined_same (all_looked_back s.gdef sights lookup gs at) gs)
