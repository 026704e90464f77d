-- The flags of whole clusters, computed: what is kept of each set of flags, and who shares them.
use Rattle.std.specs.Prelude.{◌≡◌, ℕ, true, false, List, [], ◌∷◌, map, refl}
use Rattle.shapers_buffer.specs.declared.buffer.flags.BufferFlags.{BufferFlags}
use Rattle.shapers_buffer.specs.Glyphs.{Glyph, Glyphs}
use Rattle.shapers_buffer.specs.Glyph.{clusters, default_glyph}
use Rattle.shapers_position.specs.ClusterFlags.{cluster_groups, flags_wanted, flags_of, flags_propagated, is_flagged, joins_decided, with_flags}

abbrev wanting : ℕ → BufferFlags
wanting bits = record { 0 = bits }

abbrev glyph : ℕ → ℕ → Glyph
glyph c m = record default_glyph { cluster = c; mask = m }

abbrev masks : Glyphs → List ℕ
masks gs = map (λ g. g.mask) gs

-- all sets of the three flags
abbrev sets : List ℕ
sets = 0 ∷ 1 ∷ 2 ∷ 3 ∷ 4 ∷ 5 ∷ 6 ∷ 7 ∷ []

-- a flag is one of the lowest three bits
flagged : map (λ m. is_flagged (glyph 0 m)) (0 ∷ 1 ∷ 2 ∷ 4 ∷ 7 ∷ 8 ∷ 9 ∷ 0xFFFFFFF8 ∷ [])
    ≡ false ∷ true ∷ true ∷ true ∷ true ∷ false ∷ true ∷ false ∷ []
flagged = refl

-- unsafe to break takes the tatweel; a tatweel is unsafe to break and to concatenate
settled : map joins_decided sets ≡ 0 ∷ 1 ∷ 2 ∷ 3 ∷ 7 ∷ 1 ∷ 7 ∷ 3 ∷ []
settled = refl

-- what a buffer keeps that wants neither flag: all but unsafe to concatenate
kept_plain : map (flags_wanted (wanting 0)) sets ≡ 0 ∷ 1 ∷ 0 ∷ 1 ∷ 4 ∷ 5 ∷ 4 ∷ 5 ∷ []
kept_plain = refl

-- one that wants unsafe to concatenate: all
kept_concat : map (flags_wanted (wanting 0x40)) sets ≡ sets
kept_concat = refl

-- one that wants tatweels
kept_tatweel : map (flags_wanted (wanting 0x80)) sets ≡ 0 ∷ 1 ∷ 0 ∷ 1 ∷ 5 ∷ 1 ∷ 5 ∷ 1 ∷ []
kept_tatweel = refl

-- one that wants both
kept_both : map (flags_wanted (wanting 0xC0)) sets ≡ 0 ∷ 1 ∷ 2 ∷ 3 ∷ 7 ∷ 1 ∷ 7 ∷ 3 ∷ []
kept_both = refl

-- other flags of the buffer say nothing
kept_others : map (flags_wanted (wanting 0xFFFFFF3F)) sets ≡ 0 ∷ 1 ∷ 0 ∷ 1 ∷ 4 ∷ 5 ∷ 4 ∷ 5 ∷ []
kept_others = refl

kept_all : map (flags_wanted (wanting 0xFFFFFFFF)) sets ≡ 0 ∷ 1 ∷ 2 ∷ 3 ∷ 7 ∷ 1 ∷ 7 ∷ 3 ∷ []
kept_all = refl

-- the flags of several glyphs; features, from bit 8 on, are none
together : flags_of (glyph 0 1 ∷ glyph 0 0xFFFFFFF8 ∷ glyph 0 4 ∷ []) ≡ 5
together = refl

none_together : flags_of [] ≡ 0
none_together = refl

-- groups: neighbours of one cluster; a cluster that comes again is another group
groups : map clusters (cluster_groups (glyph 1 0 ∷ glyph 1 0 ∷ glyph 2 0 ∷ glyph 1 0 ∷ glyph 0 0 ∷ glyph 0 0 ∷ []))
    ≡ (1 ∷ 1 ∷ []) ∷ (2 ∷ []) ∷ (1 ∷ []) ∷ (0 ∷ 0 ∷ []) ∷ []
groups = refl

no_group : cluster_groups [] ≡ []
no_group = refl

one_group : map clusters (cluster_groups (glyph 4294967295 0 ∷ [])) ≡ (4294967295 ∷ []) ∷ []
one_group = refl

-- a glyph of a cluster gets the flags of each other, and keeps its features
shared : masks (flags_propagated (wanting 0x40) (glyph 0 0 ∷ glyph 3 0x10 ∷ glyph 3 0x21 ∷ glyph 3 0x80000002 ∷
    glyph 7 0x18 ∷ [])) ≡ 0 ∷ 0x13 ∷ 0x23 ∷ 0x80000003 ∷ 0x18 ∷ []
shared = refl

-- a lone glyph, too, loses what the buffer doesn't want, and a tatweel is settled there
lone : masks (flags_propagated (wanting 0) (glyph 0 7 ∷ [])) ≡ 5 ∷ []
lone = refl

lone_tatweel : masks (flags_propagated (wanting 0xC0) (glyph 0 4 ∷ glyph 1 5 ∷ [])) ≡ 7 ∷ 1 ∷ []
lone_tatweel = refl

-- a second time takes a tatweel away, since its place has become unsafe to break
second_time : masks (flags_propagated (wanting 0xC0) (flags_propagated (wanting 0xC0) (glyph 0 4 ∷ []))) ≡ 3 ∷ []
second_time = refl

-- the same cluster again, behind another one, is by itself
apart : masks (flags_propagated (wanting 0x40) (glyph 1 1 ∷ glyph 2 0 ∷ glyph 1 0 ∷ [])) ≡ 1 ∷ 0 ∷ 0 ∷ []
apart = refl

-- a tatweel at one glyph of a cluster and unsafe to break at another: no tatweel
against : masks (flags_propagated (wanting 0x80) (glyph 1 4 ∷ glyph 1 1 ∷ [])) ≡ 1 ∷ 1 ∷ []
against = refl

nothing : flags_propagated (wanting 0xC0) [] ≡ []
nothing = refl

-- all other fields stay
abbrev full : Glyph
full = record {
  glyph_id = 0x916;
  mask = 0x8000001F;
  cluster = 5;
  glyph_props = record { 0 = 0x7E };
  lig_props = record { 0 = 0xE2 };
  syllable = 0x24;
  unicode_props = record { 0 = 0x09AC };
  category = 1;
  auxiliary = 3;
}

fields : with_flags 1 full ≡ record {
  glyph_id = 0x916;
  mask = 0x80000019;
  cluster = 5;
  glyph_props = record { 0 = 0x7E };
  lig_props = record { 0 = 0xE2 };
  syllable = 0x24;
  unicode_props = record { 0 = 0x09AC };
  category = 1;
  auxiliary = 3;
}
fields = refl
