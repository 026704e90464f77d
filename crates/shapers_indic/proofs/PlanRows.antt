-- What Indic keeps in the plan, computed: the table of scripts row by row, specifications, contexts, masks.
use Prim.Native.String.{String}
use Rattle.std.specs.Prelude.{◌≡◌, ℕ, true, false, List, [], ◌∷◌, map, length, Option, None, Some, codes, refl}
use Rattle.shapers_buffer.specs.declared.buffer.tag.Script.{Script}
use Rattle.shapers_buffer.specs.declared.buffer.tag.hb_tag_t.{hb_tag_t}
use Rattle.shapers_base.specs.Map.{Map}
use Rattle.shapers_base.specs.declared.map.feature_map_t.{feature_map_t}
use Rattle.shapers_base.specs.declared.plan.indic.BaseSearch.TheVariants.{WithoutMedials, AllConsonants}
use Rattle.shapers_base.specs.declared.plan.indic.ZeroContext.TheVariants.{NewSpec, OldSpec}
use Rattle.shapers_base.specs.declared.plan.indic.BlwfMode.TheVariants.{PreAndPost, PostOnly}
use Rattle.shapers_base.specs.declared.plan.indic.IndicConfig.{IndicConfig}
use Rattle.shapers_base.specs.declared.plan.indic.RephMode.TheVariants.{Implicit, Explicit, LogRepha}
use Rattle.shapers_base.specs.declared.plan.indic.RephPosition.TheVariants.{AfterMain, BeforeSub, AfterSub, BeforePost, AfterPost}
use Rattle.shapers_indic.specs.Plan.{config_of, has_old_spec, zero_context, feature_masks, indic_plan, scripts}

abbrev script : String → Option Script
script tag = Some (record { 0 = codes tag })

abbrev row_of : String → IndicConfig
row_of tag = config_of (script tag)

-- the rows, cell by cell: column by column, in the order Deva Beng Guru Gujr Orya Taml Telu Knda
-- Mlym Sinh, then Thai, which is any other
abbrev tags : List String
tags = "Deva" ∷ "Beng" ∷ "Guru" ∷ "Gujr" ∷ "Orya" ∷ "Taml" ∷ "Telu" ∷ "Knda" ∷ "Mlym" ∷ "Sinh" ∷ "Thai" ∷ []

old_specs : map (λ t. (row_of t).has_old_spec) tags ≡ true ∷ true ∷ true ∷ true ∷ true ∷ true ∷ true ∷ true ∷ true
    ∷ false ∷ false ∷ []
old_specs = refl

viramas : map (λ t. (row_of t).virama) tags ≡ 0x094D ∷ 0x09CD ∷ 0x0A4D ∷ 0x0ACD ∷ 0x0B4D ∷ 0x0BCD ∷ 0x0C4D ∷ 0x0CCD
    ∷ 0x0D4D ∷ 0x0DCA ∷ 0 ∷ []
viramas = refl

reph_positions : map (λ t. (row_of t).reph_pos) tags ≡ BeforePost ∷ AfterSub ∷ BeforeSub ∷ BeforePost ∷ AfterMain
    ∷ AfterPost ∷ AfterPost ∷ AfterPost ∷ AfterMain ∷ AfterPost ∷ BeforePost ∷ []
reph_positions = refl

modes : map (λ t. (row_of t).reph_mode) tags ≡ Implicit ∷ Implicit ∷ Implicit ∷ Implicit ∷ Implicit ∷ Implicit
    ∷ Explicit ∷ Implicit ∷ LogRepha ∷ Explicit ∷ Implicit ∷ []
modes = refl

blwf_modes : map (λ t. (row_of t).blwf_mode) tags ≡ PreAndPost ∷ PreAndPost ∷ PreAndPost ∷ PreAndPost ∷ PreAndPost
    ∷ PreAndPost ∷ PostOnly ∷ PostOnly ∷ PreAndPost ∷ PreAndPost ∷ PreAndPost ∷ []
blwf_modes = refl

each_its_own : map (λ t. (row_of t).script) tags ≡ script "Deva" ∷ script "Beng" ∷ script "Guru" ∷ script "Gujr"
    ∷ script "Orya" ∷ script "Taml" ∷ script "Telu" ∷ script "Knda" ∷ script "Mlym" ∷ script "Sinh" ∷ None ∷ []
each_its_own = refl

no_more_rows : length scripts ≡ 10
no_more_rows = refl

no_script : config_of None ≡ row_of "Thai"
no_script = refl

abbrev feature : String → ℕ → ℕ → feature_map_t
feature tag mask stage = record { tag = record { 0 = codes tag }; mask = mask; stage = stage }

abbrev map_with : List feature_map_t → Option hb_tag_t → Map
map_with features chosen = record {
  features = features;
  stages = record { start = 0; end = 2 } ∷ record { start = 2; end = 3 } ∷ [];
  lookups = 7 ∷ 8 ∷ 9 ∷ [];
  global = 0;
  chosen = chosen;
  found = true;
}

abbrev chosen : String → Map
chosen tag = map_with [] (Some (record { 0 = codes tag }))

-- the older specification: no script chosen, or one whose tag doesn't end in 2, and a script that has one
old_ones : map (has_old_spec (script "Deva")) (map_with [] None ∷ chosen "deva" ∷ chosen "dev2" ∷ chosen "dev3"
    ∷ chosen "DFLT" ∷ chosen "2222" ∷ chosen "222x" ∷ []) ≡ true ∷ true ∷ false ∷ true ∷ true ∷ false ∷ true ∷ []
old_ones = refl

only_one_specification : map (λ t. has_old_spec (script t) (chosen "sinh")) ("Sinh" ∷ "Thai" ∷ "Knda" ∷ [])
    ≡ false ∷ false ∷ true ∷ []
only_one_specification = refl

unknown_script : has_old_spec None (map_with [] None) ≡ false
unknown_script = refl

-- contexts are left out in the older specification, but for Malayalam
old_contexts : map (λ t. zero_context OldSpec (script t) (map_with [] None)) tags ≡ true ∷ true ∷ true ∷ true ∷ true ∷ true
    ∷ true ∷ true ∷ false ∷ false ∷ false ∷ []
old_contexts = refl

new_contexts : zero_context OldSpec (script "Deva") (chosen "dev2")
    ∷ zero_context OldSpec (script "Mlym") (chosen "mlm2") ∷ [] ≡ false ∷ false ∷ []
new_contexts = refl

-- or in the newer one, and of scripts that have but one; for Malayalam not in it either
newer_contexts : map (λ t. zero_context NewSpec (script t) (map_with [] None)) tags ≡ false ∷ false ∷ false ∷ false
    ∷ false ∷ false ∷ false ∷ false ∷ false ∷ true ∷ true ∷ []
newer_contexts = refl

chosen_contexts : zero_context NewSpec (script "Deva") (chosen "dev2")
    ∷ zero_context NewSpec (script "Deva") (chosen "deva") ∷ zero_context NewSpec (script "Mlym") (chosen "mlm2")
    ∷ zero_context NewSpec (script "Mlym") (chosen "mlym") ∷ zero_context NewSpec (script "Sinh") (chosen "sinh") ∷ []
    ≡ true ∷ false ∷ false ∷ false ∷ true ∷ []
chosen_contexts = refl

-- every feature of the shaper has a mask in the font; those of the whole text get none
abbrev all_features : List feature_map_t
all_features = feature "nukt" 8 0 ∷ feature "akhn" 16 0 ∷ feature "rphf" 24 0 ∷ feature "rkrf" 32 0
    ∷ feature "pref" 40 0 ∷ feature "blwf" 48 1 ∷ feature "abvf" 56 0 ∷ feature "half" 64 0 ∷ feature "pstf" 72 0
    ∷ feature "vatu" 80 0 ∷ feature "cjct" 88 0 ∷ feature "init" 96 0 ∷ feature "pres" 104 0 ∷ feature "abvs" 112 0
    ∷ feature "blws" 120 0 ∷ feature "psts" 128 0 ∷ feature "haln" 136 0 ∷ []

masks : feature_masks (map_with all_features None) ≡ 0 ∷ 0 ∷ 24 ∷ 0 ∷ 40 ∷ 48 ∷ 56 ∷ 64 ∷ 72 ∷ 0 ∷ 0 ∷ 96 ∷ 0 ∷ 0 ∷ 0
    ∷ 0 ∷ 0 ∷ []
masks = refl

no_masks : feature_masks (map_with [] None) ≡ 0 ∷ 0 ∷ 0 ∷ 0 ∷ 0 ∷ 0 ∷ 0 ∷ 0 ∷ 0 ∷ 0 ∷ 0 ∷ 0 ∷ 0 ∷ 0 ∷ 0 ∷ 0 ∷ 0 ∷ []
no_masks = refl

-- the whole plan: each question about the lookups of its own stage, with the plan's context
whole_plan : indic_plan AllConsonants OldSpec (script "Beng")
    (map_with (feature "rphf" 8 0 ∷ feature "blwf" 16 1 ∷ feature "vatu" 32 0 ∷ feature "half" 64 1 ∷ [])
    (Some (record { 0 = codes "beng" })))
    ≡ record {
      config = record {
        script = script "Beng";
        has_old_spec = true;
        virama = 0x09CD;
        reph_pos = AfterSub;
        reph_mode =
            Implicit;
        blwf_mode = PreAndPost;
      };
      is_old_spec = true;
      base_search = AllConsonants;
      rphf = record { lookups = record { start = 0; end = 2 }; zero_context = true };
      pref = record { lookups = record { start = 0; end = 0 }; zero_context = true };
      blwf = record { lookups = record { start = 2; end = 3 }; zero_context = true };
      pstf = record { lookups = record { start = 0; end = 0 }; zero_context = true };
      vatu = record { lookups = record { start = 0; end = 2 }; zero_context = true };
      mask_array = 0 ∷ 0 ∷ 8 ∷ 0 ∷ 0 ∷ 16 ∷ 0 ∷ 64 ∷ 0 ∷ 0 ∷ 0 ∷ 0 ∷ 0 ∷ 0 ∷ 0 ∷ 0 ∷ 0 ∷ [];
    }
whole_plan = refl

-- the caller's choice is kept, and nothing else depends on it
each_search : (t : String) (m : Map) →
    record (indic_plan WithoutMedials OldSpec (script t) m) { base_search = AllConsonants }
    ≡ indic_plan AllConsonants OldSpec (script t) m
each_search t m = refl

other_search : (t : String) (m : Map) → (indic_plan WithoutMedials OldSpec (script t) m).base_search ≡ WithoutMedials
other_search t m = refl
