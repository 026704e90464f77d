-- Whether GPOS is applied.
use Prim.Native.String.{String}
use Rattle.std.specs.Prelude.{◌≡◌, Bool, true, false, [], Option, None, Some, codes, refl}
use Rattle.rustybuzz_shapers.specs.declared.shaper.hb_ot_shaper_t.TheVariants.{Arabic, Hebrew}
use Rattle.shapers_base.specs.declared.map.TableIndex.TheVariants.{GPOS, GSUB}
use Rattle.shapers_plan.specs.FontFeatures.{FontTables}
use Rattle.shapers_plan.specs.Planning.{takes_gpos}

-- a font with the one table or the other, and the script chosen in GPOS, where GSUB has hebr
abbrev font : Bool → Bool → Option String → FontTables
font gsub gpos script = record {
  there = elim [ GSUB ↦ gsub | GPOS ↦ gpos ];
  chosen = elim [
    | GSUB ↦ Some (record { 0 = codes "hebr" })
    | GPOS ↦ elim script
        [ None ↦ None | Some tag ↦ Some (record { 0 = codes tag }) ]
  ];
  found = λ _. false;
  lookups = λ _ _. None;
  anywhere = λ _ _. None;
  required = λ _. None;
  required_lookups = λ _. [];
}

-- Hebrew wants its own script there
hebrew : takes_gpos (font true true (Some "hebr")) (Some Hebrew) ≡ true
hebrew = refl

other_script : takes_gpos (font true true (Some "latn")) (Some Hebrew) ≡ false
other_script = refl

no_script : takes_gpos (font true true None) (Some Hebrew) ≡ false
no_script = refl

-- others, and text without a shaper, take any script, or none
any_script : takes_gpos (font false true (Some "latn")) (Some Arabic) ≡ true
any_script = refl

arabic_without : takes_gpos (font false true None) (Some Arabic) ≡ true
arabic_without = refl

without_shaper : takes_gpos (font false true None) None ≡ true
without_shaper = refl

-- and none without the table
no_table : takes_gpos (font true false (Some "hebr")) (Some Hebrew) ≡ false
no_table = refl

no_table_either : takes_gpos (font true false None) None ≡ false
no_table_either = refl
