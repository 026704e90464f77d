-- The caller's choices, as the plan has them and what shapers keep in it.
use Rattle.std.specs.Prelude.{◌≡◌, [], ◌∷◌, None, Some, false, option_map, refl, true}
use Rattle.shapers_base.specs.Map.{Map}
use Rattle.shapers_base.specs.Plan.{as_arabic, as_indic, new_plan}
use Rattle.shapers_base.specs.declared.plan.arabic.StretchStart.TheVariants as starts
use Rattle.shapers_base.specs.declared.plan.breaks.BreakFlags.TheVariants as breaks
use Rattle.shapers_base.specs.declared.plan.hb_ot_shape_plan_t.{hb_ot_shape_plan_t}
use Rattle.shapers_base.specs.declared.plan.indic.BaseSearch.TheVariants.{AllConsonants, WithoutMedials}
use Rattle.shapers_base.specs.declared.plan.indic.ZeroContext.TheVariants.{NewSpec, OldSpec}
use Rattle.rustybuzz_shapers.specs.declared.shaper.hb_ot_shaper_t.TheVariants.{Arabic, Indic}
use Rattle.shapers_plan.specs.Planning.{default_choices, hooks_plan}
use Rattle.shapers_plan.specs.declared.ot_shape_plan.choices.ShapeChoices.{ShapeChoices}

abbrev choices_of : hb_ot_shape_plan_t → ShapeChoices
choices_of p = record {
  stretch_start = p.stretch_start;
  break_flags = p.break_flags;
  base_search = p.base_search;
  zero_context = p.zero_context;
}

abbrev centred : ShapeChoices
centred = record default_choices { stretch_start = starts.Centred }

abbrev sound : ShapeChoices
sound = record default_choices { break_flags = breaks.Sound }

abbrev all_consonants : ShapeChoices
all_consonants = record default_choices { base_search = AllConsonants }

abbrev in_new_spec : ShapeChoices
in_new_spec = record default_choices { zero_context = NewSpec }

-- each by its name
each : default_choices ≡ record {
  stretch_start = starts.AsCode;
  break_flags = breaks.AsCode;
  base_search = WithoutMedials;
  zero_context = OldSpec;
}
each = refl

-- a plan has its caller's, and by default those of a new one
of_plan : (map : Map) (choices : ShapeChoices) → choices_of (hooks_plan None None choices map) ≡ choices
of_plan map choices = refl

of_new : (map : Map) → choices_of (new_plan None map) ≡ default_choices
of_new map = refl

-- what shapers keep of them
stretched : (map : Map) → option_map (λ p. p.stretch_start) (as_arabic (hooks_plan (Some Arabic) None centred map).plan_data)
    ≡ Some starts.Centred
stretched map = refl

flagged : (map : Map) → option_map (λ p. p.break_flags) (as_arabic (hooks_plan (Some Arabic) None sound map).plan_data)
    ≡ Some breaks.Sound
flagged map = refl

searched : (map : Map) → option_map (λ p. p.base_search)
    (as_indic (hooks_plan (Some Indic) None all_consonants map).plan_data) ≡ Some AllConsonants
searched map = refl

-- and the questions that Indic keeps: a script without an older specification has the newer one
asked : (map : Map) → option_map (λ p. p.is_old_spec ∷ p.rphf.zero_context ∷ p.vatu.zero_context ∷ [])
    (as_indic (hooks_plan (Some Indic) None in_new_spec map).plan_data) ≡ Some (false ∷ true ∷ true ∷ [])
asked map = refl
