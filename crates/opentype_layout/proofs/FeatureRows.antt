-- Scripts, language systems and features, on a table written out by hand (OpenType, Common Table Formats).
use Rattle.std.specs.Prelude.{ℕ, zero, suc, ◌-◌, ◌≡◌, List, [], ◌∷◌, ◌++◌, Bool, true, false, Option, None, Some, refl}
use Rattle.opentype_face.specs.Ranges.{bisect}
use Rattle.opentype_layout.specs.declared.features.Chosen.{Chosen}
use Rattle.opentype_layout.specs.Features.{any_feature_in, chosen_script_in, condition_holds, feature_in, feature_table_in, feature_tag_in, first_language_in, first_script_in, lookup_count_in, new_tag_in, nth_any, nth_failing, nth_feature, nth_holding, nth_language, nth_lookup_in, nth_script, nth_substitute, old_tag_in, required_in, script_table_in, script_tags_in, set_holds, substitute_in, substitutions_in, system_in, third_tag_in, variation_in, variations_in}
use Rattle.opentype_face.specs.Firsts.{first_from}

-- ---- the tags of a script, the newest first

tags-deva : script_tags_in 0x44657661 ≡ 0x64657633 ∷ 0x64657632 ∷ 0x64657661 ∷ []
unfolding script_tags_in third_tag_in new_tag_in old_tag_in
tags-deva = refl

tags-beng : script_tags_in 0x42656E67 ≡ 0x626E6733 ∷ 0x626E6732 ∷ 0x62656E67 ∷ []
unfolding script_tags_in third_tag_in new_tag_in old_tag_in
tags-beng = refl

tags-gujr : script_tags_in 0x47756A72 ≡ 0x676A7233 ∷ 0x676A7232 ∷ 0x67756A72 ∷ []
unfolding script_tags_in third_tag_in new_tag_in old_tag_in
tags-gujr = refl

tags-guru : script_tags_in 0x47757275 ≡ 0x67757233 ∷ 0x67757232 ∷ 0x67757275 ∷ []
unfolding script_tags_in third_tag_in new_tag_in old_tag_in
tags-guru = refl

tags-knda : script_tags_in 0x4B6E6461 ≡ 0x6B6E6433 ∷ 0x6B6E6432 ∷ 0x6B6E6461 ∷ []
unfolding script_tags_in third_tag_in new_tag_in old_tag_in
tags-knda = refl

tags-mlym : script_tags_in 0x4D6C796D ≡ 0x6D6C6D33 ∷ 0x6D6C6D32 ∷ 0x6D6C796D ∷ []
unfolding script_tags_in third_tag_in new_tag_in old_tag_in
tags-mlym = refl

tags-orya : script_tags_in 0x4F727961 ≡ 0x6F727933 ∷ 0x6F727932 ∷ 0x6F727961 ∷ []
unfolding script_tags_in third_tag_in new_tag_in old_tag_in
tags-orya = refl

tags-taml : script_tags_in 0x54616D6C ≡ 0x746D6C33 ∷ 0x746D6C32 ∷ 0x74616D6C ∷ []
unfolding script_tags_in third_tag_in new_tag_in old_tag_in
tags-taml = refl

tags-telu : script_tags_in 0x54656C75 ≡ 0x74656C33 ∷ 0x74656C32 ∷ 0x74656C75 ∷ []
unfolding script_tags_in third_tag_in new_tag_in old_tag_in
tags-telu = refl

tags-mymr : script_tags_in 0x4D796D72 ≡ 0x6D796D32 ∷ 0x6D796D72 ∷ []
unfolding script_tags_in third_tag_in new_tag_in old_tag_in
tags-mymr = refl

tags-arab : script_tags_in 0x41726162 ≡ 0x61726162 ∷ []
unfolding script_tags_in third_tag_in new_tag_in old_tag_in
tags-arab = refl

tags-zmth : script_tags_in 0x5A6D7468 ≡ 0x6D617468 ∷ []
unfolding script_tags_in third_tag_in new_tag_in old_tag_in
tags-zmth = refl

tags-hira : script_tags_in 0x48697261 ≡ 0x6B616E61 ∷ []
unfolding script_tags_in third_tag_in new_tag_in old_tag_in
tags-hira = refl

tags-laoo : script_tags_in 0x4C616F6F ≡ 0x6C616F20 ∷ []
unfolding script_tags_in third_tag_in new_tag_in old_tag_in
tags-laoo = refl

tags-yiii : script_tags_in 0x59696969 ≡ 0x79692020 ∷ []
unfolding script_tags_in third_tag_in new_tag_in old_tag_in
tags-yiii = refl

tags-nkoo : script_tags_in 0x4E6B6F6F ≡ 0x6E6B6F20 ∷ []
unfolding script_tags_in third_tag_in new_tag_in old_tag_in
tags-nkoo = refl

tags-vaii : script_tags_in 0x56616969 ≡ 0x76616920 ∷ []
unfolding script_tags_in third_tag_in new_tag_in old_tag_in
tags-vaii = refl

tags-none : script_tags_in 0 ≡ []
unfolding script_tags_in third_tag_in new_tag_in old_tag_in
tags-none = refl

-- ---- a table of version 1.1

-- Scripts DFLT, dev2 and latn, which are one: a default language system with features 0 and 1, and that
-- of MAR with feature 0, which requires feature 1
abbrev scripts : List ℕ
scripts = (0 ∷ 3 ∷ 68 ∷ 70 ∷ 76 ∷ 84 ∷ 0 ∷ 20 ∷ 100 ∷ 101 ∷ 118 ∷ 50 ∷ 0 ∷ 20 ∷ 108 ∷ 97 ∷ 116 ∷ 110 ∷ 0 ∷ 20 ∷ [])
    ++ (0 ∷ 10 ∷ 0 ∷ 1 ∷ 77 ∷ 65 ∷ 82 ∷ 32 ∷ 0 ∷ 20 ∷ [])
    ++ (0 ∷ 0 ∷ 255 ∷ 255 ∷ 0 ∷ 2 ∷ 0 ∷ 0 ∷ 0 ∷ 1 ∷ [])
    ++ (0 ∷ 0 ∷ 0 ∷ 1 ∷ 0 ∷ 1 ∷ 0 ∷ 0 ∷ [])

-- features ccmp (lookups 3 and 5) and locl (lookup 4)
abbrev features : List ℕ
features = (0 ∷ 2 ∷ 99 ∷ 99 ∷ 109 ∷ 112 ∷ 0 ∷ 14 ∷ 108 ∷ 111 ∷ 99 ∷ 108 ∷ 0 ∷ 22 ∷ []) ++ (0 ∷ 0 ∷ 0 ∷ 2 ∷ 0 ∷ 3 ∷ 0 ∷ 5 ∷ []) ++ (0 ∷ 0 ∷ 0 ∷ 1 ∷ 0 ∷ 4 ∷ [])

-- where the first axis is within -1 and 1, feature 1 has lookup 9
abbrev variations : List ℕ
variations = (0 ∷ 1 ∷ 0 ∷ 0 ∷ 0 ∷ 0 ∷ 0 ∷ 1 ∷ 0 ∷ 0 ∷ 0 ∷ 16 ∷ 0 ∷ 0 ∷ 0 ∷ 30 ∷ []) ++ (0 ∷ 1 ∷ 0 ∷ 0 ∷ 0 ∷ 6 ∷ []) ++ (0 ∷ 1 ∷ 0 ∷ 0 ∷ 192 ∷ 0 ∷ 64 ∷ 0 ∷ []) ++ (0 ∷ 1 ∷ 0 ∷ 0 ∷ 0 ∷ 1 ∷ 0 ∷ 1 ∷ 0 ∷ 0 ∷ 0 ∷ 12 ∷ []) ++ (0 ∷ 0 ∷ 0 ∷ 1 ∷ 0 ∷ 9 ∷ [])

abbrev table : List ℕ
table = (0 ∷ 1 ∷ 0 ∷ 1 ∷ 0 ∷ 14 ∷ 0 ∷ 62 ∷ 0 ∷ 0 ∷ 0 ∷ 0 ∷ 0 ∷ 90 ∷ []) ++ scripts ++ features ++ variations

abbrev chosen : ℕ → ℕ → Bool → Option Chosen
chosen script tag is_found = Some (record { script = script; tag = tag; is_found = is_found })

-- the first tag that the table has; then DFLT

script-own : chosen_script_in table (0x64657633 ∷ 0x64657632 ∷ 0x64657661 ∷ []) ≡ chosen 1 0x64657632 true
unfolding chosen_script_in first_script_in nth_script first_from bisect
script-own = refl

script-default : chosen_script_in table (0x74686169 ∷ []) ≡ chosen 0 0x44464C54 false
unfolding chosen_script_in first_script_in nth_script first_from bisect
script-default = refl

-- dflt, and latn, and none of them

script-dflt : chosen_script_in (0 ∷ 1 ∷ 0 ∷ 0 ∷ 0 ∷ 10 ∷ 0 ∷ 0 ∷ 0 ∷ 0 ∷ 0 ∷ 1 ∷ 100 ∷ 102 ∷ 108 ∷ 116 ∷ 0 ∷ 8 ∷ []) [] ≡ chosen 0 0x64666C74 false
unfolding chosen_script_in first_script_in nth_script first_from bisect
script-dflt = refl

script-latn : chosen_script_in (0 ∷ 1 ∷ 0 ∷ 0 ∷ 0 ∷ 10 ∷ 0 ∷ 0 ∷ 0 ∷ 0 ∷ 0 ∷ 1 ∷ 108 ∷ 97 ∷ 116 ∷ 110 ∷ 0 ∷ 8 ∷ []) [] ≡ chosen 0 0x6C61746E false
unfolding chosen_script_in first_script_in nth_script first_from bisect
script-latn = refl

script-none : chosen_script_in (0 ∷ 1 ∷ 0 ∷ 0 ∷ 0 ∷ 10 ∷ 0 ∷ 0 ∷ 0 ∷ 0 ∷ 0 ∷ 1 ∷ 116 ∷ 104 ∷ 97 ∷ 105 ∷ 0 ∷ 8 ∷ []) [] ≡ None
unfolding chosen_script_in first_script_in nth_script first_from bisect
script-none = refl

-- ---- language systems and their features

abbrev system : List ℕ → List ℕ
system tags = system_in (script_table_in table 1) tags

required-default : required_in (system []) ≡ None
unfolding required_in system_in first_language_in nth_language first_from bisect
required-default = refl

required-other : required_in (system (0x48494E20 ∷ [])) ≡ None
unfolding required_in system_in first_language_in nth_language first_from bisect
required-other = refl

required-mar : required_in (system (0x48494E20 ∷ 0x4D415220 ∷ [])) ≡ Some 1
unfolding required_in system_in first_language_in nth_language first_from bisect
required-mar = refl

-- A script without a default language system: HIN requires feature 3, MAR 1, dflt 2. The first tag is
-- taken that the script has, then dflt.
abbrev with_dflt : List ℕ
with_dflt = (0 ∷ 0 ∷ 0 ∷ 3 ∷ 72 ∷ 73 ∷ 78 ∷ 32 ∷ 0 ∷ 22 ∷ 77 ∷ 65 ∷ 82 ∷ 32 ∷ 0 ∷ 28 ∷ 100 ∷ 102 ∷ 108 ∷ 116 ∷ 0 ∷ 34 ∷ [])
    ++ (0 ∷ 0 ∷ 0 ∷ 3 ∷ 0 ∷ 0 ∷ []) ++ (0 ∷ 0 ∷ 0 ∷ 1 ∷ 0 ∷ 0 ∷ []) ++ (0 ∷ 0 ∷ 0 ∷ 2 ∷ 0 ∷ 0 ∷ [])

language-dflt : required_in (system_in with_dflt []) ≡ Some 2
unfolding required_in system_in first_language_in nth_language first_from bisect
language-dflt = refl

language-unknown : required_in (system_in with_dflt (0x4E455020 ∷ [])) ≡ Some 2
unfolding required_in system_in first_language_in nth_language first_from bisect
language-unknown = refl

language-third : required_in (system_in with_dflt (0x4E455020 ∷ 0x53414E20 ∷ 0x4D415220 ∷ [])) ≡ Some 1
unfolding required_in system_in first_language_in nth_language first_from bisect
language-third = refl

language-hin-mar : required_in (system_in with_dflt (0x48494E20 ∷ 0x4D415220 ∷ [])) ≡ Some 3
unfolding required_in system_in first_language_in nth_language first_from bisect
language-hin-mar = refl

language-mar-hin : required_in (system_in with_dflt (0x4D415220 ∷ 0x48494E20 ∷ [])) ≡ Some 1
unfolding required_in system_in first_language_in nth_language first_from bisect
language-mar-hin = refl

-- neither a default language system nor dflt
language-nothing : system_in (0 ∷ 0 ∷ 0 ∷ 1 ∷ 72 ∷ 73 ∷ 78 ∷ 32 ∷ 0 ∷ 10 ∷ 0 ∷ 0 ∷ 0 ∷ 3 ∷ 0 ∷ 0 ∷ []) (0x4D415220 ∷ []) ≡ []
unfolding system_in first_language_in nth_language first_from bisect
language-nothing = refl

required-nothing : required_in [] ≡ None
unfolding required_in
required-nothing = refl

feature-ccmp : feature_in table (system []) 0x63636D70 ≡ Some 0
unfolding feature_in nth_feature feature_tag_in system_in first_language_in nth_language first_from bisect
feature-ccmp = refl

feature-locl : feature_in table (system []) 0x6C6F636C ≡ Some 1
unfolding feature_in nth_feature feature_tag_in system_in first_language_in nth_language first_from bisect
feature-locl = refl

feature-mar : feature_in table (system (0x4D415220 ∷ [])) 0x6C6F636C ≡ None
unfolding feature_in nth_feature feature_tag_in system_in first_language_in nth_language first_from bisect
feature-mar = refl

any-locl : any_feature_in table 0x6C6F636C ≡ Some 1
unfolding any_feature_in nth_any feature_tag_in first_from
any-locl = refl

any-none : any_feature_in table 0x6C696761 ≡ None
unfolding any_feature_in nth_any feature_tag_in first_from
any-none = refl

tag-1 : feature_tag_in table 1 ≡ 0x6C6F636C
unfolding feature_tag_in
tag-1 = refl

tag-2 : feature_tag_in table 2 ≡ 0
unfolding feature_tag_in
tag-2 = refl

-- ---- their lookups: of the feature itself, and of the variation

count-0 : lookup_count_in (feature_table_in table 0) ≡ 2
unfolding feature_table_in substitute_in nth_substitute substitutions_in variations_in variation_in nth_holding set_holds nth_failing condition_holds first_from
count-0 = refl

first-0 : nth_lookup_in (feature_table_in table 0) 0 ≡ 3
unfolding feature_table_in substitute_in nth_substitute substitutions_in variations_in variation_in nth_holding set_holds nth_failing condition_holds first_from
first-0 = refl

second-0 : nth_lookup_in (feature_table_in table 0) 1 ≡ 5
unfolding feature_table_in substitute_in nth_substitute substitutions_in variations_in variation_in nth_holding set_holds nth_failing condition_holds first_from
second-0 = refl

count-1 : lookup_count_in (feature_table_in table 1) ≡ 1
unfolding feature_table_in substitute_in nth_substitute substitutions_in variations_in variation_in nth_holding set_holds nth_failing condition_holds first_from
count-1 = refl

first-1 : nth_lookup_in (feature_table_in table 1) 0 ≡ 9
unfolding feature_table_in substitute_in nth_substitute substitutions_in variations_in variation_in nth_holding set_holds nth_failing condition_holds first_from
first-1 = refl

count-2 : lookup_count_in (feature_table_in table 2) ≡ 0
unfolding feature_table_in substitute_in nth_substitute substitutions_in variations_in variation_in nth_holding set_holds nth_failing condition_holds first_from
count-2 = refl

-- conditions: from 0 to 0, from above 0, to below 0; values 1, 0 and below 0; another format

condition-zero : condition_holds (0 ∷ 1 ∷ 0 ∷ 0 ∷ 0 ∷ 0 ∷ 0 ∷ 0 ∷ []) ≡ true
unfolding condition_holds
condition-zero = refl

condition-above : condition_holds (0 ∷ 1 ∷ 0 ∷ 0 ∷ 0 ∷ 1 ∷ 64 ∷ 0 ∷ []) ≡ false
unfolding condition_holds
condition-above = refl

condition-below : condition_holds (0 ∷ 1 ∷ 0 ∷ 0 ∷ 192 ∷ 0 ∷ 255 ∷ 255 ∷ []) ≡ false
unfolding condition_holds
condition-below = refl

condition-value-1 : condition_holds (0 ∷ 2 ∷ 0 ∷ 1 ∷ []) ≡ true
unfolding condition_holds
condition-value-1 = refl

condition-value-0 : condition_holds (0 ∷ 2 ∷ 0 ∷ 0 ∷ []) ≡ false
unfolding condition_holds
condition-value-0 = refl

condition-value-below : condition_holds (0 ∷ 2 ∷ 255 ∷ 255 ∷ []) ≡ false
unfolding condition_holds
condition-value-below = refl

condition-another : condition_holds (0 ∷ 3 ∷ 0 ∷ 0 ∷ []) ≡ false
unfolding condition_holds
condition-another = refl

-- ---- how much is read at most

unfoldable times : ℕ → List ℕ → List ℕ
times zero bytes = []
times (suc n) bytes = bytes ++ times n bytes

-- of 257 conditions the last, which doesn't hold, isn't read; of 256 it is
abbrev conditions : ℕ → ℕ → ℕ → List ℕ
conditions high low before = (high ∷ low ∷ []) ++ times before (0 ∷ 0 ∷ 4 ∷ 6 ∷ []) ++ times (257 - before) (0 ∷ 0 ∷ 0 ∷ 0 ∷ []) ++ (0 ∷ 1 ∷ 0 ∷ 0 ∷ 0 ∷ 0 ∷ 0 ∷ 0 ∷ [])

conditions-257 : set_holds (conditions 1 1 256) ≡ true
unfolding set_holds nth_failing condition_holds first_from times
conditions-257 = refl

conditions-256 : set_holds (conditions 1 0 255) ≡ false
unfolding set_holds nth_failing condition_holds first_from times
conditions-256 = refl

-- of 513 records the last, whose conditions hold, isn't found; the last but one is
abbrev records : ℕ → List ℕ
records before = (0 ∷ 1 ∷ 0 ∷ 0 ∷ 0 ∷ 0 ∷ 2 ∷ 1 ∷ []) ++ times before (0 ∷ 0 ∷ 16 ∷ 16 ∷ 0 ∷ 0 ∷ 0 ∷ 0 ∷ []) ++ times (513 - before) (0 ∷ 0 ∷ 0 ∷ 0 ∷ 0 ∷ 0 ∷ 0 ∷ 0 ∷ []) ++ (0 ∷ 1 ∷ 0 ∷ 0 ∷ 0 ∷ 0 ∷ [])

records-513 : variation_in (records 512) ≡ None
unfolding variation_in nth_holding set_holds nth_failing condition_holds first_from times
records-513 = refl

records-512 : variation_in (records 511) ≡ Some 511
unfolding variation_in nth_holding set_holds nth_failing condition_holds first_from times
records-512 = refl

-- of 1025 substitutions the last, of feature 7, isn't found; the last but one is
abbrev substitutes : ℕ → List ℕ
substitutes before = (0 ∷ 1 ∷ 0 ∷ 0 ∷ 4 ∷ 1 ∷ []) ++ times before (0 ∷ 0 ∷ 0 ∷ 0 ∷ 0 ∷ 0 ∷ []) ++ (0 ∷ 7 ∷ 0 ∷ 0 ∷ 0 ∷ 0 ∷ [])

substitutes-1025 : substitute_in (substitutes 1024) 7 ≡ None
unfolding substitute_in nth_substitute first_from times
substitutes-1025 = refl

substitutes-1024 : substitute_in (substitutes 1023) 7 ≡ Some 1023
unfolding substitute_in nth_substitute first_from times
substitutes-1024 = refl
