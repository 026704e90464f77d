-- The heads of a set's rules, and the sets of a context, as far as they are read.
use Rattle.std.proofs.Common.{ℕ, ◌≡◌, Bool, List, length}
use Rattle.opentype_layout.specs.ContextTables.{AreSetsOfRules}
use Rattle.opentype_layout.specs.RuleHeads.{AreRuleHeads, SetOfRules}
use Rattle.opentype_layout.specs.declared.rule_heads.RuleHead.{RuleHead}

pub record AreRuleHeadsListed (chained : Bool) (set : List ℕ) (heads : List RuleHead) (i : ℕ) : Type 0 where
  pub len : length heads ≡ i
  pub all : AreRuleHeads chained set heads

pub record AreSetsListed (chained : Bool) (bytes : List ℕ) (sets : List SetOfRules) (i : ℕ) : Type 0 where
  pub len : length sets ≡ i
  pub all : AreSetsOfRules chained bytes sets
