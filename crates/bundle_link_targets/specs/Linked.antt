-- What linking finds, in the words of the definitions.
use Rattle.std.specs.Prelude.{ℕ, List, map}
use Rattle.bundle_rules.specs.Bundle.{externals as externals_of}
use Rattle.bundle_rules.specs.Linking.{HasExternalStar}
use Rattle.bundle_rules.specs.Program.{Program, IsReached}
use Rattle.bundle_rules.specs.Tables as r
use Rattle.bundle_rules.specs.Tables.{TellsCommonJs}
use Rattle.bundle_link_index.specs.Leads.{flagged}
use Rattle.bundle_link_index.specs.Outside.{IsIndexOf}
use Rattle.bundle_link_index.specs.Says.{target_of}
use Rattle.bundle_link_targets.specs.Judged.{IsStageJudged}
use Rattle.bundle_link_targets.specs.Found.{HoldsMeant, targets_in}
use Rattle.bundle_link_targets.specs.Handed.{AreExternalsOf, AreLoadsIn, HoldsLinked, HoldsMeanings}
use Rattle.bundle_link_targets.specs.Lists.{list_in}
use Rattle.bundle_link_targets.specs.Symbols.{AreSymbols}
use Rattle.bundle_link_targets.specs.Taken.{PicksThose}
use Rattle.bundle_link_targets.specs.Meant.{AreModules}
use Rattle.bundle_link_targets.specs.declared.linking.Linking.{Linking}
use Rattle.bundle_link_targets.specs.declared.linking.Outside.{Outside}
use Rattle.bundle_link_targets.specs.declared.target.ResolvedTo.{ResolvedTo}
use Rattle.bundle_link_targets.specs.declared.target.ResolvedTo.TheVariants as f

-- what a name resolves to
abbrev pub found_says : ResolvedTo → r.Resolution
found_says (f.One target) = r.One (target_of target)
found_says f.None = r.Nothing
found_says (f.Two first second) = r.Two (target_of first) (target_of second)
found_says f.ExternalStar = r.ExternalStar

-- the modules that are linked are those of the program: what names are given, which modules are
-- CommonJS, what is meant, what uses mean, and which names are linked
pub record IsLinkingOf (p : Program) (linking : Linking) : Type 0 where
  pub index : IsIndexOf p linking.index
  pub common_js : (c : ℕ) → TellsCommonJs p c (flagged linking.common_js.items c)
  pub meant : AreModules p → HoldsMeant p (targets_in linking.meant.targets)
  pub meanings : HoldsMeanings p linking.meant.meanings.items
  pub linked : AreModules p → HoldsLinked p linking.meant.linked.items

-- the faults that are told are the first of the listed modules: of the calls of `require`, and of
-- what is judged after the declarations
pub record IsJudgedBy (p : Program) (list : List ℕ) (linking : Linking) : Type 0 where
  pub calls : IsStageJudged p list 0 2 linking.call_fault
  pub links : AreModules p → IsStageJudged p list 3 9 linking.link_fault

-- what is taken of externals and CommonJS modules, where the modules stand in this list
pub record HandsOut (p : Program) (list : List ℕ) (outside : Outside) : Type 0 where
  pub externals : AreExternalsOf p list outside.externals.items
  pub loads : (m : ℕ) → IsReached p m → AreLoadsIn p m (list_in outside.loads.items m)
  pub symbols : AreSymbols p list outside.symbols
  pub stars :
      PicksThose (HasExternalStar p p.entry) (externals_of p list)
      (map (λ star. star.now) outside.external_stars.items)

-- the same of a linking
abbrev pub HandsOver : Program → List ℕ → Linking → Type 0
HandsOver p list linking = HandsOut p list linking.outside
